-- How often a flush gives a command an index, and how often it refuses it.
use Rattle.std.specs.Prelude.{ℕ, Bool, List, count_by}
use Rattle.std.specs.List.{list_any}
use Rattle.rp_base.specs.Ids.{same_id}
use Rattle.rp_base.specs.declared.ids.CmdId.{CmdId}
use Rattle.rp_flush.specs.declared.assigns.Assigned.{Assigned}

-- whether a command stands in a list
abbrev pub stands : CmdId → List CmdId → Bool
stands id ids = list_any (λ other. same_id other id) ids

-- how often it stands there
abbrev pub times : CmdId → List CmdId → ℕ
times id ids = count_by (λ other. same_id other id) ids

-- how often it is given an index
abbrev pub times_given : CmdId → Assigned → ℕ
times_given id a = count_by (λ write. same_id write.0 id) a.writes

-- how often it is refused
abbrev pub times_refused : CmdId → Assigned → ℕ
times_refused id a = times id a.refused
