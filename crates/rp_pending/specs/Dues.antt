-- What is read of a proposal: its maximum and id where a refresh concerns it, its id, and how far it
-- has come.
use Rattle.std.specs.Prelude.{ℕ, Bool, if◌then◌else◌, Option, None, Some}
use Rattle.rp_base.specs.declared.ids.CmdId.{CmdId}
use Rattle.rp_pending.specs.declared.proposals.Proposal.{Proposal}
use Rattle.rp_pending.specs.declared.proposals.Standing.{Standing}
use Rattle.rp_pending.specs.declared.refreshes.Due.{Due}
use Rattle.rp_pending.specs.Refreshes.{goes_again, goes_back}

abbrev pub due : Proposal → Due
due p = record { max = p.max; id = p.id }

abbrev pub back_due : ℕ → Proposal → Option Due
back_due lai p = if goes_back lai p then Some (due p) else None

abbrev pub again_due : ℕ → ℕ → Bool → Proposal → Option Due
again_due lai now all p = if goes_again lai now all p then Some (due p) else None

abbrev pub id_of : Proposal → Option CmdId
id_of p = Some p.id

-- how far a proposal has come
abbrev pub standing : Proposal → Standing
standing p = record { id = p.id; max = p.max; stage = p.stage }

abbrev pub standing_of : Proposal → Option Standing
standing_of p = Some (standing p)
