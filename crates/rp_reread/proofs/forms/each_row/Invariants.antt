use Rattle.std.proofs.Common.{◌≡◌, ◌++◌, map, drop}
use Rattle.std.specs.Prelude.{option_map}
use Rattle.serde_json.specs.View.{view}
use Rattle.rp_reread.specs.Forms.{each, row_of}
use Rattle.rp_reread.proofs.forms.each_row.Given as goal

-- what was read, with what is left, is all of it
abbrev pub invariant-loop-value : goal.invariant-loop-value
invariant-loop-value l =
    option_map (λ rest. l.found.items ++ rest) (each row_of (map view (drop l.value-index l.values))) ≡ each row_of (map view l.values)
