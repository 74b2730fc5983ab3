use Rattle.std.proofs.Common.{◌≡◌, ◌≤◌, ◌+◌, ℕ, map, take, drop}
use Rattle.std.specs.Vec.{vec_len, vec_capacity}
use Rattle.rp_base.specs.declared.values.Value.{Value}
use Rattle.rp_table.proofs.places.keys_of.Given as goal

abbrev pub invariant-loop-at : goal.invariant-loop-at
invariant-loop-at l = record {
  room : l.to + vec_len l.keys ≤ vec_capacity l.keys + l.at;
  keys : l.keys.items ≡ map (λ (row : ℕ × Value). row.0) (drop l.from (take l.at l.rows.list));
}
