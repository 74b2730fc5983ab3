-- The two lists that a collect fills.
use Rattle.std.specs.Prelude.{◌≡◌, ◌≤◌, [], length}
use Rattle.rp_base.specs.Kept.{Kept}
use Rattle.rp_base.specs.Limits.{buffer_capacity}
use Rattle.rp_base.specs.declared.items.Item.{Item}

-- both are empty, and have room for all that a buffer gives at once
pub record AreReady (taken kept : Kept Item) : Type 0 where
  pub taken_empty : taken.list ≡ []
  pub kept_empty : kept.list ≡ []
  pub taken_room : buffer_capacity ≤ taken.spare
  pub kept_room : buffer_capacity ≤ kept.spare

-- the one holds what a buffer gave at once, and the other has room for a copy
pub record AreFilled (taken kept : Kept Item) : Type 0 where
  pub few : length taken.list ≤ buffer_capacity
  pub kept_empty : kept.list ≡ []
  pub kept_room : buffer_capacity ≤ kept.spare
