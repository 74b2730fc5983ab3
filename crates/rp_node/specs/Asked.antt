-- What a collect asks of the buffer end.
use Rattle.std.specs.Prelude.{ℕ, List, Option, None, Some}
use Rattle.rp_base.specs.Kept.{Kept}
use Rattle.rp_base.specs.declared.items.Item.{Item}
use Rattle.rp_replica.specs.declared.plans.ReplicaPlan.{ReplicaPlan}
use Rattle.rp_replica.specs.declared.plans.ReplicaPlan.TheVariants.{Collects}
use Rattle.rp_node.specs.declared.cores.Core.{Core}
use Rattle.rp_node.specs.Cores.{node_of}
use Rattle.rp_node.specs.Steps.{Held, IsLeft}

-- a node and its buffer end
abbrev pub held : {B : Type 0} → Core → B → Held B
held c end = record { node = node_of c; end = end }

-- the end is asked for what a plan takes; without a plan nothing is asked
abbrev pub Asked : {B : Type 0} → (gives : B → ℕ → List Item → B → Type 0)
    → Option ReplicaPlan → (old : B) → (range : ℕ) → (taken : List Item) → (new : B) → Type 0
Asked gives None old range taken new = IsLeft old taken new
Asked gives (Some p) old range taken new = gives old range taken new

-- the plan of a collect with what the end gave
abbrev pub filled : Option ReplicaPlan → Kept Item → Option ReplicaPlan
filled None taken = None
filled (Some p) taken = Some (Collects taken)
