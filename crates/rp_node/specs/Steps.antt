-- What an event leaves of a node and of its buffer end.
use Rattle.std.specs.Prelude.{◌≡◌, ℕ, List, []}
use Rattle.rp_base.specs.declared.items.Item.{Item}
use Rattle.rp_request.specs.Applied.{AppliedState}
use Rattle.rp_events.specs.declared.answers.EventAnswer.{EventAnswer}
use Rattle.rp_events.specs.declared.node_events.Event.{Event}
use Rattle.rp_events.specs.declared.node_events.Event.TheVariants.{Admit, Ask, Transfer, Collect, Flush, Tick, Deliver, Apply, Cut, Remove, Peek, Restart, Round}
use Rattle.rp_events.specs.Nodes.{Node, Status, Absent, Live, Removed, seat}
use Rattle.rp_events.specs.NodeEvents.{step}

-- what contracts see of a node: it, room aside, and its buffer end
pub record Held (B : Type 0) : Type 0 where
  pub node : Node
  pub end : B

-- nothing is asked of the buffer end
pub record IsLeft {B : Type 0} (old : B) (taken : List Item) (new : B) : Type 0 where
  pub nothing : taken ≡ []
  pub same : new ≡ old

-- a collect asks it where a live replica is to take what it gives
abbrev pub Collected : {B : Type 0} → (gives : B → ℕ → List Item → B → Type 0)
    → Status → B → (range : ℕ) → List Item → B → Type 0
Collected gives Absent old range taken new = IsLeft old taken new
Collected gives (Live r) old range taken new = gives old range taken new
Collected gives (Removed applied) old range taken new = IsLeft old taken new

-- and no other event asks it
abbrev pub Taken : {B : Type 0} → (gives : B → ℕ → List Item → B → Type 0)
    → Held B → Event AppliedState → List Item → B → Type 0
Taken gives h (Collect range) taken new =
    Collected gives (seat h.node range) h.end range taken new
Taken gives h (Admit range id request) taken new = IsLeft h.end taken new
Taken gives h (Ask range) taken new = IsLeft h.end taken new
Taken gives h (Transfer range to) taken new = IsLeft h.end taken new
Taken gives h (Flush range) taken new = IsLeft h.end taken new
Taken gives h Tick taken new = IsLeft h.end taken new
Taken gives h (Deliver from range number message) taken new = IsLeft h.end taken new
Taken gives h (Apply range) taken new = IsLeft h.end taken new
Taken gives h (Cut range) taken new = IsLeft h.end taken new
Taken gives h (Remove range) taken new = IsLeft h.end taken new
Taken gives h (Peek range key) taken new = IsLeft h.end taken new
Taken gives h Restart taken new = IsLeft h.end taken new
Taken gives h Round taken new = IsLeft h.end taken new

-- the event happens, with what the buffer end gave a collect
pub record Steps {B : Type 0} (gives : B → ℕ → List Item → B → Type 0)
    (old : Held B) (e : Event AppliedState) (new : Held B) (answer : EventAnswer) : Type 0 where
  pub taken : List Item
  pub gave : Taken gives old e taken new.end
  pub does : step old.node e taken ≡ record { node = new.node; answer = answer }
