-- Nodes with several ranges and one list of what they sent; and what one range sees of them.
use Rattle.std.specs.Prelude.{◌≡◌, ℕ, zero, suc, Option, None, List, [], ◌∷◌, ◌++◌, map, take, replicate, slice_get, slice_index_or, slice_set, count_by, ◌==◌, if◌then◌else◌}
use Rattle.std.specs.Option.{option_map_or}
use Rattle.rp_raftstep.specs.declared.messages.Message.{Message}
use Rattle.rp_raftsafe.specs.World.{Range, Status, Absent, Turn, acts, gets, Action, Site, World, Event, Acts, Comes, run, nowhere}

-- a message that a node has sent, with the range that it belongs to
pub record Parcel (S : Type 0) : Type 0 where
  pub range : ℕ
  pub to : ℕ
  pub message : Message S

-- a node: what it has of each range, and all that it sent
pub record Host (S : Type 0) : Type 0 where
  pub statuses : ℕ → Status S
  pub sent : List (Parcel S)

-- the nodes 1, 2, ..
abbrev pub Hosts : Type 0 → Type 0
Hosts S = List (Host S)

abbrev pub no_host : {S : Type 0} → Host S
no_host = record { statuses = λ range. Absent; sent = [] }

abbrev pub host : {S : Type 0} → Hosts S → ℕ → Host S
host w zero = no_host
host w (suc place) = slice_index_or w place no_host

abbrev pub with_host : {S : Type 0} → Hosts S → ℕ → Host S → Hosts S
with_host w zero new = w
with_host w (suc place) new = slice_set w place new

-- messages of a range as parcels
abbrev pub parcels : {S : Type 0} → ℕ → List (ℕ × Message S) → List (Parcel S)
parcels range sends = map (λ sent. record { range = range; to = sent.0; message = sent.1 }) sends

-- a node after a turn of one range
abbrev pub turned : {S : Type 0} → Host S → ℕ → Turn S → Host S
turned old range turn = record {
  statuses = λ r. if r == range then turn.status else old.statuses r;
  sent = old.sent ++ parcels range turn.sends;
}

-- the parcel with this number, from 1
abbrev pub parcel_of : {S : Type 0} → Host S → ℕ → Option (Parcel S)
parcel_of sender zero = None
parcel_of sender (suc place) = slice_get sender.sent place

-- what may happen next: an action of a range at a node, or a parcel comes
pub data ManyEvent : Type 0 where
  ActsIn : (range node : ℕ) → Action → ManyEvent
  ComesIn : (from number : ℕ) → List (List ℕ) → ManyEvent

abbrev pub parcel_comes : {S : Type 0} → (ℕ → Range S) → Hosts S → ℕ → List (List ℕ) → Parcel S → Hosts S
parcel_comes ranges w from again p =
    with_host w p.to (turned (host w p.to) p.range (gets (ranges p.range) p.to from p.message again ((host w p.to).statuses p.range)))

abbrev pub happens_in : {S : Type 0} → (ℕ → Range S) → Hosts S → ManyEvent → Hosts S
happens_in ranges w (ActsIn range node action) =
    with_host w node (turned (host w node) range (acts (ranges range) node action ((host w node).statuses range)))
happens_in ranges w (ComesIn from number again) = option_map_or (parcel_comes ranges w from again) (parcel_of (host w from) number) w

abbrev pub run_in : {S : Type 0} → (ℕ → Range S) → List ManyEvent → Hosts S → Hosts S
run_in ranges [] w = w
run_in ranges (event ∷ events) w = run_in ranges events (happens_in ranges w event)

-- what a node has sent of one range
abbrev pub sent_of : {S : Type 0} → ℕ → List (Parcel S) → List (ℕ × Message S)
sent_of range [] = []
sent_of range (p ∷ ps) = if p.range == range then (p.to, p.message) ∷ sent_of range ps else sent_of range ps

-- the number, among those of its range, of a parcel with this number
abbrev pub number_in : {S : Type 0} → ℕ → List (Parcel S) → ℕ → ℕ
number_in range sent number = count_by (λ p. p.range == range) (take number sent)

-- what one range sees of a node, and of the nodes
abbrev pub view_host : {S : Type 0} → ℕ → Host S → Site S
view_host range h = record { status = h.statuses range; sent = sent_of range h.sent }

abbrev pub view : {S : Type 0} → ℕ → Hosts S → World S
view range w = map (view_host range) w

-- what one range sees of an event: its own event, or nothing
abbrev pub sees_parcel : {S : Type 0} → ℕ → Hosts S → ℕ → ℕ → List (List ℕ) → Parcel S → List Event
sees_parcel range w from number again p = if p.range == range then Comes from (number_in range (host w from).sent number) again ∷ [] else []

abbrev pub sees : {S : Type 0} → ℕ → Hosts S → ManyEvent → List Event
sees range w (ActsIn r node action) = if r == range then Acts node action ∷ [] else []
sees range w (ComesIn from number again) = option_map_or (sees_parcel range w from number again) (parcel_of (host w from) number) []

-- what one range sees of a schedule
abbrev pub sees_all : {S : Type 0} → (ℕ → Range S) → ℕ → List ManyEvent → Hosts S → List Event
sees_all ranges range [] w = []
sees_all ranges range (event ∷ events) w = sees range w event ++ sees_all ranges range events (happens_in ranges w event)

-- what one range sees of the nodes after a schedule is its own world after what it sees of the schedule
abbrev pub SeesOwn : Type 0 → Type 0
SeesOwn S =
    (ranges : ℕ → Range S) (w : Hosts S) (events : List ManyEvent) (range : ℕ)
    → view range (run_in ranges events w) ≡ run (ranges range) (sees_all ranges range events w) (view range w)

-- nodes that have no range yet are a range's world at its start
abbrev pub StartsNowhere : Type 0 → Type 0
StartsNowhere S = (g : Range S) (range : ℕ) → view range (replicate g.nodes (no_host {S = S})) ≡ nowhere g
