-- What each step on the words of a switch tells (this project).
use Rattle.std.specs.Prelude.{◌≡◌, ◌≢◌, ℕ, suc, ◌-◌, if◌then◌else◌, ◌==◌, ◌&&◌, ◌∷◌, slice_get, slice_set, Some}
use Rattle.atomic_table.specs.Table.{Me, Step, rest}
use Rattle.rp_clients.specs.declared.answers.Answer.{Answer}
use Rattle.rp_events.specs.Nodes.{Node}
use Rattle.rp_events.specs.Worlds.{World}
use Rattle.rp_switch.specs.Gifts.{tries_given, is_broken_off}
use Rattle.rp_node.specs.Steps.{Held}
use Rattle.rp_switch.specs.declared.slots.Slot.{Slot}
use Rattle.rp_switch.specs.declared.slots.Slot.TheVariants.{Nothing, Body, Reply}
use Rattle.rp_switch.specs.Rules.{IsTrueOf, IsNow}
use Rattle.rp_switch.specs.Views.{Right, Lacks, Tries, Rounds, BrokenOff, Idle, OfClient, OfWorker, Found, Knowledge, by_place, noting, taking, reaching, fetching, posting, at_rest, choosing}

-- a seat between two steps: what it knows, and the slots that are out with it
abbrev pub Standing : Type 0 → Type 0
Standing E = Me (Slot E) Knowledge

-- the right with this place after a node with this place was given: a client's right goes on by its
-- admissions, and the right to the node's rounds is broken off where a round was
abbrev pub right_given : (nodes place : ℕ) → (before after : Node) → (k : ℕ) → Right → Right
right_given nodes place before after k Lacks = Lacks
right_given nodes place before after k (Tries ts) = Tries (tries_given (suc place) (suc (k - nodes)) before after ts)
right_given nodes place before after k Rounds = if k == place && is_broken_off after then BrokenOff else Rounds
right_given nodes place before after k BrokenOff = BrokenOff

-- the node with this place is given as it is now
abbrev pub giving : (place : ℕ) → (before after : Node) → Knowledge → Knowledge
giving place before after v = record v {
  stage = Idle;
  seen = slice_set v.seen place after;
  rights = by_place (right_given v.terms.nodes place before after) 0 v.rights;
}

-- an exchange of a node's word tells what it found; where that is 0 the seat has the node, which is that
-- of a world of which all is so that the seat knows; else it is 1
abbrev pub took : {E : Type 0} → Step (Slot E) → Standing E → ℕ → Standing E → Type 0
took s m found m' =
    (found ≡ 0 → (x : Held _) × (at : World) × IsNow m.0 at × (slice_get at s.word ≡ Some x.node)
    × (m'.0 ≡ taking s.word at x.node m.0) × (m'.1 ≡ (s.word, Body x) ∷ m.1))
    × (found ≢ 0 → (found ≡ 1) × (m'.0 ≡ noting (Found s.word found) m.0) × (m'.1 ≡ m.1))

-- the node in the slot is given, and the slot goes home
abbrev pub gave : {E : Type 0} → Step (Slot E) → Standing E → ℕ → Standing E → Type 0
gave s m found m' =
    (x : Held _) → m.1 ≡ (s.word, Body x) ∷ rest m.1
    → (before : Node) → slice_get m.0.seen s.word ≡ Some before
    → (m'.0 ≡ giving s.word before x.node m.0) × (m'.1 ≡ rest m.1)

-- an exchange of a cell's word tells what it found; where that is 0 the seat has the empty cell
abbrev pub reached : {E : Type 0} → Step (Slot E) → Standing E → ℕ → Standing E → Type 0
reached s m found m' =
    (found ≡ 0 → (m'.0 ≡ reaching s.word (s.word - m.0.terms.nodes) m.0) × (m'.1 ≡ (s.word, Nothing) ∷ m.1))
    × (found ≢ 0 → (m'.0 ≡ noting (Found s.word found) m.0) × (m'.1 ≡ m.1))

-- where it is 1 the seat has the cell with an answer that is true of such a world
abbrev pub fetched : {E : Type 0} → Step (Slot E) → Standing E → ℕ → Standing E → Type 0
fetched s m found m' =
    (found ≡ 1 → (a : Answer) × (at : World) × IsNow m.0 at
    × IsTrueOf m.0.terms at (suc (s.word - m.0.terms.nodes)) a
    × (m'.0 ≡ fetching s.word (s.word - m.0.terms.nodes) a at m.0) × (m'.1 ≡ (s.word, Reply a) ∷ m.1))
    × (found ≢ 1 → (m'.0 ≡ noting (Found s.word found) m.0) × (m'.1 ≡ m.1))

-- the cell goes home with the answer that lies in it
abbrev pub posted : {E : Type 0} → Step (Slot E) → Standing E → ℕ → Standing E → Type 0
posted s m found m' =
    (a : Answer) → m.1 ≡ (s.word, Reply a) ∷ rest m.1 → (m'.0 ≡ posting s.word a m.0) × (m'.1 ≡ rest m.1)

-- the cell goes home, empty
abbrev pub left_cell : {E : Type 0} → Step (Slot E) → Standing E → ℕ → Standing E → Type 0
left_cell s m found m' = (m'.0 ≡ at_rest m.0) × (m'.1 ≡ rest m.1)

-- which rights are handed over next: those that the operands name, which no word has
abbrev pub chose_client : {E : Type 0} → Step (Slot E) → Standing E → ℕ → Standing E → Type 0
chose_client s m found m' = (m'.0 ≡ choosing (OfClient s.second) m.0) × (m'.1 ≡ m.1)

abbrev pub chose_worker : {E : Type 0} → Step (Slot E) → Standing E → ℕ → Standing E → Type 0
chose_worker s m found m' = (m'.0 ≡ choosing (OfWorker (s.first - 2) s.second) m.0) × (m'.1 ≡ m.1)
