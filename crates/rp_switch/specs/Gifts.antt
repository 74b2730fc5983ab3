-- What a seat may give back of a node that it took (this project).
use Rattle.std.specs.Prelude.{◌≡◌, ℕ, suc, ◌+◌, ◌-◌, Bool, true, false, not, ◌==◌, if◌then◌else◌, List, [], ◌∷◌, drop, length, slice_get, Some}
use Rattle.rp_events.specs.declared.answers.EventAnswer.{EventAnswer}
use Rattle.rp_events.specs.declared.journals.JournalEntry.{JournalEntry}
use Rattle.rp_events.specs.declared.journals.PastEvent.{PastEvent}
use Rattle.rp_events.specs.declared.journals.PastEvent.TheVariants.{Admit}
use Rattle.rp_events.specs.Nodes.{Node}
use Rattle.rp_events.specs.Worlds as worlds
use Rattle.rp_events.specs.Worlds.{World, Happening}
use Rattle.rp_clients.specs.Tries.{Try}
use Rattle.rp_race.specs.Rounds.{Stage, between, delivering, flushing, collected, applying, broken, stage_of}
use Rattle.rp_race.specs.Gives.{Tried, AllMayTry, IsPart, MayEnd, admitted_after, after_round, end_by}
use Rattle.rp_switch.specs.Views.{Right, Lacks, Tries, Rounds, BrokenOff, Stage as Standing, Idle, HasNode, HasCell, Chooses, Knowledge, right_at}

-- what a journal has behind its front of this length
abbrev pub entries_since : (before after : Node) → List JournalEntry
entries_since before after = drop (length before.journal) after.journal

-- an admission by the client, as a try at this node behind so many rounds, stands before its other tries
abbrev pub with_admission : (node rounds client : ℕ) → EventAnswer → PastEvent → List Try → List Try
with_admission node rounds client answer (Admit range id place) ts =
    if client == id.client
    then record { id = id; node = node; range = range; rounds = rounds; end = end_by answer } ∷ ts
    else ts
with_admission node rounds client answer _ ts = ts

abbrev pub tries_by : (node rounds client : ℕ) → List JournalEntry → List Try → List Try
tries_by node rounds client [] ts = ts
tries_by node rounds client (e ∷ es) ts =
    tries_by node rounds client es (with_admission node rounds client e.answer e.event ts)

-- a client's tries with those that a node's journal has since
abbrev pub tries_given : (node client : ℕ) → (before after : Node) → List Try → List Try
tries_given node client before after ts = tries_by node before.rounds client (entries_since before after) ts

-- the node's last round was not ended
abbrev pub is_between : Stage → Bool
is_between between = true
is_between (delivering from) = false
is_between (flushing ranges) = false
is_between (collected ranges range) = false
is_between applying = false
is_between broken = false

abbrev pub is_broken_off : Node → Bool
is_broken_off n = not (is_between (stage_of n.journal))

-- the tries of a client whose right is carried
abbrev pub tries_in : Right → List Try
tries_in Lacks = []
tries_in (Tries ts) = ts
tries_in Rounds = []
tries_in BrokenOff = []

-- the tries that a seat knows of
abbrev pub tries_known : Knowledge → Tried
tries_known v = λ client. tries_in (right_at v.rights (v.terms.nodes + client - 1))

abbrev pub IsTries : Right → Type 0
IsTries Lacks = ⊥
IsTries (Tries ts) = Unit {0}
IsTries Rounds = ⊥
IsTries BrokenOff = ⊥

-- the seat carries the right of this client
abbrev pub CarriesClient : Knowledge → (client : ℕ) → Type 0
CarriesClient v client = IsTries (right_at v.rights (v.terms.nodes + client - 1))

-- the rights of all clients that are admitted in these
abbrev pub CarriesAll : Knowledge → List Happening → Type 0
CarriesAll v [] = Unit {0}
CarriesAll v (worlds.Admit range id request ∷ xs) = CarriesClient v id.client × CarriesAll v xs
CarriesAll v (x ∷ xs) = CarriesAll v xs

-- admissions, each the next try of a client whose right the seat carries, or nothing
pub record AreAdmissions (v : Knowledge) (place : ℕ) (before after : Node) : Type 0 where
  pub what : List Happening
  pub may : AllMayTry v.terms.rules v.terms.nodes (suc place) before (tries_known v) what
  pub carries : CarriesAll v what
  pub leaves : after ≡ admitted_after before what

-- a whole round of a node whose right to rounds the seat carries
pub record IsRound (v : Knowledge) (place : ℕ) (at : World) (after : Node) : Type 0 where
  pub carries : right_at v.rights place ≡ Rounds
  pub what : List Happening
  pub inside : Node
  pub part : IsPart v.terms.rules (suc place) at v.seen what inside
  pub may_end : MayEnd v.terms.rules (suc place) v.seen inside
  pub leaves : after ≡ after_round inside

-- a round that was broken off
pub record IsBrokenRound (v : Knowledge) (place : ℕ) (at : World) (after : Node) : Type 0 where
  pub carries : right_at v.rights place ≡ Rounds
  pub what : List Happening
  pub part : IsPart v.terms.rules (suc place) at v.seen what after

pub data IsGift (v : Knowledge) (place : ℕ) (at : World) (before after : Node) : Type 0 where
  admissions : AreAdmissions v place before after → IsGift v place at before after
  whole : IsRound v place at after → IsGift v place at before after
  broken_off : IsBrokenRound v place at after → IsGift v place at before after

-- the node as the seat took it
pub record Gives (v : Knowledge) (place : ℕ) (at : World) (after : Node) : Type 0 where
  pub before : Node
  pub took : slice_get v.seen place ≡ Some before
  pub gift : IsGift v place at before after

-- the seat may give this back as the node of this number: it has that node
abbrev pub MayGive : Knowledge → Standing → (number : ℕ) → Node → Type 0
MayGive v Idle number after = ⊥
MayGive v (HasNode place at) number after = (number ≡ suc place) × Gives v place at after
MayGive v (HasCell place) number after = ⊥
MayGive v (Chooses choice) number after = ⊥
