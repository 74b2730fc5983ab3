-- The tries of a client, as the journals have them (this project).
use Rattle.std.specs.Prelude.{◌≡◌, ℕ, zero, suc, ◌<◌, Bool, true, false, ◌==◌, List, [], ◌∷◌, length, take, slice_get, All, Option, None, Some}
use Rattle.std.specs.Option.{option_map_or}
use Rattle.rp_base.specs.declared.ids.CmdId.{CmdId}
use Rattle.rp_request.specs.declared.outcomes.Outcome.{Outcome}
use Rattle.rp_request.specs.declared.outcomes.Outcome.TheVariants.{Pending}
use Rattle.rp_request.specs.declared.requests.Request.{Request}
use Rattle.rp_events.specs.declared.answers.EventAnswer.{EventAnswer}
use Rattle.rp_events.specs.declared.journals.JournalEntry.{JournalEntry}
use Rattle.rp_events.specs.declared.journals.PastEvent.{PastEvent}
use Rattle.rp_events.specs.declared.journals.PastEvent.TheVariants.{Admit}
use Rattle.rp_events.specs.Nodes.{Node}
use Rattle.rp_events.specs.Worlds.{World, node_of, is_admission_of, outcome_at}
use Rattle.rp_events.specs.Lists.{IsWritten}
use Rattle.rp_clients.specs.Tries.{Try, MayCome}
use Rattle.rp_race.specs.declared.rules.ClientRequests.{ClientRequests}
use Rattle.rp_race.specs.declared.rules.RaceRules.{RaceRules}
use Rattle.rp_race.specs.Owed.{rounds_in}

-- the requests of a client, the first of which has the number 1; clients are numbered from 1
abbrev pub requests_of : RaceRules → (client : ℕ) → List Request
requests_of rules zero = []
requests_of rules (suc place) =
    option_map_or (λ sent. sent.requests) (slice_get rules.requests place) []

-- an end that is known of an attempt is what its node tells for good
abbrev pub IsEndAt : CmdId → Node → Option Outcome → Type 0
IsEndAt id n None = Unit {0}
IsEndAt id n (Some outcome) = (outcome_at id n ≡ Some outcome) × (outcome ≡ Pending → ⊥)

-- the journal of the try's node has its admission, for this request, granted or refused, behind so many rounds; and what
-- is known of its end is so
pub record WasTried (w : World) (t : Try) (request : Request) : Type 0 where
  pub n : Node
  pub has : node_of w t.node ≡ Some n
  pub place : ℕ
  pub at : ℕ
  pub answer : EventAnswer
  pub here : slice_get n.journal place ≡ Some (record { event = Admit t.range t.id at; answer = answer })
  pub asked : slice_get n.requests at ≡ Some request
  pub rounds : rounds_in (take place n.journal) ≡ t.rounds
  pub end : IsEndAt t.id n t.end

-- since each earlier try of the command at the node a round has ended there
abbrev pub HasRoundSince : (node rounds : ℕ) → CmdId → List Try → Type 0
HasRoundSince node rounds id older =
    All (λ (t : Try). t.id.seq ≡ id.seq → t.node ≡ node → t.rounds < rounds) older

-- behind these tries, of which the latest stands first, this one was made as a client may
pub record IsNextTry (rules : RaceRules) (w : World) (client : ℕ) (older : List Try) (t : Try)
    : Type 0 where
  pub request : Request
  pub may : MayCome client (length w) (requests_of rules client) older t.node t.range t.id request
  pub since : HasRoundSince t.node t.rounds t.id older
  pub tried : WasTried w t request

-- each try was made as a client may, behind those before it
abbrev pub AllTried : RaceRules → World → (client : ℕ) → List Try → Type 0
AllTried rules w client [] = Unit {0}
AllTried rules w client (t ∷ older) =
    IsNextTry rules w client older t × AllTried rules w client older

-- an admission of this client's
abbrev pub is_admission_by : (client : ℕ) → PastEvent → Bool
is_admission_by client (Admit range id place) = id.client == client
is_admission_by client _ = false

-- one of these tries is the one that the entry admits
pub record IsAmong (tries : List Try) (e : JournalEntry) : Type 0 where
  pub k : ℕ
  pub try_of : Try
  pub here : slice_get tries k ≡ Some try_of
  pub is : is_admission_of try_of.id e ≡ true

-- these are the client's tries in the journals, the latest first, with their ends as far as they are known: each was made
-- as a client may, and the journals have no other
pub record IsTriesOf (rules : RaceRules) (w : World) (client : ℕ) (tries : List Try) : Type 0 where
  pub each : AllTried rules w client tries
  pub all : (node place : ℕ) (e : JournalEntry) → IsWritten w node place e
      → is_admission_by client e.event ≡ true → IsAmong tries e
