-- How what a client's seat knows goes on, call by call (this project).
use Rattle.std.specs.Prelude.{◌≡◌, ◌≢◌, ℕ, ◌+◌, ◌-◌, ◌≤◌, Bool, true, false, ◌&&◌, nat_le, List, ◌∷◌, slice_get, slice_index_or, IfOk, IfErr, Option, None, Some, Result, Ok, Err}
use Rattle.std.specs.List.{list_any, list_all}
use Rattle.std.specs.Option.{option_map_or}
use Rattle.rp_base.specs.declared.ids.CmdId.{CmdId}
use Rattle.rp_base.specs.declared.memory.NoMemory.{NoMemory}
use Rattle.rp_request.specs.declared.requests.Request.{Request}
use Rattle.rp_events.specs.declared.answers.EventAnswer.{EventAnswer}
use Rattle.rp_events.specs.declared.answers.EventAnswer.TheVariants as answers
use Rattle.rp_clients.specs.declared.answers.AdmitFault.{AdmitFault}
use Rattle.rp_clients.specs.declared.answers.AdmitFault.TheVariants as fault
use Rattle.rp_clients.specs.declared.answers.Answer.{Answer}
use Rattle.rp_clients.specs.declared.answers.Answer.TheVariants as answer
use Rattle.rp_clients.specs.declared.answers.Empty.{Empty}
use Rattle.rp_clients.specs.Desks.{CameBy, RefusesBy, TellsEnd}
use Rattle.rp_clients.specs.Tries.{Try, MayCome, GoneOn, learns}
use Rattle.rp_request.specs.declared.outcomes.Outcome.{Outcome}
use Rattle.rp_request.specs.declared.outcomes.Outcome.TheVariants.{Refused}
use Rattle.rp_request.specs.declared.outcomes.Refusal.{Refusal}
use Rattle.rp_request.specs.declared.outcomes.Refusal.TheVariants.{NotLeaseHolder}
use Rattle.rp_events.specs.Nodes.{Node}
use Rattle.rp_events.specs.Worlds.{World}
use Rattle.rp_race.specs.Ends.{patience}
use Rattle.rp_race.specs.Played.{requests_of}
use Rattle.rp_switch.specs.Gifts.{tries_known}
use Rattle.rp_switch.specs.Views.{Right, Lacks, Tries, Rounds, BrokenOff, Stage, Idle, HasNode, HasCell, Chooses, Knowledge, right_at}

-- a node's rounds as the seat saw it last
abbrev pub rounds_seen : World → (node : ℕ) → ℕ
rounds_seen seen node = option_map_or (λ (n : Node). n.rounds) (slice_get seen (node - 1)) 0

abbrev pub is_lacking : Right → Bool
is_lacking Lacks = true
is_lacking (Tries ts) = false
is_lacking Rounds = false
is_lacking BrokenOff = false

abbrev pub has_tries : Right → Bool
has_tries Lacks = false
has_tries (Tries ts) = true
has_tries Rounds = false
has_tries BrokenOff = false

abbrev pub is_idle : Stage → Bool
is_idle Idle = true
is_idle (HasNode place at) = false
is_idle (HasCell place) = false
is_idle (Chooses choice) = false

-- the seat carries the right of this client
abbrev pub carries : Knowledge → (client : ℕ) → Bool
carries v client = has_tries (right_at v.rights (v.terms.nodes + client - 1))

-- where a refusal names another holder of the lease, it is one of so many nodes
abbrev pub names_node : (nodes : ℕ) → Refusal → Bool
names_node nodes (NotLeaseHolder lease) = nat_le lease.holder nodes
names_node nodes _ = true

abbrev pub is_named : (nodes : ℕ) → Option Outcome → Bool
is_named nodes (Some (Refused refusal)) = names_node nodes refusal
is_named nodes _ = true

-- so does each refusal that ended a try
abbrev pub all_named : (nodes : ℕ) → List Try → Bool
all_named nodes tries = list_all (λ (t : Try). is_named nodes t.end) tries

-- each of these nodes has had so many rounds, and so long an attempt of one of them was pending
abbrev pub is_waited_out : (rounds : ℕ) → World → Bool
is_waited_out rounds w =
    list_all (λ (n : Node). nat_le rounds n.rounds) w && list_any (λ (n : Node). nat_le rounds n.waited) w

-- the seat heard of nodes, as they were at some time, that were waited for to the end
abbrev pub heard_over : Knowledge → Bool
heard_over v = list_any (is_waited_out (patience v.terms.rules)) v.joined

-- The seat of a client goes on: it is made for the same, has as many parts, no slot, the client's right,
-- and no right that it lacked. No node, as it saw it last, has fewer rounds, and what it heard stays.
pub record IsOnward (client : ℕ) (v w : Knowledge) : Type 0 where
  pub terms : w.terms ≡ v.terms
  pub parts : w.parts ≡ v.parts
  pub idle : is_idle w.stage ≡ true
  pub carries : carries w client ≡ true
  pub lacks : (k : ℕ) → is_lacking (right_at v.rights k) ≡ true → is_lacking (right_at w.rights k) ≡ true
  pub rounds : (node : ℕ) → rounds_seen v.seen node ≤ rounds_seen w.seen node
  pub heard : heard_over v ≡ true → heard_over w ≡ true

-- and nothing was tried or learnt
pub record Stays (client : ℕ) (v w : Knowledge) : Type 0 where
  pub onward : IsOnward client v w
  pub tries : tries_known w client ≡ tries_known v client

-- a look at a node tells its rounds, and the client's tries there came by then
pub record Looks (client : ℕ) (v : Knowledge) (node rounds : ℕ) (w : Knowledge) : Type 0 where
  pub stays : Stays client v w
  pub saw : rounds_seen w.seen node ≡ rounds
  pub least : CameBy node rounds (tries_known v client)

-- what an admission asks: the try is the one that may come, and since each earlier one of the command at
-- that node the node, as the seat saw it last, had a further round
pub record MayAsk (client : ℕ) (v : Knowledge) (node range : ℕ) (id : CmdId) (request : Request)
    : Type 0 where
  pub may : MayCome client v.terms.nodes (requests_of v.terms.rules client) (tries_known v client)
      node range id request
  pub gone_on : GoneOn id.seq node (rounds_seen v.seen node) (tries_known v client)

-- the tries after an admission: with this one, but at want of memory
abbrev pub tries_after : (node range rounds : ℕ) → CmdId → Result (Unit {0}) AdmitFault → List Try → List Try
tries_after node range rounds id (Ok done) ts =
    (record { id = id; node = node; range = range; rounds = rounds; end = None }) ∷ ts
tries_after node range rounds id (Err (fault.Refused refusal)) ts =
    (record { id = id; node = node; range = range; rounds = rounds; end = Some (Refused refusal) }) ∷ ts
tries_after node range rounds id (Err fault.NoMemory) ts = ts

-- what a client is told of its admission
abbrev pub answer_of : Result EventAnswer NoMemory → Result (Unit {0}) AdmitFault
answer_of (Ok (answers.Refused refusal)) = Err (fault.Refused refusal)
answer_of (Ok answers.Done) = Ok tt
answer_of (Ok answers.Nothing) = Ok tt
answer_of (Ok answers.Admitted) = Ok tt
answer_of (Ok (answers.Asked ask)) = Ok tt
answer_of (Ok (answers.LeaseHeld lease ticks)) = Ok tt
answer_of (Ok (answers.Value value applied)) = Ok tt
answer_of (Err want) = Err fault.NoMemory

-- an admission at a node that has so many rounds
pub record Admits (client : ℕ) (v : Knowledge) (node range : ℕ) (id : CmdId)
    (answer : Result (Unit {0}) AdmitFault) (w : Knowledge) : Type 0 where
  pub onward : IsOnward client v w
  pub rounds : ℕ
  pub least : rounds_seen v.seen node ≤ rounds
  pub tries : tries_known w client ≡ tries_after node range rounds id answer (tries_known v client)
  pub names : IfErr answer (RefusesBy v.terms.nodes)

-- it was admitted or refused; or, at a node that was taken or is full, nothing was done
abbrev pub MayAdmit : (client : ℕ) → Knowledge → (node range : ℕ) → CmdId
    → Option (Result (Unit {0}) AdmitFault) → Knowledge → Type 0
MayAdmit client v node range id None w = Stays client v w
MayAdmit client v node range id (Some answer) w = Admits client v node range id answer w

-- likewise the rounds were told, or the node was taken
abbrev pub MayLook : (client : ℕ) → Knowledge → (node : ℕ) → Option ℕ → Knowledge → Type 0
MayLook client v node None w = Stays client v w
MayLook client v node (Some rounds) w = Looks client v node rounds w

-- the tries after what was fetched
abbrev pub tries_told : Result Answer Empty → List Try → List Try
tries_told (Ok (answer.Ended id outcome)) ts = learns id outcome ts
tries_told (Ok answer.Over) ts = ts
tries_told (Ok answer.NoMemory) ts = ts
tries_told (Err empty) ts = ts

abbrev pub says_over : Result Answer Empty → Bool
says_over (Ok (answer.Ended id outcome)) = false
says_over (Ok answer.Over) = true
says_over (Ok answer.NoMemory) = false
says_over (Err empty) = false

-- a fetch tells the end of a try, or that all is over, which is true
pub record Hears (client : ℕ) (v : Knowledge) (fetched : Result Answer Empty) (w : Knowledge) : Type 0 where
  pub onward : IsOnward client v w
  pub tries : tries_known w client ≡ tries_told fetched (tries_known v client)
  pub ends : IfOk fetched (TellsEnd v.terms.nodes)
  pub over : says_over fetched ≡ true → heard_over w ≡ true
