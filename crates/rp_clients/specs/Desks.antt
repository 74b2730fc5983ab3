-- What a client's desk stands for, and what each call at it makes of that (this project).
use Rattle.std.specs.Prelude.{◌≡◌, ◌≢◌, ℕ, ◌+◌, ◌-◌, ◌<◌, ◌≤◌, max, Bool, true, false, List, [], ◌∷◌, All, Option, None, Some, Result, Ok, Err}
use Rattle.rp_base.specs.declared.ids.CmdId.{CmdId}
use Rattle.rp_request.specs.declared.requests.Request.{Request}
use Rattle.rp_request.specs.declared.outcomes.Outcome.{Outcome}
use Rattle.rp_request.specs.declared.outcomes.Outcome.TheVariants.{Success, Refused, Ambiguous, Pending}
use Rattle.rp_router.specs.Hints.{NamesNode}
use Rattle.rp_quota.specs.declared.faults.QuotaFault.{QuotaFault}
use Rattle.rp_quota.specs.declared.faults.QuotaFault.TheVariants.{Low, Raced}
use Rattle.rp_clients.specs.declared.answers.AdmitFault.{AdmitFault}
use Rattle.rp_clients.specs.declared.answers.AdmitFault.TheVariants as fault
use Rattle.rp_clients.specs.declared.answers.Answer.{Answer}
use Rattle.rp_clients.specs.declared.answers.Answer.TheVariants as answer
use Rattle.rp_clients.specs.declared.answers.Empty.{Empty}
use Rattle.rp_clients.specs.Tries.{Try, MayCome, GoneOn, learns, units_of}

-- the client's tries, the latest first; the greatest number of rounds that was told of each node;
-- the client, the number of nodes and the requests; whether the desk said that all is over, and
-- whether it said that memory was refused; whether the latest try's command stands in a buffer; the
-- capacity of the quota, and the units that the client holds
pub record Standing : Type 0 where
  pub tries : List Try
  pub told : ℕ → ℕ
  pub client : ℕ
  pub nodes : ℕ
  pub requests : List Request
  pub is_over : Bool
  pub is_short : Bool
  pub is_put : Bool
  pub capacity : ℕ
  pub held : ℕ

-- a desk of this client, of so many nodes, these requests and this quota
pub record IsDeskOf (client nodes : ℕ) (requests : List Request) (capacity : ℕ) (s : Standing) : Type 0 where
  pub client_is : s.client ≡ client
  pub nodes_are : s.nodes ≡ nodes
  pub requests_are : s.requests ≡ requests
  pub capacity_is : s.capacity ≡ capacity

-- a client goes on until it was told that all is over or that memory was refused
pub record GoesOn (s : Standing) : Type 0 where
  pub not_over : s.is_over ≡ false
  pub not_short : s.is_short ≡ false

-- a number of rounds is told of a node, and nothing else changes
pub record Tells (node rounds : ℕ) (old new : Standing) : Type 0 where
  pub here : new.told node ≡ max (old.told node) rounds
  pub elsewhere : (n : ℕ) → n ≢ node → new.told n ≡ old.told n
  pub rest : new ≡ record old { told = new.told }

-- the tries at a node came when it had at most so many rounds
abbrev pub CameBy : (node rounds : ℕ) → List Try → Type 0
CameBy node rounds tries = All (λ (t : Try). t.node ≡ node → t.rounds ≤ rounds) tries

-- what an admission asks: the try is the one that may come; since each earlier try of the command
-- at that node the node had a further round, as was told; and the client holds the request's units
pub record MayAdmit (node range : ℕ) (id : CmdId) (request : Request) (s : Standing) : Type 0 where
  pub goes_on : GoesOn s
  pub may : MayCome s.client s.nodes s.requests s.tries node range id request
  pub gone_on : GoneOn id.seq node (s.told node) s.tries
  pub units : units_of s.capacity request ≤ s.held

-- a try at a node that has so many rounds, with its end as far as it is known
abbrev pub tried : (node range rounds : ℕ) → CmdId → Option Outcome → Standing → Standing
tried node range rounds id end s = record s {
  tries = (record { id = id; node = node; range = range; rounds = rounds; end = end }) ∷ s.tries;
  is_put = false;
}

-- an admission adds the try, with no end where it is admitted, with its refusal else; want of
-- memory adds none
abbrev pub after_admit : (node range rounds : ℕ) → CmdId → Result (Unit {0}) AdmitFault
    → Standing → Standing
after_admit node range rounds id (Ok done) s = tried node range rounds id None s
after_admit node range rounds id (Err (fault.Refused refusal)) s =
    tried node range rounds id (Some (Refused refusal)) s
after_admit node range rounds id (Err fault.NoMemory) s = record s { is_short = true }

-- the latest try is this one, and its end is not known
abbrev pub IsOut : (node range : ℕ) → CmdId → List Try → Type 0
IsOut node range id [] = ⊥
IsOut node range id (t ∷ older) =
    (t.id ≡ id) × (t.node ≡ node) × (t.range ≡ range) × (t.end ≡ None)

-- what a put asks: the command was admitted there, its end is not known, and it was not put yet
pub record MayPut (node range : ℕ) (id : CmdId) (s : Standing) : Type 0 where
  pub goes_on : GoesOn s
  pub out : IsOut node range id s.tries
  pub once : s.is_put ≡ false

-- what is fetched: an end is learnt, all is over, or memory was refused; else nothing changes
abbrev pub after_fetch : Result Answer Empty → Standing → Standing
after_fetch (Ok (answer.Ended id outcome)) s = record s { tries = learns id outcome s.tries }
after_fetch (Ok answer.Over) s = record s { is_over = true }
after_fetch (Ok answer.NoMemory) s = record s { is_short = true }
after_fetch (Err empty) s = s

-- units are had, or not
abbrev pub after_reserve : ℕ → Result (Unit {0}) QuotaFault → Standing → Standing
after_reserve units (Ok done) s = record s { held = s.held + units }
after_reserve units (Err why) s = s

abbrev pub after_release : ℕ → Standing → Standing
after_release units s = record s { held = s.held - units }

-- why units were not had: too few were free, or enough, and another share changed them in between
abbrev pub Shows : ℕ → QuotaFault → Type 0
Shows units (Low free) = free < units
Shows units (Raced loaded seen) = (units ≤ loaded) × (seen ≢ loaded)

-- an end that is told is one, and where it names a holder of the lease, that is a node
abbrev pub IsEnd : ℕ → Outcome → Type 0
IsEnd nodes Pending = ⊥
IsEnd nodes (Refused refusal) = NamesNode nodes refusal
IsEnd nodes (Success reply) = Unit {0}
IsEnd nodes (Ambiguous why) = Unit {0}

abbrev pub TellsEnd : ℕ → Answer → Type 0
TellsEnd nodes (answer.Ended id outcome) = IsEnd nodes outcome
TellsEnd nodes answer.Over = Unit {0}
TellsEnd nodes answer.NoMemory = Unit {0}

-- a refusal at admission names a node, too
abbrev pub RefusesBy : ℕ → AdmitFault → Type 0
RefusesBy nodes (fault.Refused refusal) = NamesNode nodes refusal
RefusesBy nodes fault.NoMemory = Unit {0}
