-- Where a client stands between its steps (this project).
use Rattle.std.specs.Prelude.{◌≡◌, ℕ, ◌+◌, ◌-◌, ◌<◌, ◌≤◌, Bool, true, false, List, All, slice_get, slice_index_or, ◌&&◌, nat_lt, Option, None, Some, IsSome, Result, Ok, Err}
use Rattle.rp_base.specs.declared.memory.NoMemory.{NoMemory}
use Rattle.rp_request.specs.declared.outcomes.Outcome.{Outcome}
use Rattle.rp_request.specs.declared.outcomes.Outcome.TheVariants.{Success, Refused, Ambiguous, Pending}
use Rattle.rp_router.specs.Hints.{Known, learnt}
use Rattle.rp_clients.specs.declared.courses.Course.{Course}
use Rattle.rp_clients.specs.declared.courses.Sending.{Sending}
use Rattle.rp_clients.specs.declared.courses.Next.{Next}
use Rattle.rp_clients.specs.declared.courses.Next.TheVariants as next
use Rattle.rp_clients.specs.Tries.{Try, most_tries, tries_again, next_id, id_of, hints_of, units_of}
use Rattle.rp_clients.specs.Desks.{Standing, GoesOn}
use Rattle.rp_clients.specs.Finals.{refusals, left}

-- whose desk it is, its quota and the units that are held stay
pub record SameDesk (old new : Standing) : Type 0 where
  pub client_same : new.client ≡ old.client
  pub nodes_same : new.nodes ≡ old.nodes
  pub requests_same : new.requests ≡ old.requests
  pub capacity_same : new.capacity ≡ old.capacity
  pub held_same : new.held ≡ old.held

-- earlier commands are left as they were
abbrev pub KeepsEarlier : (seq : ℕ) → (old new : Standing) → Type 0
KeepsEarlier seq old new = (j : ℕ) → j < seq → left j new.tries ≡ left j old.tries

-- the command is the client's, and its units are held
pub record Sends (command : Sending) (s : Standing) : Type 0 where
  pub client_is : s.client ≡ command.client
  pub asked : slice_get s.requests (command.seq - 1) ≡ Some command.request
  pub units : units_of s.capacity command.request ≤ s.held

-- what an end teaches, and whether the command is tried again
abbrev pub hints_with : Known → (node range : ℕ) → Outcome → Known
hints_with k node range (Refused refusal) = learnt k node range refusal
hints_with k node range (Success reply) = k
hints_with k node range (Ambiguous why) = k
hints_with k node range Pending = k

abbrev pub is_again : (attempt : ℕ) → Outcome → Bool
is_again attempt (Refused refusal) = tries_again refusal && nat_lt attempt most_tries
is_again attempt (Success reply) = false
is_again attempt (Ambiguous why) = false
is_again attempt Pending = false

-- the ends of all tries are known
abbrev pub AllEnded : List Try → Type 0
AllEnded tries = All (λ (t : Try). IsSome t.end) tries

-- all tries are of commands below this one
abbrev pub Below : (seq : ℕ) → List Try → Type 0
Below seq tries = All (λ (t : Try). t.id.seq < seq) tries

-- the number that is kept for a node, by its place
abbrev pub last_at : List (Option ℕ) → (node : ℕ) → Option ℕ
last_at last node = slice_index_or last (node - 1) None

abbrev pub AtMost : Option ℕ → ℕ → Type 0
AtMost None rounds = ⊥
AtMost (Some last) rounds = rounds ≤ last

-- at each try of the command the node had at most as many rounds as are kept for it
abbrev pub Covers : (seq : ℕ) → List (Option ℕ) → List Try → Type 0
Covers seq last tries =
    All (λ (t : Try). t.id.seq ≡ seq → (1 ≤ t.node) × AtMost (last_at last t.node) t.rounds) tries

-- a command is about to begin
pub record Begins (seq : ℕ) (hints : Known) (s : Standing) : Type 0 where
  pub goes_on : GoesOn s
  pub next : next_id s.client s.tries ≡ Some (id_of s.client seq 1)
  pub ended : AllEnded s.tries
  pub below : Below seq s.tries
  pub hints_are : hints ≡ hints_of s.nodes s.tries

-- this try of the command may come
pub record Ready (seq attempt : ℕ) (c : Course) (s : Standing) : Type 0 where
  pub goes_on : GoesOn s
  pub next : next_id s.client s.tries ≡ Some (id_of s.client seq attempt)
  pub ended : AllEnded s.tries
  pub below : Below (seq + 1) s.tries
  pub counted : refusals seq s.tries + 1 ≡ attempt
  pub hints_are : c.hints ≡ hints_of s.nodes s.tries
  pub covers : Covers seq c.last_rounds s.tries
  pub so_far_is : c.so_far ≡ left seq s.tries

-- the command has ended
pub record HasLeft (seq : ℕ) (c : Course) (s : Standing) : Type 0 where
  pub begins : Begins (seq + 1) c.hints s
  pub so_far_is : c.so_far ≡ left seq s.tries

-- all is over, and no later command was tried
pub record IsOver (seq : ℕ) (c : Course) (s : Standing) : Type 0 where
  pub over : s.is_over ≡ true
  pub not_short : s.is_short ≡ false
  pub below : Below (seq + 1) s.tries
  pub so_far_is : c.so_far ≡ left seq s.tries

-- after a try
abbrev pub AfterTry : (seq attempt : ℕ) → Result Next NoMemory → Course → Standing → Type 0
AfterTry seq attempt (Ok next.Again) c s = Ready seq (attempt + 1) c s × (attempt < most_tries)
AfterTry seq attempt (Ok next.Ended) c s = HasLeft seq c s
AfterTry seq attempt (Ok next.Over) c s = IsOver seq c s
AfterTry seq attempt (Err want) c s = Unit {0}

-- after all tries of a command: true where all is over
abbrev pub AfterCommand : (seq : ℕ) → Result Bool NoMemory → Course → Standing → Type 0
AfterCommand seq (Ok false) c s = HasLeft seq c s
AfterCommand seq (Ok true) c s = IsOver seq c s
AfterCommand seq (Err want) c s = Unit {0}

-- the command is the client's, of this quota
pub record IsAsked (command : Sending) (capacity : ℕ) (s : Standing) : Type 0 where
  pub client_is : s.client ≡ command.client
  pub asked : slice_get s.requests (command.seq - 1) ≡ Some command.request
  pub capacity_is : s.capacity ≡ capacity

-- this command begins, or all is over before it
abbrev pub AtPlace : Bool → (seq : ℕ) → Known → Standing → Type 0
AtPlace false seq hints s = Begins seq hints s
AtPlace true seq hints s = (s.is_over ≡ true) × (s.is_short ≡ false) × Below seq s.tries
