-- What a seat of a switch knows (this project).
use Rattle.std.specs.Prelude.{ℕ, suc, ◌+◌, ◌-◌, Bool, true, false, not, if◌then◌else◌, ◌==◌, ◌%◌, ◌&&◌, nat_lt, List, [], ◌∷◌, ◌++◌, slice_index_or, slice_set}
use Rattle.rp_base.specs.declared.ids.CmdId.{CmdId}
use Rattle.rp_request.specs.declared.outcomes.Outcome.{Outcome}
use Rattle.rp_clients.specs.Tries.{Try, learns}
use Rattle.rp_clients.specs.declared.answers.Answer.{Answer}
use Rattle.rp_clients.specs.declared.answers.Answer.TheVariants as answers
use Rattle.rp_events.specs.Nodes.{Node}
use Rattle.rp_events.specs.Worlds.{World}
use Rattle.rp_switch.specs.declared.terms.Terms.{Terms}

-- A right of which there is one: a client's to be admitted, with its tries, the latest first; and a
-- node's to play rounds, which is broken off for good where a round was.
pub data Right : Type 0 where
  Lacks : Right
  Tries : List Try → Right
  Rounds : Right
  BrokenOff : Right

-- which rights are handed over: a client's, or those of the rounds of the nodes that a worker serves
pub data Choice : Type 0 where
  OfClient : (client : ℕ) → Choice
  OfWorker : (worker workers : ℕ) → Choice

-- Where a seat stands between two steps: it has no slot; it has the slot of the node with this place,
-- from 0, which it took from this world; it has the slot of a client's cell, by its place, from 0; it is
-- to hand rights over.
pub data Stage : Type 0 where
  Idle : Stage
  HasNode : (place : ℕ) → (at : World) → Stage
  HasCell : (place : ℕ) → Stage
  Chooses : Choice → Stage

-- what one step told: what the word with this place was as an exchange came to it, or which answer lay
-- in a client's cell when it was fetched, or was posted there
pub data Look : Type 0 where
  Found : (word found : ℕ) → Look
  Fetched : (place : ℕ) → Answer → Look
  Posted : (word : ℕ) → Answer → Look

-- what the switch is made for; the seat's parts of the right to close it; where it stands; each node as
-- it was when the seat last took it or gave it back; its rights, those of the nodes' rounds first, then those
-- of the clients; what its steps told, in order; and, besides, the worlds in which the answers were true that
-- it fetched, and what the seats had seen and heard that were joined to it
pub record Knowledge : Type 0 where
  pub terms : Terms
  pub parts : ℕ
  pub stage : Stage
  pub seen : World
  pub rights : List Right
  pub looks : List Look
  pub joined : List World

-- how many parts the first seat has. Each seat has at least one, so one with all is the only one
abbrev pub all_parts : ℕ
all_parts = 1024

-- what a seat that is spent knows
abbrev pub no_terms : Terms
no_terms = record { nodes = 0; rules = record { loss = 0; salt = 0; requests = []; transfers = [] } }

abbrev pub nothing_known : Knowledge
nothing_known = record {
  terms = no_terms;
  parts = 0;
  stage = Idle;
  seen = [];
  rights = [];
  looks = [];
  joined = [];
}

abbrev pub right_at : List Right → ℕ → Right
right_at rights k = slice_index_or rights k Lacks

-- each right by its place, from this one on
unfoldable pub by_place : (ℕ → Right → Right) → ℕ → List Right → List Right
by_place f k [] = []
by_place f k (r ∷ rs) = f k r ∷ by_place f (suc k) rs

-- whether a right is one that is chosen, by its place
abbrev pub is_chosen : (nodes : ℕ) → Stage → ℕ → Bool
is_chosen nodes (Chooses (OfClient client)) k = k == nodes + client - 1
is_chosen nodes (Chooses (OfWorker worker workers)) k = nat_lt k nodes && k % workers == worker
is_chosen nodes Idle k = false
is_chosen nodes (HasNode place at) k = false
is_chosen nodes (HasCell place) k = false

-- the rights that are chosen, and the others
abbrev pub chosen : (ℕ → Bool) → List Right → List Right
chosen p rs = by_place (λ k r. if p k then r else Lacks) 0 rs

abbrev pub others : (ℕ → Bool) → List Right → List Right
others p rs = by_place (λ k r. if p k then Lacks else r) 0 rs

-- one of two, where the other is lacking
abbrev pub either_right : Right → Right → Right
either_right Lacks r = r
either_right (Tries ts) r = Tries ts
either_right Rounds r = Rounds
either_right BrokenOff r = BrokenOff

unfoldable pub together : List Right → List Right → List Right
together [] ss = ss
together (r ∷ rs) [] = r ∷ rs
together (r ∷ rs) (s ∷ ss) = either_right r s ∷ together rs ss

-- the tries learn of an end
abbrev pub right_learns : CmdId → Outcome → Right → Right
right_learns id outcome Lacks = Lacks
right_learns id outcome (Tries ts) = Tries (learns id outcome ts)
right_learns id outcome Rounds = Rounds
right_learns id outcome BrokenOff = BrokenOff

-- an answer for the client with this right: its tries learn of an end
abbrev pub right_told : Answer → Right → Right
right_told (answers.Ended id outcome) r = right_learns id outcome r
right_told answers.Over r = r
right_told answers.NoMemory r = r

-- the rights after an answer for the one at this place
abbrev pub rights_told : Answer → (word : ℕ) → List Right → List Right
rights_told a word rs = by_place (λ k r. if k == word then right_told a r else r) 0 rs

-- what a step told is noted
abbrev pub noting : Look → Knowledge → Knowledge
noting look v = record v { looks = v.looks ++ look ∷ [] }

-- the node with this place is taken from this world
abbrev pub taking : (place : ℕ) → World → Node → Knowledge → Knowledge
taking place at n v = record v {
  stage = HasNode place at;
  seen = slice_set v.seen place n;
  looks = v.looks ++ Found place 0 ∷ [];
}

-- the cell at this place, with this word, is taken empty
abbrev pub reaching : (word place : ℕ) → Knowledge → Knowledge
reaching word place v = record v { stage = HasCell place; looks = v.looks ++ Found word 0 ∷ [] }

-- it is taken with this answer, which is true of this world
abbrev pub fetching : (word place : ℕ) → Answer → World → Knowledge → Knowledge
fetching word place a at v = record v {
  stage = HasCell place;
  rights = rights_told a word v.rights;
  looks = v.looks ++ Fetched place a ∷ [];
  joined = v.joined ++ at ∷ [];
}

abbrev pub at_rest : Knowledge → Knowledge
at_rest v = record v { stage = Idle }

-- the answer lies in the cell, which goes home
abbrev pub posting : (word : ℕ) → Answer → Knowledge → Knowledge
posting word a v = record v { stage = Idle; looks = v.looks ++ Posted word a ∷ [] }

abbrev pub choosing : Choice → Knowledge → Knowledge
choosing choice v = record v { stage = Chooses choice }

-- the seat that hands rights over, and the new one, which has one part
abbrev pub left : Knowledge → Knowledge
left v = record v {
  parts = v.parts - 1;
  stage = Idle;
  rights = others (is_chosen v.terms.nodes v.stage) v.rights;
}

abbrev pub right : Knowledge → Knowledge
right v = record v {
  parts = 1;
  stage = Idle;
  rights = chosen (is_chosen v.terms.nodes v.stage) v.rights;
  looks = [];
  joined = [];
}

-- the seat has the node with this place
abbrev pub has_node : Stage → (place : ℕ) → Bool
has_node (HasNode q at) place = q == place
has_node Idle place = false
has_node (HasCell q) place = false
has_node (Chooses choice) place = false

abbrev pub is_rounds : Right → Bool
is_rounds Lacks = false
is_rounds (Tries ts) = false
is_rounds Rounds = true
is_rounds BrokenOff = false

-- of each node what the first of two seats saw, or the other at the places that are asked for
unfoldable pub seen_by : (ℕ → Bool) → ℕ → World → World → World
seen_by p k [] ms = []
seen_by p k (n ∷ ns) [] = n ∷ ns
seen_by p k (n ∷ ns) (m ∷ ms) = (if p k then m else n) ∷ seen_by p (suc k) ns ms

-- at these the other seat may play the rounds of a node that the first does not have
abbrev pub knows_better : Knowledge → Knowledge → ℕ → Bool
knows_better v w k = is_rounds (right_at w.rights k) && not (has_node v.stage k)

-- parts and rights of two seats in one, which has seen what the first has, but the nodes whose rounds the other may
-- play, and keeps what the other had seen
abbrev pub both : Knowledge → Knowledge → Knowledge
both v w = record v {
  parts = v.parts + w.parts;
  seen = seen_by (knows_better v w) 0 v.seen w.seen;
  rights = together v.rights w.rights;
  looks = v.looks ++ w.looks;
  joined = v.joined ++ w.seen ∷ w.joined;
}
