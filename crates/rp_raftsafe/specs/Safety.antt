-- What Raft keeps of the world of one range, after each schedule and at two times of one run.
use Rattle.std.specs.Prelude.{◌≡◌, ℕ, ◌-◌, ◌<◌, ◌≤◌, Some, List, [], ◌++◌, take, slice_get, fold, All}
use Rattle.rp_raftlog.specs.declared.entries.Entry.{Entry}
use Rattle.rp_raftlog.specs.LogState.{LogState, last_index, entry_at, term_at}
use Rattle.rp_raftstep.specs.declared.heads.Role.TheVariants.{Leader}
use Rattle.rp_raftstep.specs.declared.messages.Message.{Message}
use Rattle.rp_raftstep.specs.declared.messages.Message.TheVariants.{Append}
use Rattle.rp_raftstep.specs.Conditions.{FitsCommitted}
use Rattle.rp_raftsafe.specs.Proposed.{WasProposed, MessageCarries}
use Rattle.rp_raftsafe.specs.World.{Range, IsRange, start_term, Replica, Live, World, site, Event, world_after}

-- the node has this replica
abbrev pub IsLive : {S : Type 0} → World S → ℕ → Replica S → Type 0
IsLive w node r = (site w node).status ≡ Live r

-- the node has sent this message to that one
abbrev pub HasSent : {S : Type 0} → World S → ℕ → ℕ → Message S → Type 0
HasSent w from to message = (place : ℕ) × (slice_get (site w from).sent place ≡ Some (to, message))

-- the node leads the term
pub record Leads {S : Type 0} (w : World S) (node term : ℕ) : Type 0 where
  pub replica : Replica S
  pub live : IsLive w node replica
  pub leads : replica.raft.head.role ≡ Leader
  pub at : replica.raft.head.term ≡ term

-- at most one node is ever leader of a term (Raft 2014, section 5.2: election safety)
abbrev pub OneLeader : Type 0 → Type 0
OneLeader S = (g : Range S) → IsRange g → (early late : List Event) (p q term : ℕ) → Leads (world_after g early) p term → Leads (world_after g (early ++ late)) q term → p ≡ q

-- two logs have the same terms and entries up to an index, as far as both show them
pub record SameUpTo (l m : LogState) (index : ℕ) : Type 0 where
  pub terms : (k : ℕ) → l.base ≤ k → m.base ≤ k → k ≤ index → term_at l k ≡ term_at m k
  pub entries : (k : ℕ) → l.base < k → m.base < k → k ≤ index → entry_at l k ≡ entry_at m k

-- two logs that have one term at an index are the same up to it (Raft 2014, section 5.3: log matching)
abbrev pub LogsMatch : Type 0 → Type 0
LogsMatch S =
    (g : Range S) → IsRange g → (early late : List Event) (p q : ℕ) (r s : Replica S) → IsLive (world_after g early) p r → IsLive (world_after g (early ++ late)) q s
    → (index term : ℕ) → term_at r.raft.log index ≡ Some term → term_at s.raft.log index ≡ Some term → SameUpTo r.raft.log s.raft.log index

-- two logs are the same up to each index that both have committed (Raft 2014, section 5.4.3: state
-- machine safety)
abbrev pub CommitsAgree : Type 0 → Type 0
CommitsAgree S =
    (g : Range S) → IsRange g → (early late : List Event) (p q : ℕ) (r s : Replica S) → IsLive (world_after g early) p r → IsLive (world_after g (early ++ late)) q s
    → (index : ℕ) → index ≤ r.raft.head.commit → index ≤ s.raft.head.commit → SameUpTo r.raft.log s.raft.log index

-- a log shows all of another up to an index, as far as the other shows it
pub record ShowsUpTo (l m : LogState) (index : ℕ) : Type 0 where
  pub within : index ≤ last_index m
  pub same : SameUpTo l m index

-- the log of this one, if it leads, shows all that the other has committed in an earlier term
abbrev pub IsComplete : {S : Type 0} → Replica S → Replica S → Type 0
IsComplete leader other =
    leader.raft.head.role ≡ Leader → other.raft.head.term < leader.raft.head.term
    → (index : ℕ) → index ≤ other.raft.head.commit → ShowsUpTo other.raft.log leader.raft.log index

-- a leader's log shows every entry that is committed in an earlier term, be it told before the
-- leader's time or after (Raft 2014, section 5.4: leader completeness)
abbrev pub LeaderComplete : Type 0 → Type 0
LeaderComplete S =
    (g : Range S) → IsRange g → (early late : List Event) (p q : ℕ) (r s : Replica S) → IsLive (world_after g early) p r → IsLive (world_after g (early ++ late)) q s
    → IsComplete s r × IsComplete r s

-- a list is the beginning of another
abbrev pub IsPrefixOf : List Entry → List Entry → Type 0
IsPrefixOf xs ys = (rest : List Entry) × (xs ++ rest ≡ ys)

-- a list of entries as a log behind the range's base
abbrev pub range_log : {S : Type 0} → Range S → List Entry → LogState
range_log g list = record { base = g.base; base_term = start_term g.base; entries = list }

-- a replica shows the list: its base, its entries up to the commit index, and its state after those that it applied
pub record IsShown {S : Type 0} (g : Range S) (list : List Entry) (r : Replica S) : Type 0 where
  pub start_le : g.base ≤ r.raft.log.base
  pub based : r.raft.log.base ≤ r.applied
  pub applied_le : r.applied ≤ r.raft.head.commit
  pub commit_le : r.raft.head.commit ≤ last_index r.raft.log
  pub covered : r.raft.head.commit ≤ last_index (range_log g list)
  pub base_term : term_at (range_log g list) r.raft.log.base ≡ Some r.raft.log.base_term
  pub entries : (k : ℕ) → r.raft.log.base < k → k ≤ r.raft.head.commit → entry_at r.raft.log k ≡ entry_at (range_log g list) k
  pub state : r.state ≡ fold g.act g.start (take (r.applied - g.base) list)

-- a committed list, which the schedule determines and which only grows, and which each replica shows
pub record OneListOf {S : Type 0} (g : Range S) : Type 0 where
  pub committed : List Event → List Entry
  -- nothing is committed before the first event
  pub empty : committed [] ≡ []
  pub grows : (early late : List Event) → IsPrefixOf (committed early) (committed (early ++ late))
  pub shown : (events : List Event) (p : ℕ) (r : Replica S) → IsLive (world_after g events) p r → IsShown g (committed events) r
  -- each entry of it is Nothing, or was proposed
  pub proposed : (events : List Event) → All (λ (entry : Entry). WasProposed events entry.payload) (committed events)

-- there is one committed list (Raft 2014, section 5.4: state machine safety)
abbrev pub OneList : Type 0 → Type 0
OneList S = (g : Range S) → IsRange g → OneListOf g

-- an Append whose term is not below the receiver's has the terms of what the receiver has committed
abbrev pub AppendsFit : Type 0 → Type 0
AppendsFit S =
    (g : Range S) → IsRange g → (events : List Event) (from to : ℕ) (r : Replica S) (term prev_index prev_term : ℕ) (entries : List Entry) (commit : ℕ)
    → HasSent (world_after g events) from to (Append term prev_index prev_term entries commit) → IsLive (world_after g events) to r → r.raft.head.term ≤ term
    → FitsCommitted r.raft prev_index entries

-- each message goes to another node
abbrev pub SentToOthers : Type 0 → Type 0
SentToOthers S = (g : Range S) → IsRange g → (events : List Event) (from to : ℕ) (message : Message S) → HasSent (world_after g events) from to message → to ≡ from → ⊥

-- each entry and each payload in a message is Nothing, or was proposed
pub record OnlyProposedOf {S : Type 0} (g : Range S) (events : List Event) : Type 0 where
  pub logs : (p : ℕ) (r : Replica S) → IsLive (world_after g events) p r → All (λ (entry : Entry). WasProposed events entry.payload) r.raft.log.entries
  pub messages : (from to : ℕ) (message : Message S) → HasSent (world_after g events) from to message → MessageCarries (WasProposed events) message

abbrev pub OnlyProposed : Type 0 → Type 0
OnlyProposed S = (g : Range S) → IsRange g → (events : List Event) → OnlyProposedOf g events
