-- Events after which nothing is sent.
use Rattle.std.proofs.Common.{◌≡◌, ℕ, ◌+◌, ◌<◌, Bool, true, false, cond, [], refl, sym, ap, subst, ◌∙◌, arith}
use Rattle.std.specs.Prelude.{not, ◌==◌, ◌&&◌, IsTrue}
use Rattle.rp_raftlog.specs.LogState.{LogState}
use Rattle.rp_raftstep.specs.declared.heads.Due.{Due}
use Rattle.rp_raftstep.specs.declared.heads.Due.TheVariants.{Nobody, Everyone}
use Rattle.rp_raftstep.specs.declared.heads.Head.{Head}
use Rattle.rp_raftstep.specs.declared.messages.Message.TheVariants.{AppendReply}
use Rattle.rp_raftstep.specs.declared.events.RaftEvent.TheVariants.{Receive, Tick}
use Rattle.rp_raftstep.specs.RaftState.{RaftState, is_leader}
use Rattle.rp_raftstep.specs.Step.{Draft, advanced, observed, on_append_reply, on_match, on_mismatch, patience, quiet, sends_to, sent, stand, step, tick}
use Rattle.rp_raft.specs.Held.{IsSound}
use Rattle.rp_raft.specs.Plans.{ahead, with_commit, with_head}
use Rattle.rp_raft.specs.Quiet.{counted, is_nobody, leaves_nothing, only_counts, quietly}
use Rattle.rp_raft.proofs.Fills.{nothing_behind}

-- the state with the commit index that the end of an event leaves
pub moves_on : (log : LogState) (head : Head) (commit : ℕ) → ahead (with_commit head commit) log [] ≡ advanced (ahead head log []) → ◌≡◌ {A = RaftState} (record { head = with_commit head commit; log = log }) (advanced (record { head = head; log = log }))
moves_on log head commit e = subst (λ (z : LogState). ◌≡◌ {A = RaftState} (record { head = with_commit head commit; log = z }) (advanced (record { head = head; log = z }))) (nothing_behind log) e

-- a tick that is only counted
pub tick_is : {S : Type 0} (st : RaftState) → IsTrue (only_counts st.head) → tick {S = S} st ≡ quiet (with_head st (counted st.head))
tick_is {S} st only = go (is_leader st.head.role) (st.head.beat + 1 == 2) (st.head.silent + 1 == patience st.head.node) only where
  go : (leads beats stands : Bool) → cond leads (not beats) (not stands) ≡ true
      → ◌≡◌ {A = Draft S}
      (cond leads
      (cond beats (sends_to (record st { head = record st.head { beat = 0 } }) Everyone) (quiet (record st { head = record st.head { beat = st.head.beat + 1 } })))
      (cond stands (stand st) (quiet (record st { head = record st.head { silent = st.head.silent + 1 } }))))
      (quiet (with_head st (cond leads (record st.head { beat = st.head.beat + 1 }) (record st.head { silent = st.head.silent + 1 }))))
  go true true stands h = absurd cc
  go true false stands h = refl
  go false beats true h = absurd cc
  go false beats false h = refl

pub counts : {S : Type 0} (st : RaftState) → IsTrue (only_counts st.head) → (applied : ℕ) (snapshot : S) → step applied snapshot st Tick ≡ quietly (advanced (with_head st (counted st.head)))
counts {S} st only applied snapshot = ap (sent applied snapshot) (tick_is st only)

more_below : (a b : ℕ) → a < b → not (a + 1 == b) ≡ true → a + 1 < b
more_below a b lt h = grind arith

pub sound_counted : (st : RaftState) → IsSound st → IsTrue (only_counts st.head) → IsSound (with_head st (counted st.head))
sound_counted st sound only = go (is_leader st.head.role) only where
  go : (leads : Bool) → cond leads (not (st.head.beat + 1 == 2)) (not (st.head.silent + 1 == patience st.head.node)) ≡ true → IsSound (with_head st (cond leads (record st.head { beat = st.head.beat + 1 }) (record st.head { silent = st.head.silent + 1 })))
  go true h = record { silent = sound.silent; beat = more_below st.head.beat 2 sound.beat h; nodes = sound.nodes; base = sound.base }
  go false h = record { silent = more_below st.head.silent (patience st.head.node) sound.silent h; beat = sound.beat; nodes = sound.nodes; base = sound.base }

-- whom the answer of a peer makes a leader send to, whatever its snapshots are
due_same : (S : Type 0) (st : RaftState) (from term : ℕ) (ok : Bool) (index : ℕ) → (on_append_reply {S = S} st from term ok index).due ≡ (on_append_reply {S = ℕ} st from term ok index).due
due_same S st from term ok index = go (is_leader st.head.role && (term == st.head.term)) ok where
  go : (b o : Bool) → (cond b (cond o (on_match {S = S} st from index) (on_mismatch st from index)) (quiet st)).due ≡ (cond b (cond o (on_match {S = ℕ} st from index) (on_mismatch st from index)) (quiet st)).due
  go true true = refl
  go true false = refl
  go false o = refl

pub leaves : {S : Type 0} (st : RaftState) (head : Head) (due : Due) (from term : ℕ) (ok : Bool) (index : ℕ) → sends_to {S = S} (with_head st head) due ≡ on_append_reply (with_head st (observed st.head term)) from term ok index → leaves_nothing st from term ok index ≡ is_nobody due
leaves {S} st head due from term ok index e = sym (ap is_nobody (ap (λ (d : Draft S). d.due) e ∙ due_same S (with_head st (observed st.head term)) from term ok index))

pub hears : {S : Type 0} (st : RaftState) (head : Head) (due : Due) (from term : ℕ) (ok : Bool) (index : ℕ) → sends_to {S = S} (with_head st head) due ≡ on_append_reply (with_head st (observed st.head term)) from term ok index → due ≡ Nobody → (applied : ℕ) (snapshot : S) → step applied snapshot st (Receive from (AppendReply term ok index)) ≡ quietly (advanced (with_head st head))
hears {S} st head due from term ok index e none applied snapshot =
    sym (ap (sent applied snapshot) e) ∙ ap (λ (d : Due). sent applied snapshot (sends_to (with_head st head) d)) none
