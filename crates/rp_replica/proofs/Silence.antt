-- Events after which a replica sends nothing and ends no attempt.
use Rattle.std.proofs.Common.{◌≡◌, ℕ, Bool, true, false, cond, eqb-true, eq-eqb, Option, None, Some, List, [], ◌∷◌, length, refl, ap, ◌∙◌, arith}
use Rattle.std.specs.Prelude.{◌+◌, not, nat_lt, is_some, ◌==◌, ◌&&◌, IsTrue}
use Rattle.std.specs.Option.{option_eq}
use Rattle.rp_base.specs.declared.ids.CmdId.{CmdId}
use Rattle.rp_raftstep.specs.declared.heads.Head.{Head}
use Rattle.rp_raftstep.specs.declared.heads.Role.TheVariants.{Follower}
use Rattle.rp_raftstep.specs.declared.events.RaftEvent.TheVariants as events
use Rattle.rp_raftstep.specs.declared.messages.Message.TheVariants.{AppendReply}
use Rattle.rp_raftstep.specs.RaftState.{RaftState, is_leader}
use Rattle.rp_raftstep.specs.Step as rafts
use Rattle.rp_raftstep.specs.Step.{Draft, observed, on_match, on_mismatch, quiet, received, sent, step, tick}
use Rattle.rp_raftstep.proofs.Steps.{step_then-nil}
use Rattle.rp_raft.specs.Plans.{with_head}
use Rattle.rp_raft.specs.Quiet as quiets
use Rattle.rp_raft.specs.Quiet.{counted, quietly}
use Rattle.rp_raft.proofs.Silence.{tick_is}
use Rattle.rp_request.specs.Applied.{AppliedState}
use Rattle.rp_pending.specs.declared.refreshes.Refresh.{Refresh}
use Rattle.rp_events.specs.declared.answers.EventAnswer.TheVariants as answers
use Rattle.rp_events.specs.declared.replica_events.ReplicaEvent.TheVariants.{Deliver, Tick}
use Rattle.rp_events.specs.Moves.{hands_to_raft}
use Rattle.rp_events.specs.Refreshes.{delivered_by, refreshed_by, refreshing, with_taken}
use Rattle.rp_events.specs.ReplicaEvents.{event}
use Rattle.rp_events.specs.Replicas.{Replica, Done, has_new_leader, leaves, untold}
use Rattle.rp_replica.specs.Quiet.{only_counts}

-- an event of Raft that sends nothing, with nothing behind it
hands_nothing : (r : Replica) (draft : Draft AppliedState) (after : RaftState) → sent r.applied.index r.applied.state draft ≡ quietly after → hands_to_raft r draft (untold r) [] [] ≡ leaves (record r { raft = after }) answers.Done
hands_nothing r draft after e =
    ap (λ (d : rafts.Done AppliedState). record { replica = record r { raft = d.state }; answer = answers.Done; messages = d.out.messages; outcomes = []; proposed = []; right = None })
    (step_then-nil r.applied.index r.applied.state draft ∙ e)

refreshes_nothing : (r : Replica) (draft : Draft AppliedState) (ticks round : ℕ) (f : Refresh) → f.again ≡ [] → f.back ≡ [] → refreshed_by r draft ticks round (untold r) f ≡ hands_to_raft r draft (untold r) [] []
refreshes_nothing r draft ticks round f again back =
    ap (λ (z : List CmdId). refreshed_by r draft ticks round (untold r) (record { again = f.again; back = z })) back
    ∙ ap (λ (z : List CmdId). refreshed_by r draft ticks round (untold r) (record { again = z; back = [] })) again

none_in : (ids : List CmdId) → (length ids == 0) ≡ true → ids ≡ []
none_in [] h = refl
none_in (id ∷ ids) h = absurd (omega (arith, eqb-true (length (id ∷ ids)) 0 h))

-- the term and the leader are as before
same_by : (term : ℕ) (leader : Option ℕ) → (is_some leader && not (term == term && option_eq (λ a b. a == b) leader leader)) ≡ false
same_by term None = refl
same_by term (Some l) = ap (λ b. not (b && (l == l))) (eq-eqb term term refl) ∙ ap not (eq-eqb l l refl)

counted_same : (h : Head) → has_new_leader h (counted h) ≡ false
counted_same h = go (is_leader h.role) where
  go : (leads : Bool) → has_new_leader h (cond leads (record h { beat = h.beat + 1 }) (record h { silent = h.silent + 1 })) ≡ false
  go true = same_by h.term h.leader
  go false = same_by h.term h.leader

all_three : (a b c : Bool) → (a && b && c) ≡ true → (a ≡ true) × (b ≡ true) × (c ≡ true)
all_three true true true h = (refl, refl, refl)
all_three true true false h = absurd cc
all_three true false c h = absurd cc
all_three false b c h = absurd cc

pub counts : (r : Replica) (ticks : ℕ) (after : RaftState) → IsTrue (only_counts r ticks)
    → ((applied : ℕ) (snapshot : AppliedState) → step applied snapshot r.raft events.Tick ≡ quietly after)
    → (round : ℕ) → event r Tick ticks round [] ≡ leaves (record r { raft = after }) answers.Done
counts r ticks after only steps round =
    let parts = all_three (quiets.only_counts r.raft.head) (length (refreshing r ticks false).again == 0) (length (refreshing r ticks false).back == 0) only in
    ap (λ b. refreshed_by r (tick r.raft) ticks round (untold r) (refreshing r ticks b))
    (ap (λ (d : Draft AppliedState). has_new_leader r.raft.head d.state.head) (tick_is r.raft parts.0) ∙ counted_same r.raft.head)
    ∙ refreshes_nothing r (tick r.raft) ticks round (refreshing r ticks false) (none_in (refreshing r ticks false).again parts.1) (none_in (refreshing r ticks false).back parts.2)
    ∙ hands_nothing r (tick r.raft) after (steps r.applied.index r.applied.state)

-- the answer of a peer takes nothing in, and makes no leader known
module _ (st : RaftState) (from term : ℕ) (ok : Bool) (index : ℕ) where
  abbrev seen : RaftState
  seen = with_head st (observed st.head term)

  reply_taken : (received {S = AppliedState} st from (AppendReply term ok index)).taken ≡ None
  reply_taken = go (is_leader seen.head.role && (term == seen.head.term)) ok where
    go : (b o : Bool) → (cond b (cond o (on_match {S = AppliedState} seen from index) (on_mismatch seen from index)) (quiet seen)).taken ≡ None
    go true true = refl
    go true false = refl
    go false o = refl

  observed_known : (higher : Bool) → has_new_leader st.head (cond higher (record st.head { term = term; vote = None; role = Follower; leader = None }) st.head) ≡ false
  observed_known true = refl
  observed_known false = same_by st.head.term st.head.leader

  reply_known : has_new_leader st.head (received {S = AppliedState} st from (AppendReply term ok index)).state.head ≡ false
  reply_known = go (is_leader seen.head.role && (term == seen.head.term)) ok ∙ observed_known (nat_lt st.head.term term) where
    go : (b o : Bool) → has_new_leader st.head (cond b (cond o (on_match {S = AppliedState} seen from index) (on_mismatch seen from index)) (quiet seen)).state.head ≡ has_new_leader st.head seen.head
    go true true = refl
    go true false = refl
    go false o = refl

pub hears : (r : Replica) (from term : ℕ) (ok : Bool) (index : ℕ) (after : RaftState)
    → ((applied : ℕ) (snapshot : AppliedState) → step applied snapshot r.raft (events.Receive from (AppendReply term ok index)) ≡ quietly after)
    → (ticks round : ℕ) → event r (Deliver from (AppendReply term ok index)) ticks round [] ≡ leaves (record r { raft = after }) answers.Done
hears r from term ok index after steps ticks round =
    let draft : Draft AppliedState = received r.raft from (AppendReply term ok index) in
    ap (λ (o : Option (ℕ × AppliedState)). delivered_by r draft ticks round (with_taken r o)) (reply_taken r.raft from term ok index)
    ∙ ap (λ b. cond b (refreshed_by r draft ticks round (untold r) (refreshing r ticks true)) (hands_to_raft r draft (untold r) [] [])) (reply_known r.raft from term ok index)
    ∙ hands_nothing r draft after (steps r.applied.index r.applied.state)
