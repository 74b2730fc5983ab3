-- Ticks and messages, as they are planned.
use Rattle.std.proofs.Common.{◌≡◌, inl, inr, ℕ, Bool, true, false, cond, None, Some, refl, sym, ap, subst, ◌∙◌}
use Rattle.std.specs.Prelude.{IfOk, OnOk, Result}
use Rattle.rp_raft.specs.Plans.{done_by, drafted_by, head_after, taken_in}
use Rattle.rp_raft.specs.declared.plans.RaftPlan.{RaftPlan}
use Rattle.rp_raftstep.specs.RaftState.{RaftState, is_leader}
use Rattle.rp_raftstep.specs.Step.{Draft, advanced, committable, elected, is_elected, quiet, sends_to, leading, sent, stand, tick, tick_leading, tick_waiting, candidate, patience}
use Rattle.rp_raftstep.specs.Step as steps
use Rattle.rp_raftstep.specs.declared.heads.Due.TheVariants.{Everyone}
use Rattle.rp_raftstep.specs.declared.heads.Head.{Head}
use Rattle.std.specs.Prelude.{◌+◌, ◌==◌, max}
use Rattle.rp_request.specs.Applied.{AppliedState}
use Rattle.rp_pending.specs.Refreshes.{to_refresh}
use Rattle.rp_pending.specs.declared.refreshes.Refresh.{Refresh}
use Rattle.rp_events.specs.Refreshes.{delivered_by, refreshed_by, refreshing, with_taken}
use Rattle.rp_events.specs.Replicas.{Done, Replica, Told, has_new_leader}
use Rattle.rp_replica.specs.Handing.{EachReads}
use Rattle.rp_replica.specs.Plans.{IsPlan}
use Rattle.rp_replica.specs.Refreshing.{IsRefresh, after_taken, draft_in, no_refresh, refresh_behind}
use Rattle.rp_replica.specs.declared.plans.ReplicaPlan.{ReplicaPlan}

-- a tick takes nothing in
taken_by : (b : Bool) (x y : Draft AppliedState) → x.taken ≡ None → y.taken ≡ None → (cond b x y).taken ≡ None
taken_by true x y e f = e
taken_by false x y e f = f

elected_none : (st : RaftState) → (elected {S = AppliedState} st).taken ≡ None
elected_none st = taken_by (is_elected st.head) (sends_to (leading st) Everyone) (quiet st) refl refl

tick_none : (st : RaftState) → (tick {S = AppliedState} st).taken ≡ None
tick_none st =
    taken_by (is_leader st.head.role) (tick_leading st) (tick_waiting st)
    (taken_by (st.head.beat + 1 == 2) (sends_to (record st { head = record st.head { beat = 0 } }) Everyone) (quiet (record st { head = record st.head { beat = st.head.beat + 1 } })) refl refl)
    (taken_by (st.head.silent + 1 == patience st.head.node) (stand st) (quiet (record st { head = record st.head { silent = st.head.silent + 1 } }))
    (elected_none (record st { head = candidate st.head })) refl)

pub tick_taken : (st : RaftState) (p : RaftPlan AppliedState) → drafted_by st p ≡ tick st → taken_in p ≡ None
tick_taken st p drafts = ap (λ (d : Draft AppliedState). d.taken) drafts ∙ tick_none st

-- the commit index does not count
leader_by : (old : Head) (b : Bool) (st : RaftState) (commit : ℕ)
    → has_new_leader old (cond b (record st { head = record st.head { commit = commit } }) st).head ≡ has_new_leader old st.head
leader_by old true st commit = refl
leader_by old false st commit = refl

pub leader_after : (old : Head) (st : RaftState) (p : RaftPlan AppliedState) (applied : ℕ) (state : AppliedState) (draft : Draft AppliedState)
    → done_by st p ≡ sent applied state draft → has_new_leader old (head_after p) ≡ has_new_leader old draft.state.head
leader_after old st p applied state draft does =
    ap (λ (d : steps.Done AppliedState). has_new_leader old d.state.head) does
    ∙ leader_by old (is_leader draft.state.head.role) draft.state (max draft.state.head.commit (committable draft.state))

-- a refresh at a tick
pub tick_refresh : (r : Replica) (p : RaftPlan AppliedState) (f : Refresh) (ticks : ℕ) (all : Bool) → taken_in p ≡ None
    → f ≡ to_refresh r.applied.state.lai ticks all r.pending → IsRefresh (after_taken r p).replica f
tick_refresh r p f ticks all none e = subst (λ o. IsRefresh (with_taken r o).replica f) (sym none) (inr (ticks, all, e))

-- what a refresh behind a planned event is planned to do, said of another replica, event and refresh that
-- are the same
pub planned_as : {E : Type 0} (result : Result ReplicaPlan E) (ticks round : ℕ) (s r : Replica) (p : RaftPlan AppliedState) (d : Draft AppliedState) (t : Told) (f g : Refresh)
    → s ≡ r → drafted_by r.raft p ≡ d → with_taken r (taken_in p) ≡ t → f ≡ g
    → IfOk result (λ plan. IsPlan s (Some (draft_in s p)) plan (refreshed_by s (draft_in s p) ticks round (after_taken s p) f))
    → IfOk result (λ plan. IsPlan r (Some d) plan (refreshed_by r d ticks round t g))
planned_as result ticks round s r p d t f g same drafts taken refresh h =
    subst (λ x. IfOk result (λ plan. IsPlan r (Some d) plan (refreshed_by r d ticks round t x))) refresh
    (subst (λ x. IfOk result (λ plan. IsPlan r (Some d) plan (refreshed_by r d ticks round x f))) taken
    (subst (λ x. IfOk result (λ plan. IsPlan r (Some x) plan (refreshed_by r x ticks round (with_taken r (taken_in p)) f))) drafts
    (subst (λ x. IfOk result (λ plan. IsPlan x (Some (draft_in x p)) plan (refreshed_by x (draft_in x p) ticks round (after_taken x p) f))) same h)))

-- a message: all is refreshed where it made a new leader known, and else nothing
pub is_behind : (r : Replica) (p : RaftPlan AppliedState) (ticks : ℕ) (f : Refresh) → f ≡ refresh_behind r p ticks → IsRefresh (after_taken r p).replica f
is_behind r p ticks f e = subst (IsRefresh (after_taken r p).replica) (sym e) (go (has_new_leader r.raft.head (head_after p))) where
  go : (b : Bool) → IsRefresh (after_taken r p).replica (cond b (refreshing (after_taken r p).replica ticks true) no_refresh)
  go true = inr (ticks, true, refl)
  go false = inl refl

by_leader : {E : Type 0} (result : Result ReplicaPlan E) (ticks round : ℕ) (r : Replica) (d : Draft AppliedState) (t : Told) (b : Bool)
    → IfOk result (λ plan. IsPlan r (Some d) plan (refreshed_by r d ticks round t (cond b (refreshing t.replica ticks true) no_refresh)))
    → IfOk result (λ plan. IsPlan r (Some d) plan (cond b (refreshed_by r d ticks round t (refreshing t.replica ticks true)) (refreshed_by r d ticks round t no_refresh)))
by_leader result ticks round r d t true h = h
by_leader result ticks round r d t false h = h

pub delivered_as : {E : Type 0} (result : Result ReplicaPlan E) (ticks round : ℕ) (s r : Replica) (p : RaftPlan AppliedState) (d : Draft AppliedState) (f : Refresh) (applied : ℕ) (state : AppliedState)
    → s ≡ r → drafted_by r.raft p ≡ d → done_by r.raft p ≡ sent applied state d → f ≡ refresh_behind s p ticks
    → IfOk result (λ plan. IsPlan s (Some (draft_in s p)) plan (refreshed_by s (draft_in s p) ticks round (after_taken s p) f))
    → IfOk result (λ plan. IsPlan r (Some d) plan (delivered_by r d ticks round (with_taken r d.taken)))
delivered_as result ticks round s r p d f applied state same drafts does e h =
    by_leader result ticks round r d (with_taken r d.taken) (has_new_leader r.raft.head d.state.head)
    (planned_as result ticks round s r p d (with_taken r d.taken) f
    (cond (has_new_leader r.raft.head d.state.head) (refreshing (with_taken r d.taken).replica ticks true) no_refresh)
    same drafts (ap (λ (x : Draft AppliedState). with_taken r x.taken) drafts)
    (e ∙ ap (λ x. refresh_behind x p ticks) same
    ∙ ap (λ b. cond b (refreshing (after_taken r p).replica ticks true) no_refresh) (leader_after r.raft.head r.raft p applied state d does)
    ∙ ap (λ (x : Draft AppliedState). cond (has_new_leader r.raft.head d.state.head) (refreshing (with_taken r x.taken).replica ticks true) no_refresh) drafts)
    h)

-- what is handed to Raft, said likewise
same_done : (ticks round : ℕ) (s r : Replica) (p : RaftPlan AppliedState) (d : Draft AppliedState) (t : Told) (f g : Refresh)
    → s ≡ r → drafted_by r.raft p ≡ d → with_taken r (taken_in p) ≡ t → f ≡ g
    → refreshed_by s (draft_in s p) ticks round (after_taken s p) f ≡ refreshed_by r d ticks round t g
same_done ticks round s r p d t f g same drafts taken refresh =
    ap (λ x. refreshed_by x (draft_in x p) ticks round (after_taken x p) f) same
    ∙ ap (λ x. refreshed_by r x ticks round (with_taken r (taken_in p)) f) drafts
    ∙ ap (λ x. refreshed_by r d ticks round x f) taken
    ∙ ap (refreshed_by r d ticks round t) refresh

pub reads_as : {E : Type 0} (result : Result ReplicaPlan E) (ticks round : ℕ) (s r : Replica) (p : RaftPlan AppliedState) (d : Draft AppliedState) (t : Told) (f g : Refresh)
    → s ≡ r → drafted_by r.raft p ≡ d → with_taken r (taken_in p) ≡ t → f ≡ g
    → OnOk result (EachReads (refreshed_by s (draft_in s p) ticks round (after_taken s p) f).proposed)
    → OnOk result (EachReads (refreshed_by r d ticks round t g).proposed)
reads_as result ticks round s r p d t f g same drafts taken refresh h =
    subst (λ (x : Done). OnOk result (EachReads x.proposed)) (same_done ticks round s r p d t f g same drafts taken refresh) h

done_by_leader : (ticks round : ℕ) (r : Replica) (d : Draft AppliedState) (t : Told) (b : Bool)
    → refreshed_by r d ticks round t (cond b (refreshing t.replica ticks true) no_refresh)
    ≡ cond b (refreshed_by r d ticks round t (refreshing t.replica ticks true)) (refreshed_by r d ticks round t no_refresh)
done_by_leader ticks round r d t true = refl
done_by_leader ticks round r d t false = refl

pub delivered_reads : {E : Type 0} (result : Result ReplicaPlan E) (ticks round : ℕ) (s r : Replica) (p : RaftPlan AppliedState) (d : Draft AppliedState) (f : Refresh) (applied : ℕ) (state : AppliedState)
    → s ≡ r → drafted_by r.raft p ≡ d → done_by r.raft p ≡ sent applied state d → f ≡ refresh_behind s p ticks
    → OnOk result (EachReads (refreshed_by s (draft_in s p) ticks round (after_taken s p) f).proposed)
    → OnOk result (EachReads (delivered_by r d ticks round (with_taken r d.taken)).proposed)
delivered_reads result ticks round s r p d f applied state same drafts does e h =
    subst (λ (x : Done). OnOk result (EachReads x.proposed)) (done_by_leader ticks round r d (with_taken r d.taken) (has_new_leader r.raft.head d.state.head))
    (reads_as result ticks round s r p d (with_taken r d.taken) f
    (cond (has_new_leader r.raft.head d.state.head) (refreshing (with_taken r d.taken).replica ticks true) no_refresh)
    same drafts (ap (λ (x : Draft AppliedState). with_taken r x.taken) drafts)
    (e ∙ ap (λ x. refresh_behind x p ticks) same
    ∙ ap (λ b. cond b (refreshing (after_taken r p).replica ticks true) no_refresh) (leader_after r.raft.head r.raft p applied state d does)
    ∙ ap (λ (x : Draft AppliedState). cond (has_new_leader r.raft.head d.state.head) (refreshing (with_taken r x.taken).replica ticks true) no_refresh) drafts)
    h)
