-- A leader's tick leaves the log as it is.
use Rattle.std.proofs.Common.{◌≡◌, ◌+◌, ◌<◌, ◌^◌, ◌==◌, Bool, true, false, cond, length, refl, sym, ap, subst, ◌∙◌}
use Rattle.rp_raftlog.specs.LogState.{last_index}
use Rattle.rp_raftstep.specs.declared.heads.Due.TheVariants.{Everyone}
use Rattle.rp_raftstep.specs.Conditions.{CanRise}
use Rattle.rp_raftstep.specs.RaftState.{RaftState, is_leader}
use Rattle.rp_raftstep.specs.Step.{quiet, sends_to, tick, tick_leading, tick_waiting}
use Rattle.rp_request.specs.Applied.{AppliedState}
use Rattle.rp_events.specs.Allows.{MayRefresh}
use Rattle.rp_events.specs.Replicas.{Replica}

log_kept : (st : RaftState) (b : Bool)
    → last_index (cond b (sends_to {S = AppliedState} (record st { head = record st.head { beat = 0 } }) Everyone) (quiet (record st { head = record st.head { beat = st.head.beat + 1 } }))).state.log ≡ last_index st.log
log_kept st true = refl
log_kept st false = refl

tick_keeps : (st : RaftState) → is_leader st.head.role ≡ true → last_index (tick {S = AppliedState} st).state.log ≡ last_index st.log
tick_keeps st leads =
    ap (λ b. last_index (cond b (tick_leading {S = AppliedState} st) (tick_waiting st)).state.log) leads
    ∙ log_kept st (st.head.beat + 1 == 2)

-- a leader may tick
pub may_tick : (r : Replica) → is_leader r.raft.head.role ≡ true → CanRise r.raft → last_index r.raft.log + length r.pending < 2 ^ 64
    → MayRefresh r (tick r.raft)
may_tick r leads rise last = record {
  rise = rise;
  last = subst (λ n. n + length r.pending < 2 ^ 64) (sym (tick_keeps r.raft leads)) last;
}
