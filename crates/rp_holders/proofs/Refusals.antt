-- Whom an event of a replica names that ends attempts, or refuses to admit one.
use Rattle.std.proofs.Common.{◌≡◌, ℕ, ◌+◌, ◌≤◌, Bool, true, false, cond, Option, None, Some, Result, Ok, Err, List, [], ◌∷◌, ◌++◌, map, refl, sym, subst, ◌∙◌}
use Rattle.std.specs.Prelude.{◌==◌, nat_lt, filter_map}
use Rattle.std.specs.List.{AllByRecursion, cons_option}
use Rattle.std.specs.FinMap.{get}
use Rattle.std.specs.Option.{option_map, option_map_or, option_eq}
use Rattle.std.proofs.lemmas.Bool.{cond_both}
use Rattle.rp_base.proofs.Elements.{all_append}
use Rattle.rp_base.specs.Keys.{end_of}
use Rattle.rp_base.specs.Splits.{split_of}
use Rattle.rp_base.specs.Tables.{Table, greatest, value_at, holds_text, count_in}
use Rattle.rp_base.specs.Values.{value_eq}
use Rattle.rp_base.specs.declared.ids.CmdId.{CmdId}
use Rattle.rp_base.specs.declared.items.Item.{Item}
use Rattle.rp_base.specs.declared.leases.Lease.{Lease}
use Rattle.rp_base.specs.declared.ranges.Desc.{Desc}
use Rattle.rp_base.specs.declared.ranges.SplitFault.{SplitFault}
use Rattle.rp_base.specs.declared.ranges.SplitFault.TheVariants as faults
use Rattle.rp_latch.specs.Holds.{answer}
use Rattle.rp_latch.specs.declared.holds.Held.{Held}
use Rattle.rp_raftstep.specs.Step.{Draft, tick, received}
use Rattle.rp_request.specs.Applied.{AppliedState, command_verdict}
use Rattle.rp_request.specs.Batches.{batch_of}
use Rattle.rp_request.specs.Covers.{spans_of, in_bounds}
use Rattle.rp_request.specs.Effect.{Effect, effect, raise, pass_on, give, split}
use Rattle.rp_request.specs.Evaluations.{with_batch, evaluated}
use Rattle.rp_request.specs.declared.commands.Command.{Command}
use Rattle.rp_request.specs.declared.commands.Payload.{Payload}
use Rattle.rp_request.specs.declared.commands.Payload.TheVariants as payloads
use Rattle.rp_request.specs.declared.evaluations.Evaluated.{Evaluated}
use Rattle.rp_request.specs.declared.outcomes.Ambiguity.TheVariants as causes
use Rattle.rp_request.specs.declared.outcomes.Outcome.{Outcome}
use Rattle.rp_request.specs.declared.outcomes.Outcome.TheVariants as outcomes
use Rattle.rp_request.specs.declared.outcomes.Refusal.{Refusal}
use Rattle.rp_request.specs.declared.outcomes.Refusal.TheVariants.{NoReplica, NotLeaseHolder, RangeMismatch, IsText, Overflow, Short, TooWide, ConditionFailed}
use Rattle.rp_request.specs.declared.requests.Request.{Request}
use Rattle.rp_request.specs.declared.requests.Request.TheVariants.{Put, Add, CPut, Del, Wipe, Move, Split}
use Rattle.rp_request.specs.declared.verdicts.Verdict.{Verdict}
use Rattle.rp_request.specs.declared.verdicts.Verdict.TheVariants as verdicts
use Rattle.rp_pending.specs.Proposals.{proposal_of, is_proposed}
use Rattle.rp_pending.specs.Refreshes.{goes_back}
use Rattle.rp_pending.specs.declared.proposals.Proposal.{Proposal}
use Rattle.rp_pending.specs.declared.refreshes.Refresh.{Refresh}
use Rattle.rp_events.specs.Admissions.{may_admit, unlatched, guarded, admitted_by}
use Rattle.rp_events.specs.Applications.{is_own, settled, proposer_told, payload_of, next_entry, applied_where}
use Rattle.rp_events.specs.Ends.{end_of as ended_of, overtaken_by, removed_with, lost_under}
use Rattle.rp_events.specs.Flushes.{assigning, emptied, flush_moves}
use Rattle.rp_events.specs.LeaseAsks.{is_held, answers_ask, ask_for, expiry_of, lease_ticks}
use Rattle.rp_events.specs.declared.answers.Ended.{Ended}
use Rattle.rp_events.specs.declared.answers.EventAnswer.TheVariants as answers
use Rattle.rp_events.specs.declared.moves.Move as moves
use Rattle.rp_events.specs.declared.moves.Move.TheVariants.{HandsOut, GivesUp, TakesBack, Repeats}
use Rattle.rp_events.specs.Moves.{hands_out, gives_up, takes_back, repeats, moved, moved_all, hands_to_raft}
use Rattle.rp_events.specs.Refreshes.{refreshing, refreshed_by, with_taken}
use Rattle.rp_events.specs.Replicas.{Replica, Done, Told, untold, leaves, lease_of, holds_lease, has_new_leader}
use Rattle.rp_events.specs.ReplicaEvents.{event}
use Rattle.rp_events.specs.declared.replica_events.ReplicaEvent.{ReplicaEvent}
use Rattle.rp_events.specs.declared.replica_events.ReplicaEvent.TheVariants as at_replica
use Rattle.rp_router.specs.Hints.{NamesNode}
use Rattle.rp_clients.specs.Desks.{IsEnd}

some_outcome : (a b : Outcome) → ◌≡◌ {A = Option Outcome} (Some a) (Some b) → a ≡ b
some_outcome a b e = cc

module _ (nodes : ℕ) where
  -- each is an end that names a node
  abbrev pub AllEnd : List Ended → Type 0
  AllEnd es = AllByRecursion (λ (e : Ended). IsEnd nodes e.outcome) es

  -- what ends at once
  ended_each : (ends : Proposal → Option Outcome) → ((p : Proposal) (o : Outcome) → ends p ≡ Some o → IsEnd nodes o) → (ps : List Proposal) → AllEnd (filter_map (ended_of ends) ps)
  ended_each ends each [] = tt
  ended_each ends each (p ∷ ps) = go (ended_each ends each ps) (ends p) refl where
    go : AllEnd (filter_map (ended_of ends) ps) → (o : Option Outcome) → ends p ≡ o
        → AllEnd (cons_option (option_map (λ (outcome : Outcome). record { id = p.id; outcome = outcome }) (ends p)) (filter_map (ended_of ends) ps))
    go more None is = subst (λ o. AllEnd (cons_option (option_map (λ (outcome : Outcome). record { id = p.id; outcome = outcome }) o) (filter_map (ended_of ends) ps))) (sym is) more
    go more (Some o) is = subst (λ z. AllEnd (cons_option (option_map (λ (outcome : Outcome). record { id = p.id; outcome = outcome }) z) (filter_map (ended_of ends) ps))) (sym is) (each p o is, more)

  by_test : (o : Outcome) (b : Bool) (this : Outcome) (otherwise : Option Outcome) → IsEnd nodes this → (otherwise ≡ Some o → IsEnd nodes o) → cond b (Some this) otherwise ≡ Some o → IsEnd nodes o
  by_test o true this otherwise h k e = subst (IsEnd nodes) (some_outcome this o e) h
  by_test o false this otherwise h k e = k e

  nothing_ends : (o : Outcome) → ◌≡◌ {A = Option Outcome} None (Some o) → IsEnd nodes o
  nothing_ends o e = absurd cc

  overtaken_each : (lai : ℕ) (ps : List Proposal) → AllEnd (filter_map (ended_of (overtaken_by lai)) ps)
  overtaken_each lai = ended_each (overtaken_by lai) (λ p o. by_test o (goes_back lai p) (outcomes.Ambiguous (causes.Snapshot p.max lai)) None tt (nothing_ends o))

  removed_each : (ps : List Proposal) → AllEnd (filter_map (ended_of removed_with) ps)
  removed_each = ended_each removed_with (λ p o. by_test o (is_proposed p.stage) (outcomes.Ambiguous (causes.Removed p.max)) (Some (outcomes.Refused NoReplica)) tt (λ e. subst (IsEnd nodes) (some_outcome (outcomes.Refused NoReplica) o e) tt))

  lost_each : (lease : Lease) → lease.holder ≤ nodes → (ps : List Proposal) → AllEnd (filter_map (ended_of (lost_under lease)) ps)
  lost_each lease low =
      ended_each (lost_under lease) (λ p o. by_test o (is_proposed p.stage) (outcomes.Ambiguous (causes.Restarted p.max)) (Some (outcomes.Refused (NotLeaseHolder lease))) tt
      (λ e. subst (IsEnd nodes) (some_outcome (outcomes.Refused (NotLeaseHolder lease)) o e) low))

  -- a flush refuses under the lease that is applied
  abbrev IsFine : Told → Type 0
  IsFine t = ((lease_of t.replica).holder ≤ nodes) × AllEnd t.ended

  move_fine : (ticks round : ℕ) (t : Told) (m : moves.Move) → IsFine t → IsFine (moved ticks round t m)
  move_fine ticks round t (HandsOut id max) h = go (proposal_of id t.replica.pending) where
    go : (o : Option Proposal) → IsFine (option_map_or (hands_out ticks round t id max) o t)
    go None = h
    go (Some p) = cond_both (is_proposed p.stage) t _ IsFine (λ _. h) (λ _. h)
  move_fine ticks round t (GivesUp id) h = go (proposal_of id t.replica.pending) where
    go : (o : Option Proposal) → IsFine (option_map_or (gives_up t id) o t)
    go None = h
    go (Some p) = cond_both (is_proposed p.stage) t _ IsFine (λ _. h) (λ _. (h.0, all_append (λ (e : Ended). IsEnd nodes e.outcome) t.ended _ h.1 (h.0, tt)))
  move_fine ticks round t (TakesBack id) h = go (proposal_of id t.replica.pending) where
    go : (o : Option Proposal) → IsFine (option_map_or (takes_back t id) o t)
    go None = h
    go (Some p) = cond_both (goes_back t.replica.applied.state.lai p) _ t IsFine (λ _. h) (λ _. h)
  move_fine ticks round t (Repeats id) h = go (proposal_of id t.replica.pending) where
    go : (o : Option Proposal) → IsFine (option_map_or (repeats ticks round t id) o t)
    go None = h
    go (Some p) = cond_both (is_proposed p.stage) _ t IsFine (λ _. h) (λ _. h)

  moves_fine : (ticks round : ℕ) (t : Told) (ms : List moves.Move) → IsFine t → IsFine (moved_all ticks round t ms)
  moves_fine ticks round t [] h = h
  moves_fine ticks round t (m ∷ ms) h = moves_fine ticks round (moved ticks round t m) ms (move_fine ticks round t m h)

-- a refresh ends nothing
back_ended : (ticks round : ℕ) (t : Told) (id : CmdId) → (moved ticks round t (TakesBack id)).ended ≡ t.ended
back_ended ticks round t id = go (proposal_of id t.replica.pending) where
  go : (o : Option Proposal) → (option_map_or (takes_back t id) o t).ended ≡ t.ended
  go None = refl
  go (Some p) = cond_both (goes_back t.replica.applied.state.lai p) _ t (λ (z : Told). z.ended ≡ t.ended) (λ _. refl) (λ _. refl)

again_ended : (ticks round : ℕ) (t : Told) (id : CmdId) → (moved ticks round t (Repeats id)).ended ≡ t.ended
again_ended ticks round t id = go (proposal_of id t.replica.pending) where
  go : (o : Option Proposal) → (option_map_or (repeats ticks round t id) o t).ended ≡ t.ended
  go None = refl
  go (Some p) = cond_both (is_proposed p.stage) _ t (λ (z : Told). z.ended ≡ t.ended) (λ _. refl) (λ _. refl)

refresh_ended : (ticks round : ℕ) (t : Told) (back again : List CmdId) → (moved_all ticks round t (map TakesBack back ++ map Repeats again)).ended ≡ t.ended
refresh_ended ticks round t [] [] = refl
refresh_ended ticks round t [] (id ∷ again) = refresh_ended ticks round (moved ticks round t (Repeats id)) [] again ∙ again_ended ticks round t id
refresh_ended ticks round t (id ∷ back) again = refresh_ended ticks round (moved ticks round t (TakesBack id)) back again ∙ back_ended ticks round t id

module _ (nodes : ℕ) (r : Replica) (low : (lease_of r).holder ≤ nodes) where
  settled_end : (c : Command) (v : Verdict) → AllEnd nodes (settled r c v).ended
  settled_end c verdicts.Took = (tt, tt)
  settled_end c (verdicts.OldLease now) = (low, tt)
  settled_end c (verdicts.OldIndex lai) = tt
  settled_end c verdicts.LeaseMoved = tt
  settled_end c verdicts.Nothing = tt

  proposer_end : (p : Payload) → AllEnd nodes (proposer_told r p).ended
  proposer_end payloads.Nothing = tt
  proposer_end (payloads.Write c) = cond_both (is_own r c) (settled r c (command_verdict r.applied.state c)) (untold r) (λ (z : Told). AllEnd nodes z.ended) (λ _. settled_end c (command_verdict r.applied.state c)) (λ _. tt)
  proposer_end (payloads.Lease ask) = tt

  taken_end : (o : Option (ℕ × AppliedState)) → AllEnd nodes (with_taken r o).ended
  taken_end None = tt
  taken_end (Some taken) = overtaken_each nodes taken.1.lai r.pending

  -- an event of a replica
  pub event_ends : (e : ReplicaEvent AppliedState) (ticks round : ℕ) (taken : List Item) → AllEnd nodes (event r e ticks round taken).outcomes
  event_ends (at_replica.Admit id request) ticks round taken = go (guarded r request) where
    go : (g : Result Evaluated Refusal) → AllEnd nodes (admitted_by r id request g).outcomes
    go (Ok e) = tt
    go (Err why) = tt
  event_ends at_replica.Ask ticks round taken =
      cond_both (is_held r ticks) (leaves r (answers.LeaseHeld (lease_of r) ticks)) (answers_ask r (ask_for r r.raft.head.node (expiry_of r ticks))) (λ (z : Done). AllEnd nodes z.outcomes) (λ _. tt) (λ _. tt)
  event_ends (at_replica.Transfer to) ticks round taken =
      cond_both (holds_lease r) (answers_ask r (ask_for r to (ticks + lease_ticks))) (leaves r (answers.Refused (NotLeaseHolder (lease_of r)))) (λ (z : Done). AllEnd nodes z.outcomes) (λ _. tt) (λ _. tt)
  event_ends at_replica.Collect ticks round taken = tt
  event_ends at_replica.Flush ticks round taken = (moves_fine nodes ticks round (untold (emptied r (assigning r))) (flush_moves (assigning r)) (low, tt)).1
  event_ends at_replica.Tick ticks round taken =
      let f : Refresh = refreshing r ticks (has_new_leader r.raft.head (tick {S = AppliedState} r.raft).state.head) in
      subst (AllEnd nodes) (sym (refresh_ended ticks round (untold r) f.back f.again)) tt
  event_ends (at_replica.Deliver from m) ticks round taken =
      let draft : Draft AppliedState = received r.raft from m in
      let t : Told = with_taken r draft.taken in
      let f : Refresh = refreshing t.replica ticks true in
      cond_both (has_new_leader r.raft.head draft.state.head) (refreshed_by r draft ticks round t f) (hands_to_raft r draft t [] []) (λ (z : Done). AllEnd nodes z.outcomes)
      (λ _. subst (AllEnd nodes) (sym (refresh_ended ticks round t f.back f.again)) (taken_end draft.taken)) (λ _. taken_end draft.taken)
  event_ends at_replica.Apply ticks round taken = go (payload_of (next_entry r)) where
    go : (o : Option Payload) → AllEnd nodes (applied_where r o).outcomes
    go None = tt
    go (Some p) = proposer_end p
  event_ends at_replica.Cut ticks round taken = tt
  event_ends at_replica.Remove ticks round taken = removed_each nodes r.pending
  event_ends (at_replica.Peek key) ticks round taken = tt
  event_ends at_replica.Restart ticks round taken = lost_each nodes (lease_of r) low r.pending

-- no evaluation is refused by a lease
abbrev NamesIn : ℕ → {X : Type 0} → Result X Refusal → Type 0
NamesIn nodes (Ok x) = Unit {0}
NamesIn nodes (Err refusal) = NamesNode nodes refusal

module _ (nodes : ℕ) (t : Table) (d : Desc) where
  effect_names : (request : Request) → NamesIn nodes (effect t d request)
  effect_names (Put key value) = tt
  effect_names (Add key by) =
      cond_both (holds_text t key) (Err (IsText key)) (raise t d key by) (NamesIn nodes) (λ _. tt)
      (λ _. cond_both (nat_lt greatest (value_at t key + by)) (Err (Overflow (value_at t key))) _ (NamesIn nodes) (λ _. tt) (λ _. tt))
  effect_names (CPut key expect value) = cond_both (option_eq value_eq (get t key) expect) _ (Err (ConditionFailed (get t key))) (NamesIn nodes) (λ _. tt) (λ _. tt)
  effect_names (Del key) = tt
  effect_names (Wipe span) = cond_both (nat_lt 16 (count_in t span.start (end_of span.end))) (Err (TooWide (count_in t span.start (end_of span.end)))) _ (NamesIn nodes) (λ _. tt) (λ _. tt)
  effect_names (Move from to by) =
      cond_both (holds_text t from) (Err (IsText from)) _ (NamesIn nodes) (λ _. tt)
      (λ _. cond_both (holds_text t to) (Err (IsText to)) (give t d from to by) (NamesIn nodes) (λ _. tt)
      (λ _. cond_both (nat_lt (value_at t from) by) (Err (Short (value_at t from))) _ (NamesIn nodes) (λ _. tt)
      (λ _. cond_both (from == to) _ (pass_on t d from to by) (NamesIn nodes) (λ _. tt)
      (λ _. cond_both (nat_lt greatest (value_at t to + by)) (Err (Overflow (value_at t to))) _ (NamesIn nodes) (λ _. tt) (λ _. tt)))))
  effect_names (Split key) = go (split_of d key) where
    go : (s : Result (Desc × Desc) SplitFault) → NamesIn nodes (split t key s)
    go (Ok parts) = tt
    go (Err faults.NotInside) = tt
    go (Err (faults.SplitLimit level)) = tt

  evaluated_names : (request : Request) → NamesIn nodes (evaluated t d request)
  evaluated_names request = go (effect t d request) (effect_names request) where
    go : (e : Result Effect Refusal) → NamesIn nodes e → NamesIn nodes (with_batch (batch_of t request) e)
    go (Ok e) h = tt
    go (Err why) h = h

-- what an admission is refused by
pub admission_names : (nodes : ℕ) (r : Replica) → (lease_of r).holder ≤ nodes → (id : CmdId) (request : Request) (ticks round : ℕ) (refusal : Refusal)
    → (event r (at_replica.Admit id request) ticks round []).answer ≡ answers.Refused refusal → NamesNode nodes refusal
admission_names nodes r low id request ticks round refusal = by_answer (guarded r request) names where
  latched_names : (held : Result (Unit {0}) Held) (e : Result Evaluated Refusal) → NamesIn nodes e → NamesIn nodes (unlatched held e)
  latched_names (Ok u) e h = h
  latched_names (Err held) e h = tt

  names : NamesIn nodes (guarded r request)
  names =
      cond_both (may_admit r) _ (Err (NotLeaseHolder (lease_of r))) (NamesIn nodes)
      (λ _. cond_both (in_bounds r.applied.state.desc request) _ (Err (RangeMismatch r.applied.state.desc)) (NamesIn nodes)
      (λ _. latched_names (answer r.latches (spans_of request)) (evaluated r.applied.state.table r.applied.state.desc request) (evaluated_names nodes r.applied.state.table r.applied.state.desc request))
      (λ _. tt))
      (λ _. low)

  refused : (a b : Refusal) → answers.Refused a ≡ answers.Refused b → a ≡ b
  refused a b e = cc

  by_answer : (g : Result Evaluated Refusal) → NamesIn nodes g → (admitted_by r id request g).answer ≡ answers.Refused refusal → NamesNode nodes refusal
  by_answer (Ok e) h is = absurd cc
  by_answer (Err why) h is = subst (NamesNode nodes) (refused why refusal is) h
