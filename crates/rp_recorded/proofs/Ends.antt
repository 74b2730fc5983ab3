-- How attempts end that were admitted: no end names a description.
use Rattle.std.proofs.Common.{◌≡◌, ◌+◌, ℕ, Bool, true, false, cond, ⊎_elim, Option, None, Some, Result, Ok, Err, List, [], ◌∷◌, refl, sym, subst, ◌∙◌}
use Rattle.std.specs.Prelude.{filter_map}
use Rattle.std.specs.List.{cons_option, AllByRecursion}
use Rattle.std.specs.Option.{option_map, option_map_or}
use Rattle.std.proofs.lemmas.Bool.{cases_eq, cond_both}
use Rattle.rp_base.specs.declared.items.Item.{Item}
use Rattle.rp_raftstep.specs.declared.messages.Message.{Message}
use Rattle.rp_raftstep.specs.Step.{Draft, tick, received}
use Rattle.rp_request.specs.Applied.{AppliedState, command_verdict}
use Rattle.rp_request.specs.declared.commands.Command.{Command}
use Rattle.rp_request.specs.declared.commands.Payload.{Payload}
use Rattle.rp_request.specs.declared.commands.Payload.TheVariants as payloads
use Rattle.rp_request.specs.declared.evaluations.Evaluated.{Evaluated}
use Rattle.rp_request.specs.declared.outcomes.Ambiguity.TheVariants as causes
use Rattle.rp_request.specs.declared.outcomes.Outcome.{Outcome}
use Rattle.rp_request.specs.declared.outcomes.Outcome.TheVariants as outcomes
use Rattle.rp_request.specs.declared.outcomes.Refusal.{Refusal}
use Rattle.rp_request.specs.declared.outcomes.Refusal.TheVariants.{NotLeaseHolder, NoReplica}
use Rattle.rp_request.specs.declared.verdicts.Verdict.{Verdict}
use Rattle.rp_request.specs.declared.verdicts.Verdict.TheVariants as verdicts
use Rattle.rp_report.specs.Shown.{IsShownOutcome}
use Rattle.rp_pending.specs.Proposals.{proposal_of, is_proposed}
use Rattle.rp_pending.specs.Refreshes.{goes_back}
use Rattle.rp_pending.specs.declared.proposals.Proposal.{Proposal}
use Rattle.rp_events.specs.declared.answers.Ended.{Ended}
use Rattle.rp_events.specs.declared.answers.EventAnswer.TheVariants as answers
use Rattle.rp_events.specs.declared.moves.Move.{Move}
use Rattle.rp_events.specs.declared.moves.Move.TheVariants.{HandsOut, GivesUp, TakesBack, Repeats}
use Rattle.rp_events.specs.declared.node_events.Event.{Event}
use Rattle.rp_events.specs.declared.node_events.Event.TheVariants as events
use Rattle.rp_events.specs.declared.replica_events.ReplicaEvent.{ReplicaEvent}
use Rattle.rp_events.specs.declared.replica_events.ReplicaEvent.TheVariants.{Admit, Ask, Transfer, Collect, Flush, Tick, Deliver, Apply, Cut, Remove, Peek, Restart}
use Rattle.rp_events.specs.Admissions.{guarded, admitted_by}
use Rattle.rp_events.specs.Applications.{is_own, settled, proposer_told, payload_of, next_entry, applied_where}
use Rattle.rp_events.specs.Ends.{end_of, overtaken_by, removed_with, lost_under}
use Rattle.rp_events.specs.Flushes.{assigning, flush_moves, emptied}
use Rattle.rp_events.specs.LeaseAsks.{lease_ticks, is_held, expiry_of, ask_for, answers_ask}
use Rattle.rp_events.specs.Moves.{hands_out, gives_up, takes_back, repeats, moved, moved_all}
use Rattle.rp_events.specs.Refreshes.{refreshing, refresh_moves, with_taken, delivered_by}
use Rattle.rp_events.specs.Replicas.{Replica, Done, Told, leaves, untold, lease_of, holds_lease, has_new_leader}
use Rattle.rp_events.specs.ReplicaEvents.{event}
use Rattle.rp_events.specs.Nodes.{Node, Status, Absent, Live, Removed, seat, opened, opened_by, after_turn, range_numbers}
use Rattle.rp_events.specs.NodeEvents.{status_after, after_replica, by_status, live_turn, all_turns, delivered, step, with_request}
use Rattle.rp_events.specs.Worlds.{World, Scene, Schedule, first_world, node_of, with_node, taken_in, happens, run}
use Rattle.rp_events.specs.Lawful.{IsReached}
use Rattle.rp_journals.proofs.Causing.{all_both}
use Rattle.rp_journals.proofs.Growing.{Happened, happened, one_node, with_same, with_other}
use Rattle.rp_journals.proofs.Reading.{first_at}

-- an end can be shown
abbrev IsShownEnded : Ended → Type 0
IsShownEnded e = IsShownOutcome e.outcome

abbrev pub AreShownEnds : List Ended → Type 0
AreShownEnds es = AllByRecursion IsShownEnded es

-- moves end by refusals for the lease
moved_end : (ticks round : ℕ) (t : Told) (move : Move) → AreShownEnds t.ended → AreShownEnds (moved ticks round t move).ended
moved_end ticks round t (HandsOut id max) h = go (proposal_of id t.replica.pending) where
  go : (o : Option Proposal) → AreShownEnds (option_map_or (hands_out ticks round t id max) o t).ended
  go None = h
  go (Some p) = cond_both (is_proposed p.stage) t _ (λ (z : Told). AreShownEnds z.ended) (λ _. h) (λ _. h)
moved_end ticks round t (GivesUp id) h = go (proposal_of id t.replica.pending) where
  go : (o : Option Proposal) → AreShownEnds (option_map_or (gives_up t id) o t).ended
  go None = h
  go (Some p) = cond_both (is_proposed p.stage) t _ (λ (z : Told). AreShownEnds z.ended) (λ _. h) (λ _. all_both IsShownEnded t.ended _ h (tt, tt))
moved_end ticks round t (TakesBack id) h = go (proposal_of id t.replica.pending) where
  go : (o : Option Proposal) → AreShownEnds (option_map_or (takes_back t id) o t).ended
  go None = h
  go (Some p) = cond_both (goes_back t.replica.applied.state.lai p) _ t (λ (z : Told). AreShownEnds z.ended) (λ _. h) (λ _. h)
moved_end ticks round t (Repeats id) h = go (proposal_of id t.replica.pending) where
  go : (o : Option Proposal) → AreShownEnds (option_map_or (repeats ticks round t id) o t).ended
  go None = h
  go (Some p) = cond_both (is_proposed p.stage) _ t (λ (z : Told). AreShownEnds z.ended) (λ _. h) (λ _. h)

moves_end : (ticks round : ℕ) (t : Told) (moves : List Move) → AreShownEnds t.ended → AreShownEnds (moved_all ticks round t moves).ended
moves_end ticks round t [] h = h
moves_end ticks round t (move ∷ moves) h = moves_end ticks round (moved ticks round t move) moves (moved_end ticks round t move h)

-- what ends at once
ended_each : (ends : Proposal → Option Outcome) → ((p : Proposal) (o : Outcome) → ends p ≡ Some o → IsShownOutcome o) → (ps : List Proposal) → AreShownEnds (filter_map (end_of ends) ps)
ended_each ends each [] = tt
ended_each ends each (p ∷ ps) = go (ended_each ends each ps) (ends p) refl where
  go : AreShownEnds (filter_map (end_of ends) ps) → (o : Option Outcome) → ends p ≡ o
      → AreShownEnds (cons_option (option_map (λ (outcome : Outcome). record { id = p.id; outcome = outcome }) (ends p)) (filter_map (end_of ends) ps))
  go more None is = subst (λ o. AreShownEnds (cons_option (option_map (λ (outcome : Outcome). record { id = p.id; outcome = outcome }) o) (filter_map (end_of ends) ps))) (sym is) more
  go more (Some o) is = subst (λ z. AreShownEnds (cons_option (option_map (λ (outcome : Outcome). record { id = p.id; outcome = outcome }) z) (filter_map (end_of ends) ps))) (sym is) (each p o is, more)

some_outcome : (a b : Outcome) → ◌≡◌ {A = Option Outcome} (Some a) (Some b) → a ≡ b
some_outcome a b e = cc

-- one of two
one_of : (b : Bool) (x y o : Outcome) → IsShownOutcome x → IsShownOutcome y → cond b (Some x) (Some y) ≡ Some o → IsShownOutcome o
one_of true x y o h k e = subst IsShownOutcome (some_outcome x o e) h
one_of false x y o h k e = subst IsShownOutcome (some_outcome y o e) k

one_if : (b : Bool) (x o : Outcome) → IsShownOutcome x → cond b (Some x) None ≡ Some o → IsShownOutcome o
one_if true x o h e = subst IsShownOutcome (some_outcome x o e) h
one_if false x o h e = absurd cc

module _ (r : Replica) where
  removed_end : (p : Proposal) (o : Outcome) → removed_with p ≡ Some o → IsShownOutcome o
  removed_end p o e = one_of (is_proposed p.stage) (outcomes.Ambiguous (causes.Removed p.max)) (outcomes.Refused NoReplica) o tt tt e

  lost_end : (p : Proposal) (o : Outcome) → lost_under (lease_of r) p ≡ Some o → IsShownOutcome o
  lost_end p o e = one_of (is_proposed p.stage) (outcomes.Ambiguous (causes.Restarted p.max)) (outcomes.Refused (NotLeaseHolder (lease_of r))) o tt tt e

  overtaken_end : (passed : ℕ) (p : Proposal) (o : Outcome) → overtaken_by passed p ≡ Some o → IsShownOutcome o
  overtaken_end passed p o e = one_if (goes_back passed p) (outcomes.Ambiguous (causes.Snapshot p.max passed)) o tt e

  -- a message, with the snapshot that it brings
  message_end : (draft : Draft AppliedState) (ticks round : ℕ) (t : Told) → AreShownEnds t.ended → AreShownEnds (delivered_by r draft ticks round t).outcomes
  message_end draft ticks round t h =
      cond_both (has_new_leader r.raft.head draft.state.head) _ _ (λ (z : Done). AreShownEnds z.outcomes)
      (λ _. moves_end ticks round t (refresh_moves (refreshing t.replica ticks true)) h) (λ _. h)

  taken_end : (o : Option (ℕ × AppliedState)) → AreShownEnds (with_taken r o).ended
  taken_end None = tt
  taken_end (Some taken) = ended_each (overtaken_by taken.1.lai) (overtaken_end taken.1.lai) r.pending

  settled_end : (c : Command) (v : Verdict) → AreShownEnds (settled r c v).ended
  settled_end c verdicts.Took = (tt, tt)
  settled_end c (verdicts.OldLease now) = (tt, tt)
  settled_end c (verdicts.OldIndex lai) = tt
  settled_end c verdicts.LeaseMoved = tt
  settled_end c verdicts.Nothing = tt

  proposer_end : (p : Payload) → AreShownEnds (proposer_told r p).ended
  proposer_end payloads.Nothing = tt
  proposer_end (payloads.Write c) = cond_both (is_own r c) (settled r c (command_verdict r.applied.state c)) (untold r) (λ (z : Told). AreShownEnds z.ended) (λ _. settled_end c (command_verdict r.applied.state c)) (λ _. tt)
  proposer_end (payloads.Lease ask) = tt

  -- each event of a replica
  pub event_end : (e : ReplicaEvent AppliedState) (ticks round : ℕ) (taken : List Item) → AreShownEnds (event r e ticks round taken).outcomes
  event_end (Admit id request) ticks round taken = go (guarded r request) where
    go : (g : Result Evaluated Refusal) → AreShownEnds (admitted_by r id request g).outcomes
    go (Ok e) = tt
    go (Err why) = tt
  event_end Ask ticks round taken =
      cond_both (is_held r ticks) (leaves r (answers.LeaseHeld (lease_of r) ticks)) (answers_ask r (ask_for r r.raft.head.node (expiry_of r ticks))) (λ (z : Done). AreShownEnds z.outcomes) (λ _. tt) (λ _. tt)
  event_end (Transfer to) ticks round taken =
      cond_both (holds_lease r) (answers_ask r (ask_for r to (ticks + lease_ticks))) (leaves r (answers.Refused (NotLeaseHolder (lease_of r)))) (λ (z : Done). AreShownEnds z.outcomes) (λ _. tt) (λ _. tt)
  event_end Collect ticks round taken = tt
  event_end Flush ticks round taken = moves_end ticks round (untold (emptied r (assigning r))) (flush_moves (assigning r)) tt
  event_end Tick ticks round taken =
      let draft = tick r.raft in
      moves_end ticks round (untold r) (refresh_moves (refreshing r ticks (has_new_leader r.raft.head draft.state.head))) tt
  event_end (Deliver from m) ticks round taken = message_end (received r.raft from m) ticks round (with_taken r (received r.raft from m).taken) (taken_end (received r.raft from m).taken)
  event_end Apply ticks round taken = go (payload_of (next_entry r)) where
    go : (o : Option Payload) → AreShownEnds (applied_where r o).outcomes
    go None = tt
    go (Some p) = proposer_end p
  event_end Cut ticks round taken = tt
  event_end Remove ticks round taken = ended_each removed_with removed_end r.pending
  event_end (Peek key) ticks round taken = tt
  event_end Restart ticks round taken = ended_each (lost_under (lease_of r)) lost_end r.pending

-- each event of a node
opened_ends : (n : Node) (o : Option AppliedState) → AreShownEnds n.outcomes → AreShownEnds (opened n o).outcomes
opened_ends n None h = h
opened_ends n (Some s) h = go (seat n s.desc.id) where
  go : (status : Status) → AreShownEnds (opened_by n s status).outcomes
  go Absent = h
  go (Live r) = h
  go (Removed applied) = h

replica_ends : (n : Node) (range : ℕ) (r : Replica) (e : ReplicaEvent AppliedState) (taken : List Item) → AreShownEnds n.outcomes → AreShownEnds (after_replica n range e (event r e n.ticks n.rounds taken)).outcomes
replica_ends n range r e taken h =
    let d : Done = event r e n.ticks n.rounds taken in
    opened_ends (after_turn n range (status_after e d.replica) d) d.right (all_both IsShownEnded n.outcomes d.outcomes h (event_end r e n.ticks n.rounds taken))

status_ends : (n : Node) (range : ℕ) (e : ReplicaEvent AppliedState) (taken : List Item) → AreShownEnds n.outcomes → (status : Status) → AreShownEnds (by_status n range e taken status).node.outcomes
status_ends n range e taken h Absent = h
status_ends n range e taken h (Live r) = replica_ends n range r e taken h
status_ends n range e taken h (Removed applied) = h

live_ends : (n : Node) (range : ℕ) (e : ReplicaEvent AppliedState) → AreShownEnds n.outcomes → (status : Status) → AreShownEnds (live_turn e n range status).outcomes
live_ends n range e h Absent = h
live_ends n range e h (Live r) = replica_ends n range r e [] h
live_ends n range e h (Removed applied) = h

all_ends : (e : ReplicaEvent AppliedState) (ranges : List ℕ) (n : Node) → AreShownEnds n.outcomes → AreShownEnds (all_turns e n ranges).outcomes
all_ends e [] n h = h
all_ends e (range ∷ ranges) n h = all_ends e ranges (live_turn e n range (seat n range)) (live_ends n range e h (seat n range))

message_ends : (n : Node) (from range : ℕ) (m : Message AppliedState) → AreShownEnds n.outcomes → (status : Status) → AreShownEnds (delivered n from range m status).outcomes
message_ends n from range m h Absent = h
message_ends n from range m h (Live r) = replica_ends n range r (Deliver from m) [] h
message_ends n from range m h (Removed applied) = h

step_ends : (n : Node) (e : Event AppliedState) (taken : List Item) → AreShownEnds n.outcomes → AreShownEnds (step n e taken).node.outcomes
step_ends n (events.Admit range id request) taken h = status_ends (with_request n request) range (Admit id request) [] h (seat n range)
step_ends n (events.Ask range) taken h = status_ends n range Ask [] h (seat n range)
step_ends n (events.Transfer range to) taken h = status_ends n range (Transfer to) [] h (seat n range)
step_ends n (events.Collect range) taken h = status_ends n range Collect taken h (seat n range)
step_ends n (events.Flush range) taken h = status_ends n range Flush [] h (seat n range)
step_ends n events.Tick taken h = all_ends Tick range_numbers (record n { ticks = n.ticks + 1 }) h
step_ends n (events.Deliver from range number m) taken h = message_ends n from range m h (seat n range)
step_ends n (events.Apply range) taken h = status_ends n range Apply [] h (seat n range)
step_ends n (events.Cut range) taken h = status_ends n range Cut [] h (seat n range)
step_ends n (events.Remove range) taken h = status_ends n range Remove [] h (seat n range)
step_ends n (events.Peek range key) taken h = status_ends n range (Peek key) [] h (seat n range)
step_ends n events.Restart taken h = all_ends Restart range_numbers n h
step_ends n events.Round taken h = h

-- of all nodes
abbrev pub AllShownEnds : World → Type 0
AllShownEnds w = (node : ℕ) (n : Node) → node_of w node ≡ Some n → AreShownEnds n.outcomes

scene_ends : (w : World) (x : Scene) → AllShownEnds w → AllShownEnds (happens w x)
scene_ends w x h = ⊎_elim
    (λ (same : happens w x ≡ w). subst AllShownEnds (sym same) h)
    (λ (k : Happened w x). subst AllShownEnds (sym k.is) (λ node n has. ⊎_elim
    (λ (same : node ≡ x.node).
    let new = (step k.n k.event (taken_in x.what)).node in
    subst (λ (z : Node). AreShownEnds z.outcomes)
    (one_node (with_node w x.node new) x.node new n (with_same w x.node k.n new k.has) (subst (λ q. node_of (with_node w x.node new) q ≡ Some n) same has))
    (step_ends k.n k.event (taken_in x.what) (h x.node k.n k.has)))
    (λ (ne : node ≡ x.node → ⊥). h node n (sym (with_other w x.node (step k.n k.event (taken_in x.what)).node node ne) ∙ has))
    (cases_eq node x.node)))
    (happened w x)

run_ends : (xs : Schedule) (w : World) → AllShownEnds w → AllShownEnds (run w xs)
run_ends [] w h = h
run_ends (x ∷ xs) w h = run_ends xs (happens w x) (scene_ends w x h)

pub reached_ends : (nodes : ℕ) (w : World) → IsReached nodes w → AllShownEnds w
reached_ends nodes w r = subst AllShownEnds r.reached (run_ends r.schedule (first_world nodes) first) where
  first : AllShownEnds (first_world nodes)
  first node n has = subst (λ (z : Node). AreShownEnds z.outcomes) (sym (first_at nodes node n has)) tt
