-- The part of a seat's event before the list grows, for each event: flush and tick, application, removal
-- and restart, and those that are nothing to the machine.
use Rattle.std.proofs.Common.{◌≡◌, ℕ, suc, ◌+◌, ◌<◌, false, cond, Option, None, Some, List, [], ◌∷◌, ◌++◌, map, length, refl, sym, ap, subst, ◌∙◌, arith}
use Rattle.std.specs.Prelude.{filter_map, is_none, max, ◌&&◌, ◌==◌}
use Rattle.std.specs.List.{filter, list_any, cons_option, AllByRecursion}
use Rattle.std.specs.Option.{option_map, option_map_or}
use Rattle.std.proofs.lemmas.Bool.{cond_both}
use Rattle.rp_base.specs.declared.ids.CmdId.{CmdId}
use Rattle.rp_base.specs.declared.items.Item.{Item}
use Rattle.rp_base.specs.declared.items.Item.TheVariants as items
use Rattle.rp_base.specs.declared.leases.LeaseAsk.{LeaseAsk}
use Rattle.rp_base.proofs.IdLaws.{apart_not_same}
use Rattle.rp_codec.specs.Spelling.{spelling}
use Rattle.rp_flush.specs.Assigns.{numbered, once, ids_of, waits_under}
use Rattle.rp_flush.specs.declared.assigns.Assigned.{Assigned}
use Rattle.rp_raftstep.specs.RaftState.{RaftState}
use Rattle.rp_raftstep.specs.Step.{tick}
use Rattle.rp_request.specs.Applied.{AppliedState, command_verdict}
use Rattle.rp_request.specs.Fits.{FitsAsk}
use Rattle.rp_request.specs.declared.commands.Payload.{Payload}
use Rattle.rp_request.specs.declared.commands.Payload.TheVariants as payloads
use Rattle.rp_request.specs.declared.outcomes.Outcome.{Outcome}
use Rattle.rp_request.specs.declared.outcomes.Outcome.TheVariants as outcomes
use Rattle.rp_request.specs.declared.outcomes.Ambiguity.TheVariants as causes
use Rattle.rp_request.specs.declared.outcomes.Refusal.TheVariants.{NoReplica, NotLeaseHolder}
use Rattle.rp_latch.specs.declared.holds.Hold.{Hold}
use Rattle.rp_request.specs.declared.verdicts.Verdict.{Verdict}
use Rattle.rp_request.specs.declared.verdicts.Verdict.TheVariants as verdicts
use Rattle.rp_pending.specs.declared.proposals.Proposal.{Proposal}
use Rattle.rp_pending.specs.declared.refreshes.Refresh.{Refresh}
use Rattle.rp_pending.specs.Proposals.{proposal_of, is_proposed}
use Rattle.rp_pending.specs.Refreshes.{waiting_of}
use Rattle.rp_rangesafe.specs.Along.{entry}
use Rattle.rp_rangesafe.specs.Attempts.{Attempts, at_node}
use Rattle.rp_rangesafe.specs.World as machine
use Rattle.rp_rangesafe.specs.World.{MayCommit, here, with_node, after_entry, removed, restarted}
use Rattle.rp_rangesafe.proofs.Tables.{node_same}
use Rattle.rp_events.specs.declared.answers.Ended.{Ended}
use Rattle.rp_events.specs.declared.replica_events.ReplicaEvent.TheVariants.{Flush, Tick}
use Rattle.rp_events.specs.Replicas.{Replica, Told, untold, lease_of, has_new_leader}
use Rattle.rp_events.specs.declared.moves.Move.{Move}
use Rattle.rp_events.specs.declared.moves.Move.TheVariants.{HandsOut, GivesUp, TakesBack, Repeats}
use Rattle.rp_events.specs.Moves.{moved_all, payloads_of}
use Rattle.rp_events.specs.Flushes.{assigning, emptied, flush_moves}
use Rattle.rp_events.specs.Refreshes.{refreshing, refresh_moves}
use Rattle.rp_events.specs.LeaseAsks.{joined, joined_all, same_ask, without_first}
use Rattle.rp_events.specs.Ends.{end_of, ends_all, removed_with, lost_under, restarts}
use Rattle.rp_events.specs.Applications.{settled, proposer_told, applied_one}
use Rattle.rp_events.specs.ReplicaEvents.{event}
use Rattle.rp_events.specs.Nodes as nodes
use Rattle.rp_events.specs.Nodes.{Absent, Live}
use Rattle.rp_events.specs.Lists.{base_of}
use Rattle.rp_seats.specs.Views.{read}
use Rattle.rp_seats.specs.Standing.{TellsOf, HasNone, AreDistinct, PendingOk, SeatOk}
use Rattle.rp_seats.specs.Steps.{tell, told_after, IsEnd, EndEach, GivesAbove}
use Rattle.rp_seats.specs.Turned.{FitsPending, SeatTurned}
use Rattle.rp_seats.proofs.Turns.{moves_keep, proposer_keeps}
use Rattle.rp_seats.proofs.Moves.{moves_steps, bytes_may, found_tells}
use Rattle.rp_seats.proofs.Ends.{ends_beside, removal_ends, restart_ends, none_left_over, all_found, AllFound}
use Rattle.rp_seats.proofs.Told.{proposer_beside}

-- an event that changes nothing of what the machine has
pub quiet_turn : (node range : ℕ) (h : machine.World) (told : CmdId → Option Outcome) (status : nodes.Status) → SeatOk h node range status told → SeatTurned node range h told status [] []
quiet_turn node range h told status s = record { events = []; lawful = tt; own = tt; quiet = tt; log = refl; seat = s; ends = tt; may = tt }

-- items that join the inbox
item_seat : (node range : ℕ) (h : machine.World) (told : CmdId → Option Outcome) (r : Replica) (item : Item) → SeatOk h node range (Live r) told → SeatOk h node range (Live (joined r item)) told
item_seat node range h told r (items.Write id) s = record { stands = s.stands; pending = s.pending }
item_seat node range h told r (items.Lease ask) s = cond_both (list_any (λ x. same_ask x ask) r.asks) (record r { inbox = r.inbox ++ items.Lease ask ∷ []; asks = without_first ask r.asks }) r (λ (z : Replica). SeatOk h node range (Live z) told) (λ _. record { stands = s.stands; pending = s.pending }) (λ _. s)

pub items_seat : (node range : ℕ) (h : machine.World) (told : CmdId → Option Outcome) (r : Replica) (taken : List Item) → SeatOk h node range (Live r) told → SeatOk h node range (Live (joined_all r taken)) told
items_seat node range h told r [] s = s
items_seat node range h told r (item ∷ more) s = items_seat node range h told (joined r item) more (item_seat node range h told r item s)

-- moves, and what is handed over behind them
pub handed_turn : (node range : ℕ) (h : machine.World) (told : CmdId → Option Outcome) (ticks round : ℕ) (t : Told) (moves : List Move) (st : RaftState) (asks : List LeaseAsk) (ids : List CmdId)
    → SeatOk h node range (Live t.replica) (told_after told t.ended) → EndEach told t.ended → GivesAbove moves → here h node ≡ t.replica.applied.state
    → AllByRecursion FitsAsk asks → FitsPending (moved_all ticks round t moves).replica.pending
    → SeatTurned node range h told (Live (record (moved_all ticks round t moves).replica { raft = st })) (moved_all ticks round t moves).ended
    (map spelling (payloads_of asks (moved_all ticks round t moves).replica.pending ids))
handed_turn node range h told ticks round t moves st asks ids s fin above state asks_fit fits =
    let u : Told = moved_all ticks round t moves in
    let m = moves_steps node h told ticks round t moves above (ap (λ (z : AppliedState). z.lai) state) s.pending fin in
    let k : machine.World = record h { attempt = m.attempts } in
    let kept = moves_keep ticks round t moves in
    record {
      events = m.steps.events;
      lawful = m.steps.lawful;
      own = m.steps.own;
      quiet = m.steps.quiet;
      log = ap (λ (z : machine.World). z.log) m.steps.leads;
      seat = subst (λ z. SeatOk z node range (Live (record u.replica { raft = st })) (told_after told u.ended)) (sym m.steps.leads)
          (record {
            stands = (s.stands.0 ∙ sym (ap (λ z. z.0.index) kept), s.stands.1, s.stands.2 ∙ sym (ap (λ z. z.1) kept));
            pending = record { tells = m.pending.tells; distinct = m.pending.distinct; held = m.pending.held };
          });
      ends = m.ended;
      may = subst (λ z. AllByRecursion (λ bytes. MayCommit z (read bytes)) (map spelling (payloads_of asks u.replica.pending ids))) (sym m.steps.leads)
          (bytes_may node k u.replica.pending u.replica.latches (told_after told u.ended) m.pending fits asks asks_fit ids);
    }

-- the moves of a flush and of a refresh
ups_above : (ids : List CmdId) (ms : List Move) → GivesAbove ms → GivesAbove (map GivesUp ids ++ ms)
ups_above [] ms h = h
ups_above (id ∷ ids) ms h = ups_above ids ms h

numbered_above : (last : ℕ) (ids : List CmdId) → GivesAbove (map (λ (write : CmdId × ℕ). HandsOut write.0 write.1) (numbered last ids))
numbered_above last [] = tt
numbered_above last (id ∷ ids) = (omega arith, numbered_above (last + 1) ids)

backs_above : (ids : List CmdId) (ms : List Move) → GivesAbove ms → GivesAbove (map TakesBack ids ++ ms)
backs_above [] ms h = h
backs_above (id ∷ ids) ms h = backs_above ids ms h

agains_above : (ids : List CmdId) → GivesAbove (map Repeats ids)
agains_above [] = tt
agains_above (id ∷ ids) = agains_above ids

pub refresh_above : (f : Refresh) → GivesAbove (refresh_moves f)
refresh_above f = backs_above f.back (map Repeats f.again) (agains_above f.again)

module _ (node range : ℕ) (h : machine.World) (told : CmdId → Option Outcome) (r : Replica) (s : SeatOk h node range (Live r) told) (state : here h node ≡ r.applied.state) where
  pub flush_turn : (ticks round : ℕ) (taken : List Item) → AllByRecursion FitsAsk (assigning r).leases → FitsPending (event r Flush ticks round taken).replica.pending
      → SeatTurned node range h told (Live (event r Flush ticks round taken).replica) (event r Flush ticks round taken).outcomes (event r Flush ticks round taken).proposed
  flush_turn ticks round taken asks_fit fits =
      let a : Assigned = assigning r in
      handed_turn node range h told ticks round (untold (emptied r a)) (flush_moves a) (event r Flush ticks round taken).replica.raft a.leases (map (λ write. write.0) a.writes)
      (record { stands = s.stands; pending = s.pending }) tt
      (ups_above a.refused (map (λ write. HandsOut write.0 write.1) a.writes) (numbered_above (max r.assigned r.applied.state.lai) (filter (waits_under (waiting_of r.pending) (lease_of r).seq) (once (ids_of r.inbox)))))
      state asks_fit fits

  pub tick_turn : (ticks round : ℕ) (taken : List Item) → FitsPending (event r Tick ticks round taken).replica.pending
      → SeatTurned node range h told (Live (event r Tick ticks round taken).replica) (event r Tick ticks round taken).outcomes (event r Tick ticks round taken).proposed
  tick_turn ticks round taken fits =
      let f : Refresh = refreshing r ticks (has_new_leader r.raft.head (tick {S = AppliedState} r.raft).state.head) in
      handed_turn node range h told ticks round (untold r) (refresh_moves f) (event r Tick ticks round taken).replica.raft [] f.again
      s tt (refresh_above f) state tt fits

  -- what an application ends was pending
  proposer_ends : (p : Payload) → EndEach told (proposer_told r p).ended
  proposer_ends payloads.Nothing = tt
  proposer_ends (payloads.Lease ask) = tt
  proposer_ends (payloads.Write c) = by_found (proposal_of c.id r.pending) refl where
    by_verdict : told c.id ≡ Some outcomes.Pending → (v : Verdict) → EndEach told (settled r c v).ended
    by_verdict pending verdicts.Took = (pending, tt, tt)
    by_verdict pending (verdicts.OldLease seq) = (pending, tt, tt)
    by_verdict pending (verdicts.OldIndex lai) = tt
    by_verdict pending verdicts.LeaseMoved = tt
    by_verdict pending verdicts.Nothing = tt

    by_found : (o : Option Proposal) → proposal_of c.id r.pending ≡ o
        → EndEach told (cond (option_map_or (λ (p : Proposal). is_proposed p.stage && p.max == c.max) o false) (settled r c (command_verdict r.applied.state c)) (untold r)).ended
    by_found None found = tt
    by_found (Some p) found =
        cond_both (is_proposed p.stage && p.max == c.max) (settled r c (command_verdict r.applied.state c)) (untold r) (λ z. EndEach told z.ended)
        (λ _. by_verdict (found_tells h.attempt node r.pending r.latches told s.pending c.id p found).pending (command_verdict r.applied.state c))
        (λ _. tt)

  pub apply_turn : (p : Payload) → h.index node < length h.log → entry h.log (h.index node) ≡ p
      → SeatTurned node range h told (Live (applied_one r p).replica) (applied_one r p).outcomes []
  apply_turn p within is =
      let kept = proposer_keeps r p in
      let beside = proposer_beside h.attempt node r told s.pending p in
      record {
        events = machine.Apply node ∷ [];
        lawful = ((s.stands.1, within), tt);
        own = (refl, tt);
        quiet = tt;
        log = refl;
        seat = record {
          stands = (
            ap (λ i. i + base_of range) (node_same h.index node (suc (h.index node))) ∙ (let at = s.stands.0 in let e : suc (h.index node) + base_of range ≡ r.applied.index + 1 = omega (arith, at) in e)
                ∙ ap (λ z. z.0.applied + 1) (sym kept),
            s.stands.1,
            s.stands.2 ∙ sym (ap (λ z. z.1) kept),
          );
          pending = subst (λ f. PendingOk f node (applied_one r p).replica.pending (applied_one r p).replica.latches (told_after told (applied_one r p).outcomes))
              (ap (λ b. after_entry node b p h.attempt) (sym state) ∙ ap (λ q. after_entry node (here h node) q h.attempt) (sym is))
              (record { tells = beside.tells; distinct = beside.distinct; held = beside.held });
        };
        ends = proposer_ends p;
        may = tt;
      }

  -- what ends in a removal or a restart was pending
  ends_each : (ends : Proposal → Option Outcome) → ((p : Proposal) (o : Outcome) → ends p ≡ Some o → IsEnd o) → (ps : List Proposal) (t : CmdId → Option Outcome)
      → AreDistinct ps → AllByRecursion (λ (p : Proposal). t p.id ≡ Some outcomes.Pending) ps → EndEach t (filter_map (end_of ends) ps)
  ends_each ends is [] t d pending = tt
  ends_each ends is (p ∷ ps) t d pending = go (ends p) refl (ends_each ends is ps t d.1 pending.1) (λ u. ends_each ends is ps u d.1) where
    others : (e : Ended) → e.id ≡ p.id → (qs : List Proposal) → HasNone p.id qs → AllByRecursion (λ (q : Proposal). t q.id ≡ Some outcomes.Pending) qs
        → AllByRecursion (λ (q : Proposal). tell t e q.id ≡ Some outcomes.Pending) qs
    others e same [] h k = tt
    others e same (q ∷ qs) h k =
        (ap (λ b. cond b (Some e.outcome) (t q.id)) (apart_not_same q.id e.id (λ z. h.0 (sym (z ∙ same)))) ∙ k.0, others e same qs h.1 k.1)

    go : (x : Option Outcome) → ends p ≡ x → EndEach t (filter_map (end_of ends) ps)
        → ((u : CmdId → Option Outcome) → AllByRecursion (λ (q : Proposal). u q.id ≡ Some outcomes.Pending) ps → EndEach u (filter_map (end_of ends) ps))
        → EndEach t (cons_option (option_map (λ outcome. record { id = p.id; outcome = outcome }) x) (filter_map (end_of ends) ps))
    go None e plain more = plain
    go (Some o) e plain more = (pending.0, is p o e, more (tell t (record { id = p.id; outcome = o })) (others (record { id = p.id; outcome = o }) refl ps d.0 pending.1))

  -- each proposal of the list was told that it is pending
  all_told : (qs : List Proposal) → AllFound (λ p. None) r.pending qs → AllByRecursion (λ (p : Proposal). told p.id ≡ Some outcomes.Pending) qs
  all_told [] f = tt
  all_told (q ∷ qs) f = ((found_tells h.attempt node r.pending r.latches told s.pending q.id q f.0).pending, all_told qs f.1)

  pub ended_were_pending : (ends : Proposal → Option Outcome) → ((p : Proposal) (o : Outcome) → ends p ≡ Some o → IsEnd o) → EndEach told (ends_all ends r).ended
  ended_were_pending ends is = ends_each ends is r.pending told s.pending.distinct (all_told r.pending (all_found (λ p. None) r.pending s.pending.distinct))

  some_is : (a b : Outcome) → ◌≡◌ {A = Option Outcome} (Some a) (Some b) → a ≡ b
  some_is a b e = cc

  removal_is_end : (p : Proposal) (o : Outcome) → removed_with p ≡ Some o → IsEnd o
  removal_is_end p o =
      cond_both (is_proposed p.stage) (Some (outcomes.Ambiguous (causes.Removed p.max))) (Some (outcomes.Refused NoReplica)) (λ z. z ≡ Some o → IsEnd o)
      (λ _ e. subst IsEnd (some_is (outcomes.Ambiguous (causes.Removed p.max)) o e) tt)
      (λ _ e. subst IsEnd (some_is (outcomes.Refused NoReplica) o e) tt)

  restart_is_end : (p : Proposal) (o : Outcome) → lost_under (lease_of r) p ≡ Some o → IsEnd o
  restart_is_end p o =
      cond_both (is_proposed p.stage) (Some (outcomes.Ambiguous (causes.Restarted p.max))) (Some (outcomes.Refused (NotLeaseHolder (lease_of r)))) (λ z. z ≡ Some o → IsEnd o)
      (λ _ e. subst IsEnd (some_is (outcomes.Ambiguous (causes.Restarted p.max)) o e) tt)
      (λ _ e. subst IsEnd (some_is (outcomes.Refused (NotLeaseHolder (lease_of r))) o e) tt)

  removal_ends_all : (p : Proposal) → is_none (removed_with p) ≡ false
  removal_ends_all p =
      cond_both (is_proposed p.stage) (Some (outcomes.Ambiguous (causes.Removed p.max))) (Some (outcomes.Refused NoReplica)) (λ z. is_none z ≡ false) (λ _. refl) (λ _. refl)

  restart_ends_all : (p : Proposal) → is_none (lost_under (lease_of r) p) ≡ false
  restart_ends_all p =
      cond_both (is_proposed p.stage) (Some (outcomes.Ambiguous (causes.Restarted p.max))) (Some (outcomes.Refused (NotLeaseHolder (lease_of r)))) (λ z. is_none z ≡ false) (λ _. refl) (λ _. refl)

  -- nothing is left of the list
  emptied_pending : (f : Attempts) (ps : List Proposal) (latches : List Hold) (t : CmdId → Option Outcome) → ps ≡ [] → PendingOk f node ps latches t → PendingOk f node [] [] t
  emptied_pending f ps latches t is ok = record { tells = subst (λ qs. (id : CmdId) → TellsOf node (f id) (proposal_of id qs) (t id)) is ok.tells; distinct = tt; held = refl }

  pub remove_turn : SeatTurned node range h told (nodes.Removed r.applied) (ends_all removed_with r).ended []
  remove_turn = record {
    events = machine.Remove node ∷ [];
    lawful = (s.stands.1, tt);
    own = (refl, tt);
    quiet = tt;
    log = refl;
    seat = record {
      stands = (s.stands.0, node_same h.alive node false);
      pending = emptied_pending (at_node node removed h.attempt) (ends_all removed_with r).replica.pending (ends_all removed_with r).replica.latches (told_after told (ends_all removed_with r).ended)
          (none_left_over removed_with removal_ends_all r.pending)
          (ends_beside removed_with removed removal_ends node h.attempt r.pending r.latches told s.pending);
    };
    ends = ended_were_pending removed_with removal_is_end;
    may = tt;
  }

  pub restart_turn : SeatTurned node range h told (Live (restarts r).replica) (ends_all (lost_under (lease_of r)) r).ended []
  restart_turn = record {
    events = machine.Restart node ∷ [];
    lawful = (s.stands.1, tt);
    own = (refl, tt);
    quiet = tt;
    log = refl;
    seat = record {
      stands = (s.stands.0, s.stands.1, node_same h.barrier node (here h node).lease.seq ∙ ap (λ (z : AppliedState). z.lease.seq) state);
      pending = emptied_pending (at_node node restarted h.attempt) (ends_all (lost_under (lease_of r)) r).replica.pending (ends_all (lost_under (lease_of r)) r).replica.latches
          (told_after told (ends_all (lost_under (lease_of r)) r).ended)
          (none_left_over (lost_under (lease_of r)) restart_ends_all r.pending)
          (ends_beside (lost_under (lease_of r)) restarted (restart_ends (lease_of r)) node h.attempt r.pending r.latches told s.pending);
    };
    ends = ended_were_pending (lost_under (lease_of r)) restart_is_end;
    may = tt;
  }
