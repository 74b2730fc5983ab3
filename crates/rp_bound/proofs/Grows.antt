-- How far each event of a replica lets its numbers grow.
use Rattle.std.proofs.Common.{◌≡◌, ℕ, ◌+◌, ◌≤◌, Bool, true, not, Option, None, Some, Result, Ok, Err, List, [], ◌∷◌, ◌++◌, map, length, refl, sym, ap, subst, arith}
use Rattle.std.specs.Prelude.{is_none, nat_le, ◌&&◌}
use Rattle.std.specs.List.{AllByRecursion}
use Rattle.std.proofs.lemmas.Bool.{cond_both}
use Rattle.std.proofs.lemmas.List.{length-append}
use Rattle.rp_base.proofs.Elements.{all_append, all_filter}
use Rattle.rp_base.specs.declared.ids.CmdId.{CmdId}
use Rattle.rp_base.specs.declared.items.Item.{Item}
use Rattle.rp_base.specs.declared.leases.LeaseAsk.{LeaseAsk}
use Rattle.rp_raftstep.specs.declared.messages.Message.{Message}
use Rattle.rp_raftstep.specs.Step.{Draft, tick, received}
use Rattle.rp_request.specs.Applied.{AppliedState, command_verdict}
use Rattle.rp_request.specs.declared.commands.Payload.{Payload}
use Rattle.rp_request.specs.declared.commands.Payload.TheVariants as payloads
use Rattle.rp_request.specs.declared.commands.Command.{Command}
use Rattle.rp_request.specs.declared.evaluations.Evaluated.{Evaluated}
use Rattle.rp_request.specs.declared.outcomes.Refusal.{Refusal}
use Rattle.rp_request.specs.declared.outcomes.Refusal.TheVariants.{NotLeaseHolder}
use Rattle.rp_request.specs.declared.requests.Request.{Request}
use Rattle.rp_request.specs.declared.verdicts.Verdict.{Verdict}
use Rattle.rp_request.specs.declared.verdicts.Verdict.TheVariants as verdicts
use Rattle.rp_pending.specs.declared.proposals.Proposal.{Proposal}
use Rattle.rp_pending.specs.Proposals.{has_id, proposed, waiting_again}
use Rattle.rp_pending.specs.Refreshes.{goes_back}
use Rattle.rp_events.specs.declared.answers.EventAnswer.TheVariants as answers
use Rattle.rp_events.specs.declared.replica_events.ReplicaEvent.{ReplicaEvent}
use Rattle.rp_events.specs.declared.replica_events.ReplicaEvent.TheVariants.{Admit, Ask, Transfer, Collect, Flush, Tick, Deliver, Apply, Cut, Remove, Peek, Restart}
use Rattle.rp_events.specs.Replicas.{Replica, Done, Told, untold, leaves, lease_of, holds_lease, has_new_leader}
use Rattle.rp_events.specs.Admissions.{guarded, admitted_by, proposal}
use Rattle.rp_events.specs.Moves.{moved_all, hands_to_raft}
use Rattle.rp_events.specs.Flushes.{assigning, emptied, flush_moves, flushed}
use Rattle.rp_events.specs.Refreshes.{refreshing, refresh_moves, ticked, delivered, refreshed_by, with_taken}
use Rattle.rp_events.specs.LeaseAsks.{is_held, expiry_of, ask_for, answers_ask, lease_ticks, joined_all}
use Rattle.rp_events.specs.Ends.{ends_all, overtaken_by, removed_with}
use Rattle.rp_events.specs.Applications.{is_own, settled, proposer_told, payload_of, next_entry, applied_where}
use Rattle.rp_events.specs.ReplicaEvents.{event}
use Rattle.rp_seats.specs.Views.{read}
use Rattle.rp_turns.specs.Fitting.{FitEach, IsFit}
use Rattle.rp_turns.proofs.Widths.{each_changed, each_left, flushed_fits, ticked_fits, delivered_fits, fits_flushed, fits_ticked, fits_delivered}
use Rattle.rp_bound.specs.Numbers.{AskBelow, ItemBelow, ProposalBelow, PayloadBelow, ReplicaBelow}
use Rattle.rp_bound.proofs.Counts.{filter_short, back_short, proposal_more, below_more, Keeps, keeps_itself, keeps_further, moves_keep, flush_gain, refresh_gain, again_keeps, one_more, all_joined, bytes_below, asks_low, assigning_low}

-- what an event leaves of a replica: the greatest index, which with what waits has grown by so much at
-- most, and what is handed to Raft
pub record After (top seqs expiry most gain : ℕ) (r s : Replica) (proposed : List (List ℕ)) : Type 0 where
  pub new : ℕ
  pub above : top ≤ new
  pub below : ReplicaBelow new seqs expiry most s
  pub room : new + length s.inbox ≤ top + length r.inbox + gain
  pub handed : AllByRecursion (λ bytes. PayloadBelow new seqs (read bytes)) proposed

-- an event that is no admission
abbrev pub IsOther : ReplicaEvent AppliedState → Type 0
IsOther (Admit id request) = ⊥
IsOther e = Unit {0}

-- how a proposal's numbers stay below as it moves
hands_below : (top seqs max ticks round : ℕ) (p : Proposal) → max ≤ top → ProposalBelow top seqs p → ProposalBelow top seqs (proposed max ticks round p)
hands_below top seqs max ticks round p le b = (le, b.1)

again_below : (top seqs : ℕ) (p : Proposal) → ProposalBelow top seqs p → ProposalBelow top seqs (waiting_again p)
again_below top seqs p b = b

own_below : (top seqs : ℕ) (p : Proposal) → ProposalBelow top seqs p → p.max ≤ top
own_below top seqs p b = b.0

module _ (top seqs ticks most : ℕ) (r : Replica) (b : ReplicaBelow top seqs (ticks + 40) most r) (fit : IsFit r) (lai : r.applied.state.lai ≤ top) (lease : (lease_of r).seq ≤ seqs) where
  abbrev Left : Done → Type 0
  Left d = After top seqs (ticks + 40) most (most + 16) r d.replica d.proposed

  abbrev P : Proposal → Type 0
  P = ProposalBelow top seqs

  -- no index is given, and nothing handed to Raft
  quiet : (s : Replica) (gain : ℕ) → ReplicaBelow top seqs (ticks + 40) most s → length s.inbox ≤ length r.inbox + gain → gain ≤ most + 16 → After top seqs (ticks + 40) most (most + 16) r s []
  quiet s gain k items le = record { new = top; above = omega arith; below = k; room = omega (arith, items, le); handed = tt }

  same : (s : Replica) → s.assigned ≡ r.assigned → s.pending ≡ r.pending → s.inbox ≡ r.inbox → s.asks ≡ r.asks → After top seqs (ticks + 40) most (most + 16) r s []
  same s assigned pending inbox asks = quiet s 0
      (record {
        assigned = subst (λ z. z ≤ top) (sym assigned) b.assigned;
        pending = subst (AllByRecursion P) (sym pending) b.pending;
        few = subst (λ (z : List Proposal). length z ≤ most) (sym pending) b.few;
        inbox = subst (AllByRecursion (ItemBelow seqs (ticks + 40))) (sym inbox) b.inbox;
        asks = subst (AllByRecursion (AskBelow seqs (ticks + 40))) (sym asks) b.asks;
      })
      (let e = ap length inbox in omega (arith, e)) (omega arith)

  -- what keeps the rest, with what holds of the proposals
  kept : (new gain : ℕ) (s : Replica) → Keeps seqs (ticks + 40) gain r s → top ≤ new → AllByRecursion (ProposalBelow new seqs) s.pending → ReplicaBelow new seqs (ticks + 40) most s
  kept new gain s k le pending = record {
    assigned = (let a = b.assigned in let e = k.assigned in omega (arith, a, e, le));
    pending = pending;
    few = (let a = b.few in let e = k.few in omega (arith, a, e));
    inbox = k.inbox b.inbox;
    asks = subst (AllByRecursion (AskBelow seqs (ticks + 40))) (sym k.asks) b.asks;
  }

  asked_below : (ask : LeaseAsk) → AskBelow seqs (ticks + 40) ask → After top seqs (ticks + 40) most (most + 16) r (record r { asks = r.asks ++ ask ∷ [] }) []
  asked_below ask a = quiet (record r { asks = r.asks ++ ask ∷ [] }) 0
      (record { assigned = b.assigned; pending = b.pending; few = b.few; inbox = b.inbox; asks = all_append (AskBelow seqs (ticks + 40)) r.asks (ask ∷ []) b.asks (a, tt) })
      (omega arith) (omega arith)

  expiry_low : expiry_of r ticks ≤ ticks + 40
  expiry_low = cond_both (holds_lease r && nat_le (lease_of r).seq r.barrier) 0 (ticks + lease_ticks) (λ z. z ≤ ticks + 40) (λ _. omega arith) (λ _. omega arith)

  -- a flush
  module _ (round : ℕ) where
    abbrev new : ℕ
    new = top + length r.inbox

    abbrev given : Told
    given = moved_all ticks round (untold (emptied r (assigning r))) (flush_moves (assigning r))

    last_below : (assigning r).last ≤ new
    last_below = assigning_low top r lai b.assigned

    given_pending : AllByRecursion (ProposalBelow new seqs) (flushed r ticks round).replica.pending
    given_pending = flushed_fits (ProposalBelow new seqs) (λ k. k ≤ new) (hands_below new seqs) (again_below new seqs) (own_below new seqs) r ticks round
        (λ k le. (let l = last_below in omega (arith, le, l))) (proposal_more top seqs new seqs (omega arith) (omega arith) r.pending b.pending)

    flush_after : Left (flushed r ticks round)
    flush_after =
        let k = moves_keep seqs (ticks + 40) ticks round (untold (emptied r (assigning r))) (flush_moves (assigning r)) in
        let none = flush_gain seqs (ticks + 40) r in
        record {
          new = new;
          above = omega arith;
          below = record {
            assigned = (let e = k.assigned in let l = last_below in omega (arith, e, l));
            pending = given_pending;
            few = (let a = b.few in let e = k.few in omega (arith, a, e));
            inbox = k.inbox tt;
            asks = subst (AllByRecursion (AskBelow seqs (ticks + 40))) (sym k.asks) b.asks;
          };
          room = (let i = k.items in omega (arith, i, none));
          handed = bytes_below new seqs given.replica.pending (fits_flushed r ticks round fit) given_pending (assigning r).leases fit.asks (asks_low seqs (ticks + 40) r.inbox b.inbox)
              (map (λ write. write.0) (assigning r).writes);
        }

    -- a refresh behind what keeps the rest
    refresh_after : (t : Told) (gain : ℕ) → Keeps seqs (ticks + 40) 0 r t.replica → (all : Bool) → (d : Done)
        → d.replica.assigned ≡ (moved_all ticks round t (refresh_moves (refreshing t.replica ticks all))).replica.assigned
        → d.replica.asks ≡ (moved_all ticks round t (refresh_moves (refreshing t.replica ticks all))).replica.asks
        → d.replica.inbox ≡ (moved_all ticks round t (refresh_moves (refreshing t.replica ticks all))).replica.inbox
        → d.replica.pending ≡ (moved_all ticks round t (refresh_moves (refreshing t.replica ticks all))).replica.pending
        → AllByRecursion P d.replica.pending → AllByRecursion (λ bytes. PayloadBelow top seqs (read bytes)) d.proposed → Left d
    refresh_after t gain k all d assigned asks inbox pending each handed =
        let f = refreshing t.replica ticks all in
        let u = (moved_all ticks round t (refresh_moves f)).replica in
        let l = keeps_further seqs (ticks + 40) 0 _ r t.replica u k (moves_keep seqs (ticks + 40) ticks round t (refresh_moves f)) in
        let g = refresh_gain seqs (ticks + 40) f in
        let back = back_short (goes_back t.replica.applied.state.lai) t.replica.pending in
        let low = kept top _ u l (omega arith) (subst (AllByRecursion P) pending each) in
        record {
          new = top;
          above = omega arith;
          below = record {
            assigned = subst (λ z. z ≤ top) (sym assigned) low.assigned;
            pending = each;
            few = subst (λ (z : List Proposal). length z ≤ most) (sym pending) low.few;
            inbox = subst (AllByRecursion (ItemBelow seqs (ticks + 40))) (sym inbox) low.inbox;
            asks = subst (AllByRecursion (AskBelow seqs (ticks + 40))) (sym asks) low.asks;
          };
          room = (let i = l.items in let few = k.few in let m = b.few in let e = ap length inbox in omega (arith, i, few, m, e, g, back));
          handed = handed;
        }

    tick_after : Left (ticked r ticks round)
    tick_after =
        let all = has_new_leader r.raft.head (tick {S = AppliedState} r.raft).state.head in
        let each = ticked_fits P (λ k. k ≤ top) (hands_below top seqs) (again_below top seqs) (own_below top seqs) r ticks round b.pending in
        refresh_after (untold r) 0 (keeps_itself seqs (ticks + 40) r) all (ticked r ticks round) refl refl refl refl each
        (bytes_below top seqs (ticked r ticks round).replica.pending (fits_ticked r ticks round fit.pending) each [] tt tt (refreshing r ticks all).again)

    taken_keeps : (o : Option (ℕ × AppliedState)) → Keeps seqs (ticks + 40) 0 r (with_taken r o).replica
    taken_keeps None = keeps_itself seqs (ticks + 40) r
    taken_keeps (Some taken) = record {
      assigned = refl;
      asks = refl;
      inbox = λ h. h;
      items = omega arith;
      few = filter_short (λ p. is_none (overtaken_by taken.1.lai p)) r.pending;
    }

    deliver_after : (from : ℕ) (m : Message AppliedState) → Left (delivered r from m ticks round)
    deliver_after from m =
        let draft : Draft AppliedState = received r.raft from m in
        let t : Told = with_taken r draft.taken in
        let k = taken_keeps draft.taken in
        cond_both (has_new_leader r.raft.head draft.state.head) (refreshed_by r draft ticks round t (refreshing t.replica ticks true)) (hands_to_raft r draft t [] [])
        (λ (d : Done). AllByRecursion P d.replica.pending → FitEach d.replica.pending → Left d)
        (λ _ each fits. refresh_after t 0 k true (refreshed_by r draft ticks round t (refreshing t.replica ticks true)) refl refl refl refl each
        (bytes_below top seqs (refreshed_by r draft ticks round t (refreshing t.replica ticks true)).replica.pending fits each [] tt tt (refreshing t.replica ticks true).again))
        (λ _ each fits. quiet (hands_to_raft r draft t [] []).replica 0 (after_raft t k each (hands_to_raft r draft t [] []).replica refl refl refl refl) (let i = k.items in omega (arith, i)) (omega arith))
        (delivered_fits P (λ k. k ≤ top) (hands_below top seqs) (again_below top seqs) (own_below top seqs) r from m ticks round b.pending)
        (fits_delivered r from m ticks round fit.pending)
      where
        after_raft : (t : Told) → Keeps seqs (ticks + 40) 0 r t.replica → AllByRecursion P t.replica.pending → (s : Replica)
            → s.assigned ≡ t.replica.assigned → s.asks ≡ t.replica.asks → s.inbox ≡ t.replica.inbox → s.pending ≡ t.replica.pending → ReplicaBelow top seqs (ticks + 40) most s
        after_raft t k each s assigned asks inbox pending =
            let low = kept top 0 t.replica k (omega arith) each in
            record {
              assigned = subst (λ z. z ≤ top) (sym assigned) low.assigned;
              pending = subst (AllByRecursion P) (sym pending) low.pending;
              few = subst (λ (z : List Proposal). length z ≤ most) (sym pending) low.few;
              inbox = subst (AllByRecursion (ItemBelow seqs (ticks + 40))) (sym inbox) low.inbox;
              asks = subst (AllByRecursion (AskBelow seqs (ticks + 40))) (sym asks) low.asks;
            }

  -- an application: an item more at most
  abbrev Settles : Told → Type 0
  Settles t = Keeps seqs (ticks + 40) 1 r t.replica × AllByRecursion P t.replica.pending

  settled_after : (c : Command) (v : Verdict) → Settles (settled r c v)
  settled_after c verdicts.Took = (record { assigned = refl; asks = refl; inbox = λ h. h; items = omega arith; few = filter_short (λ p. not (has_id c.id p)) r.pending }, each_left P c.id r.pending b.pending)
  settled_after c (verdicts.OldLease now) = (record { assigned = refl; asks = refl; inbox = λ h. h; items = omega arith; few = filter_short (λ p. not (has_id c.id p)) r.pending }, each_left P c.id r.pending b.pending)
  settled_after c (verdicts.OldIndex passed) = (again_keeps seqs (ticks + 40) c.id r, each_changed P c.id waiting_again (again_below top seqs) r.pending b.pending)
  settled_after c verdicts.LeaseMoved = (one_more seqs (ticks + 40) r, b.pending)
  settled_after c verdicts.Nothing = (one_more seqs (ticks + 40) r, b.pending)

  proposer_after : (p : Payload) → Settles (proposer_told r p)
  proposer_after payloads.Nothing = (one_more seqs (ticks + 40) r, b.pending)
  proposer_after (payloads.Write c) =
      cond_both (is_own r c) (settled r c (command_verdict r.applied.state c)) (untold r) Settles (λ _. settled_after c (command_verdict r.applied.state c)) (λ _. (one_more seqs (ticks + 40) r, b.pending))
  proposer_after (payloads.Lease ask) = (one_more seqs (ticks + 40) r, b.pending)

  apply_after : (o : Option Payload) → Left (applied_where r o)
  apply_after None = same r refl refl refl refl
  apply_after (Some p) =
      let k = proposer_after p in
      let low = kept top 1 (proposer_told r p).replica k.0 (omega arith) k.1 in
      quiet (applied_where r (Some p)).replica 1
      (record { assigned = low.assigned; pending = low.pending; few = low.few; inbox = low.inbox; asks = low.asks })
      (let i = k.0.items in omega (arith, i)) (omega arith)

  pub event_after : (e : ReplicaEvent AppliedState) → IsOther e → (round : ℕ) (taken : List Item) → length taken ≤ 16 → Left (event r e ticks round taken)
  event_after (Admit id request) other round taken le = absurd other
  event_after Ask other round taken le =
      cond_both (is_held r ticks) (leaves r (answers.LeaseHeld (lease_of r) ticks)) (answers_ask r (ask_for r r.raft.head.node (expiry_of r ticks))) Left
      (λ _. same r refl refl refl refl) (λ _. asked_below (ask_for r r.raft.head.node (expiry_of r ticks)) (lease, expiry_low))
  event_after (Transfer to) other round taken le =
      cond_both (holds_lease r) (answers_ask r (ask_for r to (ticks + lease_ticks))) (leaves r (answers.Refused (NotLeaseHolder (lease_of r)))) Left
      (λ _. asked_below (ask_for r to (ticks + lease_ticks)) (lease, omega arith)) (λ _. same r refl refl refl refl)
  event_after Collect other round taken le =
      let k = all_joined seqs (ticks + 40) top most r taken b in
      quiet (joined_all r taken) (length taken) k.below k.items (omega (arith, le))
  event_after Flush other round taken le = flush_after round
  event_after Tick other round taken le = tick_after round
  event_after (Deliver from m) other round taken le = deliver_after round from m
  event_after Apply other round taken le = apply_after (payload_of (next_entry r))
  event_after Cut other round taken le = same (event r Cut ticks round taken).replica refl refl refl refl
  event_after Remove other round taken le =
      quiet (ends_all removed_with r).replica 0
      (record {
        assigned = b.assigned;
        pending = all_filter P (λ p. is_none (removed_with p)) r.pending b.pending;
        few = (let a = b.few in let f = filter_short (λ p. is_none (removed_with p)) r.pending in omega (arith, a, f));
        inbox = b.inbox;
        asks = b.asks;
      }) (omega arith) (omega arith)
  event_after (Peek key) other round taken le = same r refl refl refl refl
  event_after Restart other round taken le =
      quiet (event r Restart ticks round taken).replica 0 (record { assigned = omega arith; pending = tt; few = omega arith; inbox = tt; asks = tt }) (omega arith) (omega arith)

  -- an admission: a proposal more at most, which waits
  pub admit_after : (id : CmdId) (request : Request) (round : ℕ) (taken : List Item)
      → After top seqs (ticks + 40) (most + 1) 0 r (event r (Admit id request) ticks round taken).replica (event r (Admit id request) ticks round taken).proposed
  admit_after id request round taken = go (guarded r request) where
    go : (g : Result Evaluated Refusal) → After top seqs (ticks + 40) (most + 1) 0 r (admitted_by r id request g).replica (admitted_by r id request g).proposed
    go (Ok e) = record {
      new = top;
      above = omega arith;
      below = record {
        assigned = b.assigned;
        pending = all_append P r.pending (proposal id request e (lease_of r).seq ∷ []) b.pending ((omega arith, lease), tt);
        few = (let a = b.few in let l = length-append r.pending (proposal id request e (lease_of r).seq ∷ []) in omega (arith, a, l));
        inbox = b.inbox;
        asks = b.asks;
      };
      room = omega arith;
      handed = tt;
    }
    go (Err why) = record { new = top; above = omega arith; below = below_more top seqs (ticks + 40) most top seqs (ticks + 40) (most + 1) (omega arith) (omega arith) (omega arith) (omega arith) r b; room = omega arith; handed = tt }
