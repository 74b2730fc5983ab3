-- Every lawful event of a reached world may come at its node.
use Rattle.std.proofs.Common.{◌≡◌, ℕ, zero, suc, ◌+◌, ◌^◌, ◌<◌, ◌≤◌, Bool, true, false, Option, None, Some, [], length, replicate, refl, sym, ap, subst, ◌∙◌, arith, eqb-true}
use Rattle.std.specs.Prelude.{◌==◌}
use Rattle.std.specs.Option.{option_map_or}
use Rattle.rp_base.specs.declared.ids.CmdId.{CmdId}
use Rattle.rp_raftstep.specs.declared.messages.Message.{Message}
use Rattle.rp_raftstep.specs.declared.messages.Message.TheVariants.{Vote, VoteReply, Append, AppendReply, Forward, Snap}
use Rattle.rp_raftstep.specs.Conditions.{MessageFits}
use Rattle.rp_request.specs.Applied.{AppliedState}
use Rattle.rp_request.specs.declared.requests.Request.{Request}
use Rattle.rp_pending.specs.Proposals.{proposal_of}
use Rattle.rp_pending.specs.declared.proposals.Proposal.{Proposal}
use Rattle.rp_raftsafe.specs.World as raft
use Rattle.rp_raftsafe.specs.Bounds.{MessageBelow, bound_after}
use Rattle.rp_raftsafe.specs.Safety.{OneList, HasSent}
use Rattle.rp_raftsafe.proofs.Bounded.{bounded_holds}
use Rattle.rp_events.specs.declared.answers.EventAnswer.TheVariants as answers
use Rattle.rp_events.specs.declared.journals.PastEvent.TheVariants as past
use Rattle.rp_events.specs.declared.node_events.Event.{Event}
use Rattle.rp_events.specs.declared.parcels.Parcel.{Parcel}
use Rattle.rp_events.specs.declared.replica_events.ReplicaEvent.{ReplicaEvent}
use Rattle.rp_events.specs.declared.replica_events.ReplicaEvent.TheVariants as at_replica
use Rattle.rp_events.specs.Allows.{Allows}
use Rattle.rp_events.specs.MaySteps.{SeatAllows, MayDo, MayStep}
use Rattle.rp_events.specs.Replicas.{Replica}
use Rattle.rp_events.specs.Nodes.{Node, Status, Absent, Live, Removed, seat, is_full, parcel_of}
use Rattle.rp_events.specs.Worlds as worlds
use Rattle.rp_events.specs.Worlds.{World, Happening, Scene, node_of, sent_by, delivery, event_of, was_asked}
use Rattle.rp_events.specs.Lawful.{may_begin, is_allowed, Lawful, IsReached}
use Rattle.rp_seats.specs.Views.{view, range_at, number_in}
use Rattle.rp_seats.proofs.Worlds.{message_seen}
use Rattle.rp_journals.specs.Numbers.{IsWithin, IsLow}
use Rattle.rp_journals.specs.Ended.{IsHeldThere}
use Rattle.rp_journals.proofs.Asking.{allowed, not_true, true_not_false, begins_unasked, written_asked}
use Rattle.rp_base.proofs.IdLaws.{same_itself}
use Rattle.rp_journals.proofs.Waiting.{pending_is_told}
use Rattle.rp_journals.proofs.Within.{all_within}
use Rattle.rp_journals.proofs.Bounding.{low}
use Rattle.rp_journals.proofs.Reading.{mapped_some}
use Rattle.rp_low.proofs.Rooms.{few_nodes}
use Rattle.rp_allowed.specs.Firm.{IsFirm}
use Rattle.rp_allowed.proofs.Allowed as at_seat

some_event : (a b : Event AppliedState) → ◌≡◌ {A = Option (Event AppliedState)} (Some a) (Some b) → a ≡ b
some_event a b e = cc

-- a message whose numbers are below the bound
message_fits : (bound : ℕ) → bound + 1 < 2 ^ 64 → (message : Message AppliedState) → MessageBelow bound message → MessageFits message
message_fits bound short (Vote term index index_term) h = tt
message_fits bound short (VoteReply term granted) h = tt
message_fits bound short (Append term prev_index prev_term entries commit) h = let k = h.1 in omega (arith, k, short)
message_fits bound short (AppendReply term ok index) h = tt
message_fits bound short (Forward payload) h = tt
message_fits bound short (Snap term index index_term snapshot) h = let k = h.1 in omega (arith, k, short)

-- nowhere nothing was sent
none_sent : (k from number : ℕ) (m : ℕ × Message AppliedState) → raft.message_of (raft.site (replicate k (record { status = raft.Absent; sent = [] })) from) number ≡ Some m → ⊥
none_sent k zero zero m e = absurd cc
none_sent k zero (suc number) m e = absurd cc
none_sent k (suc place) number m e = go k place number e where
  go : (k place number : ℕ) → raft.message_of (raft.site (replicate k (record { status = raft.Absent; sent = [] })) (suc place)) number ≡ Some m → ⊥
  go zero place zero e' = cc
  go zero place (suc number) e' = cc
  go (suc k) zero zero e' = cc
  go (suc k) zero (suc number) e' = cc
  go (suc k) (suc place) number e' = go k place number e'

module _ (lists : OneList AppliedState) (nodes : ℕ) (w : World) (reached : IsReached nodes w) (firm : IsFirm lists w) (node : ℕ) (n : Node) (has : node_of w node ≡ Some n) where
  inside : IsWithin n
  inside = all_within nodes w reached node n has

  clock_low : (n.ticks ≤ 2 ^ 31) × (n.rounds ≤ 2 ^ 31)
  clock_low =
      let l : IsLow n = low nodes w reached node n has inside in
      let a = l.journal in
      let b = inside.events in
      let c = inside.ticks in
      let d = inside.rounds in
      (omega (arith, a, b, c), omega (arith, a, b, d))

  -- by what the seat has
  by_seat : (range : ℕ) (e : ReplicaEvent AppliedState) (ticks : ℕ) → ((r : Replica) → seat n range ≡ Live r → Allows r e ticks) → SeatAllows (seat n range) e ticks
  by_seat range e ticks allows = go (seat n range) refl where
    go : (status : Status) → seat n range ≡ status → SeatAllows status e ticks
    go Absent is = tt
    go (Live r) is = allows r is
    go (Removed applied) is = tt

  -- an attempt that may begin is pending nowhere
  unasked_free : (range : ℕ) (id : CmdId) (request : Request) → may_begin w id request ≡ true → (r : Replica) → seat n range ≡ Live r → proposal_of id r.pending ≡ None
  unasked_free range id request may r live = go (proposal_of id r.pending) refl where
    go : (o : Option Proposal) → proposal_of id r.pending ≡ o → o ≡ None
    go None is = refl
    go (Some p) is =
        let h : IsHeldThere w id node range p = pending_is_told nodes w reached node range r (record { n = n; has = has; live = live }) id p is in
        absurd (true_not_false (was_asked w id)
        (written_asked w id node h.place (record { event = past.Admit range id h.admitted.at; answer = answers.Admitted }) (record { n = h.admitted.n; has = h.admitted.has; here = h.admitted.here }) (same_itself id))
        (begins_unasked w id request may))

  -- a message that was sent fits
  sent_fits : (from number : ℕ) (p : Parcel AppliedState) → parcel_of (sent_by w from) number ≡ Some p → MessageFits p.message
  sent_fits from number p is = go (firm.ranges.opened p.range) refl where
    seen_message : raft.message_of (raft.site (view p.range w) from) (number_in p.range (sent_by w from) number) ≡ Some (p.to, p.message)
    seen_message = message_seen p.range w from number p is refl

    go : (b : Bool) → firm.ranges.opened p.range ≡ b → MessageFits p.message
    go true there =
        let ok = firm.stands.bound.ranges p.range there in
        let g : raft.Range AppliedState = range_at (length w) p.range (firm.ranges.range p.range).start in
        let at : raft.message_of (raft.site (raft.world_after g (firm.seen p.range)) from) (number_in p.range (sent_by w from) number) ≡ Some (p.to, p.message) =
        ap (λ (z : raft.World AppliedState). raft.message_of (raft.site z from) (number_in p.range (sent_by w from) number)) (sym ok.raft.raft) ∙ seen_message in
        message_fits (bound_after g (firm.seen p.range)) (at_seat.range_short lists nodes w reached firm p.range there)
        p.message ((bounded_holds AppliedState g (firm.seen p.range)).messages from p.to p.message (placed (number_in p.range (sent_by w from) number) at))
      where
        placed : (number : ℕ) → raft.message_of (raft.site (raft.world_after (range_at (length w) p.range (firm.ranges.range p.range).start) (firm.seen p.range)) from) number ≡ Some (p.to, p.message)
            → HasSent (raft.world_after (range_at (length w) p.range (firm.ranges.range p.range).start) (firm.seen p.range)) from p.to p.message
        placed zero e = absurd cc
        placed (suc place) e = (place, e)
    go false shut =
        let s = firm.stands.bound.shut p.range shut in
        absurd (none_sent (length w) from (number_in p.range (sent_by w from) number) (p.to, p.message)
        (ap (λ (z : raft.World AppliedState). raft.message_of (raft.site z from) (number_in p.range (sent_by w from) number)) (sym s.view_is) ∙ seen_message))

  may_do : (what : Happening) → is_allowed w node what ≡ true → (e : Event AppliedState) → event_of w what ≡ Some e → MayDo n e
  may_do (worlds.Admit range id request) al e came = subst (MayDo n) (some_event _ e came) (by_seat range (at_replica.Admit id request) n.ticks (λ r is. unasked_free range id request al r is))
  may_do (worlds.Ask range) al e came = subst (MayDo n) (some_event _ e came) (by_seat range at_replica.Ask n.ticks (λ r is. let k = clock_low.0 in omega (arith, k)))
  may_do (worlds.Transfer range to) al e came = subst (MayDo n) (some_event _ e came) (by_seat range (at_replica.Transfer to) n.ticks (λ r is. let k = clock_low.0 in omega (arith, k)))
  may_do (worlds.Collect range taken) al e came = subst (MayDo n) (some_event _ e came) (by_seat range at_replica.Collect n.ticks (λ r is. tt))
  may_do (worlds.Flush range) al e came = subst (MayDo n) (some_event _ e came) (by_seat range at_replica.Flush n.ticks (λ r is. at_seat.may_flush lists nodes w reached firm node range n r has is))
  may_do worlds.Tick al e came = subst (MayDo n) (some_event _ e came) (record {
    ticks = let k = clock_low.0 in omega (arith, k);
    each = λ range. by_seat range at_replica.Tick (n.ticks + 1) (λ r is. at_seat.may_tick lists nodes w reached firm node range n r has is);
  })
  may_do (worlds.Deliver from number) al e came =
      let x = mapped_some (delivery from number) (parcel_of (sent_by w from) number) e came in
      let p : Parcel AppliedState = x.0 in
      let to : p.to ≡ node = eqb-true p.to node (sym (ap (λ o. option_map_or (λ (z : Parcel AppliedState). z.to == node) o false) x.1) ∙ al) in
      subst (MayDo n) x.2 (record {
        seat_allows = by_seat p.range (at_replica.Deliver from p.message) n.ticks (λ r is. at_seat.may_deliver lists nodes w reached firm node p.range n r has is from number p x.1 refl to);
        fits = sent_fits from number p x.1;
      })
  may_do (worlds.Apply range) al e came = subst (MayDo n) (some_event _ e came) (by_seat range at_replica.Apply n.ticks (λ r is. at_seat.may_apply lists nodes w reached firm node range n r has is))
  may_do (worlds.Cut range) al e came = subst (MayDo n) (some_event _ e came) (by_seat range at_replica.Cut n.ticks (λ r is. at_seat.may_cut lists nodes w reached firm node range n r has is))
  may_do (worlds.Remove range) al e came = subst (MayDo n) (some_event _ e came) (by_seat range at_replica.Remove n.ticks (λ r is. tt))
  may_do (worlds.Peek range key) al e came = subst (MayDo n) (some_event _ e came) (by_seat range (at_replica.Peek key) n.ticks (λ r is. tt))
  may_do worlds.Restart al e came = subst (MayDo n) (some_event _ e came) tt
  may_do worlds.Round al e came = subst (MayDo n) (some_event _ e came) (let k = clock_low.1 in omega (arith, k))

pub may_step : (lists : OneList AppliedState) (nodes : ℕ) (w : World) → IsReached nodes w → IsFirm lists w → (x : Scene) → Lawful w x → (n : Node) → node_of w x.node ≡ Some n → (e : Event AppliedState) → event_of w x.what ≡ Some e
    → MayStep n e
may_step lists nodes w reached firm x l n has e came =
    let a = allowed w x n has l.lawful in
    let shaped = firm.stands.bound.shaped.each x.node n has in
    let few = few_nodes nodes w reached in
    let of = shaped.of in
    record {
      nodes = omega (arith, few, of);
      full = not_true (is_full n) a.0;
      may = may_do lists nodes w reached firm x.node n has x.what a.1 e came;
    }
