-- The ranges of a world beside the machine: where each replica stands, what its events end, and in which
-- states its splits start.
use Rattle.std.proofs.Common.{◌≡◌, ℕ, zero, suc, ◌^◌, ◌<◌, ◌≤◌, Bool, true, false, Option, None, Some, Result, Ok, Err, List, [], refl, sym, ap, subst, ◌∙◌, arith}
use Rattle.std.specs.Option.{option_map_or}
use Rattle.std.proofs.lemmas.Bool.{cond_both}
use Rattle.rp_base.specs.declared.ids.CmdId.{CmdId}
use Rattle.rp_base.specs.declared.items.Item.{Item}
use Rattle.rp_base.specs.declared.ranges.Desc.{Desc}
use Rattle.rp_request.specs.Applied.{AppliedState}
use Rattle.rp_request.specs.States.{right_of}
use Rattle.rp_request.specs.declared.commands.Payload.{Payload}
use Rattle.rp_request.specs.declared.evaluations.Evaluated.{Evaluated}
use Rattle.rp_request.specs.declared.outcomes.Refusal.{Refusal}
use Rattle.rp_raftsafe.specs.World as raft
use Rattle.rp_raftsafe.specs.Safety.{OneList}
use Rattle.rp_rangesafe.specs.Along.{entry}
use Rattle.rp_rangesafe.specs.Attempts.{IsBorn}
use Rattle.rp_rangesafe.specs.Ranges.{Ranges}
use Rattle.rp_rangesafe.proofs.Joint.{one_range, range_reached}
use Rattle.rp_rangesafe.proofs.Rights.{number_along}
use Rattle.rp_rangesafe.proofs.Splits.{split_opens}
use Rattle.rp_events.specs.declared.node_events.Event.{Event}
use Rattle.rp_events.specs.declared.replica_events.ReplicaEvent.{ReplicaEvent}
use Rattle.rp_events.specs.declared.replica_events.ReplicaEvent.TheVariants.{Admit, Ask, Transfer, Collect, Flush, Tick, Deliver, Apply, Cut, Remove, Peek, Restart}
use Rattle.rp_events.specs.Admissions.{guarded, admitted_by}
use Rattle.rp_events.specs.Applications.{payload_of, next_entry, applied_where}
use Rattle.rp_events.specs.Replicas.{Replica, Done}
use Rattle.rp_events.specs.ReplicaEvents.{event}
use Rattle.rp_events.specs.Nodes.{Node, Status, Absent, Live, seat}
use Rattle.rp_events.specs.Worlds.{World, Scene, node_of, event_of, taken_in}
use Rattle.rp_seats.specs.Scenes.{node_doings, scene_doings, doings_in, StartsIn}
use Rattle.rp_seats.specs.Standing.{Bound}
use Rattle.rp_seats.specs.Turned.{IsSeated}
use Rattle.rp_seats.proofs.Events as seat_events
use Rattle.rp_seats.proofs.Shut.{shut_seat, scene_starts}
use Rattle.rp_turns.specs.Fitting.{IsFit, AreFit}
use Rattle.rp_turns.proofs.Doings.{EachStart, starts_in, nothing_starts, node_starts}
use Rattle.rp_turns.proofs.Replicas.{MayHappen, ends_here, not_told_here, told_here}
use Rattle.rp_turns.proofs.Tells.{Lacks, told_none}

power : (n : ℕ) → n ≤ 3 → 2 ^ n ≤ 8
power zero l = omega arith
power (suc zero) l = omega arith
power (suc (suc zero)) l = omega arith
power (suc (suc (suc zero))) l = omega arith
power (suc (suc (suc (suc n)))) l = absurd (omega (arith, l))

pub below_eight : (d : Desc) → d.id < 8
below_eight d = let p = power d.level d.level_to_three in let k = d.id_of_level in omega (arith, p, k)

absent_live : (r : Replica) → ◌≡◌ {A = Status} Absent (Live r) → ⊥
absent_live r e = cc

true_false : ◌≡◌ {A = Bool} true false → ⊥
true_false e = cc

none_some : (t : AppliedState) → ◌≡◌ {A = Option AppliedState} None (Some t) → ⊥
none_some t e = cc

module _ (lists : OneList AppliedState) (w : World) (m : Ranges) (seen : ℕ → List raft.Event) (b : Bound lists w m seen) (fit : AreFit w) where
  pub below : (range : ℕ) → m.opened range ≡ true → range < 8
  below range there = subst (λ z. z < 8) (number_along m b.reached range there 0) (below_eight (m.range range).start.desc)

  pub has_opened : (node at : ℕ) (n : Node) (r : Replica) → node_of w node ≡ Some n → seat n at ≡ Live r → m.opened at ≡ true
  has_opened node at n r has live = go (m.opened at) refl where
    go : (t : Bool) → m.opened at ≡ t → t ≡ true
    go true is = refl
    go false is = absurd (absent_live r (sym (shut_seat at (seen at) w (b.shut at is) node n has) ∙ live))

  -- each replica stands beside the machine
  pub seated : (node at : ℕ) (n : Node) (r : Replica) → node_of w node ≡ Some n → seat n at ≡ Live r
      → IsSeated lists at (m.range at).start (seen at) w (m.range at) node n r
  seated node at n r has live = record {
    below = below at (has_opened node at n r has live);
    shaped = b.shaped;
    ok = b.ranges at (has_opened node at n r has live);
    reached = range_reached m b.reached at;
    has = has;
    ends = fit.ends node n has;
    live = live;
  }

  -- an event of another range ends no attempt of this one
  pub lacks : (node at range : ℕ) (n : Node) (r : Replica) → node_of w node ≡ Some n → seat n at ≡ Live r → (at ≡ range → ⊥) → (e : ReplicaEvent AppliedState) → MayHappen w at r e
      → (ticks round : ℕ) (taken : List Item) → (id : CmdId) → IsBorn ((m.range range).attempt id).stage → Lacks id (event r e ticks round taken).outcomes
  lacks node at range n r has live ne e may ticks round taken id born =
      let k = seated node at n r has live in
      let f : IsFit r = fit.replicas node at n r has live in
      told_none (told_here lists at (m.range at).start (seen at) w (m.range at) node n r k f) (event r e ticks round taken).outcomes
      (ends_here lists at (m.range at).start (seen at) w (m.range at) node n r k f e may ticks round taken) id
      (not_told_here lists at (m.range at).start (seen at) w (m.range at) node n r k f id (λ here. ne (one_range m b.reached id at range here born)))

  -- a split that a replica applies has opened its right range, which starts so
  abbrev IsKnown : AppliedState → Type 0
  IsKnown t = (m.opened t.desc.id ≡ true) × ((m.range t.desc.id).start ≡ t)

  abbrev Opens : AppliedState → Done → Type 0
  Opens t d = d.right ≡ Some t → IsKnown t

  pub right_known : (node at : ℕ) (n : Node) (r : Replica) → node_of w node ≡ Some n → seat n at ≡ Live r → (e : ReplicaEvent AppliedState) (ticks round : ℕ) (taken : List Item) (t : AppliedState)
      → (event r e ticks round taken).right ≡ Some t → IsKnown t
  right_known node at n r has live e ticks round taken t = by e where
    k : IsSeated lists at (m.range at).start (seen at) w (m.range at) node n r
    k = seated node at n r has live

    by : (e : ReplicaEvent AppliedState) → Opens t (event r e ticks round taken)
    by (Admit id request) = go (guarded r request) where
      go : (g : Result Evaluated Refusal) → Opens t (admitted_by r id request g)
      go (Ok v) = λ is. absurd (none_some t is)
      go (Err why) = λ is. absurd (none_some t is)
    by Ask = cond_both _ _ _ (Opens t) (λ _ is. absurd (none_some t is)) (λ _ is. absurd (none_some t is))
    by (Transfer to) = cond_both _ _ _ (Opens t) (λ _ is. absurd (none_some t is)) (λ _ is. absurd (none_some t is))
    by Collect = λ is. absurd (none_some t is)
    by Flush = λ is. absurd (none_some t is)
    by Tick = λ is. absurd (none_some t is)
    by (Deliver from msg) = cond_both _ _ _ (Opens t) (λ _ is. absurd (none_some t is)) (λ _ is. absurd (none_some t is))
    by Apply = go (payload_of (next_entry r)) refl where
      go : (o : Option Payload) → payload_of (next_entry r) ≡ o → Opens t (applied_where r o)
      go None e' = λ is. absurd (none_some t is)
      go (Some p) e' = λ is.
          let there = seat_events.next lists at (m.range at).start (seen at) w (m.range at) node n r k p e' in
          split_opens m b.reached at ((m.range at).index node) t there.within
          (ap (λ z. right_of z (entry (m.range at).log ((m.range at).index node))) (seat_events.state lists at (m.range at).start (seen at) w (m.range at) node n r k)
          ∙ ap (right_of r.applied.state) there.entry_is ∙ is)
    by Cut = λ is. absurd (none_some t is)
    by Remove = λ is. absurd (none_some t is)
    by (Peek key) = λ is. absurd (none_some t is)
    by Restart = λ is. absurd (none_some t is)

  module _ (x : Scene) (P : AppliedState → Type 0) (range : ℕ) (known : (t : AppliedState) → IsKnown t → t.desc.id ≡ range → P t) where
    pub scene_starts_so : EachStart P (doings_in range w x)
    scene_starts_so = by_node (node_of w x.node) refl where
      by_event : (n : Node) → node_of w x.node ≡ Some n → (o : Option (Event AppliedState)) → EachStart P (option_map_or (λ e. node_doings range n e (taken_in x.what)) o [])
      by_event n has None = tt
      by_event n has (Some ev) = node_starts P range n (λ at r e taken t live is own. known t (right_known x.node at n r has live e n.ticks n.rounds taken t is) own) ev (taken_in x.what)

      by_node : (o : Option Node) → node_of w x.node ≡ o → EachStart P (option_map_or (scene_doings range w x) o [])
      by_node None has = tt
      by_node (Some n) has = by_event n has (event_of w x.what)

  -- a range that there is starts in its own state, and each other one not at all
  pub starts : (x : Scene) (range : ℕ) → StartsIn (m.range range).start (doings_in range w x)
  starts x range = starts_in (m.range range).start (doings_in range w x)
      (scene_starts_so x (λ t. t ≡ (m.range range).start) range (λ t known own. sym known.1 ∙ ap (λ z. (m.range z).start) own))

  pub shut_stays : (x : Scene) (range : ℕ) → m.opened range ≡ false → doings_in range w x ≡ []
  shut_stays x range shut = nothing_starts (doings_in range w x) (scene_starts range (seen range) w (b.shut range shut) x)
      (scene_starts_so x (λ t. ⊥) range (λ t known own. true_false (sym known.0 ∙ ap m.opened own ∙ shut)))
