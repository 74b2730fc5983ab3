-- How far an event of a node lets the numbers of one range grow.
use Rattle.std.proofs.Common.{◌≡◌, ℕ, ◌+◌, ◌<◌, ◌≤◌, ◌⊎◌, ⊎_elim, None, List, [], length, refl, sym, ap, subst, ◌∙◌, arith}
use Rattle.std.specs.List.{AllByRecursion}
use Rattle.std.proofs.lemmas.List.Elements.{All-contains, All-from_recursion}
use Rattle.rp_base.specs.declared.items.Item.{Item}
use Rattle.rp_raftstep.specs.declared.messages.Message.{Message}
use Rattle.rp_request.specs.Applied.{AppliedState}
use Rattle.rp_request.specs.declared.requests.Request.{Request}
use Rattle.rp_base.specs.declared.ids.CmdId.{CmdId}
use Rattle.rp_events.specs.declared.node_events.Event.{Event}
use Rattle.rp_events.specs.declared.node_events.Event.TheVariants as events
use Rattle.rp_events.specs.declared.replica_events.ReplicaEvent.{ReplicaEvent}
use Rattle.rp_events.specs.declared.replica_events.ReplicaEvent.TheVariants.{Admit, Ask, Transfer, Collect, Flush, Tick, Deliver, Apply, Cut, Remove, Peek, Restart}
use Rattle.rp_events.specs.Replicas.{Replica, lease_of}
use Rattle.rp_events.specs.ReplicaEvents.{event}
use Rattle.rp_events.specs.Nodes.{Node, Status, Absent, Live, Removed, seat, range_numbers}
use Rattle.rp_events.specs.NodeEvents.{status_after, by_status, all_turns, delivered, step, with_request}
use Rattle.rp_events.specs.Worlds.{World}
use Rattle.rp_seats.specs.Views.{read}
use Rattle.rp_seats.specs.Scenes.{seat_doings, all_doings, message_doings, node_doings}
use Rattle.rp_turns.specs.Fitting.{IsFit}
use Rattle.rp_bound.specs.Numbers.{ItemBelow, AskBelow, ProposalBelow, PayloadBelow, ReplicaBelow, StatusBelow, items_in}
use Rattle.rp_bound.proofs.Counts.{below_more}
use Rattle.rp_bound.proofs.Grows.{After, IsOther, event_after, admit_after}
use Rattle.rp_bound.proofs.Seats.{IsStill, IsOwn, IsFresh, Changes, Hands, status_change, message_change, all_change}
use Rattle.rp_bound.proofs.Work.{requests_then, ticks_then, gain_then}

pub status_more : (top seqs expiry most top' seqs' expiry' most' : ℕ) → top ≤ top' → seqs ≤ seqs' → expiry ≤ expiry' → most ≤ most' → (status : Status)
    → StatusBelow top seqs expiry most status → StatusBelow top' seqs' expiry' most' status
status_more top seqs expiry most top' seqs' expiry' most' t s x m Absent b = tt
status_more top seqs expiry most top' seqs' expiry' most' t s x m (Live r) b = below_more top seqs expiry most top' seqs' expiry' most' t s x m r b
status_more top seqs expiry most top' seqs' expiry' most' t s x m (Removed applied) b = tt

-- what a replica leaves in its seat
left_as : (P : Status → Type 0) (e : ReplicaEvent AppliedState) (s : Replica) → P (Live s) → P (Removed s.applied) → P (status_after e s)
left_as P (Admit id request) s live removed = live
left_as P Ask s live removed = live
left_as P (Transfer to) s live removed = live
left_as P Collect s live removed = live
left_as P Flush s live removed = live
left_as P Tick s live removed = live
left_as P (Deliver from m) s live removed = live
left_as P Apply s live removed = live
left_as P Cut s live removed = live
left_as P Remove s live removed = removed
left_as P (Peek key) s live removed = live
left_as P Restart s live removed = live

-- the numbers of a seat after an event, with what waits in it
pub record Grown (top seqs expiry most gain : ℕ) (old new : Status) (Does : List ℕ → Type 0) : Type 0 where
  pub highest : ℕ
  pub above : top ≤ highest
  pub below : StatusBelow highest seqs expiry most new
  pub room : highest + items_in new ≤ top + items_in old + gain
  pub handed : (bytes : List ℕ) → Does bytes → PayloadBelow highest seqs (read bytes)

-- by what an event makes of the seat
module _ (range : ℕ) (n new : Node) (given : List Item) (Does : List ℕ → Type 0) (e : ReplicaEvent AppliedState) (ticks : ℕ) (top seqs most most' gain : ℕ) (more : most ≤ most')
    (below : StatusBelow top seqs (ticks + 40) most (seat n range))
    (after : (r : Replica) → seat n range ≡ Live r → After top seqs (ticks + 40) most' gain r (event r e ticks n.rounds given).replica (event r e ticks n.rounds given).proposed) where
  abbrev Goal : Type 0
  Goal = Grown top seqs (ticks + 40) most' gain (seat n range) (seat new range) Does

  still_grown : IsStill range n new Does → Goal
  still_grown s = record {
    highest = top;
    above = omega arith;
    below = subst (StatusBelow top seqs (ticks + 40) most') (sym s.same) (status_more top seqs (ticks + 40) most top seqs (ticks + 40) most' (omega arith) (omega arith) (omega arith) more (seat n range) below);
    room = (let k = ap items_in s.same in omega (arith, k));
    handed = λ bytes does. absurd (s.none bytes does);
  }

  own_grown : IsOwn range n new given Does e ticks → Goal
  own_grown o =
      let a = after o.replica o.live in
      let d = event o.replica e ticks n.rounds given in
      let items : items_in (status_after e d.replica) ≤ length d.replica.inbox = left_as (λ z. items_in z ≤ length d.replica.inbox) e d.replica (omega arith) (omega arith) in
      record {
        highest = a.new;
        above = a.above;
        below = subst (StatusBelow a.new seqs (ticks + 40) most') (sym o.is) (left_as (StatusBelow a.new seqs (ticks + 40) most') e d.replica a.below tt);
        room = (let k = ap items_in o.is in let l = ap items_in o.live in let r = a.room in omega (arith, k, l, r, items));
        handed = λ bytes does. All-contains (λ b. PayloadBelow a.new seqs (read b)) d.proposed bytes (All-from_recursion (λ b. PayloadBelow a.new seqs (read b)) d.proposed a.handed) (o.handed bytes does);
      }

  fresh_grown : IsFresh range n new Does → Goal
  fresh_grown f = record {
    highest = top;
    above = omega arith;
    below = subst (StatusBelow top seqs (ticks + 40) most') (sym f.is)
        (record {
          assigned = (let z = f.blank.assigned in omega (arith, z));
          pending = subst (AllByRecursion (ProposalBelow top seqs)) (sym f.blank.pending) tt;
          few = (let z = ap length f.blank.pending in omega (arith, z));
          inbox = subst (AllByRecursion (ItemBelow seqs (ticks + 40))) (sym f.blank.inbox) tt;
          asks = subst (AllByRecursion (AskBelow seqs (ticks + 40))) (sym f.blank.asks) tt;
        });
    room = (let k = ap items_in f.is in let z = ap length f.blank.inbox in omega (arith, k, z));
    handed = λ bytes does. absurd (f.none bytes does);
  }

  pub change_grown : Changes range n new given Does e ticks → Goal
  change_grown c = ⊎_elim still_grown (λ (d : IsOwn range n new given Does e ticks ⊎ IsFresh range n new Does). ⊎_elim own_grown fresh_grown d) c

-- by the node's event
module _ (w : World) (node range : ℕ) (n : Node) (below8 : range < 8) (within : range < length n.seats) (top seqs : ℕ)
    (below : StatusBelow top seqs (n.ticks + 40) (length n.requests) (seat n range))
    (fits : (r : Replica) → seat n range ≡ Live r → IsFit r × (r.applied.state.lai ≤ top) × ((lease_of r).seq ≤ seqs)) where
  live_below : (ticks : ℕ) → n.ticks ≤ ticks → (r : Replica) → seat n range ≡ Live r → ReplicaBelow top seqs (ticks + 40) (length n.requests) r
  live_below ticks le r live = subst (StatusBelow top seqs (ticks + 40) (length n.requests)) live
      (status_more top seqs (n.ticks + 40) (length n.requests) top seqs (ticks + 40) (length n.requests) (omega arith) (omega arith) (omega (arith, le)) (omega arith) (seat n range) below)

  -- an event that is no admission
  others : (e : ReplicaEvent AppliedState) → IsOther e → (given : List Item) → length given ≤ 16 → (ticks : ℕ) → n.ticks ≤ ticks → (r : Replica) → seat n range ≡ Live r
      → After top seqs (ticks + 40) (length n.requests) (length n.requests + 16) r (event r e ticks n.rounds given).replica (event r e ticks n.rounds given).proposed
  others e other given le ticks later r live =
      let f = fits r live in
      event_after top seqs ticks (length n.requests) r (live_below ticks later r live) f.0 f.1 f.2 e other n.rounds given le

  abbrev pub Left : Event AppliedState → List Item → Type 0
  Left ev given = Grown top seqs (ticks_then n ev + 40) (requests_then n ev) (gain_then n ev) (seat n range) (seat (step n ev given).node range) (Hands w node range (node_doings range n ev given))

  -- an event of one seat
  by_seat : (at : ℕ) (e : ReplicaEvent AppliedState) → IsOther e → (given : List Item) → length given ≤ 16
      → Grown top seqs (n.ticks + 40) (length n.requests) (length n.requests + 16) (seat n range) (seat (by_status n at e given (seat n at)).node range) (Hands w node range (seat_doings range n at 0 e given (seat n at)))
  by_seat at e other given le =
      change_grown range n (by_status n at e given (seat n at)).node given (Hands w node range (seat_doings range n at 0 e given (seat n at))) e n.ticks top seqs (length n.requests) (length n.requests) (length n.requests + 16)
      (omega arith) below (λ r live. others e other given le n.ticks (omega arith) r live) (status_change w node range n within at e given (seat n at) refl)

  -- an event of each
  by_all : (m : Node) → m.seats ≡ n.seats → m.rounds ≡ n.rounds → n.ticks ≤ m.ticks → (e : ReplicaEvent AppliedState) → IsOther e → ((r : Replica) (ticks round : ℕ) → (event r e ticks round []).right ≡ None)
      → Grown top seqs (m.ticks + 40) (length n.requests) (length n.requests + 16) (seat n range) (seat (all_turns e m range_numbers) range) (Hands w node range (all_doings range e m range_numbers))
  by_all m seats rounds later e other none =
      let same : seat m range ≡ seat n range = ap (λ l. seat (record n { seats = l }) range) seats in
      subst (λ z. Grown top seqs (m.ticks + 40) (length n.requests) (length n.requests + 16) z (seat (all_turns e m range_numbers) range) (Hands w node range (all_doings range e m range_numbers))) same
      (change_grown range m (all_turns e m range_numbers) [] (Hands w node range (all_doings range e m range_numbers)) e m.ticks top seqs (length n.requests) (length n.requests) (length n.requests + 16)
      (omega arith)
      (subst (StatusBelow top seqs (m.ticks + 40) (length n.requests)) (sym same)
      (status_more top seqs (n.ticks + 40) (length n.requests) top seqs (m.ticks + 40) (length n.requests) (omega arith) (omega arith) (omega (arith, later)) (omega arith) (seat n range) below))
      (λ r live. subst (λ i. After top seqs (m.ticks + 40) (length n.requests) (length n.requests + 16) r (event r e m.ticks i []).replica (event r e m.ticks i []).proposed) (sym rounds)
      (others e other [] (omega arith) m.ticks later r (sym same ∙ live)))
      (all_change w node range m (subst (λ l. range < length l) (sym seats) within) below8 e none))

  -- an admission
  abbrev asked : Request → Node
  asked request = with_request n request

  same_doings : (at : ℕ) (id : CmdId) (request : Request) (status : Status) → seat_doings range (asked request) at 0 (Admit id request) [] status ≡ seat_doings range n at 0 (Admit id request) [] status
  same_doings at id request Absent = refl
  same_doings at id request (Live r) = refl
  same_doings at id request (Removed applied) = refl

  by_admission : (at : ℕ) (id : CmdId) (request : Request) (given : List Item) → Left (events.Admit at id request) given
  by_admission at id request given =
      let e : ReplicaEvent AppliedState = Admit id request in
      let left = (by_status (asked request) at e [] (seat n at)).node in
      subst (λ ds. Grown top seqs (n.ticks + 40) (length n.requests + 1) 0 (seat n range) (seat left range) (Hands w node range ds)) (same_doings at id request (seat n at))
      (change_grown range (asked request) left [] (Hands w node range (seat_doings range (asked request) at 0 e [] (seat n at))) e n.ticks top seqs (length n.requests) (length n.requests + 1) 0
      (omega arith) below (λ r live. let f = fits r live in admit_after top seqs n.ticks (length n.requests) r (live_below n.ticks (omega arith) r live) f.0 f.1 f.2 id request n.rounds [])
      (status_change w node range (asked request) within at e [] (seat n at) refl))

  by_message : (from at number : ℕ) (m : Message AppliedState) (given : List Item) → Left (events.Deliver from at number m) given
  by_message from at number m given =
      change_grown range n (delivered n from at m (seat n at)) [] (Hands w node range (message_doings range n at from number m (seat n at))) (Deliver from m) n.ticks top seqs (length n.requests) (length n.requests) (length n.requests + 16)
      (omega arith) below (λ r live. others (Deliver from m) tt [] (omega arith) n.ticks (omega arith) r live) (message_change w node range n within at from number m (seat n at) refl)

  pub node_grown : (ev : Event AppliedState) (given : List Item) → length given ≤ 16 → Left ev given
  node_grown (events.Admit at id request) given le = by_admission at id request given
  node_grown (events.Ask at) given le = by_seat at Ask tt [] (omega arith)
  node_grown (events.Transfer at to) given le = by_seat at (Transfer to) tt [] (omega arith)
  node_grown (events.Collect at) given le = by_seat at Collect tt given le
  node_grown (events.Flush at) given le = by_seat at Flush tt [] (omega arith)
  node_grown events.Tick given le = by_all (record n { ticks = n.ticks + 1 }) refl refl (omega arith) Tick tt (λ r ticks round. refl)
  node_grown (events.Deliver from at number m) given le = by_message from at number m given
  node_grown (events.Apply at) given le = by_seat at Apply tt [] (omega arith)
  node_grown (events.Cut at) given le = by_seat at Cut tt [] (omega arith)
  node_grown (events.Remove at) given le = by_seat at Remove tt [] (omega arith)
  node_grown (events.Peek at key) given le = by_seat at (Peek key) tt [] (omega arith)
  node_grown events.Restart given le = by_all n refl refl (omega arith) Restart tt (λ r ticks round. refl)
  node_grown events.Round given le = record { highest = top; above = omega arith; below = below; room = omega arith; handed = λ bytes does. absurd (omega (arith, does.1)) }
