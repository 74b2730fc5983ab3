-- Each outcome that a node of a reached world keeps is an end that names a node.
use Rattle.std.proofs.Common.{◌≡◌, ℕ, ◌+◌, ◌<◌, ◌≤◌, ⊎_elim, Option, None, Some, List, [], ◌∷◌, refl, sym, ap, subst, arith}
use Rattle.std.specs.Prelude.{slice_get}
use Rattle.std.specs.List.{AllByRecursion}
use Rattle.rp_base.proofs.Elements.{all_append, each_at}
use Rattle.rp_base.specs.declared.ids.CmdId.{CmdId}
use Rattle.rp_base.specs.declared.items.Item.{Item}
use Rattle.rp_raftstep.specs.declared.messages.Message.{Message}
use Rattle.rp_request.specs.Applied.{AppliedState}
use Rattle.rp_request.specs.declared.outcomes.Outcome.{Outcome}
use Rattle.rp_request.specs.declared.outcomes.Refusal.{Refusal}
use Rattle.rp_request.specs.declared.outcomes.Refusal.TheVariants.{NoReplica}
use Rattle.rp_request.specs.declared.requests.Request.{Request}
use Rattle.rp_events.specs.declared.answers.Ended.{Ended}
use Rattle.rp_events.specs.declared.answers.EventAnswer.TheVariants as answers
use Rattle.rp_events.specs.declared.node_events.Event.{Event}
use Rattle.rp_events.specs.declared.node_events.Event.TheVariants as events
use Rattle.rp_events.specs.declared.replica_events.ReplicaEvent.{ReplicaEvent}
use Rattle.rp_events.specs.declared.replica_events.ReplicaEvent.TheVariants.{Admit, Ask, Transfer, Collect, Flush, Tick, Deliver, Apply, Cut, Remove, Peek, Restart}
use Rattle.rp_events.specs.Lawful.{AllLawful, IsReached}
use Rattle.rp_events.specs.Replicas.{Replica, Done, lease_of}
use Rattle.rp_events.specs.ReplicaEvents.{event}
use Rattle.rp_events.specs.Nodes as nodes
use Rattle.rp_events.specs.Nodes.{Node, Status, Absent, Live, seat, with_seat, opened, opened_by, after_turn, range_numbers}
use Rattle.rp_events.specs.NodeEvents.{status_after, after_replica, by_status, live_turn, all_turns, delivered, acted, with_request, step}
use Rattle.rp_events.specs.Worlds.{World, Scene, Schedule, first_world, node_of, taken_in, happens, run}
use Rattle.rp_journals.proofs.Growing.{Happened, happened, reached_later}
use Rattle.rp_journals.proofs.Inboxes.{IsAscending, ascending}
use Rattle.rp_journals.proofs.Reading.{first_at, node_after}
use Rattle.rp_journals.proofs.Writing.{later_scene, first_reached}
use Rattle.rp_turns.proofs.All.{other_seat}
use Rattle.rp_router.specs.Hints.{NamesNode}
use Rattle.rp_clients.specs.Desks.{IsEnd}
use Rattle.rp_holders.proofs.Leases.{held_by_node}
use Rattle.rp_holders.proofs.Refusals.{AllEnd, event_ends, admission_names}

module _ (many : ℕ) where
  -- the lease of a live seat is held by a node
  abbrev Leased : Status → Type 0
  Leased Absent = Unit {0}
  Leased (Live r) = (lease_of r).holder ≤ many
  Leased (nodes.Removed applied) = Unit {0}

  abbrev AllLeased : Node → Type 0
  AllLeased n = (range : ℕ) → Leased (seat n range)

  opened_ends : (n : Node) (o : Option AppliedState) → AllEnd many n.outcomes → AllEnd many (opened n o).outcomes
  opened_ends n None h = h
  opened_ends n (Some s) h = go (seat n s.desc.id) where
    go : (status : Status) → AllEnd many (opened_by n s status).outcomes
    go Absent = h
    go (Live r) = h
    go (nodes.Removed applied) = h

  replica_ends : (n : Node) (range : ℕ) (r : Replica) → (lease_of r).holder ≤ many → (e : ReplicaEvent AppliedState) (taken : List Item) → AllEnd many n.outcomes
      → AllEnd many (after_replica n range e (event r e n.ticks n.rounds taken)).outcomes
  replica_ends n range r low e taken h =
      let d : Done = event r e n.ticks n.rounds taken in
      opened_ends (after_turn n range (status_after e d.replica) d) d.right
      (all_append (λ (x : Ended). IsEnd many x.outcome) n.outcomes d.outcomes h (event_ends many r low e n.ticks n.rounds taken))

  status_ends : (n : Node) (range : ℕ) (e : ReplicaEvent AppliedState) (taken : List Item) → AllEnd many n.outcomes → (status : Status) → Leased status → AllEnd many (by_status n range e taken status).node.outcomes
  status_ends n range e taken h Absent low = h
  status_ends n range e taken h (Live r) low = replica_ends n range r low e taken h
  status_ends n range e taken h (nodes.Removed applied) low = h

  message_ends : (n : Node) (from range : ℕ) (m : Message AppliedState) → AllEnd many n.outcomes → (status : Status) → Leased status → AllEnd many (delivered n from range m status).outcomes
  message_ends n from range m h Absent low = h
  message_ends n from range m h (Live r) low = replica_ends n range r low (Deliver from m) [] h
  message_ends n from range m h (nodes.Removed applied) low = h

  -- an event at each seat
  module _ (e : ReplicaEvent AppliedState) (none : (r : Replica) (ticks round : ℕ) → (event r e ticks round []).right ≡ None) where
    turn_ends : (n : Node) (at : ℕ) (status : Status) → Leased status → AllEnd many n.outcomes → AllEnd many (live_turn e n at status).outcomes
    turn_ends n at Absent low h = h
    turn_ends n at (Live r) low h = replica_ends n at r low e [] h
    turn_ends n at (nodes.Removed applied) low h = h

    others_leased : (n : Node) (at : ℕ) (status : Status) (ranges : List ℕ) → AllByRecursion (λ k. at < k) ranges → AllByRecursion (λ k. Leased (seat n k)) ranges → AllByRecursion (λ k. Leased (seat (live_turn e n at status) k)) ranges
    others_leased n at status [] above low = tt
    others_leased n at status (k ∷ ranges) above low = (
      subst Leased (sym (other_seat e none n at k (λ same. let less = above.0 in omega (arith, less, same)) status)) low.0,
      others_leased n at status ranges above.1 low.1,
    )

    all_end : (ranges : List ℕ) → IsAscending ranges → (n : Node) → AllByRecursion (λ k. Leased (seat n k)) ranges → AllEnd many n.outcomes → AllEnd many (all_turns e n ranges).outcomes
    all_end [] up n low h = h
    all_end (at ∷ more) up n low h =
        all_end more up.1 (live_turn e n at (seat n at)) (others_leased n at (seat n at) more up.0 low.1) (turn_ends n at (seat n at) low.0 h)

  each_leased : (n : Node) → AllLeased n → (ranges : List ℕ) → AllByRecursion (λ k. Leased (seat n k)) ranges
  each_leased n low [] = tt
  each_leased n low (k ∷ ranges) = (low k, each_leased n low ranges)

  acted_ends : (n : Node) (ev : Event AppliedState) (taken : List Item) → AllLeased n → AllEnd many n.outcomes → AllEnd many (acted n ev taken).node.outcomes
  acted_ends n (events.Admit at id request) taken low h = status_ends (with_request n request) at (Admit id request) [] h (seat n at) (low at)
  acted_ends n (events.Ask at) taken low h = status_ends n at Ask [] h (seat n at) (low at)
  acted_ends n (events.Transfer at to) taken low h = status_ends n at (Transfer to) [] h (seat n at) (low at)
  acted_ends n (events.Collect at) taken low h = status_ends n at Collect taken h (seat n at) (low at)
  acted_ends n (events.Flush at) taken low h = status_ends n at Flush [] h (seat n at) (low at)
  acted_ends n events.Tick taken low h = all_end Tick (λ r ticks round. refl) range_numbers ascending (record n { ticks = n.ticks + 1 }) (each_leased n low range_numbers) h
  acted_ends n (events.Deliver from at number m) taken low h = message_ends n from at m h (seat n at) (low at)
  acted_ends n (events.Apply at) taken low h = status_ends n at Apply [] h (seat n at) (low at)
  acted_ends n (events.Cut at) taken low h = status_ends n at Cut [] h (seat n at) (low at)
  acted_ends n (events.Remove at) taken low h = status_ends n at Remove [] h (seat n at) (low at)
  acted_ends n (events.Peek at key) taken low h = status_ends n at (Peek key) [] h (seat n at) (low at)
  acted_ends n events.Restart taken low h = all_end Restart (λ r ticks round. refl) range_numbers ascending n (each_leased n low range_numbers) h
  acted_ends n events.Round taken low h = h

abbrev AllEnded : ℕ → World → Type 0
AllEnded many w = (node : ℕ) (n : Node) → node_of w node ≡ Some n → AllEnd many n.outcomes

-- the leases of a reached world
leased : (many : ℕ) (w : World) → IsReached many w → (node : ℕ) (n : Node) → node_of w node ≡ Some n → AllLeased many n
leased many w reached node n has range = go (seat n range) refl where
  go : (status : Status) → seat n range ≡ status → Leased many status
  go Absent is = tt
  go (Live r) is = (held_by_node many w reached node n has range r is).1
  go (nodes.Removed applied) is = tt

ended_scene : (many : ℕ) (w : World) (x : Scene) → IsReached many w → AllEnded many w → AllEnded many (happens w x)
ended_scene many w x reached all = ⊎_elim
    (λ (same : happens w x ≡ w). subst (AllEnded many) (sym same) all)
    (λ (k : Happened w x). subst (AllEnded many) (sym k.is)
    (node_after (λ node n. AllEnd many n.outcomes) w x.node k.n (step k.n k.event (taken_in x.what)).node k.has
    (acted_ends many k.n k.event (taken_in x.what) (leased many w reached x.node k.n k.has) (all x.node k.n k.has)) (λ other m ne is. all other m is)))
    (happened w x)

ended_run : (many : ℕ) (xs : Schedule) (w : World) → IsReached many w → AllLawful w xs → AllEnded many w → AllEnded many (run w xs)
ended_run many [] w reached lawful all = all
ended_run many (x ∷ xs) w reached lawful all =
    ended_run many xs (happens w x) (reached_later many w (happens w x) reached (later_scene w x lawful.0)) lawful.1 (ended_scene many w x reached all)

all_ended : (many : ℕ) (w : World) → IsReached many w → AllEnded many w
all_ended many w r = subst (AllEnded many) r.reached (ended_run many r.schedule (first_world many) (first_reached many w r) r.lawful first) where
  first : AllEnded many (first_world many)
  first node n has = subst (AllEnd many) (sym (ap (λ (z : Node). z.outcomes) (first_at many node n has))) tt

pub outcome_ends : (many : ℕ) (w : World) → IsReached many w → (node : ℕ) (n : Node) → node_of w node ≡ Some n → (k : ℕ) (id : CmdId) (outcome : Outcome)
    → slice_get n.outcomes k ≡ Some (record { id = id; outcome = outcome }) → IsEnd many outcome
outcome_ends many w r node n has k id outcome here = (each_at (λ (e : Ended). IsEnd many e.outcome) n.outcomes k (record { id = id; outcome = outcome }) (all_ended many w r node n has) here).0

-- a refusal at an admission
pub refused_names : (many : ℕ) (w : World) → IsReached many w → (node : ℕ) (n : Node) → node_of w node ≡ Some n → (range : ℕ) (id : CmdId) (request : Request) (refusal : Refusal)
    → (step n (events.Admit range id request) []).answer ≡ answers.Refused refusal → NamesNode many refusal
refused_names many w r node n has range id request refusal = go (seat n range) (leased many w r node n has range) where
  refused : (a b : Refusal) → answers.Refused a ≡ answers.Refused b → a ≡ b
  refused a b e = cc

  go : (status : Status) → Leased many status → (by_status (with_request n request) range (Admit id request) [] status).answer ≡ answers.Refused refusal → NamesNode many refusal
  go Absent low is = subst (NamesNode many) (refused NoReplica refusal is) tt
  go (Live q) low is = admission_names many q low id request n.ticks n.rounds refusal is
  go (nodes.Removed applied) low is = subst (NamesNode many) (refused NoReplica refusal is) tt
