-- What a scene is to a range that is shut: it may start, and nothing else happens to it.
use Rattle.std.proofs.Common.{◌≡◌, ℕ, zero, suc, ◌+◌, ◌<◌, cond, eqb, Option, None, Some, List, [], ◌∷◌, ◌++◌, map, length, refl, sym, ap, subst, ◌∙◌, eqb-true}
use Rattle.std.specs.Prelude.{IsTrue}
use Rattle.std.specs.Option.{option_map, option_map_or}
use Rattle.std.proofs.lemmas.Bool.{cond_both}
use Rattle.rp_base.specs.declared.items.Item.{Item}
use Rattle.rp_raftstep.specs.declared.messages.Message.{Message}
use Rattle.rp_request.specs.Applied.{AppliedState}
use Rattle.rp_request.specs.States.{first_applied}
use Rattle.rp_raftsafe.specs.World as raft
use Rattle.rp_events.specs.declared.parcels.Parcel.{Parcel}
use Rattle.rp_events.specs.declared.node_events.Event.{Event}
use Rattle.rp_events.specs.declared.node_events.Event.TheVariants as events
use Rattle.rp_events.specs.declared.replica_events.ReplicaEvent.{ReplicaEvent}
use Rattle.rp_events.specs.declared.replica_events.ReplicaEvent.TheVariants.{Admit, Ask, Transfer, Collect, Flush, Tick, Deliver, Apply, Cut, Remove, Peek, Restart}
use Rattle.rp_events.specs.Replicas.{Replica, Done}
use Rattle.rp_events.specs.ReplicaEvents.{event}
use Rattle.rp_events.specs.Nodes.{Node, Status, Absent, Live, Removed, seat, opened, after_turn, parcel_of, range_numbers}
use Rattle.rp_events.specs.NodeEvents.{status_after, live_turn, step}
use Rattle.rp_events.specs.Worlds.{World, Scene, Happening, node_of, with_node, sent_by, delivery, event_of, taken_in, after_step, happens_at, happens}
use Rattle.rp_events.specs.Worlds as worlds
use Rattle.rp_events.specs.Lawful.{is_lawful}
use Rattle.rp_seats.specs.Views.{number_in, view, range_at}
use Rattle.rp_seats.specs.Scenes.{Doing, Acts, Gets, Starts, doings_of, starting, seat_doings, all_doings, message_doings, node_doings, scene_doings, doings_in, StartsIn, OnlyStarts, as_event}
use Rattle.rp_seats.specs.Standing.{IsShut, AreShaped}
use Rattle.rp_seats.proofs.Nodes.{seat_other}
use Rattle.rp_seats.proofs.Opens.{nowhere_bare, absent_is}
use Rattle.rp_seats.proofs.Shaped.{length_with}
use Rattle.rp_seats.proofs.Worlds.{site_seen, message_seen, scene_seen}

-- the seats and messages of a shut range
pub shut_seat : (range : ℕ) (seen : List raft.Event) (w : World) → IsShut range seen w → (node : ℕ) (n : Node) → node_of w node ≡ Some n → seat n range ≡ Absent
shut_seat range seen w shut node n has = absent_is (seat n range) (ap (λ (z : raft.Site AppliedState). z.status)
    (sym (site_seen range w node n has) ∙ ap (λ (z : raft.World AppliedState). raft.site z node) shut.view_is ∙ nowhere_bare (range_at (length w) range first_applied) node))

pub no_parcel : (range : ℕ) (seen : List raft.Event) (w : World) → IsShut range seen w → (from number : ℕ) (p : Parcel AppliedState) → parcel_of (sent_by w from) number ≡ Some p → p.range ≡ range → ⊥
no_parcel range seen w shut from number p at own =
    none_at (number_in range (sent_by w from) number)
    (ap (λ (z : raft.Site AppliedState). raft.message_of z (number_in range (sent_by w from) number))
    (sym (nowhere_bare (range_at (length w) range first_applied) from) ∙ ap (λ (z : raft.World AppliedState). raft.site z from) (sym shut.view_is))
    ∙ message_seen range w from number p at own)
  where
    none_at : (k : ℕ) → raft.message_of (record { status = raft.Absent; sent = [] }) k ≡ Some (p.to, p.message) → ⊥
    none_at zero e = cc
    none_at (suc k) e = cc

-- starts alone
pub starts_further : (ds es : List Doing) → OnlyStarts ds → OnlyStarts es → OnlyStarts (ds ++ es)
starts_further [] es a b = b
starts_further (Acts action ∷ ds) es a b = absurd a
starts_further (Gets from number m again ∷ ds) es a b = absurd a
starts_further (Starts s ∷ ds) es a b = starts_further ds es a b

pub only_starting : (range : ℕ) (o : Option AppliedState) → OnlyStarts (starting range o)
only_starting range None = tt
only_starting range (Some s) = cond_both (eqb s.desc.id range) (Starts s ∷ []) [] OnlyStarts (λ _. tt) (λ _. tt)

module _ (range : ℕ) where
  -- at a node that has nothing of the range
  seat_starts : (n : Node) → seat n range ≡ Absent → (at number : ℕ) (e : ReplicaEvent AppliedState) (taken : List Item) (status : Status) → seat n at ≡ status → OnlyStarts (seat_doings range n at number e taken status)
  seat_starts n bare at number e taken Absent is = tt
  seat_starts n bare at number e taken (Live r) is =
      let d : Done = event r e n.ticks n.rounds taken in
      starts_further (cond (eqb at range) (doings_of number r e d.proposed) []) (starting range d.right)
      (cond_both (eqb at range) (doings_of number r e d.proposed) [] OnlyStarts
      (λ own. absurd (absent_live (sym bare ∙ ap (seat n) (sym (eqb-true at range own)) ∙ is))) (λ _. tt)) (only_starting range d.right)
    where
      absent_live : ◌≡◌ {A = Status} Absent (Live r) → ⊥
      absent_live e = cc
  seat_starts n bare at number e taken (Removed applied) is = tt

  apart : (n : Node) → seat n range ≡ Absent → (at : ℕ) (r : Replica) → seat n at ≡ Live r → at ≡ range → ⊥
  apart n bare at r is same = absent_live (sym bare ∙ ap (seat n) (sym same) ∙ is) where
    absent_live : ◌≡◌ {A = Status} Absent (Live r) → ⊥
    absent_live e = cc

  keeps_bare : (e : ReplicaEvent AppliedState) → ((r : Replica) (ticks round : ℕ) → (event r e ticks round []).right ≡ None)
      → (n : Node) → seat n range ≡ Absent → (at : ℕ) (status : Status) → seat n at ≡ status → seat (live_turn e n at status) range ≡ Absent
  keeps_bare e none n bare at Absent is = bare
  keeps_bare e none n bare at (Live r) is =
      let d : Done = event r e n.ticks n.rounds [] in
      ap (λ o. seat (opened (after_turn n at (status_after e d.replica) d) o) range) (none r n.ticks n.rounds)
      ∙ seat_other n at range (status_after e d.replica) (apart n bare at r is) ∙ bare
  keeps_bare e none n bare at (Removed applied) is = bare

  all_starts : (e : ReplicaEvent AppliedState) → ((r : Replica) (ticks round : ℕ) → (event r e ticks round []).right ≡ None)
      → (ranges : List ℕ) (n : Node) → seat n range ≡ Absent → OnlyStarts (all_doings range e n ranges)
  all_starts e none [] n bare = tt
  all_starts e none (at ∷ more) n bare =
      starts_further (seat_doings range n at 0 e [] (seat n at)) (all_doings range e (live_turn e n at (seat n at)) more)
      (seat_starts n bare at 0 e [] (seat n at) refl)
      (all_starts e none more (live_turn e n at (seat n at)) (keeps_bare e none n bare at (seat n at) refl))

  message_starts : (n : Node) → seat n range ≡ Absent → (at from number : ℕ) (m : Message AppliedState) → (at ≡ range → ⊥) → (status : Status) → seat n at ≡ status
      → OnlyStarts (message_doings range n at from number m status)
  message_starts n bare at from number m ne Absent is =
      cond_both (eqb at range) (Gets from number m [] ∷ []) [] OnlyStarts (λ own. absurd (ne (eqb-true at range own))) (λ _. tt)
  message_starts n bare at from number m ne (Live r) is = seat_starts n bare at number (Deliver from m) [] (Live r) is
  message_starts n bare at from number m ne (Removed applied) is = tt

  -- a message is of no shut range
  abbrev IsApart : Event AppliedState → Type 0
  IsApart (events.Deliver from at number m) = at ≡ range → ⊥
  IsApart e = Unit {0}

  node_starts : (n : Node) → seat n range ≡ Absent → (e : Event AppliedState) (taken : List Item) → IsApart e → OnlyStarts (node_doings range n e taken)
  node_starts n bare (events.Admit at id request) taken k = seat_starts n bare at 0 (Admit id request) [] (seat n at) refl
  node_starts n bare (events.Ask at) taken k = seat_starts n bare at 0 Ask [] (seat n at) refl
  node_starts n bare (events.Transfer at to) taken k = seat_starts n bare at 0 (Transfer to) [] (seat n at) refl
  node_starts n bare (events.Collect at) taken k = seat_starts n bare at 0 Collect taken (seat n at) refl
  node_starts n bare (events.Flush at) taken k = seat_starts n bare at 0 Flush [] (seat n at) refl
  node_starts n bare events.Tick taken k = all_starts Tick (λ r ticks round. refl) range_numbers (record n { ticks = n.ticks + 1 }) bare
  node_starts n bare (events.Deliver from at number m) taken k = message_starts n bare at from number m k (seat n at) refl
  node_starts n bare (events.Apply at) taken k = seat_starts n bare at 0 Apply [] (seat n at) refl
  node_starts n bare (events.Cut at) taken k = seat_starts n bare at 0 Cut [] (seat n at) refl
  node_starts n bare (events.Remove at) taken k = seat_starts n bare at 0 Remove [] (seat n at) refl
  node_starts n bare (events.Peek at key) taken k = seat_starts n bare at 0 (Peek key) [] (seat n at) refl
  node_starts n bare events.Restart taken k = all_starts Restart (λ r ticks round. refl) range_numbers n bare
  node_starts n bare events.Round taken k = tt

  module _ (seen : List raft.Event) (w : World) (shut : IsShut range seen w) where
    some_event : (e f : Event AppliedState) → ◌≡◌ {A = Option (Event AppliedState)} (Some e) (Some f) → e ≡ f
    some_event e f is = cc

    parcel_apart : (from number : ℕ) (o : Option (Parcel AppliedState)) → parcel_of (sent_by w from) number ≡ o → (e : Event AppliedState) → option_map (delivery from number) o ≡ Some e → IsApart e
    parcel_apart from number None at e is = absurd cc
    parcel_apart from number (Some p) at e is = subst IsApart (some_event (delivery from number p) e is) (λ own. no_parcel range seen w shut from number p at own)

    event_apart : (what : Happening) (e : Event AppliedState) → event_of w what ≡ Some e → IsApart e
    event_apart (worlds.Admit at id request) e is = subst IsApart (some_event (events.Admit at id request) e is) tt
    event_apart (worlds.Ask at) e is = subst IsApart (some_event (events.Ask at) e is) tt
    event_apart (worlds.Transfer at to) e is = subst IsApart (some_event (events.Transfer at to) e is) tt
    event_apart (worlds.Collect at taken) e is = subst IsApart (some_event (events.Collect at) e is) tt
    event_apart (worlds.Flush at) e is = subst IsApart (some_event (events.Flush at) e is) tt
    event_apart worlds.Tick e is = subst IsApart (some_event events.Tick e is) tt
    event_apart (worlds.Deliver from number) e is = parcel_apart from number (parcel_of (sent_by w from) number) refl e is
    event_apart (worlds.Apply at) e is = subst IsApart (some_event (events.Apply at) e is) tt
    event_apart (worlds.Cut at) e is = subst IsApart (some_event (events.Cut at) e is) tt
    event_apart (worlds.Remove at) e is = subst IsApart (some_event (events.Remove at) e is) tt
    event_apart (worlds.Peek at key) e is = subst IsApart (some_event (events.Peek at key) e is) tt
    event_apart worlds.Restart e is = subst IsApart (some_event events.Restart e is) tt
    event_apart worlds.Round e is = subst IsApart (some_event events.Round e is) tt

    pub scene_starts : (x : Scene) → OnlyStarts (doings_in range w x)
    scene_starts x = by_node (node_of w x.node) refl where
      by_event : (n : Node) → node_of w x.node ≡ Some n → (o : Option (Event AppliedState)) → event_of w x.what ≡ o → OnlyStarts (option_map_or (λ e. node_doings range n e (taken_in x.what)) o [])
      by_event n has None is = tt
      by_event n has (Some e) is = node_starts n (shut_seat range seen w shut x.node n has) e (taken_in x.what) (event_apart x.what e is)

      by_node : (o : Option Node) → node_of w x.node ≡ o → OnlyStarts (option_map_or (scene_doings range w x) o [])
      by_node None has = tt
      by_node (Some n) has = by_event n has (event_of w x.what) refl

    -- a scene that does not start it leaves it shut
    pub stays_shut : range < 8 → AreShaped w → (x : Scene) → IsTrue (is_lawful w x) → doings_in range w x ≡ [] → IsShut range seen (happens w x)
    stays_shut below shaped x lawful nothing = record {
      unseen = shut.unseen;
      view_is = scene_seen range first_applied below w shaped x lawful (subst (StartsIn first_applied) (sym nothing) tt)
          ∙ ap (λ ds. raft.run (range_at (length w) range first_applied) (map (as_event range w x.node) ds) (view range w)) nothing
          ∙ shut.view_is
          ∙ ap (λ k. raft.nowhere (range_at k range first_applied)) (sym same_length);
    }
      where
        same_length : length (happens w x) ≡ length w
        same_length = by_node (node_of w x.node) where
          by_event : (n : Node) (o : Option (Event AppliedState)) → length (option_map_or (after_step w x.node n (taken_in x.what)) o w) ≡ length w
          by_event n None = refl
          by_event n (Some e) = length_with w x.node (step n e (taken_in x.what)).node

          by_node : (o : Option Node) → length (option_map_or (happens_at w x) o w) ≡ length w
          by_node None = refl
          by_node (Some n) = by_event n (event_of w x.what)
