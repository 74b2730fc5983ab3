-- A scene at a replica is a turn of its range.
use Rattle.std.proofs.Common.{◌≡◌, ℕ, zero, suc, ◌<◌, ◌⊎◌, inl, inr, ⊎_elim, false, cond, eqb, Option, None, Some, List, [], ◌∷◌, ◌++◌, map, length, set, refl, sym, ap, subst, ◌∙◌, arith, append-nil}
use Rattle.std.specs.Prelude.{Contains, flat_map, slice_get, IsTrue}
use Rattle.std.specs.List.{find}
use Rattle.std.specs.Option.{option_map, option_map_or}
use Rattle.std.proofs.lemmas.Bool.{cond_both, cases_eq}
use Rattle.std.proofs.lemmas.List.Elements.{Contains-append_cases}
use Rattle.std.proofs.lemmas.Grind.{flat_map-append}
use Rattle.rp_base.specs.declared.ids.CmdId.{CmdId}
use Rattle.rp_base.specs.declared.items.Item.{Item}
use Rattle.rp_request.specs.Applied.{AppliedState}
use Rattle.rp_request.specs.declared.commands.Payload.{Payload}
use Rattle.rp_raftsafe.specs.World as raft
use Rattle.rp_raftsafe.specs.Safety.{OneList}
use Rattle.rp_raftsafe.specs.Proposed.{event_payloads, payloads_of}
use Rattle.rp_rangesafe.specs.Attempts.{IsBornAt}
use Rattle.rp_rangesafe.specs.World as machine
use Rattle.rp_rangesafe.specs.Places.{IsReached}
use Rattle.rp_events.specs.declared.answers.Ended.{Ended}
use Rattle.rp_events.specs.declared.answers.EventAnswer.{EventAnswer}
use Rattle.rp_events.specs.declared.answers.EventAnswer.TheVariants as answers
use Rattle.rp_events.specs.declared.journals.JournalEntry.{JournalEntry}
use Rattle.rp_events.specs.declared.node_events.Event.{Event}
use Rattle.rp_events.specs.declared.replica_events.ReplicaEvent.{ReplicaEvent}
use Rattle.rp_events.specs.declared.replica_events.ReplicaEvent.TheVariants.{Admit, Ask, Transfer, Collect, Flush, Tick, Deliver, Apply, Cut, Remove, Peek, Restart}
use Rattle.rp_events.specs.Replicas.{Replica, Done, started}
use Rattle.rp_events.specs.Applications.{payload_of, next_entry}
use Rattle.rp_events.specs.ReplicaEvents.{event}
use Rattle.rp_events.specs.Nodes.{Node, Status, Absent, Live, Removed, seat, opened, opened_by, after_turn, right_base, right_base_term}
use Rattle.rp_events.specs.NodeEvents.{status_after, after_replica, acted, past_of, step}
use Rattle.rp_events.specs.Worlds.{World, Scene, node_of, with_node, event_of, taken_in, after_step, happens_at, happens, is_admission_of, outcome_by, outcome_at}
use Rattle.rp_events.specs.Lawful.{is_lawful}
use Rattle.rp_seats.specs.Scenes.{Starts, applying, doings_of, starting, seen_by, seat_doings, node_doings, as_event, scene_doings, doings_in, raft_events, StartsIn}
use Rattle.rp_seats.specs.Standing.{AreShaped, RangeOk}
use Rattle.rp_seats.specs.Steps.{told_after, AreEnds, with_outcomes}
use Rattle.rp_seats.specs.Turned.{SeatTurned, IsNodeChange, TurnOk}
use Rattle.rp_seats.proofs.Bound.{bound_turn}
use Rattle.rp_seats.proofs.Nodes.{seat_same, seat_other, live_within}
use Rattle.rp_seats.proofs.Outcomes.{all_told_so, journal_told}
use Rattle.rp_seats.proofs.Shaped.{Changed, set_get}
use Rattle.rp_seats.proofs.Worlds.{scene_seen}

-- a seat that has something keeps it where a right range starts
pub opened_seat : (n : Node) (o : Option AppliedState) (at : ℕ) (status : Status) → (status ≡ Absent → ⊥) → seat n at ≡ status → seat (opened n o) at ≡ status
opened_seat n None at status some is = is
opened_seat n (Some t) at status some is = go (seat n t.desc.id) refl where
  go : (other : Status) → seat n t.desc.id ≡ other → seat (opened_by n t other) at ≡ status
  go Absent e = ⊎_elim
      (λ (same : t.desc.id ≡ at). absurd (some (sym is ∙ ap (seat n) (sym same) ∙ e)))
      (λ (ne : t.desc.id ≡ at → ⊥). seat_other n t.desc.id at (Live (started n.node n.nodes t.lease.holder right_base right_base_term t)) ne ∙ is)
      (cases_eq t.desc.id at)
  go (Live r) e = is
  go (Removed applied) e = is

pub opened_journal : (n : Node) (o : Option AppliedState) → (opened n o).journal ≡ n.journal
opened_journal n None = refl
opened_journal n (Some t) = go (seat n t.desc.id) where
  go : (other : Status) → (opened_by n t other).journal ≡ n.journal
  go Absent = refl
  go (Live r) = refl
  go (Removed applied) = refl

pub opened_outcomes : (n : Node) (o : Option AppliedState) → (opened n o).outcomes ≡ n.outcomes
opened_outcomes n None = refl
opened_outcomes n (Some t) = go (seat n t.desc.id) where
  go : (other : Status) → (opened_by n t other).outcomes ≡ n.outcomes
  go Absent = refl
  go (Live r) = refl
  go (Removed applied) = refl

pub left_something : (e : ReplicaEvent AppliedState) (r : Replica) → status_after e r ≡ Absent → ⊥
left_something (Admit id request) r k = cc
left_something Ask r k = cc
left_something (Transfer to) r k = cc
left_something Collect r k = cc
left_something Flush r k = cc
left_something Tick r k = cc
left_something (Deliver from m) r k = cc
left_something Apply r k = cc
left_something Cut r k = cc
left_something Remove r k = cc
left_something (Peek key) r k = cc
left_something Restart r k = cc

-- outcomes are told by the journal and the list of outcomes
pub same_outcome : (n m : Node) → n.journal ≡ m.journal → n.outcomes ≡ m.outcomes → (id : CmdId) → outcome_at id n ≡ outcome_at id m
same_outcome n m journal outcomes id =
    ap (λ l. option_map (λ (x : JournalEntry). outcome_by n id x.answer) (find (is_admission_of id) l)) journal
    ∙ go (find (is_admission_of id) m.journal)
  where
    by : (a : EventAnswer) → outcome_by n id a ≡ outcome_by m id a
    by answers.Done = ap (λ l. outcome_by (record m { outcomes = l }) id answers.Done) outcomes
    by answers.Nothing = ap (λ l. outcome_by (record m { outcomes = l }) id answers.Nothing) outcomes
    by answers.Admitted = ap (λ l. outcome_by (record m { outcomes = l }) id answers.Admitted) outcomes
    by (answers.Asked ask) = ap (λ l. outcome_by (record m { outcomes = l }) id (answers.Asked ask)) outcomes
    by (answers.Refused why) = refl
    by (answers.LeaseHeld lease ticks) = ap (λ l. outcome_by (record m { outcomes = l }) id (answers.LeaseHeld lease ticks)) outcomes
    by (answers.Value value applied) = ap (λ l. outcome_by (record m { outcomes = l }) id (answers.Value value applied)) outcomes

    go : (o : Option JournalEntry) → option_map (λ (x : JournalEntry). outcome_by n id x.answer) o ≡ option_map (λ (x : JournalEntry). outcome_by m id x.answer) o
    go None = refl
    go (Some x) = ap Some (by x.answer)

-- one node of a world changes
pub node_change : (w : World) (node : ℕ) (n new : Node) → node_of w node ≡ Some n → IsNodeChange w (with_node w node new) node n new
node_change w zero n new was = absurd cc
node_change w (suc place) n new was = record { was = was; others = others } where
  others : (other : ℕ) (m : Node) → node_of (with_node w (suc place) new) other ≡ Some m
      → ((other ≡ suc place) × (m ≡ new)) ⊎ ((other ≡ suc place → ⊥) × (node_of w other ≡ Some m))
  others zero m e = absurd cc
  others (suc j) m e = ⊎_elim
      (λ (same : j ≡ place). inl (ap suc same, here j m same (set_get w place new j m e) e))
      (λ (ne : j ≡ place → ⊥). inr ((λ z. ne (suc_is j place z)), there j m ne (set_get w place new j m e)))
      (cases_eq j place)
    where
      suc_is : (a b : ℕ) → suc a ≡ suc b → a ≡ b
      suc_is a b z = omega (arith, z)

      there : (j : ℕ) (m : Node) → (j ≡ place → ⊥) → Changed place j new m ⊎ (slice_get w j ≡ Some m) → slice_get w j ≡ Some m
      there j m ne (inl c) = absurd (ne c.here)
      there j m ne (inr k) = k

      here : (j : ℕ) (m : Node) → j ≡ place → Changed place j new m ⊎ (slice_get w j ≡ Some m) → slice_get (set w place new) j ≡ Some m → m ≡ new
      here j m same (inl c) k = c.is
      here j m same (inr was') k = at w place j m same was' k where
        some_is : (a b : Node) → ◌≡◌ {A = Option Node} (Some a) (Some b) → a ≡ b
        some_is a b e' = cc

        at : (v : World) (i j : ℕ) (m : Node) → j ≡ i → slice_get v j ≡ Some m → slice_get (set v i new) j ≡ Some m → m ≡ new
        at [] i j m s' a b = absurd cc
        at (x ∷ v) zero zero m s' a b = sym (some_is new m b)
        at (x ∷ v) zero (suc j) m s' a b = absurd (omega (arith, s'))
        at (x ∷ v) (suc i) zero m s' a b = absurd (omega (arith, s'))
        at (x ∷ v) (suc i) (suc j) m s' a b = at v i j m (omega (arith, s')) a b

-- what a replica's event hands to Raft
pub no_bytes : (b : List ℕ) (bytes : List (List ℕ)) → Contains {X = List ℕ} [] b → Contains bytes b
no_bytes b bytes c = absurd (omega (arith, c.1))

pub handed_of : (range : ℕ) (w : World) (node number : ℕ) (r : Replica) (e : ReplicaEvent AppliedState) (proposed : List (List ℕ)) (b : List ℕ)
    → Contains (payloads_of (map (as_event range w node) (doings_of number r e proposed))) b → Contains proposed b
handed_of range w node number r (Admit id request) proposed b c = no_bytes b proposed c
handed_of range w node number r Ask proposed b c = no_bytes b proposed c
handed_of range w node number r (Transfer to) proposed b c = no_bytes b proposed c
handed_of range w node number r Collect proposed b c = no_bytes b proposed c
handed_of range w node number r Flush proposed b c = subst (λ l. Contains l b) (append-nil proposed) c
handed_of range w node number r Tick proposed b c = subst (λ l. Contains l b) (append-nil proposed) c
handed_of range w node number r (Deliver from m) proposed b c = subst (λ l. Contains l b) (append-nil proposed) c
handed_of range w node number r Apply proposed b c = go (payload_of (next_entry r)) c where
  go : (o : Option Payload) → Contains (payloads_of (map (as_event range w node) (applying o))) b → Contains proposed b
  go None k = no_bytes b proposed k
  go (Some p) k = no_bytes b proposed k
handed_of range w node number r Cut proposed b c = no_bytes b proposed c
handed_of range w node number r Remove proposed b c = no_bytes b proposed c
handed_of range w node number r (Peek key) proposed b c = no_bytes b proposed c
handed_of range w node number r Restart proposed b c = no_bytes b proposed c

pub handed_start : (range : ℕ) (w : World) (node : ℕ) (o : Option AppliedState) (proposed : List (List ℕ)) (b : List ℕ)
    → Contains (payloads_of (map (as_event range w node) (starting range o))) b → Contains proposed b
handed_start range w node None proposed b = no_bytes b proposed
handed_start range w node (Some t) proposed b =
    cond_both (eqb t.desc.id range) (Starts t ∷ []) [] (λ ds. Contains (payloads_of (map (as_event range w node) ds)) b → Contains proposed b)
    (λ _ c. no_bytes b proposed c) (λ _ c. no_bytes b proposed c)

pub map_further : {X Y : Type 0} (f : X → Y) (xs ys : List X) → map f (xs ++ ys) ≡ map f xs ++ map f ys
map_further f [] ys = refl
map_further f (x ∷ xs) ys = ap (λ zs. f x ∷ zs) (map_further f xs ys)

pub handed_seen : (range : ℕ) (w : World) (node at number : ℕ) (r : Replica) (e : ReplicaEvent AppliedState) (d : Done) (b : List ℕ)
    → Contains (payloads_of (map (as_event range w node) (seen_by range at number r e d))) b → Contains d.proposed b
handed_seen range w node at number r e d b c =
    let own = cond (eqb at range) (doings_of number r e d.proposed) [] in
    ⊎_elim
    (λ (k : Contains (payloads_of (map (as_event range w node) own)) b).
    cond_both (eqb at range) (doings_of number r e d.proposed) [] (λ ds. Contains (payloads_of (map (as_event range w node) ds)) b → Contains d.proposed b)
    (λ _ k'. handed_of range w node number r e d.proposed b k') (λ _ k'. no_bytes b d.proposed k') k)
    (λ (k : Contains (payloads_of (map (as_event range w node) (starting range d.right))) b). handed_start range w node d.right d.proposed b k)
    (Contains-append_cases (payloads_of (map (as_event range w node) own)) (payloads_of (map (as_event range w node) (starting range d.right))) b
    (subst (λ l. Contains l b) (ap (flat_map event_payloads) (map_further (as_event range w node) own (starting range d.right))
    ∙ flat_map-append event_payloads (map (as_event range w node) own) (map (as_event range w node) (starting range d.right))) c))

-- a scene at a node, by what it leaves of the range there
pub scene_turn : (lists : OneList AppliedState) (range : ℕ) (s : AppliedState) → range < 8 → (seen : List raft.Event) (w : World) → AreShaped w → (h : machine.World)
    → RangeOk lists (length w) range s seen w h → IsReached h → (x : Scene) → IsTrue (is_lawful w x) → StartsIn s (doings_in range w x)
    → (n : Node) → node_of w x.node ≡ Some n → (ev : Event AppliedState) → event_of w x.what ≡ Some ev
    → (status : Status) (ended : List Ended) (proposed : List (List ℕ)) (turn : SeatTurned x.node range h (λ id. outcome_at id n) status ended proposed)
    → seat (step n ev (taken_in x.what)).node range ≡ status
    → ((id : CmdId) → IsBornAt ((machine.run h turn.events).attempt id) x.node → outcome_at id (step n ev (taken_in x.what)).node ≡ told_after (λ q. outcome_at q n) ended id)
    → ((b : List ℕ) → Contains (payloads_of (raft_events range w x)) b → Contains proposed b)
    → TurnOk lists (length w) range s (seen ++ raft_events range w x) (happens w x) h x.node
scene_turn lists range s below seen w shaped h ok reached x lawful starts n has ev ev_is status ended proposed turn seat_is told handed =
    bound_turn lists (length w) range s seen (raft_events range w x) w (happens w x) h ok reached x.node n (step n ev (taken_in x.what)).node
    (subst (λ z. IsNodeChange w z x.node n (step n ev (taken_in x.what)).node)
    (sym (ap (λ o. option_map_or (happens_at w x) o w) has ∙ ap (λ o. option_map_or (after_step w x.node n (taken_in x.what)) o w) ev_is))
    (node_change w x.node n (step n ev (taken_in x.what)).node has))
    status seat_is ended proposed turn told (scene_seen range s below w shaped x lawful starts) handed

-- an event of a replica that is no admission and no message
module _ (lists : OneList AppliedState) (range : ℕ) (s : AppliedState) (below : range < 8) (seen : List raft.Event) (w : World) (shaped : AreShaped w) (h : machine.World)
    (ok : RangeOk lists (length w) range s seen w h) (reached : IsReached h) (x : Scene) (lawful : IsTrue (is_lawful w x)) (starts : StartsIn s (doings_in range w x))
    (n : Node) (has : node_of w x.node ≡ Some n) (ends : AreEnds n.outcomes) (ev : Event AppliedState) (ev_is : event_of w x.what ≡ Some ev)
    (e : ReplicaEvent AppliedState) (given : List Item) (r : Replica) (live : seat n range ≡ Live r)
    (acts : (acted n ev (taken_in x.what)).node ≡ after_replica n range e (event r e n.ticks n.rounds given)) (number : ℕ)
    (doings : node_doings range n ev (taken_in x.what) ≡ seat_doings range n range number e given (Live r))
    (plain : (id : CmdId) (a : EventAnswer) → is_admission_of id (record { event = past_of n ev (taken_in x.what); answer = a }) ≡ false)
    (turn : SeatTurned x.node range h (λ id. outcome_at id n) (status_after e (event r e n.ticks n.rounds given).replica)
    (event r e n.ticks n.rounds given).outcomes (event r e n.ticks n.rounds given).proposed) where
  abbrev d : Done
  d = event r e n.ticks n.rounds given

  abbrev left : Node
  left = after_replica n range e d

  abbrev new : Node
  new = (step n ev (taken_in x.what)).node

  abbrev entry : JournalEntry
  entry = record { event = past_of n ev (taken_in x.what); answer = (acted n ev (taken_in x.what)).answer }

  new_is : new ≡ record left { journal = left.journal ++ entry ∷ [] }
  new_is = ap (λ (m : Node). record m { journal = m.journal ++ entry ∷ [] }) acts

  new_seat : seat new range ≡ status_after e d.replica
  new_seat = ap (λ (m : Node). seat m range) new_is
      ∙ opened_seat (after_turn n range (status_after e d.replica) d) d.right range (status_after e d.replica) (left_something e d.replica)
      (seat_same n range (status_after e d.replica) (live_within n range r live))

  new_told : (id : CmdId) → outcome_at id new ≡ told_after (λ q. outcome_at q n) d.outcomes id
  new_told id =
      ap (outcome_at id) new_is
      ∙ journal_told left entry id (plain id (acted n ev (taken_in x.what)).answer)
      ∙ same_outcome left (with_outcomes n d.outcomes) (opened_journal (after_turn n range (status_after e d.replica) d) d.right) (opened_outcomes (after_turn n range (status_after e d.replica) d) d.right) id
      ∙ all_told_so n d.outcomes ends turn.ends id

  doings_are : doings_in range w x ≡ seen_by range range number r e d
  doings_are =
      ap (λ o. option_map_or (scene_doings range w x) o []) has
      ∙ ap (λ o. option_map_or (λ z. node_doings range n z (taken_in x.what)) o []) ev_is
      ∙ doings

  pub replica_scene : TurnOk lists (length w) range s (seen ++ raft_events range w x) (happens w x) h x.node
  replica_scene = scene_turn lists range s below seen w shaped h ok reached x lawful starts n has ev ev_is (status_after e d.replica) d.outcomes d.proposed turn new_seat
      (λ id born. new_told id)
      (λ b c. handed_seen range w x.node range number r e d b (subst (λ ds. Contains (payloads_of (map (as_event range w x.node) ds)) b) doings_are c))
