-- In which states a scene starts a range.
use Rattle.std.proofs.Common.{◌≡◌, ℕ, ◌+◌, cond, eqb, Option, None, Some, List, [], ◌∷◌, ◌++◌, refl, ◌∙◌, eqb-true}
use Rattle.std.proofs.lemmas.Bool.{cond_both}
use Rattle.rp_base.specs.declared.items.Item.{Item}
use Rattle.rp_raftstep.specs.declared.messages.Message.{Message}
use Rattle.rp_request.specs.Applied.{AppliedState}
use Rattle.rp_request.specs.declared.commands.Payload.{Payload}
use Rattle.rp_events.specs.declared.node_events.Event.{Event}
use Rattle.rp_events.specs.declared.node_events.Event.TheVariants as events
use Rattle.rp_events.specs.declared.replica_events.ReplicaEvent.{ReplicaEvent}
use Rattle.rp_events.specs.declared.replica_events.ReplicaEvent.TheVariants.{Admit, Ask, Transfer, Collect, Flush, Tick, Deliver, Apply, Cut, Remove, Peek, Restart}
use Rattle.rp_events.specs.Applications.{payload_of, next_entry}
use Rattle.rp_events.specs.Replicas.{Replica, Done}
use Rattle.rp_events.specs.ReplicaEvents.{event}
use Rattle.rp_events.specs.Nodes.{Node, Status, Absent, Live, Removed, seat, range_numbers}
use Rattle.rp_events.specs.NodeEvents.{live_turn}
use Rattle.rp_seats.specs.Scenes.{Doing, Acts, Gets, Starts, applying, doings_of, starting, seat_doings, all_doings, message_doings, node_doings, StartsIn, OnlyStarts}

-- each start is in such a state
abbrev pub EachStart : (AppliedState → Type 0) → List Doing → Type 0
EachStart P [] = Unit {0}
EachStart P (Acts action ∷ ds) = EachStart P ds
EachStart P (Gets from number m again ∷ ds) = EachStart P ds
EachStart P (Starts s ∷ ds) = P s × EachStart P ds

pub starts_in : (s : AppliedState) (ds : List Doing) → EachStart (λ t. t ≡ s) ds → StartsIn s ds
starts_in s [] h = tt
starts_in s (Acts action ∷ ds) h = starts_in s ds h
starts_in s (Gets from number m again ∷ ds) h = starts_in s ds h
starts_in s (Starts t ∷ ds) h = (h.0, starts_in s ds h.1)

pub nothing_starts : (ds : List Doing) → OnlyStarts ds → EachStart (λ t. ⊥) ds → ds ≡ []
nothing_starts [] o h = refl
nothing_starts (Acts action ∷ ds) o h = absurd o
nothing_starts (Gets from number m again ∷ ds) o h = absurd o
nothing_starts (Starts t ∷ ds) o h = absurd h.0

module _ (P : AppliedState → Type 0) where
  further : (ds es : List Doing) → EachStart P ds → EachStart P es → EachStart P (ds ++ es)
  further [] es a b = b
  further (Acts action ∷ ds) es a b = further ds es a b
  further (Gets from number m again ∷ ds) es a b = further ds es a b
  further (Starts s ∷ ds) es a b = (a.0, further ds es a.1 b)

  applying_starts : (o : Option Payload) → EachStart P (applying o)
  applying_starts None = tt
  applying_starts (Some p) = tt

  own_starts : (number : ℕ) (r : Replica) (e : ReplicaEvent AppliedState) (proposed : List (List ℕ)) → EachStart P (doings_of number r e proposed)
  own_starts number r (Admit id request) proposed = tt
  own_starts number r Ask proposed = tt
  own_starts number r (Transfer to) proposed = tt
  own_starts number r Collect proposed = tt
  own_starts number r Flush proposed = tt
  own_starts number r Tick proposed = tt
  own_starts number r (Deliver from m) proposed = tt
  own_starts number r Apply proposed = applying_starts (payload_of (next_entry r))
  own_starts number r Cut proposed = tt
  own_starts number r Remove proposed = tt
  own_starts number r (Peek key) proposed = tt
  own_starts number r Restart proposed = tt

  module _ (range : ℕ) where
    right_starts : (o : Option AppliedState) → ((t : AppliedState) → o ≡ Some t → t.desc.id ≡ range → P t) → EachStart P (starting range o)
    right_starts None h = tt
    right_starts (Some t) h = cond_both (eqb t.desc.id range) (Starts t ∷ []) [] (EachStart P) (λ is. (h t refl (eqb-true t.desc.id range is), tt)) (λ _. tt)

    seat_starts : (n : Node) (at number : ℕ) (e : ReplicaEvent AppliedState) (taken : List Item) (status : Status)
        → ((r : Replica) (t : AppliedState) → status ≡ Live r → (event r e n.ticks n.rounds taken).right ≡ Some t → t.desc.id ≡ range → P t)
        → EachStart P (seat_doings range n at number e taken status)
    seat_starts n at number e taken Absent h = tt
    seat_starts n at number e taken (Live r) h =
        let d : Done = event r e n.ticks n.rounds taken in
        further (cond (eqb at range) (doings_of number r e d.proposed) []) (starting range d.right)
        (cond_both (eqb at range) (doings_of number r e d.proposed) [] (EachStart P) (λ _. own_starts number r e d.proposed) (λ _. tt))
        (right_starts d.right (λ t is own. h r t refl is own))
    seat_starts n at number e taken (Removed applied) h = tt

    none_some : (t : AppliedState) → ◌≡◌ {A = Option AppliedState} None (Some t) → ⊥
    none_some t e = cc

    all_starts : (e : ReplicaEvent AppliedState) → ((r : Replica) (ticks round : ℕ) → None ≡ (event r e ticks round []).right) → (ranges : List ℕ) (n : Node) → EachStart P (all_doings range e n ranges)
    all_starts e none [] n = tt
    all_starts e none (at ∷ more) n =
        further (seat_doings range n at 0 e [] (seat n at)) (all_doings range e (live_turn e n at (seat n at)) more)
        (seat_starts n at 0 e [] (seat n at) (λ r t live is own. absurd (none_some t (none r n.ticks n.rounds ∙ is))))
        (all_starts e none more (live_turn e n at (seat n at)))

    message_starts : (n : Node) (at from number : ℕ) (m : Message AppliedState) (status : Status)
        → ((r : Replica) (t : AppliedState) → status ≡ Live r → (event r (Deliver from m) n.ticks n.rounds []).right ≡ Some t → t.desc.id ≡ range → P t)
        → EachStart P (message_doings range n at from number m status)
    message_starts n at from number m Absent h = cond_both (eqb at range) (Gets from number m [] ∷ []) [] (EachStart P) (λ _. tt) (λ _. tt)
    message_starts n at from number m (Live r) h = seat_starts n at number (Deliver from m) [] (Live r) h
    message_starts n at from number m (Removed applied) h = tt

    -- what a right range of an event of the node starts in
    abbrev pub Rights : Node → Type 0
    Rights n = (at : ℕ) (r : Replica) (e : ReplicaEvent AppliedState) (taken : List Item) (t : AppliedState) → seat n at ≡ Live r
        → (event r e n.ticks n.rounds taken).right ≡ Some t → t.desc.id ≡ range → P t

    pub node_starts : (n : Node) → Rights n → (ev : Event AppliedState) (taken : List Item) → EachStart P (node_doings range n ev taken)
    node_starts n h (events.Admit at id request) taken = seat_starts n at 0 (Admit id request) [] (seat n at) (λ r t. h at r (Admit id request) [] t)
    node_starts n h (events.Ask at) taken = seat_starts n at 0 Ask [] (seat n at) (λ r t. h at r Ask [] t)
    node_starts n h (events.Transfer at to) taken = seat_starts n at 0 (Transfer to) [] (seat n at) (λ r t. h at r (Transfer to) [] t)
    node_starts n h (events.Collect at) taken = seat_starts n at 0 Collect taken (seat n at) (λ r t. h at r Collect taken t)
    node_starts n h (events.Flush at) taken = seat_starts n at 0 Flush [] (seat n at) (λ r t. h at r Flush [] t)
    node_starts n h events.Tick taken = all_starts Tick (λ r ticks round. refl) range_numbers (record n { ticks = n.ticks + 1 })
    node_starts n h (events.Deliver from at number m) taken = message_starts n at from number m (seat n at) (λ r t. h at r (Deliver from m) [] t)
    node_starts n h (events.Apply at) taken = seat_starts n at 0 Apply [] (seat n at) (λ r t. h at r Apply [] t)
    node_starts n h (events.Cut at) taken = seat_starts n at 0 Cut [] (seat n at) (λ r t. h at r Cut [] t)
    node_starts n h (events.Remove at) taken = seat_starts n at 0 Remove [] (seat n at) (λ r t. h at r Remove [] t)
    node_starts n h (events.Peek at key) taken = seat_starts n at 0 (Peek key) [] (seat n at) (λ r t. h at r (Peek key) [] t)
    node_starts n h events.Restart taken = all_starts Restart (λ r ticks round. refl) range_numbers n
    node_starts n h events.Round taken = tt
