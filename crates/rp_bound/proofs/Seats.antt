-- What an event of a node makes of one of its seats: nothing, an event of its replica, or a fresh one.
use Rattle.std.proofs.Common.{◌≡◌, ℕ, ◌<◌, ◌⊎◌, inl, inr, ⊎_elim, cond, eqb, Option, None, Some, List, [], ◌∷◌, ◌++◌, map, length, refl, sym, ap, subst, ◌∙◌, arith}
use Rattle.std.specs.Prelude.{Contains}
use Rattle.std.proofs.lemmas.Bool.{cond_both, ne_eqb, cases_eq}
use Rattle.std.proofs.lemmas.List.{length-set}
use Rattle.rp_base.specs.declared.items.Item.{Item}
use Rattle.rp_raftstep.specs.declared.messages.Message.{Message}
use Rattle.rp_raftstep.specs.declared.messages.Message.TheVariants.{Vote, VoteReply, Append, AppendReply, Forward, Snap}
use Rattle.rp_request.specs.Applied.{AppliedState}
use Rattle.rp_raftsafe.specs.Proposed.{payloads_of}
use Rattle.rp_events.specs.declared.replica_events.ReplicaEvent.{ReplicaEvent}
use Rattle.rp_events.specs.declared.replica_events.ReplicaEvent.TheVariants.{Admit, Deliver}
use Rattle.rp_events.specs.Replicas.{Replica, Done, started, made_by_snap}
use Rattle.rp_events.specs.ReplicaEvents.{event}
use Rattle.rp_events.specs.Nodes.{Node, Status, Absent, Live, Removed, seat, with_seat, after_turn, opened, opened_by, right_base, right_base_term, range_numbers}
use Rattle.rp_events.specs.NodeEvents.{status_after, after_replica, by_status, all_turns, delivered, answered_absent, seat_by_message}
use Rattle.rp_events.specs.Worlds.{World}
use Rattle.rp_seats.specs.Scenes.{Doing, Gets, doings_of, starting, seen_by, seat_doings, all_doings, message_doings, as_event}
use Rattle.rp_seats.proofs.Nodes.{seat_same, seat_other, live_within}
use Rattle.rp_seats.proofs.Scenes.{opened_seat, left_something, handed_seen, handed_start}
use Rattle.rp_turns.proofs.All.{IsBare, each_once, after_once, after_bare, once_handed, bare_handed}

-- a replica that has nothing yet
pub record IsBlank (r : Replica) : Type 0 where
  pub assigned : r.assigned ≡ 0
  pub pending : r.pending ≡ []
  pub inbox : r.inbox ≡ []
  pub asks : r.asks ≡ []

-- the event is an admission
abbrev pub IsAdmission : ReplicaEvent AppliedState → Type 0
IsAdmission (Admit id request) = Unit {0}
IsAdmission e = ⊥

-- the seat stays
pub record IsStill (range : ℕ) (n new : Node) (Hands : List ℕ → Type 0) : Type 0 where
  pub same : seat new range ≡ seat n range
  pub none : (bytes : List ℕ) → Hands bytes → ⊥

-- its replica has an event, which hands the same to Raft
pub record IsOwn (range : ℕ) (n new : Node) (given : List Item) (Hands : List ℕ → Type 0) (e : ReplicaEvent AppliedState) (ticks : ℕ) : Type 0 where
  pub replica : Replica
  pub live : seat n range ≡ Live replica
  pub is : seat new range ≡ status_after e (event replica e ticks n.rounds given).replica
  pub handed : (bytes : List ℕ) → Hands bytes → Contains (event replica e ticks n.rounds given).proposed bytes

-- it has a fresh replica
pub record IsFresh (range : ℕ) (n new : Node) (Hands : List ℕ → Type 0) : Type 0 where
  pub replica : Replica
  pub is : seat new range ≡ Live replica
  pub blank : IsBlank replica
  pub none : (bytes : List ℕ) → Hands bytes → ⊥

abbrev pub Changes : (range : ℕ) → Node → Node → List Item → (List ℕ → Type 0) → ReplicaEvent AppliedState → (ticks : ℕ) → Type 0
Changes range n new given Hands e ticks = IsStill range n new Hands ⊎ (IsOwn range n new given Hands e ticks ⊎ IsFresh range n new Hands)

module _ (w : World) (node range : ℕ) where
  abbrev pub Hands : List Doing → List ℕ → Type 0
  Hands ds bytes = Contains (payloads_of (map (as_event range w node) ds)) bytes

  nothing : (bytes : List ℕ) → Hands [] bytes → ⊥
  nothing bytes c = omega (arith, c.1)

  -- an event of a replica
  module _ (n : Node) (at number : ℕ) (e : ReplicaEvent AppliedState) (given : List Item) (r : Replica) (live : seat n at ≡ Live r) where
    abbrev d : Done
    d = event r e n.ticks n.rounds given

    abbrev base : Node
    base = after_turn n at (status_after e d.replica) d

    abbrev left : Node
    left = after_replica n at e d

    abbrev Does : List ℕ → Type 0
    Does = Hands (seen_by range at number r e d)

    own_change : at ≡ range → IsOwn range n left given Does e n.ticks
    own_change own = record {
      replica = r;
      live = subst (λ i. seat n i ≡ Live r) own live;
      is = opened_seat base d.right range (status_after e d.replica) (left_something e d.replica)
          (subst (λ i. seat (after_turn n i (status_after e d.replica) d) range ≡ status_after e d.replica) (sym own)
          (seat_same n range (status_after e d.replica) (live_within n range r (subst (λ i. seat n i ≡ Live r) own live))));
      handed = λ bytes c. handed_seen range w node at number r e d bytes c;
    }

    other_none : (at ≡ range → ⊥) → (bytes : List ℕ) → Does bytes → ⊥
    other_none ne bytes c =
        let k = handed_start range w node d.right [] bytes (subst (λ t. Hands (cond t (doings_of number r e d.proposed) [] ++ starting range d.right) bytes) (ne_eqb at range ne) c) in
        omega (arith, k.1)

    other_change : (range < length n.seats) → (at ≡ range → ⊥) → IsStill range n left Does ⊎ IsFresh range n left Does
    other_change within ne = go d.right refl where
      base_seat : seat base range ≡ seat n range
      base_seat = seat_other n at range (status_after e d.replica) ne

      still : (o : Option AppliedState) → d.right ≡ o → seat (opened base o) range ≡ seat n range → IsStill range n left Does ⊎ IsFresh range n left Does
      still o is same = inl (record { same = ap (λ z. seat (opened base z) range) is ∙ same; none = other_none ne })

      go : (o : Option AppliedState) → d.right ≡ o → IsStill range n left Does ⊎ IsFresh range n left Does
      go None is = still None is base_seat
      go (Some t) is = ⊎_elim (λ (own : t.desc.id ≡ range). by_seat own (seat base range) refl) (λ (apart : t.desc.id ≡ range → ⊥). still (Some t) is (elsewhere apart (seat base t.desc.id))) (cases_eq t.desc.id range) where
        begun : Replica
        begun = started base.node base.nodes t.lease.holder right_base right_base_term t

        elsewhere : (t.desc.id ≡ range → ⊥) → (status : Status) → seat (opened_by base t status) range ≡ seat n range
        elsewhere apart Absent = seat_other base t.desc.id range (Live begun) apart ∙ base_seat
        elsewhere apart (Live q) = base_seat
        elsewhere apart (Removed applied) = base_seat

        there : t.desc.id ≡ range → (status : Status) → seat base range ≡ status → opened base (Some t) ≡ opened_by base t status
        there own status e' = ap (λ i. opened_by base t (seat base i)) own ∙ ap (opened_by base t) e'

        by_seat : t.desc.id ≡ range → (status : Status) → seat base range ≡ status → IsStill range n left Does ⊎ IsFresh range n left Does
        by_seat own Absent e' = inr (record {
          replica = begun;
          is = ap (λ z. seat (opened base z) range) is ∙ ap (λ z. seat z range) (there own Absent e') ∙ ap (λ i. seat (with_seat base i (Live begun)) range) own
              ∙ seat_same base range (Live begun) (let l = length-set n.seats at (status_after e d.replica) in omega (arith, within, l));
          blank = record { assigned = refl; pending = refl; inbox = refl; asks = refl };
          none = other_none ne;
        })
        by_seat own (Live q) e' = still (Some t) is (ap (λ z. seat z range) (there own (Live q) e') ∙ base_seat)
        by_seat own (Removed applied) e' = still (Some t) is (ap (λ z. seat z range) (there own (Removed applied) e') ∙ base_seat)

    -- a seat that is none of the node's has nothing
    pub replica_change : range < length n.seats → Changes range n left given Does e n.ticks
    replica_change within = ⊎_elim (λ (own : at ≡ range). inr (inl (own_change own)))
        (λ (ne : at ≡ range → ⊥). ⊎_elim (λ (s : IsStill range n left Does). inl s) (λ (f : IsFresh range n left Does). inr (inr f)) (other_change within ne)) (cases_eq at range)

  module _ (n : Node) (within : range < length n.seats) where
    -- an event of a seat
    pub status_change : (at : ℕ) (e : ReplicaEvent AppliedState) (given : List Item) (status : Status) → seat n at ≡ status
        → Changes range n (by_status n at e given status).node given (Hands (seat_doings range n at 0 e given status)) e n.ticks
    status_change at e given Absent is = inl (record { same = refl; none = nothing })
    status_change at e given (Live r) is = replica_change n at 0 e given r is within
    status_change at e given (Removed applied) is = inl (record { same = refl; none = nothing })

    -- a message
    gets_none : (at from number : ℕ) (m : Message AppliedState) (bytes : List ℕ) → Hands (cond (eqb at range) (Gets from number m [] ∷ []) []) bytes → ⊥
    gets_none at from number m bytes = cond_both (eqb at range) (Gets from number m [] ∷ []) [] (λ ds. Hands ds bytes → ⊥) (λ _ c. omega (arith, c.1)) (λ _ c. omega (arith, c.1))

    absent_change : (at from number : ℕ) (m : Message AppliedState) → seat n at ≡ Absent → Changes range n (answered_absent n at from m) [] (Hands (message_doings range n at from number m Absent)) (Deliver from m) n.ticks
    absent_change at from number m bare = ⊎_elim
        (λ (own : at ≡ range). made own (seat_by_message n from m) refl m refl)
        (λ (ne : at ≡ range → ⊥). inl (record { same = seat_other n at range (seat_by_message n from m) ne; none = gets_none at from number m }))
        (cases_eq at range)
      where
        now : at ≡ range → (status : Status) → seat_by_message n from m ≡ status → seat (answered_absent n at from m) range ≡ status
        now own status is = ap (λ i. seat (with_seat n i (seat_by_message n from m)) range) own ∙ seat_same n range (seat_by_message n from m) within ∙ is

        stays : at ≡ range → seat_by_message n from m ≡ Absent → Changes range n (answered_absent n at from m) [] (Hands (message_doings range n at from number m Absent)) (Deliver from m) n.ticks
        stays own is = inl (record { same = now own Absent is ∙ sym (subst (λ i. seat n i ≡ Absent) own bare); none = gets_none at from number m })

        made : at ≡ range → (status : Status) → seat_by_message n from m ≡ status → (k : Message AppliedState) → m ≡ k → Changes range n (answered_absent n at from m) [] (Hands (message_doings range n at from number m Absent)) (Deliver from m) n.ticks
        made own status is (Vote t i it) e' = stays own (ap (seat_by_message n from) e')
        made own status is (VoteReply t granted) e' = stays own (ap (seat_by_message n from) e')
        made own status is (Append t prev pt es commit) e' = stays own (ap (seat_by_message n from) e')
        made own status is (AppendReply t ok i) e' = stays own (ap (seat_by_message n from) e')
        made own status is (Forward payload) e' = stays own (ap (seat_by_message n from) e')
        made own status is (Snap t i it snapshot) e' = inr (inr (record {
          replica = made_by_snap n.node n.nodes t from i it snapshot;
          is = now own (Live (made_by_snap n.node n.nodes t from i it snapshot)) (ap (seat_by_message n from) e');
          blank = record { assigned = refl; pending = refl; inbox = refl; asks = refl };
          none = gets_none at from number m;
        }))

    pub message_change : (at from number : ℕ) (m : Message AppliedState) (status : Status) → seat n at ≡ status
        → Changes range n (delivered n from at m status) [] (Hands (message_doings range n at from number m status)) (Deliver from m) n.ticks
    message_change at from number m Absent is = absent_change at from number m is
    message_change at from number m (Live r) is = replica_change n at number (Deliver from m) [] r is within
    message_change at from number m (Removed applied) is = inl (record { same = refl; none = nothing })

    -- an event of each live replica
    pub all_change : range < 8 → (e : ReplicaEvent AppliedState) → ((r : Replica) (ticks round : ℕ) → (event r e ticks round []).right ≡ None)
        → Changes range n (all_turns e n range_numbers) [] (Hands (all_doings range e n range_numbers)) e n.ticks
    all_change below e none = go (seat n range) refl where
      go : (status : Status) → seat n range ≡ status → Changes range n (all_turns e n range_numbers) [] (Hands (all_doings range e n range_numbers)) e n.ticks
      go Absent is = inl (record {
        same = after_bare e none range range_numbers n (subst (IsBare e none) (sym is) tt);
        none = λ bytes c. bare_handed e none range w node bytes range_numbers n (subst (IsBare e none) (sym is) tt) c;
      })
      go (Live r) is = inr (inl (record {
        replica = r;
        live = is;
        is = after_once e none range range_numbers (each_once range below) n r is;
        handed = λ bytes c. once_handed e none range w node bytes range_numbers (each_once range below) n r is c;
      }))
      go (Removed applied) is = inl (record {
        same = after_bare e none range range_numbers n (subst (IsBare e none) (sym is) tt);
        none = λ bytes c. bare_handed e none range w node bytes range_numbers n (subst (IsBare e none) (sym is) tt) c;
      })
