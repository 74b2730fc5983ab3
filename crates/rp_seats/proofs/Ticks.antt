-- A tick of a node is a turn of each of its ranges.
use Rattle.std.proofs.Common.{◌≡◌, ℕ, zero, suc, ◌+◌, ◌<◌, ◌⊎◌, inl, inr, ⊎_elim, false, cond, eqb, Option, None, Some, List, [], ◌∷◌, ◌++◌, map, length, refl, sym, ap, subst, ◌∙◌, arith, append-nil, eqb-true}
use Rattle.std.specs.Prelude.{Contains, flat_map}
use Rattle.std.specs.Option.{option_map_or}
use Rattle.std.proofs.lemmas.Bool.{cond_both, eqb-false, ne_eqb}
use Rattle.std.proofs.lemmas.List.Elements.{Contains-append_cases}
use Rattle.std.proofs.lemmas.Grind.{flat_map-append}
use Rattle.rp_base.specs.declared.ids.CmdId.{CmdId}
use Rattle.rp_request.specs.Applied.{AppliedState}
use Rattle.rp_raftstep.specs.Step.{tick}
use Rattle.rp_pending.specs.declared.proposals.Proposal.{Proposal}
use Rattle.rp_pending.specs.declared.refreshes.Refresh.{Refresh}
use Rattle.rp_pending.specs.Proposals.{proposal_of, is_proposed}
use Rattle.rp_pending.specs.Refreshes.{goes_back}
use Rattle.rp_raftsafe.specs.World as raft
use Rattle.rp_raftsafe.specs.World.{Ticks}
use Rattle.rp_raftsafe.specs.Safety.{OneList}
use Rattle.rp_raftsafe.specs.Proposed.{event_payloads, payloads_of}
use Rattle.rp_rangesafe.specs.World as machine
use Rattle.rp_events.specs.declared.answers.EventAnswer.TheVariants as answers
use Rattle.rp_events.specs.declared.journals.JournalEntry.{JournalEntry}
use Rattle.rp_events.specs.declared.journals.PastEvent.TheVariants as past
use Rattle.rp_events.specs.declared.node_events.Event.TheVariants as events
use Rattle.rp_events.specs.declared.replica_events.ReplicaEvent.TheVariants.{Tick}
use Rattle.rp_events.specs.Replicas.{Replica, Done, Told, untold, has_new_leader}
use Rattle.rp_events.specs.declared.moves.Move.TheVariants.{TakesBack, Repeats}
use Rattle.rp_events.specs.Moves.{takes_back, repeats, moved, moved_all, then_is, waits_again, proposed_under}
use Rattle.rp_events.specs.Refreshes.{refreshing}
use Rattle.rp_events.specs.ReplicaEvents.{event}
use Rattle.rp_events.specs.Nodes.{Node, Status, Absent, Live, Removed, seat, range_numbers}
use Rattle.rp_events.specs.NodeEvents.{live_turn, all_turns}
use Rattle.rp_events.specs.Worlds as worlds
use Rattle.rp_events.specs.Worlds.{World, Scene, node_of, outcome_at}
use Rattle.rp_seats.specs.Views.{range_at}
use Rattle.rp_seats.specs.Scenes.{Doing, Acts, seat_doings, all_doings, as_event, scene_doings}
use Rattle.rp_seats.specs.Standing.{SeatOk}
use Rattle.rp_seats.specs.Steps.{told_after}
use Rattle.rp_seats.specs.Turned.{FitsPending, IsSeated, MayTurn, Turns}
use Rattle.rp_seats.proofs.Nodes.{seat_same, seat_other, live_within}
use Rattle.rp_seats.proofs.Outcomes.{journal_told}
use Rattle.rp_seats.proofs.Seats.{tick_turn}
use Rattle.rp_seats.proofs.Shown.{state_is}
use Rattle.rp_seats.proofs.Scenes.{same_outcome, handed_seen, scene_turn}

-- a refresh ends nothing
back_ends : (ticks round : ℕ) (t : Told) (id : CmdId) → (moved ticks round t (TakesBack id)).ended ≡ t.ended
back_ends ticks round t id = go (proposal_of id t.replica.pending) where
  go : (o : Option Proposal) → (option_map_or (takes_back t id) o t).ended ≡ t.ended
  go None = refl
  go (Some p) = cond_both (goes_back t.replica.applied.state.lai p) (then_is t (waits_again t.replica id)) t (λ z. z.ended ≡ t.ended) (λ _. refl) (λ _. refl)

again_ends : (ticks round : ℕ) (t : Told) (id : CmdId) → (moved ticks round t (Repeats id)).ended ≡ t.ended
again_ends ticks round t id = go (proposal_of id t.replica.pending) where
  go : (o : Option Proposal) → (option_map_or (repeats ticks round t id) o t).ended ≡ t.ended
  go None = refl
  go (Some p) = cond_both (is_proposed p.stage) (then_is t (proposed_under t.replica ticks round id p.max)) t (λ z. z.ended ≡ t.ended) (λ _. refl) (λ _. refl)

agains_end : (ticks round : ℕ) (ids : List CmdId) (t : Told) → (moved_all ticks round t (map Repeats ids)).ended ≡ t.ended
agains_end ticks round [] t = refl
agains_end ticks round (id ∷ ids) t = agains_end ticks round ids (moved ticks round t (Repeats id)) ∙ again_ends ticks round t id

backs_end : (ticks round : ℕ) (ids again : List CmdId) (t : Told) → (moved_all ticks round t (map TakesBack ids ++ map Repeats again)).ended ≡ t.ended
backs_end ticks round [] again t = agains_end ticks round again t
backs_end ticks round (id ∷ ids) again t = backs_end ticks round ids again (moved ticks round t (TakesBack id)) ∙ back_ends ticks round t id

tick_ends : (r : Replica) (ticks round : ℕ) → (event r Tick ticks round []).outcomes ≡ []
tick_ends r ticks round =
    let f : Refresh = refreshing r ticks (has_new_leader r.raft.head (tick {S = AppliedState} r.raft).state.head) in
    backs_end ticks round f.back f.again (untold r)

-- how often a range stands in a list
abbrev times : ℕ → List ℕ → ℕ
times range [] = 0
times range (at ∷ more) = cond (eqb at range) (suc (times range more)) (times range more)

each_once : (range : ℕ) → range < 8 → times range range_numbers ≡ 1
each_once zero lt = refl
each_once (suc zero) lt = refl
each_once (suc (suc zero)) lt = refl
each_once (suc (suc (suc zero))) lt = refl
each_once (suc (suc (suc (suc zero)))) lt = refl
each_once (suc (suc (suc (suc (suc zero))))) lt = refl
each_once (suc (suc (suc (suc (suc (suc zero)))))) lt = refl
each_once (suc (suc (suc (suc (suc (suc (suc zero))))))) lt = refl
each_once (suc (suc (suc (suc (suc (suc (suc (suc k)))))))) lt = absurd (omega (arith, lt))

-- what a tick leaves of a node beside its seats and what it sent
record Alike (n m : Node) : Type 0 where
  ticks : m.ticks ≡ n.ticks
  rounds : m.rounds ≡ n.rounds
  journal : m.journal ≡ n.journal
  outcomes : m.outcomes ≡ n.outcomes

alike_turn : (n : Node) (at : ℕ) (status : Status) → Alike n (live_turn Tick n at status)
alike_turn n at Absent = record { ticks = refl; rounds = refl; journal = refl; outcomes = refl }
alike_turn n at (Live r) = record { ticks = refl; rounds = refl; journal = refl; outcomes = ap (λ l. n.outcomes ++ l) (tick_ends r n.ticks n.rounds) ∙ append-nil n.outcomes }
alike_turn n at (Removed applied) = record { ticks = refl; rounds = refl; journal = refl; outcomes = refl }

alike_all : (ranges : List ℕ) (n : Node) → Alike n (all_turns Tick n ranges)
alike_all [] n = record { ticks = refl; rounds = refl; journal = refl; outcomes = refl }
alike_all (at ∷ more) n =
    let m : Node = live_turn Tick n at (seat n at) in
    let a = alike_turn n at (seat n at) in
    let b = alike_all more m in
    record { ticks = b.ticks ∙ a.ticks; rounds = b.rounds ∙ a.rounds; journal = b.journal ∙ a.journal; outcomes = b.outcomes ∙ a.outcomes }

other_seat : (n : Node) (at range : ℕ) → (at ≡ range → ⊥) → (status : Status) → seat (live_turn Tick n at status) range ≡ seat n range
other_seat n at range ne Absent = refl
other_seat n at range ne (Live r) = seat_other n at range (Live (event r Tick n.ticks n.rounds []).replica) ne
other_seat n at range ne (Removed applied) = refl

module _ (range : ℕ) where
  none_of : (at : ℕ) (more : List ℕ) → times range (at ∷ more) ≡ 0 → (at ≡ range → ⊥) × (times range more ≡ 0)
  none_of at more = cond_both (eqb at range) (suc (times range more)) (times range more) (λ z. z ≡ 0 → (at ≡ range → ⊥) × (times range more ≡ 0))
      (λ _ e. absurd (omega (arith, e))) (λ ne e. (eqb-false at range ne, e))

  one_of : (at : ℕ) (more : List ℕ) → times range (at ∷ more) ≡ 1 → ((at ≡ range) × (times range more ≡ 0)) ⊎ ((at ≡ range → ⊥) × (times range more ≡ 1))
  one_of at more = cond_both (eqb at range) (suc (times range more)) (times range more) (λ z. z ≡ 1 → ((at ≡ range) × (times range more ≡ 0)) ⊎ ((at ≡ range → ⊥) × (times range more ≡ 1)))
      (λ is e. inl (eqb-true at range is, omega (arith, e))) (λ ne e. inr (eqb-false at range ne, e))

  after_none : (ranges : List ℕ) → times range ranges ≡ 0 → (n : Node) → seat (all_turns Tick n ranges) range ≡ seat n range
  after_none [] c n = refl
  after_none (at ∷ more) c n =
      let k = none_of at more c in
      after_none more k.1 (live_turn Tick n at (seat n at)) ∙ other_seat n at range k.0 (seat n at)

  own_turn : (n : Node) (r : Replica) → seat n range ≡ Live r → (at : ℕ) → at ≡ range → seat (live_turn Tick n at (seat n at)) range ≡ Live (event r Tick n.ticks n.rounds []).replica
  own_turn n r live at same =
      subst (λ i. seat (live_turn Tick n i (seat n i)) range ≡ Live (event r Tick n.ticks n.rounds []).replica) (sym same)
      (ap (λ z. seat (live_turn Tick n range z) range) live
      ∙ seat_same n range (Live (event r Tick n.ticks n.rounds []).replica) (live_within n range r live))

  after_once : (ranges : List ℕ) → times range ranges ≡ 1 → (n : Node) (r : Replica) → seat n range ≡ Live r → seat (all_turns Tick n ranges) range ≡ Live (event r Tick n.ticks n.rounds []).replica
  after_once [] c n r live = absurd (omega (arith, c))
  after_once (at ∷ more) c n r live =
      let m : Node = live_turn Tick n at (seat n at) in
      let a = alike_turn n at (seat n at) in
      ⊎_elim
      (λ (here : (at ≡ range) × (times range more ≡ 0)). after_none more here.1 m ∙ own_turn n r live at here.0)
      (λ (there : (at ≡ range → ⊥) × (times range more ≡ 1)).
      after_once more there.1 m r (other_seat n at range there.0 (seat n at) ∙ live)
      ∙ ap (λ i. Live (event r Tick i m.rounds []).replica) a.ticks ∙ ap (λ i. Live (event r Tick n.ticks i []).replica) a.rounds)
      (one_of at more c)

  -- what is handed to Raft
  module _ (w : World) (node : ℕ) (b : List ℕ) where
    abbrev Hands : List Doing → Type 0
    Hands ds = Contains (payloads_of (map (as_event range w node) ds)) b

    split_hands : (ds es : List Doing) → Hands (ds ++ es) → Hands ds ⊎ Hands es
    split_hands ds es c = Contains-append_cases (payloads_of (map (as_event range w node) ds)) (payloads_of (map (as_event range w node) es)) b
        (subst (λ l. Contains l b) (ap (flat_map event_payloads) (further ds) ∙ flat_map-append event_payloads (map (as_event range w node) ds) (map (as_event range w node) es)) c)
      where
        further : (zs : List Doing) → map (as_event range w node) (zs ++ es) ≡ map (as_event range w node) zs ++ map (as_event range w node) es
        further [] = refl
        further (z ∷ zs) = ap (λ ys. as_event range w node z ∷ ys) (further zs)

    other_hands : (n : Node) (at : ℕ) → (at ≡ range → ⊥) → (status : Status) → Hands (seat_doings range n at 0 Tick [] status) → ⊥
    other_hands n at ne Absent c = absurd (omega (arith, c.1))
    other_hands n at ne (Live r) c =
        cond_both (eqb at range) (Acts (Ticks (event r Tick n.ticks n.rounds []).proposed) ∷ []) [] (λ ds. eqb at range ≡ false → Hands (ds ++ []) → ⊥)
        (λ is other k. absurd (ne (eqb-true at range is))) (λ is other k. absurd (omega (arith, k.1))) (ne_eqb at range ne) c
    other_hands n at ne (Removed applied) c = absurd (omega (arith, c.1))

    none_handed : (ranges : List ℕ) → times range ranges ≡ 0 → (n : Node) → Hands (all_doings range Tick n ranges) → ⊥
    none_handed [] c n has = absurd (omega (arith, has.1))
    none_handed (at ∷ more) c n has =
        let k = none_of at more c in
        ⊎_elim
        (λ (x : Hands (seat_doings range n at 0 Tick [] (seat n at))). other_hands n at k.0 (seat n at) x)
        (λ (y : Hands (all_doings range Tick (live_turn Tick n at (seat n at)) more)). none_handed more k.1 (live_turn Tick n at (seat n at)) y)
        (split_hands (seat_doings range n at 0 Tick [] (seat n at)) (all_doings range Tick (live_turn Tick n at (seat n at)) more) has)

    once_handed : (ranges : List ℕ) → times range ranges ≡ 1 → (n : Node) (r : Replica) → seat n range ≡ Live r → Hands (all_doings range Tick n ranges)
        → Contains (event r Tick n.ticks n.rounds []).proposed b
    once_handed [] c n r live has = absurd (omega (arith, c))
    once_handed (at ∷ more) c n r live has = ⊎_elim
        (λ (x : Hands (seat_doings range n at 0 Tick [] (seat n at))). first (one_of at more c) x)
        (λ (y : Hands (all_doings range Tick m more)). rest (one_of at more c) (once_handed more) y)
        (split_hands (seat_doings range n at 0 Tick [] (seat n at)) (all_doings range Tick m more) has)
      where
        m : Node
        m = live_turn Tick n at (seat n at)

        first : ((at ≡ range) × (times range more ≡ 0)) ⊎ ((at ≡ range → ⊥) × (times range more ≡ 1)) → Hands (seat_doings range n at 0 Tick [] (seat n at)) → Contains (event r Tick n.ticks n.rounds []).proposed b
        first (inl here) x = handed_seen range w node at 0 r Tick (event r Tick n.ticks n.rounds []) b
            (subst (λ z. Hands (seat_doings range n at 0 Tick [] z)) (ap (seat n) here.0 ∙ live) x)
        first (inr there) x = absurd (other_hands n at there.0 (seat n at) x)

        rest : ((at ≡ range) × (times range more ≡ 0)) ⊎ ((at ≡ range → ⊥) × (times range more ≡ 1))
            → (times range more ≡ 1 → (k : Node) (q : Replica) → seat k range ≡ Live q → Hands (all_doings range Tick k more) → Contains (event q Tick k.ticks k.rounds []).proposed b)
            → Hands (all_doings range Tick (live_turn Tick n at (seat n at)) more) → Contains (event r Tick n.ticks n.rounds []).proposed b
        rest (inl here) again y = absurd (none_handed more here.1 (live_turn Tick n at (seat n at)) y)
        rest (inr there) again y =
            let a = alike_turn n at (seat n at) in
            let k : Node = live_turn Tick n at (seat n at) in
            subst (λ i. Contains (event r Tick n.ticks i []).proposed b) a.rounds
            (subst (λ i. Contains (event r Tick i k.rounds []).proposed b) a.ticks
            (again there.1 k r (other_seat n at range there.0 (seat n at) ∙ live) y))

module _ (lists : OneList AppliedState) (range : ℕ) (s : AppliedState) (seen : List raft.Event) (w : World) (h : machine.World) (node : ℕ) (n : Node) (r : Replica)
    (k : IsSeated lists range s seen w h node n r) where
  abbrev x : Scene
  x = record { node = node; what = worlds.Tick }

  abbrev ticked : Node
  ticked = record n { ticks = n.ticks + 1 }

  abbrev d : Done
  d = event r Tick (n.ticks + 1) n.rounds []

  abbrev all : Node
  all = all_turns Tick ticked range_numbers

  abbrev entry : JournalEntry
  entry = record { event = past.Tick; answer = answers.Done }

  alike : Alike ticked all
  alike = alike_all range_numbers ticked

  stands : SeatOk h node range (Live r) (λ id. outcome_at id n)
  stands = subst (λ z. SeatOk h node range z (λ id. outcome_at id n)) k.live (k.ok.seats node n k.has)

  pub tick_scene : MayTurn range s w x → FitsPending d.replica.pending → Turns lists range s seen w h x
  tick_scene may fits =
      scene_turn lists range s k.below seen w k.shaped h k.ok k.reached x may.0 may.1 n k.has events.Tick refl (Live d.replica) d.outcomes d.proposed
      (tick_turn node range h (λ id. outcome_at id n) r stands
      (state_is (length w) range s (lists (range_at (length w) range s) k.ok.is) seen w h k.ok.raft k.reached node n k.has r k.live stands.stands.0)
      (n.ticks + 1) n.rounds [] fits)
      (after_once range range_numbers (each_once range k.below) ticked r k.live)
      (λ id born. journal_told all entry id refl ∙ same_outcome all n alike.journal alike.outcomes id
      ∙ sym (ap (λ es. told_after (λ q. outcome_at q n) es id) (tick_ends r (n.ticks + 1) n.rounds)))
      (λ b c. once_handed range w node b range_numbers (each_once range k.below) ticked r k.live
      (subst (λ ds. Contains (payloads_of (map (as_event range w node) ds)) b) (ap (λ o. option_map_or (scene_doings range w x) o []) k.has) c))
