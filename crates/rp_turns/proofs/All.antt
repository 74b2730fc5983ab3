-- An event of each live replica of a node, as one range has it: its own, and those of others.
use Rattle.std.proofs.Common.{◌≡◌, ℕ, zero, suc, ◌<◌, ◌≤◌, ◌⊎◌, inl, inr, ⊎_elim, cond, eqb, Option, None, List, [], ◌∷◌, ◌++◌, map, refl, sym, ap, subst, ◌∙◌, arith, append-nil, eqb-true}
use Rattle.std.specs.Prelude.{Contains, flat_map}
use Rattle.std.proofs.lemmas.Bool.{cond_both, eqb-false, ne_eqb, cases_eq}
use Rattle.std.proofs.lemmas.List.Elements.{Contains-append_cases}
use Rattle.std.proofs.lemmas.Grind.{flat_map-append}
use Rattle.rp_base.specs.declared.ids.CmdId.{CmdId}
use Rattle.rp_request.specs.Applied.{AppliedState}
use Rattle.rp_raftsafe.specs.Proposed.{event_payloads, payloads_of}
use Rattle.rp_events.specs.declared.replica_events.ReplicaEvent.{ReplicaEvent}
use Rattle.rp_events.specs.Replicas.{Replica, Done}
use Rattle.rp_events.specs.ReplicaEvents.{event}
use Rattle.rp_events.specs.Nodes.{Node, Status, Absent, Live, Removed, seat, after_turn, opened, range_numbers}
use Rattle.rp_events.specs.NodeEvents.{status_after, live_turn, all_turns}
use Rattle.rp_events.specs.Worlds.{World}
use Rattle.rp_seats.specs.Scenes.{Doing, doings_of, starting, seat_doings, all_doings, as_event}
use Rattle.rp_seats.proofs.Nodes.{seat_same, seat_other, live_within}
use Rattle.rp_seats.proofs.Scenes.{handed_seen, handed_start, map_further}
use Rattle.rp_turns.proofs.Tells.{end_in, Lacks, lacking, further_same}

-- how often a range stands in a list
abbrev pub times : ℕ → List ℕ → ℕ
times range [] = 0
times range (at ∷ more) = cond (eqb at range) (suc (times range more)) (times range more)

pub each_once : (range : ℕ) → range < 8 → times range range_numbers ≡ 1
each_once zero lt = refl
each_once (suc zero) lt = refl
each_once (suc (suc zero)) lt = refl
each_once (suc (suc (suc zero))) lt = refl
each_once (suc (suc (suc (suc zero)))) lt = refl
each_once (suc (suc (suc (suc (suc zero))))) lt = refl
each_once (suc (suc (suc (suc (suc (suc zero)))))) lt = refl
each_once (suc (suc (suc (suc (suc (suc (suc zero))))))) lt = refl
each_once (suc (suc (suc (suc (suc (suc (suc (suc k)))))))) lt = absurd (omega (arith, lt))

skip : (range at : ℕ) (more : List ℕ) → (at ≡ range → ⊥) → times range more ≡ 0 → times range (at ∷ more) ≡ 0
skip range at more ne z = ap (λ b. cond b (suc (times range more)) (times range more)) (ne_eqb at range ne) ∙ z

far : (at : ℕ) → 8 ≤ at → times at range_numbers ≡ 0
far at le = (skip at 0 (1 ∷ 2 ∷ 3 ∷ 4 ∷ 5 ∷ 6 ∷ 7 ∷ []) (λ e. omega (arith, e, le)) (skip at 1 (2 ∷ 3 ∷ 4 ∷ 5 ∷ 6 ∷ 7 ∷ []) (λ e. omega (arith, e, le)) (skip at 2 (3 ∷ 4 ∷ 5 ∷ 6 ∷ 7 ∷ []) (λ e. omega (arith, e, le)) (skip at 3 (4 ∷ 5 ∷ 6 ∷ 7 ∷ []) (λ e. omega (arith, e, le)) (skip at 4 (5 ∷ 6 ∷ 7 ∷ []) (λ e. omega (arith, e, le)) (skip at 5 (6 ∷ 7 ∷ []) (λ e. omega (arith, e, le)) (skip at 6 (7 ∷ []) (λ e. omega (arith, e, le)) (skip at 7 ([]) (λ e. omega (arith, e, le)) refl))))))))

-- each stands there once at most
abbrev pub AreOnce : List ℕ → Type 0
AreOnce ranges = (at : ℕ) → times at ranges ≤ 1

pub numbers_once : AreOnce range_numbers
numbers_once zero = omega arith
numbers_once (suc zero) = omega arith
numbers_once (suc (suc zero)) = omega arith
numbers_once (suc (suc (suc zero))) = omega arith
numbers_once (suc (suc (suc (suc zero)))) = omega arith
numbers_once (suc (suc (suc (suc (suc zero))))) = omega arith
numbers_once (suc (suc (suc (suc (suc (suc zero)))))) = omega arith
numbers_once (suc (suc (suc (suc (suc (suc (suc zero))))))) = omega arith
numbers_once (suc (suc (suc (suc (suc (suc (suc (suc k)))))))) = let z = far (suc (suc (suc (suc (suc (suc (suc (suc k)))))))) (omega arith) in omega (arith, z)

times_more : (range at : ℕ) (more : List ℕ) → times range more ≤ times range (at ∷ more)
times_more range at more = cond_both (eqb at range) (suc (times range more)) (times range more) (λ z. times range more ≤ z) (λ _. omega arith) (λ _. omega arith)

none_of : (range at : ℕ) (more : List ℕ) → times range (at ∷ more) ≡ 0 → (at ≡ range → ⊥) × (times range more ≡ 0)
none_of range at more = cond_both (eqb at range) (suc (times range more)) (times range more) (λ z. z ≡ 0 → (at ≡ range → ⊥) × (times range more ≡ 0))
    (λ _ e. absurd (omega (arith, e))) (λ ne e. (eqb-false at range ne, e))

one_of : (range at : ℕ) (more : List ℕ) → times range (at ∷ more) ≡ 1 → ((at ≡ range) × (times range more ≡ 0)) ⊎ ((at ≡ range → ⊥) × (times range more ≡ 1))
one_of range at more = cond_both (eqb at range) (suc (times range more)) (times range more) (λ z. z ≡ 1 → ((at ≡ range) × (times range more ≡ 0)) ⊎ ((at ≡ range → ⊥) × (times range more ≡ 1)))
    (λ is e. inl (eqb-true at range is, omega (arith, e))) (λ ne e. inr (eqb-false at range ne, e))

-- what stands behind in such a list is another, and stood there once
pub behind : (at : ℕ) (more : List ℕ) → AreOnce (at ∷ more) → (other : ℕ) → times other more ≡ 1 → (at ≡ other → ⊥) × (times other (at ∷ more) ≡ 1)
behind at more once other is = cond_both (eqb at other) (suc (times other more)) (times other more) (λ z. z ≤ 1 → (at ≡ other → ⊥) × (z ≡ 1))
    (λ _ le. absurd (omega (arith, le, is))) (λ ne le. (eqb-false at other ne, is)) (once other)

pub once_behind : (at : ℕ) (more : List ℕ) → AreOnce (at ∷ more) → AreOnce more
once_behind at more once other = let a = times_more other at more in let c = once other in omega (arith, a, c)

-- the first one stands there once
pub first_there : (at : ℕ) (more : List ℕ) → AreOnce (at ∷ more) → times at (at ∷ more) ≡ 1
first_there at more once = cond_both (eqb at at) (suc (times at more)) (times at more) (λ z. z ≤ 1 → z ≡ 1) (λ _ le. omega (arith, le)) (λ ne _. absurd (eqb-false at at ne refl)) (once at)

-- an event that starts no right range
module _ (e : ReplicaEvent AppliedState) (none : (r : Replica) (ticks round : ℕ) → (event r e ticks round []).right ≡ None) where
  abbrev pub done_at : Node → Replica → Done
  done_at n r = event r e n.ticks n.rounds []

  abbrev turned : Node → ℕ → Replica → Node
  turned n at r = after_turn n at (status_after e (done_at n r).replica) (done_at n r)

  pub live_is : (n : Node) (at : ℕ) (r : Replica) → live_turn e n at (Live r) ≡ turned n at r
  live_is n at r = ap (opened (turned n at r)) (none r n.ticks n.rounds)

  -- what it leaves of a node beside its seats, its outcomes and what it sent
  pub record Alike (n m : Node) : Type 0 where
    pub ticks : m.ticks ≡ n.ticks
    pub rounds : m.rounds ≡ n.rounds
    pub journal : m.journal ≡ n.journal

  pub alike_turn : (n : Node) (at : ℕ) (status : Status) → Alike n (live_turn e n at status)
  alike_turn n at Absent = record { ticks = refl; rounds = refl; journal = refl }
  alike_turn n at (Live r) = subst (Alike n) (sym (live_is n at r)) (record { ticks = refl; rounds = refl; journal = refl })
  alike_turn n at (Removed applied) = record { ticks = refl; rounds = refl; journal = refl }

  alike_all : (ranges : List ℕ) (n : Node) → Alike n (all_turns e n ranges)
  alike_all [] n = record { ticks = refl; rounds = refl; journal = refl }
  alike_all (at ∷ more) n =
      let a = alike_turn n at (seat n at) in
      let b = alike_all more (live_turn e n at (seat n at)) in
      record { ticks = b.ticks ∙ a.ticks; rounds = b.rounds ∙ a.rounds; journal = b.journal ∙ a.journal }

  pub same_journal : (ranges : List ℕ) (n : Node) → (all_turns e n ranges).journal ≡ n.journal
  same_journal ranges n = (alike_all ranges n).journal

  -- the outcomes only grow
  turn_grows : (n : Node) (at : ℕ) (status : Status) → (more : List _) × ((live_turn e n at status).outcomes ≡ n.outcomes ++ more)
  turn_grows n at Absent = ([], sym (append-nil n.outcomes))
  turn_grows n at (Live r) = ((done_at n r).outcomes, ap (λ (z : Node). z.outcomes) (live_is n at r))
  turn_grows n at (Removed applied) = ([], sym (append-nil n.outcomes))

  pub all_grow : (ranges : List ℕ) (n : Node) → (more : List _) × ((all_turns e n ranges).outcomes ≡ n.outcomes ++ more)
  all_grow [] n = ([], sym (append-nil n.outcomes))
  all_grow (at ∷ more) n =
      let a = turn_grows n at (seat n at) in
      let b = all_grow more (live_turn e n at (seat n at)) in
      (a.0 ++ b.0, b.1 ∙ ap (λ l. l ++ b.0) a.1 ∙ append_twice n.outcomes a.0 b.0)
    where
      append_twice : {X : Type 0} (xs ys zs : List X) → (xs ++ ys) ++ zs ≡ xs ++ (ys ++ zs)
      append_twice [] ys zs = refl
      append_twice (x ∷ xs) ys zs = ap (λ l. x ∷ l) (append_twice xs ys zs)

  pub other_seat : (n : Node) (at range : ℕ) → (at ≡ range → ⊥) → (status : Status) → seat (live_turn e n at status) range ≡ seat n range
  other_seat n at range ne Absent = refl
  other_seat n at range ne (Live r) = ap (λ (z : Node). seat z range) (live_is n at r) ∙ seat_other n at range (status_after e (done_at n r).replica) ne
  other_seat n at range ne (Removed applied) = refl

  -- nothing is alive there
  abbrev pub IsBare : Status → Type 0
  IsBare Absent = Unit {0}
  IsBare (Live r) = ⊥
  IsBare (Removed applied) = Unit {0}

  bare_turn : (n : Node) (at : ℕ) (status : Status) → IsBare status → live_turn e n at status ≡ n
  bare_turn n at Absent k = refl
  bare_turn n at (Live r) k = absurd k
  bare_turn n at (Removed applied) k = refl

  module _ (range : ℕ) where
    pub after_none : (ranges : List ℕ) → times range ranges ≡ 0 → (n : Node) → seat (all_turns e n ranges) range ≡ seat n range
    after_none [] c n = refl
    after_none (at ∷ more) c n =
        let k = none_of range at more c in
        after_none more k.1 (live_turn e n at (seat n at)) ∙ other_seat n at range k.0 (seat n at)

    own_turn : (n : Node) (r : Replica) → seat n range ≡ Live r → (at : ℕ) → at ≡ range → live_turn e n at (seat n at) ≡ turned n range r
    own_turn n r live at same = ap (λ i. live_turn e n i (seat n i)) same ∙ ap (live_turn e n range) live ∙ live_is n range r

    pub same_done : (n m : Node) (r : Replica) → Alike n m → done_at m r ≡ done_at n r
    same_done n m r a = ap (λ i. event r e i m.rounds []) a.ticks ∙ ap (λ i. event r e n.ticks i []) a.rounds

    pub after_once : (ranges : List ℕ) → times range ranges ≡ 1 → (n : Node) (r : Replica) → seat n range ≡ Live r → seat (all_turns e n ranges) range ≡ status_after e (done_at n r).replica
    after_once [] c n r live = absurd (omega (arith, c))
    after_once (at ∷ more) c n r live =
        let k : Node = live_turn e n at (seat n at) in
        ⊎_elim
        (λ (here : (at ≡ range) × (times range more ≡ 0)). after_none more here.1 k ∙ ap (λ (z : Node). seat z range) (own_turn n r live at here.0)
        ∙ seat_same n range (status_after e (done_at n r).replica) (live_within n range r live))
        (λ (there : (at ≡ range → ⊥) × (times range more ≡ 1)).
        after_once more there.1 k r (other_seat n at range there.0 (seat n at) ∙ live)
        ∙ ap (λ (d : Done). status_after e d.replica) (same_done n k r (alike_turn n at (seat n at))))
        (one_of range at more c)

    pub after_bare : (ranges : List ℕ) → (n : Node) → IsBare (seat n range) → seat (all_turns e n ranges) range ≡ seat n range
    after_bare [] n k = refl
    after_bare (at ∷ more) n k =
        let same : seat (live_turn e n at (seat n at)) range ≡ seat n range = ⊎_elim
        (λ (here : at ≡ range). ap (λ (z : Node). seat z range) (bare_turn n at (seat n at) (subst (λ i. IsBare (seat n i)) (sym here) k)))
        (λ (there : at ≡ range → ⊥). other_seat n at range there (seat n at)) (cases_eq at range) in
        after_bare more (live_turn e n at (seat n at)) (subst IsBare (sym same) k) ∙ same

    -- the end of an attempt of this range, among the outcomes
    module _ (q : CmdId) where
      abbrev pub OthersLack : Node → List ℕ → Type 0
      OthersLack n ranges = (at : ℕ) → (at ≡ range → ⊥) → times at ranges ≡ 1 → (r : Replica) → seat n at ≡ Live r → Lacks q (done_at n r).outcomes

      lack_behind : (at : ℕ) (more : List ℕ) → AreOnce (at ∷ more) → (n : Node) → OthersLack n (at ∷ more) → OthersLack (live_turn e n at (seat n at)) more
      lack_behind at more once n lack other ne is r live =
          let k = behind at more once other is in
          subst (λ (d : Done). Lacks q d.outcomes) (sym (same_done n (live_turn e n at (seat n at)) r (alike_turn n at (seat n at))))
          (lack other ne k.1 r (sym (other_seat n at other k.0 (seat n at)) ∙ live))

      turn_ends : (n : Node) (at : ℕ) (status : Status) → ((r : Replica) → status ≡ Live r → Lacks q (done_at n r).outcomes) → end_in q (live_turn e n at status).outcomes ≡ end_in q n.outcomes
      turn_ends n at Absent lack = refl
      turn_ends n at (Live r) lack = ap (λ (z : Node). end_in q z.outcomes) (live_is n at r) ∙ lacking q n.outcomes (done_at n r).outcomes (lack r refl)
      turn_ends n at (Removed applied) lack = refl

      none_ends : (ranges : List ℕ) → AreOnce ranges → times range ranges ≡ 0 → (n : Node) → OthersLack n ranges → end_in q (all_turns e n ranges).outcomes ≡ end_in q n.outcomes
      none_ends [] once c n lack = refl
      none_ends (at ∷ more) once c n lack =
          let k = none_of range at more c in
          none_ends more (once_behind at more once) k.1 (live_turn e n at (seat n at)) (lack_behind at more once n lack)
          ∙ turn_ends n at (seat n at) (λ r live. lack at k.0 (first_there at more once) r live)

      pub bare_ends : (ranges : List ℕ) → AreOnce ranges → (n : Node) → IsBare (seat n range) → OthersLack n ranges → end_in q (all_turns e n ranges).outcomes ≡ end_in q n.outcomes
      bare_ends [] once n bare lack = refl
      bare_ends (at ∷ more) once n bare lack =
          let m : Node = live_turn e n at (seat n at) in
          ⊎_elim
          (λ (here : at ≡ range). let same = bare_turn n at (seat n at) (subst (λ i. IsBare (seat n i)) (sym here) bare) in
          bare_ends more (once_behind at more once) m (subst (λ (z : Node). IsBare (seat z range)) (sym same) bare) (lack_behind at more once n lack) ∙ ap (λ (z : Node). end_in q z.outcomes) same)
          (λ (there : at ≡ range → ⊥).
          bare_ends more (once_behind at more once) m (subst IsBare (sym (other_seat n at range there (seat n at))) bare) (lack_behind at more once n lack)
          ∙ turn_ends n at (seat n at) (λ r live. lack at there (first_there at more once) r live))
          (cases_eq at range)

      pub own_ends : (ranges : List ℕ) → AreOnce ranges → times range ranges ≡ 1 → (n : Node) (r : Replica) → seat n range ≡ Live r → OthersLack n ranges
          → end_in q (all_turns e n ranges).outcomes ≡ end_in q (n.outcomes ++ (done_at n r).outcomes)
      own_ends [] once c n r live lack = absurd (omega (arith, c))
      own_ends (at ∷ more) once c n r live lack =
          let m : Node = live_turn e n at (seat n at) in
          ⊎_elim
          (λ (here : (at ≡ range) × (times range more ≡ 0)).
          none_ends more (once_behind at more once) here.1 m (lack_behind at more once n lack) ∙ ap (λ (z : Node). end_in q z.outcomes) (own_turn n r live at here.0))
          (λ (there : (at ≡ range → ⊥) × (times range more ≡ 1)).
          own_ends more (once_behind at more once) there.1 m r (other_seat n at range there.0 (seat n at) ∙ live) (lack_behind at more once n lack)
          ∙ ap (λ (d : Done). end_in q (m.outcomes ++ d.outcomes)) (same_done n m r (alike_turn n at (seat n at)))
          ∙ further_same q m.outcomes n.outcomes (done_at n r).outcomes (turn_ends n at (seat n at) (λ r' live'. lack at there.0 (first_there at more once) r' live')))
          (one_of range at more c)

    -- what is handed to Raft
    module _ (w : World) (node : ℕ) (b : List ℕ) where
      abbrev Hands : List Doing → Type 0
      Hands ds = Contains (payloads_of (map (as_event range w node) ds)) b

      split_hands : (ds es : List Doing) → Hands (ds ++ es) → Hands ds ⊎ Hands es
      split_hands ds es c = Contains-append_cases (payloads_of (map (as_event range w node) ds)) (payloads_of (map (as_event range w node) es)) b
          (subst (λ l. Contains l b) (ap (flat_map event_payloads) (map_further (as_event range w node) ds es) ∙ flat_map-append event_payloads (map (as_event range w node) ds) (map (as_event range w node) es)) c)

      no_start : (o : Option AppliedState) → Hands (starting range o) → ⊥
      no_start o c = let k = handed_start range w node o [] b c in omega (arith, k.1)

      other_hands : (n : Node) (at : ℕ) → (at ≡ range → ⊥) → (status : Status) → Hands (seat_doings range n at 0 e [] status) → ⊥
      other_hands n at ne Absent c = absurd (omega (arith, c.1))
      other_hands n at ne (Live r) c = no_start (done_at n r).right
          (subst (λ t. Hands (cond t (doings_of 0 r e (done_at n r).proposed) [] ++ starting range (done_at n r).right)) (ne_eqb at range ne) c)
      other_hands n at ne (Removed applied) c = absurd (omega (arith, c.1))

      bare_hands : (n : Node) (at : ℕ) (status : Status) → IsBare status → Hands (seat_doings range n at 0 e [] status) → ⊥
      bare_hands n at Absent k c = absurd (omega (arith, c.1))
      bare_hands n at (Live r) k c = k
      bare_hands n at (Removed applied) k c = absurd (omega (arith, c.1))

      none_handed : (ranges : List ℕ) → times range ranges ≡ 0 → (n : Node) → Hands (all_doings range e n ranges) → ⊥
      none_handed [] c n has = absurd (omega (arith, has.1))
      none_handed (at ∷ more) c n has =
          let k = none_of range at more c in
          ⊎_elim
          (λ (y : Hands (seat_doings range n at 0 e [] (seat n at))). other_hands n at k.0 (seat n at) y)
          (λ (y : Hands (all_doings range e (live_turn e n at (seat n at)) more)). none_handed more k.1 (live_turn e n at (seat n at)) y)
          (split_hands (seat_doings range n at 0 e [] (seat n at)) (all_doings range e (live_turn e n at (seat n at)) more) has)

      pub bare_handed : (ranges : List ℕ) (n : Node) → IsBare (seat n range) → Hands (all_doings range e n ranges) → ⊥
      bare_handed [] n bare has = absurd (omega (arith, has.1))
      bare_handed (at ∷ more) n bare has =
          let m : Node = live_turn e n at (seat n at) in
          ⊎_elim
          (λ (here : at ≡ range). let b' = subst (λ i. IsBare (seat n i)) (sym here) bare in
          ⊎_elim
          (λ (y : Hands (seat_doings range n at 0 e [] (seat n at))). bare_hands n at (seat n at) b' y)
          (λ (y : Hands (all_doings range e m more)). bare_handed more m (subst (λ (z : Node). IsBare (seat z range)) (sym (bare_turn n at (seat n at) b')) bare) y)
          (split_hands (seat_doings range n at 0 e [] (seat n at)) (all_doings range e m more) has))
          (λ (there : at ≡ range → ⊥).
          ⊎_elim
          (λ (y : Hands (seat_doings range n at 0 e [] (seat n at))). other_hands n at there (seat n at) y)
          (λ (y : Hands (all_doings range e m more)). bare_handed more m (subst IsBare (sym (other_seat n at range there (seat n at))) bare) y)
          (split_hands (seat_doings range n at 0 e [] (seat n at)) (all_doings range e m more) has))
          (cases_eq at range)

      pub once_handed : (ranges : List ℕ) → times range ranges ≡ 1 → (n : Node) (r : Replica) → seat n range ≡ Live r → Hands (all_doings range e n ranges) → Contains (done_at n r).proposed b
      once_handed [] c n r live has = absurd (omega (arith, c))
      once_handed (at ∷ more) c n r live has =
          ⊎_elim
          (λ (y : Hands (seat_doings range n at 0 e [] (seat n at))). first (one_of range at more c) y)
          (λ (y : Hands (all_doings range e m more)). rest (one_of range at more c) (λ c' k q live'. once_handed more c' k q live') y)
          (split_hands (seat_doings range n at 0 e [] (seat n at)) (all_doings range e m more) has)
        where
          m : Node
          m = live_turn e n at (seat n at)

          first : ((at ≡ range) × (times range more ≡ 0)) ⊎ ((at ≡ range → ⊥) × (times range more ≡ 1)) → Hands (seat_doings range n at 0 e [] (seat n at)) → Contains (done_at n r).proposed b
          first (inl here) y = handed_seen range w node at 0 r e (done_at n r) b
              (subst (λ z. Hands (seat_doings range n at 0 e [] z)) (ap (seat n) here.0 ∙ live) y)
          first (inr there) y = absurd (other_hands n at there.0 (seat n at) y)

          rest : ((at ≡ range) × (times range more ≡ 0)) ⊎ ((at ≡ range → ⊥) × (times range more ≡ 1))
              → (times range more ≡ 1 → (k : Node) (q : Replica) → seat k range ≡ Live q → Hands (all_doings range e k more) → Contains (done_at k q).proposed b)
              → Hands (all_doings range e (live_turn e n at (seat n at)) more) → Contains (done_at n r).proposed b
          rest (inl here) again y = absurd (none_handed more here.1 (live_turn e n at (seat n at)) y)
          rest (inr there) again y =
              subst (λ (d : Done). Contains d.proposed b) (same_done n (live_turn e n at (seat n at)) r (alike_turn n at (seat n at)))
              (again there.1 (live_turn e n at (seat n at)) r (other_seat n at range there.0 (seat n at) ∙ live) y)
