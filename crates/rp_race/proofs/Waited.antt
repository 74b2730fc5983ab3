-- Rounds and waiting never fall, in whatever a world becomes.
use Rattle.std.proofs.Common.{◌≡◌, ℕ, ◌≤◌, ⊎_elim, Option, Some, List, [], ◌∷◌, refl, sym, ap, subst, ◌∙◌, arith}
use Rattle.std.proofs.lemmas.Bool.{cases_eq}
use Rattle.rp_events.specs.Lawful.{IsLater}
use Rattle.rp_events.specs.Nodes.{Node}
use Rattle.rp_events.specs.NodeEvents.{step}
use Rattle.rp_events.specs.Worlds.{World, Scene, Schedule, node_of, taken_in, happens, run}
use Rattle.rp_journals.proofs.Growing.{Happened, happened, one_node, later_grows, scene_grows}
use Rattle.rp_journals.proofs.Writing.{now_is, other_is}
use Rattle.rp_race.specs.Ends.{IsWaitedOut, IsWaitedOutForGood}
use Rattle.rp_race.specs.Gives.{WasSeen}
use Rattle.rp_race.proofs.Ahead.{node_there}
use Rattle.rp_race.proofs.Counted.{never_fall}

abbrev NotLess : Node → Node → Type 0
NotLess n m = (n.rounds ≤ m.rounds) × (n.waited ≤ m.waited)

abbrev AllNotLess : World → World → Type 0
AllNotLess w later = (node : ℕ) (n m : Node) → node_of w node ≡ Some n → node_of later node ≡ Some m → NotLess n m

same_not_less : (n m : Node) → n ≡ m → NotLess n m
same_not_less n m e = subst (NotLess n) e (omega arith, omega arith)

scene_not_less : (w : World) (x : Scene) → AllNotLess w (happens w x)
scene_not_less w x = ⊎_elim
    (λ (same : happens w x ≡ w). λ node n m has there. same_not_less n m (one_node w node n m has (subst (λ z. node_of z node ≡ Some m) same there)))
    (λ (k : Happened w x). λ node n m has there. ⊎_elim
    (λ (at : node ≡ x.node).
    let n_is : n ≡ k.n = one_node w x.node n k.n (subst (λ z. node_of w z ≡ Some n) at has) k.has in
    let m_is : (step k.n k.event (taken_in x.what)).node ≡ m = one_node (happens w x) x.node _ m (now_is w x k) (subst (λ z. node_of (happens w x) z ≡ Some m) at there) in
    subst (NotLess n) m_is (subst (λ z. NotLess z (step k.n k.event (taken_in x.what)).node) (sym n_is) (never_fall k.n k.event (taken_in x.what))))
    (λ (ne : node ≡ x.node → ⊥). same_not_less n m (one_node w node n m has (sym (other_is w x k node ne) ∙ there)))
    (cases_eq node x.node))
    (happened w x)

run_not_less : (xs : Schedule) (w : World) → AllNotLess w (run w xs)
run_not_less [] w = λ node n m has there. same_not_less n m (one_node w node n m has there)
run_not_less (x ∷ xs) w = λ node n m has there.
    let k = node_there w (happens w x) (sym (scene_grows w x).size) node n has in
    let a = scene_not_less w x node n k.0 has k.1 in
    let b = run_not_less xs (happens w x) node k.0 m k.1 there in
    let a0 = a.0 in let a1 = a.1 in let b0 = b.0 in let b1 = b.1 in
    (omega (arith, a0, b0), omega (arith, a1, b1))

pub later_not_less : (w later : World) → IsLater w later → (node : ℕ) (n m : Node) → node_of w node ≡ Some n → node_of later node ≡ Some m → (n.rounds ≤ m.rounds) × (n.waited ≤ m.waited)
later_not_less w later l = subst (AllNotLess w) l.reached (run_not_less l.schedule w)

pub waited_later : (rounds : ℕ) (w later : World) → IsLater w later → IsWaitedOutForGood rounds w → IsWaitedOutForGood rounds later
waited_later rounds w later l h =
    let x = (later_grows w later l).each h.node h.n h.has in
    let k = (later_not_less w later l h.node h.n x.now h.has x.has).1 in
    let was = h.waited in
    record {
      each = λ node m there.
          let n = node_there later w (later_grows w later l).size node m there in
          let a = h.each node n.0 n.1 in
          let b = (later_not_less w later l node n.0 m n.1 there).0 in
          omega (arith, a, b);
      node = h.node;
      n = x.now;
      has = x.has;
      waited = omega (arith, k, was);
    }

pub seen_not_less : (nodes : ℕ) (w : World) (node : ℕ) (seen : Node) → WasSeen nodes w node seen → (n : Node) → node_of w node ≡ Some n → (seen.rounds ≤ n.rounds) × (seen.waited ≤ n.waited)
seen_not_less nodes w node seen s n has = later_not_less s.before w s.later node seen n s.has has

pub waited_now : (rounds : ℕ) (w : World) → IsWaitedOutForGood rounds w → IsWaitedOut rounds w
waited_now rounds w h = record { each = λ node n has live. h.each node n has; node = h.node; n = h.n; has = h.has; waited = h.waited }
