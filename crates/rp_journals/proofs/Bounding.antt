-- How large all that can be, while no journal is full.
use Rattle.std.proofs.Common.{◌≡◌, ℕ, ◌+◌, ◌-◌, ◌*◌, ◌^◌, ◌<◌, ◌≤◌, false, ⊎_elim, Some, [], ◌∷◌, length, length-append, sym, ap, subst, ◌∙◌, arith}
use Rattle.std.specs.Prelude.{nat_le}
use Rattle.std.proofs.lemmas.Bool.{cases_lt, leb-false}
use Rattle.std.proofs.Math.Nat.{mul-le-mul, mul-add, add-mul, mul_comm}
use Rattle.rp_events.specs.Nodes.{Node, is_full, journal_end}
use Rattle.rp_events.specs.NodeEvents.{step}
use Rattle.rp_events.specs.Worlds.{World, Scene, Schedule, first_world, node_of, taken_in, happens, run}
use Rattle.rp_events.specs.Lawful.{Lawful, AllLawful, IsReached}
use Rattle.rp_journals.specs.Numbers.{admissions, other_events, IsWithin, IsLow}
use Rattle.rp_journals.proofs.Growing.{Happened, happened}
use Rattle.rp_journals.proofs.Reading.{entry_of, step_journal, node_after, first_at}
use Rattle.rp_journals.proofs.Asking.{allowed, not_true}

-- twice a product is no more than the sum of the squares
module _ (a d : ℕ) where
  square : (a + d) * (a + d) ≡ a * a + 2 * (a * d) + d * d
  square =
      let x : (a + d) * (a + d) ≡ a * (a + d) + d * (a + d) = add-mul a d (a + d) in
      let y : a * (a + d) ≡ a * a + a * d = mul-add a a d in
      let z : d * (a + d) ≡ d * a + d * d = mul-add d a d in
      let c : d * a ≡ a * d = mul_comm d a in
      omega (arith, x, y, z, c)

square_of : (a b : ℕ) → (a + b) * (a + b) ≡ a * a + 2 * (a * b) + b * b
square_of a b = square a b

ordered : (a b d : ℕ) → b ≡ a + d → 2 * (a * b) ≤ a * a + b * b
ordered a b d e =
    let p : a * b ≡ a * a + a * d = ap (λ z. a * z) e ∙ mul-add a a d in
    let q : b * b ≡ a * a + 2 * (a * d) + d * d = ap (λ z. z * z) e ∙ square a d in
    omega (arith, p, q)

twice : (a b : ℕ) → 2 * (a * b) ≤ a * a + b * b
twice a b = ⊎_elim
    (λ (l : a < b). by_gap a b (b - a) (omega (arith, l)))
    (λ (g : b ≤ a). let k = by_gap b a (a - b) (omega (arith, g)) in let c = mul_comm a b in omega (arith, k, c))
    (cases_lt a b)
  where
    by_gap : (x y d : ℕ) → y ≡ x + d → 2 * (x * y) ≤ x * x + y * y
    by_gap x y d e = ordered x y d e

-- four times a product is no more than the square of the sum
four_times : (a b : ℕ) → 4 * (a * b) ≤ (a + b) * (a + b)
four_times a b = let s = square_of a b in let t = twice a b in omega (arith, s, t)

-- events of a node, with as many admissions
pub product_low : (others admitted : ℕ) → others + admitted ≤ 2 ^ 31 → others * (admitted + 16) ≤ 2 ^ 60 + 2 ^ 35
product_low others admitted few =
    let f : 4 * (others * (admitted + 16)) ≤ (others + (admitted + 16)) * (others + (admitted + 16)) = four_times others (admitted + 16) in
    let most : others + (admitted + 16) ≤ 2147483664 = omega (arith, few) in
    let s : (others + (admitted + 16)) * (others + (admitted + 16)) ≤ 2147483664 * 2147483664 = mul-le-mul most most in
    omega (arith, f, s)

-- no journal is longer than its end
abbrev AllShort : World → Type 0
AllShort w = (node : ℕ) (n : Node) → node_of w node ≡ Some n → length n.journal ≤ journal_end

short_scene : (w : World) (x : Scene) → Lawful w x → AllShort w → AllShort (happens w x)
short_scene w x l all = ⊎_elim
    (λ (same : happens w x ≡ w). subst AllShort (sym same) all)
    (λ (k : Happened w x). subst AllShort (sym k.is)
    (node_after (λ node n. length n.journal ≤ journal_end) w x.node k.n (step k.n k.event (taken_in x.what)).node k.has
    (let a = not_true (is_full k.n) (allowed w x k.n k.has l.lawful).0 in
    let below : length k.n.journal < journal_end = not_full (length k.n.journal) a in
    let longer : length (step k.n k.event (taken_in x.what)).node.journal ≡ length k.n.journal + 1 = ap length (step_journal k.n k.event (taken_in x.what)) ∙ length-append k.n.journal (entry_of k.n k.event (taken_in x.what) ∷ []) in
    omega (arith, below, longer))
    (λ other m ne is. all other m is)))
    (happened w x)
  where
    not_full : (long : ℕ) → nat_le journal_end long ≡ false → long < journal_end
    not_full long e = leb-false journal_end long e

short_run : (xs : Schedule) (w : World) → AllLawful w xs → AllShort w → AllShort (run w xs)
short_run [] w lawful all = all
short_run (x ∷ xs) w lawful all = short_run xs (happens w x) lawful.1 (short_scene w x lawful.0 all)

pub all_short : (nodes : ℕ) (w : World) → IsReached nodes w → AllShort w
all_short nodes w r = subst AllShort r.reached (short_run r.schedule (first_world nodes) r.lawful
    (λ node n has. subst (λ (z : Node). length z.journal ≤ journal_end) (sym (first_at nodes node n has)) (omega arith)))

pub low : (nodes : ℕ) (w : World) → IsReached nodes w → (node : ℕ) (n : Node) → node_of w node ≡ Some n → IsWithin n → IsLow n
low nodes w r node n has inside =
    let long = all_short nodes w r node n has in
    let parts = inside.events in
    record {
      journal = long;
      product = product_low (other_events n) (admissions n) (omega (arith, long, parts));
    }
