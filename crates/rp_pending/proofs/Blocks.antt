-- What is passed over holds nothing that is wanted.
use Rattle.std.proofs.Common.{◌≡◌, ℕ, ◌+◌, ◌-◌, ◌*◌, ◌/◌, ◌%◌, ◌<◌, ◌≤◌, min, Bool, true, false, ◌&&◌, nat_le, nat_lt, if◌then◌else◌, ltb, List, length, Option, None, Some, refl, ap, sym, subst, ◌∙◌, arith}
use Rattle.std.specs.Prelude.{slice_get, unwrap_or}
use Rattle.std.specs.Option.{option_and_then}
use Rattle.std.proofs.lemmas.Bool.Decides.{nat_tests}
use Rattle.std.proofs.lemmas.Option.{slice_get_past, slice_get_within}
use Rattle.rp_pending.specs.declared.bounds.Bound.{Bound}
use Rattle.rp_pending.specs.declared.proposals.Proposal.{Proposal}
use Rattle.rp_pending.specs.declared.bounds.Wanted.{Wanted}
use Rattle.rp_pending.specs.declared.bounds.Wanted.TheVariants.{Back, Again}
use Rattle.rp_pending.specs.Bounds.{bound_at, lowest, may_hold, wanted_of, Below, IsBelow, Covers, Spans}
use Rattle.rp_pending.specs.Dues.{again_due, back_due, due}
use Rattle.rp_pending.specs.Proposals.{is_proposed}
use Rattle.rp_pending.specs.Slots.{Slot}

below_lowest : (o : Option Proposal) → IsBelow lowest o
below_lowest None = tt
below_lowest (Some p) = λ e. (omega arith, omega arith)

-- blocks that have no bound, or no slot
pub all_covered : (narrow : List Bound) (es : List Slot) (blocks : ℕ) → blocks ≡ min (length narrow) (length es / 32 + 1)
    → ((k j : ℕ) (s : Slot) → k < blocks → j < 32 → slice_get es (k * 32 + j) ≡ Some s → IsBelow (bound_at narrow k) s.1) → Covers narrow es
all_covered narrow es blocks e some k j s lt get = by (ltb k blocks) refl
  where
    by : (b : Bool) → ltb k blocks ≡ b → IsBelow (bound_at narrow k) s.1
    by true t = let less : k < blocks = grind (arith, nat_tests) in some k j s less lt get
    by false t =
        let more : blocks ≤ k = grind (arith, nat_tests) in
        let within : k * 32 + j < length es = slice_get_within es (k * 32 + j) s get in
        let past : length narrow ≤ k = omega (arith, e, more, within) in
        subst (λ (o : Option Bound). IsBelow (unwrap_or o lowest) s.1) (sym (slice_get_past narrow k past)) (below_lowest s.1)

lower : (a b : Bound) (o : Option Proposal) → Below a b → IsBelow b o → IsBelow a o
lower a b None below is = tt
lower a b (Some p) below is = λ e. let h = is e in (omega (arith, h.0, below.0), omega (arith, h.1, below.1))

-- nothing that is wanted stands above a bound that rules it out
back_none : (lai : ℕ) (p : Proposal) (b : Bool) → is_proposed p.stage ≡ b → (b ≡ true → lai < p.max) → back_due lai p ≡ None
back_none lai p false e h = ap (λ x. if x && nat_le p.max lai then Some (due p) else None) e
back_none lai p true e h =
    ap (λ x. if x && nat_le p.max lai then Some (due p) else None) e
    ∙ ap (λ x. if x then Some (due p) else None) (let lt = h refl in let out : nat_le p.max lai ≡ false = grind (arith, nat_tests) in out)

again_none : (lai now : ℕ) (p : Proposal) (b : Bool) → is_proposed p.stage ≡ b → (b ≡ true → now - p.since < 5) → again_due lai now false p ≡ None
again_none lai now p false e h = ap (λ x. if x && nat_lt lai p.max && nat_le 5 (now - p.since) then Some (due p) else None) e
again_none lai now p true e h =
    ap (λ x. if x && nat_lt lai p.max && nat_le 5 (now - p.since) then Some (due p) else None) e
    ∙ (let lt = h refl in let out : nat_le 5 (now - p.since) ≡ false = grind (arith, nat_tests) in
    ap (λ x. if nat_lt lai p.max && x then Some (due p) else None) out ∙ neither (nat_lt lai p.max))
  where
    neither : (x : Bool) → (if x && false then Some (due p) else None) ≡ None
    neither true = refl
    neither false = refl

none_wanted : (wanted : Wanted) (b : Bound) (o : Option Proposal) → may_hold wanted b ≡ false → IsBelow b o → option_and_then (wanted_of wanted) o ≡ None
none_wanted wanted b None e is = refl
none_wanted (Back lai) b (Some p) e is =
    back_none lai p (is_proposed p.stage) refl (λ q. let h = is q in let more : lai < b.max = grind (arith, nat_tests) in omega (arith, more, h.0))
none_wanted (Again lai now) b (Some p) e is =
    again_none lai now p (is_proposed p.stage) refl (λ q. let h = is q in let less : now - b.since < 5 = grind (arith, nat_tests) in omega (arith, less, h.1))

pub block_passed : (narrow : List Bound) (es : List Slot) (at : ℕ) (wanted : Wanted) → at % 32 ≡ 0 → may_hold wanted (bound_at narrow (at / 32)) ≡ false → Covers narrow es
    → (j : ℕ) (s : Slot) → j < 32 → slice_get es (at + j) ≡ Some s → option_and_then (wanted_of wanted) s.1 ≡ None
block_passed narrow es at wanted even out covers j s lt get =
    let place : at + j ≡ at / 32 * 32 + j = omega (arith, even) in
    none_wanted wanted (bound_at narrow (at / 32)) s.1 out (covers (at / 32) j s lt (subst (λ i. slice_get es i ≡ Some s) place get))

pub row_passed : (narrow wide : List Bound) (es : List Slot) (at : ℕ) (wanted : Wanted) → at % 1024 ≡ 0 → may_hold wanted (bound_at wide (at / 1024)) ≡ false → Covers narrow es → Spans wide narrow
    → (j : ℕ) (s : Slot) → j < 1024 → slice_get es (at + j) ≡ Some s → option_and_then (wanted_of wanted) s.1 ≡ None
row_passed narrow wide es at wanted even out covers spans j s lt get =
    let place : at + j ≡ (at / 1024 * 32 + j / 32) * 32 + j % 32 = omega (arith, even) in
    let is = covers (at / 1024 * 32 + j / 32) (j % 32) s (omega arith) (subst (λ i. slice_get es i ≡ Some s) place get) in
    let below = spans (at / 1024) (j / 32) (omega (arith, lt)) in
    none_wanted wanted (bound_at wide (at / 1024)) s.1 out (lower (bound_at wide (at / 1024)) (bound_at narrow (at / 1024 * 32 + j / 32)) s.1 below is)
