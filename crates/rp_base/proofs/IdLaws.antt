-- Ids of attempts: the test says when two are one, and the order is total.
use Rattle.std.proofs.Common.{◌≡◌, ℕ, ◌==◌, ◌&&◌, eqb, Bool, true, false, ◌⊎◌, inl, inr, ⊎_elim, refl, sym, ap, subst, ◌∙◌, arith, eqb-true, eq-eqb}
use Rattle.std.proofs.lemmas.Bool.{eqb-false, and_from, and_parts, and_cases}
use Rattle.std.proofs.lemmas.Grind.{common_steps}
use Rattle.std.specs.BTreeMap.{is_at}
use Rattle.std.specs.Cmp.{IsTotalOrder, nat_cmp_total, on_total, then_total}
use Rattle.std.specs.Ordering.{nat_cmp, ordering_then, ordering_reverse, is_eq, is_lt}
use Rattle.std.specs.declared.cmp.Ordering.{Ordering}
use Rattle.std.specs.declared.cmp.Ordering.TheVariants.{Less, Equal, Greater}
use Rattle.rp_base.specs.declared.ids.CmdId.{CmdId}
use Rattle.rp_base.specs.Ids.{same_id, cmd_cmp}

-- ids are equal where their parts are
pub id_by_parts : (x y : CmdId) → x.client ≡ y.client → x.seq ≡ y.seq → x.attempt ≡ y.attempt → x ≡ y
id_by_parts x y a b c i = record { client = a i; seq = b i; attempt = c i }

-- ids that pass the test are equal
pub same_is : (x y : CmdId) → same_id x y ≡ true → x ≡ y
same_is x y e =
    let h = and_parts (eqb x.client y.client && eqb x.seq y.seq) (eqb x.attempt y.attempt) e in
    let k = and_parts (eqb x.client y.client) (eqb x.seq y.seq) h.0 in
    id_by_parts x y (eqb-true _ _ k.0) (eqb-true _ _ k.1) (eqb-true _ _ h.1)

-- ids that do not pass it are unequal
pub not_same_apart : (x y : CmdId) → same_id x y ≡ false → x ≡ y → ⊥
not_same_apart x y e same = ⊎_elim
    (λ some. ⊎_elim
    (λ no. eqb-false x.client y.client no (ap (λ (z : CmdId). z.client) same))
    (λ no. eqb-false x.seq y.seq no (ap (λ (z : CmdId). z.seq) same))
    (and_cases (eqb x.client y.client) (eqb x.seq y.seq) some))
    (λ no. eqb-false x.attempt y.attempt no (ap (λ (z : CmdId). z.attempt) same))
    (and_cases (eqb x.client y.client && eqb x.seq y.seq) (eqb x.attempt y.attempt) e)

-- an id passes it with itself, and unequal ones do not
pub same_itself : (x : CmdId) → same_id x x ≡ true
same_itself x = and_from _ _ (and_from _ _ (eq-eqb x.client x.client refl) (eq-eqb x.seq x.seq refl)) (eq-eqb x.attempt x.attempt refl)

pub equal_same : (x y : CmdId) → x ≡ y → same_id x y ≡ true
equal_same x y e = subst (λ (z : CmdId). same_id x z ≡ true) e (same_itself x)

pub apart_not_same : (x y : CmdId) → (x ≡ y → ⊥) → same_id x y ≡ false
apart_not_same x y ne = go (same_id x y) refl where
  go : (b : Bool) → same_id x y ≡ b → b ≡ false
  go true e = absurd (ne (same_is x y e))
  go false e = refl

-- two ids are equal or not
pub id_cases : (x y : CmdId) → (x ≡ y) ⊎ (x ≡ y → ⊥)
id_cases x y = go (same_id x y) refl where
  go : (b : Bool) → same_id x y ≡ b → (x ≡ y) ⊎ (x ≡ y → ⊥)
  go true e = inl (same_is x y e)
  go false e = inr (not_same_apart x y e)

-- the test says the same from both sides
pub same_back : (x y : CmdId) → same_id x y ≡ same_id y x
same_back x y = go (same_id x y) (same_id y x) refl refl where
  go : (b c : Bool) → same_id x y ≡ b → same_id y x ≡ c → b ≡ c
  go true true e f = refl
  go false false e f = refl
  go true false e f = absurd (not_same_apart y x f (sym (same_is x y e)))
  go false true e f = absurd (not_same_apart x y e (sym (same_is y x f)))

-- a third id passes it with both or with neither of two that pass it
pub same_third : (x y z : CmdId) → same_id x y ≡ true → same_id z x ≡ same_id z y
same_third x y z e = ap (same_id z) (same_is x y e)

-- the order and the test agree
then_equal : (o p : Ordering) → is_eq (ordering_then o p) ≡ (is_eq o && is_eq p)
then_equal Less p = refl
then_equal Equal p = refl
then_equal Greater p = refl

number_equal : (a b : ℕ) → is_eq (nat_cmp a b) ≡ (a == b)
number_equal a b = grind (arith, common_steps)

regroup : (x y z : Bool) → (x && (y && z)) ≡ (x && y && z)
regroup true y z = refl
regroup false y z = refl

pub at_same : (a b : CmdId) → is_at (cmd_cmp a) b ≡ same_id a b
at_same a b =
    then_equal (nat_cmp a.client b.client) _
    ∙ ap (λ t. is_eq (nat_cmp a.client b.client) && t) (then_equal (nat_cmp a.seq b.seq) (nat_cmp a.attempt b.attempt))
    ∙ ap (λ t. t && (is_eq (nat_cmp a.seq b.seq) && is_eq (nat_cmp a.attempt b.attempt))) (number_equal a.client b.client)
    ∙ ap (λ t. (a.client == b.client) && (t && is_eq (nat_cmp a.attempt b.attempt))) (number_equal a.seq b.seq)
    ∙ ap (λ t. (a.client == b.client) && ((a.seq == b.seq) && t)) (number_equal a.attempt b.attempt)
    ∙ regroup (a.client == b.client) (a.seq == b.seq) (a.attempt == b.attempt)

-- an id stands at itself, and at no other
pub at_itself : (x : CmdId) → is_at (cmd_cmp x) x ≡ true
at_itself x = at_same x x ∙ same_itself x

pub at_other : (x y : CmdId) → (x ≡ y → ⊥) → is_at (cmd_cmp x) y ≡ false
at_other x y ne = at_same x y ∙ apart_not_same x y ne

-- the order is total
pub cmd_total : IsTotalOrder cmd_cmp
cmd_total =
    then_total (on_total (λ (id : CmdId). id.client) nat_cmp_total)
    (then_total (on_total (λ (id : CmdId). id.seq) nat_cmp_total) (on_total (λ (id : CmdId). id.attempt) nat_cmp_total))

-- ids are equal exactly where neither is before the other
pub cmd_equal_is : (x y : CmdId) → cmd_cmp x y ≡ Equal → x ≡ y
cmd_equal_is x y e = same_is x y (sym (at_same x y) ∙ ap is_eq e)

pub cmd_equal_same : (x y : CmdId) → cmd_cmp x y ≡ Equal → same_id x y ≡ true
cmd_equal_same x y e = sym (at_same x y) ∙ ap is_eq e

eq_is : (o : Ordering) → is_eq o ≡ true → o ≡ Equal
eq_is Less h = absurd cc
eq_is Equal h = refl
eq_is Greater h = absurd cc

pub cmd_itself : (x : CmdId) → cmd_cmp x x ≡ Equal
cmd_itself x = eq_is (cmd_cmp x x) (at_itself x)

pub cmd_neither_before : (x y : CmdId) → is_lt (cmd_cmp x y) ≡ false → is_lt (cmd_cmp y x) ≡ false → same_id x y ≡ true
cmd_neither_before x y h k = go (cmd_cmp x y) refl h (cmd_total.antisymm y x) where
  go : (o : Ordering) → cmd_cmp x y ≡ o → is_lt o ≡ false → cmd_cmp y x ≡ ordering_reverse (cmd_cmp x y) → same_id x y ≡ true
  go Less e n r = absurd cc
  go Equal e n r = cmd_equal_same x y e
  go Greater e n r = absurd (let lt : is_lt (cmd_cmp y x) ≡ true = ap is_lt (r ∙ ap ordering_reverse e) in cc)

-- of two ids not both are before the other
pub cmd_not_both : (x y : CmdId) → is_lt (cmd_cmp x y) ≡ true → is_lt (cmd_cmp y x) ≡ false
cmd_not_both x y h = go (cmd_cmp x y) refl h where
  go : (o : Ordering) → cmd_cmp x y ≡ o → is_lt o ≡ true → is_lt (cmd_cmp y x) ≡ false
  go Less e n = ap is_lt (cmd_total.antisymm y x ∙ ap ordering_reverse e)
  go Equal e n = absurd cc
  go Greater e n = absurd cc

-- what is not after something before a third is before the third
pub cmd_before_too : (x y z : CmdId) → is_lt (cmd_cmp y x) ≡ false → is_lt (cmd_cmp y z) ≡ true → is_lt (cmd_cmp x z) ≡ true
cmd_before_too x y z n h = go (cmd_cmp x y) refl (cmd_cmp y z) refl h where
  go : (o : Ordering) → cmd_cmp x y ≡ o → (q : Ordering) → cmd_cmp y z ≡ q → is_lt q ≡ true → is_lt (cmd_cmp x z) ≡ true
  go Less e Less f l = ap is_lt (cmd_total.trans x y z e f)
  go Equal e Less f l = ap is_lt (cmd_total.congr x y z e ∙ f)
  go Greater e Less f l = absurd (let lt : is_lt (cmd_cmp y x) ≡ true = ap is_lt (cmd_total.antisymm y x ∙ ap ordering_reverse e) in cc)
  go o e Equal f l = absurd cc
  go o e Greater f l = absurd cc
