-- What a pass keeps of the buffers of its nodes, as it changes.
use Rattle.std.proofs.Common.{◌≡◌, ◌≢◌, ℕ, zero, suc, ◌+◌, ◌*◌, ◌/◌, ◌%◌, ◌<◌, ◌≤◌, Bool, true, false, List, [], ◌∷◌, ◌++◌, length, get_or, set, sum_by, refl, ap, sym, ◌∙◌, arith, subst, slice_index, slice_index_or, slice_set, replicate, Option, Some, None}
use Rattle.std.proofs.lemmas.List.{length-set, get_or-set_same, get_or-set_other}
use mathlib.Core.Option as maybe
use mathlib.Core.Logic.{dite}
use native.Mathlib.Decide.{ℕ_discrete}
use lib.ListN.{get_elem?}
use Rattle.atomic_table.specs.Table.{State}
use Rattle.rp_passes.proofs.Tally.{pair_le}
use Rattle.rp_base.specs.declared.items.Item.{Item}
use Rattle.rp_buffer.specs.declared.rule.Hand.{Hand}
use Rattle.rp_buffer.specs.declared.rights.Right.{Right}
use Rattle.rp_buffer.specs.declared.rights.Right.TheVariants.{Lacks, Carries}
use Rattle.rp_buffer.specs.declared.rights.Keep.{Keep}
use Rattle.rp_buffer.specs.declared.rights.Keep.TheVariants.{Open, Closed}
use Rattle.rp_buffer.specs.Hands.{Put, right_at, keep_in, keep_of, keep_at, keeping, with_keep, none_gone, gone_too, IsCarried}
use Rattle.rp_buffer.specs.Slots.{Phase, Ring, KeepOf, RightOf, Knows, weight, right_on, Kept}

-- a right that is carried stands in the list
pub carried_low : (rights : List Right) (i : ℕ) → IsCarried (right_at rights i) → i < length rights
carried_low [] i is = absurd (none_there i is)
  where
    none_there : (i : ℕ) → IsCarried (right_at [] i) → ⊥
    none_there zero is = is
    none_there (suc i) is = is
carried_low (r ∷ rs) zero is = omega arith
carried_low (r ∷ rs) (suc i) is = let later = carried_low rs i is in omega (arith, later)

-- what is kept of one buffer changes at its node alone
pub with_keep_here : (rights : List Right) (b i : ℕ) (keep : Keep) → i ≡ b / 8 → IsCarried (right_at rights i) → right_at (with_keep rights b keep) i ≡ keeping (right_at rights i) (b % 8) keep
with_keep_here rights b i keep e is =
    subst (λ x. IsCarried (right_at rights x) → right_at (with_keep rights b keep) x ≡ keeping (right_at rights x) (b % 8) keep) (sym e)
    (λ it. get_or-set_same rights (b / 8) (keeping (right_at rights (b / 8)) (b % 8) keep) Lacks (carried_low rights (b / 8) it)) is

pub with_keep_else : (rights : List Right) (b i : ℕ) (keep : Keep) → i ≢ b / 8 → right_at (with_keep rights b keep) i ≡ right_at rights i
with_keep_else rights b i keep away = get_or-set_other rights (b / 8) i (keeping (right_at rights (b / 8)) (b % 8) keep) Lacks away

keeping_weight : (r : Right) (x : ℕ) (keep : Keep) → weight (keeping r x keep) ≡ weight r
keeping_weight Lacks x keep = refl
keeping_weight (Carries ks) x keep = refl

pub same_weight : (rights : List Right) (b i : ℕ) (keep : Keep) → IsCarried (right_at rights (b / 8)) → weight (right_at (with_keep rights b keep) i) ≡ weight (right_at rights i)
same_weight rights b i keep is = dite (ℕ_discrete i (b / 8))
    (λ e. ap weight (with_keep_here rights b i keep e (subst (λ x. IsCarried (right_at rights x)) (sym e) is)) ∙ keeping_weight (right_at rights i) (b % 8) keep)
    (λ away. ap weight (with_keep_else rights b i keep away))

-- one right keeps something else of one buffer
right_kept : (n : ℕ) (rings after : ℕ → Ring) (phases then : ℕ → Phase) (b i : ℕ) (keep : Keep) (r : Right) → i ≡ b / 8
    → ((c : ℕ) (k : Keep) → c ≢ b → KeepOf (rings c) phases c k → KeepOf (after c) then c k)
    → KeepOf (after b) then b keep
    → RightOf n rings phases i r → RightOf n after then i (keeping r (b % 8) keep)
right_kept n rings after phases then b i keep Lacks e stays now known = tt
right_kept n rings after phases then b i keep (Carries ks) e stays now known =
    let long = known.1 in (
      known.0,
      length-set ks (b % 8) keep ∙ known.1,
      λ x low. dite (ℕ_discrete x (b % 8))
          (λ same. let number : b ≡ 8 * i + x = omega (arith, same, e) in
          subst (λ c. KeepOf (after c) then c (keep_in (set ks (b % 8) keep) x)) number
          (subst (λ (y : Keep). KeepOf (after b) then b y)
          (sym (subst (λ z. keep_in (set ks (b % 8) keep) z ≡ keep) (sym same) (get_or-set_same ks (b % 8) keep Open (omega (arith, long)))))
          now))
          (λ away. subst (λ (y : Keep). KeepOf (after (8 * i + x)) then (8 * i + x) y) (sym (get_or-set_other ks (b % 8) x keep Open away))
          (stays (8 * i + x) (keep_in ks x) (λ is. away (omega (arith, is, low))) (known.2 x low))),
    )

-- rights that have nothing to do with one buffer
right_else : (n : ℕ) (rings after : ℕ → Ring) (phases then : ℕ → Phase) (b i : ℕ) (r : Right) → i ≢ b / 8
    → ((c : ℕ) (k : Keep) → c ≢ b → KeepOf (rings c) phases c k → KeepOf (after c) then c k)
    → RightOf n rings phases i r → RightOf n after then i r
right_else n rings after phases then b i Lacks away stays known = tt
right_else n rings after phases then b i (Carries ks) away stays known = (
  known.0,
  known.1,
  λ x low.
      stays (8 * i + x) (keep_in ks x) (λ is. away (omega (arith, is, low))) (known.2 x low),
)

-- all that a pass keeps, where it keeps something else of one buffer
pub all_kept : (n : ℕ) (rings after : ℕ → Ring) (phases then : ℕ → Phase) (rights : List Right) (b : ℕ) (keep : Keep)
    → IsCarried (right_at rights (b / 8))
    → ((c : ℕ) (k : Keep) → c ≢ b → KeepOf (rings c) phases c k → KeepOf (after c) then c k)
    → KeepOf (after b) then b keep
    → ((i : ℕ) → RightOf n rings phases i (right_at rights i))
    → (i : ℕ) → RightOf n after then i (right_at (with_keep rights b keep) i)
all_kept n rings after phases then rights b keep is stays now known i = dite (ℕ_discrete i (b / 8))
    (λ e. subst (λ r. RightOf n after then i r) (sym (with_keep_here rights b i keep e (subst (λ x. IsCarried (right_at rights x)) (sym e) is)))
    (right_kept n rings after phases then b i keep (right_at rights i) e stays now (known i)))
    (λ away. subst (λ r. RightOf n after then i r) (sym (with_keep_else rights b i keep away))
    (right_else n rings after phases then b i (right_at rights i) away stays (known i)))

-- another pass does not carry the right
lacks_it : (n : ℕ) (rings after : ℕ → Ring) (phases then : ℕ → Phase) (i : ℕ) (r : Right) → weight r ≡ 0 → RightOf n after then i r
lacks_it n rings after phases then i Lacks e = tt
lacks_it n rings after phases then i (Carries ks) e = absurd (omega (arith, e))

carried_weight : (r : Right) → IsCarried r → weight r ≡ 1
carried_weight Lacks is = absurd is
carried_weight (Carries ks) is = refl

-- so what other passes keep stays so
pub theirs_kept : (n : ℕ) (s : State (Option Item) Hand) (k : Kept n s) (after : ℕ → Ring) (then : ℕ → Phase) (id j b : ℕ) (v u : Hand)
    → get_elem? s.views id ≡ maybe.some v → get_elem? s.views j ≡ maybe.some u → j ≢ id
    → IsCarried (right_at v.rights (b / 8))
    → ((c : ℕ) (x : Keep) → c ≢ b → KeepOf (k.rings c) k.phases c x → KeepOf (after c) then c x)
    → (i : ℕ) → RightOf n after then i (right_at u.rights i)
theirs_kept n s k after then id j b v u at there away is stays i =
    let known = k.each_pass j u there in
    dite (ℕ_discrete i (b / 8))
    (λ e. let pair = pair_le (right_on i) s.views id j v u away at there in
    let once = k.once i in
    let one : right_on i v ≡ 1 = subst (λ x. weight (right_at v.rights x) ≡ 1) (sym e) (carried_weight (right_at v.rights (b / 8)) is) in
    lacks_it n k.rings after k.phases then i (right_at u.rights i) (omega (arith, pair, once, one)))
    (λ else. right_else n k.rings after k.phases then b i (right_at u.rights i) else stays (known.rights i))

-- what is known of a buffer that the pass keeps
keep_known : (n : ℕ) (rings : ℕ → Ring) (phases : ℕ → Phase) (b i : ℕ) (r : Right) → i ≡ b / 8 → IsCarried r → RightOf n rings phases i r → KeepOf (rings b) phases b (keep_of r (b % 8))
keep_known n rings phases b i Lacks e is known = absurd is
keep_known n rings phases b i (Carries ks) e is known =
    let number : 8 * i + b % 8 ≡ b = omega (arith, e) in
    subst (λ c. KeepOf (rings c) phases c (keep_in ks (b % 8))) number (known.2 (b % 8) (omega arith))

pub kept_known : (n id b : ℕ) (rings : ℕ → Ring) (phases : ℕ → Phase) (v : Hand) (keep : Keep) → Knows n rings phases id v → IsCarried (right_at v.rights (b / 8)) → keep_at v.rights b ≡ keep
    → KeepOf (rings b) phases b keep
kept_known n id b rings phases v keep known is e =
    subst (λ (x : Keep). KeepOf (rings b) phases b x) e (keep_known n rings phases b (b / 8) (right_at v.rights (b / 8)) refl is (known.rights (b / 8)))

-- at first no place is gone
pub none_there : (m p : ℕ) → get_or (replicate m false) p false ≡ false
none_there zero zero = refl
none_there zero (suc p) = refl
none_there (suc m) zero = refl
none_there (suc m) (suc p) = none_there m p
