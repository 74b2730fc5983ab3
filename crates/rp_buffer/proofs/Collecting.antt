-- What the steps of a collect tell together.
use Rattle.std.proofs.Common.{◌≡◌, ◌≢◌, ℕ, zero, suc, ◌+◌, ◌-◌, ◌*◌, ◌/◌, ◌%◌, ◌<◌, ◌≤◌, List, [], ◌∷◌, ◌++◌, length, map, take, Bool, true, false, get_or, set, refl, ap, sym, ◌∙◌, arith, subst, slice_index_or, Option, Some, None}
use Rattle.std.proofs.lemmas.List.{length-set, length-append, get_or-set_same}
use Rattle.std.specs.List.{list_all}
use Rattle.std.specs.Option.{option_to_list}
use Rattle.rp_base.specs.Kept as kept
use Rattle.rp_base.specs.declared.items.Item.{Item}
use Rattle.rp_buffer.specs.declared.rule.Hand.{Hand}
use Rattle.rp_buffer.specs.declared.rights.Right.{Right}
use Rattle.rp_buffer.specs.declared.rights.Right.TheVariants.{Lacks, Carries}
use Rattle.rp_buffer.specs.declared.rights.Keep.{Keep}
use Rattle.rp_buffer.specs.declared.rights.Keep.TheVariants.{Open, Closed}
use Rattle.rp_buffer.specs.Hands.{hand, right_at, keep_in, keep_of, keep_at, keeping, with_keep, gone_too, none_gone, all_gone, is_carried, IsCarried, IsClosed, CarriesEight}
use Rattle.rp_buffer.specs.Plays.{noted, having_taken, having_shut, having_emptied, having_opened}
use Rattle.rp_buffer.specs.Collects.{Sweeping, Takings, Takes, Shuts, ShutsFrom, Sweeps, SweepsIf, SweepsFrom, Swept, Reopens, ReopensIf, ReopensFrom, Collects}
use Rattle.rp_buffer.proofs.Keeping.{with_keep_here}

pub append_nothing : {A : Type 0} (xs : List A) → xs ≡ xs ++ []
append_nothing [] = refl
append_nothing (x ∷ xs) = ap (λ (ys : List _). x ∷ ys) (append_nothing xs)

no_takings : (v : Hand) (b : ℕ) → Takings v b [] v
no_takings v b = record { taken = append_nothing v.taken; put = refl; parts = refl }

pub carried_so : (r : Right) → is_carried r ≡ true → IsCarried r
carried_so Lacks e = absurd (cc)
carried_so (Carries ks) e = tt

pub so_carried : (r : Right) → IsCarried r → is_carried r ≡ true
so_carried Lacks is = absurd is
so_carried (Carries ks) is = refl

keeping_carried : (r : Right) (x : ℕ) (keep : Keep) → IsCarried r → IsCarried (keeping r x keep)
keeping_carried Lacks x keep is = is
keeping_carried (Carries ks) x keep is = tt

-- a right that keeps something else is still carried
pub still_carried : (rights : List Right) (b : ℕ) (keep : Keep) → IsCarried (right_at rights (b / 8)) → IsCarried (right_at (with_keep rights b keep) (b / 8))
still_carried rights b keep is = subst IsCarried (sym (with_keep_here rights b (b / 8) keep refl is)) (keeping_carried (right_at rights (b / 8)) (b % 8) keep is)

keeping_now : (r : Right) (x : ℕ) (keep : Keep) → x < 8 → CarriesEight r → IsCarried r → keep_of (keeping r x keep) x ≡ keep
keeping_now Lacks x keep low eight is = absurd is
keeping_now (Carries ks) x keep low eight is = get_or-set_same ks x keep Open (omega (arith, low, eight))

-- what is kept of a buffer now
pub kept_now : (rights : List Right) (b : ℕ) (keep : Keep) → CarriesEight (right_at rights (b / 8)) → IsCarried (right_at rights (b / 8)) → keep_at (with_keep rights b keep) b ≡ keep
kept_now rights b keep eight is = ap (λ r. keep_of r (b % 8)) (with_keep_here rights b (b / 8) keep refl is) ∙ keeping_now (right_at rights (b / 8)) (b % 8) keep (omega arith) eight is

-- each place that was drawn is gone
pub gone_at : (count : ℕ) (gone : List Bool) (p : ℕ) → all_gone count gone ≡ true → p < count → p < length gone → slice_index_or gone p false ≡ true
gone_at count [] p all low fits = absurd (omega (arith, fits))
gone_at zero (g ∷ gs) p all low fits = absurd (omega (arith, low))
gone_at (suc n) (g ∷ gs) zero all low fits = grind (arith)
gone_at (suc n) (g ∷ gs) (suc p) all low fits = gone_at n gs p (grind (arith)) (omega (arith, low)) (omega (arith, fits))

append_assoc : {A : Type 0} (xs ys zs : List A) → (xs ++ ys) ++ zs ≡ xs ++ (ys ++ zs)
append_assoc [] ys zs = refl
append_assoc (x ∷ xs) ys zs = ap (λ (l : List _). x ∷ l) (append_assoc xs ys zs)

map_append : {A B : Type 0} (f : A → B) (xs ys : List A) → map f (xs ++ ys) ≡ map f xs ++ map f ys
map_append f [] ys = refl
map_append f (x ∷ xs) ys = ap (λ (l : List _). f x ∷ l) (map_append f xs ys)

-- takings add up
pub takings_chain : (v m w : Hand) (b : ℕ) (xs ys : List Item) → Takings v b xs m → Takings m b ys w → Takings v b (xs ++ ys) w
takings_chain v m w b xs ys one two = record {
  taken = two.taken ∙ ap (λ l. l ++ map (λ x. (b, x)) ys) one.taken ∙ append_assoc v.taken (map (λ x. (b, x)) xs) (map (λ x. (b, x)) ys)
      ∙ ap (λ l. v.taken ++ l) (sym (map_append (λ (x : Item). (b, x)) xs ys));
  put = two.put ∙ one.put;
  parts = two.parts ∙ one.parts;
}

takes_takings : (v w : Hand) (b k : ℕ) (found : Option Item) → k / 16 ≡ b → Takes v k found w → Takings v b (option_to_list found) w
takes_takings v w b k None of told = subst (λ (y : Hand). Takings v b [] y) (sym told.2) (record { taken = append_nothing v.taken; put = refl; parts = refl })
takes_takings v w b k (Some x) of told = record {
  taken = ap (λ (y : Hand). y.taken) told ∙ ap (λ z. v.taken ++ (z, x) ∷ []) of;
  put = ap (λ (y : Hand). y.put) told;
  parts = ap (λ (y : Hand). y.parts) told;
}

nothing_found : (v w : Hand) (b : ℕ) (found : Option Item) → found ≡ None → w ≡ v → Takings v b (option_to_list found) w
nothing_found v w b None e told = subst (λ (y : Hand). Takings v b [] y) (sym told) (no_takings v b)
nothing_found v w b (Some x) e told = absurd (cc)

sweeps_if : (t : Bool) (v w : Hand) (b k : ℕ) (found : Option Item) → k / 16 ≡ b → SweepsIf t v k found w → Takings v b (option_to_list found) w
sweeps_if true v w b k found of told = takes_takings v w b k found of told
sweeps_if false v w b k found of told = nothing_found v w b found told.0 told.1

sweeps_from : (keep : Keep) (v w : Hand) (b p : ℕ) (found : Option Item) → p < 16 → SweepsFrom keep v b p found w → Takings v b (option_to_list found) w
sweeps_from Open v w b p found low told = nothing_found v w b found told.0 told.1
sweeps_from (Closed count gone) v w b p found low told = sweeps_if _ v w b (16 * b + p) found (omega (arith, low)) told

pub swept_takings : (n : ℕ) (b : ℕ) (v w : Hand) (items : List Item) → n ≤ 16 → Swept b n v items w → Takings v b items w
unfolding Swept
swept_takings zero b v w items most told = subst (λ (y : Hand). Takings v b items y) (sym told.1) (subst (λ l. Takings v b l v) (sym told.0) (no_takings v b))
swept_takings (suc n) b v w items most (first, mid, found, before, here, is) =
    subst (λ l. Takings v b l w) (sym is)
    (takings_chain v mid w b first (option_to_list found) (swept_takings n b v mid first (omega (arith, most)) before) (sweeps_from (keep_at mid.rights b) mid w b n found (omega (arith, most)) here))

reopens_if : (t : Bool) (v w : Hand) (b : ℕ) → ReopensIf t v b w → Takings v b [] w
reopens_if true v w b told = subst (λ (y : Hand). Takings v b [] y) (sym told) (record { taken = append_nothing v.taken; put = refl; parts = refl })
reopens_if false v w b told = subst (λ (y : Hand). Takings v b [] y) (sym told) (no_takings v b)

reopens_from : (keep : Keep) (v w : Hand) (b : ℕ) → ReopensFrom keep v b w → Takings v b [] w
reopens_from Open v w b told = subst (λ (y : Hand). Takings v b [] y) (sym told) (no_takings v b)
reopens_from (Closed count gone) v w b told = reopens_if _ v w b told

-- what the steps of a collect take together
pub collects : (v shut swept w : Hand) (b : ℕ) (items : List Item) → Takings v b [] shut → Shuts v b shut → Swept b 16 shut items swept → Reopens swept b w → Collects v b items w
collects v shut swept w b items none shuts sweeps reopens = record {
  steps = (shut, swept, shuts, sweeps, reopens);
  takings = subst (λ l. Takings v b l w) (sym (append_nothing items))
      (takings_chain v swept w b items [] (takings_chain v shut swept b [] items none (swept_takings 16 b shut swept items (omega arith) sweeps)) (reopens_from (keep_at swept.rights b) swept w b reopens));
}

-- one more place is swept
pub swept_next : (b n : ℕ) (v mid w : Hand) (first : List Item) (found : Option Item) → Swept b n v first mid → Sweeps mid b n found w → Swept b (n + 1) v (first ++ option_to_list found) w
unfolding Swept
swept_next b n v mid w first found before here = subst (λ m. Swept b m v (first ++ option_to_list found) w) (suc_is n) (first, mid, found, before, here, refl)
  where
    suc_is : (n : ℕ) → suc n ≡ n + 1
    suc_is n = omega arith

-- nothing is swept yet
pub swept_none : (b : ℕ) (v : Hand) → Swept b 0 v [] v
unfolding Swept
swept_none b v = (refl, refl)

-- what was appended so far, and what one more place gives
pub one_more : (before mid after : kept.Kept Item) (v m w : Hand) (b n : ℕ)
    → ((items : List Item) × (length items ≤ n) × (mid.list ≡ before.list ++ items) × (before.spare ≤ mid.spare + length items) × Swept b n v items m)
    → ((found : Option Item) × (after.list ≡ mid.list ++ option_to_list found) × (mid.spare ≤ after.spare + length (option_to_list found)) × Sweeps m b n found w)
    → (items : List Item) × (length items ≤ n + 1) × (after.list ≡ before.list ++ items) × (before.spare ≤ after.spare + length items) × Swept b (n + 1) v items w
one_more before mid after v m w b n (items, most, list, spare, swept) (found, more, room, here) =
    let sum = length-append items (option_to_list found) in
    let one = at_most_one found in (
      items ++ option_to_list found,
      omega (arith, sum, most, one),
      more ∙ ap (λ l. l ++ option_to_list found) list ∙ append_assoc before.list items (option_to_list found),
      omega (arith, sum, spare, room),
      swept_next b n v m w items found swept here,
    )
  where
    at_most_one : (found : Option Item) → length (option_to_list found) ≤ 1
    at_most_one None = omega arith
    at_most_one (Some x) = omega arith
