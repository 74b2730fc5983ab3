-- What an edit of slots and of their numbers makes of the list that is shown.
use Rattle.std.proofs.Common.{◌≡◌, ◌≢◌, ℕ, zero, suc, ◌+◌, ◌<◌, ◌≤◌, cond, ◌==◌, List, [], ◌∷◌, ◌++◌, length, get_or, take, drop, set, map, refl, sym, ap, subst, ◌∙◌, arith}
use Rattle.std.proofs.lemmas.Bool.Decides.{nat_tests}
use Rattle.std.proofs.lemmas.List.Sums.{sum_by-cons, sum_by-take-le}
use Rattle.std.proofs.lemmas.List.{drop_more, length-map, get_or-map, get_or-set_same, get_or-set_other, get_or_append_left, get_or_push, length-set, length_push, length-take-le, take-map, drop-map, set_split, take-append-le, append_assoc, take-take, set-get_or, get_or-take}
use Rattle.std.specs.List.{insert, remove}
use Rattle.rp_slots.specs.Slots.{shown, AreSlots}
use Rattle.rp_slots.proofs.Numbers.{times, Below, below, below_at, below_front, below_take, below_drop, at_most_once, alone, none_take, last_once, last_below}

-- a slot that is there is read as its item
one : {X : Type 0} (items : List X) (k : ℕ) (d : X) → k < length items → take 1 (drop k items) ≡ get_or items k d ∷ []
one items k d l = ap (take 1) (drop_more items k d l)

-- what is shown, read slot by slot
pub shown_is : {X : Type 0} (items : List X) (ks : List ℕ) (d : X) → Below (length items) ks → shown items ks ≡ map (λ k. get_or items k d) ks
shown_is items [] d h = refl
shown_is items (k ∷ ks) d h = ap (λ xs. xs ++ shown items ks) (one items k d h.0) ∙ ap (λ xs. get_or items k d ∷ xs) (shown_is items ks d h.1)

pub length_shown : {X : Type 0} (items : List X) (ks : List ℕ) → Below (length items) ks → length (shown items ks) ≡ length ks
length_shown items [] h = refl
length_shown [] (k ∷ ks) h = absurd (let l = h.0 in omega arith)
length_shown (x ∷ items) ks h = ap length (shown_is (x ∷ items) ks x h) ∙ length-map ks (λ k. get_or (x ∷ items) k x)

pub shown_append : {X : Type 0} (items : List X) (ks js : List ℕ) → shown items (ks ++ js) ≡ shown items ks ++ shown items js
shown_append items [] js = refl
shown_append items (k ∷ ks) js = ap (λ xs. take 1 (drop k items) ++ xs) (shown_append items ks js) ∙ sym (append_assoc (take 1 (drop k items)) (shown items ks) (shown items js))

pub shown_take : {X : Type 0} (items : List X) (n : ℕ) (ks : List ℕ) → Below (length items) ks → shown items (take n ks) ≡ take n (shown items ks)
shown_take items zero [] h = refl
shown_take items (suc n) [] h = refl
shown_take [] n (k ∷ ks) h = absurd (let l = h.0 in omega arith)
shown_take (x ∷ items) n ks h =
    shown_is (x ∷ items) (take n ks) x (below_take _ n ks h)
    ∙ sym (take-map (λ k. get_or (x ∷ items) k x) n ks)
    ∙ ap (take n) (sym (shown_is (x ∷ items) ks x h))

pub shown_drop : {X : Type 0} (items : List X) (n : ℕ) (ks : List ℕ) → Below (length items) ks → shown items (drop n ks) ≡ drop n (shown items ks)
shown_drop items zero [] h = refl
shown_drop items (suc n) [] h = refl
shown_drop [] n (k ∷ ks) h = absurd (let l = h.0 in omega arith)
shown_drop (x ∷ items) n ks h =
    shown_is (x ∷ items) (drop n ks) x (below_drop _ n ks h)
    ∙ sym (drop-map (λ k. get_or (x ∷ items) k x) n ks)
    ∙ ap (drop n) (sym (shown_is (x ∷ items) ks x h))

-- a new slot behind the others, and another slot that is written
pub shown_more : {X : Type 0} (items : List X) (x : X) (ks : List ℕ) → Below (length items) ks → shown (items ++ x ∷ []) ks ≡ shown items ks
shown_more items x [] h = refl
shown_more items x (k ∷ ks) h =
    ap (λ xs. xs ++ shown (items ++ x ∷ []) ks)
    (one (items ++ x ∷ []) k x (let l = h.0 in let n = length_push items x in omega arith) ∙ ap (λ y. y ∷ []) (get_or_append_left items (x ∷ []) x k h.0) ∙ sym (one items k x h.0))
    ∙ ap (λ xs. take 1 (drop k items) ++ xs) (shown_more items x ks h.1)

other : (k s c : ℕ) → cond (k == s) 1 0 + c ≡ 0 → k ≢ s
other k s c h = grind (arith, nat_tests)

pub shown_other : {X : Type 0} (items : List X) (s : ℕ) (x : X) (ks : List ℕ) → Below (length items) ks → times s ks ≡ 0 → shown (set items s x) ks ≡ shown items ks
shown_other items s x [] h z = refl
shown_other items s x (k ∷ ks) h z =
    let e = sum_by-cons (λ j. cond (j == s) 1 0) k ks in
    let n = length-set items s x in
    ap (λ xs. xs ++ shown (set items s x) ks)
    (one (set items s x) k x (let l = h.0 in omega arith) ∙ ap (λ y. y ∷ []) (get_or-set_other items s k x x (other k s (times s ks) (sym e ∙ z))) ∙ sym (one items k x h.0))
    ∙ ap (λ xs. take 1 (drop k items) ++ xs) (shown_other items s x ks h.1 (omega arith))

-- a number that is put in shows its slot's item there
pub shown_insert : {X : Type 0} (items : List X) (ks : List ℕ) (p s : ℕ) (x : X) → Below (length items) ks → s < length items → get_or items s x ≡ x
    → shown items (insert ks p s) ≡ insert (shown items ks) p x
shown_insert items ks p s x h l e =
    shown_append items (take p ks) (s ∷ drop p ks)
    ∙ ap (λ xs. xs ++ shown items (s ∷ drop p ks)) (shown_take items p ks h)
    ∙ ap (λ xs. take p (shown items ks) ++ (xs ++ shown items (drop p ks))) (one items s x l ∙ ap (λ y. y ∷ []) e)
    ∙ ap (λ xs. take p (shown items ks) ++ x ∷ xs) (shown_drop items p ks h)

-- without a number, its item is not shown
pub shown_remove : {X : Type 0} (items : List X) (ks : List ℕ) (p : ℕ) → Below (length items) ks → shown items (remove ks p) ≡ remove (shown items ks) p
shown_remove items ks p h =
    shown_append items (take p ks) (drop (suc p) ks)
    ∙ ap (λ xs. xs ++ shown items (drop (suc p) ks)) (shown_take items p ks h)
    ∙ ap (λ xs. take p (shown items ks) ++ xs) (shown_drop items (suc p) ks h)

-- in front of the free numbers
take_insert : (js : List ℕ) (p n s : ℕ) → p ≤ n → n ≤ length js → take (suc n) (insert js p s) ≡ insert (take n js) p s
take_insert js zero n s l w = refl
take_insert [] (suc p) n s l w = absurd (omega arith)
take_insert (j ∷ js) (suc p) zero s l w = absurd (omega arith)
take_insert (j ∷ js) (suc p) (suc n) s l w = ap (λ ks. j ∷ ks) (take_insert js p n s (omega arith) (omega arith))

take_remove : (ks ys : List ℕ) (p m : ℕ) → p ≤ m → m < length ks → take m (remove ks p ++ ys) ≡ remove (take (suc m) ks) p
take_remove [] ys p m l w = absurd (omega arith)
take_remove (k ∷ ks) ys zero m l w = take-append-le m ks ys (omega arith)
take_remove (k ∷ ks) ys (suc p) zero l w = absurd (omega arith)
take_remove (k ∷ ks) ys (suc p) (suc m) l w = ap (λ js. k ∷ js) (take_remove ks ys p m (omega arith) (omega arith))

-- an item in the slot of a number that stands there alone
shown_set : {X : Type 0} (items : List X) (ks : List ℕ) (p s : ℕ) (x : X) → Below (length items) ks → p < length ks → s ≡ get_or ks p s → times s ks ≤ 1
    → shown (set items s x) ks ≡ set (shown items ks) p x
shown_set items ks p s x h l is once =
    let apart = alone ks p s once l is in
    let low : s < length items = subst (λ k. k < length items) (sym is) (below_at (length items) ks p s h l) in
    let same : length (set items s x) ≡ length items = length-set items s x in
    let split : ks ≡ take p ks ++ s ∷ drop (suc p) ks = sym (set-get_or ks p s) ∙ set_split ks p (get_or ks p s) l ∙ ap (λ k. take p ks ++ k ∷ drop (suc p) ks) (sym is) in
    ap (shown (set items s x)) split
    ∙ shown_append (set items s x) (take p ks) (s ∷ drop (suc p) ks)
    ∙ ap (λ xs. xs ++ shown (set items s x) (s ∷ drop (suc p) ks)) (shown_other items s x (take p ks) (below_take _ p ks h) apart.0 ∙ shown_take items p ks h)
    ∙ ap (λ xs. take p (shown items ks) ++ (xs ++ shown (set items s x) (drop (suc p) ks))) (one (set items s x) s x (omega arith) ∙ ap (λ y. y ∷ []) (get_or-set_same items s x x low))
    ∙ ap (λ xs. take p (shown items ks) ++ x ∷ xs) (shown_other items s x (drop (suc p) ks) (below_drop _ (suc p) ks h) apart.1 ∙ shown_drop items (suc p) ks h)
    ∙ sym (set_split (shown items ks) p x (let n = length_shown items ks h in omega arith))

-- the first n numbers are those of the items
module _ {X : Type 0} (items : List X) (ks : List ℕ) (n : ℕ) (live : n ≤ length items) (whole : length ks ≡ length items) (slots : AreSlots (length items) ks) where
  low : Below (length items) ks
  low = below (length items) ks slots

  low_live : Below (length items) (take n ks)
  low_live = below_take (length items) n ks low

  pub long : length (shown items (take n ks)) ≡ n
  long = length_shown items (take n ks) low_live ∙ length-take-le n ks (omega arith)

  pub slot_low : (p s : ℕ) → p < n → s ≡ get_or ks p s → s < length items
  slot_low p s l is = subst (λ k. k < length items) (sym is) (below_at (length items) ks p s low (omega arith))

  -- the item at a place
  pub read : (p s : ℕ) (x : X) → p < n → s ≡ get_or ks p s → x ≡ get_or items s x → x ≡ get_or (shown items (take n ks)) p x
  read p s x l is e =
      let within : p < length (take n ks) = let m = length-take-le n ks (omega arith) in omega arith in
      let here : s ≡ get_or (take n ks) p s = is ∙ sym (get_or-take n ks p s l) in
      e ∙ ap (λ k. get_or items k x) here
      ∙ sym (get_or-map (λ k. get_or items k x) (take n ks) p s x within)
      ∙ ap (λ xs. get_or xs p x) (sym (shown_is items (take n ks) x low_live))

  -- the first of them
  pub cut : (m : ℕ) → m ≤ n → shown items (take m ks) ≡ take m (shown items (take n ks))
  cut m l = ap (shown items) (sym (take-take m n ks l)) ∙ shown_take items m (take n ks) low_live

  -- put into a new slot
  pub put_new : (p : ℕ) (x : X) → n ≡ length items → p ≤ n → shown (items ++ x ∷ []) (take (n + 1) (insert ks p (length items))) ≡ insert (shown items (take n ks)) p x
  put_new p x full l =
      let more : n + 1 ≡ suc n = omega arith in
      let longer : length (items ++ x ∷ []) ≡ length items + 1 = length_push items x in
      ap (λ m. shown (items ++ x ∷ []) (take m (insert ks p (length items)))) more
      ∙ ap (shown (items ++ x ∷ [])) (take_insert ks p n (length items) l (omega arith))
      ∙ shown_insert (items ++ x ∷ []) (take n ks) p (length items) x (raised _ (length (items ++ x ∷ [])) (take n ks) (omega arith) low_live) (omega arith) (get_or_push items x x (length items) refl)
      ∙ ap (λ xs. insert xs p x) (shown_more items x (take n ks) low_live) where
        raised : (a b : ℕ) (js : List ℕ) → a ≤ b → Below a js → Below b js
        raised a b [] l h = tt
        raised a b (j ∷ js) l h = (let k = h.0 in omega arith, raised a b js l h.1)

  -- put into the slot of the last number, which was free
  pub put_free : (js : List ℕ) (s p : ℕ) (x : X) → ks ≡ js ++ s ∷ [] → n < length items → p ≤ n → shown (set items s x) (take (n + 1) (insert js p s)) ≡ insert (shown items (take n ks)) p x
  put_free js s p x e room l =
      let more : n + 1 ≡ suc n = omega arith in
      let slots' : AreSlots (length items) (js ++ s ∷ []) = subst (AreSlots (length items)) e slots in
      let size : length js + 1 ≡ length items = sym (length_push js s) ∙ ap length (sym e) ∙ whole in
      let fits : n ≤ length js = omega arith in
      let free : s < length items = last_below (length items) js s slots' in
      let none : times s (take n js) ≡ 0 = none_take s n js (last_once (length items) js s slots') in
      let low' : Below (length items) (take n js) = below_take (length items) n js (below_front (length items) js (s ∷ []) (subst (Below (length items)) e low)) in
      let same : length (set items s x) ≡ length items = length-set items s x in
      let front : take n ks ≡ take n js = ap (take n) e ∙ take-append-le n js (s ∷ []) fits in
      ap (λ m. shown (set items s x) (take m (insert js p s))) more
      ∙ ap (shown (set items s x)) (take_insert js p n s l fits)
      ∙ shown_insert (set items s x) (take n js) p s x (subst (λ m. Below m (take n js)) (sym same) low') (omega arith) (get_or-set_same items s x x free)
      ∙ ap (λ xs. insert xs p x) (shown_other items s x (take n js) low' none)
      ∙ ap (λ js. insert (shown items js) p x) (sym front)

  -- taken out
  pub taken : (p s m : ℕ) → p < n → m + 1 ≡ n → shown items (take m (remove ks p ++ s ∷ [])) ≡ remove (shown items (take n ks)) p
  taken p s m l e =
      let more : suc m ≡ n = omega arith in
      ap (shown items) (take_remove ks (s ∷ []) p m (omega arith) (omega arith))
      ∙ ap (λ j. shown items (remove (take j ks) p)) more
      ∙ shown_remove items (take n ks) p low_live

  -- in place of the item there
  pub replaced : (p s : ℕ) (x : X) → p < n → s ≡ get_or ks p s → shown (set items s x) (take n ks) ≡ set (shown items (take n ks)) p x
  replaced p s x l is =
      let once = at_most_once (length items) ks s slots in
      let fewer = sum_by-take-le (λ k. cond (k == s) 1 0) ks n in
      shown_set items (take n ks) p s x low_live (let m = length-take-le n ks (omega arith) in omega arith) (is ∙ sym (get_or-take n ks p s l)) (omega arith)
