-- Lists in pieces of one size.
use Rattle.std.proofs.Common.{◌≡◌, ℕ, zero, suc, ◌+◌, ◌-◌, ◌*◌, ◌<◌, ◌≤◌, List, [], ◌∷◌, ◌++◌, length, take, drop, get_or, set, refl, sym, ap, ap₂, subst, ◌∙◌, arith, take-append-drop, length-take, length-drop, length-append, mul-zero, mul-suc, drop-drop, take-take, take_all, get_or-take, get_or-drop}
use Rattle.std.proofs.lemmas.List.{drop_all, drop-take, take-append-le, drop-append-le, nil_from_length}
use Rattle.rp_raftlog.specs.Pieces.{pieces, joined}

pub length-pieces : {X : Type 0} (size n : ℕ) (xs : List X) → length (pieces size n xs) ≡ n
length-pieces size zero xs = refl
length-pieces size (suc n) xs = ap suc (length-pieces size n (drop size xs))

pub joined-pieces : {X : Type 0} (size n : ℕ) (xs : List X) → length xs ≤ size * n → joined (pieces size n xs) ≡ xs
joined-pieces size zero xs h = sym (nil_from_length xs (omega (arith, mul-zero size)))
joined-pieces size (suc n) xs h =
    ap (λ l. take size xs ++ l) (joined-pieces size n (drop size xs) (omega (arith, length-drop size xs, mul-suc size n)))
    ∙ take-append-drop size xs

pub get_or-pieces : {X : Type 0} (size n k : ℕ) (xs d : List X) → k < n → get_or (pieces size n xs) k d ≡ take size (drop (size * k) xs)
get_or-pieces size zero k xs d h = absurd (omega arith)
get_or-pieces size (suc n) zero xs d h = ap (λ m. take size (drop m xs)) (sym (mul-zero size))
get_or-pieces size (suc n) (suc k) xs d h =
    let e : size + size * k ≡ size * suc k = omega (arith, mul-suc size k) in
    get_or-pieces size n k (drop size xs) d (omega arith) ∙ ap (take size) (drop-drop (size * k) size xs ∙ ap (λ m. drop m xs) e)

-- one more piece, which is empty
pub pieces-more : {X : Type 0} (size n : ℕ) (xs : List X) → length xs ≤ size * n → pieces size n xs ++ [] ∷ [] ≡ pieces size (suc n) xs
pieces-more size zero xs h = ap (λ p. p ∷ []) (sym (nil_from_length (take size xs) (omega (arith, length-take size xs, mul-zero size))))
pieces-more size (suc n) xs h =
    ap (λ ps. take size xs ∷ ps) (pieces-more size n (drop size xs) (omega (arith, length-drop size xs, mul-suc size n)))

-- without the first pieces
pub drop-pieces : {X : Type 0} (size g n : ℕ) (xs : List X) → drop g (pieces size n xs) ≡ pieces size (n - g) (drop (size * g) xs)
drop-pieces size zero n xs =
    let e : n ≡ n - 0 = omega arith in
    ap₂ (λ m l. pieces size m l) e (ap (λ m. drop m xs) (sym (mul-zero size)))
drop-pieces size (suc g) zero xs =
    let e : 0 ≡ 0 - suc g = omega arith in
    ap (λ m. pieces size m (drop (size * suc g) xs)) e
drop-pieces size (suc g) (suc n) xs =
    let e : n - g ≡ suc n - suc g = omega arith in
    let f : size + size * g ≡ size * suc g = omega (arith, mul-suc size g) in
    drop-pieces size g n (drop size xs) ∙ ap₂ (λ m l. pieces size m l) e (drop-drop (size * g) size xs ∙ ap (λ m. drop m xs) f)

-- two lists that differ in one piece alone
pub set-pieces : {X : Type 0} (size n k : ℕ) (xs ys : List X) → k < n → take (size * k) xs ≡ take (size * k) ys → drop (size * suc k) xs ≡ drop (size * suc k) ys
    → set (pieces size n xs) k (take size (drop (size * k) ys)) ≡ pieces size n ys
set-pieces size zero k xs ys h before after = absurd (omega arith)
set-pieces size (suc n) zero xs ys h before after =
    let e : size * 1 ≡ size = omega (arith, mul-suc size 0, mul-zero size) in
    ap₂ (λ p ps. p ∷ ps) (ap (λ m. take size (drop m ys)) (mul-zero size)) (ap (pieces size n) (subst (λ m. drop m xs ≡ drop m ys) e after))
set-pieces size (suc n) (suc k) xs ys h before after =
    let e : size * suc k ≡ size + size * k = omega (arith, mul-suc size k) in
    let f : size * suc (suc k) ≡ size + size * suc k = omega (arith, mul-suc size (suc k)) in
    let front : take size xs ≡ take size ys = sym (take-take size (size * suc k) xs (omega arith)) ∙ ap (take size) before ∙ take-take size (size * suc k) ys (omega arith) in
    let before2 : take (size * k) (drop size xs) ≡ take (size * k) (drop size ys) =
    sym (drop-take size (size * k) xs) ∙ ap (drop size) (subst (λ m. take m xs ≡ take m ys) e before) ∙ drop-take size (size * k) ys in
    let after2 : drop (size * suc k) (drop size xs) ≡ drop (size * suc k) (drop size ys) =
    drop-drop (size * suc k) size xs ∙ subst (λ m. drop m xs ≡ drop m ys) f after ∙ sym (drop-drop (size * suc k) size ys) in
    let here : take size (drop (size * suc k) ys) ≡ take size (drop (size * k) (drop size ys)) =
    ap (take size) (ap (λ m. drop m ys) e ∙ sym (drop-drop (size * k) size ys)) in
    ap₂ (λ p ps. p ∷ ps) front (ap (set (pieces size n (drop size xs)) k) here ∙ set-pieces size n k (drop size xs) (drop size ys) (omega arith) before2 after2)

-- the piece with the last item, or the empty one behind it
pub last_piece : {X : Type 0} (size k : ℕ) (s : List (List X)) (d : List X) → s ≡ pieces size (length s) (joined s) → k < length s
    → length (joined s) < size * suc k → get_or s k d ≡ drop (size * k) (joined s)
last_piece size k s d cut lt high =
    let wide : size * suc k ≡ size * k + size = mul-suc size k in
    ap (λ l. get_or l k d) cut ∙ get_or-pieces size (length s) k (joined s) d lt
    ∙ take_all size (drop (size * k) (joined s)) (omega (arith, length-drop (size * k) (joined s)))

-- an item behind the last
pub pushed : {X : Type 0} (size k : ℕ) (s : List (List X)) (x : X) (d : List X) → s ≡ pieces size (length s) (joined s) → k < length s
    → size * k ≤ length (joined s) → length (joined s) < size * suc k
    → set s k (get_or s k d ++ x ∷ []) ≡ pieces size (length s) (joined s ++ x ∷ [])
pushed size k s x d cut lt low high =
    let xs = joined s in
    let ys = xs ++ x ∷ [] in
    let long : length ys ≡ length xs + 1 = length-append xs (x ∷ []) in
    let wide : size * suc k ≡ size * k + size = mul-suc size k in
    let v : get_or s k d ++ x ∷ [] ≡ take size (drop (size * k) ys) =
    ap (λ l. l ++ x ∷ []) (last_piece size k s d cut lt high) ∙ sym (drop-append-le (size * k) xs (x ∷ []) low) ∙ sym (take_all size (drop (size * k) ys) (omega (arith, length-drop (size * k) ys))) in
    ap (λ l. set l k (get_or s k d ++ x ∷ [])) cut ∙ ap (set (pieces size (length s) xs) k) v
    ∙ set-pieces size (length s) k xs ys lt (sym (take-append-le (size * k) xs (x ∷ []) low))
    (drop_all (size * suc k) xs (omega arith) ∙ sym (drop_all (size * suc k) ys (omega arith)))

-- without the last item
pub popped : {X : Type 0} (size k r : ℕ) (s : List (List X)) (d : List X) → s ≡ pieces size (length s) (joined s) → k < length s
    → length (joined s) ≡ size * k + r + 1 → r < size
    → set s k (take r (get_or s k d)) ≡ pieces size (length s) (take (size * k + r) (joined s))
popped size k r s d cut lt long small =
    let xs = joined s in
    let ys = take (size * k + r) xs in
    let short : length ys ≡ size * k + r = omega (arith, length-take (size * k + r) xs) in
    let wide : size * suc k ≡ size * k + size = mul-suc size k in
    let v : take r (get_or s k d) ≡ take size (drop (size * k) ys) =
    ap (λ l. take r (get_or l k d)) cut ∙ ap (take r) (get_or-pieces size (length s) k xs d lt) ∙ take-take r size (drop (size * k) xs) (omega arith)
    ∙ sym (drop-take (size * k) r xs) ∙ sym (take_all size (drop (size * k) ys) (omega (arith, length-drop (size * k) ys))) in
    ap (λ l. set l k (take r (get_or s k d))) cut ∙ ap (set (pieces size (length s) xs) k) v
    ∙ set-pieces size (length s) k xs ys lt (sym (take-take (size * k) (size * k + r) xs (omega arith)))
    (drop_all (size * suc k) xs (omega arith) ∙ sym (drop_all (size * suc k) ys (omega arith)))

-- an item in its piece
pub read : {X : Type 0} (size k r : ℕ) (s : List (List X)) (d : List X) (x : X) → s ≡ pieces size (length s) (joined s) → k < length s → r < size
    → get_or (get_or s k d) r x ≡ get_or (joined s) (size * k + r) x
read size k r s d x cut lt small =
    ap (λ l. get_or (get_or l k d) r x) cut ∙ ap (λ l. get_or l r x) (get_or-pieces size (length s) k (joined s) d lt)
    ∙ get_or-take size (drop (size * k) (joined s)) r x small ∙ get_or-drop (size * k) (joined s) r x

-- how many items its piece has
pub in_piece : {X : Type 0} (size k r : ℕ) (s : List (List X)) (d : List X) → s ≡ pieces size (length s) (joined s) → k < length s → r < size
    → size * k + r < length (joined s) → r < length (get_or s k d)
in_piece size k r s d cut lt small within =
    let e : length (get_or s k d) ≡ length (take size (drop (size * k) (joined s))) =
    ap (λ l. length (get_or l k d)) cut ∙ ap length (get_or-pieces size (length s) k (joined s) d lt) in
    omega (arith, length-take size (drop (size * k) (joined s)), length-drop (size * k) (joined s))
