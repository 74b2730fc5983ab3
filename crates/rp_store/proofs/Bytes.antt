-- Lists of bytes in parts.
use Rattle.std.proofs.Common.{◌≡◌, ℕ, ◌+◌, ◌-◌, ◌≤◌, List, ◌++◌, length, take, drop, refl, sym, ◌∙◌, ap, arith, length-take, take-append-drop}
use Rattle.std.proofs.Math.Seq.{take-add}
use Rattle.std.proofs.lemmas.List.{take_at, drop_at, drop-drop, drop-take, take-take}
use Rattle.std.proofs.lemmas.Slice.{take-put_mid, take-put_mid_below}
use borrow.Rule.Slice.PartMut.{put_mid}

-- parts of one length are the same
pub split_same : (a b x y : List ℕ) → length a ≡ length b → a ++ x ≡ b ++ y → (a ≡ b) × (x ≡ y)
split_same a b x y long is = (
  sym (take_at a x (length b) long) ∙ ap (λ (l : List ℕ). take (length b) l) is ∙ take_at b y (length b) refl,
  sym (drop_at a x (length b) long) ∙ ap (λ (l : List ℕ). drop (length b) l) is ∙ drop_at b y (length b) refl,
)

-- a buffer that was filled from a file up to done is filled further by what came behind
pub filled_more : (done k n at : ℕ) (buf new file : List ℕ) → done ≤ length buf → k ≡ length buf - done → length new ≡ k → n ≤ k
    → take done buf ≡ take done (drop at file) → take n new ≡ take n (drop (at + done) file)
    → take (done + n) (put_mid done k buf new) ≡ take (done + n) (drop at file)
filled_more done k n at buf new file fits rest long few had came =
    let whole = put_mid done k buf new in
    let front : take done whole ≡ take done buf = take-put_mid_below done k buf new done (omega arith) fits in
    let both : take (done + k) whole ≡ take done buf ++ new = take-put_mid done k buf new (done + k) (omega (arith, long)) fits in
    let behind : take k (drop done whole) ≡ new =
    sym (drop-take done k whole) ∙ ap (λ (l : List ℕ). drop done l) both ∙ drop_at (take done buf) new done (omega (arith, length-take done buf, fits)) in
    let more : take n (drop done whole) ≡ take n new = sym (take-take n k (drop done whole) few) ∙ ap (λ (l : List ℕ). take n l) behind in
    take-add done n whole ∙ ap (λ (l : List ℕ). l ++ take n (drop done whole)) (front ∙ had)
    ∙ ap (λ (l : List ℕ). take done (drop at file) ++ l) (more ∙ came ∙ ap (λ (l : List ℕ). take n l) (sym (drop-drop done at file)))
    ∙ sym (take-add done n (drop at file))

-- what begins with these bytes is these bytes and a rest
pub begins_split : (front c : List ℕ) → take (length front) c ≡ front → c ≡ front ++ drop (length front) c
begins_split front c begins = sym (take-append-drop (length front) c) ∙ ap (λ (l : List ℕ). l ++ drop (length front) c) begins
