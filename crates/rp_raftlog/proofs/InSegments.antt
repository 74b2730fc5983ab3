-- What calls leave of segments.
use Rattle.std.proofs.Common.{◌≡◌, ℕ, suc, ◌+◌, ◌-◌, ◌*◌, ◌/◌, ◌%◌, ◌^◌, ◌<◌, ◌≤◌, List, [], ◌∷◌, ◌++◌, length, take, drop, get_or, set, sym, ap, ap₂, ◌∙◌, arith, length-take, length-drop, drop-drop, get_or-drop}
use Rattle.std.proofs.lemmas.List.{drop-take, drop-append-le, length_push}
use Rattle.rp_raftlog.specs.declared.entries.Entry.{Entry}
use Rattle.rp_raftlog.specs.Pieces.{pieces, joined, AreSegments}
use Rattle.rp_raftlog.proofs.Cuts.{length-pieces, joined-pieces, pieces-more, drop-pieces, last_piece, pushed, popped, read, in_piece}

-- segments that show these entries
pub record Leaves (segments : List (List Entry)) (first end : ℕ) (entries : List Entry) : Type 0 where
  pub are : AreSegments segments first end
  pub shows : drop first (joined segments) ≡ entries

leaves : (s : List (List Entry)) (n first end : ℕ) (xs entries : List Entry) → s ≡ pieces 64 n xs → length xs ≡ end → first ≤ end → end ≤ 64 * n → 64 * n < 2 ^ 64
    → drop first xs ≡ entries → Leaves s first end entries
leaves s n first end xs entries cut held begun room fits shown =
    let j : joined s ≡ xs = ap joined cut ∙ joined-pieces 64 n xs (omega arith) in
    let c : length s ≡ n = ap length cut ∙ length-pieces 64 n xs in
    record {
      are = record {
        cut = cut ∙ ap₂ (λ m l. pieces 64 m l) (sym c) (sym j);
        held = ap length j ∙ held;
        begun = begun;
        room = omega arith;
        fits = omega arith;
      };
      shows = ap (drop first) j ∙ shown;
    }

-- an empty segment more
pub with_one_more : (s t : List (List Entry)) (first end : ℕ) (entries : List Entry) → AreSegments s first end → drop first (joined s) ≡ entries
    → t ≡ s ++ [] ∷ [] → 64 * (length s + 1) < 2 ^ 64 → Leaves t first end entries
with_one_more s t first end entries a shown e fits =
    let h = a.held in
    let r = a.room in
    leaves t (suc (length s)) first end (joined s) entries
    (e ∙ ap (λ l. l ++ [] ∷ []) a.cut ∙ pieces-more 64 (length s) (joined s) (omega arith)) a.held a.begun (omega arith) (omega arith) shown

-- the segment that takes the next entry has room for it
pub has_room : (s : List (List Entry)) (first end : ℕ) (old : List Entry) → AreSegments s first end → end < 64 * length s → old ≡ get_or s (end / 64) old → length old < 64
has_room s first end old a less e =
    let h = a.held in
    let l : length old ≡ length (drop (64 * (end / 64)) (joined s)) =
    ap length (e ∙ last_piece 64 (end / 64) s old a.cut (omega arith) (omega arith)) in
    omega (arith, length-drop (64 * (end / 64)) (joined s))

-- an entry behind the last
pub with_entry : (s : List (List Entry)) (first end : ℕ) (entries : List Entry) (x : Entry) (old new : List Entry) → AreSegments s first end → drop first (joined s) ≡ entries
    → end < 64 * length s → old ≡ get_or s (end / 64) old → new ≡ old ++ x ∷ [] → Leaves (set s (end / 64) new) first (end + 1) (entries ++ x ∷ [])
with_entry s first end entries x old new a shown less was is =
    let h = a.held in
    let b = a.begun in
    leaves (set s (end / 64) new) (length s) first (end + 1) (joined s ++ x ∷ []) (entries ++ x ∷ [])
    (ap (set s (end / 64)) (is ∙ ap (λ l. l ++ x ∷ []) was) ∙ pushed 64 (end / 64) s x old a.cut (omega arith) (omega arith) (omega arith))
    (length_push (joined s) x ∙ ap (λ n. n + 1) a.held) (omega arith) (omega arith) a.fits
    (drop-append-le first (joined s) (x ∷ []) (omega arith) ∙ ap (λ l. l ++ x ∷ []) shown)

-- the entries from a place on, without the last
front_of_rest : (first m : ℕ) (xs : List Entry) → first ≤ m → length xs ≡ m + 1 → drop first (take m xs) ≡ take (length (drop first xs) - 1) (drop first xs)
front_of_rest first m xs le long =
    let e : m ≡ first + (m - first) = omega arith in
    let f : m - first ≡ length (drop first xs) - 1 = omega (arith, length-drop first xs) in
    ap (λ n. drop first (take n xs)) e ∙ drop-take first (m - first) xs ∙ ap (λ n. take n (drop first xs)) f

-- the last entry less
pub without_last : (s : List (List Entry)) (first end : ℕ) (entries old new : List Entry) → AreSegments s first end → drop first (joined s) ≡ entries
    → first < end → old ≡ get_or s ((end - 1) / 64) old → new ≡ take ((end - 1) % 64) old
    → Leaves (set s ((end - 1) / 64) new) first (end - 1) (take (length entries - 1) entries)
without_last s first end entries old new a shown less was is =
    let h = a.held in
    let r = a.room in
    let e : end - 1 ≡ 64 * ((end - 1) / 64) + (end - 1) % 64 = omega arith in
    leaves (set s ((end - 1) / 64) new) (length s) first (end - 1) (take (end - 1) (joined s)) (take (length entries - 1) entries)
    (ap (set s ((end - 1) / 64)) (is ∙ ap (take ((end - 1) % 64)) was)
    ∙ popped 64 ((end - 1) / 64) ((end - 1) % 64) s old a.cut (omega arith) (omega arith) (omega arith) ∙ ap (λ m. pieces 64 (length s) (take m (joined s))) (sym e))
    (omega (arith, length-take (end - 1) (joined s))) (omega arith) (omega arith) a.fits
    (front_of_rest first (end - 1) (joined s) (omega arith) (omega arith) ∙ ap (λ l. take (length l - 1) l) shown)

-- the first entries less, and the segments before what stays
pub without_first : (s t : List (List Entry)) (first end n : ℕ) (entries : List Entry) → AreSegments s first end → drop first (joined s) ≡ entries
    → first + n ≤ end → t ≡ drop ((first + n) / 64) s → Leaves t ((first + n) % 64) (end - (first + n) / 64 * 64) (drop n entries)
without_first s t first end n entries a shown le is =
    let h = a.held in
    let r = a.room in
    let f = a.fits in
    let g = (first + n) / 64 in
    let e : 64 * g + (first + n) % 64 ≡ first + n = omega arith in
    leaves t (length s - g) ((first + n) % 64) (end - g * 64) (drop (64 * g) (joined s)) (drop n entries)
    (is ∙ ap (drop g) a.cut ∙ drop-pieces 64 g (length s) (joined s))
    (omega (arith, length-drop (64 * g) (joined s))) (omega arith) (omega arith) (omega arith)
    (drop-drop ((first + n) % 64) (64 * g) (joined s) ∙ ap (λ m. drop m (joined s)) e ∙ sym (drop-drop n first (joined s)) ∙ ap (drop n) shown)

-- an index within what is shown
pub within : (s : List (List Entry)) (first end n : ℕ) (entries : List Entry) → AreSegments s first end → drop first (joined s) ≡ entries → n ≤ length entries → first + n ≤ end
within s first end n entries a e le =
    let h = a.held in
    let b = a.begun in
    let l : length (drop first (joined s)) ≡ length entries = ap length e in
    omega (arith, length-drop first (joined s))

-- the entry at an index
pub entry_at_index : (s : List (List Entry)) (first end index : ℕ) (entries old : List Entry) (x : Entry) → AreSegments s first end → drop first (joined s) ≡ entries
    → first + index < end → old ≡ get_or s ((first + index) / 64) old → x ≡ get_or old ((first + index) % 64) x → x ≡ get_or entries index x
entry_at_index s first end index entries old x a shown less was is =
    let r = a.room in
    let e : 64 * ((first + index) / 64) + (first + index) % 64 ≡ first + index = omega arith in
    is ∙ ap (λ l. get_or l ((first + index) % 64) x) was
    ∙ read 64 ((first + index) / 64) ((first + index) % 64) s old x a.cut (omega arith) (omega arith)
    ∙ ap (λ m. get_or (joined s) m x) e ∙ sym (get_or-drop first (joined s) index x) ∙ ap (λ l. get_or l index x) shown

-- its place lies in its segment
pub in_segment : (s : List (List Entry)) (first end index : ℕ) (old : List Entry) → AreSegments s first end
    → first + index < end → old ≡ get_or s ((first + index) / 64) old → (first + index) % 64 < length old
in_segment s first end index old a less was =
    let h = a.held in
    let r = a.room in
    let l : length old ≡ length (get_or s ((first + index) / 64) old) = ap length was in
    let i = in_piece 64 ((first + index) / 64) ((first + index) % 64) s old a.cut (omega arith) (omega arith) (omega arith) in
    omega arith

-- something is shown
pub within_one : (s : List (List Entry)) (first end : ℕ) (entries : List Entry) → AreSegments s first end → drop first (joined s) ≡ entries → 0 < length entries → first < end
within_one s first end entries a e le =
    let w = within s first end 1 entries a e (omega arith) in
    omega arith

-- an index below the count
pub below : (s : List (List Entry)) (first end index : ℕ) (entries : List Entry) → AreSegments s first end → drop first (joined s) ≡ entries → index < length entries → first + index < end
below s first end index entries a e le =
    let w = within s first end (index + 1) entries a e (omega arith) in
    omega arith
