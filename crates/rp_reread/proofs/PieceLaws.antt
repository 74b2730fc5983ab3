-- The first piece of a text, and those behind it.
use Rattle.std.proofs.Common.{◌≡◌, ℕ, suc, ◌+◌, Bool, true, false, cond, List, [], ◌∷◌, take, drop, refl, sym, ap, ◌∙◌, arith, Option}
use Rattle.std.specs.Prelude.{not, ◌==◌}
use Rattle.std.specs.List.{prefix_len}
use Rattle.rp_request.specs.Words.{pieces, begun_with}
use Rattle.rp_reread.specs.Pieces.{left_in, behind_space}

abbrev plain : ℕ → Bool
plain b = not (b == 32)

-- the bytes in front of the first space are the first piece
first_by : (b : ℕ) (bytes : List ℕ) (space : Bool) → (b == 32) ≡ space
    → pieces bytes ≡ take (prefix_len plain bytes) bytes ∷ left_in (behind_space (drop (prefix_len plain bytes) bytes))
    → pieces (b ∷ bytes) ≡ take (prefix_len plain (b ∷ bytes)) (b ∷ bytes) ∷ left_in (behind_space (drop (prefix_len plain (b ∷ bytes)) (b ∷ bytes)))
first_by b bytes true e rest = rw e refl
first_by b bytes false e rest =
    let one : pieces (b ∷ bytes) ≡ begun_with b (pieces bytes) = rw e refl in
    let more : prefix_len plain (b ∷ bytes) ≡ suc (prefix_len plain bytes) = rw e (omega arith) in
    one ∙ ap (begun_with b) rest
    ∙ ap (λ n. take n (b ∷ bytes) ∷ left_in (behind_space (drop n (b ∷ bytes)))) (sym more)

pub first_piece : (text : List ℕ)
    → pieces text ≡ take (prefix_len plain text) text ∷ left_in (behind_space (drop (prefix_len plain text) text))
first_piece [] = refl
first_piece (b ∷ bytes) = first_by b bytes (b == 32) refl (first_piece bytes)

-- the same, as the code finds it
pub next_piece : (text word from : List ℕ) (len : ℕ) (rest : Option (List ℕ)) → len ≡ prefix_len plain text → word ≡ take len text
    → from ≡ drop len text → rest ≡ behind_space from → pieces text ≡ word ∷ left_in rest
next_piece text word from len rest counted front back behind =
    let split : take (prefix_len plain text) text ≡ word = ap (λ n. take n text) (sym counted) ∙ sym front in
    let left : behind_space (drop (prefix_len plain text) text) ≡ rest =
    ap (λ n. behind_space (drop n text)) (sym counted) ∙ ap behind_space (sym back) ∙ sym behind in
    first_piece text ∙ ap (λ w. w ∷ left_in (behind_space (drop (prefix_len plain text) text))) split ∙ ap (λ r. word ∷ left_in r) left
