-- How many words a line has.
use Rattle.std.proofs.Common.{◌≡◌, ℕ, ◌+◌, ◌≤◌, ◌==◌, Bool, true, false, List, [], ◌∷◌, length, refl, arith}
use Rattle.std.specs.Prelude.{filter}
use Rattle.rp_request.specs.Words.{begun_with, pieces, has_bytes, words_of}

begun_count : (b n : ℕ) (texts : List (List ℕ)) → length texts ≤ n + 1 → length (begun_with b texts) ≤ n + 1
begun_count b n [] h = omega arith
begun_count b n (text ∷ texts) h = omega (arith, h)

piece_count : (b : ℕ) (s : List ℕ) (v : Bool) → (b == 32) ≡ v → length (pieces s) ≤ length s + 1 → length (pieces (b ∷ s)) ≤ length (b ∷ s) + 1
piece_count b s true e h = simp e (omega arith)
piece_count b s false e h = simp e (omega (arith, begun_count b (length s) (pieces s) h))

pieces_count : (s : List ℕ) → length (pieces s) ≤ length s + 1
pieces_count [] = omega arith
pieces_count (b ∷ s) = piece_count b s _ refl (pieces_count s)

kept_count : (texts : List (List ℕ)) → length (filter has_bytes texts) ≤ length texts
kept_count [] = omega arith
kept_count ([] ∷ texts) = omega (arith, kept_count texts)
kept_count ((b ∷ t) ∷ texts) = omega (arith, kept_count texts)

-- a line has at most one word more than bytes
pub words_count : (s : List ℕ) → length (words_of s) ≤ length s + 1
words_count s = omega (arith, kept_count (pieces s), pieces_count s)
