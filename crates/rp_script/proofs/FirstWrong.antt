-- The first word of a line that is refused.
use Rattle.std.proofs.Common.{◌≡◌, ℕ, zero, suc, ◌+◌, List, [], ◌∷◌, Option, None, Some, refl, ap, ◌∙◌, sym, subst, arith}
use Rattle.std.specs.Prelude.{IfSome}
use Rattle.rp_script.specs.Readers.{bad_word}
use Rattle.rp_script.specs.Wanted.{Wanted}
use Rattle.rp_script.specs.Causes.{IsWrong, IsRight, IsRefusedAt, Refuses}
use Rattle.rp_script.proofs.Wrong.{wrong, wrongs, is_wrong, is_right, right_is}
use Rattle.rp_script.specs.declared.faults.BadWord.{BadWord}
use Rattle.rp_script.specs.declared.faults.LineKind.{LineKind}
use Rattle.rp_script.specs.declared.faults.LineKind.TheVariants as kinds

-- a word's own refusal comes before those behind it
abbrev pub or_behind : ℕ → Option LineKind → Option BadWord → Option BadWord
or_behind at None later = later
or_behind at (Some kind) later = Some (bad_word at kind)

-- the first refusal of the words from word `at` on
abbrev pub first_wrong : ℕ → List Wanted → List (List ℕ) → Option BadWord
first_wrong at [] [] = None
first_wrong at [] (word ∷ words) = Some (bad_word at kinds.ExtraWord)
first_wrong at (w ∷ more) [] = Some (bad_word at kinds.MissingWord)
first_wrong at (w ∷ more) (word ∷ words) = or_behind at (wrong w word) (first_wrong (at + 1) more words)

-- it is refused as the causes say
later_refuses : (at : ℕ) (w : Wanted) (more : List Wanted) (word : List ℕ) (words : List (List ℕ)) (e : BadWord) → wrong w word ≡ None
    → Refuses (at + 1) more words e → Refuses at (w ∷ more) (word ∷ words) e
later_refuses at w more word words e fine h = let place : e.word ≡ at + suc h.0 = omega (arith, h.1) in (suc h.0, place, (is_right w word fine, h.2))

head_refuses : (at : ℕ) (w : Wanted) (more : List Wanted) (word : List ℕ) (words : List (List ℕ)) (o : Option LineKind) → wrong w word ≡ o
    → IfSome o (λ kind. IsWrong w kind word) → IfSome (first_wrong (at + 1) more words) (Refuses (at + 1) more words)
    → IfSome (or_behind at o (first_wrong (at + 1) more words)) (Refuses at (w ∷ more) (word ∷ words))
head_refuses at w more word words (Some kind) is h later = let place : at ≡ at + 0 = omega arith in (0, place, h)
head_refuses at w more word words None is h later = rest (first_wrong (at + 1) more words) later
  where
    rest : (o : Option BadWord) → IfSome o (Refuses (at + 1) more words) → IfSome o (Refuses at (w ∷ more) (word ∷ words))
    rest None g = tt
    rest (Some e) g = later_refuses at w more word words e is g

pub refuses_first : (at : ℕ) (wanted : List Wanted) (words : List (List ℕ)) → IfSome (first_wrong at wanted words) (Refuses at wanted words)
refuses_first at [] [] = tt
refuses_first at [] (word ∷ words) = let place : at ≡ at + 0 = omega arith in (0, place, refl)
refuses_first at (w ∷ more) [] = let place : at ≡ at + 0 = omega arith in (0, place, refl)
refuses_first at (w ∷ more) (word ∷ words) =
    head_refuses at w more word words (wrong w word) refl (wrongs w word) (refuses_first (at + 1) more words)

-- what the causes refuse is the first
at_place : (at : ℕ) (e : BadWord) (kind : LineKind) → e.word ≡ at + 0 → e.kind ≡ kind → Some (bad_word at kind) ≡ Some e
at_place at e kind place same =
    let here : at ≡ e.word = omega (arith, place) in ap (λ n. Some (bad_word n kind)) here ∙ ap (λ k. Some (bad_word e.word k)) (sym same)

pub first_refused : (at : ℕ) (wanted : List Wanted) (words : List (List ℕ)) (n : ℕ) (e : BadWord) → e.word ≡ at + n → IsRefusedAt wanted words n e.kind
    → first_wrong at wanted words ≡ Some e
first_refused at [] [] n e place h = absurd h
first_refused at [] (word ∷ words) zero e place h = at_place at e kinds.ExtraWord place h
first_refused at [] (word ∷ words) (suc n) e place h = absurd h
first_refused at (w ∷ more) [] zero e place h = at_place at e kinds.MissingWord place h
first_refused at (w ∷ more) [] (suc n) e place h = absurd h
first_refused at (w ∷ more) (word ∷ words) zero e place h =
    ap (λ o. or_behind at o (first_wrong (at + 1) more words)) (is_wrong w word e.kind h) ∙ at_place at e e.kind place refl
first_refused at (w ∷ more) (word ∷ words) (suc n) e place h =
    ap (λ o. or_behind at o (first_wrong (at + 1) more words)) (right_is w word h.0) ∙ first_refused (at + 1) more words n e (omega (arith, place)) h.1
