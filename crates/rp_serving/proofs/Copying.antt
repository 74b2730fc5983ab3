-- A sender's list is looked at message by message.
use Rattle.std.proofs.Common.{◌≡◌, ℕ, zero, suc, ◌+◌, ◌<◌, ◌≤◌, List, [], ◌∷◌, ◌++◌, append_assoc, length, take, get_or, refl, sym, ap, ◌∙◌, arith}
use Rattle.rp_request.specs.Applied.{AppliedState}
use Rattle.rp_events.specs.declared.parcels.Parcel.{Parcel}
use Rattle.rp_race.specs.declared.rules.RaceRules.{RaceRules}
use Rattle.rp_serving.specs.declared.letters.Letter.{Letter}
use Rattle.rp_serving.specs.Letters.{letters_behind}
use Rattle.rp_serving.proofs.Lettered.{letters_further}

take_next : (xs : List (Parcel AppliedState)) (i : ℕ) (p : Parcel AppliedState) → i < length xs → p ≡ get_or xs i p → take (suc i) xs ≡ take i xs ++ p ∷ []
take_next [] i p low is = absurd (omega (arith, low))
take_next (x ∷ xs) zero p low is = ap (λ (z : Parcel AppliedState). z ∷ []) (sym is)
take_next (x ∷ xs) (suc i) p low is = ap (λ l. x ∷ l) (take_next xs i p (omega (arith, low)) is)

take_long : (xs : List (Parcel AppliedState)) (i : ℕ) → i ≤ length xs → length (take i xs) ≡ i
take_long xs zero low = refl
take_long [] (suc i) low = absurd (omega (arith, low))
take_long (x ∷ xs) (suc i) low = let t = take_long xs i (omega (arith, low)) in omega (arith, t)

pub copy_more : (rules : RaceRules) (from to first copied i : ℕ) (before now new : List Letter) (more : List (Parcel AppliedState)) (p : Parcel AppliedState)
    → i < length more → p ≡ get_or more i p → copied + 1 ≡ first + i → now ≡ before ++ letters_behind rules from to first (take i more)
    → new ≡ now ++ letters_behind rules from to (copied + 1) (p ∷ []) → new ≡ before ++ letters_behind rules from to first (take (i + 1) more)
copy_more rules from to first copied i before now new more p low is at was now_is =
    let next : i + 1 ≡ suc i = omega arith in
    let long : first + length (take i more) ≡ copied + 1 = let t = take_long more i (omega (arith, low)) in omega (arith, t, at) in
    now_is ∙ ap (λ l. l ++ letters_behind rules from to (copied + 1) (p ∷ [])) was
    ∙ append_assoc before (letters_behind rules from to first (take i more)) (letters_behind rules from to (copied + 1) (p ∷ []))
    ∙ ap (λ k. before ++ (letters_behind rules from to first (take i more) ++ letters_behind rules from to k (p ∷ []))) (sym long)
    ∙ ap (λ l. before ++ l) (sym (letters_further rules from to first (take i more) (p ∷ [])))
    ∙ ap (λ l. before ++ letters_behind rules from to first l) (sym (take_next more i p low is))
    ∙ ap (λ k. before ++ letters_behind rules from to first (take k more)) (sym next)
