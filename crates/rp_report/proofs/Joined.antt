-- One text behind another.
use Rattle.std.proofs.Common.{◌≡◌, ℕ, List, ◌++◌, Result, OnOk, ◌∙◌, ap, append_assoc}
use Rattle.std.proofs.lemmas.Result.{IfOk-weaker}

-- what the last of two calls leaves, where the first one left its text behind the old one
pub joined : {T E : Type 0} (r : Result T E) (old mid new a b : List ℕ) → mid ≡ old ++ a → OnOk r (new ≡ mid ++ b) → OnOk r (new ≡ old ++ (a ++ b))
joined r old mid new a b first last = IfOk-weaker r _ _ (λ _ e. e ∙ ap (λ m. m ++ b) first ∙ append_assoc old a b) last
