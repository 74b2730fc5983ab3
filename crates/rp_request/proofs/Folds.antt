-- Folds of items.
use Rattle.std.proofs.Common.{◌≡◌, List, [], ◌∷◌, ◌++◌, Option, Some, None, option_and_then, refl}
use Rattle.rp_request.specs.declared.items.Place.{Place}
use Rattle.rp_request.specs.Items.{State, after_item, fold}

-- two steps that may end in nothing, joined from either side
in_turn : {A B C : Type 0} (f : A → Option B) (g : B → Option C) (o : Option A)
    → option_and_then (λ a. option_and_then g (f a)) o ≡ option_and_then g (option_and_then f o)
in_turn f g None = refl
in_turn f g (Some a) = refl

after : (s : Option State) (xs ys : List Place) → ((t : State) → fold t (xs ++ ys) ≡ option_and_then (λ u. fold u ys) (fold t xs))
    → option_and_then (λ t. fold t (xs ++ ys)) s ≡ option_and_then (λ u. fold u ys) (option_and_then (λ t. fold t xs) s)
after None xs ys h = refl
after (Some t) xs ys h = h t

pub fold_further : (s : State) (xs ys : List Place) → fold s (xs ++ ys) ≡ option_and_then (λ t. fold t ys) (fold s xs)
fold_further s [] ys = refl
fold_further s (x ∷ xs) ys = after (after_item s x) xs ys (λ t. fold_further t xs ys)
