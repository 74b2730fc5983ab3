-- A collect is made of its steps.
use Rattle.std.proofs.Common.{◌≡◌, ℕ, zero, suc, ◌+◌, Bool, true, false, if◌then◌else◌, List, [], ◌∷◌, ◌++◌, length, take, map, get_or, set, filter_map, Some, None, refl, ap, sym, ◌∙◌, subst, append_assoc, append-nil}
use Rattle.std.specs.Option.{option_to_list}
use Rattle.std.specs.List.{list_all}
use Rattle.rp_base.specs.Limits.{buffer_capacity}
use Rattle.rp_base.specs.declared.items.Item.{Item}
use Rattle.rp_bufcore.specs.declared.buffers.Slot.{Slot}
use Rattle.rp_bufcore.specs.declared.buffers.Slot.TheVariants.{Free, Drawn, Published, Taken}
use Rattle.rp_bufcore.specs.Buffers.{Buffer, start, published, given, taken, is_taken, after_collect}
use Rattle.rp_bufcore.specs.Steps.{after_close, take_answer, after_take, after_reopen, after_takes, had_by_takes, CollectIsSteps}

-- the same on the list of places
abbrev below : ℕ → List Slot → List Slot
below zero xs = xs
below (suc n) xs = set (below n xs) n (taken (get_or (below n xs) n Free))

abbrev had : ℕ → List Slot → List Item
had zero xs = []
had (suc n) xs = had n xs ++ option_to_list (published (get_or (below n xs) n Free))

-- the first place apart
peel : (n : ℕ) (x : Slot) (xs : List Slot) → below (suc n) (x ∷ xs) ≡ taken x ∷ below n xs
peel zero x xs = refl
peel (suc n) x xs = ap (λ ys. set ys (suc n) (taken (get_or ys (suc n) Free))) (peel n x xs)

had_peel : (n : ℕ) (x : Slot) (xs : List Slot) → had (suc n) (x ∷ xs) ≡ option_to_list (published x) ++ had n xs
had_peel zero x xs = sym (append-nil (option_to_list (published x)))
had_peel (suc n) x xs =
    (λ i. had_peel n x xs i ++ option_to_list (published (get_or (peel n x xs i) (suc n) Free)))
    ∙ append_assoc (option_to_list (published x)) (had n xs) (option_to_list (published (get_or (below n xs) n Free)))

below_all : (xs : List Slot) → below (length xs) xs ≡ map taken xs
below_all [] = refl
below_all (x ∷ xs) = peel (length xs) x xs ∙ ap (λ ys. taken x ∷ ys) (below_all xs)

filtered : (x : Slot) (xs : List Slot) → option_to_list (published x) ++ filter_map published xs ≡ filter_map published (x ∷ xs)
filtered Free xs = refl
filtered Drawn xs = refl
filtered (Published item) xs = refl
filtered Taken xs = refl

had_all : (xs : List Slot) → had (length xs) xs ≡ filter_map published xs
had_all [] = refl
had_all (x ∷ xs) = had_peel (length xs) x xs ∙ ap (λ ys. option_to_list (published x) ++ ys) (had_all xs) ∙ filtered x xs

takes_are : (n : ℕ) (b : Buffer) → after_takes n b ≡ record { is_open = b.is_open; drawn = b.drawn; slots = below n b.slots }
takes_are zero b = refl
takes_are (suc n) b = ap (λ z. after_take z n) (takes_are n b)

had_are : (n : ℕ) (b : Buffer) → had_by_takes n b ≡ had n b.slots
had_are zero b = refl
had_are (suc n) b = λ i. had_are n b i ++ option_to_list (take_answer (takes_are n b i) n)

pub collect_is_steps : CollectIsSteps
collect_is_steps b long =
    let closed = after_close b in
    let slots : below buffer_capacity b.slots ≡ map taken b.slots = subst (λ n. below n b.slots ≡ map taken b.slots) long (below_all b.slots) in
    let items : had buffer_capacity b.slots ≡ filter_map published b.slots = subst (λ n. had n b.slots ≡ filter_map published b.slots) long (had_all b.slots) in
    let states : after_takes buffer_capacity closed ≡ record { is_open = false; drawn = b.drawn; slots = map taken b.slots } =
    takes_are buffer_capacity closed ∙ ap (λ (ys : List Slot). record { is_open = false; drawn = b.drawn; slots = ys }) slots in
    (sym (ap after_reopen states), sym (had_are buffer_capacity closed ∙ items))
