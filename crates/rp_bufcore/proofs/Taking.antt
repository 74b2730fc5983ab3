-- The loop that takes what is published, place after place.
use Rattle.std.proofs.Common.{◌≡◌, ℕ, ◌+◌, ◌<◌, ◌≤◌, List, [], ◌∷◌, ◌++◌, length, get_or, set, take, drop, map, filter_map, ap, sym, ◌∙◌, append_assoc, arith}
use Rattle.std.specs.Option.{option_to_list}
use Rattle.std.proofs.lemmas.List.{take_more, take_more_set, drop_more, drop-set-lt, map-append}
use Rattle.std.proofs.lemmas.List.Elements.{filter_map-append}
use Rattle.std.proofs.lemmas.Grind.{drop_more_same}
use Rattle.rp_base.specs.declared.items.Item.{Item}
use Rattle.rp_bufcore.specs.declared.buffers.Slot.{Slot}
use Rattle.rp_bufcore.specs.declared.buffers.Slot.TheVariants.{Free, Drawn, Published, Taken}
use Rattle.rp_bufcore.specs.Buffers.{published, taken}

-- the first i of these places were taken, the rest are as they were, and the items were put out
pub record Half (first : List Slot) (old : List Item) (i : ℕ) (slots : List Slot) (new : List Item) : Type 0 where
  pub front : take i slots ≡ map taken (take i first)
  pub rest : drop i slots ≡ drop i first
  pub given : new ≡ old ++ filter_map published (take i first)

-- one place more
filter_map_one : (xs : List Slot) (x : Slot) → filter_map published (xs ++ x ∷ []) ≡ filter_map published xs ++ option_to_list (published x)
filter_map_one xs Free = filter_map-append published xs (Free ∷ [])
filter_map_one xs Drawn = filter_map-append published xs (Drawn ∷ [])
filter_map_one xs (Published item) = filter_map-append published xs (Published item ∷ [])
filter_map_one xs Taken = filter_map-append published xs (Taken ∷ [])

pub half_more : (first : List Slot) (old : List Item) (i : ℕ) (slots : List Slot) (new : List Item) (d x : Slot)
    → Half first old i slots new → i < length slots → length first ≡ length slots → x ≡ get_or slots i d
    → Half first old (i + 1) (set slots i (taken x)) (new ++ option_to_list (published x))
half_more first old i slots new d x half within same item =
    let here : drop i slots ≡ get_or slots i d ∷ drop (i + 1) slots = drop_more slots i d within in
    let inside : i < length first = omega arith in
    let there : drop i first ≡ get_or first i d ∷ drop (i + 1) first = drop_more first i d inside in
    let is_x : get_or first i d ≡ x = let rest = half.rest in cc in
    let longer : take (i + 1) first ≡ take i first ++ x ∷ [] = take_more first i d inside ∙ ap (λ y. take i first ++ y ∷ []) is_x in
    record {
      front = take_more_set slots i (taken x) within ∙ ap (λ ys. ys ++ taken x ∷ []) half.front ∙ sym (map-append taken (take i first) (x ∷ [])) ∙ ap (map taken) (sym longer);
      rest = drop-set-lt (i + 1) slots i (taken x) (omega arith) ∙ drop_more_same slots first i half.rest;
      given = ap (λ ys. ys ++ option_to_list (published x)) half.given ∙ append_assoc old (filter_map published (take i first)) (option_to_list (published x))
          ∙ ap (λ ys. old ++ ys) (sym (filter_map_one (take i first) x)) ∙ ap (λ ys. old ++ filter_map published ys) (sym longer);
    }

-- no more are published than there are places
pub published_within : (xs : List Slot) → length (filter_map published xs) ≤ length xs
published_within [] = omega arith
published_within (Free ∷ xs) = let more = published_within xs in omega arith
published_within (Drawn ∷ xs) = let more = published_within xs in omega arith
published_within (Published item ∷ xs) = let more = published_within xs in omega arith
published_within (Taken ∷ xs) = let more = published_within xs in omega arith
