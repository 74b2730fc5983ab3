-- Lists of a JSON report, sent one item after another.
use Rattle.std.proofs.Common.{◌≡◌, ℕ, suc, ◌+◌, ◌<◌, ◌≤◌, Some, Result, Ok, Err, OnOk, drop_of_length-le, List, [], ◌∷◌, get_or, length, drop, refl, sym, ap, subst, ◌∙◌, drop-cons, add-one, arith}
use Rattle.serde.specs.Event.{Log, Logs, seq_begins, seq_ends}
use Rattle.serde_json.specs.Data.{Data, Items, no_items, array}
use Rattle.serde_json.specs.Events.{items_len, SendsItems, SendsValue}
use Rattle.rp_report.specs.Json.{items_by, items_from}

pub items_len-by : {A : Type 0} (value : A → Data) (xs : List A) → items_len (items_by value xs) ≡ length xs
items_len-by value [] = refl
items_len-by value (x ∷ xs) = ap suc (items_len-by value xs)

pub items_len-from : {A : Type 0} (value : ℕ → A → Data) (n : ℕ) (xs : List A) → items_len (items_from value n xs) ≡ length xs
items_len-from value n [] = refl
items_len-from value n (x ∷ xs) = ap suc (items_len-from value (n + 1) xs)

-- whatever ends the items that are left well from here ends all of them well from the start
pub record EndsWell (all : Items) (start : Log) (left : Items) (now : Log) : Type 0 where
  pub ends : (last : Log) → SendsItems left now last → SendsItems all start last

pub at_start : (all : Items) (start : Log) → EndsWell all start all start
at_start all start = record { ends = λ last h. h }

opened : {A : Type 0} (xs : List A) (i : ℕ) (x : A) → i < length xs → x ≡ get_or xs i x → drop i xs ≡ x ∷ drop (i + 1) xs
opened xs i x inside is = rw add-one (drop-cons xs i x inside ∙ ap (λ y. y ∷ drop (suc i) xs) (sym is))

-- one item more was sent
pub one_more : {A : Type 0} (value : A → Data) (all : Items) (start now mid : Log) (xs : List A) (i : ℕ) (x : A)
    → i < length xs → x ≡ get_or xs i x → EndsWell all start (items_by value (drop i xs)) now → SendsValue (value x) now mid
    → EndsWell all start (items_by value (drop (i + 1) xs)) mid
one_more value all start now mid xs i x inside is before sent = record {
  ends = λ last h. before.ends last (subst (λ ys. SendsItems (items_by value ys) now last) (sym (opened xs i x inside is)) (mid, sent, h));
}

-- the same where items are numbered
pub one_more_numbered : {A : Type 0} (value : ℕ → A → Data) (all : Items) (start now mid : Log) (xs : List A) (i n : ℕ) (x : A)
    → i < length xs → x ≡ get_or xs i x → EndsWell all start (items_from value n (drop i xs)) now → SendsValue (value n x) now mid
    → EndsWell all start (items_from value (n + 1) (drop (i + 1) xs)) mid
one_more_numbered value all start now mid xs i n x inside is before sent = record {
  ends = λ last h. before.ends last (subst (λ ys. SendsItems (items_from value n ys) now last) (sym (opened xs i x inside is)) (mid, sent, h));
}

-- the items are all sent, between the marks of a list
abbrev InMarks : {T E : Type 0} → Result T E → Items → Log → Log → Type 0
InMarks r all old new = OnOk r (SendsValue (array all) old new)

marked : {T E : Type 0} (r : Result T E) (all : Items) (old start now new : Log) (n : ℕ) → Logs old start (seq_begins (Some n)) → n ≡ items_len all
    → EndsWell all start no_items now → OnOk r (Logs now new seq_ends) → InMarks r all old new
marked (Ok x) all old start now new n begins len before ends = (start, subst (λ k. Logs old start (seq_begins (Some k))) len begins, before.ends new ends)
marked (Err e) all old start now new n begins len before ends = tt

pub closes : {A T E : Type 0} (value : A → Data) (xs : List A) (i : ℕ) (r : Result T E) (old start now new : Log) (n : ℕ) → Logs old start (seq_begins (Some n)) → n ≡ length xs
    → length xs ≤ i → EndsWell (items_by value xs) start (items_by value (drop i xs)) now → OnOk r (Logs now new seq_ends) → OnOk r (SendsValue (array (items_by value xs)) old new)
closes {A} value xs i r old start now new n begins len past before ends =
    let none : drop i xs ≡ [] = drop_of_length-le xs past in
    marked r (items_by value xs) old start now new n begins (len ∙ sym (items_len-by value xs))
    (subst (λ (ys : List A). EndsWell (items_by value xs) start (items_by value ys) now) none before) ends

pub closes_numbered : {A T E : Type 0} (value : ℕ → A → Data) (first : ℕ) (xs : List A) (i m : ℕ) (r : Result T E) (old start now new : Log) (n : ℕ) → Logs old start (seq_begins (Some n)) → n ≡ length xs
    → length xs ≤ i → EndsWell (items_from value first xs) start (items_from value m (drop i xs)) now → OnOk r (Logs now new seq_ends) → OnOk r (SendsValue (array (items_from value first xs)) old new)
closes_numbered {A} value first xs i m r old start now new n begins len past before ends =
    let none : drop i xs ≡ [] = drop_of_length-le xs past in
    marked r (items_from value first xs) old start now new n begins (len ∙ sym (items_len-from value first xs))
    (subst (λ (ys : List A). EndsWell (items_from value first xs) start (items_from value m ys) now) none before) ends
