-- The last attempt that the book got of a command, by the ids of its attempts.
use Rattle.std.proofs.Common.{◌≡◌, ℕ, zero, suc, ◌-◌, Bool, true, false, cond, Option, None, Some, List, [], ◌∷◌, ◌++◌, length, map, refl, sym, ap, subst, ◌∙◌, arith, eqb-true, option_and_then}
use Rattle.std.specs.Prelude.{slice_get, ◌==◌, ◌&&◌}
use Rattle.std.specs.List.{filter, AllByRecursion, IsDistinct}
use Rattle.std.specs.Map.{lookup, keys_of}
use Rattle.std.specs.Option.{option_map}
use Rattle.std.proofs.lemmas.Bool.{and_parts}
use Rattle.std.proofs.lemmas.List.{length-map, length_push}
use Rattle.std.proofs.lemmas.List.Elements.{filter-append}
use Rattle.std.proofs.lemmas.Option.{slice_get-map}
use Rattle.rp_base.specs.Ids.{same_id}
use Rattle.rp_base.specs.declared.ids.CmdId.{CmdId}
use Rattle.rp_base.proofs.IdLaws.{same_is, same_itself, id_by_parts}
use Rattle.rp_book.specs.declared.bookings.Booked.{Booked}
use Rattle.rp_book.specs.declared.keeps.Command.{Command}
use Rattle.rp_book.specs.Books.{Book, booking_of, last_of, is_of, latest_of}
use Rattle.rp_book.specs.Keeping.{Keeps, booking_in, bookings, latest_in, is_command, IsIndexed}

abbrev Entry : Type 0
Entry = CmdId × Booked

-- no attempt stands twice in a book
abbrev pub AreApart : Book → Type 0
AreApart [] = Unit {0}
AreApart (e ∷ es) = (booking_of e.0 es ≡ None) × AreApart es

none_below : (id : CmdId) (es : Keeps) → AllByRecursion (λ y. same_id id y ≡ false) (keys_of es) → booking_of id (bookings es) ≡ None
none_below id [] a = refl
none_below id (e ∷ es) a = ap (λ b. cond b (Some (booking_in e.1)) (booking_of id (bookings es))) a.0 ∙ none_below id es a.1

pub apart_from : (es : Keeps) → IsDistinct same_id (keys_of es) → AreApart (bookings es)
unfolding IsDistinct
apart_from [] d = tt
apart_from (e ∷ es) d = (none_below e.0 es d.0, apart_from es d.1)

some_not_none : {A : Type 0} (o : Option A) (a : A) → o ≡ Some a → o ≡ None → ⊥
some_not_none o a e f = absurd cc

-- what stands in a book is what the book has of it
pub booking_at : (book : Book) → AreApart book → (i : ℕ) (e : Entry) → slice_get book i ≡ Some e → booking_of e.0 book ≡ Some e.1
booking_at [] h i e at = absurd cc
booking_at (z ∷ es) h zero e at = subst (λ (y : Entry). booking_of y.0 (z ∷ es) ≡ Some y.1) (some_is z e at) (ap (λ v. cond v (Some z.1) (booking_of z.0 es)) (same_itself z.0)) where
  some_is : (x y : Entry) → ◌≡◌ {A = Option Entry} (Some x) (Some y) → x ≡ y
  some_is x y f = cc
booking_at (z ∷ es) h (suc i) e at = go (same_id e.0 z.0) refl (booking_at es h.1 i e at) where
  go : (v : Bool) → same_id e.0 z.0 ≡ v → booking_of e.0 es ≡ Some e.1 → cond (same_id e.0 z.0) (Some z.1) (booking_of e.0 es) ≡ Some e.1
  go true is more = absurd (some_not_none (booking_of e.0 es) e.1 more (ap (λ k. booking_of k es) (same_is e.0 z.0 is) ∙ h.0))
  go false is more = ap (λ v. cond v (Some z.1) (booking_of e.0 es)) is ∙ more

-- an item of a filtered list is one of the list, and passes
pub filtered_place : {X : Type 0} (t : X → Bool) (xs : List X) (i : ℕ) (x : X) → slice_get (filter t xs) i ≡ Some x → (place : ℕ) × (slice_get xs place ≡ Some x) × (t x ≡ true)
filtered_place t [] i x e = absurd cc
filtered_place {X} t (z ∷ xs) i x e = go (t z) refl e (λ i e'. filtered_place t xs i x e') where
  deeper : (place : ℕ) × (slice_get xs place ≡ Some x) × (t x ≡ true) → (place : ℕ) × (slice_get (z ∷ xs) place ≡ Some x) × (t x ≡ true)
  deeper k = (suc k.0, k.1, k.2)

  some_is : (a b : X) → ◌≡◌ {A = Option X} (Some a) (Some b) → a ≡ b
  some_is a b f = cc

  kept : (i : ℕ) → t z ≡ true → slice_get (z ∷ filter t xs) i ≡ Some x
      → ((i : ℕ) → slice_get (filter t xs) i ≡ Some x → (place : ℕ) × (slice_get xs place ≡ Some x) × (t x ≡ true))
      → (place : ℕ) × (slice_get (z ∷ xs) place ≡ Some x) × (t x ≡ true)
  kept zero is e' below = (zero, e', subst (λ y. t y ≡ true) (some_is z x e') is)
  kept (suc i) is e' below = deeper (below i e')

  go : (b : Bool) → t z ≡ b → slice_get (cond b (z ∷ filter t xs) (filter t xs)) i ≡ Some x
      → ((i : ℕ) → slice_get (filter t xs) i ≡ Some x → (place : ℕ) × (slice_get xs place ≡ Some x) × (t x ≡ true))
      → (place : ℕ) × (slice_get (z ∷ xs) place ≡ Some x) × (t x ≡ true)
  go true is e' below = kept i is e' below
  go false is e' below = deeper (below i e')

-- the ids of the attempts, in their order
abbrev ids_of : Book → List CmdId
ids_of book = map (λ (e : Entry). e.0) book

abbrev is_one : (client seq : ℕ) → CmdId → Bool
is_one client seq id = id.client == client && id.seq == seq

filter_ids : (client seq : ℕ) (book : Book) → ids_of (filter (is_of client seq) book) ≡ filter (is_one client seq) (ids_of book)
filter_ids client seq [] = refl
filter_ids client seq (e ∷ es) = go (e.0.client == client && e.0.seq == seq) (filter_ids client seq es) where
  go : (v : Bool) → ids_of (filter (is_of client seq) es) ≡ filter (is_one client seq) (ids_of es) → ids_of (cond v (e ∷ filter (is_of client seq) es) (filter (is_of client seq) es)) ≡ cond v (e.0 ∷ filter (is_one client seq) (ids_of es)) (filter (is_one client seq) (ids_of es))
  go true more = ap (λ l. e.0 ∷ l) more
  go false more = more

latest_id : (client seq : ℕ) (book : Book) → option_map (λ (e : Entry). e.0) (latest_of client seq book) ≡ last_of (filter (is_one client seq) (ids_of book))
latest_id client seq book =
    let es : List Entry = filter (is_of client seq) book in
    sym (slice_get-map (λ (e : Entry). e.0) es (length es - 1))
    ∙ ap (λ n. slice_get (ids_of es) (n - 1)) (sym (length-map es (λ (e : Entry). e.0)))
    ∙ ap last_of (filter_ids client seq book)

keys_are : (es : Keeps) → ids_of (bookings es) ≡ keys_of es
keys_are [] = refl
keys_are (e ∷ es) = ap (λ l. e.0 ∷ l) (keys_are es)

-- the latest attempt is found by its number
pub latest_found : (es : Keeps) → IsDistinct same_id (keys_of es) → (client seq : ℕ) (found : Option ℕ)
    → option_map (λ id. id.attempt) (latest_in client seq (keys_of es)) ≡ found
    → latest_of client seq (bookings es)
    ≡ option_and_then (λ a. option_map (λ b. (record { client = client; seq = seq; attempt = a }, b)) (booking_of (record { client = client; seq = seq; attempt = a }) (bookings es))) found
latest_found es d client seq found is = go (latest_of client seq (bookings es)) refl found
    (ap (option_map (λ (id : CmdId). id.attempt)) (latest_id client seq (bookings es) ∙ ap (λ ids. last_of (filter (is_one client seq) ids)) (keys_are es)) ∙ is)
  where
    at : ℕ → CmdId
    at a = record { client = client; seq = seq; attempt = a }

    found_at : ℕ → Option Entry
    found_at a = option_map (λ b. (at a, b)) (booking_of (at a) (bookings es))

    some_nat : (a b : ℕ) → ◌≡◌ {A = Option ℕ} (Some a) (Some b) → a ≡ b
    some_nat a b e = cc

    the : (e : Entry) (a : ℕ) → latest_of client seq (bookings es) ≡ Some e → e.0.attempt ≡ a → ◌≡◌ {A = Option Entry} (Some e) (found_at a)
    the e a l n =
        let k = filtered_place (is_of client seq) (bookings es) (length (filter (is_of client seq) (bookings es)) - 1) e l in
        let parts = and_parts (e.0.client == client) (e.0.seq == seq) k.2 in
        let id : e.0 ≡ at a = id_by_parts e.0 (at a) (eqb-true e.0.client client parts.0) (eqb-true e.0.seq seq parts.1) n in
        let has : booking_of e.0 (bookings es) ≡ Some e.1 = booking_at (bookings es) (apart_from es d) k.0 e k.1 in
        sym (subst (λ x. option_map (λ b. (x, b)) (booking_of x (bookings es)) ≡ Some e) id (ap (option_map (λ b. (e.0, b))) has))

    go : (o : Option Entry) → latest_of client seq (bookings es) ≡ o → (f : Option ℕ) → option_map (λ id. id.attempt) (option_map (λ (e : Entry). e.0) (latest_of client seq (bookings es))) ≡ f
        → latest_of client seq (bookings es) ≡ option_and_then found_at f
    go None l None n = l
    go None l (Some a) n = absurd (some_not_none _ a n (ap (λ o. option_map (λ (id : CmdId). id.attempt) (option_map (λ (e : Entry). e.0) o)) l))
    go (Some e) l None n = absurd (some_not_none _ e.0.attempt (ap (λ o. option_map (λ (id : CmdId). id.attempt) (option_map (λ (e : Entry). e.0) o)) l) n)
    go (Some e) l (Some a) n = l ∙ the e a l (some_nat e.0.attempt a (sym (ap (λ o. option_map (λ (id : CmdId). id.attempt) (option_map (λ (e : Entry). e.0) o)) l) ∙ n))

get_end : {X : Type 0} (xs : List X) (x : X) → slice_get (xs ++ x ∷ []) (length xs) ≡ Some x
get_end [] x = refl
get_end (y ∷ ys) x = get_end ys x

last_push : {X : Type 0} (xs : List X) (x : X) → last_of (xs ++ x ∷ []) ≡ Some x
last_push xs x = ap (slice_get (xs ++ x ∷ [])) (let l = length_push xs x in omega (arith, l)) ∙ get_end xs x

append_none : {X : Type 0} (xs : List X) → xs ++ [] ≡ xs
append_none [] = refl
append_none (x ∷ xs) = ap (λ l. x ∷ l) (append_none xs)

-- a new attempt is its command's last one
latest_push : (client seq : ℕ) (ids : List CmdId) (id : CmdId)
    → option_map (λ x. x.attempt) (latest_in client seq (ids ++ id ∷ [])) ≡ cond (id.client == client && id.seq == seq) (Some id.attempt) (option_map (λ x. x.attempt) (latest_in client seq ids))
latest_push client seq ids id =
    ap (λ l. option_map (λ x. x.attempt) (last_of l)) (filter-append (is_one client seq) ids (id ∷ [])) ∙ go (id.client == client && id.seq == seq)
  where
    go : (b : Bool) → option_map (λ x. x.attempt) (last_of (filter (is_one client seq) ids ++ cond b (id ∷ []) [])) ≡ cond b (Some id.attempt) (option_map (λ x. x.attempt) (latest_in client seq ids))
    go true = ap (option_map (λ (x : CmdId). x.attempt)) (last_push (filter (is_one client seq) ids) id)
    go false = ap (λ l. option_map (λ (x : CmdId). x.attempt) (last_of l)) (append_none (filter (is_one client seq) ids))

pub indexed_push : (ids ids' : List CmdId) (id : CmdId) (latest latest' : List (Command × ℕ)) → IsIndexed ids latest → ids' ≡ ids ++ id ∷ [] → IsDistinct same_id ids'
    → ((client seq : ℕ) → lookup (is_command client seq) latest' ≡ cond (id.client == client && id.seq == seq) (Some id.attempt) (lookup (is_command client seq) latest))
    → IsIndexed ids' latest'
indexed_push ids ids' id latest latest' h new d noted = record {
  distinct = d;
  indexed = λ client seq.
      ap (λ l. option_map (λ (x : CmdId). x.attempt) (latest_in client seq l)) new
      ∙ latest_push client seq ids id
      ∙ ap (cond (id.client == client && id.seq == seq) (Some id.attempt)) (h.indexed client seq)
      ∙ sym (noted client seq);
}
