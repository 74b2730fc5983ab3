-- The book: what it has of an attempt, and which attempt of a command it has last.
use Rattle.std.proofs.Common.{◌≡◌, ◌⊎◌, inl, inr, ⊎_elim, ℕ, zero, suc, ◌+◌, ◌-◌, Bool, true, false, cond, Option, None, Some, List, [], ◌∷◌, ◌++◌, length, map, refl, sym, ap, subst, ◌∙◌, arith, eqb-true}
use Rattle.std.specs.Prelude.{slice_get, ◌==◌, ◌&&◌}
use Rattle.std.specs.List.{filter, fold}
use Rattle.std.specs.BTreeMap.{insert_entry}
use Rattle.std.specs.Ordering.{match_ordering}
use Rattle.std.specs.declared.cmp.Ordering.{Ordering}
use Rattle.std.specs.declared.cmp.Ordering.TheVariants.{Less, Equal, Greater}
use Rattle.std.specs.Option.{option_map}
use Rattle.std.proofs.lemmas.Bool.{and_parts}
use Rattle.std.proofs.lemmas.List.{length-append, length-map}
use Rattle.std.proofs.lemmas.Option.{slice_get-map}
use Rattle.rp_base.specs.Ids.{cmd_cmp, same_id}
use Rattle.rp_base.specs.declared.ids.CmdId.{CmdId}
use Rattle.rp_base.proofs.IdLaws.{same_is, same_itself, same_back, cmd_equal_is}
use Rattle.rp_book.specs.declared.bookings.Booked.{Booked}
use Rattle.rp_book.specs.Books.{Book, booked, booking_of, last_of, is_of, latest_of, by_attempt}
use Rattle.rp_journals.proofs.Lists.{get_end}
use Rattle.rp_lawful.specs.Sound.{AreApart}

abbrev Entry : Type 0
Entry = CmdId × Booked

pub booked_here : (id : CmdId) (b : Booked) (book : Book) → booking_of id (booked id b book) ≡ Some b
booked_here id b [] = ap (λ v. cond v (Some b) None) (same_itself id)
booked_here id b (e ∷ es) = go (booked_here id b es) (same_id id e.0) refl where
  go : booking_of id (booked id b es) ≡ Some b → (v : Bool) → same_id id e.0 ≡ v → booking_of id (cond v ((e.0, b) ∷ es) (e ∷ booked id b es)) ≡ Some b
  go ih true is = ap (λ v. cond v (Some b) (booking_of id es)) is
  go ih false is = ap (λ v. cond v (Some e.1) (booking_of id (booked id b es))) is ∙ ih

pub booked_other : (id other : CmdId) (b : Booked) (book : Book) → same_id other id ≡ false → booking_of other (booked id b book) ≡ booking_of other book
booked_other id other b [] ne = ap (λ v. cond v (Some b) None) ne
booked_other id other b (e ∷ es) ne = go (booked_other id other b es ne) (same_id id e.0) refl where
  go : booking_of other (booked id b es) ≡ booking_of other es → (v : Bool) → same_id id e.0 ≡ v → booking_of other (cond v ((e.0, b) ∷ es) (e ∷ booked id b es)) ≡ booking_of other (e ∷ es)
  go ih true is =
      let apart : same_id other e.0 ≡ false = ap (same_id other) (sym (same_is id e.0 is)) ∙ ne in
      ap (λ v. cond v (Some b) (booking_of other es)) apart ∙ sym (ap (λ v. cond v (Some e.1) (booking_of other es)) apart)
  go ih false is = ap (cond (same_id other e.0) (Some e.1)) ih

pub booked_apart : (id : CmdId) (b : Booked) (book : Book) → AreApart book → AreApart (booked id b book)
booked_apart id b [] h = (refl, tt)
booked_apart id b (e ∷ es) h = go (booked_apart id b es h.1) (same_id id e.0) refl where
  go : AreApart (booked id b es) → (v : Bool) → same_id id e.0 ≡ v → AreApart (cond v ((e.0, b) ∷ es) (e ∷ booked id b es))
  go ih true is = (h.0, h.1)
  go ih false is = (booked_other id e.0 b es (same_back e.0 id ∙ is) ∙ h.0, ih)

some_not_none : {A : Type 0} (o : Option A) (a : A) → o ≡ Some a → o ≡ None → ⊥
some_not_none o a e f = absurd cc

-- what stands in a book is what the book has of it
pub booking_at : (book : Book) → AreApart book → (i : ℕ) (e : Entry) → slice_get book i ≡ Some e → booking_of e.0 book ≡ Some e.1
booking_at [] h i e at = absurd cc
booking_at (z ∷ es) h zero e at = subst (λ (y : Entry). booking_of y.0 (z ∷ es) ≡ Some y.1) (some_is z e at) (ap (λ v. cond v (Some z.1) (booking_of z.0 es)) (same_itself z.0)) where
  some_is : (x y : Entry) → ◌≡◌ {A = Option Entry} (Some x) (Some y) → x ≡ y
  some_is x y f = cc
booking_at (z ∷ es) h (suc i) e at = go (booking_at es h.1 i e at) (same_id e.0 z.0) refl where
  go : booking_of e.0 es ≡ Some e.1 → (v : Bool) → same_id e.0 z.0 ≡ v → cond (same_id e.0 z.0) (Some z.1) (booking_of e.0 es) ≡ Some e.1
  go more true is = absurd (some_not_none (booking_of e.0 es) e.1 more (ap (λ k. booking_of k es) (same_is e.0 z.0 is) ∙ h.0))
  go more false is = ap (λ v. cond v (Some z.1) (booking_of e.0 es)) is ∙ more

-- an item of a filtered list is one of the list, and passes
pub filtered_place : {X : Type 0} (t : X → Bool) (xs : List X) (i : ℕ) (x : X) → slice_get (filter t xs) i ≡ Some x → (place : ℕ) × (slice_get xs place ≡ Some x) × (t x ≡ true)
filtered_place t [] i x e = absurd cc
filtered_place {X} t (z ∷ xs) i x e = go (λ j. filtered_place t xs j x) (t z) refl i e where
  deeper : (place : ℕ) × (slice_get xs place ≡ Some x) × (t x ≡ true) → (place : ℕ) × (slice_get (z ∷ xs) place ≡ Some x) × (t x ≡ true)
  deeper k = (suc k.0, k.1, k.2)

  some_is : (a b : X) → ◌≡◌ {A = Option X} (Some a) (Some b) → a ≡ b
  some_is a b f = cc

  go : ((j : ℕ) → slice_get (filter t xs) j ≡ Some x → (place : ℕ) × (slice_get xs place ≡ Some x) × (t x ≡ true)) → (b : Bool) → t z ≡ b → (i : ℕ) → slice_get (cond b (z ∷ filter t xs) (filter t xs)) i ≡ Some x
      → (place : ℕ) × (slice_get (z ∷ xs) place ≡ Some x) × (t x ≡ true)
  go ih true is zero e' = (zero, e', subst (λ y. t y ≡ true) (some_is z x e') is)
  go ih true is (suc i) e' = deeper (ih i e')
  go ih false is i e' = deeper (ih i e')

-- the latest of a command is one of its attempts, as the book has it
pub record IsHad (book : Book) (client seq : ℕ) (e : Entry) : Type 0 where
  pub has : booking_of e.0 book ≡ Some e.1
  pub client_is : e.0.client ≡ client
  pub seq_is : e.0.seq ≡ seq

pub latest_had : (book : Book) → AreApart book → (client seq : ℕ) (e : Entry) → latest_of client seq book ≡ Some e → IsHad book client seq e
latest_had book h client seq e is =
    let k = filtered_place (is_of client seq) book (length (filter (is_of client seq) book) - 1) e is in
    let parts = and_parts (e.0.client == client) (e.0.seq == seq) k.2 in
    record { has = booking_at book h k.0 e k.1; client_is = eqb-true e.0.client client parts.0; seq_is = eqb-true e.0.seq seq parts.1 }

-- of a command that is not the attempt's the latest stays
pub latest_other : (id : CmdId) (b : Booked) (client seq : ℕ) (book : Book) → (id.client == client && id.seq == seq) ≡ false → filter (is_of client seq) (booked id b book) ≡ filter (is_of client seq) book
latest_other id b client seq [] ne = ap (λ v. cond v ((id, b) ∷ []) []) ne
latest_other id b client seq (e ∷ es) ne = go (latest_other id b client seq es ne) (same_id id e.0) refl where
  go : filter (is_of client seq) (booked id b es) ≡ filter (is_of client seq) es → (v : Bool) → same_id id e.0 ≡ v → filter (is_of client seq) (cond v ((e.0, b) ∷ es) (e ∷ booked id b es)) ≡ filter (is_of client seq) (e ∷ es)
  go ih true is =
      let out : (e.0.client == client && e.0.seq == seq) ≡ false = subst (λ (k : CmdId). (k.client == client && k.seq == seq) ≡ false) (same_is id e.0 is) ne in
      ap (λ v. cond v ((e.0, b) ∷ filter (is_of client seq) es) (filter (is_of client seq) es)) out ∙ sym (ap (λ v. cond v (e ∷ filter (is_of client seq) es) (filter (is_of client seq) es)) out)
  go ih false is = ap (λ more. cond (e.0.client == client && e.0.seq == seq) (e ∷ more) more) ih

-- an attempt that the book lacks stands behind all others
pub booked_new : (id : CmdId) (b : Booked) (book : Book) → booking_of id book ≡ None → booked id b book ≡ book ++ (id, b) ∷ []
booked_new id b [] none = refl
booked_new id b (e ∷ es) none = go (booked_new id b es) (same_id id e.0) refl none where
  go : (booking_of id es ≡ None → booked id b es ≡ es ++ (id, b) ∷ []) → (v : Bool) → same_id id e.0 ≡ v → cond v (Some e.1) (booking_of id es) ≡ None → cond v ((e.0, b) ∷ es) (e ∷ booked id b es) ≡ e ∷ (es ++ (id, b) ∷ [])
  go ih true is none' = absurd cc
  go ih false is none' = ap (λ l. e ∷ l) (ih none')

filter_end : {X : Type 0} (t : X → Bool) (xs : List X) (x : X) → t x ≡ true → filter t (xs ++ x ∷ []) ≡ filter t xs ++ x ∷ []
filter_end t [] x is = ap (λ v. cond v (x ∷ []) []) is
filter_end {X} t (z ∷ xs) x is = go (filter_end t xs x is) (t z) where
  go : filter t (xs ++ x ∷ []) ≡ filter t xs ++ x ∷ [] → (b : Bool) → cond b (z ∷ filter t (xs ++ x ∷ [])) (filter t (xs ++ x ∷ [])) ≡ cond b (z ∷ filter t xs) (filter t xs) ++ x ∷ []
  go ih true = ap (λ l. z ∷ l) ih
  go ih false = ih

last_end : {X : Type 0} (xs : List X) (x : X) → last_of (xs ++ x ∷ []) ≡ Some x
last_end xs x =
    let n : length (xs ++ x ∷ []) ≡ length xs + 1 = length-append xs (x ∷ []) in
    let at : length (xs ++ x ∷ []) - 1 ≡ length xs = omega (arith, n) in
    ap (slice_get (xs ++ x ∷ [])) at ∙ get_end xs x []

-- and is its command's latest
pub latest_new : (id : CmdId) (b : Booked) (book : Book) → booking_of id book ≡ None → (client seq : ℕ) → (id.client == client && id.seq == seq) ≡ true → latest_of client seq (booked id b book) ≡ Some (id, b)
latest_new id b book none client seq is =
    ap (λ l. last_of (filter (is_of client seq) l)) (booked_new id b book none)
    ∙ ap last_of (filter_end (is_of client seq) book (id, b) is)
    ∙ last_end (filter (is_of client seq) book) (id, b)

-- the ids of the attempts, in their order
abbrev ids_of : Book → List CmdId
ids_of book = map (λ (e : Entry). e.0) book

ids_stay : (id : CmdId) (b was : Booked) (book : Book) → booking_of id book ≡ Some was → ids_of (booked id b book) ≡ ids_of book
ids_stay id b was [] is = absurd cc
ids_stay id b was (e ∷ es) is = go (ids_stay id b was es) (same_id id e.0) is where
  go : (booking_of id es ≡ Some was → ids_of (booked id b es) ≡ ids_of es) → (v : Bool) → cond v (Some e.1) (booking_of id es) ≡ Some was → ids_of (cond v ((e.0, b) ∷ es) (e ∷ booked id b es)) ≡ ids_of (e ∷ es)
  go ih true is' = refl
  go ih false is' = ap (λ l. e.0 ∷ l) (ih is')

abbrev is_command : (client seq : ℕ) → CmdId → Bool
is_command client seq id = id.client == client && id.seq == seq

filter_ids : (client seq : ℕ) (book : Book) → ids_of (filter (is_of client seq) book) ≡ filter (is_command client seq) (ids_of book)
filter_ids client seq [] = refl
filter_ids client seq (e ∷ es) = go (filter_ids client seq es) (e.0.client == client && e.0.seq == seq) where
  go : ids_of (filter (is_of client seq) es) ≡ filter (is_command client seq) (ids_of es) → (v : Bool) → ids_of (cond v (e ∷ filter (is_of client seq) es) (filter (is_of client seq) es)) ≡ cond v (e.0 ∷ filter (is_command client seq) (ids_of es)) (filter (is_command client seq) (ids_of es))
  go ih true = ap (λ l. e.0 ∷ l) ih
  go ih false = ih

latest_id : (client seq : ℕ) (book : Book) → option_map (λ (e : Entry). e.0) (latest_of client seq book) ≡ last_of (filter (is_command client seq) (ids_of book))
latest_id client seq book =
    let es : List Entry = filter (is_of client seq) book in
    sym (slice_get-map (λ (e : Entry). e.0) es (length es - 1))
    ∙ ap (λ n. slice_get (ids_of es) (n - 1)) (sym (length-map es (λ (e : Entry). e.0)))
    ∙ ap last_of (filter_ids client seq book)

-- an attempt that the book has changes in its place: the latest of each command is of the same id
pub latest_stays : (id : CmdId) (b was : Booked) (book : Book) → booking_of id book ≡ Some was → (client seq : ℕ) (e : Entry) → latest_of client seq book ≡ Some e
    → (f : Entry) × (latest_of client seq (booked id b book) ≡ Some f) × (f.0 ≡ e.0)
latest_stays id b was book has client seq e is = go (latest_of client seq (booked id b book)) refl where
  same : option_map (λ (x : Entry). x.0) (latest_of client seq (booked id b book)) ≡ Some e.0
  same =
      latest_id client seq (booked id b book) ∙ ap (λ l. last_of (filter (is_command client seq) l)) (ids_stay id b was book has) ∙ sym (latest_id client seq book)
      ∙ ap (option_map (λ (x : Entry). x.0)) is

  go : (o : Option Entry) → latest_of client seq (booked id b book) ≡ o → (f : Entry) × (latest_of client seq (booked id b book) ≡ Some f) × (f.0 ≡ e.0)
  go None at = absurd (some_not_none (option_map (λ (x : Entry). x.0) (latest_of client seq (booked id b book))) e.0 same (ap (option_map (λ (x : Entry). x.0)) at))
  go (Some f) at = (f, at, some_is f.0 e.0 (sym (ap (option_map (λ (x : Entry). x.0)) at) ∙ same)) where
    some_is : (x y : CmdId) → ◌≡◌ {A = Option CmdId} (Some x) (Some y) → x ≡ y
    some_is x y g = cc

-- what an insertion leaves: the entry, and those before
inserted : (id : CmdId) (b : Booked) (es : Book) (i : ℕ) (e : Entry) → slice_get (insert_entry cmd_cmp es id b) i ≡ Some e → (e ≡ (id, b)) ⊎ ((place : ℕ) × (slice_get es place ≡ Some e))
inserted id b [] zero e at = inl (some_is e (id, b) at) where
  some_is : (x y : Entry) → ◌≡◌ {A = Option Entry} (Some y) (Some x) → x ≡ y
  some_is x y g = cc
inserted id b [] (suc i) e at = absurd cc
inserted id b (z ∷ es) i e at = go (λ j. inserted id b es j e) (cmd_cmp id z.0) refl i at where
  some_is : (x y : Entry) → ◌≡◌ {A = Option Entry} (Some y) (Some x) → x ≡ y
  some_is x y g = cc

  go : ((j : ℕ) → slice_get (insert_entry cmd_cmp es id b) j ≡ Some e → (e ≡ (id, b)) ⊎ ((place : ℕ) × (slice_get es place ≡ Some e)))
      → (o : Ordering) → cmd_cmp id z.0 ≡ o → (i : ℕ) → slice_get (match_ordering o ((id, b) ∷ z ∷ es) ((z.0, b) ∷ es) (z ∷ insert_entry cmd_cmp es id b)) i ≡ Some e
      → (e ≡ (id, b)) ⊎ ((place : ℕ) × (slice_get (z ∷ es) place ≡ Some e))
  go ih Less is zero at' = inl (some_is e (id, b) at')
  go ih Less is (suc i) at' = inr (i, at')
  go ih Equal is zero at' = inl (some_is e (z.0, b) at' ∙ ap (λ (k : CmdId). (k, b)) (sym (cmd_equal_is id z.0 is)))
  go ih Equal is (suc i) at' = inr (suc i, at')
  go ih Greater is zero at' = inr (zero, at')
  go ih Greater is (suc i) at' = ⊎_elim (λ (same : e ≡ (id, b)). inl same) (λ (k : (place : ℕ) × (slice_get es place ≡ Some e)). inr (suc k.0, k.1)) (ih i at')

sorted_from : (es sorted : Book) (P : Entry → Type 0) → ((i : ℕ) (e : Entry) → slice_get es i ≡ Some e → P e) → ((i : ℕ) (e : Entry) → slice_get sorted i ≡ Some e → P e)
    → (i : ℕ) (e : Entry) → slice_get (fold (λ (s : Book) (x : Entry). insert_entry cmd_cmp s x.0 x.1) sorted es) i ≡ Some e → P e
sorted_from [] sorted P each before i e at = before i e at
sorted_from (z ∷ es) sorted P each before i e at =
    sorted_from es (insert_entry cmd_cmp sorted z.0 z.1) P (λ j f is. each (suc j) f is)
    (λ j f is. ⊎_elim (λ (same : f ≡ (z.0, z.1)). subst P (sym same) (each zero z refl)) (λ (k : (place : ℕ) × (slice_get sorted place ≡ Some f)). before k.0 f k.1) (inserted z.0 z.1 sorted j f is))
    i e at

-- what stands in the book by attempt is what the book has of it
pub by_attempt_had : (book : Book) → AreApart book → (i : ℕ) (e : Entry) → slice_get (by_attempt book) i ≡ Some e → booking_of e.0 book ≡ Some e.1
by_attempt_had book h i e at =
    sorted_from book [] (λ (x : Entry). booking_of x.0 book ≡ Some x.1) (λ j f is. booking_at book h j f is) (λ j f is. absurd (nothing j f is)) i e at where
      nothing : (j : ℕ) (f : Entry) → ◌≡◌ {A = Option Entry} (slice_get [] j) (Some f) → ⊥
      nothing j f is = cc
