-- The attempts in order, from their ids in order.
use Rattle.std.proofs.Common.{◌≡◌, Bool, true, false, cond, [], ◌∷◌, ◌++◌, Option, None, Some, refl, sym, ap, subst, ◌∙◌}
use Rattle.std.specs.BTreeMap.{insert_entry}
use Rattle.std.specs.List.{IsDistinct, fold}
use Rattle.std.specs.Map.{keys_of}
use Rattle.std.specs.Option.{option_map_or}
use Rattle.std.specs.Ordering.{match_ordering}
use Rattle.std.specs.declared.cmp.Ordering.{Ordering}
use Rattle.std.specs.declared.cmp.Ordering.TheVariants.{Less, Equal, Greater}
use Rattle.rp_base.specs.Ids.{cmd_cmp, same_id}
use Rattle.rp_base.specs.declared.ids.CmdId.{CmdId}
use Rattle.rp_base.proofs.IdLaws.{cmd_equal_is, same_is, same_itself}
use Rattle.rp_book.specs.declared.bookings.Booked.{Booked}
use Rattle.rp_book.specs.Books.{Book, booking_of, by_attempt}
use Rattle.rp_book.specs.Keeping.{Keeps, bookings, entries_of, in_order}
use Rattle.rp_book.proofs.Entries.{ids_sorted, keys_of_bookings}
use Rattle.rp_book.proofs.Latest.{AreApart, apart_from}

-- the book has this entry
abbrev IsHad : Book → CmdId × Booked → Type 0
IsHad book e = booking_of e.0 book ≡ Some e.1

-- the book has each of these entries
abbrev AllHad : Book → Book → Type 0
AllHad book [] = Unit {0}
AllHad book (e ∷ es) = IsHad book e × AllHad book es

had_inserted : (book : Book) (id : CmdId) (b : Booked) (es : Book) → booking_of id book ≡ Some b → AllHad book es → AllHad book (insert_entry cmd_cmp es id b)
had_inserted book id b [] h all = (h, tt)
had_inserted book id b (e ∷ es) h all = go (cmd_cmp id e.0) refl (had_inserted book id b es h all.1) where
  go : (o : Ordering) → cmd_cmp id e.0 ≡ o → AllHad book (insert_entry cmd_cmp es id b) → AllHad book (match_ordering o ((id, b) ∷ e ∷ es) ((e.0, b) ∷ es) (e ∷ insert_entry cmd_cmp es id b))
  go Less o more = (h, all)
  go Equal o more = (subst (λ x. booking_of x book ≡ Some b) (cmd_equal_is id e.0 o) h, all.1)
  go Greater o more = (all.0, more)

had_folded : (book done es : Book) → AllHad book done → AllHad book es → AllHad book (fold (λ sorted e. insert_entry cmd_cmp sorted e.0 e.1) done es)
had_folded book done [] had all = had
had_folded book done (e ∷ es) had all = had_folded book (insert_entry cmd_cmp done e.0 e.1) es (had_inserted book e.0 e.1 done all.0 had) all.1

-- what a book has behind an entry that is apart from it, it has with it
some_not_none : {A : Type 0} (o : Option A) (a : A) → o ≡ Some a → o ≡ None → ⊥
some_not_none o a e f = absurd cc

had_with : (e : CmdId × Booked) (rest es : Book) → booking_of e.0 rest ≡ None → AllHad rest es → AllHad (e ∷ rest) es
had_with e rest [] none all = tt
had_with e rest (x ∷ es) none all = (go (same_id x.0 e.0) refl, had_with e rest es none all.1) where
  go : (v : Bool) → same_id x.0 e.0 ≡ v → cond (same_id x.0 e.0) (Some e.1) (booking_of x.0 rest) ≡ Some x.1
  go true is = absurd (some_not_none (booking_of x.0 rest) x.1 all.0 (ap (λ k. booking_of k rest) (same_is x.0 e.0 is) ∙ none))
  go false is = ap (λ v. cond v (Some e.1) (booking_of x.0 rest)) is ∙ all.0

had_itself : (book : Book) → AreApart book → AllHad book book
had_itself [] apart = tt
had_itself (e ∷ es) apart = (ap (λ v. cond v (Some e.1) (booking_of e.0 es)) (same_itself e.0), had_with e es es apart.0 (had_itself es apart.1))

-- entries that the book has come back from their ids
entries_back : (book es : Book) → AllHad book es → entries_of book (keys_of es) ≡ es
entries_back book [] all = refl
entries_back book (e ∷ es) all =
    ap (λ o. option_map_or (λ b. (e.0, b) ∷ []) o [] ++ entries_of book (keys_of es)) all.0 ∙ ap (λ l. e ∷ l) (entries_back book es all.1)

pub entries_in_order : (es : Keeps) → IsDistinct same_id (keys_of es) → entries_of (bookings es) (in_order (keys_of es)) ≡ by_attempt (bookings es)
entries_in_order es d =
    let book : Book = bookings es in
    ap (entries_of (bookings es)) (ap in_order (sym (keys_of_bookings es)) ∙ sym (ids_sorted [] (bookings es)))
    ∙ entries_back (bookings es) (by_attempt (bookings es)) (had_folded (bookings es) [] (bookings es) tt (had_itself (bookings es) (apart_from es d)))
