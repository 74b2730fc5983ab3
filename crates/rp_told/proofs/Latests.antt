-- An attempt that is not the latest of its command never is again.
use Rattle.std.proofs.Common.{◌≡◌, ℕ, zero, suc, ◌-◌, Bool, true, false, cond, Option, None, Some, List, [], ◌∷◌, ◌++◌, length, map, refl, sym, ap, ◌∙◌}
use Rattle.std.specs.Prelude.{is_some, filter, slice_get, ◌==◌, ◌&&◌}
use Rattle.std.specs.Option.{option_map, option_map_or}
use Rattle.std.proofs.lemmas.List.{length-map}
use Rattle.std.proofs.lemmas.List.Elements.{filter-append}
use Rattle.rp_base.specs.Ids.{same_id}
use Rattle.rp_base.specs.declared.ids.CmdId.{CmdId}
use Rattle.rp_base.proofs.IdLaws.{same_is}
use Rattle.rp_book.specs.declared.bookings.Booked.{Booked}
use Rattle.rp_book.specs.Books.{Book, booked, booking_of, last_of, is_of, latest_of}
use Rattle.rp_lines.specs.Players.{Player, with_booking}
use Rattle.rp_lines.specs.Settling.{is_latest}
use Rattle.rp_told.proofs.Finding.{last_push}

-- the ids of a command's attempts
abbrev keys_of : (client seq : ℕ) → Book → List CmdId
keys_of client seq book = map (λ e. e.0) (filter (is_of client seq) book)

-- what stands already keeps its place
keys_kept : (client seq : ℕ) (id : CmdId) (b : Booked) (book : Book) → is_some (booking_of id book) ≡ true → keys_of client seq (booked id b book) ≡ keys_of client seq book
keys_kept client seq id b [] e = absurd cc
keys_kept client seq id b (x ∷ book) e = go (same_id id x.0) e (keys_kept client seq id b book) where
  by_test : (t : Bool) (front : CmdId × Booked) (es fs : Book) → map (λ (z : CmdId × Booked). z.0) es ≡ map (λ (z : CmdId × Booked). z.0) fs → (c : Booked)
      → map (λ (z : CmdId × Booked). z.0) (cond t ((front.0, c) ∷ es) es) ≡ map (λ (z : CmdId × Booked). z.0) (cond t (front ∷ fs) fs)
  by_test true front es fs same c = ap (λ l. front.0 ∷ l) same
  by_test false front es fs same c = same

  go : (t : Bool) → is_some (cond t (Some x.1) (booking_of id book)) ≡ true → (is_some (booking_of id book) ≡ true → keys_of client seq (booked id b book) ≡ keys_of client seq book)
      → keys_of client seq (cond t ((x.0, b) ∷ book) (x ∷ booked id b book)) ≡ keys_of client seq (x ∷ book)
  go true e' ih = by_test (x.0.client == client && x.0.seq == seq) x (filter (is_of client seq) book) (filter (is_of client seq) book) refl b
  go false e' ih = by_test (x.0.client == client && x.0.seq == seq) x (filter (is_of client seq) (booked id b book)) (filter (is_of client seq) book) (ih e') x.1

-- what is new stands behind all others
behind_all : (id : CmdId) (b : Booked) (book : Book) → is_some (booking_of id book) ≡ false → booked id b book ≡ book ++ (id, b) ∷ []
behind_all id b [] e = refl
behind_all id b (x ∷ book) e = go (same_id id x.0) e (behind_all id b book) where
  go : (t : Bool) → is_some (cond t (Some x.1) (booking_of id book)) ≡ false → (is_some (booking_of id book) ≡ false → booked id b book ≡ book ++ (id, b) ∷ [])
      → cond t ((x.0, b) ∷ book) (x ∷ booked id b book) ≡ x ∷ (book ++ (id, b) ∷ [])
  go true e' ih = absurd cc
  go false e' ih = ap (λ l. x ∷ l) (ih e')

-- the id of the last one
get_key : (es : Book) (i : ℕ) → option_map (λ (e : CmdId × Booked). e.0) (slice_get es i) ≡ slice_get (map (λ (e : CmdId × Booked). e.0) es) i
get_key [] i = refl
get_key (e ∷ es) zero = refl
get_key (e ∷ es) (suc i) = get_key es i

last_key : (es : Book) → option_map (λ (e : CmdId × Booked). e.0) (last_of es) ≡ last_of (map (λ (e : CmdId × Booked). e.0) es)
last_key es = get_key es (length es - 1) ∙ ap (λ n. slice_get (map (λ (e : CmdId × Booked). e.0) es) (n - 1)) (sym (length-map es (λ (e : CmdId × Booked). e.0)))

by_key : (id : CmdId) (o : Option (CmdId × Booked)) → option_map_or (λ (e : CmdId × Booked). same_id e.0 id) o false ≡ option_map_or (λ (k : CmdId). same_id k id) (option_map (λ (e : CmdId × Booked). e.0) o) false
by_key id None = refl
by_key id (Some e) = refl

latest_by : (id : CmdId) (book : Book) → option_map_or (λ (e : CmdId × Booked). same_id e.0 id) (latest_of id.client id.seq book) false
    ≡ option_map_or (λ (k : CmdId). same_id k id) (last_of (keys_of id.client id.seq book)) false
latest_by id book = by_key id (latest_of id.client id.seq book) ∙ ap (λ o. option_map_or (λ (k : CmdId). same_id k id) o false) (last_key (filter (is_of id.client id.seq) book))

-- the one behind all others is another one
pushed : (id : CmdId) (es : Book) (x : CmdId × Booked) → same_id x.0 id ≡ false → option_map_or (λ (e : CmdId × Booked). same_id e.0 id) (last_of es) false ≡ false
    → option_map_or (λ (e : CmdId × Booked). same_id e.0 id) (last_of (es ++ cond (is_of id.client id.seq x) (x ∷ []) [])) false ≡ false
pushed id es x other not_last = go (is_of id.client id.seq x) where
  none_more : (es : Book) → es ++ [] ≡ es
  none_more [] = refl
  none_more (e ∷ es) = ap (λ l. e ∷ l) (none_more es)

  go : (t : Bool) → option_map_or (λ (e : CmdId × Booked). same_id e.0 id) (last_of (es ++ cond t (x ∷ []) [])) false ≡ false
  go true = ap (λ o. option_map_or (λ (e : CmdId × Booked). same_id e.0 id) o false) (last_push es x) ∙ other
  go false = ap (λ l. option_map_or (λ (e : CmdId × Booked). same_id e.0 id) (last_of l) false) (none_more es) ∙ not_last

pub never_latest : (p : Player) (id other : CmdId) (b : Booked) → is_some (booking_of id p.book) ≡ true → is_latest p id ≡ false → is_latest (with_booking other b p) id ≡ false
never_latest p id other b there not_last = go (is_some (booking_of other p.book)) refl where
  apart : is_some (booking_of other p.book) ≡ false → same_id other id ≡ false
  apart none = by_test (same_id other id) refl where
    by_test : (t : Bool) → same_id other id ≡ t → t ≡ false
    by_test false is = refl
    by_test true is = absurd (let has : is_some (booking_of other p.book) ≡ true = ap (λ i. is_some (booking_of i p.book)) (same_is other id is) ∙ there in cc)

  go : (t : Bool) → is_some (booking_of other p.book) ≡ t → is_latest (with_booking other b p) id ≡ false
  go true has =
      latest_by id (booked other b p.book)
      ∙ ap (λ l. option_map_or (λ (k : CmdId). same_id k id) (last_of l) false) (keys_kept id.client id.seq other b p.book has)
      ∙ sym (latest_by id p.book) ∙ not_last
  go false none =
      ap (λ book. option_map_or (λ (e : CmdId × Booked). same_id e.0 id) (last_of (filter (is_of id.client id.seq) book)) false) (behind_all other b p.book none)
      ∙ ap (λ l. option_map_or (λ (e : CmdId × Booked). same_id e.0 id) (last_of l) false) (filter-append (is_of id.client id.seq) p.book ((other, b) ∷ []))
      ∙ pushed id (filter (is_of id.client id.seq) p.book) (other, b) (apart none) not_last
