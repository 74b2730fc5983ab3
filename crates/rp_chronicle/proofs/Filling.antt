-- Records are filled in piece by piece.
use Rattle.std.proofs.Common.{◌≡◌, ℕ, zero, suc, ◌+◌, ◌-◌, ◌<◌, ◌≤◌, ⊎_elim, List, [], ◌∷◌, ◌++◌, length, take, get_or, refl, sym, ap, subst, ◌∙◌, arith}
use Rattle.std.specs.Prelude.{Contains, slice_get}
use Rattle.std.proofs.lemmas.Bool.{cases_lt}
use Rattle.std.proofs.lemmas.List.{take_all, take_more}
use Rattle.std.proofs.lemmas.List.Elements.{Contains-append_cases, Contains-append_left, Contains-append_right}
use Rattle.std.proofs.lemmas.Option.{slice_get_within}
use Rattle.rp_request.specs.History.{Piece}
use Rattle.rp_request.specs.declared.items.Record.{Record}
use Rattle.rp_chronicle.specs.Filling.{AreAlikeAt, ArePiecesOf, FillsAll, HasPieces, IsFilled, IsPieceOf, pasted}
use Rattle.rp_chronicle.proofs.Places.{get_inside, pasted_length, pasted_below, pasted_inside, pasted_above}

-- one piece alone
alone : (p q : Piece) → Contains (p ∷ []) q → p ≡ q
alone p q c = go c.0 c.1 c.2 where
  go : (k : ℕ) → k < length (p ∷ []) → get_or (p ∷ []) k q ≡ q → p ≡ q
  go zero lt e = e
  go (suc k) lt e = absurd (omega (arith, lt))

-- the piece of the records behind an index
abbrev pub behind : (before : ℕ) → List Record → Piece
behind before piece = record { first = before + 1; list = piece }

-- where a piece with a record stands
module _ (list : List Record) (base before : ℕ) (piece : List Record) (is : IsPieceOf list base (behind before piece)) (some : 0 < length piece) where
  pub starts_behind : base ≤ before
  starts_behind = let h = is.behind 0 some in omega (arith, h)

  pub ends_within : before - base + length piece ≤ length list
  ends_within =
      let last = get_inside piece (length piece - 1) (omega (arith, some)) in
      let within = slice_get_within list (before + 1 + (length piece - 1) - base - 1) last.0 (is.here (length piece - 1) last.0 last.1) in
      let low = starts_behind in
      omega (arith, within, low, some)

  in_list : (place : ℕ) → place < length piece → slice_get list (before - base + place) ≡ slice_get piece place
  in_list place lt =
      let x = get_inside piece place lt in
      let low = starts_behind in
      let same : before + 1 + place - base - 1 ≡ before - base + place = omega (arith, low) in
      ap (slice_get list) (sym same) ∙ is.here place x.0 x.1 ∙ sym x.1

  module _ (old : List Record) (long : length list ≡ length old) where
    abbrev now : List Record
    now = pasted (before - base) piece old

    fits : before - base + length piece ≤ length old
    fits = let e = ends_within in omega (arith, e, long)

    here : (place : ℕ) → place < length piece → AreAlikeAt list now (before - base + place)
    here place lt = pasted_inside (before - base) piece old fits place lt ∙ sym (in_list place lt)

    put_here : (place : ℕ) → place < length piece → AreAlikeAt list now (before + 1 + place - base - 1)
    put_here place lt =
        let low = starts_behind in
        let same : before + 1 + place - base - 1 ≡ before - base + place = omega (arith, low) in
        subst (AreAlikeAt list now) (sym same) (here place lt)

    stays_here : (place : ℕ) → AreAlikeAt list old place → AreAlikeAt list now place
    stays_here place h = ⊎_elim
        (λ (lt : place < before - base). pasted_below (before - base) piece old fits place lt ∙ h)
        (λ (ge : before - base ≤ place). ⊎_elim
        (λ (lt : place < before - base + length piece).
        let same : before - base + (place - (before - base)) ≡ place = omega (arith, ge) in
        subst (AreAlikeAt list now) same (here (place - (before - base)) (omega (arith, ge, lt))))
        (λ (past : before - base + length piece ≤ place).
        let same : before - base + length piece + (place - (before - base + length piece)) ≡ place = omega (arith, past) in
        subst (λ i. slice_get now i ≡ slice_get list i) same
        (pasted_above (before - base) piece old fits (place - (before - base + length piece))
        ∙ subst (λ i. slice_get old i ≡ slice_get list i) (sym same) h))
        (cases_lt place (before - base + length piece)))
        (cases_lt place (before - base))

    pub fills_one : IsFilled list base (behind before piece ∷ []) old now
    fills_one = record {
      long = pasted_length (before - base) piece old fits;
      stays = stays_here;
      put = λ p c place lt. subst (λ (q : Piece). AreAlikeAt list now (q.first + place - base - 1)) (alone (behind before piece) p c)
          (put_here place (subst (λ (q : Piece). place < length q.list) (sym (alone (behind before piece) p c)) lt));
    }

-- a piece with no record
pub fills_none : (list : List Record) (base : ℕ) (p : Piece) (old : List Record) → length p.list ≡ 0 → IsFilled list base (p ∷ []) old old
fills_none list base p old none = record {
  long = refl;
  stays = λ place h. h;
  put = λ q c place lt. let here : place < length p.list = subst (λ (z : Piece). place < length z.list) (sym (alone p q c)) lt in absurd (omega (arith, none, here));
}

-- nothing, and one after another
pub fills_nil : (list : List Record) (base : ℕ) (old : List Record) → IsFilled list base [] old old
fills_nil list base old = record { long = refl; stays = λ place h. h; put = λ q c place lt. absurd (let none = c.1 in omega (arith, none)) }

pub fills_on : (list : List Record) (base : ℕ) (ps qs : List Piece) (a b c : List Record) → IsFilled list base ps a b → IsFilled list base qs b c → IsFilled list base (ps ++ qs) a c
fills_on list base ps qs a b c f g = record {
  long = g.long ∙ f.long;
  stays = λ place h. g.stays place (f.stays place h);
  put = λ p has place lt. ⊎_elim
      (λ (x : Contains ps p). g.stays (p.first + place - base - 1) (f.put p x place lt))
      (λ (x : Contains qs p). g.put p x place lt)
      (Contains-append_cases ps qs p has);
}

pub front_pieces : (list : List Record) (base : ℕ) (ps qs : List Piece) → ArePiecesOf list base (ps ++ qs) → ArePiecesOf list base ps
front_pieces list base ps qs h p c = h p (Contains-append_left ps qs p c)

pub back_pieces : (list : List Record) (base : ℕ) (ps qs : List Piece) → ArePiecesOf list base (ps ++ qs) → ArePiecesOf list base qs
back_pieces list base ps qs h p c = h p (Contains-append_right ps qs p c)

-- towards all lists
pub all_nil : (base : ℕ) (old : List Record) → FillsAll base [] old old
all_nil base old list long are = fills_nil list base old

pub all_on : (base : ℕ) (ps qs : List Piece) (a b c : List Record) → length b ≡ length a → FillsAll base ps a b → FillsAll base qs b c → FillsAll base (ps ++ qs) a c
all_on base ps qs a b c long f g list same are =
    fills_on list base ps qs a b c (f list same (front_pieces list base ps qs are)) (g list (same ∙ sym long) (back_pieces list base ps qs are))

pub keeps_long : (base : ℕ) (ps : List Piece) (a b : List Record) → HasPieces base ps a → FillsAll base ps a b → length b ≡ length a
keeps_long base ps a b h f = (f h.list h.long h.are).long

-- the one piece, towards all lists
one_piece : (p : Piece) → Contains (p ∷ []) p
one_piece p = (0, omega arith, refl)

module _ (base before : ℕ) (piece old : List Record) where
  pub some_fills : (new : List Record) → 0 < length piece → new ≡ pasted (before - base) piece old → FillsAll base (behind before piece ∷ []) old new
  some_fills new some e list long are =
      subst (IsFilled list base (behind before piece ∷ []) old) (sym e)
      (fills_one list base before piece (are (behind before piece) (one_piece (behind before piece))) some old long)

  pub none_fills : length piece ≡ 0 → FillsAll base (behind before piece ∷ []) old old
  none_fills none list long are = fills_none list base (behind before piece) old none

  pub some_behind : 0 < length piece → HasPieces base (behind before piece ∷ []) old → base ≤ before
  some_behind some h = starts_behind h.list base before piece (h.are (behind before piece) (one_piece (behind before piece))) some

  pub some_within : 0 < length piece → HasPieces base (behind before piece ∷ []) old → before - base + length piece ≤ length old
  some_within some h =
      let within = ends_within h.list base before piece (h.are (behind before piece) (one_piece (behind before piece))) some in
      let long = h.long in
      omega (arith, within, long)

-- what is left to be filled in
pub has_front : (base : ℕ) (ps qs : List Piece) (old new : List Record) → HasPieces base (ps ++ qs) old → length new ≡ length old → HasPieces base ps new
has_front base ps qs old new h long = record { list = h.list; long = h.long ∙ sym long; are = front_pieces h.list base ps qs h.are }

pub has_back : (base : ℕ) (ps qs : List Piece) (old new : List Record) → HasPieces base (ps ++ qs) old → length new ≡ length old → HasPieces base qs new
has_back base ps qs old new h long = record { list = h.list; long = h.long ∙ sym long; are = back_pieces h.list base ps qs h.are }

-- some of the pieces, where others were filled in before
pub has_some : (base : ℕ) (ps qs : List Piece) (old new : List Record) → HasPieces base ps old → ((p : Piece) → Contains qs p → Contains ps p) → length new ≡ length old → HasPieces base qs new
has_some base ps qs old new h among long = record { list = h.list; long = h.long ∙ sym long; are = λ p c. h.are p (among p c) }

pub pieces_more : (xs ys : List Piece) (i : ℕ) (p : Piece) → xs ≡ ys → i < length xs → p ≡ get_or xs i p → take (i + 1) ys ≡ take i ys ++ p ∷ []
pieces_more xs ys i p same lt is = subst (λ zs. take (i + 1) zs ≡ take i zs ++ p ∷ []) same (take_more xs i p lt ∙ ap (λ q. take i xs ++ q ∷ []) (sym is))

pub pieces_all : (xs ys : List Piece) (i : ℕ) → xs ≡ ys → length xs ≤ i → take i ys ≡ ys
pieces_all xs ys i same le = subst (λ zs. take i zs ≡ zs) same (take_all i xs le)

pub among_items : (xs ys : List Piece) (i : ℕ) (p : Piece) → xs ≡ ys → i < length xs → p ≡ get_or xs i p → Contains ys p
among_items xs ys i p same lt is = subst (λ zs. Contains zs p) same (i, lt, sym is)

pub behind_is : (p : Piece) (before : ℕ) (piece : List Record) → before + 1 ≡ p.first → piece ≡ p.list → behind before piece ≡ p
behind_is p before piece first list = ap (λ n. record { first = n; list = piece }) first ∙ ap (λ l. record { first = p.first; list = l }) list

pub among_one : (p q : Piece) → Contains (p ∷ []) q → (ps : List Piece) → Contains ps p → Contains ps q
among_one p q c ps has = subst (Contains ps) (alone p q c) has

-- some pieces more
pub record Fills (base : ℕ) (pieces : List Piece) (old new : List Record) : Type 0 where
  pub long : length new ≡ length old
  pub filled : FillsAll base pieces old new

pub fills_more : (base : ℕ) (ps qs given : List Piece) (first old new : List Record) → Fills base ps first old → given ≡ qs → HasPieces base given old → FillsAll base given old new → Fills base (ps ++ qs) first new
fills_more base ps qs given first old new f same has g = record {
  long = keeps_long base given old new has g ∙ f.long;
  filled = all_on base ps qs first old new f.long f.filled (subst (λ (z : List Piece). FillsAll base z old new) same g);
}
