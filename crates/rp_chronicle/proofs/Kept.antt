-- The pieces that nodes keep are pieces of the range's one list, and cover it.
use Rattle.std.proofs.Common.{◌≡◌, ℕ, zero, suc, ◌+◌, ◌-◌, ◌<◌, ⊎_elim, Option, None, Some, List, [], ◌∷◌, ◌++◌, length, take, drop, refl, sym, ap, subst, ◌∙◌, arith}
use Rattle.std.specs.Prelude.{Contains, slice_get}
use Rattle.std.specs.Option.{option_map}
use Rattle.std.proofs.lemmas.List.{take_at}
use Rattle.std.proofs.lemmas.List.Elements.{Contains-append_cases, Contains-append_left, Contains-append_right}
use Rattle.std.proofs.lemmas.Option.{none-some, slice_get_within}
use Rattle.rp_request.specs.History.{Piece, History}
use Rattle.rp_request.specs.declared.items.Record.{Record}
use Rattle.rp_events.specs.Nodes.{Node, seat}
use Rattle.rp_events.specs.Worlds.{World}
use Rattle.rp_events.specs.Lists.{base_of, history_in, HasApplied, Keeps, IsOneList}
use Rattle.rp_recorded.specs.Recorded.{HasOneList, IsAllApplied}
use Rattle.rp_recorded.proofs.Lists.{all_applied}
use Rattle.rp_chronicle.specs.Filling.{ArePiecesOf, FillsAll, HasPieces, IsFilled}
use Rattle.rp_chronicle.specs.Worlds.{IsFurthest, IsUntouched, ListEndsAt, pieces_in, pieces_of}
use Rattle.rp_chronicle.proofs.Places.{get_inside, same_places}

-- a piece that some node has of the range
record IsHeldAt (w : World) (range : ℕ) (p : Piece) : Type 0 where
  node : ℕ
  history : History
  applied : HasApplied w node range history
  among : Contains (history.earlier ++ history.records ∷ []) p

later_node : (n : Node) (w : World) (node range : ℕ) (h : History) → HasApplied w node range h → HasApplied (n ∷ w) (suc node) range h
later_node n w zero range h a = absurd (none-some a.n a.has)
later_node n w (suc place) range h a = record { n = a.n; has = a.has; history = a.history }

held_in : (w : World) (range : ℕ) (p : Piece) → Contains (pieces_of w range) p → IsHeldAt w range p
held_in [] range p c = absurd (let none = c.1 in omega (arith, none))
held_in (n ∷ w) range p c = ⊎_elim
    (λ (here : Contains (pieces_in (history_in (seat n range))) p). first (history_in (seat n range)) refl here)
    (λ (there : Contains (pieces_of w range) p).
    let h = held_in w range p there in
    record { node = suc h.node; history = h.history; applied = later_node n w h.node range h.history h.applied; among = h.among })
    (Contains-append_cases (pieces_in (history_in (seat n range))) (pieces_of w range) p c)
  where
    first : (o : Option History) → history_in (seat n range) ≡ o → Contains (pieces_in o) p → IsHeldAt (n ∷ w) range p
    first None is x = absurd (let none = x.1 in omega (arith, none))
    first (Some h) is x = record { node = 1; history = h; applied = record { n = n; has = refl; history = is }; among = x }

-- the pieces of a node are among those of all
among_all : (w : World) (place range : ℕ) (n : Node) (h : History) → slice_get w place ≡ Some n → history_in (seat n range) ≡ Some h
    → (p : Piece) → Contains (h.earlier ++ h.records ∷ []) p → Contains (pieces_of w range) p
among_all [] place range n h has is p c = absurd (none-some n has)
among_all (x ∷ w) zero range n h has is p c =
    Contains-append_left (pieces_in (history_in (seat x range))) (pieces_of w range) p
    (subst (λ o. Contains (pieces_in o) p) (sym (ap (λ (k : Node). history_in (seat k range)) (some_node x n has) ∙ is)) c)
  where
    some_node : (a b : Node) → ◌≡◌ {A = Option Node} (Some a) (Some b) → a ≡ b
    some_node a b e = cc
among_all (x ∷ w) (suc place) range n h has is p c = Contains-append_right (pieces_in (history_in (seat x range))) (pieces_of w range) p (among_all w place range n h has is p c)

all_among : (w : World) (node range : ℕ) (h : History) → HasApplied w node range h → (p : Piece) → Contains (h.earlier ++ h.records ∷ []) p → Contains (pieces_of w range) p
all_among w zero range h a p c = absurd (none-some a.n a.has)
all_among w (suc place) range h a p c = among_all w place range a.n h a.has a.history p c

pub node_pieces : (w : World) (place range : ℕ) (n : Node) → slice_get w place ≡ Some n → (p : Piece) → Contains (pieces_in (history_in (seat n range))) p → Contains (pieces_of w range) p
node_pieces [] place range n has p c = absurd (none-some n has)
node_pieces (x ∷ w) zero range n has p c =
    Contains-append_left (pieces_in (history_in (seat x range))) (pieces_of w range) p
    (subst (λ (k : Node). Contains (pieces_in (history_in (seat k range))) p) (sym (some_node x n has)) c)
  where
    some_node : (a b : Node) → ◌≡◌ {A = Option Node} (Some a) (Some b) → a ≡ b
    some_node a b e = cc
node_pieces (x ∷ w) (suc place) range n has p c = Contains-append_right (pieces_in (history_in (seat x range))) (pieces_of w range) p (node_pieces w place range n has p c)

module _ (w : World) (range : ℕ) (list : List Record) (one : IsOneList w range list) where
  -- a piece with a record at this place
  kept_at : (p : Piece) (h : IsHeldAt w range p) (place : ℕ) (kept : Record) → slice_get p.list place ≡ Some kept → Keeps w h.node range (p.first + place) kept
  kept_at p h place kept e = record { history = h.history; applied = h.applied; piece = p; among = h.among; stands = record { place = place; here = e; at = refl } }

  pub are_pieces : ArePiecesOf list (base_of range) (pieces_of w range)
  are_pieces p c = record {
    behind = λ place lt. let x = get_inside p.list place lt in (one.agrees (held_in w range p c).node (p.first + place) x.0 (kept_at p (held_in w range p c) place x.0 x.1)).0;
    here = λ place kept e. (one.agrees (held_in w range p c).node (p.first + place) kept (kept_at p (held_in w range p c) place kept e)).1;
  }

  -- what is filled from all pieces is the list
  pub filled_is : (old new : List Record) → length list ≡ length old → IsFilled list (base_of range) (pieces_of w range) old new → new ≡ list
  filled_is old new long f = same_places new list (f.long ∙ sym long) each where
    each : (place : ℕ) → place < length list → slice_get new place ≡ slice_get list place
    each place lt =
        let x = get_inside list place lt in
        let k = one.whole place x.0 x.1 in
        let at = k.1.stands.at in
        let same : k.1.piece.first + k.1.stands.place - base_of range - 1 ≡ place = omega (arith, at) in
        subst (λ i. slice_get new i ≡ slice_get list i) same
        (f.put k.1.piece (all_among w k.0 range k.1.history k.1.applied k.1.piece k.1.among) k.1.stands.place (slice_get_within k.1.piece.list k.1.stands.place x.0 k.1.stands.here))

-- where the list ends
pub ends_untouched : (w : World) (range : ℕ) → HasOneList w range → IsUntouched w range → ListEndsAt w range (base_of range)
ends_untouched w range h u = record {
  list = h.list;
  is = h.is;
  ends = ⊎_elim
      (λ (e : h.list ≡ []). let none : length h.list ≡ 0 = ap length e in omega (arith, none))
      (λ (x : IsAllApplied w range h.list). absurd (u x.node x.history x.applied))
      (all_applied w range h.list h.is);
}

-- the list ends where the node does that has applied most
pub ends_at : (w : World) (range : ℕ) (h : History) (list : List Record) → IsOneList w range list → IsFurthest w range h → base_of range + length list ≡ h.index
ends_at w range h list one f =
    let r = one.reaches f.node h f.applied in
    let low = r.0 in
    let high = r.1 in
    ⊎_elim
    (λ (e : list ≡ []). let none : length list ≡ 0 = ap length e in omega (arith, none, low, high))
    (λ (x : IsAllApplied w range list). let le = f.most x.node x.history x.applied in let all = x.all in omega (arith, le, all, high))
    (all_applied w range list one)

pub ends_furthest : (w : World) (range : ℕ) (h : History) → HasOneList w range → IsFurthest w range h → ListEndsAt w range h.index
ends_furthest w range h one f = record { list = one.list; is = one.is; ends = ends_at w range h one.list one.is f }

-- what one node keeps, by its history
pub has_kept : (base given : ℕ) (o kept : Option History) (records : List Record) → given ≡ base → kept ≡ o → HasPieces base (pieces_in o) records → HasPieces given (pieces_in kept) records
has_kept base given o kept records b e h = subst (λ z. HasPieces z (pieces_in kept) records) (sym b) (subst (λ z. HasPieces base (pieces_in z) records) (sym e) h)

pub any_fills : {T : Type 0} (f : T → History) (o : Option T) (x : T) (base : ℕ) (old new : List Record) → o ≡ Some x → FillsAll base ((f x).earlier ++ (f x).records ∷ []) old new → FillsAll base (pieces_in (option_map f o)) old new
any_fills f o x base old new e h = subst (λ z. FillsAll base (pieces_in (option_map f z)) old new) (sym e) h

-- what was lent is given back whole
pub given_back : (old new : List Record) (n : ℕ) → length new ≡ n → take n (new ++ drop (length new) old) ≡ new
given_back old new n long = take_at new (drop (length new) old) n long
