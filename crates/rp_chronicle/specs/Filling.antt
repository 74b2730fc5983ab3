-- How a list of records is filled from pieces.
use Rattle.std.specs.Prelude.{◌≡◌, ℕ, ◌+◌, ◌-◌, ◌<◌, List, ◌++◌, length, take, drop, slice_get, Contains, Some}
use Rattle.rp_request.specs.History.{Piece}
use Rattle.rp_request.specs.declared.items.Record.{Record}

-- the piece in the place of as many records from this place on
abbrev pub pasted : (at : ℕ) → List Record → List Record → List Record
pasted at piece records = take at records ++ piece ++ drop (at + length piece) records

-- each record of the piece stands in the list, whose first one has the index behind the base
pub record IsPieceOf (list : List Record) (base : ℕ) (p : Piece) : Type 0 where
  pub behind : (place : ℕ) → place < length p.list → base < p.first + place
  pub here : (place : ℕ) (kept : Record) → slice_get p.list place ≡ Some kept
      → slice_get list (p.first + place - base - 1) ≡ Some kept

abbrev pub ArePiecesOf : List Record → (base : ℕ) → List Piece → Type 0
ArePiecesOf list base pieces = (p : Piece) → Contains pieces p → IsPieceOf list base p

-- both have the same at this place
abbrev pub AreAlikeAt : List Record → List Record → (place : ℕ) → Type 0
AreAlikeAt list records place = slice_get records place ≡ slice_get list place

-- records are filled in towards a list: as many, what was like the list still is, and so is now what
-- stands in one of the pieces
pub record IsFilled (list : List Record) (base : ℕ) (pieces : List Piece) (old new : List Record)
    : Type 0 where
  pub long : length new ≡ length old
  pub stays : (place : ℕ) → AreAlikeAt list old place → AreAlikeAt list new place
  pub put : (p : Piece) → Contains pieces p → (place : ℕ) → place < length p.list
      → AreAlikeAt list new (p.first + place - base - 1)

-- some list of as many records has these pieces
pub record HasPieces (base : ℕ) (pieces : List Piece) (records : List Record) : Type 0 where
  pub list : List Record
  pub long : length list ≡ length records
  pub are : ArePiecesOf list base pieces

-- towards each list that has these pieces
abbrev pub FillsAll : (base : ℕ) → List Piece → (old new : List Record) → Type 0
FillsAll base pieces old new =
    (list : List Record) → length list ≡ length old → ArePiecesOf list base pieces
    → IsFilled list base pieces old new
