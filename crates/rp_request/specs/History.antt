-- What a replica has applied, and the records that it keeps of it.
use Rattle.std.specs.Prelude.{ℕ, ◌+◌, List, [], ◌∷◌, ◌++◌}
use Rattle.rp_request.specs.declared.commands.Payload.{Payload}
use Rattle.rp_request.specs.declared.items.Record as records
use Rattle.rp_request.specs.Applied.{AppliedState, after, record_of}

-- the records of indexes one after another, from the first one on
pub record Piece : Type 0 where
  pub first : ℕ
  pub list : List records.Record

-- the applied state and its index, the records since the last snapshot, and the pieces of records
-- from before each snapshot
pub record History : Type 0 where
  pub state : AppliedState
  pub index : ℕ
  pub records : Piece
  pub earlier : List Piece

-- no record yet: the first one is to be that of the next index
abbrev pub none_after : ℕ → Piece
none_after index = record { first = index + 1; list = [] }

-- one record more
abbrev pub with_record : Piece → records.Record → Piece
with_record piece r = record { first = piece.first; list = piece.list ++ r ∷ [] }

-- a replica that begins in a state, at an index
abbrev pub started : AppliedState → ℕ → History
started s index = record { state = s; index = index; records = none_after index; earlier = [] }

-- one payload is applied, and its record is kept
abbrev pub applied : History → Payload → History
applied h p = record {
  state = after h.state p;
  index = h.index + 1;
  records = with_record h.records (record_of h.state p);
  earlier = h.earlier;
}

-- a snapshot's state is taken in: what was recorded is kept as a piece, and no index is recorded that
-- the snapshot jumps
abbrev pub reset_to : History → AppliedState → ℕ → History
reset_to h s index = record {
  state = s;
  index = index;
  records = none_after index;
  earlier = h.earlier ++ h.records ∷ [];
}
