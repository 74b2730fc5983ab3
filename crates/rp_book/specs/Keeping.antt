-- How the book keeps attempts, and finds the latest one of a command.
use Rattle.std.specs.Prelude.{◌≡◌, ℕ, Bool, ◌&&◌, ◌==◌, List, [], ◌∷◌, ◌++◌, map, filter, fold, Option}
use Rattle.std.specs.BTreeSet.{insert_key}
use Rattle.std.specs.List.{IsDistinct}
use Rattle.std.specs.Map.{lookup}
use Rattle.std.specs.Option.{option_map, option_map_or}
use Rattle.rp_base.specs.Ids.{cmd_cmp, same_id}
use Rattle.rp_base.specs.declared.ids.CmdId.{CmdId}
use Rattle.rp_book.specs.declared.keeps.Command.{Command}
use Rattle.rp_book.specs.declared.keeps.Kept.{Kept}
use Rattle.rp_book.specs.declared.keeps.Kept.TheVariants.{Attempt}
use Rattle.rp_book.specs.declared.bookings.Booked.{Booked}
use Rattle.rp_book.specs.declared.bookings.Draw.{Draw}
use Rattle.rp_request.specs.declared.notes.ReplyLine.{ReplyLine}
use Rattle.rp_request.specs.declared.outcomes.End.TheVariants as ends
use Rattle.rp_request.specs.declared.outcomes.Outcome.{Outcome}
use Rattle.rp_request.specs.declared.outcomes.Outcome.TheVariants.{Pending}
use Rattle.rp_book.specs.Books.{Book, Told, booking_of, last_of}

-- the booking of an attempt that is kept, and what was told of its outcome
abbrev pub booking_in : Kept → Booked
booking_in (Attempt booked outcome) = booked

abbrev pub outcome_in : Kept → Outcome
outcome_in (Attempt booked outcome) = outcome

-- it has come so far in its buffer
abbrev pub with_draw : Draw → Kept → Kept
with_draw draw (Attempt booked outcome) = Attempt (record booked { draw = draw }) outcome

-- this is told of its outcome
abbrev pub with_outcome : Outcome → Kept → Kept
with_outcome told (Attempt booked outcome) = Attempt booked told

-- attempts with what was told of each, in the order in which they came
abbrev pub Keeps : Type 0
Keeps = List (CmdId × Kept)

abbrev pub bookings : Keeps → Book
bookings es = map (λ e. (e.0, booking_in e.1)) es

abbrev pub outcomes : Keeps → Told
outcomes es = map (λ e. (e.0, outcome_in e.1)) es

-- the last attempt of a command among these
abbrev pub latest_in : (client seq : ℕ) → List CmdId → Option CmdId
latest_in client seq ids = last_of (filter (λ id. id.client == client && id.seq == seq) ids)

-- the command with this number of this client
abbrev pub is_command : (client seq : ℕ) → Command → Bool
is_command client seq c = client == c.client && seq == c.seq

-- no attempt stands twice, and the index has the number of each command's last attempt
pub record IsIndexed (ids : List CmdId) (latest : List (Command × ℕ)) : Type 0 where
  pub distinct : IsDistinct same_id ids
  pub indexed : (client seq : ℕ)
      → option_map (λ id. id.attempt) (latest_in client seq ids)
      ≡ lookup (is_command client seq) latest

-- ids by client, command and attempt
abbrev pub in_order : List CmdId → List CmdId
in_order ids = fold (insert_key cmd_cmp) [] ids

-- the reply line of an attempt, by what was told of it
abbrev pub line_of : CmdId → Option Outcome → ReplyLine
line_of id told = record {
  client = id.client;
  seq = id.seq;
  attempt = id.attempt;
  end = ends.Outcome (option_map_or (λ outcome. outcome) told Pending);
}

-- what a book has of this attempt, as an entry
abbrev pub entry_of : CmdId → Book → Book
entry_of id book = option_map_or (λ b. (id, b) ∷ []) (booking_of id book) []

abbrev pub entries_of : Book → List CmdId → Book
entries_of book [] = []
entries_of book (id ∷ ids) = entry_of id book ++ entries_of book ids
