-- The book of the attempts that clients made (this project).
use Rattle.std.specs.Prelude.{ℕ, ◌-◌, Bool, ◌&&◌, ◌==◌, if◌then◌else◌, List, [], ◌∷◌, fold, length, filter, slice_get, Option}
use Rattle.std.specs.BTreeMap.{insert_entry}
use Rattle.std.specs.Map.{lookup}
use Rattle.std.specs.Option.{option_map_or}
use Rattle.rp_base.specs.Ids.{cmd_cmp, same_id}
use Rattle.rp_base.specs.declared.ids.CmdId.{CmdId}
use Rattle.rp_request.specs.declared.notes.ReplyLine.{ReplyLine}
use Rattle.rp_request.specs.declared.outcomes.End.TheVariants as ends
use Rattle.rp_request.specs.declared.outcomes.Outcome.{Outcome}
use Rattle.rp_request.specs.declared.outcomes.Outcome.TheVariants.{Pending}
use Rattle.rp_book.specs.declared.bookings.Booked.{Booked}

-- the attempts that clients made, in the order in which the book got them
abbrev pub Book : Type 0
Book = List (CmdId × Booked)

-- the book has this of an attempt from now on: where the attempt stands already, else behind all others
abbrev pub booked : CmdId → Booked → Book → Book
booked id b [] = (id, b) ∷ []
booked id b (e ∷ es) = if same_id id e.0 then (e.0, b) ∷ es else e ∷ booked id b es

-- what the book has of an attempt
abbrev pub booking_of : CmdId → Book → Option Booked
booking_of id book = lookup (same_id id) book

-- the last of a list
abbrev pub last_of : {A : Type 0} → List A → Option A
last_of xs = slice_get xs (length xs - 1)

-- an attempt of this command
abbrev pub is_of : (client seq : ℕ) → CmdId × Booked → Bool
is_of client seq e = e.0.client == client && e.0.seq == seq

-- the last attempt that the book got of a command
abbrev pub latest_of : (client seq : ℕ) → Book → Option (CmdId × Booked)
latest_of client seq book = last_of (filter (is_of client seq) book)

-- the same attempts by client, command and attempt
abbrev pub by_attempt : Book → Book
by_attempt book = fold (λ sorted e. insert_entry cmd_cmp sorted e.0 e.1) [] book

-- what was told of the outcomes of attempts
abbrev pub Told : Type 0
Told = List (CmdId × Outcome)

-- what was told of an attempt
abbrev pub told_of : CmdId → Told → Option Outcome
told_of id told = lookup (same_id id) told

-- what is seen of a book: its attempts; what was told of the outcome of each; and how many attempts more
-- take no memory
pub record BookState : Type 0 where
  pub entries : Book
  pub told : Told
  pub spare : ℕ

-- the reply line of an attempt, by what was told of it
abbrev pub reply_of : Told → CmdId × Booked → ReplyLine
reply_of told e = record {
  client = e.0.client;
  seq = e.0.seq;
  attempt = e.0.attempt;
  end = ends.Outcome (option_map_or (λ outcome. outcome) (told_of e.0 told) Pending);
}
