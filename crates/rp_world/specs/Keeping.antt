-- What a world keeps of attempts beside its nodes.
use Rattle.std.specs.Prelude.{◌≡◌, ℕ, ◌≤◌, if◌then◌else◌, List, [], ◌∷◌, Option, Some, is_some}
use Rattle.std.specs.Option.{option_map}
use Rattle.rp_base.specs.Ids.{same_id}
use Rattle.rp_base.specs.declared.ids.CmdId.{CmdId}
use Rattle.rp_request.specs.declared.outcomes.Outcome.{Outcome}
use Rattle.rp_book.specs.declared.bookings.Booked.{Booked}
use Rattle.rp_book.specs.Books.{BookState, booking_of, told_of}
use Rattle.rp_events.specs.declared.answers.Ended.{Ended}
use Rattle.rp_events.specs.Worlds.{World, asked_request, outcome_of, was_asked}
use Rattle.rp_lines.specs.Players.{most_events}

-- what was told of an attempt after further ends
abbrev pub told_after : List Ended → CmdId → Option Outcome → Option Outcome
told_after [] id before = before
told_after (e ∷ es) id before =
    told_after es id (if same_id id e.id then option_map (λ _. e.outcome) before else before)

-- the book has exactly the attempts that were asked, with their requests and their outcomes
pub record IsBookOf (w : World) (book : BookState) : Type 0 where
  pub asked : (id : CmdId) → is_some (booking_of id book.entries) ≡ was_asked w id
  pub requests : (id : CmdId) (b : Booked) → booking_of id book.entries ≡ Some b
      → asked_request w id ≡ Some b.request
  pub told : (id : CmdId) → told_of id book.told ≡ outcome_of w id

-- the book is that of the nodes, and no more events than may come are counted
pub record IsKept (w : World) (state : BookState) (events : ℕ) : Type 0 where
  pub book : IsBookOf w state
  pub few : events ≤ most_events
