-- In which order a client's tries come: none before those that it made earlier have ended (this project).
use Rattle.std.specs.Prelude.{◌≡◌, ℕ, ◌<◌, Bool, true, false, ◌⊎◌, [], ◌∷◌, Some}
use Rattle.rp_base.specs.declared.ids.CmdId.{CmdId}
use Rattle.rp_request.specs.declared.outcomes.Outcome.{Outcome}
use Rattle.rp_request.specs.declared.outcomes.Outcome.TheVariants.{Pending}
use Rattle.rp_events.specs.Lawful.{IsReached, IsLater}
use Rattle.rp_events.specs.Worlds.{World, Happening, Admit, Schedule, first_world, happens, was_asked, outcome_of}

-- of one client's ids one comes before another: its command does, or it is an earlier attempt of the same one
abbrev pub IsEarlier : (earlier later : CmdId) → Type 0
IsEarlier earlier later =
    (earlier.seq < later.seq) ⊎ ((earlier.seq ≡ later.seq) × (earlier.attempt < later.attempt))

-- the attempt has an end, for good
pub record HasEnded (w : World) (id : CmdId) : Type 0 where
  pub end : Outcome
  pub told : outcome_of w id ≡ Some end
  pub ended : end ≡ Pending → ⊥

-- where an attempt is admitted, all that its client made until then are earlier ones, and have ended
abbrev pub IsInTurn : World → Happening → Type 0
IsInTurn w (Admit range id request) = (other : CmdId) → other.client ≡ id.client → was_asked w other ≡ true
    → IsEarlier other id × HasEnded w other
IsInTurn w _ = Unit {0}

abbrev pub AllInTurn : World → Schedule → Type 0
AllInTurn w [] = Unit {0}
AllInTurn w (x ∷ xs) = IsInTurn w x.what × AllInTurn (happens w x) xs

-- a lawful schedule in which all attempts come in turn leads from a start to this world
pub record CameInTurn (w : World) : Type 0 where
  pub nodes : ℕ
  pub came : IsLater (first_world nodes) w
  pub in_turn : AllInTurn (first_world nodes) came.schedule

-- there was a time when the one attempt had ended and the other had not been made
pub record CameBehind (w : World) (earlier later : CmdId) : Type 0 where
  pub nodes : ℕ
  pub before : World
  pub came : IsLater (first_world nodes) before
  pub went_on : IsLater before w
  pub ended : HasEnded before earlier
  pub not_made : was_asked before later ≡ false
