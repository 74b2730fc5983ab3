-- The reply lines of a world from a list of the attempts that were asked (this project).
use Rattle.std.specs.Prelude.{◌≡◌, List, [], ◌∷◌}
use Rattle.std.specs.Option.{option_map_or}
use Rattle.std.specs.List.{list_any, AllByRecursion}
use Rattle.std.specs.declared.cmp.Ordering.TheVariants.{Less}
use Rattle.rp_base.specs.Ids.{same_id, cmd_cmp}
use Rattle.rp_base.specs.declared.ids.CmdId.{CmdId}
use Rattle.rp_request.specs.declared.notes.ReplyLine.{ReplyLine}
use Rattle.rp_request.specs.declared.outcomes.Outcome.TheVariants.{Pending}
use Rattle.rp_events.specs.Worlds.{World, was_asked, outcome_of}
use Rattle.rp_lines.specs.Views.{reply_of}

-- the reply line of an attempt that was asked
abbrev pub reply_in : World → CmdId → ReplyLine
reply_in w id = reply_of (id, option_map_or (λ o. o) (outcome_of w id) Pending)

-- by client, command and attempt, none twice
abbrev pub AreInOrder : List CmdId → Type 0
AreInOrder [] = Unit {0}
AreInOrder (id ∷ ids) = AllByRecursion (λ later. cmd_cmp id later ≡ Less) ids × AreInOrder ids

-- in order, exactly the attempts that were asked
pub record AreAsked (w : World) (ids : List CmdId) : Type 0 where
  pub ascending : AreInOrder ids
  pub each : (id : CmdId) → list_any (same_id id) ids ≡ was_asked w id
