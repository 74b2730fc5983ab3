-- What can be shown: each bound is the least, the greatest, or a key.
use Rattle.std.specs.Prelude.{All}
use Rattle.rp_base.specs.Keys.{IsShown}
use Rattle.rp_base.specs.declared.Desc.{Desc}
use Rattle.rp_request.specs.declared.outcomes.Refusal.{Refusal}
use Rattle.rp_request.specs.declared.outcomes.Refusal.TheVariants.{RangeMismatch}
use Rattle.rp_request.specs.declared.outcomes.Outcome.{Outcome}
use Rattle.rp_request.specs.declared.outcomes.Outcome.TheVariants.{Refused}
use Rattle.rp_request.specs.declared.outcomes.End.{End}
use Rattle.rp_request.specs.declared.outcomes.End.TheVariants as ends
use Rattle.rp_request.specs.declared.notes.ReplyLine.{ReplyLine}
use Rattle.rp_report.specs.declared.views.RangeView.{RangeView}
use Rattle.rp_report.specs.declared.views.View.{View}

-- the bounds of a description can be shown
abbrev pub IsShownDesc : Desc → Type 0
IsShownDesc desc = IsShown desc.start × IsShown desc.end

-- what a refusal names can be shown
abbrev pub IsShownRefusal : Refusal → Type 0
IsShownRefusal (RangeMismatch desc) = IsShownDesc desc
IsShownRefusal refusal = Unit {0}

-- what an outcome names can be shown
abbrev pub IsShownOutcome : Outcome → Type 0
IsShownOutcome (Refused refusal) = IsShownRefusal refusal
IsShownOutcome outcome = Unit {0}

-- what the end of an attempt names can be shown
abbrev pub IsShownEnd : End → Type 0
IsShownEnd (ends.Outcome outcome) = IsShownOutcome outcome
IsShownEnd (ends.Tries last) = IsShownRefusal last
IsShownEnd ends.Unsent = Unit {0}

-- an answer can be shown
abbrev pub IsShownAnswer : ReplyLine → Type 0
IsShownAnswer answer = IsShownEnd answer.end

-- the bounds of a range can be shown
abbrev pub IsShownRange : RangeView → Type 0
IsShownRange range = IsShownDesc range.desc

-- all bounds of a view can be shown
pub record IsShownView (view : View) : Type 0 where
  pub replies : All IsShownAnswer view.replies
  pub ranges : All IsShownRange view.ranges
