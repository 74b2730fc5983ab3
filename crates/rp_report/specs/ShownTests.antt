-- The tests of what can be shown, for a fact that a value of the code keeps.
use Rattle.std.specs.Prelude.{ℕ, ◌-◌, ◌^◌, Bool, true, false, ◌&&◌, ◌||◌, ◌==◌, Result, Ok, Err}
use Rattle.std.specs.List.{list_all}
use Rattle.rp_base.specs.Keys.{key_of, key_text}
use Rattle.rp_base.specs.declared.keys.BadKey.{BadKey}
use Rattle.rp_base.specs.declared.Desc.{Desc}
use Rattle.rp_request.specs.declared.outcomes.Refusal.{Refusal}
use Rattle.rp_request.specs.declared.outcomes.Refusal.TheVariants.{RangeMismatch}
use Rattle.rp_request.specs.declared.outcomes.Outcome.{Outcome}
use Rattle.rp_request.specs.declared.outcomes.Outcome.TheVariants.{Refused}
use Rattle.rp_request.specs.declared.outcomes.End.{End}
use Rattle.rp_request.specs.declared.outcomes.End.TheVariants as ends
use Rattle.rp_request.specs.declared.notes.ReplyLine.{ReplyLine}
use Rattle.rp_report.specs.declared.views.RangeView.{RangeView}
use Rattle.rp_report.specs.declared.views.View.{View}

-- what was read is this number
abbrev pub is_read : ℕ → Result ℕ BadKey → Bool
is_read n (Ok m) = m == n
is_read n (Err fault) = false

-- a bound is the least, the greatest, or a number whose spelling is a key of this number
unfoldable pub is_shown : ℕ → Bool
is_shown n = n == 0 || (n == 2 ^ 128 - 1 || is_read n (key_of (key_text n)))

abbrev pub desc_is_shown : Desc → Bool
desc_is_shown desc = is_shown desc.start && is_shown desc.end

abbrev pub refusal_is_shown : Refusal → Bool
refusal_is_shown (RangeMismatch desc) = desc_is_shown desc
refusal_is_shown refusal = true

abbrev pub outcome_is_shown : Outcome → Bool
outcome_is_shown (Refused refusal) = refusal_is_shown refusal
outcome_is_shown outcome = true

abbrev pub end_is_shown : End → Bool
end_is_shown (ends.Outcome outcome) = outcome_is_shown outcome
end_is_shown (ends.Tries last) = refusal_is_shown last
end_is_shown ends.Unsent = true

abbrev pub answer_is_shown : ReplyLine → Bool
answer_is_shown answer = end_is_shown answer.end

abbrev pub range_is_shown : RangeView → Bool
range_is_shown range = desc_is_shown range.desc

-- all bounds of a view can be shown
unfoldable pub view_is_shown : View → Bool
view_is_shown view = list_all answer_is_shown view.replies && list_all range_is_shown view.ranges
