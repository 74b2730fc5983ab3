-- What is shown can be written.
use Rattle.std.proofs.Common.{ℕ, List, [], ◌∷◌, sym, subst}
use Rattle.std.specs.Prelude.{All}
use Rattle.std.specs.List.{AllByRecursion}
use Rattle.std.proofs.lemmas.List.Elements.{All-from_recursion}
use Rattle.rp_request.specs.declared.notes.Note.{Note}
use Rattle.rp_report.specs.Shown.{IsShownAnswer, IsShownDesc, IsShownRange, IsShownView}
use Rattle.rp_report.specs.declared.views.RangeView.{RangeView}
use Rattle.rp_report.specs.declared.views.View.{View}
use Rattle.rp_events.specs.Worlds.{World}
use Rattle.rp_events.specs.Lawful.{IsReached}
use Rattle.rp_lines.specs.Views.{IsRangeView, IsViewOf, ShowsRanges}
use Rattle.rp_recorded.proofs.Descs.{numbered}
use Rattle.rp_recorded.proofs.Replies.{replies_are_shown}

module _ (nodes : ℕ) (w : World) (reached : IsReached nodes w) where
  range_shown : (v : RangeView) → IsRangeView w v.desc.id v → IsShownRange v
  range_shown v h = subst IsShownDesc (sym h.state.desc) (numbered nodes w reached h.state.node v.desc.id h.state.history h.state.applied).shown

  all_shown : (ranges : List RangeView) → AllByRecursion (λ (v : RangeView). IsRangeView w v.desc.id v) ranges → AllByRecursion IsShownRange ranges
  all_shown [] h = tt
  all_shown (v ∷ ranges) h = (range_shown v h.0, all_shown ranges h.1)

  pub ranges_are_shown : (ranges : List RangeView) → ShowsRanges w ranges → All IsShownRange ranges
  ranges_are_shown ranges h = All-from_recursion IsShownRange ranges (all_shown ranges h.shown)

pub view_shown : (nodes : ℕ) (w : World) (notes : List Note) (v : View) → IsReached nodes w → IsViewOf w notes v → IsShownView v
view_shown nodes w notes v reached h = record {
  replies = subst (All IsShownAnswer) (sym h.replies_are) (replies_are_shown nodes w reached);
  ranges = ranges_are_shown nodes w reached v.ranges h.ranges;
}
