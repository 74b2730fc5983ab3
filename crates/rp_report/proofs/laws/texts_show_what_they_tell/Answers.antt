use Rattle.rp_report.proofs.Untold.{reply_untold, refusal_untold, end_untold, item_untold, record_untold}
use Rattle.rp_report.proofs.laws.texts_show_what_they_tell.Goals as goal

pub returns : goal.returns
returns c = record {
  replies = reply_untold;
  refusals = refusal_untold;
  ends = end_untold;
  items = item_untold;
  records = record_untold;
}
