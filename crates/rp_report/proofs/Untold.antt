-- The texts are those of what they tell.
use Rattle.std.proofs.Common.{◌≡◌, ℕ, ◌++◌, Some, None, refl, ap}
use Rattle.std.specs.Prelude.{codes}
use Rattle.rp_base.specs.declared.values.Value.TheVariants.{Number, Text}
use Rattle.rp_request.specs.declared.outcomes.Reply.{Reply}
use Rattle.rp_request.specs.declared.outcomes.Reply.TheVariants.{Old, Now, Set, Count, Range}
use Rattle.rp_request.specs.declared.outcomes.Refusal.{Refusal}
use Rattle.rp_request.specs.declared.outcomes.Refusal.TheVariants.{NoReplica, NotLeaseHolder, RangeMismatch, Latched, ConditionFailed, IsText, Overflow, Short, TooWide, NotInside, SplitLimit}
use Rattle.rp_request.specs.declared.outcomes.Outcome.TheVariants.{Success, Refused, Ambiguous, Pending}
use Rattle.rp_request.specs.declared.outcomes.End.{End}
use Rattle.rp_request.specs.declared.outcomes.End.TheVariants as ends
use Rattle.rp_request.specs.declared.items.Place.{Place}
use Rattle.rp_request.specs.declared.items.Place.TheVariants as places
use Rattle.rp_request.specs.declared.items.Record.{Record}
use Rattle.rp_request.specs.declared.items.Record.TheVariants.{Took, Passed}
use Rattle.rp_report.specs.Words.{newline, spaced}
use Rattle.rp_report.specs.Items.{reply_text, item_text, record_line, did_text}
use Rattle.rp_report.specs.Outcomes.{refusal_text, end_text}
use Rattle.rp_report.specs.InTexts.{reply_in_text, refusal_in_text, end_in_text, item_in_text, record_in_text}

pub reply_untold : (r : Reply) → reply_text (reply_in_text r) ≡ reply_text r
reply_untold (Old None) = refl
reply_untold (Old (Some (Number value))) = refl
reply_untold (Old (Some (Text text))) = refl
reply_untold (Now value) = refl
reply_untold Set = refl
reply_untold (Count count) = refl
reply_untold (Range right) = refl

pub refusal_untold : (r : Refusal) → refusal_text (refusal_in_text r) ≡ refusal_text r
refusal_untold NoReplica = refl
refusal_untold (NotLeaseHolder lease) = refl
refusal_untold (RangeMismatch desc) = refl
refusal_untold (Latched by held) = refl
refusal_untold (ConditionFailed actual) = refl
refusal_untold (IsText key) = refl
refusal_untold (Overflow actual) = refl
refusal_untold (Short actual) = refl
refusal_untold (TooWide count) = refl
refusal_untold NotInside = refl
refusal_untold (SplitLimit level) = refl

pub end_untold : (e : End) → end_text (end_in_text e) ≡ end_text e
end_untold (ends.Outcome (Success reply)) = ap (λ t. codes "ok " ++ t) (reply_untold reply)
end_untold (ends.Outcome (Refused refusal)) = ap (λ t. codes "refused " ++ t) (refusal_untold refusal)
end_untold (ends.Outcome (Ambiguous ambiguity)) = refl
end_untold (ends.Outcome Pending) = refl
end_untold (ends.Tries last) = ap (λ t. codes "refused tries " ++ t) (refusal_untold last)
end_untold ends.Unsent = refl

pub item_untold : (i : Place) → item_text (item_in_text i) ≡ item_text i
item_untold (places.Write id request seq reply) =
    ap (λ t. codes "write " ++ did_text id request ++ codes " under" ++ spaced seq ++ codes " ok " ++ t) (reply_untold reply)
item_untold (places.Split id key right seq) = refl
item_untold (places.Lease lease) = refl

pub record_untold : (index : ℕ) (r : Record) → record_line index (record_in_text r) ≡ record_line index r
record_untold index (Took item) = ap (λ t. codes "place" ++ spaced index ++ codes " " ++ t ++ newline) (item_untold item)
record_untold index (Passed why) = refl
