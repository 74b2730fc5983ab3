-- The text of how an attempt ended.
use Rattle.std.specs.Prelude.{ℕ, List, ◌++◌, Option, codes}
use Rattle.rp_base.specs.declared.Desc.{Desc}
use Rattle.rp_base.specs.declared.values.Value.{Value}
use Rattle.rp_request.specs.declared.outcomes.Refusal.{Refusal}
use Rattle.rp_request.specs.declared.outcomes.Refusal.TheVariants.{NoReplica, NotLeaseHolder, RangeMismatch, Latched, ConditionFailed, IsText, Overflow, Short, TooWide, NotInside, SplitLimit}
use Rattle.rp_request.specs.declared.outcomes.Ambiguity.{Ambiguity}
use Rattle.rp_request.specs.declared.outcomes.Ambiguity.TheVariants.{Snapshot, Removed, Restarted}
use Rattle.rp_request.specs.declared.outcomes.Outcome.{Outcome}
use Rattle.rp_request.specs.declared.outcomes.Outcome.TheVariants.{Success, Refused, Ambiguous, Pending}
use Rattle.rp_request.specs.declared.outcomes.End.{End}
use Rattle.rp_request.specs.declared.outcomes.End.TheVariants as ends
use Rattle.rp_report.specs.Words.{spaced, spaced_key, spaced_bound, value_or_none, attempt_text}
use Rattle.rp_report.specs.Items.{reply_text}

-- a range that a request does not fit: its number, its bounds and its level
abbrev pub mismatch_text : Desc → List ℕ
mismatch_text desc =
    codes "range-mismatch" ++ spaced desc.id ++ spaced_bound desc.start ++ spaced_bound desc.end
    ++ spaced desc.level

-- another node holds the lease, under this number
abbrev pub holder_text : ℕ → ℕ → List ℕ
holder_text holder seq = codes "not-lease-holder" ++ spaced holder ++ spaced seq

-- the key has another value
abbrev pub actual_text : Option Value → List ℕ
actual_text actual = codes "condition-failed " ++ value_or_none actual

-- a refusal, with the value that shows it
abbrev pub refusal_text : Refusal → List ℕ
refusal_text NoReplica = codes "no-replica"
refusal_text (NotLeaseHolder lease) = holder_text lease.holder lease.seq
refusal_text (RangeMismatch desc) = mismatch_text desc
refusal_text (Latched by held) = codes "latched " ++ attempt_text by
refusal_text (ConditionFailed actual) = actual_text actual
refusal_text (IsText key) = codes "is-text" ++ spaced_key key
refusal_text (Overflow actual) = codes "overflow" ++ spaced actual
refusal_text (Short actual) = codes "short" ++ spaced actual
refusal_text (TooWide count) = codes "too-wide" ++ spaced count
refusal_text NotInside = codes "not-inside"
refusal_text (SplitLimit level) = codes "split-limit" ++ spaced level

-- why nobody can tell
abbrev pub ambiguity_text : Ambiguity → List ℕ
ambiguity_text (Snapshot own passed) = codes "snapshot" ++ spaced own ++ spaced passed
ambiguity_text (Removed own) = codes "removed" ++ spaced own
ambiguity_text (Restarted own) = codes "restarted" ++ spaced own

-- how an attempt ended
abbrev pub outcome_text : Outcome → List ℕ
outcome_text (Success reply) = codes "ok " ++ reply_text reply
outcome_text (Refused refusal) = codes "refused " ++ refusal_text refusal
outcome_text (Ambiguous ambiguity) = codes "ambiguous " ++ ambiguity_text ambiguity
outcome_text Pending = codes "pending"

-- the last refusal of a command whose tries ended
abbrev pub tries_text : Refusal → List ℕ
tries_text last = codes "refused tries " ++ refusal_text last

-- what a client knows of an attempt
abbrev pub end_text : End → List ℕ
end_text (ends.Outcome outcome) = outcome_text outcome
end_text (ends.Tries last) = tries_text last
end_text ends.Unsent = codes "unsent"
