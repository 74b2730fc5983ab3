-- Why an evaluation fails: a refusal, or want of memory.
use Rattle.std.specs.Prelude.{Option, None, Some, Result}
use Rattle.rp_base.specs.Gives as results
use Rattle.rp_base.specs.declared.ranges.SplitFault.{SplitFault}
use Rattle.rp_base.specs.declared.ranges.SplitFault.TheVariants as faults
use Rattle.rp_request.specs.declared.outcomes.Refusal.{Refusal}
use Rattle.rp_request.specs.declared.outcomes.Refusal.TheVariants as refusals
use Rattle.rp_request.specs.declared.evaluations.Evaluated.{Evaluated}
use Rattle.rp_eval.specs.declared.evaluations.EvalFault.{EvalFault}
use Rattle.rp_eval.specs.declared.evaluations.EvalFault.TheVariants.{ConditionFailed, IsText, Overflow, Short, TooWide, NotInside, SplitLimit, NoMemory}

-- the refusal that a fault stands for: none for want of memory
abbrev pub refusal_of : EvalFault → Option Refusal
refusal_of (ConditionFailed actual) = Some (refusals.ConditionFailed actual)
refusal_of (IsText key) = Some (refusals.IsText key)
refusal_of (Overflow actual) = Some (refusals.Overflow actual)
refusal_of (Short actual) = Some (refusals.Short actual)
refusal_of (TooWide count) = Some (refusals.TooWide count)
refusal_of NotInside = Some refusals.NotInside
refusal_of (SplitLimit level) = Some (refusals.SplitLimit level)
refusal_of NoMemory = None

-- the fault that is no refusal
abbrev pub no_memory : EvalFault
no_memory = NoMemory

-- the fault that a split's is
abbrev pub split_fault : SplitFault → EvalFault
split_fault faults.NotInside = NotInside
split_fault (faults.SplitLimit level) = SplitLimit level

-- the answer is this one, or want of memory
abbrev pub Gives : Result Evaluated EvalFault → Result Evaluated Refusal → Type 0
Gives = results.Gives (λ e. e) refusal_of
