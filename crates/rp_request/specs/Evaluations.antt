-- What an evaluation answers.
use Rattle.std.specs.Prelude.{◌≡◌, List, Result, Ok, Err}
use Rattle.rp_base.specs.declared.ranges.Desc.{Desc}
use Rattle.rp_request.specs.declared.commands.Op.{Op}
use Rattle.rp_request.specs.declared.evaluations.Evaluated.{Evaluated}
use Rattle.rp_request.specs.declared.requests.Request.{Request}
use Rattle.rp_request.specs.declared.outcomes.Refusal.{Refusal}
use Rattle.rp_base.specs.Tables.{Table}
use Rattle.rp_request.specs.Effect.{Effect, effect}
use Rattle.rp_request.specs.Batches.{batch_of, after_batch}

-- the reply of an effect with a batch, or its refusal
abbrev pub with_batch : List Op → Result Effect Refusal → Result Evaluated Refusal
with_batch ops (Ok e) = Ok (record { batch = ops; reply = e.reply })
with_batch ops (Err refusal) = Err refusal

-- the batch and the reply of a request, or the refusal of its effect
abbrev pub evaluated : Table → Desc → Request → Result Evaluated Refusal
evaluated t d r = with_batch (batch_of t r) (effect t d r)

-- on this table the batch and the reply do what the request's effect does
pub record Does (t : Table) (d : Desc) (r : Request) (e : Evaluated) : Type 0 where
  pub left : Effect
  pub takes : effect t d r ≡ Ok left
  pub table : after_batch t r e.batch ≡ left.table
  pub reply : e.reply ≡ left.reply
