-- An answer that the definition gives does the effect.
use Rattle.std.proofs.Common.{◌≡◌, IfOk, Result, Ok, Err, sym, subst}
use Rattle.std.specs.FinMap.{keys}
use Rattle.rp_base.specs.Spans.{span_of}
use Rattle.rp_base.specs.declared.spans.Span.{Span}
use Rattle.rp_base.specs.declared.spans.KeySpan.{KeySpan}
use Rattle.rp_base.specs.declared.ranges.Desc.{Desc}
use Rattle.rp_request.specs.declared.requests.Request.{Request}
use Rattle.rp_request.specs.declared.requests.Request.TheVariants.{Wipe}
use Rattle.rp_request.specs.declared.evaluations.Evaluated.{Evaluated}
use Rattle.rp_base.specs.Tables.{Table, part}
use Rattle.rp_request.specs.Effect.{wipe}
use Rattle.rp_request.specs.Batches.{removes}
use Rattle.rp_request.specs.Evaluations.{with_batch, evaluated, Does}
use Rattle.rp_request.proofs.Does.{evaluated_does}
use Rattle.rp_eval.specs.declared.evaluations.EvalFault.{EvalFault}
use Rattle.rp_eval.specs.Faults.{Gives}

module _ (t : Table) (d : Desc) where
  -- an answer that the definition gives does the effect
  pub gives_does : (r q : Request) (x : Result Evaluated EvalFault) → r ≡ q → Gives x (evaluated t d q) → IfOk x (Does t d r)
  gives_does r q (Ok e) same g = subst (λ y. Does t d y e) (sym same) (evaluated_does t d q e g)
  gives_does r q (Err fault) same g = tt

  pub gives_at : (r q : Request) (x : Result Evaluated EvalFault) → r ≡ q → Gives x (evaluated t d q) → Gives x (evaluated t d r)
  gives_at r q x same g = subst (λ y. Gives x (evaluated t d y)) (sym same) g

  pub gives_wipe : (span : KeySpan) (s : Span) (x : Result Evaluated EvalFault) → s ≡ span_of span
      → Gives x (with_batch (removes (keys (part t s.start s.end))) (wipe t d s.start s.end)) → Gives x (evaluated t d (Wipe span))
  gives_wipe span s x same g = subst (λ (y : Span). Gives x (with_batch (removes (keys (part t y.start y.end))) (wipe t d y.start y.end))) same g
