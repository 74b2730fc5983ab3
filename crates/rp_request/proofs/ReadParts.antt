-- An evaluation reads only what its request covers.
use Rattle.std.proofs.Common.{◌≡◌, ℕ, ◌+◌, ◌-◌, Bool, cond, ◌==◌, List, [], ◌∷◌, Result, Ok, Err, refl, sym, ap, ◌∙◌}
use Rattle.std.specs.FinMap.{retain_keys, keys}
use Rattle.rp_base.specs.declared.ranges.Desc.{Desc}
use Rattle.rp_base.specs.declared.values.Value.TheVariants.{Number}
use Rattle.rp_request.specs.declared.commands.Op.{Op}
use Rattle.rp_request.specs.declared.commands.Op.TheVariants.{Set}
use Rattle.rp_request.specs.declared.requests.Request.{Request}
use Rattle.rp_request.specs.declared.requests.Request.TheVariants.{Put, Add, CPut, Del, Wipe, Move, Split}
use Rattle.rp_request.specs.declared.outcomes.Refusal.{Refusal}
use Rattle.rp_base.specs.Tables.{Table, value_at}
use Rattle.rp_request.specs.Covers.{covers}
use Rattle.rp_request.specs.Effect.{Effect, effect, seen}
use Rattle.rp_request.proofs.KeyTests.{itself, covers_from, covers_to}
use Rattle.rp_request.proofs.Locality.{reads, value_alike}
use Rattle.rp_request.specs.declared.evaluations.Evaluated.{Evaluated}
use Rattle.rp_request.specs.Batches.{removes, batch_of}
use Rattle.rp_request.specs.Evaluations.{with_batch, evaluated, Does}
use Rattle.rp_request.proofs.Does.{evaluated_does}

pub batch_reads : (s t : Table) (r : Request) → retain_keys s (covers r) ≡ retain_keys t (covers r) → batch_of s r ≡ batch_of t r
batch_reads s t (Put key value) e = refl
batch_reads s t (Add key by) e = ap (λ v. Set key (Number (v + by)) ∷ []) (value_alike (covers (Add key by)) s t e key (itself key))
batch_reads s t (CPut key expect value) e = refl
batch_reads s t (Del key) e = refl
batch_reads s t (Wipe span) e = ap (λ m. removes (keys m)) e
batch_reads s t (Move from to by) e =
    ap (λ v. cond (from == to) (Set from (Number v) ∷ []) (Set from (Number (v - by)) ∷ Set to (Number (value_at s to + by)) ∷ [])) (value_alike (covers (Move from to by)) s t e from (covers_from from to))
    ∙ ap (λ w. cond (from == to) (Set from (Number (value_at t from)) ∷ []) (Set from (Number (value_at t from - by)) ∷ Set to (Number (w + by)) ∷ [])) (value_alike (covers (Move from to by)) s t e to (covers_to from to))
batch_reads s t (Split key) e = refl

-- the reply and the refusal are seen through any part
same_answer : (p : ℕ → Bool) (ops : List Op) (x : Result Effect Refusal) → with_batch ops (seen p x) ≡ with_batch ops x
same_answer p ops (Ok e) = refl
same_answer p ops (Err refusal) = refl

pub evaluated_reads : (s t : Table) (d : Desc) (r : Request) → retain_keys s (covers r) ≡ retain_keys t (covers r) → evaluated s d r ≡ evaluated t d r
evaluated_reads s t d r e =
    sym (same_answer (covers r) (batch_of s r) (effect s d r))
    ∙ ap (with_batch (batch_of s r)) (reads s t d r e)
    ∙ same_answer (covers r) (batch_of s r) (effect t d r)
    ∙ ap (λ ops. with_batch ops (effect t d r)) (batch_reads s t r e)

-- what was evaluated on one table does on the other what the effect does there
pub does_there : (s t : Table) (d : Desc) (r : Request) (e : Evaluated) → retain_keys s (covers r) ≡ retain_keys t (covers r) → evaluated s d r ≡ Ok e → Does t d r e
does_there s t d r e alike h = evaluated_does t d r e (sym (evaluated_reads s t d r alike) ∙ h)
