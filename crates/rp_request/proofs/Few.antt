-- A batch has at most 16 writes.
use Rattle.std.proofs.Common.{◌≡◌, ℕ, ◌≤◌, Bool, true, false, cond, ◌==◌, nat_lt, [], ◌∷◌, length, IfOk, Result, Ok, Err, refl, subst, arith}
use Rattle.std.proofs.lemmas.Bool.Decides.{nat_tests}
use Rattle.std.proofs.lemmas.List.{length-map}
use Rattle.std.specs.FinMap.{keys}
use Rattle.rp_base.specs.Keys.{end_of}
use Rattle.rp_base.specs.declared.ranges.Desc.{Desc}
use Rattle.rp_request.specs.declared.commands.Op.{Op}
use Rattle.rp_request.specs.declared.commands.Op.TheVariants.{Remove}
use Rattle.rp_request.specs.declared.requests.Request.{Request}
use Rattle.rp_request.specs.declared.requests.Request.TheVariants.{Put, Add, CPut, Del, Wipe, Move, Split}
use Rattle.rp_request.specs.declared.outcomes.Refusal.{Refusal}
use Rattle.rp_base.specs.Tables.{Table, part, count_in}
use Rattle.rp_request.specs.Effect.{Effect, effect}
use Rattle.rp_request.specs.declared.evaluations.Evaluated.{Evaluated}
use Rattle.rp_request.specs.Batches.{removes, batch_of}
use Rattle.rp_request.specs.Evaluations.{with_batch, evaluated}
use Rattle.rp_request.proofs.Does.{few_keys}

always : (x : Result Effect Refusal) (n : ℕ) → n ≤ 16 → IfOk x (λ _. n ≤ 16)
always (Ok e) n l = l
always (Err refusal) n l = tt

by_test : (P : Effect → Type 0) (b : Bool) (x y : Result Effect Refusal) → IfOk x P → (b ≡ false → IfOk y P) → IfOk (cond b x y) P
by_test P true x y h k = h
by_test P false x y h k = k refl

not_above : (n : ℕ) → nat_lt 16 n ≡ false → n ≤ 16
not_above n h = grind (arith, nat_tests)

one_or_two : (b : Bool) (x y z : Op) → length (cond b (x ∷ []) (y ∷ z ∷ [])) ≤ 16
one_or_two true x y z = omega arith
one_or_two false x y z = omega arith

removed : (t : Table) (start end : ℕ) → nat_lt 16 (count_in t start end) ≡ false → length (removes (keys (part t start end))) ≤ 16
removed t start end h =
    let few = few_keys (part t start end) (keys (part t start end)) (count_in t start end) refl refl (not_above (count_in t start end) h) in
    let same = length-map (keys (part t start end)) Remove in
    omega arith

few : (t : Table) (d : Desc) (r : Request) → IfOk (effect t d r) (λ _. length (batch_of t r) ≤ 16)
few t d (Put key value) = always (effect t d (Put key value)) 1 (omega arith)
few t d (Add key by) = always (effect t d (Add key by)) 1 (omega arith)
few t d (CPut key expect value) = always (effect t d (CPut key expect value)) 1 (omega arith)
few t d (Del key) = always (effect t d (Del key)) 1 (omega arith)
few t d (Wipe span) =
    by_test (λ _. length (batch_of t (Wipe span)) ≤ 16) (nat_lt 16 (count_in t span.start (end_of span.end))) _ _ tt (removed t span.start (end_of span.end))
few t d (Move from to by) = always (effect t d (Move from to by)) (length (batch_of t (Move from to by))) (one_or_two (from == to) _ _ _)
few t d (Split key) = always (effect t d (Split key)) 0 (omega arith)

pub few_writes : (t : Table) (d : Desc) (r : Request) (e : Evaluated) → evaluated t d r ≡ Ok e → length e.batch ≤ 16
few_writes t d r e h = go (effect t d r) h (few t d r) where
  go : (x : Result Effect Refusal) → with_batch (batch_of t r) x ≡ Ok e → IfOk x (λ _. length (batch_of t r) ≤ 16) → length e.batch ≤ 16
  go (Ok left) h l = let same : record { batch = batch_of t r; reply = left.reply } ≡ e = cc in subst (λ (v : Evaluated). length v.batch ≤ 16) same l
  go (Err refusal) h l = absurd cc
