-- A list that is mapped in place, and what stays.
use Rattle.std.proofs.Common.{◌≡◌, ℕ, zero, suc, ◌<◌, ◌≤◌, Bool, true, false, if◌then◌else◌, List, [], ◌∷◌, ◌++◌, map, take, drop, get_or, set, length, All, Option, None, Some, refl, sym, ap, subst, arith}
use Rattle.std.proofs.lemmas.List.Elements.{All-head, All-tail, All-cons, All-take, All-drop, All-append}
use Rattle.rp_base.specs.Ids.{same_id}
use Rattle.rp_base.specs.declared.ids.CmdId.{CmdId}
use Rattle.rp_request.specs.declared.outcomes.Outcome.{Outcome}
use Rattle.rp_clients.specs.Tries.{Try, learns, ended_so}

pub mapped_more : {X : Type 0} (f : X → X) (d : X) (xs : List X) (i : ℕ) → i < length xs
    → take (suc i) (set xs i (f (get_or xs i d))) ++ map f (drop (suc i) (set xs i (f (get_or xs i d)))) ≡ take i xs ++ map f (drop i xs)
mapped_more f d [] i lt = absurd (omega (arith, lt))
mapped_more f d (x ∷ xs) zero lt = refl
mapped_more f d (x ∷ xs) (suc i) lt = ap (λ (ys : List _). x ∷ ys) (mapped_more f d xs i (omega (arith, lt)))

-- an end leaves the rounds of a try
ended_rounds : (id : CmdId) (outcome : Outcome) (t : Try) (end : Option Outcome) → (ended_so id outcome t end).rounds ≡ t.rounds
ended_rounds id outcome t None = go (same_id t.id id) where
  go : (b : Bool) → (if b then record t { end = Some outcome } else t).rounds ≡ t.rounds
  go true = refl
  go false = refl
ended_rounds id outcome t (Some known) = refl

learnt_rounds : (id : CmdId) (outcome : Outcome) (most : ℕ) (tries : List Try) → All (λ (t : Try). t.rounds ≤ most) tries
    → All (λ (t : Try). t.rounds ≤ most) (learns id outcome tries)
learnt_rounds id outcome most [] h = h
learnt_rounds id outcome most (t ∷ older) h =
    All-cons (λ (x : Try). x.rounds ≤ most) (ended_so id outcome t t.end) (learns id outcome older)
    (rw (ended_rounds id outcome t t.end) (All-head (λ (x : Try). x.rounds ≤ most) t older h))
    (learnt_rounds id outcome most older (All-tail (λ (x : Try). x.rounds ≤ most) t older h))

pub came_still : (id : CmdId) (outcome : Outcome) (n most : ℕ) (old new : List Try) → new ≡ learns id outcome old
    → All (λ (t : Try). t.rounds ≤ most) old
    → All (λ (t : Try). t.rounds ≤ most) (take n (new ++ drop (length new) old))
came_still id outcome n most old new e h =
    All-take (λ (t : Try). t.rounds ≤ most) n (new ++ drop (length new) old)
    (All-append (λ (t : Try). t.rounds ≤ most) new (drop (length new) old)
    (subst (All (λ (t : Try). t.rounds ≤ most)) (sym e) (learnt_rounds id outcome most old h))
    (All-drop (λ (t : Try). t.rounds ≤ most) (length new) old h))
