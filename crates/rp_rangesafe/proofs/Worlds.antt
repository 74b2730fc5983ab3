-- What holds of a range at any time, by the list as it will be.
use Rattle.std.proofs.Common.{◌≡◌, ℕ, suc, ◌<◌, ◌≤◌, Bool, true, false, IsFalse, ◌⊎◌, inl, inr, List, [], ◌∷◌, ◌++◌, length, refl, sym, ap, subst, ◌∙◌, arith}
use Rattle.std.proofs.Math.ListN.{get_or-append}
use Rattle.std.proofs.Math.Seq.{get_or-append_seam}
use Rattle.std.proofs.lemmas.List.{length-append}
use Rattle.rp_base.specs.declared.ids.CmdId.{CmdId}
use Rattle.rp_request.specs.declared.commands.Payload.{Payload}
use Rattle.rp_request.specs.declared.commands.Payload.TheVariants.{Nothing}
use Rattle.rp_request.specs.Covers.{covers, Apart}
use Rattle.rp_request.specs.Applied.{AppliedState, IsBlocked}
use Rattle.rp_rangesafe.specs.Attempts.{Body, Stage, Attempt, Attempts, IsBorn, IsEnded, IsClosed, IsAmong, staged}
use Rattle.rp_rangesafe.specs.Along.{entry, state}
use Rattle.rp_rangesafe.specs.World.{World, state_at, begin}
use Rattle.rp_rangesafe.proofs.Numbers.{same_state}
use Rattle.rp_rangesafe.proofs.One.{Good, closed_ended}
use Rattle.rp_rangesafe.proofs.Moves.{Move, good_moved}
use Rattle.rp_rangesafe.proofs.Turns.{unborn_good}

-- the list as it will be has the entries of the list so far
pub record Extends (f : ℕ → Payload) (log : List Payload) : Type 0 where
  pub at : (k : ℕ) → k < length log → f k ≡ entry log k

pub extends_itself : (log : List Payload) → Extends (entry log) log
extends_itself log = record { at = λ k l. refl }

module _ (f : ℕ → Payload) (log : List Payload) (p : Payload) (x : Extends f (log ++ p ∷ [])) where
  pub one_longer : length (log ++ p ∷ []) ≡ suc (length log)
  one_longer = let e = length-append log (p ∷ []) in omega arith

  pub extends_less : Extends f log
  extends_less = record { at = λ k l. let e = one_longer in x.at k (omega arith) ∙ get_or-append log (p ∷ []) Nothing k l }

  pub extends_last : f (length log) ≡ p
  extends_last = let e = one_longer in x.at (length log) (omega arith) ∙ get_or-append_seam log p [] Nothing

-- the states of the list so far are those of the list as it will be
pub state_so_far : (f : ℕ → Payload) (w : World) → Extends f w.log → (i : ℕ) → i ≤ length w.log → state_at w i ≡ state w.start f i
state_so_far f w x i l = same_state w.start (entry w.log) f i (λ k lt. sym (x.at k (omega arith)))

-- an attempt has ended, and at this index all its maxima are blocked
pub record Done (b : AppliedState) (f : ℕ → Payload) (a : Attempt) (i : ℕ) : Type 0 where
  pub closed : IsClosed a.stage
  pub blocked : (m : ℕ) → IsAmong a.maxima m → IsBlocked (state b f i) a.seq m

-- of two attempts of one node under one sequence the keys are apart, or one was done when the other
-- was admitted
pub record Pair (b : AppliedState) (f : ℕ → Payload) (x y : Attempt) : Type 0 where
  pub apart : IsBorn x.stage → IsBorn y.stage → x.node ≡ y.node → x.seq ≡ y.seq
      → Apart (covers x.body.request) (covers y.body.request) ⊎ (Done b f x y.from ⊎ Done b f y x.from)

-- a range, of which the list as it will be is f
pub record Sound (f : ℕ → Payload) (w : World) : Type 0 where
  pub within : (node : ℕ) → w.index node ≤ length w.log
  pub good : (id : CmdId) → Good w.start f (length w.log) (w.index (w.attempt id).node) (w.alive (w.attempt id).node) (w.barrier (w.attempt id).node) id (w.attempt id)
  pub pairs : (x y : CmdId) → (x ≡ y → ⊥) → Pair w.start f (w.attempt x) (w.attempt y)

-- what no event but the admission changes of an attempt
pub record Kept (x x' : Attempt) : Type 0 where
  pub node : x.node ≡ x'.node
  pub start : x.from ≡ x'.from
  pub seq : x.seq ≡ x'.seq
  pub body : x.body ≡ x'.body
  pub born : IsBorn x'.stage → IsBorn x.stage
  pub ended : IsEnded x.stage → x ≡ x'

pub kept_same : (x : Attempt) → Kept x x
kept_same x = record { node = refl; start = refl; seq = refl; body = refl; born = λ h. h; ended = λ _. refl }

apart_swapped : (p r : ℕ → Bool) → Apart p r → Apart r p
apart_swapped p r h key t = go (p key) refl where
  go : (v : Bool) → p key ≡ v → IsFalse (p key)
  go true e = let no = h key e in absurd cc
  go false e = e

swapped : {A B C D : Type 0} → (A → B) → A ⊎ (C ⊎ D) → B ⊎ (D ⊎ C)
swapped h (inl a) = inl (h a)
swapped h (inr (inl c)) = inr (inr c)
swapped h (inr (inr d)) = inr (inl d)

pub pair_swapped : (b : AppliedState) (f : ℕ → Payload) (x y : Attempt) → Pair b f x y → Pair b f y x
pair_swapped b f x y h = record { apart = λ hy hx e s. swapped (apart_swapped _ _) (h.apart hx hy (sym e) (sym s)) }

-- a pair stays one
pub pair_kept : (b : AppliedState) (f : ℕ → Payload) (x y x' y' : Attempt) → Pair b f x y → Kept x x' → Kept y y' → Pair b f x' y'
pair_kept b f x y x' y' h k l = record { apart = λ hx hy e s. go (h.apart (k.born hx) (l.born hy) (k.node ∙ e ∙ sym l.node) (k.seq ∙ s ∙ sym l.seq)) } where
  bodies : Apart (covers x.body.request) (covers y.body.request) → Apart (covers x'.body.request) (covers y'.body.request)
  bodies a = subst (λ (r : Body). Apart (covers x'.body.request) (covers r.request)) l.body (subst (λ (r : Body). Apart (covers r.request) (covers y.body.request)) k.body a)

  go : Apart (covers x.body.request) (covers y.body.request) ⊎ (Done b f x y.from ⊎ Done b f y x.from)
      → Apart (covers x'.body.request) (covers y'.body.request) ⊎ (Done b f x' y'.from ⊎ Done b f y' x'.from)
  go (inl a) = inl (bodies a)
  go (inr (inl d)) = inr (inl (subst (λ z. Done b f z y'.from) (k.ended (closed_ended x.stage d.closed)) (subst (Done b f x) l.start d)))
  go (inr (inr d)) = inr (inr (subst (λ z. Done b f z x'.from) (l.ended (closed_ended y.stage d.closed)) (subst (Done b f y) k.start d)))

-- an attempt before and after an event
pub record Turn (b : AppliedState) (f : ℕ → Payload) (n p : ℕ) (alive : Bool) (bar : ℕ) (id : CmdId) (a x : Attempt) : Type 0 where
  pub good : Good b f n p alive bar id x
  pub kept : Kept a x

-- it goes to another stage
pub turn_staged : {b : AppliedState} {f : ℕ → Payload} {n p : ℕ} {alive : Bool} {bar : ℕ} {id : CmdId} {a : Attempt} (x : Good b f n p alive bar id a)
    {q : ℕ} {alive' : Bool} {bar' : ℕ} {g : Stage} → Move b f n p q alive' bar' id a g → (IsEnded a.stage → a.stage ≡ g)
    → Turn b f n q alive' bar' id a (staged a g)
turn_staged {a} x m ended = record {
  good = good_moved x m;
  kept = record { node = refl; start = refl; seq = refl; body = refl; born = λ h. m.born h; ended = λ h. ap (staged a) (ended h) };
}

-- all attempts turn, and the range stays sound
pub sound_by : (f : ℕ → Payload) (w : World) → Sound f w → (log : List Payload) (index : ℕ → ℕ) (alive : ℕ → Bool) (barrier : ℕ → ℕ) (attempt : Attempts)
    → ((node : ℕ) → index node ≤ length log)
    → ((q : CmdId) → Turn w.start f (length log) (index (attempt q).node) (alive (attempt q).node) (barrier (attempt q).node) q (w.attempt q) (attempt q))
    → Sound f (record { start = w.start; log = log; index = index; alive = alive; barrier = barrier; attempt = attempt })
sound_by f w s log index alive barrier attempt within turn = record {
  within = within;
  good = λ q. (turn q).good;
  pairs = λ x y ne. pair_kept w.start f (w.attempt x) (w.attempt y) (attempt x) (attempt y) (s.pairs x y ne) (turn x).kept (turn y).kept;
}

-- a range that starts
pub sound_begin : (f : ℕ → Payload) (b : AppliedState) → Sound f (begin b)
sound_begin f b = record {
  within = λ node. omega arith;
  good = λ id. unborn_good b f id;
  pairs = λ x y ne. record { apart = λ h. absurd h };
}
