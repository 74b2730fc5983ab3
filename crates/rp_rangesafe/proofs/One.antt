-- What holds of one attempt, by the list as it will be. Its body is never looked into.
use Rattle.std.proofs.Common.{◌≡◌, ℕ, ◌<◌, ◌≤◌, Bool, false, ◌⊎◌, inl, inr, List, [], refl, sym, subst, ◌∙◌}
use Rattle.std.proofs.lemmas.Bool.{cases_lt}
use Rattle.rp_base.specs.declared.ids.CmdId.{CmdId}
use Rattle.rp_request.specs.declared.commands.Payload.{Payload}
use Rattle.rp_request.specs.declared.commands.Payload.TheVariants.{Write}
use Rattle.rp_request.specs.declared.commands.Command.{Command}
use Rattle.rp_request.specs.declared.outcomes.Reply.{Reply}
use Rattle.rp_request.specs.Applied.{AppliedState, IsBlocked}
use Rattle.rp_rangesafe.specs.Attempts.{Stage, Unborn, Waiting, Proposed, Success, Refused, Overtaken, Removed, Restarted, Attempt, IsBorn, IsEnded, IsClosed, IsOpen, IsUntaken, IsAmong, IsOf}
use Rattle.rp_rangesafe.specs.Along.{state, Takes}
use Rattle.rp_rangesafe.specs.World.{IsEvaluated}
use Rattle.rp_rangesafe.proofs.Numbers.{max_once, blocked_never}

-- a place of the attempt
pub record PlaceOf (b : AppliedState) (f : ℕ → Payload) (id : CmdId) (k : ℕ) (c : Command) : Type 0 where
  pub takes : Takes b f k c
  pub named : c.id ≡ id

-- its place below an index, with this reply
pub record Placed (b : AppliedState) (f : ℕ → Payload) (id : CmdId) (p : ℕ) (reply : Reply) : Type 0 where
  pub k : ℕ
  pub c : Command
  pub below : k < p
  pub place : PlaceOf b f id k c
  pub answers : c.reply ≡ reply

-- an entry of the attempt
pub record Made (a : Attempt) (k : ℕ) (c : Command) : Type 0 where
  pub of : IsOf a c
  pub behind : a.from ≤ k

-- one attempt, where the list has so many entries, its node has applied so many of them, is alive
-- or not, and has this barrier
pub record Good (b : AppliedState) (f : ℕ → Payload) (n p : ℕ) (alive : Bool) (bar : ℕ) (id : CmdId) (a : Attempt) : Type 0 where
  pub fresh : a.stage ≡ Unborn → a.maxima ≡ []
  pub behind : IsBorn a.stage → a.from ≤ p
  pub seq : IsBorn a.stage → (state b f a.from).lease.seq ≡ a.seq
  pub holder : IsBorn a.stage → (state b f a.from).lease.holder ≡ a.node
  pub evaluated : IsBorn a.stage → IsEvaluated (state b f a.from) a.body
  pub entries : (k : ℕ) (c : Command) → k < n → f k ≡ Write c → c.id ≡ id → Made a k c
  pub blocked : (m : ℕ) → IsAmong a.maxima m → IsOpen a.stage m ⊎ IsBlocked (state b f p) a.seq m
  pub untaken : IsUntaken a.stage → (k : ℕ) (c : Command) → k < p → PlaceOf b f id k c → ⊥
  pub only : (o : ℕ) → IsOpen a.stage o → (k : ℕ) (c : Command) → k < p → PlaceOf b f id k c → c.max ≡ o
  pub once : (j k : ℕ) (c d : Command) → j < p → k < p → PlaceOf b f id j c → PlaceOf b f id k d → j ≡ k
  pub success : (reply : Reply) → a.stage ≡ Success reply → Placed b f id p reply
  pub removed : (own : ℕ) → a.stage ≡ Removed own → alive ≡ false
  pub restarted : (own : ℕ) → a.stage ≡ Restarted own → a.seq ≤ bar
  pub positive : (o : ℕ) → IsOpen a.stage o → 0 < o
  pub overtaken : (own passed : ℕ) → a.stage ≡ Overtaken own passed → (0 < own) × (own ≤ passed)

-- at most one maximum is open
pub one_open : (g : Stage) (o m : ℕ) → IsOpen g o → IsOpen g m → o ≡ m
one_open Unborn o m h k = absurd h
one_open Waiting o m h k = absurd h
one_open (Proposed own) o m h k = h ∙ sym k
one_open (Success reply) o m h k = absurd h
one_open Refused o m h k = absurd h
one_open (Overtaken own passed) o m h k = absurd h
one_open (Removed own) o m h k = h ∙ sym k
one_open (Restarted own) o m h k = h ∙ sym k

-- an ended attempt has none
pub closed_shut : (g : Stage) (o : ℕ) → IsClosed g → IsOpen g o → ⊥
closed_shut Unborn o h k = h
closed_shut Waiting o h k = h
closed_shut (Proposed own) o h k = h
closed_shut (Success reply) o h k = k
closed_shut Refused o h k = k
closed_shut (Overtaken own passed) o h k = k
closed_shut (Removed own) o h k = h
closed_shut (Restarted own) o h k = h

pub closed_ended : (g : Stage) → IsClosed g → IsEnded g
closed_ended Unborn h = absurd h
closed_ended Waiting h = absurd h
closed_ended (Proposed own) h = absurd h
closed_ended (Success reply) h = tt
closed_ended Refused h = tt
closed_ended (Overtaken own passed) h = tt
closed_ended (Removed own) h = absurd h
closed_ended (Restarted own) h = absurd h

pub nothing_open : (g : Stage) (o : ℕ) → g ≡ Unborn → IsOpen g o → ⊥
nothing_open g o e h = subst (λ x. IsOpen x o) e h

-- a maximum of an empty list
pub no_maximum : (xs : List ℕ) (m : ℕ) → xs ≡ [] → IsAmong xs m → ⊥
no_maximum xs m e h = subst (λ x. IsAmong x m) e h

-- an attempt with a maximum was admitted
pub born_with : (a : Attempt) (m : ℕ) → (a.stage ≡ Unborn → a.maxima ≡ []) → IsAmong a.maxima m → IsBorn a.stage
born_with a m fresh h = go a.stage refl where
  go : (g : Stage) → a.stage ≡ g → IsBorn g
  go Unborn e = no_maximum a.maxima m (fresh e) h
  go Waiting e = tt
  go (Proposed own) e = tt
  go (Success reply) e = tt
  go Refused e = tt
  go (Overtaken own passed) e = tt
  go (Removed own) e = tt
  go (Restarted own) e = tt

module _ {b : AppliedState} {f : ℕ → Payload} {n p : ℕ} {alive : Bool} {bar : ℕ} {id : CmdId} {a : Attempt} (g : Good b f n p alive bar id a) where
  -- a place that the node has not applied has the open maximum
  pub place_open : (k : ℕ) (c : Command) → p ≤ k → k < n → PlaceOf b f id k c → IsOpen a.stage c.max
  place_open k c l h t = go (g.blocked c.max made.of.max) where
    made : Made a k c
    made = g.entries k c h t.takes.here t.named

    go : IsOpen a.stage c.max ⊎ IsBlocked (state b f p) a.seq c.max → IsOpen a.stage c.max
    go (inl o) = o
    go (inr blocked) = absurd (blocked_never b f p k c a.seq l made.of.seq blocked t.takes)

  -- two places are one
  pub one_place : (j k : ℕ) (c d : Command) → j < n → k < n → PlaceOf b f id j c → PlaceOf b f id k d → j ≡ k
  one_place j k c d hj hk t u = go (cases_lt j p) (cases_lt k p) where
    go : (j < p) ⊎ (p ≤ j) → (k < p) ⊎ (p ≤ k) → j ≡ k
    go (inl lj) (inl lk) = g.once j k c d lj lk t u
    go (inl lj) (inr gk) = let o = place_open k d gk hk u in max_once b f j k c d t.takes u.takes (g.only d.max o j c lj t)
    go (inr gj) (inl lk) = let o = place_open j c gj hj t in max_once b f j k c d t.takes u.takes (sym (g.only c.max o k d lk u))
    go (inr gj) (inr gk) = max_once b f j k c d t.takes u.takes (one_open a.stage c.max d.max (place_open j c gj hj t) (place_open k d gk hk u))

  -- an attempt of which nothing is open, and no place is known, has none
  pub never : IsUntaken a.stage → ((o : ℕ) → IsOpen a.stage o → ⊥) → (k : ℕ) (c : Command) → k < n → PlaceOf b f id k c → ⊥
  never none shut k c h t = go (cases_lt k p) where
    go : (k < p) ⊎ (p ≤ k) → ⊥
    go (inl l) = g.untaken none k c l t
    go (inr ge) = shut c.max (place_open k c ge h t)
