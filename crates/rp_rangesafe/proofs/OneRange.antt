-- Laws of one range.
use Rattle.std.proofs.Common.{[], ◌≡◌, ℕ, ◌<◌, ◌≤◌, ◌⊎◌, inl, inr, length, Some, refl, sym, ap, subst, ◌∙◌, arith}
use Rattle.std.proofs.lemmas.Bool.{cases_lt}
use Rattle.rp_base.specs.declared.ids.CmdId.{CmdId}
use Rattle.rp_request.specs.declared.commands.Command.{Command}
use Rattle.rp_request.specs.declared.outcomes.Reply.{Reply}
use Rattle.rp_request.specs.Items as items
use Rattle.rp_request.specs.Evaluations.{Does}
use Rattle.rp_request.specs.Applied.{IsBlocked}
use Rattle.rp_rangesafe.specs.Attempts.{Stage, Unborn, Success, Refused, Overtaken, Restarted, Attempt, IsEnded, IsOpen, IsUntaken, IsAmong}
use Rattle.rp_rangesafe.specs.Along.{entry, state, Takes}
use Rattle.rp_rangesafe.specs.World.{World, state_at, here}
use Rattle.rp_rangesafe.specs.Places.{IsReached, IsLater, IsFurther, IsPlace, IsDeadByStage, IsDeadForGood, HasNever, IsPlacedWith, IsLawfulPlace, items_to}
use Rattle.rp_request.specs.States.{shown}
use Rattle.rp_rangesafe.proofs.Numbers.{onward, one_holder, timely_at, blocked_never}
use Rattle.rp_rangesafe.proofs.One.{Good, one_place, never, place_open, born_with}
use Rattle.rp_rangesafe.proofs.Worlds.{extends_itself, Sound}
use Rattle.rp_rangesafe.proofs.Untouched.{seq_at, place_evaluated, place_desc}
use Rattle.rp_rangesafe.proofs.Folds as folds
use Rattle.rp_rangesafe.proofs.Runs.{sound_reached, later_grown, Ahead, look_ahead, place_of, place_from}

pub numbers_rise : (w : World) (i j : ℕ) → i ≤ j → IsFurther (state_at w i) (state_at w j)
numbers_rise w = onward w.start (entry w.log)

pub holder_by_sequence : (w : World) (i j : ℕ) → (state_at w i).lease.seq ≡ (state_at w j).lease.seq → (state_at w i).lease.holder ≡ (state_at w j).lease.holder
holder_by_sequence w = one_holder w.start (entry w.log)

itself : (w : World) → IsReached w → Sound (entry w.log) w
itself w r = sound_reached (entry w.log) w r (extends_itself w.log)

pub dead_by_stage : (w : World) → IsReached w → (id : CmdId) → IsDeadByStage w id
dead_by_stage w r id = let g = (itself w r).good id in record {
  untaken = λ h k c l p. g.untaken h k c l (place_of w id k c p);
  blocked = g.blocked;
}

pub dead_for_good : (w : World) → IsReached w → (id : CmdId) (m : ℕ) → IsAmong (w.attempt id).maxima m
    → (IsOpen (w.attempt id).stage m → ⊥) → IsDeadForGood w id m
dead_for_good w r id m among shut later k c l p same = go (cases_lt k (w.index (w.attempt id).node)) ((g.blocked) m among) where
  x : Ahead w later
  x = look_ahead w later r l

  g : Good w.start (entry later.log) (length w.log) (w.index (w.attempt id).node) (w.alive (w.attempt id).node) (w.barrier (w.attempt id).node) id (w.attempt id)
  g = x.now.good id

  seq_same : c.seq ≡ (w.attempt id).seq
  seq_same = ((x.then.good id).entries k c p.within p.takes.here p.named).of.seq ∙ sym ((later_grown w later l id).same (born_with (w.attempt id) m g.fresh among)).seq

  go : (k < w.index (w.attempt id).node) ⊎ (w.index (w.attempt id).node ≤ k)
      → IsOpen (w.attempt id).stage m ⊎ IsBlocked (state w.start (entry later.log) (w.index (w.attempt id).node)) (w.attempt id).seq m
      → k < w.index (w.attempt id).node
  go (inl lt) h = lt
  go (inr ge) (inl o) = absurd (shut o)
  go (inr ge) (inr blocked) = absurd (blocked_never w.start (entry later.log) (w.index (w.attempt id).node) k c (w.attempt id).seq ge seq_same
      (subst (IsBlocked (state w.start (entry later.log) (w.index (w.attempt id).node)) (w.attempt id).seq) (sym same) blocked)
      (place_from w later x.start id k c p).takes)

pub one_place_of : (w : World) → IsReached w → (id : CmdId) (j k : ℕ) (c d : Command) → IsPlace w id j c → IsPlace w id k d → j ≡ k
one_place_of w r id j k c d p q = one_place ((itself w r).good id) j k c d p.within q.within (place_of w id j c p) (place_of w id k d q)

-- an ended attempt is the same in what comes later
still : (w later : World) → IsLater w later → (id : CmdId) (g : Stage) → (w.attempt id).stage ≡ g → IsEnded g → (later.attempt id).stage ≡ g
still w later l id g e h = ap (λ (a : Attempt). a.stage) (sym ((later_grown w later l id).ended (subst IsEnded (sym e) h))) ∙ e

pub refused_never : (w : World) → IsReached w → (id : CmdId) → (w.attempt id).stage ≡ Refused → HasNever w id
refused_never w r id e later k c l p =
    let x = look_ahead w later r l in
    let s = still w later l id Refused e tt in
    never (x.then.good id) (subst IsUntaken (sym s) tt) (λ o h. subst (λ g. IsOpen g o) s h) k c p.within (place_of later id k c p)

pub success_is_placed : (w : World) → IsReached w → (id : CmdId) (reply : Reply) → (w.attempt id).stage ≡ Success reply → IsPlacedWith w id reply
success_is_placed w r id reply e =
    let s = itself w r in
    let t = (s.good id).success reply e in
    record {
      index = t.k;
      command = t.c;
      place = record { within = let l = t.below in let m = s.within (w.attempt id).node in omega arith; takes = t.place.takes; named = t.place.named };
      applied = t.below;
      answers = t.answers;
    }

pub overtaken_passed : (w : World) → IsReached w → (id : CmdId) (own passed : ℕ) → (w.attempt id).stage ≡ Overtaken own passed → (0 < own) × (own ≤ passed)
overtaken_passed w r id = ((itself w r).good id).overtaken

pub open_positive : (w : World) → IsReached w → (id : CmdId) (own : ℕ) → IsOpen (w.attempt id).stage own → 0 < own
open_positive w r id = ((itself w r).good id).positive

-- an attempt that a restart ended is taken under its last maximum alone
pub restarted_own : (w : World) → IsReached w → (id : CmdId) (own : ℕ) → (w.attempt id).stage ≡ Restarted own
    → (later : World) (k : ℕ) (c : Command) → IsLater w later → IsPlace later id k c → c.max ≡ own
restarted_own w r id own e later k c l p = go (cases_lt k (later.index (later.attempt id).node)) where
  x : Ahead w later
  x = look_ahead w later r l

  s : (later.attempt id).stage ≡ Restarted own
  s = still w later l id (Restarted own) e tt

  go : (k < later.index (later.attempt id).node) ⊎ (later.index (later.attempt id).node ≤ k) → c.max ≡ own
  go (inl lt) = (x.then.good id).only own (subst (λ g. IsOpen g own) (sym s) refl) k c lt (place_of later id k c p)
  go (inr ge) = subst (λ g. IsOpen g c.max) s (place_open (x.then.good id) k c ge p.within (place_of later id k c p))

-- the command of the attempt that it names
renamed : (w : World) (P : CmdId → Type 0) (id : CmdId) (c : Command) → c.id ≡ id → P c.id → P id
renamed w P id c e h = subst P e h

lawful_own : (w : World) → IsReached w → (k : ℕ) (c : Command) → k < length w.log → Takes w.start (entry w.log) k c → IsLawfulPlace w c.id k c
lawful_own w r k c l t =
    let s = itself w r in
    let m = (s.good c.id).entries k c l t.here refl in
    let u = timely_at w.start (entry w.log) k c t in
    let b = born_with (w.attempt c.id) c.max (s.good c.id).fresh m.of.max in
    let same = seq_at (entry w.log) w s k c l t in
    record {
      of = m.of;
      behind = m.behind;
      seq = u.seq;
      admitted = same ∙ sym u.seq;
      holder = one_holder w.start (entry w.log) k (w.attempt c.id).from (sym same) ∙ (s.good c.id).holder b;
      desc = sym (place_desc (entry w.log) w s k c l t);
      evaluates = place_evaluated (entry w.log) w s k c l t;
    }

pub lawful_place : (w : World) → IsReached w → (id : CmdId) (k : ℕ) (c : Command) → IsPlace w id k c → IsLawfulPlace w id k c
lawful_place w r id k c p = renamed w (λ i. IsLawfulPlace w i k c) id c p.named (lawful_own w r k c p.within p.takes)

pub effect_at_place : (w : World) → IsReached w → (id : CmdId) (k : ℕ) (c : Command) → IsPlace w id k c
    → Does (state_at w k).table (state_at w k).desc c.request (record { batch = c.batch; reply = c.reply })
effect_at_place w r id k c p = folds.does_on (state_at w k) c (place_evaluated (entry w.log) w (itself w r) k c p.within p.takes)

pub fold_is_state : (w : World) → IsReached w → (i : ℕ) → i ≤ length w.log → items.fold (shown w.start) (items_to w i) ≡ Some (shown (state_at w i))
fold_is_state w r = folds.fold_is_state w (λ k c l t. place_evaluated (entry w.log) w (itself w r) k c l t)

pub stands_within : (w : World) → IsReached w → (node : ℕ) → w.index node ≤ length w.log
stands_within w r = (itself w r).within

pub none_unborn : (w : World) → IsReached w → (id : CmdId) → (w.attempt id).stage ≡ Unborn → (w.attempt id).maxima ≡ []
none_unborn w r id = ((itself w r).good id).fresh

pub ended_stays : (w : World) (later : World) → IsLater w later → (id : CmdId) → IsEnded (w.attempt id).stage → w.attempt id ≡ later.attempt id
ended_stays w later l id h = (later_grown w later l id).ended h

pub node_shows : (w : World) → IsReached w → (node : ℕ) → items.fold (shown w.start) (items_to w (w.index node)) ≡ Some (shown (here w node))
node_shows w r node = fold_is_state w r (w.index node) (stands_within w r node)
