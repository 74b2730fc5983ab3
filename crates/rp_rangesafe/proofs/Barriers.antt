-- A node's barrier: what it admits after a restart is under a later lease sequence.
use Rattle.std.proofs.Common.{◌≡◌, ℕ, suc, ◌<◌, ◌≤◌, true, ◌⊎◌, inl, inr, List, [], ◌∷◌, length, refl, sym, ap, subst, ◌∙◌, arith}
use Rattle.rp_base.specs.declared.ids.CmdId.{CmdId}
use Rattle.rp_request.specs.declared.commands.Payload.{Payload}
use Rattle.rp_request.specs.Applied.{AppliedState}
use Rattle.rp_rangesafe.specs.Attempts.{Stage, Unborn, Waiting, Proposed, Success, Refused, Overtaken, Removed, Restarted, Attempt, IsBorn}
use Rattle.rp_rangesafe.specs.Along.{entry, state}
use Rattle.rp_rangesafe.specs.World.{World, here, begin, Event, Admit, Flush, Return, Refuse, Commit, Apply, Snapshot, Remove, Restart, Lawful, AllLawful, admitted, happens, run, with_node}
use Rattle.rp_rangesafe.specs.Places.{IsReached, IsLater}
use Rattle.rp_rangesafe.proofs.Tables.{node_same, at_with_node, at_attempt}
use Rattle.rp_rangesafe.proofs.Numbers.{onward, one_holder}
use Rattle.rp_rangesafe.proofs.One.{Good}
use Rattle.rp_rangesafe.proofs.Moves.{seq_behind}
use Rattle.rp_rangesafe.proofs.Worlds.{Extends, extends_itself, state_so_far, Sound, sound_begin}
use Rattle.rp_rangesafe.proofs.Sounds.{extends_before, sound_step}
use Rattle.rp_rangesafe.proofs.Growth.{Same, grown_run, Admits, made_before}
use Rattle.rp_rangesafe.proofs.Runs.{run_extends, sound_reached, later_extends, later_reached, later_further, later_grown}

-- no barrier is above the lease sequence where the node stands
pub record Barred (f : ℕ → Payload) (w : World) : Type 0 where
  pub below : (node : ℕ) → w.barrier node ≤ (state w.start f (w.index node)).lease.seq

module _ (f : ℕ → Payload) (w : World) (s : Sound f w) (x : Extends f w.log) (h : Barred f w) where
  goes_on : (node to : ℕ) → w.index node ≤ to → (m : ℕ) → w.barrier m ≤ (state w.start f (with_node w.index node to m)).lease.seq
  goes_on node to l = at_with_node (λ m i. w.barrier m ≤ (state w.start f i).lease.seq) w.index node to
      (let up = (onward w.start f (w.index node) to l).numbers.seq in let b = h.below node in omega arith) (λ m _. h.below m)

  here_is : (node : ℕ) → (here w node).lease.seq ≡ (state w.start f (w.index node)).lease.seq
  here_is node = ap (λ (t : AppliedState). t.lease.seq) (state_so_far f w x (w.index node) (s.within node))

  barred_step : (e : Event) → Lawful w e → Barred f (happens w e)
  barred_step (Admit id node body) l = record { below = h.below }
  barred_step (Flush id max) l = record { below = h.below }
  barred_step (Return id) l = record { below = h.below }
  barred_step (Refuse id) l = record { below = h.below }
  barred_step (Commit p) l = record { below = h.below }
  barred_step (Apply node) l = record { below = goes_on node (suc (w.index node)) (omega arith) }
  barred_step (Snapshot node to) l = record { below = goes_on node to l.onward }
  barred_step (Remove node) l = record { below = h.below }
  barred_step (Restart node) l = record {
    below = at_with_node (λ m v. v ≤ (state w.start f (w.index m)).lease.seq) w.barrier node (here w node).lease.seq
        (let e = here_is node in omega arith) (λ m _. h.below m);
  }

  -- barriers do not fall
  barriers_rise : (e : Event) → Lawful w e → (m : ℕ) → w.barrier m ≤ (happens w e).barrier m
  barriers_rise (Admit id node body) l m = omega arith
  barriers_rise (Flush id max) l m = omega arith
  barriers_rise (Return id) l m = omega arith
  barriers_rise (Refuse id) l m = omega arith
  barriers_rise (Commit p) l m = omega arith
  barriers_rise (Apply node) l m = omega arith
  barriers_rise (Snapshot node to) l m = omega arith
  barriers_rise (Remove node) l m = omega arith
  barriers_rise (Restart node) l m = at_with_node (λ k v. w.barrier k ≤ v) w.barrier node (here w node).lease.seq
      (let e = here_is node in let b = h.below node in omega arith) (λ k _. omega arith) m

-- what an event admits passed the barrier
pub record Past (w : World) (a : Attempt) : Type 0 where
  pub past : w.barrier a.node < a.seq

past_admitted : (w : World) (e : Event) → Lawful w e → (q : CmdId) → Admits e q → Past w ((happens w e).attempt q)
past_admitted w (Admit id node body) l q e =
    at_attempt (λ r a. r ≡ id → Past w a) w.attempt id (admitted w node body) (λ _. record { past = l.passed }) (λ r ne k. absurd (ne k)) q e
past_admitted w (Flush id max) l q e = absurd e
past_admitted w (Return id) l q e = absurd e
past_admitted w (Refuse id) l q e = absurd e
past_admitted w (Commit p) l q e = absurd e
past_admitted w (Apply node) l q e = absurd e
past_admitted w (Snapshot node to) l q e = absurd e
past_admitted w (Remove node) l q e = absurd e
past_admitted w (Restart node) l q e = absurd e

unborn_or : (w : World) (q : CmdId) → ((w.attempt q).stage ≡ Unborn) ⊎ IsBorn (w.attempt q).stage
unborn_or w q = go (w.attempt q).stage refl where
  go : (g : Stage) → (w.attempt q).stage ≡ g → ((w.attempt q).stage ≡ Unborn) ⊎ IsBorn (w.attempt q).stage
  go Unborn e = inl e
  go Waiting e = inr (subst IsBorn (sym e) tt)
  go (Proposed own) e = inr (subst IsBorn (sym e) tt)
  go (Success reply) e = inr (subst IsBorn (sym e) tt)
  go Refused e = inr (subst IsBorn (sym e) tt)
  go (Overtaken own passed) e = inr (subst IsBorn (sym e) tt)
  go (Removed own) e = inr (subst IsBorn (sym e) tt)
  go (Restarted own) e = inr (subst IsBorn (sym e) tt)

past_run : (f : ℕ → Payload) (w : World) (es : List Event) → AllLawful w es → Extends f (run w es).log → Sound f w → Barred f w → (q : CmdId)
    → (w.attempt q).stage ≡ Unborn → IsBorn ((run w es).attempt q).stage → w.barrier ((run w es).attempt q).node < ((run w es).attempt q).seq
past_run f w [] l x s h q new born = absurd (subst IsBorn new born)
past_run f w (e ∷ es) l x s h q new born =
    go (unborn_or (happens w e) q) (past_run f (happens w e) es l.1 x (sound_step f w e l.0 x1 s) (barred_step f w s x0 h e l.0) q) where
      x1 : Extends f (happens w e).log
      x1 = run_extends f (happens w e) es x

      x0 : Extends f w.log
      x0 = extends_before f w e x1

      go : (((happens w e).attempt q).stage ≡ Unborn) ⊎ IsBorn ((happens w e).attempt q).stage
          → (((happens w e).attempt q).stage ≡ Unborn → IsBorn ((run w (e ∷ es)).attempt q).stage
          → (happens w e).barrier ((run w (e ∷ es)).attempt q).node < ((run w (e ∷ es)).attempt q).seq)
          → w.barrier ((run w (e ∷ es)).attempt q).node < ((run w (e ∷ es)).attempt q).seq
      go (inl u) ih = let lt = ih u born in let le = barriers_rise f w s x0 h e l.0 ((run w (e ∷ es)).attempt q).node in omega arith
      go (inr b) ih = admitted_now (made_before w e l.0 q b) where
        same : Same ((happens w e).attempt q) ((run w (e ∷ es)).attempt q)
        same = (grown_run (happens w e) es l.1 q).same b

        admitted_now : IsBorn (w.attempt q).stage ⊎ Admits e q → w.barrier ((run w (e ∷ es)).attempt q).node < ((run w (e ∷ es)).attempt q).seq
        admitted_now (inl k) = absurd (subst IsBorn new k)
        admitted_now (inr a) =
            let p = (past_admitted w e l.0 q a).past in
            let one = same.seq in
            let two : w.barrier ((happens w e).attempt q).node ≡ w.barrier ((run w (e ∷ es)).attempt q).node = ap w.barrier same.node in
            omega arith

barred_run : (f : ℕ → Payload) (w : World) (es : List Event) → AllLawful w es → Extends f (run w es).log → Sound f w → Barred f w → Barred f (run w es)
barred_run f w [] l x s h = h
barred_run f w (e ∷ es) l x s h =
    let x1 = run_extends f (happens w e) es x in
    let x0 = extends_before f w e x1 in
    barred_run f (happens w e) es l.1 x (sound_step f w e l.0 x1 s) (barred_step f w s x0 h e l.0)

barred_reached : (f : ℕ → Payload) (w : World) → IsReached w → Extends f w.log → Barred f w
barred_reached f w r x = subst (Barred f) r.reached
    (barred_run f (begin r.start) r.events r.lawful (subst (λ (v : World). Extends f v.log) (sym r.reached) x) (sound_begin f r.start)
    (record { below = λ node. omega arith }))

-- an attempt that is admitted later is under a lease sequence above the barrier
pub past_barrier : (w : World) → IsReached w → (later : World) → IsLater w later → (id : CmdId) → (w.attempt id).stage ≡ Unborn
    → IsBorn (later.attempt id).stage → w.barrier (later.attempt id).node < (later.attempt id).seq
past_barrier w r later l id new born =
    let x = later_extends (entry later.log) w later l (extends_itself later.log) in
    let born' = subst (λ (v : World). IsBorn (v.attempt id).stage) (sym l.reached) born in
    subst (λ (v : World). w.barrier (v.attempt id).node < (v.attempt id).seq) l.reached
    (past_run (entry later.log) w l.events l.lawful (subst (λ (v : World). Extends (entry later.log) v.log) (sym l.reached) (extends_itself later.log))
    (sound_reached (entry later.log) w r x) (barred_reached (entry later.log) w r x) id new born')

-- attempts under one sequence are admitted at one node
pub one_node : (w : World) → IsReached w → (x y : CmdId) → IsBorn (w.attempt x).stage → IsBorn (w.attempt y).stage
    → (w.attempt x).seq ≡ (w.attempt y).seq → (w.attempt x).node ≡ (w.attempt y).node
one_node w r x y bx by e =
    let s = sound_reached (entry w.log) w r (extends_itself w.log) in
    let gx = s.good x in
    let gy = s.good y in
    sym (gx.holder bx)
    ∙ one_holder w.start (entry w.log) (w.attempt x).from (w.attempt y).from (gx.seq bx ∙ e ∙ sym (gy.seq by))
    ∙ gy.holder by

-- a node restarts, and admits an attempt later
module _ (w : World) (r : IsReached w) (node : ℕ) (live : w.alive node ≡ true) (later : World)
    (l : IsLater (happens w (Restart node)) later) where
  abbrev restart : World
  restart = happens w (Restart node)

  to_restart : IsLater w restart
  to_restart = record { events = Restart node ∷ []; lawful = (live, tt); reached = refl }

  restart_reached : IsReached restart
  restart_reached = later_reached w restart r to_restart

  all_reached : IsReached later
  all_reached = later_reached restart later restart_reached l

  still_unborn : (y : CmdId) → (w.attempt y).stage ≡ Unborn → (restart.attempt y).stage ≡ Unborn
  still_unborn y new = go (unborn_or restart y) where
    back : IsBorn (w.attempt y).stage ⊎ Admits (Restart node) y → (restart.attempt y).stage ≡ Unborn
    back (inl b) = absurd (subst IsBorn new b)
    back (inr a) = absurd a

    go : ((restart.attempt y).stage ≡ Unborn) ⊎ IsBorn (restart.attempt y).stage → (restart.attempt y).stage ≡ Unborn
    go (inl e) = e
    go (inr b) = back (made_before w (Restart node) live y b)

  -- what was admitted before the restart is not under the sequence of what this node admits after
  -- it
  pub restart_parts : (x y : CmdId) → IsBorn (w.attempt x).stage → (w.attempt y).stage ≡ Unborn → IsBorn (later.attempt y).stage
      → (later.attempt y).node ≡ node → (w.attempt x).seq ≡ (later.attempt y).seq → ⊥
  restart_parts x y bx new by at same = omega (arith, below, above, same) where
    grown : Same (w.attempt x) (later.attempt x)
    grown = (later_grown w later (later_further w restart later to_restart l) x).same bx

    here_x : (w.attempt x).node ≡ node
    here_x = grown.node ∙ one_node later all_reached x y grown.born by (sym grown.seq ∙ same) ∙ at

    good : Good w.start (entry w.log) (length w.log) (w.index (w.attempt x).node) (w.alive (w.attempt x).node)
        (w.barrier (w.attempt x).node) x (w.attempt x)
    good = (sound_reached (entry w.log) w r (extends_itself w.log)).good x

    below : (w.attempt x).seq ≤ (here w node).lease.seq
    below = subst (λ m. (w.attempt x).seq ≤ (here w m).lease.seq) here_x (seq_behind good bx)

    above : (here w node).lease.seq < (later.attempt y).seq
    above =
        let passed = past_barrier restart restart_reached later l y (still_unborn y new) by in
        let set = node_same w.barrier node (here w node).lease.seq in
        let e : restart.barrier (later.attempt y).node ≡ restart.barrier node = ap restart.barrier at in
        omega (arith, passed, set, e)

-- no barrier is above its node's present sequence
pub barrier_reached : (w : World) → IsReached w → (node : ℕ) → w.barrier node ≤ (here w node).lease.seq
barrier_reached w r node = (barred_reached (entry w.log) w r (extends_itself w.log)).below node
