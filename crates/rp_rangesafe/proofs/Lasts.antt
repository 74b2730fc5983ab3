-- The maximum under which an attempt can still be taken is the last that it was given.
use Rattle.std.proofs.Common.{◌≡◌, ℕ, Bool, true, false, cond, eqb, nat_le, List, [], ◌∷◌, refl, sym, subst, ◌∙◌, eqb-true}
use Rattle.rp_base.specs.declared.ids.CmdId.{CmdId}
use Rattle.rp_request.specs.declared.commands.Payload.{Payload}
use Rattle.rp_request.specs.declared.commands.Payload.TheVariants.{Nothing, Write, Lease}
use Rattle.rp_request.specs.declared.commands.Command.{Command}
use Rattle.rp_request.specs.Applied.{AppliedState, verdict}
use Rattle.rp_request.specs.declared.verdicts.Verdict.{Verdict}
use Rattle.rp_request.specs.declared.verdicts.Verdict.TheVariants.{Took, OldLease, OldIndex, LeaseMoved}
use Rattle.rp_request.specs.declared.verdicts.Verdict.TheVariants as verdicts
use Rattle.rp_rangesafe.specs.Attempts.{Stage, Unborn, Waiting, Proposed, Success, Refused, Overtaken, Removed, Restarted, Attempt, Attempts, IsOpen, IsLast, staged, handed_out, with_attempt, at_node}
use Rattle.rp_rangesafe.specs.Along.{entry}
use Rattle.rp_rangesafe.specs.World.{World, state_at, here, begin, Event, Admit, Flush, Return, Refuse, Commit, Apply, Snapshot, Remove, Restart, admitted, told, by_verdict, after_entry, overtaken, removed, restarted, happens, run}
use Rattle.rp_rangesafe.specs.Places.{IsReached, IsLater, IsPlace}
use Rattle.rp_rangesafe.proofs.Tables.{at_attempt, at_nodes}
use Rattle.rp_rangesafe.proofs.OneRange.{restarted_own}

-- where a maximum is open, it is the last
record Latest (a : Attempt) : Type 0 where
  last : (m : ℕ) → IsOpen a.stage m → IsLast a.maxima m

-- a change of stages that opens nothing
abbrev OpensNothing : (Stage → Stage) → Type 0
OpensNothing change = (g : Stage) (m : ℕ) → IsOpen (change g) m → IsOpen g m

by_verdict_opens : (c : Command) (v : Verdict) (m : ℕ) → IsOpen (by_verdict c v) m → m ≡ c.max
by_verdict_opens c Took m h = absurd h
by_verdict_opens c (OldLease now) m h = absurd h
by_verdict_opens c (OldIndex lai) m h = absurd h
by_verdict_opens c LeaseMoved m h = h
by_verdict_opens c verdicts.Nothing m h = h

told_opens : (c : Command) (v : Verdict) → OpensNothing (told c v)
told_opens c v Unborn m h = h
told_opens c v Waiting m h = h
told_opens c v (Proposed own) m h = go (eqb own c.max) refl h where
  go : (b : Bool) → eqb own c.max ≡ b → IsOpen (cond b (by_verdict c v) (Proposed own)) m → m ≡ own
  go true e k = by_verdict_opens c v m k ∙ sym (eqb-true own c.max e)
  go false e k = k
told_opens c v (Success reply) m h = h
told_opens c v Refused m h = h
told_opens c v (Overtaken own passed) m h = h
told_opens c v (Removed own) m h = h
told_opens c v (Restarted own) m h = h

overtaken_opens : (lai : ℕ) → OpensNothing (overtaken lai)
overtaken_opens lai Unborn m h = h
overtaken_opens lai Waiting m h = h
overtaken_opens lai (Proposed own) m h = go (nat_le own lai) h where
  go : (b : Bool) → IsOpen (cond b (Overtaken own lai) (Proposed own)) m → m ≡ own
  go true k = absurd k
  go false k = k
overtaken_opens lai (Success reply) m h = h
overtaken_opens lai Refused m h = h
overtaken_opens lai (Overtaken own passed) m h = h
overtaken_opens lai (Removed own) m h = h
overtaken_opens lai (Restarted own) m h = h

removed_opens : OpensNothing removed
removed_opens Unborn m h = h
removed_opens Waiting m h = absurd h
removed_opens (Proposed own) m h = h
removed_opens (Success reply) m h = h
removed_opens Refused m h = h
removed_opens (Overtaken own passed) m h = h
removed_opens (Removed own) m h = h
removed_opens (Restarted own) m h = h

restarted_opens : OpensNothing restarted
restarted_opens Unborn m h = h
restarted_opens Waiting m h = absurd h
restarted_opens (Proposed own) m h = h
restarted_opens (Success reply) m h = h
restarted_opens Refused m h = h
restarted_opens (Overtaken own passed) m h = h
restarted_opens (Removed own) m h = h
restarted_opens (Restarted own) m h = h

module _ (f : Attempts) (all : (q : CmdId) → Latest (f q)) where
  latest_one : (id : CmdId) (a : Attempt) → Latest a → (q : CmdId) → Latest (with_attempt f id a q)
  latest_one id a h = at_attempt (λ q x. Latest x) f id a h (λ q _. all q)

  latest_node : (node : ℕ) (change : Stage → Stage) → OpensNothing change → (q : CmdId) → Latest (at_node node change f q)
  latest_node node change opens = at_nodes (λ q x. Latest x) node change f
      (λ q _. record { last = λ m h. (all q).last m (opens (f q).stage m h) }) (λ q _. all q)

  latest_entry : (node : ℕ) (s : AppliedState) (p : Payload) → (q : CmdId) → Latest (after_entry node s p f q)
  latest_entry node s Nothing q = all q
  latest_entry node s (Write c) q = latest_one c.id (at_node node (told c (verdict s (Write c))) f c.id)
      (latest_node node (told c (verdict s (Write c))) (told_opens c (verdict s (Write c))) c.id) q
  latest_entry node s (Lease ask) q = all q

latest_step : (w : World) (e : Event) → ((q : CmdId) → Latest (w.attempt q)) → (q : CmdId) → Latest ((happens w e).attempt q)
latest_step w (Admit id node body) h = latest_one w.attempt h id (admitted w node body) (record { last = λ m k. absurd k })
latest_step w (Flush id max) h = latest_one w.attempt h id (handed_out (w.attempt id) max) (record { last = λ m k. k })
latest_step w (Return id) h = latest_one w.attempt h id (staged (w.attempt id) Waiting) (record { last = λ m k. absurd k })
latest_step w (Refuse id) h = latest_one w.attempt h id (staged (w.attempt id) Refused) (record { last = λ m k. absurd k })
latest_step w (Commit p) h = h
latest_step w (Apply node) h = latest_entry w.attempt h node (here w node) (entry w.log (w.index node))
latest_step w (Snapshot node to) h = latest_node w.attempt h node (overtaken (state_at w to).lai) (overtaken_opens (state_at w to).lai)
latest_step w (Remove node) h = latest_node w.attempt h node removed removed_opens
latest_step w (Restart node) h = latest_node w.attempt h node restarted restarted_opens

latest_run : (w : World) (es : List Event) → ((q : CmdId) → Latest (w.attempt q)) → (q : CmdId) → Latest ((run w es).attempt q)
latest_run w [] h = h
latest_run w (e ∷ es) h = latest_run (happens w e) es (latest_step w e h)

pub open_is_last : (w : World) → IsReached w → (id : CmdId) (own : ℕ) → IsOpen (w.attempt id).stage own → IsLast (w.attempt id).maxima own
open_is_last w r id own h = (subst (λ (v : World). Latest (v.attempt id)) r.reached
    (latest_run (begin r.start) r.events (λ q. record { last = λ m k. absurd k }) id)).last own h

-- an attempt that a restart ended is taken under the last maximum alone
pub restarted_last : (w : World) → IsReached w → (id : CmdId) (own : ℕ) → (w.attempt id).stage ≡ Restarted own
    → (later : World) (k : ℕ) (c : Command) → IsLater w later → IsPlace later id k c → IsLast (w.attempt id).maxima c.max
restarted_last w r id own e later k c l p = subst (IsLast (w.attempt id).maxima) (sym (restarted_own w r id own e later k c l p))
    (open_is_last w r id own (subst (λ g. IsOpen g own) (sym e) refl))
