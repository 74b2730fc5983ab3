-- What events leave of an attempt: once admitted it stays what it was, and once ended it stays as
-- it is.
use Rattle.std.proofs.Common.{◌≡◌, ℕ, Bool, true, false, cond, ◌==◌, nat_le, ◌⊎◌, inl, inr, List, [], ◌∷◌, refl, sym, ap, subst, ◌∙◌}
use Rattle.rp_base.specs.declared.ids.CmdId.{CmdId}
use Rattle.rp_request.specs.declared.commands.Payload.{Payload}
use Rattle.rp_request.specs.declared.commands.Payload.TheVariants.{Nothing, Write, Lease}
use Rattle.rp_request.specs.declared.commands.Command.{Command}
use Rattle.rp_request.specs.Applied.{AppliedState, verdict}
use Rattle.rp_request.specs.declared.verdicts.Verdict.{Verdict}
use Rattle.rp_request.specs.declared.verdicts.Verdict.TheVariants.{Took, OldLease, OldIndex, LeaseMoved}
use Rattle.rp_request.specs.declared.verdicts.Verdict.TheVariants as verdicts
use Rattle.rp_rangesafe.specs.Attempts.{Stage, Unborn, Waiting, Proposed, Success, Refused, Overtaken, Removed, Restarted, Attempt, Attempts, IsBorn, IsEnded, staged, handed_out, with_attempt, at_node}
use Rattle.rp_rangesafe.specs.Along.{entry}
use Rattle.rp_rangesafe.specs.World.{World, state_at, here, Event, Admit, Flush, Return, Refuse, Commit, Apply, Snapshot, Remove, Restart, Lawful, AllLawful, admitted, told, by_verdict, after_entry, overtaken, removed, restarted, happens, run}
use Rattle.rp_rangesafe.proofs.Tables.{at_attempt, at_nodes}
use Rattle.rp_rangesafe.proofs.Sounds.{told_ended, overtaken_ended, removed_ended, restarted_ended}

-- an attempt that was admitted stays what it was
pub record Same (x y : Attempt) : Type 0 where
  pub node : x.node ≡ y.node
  pub behind : x.from ≡ y.from
  pub seq : x.seq ≡ y.seq
  pub body : x.body ≡ y.body
  pub born : IsBorn y.stage

pub record Grown (x y : Attempt) : Type 0 where
  pub same : IsBorn x.stage → Same x y
  pub ended : IsEnded x.stage → x ≡ y

pub grown_itself : (x : Attempt) → Grown x x
grown_itself x = record { same = λ h. record { node = refl; behind = refl; seq = refl; body = refl; born = h }; ended = λ h. refl }

pub grown_further : (x y z : Attempt) → Grown x y → Grown y z → Grown x z
grown_further x y z g h = record {
  same = λ born. let a = g.same born in let c = h.same a.born in record {
    node = a.node ∙ c.node;
    behind = a.behind ∙ c.behind;
    seq = a.seq ∙ c.seq;
    body = a.body ∙ c.body;
    born = c.born;
  };
  ended = λ e. let s = g.ended e in s ∙ h.ended (subst (λ (a : Attempt). IsEnded a.stage) s e);
}

grown_staged : (x : Attempt) (g : Stage) → (IsBorn x.stage → IsBorn g) → (IsEnded x.stage → x.stage ≡ g) → Grown x (staged x g)
grown_staged x g born ended = record {
  same = λ h. record { node = refl; behind = refl; seq = refl; body = refl; born = born h };
  ended = λ h. ap (staged x) (ended h);
}

by_verdict_born : (c : Command) (v : Verdict) → IsBorn (by_verdict c v)
by_verdict_born c Took = tt
by_verdict_born c (OldLease now) = tt
by_verdict_born c (OldIndex lai) = tt
by_verdict_born c LeaseMoved = tt
by_verdict_born c verdicts.Nothing = tt

either_born : (b : Bool) (g h : Stage) → IsBorn g → IsBorn h → IsBorn (cond b g h)
either_born true g h x y = x
either_born false g h x y = y

told_born : (c : Command) (v : Verdict) (g : Stage) → IsBorn g → IsBorn (told c v g)
told_born c v Unborn h = h
told_born c v Waiting h = tt
told_born c v (Proposed own) h = either_born (own == c.max) (by_verdict c v) (Proposed own) (by_verdict_born c v) tt
told_born c v (Success reply) h = tt
told_born c v Refused h = tt
told_born c v (Overtaken own passed) h = tt
told_born c v (Removed own) h = tt
told_born c v (Restarted own) h = tt

overtaken_born : (lai : ℕ) (g : Stage) → IsBorn g → IsBorn (overtaken lai g)
overtaken_born lai Unborn h = h
overtaken_born lai Waiting h = tt
overtaken_born lai (Proposed own) h = either_born (nat_le own lai) (Overtaken own lai) (Proposed own) tt tt
overtaken_born lai (Success reply) h = tt
overtaken_born lai Refused h = tt
overtaken_born lai (Overtaken own passed) h = tt
overtaken_born lai (Removed own) h = tt
overtaken_born lai (Restarted own) h = tt

removed_born : (g : Stage) → IsBorn g → IsBorn (removed g)
removed_born Unborn h = h
removed_born Waiting h = tt
removed_born (Proposed own) h = tt
removed_born (Success reply) h = tt
removed_born Refused h = tt
removed_born (Overtaken own passed) h = tt
removed_born (Removed own) h = tt
removed_born (Restarted own) h = tt

restarted_born : (g : Stage) → IsBorn g → IsBorn (restarted g)
restarted_born Unborn h = h
restarted_born Waiting h = tt
restarted_born (Proposed own) h = tt
restarted_born (Success reply) h = tt
restarted_born Refused h = tt
restarted_born (Overtaken own passed) h = tt
restarted_born (Removed own) h = tt
restarted_born (Restarted own) h = tt

module _ (f : Attempts) where
  grown_at : (id : CmdId) (a : Attempt) → Grown (f id) a → (q : CmdId) → Grown (f q) (with_attempt f id a q)
  grown_at id a g = at_attempt (λ q x. Grown (f q) x) f id a g (λ q _. grown_itself (f q))

  grown_there : (node : ℕ) (m : Stage → Stage) → ((g : Stage) → IsBorn g → IsBorn (m g)) → ((g : Stage) → IsEnded g → g ≡ m g)
      → (q : CmdId) → Grown (f q) (at_node node m f q)
  grown_there node m born ended = at_nodes (λ q x. Grown (f q) x) node m f
      (λ q _. grown_staged (f q) (m (f q).stage) (born (f q).stage) (ended (f q).stage)) (λ q _. grown_itself (f q))

  grown_turned : (id : CmdId) (g h : Stage) → (f id).stage ≡ g → (IsEnded g → ⊥) → IsBorn h → (q : CmdId) → Grown (f q) (with_attempt f id (staged (f id) h) q)
  grown_turned id g h e pending born = grown_at id (staged (f id) h) (grown_staged (f id) h (λ _. born) (λ k. absurd (pending (subst IsEnded e k))))

  grown_entry : (node : ℕ) (s : AppliedState) (p : Payload) (q : CmdId) → Grown (f q) (after_entry node s p f q)
  grown_entry node s Nothing q = grown_itself (f q)
  grown_entry node s (Write c) q = grown_at c.id (at_node node (told c (verdict s (Write c))) f c.id) (grown_there node (told c (verdict s (Write c))) (told_born c _) (told_ended c _) c.id) q
  grown_entry node s (Lease ask) q = grown_itself (f q)

-- an event leaves each attempt so
pub grown_by : (w : World) (e : Event) → Lawful w e → (q : CmdId) → Grown (w.attempt q) ((happens w e).attempt q)
grown_by w (Admit id node body) h q = grown_at w.attempt id (admitted w node body)
    (record { same = λ k. absurd (subst IsBorn h.new k); ended = λ k. absurd (subst IsEnded h.new k) }) q
grown_by w (Flush id max) h q = grown_at w.attempt id (handed_out (w.attempt id) max)
    (record { same = λ k. record { node = refl; behind = refl; seq = refl; body = refl; born = tt }; ended = λ k. absurd (subst IsEnded h.0 k) }) q
grown_by w (Return id) h q = grown_turned w.attempt id _ Waiting h.stage (λ k. k) tt q
grown_by w (Refuse id) h q = grown_turned w.attempt id Waiting Refused h (λ k. k) tt q
grown_by w (Commit p) h q = grown_itself (w.attempt q)
grown_by w (Apply node) h q = grown_entry w.attempt node (here w node) (entry w.log (w.index node)) q
grown_by w (Snapshot node to) h q = grown_there w.attempt node (overtaken (state_at w to).lai) (overtaken_born _) (overtaken_ended _) q
grown_by w (Remove node) h q = grown_there w.attempt node removed removed_born removed_ended q
grown_by w (Restart node) h q = grown_there w.attempt node restarted restarted_born restarted_ended q

pub grown_run : (w : World) (es : List Event) → AllLawful w es → (q : CmdId) → Grown (w.attempt q) ((run w es).attempt q)
grown_run w [] h q = grown_itself (w.attempt q)
grown_run w (e ∷ es) h q = grown_further _ _ _ (grown_by w e h.0 q) (grown_run (happens w e) es h.1 q)

-- no event but an admission makes an attempt
told_back : (c : Command) (v : Verdict) (g : Stage) → IsBorn (told c v g) → IsBorn g
told_back c v Unborn h = h
told_back c v Waiting h = tt
told_back c v (Proposed own) h = tt
told_back c v (Success reply) h = tt
told_back c v Refused h = tt
told_back c v (Overtaken own passed) h = tt
told_back c v (Removed own) h = tt
told_back c v (Restarted own) h = tt

overtaken_back : (lai : ℕ) (g : Stage) → IsBorn (overtaken lai g) → IsBorn g
overtaken_back lai Unborn h = h
overtaken_back lai Waiting h = tt
overtaken_back lai (Proposed own) h = tt
overtaken_back lai (Success reply) h = tt
overtaken_back lai Refused h = tt
overtaken_back lai (Overtaken own passed) h = tt
overtaken_back lai (Removed own) h = tt
overtaken_back lai (Restarted own) h = tt

removed_back : (g : Stage) → IsBorn (removed g) → IsBorn g
removed_back Unborn h = h
removed_back Waiting h = tt
removed_back (Proposed own) h = tt
removed_back (Success reply) h = tt
removed_back Refused h = tt
removed_back (Overtaken own passed) h = tt
removed_back (Removed own) h = tt
removed_back (Restarted own) h = tt

restarted_back : (g : Stage) → IsBorn (restarted g) → IsBorn g
restarted_back Unborn h = h
restarted_back Waiting h = tt
restarted_back (Proposed own) h = tt
restarted_back (Success reply) h = tt
restarted_back Refused h = tt
restarted_back (Overtaken own passed) h = tt
restarted_back (Removed own) h = tt
restarted_back (Restarted own) h = tt

module _ (f : Attempts) where
  back_at : (id : CmdId) (a : Attempt) → (IsBorn a.stage → IsBorn (f id).stage) → (q : CmdId) → IsBorn (with_attempt f id a q).stage → IsBorn (f q).stage
  back_at id a h = at_attempt (λ q x. IsBorn x.stage → IsBorn (f q).stage) f id a h (λ q _ b. b)

  back_there : (node : ℕ) (m : Stage → Stage) → ((g : Stage) → IsBorn (m g) → IsBorn g) → (q : CmdId) → IsBorn (at_node node m f q).stage → IsBorn (f q).stage
  back_there node m back = at_nodes (λ q x. IsBorn x.stage → IsBorn (f q).stage) node m f (λ q _. back (f q).stage) (λ q _ b. b)

  back_entry : (node : ℕ) (s : AppliedState) (p : Payload) (q : CmdId) → IsBorn (after_entry node s p f q).stage → IsBorn (f q).stage
  back_entry node s Nothing q h = h
  back_entry node s (Write c) q h = back_at c.id (at_node node (told c (verdict s (Write c))) f c.id) (back_there node (told c (verdict s (Write c))) (told_back c _) c.id) q h
  back_entry node s (Lease ask) q h = h

-- the attempt that an event admits
abbrev pub Admits : Event → CmdId → Type 0
Admits (Admit id node body) q = q ≡ id
Admits (Flush id max) q = ⊥
Admits (Return id) q = ⊥
Admits (Refuse id) q = ⊥
Admits (Commit p) q = ⊥
Admits (Apply node) q = ⊥
Admits (Snapshot node to) q = ⊥
Admits (Remove node) q = ⊥
Admits (Restart node) q = ⊥

pub made_before : (w : World) (e : Event) → Lawful w e → (q : CmdId) → IsBorn ((happens w e).attempt q).stage → IsBorn (w.attempt q).stage ⊎ Admits e q
made_before w (Admit id node body) h q b = at_attempt (λ r x. IsBorn x.stage → IsBorn (w.attempt r).stage ⊎ (r ≡ id)) w.attempt id (admitted w node body) (λ _. inr refl) (λ r _ k. inl k) q b
made_before w (Flush id max) h q b = inl (back_at w.attempt id (handed_out (w.attempt id) max) (λ _. subst IsBorn (sym h.0) tt) q b)
made_before w (Return id) h q b = inl (back_at w.attempt id (staged (w.attempt id) Waiting) (λ _. subst IsBorn (sym h.stage) tt) q b)
made_before w (Refuse id) h q b = inl (back_at w.attempt id (staged (w.attempt id) Refused) (λ _. subst IsBorn (sym h) tt) q b)
made_before w (Commit p) h q b = inl b
made_before w (Apply node) h q b = inl (back_entry w.attempt node (here w node) (entry w.log (w.index node)) q b)
made_before w (Snapshot node to) h q b = inl (back_there w.attempt node (overtaken (state_at w to).lai) (overtaken_back _) q b)
made_before w (Remove node) h q b = inl (back_there w.attempt node removed removed_back q b)
made_before w (Restart node) h q b = inl (back_there w.attempt node restarted restarted_back q b)
