-- One attempt while its node applies an entry or takes in a snapshot, while it is handed out, while
-- the list grows, and as it is admitted.
use Rattle.std.proofs.Common.{◌≡◌, ℕ, suc, ◌<◌, ◌≤◌, Bool, true, false, cond, ◌==◌, nat_le, ◌⊎◌, inl, inr, [], refl, sym, ap, subst, ◌∙◌, arith}
use Rattle.std.proofs.lemmas.Bool.{cases_order, cases_lt}
use Rattle.std.proofs.lemmas.Bool.Decides.{nat_tests}
use Rattle.rp_base.specs.declared.ids.CmdId.{CmdId}
use Rattle.rp_request.specs.declared.commands.Payload.{Payload}
use Rattle.rp_request.specs.declared.commands.Payload.TheVariants.{Write}
use Rattle.rp_request.specs.declared.commands.Command.{Command}
use Rattle.rp_request.specs.declared.outcomes.Reply.{Reply}
use Rattle.rp_request.specs.Applied.{AppliedState, verdict, IsBlocked}
use Rattle.rp_request.specs.declared.verdicts.Verdict.{Verdict}
use Rattle.rp_request.specs.declared.verdicts.Verdict.TheVariants.{Took, OldLease, OldIndex, LeaseMoved}
use Rattle.rp_request.specs.declared.verdicts.Verdict.TheVariants as verdicts
use Rattle.rp_rangesafe.specs.Attempts.{Body, Stage, Unborn, Waiting, Proposed, Success, Refused, Overtaken, Removed, Restarted, Attempt, IsBorn, IsOpen, IsUntaken, IsAmong, IsOf, handed_out}
use Rattle.rp_rangesafe.specs.Along.{state, Takes}
use Rattle.rp_rangesafe.specs.World.{IsEvaluated, told, by_verdict, overtaken, unborn}
use Rattle.rp_rangesafe.proofs.Steps.{old_lease, old_index, no_lease_moved, no_void}
use Rattle.rp_rangesafe.proofs.Numbers.{onward, lai_from, lai_after}
use Rattle.rp_rangesafe.proofs.One.{PlaceOf, Placed, Made, Good, place_open, no_maximum}
use Rattle.rp_rangesafe.proofs.Moves.{Move, stays, shuts, seq_behind}

-- two commands that stand at one index are one
pub same_command : (f : ℕ → Payload) (k : ℕ) (c d : Command) → f k ≡ Write c → f k ≡ Write d → c ≡ d
same_command f k c d e h = cc

module _ {b : AppliedState} {f : ℕ → Payload} {n p : ℕ} {alive : Bool} {bar : ℕ} {id : CmdId} {a : Attempt} (x : Good b f n p alive bar id a) where
  -- a stage in which nothing is open, at a place that the node has not applied
  shut_place : (g : Stage) → a.stage ≡ g → ((o : ℕ) → IsOpen g o → ⊥) → (k : ℕ) (c : Command) → p ≤ k → k < n → PlaceOf b f id k c → ⊥
  shut_place g e shut k c l h t = shut c.max (subst (λ y. IsOpen y c.max) e (place_open x k c l h t))

  module _ (live : alive ≡ true) (q : ℕ) (forth : p ≤ q) (within : q ≤ n) where
    -- it stays in its stage, where it has no place that is jumped
    keeps : (IsUntaken a.stage → (k : ℕ) (c : Command) → p ≤ k → k < q → PlaceOf b f id k c → ⊥) → Move b f n p q alive bar id a a.stage
    keeps skips = stays x q alive bar forth within (λ e. e) x.restarted skips

    -- in this stage nothing is open
    keeps_shut : (g : Stage) → a.stage ≡ g → ((o : ℕ) → IsOpen g o → ⊥) → Move b f n p q alive bar id a g
    keeps_shut g e shut = subst (Move b f n p q alive bar id a) e (keeps (λ _ k c lo hi t. shut_place g e shut k c lo (omega arith) t))

    -- in this one a place may be known
    keeps_known : (g : Stage) → a.stage ≡ g → (IsUntaken g → ⊥) → Move b f n p q alive bar id a g
    keeps_known g e known = subst (Move b f n p q alive bar id a) e (keeps (λ u. absurd (known (subst IsUntaken e u))))

    keeps_removed : (own : ℕ) → a.stage ≡ Removed own → Move b f n p q alive bar id a (Removed own)
    keeps_removed own e = let dead = x.removed own e in absurd cc

    -- a snapshot of that index
    pub overtakes : Move b f n p q alive bar id a (overtaken (state b f q).lai a.stage)
    overtakes = go a.stage refl where
      ends : (own : ℕ) → a.stage ≡ Proposed own → own ≤ (state b f q).lai → Move b f n p q alive bar id a (Overtaken own (state b f q).lai)
      ends own e l = shuts x q alive bar (Overtaken own (state b f q).lai) forth within (subst IsBorn (sym e) tt) (subst IsUntaken (sym e) tt)
          (λ o h. h) (λ h. cc)
          (λ o h. let same : o ≡ own = subst (λ y. IsOpen y o) e h in inl (omega arith))
          (λ u. absurd u)
          (λ reply h. absurd cc)
          (λ own' passed h. let pos = x.positive own (subst (λ y. IsOpen y own) (sym e) refl) in
          let same : own ≡ own' = cc in let most : (state b f q).lai ≡ passed = cc in (omega arith, omega arith))

      waits : (own : ℕ) → a.stage ≡ Proposed own → (state b f q).lai < own → Move b f n p q alive bar id a (Proposed own)
      waits own e l = subst (Move b f n p q alive bar id a) e (keeps (λ _ k c lo hi t.
          let same : c.max ≡ own = subst (λ y. IsOpen y c.max) e (place_open x k c lo (omega arith) t) in
          let le = lai_from b f k c q hi t.takes in
          omega arith))

      choose : (own : ℕ) → a.stage ≡ Proposed own → (t : Bool) → nat_le own (state b f q).lai ≡ t
          → Move b f n p q alive bar id a (cond t (Overtaken own (state b f q).lai) (Proposed own))
      choose own e true h = ends own e (grind (arith, nat_tests))
      choose own e false h = waits own e (grind (arith, nat_tests))

      go : (g : Stage) → a.stage ≡ g → Move b f n p q alive bar id a (overtaken (state b f q).lai g)
      go Unborn e = keeps_shut Unborn e (λ o h. h)
      go Waiting e = keeps_shut Waiting e (λ o h. h)
      go (Proposed own) e = choose own e (nat_le own (state b f q).lai) refl
      go (Success reply) e = keeps_known (Success reply) e (λ u. u)
      go Refused e = keeps_shut Refused e (λ o h. h)
      go (Overtaken own passed) e = keeps_known (Overtaken own passed) e (λ u. u)
      go (Removed own) e = keeps_removed own e
      go (Restarted own) e = keeps_known (Restarted own) e (λ u. u)

  module _ (live : alive ≡ true) (next : p < n) where
    -- an entry that is no command of this attempt
    pub passes : ((c : Command) → f p ≡ Write c → c.id ≡ id → ⊥) → Move b f n p (suc p) alive bar id a a.stage
    passes other = keeps live (suc p) (omega arith) (omega arith) (λ _ k c lo hi t.
        let same : k ≡ p = omega arith in
        other c (subst (λ i. f i ≡ Write c) same t.takes.here) t.named)

    -- an entry that is
    module _ (c : Command) (here : f p ≡ Write c) (named : c.id ≡ id) where
      abbrev now : AppliedState
      now = state b f p

      made : Made a p c
      made = x.entries p c next here named

      -- a place at the node's index is this command's
      placed : (k : ℕ) (d : Command) → p ≤ k → k < suc p → PlaceOf b f id k d → verdict now (Write c) ≡ Took
      placed k d lo hi t =
          let same : k ≡ p = omega arith in
          let u : Takes b f p d = subst (λ i. Takes b f i d) same t.takes in
          subst (λ (y : Command). verdict now (Write y) ≡ Took) (same_command f p d c u.here here) u.taken

      module _ (own : ℕ) (e : a.stage ≡ Proposed own) where
        open_own : (o : ℕ) → IsOpen a.stage o → o ≡ own
        open_own o h = subst (λ y. IsOpen y o) e h

        lai_up : (state b f p).lai ≤ (state b f (suc p)).lai
        lai_up = (onward b f p (suc p) (omega arith)).numbers.lai

        -- its own entry, under its own maximum
        ended : (g : Stage) → ((o : ℕ) → IsOpen g o → ⊥) → (g ≡ Unborn → ⊥)
            → IsBlocked (state b f (suc p)) a.seq own
            → (IsUntaken g → verdict now (Write c) ≡ Took → ⊥)
            → ((reply : Reply) → g ≡ Success reply → Placed b f id (suc p) reply)
            → ((o q : ℕ) → g ≡ Overtaken o q → ⊥)
            → Move b f n p (suc p) alive bar id a g
        ended g shut old blocked skips success over =
            shuts x (suc p) alive bar g (omega arith) (omega arith) (subst IsBorn (sym e) tt) (subst IsUntaken (sym e) tt) shut old
            (λ o h. subst (IsBlocked (state b f (suc p)) a.seq) (sym (open_own o h)) blocked)
            (λ u k d lo hi t. skips u (placed k d lo hi t))
            success
            (λ o q h. absurd (over o q h))

        judged : own ≡ c.max → (v : Verdict) → verdict now (Write c) ≡ v → Move b f n p (suc p) alive bar id a (by_verdict c v)
        judged same Took h = ended (Success c.reply) (λ o h. h) (λ h. cc)
            (let l = lai_after b f p c (record { here = here; taken = h }) in inl (omega arith))
            (λ u. absurd u)
            (λ reply r. record { k = p; c = c; below = omega arith; place = record { takes = record { here = here; taken = h }; named = named }; answers = cc })
            (λ o q r. cc)
        judged same (OldLease now') h = ended Refused (λ o h. h) (λ h. cc)
            (let s = seq_behind x (subst IsBorn (sym e) tt) in
            let up = (onward b f p (suc p) (omega arith)).numbers.seq in
            let ne = old_lease now c now' h in
            let is = made.of.seq in
            inr (less (cases_order a.seq (state b f p).lease.seq) s up (λ k. ne (is ∙ k))))
            (λ u h'. cc)
            (λ reply r. absurd cc)
            (λ o q r. cc)
          where
            less : (a.seq ≡ (state b f p).lease.seq) ⊎ ((a.seq < (state b f p).lease.seq) ⊎ ((state b f p).lease.seq < a.seq))
                → a.seq ≤ (state b f p).lease.seq → (state b f p).lease.seq ≤ (state b f (suc p)).lease.seq
                → (a.seq ≡ (state b f p).lease.seq → ⊥) → a.seq < (state b f (suc p)).lease.seq
            less (inl s) l up ne = absurd (ne s)
            less (inr (inl s)) l up ne = omega arith
            less (inr (inr s)) l up ne = omega arith
        judged same (OldIndex lai) h = ended Waiting (λ o h. h) (λ h. cc)
            (let l = old_index now c lai h in let up = lai_up in inl (omega arith))
            (λ u h'. cc)
            (λ reply r. absurd cc)
            (λ o q r. cc)
        judged same LeaseMoved h = absurd (no_lease_moved now c h)
        judged same verdicts.Nothing h = absurd (no_void now c h)

        other_max : (own ≡ c.max → ⊥) → Move b f n p (suc p) alive bar id a (Proposed own)
        other_max ne = subst (Move b f n p (suc p) alive bar id a) e (keeps live (suc p) (omega arith) (omega arith) (λ _ k d lo hi t.
            let same : k ≡ p = omega arith in
            let is : d ≡ c = same_command f p d c (subst (λ i. f i ≡ Write d) same t.takes.here) here in
            let open_d = open_own d.max (place_open x k d lo (omega arith) t) in
            ne (sym open_d ∙ ap (λ (y : Command). y.max) is)))

        choose : (t : Bool) → (own == c.max) ≡ t → Move b f n p (suc p) alive bar id a (cond t (by_verdict c (verdict now (Write c))) (Proposed own))
        choose true h = judged (grind (arith, nat_tests)) (verdict now (Write c)) refl
        choose false h = other_max (λ k. grind (arith, nat_tests))

      pub tells : Move b f n p (suc p) alive bar id a (told c (verdict now (Write c)) a.stage)
      tells = go a.stage refl where
        go : (g : Stage) → a.stage ≡ g → Move b f n p (suc p) alive bar id a (told c (verdict now (Write c)) g)
        go Unborn e = absurd (no_maximum a.maxima c.max (x.fresh e) made.of.max)
        go Waiting e = keeps_shut live (suc p) (omega arith) (omega arith) Waiting e (λ o h. h)
        go (Proposed own) e = choose own e (own == c.max) refl
        go (Success reply) e = keeps_known live (suc p) (omega arith) (omega arith) (Success reply) e (λ u. u)
        go Refused e = keeps_shut live (suc p) (omega arith) (omega arith) Refused e (λ o h. h)
        go (Overtaken own passed) e = keeps_known live (suc p) (omega arith) (omega arith) (Overtaken own passed) e (λ u. u)
        go (Removed own) e = keeps_removed live (suc p) (omega arith) (omega arith) own e
        go (Restarted own) e = keeps_known live (suc p) (omega arith) (omega arith) (Restarted own) e (λ u. u)

  -- a waiting one is handed out
  pub hands_out : (max : ℕ) → a.stage ≡ Waiting → 0 < max → Good b f n p alive bar id (handed_out a max)
  hands_out max e pos = record {
    fresh = λ h. absurd cc;
    behind = λ _. x.behind (subst IsBorn (sym e) tt);
    seq = λ _. x.seq (subst IsBorn (sym e) tt);
    holder = λ _. x.holder (subst IsBorn (sym e) tt);
    evaluated = λ _. x.evaluated (subst IsBorn (sym e) tt);
    entries = λ k c l h i. let y = x.entries k c l h i in record {
      of = record { seq = y.of.seq; request = y.of.request; batch = y.of.batch; reply = y.of.reply; max = inr y.of.max };
      behind = y.behind;
    };
    blocked = blocked;
    untaken = λ _. x.untaken (subst IsUntaken (sym e) tt);
    only = λ o h k c l t. absurd (x.untaken (subst IsUntaken (sym e) tt) k c l t);
    once = x.once;
    success = λ reply h. absurd cc;
    removed = λ own h. absurd cc;
    restarted = λ own h. absurd cc;
    positive = λ o h. omega arith;
    overtaken = λ own passed h. absurd cc;
  } where
    old : (m : ℕ) → IsOpen a.stage m ⊎ IsBlocked (state b f p) a.seq m → (m ≡ max) ⊎ IsBlocked (state b f p) a.seq m
    old m (inl h) = let no : ⊥ = subst (λ y. IsOpen y m) e h in absurd no
    old m (inr h) = inr h

    blocked : (m : ℕ) → (m ≡ max) ⊎ IsAmong a.maxima m → (m ≡ max) ⊎ IsBlocked (state b f p) a.seq m
    blocked m (inl h) = inl h
    blocked m (inr h) = old m (x.blocked m h)

  -- the list grows by an entry
  pub grows : p ≤ n → ((c : Command) → f n ≡ Write c → c.id ≡ id → IsOf a c) → Good b f (suc n) p alive bar id a
  grows within may = record {
    fresh = x.fresh;
    behind = x.behind;
    seq = x.seq;
    holder = x.holder;
    evaluated = x.evaluated;
    entries = λ k c l e i. go k c e i (cases_lt k n) l;
    blocked = x.blocked;
    untaken = x.untaken;
    only = x.only;
    once = x.once;
    success = x.success;
    removed = x.removed;
    restarted = x.restarted;
    positive = x.positive;
    overtaken = x.overtaken;
  } where
    is_born : (c : Command) → IsOf a c → (g : Stage) → a.stage ≡ g → IsBorn g
    is_born c o Unborn e = no_maximum a.maxima c.max (x.fresh e) o.max
    is_born c o Waiting e = tt
    is_born c o (Proposed own) e = tt
    is_born c o (Success reply) e = tt
    is_born c o Refused e = tt
    is_born c o (Overtaken own passed) e = tt
    is_born c o (Removed own) e = tt
    is_born c o (Restarted own) e = tt

    go : (k : ℕ) (c : Command) → f k ≡ Write c → c.id ≡ id → (k < n) ⊎ (n ≤ k) → k < suc n → Made a k c
    go k c e i (inl l) h = x.entries k c l e i
    go k c e i (inr ge) h =
        let same : k ≡ n = omega arith in
        let o = may c (subst (λ j. f j ≡ Write c) same e) i in
        let l = x.behind (is_born c o a.stage refl) in
        record { of = o; behind = omega arith }

  -- it is admitted, at a node that has applied so many entries
  pub born_good : (p' : ℕ) (alive' : Bool) (bar' node : ℕ) (body : Body) → a.stage ≡ Unborn → p' ≤ n → (state b f p').lease.holder ≡ node
      → IsEvaluated (state b f p') body
      → Good b f n p' alive' bar' id (record { stage = Waiting; node = node; from = p'; seq = (state b f p').lease.seq; body = body; maxima = [] })
  born_good p' alive' bar' node body e within holder evaluated = record {
    fresh = λ h. refl;
    behind = λ _. omega arith;
    seq = λ _. refl;
    holder = λ _. holder;
    evaluated = λ _. evaluated;
    entries = λ k c l h i. absurd (none k c l h i);
    blocked = λ m h. absurd h;
    untaken = λ _ k c l t. none k c (omega arith) t.takes.here t.named;
    only = λ o h. absurd h;
    once = λ j k c d hj hk t u. absurd (none j c (omega arith) t.takes.here t.named);
    success = λ reply h. absurd cc;
    removed = λ own h. absurd cc;
    restarted = λ own h. absurd cc;
    positive = λ o h. absurd h;
    overtaken = λ own passed h. absurd cc;
  } where
    none : (k : ℕ) (c : Command) → k < n → f k ≡ Write c → c.id ≡ id → ⊥
    none k c l h i = no_maximum a.maxima c.max (x.fresh e) (x.entries k c l h i).of.max

-- an attempt of a range that starts
pub unborn_good : (b : AppliedState) (f : ℕ → Payload) (id : CmdId) → Good b f 0 0 true 0 id unborn
unborn_good b f id = record {
  fresh = λ h. refl;
  behind = λ h. absurd h;
  seq = λ h. absurd h;
  holder = λ h. absurd h;
  evaluated = λ h. absurd h;
  entries = λ k c l. absurd (omega arith);
  blocked = λ m h. absurd h;
  untaken = λ _ k c l. absurd (omega arith);
  only = λ o h. absurd h;
  once = λ j k c d hj. absurd (omega arith);
  success = λ reply h. absurd cc;
  removed = λ own h. absurd cc;
  restarted = λ own h. absurd cc;
  positive = λ o h. absurd h;
  overtaken = λ own passed h. absurd cc;
}
