-- What events do to one attempt, and that it stays good.
use Rattle.std.proofs.Common.{◌≡◌, ℕ, ◌<◌, ◌≤◌, Bool, false, ◌⊎◌, inl, inr, refl, sym, subst, arith}
use Rattle.std.proofs.lemmas.Bool.{cases_lt}
use Rattle.rp_base.specs.declared.ids.CmdId.{CmdId}
use Rattle.rp_request.specs.declared.commands.Payload.{Payload}
use Rattle.rp_request.specs.declared.commands.Command.{Command}
use Rattle.rp_request.specs.declared.outcomes.Reply.{Reply}
use Rattle.rp_request.specs.Applied.{AppliedState, IsBlocked}
use Rattle.rp_rangesafe.specs.Attempts.{Stage, Unborn, Waiting, Proposed, Success, Refused, Overtaken, Removed, Restarted, Attempt, IsBorn, IsOpen, IsUntaken, staged}
use Rattle.rp_rangesafe.specs.Along.{state}
use Rattle.rp_rangesafe.proofs.Numbers.{onward, blocked_later}
use Rattle.rp_rangesafe.proofs.One.{PlaceOf, Placed, Good, one_open, place_open, one_place}

-- what is owed where an attempt goes to a stage while its node goes from an index to a later one
pub record Move (b : AppliedState) (f : ℕ → Payload) (n p q : ℕ) (alive' : Bool) (bar' : ℕ) (id : CmdId) (a : Attempt) (g : Stage) : Type 0 where
  pub forth : p ≤ q
  pub within : q ≤ n
  pub born : IsBorn g → IsBorn a.stage
  pub fresh : g ≡ Unborn → a.stage ≡ Unborn
  pub opens : (o : ℕ) → IsOpen g o → IsOpen a.stage o
  pub closes : (o : ℕ) → IsOpen a.stage o → IsOpen g o ⊎ IsBlocked (state b f q) a.seq o
  pub untaken : IsUntaken g → IsUntaken a.stage
  pub skips : IsUntaken g → (k : ℕ) (c : Command) → p ≤ k → k < q → PlaceOf b f id k c → ⊥
  pub success : (reply : Reply) → g ≡ Success reply → Placed b f id q reply
  pub removed : (own : ℕ) → g ≡ Removed own → alive' ≡ false
  pub restarted : (own : ℕ) → g ≡ Restarted own → a.seq ≤ bar'
  pub overtaken : (own passed : ℕ) → g ≡ Overtaken own passed → (0 < own) × (own ≤ passed)

module _ {b : AppliedState} {f : ℕ → Payload} {n p : ℕ} {alive : Bool} {bar : ℕ} {id : CmdId} {a : Attempt} (x : Good b f n p alive bar id a) where
  module _ {q : ℕ} {alive' : Bool} {bar' : ℕ} {g : Stage} (m : Move b f n p q alive' bar' id a g) where
    moved_blocked : (o : ℕ) → IsOpen a.stage o ⊎ IsBlocked (state b f p) a.seq o → IsOpen g o ⊎ IsBlocked (state b f q) a.seq o
    moved_blocked o (inl h) = m.closes o h
    moved_blocked o (inr h) = inr (blocked_later b f p q a.seq o m.forth h)

    moved_untaken : IsUntaken g → (k : ℕ) (c : Command) → k < q → PlaceOf b f id k c → ⊥
    moved_untaken h k c l t = go (cases_lt k p) where
      go : (k < p) ⊎ (p ≤ k) → ⊥
      go (inl below) = x.untaken (m.untaken h) k c below t
      go (inr above) = m.skips h k c above l t

    moved_only : (o : ℕ) → IsOpen g o → (k : ℕ) (c : Command) → k < q → PlaceOf b f id k c → c.max ≡ o
    moved_only o h k c l t = go (cases_lt k p) where
      within : q ≤ n
      within = m.within

      go : (k < p) ⊎ (p ≤ k) → c.max ≡ o
      go (inl below) = x.only o (m.opens o h) k c below t
      go (inr above) = one_open a.stage c.max o (place_open x k c above (omega arith) t) (m.opens o h)

    pub good_moved : Good b f n q alive' bar' id (staged a g)
    good_moved = record {
      fresh = λ e. x.fresh (m.fresh e);
      behind = λ h. let l = x.behind (m.born h) in let forth = m.forth in omega arith;
      seq = λ h. x.seq (m.born h);
      holder = λ h. x.holder (m.born h);
      evaluated = λ h. x.evaluated (m.born h);
      entries = λ k c l e i. let y = x.entries k c l e i in record {
        of = record { seq = y.of.seq; request = y.of.request; batch = y.of.batch; reply = y.of.reply; max = y.of.max };
        behind = y.behind;
      };
      blocked = λ o h. moved_blocked o (x.blocked o h);
      untaken = moved_untaken;
      only = moved_only;
      once = λ j k c d hj hk t u. let within = m.within in one_place x j k c d (omega arith) (omega arith) t u;
      success = m.success;
      removed = m.removed;
      restarted = m.restarted;
      positive = λ o h. x.positive o (m.opens o h);
      overtaken = m.overtaken;
    }

  placed_later : (q : ℕ) (reply : Reply) → p ≤ q → Placed b f id p reply → Placed b f id q reply
  placed_later q reply l t = record { k = t.k; c = t.c; below = let e = t.below in omega arith; place = t.place; answers = t.answers }

  -- an attempt stays in its stage
  pub stays : (q : ℕ) (alive' : Bool) (bar' : ℕ) → p ≤ q → q ≤ n → (alive ≡ false → alive' ≡ false)
      → ((own : ℕ) → a.stage ≡ Restarted own → a.seq ≤ bar')
      → (IsUntaken a.stage → (k : ℕ) (c : Command) → p ≤ k → k < q → PlaceOf b f id k c → ⊥)
      → Move b f n p q alive' bar' id a a.stage
  stays q alive' bar' forth within dead bars skips = record {
    forth = forth;
    within = within;
    born = λ h. h;
    fresh = λ e. e;
    opens = λ o h. h;
    closes = λ o h. inl h;
    untaken = λ h. h;
    skips = skips;
    success = λ reply e. placed_later q reply forth (x.success reply e);
    removed = λ own e. dead (x.removed own e);
    restarted = bars;
    overtaken = x.overtaken;
  }

  -- a stage in which nothing is open, from one in which no place is known
  pub shuts : (q : ℕ) (alive' : Bool) (bar' : ℕ) (g : Stage) → p ≤ q → q ≤ n → IsBorn a.stage → IsUntaken a.stage
      → ((o : ℕ) → IsOpen g o → ⊥) → (g ≡ Unborn → ⊥)
      → ((o : ℕ) → IsOpen a.stage o → IsBlocked (state b f q) a.seq o)
      → (IsUntaken g → (k : ℕ) (c : Command) → p ≤ k → k < q → PlaceOf b f id k c → ⊥)
      → ((reply : Reply) → g ≡ Success reply → Placed b f id q reply)
      → ((own passed : ℕ) → g ≡ Overtaken own passed → (0 < own) × (own ≤ passed))
      → Move b f n p q alive' bar' id a g
  shuts q alive' bar' g forth within born none shut old closes skips success over = record {
    forth = forth;
    within = within;
    born = λ _. born;
    fresh = λ e. absurd (old e);
    opens = λ o h. absurd (shut o h);
    closes = λ o h. inr (closes o h);
    untaken = λ _. none;
    skips = skips;
    success = success;
    removed = λ own e. absurd (shut own (subst (λ y. IsOpen y own) (sym e) refl));
    restarted = λ own e. absurd (shut own (subst (λ y. IsOpen y own) (sym e) refl));
    overtaken = over;
  }

  -- its lease sequence is at most the present one
  pub seq_behind : IsBorn a.stage → a.seq ≤ (state b f p).lease.seq
  seq_behind h = let o = onward b f a.from p (x.behind h) in let e = x.seq h in omega arith

  no_skip : (k : ℕ) → p ≤ k → k < p → ⊥
  no_skip k l h = omega arith

  -- a proposed one whose maximum was passed waits again
  pub returns : (own : ℕ) → a.stage ≡ Proposed own → p ≤ n → own ≤ (state b f p).lai → Move b f n p p alive bar id a Waiting
  returns own e l passed = shuts p alive bar Waiting (omega arith) l (subst IsBorn (sym e) tt) (subst IsUntaken (sym e) tt)
      (λ o h. h) (λ h. cc)
      (λ o h. let same : o ≡ own = subst (λ y. IsOpen y o) e h in inl (omega arith))
      (λ _ k c lo hi t. no_skip k lo hi)
      (λ reply h. absurd cc) (λ own passed h. absurd cc)

  -- a waiting one is refused
  pub refuses : (alive' : Bool) (bar' : ℕ) → a.stage ≡ Waiting → p ≤ n → Move b f n p p alive' bar' id a Refused
  refuses alive' bar' e l = shuts p alive' bar' Refused (omega arith) l (subst IsBorn (sym e) tt) (subst IsUntaken (sym e) tt)
      (λ o h. h) (λ h. cc)
      (λ o h. let no : ⊥ = subst (λ y. IsOpen y o) e h in absurd no)
      (λ _ k c lo hi t. no_skip k lo hi)
      (λ reply h. absurd cc) (λ own passed h. absurd cc)

  -- the replica of a proposed one is removed
  pub removes : (own : ℕ) → a.stage ≡ Proposed own → p ≤ n → Move b f n p p false bar id a (Removed own)
  removes own e l = record {
    forth = omega arith;
    within = l;
    born = λ _. subst IsBorn (sym e) tt;
    fresh = λ h. absurd cc;
    opens = λ o h. subst (λ y. IsOpen y o) (sym e) h;
    closes = λ o h. inl (subst (λ y. IsOpen y o) e h);
    untaken = λ _. subst IsUntaken (sym e) tt;
    skips = λ _ k c lo hi t. no_skip k lo hi;
    success = λ reply h. absurd cc;
    removed = λ o h. refl;
    restarted = λ o h. absurd cc;
    overtaken = λ o q h. absurd cc;
  }

  -- its node restarts
  pub restarts : (own bar' : ℕ) → a.stage ≡ Proposed own → p ≤ n → (state b f p).lease.seq ≤ bar' → Move b f n p p alive bar' id a (Restarted own)
  restarts own bar' e l above = record {
    forth = omega arith;
    within = l;
    born = λ _. subst IsBorn (sym e) tt;
    fresh = λ h. absurd cc;
    opens = λ o h. subst (λ y. IsOpen y o) (sym e) h;
    closes = λ o h. inl (subst (λ y. IsOpen y o) e h);
    untaken = λ _. subst IsUntaken (sym e) tt;
    skips = λ _ k c lo hi t. no_skip k lo hi;
    success = λ reply h. absurd cc;
    removed = λ o h. absurd cc;
    restarted = λ o h. let s = seq_behind (subst IsBorn (sym e) tt) in omega arith;
    overtaken = λ o q h. absurd cc;
  }
