-- A seat that goes on, by steps one after another.
use Rattle.std.proofs.Common.{◌≡◌, ℕ, Bool, true, false, refl, sym, ap, subst, ◌∙◌}
use Rattle.rp_switch.specs.Views.{Right, Lacks, Tries, Rounds, BrokenOff, Stage, Idle, HasNode, HasCell, Chooses, Knowledge, right_at, is_rounds}
use Rattle.rp_bench.specs.Visits.{IsQuiet}
use Rattle.rp_bench.specs.Worked.{is_lacking, is_idle, IsOnward, IsWorked}

pub idle_is : (st : Stage) → is_idle st ≡ true → st ≡ Idle
idle_is Idle e = refl
idle_is (HasNode place at) e = absurd cc
idle_is (HasCell place) e = absurd cc
idle_is (Chooses choice) e = absurd cc

pub lacking_is : (r : Right) → is_lacking r ≡ true → r ≡ Lacks
lacking_is Lacks e = refl
lacking_is (Tries ts) e = absurd cc
lacking_is Rounds e = absurd cc
lacking_is BrokenOff e = absurd cc

pub rounds_is : (r : Right) → is_rounds r ≡ true → r ≡ Rounds
rounds_is Lacks e = absurd cc
rounds_is (Tries ts) e = absurd cc
rounds_is Rounds e = refl
rounds_is BrokenOff e = absurd cc

pub onward_self : (v : Knowledge) → is_idle v.stage ≡ true → IsOnward v v
onward_self v idle = record { terms = refl; parts = refl; idle = idle; lacks = λ k e. e }

pub onward_behind : (u v w : Knowledge) → IsOnward u v → IsOnward v w → IsOnward u w
onward_behind u v w a b = record {
  terms = b.terms ∙ a.terms;
  parts = b.parts ∙ a.parts;
  idle = b.idle;
  lacks = λ k e. b.lacks k (a.lacks k e);
}

pub quiet_self : (v : Knowledge) → IsQuiet v v
quiet_self v = refl

pub quiet_behind : (u v w : Knowledge) → IsQuiet u v → IsQuiet v w → IsQuiet u w
quiet_behind u v w a b = b ∙ ap (λ (k : Knowledge). record k { looks = w.looks }) a

pub quiet_onward : (v w : Knowledge) → IsQuiet v w → is_idle v.stage ≡ true → IsOnward v w
quiet_onward v w q idle = subst (IsOnward v) (sym q) (record { terms = refl; parts = refl; idle = idle; lacks = λ k e. e })

-- what it leaves, by its rights and its stage
pub worked_of : (v w : Knowledge) → IsOnward v w → IsWorked v w
worked_of v w a = record {
  terms = a.terms;
  parts = a.parts;
  idle = idle_is w.stage a.idle;
  lacks = λ k e. lacking_is (right_at w.rights k) (a.lacks k (ap is_lacking e));
}
