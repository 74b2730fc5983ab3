use Rattle.std.proofs.Common.{◌≡◌, Bool, true, false, refl}
use Rattle.std.specs.Prelude.{not}
use Rattle.rp_bench.proofs.stations.Station.is_due.Goals as goal

pub returns-then-self : goal.returns-then-self
returns-then-self c = λ due. record {
  may_play = c.if-self.true;
  behind = λ seen n size whole rounds. c.is_behind.ensures.none seen size whole n rounds (not_behind c.is_behind.result due);
}
  where
    not_behind : (b : Bool) → not b ≡ true → b ≡ false
    not_behind true e = absurd cc
    not_behind false e = refl
