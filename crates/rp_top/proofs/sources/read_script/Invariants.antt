use Rattle.std.proofs.Common.{◌≡◌, ◌-◌}
use Rattle.rp_script.specs.Reading.{weight}
use Rattle.rp_top.specs.Gives.{HasCome}
use Rattle.rp_top.proofs.sources.read_script.Given as goal

abbrev pub invariant-loop-n : goal.invariant-loop-n
invariant-loop-n g l = record {
  came : HasCome l.fn.race (g.S.Source.left l.fn.source) (g.S.Source.left l.source) l.reader;
  calm : g.S.Source.faults l.source ≡ g.S.Source.faults l.fn.source;
}

abbrev pub decreases-loop-n : goal.decreases-loop-n
decreases-loop-n g l = 16842752 - weight l.reader
