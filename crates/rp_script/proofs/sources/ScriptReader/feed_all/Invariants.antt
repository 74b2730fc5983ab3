use Rattle.std.proofs.Common.{◌≡◌, ◌+◌, ◌≤◌, drop}
use Rattle.rp_script.specs.Reading.{fed_all, weight}
use Rattle.rp_script.proofs.sources.ScriptReader.feed_all.Given as goal

-- what is left of the piece leads from here where all of it led from the start
abbrev pub invariant-loop-byte : goal.invariant-loop-byte
invariant-loop-byte l = record {
  leads : fed_all l.self (drop l.byte-index l.piece) ≡ fed_all l.fn.self l.piece;
  further : weight l.fn.self + l.byte-index ≤ weight l.self;
  ends : weight l.self ≤ 16842752;
}
