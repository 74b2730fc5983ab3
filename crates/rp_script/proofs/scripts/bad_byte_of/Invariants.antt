use Rattle.std.proofs.Common.{◌≡◌, ◌≤◌, ◌+◌, length}
use Rattle.std.specs.List.{position_from}
use Rattle.rp_script.specs.Seen.{has_bad_byte}
use Rattle.rp_script.proofs.scripts.bad_byte_of.Given as goal

-- no word so far has a bad byte
abbrev pub invariant-loop-word : goal.invariant-loop-word
invariant-loop-word l = record {
  same : position_from has_bad_byte l.at l.words ≡ position_from has_bad_byte 1 l.initial.words;
  room : l.at + length l.words ≤ 258;
}

abbrev pub decreases-loop-word : goal.decreases-loop-word
decreases-loop-word l = length l.words
