use Rattle.rp_lawful.proofs.laws.each_part_of_a_line_keeps_soundness.Goals as goal
use Rattle.rp_lawful.proofs.Lines.{both_keep, goes_on_keeps, ask_keeps, puts_keeps, puts_all_keeps, ticks_keep, passes_one, passes_keep, applies_keep, round_keeps, settles_keep}

pub returns : goal.returns
returns c = record {
  both = λ k p s line id b is q ok. both_keep k p s line id b is q ok;
  goes_on = λ k p s line id b is answer q ok. goes_on_keeps k p s line id b is answer q ok;
  ask = λ k p s line node range at low ask q ok. ask_keeps k p s line node range ask q ok;
  puts = λ k p s id b is draw q ok. puts_keeps k p s id b is draw q ok;
  puts_all = λ k p s q ok. puts_all_keeps k p s q ok;
  ticks = λ k p s node at q ok. ticks_keep k p s node at q ok;
  passes_one = λ k p s sender number q ok. passes_one k p s sender number q ok;
  passes = λ k p s sender q ok. passes_keep k p s sender q ok;
  applies = λ k p s node at q ok. applies_keep k p s node at q ok;
  round = λ k p s q ok. round_keeps k p s q ok;
  settles = λ k p s rounds q ok. settles_keep k p s rounds q ok;
}
