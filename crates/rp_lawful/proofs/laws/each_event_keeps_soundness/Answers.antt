use Rattle.rp_lawful.proofs.laws.each_event_keeps_soundness.Goals as goal
use Rattle.rp_lawful.proofs.Lines.{plain_keeps, comes_keeps, draws_keep, publishes_keep}
use Rattle.rp_lawful.proofs.Playing.{next_leads, further_leads}

pub returns : goal.returns
returns c = record {
  plain = λ k p s e is q ok. plain_keeps k p s e is q ok;
  comes = λ k p s sender number parcel is q ok. comes_keeps k p s sender number parcel is q ok;
  draws = λ k p s line id b is q ok. draws_keep k p s line id b is q ok;
  publishes = λ k p s id b is place q ok. publishes_keep k p s id b is place q ok;
  next = next_leads;
  further = further_leads;
}
