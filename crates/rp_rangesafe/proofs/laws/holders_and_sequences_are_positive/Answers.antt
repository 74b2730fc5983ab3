use Rattle.rp_rangesafe.proofs.Holders.{holder_at, seq_at, range_holder, range_seq}
use Rattle.rp_rangesafe.proofs.laws.holders_and_sequences_are_positive.Goals as goal

pub returns : goal.returns
returns c = record { holder = holder_at; seq = seq_at; each_holder = range_holder; each_seq = range_seq }
