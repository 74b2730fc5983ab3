use Rattle.rp_report.proofs.outcomes.push_holder.Goals as goal

pub returns : goal.returns
returns c = rw (c.from.ensures, c.get.ensures.value, c.get-2.ensures) at c.push_numbers.ensures
