use Rattle.rp_told.proofs.laws.what_is_looked_at_is_in_a_seat.Goals as goal
use Rattle.rp_told.proofs.Looking.{live_here, waiting_here, left_here, sent_here}

pub returns : goal.returns
returns c = record { live = live_here; waiting = waiting_here; left = left_here; sent = sent_here }
