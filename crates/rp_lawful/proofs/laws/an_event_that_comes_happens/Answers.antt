use Rattle.rp_lawful.proofs.laws.an_event_that_comes_happens.Goals as goal
use Rattle.rp_lawful.proofs.Coming.{comes_nodes, comes_buffers}

pub returns : goal.returns
returns c = record { nodes = comes_nodes; buffer = comes_buffers }
