use Rattle.rp_rangesafe.proofs.Runs.{same_start}
use Rattle.rp_rangesafe.proofs.Admissions.{index_elsewhere, alive_elsewhere, barrier_elsewhere, attempt_elsewhere}
use Rattle.rp_rangesafe.proofs.laws.an_event_leaves_other_nodes.Goals as goal

pub returns : goal.returns
returns c = record {
  start = same_start;
  index = index_elsewhere;
  alive = alive_elsewhere;
  barrier = barrier_elsewhere;
  attempts = attempt_elsewhere;
}
