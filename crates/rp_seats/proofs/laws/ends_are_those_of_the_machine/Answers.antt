use Rattle.rp_seats.proofs.laws.ends_are_those_of_the_machine.Goals as goal
use Rattle.rp_seats.proofs.Ends.{snapshot_ends, removal_ends, restart_ends, ends_beside}

pub returns : goal.returns
returns c = record {
  snapshot = snapshot_ends;
  removal = removal_ends;
  restart = restart_ends;
  beside = λ ends change so node attempts r told ok. ends_beside ends change so node attempts r.pending r.latches told ok;
}
