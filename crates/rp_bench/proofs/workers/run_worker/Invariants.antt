use Rattle.rp_buffer.specs.Passes as passes
use Rattle.rp_switch.specs.Seats.{known_by}
use Rattle.rp_bench.proofs.workers.run_worker.Given as goal

abbrev pub ghosts-run_worker_at : goal.ghosts-run_worker_at
ghosts-run_worker_at g a = record {
  from = record {
    switch = a.shared.now.switch.now.table.shared.table_id;
    buffers = a.shared.now.buffers.now.table.shared.table_id;
    known = known_by a.rights.seat;
    pass_parts = (passes.known_by a.rights.pass).parts;
  };
}
