use Rattle.rp_buffer.specs.Passes as passes
use Rattle.rp_quota.specs.Shares as shares
use Rattle.rp_switch.specs.Seats.{known_by}
use Rattle.rp_desks.proofs.clients.send_all.Given as goal

abbrev pub ghosts-send_all_at : goal.ghosts-send_all_at
ghosts-send_all_at g a = record {
  from = record {
    switch = a.shared.now.switch.now.table.shared.table_id;
    buffers = a.shared.now.buffers.now.table.shared.table_id;
    quota = a.shared.now.quota.now.table.shared.table_id;
    client = a.client;
    known = known_by a.rights.seat;
    pass_parts = (passes.known_by a.rights.pass).parts;
    share_parts = (shares.known_by a.rights.share).parts;
  };
}
