-- What a worker's bench stands for (this project).
use Rattle.rp_bufcore.specs.declared.ends.BufferEnd.{Ghosts}
use Rattle.rp_rounds.specs.Rounds.{Standing}
use Rattle.rp_bench.specs.declared.benches.SwitchBench.{SwitchBench}
use Rattle.rp_bench.specs.declared.origins.Origin as origins
use Rattle.rp_bench.specs.Dues.{due_of}

abbrev pub standing_of : {R E G K : Type 0} {g : Ghosts E} {o : origins.Ghosts K} → SwitchBench R E G K g o → Standing
standing_of {R} {E} {G} {K} {g} {o} b = record {
  worker = b.worker;
  workers = b.workers;
  nodes = o.from.known.terms.nodes;
  due = due_of b.due;
  is_over = b.is_over;
}
