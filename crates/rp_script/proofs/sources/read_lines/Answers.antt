use Rattle.rp_script.proofs.ReadsLines.{read_stopped, read_whole}
use Rattle.rp_script.proofs.sources.read_lines.Goals as goal

pub returns-in-Err-clause-meaning : goal.returns-in-Err-clause-meaning
returns-in-Err-clause-meaning c = read_stopped c.args.race c.args.source.now c.in-Err.stop (rw c.new.ensures at c.in-Err.ensures.gives)

pub returns-clause-meaning : goal.returns-clause-meaning
returns-clause-meaning c = read_whole c.args.race c.args.source.now c.in-Ok.reader c.finish.result (rw c.new.ensures at c.in-Ok.ensures.gives) c.finish.ensures.gives
