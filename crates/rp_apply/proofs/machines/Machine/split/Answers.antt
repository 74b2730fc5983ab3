use Rattle.rp_apply.proofs.Splitting.{split_state}
use Rattle.rp_apply.proofs.machines.Machine.split.Goals as goal

pub returns-clause-state : goal.returns-clause-state
returns-clause-state c = rw (← c.self.view_is) (split_state _ c.args.key c.unwrap-left.result c.cut_at.new.self.map c.split_at.result c.split_at.ensures c.unwrap-left.ensures c.cut_at.ensures.map)
