use Rattle.rp_base.proofs.KeyLaws.{key_inside}
use Rattle.rp_base.proofs.keys.Key.bound.Goals as goal

pub returns-clause-above : goal.returns-clause-above
returns-clause-above c = (key_inside c.self.inside.0 c.self.invariant).0

pub returns-clause-below : goal.returns-clause-below
returns-clause-below c = (key_inside c.self.inside.0 c.self.invariant).1
