use Rattle.rp_base.proofs.ValueLaws.{value_eq-Decides}
use Rattle.rp_base.proofs.laws.values_equal_where_same.Goals as goal

pub returns : goal.returns
returns c = value_eq-Decides
