use Rattle.rp_tried.proofs.laws.what_a_desk_may_admit_is_the_next_try.Goals as goal
use Rattle.rp_tried.proofs.Coming.{may_try, own_id}

pub returns-clause-may : goal.returns-clause-may
returns-clause-may c = may_try

pub returns-clause-client_is : goal.returns-clause-client_is
returns-clause-client_is c = own_id
