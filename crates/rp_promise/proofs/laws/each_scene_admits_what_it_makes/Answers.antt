use Rattle.rp_promise.proofs.laws.each_scene_admits_what_it_makes.Goals as goal
use Rattle.rp_promise.proofs.Made.{admitted_on}

pub returns : goal.returns
returns c = λ lists w m seen b x lawful n further b' on nodes reached a. admitted_on lists w m seen b x lawful n further b' on nodes reached a
