use Rattle.rp_promise.proofs.laws.each_scene_keeps_the_records.Goals as goal
use Rattle.rp_promise.proofs.Scenes.{scene_turned}
use Rattle.rp_promise.proofs.Opened.{all_now}

pub returns : goal.returns
returns c = λ lists w m seen b x lawful n further b' on a. all_now lists w m seen b x (scene_turned w x lawful.lawful) n further b' on a
