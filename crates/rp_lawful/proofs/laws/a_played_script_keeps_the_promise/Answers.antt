use Rattle.rp_lawful.proofs.laws.a_played_script_keeps_the_promise.Goals as goal
use Rattle.rp_promise.proofs.Along.{kept_by_reached}
use Rattle.rp_lawful.proofs.Playing.{script_sound, script_reached}

pub returns : goal.returns
returns c = record {
  reached = script_reached;
  promise = λ nodes ls f p ok. kept_by_reached nodes p.world.nodes (script_reached nodes ls f p ok);
  sound = script_sound;
}
