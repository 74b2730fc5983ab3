use Rattle.rp_lawful.proofs.laws.a_sound_player_makes_events_that_come.Goals as goal
use Rattle.std.specs.Prelude.{length}
use Rattle.rp_lawful.proofs.Coming.{comes_as, plain_comes, message_comes}
use Rattle.rp_lawful.proofs.Nexts.{room, next_comes, further_comes}
use Rattle.rp_lawful.proofs.Playing.{sent_comes}

pub returns : goal.returns
returns c = record {
  lawful = λ k p s node what l. comes_as (length p.world.nodes) p.world s.reached node what l;
  plain = λ k p s e is. plain_comes (length p.world.nodes) p.world s.reached (room k p s) s.buffers e is;
  deliver = λ k p s sender number parcel is to. message_comes (length p.world.nodes) p.world s.reached (room k p s) s.buffers sender number parcel is to;
  message = sent_comes;
  next = next_comes;
  further = further_comes;
}
