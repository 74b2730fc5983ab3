use Rattle.rp_seats.proofs.laws.scenes_of_a_seat_are_turns_of_its_range.Goals as goal
use Rattle.rp_seats.proofs.Events.{ask_scene, transfer_scene, collect_scene, flush_scene, apply_scene, cut_scene, remove_scene, peek_scene}
use Rattle.rp_seats.proofs.Ticks.{tick_scene}
use Rattle.rp_seats.proofs.Messages.{deliver_scene}

pub returns : goal.returns
returns c lists range s seen w h node n r k = record {
  ask = ask_scene lists range s seen w h node n r k;
  transfer = transfer_scene lists range s seen w h node n r k;
  collect = collect_scene lists range s seen w h node n r k;
  flush = flush_scene lists range s seen w h node n r k;
  tick = tick_scene lists range s seen w h node n r k;
  deliver = λ from number to m at. deliver_scene lists range s seen w h node n r k from number to m at;
  apply = apply_scene lists range s seen w h node n r k;
  cut = cut_scene lists range s seen w h node n r k;
  remove = remove_scene lists range s seen w h node n r k;
  peek = peek_scene lists range s seen w h node n r k;
}
