use Rattle.std.proofs.Common.{◌++◌, map, None, refl, ap, subst, ◌∙◌}
use Rattle.std.specs.List.{IsDistinct}
use Rattle.rp_base.specs.Ids.{same_id}
use Rattle.rp_replica.specs.Handing.{EachReads, moves_spelled}
use Rattle.rp_replica.proofs.Refreshing.{may_extend, refresh_plan, refresh_spelled}
use Rattle.rp_replica.proofs.replicas.Replica.plan_refresh.Goals as goal

pub extended-requires : goal.extended-requires
extended-requires c = record {
  made = c.requires.made;
  more = may_extend c.args.self.now.replica c.args.raft c.args.refresh c.in_ok-moves.moves c.push_moves.new.bytes
      (subst (λ h. IsDistinct same_id (map (λ p. p.id) h.replica.pending)) c.self.view_is c.ids_are_distinct.ensures)
      c.requires.whole c.requires.refresh c.requires.last c.in_ok-moves.ensures
      (c.in_ok-push_moves.ensures.bytes
      ∙ ap (λ bs. bs ++ moves_spelled c.self.inside.pending.list c.as_slice.result.now) c.new-bytes.ensures
      ∙ ap (moves_spelled c.self.inside.pending.list) c.as_slice.ensures
      ∙ ap (λ h. moves_spelled h.replica.pending c.in_ok-moves.moves) c.self.view_is);
  does = c.requires.does;
}

pub returns-clause-plan : goal.returns-clause-plan
returns-clause-plan c =
    refresh_plan c.args.self.now.replica (record {
      raft = c.in_ok-raft.raft;
      moves = c.in_ok-moves.moves;
      ticks = c.args.ticks;
      round = c.args.round;
      last = None;
      back = c.len-back.result;
      outcomes = c.in_ok-outcomes.outcomes;
    }) c.args.raft c.args.refresh c.push_moves.new.bytes
    (subst (λ h. IsDistinct same_id (map (λ p. p.id) h.replica.pending)) c.self.view_is c.ids_are_distinct.ensures)
    c.requires.refresh c.in_ok-raft.ensures.made c.in_ok-raft.ensures.plan c.in_ok-moves.ensures
    (c.in_ok-push_moves.ensures.bytes
    ∙ ap (λ bs. bs ++ moves_spelled c.self.inside.pending.list c.as_slice.result.now) c.new-bytes.ensures
    ∙ ap (moves_spelled c.self.inside.pending.list) c.as_slice.ensures
    ∙ ap (λ h. moves_spelled h.replica.pending c.in_ok-moves.moves) c.self.view_is)
    c.in_ok-outcomes.ensures refl c.len-back.ensures

pub returns-clause-read : goal.returns-clause-read
returns-clause-read c =
    subst EachReads
    (refresh_spelled c.args.self.now.replica c.args.raft c.args.refresh c.args.ticks c.args.round c.in_ok-moves.moves c.push_moves.new.bytes
    (subst (λ h. IsDistinct same_id (map (λ p. p.id) h.replica.pending)) c.self.view_is c.ids_are_distinct.ensures)
    c.requires.refresh c.in_ok-moves.ensures
    (c.in_ok-push_moves.ensures.bytes
    ∙ ap (λ bs. bs ++ moves_spelled c.self.inside.pending.list c.as_slice.result.now) c.new-bytes.ensures
    ∙ ap (moves_spelled c.self.inside.pending.list) c.as_slice.ensures
    ∙ ap (λ h. moves_spelled h.replica.pending c.in_ok-moves.moves) c.self.view_is))
    c.in_ok-push_moves.ensures.read
