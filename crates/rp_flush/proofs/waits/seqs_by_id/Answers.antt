use Rattle.std.proofs.Common.{◌∙◌, sym, ap}
use Rattle.std.specs.BTreeMap.{get}
use Rattle.rp_base.specs.Ids.{cmd_cmp}
use Rattle.rp_flush.proofs.Finds.{still_answers, answers_more}
use Rattle.rp_flush.proofs.waits.seqs_by_id.Goals as goal
use Rattle.rp_flush.proofs.waits.seqs_by_id.Goals.{then-not-contains_key+in_ok-insert, else-not-contains_key}

pub loop-proposal-preserved : goal.loop-proposal-preserved
loop-proposal-preserved c =
    λ id. elim c.if-not-contains_key.branch [
      | then-not-contains_key+in_ok-insert w ↦
          ap (λ m. get cmd_cmp m id) w.seqs-is
          ∙ answers_more c.args.waiting.now c.loop-proposal.proposal-index c.proposal-item.result (get cmd_cmp c.loop-proposal.seqs) (get cmd_cmp w.insert.new.self)
          c.loop-proposal-test.true c.proposal-item.is c.loop-proposal.invariant (sym c.contains_key.ensures ∙ w.if-not-contains_key.true) w.in_ok-insert.ensures.updates.0 id
      | else-not-contains_key w ↦
          ap (λ m. get cmd_cmp m id) w.seqs-is
          ∙ still_answers c.args.waiting.now c.loop-proposal.proposal-index c.proposal-item.result (get cmd_cmp c.loop-proposal.seqs)
          c.loop-proposal-test.true c.proposal-item.is c.loop-proposal.invariant (sym c.contains_key.ensures ∙ w.if-not-contains_key.false) id
    ]
