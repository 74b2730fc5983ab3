use Rattle.std.proofs.Common.{◌≡◌, take, max, ap, ap₂, ◌∙◌, sym, arith}
use Rattle.rp_raftlog.specs.LogState.{last_index, has_term}
use Rattle.rp_raftstep.specs.RaftState.{is_majority, with_node}
use Rattle.rp_raftstep.specs.Step.{is_committable, is_on_majority, matched_by}
use Rattle.rp_raft.specs.Plans.{ahead, at_least}
use Rattle.rp_raft.proofs.Greatest.{found, passed, ended}
use Rattle.rp_raft.proofs.Reach.{and_false, lower}
use Rattle.rp_raft.proofs.commits.committed.Goals as goal

pub loop-index-init : goal.loop-index-init
loop-index-init c =
    let st = ahead c.args.head.now c.args.log.now.log c.args.added.now in
    let e = c.last_in-last.ensures in
    let m : take c.from.result c.matched_by-matched_by_all.result ≡ take c.args.head.now.nodes (matched_by st) =
    ap₂ (λ n l. take n l) c.from.ensures (c.matched_by-matched_by_all.ensures ∙ ap (with_node c.args.head.now.matched c.args.head.now.node) e) in
    ap (max c.args.head.now.commit)
    (sym (lower (is_committable st) (last_index st.log) c.min-index.result (omega (arith, c.min-index.ensures, e)) (λ i past within.
    and_false (has_term st.log i st.head.term) (is_on_majority st i)
    (ap (λ l. is_majority c.args.head.now (at_least i l)) (sym m) ∙ c.reach.ensures i (omega (arith, c.min-index.ensures, e))))))

pub returns-then-is_committable : goal.returns-then-is_committable
returns-then-is_committable c =
    found (is_committable (ahead c.args.head.now c.args.log.now.log c.args.added.now)) c.args.head.now.commit c.loop-index.index c.loop-index-test.true (sym c.is_committable.ensures ∙ c.if-is_committable.true)
    ∙ c.loop-index.invariant

pub loop-index-preserved : goal.loop-index-preserved
loop-index-preserved c =
    ap (max c.args.head.now.commit) (sym (passed (is_committable (ahead c.args.head.now c.args.log.now.log c.args.added.now)) c.loop-index.index _ (omega arith) (sym c.is_committable.ensures ∙ c.if-is_committable.false)))
    ∙ c.loop-index.invariant

pub returns : goal.returns
returns c = ended (is_committable (ahead c.args.head.now c.args.log.now.log c.args.added.now)) c.args.head.now.commit c.loop-index.index (omega arith) ∙ c.loop-index.invariant
