use Rattle.rp_top.proofs.Playing.{item_ends, item_leads_on, item_may_be_played}
use Rattle.rp_top.proofs.plays.play_all.Goals as goal

pub play-requires : goal.play-requires
play-requires c =
    item_may_be_played c.args.nodes c.args.lines.now c.loop-line.line-index c.line-item.result c.loop-line.world c.requires.front c.loop-line-test.true c.line-item.is
    c.loop-line.invariant.led

pub returns-in-Err : goal.returns-in-Err
returns-in-Err c =
    item_ends c.args.nodes c.args.lines.now c.loop-line.line-index c.line-item.result c.loop-line.world c.in-Err.fault c.loop-line-test.true c.line-item.is
    c.loop-line.invariant.led c.in-Err.ensures

pub loop-line-preserved : goal.loop-line-preserved
loop-line-preserved c = record {
  led = item_leads_on c.args.nodes c.args.lines.now c.loop-line.line-index c.line-item.result c.loop-line.world c.play.new.self c.loop-line-test.true c.line-item.is
      c.loop-line.invariant.led c.in-Ok.ensures;
}
