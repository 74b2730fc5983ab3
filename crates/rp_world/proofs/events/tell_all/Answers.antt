use Rattle.std.proofs.Common.{◌∙◌, arith}
use Rattle.rp_book.specs.Books.{told_of}
use Rattle.rp_world.proofs.Telling.{tell_more}
use Rattle.rp_world.proofs.events.tell_all.Goals as goal

pub loop-ended-preserved : goal.loop-ended-preserved
loop-ended-preserved c = record {
  entries = c.tell.ensures.entries ∙ c.loop-ended.invariant.entries;
  told = λ id. tell_more c.args.ends.now c.loop-ended.ended-index c.ended-item.result id (told_of id c.args.book.now.told) (told_of id c.loop-ended.book.told) (told_of id c.tell.new.self.told)
      c.loop-ended-test.true c.ended-item.is (c.loop-ended.invariant.told id) (c.tell.ensures.told id);
  spare = omega (arith, c.loop-ended.invariant.spare, c.tell.ensures.spare);
}
