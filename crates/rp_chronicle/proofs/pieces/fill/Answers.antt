use Rattle.std.proofs.Common.{◌<◌, length, arith}
use Rattle.std.proofs.lemmas.Bool.Decides.{nat_tests}
use Rattle.std.proofs.lemmas.Grind.{common_steps}
use Rattle.rp_chronicle.proofs.Filling.{some_behind, some_fills, some_within}
use Rattle.rp_chronicle.proofs.pieces.fill.Goals as goal

pub overflow_sub-before : goal.overflow_sub-before
overflow_sub-before c =
    let some : 0 < length c.args.piece.now = grind (arith, common_steps, nat_tests) in
    some_behind c.args.base c.args.before c.args.piece.now c.args.records.now some c.requires

pub paste-requires : goal.paste-requires
paste-requires c =
    let some : 0 < length c.args.piece.now = grind (arith, common_steps, nat_tests) in
    some_within c.args.base c.args.before c.args.piece.now c.args.records.now some c.requires

pub returns-then-not-is_empty : goal.returns-then-not-is_empty
returns-then-not-is_empty c =
    let some : 0 < length c.args.piece.now = grind (arith, common_steps, nat_tests) in
    some_fills c.args.base c.args.before c.args.piece.now c.args.records.now c.paste.new.records some c.paste.ensures
