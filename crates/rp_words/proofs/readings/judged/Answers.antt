use Rattle.std.proofs.Common.{map, sym}
use Rattle.std.specs.Prelude.{string_bytes}
use Rattle.rp_words.specs.Asked.{asked_of}
use Rattle.rp_words.proofs.Judged.{line_asks, no_line_asks_nothing, answer_ok, answer_err}
use Rattle.rp_words.proofs.readings.judged.Goals as goal

pub returns-in-Ok-clause-ok : goal.returns-in-Ok-clause-ok
returns-in-Ok-clause-ok c =
    let line = c.in-Ok.ensures.ok in
    answer_ok c.found.result (asked_of (map string_bytes c.args.words.now)) c.ok_or.result
    (line_asks (map string_bytes c.args.words.now) line.0 c.found.result c.requires line.1 (c.found.ensures.asked line.0 line.2)) c.ok_or.ensures.value

pub returns-in-Ok-clause-err : goal.returns-in-Ok-clause-err
returns-in-Ok-clause-err c =
    let line = c.in-Ok.ensures.ok in
    answer_err c.found.result (asked_of (map string_bytes c.args.words.now)) c.ok_or.result
    (line_asks (map string_bytes c.args.words.now) line.0 c.found.result c.requires line.1 (c.found.ensures.asked line.0 line.2)) c.ok_or.ensures.value

pub returns-in-Err-clause-err : goal.returns-in-Err-clause-err
returns-in-Err-clause-err c = λ usage. no_line_asks_nothing (map string_bytes c.args.words.now) c.requires (c.in-Err.ensures.err usage)
