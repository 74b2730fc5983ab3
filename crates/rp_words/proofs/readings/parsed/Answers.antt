use Rattle.std.proofs.Common.{map}
use Rattle.std.specs.Prelude.{string_bytes}
use Rattle.clap.specs.Simple.{app_of}
use Rattle.clap.specs.Values.{kind_of}
use Rattle.rp_words.proofs.Judged.{parsed_ok, parsed_err, among_unless}
use Rattle.rp_words.proofs.readings.parsed.Goals as goal

pub returns-in-Ok-clause-ok : goal.returns-in-Ok-clause-ok
returns-in-Ok-clause-ok c =
    parsed_ok (app_of c.in_ok-command.command) (map string_bytes c.args.words.now) c.in-Ok.matches c.in_ok-command.ensures c.requires
    c.in-Ok.ensures.kinds c.in-Ok.ensures.matches

pub returns-in-Err-clause-err : goal.returns-in-Err-clause-err
returns-in-Err-clause-err c = λ usage.
    parsed_err (app_of c.in_ok-command.command) (map string_bytes c.args.words.now) (kind_of c.in-Err.error) c.in_ok-command.ensures c.requires
    (λ simple. among_unless _ c.in-Err.error (c.in-Err.ensures.kinds simple) (c.refusal.ensures usage))
