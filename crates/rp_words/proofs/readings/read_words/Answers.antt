use Rattle.std.proofs.Common.{map, sym, ◌∙◌}
use Rattle.std.specs.Prelude.{string_bytes}
use Rattle.clap.proofs.WalkLemmas.{list_any-map}
use Rattle.rp_words.specs.Words.{is_odd}
use Rattle.rp_words.proofs.Judged.{odd_asks_nothing}
use Rattle.rp_words.proofs.readings.read_words.Goals as goal

pub returns-then-any_odd-clause-err : goal.returns-then-any_odd-clause-err
returns-then-any_odd-clause-err c = λ usage.
    odd_asks_nothing (map string_bytes c.args.words.now)
    (sym (list_any-map is_odd string_bytes c.args.words.now) ∙ sym c.any_odd.ensures ∙ c.if-any_odd.true)

pub judged-requires : goal.judged-requires
judged-requires c = sym (list_any-map is_odd string_bytes c.args.words.now) ∙ sym c.any_odd.ensures ∙ c.if-any_odd.false
