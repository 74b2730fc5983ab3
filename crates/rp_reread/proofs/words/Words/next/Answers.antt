use Rattle.std.proofs.Common.{sym, ap, ◌∙◌, option_map}
use Rattle.rp_reread.specs.Pieces.{left_in}
use Rattle.rp_reread.proofs.PieceLaws.{next_piece}
use Rattle.rp_reread.proofs.words.Words.next.Goals as goal

pub returns : goal.returns
returns c =
    sym c.self.view_is ∙ ap (λ rest. left_in (option_map (λ text. text.now) rest)) c.in-Some.is
    ∙ next_piece _ _ _ _ _ c.word_len-len.ensures.count c.split_at.ensures.front c.split_at.ensures.back c.behind_space-self-inside.ensures
