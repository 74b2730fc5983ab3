use Rattle.std.proofs.Common.{ap, ◌∙◌, map}
use Rattle.rp_book.specs.Books.{BookState, by_attempt, reply_of}
use Rattle.rp_book.specs.Keeping.{outcomes}
use Rattle.rp_book.proofs.Entries.{replies_by_ids}
use Rattle.rp_book.proofs.books.Book.replies.Goals as goal

pub returns : goal.returns
returns c =
    c.from_vec.ensures ∙ c.in_ok-lines.ensures
    ∙ replies_by_ids (outcomes c.self.inside.kept.entries) c.self.inside.kept.entries
    ∙ ap (λ (s : BookState). map (reply_of s.told) (by_attempt s.entries)) c.self.view_is
