use Rattle.std.proofs.Common.{sym, ap, ◌∙◌, None, Some}
use Rattle.rp_book.specs.Books.{BookState, latest_of}
use Rattle.rp_book.proofs.Latest.{latest_found}
use Rattle.rp_book.proofs.books.Book.latest.Goals as goal

pub returns-in-None : goal.returns-in-None
returns-in-None c = sym (
    ap (λ (s : BookState). latest_of c.args.client c.args.seq s.entries) (sym c.self.view_is)
    ∙ latest_found c.self.inside.kept.entries c.self.invariant.index.distinct c.args.client c.args.seq None (c.self.invariant.index.indexed c.args.client c.args.seq ∙ sym c.last_attempt.ensures ∙ c.in-None.is))

pub returns-in-Some : goal.returns-in-Some
returns-in-Some c =
    c.with_booking.ensures
    ∙ sym (latest_found c.self.inside.kept.entries c.self.invariant.index.distinct c.args.client c.args.seq (Some c.in-Some.attempt) (c.self.invariant.index.indexed c.args.client c.args.seq ∙ sym c.last_attempt.ensures ∙ c.in-Some.is))
    ∙ ap (λ (s : BookState). latest_of c.args.client c.args.seq s.entries) c.self.view_is
