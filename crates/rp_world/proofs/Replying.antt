-- The reply lines by the book.
use Rattle.std.proofs.Common.{◌≡◌, ℕ, Option, List, [], ◌∷◌, map, refl, sym, ap, ◌∙◌}
use Rattle.std.specs.Option.{option_map_or}
use Rattle.rp_base.specs.declared.ids.CmdId.{CmdId}
use Rattle.rp_request.specs.declared.notes.ReplyLine.{ReplyLine}
use Rattle.rp_request.specs.declared.outcomes.End.TheVariants as ends
use Rattle.rp_request.specs.declared.outcomes.Outcome.{Outcome}
use Rattle.rp_request.specs.declared.outcomes.Outcome.TheVariants.{Pending}
use Rattle.rp_events.specs.Lawful.{IsReached}
use Rattle.rp_events.specs.Worlds.{World}
use Rattle.rp_book.specs.Books.{Book, BookState, by_attempt, reply_of}
use Rattle.rp_lines.specs.Views.{replies_of}
use Rattle.rp_told.specs.Replies.{reply_in}
use Rattle.rp_told.proofs.Replying.{replies_of_book}
use Rattle.rp_world.specs.Keeping.{IsBookOf}

-- each attempt of the book is told as the nodes tell it
told_alike : (w : World) (state : BookState) → IsBookOf w state → (book : Book) → map (reply_of state.told) book ≡ map (λ e. reply_in w e.0) book
told_alike w state is [] = refl
told_alike w state is (e ∷ book) =
    ap (λ (o : Option Outcome). (record { client = e.0.client; seq = e.0.seq; attempt = e.0.attempt; end = ends.Outcome (option_map_or (λ outcome. outcome) o Pending) }) ∷ map (reply_of state.told) book) (is.told e.0)
    ∙ ap (λ l. reply_in w e.0 ∷ l) (told_alike w state is book)

-- the reply lines by the book are those of the nodes
pub replies_by_book : (k : ℕ) (w : World) (state : BookState) → IsReached k w → IsBookOf w state → map (reply_of state.told) (by_attempt state.entries) ≡ replies_of w
replies_by_book k w state reached is = told_alike w state is (by_attempt state.entries) ∙ sym (replies_of_book k w reached state.entries is.asked)
