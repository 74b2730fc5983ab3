use Rattle.std.proofs.Common.{ap, ◌∙◌, sym, arith}
use Rattle.rp_raftlog.specs.LogState.{accepted, matches}
use Rattle.rp_raftlog.proofs.Accepted.{matched_within, taken_in}
use Rattle.rp_raftlog.proofs.logs.Log.accept.Goals as goal

pub put_over-requires-clause-place : goal.put_over-requires-clause-place
put_over-requires-clause-place c =
    let within = matched_within c.self.inside.base c.self.inside.base_term c.self.inside.entries.entries c.args.prev_index c.args.prev_term
    (ap (λ h. matches h.log c.args.prev_index c.args.prev_term) c.self.view_is ∙ sym c.matches.ensures ∙ c.if-not-matches.false) in
    omega (arith, c.saturating_sub-place.ensures, within)

pub returns-clause-ok : goal.returns-clause-ok
returns-clause-ok c =
    taken_in _ c.self.inside.base_term _ _ _ _ _ _ _ c.saturating_sub-place.ensures c.saturating_sub-skipped.ensures c.after_first-news.ensures.entries c.put_over.ensures.entries
    ∙ ap (λ h. accepted h.log c.args.prev_index c.args.entries) c.self.view_is
