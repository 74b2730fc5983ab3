use Rattle.std.proofs.Common.{◌≡◌, ◌+◌, ◌++◌, ◌∙◌, ap, sym, take, drop, arith}
use Rattle.std.proofs.lemmas.Grind.{common_steps}
use Rattle.rp_raftlog.specs.LogState.{same_terms}
use Rattle.rp_raftlog.proofs.Overlays.{cuts, keeps}
use Rattle.rp_raftlog.proofs.overlay.put_over.Goals as goal

pub returns-then-same-len-clause-entries : goal.returns-then-same-len-clause-entries
returns-then-same-len-clause-entries c =
    let e : c.same_terms-same.result ≡ same_terms c.args.news.items (drop c.args.place c.args.held.now.entries) =
    c.same_terms-same.ensures ∙ ap (λ l. same_terms l (drop c.args.place c.args.held.now.entries)) c.deref.ensures.value in
    let moved : c.append_all.new.held.entries ≡ take (c.args.place + c.same_terms-same.result) c.args.held.now.entries ++ drop c.same_terms-same.result c.args.news.items = grind (arith, common_steps) in
    moved ∙ sym (cuts c.args.held.now.entries c.args.news.items c.args.place c.same_terms-same.result e (omega arith))

pub returns-else-same-len-clause-entries : goal.returns-else-same-len-clause-entries
returns-else-same-len-clause-entries c =
    let e : c.same_terms-same.result ≡ same_terms c.args.news.items (drop c.args.place c.args.held.now.entries) =
    c.same_terms-same.ensures ∙ ap (λ l. same_terms l (drop c.args.place c.args.held.now.entries)) c.deref.ensures.value in
    sym (keeps c.args.held.now.entries c.args.news.items c.args.place c.same_terms-same.result e (omega arith))
