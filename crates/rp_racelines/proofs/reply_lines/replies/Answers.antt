use Rattle.std.proofs.Common.{◌∙◌, map, subst}
use Rattle.rp_racelines.specs.Latest.{AreLatest}
use Rattle.rp_racelines.proofs.reply_lines.replies.Goals as goal

pub returns : goal.returns
returns g c = c.from_vec.ensures ∙ c.in_ok-lines.ensures (map (λ h. h.node) c.args.nodes.now)
    (subst (λ xs. AreLatest (map (λ h. h.node) xs) c.in_ok-attempts.attempts.entries) c.as_slice.ensures c.in_ok-attempts.ensures)
