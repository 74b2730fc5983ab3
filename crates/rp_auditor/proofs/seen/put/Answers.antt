use Rattle.std.proofs.Common.{rules, ◌∙◌}
use Rattle.indexmap.proofs.CallerLemmas.{insert_entry-new}
use Rattle.rp_auditor.specs.declared.seen.Placed.TheVariants.{Once}
use Rattle.rp_auditor.proofs.seen.put.Goals as goal

pub returns : goal.returns
returns c =
    c.in_ok-insert.ensures.entries ∙ insert_entry-new _ c.args.seen.now (record { client = c.args.id.client; seq = c.args.id.seq }) (Once c.args.id.attempt c.args.reply) (search rules)
