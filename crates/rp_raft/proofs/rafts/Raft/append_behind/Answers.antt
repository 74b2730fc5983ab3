use Rattle.std.proofs.Common.{cond, ltb, subst, sym, ap, ◌∙◌}
use Rattle.rp_raftstep.specs.declared.heads.Due.{Due}
use Rattle.rp_raftstep.specs.declared.heads.Due.TheVariants.{Everyone}
use Rattle.rp_raftstep.specs.Step.{then_proposed}
use Rattle.rp_raft.specs.declared.plans.LogEdit.{LogEdit}
use Rattle.rp_raft.specs.Plans.{Drafts, draft_of, edit_behind}
use Rattle.rp_raft.proofs.Edits.{leader_behind}
use Rattle.rp_raft.proofs.rafts.Raft.append_behind.Goals as goal

pub returns : goal.returns
returns g c =
    subst (λ (x : LogEdit). Drafts c.args.self.now.raft.log (record { head = c.args.draft.now.head; edit = x; messages = c.args.draft.now.messages; due = c.due_behind-due.result; taken = c.args.draft.now.taken }) (then_proposed (draft_of c.args.self.now.raft.log c.args.draft.now) c.args.payloads))
    (sym c.in_ok-edit_behind.ensures)
    (subst (λ (x : Due). Drafts c.args.self.now.raft.log (record { head = c.args.draft.now.head; edit = edit_behind c.args.draft.now.edit c.in_ok-entries.entries; messages = c.args.draft.now.messages; due = x; taken = c.args.draft.now.taken }) (then_proposed (draft_of c.args.self.now.raft.log c.args.draft.now) c.args.payloads))
    (sym (c.due_behind-due.ensures ∙ ap (λ n. cond (ltb 0 n) Everyone c.args.draft.now.due) c.len.ensures))
    (leader_behind c.args.self.now.raft.log c.args.draft.now.head c.args.draft.now.edit c.args.draft.now.messages c.args.draft.now.due c.args.draft.now.taken c.args.payloads c.in_ok-entries.entries c.in_ok-entries.ensures c.requires.leads c.requires.fits c.requires.room))
