use Rattle.std.proofs.Common.{◌∙◌, ap, arith, length, map, subst, sym}
use Rattle.std.specs.Prelude.{count_by}
use Rattle.rp_events.specs.Nodes.{is_full}
use Rattle.rp_race.specs.Ends.{IsWaitedOut}
use Rattle.rp_racelines.specs.Judging.{is_open_line}
use Rattle.rp_racelines.proofs.Judged.{any_mapped, goes_on_full, goes_on_yet, has_ended, is_unfinished, lines_counted, open_counted}
use Rattle.rp_racelines.proofs.race_ends.verdict_of.Goals as goal

pub returns-then-some_full : goal.returns-then-some_full
returns-then-some_full g c =
    let nodes = c.args.nodes.now in
    goes_on_full c.args.rules.now (map (λ h. h.node) nodes) (sym (c.some_full.ensures ∙ any_mapped is_full nodes) ∙ c.if-some_full.true)

pub count_open-unended-requires : goal.count_open-unended-requires
count_open-unended-requires g c =
    let len = ap (λ xs. length xs) c.requires.lines in
    let count = lines_counted c.args.rules.now (map (λ h. h.node) c.args.nodes.now) in
    let few = c.requires.commands in
    omega (arith, len, count, few)

pub returns-then-unended-eq0 : goal.returns-then-unended-eq0
returns-then-unended-eq0 g c =
    let nodes = c.args.nodes.now in
    has_ended c.args.rules.now (map (λ h. h.node) nodes) c.count_open-unended.result (sym (c.some_full.ensures ∙ any_mapped is_full nodes) ∙ c.if-some_full.false)
    (c.count_open-unended.ensures ∙ ap (count_by is_open_line) c.requires.lines ∙ open_counted c.args.rules.now (map (λ h. h.node) nodes))
    c.if-unended-eq0.true

pub returns-then-is_waited_out : goal.returns-then-is_waited_out
returns-then-is_waited_out g c =
    let nodes = c.args.nodes.now in
    is_unfinished (length nodes) c.args.rules.now (map (λ h. h.node) nodes) c.count_open-unended.result c.requires.reached
    (sym (c.some_full.ensures ∙ any_mapped is_full nodes) ∙ c.if-some_full.false)
    (c.count_open-unended.ensures ∙ ap (count_by is_open_line) c.requires.lines ∙ open_counted c.args.rules.now (map (λ h. h.node) nodes))
    c.if-unended-eq0.false
    (subst (λ rounds. IsWaitedOut rounds (map (λ h. h.node) nodes)) c.patience.ensures (c.is_waited_out.ensures.0 c.if-is_waited_out.true))

pub returns : goal.returns
returns g c =
    let nodes = c.args.nodes.now in
    goes_on_yet c.args.rules.now (map (λ h. h.node) nodes) c.count_open-unended.result
    (c.count_open-unended.ensures ∙ ap (count_by is_open_line) c.requires.lines ∙ open_counted c.args.rules.now (map (λ h. h.node) nodes))
    c.if-unended-eq0.false
    (λ out.
    let yes = c.is_waited_out.ensures.1 (subst (λ rounds. IsWaitedOut rounds (map (λ h. h.node) nodes)) (sym c.patience.ensures) out) in
    let no = c.if-is_waited_out.false in
    absurd (let e = sym yes ∙ no in cc))
