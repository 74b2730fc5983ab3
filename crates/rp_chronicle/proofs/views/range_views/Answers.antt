use Rattle.std.proofs.Common.{◌+◌, ◌≡◌, ◌∙◌, ap, length, subst, sym}
use Rattle.std.specs.Prelude.{IfSome}
use Rattle.rp_lines.specs.Views.{ShowsRanges}
use Rattle.rp_recorded.proofs.Descs.{numbered}
use Rattle.rp_chronicle.specs.Worlds.{world_of}
use Rattle.rp_chronicle.proofs.Several.{most_none}
use Rattle.rp_chronicle.proofs.Shown.{ShowsBelow, shows_all, shows_more, shows_still}
use Rattle.rp_chronicle.proofs.views.range_views.Goals as goal
use Rattle.rp_chronicle.proofs.views.range_views.Goals.{in-Some+in_ok-range_view+in_ok-push, in_default}

pub loop-number-preserved : goal.loop-number-preserved
loop-number-preserved g c =
    let w = world_of c.args.nodes.now in
    let number = c.loop-number.number in
    let range = c.unwrap-range.result in
    let same : range ≡ number = subst (λ o. IfSome o (λ r. r ≡ number)) c.unwrap-range.ensures c.new.ensures.value in
    elim c.match-furthest.branch [
      | in-Some+in_ok-range_view+in_ok-push k ↦
          subst (ShowsBelow w (number + 1)) (sym (ap (λ v. v.items) k.views-is ∙ k.in_ok-push.ensures.items))
          (shows_more w number range c.loop-number.views.items k.in_ok-range_view.field-0 same c.loop-number.invariant k.in_ok-range_view.ensures)
      | in_default k ↦
          subst (ShowsBelow w (number + 1)) (sym (ap (λ v. v.items) k.views-is))
          (shows_still w number range c.loop-number.views.items same c.loop-number.invariant (most_none w range (sym k.in_default.ensures)))
    ]

pub returns : goal.returns
returns g c =
    let w = world_of c.args.nodes.now in
    subst (ShowsRanges w) (sym c.from_vec.ensures)
    (shows_all w c.loop-number.number c.loop-number.views.items c.loop-number.invariant c.loop-number-test.false
    (λ node range h a. (numbered (length c.args.nodes.now) w c.requires node range h a).below))
