use Rattle.std.proofs.Common.{◌≡◌, ◌<◌, ◌≤◌, List, length, IsFalse, take, ap, subst, sym, arith}
use Rattle.std.specs.List.{AllWithin, list_any}
use Rattle.rp_latch.specs.declared.index.Latch.{Latch}
use Rattle.rp_latch.specs.Indexes.{latch_meets, IsOldest}
use Rattle.rp_latch.proofs.Places.{run_begins, run_step, run_ends, run_in_order}
use Rattle.rp_latch.proofs.index.Index.oldest.Goals as goal

pub loop-at-init : goal.loop-at-init
loop-at-init c =
    subst (λ (zs : List Latch). IsFalse (list_any (latch_meets c.args.span) (take c.ends_by-from.result zs))) (sym (ap (λ v. v.list) c.self.view_is))
    (run_begins c.args.self.now.list c.args.span c.ends_by-from.result c.ends_by-from.ensures.before c.ends_by-from.ensures.within)

pub loop-at-preserved : goal.loop-at-preserved
loop-at-preserved c =
    let same : c.args.self.now.list ≡ c.self.inside.latches.list = sym (ap (λ v. v.list) c.self.view_is) in
    let w : c.starts_below-to.result ≤ length c.self.inside.latches.list = subst (λ (zs : List Latch). c.starts_below-to.result ≤ length zs) same c.starts_below-to.ensures.within in
    run_step c.self.inside.latches.list c.args.span c.ends_by-from.result c.starts_below-to.result c.loop-at.at c.at.result.now _ _
    (subst (λ (zs : List Latch). AllWithin (λ l. c.args.span.start < l.span.end) zs c.ends_by-from.result (length zs)) same c.ends_by-from.ensures.after)
    (subst (λ (zs : List Latch). AllWithin (λ l. l.span.start < c.args.span.end) zs 0 c.starts_below-to.result) same c.starts_below-to.ensures.before)
    w (omega arith) (omega arith) c.at.ensures c.loop-at.invariant c.lesser-oldest.ensures

pub returns : goal.returns
returns c =
    let ls = c.args.self.now.list in
    let same : c.self.inside.latches.list ≡ ls = ap (λ v. v.list) c.self.view_is in
    let ordered = run_in_order ls c.args.span c.ends_by-from.result c.starts_below-to.result c.ends_by-from.ensures.before c.starts_below-to.ensures.after c.ends_by-from.ensures.within in
    let here : c.loop-at.at ≡ c.starts_below-to.result = omega arith in
    run_ends ls c.args.span c.loop-at.at c.loop-at.oldest
    (subst (λ n. AllWithin (λ l. c.args.span.end ≤ l.span.start) ls n (length ls)) (sym here) c.starts_below-to.ensures.after)
    (subst (λ (zs : List Latch). IsOldest (latch_meets c.args.span) (take c.loop-at.at zs) c.loop-at.oldest) same c.loop-at.invariant)
