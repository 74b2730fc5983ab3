use Rattle.std.proofs.Common.{◌≡◌, ap, ◌∙◌, subst, sym, rules, refl}
use Rattle.std.specs.List.{insert}
use Rattle.rp_latch.specs.Indexes.{ById}
use Rattle.rp_latch.proofs.Ids.{put_by_id}
use Rattle.rp_latch.proofs.tags.Tags.put.Goals as goal

pub invariant_of-self : goal.invariant_of-self
invariant_of-self c =
    let e : c.insert.new.self.items ≡ insert c.self.inside.tags.items c.place_of-at.result c.args.tag = search rules in
    subst ById (sym (e ∙ ap (λ v. insert v.list c.place_of-at.result c.args.tag) c.self.view_is))
    (put_by_id c.args.self.now.list (subst ById (ap (λ v. v.list) c.self.view_is) c.self.invariant) c.args.tag.id c.place_of-at.result
    c.place_of-at.ensures.before c.place_of-at.ensures.after c.args.tag refl c.place_of-at.ensures.within)
