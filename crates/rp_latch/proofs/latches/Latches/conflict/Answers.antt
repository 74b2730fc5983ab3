use Rattle.std.proofs.Common.{ℕ, Option, ◌++◌, ap, ◌∙◌, subst, sym, arith}
use Rattle.rp_latch.specs.declared.ages.Numbered.{Numbered}
use Rattle.rp_latch.specs.Holds.{held_by, conflict}
use Rattle.rp_latch.specs.Indexes.{latch_meets_one, IsOldest}
use Rattle.rp_latch.proofs.Conflicts.{none_in_the_way, oldest_is_there, oldest_named}
use Rattle.rp_latch.proofs.latches.Latches.conflict.Goals as goal

pub index-numbered-requires : goal.index-numbered-requires
index-numbered-requires c =
    let s = c.self.inside in
    let oldest = subst (λ (o : Option ℕ). IsOldest (latch_meets_one c.args.asked) (s.firsts.list ++ s.seconds.list) o) c.in-Some.is c.oldest.ensures in
    let at = oldest_is_there s.holds.items s.firsts.list s.seconds.list c.self.invariant.firsts c.self.invariant.seconds c.self.invariant.older
    c.args.asked c.in-Some.number c.place_of-at.result c.place_of-at.ensures.before c.place_of-at.ensures.after oldest in
    let within = at.within in
    omega arith

pub returns-in-None : goal.returns-in-None
returns-in-None c =
    let s = c.self.inside in
    sym (none_in_the_way s.holds.items s.firsts.list s.seconds.list c.self.invariant.firsts c.self.invariant.seconds c.args.asked c.oldest.result c.in-None.is c.oldest.ensures)
    ∙ ap (λ v. conflict v.list c.args.asked) c.self.view_is

pub returns-in-Some : goal.returns-in-Some
returns-in-Some c =
    let s = c.self.inside in
    let oldest = subst (λ (o : Option ℕ). IsOldest (latch_meets_one c.args.asked) (s.firsts.list ++ s.seconds.list) o) c.in-Some.is c.oldest.ensures in
    let named = oldest_named s.holds.items s.firsts.list s.seconds.list c.self.invariant.firsts c.self.invariant.seconds c.self.invariant.older
    c.args.asked c.in-Some.number c.place_of-at.result c.place_of-at.ensures.before c.place_of-at.ensures.after oldest c.index-numbered.result.now in
    c.held_by.ensures
    ∙ ap (λ (x : Numbered). held_by x.hold c.args.asked) c.index-numbered.ensures
    ∙ sym named
    ∙ ap (λ v. conflict v.list c.args.asked) c.self.view_is
