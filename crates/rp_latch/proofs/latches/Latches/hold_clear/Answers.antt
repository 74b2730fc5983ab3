use Rattle.std.proofs.Common.{◌≡◌, ◌+◌, ◌<◌, List, [], ◌∷◌, ◌++◌, rules, ap, subst, sym, arith, ◌∙◌}
use Rattle.std.proofs.lemmas.List.Quantifiers.{all_pairs_push}
use Rattle.std.proofs.lemmas.List.Elements.{All-push}
use Rattle.std.specs.List.{All, AllPairs}
use Rattle.rp_latch.specs.declared.ages.Numbered.{Numbered}
use Rattle.rp_base.specs.Spans.{any_meet}
use Rattle.rp_latch.specs.Holds.{answer}
use Rattle.rp_latch.specs.Indexes.{IsOlder, AreApart, first_latch, second_latch, tag_of, Lists}
use Rattle.rp_base.proofs.Counts.{none_at}
use Rattle.rp_latch.proofs.Conflicts.{none_held, none_meets, lists_more, first_clear, second_clear}
use Rattle.rp_latch.proofs.latches.Latches.hold_clear.Goals as goal

pub put-requires-clause-clear : goal.put-requires-clause-clear
put-requires-clause-clear c =
    let s = c.self.inside in
    let clear = none_held s.holds.items c.args.spans (ap (λ v. answer v.list c.args.spans) c.self.view_is ∙ c.requires.clear) in
    first_clear s.holds.items s.firsts.list s.seconds.list c.self.invariant.firsts c.self.invariant.seconds c.args.spans clear

pub put_second-requires-clause-clear : goal.put_second-requires-clause-clear
put_second-requires-clause-clear c =
    let s = c.self.inside in
    let clear = none_held s.holds.items c.args.spans (ap (λ v. answer v.list c.args.spans) c.self.view_is ∙ c.requires.clear) in
    second_clear s.holds.items s.firsts.list s.seconds.list c.self.invariant.firsts c.self.invariant.seconds c.args.spans clear

pub invariant_of-self : goal.invariant_of-self
invariant_of-self c =
    let s = c.self.inside in
    let hs = s.holds.items in
    let new : Numbered = record { number = s.next; hold = record { id = c.args.id; spans = c.args.spans } } in
    let e : c.push_back_reserved.new.self.items ≡ hs ++ new ∷ [] = search rules in
    let clear = none_held hs c.args.spans (ap (λ v. answer v.list c.args.spans) c.self.view_is ∙ c.requires.clear) in
    record {
      apart = subst (AllPairs AreApart) (sym e)
          (all_pairs_push AreApart hs new c.self.invariant.apart (λ k d l. none_at (λ h. any_meet h.hold.spans c.args.spans) hs (none_meets hs c.args.spans clear) k d l));
      older = subst (AllPairs IsOlder) (sym e) (all_pairs_push IsOlder hs new c.self.invariant.older c.self.invariant.below);
      below = subst (All (λ h. h.number < s.next + 1)) (sym e)
          (All-push (λ h. h.number < s.next + 1) hs new (λ k d l. let below = c.self.invariant.below k d l in omega arith) (omega arith));
      firsts = subst (λ (xs : List Numbered). Lists first_latch xs c.put.new.self.list) (sym e)
          (lists_more first_latch hs s.firsts.list c.put.new.self.list c.self.invariant.firsts new c.put.ensures.list);
      seconds = subst (λ (xs : List Numbered). Lists second_latch xs c.put_second.new.index.list) (sym e)
          (lists_more second_latch hs s.seconds.list c.put_second.new.index.list c.self.invariant.seconds new c.put_second.ensures.list);
      tags = subst (λ (xs : List Numbered). Lists tag_of xs c.put-2.new.self.list) (sym e)
          (lists_more tag_of hs s.tags.list c.put-2.new.self.list c.self.invariant.tags new c.put-2.ensures.list);
    }
