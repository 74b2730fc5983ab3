use Rattle.std.proofs.Common.{◌≡◌, ◌+◌, ◌<◌, true, cond, List, get_or, ap, ◌∙◌, rules, subst, sym, arith}
use Rattle.std.proofs.lemmas.List.Quantifiers.{all_pairs_remove}
use Rattle.std.specs.Prelude.{map}
use Rattle.std.specs.List.{All, AllPairs, filter, remove, count_by}
use Rattle.rp_latch.specs.declared.ages.Numbered.{Numbered}
use Rattle.rp_base.specs.Ids.{same_id}
use Rattle.rp_latch.specs.Holds.{is_of_other}
use Rattle.rp_latch.specs.Indexes.{hold_of, IsOlder, AreApart, first_latch, second_latch, latch_at, tag_of, passes, Lists}
use Rattle.rp_latch.proofs.Order.{at_number}
use Rattle.rp_latch.proofs.Conflicts.{lists_less}
use Rattle.rp_latch.proofs.Freed.{tagged, first_there, second_there, tag_same, none_of_its, others_stay, all_remove}
use Rattle.rp_latch.proofs.latches.Latches.free_one.Goals as goal

pub unwrap-numbered-requires : goal.unwrap-numbered-requires
unwrap-numbered-requires c =
    let s = c.self.inside in
    let at = at_number s.holds.items c.self.invariant.older c.in-Some.tag.number c.place_of-at.result c.place_of-at.ensures.before c.place_of-at.ensures.after (λ h. same_id h.hold.id c.args.id)
    (tagged s.holds.items s.tags.list c.take.new.self.list c.args.id c.in-Some.tag c.self.invariant.tags c.in-Some.ensures.id c.in-Some.ensures.list) in
    let within = at.within in
    c.remove.ensures.variant.1 (omega arith)

pub remove-requires-in-Some : goal.remove-requires-in-Some
remove-requires-in-Some c =
    let s = c.self.inside in let x = c.unwrap-numbered.result in let k = c.place_of-at.result in
    let at = at_number s.holds.items c.self.invariant.older c.in-Some.tag.number k c.place_of-at.ensures.before c.place_of-at.ensures.after (λ h. same_id h.hold.id c.args.id)
    (tagged s.holds.items s.tags.list c.take.new.self.list c.args.id c.in-Some.tag c.self.invariant.tags c.in-Some.ensures.id c.in-Some.ensures.list) in
    let within = at.within in
    let is : get_or s.holds.items k x ≡ x = let e = c.remove.ensures.succeeds x (omega arith) in cc in
    first_there s.holds.items k x within is s.firsts.list c.self.invariant.firsts c.in-Some.tag.number (ap (λ (y : Numbered). y.number) (sym is) ∙ at.number x)

pub remove_second-requires : goal.remove_second-requires
remove_second-requires c =
    let s = c.self.inside in let x = c.unwrap-numbered.result in let k = c.place_of-at.result in
    let at = at_number s.holds.items c.self.invariant.older c.in-Some.tag.number k c.place_of-at.ensures.before c.place_of-at.ensures.after (λ h. same_id h.hold.id c.args.id)
    (tagged s.holds.items s.tags.list c.take.new.self.list c.args.id c.in-Some.tag c.self.invariant.tags c.in-Some.ensures.id c.in-Some.ensures.list) in
    let within = at.within in
    let is : get_or s.holds.items k x ≡ x = let e = c.remove.ensures.succeeds x (omega arith) in cc in
    second_there s.holds.items k x within is s.seconds.list c.self.invariant.seconds c.in-Some.tag.number (ap (λ (y : Numbered). y.number) (sym is) ∙ at.number x)

pub invariant_of-self-in-Some : goal.invariant_of-self-in-Some
invariant_of-self-in-Some c =
    let s = c.self.inside in let x = c.unwrap-numbered.result in let k = c.place_of-at.result in let t = c.in-Some.tag in
    let hs = s.holds.items in
    let at = at_number hs c.self.invariant.older t.number k c.place_of-at.ensures.before c.place_of-at.ensures.after (λ h. same_id h.hold.id c.args.id)
    (tagged hs s.tags.list c.take.new.self.list c.args.id t c.self.invariant.tags c.in-Some.ensures.id c.in-Some.ensures.list) in
    let within = at.within in
    let is : get_or hs k x ≡ x = let e = c.remove.ensures.succeeds x (omega arith) in cc in
    let number : x.number ≡ t.number = ap (λ (y : Numbered). y.number) (sym is) ∙ at.number x in
    let its : same_id x.hold.id c.args.id ≡ true = ap (λ (y : Numbered). same_id y.hold.id c.args.id) (sym is) ∙ at.passes x in
    let e : c.remove.new.self.items ≡ remove hs k = search rules in
    record {
      apart = subst (AllPairs AreApart) (sym e) (all_pairs_remove AreApart hs k within c.self.invariant.apart);
      older = subst (AllPairs IsOlder) (sym e) (all_pairs_remove IsOlder hs k within c.self.invariant.older);
      below = subst (All (λ h. h.number < s.next)) (sym e) (all_remove (λ h. h.number < s.next) hs k within c.self.invariant.below);
      firsts = subst (λ (xs : List Numbered). Lists first_latch xs c.remove-in-Some.new.self.list) (sym e)
          (lists_less first_latch hs s.firsts.list c.remove-in-Some.new.self.list c.self.invariant.firsts k x within is
          (λ p. ap (λ n. count_by p c.remove-in-Some.new.self.list + cond (p (record { span = x.hold.spans.first; number = n })) 1 0) number ∙ c.remove-in-Some.ensures.list p));
      seconds = subst (λ (xs : List Numbered). Lists second_latch xs c.remove_second.new.index.list) (sym e)
          (lists_less second_latch hs s.seconds.list c.remove_second.new.index.list c.self.invariant.seconds k x within is
          (λ p. ap (λ n. count_by p c.remove_second.new.index.list + cond (passes p (latch_at n x.hold.spans.second)) 1 0) number ∙ c.remove_second.ensures.list p));
      tags = subst (λ (xs : List Numbered). Lists tag_of xs c.take.new.self.list) (sym e)
          (lists_less tag_of hs s.tags.list c.take.new.self.list c.self.invariant.tags k x within is
          (λ p. ap (λ o. count_by p c.take.new.self.list + cond (passes p o) 1 0) (tag_same x t c.args.id its c.in-Some.ensures.id number) ∙ c.in-Some.ensures.list p));
    }

pub returns-in-None-clause-none : goal.returns-in-None-clause-none
returns-in-None-clause-none c _ =
    let s = c.self.inside in
    none_of_its s.holds.items s.tags.list c.args.id c.self.invariant.tags c.in-None.ensures.none ∙ ap (λ v. filter (is_of_other c.args.id) v.list) c.self.view_is

pub returns-in-Some-clause-kept : goal.returns-in-Some-clause-kept
returns-in-Some-clause-kept c =
    let s = c.self.inside in let x = c.unwrap-numbered.result in let k = c.place_of-at.result in
    let hs = s.holds.items in
    let at = at_number hs c.self.invariant.older c.in-Some.tag.number k c.place_of-at.ensures.before c.place_of-at.ensures.after (λ h. same_id h.hold.id c.args.id)
    (tagged hs s.tags.list c.take.new.self.list c.args.id c.in-Some.tag c.self.invariant.tags c.in-Some.ensures.id c.in-Some.ensures.list) in
    let e : c.remove.new.self.items ≡ remove hs k = search rules in
    ap (λ (xs : List Numbered). filter (is_of_other c.args.id) (map hold_of xs)) e
    ∙ others_stay hs c.args.id k x at.within (at.passes x)
    ∙ ap (λ v. filter (is_of_other c.args.id) v.list) c.self.view_is
