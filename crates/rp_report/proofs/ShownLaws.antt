-- What can be shown, and the tests of it.
use Rattle.std.proofs.Common.{◌≡◌, ℕ, ◌-◌, ◌^◌, ◌==◌, ◌&&◌, ◌||◌, Bool, true, false, List, refl, sym, ap, subst, ◌∙◌, inl, inr, ◌⊎◌, arith, Ok, Err}
use Rattle.std.specs.Prelude.{Result}
use Rattle.std.specs.List.{All, list_all}
use Rattle.std.proofs.lemmas.Bool.Decides.{nat_tests}
use Rattle.std.proofs.lemmas.List.Elements.{All-weaker}
use Rattle.std.proofs.lemmas.List.Sums.{AllPass-from_list_all, list_all-from_AllPass}
use Rattle.rp_base.specs.Keys.{key_of, key_text, IsKey, IsShown}
use Rattle.rp_base.specs.declared.keys.BadKey.{BadKey}
use Rattle.rp_base.specs.declared.Desc.{Desc}
use Rattle.rp_base.proofs.KeyLaws.{read_as_spelled}
use Rattle.rp_request.specs.declared.outcomes.Refusal.{Refusal}
use Rattle.rp_request.specs.declared.outcomes.Refusal.TheVariants.{RangeMismatch}
use Rattle.rp_request.specs.declared.outcomes.Outcome.{Outcome}
use Rattle.rp_request.specs.declared.outcomes.Outcome.TheVariants.{Refused}
use Rattle.rp_request.specs.declared.outcomes.End.{End}
use Rattle.rp_request.specs.declared.outcomes.End.TheVariants as ends
use Rattle.rp_request.specs.declared.notes.ReplyLine.{ReplyLine}
use Rattle.rp_report.specs.declared.views.RangeView.{RangeView}
use Rattle.rp_report.specs.declared.views.View.{View}
use Rattle.rp_report.specs.Shown.{IsShownDesc, IsShownRefusal, IsShownOutcome, IsShownEnd, IsShownAnswer, IsShownRange, IsShownView}
use Rattle.rp_report.specs.ShownTests.{is_read, is_shown, desc_is_shown, refusal_is_shown, outcome_is_shown, end_is_shown, answer_is_shown, range_is_shown, view_is_shown}

-- ---- what is shown passes

read_passes : (n : ℕ) (r : Result ℕ BadKey) → r ≡ Ok n → is_read n r ≡ true
read_passes n r e = rw e (grind (arith, nat_tests))

or_right : (a b : Bool) → b ≡ true → (a || b) ≡ true
or_right true b h = refl
or_right false b h = h

bound_passes : (n : ℕ) → IsShown n → is_shown n ≡ true
unfolding is_shown
bound_passes n (inl least) = rw least refl
bound_passes n (inr (inl greatest)) = rw greatest refl
bound_passes n (inr (inr key)) =
    or_right (n == 0) _ (or_right (n == 2 ^ 128 - 1) _ (read_passes n (key_of (key_text n)) (read_as_spelled n key)))

both : (a b : Bool) → a ≡ true → b ≡ true → (a && b) ≡ true
both true b ha hb = hb
both false b ha hb = ha

desc_passes : (d : Desc) → IsShownDesc d → desc_is_shown d ≡ true
desc_passes d h = both _ _ (bound_passes d.start h.0) (bound_passes d.end h.1)

refusal_passes : (r : Refusal) → IsShownRefusal r → refusal_is_shown r ≡ true
refusal_passes (RangeMismatch d) h = desc_passes d h
refusal_passes r h = refl

outcome_passes : (o : Outcome) → IsShownOutcome o → outcome_is_shown o ≡ true
outcome_passes (Refused r) h = refusal_passes r h
outcome_passes o h = refl

end_passes : (e : End) → IsShownEnd e → end_is_shown e ≡ true
end_passes (ends.Outcome o) h = outcome_passes o h
end_passes (ends.Tries r) h = refusal_passes r h
end_passes ends.Unsent h = refl

pub view_passes : (v : View) → IsShownView v → view_is_shown v ≡ true
unfolding view_is_shown
view_passes v h = both _ _
    (list_all-from_AllPass answer_is_shown v.replies (All-weaker IsShownAnswer (λ a. answer_is_shown a ≡ true) (λ a. end_passes a.end) v.replies h.replies))
    (list_all-from_AllPass range_is_shown v.ranges (All-weaker IsShownRange (λ r. range_is_shown r ≡ true) (λ r. desc_passes r.desc) v.ranges h.ranges))

-- ---- what passes is shown

passed_left : (a b : Bool) → (a && b) ≡ true → a ≡ true
passed_left true b h = refl
passed_left false b h = h

passed_right : (a b : Bool) → (a && b) ≡ true → b ≡ true
passed_right true b h = h
passed_right false b h = absurd (cc)

either : (a b : Bool) → (a || b) ≡ true → (a ≡ true) ⊎ (b ≡ true)
either true b h = inl refl
either false b h = inr h

same_number : (m n : ℕ) → (m == n) ≡ true → m ≡ n
same_number m n h = grind (arith, nat_tests)

read_back : (n : ℕ) (r : Result ℕ BadKey) → is_read n r ≡ true → r ≡ Ok n
read_back n (Ok m) h = ap Ok (same_number m n h)
read_back n (Err fault) h = absurd (cc)

bound_shown : (n : ℕ) → is_shown n ≡ true → IsShown n
unfolding is_shown
bound_shown n h = elim (either (n == 0) _ h) [
  | inl least ↦ inl (same_number n 0 least)
  | inr more ↦ elim (either (n == 2 ^ 128 - 1) _ more) [
    | inl greatest ↦ inr (inl (same_number n (2 ^ 128 - 1) greatest))
    | inr read ↦ inr (inr (key_text n, read_back n (key_of (key_text n)) read))
  ]
]

desc_shown : (d : Desc) → desc_is_shown d ≡ true → IsShownDesc d
desc_shown d h = (bound_shown d.start (passed_left _ _ h), bound_shown d.end (passed_right _ _ h))

refusal_shown : (r : Refusal) → refusal_is_shown r ≡ true → IsShownRefusal r
refusal_shown (RangeMismatch d) h = desc_shown d h
refusal_shown r h = tt

outcome_shown : (o : Outcome) → outcome_is_shown o ≡ true → IsShownOutcome o
outcome_shown (Refused r) h = refusal_shown r h
outcome_shown o h = tt

end_shown : (e : End) → end_is_shown e ≡ true → IsShownEnd e
end_shown (ends.Outcome o) h = outcome_shown o h
end_shown (ends.Tries r) h = refusal_shown r h
end_shown ends.Unsent h = tt

pub view_shown : (v : View) → view_is_shown v ≡ true → IsShownView v
unfolding view_is_shown
view_shown v h = record {
  replies = All-weaker (λ a. answer_is_shown a ≡ true) IsShownAnswer (λ a. end_shown a.end) v.replies
      (AllPass-from_list_all answer_is_shown v.replies (passed_left _ _ h));
  ranges = All-weaker (λ r. range_is_shown r ≡ true) IsShownRange (λ r. desc_shown r.desc) v.ranges
      (AllPass-from_list_all range_is_shown v.ranges (passed_right _ _ h));
}
