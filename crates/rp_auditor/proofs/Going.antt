-- An audit goes on from entry to entry: what is left says what all of it says.
use Rattle.std.proofs.Common.{◌≡◌, ◌≢◌, ℕ, suc, ◌+◌, ◌<◌, ◌≤◌, List, [], ◌∷◌, ◌++◌, length, drop, get_or, None, Some, refl, sym, ap, ap₂, subst, ◌∙◌, append_assoc, append-nil, add-one, drop-cons}
use Rattle.std.proofs.lemmas.List.{drop_all}
use Rattle.rp_request.specs.Items.{State}
use Rattle.rp_request.specs.declared.items.Record.{Record}
use Rattle.rp_request.specs.declared.items.Record.TheVariants.{Took, Passed}
use Rattle.rp_reread.specs.declared.reports.Entry.{Entry}
use Rattle.rp_auditor.specs.Audits.{◌before◌, judged_record, judged_entries}
use Rattle.rp_auditor.specs.Playing.{after_record, after_entries}
use Rattle.rp_auditor.specs.Reached.{JudgesRecord, JudgesEntries}
use Rattle.rp_auditor.specs.Seen.{Seen, named_by, named_in}
use Rattle.rp_auditor.specs.declared.verdicts.Verdict.{Verdict}
use Rattle.rp_auditor.specs.declared.verdicts.Verdict.TheVariants.{Yes, No}

-- what is left begins with the item
pub left_from : {X : Type 0} (xs : List X) (i : ℕ) (x : X) → i < length xs → x ≡ get_or xs i x → drop i xs ≡ x ∷ drop (i + 1) xs
left_from xs i x here is =
    drop-cons xs i x here ∙ ap (λ y. y ∷ drop (suc i) xs) (sym is) ∙ ap (λ n. x ∷ drop n xs) (sym (add-one i))

-- after a yes the other verdict stands, and a no stops
pub yes_goes : (v w : Verdict) → v ≡ Yes → (v before w) ≡ w
yes_goes v w is = ap (λ x. x before w) is

pub no_stops : (v w : Verdict) → v ≢ Yes → (v before w) ≡ v
no_stops Yes w other = absurd (other refl)
no_stops (No range index check) w other = refl

-- what all entries say, those that are left say
pub record Going (range : ℕ) (seen : Seen) (s : State) (all : List Entry) (new : Seen) (t : State) (rest : List Entry) : Type 0 where
  pub verdict : judged_entries range seen (Some s) all ≡ judged_entries range new (Some t) rest
  pub names : seen ++ named_in all ≡ new ++ named_in rest
  pub taken : after_entries (Some s) all ≡ after_entries (Some t) rest

pub going_begins : (range : ℕ) (seen : Seen) (s : State) (all : List Entry) → Going range seen s all seen s all
going_begins range seen s all = record { verdict = refl; names = refl; taken = refl }

going_next : (range : ℕ) (seen new more : Seen) (s t u : State) (all rest : List Entry) (e : Entry) (v : Verdict)
    → Going range seen s all new t (e ∷ rest) → JudgesRecord range e.index new t e.kept v more u → v ≡ Yes
    → Going range seen s all more u rest
going_next range seen new more s t u all rest e v g j sure = record {
  verdict =
      g.verdict
      ∙ yes_goes (judged_record range e.index new (Some t) e.kept) _ (j.verdict ∙ sure)
      ∙ ap₂ (λ xs o. judged_entries range xs o rest) (sym (j.names sure)) (j.taken sure);
  names = g.names ∙ sym (append_assoc new (named_by e.kept) (named_in rest)) ∙ ap (λ xs. xs ++ named_in rest) (sym (j.names sure));
  taken = g.taken ∙ ap (λ o. after_entries o rest) (j.taken sure);
}

pub going_on : (range i : ℕ) (seen new more : Seen) (s t u : State) (all : List Entry) (e : Entry) (v : Verdict) → i < length all → e ≡ get_or all i e
    → Going range seen s all new t (drop i all) → JudgesRecord range e.index new t e.kept v more u → v ≡ Yes
    → Going range seen s all more u (drop (i + 1) all)
going_on range i seen new more s t u all e v here is g j sure =
    going_next range seen new more s t u all (drop (i + 1) all) e v
    (subst (λ rest. Going range seen s all new t rest) (left_from all i e here is) g) j sure

-- a no is the verdict of all
going_stops : (range : ℕ) (seen new more : Seen) (s t u : State) (all rest : List Entry) (e : Entry) (v : Verdict)
    → Going range seen s all new t (e ∷ rest) → JudgesRecord range e.index new t e.kept v more u → v ≢ Yes
    → JudgesEntries range seen s all v more u
going_stops range seen new more s t u all rest e v g j other = record {
  verdict =
      g.verdict
      ∙ no_stops (judged_record range e.index new (Some t) e.kept) _ (λ is. other (sym j.verdict ∙ is))
      ∙ j.verdict;
  names = λ sure. absurd (other sure);
  taken = λ sure. absurd (other sure);
}

pub stops_at : (range i : ℕ) (seen new more : Seen) (s t u : State) (all : List Entry) (e : Entry) (v : Verdict) → i < length all → e ≡ get_or all i e
    → Going range seen s all new t (drop i all) → JudgesRecord range e.index new t e.kept v more u → v ≢ Yes
    → JudgesEntries range seen s all v more u
stops_at range i seen new more s t u all e v here is g j other =
    going_stops range seen new more s t u all (drop (i + 1) all) e v
    (subst (λ rest. Going range seen s all new t rest) (left_from all i e here is) g) j other

-- at the end all said yes
pub going_ends : (range i : ℕ) (seen new : Seen) (s t : State) (all : List Entry) → length all ≤ i
    → Going range seen s all new t (drop i all) → JudgesEntries range seen s all Yes new t
going_ends range i seen new s t all past g =
    let none : drop i all ≡ [] = drop_all i all past in
    record {
      verdict = g.verdict ∙ ap (judged_entries range new (Some t)) none;
      names = λ sure. sym (append-nil new) ∙ sym (ap (λ rest. new ++ named_in rest) none) ∙ sym g.names;
      taken = λ sure. g.taken ∙ ap (after_entries (Some t)) none;
    }

-- where there is other state there is none later
pub none_after : (kept : Record) → after_record None kept ≡ None
none_after (Took item) = refl
none_after (Passed why) = refl

pub none_after_all : (es : List Entry) → after_entries None es ≡ None
none_after_all [] = refl
none_after_all (e ∷ es) = ap (λ o. after_entries o es) (none_after e.kept) ∙ none_after_all es
