-- Lists that are walked one after another: what is left says what all of it says.
use Rattle.std.proofs.Common.{◌≡◌, ◌≢◌, ℕ, suc, ◌+◌, ◌<◌, ◌≤◌, Bool, true, false, List, [], ◌∷◌, ◌++◌, length, drop, get_or, Option, None, Some, refl, sym, ap, ap₂, subst, ◌∙◌, append_assoc, append-nil}
use Rattle.std.specs.Prelude.{nat_le, if◌then◌else◌, ◌==◌, ◌&&◌, slice_get}
use Rattle.std.proofs.lemmas.List.{drop_all}
use Rattle.std.proofs.lemmas.Option.{get_or_from_slice_get}
use Rattle.rp_base.specs.declared.values.Value.{Value}
use Rattle.rp_report.specs.declared.views.ReplicaView.{ReplicaView}
use Rattle.rp_report.specs.declared.views.Row.{Row}
use Rattle.rp_request.specs.Items.{State}
use Rattle.rp_reread.specs.declared.reports.Entry.{Entry}
use Rattle.rp_reread.specs.declared.reports.RangeRead.{RangeRead}
use Rattle.rp_auditor.specs.Audits.{runs_from, judged_replica, judged_replicas, judged_range, judged_ranges, named_in_all}
use Rattle.rp_auditor.specs.Playing.{after_record, after_entries, up_to, is_row, same_rows}
use Rattle.rp_auditor.specs.Reached.{JudgesRange, JudgesRanges}
use Rattle.rp_auditor.specs.Seen.{Seen, named_in}
use Rattle.rp_auditor.specs.Starts.{splits_off, split_there, split_off, right_state, range_in, start_of}
use Rattle.rp_auditor.specs.declared.verdicts.Verdict.{Verdict}
use Rattle.rp_auditor.specs.declared.verdicts.Verdict.TheVariants.{Yes}
use Rattle.rp_auditor.proofs.Going.{left_from, yes_goes, no_stops, none_after, none_after_all}

-- the replicas of a range, one after another
pub replicas_next : (range i : ℕ) (start : Option State) (es : List Entry) (all : List ReplicaView) (r : ReplicaView) (v : Verdict)
    → i < length all → r ≡ get_or all i r → v ≡ judged_replica range start es r → v ≡ Yes
    → judged_replicas range start es (drop i all) ≡ judged_replicas range start es all
    → judged_replicas range start es (drop (i + 1) all) ≡ judged_replicas range start es all
replicas_next range i start es all r v here is judged sure so_far =
    sym (ap (judged_replicas range start es) (left_from all i r here is) ∙ yes_goes (judged_replica range start es r) _ (sym judged ∙ sure)) ∙ so_far

pub replicas_stop : (range i : ℕ) (start : Option State) (es : List Entry) (all : List ReplicaView) (r : ReplicaView) (v : Verdict)
    → i < length all → r ≡ get_or all i r → v ≡ judged_replica range start es r → v ≢ Yes
    → judged_replicas range start es (drop i all) ≡ judged_replicas range start es all → v ≡ judged_replicas range start es all
replicas_stop range i start es all r v here is judged other so_far =
    judged ∙ sym (no_stops (judged_replica range start es r) (judged_replicas range start es (drop (i + 1) all)) (λ sure. other (judged ∙ sure)))
    ∙ sym (ap (judged_replicas range start es) (left_from all i r here is)) ∙ so_far

pub replicas_end : (range i : ℕ) (start : Option State) (es : List Entry) (all : List ReplicaView) → length all ≤ i
    → judged_replicas range start es (drop i all) ≡ judged_replicas range start es all → Yes ≡ judged_replicas range start es all
replicas_end range i start es all past so_far = sym (ap (judged_replicas range start es) (drop_all i all past)) ∙ so_far

-- the ranges of a report, one after another
pub record GoingOn (all : List RangeRead) (seen new : Seen) (rest : List RangeRead) : Type 0 where
  pub verdict : judged_ranges all new rest ≡ judged_ranges all seen all
  pub names : new ++ named_in_all rest ≡ seen ++ named_in_all all

ranges_next_by : (all rest : List RangeRead) (seen new more : Seen) (x : RangeRead) (v : Verdict) → GoingOn all seen new (x ∷ rest)
    → JudgesRange new (start_of all x.id) x v more → v ≡ Yes → GoingOn all seen more rest
ranges_next_by all rest seen new more x v g j sure = record {
  verdict =
      ap (λ xs. judged_ranges all xs rest) (j.names sure)
      ∙ sym (yes_goes (judged_range new (start_of all x.id) x) _ (j.verdict ∙ sure))
      ∙ g.verdict;
  names = ap (λ xs. xs ++ named_in_all rest) (j.names sure) ∙ append_assoc new (named_in x.entries) (named_in_all rest) ∙ g.names;
}

pub ranges_next : (i : ℕ) (all : List RangeRead) (seen new more : Seen) (x : RangeRead) (v : Verdict) → i < length all → x ≡ get_or all i x
    → GoingOn all seen new (drop i all) → JudgesRange new (start_of all x.id) x v more → v ≡ Yes → GoingOn all seen more (drop (i + 1) all)
ranges_next i all seen new more x v here is g j sure =
    ranges_next_by all (drop (i + 1) all) seen new more x v (subst (λ rest. GoingOn all seen new rest) (left_from all i x here is) g) j sure

ranges_stop_by : (all rest : List RangeRead) (seen new more : Seen) (x : RangeRead) (v : Verdict) → GoingOn all seen new (x ∷ rest)
    → JudgesRange new (start_of all x.id) x v more → v ≢ Yes → JudgesRanges all seen v more
ranges_stop_by all rest seen new more x v g j other = record {
  verdict =
      sym g.verdict
      ∙ no_stops (judged_range new (start_of all x.id) x) _ (λ sure. other (sym j.verdict ∙ sure))
      ∙ j.verdict;
  names = λ sure. absurd (other sure);
}

pub ranges_stop : (i : ℕ) (all : List RangeRead) (seen new more : Seen) (x : RangeRead) (v : Verdict) → i < length all → x ≡ get_or all i x
    → GoingOn all seen new (drop i all) → JudgesRange new (start_of all x.id) x v more → v ≢ Yes → JudgesRanges all seen v more
ranges_stop i all seen new more x v here is g j other =
    ranges_stop_by all (drop (i + 1) all) seen new more x v (subst (λ rest. GoingOn all seen new rest) (left_from all i x here is) g) j other

pub ranges_end : (i : ℕ) (all : List RangeRead) (seen new : Seen) → length all ≤ i → GoingOn all seen new (drop i all) → JudgesRanges all seen Yes new
ranges_end i all seen new past g =
    let none : drop i all ≡ [] = drop_all i all past in
    record {
      verdict = sym g.verdict ∙ ap (judged_ranges all new) none;
      names = λ sure. sym (append-nil new) ∙ sym (ap (λ rest. new ++ named_in_all rest) none) ∙ g.names;
    }

-- entries up to an index
up_to_here : (a i : ℕ) (all : List Entry) (e : Entry) → i < length all → e ≡ get_or all i e
    → up_to a (drop i all) ≡ (if nat_le e.index a then e ∷ up_to a (drop (i + 1) all) else up_to a (drop (i + 1) all))
up_to_here a i all e here is = ap (up_to a) (left_from all i e here is)

pub state_takes : (a i : ℕ) (all : List Entry) (e : Entry) (s t : State) (goal : Option State) → i < length all → e ≡ get_or all i e
    → nat_le e.index a ≡ true → after_record (Some s) e.kept ≡ Some t
    → after_entries (Some s) (up_to a (drop i all)) ≡ goal → after_entries (Some t) (up_to a (drop (i + 1) all)) ≡ goal
state_takes a i all e s t goal here is low taken so_far =
    sym (ap (after_entries (Some s)) (up_to_here a i all e here is ∙ ap (λ b. if b then e ∷ up_to a (drop (i + 1) all) else up_to a (drop (i + 1) all)) low)
    ∙ ap (λ o. after_entries o (up_to a (drop (i + 1) all))) taken) ∙ so_far

pub state_passes : (a i : ℕ) (all : List Entry) (e : Entry) (s : State) (goal : Option State) → i < length all → e ≡ get_or all i e
    → nat_le e.index a ≡ false
    → after_entries (Some s) (up_to a (drop i all)) ≡ goal → after_entries (Some s) (up_to a (drop (i + 1) all)) ≡ goal
state_passes a i all e s goal here is high so_far =
    sym (ap (after_entries (Some s)) (up_to_here a i all e here is ∙ ap (λ b. if b then e ∷ up_to a (drop (i + 1) all) else up_to a (drop (i + 1) all)) high)) ∙ so_far

pub state_stops : (a i : ℕ) (all : List Entry) (e : Entry) (s : State) (goal : Option State) → i < length all → e ≡ get_or all i e
    → nat_le e.index a ≡ true → after_record (Some s) e.kept ≡ None
    → after_entries (Some s) (up_to a (drop i all)) ≡ goal → None ≡ goal
state_stops a i all e s goal here is low stuck so_far =
    sym (ap (after_entries (Some s)) (up_to_here a i all e here is ∙ ap (λ b. if b then e ∷ up_to a (drop (i + 1) all) else up_to a (drop (i + 1) all)) low)
    ∙ ap (λ o. after_entries o (up_to a (drop (i + 1) all))) stuck ∙ none_after_all (up_to a (drop (i + 1) all))) ∙ so_far

pub state_ends : (a i : ℕ) (all : List Entry) (s : State) (goal : Option State) → length all ≤ i
    → after_entries (Some s) (up_to a (drop i all)) ≡ goal → Some s ≡ goal
state_ends a i all s goal past so_far = sym (ap (λ es. after_entries (Some s) (up_to a es)) (drop_all i all past)) ∙ so_far

-- where there is no state no range is split off
none_there : (o : Option ℕ) (further : Option State) → further ≡ None → split_there o None further ≡ None
none_there None further h = h
none_there (Some key) further h = refl

pub none_split_off : (range : ℕ) (es : List Entry) → split_off range None es ≡ None
none_split_off range [] = refl
none_split_off range (e ∷ es) =
    none_there (splits_off range e.kept) (split_off range (after_record None e.kept) es)
    (ap (λ s. split_off range s es) (none_after e.kept) ∙ none_split_off range es)

-- the entries of a split, one after another
split_here : (range i : ℕ) (all : List Entry) (e : Entry) (s : State) (o : Option ℕ) → i < length all → e ≡ get_or all i e → splits_off range e.kept ≡ o
    → split_off range (Some s) (drop i all) ≡ split_there o (Some s) (split_off range (after_record (Some s) e.kept) (drop (i + 1) all))
split_here range i all e s o here is what =
    ap (split_off range (Some s)) (left_from all i e here is)
    ∙ ap (λ p. split_there p (Some s) (split_off range (after_record (Some s) e.kept) (drop (i + 1) all))) what

pub split_takes : (range i : ℕ) (all : List Entry) (e : Entry) (s t : State) (goal : Option State) → i < length all → e ≡ get_or all i e
    → splits_off range e.kept ≡ None → after_record (Some s) e.kept ≡ Some t
    → split_off range (Some s) (drop i all) ≡ goal → split_off range (Some t) (drop (i + 1) all) ≡ goal
split_takes range i all e s t goal here is what taken so_far =
    sym (split_here range i all e s None here is what ∙ ap (λ o. split_off range o (drop (i + 1) all)) taken) ∙ so_far

pub split_stops : (range i : ℕ) (all : List Entry) (e : Entry) (s : State) (goal : Option State) → i < length all → e ≡ get_or all i e
    → splits_off range e.kept ≡ None → after_record (Some s) e.kept ≡ None
    → split_off range (Some s) (drop i all) ≡ goal → None ≡ goal
split_stops range i all e s goal here is what stuck so_far =
    sym (split_here range i all e s None here is what ∙ ap (λ o. split_off range o (drop (i + 1) all)) stuck ∙ none_split_off range (drop (i + 1) all)) ∙ so_far

pub split_finds : (range i key : ℕ) (all : List Entry) (e : Entry) (s : State) (goal : Option State) → i < length all → e ≡ get_or all i e
    → splits_off range e.kept ≡ Some key → split_off range (Some s) (drop i all) ≡ goal → right_state key s ≡ goal
split_finds range i key all e s goal here is what so_far = sym (split_here range i all e s (Some key) here is what) ∙ so_far

pub split_ends : (range i : ℕ) (all : List Entry) (s : State) (goal : Option State) → length all ≤ i
    → split_off range (Some s) (drop i all) ≡ goal → None ≡ goal
split_ends range i all s goal past so_far = sym (ap (split_off range (Some s)) (drop_all i all past)) ∙ so_far

-- the range with a number, one after another
range_by : (i range : ℕ) (all : List RangeRead) (x : RangeRead) (b : Bool) → i < length all → x ≡ get_or all i x → (x.id == range) ≡ b
    → range_in (drop i all) range ≡ (if b then Some x else range_in (drop (i + 1) all) range)
range_by i range all x b here is test =
    ap (λ xs. range_in xs range) (left_from all i x here is) ∙ ap (λ b. if b then Some x else range_in (drop (i + 1) all) range) test

pub range_found : (i range : ℕ) (all : List RangeRead) (x : RangeRead) (goal : Option RangeRead) → i < length all → x ≡ get_or all i x
    → (x.id == range) ≡ true → range_in (drop i all) range ≡ goal → Some x ≡ goal
range_found i range all x goal here is test so_far = sym (range_by i range all x true here is test) ∙ so_far

pub range_past : (i range : ℕ) (all : List RangeRead) (x : RangeRead) (goal : Option RangeRead) → i < length all → x ≡ get_or all i x
    → (x.id == range) ≡ false → range_in (drop i all) range ≡ goal → range_in (drop (i + 1) all) range ≡ goal
range_past i range all x goal here is test so_far = sym (range_by i range all x false here is test) ∙ so_far

pub range_missing : (i range : ℕ) (all : List RangeRead) (goal : Option RangeRead) → length all ≤ i → range_in (drop i all) range ≡ goal → None ≡ goal
range_missing i range all goal past so_far = sym (ap (λ xs. range_in xs range) (drop_all i all past)) ∙ so_far

-- indexes that run by one
runs_by : (index i : ℕ) (all : List Entry) (e : Entry) (b : Bool) → i < length all → e ≡ get_or all i e → (e.index == index) ≡ b
    → runs_from index (drop i all) ≡ (b && runs_from (index + 1) (drop (i + 1) all))
runs_by index i all e b here is test =
    ap (runs_from index) (left_from all i e here is) ∙ ap (λ b. b && runs_from (index + 1) (drop (i + 1) all)) test

pub runs_on : (index i : ℕ) (all : List Entry) (e : Entry) (goal : Bool) → i < length all → e ≡ get_or all i e → (e.index == index) ≡ true
    → runs_from index (drop i all) ≡ goal → runs_from (index + 1) (drop (i + 1) all) ≡ goal
runs_on index i all e goal here is test so_far = sym (runs_by index i all e true here is test) ∙ so_far

pub runs_off : (index i : ℕ) (all : List Entry) (e : Entry) (goal : Bool) → i < length all → e ≡ get_or all i e → (e.index == index) ≡ false
    → runs_from index (drop i all) ≡ goal → false ≡ goal
runs_off index i all e goal here is test so_far = sym (runs_by index i all e false here is test) ∙ so_far

pub runs_out : (index i : ℕ) (all : List Entry) (goal : Bool) → length all ≤ i → runs_from index (drop i all) ≡ goal → true ≡ goal
runs_out index i all goal past so_far = sym (ap (runs_from index) (drop_all i all past)) ∙ so_far

-- the rows of a table
rows_by : (es : List (ℕ × Value)) (rows : List Row) (i : ℕ) (e : ℕ × Value) (row : Row) (b : Bool) → i < length es → slice_get es i ≡ Some e
    → i < length rows → row ≡ get_or rows i row → is_row e row ≡ b
    → same_rows (drop i es) (drop i rows) ≡ (b && same_rows (drop (i + 1) es) (drop (i + 1) rows))
rows_by es rows i e row b within entry here is test =
    ap₂ same_rows (left_from es i e within (sym (get_or_from_slice_get es i e e entry))) (left_from rows i row here is)
    ∙ ap (λ b. b && same_rows (drop (i + 1) es) (drop (i + 1) rows)) test

pub rows_on : (es : List (ℕ × Value)) (rows : List Row) (i : ℕ) (e : ℕ × Value) (row : Row) (goal : Bool) → i < length es → slice_get es i ≡ Some e
    → i < length rows → row ≡ get_or rows i row → is_row e row ≡ true
    → same_rows (drop i es) (drop i rows) ≡ goal → same_rows (drop (i + 1) es) (drop (i + 1) rows) ≡ goal
rows_on es rows i e row goal within entry here is test so_far = sym (rows_by es rows i e row true within entry here is test) ∙ so_far

pub rows_off : (es : List (ℕ × Value)) (rows : List Row) (i : ℕ) (e : ℕ × Value) (row : Row) (goal : Bool) → i < length es → slice_get es i ≡ Some e
    → i < length rows → row ≡ get_or rows i row → is_row e row ≡ false
    → same_rows (drop i es) (drop i rows) ≡ goal → false ≡ goal
rows_off es rows i e row goal within entry here is test so_far = sym (rows_by es rows i e row false within entry here is test) ∙ so_far

same_len : (es : List (ℕ × Value)) (rows : List Row) → same_rows es rows ≡ true → length es ≡ length rows
same_len [] [] h = refl
same_len [] (row ∷ rows) h = cc
same_len (e ∷ es) [] h = cc
same_len (e ∷ es) (row ∷ rows) h = ap (λ n. suc n) (same_len es rows (second (is_row e row) (same_rows es rows) h))
  where
    second : (a b : Bool) → (a && b) ≡ true → b ≡ true
    second true b h = h
    second false b h = cc

pub rows_differ : (es : List (ℕ × Value)) (rows : List Row) → length es ≢ length rows → false ≡ same_rows es rows
rows_differ es rows apart = by (same_rows es rows) (λ h. apart (same_len es rows h))
  where
    by : (b : Bool) → (b ≡ true → ⊥) → false ≡ b
    by true h = absurd (h refl)
    by false h = refl

pub rows_end : (es : List (ℕ × Value)) (rows : List Row) (i : ℕ) (goal : Bool) → length es ≤ i → length rows ≤ i
    → same_rows (drop i es) (drop i rows) ≡ goal → true ≡ goal
rows_end es rows i goal past end so_far = sym (ap₂ same_rows (drop_all i es past) (drop_all i rows end)) ∙ so_far
