-- The lines of a report that show records.
use Rattle.std.proofs.Common.{◌≡◌, ℕ, ◌+◌, ◌<◌, ◌==◌, ◌&&◌, ◌^◌, not, Bool, true, false, cond, List, [], ◌∷◌, ◌++◌, length, map, refl, ap, sym, subst, ◌∙◌, arith, append_assoc, append-nil}
use Rattle.std.specs.Prelude.{codes, filter, flat_map}
use Rattle.std.specs.Fmt.{decimal}
use Rattle.std.specs.List.{AllByRecursion}
use Rattle.std.proofs.lemmas.List.{append_cancel_right, map-append}
use Rattle.std.proofs.lemmas.List.Concat.{flat_map-cons}
use Rattle.rp_base.specs.Keys.{key_text, bound_text, IsShown}
use Rattle.rp_base.specs.declared.Desc.{Desc}
use Rattle.rp_base.specs.declared.Lease.{Lease}
use Rattle.rp_request.specs.declared.items.Record.{Record}
use Rattle.rp_request.specs.declared.items.Record.TheVariants.{Took, Passed}
use Rattle.rp_request.specs.declared.notes.Note.{Note}
use Rattle.rp_request.specs.declared.notes.ReplyLine.{ReplyLine}
use Rattle.rp_request.specs.Words.{begun_with}
use Rattle.rp_report.specs.declared.views.Row.{Row}
use Rattle.rp_report.specs.declared.views.ReplicaView.{ReplicaView}
use Rattle.rp_report.specs.declared.views.ReplicaView.TheVariants.{Live, Removed, Absent}
use Rattle.rp_report.specs.declared.views.RangeView.{RangeView}
use Rattle.rp_report.specs.declared.views.View.{View}
use Rattle.rp_base.specs.Values.{value_text}
use Rattle.rp_report.specs.Words.{newline, spaced, spaced_value, spaced_bound, attempt_text, lease_text}
use Rattle.rp_report.specs.Items.{record_line}
use Rattle.rp_report.specs.Outcomes.{end_text}
use Rattle.rp_report.specs.Report.{note_line, attempt_of, answer_line, range_line, record_lines, row_line, live_text, replica_lines_of, replica_lines, range_lines, report}
use Rattle.rp_report.specs.Widths.{Fits, FitsRecord, IsOneLine, FitsNote, FitsReplyLine, FitsRow, FitsReplica, FitsRangeLine, FitsRange, FitsView}
use Rattle.rp_report.specs.InTexts.{record_in_text, entries_of, entries_in, entry_in_text}
use Rattle.rp_report.proofs.WordLaws.{value_word, AreLetters, AreWords, spoken, number_word, key_word, bound_word}
use Rattle.rp_report.proofs.EndWords.{command_word, id_word, wide_attempt, end_words, end_spoken, end_are_words}
use Rattle.rp_report.proofs.ItemWords.{record_words, record_spoken, record_are_words, one_record}

-- the lines of a text
cut : List ℕ → List (List ℕ)
cut [] = [] ∷ []
cut (b ∷ bytes) = cond (b == 10) ([] ∷ cut bytes) (begun_with b (cut bytes))

-- a line that shows a record: no other begins with a `p`
abbrev is_mark : List ℕ → Bool
is_mark [] = false
is_mark (b ∷ line) = b == 112

marks : List ℕ → List (List ℕ)
marks text = filter is_mark (cut text)

cut_line : (line rest : List ℕ) → IsOneLine line → cut (line ++ 10 ∷ rest) ≡ line ∷ cut rest
unfolding cut
cut_line [] rest h = refl
cut_line (b ∷ line) rest h = rw (h.0, cut_line line rest h.1) refl

-- a text of whole lines, and those of them that show records
Shows : List ℕ → List (List ℕ) → Type 0
Shows text lines = (rest : List ℕ) → marks (text ++ rest) ≡ lines ++ marks rest

none_shown : Shows [] []
unfolding Shows
none_shown rest = refl

both_shown : (s t : List ℕ) (k l : List (List ℕ)) → Shows s k → Shows t l → Shows (s ++ t) (k ++ l)
unfolding Shows
both_shown s t k l hs ht rest =
    ap marks (append_assoc s t rest) ∙ hs (t ++ rest) ∙ ap (λ x. k ++ x) (ht rest) ∙ sym (append_assoc k l (marks rest))

other_line : (line : List ℕ) → IsOneLine line → is_mark line ≡ false → Shows (line ++ newline) []
unfolding Shows marks
other_line line one other rest =
    ap (λ t. filter is_mark (cut t)) (append_assoc line newline rest) ∙ ap (filter is_mark) (cut_line line rest one) ∙ (rw other refl)

mark_line : (line : List ℕ) → IsOneLine line → is_mark line ≡ true → Shows (line ++ newline) (line ∷ [])
unfolding Shows marks
mark_line line one mark rest =
    ap (λ t. filter is_mark (cut t)) (append_assoc line newline rest) ∙ ap (filter is_mark) (cut_line line rest one) ∙ (rw mark refl)

-- texts without the end of a line
one_letters : (w : List ℕ) → AreLetters w → IsOneLine w
one_letters [] h = tt
one_letters (b ∷ w) h = (h.0.1, one_letters w h.1)

one_append : (v w : List ℕ) → IsOneLine v → IsOneLine w → IsOneLine (v ++ w)
one_append [] w hv hw = hw
one_append (b ∷ v) w hv hw = (hv.0, one_append v w hv.1 hw)

one_spoken : (ws : List (List ℕ)) → AreWords ws → IsOneLine (spoken ws)
one_spoken [] h = tt
one_spoken (w ∷ []) h = one_letters w h.0.letters
one_spoken (w ∷ v ∷ ws) h = one_append w (32 ∷ spoken (v ∷ ws)) (one_letters w h.0.letters) (refl, one_spoken (v ∷ ws) h.1)

abbrev is_one : List ℕ → Bool
is_one [] = true
is_one (b ∷ bytes) = not (b == 10) && is_one bytes

one_test : (b : ℕ) (x v : Bool) → (b == 10) ≡ x → (not x && v) ≡ true → ((b == 10) ≡ false) × (v ≡ true)
one_test b false v e h = (e, h)
one_test b true v e h = absurd (cc)

one_literal : (w : List ℕ) → is_one w ≡ true → IsOneLine w
one_literal [] h = tt
one_literal (b ∷ w) h = let parts = one_test b _ (is_one w) refl h in (parts.0, one_literal w parts.1)

one_number : (n : ℕ) → n < 2 ^ 64 → IsOneLine (spaced n)
one_number n fits = (refl, one_letters (decimal n) (number_word n fits).letters)

head_line : (n : ℕ) → Fits n → Shows (codes "nodes" ++ spaced n ++ newline) []
head_line n fits = other_line (codes "nodes" ++ spaced n) (one_append (codes "nodes") (spaced n) (one_literal (codes "nodes") refl) (one_number n fits)) refl

note_shown : (n : Note) → FitsNote n → Shows (note_line n) []
note_shown n h =
    other_line (codes "note" ++ spaced n.line ++ codes " " ++ n.text)
    (one_append (codes "note" ++ spaced n.line ++ codes " ") n.text
    (one_append (codes "note" ++ spaced n.line) (codes " ") (one_append (codes "note") (spaced n.line) (one_literal (codes "note") refl) (one_number n.line h.0)) (one_literal (codes " ") refl)) h.1) refl

dotted_grouped : (c d n a : List ℕ) → c ++ d ++ n ++ a ≡ (c ++ (d ++ n)) ++ a
dotted_grouped c d n a = simp append_assoc

attempt_one : (a : ReplyLine) → FitsReplyLine a → IsOneLine (attempt_text (attempt_of a))
attempt_one a h =
    subst IsOneLine (sym (dotted_grouped (decimal a.client) (codes ".") (decimal a.seq) (spaced a.attempt)))
    (one_append (command_word (attempt_of a)) (spaced a.attempt) (one_letters (command_word (attempt_of a)) (id_word (attempt_of a) h.0).letters) (one_number a.attempt (wide_attempt (attempt_of a) h.0)))

answer_shown : (a : ReplyLine) → FitsReplyLine a → Shows (answer_line a) []
answer_shown a h =
    other_line (codes "reply " ++ attempt_text (attempt_of a) ++ codes " " ++ end_text a.end)
    (one_append (codes "reply " ++ attempt_text (attempt_of a) ++ codes " ") (end_text a.end)
    (one_append (codes "reply " ++ attempt_text (attempt_of a)) (codes " ")
    (one_append (codes "reply ") (attempt_text (attempt_of a)) (one_literal (codes "reply ") refl) (attempt_one a h)) (one_literal (codes " ") refl))
    (subst IsOneLine (sym (end_spoken a.end)) (one_spoken (end_words a.end) (end_are_words a.end h.1)))) refl

row_shown : (r : Row) → FitsRow r → Shows (row_line r) []
row_shown r h =
    other_line (codes "row " ++ key_text r.key ++ spaced_value r.value)
    (one_append (codes "row " ++ key_text r.key) (spaced_value r.value)
    (one_append (codes "row ") (key_text r.key) (one_literal (codes "row ") refl) (one_letters (key_text r.key) (key_word r.key h.0).letters)) (refl, one_letters (value_text r.value) (value_word r.value h.1).letters)) refl

-- each text of a list shows nothing
each_shown : {X : Type 0} (f : X → List ℕ) (P : X → Type 0) → ((x : X) → P x → Shows (f x) []) → (xs : List X) → AllByRecursion P xs → Shows (flat_map f xs) []
each_shown f P one [] h = none_shown
each_shown f P one (x ∷ xs) h =
    subst (λ (t : List ℕ). Shows t []) (sym (flat_map-cons f x xs)) (both_shown (f x) (flat_map f xs) [] [] (one x h.0) (each_shown f P one xs h.1))

bound_one : (n : ℕ) → IsShown n → IsOneLine (spaced_bound n)
bound_one n h = (refl, one_letters (bound_text n) (bound_word n h).letters)

lease_one : (l : Lease) → Fits l.holder → Fits l.seq → Fits l.expires → IsOneLine (lease_text l)
lease_one l holder seq expires =
    one_append (decimal l.holder ++ spaced l.seq) (spaced l.expires)
    (one_append (decimal l.holder) (spaced l.seq) (one_letters (decimal l.holder) (number_word l.holder holder).letters) (one_number l.seq seq)) (one_number l.expires expires)

range_shown : (d : Desc) (l : Lease) → FitsRangeLine d l → Shows (range_line d l) []
range_shown d l h =
    other_line (codes "range" ++ spaced d.id ++ spaced_bound d.start ++ spaced_bound d.end ++ codes " level" ++ spaced d.level ++ codes " lease " ++ lease_text l)
    (one_append (codes "range" ++ spaced d.id ++ spaced_bound d.start ++ spaced_bound d.end ++ codes " level" ++ spaced d.level ++ codes " lease ") (lease_text l)
    (one_append (codes "range" ++ spaced d.id ++ spaced_bound d.start ++ spaced_bound d.end ++ codes " level" ++ spaced d.level) (codes " lease ")
    (one_append (codes "range" ++ spaced d.id ++ spaced_bound d.start ++ spaced_bound d.end ++ codes " level") (spaced d.level)
    (one_append (codes "range" ++ spaced d.id ++ spaced_bound d.start ++ spaced_bound d.end) (codes " level")
    (one_append (codes "range" ++ spaced d.id ++ spaced_bound d.start) (spaced_bound d.end)
    (one_append (codes "range" ++ spaced d.id) (spaced_bound d.start)
    (one_append (codes "range") (spaced d.id) (one_literal (codes "range") refl) (one_number d.id h.0)) (bound_one d.start h.1)) (bound_one d.end h.2))
    (one_literal (codes " level") refl)) (one_number d.level h.3)) (one_literal (codes " lease ") refl)) (lease_one l h.4 h.5 h.6)) refl

live_one : (term applied lai : ℕ) → Fits term → Fits applied → Fits lai → IsOneLine (live_text term applied lai)
live_one term applied lai ht ha hl =
    one_append (codes " live term" ++ spaced term ++ codes " applied" ++ spaced applied ++ codes " lai") (spaced lai)
    (one_append (codes " live term" ++ spaced term ++ codes " applied" ++ spaced applied) (codes " lai")
    (one_append (codes " live term" ++ spaced term ++ codes " applied") (spaced applied)
    (one_append (codes " live term" ++ spaced term) (codes " applied")
    (one_append (codes " live term") (spaced term) (one_literal (codes " live term") refl) (one_number term ht)) (one_literal (codes " applied") refl)) (one_number applied ha))
    (one_literal (codes " lai") refl)) (one_number lai hl)

live_grouped : (w n l e r : List ℕ) → w ++ n ++ (l ++ e ++ r) ≡ (w ++ n ++ l) ++ e ++ r
live_grouped w n l e r = simp append_assoc

node_one : (n : ℕ) → Fits n → IsOneLine (codes "node" ++ spaced n)
node_one n fits = one_append (codes "node") (spaced n) (one_literal (codes "node") refl) (one_number n fits)

end_grouped : (w l e : List ℕ) → w ++ (l ++ e) ≡ w ++ l ++ e
end_grouped w l e = simp append_assoc

replica_shown : (n : ℕ) (r : ReplicaView) → Fits n → FitsReplica r → Shows (replica_lines_of n r) []
replica_shown n (Live term applied lai rows) fits h =
    subst (λ (t : List ℕ). Shows t []) (sym (live_grouped (codes "node") (spaced n) (live_text term applied lai) newline (flat_map row_line rows)))
    (both_shown ((codes "node" ++ spaced n ++ live_text term applied lai) ++ newline) (flat_map row_line rows) [] []
    (other_line (codes "node" ++ spaced n ++ live_text term applied lai) (one_append (codes "node" ++ spaced n) (live_text term applied lai) (node_one n fits) (live_one term applied lai h.0 h.1 h.2)) refl)
    (each_shown row_line FitsRow row_shown rows h.3))
replica_shown n (Removed applied) fits h =
    subst (λ (t : List ℕ). Shows t []) (sym (end_grouped (codes "node" ++ spaced n) (codes " removed applied" ++ spaced applied) newline))
    (other_line (codes "node" ++ spaced n ++ (codes " removed applied" ++ spaced applied))
    (one_append (codes "node" ++ spaced n) (codes " removed applied" ++ spaced applied) (node_one n fits)
    (one_append (codes " removed applied") (spaced applied) (one_literal (codes " removed applied") refl) (one_number applied h))) refl)
replica_shown n Absent fits h =
    subst (λ (t : List ℕ). Shows t []) (sym (end_grouped (codes "node" ++ spaced n) (codes " none") newline))
    (other_line (codes "node" ++ spaced n ++ codes " none") (one_append (codes "node" ++ spaced n) (codes " none") (node_one n fits) (one_literal (codes " none") refl)) refl)

replicas_shown : (n : ℕ) (rs : List ReplicaView) → n + length rs < 2 ^ 64 → AllByRecursion FitsReplica rs → Shows (replica_lines n rs) []
replicas_shown n [] fits h = none_shown
replicas_shown n (r ∷ rs) fits h =
    both_shown (replica_lines_of n r) (replica_lines (n + 1) rs) [] [] (replica_shown n r (omega arith) h.0) (replicas_shown (n + 1) rs (omega arith) h.1)

-- the line of a record with its index, without its end
body : ℕ × Record → List ℕ
body e = spoken (record_words e.0 e.1)

IsEntry : ℕ × Record → Type 0
IsEntry e = Fits e.0 × FitsRecord e.1

marked : (i : ℕ) (r : Record) → is_mark (spoken (record_words i r)) ≡ true
marked i (Took item) = refl
marked i (Passed why) = refl

record_shown : (i : ℕ) (r : Record) → Fits i → FitsRecord r → Shows (record_line i r) (body (i, r) ∷ [])
unfolding body
record_shown i r fits h =
    subst (λ (t : List ℕ). Shows t (spoken (record_words i r) ∷ [])) (sym (record_spoken i r))
    (mark_line (spoken (record_words i r)) (one_spoken (record_words i r) (record_are_words i r fits h)) (marked i r))

records_shown : (i : ℕ) (rs : List Record) → i + length rs < 2 ^ 64 → AllByRecursion FitsRecord rs → Shows (record_lines i rs) (map body (entries_of i rs))
records_shown i [] fits h = none_shown
records_shown i (r ∷ rs) fits h =
    both_shown (record_line i r) (record_lines (i + 1) rs) (body (i, r) ∷ []) (map body (entries_of (i + 1) rs))
    (record_shown i r (omega arith) h.0) (records_shown (i + 1) rs (omega arith) h.1)

range_lines_shown : (r : RangeView) → FitsRange r → Shows (range_lines r) (map body (entries_of r.first r.records))
range_lines_shown r h =
    subst (λ (ls : List (List ℕ)). Shows (range_lines r) ls) (append-nil (map body (entries_of r.first r.records)))
    (both_shown (range_line r.desc r.lease ++ record_lines r.first r.records) (replica_lines 1 r.replicas) (map body (entries_of r.first r.records)) []
    (both_shown (range_line r.desc r.lease) (record_lines r.first r.records) [] (map body (entries_of r.first r.records))
    (range_shown r.desc r.lease h.0) (records_shown r.first r.records h.1 h.2))
    (replicas_shown 1 r.replicas h.3 h.4))

ranges_shown : (rs : List RangeView) → AllByRecursion FitsRange rs → Shows (flat_map range_lines rs) (map body (entries_in rs))
ranges_shown [] h = none_shown
ranges_shown (r ∷ rs) h =
    subst (λ (t : List ℕ). Shows t (map body (entries_in (r ∷ rs)))) (sym (flat_map-cons range_lines r rs))
    (subst (λ (ls : List (List ℕ)). Shows (range_lines r ++ flat_map range_lines rs) ls) (sym (map-append body (entries_of r.first r.records) (entries_in rs)))
    (both_shown (range_lines r) (flat_map range_lines rs) (map body (entries_of r.first r.records)) (map body (entries_in rs))
    (range_lines_shown r h.0) (ranges_shown rs h.1)))

last_grouped : (t e n : List ℕ) → t ++ e ++ n ≡ t ++ (e ++ n)
last_grouped t e n = append_assoc t e n

report_shown : (v : View) → FitsView v → Shows (report v) (map body (entries_in v.ranges))
report_shown v h =
    let head = codes "nodes" ++ spaced v.nodes ++ newline in
    let notes = flat_map note_line v.notes in
    let answers = flat_map answer_line v.replies in
    let ranges = flat_map range_lines v.ranges in
    let shown = map body (entries_in v.ranges) in
    subst (λ (t : List ℕ). Shows t (map body (entries_in v.ranges))) (sym (append_assoc (head ++ notes ++ answers ++ ranges) (codes "end") newline))
    (subst (λ (ls : List (List ℕ)). Shows (head ++ notes ++ answers ++ ranges ++ (codes "end" ++ newline)) ls) (append-nil (map body (entries_in v.ranges)))
    (both_shown (head ++ notes ++ answers ++ ranges) (codes "end" ++ newline) (map body (entries_in v.ranges)) []
    (both_shown (head ++ notes ++ answers) ranges [] (map body (entries_in v.ranges))
    (both_shown (head ++ notes) answers [] []
    (both_shown head notes [] [] (head_line v.nodes h.nodes) (each_shown note_line FitsNote note_shown v.notes h.notes))
    (each_shown answer_line FitsReplyLine answer_shown v.replies h.replies))
    (ranges_shown v.ranges h.ranges))
    (other_line (codes "end") (one_literal (codes "end") refl) refl)))

each_append : {X : Type 0} (P : X → Type 0) (xs ys : List X) → AllByRecursion P xs → AllByRecursion P ys → AllByRecursion P (xs ++ ys)
each_append P [] ys hx hy = hy
each_append P (x ∷ xs) ys hx hy = (hx.0, each_append P xs ys hx.1 hy)

entries_fit : (i : ℕ) (rs : List Record) → i + length rs < 2 ^ 64 → AllByRecursion FitsRecord rs → AllByRecursion IsEntry (entries_of i rs)
unfolding IsEntry
entries_fit i [] fits h = tt
entries_fit i (r ∷ rs) fits h = ((omega arith, h.0), entries_fit (i + 1) rs (omega arith) h.1)

all_fit : (rs : List RangeView) → AllByRecursion FitsRange rs → AllByRecursion IsEntry (entries_in rs)
all_fit [] h = tt
all_fit (r ∷ rs) h = each_append IsEntry (entries_of r.first r.records) (entries_in rs) (entries_fit r.first r.records h.0.1 h.0.2) (all_fit rs h.1)

entries_alike : (e f : ℕ × Record) → IsEntry e → IsEntry f → body e ≡ body f → entry_in_text e ≡ entry_in_text f
unfolding IsEntry body
entries_alike e f he hf same =
    let parts = one_record e.0 f.0 e.1 f.1 he.0 hf.0 he.1 hf.1 (record_spoken e.0 e.1 ∙ ap (λ t. t ++ newline) same ∙ sym (record_spoken f.0 f.1)) in
    let pair = λ (i : ℕ) (r : Record). let x : ℕ × Record = (i, r) in x in
    ap (λ (i : ℕ). pair i (record_in_text e.1)) parts.0 ∙ ap (λ (r : Record). pair f.0 r) parts.1

all_alike : (es fs : List (ℕ × Record)) → AllByRecursion IsEntry es → AllByRecursion IsEntry fs → map body es ≡ map body fs → map entry_in_text es ≡ map entry_in_text fs
all_alike [] [] he hf same = refl
all_alike [] (f ∷ fs) he hf same = absurd (cc)
all_alike (e ∷ es) [] he hf same = absurd (cc)
all_alike (e ∷ es) (f ∷ fs) he hf same =
    let first : body e ≡ body f = cc in
    let rest : map body es ≡ map body fs = cc in
    let one : entry_in_text e ≡ entry_in_text f = entries_alike e f he.0 hf.0 first in
    let more : map entry_in_text es ≡ map entry_in_text fs = all_alike es fs he.1 hf.1 rest in
    cc

-- views with one report show the same records
pub one_report : (v w : View) → FitsView v → FitsView w → report v ≡ report w → map entry_in_text (entries_in v.ranges) ≡ map entry_in_text (entries_in w.ranges)
unfolding Shows
one_report v w hv hw same =
    all_alike (entries_in v.ranges) (entries_in w.ranges) (all_fit v.ranges hv.ranges) (all_fit w.ranges hw.ranges)
    (append_cancel_right (map body (entries_in v.ranges)) (map body (entries_in w.ranges)) (marks [])
    (sym (report_shown v hv []) ∙ ap (λ t. marks (t ++ [])) same ∙ report_shown w hw []))
