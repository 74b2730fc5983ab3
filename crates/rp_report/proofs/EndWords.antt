-- Replies, refusals and ends of attempts: what their words tell.
use Rattle.std.proofs.Common.{◌≡◌, ℕ, ◌<◌, ◌≤◌, ◌==◌, ◌^◌, Bool, true, false, get_or, List, [], ◌∷◌, ◌++◌, Some, None, refl, ap, sym, ◌∙◌, lit<, arith, append_assoc, Result, Ok, Err}
use Rattle.std.specs.Prelude.{codes, if◌then◌else◌}
use Rattle.std.specs.Fmt.{decimal}
use Rattle.std.specs.Str.{bytes_eq}
use Rattle.rp_base.specs.Keys.{bound_text, key_text}
use Rattle.rp_base.specs.Numbers.{u64_of}
use Rattle.rp_base.specs.declared.CmdId.{CmdId}
use Rattle.rp_base.specs.declared.NumberFault.{NumberFault}
use Rattle.rp_base.proofs.KeyLaws.{one_bound}
use Rattle.rp_base.proofs.NumberLaws.{read_as_written}
use Rattle.rp_base.proofs.SplitLaws.{desc_same}
use Rattle.rp_base.proofs.ValueLaws.{first_above_sign}
use Rattle.rp_base.specs.declared.values.Value.TheVariants.{Number, Text}
use Rattle.std.proofs.lemmas.Bool.Decides.{nat_tests}
use Rattle.rp_request.specs.Fits.{FitsReply, FitsId}
use Rattle.rp_request.specs.declared.outcomes.Reply.{Reply}
use Rattle.rp_request.specs.declared.outcomes.Reply.TheVariants.{Old, Now, Set, Count, Range}
use Rattle.rp_request.specs.declared.outcomes.Refusal.{Refusal}
use Rattle.rp_request.specs.declared.outcomes.Refusal.TheVariants.{NoReplica, NotLeaseHolder, RangeMismatch, Latched, ConditionFailed, IsText, Overflow, Short, TooWide, NotInside, SplitLimit}
use Rattle.rp_request.specs.declared.outcomes.Ambiguity.{Ambiguity}
use Rattle.rp_request.specs.declared.outcomes.Ambiguity.TheVariants.{Snapshot, Removed, Restarted}
use Rattle.rp_request.specs.declared.outcomes.Outcome.{Outcome}
use Rattle.rp_request.specs.declared.outcomes.Outcome.TheVariants.{Success, Refused, Ambiguous, Pending}
use Rattle.rp_request.specs.declared.outcomes.End.{End}
use Rattle.rp_request.specs.declared.outcomes.End.TheVariants as ends
use Rattle.rp_report.specs.Words.{value_or_none}
use Rattle.rp_report.specs.Items.{reply_text}
use Rattle.rp_report.specs.Outcomes.{refusal_text, ambiguity_text, end_text}
use Rattle.rp_report.specs.Widths.{FitsRefusal, FitsAmbiguity, FitsEnd}
use Rattle.rp_report.specs.InTexts.{reply_in_text, refusal_in_text, end_in_text}
use Rattle.rp_report.proofs.WordLaws.{IsWord, AreWords, key_word, key_same, literal_word, spoken, are_some, spoken_append, same_words, number_word, bound_word, dotted_word, number_same, dotted_same}
use Rattle.rp_report.proofs.RequestWords.{option_word, one_option, number_is_no_word, first_of}

abbrev pub reply_words : Reply → List (List ℕ)
reply_words (Old value) = value_or_none value ∷ []
reply_words (Now value) = decimal value ∷ []
reply_words Set = codes "set" ∷ []
reply_words (Count count) = decimal count ∷ []
reply_words (Range right) = codes "range" ∷ decimal right ∷ []

pub reply_spoken : (r : Reply) → reply_text r ≡ spoken (reply_words r)
reply_spoken (Old value) = refl
reply_spoken (Now value) = refl
reply_spoken Set = refl
reply_spoken (Count count) = refl
reply_spoken (Range right) = refl

pub reply_are_some : (r : Reply) → are_some (reply_words r) ≡ true
reply_are_some (Old value) = refl
reply_are_some (Now value) = refl
reply_are_some Set = refl
reply_are_some (Count count) = refl
reply_are_some (Range right) = refl

range_fits : (n : ℕ) → n ≤ 7 → n < 2 ^ 64
range_fits n h = omega arith

pub reply_are_words : (r : Reply) → FitsReply r → AreWords (reply_words r)
reply_are_words (Old value) h = (option_word value h, tt)
reply_are_words (Now value) h = (number_word value h, tt)
reply_are_words Set h = (literal_word (codes "set") refl, tt)
reply_are_words (Count count) h = (number_word count h, tt)
reply_are_words (Range right) h = (literal_word (codes "range") refl, (number_word right (range_fits right h), tt))

-- the number that a word writes
abbrev number_or : Result ℕ NumberFault → ℕ
number_or (Ok n) = n
number_or (Err e) = 0

-- the value that a word writes: behind an apostrophe a text, else a number
abbrev is_quoted : List ℕ → Bool
is_quoted [] = false
is_quoted (b ∷ w) = b == 39

abbrev behind_sign : List ℕ → List ℕ
behind_sign [] = []
behind_sign (b ∷ w) = w

abbrev reply_of_value : List ℕ → Reply
reply_of_value w = if is_quoted w then Old (Some (Text (behind_sign w))) else Now (number_or (u64_of w))

abbrev reply_of_word : List ℕ → Reply
reply_of_word w = if bytes_eq w (codes "none") then Old None else (if bytes_eq w (codes "set") then Set else reply_of_value w)

-- the reply that words tell
abbrev reply_of : List (List ℕ) → Reply
reply_of [] = Set
reply_of (w ∷ []) = reply_of_word w
reply_of (w ∷ v ∷ ws) = Range (number_or (u64_of v))

above_sign : (w : List ℕ) → 39 < get_or w 0 0 → is_quoted w ≡ false
above_sign [] h = refl
above_sign (b ∷ w) h = grind (arith, nat_tests)

number_reply : (n : ℕ) → n < 2 ^ 64 → reply_of_word (decimal n) ≡ Now n
number_reply n fits =
    rw (number_is_no_word n 110 (111 ∷ 110 ∷ 101 ∷ []) fits refl, number_is_no_word n 115 (101 ∷ 116 ∷ []) fits refl, above_sign (decimal n) (first_above_sign n fits), read_as_written n fits) refl

pub reply_read : (r : Reply) → FitsReply r → reply_of (reply_words r) ≡ reply_in_text r
reply_read (Old None) h = refl
reply_read (Old (Some (Number value))) h = number_reply value h
reply_read (Old (Some (Text text))) h = refl
reply_read (Now value) h = number_reply value h
reply_read Set h = refl
reply_read (Count count) h = number_reply count h
reply_read (Range right) h = rw (read_as_written right (range_fits right h)) refl

pub replies_by_words : (r s : Reply) → FitsReply r → FitsReply s → reply_words r ≡ reply_words s → reply_in_text r ≡ reply_in_text s
replies_by_words r s hr hs same = sym (reply_read r hr) ∙ ap reply_of same ∙ reply_read s hs

abbrev pub command_word : CmdId → List ℕ
command_word id = decimal id.client ++ 46 ∷ decimal id.seq

-- its numbers have 64 bits
wide_client : (a : CmdId) → FitsId a → a.client < 2 ^ 64
wide_client a h = omega (arith, h.0)

wide_seq : (a : CmdId) → FitsId a → a.seq < 2 ^ 64
wide_seq a h = omega (arith, h.1)

pub wide_attempt : (a : CmdId) → FitsId a → a.attempt < 2 ^ 64
wide_attempt a h = omega (arith, h.2)

pub id_word : (a : CmdId) → FitsId a → IsWord (command_word a)
id_word a h = dotted_word a.client a.seq (wide_client a h) (wide_seq a h)

abbrev pub refusal_words : Refusal → List (List ℕ)
refusal_words NoReplica = codes "no-replica" ∷ []
refusal_words (NotLeaseHolder lease) = codes "not-lease-holder" ∷ decimal lease.holder ∷ decimal lease.seq ∷ []
refusal_words (RangeMismatch desc) = codes "range-mismatch" ∷ decimal desc.id ∷ bound_text desc.start ∷ bound_text desc.end ∷ decimal desc.level ∷ []
refusal_words (Latched by held) = codes "latched" ∷ command_word by ∷ decimal by.attempt ∷ []
refusal_words (ConditionFailed actual) = codes "condition-failed" ∷ value_or_none actual ∷ []
refusal_words (IsText key) = codes "is-text" ∷ key_text key ∷ []
refusal_words (Overflow actual) = codes "overflow" ∷ decimal actual ∷ []
refusal_words (Short actual) = codes "short" ∷ decimal actual ∷ []
refusal_words (TooWide count) = codes "too-wide" ∷ decimal count ∷ []
refusal_words NotInside = codes "not-inside" ∷ []
refusal_words (SplitLimit level) = codes "split-limit" ∷ decimal level ∷ []

mismatch_spoken : (w i a b l : List ℕ) → w ++ (codes " " ++ i) ++ (codes " " ++ a) ++ (codes " " ++ b) ++ (codes " " ++ l)
    ≡ w ++ 32 ∷ (i ++ 32 ∷ (a ++ 32 ∷ (b ++ 32 ∷ l)))
mismatch_spoken w i a b l = simp append_assoc

pub refusal_spoken : (r : Refusal) → refusal_text r ≡ spoken (refusal_words r)
refusal_spoken NoReplica = refl
refusal_spoken (NotLeaseHolder lease) = simp append_assoc
refusal_spoken (RangeMismatch desc) = mismatch_spoken (codes "range-mismatch") (decimal desc.id) (bound_text desc.start) (bound_text desc.end) (decimal desc.level)
refusal_spoken (Latched by held) = simp append_assoc
refusal_spoken (ConditionFailed actual) = refl
refusal_spoken (IsText key) = refl
refusal_spoken (Overflow actual) = refl
refusal_spoken (Short actual) = refl
refusal_spoken (TooWide count) = refl
refusal_spoken NotInside = refl
refusal_spoken (SplitLimit level) = refl

pub refusal_are_some : (r : Refusal) → are_some (refusal_words r) ≡ true
refusal_are_some NoReplica = refl
refusal_are_some (NotLeaseHolder lease) = refl
refusal_are_some (RangeMismatch desc) = refl
refusal_are_some (Latched by held) = refl
refusal_are_some (ConditionFailed actual) = refl
refusal_are_some (IsText key) = refl
refusal_are_some (Overflow actual) = refl
refusal_are_some (Short actual) = refl
refusal_are_some (TooWide count) = refl
refusal_are_some NotInside = refl
refusal_are_some (SplitLimit level) = refl

pub refusal_are_words : (r : Refusal) → FitsRefusal r → AreWords (refusal_words r)
refusal_are_words NoReplica h = (literal_word (codes "no-replica") refl, tt)
refusal_are_words (NotLeaseHolder lease) h = (literal_word (codes "not-lease-holder") refl, (number_word lease.holder h.0, (number_word lease.seq h.1, tt)))
refusal_are_words (RangeMismatch desc) h =
    (literal_word (codes "range-mismatch") refl, (number_word desc.id h.0, (bound_word desc.start h.1, (bound_word desc.end h.2, (number_word desc.level h.3, tt)))))
refusal_are_words (Latched by held) h = (literal_word (codes "latched") refl, (id_word by h, (number_word by.attempt (wide_attempt by h), tt)))
refusal_are_words (ConditionFailed actual) h = (literal_word (codes "condition-failed") refl, (option_word actual h, tt))
refusal_are_words (IsText key) h = (literal_word (codes "is-text") refl, (key_word key h, tt))
refusal_are_words (Overflow actual) h = (literal_word (codes "overflow") refl, (number_word actual h, tt))
refusal_are_words (Short actual) h = (literal_word (codes "short") refl, (number_word actual h, tt))
refusal_are_words (TooWide count) h = (literal_word (codes "too-wide") refl, (number_word count h, tt))
refusal_are_words NotInside h = (literal_word (codes "not-inside") refl, tt)
refusal_are_words (SplitLimit level) h = (literal_word (codes "split-limit") refl, (number_word level h, tt))

-- which refusal it is
abbrev refusal_kind : Refusal → ℕ
refusal_kind NoReplica = 1
refusal_kind (NotLeaseHolder lease) = 2
refusal_kind (RangeMismatch desc) = 3
refusal_kind (Latched by held) = 4
refusal_kind (ConditionFailed actual) = 5
refusal_kind (Overflow actual) = 6
refusal_kind (Short actual) = 7
refusal_kind (TooWide count) = 8
refusal_kind NotInside = 9
refusal_kind (SplitLimit level) = 10
refusal_kind (IsText key) = 11

-- its first word says so
abbrev kind_of_word : List ℕ → ℕ
kind_of_word w =
    if bytes_eq w (codes "no-replica") then 1
    else (if bytes_eq w (codes "not-lease-holder") then 2
    else (if bytes_eq w (codes "range-mismatch") then 3
    else (if bytes_eq w (codes "latched") then 4
    else (if bytes_eq w (codes "condition-failed") then 5
    else (if bytes_eq w (codes "overflow") then 6
    else (if bytes_eq w (codes "short") then 7
    else (if bytes_eq w (codes "too-wide") then 8
    else (if bytes_eq w (codes "not-inside") then 9
    else (if bytes_eq w (codes "split-limit") then 10
    else (if bytes_eq w (codes "is-text") then 11
    else 0))))))))))

refusal_kind_known : (r : Refusal) → kind_of_word (first_of (refusal_words r)) ≡ refusal_kind r
refusal_kind_known NoReplica = refl
refusal_kind_known (NotLeaseHolder lease) = refl
refusal_kind_known (RangeMismatch desc) = refl
refusal_kind_known (Latched by held) = refl
refusal_kind_known (ConditionFailed actual) = refl
refusal_kind_known (IsText key) = refl
refusal_kind_known (Overflow actual) = refl
refusal_kind_known (Short actual) = refl
refusal_kind_known (TooWide count) = refl
refusal_kind_known NotInside = refl
refusal_kind_known (SplitLimit level) = refl

pub attempts_by_words : (a b : CmdId) → FitsId a → FitsId b → command_word a ≡ command_word b → decimal a.attempt ≡ decimal b.attempt → a ≡ b
attempts_by_words a b ha hb command attempt =
    let parts = dotted_same a.client a.seq b.client b.seq (wide_client a ha) (wide_seq a ha) (wide_client b hb) (wide_seq b hb) command in
    let client : a.client ≡ b.client = parts.0 in
    let seq : a.seq ≡ b.seq = parts.1 in
    let last : a.attempt ≡ b.attempt = number_same a.attempt b.attempt (wide_attempt a ha) (wide_attempt b hb) attempt in
    let made = λ (x : ℕ) (y : ℕ) (z : ℕ). let id : CmdId = record { client = x; seq = y; attempt = z } in id in
    ap (λ (x : ℕ). made x a.seq a.attempt) client ∙ ap (λ (y : ℕ). made b.client y a.attempt) seq ∙ ap (λ (z : ℕ). made b.client b.seq z) last

refusals_alike : (p q : Refusal) → FitsRefusal p → FitsRefusal q → refusal_kind p ≡ refusal_kind q → refusal_words p ≡ refusal_words q → refusal_in_text p ≡ refusal_in_text q
refusals_alike NoReplica NoReplica hp hq kind same = refl
refusals_alike (NotLeaseHolder a) (NotLeaseHolder b) hp hq kind same =
    let holder = number_same a.holder b.holder hp.0 hq.0 (cc) in
    let seq = number_same a.seq b.seq hp.1 hq.1 (cc) in
    cc
refusals_alike (RangeMismatch a) (RangeMismatch b) hp hq kind same =
    ap RangeMismatch
    (desc_same a b (number_same a.id b.id hp.0 hq.0 (cc)) (number_same a.level b.level hp.3 hq.3 (cc))
    (one_bound a.start b.start hp.1 hq.1 (cc)) (one_bound a.end b.end hp.2 hq.2 (cc)))
refusals_alike (Latched a s) (Latched b t) hp hq kind same = let e = attempts_by_words a b hp hq (cc) (cc) in cc
refusals_alike (ConditionFailed a) (ConditionFailed b) hp hq kind same = ap ConditionFailed (one_option a b hp hq (cc))
refusals_alike (IsText k) (IsText l) hp hq kind same = ap IsText (key_same k l hp hq (cc))
refusals_alike (Overflow a) (Overflow b) hp hq kind same = ap Overflow (number_same a b hp hq (cc))
refusals_alike (Short a) (Short b) hp hq kind same = ap Short (number_same a b hp hq (cc))
refusals_alike (TooWide a) (TooWide b) hp hq kind same = ap TooWide (number_same a b hp hq (cc))
refusals_alike NotInside NotInside hp hq kind same = refl
refusals_alike (SplitLimit a) (SplitLimit b) hp hq kind same = ap SplitLimit (number_same a b hp hq (cc))
refusals_alike p q hp hq kind same = absurd (omega arith)

pub refusals_by_words : (p q : Refusal) → FitsRefusal p → FitsRefusal q → refusal_words p ≡ refusal_words q → refusal_in_text p ≡ refusal_in_text q
refusals_by_words p q hp hq same =
    refusals_alike p q hp hq (sym (refusal_kind_known p) ∙ ap (λ ws. kind_of_word (first_of ws)) same ∙ refusal_kind_known q) same

-- replies, and refusals, with one text are told alike
pub one_reply : (r s : Reply) → FitsReply r → FitsReply s → reply_text r ≡ reply_text s → reply_in_text r ≡ reply_in_text s
one_reply r s hr hs same =
    replies_by_words r s hr hs (same_words (reply_words r) (reply_words s) (reply_are_words r hr) (reply_are_words s hs) (sym (reply_spoken r) ∙ same ∙ reply_spoken s))

pub one_refusal : (p q : Refusal) → FitsRefusal p → FitsRefusal q → refusal_text p ≡ refusal_text q → refusal_in_text p ≡ refusal_in_text q
one_refusal p q hp hq same =
    refusals_by_words p q hp hq
    (same_words (refusal_words p) (refusal_words q) (refusal_are_words p hp) (refusal_are_words q hq) (sym (refusal_spoken p) ∙ same ∙ refusal_spoken q))

abbrev pub ambiguity_words : Ambiguity → List (List ℕ)
ambiguity_words (Snapshot own passed) = codes "snapshot" ∷ decimal own ∷ decimal passed ∷ []
ambiguity_words (Removed own) = codes "removed" ∷ decimal own ∷ []
ambiguity_words (Restarted own) = codes "restarted" ∷ decimal own ∷ []

ambiguity_spoken : (a : Ambiguity) → ambiguity_text a ≡ spoken (ambiguity_words a)
ambiguity_spoken (Snapshot own passed) = simp append_assoc
ambiguity_spoken (Removed own) = refl
ambiguity_spoken (Restarted own) = refl

ambiguity_are_some : (a : Ambiguity) → are_some (ambiguity_words a) ≡ true
ambiguity_are_some (Snapshot own passed) = refl
ambiguity_are_some (Removed own) = refl
ambiguity_are_some (Restarted own) = refl

ambiguity_are_words : (a : Ambiguity) → FitsAmbiguity a → AreWords (ambiguity_words a)
ambiguity_are_words (Snapshot own passed) h = (literal_word (codes "snapshot") refl, (number_word own h.0, (number_word passed h.1, tt)))
ambiguity_are_words (Removed own) h = (literal_word (codes "removed") refl, (number_word own h, tt))
ambiguity_are_words (Restarted own) h = (literal_word (codes "restarted") refl, (number_word own h, tt))

-- which ambiguity it is
abbrev ambiguity_kind : Ambiguity → ℕ
ambiguity_kind (Snapshot own passed) = 1
ambiguity_kind (Removed own) = 2
ambiguity_kind (Restarted own) = 3

-- its first word says so
abbrev ambiguity_of_word : List ℕ → ℕ
ambiguity_of_word w = if bytes_eq w (codes "snapshot") then 1 else (if bytes_eq w (codes "removed") then 2 else 3)

ambiguity_kind_known : (a : Ambiguity) → ambiguity_of_word (first_of (ambiguity_words a)) ≡ ambiguity_kind a
ambiguity_kind_known (Snapshot own passed) = refl
ambiguity_kind_known (Removed own) = refl
ambiguity_kind_known (Restarted own) = refl

ambiguities_alike : (a b : Ambiguity) → FitsAmbiguity a → FitsAmbiguity b → ambiguity_kind a ≡ ambiguity_kind b → ambiguity_words a ≡ ambiguity_words b → a ≡ b
ambiguities_alike (Snapshot k l) (Snapshot m n) ha hb kind same =
    let own = number_same k m ha.0 hb.0 (cc) in
    let passed = number_same l n ha.1 hb.1 (cc) in
    cc
ambiguities_alike (Removed m) (Removed n) ha hb kind same = ap Removed (number_same m n ha hb (cc))
ambiguities_alike (Restarted m) (Restarted n) ha hb kind same = ap Restarted (number_same m n ha hb (cc))
ambiguities_alike a b ha hb kind same = absurd (omega arith)

ambiguities_by_words : (a b : Ambiguity) → FitsAmbiguity a → FitsAmbiguity b → ambiguity_words a ≡ ambiguity_words b → a ≡ b
ambiguities_by_words a b ha hb same =
    ambiguities_alike a b ha hb (sym (ambiguity_kind_known a) ∙ ap (λ ws. ambiguity_of_word (first_of ws)) same ∙ ambiguity_kind_known b) same

abbrev pub end_words : End → List (List ℕ)
end_words (ends.Outcome (Success reply)) = codes "ok" ∷ reply_words reply
end_words (ends.Outcome (Refused refusal)) = codes "refused" ∷ refusal_words refusal
end_words (ends.Outcome (Ambiguous ambiguity)) = codes "ambiguous" ∷ ambiguity_words ambiguity
end_words (ends.Outcome Pending) = codes "pending" ∷ []
end_words (ends.Tries last) = codes "refused" ∷ codes "tries" ∷ refusal_words last
end_words ends.Unsent = codes "unsent" ∷ []

pub end_spoken : (e : End) → end_text e ≡ spoken (end_words e)
end_spoken (ends.Outcome (Success reply)) =
    ap (λ t. codes "ok " ++ t) (reply_spoken reply) ∙ sym (spoken_append (codes "ok" ∷ []) (reply_words reply) refl (reply_are_some reply))
end_spoken (ends.Outcome (Refused refusal)) =
    ap (λ t. codes "refused " ++ t) (refusal_spoken refusal) ∙ sym (spoken_append (codes "refused" ∷ []) (refusal_words refusal) refl (refusal_are_some refusal))
end_spoken (ends.Outcome (Ambiguous ambiguity)) =
    ap (λ t. codes "ambiguous " ++ t) (ambiguity_spoken ambiguity) ∙ sym (spoken_append (codes "ambiguous" ∷ []) (ambiguity_words ambiguity) refl (ambiguity_are_some ambiguity))
end_spoken (ends.Outcome Pending) = refl
end_spoken (ends.Tries last) =
    ap (λ t. codes "refused tries " ++ t) (refusal_spoken last)
    ∙ sym (spoken_append (codes "refused" ∷ codes "tries" ∷ []) (refusal_words last) refl (refusal_are_some last))
end_spoken ends.Unsent = refl

pub end_are_words : (e : End) → FitsEnd e → AreWords (end_words e)
end_are_words (ends.Outcome (Success reply)) h = (literal_word (codes "ok") refl, reply_are_words reply h)
end_are_words (ends.Outcome (Refused refusal)) h = (literal_word (codes "refused") refl, refusal_are_words refusal h)
end_are_words (ends.Outcome (Ambiguous ambiguity)) h = (literal_word (codes "ambiguous") refl, ambiguity_are_words ambiguity h)
end_are_words (ends.Outcome Pending) h = (literal_word (codes "pending") refl, tt)
end_are_words (ends.Tries last) h = (literal_word (codes "refused") refl, (literal_word (codes "tries") refl, refusal_are_words last h))
end_are_words ends.Unsent h = (literal_word (codes "unsent") refl, tt)

-- which end it is
abbrev end_kind : End → ℕ
end_kind (ends.Outcome (Success reply)) = 1
end_kind (ends.Outcome (Refused refusal)) = 2
end_kind (ends.Outcome (Ambiguous ambiguity)) = 3
end_kind (ends.Outcome Pending) = 5
end_kind (ends.Tries last) = 6
end_kind ends.Unsent = 7

-- its first two words say so
abbrev kind_of_words : List ℕ → List ℕ → ℕ
kind_of_words w v =
    if bytes_eq w (codes "ok") then 1
    else (if bytes_eq w (codes "refused") then (if bytes_eq v (codes "tries") then 6 else 2)
    else (if bytes_eq w (codes "ambiguous") then 3
    else (if bytes_eq w (codes "pending") then 5
    else (if bytes_eq w (codes "unsent") then 7
    else 0))))

abbrev second_of : List (List ℕ) → List ℕ
second_of [] = []
second_of (w ∷ ws) = first_of ws

abbrev kind_in : List (List ℕ) → ℕ
kind_in ws = kind_of_words (first_of ws) (second_of ws)

no_tries : (r : Refusal) → kind_in (codes "refused" ∷ refusal_words r) ≡ 2
no_tries NoReplica = refl
no_tries (NotLeaseHolder lease) = refl
no_tries (RangeMismatch desc) = refl
no_tries (Latched by held) = refl
no_tries (ConditionFailed actual) = refl
no_tries (IsText key) = refl
no_tries (Overflow actual) = refl
no_tries (Short actual) = refl
no_tries (TooWide count) = refl
no_tries NotInside = refl
no_tries (SplitLimit level) = refl

end_kind_known : (e : End) → kind_in (end_words e) ≡ end_kind e
end_kind_known (ends.Outcome (Success reply)) = refl
end_kind_known (ends.Outcome (Refused refusal)) = no_tries refusal
end_kind_known (ends.Outcome (Ambiguous ambiguity)) = refl
end_kind_known (ends.Outcome Pending) = refl
end_kind_known (ends.Tries last) = refl
end_kind_known ends.Unsent = refl

below_six : (o : Outcome) → end_kind (ends.Outcome o) < 6
below_six (Success reply) = lit< tt
below_six (Refused refusal) = lit< tt
below_six (Ambiguous ambiguity) = lit< tt
below_six Pending = lit< tt

ends_alike : (a b : End) → FitsEnd a → FitsEnd b → end_kind a ≡ end_kind b → end_words a ≡ end_words b → end_in_text a ≡ end_in_text b
ends_alike (ends.Outcome (Success r)) (ends.Outcome (Success s)) ha hb kind same = let e = replies_by_words r s ha hb (cc) in cc
ends_alike (ends.Outcome (Refused p)) (ends.Outcome (Refused q)) ha hb kind same = let e = refusals_by_words p q ha hb (cc) in cc
ends_alike (ends.Outcome (Ambiguous p)) (ends.Outcome (Ambiguous q)) ha hb kind same = let e = ambiguities_by_words p q ha hb (cc) in cc
ends_alike (ends.Outcome Pending) (ends.Outcome Pending) ha hb kind same = refl
ends_alike (ends.Tries p) (ends.Tries q) ha hb kind same = let e = refusals_by_words p q ha hb (cc) in cc
ends_alike ends.Unsent ends.Unsent ha hb kind same = refl
ends_alike (ends.Outcome o) (ends.Outcome p) ha hb kind same = absurd (omega arith)
ends_alike (ends.Outcome o) (ends.Tries q) ha hb kind same = absurd (omega (arith, below_six o))
ends_alike (ends.Outcome o) ends.Unsent ha hb kind same = absurd (omega (arith, below_six o))
ends_alike (ends.Tries p) (ends.Outcome o) ha hb kind same = absurd (omega (arith, below_six o))
ends_alike (ends.Tries p) ends.Unsent ha hb kind same = absurd (omega arith)
ends_alike ends.Unsent (ends.Outcome o) ha hb kind same = absurd (omega (arith, below_six o))
ends_alike ends.Unsent (ends.Tries q) ha hb kind same = absurd (omega arith)

pub ends_by_words : (a b : End) → FitsEnd a → FitsEnd b → end_words a ≡ end_words b → end_in_text a ≡ end_in_text b
ends_by_words a b ha hb same = ends_alike a b ha hb (sym (end_kind_known a) ∙ ap kind_in same ∙ end_kind_known b) same

-- ends with one text are told alike
pub one_end : (a b : End) → FitsEnd a → FitsEnd b → end_text a ≡ end_text b → end_in_text a ≡ end_in_text b
one_end a b ha hb same =
    ends_by_words a b ha hb (same_words (end_words a) (end_words b) (end_are_words a ha) (end_are_words b hb) (sym (end_spoken a) ∙ same ∙ end_spoken b))
