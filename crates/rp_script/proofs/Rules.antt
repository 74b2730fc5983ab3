-- The rules on the first word of a line, and the causes of its refusals.
use Rattle.std.proofs.Common.{◌≡◌, ◌≢◌, ◌⊎◌, inl, inr, ℕ, ◌+◌, ◌&&◌, Bool, true, false, List, [], ◌∷◌, Option, Some, None, Result, Ok, Err, refl, ap, ◌∙◌, sym, subst, arith}
use Rattle.std.specs.Prelude.{IfSome, IfOk, IsSome, IsNone, if◌then◌else◌}
use Rattle.rp_script.specs.Keywords.{is_barred_in_race, keyword_of}
use Rattle.rp_script.specs.Readers.{bad, bad_word}
use Rattle.rp_request.specs.Fits.{FitsRequest}
use Rattle.rp_request.specs.declared.requests.Request.{Request}
use Rattle.rp_script.specs.Requests.{request}
use Rattle.rp_script.specs.Wanted.{request as wanted_request}
use Rattle.rp_script.specs.Forms.{form}
use Rattle.rp_script.specs.Bounds.{IsFirst, Fits, FollowsIn, Follows}
use Rattle.rp_script.specs.Seen.{Seen, bad_byte_of, begins_comment, skipped, unless_bad, placed_by, placed, said}
use Rattle.rp_script.specs.Causes.{Refuses, wants_in, IsRule, IsTakenWord, IsRefusal, RefusedExactly, IsLineRefusal, LinesRefusedExactly, RequestsRefusedExactly}
use Rattle.rp_script.specs.declared.faults.BadWord.{BadWord}
use Rattle.rp_script.specs.declared.faults.LineKind.{LineKind}
use Rattle.rp_script.specs.declared.faults.LineKind.TheVariants as kinds
use Rattle.rp_script.specs.declared.keywords.Keyword.{Keyword}
use Rattle.rp_script.specs.declared.keywords.Keyword.TheVariants as keywords
use Rattle.rp_script.specs.declared.lines.ScriptLine.{ScriptLine}
use Rattle.rp_script.proofs.FirstWrong.{first_wrong, refuses_first, first_refused}
use Rattle.rp_script.proofs.Taking.{Agrees, reads_request, reads_cluster, IsLater, reads_form}

abbrev is_cluster : Keyword → Bool
is_cluster keywords.Cluster = true
is_cluster k = false

not_cluster : (k : Keyword) → is_cluster k ≡ false → k ≢ keywords.Cluster
not_cluster k other e = let same : is_cluster k ≡ true = ap is_cluster e in cc

if_true : {A : Type 0} (v : Bool) (x y : A) → v ≡ true → (if v then x else y) ≡ x
if_true true x y e = refl
if_true false x y e = absurd (cc)

if_false : {A : Type 0} (v : Bool) (x y : A) → v ≡ false → (if v then x else y) ≡ y
if_false false x y e = refl
if_false true x y e = absurd (cc)

both : (a b : Bool) → a ≡ true → b ≡ true → (a && b) ≡ true
both true true e f = refl
both true false e f = f
both false b e f = e

left : (a b : Bool) → (a && b) ≡ true → a ≡ true
left true b e = refl
left false b e = e

right : (a b : Bool) → (a && b) ≡ true → b ≡ true
right true true e = refl
right true false e = e
right false b e = absurd (cc)

-- each rule refuses
no_cluster : (o : Option ℕ) (s : Seen) (k : Keyword) (words : List (List ℕ)) → IsNone o → k ≢ keywords.Cluster → placed_by o s k words ≡ bad 1 kinds.NoCluster
no_cluster None s keywords.Cluster words none other = absurd (other refl)
no_cluster None s k words none other = refl
no_cluster (Some n) s k words none other = absurd (cc)

second_cluster : (o : Option ℕ) (s : Seen) (words : List (List ℕ)) → IsSome o → placed_by o s keywords.Cluster words ≡ bad 1 kinds.SecondCluster
second_cluster None s words some = absurd (cc)
second_cluster (Some n) s words some = refl

after_end : (o : Option ℕ) (s : Seen) (k : Keyword) (words : List (List ℕ)) → IsSome o → k ≢ keywords.Cluster → s.ended ≡ true → placed_by o s k words ≡ bad 1 kinds.AfterEnd
after_end None s k words some other ended = absurd (cc)
after_end (Some n) s keywords.Cluster words some other ended = absurd (other refl)
after_end (Some n) s k words some other ended = if_true s.ended _ _ ended

not_in_race : (o : Option ℕ) (s : Seen) (k : Keyword) (words : List (List ℕ)) → IsSome o → s.ended ≡ false → s.race ≡ true → is_barred_in_race k ≡ true
    → placed_by o s k words ≡ bad 1 kinds.NotInRace
not_in_race None s k words some going race barred = absurd (cc)
not_in_race (Some n) s keywords.Cluster words some going race barred = absurd (cc)
not_in_race (Some n) s k words some going race barred =
    if_false s.ended _ _ going ∙ if_true (s.race && is_barred_in_race k) _ _ (both s.race (is_barred_in_race k) race barred)

unknown : (o : Option ℕ) (s : Seen) (words : List (List ℕ)) → IsSome o → s.ended ≡ false → placed_by o s keywords.Unknown words ≡ bad 1 kinds.UnknownWord
unfolding form
unknown None s words some going = absurd (cc)
unknown (Some n) s words some going = if_false s.ended _ _ going ∙ if_false (s.race && false) _ _ (none s.race)
  where
    none : (v : Bool) → (v && false) ≡ false
    none true = refl
    none false = refl

pub rules_refuse : (s : Seen) (k : Keyword) (words : List (List ℕ)) (kind : LineKind) → IsRule s k kind → placed s k words ≡ bad 1 kind
unfolding placed
rules_refuse s k words kinds.NoCluster h = no_cluster s.nodes s k words h.0 h.1
rules_refuse s k words kinds.SecondCluster h =
    subst (λ (v : Keyword). placed_by s.nodes s v words ≡ bad 1 kinds.SecondCluster) (sym h.1) (second_cluster s.nodes s words h.0)
rules_refuse s k words kinds.AfterEnd h = after_end s.nodes s k words h.0 h.1 h.2
rules_refuse s k words kinds.NotInRace h = not_in_race s.nodes s k words h.0 h.1 h.2 h.3
rules_refuse s k words kinds.UnknownWord h =
    subst (λ (v : Keyword). placed_by s.nodes s v words ≡ bad 1 kinds.UnknownWord) (sym h.2) (unknown s.nodes s words h.0 h.1)
rules_refuse s k words kind h = absurd h

-- what is read of a line that begins so: a rule refuses its first word, or none does and the words are read by their places
data Read (s : Seen) (k : Keyword) (words : List (List ℕ)) (r : Result ScriptLine BadWord) : Type 0 where
  ruled : (kind : LineKind) → IsRule s k kind → Read s k words r
  taken : IsTakenWord s k → Agrees (Follows s) r (first_wrong 2 (wants_in s.nodes s.commands k words) words) → Read s k words r

some_of : (o : Option ℕ) (n : ℕ) → o ≡ Some n → IsSome o
some_of o n is = subst (λ v. IsSome v) (sym is) refl

none_of : (o : Option ℕ) → o ≡ None → IsNone o
none_of o is = subst (λ v. IsNone v) (sym is) refl

not_some : (o : Option ℕ) → o ≡ None → IsSome o → ⊥
not_some None is h = absurd (cc)
not_some (Some n) is h = absurd (cc)

not_none : (o : Option ℕ) (n : ℕ) → o ≡ Some n → IsNone o → ⊥
not_none None n is h = absurd (cc)
not_none (Some m) n is h = absurd (cc)

abbrev is_unknown : Keyword → Bool
is_unknown keywords.Unknown = true
is_unknown k = false

not_unknown : (k : Keyword) → is_unknown k ≡ false → k ≢ keywords.Unknown
not_unknown k known e = let same : is_unknown k ≡ true = ap is_unknown e in cc

-- the first line
first_taken : (s : Seen) → s.nodes ≡ None → IsTakenWord s keywords.Cluster
first_taken s is kinds.NoCluster h = h.1 refl
first_taken s is kinds.SecondCluster h = not_some s.nodes is h.0
first_taken s is kinds.AfterEnd h = h.1 refl
first_taken s is kinds.NotInRace h = not_some s.nodes is h.0
first_taken s is kinds.UnknownWord h = not_some s.nodes is h.0
first_taken s is kind h = h

-- a later line
later_taken : (s : Seen) (k : Keyword) (n : ℕ) → s.nodes ≡ Some n → k ≢ keywords.Cluster → k ≢ keywords.Unknown → s.ended ≡ false
    → (s.race && is_barred_in_race k) ≡ false → IsTakenWord s k
later_taken s k n is other known going free kinds.NoCluster h = not_none s.nodes n is h.0
later_taken s k n is other known going free kinds.SecondCluster h = other h.1
later_taken s k n is other known going free kinds.AfterEnd h = absurd (let ended : s.ended ≡ true = h.2 in cc)
later_taken s k n is other known going free kinds.NotInRace h = absurd (let barred : (s.race && is_barred_in_race k) ≡ true = both s.race _ h.2 h.3 in cc)
later_taken s k n is other known going free kinds.UnknownWord h = known h.2
later_taken s k n is other known going free kind h = h

agrees_more : {A : Type 0} (P Q : A → Type 0) (r : Result A BadWord) (first : Option BadWord) → ((x : A) → P x → Q x) → Agrees P r first → Agrees Q r first
agrees_more P Q (Ok x) first more h = (h.0, more x h.1)
agrees_more P Q (Err e) first more h = h

abbrev AgreesAt : Seen → Option ℕ → Keyword → List (List ℕ) → Result ScriptLine BadWord → Type 0
AgreesAt s o k words r = Agrees (FollowsIn o s.ended s.commands) r (first_wrong 2 (wants_in o s.commands k words) words)

read_words : (s : Seen) (k : Keyword) (n : ℕ) (words : List (List ℕ)) → s.nodes ≡ Some n → s.ended ≡ false → IsLater k
    → AgreesAt s s.nodes k words (form k n s.commands words)
read_words s k n words is going later =
    subst (λ o. AgreesAt s o k words (form k n s.commands words)) (sym is)
    (agrees_more (Fits n s.commands) (FollowsIn (Some n) s.ended s.commands) (form k n s.commands words) _ (λ l fits. (going, fits)) ((reads_form k n s.commands later).agrees words))

read_known : (s : Seen) (k : Keyword) (n : ℕ) (words : List (List ℕ)) → s.nodes ≡ Some n → s.ended ≡ false → (s.race && is_barred_in_race k) ≡ false
    → is_cluster k ≡ false → Read s k words (form k n s.commands words)
read_known s keywords.Cluster n words is going free other = absurd (cc)
read_known s keywords.Unknown n words is going free other = ruled kinds.UnknownWord (some_of s.nodes n is, going, refl)
read_known s k n words is going free other =
    taken (later_taken s k n is (not_cluster k refl) (not_unknown k refl) going free) (read_words s k n words is going tt)

read_later : (s : Seen) (k : Keyword) (n : ℕ) (words : List (List ℕ)) → s.nodes ≡ Some n → is_cluster k ≡ false
    → (ended : Bool) → s.ended ≡ ended → (barred : Bool) → (s.race && is_barred_in_race k) ≡ barred
    → Read s k words (if ended then bad 1 kinds.AfterEnd else (if barred then bad 1 kinds.NotInRace else form k n s.commands words))
read_later s k n words is other true ended barred b = ruled kinds.AfterEnd (some_of s.nodes n is, not_cluster k other, ended)
read_later s k n words is other false going true b =
    ruled kinds.NotInRace (some_of s.nodes n is, going, left s.race (is_barred_in_race k) b, right s.race (is_barred_in_race k) b)
read_later s k n words is other false going false b = read_known s k n words is going b other

read_by : (o : Option ℕ) (s : Seen) (k : Keyword) (words : List (List ℕ)) → s.nodes ≡ o → Read s k words (placed_by o s k words)
read_by None s keywords.Cluster words is =
    taken (first_taken s is) (subst (λ o. AgreesAt s o keywords.Cluster words (placed_by None s keywords.Cluster words)) (sym is)
    ((reads_cluster 0 s.commands).agrees words))
read_by None s k words is = ruled kinds.NoCluster (none_of s.nodes is, not_cluster k refl)
read_by (Some n) s keywords.Cluster words is = ruled kinds.SecondCluster (some_of s.nodes n is, refl)
read_by (Some n) s k words is = read_later s k n words is refl s.ended refl (s.race && is_barred_in_race k) refl

read_line : (s : Seen) (k : Keyword) (words : List (List ℕ)) → Read s k words (placed s k words)
unfolding placed
read_line s k words = read_by s.nodes s k words refl

-- each refusal comes exactly where the causes say
same_bad : {A : Type 0} (d e : BadWord) → (let r : Result A BadWord = Err d in r) ≡ Err e → d ≡ e
same_bad d e h = cc

caused : (s : Seen) (k : Keyword) (words : List (List ℕ)) (e : BadWord) (r : Result ScriptLine BadWord) → placed s k words ≡ r → Read s k words r
    → r ≡ Err e → IsRefusal s k words e
caused s k words e r is (ruled kind h) err =
    let same : bad_word 1 kind ≡ e = same_bad (bad_word 1 kind) e (sym (rules_refuse s k words kind h) ∙ is ∙ err) in
    inl (ap (λ (d : BadWord). d.word) (sym same), subst (λ (d : BadWord). IsRule s k d.kind) same h)
caused s k words e (Ok line) is (taken t agrees) err = absurd (cc)
caused s k words e (Err d) is (taken t agrees) err =
    let first : first_wrong 2 (wants_in s.nodes s.commands k words) words ≡ Some e = agrees ∙ ap Some (same_bad d e err) in
    inr (t, subst (λ o. IfSome o (Refuses 2 (wants_in s.nodes s.commands k words) words)) first (refuses_first 2 (wants_in s.nodes s.commands k words) words))

one_first : (o : Option BadWord) (d e : BadWord) → o ≡ Some d → o ≡ Some e → d ≡ e
one_first o d e h g = cc

by_words : (s : Seen) (k : Keyword) (words : List (List ℕ)) (e : BadWord) (r : Result ScriptLine BadWord) → Read s k words r → IsTakenWord s k
    → Refuses 2 (wants_in s.nodes s.commands k words) words e → r ≡ Err e
by_words s k words e r (ruled kind h) t refuses = absurd (t kind h)
by_words s k words e (Ok line) (taken _ agrees) t refuses =
    let first : first_wrong 2 (wants_in s.nodes s.commands k words) words ≡ Some e = first_refused 2 _ words refuses.0 e refuses.1 refuses.2 in
    absurd (let none : first_wrong 2 (wants_in s.nodes s.commands k words) words ≡ None = agrees.0 in cc)
by_words s k words e (Err d) (taken _ agrees) t refuses =
    ap (λ (x : BadWord). let r : Result ScriptLine BadWord = Err x in r) (one_first _ d e agrees (first_refused 2 _ words refuses.0 e refuses.1 refuses.2))

refused : (s : Seen) (k : Keyword) (words : List (List ℕ)) (e : BadWord) → IsRefusal s k words e → placed s k words ≡ Err e
refused s k words e (inl h) =
    rules_refuse s k words e.kind h.1 ∙ ap (λ (n : ℕ). let r : Result ScriptLine BadWord = Err (bad_word n e.kind) in r) (sym h.0)
refused s k words e (inr h) = by_words s k words e (placed s k words) (read_line s k words) h.0 h.1

pub refused_exactly : RefusedExactly
refused_exactly s k words e = (caused s k words e (placed s k words) refl (read_line s k words), refused s k words e)

-- the same of a whole line
abbrev IsByteOr : Bool → Option ℕ → BadWord → Type 0 → Type 0
IsByteOr comment byte e Later = ((at : ℕ) × (byte ≡ Some at) × (e ≡ bad_word (if comment then 0 else at) kinds.BadByte)) ⊎ (IsNone byte × (comment ≡ false) × Later)

line_caused : (comment : Bool) (byte : Option ℕ) (r : Result ScriptLine BadWord) (e : BadWord) (Later : Type 0) → (r ≡ Err e → Later)
    → (if comment then skipped byte else unless_bad byte r) ≡ Err e → IsByteOr comment byte e Later
line_caused true None r e Later f h = absurd (cc)
line_caused true (Some at) r e Later f h = inl (at, refl, sym (same_bad (bad_word 0 kinds.BadByte) e h))
line_caused false None (Ok line) e Later f h = absurd (cc)
line_caused false None (Err d) e Later f h =
    inr (refl, refl, f (ap (λ (x : BadWord). let r : Result ScriptLine BadWord = Err x in r) (same_bad d e h)))
line_caused false (Some at) r e Later f h = inl (at, refl, sym (same_bad (bad_word at kinds.BadByte) e h))

byte_refused : (comment : Bool) (byte : Option ℕ) (at : ℕ) (r : Result ScriptLine BadWord) → byte ≡ Some at
    → (if comment then skipped byte else unless_bad byte r) ≡ Err (bad_word (if comment then 0 else at) kinds.BadByte)
byte_refused true None at r is = absurd (cc)
byte_refused false None at r is = absurd (cc)
byte_refused true (Some n) at r is = refl
byte_refused false (Some n) at r is =
    ap (λ (o : Option ℕ). unless_bad o r) is

err_of : (e : BadWord) → Result (Option ScriptLine) BadWord
err_of e = Err e

line_refused : (comment : Bool) (byte : Option ℕ) (r : Result ScriptLine BadWord) (e : BadWord) (Later : Type 0) → (Later → r ≡ Err e)
    → IsByteOr comment byte e Later → (if comment then skipped byte else unless_bad byte r) ≡ Err e
line_refused comment byte r e Later f (inl h) =
    byte_refused comment byte h.0 r h.1 ∙ ap (λ (x : BadWord). let r : Result (Option ScriptLine) BadWord = Err x in r) (sym h.2)
line_refused true byte r e Later f (inr h) = absurd (let no_comment : true ≡ false = h.1 in cc)
line_refused false None r e Later f (inr h) = ap (λ x. unless_bad None x) (f h.2)
line_refused false (Some at) r e Later f (inr h) = absurd (not_none (Some at) at refl h.0)

pub lines_refused_exactly : LinesRefusedExactly
unfolding said
lines_refused_exactly s [] e = (λ h. absurd (cc), λ h. absurd h)
lines_refused_exactly s (first ∷ words) e = (
  line_caused (begins_comment first) (bad_byte_of (first ∷ words)) (placed s (keyword_of first) words) e (IsRefusal s (keyword_of first) words e)
      ((refused_exactly s (keyword_of first) words e).0),
  line_refused (begins_comment first) (bad_byte_of (first ∷ words)) (placed s (keyword_of first) words) e (IsRefusal s (keyword_of first) words e)
      ((refused_exactly s (keyword_of first) words e).1),
)

-- a line that is taken may follow those before it
takes : (s : Seen) (k : Keyword) (words : List (List ℕ)) (r : Result ScriptLine BadWord) → placed s k words ≡ r → Read s k words r → IfOk r (Follows s)
takes s k words (Err e) is read = tt
takes s k words (Ok line) is (ruled kind h) =
    absurd (let refuses : placed s k words ≡ bad 1 kind = rules_refuse s k words kind h in cc)
takes s k words (Ok line) is (taken t agrees) = agrees.1

pub placed_follows : (s : Seen) (k : Keyword) (words : List (List ℕ)) → IfOk (placed s k words) (Follows s)
placed_follows s k words = takes s k words (placed s k words) refl (read_line s k words)

-- the words of a request alone
request_caused : (words : List (List ℕ)) (e : BadWord) (r : Result Request BadWord) → Agrees FitsRequest r (first_wrong 5 (wanted_request words) words) → r ≡ Err e
    → Refuses 5 (wanted_request words) words e
request_caused words e (Ok q) agrees err = absurd (cc)
request_caused words e (Err d) agrees err =
    subst (λ o. IfSome o (Refuses 5 (wanted_request words) words)) (agrees ∙ ap Some (same_bad d e err)) (refuses_first 5 (wanted_request words) words)

request_refused : (words : List (List ℕ)) (e : BadWord) (r : Result Request BadWord) → Agrees FitsRequest r (first_wrong 5 (wanted_request words) words)
    → Refuses 5 (wanted_request words) words e → r ≡ Err e
request_refused words e (Ok q) agrees refuses =
    let first : first_wrong 5 (wanted_request words) words ≡ Some e = first_refused 5 (wanted_request words) words refuses.0 e refuses.1 refuses.2 in
    absurd (let none : first_wrong 5 (wanted_request words) words ≡ None = agrees.0 in cc)
request_refused words e (Err d) agrees refuses =
    ap (λ (x : BadWord). let r : Result Request BadWord = Err x in r) (one_first (first_wrong 5 (wanted_request words) words) d e agrees (first_refused 5 (wanted_request words) words refuses.0 e refuses.1 refuses.2))

pub requests_refused_exactly : RequestsRefusedExactly
requests_refused_exactly words e = (request_caused words e (request words) (reads_request.agrees words), request_refused words e (request words) (reads_request.agrees words))

pub request_fits : (words : List (List ℕ)) → IfOk (request words) FitsRequest
request_fits words = fits (request words) (reads_request.agrees words)
  where
    fits : (r : Result Request BadWord) → Agrees FitsRequest r (first_wrong 5 (wanted_request words) words) → IfOk r FitsRequest
    fits (Ok q) h = h.1
    fits (Err e) h = tt
