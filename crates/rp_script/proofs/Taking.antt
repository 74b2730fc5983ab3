-- What each form of line takes, and what it refuses.
use Rattle.std.proofs.Common.{◌≡◌, ℕ, suc, ◌+◌, ◌-◌, ◌^◌, ◌&&◌, ◌≤◌, ◌<◌, ◌==◌, Bool, true, false, List, [], ◌∷◌, drop, Option, None, Some, Result, Ok, Err, refl, ap, ◌∙◌, sym, subst, arith, nat_le, nat_lt}
use Rattle.std.specs.Prelude.{IfSome, codes, if◌then◌else◌}
use Rattle.std.specs.Str.{bytes_eq}
use Rattle.std.proofs.lemmas.Bool.Decides.{nat_tests}
use Rattle.rp_base.specs.Numbers.{number_of, u64_of}
use Rattle.rp_base.specs.Keys.{key_of, end_of, IsKey}
use Rattle.rp_base.specs.ClientCounts.{count_of}
use Rattle.rp_base.specs.ShortTexts.{text_of, IsText}
use Rattle.rp_base.specs.Values.{IsValue}
use Rattle.rp_base.specs.Spans.{key_span_by}
use Rattle.rp_base.proofs.TextLaws.{text_as_read}
use Rattle.rp_base.specs.declared.BadKey.{BadKey}
use Rattle.rp_base.specs.declared.BadText.{BadText}
use Rattle.rp_base.specs.declared.Value.{Value}
use Rattle.rp_base.specs.declared.Value.TheVariants as values
use Rattle.rp_request.specs.Fits.{FitsRequest, FitsOption, FitsEnd}
use Rattle.rp_base.specs.declared.KeySpan.{KeySpan}
use Rattle.rp_request.specs.declared.requests.Request.{Request}
use Rattle.rp_script.specs.Keywords.{request_word_of}
use Rattle.rp_script.specs.Readers.{Reader, bad, bad_word, going_on, behind, ◌>>=◌, whole, word_at, in_range, number_in, number_at, sent_of, seq_at, as_key, key_in, key_at, as_text, as_number, value_in, value_at, given, expect_at, bound_in, as_span, spanned, span_at}
use Rattle.rp_script.specs.Requests.{put, add, cput, del, wipe, moving, split, request_of, request}
use Rattle.rp_script.specs.Forms.{cluster, send, admit, again, draw, publish, ask, transfer, flush, apply, cut, remove, restart, tick, deliver, peek, loss, settle, form}
use Rattle.rp_script.specs.Bounds.{IsFromTo, Fits, IsFirst}
use Rattle.rp_script.specs.Wanted.{Wanted, Number, CommandNumber, KeyName, ValueWord, Expected, EndFrom, RequestName, request_wants, request as wanted_request, wants}
use Rattle.rp_script.proofs.Wrong.{NumberView, none, fits, large, number_view, kind_in, end_wrong, name_wrong, wrong}
use Rattle.rp_script.proofs.FirstWrong.{or_behind, first_wrong}
use Rattle.rp_script.specs.declared.faults.BadWord.{BadWord}
use Rattle.rp_script.specs.declared.faults.LineKind.{LineKind}
use Rattle.rp_script.specs.declared.faults.LineKind.TheVariants as kinds
use Rattle.rp_script.specs.declared.keywords.Keyword.{Keyword}
use Rattle.rp_script.specs.declared.keywords.Keyword.TheVariants as keywords
use Rattle.rp_script.specs.declared.keywords.RequestWord.{RequestWord}
use Rattle.rp_script.specs.declared.keywords.RequestWord.TheVariants as requests
use Rattle.rp_script.specs.declared.lines.ScriptLine.{ScriptLine}

-- what is taken is so, and what is refused is the first that is wrong
abbrev pub Agrees : {A : Type 0} → (A → Type 0) → Result A BadWord → Option BadWord → Type 0
Agrees P (Ok x) first = (first ≡ None) × P x
Agrees P (Err e) first = first ≡ Some e

-- a reader of the words from word `at` on, of which this is wanted
pub record Reads {A : Type 0} (at : ℕ) (want : List (List ℕ) → List Wanted) (reader : Reader A) (P : A → Type 0) : Type 0 where
  pub agrees : (words : List (List ℕ)) → Agrees P (reader words) (first_wrong at (want words) words)

-- the same of one word
abbrev pub Word : {A : Type 0} → ℕ → (A → Type 0) → Result A BadWord → Option LineKind → Type 0
Word at Q (Ok x) kind = (kind ≡ None) × Q x
Word at Q (Err e) kind = (e.word ≡ at) × (kind ≡ Some e.kind)

one_word : {A B : Type 0} (at : ℕ) (Q : A → Type 0) (f : A → Reader B) (P : B → Type 0) (words : List (List ℕ)) (r : Result A BadWord) (kind : Option LineKind)
    (later : Option BadWord) → Word at Q r kind → ((x : A) → Q x → Agrees P (f x words) later) → Agrees P (going_on r f words) (or_behind at kind later)
one_word at Q f P words (Ok x) kind later h goes = subst (λ o. Agrees P (f x words) (or_behind at o later)) (sym h.0) (goes x h.1)
one_word at Q f P words (Err e) kind later h goes = ap (λ o. or_behind at o later) h.1 ∙ ap (λ n. Some (bad_word n e.kind)) (sym h.0)

word_reads : {A B : Type 0} (at : ℕ) (read : List ℕ → Result A BadWord) (f : A → Reader B) (w : Wanted) (Q : List ℕ → A → Type 0)
    (rest : List (List ℕ) → List Wanted) (P : B → Type 0) → ((word : List ℕ) → Word at (Q word) (read word) (wrong w word))
    → ((word : List ℕ) (x : A) → Q word x → Reads (at + 1) (λ words. rest (word ∷ words)) (f x) P)
    → (words : List (List ℕ)) → Agrees P ((word_at at read >>= f) words) (first_wrong at (w ∷ rest words) words)
word_reads at read f w Q rest P reads goes [] = refl
word_reads at read f w Q rest P reads goes (word ∷ words) =
    one_word at (Q word) f P words (read word) (wrong w word) (first_wrong (at + 1) (rest (word ∷ words)) words) (reads word)
    (λ x q. (goes word x q).agrees words)

pub reads_whole : {A : Type 0} (at : ℕ) (x : A) (P : A → Type 0) → P x → Reads at (λ words. []) (whole at x) P
reads_whole at x P p = record { agrees = ends }
  where
    ends : (words : List (List ℕ)) → Agrees P (whole at x words) (first_wrong at [] words)
    ends [] = (refl, p)
    ends (word ∷ words) = refl

-- numbers
abbrev IsNumberFrom : ℕ → ℕ → List ℕ → ℕ → Type 0
IsNumberFrom low high word n = (number_of word ≡ n) × IsFromTo low high n

ranged : (at low high : ℕ) (word : List ℕ) (v : Bool) → (nat_le low (number_of word) && nat_le (number_of word) high) ≡ v
    → Word at (IsNumberFrom low high word) (let r : Result ℕ BadWord = if v then Ok (number_of word) else bad at kinds.OutOfRange in r)
    (kind_in (let r : Result ℕ BadWord = if v then Ok (number_of word) else bad 0 kinds.OutOfRange in r))
ranged at low high word true test =
    let from : low ≤ number_of word = grind (arith, nat_tests) in let to : number_of word ≤ high = grind (arith, nat_tests) in (refl, (refl, (from, to)))
ranged at low high word false test = (refl, refl)

number_word : (at low high : ℕ) (word : List ℕ) → NumberView word → Word at (IsNumberFrom low high word) (number_in at low high word) (wrong (Number low high) word)
unfolding number_in
number_word at low high word (none stops e) = simp e (refl, refl)
number_word at low high word (fits is small e) = simp e (ranged at low high word _ refl)
number_word at low high word (large is big e) = simp e (refl, refl)

reads_number : {B : Type 0} (at low high : ℕ) (f : ℕ → Reader B) (rest : List (List ℕ) → List Wanted) (P : B → Type 0)
    → ((word : List ℕ) (n : ℕ) → IsNumberFrom low high word n → Reads (at + 1) (λ words. rest (word ∷ words)) (f n) P)
    → Reads at (λ words. Number low high ∷ rest words) (number_at at low high >>= f) P
unfolding number_at
reads_number at low high f rest P goes = record {
  agrees = word_reads at (number_in at low high) f (Number low high) (IsNumberFrom low high) rest P
      (λ word. number_word at low high word (number_view word)) goes;
}

-- the number of a command
unsent : (at count : ℕ) (word : List ℕ) → 1 ≤ number_of word → (v : Bool) → nat_le (number_of word) count ≡ v
    → Word at (IsFromTo 1 count) (let r : Result ℕ BadWord = if v then Ok (number_of word) else bad at kinds.NotSent in r)
    (kind_in (let r : Result ℕ BadWord = if v then Ok (number_of word) else bad 0 kinds.NotSent in r))
unsent at count word some true test = let few : number_of word ≤ count = grind (arith, nat_tests) in (refl, (some, few))
unsent at count word some false test = (refl, refl)

command_ranged : (at count : ℕ) (word : List ℕ) (v : Bool) → (nat_le 1 (number_of word) && nat_le (number_of word) (2 ^ 64 - 1)) ≡ v
    → Word at (IsFromTo 1 count) (sent_of at count (if v then Ok (number_of word) else bad at kinds.OutOfRange))
    (kind_in (sent_of 0 count (if v then Ok (number_of word) else bad 0 kinds.OutOfRange)))
command_ranged at count word true test = let some : 1 ≤ number_of word = grind (arith, nat_tests) in unsent at count word some _ refl
command_ranged at count word false test = (refl, refl)

command_word : (at count : ℕ) (word : List ℕ) → NumberView word
    → Word at (IsFromTo 1 count) (sent_of at count (number_in at 1 (2 ^ 64 - 1) word)) (wrong (CommandNumber count) word)
unfolding number_in
command_word at count word (none stops e) = simp e (refl, refl)
command_word at count word (fits is small e) = simp e (command_ranged at count word _ refl)
command_word at count word (large is big e) = simp e (refl, refl)

reads_command : {B : Type 0} (at count : ℕ) (f : ℕ → Reader B) (rest : List (List ℕ) → List Wanted) (P : B → Type 0)
    → ((word : List ℕ) (n : ℕ) → IsFromTo 1 count n → Reads (at + 1) (λ words. rest (word ∷ words)) (f n) P)
    → Reads at (λ words. CommandNumber count ∷ rest words) (seq_at at count >>= f) P
unfolding seq_at
reads_command at count f rest P goes = record {
  agrees = word_reads at (λ word. sent_of at count (number_in at 1 (2 ^ 64 - 1) word)) f (CommandNumber count) (λ word. IsFromTo 1 count) rest P
      (λ word. command_word at count word (number_view word)) goes;
}

-- the command of a client whose word was read
reads_command_of : {B : Type 0} (at : ℕ) (commands : List ℕ) (word : List ℕ) (client : ℕ) (f : ℕ → Reader B) (P : B → Type 0) → number_of word ≡ client
    → ((n : ℕ) → IsFromTo 1 (count_of commands client) n → Reads (at + 1) (λ words. []) (f n) P)
    → Reads at (λ words. CommandNumber (count_of commands (number_of word)) ∷ []) (seq_at at (count_of commands client) >>= f) P
reads_command_of at commands word client f P same goes =
    subst (λ (n : ℕ). Reads at (λ words. CommandNumber (count_of commands n) ∷ []) (seq_at at (count_of commands client) >>= f) P) (sym same)
    (reads_command at (count_of commands client) f (λ words. []) P (λ other n h. goes n h))

-- keys
abbrev IsKeyOf : List ℕ → ℕ → Type 0
IsKeyOf word key = key_of word ≡ Ok key

key_word : (at : ℕ) (word : List ℕ) (r : Result ℕ BadKey) → key_of word ≡ r → Word at (IsKeyOf word) (as_key at r) (kind_in (as_key 0 r))
key_word at word (Ok key) is = (refl, is)
key_word at word (Err e) is = (refl, refl)

key_in_word : (at : ℕ) (word : List ℕ) → Word at (IsKeyOf word) (key_in at word) (wrong KeyName word)
unfolding key_in
key_in_word at word = key_word at word (key_of word) refl

reads_key : {B : Type 0} (at : ℕ) (f : ℕ → Reader B) (rest : List (List ℕ) → List Wanted) (P : B → Type 0)
    → ((word : List ℕ) (key : ℕ) → IsKeyOf word key → Reads (at + 1) (λ words. rest (word ∷ words)) (f key) P)
    → Reads at (λ words. KeyName ∷ rest words) (key_at at >>= f) P
unfolding key_at
reads_key at f rest P goes = record { agrees = word_reads at (key_in at) f KeyName IsKeyOf rest P (key_in_word at) goes }

-- values
is_value : (n : ℕ) → n ≤ 2 ^ 64 - 1 → n < 2 ^ 64
is_value n h = omega (arith, h)

numbered_word : (at : ℕ) (word : List ℕ) (r : Result ℕ BadWord) (kind : Option LineKind) (s : Result ℕ BadWord) → Word at (IsNumberFrom 0 (2 ^ 64 - 1) word) r (kind_in s)
    → Word at IsValue (as_number r) (kind_in (as_number s))
numbered_word at word (Ok n) kind (Ok m) h = (refl, is_value n h.1.1.1)
numbered_word at word (Ok n) kind (Err e) h = absurd (let none : Some e.kind ≡ None = h.0 in cc)
numbered_word at word (Err e) kind (Ok m) h = absurd (let none : None ≡ Some e.kind = h.1 in cc)
numbered_word at word (Err e) kind (Err d) h = h

plain_word : (at : ℕ) (word : List ℕ) → Word at IsValue (as_number (number_in at 0 (2 ^ 64 - 1) word)) (kind_in (as_number (number_in 0 0 (2 ^ 64 - 1) word)))
plain_word at word = numbered_word at word _ None _ (number_word at 0 (2 ^ 64 - 1) word (number_view word))

text_word : (at : ℕ) (bytes : List ℕ) (r : Result (List ℕ) BadText) → text_of bytes ≡ r → Word at IsValue (as_text at r) (kind_in (as_text 0 r))
text_word at bytes (Ok text) is = (refl, (text_as_read bytes text is).1)
text_word at bytes (Err e) is = (refl, refl)

begun_word : (at b : ℕ) (bytes : List ℕ) (v : Bool)
    → Word at IsValue (if v then as_text at (text_of bytes) else as_number (number_in at 0 (2 ^ 64 - 1) (b ∷ bytes)))
    (kind_in (if v then as_text 0 (text_of bytes) else as_number (number_in 0 0 (2 ^ 64 - 1) (b ∷ bytes))))
begun_word at b bytes true = text_word at bytes (text_of bytes) refl
begun_word at b bytes false = plain_word at (b ∷ bytes)

value_word : (at : ℕ) (word : List ℕ) → Word at IsValue (value_in at word) (wrong ValueWord word)
unfolding value_in
value_word at [] = plain_word at []
value_word at (b ∷ bytes) = begun_word at b bytes (b == 39)

reads_value : {B : Type 0} (at : ℕ) (f : Value → Reader B) (rest : List (List ℕ) → List Wanted) (P : B → Type 0)
    → ((word : List ℕ) (v : Value) → IsValue v → Reads (at + 1) (λ words. rest (word ∷ words)) (f v) P)
    → Reads at (λ words. ValueWord ∷ rest words) (value_at at >>= f) P
unfolding value_at
reads_value at f rest P goes = record { agrees = word_reads at (value_in at) f ValueWord (λ word. IsValue) rest P (value_word at) goes }

-- an expected value
given_word : {A : Type 0} (at : ℕ) (Q : A → Type 0) (P : Option A → Type 0) → ((x : A) → Q x → P (Some x)) → (r s : Result A BadWord) → Word at Q r (kind_in s)
    → Word at P (given r) (kind_in (given s))
given_word at Q P some (Ok x) (Ok y) h = (refl, some x h.1)
given_word at Q P some (Ok x) (Err e) h = absurd (let none : Some e.kind ≡ None = h.0 in cc)
given_word at Q P some (Err e) (Ok y) h = absurd (let none : None ≡ Some e.kind = h.1 in cc)
given_word at Q P some (Err e) (Err d) h = h

unless_word : {A : Type 0} (at : ℕ) (x : A) (Q : A → Type 0) (r s : Result A BadWord) (v : Bool) → Q x → Word at Q r (kind_in s)
    → Word at Q (if v then Ok x else r) (kind_in (if v then Ok x else s))
unless_word at x Q r s true q h = (refl, q)
unless_word at x Q r s false q h = h

reads_expected : {B : Type 0} (at : ℕ) (f : Option Value → Reader B) (rest : List (List ℕ) → List Wanted) (P : B → Type 0)
    → ((word : List ℕ) (o : Option Value) → FitsOption o → Reads (at + 1) (λ words. rest (word ∷ words)) (f o) P)
    → Reads at (λ words. Expected ∷ rest words) (expect_at at >>= f) P
unfolding expect_at
reads_expected at f rest P goes = record {
  agrees = word_reads at _ f Expected (λ word. FitsOption) rest P
      (λ word. unless_word at None FitsOption _ _ (bytes_eq word (codes "none")) tt
      (given_word at IsValue FitsOption (λ v h. h) (value_in at word) (value_in 0 word) (value_word at word))) goes;
}

-- the end of a span
end_word : (at : ℕ) (word : List ℕ) → Word at FitsEnd (bound_in at word) (kind_in (bound_in 0 word))
unfolding bound_in
end_word at word = unless_word at None FitsEnd _ _ (bytes_eq word (codes "~")) tt
    (given_word at (IsKeyOf word) FitsEnd (λ key h. (word, h)) (key_in at word) (key_in 0 word) (key_in_word at word))

abbrev IsSpanFrom : ℕ → KeySpan → Type 0
IsSpanFrom start span = (span.start ≡ start) × FitsEnd span.end

tested_span : (at start : ℕ) (end : Option ℕ) (v : Bool) (test : nat_lt start (end_of end) ≡ v) → FitsEnd end
    → Word at (IsSpanFrom start) (as_span at (key_span_by start end v test)) (kind_in (as_span 0 (key_span_by start end v test)))
tested_span at start end true test k = (refl, (refl, k))
tested_span at start end false test k = (refl, refl)

-- a word is read alike at each place
abbrev SameRead : Result (Option ℕ) BadWord → Result (Option ℕ) BadWord → Type 0
SameRead (Ok x) (Ok y) = x ≡ y
SameRead (Err e) (Err d) = Unit {0}
SameRead r s = ⊥

keys_same : (at : ℕ) (r : Result ℕ BadKey) → SameRead (given (as_key at r)) (given (as_key 0 r))
keys_same at (Ok key) = refl
keys_same at (Err e) = tt

ends_tested : (at : ℕ) (word : List ℕ) (v : Bool)
    → SameRead (if v then Ok None else given (key_in at word)) (if v then Ok None else given (key_in 0 word))
unfolding key_in
ends_tested at word true = refl
ends_tested at word false = keys_same at (key_of word)

ends_same : (at : ℕ) (word : List ℕ) → SameRead (bound_in at word) (bound_in 0 word)
unfolding bound_in
ends_same at word = ends_tested at word (bytes_eq word (codes "~"))

spanned_word : (at start : ℕ) (r s : Result (Option ℕ) BadWord) → Word at FitsEnd r (kind_in s) → SameRead r s
    → Word at (IsSpanFrom start) (spanned at start r) (kind_in (spanned 0 start s))
spanned_word at start (Ok end) (Ok other) h same =
    subst (λ (o : Option ℕ). Word at (IsSpanFrom start) (spanned at start (Ok end)) (kind_in (spanned 0 start (Ok o)))) same (tested_span at start end _ refl h.1)
spanned_word at start (Ok end) (Err e) h same = absurd same
spanned_word at start (Err e) (Ok end) h same = absurd same
spanned_word at start (Err e) (Err d) h same = h

span_word : (at : ℕ) (first : List ℕ) (start : ℕ) → key_of first ≡ Ok start → (word : List ℕ)
    → Word at (IsSpanFrom start) (spanned at start (bound_in at word)) (wrong (EndFrom first) word)
span_word at first start is word =
    subst (λ (r : Result ℕ BadKey). Word at (IsSpanFrom start) (spanned at start (bound_in at word)) (end_wrong r word)) (sym is)
    (spanned_word at start (bound_in at word) (bound_in 0 word) (end_word at word) (ends_same at word))

reads_span : {B : Type 0} (at : ℕ) (first : List ℕ) (start : ℕ) (f : KeySpan → Reader B) (rest : List (List ℕ) → List Wanted) (P : B → Type 0)
    → key_of first ≡ Ok start → ((word : List ℕ) (span : KeySpan) → IsSpanFrom start span → Reads (at + 1) (λ words. rest (word ∷ words)) (f span) P)
    → Reads at (λ words. EndFrom first ∷ rest words) (span_at at start >>= f) P
unfolding span_at
reads_span at first start f rest P is goes = record {
  agrees = word_reads at (λ word. spanned at start (bound_in at word)) f (EndFrom first) (λ word. IsSpanFrom start) rest P (span_word at first start is) goes;
}

-- the requests
abbrev ReadsRequest : RequestWord → Reader Request → Type 0
ReadsRequest name reader = Reads 6 (λ words. request_wants name words) reader FitsRequest

reads_put : ReadsRequest requests.Put put
unfolding put
reads_put = reads_key 6 _ _ _ (λ k key is. reads_value 7 _ _ _ (λ w value v. reads_whole 8 _ FitsRequest ((k, is), v)))

reads_add : ReadsRequest requests.Add add
unfolding add
reads_add = reads_key 6 _ _ _ (λ k key is. reads_number 7 _ _ _ _ _ (λ w by v. reads_whole 8 _ FitsRequest ((k, is), is_value by v.1.1)))

reads_cput : ReadsRequest requests.CPut cput
unfolding cput
reads_cput = reads_key 6 _ _ _ (λ k key is. reads_expected 7 _ _ _ (λ e expect x. reads_value 8 _ _ _ (λ w value v.
    reads_whole 9 _ FitsRequest ((k, is), x, v))))

reads_del : ReadsRequest requests.Del del
unfolding del
reads_del = reads_key 6 _ _ _ (λ k key is. reads_whole 7 _ FitsRequest (k, is))

reads_wipe : ReadsRequest requests.Wipe wipe
unfolding wipe
reads_wipe = reads_key 6 _ _ _ (λ k start is. reads_span 7 k start _ _ _ is (λ e span h.
    reads_whole 8 _ FitsRequest (subst IsKey (sym h.0) (k, is), h.1)))

reads_moving : ReadsRequest requests.Move moving
unfolding moving
reads_moving = reads_key 6 _ _ _ (λ a from is. reads_key 7 _ _ _ (λ b to js. reads_number 8 _ _ _ _ _ (λ w by v.
    reads_whole 9 _ FitsRequest ((a, is), (b, js), is_value by v.1.1))))

reads_split : ReadsRequest requests.Split split
unfolding split
reads_split = reads_key 6 _ _ _ (λ k key is. reads_whole 7 _ FitsRequest (k, is))

abbrev IsKnownRequest : RequestWord → Type 0
IsKnownRequest requests.Unknown = ⊥
IsKnownRequest name = Unit {0}

reads_request_of : (name : RequestWord) → IsKnownRequest name → ReadsRequest name (request_of name)
unfolding request_of
reads_request_of requests.Put h = reads_put
reads_request_of requests.Add h = reads_add
reads_request_of requests.CPut h = reads_cput
reads_request_of requests.Del h = reads_del
reads_request_of requests.Wipe h = reads_wipe
reads_request_of requests.Move h = reads_moving
reads_request_of requests.Split h = reads_split
reads_request_of requests.Unknown h = absurd h

named_request : (name : RequestWord) (words : List (List ℕ))
    → Agrees FitsRequest (request_of name words) (or_behind 5 (name_wrong name) (first_wrong 6 (request_wants name words) words))
unfolding request_of
named_request requests.Unknown words = refl
named_request requests.Put words = (reads_request_of requests.Put tt).agrees words
named_request requests.Add words = (reads_request_of requests.Add tt).agrees words
named_request requests.CPut words = (reads_request_of requests.CPut tt).agrees words
named_request requests.Del words = (reads_request_of requests.Del tt).agrees words
named_request requests.Wipe words = (reads_request_of requests.Wipe tt).agrees words
named_request requests.Move words = (reads_request_of requests.Move tt).agrees words
named_request requests.Split words = (reads_request_of requests.Split tt).agrees words

request_agrees : (words : List (List ℕ)) → Agrees FitsRequest (request words) (first_wrong 5 (wanted_request words) words)
unfolding request
request_agrees [] = refl
request_agrees (word ∷ words) = named_request (request_word_of word) words

pub reads_request : Reads 5 wanted_request request FitsRequest
reads_request = record { agrees = request_agrees }

-- a request, and then no word
reads_last : {A B : Type 0} (at : ℕ) (want : List (List ℕ) → List Wanted) (reader : Reader A) (P : A → Type 0) (g : A → B) (Q : B → Type 0)
    → Reads at want reader P → ((x : A) → P x → Q (g x)) → Reads at want (reader >>= λ x rest. Ok (g x)) Q
reads_last at want reader P g Q reads goes = record { agrees = λ words. last (reader words) (first_wrong at (want words) words) (behind words) (reads.agrees words) }
  where
    last : (r : Result _ BadWord) (first : Option BadWord) (words : List (List ℕ)) → Agrees P r first → Agrees Q (going_on r (λ x rest. Ok (g x)) words) first
    last (Ok x) first words h = (h.0, goes x h.1)
    last (Err e) first words h = h

-- the forms of line
abbrev ReadsForm : Keyword → ℕ → List ℕ → Reader ScriptLine → Type 0
ReadsForm k nodes commands reader = Reads 2 (λ words. wants k nodes commands words) reader (Fits nodes commands)

pub reads_cluster : (nodes : ℕ) (commands : List ℕ) → Reads 2 (λ words. wants keywords.Cluster nodes commands words) cluster IsFirst
unfolding cluster
reads_cluster nodes commands = reads_number 2 _ _ _ _ _ (λ w n h. reads_whole 3 _ IsFirst h.1)

reads_send : (nodes : ℕ) (commands : List ℕ) → ReadsForm keywords.Send nodes commands (send nodes)
unfolding send
reads_send nodes commands = reads_number 2 _ _ _ _ _ (λ a node n. reads_number 3 _ _ _ _ _ (λ b range r. reads_number 4 _ _ _ _ _ (λ c client h.
    reads_last 5 wanted_request request FitsRequest _ (Fits nodes commands) reads_request (λ q is. (n.1, r.1.1, h.1, is)))))

reads_admit : (nodes : ℕ) (commands : List ℕ) → ReadsForm keywords.Admit nodes commands (admit nodes)
unfolding admit
reads_admit nodes commands = reads_number 2 _ _ _ _ _ (λ a node n. reads_number 3 _ _ _ _ _ (λ b range r. reads_number 4 _ _ _ _ _ (λ c client h.
    reads_last 5 wanted_request request FitsRequest _ (Fits nodes commands) reads_request (λ q is. (n.1, r.1.1, h.1, is)))))

reads_again : (nodes : ℕ) (commands : List ℕ) → ReadsForm keywords.Again nodes commands (again nodes commands)
unfolding again
reads_again nodes commands = reads_number 2 _ _ _ _ _ (λ a node n. reads_number 3 _ _ _ _ _ (λ b range r. reads_number 4 _ _ _ _ _ (λ c client h.
    reads_command_of 5 commands c client _ _ h.0 (λ seq s. reads_whole 6 _ (Fits nodes commands) (n.1, r.1.1, (h.1, s))))))

reads_draw : (nodes : ℕ) (commands : List ℕ) → ReadsForm keywords.Draw nodes commands (draw commands)
unfolding draw
reads_draw nodes commands = reads_number 2 _ _ _ _ _ (λ c client h.
    reads_command_of 3 commands c client _ _ h.0 (λ seq s. reads_whole 4 _ (Fits nodes commands) (h.1, s)))

reads_publish : (nodes : ℕ) (commands : List ℕ) → ReadsForm keywords.Publish nodes commands (publish commands)
unfolding publish
reads_publish nodes commands = reads_number 2 _ _ _ _ _ (λ c client h.
    reads_command_of 3 commands c client _ _ h.0 (λ seq s. reads_whole 4 _ (Fits nodes commands) (h.1, s)))

-- a node and a range alone
reads_replica : (nodes : ℕ) (g : ℕ → ℕ → ScriptLine) (P : ScriptLine → Type 0) → ((node range : ℕ) → IsFromTo 1 nodes node → range ≤ 7 → P (g node range))
    → Reads 2 (λ words. Number 1 nodes ∷ Number 0 7 ∷ []) (number_at 2 1 nodes >>= λ node. number_at 3 0 7 >>= λ range. whole 4 (g node range)) P
reads_replica nodes g P is = reads_number 2 _ _ _ _ _ (λ a node n. reads_number 3 _ _ _ _ _ (λ b range r. reads_whole 4 _ P (is node range n.1 r.1.1)))

reads_transfer : (nodes : ℕ) (commands : List ℕ) → ReadsForm keywords.Transfer nodes commands (transfer nodes)
unfolding transfer
reads_transfer nodes commands = reads_number 2 _ _ _ _ _ (λ a node n. reads_number 3 _ _ _ _ _ (λ b range r. reads_number 4 _ _ _ _ _ (λ c to t.
    reads_whole 5 _ (Fits nodes commands) (n.1, r.1.1, t.1))))

reads_restart : (nodes : ℕ) (commands : List ℕ) → ReadsForm keywords.Restart nodes commands (restart nodes)
unfolding restart
reads_restart nodes commands = reads_number 2 _ _ _ _ _ (λ a node n. reads_whole 3 _ (Fits nodes commands) n.1)

reads_tick : (nodes : ℕ) (commands : List ℕ) → ReadsForm keywords.Tick nodes commands (tick nodes)
unfolding tick
reads_tick nodes commands = reads_number 2 _ _ _ _ _ (λ a node n. reads_number 3 _ _ _ _ _ (λ b count c. reads_whole 4 _ (Fits nodes commands) (n.1, c.1)))

reads_deliver : (nodes : ℕ) (commands : List ℕ) → ReadsForm keywords.Deliver nodes commands (deliver nodes)
unfolding deliver
reads_deliver nodes commands = reads_number 2 _ _ _ _ _ (λ a node n. reads_number 3 _ _ _ _ _ (λ b number m.
    reads_whole 4 _ (Fits nodes commands) (n.1, m.1.0, is_value number m.1.1)))

reads_peek : (nodes : ℕ) (commands : List ℕ) → ReadsForm keywords.Peek nodes commands (peek nodes)
unfolding peek
reads_peek nodes commands = reads_number 2 _ _ _ _ _ (λ a node n. reads_number 3 _ _ _ _ _ (λ b range r. reads_key 4 _ _ _ (λ k key is.
    reads_whole 5 _ (Fits nodes commands) (n.1, r.1.1, (k, is)))))

reads_loss : (nodes : ℕ) (commands : List ℕ) → ReadsForm keywords.Loss nodes commands loss
unfolding loss
reads_loss nodes commands = reads_number 2 _ _ _ _ _ (λ a percent p. reads_number 3 _ _ _ _ _ (λ b salt s.
    reads_whole 4 _ (Fits nodes commands) (p.1.1, is_value salt s.1.1)))

reads_settle : (nodes : ℕ) (commands : List ℕ) → ReadsForm keywords.Settle nodes commands settle
unfolding settle
reads_settle nodes commands = reads_number 2 _ _ _ _ _ (λ a rounds r. reads_whole 3 _ (Fits nodes commands) r.1)

-- a first word that is known, and is not `cluster`
abbrev pub IsLater : Keyword → Type 0
IsLater keywords.Cluster = ⊥
IsLater keywords.Unknown = ⊥
IsLater k = Unit {0}

pub reads_form : (k : Keyword) (nodes : ℕ) (commands : List ℕ) → IsLater k → ReadsForm k nodes commands (form k nodes commands)
unfolding form ask flush apply cut remove
reads_form keywords.Cluster nodes commands h = absurd h
reads_form keywords.Send nodes commands h = reads_send nodes commands
reads_form keywords.Admit nodes commands h = reads_admit nodes commands
reads_form keywords.Again nodes commands h = reads_again nodes commands
reads_form keywords.Draw nodes commands h = reads_draw nodes commands
reads_form keywords.Publish nodes commands h = reads_publish nodes commands
reads_form keywords.Ask nodes commands h = reads_replica nodes _ (Fits nodes commands) (λ node range n r. (n, r))
reads_form keywords.Transfer nodes commands h = reads_transfer nodes commands
reads_form keywords.Flush nodes commands h = reads_replica nodes _ (Fits nodes commands) (λ node range n r. (n, r))
reads_form keywords.Apply nodes commands h = reads_replica nodes _ (Fits nodes commands) (λ node range n r. (n, r))
reads_form keywords.Cut nodes commands h = reads_replica nodes _ (Fits nodes commands) (λ node range n r. (n, r))
reads_form keywords.Remove nodes commands h = reads_replica nodes _ (Fits nodes commands) (λ node range n r. (n, r))
reads_form keywords.Restart nodes commands h = reads_restart nodes commands
reads_form keywords.Tick nodes commands h = reads_tick nodes commands
reads_form keywords.Deliver nodes commands h = reads_deliver nodes commands
reads_form keywords.Peek nodes commands h = reads_peek nodes commands
reads_form keywords.Loss nodes commands h = reads_loss nodes commands
reads_form keywords.Settle nodes commands h = reads_settle nodes commands
reads_form keywords.End nodes commands h = reads_whole 2 _ (Fits nodes commands) tt
reads_form keywords.Unknown nodes commands h = absurd h
