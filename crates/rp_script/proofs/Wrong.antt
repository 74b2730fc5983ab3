-- How a word is read, and how it is wrong.
use Rattle.std.proofs.Common.{◌≡◌, ◌≢◌, ◌⊎◌, inl, inr, ℕ, ◌+◌, ◌-◌, ◌^◌, ◌&&◌, ◌≤◌, ◌<◌, ◌==◌, Bool, true, false, List, [], ◌∷◌, length, Option, None, Some, Result, Ok, Err, refl, ap, ◌∙◌, sym, subst, arith, nat_le, nat_lt}
use Rattle.std.specs.Prelude.{IsErr, IfSome, codes, if◌then◌else◌}
use Rattle.std.specs.Str.{bytes_eq}
use Rattle.std.specs.Char.{is_ascii_digit}
use Rattle.std.proofs.lemmas.Bool.Decides.{nat_tests, not_from_Decides}
use Rattle.std.proofs.lemmas.Slice.Eq.{bytes_eq-Decides}
use Rattle.std.proofs.lemmas.List.Sums.{prefix_len-le-length}
use Rattle.rp_base.specs.Numbers.{number_of, digits_len, u64_of}
use Rattle.rp_base.proofs.NumberLaws.{u64_of_stops, u64_of_fits, u64_of_large}
use Rattle.rp_base.specs.Keys.{key_of, end_of, IsKey}
use Rattle.rp_base.specs.ShortTexts.{text_of}
use Rattle.rp_base.specs.Spans.{key_span_by}
use Rattle.rp_base.specs.declared.BadKey.{BadKey}
use Rattle.rp_base.specs.declared.BadText.{BadText}
use Rattle.rp_base.specs.declared.Value.{Value}
use Rattle.rp_base.specs.declared.KeySpan.{KeySpan}
use Rattle.rp_base.specs.declared.NumberFault.{NumberFault}
use Rattle.rp_base.specs.declared.NumberFault.TheVariants.{NotNumber, TooLarge}
use Rattle.rp_script.specs.Keywords.{request_word_of}
use Rattle.rp_script.specs.Readers.{bad, in_range, number_in, sent_of, as_key, key_in, as_text, as_number, value_in, given, bound_in, as_span, spanned}
use Rattle.rp_script.specs.Bounds.{IsFromTo}
use Rattle.rp_script.specs.Wanted.{Wanted, Number, CommandNumber, KeyName, ValueWord, Expected, EndFrom, RequestName}
use Rattle.rp_script.specs.Causes.{IsNumber, IsNoNumber, IsOutside, IsUnsent, IsBadText, IsPlain, IsEndOf, IsNotBelow, IsWrong, IsRight}
use Rattle.rp_script.specs.declared.faults.BadWord.{BadWord}
use Rattle.rp_script.specs.declared.faults.LineKind.{LineKind}
use Rattle.rp_script.specs.declared.faults.LineKind.TheVariants as kinds
use Rattle.rp_script.specs.declared.keywords.RequestWord.{RequestWord}
use Rattle.rp_script.specs.declared.keywords.RequestWord.TheVariants as requests

-- the kind of a refusal
abbrev pub kind_in : {A : Type 0} → Result A BadWord → Option LineKind
kind_in (Ok x) = None
kind_in (Err e) = Some e.kind

-- what is wrong of an end, as the start is read
abbrev pub end_wrong : {E : Type 0} → Result ℕ E → List ℕ → Option LineKind
end_wrong (Ok first) word = kind_in (spanned 0 first (bound_in 0 word))
end_wrong (Err e) word = kind_in (bound_in 0 word)

abbrev pub name_wrong : RequestWord → Option LineKind
name_wrong requests.Unknown = Some kinds.UnknownWord
name_wrong name = None

-- how a word is wrong, as it is read
abbrev pub wrong : Wanted → List ℕ → Option LineKind
wrong (Number low high) word = kind_in (number_in 0 low high word)
wrong (CommandNumber count) word = kind_in (sent_of 0 count (number_in 0 1 (2 ^ 64 - 1) word))
wrong KeyName word = kind_in (key_in 0 word)
wrong ValueWord word = kind_in (value_in 0 word)
wrong Expected word = kind_in (if bytes_eq word (codes "none") then Ok None else given (value_in 0 word))
wrong (EndFrom start) word = end_wrong (key_of start) word
wrong RequestName word = name_wrong (request_word_of word)

-- a word is no number, a number of 64 bits, or a longer one
pub data NumberView (word : List ℕ) : Type 0 where
  none : IsNoNumber word → u64_of word ≡ Err (NotNumber (digits_len word)) → NumberView word
  fits : IsNumber word → number_of word < 2 ^ 64 → u64_of word ≡ Ok (number_of word) → NumberView word
  large : IsNumber word → 2 ^ 64 ≤ number_of word → u64_of word ≡ Err TooLarge → NumberView word

sized : (word : List ℕ) → IsNumber word → (v : Bool) → nat_lt (number_of word) (2 ^ 64) ≡ v → NumberView word
sized word is true test = let small : number_of word < 2 ^ 64 = grind (arith, nat_tests) in fits is small (u64_of_fits word is.0 is.1 small)
sized word is false test = let big : 2 ^ 64 ≤ number_of word = grind (arith, nat_tests) in large is big (u64_of_large word is.0 is.1 big)

whole_word : (word : List ℕ) → 0 < digits_len word → (v : Bool) → nat_lt (digits_len word) (length word) ≡ v → NumberView word
whole_word word some true test = let short : digits_len word < length word = grind (arith, nat_tests) in none (inr short) (u64_of_stops word (inr short))
whole_word word some false test =
    let all : digits_len word ≡ length word = grind (arith, nat_tests, prefix_len-le-length is_ascii_digit word) in sized word (some, all) _ refl

some_digit : (word : List ℕ) → (v : Bool) → nat_lt 0 (digits_len word) ≡ v → NumberView word
some_digit word true test = let some : 0 < digits_len word = grind (arith, nat_tests) in whole_word word some _ refl
some_digit word false test = let zeros : digits_len word ≡ 0 = grind (arith, nat_tests) in none (inl zeros) (u64_of_stops word (inl zeros))

pub number_view : (word : List ℕ) → NumberView word
number_view word = some_digit word _ refl

-- no number is none
apart : (word : List ℕ) → IsNumber word → IsNoNumber word → ⊥
apart word is (inl zeros) = omega (arith, is.0)
apart word is (inr short) = omega (arith, is.1)

-- a number, by its kind
abbrev NumberWrong : ℕ → ℕ → LineKind → List ℕ → Type 0
NumberWrong low high kind word = IsWrong (Number low high) kind word

tested_wrong : (low high : ℕ) (word : List ℕ) → IsNumber word → (v : Bool) → (nat_le low (number_of word) && nat_le (number_of word) high) ≡ v
    → IfSome (kind_in (let r : Result ℕ BadWord = if v then Ok (number_of word) else bad 0 kinds.OutOfRange in r)) (λ kind. NumberWrong low high kind word)
tested_wrong low high word is true test = tt
tested_wrong low high word is false test = (is, outside _ refl)
  where
    outside : (v : Bool) → nat_le low (number_of word) ≡ v → (number_of word < low) ⊎ (high < number_of word) ⊎ (2 ^ 64 ≤ number_of word)
    outside true t = inr (inl (grind (arith, nat_tests)))
    outside false t = inl (grind (arith, nat_tests))

number_wrong : (low high : ℕ) (word : List ℕ) → NumberView word → IfSome (wrong (Number low high) word) (λ kind. NumberWrong low high kind word)
unfolding number_in
number_wrong low high word (none stops e) = simp e stops
number_wrong low high word (fits is small e) = simp e (tested_wrong low high word is _ refl)
number_wrong low high word (large is big e) = simp e (is, inr (inr big))

outside_range : (low high : ℕ) (word : List ℕ) → IsNumber word → number_of word < 2 ^ 64 → (number_of word < low) ⊎ (high < number_of word) ⊎ (2 ^ 64 ≤ number_of word)
    → (nat_le low (number_of word) && nat_le (number_of word) high) ≡ false
outside_range low high word is small (inl less) = grind (arith, nat_tests)
outside_range low high word is small (inr (inl more)) = grind (arith, nat_tests)
outside_range low high word is small (inr (inr long)) = absurd (omega arith)

number_none : (low high : ℕ) (word : List ℕ) → IsNoNumber word → NumberView word → wrong (Number low high) word ≡ Some kinds.NotNumber
unfolding number_in
number_none low high word n (none stops e) = simp e refl
number_none low high word n (fits is small e) = absurd (apart word is n)
number_none low high word n (large is big e) = absurd (apart word is n)

number_outside : (low high : ℕ) (word : List ℕ) → IsOutside low high word → NumberView word → wrong (Number low high) word ≡ Some kinds.OutOfRange
unfolding number_in
number_outside low high word h (none stops e) = absurd (apart word h.0 stops)
number_outside low high word h (fits is small e) = simp (e, outside_range low high word is small h.1) refl
number_outside low high word h (large is big e) = simp e refl

is_wrong_number : (low high : ℕ) (word : List ℕ) (kind : LineKind) → IsWrong (Number low high) kind word → wrong (Number low high) word ≡ Some kind
is_wrong_number low high word kinds.NotNumber h = number_none low high word h (number_view word)
is_wrong_number low high word kinds.OutOfRange h = number_outside low high word h (number_view word)
is_wrong_number low high word kind h = absurd h

-- the number of a command
unsent : (count : ℕ) (word : List ℕ) → IsNumber word → 1 ≤ number_of word → number_of word < 2 ^ 64 → (v : Bool) → nat_le (number_of word) count ≡ v
    → IfSome (kind_in (let r : Result ℕ BadWord = if v then Ok (number_of word) else bad 0 kinds.NotSent in r)) (λ kind. IsWrong (CommandNumber count) kind word)
unsent count word is some small true test = tt
unsent count word is some small false test = let more : count < number_of word = grind (arith, nat_tests) in (is, some, small, more)

command_tested : (count : ℕ) (word : List ℕ) → IsNumber word → number_of word < 2 ^ 64 → (v : Bool) → (nat_le 1 (number_of word) && nat_le (number_of word) (2 ^ 64 - 1)) ≡ v
    → IfSome (kind_in (sent_of 0 count (if v then Ok (number_of word) else bad 0 kinds.OutOfRange))) (λ kind. IsWrong (CommandNumber count) kind word)
command_tested count word is small true test = let some : 1 ≤ number_of word = grind (arith, nat_tests) in unsent count word is some small _ refl
command_tested count word is small false test = let less : number_of word < 1 = grind (arith, nat_tests) in (is, inl less)

command_wrong : (count : ℕ) (word : List ℕ) → NumberView word → IfSome (wrong (CommandNumber count) word) (λ kind. IsWrong (CommandNumber count) kind word)
unfolding number_in
command_wrong count word (none stops e) = simp e stops
command_wrong count word (fits is small e) = simp e (command_tested count word is small _ refl)
command_wrong count word (large is big e) = simp e (is, inr (inr big))

command_none : (count : ℕ) (word : List ℕ) → IsNoNumber word → NumberView word → wrong (CommandNumber count) word ≡ Some kinds.NotNumber
unfolding number_in
command_none count word n (none stops e) = simp e refl
command_none count word n (fits is small e) = absurd (apart word is n)
command_none count word n (large is big e) = absurd (apart word is n)

command_outside : (count : ℕ) (word : List ℕ) → IsOutside 1 (2 ^ 64 - 1) word → NumberView word → wrong (CommandNumber count) word ≡ Some kinds.OutOfRange
unfolding number_in
command_outside count word h (none stops e) = absurd (apart word h.0 stops)
command_outside count word h (fits is small e) = simp (e, outside_range 1 (2 ^ 64 - 1) word is small h.1) refl
command_outside count word h (large is big e) = simp e refl

command_unsent : (count : ℕ) (word : List ℕ) → IsUnsent count word → wrong (CommandNumber count) word ≡ Some kinds.NotSent
unfolding number_in
command_unsent count word h =
    let inside : (nat_le 1 (number_of word) && nat_le (number_of word) (2 ^ 64 - 1)) ≡ true = grind (arith, nat_tests, h.1, h.2) in
    let past : nat_le (number_of word) count ≡ false = grind (arith, nat_tests, h.3) in
    simp (u64_of_fits word h.0.0 h.0.1 h.2, inside, past) refl

is_wrong_command : (count : ℕ) (word : List ℕ) (kind : LineKind) → IsWrong (CommandNumber count) kind word → wrong (CommandNumber count) word ≡ Some kind
is_wrong_command count word kinds.NotNumber h = command_none count word h (number_view word)
is_wrong_command count word kinds.OutOfRange h = command_outside count word h (number_view word)
is_wrong_command count word kinds.NotSent h = command_unsent count word h
is_wrong_command count word kind h = absurd h

-- a key
key_wrong : (word : List ℕ) (r : Result ℕ BadKey) → key_of word ≡ r → IfSome (kind_in (as_key 0 r)) (λ kind. IsWrong KeyName kind word)
key_wrong word (Ok key) is = tt
key_wrong word (Err e) is = subst (λ r. IsErr r) (sym is) refl

key_is_wrong : (r : Result ℕ BadKey) → IsErr r → kind_in (as_key 0 r) ≡ Some kinds.BadKey
key_is_wrong (Ok key) h = absurd (cc)
key_is_wrong (Err e) h = refl

is_wrong_key : (word : List ℕ) (kind : LineKind) → IsWrong KeyName kind word → wrong KeyName word ≡ Some kind
unfolding key_in
is_wrong_key word kinds.BadKey h = key_is_wrong (key_of word) h
is_wrong_key word kind h = absurd h

-- a word that is not this one
other_text : (xs ys : List ℕ) → bytes_eq xs ys ≡ false → xs ≢ ys
other_text xs ys e same = not_from_Decides _ (bytes_eq-Decides xs ys) e same

told_other : (xs ys : List ℕ) → xs ≢ ys → (v : Bool) → bytes_eq xs ys ≡ v → bytes_eq xs ys ≡ false
told_other xs ys other true e = absurd (other ((bytes_eq-Decides xs ys).0 e))
told_other xs ys other false e = e

kind_given : {A : Type 0} (r : Result A BadWord) → kind_in (given r) ≡ kind_in r
kind_given (Ok x) = refl
kind_given (Err e) = refl

kind_numbered : (r : Result ℕ BadWord) → kind_in (as_number r) ≡ kind_in r
kind_numbered (Ok x) = refl
kind_numbered (Err e) = refl

if_some : {A : Type 0} (P Q : A → Type 0) (o : Option A) → ((x : A) → P x → Q x) → IfSome o P → IfSome o Q
if_some P Q None more h = tt
if_some P Q (Some x) more h = more x h

-- a value
abbrev IsWrongNumber : LineKind → List ℕ → Type 0
IsWrongNumber kind word = IsWrong (Number 0 (2 ^ 64 - 1)) kind word

value_number : (word : List ℕ) (kind : LineKind) → IsPlain word → IsWrongNumber kind word → IsWrong ValueWord kind word
value_number word kinds.NotNumber plain h = (plain, h)
value_number word kinds.OutOfRange plain h = (plain, h)
value_number word kind plain h = absurd h

plain_wrong : (word : List ℕ) → IsPlain word → IfSome (kind_in (as_number (number_in 0 0 (2 ^ 64 - 1) word))) (λ kind. IsWrong ValueWord kind word)
plain_wrong word plain =
    subst (λ o. IfSome o (λ kind. IsWrong ValueWord kind word)) (sym (kind_numbered (number_in 0 0 (2 ^ 64 - 1) word)))
    (if_some (λ kind. IsWrongNumber kind word) _ (kind_in (number_in 0 0 (2 ^ 64 - 1) word))
    (λ kind. value_number word kind plain) (number_wrong 0 (2 ^ 64 - 1) word (number_view word)))

text_wrong : (word bytes : List ℕ) (r : Result (List ℕ) BadText) → word ≡ 39 ∷ bytes → text_of bytes ≡ r
    → IfSome (kind_in (as_text 0 r)) (λ kind. IsWrong ValueWord kind word)
text_wrong word bytes (Ok text) begins is = tt
text_wrong word bytes (Err e) begins is = (bytes, begins, subst (λ r. IsErr r) (sym is) refl)

quoted : (b : ℕ) (bytes : List ℕ) → (b == 39) ≡ true → b ∷ bytes ≡ 39 ∷ bytes
quoted b bytes e = let same : b ≡ 39 = grind (arith, nat_tests) in ap (λ c. c ∷ bytes) same

head_of : List ℕ → ℕ
head_of [] = 0
head_of (b ∷ bytes) = b

plain_begin : (b : ℕ) (bytes : List ℕ) → (b == 39) ≡ false → IsPlain (b ∷ bytes)
unfolding head_of
plain_begin b bytes e text same = let head : b ≡ 39 = ap head_of same in absurd (grind (arith, nat_tests))

plain_none : IsPlain []
plain_none text same = absurd (cc)

begun_wrong : (b : ℕ) (bytes : List ℕ) (v : Bool) → (b == 39) ≡ v
    → IfSome (kind_in (if v then as_text 0 (text_of bytes) else as_number (number_in 0 0 (2 ^ 64 - 1) (b ∷ bytes)))) (λ kind. IsWrong ValueWord kind (b ∷ bytes))
begun_wrong b bytes true e = text_wrong (b ∷ bytes) bytes (text_of bytes) (quoted b bytes e) refl
begun_wrong b bytes false e = plain_wrong (b ∷ bytes) (plain_begin b bytes e)

value_wrong : (word : List ℕ) → IfSome (wrong ValueWord word) (λ kind. IsWrong ValueWord kind word)
unfolding value_in
value_wrong [] = plain_wrong [] plain_none
value_wrong (b ∷ bytes) = begun_wrong b bytes _ refl

no_text : (r : Result (List ℕ) BadText) → IsErr r → kind_in (as_text 0 r) ≡ Some kinds.BadText
no_text (Ok text) h = absurd (cc)
no_text (Err e) h = refl

bad_text : (word text : List ℕ) → word ≡ 39 ∷ text → IsErr (text_of text) → wrong ValueWord word ≡ Some kinds.BadText
unfolding value_in
bad_text word text begins h = subst (λ (w : List ℕ). wrong ValueWord w ≡ Some kinds.BadText) (sym begins) (no_text (text_of text) h)

number_of_plain : (word : List ℕ) (kind : LineKind) → IsWrongNumber kind word → kind_in (as_number (number_in 0 0 (2 ^ 64 - 1) word)) ≡ Some kind
number_of_plain word kind h = kind_numbered (number_in 0 0 (2 ^ 64 - 1) word) ∙ is_wrong_number 0 (2 ^ 64 - 1) word kind h

begun_plain : (b : ℕ) (bytes : List ℕ) (kind : LineKind) → IsPlain (b ∷ bytes) → IsWrongNumber kind (b ∷ bytes) → (v : Bool) → (b == 39) ≡ v
    → kind_in (if v then as_text 0 (text_of bytes) else as_number (number_in 0 0 (2 ^ 64 - 1) (b ∷ bytes))) ≡ Some kind
begun_plain b bytes kind plain h true e = absurd (plain bytes (quoted b bytes e))
begun_plain b bytes kind plain h false e = number_of_plain (b ∷ bytes) kind h

plain_value : (word : List ℕ) (kind : LineKind) → IsPlain word → IsWrongNumber kind word → wrong ValueWord word ≡ Some kind
unfolding value_in
plain_value [] kind plain h = number_of_plain [] kind h
plain_value (b ∷ bytes) kind plain h = begun_plain b bytes kind plain h _ refl

is_wrong_value : (word : List ℕ) (kind : LineKind) → IsWrong ValueWord kind word → wrong ValueWord word ≡ Some kind
is_wrong_value word kinds.BadText h = bad_text word h.0 h.1 h.2
is_wrong_value word kinds.NotNumber h = plain_value word kinds.NotNumber h.0 h.1
is_wrong_value word kinds.OutOfRange h = plain_value word kinds.OutOfRange h.0 h.1
is_wrong_value word kind h = absurd h

-- an expected value
value_expected : (word : List ℕ) (kind : LineKind) → word ≢ codes "none" → IsWrong ValueWord kind word → IsWrong Expected kind word
value_expected word kinds.BadText other h = h
value_expected word kinds.NotNumber other h = (other, h.0, h.1)
value_expected word kinds.OutOfRange other h = (other, h.0, h.1)
value_expected word kind other h = absurd h

expected_tested : (word : List ℕ) (v : Bool) → bytes_eq word (codes "none") ≡ v
    → IfSome (kind_in (if v then Ok None else given (value_in 0 word))) (λ kind. IsWrong Expected kind word)
expected_tested word true e = tt
expected_tested word false e =
    subst (λ o. IfSome o (λ kind. IsWrong Expected kind word)) (sym (kind_given (value_in 0 word)))
    (if_some (λ kind. IsWrong ValueWord kind word) _ (kind_in (value_in 0 word)) (λ kind. value_expected word kind (other_text word _ e)) (value_wrong word))

expected_value : (word : List ℕ) (kind : LineKind) → word ≢ codes "none" → IsWrong ValueWord kind word → wrong Expected word ≡ Some kind
expected_value word kind other h =
    let e : bytes_eq word (codes "none") ≡ false = told_other word _ other _ refl in
    ap (λ (v : Bool). kind_in (if v then Ok None else given (value_in 0 word))) e ∙ kind_given (value_in 0 word) ∙ is_wrong_value word kind h

apart_heads : head_of (39 ∷ []) ≡ head_of (110 ∷ []) → ⊥
unfolding head_of
apart_heads e = omega (arith, e)

not_none_text : (word text : List ℕ) → word ≡ 39 ∷ text → word ≢ codes "none"
unfolding head_of
not_none_text word text begins same = apart_heads (ap head_of (sym begins ∙ same))

is_wrong_expected : (word : List ℕ) (kind : LineKind) → IsWrong Expected kind word → wrong Expected word ≡ Some kind
is_wrong_expected word kinds.BadText h = expected_value word kinds.BadText (not_none_text word h.0 h.1) h
is_wrong_expected word kinds.NotNumber h = expected_value word kinds.NotNumber h.0 (h.1, h.2)
is_wrong_expected word kinds.OutOfRange h = expected_value word kinds.OutOfRange h.0 (h.1, h.2)
is_wrong_expected word kind h = absurd h

-- the end of a span
abbrev IsEndRead : List ℕ → Result (Option ℕ) BadWord → Type 0
IsEndRead word (Ok end) = IsEndOf end word
IsEndRead word (Err e) = (e.kind ≡ kinds.BadKey) × (word ≢ codes "~") × IsErr (key_of word)

key_end : (word : List ℕ) → word ≢ codes "~" → (r : Result ℕ BadKey) → key_of word ≡ r → IsEndRead word (given (as_key 0 r))
key_end word other (Ok key) is = (other, is)
key_end word other (Err e) is = (refl, other, subst (λ r. IsErr r) (sym is) refl)

end_tested : (word : List ℕ) (v : Bool) → bytes_eq word (codes "~") ≡ v → IsEndRead word (if v then Ok None else given (key_in 0 word))
unfolding key_in
end_tested word true e = (bytes_eq-Decides word _).0 e
end_tested word false e = key_end word (other_text word _ e) (key_of word) refl

end_read : (word : List ℕ) → IsEndRead word (bound_in 0 word)
unfolding bound_in
end_read word = end_tested word _ refl

one_ok : {A E : Type 0} (r : Result A E) (x : A) → r ≡ Ok x → IsErr r → ⊥
one_ok (Ok x) y e h = absurd (cc)
one_ok (Err x) y e h = absurd (cc)

same_ok : {A E : Type 0} (x y : A) → (let r : Result A E = Ok x in r) ≡ Ok y → x ≡ y
same_ok x y e = cc

same_end : (word : List ℕ) (a b : Option ℕ) → IsEndOf a word → IsEndOf b word → a ≡ b
same_end word None None h g = refl
same_end word None (Some y) h g = absurd (g.0 h)
same_end word (Some x) None h g = absurd (h.0 g)
same_end word (Some x) (Some y) h g = ap Some (same_ok x y (sym h.1 ∙ g.1))

bad_end : (start word : List ℕ) (e : BadWord) → IsEndRead word (Err e) → IsWrong (EndFrom start) e.kind word
bad_end start word e h = subst (λ (kind : LineKind). IsWrong (EndFrom start) kind word) (sym h.0) (h.1, h.2)

span_tested : (start word : List ℕ) (first : ℕ) (end : Option ℕ) → key_of start ≡ Ok first → IsEndOf end word → (v : Bool) (test : nat_lt first (end_of end) ≡ v)
    → IfSome (kind_in (as_span 0 (key_span_by first end v test))) (λ kind. IsWrong (EndFrom start) kind word)
span_tested start word first end is h true test = tt
span_tested start word first end is h false test = let low : end_of end ≤ first = grind (arith, nat_tests) in (first, end, is, h, low)

span_wrong : (start word : List ℕ) (first : ℕ) → key_of start ≡ Ok first → (r : Result (Option ℕ) BadWord) → IsEndRead word r
    → IfSome (kind_in (spanned 0 first r)) (λ kind. IsWrong (EndFrom start) kind word)
span_wrong start word first is (Ok end) h = span_tested start word first end is h _ refl
span_wrong start word first is (Err e) h = bad_end start word e h

keyless_wrong : (start word : List ℕ) (r : Result (Option ℕ) BadWord) → IsEndRead word r → IfSome (kind_in r) (λ kind. IsWrong (EndFrom start) kind word)
keyless_wrong start word (Ok end) h = tt
keyless_wrong start word (Err e) h = bad_end start word e h

end_wrongs : (start word : List ℕ) (r : Result ℕ BadKey) → key_of start ≡ r → IfSome (end_wrong r word) (λ kind. IsWrong (EndFrom start) kind word)
end_wrongs start word (Ok first) is = span_wrong start word first is (bound_in 0 word) (end_read word)
end_wrongs start word (Err e) is = keyless_wrong start word (bound_in 0 word) (end_read word)

no_end : (word : List ℕ) (r : Result (Option ℕ) BadWord) → IsEndRead word r → word ≢ codes "~" → IsErr (key_of word) → kind_in r ≡ Some kinds.BadKey
no_end word (Ok None) h other bad = absurd (other h)
no_end word (Ok (Some key)) h other bad = absurd (one_ok (key_of word) key h.1 bad)
no_end word (Err e) h other bad = ap Some h.0

no_end_spanned : (first : ℕ) (r : Result (Option ℕ) BadWord) → kind_in r ≡ Some kinds.BadKey → kind_in (spanned 0 first r) ≡ Some kinds.BadKey
no_end_spanned first (Ok end) h = absurd (cc)
no_end_spanned first (Err e) h = h

no_end_wrong : (r : Result ℕ BadKey) (word : List ℕ) → kind_in (bound_in 0 word) ≡ Some kinds.BadKey → end_wrong r word ≡ Some kinds.BadKey
no_end_wrong (Ok first) word h = no_end_spanned first (bound_in 0 word) h
no_end_wrong (Err e) word h = h

low_end : (first : ℕ) (end : Option ℕ) → end_of end ≤ first → (v : Bool) (test : nat_lt first (end_of end) ≡ v) → kind_in (as_span 0 (key_span_by first end v test)) ≡ Some kinds.BadSpan
low_end first end low true test = absurd (let up : first < end_of end = grind (arith, nat_tests) in omega arith)
low_end first end low false test = refl

not_below : (first : ℕ) (end : Option ℕ) (word : List ℕ) → IsEndOf end word → end_of end ≤ first → (r : Result (Option ℕ) BadWord) → IsEndRead word r
    → kind_in (spanned 0 first r) ≡ Some kinds.BadSpan
not_below first end word h low (Ok other) g =
    let same : other ≡ end = same_end word other end g h in
    low_end first other (subst (λ (o : Option ℕ). end_of o ≤ first) (sym same) low) _ refl
not_below first None word h low (Err e) g = absurd (g.1 h)
not_below first (Some key) word h low (Err e) g = absurd (one_ok (key_of word) key h.1 g.2)

is_wrong_end : (start word : List ℕ) (kind : LineKind) → IsWrong (EndFrom start) kind word → wrong (EndFrom start) word ≡ Some kind
is_wrong_end start word kinds.BadKey h = no_end_wrong (key_of start) word (no_end word (bound_in 0 word) (end_read word) h.0 h.1)
is_wrong_end start word kinds.BadSpan h =
    ap (λ (r : Result ℕ BadKey). end_wrong r word) h.2 ∙ not_below h.0 h.1 word h.3 h.4 (bound_in 0 word) (end_read word)
is_wrong_end start word kind h = absurd h

-- the first word of a request
name_wrongs : (word : List ℕ) (name : RequestWord) → request_word_of word ≡ name → IfSome (name_wrong name) (λ kind. IsWrong RequestName kind word)
name_wrongs word requests.Unknown is = is
name_wrongs word name is = tt

is_wrong_name : (word : List ℕ) (kind : LineKind) → IsWrong RequestName kind word → wrong RequestName word ≡ Some kind
is_wrong_name word kinds.UnknownWord h = ap name_wrong h
is_wrong_name word kind h = absurd h

-- a word is wrong just as it is read
pub wrongs : (w : Wanted) (word : List ℕ) → IfSome (wrong w word) (λ kind. IsWrong w kind word)
unfolding key_in
wrongs (Number low high) word = number_wrong low high word (number_view word)
wrongs (CommandNumber count) word = command_wrong count word (number_view word)
wrongs KeyName word = key_wrong word (key_of word) refl
wrongs ValueWord word = value_wrong word
wrongs Expected word = expected_tested word _ refl
wrongs (EndFrom start) word = end_wrongs start word (key_of start) refl
wrongs RequestName word = name_wrongs word (request_word_of word) refl

pub is_wrong : (w : Wanted) (word : List ℕ) (kind : LineKind) → IsWrong w kind word → wrong w word ≡ Some kind
is_wrong (Number low high) word kind h = is_wrong_number low high word kind h
is_wrong (CommandNumber count) word kind h = is_wrong_command count word kind h
is_wrong KeyName word kind h = is_wrong_key word kind h
is_wrong ValueWord word kind h = is_wrong_value word kind h
is_wrong Expected word kind h = is_wrong_expected word kind h
is_wrong (EndFrom start) word kind h = is_wrong_end start word kind h
is_wrong RequestName word kind h = is_wrong_name word kind h

pub is_right : (w : Wanted) (word : List ℕ) → wrong w word ≡ None → IsRight w word
is_right w word fine kind h = absurd (let e : wrong w word ≡ Some kind = is_wrong w word kind h in cc)

right_from : (w : Wanted) (word : List ℕ) → IsRight w word → (o : Option LineKind) → IfSome o (λ kind. IsWrong w kind word) → o ≡ None
right_from w word right None h = refl
right_from w word right (Some kind) h = absurd (right kind h)

pub right_is : (w : Wanted) (word : List ℕ) → IsRight w word → wrong w word ≡ None
right_is w word right = right_from w word right (wrong w word) (wrongs w word)
