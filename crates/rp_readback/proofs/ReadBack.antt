-- A script reads the words of a request's text as this request.
use Rattle.std.proofs.Common.{◌≡◌, ℕ, ◌<◌, ◌==◌, ◌^◌, ◌-◌, ◌&&◌, true, false, nat_le, List, [], ◌∷◌, get_or, Option, Some, None, refl, ap, ◌∙◌, arith, Ok}
use Rattle.std.specs.Fmt.{decimal}
use Rattle.std.proofs.lemmas.Bool.Decides.{nat_tests}
use Rattle.rp_base.specs.Keys.{key_text, IsKey}
use Rattle.rp_base.specs.ShortTexts.{IsText}
use Rattle.rp_base.specs.Values.{IsValue, value_text}
use Rattle.rp_base.specs.declared.KeySpan.{KeySpan}
use Rattle.rp_base.specs.declared.values.Value.{Value}
use Rattle.rp_base.specs.declared.values.Value.TheVariants.{Number, Text}
use Rattle.rp_base.proofs.KeyLaws.{read_as_spelled}
use Rattle.rp_base.proofs.NumberLaws.{read_as_written}
use Rattle.rp_base.proofs.SpanLaws.{key_span_is}
use Rattle.rp_base.proofs.TextLaws.{read_as_it_is}
use Rattle.rp_base.proofs.ValueLaws.{first_above_sign}
use Rattle.rp_request.specs.Fits.{FitsOption, FitsEnd, FitsRequest}
use Rattle.rp_request.specs.declared.requests.Request.{Request}
use Rattle.rp_request.specs.declared.requests.Request.TheVariants as requests
use Rattle.rp_request.specs.Words.{words_of}
use Rattle.rp_script.specs.Readers.{number_in, number_at, key_in, key_at, as_text, as_number, value_in, value_at, expect_at, bound_in, spanned, span_at}
use Rattle.rp_script.specs.Requests.{request, request_of, put, add, cput, del, wipe, moving, split}
use Rattle.rp_script.specs.Keywords.{request_word_of}
use Rattle.rp_report.specs.Words.{value_or_none}
use Rattle.rp_report.specs.Items.{request_text}
use Rattle.rp_report.proofs.WordLaws.{words_spoken}
use Rattle.rp_report.proofs.RequestWords.{end_word, request_words, request_spoken, request_are_words, value_not_none, key_not_end}

within : (n : ℕ) → n < 2 ^ 64 → (nat_le 0 n && nat_le n (2 ^ 64 - 1)) ≡ true
within n fits = grind (arith, nat_tests)

-- a number of 64 bits is read
number_in_whole : (at n : ℕ) → n < 2 ^ 64 → number_in at 0 (2 ^ 64 - 1) (decimal n) ≡ Ok n
unfolding number_in
number_in_whole at n fits = rw (read_as_written n fits, within n fits) refl

number_at_whole : (at n : ℕ) (ws : List (List ℕ)) → n < 2 ^ 64 → number_at at 0 (2 ^ 64 - 1) (decimal n ∷ ws) ≡ Ok n
unfolding number_at
number_at_whole at n ws fits = number_in_whole at n fits

-- a key is read
key_in_whole : (at n : ℕ) → IsKey n → key_in at (key_text n) ≡ Ok n
unfolding key_in
key_in_whole at n key = rw (read_as_spelled n key) refl

key_at_whole : (at n : ℕ) (ws : List (List ℕ)) → IsKey n → key_at at (key_text n ∷ ws) ≡ Ok n
unfolding key_at
key_at_whole at n ws key = key_in_whole at n key

-- a word that begins above the apostrophe is read as a number
digits_in : (at : ℕ) (w : List ℕ) → 39 < get_or w 0 0 → value_in at w ≡ as_number (number_in at 0 (2 ^ 64 - 1) w)
unfolding value_in
digits_in at [] h = refl
digits_in at (b ∷ w) h =
    let other : (b == 39) ≡ false = grind (arith, nat_tests) in
    rw other refl

-- a text behind its apostrophe is read
text_in_whole : (at : ℕ) (text : List ℕ) → IsText text → value_in at (39 ∷ text) ≡ Ok (Text text)
unfolding value_in
text_in_whole at text h = ap (as_text at) (read_as_it_is text h)

-- a value is read
value_in_whole : (at : ℕ) (v : Value) → IsValue v → value_in at (value_text v) ≡ Ok v
value_in_whole at (Number n) h = digits_in at (decimal n) (first_above_sign n h) ∙ ap as_number (number_in_whole at n h)
value_in_whole at (Text text) h = text_in_whole at text h

value_at_whole : (at : ℕ) (v : Value) (ws : List (List ℕ)) → IsValue v → value_at at (value_text v ∷ ws) ≡ Ok v
unfolding value_at
value_at_whole at v ws h = value_in_whole at v h

-- an expected value is read
expect_at_whole : (at : ℕ) (v : Option Value) (ws : List (List ℕ)) → FitsOption v → expect_at at (value_or_none v ∷ ws) ≡ Ok v
unfolding expect_at
expect_at_whole at None ws h = refl
expect_at_whole at (Some v) ws h = rw (value_not_none v h, value_in_whole at v h) refl

-- the end of a span is read
bound_in_whole : (at : ℕ) (end : Option ℕ) → FitsEnd end → bound_in at (end_word end) ≡ Ok end
unfolding bound_in
bound_in_whole at None h = refl
bound_in_whole at (Some key) h = rw (key_not_end key h, key_in_whole at key h) refl

span_at_whole : (at : ℕ) (s : KeySpan) (ws : List (List ℕ)) → FitsEnd s.end → span_at at s.start (end_word s.end ∷ ws) ≡ Ok s
unfolding span_at
span_at_whole at s ws h = ap (spanned at s.start) (bound_in_whole at s.end h) ∙ (rw (key_span_is s.start s.end s refl refl) refl)

-- the words are read as the request
words_read : (q : Request) → FitsRequest q → request (request_words q) ≡ Ok q
unfolding request request_of request_word_of put add cput del wipe moving split
words_read (requests.Put key value) h = rw (key_at_whole 6 key (value_text value ∷ []) h.0, value_at_whole 7 value [] h.1) refl
words_read (requests.Add key by) h = rw (key_at_whole 6 key (decimal by ∷ []) h.0, number_at_whole 7 by [] h.1) refl
words_read (requests.CPut key expect value) h =
    rw (key_at_whole 6 key (value_or_none expect ∷ value_text value ∷ []) h.0, expect_at_whole 7 expect (value_text value ∷ []) h.1, value_at_whole 8 value [] h.2) refl
words_read (requests.Del key) h = rw (key_at_whole 6 key [] h) refl
words_read (requests.Wipe span) h = rw (key_at_whole 6 span.start (end_word span.end ∷ []) h.0, span_at_whole 7 span [] h.1) refl
words_read (requests.Move from to by) h =
    rw (key_at_whole 6 from (key_text to ∷ decimal by ∷ []) h.0, key_at_whole 7 to (decimal by ∷ []) h.1, number_at_whole 8 by [] h.2) refl
words_read (requests.Split key) h = rw (key_at_whole 6 key [] h) refl

-- a script reads the words of the text as the request
pub read_back : (q : Request) → FitsRequest q → request (words_of (request_text q)) ≡ Ok q
read_back q h = ap (λ t. request (words_of t)) (request_spoken q) ∙ ap request (words_spoken (request_words q) (request_are_words q h)) ∙ words_read q h
