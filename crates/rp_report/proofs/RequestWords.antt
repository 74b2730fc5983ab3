-- A request is spelled by words, and requests with the same words are one.
use Rattle.std.proofs.Common.{◌≡◌, ℕ, ◌<◌, ◌==◌, ◌^◌, Bool, true, false, List, [], ◌∷◌, ◌++◌, length, Option, Some, None, refl, ap, sym, ◌∙◌, ⊎_elim, arith, append_assoc}
use Rattle.std.specs.Prelude.{codes, if◌then◌else◌}
use Rattle.std.specs.Fmt.{decimal}
use Rattle.std.specs.List.{prefix_len}
use Rattle.std.specs.Char.{is_ascii_digit}
use Rattle.std.specs.Str.{bytes_eq}
use Rattle.std.proofs.lemmas.Bool.{cases_eq}
use Rattle.std.proofs.lemmas.Bool.Decides.{nat_tests}
use Rattle.rp_base.specs.Keys.{key_text, IsKey, is_key_byte}
use Rattle.rp_base.specs.Values.{IsValue, value_text}
use Rattle.rp_base.specs.declared.values.Value.{Value}
use Rattle.rp_base.specs.declared.values.Value.TheVariants.{Number, Text}
use Rattle.rp_base.proofs.KeyBytes.{passes_whole}
use Rattle.rp_base.proofs.KeyLaws.{key_text_good, key_text_len}
use Rattle.rp_base.proofs.NumberLaws.{read_as_written, Writes-from_ok}
use Rattle.rp_base.proofs.SpanLaws.{key_span_same}
use Rattle.rp_base.proofs.ValueLaws.{one_value}
use Rattle.rp_request.specs.Fits.{FitsOption, FitsEnd, FitsRequest}
use Rattle.rp_request.specs.declared.requests.Request.{Request}
use Rattle.rp_request.specs.declared.requests.Request.TheVariants as requests
use Rattle.rp_report.specs.Words.{value_or_none}
use Rattle.rp_report.specs.Items.{request_text, span_end_text}
use Rattle.rp_report.proofs.WordLaws.{IsWord, AreWords, literal_word, spoken, same_words, number_word, number_same, key_word, key_same, value_word}

-- where a span of keys ends, as a word
abbrev pub end_word : Option ℕ → List ℕ
end_word None = codes "~"
end_word (Some key) = key_text key

-- the words of a request
abbrev pub request_words : Request → List (List ℕ)
request_words (requests.Put key value) = codes "put" ∷ key_text key ∷ value_text value ∷ []
request_words (requests.Add key by) = codes "add" ∷ key_text key ∷ decimal by ∷ []
request_words (requests.CPut key expect value) =
    codes "cput" ∷ key_text key ∷ value_or_none expect ∷ value_text value ∷ []
request_words (requests.Del key) = codes "del" ∷ key_text key ∷ []
request_words (requests.Wipe span) = codes "wipe" ∷ key_text span.start ∷ end_word span.end ∷ []
request_words (requests.Move from to by) = codes "move" ∷ key_text from ∷ key_text to ∷ decimal by ∷ []
request_words (requests.Split key) = codes "split" ∷ key_text key ∷ []

wiped : (key : List ℕ) (end : Option ℕ) → codes "wipe " ++ key ++ span_end_text end ≡ codes "wipe" ++ 32 ∷ (key ++ 32 ∷ end_word end)
wiped key None = simp append_assoc
wiped key (Some e) = simp append_assoc

-- its text is these words
pub request_spoken : (q : Request) → request_text q ≡ spoken (request_words q)
request_spoken (requests.Put key value) = simp append_assoc
request_spoken (requests.Add key by) = simp append_assoc
request_spoken (requests.CPut key expect value) = simp append_assoc
request_spoken (requests.Del key) = refl
request_spoken (requests.Wipe span) = wiped (key_text span.start) span.end
request_spoken (requests.Move from to by) = simp append_assoc
request_spoken (requests.Split key) = refl

pub option_word : (v : Option Value) → FitsOption v → IsWord (value_or_none v)
option_word None h = literal_word (codes "none") refl
option_word (Some v) h = value_word v h

end_is_word : (end : Option ℕ) → FitsEnd end → IsWord (end_word end)
end_is_word None h = literal_word (codes "~") refl
end_is_word (Some key) h = key_word key h

-- and they are words
pub request_are_words : (q : Request) → FitsRequest q → AreWords (request_words q)
request_are_words (requests.Put key value) h = (literal_word (codes "put") refl, (key_word key h.0, (value_word value h.1, tt)))
request_are_words (requests.Add key by) h = (literal_word (codes "add") refl, (key_word key h.0, (number_word by h.1, tt)))
request_are_words (requests.CPut key expect value) h =
    (literal_word (codes "cput") refl, (key_word key h.0, (option_word expect h.1, (value_word value h.2, tt))))
request_are_words (requests.Del key) h = (literal_word (codes "del") refl, (key_word key h, tt))
request_are_words (requests.Wipe span) h = (literal_word (codes "wipe") refl, (key_word span.start h.0, (end_is_word span.end h.1, tt)))
request_are_words (requests.Move from to by) h = (literal_word (codes "move") refl, (key_word from h.0, (key_word to h.1, (number_word by h.2, tt))))
request_are_words (requests.Split key) h = (literal_word (codes "split") refl, (key_word key h, tt))

-- a text of bytes that pass is no word that begins with one that does not
other_word : (p : ℕ → Bool) (w : List ℕ) (c : ℕ) (cs : List ℕ) → p c ≡ false → 0 < length w → prefix_len p w ≡ length w → bytes_eq w (c ∷ cs) ≡ false
other_word p [] c cs stops some whole = absurd (omega arith)
other_word p (b ∷ w) c cs stops some whole =
    let parts : (p b ≡ true) × (prefix_len p w ≡ length w) = passes_whole p b w (p b) refl whole in
    let other : (b == c) ≡ false = ⊎_elim (λ (same : b ≡ c). absurd (let t = parts.0 ∙ refl in let u : p b ≡ p c = ap p same in cc)) (λ apart. grind (arith, nat_tests)) (cases_eq b c) in
    rw other refl

pub number_is_no_word : (n c : ℕ) (cs : List ℕ) → n < 2 ^ 64 → is_ascii_digit c ≡ false → bytes_eq (decimal n) (c ∷ cs) ≡ false
number_is_no_word n c cs fits stops =
    let w = Writes-from_ok (decimal n) n (read_as_written n fits) in
    other_word is_ascii_digit (decimal n) c cs stops w.some w.digits

-- no value is spelled `none`
pub value_not_none : (v : Value) → IsValue v → bytes_eq (value_text v) (codes "none") ≡ false
value_not_none (Number n) h = number_is_no_word n 110 (111 ∷ 110 ∷ 101 ∷ []) h refl
value_not_none (Text text) h = refl

-- values, or none, that are spelled alike are the same
pub one_option : (u v : Option Value) → FitsOption u → FitsOption v → value_or_none u ≡ value_or_none v → u ≡ v
one_option None None hu hv same = refl
one_option None (Some v) hu hv same = absurd (let a = value_not_none v hv in let b = ap (λ w. bytes_eq w (codes "none")) same in cc)
one_option (Some u) None hu hv same = absurd (let a = value_not_none u hu in let b = ap (λ w. bytes_eq w (codes "none")) same in cc)
one_option (Some u) (Some v) hu hv same = ap (λ (w : Value). let x : Option Value = Some w in x) (one_value u v hu hv same)

-- no key is spelled `~`
pub key_not_end : (key : ℕ) → IsKey key → bytes_eq (key_text key) (codes "~") ≡ false
key_not_end key h =
    let len = key_text_len key h in
    other_word is_key_byte (key_text key) 126 [] refl (omega (arith, len.0)) (key_text_good key h)

-- ends of spans that are spelled alike are the same
one_span_end : (d e : Option ℕ) → FitsEnd d → FitsEnd e → end_word d ≡ end_word e → d ≡ e
one_span_end None None hd he same = refl
one_span_end None (Some k) hd he same = absurd (let a = key_not_end k he in let b = ap (λ w. bytes_eq w (codes "~")) same in cc)
one_span_end (Some k) None hd he same = absurd (let a = key_not_end k hd in let b = ap (λ w. bytes_eq w (codes "~")) same in cc)
one_span_end (Some k) (Some l) hd he same = ap (λ (n : ℕ). let x : Option ℕ = Some n in x) (key_same k l hd he same)

-- which request it is
abbrev request_kind : Request → ℕ
request_kind (requests.Put key value) = 1
request_kind (requests.Add key by) = 2
request_kind (requests.CPut key expect value) = 3
request_kind (requests.Del key) = 4
request_kind (requests.Wipe span) = 5
request_kind (requests.Move from to by) = 6
request_kind (requests.Split key) = 7

-- its first word says so
abbrev kind_of_word : List ℕ → ℕ
kind_of_word w =
    if bytes_eq w (codes "put") then 1
    else (if bytes_eq w (codes "add") then 2
    else (if bytes_eq w (codes "cput") then 3
    else (if bytes_eq w (codes "del") then 4
    else (if bytes_eq w (codes "wipe") then 5
    else (if bytes_eq w (codes "move") then 6
    else 7)))))

abbrev pub first_of : List (List ℕ) → List ℕ
first_of [] = []
first_of (w ∷ ws) = w

request_kind_known : (q : Request) → kind_of_word (first_of (request_words q)) ≡ request_kind q
request_kind_known (requests.Put key value) = refl
request_kind_known (requests.Add key by) = refl
request_kind_known (requests.CPut key expect value) = refl
request_kind_known (requests.Del key) = refl
request_kind_known (requests.Wipe span) = refl
request_kind_known (requests.Move from to by) = refl
request_kind_known (requests.Split key) = refl

requests_alike : (p q : Request) → FitsRequest p → FitsRequest q → request_kind p ≡ request_kind q → request_words p ≡ request_words q → p ≡ q
requests_alike (requests.Put k u) (requests.Put l v) hp hq kind same =
    let key : k ≡ l = key_same k l hp.0 hq.0 (cc) in
    let value : u ≡ v = one_value u v hp.1 hq.1 (cc) in
    cc
requests_alike (requests.Add k m) (requests.Add l n) hp hq kind same =
    let key : k ≡ l = key_same k l hp.0 hq.0 (cc) in
    let by : m ≡ n = number_same m n hp.1 hq.1 (cc) in
    cc
requests_alike (requests.CPut k d u) (requests.CPut l e v) hp hq kind same =
    let key : k ≡ l = key_same k l hp.0 hq.0 (cc) in
    let expect : d ≡ e = one_option d e hp.1 hq.1 (cc) in
    let value : u ≡ v = one_value u v hp.2 hq.2 (cc) in
    cc
requests_alike (requests.Del k) (requests.Del l) hp hq kind same = ap requests.Del (key_same k l hp hq (cc))
requests_alike (requests.Wipe s) (requests.Wipe t) hp hq kind same =
    ap requests.Wipe
    (key_span_same s t (key_same s.start t.start hp.0 hq.0 (cc)) (one_span_end s.end t.end hp.1 hq.1 (cc)))
requests_alike (requests.Move a b m) (requests.Move c d n) hp hq kind same =
    let from : a ≡ c = key_same a c hp.0 hq.0 (cc) in
    let to : b ≡ d = key_same b d hp.1 hq.1 (cc) in
    let by : m ≡ n = number_same m n hp.2 hq.2 (cc) in
    cc
requests_alike (requests.Split k) (requests.Split l) hp hq kind same = ap requests.Split (key_same k l hp hq (cc))
requests_alike p q hp hq kind same = absurd (omega arith)

-- requests with the same words are one
pub requests_by_words : (p q : Request) → FitsRequest p → FitsRequest q → request_words p ≡ request_words q → p ≡ q
requests_by_words p q hp hq same =
    requests_alike p q hp hq (sym (request_kind_known p) ∙ ap (λ ws. kind_of_word (first_of ws)) same ∙ request_kind_known q) same

-- requests with one text are one
pub one_request : (p q : Request) → FitsRequest p → FitsRequest q → request_text p ≡ request_text q → p ≡ q
one_request p q hp hq same =
    requests_by_words p q hp hq
    (same_words (request_words p) (request_words q) (request_are_words p hp) (request_are_words q hq) (sym (request_spoken p) ∙ same ∙ request_spoken q))
