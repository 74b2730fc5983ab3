-- The fields: what is spelled is read again, and what is read is so spelled.
use Rattle.std.proofs.Common.{◌≡◌, ℕ, ◌+◌, ◌^◌, ◌<◌, ◌≤◌, ◌&&◌, ◌==◌, Bool, true, false, cond, ltb, nat_le, List, [], ◌∷◌, ◌++◌, length, take, Option, None, Some, Result, Ok, Err, refl, sym, ap, subst, ◌∙◌, arith, if◌then◌else◌}
use Rattle.std.specs.Int.{Width, w16, w32, w64, byte_len, from_be_bytes, to_be_bytes}
use Rattle.std.proofs.lemmas.Bool.{ltb-false, le-ltb, eqb-true}
use Rattle.std.proofs.lemmas.Bool.Decides.{nat_tests}
use Rattle.std.proofs.lemmas.List.{append-nil, take_at, drop_at, take-append-drop, length-append, length-take}
use Rattle.std.proofs.lemmas.Nat.{be_bytes_2, be_bytes_4, be_bytes_8, from_be_bytes-to_be_bytes_2, from_be_bytes-to_be_bytes_4, from_be_bytes-to_be_bytes_8}
use Rattle.rp_base.specs.Keys.{IsKey, key_of, key_text}
use Rattle.rp_base.specs.ShortTexts.{text_of, IsText}
use Rattle.rp_base.specs.Spans.{key_span_of}
use Rattle.rp_base.specs.Values.{IsValue, is_text}
use Rattle.rp_base.specs.declared.BadKey.{BadKey}
use Rattle.rp_base.specs.declared.BadText.{BadText}
use Rattle.rp_base.specs.declared.KeySpan.{KeySpan}
use Rattle.rp_base.specs.declared.Value.{Value}
use Rattle.rp_base.specs.declared.Value.TheVariants.{Number, Text}
use Rattle.rp_base.proofs.KeyLaws.{spelled_as_read, read_as_spelled, key_text_len}
use Rattle.rp_base.proofs.SpanLaws.{key_span_is, key_span_has}
use Rattle.rp_base.proofs.TextLaws.{read_as_it_is, text_as_read}
use Rattle.rp_codec.specs.Cursors.{Left, past}
use Rattle.rp_request.specs.Fits.{AreBytes, FitsOption, FitsEnd, FitsSpan}
use Rattle.rp_codec.specs.Reading.{Reader, bad, ◌>>=◌, given, refused, bytes_at, first_of, byte_at, byte_parts, byte_in, number_at, as_text, text_parts, text_at, plain_at, kind_of, tagged_at, value_at, as_key, key_parts, key_at, option_parts, option_at, begins_with, end_where, end_at, as_span, span_parts, span_at}
use Rattle.rp_codec.specs.Spelling.{text_bytes, tagged_bytes, plain_bytes, value_bytes, key_bytes, option_bytes, end_bytes, span_bytes}
use Rattle.rp_codec.proofs.Readers.{AreBytes-drop, AreBytes-take, AreBytes-rest, from_place, Again, again_given, again_then, again_last, again_one_field, Taken, Takes, takes_so, takes_given, takes_refused, takes_then, takes_last, takes_one_field, takes_if, found, found_is}
use Rattle.rp_codec.proofs.Suits.{Suits, no_text}

-- ---- so many bytes

pub bytes_again : (n : ℕ) (text : List ℕ) → length text ≡ n → Again (bytes_at n) text text
unfolding bytes_at
bytes_again n text len place rest =
    let long : ltb (length (text ++ rest)) n ≡ false = le-ltb _ _ (omega (arith, length-append text rest)) in
    rw (long, take_at text rest n len, drop_at text rest n len, len) refl

guard_ok : {A : Type 0} (b : Bool) (place : ℕ) (x y : A) → cond b (bad place) (found x) ≡ found y → (b ≡ false) × (x ≡ y)
guard_ok true place x y e = absurd cc
guard_ok false place x y e = (refl, found_is x y e)

pub bytes_take : (n : ℕ) → Takes (bytes_at n) (λ text front. (text ≡ front) × (length text ≡ n) × AreBytes text)
unfolding bytes_at
bytes_take n left after x fits e =
    let g = guard_ok (ltb (length left.bytes) n) left.place (take n left.bytes, past n left) (x, after) e in
    let long : n ≤ length left.bytes = ltb-false _ _ g.0 in
    let x-is : take n left.bytes ≡ x = ap (λ (p : List ℕ × Left). p.0) g.1 in
    let after-is : past n left ≡ after = ap (λ (p : List ℕ × Left). p.1) g.1 in
    record {
      text = x;
      parts = rw (← x-is, ← after-is) (sym (take-append-drop n left.bytes));
      rest_fits = rw (← after-is) (AreBytes-drop n left.bytes fits);
      says = (refl, ap length (sym x-is) ∙ omega (arith, length-take n left.bytes), rw (← x-is) (AreBytes-take n left.bytes fits));
    }

-- ---- one byte

pub byte_again : (b : ℕ) → Again byte_at (b ∷ []) b
unfolding byte_at
byte_again b place rest = refl

first_taken : (place : ℕ) (bytes : List ℕ) (after : Left) (x : ℕ) → AreBytes bytes → first_of place bytes ≡ Ok (x, after) → (bytes ≡ x ∷ after.bytes) × AreBytes after.bytes × (x < 256)
first_taken place [] after x fits e = absurd cc
first_taken place (b ∷ bytes) after x fits e =
    let same = found_is (b, from_place (place + 1) bytes) (x, after) e in
    let x-is : b ≡ x = ap (λ (p : ℕ × Left). p.0) same in
    let rest-is : bytes ≡ after.bytes = ap (λ (p : ℕ × Left). p.1.bytes) same in
    (cc, rw (← rest-is) (AreBytes-rest b bytes fits), rw (← x-is) (fits 0))

pub byte_takes : Takes byte_at (λ b text. (text ≡ b ∷ []) × (b < 256))
unfolding byte_at
byte_takes left after x fits e =
    let t = first_taken left.place left.bytes after x fits e in
    record { text = x ∷ []; parts = t.0; rest_fits = t.1; says = (refl, t.2) }

pub byte_in_again : (low high b : ℕ) → low ≤ b → b ≤ high → Again (byte_in low high) (b ∷ []) b
unfolding byte_in byte_parts
byte_in_again low high b from to =
    let within : (nat_le low b && nat_le b high) ≡ true = grind (arith, nat_tests) in
    let last : Again (if nat_le low b && nat_le b high then given b else refused) [] b = rw within (again_given b) in
    again_one_field (byte_parts low high) (b ∷ []) b (again_then byte_at (λ c. if nat_le low c && nat_le c high then given c else refused) (b ∷ []) [] b b (byte_again b) last)

pub byte_in_takes : (low high : ℕ) → Takes (byte_in low high) (λ b text. (text ≡ b ∷ []) × (low ≤ b) × (b ≤ high))
unfolding byte_in byte_parts
byte_in_takes low high =
    takes_one_field (byte_parts low high) _
    (takes_so (byte_parts low high) _ (λ b text. (text ≡ b ∷ []) × (low ≤ b) × (b ≤ high))
    (takes_then byte_at (λ c. if nat_le low c && nat_le c high then given c else refused) (λ b text. (text ≡ b ∷ []) × (b < 256)) (λ c b text. (b ≡ c) × (text ≡ []) × (low ≤ c) × (c ≤ high)) byte_takes
    (λ c text says. takes_if (nat_le low c && nat_le c high) (given c) refused _
    (λ within. takes_so (given c) _ _ (takes_given c) (λ b more is. (is.0, is.1, grind (arith, nat_tests), grind (arith, nat_tests))))
    (λ outside. takes_refused _)))
    (λ b text t. (t.joined ∙ rw (t.first.0, t.second.0, t.second.1) refl, rw (t.second.0) t.second.2, rw (t.second.0) t.second.3)))

-- ---- numbers

pub record IsWide (w : Width) (limit : ℕ) : Type 0 where
  pub len : (n : ℕ) → length (to_be_bytes w n) ≡ byte_len w
  pub back : (bytes : List ℕ) → length bytes ≡ byte_len w → AreBytes bytes → to_be_bytes w (from_be_bytes w bytes) ≡ bytes
  pub again : (n : ℕ) → n < limit → from_be_bytes w (to_be_bytes w n) ≡ n
  pub below : (bytes : List ℕ) → AreBytes bytes → from_be_bytes w bytes < limit

pub wide16 : IsWide w16 (2 ^ 16)
wide16 = record {
  len = λ n. refl;
  back = λ bytes len fits. be_bytes_2 bytes _ len fits refl;
  again = λ n lt. from_be_bytes-to_be_bytes_2 n lt;
  below = λ bytes fits. omega (arith, fits 0, fits 1);
}

pub wide32 : IsWide w32 (2 ^ 32)
wide32 = record {
  len = λ n. refl;
  back = λ bytes len fits. be_bytes_4 bytes _ len fits refl;
  again = λ n lt. from_be_bytes-to_be_bytes_4 n lt;
  below = λ bytes fits. omega (arith, fits 0, fits 1, fits 2, fits 3);
}

pub wide64 : IsWide w64 (2 ^ 64)
wide64 = record {
  len = λ n. refl;
  back = λ bytes len fits. be_bytes_8 bytes _ len fits refl;
  again = λ n lt. from_be_bytes-to_be_bytes_8 n lt;
  below = λ bytes fits. omega (arith, fits 0, fits 1, fits 2, fits 3, fits 4, fits 5, fits 6, fits 7);
}

pub number_again : (w : Width) (limit : ℕ) → IsWide w limit → (n : ℕ) → n < limit → Again (number_at w) (to_be_bytes w n) n
unfolding number_at
number_again w limit wide n lt place rest =
    rw (bytes_again (byte_len w) (to_be_bytes w n) (wide.len n) place rest, wide.again n lt) refl

pub number_takes : (w : Width) (limit : ℕ) → IsWide w limit → Takes (number_at w) (λ n text. (text ≡ to_be_bytes w n) × (n < limit))
unfolding number_at
number_takes w limit wide =
    takes_so (number_at w) _ (λ n text. (text ≡ to_be_bytes w n) × (n < limit))
    (takes_last (bytes_at (byte_len w)) (from_be_bytes w) _ (bytes_take (byte_len w)))
    (λ n text m.
    let back : to_be_bytes w (from_be_bytes w m.value) ≡ m.value = wide.back m.value m.of.1 m.of.2 in
    let below : from_be_bytes w m.value < limit = wide.below m.value m.of.2 in
    (rw (m.is, back) (sym m.of.0), rw m.is below))

pub n64_again : (n : ℕ) → n < 2 ^ 64 → Again (number_at w64) (to_be_bytes w64 n) n
n64_again n fits = number_again w64 (2 ^ 64) wide64 n fits

pub n64_takes : Takes (number_at w64) (λ n text. (text ≡ to_be_bytes w64 n) × (n < 2 ^ 64))
n64_takes = number_takes w64 (2 ^ 64) wide64

-- ---- tags

-- a tag, and the form that it stands for
pub tagged : {A : Type 0} (low high tag : ℕ) (f : ℕ → Reader A) (text : List ℕ) (x : A) → low ≤ tag → tag ≤ high → Again (f tag) text x → Again (byte_in low high >>= f) (tag ∷ text) x
tagged low high tag f text x from to behind = again_then (byte_in low high) f (tag ∷ []) text tag x (byte_in_again low high tag from to) behind

-- the form that a tag stands for, where the tag is this number
pub for_tag : {A : Type 0} (tag n : ℕ) (p : Reader A) (Says : ℕ → A → List ℕ → Type 0) → Takes p (Says n) → (tag == n) ≡ true → Takes p (Says tag)
for_tag tag n p Says h same = subst (λ (m : ℕ). Takes p (Says m)) (sym (eqb-true _ _ same)) h

-- ---- texts

as_text_takes : (r : Result (List ℕ) BadText) → Takes (as_text r) (λ t text. (r ≡ Ok t) × (text ≡ []))
as_text_takes (Ok n) = takes_so (given n) _ (λ t text. (Ok n ≡ Ok t) × (text ≡ [])) (takes_given n) (λ t text is. (rw (is.0) refl, is.1))
as_text_takes (Err e) = takes_refused _

text_again : (text : List ℕ) → IsText text → Again text_at (text_bytes text) text
unfolding text_at text_parts text_bytes
text_again text good =
    let last : Again (as_text (text_of text)) [] text = rw (read_as_it_is text good) (again_given text) in
    let bytes : Again (bytes_at (length text) >>= λ bytes. as_text (text_of bytes)) (text ++ []) text =
    again_then (bytes_at (length text)) (λ bytes. as_text (text_of bytes)) text [] text text (bytes_again (length text) text refl) last in
    again_one_field text_parts (text_bytes text) text
    (again_then byte_at (λ len. bytes_at len >>= λ bytes. as_text (text_of bytes)) (length text ∷ []) text (length text) text (byte_again (length text))
    (rw append-nil at bytes))

text_takes : Takes text_at (λ t text. (text ≡ text_bytes t) × IsText t)
unfolding text_at text_parts text_bytes
text_takes =
    takes_one_field text_parts _
    (takes_so text_parts _ (λ t text. (text ≡ text_bytes t) × IsText t)
    (takes_then byte_at (λ len. bytes_at len >>= λ bytes. as_text (text_of bytes)) _ _ byte_takes
    (λ len text is. takes_then (bytes_at len) (λ bytes. as_text (text_of bytes)) _ (λ bytes t rest. (text_of bytes ≡ Ok t) × (rest ≡ [])) (bytes_take len) (λ bytes front is. as_text_takes (text_of bytes))))
    (λ x text t.
    let read = text_as_read t.second.value x t.second.second.0 in
    let same : x ≡ t.second.value = read.0 in
    let back : t.back ≡ x = t.second.joined ∙ rw (t.second.second.1, ← t.second.first.0, same) (append-nil t.second.value) in
    let len : t.value ≡ length x = sym t.second.first.1 ∙ ap length (sym same) in
    (t.joined ∙ rw (t.first.0, back, len) refl, read.1)))

-- ---- values

plain_again : (n : ℕ) → n < 2 ^ 64 → Again plain_at (to_be_bytes w64 n) (Number n)
unfolding plain_at
plain_again n fits = again_last (number_at w64) Number (to_be_bytes w64 n) n (n64_again n fits)

tagged_again : (v : Value) → IsValue v → Again tagged_at (tagged_bytes v) v
unfolding tagged_at kind_of tagged_bytes
tagged_again (Number n) fits = tagged 0 1 0 kind_of (to_be_bytes w64 n) (Number n) (omega arith) (omega arith) (plain_again n fits)
tagged_again (Text text) fits = tagged 0 1 1 kind_of (text_bytes text) (Text text) (omega arith) (omega arith) (again_last text_at Text (text_bytes text) text (text_again text fits))

pub value_again : (texts : Bool) (v : Value) → IsValue v → Suits texts (is_text (Some v)) → Again (value_at texts) (value_bytes texts v) v
unfolding value_at value_bytes plain_bytes
value_again true v fits suits = tagged_again v fits
value_again false (Number n) fits suits = plain_again n fits
value_again false (Text text) fits suits = absurd (let no : false ≡ true = suits refl in cc)

abbrev SaysValue : ℕ → Value → List ℕ → Type 0
SaysValue kind v text = (kind ∷ text ≡ tagged_bytes v) × IsValue v

number_kind_takes : Takes plain_at (SaysValue 0)
unfolding plain_at tagged_bytes
number_kind_takes = takes_so _ _ _ (takes_last (number_at w64) Number _ n64_takes) (λ v text m. (rw (m.is, m.of.0) refl, rw m.is m.of.1))

text_kind_takes : Takes (text_at >>= λ text. given (Text text)) (SaysValue 1)
unfolding tagged_bytes
text_kind_takes = takes_so _ _ _ (takes_last text_at Text _ text_takes) (λ v text m. (rw (m.is, m.of.0) refl, rw m.is m.of.1))

kind_of_takes : (kind : ℕ) → kind ≤ 1 → Takes (kind_of kind) (SaysValue kind)
unfolding kind_of
kind_of_takes kind to =
    takes_if (kind == 0) _ _ _ (for_tag kind 0 plain_at SaysValue number_kind_takes) (λ n0. for_tag kind 1 _ SaysValue text_kind_takes (grind (arith, nat_tests)))

tagged_takes : Takes tagged_at (λ v text. (text ≡ tagged_bytes v) × IsValue v)
unfolding tagged_at
tagged_takes = takes_so _ _ _ (takes_then (byte_in 0 1) kind_of _ SaysValue (byte_in_takes 0 1) (λ kind text is. kind_of_takes kind is.2))
    (λ v text t. (t.joined ∙ rw t.first.0 t.second.0, t.second.1))

plain_takes : (texts : Bool) → Takes plain_at (λ v text. (text ≡ plain_bytes v) × IsValue v × Suits texts (is_text (Some v)))
unfolding plain_at plain_bytes
plain_takes texts = takes_so _ _ _ (takes_last (number_at w64) Number _ n64_takes) (λ v text m. (rw (m.is, m.of.0) refl, rw m.is m.of.1, rw m.is (no_text texts)))

pub value_takes : (texts : Bool) → Takes (value_at texts) (λ v text. (text ≡ value_bytes texts v) × IsValue v × Suits texts (is_text (Some v)))
unfolding value_at value_bytes
value_takes true = takes_so _ _ _ tagged_takes (λ v text is. (is.0, is.1, λ h. refl))
value_takes false = plain_takes false

-- ---- keys

as_key_takes : (r : Result ℕ BadKey) → Takes (as_key r) (λ k text. (r ≡ Ok k) × (text ≡ []))
as_key_takes (Ok n) = takes_so (given n) _ (λ k text. (Ok n ≡ Ok k) × (text ≡ [])) (takes_given n) (λ k text is. (rw (is.0) refl, is.1))
as_key_takes (Err e) = takes_refused _

pub key_again : (k : ℕ) → IsKey k → Again key_at (key_bytes k) k
unfolding key_at key_parts key_bytes
key_again k key =
    let last : Again (as_key (key_of (key_text k))) [] k = rw (read_as_spelled k key) (again_given k) in
    let text : Again (bytes_at (length (key_text k)) >>= λ text. as_key (key_of text)) (key_text k ++ []) k =
    again_then (bytes_at (length (key_text k))) (λ text. as_key (key_of text)) (key_text k) [] (key_text k) k (bytes_again (length (key_text k)) (key_text k) refl) last in
    again_one_field key_parts (key_bytes k) k
    (again_then byte_at (λ len. bytes_at len >>= λ text. as_key (key_of text)) (length (key_text k) ∷ []) (key_text k) (length (key_text k)) k (byte_again (length (key_text k)))
    (rw append-nil at text))

pub key_takes : Takes key_at (λ k text. (text ≡ key_bytes k) × IsKey k)
unfolding key_at key_parts key_bytes
key_takes =
    takes_one_field key_parts _
    (takes_so key_parts _ (λ k text. (text ≡ key_bytes k) × IsKey k)
    (takes_then byte_at (λ len. bytes_at len >>= λ text. as_key (key_of text)) _ _ byte_takes
    (λ len text is. takes_then (bytes_at len) (λ text. as_key (key_of text)) _ (λ text k rest. (key_of text ≡ Ok k) × (rest ≡ [])) (bytes_take len) (λ text front is. as_key_takes (key_of text))))
    (λ k text t.
    let read : key_of t.second.value ≡ Ok k = t.second.second.0 in
    let spelled : key_text k ≡ t.second.value = spelled_as_read t.second.value k read in
    let back : t.back ≡ key_text k = t.second.joined ∙ rw (t.second.second.1, ← t.second.first.0, spelled) (append-nil t.second.value) in
    let len : t.value ≡ length (key_text k) = sym t.second.first.1 ∙ ap length (sym spelled) in
    (t.joined ∙ rw (t.first.0, back, len) refl, (t.second.value, read))))

-- ---- values that may be missing

option_parts_again : (texts : Bool) (o : Option Value) → FitsOption o → Suits texts (is_text o) → Again (option_parts texts) (option_bytes texts o) o
unfolding option_parts option_bytes
option_parts_again texts None fits suits =
    tagged 0 1 0 (λ flag. if flag == 0 then given None else (value_at texts >>= λ v. given (Some v))) [] None (omega arith) (omega arith) (again_given None)
option_parts_again texts (Some v) fits suits =
    tagged 0 1 1 (λ flag. if flag == 0 then given None else (value_at texts >>= λ v. given (Some v))) (value_bytes texts v) (Some v) (omega arith) (omega arith)
    (again_last (value_at texts) Some (value_bytes texts v) v (value_again texts v fits suits))

pub option_again : (texts : Bool) (o : Option Value) → FitsOption o → Suits texts (is_text o) → Again (option_at texts) (option_bytes texts o) o
unfolding option_at
option_again true o fits suits = option_parts_again true o fits suits
option_again false o fits suits = again_one_field (option_parts false) (option_bytes false o) o (option_parts_again false o fits suits)

option_parts_take : (texts : Bool) → Takes (option_parts texts) (λ o text. (text ≡ option_bytes texts o) × FitsOption o × Suits texts (is_text o))
unfolding option_parts option_bytes
option_parts_take texts =
    takes_so (option_parts texts) _ _
    (takes_then (byte_in 0 1) (λ flag. if flag == 0 then given None else (value_at texts >>= λ v. given (Some v))) _ (λ flag o text. (flag ∷ text ≡ option_bytes texts o) × FitsOption o × Suits texts (is_text o)) (byte_in_takes 0 1)
    (λ flag text is. takes_if (flag == 0) (given None) (value_at texts >>= λ v. given (Some v)) _
    (λ yes. takes_so (given None) _ _ (takes_given None) (λ o more m. (rw (eqb-true _ _ yes, m.0, m.1) refl, rw m.0 tt, rw m.0 (no_text texts))))
    (λ no. takes_so (value_at texts >>= λ v. given (Some v)) _ _ (takes_last (value_at texts) Some _ (value_takes texts))
    (λ o more m. let one : flag ≡ 1 = let low : flag ≤ 1 = is.2 in grind (arith, nat_tests) in (rw (one, m.is, m.of.0) refl, rw m.is m.of.1, rw m.is m.of.2)))))
    (λ o text t. (t.joined ∙ rw t.first.0 t.second.0, t.second.1, t.second.2))

pub option_takes : (texts : Bool) → Takes (option_at texts) (λ o text. (text ≡ option_bytes texts o) × FitsOption o × Suits texts (is_text o))
unfolding option_at
option_takes true = option_parts_take true
option_takes false = takes_one_field (option_parts false) _ (option_parts_take false)

-- ---- ends of spans

-- no key has 255 bytes
key_begins : (k : ℕ) (rest : List ℕ) → length (key_text k) ≤ 16 → begins_with 255 (key_bytes k ++ rest) ≡ false
unfolding key_bytes
key_begins k rest short = grind (arith, nat_tests)

begun : (b : ℕ) (bytes : List ℕ) (c : ℕ) (rest : List ℕ) → begins_with b bytes ≡ true → bytes ≡ c ∷ rest → c ≡ b
begun b bytes c rest h is = let first : (c == b) ≡ true = rw is at h in eqb-true _ _ first

none_taken : Takes (byte_at >>= λ b. given (let none : Option ℕ = None in none)) (λ end text. (b : ℕ) × (text ≡ b ∷ []) × (end ≡ None))
none_taken = takes_so _ _ _ (takes_last byte_at (λ b. let none : Option ℕ = None in none) _ byte_takes) (λ end text m. (m.value, m.of.0, m.is))

some_taken : Takes (key_at >>= λ k. given (Some k)) (λ end text. (text ≡ end_bytes end) × FitsEnd end)
unfolding end_bytes
some_taken = takes_so _ _ _ (takes_last key_at Some _ key_takes) (λ end text m. (rw (m.is, m.of.0) refl, rw m.is m.of.1))

end_taken : (left after : Left) (end : Option ℕ) (v : Bool) → begins_with 255 left.bytes ≡ v → AreBytes left.bytes → end_where v left ≡ Ok (end, after)
    → Taken (λ end text. (text ≡ end_bytes end) × FitsEnd end) left after end
unfolding end_bytes
end_taken left after end true h fits e =
    let t = none_taken left after end fits e in
    let parts : left.bytes ≡ t.says.0 ∷ after.bytes = t.parts ∙ ap (λ (text : List ℕ). text ++ after.bytes) t.says.1 in
    let b-is : t.says.0 ≡ 255 = begun 255 left.bytes t.says.0 after.bytes h parts in
    let text-is : t.text ≡ 255 ∷ [] = t.says.1 ∙ ap (λ (b : ℕ). b ∷ []) b-is in
    let P : Option ℕ → Type 0 = λ end. (t.text ≡ end_bytes end) × FitsEnd end in
    record { text = t.text; parts = t.parts; rest_fits = t.rest_fits; says = subst P (sym t.says.2) (text-is, tt) }
end_taken left after end false h fits e = some_taken left after end fits e

pub end_again : (end : Option ℕ) → FitsEnd end → Again end_at (end_bytes end) end
unfolding end_at end_bytes
end_again None fits place rest = again_last byte_at (λ b. let none : Option ℕ = None in none) (255 ∷ []) 255 (byte_again 255) place rest
end_again (Some k) key place rest =
    let short : length (key_text k) ≤ 16 = (key_text_len k key).1 in
    let other : begins_with 255 (key_bytes k ++ rest) ≡ false = key_begins k rest short in
    rw other (again_last key_at Some (key_bytes k) k (key_again k key) place rest)

pub end_takes : Takes end_at (λ end text. (text ≡ end_bytes end) × FitsEnd end)
unfolding end_at end_bytes
end_takes left after end fits e = end_taken left after end (begins_with 255 left.bytes) refl fits e

-- ---- spans

as_span_takes : (o : Option KeySpan) → Takes (as_span o) (λ s text. (o ≡ Some s) × (text ≡ []))
as_span_takes (Some found) = takes_so (given found) _ (λ s text. (Some found ≡ Some s) × (text ≡ [])) (takes_given found) (λ s text is. (rw (is.0) refl, is.1))
as_span_takes None = takes_refused _

pub span_again : (s : KeySpan) → FitsSpan s → Again span_at (span_bytes s) s
unfolding span_at span_parts span_bytes
span_again s fits =
    let last : Again (as_span (key_span_of s.start s.end)) [] s = rw (key_span_is s.start s.end s refl refl) (again_given s) in
    let ends : Again (end_at >>= λ end. as_span (key_span_of s.start end)) (end_bytes s.end ++ []) s =
    again_then end_at (λ end. as_span (key_span_of s.start end)) (end_bytes s.end) [] s.end s (end_again s.end fits.1) last in
    again_one_field span_parts (span_bytes s) s
    (again_then key_at (λ start. end_at >>= λ end. as_span (key_span_of start end)) (key_bytes s.start) (end_bytes s.end) s.start s (key_again s.start fits.0) (rw append-nil at ends))

pub span_takes : Takes span_at (λ s text. (text ≡ span_bytes s) × FitsSpan s)
unfolding span_at span_parts span_bytes
span_takes =
    takes_one_field span_parts _
    (takes_so span_parts _ (λ s text. (text ≡ span_bytes s) × FitsSpan s)
    (takes_then key_at (λ start. end_at >>= λ end. as_span (key_span_of start end)) _ _ key_takes
    (λ start text is. takes_then end_at (λ end. as_span (key_span_of start end)) _ (λ end s rest. (key_span_of start end ≡ Some s) × (rest ≡ [])) end_takes
    (λ end text is. as_span_takes (key_span_of start end))))
    (λ s text t.
    let has = key_span_has t.value t.second.value s t.second.second.0 in
    let from : s.start ≡ t.value = has.0 in
    let to : s.end ≡ t.second.value = has.1 in
    let back : t.back ≡ end_bytes s.end = t.second.joined ∙ rw (t.second.second.1, t.second.first.0, to) (append-nil (end_bytes t.second.value)) in
    (t.joined ∙ rw (t.first.0, back, from) refl, (rw from t.first.1, rw to t.second.first.1))))
