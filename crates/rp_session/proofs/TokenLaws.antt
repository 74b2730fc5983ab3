-- A token is a key, spelled as it is said to be.
use Rattle.std.proofs.Common.{◌≡◌, ℕ, suc, ◌+◌, ◌/◌, ◌%◌, ◌<◌, ◌≤◌, true, List, [], ◌∷◌, ◌++◌, length, take, drop, get_or, replicate, Result, Ok, refl, sym, ap, ◌∙◌, arith, length-append, map}
use Rattle.std.specs.Prelude.{Bool, false, ◌||◌, ◌==◌}
use Rattle.std.specs.List.{prefix_len, list_any}
use Rattle.std.proofs.lemmas.Bool.Decides.{nat_tests}
use Rattle.std.proofs.Math.Seq.{take-append_seam, drop-append_seam}
use Rattle.std.proofs.lemmas.List.Folds.{prefix_len-append}
use Rattle.std.proofs.lemmas.Slice.{take-put_mid}
use borrow.Rule.Slice.PartMut.{put_mid}
use Rattle.rp_base.specs.declared.keys.BadKey.{BadKey}
use Rattle.rp_base.specs.Keys.{is_key_byte, key_of, key_text, IsKey}
use Rattle.rp_base.proofs.KeyLaws.{key_of_ok, key_text_good, spelled_as_read, read_as_spelled}
use Rattle.rp_session.specs.Tokens.{digit_at, two_digits, six_digits, suffix, token_text, token_of, has_dash, IsAdd}

digit_good : (n : ℕ) → n < 10 → is_key_byte (48 + n) ≡ true
digit_good n h = grind (arith, nat_tests)

digits_good : (n : ℕ) (units : List ℕ) → prefix_len is_key_byte (map (digit_at n) units) ≡ length units
digits_good n [] = refl
digits_good n (unit ∷ units) =
    let low : n / unit % 10 < 10 = omega arith in
    rw (digit_good (n / unit % 10) low) (grind (arith, digits_good n units))

length-digits : (n : ℕ) (units : List ℕ) → length (map (digit_at n) units) ≡ length units
length-digits n [] = refl
length-digits n (unit ∷ units) = ap (λ k. suc k) (length-digits n units)

-- all bytes of two texts are good where all of each are
good_together : (xs ys : List ℕ) → prefix_len is_key_byte xs ≡ length xs → prefix_len is_key_byte ys ≡ length ys
    → prefix_len is_key_byte (xs ++ ys) ≡ length (xs ++ ys)
good_together xs ys front behind =
    rw (prefix_len-append is_key_byte xs ys, front, behind, length-append xs ys) (grind (arith, nat_tests))

pub suffix_good : (client number : ℕ) → prefix_len is_key_byte (suffix client number) ≡ 9
unfolding suffix
suffix_good client number =
    good_together (45 ∷ two_digits client) (six_digits number)
    (ap (λ n. 1 + n) (digits_good client (10 ∷ 1 ∷ [])))
    (digits_good number (100000 ∷ 10000 ∷ 1000 ∷ 100 ∷ 10 ∷ 1 ∷ []))

pub length-suffix : (client number : ℕ) → length (suffix client number) ≡ 9
unfolding suffix
length-suffix client number = refl

-- a token is read as a key
pub token_read : (client number key : ℕ) → IsKey key → length (key_text key) ≤ 7
    → key_of (token_text client number key) ≡ Ok (token_of client number key)
token_read client number key is short =
    let long : length (suffix client number) ≡ 9 = length-suffix client number in
    let good : prefix_len is_key_byte (token_text client number key) ≡ length (token_text client number key) =
    good_together (key_text key) (suffix client number) (key_text_good key is) (suffix_good client number ∙ sym long) in
    let all : length (token_text client number key) ≡ length (key_text key) + 9 =
    length-append (key_text key) (suffix client number) ∙ ap (λ n. length (key_text key) + n) long in
    key_of_ok (token_text client number key) (omega arith) (omega arith)

pub is_key_token : (client number key : ℕ) → IsKey key → length (key_text key) ≤ 7 → IsKey (token_of client number key)
is_key_token client number key is short = (token_text client number key, token_read client number key is short)

pub token_spelled : (client number key : ℕ) → IsKey key → length (key_text key) ≤ 7
    → key_text (token_of client number key) ≡ token_text client number key
token_spelled client number key is short =
    spelled_as_read (token_text client number key) (token_of client number key) (token_read client number key is short)

-- the bytes that the code writes are the token's text
pub written : (text bytes copy behind : List ℕ) (k n m : ℕ) → bytes ≡ text ++ replicate m 0 → k ≡ length text → copy ≡ behind → length behind ≡ 9
    → take (k + 9) (put_mid k n bytes copy) ≡ text ++ behind
written text bytes copy behind k n m is from same long =
    let zeros : List ℕ = replicate m 0 in
    let all : length bytes ≡ length text + length zeros = ap length is ∙ length-append text zeros in
    let nine : length copy ≡ 9 = ap length same ∙ long in
    let front : take k bytes ≡ text = rw (is, from) (take-append_seam text (replicate m 0)) in
    let end : k + 9 ≡ k + length copy = ap (λ n. k + n) (sym nine) in
    let within : k ≤ length bytes = omega (arith, all, from) in
    take-put_mid k n bytes copy (k + 9) end within ∙ ap (λ xs. xs ++ copy) front ∙ ap (λ xs. text ++ xs) same

-- what the code reads back is the token
pub read_back : (client number key k n m : ℕ) (bytes copy : List ℕ) (r : Result ℕ BadKey) → IsKey key → length (key_text key) ≤ 7
    → bytes ≡ key_text key ++ replicate m 0 → k ≡ length (key_text key) → copy ≡ suffix client number
    → r ≡ key_of (take (k + 9) (put_mid k n bytes copy)) → r ≡ Ok (token_of client number key)
read_back client number key k n m bytes copy r is short front from same read =
    read
    ∙ ap key_of (written (key_text key) bytes copy (suffix client number) k n m front from same (length-suffix client number))
    ∙ token_read client number key is short

-- two keys that are spelled alike are one
key_same : (m n : ℕ) → IsKey m → IsKey n → key_text m ≡ key_text n → m ≡ n
key_same m n hm hn same =
    let e : key_of (key_text m) ≡ key_of (key_text n) = ap key_of same in
    let a = read_as_spelled m hm in
    let b = read_as_spelled n hn in
    cc

-- two texts with ends of one length are alike where both parts are
front_same : (xs ys us vs : List ℕ) → xs ++ us ≡ ys ++ vs → length us ≡ length vs → xs ≡ ys
front_same xs ys us vs same long =
    let all : length xs + length us ≡ length ys + length vs = sym (length-append xs us) ∙ ap length same ∙ length-append ys vs in
    let k : length xs ≡ length ys = omega arith in
    sym (take-append_seam xs us) ∙ ap (λ n. take n (xs ++ us)) k ∙ ap (take (length ys)) same ∙ take-append_seam ys vs

behind_same : (xs ys us vs : List ℕ) → xs ++ us ≡ ys ++ vs → length us ≡ length vs → us ≡ vs
behind_same xs ys us vs same long =
    let all : length xs + length us ≡ length ys + length vs = sym (length-append xs us) ∙ ap length same ∙ length-append ys vs in
    let k : length xs ≡ length ys = omega arith in
    sym (drop-append_seam xs us) ∙ ap (λ n. drop n (xs ++ us)) k ∙ ap (drop (length ys)) same ∙ drop-append_seam ys vs

same_client : (c n d m : ℕ) → c ≤ 32 → d ≤ 32 → suffix c n ≡ suffix d m → c ≡ d
unfolding suffix
same_client c n d m low high same =
    let tens : digit_at c 10 ≡ digit_at d 10 = ap (λ bs. get_or bs 1 0) same in
    let ones : digit_at c 1 ≡ digit_at d 1 = ap (λ bs. get_or bs 2 0) same in
    omega arith

same_number : (c n d m : ℕ) → n ≤ 999999 → m ≤ 999999 → suffix c n ≡ suffix d m → n ≡ m
unfolding suffix
same_number c n d m low high same =
    let a : digit_at n 100000 ≡ digit_at m 100000 = ap (λ bs. get_or bs 3 0) same in
    let b : digit_at n 10000 ≡ digit_at m 10000 = ap (λ bs. get_or bs 4 0) same in
    let e : digit_at n 1000 ≡ digit_at m 1000 = ap (λ bs. get_or bs 5 0) same in
    let f : digit_at n 100 ≡ digit_at m 100 = ap (λ bs. get_or bs 6 0) same in
    let g : digit_at n 10 ≡ digit_at m 10 = ap (λ bs. get_or bs 7 0) same in
    let h : digit_at n 1 ≡ digit_at m 1 = ap (λ bs. get_or bs 8 0) same in
    omega arith

-- two adds with one token are one add
pub one_add : (c n k d m l b e : ℕ) → IsKey k → IsKey l → IsAdd c n k b → IsAdd d m l e → token_of c n k ≡ token_of d m l
    → (c ≡ d) × (n ≡ m) × (k ≡ l)
one_add c n k d m l b e hk hl x y same =
    let spelled : token_text c n k ≡ token_text d m l = sym (token_spelled c n k hk x.short) ∙ ap key_text same ∙ token_spelled d m l hl y.short in
    let long : length (suffix c n) ≡ length (suffix d m) = length-suffix c n ∙ sym (length-suffix d m) in
    let behind : suffix c n ≡ suffix d m = behind_same (key_text k) (key_text l) (suffix c n) (suffix d m) spelled long in
    let front : key_text k ≡ key_text l = front_same (key_text k) (key_text l) (suffix c n) (suffix d m) spelled long in
    (same_client c n d m x.to_client_32 y.to_client_32 behind, same_number c n d m x.to_number_999999 y.to_number_999999 behind, key_same k l hk hl front)

-- the dash stands behind the key
dash_at : (c n : ℕ) → list_any (λ b. b == 45) (suffix c n) ≡ true
unfolding suffix
dash_at c n = refl

or_true : (b : Bool) → (b || true) ≡ true
or_true true = refl
or_true false = refl

any_behind : (xs ys : List ℕ) → list_any (λ b. b == 45) ys ≡ true → list_any (λ b. b == 45) (xs ++ ys) ≡ true
any_behind [] ys h = h
any_behind (x ∷ xs) ys h = rw (any_behind xs ys h) (or_true (x == 45))

-- a dash stands in each token
pub token_has_dash : (c n k : ℕ) → IsKey k → length (key_text k) ≤ 7 → has_dash (token_of c n k) ≡ true
token_has_dash c n k is short = rw (token_spelled c n k is short) (any_behind (key_text k) (suffix c n) (dash_at c n))

-- the key's bytes, as the code takes them
pub in_front : (text bytes : List ℕ) (k m : ℕ) → bytes ≡ text ++ replicate m 0 → k ≡ length text → take k bytes ≡ text
in_front text bytes k m is from = rw (is, from) (take-append_seam text (replicate m 0))
