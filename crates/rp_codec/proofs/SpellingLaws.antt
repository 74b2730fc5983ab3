-- The laws of payload bytes.
use Rattle.std.proofs.Common.{◌≡◌, ℕ, ◌+◌, ◌==◌, not, Bool, true, false, List, [], ◌∷◌, ◌++◌, length, Result, Ok, Err, refl, sym, ap, ◌∙◌, arith, if◌then◌else◌}
use Rattle.std.specs.Prelude.{IfOk}
use Rattle.std.proofs.lemmas.Bool.{eqb-true}
use Rattle.std.proofs.lemmas.Bool.Decides.{nat_tests}
use Rattle.std.proofs.lemmas.List.{append-nil, nil_from_length}
use Rattle.rp_request.specs.declared.Payload.{Payload}
use Rattle.rp_codec.specs.Cursors.{Left, whole}
use Rattle.rp_request.specs.Fits.{AreBytes, FitsPayload}
use Rattle.rp_request.specs.Texts.{payload_has_text}
use Rattle.rp_codec.specs.Reading.{bad, begins_with, ended, payload_at, all_in, canonical, payload_in, Decoded}
use Rattle.rp_codec.specs.Spelling.{payload_bytes, spelling}
use Rattle.rp_codec.specs.declared.faults.BadField.{BadField}
use Rattle.rp_codec.specs.declared.faults.DecodeFault.{DecodeFault}
use Rattle.rp_codec.proofs.Readers.{from_place, Taken}
use Rattle.rp_codec.proofs.PayloadLaws.{payload_again, payload_takes}
use Rattle.rp_codec.proofs.Suits.{Suits}
use Rattle.rp_request.specs.declared.Payload.TheVariants as payloads

-- the first byte says whether texts may stand
begins_by : (texts : Bool) (p : Payload) (rest : List ℕ) → begins_with 2 (payload_bytes texts p ++ rest) ≡ texts
unfolding payload_bytes
begins_by true payloads.Nothing rest = refl
begins_by true (payloads.Write c) rest = refl
begins_by true (payloads.Lease a) rest = refl
begins_by false payloads.Nothing rest = refl
begins_by false (payloads.Write c) rest = refl
begins_by false (payloads.Lease a) rest = refl

-- a payload's spelling is read whatever follows it
front_read : (p : Payload) (rest : List ℕ) → FitsPayload p → payload_at (whole (spelling p ++ rest)) ≡ Ok (p, from_place (length (spelling p)) rest)
unfolding spelling
front_read p rest fits =
    let text = payload_bytes (payload_has_text p) p in
    let e : 0 + length text ≡ length text = omega arith in rw e at (payload_again p fits 0 rest)

-- version 2 spells what holds a text, and nothing else
pub version_says : (p : Payload) → begins_with 2 (spelling p) ≡ payload_has_text p
unfolding spelling
version_says p = rw append-nil at (begins_by (payload_has_text p) p [])

-- what is spelled by its own version is let through
own : (texts : Bool) (p : Payload) → payload_has_text p ≡ texts → canonical texts (Ok p) ≡ Ok p
own true p has = rw has refl
own false p has = refl

-- what is spelled is read
pub read_as_spelled : (p : Payload) → FitsPayload p → payload_in (spelling p) ≡ Ok p
unfolding payload_in all_in spelling
read_as_spelled p fits =
    let read = rw append-nil at (front_read p [] fits) in
    let begins = rw append-nil at (begins_by (payload_has_text p) p []) in
    rw (read, begins) (own (payload_has_text p) p refl)

-- bytes behind a payload are refused at its length
pub read_past : (p : Payload) (b : ℕ) (rest : List ℕ) → FitsPayload p → payload_in (spelling p ++ b ∷ rest) ≡ bad (length (spelling p))
unfolding payload_in all_in
read_past p b rest fits =
    let some : (length (b ∷ rest) == 0) ≡ false = grind (arith, nat_tests) in
    rw (front_read p (b ∷ rest) fits, some) refl

found_is : (p q : Payload) → ◌≡◌ {A = Result Payload BadField} (Ok p) (Ok q) → p ≡ q
found_is p q e = cc

read_is : (p q : Payload × Left) → ◌≡◌ {A = Result (Payload × Left) BadField} (Ok p) (Ok q) → p ≡ q
read_is p q e = cc

ended_found : (found : Payload × Left) (p : Payload) (v : Bool) → (length found.1.bytes == 0) ≡ v → (if v then Ok found.0 else bad found.1.place) ≡ Ok p
    → (left : Left) × (◌≡◌ {A = Result (Payload × Left) BadField} (Ok found) (Ok (p, left))) × (left.bytes ≡ [])
ended_found found p true e h = (found.1, ap (λ (x : Payload). let r : Result (Payload × Left) BadField = Ok (x, found.1) in r) (found_is found.0 p h), nil_from_length found.1.bytes (eqb-true _ _ e))
ended_found found p false e h = absurd cc

ended_ok : (r : Result (Payload × Left) BadField) (p : Payload) → ended r ≡ Ok p → (left : Left) × (r ≡ Ok (p, left)) × (left.bytes ≡ [])
ended_ok (Err e) p h = absurd cc
ended_ok (Ok found) p h = ended_found found p (length found.1.bytes == 0) refl h

-- what is let through was read, and holds a text where the version says so
let_through : (p q : Payload) (v : Bool) → payload_has_text q ≡ v → (if not v then bad 0 else (let r : Result Payload BadField = Ok q in r)) ≡ Ok p
    → (◌≡◌ {A = Result Payload BadField} (Ok q) (Ok p)) × (payload_has_text p ≡ true)
let_through p q true has h = (h, rw (found_is q p h) at has)
let_through p q false has h = absurd cc

canonical_ok : (texts : Bool) (r : Result Payload BadField) (p : Payload) → canonical texts r ≡ Ok p → (r ≡ Ok p) × (texts ≡ true → payload_has_text p ≡ true)
canonical_ok texts (Err e) p h = absurd cc
canonical_ok true (Ok q) p h = let t = let_through p q _ refl h in (t.0, λ e. t.1)
canonical_ok false (Ok q) p h = (h, λ e. absurd cc)

-- the version is the payload's own
is_own : (texts held : Bool) → Suits texts held → (texts ≡ true → held ≡ true) → texts ≡ held
is_own true held suits holds = sym (holds refl)
is_own false true suits holds = suits refl
is_own false false suits holds = refl

-- what is read is so spelled
pub spelled_as_read : (bytes : List ℕ) (p : Payload) → AreBytes bytes → payload_in bytes ≡ Ok p → (bytes ≡ spelling p) × FitsPayload p
unfolding payload_in all_in spelling
spelled_as_read bytes p are h =
    let c = canonical_ok (begins_with 2 bytes) (ended (payload_at (whole bytes))) p h in
    let e = ended_ok (payload_at (whole bytes)) p c.0 in
    let t : Taken (λ p text. (texts : Bool) × (text ≡ payload_bytes texts p) × FitsPayload p × Suits texts (payload_has_text p)) (whole bytes) e.0 p = payload_takes (whole bytes) e.0 p are e.1 in
    let texts = t.says.0 in
    let is : bytes ≡ payload_bytes texts p ++ [] = t.parts ∙ rw (e.2, t.says.1) refl in
    let begins : begins_with 2 bytes ≡ texts = ap (begins_with 2) is ∙ begins_by texts p [] in
    let version : texts ≡ payload_has_text p = is_own texts (payload_has_text p) t.says.3 (λ yes. c.1 (begins ∙ yes)) in
    (is ∙ append-nil (payload_bytes texts p) ∙ ap (λ (v : Bool). payload_bytes v p) version, t.says.2)

-- equal spellings are of one payload
pub one_spelling : (p q : Payload) → FitsPayload p → FitsPayload q → spelling p ≡ spelling q → p ≡ q
one_spelling p q fits others same = found_is p q (sym (read_as_spelled p fits) ∙ ap payload_in same ∙ read_as_spelled q others)

-- no spelling begins another one
pub no_front : (p q : Payload) (rest : List ℕ) → FitsPayload p → FitsPayload q → spelling p ++ rest ≡ spelling q → (rest ≡ []) × (p ≡ q)
no_front p q rest fits others same =
    let first = front_read p rest fits in
    let second = front_read q [] others in
    let both = sym first ∙ ap (λ (bytes : List ℕ). payload_at (whole bytes)) (same ∙ sym (append-nil (spelling q))) ∙ second in
    let is = read_is (p, from_place (length (spelling p)) rest) (q, from_place (length (spelling q)) []) both in
    (ap (λ (r : Payload × Left). r.1.bytes) is, ap (λ (r : Payload × Left). r.0) is)

-- a result of `decode` that gives what is read
pub given_spelled : (bytes : List ℕ) (r : Result Payload DecodeFault) → AreBytes bytes → Decoded r (payload_in bytes) → IfOk r (λ p. (bytes ≡ spelling p) × FitsPayload p)
given_spelled bytes (Ok p) are given = spelled_as_read bytes p are given
given_spelled bytes (Err e) are given = tt
