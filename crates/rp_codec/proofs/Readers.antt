-- Readers put together: what is spelled is read again, and what is read is so spelled.
use Rattle.std.proofs.Common.{◌≡◌, ℕ, suc, ◌+◌, Bool, true, false, List, [], ◌∷◌, ◌++◌, length, take, drop, Result, Ok, Err, refl, sym, ap, subst, ◌∙◌, append_assoc, arith, inl, inr, if◌then◌else◌}
use Rattle.std.proofs.lemmas.Bool.{cases_lt}
use Rattle.std.proofs.lemmas.List.{length-append, length-take, get_or-drop, get_or-take, get_or_past}
use Rattle.rp_codec.specs.Cursors.{Left}
use Rattle.rp_request.specs.Fits.{AreBytes}
use Rattle.rp_codec.specs.declared.faults.BadField.{BadField}
use Rattle.rp_codec.specs.Reading.{Reader, going_on, ◌>>=◌, given, refused, begun_at, as_one_field}

pub AreBytes-drop : (n : ℕ) (bytes : List ℕ) → AreBytes bytes → AreBytes (drop n bytes)
AreBytes-drop n bytes h i = rw get_or-drop (h (n + i))

pub AreBytes-take : (n : ℕ) (bytes : List ℕ) → AreBytes bytes → AreBytes (take n bytes)
AreBytes-take n bytes h i =
    elim (cases_lt i n) [
      | inl lt ↦ rw (get_or-take n bytes i 0 lt) (h i)
      | inr le ↦ rw (get_or_past (take n bytes) i 0 (omega (arith, length-take n bytes))) (omega arith)
    ]

pub AreBytes-rest : (b : ℕ) (bytes : List ℕ) → AreBytes (b ∷ bytes) → AreBytes bytes
AreBytes-rest b bytes h i = h (suc i)

abbrev pub from_place : ℕ → List ℕ → Left
from_place place bytes = record { place = place; bytes = bytes }

-- ---- what is spelled is read, whatever follows

abbrev pub Again : {A : Type 0} → Reader A → List ℕ → A → Type 0
Again p text x = (place : ℕ) (rest : List ℕ) → p (from_place place (text ++ rest)) ≡ Ok (x, from_place (place + length text) rest)

pub again_given : {A : Type 0} (x : A) → Again (given x) [] x
again_given x place rest = let e : place + 0 ≡ place = omega arith in rw e refl

pub again_then : {A B : Type 0} (p : Reader A) (f : A → Reader B) (s t : List ℕ) (x : A) (y : B) → Again p s x → Again (f x) t y → Again (p >>= f) (s ++ t) y
again_then p f s t x y hp hf place rest =
    let e : place + length (s ++ t) ≡ place + length s + length t = omega (arith, length-append s t) in
    rw (append_assoc s t rest, hp place (t ++ rest), e) (hf (place + length s) rest)

pub again_last : {A B : Type 0} (p : Reader A) (f : A → B) (s : List ℕ) (x : A) → Again p s x → Again (p >>= λ v. given (f v)) s (f x)
again_last p f s x hp place rest = rw (hp place rest) refl

pub again_one_field : {A : Type 0} (p : Reader A) (s : List ℕ) (x : A) → Again p s x → Again (as_one_field p) s x
again_one_field p s x hp place rest = rw (hp place rest) refl

-- ---- what is read is so spelled

pub record Taken {A : Type 0} (P : A → List ℕ → Type 0) (left after : Left) (x : A) : Type 0 where
  pub text : List ℕ
  pub parts : left.bytes ≡ text ++ after.bytes
  pub rest_fits : AreBytes after.bytes
  pub says : P x text

abbrev pub Takes : {A : Type 0} → Reader A → (A → List ℕ → Type 0) → Type 0
Takes {A} p P = (left after : Left) (x : A) → AreBytes left.bytes → p left ≡ Ok (x, after) → Taken P left after x

pub takes_so : {A : Type 0} (p : Reader A) (P Q : A → List ℕ → Type 0) → Takes p P → ((x : A) (text : List ℕ) → P x text → Q x text) → Takes p Q
takes_so p P Q h weaker left after x fits e =
    let t = h left after x fits e in
    record { text = t.text; parts = t.parts; rest_fits = t.rest_fits; says = weaker x t.text t.says }

abbrev pub found : {A : Type 0} → A → Result A BadField
found x = Ok x

pub found_is : {A : Type 0} (x y : A) → found x ≡ found y → x ≡ y
found_is x y e = cc

abbrev found_at : {A : Type 0} → A → Left → Result (A × Left) BadField
found_at x left = Ok (x, left)

ok_both : {A : Type 0} (x y : A) (left after : Left) → found_at x left ≡ found_at y after → (x ≡ y) × (left ≡ after)
ok_both {A} x y left after e =
    let p : A × Left = (x, left) in
    let q : A × Left = (y, after) in
    let same : p ≡ q = found_is p q e in
    (ap (λ (r : A × Left). r.0) same, ap (λ (r : A × Left). r.1) same)

pub takes_given : {A : Type 0} (x : A) → Takes (given x) (λ y text. (y ≡ x) × (text ≡ []))
takes_given x left after y fits e =
    let same = ok_both x y left after e in
    record { text = []; parts = ap (λ (l : Left). l.bytes) same.1; rest_fits = subst (λ (l : Left). AreBytes l.bytes) same.1 fits; says = (sym same.0, refl) }

pub takes_refused : {A : Type 0} (P : A → List ℕ → Type 0) → Takes (refused {A = A}) P
takes_refused P left after y fits e = absurd cc

-- the value of a step that did not fail
went_on : {A B : Type 0} (r : Result (A × Left) BadField) (f : A → Reader B) (y : B × Left) → going_on r f ≡ Ok y → (x : A × Left) × (r ≡ Ok x) × (f x.0 x.1 ≡ Ok y)
went_on (Ok x) f y e = (x, refl, e)
went_on (Err d) f y e = absurd cc

-- one thing and then another
pub record Then {A B : Type 0} (P : A → List ℕ → Type 0) (Q : A → B → List ℕ → Type 0) (y : B) (text : List ℕ) : Type 0 where
  pub value : A
  pub front : List ℕ
  pub back : List ℕ
  pub first : P value front
  pub second : Q value y back
  pub joined : text ≡ front ++ back

pub takes_then : {A B : Type 0} (p : Reader A) (f : A → Reader B) (P : A → List ℕ → Type 0) (Q : A → B → List ℕ → Type 0) → Takes p P
    → ((x : A) (text : List ℕ) → P x text → Takes (f x) (Q x)) → Takes (p >>= f) (Then P Q)
takes_then p f P Q hp hf left after y fits e =
    let step = went_on (p left) f (y, after) e in
    let a = hp left step.0.1 step.0.0 fits step.1 in
    let b = hf step.0.0 a.text a.says step.0.1 after y a.rest_fits step.2 in
    record {
      text = a.text ++ b.text;
      parts = a.parts ∙ ap (λ (bytes : List ℕ). a.text ++ bytes) b.parts ∙ sym (append_assoc a.text b.text after.bytes);
      rest_fits = b.rest_fits;
      says = record { value = step.0.0; front = a.text; back = b.text; first = a.says; second = b.says; joined = refl };
    }

-- the value is made of one that was read
pub record Made {A B : Type 0} (f : A → B) (P : A → List ℕ → Type 0) (y : B) (text : List ℕ) : Type 0 where
  pub value : A
  pub is : y ≡ f value
  pub of : P value text

pub takes_last : {A B : Type 0} (p : Reader A) (f : A → B) (P : A → List ℕ → Type 0) → Takes p P → Takes (p >>= λ v. given (f v)) (Made f P)
takes_last p f P hp left after y fits e =
    let step = went_on (p left) (λ v. given (f v)) (y, after) e in
    let a = hp left step.0.1 step.0.0 fits step.1 in
    let same = ok_both (f step.0.0) y step.0.1 after step.2 in
    record {
      text = a.text;
      parts = a.parts ∙ ap (λ (l : Left). a.text ++ l.bytes) same.1;
      rest_fits = subst (λ (l : Left). AreBytes l.bytes) same.1 a.rest_fits;
      says = record { value = step.0.0; is = sym same.0; of = a.says };
    }

unfailed : {A : Type 0} (place : ℕ) (r : Result A BadField) (x : A) → begun_at place r ≡ Ok x → r ≡ Ok x
unfailed place (Ok y) x e = e
unfailed place (Err d) x e = absurd cc

pub takes_one_field : {A : Type 0} (p : Reader A) (P : A → List ℕ → Type 0) → Takes p P → Takes (as_one_field p) P
takes_one_field p P hp left after x fits e = hp left after x fits (unfailed left.place (p left) (x, after) e)

pub takes_if : {A : Type 0} (b : Bool) (p q : Reader A) (P : A → List ℕ → Type 0) → (b ≡ true → Takes p P) → (b ≡ false → Takes q P) → Takes (if b then p else q) P
takes_if true p q P hp hq = hp refl
takes_if false p q P hp hq = hq refl
