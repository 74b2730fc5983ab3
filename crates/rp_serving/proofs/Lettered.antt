-- The letters of a sender's list: their numbers, where each stands, and what is left of them behind a delivery.
use Rattle.std.proofs.Common.{◌≡◌, ℕ, zero, suc, ◌+◌, ◌-◌, Bool, true, false, cond, Some, List, [], ◌∷◌, ◌++◌, append-nil, append_assoc, length, take, drop, refl, sym, ap, subst, ◌∙◌, arith}
use Rattle.std.specs.Prelude.{not, ◌==◌, slice_get}
use Rattle.std.proofs.lemmas.Bool.{and_parts, eqb-true}
use Rattle.rp_request.specs.Applied.{AppliedState}
use Rattle.rp_events.specs.declared.parcels.Parcel.{Parcel}
use Rattle.rp_events.specs.Nodes.{Node, parcel_of}
use Rattle.rp_workers.specs.Losses.{is_lost}
use Rattle.rp_journals.specs.Growth.{Begins}
use Rattle.rp_race.specs.declared.rules.RaceRules.{RaceRules}
use Rattle.rp_race.specs.Owed.{heard_from, is_carried, carried_behind, carried}
use Rattle.rp_serving.specs.declared.letters.Letter.{Letter}
use Rattle.rp_serving.specs.Letters.{letters_behind, letters_of, numbers, AreLeft}

numbers_cons : (b : Bool) (l : Letter) (ls : List Letter) (ks : List ℕ) → numbers ls ≡ ks → numbers (cond b (l ∷ ls) ls) ≡ cond b (l.number ∷ ks) ks
numbers_cons true l ls ks e = ap (λ zs. l.number ∷ zs) e
numbers_cons false l ls ks e = e

pub numbers_are : (rules : RaceRules) (from to k : ℕ) (ps : List (Parcel AppliedState)) → numbers (letters_behind rules from to k ps) ≡ carried_behind rules from to k ps
numbers_are rules from to k [] = refl
numbers_are rules from to k (p ∷ ps) =
    numbers_cons (is_carried rules from to k p) (record { number = k; parcel = p }) (letters_behind rules from to (k + 1) ps) (carried_behind rules from to (k + 1) ps) (numbers_are rules from to (k + 1) ps)

pub numbers_further : (xs ys : List Letter) → numbers (xs ++ ys) ≡ numbers xs ++ numbers ys
numbers_further [] ys = refl
numbers_further (x ∷ xs) ys = ap (λ zs. x.number ∷ zs) (numbers_further xs ys)

letters_cons : (b : Bool) (l : Letter) (whole front more : List Letter) → whole ≡ front ++ more → cond b (l ∷ whole) whole ≡ cond b (l ∷ front) front ++ more
letters_cons true l whole front more e = ap (λ zs. l ∷ zs) e
letters_cons false l whole front more e = e

pub letters_further : (rules : RaceRules) (from to k : ℕ) (xs ys : List (Parcel AppliedState)) → letters_behind rules from to k (xs ++ ys) ≡ letters_behind rules from to k xs ++ letters_behind rules from to (k + length xs) ys
letters_further rules from to k [] ys = ap (λ z. letters_behind rules from to z ys) (let z : k ≡ k + 0 = omega arith in z)
letters_further rules from to k (p ∷ xs) ys =
    let n : k + 1 + length xs ≡ k + length (p ∷ xs) = omega arith in
    letters_cons (is_carried rules from to k p) (record { number = k; parcel = p }) (letters_behind rules from to (k + 1) (xs ++ ys)) (letters_behind rules from to (k + 1) xs) (letters_behind rules from to (k + length (p ∷ xs)) ys)
    (letters_further rules from to (k + 1) xs ys ∙ ap (λ z. letters_behind rules from to (k + 1) xs ++ letters_behind rules from to z ys) n)

-- where a letter stands
pub record Stands (rules : RaceRules) (from to k : ℕ) (ps : List (Parcel AppliedState)) (l : Letter) : Type 0 where
  pub i : ℕ
  pub here : slice_get ps i ≡ Some l.parcel
  pub number : l.number ≡ k + i
  pub carried : is_carried rules from to l.number l.parcel ≡ true

abbrev letter_at : (k : ℕ) → Parcel AppliedState → Letter
letter_at k p = record { number = k; parcel = p }

first_letter : (a b : Letter) (xs ys : List Letter) → ◌≡◌ {A = List Letter} (a ∷ xs) (b ∷ ys) → a ≡ b
first_letter a b xs ys e = cc

other_letters : (a b : Letter) (xs ys : List Letter) → ◌≡◌ {A = List Letter} (a ∷ xs) (b ∷ ys) → xs ≡ ys
other_letters a b xs ys e = cc

pub stands_in : (rules : RaceRules) (from to k : ℕ) (ps : List (Parcel AppliedState)) (gone rest : List Letter) (l : Letter) → letters_behind rules from to k ps ≡ gone ++ l ∷ rest → Stands rules from to k ps l
stands_in rules from to k [] [] rest l e = absurd cc
stands_in rules from to k [] (g ∷ gone) rest l e = absurd cc
stands_in rules from to k (p ∷ ps) gone rest l e =
    go (λ gone' e'. stands_in rules from to (k + 1) ps gone' rest l e') (is_carried rules from to k p) refl gone e where
      later : Stands rules from to (k + 1) ps l → Stands rules from to k (p ∷ ps) l
      later s = record { i = suc s.i; here = s.here; number = let z = s.number in omega (arith, z); carried = s.carried }

      go : ((gone : List Letter) → letters_behind rules from to (k + 1) ps ≡ gone ++ l ∷ rest → Stands rules from to (k + 1) ps l) → (b : Bool) → is_carried rules from to k p ≡ b → (gone : List Letter) → cond b (letter_at k p ∷ letters_behind rules from to (k + 1) ps) (letters_behind rules from to (k + 1) ps) ≡ gone ++ l ∷ rest
          → Stands rules from to k (p ∷ ps) l
      go further true is [] e' =
          let same : letter_at k p ≡ l = first_letter (letter_at k p) l (letters_behind rules from to (k + 1) ps) rest e' in
          record {
            i = zero;
            here = ap (λ (z : Letter). Some z.parcel) same;
            number = ap (λ (z : Letter). z.number) (sym same) ∙ let z : k ≡ k + 0 = omega arith in z;
            carried = subst (λ (z : Letter). is_carried rules from to z.number z.parcel ≡ true) same is;
          }
      go further true is (g ∷ gone) e' = later (further gone (other_letters (letter_at k p) g (letters_behind rules from to (k + 1) ps) (gone ++ l ∷ rest) e'))
      go further false is gone e' = later (further gone e')

pub stands_of : (rules : RaceRules) (from to : ℕ) (sent : List (Parcel AppliedState)) (l : Letter) → Stands rules from to 1 sent l → parcel_of sent l.number ≡ Some l.parcel
stands_of rules from to sent l s =
    let is : l.number ≡ suc s.i = let z = s.number in omega (arith, z) in
    ap (parcel_of sent) is ∙ s.here

pub goes_to : (rules : RaceRules) (from to : ℕ) (sent : List (Parcel AppliedState)) (l : Letter) → Stands rules from to 1 sent l → l.parcel.to ≡ to
goes_to rules from to sent l s = eqb-true l.parcel.to to (and_parts (l.parcel.to == to) (not (is_lost rules.loss rules.salt from l.number)) s.carried).0

-- what is left, beside what is gone
record Leaves (from : ℕ) (n : Node) (letters all : List Letter) : Type 0 where
  gone : List Letter
  are : all ≡ gone ++ letters
  heard : heard_from from n.journal ≡ numbers gone

numbers_long : (xs : List Letter) → length (numbers xs) ≡ length xs
numbers_long [] = refl
numbers_long (x ∷ xs) = ap suc (numbers_long xs)

take_front : (xs ys : List Letter) → take (length xs) (xs ++ ys) ≡ xs
take_front [] ys = refl
take_front (x ∷ xs) ys = ap (λ l. x ∷ l) (take_front xs ys)

drop_front : (xs ys : List Letter) → drop (length xs) (xs ++ ys) ≡ ys
drop_front [] ys = refl
drop_front (x ∷ xs) ys = drop_front xs ys

take_drop : (k : ℕ) (xs : List Letter) → xs ≡ take k xs ++ drop k xs
take_drop zero xs = refl
take_drop (suc k) [] = refl
take_drop (suc k) (x ∷ xs) = ap (λ l. x ∷ l) (take_drop k xs)

leaves : (from : ℕ) (n : Node) (letters all : List Letter) → AreLeft from n letters all → Leaves from n letters all
leaves from n letters all a =
    let k = length (heard_from from n.journal) in
    record { gone = take k all; are = take_drop k all ∙ ap (λ l. take k all ++ l) (sym a.are); heard = a.heard }

pub are_left : (from : ℕ) (n : Node) (gone letters all : List Letter) → all ≡ gone ++ letters → heard_from from n.journal ≡ numbers gone → AreLeft from n letters all
are_left from n gone letters all are heard =
    let long : length (heard_from from n.journal) ≡ length gone = ap length heard ∙ numbers_long gone in
    record {
      are = sym (ap (drop (length (heard_from from n.journal))) are ∙ ap (λ k. drop k (gone ++ letters)) long ∙ drop_front gone letters);
      heard = heard ∙ ap numbers (sym (ap (take (length (heard_from from n.journal))) are ∙ ap (λ k. take k (gone ++ letters)) long ∙ take_front gone letters));
    }

-- where the next letter stands
pub left_stands : (rules : RaceRules) (from to : ℕ) (n : Node) (l : Letter) (letters : List Letter) (sent : List (Parcel AppliedState)) → AreLeft from n (l ∷ letters) (letters_of rules from to sent) → Stands rules from to 1 sent l
left_stands rules from to n l letters sent a =
    let g : Leaves from n (l ∷ letters) (letters_of rules from to sent) = leaves from n (l ∷ letters) (letters_of rules from to sent) a in
    stands_in rules from to 1 sent g.gone letters l g.are

-- what is heard of a sender, and what is left: a beginning of all that is carried
pub left_begins : (rules : RaceRules) (from to : ℕ) (n : Node) (letters : List Letter) (sent : List (Parcel AppliedState)) → AreLeft from n letters (letters_of rules from to sent)
    → Begins (heard_from from n.journal) (carried rules from to sent)
left_begins rules from to n letters sent a =
    let g : Leaves from n letters (letters_of rules from to sent) = leaves from n letters (letters_of rules from to sent) a in
    record {
      more = numbers letters;
      is = sym (numbers_are rules from to 1 sent) ∙ ap numbers g.are ∙ numbers_further g.gone letters ∙ ap (λ ks. ks ++ numbers letters) (sym g.heard);
    }

pub left_next : (rules : RaceRules) (from to : ℕ) (n : Node) (l : Letter) (letters : List Letter) (sent : List (Parcel AppliedState)) → AreLeft from n (l ∷ letters) (letters_of rules from to sent)
    → Begins (heard_from from n.journal ++ l.number ∷ []) (carried rules from to sent)
left_next rules from to n l letters sent a =
    let g : Leaves from n (l ∷ letters) (letters_of rules from to sent) = leaves from n (l ∷ letters) (letters_of rules from to sent) a in
    record {
      more = numbers letters;
      is = sym (numbers_are rules from to 1 sent) ∙ ap numbers g.are ∙ numbers_further g.gone (l ∷ letters) ∙ ap (λ ks. ks ++ l.number ∷ numbers letters) (sym g.heard)
          ∙ sym (append_assoc (heard_from from n.journal) (l.number ∷ []) (numbers letters));
    }

pub left_after : (from : ℕ) (n later : Node) (l : Letter) (letters all : List Letter) → AreLeft from n (l ∷ letters) all
    → heard_from from later.journal ≡ heard_from from n.journal ++ l.number ∷ [] → AreLeft from later letters all
left_after from n later l letters all a heard =
    let g : Leaves from n (l ∷ letters) all = leaves from n (l ∷ letters) all a in
    are_left from later (g.gone ++ l ∷ []) letters all (g.are ∙ sym (append_assoc g.gone (l ∷ []) letters))
    (heard ∙ ap (λ ks. ks ++ l.number ∷ []) g.heard ∙ sym (numbers_further g.gone (l ∷ [])))

pub left_none : (rules : RaceRules) (from to : ℕ) (n : Node) (sent : List (Parcel AppliedState)) → AreLeft from n [] (letters_of rules from to sent) → heard_from from n.journal ≡ carried rules from to sent
left_none rules from to n sent a =
    let g : Leaves from n [] (letters_of rules from to sent) = leaves from n [] (letters_of rules from to sent) a in
    g.heard ∙ ap numbers (sym (g.are ∙ append-nil g.gone)) ∙ numbers_are rules from to 1 sent

pub left_same : (from : ℕ) (n later : Node) (letters all : List Letter) → AreLeft from n letters all → heard_from from later.journal ≡ heard_from from n.journal → AreLeft from later letters all
left_same from n later letters all a same =
    let g : Leaves from n letters all = leaves from n letters all a in
    are_left from later g.gone letters all g.are (same ∙ g.heard)

-- where all was heard nothing is left
pub none_left : (rules : RaceRules) (from to : ℕ) (n : Node) (sent : List (Parcel AppliedState)) → heard_from from n.journal ≡ carried rules from to sent → AreLeft from n [] (letters_of rules from to sent)
none_left rules from to n sent heard =
    are_left from n (letters_of rules from to sent) [] (letters_of rules from to sent) (sym (append-nil (letters_of rules from to sent))) (heard ∙ sym (numbers_are rules from to 1 sent))
