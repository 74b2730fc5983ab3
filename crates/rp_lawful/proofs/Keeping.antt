-- How parts of a line keep soundness: one lemma for each way in which parts are joined.
use Rattle.std.proofs.Common.{◌≡◌, ℕ, zero, suc, Bool, true, false, cond, List, [], ◌∷◌, Ok, Err, refl, subst, ◌∙◌}
use Rattle.std.specs.Prelude.{slice_get, Some}
use Rattle.std.specs.List.{AllByRecursion}
use Rattle.rp_journals.proofs.Growing.{later_refl, later_trans}
use Rattle.rp_journals.proofs.Lists.{all_weaker}
use Rattle.rp_lines.specs.Players.{Player, Played, Limit, and_then}
use Rattle.rp_lines.specs.Settling.{for_each, repeated}
use Rattle.rp_lawful.specs.Sound.{Sound}
use Rattle.rp_lawful.specs.Onward.{LeadsOn}

-- where this ends well, it leads on from the player
abbrev pub Keeps : ℕ → Player → Played → Type 0
Keeps k p result = (q : Player) → result ≡ Ok q → LeadsOn k p q

pub leads_refl : (k : ℕ) (p : Player) → Sound k p → LeadsOn k p p
leads_refl k p s = record { sound = s; later = later_refl p.world.nodes; size = refl; sent = refl; booked = λ id b is. is }

pub leads_trans : (k : ℕ) (p q r : Player) → LeadsOn k p q → LeadsOn k q r → LeadsOn k p r
leads_trans k p q r a b = record {
  sound = b.sound;
  later = later_trans p.world.nodes q.world.nodes r.world.nodes a.later b.later;
  size = b.size ∙ a.size;
  sent = b.sent ∙ a.sent;
  booked = λ id x is. b.booked id x (a.booked id x is);
}

some_ok : (p q : Player) → ◌≡◌ {A = Played} (Ok p) (Ok q) → p ≡ q
some_ok p q e = cc

err_ok : (limit : Limit) (q : Player) → ◌≡◌ {A = Played} (Err limit) (Ok q) → ⊥
err_ok limit q e = cc

pub kept_ok : (k : ℕ) (p q : Player) → LeadsOn k p q → Keeps k p (Ok q)
kept_ok k p q l r e = subst (LeadsOn k p) (some_ok q r e) l

-- what goes on behind a part that leads on, from where it leads
pub then_keeps : (k : ℕ) (p : Player) (first : Played) (next : Player → Played) → Keeps k p first → ((q : Player) → LeadsOn k p q → Keeps k q (next q)) → Keeps k p (and_then first next)
then_keeps k p (Ok q) next keeps onward r e =
    let l : LeadsOn k p q = keeps q refl in
    leads_trans k p q r l (onward q l r e)
then_keeps k p (Err limit) next keeps onward r e = absurd (err_ok limit r e)

-- also where the first part changes more than a part does
pub split_then : (first : Played) (next : Player → Played) (r : Player) → and_then first next ≡ Ok r → (q : Player) × (first ≡ Ok q) × (next q ≡ Ok r)
split_then (Ok q) next r e = (q, refl, e)
split_then (Err limit) next r e = absurd (err_ok limit r e)

-- a part by a test
pub if_keeps : (k : ℕ) (p : Player) (b : Bool) (one other : Played) → Keeps k p one → Keeps k p other → Keeps k p (cond b one other)
if_keeps k p true one other h g = h
if_keeps k p false one other h g = g

-- one after another, each of which keeps wherever those before it led
pub each_keeps : {A : Type 0} (k : ℕ) (act : A → Player → Played) (xs : List A) (p : Player) → Sound k p → AllByRecursion (λ (x : A). (q : Player) → LeadsOn k p q → Keeps k q (act x q)) xs → Keeps k p (for_each act xs p)
each_keeps k act [] p s h = kept_ok k p p (leads_refl k p s)
each_keeps {A} k act (x ∷ xs) p s h =
    then_keeps k p (act x p) (for_each act xs) (h.0 p (leads_refl k p s))
    (λ q l. each_keeps k act xs q l.sound
    (all_weaker (λ (y : A). (r : Player) → LeadsOn k p r → Keeps k r (act y r)) (λ (y : A). (r : Player) → LeadsOn k q r → Keeps k r (act y r)) (λ y keeps r m. keeps r (leads_trans k p q r l m)) xs h.1))

-- so many times
pub repeated_keeps : (k : ℕ) (n : ℕ) (act : Player → Played) (p : Player) → Sound k p → ((q : Player) → LeadsOn k p q → Keeps k q (act q)) → Keeps k p (repeated n act p)
repeated_keeps k zero act p s keeps = kept_ok k p p (leads_refl k p s)
repeated_keeps k (suc n) act p s keeps =
    then_keeps k p (act p) (repeated n act) (keeps p (leads_refl k p s))
    (λ q l. repeated_keeps k n act q l.sound (λ r m. keeps r (leads_trans k p q r l m)))

-- what holds of every item
pub all_of : {A : Type 0} (P : A → Type 0) → ((x : A) → P x) → (xs : List A) → AllByRecursion P xs
all_of P each [] = tt
all_of P each (x ∷ xs) = (each x, all_of P each xs)

-- what holds of each item at its place
pub all_at : {A : Type 0} (P : A → Type 0) (xs : List A) → ((i : ℕ) (x : A) → slice_get xs i ≡ Some x → P x) → AllByRecursion P xs
all_at P [] each = tt
all_at P (x ∷ xs) each = (each zero x refl, all_at P xs (λ i y at. each (suc i) y at))
