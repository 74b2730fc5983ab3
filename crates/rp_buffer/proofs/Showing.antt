-- Each step shows a step of the buffer machine.
use Rattle.std.proofs.Common.{◌≡◌, ◌≢◌, ℕ, zero, suc, ◌+◌, ◌*◌, ◌/◌, ◌%◌, ◌<◌, ◌≤◌, cond, eqb, eq-eqb, ne_eqb, Bool, true, false, ◌&&◌, nat_lt, List, [], ◌∷◌, length, take, set, replicate, refl, ap, sym, ◌∙◌, arith, subst, slice_get, slice_index_or, slice_set, Option, Some, None}
use mathlib.Core.Logic.{dite}
use native.Mathlib.Decide.{ℕ_discrete}
use Rattle.std.specs.List.{list_all}
use Rattle.rp_base.specs.declared.items.Item.{Item}
use Rattle.rp_bufcore.specs.declared.buffers.Slot as core
use Rattle.rp_bufcore.specs.declared.buffers.Slot.{Slot}
use Rattle.rp_bufcore.specs.declared.buffers.Slot.TheVariants.{Free, Drawn, Published, Taken}
use Rattle.rp_bufcore.specs.Buffers.{Buffer, start, is_drawn, is_taken, after_draw, after_publish}
use Rattle.rp_bufcore.specs.Buffers as buffers
use Rattle.rp_bufcore.specs.Steps.{after_close, after_take, after_reopen}
use Rattle.rp_buffer.specs.Machine.{Phase, free, drawn, published, taking, taken, Ring, bare, slots_from, shown, IsReached, starts, draws, publishes, closes, takes, reopens}
use Rattle.rp_buffer.proofs.Places.{put, put_here, put_else}

from_same : (m k : ℕ) (f g : ℕ → Phase) → ((q : ℕ) → k ≤ q → q < k + m → bare (f q) ≡ bare (g q)) → slots_from m k f ≡ slots_from m k g
unfolding slots_from
from_same zero k f g same = refl
from_same (suc m) k f g same = λ i. same k (omega arith) (omega arith) i ∷ from_same m (k + 1) f g (λ q low high. same q (omega (arith, low)) (omega (arith, high))) i

from_set : (m k i q : ℕ) (f : ℕ → Phase) (p : Phase) → i < m → q ≡ k + i → slots_from m k (put f q p) ≡ set (slots_from m k f) i (bare p)
unfolding slots_from
from_set zero k i q f p low e = absurd (omega (arith, low))
from_set (suc m) k zero q f p low e = λ j. ap bare (put_here f q k p (omega (arith, e))) j
    ∷ from_same m (k + 1) (put f q p) f (λ o from to. ap bare (put_else f q o p (λ is. omega (arith, is, from, e)))) j
from_set (suc m) k (suc i) q f p low e = λ j. ap bare (put_else f q k p (λ is. omega (arith, is, e))) j
    ∷ from_set m (k + 1) i q f p (omega (arith, low)) (omega (arith, e)) j

from_get : (m k i : ℕ) (f : ℕ → Phase) → i < m → slice_get (slots_from m k f) i ≡ Some (bare (f (k + i)))
unfolding slots_from
from_get zero k i f low = absurd (omega (arith, low))
from_get (suc m) k zero f low = ap (λ z. Some (bare (f z))) (zero_more k)
  where
    zero_more : (k : ℕ) → k ≡ k + 0
    zero_more k = omega arith
from_get (suc m) k (suc i) f low = from_get m (k + 1) i f (omega (arith, low)) ∙ ap (λ z. Some (bare (f z))) (one_more k i)
  where
    one_more : (k i : ℕ) → k + 1 + i ≡ k + suc i
    one_more k i = omega arith

from_index : (m k i : ℕ) (f : ℕ → Phase) (d : Slot) → i < m → slice_index_or (slots_from m k f) i d ≡ bare (f (k + i))
unfolding slots_from
from_index zero k i f d low = absurd (omega (arith, low))
from_index (suc m) k zero f d low = ap (λ z. bare (f z)) (zero_more k)
  where
    zero_more : (k : ℕ) → k ≡ k + 0
    zero_more k = omega arith
from_index (suc m) k (suc i) f d low = from_index m (k + 1) i f d (omega (arith, low)) ∙ ap (λ z. bare (f z)) (one_more k i)
  where
    one_more : (k i : ℕ) → k + 1 + i ≡ k + suc i
    one_more k i = omega arith

from_free : (m k : ℕ) (f : ℕ → Phase) → ((q : ℕ) → k ≤ q → q < k + m → f q ≡ free) → slots_from m k f ≡ replicate m Free
unfolding slots_from
from_free zero k f all = refl
from_free (suc m) k f all = λ i. ap bare (all k (omega arith) (omega arith)) i ∷ from_free m (k + 1) f (λ q low high. all q (omega (arith, low)) (omega (arith, high))) i

from_taken : (m n k : ℕ) (f : ℕ → Phase) → ((p : ℕ) → p < m → p < n → f (k + p) ≡ taken) → list_all is_taken (take n (slots_from m k f)) ≡ true
unfolding slots_from
from_taken zero zero k f all = refl
from_taken zero (suc n) k f all = refl
from_taken (suc m) zero k f all = refl
from_taken (suc m) (suc n) k f all =
    let here : f k ≡ taken = subst (λ z. f z ≡ taken) (zero_more k) (all 0 (omega arith) (omega arith)) in
    let later : list_all is_taken (take n (slots_from m (k + 1) f)) ≡ true = from_taken m n (k + 1) f (λ p low high. subst (λ z. f z ≡ taken) (one_more k p) (all (suc p) (omega (arith, low)) (omega (arith, high)))) in
    grind (arith)
  where
    zero_more : (k : ℕ) → k + 0 ≡ k
    zero_more k = omega arith

    one_more : (k p : ℕ) → k + suc p ≡ k + 1 + p
    one_more k p = omega arith

abbrev pub opening_ring : ℕ → Ring
opening_ring b = record { drawn_to = 0; is_open = true }

abbrev pub opening_phase : ℕ → Phase
opening_phase k = free

abbrev state : Bool → ℕ → List Slot → Buffer
state o d slots = record { is_open = o; drawn = d; slots = slots }

pub at_first : (b : ℕ) → IsReached (shown opening_ring opening_phase b)
at_first b = subst IsReached (ap (state true 0) (sym (from_free 16 (16 * b) opening_phase (λ q low high. refl)))) starts

-- other buffers show the same
pub place_else : (rings : ℕ → Ring) (phases : ℕ → Phase) (q b : ℕ) (p : Phase) → b ≢ q / 16 → shown rings phases b ≡ shown rings (put phases q p) b
place_else rings phases q b p away = ap (state (rings b).is_open (rings b).drawn_to)
    (from_same 16 (16 * b) phases (put phases q p) (λ o low high. ap bare (sym (put_else phases q o p (λ is. away (omega (arith, is, low, high)))))))

pub ring_away : (rings : ℕ → Ring) (phases : ℕ → Phase) (b c : ℕ) (after : Ring) → c ≢ b → shown rings phases c ≡ shown (put rings b after) phases c
ring_away rings phases b c after away = ap (λ (r : Ring). state r.is_open r.drawn_to (slots_from 16 (16 * c) phases)) (sym (put_else rings b c after away))

pub drawn_away : (rings : ℕ → Ring) (phases : ℕ → Phase) (b c q : ℕ) (after : Ring) (p : Phase) → c ≢ b → q / 16 ≡ b → shown rings phases c ≡ shown (put rings b after) (put phases q p) c
drawn_away rings phases b c q after p away of_b = place_else rings phases q c p (λ e. away (e ∙ of_b)) ∙ ring_away rings (put phases q p) b c after away

-- the places of one buffer are free again
abbrev pub wiped : (ℕ → Phase) → ℕ → ℕ → Phase
wiped phases b k = cond (eqb (k / 16) b) free (phases k)

pub wiped_here : (phases : ℕ → Phase) (b k : ℕ) → k / 16 ≡ b → wiped phases b k ≡ free
wiped_here phases b k e = ap (λ (t : Bool). cond t free (phases k)) (eq-eqb (k / 16) b e)

pub wiped_else : (phases : ℕ → Phase) (b k : ℕ) → k / 16 ≢ b → wiped phases b k ≡ phases k
wiped_else phases b k away = ap (λ (t : Bool). cond t free (phases k)) (ne_eqb (k / 16) b away)

pub wiped_away : (rings : ℕ → Ring) (phases : ℕ → Phase) (b c : ℕ) (after : Ring) → c ≢ b → shown rings phases c ≡ shown (put rings b after) (wiped phases b) c
wiped_away rings phases b c after away = ap (state (rings c).is_open (rings c).drawn_to)
    (from_same 16 (16 * c) phases (wiped phases b) (λ o low high. ap bare (sym (wiped_else phases b o (λ is. away (omega (arith, is, low, high)))))))
    ∙ ring_away rings (wiped phases b) b c after away

draws_so : (o : Bool) (d e : ℕ) (slots : List Slot) → o ≡ true → d ≡ e → e < 16 → after_draw (state o d slots) ≡ state true (e + 1) (set slots e Drawn)
draws_so o d e slots is same low = grind (arith)

pub after_drawn : (rings : ℕ → Ring) (phases : ℕ → Phase) (b old id : ℕ) → (rings b).is_open ≡ true → (rings b).drawn_to ≡ old → old < 16
    → IsReached (shown rings phases b) → IsReached (shown (put rings b (record { drawn_to = old + 1; is_open = true })) (put phases (16 * b + old) (drawn id)) b)
after_drawn rings phases b old id is same low was =
    subst IsReached
    (draws_so (rings b).is_open (rings b).drawn_to old (slots_from 16 (16 * b) phases) is same low
    ∙ ap (state true (old + 1)) (sym (from_set 16 (16 * b) old (16 * b + old) phases (drawn id) low refl))
    ∙ ap (λ (r : Ring). state r.is_open r.drawn_to (slots_from 16 (16 * b) (put phases (16 * b + old) (drawn id)))) (sym (put_here rings b b (record { drawn_to = old + 1; is_open = true }) refl)))
    (draws (shown rings phases b) was)

publishes_so : (o : Bool) (d place : ℕ) (slots : List Slot) (x : Item) → slice_get slots place ≡ Some Drawn → after_publish (state o d slots) place x ≡ state o d (set slots place (Published x))
publishes_so o d place slots x is = grind (arith)

pub after_published : (rings : ℕ → Ring) (phases : ℕ → Phase) (q id : ℕ) (x : Item) → phases q ≡ drawn id
    → IsReached (shown rings phases (q / 16)) → IsReached (shown rings (put phases q (published x)) (q / 16))
after_published rings phases q id x is was =
    let b : ℕ = q / 16 in
    let place : ℕ = q % 16 in
    let number : q ≡ 16 * b + place = omega arith in
    subst IsReached
    (publishes_so (rings b).is_open (rings b).drawn_to place (slots_from 16 (16 * b) phases) x
    (from_get 16 (16 * b) place phases (omega arith) ∙ ap (λ z. Some (bare (phases z))) (sym number) ∙ ap (λ p. Some (bare p)) is)
    ∙ ap (state (rings b).is_open (rings b).drawn_to) (sym (from_set 16 (16 * b) place q phases (published x) (omega arith) number)))
    (publishes (shown rings phases b) place x was)

pub after_shut : (rings : ℕ → Ring) (phases : ℕ → Phase) (b : ℕ) (after : Ring) → after.is_open ≡ false → after.drawn_to ≡ (rings b).drawn_to
    → IsReached (shown rings phases b) → IsReached (shown (put rings b after) phases b)
after_shut rings phases b after is same was =
    subst IsReached
    (ap (λ o. state o (rings b).drawn_to (slots_from 16 (16 * b) phases)) (sym is)
    ∙ ap (λ d. state after.is_open d (slots_from 16 (16 * b) phases)) (sym same)
    ∙ ap (λ (r : Ring). state r.is_open r.drawn_to (slots_from 16 (16 * b) phases)) (sym (put_here rings b b after refl)))
    (closes (shown rings phases b) was)

pub after_taken : (rings : ℕ → Ring) (phases : ℕ → Phase) (q id : ℕ) (x : Item) → phases q ≡ published x
    → IsReached (shown rings phases (q / 16)) → IsReached (shown rings (put phases q (taking id)) (q / 16))
after_taken rings phases q id x is was =
    let b : ℕ = q / 16 in
    let place : ℕ = q % 16 in
    let number : q ≡ 16 * b + place = omega arith in
    subst IsReached
    (ap (λ y. state (rings b).is_open (rings b).drawn_to (set (slots_from 16 (16 * b) phases) place (buffers.taken y)))
    (from_index 16 (16 * b) place phases Free (omega arith) ∙ ap (λ z. bare (phases z)) (sym number) ∙ ap bare is)
    ∙ ap (state (rings b).is_open (rings b).drawn_to) (sym (from_set 16 (16 * b) place q phases (taking id) (omega arith) number)))
    (takes (shown rings phases b) place was)

pub after_home : (rings : ℕ → Ring) (phases : ℕ → Phase) (q id : ℕ) → phases q ≡ taking id
    → IsReached (shown rings phases (q / 16)) → IsReached (shown rings (put phases q taken) (q / 16))
after_home rings phases q id is was =
    let b : ℕ = q / 16 in
    subst IsReached
    (ap (state (rings b).is_open (rings b).drawn_to) (from_same 16 (16 * b) phases (put phases q taken)
    (λ o low high. dite (ℕ_discrete o q)
    (λ e. ap (λ z. bare (phases z)) e ∙ ap bare is ∙ ap bare (sym (put_here phases q o taken e)))
    (λ away. ap bare (sym (put_else phases q o taken away))))))
    was

reopens_so : (o : Bool) (d : ℕ) (slots : List Slot) → list_all is_taken (take d slots) ≡ true → after_reopen (state o d slots) ≡ start
reopens_so o d slots all = grind (arith)

pub after_opened : (rings : ℕ → Ring) (phases : ℕ → Phase) (b : ℕ) (after : Ring) → after.is_open ≡ true → after.drawn_to ≡ 0 → (rings b).drawn_to ≤ 16
    → ((p : ℕ) → p < 16 → p < (rings b).drawn_to → phases (16 * b + p) ≡ taken)
    → IsReached (shown rings phases b) → IsReached (shown (put rings b after) (wiped phases b) b)
after_opened rings phases b after is none most all was =
    subst IsReached
    (reopens_so (rings b).is_open (rings b).drawn_to (slots_from 16 (16 * b) phases) (from_taken 16 (rings b).drawn_to (16 * b) phases all)
    ∙ ap (state true 0) (sym (from_free 16 (16 * b) (wiped phases b) (λ q low high. wiped_here phases b q (omega (arith, low, high)))))
    ∙ ap (λ o. state o 0 (slots_from 16 (16 * b) (wiped phases b))) (sym is)
    ∙ ap (λ d. state after.is_open d (slots_from 16 (16 * b) (wiped phases b))) (sym none)
    ∙ ap (λ (r : Ring). state r.is_open r.drawn_to (slots_from 16 (16 * b) (wiped phases b))) (sym (put_here rings b b after refl)))
    (reopens (shown rings phases b) was)
