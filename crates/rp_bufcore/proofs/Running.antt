-- What holds along any list of events of a buffer.
use Rattle.std.proofs.Common.{◌≡◌, ◌≢◌, ℕ, zero, suc, ◌+◌, ◌<◌, Bool, true, false, List, [], ◌∷◌, ◌++◌, length, get_or, set, take, map, filter_map, slice_get, count_by, sum_by, Some, Ok, Err, is_ok, refl, ap, sym, ◌∙◌, zero-add, add-zero, replicate, cond, arith, if◌then◌else◌, All, Contains}
use Rattle.std.specs.Option.{option_to_list}
use Rattle.std.specs.List.{list_all}
use Rattle.std.proofs.lemmas.List.{length-set, length-map}
use Rattle.std.proofs.lemmas.List.Sums.{sum_by-set, sum_by-append}
use Rattle.std.proofs.lemmas.List.Elements.{Contains-append_right}
use Rattle.std.proofs.lemmas.Grind.{common_steps}
use Rattle.rp_base.specs.Limits.{buffer_capacity}
use Rattle.rp_base.specs.declared.items.Item.{Item}
use Rattle.rp_bufcore.specs.declared.buffers.Slot.{Slot}
use Rattle.rp_bufcore.specs.declared.buffers.Slot.TheVariants.{Free, Drawn, Published, Taken}
use Rattle.rp_bufcore.specs.declared.buffers.NotDrawn.{NotDrawn}
use Rattle.rp_bufcore.specs.Buffers.{Buffer, start, can_draw, after_draw, is_drawn, publish_answer, after_publish, published, given, taken, is_taken, after_collect}
use Rattle.rp_bufcore.specs.Events.{Event, step, run, published_by, given_by, published_along, given_along, IsSound}
use Rattle.rp_bufcore.specs.Events as events

-- the place that was written
pub slice_get-set_same : (xs : List Slot) (i : ℕ) (x : Slot) → i < length xs → slice_get (set xs i x) i ≡ Some x
slice_get-set_same [] i x within = absurd (omega arith)
slice_get-set_same (y ∷ xs) zero x within = refl
slice_get-set_same (y ∷ xs) (suc i) x within = slice_get-set_same xs i x (omega arith)

-- another place
pub slice_get-set_other : (xs : List Slot) (i j : ℕ) (x : Slot) → j ≢ i → slice_get (set xs i x) j ≡ slice_get xs j
slice_get-set_other [] i j x other = refl
slice_get-set_other (y ∷ xs) zero zero x other = absurd (other refl)
slice_get-set_other (y ∷ xs) zero (suc j) x other = refl
slice_get-set_other (y ∷ xs) (suc i) zero x other = refl
slice_get-set_other (y ∷ xs) (suc i) (suc j) x other = slice_get-set_other xs i j x (λ same. other (ap suc same))

-- a place that can be looked up is inside
pub inside : (xs : List Slot) (i : ℕ) (x : Slot) → slice_get xs i ≡ Some x → i < length xs
inside [] i x at = cc
inside (y ∷ xs) zero x at = omega arith
inside (y ∷ xs) (suc i) x at = let more = inside xs i x at in omega arith

-- how many items that pass a test are published at a place
abbrev weight : (Item → Bool) → Slot → ℕ
weight test s = count_by test (option_to_list (published s))

-- a sum from its first term on
sum_first : {X : Type 0} (f : X → ℕ) (x : X) (xs : List X) → sum_by f (x ∷ xs) ≡ f x + sum_by f xs
sum_first f x xs = sum_by-append f (x ∷ []) xs ∙ ap (λ n. n + sum_by f xs) (zero-add (f x))

-- counted place by place
count-published : (test : Item → Bool) (xs : List Slot) → count_by test (filter_map published xs) ≡ sum_by (weight test) xs
count-published test [] = refl
count-published test (Free ∷ xs) = count-published test xs
count-published test (Drawn ∷ xs) = count-published test xs
count-published test (Published item ∷ xs) =
    let one : ℕ = cond (test item) 1 0 in
    let left : count_by test (item ∷ filter_map published xs) ≡ one + count_by test (filter_map published xs) =
    sum_first (λ x. cond (test x) 1 0) item (filter_map published xs) in
    let right : sum_by (weight test) (Published item ∷ xs) ≡ (0 + one) + sum_by (weight test) xs =
    sum_first (weight test) (Published item) xs in
    left ∙ ap (λ n. one + n) (count-published test xs) ∙ sym (right ∙ ap (λ n. n + sum_by (weight test) xs) (zero-add one))
count-published test (Taken ∷ xs) = count-published test xs

-- what was taken is published no more
pub nothing_published : (xs : List Slot) → filter_map published (map taken xs) ≡ []
nothing_published [] = refl
nothing_published (Free ∷ xs) = nothing_published xs
nothing_published (Drawn ∷ xs) = nothing_published xs
nothing_published (Published item ∷ xs) = nothing_published xs
nothing_published (Taken ∷ xs) = nothing_published xs

-- a place that is drawn had no item, so that it counts for nothing
drawn_counts_nothing : (test : Item → Bool) (xs : List Slot) (i : ℕ) → is_drawn (slice_get xs i) ≡ true → (i < length xs) × (weight test (get_or xs i Free) ≡ 0)
drawn_counts_nothing test [] i drawn = cc
drawn_counts_nothing test (Free ∷ xs) zero drawn = cc
drawn_counts_nothing test (Drawn ∷ xs) zero drawn = (omega arith, refl)
drawn_counts_nothing test (Published item ∷ xs) zero drawn = cc
drawn_counts_nothing test (Taken ∷ xs) zero drawn = cc
drawn_counts_nothing test (x ∷ xs) (suc i) drawn = let more = drawn_counts_nothing test xs i drawn in let within = more.0 in (omega arith, more.1)

-- a place that is free counts for nothing
free_counts_nothing : (test : Item → Bool) (xs : List Slot) (i : ℕ) → slice_get xs i ≡ Some Free → weight test (get_or xs i Free) ≡ 0
free_counts_nothing test [] i free = cc
free_counts_nothing test (Free ∷ xs) zero free = refl
free_counts_nothing test (Drawn ∷ xs) zero free = cc
free_counts_nothing test (Published item ∷ xs) zero free = cc
free_counts_nothing test (Taken ∷ xs) zero free = cc
free_counts_nothing test (x ∷ xs) (suc i) free = free_counts_nothing test xs i free

-- where places can be drawn, one is left
can_draw_within : (b : Buffer) → can_draw b ≡ true → b.drawn < buffer_capacity
can_draw_within b can = grind (arith, common_steps)

-- an event keeps a buffer sound
sound_draw : (b : Buffer) → IsSound b → IsSound (after_draw b)
sound_draw b sound = elim (can_draw b) as (λ v. can_draw b ≡ v → IsSound (if v then record { is_open = b.is_open; drawn = b.drawn + 1; slots = set b.slots b.drawn Drawn } else b)) [
  | true ↦ λ can. let within : b.drawn < buffer_capacity = can_draw_within b can in record {
    places = length-set b.slots b.drawn Drawn ∙ sound.places;
    within = omega arith;
    free = λ k from below. slice_get-set_other b.slots b.drawn k Drawn (λ same. omega arith) ∙ sound.free k (omega arith) below;
  }
  | false ↦ λ _. sound
] refl

sound_publish : (b : Buffer) (place : ℕ) (item : Item) → IsSound b → IsSound (after_publish b place item)
sound_publish b place item sound = elim (is_drawn (slice_get b.slots place)) as (λ v. is_drawn (slice_get b.slots place) ≡ v → IsSound (if v then record { is_open = b.is_open; drawn = b.drawn; slots = set b.slots place (Published item) } else b)) [
  | true ↦ λ drawn. record {
    places = length-set b.slots place (Published item) ∙ sound.places;
    within = sound.within;
    free = λ k from below. slice_get-set_other b.slots place k (Published item) (λ same. let at : slice_get b.slots k ≡ Some Free = sound.free k from below in
        let free : is_drawn (slice_get b.slots place) ≡ false = ap (λ i. is_drawn (slice_get b.slots i)) (sym same) ∙ ap is_drawn at in cc) ∙ sound.free k from below;
  }
  | false ↦ λ _. sound
] refl

-- a free place stays free where what is published is taken
free_stays : (xs : List Slot) (k : ℕ) → slice_get xs k ≡ Some Free → slice_get (map taken xs) k ≡ Some Free
free_stays [] k free = cc
free_stays (x ∷ xs) zero free = let is_free : x ≡ Free = cc in ap (λ y. Some (taken y)) is_free
free_stays (x ∷ xs) (suc k) free = free_stays xs k free

-- each place of a list of equal ones
slice_get-replicate : (n : ℕ) (x : Slot) (k : ℕ) → k < n → slice_get (replicate n x) k ≡ Some x
slice_get-replicate zero x k within = absurd (omega arith)
slice_get-replicate (suc n) x zero within = refl
slice_get-replicate (suc n) x (suc k) within = slice_get-replicate n x k (omega arith)

sound_start : IsSound start
sound_start = record { places = refl; within = omega arith; free = λ k from below. slice_get-replicate buffer_capacity Free k below }

sound_collect : (b : Buffer) → IsSound b → IsSound (after_collect b)
sound_collect b sound = elim (list_all is_taken (take b.drawn (map taken b.slots))) as (λ v. IsSound (if v then start else record { is_open = false; drawn = b.drawn; slots = map taken b.slots })) [
  | true ↦ sound_start
  | false ↦ record {
    places = length-map b.slots taken ∙ sound.places;
    within = sound.within;
    free = λ k from below. free_stays b.slots k (sound.free k from below);
  }
]

sound_step : (b : Buffer) (e : Event) → IsSound b → IsSound (step b e)
sound_step b events.draw sound = sound_draw b sound
sound_step b (events.publish place item) sound = sound_publish b place item sound
sound_step b events.collect sound = sound_collect b sound

sound_run : (b : Buffer) (es : List Event) → IsSound b → IsSound (run b es)
sound_run b [] sound = sound
sound_run b (e ∷ es) sound = sound_run (step b e) es (sound_step b e sound)

pub stays_sound : (es : List Event) → IsSound (run start es)
stays_sound es = sound_run start es sound_start

-- a collect leaves nothing that is published
pub nothing_left : (b : Buffer) → given (after_collect b) ≡ []
nothing_left b = elim (list_all is_taken (take b.drawn (map taken b.slots))) as (λ v. given (if v then start else record { is_open = false; drawn = b.drawn; slots = map taken b.slots }) ≡ []) [
  | true ↦ refl
  | false ↦ nothing_published b.slots
]

-- a place is written: the count changes by what was there and what is there now
written_count : (test : Item → Bool) (xs : List Slot) (i : ℕ) (x : Slot) → i < length xs → weight test (get_or xs i Free) ≡ 0
    → count_by test (filter_map published (set xs i x)) ≡ count_by test (filter_map published xs) + weight test x
written_count test xs i x within nothing =
    let before = count-published test xs in
    let after = count-published test (set xs i x) in
    let change = sum_by-set (weight test) xs i x Free within in
    omega (arith, before, after, change, nothing)

count_draw : (test : Item → Bool) (b : Buffer) → IsSound b → count_by test (given (after_draw b)) ≡ count_by test (given b)
count_draw test b sound = elim (can_draw b) as (λ v. can_draw b ≡ v → count_by test (given (if v then record { is_open = b.is_open; drawn = b.drawn + 1; slots = set b.slots b.drawn Drawn } else b)) ≡ count_by test (given b)) [
  | true ↦ λ can.
      let below : b.drawn < buffer_capacity = can_draw_within b can in
      let within : b.drawn < length b.slots = let places = sound.places in omega arith in
      let nothing : weight test (get_or b.slots b.drawn Free) ≡ 0 = free_counts_nothing test b.slots b.drawn (sound.free b.drawn (omega arith) below) in
      written_count test b.slots b.drawn Drawn within nothing ∙ add-zero _
  | false ↦ λ _. refl
] refl

count_publish : (test : Item → Bool) (b : Buffer) (place : ℕ) (item : Item)
    → count_by test (given (after_publish b place item)) ≡ count_by test (given b) + count_by test (published_by b (events.publish place item))
count_publish test b place item = elim (is_drawn (slice_get b.slots place)) as (λ v. is_drawn (slice_get b.slots place) ≡ v
    → count_by test (given (if v then record { is_open = b.is_open; drawn = b.drawn; slots = set b.slots place (Published item) } else b)) ≡ count_by test (given b) + count_by test (if v then item ∷ [] else [])) [
      | true ↦ λ drawn. let was = drawn_counts_nothing test b.slots place drawn in written_count test b.slots place (Published item) was.0 was.1
      | false ↦ λ _. sym (add-zero _)
    ] refl

-- in each event as many are published as are given or wait more than before
count_step : (test : Item → Bool) (b : Buffer) (e : Event) → IsSound b
    → count_by test (given b) + count_by test (published_by b e) ≡ count_by test (given_by b e) + count_by test (given (step b e))
count_step test b events.draw sound = let same = count_draw test b sound in omega (arith, same)
count_step test b (events.publish place item) sound = let more = count_publish test b place item in omega (arith, more)
count_step test b events.collect sound = let none : count_by test (given (after_collect b)) ≡ 0 = ap (count_by test) (nothing_left b) in omega (arith, none)

count-append : (test : Item → Bool) (xs ys : List Item) → count_by test (xs ++ ys) ≡ count_by test xs + count_by test ys
count-append test xs ys = sum_by-append (λ x. cond (test x) 1 0) xs ys

count_run : (test : Item → Bool) (b : Buffer) (es : List Event) → IsSound b
    → count_by test (given b) + count_by test (published_along b es) ≡ count_by test (given_along b es) + count_by test (given (run b es))
count_run test b [] sound = add-zero _ ∙ sym (zero-add _)
count_run test b (e ∷ es) sound =
    let now = count_step test b e sound in
    let later = count_run test (step b e) es (sound_step b e sound) in
    let out = count-append test (published_by b e) (published_along (step b e) es) in
    let got = count-append test (given_by b e) (given_along (step b e) es) in
    omega (arith, now, later, out, got)

-- each published item is given once or still waits
pub each_given_once : (es : List Event) (test : Item → Bool)
    → count_by test (published_along start es) ≡ count_by test (given_along start es) + count_by test (given (run start es))
each_given_once es test = let all = count_run test start es sound_start in sym (zero-add _) ∙ all

-- an event that is no collect leaves what is published
stays_published : (b : Buffer) (e : Event) (place : ℕ) (item : Item) → IsSound b → e ≢ events.collect
    → slice_get b.slots place ≡ Some (Published item) → slice_get (step b e).slots place ≡ Some (Published item)
stays_published b events.draw place item sound other at = elim (can_draw b) as (λ v. can_draw b ≡ v → slice_get (if v then record { is_open = b.is_open; drawn = b.drawn + 1; slots = set b.slots b.drawn Drawn } else b).slots place ≡ Some (Published item)) [
  | true ↦ λ can. slice_get-set_other b.slots b.drawn place Drawn (λ same.
      let free : slice_get b.slots b.drawn ≡ Some Free = sound.free b.drawn (omega arith) (can_draw_within b can) in
      let both : slice_get b.slots b.drawn ≡ Some (Published item) = ap (slice_get b.slots) (sym same) ∙ at in cc) ∙ at
  | false ↦ λ _. at
] refl
stays_published b (events.publish place' item') place item sound other at = elim (is_drawn (slice_get b.slots place')) as (λ v. is_drawn (slice_get b.slots place') ≡ v
    → slice_get (if v then record { is_open = b.is_open; drawn = b.drawn; slots = set b.slots place' (Published item') } else b).slots place ≡ Some (Published item)) [
      | true ↦ λ drawn. slice_get-set_other b.slots place' place (Published item') (λ same.
          let no : is_drawn (slice_get b.slots place') ≡ false = ap (λ i. is_drawn (slice_get b.slots i)) (sym same) ∙ ap is_drawn at in cc) ∙ at
      | false ↦ λ _. at
    ] refl
stays_published b events.collect place item sound other at = absurd (other refl)

run_stays : (b : Buffer) (es : List Event) (place : ℕ) (item : Item) → IsSound b → All (λ e. e ≢ events.collect) es
    → slice_get b.slots place ≡ Some (Published item) → slice_get (run b es).slots place ≡ Some (Published item)
run_stays b [] place item sound others at = at
run_stays b (e ∷ es) place item sound others at =
    run_stays (step b e) es place item (sound_step b e sound) (λ k d below. others (suc k) d (omega arith)) (stays_published b e place item sound (others 0 e (omega arith)) at)

-- a published item is among those that a collect gives
contains_published : (xs : List Slot) (place : ℕ) (item : Item) → slice_get xs place ≡ Some (Published item) → Contains (filter_map published xs) item
contains_published [] place item at = cc
contains_published (Free ∷ xs) zero item at = cc
contains_published (Drawn ∷ xs) zero item at = cc
contains_published (Published here ∷ xs) zero item at = (0, omega arith, cc)
contains_published (Taken ∷ xs) zero item at = cc
contains_published (Free ∷ xs) (suc place) item at = contains_published xs place item at
contains_published (Drawn ∷ xs) (suc place) item at = contains_published xs place item at
contains_published (Published here ∷ xs) (suc place) item at = Contains-append_right (here ∷ []) (filter_map published xs) item (contains_published xs place item at)
contains_published (Taken ∷ xs) (suc place) item at = contains_published xs place item at

-- a publish that is answered Ok puts the item there
at_published : (b : Buffer) (place : ℕ) (item : Item) → publish_answer b place ≡ Ok tt → slice_get (after_publish b place item).slots place ≡ Some (Published item)
at_published b place item = let bad : NotDrawn = record { place = place } in elim (is_drawn (slice_get b.slots place)) as (λ v. is_drawn (slice_get b.slots place) ≡ v → (if v then Ok (tt {0}) else Err bad) ≡ Ok (tt {0})
    → slice_get (if v then record { is_open = b.is_open; drawn = b.drawn; slots = set b.slots place (Published item) } else b).slots place ≡ Some (Published item)) [
      | true ↦ λ drawn _. slice_get-set_same b.slots place (Published item) (drawn_counts_nothing (λ _. true) b.slots place drawn).0
      | false ↦ λ _ ok. let never : false ≡ true = ap is_ok ok in cc
    ] refl

run-append : (b : Buffer) (xs ys : List Event) → run b (xs ++ ys) ≡ run (run b xs) ys
run-append b [] ys = refl
run-append b (e ∷ es) ys = run-append (step b e) es ys

-- what was published is given by the next collect
pub given_by_the_next : (before between : List Event) (place : ℕ) (item : Item) → publish_answer (run start before) place ≡ Ok tt
    → All (λ e. e ≢ events.collect) between → Contains (given (run start (before ++ events.publish place item ∷ between))) item
given_by_the_next before between place item ok others =
    let mid : Buffer = run start before in
    let sound : IsSound mid = stays_sound before in
    let at = run_stays (after_publish mid place item) between place item (sound_publish mid place item sound) others (at_published mid place item ok) in
    rw (run-append start before (events.publish place item ∷ between)) (contains_published (run (after_publish mid place item) between).slots place item at)
