-- A journal grows by an event, and is read.
use Rattle.std.proofs.Common.{◌≡◌, ℕ, zero, suc, ◌+◌, ◌<◌, ◌≤◌, Bool, true, false, cond, map, length, get_or, List, [], ◌∷◌, ◌++◌, Option, None, Some, arith, refl, ap, ◌∙◌, IsFalse, is_some, nat_eq}
use Rattle.std.specs.Map.{lookup}
use Rattle.std.specs.Option.{option_map_or}
use Rattle.std.proofs.lemmas.Bool.{eq-eqb, ne_eqb}
use Rattle.rp_events.specs.declared.answers.EventAnswer.{EventAnswer}
use Rattle.rp_events.specs.declared.answers.EventAnswer.TheVariants as answers
use Rattle.rp_events.specs.declared.journals.JournalEntry.{JournalEntry}
use Rattle.rp_events.specs.declared.journals.PastEvent.{PastEvent}
use Rattle.rp_node.specs.declared.journals.Noted.{Noted}
use Rattle.rp_node.specs.declared.journals.Noted.TheVariants.{Answer}
use Rattle.rp_node.specs.Journals.{Told, AreOf, answer_at, answer_in, entries_from, is_done, told_more}

cond_none : {X : Type 0} (b : Bool) (x : X) (r : Option X) → cond b (Some x) r ≡ None → (b ≡ false) × (r ≡ None)
cond_none true x r h = cc
cond_none false x r h = (refl, h)

none_found : {X : Type 0} (o : Option X) → IsFalse (is_some o) → o ≡ None
none_found None h = refl
none_found (Some x) h = cc

-- no answer is kept for a further event
pub none_further : (told : Told) (count : ℕ) → AreOf count told → lookup (nat_eq count) told ≡ None
none_further told count of = none_found (lookup (nat_eq count) told) (of count (omega arith))

-- a look-up goes on behind what was kept
passed_by : (test : ℕ → Bool) (place : ℕ) (noted : Noted) (told : Told) → test place ≡ false
    → lookup test (told ++ (place, noted) ∷ []) ≡ lookup test told
passed_by test place noted [] apart = ap (λ b. cond b (Some noted) None) apart
passed_by test place noted (t ∷ told) apart = ap (cond (test t.0) (Some t.1)) (passed_by test place noted told apart)

found_last : (test : ℕ → Bool) (place : ℕ) (noted : Noted) (told : Told) → lookup test told ≡ None → test place ≡ true
    → lookup test (told ++ (place, noted) ∷ []) ≡ Some noted
found_last test place noted [] none is = ap (λ b. cond b (Some noted) None) is
found_last test place noted (t ∷ told) none is =
    let c = cond_none (test t.0) t.1 (lookup test told) none in
    ap (λ b. cond b (Some t.1) (lookup test (told ++ (place, noted) ∷ []))) c.0 ∙ found_last test place noted told c.1 is

-- other places are answered as before
others_stay : (told : Told) (place other : ℕ) (answer : EventAnswer) → nat_eq other place ≡ false
    → lookup (nat_eq other) (told_more told place answer) ≡ lookup (nat_eq other) told
others_stay told place other answer apart = by (is_done answer) where
  by : (b : Bool) → lookup (nat_eq other) (cond b told (told ++ (place, Answer answer) ∷ [])) ≡ lookup (nat_eq other) told
  by true = refl
  by false = passed_by (nat_eq other) place (Answer answer) told apart

-- and this one as it is said
is_told : (told : Told) (place : ℕ) (answer : EventAnswer) → lookup (nat_eq place) told ≡ None
    → answer_at (told_more told place answer) place ≡ answer
is_told told place answer none = by answer where
  said : (a : EventAnswer) → answer_at (told ++ (place, Answer a) ∷ []) place ≡ a
  said a = ap (λ o. option_map_or answer_in o answers.Done) (found_last (nat_eq place) place (Answer a) told none (eq-eqb place place refl))

  by : (a : EventAnswer) → answer_at (told_more told place a) place ≡ a
  by answers.Done = ap (λ o. option_map_or answer_in o answers.Done) none
  by answers.Nothing = said answers.Nothing
  by answers.Admitted = said answers.Admitted
  by (answers.Asked ask) = said (answers.Asked ask)
  by (answers.Refused refusal) = said (answers.Refused refusal)
  by (answers.LeaseHeld lease ticks) = said (answers.LeaseHeld lease ticks)
  by (answers.Value value applied) = said (answers.Value value applied)

abbrev entry : PastEvent → EventAnswer → JournalEntry
entry e answer = record { event = e; answer = answer }

-- entries depend on the answers of their places alone
entries_same : (told new : Told) (place : ℕ) (es : List PastEvent)
    → ((other : ℕ) → place ≤ other → other < place + length es → answer_at new other ≡ answer_at told other)
    → entries_from new place es ≡ entries_from told place es
entries_same told new place [] same = refl
entries_same told new place (e ∷ es) same =
    ap (λ a. entry e a ∷ entries_from new (place + 1) es) (same place (omega arith) (omega arith))
    ∙ ap (λ l. entry e (answer_at told place) ∷ l) (entries_same told new (place + 1) es (λ other from below. same other (omega (arith, from)) (omega (arith, below))))

entries_push : (told : Told) (place : ℕ) (es : List PastEvent) (e : PastEvent)
    → entries_from told place (es ++ e ∷ []) ≡ entries_from told place es ++ entry e (answer_at told (place + length es)) ∷ []
entries_push told place [] e = let n : place ≡ place + 0 = omega arith in ap (λ p. entry e (answer_at told p) ∷ []) n
entries_push told place (x ∷ es) e =
    let n : place + 1 + length es ≡ place + length (x ∷ es) = omega arith in
    ap (λ l. entry x (answer_at told place) ∷ l)
    (entries_push told (place + 1) es e ∙ ap (λ p. entries_from told (place + 1) es ++ entry e (answer_at told p) ∷ []) n)

-- a further event with its answer
pub entry_more : (told : Told) (es : List PastEvent) (e : PastEvent) (answer : EventAnswer) → AreOf (length es) told
    → entries_from (told_more told (length es) answer) 0 (es ++ e ∷ []) ≡ entries_from told 0 es ++ entry e answer ∷ []
entry_more told es e answer of =
    let new = told_more told (length es) answer in
    let n : 0 + length es ≡ length es = omega arith in
    entries_push new 0 es e
    ∙ ap (λ l. l ++ entry e (answer_at new (0 + length es)) ∷ [])
    (entries_same told new 0 es (λ other from below. ap (λ o. option_map_or answer_in o answers.Done)
    (others_stay told (length es) other answer (ne_eqb other (length es) (λ same. omega (arith, below, same))))))
    ∙ ap (λ a. entries_from told 0 es ++ entry e a ∷ [])
    (ap (answer_at new) n ∙ is_told told (length es) answer (none_further told (length es) of))

pub kept_more : (told : Told) (count : ℕ) (answer : EventAnswer) → AreOf count told → AreOf (count + 1) (told_more told count answer)
kept_more told count answer of place above =
    ap is_some (others_stay told count place answer (ne_eqb place count (λ same. omega (arith, above, same)))) ∙ of place (omega (arith, above))

-- what is read of it
pub events_of : (told : Told) (place : ℕ) (es : List PastEvent) → map (λ (e : JournalEntry). e.event) (entries_from told place es) ≡ es
events_of told place [] = refl
events_of told place (e ∷ es) = ap (λ l. e ∷ l) (events_of told (place + 1) es)

pub count_of : (told : Told) (place : ℕ) (es : List PastEvent) → length (entries_from told place es) ≡ length es
count_of told place [] = refl
count_of told place (e ∷ es) = ap suc (count_of told (place + 1) es)

pub answer_of : (told : Told) (place i : ℕ) (es : List PastEvent) (d : JournalEntry) → i < length es
    → answer_at told (place + i) ≡ (get_or (entries_from told place es) i d).answer
answer_of told place i [] d below = absurd (omega (arith, below))
answer_of told place zero (e ∷ es) d below = let n : place + 0 ≡ place = omega arith in ap (answer_at told) n
answer_of told place (suc i) (e ∷ es) d below =
    let n : place + suc i ≡ place + 1 + i = omega arith in
    ap (answer_at told) n ∙ answer_of told (place + 1) i es d (omega (arith, below))
