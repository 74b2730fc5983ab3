-- What is heard and what is carried, as lists grow.
use Rattle.std.proofs.Common.{◌≡◌, ℕ, eqb, eqb-true, eq-eqb, zero, suc, ◌+◌, ◌≤◌, Bool, true, false, cond, ⊎_elim, Option, None, Some, List, [], ◌∷◌, ◌++◌, length, refl, sym, ap, subst, ◌∙◌, arith, append_assoc}
use Rattle.std.specs.Prelude.{not, ◌&&◌, ◌||◌, ◌==◌, slice_get, filter_map}
use Rattle.std.specs.List.{list_any, cons_option}
use Rattle.std.proofs.lemmas.Bool.{and_from, and_parts}
use Rattle.std.proofs.lemmas.List.Elements.{filter_map-append}
use Rattle.rp_request.specs.Applied.{AppliedState}
use Rattle.rp_events.specs.declared.journals.JournalEntry.{JournalEntry}
use Rattle.rp_events.specs.declared.journals.PastEvent.{PastEvent}
use Rattle.rp_events.specs.declared.journals.PastEvent.TheVariants as past
use Rattle.rp_events.specs.declared.parcels.Parcel.{Parcel}
use Rattle.rp_events.specs.Nodes.{parcel_of}
use Rattle.rp_workers.specs.Losses.{is_lost}
use Rattle.rp_journals.specs.Growth.{Begins}
use Rattle.rp_race.specs.declared.rules.RaceRules.{RaceRules}
use Rattle.rp_race.specs.Owed.{number_from, heard_from, is_carried, carried_behind, carried, is_delivery, was_delivered}

pub heard_further : (from : ℕ) (js more : List JournalEntry) → heard_from from (js ++ more) ≡ heard_from from js ++ heard_from from more
heard_further from js more = filter_map-append (λ (e : JournalEntry). number_from from e.event) js more

pub heard_grows : (from : ℕ) (js later : List JournalEntry) → Begins js later → Begins (heard_from from js) (heard_from from later)
heard_grows from js later b = record { more = heard_from from b.more; is = ap (heard_from from) b.is ∙ heard_further from js b.more }

carried_cons : (b : Bool) (number : ℕ) (whole front more : List ℕ) → whole ≡ front ++ more → cond b (number ∷ whole) whole ≡ cond b (number ∷ front) front ++ more
carried_cons true number whole front more e = ap (λ l. number ∷ l) e
carried_cons false number whole front more e = e

carried_further : (rules : RaceRules) (from to number : ℕ) (xs ys : List (Parcel AppliedState)) → carried_behind rules from to number (xs ++ ys) ≡ carried_behind rules from to number xs ++ carried_behind rules from to (number + length xs) ys
carried_further rules from to number [] ys = ap (λ k. carried_behind rules from to k ys) (let z : number ≡ number + 0 = omega arith in z)
carried_further rules from to number (p ∷ xs) ys =
    let k : number + 1 + length xs ≡ number + length (p ∷ xs) = omega arith in
    carried_cons (is_carried rules from to number p) number (carried_behind rules from to (number + 1) (xs ++ ys)) (carried_behind rules from to (number + 1) xs) (carried_behind rules from to (number + length (p ∷ xs)) ys)
    (carried_further rules from to (number + 1) xs ys ∙ ap (λ z. carried_behind rules from to (number + 1) xs ++ carried_behind rules from to z ys) k)

pub carried_grows : (rules : RaceRules) (from to : ℕ) (xs ys : List (Parcel AppliedState)) → Begins xs ys → Begins (carried rules from to xs) (carried rules from to ys)
carried_grows rules from to xs ys b = record {
  more = carried_behind rules from to (1 + length xs) b.more;
  is = ap (carried rules from to) b.is ∙ carried_further rules from to 1 xs b.more;
}

-- a message that is for the node and is not lost is among those that are carried
some_parcel : (a b : Parcel AppliedState) → ◌≡◌ {A = Option (Parcel AppliedState)} (Some a) (Some b) → a ≡ b
some_parcel a b e = cc

first_carried : (b : Bool) (number k : ℕ) (rest : List ℕ) → b ≡ true → number ≡ k → list_any (λ z. z == k) (cond b (number ∷ rest) rest) ≡ true
first_carried true number k rest e same = ap (λ z. z || list_any (λ y. y == k) rest) (eq-eqb number k same)
first_carried false number k rest e same = absurd cc

or_true : (b c : Bool) → c ≡ true → (b || c) ≡ true
or_true true c e = refl
or_true false c e = e

later_carried : (b : Bool) (number k : ℕ) (rest : List ℕ) → list_any (λ z. z == k) rest ≡ true → list_any (λ z. z == k) (cond b (number ∷ rest) rest) ≡ true
later_carried true number k rest e = or_true (number == k) (list_any (λ z. z == k) rest) e
later_carried false number k rest e = e

is_carried_so : (rules : RaceRules) (from to number : ℕ) (p : Parcel AppliedState) → p.to ≡ to → is_lost rules.loss rules.salt from number ≡ false → is_carried rules from to number p ≡ true
is_carried_so rules from to number p for kept = and_from (p.to == to) (not (is_lost rules.loss rules.salt from number)) (eq-eqb p.to to for) (ap not kept)

carried_at : (rules : RaceRules) (from to first : ℕ) (sent : List (Parcel AppliedState)) (i : ℕ) (p : Parcel AppliedState) (k : ℕ) → k ≡ first + i → slice_get sent i ≡ Some p → p.to ≡ to → is_lost rules.loss rules.salt from k ≡ false
    → list_any (λ z. z == k) (carried_behind rules from to first sent) ≡ true
carried_at rules from to first [] i p k is at for kept = absurd cc
carried_at rules from to first (q ∷ sent) zero p k is at for kept =
    let same : q ≡ p = some_parcel q p at in
    let k_is : first ≡ k = omega (arith, is) in
    first_carried (is_carried rules from to first q) first k (carried_behind rules from to (first + 1) sent)
    (is_carried_so rules from to first q (ap (λ (z : Parcel AppliedState). z.to) same ∙ for) (ap (is_lost rules.loss rules.salt from) k_is ∙ kept)) k_is
carried_at rules from to first (q ∷ sent) (suc i) p k is at for kept =
    later_carried (is_carried rules from to first q) first k (carried_behind rules from to (first + 1) sent)
    (carried_at rules from to (first + 1) sent i p k (omega (arith, is)) at for kept)

pub carried_has : (rules : RaceRules) (from to : ℕ) (sent : List (Parcel AppliedState)) (number : ℕ) (p : Parcel AppliedState) → parcel_of sent number ≡ Some p → p.to ≡ to → is_lost rules.loss rules.salt from number ≡ false
    → list_any (λ z. z == number) (carried rules from to sent) ≡ true
carried_has rules from to sent zero p at for kept = absurd cc
carried_has rules from to sent (suc i) p at for kept = carried_at rules from to 1 sent i p (suc i) (omega arith) at for kept

-- a message whose number was heard was delivered
delivered_so : (from number : ℕ) (rest : List ℕ) (more : Bool) → (list_any (λ z. z == number) rest ≡ true → more ≡ true) → (e : PastEvent)
    → list_any (λ z. z == number) (cons_option (number_from from e) rest) ≡ true → (is_delivery from number e || more) ≡ true
delivered_so from number rest more ih (past.Deliver sender other) h = go (sender == from) refl h where
  go : (b : Bool) → (sender == from) ≡ b → list_any (λ z. z == number) (cons_option (cond b (Some other) None) rest) ≡ true → ((b && other == number) || more) ≡ true
  go true is h' = go_on (other == number) h' where
    go_on : (b : Bool) → (b || list_any (λ z. z == number) rest) ≡ true → (b || more) ≡ true
    go_on true e = refl
    go_on false e = ih e
  go false is h' = ih h'
delivered_so from number rest more ih (past.Admit range id place) h = ih h
delivered_so from number rest more ih (past.Ask range) h = ih h
delivered_so from number rest more ih (past.Transfer range to) h = ih h
delivered_so from number rest more ih (past.Collect range taken) h = ih h
delivered_so from number rest more ih (past.Flush range) h = ih h
delivered_so from number rest more ih past.Tick h = ih h
delivered_so from number rest more ih (past.Apply range) h = ih h
delivered_so from number rest more ih (past.Cut range) h = ih h
delivered_so from number rest more ih (past.Remove range) h = ih h
delivered_so from number rest more ih (past.Peek range key) h = ih h
delivered_so from number rest more ih past.Restart h = ih h
delivered_so from number rest more ih (past.Round sent) h = ih h

pub heard_delivered : (from number : ℕ) (js : List JournalEntry) → list_any (λ z. z == number) (heard_from from js) ≡ true → was_delivered from number js ≡ true
heard_delivered from number [] h = absurd cc
heard_delivered from number (e ∷ js) h = delivered_so from number (heard_from from js) (was_delivered from number js) (heard_delivered from number js) e.event h
