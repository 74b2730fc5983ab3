-- A log with a base as a view of a whole log.
use Rattle.std.proofs.Common.{◌≡◌, ℕ, zero, suc, ◌+◌, ◌-◌, ◌<◌, ◌≤◌, true, false, eqb, ltb, Option, Some, None, List, [], ◌∷◌, ◌++◌, length, take, drop, get_or, refl, sym, ap, ◌∙◌, arith, ⊎_elim, length-drop, get_or-drop, length-take-le, eqb-true, ltb-false, ltb-true, eq-eqb, drop-drop, length-append}
use Rattle.std.specs.Prelude.{slice_get}
use Rattle.std.specs.Option.{option_map, option_map_or, unwrap_or}
use Rattle.std.proofs.lemmas.Bool.{cond_both, cases_lt, eqb-false}
use Rattle.std.proofs.lemmas.Option.{slice_get-get_or, slice_get_past}
use Rattle.std.proofs.lemmas.List.{drop-append-le, drop_all, take-append-le}
use Rattle.rp_raftlog.specs.declared.entries.Entry.{Entry}
use Rattle.rp_raftlog.specs.LogState.{LogState, log_at, last_index, last_term, entry_at, term_at, has_term, suffix, appended, cut}
use Rattle.rp_raftsafe.proofs.Logs.{no_entry, term_in, last_tm, same_term_in}

pub record Shows (xs : List Entry) (l : LogState) : Type 0 where
  pub within : l.base ≤ length xs
  pub entries : drop l.base xs ≡ l.entries
  pub base_term : term_in xs l.base ≡ l.base_term

pub shows_last : (xs : List Entry) (l : LogState) → Shows xs l → last_index l ≡ length xs
shows_last xs l s = omega (arith, s.within, ap length s.entries, length-drop l.base xs)

pub entry_in : (xs : List Entry) (l : LogState) → Shows xs l → (j : ℕ) → l.base ≤ j → j < length xs → entry_at l (suc j) ≡ Some (get_or xs j no_entry)
entry_in xs l s j le lt =
    cond_both (ltb l.base (suc j)) (slice_get l.entries (suc j - l.base - 1)) None (λ z. z ≡ Some (get_or xs j no_entry))
    (λ _.
    let at : l.base + (suc j - l.base - 1) ≡ j = omega arith in
    let inside : suc j - l.base - 1 < length l.entries = omega (arith, shows_last xs l s) in
    slice_get-get_or l.entries (suc j - l.base - 1) no_entry inside
    ∙ ap (λ z. Some (get_or z (suc j - l.base - 1) no_entry)) (sym s.entries)
    ∙ ap Some (get_or-drop l.base xs (suc j - l.base - 1) no_entry)
    ∙ ap (λ z. Some (get_or xs z no_entry)) at)
    (λ no. absurd (omega (arith, ltb-false l.base (suc j) no)))

pub term_at_in : (xs : List Entry) (l : LogState) → Shows xs l → (k : ℕ) → l.base ≤ k → k ≤ length xs → term_at l k ≡ Some (term_in xs k)
term_at_in xs l s k le lt =
    cond_both (eqb l.base k) (Some l.base_term) (option_map (λ (e : Entry). e.term) (entry_at l k)) (λ z. z ≡ Some (term_in xs k))
    (λ e. ap Some (sym s.base_term) ∙ ap (λ z. Some (term_in xs z)) (eqb-true l.base k e))
    (λ ne. above k (omega (arith, eqb-false l.base k ne)) lt)
  where
    above : (k : ℕ) → l.base < k → k ≤ length xs → option_map (λ (e : Entry). e.term) (entry_at l k) ≡ Some (term_in xs k)
    above zero gt le' = absurd (omega arith)
    above (suc j) gt le' = ap (option_map (λ (e : Entry). e.term)) (entry_in xs l s j (omega arith) (omega arith))

pub term_at_or : (xs : List Entry) (l : LogState) → Shows xs l → (k d : ℕ) → l.base ≤ k → k ≤ length xs → unwrap_or (term_at l k) d ≡ term_in xs k
term_at_or xs l s k d le lt = ap (λ z. unwrap_or z d) (term_at_in xs l s k le lt)

pub last_term_in : (xs : List Entry) (l : LogState) → Shows xs l → last_term l ≡ last_tm xs
last_term_in xs l s = term_at_or xs l s (last_index l) 0 (omega arith) (omega (arith, shows_last xs l s)) ∙ ap (term_in xs) (shows_last xs l s)

-- below the base and past the last there is no term
term_at_below : (l : LogState) (k : ℕ) → k < l.base → term_at l k ≡ None
term_at_below l k lt =
    cond_both (eqb l.base k) (Some l.base_term) (option_map (λ (e : Entry). e.term) (entry_at l k)) (λ z. z ≡ None)
    (λ e. absurd (omega (arith, eqb-true l.base k e)))
    (λ _. cond_both (ltb l.base k) (slice_get l.entries (k - l.base - 1)) None (λ z. option_map (λ (e : Entry). e.term) z ≡ None) (λ yes. absurd (omega (arith, ltb-true l.base k yes))) (λ _. refl))

term_at_past : (l : LogState) (k : ℕ) → last_index l < k → term_at l k ≡ None
term_at_past l k lt =
    cond_both (eqb l.base k) (Some l.base_term) (option_map (λ (e : Entry). e.term) (entry_at l k)) (λ z. z ≡ None)
    (λ e. absurd (omega (arith, eqb-true l.base k e)))
    (λ _. cond_both (ltb l.base k) (slice_get l.entries (k - l.base - 1)) None (λ z. option_map (λ (e : Entry). e.term) z ≡ None) (λ _. ap (option_map (λ (e : Entry). e.term)) (slice_get_past l.entries (k - l.base - 1) (omega arith))) (λ _. refl))

-- where the log has a term, the whole log has it
pub record HasTerm (xs : List Entry) (l : LogState) (k t : ℕ) : Type 0 where
  pub above : l.base ≤ k
  pub within : k ≤ length xs
  pub term : term_in xs k ≡ t

none_has : (o : Option ℕ) (t : ℕ) → o ≡ None → option_map_or (λ x. eqb x t) o false ≡ true → ⊥
none_has o t e h = absurd (true≢' (sym h ∙ ap (λ z. option_map_or (λ x. eqb x t) z false) e))
  where
    true≢' : true ≡ false → ⊥
    true≢' e' = cc

pub has_term_is : (xs : List Entry) (l : LogState) → Shows xs l → (k t : ℕ) → has_term l k t ≡ true → HasTerm xs l k t
has_term_is xs l s k t h =
    ⊎_elim
    (λ (below : k < l.base). absurd (none_has (term_at l k) t (term_at_below l k below) h))
    (λ (above : l.base ≤ k).
    ⊎_elim
    (λ (past : length xs < k). absurd (none_has (term_at l k) t (term_at_past l k (omega (arith, shows_last xs l s))) h))
    (λ (within : k ≤ length xs).
    record { above = above; within = within; term = eqb-true (term_in xs k) t (sym (ap (λ z. option_map_or (λ x. eqb x t) z false) (term_at_in xs l s k above within)) ∙ h) })
    (cases_lt (length xs) k))
    (cases_lt k l.base)

pub has_term_from : (xs : List Entry) (l : LogState) → Shows xs l → (k t : ℕ) → l.base ≤ k → k ≤ length xs → term_in xs k ≡ t → has_term l k t ≡ true
has_term_from xs l s k t above within e = ap (λ z. option_map_or (λ x. eqb x t) z false) (term_at_in xs l s k above within) ∙ eq-eqb (term_in xs k) t e

-- what stands after an index, as the whole log has it
pub suffix_in : (xs : List Entry) (l : LogState) → Shows xs l → (next most : ℕ) → l.base ≤ next - 1 → suffix l next most ≡ take most (drop (next - 1) xs)
suffix_in xs l s next most le =
    let at : l.base + (next - l.base - 1) ≡ next - 1 = omega arith in
    ap (λ z. take most (drop (next - l.base - 1) z)) (sym s.entries)
    ∙ ap (take most) (drop-drop (next - l.base - 1) l.base xs)
    ∙ ap (λ z. take most (drop z xs)) at

pub shows_append : (xs : List Entry) (l : LogState) (more : List Entry) → Shows xs l → Shows (xs ++ more) (appended l more)
shows_append xs l more s = record {
  within = omega (arith, s.within, length-append xs more);
  entries = drop-append-le l.base xs more s.within ∙ ap (λ z. z ++ more) s.entries;
  base_term = same_term_in l.base l.base (xs ++ more) xs (omega arith) (take-append-le l.base xs more s.within) ∙ s.base_term;
}

pub shows_cut : (xs : List Entry) (l : LogState) (to : ℕ) → Shows xs l → l.base ≤ to → to ≤ length xs → Shows xs (cut l to)
shows_cut xs l to s le within =
    let at : l.base + (to - l.base) ≡ to = omega arith in
    record {
      within = within;
      entries = ap (λ z. drop z xs) (sym at) ∙ sym (drop-drop (to - l.base) l.base xs) ∙ ap (drop (to - l.base)) s.entries;
      base_term = sym (term_at_or xs l s to 0 le within);
    }

pub shows_front : (xs : List Entry) (i t : ℕ) → i ≤ length xs → term_in xs i ≡ t → Shows (take i xs) (log_at i t)
shows_front xs i t le e =
    let len : length (take i xs) ≡ i = length-take-le i xs le in
    record {
      within = omega arith;
      entries = drop_all i (take i xs) (omega arith);
      base_term = same_term_in i i (take i xs) xs (omega arith) (take_take i xs) ∙ e;
    }
  where
    take_take : (k : ℕ) (ys : List Entry) → take k (take k ys) ≡ take k ys
    take_take zero ys = refl
    take_take (suc k) [] = refl
    take_take (suc k) (y ∷ ys) = ap (λ z. y ∷ z) (take_take k ys)
