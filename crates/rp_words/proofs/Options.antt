-- Words of a command that has options alone: clap takes them exactly where they give options.
use Rattle.std.proofs.Common.{◌≡◌, ℕ, ◌||◌, Bool, true, false, cond, List, [], ◌∷◌, ◌++◌, map, Option, None, Some, is_some, refl, sym, ap, subst, ◌∙◌}
use Rattle.std.specs.List.{fold, list_any}
use Rattle.clap.specs.Walk.{Held, Row, Text, Walk, Waiting, idle, option, settled, settled_rows, used, walked}
use Rattle.clap.specs.Simple.{Shape}
use Rattle.clap.specs.Faults.{settle_fault, turn_fault, use_fault, walk_fault}
use Rattle.clap.specs.Kinds.{Kinds, or_else}
use Rattle.clap.specs.declared.error.kind.ErrorKind.{ErrorKind}
use Rattle.clap.specs.declared.error.kind.ErrorKind.TheVariants as kind
use Rattle.rp_words.specs.Words.{Given, named, is_odd, is_known, stands, adds, takes, given}
use Rattle.rp_words.specs.Shown.{opt, row}
use Rattle.rp_words.proofs.Shapes.{opts, leaf}
use Rattle.rp_words.proofs.Turns.{IsNamed, is_named, IsPlainWord, is_plain, held, at, stray, unknown, value_fault, value_walked, name_fault, name_walked, early_value, early_name, early_unknown, taken_fault, taken_walked, missing_value, used_once, used_twice, settles_once, settles_twice, used_row, settled_row}

-- ---- faults one after another

pub first_empty : (a b : Kinds) → or_else a b ≡ [] → a ≡ []
first_empty [] b h = refl
first_empty (k ∷ a) b h = absurd (cc)

pub some_kind : (k : ErrorKind) (a : Kinds) → a ≡ k ∷ [] → a ≡ [] → ⊥
some_kind k a e h = cc

pub then_none : (a : Kinds) → or_else a [] ≡ a
then_none [] = refl
then_none (k ∷ a) = refl

-- ---- what a walk from here comes to, on the rest of the words

abbrev pub end : Shape → Walk → List Text → Held
end s w words = (fold (walked s.rules []) w words).held

abbrev pub fault : Shape → Walk → List Text → Kinds
fault s w words = or_else (walk_fault s [] w words) (settle_fault s.rules false (end s w words))

abbrev pub rows : Shape → Walk → List Text → List Row
rows s w words = (settled s.rules (end s w words)).rows

-- there is a fault exactly where nothing is given, and else the rows are those of what is given
abbrev pub Agrees : Kinds → List Row → Option (List Given) → Type 0
Agrees kinds rs None = kinds ≡ [] → ⊥
Agrees kinds rs (Some gs) = (kinds ≡ []) × (rs ≡ map row gs)

pub goes : (s : Shape) (w v : Walk) (word : Text) (words : List Text) (m : Option (List Given)) → turn_fault s [] w word ≡ [] → walked s.rules [] w word ≡ v
    → Agrees (fault s v words) (rows s v words) m → Agrees (fault s w (word ∷ words)) (rows s w (word ∷ words)) m
unfolding walk_fault
goes s w v word words m none is h =
    let P : Kinds → Walk → Type 0 = λ t u. Agrees (or_else (or_else t (walk_fault s [] u words)) (settle_fault s.rules false (end s u words))) (rows s u words) m in
    subst (λ t. P t (walked s.rules [] w word)) (sym none) (subst (P []) (sym is) h)

pub stops : (s : Shape) (w : Walk) (word : Text) (words : List Text) → (turn_fault s [] w word ≡ [] → ⊥) → fault s w (word ∷ words) ≡ [] → ⊥
unfolding walk_fault
stops s w word words some h = some (first_empty _ _ (first_empty _ _ h))

abbrev pub AllEven : List Text → Type 0
AllEven words = list_any is_odd words ≡ false

pub or_left : (a b : Bool) → (a || b) ≡ false → a ≡ false
or_left true b h = h
or_left false b h = refl

pub or_right : (a b : Bool) → (a || b) ≡ false → b ≡ false
or_right true b h = absurd (cc)
or_right false b h = h

module _ (name : Text) (names : List Text) where
  abbrev s : Shape
  s = leaf name names

  -- an option that is held stands there already: a fault comes sooner or later
  abbrev Conflicts : List Row → Option (Text × List Text) → Type 0
  Conflicts rs p = settle_fault (opts names) false (held rs p) ≡ [] → ⊥

  conflict : (words : List Text) (rs : List Row) (p : Option (Text × List Text)) → AllEven words → Conflicts rs p → fault s (at rs p idle) words ≡ [] → ⊥
  unfolding walk_fault
  conflict [] rs p even bad h = bad h
  conflict (word ∷ words) rs p even bad h = go (named word) refl
    where
      known_value : (n v : Text) → IsNamed word (n, Some v) → (b : Bool) → is_known names n ≡ b → turn_fault s [] (at rs p idle) word ≡ [] → ⊥
      known_value n v is true known e = bad (first_empty _ _ (first_empty _ _ (sym (value_fault name names rs p word n v is known) ∙ e)))
      known_value n v is false out e = some_kind kind.UnknownArgument _ (unknown name names rs p word n (Some v) is out) e

      known_name : (n : Text) → IsNamed word (n, None) → (b : Bool) → is_known names n ≡ b → turn_fault s [] (at rs p idle) word ≡ [] → ⊥
      known_name n is true known e = bad (first_empty _ _ (sym (name_fault name names rs p word n is known) ∙ e))
      known_name n is false out e = some_kind kind.UnknownArgument _ (unknown name names rs p word n None is out) e

      go : (o : Option (Text × Option Text)) → named word ≡ o → ⊥
      go None e = stops s (at rs p idle) word words
          (some_kind kind.UnknownArgument _ (stray name names rs p word (is_plain word (or_left _ _ even) e))) h
      go (Some (n, Some v)) e = stops s (at rs p idle) word words (known_value n v (is_named word (n, Some v) e) (is_known names n) refl) h
      go (Some (n, None)) e = stops s (at rs p idle) word words (known_name n (is_named word (n, None) e) (is_known names n) refl) h

  -- what is held passes, and then the rows are those of what is given so far
  pub record Fine (rs : List Row) (p : Option (Text × List Text)) (gs : List Given) : Type 0 where
    pub settles : settle_fault (opts names) false (held rs p) ≡ []
    pub rows : settled_rows (opts names) p rs ≡ map row gs

  abbrev Idle : List Text → Type 0
  Idle words = (rs : List Row) (p : Option (Text × List Text)) (gs : List Given) → Fine rs p gs
      → Agrees (fault s (at rs p idle) words) (rows s (at rs p idle) words) (given names gs None words)

  abbrev Waits : List Text → Type 0
  Waits words = (gs : List Given) (n : Text) → is_known names n ≡ true
      → Agrees (fault s (at (map row gs) (Some (n, [])) (option n)) words) (rows s (at (map row gs) (Some (n, [])) (option n)) words) (given names gs (Some n) words)

  -- the fault of an option with its value in the same word, where what is held passes
  own_value : (word : Text) (rs : List Row) (p : Option (Text × List Text)) (gs : List Given) (n v : Text) → Fine rs p gs → IsNamed word (n, Some v) → is_known names n ≡ true
      → turn_fault s [] (at rs p idle) word ≡ use_fault false (opt n) (v ∷ []) (map row gs)
  own_value word rs p gs n v fine is known =
      value_fault name names rs p word n v is known ∙ then_none _
      ∙ ap (λ a. or_else a (use_fault false (opt n) (v ∷ []) (settled_rows (opts names) p rs))) fine.settles
      ∙ ap (use_fault false (opt n) (v ∷ [])) fine.rows

  value_word : (word : Text) (words : List Text) (rs : List Row) (p : Option (Text × List Text)) (gs : List Given) (n v : Text) → Idle words → Fine rs p gs → IsNamed word (n, Some v) → is_known names n ≡ true
      → (b : Bool) → stands n gs ≡ b
      → Agrees (fault s (at rs p idle) (word ∷ words)) (rows s (at rs p idle) (word ∷ words)) (cond b None (given names (gs ++ (n, v) ∷ []) None words))
  value_word word words rs p gs n v idles fine is known true there =
      stops s (at rs p idle) word words (some_kind kind.ArgumentConflict _ (own_value word rs p gs n v fine is known ∙ used_twice name names n v gs there))
  value_word word words rs p gs n v idles fine is known false fresh =
      let next : walked (opts names) [] (at rs p idle) word ≡ at (map row (gs ++ (n, v) ∷ [])) None idle =
      value_walked name names rs p word n v is known ∙ ap (λ (x : List Row). at x None idle) (ap (used (opt n) (v ∷ [])) fine.rows ∙ used_row name names n v gs fresh) in
      goes s (at rs p idle) (at (map row (gs ++ (n, v) ∷ [])) None idle) word words (given names (gs ++ (n, v) ∷ []) None words)
      (own_value word rs p gs n v fine is known ∙ used_once name names n v gs fresh) next
      (idles (map row (gs ++ (n, v) ∷ [])) None (gs ++ (n, v) ∷ []) (record { settles = refl; rows = refl }))

  name_word : (word : Text) (words : List Text) (rs : List Row) (p : Option (Text × List Text)) (gs : List Given) (n : Text) → Waits words → Fine rs p gs → IsNamed word (n, None) → is_known names n ≡ true
      → Agrees (fault s (at rs p idle) (word ∷ words)) (rows s (at rs p idle) (word ∷ words)) (given names gs (Some n) words)
  name_word word words rs p gs n waits fine is known =
      let next : walked (opts names) [] (at rs p idle) word ≡ at (map row gs) (Some (n, [])) (option n) =
      name_walked name names rs p word n is known ∙ ap (λ (x : List Row). at x (Some (n, [])) (option n)) fine.rows in
      goes s (at rs p idle) (at (map row gs) (Some (n, [])) (option n)) word words (given names gs (Some n) words)
      (name_fault name names rs p word n is known ∙ then_none _ ∙ fine.settles) next (waits gs n known)

  abbrev result : List Text → List Given → Option (Text × Option Text) → Option (List Given)
  result words gs o = takes names o gs (λ more. given names more None words) (λ n. given names gs (Some n) words)

  -- one word where no option waits
  idle_word : (word : Text) (words : List Text) → is_odd word ≡ false → Idle words → Waits words → Idle (word ∷ words)
  idle_word word words even idles waits rs p gs fine =
      go (named word) refl
    where
      value_case : (n v : Text) → IsNamed word (n, Some v) → (b : Bool) → is_known names n ≡ b
          → Agrees (fault s (at rs p idle) (word ∷ words)) (rows s (at rs p idle) (word ∷ words)) (cond b (adds n v gs (λ more. given names more None words)) None)
      value_case n v is true known = value_word word words rs p gs n v idles fine is known (stands n gs) refl
      value_case n v is false out = stops s (at rs p idle) word words (some_kind kind.UnknownArgument _ (unknown name names rs p word n (Some v) is out))

      name_case : (n : Text) → IsNamed word (n, None) → (b : Bool) → is_known names n ≡ b
          → Agrees (fault s (at rs p idle) (word ∷ words)) (rows s (at rs p idle) (word ∷ words)) (cond b (given names gs (Some n) words) None)
      name_case n is true known = name_word word words rs p gs n waits fine is known
      name_case n is false out = stops s (at rs p idle) word words (some_kind kind.UnknownArgument _ (unknown name names rs p word n None is out))

      go : (o : Option (Text × Option Text)) → named word ≡ o → Agrees (fault s (at rs p idle) (word ∷ words)) (rows s (at rs p idle) (word ∷ words)) (result words gs o)
      go None e = stops s (at rs p idle) word words (some_kind kind.UnknownArgument _ (stray name names rs p word (is_plain word even e)))
      go (Some (n, Some v)) e = value_case n v (is_named word (n, Some v) e) (is_known names n) refl
      go (Some (n, None)) e = name_case n (is_named word (n, None) e) (is_known names n) refl

  -- the word behind the name of an option
  behind_name : (word : Text) (words : List Text) (gs : List Given) (n : Text) → Idle words → AllEven words → IsPlainWord word → is_known names n ≡ true → (b : Bool) → stands n gs ≡ b
      → Agrees (fault s (at (map row gs) (Some (n, [])) (option n)) (word ∷ words)) (rows s (at (map row gs) (Some (n, [])) (option n)) (word ∷ words))
      (cond b None (given names (gs ++ (n, word) ∷ []) None words))
  behind_name word words gs n idles even is known true there =
      goes s (at (map row gs) (Some (n, [])) (option n)) (at (map row gs) (Some (n, word ∷ [])) idle) word words None
      (taken_fault name names (map row gs) word n is known) (taken_walked name names (map row gs) word n is known)
      (conflict words (map row gs) (Some (n, word ∷ [])) even (some_kind kind.ArgumentConflict _ (settles_twice name names n word gs known there)))
  behind_name word words gs n idles even is known false fresh =
      goes s (at (map row gs) (Some (n, [])) (option n)) (at (map row gs) (Some (n, word ∷ [])) idle) word words (given names (gs ++ (n, word) ∷ []) None words)
      (taken_fault name names (map row gs) word n is known) (taken_walked name names (map row gs) word n is known)
      (idles (map row gs) (Some (n, word ∷ [])) (gs ++ (n, word) ∷ [])
      (record { settles = settles_once name names n word gs known fresh; rows = settled_row name names n word gs known fresh }))

  waiting_word : (word : Text) (words : List Text) → is_odd word ≡ false → AllEven words → Idle words → Waits (word ∷ words)
  waiting_word word words even more idles gs n known = go (named word) refl
    where
      bad_value : (m v : Text) → IsNamed word (m, Some v) → (b : Bool) → is_known names m ≡ b → fault s (at (map row gs) (Some (n, [])) (option n)) (word ∷ words) ≡ [] → ⊥
      bad_value m v is true other = stops s (at (map row gs) (Some (n, [])) (option n)) word words (some_kind kind.InvalidValue _ (early_value name names (map row gs) word n m v is known other))
      bad_value m v is false out = stops s (at (map row gs) (Some (n, [])) (option n)) word words (some_kind kind.UnknownArgument _ (early_unknown name names (map row gs) word n m (Some v) is out))

      bad_name : (m : Text) → IsNamed word (m, None) → (b : Bool) → is_known names m ≡ b → fault s (at (map row gs) (Some (n, [])) (option n)) (word ∷ words) ≡ [] → ⊥
      bad_name m is true other = stops s (at (map row gs) (Some (n, [])) (option n)) word words (some_kind kind.InvalidValue _ (early_name name names (map row gs) word n m is known other))
      bad_name m is false out = stops s (at (map row gs) (Some (n, [])) (option n)) word words (some_kind kind.UnknownArgument _ (early_unknown name names (map row gs) word n m None is out))

      go : (o : Option (Text × Option Text)) → named word ≡ o → Agrees (fault s (at (map row gs) (Some (n, [])) (option n)) (word ∷ words)) (rows s (at (map row gs) (Some (n, [])) (option n)) (word ∷ words))
          (given names gs (Some n) (word ∷ words))
      go None e = rw e (behind_name word words gs n idles more (is_plain word even e) known (stands n gs) refl)
      go (Some (m, Some v)) e = rw e (bad_value m v (is_named word (m, Some v) e) (is_known names m) refl)
      go (Some (m, None)) e = rw e (bad_name m (is_named word (m, None) e) (is_known names m) refl)

  -- clap takes words exactly where they give options, and keeps these
  both_ways : (words : List Text) → AllEven words → Idle words × Waits words
  unfolding walk_fault
  both_ways [] even = (λ rs p gs fine. (fine.settles, fine.rows), λ gs n known. some_kind kind.InvalidValue _ (missing_value name names (map row gs) n known))
  both_ways (word ∷ words) even =
      let rest = both_ways words (or_right _ _ even) in
      (idle_word word words (or_left _ _ even) rest.0 rest.1, waiting_word word words (or_left _ _ even) (or_right _ _ even) rest.0)

  pub agrees : (words : List Text) → AllEven words → Agrees (fault s (at [] None idle) words) (rows s (at [] None idle) words) (given names [] None words)
  agrees words even = (both_ways words even).0 [] None [] (record { settles = refl; rows = refl })
