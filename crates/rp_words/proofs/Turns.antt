-- One word of a command that has options alone, as clap takes it.
use Rattle.std.proofs.Common.{◌≡◌, ℕ, ◌==◌, ◌||◌, ◌&&◌, Bool, true, false, cond, List, [], ◌∷◌, ◌++◌, map, Option, None, Some, is_some, refl, sym, ap, subst, ◌∙◌, append_assoc, append-nil}
use Rattle.std.specs.Str.{bytes_eq}
use Rattle.clap.specs.Lexer.{long_of, short_of}
use Rattle.clap.specs.Walk.{Held, Rule, Row, Text, Walk, Waiting, idle, option, at_row, has_row, more_values, settled_rows, used, walked, without}
use Rattle.clap.specs.Faults.{settle_fault, turn_fault, use_fault}
use Rattle.clap.specs.Kinds.{Kinds, or_else}
use Rattle.clap.specs.declared.parser.matches.ValueSource.TheVariants.{CommandLine}
use Rattle.std.proofs.lemmas.List.{map-append}
use Rattle.clap.specs.declared.error.kind.ErrorKind.TheVariants as kind
use Rattle.rp_words.specs.Words.{Given, behind_hyphen, named, is_odd, is_known, stands}
use Rattle.rp_words.specs.Shown.{opt, row}
use Rattle.rp_words.proofs.Shapes.{opts, leaf, by_long, by_id, by_index, has_row_stands, text_itself, same_text}

-- ---- what a word looks like

named_long : (word : Text) → named word ≡ long_of word
named_long [] = refl
named_long (x ∷ xs) = go (x == 45) refl xs
  where
    go : (b : Bool) → (x == 45) ≡ b → (ys : Text) → named (x ∷ ys) ≡ long_of (x ∷ ys)
    go false e ys = rw e refl
    go true e [] = rw e refl
    go true e (y ∷ ys) = then (y == 45) refl ys
      where
        then : (c : Bool) → (y == 45) ≡ c → (zs : Text) → named (x ∷ y ∷ zs) ≡ long_of (x ∷ y ∷ zs)
        then false f zs = rw (e, f) refl
        then true f [] = rw (e, f) refl
        then true f (z ∷ zs) = rw (e, f) refl

-- a word that clap takes as a name
pub record IsNamed (word : Text) (q : Text × Option Text) : Type 0 where
  pub dashes : bytes_eq word (45 ∷ 45 ∷ []) ≡ false
  pub long : long_of word ≡ Some q

and_false : (b : Bool) → (b && false) ≡ false
and_false true = refl
and_false false = refl

pub is_named : (word : Text) (q : Text × Option Text) → named word ≡ Some q → IsNamed word q
is_named word q h = record { dashes = go word h; long = sym (named_long word) ∙ h }
  where
    go : (w : Text) → named w ≡ Some q → bytes_eq w (45 ∷ 45 ∷ []) ≡ false
    go [] e = refl
    go (x ∷ []) e = and_false (x == 45)
    go (x ∷ y ∷ []) e = absurd (short (x == 45) refl (y == 45) refl)
      where
        short : (b : Bool) → (x == 45) ≡ b → (c : Bool) → (y == 45) ≡ c → ⊥
        short false f c g = let none : named (x ∷ y ∷ []) ≡ None = rw f refl in cc
        short true f false g = let none : named (x ∷ y ∷ []) ≡ None = rw (f, g) refl in cc
        short true f true g = let none : named (x ∷ y ∷ []) ≡ None = rw (f, g) refl in cc
    go (x ∷ y ∷ z ∷ zs) e = ap (λ b. (x == 45) && b) (and_false (y == 45)) ∙ and_false (x == 45)

-- a word that begins with no hyphen
pub record IsPlainWord (word : Text) : Type 0 where
  pub dashes : bytes_eq word (45 ∷ 45 ∷ []) ≡ false
  pub long : long_of word ≡ None
  pub short : short_of word ≡ None

pub is_plain : (word : Text) → is_odd word ≡ false → named word ≡ None → IsPlainWord word
is_plain [] even none = record { dashes = refl; long = refl; short = refl }
is_plain (x ∷ xs) even none = go (x == 45) refl
  where
    go : (b : Bool) → (x == 45) ≡ b → IsPlainWord (x ∷ xs)
    go false e = record { dashes = rw e refl; long = rw e refl; short = rw e refl }
    go true e = absurd (let odd : is_odd (x ∷ xs) ≡ true = rw (none, e) refl in cc)

-- ---- a walk between two words

abbrev pub held : List Row → Option (Text × List Text) → Held
held rows p = record { rows = rows; pending = p; skip = 0 }

abbrev pub at : List Row → Option (Text × List Text) → Waiting → Walk
at rows p waiting = record { held = held rows p; waiting = waiting; position = 1; is_trailing = false; stopped = None }

module _ (name : Text) (names : List Text) where
  -- a plain word, where no option waits
  pub stray : (rows : List Row) (p : Option (Text × List Text)) (word : Text) → IsPlainWord word
      → turn_fault (leaf name names) [] (at rows p idle) word ≡ kind.UnknownArgument ∷ []
  stray rows p word is = rw (is.dashes, is.long, is.short, by_index names 1) refl

  -- a name that is not known
  pub unknown : (rows : List Row) (p : Option (Text × List Text)) (word n : Text) (v : Option Text) → IsNamed word (n, v) → is_known names n ≡ false
      → turn_fault (leaf name names) [] (at rows p idle) word ≡ kind.UnknownArgument ∷ []
  unknown rows p word n v is out = rw (is.dashes, is.long, by_long names n, out) refl

  -- a known name with its value in the same word
  pub value_fault : (rows : List Row) (p : Option (Text × List Text)) (word n v : Text) → IsNamed word (n, Some v) → is_known names n ≡ true
      → turn_fault (leaf name names) [] (at rows p idle) word
      ≡ or_else (or_else (settle_fault (opts names) false (held rows p)) (use_fault false (opt n) (v ∷ []) (settled_rows (opts names) p rows))) []
  value_fault rows p word n v is known = rw (is.dashes, is.long, by_long names n, known) refl

  pub value_walked : (rows : List Row) (p : Option (Text × List Text)) (word n v : Text) → IsNamed word (n, Some v) → is_known names n ≡ true
      → walked (opts names) [] (at rows p idle) word ≡ at (used (opt n) (v ∷ []) (settled_rows (opts names) p rows)) None idle
  unfolding walked
  value_walked rows p word n v is known = rw (is.dashes, is.long, by_long names n, known) refl

  -- a known name, whose value comes next
  pub name_fault : (rows : List Row) (p : Option (Text × List Text)) (word n : Text) → IsNamed word (n, None) → is_known names n ≡ true
      → turn_fault (leaf name names) [] (at rows p idle) word ≡ or_else (settle_fault (opts names) false (held rows p)) []
  name_fault rows p word n is known = rw (is.dashes, is.long, by_long names n, known) refl

  pub name_walked : (rows : List Row) (p : Option (Text × List Text)) (word n : Text) → IsNamed word (n, None) → is_known names n ≡ true
      → walked (opts names) [] (at rows p idle) word ≡ at (settled_rows (opts names) p rows) (Some (n, [])) (option n)
  unfolding walked
  name_walked rows p word n is known = rw (is.dashes, is.long, by_long names n, known) refl

  -- a name where a value should come
  pub early_value : (rows : List Row) (word n m v : Text) → IsNamed word (m, Some v) → is_known names n ≡ true → is_known names m ≡ true
      → turn_fault (leaf name names) [] (at rows (Some (n, [])) (option n)) word ≡ kind.InvalidValue ∷ []
  early_value rows word n m v is known other = rw (is.dashes, is.long, by_long names m, other, by_id names n, known) refl

  pub early_name : (rows : List Row) (word n m : Text) → IsNamed word (m, None) → is_known names n ≡ true → is_known names m ≡ true
      → turn_fault (leaf name names) [] (at rows (Some (n, [])) (option n)) word ≡ kind.InvalidValue ∷ []
  early_name rows word n m is known other = rw (is.dashes, is.long, by_long names m, other, by_id names n, known) refl

  pub early_unknown : (rows : List Row) (word n m : Text) (v : Option Text) → IsNamed word (m, v) → is_known names m ≡ false
      → turn_fault (leaf name names) [] (at rows (Some (n, [])) (option n)) word ≡ kind.UnknownArgument ∷ []
  early_unknown rows word n m v is out = rw (is.dashes, is.long, by_long names m, out) refl

  -- the value of the option that waits
  pub taken_fault : (rows : List Row) (word n : Text) → IsPlainWord word → is_known names n ≡ true
      → turn_fault (leaf name names) [] (at rows (Some (n, [])) (option n)) word ≡ []
  taken_fault rows word n is known = rw (is.dashes, is.long, is.short) refl

  pub taken_walked : (rows : List Row) (word n : Text) → IsPlainWord word → is_known names n ≡ true
      → walked (opts names) [] (at rows (Some (n, [])) (option n)) word ≡ at rows (Some (n, word ∷ [])) idle
  unfolding walked
  taken_walked rows word n is known = rw (is.dashes, is.long, is.short, by_id names n, known, text_itself n) refl

  -- ---- what is held is used

  pub missing_value : (rows : List Row) (n : Text) → is_known names n ≡ true → settle_fault (opts names) false (held rows (Some (n, []))) ≡ kind.InvalidValue ∷ []
  missing_value rows n known = rw (by_id names n, known) refl

  pub used_once : (n v : Text) (gs : List Given) → stands n gs ≡ false → use_fault false (opt n) (v ∷ []) (map row gs) ≡ []
  used_once n v gs fresh = rw (has_row_stands n gs, fresh) refl

  pub used_twice : (n v : Text) (gs : List Given) → stands n gs ≡ true → use_fault false (opt n) (v ∷ []) (map row gs) ≡ kind.ArgumentConflict ∷ []
  used_twice n v gs there = rw (has_row_stands n gs, there) refl

  pub settles_once : (n v : Text) (gs : List Given) → is_known names n ≡ true → stands n gs ≡ false
      → settle_fault (opts names) false (held (map row gs) (Some (n, v ∷ []))) ≡ []
  settles_once n v gs known fresh = rw (by_id names n, known) (used_once n v gs fresh)

  pub settles_twice : (n v : Text) (gs : List Given) → is_known names n ≡ true → stands n gs ≡ true
      → settle_fault (opts names) false (held (map row gs) (Some (n, v ∷ []))) ≡ kind.ArgumentConflict ∷ []
  settles_twice n v gs known there = rw (by_id names n, known) (used_twice n v gs there)

  absent : (id : Text) (change : Row → List Row) (missing rows : List Row) → has_row id rows ≡ false → at_row id change missing rows ≡ rows ++ missing
  absent id change missing [] fresh = refl
  absent id change missing (r ∷ rows) fresh = go (bytes_eq r.id id) refl (absent id change missing rows)
    where
      go : (b : Bool) → bytes_eq r.id id ≡ b → (has_row id rows ≡ false → at_row id change missing rows ≡ rows ++ missing) → at_row id change missing (r ∷ rows) ≡ (r ∷ rows) ++ missing
      go true e rest = absurd (let there : has_row id (r ∷ rows) ≡ true = rw e refl in cc)
      go false e rest = rw e (ap (λ rs. r ∷ rs) (rest (let same : has_row id (r ∷ rows) ≡ has_row id rows = rw e refl in sym same ∙ fresh)))

  -- one row more
  pub used_row : (n v : Text) (gs : List Given) → stands n gs ≡ false → used (opt n) (v ∷ []) (map row gs) ≡ map row (gs ++ (n, v) ∷ [])
  used_row n v gs fresh =
      let new : has_row n (map row gs) ≡ false = has_row_stands n gs ∙ fresh in
      let kept : without n (map row gs) ≡ map row gs = absent n (λ _. []) [] (map row gs) new ∙ append-nil (map row gs) in
      ap (λ rs. at_row n (more_values CommandLine (v ∷ [])) (row (n, v) ∷ []) rs) kept
      ∙ absent n (more_values CommandLine (v ∷ [])) (row (n, v) ∷ []) (map row gs) new
      ∙ sym (map-append row gs ((n, v) ∷ []))

  pub settled_row : (n v : Text) (gs : List Given) → is_known names n ≡ true → stands n gs ≡ false
      → settled_rows (opts names) (Some (n, v ∷ [])) (map row gs) ≡ map row (gs ++ (n, v) ∷ [])
  settled_row n v gs known fresh = rw (by_id names n, known) (used_row n v gs fresh)
