-- The command line once clap has built it, and what it finds in a command that has options alone.
use Rattle.std.proofs.Common.{◌≡◌, ℕ, ◌==◌, ◌||◌, ◌&&◌, Bool, true, false, cond, List, [], ◌∷◌, ◌++◌, map, Option, None, Some, is_some, refl, sym, ap, subst, ◌∙◌}
use Rattle.std.specs.Prelude.{codes, find, not}
use Rattle.std.specs.List.{list_any}
use Rattle.std.specs.Str.{bytes_eq}
use Rattle.std.proofs.lemmas.Slice.Eq.{bytes_eq-Decides}
use Rattle.clap.specs.Walk.{Rule, Text, arg_by_long, arg_by_id, arg_by_index, has_row}
use Rattle.clap.specs.Simple.{App, Shape, new_shape, built, is_simple}
use Rattle.clap.specs.Faults.{is_simple_and_free}
use Rattle.rp_words.specs.Words.{Given, is_known, stands}
use Rattle.rp_words.specs.Asked.{run_names, race_names}
use Rattle.rp_words.specs.App.{rp_app}
use Rattle.rp_words.specs.Shown.{opt, place, row}

abbrev pub opts : List Text → List Rule
opts names = map opt names

-- a command that has options alone
abbrev pub leaf : Text → List Text → Shape
leaf name names = record (new_shape name) {
  rules = opts names;
  no_binary_name = true;
  disable_help_flag = true;
  disable_help_subcommand = true;
  is_built = true;
}

abbrev pub gen_leaf : Shape
gen_leaf = record (new_shape (codes "gen")) {
  rules = place (codes "number") 1 ∷ place (codes "size") 2 ∷ [];
  no_binary_name = true;
  disable_help_flag = true;
  disable_help_subcommand = true;
  is_built = true;
}

pub built_subs : (built rp_app).subs ≡ leaf (codes "run") run_names ∷ leaf (codes "race") race_names ∷ gen_leaf ∷ []
built_subs = refl

pub simple_and_free : is_simple_and_free rp_app ≡ true
simple_and_free = refl

pub simple : is_simple rp_app ≡ true
simple = refl

-- ---- texts

pub same_text : (m n : Text) → bytes_eq m n ≡ true → m ≡ n
same_text m n h = (bytes_eq-Decides m n).0 h

pub text_itself : (n : Text) → bytes_eq n n ≡ true
text_itself n = (bytes_eq-Decides n n).1 refl

-- ---- look-ups

or_false : (b : Bool) → (b || false) ≡ b
or_false true = refl
or_false false = refl

pub by_long : (names : List Text) (n : Text) → arg_by_long (opts names) n ≡ cond (is_known names n) (Some (opt n)) None
by_long [] n = refl
by_long (m ∷ names) n = go (bytes_eq m n) refl (by_long names n)
  where
    go : (b : Bool) → bytes_eq m n ≡ b → arg_by_long (opts names) n ≡ cond (is_known names n) (Some (opt n)) None
        → arg_by_long (opts (m ∷ names)) n ≡ cond (is_known (m ∷ names) n) (Some (opt n)) None
    go true e h = rw e (ap (λ (t : Text). Some (opt t)) (same_text m n e))
    go false e h = rw e h

pub by_id : (names : List Text) (n : Text) → arg_by_id (opts names) n ≡ cond (is_known names n) (Some (opt n)) None
by_id [] n = refl
by_id (m ∷ names) n = go (bytes_eq m n) refl (by_id names n)
  where
    go : (b : Bool) → bytes_eq m n ≡ b → arg_by_id (opts names) n ≡ cond (is_known names n) (Some (opt n)) None
        → arg_by_id (opts (m ∷ names)) n ≡ cond (is_known (m ∷ names) n) (Some (opt n)) None
    go true e h = rw e (ap (λ (t : Text). Some (opt t)) (same_text m n e))
    go false e h = rw e h

pub by_index : (names : List Text) (i : ℕ) → arg_by_index (opts names) i ≡ None
by_index [] i = refl
by_index (m ∷ names) i = by_index names i

-- ---- rows

pub has_row_stands : (n : Text) (gs : List Given) → has_row n (map row gs) ≡ stands n gs
has_row_stands n [] = refl
has_row_stands n (g ∷ gs) = ap (λ b. bytes_eq g.0 n || b) (has_row_stands n gs)
