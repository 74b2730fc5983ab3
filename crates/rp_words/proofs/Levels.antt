-- What stands behind the name of a command: clap takes it exactly where it is a line of the table.
use Rattle.std.proofs.Common.{◌≡◌, ℕ, ◌||◌, ◌&&◌, Bool, true, false, cond, List, [], ◌∷◌, ◌++◌, map, Option, None, Some, is_some, refl, sym, ap, subst, ◌∙◌}
use Rattle.std.specs.Prelude.{codes, not}
use Rattle.std.specs.List.{fold, list_any}
use Rattle.clap.specs.Walk.{Held, Row, Rule, Text, Walk, idle, finished, has_row, nothing_held, rows_after, settled, walked, with_default}
use Rattle.clap.specs.Simple.{Shape}
use Rattle.clap.specs.Faults.{check_fault, defaults_fault, level_fault, settle_fault, turn_fault, walk_fault}
use Rattle.clap.specs.Kinds.{Kinds, or_else}
use Rattle.clap.specs.Takes.{is_given}
use Rattle.clap.specs.declared.error.kind.ErrorKind.TheVariants as kind
use Rattle.rp_words.specs.Words.{Given, named, is_odd, given}
use Rattle.rp_words.specs.Asked.{Line, gen, two_words}
use Rattle.rp_words.specs.Shown.{opt, place, kept, gen_rows}
use Rattle.rp_words.proofs.Shapes.{opts, leaf, gen_leaf}
use Rattle.rp_words.proofs.Turns.{IsNamed, is_named, IsPlainWord, is_plain, at}
use Rattle.rp_words.proofs.Options.{Agrees, AllEven, agrees, end, fault, first_empty, some_kind, then_none, or_left, or_right}

-- ---- a command that has options alone has no defaults, and needs none of them

same_either : (b : Bool) (rs : List Row) → cond b rs rs ≡ rs
same_either true rs = refl
same_either false rs = refl

no_default : (rs : List Row) (n : Text) → with_default rs (opt n) ≡ rs
no_default rs n = same_either (has_row n rs) rs

no_defaults : (names : List Text) (rs : List Row) → fold with_default rs (opts names) ≡ rs
no_defaults [] rs = refl
no_defaults (n ∷ names) rs = ap (λ (x : List Row). fold with_default x (opts names)) (no_default rs n) ∙ no_defaults names rs

or_true : (b : Bool) → (b || true) ≡ true
or_true true = refl
or_true false = refl

no_default_fault : (names : List Text) (rs : List Row) → defaults_fault rs (opts names) ≡ []
unfolding defaults_fault
no_default_fault [] rs = refl
no_default_fault (n ∷ names) rs = rw (or_true (has_row n rs), no_default rs n) (no_default_fault names rs)

none_required : (names : List Text) (rs : List Row) → list_any (λ (a : Rule). a.required && not (is_given a.id rs)) (opts names) ≡ false
none_required [] rs = refl
none_required (n ∷ names) rs = none_required names rs

no_check_fault : (name : Text) (names : List Text) (rs : List Row) → check_fault (leaf name names) rs false ≡ []
no_check_fault name names rs = rw (none_required names rs) refl

pub level_is : (name : Text) (names : List Text) (words : List Text) → level_fault (leaf name names) [] nothing_held words false [] ≡ fault (leaf name names) (at [] None idle) words
level_is name names words =
    let e = end (leaf name names) (at [] None idle) words in
    let tail : or_else (defaults_fault (settled (opts names) e).rows (opts names)) (check_fault (leaf name names) (finished (opts names) e) false) ≡ [] =
    ap (λ (k : Kinds). or_else k (check_fault (leaf name names) (finished (opts names) e) false)) (no_default_fault names (settled (opts names) e).rows)
    ∙ no_check_fault name names (finished (opts names) e) in
    ap (λ (k : Kinds). or_else (walk_fault (leaf name names) [] (at [] None idle) words) (or_else (settle_fault (opts names) false e) k)) tail
    ∙ ap (λ (k : Kinds). or_else (walk_fault (leaf name names) [] (at [] None idle) words) k) (then_none (settle_fault (opts names) false e))

-- ---- options

pub options_agree : (name : Text) (names : List Text) (words : List Text) → AllEven words
    → Agrees (level_fault (leaf name names) [] nothing_held words false []) (rows_after (opts names) [] words) (given names [] None words)
options_agree name names words even =
    let e = end (leaf name names) (at [] None idle) words in
    subst (λ (k : Kinds). Agrees k (rows_after (opts names) [] words) (given names [] None words)) (sym (level_is name names words))
    (subst (λ (rs : List Row). Agrees (fault (leaf name names) (at [] None idle) words) rs (given names [] None words)) (sym (no_defaults names (settled (opts names) e).rows))
    (agrees name names words even))

-- ---- two words

abbrev standing : List Row → Option (Text × List Text) → ℕ → Walk
standing rs p i = record { held = record { rows = rs; pending = p; skip = 0 }; waiting = idle; position = i; is_trailing = false; stopped = None }

abbrev first : Walk
first = standing [] None 1

abbrev second : Text → Walk
second a = standing [] (Some (codes "number", a ∷ [])) 2

abbrev third : Text → Text → Walk
third a b = standing (kept (codes "number") (place (codes "number") 1) a ∷ []) (Some (codes "size", b ∷ [])) 3

named_fails : (rs : List Row) (p : Option (Text × List Text)) (i : ℕ) (word n : Text) (v : Option Text) → IsNamed word (n, v) → turn_fault gen_leaf [] (standing rs p i) word ≡ kind.UnknownArgument ∷ []
named_fails rs p i word n v is = rw (is.dashes, is.long) refl

first_walked : (a : Text) → IsPlainWord a → walked gen_leaf.rules [] first a ≡ second a
unfolding walked
first_walked a is = rw (is.dashes, is.long, is.short) refl

first_fault : (a : Text) → IsPlainWord a → turn_fault gen_leaf [] first a ≡ []
first_fault a is = rw (is.dashes, is.long, is.short) refl

second_walked : (a b : Text) → IsPlainWord b → walked gen_leaf.rules [] (second a) b ≡ third a b
unfolding walked
second_walked a b is = rw (is.dashes, is.long, is.short) refl

second_fault : (a b : Text) → IsPlainWord b → turn_fault gen_leaf [] (second a) b ≡ []
second_fault a b is = rw (is.dashes, is.long, is.short) refl

third_fails : (a b c : Text) → IsPlainWord c → turn_fault gen_leaf [] (third a b) c ≡ kind.UnknownArgument ∷ []
third_fails a b c is = rw (is.dashes, is.long, is.short) refl

-- the rest of a level, where the walk over the words ends here
abbrev rest_of : Walk → Kinds
rest_of w = or_else (settle_fault gen_leaf.rules false w.held)
    (or_else (defaults_fault (settled gen_leaf.rules w.held).rows gen_leaf.rules) (check_fault gen_leaf (finished gen_leaf.rules w.held) false))

abbrev from : Walk → List Text → Kinds
from w words = or_else (walk_fault gen_leaf [] w words) (rest_of (fold (walked gen_leaf.rules []) w words))

stops_here : (w : Walk) (word : Text) (words : List Text) → (turn_fault gen_leaf [] w word ≡ [] → ⊥) → from w (word ∷ words) ≡ [] → ⊥
unfolding walk_fault
stops_here w word words some h = some (first_empty _ _ (first_empty _ _ h))

goes_on : (w v : Walk) (word : Text) (words : List Text) → turn_fault gen_leaf [] w word ≡ [] → walked gen_leaf.rules [] w word ≡ v → from w (word ∷ words) ≡ from v words
unfolding walk_fault
goes_on w v word words none is =
    let F : Kinds → Walk → Kinds = λ t u. or_else (or_else t (walk_fault gen_leaf [] u words)) (rest_of (fold (walked gen_leaf.rules []) u words)) in
    ap (λ (t : Kinds). F t (walked gen_leaf.rules [] w word)) none ∙ ap (F []) is

none_given : from first [] ≡ kind.MissingRequiredArgument ∷ []
unfolding walk_fault defaults_fault
none_given = refl

one_given : (a : Text) → from (second a) [] ≡ kind.MissingRequiredArgument ∷ []
unfolding walk_fault defaults_fault
one_given a = refl

two_given : (a b : Text) → from (third a b) [] ≡ []
unfolding walk_fault defaults_fault
two_given a b = refl

abbrev pub AgreesOn : Kinds → List Row → Option Line → Type 0
AgreesOn kinds rs None = kinds ≡ [] → ⊥
AgreesOn kinds rs (Some (gen a b)) = (kinds ≡ []) × (rs ≡ gen_rows a b)
AgreesOn kinds rs (Some line) = ⊥

-- what comes of words behind a plain first one, and behind two plain ones
behind_first : (a : Text) (words : List Text) → IsPlainWord a → from first (a ∷ words) ≡ from (second a) words
behind_first a words is = goes_on first (second a) a words (first_fault a is) (first_walked a is)

behind_second : (a b : Text) (words : List Text) → IsPlainWord b → from (second a) (b ∷ words) ≡ from (third a b) words
behind_second a b words is = goes_on (second a) (third a b) b words (second_fault a b is) (second_walked a b is)

bad_first : (a n : Text) (v : Option Text) (words : List Text) → named a ≡ Some (n, v) → from first (a ∷ words) ≡ [] → ⊥
bad_first a n v words e = stops_here first a words (some_kind kind.UnknownArgument _ (named_fails [] None 1 a n v (is_named a (n, v) e)))

bad_second : (a b n : Text) (v : Option Text) (words : List Text) → IsPlainWord a → named b ≡ Some (n, v) → from first (a ∷ b ∷ words) ≡ [] → ⊥
bad_second a b n v words is e h =
    stops_here (second a) b words (some_kind kind.UnknownArgument _ (named_fails [] (Some (codes "number", a ∷ [])) 2 b n v (is_named b (n, v) e)))
    (sym (behind_first a (b ∷ words) is) ∙ h)

one_word : (a : Text) → is_odd a ≡ false → (o : Option (Text × Option Text)) → named a ≡ o → from first (a ∷ []) ≡ [] → ⊥
one_word a even (Some (n, v)) e h = bad_first a n v [] e h
one_word a even None e h =
    some_kind kind.MissingRequiredArgument _ (one_given a) (sym (behind_first a [] (is_plain a even e)) ∙ h)

third_word : (a b c : Text) (words : List Text) → IsPlainWord a → IsPlainWord b → is_odd c ≡ false → (o : Option (Text × Option Text)) → named c ≡ o → from first (a ∷ b ∷ c ∷ words) ≡ [] → ⊥
third_word a b c words pa pb even o e h =
    let there : from (third a b) (c ∷ words) ≡ [] = sym (behind_first a (b ∷ c ∷ words) pa ∙ behind_second a b (c ∷ words) pb) ∙ h in
    go o e there
  where
    go : (q : Option (Text × Option Text)) → named c ≡ q → from (third a b) (c ∷ words) ≡ [] → ⊥
    go None f = stops_here (third a b) c words (some_kind kind.UnknownArgument _ (third_fails a b c (is_plain c even f)))
    go (Some (n, v)) f = stops_here (third a b) c words
        (some_kind kind.UnknownArgument _ (named_fails (kept (codes "number") (place (codes "number") 1) a ∷ []) (Some (codes "size", b ∷ [])) 3 c n v (is_named c (n, v) f)))

many_words : (a b c : Text) (words : List Text) → is_odd a ≡ false → is_odd b ≡ false → is_odd c ≡ false
    → (o : Option (Text × Option Text)) → named a ≡ o → (q : Option (Text × Option Text)) → named b ≡ q → from first (a ∷ b ∷ c ∷ words) ≡ [] → ⊥
many_words a b c words ea eb ec (Some (n, v)) e q f h = bad_first a n v (b ∷ c ∷ words) e h
many_words a b c words ea eb ec None e (Some (n, v)) f h = bad_second a b n v (c ∷ words) (is_plain a ea e) f h
many_words a b c words ea eb ec None e None f h = third_word a b c words (is_plain a ea e) (is_plain b eb f) ec (named c) refl h

two_rows : (a b : Text) → IsPlainWord a → IsPlainWord b → rows_after gen_leaf.rules [] (a ∷ b ∷ []) ≡ gen_rows a b
two_rows a b pa pb =
    ap (λ (w : Walk). finished gen_leaf.rules (walked gen_leaf.rules [] w b).held) (first_walked a pa)
    ∙ ap (λ (w : Walk). finished gen_leaf.rules w.held) (second_walked a b pb)

both_words : (a b : Text) → is_odd a ≡ false → is_odd b ≡ false → (o : Option (Text × Option Text)) → named a ≡ o → (q : Option (Text × Option Text)) → named b ≡ q
    → AgreesOn (from first (a ∷ b ∷ [])) (rows_after gen_leaf.rules [] (a ∷ b ∷ [])) (cond (is_some o || is_some q) None (Some (gen a b)))
both_words a b ea eb (Some (n, v)) e q f = bad_first a n v (b ∷ []) e
both_words a b ea eb None e (Some (n, v)) f = bad_second a b n v [] (is_plain a ea e) f
both_words a b ea eb None e None f =
    let pa = is_plain a ea e in
    let pb = is_plain b eb f in
    (behind_first a (b ∷ []) pa ∙ behind_second a b [] pb ∙ two_given a b, two_rows a b pa pb)

pub words_agree : (words : List Text) → AllEven words → AgreesOn (level_fault gen_leaf [] nothing_held words false []) (rows_after gen_leaf.rules [] words) (two_words words)
words_agree [] even = some_kind kind.MissingRequiredArgument _ none_given
words_agree (a ∷ []) even = one_word a (or_left _ _ even) (named a) refl
words_agree (a ∷ b ∷ []) even = both_words a b (or_left _ _ even) (or_left _ _ (or_right _ _ even)) (named a) refl (named b) refl
words_agree (a ∷ b ∷ c ∷ words) even =
    many_words a b c words (or_left _ _ even) (or_left _ _ (or_right _ _ even)) (or_left _ _ (or_right _ _ (or_right _ _ even))) (named a) refl (named b) refl
