-- From what clap keeps to what the words ask for.
use Rattle.std.proofs.Common.{◌≡◌, ℕ, ◌||◌, Bool, true, false, cond, List, [], ◌∷◌, map, Option, None, Some, refl, sym, ap, ap₂, subst, ◌∙◌, inl, inr}
use Rattle.std.specs.Prelude.{Result, IfOk, IfErr, codes, option_map, option_and_then, ok_or}
use Rattle.std.specs.List.{find, list_any}
use Rattle.std.specs.Str.{bytes_eq}
use Rattle.clap.specs.Matches.{first_value, subcommand_name_of}
use Rattle.clap.specs.Walk.{Row, first_of, rows_of}
use Rattle.clap.specs.Simple.{App, HasMatchesOf, is_simple, subcommand_of, subcommand_rows_of}
use Rattle.clap.specs.Faults.{fault_of, is_simple_and_free}
use Rattle.clap.specs.declared.parser.matches.ArgMatches.{ArgMatches}
use Rattle.clap.specs.declared.error.kind.ErrorKind.{ErrorKind}
use Rattle.clap.specs.Kinds.{Kinds, HasKind, IsAmong}
use Rattle.clap.specs.Values.{kind_of}
use Rattle.clap.specs.declared.error.Error.{Error}
use Rattle.clap.specs.declared.error.kind.ErrorKind.TheVariants.{OutOfMemory}
use Rattle.clap.specs.declared.parser.matches.Found.{Found}
use Rattle.clap.specs.declared.parser.matches.ArgMatches.TheViews.{out-ArgMatches}
use Rattle.clap.proofs.WalkLemmas.{first_value-rows}
use Rattle.rp_words.specs.Words.{Text, Given, is_odd, value_of}
use Rattle.rp_words.specs.Asked.{Line, run, race, gen, line_of, form_or_text, plan_by, script_by, asked_in, asked_of}
use Rattle.rp_words.specs.App.{rp_app}
use Rattle.rp_words.specs.Shown.{row, gen_rows, shown, asked_at}
use Rattle.rp_words.specs.declared.asks.Asked.{Asked}
use Rattle.rp_words.specs.declared.asks.Asked.TheVariants as asks
use Rattle.rp_words.specs.declared.asks.RacePlan.{RacePlan}
use Rattle.rp_words.specs.declared.asks.WordsFault.{WordsFault}
use Rattle.rp_words.specs.declared.asks.WordsFault.TheVariants.{Usage}
use Rattle.rp_words.proofs.Shapes.{simple, simple_and_free}
use Rattle.rp_words.proofs.Tops.{Parses, table}

-- ---- values

value_kept : (id : Text) (gs : List Given) → first_of id (map row gs) ≡ value_of id gs
value_kept id [] = refl
value_kept id (g ∷ gs) = go (bytes_eq g.0 id) refl (value_kept id gs)
  where
    go : (b : Bool) → bytes_eq g.0 id ≡ b → first_of id (map row gs) ≡ value_of id gs → first_of id (map row (g ∷ gs)) ≡ value_of id (g ∷ gs)
    go true e h = rw e refl
    go false e h = rw e h

plan_same : (f g : Text → Option Text) → ((id : Text) → f id ≡ g id) → plan_by f ≡ plan_by g
plan_same f g same = rw (same (codes "workers"), same (codes "loss"), same (codes "salt"), same (codes "quota"), same (codes "form")) refl

judged : (line : Line) (get : Text → Option Text) → ((id : Text) → get id ≡ first_of id (shown line).1) → asked_at (shown line).0 get ≡ asked_in line
judged (run gs) get same = ap (λ (o : Option Text). option_map asks.Run (form_or_text o)) (same (codes "form") ∙ value_kept (codes "form") gs)
judged (race gs) get same = ap (λ (o : Option RacePlan). option_map asks.Race o) (plan_same get (λ name. value_of name gs) (λ id. same id ∙ value_kept id gs))
judged (gen a b) get same = rw (same (codes "number"), same (codes "size")) refl

-- what is found for the command that was entered
pub found_asks : (line : Line) (name : Text) (get : Text → Option Text) (rows : List Row) (made : Option Asked) → made ≡ asked_at name get → ((id : Text) → get id ≡ first_of id rows)
    → (name, rows) ≡ shown line → made ≡ asked_in line
found_asks line name get rows made is same there =
    is ∙ ap (λ (n : Text). asked_at n get) (ap (λ (p : Text × List Row). p.0) there)
    ∙ judged line get (λ id. same id ∙ ap (λ (p : Text × List Row). first_of id p.1) there)

-- ---- clap's answer

pub parse_sound : (words : List Text) → list_any is_odd words ≡ false → fault_of rp_app words ≡ []
    → (line : Line) × (line_of words ≡ Some line) × (subcommand_of rp_app words ≡ Some (shown line))
parse_sound words even none = go (line_of words) refl (table words even)
  where
    go : (o : Option Line) → line_of words ≡ o → Parses (fault_of rp_app words) (subcommand_of rp_app words) o
        → (line : Line) × (line_of words ≡ Some line) × (subcommand_of rp_app words ≡ Some (shown line))
    go None e h = absurd (h none)
    go (Some line) e h = (line, e, h.1)

pub parse_complete : (words : List Text) → list_any is_odd words ≡ false → (line : Line) → line_of words ≡ Some line → fault_of rp_app words ≡ []
parse_complete words even line is = (subst (λ (o : Option Line). Parses (fault_of rp_app words) (subcommand_of rp_app words) o) is (table words even)).0

pub parsed_ok : (a : App) (words : List Text) (m : ArgMatches) → a ≡ rp_app → list_any is_odd words ≡ false → (is_simple_and_free a ≡ true → fault_of a words ≡ []) → HasMatchesOf a words m
    → (line : Line) × (line_of words ≡ Some line) × (subcommand_rows_of m ≡ Some (shown line))
parsed_ok a words m is even passes has =
    let none : fault_of rp_app words ≡ [] = sym (ap (λ (b : App). fault_of b words) is) ∙ passes (ap is_simple_and_free is ∙ simple_and_free) in
    let line = parse_sound words even none in
    (line.0, line.1, (has (ap is_simple is ∙ simple)).1 ∙ ap (λ (b : App). subcommand_of b words) is ∙ line.2)

among_none : (k : ErrorKind) (kinds : Kinds) → kinds ≡ [] → IsAmong k kinds → ⊥
among_none k [] e h = h
among_none k (x ∷ kinds) e h = cc

pub parsed_err : (a : App) (words : List Text) (k : ErrorKind) → a ≡ rp_app → list_any is_odd words ≡ false → (is_simple_and_free a ≡ true → IsAmong k (fault_of a words)) → line_of words ≡ None
parsed_err a words k is even among = go (line_of words) refl
  where
    go : (o : Option Line) → line_of words ≡ o → o ≡ None
    go None e = refl
    go (Some line) e = absurd (among_none k (fault_of a words) (ap (λ (b : App). fault_of b words) is ∙ parse_complete words even line e) (among (ap is_simple_and_free is ∙ simple_and_free)))

-- ---- the command that was entered

first_parts : {B : Type 0} (f : B → Text) (g : B → List Row) (o : Option B) → option_map (λ (p : Text × List Row). p.0) (option_map (λ b. (f b, g b)) o) ≡ option_map f o
first_parts f g None = refl
first_parts f g (Some b) = refl

name_of_rows : (m : ArgMatches) → subcommand_name_of m ≡ option_map (λ (p : Text × List Row). p.0) (subcommand_rows_of m)
name_of_rows m = sym (first_parts _ _ (out-ArgMatches m).subcommand)

some_text : (a b : Text) → ◌≡◌ {A = Option Text} (Some a) (Some b) → a ≡ b
some_text a b e = cc

some_rows : (a b : List Row) → ◌≡◌ {A = Option (List Row)} (Some a) (Some b) → a ≡ b
some_rows a b e = cc

no_text : (a : Text) → ◌≡◌ {A = Option Text} None (Some a) → ⊥
no_text a e = cc

pub entered_asks : (m : ArgMatches) (name : Text) (f : Found) (made : Option Asked) → made ≡ asked_at name (first_value f)
    → Some name ≡ subcommand_name_of m → Some (rows_of f) ≡ option_map (λ (p : Text × List Row). p.1) (subcommand_rows_of m)
    → (line : Line) → subcommand_rows_of m ≡ Some (shown line) → made ≡ asked_in line
entered_asks m name f made is names keeps line h =
    let same : name ≡ (shown line).0 = some_text name (shown line).0 (names ∙ name_of_rows m ∙ ap (option_map (λ (p : Text × List Row). p.0)) h) in
    let rows : rows_of f ≡ (shown line).1 = some_rows (rows_of f) (shown line).1 (keeps ∙ ap (option_map (λ (p : Text × List Row). p.1)) h) in
    found_asks line name (first_value f) (rows_of f) made is (first_value-rows f) (ap₂ (λ (x : Text) (y : List Row). (x, y)) same rows)

pub not_entered : (m : ArgMatches) → None ≡ subcommand_name_of m → (line : Line) → subcommand_rows_of m ≡ Some (shown line) → None ≡ asked_in line
not_entered m none line h = absurd (no_text (shown line).0 (none ∙ name_of_rows m ∙ ap (option_map (λ (p : Text × List Row). p.0)) h))

-- an error that is no want of memory has one of the kinds
pub among_unless : (kinds : Kinds) (e : Error) → HasKind kinds e → (kind_of e ≡ OutOfMemory → ⊥) → IsAmong (kind_of e) kinds
among_unless kinds e (inl memory) other = absurd (other memory)
among_unless kinds e (inr among) other = among

-- ---- the whole

pub odd_asks_nothing : (words : List Text) → list_any is_odd words ≡ true → asked_of words ≡ None
unfolding asked_of
odd_asks_nothing words odd = rw odd refl

pub line_asks : (words : List Text) (line : Line) (made : Option Asked) → list_any is_odd words ≡ false → line_of words ≡ Some line → made ≡ asked_in line → asked_of words ≡ made
unfolding asked_of
line_asks words line made even is e =
    ap (λ (b : Bool). cond b None (option_and_then asked_in (line_of words))) even ∙ ap (option_and_then asked_in) is ∙ sym e

pub no_line_asks_nothing : (words : List Text) → list_any is_odd words ≡ false → line_of words ≡ None → asked_of words ≡ None
unfolding asked_of
no_line_asks_nothing words even is =
    ap (λ (b : Bool). cond b None (option_and_then asked_in (line_of words))) even ∙ ap (option_and_then asked_in) is

pub answer_ok : (o asks : Option Asked) (r : Result Asked WordsFault) → asks ≡ o → r ≡ ok_or o Usage → IfOk r (λ asked. asks ≡ Some asked)
answer_ok (Some asked) asks r is e = subst (λ (x : Result Asked WordsFault). IfOk x (λ a. asks ≡ Some a)) (sym e) is
answer_ok None asks r is e = subst (λ (x : Result Asked WordsFault). IfOk x (λ a. asks ≡ Some a)) (sym e) tt

pub answer_err : (o asks : Option Asked) (r : Result Asked WordsFault) → asks ≡ o → r ≡ ok_or o Usage → IfErr r (λ fault. fault ≡ Usage → asks ≡ None)
answer_err (Some asked) asks r is e = subst (λ (x : Result Asked WordsFault). IfErr x (λ fault. fault ≡ Usage → asks ≡ None)) (sym e) tt
answer_err None asks r is e = subst (λ (x : Result Asked WordsFault). IfErr x (λ fault. fault ≡ Usage → asks ≡ None)) (sym e) (λ usage. is)
