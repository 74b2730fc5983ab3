-- To read a script byte after byte is to judge its lines one after another.
use Rattle.std.proofs.Common.{◌≡◌, ℕ, ◌+◌, ◌<◌, ◌≤◌, ◌==◌, Bool, true, false, List, [], ◌∷◌, ◌++◌, length, Option, Some, None, Result, Ok, Err, refl, ap, ◌∙◌, sym, subst, arith, append_assoc, length-append}
use Rattle.std.specs.Prelude.{nat_lt}
use Rattle.std.proofs.lemmas.Bool.Decides.{nat_tests}
use Rattle.rp_base.specs.declared.Which.TheVariants.{Lines, LineBytes}
use Rattle.rp_request.specs.Words.{begun_with, lines_of}
use Rattle.rp_script.specs.Seen.{Seen, limit_of, judged, after, unended}
use Rattle.rp_base.specs.Gives.{Gives}
use Rattle.rp_script.specs.Meaning.{◌>>=◌, numbered, in_front, ended_at, meant, meaning, script_fault}
use Rattle.rp_script.specs.Reading.{Reading, unread, line_ended, fed, fed_all, closed_at, closed, finished, verdict, ReadsMeaning, ReadsPieces}
use Rattle.rp_script.specs.declared.faults.LineKind.{LineKind}
use Rattle.rp_script.specs.declared.faults.ScriptFault.{ScriptFault}
use Rattle.rp_script.specs.declared.faults.ScriptFault.TheVariants.{Limit}
use Rattle.rp_script.specs.declared.faults.ScriptStop.{ScriptStop}
use Rattle.rp_script.specs.declared.faults.ScriptStop.TheVariants as stops
use Rattle.rp_script.specs.declared.lines.NumberedLine.{NumberedLine}
use Rattle.rp_script.specs.declared.lines.ScriptLine.{ScriptLine}

pub same_bind : {A B E : Type 0} (r : Result A E) (f g : A → Result B E) → ((x : A) → f x ≡ g x) → (r >>= f) ≡ (r >>= g)
same_bind (Ok x) f g e = e x
same_bind (Err y) f g e = refl

pub bind_assoc : {A B C E : Type 0} (r : Result A E) (f : A → Result B E) (g : B → Result C E) → ((r >>= f) >>= g) ≡ (r >>= λ x. f x >>= g)
bind_assoc (Ok x) f g = refl
bind_assoc (Err y) f g = refl

pub append-nil : {A : Type 0} (w : List A) → w ++ [] ≡ w
append-nil [] = refl
append-nil (c ∷ w) = ap (λ l. c ∷ l) (append-nil w)

-- two groups of lines in front are one
in_front-more : (t u : List NumberedLine) (r : Result (List NumberedLine) ScriptFault) → in_front (t ++ u) r ≡ in_front t (in_front u r)
in_front-more t u (Ok more) = ap (λ ls. let x : Result (List NumberedLine) ScriptFault = Ok ls in x) (append_assoc t u more)
in_front-more t u (Err fault) = refl

in_front-bind : (t : List NumberedLine) (r : Result (Option ScriptLine) ScriptFault) (f : Option ScriptLine → Result (List NumberedLine) ScriptFault)
    → in_front t (r >>= f) ≡ (r >>= λ said. in_front t (f said))
in_front-bind t (Ok said) f = refl
in_front-bind t (Err fault) f = refl

in_front-none : (r : Result (List NumberedLine) ScriptFault) → in_front [] r ≡ r
in_front-none (Ok more) = refl
in_front-none (Err fault) = refl

closed_at-front : (k : ℕ) (t : List NumberedLine) (kind : Option LineKind) → closed_at k t kind ≡ in_front t (ended_at k kind)
closed_at-front k t None = ap (λ ls. let x : Result (List NumberedLine) ScriptFault = Ok ls in x) (sym (append-nil t))
closed_at-front k t (Some kind) = refl

-- the lines of a text behind the front of a line that has begun
abbrev front : List ℕ → List (List ℕ) → List (List ℕ)
front [] lines = lines
front (c ∷ w) [] = (c ∷ w) ∷ []
front (c ∷ w) (line ∷ lines) = ((c ∷ w) ++ line) ∷ lines

front-more : (w : List ℕ) (b : ℕ) (lines : List (List ℕ)) → front (w ++ b ∷ []) lines ≡ front w (begun_with b lines)
front-more [] b [] = refl
front-more [] b (line ∷ lines) = refl
front-more (c ∷ w) b [] = refl
front-more (c ∷ w) b (line ∷ lines) = ap (λ l. (c ∷ l) ∷ lines) (append_assoc w (b ∷ []) line)

front-end : (w : List ℕ) (lines : List (List ℕ)) → front w ([] ∷ lines) ≡ w ∷ lines
front-end [] lines = refl
front-end (c ∷ w) lines = ap (λ l. (c ∷ l) ∷ lines) (append-nil w)

-- the limits in a line
judged-many : (s : Seen) (line : List ℕ) → (s.lines == 65536) ≡ true → judged s line ≡ Err (Limit Lines 65537)
unfolding judged limit_of
judged-many s line many = simp many refl

judged-long : (s : Seen) (line : List ℕ) → (s.lines == 65536) ≡ false → nat_lt 256 (length line) ≡ true → judged s line ≡ Err (Limit LineBytes 257)
unfolding judged limit_of
judged-long s line few long = simp (few, long) refl

meant-stops : (s : Seen) (line : List ℕ) (lines : List (List ℕ)) (fault : ScriptFault) → judged s line ≡ Err fault → meant s (line ∷ lines) ≡ Err fault
meant-stops s line lines fault e = ap (λ (v : Result (Option ScriptLine) ScriptFault). v >>= λ said. in_front (numbered (s.lines + 1) said) (meant (after s said) lines)) e

-- a line too many
meant-many : (s : Seen) (b : ℕ) (lines : List (List ℕ)) → (s.lines == 65536) ≡ true → meant s (begun_with b lines) ≡ Err (Limit Lines 65537)
meant-many s b [] many = meant-stops s (b ∷ []) [] _ (judged-many s _ many)
meant-many s b (line ∷ lines) many = meant-stops s (b ∷ line) lines _ (judged-many s _ many)

-- a line that is too long, of which this is the front
meant-too_long : (s : Seen) (c : ℕ) (w : List ℕ) (lines : List (List ℕ)) → (s.lines == 65536) ≡ false → 256 < length (c ∷ w)
    → meant s (front (c ∷ w) lines) ≡ Err (Limit LineBytes 257)
meant-too_long s c w [] few long =
    let tested : nat_lt 256 (length (c ∷ w)) ≡ true = grind (arith, nat_tests) in meant-stops s (c ∷ w) [] _ (judged-long s _ few tested)
meant-too_long s c w (line ∷ lines) few long =
    let tested : nat_lt 256 (length ((c ∷ w) ++ line)) ≡ true = grind (arith, nat_tests, length-append (c ∷ w) line) in
    meant-stops s ((c ∷ w) ++ line) lines _ (judged-long s _ few tested)

meant-long : (s : Seen) (w : List ℕ) (b : ℕ) (lines : List (List ℕ)) → (s.lines == 65536) ≡ false → length w ≡ 256
    → meant s (front w (begun_with b lines)) ≡ Err (Limit LineBytes 257)
meant-long s [] b lines few long = absurd (omega arith)
meant-long s (c ∷ w) b lines few long =
    ap (meant s) (sym (front-more (c ∷ w) b lines)) ∙ meant-too_long s c (w ++ b ∷ []) lines few (omega (arith, length-append w (b ∷ [])))

-- a line ends, where what follows goes on as its lines do
line_step : (s : Seen) (t : List NumberedLine) (w : List ℕ) (rest : List (List ℕ)) (go : Reading → Result (List NumberedLine) ScriptFault)
    → ((said : Option ScriptLine) → go (record { seen = after s said; line = []; taken = t ++ numbered (s.lines + 1) said })
    ≡ in_front (t ++ numbered (s.lines + 1) said) (meant (after s said) rest))
    → (line_ended (record { seen = s; line = w; taken = t }) >>= go) ≡ in_front t (meant s (w ∷ rest))
line_step s t w rest go goes =
    bind_assoc (judged s w) (λ said. Ok (record { seen = after s said; line = []; taken = t ++ numbered (s.lines + 1) said })) go
    ∙ same_bind (judged s w) _ _ (λ said. goes said ∙ in_front-more t (numbered (s.lines + 1) said) (meant (after s said) rest))
    ∙ sym (in_front-bind t (judged s w) (λ said. in_front (numbered (s.lines + 1) said) (meant (after s said) rest)))

-- what a reading that has come so far makes of the bytes that are left is what their lines make of it
abbrev ReadsFrom : List ℕ → Type 0
ReadsFrom bytes = (s : Seen) (t : List NumberedLine) (w : List ℕ) → length w ≤ 256 → (s.lines ≡ 65536 → w ≡ [])
    → verdict (record { seen = s; line = w; taken = t }) bytes ≡ in_front t (meant s (front w (lines_of bytes)))

same_number : (k n : ℕ) → (k == n) ≡ true → k ≡ n
same_number k n e = grind (arith, nat_tests)

other_number : (k n : ℕ) → (k == n) ≡ false → ¬ (k ≡ n)
other_number k n e = grind (arith, nat_tests)

reads_end : ReadsFrom []
reads_end s t [] short h = closed_at-front (s.lines + 1) t (unended s)
reads_end s t (c ∷ w) short h =
    line_step s t (c ∷ w) [] closed (λ said. closed_at-front ((after s said).lines + 1) (t ++ numbered (s.lines + 1) said) (unended (after s said)))

-- one byte that ends no line
reads_byte : (b : ℕ) (bytes : List ℕ) → ReadsFrom bytes → (s : Seen) (t : List NumberedLine) (w : List ℕ) → length w ≤ 256
    → (s.lines == 65536) ≡ false → (b == 10) ≡ false → (full : Bool) → (length w == 256) ≡ full
    → verdict (record { seen = s; line = w; taken = t }) (b ∷ bytes) ≡ in_front t (meant s (front w (lines_of (b ∷ bytes))))
reads_byte b bytes ih s t w short few other true full = simp (few, other, full) (sym (ap (in_front t) (meant-long s w b (lines_of bytes) few (same_number _ _ full))))
reads_byte b bytes ih s t w short few other false room =
    let more : length (w ++ b ∷ []) ≤ 256 = grind (arith, nat_tests, length-append w (b ∷ [])) in
    simp (few, other, room) (ih s t (w ++ b ∷ []) more (λ e. absurd (other_number _ _ few e)) ∙ ap (λ ls. in_front t (meant s ls)) (front-more w b (lines_of bytes)))

-- one byte where a line more may come
reads_few : (b : ℕ) (bytes : List ℕ) → ReadsFrom bytes → (s : Seen) (t : List NumberedLine) (w : List ℕ) → length w ≤ 256
    → (s.lines == 65536) ≡ false → (newline : Bool) → (b == 10) ≡ newline
    → verdict (record { seen = s; line = w; taken = t }) (b ∷ bytes) ≡ in_front t (meant s (front w (lines_of (b ∷ bytes))))
reads_few b bytes ih s t w short few false other = reads_byte b bytes ih s t w short few other _ refl
reads_few b bytes ih s t w short few true newline =
    simp (few, newline)
    (bind_assoc (line_ended (record { seen = s; line = w; taken = t })) (λ q. fed_all q bytes) (λ q. finished q q.line)
    ∙ line_step s t w (lines_of bytes) (λ q. verdict q bytes)
    (λ said. ih (after s said) (t ++ numbered (s.lines + 1) said) [] (omega arith) (λ _. refl))
    ∙ ap (λ ls. in_front t (meant s ls)) (sym (front-end w (lines_of bytes))))

-- one byte behind the last line that may come
reads_many : (b : ℕ) (bytes : List ℕ) (s : Seen) (t : List NumberedLine) → (s.lines == 65536) ≡ true → (newline : Bool) → (b == 10) ≡ newline
    → verdict (record { seen = s; line = []; taken = t }) (b ∷ bytes) ≡ in_front t (meant s (lines_of (b ∷ bytes)))
reads_many b bytes s t many true newline = simp (many, newline) (sym (ap (in_front t) (meant-stops s [] (lines_of bytes) _ (judged-many s [] many))))
reads_many b bytes s t many false other = simp (many, other) (sym (ap (in_front t) (meant-many s b (lines_of bytes) many)))

reads_one : (b : ℕ) (bytes : List ℕ) → ReadsFrom bytes → (s : Seen) (t : List NumberedLine) (w : List ℕ) → length w ≤ 256 → (s.lines ≡ 65536 → w ≡ [])
    → (many : Bool) → (s.lines == 65536) ≡ many
    → verdict (record { seen = s; line = w; taken = t }) (b ∷ bytes) ≡ in_front t (meant s (front w (lines_of (b ∷ bytes))))
reads_one b bytes ih s t w short h false few = reads_few b bytes ih s t w short few _ refl
reads_one b bytes ih s t w short h true many =
    let none : w ≡ [] = h (same_number _ _ many) in
    let P : List ℕ → Type 0 = λ v. verdict (record { seen = s; line = v; taken = t }) (b ∷ bytes) ≡ in_front t (meant s (front v (lines_of (b ∷ bytes)))) in
    subst P (sym none) (reads_many b bytes s t many _ refl)

reads_from : (bytes : List ℕ) → ReadsFrom bytes
reads_from [] = reads_end
reads_from (b ∷ bytes) = λ s t w short h. reads_one b bytes (reads_from bytes) s t w short h _ refl

pub reads_meaning : ReadsMeaning
reads_meaning race bytes = reads_from bytes _ [] [] (omega arith) (λ e. refl) ∙ in_front-none _

pub reads_pieces : ReadsPieces
reads_pieces r [] ys = refl
reads_pieces r (x ∷ xs) ys =
    same_bind (fed r x) _ _ (λ s. reads_pieces s xs ys) ∙ sym (bind_assoc (fed r x) (λ s. fed_all s xs) (λ s. fed_all s ys))

-- a reading that stops before the end
pub read_stopped : (race : Bool) (bytes : List ℕ) (stop : ScriptStop)
    → Gives {X = Reading} (λ r. r) script_fault (Err stop) (fed_all (unread race) bytes)
    → Gives {X = List NumberedLine} (λ lines. lines) script_fault (Err stop) (meaning race bytes)
read_stopped race bytes (stops.Judged fault) h = sym (reads_meaning race bytes) ∙ ap (λ v. v >>= λ s. finished s s.line) h
read_stopped race bytes stops.NoMemory h = tt

-- a reading that comes to the end
pub read_whole : (race : Bool) (bytes : List ℕ) (r : Reading) (res : Result (List NumberedLine) ScriptStop) → fed_all (unread race) bytes ≡ Ok r
    → Gives (λ lines. lines) script_fault res (finished r r.line) → Gives (λ lines. lines) script_fault res (meaning race bytes)
read_whole race bytes r res leads gives =
    let P : Result (List NumberedLine) ScriptFault → Type 0 = λ v. Gives (λ lines. lines) script_fault res v in
    subst P (sym (ap (λ v. v >>= λ s. finished s s.line) leads) ∙ reads_meaning race bytes) gives
