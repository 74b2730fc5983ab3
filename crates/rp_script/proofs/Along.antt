-- The lines of a script follow one another.
use Rattle.std.proofs.Common.{◌≡◌, ℕ, ◌+◌, ◌*◌, ◌≤◌, ◌<◌, Bool, true, false, List, [], ◌∷◌, ◌++◌, length, Option, None, Some, Result, Ok, Err, refl, ap, ◌∙◌, sym, subst, arith, length-append}
use Rattle.std.specs.Prelude.{IfOk, IfSome, IsTrue, if◌then◌else◌}
use Rattle.std.specs.List.{AllByRecursion}
use Rattle.rp_request.specs.Words.{words_of}
use Rattle.rp_script.specs.Keywords.{keyword_of}
use Rattle.rp_script.specs.Bounds.{IsFirst, Fits, FollowsIn, Follows, AllFollow, seen_after, IsAlong, IsScript, IsBounded}
use Rattle.rp_script.specs.Seen.{Seen, unseen, after, limit_of, bad_byte_of, begins_comment, skipped, unless_bad, placed, said, at_line, unless_limited, judged, unended_by, unended}
use Rattle.rp_script.specs.Meaning.{numbered}
use Rattle.rp_script.proofs.ReadsLines.{append-nil}
use Rattle.rp_script.proofs.Rules.{placed_follows}
use Rattle.rp_script.specs.declared.faults.BadWord.{BadWord}
use Rattle.rp_script.specs.declared.faults.Excess.{Excess}
use Rattle.rp_script.specs.declared.faults.ScriptFault.{ScriptFault}
use Rattle.rp_script.specs.declared.lines.NumberedLine.{NumberedLine}
use Rattle.rp_script.specs.declared.lines.ScriptLine.{ScriptLine}
use Rattle.rp_script.specs.declared.lines.ScriptLine.TheVariants as lines

-- what a line says may follow
abbrev MayFollow : {E : Type 0} → Seen → Result (Option ScriptLine) E → Type 0
MayFollow s r = IfOk r (λ o. IfSome o (Follows s))

skipped_follows : (s : Seen) (bad : Option ℕ) → MayFollow s (skipped bad)
skipped_follows s None = tt
skipped_follows s (Some at) = tt

unless_follows : (s : Seen) (bad : Option ℕ) (r : Result ScriptLine BadWord) → IfOk r (Follows s) → MayFollow s (unless_bad bad r)
unless_follows s (Some at) r h = tt
unless_follows s None (Ok line) h = h
unless_follows s None (Err e) h = tt

if_follows : {E : Type 0} (s : Seen) (v : Bool) (x y : Result (Option ScriptLine) E) → MayFollow s x → MayFollow s y → MayFollow s (if v then x else y)
if_follows s true x y hx hy = hx
if_follows s false x y hx hy = hy

said_follows : (s : Seen) (words : List (List ℕ)) → MayFollow s (said s words)
unfolding said
said_follows s [] = tt
said_follows s (first ∷ words) =
    if_follows s (begins_comment first) _ _ (skipped_follows s (bad_byte_of (first ∷ words)))
    (unless_follows s (bad_byte_of (first ∷ words)) (placed s (keyword_of first) words) (placed_follows s (keyword_of first) words))

limited_follows : (s : Seen) (x : Option Excess) (k : ℕ) (r : Result (Option ScriptLine) BadWord) → MayFollow s r → MayFollow s (unless_limited x (at_line k r))
limited_follows s (Some x) k r h = tt
limited_follows s None k (Ok line) h = h
limited_follows s None k (Err e) h = tt

pub judged_follows : (s : Seen) (line : List ℕ) → IfOk (judged s line) (λ o. IfSome o (Follows s))
unfolding judged
judged_follows s line = limited_follows s (limit_of s line) (s.lines + 1) (said s (words_of line)) (said_follows s (words_of line))

-- it is bounded
first_bounded : (l : ScriptLine) → IsFirst l → IsBounded l
first_bounded (lines.Cluster n) h = h.1
first_bounded l h = absurd h

fits_bounded : (nodes : ℕ) (commands : List ℕ) (l : ScriptLine) → Fits nodes commands l → IsBounded l
fits_bounded nodes commands (lines.Cluster n) h = absurd h
fits_bounded nodes commands (lines.Send node range client request) h = h.2
fits_bounded nodes commands (lines.Admit node range client request) h = h.2
fits_bounded nodes commands l h = tt

follows_bounded : (o : Option ℕ) (ended : Bool) (commands : List ℕ) (l : ScriptLine) → FollowsIn o ended commands l → IsBounded l
follows_bounded None ended commands l h = first_bounded l h
follows_bounded (Some nodes) ended commands l h = fits_bounded nodes commands l h.1

pub judged_bounded : (s : Seen) (line : List ℕ) → IfOk (judged s line) (λ o. IfSome o IsBounded)
judged_bounded s line = bounded (judged s line) (judged_follows s line)
  where
    bounded : (r : Result (Option ScriptLine) ScriptFault) → MayFollow s r → IfOk r (λ o. IfSome o IsBounded)
    bounded (Ok (Some l)) h = follows_bounded s.nodes s.ended s.commands l h
    bounded (Ok None) h = tt
    bounded (Err e) h = tt

-- one line more
all_more : (s : Seen) (ls : List NumberedLine) (l : NumberedLine) → AllFollow s ls → Follows (seen_after s ls) l.line
    → AllFollow s (ls ++ l ∷ [])
all_more s [] l all h = (h, tt)
all_more s (x ∷ ls) l all h = (all.0, all_more (after s (Some x.line)) ls l all.1 h)

seen_more : (s : Seen) (ls : List NumberedLine) (l : NumberedLine) → seen_after s (ls ++ l ∷ []) ≡ after (seen_after s ls) (Some l.line)
seen_more s [] l = refl
seen_more s (x ∷ ls) l = seen_more (after s (Some x.line)) ls l

-- what is known behind a line, but for the count of lines and the race
abbrev counted_as : Seen → ℕ → Seen
counted_as s n = record s { race = false; lines = n }

after_counted : (s : Seen) (l : ScriptLine) (n m : ℕ) → m ≡ n + 1 → after (counted_as s n) (Some l) ≡ counted_as (after s (Some l)) m
after_counted s (lines.Cluster nodes) n m e = ap (λ k. counted_as (after s (Some (lines.Cluster nodes))) k) (sym e)
after_counted s (lines.Send node range client request) n m e = ap (λ k. counted_as (after s (Some (lines.Send node range client request))) k) (sym e)
after_counted s (lines.Admit node range client request) n m e = ap (λ k. counted_as (after s (Some (lines.Admit node range client request))) k) (sym e)
after_counted s lines.End n m e = ap (λ k. counted_as (after s (Some lines.End)) k) (sym e)
after_counted s l n m e = ap (λ k. counted_as s k) (sym e)

pub along_more : (s : Seen) (ls : List NumberedLine) (l : NumberedLine) → IsAlong s ls → Follows s l.line → IsAlong (after s (Some l.line)) (ls ++ l ∷ [])
along_more s ls l h follows = record {
  follow = all_more (unseen false) ls l h.follow (subst (λ (v : Seen). Follows v l.line) (sym h.seen) follows);
  seen = seen_more (unseen false) ls l ∙ ap (λ v. after v (Some l.line)) h.seen
      ∙ after_counted s l.line (length ls) (length (ls ++ l ∷ [])) (length-append ls (l ∷ []));
}

pub along_skipped : (s : Seen) (ls : List NumberedLine) → IsAlong s ls → IsAlong (after s None) ls
along_skipped s ls h = record { follow = h.follow; seen = h.seen }

pub along_none : (race : Bool) → IsAlong (unseen race) []
along_none race = record { follow = tt; seen = refl }

-- the end
ended_by : (o : Option ℕ) (ended : Bool) → unended_by o ended ≡ None → ended ≡ true
ended_by None ended e = absurd (cc)
ended_by (Some n) true e = refl
ended_by (Some n) false e = absurd (cc)

pub is_script : (s : Seen) (ls : List NumberedLine) → IsAlong s ls → unended s ≡ None → IsScript ls
is_script s ls h e = record {
  follow = h.follow;
  ended = ap (λ (v : Seen). v.ended) h.seen ∙ ended_by s.nodes s.ended e;
}

-- the same, from what the code knows
pub along_kept : (s n : Seen) (ls more : List NumberedLine) (l : NumberedLine) → IsAlong s ls → Follows s l.line → n ≡ after s (Some l.line) → more ≡ ls ++ l ∷ []
    → IsAlong n more
along_kept s n ls more l h follows kept longer =
    subst (λ (v : Seen). IsAlong v more) (sym kept)
    (subst (λ (v : List NumberedLine). IsAlong (after s (Some l.line)) v) (sym longer) (along_more s ls l h follows))

-- what a reading keeps: how long its line and its lines are, and what is so of the lines
abbrev IsReading : Seen → List ℕ → List NumberedLine → Type 0
IsReading s line ls =
    (length line ≤ 256) × (s.lines * 257 + length line ≤ 16842752) × (length ls ≤ s.lines) × IsAlong s ls

-- a line ended, and was taken
pub line_added : (s n : Seen) (line cleared : List ℕ) (ls more : List NumberedLine) (l : NumberedLine) → IsReading s line ls → s.lines < 65536
    → n.lines ≡ s.lines + 1 → cleared ≡ [] → n ≡ after s (Some l.line) → more ≡ ls ++ l ∷ [] → Follows s l.line
    → IsReading n cleared more
line_added s n line cleared ls more l h room lines none kept longer follows =
    let short : length cleared ≡ 0 = ap length none in
    let long : length more ≡ length ls + 1 = ap length longer ∙ length-append ls (l ∷ []) in
    let few : length ls ≤ s.lines = h.2 in (
      omega (arith, short),
      omega (arith, short, lines, room),
      omega (arith, long, lines, few),
      along_kept s n ls more l h.3 follows kept longer,
    )

-- a line ended, whether or not it says something
pub line_told : (s n : Seen) (line cleared : List ℕ) (ls more : List NumberedLine) (number : ℕ) (said : Option ScriptLine) → IsReading s line ls
    → s.lines < 65536 → n.lines ≡ s.lines + 1 → cleared ≡ [] → n ≡ after s said → more ≡ ls ++ numbered number said
    → IfSome said (Follows s) → IsReading n cleared more
line_told s n line cleared ls more number (Some l) h room lines none kept longer follows =
    line_added s n line cleared ls more (record { number = number; line = l }) h room lines none kept longer follows
line_told s n line cleared ls more number None h room lines none kept longer follows =
    let short : length cleared ≡ 0 = ap length none in
    let same : more ≡ ls = longer ∙ append-nil ls in
    let long : length more ≡ length ls = ap length same in
    let few : length ls ≤ s.lines = h.2 in (
      omega (arith, short),
      omega (arith, short, lines, room),
      omega (arith, long, lines, few),
      subst (λ (v : Seen). IsAlong v more) (sym kept) (subst (λ (v : List NumberedLine). IsAlong (after s None) v) (sym same) (along_skipped s ls h.3)),
    )
