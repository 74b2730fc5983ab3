-- The rules of a script refuse by kinds of their own.
use Rattle.std.proofs.Common.{◌≡◌, ◌⊎◌, inl, inr, ℕ, zero, suc, ◌+◌, Bool, true, false, List, [], ◌∷◌, Option, Some, None, Result, Ok, Err, refl, ap, sym, subst}
use Rattle.std.specs.Prelude.{IfErr, if◌then◌else◌}
use Rattle.rp_request.specs.Words.{words_of}
use Rattle.rp_script.specs.Keywords.{keyword_of}
use Rattle.rp_script.specs.Wanted.{Wanted, Number, CommandNumber, KeyName, ValueWord, Expected, EndFrom, RequestName}
use Rattle.rp_script.specs.Seen.{Seen, limit_of, bad_byte_of, begins_comment, placed, skipped, unless_bad, said, at_line, unless_limited, judged}
use Rattle.rp_script.specs.Causes.{IsWrong, IsRefusedAt, IsRule, IsRefusal, IsOfRules, IsFaultOfRules, KindsOfRules}
use Rattle.rp_script.proofs.Rules.{refused_exactly}
use Rattle.rp_script.specs.declared.faults.BadWord.{BadWord}
use Rattle.rp_script.specs.declared.faults.Excess.{Excess}
use Rattle.rp_script.specs.declared.faults.LineKind.{LineKind}
use Rattle.rp_script.specs.declared.faults.LineKind.TheVariants as kinds
use Rattle.rp_script.specs.declared.faults.ScriptFault.{ScriptFault}
use Rattle.rp_script.specs.declared.faults.ScriptFault.TheVariants.{Refused, Limit}
use Rattle.rp_script.specs.declared.keywords.Keyword.{Keyword}
use Rattle.rp_script.specs.declared.lines.ScriptLine.{ScriptLine}

by_rule : (s : Seen) (k : Keyword) (kind : LineKind) → IsRule s k kind → IsOfRules kind
by_rule s k kinds.NotJson h = h
by_rule s k kinds.NotReport h = h
by_rule s k kind h = tt

by_wrong : (w : Wanted) (kind : LineKind) (word : List ℕ) → IsWrong w kind word → IsOfRules kind
by_wrong (Number low high) kinds.NotJson word h = h
by_wrong (Number low high) kinds.NotReport word h = h
by_wrong (Number low high) kind word h = tt
by_wrong (CommandNumber count) kinds.NotJson word h = h
by_wrong (CommandNumber count) kinds.NotReport word h = h
by_wrong (CommandNumber count) kind word h = tt
by_wrong KeyName kinds.NotJson word h = h
by_wrong KeyName kinds.NotReport word h = h
by_wrong KeyName kind word h = tt
by_wrong ValueWord kinds.NotJson word h = h
by_wrong ValueWord kinds.NotReport word h = h
by_wrong ValueWord kind word h = tt
by_wrong Expected kinds.NotJson word h = h
by_wrong Expected kinds.NotReport word h = h
by_wrong Expected kind word h = tt
by_wrong (EndFrom start) kinds.NotJson word h = h
by_wrong (EndFrom start) kinds.NotReport word h = h
by_wrong (EndFrom start) kind word h = tt
by_wrong RequestName kinds.NotJson word h = h
by_wrong RequestName kinds.NotReport word h = h
by_wrong RequestName kind word h = tt

by_place : (wanted : List Wanted) (words : List (List ℕ)) (n : ℕ) (kind : LineKind) → IsRefusedAt wanted words n kind → IsOfRules kind
by_place [] [] n kind h = absurd h
by_place [] (word ∷ words) zero kind h = subst IsOfRules (sym h) tt
by_place [] (word ∷ words) (suc n) kind h = absurd h
by_place (w ∷ more) [] zero kind h = subst IsOfRules (sym h) tt
by_place (w ∷ more) [] (suc n) kind h = absurd h
by_place (w ∷ more) (word ∷ words) zero kind h = by_wrong w kind word h
by_place (w ∷ more) (word ∷ words) (suc n) kind h = by_place more words n kind h.1

by_refusal : (s : Seen) (k : Keyword) (words : List (List ℕ)) (e : BadWord) → IsRefusal s k words e → IsOfRules e.kind
by_refusal s k words e (inl h) = by_rule s k e.kind h.1
by_refusal s k words e (inr h) = by_place _ words h.1.0 e.kind h.1.2

abbrev IsRuled : {A : Type 0} → Result A BadWord → Type 0
IsRuled r = IfErr r (λ e. IsOfRules e.kind)

line_ruled : (s : Seen) (k : Keyword) (words : List (List ℕ)) (r : Result ScriptLine BadWord) → placed s k words ≡ r → IsRuled r
line_ruled s k words (Ok line) is = tt
line_ruled s k words (Err e) is = by_refusal s k words e ((refused_exactly s k words e).0 is)

skipped_ruled : (bad : Option ℕ) → IsRuled (skipped bad)
skipped_ruled None = tt
skipped_ruled (Some at) = tt

unless_ruled : (bad : Option ℕ) (r : Result ScriptLine BadWord) → IsRuled r → IsRuled (unless_bad bad r)
unless_ruled (Some at) r h = tt
unless_ruled None (Ok line) h = tt
unless_ruled None (Err e) h = h

if_ruled : (v : Bool) (x y : Result (Option ScriptLine) BadWord) → IsRuled x → IsRuled y → IsRuled (if v then x else y)
if_ruled true x y hx hy = hx
if_ruled false x y hx hy = hy

said_ruled : (s : Seen) (words : List (List ℕ)) → IsRuled (said s words)
unfolding said
said_ruled s [] = tt
said_ruled s (first ∷ words) =
    if_ruled (begins_comment first) _ _ (skipped_ruled (bad_byte_of (first ∷ words)))
    (unless_ruled (bad_byte_of (first ∷ words)) (placed s (keyword_of first) words) (line_ruled s (keyword_of first) words _ refl))

limited_ruled : (x : Option Excess) (k : ℕ) (r : Result (Option ScriptLine) BadWord) → IsRuled r → IfErr (unless_limited x (at_line k r)) IsFaultOfRules
limited_ruled (Some x) k r h = tt
limited_ruled None k (Ok line) h = tt
limited_ruled None k (Err e) h = h

pub kinds_of_rules : KindsOfRules
unfolding judged
kinds_of_rules s line = limited_ruled (limit_of s line) (s.lines + 1) (said s (words_of line)) (said_ruled s (words_of line))
