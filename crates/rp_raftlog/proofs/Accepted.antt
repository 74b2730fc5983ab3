-- What it makes of a log to take entries in.
use Rattle.std.proofs.Common.{◌≡◌, ℕ, ◌-◌, ◌≤◌, true, List, length, drop, ap, ◌∙◌, arith}
use Rattle.std.proofs.lemmas.Grind.{common_steps}
use Rattle.std.proofs.lemmas.Option.{slice_get_within}
use Rattle.rp_raftlog.specs.declared.entries.Entry.{Entry}
use Rattle.rp_raftlog.specs.LogState.{edited, overlay, accepted, matches}

-- a previous index that matches does not pass the last
pub matched_within : (base base_term : ℕ) (es : List Entry) (prev term : ℕ) → matches (record { base = base; base_term = base_term; entries = es }) prev term ≡ true
    → prev - base ≤ length es
matched_within base base_term es prev term h = grind (arith, common_steps, slice_get_within es (prev - base - 1))

-- a body that drops what stands at or below the base, and puts the rest over
pub taken_in : (base base_term : ℕ) (es after news given : List Entry) (prev place skipped : ℕ) → place ≡ prev - base → skipped ≡ base - prev → given ≡ drop skipped news
    → after ≡ edited es (overlay es place given)
    → record { base = base; base_term = base_term; entries = after } ≡ accepted (record { base = base; base_term = base_term; entries = es }) prev news
taken_in base base_term es after news given prev place skipped p s g a =
    ap (λ (l : List Entry). record { base = base; base_term = base_term; entries = l })
    (a ∙ ap (λ n. edited es (overlay es n given)) p ∙ ap (λ l. edited es (overlay es (prev - base) l)) (g ∙ ap (λ n. drop n news) s))
