-- How often a command is given an index, and how often it is refused.
use Rattle.std.proofs.Common.{◌≡◌, ℕ, ◌+◌, ◌==◌, ◌&&◌, ◌||◌, Bool, true, false, cond, not, Option, Some, None, List, [], ◌∷◌, refl, ap, ◌∙◌, sym, zero-add, max}
use Rattle.std.proofs.lemmas.List.Sums.{sum_by-cons}
use Rattle.std.specs.Prelude.{count_by, is_some}
use Rattle.std.specs.List.{filter}
use Rattle.rp_base.specs.declared.ids.CmdId.{CmdId}
use Rattle.rp_base.specs.declared.items.Item.{Item}
use Rattle.rp_request.specs.declared.commands.Waiting.{Waiting}
use Rattle.rp_flush.specs.Assigns.{ids_of, once, seq_of, numbered, waits_under, waits_under_another, assigned_of}
use Rattle.rp_flush.specs.Counts.{stands, times, times_given, times_refused}
use Rattle.rp_base.proofs.IdLaws.{same_is}
use Rattle.rp_base.specs.Ids.{same_id}

-- equal numbers
abbrev Same : ℕ → ℕ → Type 0
Same m n = m ≡ n

times_more : (id x : CmdId) (xs : List CmdId) → times id (x ∷ xs) ≡ cond (same_id x id) 1 0 + times id xs
times_more id x xs = sum_by-cons (λ (other : CmdId). cond (same_id other id) 1 0) x xs

-- of one command a filter keeps all or nothing
apart : true ≡ false → ⊥
apart h = cc

one_filtered : (id x : CmdId) (ys : List CmdId) (q : Bool) → times id (cond q (x ∷ ys) ys) ≡ cond q (cond (same_id x id) 1 0) 0 + times id ys
one_filtered id x ys true = times_more id x ys
one_filtered id x ys false = sym (zero-add (times id ys))

kept_by : (s q r : Bool) (n : ℕ) → (s ≡ true → q ≡ r) → cond q (cond s 1 0) 0 + cond r n 0 ≡ cond r (cond s 1 0 + n) 0
kept_by true true true n h = refl
kept_by true true false n h = absurd (apart (h refl))
kept_by true false true n h = absurd (apart (sym (h refl)))
kept_by true false false n h = refl
kept_by false true true n h = refl
kept_by false true false n h = refl
kept_by false false true n h = refl
kept_by false false false n h = refl

kept_none : (b : Bool) → Same 0 (cond b 0 0)
kept_none true = refl
kept_none false = refl

kept : (p : CmdId → Bool) (id : CmdId) (xs : List CmdId) → times id (filter p xs) ≡ cond (p id) (times id xs) 0
kept p id [] = kept_none (p id)
kept p id (x ∷ xs) =
    one_filtered id x (filter p xs) (p x)
    ∙ ap (λ n. cond (p x) (cond (same_id x id) 1 0) 0 + n) (kept p id xs)
    ∙ kept_by (same_id x id) (p x) (p id) (times id xs) (λ e. ap p (same_is x id e))
    ∙ ap (λ n. cond (p id) n 0) (sym (times_more id x xs))

-- in the list of each once it stands once or not at all
joined : (s b : Bool) → Same (cond s 1 0 + cond (not s) (cond b 1 0) 0) (cond (s || b) 1 0)
joined true true = refl
joined true false = refl
joined false true = refl
joined false false = refl

times_once : (id : CmdId) (xs : List CmdId) → times id (once xs) ≡ cond (stands id xs) 1 0
times_once id [] = refl
times_once id (x ∷ xs) =
    times_more id x (filter (λ other. not (same_id x other)) (once xs))
    ∙ ap (λ n. cond (same_id x id) 1 0 + n) (kept (λ other. not (same_id x other)) id (once xs) ∙ ap (λ n. cond (not (same_id x id)) n 0) (times_once id xs))
    ∙ joined (same_id x id) (stands id xs)

-- numbering leaves the commands
times_numbered : (id : CmdId) (last : ℕ) (ids : List CmdId) → count_by (λ (write : CmdId × ℕ). same_id write.0 id) (numbered last ids) ≡ times id ids
times_numbered id last [] = refl
times_numbered id last (x ∷ xs) =
    sum_by-cons (λ (write : CmdId × ℕ). cond (same_id write.0 id) 1 0) (x, last + 1) (numbered (last + 1) xs)
    ∙ ap (λ n. cond (same_id x id) 1 0 + n) (times_numbered id (last + 1) xs)
    ∙ sym (times_more id x xs)

both : (b c : Bool) → Same (cond b (cond c 1 0) 0) (cond (c && b) 1 0)
both true true = refl
both true false = refl
both false true = refl
both false false = refl

share : (p : CmdId → Bool) (id : CmdId) (ids : List CmdId) → times id (filter p (once ids)) ≡ cond (stands id ids && p id) 1 0
share p id ids = kept p id (once ids) ∙ ap (λ n. cond (p id) n 0) (times_once id ids) ∙ both (p id) (stands id ids)

pub given : (inbox : List Item) (waiting : List Waiting) (seq lai assigned : ℕ) (id : CmdId)
    → times_given id (assigned_of inbox waiting seq lai assigned) ≡ cond (stands id (ids_of inbox) && waits_under waiting seq id) 1 0
given inbox waiting seq lai assigned id =
    times_numbered id (max assigned lai) (filter (waits_under waiting seq) (once (ids_of inbox))) ∙ share (waits_under waiting seq) id (ids_of inbox)

pub refused : (inbox : List Item) (waiting : List Waiting) (seq lai assigned : ℕ) (id : CmdId)
    → times_refused id (assigned_of inbox waiting seq lai assigned) ≡ cond (stands id (ids_of inbox) && waits_under_another waiting seq id) 1 0
refused inbox waiting seq lai assigned id = share (waits_under_another waiting seq) id (ids_of inbox)

-- one that waits does so under the sequence or under another
one_or_other : (b : Bool) → Same (cond b 1 0 + cond (not b) 1 0) 1
one_or_other true = refl
one_or_other false = refl

split_by : (waiting : List Waiting) (seq : ℕ) (id : CmdId) (b : Bool) (o : Option ℕ) → seq_of waiting id ≡ o
    → cond (b && waits_under waiting seq id) 1 0 + cond (b && waits_under_another waiting seq id) 1 0 ≡ cond (b && is_some (seq_of waiting id)) 1 0
split_by waiting seq id false o e = refl
split_by waiting seq id true None e = simp e
split_by waiting seq id true (Some own) e = simp e (one_or_other (own == seq))

pub settled_once : (inbox : List Item) (waiting : List Waiting) (seq lai assigned : ℕ) (id : CmdId)
    → times_given id (assigned_of inbox waiting seq lai assigned) + times_refused id (assigned_of inbox waiting seq lai assigned)
    ≡ cond (stands id (ids_of inbox) && is_some (seq_of waiting id)) 1 0
settled_once inbox waiting seq lai assigned id =
    ap (λ n. n + times_refused id (assigned_of inbox waiting seq lai assigned)) (given inbox waiting seq lai assigned id)
    ∙ ap (λ n. cond (stands id (ids_of inbox) && waits_under waiting seq id) 1 0 + n) (refused inbox waiting seq lai assigned id)
    ∙ split_by waiting seq id (stands id (ids_of inbox)) _ refl
