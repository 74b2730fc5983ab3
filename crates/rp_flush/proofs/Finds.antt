-- Commands that wait, and how a map of them by id answers.
use Rattle.std.proofs.Common.{◌≡◌, ℕ, ◌+◌, ◌<◌, Bool, true, false, cond, Option, Some, None, List, [], ◌∷◌, ◌++◌, length, take, get_or, refl, ap, ◌∙◌, sym}
use Rattle.std.proofs.lemmas.List.{take_more}
use Rattle.std.specs.Prelude.{is_some}
use Rattle.std.specs.Option.{option_or}
use Rattle.std.specs.BTreeMap.{is_at}
use Rattle.rp_base.specs.declared.ids.CmdId.{CmdId}
use Rattle.rp_request.specs.declared.commands.Waiting.{Waiting}
use Rattle.rp_base.proofs.Bools.{false_true}
use Rattle.rp_base.proofs.IdLaws.{at_same, same_is}
use Rattle.rp_base.specs.Ids.{same_id, cmd_cmp}
use Rattle.rp_flush.specs.Assigns.{seq_of}

-- one more that waits
snoc_end : (w : Waiting) (id : CmdId) (b : Bool) → same_id w.id id ≡ b → seq_of (w ∷ []) id ≡ cond b (Some w.seq) None
snoc_end w id true e = simp e
snoc_end w id false e = simp e

snoc_more : (x w : Waiting) (xs : List Waiting) (id : CmdId) (b : Bool) → same_id x.id id ≡ b
    → seq_of (xs ++ w ∷ []) id ≡ option_or (seq_of xs id) (cond (same_id w.id id) (Some w.seq) None)
    → seq_of ((x ∷ xs) ++ w ∷ []) id ≡ option_or (seq_of (x ∷ xs) id) (cond (same_id w.id id) (Some w.seq) None)
snoc_more x w xs id true e h = simp e
snoc_more x w xs id false e h = simp e h

snoc : (xs : List Waiting) (w : Waiting) (id : CmdId) → seq_of (xs ++ w ∷ []) id ≡ option_or (seq_of xs id) (cond (same_id w.id id) (Some w.seq) None)
snoc [] w id = snoc_end w id _ refl
snoc (x ∷ xs) w id = snoc_more x w xs id _ refl (snoc xs w id)

or_none : (o : Option ℕ) → option_or o None ≡ o
or_none None = refl
or_none (Some n) = refl

or_known : (o p : Option ℕ) → is_some o ≡ true → option_or o p ≡ o
or_known None p h = absurd (false_true h)
or_known (Some n) p h = refl

-- one whose id waits already changes nothing
known_by : (xs : List Waiting) (w : Waiting) (id : CmdId) (b : Bool) → same_id w.id id ≡ b → is_some (seq_of xs w.id) ≡ true
    → option_or (seq_of xs id) (cond b (Some w.seq) None) ≡ seq_of xs id
known_by xs w id true e h = or_known _ _ (ap (λ i. is_some (seq_of xs i)) (sym (same_is w.id id e)) ∙ h)
known_by xs w id false e h = or_none _

added_by : (xs : List Waiting) (w : Waiting) (id : CmdId) (b : Bool) → same_id w.id id ≡ b → seq_of xs w.id ≡ None
    → option_or (seq_of xs id) (cond b (Some w.seq) None) ≡ cond b (Some w.seq) (seq_of xs id)
added_by xs w id true e h = ap (λ o. option_or o (Some w.seq)) (ap (seq_of xs) (sym (same_is w.id id e)) ∙ h)
added_by xs w id false e h = or_none _

one_more : (ws : List Waiting) (i : ℕ) (w : Waiting) (id : CmdId) → i < length ws → w ≡ get_or ws i w
    → seq_of (take (i + 1) ws) id ≡ option_or (seq_of (take i ws) id) (cond (same_id w.id id) (Some w.seq) None)
one_more ws i w id h is =
    ap (λ l. seq_of l id) (take_more ws i w h) ∙ ap (λ x. seq_of (take i ws ++ x ∷ []) id) (sym is) ∙ snoc (take i ws) w id

known : (ws : List Waiting) (i : ℕ) (w : Waiting) (id : CmdId) → i < length ws → w ≡ get_or ws i w
    → is_some (seq_of (take i ws) w.id) ≡ true → seq_of (take (i + 1) ws) id ≡ seq_of (take i ws) id
known ws i w id h is k = one_more ws i w id h is ∙ known_by (take i ws) w id _ refl k

added : (ws : List Waiting) (i : ℕ) (w : Waiting) (id : CmdId) → i < length ws → w ≡ get_or ws i w
    → seq_of (take i ws) w.id ≡ None → seq_of (take (i + 1) ws) id ≡ cond (is_at (cmd_cmp w.id) id) (Some w.seq) (seq_of (take i ws) id)
added ws i w id h is k =
    one_more ws i w id h is ∙ added_by (take i ws) w id _ refl k ∙ ap (λ b. cond b (Some w.seq) (seq_of (take i ws) id)) (sym (at_same w.id id))

none_of : (o : Option ℕ) → is_some o ≡ false → o ≡ None
none_of None h = refl
none_of (Some n) h = absurd (false_true (sym h))

-- a map that answers as the front of the list does, where one more is known or was put in
pub still_answers : (ws : List Waiting) (i : ℕ) (w : Waiting) (held : CmdId → Option ℕ) → i < length ws → w ≡ get_or ws i w
    → ((id : CmdId) → held id ≡ seq_of (take i ws) id) → is_some (held w.id) ≡ true
    → (id : CmdId) → held id ≡ seq_of (take (i + 1) ws) id
still_answers ws i w held h is so k id = so id ∙ sym (known ws i w id h is (ap is_some (sym (so w.id)) ∙ k))

pub answers_more : (ws : List Waiting) (i : ℕ) (w : Waiting) (held after : CmdId → Option ℕ) → i < length ws → w ≡ get_or ws i w
    → ((id : CmdId) → held id ≡ seq_of (take i ws) id) → is_some (held w.id) ≡ false
    → ((id : CmdId) → after id ≡ cond (is_at (cmd_cmp w.id) id) (Some w.seq) (held id))
    → (id : CmdId) → after id ≡ seq_of (take (i + 1) ws) id
answers_more ws i w held after h is so k put id =
    put id ∙ ap (cond (is_at (cmd_cmp w.id) id) (Some w.seq)) (so id)
    ∙ sym (added ws i w id h is (none_of _ (ap is_some (sym (so w.id)) ∙ k)))
