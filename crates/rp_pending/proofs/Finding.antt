-- What is done to the slot of an id is done to the proposal that has it.
use Rattle.std.proofs.Common.{◌≡◌, ◌+◌, ◌≤◌, Bool, true, false, cond, not, map, List, [], ◌∷◌, ◌++◌, length, Option, None, Some, is_some, refl, sym, ap, subst, ◌∙◌, arith}
use Rattle.std.specs.List.{IsDistinct, AllByRecursion, filter}
use Rattle.std.specs.Map.{remove_entry, keys_of}
use Rattle.std.specs.Option.{option_flatten, option_map}
use Rattle.rp_base.specs.declared.ids.CmdId.{CmdId}
use Rattle.rp_pending.specs.declared.proposals.Proposal.{Proposal}
use Rattle.rp_base.specs.Ids.{same_id}
use Rattle.rp_base.proofs.IdLaws.{same_is}
use Rattle.rp_pending.specs.Proposals.{has_id, proposal_of, without, with_changed}
use Rattle.rp_pending.specs.Slots.{Slot, proposals_in, IsNamed, AreNamed, slot_of, with_slot}

-- none of these has the id
pub record AreOthers (id : CmdId) (ps : List Proposal) : Type 0 where
  pub found : proposal_of id ps ≡ None
  pub left : without id ps ≡ ps
  pub changed : (f : Proposal → Proposal) → with_changed id f ps ≡ ps

one_more : (id : CmdId) (p : Proposal) (ps : List Proposal) → has_id id p ≡ false → AreOthers id ps → AreOthers id (p ∷ ps)
one_more id p ps h others = record {
  found = ap (λ b. cond b (Some p) (proposal_of id ps)) h ∙ others.found;
  left = ap (λ b. cond (not b) (p ∷ without id ps) (without id ps)) h ∙ ap (λ qs. p ∷ qs) others.left;
  changed = λ f. ap (λ b. cond b (f p) p ∷ with_changed id f ps) h ∙ ap (λ qs. p ∷ qs) (others.changed f);
}

cond_none : {X : Type 0} (b : Bool) (x : X) (r : Option X) → cond b (Some x) r ≡ None → (b ≡ false) × (r ≡ None)
cond_none true x r h = cc
cond_none false x r h = (refl, h)

-- where no slot has the id, no proposal has it
pub others : (id : CmdId) (es : List Slot) → AreNamed es → slot_of id es ≡ None → AreOthers id (proposals_in es)
others id [] n h = record { found = refl; left = refl; changed = λ f. refl }
others id ((k, None) ∷ es) n h = others id es n.1 (cond_none _ _ _ h).1
others id ((k, Some p) ∷ es) n h =
    let c = cond_none _ _ _ h in one_more id p (proposals_in es) (ap (same_id id) n.0 ∙ c.0) (others id es n.1 c.1)

none_below : (k : CmdId) (es : List Slot) → AllByRecursion (λ y. same_id k y ≡ false) (keys_of es) → slot_of k es ≡ None
none_below k [] a = refl
none_below k (e ∷ es) a = ap (λ b. cond b (Some e.1) (slot_of k es)) a.0 ∙ none_below k es a.1

-- an id has one slot
others_below : (id k : CmdId) (es : List Slot) → same_id id k ≡ true → IsDistinct same_id (k ∷ keys_of es) → AreNamed es → AreOthers id (proposals_in es)
unfolding IsDistinct
others_below id k es e d n =
    subst (λ x. AreOthers x (proposals_in es)) (sym (same_is id k e)) (others k es n (none_below k es d.0))

distinct_below : (k : CmdId) (es : List Slot) → IsDistinct same_id (k ∷ keys_of es) → IsDistinct same_id (keys_of es)
unfolding IsDistinct
distinct_below k es d = d.1

-- the proposal with an id stands in the slot of the id
pub found : (id : CmdId) (es : List Slot) → IsDistinct same_id (keys_of es) → AreNamed es → proposal_of id (proposals_in es) ≡ option_flatten (slot_of id es)
found id [] d n = refl
found id ((k, None) ∷ es) d n = by (same_id id k) refl (found id es (distinct_below k es d) n.1)
  where
    by : (b : Bool) → same_id id k ≡ b → proposal_of id (proposals_in es) ≡ option_flatten (slot_of id es) → proposal_of id (proposals_in es) ≡ option_flatten (cond b (Some None) (slot_of id es))
    by true e ih = (others_below id k es e d n.1).found
    by false e ih = ih
found id ((k, Some p) ∷ es) d n =
    ap (λ b. cond b (Some p) (proposal_of id (proposals_in es))) (ap (same_id id) n.0) ∙ by (same_id id k) (found id es (distinct_below k es d) n.1)
  where
    by : (b : Bool) → proposal_of id (proposals_in es) ≡ option_flatten (slot_of id es) → cond b (Some p) (proposal_of id (proposals_in es)) ≡ option_flatten (cond b (Some (Some p)) (slot_of id es))
    by true ih = refl
    by false ih = ih

-- to empty the slot of an id takes its proposal out
pub emptied : (id : CmdId) (es : List Slot) → IsDistinct same_id (keys_of es) → AreNamed es → proposals_in (with_slot id es None) ≡ without id (proposals_in es)
emptied id [] d n = refl
emptied id ((k, None) ∷ es) d n = by (same_id id k) refl (emptied id es (distinct_below k es d) n.1)
  where
    by : (b : Bool) → same_id id k ≡ b → proposals_in (with_slot id es None) ≡ without id (proposals_in es)
        → proposals_in (cond b ((k, None) ∷ es) ((k, None) ∷ with_slot id es None)) ≡ without id (proposals_in es)
    by true e ih = sym (others_below id k es e d n.1).left
    by false e ih = ih
emptied id ((k, Some p) ∷ es) d n =
    by (same_id id k) refl (emptied id es (distinct_below k es d) n.1)
    ∙ sym (ap (λ b. cond (not b) (p ∷ without id (proposals_in es)) (without id (proposals_in es))) (ap (same_id id) n.0))
  where
    by : (b : Bool) → same_id id k ≡ b → proposals_in (with_slot id es None) ≡ without id (proposals_in es)
        → proposals_in (cond b ((k, None) ∷ es) ((k, Some p) ∷ with_slot id es None)) ≡ cond (not b) (p ∷ without id (proposals_in es)) (without id (proposals_in es))
    by true e ih = sym (others_below id k es e d n.1).left
    by false e ih = ap (λ ps. p ∷ ps) ih

-- to change what stands in the slot of an id changes its proposal
pub changed_in : (f : Proposal → Proposal) (id : CmdId) (es : List Slot) (slot : Option Proposal) → IsDistinct same_id (keys_of es) → AreNamed es → slot_of id es ≡ Some slot
    → proposals_in (with_slot id es (option_map f slot)) ≡ with_changed id f (proposals_in es)
changed_in f id [] slot d n h = refl
changed_in f id ((k, None) ∷ es) slot d n h = by (same_id id k) refl h (changed_in f id es slot (distinct_below k es d) n.1)
  where
    by : (b : Bool) → same_id id k ≡ b → cond b (Some None) (slot_of id es) ≡ Some slot
        → (slot_of id es ≡ Some slot → proposals_in (with_slot id es (option_map f slot)) ≡ with_changed id f (proposals_in es))
        → proposals_in (cond b ((k, option_map f slot) ∷ es) ((k, None) ∷ with_slot id es (option_map f slot))) ≡ with_changed id f (proposals_in es)
    by true e h ih =
        let is : None ≡ slot = cc in
        subst (λ s. proposals_in ((k, option_map f s) ∷ es) ≡ with_changed id f (proposals_in es)) is (sym ((others_below id k es e d n.1).changed f))
    by false e h ih = ih h
changed_in f id ((k, Some p) ∷ es) slot d n h =
    by (same_id id k) refl h (changed_in f id es slot (distinct_below k es d) n.1)
    ∙ sym (ap (λ b. cond b (f p) p ∷ with_changed id f (proposals_in es)) (ap (same_id id) n.0))
  where
    by : (b : Bool) → same_id id k ≡ b → cond b (Some (Some p)) (slot_of id es) ≡ Some slot
        → (slot_of id es ≡ Some slot → proposals_in (with_slot id es (option_map f slot)) ≡ with_changed id f (proposals_in es))
        → proposals_in (cond b ((k, option_map f slot) ∷ es) ((k, Some p) ∷ with_slot id es (option_map f slot))) ≡ cond b (f p) p ∷ with_changed id f (proposals_in es)
    by true e h ih =
        let is : Some p ≡ slot = cc in
        subst (λ s. proposals_in ((k, option_map f s) ∷ es) ≡ f p ∷ with_changed id f (proposals_in es)) is
        (ap (λ ps. f p ∷ ps) (sym ((others_below id k es e d n.1).changed f)))
    by false e h ih = ap (λ ps. p ∷ ps) (ih h)

-- what stands in the slot of an id has it
pub named_at : (id : CmdId) (es : List Slot) (slot : Option Proposal) → AreNamed es → slot_of id es ≡ Some slot → IsNamed (id, slot)
named_at id [] slot n h = cc
named_at id (s ∷ es) slot n h = by (same_id id s.0) refl h (named_at id es slot n.1)
  where
    by : (b : Bool) → same_id id s.0 ≡ b → cond b (Some s.1) (slot_of id es) ≡ Some slot → (slot_of id es ≡ Some slot → IsNamed (id, slot)) → IsNamed (id, slot)
    by true e h ih =
        let is : s.1 ≡ slot = cc in
        subst (λ x. IsNamed (id, x)) is (subst (λ k. IsNamed (k, s.1)) (sym (same_is id s.0 e)) n.0)
    by false e h ih = ih h

pub named_with : (id : CmdId) (es : List Slot) (slot : Option Proposal) → AreNamed es → IsNamed (id, slot) → AreNamed (with_slot id es slot)
named_with id [] slot n m = tt
named_with id (s ∷ es) slot n m = by (same_id id s.0) refl (named_with id es slot n.1 m)
  where
    by : (b : Bool) → same_id id s.0 ≡ b → AreNamed (with_slot id es slot) → AreNamed (cond b ((s.0, slot) ∷ es) (s ∷ with_slot id es slot))
    by true e ih = (subst (λ k. IsNamed (k, slot)) (same_is id s.0 e) m, n.1)
    by false e ih = (n.0, ih)

-- one proposal less
pub one_less : (id : CmdId) (es : List Slot) (p : Proposal) → slot_of id es ≡ Some (Some p) → length (proposals_in (with_slot id es None)) + 1 ≡ length (proposals_in es)
one_less id [] p h = cc
one_less id ((k, None) ∷ es) p h = by (same_id id k) h (one_less id es p)
  where
    by : (b : Bool) → cond b (Some None) (slot_of id es) ≡ Some (Some p)
        → (slot_of id es ≡ Some (Some p) → length (proposals_in (with_slot id es None)) + 1 ≡ length (proposals_in es))
        → length (proposals_in (cond b ((k, None) ∷ es) ((k, None) ∷ with_slot id es None))) + 1 ≡ length (proposals_in es)
    by true h ih = cc
    by false h ih = ih h
one_less id ((k, Some q) ∷ es) p h = by (same_id id k) h (one_less id es p)
  where
    by : (b : Bool) → cond b (Some (Some q)) (slot_of id es) ≡ Some (Some p)
        → (slot_of id es ≡ Some (Some p) → length (proposals_in (with_slot id es None)) + 1 ≡ length (proposals_in es))
        → length (proposals_in (cond b ((k, None) ∷ es) ((k, Some q) ∷ with_slot id es None))) + 1 ≡ length (q ∷ proposals_in es)
    by true h ih = omega arith
    by false h ih = let e = ih h in omega arith

-- the proposals are no more than the slots
pub no_more : (es : List Slot) → length (proposals_in es) ≤ length es
no_more [] = omega arith
no_more ((k, None) ∷ es) = let ih = no_more es in omega arith
no_more ((k, Some p) ∷ es) = let ih = no_more es in omega arith

-- where no slot is empty, an id with no proposal has no slot
pub no_slot : (id : CmdId) (es : List Slot) → length es ≤ length (proposals_in es) → option_flatten (slot_of id es) ≡ None → slot_of id es ≡ None
no_slot id [] full h = refl
no_slot id ((k, None) ∷ es) full h = let most = no_more es in absurd (omega arith)
no_slot id ((k, Some p) ∷ es) full h = by (same_id id k) h (no_slot id es (omega arith))
  where
    by : (b : Bool) → option_flatten (cond b (Some (Some p)) (slot_of id es)) ≡ None → (option_flatten (slot_of id es) ≡ None → slot_of id es ≡ None)
        → cond b (Some (Some p)) (slot_of id es) ≡ None
    by true h ih = cc
    by false h ih = ih h

-- without the empty slot of an id the proposals are the same
pub cleared : (id : CmdId) (es : List Slot) → option_flatten (slot_of id es) ≡ None → AreNamed es
    → (proposals_in (remove_entry (same_id id) es) ≡ proposals_in es) × AreNamed (remove_entry (same_id id) es)
cleared id [] h n = (refl, tt)
cleared id ((k, None) ∷ es) h n = by (same_id id k) h (λ g. cleared id es g n.1)
  where
    by : (b : Bool) → option_flatten (cond b (Some None) (slot_of id es)) ≡ None
        → (option_flatten (slot_of id es) ≡ None → (proposals_in (remove_entry (same_id id) es) ≡ proposals_in es) × AreNamed (remove_entry (same_id id) es))
        → (proposals_in (cond b es ((k, None) ∷ remove_entry (same_id id) es)) ≡ proposals_in es) × AreNamed (cond b es ((k, None) ∷ remove_entry (same_id id) es))
    by true h ih = (refl, n.1)
    by false h ih = ((ih h).0, (tt, (ih h).1))
cleared id ((k, Some p) ∷ es) h n = by (same_id id k) h (λ g. cleared id es g n.1)
  where
    by : (b : Bool) → option_flatten (cond b (Some (Some p)) (slot_of id es)) ≡ None
        → (option_flatten (slot_of id es) ≡ None → (proposals_in (remove_entry (same_id id) es) ≡ proposals_in es) × AreNamed (remove_entry (same_id id) es))
        → (proposals_in (cond b es ((k, Some p) ∷ remove_entry (same_id id) es)) ≡ p ∷ proposals_in es) × AreNamed (cond b es ((k, Some p) ∷ remove_entry (same_id id) es))
    by true h ih = cc
    by false h ih = (ap (λ ps. p ∷ ps) (ih h).0, (n.0, (ih h).1))

-- without all empty slots too
pub compacted : (es : List Slot) → AreNamed es
    → (proposals_in (filter (λ s. is_some s.1) es) ≡ proposals_in es) × AreNamed (filter (λ s. is_some s.1) es)
compacted [] n = (refl, tt)
compacted ((k, None) ∷ es) n = compacted es n.1
compacted ((k, Some p) ∷ es) n = let ih = compacted es n.1 in (ap (λ ps. p ∷ ps) ih.0, (n.0, ih.1))

-- a new slot at the end
pub named_more : (id : CmdId) (es : List Slot) (p : Proposal) → AreNamed es → p.id ≡ id → AreNamed (es ++ (id, Some p) ∷ [])
named_more id [] p n m = (m, tt)
named_more id (s ∷ es) p n m = (n.0, named_more id es p n.1 m)

-- where no slot has the id, there is none to write
pub no_slot_stays : (id : CmdId) (es : List Slot) (slot : Option Proposal) → slot_of id es ≡ None → with_slot id es slot ≡ es
no_slot_stays id [] slot h = refl
no_slot_stays id (s ∷ es) slot h =
    let c = cond_none _ _ _ h in
    ap (λ b. cond b ((s.0, slot) ∷ es) (s ∷ with_slot id es slot)) c.0 ∙ ap (λ qs. s ∷ qs) (no_slot_stays id es slot c.1)

-- where no proposal has the id, none goes
pub none_goes : (id : CmdId) (ps : List Proposal) → proposal_of id ps ≡ None → without id ps ≡ ps
none_goes id [] h = refl
none_goes id (p ∷ ps) h =
    let c = cond_none _ _ _ h in
    ap (λ b. cond (not b) (p ∷ without id ps) (without id ps)) c.0 ∙ ap (λ qs. p ∷ qs) (none_goes id ps c.1)

apart_below : (k : CmdId) (es : List Slot) → AllByRecursion (λ y. same_id k y ≡ false) (keys_of es) → AreNamed es
    → AllByRecursion (λ y. same_id k y ≡ false) (map (λ p. p.id) (proposals_in es))
apart_below k [] a n = tt
apart_below k ((l, None) ∷ es) a n = apart_below k es a.1 n.1
apart_below k ((l, Some p) ∷ es) a n = (ap (same_id k) n.0 ∙ a.0, apart_below k es a.1 n.1)

-- no two proposals have one id
pub ids_apart : (es : List Slot) → IsDistinct same_id (keys_of es) → AreNamed es → IsDistinct same_id (map (λ p. p.id) (proposals_in es))
unfolding IsDistinct
ids_apart [] d n = tt
ids_apart ((k, None) ∷ es) d n = ids_apart es d.1 n.1
ids_apart ((k, Some p) ∷ es) d n =
    (subst (λ l. AllByRecursion (λ y. same_id l y ≡ false) (map (λ p. p.id) (proposals_in es))) (sym n.0) (apart_below k es d.0 n.1), ids_apart es d.1 n.1)
