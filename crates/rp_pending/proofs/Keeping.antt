-- The slots stay sound.
use Rattle.std.proofs.Common.{◌≡◌, ℕ, suc, ◌+◌, ◌-◌, ◌≤◌, Bool, true, false, not, if◌then◌else◌, List, [], ◌∷◌, ◌++◌, length, Option, None, Some, IsSome, is_some, refl, sym, ap, subst, ◌∙◌, arith, length-append}
use Rattle.std.specs.List.{IsDistinct, filter}
use Rattle.std.specs.Map.{remove_entry, keys_of}
use Rattle.std.specs.Option.{option_flatten, option_map, option_map_or}
use Rattle.std.proofs.lemmas.List.Elements.{filter_map-append}
use Rattle.std.proofs.lemmas.Map.{keys-set_value}
use Rattle.rp_base.specs.declared.ids.CmdId.{CmdId}
use Rattle.rp_pending.specs.declared.proposals.Proposal.{Proposal}
use Rattle.rp_pending.specs.declared.proposals.Change.{Change}
use Rattle.rp_pending.specs.declared.proposals.Change.TheVariants.{Propose, WaitAgain, HandOut, TakeBack, Repeat}
use Rattle.rp_base.specs.Ids.{same_id}
use Rattle.rp_pending.specs.Proposals.{proposal_of, without, with_changed, proposed, waiting_again, is_proposed}
use Rattle.rp_pending.specs.Refreshes.{goes_back}
use Rattle.rp_pending.specs.Turns.{dropped_back, turned, turned_at}
use Rattle.rp_pending.specs.Slots.{Slot, proposals_in, changed, slot_of, stays, with_slot, IsNamed, AreNamed, AreSound}
use Rattle.rp_pending.proofs.Finding.{found, emptied, changed_in, named_at, named_with, one_less, cleared, compacted, named_more, none_goes}

-- a proposal that is found has a slot
pub some_slot : (o : Option (Option Proposal)) → IsSome (option_flatten o) → (p : Proposal) × (o ≡ Some (Some p))
some_slot None h = cc
some_slot (Some None) h = cc
some_slot (Some (Some p)) h = (p, refl)

pub slot_is : (o : Option (Option Proposal)) (p : Proposal) → option_flatten o ≡ Some p → o ≡ Some (Some p)
slot_is None p h = cc
slot_is (Some o) p h = ap Some h

-- a change leaves the id
stays_named : (id : CmdId) (slot : Option Proposal) (change : Change) → IsNamed (id, slot) → IsNamed (id, option_map (changed change) slot)
stays_named id None change n = tt
stays_named id (Some p) (Propose max now round) n = n
stays_named id (Some p) WaitAgain n = n
stays_named id (Some p) (HandOut max now round) n = by (is_proposed p.stage)
  where
    by : (b : Bool) → (if not b then proposed max now round p else p).id ≡ id
    by true = n
    by false = n
stays_named id (Some p) (TakeBack lai) n = by (goes_back lai p)
  where
    by : (b : Bool) → (if b then waiting_again p else p).id ≡ id
    by true = n
    by false = n
stays_named id (Some p) (Repeat now round) n = by (is_proposed p.stage)
  where
    by : (b : Bool) → (if b then proposed p.max now round p else p).id ≡ id
    by true = n
    by false = n

pub sound_compacted : (es : List Slot) (count : ℕ) → AreSound es count → IsDistinct same_id (keys_of (filter (λ s. is_some s.1) es)) → AreSound (filter (λ s. is_some s.1) es) count
sound_compacted es count sound d =
    let c = compacted es sound.named in
    record { distinct = d; named = c.1; counted = sound.counted ∙ sym (ap length c.0) }

-- what stays of the slots is what stays of the proposals, each in its slot
staying : (lai : ℕ) (es : List Slot) → AreNamed es
    → (proposals_in (filter (λ s. stays lai s.1) es) ≡ dropped_back lai (proposals_in es)) × AreNamed (filter (λ s. stays lai s.1) es)
    × (length (filter (λ s. stays lai s.1) es) ≡ length (proposals_in (filter (λ s. stays lai s.1) es)))
staying lai [] n = (refl, tt, refl)
staying lai ((k, None) ∷ es) n = staying lai es n.1
staying lai ((k, Some p) ∷ es) n = by (goes_back lai p) (staying lai es n.1)
  where
    by : (b : Bool) → (proposals_in (filter (λ s. stays lai s.1) es) ≡ dropped_back lai (proposals_in es)) × AreNamed (filter (λ s. stays lai s.1) es)
        × (length (filter (λ s. stays lai s.1) es) ≡ length (proposals_in (filter (λ s. stays lai s.1) es)))
        → (proposals_in (if not b then (k, Some p) ∷ filter (λ s. stays lai s.1) es else filter (λ s. stays lai s.1) es)
        ≡ (if not b then p ∷ dropped_back lai (proposals_in es) else dropped_back lai (proposals_in es)))
        × AreNamed (if not b then (k, Some p) ∷ filter (λ s. stays lai s.1) es else filter (λ s. stays lai s.1) es)
        × (length (if not b then (k, Some p) ∷ filter (λ s. stays lai s.1) es else filter (λ s. stays lai s.1) es)
        ≡ length (proposals_in (if not b then (k, Some p) ∷ filter (λ s. stays lai s.1) es else filter (λ s. stays lai s.1) es)))
    by true ih = ih
    by false ih = (ap (λ ps. p ∷ ps) ih.0, (n.0, ih.1), ap suc ih.2)

pub kept_staying : (lai count : ℕ) (es fs : List Slot) → AreSound es count → fs ≡ filter (λ s. stays lai s.1) es → IsDistinct same_id (keys_of fs)
    → AreSound fs (length fs) × (proposals_in fs ≡ dropped_back lai (proposals_in es))
kept_staying lai count es fs sound e d =
    let s = staying lai es sound.named in (
      record {
        distinct = d;
        named = subst AreNamed (sym e) s.1;
        counted = ap length e ∙ s.2 ∙ sym (ap (λ gs. length (proposals_in gs)) e);
      },
      ap proposals_in e ∙ s.0,
    )

unchanged : (x : Option Proposal) → option_map (λ p. p) x ≡ x
unchanged None = refl
unchanged (Some p) = refl

either : (b : Bool) (p : Proposal) → (if b then p else p) ≡ p
either true p = refl
either false p = refl

all_same : (id : CmdId) (ps : List Proposal) → with_changed id (λ p. p) ps ≡ ps
all_same id [] = refl
all_same id (p ∷ ps) = ap (λ q. q ∷ with_changed id (λ p. p) ps) (either (same_id id p.id) p) ∙ ap (λ qs. p ∷ qs) (all_same id ps)

module _ (id : CmdId) (es : List Slot) (count : ℕ) (sound : AreSound es count) where
  distinct_with : (slot : Option Proposal) → IsDistinct same_id (keys_of (with_slot id es slot))
  distinct_with slot = subst (IsDistinct same_id) (sym (keys-set_value (same_id id) es slot)) sound.distinct

  pub found_in : proposal_of id (proposals_in es) ≡ option_flatten (slot_of id es)
  found_in = found id es sound.distinct sound.named

  pub emptied_in : proposals_in (with_slot id es None) ≡ without id (proposals_in es)
  emptied_in = emptied id es sound.distinct sound.named

  pub changed_at : (change : Change) (slot : Option Proposal) → slot_of id es ≡ Some slot
      → proposals_in (with_slot id es (option_map (changed change) slot)) ≡ with_changed id (changed change) (proposals_in es)
  changed_at change slot h = changed_in (changed change) id es slot sound.distinct sound.named h

  length_changed : (f : Proposal → Proposal) (ps : List Proposal) → length (with_changed id f ps) ≡ length ps
  length_changed f [] = refl
  length_changed f (p ∷ ps) = let ih = length_changed f ps in omega arith

  pub sound_changed : (change : Change) (slot : Option Proposal) → slot_of id es ≡ Some slot → AreSound (with_slot id es (option_map (changed change) slot)) count
  sound_changed change slot h = record {
    distinct = distinct_with _;
    named = named_with id es _ sound.named (stays_named id slot change (named_at id es slot sound.named h));
    counted = sound.counted ∙ sym (ap length (changed_at change slot h) ∙ length_changed (changed change) (proposals_in es));
  }

  pub sound_without : option_flatten (slot_of id es) ≡ None → AreSound (with_slot id es None) count
  sound_without h = record {
    distinct = distinct_with None;
    named = named_with id es None sound.named tt;
    counted = sound.counted ∙ sym (ap length (emptied_in ∙ none_goes id (proposals_in es) (found_in ∙ h)));
  }

  -- one was there
  pub at_least_one : (p : Proposal) → option_flatten (slot_of id es) ≡ Some p → 1 ≤ count
  at_least_one p h = let one = one_less id es p (slot_is _ p h) in omega (arith, sound.counted)

  pub sound_emptied : (p : Proposal) → option_flatten (slot_of id es) ≡ Some p → AreSound (with_slot id es None) (count - 1)
  sound_emptied p h = record {
    distinct = distinct_with None;
    named = named_with id es None sound.named tt;
    counted = let one = one_less id es p (slot_is _ p h) in omega (arith, sound.counted);
  }

  pub sound_cleared : option_flatten (slot_of id es) ≡ None → IsDistinct same_id (keys_of (remove_entry (same_id id) es)) → AreSound (remove_entry (same_id id) es) count
  sound_cleared h d =
      let c = cleared id es h sound.named in
      record { distinct = d; named = c.1; counted = sound.counted ∙ sym (ap length c.0) }

  pub one_more_in : (p : Proposal) → proposals_in (es ++ (id, Some p) ∷ []) ≡ proposals_in es ++ p ∷ []
  one_more_in p = filter_map-append (λ s. s.1) es ((id, Some p) ∷ [])

  pub sound_more : (p : Proposal) → p.id ≡ id → IsDistinct same_id (keys_of (es ++ (id, Some p) ∷ [])) → AreSound (es ++ (id, Some p) ∷ []) (count + 1)
  sound_more p h d = record {
    distinct = d;
    named = named_more id es p sound.named h;
    counted = omega (arith, sound.counted, ap length (one_more_in p), length-append (proposals_in es) (p ∷ []));
  }

  -- a slot that stays as it is
  same_in : (o : Option Proposal) → slot_of id es ≡ Some o → proposals_in (with_slot id es o) ≡ proposals_in es
  same_in o h =
      ap (λ (x : Option Proposal). proposals_in (with_slot id es x)) (sym (unchanged o))
      ∙ changed_in (λ p. p) id es o sound.distinct sound.named h ∙ all_same id (proposals_in es)

  turned_one : (change : Change) (p : Proposal) → slot_of id es ≡ Some (Some p)
      → proposals_in (with_slot id es (Some (changed change p))) ≡ turned change id (proposals_in es) p
  turned_one (Propose max now round) p h = changed_in (proposed max now round) id es (Some p) sound.distinct sound.named h
  turned_one WaitAgain p h = changed_in waiting_again id es (Some p) sound.distinct sound.named h
  turned_one (HandOut max now round) p h = by (is_proposed p.stage)
    where
      by : (b : Bool) → proposals_in (with_slot id es (Some (if not b then proposed max now round p else p)))
          ≡ (if not b then with_changed id (proposed max now round) (proposals_in es) else proposals_in es)
      by true = same_in (Some p) h
      by false = changed_in (proposed max now round) id es (Some p) sound.distinct sound.named h
  turned_one (TakeBack lai) p h = by (goes_back lai p)
    where
      by : (b : Bool) → proposals_in (with_slot id es (Some (if b then waiting_again p else p)))
          ≡ (if b then with_changed id waiting_again (proposals_in es) else proposals_in es)
      by true = changed_in waiting_again id es (Some p) sound.distinct sound.named h
      by false = same_in (Some p) h
  turned_one (Repeat now round) p h = by (is_proposed p.stage)
    where
      by : (b : Bool) → proposals_in (with_slot id es (Some (if b then proposed p.max now round p else p)))
          ≡ (if b then with_changed id (proposed p.max now round) (proposals_in es) else proposals_in es)
      by true = changed_in (proposed p.max now round) id es (Some p) sound.distinct sound.named h
      by false = same_in (Some p) h

  -- what a change makes of the slots, as they stand after it
  abbrev Turns : Change → List Slot → Type 0
  Turns change fs = AreSound fs count × (proposals_in fs ≡ turned_at change id (proposals_in es))

  turned_by : (change : Change) (fs : List Slot) (o : Option (Option Proposal)) → slot_of id es ≡ o → (slot_of id es ≡ None → fs ≡ es)
      → ((slot : Option Proposal) → slot_of id es ≡ Some slot → fs ≡ with_slot id es (option_map (changed change) slot)) → Turns change fs
  turned_by change fs None e none some = (
    subst (λ gs. AreSound gs count) (sym (none e)) sound,
    ap proposals_in (none e) ∙ sym (ap (λ (x : Option Proposal). option_map_or (turned change id (proposals_in es)) x (proposals_in es)) (found_in ∙ ap option_flatten e)),
  )
  turned_by change fs (Some None) e none some = (
    subst (λ gs. AreSound gs count) (sym (some None e)) (sound_changed change None e),
    ap proposals_in (some None e) ∙ same_in None e ∙ sym (ap (λ (x : Option Proposal). option_map_or (turned change id (proposals_in es)) x (proposals_in es)) (found_in ∙ ap option_flatten e)),
  )
  turned_by change fs (Some (Some p)) e none some = (
    subst (λ gs. AreSound gs count) (sym (some (Some p) e)) (sound_changed change (Some p) e),
    ap proposals_in (some (Some p) e) ∙ turned_one change p e ∙ sym (ap (λ (x : Option Proposal). option_map_or (turned change id (proposals_in es)) x (proposals_in es)) (found_in ∙ ap option_flatten e)),
  )

  pub turned_in : (change : Change) (fs : List Slot) → (slot_of id es ≡ None → fs ≡ es)
      → ((slot : Option Proposal) → slot_of id es ≡ Some slot → fs ≡ with_slot id es (option_map (changed change) slot)) → Turns change fs
  turned_in change fs none some = turned_by change fs (slot_of id es) refl none some
