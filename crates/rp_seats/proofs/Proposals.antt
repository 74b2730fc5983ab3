-- What a list of proposals answers once one of them changed or ended.
use Rattle.std.proofs.Common.{◌≡◌, Bool, true, false, cond, not, List, [], ◌∷◌, map, None, Some, refl, sym, ap, subst, ◌∙◌}
use Rattle.std.specs.List.{filter}
use Rattle.rp_base.specs.declared.ids.CmdId.{CmdId}
use Rattle.rp_base.proofs.IdLaws.{same_back}
use Rattle.rp_latch.specs.Holds.{is_of_other}
use Rattle.rp_request.specs.Covers.{spans_of}
use Rattle.rp_pending.specs.declared.proposals.Proposal.{Proposal}
use Rattle.rp_pending.specs.Proposals.{has_id, proposal_of, without, with_changed}
use Rattle.rp_seats.specs.Standing.{hold_of, HasNone, AreDistinct}

-- the one that ended is not found
pub none_without : (id : CmdId) (ps : List Proposal) → proposal_of id (without id ps) ≡ None
none_without id [] = refl
none_without id (p ∷ ps) = go (has_id id p) refl (none_without id ps) where
  go : (b : Bool) → has_id id p ≡ b → proposal_of id (without id ps) ≡ None → proposal_of id (cond (not b) (p ∷ without id ps) (without id ps)) ≡ None
  go true e ih = ih
  go false e ih = ap (λ b. cond b (Some p) (proposal_of id (without id ps))) e ∙ ih

pub none_left : (id other : CmdId) (ps : List Proposal) → HasNone other ps → HasNone other (without id ps)
none_left id other [] h = tt
none_left id other (p ∷ ps) h = go (has_id id p) (none_left id other ps h.1) where
  go : (b : Bool) → HasNone other (without id ps) → HasNone other (cond (not b) (p ∷ without id ps) (without id ps))
  go true ih = ih
  go false ih = (h.0, ih)

pub distinct_left : (id : CmdId) (ps : List Proposal) → AreDistinct ps → AreDistinct (without id ps)
distinct_left id [] h = tt
distinct_left id (p ∷ ps) h = go (has_id id p) (distinct_left id ps h.1) where
  go : (b : Bool) → AreDistinct (without id ps) → AreDistinct (cond (not b) (p ∷ without id ps) (without id ps))
  go true ih = ih
  go false ih = (none_left id p.id ps h.0, ih)

pub held_left : (id : CmdId) (ps : List Proposal) → filter (is_of_other id) (map hold_of ps) ≡ map hold_of (without id ps)
held_left id [] = refl
held_left id (p ∷ ps) =
    ap (λ b. cond (not b) (hold_of p ∷ filter (is_of_other id) (map hold_of ps)) (filter (is_of_other id) (map hold_of ps))) (same_back p.id id)
    ∙ go (has_id id p) (held_left id ps) where
      go : (b : Bool) → filter (is_of_other id) (map hold_of ps) ≡ map hold_of (without id ps)
          → cond (not b) (hold_of p ∷ filter (is_of_other id) (map hold_of ps)) (filter (is_of_other id) (map hold_of ps)) ≡ map hold_of (cond (not b) (p ∷ without id ps) (without id ps))
      go true e = e
      go false e = ap (λ hs. hold_of p ∷ hs) e

-- a change that keeps ids and requests
module _ (g : Proposal → Proposal) (same : (p : Proposal) → (g p).id ≡ p.id) (asks : (p : Proposal) → (g p).request ≡ p.request) (id : CmdId) where
  id_turned : (b : Bool) (p : Proposal) → (cond b (g p) p).id ≡ p.id
  id_turned true p = same p
  id_turned false p = refl

  none_turned : (other : CmdId) (ps : List Proposal) → HasNone other ps → HasNone other (with_changed id g ps)
  none_turned other [] h = tt
  none_turned other (p ∷ ps) h = ((λ e. h.0 (e ∙ id_turned (has_id id p) p)), none_turned other ps h.1)

  pub distinct_turned : (ps : List Proposal) → AreDistinct ps → AreDistinct (with_changed id g ps)
  distinct_turned [] h = tt
  distinct_turned (p ∷ ps) h = (subst (λ z. HasNone z (with_changed id g ps)) (sym (id_turned (has_id id p) p)) (none_turned p.id ps h.0), distinct_turned ps h.1)

  hold_turned : (b : Bool) (p : Proposal) → hold_of p ≡ hold_of (cond b (g p) p)
  hold_turned true p = λ i. record { id = sym (same p) i; spans = spans_of (sym (asks p) i) }
  hold_turned false p = refl

  pub held_turned : (ps : List Proposal) → map hold_of ps ≡ map hold_of (with_changed id g ps)
  held_turned [] = refl
  held_turned (p ∷ ps) = ap (λ h. h ∷ map hold_of ps) (hold_turned (has_id id p) p) ∙ ap (λ hs. hold_of (cond (has_id id p) (g p) p) ∷ hs) (held_turned ps)
