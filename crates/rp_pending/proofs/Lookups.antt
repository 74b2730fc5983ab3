-- What a list of proposals answers once one of them changed or ended.
use Rattle.std.proofs.Common.{◌≡◌, Bool, true, false, cond, not, List, [], ◌∷◌, Some, refl, sym, ap, ◌∙◌}
use Rattle.std.specs.Option.{option_map}
use Rattle.rp_base.specs.declared.ids.CmdId.{CmdId}
use Rattle.rp_base.specs.Ids.{same_id}
use Rattle.rp_base.proofs.IdLaws.{same_is, apart_not_same}
use Rattle.rp_pending.specs.declared.proposals.Proposal.{Proposal}
use Rattle.rp_pending.specs.Proposals.{has_id, proposal_of, without, with_changed}

-- each other one than the one that ended is as before
pub other_without : (id q : CmdId) (ps : List Proposal) → (q ≡ id → ⊥) → proposal_of q (without id ps) ≡ proposal_of q ps
other_without id q [] ne = refl
other_without id q (p ∷ ps) ne = go (has_id id p) refl (other_without id q ps ne) where
  go : (b : Bool) → has_id id p ≡ b → proposal_of q (without id ps) ≡ proposal_of q ps
      → proposal_of q (cond (not b) (p ∷ without id ps) (without id ps)) ≡ cond (has_id q p) (Some p) (proposal_of q ps)
  go true e ih = ih ∙ sym (ap (λ b. cond b (Some p) (proposal_of q ps)) (apart_not_same q p.id (λ s. ne (s ∙ sym (same_is id p.id e)))))
  go false e ih = ap (λ o. cond (has_id q p) (Some p) o) ih

-- a change that keeps ids: the one is found as it changed, and each other one is as before
module _ (g : Proposal → Proposal) (same : (p : Proposal) → (g p).id ≡ p.id) (id : CmdId) where
  pub same_turned : (ps : List Proposal) → proposal_of id (with_changed id g ps) ≡ option_map g (proposal_of id ps)
  same_turned [] = refl
  same_turned (p ∷ ps) = go (has_id id p) refl (same_turned ps) where
    go : (b : Bool) → has_id id p ≡ b → proposal_of id (with_changed id g ps) ≡ option_map g (proposal_of id ps)
        → cond (has_id id (cond b (g p) p)) (Some (cond b (g p) p)) (proposal_of id (with_changed id g ps)) ≡ option_map g (cond b (Some p) (proposal_of id ps))
    go true e ih = ap (λ b. cond b (Some (g p)) (proposal_of id (with_changed id g ps))) (ap (same_id id) (same p) ∙ e)
    go false e ih = ap (λ b. cond b (Some p) (proposal_of id (with_changed id g ps))) e ∙ ih

  pub other_turned : (q : CmdId) (ps : List Proposal) → (q ≡ id → ⊥) → proposal_of q (with_changed id g ps) ≡ proposal_of q ps
  other_turned q [] ne = refl
  other_turned q (p ∷ ps) ne = go (has_id id p) refl (other_turned q ps ne) where
    go : (b : Bool) → has_id id p ≡ b → proposal_of q (with_changed id g ps) ≡ proposal_of q ps
        → cond (has_id q (cond b (g p) p)) (Some (cond b (g p) p)) (proposal_of q (with_changed id g ps)) ≡ cond (has_id q p) (Some p) (proposal_of q ps)
    go false e ih = ap (λ o. cond (has_id q p) (Some p) o) ih
    go true e ih =
        let not_it : has_id q p ≡ false = apart_not_same q p.id (λ s. ne (s ∙ sym (same_is id p.id e))) in
        ap (λ b. cond b (Some (g p)) (proposal_of q (with_changed id g ps))) (ap (same_id q) (same p) ∙ not_it)
        ∙ ih ∙ sym (ap (λ b. cond b (Some p) (proposal_of q ps)) not_it)
