-- Whether a plan may be extended.
use Rattle.std.proofs.Common.{◌≡◌, ℕ, ◌+◌, ◌<◌, ◌^◌, true, false, List, length, refl, sym, subst, ◌∙◌}
use Rattle.rp_raftlog.specs.LogState.{LogState, last_index, appended}
use Rattle.rp_raftstep.specs.declared.heads.Head.{Head}
use Rattle.rp_raftstep.specs.declared.heads.Due.{Due}
use Rattle.rp_raftstep.specs.RaftState.{RaftState, is_leader}
use Rattle.rp_raft.specs.declared.plans.LogEdit.{LogEdit}
use Rattle.rp_raft.specs.declared.plans.LogEdit.TheVariants.{Stays, Appends, Accepts, Cuts, Resets}
use Rattle.rp_raft.specs.declared.plans.RaftPlan.{RaftPlan}
use Rattle.rp_raft.specs.Plans.{behind_of, edited, is_no_cut, CanExtend, IsMadeIn, IsNoCut, IsSendable}
use Rattle.rp_raft.proofs.Fills.{nothing_behind}

not_both : true ≡ false → ⊥
not_both e = cc

no_cut : (edit : LogEdit) → is_no_cut edit ≡ true → IsNoCut edit
no_cut Stays e = tt
no_cut (Appends entries) e = tt
no_cut (Accepts prev_index prev_term entries) e = tt
no_cut (Cuts to) e = not_both (sym e)
no_cut (Resets index term) e = tt

-- what a leader's edit leaves is the log with entries behind
led : (log : LogState) (edit : LogEdit) (head : Head) (due : Due) → IsNoCut edit → IsSendable edit head due → is_leader head.role ≡ true
    → appended log (behind_of edit) ≡ edited log edit
led log Stays head due whole sendable leads = nothing_behind log
led log (Appends entries) head due whole sendable leads = refl
led log (Accepts prev_index prev_term entries) head due whole sendable leads = absurd (not_both (sym leads ∙ sendable.0))
led log (Cuts to) head due whole sendable leads = absurd whole
led log (Resets index term) head due whole sendable leads = absurd (not_both (sym leads ∙ sendable.0))

pub extends : {S : Type 0} (st : RaftState) (p : RaftPlan S) (payloads : List (List ℕ)) → IsMadeIn st p → is_no_cut p.draft.edit ≡ true
    → (is_leader p.draft.head.role ≡ true → last_index (appended st.log (behind_of p.draft.edit)) + length payloads < 2 ^ 64) → CanExtend st p payloads
extends st p payloads made e room = record {
  whole = no_cut p.draft.edit e;
  room = λ leads. subst (λ (log : LogState). last_index log + length payloads < 2 ^ 64) (led st.log p.draft.edit p.draft.head p.draft.due (no_cut p.draft.edit e) made.sendable leads) (room leads);
}

pub extended : {S : Type 0} (st : RaftState) (p : RaftPlan S) (payloads : List (List ℕ)) → IsMadeIn st p → CanExtend st p payloads
    → is_leader p.draft.head.role ≡ true → last_index (appended st.log (behind_of p.draft.edit)) + length payloads < 2 ^ 64
extended st p payloads made can leads =
    subst (λ (log : LogState). last_index log + length payloads < 2 ^ 64) (sym (led st.log p.draft.edit p.draft.head p.draft.due can.whole made.sendable leads)) (can.room leads)
