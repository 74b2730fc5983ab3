-- An event with a Propose of nothing behind it is the event.
use Rattle.std.proofs.Common.{◌≡◌, ℕ, Bool, true, false, cond, ◌&&◌, Option, Some, None, List, [], ◌++◌, map, refl, ap, ◌∙◌, append-nil}
use Rattle.std.specs.Option.{option_map_or}
use Rattle.rp_raftstep.specs.declared.heads.Due.{Due}
use Rattle.rp_raftstep.specs.declared.heads.Due.TheVariants.{Everyone}
use Rattle.rp_raftstep.specs.declared.messages.Message.{Message}
use Rattle.rp_raftstep.specs.declared.messages.Message.TheVariants.{Forward}
use Rattle.rp_raftstep.specs.RaftState.{RaftState, is_leader}
use Rattle.rp_raftstep.specs.Step.{Draft, with_payloads, proposed, forwards, due_after, then_proposed, sent, step_then}

pub proposed-nil : (st : RaftState) → proposed st [] ≡ st
proposed-nil st = by_role (is_leader st.head.role)
  where
    by_role : (leads : Bool) → cond leads (with_payloads st []) st ≡ st
    by_role true = ap (λ z. record st { log = record st.log { entries = z } }) (append-nil st.log.entries)
    by_role false = refl

pub forwards-nil : {S : Type 0} (st : RaftState) → forwards {S = S} st [] ≡ []
forwards-nil {S} st = by_role (is_leader st.head.role) st.head.leader
  where
    by_role : (leads : Bool) (leader : Option ℕ) → ◌≡◌ {A = List (ℕ × Message S)} (cond leads [] (option_map_or (λ l. map (λ payload. (l, Forward payload)) []) leader [])) []
    by_role true leader = refl
    by_role false None = refl
    by_role false (Some l) = refl

pub due_after-nil : (st : RaftState) (due : Due) → due_after st [] due ≡ due
due_after-nil st due = by_role (is_leader st.head.role)
  where
    by_role : (leads : Bool) → cond (leads && false) Everyone due ≡ due
    by_role true = refl
    by_role false = refl

pub then_proposed-nil : {S : Type 0} (draft : Draft S) → then_proposed draft [] ≡ draft
then_proposed-nil draft =
    ap (λ z. record { state = z; replies = draft.replies ++ forwards draft.state []; due = due_after draft.state [] draft.due; taken = draft.taken }) (proposed-nil draft.state)
    ∙ ap (λ z. record { state = draft.state; replies = z; due = due_after draft.state [] draft.due; taken = draft.taken }) (ap (λ z. draft.replies ++ z) (forwards-nil draft.state) ∙ append-nil draft.replies)
    ∙ ap (λ z. record { state = draft.state; replies = draft.replies; due = z; taken = draft.taken }) (due_after-nil draft.state draft.due)

pub step_then-nil : {S : Type 0} (applied : ℕ) (snapshot : S) (draft : Draft S) → step_then applied snapshot draft [] ≡ sent applied snapshot draft
step_then-nil applied snapshot draft = ap (sent applied snapshot) (then_proposed-nil draft)
