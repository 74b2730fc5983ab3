-- Which events of a replica make an attempt ambiguous.
use Rattle.std.proofs.Common.{◌≡◌, ℕ, ◌+◌, ◌<◌, ◌≤◌, Bool, true, false, cond, Option, None, Some, Result, Ok, Err, List, [], ◌∷◌, ◌++◌, refl, sym, ap, subst, ◌∙◌, arith, append_assoc}
use Rattle.std.specs.Prelude.{nat_le, filter_map}
use Rattle.std.specs.List.{find, cons_option, AllByRecursion}
use Rattle.std.specs.Option.{option_map, option_map_or, option_or}
use Rattle.std.proofs.lemmas.Bool.{cond_both, and_parts, leb-true}
use Rattle.std.proofs.lemmas.List.Folds.{find-append}
use Rattle.rp_base.specs.declared.ids.CmdId.{CmdId}
use Rattle.rp_base.specs.declared.items.Item.{Item}
use Rattle.rp_base.proofs.Counts.{count_cons, count_append}
use Rattle.rp_base.proofs.IdLaws.{same_itself}
use Rattle.rp_raftstep.specs.declared.messages.Message.{Message}
use Rattle.rp_raftstep.specs.Step.{Draft, tick, received}
use Rattle.rp_request.specs.Applied.{AppliedState, command_verdict}
use Rattle.rp_request.specs.History.{reset_to}
use Rattle.rp_request.specs.declared.commands.Command.{Command}
use Rattle.rp_request.specs.declared.commands.Payload.{Payload}
use Rattle.rp_request.specs.declared.commands.Payload.TheVariants as payloads
use Rattle.rp_request.specs.declared.evaluations.Evaluated.{Evaluated}
use Rattle.rp_request.specs.declared.outcomes.Ambiguity.{Ambiguity}
use Rattle.rp_request.specs.declared.outcomes.Ambiguity.TheVariants as causes
use Rattle.rp_request.specs.declared.outcomes.Outcome.{Outcome}
use Rattle.rp_request.specs.declared.outcomes.Outcome.TheVariants as outcomes
use Rattle.rp_request.specs.declared.outcomes.Refusal.{Refusal}
use Rattle.rp_request.specs.declared.outcomes.Refusal.TheVariants.{NotLeaseHolder, NoReplica}
use Rattle.rp_request.specs.declared.verdicts.Verdict.{Verdict}
use Rattle.rp_request.specs.declared.verdicts.Verdict.TheVariants as verdicts
use Rattle.rp_pending.specs.Proposals.{has_id, proposal_of, is_proposed}
use Rattle.rp_pending.specs.Refreshes.{goes_back}
use Rattle.rp_pending.specs.declared.proposals.Proposal.{Proposal}
use Rattle.rp_pending.specs.declared.proposals.Stage.{Stage}
use Rattle.rp_pending.specs.declared.proposals.Stage.TheVariants as stages
use Rattle.rp_events.specs.declared.answers.Ended.{Ended}
use Rattle.rp_events.specs.declared.answers.EventAnswer.TheVariants as answers
use Rattle.rp_events.specs.declared.replica_events.ReplicaEvent.{ReplicaEvent}
use Rattle.rp_events.specs.declared.replica_events.ReplicaEvent.TheVariants.{Admit, Ask, Transfer, Collect, Flush, Tick, Deliver, Apply, Cut, Remove, Peek, Restart}
use Rattle.rp_events.specs.Replicas.{Replica, Done, Told, leaves, untold, lease_of, holds_lease, has_new_leader}
use Rattle.rp_events.specs.Admissions.{guarded, admitted_by}
use Rattle.rp_events.specs.Applications.{is_own, settled, proposer_told, payload_of, next_entry, applied_where}
use Rattle.rp_events.specs.Ends.{end_of, overtaken_by, removed_with, lost_under}
use Rattle.rp_events.specs.Flushes.{assigning, flush_moves, emptied}
use Rattle.rp_events.specs.LeaseAsks.{lease_ticks, is_held, expiry_of, ask_for, answers_ask}
use Rattle.rp_events.specs.declared.moves.Move.{Move}
use Rattle.rp_events.specs.declared.moves.Move.TheVariants.{HandsOut, GivesUp, TakesBack, Repeats}
use Rattle.rp_events.specs.Moves.{hands_out, gives_up, takes_back, repeats, moved, moved_all}
use Rattle.rp_events.specs.Promises.{IsProposedIn}
use Rattle.rp_events.specs.Refreshes.{refreshing, refresh_moves, with_taken, delivered_by}
use Rattle.rp_events.specs.ReplicaEvents.{event}
use Rattle.rp_journals.proofs.Lists.{all_weaker}
use Rattle.rp_journals.proofs.Counting.{one_if, pending_of}

-- how an attempt may end where it may become ambiguous so
abbrev pub EndWith : (CmdId → Ambiguity → Type 0) → CmdId → Outcome → Type 0
EndWith C id (outcomes.Success reply) = Unit {0}
EndWith C id (outcomes.Refused why) = Unit {0}
EndWith C id (outcomes.Ambiguous why) = C id why
EndWith C id outcomes.Pending = ⊥

abbrev pub AllEndWith : (CmdId → Ambiguity → Type 0) → List Ended → Type 0
AllEndWith C es = AllByRecursion (λ (e : Ended). EndWith C e.id e.outcome) es

pub end_weaker : (C D : CmdId → Ambiguity → Type 0) → ((id : CmdId) (why : Ambiguity) → C id why → D id why) → (id : CmdId) (o : Outcome) → EndWith C id o → EndWith D id o
end_weaker C D weaker id (outcomes.Success reply) h = tt
end_weaker C D weaker id (outcomes.Refused why) h = tt
end_weaker C D weaker id (outcomes.Ambiguous why) h = weaker id why h
end_weaker C D weaker id outcomes.Pending h = h

pub ends_weaker : (C D : CmdId → Ambiguity → Type 0) → ((id : CmdId) (why : Ambiguity) → C id why → D id why) → (es : List Ended) → AllEndWith C es → AllEndWith D es
ends_weaker C D weaker es h = all_weaker (λ (e : Ended). EndWith C e.id e.outcome) (λ (e : Ended). EndWith D e.id e.outcome) (λ e k. end_weaker C D weaker e.id e.outcome k) es h

pub all_both : {X : Type 0} (P : X → Type 0) (xs ys : List X) → AllByRecursion P xs → AllByRecursion P ys → AllByRecursion P (xs ++ ys)
all_both P [] ys h k = k
all_both P (x ∷ xs) ys h k = (h.0, all_both P xs ys h.1 k)

-- moves end by refusals alone, and leave what is applied
module _ (C : CmdId → Ambiguity → Type 0) where
  moved_end : (ticks round : ℕ) (t : Told) (move : Move) → AllEndWith C t.ended → AllEndWith C (moved ticks round t move).ended
  moved_end ticks round t (HandsOut id max) h = go (proposal_of id t.replica.pending) where
    go : (o : Option Proposal) → AllEndWith C (option_map_or (hands_out ticks round t id max) o t).ended
    go None = h
    go (Some p) = cond_both (is_proposed p.stage) t _ (λ (z : Told). AllEndWith C z.ended) (λ _. h) (λ _. h)
  moved_end ticks round t (GivesUp id) h = go (proposal_of id t.replica.pending) where
    go : (o : Option Proposal) → AllEndWith C (option_map_or (gives_up t id) o t).ended
    go None = h
    go (Some p) = cond_both (is_proposed p.stage) t _ (λ (z : Told). AllEndWith C z.ended) (λ _. h) (λ _. all_both (λ (e : Ended). EndWith C e.id e.outcome) t.ended _ h (tt, tt))
  moved_end ticks round t (TakesBack id) h = go (proposal_of id t.replica.pending) where
    go : (o : Option Proposal) → AllEndWith C (option_map_or (takes_back t id) o t).ended
    go None = h
    go (Some p) = cond_both (goes_back t.replica.applied.state.lai p) _ t (λ (z : Told). AllEndWith C z.ended) (λ _. h) (λ _. h)
  moved_end ticks round t (Repeats id) h = go (proposal_of id t.replica.pending) where
    go : (o : Option Proposal) → AllEndWith C (option_map_or (repeats ticks round t id) o t).ended
    go None = h
    go (Some p) = cond_both (is_proposed p.stage) _ t (λ (z : Told). AllEndWith C z.ended) (λ _. h) (λ _. h)

  moves_end : (ticks round : ℕ) (t : Told) (moves : List Move) → AllEndWith C t.ended → AllEndWith C (moved_all ticks round t moves).ended
  moves_end ticks round t [] h = h
  moves_end ticks round t (move ∷ moves) h = moves_end ticks round (moved ticks round t move) moves (moved_end ticks round t move h)

moved_applied : (ticks round : ℕ) (t : Told) (move : Move) → (moved ticks round t move).replica.applied ≡ t.replica.applied
moved_applied ticks round t (HandsOut id max) = go (proposal_of id t.replica.pending) where
  go : (o : Option Proposal) → (option_map_or (hands_out ticks round t id max) o t).replica.applied ≡ t.replica.applied
  go None = refl
  go (Some p) = cond_both (is_proposed p.stage) t _ (λ (z : Told). z.replica.applied ≡ t.replica.applied) (λ _. refl) (λ _. refl)
moved_applied ticks round t (GivesUp id) = go (proposal_of id t.replica.pending) where
  go : (o : Option Proposal) → (option_map_or (gives_up t id) o t).replica.applied ≡ t.replica.applied
  go None = refl
  go (Some p) = cond_both (is_proposed p.stage) t _ (λ (z : Told). z.replica.applied ≡ t.replica.applied) (λ _. refl) (λ _. refl)
moved_applied ticks round t (TakesBack id) = go (proposal_of id t.replica.pending) where
  go : (o : Option Proposal) → (option_map_or (takes_back t id) o t).replica.applied ≡ t.replica.applied
  go None = refl
  go (Some p) = cond_both (goes_back t.replica.applied.state.lai p) _ t (λ (z : Told). z.replica.applied ≡ t.replica.applied) (λ _. refl) (λ _. refl)
moved_applied ticks round t (Repeats id) = go (proposal_of id t.replica.pending) where
  go : (o : Option Proposal) → (option_map_or (repeats ticks round t id) o t).replica.applied ≡ t.replica.applied
  go None = refl
  go (Some p) = cond_both (is_proposed p.stage) _ t (λ (z : Told). z.replica.applied ≡ t.replica.applied) (λ _. refl) (λ _. refl)

moves_applied : (ticks round : ℕ) (t : Told) (moves : List Move) → (moved_all ticks round t moves).replica.applied ≡ t.replica.applied
moves_applied ticks round t [] = refl
moves_applied ticks round t (move ∷ moves) = moves_applied ticks round (moved ticks round t move) moves ∙ moved_applied ticks round t move

-- a replica took in a snapshot with this lease applied index
pub record TookIn (r s : Replica) (passed : ℕ) : Type 0 where
  pub is : s.applied ≡ reset_to r.applied s.applied.state s.applied.index
  pub lai : s.applied.state.lai ≡ passed

-- how an event of a replica makes an attempt ambiguous
abbrev pub CausedBy : Replica → ReplicaEvent AppliedState → Replica → CmdId → Ambiguity → Type 0
CausedBy r (Deliver from m) s id (causes.Snapshot own passed) = IsProposedIn r id own × (own ≤ passed) × TookIn r s passed
CausedBy r Remove s id (causes.Removed own) = IsProposedIn r id own
CausedBy r Restart s id (causes.Restarted own) = IsProposedIn r id own
CausedBy r _ s id _ = ⊥

-- how the list answers each of its proposals
none_found : (id : CmdId) (ps : List Proposal) → pending_of id ps ≡ 0 → proposal_of id ps ≡ None
none_found id [] e = refl
none_found id (p ∷ ps) e = go (none_found id ps) (has_id id p) refl where
  counted : one_if (has_id id p) + pending_of id ps ≡ 0
  counted = sym (count_cons (has_id id) p ps) ∙ e

  go : (pending_of id ps ≡ 0 → proposal_of id ps ≡ None) → (b : Bool) → has_id id p ≡ b → cond b (Some p) (find (has_id id) ps) ≡ None
  go ih true is = absurd (let one : one_if (has_id id p) ≡ 1 = ap one_if is in omega (arith, one, counted))
  go ih false is = ih (omega (arith, counted))

found_here : (front : List Proposal) (p : Proposal) (back : List Proposal) → pending_of p.id (front ++ p ∷ back) ≤ 1 → proposal_of p.id (front ++ p ∷ back) ≡ Some p
found_here front p back once =
    let parts = count_append (has_id p.id) front (p ∷ back) in
    let here = count_cons (has_id p.id) p back in
    let one : one_if (has_id p.id p) ≡ 1 = ap one_if (same_itself p.id) in
    let none : pending_of p.id front ≡ 0 = omega (arith, parts, here, one, once) in
    find-append (has_id p.id) front (p ∷ back)
    ∙ ap (λ o. option_or o (find (has_id p.id) (p ∷ back))) (none_found p.id front none)
    ∙ ap (λ b. cond b (Some p) (find (has_id p.id) back)) (same_itself p.id)

found_each : (front back : List Proposal) → ((id : CmdId) → pending_of id (front ++ back) ≤ 1) → AllByRecursion (λ (p : Proposal). proposal_of p.id (front ++ back) ≡ Some p) back
found_each front [] once = tt
found_each front (p ∷ back) once =
    let moved_on : (front ++ p ∷ []) ++ back ≡ front ++ p ∷ back = append_assoc front (p ∷ []) back in (
      found_here front p back (once p.id),
      subst (λ l. AllByRecursion (λ (x : Proposal). proposal_of x.id l ≡ Some x) back) moved_on
          (found_each (front ++ p ∷ []) back (λ id. subst (λ l. pending_of id l ≤ 1) (sym moved_on) (once id))),
    )

-- each that is proposed is so under an index above 0
abbrev pub IsSelf : Replica → Proposal → Type 0
IsSelf r p = is_proposed p.stage ≡ true → IsProposedIn r p.id p.max

proposed_is : (s : Stage) → is_proposed s ≡ true → s ≡ stages.Proposed
proposed_is stages.Waiting e = absurd cc
proposed_is stages.Proposed e = refl

all_pairs : {X : Type 0} (P Q : X → Type 0) (xs : List X) → AllByRecursion P xs → AllByRecursion Q xs → AllByRecursion (λ x. P x × Q x) xs
all_pairs P Q [] h k = tt
all_pairs P Q (x ∷ xs) h k = ((h.0, k.0), all_pairs P Q xs h.1 k.1)

pub all_self : (r : Replica) → ((id : CmdId) → pending_of id r.pending ≤ 1) → AllByRecursion (λ (p : Proposal). is_proposed p.stage ≡ true → 0 < p.max) r.pending → AllByRecursion (IsSelf r) r.pending
all_self r once above =
    all_weaker (λ (p : Proposal). (proposal_of p.id r.pending ≡ Some p) × (is_proposed p.stage ≡ true → 0 < p.max)) (IsSelf r)
    (λ p h e. record { proposal = p; pending = h.0; proposed = proposed_is p.stage e; own_is = refl; given = h.1 e }) r.pending
    (all_pairs _ _ r.pending (found_each [] r.pending once) above)

-- what ends at once
ended_each : (C : CmdId → Ambiguity → Type 0) (Q : Proposal → Type 0) (ends : Proposal → Option Outcome) → ((p : Proposal) (o : Outcome) → Q p → ends p ≡ Some o → EndWith C p.id o)
    → (ps : List Proposal) → AllByRecursion Q ps → AllEndWith C (filter_map (end_of ends) ps)
ended_each C Q ends each [] h = tt
ended_each C Q ends each (p ∷ ps) h = go (ended_each C Q ends each ps h.1) (ends p) refl where
  go : AllEndWith C (filter_map (end_of ends) ps) → (o : Option Outcome) → ends p ≡ o
      → AllEndWith C (cons_option (option_map (λ (outcome : Outcome). record { id = p.id; outcome = outcome }) (ends p)) (filter_map (end_of ends) ps))
  go more None is = subst (λ o. AllEndWith C (cons_option (option_map (λ (outcome : Outcome). record { id = p.id; outcome = outcome }) o) (filter_map (end_of ends) ps))) (sym is) more
  go more (Some o) is = subst (λ z. AllEndWith C (cons_option (option_map (λ (outcome : Outcome). record { id = p.id; outcome = outcome }) z) (filter_map (end_of ends) ps))) (sym is) (each p o h.0 is, more)

some_outcome : (a b : Outcome) → ◌≡◌ {A = Option Outcome} (Some a) (Some b) → a ≡ b
some_outcome a b e = cc

module _ (r : Replica) (self : AllByRecursion (IsSelf r) r.pending) where
  -- a removal
  pub remove_ends : (ticks round : ℕ) (taken : List Item) → AllEndWith (CausedBy r Remove (event r Remove ticks round taken).replica) (event r Remove ticks round taken).outcomes
  remove_ends ticks round taken = ended_each C (IsSelf r) removed_with each r.pending self where
    C : CmdId → Ambiguity → Type 0
    C = CausedBy r Remove (event r Remove ticks round taken).replica

    each : (p : Proposal) (o : Outcome) → IsSelf r p → removed_with p ≡ Some o → EndWith C p.id o
    each p o h e = by_stage (is_proposed p.stage) refl e where
      by_stage : (b : Bool) → is_proposed p.stage ≡ b → cond b (Some (outcomes.Ambiguous (causes.Removed p.max))) (Some (outcomes.Refused NoReplica)) ≡ Some o → EndWith C p.id o
      by_stage true is e' = subst (EndWith C p.id) (some_outcome (outcomes.Ambiguous (causes.Removed p.max)) o e') (h is)
      by_stage false is e' = subst (EndWith C p.id) (some_outcome (outcomes.Refused NoReplica) o e') tt

  -- a restart
  pub restart_ends : (ticks round : ℕ) (taken : List Item) → AllEndWith (CausedBy r Restart (event r Restart ticks round taken).replica) (event r Restart ticks round taken).outcomes
  restart_ends ticks round taken = ended_each C (IsSelf r) (lost_under (lease_of r)) each r.pending self where
    C : CmdId → Ambiguity → Type 0
    C = CausedBy r Restart (event r Restart ticks round taken).replica

    each : (p : Proposal) (o : Outcome) → IsSelf r p → lost_under (lease_of r) p ≡ Some o → EndWith C p.id o
    each p o h e = by_stage (is_proposed p.stage) refl e where
      by_stage : (b : Bool) → is_proposed p.stage ≡ b → cond b (Some (outcomes.Ambiguous (causes.Restarted p.max))) (Some (outcomes.Refused (NotLeaseHolder (lease_of r)))) ≡ Some o → EndWith C p.id o
      by_stage true is e' = subst (EndWith C p.id) (some_outcome (outcomes.Ambiguous (causes.Restarted p.max)) o e') (h is)
      by_stage false is e' = subst (EndWith C p.id) (some_outcome (outcomes.Refused (NotLeaseHolder (lease_of r))) o e') tt

  -- a message, with the snapshot that it brings
  module _ (from : ℕ) (m : Message AppliedState) (draft : Draft AppliedState) (ticks round : ℕ) where
    abbrev after_message : Told → Done
    after_message t = delivered_by r draft ticks round t

    message_applied : (t : Told) → (after_message t).replica.applied ≡ t.replica.applied
    message_applied t =
        cond_both (has_new_leader r.raft.head draft.state.head) _ _ (λ (z : Done). z.replica.applied ≡ t.replica.applied)
        (λ _. moves_applied ticks round t (refresh_moves (refreshing t.replica ticks true))) (λ _. refl)

    message_end : (C : CmdId → Ambiguity → Type 0) (t : Told) → AllEndWith C t.ended → AllEndWith C (after_message t).outcomes
    message_end C t h =
        cond_both (has_new_leader r.raft.head draft.state.head) _ _ (λ (z : Done). AllEndWith C z.outcomes)
        (λ _. moves_end C ticks round t (refresh_moves (refreshing t.replica ticks true)) h) (λ _. h)

    taken_ends : (o : Option (ℕ × AppliedState)) → AllEndWith (CausedBy r (Deliver from m) (after_message (with_taken r o)).replica) (after_message (with_taken r o)).outcomes
    taken_ends None = message_end _ (with_taken r None) tt
    taken_ends (Some taken) = message_end C (with_taken r (Some taken)) (ended_each C (IsSelf r) (overtaken_by taken.1.lai) each r.pending self) where
      s : Replica
      s = (after_message (with_taken r (Some taken))).replica

      C : CmdId → Ambiguity → Type 0
      C = CausedBy r (Deliver from m) s

      applied_is : s.applied ≡ reset_to r.applied taken.1 taken.0
      applied_is = message_applied (with_taken r (Some taken))

      took : TookIn r s taken.1.lai
      took = record {
        is = applied_is ∙ ap (λ h. reset_to r.applied h taken.0) (sym (ap (λ h. h.state) applied_is)) ∙ ap (reset_to r.applied s.applied.state) (sym (ap (λ h. h.index) applied_is));
        lai = ap (λ h. h.state.lai) applied_is;
      }

      each : (p : Proposal) (o : Outcome) → IsSelf r p → overtaken_by taken.1.lai p ≡ Some o → EndWith C p.id o
      each p o h e = by_test (goes_back taken.1.lai p) refl e where
        by_test : (b : Bool) → goes_back taken.1.lai p ≡ b → cond b (Some (outcomes.Ambiguous (causes.Snapshot p.max taken.1.lai))) None ≡ Some o → EndWith C p.id o
        by_test true is e' =
            let parts = and_parts (is_proposed p.stage) (nat_le p.max taken.1.lai) is in
            subst (EndWith C p.id) (some_outcome (outcomes.Ambiguous (causes.Snapshot p.max taken.1.lai)) o e') (h parts.0, leb-true p.max taken.1.lai parts.1, took)
        by_test false is e' = absurd cc

  pub deliver_ends : (from : ℕ) (m : Message AppliedState) (ticks round : ℕ) (taken : List Item) → AllEndWith (CausedBy r (Deliver from m) (event r (Deliver from m) ticks round taken).replica) (event r (Deliver from m) ticks round taken).outcomes
  deliver_ends from m ticks round taken = taken_ends from m (received r.raft from m) ticks round (received r.raft from m).taken

-- the other events make none ambiguous
abbrev pub IsQuiet : ReplicaEvent AppliedState → Type 0
IsQuiet (Deliver from m) = ⊥
IsQuiet Remove = ⊥
IsQuiet Restart = ⊥
IsQuiet _ = Unit {0}

module _ (C : CmdId → Ambiguity → Type 0) (r : Replica) where
  settled_end : (c : Command) (v : Verdict) → AllEndWith C (settled r c v).ended
  settled_end c verdicts.Took = (tt, tt)
  settled_end c (verdicts.OldLease now) = (tt, tt)
  settled_end c (verdicts.OldIndex lai) = tt
  settled_end c verdicts.LeaseMoved = tt
  settled_end c verdicts.Nothing = tt

  proposer_end : (p : Payload) → AllEndWith C (proposer_told r p).ended
  proposer_end payloads.Nothing = tt
  proposer_end (payloads.Write c) = cond_both (is_own r c) (settled r c (command_verdict r.applied.state c)) (untold r) (λ (z : Told). AllEndWith C z.ended) (λ _. settled_end c (command_verdict r.applied.state c)) (λ _. tt)
  proposer_end (payloads.Lease ask) = tt

  pub quiet_ends : (e : ReplicaEvent AppliedState) → IsQuiet e → (ticks round : ℕ) (taken : List Item) → AllEndWith C (event r e ticks round taken).outcomes
  quiet_ends (Admit id request) quiet ticks round taken = go (guarded r request) where
    go : (g : Result Evaluated Refusal) → AllEndWith C (admitted_by r id request g).outcomes
    go (Ok e) = tt
    go (Err why) = tt
  quiet_ends Ask quiet ticks round taken =
      cond_both (is_held r ticks) (leaves r (answers.LeaseHeld (lease_of r) ticks)) (answers_ask r (ask_for r r.raft.head.node (expiry_of r ticks))) (λ (z : Done). AllEndWith C z.outcomes) (λ _. tt) (λ _. tt)
  quiet_ends (Transfer to) quiet ticks round taken =
      cond_both (holds_lease r) (answers_ask r (ask_for r to (ticks + lease_ticks))) (leaves r (answers.Refused (NotLeaseHolder (lease_of r)))) (λ (z : Done). AllEndWith C z.outcomes) (λ _. tt) (λ _. tt)
  quiet_ends Collect quiet ticks round taken = tt
  quiet_ends Flush quiet ticks round taken = moves_end C ticks round (untold (emptied r (assigning r))) (flush_moves (assigning r)) tt
  quiet_ends Tick quiet ticks round taken =
      let draft = tick r.raft in
      moves_end C ticks round (untold r) (refresh_moves (refreshing r ticks (has_new_leader r.raft.head draft.state.head))) tt
  quiet_ends (Deliver from m) quiet ticks round taken = absurd quiet
  quiet_ends Apply quiet ticks round taken = go (payload_of (next_entry r)) where
    go : (o : Option Payload) → AllEndWith C (applied_where r o).outcomes
    go None = tt
    go (Some p) = proposer_end p
  quiet_ends Cut quiet ticks round taken = tt
  quiet_ends Remove quiet ticks round taken = absurd quiet
  quiet_ends (Peek key) quiet ticks round taken = tt
  quiet_ends Restart quiet ticks round taken = absurd quiet
