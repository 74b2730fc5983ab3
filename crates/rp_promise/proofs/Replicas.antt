-- What an event of a replica leaves of what was applied, which snapshots it sends, and whom it tells Success.
use Rattle.std.proofs.Common.{◌≡◌, ℕ, ◌+◌, ◌≤◌, true, ◌⊎◌, inl, inr, Option, None, Some, Result, Ok, Err, List, [], ◌∷◌, ◌++◌, refl, sym, ap, subst, ◌∙◌, arith}
use Rattle.std.proofs.lemmas.Option.{none-some}
use Rattle.std.specs.Prelude.{filter_map}
use Rattle.std.specs.List.{AllByRecursion as Every, list_any, cons_option}
use Rattle.std.specs.Option.{option_map, option_map_or}
use Rattle.std.proofs.lemmas.Bool.{cond_both}
use Rattle.rp_base.specs.declared.ids.CmdId.{CmdId}
use Rattle.rp_base.specs.declared.items.Item.{Item}
use Rattle.rp_base.specs.declared.items.Item.TheVariants as items
use Rattle.rp_base.specs.declared.leases.Lease.{Lease}
use Rattle.rp_flush.specs.declared.assigns.Assigned.{Assigned}
use Rattle.rp_raftstep.specs.declared.messages.Message.{Message}
use Rattle.rp_raftstep.specs.Step.{Draft, tick, received}
use Rattle.rp_request.specs.Applied.{AppliedState, command_verdict}
use Rattle.rp_request.specs.History.{History, reset_to}
use Rattle.rp_request.specs.History as history
use Rattle.rp_request.specs.States.{first_applied, right_of}
use Rattle.rp_request.specs.declared.commands.Command.{Command}
use Rattle.rp_request.specs.declared.commands.Payload.{Payload}
use Rattle.rp_request.specs.declared.commands.Payload.TheVariants as payloads
use Rattle.rp_request.specs.declared.evaluations.Evaluated.{Evaluated}
use Rattle.rp_request.specs.declared.outcomes.Ambiguity.TheVariants as causes
use Rattle.rp_request.specs.declared.outcomes.Outcome.{Outcome}
use Rattle.rp_request.specs.declared.outcomes.Outcome.TheVariants.{Success, Refused, Ambiguous, Pending}
use Rattle.rp_request.specs.declared.outcomes.Refusal.{Refusal}
use Rattle.rp_request.specs.declared.outcomes.Refusal.TheVariants.{NoReplica, NotLeaseHolder}
use Rattle.rp_request.specs.declared.requests.Request.{Request}
use Rattle.rp_request.specs.declared.verdicts.Verdict.{Verdict}
use Rattle.rp_request.specs.declared.verdicts.Verdict.TheVariants as verdicts
use Rattle.rp_pending.specs.Proposals.{proposal_of, is_proposed}
use Rattle.rp_pending.specs.Refreshes.{goes_back}
use Rattle.rp_pending.specs.declared.proposals.Proposal.{Proposal}
use Rattle.rp_pending.specs.declared.refreshes.Refresh.{Refresh}
use Rattle.rp_raftsafe.specs.World as raft
use Rattle.rp_raftsafe.proofs.Pieces.{every_append}
use Rattle.rp_raftsafe.proofs.Snapped.{SentSnap, acts_snaps, gets_snaps}
use Rattle.rp_events.specs.declared.answers.Ended.{Ended}
use Rattle.rp_events.specs.declared.answers.EventAnswer.TheVariants as answers
use Rattle.rp_events.specs.declared.replica_events.ReplicaEvent.{ReplicaEvent}
use Rattle.rp_events.specs.declared.replica_events.ReplicaEvent.TheVariants.{Admit, Ask, Transfer, Collect, Flush, Tick, Deliver, Cut, Remove, Peek, Restart}
use Rattle.rp_events.specs.Replicas.{Replica, Done, Told, untold, has_new_leader, lease_of, holds_lease, leaves}
use Rattle.rp_events.specs.declared.moves.Move.{Move}
use Rattle.rp_events.specs.declared.moves.Move.TheVariants.{HandsOut, GivesUp, TakesBack, Repeats}
use Rattle.rp_events.specs.Moves.{hands_out, gives_up, takes_back, repeats, moved, moved_all, ended, then_told, then_is, hands_to_raft, proposed_under, waits_again}
use Rattle.rp_events.specs.Admissions.{guarded, admitted_by, with_proposal, proposal}
use Rattle.rp_events.specs.Flushes.{assigning, emptied, flush_moves}
use Rattle.rp_events.specs.LeaseAsks.{joined, joined_all, same_ask, without_first, is_held, answers_ask, ask_for, expiry_of, lease_ticks}
use Rattle.rp_events.specs.Refreshes.{with_taken, refreshing, refreshed_by, refresh_moves}
use Rattle.rp_events.specs.Ends.{end_of, overtaken_by, removed_with, lost_under}
use Rattle.rp_events.specs.Applications.{is_own, settled, proposer_told, applied_one}
use Rattle.rp_events.specs.ReplicaEvents.{event}
use Rattle.rp_events.specs.NodeEvents.{status_after}
use Rattle.rp_events.specs.Lists.{history_in}
use Rattle.rp_seats.specs.Views.{core, range_at}
use Rattle.rp_seats.proofs.Turns.{moves_kept}
use Rattle.rp_promise.proofs.Somes.{some_is}

-- an end that is no Success
abbrev pub IsNoSuccess : Outcome → Type 0
IsNoSuccess (Success reply) = ⊥
IsNoSuccess (Refused why) = Unit {0}
IsNoSuccess (Ambiguous why) = Unit {0}
IsNoSuccess Pending = Unit {0}

abbrev pub NoSuccess : Ended → Type 0
NoSuccess e = IsNoSuccess e.outcome

-- a snapshot is of no later index
abbrev pub UpTo : (bound index : ℕ) → AppliedState → Type 0
UpTo bound index s = index ≤ bound

abbrev pub SentUpTo : ℕ → List (ℕ × Message AppliedState) → Type 0
SentUpTo bound messages = Every (SentSnap (UpTo bound)) messages

-- an event that applies nothing and takes in no snapshot
pub record Quiet (r : Replica) (e : ReplicaEvent AppliedState) (d : Done) : Type 0 where
  pub history : history_in (status_after e d.replica) ≡ Some r.applied
  pub right : d.right ≡ None
  pub messages : SentUpTo r.applied.index d.messages
  pub outcomes : Every NoSuccess d.outcomes

-- any range: what is sent does not depend on it
some_range : raft.Range AppliedState
some_range = range_at 0 0 first_applied

-- moves end nothing with Success
move_ends : (ticks round : ℕ) (t : Told) (m : Move) → Every NoSuccess t.ended → Every NoSuccess (moved ticks round t m).ended
move_ends ticks round t (HandsOut id max) h = go (proposal_of id t.replica.pending) where
  go : (o : Option Proposal) → Every NoSuccess (option_map_or (hands_out ticks round t id max) o t).ended
  go None = h
  go (Some p) = cond_both (is_proposed p.stage) t (then_is t (proposed_under t.replica ticks round id max)) (λ z. Every NoSuccess z.ended) (λ _. h) (λ _. h)
move_ends ticks round t (GivesUp id) h = go (proposal_of id t.replica.pending) where
  go : (o : Option Proposal) → Every NoSuccess (option_map_or (gives_up t id) o t).ended
  go None = h
  go (Some p) =
      cond_both (is_proposed p.stage) t (then_told t (ended t.replica id (Refused (NotLeaseHolder (lease_of t.replica))))) (λ (z : Told). Every NoSuccess z.ended) (λ _. h)
      (λ _. every_append NoSuccess t.ended (record { id = id; outcome = Refused (NotLeaseHolder (lease_of t.replica)) } ∷ []) h (tt, tt))
move_ends ticks round t (TakesBack id) h = go (proposal_of id t.replica.pending) where
  go : (o : Option Proposal) → Every NoSuccess (option_map_or (takes_back t id) o t).ended
  go None = h
  go (Some p) = cond_both (goes_back t.replica.applied.state.lai p) (then_is t (waits_again t.replica id)) t (λ z. Every NoSuccess z.ended) (λ _. h) (λ _. h)
move_ends ticks round t (Repeats id) h = go (proposal_of id t.replica.pending) where
  go : (o : Option Proposal) → Every NoSuccess (option_map_or (repeats ticks round t id) o t).ended
  go None = h
  go (Some p) = cond_both (is_proposed p.stage) (then_is t (proposed_under t.replica ticks round id p.max)) t (λ z. Every NoSuccess z.ended) (λ _. h) (λ _. h)

moves_end : (ticks round : ℕ) (t : Told) (ms : List Move) → Every NoSuccess t.ended → Every NoSuccess (moved_all ticks round t ms).ended
moves_end ticks round t [] h = h
moves_end ticks round t (m ∷ ms) h = moves_end ticks round (moved ticks round t m) ms (move_ends ticks round t m h)

-- what ends proposals without Success
abbrev NoneSucceeds : (Proposal → Option Outcome) → Type 0
NoneSucceeds ends = (p : Proposal) (o : Outcome) → ends p ≡ Some o → IsNoSuccess o

all_end : (ends : Proposal → Option Outcome) → NoneSucceeds ends → (ps : List Proposal) → Every NoSuccess (filter_map (end_of ends) ps)
all_end ends h [] = tt
all_end ends h (p ∷ ps) = go (ends p) refl (all_end ends h ps) where
  go : (x : Option Outcome) → ends p ≡ x → Every NoSuccess (filter_map (end_of ends) ps)
      → Every NoSuccess (cons_option (option_map (λ outcome. record { id = p.id; outcome = outcome }) x) (filter_map (end_of ends) ps))
  go None e rest = rest
  go (Some o) e rest = (h p o e, rest)

overtaken_none : (lai : ℕ) → NoneSucceeds (overtaken_by lai)
overtaken_none lai p o =
    cond_both (goes_back lai p) (Some (Ambiguous (causes.Snapshot p.max lai))) None (λ z. z ≡ Some o → IsNoSuccess o)
    (λ _ e. subst IsNoSuccess (some_is (Ambiguous (causes.Snapshot p.max lai)) o e) tt)
    (λ _ e. absurd (none-some o e))

removed_none : NoneSucceeds removed_with
removed_none p o =
    cond_both (is_proposed p.stage) (Some (Ambiguous (causes.Removed p.max))) (Some (Refused NoReplica)) (λ z. z ≡ Some o → IsNoSuccess o)
    (λ _ e. subst IsNoSuccess (some_is (Ambiguous (causes.Removed p.max)) o e) tt)
    (λ _ e. subst IsNoSuccess (some_is (Refused NoReplica) o e) tt)

lost_none : (lease : Lease) → NoneSucceeds (lost_under lease)
lost_none lease p o =
    cond_both (is_proposed p.stage) (Some (Ambiguous (causes.Restarted p.max))) (Some (Refused (NotLeaseHolder lease))) (λ z. z ≡ Some o → IsNoSuccess o)
    (λ _ e. subst IsNoSuccess (some_is (Ambiguous (causes.Restarted p.max)) o e) tt)
    (λ _ e. subst IsNoSuccess (some_is (Refused (NotLeaseHolder lease)) o e) tt)

-- what joins the inbox
item_leaves : (r : Replica) (item : Item) → (joined r item).applied ≡ r.applied
item_leaves r (items.Write id) = refl
item_leaves r (items.Lease ask) =
    cond_both (list_any (λ x. same_ask x ask) r.asks) (record r { inbox = r.inbox ++ items.Lease ask ∷ []; asks = without_first ask r.asks }) r (λ (z : Replica). z.applied ≡ r.applied)
    (λ _. refl) (λ _. refl)

items_leave : (r : Replica) (taken : List Item) → (joined_all r taken).applied ≡ r.applied
items_leave r [] = refl
items_leave r (item ∷ more) = items_leave (joined r item) more ∙ item_leaves r item

-- an event that changes nothing of the kind
module _ (r : Replica) (ticks round : ℕ) where
  plain : (e : ReplicaEvent AppliedState) (d : Done) → history_in (status_after e d.replica) ≡ Some r.applied → d.right ≡ None → d.messages ≡ [] → d.outcomes ≡ [] → Quiet r e d
  plain e d same none silent untold' = record {
    history = same;
    right = none;
    messages = subst (SentUpTo r.applied.index) (sym silent) tt;
    outcomes = subst (λ xs. Every NoSuccess xs) (sym untold') tt;
  }

  pub admit_quiet : (id : CmdId) (request : Request) (taken : List Item) → Quiet r (Admit id request) (event r (Admit id request) ticks round taken)
  admit_quiet id request taken = go (guarded r request) where
    go : (g : Result Evaluated Refusal) → Quiet r (Admit id request) (admitted_by r id request g)
    go (Ok e) = plain (Admit id request) (leaves (with_proposal r (proposal id request e (lease_of r).seq)) answers.Admitted) refl refl refl refl
    go (Err why) = plain (Admit id request) (leaves r (answers.Refused why)) refl refl refl refl

  pub ask_quiet : (taken : List Item) → Quiet r Ask (event r Ask ticks round taken)
  ask_quiet taken =
      cond_both (is_held r ticks) (leaves r (answers.LeaseHeld (lease_of r) ticks)) (answers_ask r (ask_for r r.raft.head.node (expiry_of r ticks))) (λ d. Quiet r Ask d)
      (λ _. plain Ask (leaves r (answers.LeaseHeld (lease_of r) ticks)) refl refl refl refl)
      (λ _. plain Ask (answers_ask r (ask_for r r.raft.head.node (expiry_of r ticks))) refl refl refl refl)

  pub transfer_quiet : (to : ℕ) (taken : List Item) → Quiet r (Transfer to) (event r (Transfer to) ticks round taken)
  transfer_quiet to taken =
      cond_both (holds_lease r) (answers_ask r (ask_for r to (ticks + lease_ticks))) (leaves r (answers.Refused (NotLeaseHolder (lease_of r)))) (λ d. Quiet r (Transfer to) d)
      (λ _. plain (Transfer to) (answers_ask r (ask_for r to (ticks + lease_ticks))) refl refl refl refl)
      (λ _. plain (Transfer to) (leaves r (answers.Refused (NotLeaseHolder (lease_of r)))) refl refl refl refl)

  pub collect_quiet : (taken : List Item) → Quiet r Collect (event r Collect ticks round taken)
  collect_quiet taken = plain Collect (event r Collect ticks round taken) (ap Some (items_leave r taken)) refl refl refl

  pub flush_quiet : (taken : List Item) → Quiet r Flush (event r Flush ticks round taken)
  flush_quiet taken =
      let a : Assigned = assigning r in
      record {
        history = ap Some (moves_kept ticks round (untold (emptied r a)) (flush_moves a));
        right = refl;
        messages = acts_snaps (UpTo r.applied.index) some_range 0 (raft.Proposes (event r Flush ticks round taken).proposed) (raft.Live (core r)) (omega arith);
        outcomes = moves_end ticks round (untold (emptied r a)) (flush_moves a) tt;
      }

  pub tick_quiet : (taken : List Item) → Quiet r Tick (event r Tick ticks round taken)
  tick_quiet taken =
      let f : Refresh = refreshing r ticks (has_new_leader r.raft.head (tick {S = AppliedState} r.raft).state.head) in
      record {
        history = ap Some (moves_kept ticks round (untold r) (refresh_moves f));
        right = refl;
        messages = acts_snaps (UpTo r.applied.index) some_range 0 (raft.Ticks (event r Tick ticks round taken).proposed) (raft.Live (core r)) (omega arith);
        outcomes = moves_end ticks round (untold r) (refresh_moves f) tt;
      }

  pub cut_quiet : (taken : List Item) → Quiet r Cut (event r Cut ticks round taken)
  cut_quiet taken = plain Cut (event r Cut ticks round taken) refl refl refl refl

  pub peek_quiet : (key : ℕ) (taken : List Item) → Quiet r (Peek key) (event r (Peek key) ticks round taken)
  peek_quiet key taken = plain (Peek key) (event r (Peek key) ticks round taken) refl refl refl refl

  pub remove_quiet : (taken : List Item) → Quiet r Remove (event r Remove ticks round taken)
  remove_quiet taken = record {
    history = refl;
    right = refl;
    messages = tt;
    outcomes = all_end removed_with removed_none r.pending;
  }

  pub restart_quiet : (taken : List Item) → Quiet r Restart (event r Restart ticks round taken)
  restart_quiet taken = record {
    history = refl;
    right = refl;
    messages = tt;
    outcomes = all_end (lost_under (lease_of r)) (lost_none (lease_of r)) r.pending;
  }

-- what a message leaves: what was applied, or the snapshot that was taken in
pub record TakenIn (r : Replica) (message : Message AppliedState) (past : History) : Type 0 where
  pub index : ℕ
  pub snapshot : AppliedState
  pub is : past ≡ reset_to r.applied snapshot index
  pub from : ℕ
  pub taken : (received r.raft from message).taken ≡ Some (index, snapshot)

pub record Delivered (r : Replica) (message : Message AppliedState) (d : Done) : Type 0 where
  pub history : (d.replica.applied ≡ r.applied) ⊎ TakenIn r message d.replica.applied
  pub right : d.right ≡ None
  pub messages : SentUpTo r.applied.index d.messages
  pub outcomes : Every NoSuccess d.outcomes

module _ (r : Replica) (from : ℕ) (message : Message AppliedState) (ticks round : ℕ) where
  abbrev draft : Draft AppliedState
  draft = received r.raft from message

  abbrev Kept : History → Type 0
  Kept past = (past ≡ r.applied) ⊎ TakenIn r message past

  taken_history : (o : Option (ℕ × AppliedState)) → draft.taken ≡ o → Kept (with_taken r o).replica.applied
  taken_history None e = inl refl
  taken_history (Some x) e = inr (record { index = x.0; snapshot = x.1; is = refl; from = from; taken = e })

  taken_ends : (o : Option (ℕ × AppliedState)) → Every NoSuccess (with_taken r o).ended
  taken_ends None = tt
  taken_ends (Some x) = all_end (overtaken_by x.1.lai) (overtaken_none x.1.lai) r.pending

  abbrev t : Told
  t = with_taken r draft.taken

  sends : (bytes : List (List ℕ)) → SentUpTo r.applied.index (raft.gets some_range 0 from message bytes (raft.Live (core r))).sends
  sends bytes = gets_snaps (UpTo r.applied.index) some_range 0 from message bytes (raft.Live (core r)) (omega arith)

  pub delivered_leaves : (taken : List Item) → Delivered r message (event r (Deliver from message) ticks round taken)
  delivered_leaves taken =
      let f : Refresh = refreshing t.replica ticks true in
      cond_both (has_new_leader r.raft.head draft.state.head) (refreshed_by r draft ticks round t f) (hands_to_raft r draft t [] []) (λ d. Delivered r message d)
      (λ _. record {
        history = subst Kept (sym (moves_kept ticks round t (refresh_moves f))) (taken_history draft.taken refl);
        right = refl;
        messages = sends (refreshed_by r draft ticks round t f).proposed;
        outcomes = moves_end ticks round t (refresh_moves f) (taken_ends draft.taken);
      })
      (λ _. record {
        history = taken_history draft.taken refl;
        right = refl;
        messages = sends (hands_to_raft r draft t [] []).proposed;
        outcomes = taken_ends draft.taken;
      })

-- who is told Success: the attempt of the entry that is applied, where it is taken
pub record SucceedsAt (r : Replica) (p : Payload) (e : Ended) : Type 0 where
  pub command : Command
  pub here : p ≡ payloads.Write command
  pub took : command_verdict r.applied.state command ≡ verdicts.Took
  pub is : e ≡ record { id = command.id; outcome = Success command.reply }

pub record AppliedOne (r : Replica) (p : Payload) (d : Done) : Type 0 where
  pub history : d.replica.applied ≡ history.applied r.applied p
  pub right : d.right ≡ right_of r.applied.state p
  pub messages : d.messages ≡ []
  pub outcomes : Every (λ e. NoSuccess e ⊎ SucceedsAt r p e) d.outcomes

module _ (r : Replica) where
  settled_leaves : (c : Command) (v : Verdict) → (settled r c v).replica.applied ≡ r.applied
  settled_leaves c verdicts.Took = refl
  settled_leaves c (verdicts.OldLease now) = refl
  settled_leaves c (verdicts.OldIndex lai) = refl
  settled_leaves c verdicts.LeaseMoved = refl
  settled_leaves c verdicts.Nothing = refl

  proposer_leaves : (p : Payload) → (proposer_told r p).replica.applied ≡ r.applied
  proposer_leaves payloads.Nothing = refl
  proposer_leaves (payloads.Write c) =
      cond_both (is_own r c) (settled r c (command_verdict r.applied.state c)) (untold r) (λ z. z.replica.applied ≡ r.applied)
      (λ _. settled_leaves c (command_verdict r.applied.state c)) (λ _. refl)
  proposer_leaves (payloads.Lease ask) = refl

  settled_ends : (c : Command) (v : Verdict) → command_verdict r.applied.state c ≡ v → Every (λ e. NoSuccess e ⊎ SucceedsAt r (payloads.Write c) e) (settled r c v).ended
  settled_ends c verdicts.Took is = (inr (record { command = c; here = refl; took = is; is = refl }), tt)
  settled_ends c (verdicts.OldLease now) is = (inl tt, tt)
  settled_ends c (verdicts.OldIndex lai) is = tt
  settled_ends c verdicts.LeaseMoved is = tt
  settled_ends c verdicts.Nothing is = tt

  proposer_ends : (p : Payload) → Every (λ e. NoSuccess e ⊎ SucceedsAt r p e) (proposer_told r p).ended
  proposer_ends payloads.Nothing = tt
  proposer_ends (payloads.Write c) =
      cond_both (is_own r c) (settled r c (command_verdict r.applied.state c)) (untold r) (λ z. Every (λ e. NoSuccess e ⊎ SucceedsAt r (payloads.Write c) e) z.ended)
      (λ _. settled_ends c (command_verdict r.applied.state c) refl) (λ _. tt)
  proposer_ends (payloads.Lease ask) = tt

  pub applied_leaves : (p : Payload) → AppliedOne r p (applied_one r p)
  applied_leaves p = record {
    history = ap (λ (h : History). history.applied h p) (proposer_leaves p);
    right = refl;
    messages = refl;
    outcomes = proposer_ends p;
  }
