-- An event of a replica is a turn of Raft's replica, or nothing to it.
use Rattle.std.proofs.Common.{◌≡◌, ℕ, ◌+◌, Bool, true, false, cond, ltb, Option, None, Some, Result, Ok, Err, List, [], ◌∷◌, ◌++◌, refl, sym, ap, ◌∙◌, append-nil}
use Rattle.std.specs.Option.{option_map_or}
use Rattle.std.proofs.lemmas.Bool.{cond_both}
use Rattle.rp_base.specs.declared.ids.CmdId.{CmdId}
use Rattle.rp_base.specs.declared.items.Item.{Item}
use Rattle.rp_base.specs.declared.items.Item.TheVariants as items
use Rattle.rp_codec.specs.Reading.{payload_in}
use Rattle.rp_codec.specs.declared.faults.BadField.{BadField}
use Rattle.rp_raftlog.specs.declared.entries.Entry.{Entry}
use Rattle.rp_raftlog.specs.LogState.{entry_at}
use Rattle.rp_raftstep.specs.RaftState.{RaftState}
use Rattle.rp_raftstep.specs.declared.messages.Message.{Message}
use Rattle.rp_raftstep.specs.Step.{Draft, tick, received, quiet}
use Rattle.rp_request.specs.Applied.{AppliedState, after, command_verdict}
use Rattle.rp_request.specs.History.{History}
use Rattle.rp_request.specs.declared.commands.Command.{Command}
use Rattle.rp_request.specs.declared.commands.Payload.{Payload}
use Rattle.rp_request.specs.declared.commands.Payload.TheVariants as payloads
use Rattle.rp_request.specs.declared.evaluations.Evaluated.{Evaluated}
use Rattle.rp_request.specs.declared.outcomes.Refusal.{Refusal}
use Rattle.rp_request.specs.declared.requests.Request.{Request}
use Rattle.rp_request.specs.declared.verdicts.Verdict.{Verdict}
use Rattle.rp_request.specs.declared.verdicts.Verdict.TheVariants as verdicts
use Rattle.rp_pending.specs.declared.proposals.Proposal.{Proposal}
use Rattle.rp_pending.specs.Proposals.{proposal_of, is_proposed}
use Rattle.rp_pending.specs.Refreshes.{goes_back}
use Rattle.rp_raftstep.specs.declared.events.RaftEvent.TheVariants as raft_events
use Rattle.rp_request.specs.States.{first_applied}
use Rattle.rp_raftsafe.specs.World as raft
use Rattle.rp_raftsafe.proofs.Snapped.{step_takes_above_holds}
use Rattle.rp_events.specs.declared.replica_events.ReplicaEvent.{ReplicaEvent}
use Rattle.rp_events.specs.declared.replica_events.ReplicaEvent.TheVariants.{Admit, Ask, Transfer, Collect, Flush, Tick, Deliver, Apply, Cut, Remove, Peek, Restart}
use Rattle.rp_events.specs.Replicas.{Replica, Done, Told, untold, has_new_leader, lease_of, holds_lease, leaves}
use Rattle.rp_events.specs.declared.moves.Move.{Move}
use Rattle.rp_events.specs.declared.moves.Move.TheVariants.{HandsOut, GivesUp, TakesBack, Repeats}
use Rattle.rp_events.specs.Moves.{hands_out, gives_up, takes_back, repeats, moved, moved_all, hands_over, hands_to_raft, then_is, proposed_under, waits_again}
use Rattle.rp_events.specs.Admissions.{guarded, admitted_by}
use Rattle.rp_flush.specs.declared.assigns.Assigned.{Assigned}
use Rattle.rp_pending.specs.declared.refreshes.Refresh.{Refresh}
use Rattle.rp_events.specs.Flushes.{assigning, emptied, flush_moves}
use Rattle.rp_events.specs.LeaseAsks.{joined, joined_all, is_held, answers_ask, ask_for, expiry_of, lease_ticks}
use Rattle.rp_events.specs.declared.answers.EventAnswer.TheVariants as answers
use Rattle.rp_request.specs.declared.outcomes.Refusal.TheVariants.{NotLeaseHolder}
use Rattle.rp_events.specs.Refreshes.{with_taken, refreshing, refreshed_by, refresh_moves}
use Rattle.rp_events.specs.Applications.{is_own, settled, proposer_told, decoded, payload_of, next_entry, applied_where}
use Rattle.rp_events.specs.ReplicaEvents.{event}
use Rattle.rp_events.specs.Nodes.{Live}
use Rattle.rp_seats.specs.Views.{core, core_of, read, payload_or, range_at}
use Rattle.rp_seats.specs.Scenes.{site_after, applying, IsTurn}

-- two sites are one by their parts
pub same_site : (s s' : raft.Status AppliedState) (l l' : List (ℕ × Message AppliedState)) → s ≡ s' → l ≡ l'
    → ◌≡◌ {A = raft.Site AppliedState} (record { status = s; sent = l }) (record { status = s'; sent = l' })
same_site s s' l l' e f = cc

-- what moves leave: what is applied, and the barrier
abbrev pub stood : Replica → History × ℕ
stood r = (r.applied, r.barrier)

move_keeps : (ticks round : ℕ) (t : Told) (m : Move) → stood (moved ticks round t m).replica ≡ stood t.replica
move_keeps ticks round t (HandsOut id max) = go (proposal_of id t.replica.pending) where
  go : (o : Option Proposal) → stood (option_map_or (hands_out ticks round t id max) o t).replica ≡ stood t.replica
  go None = refl
  go (Some p) = cond_both (is_proposed p.stage) t (then_is t (proposed_under t.replica ticks round id max)) (λ z. stood z.replica ≡ stood t.replica) (λ _. refl) (λ _. refl)
move_keeps ticks round t (GivesUp id) = go (proposal_of id t.replica.pending) where
  go : (o : Option Proposal) → stood (option_map_or (gives_up t id) o t).replica ≡ stood t.replica
  go None = refl
  go (Some p) = cond_both (is_proposed p.stage) t _ (λ (z : Told). stood z.replica ≡ stood t.replica) (λ _. refl) (λ _. refl)
move_keeps ticks round t (TakesBack id) = go (proposal_of id t.replica.pending) where
  go : (o : Option Proposal) → stood (option_map_or (takes_back t id) o t).replica ≡ stood t.replica
  go None = refl
  go (Some p) = cond_both (goes_back t.replica.applied.state.lai p) (then_is t (waits_again t.replica id)) t (λ z. stood z.replica ≡ stood t.replica) (λ _. refl) (λ _. refl)
move_keeps ticks round t (Repeats id) = go (proposal_of id t.replica.pending) where
  go : (o : Option Proposal) → stood (option_map_or (repeats ticks round t id) o t).replica ≡ stood t.replica
  go None = refl
  go (Some p) = cond_both (is_proposed p.stage) (then_is t (proposed_under t.replica ticks round id p.max)) t (λ z. stood z.replica ≡ stood t.replica) (λ _. refl) (λ _. refl)

pub move_kept : (ticks round : ℕ) (t : Told) (m : Move) → (moved ticks round t m).replica.applied ≡ t.replica.applied
move_kept ticks round t m = ap (λ z. z.0) (move_keeps ticks round t m)

pub moves_keep : (ticks round : ℕ) (t : Told) (ms : List Move) → stood (moved_all ticks round t ms).replica ≡ stood t.replica
moves_keep ticks round t [] = refl
moves_keep ticks round t (m ∷ ms) = moves_keep ticks round (moved ticks round t m) ms ∙ move_keeps ticks round t m

pub moves_kept : (ticks round : ℕ) (t : Told) (ms : List Move) → (moved_all ticks round t ms).replica.applied ≡ t.replica.applied
moves_kept ticks round t ms = ap (λ z. z.0) (moves_keep ticks round t ms)

-- what Raft's replica shows once a draft is done
abbrev drafted : (r : Replica) → Draft AppliedState → List (List ℕ) → raft.Site AppliedState → raft.Site AppliedState
drafted r draft bytes site = raft.after_turn site (raft.by_raft (core r) draft bytes)

-- what the nodes keep shows it
abbrev left : Done → List (ℕ × Message AppliedState) → raft.Site AppliedState
left d sent = record { status = core_of (Live d.replica); sent = sent ++ d.messages }

over : (r : Replica) (draft : Draft AppliedState) (t : Told) (bytes : List (List ℕ)) (site : raft.Site AppliedState)
    → t.replica.applied.index ≡ option_map_or (λ taken. taken.0) draft.taken r.applied.index
    → t.replica.applied.state ≡ option_map_or (λ taken. taken.1) draft.taken r.applied.state
    → drafted r draft bytes site ≡ left (hands_over r draft t bytes) site.sent
over r draft t bytes site index state =
    same_site _ _ _ _ (ap (λ z. raft.Live z) (same_replica _ _ _ _ _ (sym index) (sym state))) refl
  where
    same_replica : (st : RaftState) (i i' : ℕ) (s s' : AppliedState) → i ≡ i' → s ≡ s'
        → ◌≡◌ {A = raft.Replica AppliedState} (record { raft = st; applied = i; state = s }) (record { raft = st; applied = i'; state = s' })
    same_replica st i i' s s' e f = cc

-- where Raft took nothing in and nothing was applied
over_same : (r : Replica) (draft : Draft AppliedState) (t : Told) (bytes : List (List ℕ)) (site : raft.Site AppliedState)
    → draft.taken ≡ None → t.replica.applied ≡ r.applied → drafted r draft bytes site ≡ left (hands_over r draft t bytes) site.sent
over_same r draft t bytes site none kept =
    over r draft t bytes site
    (ap (λ z. z.index) kept ∙ sym (ap (λ z. option_map_or (λ taken. taken.0) z r.applied.index) none))
    (ap (λ z. z.state) kept ∙ sym (ap (λ z. option_map_or (λ taken. taken.1) z r.applied.state) none))

-- a tick takes nothing in
tick_none : (st : RaftState) → (tick {S = AppliedState} st).taken ≡ None
tick_none st = none (tick st).taken (λ index s e. step_takes_above_holds AppliedState 0 first_applied st raft_events.Tick index s e) where
  none : (o : Option (ℕ × AppliedState)) → ((index : ℕ) (s : AppliedState) → o ≡ Some (index, s) → ⊥) → o ≡ None
  none None never = refl
  none (Some x) never = absurd (never x.0 x.1 refl)

-- what a snapshot that was taken in leaves applied
taken_index : (r : Replica) (taken : Option (ℕ × AppliedState)) → (with_taken r taken).replica.applied.index ≡ option_map_or (λ t. t.0) taken r.applied.index
taken_index r None = refl
taken_index r (Some t) = refl

taken_state : (r : Replica) (taken : Option (ℕ × AppliedState)) → (with_taken r taken).replica.applied.state ≡ option_map_or (λ t. t.1) taken r.applied.state
taken_state r None = refl
taken_state r (Some t) = refl

-- items that join the inbox
item_core : (r : Replica) (item : Item) → core (joined r item) ≡ core r
item_core r (items.Write id) = refl
item_core r (items.Lease ask) = cond_both _ _ r (λ (z : Replica). core z ≡ core r) (λ _. refl) (λ _. refl)

items_core : (r : Replica) (taken : List Item) → core (joined_all r taken) ≡ core r
items_core r [] = refl
items_core r (item ∷ more) = items_core (joined r item) more ∙ item_core r item

-- the proposer's part of an application
abbrev pub cored : Replica → raft.Replica AppliedState × ℕ
cored r = (core r, r.barrier)

settled_keeps : (r : Replica) (c : Command) (v : Verdict) → cored (settled r c v).replica ≡ cored r
settled_keeps r c verdicts.Took = refl
settled_keeps r c (verdicts.OldLease now) = refl
settled_keeps r c (verdicts.OldIndex lai) = refl
settled_keeps r c verdicts.LeaseMoved = refl
settled_keeps r c verdicts.Nothing = refl

pub proposer_keeps : (r : Replica) (p : Payload) → cored (proposer_told r p).replica ≡ cored r
proposer_keeps r payloads.Nothing = refl
proposer_keeps r (payloads.Write c) =
    cond_both (is_own r c) (settled r c (command_verdict r.applied.state c)) (untold r) (λ z. cored z.replica ≡ cored r)
    (λ _. settled_keeps r c (command_verdict r.applied.state c)) (λ _. refl)
proposer_keeps r (payloads.Lease ask) = refl

proposer_core : (r : Replica) (p : Payload) → core (proposer_told r p).replica ≡ core r
proposer_core r p = ap (λ z. z.0) (proposer_keeps r p)

-- the entry that is applied
pub read_is : (p : Payload) (x : Result Payload BadField) → decoded x ≡ Some p → payload_or x ≡ p
read_is p (Ok q) e = cc
read_is p (Err bad) e = absurd cc

abbrev with_next : raft.Replica AppliedState → Payload → raft.Replica AppliedState
with_next c p = record { raft = c.raft; applied = c.applied + 1; state = after c.state p }

applies : (g : raft.Range AppliedState) → ((s : AppliedState) (e : Entry) → g.act s e ≡ after s (read e.payload)) → (c : raft.Replica AppliedState) (p : Payload) (b : Bool) (o : Option Entry)
    → payload_of (cond b o None) ≡ Some p
    → cond b (option_map_or (raft.applied_one g c) o (raft.stays (raft.Live c))) (raft.stays (raft.Live c)) ≡ raft.stays (raft.Live (with_next c p))
applies g act c p true (Some e) is =
    ap (λ z. raft.stays (raft.Live (record { raft = c.raft; applied = c.applied + 1; state = z })))
    (act c.state e ∙ ap (after c.state) (read_is p (payload_in e.payload) is))
applies g act c p true None is = absurd cc
applies g act c p false o is = absurd cc

-- nothing is to Raft what leaves the core and sends nothing
unseen : (nodes range : ℕ) (start : AppliedState) (node : ℕ) (c c' : raft.Replica AppliedState) (sent : List (ℕ × Message AppliedState)) → c' ≡ c
    → ◌≡◌ {A = raft.Site AppliedState} (record { status = raft.Live c; sent = sent }) (record { status = raft.Live c'; sent = sent ++ [] })
unseen nodes range start node c c' sent e = same_site _ _ _ _ (ap (λ z. raft.Live z) (sym e)) (sym (append-nil sent))

module _ (nodes range : ℕ) (start : AppliedState) (node number : ℕ) (r : Replica) (ticks round : ℕ) (sent : List (ℕ × Message AppliedState)) where
  abbrev here : raft.Site AppliedState
  here = record { status = raft.Live (core r); sent = sent }

  abbrev Turn : ReplicaEvent AppliedState → Done → Type 0
  Turn e d = IsTurn nodes range start node number r sent e d

  admit_turn : (id : CmdId) (request : Request) (taken : List Item) → Turn (Admit id request) (event r (Admit id request) ticks round taken)
  admit_turn id request taken = go (guarded r request) where
    go : (g : Result Evaluated Refusal) → Turn (Admit id request) (admitted_by r id request g)
    go (Ok e) = unseen nodes range start node (core r) (core r) sent refl
    go (Err why) = unseen nodes range start node (core r) (core r) sent refl

  apply_turn : (taken : List Item) → Turn Apply (event r Apply ticks round taken)
  apply_turn taken = go (payload_of (next_entry r)) refl where
    go : (o : Option Payload) → payload_of (next_entry r) ≡ o
        → site_after nodes range start node (applying o) here
        ≡ record { status = core_of (Live (applied_where r o).replica); sent = sent ++ (applied_where r o).messages }
    go None e = unseen nodes range start node (core r) (core r) sent refl
    go (Some p) e =
        ap (raft.after_turn here) (applies (range_at nodes range start) (λ s x. refl) (core r) p (ltb r.applied.index r.raft.head.commit) (entry_at r.raft.log (r.applied.index + 1)) e)
        ∙ same_site _ _ _ _ (ap (λ c. raft.Live (with_next c p)) (sym (proposer_core r p))) refl

  deliver_turn : (from : ℕ) (message : Message AppliedState) (taken : List Item) → Turn (Deliver from message) (event r (Deliver from message) ticks round taken)
  deliver_turn from message taken =
      let draft : Draft AppliedState = received r.raft from message in
      let t : Told = with_taken r draft.taken in
      cond_both (has_new_leader r.raft.head draft.state.head)
      (refreshed_by r draft ticks round t (refreshing t.replica ticks true)) (hands_to_raft r draft t [] [])
      (λ z. Turn (Deliver from message) z)
      (λ _. let kept = moves_kept ticks round t (refresh_moves (refreshing t.replica ticks true)) in
      over r draft (moved_all ticks round t (refresh_moves (refreshing t.replica ticks true))) _ here
      (ap (λ (h : History). h.index) kept ∙ taken_index r draft.taken) (ap (λ (h : History). h.state) kept ∙ taken_state r draft.taken))
      (λ _. over r draft t [] here (taken_index r draft.taken) (taken_state r draft.taken))

  -- an event of a replica is its turn
  pub replica_turn : (e : ReplicaEvent AppliedState) (taken : List Item) → Turn e (event r e ticks round taken)
  replica_turn (Admit id request) taken = admit_turn id request taken
  replica_turn Ask taken = cond_both (is_held r ticks) (leaves r (answers.LeaseHeld (lease_of r) ticks)) (answers_ask r (ask_for r r.raft.head.node (expiry_of r ticks))) (λ (z : Done). Turn Ask z) (λ _. unseen nodes range start node (core r) (core r) sent refl) (λ _. unseen nodes range start node (core r) (core r) sent refl)
  replica_turn (Transfer to) taken = cond_both (holds_lease r) (answers_ask r (ask_for r to (ticks + lease_ticks))) (leaves r (answers.Refused (NotLeaseHolder (lease_of r)))) (λ (z : Done). Turn (Transfer to) z) (λ _. unseen nodes range start node (core r) (core r) sent refl) (λ _. unseen nodes range start node (core r) (core r) sent refl)
  replica_turn Collect taken = unseen nodes range start node (core r) (core (joined_all r taken)) sent (items_core r taken)
  replica_turn Flush taken =
      let a : Assigned = assigning r in
      over_same r (quiet r.raft) (moved_all ticks round (untold (emptied r a)) (flush_moves a)) (event r Flush ticks round taken).proposed here refl
      (moves_kept ticks round (untold (emptied r a)) (flush_moves a))
  replica_turn Tick taken =
      let f : Refresh = refreshing r ticks (has_new_leader r.raft.head (tick {S = AppliedState} r.raft).state.head) in
      over_same r (tick r.raft) (moved_all ticks round (untold r) (refresh_moves f)) (event r Tick ticks round taken).proposed here (tick_none r.raft)
      (moves_kept ticks round (untold r) (refresh_moves f))
  replica_turn (Deliver from message) taken = deliver_turn from message taken
  replica_turn Apply taken = apply_turn taken
  replica_turn Cut taken = refl
  replica_turn Remove taken = refl
  replica_turn (Peek key) taken = unseen nodes range start node (core r) (core r) sent refl
  replica_turn Restart taken = refl
