-- The lease asks that a node's replicas hold are for nodes of its world.
use Rattle.std.proofs.Common.{◌≡◌, ℕ, ◌+◌, ◌<◌, ◌≤◌, ⊎_elim, Bool, true, false, Option, None, Some, Result, Ok, Err, List, [], ◌∷◌, ◌++◌, length, refl, sym, subst, arith, eqb-true}
use Rattle.std.specs.Prelude.{◌&&◌, ◌==◌, ◌||◌}
use Rattle.std.specs.List.{AllByRecursion, list_any}
use Rattle.std.specs.Option.{option_map_or}
use Rattle.std.proofs.lemmas.Bool.{cond_both, cases_eq, cases_lt}
use Rattle.std.proofs.lemmas.List.{length-set, get_or_past}
use Rattle.rp_base.proofs.Elements.{all_append}
use Rattle.rp_base.specs.declared.ids.CmdId.{CmdId}
use Rattle.rp_base.specs.declared.items.Item.{Item}
use Rattle.rp_base.specs.declared.items.Item.TheVariants as items
use Rattle.rp_base.specs.declared.leases.LeaseAsk.{LeaseAsk}
use Rattle.rp_raftstep.specs.declared.messages.Message.{Message}
use Rattle.rp_raftstep.specs.declared.messages.Message.TheVariants as messages
use Rattle.rp_raftstep.specs.Step.{Draft, tick, received}
use Rattle.rp_request.specs.Applied.{AppliedState, command_verdict}
use Rattle.rp_request.specs.declared.commands.Command.{Command}
use Rattle.rp_request.specs.declared.commands.Payload.{Payload}
use Rattle.rp_request.specs.declared.commands.Payload.TheVariants as payloads
use Rattle.rp_request.specs.declared.evaluations.Evaluated.{Evaluated}
use Rattle.rp_request.specs.declared.outcomes.Refusal.{Refusal}
use Rattle.rp_request.specs.declared.outcomes.Refusal.TheVariants.{NotLeaseHolder}
use Rattle.rp_request.specs.declared.requests.Request.{Request}
use Rattle.rp_request.specs.declared.verdicts.Verdict.{Verdict}
use Rattle.rp_request.specs.declared.verdicts.Verdict.TheVariants as verdicts
use Rattle.rp_pending.specs.declared.proposals.Proposal.{Proposal}
use Rattle.rp_pending.specs.declared.refreshes.Refresh.{Refresh}
use Rattle.rp_pending.specs.Proposals.{proposal_of, is_proposed}
use Rattle.rp_pending.specs.Refreshes.{goes_back}
use Rattle.rp_events.specs.declared.answers.EventAnswer.TheVariants as answers
use Rattle.rp_events.specs.declared.node_events.Event.{Event}
use Rattle.rp_events.specs.declared.node_events.Event.TheVariants as events
use Rattle.rp_events.specs.declared.replica_events.ReplicaEvent.{ReplicaEvent}
use Rattle.rp_events.specs.declared.replica_events.ReplicaEvent.TheVariants.{Admit, Ask, Transfer, Collect, Flush, Tick, Deliver, Apply, Cut, Remove, Peek, Restart}
use Rattle.rp_events.specs.Admissions.{guarded, admitted_by}
use Rattle.rp_events.specs.Applications.{is_own, settled, proposer_told, payload_of, next_entry, applied_where}
use Rattle.rp_events.specs.Flushes.{assigning, emptied, flush_moves}
use Rattle.rp_events.specs.LeaseAsks.{is_held, answers_ask, ask_for, expiry_of, lease_ticks, same_ask, without_first, joined, joined_all}
use Rattle.rp_events.specs.declared.moves.Move.{Move}
use Rattle.rp_events.specs.declared.moves.Move.TheVariants.{HandsOut, GivesUp, TakesBack, Repeats}
use Rattle.rp_events.specs.Moves.{hands_out, gives_up, takes_back, repeats, moved, moved_all, then_is, proposed_under, waits_again, hands_to_raft}
use Rattle.rp_events.specs.Refreshes.{refreshing, refreshed_by, refresh_moves, with_taken}
use Rattle.rp_events.specs.Replicas.{Replica, Done, Told, untold, leaves, lease_of, holds_lease, has_new_leader, started}
use Rattle.rp_events.specs.ReplicaEvents.{event}
use Rattle.rp_events.specs.Nodes as nodes
use Rattle.rp_events.specs.Nodes.{Node, Status, Absent, Live, seat, with_seat, opened, opened_by, after_turn, range_numbers, right_base, right_base_term}
use Rattle.rp_events.specs.NodeEvents.{status_after, after_replica, by_status, live_turn, all_turns, delivered, seat_by_message, acted, with_request}
use Rattle.rp_turns.proofs.Seatings as seatings
use Rattle.rp_turns.proofs.Seatings.{MayTurn, acted_keeps}

-- it is the number of one of so many nodes
abbrev pub IsOneOf : ℕ → ℕ → Type 0
IsOneOf many node = (1 ≤ node) × (node ≤ many)

-- a lease ask is for one of so many nodes
abbrev pub IsHome : ℕ → LeaseAsk → Type 0
IsHome many ask = IsOneOf many ask.holder

abbrev pub IsHomeItem : ℕ → Item → Type 0
IsHomeItem many (items.Write id) = Unit {0}
IsHomeItem many (items.Lease ask) = IsHome many ask

pub record KeepsHome (many : ℕ) (r : Replica) : Type 0 where
  pub inbox : AllByRecursion (IsHomeItem many) r.inbox
  pub asks : AllByRecursion (IsHome many) r.asks

abbrev pub HomeStatus : ℕ → Status → Type 0
HomeStatus many Absent = Unit {0}
HomeStatus many (Live r) = KeepsHome many r
HomeStatus many (nodes.Removed applied) = Unit {0}

-- what an event asks of who makes it: an ask is for the node itself, a transfer for a node that is there
abbrev pub MayKeep : ℕ → Replica → ReplicaEvent AppliedState → Type 0
MayKeep many = MayTurn (λ r id request. Unit {0}) (λ r. IsOneOf many r.raft.head.node) (IsOneOf many)

abbrev pub MaySeat : ℕ → ReplicaEvent AppliedState → Status → Type 0
MaySeat many = seatings.MaySeat (λ r id request. Unit {0}) (λ r. IsOneOf many r.raft.head.node) (IsOneOf many)

abbrev pub MayAct : ℕ → Node → Event AppliedState → Type 0
MayAct many = seatings.MayAct (λ r id request. Unit {0}) (λ r. IsOneOf many r.raft.head.node) (IsOneOf many)

-- an admission asks nothing
pub may_admit : (many : ℕ) (id : CmdId) (request : Request) (status : Status) → MaySeat many (Admit id request) status
may_admit many id request Absent = tt
may_admit many id request (Live r) = tt
may_admit many id request (nodes.Removed applied) = tt

-- the seats of a node
abbrev pub AllHome : ℕ → Node → Type 0
AllHome many n = (range : ℕ) → HomeStatus many (seat n range)

ask_same : (x ask : LeaseAsk) → same_ask x ask ≡ true → x.holder ≡ ask.holder
ask_same x ask e = eqb-true x.holder ask.holder (first (x.holder == ask.holder) _ _ e) where
  first : (s t u : Bool) → s && t && u ≡ true → s ≡ true
  first true t u k = refl
  first false t u k = cc

module _ (many : ℕ) where
  -- moves add commands to the inbox alone
  abbrev HasInbox : Replica → Told → Type 0
  HasInbox r t = AllByRecursion (IsHomeItem many) t.replica.inbox × (t.replica.asks ≡ r.asks)

  waits_inbox : (r : Replica) (q : Replica) (id : CmdId) → AllByRecursion (IsHomeItem many) q.inbox → AllByRecursion (IsHomeItem many) (waits_again q id).inbox
  waits_inbox r q id h = all_append (IsHomeItem many) q.inbox (items.Write id ∷ []) h (tt, tt)

  move_inbox : (r : Replica) (ticks round : ℕ) (t : Told) (m : Move) → HasInbox r t → HasInbox r (moved ticks round t m)
  move_inbox r ticks round t (HandsOut id max) h = go (proposal_of id t.replica.pending) where
    go : (o : Option Proposal) → HasInbox r (option_map_or (hands_out ticks round t id max) o t)
    go None = h
    go (Some p) = cond_both (is_proposed p.stage) t (then_is t (proposed_under t.replica ticks round id max)) (HasInbox r) (λ _. h) (λ _. h)
  move_inbox r ticks round t (GivesUp id) h = go (proposal_of id t.replica.pending) where
    go : (o : Option Proposal) → HasInbox r (option_map_or (gives_up t id) o t)
    go None = h
    go (Some p) = cond_both (is_proposed p.stage) t _ (HasInbox r) (λ _. h) (λ _. h)
  move_inbox r ticks round t (TakesBack id) h = go (proposal_of id t.replica.pending) where
    go : (o : Option Proposal) → HasInbox r (option_map_or (takes_back t id) o t)
    go None = h
    go (Some p) = cond_both (goes_back t.replica.applied.state.lai p) (then_is t (waits_again t.replica id)) t (HasInbox r) (λ _. (waits_inbox r t.replica id h.0, h.1)) (λ _. h)
  move_inbox r ticks round t (Repeats id) h = go (proposal_of id t.replica.pending) where
    go : (o : Option Proposal) → HasInbox r (option_map_or (repeats ticks round t id) o t)
    go None = h
    go (Some p) = cond_both (is_proposed p.stage) (then_is t (proposed_under t.replica ticks round id p.max)) t (HasInbox r) (λ _. h) (λ _. h)

  moves_inbox : (r : Replica) (ticks round : ℕ) (t : Told) (ms : List Move) → HasInbox r t → HasInbox r (moved_all ticks round t ms)
  moves_inbox r ticks round t [] h = h
  moves_inbox r ticks round t (m ∷ ms) h = moves_inbox r ticks round (moved ticks round t m) ms (move_inbox r ticks round t m h)

  -- a lease ask that joins was answered here
  answered : (asks : List LeaseAsk) (ask : LeaseAsk) → AllByRecursion (IsHome many) asks → list_any (λ x. same_ask x ask) asks ≡ true → IsHome many ask
  answered [] ask h e = absurd cc
  answered (x ∷ asks) ask h e = go (answered asks ask h.1) (same_ask x ask) refl e where
    go : (list_any (λ y. same_ask y ask) asks ≡ true → IsHome many ask) → (t : Bool) → same_ask x ask ≡ t → (t || list_any (λ y. same_ask y ask) asks) ≡ true → IsHome many ask
    go ih true is k = (subst (λ z. 1 ≤ z) (ask_same x ask is) h.0.0, subst (λ z. z ≤ many) (ask_same x ask is) h.0.1)
    go ih false is k = ih k

  asks_left : (ask : LeaseAsk) (asks : List LeaseAsk) → AllByRecursion (IsHome many) asks → AllByRecursion (IsHome many) (without_first ask asks)
  asks_left ask [] h = tt
  asks_left ask (x ∷ asks) h = cond_both (same_ask x ask) asks (x ∷ without_first ask asks) (AllByRecursion (IsHome many)) (λ _. h.1) (λ _. (h.0, asks_left ask asks h.1))

  item_home : (r : Replica) (item : Item) → KeepsHome many r → KeepsHome many (joined r item)
  item_home r (items.Write id) h = record { inbox = all_append (IsHomeItem many) r.inbox (items.Write id ∷ []) h.inbox (tt, tt); asks = h.asks }
  item_home r (items.Lease ask) h =
      cond_both (list_any (λ x. same_ask x ask) r.asks) (record r { inbox = r.inbox ++ items.Lease ask ∷ []; asks = without_first ask r.asks }) r (KeepsHome many)
      (λ is. record { inbox = all_append (IsHomeItem many) r.inbox (items.Lease ask ∷ []) h.inbox (answered r.asks ask h.asks is, tt); asks = asks_left ask r.asks h.asks })
      (λ _. h)

  items_home : (r : Replica) (taken : List Item) → KeepsHome many r → KeepsHome many (joined_all r taken)
  items_home r [] h = h
  items_home r (item ∷ more) h = items_home (joined r item) more (item_home r item h)

  settled_home : (r : Replica) (c : Command) (v : Verdict) → KeepsHome many r → KeepsHome many (settled r c v).replica
  settled_home r c verdicts.Took h = record { inbox = h.inbox; asks = h.asks }
  settled_home r c (verdicts.OldLease now) h = record { inbox = h.inbox; asks = h.asks }
  settled_home r c (verdicts.OldIndex lai) h = record { inbox = waits_inbox r r c.id h.inbox; asks = h.asks }
  settled_home r c verdicts.LeaseMoved h = h
  settled_home r c verdicts.Nothing h = h

  proposer_home : (r : Replica) (p : Payload) → KeepsHome many r → KeepsHome many (proposer_told r p).replica
  proposer_home r payloads.Nothing h = h
  proposer_home r (payloads.Write c) h = cond_both (is_own r c) (settled r c (command_verdict r.applied.state c)) (untold r) (λ z. (KeepsHome many) z.replica) (λ _. settled_home r c (command_verdict r.applied.state c) h) (λ _. h)
  proposer_home r (payloads.Lease ask) h = h

  -- an event of a replica
  pub event_home : (r : Replica) (e : ReplicaEvent AppliedState) → MayKeep many r e → (ticks round : ℕ) (taken : List Item) → KeepsHome many r → HomeStatus many (status_after e (event r e ticks round taken).replica)
  event_home r (Admit id request) may ticks round taken h = go (guarded r request) where
    go : (g : Result Evaluated Refusal) → KeepsHome many (admitted_by r id request g).replica
    go (Err why) = h
    go (Ok v) = record { inbox = h.inbox; asks = h.asks }
  event_home r Ask may ticks round taken h =
      cond_both (is_held r ticks) (leaves r (answers.LeaseHeld (lease_of r) ticks)) (answers_ask r (ask_for r r.raft.head.node (expiry_of r ticks))) (λ (d : Done). (KeepsHome many) d.replica)
      (λ _. h) (λ _. record { inbox = h.inbox; asks = all_append (IsHome many) r.asks _ h.asks ((may.0, may.1), tt) })
  event_home r (Transfer to) may ticks round taken h =
      cond_both (holds_lease r) (answers_ask r (ask_for r to (ticks + lease_ticks))) (leaves r (answers.Refused (NotLeaseHolder (lease_of r)))) (λ (d : Done). (KeepsHome many) d.replica)
      (λ _. record { inbox = h.inbox; asks = all_append (IsHome many) r.asks _ h.asks ((may.0, may.1), tt) }) (λ _. h)
  event_home r Collect may ticks round taken h = items_home r taken h
  event_home r Flush may ticks round taken h =
      let m = moves_inbox r ticks round (untold (emptied r (assigning r))) (flush_moves (assigning r)) (tt, refl) in
      record { inbox = m.0; asks = subst (AllByRecursion (IsHome many)) (sym m.1) h.asks }
  event_home r Tick may ticks round taken h =
      let f : Refresh = refreshing r ticks (has_new_leader r.raft.head (tick {S = AppliedState} r.raft).state.head) in
      let m = moves_inbox r ticks round (untold r) (refresh_moves f) (h.inbox, refl) in
      record { inbox = m.0; asks = subst (AllByRecursion (IsHome many)) (sym m.1) h.asks }
  event_home r (Deliver from msg) may ticks round taken h =
      record { inbox = both.0; asks = subst (AllByRecursion (IsHome many)) (sym both.1) h.asks }
    where
      draft : Draft AppliedState
      draft = received r.raft from msg

      of_taken : (o : Option (ℕ × AppliedState)) → HasInbox r (with_taken r o)
      of_taken None = (h.inbox, refl)
      of_taken (Some t) = (h.inbox, refl)

      both : AllByRecursion (IsHomeItem many) (event r (Deliver from msg) ticks round taken).replica.inbox × ((event r (Deliver from msg) ticks round taken).replica.asks ≡ r.asks)
      both =
          let t : Told = with_taken r draft.taken in
          let f : Refresh = refreshing t.replica ticks true in
          cond_both (has_new_leader r.raft.head draft.state.head) (refreshed_by r draft ticks round t f) (hands_to_raft r draft t [] [])
          (λ (d : Done). AllByRecursion (IsHomeItem many) d.replica.inbox × (d.replica.asks ≡ r.asks))
          (λ _. moves_inbox r ticks round t (refresh_moves f) (of_taken draft.taken)) (λ _. of_taken draft.taken)
  event_home r Apply may ticks round taken h = go (payload_of (next_entry r)) where
    go : (o : Option Payload) → KeepsHome many (applied_where r o).replica
    go None = h
    go (Some p) = let k = proposer_home r p h in record { inbox = k.inbox; asks = k.asks }
  event_home r Cut may ticks round taken h = record { inbox = h.inbox; asks = h.asks }
  event_home r Remove may ticks round taken h = tt
  event_home r (Peek key) may ticks round taken h = h
  event_home r Restart may ticks round taken h = record { inbox = tt; asks = tt }

  made_home : (n : Node) (from : ℕ) (m : Message AppliedState) → HomeStatus many (seat_by_message n from m)
  made_home n from (messages.Vote term i t) = tt
  made_home n from (messages.VoteReply term granted) = tt
  made_home n from (messages.Append term prev pt es commit) = tt
  made_home n from (messages.AppendReply term ok i) = tt
  made_home n from (messages.Forward payload) = tt
  made_home n from (messages.Snap term i it snapshot) = record { inbox = tt; asks = tt }

  pub acted_home : (n : Node) (ev : Event AppliedState) (taken : List Item) → MayAct many n ev → AllHome many n → AllHome many (acted n ev taken).node
  acted_home =
      acted_keeps (λ r id request. Unit {0}) (λ r. IsOneOf many r.raft.head.node) (IsOneOf many)
      (HomeStatus many) tt (λ n t. record { inbox = tt; asks = tt }) made_home event_home
