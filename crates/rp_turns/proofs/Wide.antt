-- An event of a node keeps the widths of what its replicas hold.
use Rattle.std.proofs.Common.{◌≡◌, ℕ, ◌+◌, Option, None, Some, Result, Ok, Err, List, [], ◌∷◌, ◌++◌, refl, sym, subst, ◌∙◌}
use Rattle.std.specs.List.{AllByRecursion, list_any}
use Rattle.std.proofs.lemmas.Bool.{cond_both}
use Rattle.rp_base.proofs.Elements.{all_append}
use Rattle.rp_base.specs.declared.ids.CmdId.{CmdId}
use Rattle.rp_base.specs.declared.items.Item.{Item}
use Rattle.rp_base.specs.declared.items.Item.TheVariants as items
use Rattle.rp_raftstep.specs.declared.messages.Message.{Message}
use Rattle.rp_raftstep.specs.declared.messages.Message.TheVariants as messages
use Rattle.rp_request.specs.Applied.{AppliedState, command_verdict}
use Rattle.rp_request.specs.Fits.{FitsId, FitsRequest}
use Rattle.rp_request.specs.declared.commands.Command.{Command}
use Rattle.rp_request.specs.declared.commands.Payload.{Payload}
use Rattle.rp_request.specs.declared.commands.Payload.TheVariants as payloads
use Rattle.rp_request.specs.Evaluations.{evaluated}
use Rattle.rp_request.specs.declared.evaluations.Evaluated.{Evaluated}
use Rattle.rp_request.specs.declared.outcomes.Refusal.{Refusal}
use Rattle.rp_request.specs.declared.outcomes.Refusal.TheVariants.{NotLeaseHolder}
use Rattle.rp_request.specs.declared.requests.Request.{Request}
use Rattle.rp_request.specs.declared.verdicts.Verdict.{Verdict}
use Rattle.rp_request.specs.declared.verdicts.Verdict.TheVariants as verdicts
use Rattle.rp_pending.specs.declared.proposals.Proposal.{Proposal}
use Rattle.rp_pending.specs.Proposals.{proposal_of, is_proposed, proposed, waiting_again}
use Rattle.rp_events.specs.declared.answers.EventAnswer.TheVariants as answers
use Rattle.rp_events.specs.declared.node_events.Event.{Event}
use Rattle.rp_events.specs.declared.replica_events.ReplicaEvent.{ReplicaEvent}
use Rattle.rp_events.specs.declared.replica_events.ReplicaEvent.TheVariants.{Admit, Ask, Transfer, Collect, Flush, Tick, Deliver, Apply, Cut, Remove, Peek, Restart}
use Rattle.rp_events.specs.Admissions.{guarded, admitted_by}
use Rattle.rp_events.specs.Applications.{is_own, settled, proposer_told, payload_of, next_entry, applied_where}
use Rattle.rp_events.specs.LeaseAsks.{is_held, answers_ask, ask_for, expiry_of, lease_ticks, same_ask, without_first, joined, joined_all}
use Rattle.rp_events.specs.Replicas.{Replica, Done, untold, leaves, lease_of, holds_lease}
use Rattle.rp_events.specs.ReplicaEvents.{event}
use Rattle.rp_events.specs.Nodes.{Node, Status, seat}
use Rattle.rp_events.specs.NodeEvents.{status_after, seat_by_message, acted}
use Rattle.rp_seats.proofs.Admits.{passed}
use Rattle.rp_turns.specs.Keeping.{IsWideOne, IsForNode, IsWideItem, IsWide, IsWideStatus}
use Rattle.rp_turns.proofs.Admissions.{has_keys}
use Rattle.rp_turns.proofs.Homes.{IsOneOf, KeepsHome, event_home}
use Rattle.rp_turns.proofs.Seatings as seatings
use Rattle.rp_turns.proofs.Seatings.{MayTurn, acted_keeps}
use Rattle.rp_turns.proofs.Rows.{FitsTable, fits_evaluated}
use Rattle.rp_turns.proofs.Widths.{each_left, each_changed, flushed_fits, ticked_fits, delivered_fits}

-- what an event asks of who makes it
abbrev pub Admits : Replica → CmdId → Request → Type 0
Admits r id request = FitsId id × FitsRequest request × FitsTable r.applied.state.table

abbrev pub MayKeep : Replica → ReplicaEvent AppliedState → Type 0
MayKeep = MayTurn Admits (λ r. IsOneOf 5 r.raft.head.node) (IsOneOf 5)

abbrev pub MaySeat : ReplicaEvent AppliedState → Status → Type 0
MaySeat = seatings.MaySeat Admits (λ r. IsOneOf 5 r.raft.head.node) (IsOneOf 5)

abbrev pub MayAct : Node → Event AppliedState → Type 0
MayAct = seatings.MayAct Admits (λ r. IsOneOf 5 r.raft.head.node) (IsOneOf 5)

hands_wide : (max ticks round : ℕ) (p : Proposal) → Unit {0} → IsWideOne p → IsWideOne (proposed max ticks round p)
hands_wide max ticks round p u h = record { id = h.id; request = h.request; keys = h.keys; reply = h.reply; batch = h.batch }

again_wide : (p : Proposal) → IsWideOne p → IsWideOne (waiting_again p)
again_wide p h = record { id = h.id; request = h.request; keys = h.keys; reply = h.reply; batch = h.batch }

-- the lease asks of what is wide are for one of five nodes
home_of : (r : Replica) → IsWide r → KeepsHome 5 r
home_of r h = record { inbox = h.inbox; asks = h.asks }

joined_pending : (r : Replica) (taken : List Item) → (joined_all r taken).pending ≡ r.pending
joined_pending r [] = refl
joined_pending r (item ∷ more) = joined_pending (joined r item) more ∙ one item where
  one : (item : Item) → (joined r item).pending ≡ r.pending
  one (items.Write id) = refl
  one (items.Lease ask) = cond_both (list_any (λ x. same_ask x ask) r.asks) (record r { inbox = r.inbox ++ items.Lease ask ∷ []; asks = without_first ask r.asks }) r (λ (q : Replica). q.pending ≡ r.pending) (λ _. refl) (λ _. refl)

settled_pending : (r : Replica) (c : Command) (v : Verdict) → AllByRecursion IsWideOne r.pending → AllByRecursion IsWideOne (settled r c v).replica.pending
settled_pending r c verdicts.Took h = each_left IsWideOne c.id r.pending h
settled_pending r c (verdicts.OldLease now) h = each_left IsWideOne c.id r.pending h
settled_pending r c (verdicts.OldIndex lai) h = each_changed IsWideOne c.id waiting_again again_wide r.pending h
settled_pending r c verdicts.LeaseMoved h = h
settled_pending r c verdicts.Nothing h = h

proposer_pending : (r : Replica) (p : Payload) → AllByRecursion IsWideOne r.pending → AllByRecursion IsWideOne (proposer_told r p).replica.pending
proposer_pending r payloads.Nothing h = h
proposer_pending r (payloads.Write c) h =
    cond_both (is_own r c) (settled r c (command_verdict r.applied.state c)) (untold r) (λ z. AllByRecursion IsWideOne z.replica.pending) (λ _. settled_pending r c (command_verdict r.applied.state c) h) (λ _. h)
proposer_pending r (payloads.Lease ask) h = h

evaluation : (r : Replica) (request : Request) (v : Evaluated) → guarded r request ≡ Ok v → evaluated r.applied.state.table r.applied.state.desc request ≡ Ok v
evaluation r request v is = (passed r request v is).evaluation

-- an event of a replica
pub event_wide : (r : Replica) (e : ReplicaEvent AppliedState) → MayKeep r e → (ticks round : ℕ) (taken : List Item) → IsWide r → IsWideStatus (status_after e (event r e ticks round taken).replica)
event_wide r (Admit id request) may ticks round taken h = go (guarded r request) refl where
  go : (g : Result Evaluated Refusal) → guarded r request ≡ g → IsWide (admitted_by r id request g).replica
  go (Err why) is = h
  go (Ok v) is =
      let f = fits_evaluated r.applied.state.table r.applied.state.desc may.2 request v may.1 (evaluation r request v is) in
      record {
        pending = all_append IsWideOne r.pending _ h.pending (record { id = may.0; request = may.1; keys = has_keys request may.1; reply = f.0; batch = f.1 }, tt);
        inbox = h.inbox;
        asks = h.asks;
      }
event_wide r Ask may ticks round taken h =
    let k = event_home 5 r Ask may ticks round taken (home_of r h) in
    record {
      pending = cond_both (is_held r ticks) (leaves r (answers.LeaseHeld (lease_of r) ticks)) (answers_ask r (ask_for r r.raft.head.node (expiry_of r ticks)))
          (λ (d : Done). AllByRecursion IsWideOne d.replica.pending) (λ _. h.pending) (λ _. h.pending);
      inbox = k.inbox;
      asks = k.asks;
    }
event_wide r (Transfer to) may ticks round taken h =
    let k = event_home 5 r (Transfer to) may ticks round taken (home_of r h) in
    record {
      pending = cond_both (holds_lease r) (answers_ask r (ask_for r to (ticks + lease_ticks))) (leaves r (answers.Refused (NotLeaseHolder (lease_of r))))
          (λ (d : Done). AllByRecursion IsWideOne d.replica.pending) (λ _. h.pending) (λ _. h.pending);
      inbox = k.inbox;
      asks = k.asks;
    }
event_wide r Collect may ticks round taken h =
    let k = event_home 5 r Collect tt ticks round taken (home_of r h) in
    record { pending = subst (AllByRecursion IsWideOne) (sym (joined_pending r taken)) h.pending; inbox = k.inbox; asks = k.asks }
event_wide r Flush may ticks round taken h =
    let k = event_home 5 r Flush tt ticks round taken (home_of r h) in
    record { pending = flushed_fits IsWideOne (λ k. Unit {0}) hands_wide again_wide (λ p w. tt) r ticks round (λ k le. tt) h.pending; inbox = k.inbox; asks = k.asks }
event_wide r Tick may ticks round taken h =
    let k = event_home 5 r Tick tt ticks round taken (home_of r h) in
    record { pending = ticked_fits IsWideOne (λ k. Unit {0}) hands_wide again_wide (λ p w. tt) r ticks round h.pending; inbox = k.inbox; asks = k.asks }
event_wide r (Deliver from msg) may ticks round taken h =
    let k = event_home 5 r (Deliver from msg) tt ticks round taken (home_of r h) in
    record { pending = delivered_fits IsWideOne (λ k. Unit {0}) hands_wide again_wide (λ p w. tt) r from msg ticks round h.pending; inbox = k.inbox; asks = k.asks }
event_wide r Apply may ticks round taken h =
    let k = event_home 5 r Apply tt ticks round taken (home_of r h) in
    record { pending = go (payload_of (next_entry r)); inbox = k.inbox; asks = k.asks } where
      go : (o : Option Payload) → AllByRecursion IsWideOne (applied_where r o).replica.pending
      go None = h.pending
      go (Some p) = proposer_pending r p h.pending
event_wide r Cut may ticks round taken h = record { pending = h.pending; inbox = h.inbox; asks = h.asks }
event_wide r Remove may ticks round taken h = tt
event_wide r (Peek key) may ticks round taken h = h
event_wide r Restart may ticks round taken h = record { pending = tt; inbox = tt; asks = tt }

-- the seats of a node
abbrev pub AllWide : Node → Type 0
AllWide n = (range : ℕ) → IsWideStatus (seat n range)

made_wide : (n : Node) (from : ℕ) (m : Message AppliedState) → IsWideStatus (seat_by_message n from m)
made_wide n from (messages.Vote term i t) = tt
made_wide n from (messages.VoteReply term granted) = tt
made_wide n from (messages.Append term prev pt es commit) = tt
made_wide n from (messages.AppendReply term ok i) = tt
made_wide n from (messages.Forward payload) = tt
made_wide n from (messages.Snap term i it snapshot) = record { pending = tt; inbox = tt; asks = tt }

pub acted_wide : (n : Node) (ev : Event AppliedState) (taken : List Item) → MayAct n ev → AllWide n → AllWide (acted n ev taken).node
acted_wide =
    acted_keeps Admits (λ r. IsOneOf 5 r.raft.head.node) (IsOneOf 5)
    IsWideStatus tt (λ n t. record { pending = tt; inbox = tt; asks = tt }) made_wide event_wide
