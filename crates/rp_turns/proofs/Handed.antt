-- What an event hands to Raft spells commands and lease asks that a replica has, so what holds of each such spelling holds of it.
use Rattle.std.proofs.Common.{◌≡◌, ℕ, ◌+◌, eqb, true, Option, None, Some, Result, Ok, Err, List, [], ◌∷◌, map, refl, sym, ap, subst, arith}
use Rattle.std.specs.Prelude.{Contains, filter_map, option_and_then}
use Rattle.std.specs.List.{AllByRecursion, cons_option}
use Rattle.std.proofs.lemmas.Bool.{cond_both}
use Rattle.std.proofs.lemmas.List.Elements.{All-contains, All-from_recursion}
use Rattle.rp_base.specs.declared.ids.CmdId.{CmdId}
use Rattle.rp_base.specs.declared.items.Item.{Item}
use Rattle.rp_base.specs.declared.leases.LeaseAsk.{LeaseAsk}
use Rattle.rp_codec.specs.Spelling.{spelling}
use Rattle.rp_codec.proofs.SpellingLaws.{read_as_spelled}
use Rattle.rp_seats.specs.Views.{read, payload_or}
use Rattle.rp_raftstep.specs.declared.messages.Message.{Message}
use Rattle.rp_raftstep.specs.Step.{Draft, tick, received}
use Rattle.rp_request.specs.Applied.{AppliedState}
use Rattle.rp_request.specs.Fits.{FitsAsk, FitsPayload}
use Rattle.rp_request.specs.declared.commands.Payload.{Payload}
use Rattle.rp_request.specs.declared.commands.Payload.TheVariants as payloads
use Rattle.rp_request.specs.declared.evaluations.Evaluated.{Evaluated}
use Rattle.rp_request.specs.declared.outcomes.Refusal.{Refusal}
use Rattle.rp_pending.specs.declared.proposals.Proposal.{Proposal}
use Rattle.rp_pending.specs.declared.refreshes.Refresh.{Refresh}
use Rattle.rp_pending.specs.Proposals.{proposal_of, is_proposed}
use Rattle.rp_events.specs.declared.replica_events.ReplicaEvent.{ReplicaEvent}
use Rattle.rp_events.specs.declared.replica_events.ReplicaEvent.TheVariants.{Admit, Ask, Transfer, Collect, Flush, Tick, Deliver, Apply, Cut, Remove, Peek, Restart}
use Rattle.rp_events.specs.Admissions.{guarded, admitted_by}
use Rattle.rp_events.specs.Applications.{payload_of, next_entry, applied_where}
use Rattle.rp_events.specs.Flushes.{assigning, flushed}
use Rattle.rp_events.specs.Moves.{write_of, payloads_of, hands_to_raft}
use Rattle.rp_events.specs.Refreshes.{refreshing, refreshed_by, ticked, with_taken}
use Rattle.rp_request.specs.declared.outcomes.Refusal.TheVariants.{NotLeaseHolder}
use Rattle.rp_events.specs.declared.answers.EventAnswer.TheVariants as answers
use Rattle.rp_events.specs.LeaseAsks.{is_held, answers_ask, ask_for, expiry_of, lease_ticks}
use Rattle.rp_events.specs.Replicas.{Replica, Done, Told, leaves, lease_of, holds_lease, has_new_leader}
use Rattle.rp_events.specs.ReplicaEvents.{event}
use Rattle.rp_raftsafe.specs.Proposed as proposed
use Rattle.rp_events.specs.declared.node_events.Event.{Event}
use Rattle.rp_events.specs.declared.node_events.Event.TheVariants as events
use Rattle.rp_events.specs.declared.replica_events.ReplicaEvent.TheVariants as at_replica
use Rattle.rp_events.specs.Nodes as nodes
use Rattle.rp_events.specs.Nodes.{Node, Status, Absent, Live, seat, range_numbers}
use Rattle.rp_events.specs.Worlds.{World, node_of}
use Rattle.rp_seats.specs.Scenes.{Doing, Gets, seat_doings, all_doings, message_doings, node_doings, as_event}
use Rattle.rp_seats.specs.Standing.{AreShaped}
use Rattle.rp_seats.proofs.Nodes.{live_within}
use Rattle.rp_seats.proofs.Scenes.{handed_seen}
use Rattle.rp_turns.specs.Fitting.{FitsOne, FitEach, IsFit, AreFit}
use Rattle.rp_turns.proofs.All as all
use Rattle.rp_turns.proofs.All.{each_once}
use Rattle.rp_turns.proofs.Widths.{each_found, fits_flushed, fits_ticked, fits_delivered}
use Rattle.rp_request.specs.declared.commands.Command.{Command}

-- bytes that are read with their widths, as each spelling is
abbrev pub ReadsFit : List ℕ → Type 0
ReadsFit bytes = FitsPayload (read bytes)

pub reads_fit : (p : Payload) → FitsPayload p → ReadsFit (spelling p)
reads_fit p f = subst FitsPayload (sym (ap payload_or (read_as_spelled p f))) f

-- what holds of the spelling of each command, and of each lease ask of which this holds
module _ (P : List ℕ → Type 0) (OfAsk : LeaseAsk → Type 0)
    (of_write : (c : Command) → FitsPayload (payloads.Write c) → P (spelling (payloads.Write c)))
    (of_lease : (ask : LeaseAsk) → FitsAsk ask → OfAsk ask → P (spelling (payloads.Lease ask))) where
  ids_fit : (ps : List Proposal) → FitEach ps → (ids : List CmdId) → AllByRecursion P (map spelling (filter_map (λ id. option_and_then write_of (proposal_of id ps)) ids))
  ids_fit ps h [] = tt
  ids_fit ps h (id ∷ ids) = go (proposal_of id ps) refl (ids_fit ps h ids) where
    rest : List Payload
    rest = filter_map (λ q. option_and_then write_of (proposal_of q ps)) ids

    go : (o : Option Proposal) → proposal_of id ps ≡ o → AllByRecursion P (map spelling rest) → AllByRecursion P (map spelling (cons_option (option_and_then write_of o) rest))
    go None e ih = ih
    go (Some p) e ih = cond_both (is_proposed p.stage) (Some (payloads.Write _)) None (λ o. AllByRecursion P (map spelling (cons_option o rest)))
        (λ _. (of_write _ (each_found FitsOne ps h id p e), ih)) (λ _. ih)

  all_fit : (asks : List LeaseAsk) → AllByRecursion FitsAsk asks → AllByRecursion OfAsk asks → (ps : List Proposal) → FitEach ps → (ids : List CmdId) → AllByRecursion P (map spelling (payloads_of asks ps ids))
  all_fit [] all of ps h ids = ids_fit ps h ids
  all_fit (ask ∷ asks) all of ps h ids = (of_lease ask all.0 of.0, all_fit asks all.1 of.1 ps h ids)

  among : (bytes : List ℕ) (all : List (List ℕ)) → AllByRecursion P all → Contains all bytes → P bytes
  among bytes all h has = All-contains P all bytes (All-from_recursion P all h) has

  nothing : (bytes : List ℕ) → Contains {X = List ℕ} [] bytes → P bytes
  nothing bytes c = absurd (omega (arith, c.1))

  -- an event of a replica
  proposed_of : (r : Replica) → IsFit r → AllByRecursion OfAsk (assigning r).leases → (e : ReplicaEvent AppliedState) (ticks round : ℕ) (taken : List Item) (bytes : List ℕ) → Contains (event r e ticks round taken).proposed bytes → P bytes
  proposed_of r fit of (Admit id request) ticks round taken bytes = go (guarded r request) where
    go : (g : Result Evaluated Refusal) → Contains (admitted_by r id request g).proposed bytes → P bytes
    go (Ok v) c = nothing bytes c
    go (Err why) c = nothing bytes c
  proposed_of r fit of Ask ticks round taken bytes = cond_both (is_held r ticks) (leaves r (answers.LeaseHeld (lease_of r) ticks)) (answers_ask r (ask_for r r.raft.head.node (expiry_of r ticks))) (λ (d : Done). Contains d.proposed bytes → P bytes) (λ _ c. nothing bytes c) (λ _ c. nothing bytes c)
  proposed_of r fit of (Transfer to) ticks round taken bytes = cond_both (holds_lease r) (answers_ask r (ask_for r to (ticks + lease_ticks))) (leaves r (answers.Refused (NotLeaseHolder (lease_of r)))) (λ (d : Done). Contains d.proposed bytes → P bytes) (λ _ c. nothing bytes c) (λ _ c. nothing bytes c)
  proposed_of r fit of Collect ticks round taken bytes = λ c. nothing bytes c
  proposed_of r fit of Flush ticks round taken bytes = λ c.
      among bytes (event r Flush ticks round taken).proposed (all_fit (assigning r).leases fit.asks of (flushed r ticks round).replica.pending (fits_flushed r ticks round fit) (map (λ (write : CmdId × ℕ). write.0) (assigning r).writes)) c
  proposed_of r fit of Tick ticks round taken bytes = λ c.
      let f : Refresh = refreshing r ticks (has_new_leader r.raft.head (tick {S = AppliedState} r.raft).state.head) in
      among bytes (event r Tick ticks round taken).proposed (all_fit [] tt tt (ticked r ticks round).replica.pending (fits_ticked r ticks round fit.pending) f.again) c
  proposed_of r fit of (Deliver from m) ticks round taken bytes =
      let draft : Draft AppliedState = received r.raft from m in
      let t : Told = with_taken r draft.taken in
      let f : Refresh = refreshing t.replica ticks true in
      cond_both (has_new_leader r.raft.head draft.state.head) (refreshed_by r draft ticks round t f) (hands_to_raft r draft t [] [])
      (λ (d : Done). FitEach d.replica.pending → Contains d.proposed bytes → P bytes)
      (λ _ h c. among bytes (refreshed_by r draft ticks round t f).proposed (all_fit [] tt tt (refreshed_by r draft ticks round t f).replica.pending h f.again) c)
      (λ _ h c. nothing bytes c)
      (fits_delivered r from m ticks round fit.pending)
  proposed_of r fit of Apply ticks round taken bytes = go (payload_of (next_entry r)) where
    go : (o : Option Payload) → Contains (applied_where r o).proposed bytes → P bytes
    go None c = nothing bytes c
    go (Some p) c = nothing bytes c
  proposed_of r fit of Cut ticks round taken bytes = λ c. nothing bytes c
  proposed_of r fit of Remove ticks round taken bytes = λ c. nothing bytes c
  proposed_of r fit of (Peek key) ticks round taken bytes = λ c. nothing bytes c
  proposed_of r fit of Restart ticks round taken bytes = λ c. nothing bytes c

  module _ (w : World) (shaped : AreShaped w) (fit : AreFit w) (node : ℕ) (n : Node) (has : node_of w node ≡ Some n)
      (asks : (at : ℕ) (r : Replica) → seat n at ≡ Live r → AllByRecursion OfAsk (assigning r).leases) where
    -- what is handed to Raft
    module _ (range : ℕ) (bytes : List ℕ) where
      abbrev Hands : List Doing → Type 0
      Hands ds = Contains (proposed.payloads_of (map (as_event range w node) ds)) bytes

      seat_handed : (at number : ℕ) (e : ReplicaEvent AppliedState) (taken : List Item) (status : Status) → seat n at ≡ status → Hands (seat_doings range n at number e taken status) → P bytes
      seat_handed at number e taken Absent is c = absurd (omega (arith, c.1))
      seat_handed at number e taken (Live r) is c =
          proposed_of r (fit.replicas node at n r has is) (asks at r is) e n.ticks n.rounds taken bytes (handed_seen range w node at number r e (event r e n.ticks n.rounds taken) bytes c)
      seat_handed at number e taken (nodes.Removed applied) is c = absurd (omega (arith, c.1))

      all_handed : (e : ReplicaEvent AppliedState) (none : (r : Replica) (ticks round : ℕ) → (event r e ticks round []).right ≡ None) (ticks : ℕ) (status : Status) → seat n range ≡ status
          → Hands (all_doings range e (record n { ticks = ticks }) range_numbers) → P bytes
      all_handed e none ticks Absent is c = absurd (all.bare_handed e none range w node bytes range_numbers (record n { ticks = ticks }) (subst (all.IsBare e none) (sym is) tt) c)
      all_handed e none ticks (Live r) is c =
          let within = live_within n range r is in
          let eight = (shaped.each node n has).eight in
          proposed_of r (fit.replicas node range n r has is) (asks range r is) e ticks n.rounds [] bytes
          (all.once_handed e none range w node bytes range_numbers (each_once range (omega (arith, within, eight))) (record n { ticks = ticks }) r is c)
      all_handed e none ticks (nodes.Removed applied) is c = absurd (all.bare_handed e none range w node bytes range_numbers (record n { ticks = ticks }) (subst (all.IsBare e none) (sym is) tt) c)

      message_handed : (at from number : ℕ) (msg : Message AppliedState) (status : Status) → seat n at ≡ status → Hands (message_doings range n at from number msg status) → P bytes
      message_handed at from number msg Absent is c = cond_both (eqb at range) (Gets from number msg [] ∷ []) [] (λ (ds : List Doing). Hands ds → P bytes) (λ _ k. absurd (omega (arith, k.1))) (λ _ k. absurd (omega (arith, k.1))) c
      message_handed at from number msg (Live r) is c = seat_handed at number (at_replica.Deliver from msg) [] (Live r) is c
      message_handed at from number msg (nodes.Removed applied) is c = absurd (omega (arith, c.1))

      pub node_handed : (ev : Event AppliedState) (taken : List Item) → Hands (node_doings range n ev taken) → P bytes
      node_handed (events.Admit at id request) taken c = seat_handed at 0 (at_replica.Admit id request) [] (seat n at) refl c
      node_handed (events.Ask at) taken c = seat_handed at 0 at_replica.Ask [] (seat n at) refl c
      node_handed (events.Transfer at to) taken c = seat_handed at 0 (at_replica.Transfer to) [] (seat n at) refl c
      node_handed (events.Collect at) taken c = seat_handed at 0 at_replica.Collect taken (seat n at) refl c
      node_handed (events.Flush at) taken c = seat_handed at 0 at_replica.Flush [] (seat n at) refl c
      node_handed events.Tick taken c = all_handed at_replica.Tick (λ r ticks round. refl) (n.ticks + 1) (seat n range) refl c
      node_handed (events.Deliver from at number msg) taken c = message_handed at from number msg (seat n at) refl c
      node_handed (events.Apply at) taken c = seat_handed at 0 at_replica.Apply [] (seat n at) refl c
      node_handed (events.Cut at) taken c = seat_handed at 0 at_replica.Cut [] (seat n at) refl c
      node_handed (events.Remove at) taken c = seat_handed at 0 at_replica.Remove [] (seat n at) refl c
      node_handed (events.Peek at key) taken c = seat_handed at 0 (at_replica.Peek key) [] (seat n at) refl c
      node_handed events.Restart taken c = all_handed at_replica.Restart (λ r ticks round. refl) n.ticks (seat n range) refl c
      node_handed events.Round taken c = absurd (omega (arith, c.1))
