-- Each event of a reached world may be planned and extended, as long as the numbers fit.
use Rattle.std.proofs.Common.{◌≡◌, ℕ, zero, suc, ◌+◌, ◌^◌, ◌<◌, Option, Some, None, List, [], ◌∷◌, ◌++◌, length, arith}
use Rattle.std.proofs.lemmas.List.Sums.{sum_by_push}
use Rattle.rp_raftstep.specs.declared.messages.Message.{Message}
use Rattle.rp_raftstep.specs.declared.messages.Message.TheVariants.{Vote, VoteReply, Append, AppendReply, Forward, Snap}
use Rattle.rp_raftstep.specs.RaftState.{RaftState}
use Rattle.rp_raftstep.specs.Step.{tick, received}
use Rattle.rp_raftstep.specs.Conditions.{CanRise, MessageFits}
use Rattle.rp_raftsafe.specs.World.{Range, World, Ticks, Proposes, Event, Acts, Comes, site, message_of, world_after}
use Rattle.rp_raftsafe.specs.Bounds.{RaftBelow, MessageBelow, event_weight, bound_after}
use Rattle.rp_raftsafe.specs.Safety.{HasSent, IsShown}
use Rattle.rp_raftsafe.specs.Allowed.{IsShort, EventsAllowed}
use Rattle.rp_raftsafe.proofs.Below.{DraftBelow, tick_below, received_below}
use Rattle.rp_raftsafe.proofs.Bounded.{bounded_holds}
use Rattle.rp_raftsafe.proofs.Known.{one_list_holds}

-- what one event adds
bound_next : {S : Type 0} (g : Range S) (events : List Event) (event : Event) → bound_after g (events ++ event ∷ []) ≡ bound_after g events + event_weight event
bound_next g events event = omega (arith, sum_by_push event_weight events event)

can_rise : (b : ℕ) (st : RaftState) → b + 1 < 2 ^ 64 → RaftBelow b st → CanRise st
can_rise b st short h = record { term = omega (arith, h.term); last = omega (arith, h.last) }

message_fits : {S : Type 0} (b : ℕ) (m : Message S) → b + 1 < 2 ^ 64 → MessageBelow b m → MessageFits m
message_fits b (Vote t i it) short h = tt
message_fits b (VoteReply t granted) short h = tt
message_fits b (Append t prev pt es commit) short h = omega (arith, h.1)
message_fits b (AppendReply t ok i) short h = tt
message_fits b (Forward payload) short h = tt
message_fits b (Snap t i it s) short h = omega (arith, h.1)

-- a message with a number was sent
numbered : {S : Type 0} (w : World S) (from number to : ℕ) (m : Message S) → message_of (site w from) number ≡ Some (to, m) → HasSent w from to m
numbered {S} w from zero to m e = absurd (none_some e)
  where
    none_some : ◌≡◌ {A = Option (ℕ × Message S)} None (Some (to, m)) → ⊥
    none_some x = cc
numbered w from (suc place) to m e = (place, e)

pub events_allowed_holds : (S : Type 0) → EventsAllowed S
events_allowed_holds S g range events node r live =
    let below : RaftBelow (bound_after g events) r.raft = ((bounded_holds S g events).replicas node r live).raft in
    let rises : IsShort g events → CanRise r.raft = λ short. can_rise (bound_after g events) r.raft short below in
    let shown : IsShown g ((one_list_holds S g range).committed events) r = (one_list_holds S g range).shown events node r live in
    record {
      tick_fits = rises;
      tick_more = λ again short.
          let draft : DraftBelow {S = S} (bound_after g events + 2) (tick r.raft) = tick_below (bound_after g events) r.raft below in
          let next : bound_after g (events ++ Acts node (Ticks again) ∷ []) ≡ bound_after g events + (2 + length again) = bound_next g events (Acts node (Ticks again)) in
          omega (arith, short, next, draft.state.last);
      receive_fits = λ from number message at short.
          (rises short, message_fits (bound_after g events) message short ((bounded_holds S g events).messages from node message (numbered (world_after g events) from number node message at)));
      receive_more = λ from number message at again short.
          let draft : DraftBelow (bound_after g events + 1) (received r.raft from message) =
          received_below (bound_after g events) r.raft from message below ((bounded_holds S g events).messages from node message (numbered (world_after g events) from number node message at)) in
          let next : bound_after g (events ++ Comes from number again ∷ []) ≡ bound_after g events + (1 + length again) = bound_next g events (Comes from number again) in
          omega (arith, short, next, draft.state.last);
      propose_fits = λ payloads short.
          let next : bound_after g (events ++ Acts node (Proposes payloads) ∷ []) ≡ bound_after g events + length payloads = bound_next g events (Acts node (Proposes payloads)) in
          (rises (omega (arith, short, next)), omega (arith, short, next, below.last));
      cut_fits = λ short. (rises short, shown.based, omega (arith, shown.applied_le, shown.commit_le));
    }
