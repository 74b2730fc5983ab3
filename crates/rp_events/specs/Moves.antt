-- What a replica does with its pending proposals before it hands payloads to Raft (after CockroachDB's
-- proposal buffer and its refresh).
use Rattle.std.specs.Prelude.{ℕ, if◌then◌else◌, List, [], ◌∷◌, ◌++◌, map, filter_map, Option, None, Some, option_and_then}
use Rattle.std.specs.List.{filter}
use Rattle.std.specs.Option.{option_map_or}
use Rattle.rp_base.specs.declared.ids.CmdId.{CmdId}
use Rattle.rp_base.specs.declared.items.Item.TheVariants as items
use Rattle.rp_base.specs.declared.leases.LeaseAsk.{LeaseAsk}
use Rattle.rp_request.specs.Applied.{AppliedState}
use Rattle.rp_request.specs.declared.commands.Command.{Command}
use Rattle.rp_request.specs.declared.commands.Payload.{Payload}
use Rattle.rp_request.specs.declared.commands.Payload.TheVariants as payloads
use Rattle.rp_request.specs.declared.outcomes.Outcome.{Outcome}
use Rattle.rp_request.specs.declared.outcomes.Outcome.TheVariants as outcomes
use Rattle.rp_request.specs.declared.outcomes.Refusal.TheVariants.{NotLeaseHolder}
use Rattle.rp_codec.specs.Spelling.{spelling}
use Rattle.rp_latch.specs.Holds.{is_of_other}
use Rattle.rp_pending.specs.Proposals.{proposal_of, with_changed, without, proposed, waiting_again, is_proposed}
use Rattle.rp_pending.specs.Refreshes.{goes_back}
use Rattle.rp_pending.specs.declared.proposals.Proposal.{Proposal}
use Rattle.rp_raftstep.specs.Step.{Draft, step_then}
use Rattle.rp_events.specs.declared.answers.EventAnswer.TheVariants as answers
use Rattle.rp_events.specs.declared.moves.Move.{Move}
use Rattle.rp_events.specs.declared.moves.Move.TheVariants.{HandsOut, GivesUp, TakesBack, Repeats}
use Rattle.rp_events.specs.Replicas.{Replica, Done, Told, lease_of}

-- a pending attempt ends: its latches are free
abbrev pub ended : Replica → CmdId → Outcome → Told
ended r id outcome = record {
  replica = record r {
    latches = filter (is_of_other id) r.latches;
    pending = without id r.pending;
  };
  ended = record { id = id; outcome = outcome } ∷ [];
}

-- a proposal waits again, and its id joins the inbox's end
abbrev pub waits_again : Replica → CmdId → Replica
waits_again r id = record r {
  pending = with_changed id waiting_again r.pending;
  inbox = r.inbox ++ items.Write id ∷ [];
}

-- a proposal is proposed under a lease index
abbrev pub proposed_under : Replica → (ticks round : ℕ) → CmdId → (max : ℕ) → Replica
proposed_under r ticks round id max =
    record r { pending = with_changed id (proposed max ticks round) r.pending }

-- a further part of an event: the attempts that it ends come behind the others
abbrev pub then_told : Told → Told → Told
then_told before t = record { replica = t.replica; ended = before.ended ++ t.ended }

-- the replica changes, and no further attempt ends
abbrev pub then_is : Told → Replica → Told
then_is before r = record { replica = r; ended = before.ended }

-- a move of this proposal; one that stands otherwise than the move wants stays as it is
abbrev pub hands_out : (ticks round : ℕ) → Told → CmdId → ℕ → Proposal → Told
hands_out ticks round t id max p =
    if is_proposed p.stage then t else then_is t (proposed_under t.replica ticks round id max)

abbrev pub gives_up : Told → CmdId → Proposal → Told
gives_up t id p =
    if is_proposed p.stage
    then t
    else then_told t (ended t.replica id (outcomes.Refused (NotLeaseHolder (lease_of t.replica))))

abbrev pub takes_back : Told → CmdId → Proposal → Told
takes_back t id p =
    if goes_back t.replica.applied.state.lai p then then_is t (waits_again t.replica id) else t

abbrev pub repeats : (ticks round : ℕ) → Told → CmdId → Proposal → Told
repeats ticks round t id p =
    if is_proposed p.stage then then_is t (proposed_under t.replica ticks round id p.max) else t

-- a change of the proposal with this id, where there is one
abbrev pub where_pending : Told → CmdId → (Proposal → Told) → Told
where_pending t id change = option_map_or change (proposal_of id t.replica.pending) t

-- a move at a tick and in a round of the node
abbrev pub moved : (ticks round : ℕ) → Told → Move → Told
moved ticks round t (HandsOut id max) = where_pending t id (hands_out ticks round t id max)
moved ticks round t (GivesUp id) = where_pending t id (gives_up t id)
moved ticks round t (TakesBack id) = where_pending t id (takes_back t id)
moved ticks round t (Repeats id) = where_pending t id (repeats ticks round t id)

-- moves one after another
abbrev pub moved_all : (ticks round : ℕ) → Told → List Move → Told
moved_all ticks round t [] = t
moved_all ticks round t (move ∷ moves) = moved_all ticks round (moved ticks round t move) moves

-- a proposal as a command under its lease index
abbrev pub command_of : Proposal → Command
command_of p = record {
  id = p.id;
  request = p.request;
  batch = p.batch;
  reply = p.reply;
  seq = p.seq;
  max = p.max;
}

-- the payload of a proposal that is proposed
abbrev pub write_of : Proposal → Option Payload
write_of p = if is_proposed p.stage then Some (payloads.Write (command_of p)) else None

-- the payloads of these lease asks, and behind them of these attempts, where they are proposed
abbrev pub payloads_of : List LeaseAsk → List Proposal → List CmdId → List Payload
payloads_of asks ps ids =
    map payloads.Lease asks ++ filter_map (λ id. option_and_then write_of (proposal_of id ps)) ids

-- an event of the replica's Raft with these payloads behind it, as one event: the snapshots that it
-- sends show the state that was applied before
abbrev pub hands_over : Replica → Draft AppliedState → Told → List (List ℕ) → Done
hands_over before draft t bytes =
    let done = step_then before.applied.index before.applied.state draft bytes in
    record {
      replica = record t.replica { raft = done.state };
      answer = answers.Done;
      messages = done.out.messages;
      outcomes = t.ended;
      proposed = bytes;
      right = None;
    }

-- these lease asks and these attempts go to Raft, as they stand after the moves
abbrev pub hands_to_raft : Replica → Draft AppliedState → Told → List LeaseAsk → List CmdId → Done
hands_to_raft before draft t asks ids =
    hands_over before draft t (map spelling (payloads_of asks t.replica.pending ids))
