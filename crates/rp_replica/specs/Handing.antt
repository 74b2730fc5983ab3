-- What a list of moves hands to Raft and tells, said of the proposals as they stand before it.
use Rattle.std.specs.Prelude.{◌≡◌, ℕ, ◌+◌, List, [], ◌∷◌, map, filter_map, Option, None, Some, Ok}
use Rattle.std.specs.List.{AllByRecursion}
use Rattle.std.specs.Option.{option_map}
use Rattle.rp_base.specs.declared.ids.CmdId.{CmdId}
use Rattle.rp_base.specs.declared.leases.Lease.{Lease}
use Rattle.rp_base.specs.declared.leases.LeaseAsk.{LeaseAsk}
use Rattle.rp_codec.specs.Reading.{payload_in}
use Rattle.rp_codec.specs.Spelling.{spelling}
use Rattle.rp_request.specs.declared.commands.Payload.{Payload}
use Rattle.rp_request.specs.declared.commands.Payload.TheVariants as payloads
use Rattle.rp_request.specs.declared.outcomes.Outcome.TheVariants as outcomes
use Rattle.rp_request.specs.declared.outcomes.Refusal.TheVariants.{NotLeaseHolder}
use Rattle.rp_pending.specs.declared.proposals.Proposal.{Proposal}
use Rattle.rp_pending.specs.Proposals.{proposal_of}
use Rattle.rp_events.specs.declared.answers.Ended.{Ended}
use Rattle.rp_events.specs.declared.moves.Move.{Move}
use Rattle.rp_events.specs.declared.moves.Move.TheVariants.{HandsOut, GivesUp, TakesBack, Repeats}
use Rattle.rp_events.specs.Moves.{command_of}

-- a proposal as a payload, under this lease index
abbrev pub write_under : (max : ℕ) → Proposal → Payload
write_under max p = payloads.Write (command_of (record p { max = max }))

-- a proposal as a payload, under its own lease index
abbrev pub write_again : Proposal → Payload
write_again p = payloads.Write (command_of p)

-- what a move hands to Raft
abbrev pub payload_by : List Proposal → Move → Option Payload
payload_by ps (HandsOut id max) = option_map (write_under max) (proposal_of id ps)
payload_by ps (GivesUp id) = None
payload_by ps (TakesBack id) = None
payload_by ps (Repeats id) = option_map write_again (proposal_of id ps)

abbrev pub payloads_by : List Proposal → List Move → List Payload
payloads_by ps moves = filter_map (payload_by ps) moves

-- the attempt of a move
abbrev pub id_by : Move → CmdId
id_by (HandsOut id max) = id
id_by (GivesUp id) = id
id_by (TakesBack id) = id
id_by (Repeats id) = id

-- the attempt that a move hands to Raft
abbrev pub handed_by : Move → Option CmdId
handed_by (HandsOut id max) = Some id
handed_by (GivesUp id) = None
handed_by (TakesBack id) = None
handed_by (Repeats id) = Some id

-- what an attempt is told that is given up: the present lease
abbrev pub refused_with : Lease → CmdId → Ended
refused_with lease id = record { id = id; outcome = outcomes.Refused (NotLeaseHolder lease) }

abbrev pub told_by : Lease → Move → Option Ended
told_by lease (HandsOut id max) = None
told_by lease (GivesUp id) = Some (refused_with lease id)
told_by lease (TakesBack id) = None
told_by lease (Repeats id) = None

-- how many items a move puts in the inbox
abbrev pub items_by : Move → ℕ
items_by (HandsOut id max) = 0
items_by (GivesUp id) = 0
items_by (TakesBack id) = 1
items_by (Repeats id) = 0

-- how many items moves put in the inbox
abbrev pub items_of : List Move → ℕ
items_of [] = 0
items_of (move ∷ moves) = items_by move + items_of moves

-- the bytes of lease asks
abbrev pub asks_spelled : List LeaseAsk → List (List ℕ)
asks_spelled asks = map (λ ask. spelling (payloads.Lease ask)) asks

-- the bytes of what moves hand to Raft
abbrev pub moves_spelled : List Proposal → List Move → List (List ℕ)
moves_spelled ps moves = map spelling (payloads_by ps moves)

-- these bytes are spelled as a payload, and read as it
abbrev pub ReadsBack : List ℕ → Type 0
ReadsBack bytes = (p : Payload) × (bytes ≡ spelling p) × (payload_in bytes ≡ Ok p)

-- each of these does
abbrev pub EachReads : List (List ℕ) → Type 0
EachReads bytes = AllByRecursion ReadsBack bytes
