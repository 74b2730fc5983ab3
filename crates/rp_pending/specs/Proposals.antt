-- Pending proposals: a list in order of admission, whose ids are distinct.
use Rattle.std.specs.Prelude.{ℕ, Bool, true, false, not, if◌then◌else◌, map, List, Option, None, Some}
use Rattle.std.specs.List.{find, filter}
use Rattle.rp_base.specs.declared.ids.CmdId.{CmdId}
use Rattle.rp_base.specs.Ids.{same_id}
use Rattle.rp_pending.specs.declared.proposals.Proposal.{Proposal}
use Rattle.rp_pending.specs.declared.proposals.Stage.{Stage}
use Rattle.rp_pending.specs.declared.proposals.Stage.TheVariants as stages

-- the proposal has the id
abbrev pub has_id : CmdId → Proposal → Bool
has_id id p = same_id id p.id

-- the proposal that has the id, where there is one
abbrev pub proposal_of : CmdId → List Proposal → Option Proposal
proposal_of id ps = find (has_id id) ps

-- all but that one
abbrev pub without : CmdId → List Proposal → List Proposal
without id ps = filter (λ p. not (has_id id p)) ps

-- that one changes, in its place
abbrev pub with_changed : CmdId → (Proposal → Proposal) → List Proposal → List Proposal
with_changed id f ps = map (λ p. if has_id id p then f p else p) ps

-- the round of the first time
abbrev pub first_time : Option ℕ → ℕ → Option ℕ
first_time None round = Some round
first_time (Some first) round = Some first

-- a flush or a refresh proposes it under a lease index, at a tick and in a round of the node
abbrev pub proposed : ℕ → ℕ → ℕ → Proposal → Proposal
proposed max now round p =
    record p { max = max; stage = stages.Proposed; since = now; round = first_time p.round round }

-- it waits for a lease index again
abbrev pub waiting_again : Proposal → Proposal
waiting_again p = record p { stage = stages.Waiting }

abbrev pub is_proposed : Stage → Bool
is_proposed stages.Waiting = false
is_proposed stages.Proposed = true
