-- How pending proposals are kept: a slot for each id, in order of admission. Where a proposal has
-- ended its slot is empty.
use Rattle.std.specs.Prelude.{◌≡◌, ℕ, Bool, false, not, if◌then◌else◌, List, [], ◌∷◌, length, map, filter_map, Option, None, Some}
use Rattle.std.specs.List.{IsDistinct}
use Rattle.std.specs.Map.{lookup, set_value}
use Rattle.std.specs.Option.{option_map_or}
use Rattle.rp_base.specs.declared.ids.CmdId.{CmdId}
use Rattle.rp_pending.specs.declared.proposals.Proposal.{Proposal}
use Rattle.rp_pending.specs.declared.proposals.Change.{Change}
use Rattle.rp_pending.specs.declared.proposals.Change.TheVariants.{Propose, WaitAgain, HandOut, TakeBack, Repeat}
use Rattle.rp_base.specs.Ids.{same_id}
use Rattle.rp_pending.specs.Proposals.{proposed, waiting_again, is_proposed}
use Rattle.rp_pending.specs.Refreshes.{goes_back}

abbrev pub Slot : Type 0
Slot = CmdId × Option Proposal

-- the proposals that have not ended
abbrev pub proposals_in : List Slot → List Proposal
proposals_in slots = filter_map (λ s. s.1) slots

-- what a change makes of a proposal
abbrev pub changed : Change → Proposal → Proposal
changed (Propose max now round) p = proposed max now round p
changed WaitAgain p = waiting_again p
changed (HandOut max now round) p = if not (is_proposed p.stage) then proposed max now round p else p
changed (TakeBack lai) p = if goes_back lai p then waiting_again p else p
changed (Repeat now round) p = if is_proposed p.stage then proposed p.max now round p else p

-- the slot of an id, where there is one
abbrev pub slot_of : CmdId → List Slot → Option (Option Proposal)
slot_of id slots = lookup (same_id id) slots

-- the slot of an id holds this from now on
abbrev pub with_slot : CmdId → List Slot → Option Proposal → List Slot
with_slot id slots p = set_value (same_id id) slots p

-- whether a slot has a proposal that does not go back under a lease applied index
abbrev pub stays : (lai : ℕ) → Option Proposal → Bool
stays lai slot = option_map_or (λ p. not (goes_back lai p)) slot false

-- a proposal stands in the slot of its id
abbrev pub IsNamed : Slot → Type 0
IsNamed (id, None) = Unit {0}
IsNamed (id, Some p) = p.id ≡ id

abbrev pub AreNamed : List Slot → Type 0
AreNamed [] = Unit {0}
AreNamed (s ∷ slots) = IsNamed s × AreNamed slots

-- slots with distinct ids, each with its own proposal, and their number of proposals
pub record AreSound (slots : List Slot) (count : ℕ) : Type 0 where
  pub distinct : IsDistinct same_id (map (λ s. s.0) slots)
  pub named : AreNamed slots
  pub counted : count ≡ length (proposals_in slots)
