-- What becomes of the proposal with an id where it stands as it must, and else nothing: it is handed
-- out under a lease index, given up, taken back, or proposed once more.
use Rattle.std.specs.Prelude.{ℕ, Bool, true, false, not, if◌then◌else◌, List, Option}
use Rattle.std.specs.Option.{option_map_or}
use Rattle.std.specs.List.{filter}
use Rattle.rp_base.specs.declared.ids.CmdId.{CmdId}
use Rattle.rp_pending.specs.declared.proposals.Change.{Change}
use Rattle.rp_pending.specs.declared.proposals.Change.TheVariants.{Propose, WaitAgain, HandOut, TakeBack, Repeat}
use Rattle.rp_pending.specs.declared.proposals.Proposal.{Proposal}
use Rattle.rp_pending.specs.Proposals.{proposal_of, without, with_changed, proposed, waiting_again, is_proposed}
use Rattle.rp_pending.specs.Refreshes.{goes_back}

-- whether the proposal with this id waits, is proposed, or is proposed under an index at or below
-- this one
abbrev pub waits_at : CmdId → List Proposal → Bool
waits_at id ps = option_map_or (λ p. not (is_proposed p.stage)) (proposal_of id ps) false

abbrev pub is_proposed_at : CmdId → List Proposal → Bool
is_proposed_at id ps = option_map_or (λ p. is_proposed p.stage) (proposal_of id ps) false

abbrev pub goes_back_at : (lai : ℕ) → CmdId → List Proposal → Bool
goes_back_at lai id ps = option_map_or (goes_back lai) (proposal_of id ps) false

-- a waiting one is proposed under a lease index
abbrev pub handed_out : CmdId → (max now round : ℕ) → List Proposal → List Proposal
handed_out id max now round ps =
    option_map_or
    (λ p. if not (is_proposed p.stage) then with_changed id (proposed max now round) ps else ps)
    (proposal_of id ps)
    ps

-- a waiting one is given up: it is pending no more
abbrev pub given_up : CmdId → List Proposal → List Proposal
given_up id ps =
    option_map_or (λ p. if not (is_proposed p.stage) then without id ps else ps) (proposal_of id ps) ps

-- one that is proposed under an index at or below the lease applied index waits again
abbrev pub taken_back : CmdId → (lai : ℕ) → List Proposal → List Proposal
taken_back id lai ps =
    option_map_or
    (λ p. if goes_back lai p then with_changed id waiting_again ps else ps)
    (proposal_of id ps)
    ps

-- a proposed one is proposed once more under its index
abbrev pub repeated : CmdId → (now round : ℕ) → List Proposal → List Proposal
repeated id now round ps =
    option_map_or
    (λ p. if is_proposed p.stage then with_changed id (proposed p.max now round) ps else ps)
    (proposal_of id ps)
    ps

-- those that are proposed under an index at or below this one are pending no more
abbrev pub dropped_back : (lai : ℕ) → List Proposal → List Proposal
dropped_back lai ps = filter (λ p. not (goes_back lai p)) ps

-- whether a change is made of a proposal, and the list after it
abbrev pub is_made : Change → Proposal → Bool
is_made (Propose max now round) p = true
is_made WaitAgain p = true
is_made (HandOut max now round) p = not (is_proposed p.stage)
is_made (TakeBack lai) p = goes_back lai p
is_made (Repeat now round) p = is_proposed p.stage

abbrev pub is_made_at : Change → Option Proposal → Bool
is_made_at change o = option_map_or (is_made change) o false

abbrev pub turned : Change → CmdId → List Proposal → Proposal → List Proposal
turned (Propose max now round) id ps p = with_changed id (proposed max now round) ps
turned WaitAgain id ps p = with_changed id waiting_again ps
turned (HandOut max now round) id ps p =
    if not (is_proposed p.stage) then with_changed id (proposed max now round) ps else ps
turned (TakeBack lai) id ps p = if goes_back lai p then with_changed id waiting_again ps else ps
turned (Repeat now round) id ps p =
    if is_proposed p.stage then with_changed id (proposed p.max now round) ps else ps

abbrev pub turned_at : Change → CmdId → List Proposal → List Proposal
turned_at change id ps = option_map_or (turned change id ps) (proposal_of id ps) ps
