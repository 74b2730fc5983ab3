-- Events after which nothing is sent.
use Rattle.std.specs.Prelude.{ℕ, ◌+◌, Bool, true, false, not, None, [], ◌==◌, if◌then◌else◌}
use Rattle.rp_raftstep.specs.declared.heads.Due.{Due}
use Rattle.rp_raftstep.specs.declared.heads.Due.TheVariants.{Nobody, One, Everyone}
use Rattle.rp_raftstep.specs.declared.heads.Head.{Head}
use Rattle.rp_raftstep.specs.declared.messages.Message.TheVariants.{AppendReply}
use Rattle.rp_raftstep.specs.RaftState.{RaftState, is_leader}
use Rattle.rp_raftstep.specs.Step.{Done, patience, received}

-- an event leaves this state, and neither sends nor takes in anything
abbrev pub quietly : {S : Type 0} → RaftState → Done S
quietly st = record { state = st; out = record { messages = []; taken = None } }

-- a tick is counted, and no more: a leader does not send to all yet, and another waits on for a leader
abbrev pub only_counts : Head → Bool
only_counts head =
    if is_leader head.role
    then not (head.beat + 1 == 2)
    else not (head.silent + 1 == patience head.node)

-- the head once the tick is counted
abbrev pub counted : Head → Head
counted head =
    if is_leader head.role
    then record head { beat = head.beat + 1 }
    else record head { silent = head.silent + 1 }

abbrev pub is_nobody : Due → Bool
is_nobody Nobody = true
is_nobody (One peer) = false
is_nobody Everyone = false

-- whether nothing is left to be sent behind the answer of a peer
abbrev pub leaves_nothing : RaftState → (from term : ℕ) → (ok : Bool) → (index : ℕ) → Bool
leaves_nothing st from term ok index =
    is_nobody (received {S = ℕ} st from (AppendReply term ok index)).due
