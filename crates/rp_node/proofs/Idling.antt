-- An event that finds nothing to do leaves its node as it is.
use Rattle.std.proofs.Common.{◌≡◌, ℕ, List, [], ◌++◌, Option, None, Some, refl, sym, ap, ◌∙◌}
use Rattle.std.proofs.lemmas.List.{append-nil, set-get_or}
use Rattle.rp_events.specs.Replicas.{Replica, leaves}
use Rattle.rp_events.specs.declared.answers.EventAnswer.TheVariants as answers
use Rattle.rp_events.specs.declared.replica_events.ReplicaEvent.TheVariants as at_replica
use Rattle.rp_events.specs.Nodes.{Node, Status, Absent, Live, seat, after_turn}
use Rattle.rp_events.specs.NodeEvents.{by_status}
use Rattle.rp_replica.specs.declared.plans.ReplicaPlan.{ReplicaPlan}
use Rattle.rp_node.specs.declared.seats.Seat.{Seat}
use Rattle.rp_node.specs.declared.seats.Seat.TheVariants as seats
use Rattle.rp_node.specs.Cores.{status_of}
use Rattle.rp_node.specs.Plans.{SeatReady, answered, idle_answer}

-- the seat's replica stays, and nothing is sent or ended
pub stays_so : (n : Node) (range : ℕ) (r : Replica) → seat n range ≡ Live r → after_turn n range (Live r) (leaves r answers.Done) ≡ n
stays_so n range r here =
    ap (λ (s : Status). after_turn n range s (leaves r answers.Done)) (sym here)
    ∙ ap (λ (l : List Status). record n { seats = l; sent = n.sent ++ []; outcomes = n.outcomes ++ [] }) (set-get_or n.seats range Absent)
    ∙ ap (λ l. record n { sent = l; outcomes = n.outcomes ++ [] }) (append-nil n.sent)
    ∙ ap (λ l. record n { outcomes = l }) (append-nil n.outcomes)

-- a collect that is given nothing
pub empty_collect : (n : Node) (range : ℕ) (p : Option ReplicaPlan) (s : Seat) → seat n range ≡ status_of s → SeatReady s at_replica.Collect n.ticks n.rounds p → answered n (idle_answer p) ≡ by_status n range at_replica.Collect [] (status_of s)
empty_collect n range None seats.Absent here ready = refl
empty_collect n range (Some p) seats.Absent here ready = absurd cc
empty_collect n range None (seats.Live held) here ready = absurd ready
empty_collect n range (Some p) (seats.Live held) here ready =
    ap (λ (m : Node). answered m answers.Done) (sym (stays_so n range held.replica here))
empty_collect n range None (seats.Removed kept) here ready = refl
empty_collect n range (Some p) (seats.Removed kept) here ready = absurd cc
