-- Asks for the lease, and what a collect lets through of them (this project, after CockroachDB's lease
-- requests and transfers).
use Rattle.std.specs.Prelude.{ℕ, ◌+◌, Bool, not, ◌&&◌, ◌==◌, nat_lt, nat_le, if◌then◌else◌, List, [], ◌∷◌, ◌++◌}
use Rattle.std.specs.List.{list_any}
use Rattle.rp_base.specs.declared.items.Item.{Item}
use Rattle.rp_base.specs.declared.items.Item.TheVariants as items
use Rattle.rp_base.specs.declared.leases.LeaseAsk.{LeaseAsk}
use Rattle.rp_request.specs.declared.outcomes.Refusal.TheVariants.{NotLeaseHolder}
use Rattle.rp_events.specs.declared.answers.EventAnswer.TheVariants as answers
use Rattle.rp_events.specs.Replicas.{Replica, Done, leaves, lease_of, holds_lease}

-- for how many ticks a lease is asked
abbrev pub lease_ticks : ℕ
lease_ticks = 40

-- another node's lease has not run out
abbrev pub is_held : Replica → (ticks : ℕ) → Bool
is_held r ticks = nat_lt ticks (lease_of r).expires && not (holds_lease r)

-- until which tick the node asks for the lease: a holder that restarted under it asks for tick 0, by
-- which the sequence rises
abbrev pub expiry_of : Replica → (ticks : ℕ) → ℕ
expiry_of r ticks =
    if holds_lease r && nat_le (lease_of r).seq r.barrier then 0 else ticks + lease_ticks

-- an ask of the present sequence
abbrev pub ask_for : Replica → (holder expires : ℕ) → LeaseAsk
ask_for r holder expires = record { holder = holder; prev = (lease_of r).seq; expires = expires }

-- the ask is answered, and is to be put in the buffer
abbrev pub answers_ask : Replica → LeaseAsk → Done
answers_ask r ask = leaves (record r { asks = r.asks ++ ask ∷ [] }) (answers.Asked ask)

-- Ask: the node asks for the lease
abbrev pub asked : Replica → (ticks : ℕ) → Done
asked r ticks =
    if is_held r ticks
    then leaves r (answers.LeaseHeld (lease_of r) ticks)
    else answers_ask r (ask_for r r.raft.head.node (expiry_of r ticks))

-- Transfer: the holder asks for the lease to go to another node
abbrev pub transferred : Replica → (to ticks : ℕ) → Done
transferred r to ticks =
    if holds_lease r
    then answers_ask r (ask_for r to (ticks + lease_ticks))
    else leaves r (answers.Refused (NotLeaseHolder (lease_of r)))

-- two asks are one
abbrev pub same_ask : LeaseAsk → LeaseAsk → Bool
same_ask a b = a.holder == b.holder && a.prev == b.prev && a.expires == b.expires

-- without the first ask that is equal
abbrev pub without_first : LeaseAsk → List LeaseAsk → List LeaseAsk
without_first ask [] = []
without_first ask (x ∷ xs) = if same_ask x ask then xs else x ∷ without_first ask xs

-- one item joins the inbox; a lease ask only where it was answered here and not given yet
abbrev pub joined : Replica → Item → Replica
joined r (items.Write id) = record r { inbox = r.inbox ++ items.Write id ∷ [] }
joined r (items.Lease ask) =
    if list_any (λ x. same_ask x ask) r.asks
    then record r {
      inbox = r.inbox ++ items.Lease ask ∷ [];
      asks = without_first ask r.asks;
    }
    else r

-- items one after another
abbrev pub joined_all : Replica → List Item → Replica
joined_all r [] = r
joined_all r (item ∷ items) = joined_all (joined r item) items

-- Collect: what the buffer gave joins the inbox
abbrev pub collected : Replica → List Item → Done
collected r taken = leaves (joined_all r taken) answers.Done
