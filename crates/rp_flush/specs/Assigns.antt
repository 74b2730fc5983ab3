-- What a flush makes of an inbox: what goes to Raft, in which order, and the lease index of each
-- command (CockroachDB's proposal buffer).
use Rattle.std.specs.Prelude.{ℕ, ◌+◌, max, Bool, false, ◌==◌, not, List, [], ◌∷◌, length, filter_map, Option, None, Some}
use Rattle.std.specs.List.{filter, find}
use Rattle.std.specs.Option.{option_map, option_map_or}
use Rattle.rp_base.specs.Ids.{same_id}
use Rattle.rp_base.specs.declared.ids.CmdId.{CmdId}
use Rattle.rp_base.specs.declared.items.Item.{Item}
use Rattle.rp_base.specs.declared.items.Item.TheVariants.{Write, Lease}
use Rattle.rp_base.specs.declared.leases.LeaseAsk.{LeaseAsk}
use Rattle.rp_request.specs.declared.commands.Waiting.{Waiting}
use Rattle.rp_flush.specs.declared.assigns.Assigned.{Assigned}

-- the lease ask of an item, and its command
abbrev pub ask_of : Item → Option LeaseAsk
ask_of (Write id) = None
ask_of (Lease ask) = Some ask

abbrev pub id_of : Item → Option CmdId
id_of (Write id) = Some id
id_of (Lease ask) = None

-- the lease asks of an inbox, and its commands, in its order
abbrev pub asks_of : List Item → List LeaseAsk
asks_of inbox = filter_map ask_of inbox

abbrev pub ids_of : List Item → List CmdId
ids_of inbox = filter_map id_of inbox

-- each command once, where it stands first
abbrev pub once : List CmdId → List CmdId
once [] = []
once (id ∷ ids) = id ∷ filter (λ other. not (same_id id other)) (once ids)

-- the lease sequence under which a command waits, where it does
abbrev pub seq_of : List Waiting → CmdId → Option ℕ
seq_of waiting id = option_map (λ w. w.seq) (find (λ w. same_id w.id id) waiting)

-- whether it waits under this sequence, or under another
abbrev pub waits_under : List Waiting → ℕ → CmdId → Bool
waits_under waiting seq id = option_map_or (λ s. s == seq) (seq_of waiting id) false

abbrev pub waits_under_another : List Waiting → ℕ → CmdId → Bool
waits_under_another waiting seq id = option_map_or (λ s. not (s == seq)) (seq_of waiting id) false

-- the index that the next command gets: the greater of the last one assigned and the lease applied
-- index, plus one
abbrev pub next_index : (lai assigned : ℕ) → ℕ
next_index lai assigned = max assigned lai + 1

-- the last index assigned once these commands got theirs: where there is none, it stays
abbrev pub last_after : (lai assigned : ℕ) → List CmdId → ℕ
last_after lai assigned [] = assigned
last_after lai assigned (id ∷ ids) = next_index lai assigned + length ids

-- each command with the next index after this one
abbrev pub numbered : ℕ → List CmdId → List (CmdId × ℕ)
numbered last [] = []
numbered last (id ∷ ids) = (id, last + 1) ∷ numbered (last + 1) ids

-- what a flush proposes of an inbox under a lease sequence, where the lease applied index and the
-- last index assigned are these, and what it refuses
abbrev pub assigned_of : List Item → List Waiting → (seq lai assigned : ℕ) → Assigned
assigned_of inbox waiting seq lai assigned =
    let ids = once (ids_of inbox) in
    let proposed = filter (waits_under waiting seq) ids in
    record {
      leases = asks_of inbox;
      writes = numbered (max assigned lai) proposed;
      refused = filter (waits_under_another waiting seq) ids;
      last = last_after lai assigned proposed;
    }
