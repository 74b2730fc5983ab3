-- Schedules that are worked out by hand, with what they must leave.
use Rattle.std.specs.Prelude.{ℕ, List, [], ◌∷◌, map}
use Rattle.rp_base.specs.declared.ids.CmdId.{CmdId}
use Rattle.rp_base.specs.declared.items.Item.TheVariants as items
use Rattle.rp_base.specs.declared.values.Value.TheVariants.{Number}
use Rattle.rp_request.specs.declared.requests.Request.TheVariants.{Put}
use Rattle.rp_events.specs.Worlds.{Happening, Admit, Collect, Flush, Remove, Schedule}

-- the numbers of the keys a, b, m and z: a byte in front of fifteen zeros
abbrev pub key_a : ℕ
key_a = 128935115591136839671669284847193423872

abbrev pub key_b : ℕ
key_b = 130264343586921755544573091907473768448

-- the first attempt of a command
abbrev pub first_try : (client seq : ℕ) → CmdId
first_try client seq = record { client = client; seq = seq; attempt = 1 }

-- what happens at node 1
abbrev pub at_one : List Happening → Schedule
at_one xs = map (λ what. record { node = 1; what = what }) xs

-- one node puts one key, and flushes it
abbrev pub flushed_put : Schedule
flushed_put = at_one
    (Admit 0 (first_try 1 1) (Put key_a (Number 5))
    ∷ Collect 0 (items.Write (first_try 1 1) ∷ [])
    ∷ Flush 0
    ∷ [])

-- of three nodes the leaseholder is removed while one command is proposed and one waits
abbrev pub removal : Schedule
removal = at_one
    (Admit 0 (first_try 1 1) (Put key_a (Number 1))
    ∷ Collect 0 (items.Write (first_try 1 1) ∷ [])
    ∷ Flush 0
    ∷ Admit 0 (first_try 1 2) (Put key_b (Number 2))
    ∷ Remove 0
    ∷ [])
