-- Ids of attempts: when two are one, and in which order they stand.
use Rattle.std.specs.Prelude.{Bool, ◌==◌, ◌&&◌}
use Rattle.std.specs.Ordering.{nat_cmp, ordering_then}
use Rattle.std.specs.declared.cmp.Ordering.{Ordering}
use Rattle.rp_base.specs.declared.ids.CmdId.{CmdId}

-- two ids are one
abbrev pub same_id : CmdId → CmdId → Bool
same_id x y = x.client == y.client && x.seq == y.seq && x.attempt == y.attempt

-- attempts stand by client, then by the command's number, then by their own
abbrev pub cmd_cmp : CmdId → CmdId → Ordering
cmd_cmp a b =
    ordering_then (nat_cmp a.client b.client)
    (ordering_then (nat_cmp a.seq b.seq) (nat_cmp a.attempt b.attempt))
