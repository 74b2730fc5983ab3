use Rattle.std.proofs.Common.{◌≡◌, ◌++◌, ℕ, drop, map}
use Rattle.rp_base.specs.declared.ids.CmdId.{CmdId}
use Rattle.rp_events.specs.declared.moves.Move.TheVariants.{HandsOut}
use Rattle.rp_replica.proofs.flushes.push_writes.Given as goal

-- the moves so far, and those of what is left, are what all of it makes
abbrev pub invariant-loop-write : goal.invariant-loop-write
invariant-loop-write l = l.moves.items ++ map (λ (write : CmdId × ℕ). HandsOut write.0 write.1) (drop l.write-index l.writes) ≡ l.fn.moves.items ++ map (λ (write : CmdId × ℕ). HandsOut write.0 write.1) l.writes
