-- Parts of a line one after another.
use Rattle.std.proofs.Common.{◌≡◌, Option, None, Some, Result, Ok, Err, refl, sym, ap, subst, ◌∙◌}
use Rattle.rp_base.specs.Gives.{Fails, Gives}
use Rattle.rp_lines.specs.Players.{Limit, Player, Played, and_then}
use Rattle.rp_world.specs.declared.faults.PlayFault.{PlayFault}
use Rattle.rp_world.specs.Plays.{Does, limit_of}

-- a limit that is met ends what follows
pub fails_on : (o : Option Limit) (a : Played) (next : Player → Played) → Fails o a → Fails o (and_then a next)
fails_on None a next h = tt
fails_on (Some limit) a next h = ap (λ m. and_then m next) h

-- what a call that went well leaves goes on
pub goes_on : {A : Type 0} (result : Result A PlayFault) (new : Player) (a : Played) (next : Player → Played) (mid : Player)
    → a ≡ Ok mid → Does result new (next mid) → Does result new (and_then a next)
goes_on result new a next mid is h = subst (λ m. Does result new (and_then m next)) (sym is) h
