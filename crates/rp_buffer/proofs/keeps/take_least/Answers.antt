use Rattle.std.proofs.Common.{rules, ◌≡◌, ◌<◌, ℕ, ◌+◌, ◌-◌, ◌*◌, ◌≤◌, length, List, [], ◌∷◌, ◌++◌, arith, subst, sym, ap, ◌∙◌}
use Rattle.rp_buffer.proofs.Ends.{alone_then, alone_else, others_else}
use Rattle.rp_buffer.proofs.keeps.take_least.Goals as goal

pub returns-then-number-lt5-clause-least : goal.returns-then-number-lt5-clause-least
returns-then-number-lt5-clause-least c = alone_then _ _ c.five.ensures c.first_carried-number.ensures

pub returns-else-number-lt5-clause-least : goal.returns-else-number-lt5-clause-least
returns-else-number-lt5-clause-least c = let past = c.if-number-lt5.false in alone_else _ _ c.five.ensures c.first_carried-number.ensures (omega (arith, past))
