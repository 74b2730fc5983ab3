-- The rules of a script have few commands.
use Rattle.std.proofs.Common.{◌≡◌, ℕ, ◌<◌, ◌≤◌, ◌^◌, List, length, subst, sym, arith}
use Rattle.rp_script.specs.declared.lines.NumberedLine.{NumberedLine}
use Rattle.rp_race.specs.declared.rules.RaceRules.{RaceRules}
use Rattle.rp_racelines.specs.Rules.{rules_of}
use Rattle.rp_racelines.specs.Verdicts.{command_count}
use Rattle.rp_racelines.proofs.Scripted.{few_commands}

pub few : (loss salt : ℕ) (ls : List NumberedLine) (rules : RaceRules) → rules ≡ rules_of loss salt ls → length ls ≤ 65536 → command_count rules < 2 ^ 32
few loss salt ls rules is most =
    subst (λ (r : RaceRules). command_count r < 2 ^ 32) (sym is)
    (let count = few_commands loss salt ls in omega (arith, count, most))
