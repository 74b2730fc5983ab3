-- The reply lines of a race can be shown.
use Rattle.std.proofs.Common.{◌≡◌, ℕ, Bool, true, false, cond, Option, None, Some, List, [], ◌∷◌, map, refl}
use Rattle.std.specs.Prelude.{All, ◌==◌}
use Rattle.std.specs.List.{AllByRecursion}
use Rattle.std.proofs.lemmas.List.Elements.{All-from_recursion}
use Rattle.rp_request.specs.declared.notes.ReplyLine.{ReplyLine}
use Rattle.rp_request.specs.declared.outcomes.Outcome.{Outcome}
use Rattle.rp_request.specs.declared.outcomes.Outcome.TheVariants as outcomes
use Rattle.rp_request.specs.declared.outcomes.Refusal.{Refusal}
use Rattle.rp_request.specs.declared.outcomes.End.TheVariants as ends
use Rattle.rp_report.specs.Shown.{IsShownAnswer, IsShownEnd, IsShownOutcome, IsShownRefusal}
use Rattle.rp_events.specs.Lawful.{IsReached}
use Rattle.rp_events.specs.Worlds.{World, outcome_of}
use Rattle.rp_clients.specs.Finals.{end_by}
use Rattle.rp_clients.specs.Tries.{id_of, most_tries}
use Rattle.rp_race.specs.declared.rules.RaceRules.{RaceRules}
use Rattle.rp_race.specs.Ends.{Command, commands_of, latest_attempt}
use Rattle.rp_recorded.proofs.Replies.{outcome_is_shown}
use Rattle.rp_racelines.specs.Replies.{line_by, race_replies, reply_line}

refused_shown : (b : Bool) (refusal : Refusal) → IsShownRefusal refusal → IsShownEnd (cond b (ends.Tries refusal) (ends.Outcome (outcomes.Refused refusal)))
refused_shown true refusal h = h
refused_shown false refusal h = h

end_shown : (attempt : ℕ) (outcome : Outcome) → IsShownOutcome outcome → IsShownEnd (end_by attempt (Some outcome))
end_shown attempt (outcomes.Success reply) h = h
end_shown attempt (outcomes.Refused refusal) h = refused_shown (attempt == most_tries) refusal h
end_shown attempt (outcomes.Ambiguous why) h = h
end_shown attempt outcomes.Pending h = h

module _ (nodes : ℕ) (w : World) (reached : IsReached nodes w) where
  line_shown : (client seq : ℕ) → IsShownAnswer (reply_line w client seq)
  line_shown client seq = by (outcome_of w (id_of client seq (latest_attempt w client seq))) refl where
    by : (o : Option Outcome) → outcome_of w (id_of client seq (latest_attempt w client seq)) ≡ o → IsShownAnswer (line_by client seq (latest_attempt w client seq) o)
    by None is = tt
    by (Some outcome) is = end_shown (latest_attempt w client seq) outcome (outcome_is_shown nodes w reached (id_of client seq (latest_attempt w client seq)) outcome is)

  lines_shown : (cs : List Command) → AllByRecursion IsShownAnswer (map (λ (c : Command). reply_line w c.client c.seq) cs)
  lines_shown [] = tt
  lines_shown (c ∷ cs) = (line_shown c.client c.seq, lines_shown cs)

  pub all_shown : (rules : RaceRules) → All IsShownAnswer (race_replies rules w)
  all_shown rules = All-from_recursion IsShownAnswer (race_replies rules w) (lines_shown (commands_of rules))
