-- A race: what the bytes of its script mean, and how it ends (this project).
use Rattle.std.specs.Prelude.{◌≡◌, ℕ, true, List, [], Option, Result, Ok, Err}
use Rattle.rp_events.specs.Lawful.{IsReached}
use Rattle.rp_events.specs.Promises.{Promise}
use Rattle.rp_events.specs.Worlds.{World}
use Rattle.rp_lines.specs.Views.{IsViewWith}
use Rattle.rp_outside.specs.Devices.{Adds, IsAll}
use Rattle.rp_race.specs.Race.{IsPlayed}
use Rattle.rp_race.specs.declared.rules.RaceRules.{RaceRules}
use Rattle.rp_racelines.specs.Replies.{race_replies}
use Rattle.rp_racelines.specs.Rules.{nodes_in, rules_of}
use Rattle.rp_racelines.specs.Verdicts.{EndsBy}
use Rattle.rp_racelines.specs.declared.verdicts.Verdict.{Verdict}
use Rattle.rp_racelines.specs.declared.verdicts.Verdict.TheVariants as verdicts
use Rattle.rp_report.specs.declared.views.View.{View}
use Rattle.rp_script.specs.Meaning.{meaning}
use Rattle.rp_script.specs.declared.faults.ScriptFault.{ScriptFault}
use Rattle.rp_script.specs.declared.lines.NumberedLine.{NumberedLine}
use Rattle.rp_top.specs.Answers.{Writes, fault_line, fault_status, written}
use Rattle.rp_top.specs.Gives.{HasStopped}
use Rattle.rp_top.specs.declared.statuses.Status.{Status}
use Rattle.rp_top.specs.declared.statuses.Status.TheVariants as statuses
use Rattle.rp_words.specs.declared.asks.RacePlan.{RacePlan}

-- the lines of a race's script, or the first limit or refusal
abbrev pub race_script : List ℕ → Result (List NumberedLine) ScriptFault
race_script bytes = meaning true bytes

-- the rules of the race that these lines describe and that is run so
abbrev pub rules_by : RacePlan → List NumberedLine → RaceRules
rules_by plan ls = rules_of plan.loss plan.salt ls

-- the text shows how a race of these lines ended. There is one lawful list of events, and one world, to
-- which it leads from the start of the nodes that the lines name. Clients and workers played it by the
-- rules: each client's commands are its requests by number, each try at the node and in the range that it
-- is to aim at after the ends of those before it, and each round heard what it was owed. The promise holds
-- of this world, and in it the race ended by this verdict. The text is what this world shows in the form,
-- with a reply line for each command of the lines and no notes
pub record ShowsRace (plan : RacePlan) (ls : List NumberedLine) (verdict : Verdict) (text : List ℕ)
    : Type 0 where
  pub world : World
  pub reached : IsReached (nodes_in ls) world
  pub played : IsPlayed (rules_by plan ls) world
  pub promise : Promise world
  pub ends : EndsBy (rules_by plan ls) world verdict
  pub view : View
  pub shows : IsViewWith world (race_replies (rules_by plan ls) world) [] view
  pub is : text ≡ written plan.form view

-- the bytes are a race's script, and what was written shows how a race of its lines ended
pub record IsShownRace (plan : RacePlan) (verdict : Verdict) (bytes : List ℕ)
    (old new : Option (List ℕ)) : Type 0 where
  pub lines : List NumberedLine
  pub script : race_script bytes ≡ Ok lines
  pub text : List ℕ
  pub shows : ShowsRace plan lines verdict text
  pub written : Adds old text new

-- with this status this text is due: where the bytes are a script's lines, with Ok or Unfinished what
-- shows that a race of them ended so; else with the refusal or limit what says so
abbrev pub IsRaceDue : RacePlan → Result (List NumberedLine) ScriptFault → Status → List ℕ → Type 0
IsRaceDue plan (Ok ls) statuses.Ok text = ShowsRace plan ls verdicts.Ok text
IsRaceDue plan (Ok ls) (statuses.Unfinished unended) text =
    ShowsRace plan ls (verdicts.Unfinished unended) text
IsRaceDue plan (Ok ls) status text = ⊥
IsRaceDue plan (Err fault) status text = (status ≡ fault_status fault) × (text ≡ fault_line fault)

-- what a race answers and writes, by what its script means
abbrev pub RaceAnswers : Status → RacePlan → Result (List NumberedLine) ScriptFault
    → Option (List ℕ) → Option (List ℕ) → Type 0
RaceAnswers status plan meant old new =
    (due : Status) × Writes status due (IsRaceDue plan meant due) old new

-- a race of this script may end with this status, where nothing fails and memory is had
abbrev pub MayEnd : Result (List NumberedLine) ScriptFault → Status → Type 0
MayEnd (Ok ls) statuses.Ok = Unit {0}
MayEnd (Ok ls) (statuses.Unfinished unended) = Unit {0}
MayEnd (Ok ls) status = ⊥
MayEnd (Err fault) status = status ≡ fault_status fault

-- this refusal or limit is the first of the bytes, as a race's script, and nothing was read behind the
-- piece in which it stands
pub record EndsRaceEarly (fault : ScriptFault) (old new : Option (List ℕ)) : Type 0 where
  pub bytes : List ℕ
  pub all : IsAll old bytes
  pub meant : race_script bytes ≡ Err fault
  pub stopped : HasStopped true old new fault
