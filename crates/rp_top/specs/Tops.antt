-- What is due for the words of the program (this project).
use Rattle.std.specs.Prelude.{◌≡◌, ℕ, ◌++◌, true, false, List, Option, None, Some, codes}
use Rattle.rp_gen.specs.Scripts.{script_of as generated}
use Rattle.rp_outside.specs.Devices.{Adds, IsAtEnd}
use Rattle.rp_racelines.specs.declared.verdicts.Verdict.TheVariants as verdicts
use Rattle.rp_report.specs.Words.{newline}
use Rattle.rp_script.specs.declared.faults.ScriptFault.{ScriptFault}
use Rattle.rp_top.specs.Answers.{IsOutput, status_of}
use Rattle.rp_top.specs.Gives.{LeadsOn}
use Rattle.rp_top.specs.Races.{race_script, EndsRaceEarly, IsRaceDue, IsShownRace, MayEnd}
use Rattle.rp_top.specs.Runs.{EndsEarly, IsShownRun}
use Rattle.rp_top.specs.Scripts.{run_of}
use Rattle.rp_top.specs.declared.statuses.Status.{Status}
use Rattle.rp_top.specs.declared.statuses.Status.TheVariants as statuses
use Rattle.rp_words.specs.Asked.{asked_of}
use Rattle.rp_words.specs.declared.asks.Asked.{Asked}
use Rattle.rp_words.specs.declared.asks.Asked.TheVariants as asks

-- what is written where the words ask for nothing
abbrev pub usage_line : List ℕ
usage_line = codes "usage: rp run [--form F] | rp race [--workers W] [--loss P] [--salt S] [--quota U] [--form F] | rp gen NUMBER SIZE" ++ newline

-- the words ask for a script to be played, by one thread or by several
abbrev pub IsScriptAsked : Option Asked → Type 0
IsScriptAsked None = ⊥
IsScriptAsked (Some (asks.Run form)) = Unit {0}
IsScriptAsked (Some (asks.Race plan)) = Unit {0}
IsScriptAsked (Some (asks.Gen number size)) = ⊥

-- for what is asked, and a source of these bytes, the status may be this one, where nothing fails and
-- memory is had
abbrev pub IsStatusFor : Option Asked → List ℕ → Status → Type 0
IsStatusFor None bytes status = status ≡ statuses.Usage
IsStatusFor (Some (asks.Run form)) bytes status = status ≡ status_of (run_of bytes)
IsStatusFor (Some (asks.Race plan)) bytes status = MayEnd (race_script bytes) status
IsStatusFor (Some (asks.Gen number size)) bytes status = status ≡ statuses.Ok

-- and for these words
abbrev pub IsStatusDue : List (List ℕ) → List ℕ → Status → Type 0
IsStatusDue words bytes status = IsStatusFor (asked_of words) bytes status

-- for what is asked this text is due with this status
abbrev pub IsDue : Option Asked → List ℕ → Status → List ℕ → Type 0
IsDue None bytes status text = (status ≡ statuses.Usage) × (text ≡ usage_line)
IsDue (Some (asks.Run form)) bytes status text =
    (status ≡ status_of (run_of bytes)) × IsOutput form (run_of bytes) text
IsDue (Some (asks.Race plan)) bytes status text = IsRaceDue plan (race_script bytes) status text
IsDue (Some (asks.Gen number size)) bytes status text =
    (status ≡ statuses.Ok) × (text ≡ generated number size)

-- and for these words
abbrev pub IsTextDue : List (List ℕ) → List ℕ → Status → List ℕ → Type 0
IsTextDue words bytes status text = IsDue (asked_of words) bytes status text

-- what was asked for ended well: a run, whose source was read to its end; or so a race, in which no
-- command is open; or a script, which was written
abbrev pub EndsAsked : Option Asked → List ℕ → (old new left : Option (List ℕ)) → Type 0
EndsAsked None bytes old new left = ⊥
EndsAsked (Some (asks.Run form)) bytes old new left =
    IsShownRun form bytes old new × IsAtEnd left
EndsAsked (Some (asks.Race plan)) bytes old new left =
    IsShownRace plan verdicts.Ok bytes old new × IsAtEnd left
EndsAsked (Some (asks.Gen number size)) bytes old new left = Adds old (generated number size) new

abbrev pub EndsWell : List (List ℕ) → List ℕ → (old new left : Option (List ℕ)) → Type 0
EndsWell words bytes old new left = EndsAsked (asked_of words) bytes old new left

-- a race was asked for, whose source was read to its end, and in which no more is waited for though
-- commands are open
abbrev pub EndsOpen : Option Asked → List ℕ → (old new left : Option (List ℕ)) → Type 0
EndsOpen None bytes old new left = ⊥
EndsOpen (Some (asks.Run form)) bytes old new left = ⊥
EndsOpen (Some (asks.Race plan)) bytes old new left =
    (unended : ℕ) × IsShownRace plan (verdicts.Unfinished unended) bytes old new × IsAtEnd left
EndsOpen (Some (asks.Gen number size)) bytes old new left = ⊥

abbrev pub EndsUnfinished : List (List ℕ) → List ℕ → (old new left : Option (List ℕ)) → Type 0
EndsUnfinished words bytes old new left = EndsOpen (asked_of words) bytes old new left

-- this refusal or limit ended what was asked for, a run or a race
abbrev pub EndsAskedEarly : Option Asked → ScriptFault → (old new : Option (List ℕ)) → Type 0
EndsAskedEarly None fault old new = ⊥
EndsAskedEarly (Some (asks.Run form)) fault old new = EndsEarly fault old new
EndsAskedEarly (Some (asks.Race plan)) fault old new = EndsRaceEarly fault old new
EndsAskedEarly (Some (asks.Gen number size)) fault old new = ⊥

abbrev pub StopsEarly : List (List ℕ) → ScriptFault → (old new : Option (List ℕ)) → Type 0
StopsEarly words fault old new = EndsAskedEarly (asked_of words) fault old new

-- a script was asked for, and what had come of its source when that failed leads on, as a run's or a race's
abbrev pub LeadsOnFor : Option Asked → (old new : Option (List ℕ)) → Type 0
LeadsOnFor None old new = ⊥
LeadsOnFor (Some (asks.Run form)) old new = LeadsOn false old new
LeadsOnFor (Some (asks.Race plan)) old new = LeadsOn true old new
LeadsOnFor (Some (asks.Gen number size)) old new = ⊥

abbrev pub FailsReading : List (List ℕ) → (old new : Option (List ℕ)) → Type 0
FailsReading words old new = LeadsOnFor (asked_of words) old new
