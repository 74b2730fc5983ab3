-- A run that ended well.
use Rattle.std.specs.Prelude.{◌≡◌, ℕ, false, List, Option, Result, Ok, Err}
use Rattle.rp_events.specs.Lawful.{IsReached}
use Rattle.rp_events.specs.Promises.{Promise}
use Rattle.rp_lines.specs.Players.{Player}
use Rattle.rp_lines.specs.Views.{IsViewOf}
use Rattle.rp_outside.specs.Devices.{Adds, IsAll, IsAtEnd}
use Rattle.rp_report.specs.declared.views.View.{View}
use Rattle.rp_script.specs.declared.lines.NumberedLine.{NumberedLine}
use Rattle.rp_script.specs.declared.faults.ScriptFault.{ScriptFault}
use Rattle.rp_top.specs.Answers.{written}
use Rattle.rp_top.specs.Gives.{HasStopped}
use Rattle.rp_top.specs.Scripts.{script_of, run_of, play_of}
use Rattle.rp_racelines.specs.Rules.{nodes_in}
use Rattle.rp_words.specs.declared.asks.Form.{Form}

-- one script, one lawful list of events and one world: the bytes are the script of these lines, they
-- lead to this world, to which the lawful list leads; the promise holds of it, and what it shows, with
-- the notes of the lines, was written in the form
pub record IsShownRun (form : Form) (bytes : List ℕ) (old new : Option (List ℕ)) : Type 0 where
  pub lines : List NumberedLine
  pub script : script_of bytes ≡ Ok lines
  pub player : Player
  pub played : play_of lines ≡ Ok player
  pub reached : IsReached (nodes_in lines) player.world.nodes
  pub promise : Promise player.world.nodes
  pub view : View
  pub shows : IsViewOf player.world.nodes player.notes view
  pub written : Adds old (written form view) new

-- how far the source was read of a script that was not played to its end: where its lines were read, it
-- was the play that ended, behind the whole source; else nothing was read behind the piece with the
-- refusal or the limit
abbrev pub StopsAs : Result (List NumberedLine) ScriptFault → (old new : Option (List ℕ)) → ScriptFault → Type 0
StopsAs (Ok lines) old new fault = IsAtEnd new
StopsAs (Err first) old new fault = HasStopped false old new fault

-- this refusal or limit is the first of the bytes, or that of their play
pub record EndsEarly (fault : ScriptFault) (old new : Option (List ℕ)) : Type 0 where
  pub bytes : List ℕ
  pub all : IsAll old bytes
  pub meant : run_of bytes ≡ Err fault
  pub stopped : StopsAs (script_of bytes) old new fault
