-- A result of the code against what the bytes mean: want of memory and a fault of the source are
-- free.
use Rattle.std.specs.Prelude.{◌≡◌, ◌⊎◌, ℕ, ◌≤◌, ◌++◌, Bool, List, [], length, Option, None, Some, Result, Ok, Err}
use Rattle.rp_base.specs.Gives as results
use Rattle.rp_outside.specs.Devices.{Comes, IsAtEnd}
use Rattle.rp_script.specs.Reading.{Reading, unread, fed_all, finished}
use Rattle.rp_script.specs.declared.faults.ScriptFault.{ScriptFault}
use Rattle.rp_script.specs.declared.faults.ScriptStop.{ScriptStop}
use Rattle.rp_script.specs.declared.faults.ScriptStop.TheVariants as inner
use Rattle.rp_script.specs.declared.faults.ScriptFault.TheVariants as faults
use Rattle.rp_top.specs.declared.stops.Stop.{Stop}
use Rattle.rp_top.specs.declared.stops.Stop.TheVariants as stops
use Rattle.rp_world.specs.declared.faults.PlayFault.{PlayFault}
use Rattle.rp_world.specs.declared.faults.PlayFault.TheVariants as plays

-- the same stop, of a source that had no fault
abbrev pub stop_of : ScriptStop → Stop
stop_of (inner.Judged fault) = stops.Judged fault
stop_of inner.NoMemory = stops.NoMemory

-- what a stop says of the bytes: nothing where memory was refused or the source failed
abbrev pub fault_of : Stop → Option ScriptFault
fault_of (stops.Judged fault) = Some fault
fault_of stops.NoMemory = None
fault_of stops.ReadFault = None

-- the stop at which a play ended
abbrev pub stop_by : PlayFault → Stop
stop_by (plays.Limit which count) = stops.Judged (faults.Limit which count)
stop_by plays.NoMemory = stops.NoMemory

-- a result is what the bytes say, but for want of memory and a fault of the source
abbrev pub Gives : {X : Type 0} → Result X Stop → Result X ScriptFault → Type 0
Gives result meant = results.Gives (λ x. x) fault_of result meant

-- what came of the source so far led to this reading of a script, a race's or another
pub record HasCome (race : Bool) (old new : Option (List ℕ)) (reading : Reading) : Type 0 where
  pub bytes : List ℕ
  pub comes : Comes old bytes new
  pub leads : fed_all (unread race) bytes ≡ Ok reading

-- what came of the source so far leads on: no refusal and no limit stands in it
abbrev pub LeadsOn : (race : Bool) → (old new : Option (List ℕ)) → Type 0
LeadsOn race old new = (reading : Reading) × HasCome race old new reading

-- the piece holds what ends the reading; or the source ends, and that does
abbrev pub EndsIn : Reading → (piece : List ℕ) → (left : Option (List ℕ)) → ScriptFault → Type 0
EndsIn reading piece left fault =
    (fed_all reading piece ≡ Err fault)
    ⊎ ((piece ≡ []) × IsAtEnd left × (finished reading reading.line ≡ Err fault))

-- the source was read no further than the piece of up to 4,096 bytes in which the reading of the
-- script, a race's or another, ended
pub record HasStopped (race : Bool) (old new : Option (List ℕ)) (fault : ScriptFault)
    : Type 0 where
  pub before : List ℕ
  pub piece : List ℕ
  pub few : length piece ≤ 4096
  pub comes : Comes old (before ++ piece) new
  pub reading : Reading
  pub goes_on : fed_all (unread race) before ≡ Ok reading
  pub ends : EndsIn reading piece new fault
