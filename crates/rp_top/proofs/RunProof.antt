-- What a run answers, by the script that it read and by what playing it made.
use Rattle.std.proofs.Common.{◌≡◌, ℕ, ◌⊎◌, inl, inr, false, List, Option, Result, Ok, Err, refl, ap, ◌∙◌, sym, subst}
use Rattle.rp_events.specs.Lawful.{IsReached}
use Rattle.rp_lines.specs.Players.{Player, Played}
use Rattle.rp_outside.specs.Devices.{Adds, IsAll, IsAtEnd}
use Rattle.rp_promise.proofs.Along.{kept_by_reached}
use Rattle.rp_script.specs.declared.faults.ScriptFault.{ScriptFault}
use Rattle.rp_script.specs.declared.faults.ScriptFault.TheVariants as faults
use Rattle.rp_script.specs.declared.lines.NumberedLine.{NumberedLine}
use Rattle.rp_top.specs.Answers.{Answers, Writes, IsOutput, fault_line, fault_status, status_of}
use Rattle.rp_top.specs.Gives.{HasStopped}
use Rattle.rp_racelines.specs.Rules.{nodes_in}
use Rattle.rp_top.specs.Runs.{EndsEarly, IsShownRun, StopsAs}
use Rattle.rp_top.specs.Scripts.{by_play, play_of, run_by, run_of, script_of}
use Rattle.rp_top.specs.declared.statuses.Status.{Status}
use Rattle.rp_top.specs.declared.statuses.Status.TheVariants as statuses
use Rattle.rp_words.specs.declared.asks.Form.{Form}

-- a play that came to its end
pub played_to : (r : Played) (p : Player) → by_play r ≡ Ok p → r ≡ Ok p
played_to (Ok q) p e = cc
played_to (Err limit) p e = absurd (cc)

-- what was due is what came, but for a fault or want of memory
due_is : (fault : ScriptFault) (due : Status) (IsText : List ℕ → Type 0) (old new : Option (List ℕ))
    → Writes (fault_status fault) due IsText old new → fault_status fault ≡ due
due_is (faults.Refused line word kind) due IsText old new h = h.0
due_is (faults.Limit which count) due IsText old new h = h.0

-- a status tells the fault
pub same_fault : (a b : ScriptFault) → fault_status a ≡ fault_status b → a ≡ b
same_fault (faults.Refused line word kind) (faults.Refused l w k) e = cc
same_fault (faults.Refused line word kind) (faults.Limit which count) e = absurd (cc)
same_fault (faults.Limit which count) (faults.Refused line word kind) e = absurd (cc)
same_fault (faults.Limit which count) (faults.Limit w c) e = cc

no_end : (fault : ScriptFault) → fault_status fault ≡ statuses.Ok → ⊥
no_end (faults.Refused line word kind) e = cc
no_end (faults.Limit which count) e = cc

fault_of_status : (m : Result Player ScriptFault) (fault : ScriptFault) → fault_status fault ≡ status_of m → m ≡ Err fault
fault_of_status (Ok p) fault e = absurd (no_end fault e)
fault_of_status (Err first) fault e = ap (λ f. let r : Result Player ScriptFault = Err f in r) (sym (same_fault fault first e))

-- a fault that came was due
pub came_due : (status : Status) (due : Status) (IsText : List ℕ → Type 0) (old new : Option (List ℕ)) (fault : ScriptFault)
    → Writes status due IsText old new → status ≡ fault_status fault → fault_status fault ≡ due
came_due status due IsText old new fault h e =
    let P : Status → Type 0 = λ s. Writes s due IsText old new in
    due_is fault due IsText old new (subst P e h)

-- what a played script answers, of the lines that were read
answers_of : (left : Option (List ℕ)) (status : Status) (form : Form) (old new : Option (List ℕ)) (lines shown : List NumberedLine)
    → (read : (x : List ℕ) × IsAll left x × (script_of x ≡ Ok lines)) → shown ≡ lines → Answers status form (by_play (play_of shown)) old new
    → Answers status form (run_of read.0) old new
answers_of left status form old new lines shown read same answers =
    let P : Result (List NumberedLine) ScriptFault → Type 0 = λ m. Answers status form (run_by m) old new in
    subst P (ap (λ g. Ok g) same ∙ sym read.2) answers

pub answered : (left : Option (List ℕ)) (status : Status) (form : Form) (old new : Option (List ℕ)) (lines shown : List NumberedLine)
    → ((x : List ℕ) × IsAll left x × (script_of x ≡ Ok lines)) → shown ≡ lines → Answers status form (by_play (play_of shown)) old new
    → (x : List ℕ) × IsAll left x × Answers status form (run_of x) old new
answered left status form old new lines shown read same answers =
    (read.0, read.1, answers_of left status form old new lines shown read same answers)

-- what a script answers that was not played
pub unplayed : (left : Option (List ℕ)) (status : Status) (form : Form) (old new : Option (List ℕ)) (fault : ScriptFault)
    → ((x : List ℕ) × IsAll left x × (script_of x ≡ Err fault))
    → Writes status (fault_status fault) (λ text. text ≡ fault_line fault) old new
    → (x : List ℕ) × IsAll left x × Answers status form (run_of x) old new
unplayed left status form old new fault read writes =
    let P : Result (List NumberedLine) ScriptFault → Type 0 = λ m. Answers status form (run_by m) old new in
    (read.0, read.1, subst P (sym read.2) writes)

-- the end of a script that was played to its end
pub shown_run : (left : Option (List ℕ)) (status : Status) (form : Form) (old new : Option (List ℕ)) (lines shown : List NumberedLine)
    → ((x : List ℕ) × IsAll left x × (script_of x ≡ Ok lines)) → shown ≡ lines → Answers status form (by_play (play_of shown)) old new
    → (status ≡ statuses.Ok → (p : Player) × (play_of shown ≡ Ok p) × IsReached (nodes_in shown) p.world.nodes)
    → status ≡ statuses.Ok → (x : List ℕ) × IsAll left x × IsShownRun form x old new
shown_run left status form old new lines shown read same answers reached ok =
    let end = reached ok in
    let P : Status → Type 0 = λ s. Answers s form (by_play (play_of shown)) old new in
    let Q : Played → Type 0 = λ r. Answers statuses.Ok form (by_play r) old new in
    let written = (subst Q end.1 (subst P ok answers)).1 in
    let view = written.1 in (
      read.0,
      read.1,
      record {
        lines = shown;
        script = read.2 ∙ ap (λ g. let r : Result (List NumberedLine) ScriptFault = Ok g in r) (sym same);
        player = end.0;
        played = end.1;
        reached = end.2;
        promise = kept_by_reached (nodes_in shown) end.0.world.nodes end.2;
        view = view.0;
        shows = view.1;
        written = subst (λ (text : List ℕ). Adds old text new) view.2 written.2;
      },
    )

-- a play that ended early, behind the whole source
pub ended_in_play : (left now : Option (List ℕ)) (status : Status) (form : Form) (old new : Option (List ℕ)) (lines shown : List NumberedLine)
    → ((x : List ℕ) × IsAll left x × (script_of x ≡ Ok lines)) → shown ≡ lines → IsAtEnd now → Answers status form (by_play (play_of shown)) old new
    → (fault : ScriptFault) → status ≡ fault_status fault → EndsEarly fault left now
ended_in_play left now status form old new lines shown read same end answers fault came =
    record {
      bytes = read.0;
      all = read.1;
      meant = fault_of_status (run_of read.0) fault (came_due status (status_of (run_of read.0)) (IsOutput form (run_of read.0)) old new fault
          (answers_of left status form old new lines shown read same answers) came);
      stopped = subst (λ (m : Result (List NumberedLine) ScriptFault). StopsAs m left now fault) (sym read.2) end;
    }

-- a reading that ended early
pub ended_in_reading : (left now : Option (List ℕ)) (status : Status) (old new : Option (List ℕ)) (first : ScriptFault)
    → ((x : List ℕ) × IsAll left x × (script_of x ≡ Err first)) → HasStopped false left now first
    → Writes status (fault_status first) (λ text. text ≡ fault_line first) old new
    → (fault : ScriptFault) → status ≡ fault_status fault → EndsEarly fault left now
ended_in_reading left now status old new first read stopped writes fault came =
    let same : fault ≡ first = same_fault fault first (came_due status (fault_status first) (λ text. text ≡ fault_line first) old new fault writes came) in
    let P : ScriptFault → Type 0 = λ f. EndsEarly f left now in
    subst P (sym same) (record {
      bytes = read.0;
      all = read.1;
      meant = ap run_by read.2;
      stopped = subst (λ (m : Result (List NumberedLine) ScriptFault). StopsAs m left now first) (sym read.2) stopped;
    })

-- a status that is no end of a run
pub no_fault : (status : Status) (A : Type 0) → status ≡ statuses.ReadFault → (fault : ScriptFault) → status ≡ fault_status fault → A
no_fault status A is (faults.Refused line word kind) e = absurd (cc)
no_fault status A is (faults.Limit which count) e = absurd (cc)

pub no_memory : (status : Status) (A : Type 0) → status ≡ statuses.NoMemory → (fault : ScriptFault) → status ≡ fault_status fault → A
no_memory status A is (faults.Refused line word kind) e = absurd (cc)
no_memory status A is (faults.Limit which count) e = absurd (cc)

-- the answer that is due where nothing fails
pub due_or_memory : (status : Status) (form : Form) (m : Result Player ScriptFault) (old new : Option (List ℕ))
    → Answers status form m old new → (status ≡ statuses.ReadFault → ⊥) → (status ≡ statuses.WriteFault → ⊥)
    → (status ≡ statuses.NoMemory) ⊎ (status ≡ status_of m)
due_or_memory statuses.Ok form m old new h read write = inr h.0
due_or_memory statuses.Usage form m old new h read write = inr h.0
due_or_memory (statuses.Refused line word kind) form m old new h read write = inr h.0
due_or_memory (statuses.Limit which count) form m old new h read write = inr h.0
due_or_memory statuses.ReadFault form m old new h read write = absurd (read refl)
due_or_memory statuses.WriteFault form m old new h read write = absurd (write refl)
due_or_memory statuses.NoMemory form m old new h read write = inl refl
due_or_memory (statuses.Unfinished unended) form m old new h read write = inr h.0
