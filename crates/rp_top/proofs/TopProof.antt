-- What the words of the program ask for, and what the calls answer to it.
use Rattle.std.proofs.Common.{◌≡◌, ℕ, ◌⊎◌, inl, inr, true, false, List, Option, None, Some, Result, Ok, Err, refl, ap, ◌∙◌, sym, subst}
use Rattle.rp_base.specs.declared.Which.{Which}
use Rattle.rp_gen.specs.Scripts.{script_of as generated}
use Rattle.rp_lines.specs.Players.{Player}
use Rattle.rp_outside.specs.Devices.{Adds, IsAll, IsAtEnd}
use Rattle.rp_outside.proofs.Told.{adds_none}
use Rattle.rp_racelines.specs.declared.verdicts.Verdict.TheVariants as verdicts
use Rattle.rp_script.specs.declared.faults.LineKind.{LineKind}
use Rattle.rp_script.specs.declared.faults.ScriptFault.{ScriptFault}
use Rattle.rp_script.specs.declared.faults.ScriptFault.TheVariants as faults
use Rattle.rp_top.specs.Answers.{Answers, Writes, IsOutput, fault_status, status_of}
use Rattle.rp_top.specs.Gives.{LeadsOn}
use Rattle.rp_top.specs.Races.{EndsRaceEarly, IsShownRace, MayEnd, RaceAnswers, race_script}
use Rattle.rp_top.specs.Runs.{EndsEarly, IsShownRun}
use Rattle.rp_top.specs.Scripts.{run_of}
use Rattle.rp_top.specs.Status.{code_of}
use Rattle.rp_top.specs.Tops.{EndsAsked, EndsAskedEarly, EndsOpen, EndsUnfinished, EndsWell, FailsReading, IsDue, IsStatusDue, IsStatusFor, IsTextDue, LeadsOnFor, StopsEarly, usage_line}
use Rattle.rp_top.specs.declared.statuses.Status.{Status}
use Rattle.rp_top.specs.declared.statuses.Status.TheVariants as statuses
use Rattle.rp_top.proofs.RaceProof.{some_script, writes_map}
use Rattle.rp_words.specs.Asked.{asked_of}
use Rattle.rp_words.specs.declared.asks.Asked.{Asked}
use Rattle.rp_words.specs.declared.asks.Asked.TheVariants as asks
use Rattle.rp_words.specs.declared.asks.Form.{Form}
use Rattle.rp_words.specs.declared.asks.RacePlan.{RacePlan}

-- a status by its code
coded_ok : (s : Status) → code_of s ≡ 0 → s ≡ statuses.Ok
coded_ok statuses.Ok e = refl
coded_ok statuses.Usage e = absurd (cc)
coded_ok (statuses.Refused line word kind) e = absurd (cc)
coded_ok (statuses.Limit which count) e = absurd (cc)
coded_ok statuses.ReadFault e = absurd (cc)
coded_ok statuses.WriteFault e = absurd (cc)
coded_ok statuses.NoMemory e = absurd (cc)
coded_ok (statuses.Unfinished unended) e = absurd (cc)

coded_usage : (s : Status) → code_of s ≡ 2 → s ≡ statuses.Usage
coded_usage statuses.Ok e = absurd (cc)
coded_usage statuses.Usage e = refl
coded_usage (statuses.Refused line word kind) e = absurd (cc)
coded_usage (statuses.Limit which count) e = absurd (cc)
coded_usage statuses.ReadFault e = absurd (cc)
coded_usage statuses.WriteFault e = absurd (cc)
coded_usage statuses.NoMemory e = absurd (cc)
coded_usage (statuses.Unfinished unended) e = absurd (cc)

coded_open : (s : Status) → code_of s ≡ 8 → (unended : ℕ) × (s ≡ statuses.Unfinished unended)
coded_open statuses.Ok e = absurd (cc)
coded_open statuses.Usage e = absurd (cc)
coded_open (statuses.Refused line word kind) e = absurd (cc)
coded_open (statuses.Limit which count) e = absurd (cc)
coded_open statuses.ReadFault e = absurd (cc)
coded_open statuses.WriteFault e = absurd (cc)
coded_open statuses.NoMemory e = absurd (cc)
coded_open (statuses.Unfinished unended) e = (unended, refl)

coded_fault : (s : Status) (n : ℕ) → (n ≡ 3) ⊎ (n ≡ 4) → n ≡ code_of s → (fault : ScriptFault) × (s ≡ fault_status fault)
coded_fault statuses.Ok n (inl three) e = absurd (cc)
coded_fault statuses.Ok n (inr four) e = absurd (cc)
coded_fault statuses.Usage n (inl three) e = absurd (cc)
coded_fault statuses.Usage n (inr four) e = absurd (cc)
coded_fault (statuses.Refused line word kind) n early e = (faults.Refused line word kind, refl)
coded_fault (statuses.Limit which count) n early e = (faults.Limit which count, refl)
coded_fault statuses.ReadFault n (inl three) e = absurd (cc)
coded_fault statuses.ReadFault n (inr four) e = absurd (cc)
coded_fault statuses.WriteFault n (inl three) e = absurd (cc)
coded_fault statuses.WriteFault n (inr four) e = absurd (cc)
coded_fault statuses.NoMemory n (inl three) e = absurd (cc)
coded_fault statuses.NoMemory n (inr four) e = absurd (cc)
coded_fault (statuses.Unfinished unended) n (inl three) e = absurd (cc)
coded_fault (statuses.Unfinished unended) n (inr four) e = absurd (cc)

coded_read : (s : Status) → code_of s ≡ 5 → s ≡ statuses.ReadFault
coded_read statuses.Ok e = absurd (cc)
coded_read statuses.Usage e = absurd (cc)
coded_read (statuses.Refused line word kind) e = absurd (cc)
coded_read (statuses.Limit which count) e = absurd (cc)
coded_read statuses.ReadFault e = refl
coded_read statuses.WriteFault e = absurd (cc)
coded_read statuses.NoMemory e = absurd (cc)
coded_read (statuses.Unfinished unended) e = absurd (cc)

-- what the answers of the whole program say
abbrev pub TopAnswers : Option (List ℕ) → List (List ℕ) → ℕ → (old new : Option (List ℕ)) → Type 0
TopAnswers left words code old new =
    (x : List ℕ) × (s : Status) × (due : Status) × IsAll left x × (code ≡ code_of s) × Writes s due (IsTextDue words x due) old new

abbrev pub TopComplete : Option (List ℕ) → List (List ℕ) → ℕ → Type 0
TopComplete left words code =
    (x : List ℕ) × IsAll left x × ((code ≡ 7) ⊎ ((due : Status) × (code ≡ code_of due) × IsStatusDue words x due))

abbrev pub TopEarly : List (List ℕ) → ℕ → (old new : Option (List ℕ)) → Type 0
TopEarly words code old new = (fault : ScriptFault) × (code ≡ code_of (fault_status fault)) × StopsEarly words fault old new

-- a run was asked for
pub run_answers : (left : Option (List ℕ)) (words : List (List ℕ)) (status : Status) (code : ℕ) (old new : Option (List ℕ)) (form : Form)
    → asked_of words ≡ Some (asks.Run form) → code ≡ code_of status → ((x : List ℕ) × IsAll left x × Answers status form (run_of x) old new)
    → TopAnswers left words code old new
run_answers left words status code old new form asked coded h =
    let due = status_of (run_of h.0) in
    let P : Option Asked → Type 0 = λ o. Writes status due (IsDue o h.0 due) old new in
    (h.0, status, due, h.1, coded, subst P (sym asked) (writes_map status due (IsOutput form (run_of h.0)) (IsDue (Some (asks.Run form)) h.0 due) old new (λ text is. (refl, is)) h.2))

pub run_well : (left now : Option (List ℕ)) (words : List (List ℕ)) (status : Status) (code : ℕ) (old new : Option (List ℕ)) (form : Form)
    → asked_of words ≡ Some (asks.Run form) → code ≡ code_of status
    → (status ≡ statuses.Ok → (x : List ℕ) × IsAll left x × IsShownRun form x old new) → (status ≡ statuses.Ok → IsAtEnd now)
    → code ≡ 0 → (x : List ℕ) × IsAll left x × EndsWell words x old new now
run_well left now words status code old new form asked coded shown end zero =
    let ok = coded_ok status (sym coded ∙ zero) in
    let h = shown ok in
    let P : Option Asked → Type 0 = λ o. EndsAsked o h.0 old new now in
    (h.0, h.1, subst P (sym asked) (h.2, end ok))

no_open_run : (unended : ℕ) (m : Result Player ScriptFault) → statuses.Unfinished unended ≡ status_of m → ⊥
no_open_run unended (Ok p) e = cc
no_open_run unended (Err (faults.Refused line word kind)) e = cc
no_open_run unended (Err (faults.Limit which count)) e = cc

pub run_open : (left : Option (List ℕ)) (status : Status) (code : ℕ) (old new : Option (List ℕ)) (form : Form) (A : Type 0)
    → code ≡ code_of status → ((x : List ℕ) × IsAll left x × Answers status form (run_of x) old new) → code ≡ 8 → A
run_open left status code old new form A coded h eight =
    let is = coded_open status (sym coded ∙ eight) in
    let a : Answers (statuses.Unfinished is.0) form (run_of h.0) old new = subst (λ (s : Status). Answers s form (run_of h.0) old new) is.1 h.2 in
    absurd (no_open_run is.0 (run_of h.0) a.0)

pub run_usage : (status : Status) (code : ℕ) (A : Type 0) → code ≡ code_of status → (status ≡ statuses.Usage → ⊥) → code ≡ 2 → A
run_usage status code A coded never two = absurd (never (coded_usage status (sym coded ∙ two)))

run_by : (status : Status) (fault : ScriptFault) (P : ScriptFault → Type 0)
    → ((line word : ℕ) (kind : LineKind) → status ≡ statuses.Refused line word kind → P (faults.Refused line word kind))
    → ((which : Which) (count : ℕ) → status ≡ statuses.Limit which count → P (faults.Limit which count)) → status ≡ fault_status fault → P fault
run_by status (faults.Refused line word kind) P refused limit is = refused line word kind is
run_by status (faults.Limit which count) P refused limit is = limit which count is

pub run_early : (left now : Option (List ℕ)) (words : List (List ℕ)) (status : Status) (code : ℕ) (form : Form)
    → asked_of words ≡ Some (asks.Run form) → code ≡ code_of status
    → ((line word : ℕ) (kind : LineKind) → status ≡ statuses.Refused line word kind → EndsEarly (faults.Refused line word kind) left now)
    → ((which : Which) (count : ℕ) → status ≡ statuses.Limit which count → EndsEarly (faults.Limit which count) left now)
    → (code ≡ 3) ⊎ (code ≡ 4) → TopEarly words code left now
run_early left now words status code form asked coded refused limit early =
    let is = coded_fault status code early coded in
    let P : Option Asked → Type 0 = λ o. EndsAskedEarly o is.0 left now in
    (is.0, coded ∙ ap code_of is.1, subst P (sym asked) (run_by status is.0 (λ f. EndsEarly f left now) refused limit is.1))

run_complete_by : (words : List (List ℕ)) (status : Status) (code : ℕ) (form : Form) (x : List ℕ) → asked_of words ≡ Some (asks.Run form) → code ≡ code_of status
    → (status ≡ statuses.NoMemory) ⊎ (status ≡ status_of (run_of x)) → (code ≡ 7) ⊎ ((due : Status) × (code ≡ code_of due) × IsStatusDue words x due)
run_complete_by words status code form x asked coded (inl memory) = inl (coded ∙ ap code_of memory)
run_complete_by words status code form x asked coded (inr is) =
    let P : Option Asked → Type 0 = λ o. IsStatusFor o x status in inr (status, coded, subst P (sym asked) is)

pub run_complete : (left : Option (List ℕ)) (words : List (List ℕ)) (status : Status) (code : ℕ) (form : Form)
    → asked_of words ≡ Some (asks.Run form) → code ≡ code_of status
    → ((x : List ℕ) × IsAll left x × ((status ≡ statuses.NoMemory) ⊎ (status ≡ status_of (run_of x)))) → TopComplete left words code
run_complete left words status code form asked coded h = (h.0, h.1, run_complete_by words status code form h.0 asked coded h.2)

pub run_fails : (left now : Option (List ℕ)) (words : List (List ℕ)) (status : Status) (code : ℕ) (form : Form)
    → asked_of words ≡ Some (asks.Run form) → code ≡ code_of status → (status ≡ statuses.ReadFault → LeadsOn false left now) → code ≡ 5 → FailsReading words left now
run_fails left now words status code form asked coded leads five =
    let P : Option Asked → Type 0 = λ o. LeadsOnFor o left now in subst P (sym asked) (leads (coded_read status (sym coded ∙ five)))

-- a race was asked for
pub race_fails : (left now : Option (List ℕ)) (words : List (List ℕ)) (status : Status) (code : ℕ) (plan : RacePlan)
    → asked_of words ≡ Some (asks.Race plan) → code ≡ code_of status → (status ≡ statuses.ReadFault → LeadsOn true left now) → code ≡ 5 → FailsReading words left now
race_fails left now words status code plan asked coded leads five =
    let P : Option Asked → Type 0 = λ o. LeadsOnFor o left now in subst P (sym asked) (leads (coded_read status (sym coded ∙ five)))

pub race_answers : (left : Option (List ℕ)) (words : List (List ℕ)) (status : Status) (code : ℕ) (old new : Option (List ℕ)) (plan : RacePlan)
    → asked_of words ≡ Some (asks.Race plan) → code ≡ code_of status → ((x : List ℕ) × IsAll left x × RaceAnswers status plan (race_script x) old new)
    → TopAnswers left words code old new
race_answers left words status code old new plan asked coded h =
    let P : Option Asked → Type 0 = λ o. Writes status h.2.0 (IsDue o h.0 h.2.0) old new in
    (h.0, status, h.2.0, h.1, coded, subst P (sym asked) h.2.1)

pub race_well : (left now : Option (List ℕ)) (words : List (List ℕ)) (status : Status) (code : ℕ) (old new : Option (List ℕ)) (plan : RacePlan)
    → asked_of words ≡ Some (asks.Race plan) → code ≡ code_of status
    → (status ≡ statuses.Ok → (x : List ℕ) × IsAll left x × IsShownRace plan verdicts.Ok x old new) → (status ≡ statuses.Ok → IsAtEnd now)
    → code ≡ 0 → (x : List ℕ) × IsAll left x × EndsWell words x old new now
race_well left now words status code old new plan asked coded shown end zero =
    let ok = coded_ok status (sym coded ∙ zero) in
    let h = shown ok in
    let P : Option Asked → Type 0 = λ o. EndsAsked o h.0 old new now in
    (h.0, h.1, subst P (sym asked) (h.2, end ok))

pub race_open : (left now : Option (List ℕ)) (words : List (List ℕ)) (status : Status) (code : ℕ) (old new : Option (List ℕ)) (plan : RacePlan)
    → asked_of words ≡ Some (asks.Race plan) → code ≡ code_of status
    → ((unended : ℕ) → status ≡ statuses.Unfinished unended → (x : List ℕ) × IsAll left x × IsShownRace plan (verdicts.Unfinished unended) x old new)
    → ((unended : ℕ) → status ≡ statuses.Unfinished unended → IsAtEnd now)
    → code ≡ 8 → (x : List ℕ) × IsAll left x × EndsUnfinished words x old new now
race_open left now words status code old new plan asked coded shown end eight =
    let is = coded_open status (sym coded ∙ eight) in
    let h = shown is.0 is.1 in
    let P : Option Asked → Type 0 = λ o. EndsOpen o h.0 old new now in
    (h.0, h.1, subst P (sym asked) (is.0, h.2, end is.0 is.1))

pub race_early : (left now : Option (List ℕ)) (words : List (List ℕ)) (status : Status) (code : ℕ) (plan : RacePlan)
    → asked_of words ≡ Some (asks.Race plan) → code ≡ code_of status
    → ((line word : ℕ) (kind : LineKind) → status ≡ statuses.Refused line word kind → EndsRaceEarly (faults.Refused line word kind) left now)
    → ((which : Which) (count : ℕ) → status ≡ statuses.Limit which count → EndsRaceEarly (faults.Limit which count) left now)
    → (code ≡ 3) ⊎ (code ≡ 4) → TopEarly words code left now
race_early left now words status code plan asked coded refused limit early =
    let is = coded_fault status code early coded in
    let P : Option Asked → Type 0 = λ o. EndsAskedEarly o is.0 left now in
    (is.0, coded ∙ ap code_of is.1, subst P (sym asked) (run_by status is.0 (λ f. EndsRaceEarly f left now) refused limit is.1))

race_complete_by : (words : List (List ℕ)) (status : Status) (code : ℕ) (plan : RacePlan) (x : List ℕ) → asked_of words ≡ Some (asks.Race plan) → code ≡ code_of status
    → (status ≡ statuses.NoMemory) ⊎ MayEnd (race_script x) status → (code ≡ 7) ⊎ ((due : Status) × (code ≡ code_of due) × IsStatusDue words x due)
race_complete_by words status code plan x asked coded (inl memory) = inl (coded ∙ ap code_of memory)
race_complete_by words status code plan x asked coded (inr may) =
    let P : Option Asked → Type 0 = λ o. IsStatusFor o x status in inr (status, coded, subst P (sym asked) may)

pub race_complete : (left : Option (List ℕ)) (words : List (List ℕ)) (status : Status) (code : ℕ) (plan : RacePlan)
    → asked_of words ≡ Some (asks.Race plan) → code ≡ code_of status
    → ((x : List ℕ) × IsAll left x × ((status ≡ statuses.NoMemory) ⊎ MayEnd (race_script x) status)) → TopComplete left words code
race_complete left words status code plan asked coded h = (h.0, h.1, race_complete_by words status code plan h.0 asked coded h.2)

-- a script was asked for
pub made_answers : (left : Option (List ℕ)) (words : List (List ℕ)) (status : Status) (code : ℕ) (old new : Option (List ℕ)) (number size : ℕ)
    → asked_of words ≡ Some (asks.Gen number size) → code ≡ code_of status → Writes status statuses.Ok (λ text. text ≡ generated number size) old new
    → TopAnswers left words code old new
made_answers left words status code old new number size asked coded writes =
    let script = some_script left in
    let P : Option Asked → Type 0 = λ o. Writes status statuses.Ok (IsDue o script.0 statuses.Ok) old new in
    (script.0, status, statuses.Ok, script.1, coded, subst P (sym asked) (writes_map status statuses.Ok (λ text. text ≡ generated number size) (IsDue (Some (asks.Gen number size)) script.0 statuses.Ok) old new (λ text is. (refl, is)) writes))

made_adds : (status : Status) (old new : Option (List ℕ)) (number size : ℕ) → Writes status statuses.Ok (λ text. text ≡ generated number size) old new
    → status ≡ statuses.Ok → Adds old (generated number size) new
made_adds status old new number size h ok =
    let a : Writes statuses.Ok statuses.Ok (λ text. text ≡ generated number size) old new = subst (λ (s : Status). Writes s statuses.Ok (λ text. text ≡ generated number size) old new) ok h in
    subst (λ (text : List ℕ). Adds old text new) a.1.1 a.1.2

pub made_well : (left now : Option (List ℕ)) (words : List (List ℕ)) (status : Status) (code : ℕ) (old new : Option (List ℕ)) (number size : ℕ)
    → asked_of words ≡ Some (asks.Gen number size) → code ≡ code_of status → Writes status statuses.Ok (λ text. text ≡ generated number size) old new
    → code ≡ 0 → (x : List ℕ) × IsAll left x × EndsWell words x old new now
made_well left now words status code old new number size asked coded writes zero =
    let script = some_script left in
    let P : Option Asked → Type 0 = λ o. EndsAsked o script.0 old new now in
    (script.0, script.1, subst P (sym asked) (made_adds status old new number size writes (coded_ok status (sym coded ∙ zero))))

pub made_complete : (left : Option (List ℕ)) (words : List (List ℕ)) (status : Status) (code : ℕ) (B : Type 0) (number size : ℕ)
    → asked_of words ≡ Some (asks.Gen number size) → code ≡ code_of status
    → (status ≡ statuses.Ok) ⊎ ((status ≡ statuses.WriteFault) ⊎ (status ≡ statuses.NoMemory)) → (status ≡ statuses.WriteFault → B) → ¬ B
    → TopComplete left words code
made_complete left words status code B number size asked coded (inl ok) cause never =
    let script = some_script left in
    let P : Option Asked → Type 0 = λ o. IsStatusFor o script.0 status in
    (script.0, script.1, inr (status, coded, subst P (sym asked) ok))
made_complete left words status code B number size asked coded (inr (inl fault)) cause never = absurd (never (cause fault))
made_complete left words status code B number size asked coded (inr (inr memory)) cause never =
    let script = some_script left in (script.0, script.1, inl (coded ∙ ap code_of memory))

-- nothing was asked for
pub unused_answers : (left : Option (List ℕ)) (words : List (List ℕ)) (status : Status) (code : ℕ) (old new : Option (List ℕ))
    → asked_of words ≡ None → code ≡ code_of status → Writes status statuses.Usage (λ text. text ≡ usage_line) old new
    → TopAnswers left words code old new
unused_answers left words status code old new unused coded writes =
    let script = some_script left in
    let P : Option Asked → Type 0 = λ o. Writes status statuses.Usage (IsDue o script.0 statuses.Usage) old new in
    (script.0, status, statuses.Usage, script.1, coded, subst P (sym unused) (writes_map status statuses.Usage (λ text. text ≡ usage_line) (IsDue None script.0 statuses.Usage) old new (λ text is. (refl, is)) writes))

pub unused_complete : (left : Option (List ℕ)) (words : List (List ℕ)) (status : Status) (code : ℕ) (B : Type 0)
    → asked_of words ≡ None → code ≡ code_of status → (status ≡ statuses.Usage) ⊎ (status ≡ statuses.WriteFault) → (status ≡ statuses.WriteFault → B) → ¬ B
    → TopComplete left words code
unused_complete left words status code B unused coded (inl usage) cause never =
    let script = some_script left in
    let P : Option Asked → Type 0 = λ o. IsStatusFor o script.0 status in
    (script.0, script.1, inr (status, coded, subst P (sym unused) usage))
unused_complete left words status code B unused coded (inr fault) cause never = absurd (never (cause fault))

-- memory for the words was refused
pub refused_answers : (left : Option (List ℕ)) (words : List (List ℕ)) (code : ℕ) (held : Option (List ℕ)) → code ≡ 7 → TopAnswers left words code held held
refused_answers left words code held coded =
    let script = some_script left in (script.0, statuses.NoMemory, statuses.Ok, script.1, coded, adds_none held)

pub refused_complete : (left : Option (List ℕ)) (words : List (List ℕ)) (code : ℕ) → code ≡ 7 → TopComplete left words code
refused_complete left words code coded = let script = some_script left in (script.0, script.1, inl coded)
