-- What a race answers, by the script that it read and by how it ended.
use Rattle.std.proofs.Common.{◌≡◌, ℕ, ◌≤◌, ◌<◌, ◌^◌, ◌⊎◌, inl, inr, true, List, [], length, All, Option, Result, Ok, Err, refl, ap, ◌∙◌, sym, subst, arith}
use Rattle.rp_events.specs.Lawful.{IsReached}
use Rattle.rp_events.specs.Worlds.{World}
use Rattle.rp_lines.specs.Views.{IsViewWith}
use Rattle.rp_outside.specs.Devices.{Adds, AddsFront, IsAll}
use Rattle.rp_outside.proofs.Told.{adds_none}
use Rattle.rp_promise.proofs.Along.{kept_by_reached}
use Rattle.rp_race.specs.Race.{IsPlayed}
use Rattle.rp_race.specs.declared.rules.RaceRules.{RaceRules}
use Rattle.rp_racelines.specs.Replies.{race_replies}
use Rattle.rp_racelines.specs.Rules.{AreOfWorld, nodes_in}
use Rattle.rp_racelines.specs.Verdicts.{EndsBy, command_count}
use Rattle.rp_racelines.specs.declared.verdicts.Verdict.{Verdict}
use Rattle.rp_racelines.specs.declared.verdicts.Verdict.TheVariants as verdicts
use Rattle.rp_racelines.proofs.Scripted.{few_clients, few_commands, of_world}
use Rattle.rp_racelines.proofs.Showing.{all_shown}
use Rattle.rp_report.specs.Shown.{IsShownAnswer}
use Rattle.rp_report.specs.declared.views.View.{View}
use Rattle.rp_request.specs.declared.notes.ReplyLine.{ReplyLine}
use Rattle.rp_script.specs.Bounds.{IsScript, IsFromTo}
use Rattle.rp_script.specs.declared.faults.ScriptFault.{ScriptFault}
use Rattle.rp_script.specs.declared.faults.ScriptFault.TheVariants as faults
use Rattle.rp_script.specs.declared.lines.NumberedLine.{NumberedLine}
use Rattle.rp_top.specs.Answers.{Writes, fault_line, fault_status, written}
use Rattle.rp_top.specs.Gives.{HasStopped}
use Rattle.rp_top.specs.Races.{EndsRaceEarly, IsRaceDue, IsShownRace, MayEnd, RaceAnswers, ShowsRace, race_script, rules_by}
use Rattle.rp_top.specs.declared.statuses.Status.{Status}
use Rattle.rp_top.specs.declared.statuses.Status.TheVariants as statuses
use Rattle.rp_top.proofs.Playing.{front_of}
use Rattle.rp_top.proofs.ReadsSource.{any_script}
use Rattle.rp_top.proofs.RunProof.{came_due, same_fault}
use Rattle.rp_words.specs.declared.asks.RacePlan.{RacePlan}

-- what the rules of a script keep to
pub few_nodes : (ls : List NumberedLine) → IsScript ls → length ls ≤ 65536 → IsFromTo 1 5 (nodes_in ls)
few_nodes ls script few =
    let f = front_of ls script few in
    subst (λ (xs : List NumberedLine). IsFromTo 1 5 (nodes_in xs)) (sym f.3) f.4

pub rules_of_world : (plan : RacePlan) (ls : List NumberedLine) (rules : RaceRules) → rules ≡ rules_by plan ls → IsScript ls → AreOfWorld (nodes_in ls) rules
rules_of_world plan ls rules is script =
    subst (λ (r : RaceRules). AreOfWorld (nodes_in ls) r) (sym is) (of_world plan.loss plan.salt ls script)

pub clients_few : (plan : RacePlan) (ls : List NumberedLine) (rules : RaceRules) → rules ≡ rules_by plan ls → IsScript ls → length rules.requests ≤ 64
clients_few plan ls rules is script =
    subst (λ (r : RaceRules). length r.requests ≤ 64) (sym is) (few_clients ls script)

pub commands_few : (plan : RacePlan) (ls : List NumberedLine) (rules : RaceRules) → rules ≡ rules_by plan ls → length ls ≤ 65536 → command_count rules < 2 ^ 32
commands_few plan ls rules is few =
    subst (λ (r : RaceRules). command_count r < 2 ^ 32) (sym is)
    (let most = few_commands plan.loss plan.salt ls in omega (arith, most, few))

-- the world at the close, and its reply lines
pub reached_size : (nodes size : ℕ) (w : World) → size ≡ nodes → IsReached nodes w → IsReached size w
reached_size nodes size w same reached = subst (λ (n : ℕ). IsReached n w) (sym same) reached

pub replies_shown : (nodes : ℕ) (rules : RaceRules) (w : World) (replies : List ReplyLine) → IsReached nodes w → replies ≡ race_replies rules w → All IsShownAnswer replies
replies_shown nodes rules w replies reached told =
    subst (λ (rs : List ReplyLine). All IsShownAnswer rs) (sym told) (all_shown nodes w reached rules)

pub shows_race : (plan : RacePlan) (ls : List NumberedLine) (rules : RaceRules) (w : World) (replies : List ReplyLine) (verdict : Verdict) (text : List ℕ)
    → rules ≡ rules_by plan ls → IsReached (nodes_in ls) w → IsPlayed rules w → replies ≡ race_replies rules w → EndsBy rules w verdict
    → ((v : View) × IsViewWith w replies [] v × (text ≡ written plan.form v)) → ShowsRace plan ls verdict text
shows_race plan ls rules w replies verdict text is reached played told ends shown = record {
  world = w;
  reached = reached;
  played = subst (λ (r : RaceRules). IsPlayed r w) is played;
  promise = kept_by_reached (nodes_in ls) w reached;
  ends = subst (λ (r : RaceRules). EndsBy r w verdict) is ends;
  view = shown.0;
  shows = subst (λ (rs : List ReplyLine). IsViewWith w rs [] shown.0) (told ∙ ap (λ (r : RaceRules). race_replies r w) is) shown.1;
  is = shown.2;
}

-- the status by the verdict
pub due_by : (plan : RacePlan) (ls : List NumberedLine) (verdict : Verdict) (status : Status) (text : List ℕ) → (verdict ≡ verdicts.GoesOn → ⊥)
    → (verdict ≡ verdicts.Ok → status ≡ statuses.Ok) → ((unended : ℕ) → verdict ≡ verdicts.Unfinished unended → status ≡ statuses.Unfinished unended)
    → ShowsRace plan ls verdict text → IsRaceDue plan (Ok ls) status text
due_by plan ls verdicts.Ok status text over ended left shows =
    subst (λ (s : Status). IsRaceDue plan (Ok ls) s text) (sym (ended refl)) shows
due_by plan ls (verdicts.Unfinished unended) status text over ended left shows =
    subst (λ (s : Status). IsRaceDue plan (Ok ls) s text) (sym (left unended refl)) shows
due_by plan ls verdicts.GoesOn status text over ended left shows = absurd (over refl)

-- what is written of a race that ended
pub written_race : (plan : RacePlan) (ls : List NumberedLine) (status : Status) (text : List ℕ) (old new : Option (List ℕ))
    → IsRaceDue plan (Ok ls) status text → Adds old text new → RaceAnswers status plan (Ok ls) old new
written_race plan ls statuses.Ok text old new due adds = (statuses.Ok, (refl, (text, due, adds)))
written_race plan ls (statuses.Unfinished unended) text old new due adds = (statuses.Unfinished unended, (refl, (text, due, adds)))
written_race plan ls statuses.Usage text old new due adds = absurd due
written_race plan ls (statuses.Refused line word kind) text old new due adds = absurd due
written_race plan ls (statuses.Limit which count) text old new due adds = absurd due
written_race plan ls statuses.ReadFault text old new due adds = absurd due
written_race plan ls statuses.WriteFault text old new due adds = absurd due
written_race plan ls statuses.NoMemory text old new due adds = absurd due

pub failed_race : (plan : RacePlan) (ls : List NumberedLine) (status : Status) (text : List ℕ) (old new : Option (List ℕ))
    → IsRaceDue plan (Ok ls) status text → AddsFront old text new → RaceAnswers statuses.WriteFault plan (Ok ls) old new
failed_race plan ls status text old new due front = (status, (text, due, front))

pub no_memory_race : (held : Option (List ℕ)) → Status × Adds held [] held
no_memory_race held = (statuses.Ok, adds_none held)

-- nothing was played
pub some_script : (left : Option (List ℕ)) → (x : List ℕ) × IsAll left x
some_script left = let any = any_script left in (any.0, any.1)

pub unread_race : (left held : Option (List ℕ)) → (x : List ℕ) × IsAll left x × (Status × Adds held [] held)
unread_race left held = let script = some_script left in (script.0, script.1, no_memory_race held)

pub never_write_fault : (plan : RacePlan) (ls : List NumberedLine) (status : Status) (text : List ℕ) → IsRaceDue plan (Ok ls) status text → status ≡ statuses.WriteFault → ⊥
never_write_fault plan ls status text due e = subst (λ (s : Status). IsRaceDue plan (Ok ls) s text) e due

pub never_read_fault : (plan : RacePlan) (ls : List NumberedLine) (status : Status) (text : List ℕ) → IsRaceDue plan (Ok ls) status text → status ≡ statuses.ReadFault → ⊥
never_read_fault plan ls status text due e = subst (λ (s : Status). IsRaceDue plan (Ok ls) s text) e due

-- a due text by another reading of it
pub writes_map : (status due : Status) (P Q : List ℕ → Type 0) (old new : Option (List ℕ)) → ((text : List ℕ) → P text → Q text) → Writes status due P old new → Writes status due Q old new
writes_map statuses.Ok due P Q old new f h = (h.0, (h.1.0, f h.1.0 h.1.1, h.1.2))
writes_map statuses.Usage due P Q old new f h = (h.0, (h.1.0, f h.1.0 h.1.1, h.1.2))
writes_map (statuses.Refused line word kind) due P Q old new f h = (h.0, (h.1.0, f h.1.0 h.1.1, h.1.2))
writes_map (statuses.Limit which count) due P Q old new f h = (h.0, (h.1.0, f h.1.0 h.1.1, h.1.2))
writes_map statuses.ReadFault due P Q old new f h = h
writes_map statuses.WriteFault due P Q old new f h = (h.0, f h.0 h.1, h.2)
writes_map statuses.NoMemory due P Q old new f h = h
writes_map (statuses.Unfinished unended) due P Q old new f h = (h.0, (h.1.0, f h.1.0 h.1.1, h.1.2))

-- a race of the lines that were read
pub raced_answers : (left : Option (List ℕ)) (status : Status) (plan : RacePlan) (old new : Option (List ℕ)) (lines shown : List NumberedLine)
    → ((x : List ℕ) × IsAll left x × (race_script x ≡ Ok lines)) → shown ≡ lines → RaceAnswers status plan (Ok shown) old new
    → (x : List ℕ) × IsAll left x × RaceAnswers status plan (race_script x) old new
raced_answers left status plan old new lines shown read same answers =
    let P : Result (List NumberedLine) ScriptFault → Type 0 = λ m. RaceAnswers status plan m old new in
    (read.0, read.1, subst P (ap (λ g. Ok g) same ∙ sym read.2) answers)

-- bytes that are no race's script
pub unraced : (left : Option (List ℕ)) (status : Status) (plan : RacePlan) (old new : Option (List ℕ)) (fault : ScriptFault)
    → ((x : List ℕ) × IsAll left x × (race_script x ≡ Err fault)) → Writes status (fault_status fault) (λ text. text ≡ fault_line fault) old new
    → (x : List ℕ) × IsAll left x × RaceAnswers status plan (race_script x) old new
unraced left status plan old new fault read writes =
    let P : Result (List NumberedLine) ScriptFault → Type 0 = λ m. RaceAnswers status plan m old new in (
      read.0,
      read.1,
      subst P (sym read.2)
          (fault_status fault, writes_map status (fault_status fault) (λ text. text ≡ fault_line fault) (IsRaceDue plan (Err fault) (fault_status fault)) old new (λ text is. (refl, is)) writes),
    )

-- where a race was played no refusal or limit is answered
fault_never_due : (plan : RacePlan) (ls : List NumberedLine) (fault : ScriptFault) (text : List ℕ) → IsRaceDue plan (Ok ls) (fault_status fault) text → ⊥
fault_never_due plan ls (faults.Refused line word kind) text due = due
fault_never_due plan ls (faults.Limit which count) text due = due

due_of_fault : (fault : ScriptFault) (due : Status) (P : List ℕ → Type 0) (old new : Option (List ℕ)) → Writes (fault_status fault) due P old new
    → (fault_status fault ≡ due) × ((text : List ℕ) × P text × Adds old text new)
due_of_fault (faults.Refused line word kind) due P old new h = h
due_of_fault (faults.Limit which count) due P old new h = h

pub never_early : (status : Status) (plan : RacePlan) (ls : List NumberedLine) (old new : Option (List ℕ)) (fault : ScriptFault) (A : Type 0)
    → RaceAnswers status plan (Ok ls) old new → status ≡ fault_status fault → A
never_early status plan ls old new fault A answers came =
    let at : RaceAnswers (fault_status fault) plan (Ok ls) old new = subst (λ (s : Status). RaceAnswers s plan (Ok ls) old new) came answers in
    let h = due_of_fault fault at.0 (IsRaceDue plan (Ok ls) at.0) old new at.1 in
    absurd (fault_never_due plan ls fault h.1.0 (subst (λ (s : Status). IsRaceDue plan (Ok ls) s h.1.0) (sym h.0) h.1.1))

-- a reading that ended early
pub ended_race : (left now : Option (List ℕ)) (status : Status) (old new : Option (List ℕ)) (first : ScriptFault)
    → ((x : List ℕ) × IsAll left x × (race_script x ≡ Err first)) → HasStopped true left now first
    → Writes status (fault_status first) (λ text. text ≡ fault_line first) old new
    → (fault : ScriptFault) → status ≡ fault_status fault → EndsRaceEarly fault left now
ended_race left now status old new first read stopped writes fault came =
    let same : fault ≡ first = same_fault fault first (came_due status (fault_status first) (λ text. text ≡ fault_line first) old new fault writes came) in
    let P : ScriptFault → Type 0 = λ f. EndsRaceEarly f left now in
    subst P (sym same) (record {
      bytes = read.0;
      all = read.1;
      meant = read.2;
      stopped = stopped;
    })

-- what the answers say at each status
no_ok_fault : (fault : ScriptFault) → statuses.Ok ≡ fault_status fault → ⊥
no_ok_fault (faults.Refused line word kind) e = cc
no_ok_fault (faults.Limit which count) e = cc

no_open_fault : (unended : ℕ) (fault : ScriptFault) → statuses.Unfinished unended ≡ fault_status fault → ⊥
no_open_fault unended (faults.Refused line word kind) e = cc
no_open_fault unended (faults.Limit which count) e = cc

no_usage_fault : (fault : ScriptFault) → statuses.Usage ≡ fault_status fault → ⊥
no_usage_fault (faults.Refused line word kind) e = cc
no_usage_fault (faults.Limit which count) e = cc

ok_by : (plan : RacePlan) (x : List ℕ) (meant : Result (List NumberedLine) ScriptFault) (old new : Option (List ℕ)) → race_script x ≡ meant
    → RaceAnswers statuses.Ok plan meant old new → IsShownRace plan verdicts.Ok x old new
ok_by plan x (Ok ls) old new meant a = record {
  lines = ls;
  script = meant;
  text = a.1.1.0;
  shows = subst (λ (s : Status). IsRaceDue plan (Ok ls) s a.1.1.0) (sym a.1.0) a.1.1.1;
  written = a.1.1.2;
}
ok_by plan x (Err fault) old new meant a = absurd (no_ok_fault fault (a.1.0 ∙ a.1.1.1.0))

open_by : (plan : RacePlan) (unended : ℕ) (x : List ℕ) (meant : Result (List NumberedLine) ScriptFault) (old new : Option (List ℕ)) → race_script x ≡ meant
    → RaceAnswers (statuses.Unfinished unended) plan meant old new → IsShownRace plan (verdicts.Unfinished unended) x old new
open_by plan unended x (Ok ls) old new meant a = record {
  lines = ls;
  script = meant;
  text = a.1.1.0;
  shows = subst (λ (s : Status). IsRaceDue plan (Ok ls) s a.1.1.0) (sym a.1.0) a.1.1.1;
  written = a.1.1.2;
}
open_by plan unended x (Err fault) old new meant a = absurd (no_open_fault unended fault (a.1.0 ∙ a.1.1.1.0))

usage_by : (plan : RacePlan) (meant : Result (List NumberedLine) ScriptFault) (old new : Option (List ℕ)) → RaceAnswers statuses.Usage plan meant old new → ⊥
usage_by plan (Ok ls) old new a = subst (λ (s : Status). IsRaceDue plan (Ok ls) s a.1.1.0) (sym a.1.0) a.1.1.1
usage_by plan (Err fault) old new a = no_usage_fault fault (a.1.0 ∙ a.1.1.1.0)

pub shown_race : (left : Option (List ℕ)) (status : Status) (plan : RacePlan) (old new : Option (List ℕ))
    → ((x : List ℕ) × IsAll left x × RaceAnswers status plan (race_script x) old new) → status ≡ statuses.Ok
    → (x : List ℕ) × IsAll left x × IsShownRace plan verdicts.Ok x old new
shown_race left status plan old new h ok =
    (h.0, h.1, ok_by plan h.0 (race_script h.0) old new refl (subst (λ (s : Status). RaceAnswers s plan (race_script h.0) old new) ok h.2))

pub open_race : (left : Option (List ℕ)) (status : Status) (plan : RacePlan) (old new : Option (List ℕ))
    → ((x : List ℕ) × IsAll left x × RaceAnswers status plan (race_script x) old new) → (unended : ℕ) → status ≡ statuses.Unfinished unended
    → (x : List ℕ) × IsAll left x × IsShownRace plan (verdicts.Unfinished unended) x old new
open_race left status plan old new h unended is =
    (h.0, h.1, open_by plan unended h.0 (race_script h.0) old new refl (subst (λ (s : Status). RaceAnswers s plan (race_script h.0) old new) is h.2))

pub no_usage_race : (left : Option (List ℕ)) (status : Status) (plan : RacePlan) (old new : Option (List ℕ))
    → ((x : List ℕ) × IsAll left x × RaceAnswers status plan (race_script x) old new) → status ≡ statuses.Usage → ⊥
no_usage_race left status plan old new h is =
    usage_by plan (race_script h.0) old new (subst (λ (s : Status). RaceAnswers s plan (race_script h.0) old new) is h.2)

-- the answer where nothing fails
may_end_by : (plan : RacePlan) (meant : Result (List NumberedLine) ScriptFault) (status due : Status) (text : List ℕ) → status ≡ due → IsRaceDue plan meant due text → MayEnd meant status
may_end_by plan (Ok ls) statuses.Ok due text is h = tt
may_end_by plan (Ok ls) (statuses.Unfinished unended) due text is h = tt
may_end_by plan (Ok ls) statuses.Usage due text is h = subst (λ (s : Status). IsRaceDue plan (Ok ls) s text) (sym is) h
may_end_by plan (Ok ls) (statuses.Refused line word kind) due text is h = subst (λ (s : Status). IsRaceDue plan (Ok ls) s text) (sym is) h
may_end_by plan (Ok ls) (statuses.Limit which count) due text is h = subst (λ (s : Status). IsRaceDue plan (Ok ls) s text) (sym is) h
may_end_by plan (Ok ls) statuses.ReadFault due text is h = subst (λ (s : Status). IsRaceDue plan (Ok ls) s text) (sym is) h
may_end_by plan (Ok ls) statuses.WriteFault due text is h = subst (λ (s : Status). IsRaceDue plan (Ok ls) s text) (sym is) h
may_end_by plan (Ok ls) statuses.NoMemory due text is h = subst (λ (s : Status). IsRaceDue plan (Ok ls) s text) (sym is) h
may_end_by plan (Err fault) status due text is h = is ∙ h.0

may_end : (status : Status) (plan : RacePlan) (meant : Result (List NumberedLine) ScriptFault) (old new : Option (List ℕ)) → RaceAnswers status plan meant old new
    → (status ≡ statuses.ReadFault → ⊥) → (status ≡ statuses.WriteFault → ⊥) → (status ≡ statuses.NoMemory) ⊎ MayEnd meant status
may_end statuses.Ok plan meant old new a read write = inr (may_end_by plan meant statuses.Ok a.0 a.1.1.0 a.1.0 a.1.1.1)
may_end statuses.Usage plan meant old new a read write = inr (may_end_by plan meant statuses.Usage a.0 a.1.1.0 a.1.0 a.1.1.1)
may_end (statuses.Refused line word kind) plan meant old new a read write =
    inr (may_end_by plan meant (statuses.Refused line word kind) a.0 a.1.1.0 a.1.0 a.1.1.1)
may_end (statuses.Limit which count) plan meant old new a read write =
    inr (may_end_by plan meant (statuses.Limit which count) a.0 a.1.1.0 a.1.0 a.1.1.1)
may_end statuses.ReadFault plan meant old new a read write = absurd (read refl)
may_end statuses.WriteFault plan meant old new a read write = absurd (write refl)
may_end statuses.NoMemory plan meant old new a read write = inl refl
may_end (statuses.Unfinished unended) plan meant old new a read write =
    inr (may_end_by plan meant (statuses.Unfinished unended) a.0 a.1.1.0 a.1.0 a.1.1.1)

pub complete_race : (left : Option (List ℕ)) (status : Status) (plan : RacePlan) (old new : Option (List ℕ)) (A B : Type 0)
    → ((x : List ℕ) × IsAll left x × RaceAnswers status plan (race_script x) old new)
    → (status ≡ statuses.ReadFault → A) → (status ≡ statuses.WriteFault → B) → ¬ A → ¬ B
    → (x : List ℕ) × IsAll left x × ((status ≡ statuses.NoMemory) ⊎ MayEnd (race_script x) status)
complete_race left status plan old new A B h read write no_read no_write =
    (h.0, h.1, may_end status plan (race_script h.0) old new h.2 (λ e. no_read (read e)) (λ e. no_write (write e)))
