-- The latest attempt of each command, entry by entry.
use Rattle.std.proofs.Common.{◌≡◌, ℕ, zero, suc, ◌+◌, ◌<◌, ◌≤◌, Bool, true, false, cond, ⊎_elim, max, Option, None, Some, List, [], ◌∷◌, ◌++◌, length, get_or, map, take, refl, sym, ap, subst, ◌∙◌, arith}
use Rattle.std.specs.Prelude.{◌==◌, ◌&&◌, ◌||◌}
use Rattle.std.specs.List.{find, list_any}
use Rattle.std.specs.Map.{lookup}
use Rattle.std.specs.Option.{option_map, option_and_then}
use Rattle.std.proofs.lemmas.List.{take_all, take_more}
use Rattle.rp_base.specs.Ids.{same_id}
use Rattle.rp_base.specs.declared.ids.CmdId.{CmdId}
use Rattle.rp_base.proofs.IdLaws.{id_by_parts, same_back}
use Rattle.std.proofs.lemmas.Bool.{and_parts, cases_eq, cases_lt, eq-eqb, eqb-true, le-ltb, lt-ltb}
use Rattle.std.proofs.lemmas.List.Sums.{fold-append}
use Rattle.rp_request.specs.declared.outcomes.Outcome.{Outcome}
use Rattle.rp_events.specs.declared.answers.Ended.{Ended}
use Rattle.rp_events.specs.declared.answers.EventAnswer.{EventAnswer}
use Rattle.rp_events.specs.declared.answers.EventAnswer.TheVariants as answers
use Rattle.rp_events.specs.declared.journals.JournalEntry.{JournalEntry}
use Rattle.rp_events.specs.declared.journals.PastEvent.{PastEvent}
use Rattle.rp_events.specs.declared.journals.PastEvent.TheVariants as past
use Rattle.rp_events.specs.Nodes.{Node}
use Rattle.rp_events.specs.Worlds.{World, asked_at, ended_of, is_admission_of, outcome_at, outcome_by, outcome_of}
use Rattle.rp_clients.specs.Tries.{id_of}
use Rattle.rp_race.specs.Ends.{attempt_in, latest_attempt, latest_in}
use Rattle.rp_racelines.specs.declared.attempts.Command.{Command}
use Rattle.rp_racelines.specs.declared.attempts.Latest.{Latest}
use Rattle.rp_racelines.specs.declared.attempts.Latest.TheVariants.{Attempt}
use Rattle.rp_racelines.specs.declared.attempts.Told.{Told}
use Rattle.rp_racelines.specs.declared.attempts.Told.TheVariants.{End}
use Rattle.rp_racelines.specs.Latest.{ended_by, is_command, is_later, outcome_in, told_first, told_in, noted_entry, noted_event, AreLatest, IsLast, IsLatest}

-- an end more behind the others
pub told_more : (ends : List (CmdId × Told)) (id other : CmdId) (outcome : Outcome)
    → told_in (ends ++ (id, End outcome) ∷ []) other ≡ told_first (told_in ends other) (same_id id other) outcome
told_more [] id other outcome = ap (λ b. option_map outcome_in (cond b (Some (End outcome)) None)) (same_back other id) ∙ one (same_id id other) where
  one : (b : Bool) → option_map outcome_in (cond b (Some (End outcome)) None) ≡ told_first None b outcome
  one true = refl
  one false = refl
told_more (e ∷ ends) id other outcome = by (same_id other e.0) (told_more ends id other outcome) where
  by : (b : Bool) → told_in (ends ++ (id, End outcome) ∷ []) other ≡ told_first (told_in ends other) (same_id id other) outcome
      → option_map outcome_in (cond b (Some e.1) (lookup (same_id other) (ends ++ (id, End outcome) ∷ [])))
      ≡ told_first (option_map outcome_in (cond b (Some e.1) (lookup (same_id other) ends))) (same_id id other) outcome
  by true more = refl
  by false more = more

-- what was told already stays
pub told_still : (found : Option Outcome) (first outcome : Outcome) (is : Bool) → found ≡ Some first → told_first found is outcome ≡ found
told_still found first outcome is e = ap (λ o. told_first o is outcome) e ∙ sym e

-- the ends of a node with one more
ended_push : (id : CmdId) (xs : List Ended) (x : Ended) → ended_of id (xs ++ x ∷ []) ≡ told_first (ended_of id xs) (same_id x.id id) x.outcome
ended_push id [] x = one (same_id x.id id) where
  one : (b : Bool) → option_map (λ (e : Ended). e.outcome) (cond b (Some x) None) ≡ told_first None b x.outcome
  one true = refl
  one false = refl
ended_push id (y ∷ xs) x = by (same_id y.id id) (ended_push id xs x) where
  by : (b : Bool) → ended_of id (xs ++ x ∷ []) ≡ told_first (ended_of id xs) (same_id x.id id) x.outcome
      → option_map (λ (e : Ended). e.outcome) (cond b (Some y) (find (λ e. same_id e.id id) (xs ++ x ∷ [])))
      ≡ told_first (option_map (λ (e : Ended). e.outcome) (cond b (Some y) (find (λ e. same_id e.id id) xs))) (same_id x.id id) x.outcome
  by true more = refl
  by false more = more

pub ended_more : (id : CmdId) (xs : List Ended) (i : ℕ) (x : Ended) (told new : Option Outcome) → i < length xs → x ≡ get_or xs i x → told ≡ ended_of id (take i xs)
    → new ≡ told_first told (same_id x.id id) x.outcome → new ≡ ended_of id (take (i + 1) xs)
ended_more id xs i x told new lt is before after =
    after ∙ ap (λ o. told_first o (same_id x.id id) x.outcome) before
    ∙ sym (ended_push id (take i xs) x)
    ∙ ap (ended_of id) (sym (take_more xs i x lt ∙ ap (λ k. take i xs ++ k ∷ []) (sym is)))

-- the first of two that is there
abbrev or_else : {X : Type 0} → Option X → Option X → Option X
or_else None second = second
or_else (Some first) second = Some first

or_assoc : {X : Type 0} (a b c : Option X) → or_else a (or_else b c) ≡ or_else (or_else a b) c
or_assoc None b c = refl
or_assoc (Some x) b c = refl

or_none : {X : Type 0} (a : Option X) → or_else a None ≡ a
or_none None = refl
or_none (Some x) = refl

-- how an attempt ended by these entries of a node, of which this is told
abbrev ended_in : Option Outcome → CmdId → List JournalEntry → Option Outcome
ended_in told id es = option_map (λ e. ended_by e.answer told) (find (is_admission_of id) es)

outcome_told : (n : Node) (id : CmdId) (a : EventAnswer) → outcome_by n id a ≡ ended_by a (ended_of id n.outcomes)
outcome_told n id (answers.Refused refusal) = refl
outcome_told n id a = refl

ended_at : (n : Node) (id : CmdId) → outcome_at id n ≡ ended_in (ended_of id n.outcomes) id n.journal
ended_at n id = go (find (is_admission_of id) n.journal) where
  go : (o : Option JournalEntry) → option_map (λ e. outcome_by n id e.answer) o ≡ option_map (λ e. ended_by e.answer (ended_of id n.outcomes)) o
  go None = refl
  go (Some e) = ap Some (outcome_told n id e.answer)

-- with an entry more
ended_by_more : (told : Option Outcome) (id : CmdId) (es : List JournalEntry) (e : JournalEntry)
    → ended_in told id (es ++ e ∷ []) ≡ or_else (ended_in told id es) (ended_in told id (e ∷ []))
ended_by_more told id [] e = refl
ended_by_more told id (x ∷ es) e = by (is_admission_of id x) (ended_by_more told id es e) where
  by : (b : Bool) → ended_in told id (es ++ e ∷ []) ≡ or_else (ended_in told id es) (ended_in told id (e ∷ []))
      → option_map (λ k. ended_by k.answer told) (cond b (Some x) (find (is_admission_of id) (es ++ e ∷ [])))
      ≡ or_else (option_map (λ k. ended_by k.answer told) (cond b (Some x) (find (is_admission_of id) es))) (ended_in told id (e ∷ []))
  by true more = refl
  by false more = more

-- an attempt that a node was asked ended there somehow, and one that it was not asked did not
asked_finds : (told : Option Outcome) (id : CmdId) (es : List JournalEntry) (rest : Option Outcome)
    → or_else (ended_in told id es) rest ≡ cond (list_any (is_admission_of id) es) (ended_in told id es) rest
asked_finds told id [] rest = refl
asked_finds told id (x ∷ es) rest = by (is_admission_of id x) (asked_finds told id es rest) where
  by : (b : Bool) → or_else (ended_in told id es) rest ≡ cond (list_any (is_admission_of id) es) (ended_in told id es) rest
      → or_else (option_map (λ k. ended_by k.answer told) (cond b (Some x) (find (is_admission_of id) es))) rest
      ≡ cond (b || list_any (is_admission_of id) es) (option_map (λ k. ended_by k.answer told) (cond b (Some x) (find (is_admission_of id) es))) rest
  by true more = refl
  by false more = more

outcome_cons : (id : CmdId) (n : Node) (w : World) → outcome_of (n ∷ w) id ≡ or_else (outcome_at id n) (outcome_of w id)
outcome_cons id n w =
    by (asked_at id n) ∙ sym (ap (λ o. or_else o (outcome_of w id)) (ended_at n id) ∙ asked_finds (ended_of id n.outcomes) id n.journal (outcome_of w id)
    ∙ ap (λ o. cond (asked_at id n) o (outcome_of w id)) (sym (ended_at n id)))
  where
    by : (b : Bool) → option_and_then (outcome_at id) (cond b (Some n) (find (asked_at id) w)) ≡ cond b (outcome_at id n) (outcome_of w id)
    by true = refl
    by false = refl

outcome_push : (id : CmdId) (w : World) (n : Node) → outcome_of (w ++ n ∷ []) id ≡ or_else (outcome_of w id) (outcome_at id n)
outcome_push id [] n = outcome_cons id n [] ∙ or_none (outcome_at id n)
outcome_push id (m ∷ w) n =
    outcome_cons id m (w ++ n ∷ []) ∙ ap (or_else (outcome_at id m)) (outcome_push id w n)
    ∙ or_assoc (outcome_at id m) (outcome_of w id) (outcome_at id n)
    ∙ ap (λ o. or_else o (outcome_at id n)) (sym (outcome_cons id m w))

-- a node that has these entries
abbrev pub with_journal : Node → List JournalEntry → Node
with_journal n es = record n { journal = es }

outcome_more : (id : CmdId) (w : World) (n : Node) (es : List JournalEntry) (e : JournalEntry)
    → outcome_of (w ++ with_journal n (es ++ e ∷ []) ∷ []) id
    ≡ or_else (outcome_of (w ++ with_journal n es ∷ []) id) (ended_in (ended_of id n.outcomes) id (e ∷ []))
outcome_more id w n es e =
    let told : Option Outcome = ended_of id n.outcomes in
    outcome_push id w (with_journal n (es ++ e ∷ []))
    ∙ ap (or_else (outcome_of w id)) (ended_at (with_journal n (es ++ e ∷ [])) id ∙ ended_by_more told id es e)
    ∙ or_assoc (outcome_of w id) (ended_in told id es) (ended_in told id (e ∷ []))
    ∙ ap (λ o. or_else o (ended_in told id (e ∷ [])))
    (ap (or_else (outcome_of w id)) (sym (ended_at (with_journal n es) id)) ∙ sym (outcome_push id w (with_journal n es)))

latest_push : (client seq : ℕ) (w : World) (n : Node) → latest_attempt (w ++ n ∷ []) client seq ≡ max (latest_attempt w client seq) (latest_in client seq n.journal)
latest_push client seq w n = fold-append (λ (most : ℕ) (k : Node). max most (latest_in client seq k.journal)) 0 w (n ∷ [])

latest_entry : (client seq : ℕ) (es : List JournalEntry) (e : JournalEntry) → latest_in client seq (es ++ e ∷ []) ≡ max (latest_in client seq es) (attempt_in client seq e.event)
latest_entry client seq es e = fold-append (λ (most : ℕ) (k : JournalEntry). max most (attempt_in client seq k.event)) 0 es (e ∷ [])

latest_more : (client seq : ℕ) (w : World) (n : Node) (es : List JournalEntry) (e : JournalEntry)
    → latest_attempt (w ++ with_journal n (es ++ e ∷ []) ∷ []) client seq
    ≡ max (latest_attempt (w ++ with_journal n es ∷ []) client seq) (attempt_in client seq e.event)
latest_more client seq w n es e =
    let a = latest_push client seq w (with_journal n (es ++ e ∷ [])) in
    let b = latest_entry client seq es e in
    let d = latest_push client seq w (with_journal n es) in
    omega (arith, a, b, d)

-- what is known of a command as a world becomes another one: of each of its attempts this is told besides
module _ (w later : World) (client seq : ℕ) where
  -- nothing of the command
  pub stays_latest : latest_attempt later client seq ≡ latest_attempt w client seq
      → ((attempt : ℕ) → outcome_of later (id_of client seq attempt) ≡ outcome_of w (id_of client seq attempt))
      → (known : Option Latest) → IsLatest w client seq known → IsLatest later client seq known
  stays_latest latest same None h = (latest ∙ h.0, λ attempt. same attempt ∙ h.1 attempt)
  stays_latest latest same (Some (Attempt attempt outcome)) h = record {
    latest = latest ∙ h.latest;
    ended = same attempt ∙ h.ended;
    none_behind = λ k behind. same k ∙ h.none_behind k behind;
  }

  -- this attempt
  module _ (attempt : ℕ) (outcome : Outcome) (latest : latest_attempt later client seq ≡ max (latest_attempt w client seq) attempt)
      (here : outcome_of later (id_of client seq attempt) ≡ or_else (outcome_of w (id_of client seq attempt)) (Some outcome))
      (others : (k : ℕ) → (k ≡ attempt → ⊥) → outcome_of later (id_of client seq k) ≡ outcome_of w (id_of client seq k)) where
    is_latest : outcome_of w (id_of client seq attempt) ≡ None → ((k : ℕ) → attempt < k → outcome_of w (id_of client seq k) ≡ None)
        → latest_attempt w client seq ≤ attempt → IsLast later client seq attempt outcome
    is_latest new none most = record {
      latest = let l = latest in omega (arith, l, most);
      ended = here ∙ ap (λ o. or_else o (Some outcome)) new;
      none_behind = λ k behind. others k (λ e. omega (arith, behind, e)) ∙ none k behind;
    }

    becomes_latest : (known : Option Latest) → IsLatest w client seq known
        → IsLatest later client seq (cond (is_later attempt known) (Some (Attempt attempt outcome)) known)
    becomes_latest None h = is_latest (h.1 attempt) (λ k behind. h.1 k) (let z = h.0 in omega (arith, z))
    becomes_latest (Some (Attempt before end)) h = ⊎_elim
        (λ (less : before < attempt).
        let l = h.latest in
        subst (λ b. IsLatest later client seq (cond b (Some (Attempt attempt outcome)) (Some (Attempt before end)))) (sym (lt-ltb before attempt less))
        (is_latest (h.none_behind attempt less) (λ k behind. h.none_behind k (omega (arith, behind, less))) (omega (arith, l, less))))
        (λ (more : attempt ≤ before).
        subst (λ b. IsLatest later client seq (cond b (Some (Attempt attempt outcome)) (Some (Attempt before end)))) (sym (le-ltb before attempt more))
        (old more))
        (cases_lt before attempt)
      where
        old : attempt ≤ before → IsLast later client seq before end
        old more = record {
          latest = let a = latest in let b = h.latest in omega (arith, a, b, more);
          ended = ⊎_elim
              (λ (same : before ≡ attempt).
              ap (λ k. outcome_of later (id_of client seq k)) same ∙ here
              ∙ ap (λ o. or_else o (Some outcome)) (ap (λ k. outcome_of w (id_of client seq k)) (sym same) ∙ h.ended))
              (λ (ne : before ≡ attempt → ⊥). others before ne ∙ h.ended)
              (cases_eq before attempt);
          none_behind = λ k behind. others k (λ e. omega (arith, behind, more, e)) ∙ h.none_behind k behind;
        }

-- with an entry more that names no attempt of the command
no_attempt : (w : World) (n : Node) (es : List JournalEntry) (e : JournalEntry) (client seq : ℕ)
    → attempt_in client seq e.event ≡ 0 → ((k : ℕ) → is_admission_of (id_of client seq k) e ≡ false)
    → (known : Option Latest) → IsLatest (w ++ with_journal n es ∷ []) client seq known → IsLatest (w ++ with_journal n (es ++ e ∷ []) ∷ []) client seq known
no_attempt w n es e client seq none apart =
    stays_latest (w ++ with_journal n es ∷ []) (w ++ with_journal n (es ++ e ∷ []) ∷ []) client seq
    (let l = latest_more client seq w n es e in omega (arith, l, none))
    (λ k.
    outcome_more (id_of client seq k) w n es e
    ∙ ap (λ b. or_else (outcome_of (w ++ with_journal n es ∷ []) (id_of client seq k)) (option_map (λ x. ended_by x.answer (ended_of (id_of client seq k) n.outcomes)) (cond {A = Option JournalEntry} b (Some e) None))) (apart k)
    ∙ or_none (outcome_of (w ++ with_journal n es ∷ []) (id_of client seq k)))

-- with an admission more of the command
an_attempt : (w : World) (n : Node) (es : List JournalEntry) (e : JournalEntry) (client seq attempt : ℕ)
    → attempt_in client seq e.event ≡ attempt → ((k : ℕ) → is_admission_of (id_of client seq k) e ≡ (attempt == k))
    → (known : Option Latest) → IsLatest (w ++ with_journal n es ∷ []) client seq known
    → IsLatest (w ++ with_journal n (es ++ e ∷ []) ∷ []) client seq
    (cond (is_later attempt known) (Some (Attempt attempt (ended_by e.answer (ended_of (id_of client seq attempt) n.outcomes)))) known)
an_attempt w n es e client seq attempt is names =
    becomes_latest (w ++ with_journal n es ∷ []) (w ++ with_journal n (es ++ e ∷ []) ∷ []) client seq attempt
    (ended_by e.answer (ended_of (id_of client seq attempt) n.outcomes))
    (let l = latest_more client seq w n es e in omega (arith, l, is))
    (more attempt true (eq-eqb attempt attempt refl))
    (λ k ne. more k false (apart k ne) ∙ or_none (outcome_of (w ++ with_journal n es ∷ []) (id_of client seq k)))
  where
    more : (k : ℕ) (b : Bool) → (attempt == k) ≡ b → outcome_of (w ++ with_journal n (es ++ e ∷ []) ∷ []) (id_of client seq k)
        ≡ or_else (outcome_of (w ++ with_journal n es ∷ []) (id_of client seq k)) (option_map (λ x. ended_by x.answer (ended_of (id_of client seq k) n.outcomes)) (cond {A = Option JournalEntry} b (Some e) None))
    more k b same =
        outcome_more (id_of client seq k) w n es e
        ∙ ap (λ b. or_else (outcome_of (w ++ with_journal n es ∷ []) (id_of client seq k)) (option_map (λ x. ended_by x.answer (ended_of (id_of client seq k) n.outcomes)) (cond {A = Option JournalEntry} b (Some e) None))) (names k ∙ same)

    apart : (k : ℕ) → (k ≡ attempt → ⊥) → (attempt == k) ≡ false
    apart k ne = go (attempt == k) refl where
      go : (b : Bool) → (attempt == k) ≡ b → b ≡ false
      go true same = absurd (ne (sym (eqb-true attempt k same)))
      go false same = refl

-- an attempt of the command, or none
module _ (w : World) (n : Node) (es : List JournalEntry) (range : ℕ) (id : CmdId) (place : ℕ) (answer : EventAnswer) (client seq : ℕ) where
  abbrev Leads : (b : Bool) → Option Latest → Type 0
  Leads b known = IsLatest (w ++ with_journal n (es ++ record { event = past.Admit range id place; answer = answer } ∷ []) ∷ []) client seq
      (cond (b && is_later id.attempt known) (Some (Attempt id.attempt (ended_by answer (ended_of id n.outcomes)))) known)

  of_command : (b : Bool) → (id.client == client && id.seq == seq) ≡ b → (known : Option Latest) → IsLatest (w ++ with_journal n es ∷ []) client seq known → Leads b known
  of_command true is known h =
      let parts = and_parts (id.client == client) (id.seq == seq) is in
      let same : id_of client seq id.attempt ≡ id = sym (id_by_parts id (id_of client seq id.attempt) (eqb-true id.client client parts.0) (eqb-true id.seq seq parts.1) refl) in
      subst (λ (x : CmdId). IsLatest (w ++ with_journal n (es ++ record { event = past.Admit range id place; answer = answer } ∷ []) ∷ []) client seq
      (cond (is_later id.attempt known) (Some (Attempt id.attempt (ended_by answer (ended_of x n.outcomes)))) known)) same
      (an_attempt w n es (record { event = past.Admit range id place; answer = answer }) client seq id.attempt
      (ap (λ b. cond {A = ℕ} b id.attempt 0) is)
      (λ k. by (id.client == client) (id.seq == seq) (id.attempt == k) parts.0 parts.1)
      known h)
    where
      by : (a b c : Bool) → a ≡ true → b ≡ true → (a && b && c) ≡ c
      by true true c p q = refl
      by true false c p q = absurd cc
      by false b c p q = absurd cc
  of_command false is known h =
      no_attempt w n es (record { event = past.Admit range id place; answer = answer }) client seq
      (ap (λ b. cond {A = ℕ} b id.attempt 0) is)
      (λ k. by (id.client == client) (id.seq == seq) (id.attempt == k) is)
      known h
    where
      by : (a b c : Bool) → (a && b) ≡ false → (a && b && c) ≡ false
      by true true c p = absurd cc
      by true false c p = refl
      by false b c p = refl

noted_by : (w : World) (n : Node) (es : List JournalEntry) (answer : EventAnswer) (client seq : ℕ) (event : PastEvent) (known : Option Latest)
    → IsLatest (w ++ with_journal n es ∷ []) client seq known
    → IsLatest (w ++ with_journal n (es ++ record { event = event; answer = answer } ∷ []) ∷ []) client seq
    (noted_event answer (λ id. ended_of id n.outcomes) client seq known event)
noted_by w n es answer client seq (past.Admit range id place) known h = of_command w n es range id place answer client seq (id.client == client && id.seq == seq) refl known h
noted_by w n es answer client seq event known h = no_attempt w n es (record { event = event; answer = answer }) client seq refl (λ k. refl) known h

noted_alike : (told other : CmdId → Option Outcome) → ((id : CmdId) → told id ≡ other id) → (answer : EventAnswer) (client seq : ℕ) (known : Option Latest) (event : PastEvent)
    → noted_event answer told client seq known event ≡ noted_event answer other client seq known event
noted_alike told other same answer client seq known (past.Admit range id place) =
    ap (λ o. cond ((id.client == client && id.seq == seq) && is_later id.attempt known) (Some (Attempt id.attempt (ended_by answer o))) known) (same id)
noted_alike told other same answer client seq known event = refl

abbrev Entries : Type 0
Entries = List (Command × Latest)

-- a node without entries
pub no_entries : (w : World) (n : Node) (known : Entries) → AreLatest w known → AreLatest (w ++ with_journal n [] ∷ []) known
no_entries w n known h client seq =
    stays_latest w (w ++ with_journal n [] ∷ []) client seq
    (let l = latest_push client seq w (with_journal n []) in omega (arith, l))
    (λ k. outcome_push (id_of client seq k) w (with_journal n []) ∙ or_none (outcome_of w (id_of client seq k)))
    (lookup (is_command client seq) known) (h client seq)

-- an entry more
entry_more : (w : World) (n : Node) (i : ℕ) (e : JournalEntry) (told : CmdId → Option Outcome) (known new : Entries) → i < length n.journal → e ≡ get_or n.journal i e
    → ((id : CmdId) → told id ≡ ended_of id n.outcomes)
    → ((client seq : ℕ) → lookup (is_command client seq) new ≡ noted_entry e told client seq (lookup (is_command client seq) known))
    → AreLatest (w ++ with_journal n (take i n.journal) ∷ []) known → AreLatest (w ++ with_journal n (take (i + 1) n.journal) ∷ []) new
entry_more w n i e told known new lt is ends notes h client seq =
    subst (λ es. IsLatest (w ++ with_journal n es ∷ []) client seq (lookup (is_command client seq) new)) (sym (take_more n.journal i e lt ∙ ap (λ k. take i n.journal ++ k ∷ []) (sym is)))
    (subst (IsLatest (w ++ with_journal n (take i n.journal ++ e ∷ []) ∷ []) client seq)
    (sym (notes client seq ∙ noted_alike told (λ id. ended_of id n.outcomes) ends e.answer client seq (lookup (is_command client seq) known) e.event))
    (noted_by w n (take i n.journal) e.answer client seq e.event (lookup (is_command client seq) known) (h client seq)))

-- what stands at a place
event_at : (es : List JournalEntry) (i : ℕ) (d : JournalEntry) → get_or (map (λ (e : JournalEntry). e.event) es) i d.event ≡ (get_or es i d).event
event_at [] i d = refl
event_at (e ∷ es) zero d = refl
event_at (e ∷ es) (suc i) d = event_at es i d

any_default : (es : List JournalEntry) (i : ℕ) (d e : JournalEntry) → i < length es → get_or es i d ≡ get_or es i e
any_default [] i d e lt = absurd (omega (arith, lt))
any_default (x ∷ es) zero d e lt = refl
any_default (x ∷ es) (suc i) d e lt = any_default es i d e (omega (arith, lt))

-- an event more, with its answer
pub event_more : (w : World) (n : Node) (i : ℕ) (event : PastEvent) (told : CmdId → Option Outcome) (known new : Entries) → i < length n.journal
    → event ≡ get_or (map (λ (e : JournalEntry). e.event) n.journal) i event
    → ((id : CmdId) → told id ≡ ended_of id n.outcomes)
    → ((client seq : ℕ) (e : JournalEntry) → lookup (is_command client seq) new
    ≡ noted_event (get_or n.journal i e).answer told client seq (lookup (is_command client seq) known) event)
    → AreLatest (w ++ with_journal n (take i n.journal) ∷ []) known → AreLatest (w ++ with_journal n (take (i + 1) n.journal) ∷ []) new
event_more w n i event told known new lt is ends notes h =
    let d : JournalEntry = record { event = event; answer = answers.Done } in
    let e = get_or n.journal i d in
    entry_more w n i e told known new lt (any_default n.journal i d e lt) ends
    (λ client seq. notes client seq d
    ∙ ap (noted_event e.answer told client seq (lookup (is_command client seq) known)) (is ∙ event_at n.journal i d)) h

-- all of them
pub all_entries : (w : World) (n : Node) (i : ℕ) (known : Entries) → length n.journal ≤ i → AreLatest (w ++ with_journal n (take i n.journal) ∷ []) known → AreLatest (w ++ n ∷ []) known
all_entries w n i known past_end h = subst (λ es. AreLatest (w ++ with_journal n es ∷ []) known) (take_all i n.journal past_end) h

-- of no node
pub none_known : AreLatest [] []
none_known client seq = (refl, λ attempt. refl)
