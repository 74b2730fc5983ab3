-- What the journals tell of the latest try of a command.
use Rattle.std.proofs.Common.{◌≡◌, ℕ, zero, suc, ◌+◌, ◌<◌, ◌≤◌, ◌⊎◌, inl, inr, ⊎_elim, Bool, true, false, cond, eqb-true, eq-eqb, Option, None, Some, List, [], ◌∷◌, length, map, refl, sym, ap, subst, ◌∙◌, arith}
use Rattle.std.specs.Prelude.{◌==◌, ◌&&◌, max, slice_get, fold, count_by, option_and_then, is_some}
use Rattle.std.specs.List.{find, AllByRecursion}
use Rattle.std.specs.Option.{option_map, option_map_or}
use Rattle.std.proofs.lemmas.Bool.{cases_lt}
use Rattle.rp_base.proofs.Counts.{count_cons}
use Rattle.rp_base.proofs.Elements.{all_append, all_snoc, all_map, found_some}
use Rattle.rp_base.proofs.IdLaws.{same_itself, id_by_parts}
use Rattle.rp_base.specs.declared.ids.CmdId.{CmdId}
use Rattle.rp_raftstep.specs.RaftState.{nodes_to}
use Rattle.rp_request.specs.declared.outcomes.Outcome.{Outcome}
use Rattle.rp_request.specs.declared.outcomes.Outcome.TheVariants.{Success, Refused, Ambiguous, Pending}
use Rattle.rp_request.specs.declared.outcomes.End.TheVariants as ends
use Rattle.rp_events.specs.declared.journals.JournalEntry.{JournalEntry}
use Rattle.rp_events.specs.declared.journals.PastEvent.{PastEvent}
use Rattle.rp_events.specs.declared.journals.PastEvent.TheVariants as past
use Rattle.rp_events.specs.Lawful.{IsReached}
use Rattle.rp_events.specs.Lists.{IsWritten}
use Rattle.rp_events.specs.Nodes.{Node}
use Rattle.rp_events.specs.Worlds.{World, node_of, is_admission_of, asked_at, was_asked, outcome_by, outcome_at, outcome_of}
use Rattle.rp_journals.specs.Asked.{AskedOnce}
use Rattle.rp_journals.proofs.Asking.{asked_once}
use Rattle.rp_journals.proofs.Waiting.{any_place, outcome_here}
use Rattle.rp_clients.specs.Finals.{is_refused, refusals, end_by, left_by, left, HasDoneAll}
use Rattle.rp_clients.specs.Tries.{Try, most_tries, id_of}
use Rattle.rp_race.specs.declared.rules.ClientRequests.{ClientRequests}
use Rattle.rp_race.specs.declared.rules.RaceRules.{RaceRules}
use Rattle.rp_race.specs.Ends.{attempt_in, latest_in, latest_attempt, goes_on, is_open, Command, commands_from, commands_of, unended}
use Rattle.rp_race.specs.Gives.{Tried}
use Rattle.rp_race.specs.Played.{requests_of, IsEndAt, WasTried, is_admission_by, IsAmong, IsTriesOf}
use Rattle.rp_race.proofs.Ahead.{all_at_place}
use Rattle.rp_race.proofs.Nexts.{by_its_client, one_id, found_entry, tried_asked}
use Rattle.rp_tried.specs.Left.{IsTold, IsLeftSo}
use Rattle.rp_tried.proofs.Latest.{IsLatest, HasNone, latest, HasEnded, has_ended, attempt_low}

true_false : (b : Bool) → b ≡ true → b ≡ false → ⊥
true_false b t f = let e = sym t ∙ f in absurd cc

-- the greatest of a list is bounded, and reached
each_of : {X : Type 0} (P : X → Type 0) (xs : List X) → ((k : ℕ) (x : X) → slice_get xs k ≡ Some x → P x) → AllByRecursion P xs
each_of P [] h = tt
each_of P (x ∷ xs) h = (h 0 x refl, each_of P xs (λ k y e. h (suc k) y e))

most_of : {X : Type 0} (f : X → ℕ) (most : ℕ) (xs : List X) (start : ℕ) → start ≤ most → AllByRecursion (λ x. f x ≤ most) xs → fold (λ (m : ℕ) (x : X). max m (f x)) start xs ≤ most
most_of f most [] start low h = low
most_of f most (x ∷ xs) start low h = let this = h.0 in most_of f most xs (max start (f x)) (omega (arith, low, this)) h.1

start_of : {X : Type 0} (f : X → ℕ) (xs : List X) (start : ℕ) → start ≤ fold (λ (m : ℕ) (x : X). max m (f x)) start xs
start_of f [] start = omega arith
start_of f (x ∷ xs) start = let more = start_of f xs (max start (f x)) in omega (arith, more)

reached_by : {X : Type 0} (f : X → ℕ) (xs : List X) (start k : ℕ) (x : X) → slice_get xs k ≡ Some x → f x ≤ fold (λ (m : ℕ) (y : X). max m (f y)) start xs
reached_by f [] start k x e = absurd cc
reached_by {X} f (y ∷ ys) start zero x e = let more = start_of f ys (max start (f y)) in let same : f y ≡ f x = ap f (some_is y x e) in omega (arith, more, same) where
  some_is : (a b : X) → ◌≡◌ {A = Option X} (Some a) (Some b) → a ≡ b
  some_is a b e' = cc
reached_by f (y ∷ ys) start (suc k) x e = reached_by f ys (max start (f y)) k x e

module _ (rules : RaceRules) (nodes : ℕ) (w : World) (reached : IsReached nodes w) (client : ℕ) (tries : List Try) (h : IsTriesOf rules w client tries) where
  once : AskedOnce w
  once = asked_once nodes w reached

  -- an admission of a command is that of one of its tries
  record IsTried (seq : ℕ) (id : CmdId) : Type 0 where
    t : Try
    k : ℕ
    here : slice_get tries k ≡ Some t
    is : t.id ≡ id

  tried_entry : (node place : ℕ) (e : JournalEntry) (id : CmdId) → IsWritten w node place e → is_admission_of id e ≡ true → id.client ≡ client → IsTried id.seq id
  tried_entry node place e id written adm own =
      let among : IsAmong tries e = h.all node place e written (subst (λ c. is_admission_by c e.event ≡ true) own (by_its_client id e adm)) in
      record { t = among.try_of; k = among.k; here = among.here; is = one_id among.try_of.id id e among.is adm }

  -- no entry of the command has a greater number than all of its tries
  entry_most : (seq most : ℕ) → AllByRecursion (λ (x : Try). x.id.seq ≡ seq → x.id.attempt ≤ most) tries → (node place : ℕ) (e : JournalEntry) → IsWritten w node place e → attempt_in client seq e.event ≤ most
  entry_most seq most all node place e written = go e.event refl where
    by_test : (range at : ℕ) (id : CmdId) → e.event ≡ past.Admit range id at → (own same : Bool) → (id.client == client) ≡ own → (id.seq == seq) ≡ same → cond (own && same) id.attempt 0 ≤ most
    by_test range at id is false same c s = omega arith
    by_test range at id is true false c s = omega arith
    by_test range at id is true true c s =
        let x : IsTried id.seq id = tried_entry node place e id written (ap (λ v. is_admission_of id (record { event = v; answer = e.answer })) is ∙ same_itself id) (eqb-true id.client client c) in
        let low = all_at_place (λ (y : Try). y.id.seq ≡ seq → y.id.attempt ≤ most) tries x.k x.t all x.here (ap (λ (i : CmdId). i.seq) x.is ∙ eqb-true id.seq seq s) in
        subst (λ (i : CmdId). i.attempt ≤ most) x.is low

    go : (v : PastEvent) → e.event ≡ v → attempt_in client seq v ≤ most
    go (past.Admit range id at) is = by_test range at id is (id.client == client) (id.seq == seq) refl refl
    go (past.Ask range) is = omega arith
    go (past.Transfer range to) is = omega arith
    go (past.Collect range taken) is = omega arith
    go (past.Flush range) is = omega arith
    go past.Tick is = omega arith
    go (past.Deliver from number) is = omega arith
    go (past.Apply range) is = omega arith
    go (past.Cut range) is = omega arith
    go (past.Remove range) is = omega arith
    go (past.Peek range key) is = omega arith
    go past.Restart is = omega arith
    go (past.Round sent) is = omega arith

  attempt_most : (seq most : ℕ) → AllByRecursion (λ (x : Try). x.id.seq ≡ seq → x.id.attempt ≤ most) tries → latest_attempt w client seq ≤ most
  attempt_most seq most all =
      most_of (λ (n : Node). latest_in client seq n.journal) most w 0 (omega arith)
      (each_of (λ (n : Node). latest_in client seq n.journal ≤ most) w (λ place n has.
      most_of (λ (e : JournalEntry). attempt_in client seq e.event) most n.journal 0 (omega arith)
      (each_of (λ (e : JournalEntry). attempt_in client seq e.event ≤ most) n.journal (λ k e here. entry_most seq most all (suc place) k e (record { n = n; has = has; here = here })))))

  -- the latest try is the latest attempt
  module _ (seq : ℕ) (t : Try) (l : IsLatest rules w client seq tries t) where
    s : WasTried w t l.was.request
    s = l.was.tried

    own_attempt : (node : ℕ) → node_of w node ≡ Some s.n → t.id.attempt ≤ latest_attempt w client seq
    own_attempt zero has = absurd cc
    own_attempt (suc place) has =
        let this : attempt_in client seq (past.Admit t.range t.id s.at) ≡ t.id.attempt =
        ap (λ b. cond (b && t.id.seq == seq) t.id.attempt 0) (eq-eqb t.id.client client l.client_is) ∙ ap (λ b. cond b t.id.attempt 0) (eq-eqb t.id.seq seq l.seq_is) in
        let here = reached_by (λ (e : JournalEntry). attempt_in client seq e.event) s.n.journal 0 s.place _ s.here in
        let there = reached_by (λ (n : Node). latest_in client seq n.journal) w 0 place s.n has in
        omega (arith, this, here, there)

    pub latest_is : t.id.attempt ≡ latest_attempt w client seq
    latest_is = let low = own_attempt t.node s.has in let high = attempt_most seq t.id.attempt l.most in omega (arith, low, high)

    -- its id, and what the world tells of it
    pub id_is : id_of client seq t.id.attempt ≡ t.id
    id_is = id_by_parts (id_of client seq t.id.attempt) t.id (sym l.client_is) (sym l.seq_is) refl

    told_here : outcome_of w (id_of client seq t.id.attempt) ≡ outcome_at t.id s.n
    told_here = ap (outcome_of w) id_is ∙ outcome_here w once t.id t.node s.n s.has (tried_asked w once t l.was.request s)

    pub told_end : (outcome : Outcome) → t.end ≡ Some outcome → (outcome_of w (id_of client seq t.id.attempt) ≡ Some outcome) × (outcome ≡ Pending → ⊥)
    told_end outcome end =
        let is : IsEndAt t.id s.n (Some outcome) = subst (IsEndAt t.id s.n) end s.end in
        (told_here ∙ is.0, is.1)

    pub told_some : (outcome : Outcome) × (outcome_of w (id_of client seq t.id.attempt) ≡ Some outcome)
    told_some =
        let found = found_entry w once t.id t.node s.n s.has s.place _ s.here (same_itself t.id) in
        (outcome_by s.n t.id s.answer, told_here ∙ ap (option_map (λ (e : JournalEntry). outcome_by s.n t.id e.answer)) found)

    -- a client leaves the command so
    left_told : (end : Option Outcome) → t.end ≡ end → refusals seq tries + 1 ≡ cond (is_refused end) 1 0 + t.id.attempt → IsTold t.id.attempt (outcome_of w (id_of client seq t.id.attempt)) (end_by (refusals seq tries) end)
    left_told None is counted = told_some
    left_told (Some (Success reply)) is counted = (told_end (Success reply) is).0
    left_told (Some (Ambiguous why)) is counted = (told_end (Ambiguous why) is).0
    left_told (Some Pending) is counted = absurd ((told_end Pending is).1 refl)
    left_told (Some (Refused why)) is counted = go (refusals seq tries == most_tries) refl where
      told : outcome_of w (id_of client seq t.id.attempt) ≡ Some (Refused why)
      told = (told_end (Refused why) is).0

      count : refusals seq tries ≡ t.id.attempt
      count = omega (arith, counted)

      go : (b : Bool) → (refusals seq tries == most_tries) ≡ b → IsTold t.id.attempt (outcome_of w (id_of client seq t.id.attempt)) (cond b (ends.Tries why) (ends.Outcome (Refused why)))
      go true e = (sym count ∙ eqb-true (refusals seq tries) most_tries e, told)
      go false e =
          let low : t.id.attempt ≤ most_tries = attempt_low rules w client l.older t.id l.was.may.next in
          let ne : refusals seq tries ≡ most_tries → ⊥ = λ k. true_false (refusals seq tries == most_tries) (eq-eqb (refusals seq tries) most_tries k) e in
          (below count low ne, told)
        where
          below : refusals seq tries ≡ t.id.attempt → t.id.attempt ≤ most_tries → (refusals seq tries ≡ most_tries → ⊥) → t.id.attempt < most_tries
          below c low ne = ⊎_elim (λ (k : t.id.attempt < most_tries). k) (λ (k : most_tries ≤ t.id.attempt). absurd (ne (omega (arith, c, low, k)))) (cases_lt t.id.attempt most_tries)

  -- of a command that was never tried the world tells nothing
  module _ (seq : ℕ) (none : HasNone rules w client seq tries) where
    pub none_latest : latest_attempt w client seq ≡ 0
    none_latest = let high = attempt_most seq 0 (weaker tries none.none) in omega (arith, high) where
      weaker : (ts : List Try) → AllByRecursion (λ (x : Try). x.id.seq ≡ seq → ⊥) ts → AllByRecursion (λ (x : Try). x.id.seq ≡ seq → x.id.attempt ≤ 0) ts
      weaker [] k = tt
      weaker (t ∷ ts) k = (λ e. absurd (k.0 e), weaker ts k.1)

    none_asked : (attempt : ℕ) → was_asked w (id_of client seq attempt) ≡ false
    none_asked attempt = go (was_asked w (id_of client seq attempt)) refl where
      go : (b : Bool) → was_asked w (id_of client seq attempt) ≡ b → was_asked w (id_of client seq attempt) ≡ false
      go false e = e
      go true e =
          let k = any_place (asked_at (id_of client seq attempt)) w e in
          let a = any_place (is_admission_of (id_of client seq attempt)) k.1.journal k.3 in
          let x : IsTried seq (id_of client seq attempt) = tried_entry (suc k.0) a.0 a.1 (id_of client seq attempt) (record { n = k.1; has = k.2; here = a.2 }) a.3 refl in
          absurd (all_at_place (λ (y : Try). y.id.seq ≡ seq → ⊥) tries x.k x.t none.none x.here (ap (λ (i : CmdId). i.seq) x.is))

    pub none_told : (attempt : ℕ) → outcome_of w (id_of client seq attempt) ≡ None
    none_told attempt = ap (option_and_then (outcome_at (id_of client seq attempt))) (nothing (find (asked_at (id_of client seq attempt)) w) (found_some (asked_at (id_of client seq attempt)) w ∙ none_asked attempt)) where
      nothing : (o : Option Node) → is_some o ≡ false → o ≡ None
      nothing None e = refl
      nothing (Some n) e = absurd cc

  pub left_so : (seq : ℕ) → IsLeftSo w client seq (left seq tries)
  left_so seq = go (latest rules w client tries h.each seq) where
    go : HasNone rules w client seq tries ⊎ ((t : Try) × IsLatest rules w client seq tries t) → IsLeftSo w client seq (left seq tries)
    go (inl none) = subst (λ o. IsLeftSo w client seq (left_by (refusals seq tries) o)) (sym none.found)
        (record { latest = sym (none_latest seq none); told = none_told seq none 0 })
    go (inr x) = subst (λ o. IsLeftSo w client seq (left_by (refusals seq tries) o)) (sym x.1.found)
        (record { latest = latest_is seq x.0 x.1; told = left_told seq x.0 x.1 x.0.end refl x.1.refused })

  -- an ended command is not open
  pub not_open : HasDoneAll client (requests_of rules client) tries → (seq : ℕ) → 1 ≤ seq → seq ≤ length (requests_of rules client) → is_open w client seq ≡ false
  not_open done seq some low = go (has_ended rules w client tries h.each _ done seq some (omega (arith, low))) (latest rules w client tries h.each seq) where
    some_try : (a b : Try) → ◌≡◌ {A = Option Try} (Some a) (Some b) → a ≡ b
    some_try a b e = cc

    go : HasEnded rules w client seq tries → HasNone rules w client seq tries ⊎ ((t : Try) × IsLatest rules w client seq tries t) → is_open w client seq ≡ false
    go x (inl none) = absurd (let e = sym x.found ∙ none.found in absurd cc)
    go x (inr y) =
        let same : x.last ≡ y.0 = some_try x.last y.0 (sym x.found ∙ y.1.found) in
        let told = told_end seq y.0 y.1 x.outcome (subst (λ (z : Try). z.end ≡ Some x.outcome) same x.end) in
        subst (λ a. option_map_or (goes_on a) (outcome_of w (id_of client seq a)) true ≡ false) (latest_is seq y.0 y.1)
        (ap (λ o. option_map_or (goes_on y.0.id.attempt) o true) told.0 ∙ subst (λ (z : Try). goes_on z.id.attempt x.outcome ≡ false) same x.stops)

-- all commands of a script
all_numbers : (P : ℕ → Type 0) (n : ℕ) → ((k : ℕ) → 1 ≤ k → k ≤ n → P k) → AllByRecursion P (nodes_to n)
all_numbers P zero h = tt
all_numbers P (suc n) h = all_snoc P (nodes_to n) (suc n) (all_numbers P n (λ k some low. h k some (omega (arith, low)))) (h (suc n) (omega arith) (omega arith))

all_commands : (P : Command → Type 0) (client : ℕ) (sends : List ClientRequests)
    → ((place : ℕ) (sent : ClientRequests) → slice_get sends place ≡ Some sent → (c seq : ℕ) → c ≡ client + place → 1 ≤ seq → seq ≤ length sent.requests → P (record { client = c; seq = seq }))
    → AllByRecursion P (commands_from client sends)
all_commands P client [] h = tt
all_commands P client (sent ∷ more) h =
    all_append P (map (λ seq. record { client = client; seq = seq }) (nodes_to (length sent.requests))) (commands_from (client + 1) more)
    (all_map (λ seq. P (record { client = client; seq = seq })) P (λ seq. record { client = client; seq = seq }) (λ seq p. p) (nodes_to (length sent.requests))
    (all_numbers (λ seq. P (record { client = client; seq = seq })) (length sent.requests) (λ seq some low. h 0 sent refl client seq (omega arith) some low)))
    (all_commands P (client + 1) more (λ place sent' here c seq is some low. h (suc place) sent' here c seq (omega (arith, is)) some low))

none_counted : {X : Type 0} (p : X → Bool) (xs : List X) → AllByRecursion (λ x. p x ≡ false) xs → count_by p xs ≡ 0
none_counted p [] h = refl
none_counted p (x ∷ xs) h =
    let more = none_counted p xs h.1 in
    let this : ◌≡◌ {A = ℕ} (cond (p x) 1 0) 0 = ap {A = Bool} {B = ℕ} (λ b. cond b 1 0) h.0 in
    let both = count_cons p x xs in
    omega (arith, more, this, both)

pub none_open : (rules : RaceRules) (nodes : ℕ) (w : World) → IsReached nodes w → (tries : Tried) → ((client : ℕ) → IsTriesOf rules w client (tries client))
    → ((client : ℕ) → 1 ≤ client → client ≤ length rules.requests → HasDoneAll client (requests_of rules client) (tries client)) → unended rules w ≡ 0
none_open rules nodes w reached tries h done =
    none_counted (λ (c : Command). is_open w c.client c.seq) (commands_of rules)
    (all_commands (λ (c : Command). is_open w c.client c.seq ≡ false) 1 rules.requests (λ place sent here c seq is some low.
    subst (λ k. is_open w k seq ≡ false) (let e : suc place ≡ c = omega (arith, is) in e) (one place sent here seq some low)))
  where
    within : (sends : List ClientRequests) (place : ℕ) (sent : ClientRequests) → slice_get sends place ≡ Some sent → suc place ≤ length sends
    within [] place sent e = absurd cc
    within (s ∷ sends) zero sent e = omega arith
    within (s ∷ sends) (suc place) sent e = let less = within sends place sent e in omega (arith, less)

    one : (place : ℕ) (sent : ClientRequests) → slice_get rules.requests place ≡ Some sent → (seq : ℕ) → 1 ≤ seq → seq ≤ length sent.requests → is_open w (suc place) seq ≡ false
    one place sent here seq some low =
        let asks : requests_of rules (suc place) ≡ sent.requests = ap (λ o. option_map_or (λ (s : ClientRequests). s.requests) o []) here in
        let long : length (requests_of rules (suc place)) ≡ length sent.requests = ap length asks in
        not_open rules nodes w reached (suc place) (tries (suc place)) (h (suc place)) (done (suc place) (omega arith) (within rules.requests place sent here)) seq some (omega (arith, low, long))
