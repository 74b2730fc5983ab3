-- The next try of a client is one that no journal has, behind a refusal of the try before it, and so is lawful.
use Rattle.std.proofs.Common.{◌≡◌, ℕ, zero, suc, ◌+◌, ◌-◌, ◌<◌, ◌≤◌, Bool, true, false, cond, inl, inr, eq-eqb, Option, None, Some, List, [], ◌∷◌, refl, sym, ap, subst, ◌∙◌, arith}
use Rattle.std.specs.Prelude.{slice_get, nat_lt, not, ◌==◌, ◌&&◌, ◌||◌, option_and_then}
use Rattle.std.specs.List.{find}
use Rattle.std.specs.Option.{option_map_or}
use Rattle.std.proofs.lemmas.Bool.{and_from}
use Rattle.rp_base.specs.declared.ids.CmdId.{CmdId}
use Rattle.rp_base.proofs.IdLaws.{same_is, same_itself, id_by_parts}
use Rattle.rp_request.specs.Attempts.{previous}
use Rattle.rp_request.specs.Requests.{same_request}
use Rattle.rp_request.specs.declared.outcomes.Outcome.{Outcome}
use Rattle.rp_request.specs.declared.outcomes.Outcome.TheVariants.{Success, Refused, Ambiguous, Pending}
use Rattle.rp_request.specs.declared.outcomes.Refusal.{Refusal}
use Rattle.rp_request.specs.declared.requests.Request.{Request}
use Rattle.rp_events.specs.declared.answers.EventAnswer.{EventAnswer}
use Rattle.rp_events.specs.declared.journals.JournalEntry.{JournalEntry}
use Rattle.rp_events.specs.declared.journals.PastEvent.{PastEvent}
use Rattle.rp_events.specs.declared.journals.PastEvent.TheVariants as past
use Rattle.rp_events.specs.Lawful.{is_refusal, was_refused, may_begin, Lawful}
use Rattle.rp_events.specs.Nodes.{Node, is_full}
use Rattle.rp_events.specs.Worlds as worlds
use Rattle.rp_events.specs.Worlds.{World, node_of, is_admission_of, asked_at, was_asked, request_of, asked_request_at, asked_request}
use Rattle.rp_journals.specs.Asked.{AskedOnce}
use Rattle.rp_journals.specs.Entries.{at_node}
use Rattle.rp_journals.proofs.Growing.{one_node}
use Rattle.rp_journals.proofs.Asking.{any_at}
use Rattle.rp_journals.proofs.Telling.{found_place}
use Rattle.rp_journals.proofs.Ending.{found_passes}
use Rattle.rp_journals.proofs.Waiting.{any_place, found_any, outcome_here}
use Rattle.rp_journals.proofs.Itself.{equal_itself, request_itself}
use Rattle.rp_clients.specs.Tries.{Try, most_tries, tries_again, id_of, attempt_after, command_after, id_after, id_after_refusal, next_id}
use Rattle.rp_race.specs.declared.rules.RaceRules.{RaceRules}
use Rattle.rp_race.specs.InTurn.{IsEarlier}
use Rattle.rp_race.specs.Played.{requests_of, IsEndAt, WasTried, IsNextTry, AllTried, is_admission_by, IsAmong, IsTriesOf}
use Rattle.rp_race.specs.Gives.{Tried, MayTry}

-- an entry that admits an attempt
pub admission_is : (id : CmdId) (ev : PastEvent) (answer : EventAnswer) → is_admission_of id (record { event = ev; answer = answer }) ≡ true → (range : ℕ) × (place : ℕ) × (ev ≡ past.Admit range id place)
admission_is id (past.Admit range other place) answer h = (range, place, ap (λ i. past.Admit range i place) (same_is other id h))
admission_is id (past.Ask range) answer h = absurd cc
admission_is id (past.Transfer range to) answer h = absurd cc
admission_is id (past.Collect range taken) answer h = absurd cc
admission_is id (past.Flush range) answer h = absurd cc
admission_is id past.Tick answer h = absurd cc
admission_is id (past.Deliver from number) answer h = absurd cc
admission_is id (past.Apply range) answer h = absurd cc
admission_is id (past.Cut range) answer h = absurd cc
admission_is id (past.Remove range) answer h = absurd cc
admission_is id (past.Peek range key) answer h = absurd cc
admission_is id past.Restart answer h = absurd cc
admission_is id (past.Round sent) answer h = absurd cc

same_admission : (a b : CmdId) (r s p q : ℕ) → past.Admit r a p ≡ past.Admit s b q → a ≡ b
same_admission a b r s p q e = cc

pub one_id : (a b : CmdId) (e : JournalEntry) → is_admission_of a e ≡ true → is_admission_of b e ≡ true → a ≡ b
one_id a b e h k =
    let x = admission_is a e.event e.answer h in
    let y = admission_is b e.event e.answer k in
    same_admission a b x.0 y.0 x.1 y.1 (sym x.2 ∙ y.2)

pub by_its_client : (id : CmdId) (e : JournalEntry) → is_admission_of id e ≡ true → is_admission_by id.client e.event ≡ true
by_its_client id e h =
    let x = admission_is id e.event e.answer h in
    ap (is_admission_by id.client) x.2 ∙ equal_itself id.client

-- the order of a client's attempts
pub before_trans : (a b c : CmdId) → IsEarlier a b → IsEarlier b c → IsEarlier a c
before_trans a b c (inl h) (inl k) = inl (omega (arith, h, k))
before_trans a b c (inl h) (inr k) = let k0 = k.0 in inl (omega (arith, h, k0))
before_trans a b c (inr h) (inl k) = let h0 = h.0 in inl (omega (arith, h0, k))
before_trans a b c (inr h) (inr k) = let h0 = h.0 in let h1 = h.1 in let k0 = k.0 in let k1 = k.1 in inr (omega (arith, h0, k0), omega (arith, h1, k1))

pub not_before : (a b : CmdId) → a ≡ b → IsEarlier a b → ⊥
not_before a b e (inl h) = let s : a.seq ≡ b.seq = ap (λ (i : CmdId). i.seq) e in absurd (omega (arith, h, s))
not_before a b e (inr h) = let s : a.attempt ≡ b.attempt = ap (λ (i : CmdId). i.attempt) e in let h1 = h.1 in absurd (omega (arith, h1, s))

-- the next id is that of the next command, or of the next attempt behind a refusal
pub data NextIs (id : CmdId) (end : Option Outcome) (new : CmdId) : Type 0 where
  Command : command_after id ≡ new → NextIs id end new
  Again : (why : Refusal) → end ≡ Some (Refused why) → attempt_after id ≡ new → NextIs id end new

some_id : (a b : CmdId) → ◌≡◌ {A = Option CmdId} (Some a) (Some b) → a ≡ b
some_id a b e = cc

pub next_is : (id : CmdId) (end : Option Outcome) (new : CmdId) → id_after id end ≡ Some new → NextIs id end new
next_is id None new e = absurd cc
next_is id (Some Pending) new e = absurd cc
next_is id (Some (Success reply)) new e = Command (some_id (command_after id) new e)
next_is id (Some (Ambiguous why)) new e = Command (some_id (command_after id) new e)
next_is id (Some (Refused why)) new e = go (tries_again why && nat_lt id.attempt most_tries) (some_id (id_after_refusal id why) new e) where
  go : (b : Bool) → cond b (attempt_after id) (command_after id) ≡ new → NextIs id (Some (Refused why)) new
  go true is = Again why refl is
  go false is = Command is

before_next : (id : CmdId) (end : Option Outcome) (new : CmdId) → NextIs id end new → IsEarlier id new
before_next id end new (Command is) = subst (IsEarlier id) is (inl (omega arith))
before_next id end new (Again why ended is) = subst (IsEarlier id) is (inr (refl, omega arith))

-- each try comes before the next one
pub some_try : (a b : Try) → ◌≡◌ {A = Option Try} (Some a) (Some b) → a ≡ b
some_try a b e = cc

pub all_before : (rules : RaceRules) (w : World) (client : ℕ) (tries : List Try) → AllTried rules w client tries → (new : CmdId) → next_id client tries ≡ Some new → (k : ℕ) (t : Try) → slice_get tries k ≡ Some t → IsEarlier t.id new
all_before rules w client [] h new e k t at = absurd cc
all_before rules w client (first ∷ older) h new e zero t at = subst (λ (z : Try). IsEarlier z.id new) (some_try first t at) (before_next first.id first.end new (next_is first.id first.end new e))
all_before rules w client (first ∷ older) h new e (suc k) t at =
    before_trans t.id first.id new (all_before rules w client older h.1 first.id h.0.may.next k t at) (before_next first.id first.end new (next_is first.id first.end new e))

attempt_positive : (client : ℕ) (tries : List Try) (new : CmdId) → next_id client tries ≡ Some new → 1 ≤ new.attempt
attempt_positive client [] new e = let a : 1 ≡ new.attempt = ap (λ (i : CmdId). i.attempt) (some_id (id_of client 1 1) new e) in omega (arith, a)
attempt_positive client (t ∷ older) new e = go (next_is t.id t.end new e) where
  go : NextIs t.id t.end new → 1 ≤ new.attempt
  go (Command is) = let a : 1 ≡ new.attempt = ap (λ (i : CmdId). i.attempt) is in omega (arith, a)
  go (Again why ended is) = let a : t.id.attempt + 1 ≡ new.attempt = ap (λ (i : CmdId). i.attempt) is in omega (arith, a)

-- no journal has the next try
pub unasked : (rules : RaceRules) (w : World) (tries : List Try) (id : CmdId) → IsTriesOf rules w id.client tries → next_id id.client tries ≡ Some id → was_asked w id ≡ false
unasked rules w tries id h next = go (was_asked w id) refl where
  go : (b : Bool) → was_asked w id ≡ b → was_asked w id ≡ false
  go false e = e
  go true e =
      let k = any_place (asked_at id) w e in
      let a = any_place (is_admission_of id) k.1.journal k.3 in
      let among : IsAmong tries a.1 = h.all (suc k.0) a.0 a.1 (record { n = k.1; has = k.2; here = a.2 }) (by_its_client id a.1 a.3) in
      absurd (not_before among.try_of.id id (one_id among.try_of.id id a.1 among.is a.3) (all_before rules w id.client tries h.each id next among.k among.try_of among.here))

-- what was asked at a node is found there
some_entry : (a b : JournalEntry) → ◌≡◌ {A = Option JournalEntry} (Some a) (Some b) → a ≡ b
some_entry a b e = cc

pub found_entry : (w : World) → AskedOnce w → (id : CmdId) (node : ℕ) (n : Node) → node_of w node ≡ Some n → (place : ℕ) (e : JournalEntry) → slice_get n.journal place ≡ Some e → is_admission_of id e ≡ true
    → find (is_admission_of id) n.journal ≡ Some e
found_entry w once id node n has place e here adm =
    let f = found_any (is_admission_of id) n.journal place e here adm in
    let at = found_place (is_admission_of id) n.journal f.0 f.1 in
    let same = once id node place e (record { n = n; has = has; here = here }) adm node at.0 f.0 (record { n = n; has = has; here = at.1 }) (found_passes (is_admission_of id) n.journal f.0 f.1) in
    let is : f.0 ≡ e = some_entry f.0 e (sym at.1 ∙ ap (slice_get n.journal) same.1 ∙ here) in
    f.1 ∙ ap Some is

pub found_node : (w : World) → AskedOnce w → (id : CmdId) (node : ℕ) (n : Node) → node_of w node ≡ Some n → asked_at id n ≡ true → find (asked_at id) w ≡ Some n
found_node w once id zero n has asked = absurd cc
found_node w once id (suc place) n has asked =
    let f = found_any (asked_at id) w place n has asked in
    let at = found_place (asked_at id) w f.0 f.1 in
    let first = any_place (is_admission_of id) f.0.journal (found_passes (asked_at id) w f.0 f.1) in
    let this = any_place (is_admission_of id) n.journal asked in
    let same = once id (suc place) this.0 this.1 (record { n = n; has = has; here = this.2 }) this.3 (suc at.0) first.0 first.1 (record { n = f.0; has = at.1; here = first.2 }) first.3 in
    f.1 ∙ ap Some (one_node w (suc place) f.0 n (subst (λ k. node_of w k ≡ Some f.0) same.0 at.1) has)

-- a try that was made was asked at its node, for its request
module _ (w : World) (once : AskedOnce w) (t : Try) (request : Request) (s : WasTried w t request) where
  pub tried_asked : asked_at t.id s.n ≡ true
  tried_asked = any_at (is_admission_of t.id) s.n.journal s.place _ s.here (same_itself t.id)

  tried_request : asked_request w t.id ≡ Some request
  tried_request =
      ap (option_and_then (asked_request_at t.id)) (found_node w once t.id t.node s.n s.has tried_asked)
      ∙ ap (option_and_then (λ (e : JournalEntry). request_of s.n e.event)) (found_entry w once t.id t.node s.n s.has s.place _ s.here (same_itself t.id))
      ∙ s.asked

  tried_refused : (why : Refusal) → t.end ≡ Some (Refused why) → was_refused w t.id ≡ true
  tried_refused why ended =
      let end : IsEndAt t.id s.n (Some (Refused why)) = subst (IsEndAt t.id s.n) ended s.end in
      ap (λ o. option_map_or is_refusal o false) (outcome_here w once t.id t.node s.n s.has tried_asked ∙ end.0)

or_left : (a b : Bool) → a ≡ true → (a || b) ≡ true
or_left true b e = refl
or_left false b e = absurd cc

or_right : (a b : Bool) → b ≡ true → (a || b) ≡ true
or_right true b e = refl
or_right false b e = e

some_request : (a b : Request) → ◌≡◌ {A = Option Request} (Some a) (Some b) → a ≡ b
some_request a b e = cc

above_one : (n : ℕ) → 1 < n → nat_lt 1 n ≡ true
above_one n h = grind arith

-- the attempt before it was refused, where it is not the first
abbrev IsBehind : World → CmdId → Request → Bool
IsBehind w id request = id.attempt == 1 || (nat_lt 1 id.attempt && was_refused w (previous id) && option_map_or (same_request request) (asked_request w (previous id)) false)

pub is_behind : (rules : RaceRules) (w : World) (client : ℕ) → AskedOnce w → (tries : List Try) → AllTried rules w client tries → (id : CmdId) (request : Request) → next_id client tries ≡ Some id
    → slice_get (requests_of rules client) (id.seq - 1) ≡ Some request → IsBehind w id request ≡ true
is_behind rules w client once [] h id request next asked =
    or_left (id.attempt == 1) _ (eq-eqb id.attempt 1 (sym (ap (λ (i : CmdId). i.attempt) (some_id (id_of client 1 1) id next))))
is_behind rules w client once (t ∷ older) h id request next asked = go (next_is t.id t.end id next) where
  go : NextIs t.id t.end id → IsBehind w id request ≡ true
  go (Command is) = or_left (id.attempt == 1) _ (eq-eqb id.attempt 1 (sym (ap (λ (i : CmdId). i.attempt) is)))
  go (Again why ended is) =
      let was : IsNextTry rules w client older t = h.0 in
      let positive = attempt_positive client older t.id was.may.next in
      let attempt_is : t.id.attempt + 1 ≡ id.attempt = ap (λ (i : CmdId). i.attempt) is in
      let seq_is : t.id.seq ≡ id.seq = ap (λ (i : CmdId). i.seq) is in
      let before_is : previous id ≡ t.id = id_by_parts (previous id) t.id (sym (ap (λ (i : CmdId). i.client) is)) (sym seq_is) (omega (arith, attempt_is)) in
      let request_is : was.request ≡ request = some_request was.request request (sym was.may.asked ∙ ap (λ k. slice_get (requests_of rules client) (k - 1)) seq_is ∙ asked) in
      let refused : was_refused w (previous id) ≡ true = ap (was_refused w) before_is ∙ tried_refused w once t was.request was.tried why ended in
      let same : option_map_or (same_request request) (asked_request w (previous id)) false ≡ true =
      ap (λ o. option_map_or (same_request request) o false) (ap (asked_request w) before_is ∙ tried_request w once t was.request was.tried)
      ∙ ap (same_request request) request_is ∙ request_itself request in
      or_right (id.attempt == 1) _
      (and_from (nat_lt 1 id.attempt && was_refused w (previous id)) _ (and_from (nat_lt 1 id.attempt) (was_refused w (previous id)) (above_one id.attempt (omega (arith, positive, attempt_is))) refused) same)

-- so it is lawful
pub lawful_try : (rules : RaceRules) (nodes : ℕ) (w : World) (node : ℕ) (n : Node) (tries : Tried) (range : ℕ) (id : CmdId) (request : Request) → AskedOnce w → node_of w node ≡ Some n
    → IsTriesOf rules w id.client (tries id.client) → MayTry rules nodes node n tries range id request → Lawful w (at_node node (worlds.Admit range id request))
lawful_try rules nodes w node n tries range id request once has h may = record {
  lawful =
      ap (λ o. option_map_or (λ (k : Node). not (is_full k) && may_begin w id request) o false) has
      ∙ and_from (not (is_full n)) (may_begin w id request) (ap not may.room)
      (and_from (not (was_asked w id)) _ (ap not (unasked rules w (tries id.client) id h may.may.next))
      (is_behind rules w id.client once (tries id.client) h.each id request may.may.next may.may.asked));
  widths = (may.id_fits, may.request_fits);
}
