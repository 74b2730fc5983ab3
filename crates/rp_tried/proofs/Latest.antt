-- The latest try of a command, among all tries of its client.
use Rattle.std.proofs.Common.{◌≡◌, ℕ, ◌+◌, ◌<◌, ◌≤◌, ◌⊎◌, inl, inr, Bool, true, false, cond, eqb-true, eq-eqb, Option, None, Some, List, [], ◌∷◌, refl, sym, ap, ◌∙◌, arith}
use Rattle.std.specs.Prelude.{◌&&◌, nat_lt}
use Rattle.std.specs.List.{find, AllByRecursion}
use Rattle.std.proofs.lemmas.Bool.{ltb-true}
use Rattle.rp_base.specs.declared.ids.CmdId.{CmdId}
use Rattle.rp_base.proofs.Counts.{count_cons}
use Rattle.rp_base.proofs.Elements.{all_weaker}
use Rattle.rp_request.specs.declared.outcomes.Outcome.{Outcome}
use Rattle.rp_request.specs.declared.outcomes.Outcome.TheVariants.{Success, Refused, Ambiguous, Pending}
use Rattle.rp_events.specs.Worlds.{World}
use Rattle.rp_clients.specs.Finals.{is_of, is_refused, refusals}
use Rattle.rp_clients.specs.Tries.{Try, most_tries, tries_again, id_of, attempt_after, command_after, id_after, id_after_refusal, next_id}
use Rattle.rp_race.specs.declared.rules.RaceRules.{RaceRules}
use Rattle.rp_race.specs.Ends.{goes_on}
use Rattle.rp_race.specs.Played.{IsNextTry, AllTried}
use Rattle.rp_race.proofs.Nexts.{NextIs, Command, Again, next_is}
use Rattle.rp_tried.proofs.Coming.{own_next}

some_id : (a b : CmdId) → ◌≡◌ {A = Option CmdId} (Some a) (Some b) → a ≡ b
some_id a b e = cc

true_false : (b : Bool) → b ≡ true → b ≡ false → ⊥
true_false b t f = let e = sym t ∙ f in absurd cc

-- the next id is of the same command, by one attempt more, or the first of the next one
record IsMore (old new : CmdId) : Type 0 where
  seq : old.seq ≡ new.seq
  attempt : old.attempt + 1 ≡ new.attempt

record IsFirst (old new : CmdId) : Type 0 where
  seq : old.seq + 1 ≡ new.seq
  attempt : 1 ≡ new.attempt

first_of : (id new : CmdId) → command_after id ≡ new → IsFirst id new
first_of id new is = record { seq = ap (λ (i : CmdId). i.seq) is; attempt = ap (λ (i : CmdId). i.attempt) is }

more_of : (id new : CmdId) → attempt_after id ≡ new → IsMore id new
more_of id new is = record { seq = ap (λ (i : CmdId). i.seq) is; attempt = ap (λ (i : CmdId). i.attempt) is }

-- each try stands before the next id
record IsBefore (new : CmdId) (t : Try) : Type 0 where
  low : t.id.seq ≤ new.seq
  less : t.id.seq ≡ new.seq → t.id.attempt < new.attempt

before_later : (old new : CmdId) (t : Try) (end : Option Outcome) → NextIs old end new → IsBefore old t → IsBefore new t
before_later old new t end (Command is) b =
    let k = first_of old new is in let seq = k.seq in let low = b.low in
    record { low = omega (arith, seq, low); less = λ e. absurd (omega (arith, e, seq, low)) }
before_later old new t end (Again why ended is) b =
    let k = more_of old new is in let seq = k.seq in let attempt = k.attempt in let low = b.low in
    record { low = omega (arith, seq, low); less = λ e. let less = b.less (e ∙ sym seq) in omega (arith, less, attempt) }

before_next : (t : Try) (end : Option Outcome) (new : CmdId) → NextIs t.id end new → IsBefore new t
before_next t end new (Command is) = let k = first_of t.id new is in let seq = k.seq in record { low = omega (arith, seq); less = λ e. absurd (omega (arith, e, seq)) }
before_next t end new (Again why ended is) = let k = more_of t.id new is in let seq = k.seq in let attempt = k.attempt in record { low = omega (arith, seq); less = λ e. omega (arith, attempt) }

module _ (rules : RaceRules) (w : World) (client : ℕ) where
  all_before : (tries : List Try) → AllTried rules w client tries → (new : CmdId) → next_id client tries ≡ Some new → AllByRecursion (IsBefore new) tries
  all_before [] h new e = tt
  all_before (t ∷ older) h new e =
      let k = next_is t.id t.end new e in (
        before_next t t.end new k,
        all_weaker (IsBefore t.id) (IsBefore new) (λ x b. before_later t.id new x t.end k b) older (all_before older h.1 t.id h.0.may.next),
      )

  -- none of a command that is higher than all was refused
  none_refused : (seq : ℕ) (tries : List Try) → AllByRecursion (λ (t : Try). t.id.seq < seq) tries → refusals seq tries ≡ 0
  none_refused seq [] h = refl
  none_refused seq (t ∷ older) h = go (is_of seq t) refl (count_cons (λ (x : Try). is_of seq x && is_refused x.end) t older) (none_refused seq older h.1) where
    go : (b : Bool) → is_of seq t ≡ b → refusals seq (t ∷ older) ≡ cond (is_of seq t && is_refused t.end) 1 0 + refusals seq older → refusals seq older ≡ 0 → refusals seq (t ∷ older) ≡ 0
    go true e k ih = absurd (let same = eqb-true t.id.seq seq e in let low = h.0 in omega (arith, same, low))
    go false e k ih = let skip : ◌≡◌ {A = ℕ} (cond (is_of seq t && is_refused t.end) 1 0) 0 = ap {A = Bool} {B = ℕ} (λ b. cond (b && is_refused t.end) 1 0) e in omega (arith, k, ih, skip)

  -- each attempt but the latest was refused
  counted : (tries : List Try) → AllTried rules w client tries → (new : CmdId) → next_id client tries ≡ Some new → refusals new.seq tries + 1 ≡ new.attempt
  counted [] h new e = ap (λ (i : CmdId). i.attempt) (some_id (id_of client 1 1) new e)
  counted (t ∷ older) h new e =
      go (next_is t.id t.end new e) (counted older h.1 t.id h.0.may.next) (count_cons (λ (x : Try). is_of new.seq x && is_refused x.end) t older)
    where
      go : NextIs t.id t.end new → refusals t.id.seq older + 1 ≡ t.id.attempt → refusals new.seq (t ∷ older) ≡ cond (is_of new.seq t && is_refused t.end) 1 0 + refusals new.seq older → refusals new.seq (t ∷ older) + 1 ≡ new.attempt
      go (Command is) ih k =
          let f = first_of t.id new is in let seq = f.seq in let attempt = f.attempt in
          let low : AllByRecursion (λ (x : Try). x.id.seq < new.seq) (t ∷ older) =
          (omega (arith, seq), all_weaker (IsBefore t.id) (λ (x : Try). x.id.seq < new.seq) (λ x b. let below = b.low in omega (arith, below, seq)) older (all_before older h.1 t.id h.0.may.next)) in
          let none : refusals new.seq (t ∷ older) ≡ 0 = none_refused new.seq (t ∷ older) low in
          omega (arith, none, attempt)
      go (Again why ended is) ih k =
          let m = more_of t.id new is in let attempt = m.attempt in
          let one : ◌≡◌ {A = ℕ} (cond (is_of new.seq t && is_refused t.end) 1 0) 1 = ap {A = Bool} {B = ℕ} (λ b. cond (b && is_refused t.end) 1 0) (eq-eqb t.id.seq new.seq m.seq) ∙ ap {A = Option Outcome} {B = ℕ} (λ o. cond (is_refused o) 1 0) ended in
          let same : refusals t.id.seq older ≡ refusals new.seq older = ap (λ s. refusals s older) m.seq in
          omega (arith, ih, k, one, same, attempt)

  -- no attempt's number passes the most
  next_low : (id : CmdId) (end : Option Outcome) (new : CmdId) → id_after id end ≡ Some new → new.attempt ≤ most_tries
  next_low id None new e = absurd cc
  next_low id (Some Pending) new e = absurd cc
  next_low id (Some (Success reply)) new e = let one = (first_of id new (some_id (command_after id) new e)).attempt in omega (arith, one)
  next_low id (Some (Ambiguous why)) new e = let one = (first_of id new (some_id (command_after id) new e)).attempt in omega (arith, one)
  next_low id (Some (Refused why)) new e = go (tries_again why) (nat_lt id.attempt most_tries) refl (some_id (id_after_refusal id why) new e) where
    first_low : command_after id ≡ new → new.attempt ≤ most_tries
    first_low is = let one = (first_of id new is).attempt in omega (arith, one)

    go : (again less : Bool) → nat_lt id.attempt most_tries ≡ less → cond (again && less) (attempt_after id) (command_after id) ≡ new → new.attempt ≤ most_tries
    go false less l is = first_low is
    go true false l is = first_low is
    go true true l is = let more = (more_of id new is).attempt in let low = ltb-true id.attempt most_tries l in omega (arith, more, low)

  pub attempt_low : (tries : List Try) (new : CmdId) → next_id client tries ≡ Some new → new.attempt ≤ most_tries
  attempt_low [] new e = let one : 1 ≡ new.attempt = ap (λ (i : CmdId). i.attempt) (some_id (id_of client 1 1) new e) in omega (arith, one)
  attempt_low (t ∷ older) new e = next_low t.id t.end new e

  -- this is the latest try of a command: no other one has a higher number, and each of those before it was refused
  pub record IsLatest (seq : ℕ) (tries : List Try) (t : Try) : Type 0 where
    pub older : List Try
    pub was : IsNextTry rules w client older t
    pub client_is : t.id.client ≡ client
    pub seq_is : t.id.seq ≡ seq
    pub found : find (is_of seq) tries ≡ Some t
    pub most : AllByRecursion (λ (x : Try). x.id.seq ≡ seq → x.id.attempt ≤ t.id.attempt) tries
    pub refused : refusals seq tries + 1 ≡ cond (is_refused t.end) 1 0 + t.id.attempt

  -- or there is none
  pub record HasNone (seq : ℕ) (tries : List Try) : Type 0 where
    pub found : find (is_of seq) tries ≡ None
    pub none : AllByRecursion (λ (x : Try). x.id.seq ≡ seq → ⊥) tries

  pub latest : (tries : List Try) → AllTried rules w client tries → (seq : ℕ) → HasNone seq tries ⊎ ((t : Try) × IsLatest seq tries t)
  latest [] h seq = inl (record { found = refl; none = tt })
  latest (t ∷ older) h seq = go (is_of seq t) refl (latest older h.1 seq) where
    k : refusals seq (t ∷ older) ≡ cond (is_of seq t && is_refused t.end) 1 0 + refusals seq older
    k = count_cons (λ (x : Try). is_of seq x && is_refused x.end) t older

    go : (b : Bool) → is_of seq t ≡ b → HasNone seq older ⊎ ((x : Try) × IsLatest seq older x) → HasNone seq (t ∷ older) ⊎ ((x : Try) × IsLatest seq (t ∷ older) x)
    go true e ih =
        let same : t.id.seq ≡ seq = eqb-true t.id.seq seq e in
        let before = counted older h.1 t.id h.0.may.next in
        let those : refusals t.id.seq older ≡ refusals seq older = ap (λ s. refusals s older) same in
        let one : ◌≡◌ {A = ℕ} (cond (is_of seq t && is_refused t.end) 1 0) (cond (is_refused t.end) 1 0) = ap {A = Bool} {B = ℕ} (λ b. cond (b && is_refused t.end) 1 0) e in
        let k' = k in
        inr (
          t,
          record {
            older = older;
            was = h.0;
            client_is = own_next rules w client older h.1 t.id h.0.may.next;
            seq_is = same;
            found = ap (λ b. cond b (Some t) (find (is_of seq) older)) e;
            most = (
              λ s. omega arith,
              all_weaker (IsBefore t.id) (λ (x : Try). x.id.seq ≡ seq → x.id.attempt ≤ t.id.attempt) (λ x b s. let less = b.less (s ∙ sym same) in omega (arith, less)) older (all_before older h.1 t.id h.0.may.next),
            );
            refused = omega (arith, k', before, those, one);
          },
        )
    go false e (inl lacks) = inl (record {
      found = ap (λ b. cond b (Some t) (find (is_of seq) older)) e ∙ lacks.found;
      none = (λ s. true_false (is_of seq t) (eq-eqb t.id.seq seq s) e, lacks.none);
    })
    go false e (inr x) =
        let other : ◌≡◌ {A = ℕ} (cond (is_of seq t && is_refused t.end) 1 0) 0 = ap {A = Bool} {B = ℕ} (λ b. cond (b && is_refused t.end) 1 0) e in
        let k' = k in
        let those = x.1.refused in
        inr (
          x.0,
          record {
            older = x.1.older;
            was = x.1.was;
            client_is = x.1.client_is;
            seq_is = x.1.seq_is;
            found = ap (λ b. cond b (Some t) (find (is_of seq) older)) e ∙ x.1.found;
            most = (λ s. absurd (true_false (is_of seq t) (eq-eqb t.id.seq seq s) e), x.1.most);
            refused = omega (arith, k', other, those);
          },
        )

  -- a command below the next one has ended: the client knows the end of its latest try, and goes on no more
  pub record HasEnded (seq : ℕ) (tries : List Try) : Type 0 where
    pub last : Try
    pub found : find (is_of seq) tries ≡ Some last
    pub outcome : Outcome
    pub end : last.end ≡ Some outcome
    pub stops : goes_on last.id.attempt outcome ≡ false

  stopped : (id : CmdId) (end : Option Outcome) (new : CmdId) → id.seq < new.seq → id_after id end ≡ Some new → (outcome : Outcome) × (end ≡ Some outcome) × (goes_on id.attempt outcome ≡ false)
  stopped id None new less e = absurd cc
  stopped id (Some Pending) new less e = absurd cc
  stopped id (Some (Success reply)) new less e = (Success reply, refl, refl)
  stopped id (Some (Ambiguous why)) new less e = (Ambiguous why, refl, refl)
  stopped id (Some (Refused why)) new less e = (Refused why, refl, go (tries_again why) (nat_lt id.attempt most_tries) (some_id (id_after_refusal id why) new e)) where
    go : (again low : Bool) → cond (again && low) (attempt_after id) (command_after id) ≡ new → (low && again) ≡ false
    go false true is = refl
    go false false is = refl
    go true false is = refl
    go true true is = absurd (let same = (more_of id new is).seq in omega (arith, same, less))

  pub has_ended : (tries : List Try) → AllTried rules w client tries → (new : CmdId) → next_id client tries ≡ Some new → (seq : ℕ) → 1 ≤ seq → seq < new.seq → HasEnded seq tries
  has_ended [] h new e seq some less = absurd (let one : 1 ≡ new.seq = ap (λ (i : CmdId). i.seq) (some_id (id_of client 1 1) new e) in omega (arith, one, some, less))
  has_ended (t ∷ older) h new e seq some less = go (is_of seq t) refl (λ low. has_ended older h.1 t.id h.0.may.next seq some low) where
    step : NextIs t.id t.end new → new.seq ≤ t.id.seq + 1
    step (Command is) = let s = (first_of t.id new is).seq in omega (arith, s)
    step (Again why ended is) = let s = (more_of t.id new is).seq in omega (arith, s)

    go : (b : Bool) → is_of seq t ≡ b → (seq < t.id.seq → HasEnded seq older) → HasEnded seq (t ∷ older)
    go true is ih =
        let same : t.id.seq ≡ seq = eqb-true t.id.seq seq is in
        let s = stopped t.id t.end new (omega (arith, same, less)) e in
        record { last = t; found = ap (λ b. cond b (Some t) (find (is_of seq) older)) is; outcome = s.0; end = s.1; stops = s.2 }
    go false is ih =
        let near = step (next_is t.id t.end new e) in
        let ne : t.id.seq ≡ seq → ⊥ = λ s. true_false (is_of seq t) (eq-eqb t.id.seq seq s) is in
        let x : HasEnded seq older = ih (omega (arith, near, less, ne)) in
        record { last = x.last; found = ap (λ b. cond b (Some t) (find (is_of seq) older)) is ∙ x.found; outcome = x.outcome; end = x.end; stops = x.stops }
