-- What holds of the ranges together at any time.
use Rattle.std.proofs.Common.{◌≡◌, ℕ, ◌-◌, ◌<◌, ◌≤◌, Bool, true, false, cond, ◌⊎◌, inl, inr, List, [], ◌∷◌, length, Option, Some, None, refl, sym, ap, subst, ◌∙◌, arith}
use Rattle.std.proofs.lemmas.Bool.{cases_lt, cond_both}
use Rattle.rp_base.specs.Ids.{same_id}
use Rattle.rp_base.specs.declared.ids.CmdId.{CmdId}
use Rattle.rp_base.proofs.IdLaws.{id_by_parts, same_is, not_same_apart, id_cases}
use Rattle.rp_request.specs.Applied.{AppliedState}
use Rattle.rp_rangesafe.specs.Attempts.{Unborn, Refused, Attempt, IsBorn, IsEnded}
use Rattle.rp_rangesafe.specs.World.{World, begin, state_at, Event, Admit, Flush, Return, Refuse, Commit, Apply, Snapshot, Remove, Restart, Lawful, happens, with_node}
use Rattle.rp_rangesafe.specs.Places.{IsReached, IsLater}
use Rattle.rp_rangesafe.specs.Ranges.{Owner, Nobody, Turned, At, Ranges, at_first, Step, In, Turn_away, IsMade, IsRefusedAt, IsRefused, MayBegin, IsLawfulIn, IsLawful, with_right, with_owner, within, after_event, after_step, AreLawful, after_steps, AreReached, AreLater}
use Rattle.rp_request.specs.Attempts.{previous}
use Rattle.rp_request.specs.States.{first_applied, right_of}
use Rattle.rp_rangesafe.proofs.Tables.{node_other, at_with_node}
use Rattle.rp_rangesafe.proofs.Growth.{Admits, made_before}
use Rattle.rp_rangesafe.proofs.Runs.{later_itself, later_further, later_reached, later_grown}

-- what holds of the changed owner and of each other one
at_owner : (P : CmdId → Owner → Type 0) (f : CmdId → Owner) (id : CmdId) (o : Owner) → P id o
    → ((q : CmdId) → (q ≡ id → ⊥) → P q (f q)) → (q : CmdId) → P q (with_owner f id o q)
unfolding with_owner
at_owner P f id o h k q = cond_both (same_id q id) o (f q) (P q) (λ e. subst (λ x. P x o) (sym (same_is q id e)) h) (λ e. k q (not_same_apart q id e))

-- a range that there is, before and after a step
pub record Onto (w v : Ranges) : Type 0 where
  pub opened : (r : ℕ) → w.opened r ≡ true → v.opened r ≡ true
  pub later : (r : ℕ) → w.opened r ≡ true → IsLater (w.range r) (v.range r)

-- an attempt was made in a range that there is; in one that there is not, nothing happened
pub record Whole (w : Ranges) : Type 0 where
  pub reached : (r : ℕ) → IsReached (w.range r)
  pub shut : (r : ℕ) (id : CmdId) → w.opened r ≡ false → ((w.range r).attempt id).stage ≡ Unborn
  pub empty : (r : ℕ) → w.opened r ≡ false → (w.range r).log ≡ []
  pub owned : (r : ℕ) (id : CmdId) → IsBorn ((w.range r).attempt id).stage → w.owner id ≡ At r
  pub counted : (id : CmdId) → IsMade (w.owner id) → 0 < id.attempt
  pub turns : (x y : CmdId) → x.client ≡ y.client → x.seq ≡ y.seq → 0 < x.attempt → x.attempt < y.attempt → IsMade (w.owner y) → IsRefused w x

reached_begin : (s : AppliedState) → IsReached (begin s)
reached_begin s = record { start = s; events = []; lawful = tt; reached = refl }

pub whole_first : Whole at_first
whole_first = record {
  reached = λ r. reached_begin first_applied;
  shut = λ r id h. refl;
  empty = λ r h. refl;
  owned = λ r id h. absurd h;
  counted = λ id h. absurd h;
  turns = λ x y c s p l h. absurd h;
}

one_later : (w : World) (e : Event) → Lawful w e → IsLater w (happens w e)
one_later w e h = record { events = e ∷ []; lawful = (h, tt); reached = refl }

-- a refused attempt stays refused
pub refused_onto : (w v : Ranges) → Whole w → Onto w v → (x : CmdId) (o : Owner) → IsRefusedAt w x o → IsRefusedAt v x o
refused_onto w v h k x Nobody r = r
refused_onto w v h k x Turned r = tt
refused_onto w v h k x (At range) r = go (w.opened range) refl where
  go : (b : Bool) → w.opened range ≡ b → ((v.range range).attempt x).stage ≡ Refused
  go true e =
      let g = later_grown (w.range range) (v.range range) (k.later range e) x in
      ap (λ (a : Attempt). a.stage) (sym (g.ended (subst IsEnded (sym r) tt))) ∙ r
  go false e = let no = h.shut range x e in absurd cc

is_made : (w : Ranges) (x : CmdId) (o : Owner) → IsRefusedAt w x o → IsMade o
is_made w x Nobody h = h
is_made w x Turned h = tt
is_made w x (At range) h = tt

-- ranges in which one more attempt begins, or none
module _ (w v : Ranges) (h : Whole w) (k : Onto w v) where
  kept_refused : (x : CmdId) → v.owner x ≡ w.owner x → IsRefused w x → IsRefused v x
  kept_refused x e r = subst (IsRefusedAt v x) (sym e) (refused_onto w v h k x (w.owner x) r)

  -- no attempt begins
  turns_on : ((x : CmdId) → v.owner x ≡ w.owner x) → (x y : CmdId) → x.client ≡ y.client → x.seq ≡ y.seq → 0 < x.attempt → x.attempt < y.attempt → IsMade (v.owner y) → IsRefused v x
  turns_on same x y c s p l m = kept_refused x (same x) (h.turns x y c s p l (subst IsMade (same y) m))

  module _ (id : CmdId) (o : Owner) (may : MayBegin w id) (made : IsMade o) (owner : (x : CmdId) → v.owner x ≡ with_owner w.owner id o x) where
    counted_new : (x : CmdId) → IsMade (v.owner x) → 0 < x.attempt
    counted_new x m = at_owner (λ q p. IsMade p → 0 < q.attempt) w.owner id o (λ _. go may.turn) (λ q _. h.counted q) x (subst IsMade (owner x) m) where
      go : (id.attempt ≡ 1) ⊎ ((1 < id.attempt) × IsRefused w (previous id)) → 0 < id.attempt
      go (inl e) = omega arith
      go (inr p) = let l = p.0 in omega arith

    -- those before it were refused
    before_new : (x : CmdId) → x.client ≡ id.client → x.seq ≡ id.seq → 0 < x.attempt → x.attempt < id.attempt → IsRefused w x
    before_new x c s p l = go may.turn where
      go : (id.attempt ≡ 1) ⊎ ((1 < id.attempt) × IsRefused w (previous id)) → IsRefused w x
      go (inl e) = absurd (omega arith)
      go (inr q) = last (cases_lt x.attempt (id.attempt - 1)) where
        last : (x.attempt < id.attempt - 1) ⊎ (id.attempt - 1 ≤ x.attempt) → IsRefused w x
        last (inl lt) = h.turns x (previous id) c s p lt (is_made w (previous id) (w.owner (previous id)) q.1)
        last (inr ge) =
            let same : x ≡ previous id = id_by_parts x (previous id) c s (omega arith) in
            subst (IsRefused w) (sym same) q.1

    other : (x : CmdId) → (x ≡ id → ⊥) → v.owner x ≡ w.owner x
    other x ne = owner x ∙ at_owner (λ q p. (q ≡ id → ⊥) → p ≡ w.owner q) w.owner id o (λ n. absurd (n refl)) (λ q n _. refl) x ne

    not_new : (x : CmdId) → IsRefused w x → x ≡ id → ⊥
    not_new x r e = let m : IsMade (w.owner id) = subst (λ z. IsMade (w.owner z)) e (is_made w x (w.owner x) r) in subst IsMade may.new m

    turns_new : (x y : CmdId) → x.client ≡ y.client → x.seq ≡ y.seq → 0 < x.attempt → x.attempt < y.attempt → IsMade (v.owner y) → IsRefused v x
    turns_new x y c s p l m = keep (id_cases y id) where
      keep : (y ≡ id) ⊎ (y ≡ id → ⊥) → IsRefused v x
      keep (inl e) =
          let r = before_new x (c ∙ ap (λ (z : CmdId). z.client) e) (s ∙ ap (λ (z : CmdId). z.seq) e) p (subst (λ (z : CmdId). x.attempt < z.attempt) e l) in
          kept_refused x (other x (not_new x r)) r
      keep (inr ne) =
          let r = h.turns x y c s p l (subst IsMade (other y ne) m) in
          kept_refused x (other x (not_new x r)) r

-- a range in which an event happens
module _ (w : Ranges) (h : Whole w) (r : ℕ) (e : Event) (may : Lawful (w.range r) e) (there : w.opened r ≡ true) where
  abbrev changed : ℕ → World
  changed = with_node w.range r (happens (w.range r) e)

  pub later_in : (q : ℕ) → IsLater (w.range q) (changed q)
  later_in = at_with_node (λ q v. IsLater (w.range q) v) w.range r (happens (w.range r) e) (one_later (w.range r) e may) (λ q _. later_itself (w.range q))

  reached_in : (q : ℕ) → IsReached (changed q)
  reached_in q = later_reached (w.range q) (changed q) (h.reached q) (later_in q)

  untouched_in : (q : ℕ) → w.opened q ≡ false → changed q ≡ w.range q
  untouched_in q e' = node_other w.range r (happens (w.range r) e) q (λ same. let t = subst (λ z. w.opened z ≡ true) (sym same) there in cc)

  pub onto_in : Onto w (within w r e)
  onto_in = record { opened = λ q o. o; later = λ q o. later_in q }

  -- an attempt that is there after it was there before, or is admitted by it
  made_in : (q : ℕ) (x : CmdId) → IsBorn ((changed q).attempt x).stage → IsBorn ((w.range q).attempt x).stage ⊎ ((q ≡ r) × Admits e x)
  made_in q x = at_with_node (λ p v. IsBorn (v.attempt x).stage → IsBorn ((w.range p).attempt x).stage ⊎ ((p ≡ r) × Admits e x)) w.range r (happens (w.range r) e)
      (λ b. go (made_before (w.range r) e may x b)) (λ p _ b. inl b) q where
        go : IsBorn ((w.range r).attempt x).stage ⊎ Admits e x → IsBorn ((w.range r).attempt x).stage ⊎ ((r ≡ r) × Admits e x)
        go (inl b) = inl b
        go (inr a) = inr (refl, a)

  -- an event that admits nothing
  pub whole_in : ((x : CmdId) → Admits e x → ⊥) → Whole (within w r e)
  whole_in none = record {
    reached = reached_in;
    shut = λ q id o. ap (λ (v : World). (v.attempt id).stage) (untouched_in q o) ∙ h.shut q id o;
    empty = λ q o. ap (λ (v : World). v.log) (untouched_in q o) ∙ h.empty q o;
    owned = λ q id b. go q id (made_in q id b);
    counted = h.counted;
    turns = turns_on w (within w r e) h onto_in (λ x. refl);
  } where
    go : (q : ℕ) (id : CmdId) → IsBorn ((w.range q).attempt id).stage ⊎ ((q ≡ r) × Admits e id) → w.owner id ≡ At q
    go q id (inl b) = h.owned q id b
    go q id (inr a) = absurd (none id a.1)

  -- an admission
  module _ (id : CmdId) (begins : MayBegin w id) (only : (x : CmdId) → Admits e x → x ≡ id) where
    abbrev joined : Ranges
    joined = record (within w r e) { owner = with_owner w.owner id (At r) }

    pub onto_joined : Onto w joined
    onto_joined = record { opened = λ q o. o; later = λ q o. later_in q }

    owned_joined : (q : ℕ) (x : CmdId) → IsBorn ((w.range q).attempt x).stage ⊎ ((q ≡ r) × Admits e x) → with_owner w.owner id (At r) x ≡ At q
    owned_joined q x (inl b) = at_owner (λ z p. w.owner z ≡ At q → p ≡ At q) w.owner id (At r) (λ o. let new = begins.new in absurd cc) (λ z _ o. o) x (h.owned q x b)
    owned_joined q x (inr a) = at_owner (λ z p. z ≡ id → p ≡ At q) w.owner id (At r) (λ _. ap At (sym a.0)) (λ z ne e'. absurd (ne e')) x (only x a.1)

    pub whole_joined : Whole joined
    whole_joined = record {
      reached = reached_in;
      shut = λ q x o. ap (λ (v : World). (v.attempt x).stage) (untouched_in q o) ∙ h.shut q x o;
      empty = λ q o. ap (λ (v : World). v.log) (untouched_in q o) ∙ h.empty q o;
      owned = λ q x b. owned_joined q x (made_in q x b);
      counted = counted_new w joined h onto_joined id (At r) begins tt (λ x. refl);
      turns = turns_new w joined h onto_joined id (At r) begins tt (λ x. refl);
    }

-- a right range that starts
module _ (w : Ranges) (h : Whole w) (s : AppliedState) where
  abbrev opening : Ranges
  opening = record w { range = with_node w.range s.desc.id (begin s); opened = with_node w.opened s.desc.id true }

  module _ (free : w.opened s.desc.id ≡ false) where
    untouched_right : (q : ℕ) → w.opened q ≡ true → with_node w.range s.desc.id (begin s) q ≡ w.range q
    untouched_right q o = node_other w.range s.desc.id (begin s) q (λ same. let t = subst (λ z. w.opened z ≡ true) same o in cc)

    onto_opening : Onto w opening
    onto_opening = record {
      opened = at_with_node (λ q b. w.opened q ≡ true → b ≡ true) w.opened s.desc.id true (λ _. refl) (λ q _ o. o);
      later = λ q o. subst (IsLater (w.range q)) (sym (untouched_right q o)) (later_itself (w.range q));
    }

    still_shut : (q : ℕ) → with_node w.opened s.desc.id true q ≡ false → (q ≡ s.desc.id → ⊥) × (w.opened q ≡ false)
    still_shut q = at_with_node (λ p b. b ≡ false → (p ≡ s.desc.id → ⊥) × (w.opened p ≡ false)) w.opened s.desc.id true (λ e. absurd cc) (λ p ne e. (ne, e)) q

    other_right : (q : ℕ) → (q ≡ s.desc.id → ⊥) → with_node w.range s.desc.id (begin s) q ≡ w.range q
    other_right q ne = node_other w.range s.desc.id (begin s) q ne

    whole_opening : Whole opening
    whole_opening = record {
      reached = at_with_node (λ q v. IsReached v) w.range s.desc.id (begin s) (reached_begin s) (λ q _. h.reached q);
      shut = λ q id o. let k = still_shut q o in ap (λ (v : World). (v.attempt id).stage) (other_right q k.0) ∙ h.shut q id k.1;
      empty = λ q o. let k = still_shut q o in ap (λ (v : World). v.log) (other_right q k.0) ∙ h.empty q k.1;
      owned = λ q id. at_with_node (λ p (v : World). IsBorn (v.attempt id).stage → w.owner id ≡ At p) w.range s.desc.id (begin s) (λ b. absurd b) (λ p _. h.owned p id) q;
      counted = h.counted;
      turns = turns_on w opening h onto_opening (λ x. refl);
    }

onto_itself : (w : Ranges) → Onto w w
onto_itself w = record { opened = λ r o. o; later = λ r o. later_itself (w.range r) }

pub onto_further : (u v w : Ranges) → Onto u v → Onto v w → Onto u w
onto_further u v w k l = record {
  opened = λ r o. l.opened r (k.opened r o);
  later = λ r o. later_further (u.range r) (v.range r) (w.range r) (k.later r o) (l.later r (k.opened r o));
}

pub onto_right : (w : Ranges) → Whole w → (o : Option AppliedState) → Onto w (with_right w o)
onto_right w h None = onto_itself w
onto_right w h (Some s) = go (w.opened s.desc.id) refl where
  go : (b : Bool) → w.opened s.desc.id ≡ b → Onto w (cond b w (opening w h s))
  go true e = onto_itself w
  go false e = onto_opening w h s e

whole_right : (w : Ranges) → Whole w → (o : Option AppliedState) → Whole (with_right w o)
whole_right w h None = h
whole_right w h (Some s) = go (w.opened s.desc.id) refl where
  go : (b : Bool) → w.opened s.desc.id ≡ b → Whole (cond b w (opening w h s))
  go true e = h
  go false e = whole_opening w h s e

-- an attempt is turned away
module _ (w : Ranges) (h : Whole w) (id : CmdId) (begins : MayBegin w id) where
  abbrev away : Ranges
  away = record w { owner = with_owner w.owner id Turned }

  onto_away : Onto w away
  onto_away = record { opened = λ q o. o; later = λ q o. later_itself (w.range q) }

  whole_away : Whole away
  whole_away = record {
    reached = h.reached;
    shut = h.shut;
    empty = h.empty;
    owned = λ q x b. at_owner (λ z p. w.owner z ≡ At q → p ≡ At q) w.owner id Turned (λ o. let new = begins.new in absurd cc) (λ z _ o. o) x (h.owned q x b);
    counted = counted_new w away h onto_away id Turned begins tt (λ x. refl);
    turns = turns_new w away h onto_away id Turned begins tt (λ x. refl);
  }

module _ (w : Ranges) (h : Whole w) where
  whole_event : (r : ℕ) (e : Event) → IsLawfulIn w r e → Whole (after_event w r e)
  whole_event r (Admit id node body) l = whole_joined w h r (Admit id node body) l.lawful l.there id l.begins (λ x k. k)
  whole_event r (Flush id max) l = whole_in w h r (Flush id max) l.lawful l.there (λ x k. k)
  whole_event r (Return id) l = whole_in w h r (Return id) l.lawful l.there (λ x k. k)
  whole_event r (Refuse id) l = whole_in w h r (Refuse id) l.lawful l.there (λ x k. k)
  whole_event r (Commit p) l = whole_right (within w r (Commit p)) (whole_in w h r (Commit p) l.lawful l.there (λ x k. k)) (right_of (state_at (w.range r) (length (w.range r).log)) p)
  whole_event r (Apply node) l = whole_in w h r (Apply node) l.lawful l.there (λ x k. k)
  whole_event r (Snapshot node to) l = whole_in w h r (Snapshot node to) l.lawful l.there (λ x k. k)
  whole_event r (Remove node) l = whole_in w h r (Remove node) l.lawful l.there (λ x k. k)
  whole_event r (Restart node) l = whole_in w h r (Restart node) l.lawful l.there (λ x k. k)

  onto_event : (r : ℕ) (e : Event) → IsLawfulIn w r e → Onto w (after_event w r e)
  onto_event r (Admit id node body) l = onto_joined w h r (Admit id node body) l.lawful l.there id l.begins (λ x k. k)
  onto_event r (Flush id max) l = onto_in w h r (Flush id max) l.lawful l.there
  onto_event r (Return id) l = onto_in w h r (Return id) l.lawful l.there
  onto_event r (Refuse id) l = onto_in w h r (Refuse id) l.lawful l.there
  onto_event r (Commit p) l = onto_further w (within w r (Commit p)) _ (onto_in w h r (Commit p) l.lawful l.there)
      (onto_right (within w r (Commit p)) (whole_in w h r (Commit p) l.lawful l.there (λ x k. k)) (right_of (state_at (w.range r) (length (w.range r).log)) p))
  onto_event r (Apply node) l = onto_in w h r (Apply node) l.lawful l.there
  onto_event r (Snapshot node to) l = onto_in w h r (Snapshot node to) l.lawful l.there
  onto_event r (Remove node) l = onto_in w h r (Remove node) l.lawful l.there
  onto_event r (Restart node) l = onto_in w h r (Restart node) l.lawful l.there

  pub whole_step : (x : Step) → IsLawful w x → Whole (after_step w x)
  whole_step (In r e) l = whole_event r e l
  whole_step (Turn_away id) l = whole_away w h id l

  pub onto_step : (x : Step) → IsLawful w x → Onto w (after_step w x)
  onto_step (In r e) l = onto_event r e l
  onto_step (Turn_away id) l = onto_away w h id l

pub whole_steps : (w : Ranges) (xs : List Step) → AreLawful w xs → Whole w → Whole (after_steps w xs)
whole_steps w [] l h = h
whole_steps w (x ∷ xs) l h = whole_steps (after_step w x) xs l.1 (whole_step w h x l.0)

pub onto_steps : (w : Ranges) (xs : List Step) → AreLawful w xs → Whole w → Onto w (after_steps w xs)
onto_steps w [] l h = onto_itself w
onto_steps w (x ∷ xs) l h = onto_further w (after_step w x) (after_steps (after_step w x) xs) (onto_step w h x l.0) (onto_steps (after_step w x) xs l.1 (whole_step w h x l.0))

pub whole_reached : (w : Ranges) → AreReached w → Whole w
whole_reached w r = subst Whole r.reached (whole_steps at_first r.steps r.lawful whole_first)

pub onto_later : (w later : Ranges) → AreReached w → AreLater w later → Onto w later
onto_later w later r l = subst (Onto w) l.reached (onto_steps w l.steps l.lawful (whole_reached w r))

pub later_whole : (w later : Ranges) → AreReached w → AreLater w later → Whole later
later_whole w later r l = subst Whole l.reached (whole_steps w l.steps l.lawful (whole_reached w r))

-- an attempt that was made stays where it was made
owner_step : (w : Ranges) (x : Step) → IsLawful w x → (id : CmdId) (o : Owner) → w.owner id ≡ o → IsMade o → (after_step w x).owner id ≡ o
owner_step w x l id o e m = go x l where
  right : (v : Ranges) (t : Option AppliedState) → (with_right v t).owner id ≡ v.owner id
  right v None = refl
  right v (Some s) = cond_both (v.opened s.desc.id) v _ (λ (u : Ranges). u.owner id ≡ v.owner id) (λ _. refl) (λ _. refl)

  begun : (q : CmdId) (p : Owner) → MayBegin w q → with_owner w.owner q p id ≡ o
  begun q p b = at_owner (λ z y. w.owner z ≡ o → y ≡ o) w.owner q p (λ k. let new = b.new in absurd (subst IsMade (sym k ∙ new) m)) (λ z _ k. k) id e

  go : (x : Step) → IsLawful w x → (after_step w x).owner id ≡ o
  go (In r (Admit q node body)) l = begun q (At r) l.begins
  go (In r (Flush q max)) l = e
  go (In r (Return q)) l = e
  go (In r (Refuse q)) l = e
  go (In r (Commit p)) l = right (within w r (Commit p)) (right_of (state_at (w.range r) (length (w.range r).log)) p) ∙ e
  go (In r (Apply node)) l = e
  go (In r (Snapshot node to)) l = e
  go (In r (Remove node)) l = e
  go (In r (Restart node)) l = e
  go (Turn_away q) l = begun q Turned l

owner_steps : (w : Ranges) (xs : List Step) → AreLawful w xs → (id : CmdId) (o : Owner) → w.owner id ≡ o → IsMade o → (after_steps w xs).owner id ≡ o
owner_steps w [] l id o e m = e
owner_steps w (x ∷ xs) l id o e m = owner_steps (after_step w x) xs l.1 id o (owner_step w x l.0 id o e m) m

pub owner_onto : (w later : Ranges) → AreReached w → AreLater w later → (id : CmdId) (o : Owner) → w.owner id ≡ o → IsMade o → later.owner id ≡ o
owner_onto w later r l id o e m = subst (λ (v : Ranges). v.owner id ≡ o) l.reached (owner_steps w l.steps l.lawful id o e m)
