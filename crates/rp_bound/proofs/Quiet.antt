-- Events of one range, none of which admits, as steps of all ranges.
use Rattle.std.proofs.Common.{◌≡◌, ℕ, Bool, true, false, cond, List, [], ◌∷◌, map, length, Option, None, Some, refl, sym, subst, ◌∙◌}
use Rattle.rp_base.specs.declared.ids.CmdId.{CmdId}
use Rattle.rp_request.specs.Applied.{AppliedState}
use Rattle.rp_request.specs.States.{right_of}
use Rattle.rp_rangesafe.specs.World.{World, Event, Admit, Flush, Return, Refuse, Commit, Apply, Snapshot, Remove, Restart, AllLawful, begin, happens, run, state_at, with_node}
use Rattle.rp_rangesafe.specs.Ranges.{Ranges, Begins, In, with_right, within, after_event, AreLawful, after_steps}
use Rattle.rp_rangesafe.proofs.Tables.{node_same, node_other, at_with_node}
use Rattle.rp_seats.specs.Steps.{AdmitsNone}

-- one range became this, and each other one that there is stayed; one that has opened begins
pub record Beside (m v : Ranges) (r : ℕ) (h : World) : Type 0 where
  pub owner : (id : CmdId) → v.owner id ≡ m.owner id
  pub own : v.range r ≡ h
  pub opened : (q : ℕ) → m.opened q ≡ true → v.opened q ≡ true
  pub others : (q : ℕ) → m.opened q ≡ true → (q ≡ r → ⊥) → v.range q ≡ m.range q
  pub shut : (q : ℕ) → m.opened q ≡ false → v.opened q ≡ true → (s : AppliedState) × (v.range q ≡ begin s)

not_both : (b : Bool) → b ≡ true → b ≡ false → ⊥
not_both b e f = cc

-- what is shut is none of those that there are
pub shut_other : (m : Ranges) (q r : ℕ) → m.opened q ≡ false → m.opened r ≡ true → q ≡ r → ⊥
shut_other m q r shut there same = not_both (m.opened r) there (subst (λ z. m.opened z ≡ false) same shut)

pub beside_itself : (m : Ranges) (r : ℕ) → Beside m m r (m.range r)
beside_itself m r = record {
  owner = λ id. refl;
  own = refl;
  opened = λ q o. o;
  others = λ q o ne. refl;
  shut = λ q o there. absurd (not_both (m.opened q) there o);
}

pub beside_further : (m v u : Ranges) (r : ℕ) (h k : World) → m.opened r ≡ true → Beside m v r h → Beside v u r k → Beside m u r k
beside_further m v u r h k there a b = record {
  owner = λ id. b.owner id ∙ a.owner id;
  own = b.own;
  opened = λ q o. b.opened q (a.opened q o);
  others = λ q o ne. b.others q (a.opened q o) ne ∙ a.others q o ne;
  shut = λ q o now. go q o now (v.opened q) refl;
}
  where
    go : (q : ℕ) → m.opened q ≡ false → u.opened q ≡ true → (c : Bool) → v.opened q ≡ c → (s : AppliedState) × (u.range q ≡ begin s)
    go q o now true e = let x = a.shut q o e in (x.0, b.others q e (shut_other m q r o there) ∙ x.1)
    go q o now false e = b.shut q e now

within_beside : (m : Ranges) (r : ℕ) (e : Event) → Beside m (within m r e) r (happens (m.range r) e)
within_beside m r e = record {
  owner = λ id. refl;
  own = node_same m.range r (happens (m.range r) e);
  opened = λ q o. o;
  others = λ q o ne. node_other m.range r (happens (m.range r) e) q ne;
  shut = λ q o now. absurd (not_both (m.opened q) now o);
}

-- a right range that opens
opening_beside : (m : Ranges) (r : ℕ) (s : AppliedState) → m.opened r ≡ true → m.opened s.desc.id ≡ false
    → Beside m (record m { range = with_node m.range s.desc.id (begin s); opened = with_node m.opened s.desc.id true }) r (m.range r)
opening_beside m r s there free = record {
  owner = λ id. refl;
  own = node_other m.range s.desc.id (begin s) r (apart r there);
  opened = at_with_node (λ q b. m.opened q ≡ true → b ≡ true) m.opened s.desc.id true (λ _. refl) (λ q _ o. o);
  others = λ q o ne. node_other m.range s.desc.id (begin s) q (apart q o);
  shut = at_with_node (λ q (v : World). m.opened q ≡ false → with_node m.opened s.desc.id true q ≡ true → (t : AppliedState) × (v ≡ begin t)) m.range s.desc.id (begin s)
      (λ _ _. (s, refl)) (λ q ne o now. absurd (not_both (m.opened q) (sym (node_other m.opened s.desc.id true q ne) ∙ now) o));
}
  where
    apart : (q : ℕ) → m.opened q ≡ true → q ≡ s.desc.id → ⊥
    apart q o same = not_both (m.opened s.desc.id) (subst (λ z. m.opened z ≡ true) same o) free

right_beside : (m : Ranges) (r : ℕ) → m.opened r ≡ true → (o : Option AppliedState) → Beside m (with_right m o) r (m.range r)
right_beside m r there None = beside_itself m r
right_beside m r there (Some s) = go (m.opened s.desc.id) refl where
  go : (b : Bool) → m.opened s.desc.id ≡ b → Beside m (cond b m (record m { range = with_node m.range s.desc.id (begin s); opened = with_node m.opened s.desc.id true })) r (m.range r)
  go true e = beside_itself m r
  go false e = opening_beside m r s there e

-- an event that admits nothing
module _ (m : Ranges) (r : ℕ) (there : m.opened r ≡ true) where
  event_beside : (e : Event) → AdmitsNone (e ∷ []) → Beside m (after_event m r e) r (happens (m.range r) e)
  event_beside (Admit id node body) quiet = absurd quiet
  event_beside (Flush id max) quiet = within_beside m r (Flush id max)
  event_beside (Return id) quiet = within_beside m r (Return id)
  event_beside (Refuse id) quiet = within_beside m r (Refuse id)
  event_beside (Commit p) quiet =
      let o = right_of (state_at (m.range r) (length (m.range r).log)) p in
      let a = within_beside m r (Commit p) in
      beside_further m (within m r (Commit p)) (with_right (within m r (Commit p)) o) r (happens (m.range r) (Commit p)) (happens (m.range r) (Commit p)) there a
      (subst (λ z. Beside (within m r (Commit p)) (with_right (within m r (Commit p)) o) r z) a.own (right_beside (within m r (Commit p)) r there o))
  event_beside (Apply node) quiet = within_beside m r (Apply node)
  event_beside (Snapshot node to) quiet = within_beside m r (Snapshot node to)
  event_beside (Remove node) quiet = within_beside m r (Remove node)
  event_beside (Restart node) quiet = within_beside m r (Restart node)

  begins_none : (e : Event) → AdmitsNone (e ∷ []) → Begins m e
  begins_none (Admit id node body) quiet = absurd quiet
  begins_none (Flush id max) quiet = tt
  begins_none (Return id) quiet = tt
  begins_none (Refuse id) quiet = tt
  begins_none (Commit p) quiet = tt
  begins_none (Apply node) quiet = tt
  begins_none (Snapshot node to) quiet = tt
  begins_none (Remove node) quiet = tt
  begins_none (Restart node) quiet = tt

quiet_both : (e : Event) (es : List Event) → AdmitsNone (e ∷ es) → AdmitsNone (e ∷ []) × AdmitsNone es
quiet_both (Admit id node body) es quiet = absurd quiet
quiet_both (Flush id max) es quiet = (tt, quiet)
quiet_both (Return id) es quiet = (tt, quiet)
quiet_both (Refuse id) es quiet = (tt, quiet)
quiet_both (Commit p) es quiet = (tt, quiet)
quiet_both (Apply node) es quiet = (tt, quiet)
quiet_both (Snapshot node to) es quiet = (tt, quiet)
quiet_both (Remove node) es quiet = (tt, quiet)
quiet_both (Restart node) es quiet = (tt, quiet)

-- the events of the range are lawful steps
pub record Went (m : Ranges) (r : ℕ) (es : List Event) : Type 0 where
  pub lawful : AreLawful m (map (In r) es)
  pub beside : Beside m (after_steps m (map (In r) es)) r (run (m.range r) es)

pub quiet_went : (m : Ranges) (r : ℕ) → m.opened r ≡ true → (es : List Event) → AllLawful (m.range r) es → AdmitsNone es → Went m r es
quiet_went m r there [] lawful quiet = record { lawful = tt; beside = beside_itself m r }
quiet_went m r there (e ∷ es) lawful quiet =
    let q = quiet_both e es quiet in
    let v = after_event m r e in
    let b = event_beside m r there e q.0 in
    let k = quiet_went v r (b.opened r there) es (subst (λ z. AllLawful z es) (sym b.own) lawful.1) q.1 in
    record {
      lawful = (record { there = there; lawful = lawful.0; begins = begins_none m r there e q.0 }, k.lawful);
      beside = beside_further m v (after_steps v (map (In r) es)) r (happens (m.range r) e) (run (happens (m.range r) e) es) there b
          (subst (λ z. Beside v (after_steps v (map (In r) es)) r (run z es)) b.own k.beside);
    }
