-- Events in each range, one range after the other, as steps of all ranges.
use Rattle.std.proofs.Common.{◌≡◌, ℕ, zero, suc, ◌<◌, ◌≤◌, Bool, true, false, ◌⊎◌, inl, inr, List, [], ◌∷◌, ◌++◌, map, refl, sym, ap, subst, ◌∙◌, arith}
use Rattle.std.proofs.lemmas.Bool.{cases_lt}
use Rattle.rp_base.specs.declared.ids.CmdId.{CmdId}
use Rattle.rp_request.specs.Applied.{AppliedState}
use Rattle.rp_rangesafe.specs.World.{Event, AllLawful, begin, run}
use Rattle.rp_rangesafe.specs.Ranges.{Ranges, Step, In, at_first, AreLawful, AreReached, AreLater, after_step, after_steps}
use Rattle.rp_seats.specs.Steps.{AdmitsNone}
use Rattle.rp_bound.proofs.Quiet.{Went, quiet_went}

-- steps, one after the other
steps_lawful : (m : Ranges) (xs ys : List Step) → AreLawful m xs → AreLawful (after_steps m xs) ys → AreLawful m (xs ++ ys)
steps_lawful m [] ys a b = b
steps_lawful m (x ∷ xs) ys a b = (a.0, steps_lawful (after_step m x) xs ys a.1 b)

steps_run : (m : Ranges) (xs ys : List Step) → after_steps m (xs ++ ys) ≡ after_steps (after_steps m xs) ys
steps_run m [] ys = refl
steps_run m (x ∷ xs) ys = steps_run (after_step m x) xs ys

pub onward_itself : (m : Ranges) → AreLater m m
onward_itself m = record { steps = []; lawful = tt; reached = refl }

pub onward_further : (m v u : Ranges) → AreLater m v → AreLater v u → AreLater m u
onward_further m v u a b = record {
  steps = a.steps ++ b.steps;
  lawful = steps_lawful m a.steps b.steps a.lawful (subst (λ z. AreLawful z b.steps) (sym a.reached) b.lawful);
  reached = steps_run m a.steps b.steps ∙ ap (λ z. after_steps z b.steps) a.reached ∙ b.reached;
}

pub reached_further : (m v : Ranges) → AreReached m → AreLater m v → AreReached v
reached_further m v a b =
    let l = onward_further at_first m v (record { steps = a.steps; lawful = a.lawful; reached = a.reached }) b in
    record { steps = l.steps; lawful = l.lawful; reached = l.reached }

-- the ranges below a number became what their events make of them, and the others stayed
pub record Upto (m : Ranges) (es : ℕ → List Event) (k : ℕ) (v : Ranges) : Type 0 where
  pub onward : AreLater m v
  pub owner : (id : CmdId) → v.owner id ≡ m.owner id
  pub opened : (q : ℕ) → m.opened q ≡ true → v.opened q ≡ true
  pub done : (q : ℕ) → q < k → m.opened q ≡ true → v.range q ≡ run (m.range q) (es q)
  pub still : (q : ℕ) → k ≤ q → m.opened q ≡ true → v.range q ≡ m.range q
  pub shut : (q : ℕ) → m.opened q ≡ false → v.opened q ≡ true → (s : AppliedState) × (v.range q ≡ begin s)

not_both : (b : Bool) → b ≡ true → b ≡ false → ⊥
not_both b e f = cc

module _ (m : Ranges) (es : ℕ → List Event) where
  -- a range more, which there is not
  skipped : (k : ℕ) (v : Ranges) → m.opened k ≡ false → Upto m es k v → Upto m es (suc k) v
  skipped k v bare u = record {
    onward = u.onward;
    owner = u.owner;
    opened = u.opened;
    done = λ q l o. go q l o (cases_lt q k);
    still = λ q l o. u.still q (omega (arith, l)) o;
    shut = u.shut;
  }
    where
      go : (q : ℕ) → q < suc k → m.opened q ≡ true → (q < k) ⊎ (k ≤ q) → v.range q ≡ run (m.range q) (es q)
      go q l o (inl lt) = u.done q lt o
      go q l o (inr ge) = let same : k ≡ q = omega (arith, l, ge) in absurd (not_both (m.opened k) (subst (λ z. m.opened z ≡ true) (sym same) o) bare)

  -- and one that there is
  module _ (k : ℕ) (v : Ranges) (there : m.opened k ≡ true) (u : Upto m es k v) (w : Went v k (es k)) where
    abbrev next : Ranges
    next = after_steps v (map (In k) (es k))

    own : next.range k ≡ run (m.range k) (es k)
    own = w.beside.own ∙ ap (λ z. run z (es k)) (u.still k (omega arith) there)

    below : (q : ℕ) → q < suc k → m.opened q ≡ true → (q < k) ⊎ (k ≤ q) → next.range q ≡ run (m.range q) (es q)
    below q l o (inl lt) = w.beside.others q (u.opened q o) (λ same. omega (arith, lt, same)) ∙ u.done q lt o
    below q l o (inr ge) = let same : k ≡ q = omega (arith, l, ge) in subst (λ z. next.range z ≡ run (m.range z) (es z)) same own

    begun : (q : ℕ) → m.opened q ≡ false → next.opened q ≡ true → (b : Bool) → v.opened q ≡ b → (s : AppliedState) × (next.range q ≡ begin s)
    begun q o now true e =
        let x = u.shut q o e in
        (x.0, w.beside.others q e (λ same. not_both (m.opened q) (subst (λ z. m.opened z ≡ true) (sym same) there) o) ∙ x.1)
    begun q o now false e = w.beside.shut q e now

    taken : Upto m es (suc k) next
    taken = record {
      onward = onward_further m v next u.onward (record { steps = map (In k) (es k); lawful = w.lawful; reached = refl });
      owner = λ id. w.beside.owner id ∙ u.owner id;
      opened = λ q o. w.beside.opened q (u.opened q o);
      done = λ q l o. below q l o (cases_lt q k);
      still = λ q l o. w.beside.others q (u.opened q o) (λ same. omega (arith, l, same)) ∙ u.still q (omega (arith, l)) o;
      shut = λ q o now. begun q o now (v.opened q) refl;
    }

  module _ (lawful : (q : ℕ) → m.opened q ≡ true → AllLawful (m.range q) (es q)) (quiet : (q : ℕ) → m.opened q ≡ true → AdmitsNone (es q)) where
    pub each_upto : (k : ℕ) → (v : Ranges) × Upto m es k v
    each_upto zero = (
      m,
      record {
        onward = onward_itself m;
        owner = λ id. refl;
        opened = λ q o. o;
        done = λ q l o. absurd (omega (arith, l));
        still = λ q l o. refl;
        shut = λ q o now. absurd (not_both (m.opened q) now o);
      },
    )
    each_upto (suc k) = one_more (each_upto k) (m.opened k) refl where
      one_more : (v : Ranges) × Upto m es k v → (b : Bool) → m.opened k ≡ b → (v : Ranges) × Upto m es (suc k) v
      one_more u false e = (u.0, skipped k u.0 e u.1)
      one_more u true e =
          let w = quiet_went u.0 k (u.1.opened k e) (es k) (subst (λ z. AllLawful z (es k)) (sym (u.1.still k (omega arith) e)) (lawful k e)) (quiet k e) in
          (after_steps u.0 (map (In k) (es k)), taken k u.0 e u.1 w)
