-- What a scene admits, as the first step of all ranges.
use Rattle.std.proofs.Common.{◌≡◌, ℕ, true, cond, ◌⊎◌, inl, inr, Option, None, Some, [], ◌∷◌, refl, sym, ap, subst, ◌∙◌, eq-eqb}
use Rattle.std.proofs.lemmas.Bool.{ne_eqb, cases_eq}
use Rattle.rp_base.specs.declared.ids.CmdId.{CmdId}
use Rattle.rp_base.proofs.IdLaws.{equal_same, apart_not_same, id_cases}
use Rattle.rp_request.specs.declared.outcomes.Outcome.TheVariants as outcomes
use Rattle.rp_request.specs.declared.outcomes.Refusal.{Refusal}
use Rattle.rp_request.specs.declared.requests.Request.{Request}
use Rattle.rp_rangesafe.specs.Attempts.{Body, IsBornAt}
use Rattle.rp_rangesafe.specs.World as machine
use Rattle.rp_rangesafe.specs.World.{Event, AllLawful, MayAdmit}
use Rattle.rp_rangesafe.specs.Ranges.{Ranges, Owner, Turned, At, In, Turn_away, MayBegin, with_owner, after_event, after_step, AreLater}
use Rattle.rp_rangesafe.proofs.Tables.{node_same, node_other, at_same}
use Rattle.rp_events.specs.Nodes.{Node}
use Rattle.rp_events.specs.Worlds.{World, Happening, Admit, Ask, Transfer, Collect, Flush, Tick, Deliver, Apply, Cut, Remove, Peek, Restart, Round, node_of, outcome_at}
use Rattle.rp_turns.specs.Turning.{admission, IsAnswered, AsksFor}
use Rattle.rp_bound.proofs.Onward.{onward_itself}

-- what holds of the attempt that a scene asks for: it was turned away and is told so, or was made at the
-- node in a range that there is
abbrev pub IsSettled : (after : World) → Ranges → (node : ℕ) → CmdId → Option Body → Type 0
IsSettled after v node id None =
    (v.owner id ≡ Turned) × ((why : Refusal) × ((n : Node) → node_of after node ≡ Some n → outcome_at id n ≡ Some (outcomes.Refused why)))
IsSettled after v node id (Some body) = (at : ℕ) × (v.owner id ≡ At at) × (v.opened at ≡ true) × IsBornAt ((v.range at).attempt id) node

-- all ranges behind what the scene admits
pub record Led (m : Ranges) (after : World) (node : ℕ) (granted : Option Body) (what : Happening) (v : Ranges) : Type 0 where
  pub onward : AreLater m v
  pub opened : (q : ℕ) → v.opened q ≡ m.opened q
  pub range : (q : ℕ) → v.range q ≡ machine.run (m.range q) (admission granted node q what)
  pub others : (id : CmdId) → (AsksFor id what → ⊥) → v.owner id ≡ m.owner id
  pub settled : (id : CmdId) → AsksFor id what → IsSettled after v node id granted

owner_same : (f : CmdId → Owner) (id : CmdId) (o : Owner) (q : CmdId) → q ≡ id → with_owner f id o q ≡ o
unfolding with_owner
owner_same f id o q same = ap (λ b. cond b o (f q)) (equal_same q id same)

owner_other : (f : CmdId → Owner) (id : CmdId) (o : Owner) (q : CmdId) → (q ≡ id → ⊥) → with_owner f id o q ≡ f q
unfolding with_owner
owner_other f id o q other = ap (λ b. cond b o (f q)) (apart_not_same q id other)

-- nothing is admitted
still_led : (m : Ranges) (after : World) (node : ℕ) (what : Happening) → ((q : ℕ) → admission None node q what ≡ []) → ((id : CmdId) → AsksFor id what → ⊥) → Led m after node None what m
still_led m after node what none asks = record {
  onward = onward_itself m;
  opened = λ q. refl;
  range = λ q. ap (machine.run (m.range q)) (sym (none q));
  others = λ id no. refl;
  settled = λ id yes. absurd (asks id yes);
}

-- an admission
module _ (m : Ranges) (after : World) (node at : ℕ) (id : CmdId) (request : Request) (begins : MayBegin m id) where
  away : IsAnswered m after None node (Admit at id request) → Led m after node None (Admit at id request) (after_step m (Turn_away id))
  away answered = record {
    onward = record { steps = Turn_away id ∷ []; lawful = (begins, tt); reached = refl };
    opened = λ q. refl;
    range = λ q. refl;
    others = λ q no. owner_other m.owner id Turned q (λ same. no (sym same));
    settled = λ q yes. subst (λ z. IsSettled after (after_step m (Turn_away id)) node z None) yes (owner_same m.owner id Turned id refl, answered);
  }

  module _ (body : Body) (there : m.opened at ≡ true) (may : MayAdmit (m.range at) id node body) where
    abbrev joined : Ranges
    joined = after_event m at (machine.Admit id node body)

    own : joined.range at ≡ machine.happens (m.range at) (machine.Admit id node body)
    own = node_same m.range at (machine.happens (m.range at) (machine.Admit id node body))

    changed : (q : ℕ) → joined.range q ≡ machine.run (m.range q) (admission (Some body) node q (Admit at id request))
    changed q = go (cases_eq at q) where
      go : (at ≡ q) ⊎ (at ≡ q → ⊥) → joined.range q ≡ machine.run (m.range q) (admission (Some body) node q (Admit at id request))
      go (inl same) = subst (λ z. joined.range z ≡ machine.run (m.range z) (admission (Some body) node z (Admit at id request))) same
          (own ∙ ap (λ b. machine.run (m.range at) (cond b (machine.Admit id node body ∷ []) [])) (sym (eq-eqb at at refl)))
      go (inr other) =
          node_other m.range at (machine.happens (m.range at) (machine.Admit id node body)) q (λ same. other (sym same))
          ∙ ap (λ b. machine.run (m.range q) (cond b (machine.Admit id node body ∷ []) [])) (sym (ne_eqb at q other))

    born : IsBornAt ((joined.range at).attempt id) node
    born = subst (λ (z : machine.World). IsBornAt (z.attempt id) node) (sym own)
        (subst (λ a. IsBornAt a node) (sym (at_same (m.range at).attempt id (machine.admitted (m.range at) node body))) (tt, refl))

    made : Led m after node (Some body) (Admit at id request) joined
    made = record {
      onward = record { steps = In at (machine.Admit id node body) ∷ []; lawful = (record { there = there; lawful = may; begins = begins }, tt); reached = refl };
      opened = λ q. refl;
      range = changed;
      others = λ q no. owner_other m.owner id (At at) q (λ same. no (sym same));
      settled = λ q yes. subst (λ z. IsSettled after joined node z (Some body)) yes (at, owner_same m.owner id (At at) id refl, there, born);
    }

pub asks_cases : (id : CmdId) (what : Happening) → AsksFor id what ⊎ (AsksFor id what → ⊥)
asks_cases id (Admit at other request) = id_cases other id
asks_cases id (Ask range) = inr (λ k. k)
asks_cases id (Transfer range to) = inr (λ k. k)
asks_cases id (Collect range taken) = inr (λ k. k)
asks_cases id (Flush range) = inr (λ k. k)
asks_cases id Tick = inr (λ k. k)
asks_cases id (Deliver from number) = inr (λ k. k)
asks_cases id (Apply range) = inr (λ k. k)
asks_cases id (Cut range) = inr (λ k. k)
asks_cases id (Remove range) = inr (λ k. k)
asks_cases id (Peek range key) = inr (λ k. k)
asks_cases id Restart = inr (λ k. k)
asks_cases id Round = inr (λ k. k)

-- the attempt of an admission may begin
abbrev pub BeginsIn : Ranges → Happening → Type 0
BeginsIn m (Admit at id request) = MayBegin m id
BeginsIn m _ = Unit {0}

module _ (m : Ranges) (after : World) (node : ℕ) where
  -- what is admitted is lawful in its range
  abbrev pub AdmitsLawfully : Option Body → Happening → Type 0
  AdmitsLawfully granted what = (q : ℕ) → m.opened q ≡ true → AllLawful (m.range q) (admission granted node q what)

  granted_lawful : (at : ℕ) (id : CmdId) (request : Request) (body : Body) → m.opened at ≡ true → AdmitsLawfully (Some body) (Admit at id request) → MayAdmit (m.range at) id node body
  granted_lawful at id request body there lawful =
      (subst (λ b. AllLawful (m.range at) (cond b (machine.Admit id node body ∷ []) [])) (eq-eqb at at refl) (lawful at there)).0

  pub led : (granted : Option Body) (what : Happening) → BeginsIn m what → IsAnswered m after granted node what → AdmitsLawfully granted what → (v : Ranges) × Led m after node granted what v
  led None (Admit at id request) b a l = (after_step m (Turn_away id), away m after node at id request b a)
  led (Some body) (Admit at id request) b a l =
      (after_event m at (machine.Admit id node body), made m after node at id request b body a.0 (granted_lawful at id request body a.0 l))
  led None (Ask range) b a l = (m, still_led m after node (Ask range) (λ q. refl) (λ id k. k))
  led None (Transfer range to) b a l = (m, still_led m after node (Transfer range to) (λ q. refl) (λ id k. k))
  led None (Collect range taken) b a l = (m, still_led m after node (Collect range taken) (λ q. refl) (λ id k. k))
  led None (Flush range) b a l = (m, still_led m after node (Flush range) (λ q. refl) (λ id k. k))
  led None Tick b a l = (m, still_led m after node Tick (λ q. refl) (λ id k. k))
  led None (Deliver from number) b a l = (m, still_led m after node (Deliver from number) (λ q. refl) (λ id k. k))
  led None (Apply range) b a l = (m, still_led m after node (Apply range) (λ q. refl) (λ id k. k))
  led None (Cut range) b a l = (m, still_led m after node (Cut range) (λ q. refl) (λ id k. k))
  led None (Remove range) b a l = (m, still_led m after node (Remove range) (λ q. refl) (λ id k. k))
  led None (Peek range key) b a l = (m, still_led m after node (Peek range key) (λ q. refl) (λ id k. k))
  led None Restart b a l = (m, still_led m after node Restart (λ q. refl) (λ id k. k))
  led None Round b a l = (m, still_led m after node Round (λ q. refl) (λ id k. k))
  led (Some body) (Ask range) b a l = absurd a
  led (Some body) (Transfer range to) b a l = absurd a
  led (Some body) (Collect range taken) b a l = absurd a
  led (Some body) (Flush range) b a l = absurd a
  led (Some body) Tick b a l = absurd a
  led (Some body) (Deliver from number) b a l = absurd a
  led (Some body) (Apply range) b a l = absurd a
  led (Some body) (Cut range) b a l = absurd a
  led (Some body) (Remove range) b a l = absurd a
  led (Some body) (Peek range key) b a l = absurd a
  led (Some body) Restart b a l = absurd a
  led (Some body) Round b a l = absurd a
