-- A lawful admission is of an attempt that the machine may begin.
use Rattle.std.proofs.Common.{◌≡◌, ℕ, ◌<◌, Bool, true, false, ◌⊎◌, inl, inr, Option, None, Some, List, refl, subst, arith, eqb-true}
use Rattle.std.specs.Prelude.{not, ◌&&◌, ◌||◌, ◌==◌, nat_lt, IsTrue}
use Rattle.std.specs.Option.{option_map_or}
use Rattle.std.proofs.lemmas.Bool.{cases_eq}
use Rattle.std.proofs.lemmas.Bool.Decides.{nat_tests}
use Rattle.rp_base.specs.declared.ids.CmdId.{CmdId}
use Rattle.rp_request.specs.Applied.{AppliedState}
use Rattle.rp_request.specs.Attempts.{previous}
use Rattle.rp_request.specs.Requests.{same_request}
use Rattle.rp_request.specs.declared.outcomes.Outcome.{Outcome}
use Rattle.rp_request.specs.declared.outcomes.Outcome.TheVariants as outcomes
use Rattle.rp_request.specs.declared.outcomes.Refusal.{Refusal}
use Rattle.rp_request.specs.declared.requests.Request.{Request}
use Rattle.rp_raftsafe.specs.World as raft
use Rattle.rp_raftsafe.specs.Safety.{OneList}
use Rattle.rp_rangesafe.specs.Ranges.{Ranges, Owner, Nobody, Turned, At, IsRefusedAt, IsRefused, MayBegin}
use Rattle.rp_events.specs.Nodes.{Node, seat, is_full}
use Rattle.rp_events.specs.Worlds.{World, Scene, Happening, Admit, Ask, Transfer, Collect, Flush, Tick, Deliver, Apply, Cut, Remove, Peek, Restart, Round, node_of, outcome_at, outcome_of, asked_request, was_asked}
use Rattle.rp_events.specs.Lawful.{is_refusal, was_refused, may_begin, is_allowed, is_lawful}
use Rattle.rp_seats.specs.Standing.{SeatOk, IsMadeIn, IsOwned, Bound}
use Rattle.rp_turns.specs.Turning.{IsNew}
use Rattle.rp_bound.proofs.Asked.{ToldAt, told_at, told_was_asked, made_told, refused_stage}

pub and_left : (b c : Bool) → IsTrue (b && c) → IsTrue b
and_left true c h = refl
and_left false c h = h

pub and_right : (b c : Bool) → IsTrue (b && c) → IsTrue c
and_right true c h = h
and_right false c h = absurd cc

not_true : (b : Bool) → IsTrue (not b) → b ≡ true → ⊥
not_true true h e = cc
not_true false h e = cc

-- a lawful scene happens at a node of the world, and may happen there
pub record MayHappen (w : World) (node : ℕ) (what : Happening) : Type 0 where
  pub n : Node
  pub has : node_of w node ≡ Some n
  pub allowed : IsTrue (is_allowed w node what)

pub may_happen : (w : World) (x : Scene) → IsTrue (is_lawful w x) → MayHappen w x.node x.what
may_happen w x lawful = go (node_of w x.node) refl lawful where
  go : (o : Option Node) → node_of w x.node ≡ o → IsTrue (option_map_or (λ n. not (is_full n) && is_allowed w x.node x.what) o false) → MayHappen w x.node x.what
  go None has h = absurd cc
  go (Some n) has h = record { n = n; has = has; allowed = and_right (not (is_full n)) (is_allowed w x.node x.what) h }

none_some : (o : Outcome) (t : Option Outcome) → t ≡ None → t ≡ Some o → ⊥
none_some o t e f = cc

module _ (lists : OneList AppliedState) (w : World) (m : Ranges) (seen : ℕ → List raft.Event) (bound : Bound lists w m seen) where
  -- the seat at which an attempt was made
  seat_made : (id : CmdId) (range : ℕ) (k : IsMadeIn m w id range) (n : Node) → node_of w ((m.range range).attempt id).node ≡ Some n
      → SeatOk (m.range range) ((m.range range).attempt id).node range (seat n range) (λ q. outcome_at q n)
  seat_made id range k n has = (bound.ranges range k.there).seats ((m.range range).attempt id).node n has

  -- where no node was asked of an attempt, it was made nowhere
  unasked_new : (id : CmdId) → (was_asked w id ≡ true → ⊥) → m.owner id ≡ Nobody
  unasked_new id unasked = go (m.owner id) refl (bound.owned id) where
    go : (o : Owner) → m.owner id ≡ o → IsOwned m w id o → m.owner id ≡ Nobody
    go Nobody e k = e
    go Turned e k = absurd (unasked (told_was_asked w k.at k.n k.has id (outcomes.Refused k.why) k.told))
    go (At range) e k =
        let t = made_told (m.range range) ((m.range range).attempt id).node range (seat k.n range) (λ q. outcome_at q k.n) (seat_made id range k k.n k.has) id (k.born, refl) in
        absurd (unasked (told_was_asked w ((m.range range).attempt id).node k.n k.has id t.0 t.1))

  -- one of which a node tells that it was refused was refused
  told_refused : (id : CmdId) (why : Refusal) → ToldAt w id (outcomes.Refused why) → IsRefused m id
  told_refused id why t = go (m.owner id) (bound.owned id) where
    go : (o : Owner) → IsOwned m w id o → IsRefusedAt m id o
    go Nobody k = absurd (none_some (outcomes.Refused why) (outcome_at id t.n) (k t.node t.n t.has) t.told)
    go Turned k = tt
    go (At range) k = at (cases_eq t.node ((m.range range).attempt id).node) where
      at : (t.node ≡ ((m.range range).attempt id).node) ⊎ (t.node ≡ ((m.range range).attempt id).node → ⊥) → IsRefusedAt m id (At range)
      at (inl same) =
          refused_stage (m.range range) ((m.range range).attempt id).node range (seat t.n range) (λ q. outcome_at q t.n)
          (seat_made id range k t.n (subst (λ i. node_of w i ≡ Some t.n) same t.has)) id (k.born, refl) why t.told
      at (inr other) = absurd (none_some (outcomes.Refused why) (outcome_at id t.n) (k.others t.node t.n t.has other) t.told)

  refused_before : (id : CmdId) → IsTrue (was_refused w id) → IsRefused m id
  refused_before id h = go (outcome_of w id) refl h where
    by : (o : Outcome) → outcome_of w id ≡ Some o → IsTrue (is_refusal o) → IsRefused m id
    by (outcomes.Success reply) is t = absurd cc
    by (outcomes.Refused why) is t = told_refused id why (told_at w id (outcomes.Refused why) is)
    by (outcomes.Ambiguous why) is t = absurd cc
    by outcomes.Pending is t = absurd cc

    go : (o : Option Outcome) → outcome_of w id ≡ o → IsTrue (option_map_or is_refusal o false) → IsRefused m id
    go None is t = absurd cc
    go (Some o) is t = by o is t

  abbrev same_asked : CmdId → Request → Bool
  same_asked id request = option_map_or (same_request request) (asked_request w (previous id)) false

  above_one : (k : ℕ) → IsTrue (nat_lt 1 k) → 1 < k
  above_one k h = grind (arith, nat_tests)

  -- an attempt may begin
  pub begins_lawful : (id : CmdId) (request : Request) → IsTrue (may_begin w id request) → MayBegin m id
  begins_lawful id request may = record {
    new = unasked_new id (λ asked. not_true (was_asked w id) (and_left (not (was_asked w id)) _ may) asked);
    turn = go (id.attempt == 1) refl (and_right (not (was_asked w id)) _ may);
  }
    where
      go : (b : Bool) → (id.attempt == 1) ≡ b → IsTrue (b || ((nat_lt 1 id.attempt && was_refused w (previous id)) && same_asked id request)) → (id.attempt ≡ 1) ⊎ ((1 < id.attempt) × IsRefused m (previous id))
      go true e h = inl (eqb-true id.attempt 1 e)
      go false e h =
          let both = and_left (nat_lt 1 id.attempt && was_refused w (previous id)) (same_asked id request) h in
          inr (
            above_one id.attempt (and_left (nat_lt 1 id.attempt) (was_refused w (previous id)) both),
            refused_before (previous id) (and_right (nat_lt 1 id.attempt) (was_refused w (previous id)) both),
          )

  pub scene_new : (node : ℕ) (what : Happening) → IsTrue (is_allowed w node what) → IsNew m what
  scene_new node (Admit range id request) may = (begins_lawful id request may).new
  scene_new node (Ask range) may = tt
  scene_new node (Transfer range to) may = tt
  scene_new node (Collect range taken) may = tt
  scene_new node (Flush range) may = tt
  scene_new node Tick may = tt
  scene_new node (Deliver from number) may = tt
  scene_new node (Apply range) may = tt
  scene_new node (Cut range) may = tt
  scene_new node (Remove range) may = tt
  scene_new node (Peek range key) may = tt
  scene_new node Restart may = tt
  scene_new node Round may = tt
