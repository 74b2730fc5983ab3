-- What the events of one node leave of another.
use Rattle.std.proofs.Common.{◌≡◌, ℕ, ◌+◌, ◌⊎◌, inl, inr, Option, None, Some, List, [], ◌∷◌, ◌++◌, sym, ap, subst, ◌∙◌}
use Rattle.rp_base.specs.declared.ids.CmdId.{CmdId}
use Rattle.rp_request.specs.declared.outcomes.Outcome.{Outcome}
use Rattle.rp_pending.specs.declared.proposals.Proposal.{Proposal}
use Rattle.rp_pending.specs.declared.proposals.Stage as places
use Rattle.rp_pending.specs.declared.proposals.Stage.TheVariants as stages
use Rattle.rp_pending.specs.Proposals.{proposal_of}
use Rattle.rp_rangesafe.specs.Attempts.{Attempt, IsBorn, IsBornAt}
use Rattle.rp_rangesafe.specs.World as machine
use Rattle.rp_rangesafe.specs.World.{Event, Lawful, AllLawful}
use Rattle.rp_rangesafe.specs.Places.{HappensAt}
use Rattle.rp_rangesafe.proofs.Admissions.{index_elsewhere, alive_elsewhere, barrier_elsewhere, attempt_elsewhere}
use Rattle.rp_events.specs.Nodes as nodes
use Rattle.rp_events.specs.Nodes.{Absent, Live}
use Rattle.rp_events.specs.Lists.{base_of}
use Rattle.rp_seats.specs.Standing.{pending_in, StandsAs, HasPlace, TellsPending, IsToldAs, TellsOf, SeatOk}
use Rattle.rp_seats.specs.Steps.{AllHappenAt, AreElsewhere}

-- a pending attempt was made
pub place_born : (s : places.Stage) (max : ℕ) (a : Attempt) → HasPlace s max a → IsBorn a.stage
place_born stages.Waiting max a h = subst IsBorn (sym h) tt
place_born stages.Proposed max a h = subst IsBorn (sym h.0) tt

-- an attempt that stays where either one is the node's tells as before
tells_same : (node : ℕ) (a b : Attempt) → (IsBornAt a node ⊎ IsBornAt b node → b ≡ a) → (o : Option Proposal) (told : Option Outcome) → TellsOf node a o told → TellsOf node b o told
tells_same node a b same None told h = λ born. subst (λ z. IsToldAs z.stage told) (sym (same (inr born))) (h (subst (λ z. IsBornAt z node) (same (inr born)) born))
tells_same node a b same (Some p) told h = subst (λ z. TellsPending node z p told) (sym (same (inl (place_born p.stage p.max a h.place, h.made_at)))) h

stands_same : (h k : machine.World) (node base : ℕ) → k.index node ≡ h.index node → k.alive node ≡ h.alive node → k.barrier node ≡ h.barrier node
    → (status : nodes.Status) → StandsAs h node base status → StandsAs k node base status
stands_same h k node base index alive barrier Absent s = (index ∙ s.0, alive ∙ s.1, barrier ∙ s.2)
stands_same h k node base index alive barrier (Live r) s = (ap (λ i. i + base) index ∙ s.0, alive ∙ s.1, barrier ∙ s.2)
stands_same h k node base index alive barrier (nodes.Removed applied) s = (ap (λ i. i + base) index ∙ s.0, alive ∙ s.1)

-- one event, and a list
pub seat_elsewhere : (h : machine.World) (e : Event) (node range : ℕ) (status : nodes.Status) (told : CmdId → Option Outcome) → Lawful h e → (HappensAt h e node → ⊥)
    → SeatOk h node range status told → SeatOk (machine.happens h e) node range status told
seat_elsewhere h e node range status told lawful ne s = record {
  stands = stands_same h (machine.happens h e) node (base_of range) (index_elsewhere h node e ne) (alive_elsewhere h node e ne) (barrier_elsewhere h node e ne) status s.stands;
  pending = record {
    tells = λ id. tells_same node (h.attempt id) ((machine.happens h e).attempt id) (attempt_elsewhere h node e lawful ne id) (proposal_of id (pending_in status)) (told id) (s.pending.tells id);
    distinct = s.pending.distinct;
    held = s.pending.held;
  };
}

pub seat_of_other : (h : machine.World) (es : List Event) (node range : ℕ) (status : nodes.Status) (told : CmdId → Option Outcome) → AllLawful h es → AreElsewhere node h es
    → SeatOk h node range status told → SeatOk (machine.run h es) node range status told
seat_of_other h [] node range status told lawful ne s = s
seat_of_other h (e ∷ es) node range status told lawful ne s =
    seat_of_other (machine.happens h e) es node range status told lawful.1 ne.1 (seat_elsewhere h e node range status told lawful.0 ne.0 s)

-- what happens at one node happens at no other
one_node : (h : machine.World) (e : Event) (node other : ℕ) → (other ≡ node → ⊥) → HappensAt h e node → HappensAt h e other → ⊥
one_node h (machine.Admit id at body) node other ne a b = ne (b ∙ sym a)
one_node h (machine.Flush id max) node other ne a b = ne (b ∙ sym a)
one_node h (machine.Return id) node other ne a b = ne (b ∙ sym a)
one_node h (machine.Refuse id) node other ne a b = ne (b ∙ sym a)
one_node h (machine.Commit p) node other ne a b = a
one_node h (machine.Apply at) node other ne a b = ne (b ∙ sym a)
one_node h (machine.Snapshot at to) node other ne a b = ne (b ∙ sym a)
one_node h (machine.Remove at) node other ne a b = ne (b ∙ sym a)
one_node h (machine.Restart at) node other ne a b = ne (b ∙ sym a)

pub own_elsewhere : (h : machine.World) (es : List Event) (node other : ℕ) → (other ≡ node → ⊥) → AllHappenAt node h es → AreElsewhere other h es
own_elsewhere h [] node other ne own = tt
own_elsewhere h (e ∷ es) node other ne own = (one_node h e node other ne own.0, own_elsewhere (machine.happens h e) es node other ne own.1)

pub elsewhere_further : (node : ℕ) (h : machine.World) (es fs : List Event) → AreElsewhere node h es → AreElsewhere node (machine.run h es) fs → AreElsewhere node h (es ++ fs)
elsewhere_further node h [] fs a b = b
elsewhere_further node h (e ∷ es) fs a b = (a.0, elsewhere_further node (machine.happens h e) es fs a.1 b)
