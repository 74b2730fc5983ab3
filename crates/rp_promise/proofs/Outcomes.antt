-- What attempts are told is true.
use Rattle.std.proofs.Common.{◌≡◌, ℕ, zero, suc, ◌+◌, ◌<◌, Bool, true, false, cond, ◌⊎◌, inl, inr, ⊎_elim, Option, None, Some, List, [], ◌∷◌, refl, sym, ap, subst, ◌∙◌, arith}
use Rattle.std.proofs.lemmas.Option.{none-some}
use Rattle.std.specs.Prelude.{Contains, slice_get, option_and_then}
use Rattle.std.specs.List.{find}
use Rattle.std.specs.Option.{option_map, option_map_or}
use Rattle.std.proofs.lemmas.Bool.{cases_eq}
use Rattle.std.proofs.lemmas.Option.{slice_get_within, get_or_from_slice_get}
use Rattle.rp_base.specs.Ids.{same_id}
use Rattle.rp_base.specs.declared.ids.CmdId.{CmdId}
use Rattle.rp_base.proofs.IdLaws.{same_is, same_itself}
use Rattle.rp_request.specs.Applied.{AppliedState}
use Rattle.rp_request.specs.History.{History}
use Rattle.rp_request.specs.declared.items.Record.TheVariants.{Took}
use Rattle.rp_request.specs.declared.outcomes.Outcome.{Outcome}
use Rattle.rp_request.specs.declared.outcomes.Outcome.TheVariants.{Success, Refused, Pending}
use Rattle.rp_request.specs.declared.outcomes.Refusal.{Refusal}
use Rattle.rp_request.specs.declared.outcomes.Reply.{Reply}
use Rattle.rp_request.specs.declared.requests.Request.{Request}
use Rattle.rp_pending.specs.Proposals.{proposal_of}
use Rattle.rp_pending.specs.declared.proposals.Proposal.{Proposal}
use Rattle.rp_pending.specs.declared.proposals.Stage as waits
use Rattle.rp_pending.specs.declared.proposals.Stage.TheVariants as waiting
use Rattle.rp_raftsafe.specs.World as raft
use Rattle.rp_raftsafe.specs.Safety.{OneList}
use Rattle.rp_rangesafe.specs.Attempts.{Stage, Attempt, IsUntaken}
use Rattle.rp_rangesafe.specs.Attempts as stages
use Rattle.rp_rangesafe.specs.Places.{IsPlace}
use Rattle.rp_rangesafe.specs.Ranges.{Ranges, Owner, Nobody, Turned, At, IsRefused, IsRefusedAt}
use Rattle.rp_rangesafe.proofs.Joint.{range_reached, one_range, refused_nowhere}
use Rattle.rp_rangesafe.proofs.Once.{placed_born}
use Rattle.rp_rangesafe.proofs.OneRange.{dead_by_stage, lawful_place}
use Rattle.rp_events.specs.declared.answers.Ended.{Ended}
use Rattle.rp_events.specs.declared.answers.EventAnswer.{EventAnswer}
use Rattle.rp_events.specs.declared.answers.EventAnswer.TheVariants as answers
use Rattle.rp_events.specs.declared.journals.JournalEntry.{JournalEntry}
use Rattle.rp_events.specs.declared.journals.PastEvent.TheVariants as past
use Rattle.rp_events.specs.Nodes as nodes
use Rattle.rp_events.specs.Nodes.{Node, Status, seat}
use Rattle.rp_events.specs.Worlds.{World, node_of, is_admission_of, asked_at, outcome_by, outcome_at, outcome_of}
use Rattle.rp_events.specs.Lists.{base_of, history_in, HasApplied, Claim, KeepsPlace, IsAdmitted}
use Rattle.rp_events.specs.Promises.{HasPlaceWith, NeverHasAPlace, OutcomesAreHonest}
use Rattle.rp_journals.proofs.Telling.{told_once, known, ambiguous}
use Rattle.rp_journals.proofs.Waiting.{pending_there}
use Rattle.rp_seats.specs.Standing.{Bound, pending_in, StandsAs, HasPlace, IsToldAs, TellsOf, IsMadeIn, IsOwned}
use Rattle.rp_promise.specs.Records.{AllRecords}
use Rattle.rp_promise.specs.Beside.{IsPromising}
use Rattle.rp_promise.proofs.Stands.{had_opened}
use Rattle.rp_promise.proofs.Places.{PlaceAt, place_at}
use Rattle.rp_promise.proofs.Lawful.{placed_unrefused}
use Rattle.rp_promise.proofs.Somes.{some_is}

-- what is found stands in the list, and passes the test
record Found {X : Type 0} (test : X → Bool) (xs : List X) (x : X) : Type 0 where
  index : ℕ
  here : slice_get xs index ≡ Some x
  holds : test x ≡ true

found_is : {X : Type 0} (test : X → Bool) (xs : List X) (x : X) → find test xs ≡ Some x → Found test xs x
found_is test [] x e = absurd cc
found_is {X} test (z ∷ xs) x e = go (found_is test xs x) (test z) refl e where
  go : (find test xs ≡ Some x → Found test xs x) → (b : Bool) → test z ≡ b → cond b (Some z) (find test xs) ≡ Some x → Found test (z ∷ xs) x
  go more true is f = record { index = 0; here = f; holds = ap test (sym (some_is z x f)) ∙ is }
  go more false is f = let r = more f in record { index = suc r.index; here = r.here; holds = r.holds }

-- what stands in the list and passes the test is found, or another
not_missed : {X : Type 0} (test : X → Bool) (xs : List X) (i : ℕ) (x : X) → slice_get xs i ≡ Some x → test x ≡ true → find test xs ≡ None → ⊥
not_missed test [] i x e holds none = cc
not_missed {X} test (z ∷ xs) i x e holds none = go (λ j f g. not_missed test xs j x f holds g) (test z) refl none i e where
  go : ((j : ℕ) → slice_get xs j ≡ Some x → find test xs ≡ None → ⊥) → (b : Bool) → test z ≡ b → cond b (Some z) (find test xs) ≡ None → (i : ℕ) → slice_get (z ∷ xs) i ≡ Some x → ⊥
  go more true is f j e' = cc
  go more false is f zero e' = false_true (sym is ∙ ap test (some_is z x e') ∙ holds) where
    false_true : false ≡ true → ⊥
    false_true g = cc
  go more false is f (suc j) e' = more j e' f

-- the node that tells an attempt
record ToldAt (w : World) (id : CmdId) (o : Outcome) : Type 0 where
  node : ℕ
  n : Node
  has : node_of w node ≡ Some n
  told : outcome_at id n ≡ Some o

told_at : (w : World) (id : CmdId) (o : Outcome) → outcome_of w id ≡ Some o → ToldAt w id o
told_at w id o e = go (find (asked_at id) w) refl e where
  go : (f : Option Node) → find (asked_at id) w ≡ f → option_and_then (outcome_at id) f ≡ Some o → ToldAt w id o
  go None is e' = absurd cc
  go (Some n) is e' = let f = found_is (asked_at id) w n is in record { node = suc f.index; n = n; has = f.here; told = e' }

-- who is told Success has that end in the node's list
abbrev HasEnd : Node → CmdId → Reply → Type 0
HasEnd n id reply = Contains {X = Ended} n.outcomes (record { id = id; outcome = Success reply })

listed_success : (n : Node) (id : CmdId) (reply : Reply) (f : Option Ended) → find (λ (e : Ended). same_id e.id id) n.outcomes ≡ f
    → option_map_or (λ (o : Outcome). o) (option_map (λ (e : Ended). e.outcome) f) Pending ≡ Success reply → HasEnd n id reply
listed_success n id reply None is e = absurd cc
listed_success n id reply (Some x) is e =
    let f = found_is (λ (y : Ended). same_id y.id id) n.outcomes x is in
    let same : ◌≡◌ {A = Ended} x (record { id = id; outcome = Success reply }) = λ i. record { id = same_is x.id id f.holds i; outcome = e i } in
    subst (Contains {X = Ended} n.outcomes) same (f.index, slice_get_within n.outcomes f.index x f.here, get_or_from_slice_get n.outcomes f.index x x f.here)

answered_success : (n : Node) (id : CmdId) (reply : Reply) (a : EventAnswer) → outcome_by n id a ≡ Success reply → HasEnd n id reply
answered_success n id reply (answers.Refused refusal) e = absurd cc
answered_success n id reply _ e = listed_success n id reply (find (λ (x : Ended). same_id x.id id) n.outcomes) refl e

told_success : (n : Node) (id : CmdId) (reply : Reply) → outcome_at id n ≡ Some (Success reply) → HasEnd n id reply
told_success n id reply = by_entry (find (is_admission_of id) n.journal) where
  by_entry : (f : Option JournalEntry) → option_map (λ (e : JournalEntry). outcome_by n id e.answer) f ≡ Some (Success reply) → HasEnd n id reply
  by_entry None e = absurd cc
  by_entry (Some x) e = answered_success n id reply x.answer (some_is (outcome_by n id x.answer) (Success reply) e)

-- a node with an admission of the attempt tells of it
admitted_told : (n : Node) (id : CmdId) (place : ℕ) (x : JournalEntry) → slice_get n.journal place ≡ Some x → is_admission_of id x ≡ true → outcome_at id n ≡ None → ⊥
admitted_told n id place x here is none = go (find (is_admission_of id) n.journal) refl none where
  go : (f : Option JournalEntry) → find (is_admission_of id) n.journal ≡ f → option_map (λ (e : JournalEntry). outcome_by n id e.answer) f ≡ None → ⊥
  go None found e = not_missed (is_admission_of id) n.journal place x here is found
  go (Some y) found e = some_none e where
    some_none : ◌≡◌ {A = Option Outcome} (Some (outcome_by n id y.answer)) None → ⊥
    some_none f = cc

-- what a pending attempt's stage is, and what a refused one's
pending_stage : (s : Stage) → IsToldAs s (Some Pending) → ⊥
pending_stage stages.Unborn t = t
pending_stage stages.Waiting t = t
pending_stage (stages.Proposed own) t = t
pending_stage (stages.Success reply) t = cc
pending_stage stages.Refused t = let e = t.1 in cc
pending_stage (stages.Overtaken own passed) t = cc
pending_stage (stages.Removed own) t = cc
pending_stage (stages.Restarted own) t = cc

refused_stage : (s : Stage) (why : Refusal) → IsToldAs s (Some (Refused why)) → s ≡ stages.Refused
refused_stage stages.Unborn why t = absurd t
refused_stage stages.Waiting why t = absurd t
refused_stage (stages.Proposed own) why t = absurd t
refused_stage (stages.Success reply) why t = absurd cc
refused_stage stages.Refused why t = refl
refused_stage (stages.Overtaken own passed) why t = absurd cc
refused_stage (stages.Removed own) why t = absurd cc
refused_stage (stages.Restarted own) why t = absurd cc

placed_untaken : (s : waits.Stage) (max : ℕ) (a : Attempt) → HasPlace s max a → IsUntaken a.stage
placed_untaken waiting.Waiting max a h = subst IsUntaken (sym h) tt
placed_untaken waiting.Proposed max a h = subst IsUntaken (sym h.0) tt

-- a place that a node keeps, in the machine
record KeptAt (m : Ranges) (node range : ℕ) (claim : Claim) : Type 0 where
  place : ℕ
  applied : place < (m.range range).index node
  at : PlaceAt (m.range range) place claim

module _ (lists : OneList AppliedState) (w : World) (m : Ranges) (seen : ℕ → List raft.Event) (b : Bound lists w m seen) where
  -- the machine's index of a node is that of what it has applied
  index_is : (node range : ℕ) (past : History) → HasApplied w node range past → (m.range range).index node + base_of range ≡ past.index
  index_is node range past a =
      let ok = b.ranges range (had_opened lists w m seen b node range past a) in
      go (seat a.n range) (ok.seats node a.n a.has).stands a.history
    where
      go : (s : Status) → StandsAs (m.range range) node (base_of range) s → history_in s ≡ Some past → (m.range range).index node + base_of range ≡ past.index
      go nodes.Absent stands e = absurd cc
      go (nodes.Live r) stands e = stands.0 ∙ ap (λ (z : History). z.index) (some_is r.applied past e)
      go (nodes.Removed applied) stands e = stands.0 ∙ ap (λ (z : History). z.index) (some_is applied past e)

  kept_at : AllRecords w m → (node range index : ℕ) (claim : Claim) → KeepsPlace w node range index claim → KeptAt m node range claim
  kept_at a node range index claim k =
      let o = (a.each range).histories node k.kept.history k.kept.applied in
      let i = o.records k.kept.piece index (Took k.item) k.kept.among k.kept.stands in
      let at = o.at in let shown = index_is node range k.kept.history k.kept.applied in
      let within = o.within in let all = (a.each range).within in let lt = i.applied in
      record {
        place = i.place;
        applied = omega (arith, lt, at, shown);
        at = place_at (m.range range) (range_reached m b.reached range) i.place (omega (arith, lt, within, all)) k.item claim (sym i.is) k.says;
      }

  -- who tells of an attempt: the node where it was made, or the one that turned it away
  record TellsMade (id : CmdId) (o : Outcome) (node : ℕ) (n : Node) : Type 0 where
    range : ℕ
    owner : m.owner id ≡ At range
    made : IsMadeIn m w id range
    own : node ≡ ((m.range range).attempt id).node
    tells : TellsOf node ((m.range range).attempt id) (proposal_of id (pending_in (seat n range))) (Some o)

  record TellsTurned (id : CmdId) (o : Outcome) : Type 0 where
    owner : m.owner id ≡ Turned
    why : Refusal
    is : o ≡ Refused why

  who_tells : (id : CmdId) (o : Outcome) (node : ℕ) (n : Node) → node_of w node ≡ Some n → outcome_at id n ≡ Some o → TellsMade id o node n ⊎ TellsTurned id o
  who_tells id o node n has told = go (m.owner id) refl (b.owned id) where
    go : (x : Owner) → m.owner id ≡ x → IsOwned m w id x → TellsMade id o node n ⊎ TellsTurned id o
    go Nobody e owned = absurd (none-some o (sym (owned node n has) ∙ told))
    go Turned e owned = ⊎_elim
        (λ (same : node ≡ owned.at).
        let one : n ≡ owned.n = some_is n owned.n (sym has ∙ ap (node_of w) same ∙ owned.has) in
        inr (record { owner = e; why = owned.why; is = some_is o (Refused owned.why) (sym told ∙ ap (outcome_at id) one ∙ owned.told) }))
        (λ (other : node ≡ owned.at → ⊥). absurd (none-some o (sym (owned.others node n has other) ∙ told)))
        (cases_eq node owned.at)
    go (At range) e owned = ⊎_elim
        (λ (same : node ≡ ((m.range range).attempt id).node). inl (record {
          range = range;
          owner = e;
          made = owned;
          own = same;
          tells = subst (λ z. TellsOf node ((m.range range).attempt id) (proposal_of id (pending_in (seat n range))) z) told (((b.ranges range owned.there).seats node n has).pending.tells id);
        }))
        (λ (other : node ≡ ((m.range range).attempt id).node → ⊥). absurd (none-some o (sym (owned.others node n has other) ∙ told)))
        (cases_eq node ((m.range range).attempt id).node)

  -- who was told Refused was refused in the machine
  refused_is : (id : CmdId) (why : Refusal) → outcome_of w id ≡ Some (Refused why) → IsRefused m id
  refused_is id why e =
      let t = told_at w id (Refused why) e in
      ⊎_elim
      (λ (x : TellsMade id (Refused why) t.node t.n). subst (IsRefusedAt m id) (sym x.owner) (in_range t.node t.n x (proposal_of id (pending_in (seat t.n x.range))) x.tells))
      (λ (x : TellsTurned id (Refused why)). subst (IsRefusedAt m id) (sym x.owner) tt)
      (who_tells id (Refused why) t.node t.n t.has t.told)
    where
      in_range : (node : ℕ) (n : Node) (x : TellsMade id (Refused why) node n) (p : Option Proposal) → TellsOf node ((m.range x.range).attempt id) p (Some (Refused why)) → ((m.range x.range).attempt id).stage ≡ stages.Refused
      in_range node n x None tells = refused_stage ((m.range x.range).attempt id).stage why (tells (x.made.born, sym x.own))
      in_range node n x (Some p) tells = let f = tells.pending in absurd cc

module _ (lists : OneList AppliedState) (w : World) (m : Ranges) (seen : ℕ → List raft.Event) (count : ℕ) (k : IsPromising lists count w m seen) where
  abbrev b : Bound lists w m seen
  b = k.now.bound

  -- Refused means never
  refused : (id : CmdId) (why : Refusal) → outcome_of w id ≡ Some (Refused why) → NeverHasAPlace w id
  refused id why e later node range index claim on kept same =
      let z = k.later later on in
      let p = kept_at lists later z.ranges z.events z.stands.bound z.stands.records node range index claim kept in
      let named : p.at.command.id ≡ id = ap (λ (c : Claim). c.id) p.at.says ∙ same in
      refused_nowhere m b.reached id (refused_is lists w m seen b id why e) z.ranges range p.place p.at.command z.onward
      (subst (λ x. IsPlace (z.ranges.range range) x p.place p.at.command) named p.at.place)

  -- what is pending has no place that its node keeps
  pending_untaken : (id : CmdId) (node : ℕ) (n : Node) (x : TellsMade lists w m seen b id Pending node n) (p : Option Proposal) → TellsOf node ((m.range x.range).attempt id) p (Some Pending)
      → IsUntaken ((m.range x.range).attempt id).stage
  pending_untaken id node n x None tells = absurd (pending_stage ((m.range x.range).attempt id).stage (tells (x.made.born, sym x.own)))
  pending_untaken id node n x (Some p) tells = placed_untaken p.stage p.max ((m.range x.range).attempt id) tells.place

  unplaced : (id : CmdId) (node place range index : ℕ) (request : Request) (claim : Claim) → outcome_of w id ≡ Some Pending → IsAdmitted w id node place range request
      → KeepsPlace w node range index claim → claim.id ≡ id → ⊥
  unplaced id node place range index request claim e admitted kept same =
      let t = told_at w id Pending e in
      ⊎_elim
      (λ (x : TellsMade lists w m seen b id Pending t.node t.n). made t.node t.n x (pending_untaken id t.node t.n x (proposal_of id (pending_in (seat t.n x.range))) x.tells))
      (λ (x : TellsTurned lists w m seen b id Pending). pending_refused x.why x.is)
      (who_tells lists w m seen b id Pending t.node t.n t.has t.told)
    where
      pending_refused : (why : Refusal) → Pending ≡ Refused why → ⊥
      pending_refused why f = cc

      made : (at : ℕ) (n : Node) (x : TellsMade lists w m seen b id Pending at n) → IsUntaken ((m.range x.range).attempt id).stage → ⊥
      made at n x untaken =
          let p = kept_at lists w m seen b k.now.records node range index claim kept in
          let named : p.at.command.id ≡ id = ap (λ (c : Claim). c.id) p.at.says ∙ same in
          let here : IsPlace (m.range range) id p.place p.at.command = subst (λ y. IsPlace (m.range range) y p.place p.at.command) named p.at.place in
          let one : range ≡ x.range = one_range m b.reached id range x.range (placed_born (m.range range) (range_reached m b.reached range) id p.place p.at.command here) x.made.born in
          let there : IsPlace (m.range x.range) id p.place p.at.command = subst (λ r. IsPlace (m.range r) id p.place p.at.command) one here in
          let below : p.place < (m.range x.range).index node = subst (λ r. p.place < (m.range r).index node) one p.applied in
          ⊎_elim
          (λ (own : node ≡ ((m.range x.range).attempt id).node).
          (dead_by_stage (m.range x.range) (range_reached m b.reached x.range) id).untaken untaken p.place p.at.command (subst (λ q. p.place < (m.range x.range).index q) own below) there)
          (λ (other : node ≡ ((m.range x.range).attempt id).node → ⊥).
          admitted_told admitted.n id place (record { event = past.Admit range id admitted.at; answer = answers.Admitted }) admitted.here (same_itself id)
          (x.made.others node admitted.n admitted.has other))
          (cases_eq node ((m.range x.range).attempt id).node)

  -- Success is the reply at its place
  success : (id : CmdId) (reply : Reply) → outcome_of w id ≡ Some (Success reply) → HasPlaceWith w id reply
  success id reply e =
      let t = told_at w id (Success reply) e in
      let r = k.now.records.successes t.node t.n id reply t.has (told_success t.n id reply t.told) in
      let claim : Claim = record { id = id; request = r.request; seq = r.seq; reply = reply } in
      let p = kept_at lists w m seen b k.now.records t.node r.range r.index (record { id = id; request = r.request; seq = r.seq; reply = reply }) r.kept in
      let reached = range_reached m b.reached r.range in
      let named : p.at.command.id ≡ id = ap (λ (c : Claim). c.id) p.at.says in
      let here : IsPlace (m.range r.range) id p.place p.at.command = subst (λ y. IsPlace (m.range r.range) y p.place p.at.command) named p.at.place in
      let born = placed_born (m.range r.range) reached id p.place p.at.command here in
      let under = k.now.admitted id r.range born (placed_unrefused (m.range r.range) reached id p.place p.at.command here) in
      let of = (lawful_place (m.range r.range) reached id p.place p.at.command here).of in
      let asks : r.request ≡ ((m.range r.range).attempt id).body.request = ap (λ (c : Claim). c.request) (sym p.at.says) ∙ of.request in
      let node_is : t.node ≡ under.0.node = ⊎_elim
      (λ (x : TellsMade lists w m seen b id (Success reply) t.node t.n).
      let one : x.range ≡ r.range = one_range m b.reached id x.range r.range x.made.born born in
      x.own ∙ ap (λ q. ((m.range q).attempt id).node) one ∙ sym under.1)
      (λ (x : TellsTurned lists w m seen b id (Success reply)). absurd (success_refused x.why x.is))
      (who_tells lists w m seen b id (Success reply) t.node t.n t.has t.told) in
      record {
        node = under.0.node;
        admitted_at = under.0.place;
        range = r.range;
        request = ((m.range r.range).attempt id).body.request;
        admitted = under.0.admitted;
        index = r.index;
        seq = r.seq;
        kept = subst (λ q. KeepsPlace w q r.range r.index (record { id = id; request = ((m.range r.range).attempt id).body.request; seq = r.seq; reply = reply })) node_is
            (subst (λ q. KeepsPlace w t.node r.range r.index (record { id = id; request = q; seq = r.seq; reply = reply })) asks r.kept);
      }
    where
      success_refused : (why : Refusal) → Success reply ≡ Refused why → ⊥
      success_refused why f = cc

  pub outcomes_honest : OutcomesAreHonest w
  outcomes_honest = record {
    once = told_once count w k.reached;
    known = known count w k.reached;
    success = success;
    refused = refused;
    ambiguous = ambiguous count w k.reached;
    pending = pending_there count w k.reached;
    unplaced = unplaced;
  }
