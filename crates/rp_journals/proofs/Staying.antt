-- What stays of a node and of a world in each later one.
use Rattle.std.proofs.Common.{◌≡◌, ℕ, ◌≤◌, true, Option, None, Some, length, refl, sym, ap, subst, ◌∙◌}
use Rattle.std.specs.Prelude.{slice_get}
use Rattle.std.specs.List.{find}
use Rattle.std.specs.Option.{option_map, option_map_or}
use Rattle.rp_base.specs.Ids.{same_id}
use Rattle.rp_base.specs.declared.ids.CmdId.{CmdId}
use Rattle.rp_request.specs.Applied.{AppliedState}
use Rattle.rp_request.specs.declared.outcomes.Outcome.{Outcome}
use Rattle.rp_request.specs.declared.outcomes.Outcome.TheVariants as outcomes
use Rattle.rp_request.specs.declared.requests.Request.{Request}
use Rattle.rp_events.specs.declared.answers.Ended.{Ended}
use Rattle.rp_events.specs.declared.answers.EventAnswer.{EventAnswer}
use Rattle.rp_events.specs.declared.answers.EventAnswer.TheVariants as answers
use Rattle.rp_events.specs.declared.journals.JournalEntry.{JournalEntry}
use Rattle.rp_events.specs.declared.parcels.Parcel.{Parcel}
use Rattle.rp_events.specs.Replicas.{Replica}
use Rattle.rp_events.specs.Nodes.{Node, seat, parcel_of}
use Rattle.rp_events.specs.Worlds.{World, node_of, sent_by, is_admission_of, asked_at, ended_of, outcome_by, outcome_at}
use Rattle.rp_events.specs.Lists.{IsWritten, IsAdmitted, StoodAs}
use Rattle.rp_journals.specs.Growth.{Grows, WorldGrows}
use Rattle.rp_journals.specs.Entries.{AllReadBack}
use Rattle.rp_journals.proofs.Lists.{get_begins, found_begins, any_begins}
use Rattle.rp_journals.proofs.Growing.{sent_grows, parcel_stays}
use Rattle.rp_journals.proofs.Writing.{stood_later}

pub parcels_stay : (w later : World) → WorldGrows w later → (from number : ℕ) (p : Parcel AppliedState) → parcel_of (sent_by w from) number ≡ Some p → parcel_of (sent_by later from) number ≡ Some p
parcels_stay w later g from number p is = parcel_stays (sent_by w from) (sent_by later from) (sent_grows w later g from) number p is

pub requests_stay : (n later : Node) → Grows n later → (place : ℕ) (request : Request) → slice_get n.requests place ≡ Some request → slice_get later.requests place ≡ Some request
requests_stay n later g place request is = get_begins n.requests later.requests g.requests place request is

pub entries_stay : (n later : Node) → Grows n later → (place : ℕ) (e : JournalEntry) → slice_get n.journal place ≡ Some e → slice_get later.journal place ≡ Some e
entries_stay n later g place e is = get_begins n.journal later.journal g.journal place e is

pub found_stays : (n later : Node) → Grows n later → (id : CmdId) (e : JournalEntry) → find (is_admission_of id) n.journal ≡ Some e → find (is_admission_of id) later.journal ≡ Some e
found_stays n later g id e is = found_begins (is_admission_of id) n.journal later.journal g.journal e is

pub asked_stays : (n later : Node) → Grows n later → (id : CmdId) → asked_at id n ≡ true → asked_at id later ≡ true
asked_stays n later g id is = any_begins (is_admission_of id) n.journal later.journal g.journal is

module _ (n later : Node) (g : Grows n later) (id : CmdId) where
  listed : (o : Outcome) → (o ≡ outcomes.Pending → ⊥) → option_map_or (λ (x : Outcome). x) (ended_of id n.outcomes) outcomes.Pending ≡ o
      → option_map_or (λ (x : Outcome). x) (ended_of id later.outcomes) outcomes.Pending ≡ o
  listed o ended is = go (find (λ (e : Ended). same_id e.id id) n.outcomes) refl where
    by_found : (f : Option Ended) → find (λ (e : Ended). same_id e.id id) n.outcomes ≡ f
        → option_map_or (λ (x : Outcome). x) (option_map (λ (e : Ended). e.outcome) f) outcomes.Pending ≡ o
    by_found f found = sym (ap (λ z. option_map_or (λ (x : Outcome). x) (option_map (λ (e : Ended). e.outcome) z) outcomes.Pending) found) ∙ is

    go : (f : Option Ended) → find (λ (e : Ended). same_id e.id id) n.outcomes ≡ f → option_map_or (λ (x : Outcome). x) (ended_of id later.outcomes) outcomes.Pending ≡ o
    go None found = absurd (ended (sym (by_found None found)))
    go (Some e) found =
        ap (λ z. option_map_or (λ (x : Outcome). x) (option_map (λ (e : Ended). e.outcome) z) outcomes.Pending) (found_begins (λ (e : Ended). same_id e.id id) n.outcomes later.outcomes g.outcomes e found)
        ∙ by_found (Some e) found

  answered : (a : EventAnswer) (o : Outcome) → (o ≡ outcomes.Pending → ⊥) → outcome_by n id a ≡ o → outcome_by later id a ≡ o
  answered answers.Done o ended is = listed o ended is
  answered answers.Nothing o ended is = listed o ended is
  answered answers.Admitted o ended is = listed o ended is
  answered (answers.Asked ask) o ended is = listed o ended is
  answered (answers.Refused why) o ended is = is
  answered (answers.LeaseHeld lease ticks) o ended is = listed o ended is
  answered (answers.Value value applied) o ended is = listed o ended is

  -- an attempt that has ended is told the same
  pub outcome_stays : (o : Outcome) → (o ≡ outcomes.Pending → ⊥) → outcome_at id n ≡ Some o → outcome_at id later ≡ Some o
  outcome_stays o ended is = go (find (is_admission_of id) n.journal) refl where
    some_is : (a b : Outcome) → ◌≡◌ {A = Option Outcome} (Some a) (Some b) → a ≡ b
    some_is a b e = cc

    by_found : (f : Option JournalEntry) → find (is_admission_of id) n.journal ≡ f → option_map (λ (e : JournalEntry). outcome_by n id e.answer) f ≡ Some o
    by_found f found = sym (ap (option_map (λ (e : JournalEntry). outcome_by n id e.answer)) found) ∙ is

    go : (f : Option JournalEntry) → find (is_admission_of id) n.journal ≡ f → outcome_at id later ≡ Some o
    go None found = absurd (let k = by_found None found in cc)
    go (Some e) found =
        ap (option_map (λ (e : JournalEntry). outcome_by later id e.answer)) (found_stays n later g id e found)
        ∙ ap Some (answered e.answer o ended (some_is (outcome_by n id e.answer) o (by_found (Some e) found)))

pub written_stays : (w later : World) → WorldGrows w later → (node place : ℕ) (e : JournalEntry) → IsWritten w node place e → IsWritten later node place e
written_stays w later g node place e is =
    let x = g.each node is.n is.has in
    record { n = x.now; has = x.has; here = entries_stay is.n x.now x.grows place e is.here }

pub admitted_stays : (w later : World) → WorldGrows w later → (id : CmdId) (node place range : ℕ) (request : Request) → IsAdmitted w id node place range request → IsAdmitted later id node place range request
admitted_stays w later g id node place range request is =
    let x = g.each node is.n is.has in
    record { n = x.now; has = x.has; at = is.at; here = entries_stay is.n x.now x.grows place _ is.here; asked = requests_stay is.n x.now x.grows is.at request is.asked }

-- a replica as it stood before an entry that is written, or before the next one
pub stood_stays : (w later : World) → AllReadBack w → WorldGrows w later → (node : ℕ) (n : Node) → node_of w node ≡ Some n → (place : ℕ) → place ≤ length n.journal
    → (range : ℕ) (r : Replica) → StoodAs w node place range r → StoodAs later node place range r
stood_stays w later reads g node n has place within range r is =
    let x = g.each node n has in
    let y = g.each node is.n is.has in
    let same = stood_later w later reads g node is.n y.now is.has y.has place
    (subst (λ (z : Node). place ≤ length z.journal) (one has is.has) within) in
    record { n = y.now; has = y.has; stood = ap (λ (z : Node). seat z range) same ∙ is.stood }
  where
    one : {a b : Node} → node_of w node ≡ Some a → node_of w node ≡ Some b → a ≡ b
    one {a} {b} e f = some_is a b (sym e ∙ f) where
      some_is : (a b : Node) → ◌≡◌ {A = Option Node} (Some a) (Some b) → a ≡ b
      some_is a b e = cc
