-- Each ambiguous end has its event in the journal of its node.
use Rattle.std.proofs.Common.{◌≡◌, ℕ, ◌+◌, ◌<◌, ◌≤◌, Bool, true, false, cond, ⊎_elim, Option, None, Some, List, [], ◌∷◌, length, length-append, refl, sym, ap, subst, ◌∙◌, arith, get_or-set_same, get_or-set_other}
use Rattle.std.specs.Prelude.{slice_get}
use Rattle.std.specs.List.{find, AllByRecursion}
use Rattle.std.proofs.lemmas.Bool.{cond_both, cases_lt}
use Rattle.std.proofs.lemmas.List.{get_or_past}
use Rattle.std.proofs.lemmas.Option.{slice_get_within}
use Rattle.rp_base.specs.declared.ids.CmdId.{CmdId}
use Rattle.rp_base.specs.declared.items.Item.{Item}
use Rattle.rp_base.proofs.IdLaws.{same_is}
use Rattle.rp_raftstep.specs.declared.messages.Message.{Message}
use Rattle.rp_raftstep.specs.Step.{received}
use Rattle.rp_request.specs.Applied.{AppliedState}
use Rattle.rp_request.specs.declared.outcomes.Ambiguity.{Ambiguity}
use Rattle.rp_request.specs.declared.outcomes.Ambiguity.TheVariants as causes
use Rattle.rp_pending.specs.Proposals.{has_id, is_proposed}
use Rattle.rp_pending.specs.declared.proposals.Proposal.{Proposal}
use Rattle.rp_events.specs.declared.answers.Ended.{Ended}
use Rattle.rp_events.specs.declared.journals.JournalEntry.{JournalEntry}
use Rattle.rp_events.specs.declared.journals.PastEvent.{PastEvent}
use Rattle.rp_events.specs.declared.journals.PastEvent.TheVariants as past
use Rattle.rp_events.specs.declared.node_events.Event.{Event}
use Rattle.rp_events.specs.declared.node_events.Event.TheVariants as events
use Rattle.rp_events.specs.declared.replica_events.ReplicaEvent.{ReplicaEvent}
use Rattle.rp_events.specs.declared.replica_events.ReplicaEvent.TheVariants.{Admit, Ask, Transfer, Collect, Flush, Tick, Deliver, Apply, Cut, Remove, Peek, Restart}
use Rattle.rp_events.specs.Replicas.{Replica, Done, has_new_leader}
use Rattle.rp_events.specs.ReplicaEvents.{event}
use Rattle.rp_events.specs.Nodes.{Node, Status, Absent, Live, Removed, seat, opened, opened_by, after_turn, range_numbers}
use Rattle.rp_events.specs.NodeEvents.{status_after, after_replica, by_status, live_turn, all_turns, delivered, acted, step, with_request, past_of}
use Rattle.rp_events.specs.Worlds.{World, Scene, taken_in, happens}
use Rattle.rp_events.specs.Journals.{stood_before}
use Rattle.rp_events.specs.Lists.{IsWritten, IsAdmitted, StoodAs}
use Rattle.rp_events.specs.Promises.{IsProposedIn, CameWhileProposed, TookSnapshot, IsCaused, HasCause}
use Rattle.rp_journals.specs.Growth.{Grows, WorldGrows}
use Rattle.rp_journals.specs.Entries.{AllReadBack}
use Rattle.rp_journals.specs.Ended.{pending_at, IsFrom, AllFrom}
use Rattle.rp_journals.proofs.Lists.{get_begins, get_end, all_weaker}
use Rattle.rp_journals.proofs.Growing.{Happened, step_grows, scene_grows}
use Rattle.rp_journals.proofs.Reading.{entry_of, step_journal, reads_scene, stands_now}
use Rattle.rp_journals.proofs.Writing.{stood_later, now_is}
use Rattle.rp_journals.proofs.Staying.{written_stays, admitted_stays, stood_stays}
use Rattle.rp_journals.proofs.Balancing.{TotalOnce, once_in}
use Rattle.rp_journals.proofs.Coming.{all_found}
use Rattle.rp_journals.proofs.Causing.{EndWith, AllEndWith, ends_weaker, all_both, CausedBy, IsSelf, all_self, remove_ends, restart_ends, deliver_ends, IsQuiet, quiet_ends}

-- a cause stays one
came_stays : (w later : World) → AllReadBack w → WorldGrows w later → (id : CmdId) (node range place own : ℕ) (e : PastEvent) → CameWhileProposed w id node range place own e → CameWhileProposed later id node range place own e
came_stays w later reads g id node range place own e c =
    let within : place < length c.written.n.journal = slice_get_within c.written.n.journal place _ c.written.here in
    record {
      answer = c.answer;
      written = written_stays w later g node place _ c.written;
      replica = c.replica;
      stood = stood_stays w later reads g node c.written.n c.written.has place (omega (arith, within)) range c.replica c.stood;
      proposed = c.proposed;
    }

took_stays : (w later : World) → AllReadBack w → WorldGrows w later → (node range place passed : ℕ) (e : JournalEntry) → IsWritten w node place e → TookSnapshot w node range place passed → TookSnapshot later node range place passed
took_stays w later reads g node range place passed e is t =
    let within : place < length is.n.journal = slice_get_within is.n.journal place e is.here in
    record {
      before = t.before;
      stood = stood_stays w later reads g node is.n is.has place (omega (arith, within)) range t.before t.stood;
      after = t.after;
      stands = stood_stays w later reads g node is.n is.has (place + 1) (omega (arith, within)) range t.after t.stands;
      snapshot = t.snapshot;
      lai = t.lai;
    }

pub cause_stays : (w later : World) → AllReadBack w → WorldGrows w later → (id : CmdId) (why : Ambiguity) → HasCause w id why → HasCause later id why
cause_stays w later reads g id why h = record {
  node = h.node;
  admitted_at = h.admitted_at;
  range = h.range;
  request = h.request;
  admitted = admitted_stays w later g id h.node h.admitted_at h.range h.request h.admitted;
  place = h.place;
  behind = h.behind;
  caused = by_cause why h.caused;
} where
  by_cause : (why : Ambiguity) → IsCaused w id h.node h.range h.place why → IsCaused later id h.node h.range h.place why
  by_cause (causes.Snapshot own passed) c = (
    c.0,
    took_stays w later reads g h.node h.range h.place passed _ c.2.2.written c.1,
    (c.2.0, c.2.1, came_stays w later reads g id h.node h.range h.place own (past.Deliver c.2.0 c.2.1) c.2.2),
  )
  by_cause (causes.Removed own) c = came_stays w later reads g id h.node h.range h.place own (past.Remove h.range) c
  by_cause (causes.Restarted own) c = came_stays w later reads g id h.node h.range h.place own past.Restart c

-- what the events of a seat end at the node
module _ (C : CmdId → Ambiguity → Type 0) where
  opened_ends : (n : Node) (o : Option AppliedState) → AllEndWith C n.outcomes → AllEndWith C (opened n o).outcomes
  opened_ends n None h = h
  opened_ends n (Some s) h = go (seat n s.desc.id) where
    go : (status : Status) → AllEndWith C (opened_by n s status).outcomes
    go Absent = h
    go (Live r) = h
    go (Removed applied) = h

  replica_ends : (n : Node) (range : ℕ) (e : ReplicaEvent AppliedState) (d : Done) → AllEndWith C d.outcomes → AllEndWith C n.outcomes → AllEndWith C (after_replica n range e d).outcomes
  replica_ends n range e d new h =
      opened_ends (after_turn n range (status_after e d.replica) d) d.right (all_both (λ (x : Ended). EndWith C x.id x.outcome) n.outcomes d.outcomes h new)

  quiet_status : (n : Node) (range : ℕ) (e : ReplicaEvent AppliedState) → IsQuiet e → (taken : List Item) → AllEndWith C n.outcomes → (status : Status) → AllEndWith C (by_status n range e taken status).node.outcomes
  quiet_status n range e quiet taken h Absent = h
  quiet_status n range e quiet taken h (Live r) = replica_ends n range e (event r e n.ticks n.rounds taken) (quiet_ends C r e quiet n.ticks n.rounds taken) h
  quiet_status n range e quiet taken h (Removed applied) = h

  quiet_live : (n : Node) (range : ℕ) (e : ReplicaEvent AppliedState) → IsQuiet e → AllEndWith C n.outcomes → (status : Status) → AllEndWith C (live_turn e n range status).outcomes
  quiet_live n range e quiet h Absent = h
  quiet_live n range e quiet h (Live r) = replica_ends n range e (event r e n.ticks n.rounds []) (quiet_ends C r e quiet n.ticks n.rounds []) h
  quiet_live n range e quiet h (Removed applied) = h

  quiet_all : (e : ReplicaEvent AppliedState) → IsQuiet e → (ranges : List ℕ) (n : Node) → AllEndWith C n.outcomes → AllEndWith C (all_turns e n ranges).outcomes
  quiet_all e quiet [] n h = h
  quiet_all e quiet (range ∷ ranges) n h = quiet_all e quiet ranges (live_turn e n range (seat n range)) (quiet_live n range e quiet h (seat n range))

-- each later number is greater
abbrev IsAscending : List ℕ → Type 0
IsAscending [] = Unit {0}
IsAscending (x ∷ xs) = AllByRecursion (λ y. x < y) xs × IsAscending xs

-- what an event of the node may be the cause of
abbrev MayCause : Node → (CmdId → Ambiguity → Type 0) → Event AppliedState → Type 0
MayCause n C (events.Deliver from range number m) =
    (r : Replica) (id : CmdId) (why : Ambiguity) → seat n range ≡ Live r → CausedBy r (Deliver from m) (event r (Deliver from m) n.ticks n.rounds []).replica id why → C id why
MayCause n C (events.Remove range) = (r s : Replica) (id : CmdId) (why : Ambiguity) → seat n range ≡ Live r → CausedBy r Remove s id why → C id why
MayCause n C events.Restart = (range : ℕ) (r s : Replica) (id : CmdId) (why : Ambiguity) → seat n range ≡ Live r → CausedBy r Restart s id why → C id why
MayCause n C _ = Unit {0}

module _ (n : Node) (C : CmdId → Ambiguity → Type 0) (self : (range : ℕ) (r : Replica) → seat n range ≡ Live r → AllByRecursion (IsSelf r) r.pending) where
  -- a restart, seat by seat
  module _ (causes_of : (range : ℕ) (r s : Replica) (id : CmdId) (why : Ambiguity) → seat n range ≡ Live r → CausedBy r Restart s id why → C id why) where
    abbrev SameSeats : Node → List ℕ → Type 0
    SameSeats m ranges = AllByRecursion (λ k. seat m k ≡ seat n k) ranges

    live_restart : (m : Node) (range : ℕ) → seat m range ≡ seat n range → AllEndWith C m.outcomes → (status : Status) → seat m range ≡ status → AllEndWith C (live_turn Restart m range status).outcomes
    live_restart m range same h Absent is = h
    live_restart m range same h (Live r) is =
        let live : seat n range ≡ Live r = sym same ∙ is in
        let d : Done = event r Restart m.ticks m.rounds [] in
        replica_ends C m range Restart d
        (ends_weaker (CausedBy r Restart d.replica) C (λ id why c. causes_of range r d.replica id why live c) d.outcomes (restart_ends r (self range r live) m.ticks m.rounds [])) h
    live_restart m range same h (Removed applied) is = h

    other_seats : (m : Node) (range : ℕ) (ranges : List ℕ) → AllByRecursion (λ k. range < k) ranges → SameSeats m ranges → (status : Status) → SameSeats (live_turn Restart m range status) ranges
    other_seats m range ranges above same Absent = same
    other_seats m range ranges above same (Live r) = go ranges above same where
      go : (ranges : List ℕ) → AllByRecursion (λ k. range < k) ranges → SameSeats m ranges → SameSeats (live_turn Restart m range (Live r)) ranges
      go [] above same = tt
      go (k ∷ ranges) above same =
          (get_or-set_other m.seats range k (Live (event r Restart m.ticks m.rounds []).replica) Absent (λ e. less_apart range k above.0 (sym e)) ∙ same.0, go ranges above.1 same.1)
        where
          less_apart : (a b : ℕ) → a < b → a ≡ b → ⊥
          less_apart a b l e = omega (arith, l, e)
    other_seats m range ranges above same (Removed applied) = same

    all_restart : (ranges : List ℕ) → IsAscending ranges → (m : Node) → SameSeats m ranges → AllEndWith C m.outcomes → AllEndWith C (all_turns Restart m ranges).outcomes
    all_restart [] up m same h = h
    all_restart (range ∷ ranges) up m same h =
        all_restart ranges up.1 (live_turn Restart m range (seat m range)) (other_seats m range ranges up.0 same.1 (seat m range)) (live_restart m range same.0 h (seat m range) refl)

  acted_ends : (e : Event AppliedState) (taken : List Item) → MayCause n C e → AllEndWith C n.outcomes → AllEndWith C (acted n e taken).node.outcomes
  acted_ends (events.Admit range id request) taken may h = quiet_status C (with_request n request) range (Admit id request) tt [] h (seat n range)
  acted_ends (events.Ask range) taken may h = quiet_status C n range Ask tt [] h (seat n range)
  acted_ends (events.Transfer range to) taken may h = quiet_status C n range (Transfer to) tt [] h (seat n range)
  acted_ends (events.Collect range) taken may h = quiet_status C n range Collect tt taken h (seat n range)
  acted_ends (events.Flush range) taken may h = quiet_status C n range Flush tt [] h (seat n range)
  acted_ends events.Tick taken may h = quiet_all C Tick tt range_numbers (record n { ticks = n.ticks + 1 }) h
  acted_ends (events.Deliver from range number m) taken may h = go (seat n range) refl where
    go : (status : Status) → seat n range ≡ status → AllEndWith C (delivered n from range m status).outcomes
    go Absent is = h
    go (Live r) is =
        let d : Done = event r (Deliver from m) n.ticks n.rounds [] in
        replica_ends C n range (Deliver from m) d
        (ends_weaker (CausedBy r (Deliver from m) d.replica) C (λ id why c. may r id why is c) d.outcomes (deliver_ends r (self range r is) from m n.ticks n.rounds [])) h
    go (Removed applied) is = h
  acted_ends (events.Apply range) taken may h = quiet_status C n range Apply tt [] h (seat n range)
  acted_ends (events.Cut range) taken may h = quiet_status C n range Cut tt [] h (seat n range)
  acted_ends (events.Remove range) taken may h = go (seat n range) refl where
    go : (status : Status) → seat n range ≡ status → AllEndWith C (by_status n range Remove [] status).node.outcomes
    go Absent is = h
    go (Live r) is =
        let d : Done = event r Remove n.ticks n.rounds [] in
        replica_ends C n range Remove d
        (ends_weaker (CausedBy r Remove d.replica) C (λ id why c. may r d.replica id why is c) d.outcomes (remove_ends r (self range r is) n.ticks n.rounds [])) h
    go (Removed applied) is = h
  acted_ends (events.Peek range key) taken may h = quiet_status C n range (Peek key) tt [] h (seat n range)
  acted_ends events.Restart taken may h = all_restart may range_numbers ascending n same h where
    same : AllByRecursion (λ k. seat n k ≡ seat n k) range_numbers
    same = (refl, (refl, (refl, (refl, (refl, (refl, (refl, (refl, tt))))))))

    ascending : IsAscending range_numbers
    ascending = ((omega arith, (omega arith, (omega arith, (omega arith, (omega arith, (omega arith, (omega arith, tt))))))), ((omega arith, (omega arith, (omega arith, (omega arith, (omega arith, (omega arith, tt)))))), ((omega arith, (omega arith, (omega arith, (omega arith, (omega arith, tt))))), ((omega arith, (omega arith, (omega arith, (omega arith, tt)))), ((omega arith, (omega arith, (omega arith, tt))), ((omega arith, (omega arith, tt)), ((omega arith, tt), (tt, tt))))))))
  acted_ends events.Round taken may h = h

-- a live seat behind a message: no split is taken
abbrev OpensNone : Done → Type 0
OpensNone d = d.right ≡ None

message_opens : (r : Replica) (from : ℕ) (m : Message AppliedState) (ticks round : ℕ) (taken : List Item) → OpensNone (event r (Deliver from m) ticks round taken)
message_opens r from m ticks round taken = cond_both (has_new_leader r.raft.head (received r.raft from m).state.head) _ _ OpensNone (λ _. refl) (λ _. refl)

absent_live : (r : Replica) → ◌≡◌ {A = Status} Absent (Live r) → ⊥
absent_live r e = cc

message_seat : (n : Node) (from range number : ℕ) (m : Message AppliedState) (taken : List Item) (r : Replica) → seat n range ≡ Live r
    → seat (acted n (events.Deliver from range number m) taken).node range ≡ Live (event r (Deliver from m) n.ticks n.rounds []).replica
message_seat n from range number m taken r live =
    let d : Done = event r (Deliver from m) n.ticks n.rounds [] in
    let turned : Node = after_turn n range (Live d.replica) d in
    ap (λ s. seat (delivered n from range m s) range) live
    ∙ ap (λ o. seat (opened turned o) range) (message_opens r from m n.ticks n.rounds [])
    ∙ get_or-set_same n.seats range (Live d.replica) Absent within
  where
    within : range < length n.seats
    within = ⊎_elim
        (λ (l : range < length n.seats). l)
        (λ (past' : length n.seats ≤ range). absurd (absent_live r (sym (get_or_past n.seats range Absent past') ∙ live)))
        (cases_lt range (length n.seats))

-- what is found passes the test
pub found_passes : {X : Type 0} (test : X → Bool) (xs : List X) (x : X) → find test xs ≡ Some x → test x ≡ true
found_passes test [] x e = absurd cc
found_passes {X} test (z ∷ xs) x e = go (found_passes test xs x) (test z) refl e where
  some_is : (a b : X) → ◌≡◌ {A = Option X} (Some a) (Some b) → a ≡ b
  some_is a b e' = cc

  go : (find test xs ≡ Some x → test x ≡ true) → (b : Bool) → test z ≡ b → cond b (Some z) (find test xs) ≡ Some x → test x ≡ true
  go ih true is e' = subst (λ y. test y ≡ true) (some_is z x e') is
  go ih false is e' = ih e'

-- at a scene
module _ (w : World) (x : Scene) (k : Happened w x) (reads : AllReadBack w) (from : AllFrom w) where
  abbrev later : World
  later = happens w x

  abbrev new : Node
  new = (step k.n k.event (taken_in x.what)).node

  abbrev place : ℕ
  place = length k.n.journal

  before_is : stood_before later new place ≡ k.n
  before_is = stood_later w later reads (scene_grows w x) x.node k.n new k.has (now_is w x k) place (omega arith) ∙ stands_now w k.n (reads x.node k.n k.has)

  stood_here : (range : ℕ) (r : Replica) → seat k.n range ≡ Live r → StoodAs later x.node place range r
  stood_here range r live = record { n = new; has = now_is w x k; stood = ap (λ z. seat z range) before_is ∙ live }

  written_here : IsWritten later x.node place (entry_of k.n k.event (taken_in x.what))
  written_here = record {
    n = new;
    has = now_is w x k;
    here = ap (λ l. slice_get l place) (step_journal k.n k.event (taken_in x.what)) ∙ get_end k.n.journal (entry_of k.n k.event (taken_in x.what)) [];
  }

  came_here : (range : ℕ) (r : Replica) (id : CmdId) (own : ℕ) → seat k.n range ≡ Live r → IsProposedIn r id own → (e : PastEvent) → past_of k.n k.event (taken_in x.what) ≡ e
      → CameWhileProposed later id x.node range place own e
  came_here range r id own live proposed e is = record {
    answer = (step k.n k.event (taken_in x.what)).answer;
    written = subst (λ z. IsWritten later x.node place (record { event = z; answer = (step k.n k.event (taken_in x.what)).answer })) is written_here;
    replica = r;
    stood = stood_here range r live;
    proposed = proposed;
  }

  after_is : stood_before later new (place + 1) ≡ new
  after_is = ap (stood_before later new) longer ∙ stands_now later new (reads_scene w x reads x.node new (now_is w x k)) where
    longer : place + 1 ≡ length new.journal
    longer = sym (ap length (step_journal k.n k.event (taken_in x.what)) ∙ length-append k.n.journal (entry_of k.n k.event (taken_in x.what) ∷ []))

  cause_here : (range : ℕ) (r : Replica) (id : CmdId) (own : ℕ) (why : Ambiguity) → seat k.n range ≡ Live r → IsProposedIn r id own → IsCaused later id x.node range place why → HasCause later id why
  cause_here range r id own why live proposed caused =
      let p : Proposal = proposed.proposal in
      let here : IsFrom k.n range p = all_found (IsFrom k.n range) (has_id id) r.pending p
      (subst (λ s. AllByRecursion (IsFrom k.n range) (pending_at s)) live (from x.node k.n k.has range)) proposed.pending in
      let grown : Grows k.n new = step_grows k.n k.event (taken_in x.what) in
      let within : here.place < length k.n.journal = slice_get_within k.n.journal here.place _ here.here in
      record {
        node = x.node;
        admitted_at = here.place;
        range = range;
        request = p.request;
        admitted = subst (λ i. IsAdmitted later i x.node here.place range p.request) (sym (same_is id p.id (found_passes (has_id id) r.pending p proposed.pending)))
            (record {
              n = new;
              has = now_is w x k;
              at = here.at;
              here = get_begins k.n.journal new.journal grown.journal here.place _ here.here;
              asked = get_begins k.n.requests new.requests grown.requests here.at p.request here.asked;
            });
        place = place;
        behind = within;
        caused = caused;
      }

  -- whatever the event is
  cause_of : (e : Event AppliedState) → k.event ≡ e → MayCause k.n (HasCause later) e
  cause_of (events.Admit range id request) is = tt
  cause_of (events.Ask range) is = tt
  cause_of (events.Transfer range to) is = tt
  cause_of (events.Collect range) is = tt
  cause_of (events.Flush range) is = tt
  cause_of events.Tick is = tt
  cause_of (events.Deliver from range number m) is = λ r id why live caused. by_why r id why live caused where
    past_is : past_of k.n k.event (taken_in x.what) ≡ past.Deliver from number
    past_is = ap (λ e. past_of k.n e (taken_in x.what)) is

    by_why : (r : Replica) (id : CmdId) (why : Ambiguity) → seat k.n range ≡ Live r → CausedBy r (Deliver from m) (event r (Deliver from m) k.n.ticks k.n.rounds []).replica id why → HasCause later id why
    by_why r id (causes.Snapshot own passed) live c =
        let s : Replica = (event r (Deliver from m) k.n.ticks k.n.rounds []).replica in
        cause_here range r id own (causes.Snapshot own passed) live c.0 (
          c.1,
          record {
            before = r;
            stood = stood_here range r live;
            after = s;
            stands = record {
              n = new;
              has = now_is w x k;
              stood = ap (λ z. seat z range) after_is ∙ subst (λ e. seat (acted k.n e (taken_in x.what)).node range ≡ Live s) (sym is) (message_seat k.n from range number m (taken_in x.what) r live);
            };
            snapshot = c.2.is;
            lai = c.2.lai;
          },
          (from, number, came_here range r id own live c.0 (past.Deliver from number) past_is),
        )
    by_why r id (causes.Removed own) live c = absurd c
    by_why r id (causes.Restarted own) live c = absurd c
  cause_of (events.Apply range) is = tt
  cause_of (events.Cut range) is = tt
  cause_of (events.Remove range) is = λ r s id why live caused. by_why r s id why live caused where
    by_why : (r s : Replica) (id : CmdId) (why : Ambiguity) → seat k.n range ≡ Live r → CausedBy r Remove s id why → HasCause later id why
    by_why r s id (causes.Snapshot own passed) live c = absurd c
    by_why r s id (causes.Removed own) live c =
        cause_here range r id own (causes.Removed own) live c (came_here range r id own live c (past.Remove range) (ap (λ e. past_of k.n e (taken_in x.what)) is))
    by_why r s id (causes.Restarted own) live c = absurd c
  cause_of (events.Peek range key) is = tt
  cause_of events.Restart is = λ range r s id why live caused. by_why range r s id why live caused where
    by_why : (range : ℕ) (r s : Replica) (id : CmdId) (why : Ambiguity) → seat k.n range ≡ Live r → CausedBy r Restart s id why → HasCause later id why
    by_why range r s id (causes.Snapshot own passed) live c = absurd c
    by_why range r s id (causes.Removed own) live c = absurd c
    by_why range r s id (causes.Restarted own) live c =
        cause_here range r id own (causes.Restarted own) live c (came_here range r id own live c past.Restart (ap (λ e. past_of k.n e (taken_in x.what)) is))
  cause_of events.Round is = tt

  self_here : TotalOnce k.n → (range : ℕ) (r : Replica) → seat k.n range ≡ Live r → AllByRecursion (IsSelf r) r.pending
  self_here once range r live =
      all_self r (once_in k.n range r once live)
      (all_weaker (IsFrom k.n range) (λ (p : Proposal). is_proposed p.stage ≡ true → 0 < p.max) (λ p h. h.given) r.pending
      (subst (λ s. AllByRecursion (IsFrom k.n range) (pending_at s)) live (from x.node k.n k.has range)))

  pub new_ends : TotalOnce k.n → AllEndWith (HasCause later) k.n.outcomes → AllEndWith (HasCause later) new.outcomes
  new_ends once h = acted_ends k.n (HasCause later) (self_here once) k.event (taken_in x.what) (cause_of k.event refl) h
