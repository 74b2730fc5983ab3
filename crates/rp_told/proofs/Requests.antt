-- For what attempts were asked, after a lawful scene.
use Rattle.std.proofs.Common.{◌≡◌, ⊎_elim, ℕ, zero, suc, Bool, true, false, cond, Option, None, Some, [], ◌∷◌, ◌++◌, length, refl, sym, ap, subst, ◌∙◌}
use Rattle.std.specs.Prelude.{◌||◌, slice_get, option_and_then}
use Rattle.std.specs.List.{find}
use Rattle.std.proofs.lemmas.Bool.{cases_eq}
use Rattle.rp_base.specs.declared.ids.CmdId.{CmdId}
use Rattle.rp_base.proofs.IdLaws.{same_is, same_itself}
use Rattle.rp_request.specs.Applied.{AppliedState}
use Rattle.rp_request.specs.declared.requests.Request.{Request}
use Rattle.rp_events.specs.declared.journals.JournalEntry.{JournalEntry}
use Rattle.rp_events.specs.declared.journals.PastEvent.{PastEvent}
use Rattle.rp_events.specs.declared.journals.PastEvent.TheVariants as past
use Rattle.rp_events.specs.declared.node_events.Event.{Event}
use Rattle.rp_events.specs.declared.node_events.Event.TheVariants as events
use Rattle.rp_events.specs.declared.replica_events.ReplicaEvent.{ReplicaEvent}
use Rattle.rp_events.specs.declared.replica_events.ReplicaEvent.TheVariants as at_replica
use Rattle.rp_events.specs.Replicas.{Done}
use Rattle.rp_events.specs.ReplicaEvents.{event}
use Rattle.rp_events.specs.Nodes.{Node, Status, Absent, Live, Removed, seat, opened, opened_by, after_turn}
use Rattle.rp_events.specs.NodeEvents.{step, past_of, by_status, status_after, with_request}
use Rattle.rp_events.specs.Worlds as worlds
use Rattle.rp_events.specs.Worlds.{World, Scene, Happening, node_of, event_of, taken_in, happens, is_admission_of, asked_at, was_asked, request_of, asked_request_at, asked_request}
use Rattle.rp_events.specs.Lawful.{IsReached}
use Rattle.rp_journals.specs.Asked.{AskedOnce}
use Rattle.rp_journals.specs.Entries.{IsRead}
use Rattle.rp_journals.proofs.Asking.{asked_once}
use Rattle.rp_journals.proofs.Coming.{all_found}
use Rattle.rp_journals.proofs.Ending.{found_passes}
use Rattle.rp_journals.proofs.Growing.{one_node}
use Rattle.rp_journals.proofs.Lists.{found_front, get_end}
use Rattle.rp_journals.proofs.Reading.{mapped_some, reads_back}
use Rattle.rp_journals.proofs.Staying.{requests_stay}
use Rattle.rp_journals.proofs.Telling.{found_place}
use Rattle.rp_journals.proofs.Waiting.{any_place, found_any}
use Rattle.rp_told.specs.Turns.{Turns}
use Rattle.rp_told.specs.Outcomes.{asks, begun_request}
use Rattle.rp_told.proofs.Finding.{found_some, found_none, find_behind}
use Rattle.rp_told.proofs.Turning.{turned, others_stay, turn_grows, reached_by}
use Rattle.rp_told.proofs.Asks.{written, journal_is, written_asks, asked_now, was_asked_now}
use Rattle.rp_told.proofs.Telling.{new_here}

-- an admission puts its request at the end of the list
opened_requests : (n : Node) (o : Option AppliedState) → (opened n o).requests ≡ n.requests
opened_requests n None = refl
opened_requests n (Some s) = go (seat n s.desc.id) where
  go : (status : Status) → (opened_by n s status).requests ≡ n.requests
  go Absent = refl
  go (Live r) = refl
  go (Removed applied) = refl

seat_requests : (n : Node) (range : ℕ) (e : ReplicaEvent AppliedState) (s : Status) → (by_status n range e [] s).node.requests ≡ n.requests
seat_requests n range e Absent = refl
seat_requests n range e (Live r) =
    let d : Done = event r e n.ticks n.rounds [] in
    opened_requests (after_turn n range (status_after e d.replica) d) d.right
seat_requests n range e (Removed applied) = refl

-- at the node that was asked
find_here : (w : World) → AskedOnce w → (id : CmdId) (node : ℕ) (n : Node) → node_of w node ≡ Some n → asked_at id n ≡ true → asked_request w id ≡ asked_request_at id n
find_here w once id zero n has asked = absurd (none_some has)
  where
    none_some : ◌≡◌ {A = Option Node} None (Some n) → ⊥
    none_some e = cc
find_here w once id (suc place) n has asked =
    let f = found_any (asked_at id) w place n has asked in
    let at = found_place (asked_at id) w f.0 f.1 in
    let first = any_place (is_admission_of id) f.0.journal (found_passes (asked_at id) w f.0 f.1) in
    let this = any_place (is_admission_of id) n.journal asked in
    let same = once id (suc place) this.0 this.1 (record { n = n; has = has; here = this.2 }) this.3 (suc at.0) first.0 first.1 (record { n = f.0; has = at.1; here = first.2 }) first.3 in
    ap (option_and_then (asked_request_at id)) f.1
    ∙ ap (asked_request_at id) (one_node w (suc place) f.0 n (subst (λ k. node_of w k ≡ Some f.0) same.0 at.1) has)

-- what was asked for
begun_by : (id : CmdId) (what : Happening) (before : Option Request) → asks id what ≡ false → begun_request id what before ≡ before
begun_by id (worlds.Admit range other request) before none = ap (λ b. cond b (Some request) before) none
begun_by id (worlds.Ask range) before none = refl
begun_by id (worlds.Transfer range to) before none = refl
begun_by id (worlds.Collect range given) before none = refl
begun_by id (worlds.Flush range) before none = refl
begun_by id worlds.Tick before none = refl
begun_by id (worlds.Deliver from number) before none = refl
begun_by id (worlds.Apply range) before none = refl
begun_by id (worlds.Cut range) before none = refl
begun_by id (worlds.Remove range) before none = refl
begun_by id (worlds.Peek range key) before none = refl
begun_by id worlds.Restart before none = refl
begun_by id worlds.Round before none = refl

module _ (nodes : ℕ) (w : World) (r : IsReached nodes w) (x : Scene) (n now : Node) (t : Turns w x n now) (id : CmdId) where
  abbrev later : World
  later = happens w x

  once : AskedOnce w
  once = asked_once nodes w r

  once_later : AskedOnce later
  once_later = asked_once nodes later (reached_by nodes w r x t.lawful)

  -- an entry that is read asks for the same later
  same_entry : (e : PastEvent) → IsRead w n.requests e → request_of now e ≡ request_of n e
  same_entry (past.Admit range other place) read =
      let k = mapped_some (λ (request : Request). events.Admit range other request) (slice_get n.requests place) read.event read.is in
      requests_stay n now (turn_grows w x n now t) place k.0 k.1 ∙ sym k.1
  same_entry (past.Ask range) read = refl
  same_entry (past.Transfer range to) read = refl
  same_entry (past.Collect range taken) read = refl
  same_entry (past.Flush range) read = refl
  same_entry past.Tick read = refl
  same_entry (past.Deliver from number) read = refl
  same_entry (past.Apply range) read = refl
  same_entry (past.Cut range) read = refl
  same_entry (past.Remove range) read = refl
  same_entry (past.Peek range key) read = refl
  same_entry past.Restart read = refl
  same_entry (past.Round sent) read = refl

  here : asked_at id n ≡ true → asks id x.what ≡ false → asked_request later id ≡ asked_request w id
  here asked none =
      let f = found_some (is_admission_of id) n.journal asked in
      let asked_later : asked_at id now ≡ true = asked_now w x n now t id ∙ ap (λ b. b || asked_at id n) none ∙ asked in
      find_here later once_later id x.node now t.left asked_later
      ∙ ap (option_and_then (λ (e : JournalEntry). request_of now e.event)) (ap (find (is_admission_of id)) (journal_is w x n now t) ∙ found_front (is_admission_of id) n.journal _ f.0 f.1)
      ∙ same_entry f.0.event (all_found (λ (e : JournalEntry). IsRead w n.requests e.event) (is_admission_of id) n.journal f.0 (reads_back nodes w r x.node n t.has).all f.1)
      ∙ sym (find_here w once id x.node n t.has asked ∙ ap (option_and_then (λ (e : JournalEntry). request_of n e.event)) f.1)

  known : was_asked w id ≡ true → asks id x.what ≡ false → asked_request later id ≡ asked_request w id
  known was none =
      let f = found_some (asked_at id) w was in
      let p = found_place (asked_at id) w f.0 f.1 in
      let asked : asked_at id f.0 ≡ true = found_passes (asked_at id) w f.0 f.1 in
      ⊎_elim
      (λ (same : suc p.0 ≡ x.node). here (subst (λ (m : Node). asked_at id m ≡ true) (one_node w x.node f.0 n (subst (λ k. node_of w k ≡ Some f.0) same p.1) t.has) asked) none)
      (λ (ne : suc p.0 ≡ x.node → ⊥).
      find_here later once_later id (suc p.0) f.0 (others_stay w x (suc p.0) ne ∙ p.1) asked
      ∙ sym (find_here w once id (suc p.0) f.0 p.1 asked))
      (cases_eq (suc p.0) x.node)

  not_asked : (b : Bool) → was_asked w id ≡ b → asks id x.what ≡ false → asked_request later id ≡ asked_request w id
  not_asked true was none = known was none
  not_asked false was none =
      ap (option_and_then (asked_request_at id)) (found_none (asked_at id) later (was_asked_now w x n now t id ∙ ap (λ b. b || was_asked w id) none ∙ was))
      ∙ sym (ap (option_and_then (asked_request_at id)) (found_none (asked_at id) w was))

  -- the attempt that asks
  some_event : (a b : Event AppliedState) → ◌≡◌ {A = Option (Event AppliedState)} (Some a) (Some b) → a ≡ b
  some_event a b e = cc

  asking : (range : ℕ) (request : Request) → x.what ≡ worlds.Admit range id request → asked_request later id ≡ Some request
  asking range request is =
      let asks_now : asks id x.what ≡ true = ap (asks id) is ∙ same_itself id in
      let asked : asked_at id now ≡ true = asked_now w x n now t id ∙ ap (λ b. b || asked_at id n) asks_now in
      find_here later once_later id x.node now t.left asked
      ∙ ap (option_and_then (λ (e : JournalEntry). request_of now e.event))
      (ap (find (is_admission_of id)) (journal_is w x n now t)
      ∙ find_behind (is_admission_of id) n.journal (written w x n now t ∷ []) (found_none (is_admission_of id) n.journal (new_here nodes w r x n now t id asks_now))
      ∙ ap (λ b. cond b (Some (written w x n now t)) None) (written_asks w x n now t id ∙ asks_now))
      ∙ ap (λ e. request_of now (past_of n e (taken_in x.what))) event_is
      ∙ ap (λ l. slice_get l (length n.requests)) requests_are
      ∙ get_end n.requests request []
    where
      event_is : (turned w x n now t).event ≡ events.Admit range id request
      event_is = some_event _ _ (sym (turned w x n now t).came ∙ ap (event_of w) is)

      requests_are : now.requests ≡ n.requests ++ request ∷ []
      requests_are =
          ap (λ (z : Node). z.requests) ((turned w x n now t).is ∙ ap (λ e. (step n e (taken_in x.what)).node) event_is)
          ∙ seat_requests (with_request n request) range (at_replica.Admit id request) (seat n range)

  by_what : (what : Happening) → x.what ≡ what → asks id what ≡ true → asked_request later id ≡ begun_request id what (asked_request w id)
  by_what (worlds.Admit range other request) is a =
      asking range request (is ∙ ap (λ i. worlds.Admit range i request) (same_is other id a)) ∙ sym (ap (λ b. cond b (Some request) (asked_request w id)) a)
  by_what (worlds.Ask range) is a = absurd cc
  by_what (worlds.Transfer range to) is a = absurd cc
  by_what (worlds.Collect range given) is a = absurd cc
  by_what (worlds.Flush range) is a = absurd cc
  by_what worlds.Tick is a = absurd cc
  by_what (worlds.Deliver from number) is a = absurd cc
  by_what (worlds.Apply range) is a = absurd cc
  by_what (worlds.Cut range) is a = absurd cc
  by_what (worlds.Remove range) is a = absurd cc
  by_what (worlds.Peek range key) is a = absurd cc
  by_what worlds.Restart is a = absurd cc
  by_what worlds.Round is a = absurd cc

  by_asks : (b : Bool) → asks id x.what ≡ b → asked_request later id ≡ begun_request id x.what (asked_request w id)
  by_asks true a = by_what x.what refl a
  by_asks false a = not_asked (was_asked w id) refl a ∙ sym (begun_by id x.what (asked_request w id) a)

pub request_now : (nodes : ℕ) (w : World) → IsReached nodes w → (x : Scene) (n now : Node) → Turns w x n now → (id : CmdId)
    → asked_request (happens w x) id ≡ begun_request id x.what (asked_request w id)
request_now nodes w r x n now t id = by_asks nodes w r x n now t id (asks id x.what) refl
