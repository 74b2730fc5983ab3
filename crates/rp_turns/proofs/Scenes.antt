-- A scene as a turn of one range, by what it leaves of the node.
use Rattle.std.proofs.Common.{◌≡◌, ℕ, ◌<◌, ⊎_elim, true, false, cond, Option, None, Some, List, [], ◌∷◌, ◌++◌, map, length, refl, sym, ap, subst, ◌∙◌, arith}
use Rattle.std.specs.Prelude.{Contains, IsTrue}
use Rattle.std.specs.List.{find}
use Rattle.std.specs.Option.{option_map_or}
use Rattle.std.proofs.lemmas.Bool.{ne_eqb, cases_eq}
use Rattle.std.proofs.lemmas.List.{length-set}
use Rattle.rp_base.specs.declared.ids.CmdId.{CmdId}
use Rattle.rp_base.specs.declared.items.Item.{Item}
use Rattle.rp_request.specs.Applied.{AppliedState}
use Rattle.rp_request.specs.declared.outcomes.Outcome.{Outcome}
use Rattle.rp_raftsafe.specs.World as raft
use Rattle.rp_raftsafe.specs.Safety.{OneList}
use Rattle.rp_raftsafe.specs.Proposed.{payloads_of}
use Rattle.rp_rangesafe.specs.Attempts.{IsBorn}
use Rattle.rp_rangesafe.specs.World as machine
use Rattle.rp_rangesafe.specs.World.{AllLawful}
use Rattle.rp_rangesafe.specs.Ranges.{Ranges}
use Rattle.rp_rangesafe.proofs.Growth.{Admits, made_before}
use Rattle.rp_rangesafe.proofs.Joint.{range_reached}
use Rattle.rp_events.specs.declared.answers.Ended.{Ended}
use Rattle.rp_events.specs.declared.answers.EventAnswer.{EventAnswer}
use Rattle.rp_events.specs.declared.journals.JournalEntry.{JournalEntry}
use Rattle.rp_events.specs.declared.node_events.Event.{Event}
use Rattle.rp_events.specs.declared.replica_events.ReplicaEvent.{ReplicaEvent}
use Rattle.rp_events.specs.Replicas.{Replica, Done, started}
use Rattle.rp_events.specs.ReplicaEvents.{event}
use Rattle.rp_events.specs.Nodes.{Node, Status, Absent, Live, Removed, seat, with_seat, after_turn, opened, opened_by, right_base, right_base_term}
use Rattle.rp_events.specs.NodeEvents.{status_after, after_replica, acted, past_of, step}
use Rattle.rp_events.specs.Worlds.{World, Scene, node_of, with_node, event_of, taken_in, after_step, happens_at, happens, is_admission_of, outcome_at}
use Rattle.rp_events.specs.Lawful.{is_lawful}
use Rattle.rp_seats.specs.Scenes.{Doing, doings_of, starting, seen_by, node_doings, as_event, scene_doings, doings_in, raft_events}
use Rattle.rp_seats.specs.Standing.{SeatOk, RangeOk, Bound}
use Rattle.rp_seats.specs.Steps.{AdmitsNone, told_after}
use Rattle.rp_seats.specs.Turned.{SeatTurned, TurnOk}
use Rattle.rp_seats.proofs.Begins.{start_turn}
use Rattle.rp_seats.proofs.Nodes.{seat_same, seat_other, live_within, opens_above}
use Rattle.rp_seats.proofs.Outcomes.{all_told_so}
use Rattle.rp_seats.proofs.Scenes.{opened_seat, opened_journal, opened_outcomes, left_something, handed_seen, handed_start, scene_turn}
use Rattle.rp_seats.proofs.Seats.{quiet_turn}
use Rattle.rp_seats.proofs.Shaped.{length_with}
use Rattle.rp_turns.specs.Fitting.{AreFit}
use Rattle.rp_turns.specs.Turning.{RangeTurned}
use Rattle.rp_turns.proofs.Replicas.{MayHappen, event_turn}
use Rattle.rp_turns.proofs.Seated.{below, seated, lacks, starts}
use Rattle.rp_turns.proofs.Tells.{end_in, lacking, told_by, no_admission}

-- what was made in events that admit nothing was made before
admits_none : (e : machine.Event) (es : List machine.Event) → AdmitsNone (e ∷ es) → ((q : CmdId) → Admits e q → ⊥) × AdmitsNone es
admits_none (machine.Admit id node body) es k = absurd k
admits_none (machine.Flush id max) es k = ((λ q a. a), k)
admits_none (machine.Return id) es k = ((λ q a. a), k)
admits_none (machine.Refuse id) es k = ((λ q a. a), k)
admits_none (machine.Commit p) es k = ((λ q a. a), k)
admits_none (machine.Apply node) es k = ((λ q a. a), k)
admits_none (machine.Snapshot node to) es k = ((λ q a. a), k)
admits_none (machine.Remove node) es k = ((λ q a. a), k)
admits_none (machine.Restart node) es k = ((λ q a. a), k)

pub born_before : (h : machine.World) (es : List machine.Event) → AllLawful h es → AdmitsNone es → (q : CmdId) → IsBorn ((machine.run h es).attempt q).stage → IsBorn (h.attempt q).stage
born_before h [] lawful quiet q b = b
born_before h (e ∷ es) lawful quiet q b =
    let k = admits_none e es quiet in
    ⊎_elim (λ (was : IsBorn (h.attempt q).stage). was) (λ (now : Admits e q). absurd (k.0 q now))
    (made_before h e lawful.0 q (born_before (machine.happens h e) es lawful.1 k.1 q b))

module _ (lists : OneList AppliedState) (w : World) (m : Ranges) (seen : ℕ → List raft.Event) (b : Bound lists w m seen) (fit : AreFit w) (x : Scene) (lawful : IsTrue (is_lawful w x))
    (n : Node) (has : node_of w x.node ≡ Some n) (ev : Event AppliedState) (ev_is : event_of w x.what ≡ Some ev) where
  abbrev pub left : Node
  left = (acted n ev (taken_in x.what)).node

  abbrev pub new : Node
  new = (step n ev (taken_in x.what)).node

  abbrev pub entry_of : EventAnswer → JournalEntry
  entry_of a = record { event = past_of n ev (taken_in x.what); answer = a }

  pub happens_is : happens w x ≡ with_node w x.node new
  happens_is = ap (λ o. option_map_or (happens_at w x) o w) has ∙ ap (λ o. option_map_or (after_step w x.node n (taken_in x.what)) o w) ev_is

  pub same_length : length (happens w x) ≡ length w
  same_length = ap length happens_is ∙ length_with w x.node new

  pub doings_are : (range : ℕ) → doings_in range w x ≡ node_doings range n ev (taken_in x.what)
  doings_are range =
      ap (λ o. option_map_or (scene_doings range w x) o []) has
      ∙ ap (λ o. option_map_or (λ z. node_doings range n z (taken_in x.what)) o []) ev_is

  -- what the node tells, where its journal's entry is no admission of the attempt
  pub told_new : (q : CmdId) (os : List Ended) → left.journal ≡ n.journal → ((a : EventAnswer) → is_admission_of q (entry_of a) ≡ false) → end_in q left.outcomes ≡ end_in q os
      → outcome_at q new ≡ outcome_at q (record n { outcomes = os })
  told_new q os journal other ends =
      let a : EventAnswer = (acted n ev (taken_in x.what)).answer in
      told_by new (record n { outcomes = os }) q (ap (λ l. find (is_admission_of q) (l ++ entry_of a ∷ [])) journal ∙ no_admission n.journal (entry_of a) q (other a)) ends

  module _ (range : ℕ) (there : m.opened range ≡ true) where
    abbrev pub h : machine.World
    h = m.range range

    abbrev s : AppliedState
    s = (m.range range).start

    abbrev pub told : CmdId → Option Outcome
    told id = outcome_at id n

    pub ok : RangeOk lists (length w) range s (seen range) w h
    ok = b.ranges range there

    pub at_hand : SeatOk h x.node range (seat n range) told
    at_hand = ok.seats x.node n has

    abbrev pub Turned : Type 0
    Turned = RangeTurned lists range s (seen range ++ raft_events range w x) (happens w x) h x.node []

    abbrev pub Hands : List ℕ → List Doing → Type 0
    Hands bytes ds = Contains (payloads_of (map (as_event range w x.node) ds)) bytes

    of_turn : TurnOk lists (length w) range s (seen range ++ raft_events range w x) (happens w x) h x.node → Turned
    of_turn t = record {
      rest = t.events;
      lawful = t.lawful;
      quiet = t.quiet;
      elsewhere = t.elsewhere;
      range_ok = subst (λ k. RangeOk lists k range s (seen range ++ raft_events range w x) (happens w x) (machine.run h t.events)) (sym same_length) t.range_ok;
    }

    -- by the machine's part at the seat
    pub by_turn : (status : Status) (ended : List Ended) (proposed : List (List ℕ)) (turn : SeatTurned x.node range h told status ended proposed) → seat left range ≡ status
        → ((q : CmdId) → IsBorn ((machine.run h turn.events).attempt q).stage → outcome_at q new ≡ told_after told ended q)
        → ((bytes : List ℕ) → Hands bytes (node_doings range n ev (taken_in x.what)) → Contains proposed bytes) → Turned
    by_turn status ended proposed turn seat_is tells handed =
        of_turn (scene_turn lists range s (below lists w m seen b fit range there) (seen range) w b.shaped h ok (range_reached m b.reached range) x lawful (starts lists w m seen b fit x range)
        n has ev ev_is status ended proposed turn seat_is (λ q born. tells q born.0)
        (λ bytes c. handed bytes (subst (Hands bytes) (doings_are range) c)))

    -- a scene that leaves the seat, and tells nothing new of the range's attempts
    pub quiet_scene : seat left range ≡ seat n range → ((q : CmdId) → IsBorn (h.attempt q).stage → outcome_at q new ≡ outcome_at q n)
        → ((bytes : List ℕ) → Hands bytes (node_doings range n ev (taken_in x.what)) → ⊥) → Turned
    quiet_scene seat_is tells handed =
        let turn = quiet_turn x.node range h told (seat n range) at_hand in
        by_turn (seat n range) [] [] turn seat_is (λ q born. tells q (born_before h turn.events turn.lawful turn.quiet q born)) (λ bytes c. absurd (handed bytes c))

    -- the scene admits no attempt that was made in the range
    module _ (plain : (q : CmdId) → IsBorn (h.attempt q).stage → (a : EventAnswer) → is_admission_of q (entry_of a) ≡ false) where
      -- the node stays, but for its list of requests
      pub idle_scene : left.seats ≡ n.seats → left.outcomes ≡ n.outcomes → left.journal ≡ n.journal → ((bytes : List ℕ) → Hands bytes (node_doings range n ev (taken_in x.what)) → ⊥) → Turned
      idle_scene seats outcomes journal handed =
          quiet_scene (ap (λ l. seat (record n { seats = l }) range) seats) (λ q born. told_new q n.outcomes journal (plain q born) (ap (end_in q) outcomes)) handed

      -- an event of the range's own replica, and of another's
      module _ (at : ℕ) (e : ReplicaEvent AppliedState) (given : List Item) (r : Replica) (live : seat n at ≡ Live r) (may : MayHappen w at r e) where
        abbrev pub d : Done
        d = event r e n.ticks n.rounds given

        abbrev after : Node
        after = after_replica n at e d

        journal_is : after.journal ≡ n.journal
        journal_is = opened_journal (after_turn n at (status_after e d.replica) d) d.right

        outcomes_are : after.outcomes ≡ n.outcomes ++ d.outcomes
        outcomes_are = opened_outcomes (after_turn n at (status_after e d.replica) d) d.right

        -- what it leaves beside what an admission writes down
        module _ (seats : left.seats ≡ after.seats) (left_outcomes : left.outcomes ≡ after.outcomes) (left_journal : left.journal ≡ after.journal)
            (number : ℕ) (doings : node_doings range n ev (taken_in x.what) ≡ seen_by range at number r e d) where
          seat_left : (at : ℕ) → seat left at ≡ seat after at
          seat_left at = ap (λ l. seat (record n { seats = l }) at) seats

          own_scene : at ≡ range → Turned
          own_scene own = by_turn (status_after e d.replica) d.outcomes d.proposed turn
              (seat_left range ∙ opened_seat (after_turn n at (status_after e d.replica) d) d.right range (status_after e d.replica) (left_something e d.replica)
              (subst (λ i. seat (after_turn n i (status_after e d.replica) d) range ≡ status_after e d.replica) (sym own) (seat_same n range (status_after e d.replica) (live_within n range r live_here))))
              (λ q born. told_new q (n.outcomes ++ d.outcomes) (left_journal ∙ journal_is) (plain q (born_before h turn.events turn.lawful turn.quiet q born)) (ap (end_in q) (left_outcomes ∙ outcomes_are))
              ∙ all_told_so n d.outcomes (fit.ends x.node n has) turn.ends q)
              (λ bytes c. handed_seen range w x.node at number r e d bytes (subst (Hands bytes) doings c))
            where
              live_here : seat n range ≡ Live r
              live_here = subst (λ i. seat n i ≡ Live r) own live

              turn : SeatTurned x.node range h told (status_after e d.replica) d.outcomes d.proposed
              turn = event_turn lists range s (seen range) w h x.node n r (seated lists w m seen b fit x.node range n r has live_here) (fit.replicas x.node range n r has live_here) told
                  (subst (λ z. SeatOk h x.node range z told) live_here at_hand) e (subst (λ i. MayHappen w i r e) own may) n.ticks n.rounds given

          other_told : (at ≡ range → ⊥) → (q : CmdId) → IsBorn (h.attempt q).stage → outcome_at q new ≡ outcome_at q n
          other_told ne q born = told_new q n.outcomes (left_journal ∙ journal_is) (plain q born)
              (ap (end_in q) (left_outcomes ∙ outcomes_are) ∙ lacking q n.outcomes d.outcomes (lacks lists w m seen b fit x.node at range n r has live ne e may n.ticks n.rounds given q born))

          other_doings : (at ≡ range → ⊥) → (bytes : List ℕ) → Hands bytes (node_doings range n ev (taken_in x.what)) → ⊥
          other_doings ne bytes c =
              let k = handed_start range w x.node d.right [] bytes
              (subst (λ t. Hands bytes (cond t (doings_of number r e d.proposed) [] ++ starting range d.right)) (ne_eqb at range ne) (subst (Hands bytes) doings c)) in
              omega (arith, k.1)

          -- the start of the range, where it is the right one of a split
          other_scene : (at ≡ range → ⊥) → Turned
          other_scene ne = go d.right refl where
            base : Node
            base = after_turn n at (status_after e d.replica) d

            within : range < length base.seats
            within =
                let eight = (b.shaped.each x.node n has).eight in
                let lt = below lists w m seen b fit range there in
                let same = length-set n.seats at (status_after e d.replica) in
                omega (arith, eight, lt, same)

            base_seat : seat base range ≡ seat n range
            base_seat = seat_other n at range (status_after e d.replica) ne

            same : (o : Option AppliedState) → seat (opened base o) range ≡ seat n range → d.right ≡ o → Turned
            same o k is = quiet_scene (seat_left range ∙ ap (λ z. seat (opened base z) range) is ∙ k) (other_told ne) (other_doings ne)

            go : (o : Option AppliedState) → d.right ≡ o → Turned
            go None is = same None base_seat is
            go (Some t) is = ⊎_elim
                (λ (own : t.desc.id ≡ range). by_seat own (seat n range) refl)
                (λ (apart : t.desc.id ≡ range → ⊥). same (Some t) (elsewhere apart (seat base t.desc.id)) is)
                (cases_eq t.desc.id range)
              where
                elsewhere : (t.desc.id ≡ range → ⊥) → (status : Status) → seat (opened_by base t status) range ≡ seat n range
                elsewhere apart Absent = seat_other base t.desc.id range (Live (started base.node base.nodes t.lease.holder right_base right_base_term t)) apart ∙ base_seat
                elsewhere apart (Live q) = base_seat
                elsewhere apart (Removed applied) = base_seat

                by_seat : t.desc.id ≡ range → (status : Status) → seat n range ≡ status → Turned
                by_seat own Absent is' =
                    let turn = start_turn x.node range h told (subst (λ i. 0 < i) own (opens_above r e n.ticks n.rounds given t is)) (subst (λ z. SeatOk h x.node range z told) is' at_hand) n.node n.nodes t.lease.holder t in
                    by_turn (Live begun) [] [] turn
                    (seat_left range ∙ ap (λ z. seat (opened base z) range) is ∙ ap (λ i. seat (opened_by base t (seat base i)) range) own
                    ∙ ap (λ z. seat (opened_by base t z) range) (base_seat ∙ is')
                    ∙ ap (λ i. seat (with_seat base i (Live begun)) range) own
                    ∙ seat_same base range (Live begun) within)
                    (λ q born. other_told ne q (born_before h turn.events turn.lawful turn.quiet q born))
                    (λ bytes c. absurd (other_doings ne bytes c))
                  where
                    begun : Replica
                    begun = started n.node n.nodes t.lease.holder right_base right_base_term t
                by_seat own (Live q) is' = same (Some t) (ap (λ i. seat (opened_by base t (seat base i)) range) own ∙ ap (λ z. seat (opened_by base t z) range) (base_seat ∙ is') ∙ base_seat) is
                by_seat own (Removed applied) is' = same (Some t) (ap (λ i. seat (opened_by base t (seat base i)) range) own ∙ ap (λ z. seat (opened_by base t z) range) (base_seat ∙ is') ∙ base_seat) is

          pub replica_scene : Turned
          replica_scene = ⊎_elim (λ (own : at ≡ range). own_scene own) (λ (ne : at ≡ range → ⊥). other_scene ne) (cases_eq at range)
