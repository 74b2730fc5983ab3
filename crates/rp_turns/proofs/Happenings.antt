-- Each kind of scene that admits nothing as a turn of one range.
use Rattle.std.proofs.Common.{◌≡◌, ℕ, ◌<◌, ⊎_elim, true, false, eqb, None, Some, List, [], ◌∷◌, ◌++◌, length, refl, sym, ap, subst, ◌∙◌, arith}
use Rattle.std.specs.Prelude.{IsTrue}
use Rattle.std.proofs.lemmas.Bool.{cond_both, cases_eq}
use Rattle.rp_base.specs.declared.ids.CmdId.{CmdId}
use Rattle.rp_base.specs.declared.items.Item.{Item}
use Rattle.rp_raftstep.specs.declared.messages.Message.{Message}
use Rattle.rp_raftstep.specs.declared.messages.Message.TheVariants as messages
use Rattle.rp_request.specs.Applied.{AppliedState}
use Rattle.rp_raftsafe.specs.World as raft
use Rattle.rp_raftsafe.specs.Safety.{OneList, HasSent}
use Rattle.rp_rangesafe.specs.Attempts.{IsBorn}
use Rattle.rp_rangesafe.specs.Ranges.{Ranges}
use Rattle.rp_events.specs.declared.answers.EventAnswer.{EventAnswer}
use Rattle.rp_events.specs.declared.node_events.Event.{Event}
use Rattle.rp_events.specs.declared.parcels.Parcel.{Parcel}
use Rattle.rp_events.specs.declared.replica_events.ReplicaEvent.{ReplicaEvent}
use Rattle.rp_events.specs.declared.replica_events.ReplicaEvent.TheVariants.{Deliver}
use Rattle.rp_events.specs.Replicas.{Replica, Done, made_by_snap}
use Rattle.rp_events.specs.ReplicaEvents.{event}
use Rattle.rp_events.specs.Nodes.{Node, Status, Absent, Live, Removed, seat, with_seat, parcel_of, range_numbers}
use Rattle.rp_events.specs.NodeEvents.{status_after, after_replica, by_status, all_turns, delivered, answered_absent, seat_by_message, acted}
use Rattle.rp_events.specs.Worlds.{World, Scene, node_of, sent_by, event_of, taken_in, is_admission_of, outcome_at}
use Rattle.rp_events.specs.Lists.{base_of}
use Rattle.rp_events.specs.Lawful.{is_lawful}
use Rattle.rp_seats.specs.Scenes.{Doing, Gets, seat_doings, all_doings, message_doings, node_doings}
use Rattle.rp_seats.specs.Standing.{SeatOk, Bound}
use Rattle.rp_seats.specs.Turned.{SeatTurned, IsJump}
use Rattle.rp_seats.specs.Views.{range_at}
use Rattle.rp_seats.proofs.Begins.{made_turn}
use Rattle.rp_seats.proofs.Jumps.{parcel_sent, snapshot_known}
use Rattle.rp_seats.proofs.Nodes.{seat_same, seat_other}
use Rattle.rp_seats.proofs.Outcomes.{all_told_so}
use Rattle.rp_turns.specs.Fitting.{AreFit}
use Rattle.rp_turns.proofs.All as all
use Rattle.rp_turns.proofs.All.{each_once, numbers_once}
use Rattle.rp_turns.proofs.Replicas.{MayHappen, event_turn}
use Rattle.rp_turns.proofs.Scenes as scenes
use Rattle.rp_turns.proofs.Scenes.{born_before}
use Rattle.rp_turns.proofs.Seated.{below, seated, lacks}
use Rattle.rp_turns.proofs.Tells.{end_in}

module _ (lists : OneList AppliedState) (w : World) (m : Ranges) (seen : ℕ → List raft.Event) (b : Bound lists w m seen) (fit : AreFit w) (x : Scene) (lawful : IsTrue (is_lawful w x))
    (n : Node) (has : node_of w x.node ≡ Some n) (ev : Event AppliedState) (ev_is : event_of w x.what ≡ Some ev) (range : ℕ) (there : m.opened range ≡ true) where
  abbrev taken : List Item
  taken = taken_in x.what

  abbrev left : Node
  left = (acted n ev taken).node

  abbrev Turned : Type 0
  Turned = scenes.Turned lists w m seen b fit x lawful n has ev ev_is range there

  abbrev Hands : List ℕ → List Doing → Type 0
  Hands = scenes.Hands lists w m seen b fit x lawful n has ev ev_is range there

  abbrev Plain : Type 0
  Plain = (q : CmdId) → IsBorn ((m.range range).attempt q).stage → (a : EventAnswer) → is_admission_of q (scenes.entry_of lists w m seen b fit x lawful n has ev ev_is a) ≡ false

  no_payload : (ds : List Doing) → ds ≡ [] → (bytes : List ℕ) → Hands bytes ds → ⊥
  no_payload ds is bytes c = let k = subst (Hands bytes) is c in omega (arith, k.1)

  -- an event of one seat
  pub one_seat : Plain → (at : ℕ) (e : ReplicaEvent AppliedState) (given : List Item) → ((r : Replica) → seat n at ≡ Live r → MayHappen w at r e)
      → left ≡ (by_status n at e given (seat n at)).node → node_doings range n ev taken ≡ seat_doings range n at 0 e given (seat n at) → Turned
  one_seat plain at e given may acts doings = go (seat n at) refl where
    idle : (status : Status) → (by_status n at e given status).node ≡ n → seat_doings range n at 0 e given status ≡ [] → seat n at ≡ status → Turned
    idle status stays nothing is =
        let same : left ≡ n = acts ∙ ap (λ z. (by_status n at e given z).node) is ∙ stays in
        scenes.idle_scene lists w m seen b fit x lawful n has ev ev_is range there plain (ap (λ (z : Node). z.seats) same) (ap (λ (z : Node). z.outcomes) same) (ap (λ (z : Node). z.journal) same)
        (no_payload (node_doings range n ev taken) (doings ∙ ap (seat_doings range n at 0 e given) is ∙ nothing))

    go : (status : Status) → seat n at ≡ status → Turned
    go Absent is = idle Absent refl refl is
    go (Live r) is =
        let same : left ≡ after_replica n at e (event r e n.ticks n.rounds given) = acts ∙ ap (λ z. (by_status n at e given z).node) is in
        scenes.replica_scene lists w m seen b fit x lawful n has ev ev_is range there plain at e given r is (may r is) (ap (λ (z : Node). z.seats) same) (ap (λ (z : Node). z.outcomes) same) (ap (λ (z : Node). z.journal) same)
        0 (doings ∙ ap (seat_doings range n at 0 e given) is)
    go (Removed applied) is = idle (Removed applied) refl refl is

  -- a message
  module _ (from number at to : ℕ) (msg : Message AppliedState) (sent : parcel_of (sent_by w from) number ≡ Some (record { to = to; range = at; message = msg }))
      (acts : left ≡ delivered n from at msg (seat n at)) (doings : node_doings range n ev taken ≡ message_doings range n at from number msg (seat n at)) (plain : Plain) where
    abbrev answering : Node
    answering = answered_absent n at from msg

    within : range < length n.seats
    within = let eight = (b.shaped.each x.node n has).eight in let lt = below lists w m seen b fit range there in omega (arith, eight, lt)

    bare_told : left ≡ answering → (q : CmdId) → IsBorn ((m.range range).attempt q).stage → outcome_at q (scenes.new lists w m seen b fit x lawful n has ev ev_is) ≡ outcome_at q n
    bare_told is q born = scenes.told_new lists w m seen b fit x lawful n has ev ev_is q n.outcomes (ap (λ (z : Node). z.journal) is) (plain q born) (ap (λ (z : Node). end_in q z.outcomes) is)

    bare_doings : seat n at ≡ Absent → (bytes : List ℕ) → Hands bytes (node_doings range n ev taken) → ⊥
    bare_doings is bytes c =
        cond_both (eqb at range) (Gets from number msg [] ∷ []) [] (λ ds. Hands bytes ds → ⊥) (λ _ k. absurd (omega (arith, k.1))) (λ _ k. absurd (omega (arith, k.1)))
        (subst (Hands bytes) (doings ∙ ap (message_doings range n at from number msg) is) c)

    -- it makes nothing
    stays_bare : seat n at ≡ Absent → left ≡ answering → seat_by_message n from msg ≡ Absent → Turned
    stays_bare is left_is none =
        scenes.quiet_scene lists w m seen b fit x lawful n has ev ev_is range there
        (ap (λ (z : Node). seat z range) left_is ∙ ⊎_elim
        (λ (own : at ≡ range). ap (λ i. seat (with_seat n i (seat_by_message n from msg)) range) own ∙ seat_same n range (seat_by_message n from msg) within ∙ none ∙ sym (subst (λ i. seat n i ≡ Absent) own is))
        (λ (ne : at ≡ range → ⊥). seat_other n at range (seat_by_message n from msg) ne) (cases_eq at range))
        (bare_told left_is) (bare_doings is)

    elsewhere : (at ≡ range → ⊥) → seat n at ≡ Absent → left ≡ answering → Turned
    elsewhere ne is left_is =
        scenes.quiet_scene lists w m seen b fit x lawful n has ev ev_is range there (ap (λ (z : Node). seat z range) left_is ∙ seat_other n at range (seat_by_message n from msg) ne)
        (bare_told left_is) (bare_doings is)

    -- a snapshot makes a replica
    made : (term index index_term : ℕ) (snapshot : AppliedState) → msg ≡ messages.Snap term index index_term snapshot → at ≡ range → seat n at ≡ Absent → left ≡ answering → Turned
    made term index index_term snapshot is own bare left_is =
        let turn = made_turn x.node range (m.range range) (λ id. outcome_at id n)
        (subst (λ z. SeatOk (m.range range) x.node range z (λ id. outcome_at id n)) (subst (λ i. seat n i ≡ Absent) own bare) ((b.ranges range there).seats x.node n has)) index snapshot jump n.node n.nodes term from index_term in
        scenes.by_turn lists w m seen b fit x lawful n has ev ev_is range there (Live (made_by_snap n.node n.nodes term from index index_term snapshot)) [] [] turn
        (ap (λ (z : Node). seat z range) left_is ∙ ap (λ i. seat (with_seat n i (seat_by_message n from msg)) range) own ∙ seat_same n range (seat_by_message n from msg) within ∙ ap (seat_by_message n from) is)
        (λ q born. bare_told left_is q (born_before (m.range range) turn.events turn.lawful turn.quiet q born))
        (λ bytes c. absurd (bare_doings bare bytes c))
      where
        own_parcel : Parcel AppliedState
        own_parcel = record { to = to; range = at; message = msg }

        sent_so : HasSent (raft.world_after (range_at (length w) range (m.range range).start) (seen range)) from to msg
        sent_so = parcel_sent (length w) range (m.range range).start (lists (range_at (length w) range (m.range range).start) (b.ranges range there).is) (seen range) w (m.range range) (b.ranges range there).raft
            from number own_parcel sent own

        jump : IsJump (m.range range) (base_of range) index snapshot
        jump = snapshot_known (length w) range (m.range range).start (lists (range_at (length w) range (m.range range).start) (b.ranges range there).is) (seen range) w (m.range range) (b.ranges range there).raft
            from to term index index_term snapshot (subst (HasSent (raft.world_after (range_at (length w) range (m.range range).start) (seen range)) from to) is sent_so)

    pub message_scene : Turned
    message_scene = go (seat n at) refl where
      by_message : (msg' : Message AppliedState) → msg ≡ msg' → at ≡ range → seat n at ≡ Absent → left ≡ answering → Turned
      by_message (messages.Vote term i t) is own bare left_is = stays_bare bare left_is (ap (seat_by_message n from) is)
      by_message (messages.VoteReply term granted) is own bare left_is = stays_bare bare left_is (ap (seat_by_message n from) is)
      by_message (messages.Append term prev pt es commit) is own bare left_is = stays_bare bare left_is (ap (seat_by_message n from) is)
      by_message (messages.AppendReply term done i) is own bare left_is = stays_bare bare left_is (ap (seat_by_message n from) is)
      by_message (messages.Forward payload) is own bare left_is = stays_bare bare left_is (ap (seat_by_message n from) is)
      by_message (messages.Snap term index index_term snapshot) is own bare left_is = made term index index_term snapshot is own bare left_is

      go : (status : Status) → seat n at ≡ status → Turned
      go Absent is = ⊎_elim
          (λ (own : at ≡ range). by_message msg refl own is (acts ∙ ap (delivered n from at msg) is))
          (λ (ne : at ≡ range → ⊥). elsewhere ne is (acts ∙ ap (delivered n from at msg) is)) (cases_eq at range)
      go (Live r) is =
          let same : left ≡ after_replica n at (Deliver from msg) (event r (Deliver from msg) n.ticks n.rounds []) = acts ∙ ap (delivered n from at msg) is in
          scenes.replica_scene lists w m seen b fit x lawful n has ev ev_is range there plain at (Deliver from msg) [] r is (number, to, sent)
          (ap (λ (z : Node). z.seats) same) (ap (λ (z : Node). z.outcomes) same) (ap (λ (z : Node). z.journal) same) number (doings ∙ ap (message_doings range n at from number msg) is)
      go (Removed applied) is =
          let same : left ≡ n = acts ∙ ap (delivered n from at msg) is in
          scenes.idle_scene lists w m seen b fit x lawful n has ev ev_is range there plain (ap (λ (z : Node). z.seats) same) (ap (λ (z : Node). z.outcomes) same) (ap (λ (z : Node). z.journal) same)
          (no_payload (node_doings range n ev taken) (doings ∙ ap (message_doings range n at from number msg) is))

  -- an event of each replica, at a tick of the node
  module _ (e : ReplicaEvent AppliedState) (none : (r : Replica) (ticks round : ℕ) → (event r e ticks round []).right ≡ None) (may : (at : ℕ) (r : Replica) → MayHappen w at r e) (ticks : ℕ)
      (acts : left ≡ all_turns e (record n { ticks = ticks }) range_numbers) (doings : node_doings range n ev taken ≡ all_doings range e (record n { ticks = ticks }) range_numbers) (plain : Plain) where
    abbrev at_tick : Node
    at_tick = record n { ticks = ticks }

    journal_is : left.journal ≡ n.journal
    journal_is = ap (λ (z : Node). z.journal) acts ∙ all.same_journal e none range_numbers at_tick

    others_lack : (q : CmdId) → IsBorn ((m.range range).attempt q).stage → all.OthersLack e none range q at_tick range_numbers
    others_lack q born at ne once r live = lacks lists w m seen b fit x.node at range n r has live ne e (may at r) ticks n.rounds [] q born

    once : all.times range range_numbers ≡ 1
    once = each_once range (below lists w m seen b fit range there)

    own : (r : Replica) → seat n range ≡ Live r → Turned
    own r live =
        scenes.by_turn lists w m seen b fit x lawful n has ev ev_is range there (status_after e d.replica) d.outcomes d.proposed turn
        (ap (λ (z : Node). seat z range) acts ∙ all.after_once e none range range_numbers once at_tick r live)
        (λ q born. let was = born_before (m.range range) turn.events turn.lawful turn.quiet q born in
        scenes.told_new lists w m seen b fit x lawful n has ev ev_is q (n.outcomes ++ d.outcomes) journal_is (plain q was)
        (ap (λ (z : Node). end_in q z.outcomes) acts ∙ all.own_ends e none range q range_numbers numbers_once once at_tick r live (others_lack q was))
        ∙ all_told_so n d.outcomes (fit.ends x.node n has) turn.ends q)
        (λ bytes c. all.once_handed e none range w x.node bytes range_numbers once at_tick r live (subst (Hands bytes) doings c))
      where
        d : Done
        d = event r e ticks n.rounds []

        turn : SeatTurned x.node range (m.range range) (λ id. outcome_at id n) (status_after e d.replica) d.outcomes d.proposed
        turn = event_turn lists range (m.range range).start (seen range) w (m.range range) x.node n r (seated lists w m seen b fit x.node range n r has live) (fit.replicas x.node range n r has live)
            (λ id. outcome_at id n) (subst (λ z. SeatOk (m.range range) x.node range z (λ id. outcome_at id n)) live ((b.ranges range there).seats x.node n has)) e (may range r) ticks n.rounds []

    bare : all.IsBare e none (seat n range) → Turned
    bare k =
        scenes.quiet_scene lists w m seen b fit x lawful n has ev ev_is range there
        (ap (λ (z : Node). seat z range) acts ∙ all.after_bare e none range range_numbers at_tick k)
        (λ q born. scenes.told_new lists w m seen b fit x lawful n has ev ev_is q n.outcomes journal_is (plain q born)
        (ap (λ (z : Node). end_in q z.outcomes) acts ∙ all.bare_ends e none range q range_numbers numbers_once at_tick k (others_lack q born)))
        (λ bytes c. all.bare_handed e none range w x.node bytes range_numbers at_tick k (subst (Hands bytes) doings c))

    pub all_scene : Turned
    all_scene = go (seat n range) refl where
      go : (status : Status) → seat n range ≡ status → Turned
      go Absent is = bare (subst (all.IsBare e none) (sym is) tt)
      go (Live r) is = own r is
      go (Removed applied) is = bare (subst (all.IsBare e none) (sym is) tt)
