-- A scene keeps the records beside the machine.
use Rattle.std.proofs.Common.{◌≡◌, ℕ, zero, suc, ◌+◌, ◌-◌, ◌<◌, ◌≤◌, max, Bool, true, false, ◌⊎◌, inl, inr, ⊎_elim, Option, None, Some, List, [], ◌∷◌, length, refl, sym, ap, subst, ◌∙◌, arith}
use Rattle.std.proofs.lemmas.Option.{none-some}
use Rattle.std.specs.Prelude.{Contains, slice_get}
use Rattle.std.specs.Option.{option_map_or}
use Rattle.std.proofs.lemmas.Bool.{cases_lt}
use Rattle.std.proofs.lemmas.List.{length_push}
use Rattle.std.proofs.lemmas.List.Elements.{Contains-append_cases, Contains-append_left, Contains-append_right}
use Rattle.rp_base.proofs.SplitLaws.{parts}
use Rattle.rp_raftstep.specs.declared.messages.Message.{Message}
use Rattle.rp_raftstep.specs.declared.messages.Message.TheVariants.{Vote, VoteReply, Append, AppendReply, Forward, Snap}
use Rattle.rp_request.specs.Applied.{AppliedState, record_of, after as state_after}
use Rattle.rp_request.specs.History.{Piece, History, with_record, none_after, reset_to}
use Rattle.rp_request.specs.History as history
use Rattle.rp_request.specs.States.{right_of}
use Rattle.rp_request.specs.declared.commands.Payload.{Payload}
use Rattle.rp_request.specs.declared.items.Record.{Record}
use Rattle.rp_raftsafe.specs.World as raft
use Rattle.rp_raftsafe.specs.Safety.{OneList}
use Rattle.rp_rangesafe.specs.Along.{entry}
use Rattle.rp_rangesafe.specs.World as machine
use Rattle.rp_rangesafe.specs.World.{state_at}
use Rattle.rp_rangesafe.specs.Places.{IsLater}
use Rattle.rp_rangesafe.specs.Ranges.{Ranges, AreLater}
use Rattle.rp_rangesafe.proofs.Joint.{range_goes_on}
use Rattle.rp_rangesafe.proofs.Rights.{Opens, opens_it}
use Rattle.rp_rangesafe.proofs.Runs.{later_longer, later_entry, later_state}
use Rattle.rp_rangesafe.proofs.Tables.{at_with_node}
use Rattle.rp_events.specs.declared.parcels.Parcel.{Parcel}
use Rattle.rp_events.specs.Replicas.{Replica}
use Rattle.rp_events.specs.Nodes.{Node, Status, seat, right_base}
use Rattle.rp_events.specs.Worlds.{World, Scene, node_of, happens}
use Rattle.rp_events.specs.Lists.{base_of, history_in, HasApplied, StandsIn, Keeps}
use Rattle.rp_journals.proofs.Growing.{with_same}
use Rattle.rp_journals.proofs.Lists.{get_end}
use Rattle.rp_seats.specs.Standing.{Bound}
use Rattle.rp_promise.specs.Records.{record_at, IsRecordAt, HistoryOk, IsHad, SnapUpTo, RecordsOk, AllRecords}
use Rattle.rp_promise.proofs.Turned.{at_seat, AppliedAt, SnapSent, SplitNow, Jumped, Begun, Became, kept, goes, jumps, begins, FromHistory, Answers}
use Rattle.rp_promise.proofs.Scenes.{Pieces, one_piece, get_push, node_now, SceneTurned, still_has, keeps_on}
use Rattle.rp_promise.proofs.Stands.{silent, unhad, seat_stands, seat_next}
use Rattle.rp_promise.proofs.Somes.{some_is}

-- the machine's node goes on
index_event : (h : machine.World) (e : machine.Event) → machine.Lawful h e → (node : ℕ) → h.index node ≤ (machine.happens h e).index node
index_event h (machine.Admit id at body) l node = omega arith
index_event h (machine.Flush id top) l node = omega arith
index_event h (machine.Return id) l node = omega arith
index_event h (machine.Refuse id) l node = omega arith
index_event h (machine.Commit p) l node = omega arith
index_event h (machine.Apply at) l node = at_with_node (λ q v. h.index q ≤ v) h.index at (suc (h.index at)) (omega arith) (λ q _. omega arith) node
index_event h (machine.Snapshot at to) l node = at_with_node (λ q v. h.index q ≤ v) h.index at to l.onward (λ q _. omega arith) node
index_event h (machine.Remove at) l node = omega arith
index_event h (machine.Restart at) l node = omega arith

index_run : (es : List machine.Event) (h : machine.World) → machine.AllLawful h es → (node : ℕ) → h.index node ≤ (machine.run h es).index node
index_run [] h l node = omega arith
index_run (e ∷ es) h l node =
    let one = index_event h e l.0 node in
    let more = index_run es (machine.happens h e) l.1 node in
    omega (arith, one, more)

index_rises : (h k : machine.World) → IsLater h k → (node : ℕ) → h.index node ≤ k.index node
index_rises h k l node = subst (λ (z : machine.World). h.index node ≤ z.index node) l.reached (index_run l.events h l.lawful node)

-- a right range has a number above 0
right_positive : (s t : AppliedState) (p : Payload) → right_of s p ≡ Some t → 0 < t.desc.id
right_positive s t p e =
    let o : Opens s p t = opens_it s p t e in
    let same : o.right.id ≡ t.desc.id = ap (λ (z : AppliedState). z.desc.id) o.made in
    let shares = parts s.desc o.key o.left o.right o.parted in
    omega (arith, same, shares.right_id, s.desc.id_of_level)

positive_base : (range : ℕ) → 0 < range → base_of range ≡ right_base
positive_base zero lt = absurd (omega (arith, lt))
positive_base (suc range) lt = refl

-- snapshots of later indexes too
snap_more : (b c : ℕ) → b ≤ c → (m : Message AppliedState) → SnapUpTo b m → SnapUpTo c m
snap_more b c le (Vote t i it) h = tt
snap_more b c le (VoteReply t granted) h = tt
snap_more b c le (Append t prev pt es commit) h = tt
snap_more b c le (AppendReply t said i) h = tt
snap_more b c le (Forward payload) h = tt
snap_more b c le (Snap t i it s) h = omega (arith, le, h)

-- beside a later world of the machine
module _ (h k : machine.World) (l : IsLater h k) where
  pub record_same : (place : ℕ) → place < length h.log → record_at h place ≡ record_at k place
  record_same place lt =
      ap (λ s. record_of s (entry h.log place)) (later_state h k l place (omega (arith, lt)))
      ∙ ap (record_of (state_at k place)) (later_entry h k l place lt)

  history_later : (base reach : ℕ) (past : History) → reach ≤ length h.log → HistoryOk h base reach past → HistoryOk k base reach past
  history_later base reach past within o = record {
    to = o.to;
    at = o.at;
    within = o.within;
    state = let small = o.within in sym (later_state h k l o.to (omega (arith, within, small))) ∙ o.state;
    next = o.next;
    records = λ piece index r among stands.
        let i = o.records piece index r among stands in
        record { place = i.place; at = i.at; applied = i.applied; is = i.is ∙ record_same i.place (let small = o.within in let below = i.applied in omega (arith, within, small, below)) };
  }

  records_later : (w : World) (range reach : ℕ) → RecordsOk w range h reach → RecordsOk w range k reach
  records_later w range reach o = record {
    within = let long = later_longer h k l in let small = o.within in omega (arith, long, small);
    histories = λ node past applied. history_later (base_of range) reach past o.within (o.histories node past applied);
    covered = λ place lt.
        let c = o.covered place lt in
        (c.0, subst (Keeps w c.0 range (base_of range + place + 1)) (record_same place (let small = o.within in omega (arith, lt, small))) c.1);
    sent = o.sent;
  }

-- with more entries that have a record
history_lifts : (h : machine.World) (base reach more : ℕ) (past : History) → reach ≤ more → HistoryOk h base reach past → HistoryOk h base more past
history_lifts h base reach more past le o = record { to = o.to; at = o.at; within = let small = o.within in omega (arith, le, small); state = o.state; next = o.next; records = o.records }

-- the index that a seat shows
abbrev applied_in : Status → ℕ
applied_in status = option_map_or (λ (past : History). past.index) (history_in status) 0

pub no_record : (index at : ℕ) (r : Record) → StandsIn (none_after index) at r → ⊥
no_record index at r s = none-some r s.here

module _ (lists : OneList AppliedState) (w : World) (m : Ranges) (seen : ℕ → List raft.Event) (b : Bound lists w m seen) (x : Scene) (t : SceneTurned w x)
    (n : Ranges) (further : ℕ → List raft.Event) (b' : Bound lists (happens w x) n further) (on : AreLater m n) (a : AllRecords w m) where
  abbrev after : World
  after = happens w x

  abbrev node : ℕ
  node = x.node

  pub new_has : node_of after node ≡ Some t.new
  new_has = ap (λ z. node_of z node) t.after ∙ with_same w node t.n t.new t.has

  had_on : (range : ℕ) → IsHad w range → IsHad after range
  had_on range had =
      let s = still_has w x t had.node range had.past had.applied in
      record { node = had.node; past = s.now; applied = s.applied }

  module _ (range : ℕ) where
    abbrev h : machine.World
    h = m.range range

    abbrev k : machine.World
    k = n.range range

    abbrev base : ℕ
    base = base_of range

    abbrev reach : ℕ
    reach = a.reach range

    later : m.opened range ≡ true → IsLater h k
    later o = (range_goes_on m b.reached n on range o).1

    shut_records : m.opened range ≡ false → RecordsOk w range k reach
    shut_records off = record {
      within = ⊎_elim
          (λ (some : 0 < reach). let c = (a.each range).covered 0 some in absurd (unhad lists w m seen b range off c.0 c.1.history c.1.applied))
          (λ (none : reach ≤ 0). omega (arith, none))
          (cases_lt 0 reach);
      histories = λ other past applied. absurd (unhad lists w m seen b range off other past applied);
      covered = λ place lt. let c = (a.each range).covered place lt in absurd (unhad lists w m seen b range off c.0 c.1.history c.1.applied);
      sent = λ other o p has among own. absurd (silent lists w m seen b range off other o p has among own);
    }

    -- the records beside the machine as it is behind the scene
    pub moved : RecordsOk w range k reach
    moved = go (m.opened range) refl where
      go : (o : Bool) → m.opened range ≡ o → RecordsOk w range k reach
      go true e = records_later h k (later e) w range reach (a.each range)
      go false e = shut_records e

    -- the entry that is applied now
    pub record Next (r : Replica) (p : Payload) : Type 0 where
      pub o : HistoryOk k base reach r.applied
      pub within : o.to < length k.log
      pub entry_is : entry k.log o.to ≡ p

    pub next_of : (r : Replica) (p : Payload) → AppliedAt t.n.seats t.new.seats range r p → Next r p
    next_of r p g =
        let o : HistoryOk k base reach r.applied = moved.histories node r.applied (record { n = t.n; has = t.has; history = ap history_in g.live }) in
        let s = seat_stands lists w m seen b node t.n range r t.has g.live in
        let e = seat_next lists w m seen b node t.n range r t.has g.live p g.carries in
        let l = later s.there in
        let long = later_longer h k l in
        let same : h.index node ≡ o.to = (let at = s.at in let at' = o.at in omega (arith, at, at')) in
        record {
          o = o;
          within = let lt = e.within in omega (arith, lt, long, same);
          entry_is = ap (entry k.log) (sym same) ∙ sym (later_entry h k l (h.index node) e.within) ∙ e.entry_is;
        }

    sent_index : (index : ℕ) → SnapSent w range index → index ≤ base + reach
    sent_index index s = subst (SnapUpTo (base + reach)) s.sent.is (moved.sent s.sent.from s.sent.n s.sent.parcel s.sent.has s.sent.among s.sent.own).0

    split_base : SplitNow t.n.seats t.new.seats range → base ≡ right_base
    split_base s = positive_base range (subst (λ z. 0 < z) s.numbered (right_positive s.replica.applied.state s.right s.payload s.opens))

    source_index : (g : Begun w t.n.seats t.new.seats range) → g.index ≤ base + reach
    source_index g = ⊎_elim (λ (s : SnapSent w range g.index). sent_index g.index s)
        (λ (s : (g.index ≡ right_base) × SplitNow t.n.seats t.new.seats range). let own = split_base s.1 in let e = s.0 in omega (arith, own, e))
        g.source

    abbrev pub shows : ℕ
    shows = applied_in (seat t.new range)

    abbrev pub reach' : ℕ
    reach' = max reach (shows - base)

    -- the seat's index is one that has records, or one more
    pub record Grown : Type 0 where
      pub r : Replica
      pub p : Payload
      pub applied : AppliedAt t.n.seats t.new.seats range r p
      pub next : Next r p
      pub index : shows ≡ base + suc next.o.to

    tight_was : (o : Option History) → history_in (seat t.n range) ≡ o → option_map_or (λ (past : History). past.index) o 0 ≤ base + reach
    tight_was None e = omega arith
    tight_was (Some past) e =
        let o = moved.histories node past (record { n = t.n; has = t.has; history = e }) in
        let at = o.at in let within = o.within in
        omega (arith, at, within)

    abbrev pub grown_by : (r : Replica) (p : Payload) → AppliedAt t.n.seats t.new.seats range r p → Grown
    grown_by r p g =
        let next = next_of r p g in
        let is : shows ≡ r.applied.index + 1 = ap (λ z. option_map_or (λ (past : History). past.index) z 0) g.history in
        record { r = r; p = p; applied = g; next = next; index = let at = next.o.at in omega (arith, is, at) }

    tight : (shows ≤ base + reach) ⊎ Grown
    tight = go (t.turned.seats_are range) where
      go : Became w t.n.seats t.new.seats range → (shows ≤ base + reach) ⊎ Grown
      go (kept e) =
          let same : shows ≡ applied_in (seat t.n range) = ap (λ z. option_map_or (λ (past : History). past.index) z 0) e in
          let was = tight_was (history_in (seat t.n range)) refl in
          inl (omega (arith, same, was))
      go (goes r p g) = inr (grown_by r p g)
      go (jumps j) =
          let is : shows ≡ j.index = ap applied_in j.is ∙ ap (λ (past : History). past.index) j.history in
          let le = sent_index j.index j.sent in
          inl (omega (arith, is, le))
      go (begins g) =
          let is : shows ≡ g.index = ap applied_in g.is ∙ ap (λ (past : History). past.index) g.history in
          let le = source_index g in
          inl (omega (arith, is, le))

    -- what has been applied in the seat by now
    applied_ok : (r : Replica) (p : Payload) → (g : AppliedAt t.n.seats t.new.seats range r p) → HistoryOk k base reach' (history.applied r.applied p)
    applied_ok r p g =
        let v = grown_by r p g in
        let next = next_of r p g in
        let o = next.o in
        let at = o.at in
        let is : shows ≡ r.applied.index + 1 = ap (λ z. option_map_or (λ (past : History). past.index) z 0) g.history in
        let rec : Record = record_of r.applied.state p in
        let more : with_record r.applied.records rec ≡ with_record r.applied.records rec = refl in
        record {
          to = suc o.to;
          at = omega (arith, at);
          within = omega (arith, at, is);
          state = ap (λ s. state_after s (entry k.log o.to)) o.state ∙ ap (state_after r.applied.state) next.entry_is;
          next = let first = o.next in let long = length_push r.applied.records.list rec in omega (arith, first, long);
          records = λ piece index q among stands. ⊎_elim
              (λ (old : Contains r.applied.earlier piece). wider o (o.records piece index q (Contains-append_left r.applied.earlier (r.applied.records ∷ []) piece old) stands))
              (λ (last : Contains (with_record r.applied.records rec ∷ []) piece). newest o next.entry_is index q (subst (λ z. StandsIn z index q) (one_piece (with_record r.applied.records rec) piece last) stands))
              (Contains-append_cases r.applied.earlier (with_record r.applied.records rec ∷ []) piece among);
        }
      where
        wider : (o : HistoryOk k base reach r.applied) {index : ℕ} {q : Record} → IsRecordAt k base o.to index q → IsRecordAt k base (suc o.to) index q
        wider o i = record { place = i.place; at = i.at; applied = let lt = i.applied in omega (arith, lt); is = i.is }

        newest : (o : HistoryOk k base reach r.applied) → entry k.log o.to ≡ p → (index : ℕ) (q : Record) → StandsIn (with_record r.applied.records (record_of r.applied.state p)) index q → IsRecordAt k base (suc o.to) index q
        newest o e index q s = ⊎_elim
            (λ (old : slice_get r.applied.records.list s.place ≡ Some q).
            wider o (o.records r.applied.records index q (Contains-append_right r.applied.earlier (r.applied.records ∷ []) r.applied.records (0, omega arith, refl)) (record { place = s.place; here = old; at = s.at })))
            (λ (last : (s.place ≡ length r.applied.records.list) × (q ≡ record_of r.applied.state p)). record {
              place = o.to;
              at = let own = last.0 in let first = o.next in let begins' = s.at in let shown = o.at in omega (arith, own, first, begins', shown);
              applied = omega arith;
              is = last.1 ∙ ap (λ z. record_of z p) (sym o.state) ∙ ap (record_of (state_at k o.to)) (sym e);
            })
            (get_push r.applied.records.list (record_of r.applied.state p) s.place q s.here)

    history_now : (past : History) → history_in (seat t.new range) ≡ Some past → HistoryOk k base reach' past
    history_now past is = go (t.turned.seats_are range) where
      first_only : (to index at : ℕ) (q : Record) (piece : Piece) → Contains (none_after index ∷ []) piece → StandsIn piece at q → IsRecordAt k base to at q
      first_only to index at q piece among stands = absurd (no_record index at q (subst (λ z. StandsIn z at q) (one_piece (none_after index) piece among) stands))

      jumped : (j : Jumped w t.n.seats t.new.seats range) → HistoryOk k base reach' (reset_to j.before.applied j.state j.index)
      jumped j =
          let s = seat_stands lists (happens w x) n further b' node t.new range j.replica new_has j.is in
          let was = seat_stands lists w m seen b node t.n range j.before t.has j.was in
          let o = moved.histories node j.before.applied (record { n = t.n; has = t.has; history = ap history_in j.was }) in
          let up = index_rises h k (later was.there) node in
          let index_is : j.replica.applied.index ≡ j.index = ap (λ (z : History). z.index) j.history in
          let le = sent_index j.index j.sent in
          let at = s.at in let at' = was.at in let old = o.at in
          record {
            to = k.index node;
            at = omega (arith, at, index_is);
            within = omega (arith, at, index_is, le);
            state = s.state ∙ ap (λ (z : History). z.state) j.history;
            next = omega arith;
            records = λ piece index q among stands. ⊎_elim
                (λ (from : Contains (Pieces j.before.applied) piece).
                let i = o.records piece index q from stands in
                record { place = i.place; at = i.at; applied = let lt = i.applied in omega (arith, lt, at', old, up); is = i.is })
                (λ (last : Contains (none_after j.index ∷ []) piece). first_only (k.index node) j.index index q piece last stands)
                (Contains-append_cases (Pieces j.before.applied) (none_after j.index ∷ []) piece among);
          }

      begun : (g : Begun w t.n.seats t.new.seats range) → HistoryOk k base reach' (history.started g.state g.index)
      begun g =
          let s = seat_stands lists (happens w x) n further b' node t.new range g.replica new_has g.is in
          let index_is : g.replica.applied.index ≡ g.index = ap (λ (z : History). z.index) g.history in
          let le = source_index g in
          let at = s.at in
          record {
            to = k.index node;
            at = omega (arith, at, index_is);
            within = omega (arith, at, index_is, le);
            state = s.state ∙ ap (λ (z : History). z.state) g.history;
            next = omega arith;
            records = λ piece index q among stands. first_only (k.index node) g.index index q piece among stands;
          }

      go : Became w t.n.seats t.new.seats range → HistoryOk k base reach' past
      go (kept e) = history_lifts k base reach reach' past (omega arith) (moved.histories node past (record { n = t.n; has = t.has; history = sym e ∙ is }))
      go (goes r p g) = subst (λ z. HistoryOk k base reach' z) (some_is (history.applied r.applied p) past (sym g.history ∙ is)) (applied_ok r p g)
      go (jumps j) = subst (λ z. HistoryOk k base reach' z) (sym j.history ∙ some_is j.replica.applied past (sym (ap history_in j.is) ∙ is)) (jumped j)
      go (begins g) = subst (λ z. HistoryOk k base reach' z) (sym g.history ∙ some_is g.replica.applied past (sym (ap history_in g.is) ∙ is)) (begun g)

    -- the nodes of the world behind the scene
    pub now : (other : ℕ) (o : Node) → node_of after other ≡ Some o → ((other ≡ node) × (o ≡ t.new)) ⊎ (node_of w other ≡ Some o)
    now other o has = node_now w node t.new other o (sym (ap (λ z. node_of z other) t.after) ∙ has)

    -- the record of the entry that is applied now
    pub newly_kept : (v : Grown) → Keeps after node range (base + v.next.o.to + 1) (record_at k v.next.o.to)
    newly_kept v =
        let past : History = v.r.applied in
        let rec : Record = record_of past.state v.p in
        let first = v.next.o.next in let at = v.next.o.at in
        subst (λ z. Keeps after node range (base + v.next.o.to + 1) z) (ap (λ z. record_of z v.p) (sym v.next.o.state) ∙ ap (record_of (state_at k v.next.o.to)) (sym v.next.entry_is))
        (record {
          history = history.applied past v.p;
          applied = record { n = t.new; has = new_has; history = v.applied.history };
          piece = with_record past.records rec;
          among = Contains-append_right past.earlier (with_record past.records rec ∷ []) (with_record past.records rec) (0, omega arith, refl);
          stands = record { place = length past.records.list; here = get_end past.records.list rec []; at = omega (arith, first, at) };
        })

    pub records_now : RecordsOk after range k reach'
    records_now = record {
      within = ⊎_elim
          (λ (le : shows ≤ base + reach). let small = moved.within in omega (arith, le, small))
          (λ (v : Grown). let small = moved.within in let lt = v.next.within in let is = v.index in omega (arith, small, lt, is))
          tight;
      histories = λ other past applied. ⊎_elim
          (λ (own : (other ≡ node) × (applied.n ≡ t.new)). history_now past (ap (λ (z : Node). history_in (seat z range)) (sym own.1) ∙ applied.history))
          (λ (was : node_of w other ≡ Some applied.n). history_lifts k base reach reach' past (omega arith) (moved.histories other past (record { n = applied.n; has = was; history = applied.history })))
          (now other applied.n applied.has);
      covered = λ place lt. ⊎_elim
          (λ (below : place < reach). let c = moved.covered place below in (c.0, keeps_on w x t c.0 range (base + place + 1) (record_at k place) c.1))
          (λ (above : reach ≤ place). ⊎_elim
          (λ (le : shows ≤ base + reach). absurd (omega (arith, lt, above, le)))
          (λ (v : Grown).
          let within = v.next.o.within in
          let index = v.index in
          let same : v.next.o.to ≡ place = omega (arith, lt, above, within, index) in
          (node, subst (λ z. Keeps after node range (base + z + 1) (record_at k z)) same (newly_kept v)))
          tight)
          (cases_lt place reach);
      sent = λ other o p has among own. ⊎_elim
          (λ (mine : (other ≡ node) × (o ≡ t.new)). sent_now p (subst (λ (z : Node). Contains z.sent p) mine.1 among) own)
          (λ (was : node_of w other ≡ Some o). sent_before other o p was among own)
          (now other o has);
    }
      where
        sent_before : (other : ℕ) (o : Node) (p : Parcel AppliedState) → node_of w other ≡ Some o → Contains o.sent p → p.range ≡ range → SnapUpTo (base + reach') p.message × IsHad after range
        sent_before other o p has among own =
            let old = moved.sent other o p has among own in
            (snap_more (base + reach) (base + reach') (omega arith) p.message old.0, had_on range old.1)

        sent_now : (p : Parcel AppliedState) → Contains t.new.sent p → p.range ≡ range → SnapUpTo (base + reach') p.message × IsHad after range
        sent_now p among own = ⊎_elim
            (λ (old : Contains t.n.sent p). sent_before node t.n p t.has old own)
            (λ (fresh : FromHistory t.n.seats p ⊎ Answers w p). ⊎_elim
            (λ (f : FromHistory t.n.seats p).
            let held : HasApplied w node range f.past = record { n = t.n; has = t.has; history = ap (λ z. history_in (at_seat t.n.seats z)) (sym own) ∙ f.history } in
            let o = moved.histories node f.past held in
            let at = o.at in let within = o.within in
            (snap_more f.past.index (base + reach') (omega (arith, at, within)) p.message f.up_to, had_on range (record { node = node; past = f.past; applied = held })))
            (λ (f : Answers w p).
            let had = (moved.sent f.sent.from f.sent.n f.sent.parcel f.sent.has f.sent.among (f.sent.own ∙ own)).1 in
            (snap_more 0 (base + reach') (omega arith) p.message f.up_to, had_on range had))
            fresh)
            (t.turned.sent_are p among)
