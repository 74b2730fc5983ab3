-- A snapshot that is taken in is above the commit index; one that is sent is what its sender had applied.
use Rattle.std.proofs.Common.{◌≡◌, ℕ, zero, suc, ◌+◌, ◌-◌, ◌<◌, max, min, Bool, true, false, cond, ◌&&◌, eqb, ltb, leb, Option, Some, None, List, [], ◌∷◌, ◌++◌, map, length, get_or, replicate, refl, sym, subst, ◌∙◌, arith, leb-false, append_assoc, append-nil}
use Rattle.std.specs.Option.{option_map_or, unwrap_or}
use Rattle.std.specs.List.{AllByRecursion as Every}
use Rattle.std.proofs.lemmas.Bool.{cond_both}
use Rattle.rp_raftlog.specs.declared.entries.Entry.{Entry}
use Rattle.rp_raftlog.specs.LogState.{log_at, last_index, last_term, entry_at, term_at, has_term, suffix, accepted, accepted_to, matches}
use Rattle.rp_raftstep.specs.declared.heads.Head.{Head}
use Rattle.rp_raftstep.specs.declared.heads.Role.TheVariants.{Follower}
use Rattle.rp_raftstep.specs.declared.heads.Due.{Due}
use Rattle.rp_raftstep.specs.declared.heads.Due.TheVariants.{Nobody, Everyone}
use Rattle.rp_raftstep.specs.declared.messages.Message.{Message}
use Rattle.rp_raftstep.specs.declared.messages.Message.TheVariants.{Vote, VoteReply, Append, AppendReply, Forward, Snap}
use Rattle.rp_raftstep.specs.declared.events.RaftEvent.TheVariants.{Tick, Receive, Propose, Cut}
use Rattle.rp_raftstep.specs.RaftState.{RaftState, is_leader, is_candidate, of_node, with_node, peers}
use Rattle.rp_raftstep.specs.Step.{Draft, quiet, answered, sends_to, with_payloads, leading, is_elected, elected, tick_leading, candidate, stand, patience, tick_waiting, tick, observed, is_up_to_date, may_vote, on_vote, on_vote_reply, following, refused_old, take_append, on_append, on_mismatch, on_match, on_append_reply, on_forward, take_snap, on_snap, received, forwards, then_proposed, advanced, most_entries, to_peer, due_peers, last_sends, absent_answer}
use Rattle.rp_raftsafe.specs.World.{Range, Replica, Status, Absent, Live, Removed, Site, World, Turn, stays, by_raft, applied_one, Action, Begin, Ticks, Proposes, Applies, Cuts, Removes, Restarts, replica_acts, acts, gets, site, with_site, after_turn, message_of, Event, Acts, Comes, comes, happens, nowhere, world_after}
use Rattle.rp_raftsafe.specs.Snapshots.{BringsAbove, TakesAbove, StepTakesAbove, HadApplied, SnapsWereApplied}
use Rattle.rp_raftsafe.proofs.Tables.{at_set}
use Rattle.rp_raftsafe.proofs.Pieces.{every_append, every_map, every_all}
use Rattle.rp_raftsafe.proofs.Worlds.{every_get, run-append}

-- a snapshot in a message has Q, and one that is taken in has P
abbrev pub SnapHas : {S : Type 0} → (ℕ → S → Type 0) → Message S → Type 0
SnapHas Q (Vote t i it) = Unit {0}
SnapHas Q (VoteReply t granted) = Unit {0}
SnapHas Q (Append t prev pt es commit) = Unit {0}
SnapHas Q (AppendReply t ok i) = Unit {0}
SnapHas Q (Forward payload) = Unit {0}
SnapHas Q (Snap t i it s) = Q i s

abbrev pub SentSnap : {S : Type 0} → (ℕ → S → Type 0) → ℕ × Message S → Type 0
SentSnap Q sent = SnapHas Q sent.1

abbrev TakenHas : {S : Type 0} → (ℕ → S → Type 0) → Option (ℕ × S) → Type 0
TakenHas P None = Unit {0}
TakenHas P (Some taken) = P taken.0 taken.1

abbrev AnySnap : {S : Type 0} → ℕ → S → Type 0
AnySnap index snapshot = Unit {0}

abbrev NoSnap : {S : Type 0} → ℕ → S → Type 0
NoSnap index snapshot = ⊥

record DraftSnaps {S : Type 0} (Q P : ℕ → S → Type 0) (d : Draft S) : Type 0 where
  replies : Every (SentSnap Q) d.replies
  taken : TakenHas P d.taken

module _ {S : Type 0} (Q P : ℕ → S → Type 0) where
  sends_snaps : (st : RaftState) (due : Due) → DraftSnaps Q P (sends_to st due)
  sends_snaps st due = record { replies = tt; taken = tt }

  quiet_snaps : (st : RaftState) → DraftSnaps Q P (quiet st)
  quiet_snaps st = record { replies = tt; taken = tt }

  answered_snaps : (st : RaftState) (to : ℕ) (m : Message S) → SnapHas Q m → DraftSnaps Q P (answered st to m)
  answered_snaps st to m h = record { replies = (h, tt); taken = tt }

  elected_snaps : (st : RaftState) → DraftSnaps Q P (elected st)
  elected_snaps st = cond_both (is_elected st.head) (sends_to (leading st) Everyone) (quiet st) (λ d. DraftSnaps Q P d) (λ _. sends_snaps (leading st) Everyone) (λ _. quiet_snaps st)

  tick_snaps : (st : RaftState) → DraftSnaps Q P (tick st)
  tick_snaps st =
      cond_both (is_leader st.head.role) (tick_leading st) (tick_waiting st) (λ d. DraftSnaps Q P d)
      (λ _.
      cond_both (eqb (st.head.beat + 1) 2) (sends_to (record st { head = record st.head { beat = 0 } }) Everyone) (quiet (record st { head = record st.head { beat = st.head.beat + 1 } })) (λ d. DraftSnaps Q P d)
      (λ _. sends_snaps (record st { head = record st.head { beat = 0 } }) Everyone)
      (λ _. quiet_snaps (record st { head = record st.head { beat = st.head.beat + 1 } })))
      (λ _.
      cond_both (eqb (st.head.silent + 1) (patience st.head.node)) (stand st) (quiet (record st { head = record st.head { silent = st.head.silent + 1 } })) (λ d. DraftSnaps Q P d)
      (λ _. record {
        replies = every_map (SentSnap Q) (λ peer. (peer, Vote (st.head.term + 1) (last_index st.log) (last_term st.log))) (peers (candidate st.head))
            (every_all (λ peer. SentSnap Q (peer, Vote (st.head.term + 1) (last_index st.log) (last_term st.log))) (λ peer. tt) (peers (candidate st.head)));
        taken = (elected_snaps (record st { head = candidate st.head })).taken;
      })
      (λ _. quiet_snaps (record st { head = record st.head { silent = st.head.silent + 1 } })))

  on_vote_snaps : (st : RaftState) (from t i it : ℕ) → DraftSnaps Q P (on_vote st from t i it)
  on_vote_snaps st from t i it =
      cond_both (eqb t st.head.term && may_vote st.head from && is_up_to_date st.log i it)
      (answered (record st { head = record st.head { vote = Some from; silent = 0 } }) from (VoteReply st.head.term true))
      (answered st from (VoteReply st.head.term false)) (λ d. DraftSnaps Q P d)
      (λ _. answered_snaps (record st { head = record st.head { vote = Some from; silent = 0 } }) from (VoteReply st.head.term true) tt)
      (λ _. answered_snaps st from (VoteReply st.head.term false) tt)

  on_vote_reply_snaps : (st : RaftState) (from t : ℕ) (granted : Bool) → DraftSnaps Q P (on_vote_reply st from t granted)
  on_vote_reply_snaps st from t granted =
      cond_both (granted && eqb t st.head.term && is_candidate st.head.role) (elected (record st { head = record st.head { votes = with_node st.head.votes from true } })) (quiet st) (λ d. DraftSnaps Q P d)
      (λ _. elected_snaps (record st { head = record st.head { votes = with_node st.head.votes from true } }))
      (λ _. quiet_snaps st)

  refused_snaps : (st : RaftState) (from : ℕ) → DraftSnaps Q P (refused_old st from)
  refused_snaps st from = answered_snaps st from (AppendReply st.head.term false st.head.commit) tt

  on_append_snaps : (st : RaftState) (from t prev pt : ℕ) (es : List Entry) (commit : ℕ) → DraftSnaps Q P (on_append st from t prev pt es commit)
  on_append_snaps st from t prev pt es commit =
      cond_both (ltb t st.head.term) (refused_old st from) (take_append (record st { head = following st.head from }) from prev pt es commit) (λ d. DraftSnaps Q P d)
      (λ _. refused_snaps st from)
      (λ _.
      cond_both (matches st.log prev pt)
      (answered (record { head = record (following st.head from) { commit = max st.head.commit (min commit (prev + length es)) }; log = accepted st.log prev es }) from (AppendReply st.head.term true (accepted_to st.log prev es)))
      (answered (record st { head = following st.head from }) from (AppendReply st.head.term false st.head.commit)) (λ d. DraftSnaps Q P d)
      (λ _. answered_snaps (record { head = record (following st.head from) { commit = max st.head.commit (min commit (prev + length es)) }; log = accepted st.log prev es }) from (AppendReply st.head.term true (accepted_to st.log prev es)) tt)
      (λ _. answered_snaps (record st { head = following st.head from }) from (AppendReply st.head.term false st.head.commit) tt))

  on_append_reply_snaps : (st : RaftState) (from t : ℕ) (said : Bool) (index : ℕ) → DraftSnaps Q P (on_append_reply st from t said index)
  on_append_reply_snaps st from t said index =
      cond_both (is_leader st.head.role && eqb t st.head.term) (cond said (on_match st from index) (on_mismatch st from index)) (quiet st) (λ d. DraftSnaps Q P d)
      (λ _.
      cond_both said (on_match st from index) (on_mismatch st from index) (λ d. DraftSnaps Q P d)
      (λ _. record { replies = tt; taken = tt })
      (λ _. record { replies = tt; taken = tt }))
      (λ _. quiet_snaps st)

  on_forward_snaps : (st : RaftState) (payload : List ℕ) → DraftSnaps Q P (on_forward st payload)
  on_forward_snaps st payload =
      cond_both (is_leader st.head.role) (sends_to (with_payloads st (payload ∷ [])) Everyone) (quiet st) (λ d. DraftSnaps Q P d)
      (λ _. sends_snaps (with_payloads st (payload ∷ [])) Everyone)
      (λ _. quiet_snaps st)

  take_snap_snaps : (st : RaftState) (from i it : ℕ) (s : S) → (st.head.commit < i → P i s) → DraftSnaps Q P (take_snap st from i it s)
  take_snap_snaps st from i it s above =
      let reset : Draft S = record { state = record { head = record st.head { commit = i }; log = log_at i it }; replies = (from, AppendReply st.head.term true i) ∷ []; due = Nobody; taken = Some (i, s) } in
      cond_both (leb i st.head.commit) (answered st from (AppendReply st.head.term true st.head.commit))
      (cond (has_term st.log i it) (answered (record st { head = record st.head { commit = i } }) from (AppendReply st.head.term true i)) reset) (λ d. DraftSnaps Q P d)
      (λ _. answered_snaps st from (AppendReply st.head.term true st.head.commit) tt)
      (λ gt.
      cond_both (has_term st.log i it) (answered (record st { head = record st.head { commit = i } }) from (AppendReply st.head.term true i)) reset (λ d. DraftSnaps Q P d)
      (λ _. answered_snaps (record st { head = record st.head { commit = i } }) from (AppendReply st.head.term true i) tt)
      (λ _. record { replies = (tt, tt); taken = above (leb-false i st.head.commit gt) }))

  on_snap_snaps : (st : RaftState) (from t i it : ℕ) (s : S) → (st.head.commit < i → P i s) → DraftSnaps Q P (on_snap st from t i it s)
  on_snap_snaps st from t i it s above =
      cond_both (ltb t st.head.term) (refused_old st from) (take_snap (record st { head = following st.head from }) from i it s) (λ d. DraftSnaps Q P d)
      (λ _. refused_snaps st from)
      (λ _. take_snap_snaps (record st { head = following st.head from }) from i it s above)

  -- a higher term leaves the commit index
  observed_commit : (head : Head) (t : ℕ) → (observed head t).commit ≡ head.commit
  observed_commit head t = cond_both (ltb head.term t) (record head { term = t; vote = None; role = Follower; leader = None }) head (λ (z : Head). z.commit ≡ head.commit) (λ _. refl) (λ _. refl)

  received_snaps : (st : RaftState) (from : ℕ) (m : Message S) → ((t i it : ℕ) (s : S) → m ≡ Snap t i it s → st.head.commit < i → P i s) → DraftSnaps Q P (received st from m)
  received_snaps st from (Vote t i it) above = on_vote_snaps (record st { head = observed st.head t }) from t i it
  received_snaps st from (VoteReply t granted) above = on_vote_reply_snaps (record st { head = observed st.head t }) from t granted
  received_snaps st from (Append t prev pt es commit) above = on_append_snaps (record st { head = observed st.head t }) from t prev pt es commit
  received_snaps st from (AppendReply t said index) above = on_append_reply_snaps (record st { head = observed st.head t }) from t said index
  received_snaps st from (Forward payload) above = on_forward_snaps st payload
  received_snaps st from (Snap t i it s) above = on_snap_snaps (record st { head = observed st.head t }) from t i it s (λ gt. above t i it s refl (omega (arith, gt, observed_commit st.head t)))

-- what is taken in
some_taken : {S : Type 0} (P : ℕ → S → Type 0) (taken : Option (ℕ × S)) (index : ℕ) (snapshot : S) → TakenHas P taken → taken ≡ Some (index, snapshot) → P index snapshot
some_taken {S} P taken index snapshot h e = subst (λ z. TakenHas P z) e h

pub takes_above_holds : (S : Type 0) → TakesAbove S
takes_above_holds S st from m index snapshot e =
    some_taken (BringsAbove st m) (received st from m).taken index snapshot
    (received_snaps (AnySnap {S = S}) (BringsAbove st m) st from m (λ t i it s is above. record { term = t; index_term = it; is = is; above = above })).taken e

pub step_takes_above_holds : (S : Type 0) → StepTakesAbove S
step_takes_above_holds S applied state st Tick index snapshot e = some_taken (NoSnap {S = S}) (tick st).taken index snapshot (tick_snaps (AnySnap {S = S}) (NoSnap {S = S}) st).taken e
step_takes_above_holds S applied state st (Receive from m) index snapshot e = takes_above_holds S st from m index snapshot e
step_takes_above_holds S applied state st (Propose payloads) index snapshot e = absurd (none_some e)
  where
    none_some : ◌≡◌ {A = Option (ℕ × S)} None (Some (index, snapshot)) → ⊥
    none_some x = cc
step_takes_above_holds S applied state st (Cut to) index snapshot e = absurd (none_some e)
  where
    none_some : ◌≡◌ {A = Option (ℕ × S)} None (Some (index, snapshot)) → ⊥
    none_some x = cc

-- what a replica's event sends
then_proposed_snaps : {S : Type 0} (Q : ℕ → S → Type 0) (d : Draft S) (payloads : List (List ℕ)) → Every (SentSnap Q) d.replies → Every (SentSnap Q) (then_proposed d payloads).replies
then_proposed_snaps {S} Q d payloads h =
    every_append (SentSnap Q) d.replies (forwards d.state payloads) h
    (cond_both (is_leader d.state.head.role) [] (option_map_or (λ leader. map (λ payload. (leader, Forward payload)) payloads) d.state.head.leader []) (λ z. Every (SentSnap Q) z) (λ _. tt) (λ _. to_leader d.state.head.leader))
  where
    to_leader : (l : Option ℕ) → Every (SentSnap Q) (option_map_or (λ leader. map (λ payload. (leader, Forward payload)) payloads) l [])
    to_leader None = tt
    to_leader (Some l) = every_map (SentSnap Q) (λ payload. (l, Forward payload)) payloads (every_all (λ payload. SentSnap Q (l, Forward payload)) (λ payload. tt) payloads)

to_peer_snaps : {S : Type 0} (Q : ℕ → S → Type 0) (applied : ℕ) (state : S) (st : RaftState) (peer : ℕ) → Q applied state → SnapHas Q (to_peer applied state st peer)
to_peer_snaps Q applied state st peer h =
    cond_both (ltb (of_node st.head.next peer 0 - 1) st.log.base)
    (Snap st.head.term applied (unwrap_or (term_at st.log applied) 0) state)
    (Append st.head.term (of_node st.head.next peer 0 - 1) (unwrap_or (term_at st.log (of_node st.head.next peer 0 - 1)) 0) (suffix st.log (of_node st.head.next peer 0) most_entries) st.head.commit)
    (λ m. SnapHas Q m)
    (λ _. h)
    (λ _. tt)

by_raft_snaps : {S : Type 0} (Q : ℕ → S → Type 0) (r : Replica S) (draft : Draft S) (again : List (List ℕ)) → Q r.applied r.state → Every (SentSnap Q) draft.replies → Every (SentSnap Q) (by_raft r draft again).sends
by_raft_snaps {S} Q r draft again applied h =
    every_append (SentSnap Q) (then_proposed draft again).replies (last_sends r.applied r.state (advanced (then_proposed draft again).state) (then_proposed draft again).due)
    (then_proposed_snaps Q draft again h)
    (every_map (SentSnap Q) (λ peer. (peer, to_peer r.applied r.state (advanced (then_proposed draft again).state) peer)) (due_peers (advanced (then_proposed draft again).state).head (then_proposed draft again).due)
    (every_all (λ peer. SentSnap Q (peer, to_peer r.applied r.state (advanced (then_proposed draft again).state) peer)) (λ peer. to_peer_snaps Q r.applied r.state (advanced (then_proposed draft again).state) peer applied)
    (due_peers (advanced (then_proposed draft again).state).head (then_proposed draft again).due)))

applies_snaps : {S : Type 0} (Q : ℕ → S → Type 0) (g : Range S) (r : Replica S) → Every (SentSnap Q) (replica_acts g r Applies).sends
applies_snaps {S} Q g r =
    cond_both (ltb r.applied r.raft.head.commit) (option_map_or (applied_one g r) (entry_at r.raft.log (r.applied + 1)) (stays (Live r))) (stays (Live r)) (λ t. Every (SentSnap Q) t.sends)
    (λ _. one (entry_at r.raft.log (r.applied + 1)))
    (λ _. tt)
  where
    one : (o : Option Entry) → Every (SentSnap Q) (option_map_or (applied_one g r) o (stays (Live r))).sends
    one None = tt
    one (Some e) = tt

-- what a replica has applied, if the node has one, has Q
abbrev pub AppliedHas : {S : Type 0} → (ℕ → S → Type 0) → Status S → Type 0
AppliedHas Q Absent = Unit {0}
AppliedHas Q (Live r) = Q r.applied r.state
AppliedHas Q Removed = Unit {0}

pub acts_snaps : {S : Type 0} (Q : ℕ → S → Type 0) (g : Range S) (p : ℕ) (action : Action) (status : Status S) → AppliedHas Q status → Every (SentSnap Q) (acts g p action status).sends
acts_snaps Q g p Begin Absent h = tt
acts_snaps Q g p (Ticks again) Absent h = tt
acts_snaps Q g p (Proposes payloads) Absent h = tt
acts_snaps Q g p Applies Absent h = tt
acts_snaps Q g p Cuts Absent h = tt
acts_snaps Q g p Removes Absent h = tt
acts_snaps Q g p Restarts Absent h = tt
acts_snaps Q g p Begin (Live r) h = tt
acts_snaps Q g p (Ticks again) (Live r) h = by_raft_snaps Q r (tick r.raft) again h (tick_snaps Q Q r.raft).replies
acts_snaps Q g p (Proposes payloads) (Live r) h = by_raft_snaps Q r (quiet r.raft) payloads h tt
acts_snaps Q g p Applies (Live r) h = applies_snaps Q g r
acts_snaps Q g p Cuts (Live r) h = tt
acts_snaps Q g p Removes (Live r) h = tt
acts_snaps Q g p Restarts (Live r) h = tt
acts_snaps Q g p action Removed h = tt

pub absent_snaps : {S : Type 0} (Q : ℕ → S → Type 0) (from : ℕ) (m : Message S) → Every (SentSnap Q) (absent_answer from m)
absent_snaps Q from (Vote t i it) = tt
absent_snaps Q from (VoteReply t granted) = tt
absent_snaps Q from (Append t prev pt es commit) = (tt, tt)
absent_snaps Q from (AppendReply t said i) = tt
absent_snaps Q from (Forward payload) = tt
absent_snaps Q from (Snap t i it s) = (tt, tt)

pub gets_snaps : {S : Type 0} (Q : ℕ → S → Type 0) (g : Range S) (p from : ℕ) (m : Message S) (again : List (List ℕ)) (status : Status S) → AppliedHas Q status → Every (SentSnap Q) (gets g p from m again status).sends
gets_snaps Q g p from m again Absent h = absent_snaps Q from m
gets_snaps {S} Q g p from m again (Live r) h = by_raft_snaps Q r (received r.raft from m) again h (received_snaps Q (AnySnap {S = S}) r.raft from m (λ t i it s is above. tt)).replies
gets_snaps Q g p from m again Removed h = tt

-- each node's snapshots have what is asked of that node
abbrev WorldSnaps : {S : Type 0} → (ℕ → ℕ → S → Type 0) → World S → Type 0
WorldSnaps Q w = (p : ℕ) → Every (SentSnap (Q p)) (site w p).sent

with_turn_snaps : {S : Type 0} (Q : ℕ → ℕ → S → Type 0) (w : World S) (p : ℕ) (t : Turn S) → WorldSnaps Q w → Every (SentSnap (Q p)) t.sends → WorldSnaps Q (with_site w p (after_turn (site w p) t))
with_turn_snaps Q w zero t h k q = h q
with_turn_snaps Q w (suc place) t h k zero = tt
with_turn_snaps {S} Q w (suc place) t h k (suc q) =
    at_set (λ (z : Site S). Every (SentSnap (Q (suc q))) z.sent) w place (after_turn (site w (suc place)) t) q (record { status = Absent; sent = [] })
    (λ e. subst (λ z. Every (SentSnap (Q (suc z))) (after_turn (site w (suc place)) t).sent) (sym e) (every_append (SentSnap (Q (suc place))) (site w (suc place)).sent t.sends (h (suc place)) k))
    (h (suc q))

happens_snaps : {S : Type 0} (Q : ℕ → ℕ → S → Type 0) (g : Range S) (w : World S) (event : Event) → ((p : ℕ) → AppliedHas (Q p) (site w p).status) → WorldSnaps Q w → WorldSnaps Q (happens g w event)
happens_snaps Q g w (Acts node action) applied h = with_turn_snaps Q w node (acts g node action (site w node).status) h (acts_snaps (Q node) g node action (site w node).status (applied node))
happens_snaps {S} Q g w (Comes from number again) applied h = found (message_of (site w from) number)
  where
    found : (o : Option (ℕ × Message S)) → WorldSnaps Q (option_map_or (comes g w from again) o w)
    found None = h
    found (Some x) = with_turn_snaps Q w x.0 (gets g x.0 from x.1 again (site w x.0).status) h (gets_snaps (Q x.0) g x.0 from x.1 again (site w x.0).status (applied x.0))

-- what a node has applied before one of the events
module _ {S : Type 0} (g : Range S) (events : List Event) where
  had : (early late : List Event) (event : Event) → early ++ event ∷ late ≡ events → (p : ℕ) → AppliedHas (HadApplied g events p) (site (world_after g early) p).status
  had early late event whole p = at (site (world_after g early) p).status refl
    where
      at : (status : Status S) → (site (world_after g early) p).status ≡ status → AppliedHas (HadApplied g events p) status
      at Absent e = tt
      at (Live r) e = record { early = early; event = event; late = late; whole = whole; replica = r; live = e; applied = refl; state_is = refl }
      at Removed e = tt

  snaps_run : (early late : List Event) → early ++ late ≡ events → WorldSnaps (HadApplied g events) (world_after g early) → WorldSnaps (HadApplied g events) (world_after g events)
  snaps_run early [] whole h = subst (λ z. WorldSnaps (HadApplied g events) (world_after g z)) (sym (append-nil early) ∙ whole) h
  snaps_run early (event ∷ late) whole h =
      snaps_run (early ++ event ∷ []) late (append_assoc early (event ∷ []) late ∙ whole)
      (subst (λ z. WorldSnaps (HadApplied g events) z) (sym (run-append g early (event ∷ []) (nowhere g)))
      (happens_snaps (HadApplied g events) g (world_after g early) event (had early late event whole) h))

  nowhere_snaps : WorldSnaps (HadApplied g events) (nowhere g)
  nowhere_snaps zero = tt
  nowhere_snaps (suc k) = each g.nodes k (λ z. Every (SentSnap (HadApplied g events (suc k))) z.sent) tt
    where
      each : (n j : ℕ) (P : Site S → Type 0) → P (record { status = Absent; sent = [] }) → P (get_or (replicate n (record { status = Absent; sent = [] })) j (record { status = Absent; sent = [] }))
      each zero j P here = here
      each (suc n) zero P here = here
      each (suc n) (suc j) P here = each n j P here

pub snaps_were_applied_holds : (S : Type 0) → SnapsWereApplied S
snaps_were_applied_holds S g events from to t i it s has =
    every_get (SentSnap (HadApplied g events from)) (site (world_after g events) from).sent has.0 (to, Snap t i it s) (snaps_run g events [] events refl (nowhere_snaps g events) from) has.1
