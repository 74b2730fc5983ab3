-- Each event leaves in logs and messages payloads that were there, that it was handed, or Nothing. And it cuts logs
-- and makes snapshots no further than what was applied before.
use Rattle.std.proofs.Common.{◌≡◌, ℕ, zero, suc, ◌+◌, ◌-◌, ◌≤◌, max, min, Bool, true, false, cond, ◌&&◌, eqb, ltb, leb, Option, Some, None, List, [], ◌∷◌, map, length, take, drop, refl, subst, arith}
use Rattle.std.specs.Prelude.{All, slice_get}
use Rattle.std.specs.Option.{option_map_or, unwrap_or}
use Rattle.std.specs.List.{AllByRecursion as Every}
use Rattle.std.proofs.lemmas.Bool.{cond_both}
use Rattle.std.proofs.lemmas.Option.{slice_get_within, get_or_from_slice_get}
use Rattle.std.proofs.lemmas.List.Elements.{All-append, All-map, All-take, All-drop, All-nil, All-cons}
use Rattle.rp_raftlog.specs.declared.entries.Entry.{Entry}
use Rattle.rp_raftlog.specs.LogState.{LogState, log_at, last_index, last_term, entry_at, term_at, has_term, suffix, same_terms, edited, accepting, accepted, accepted_to, matches, cut}
use Rattle.rp_raftstep.specs.declared.heads.Role.TheVariants.{Leader}
use Rattle.rp_raftstep.specs.declared.heads.Due.{Due}
use Rattle.rp_raftstep.specs.declared.heads.Due.TheVariants.{Nobody, Everyone}
use Rattle.rp_raftstep.specs.declared.messages.Message.{Message}
use Rattle.rp_raftstep.specs.declared.messages.Message.TheVariants.{Vote, VoteReply, Append, AppendReply, Forward, Snap}
use Rattle.rp_raftstep.specs.RaftState.{RaftState, is_leader, is_candidate, of_node, with_node, peers, restarted}
use Rattle.rp_raftstep.specs.Step.{Draft, quiet, answered, sends_to, nothing, with_payloads, leading, is_elected, elected, tick_leading, candidate, stand, patience, tick_waiting, tick, observed, is_up_to_date, may_vote, on_vote, on_vote_reply, following, refused_old, take_append, on_append, on_mismatch, on_match, on_append_reply, on_forward, take_snap, on_snap, received, forwards, then_proposed, committable, advanced, most_entries, to_peer, due_peers, last_sends, absent_answer}
use Rattle.rp_raftsafe.specs.World.{Range, Replica, Status, Absent, Live, Removed, Site, World, Turn, stays, first, by_raft, applied_one, Action, Begin, Ticks, Proposes, Applies, Cuts, Removes, Restarts, replica_acts, acts, absent_after, gets, site, with_site, after_turn, message_of, Event, Acts, Comes, comes, happens}
use Rattle.rp_raftsafe.specs.Proposed.{action_payloads, event_payloads, MessageCarries}
use Rattle.rp_raftsafe.proofs.Tables.{at_set}
use Rattle.rp_raftsafe.proofs.Pieces.{every_append, every_map, every_all, every_of}
use Rattle.rp_raftsafe.proofs.Worlds.{every_get}

pub record LogHas (P : List ℕ → Type 0) (n : ℕ) (l : LogState) : Type 0 where
  pub entries : All (λ (e : Entry). P e.payload) l.entries
  pub base : l.base ≤ n

-- a snapshot is of no later index than n
abbrev pub SnapUpTo : {S : Type 0} → ℕ → Message S → Type 0
SnapUpTo n (Vote t i it) = Unit {0}
SnapUpTo n (VoteReply t granted) = Unit {0}
SnapUpTo n (Append t prev pt es commit) = Unit {0}
SnapUpTo n (AppendReply t ok i) = Unit {0}
SnapUpTo n (Forward payload) = Unit {0}
SnapUpTo n (Snap t i it s) = i ≤ n

pub record SentHas {S : Type 0} (P : List ℕ → Type 0) (n : ℕ) (sent : ℕ × Message S) : Type 0 where
  pub carries : MessageCarries P sent.1
  pub snap : SnapUpTo n sent.1

pub record DraftHas {S : Type 0} (P : List ℕ → Type 0) (n : ℕ) (d : Draft S) : Type 0 where
  pub log : LogHas P n d.state.log
  pub replies : Every (SentHas P n) d.replies

quiet_has : {S : Type 0} (P : List ℕ → Type 0) (n : ℕ) (st : RaftState) → LogHas P n st.log → DraftHas {S = S} P n (quiet st)
quiet_has P n st h = record { log = h; replies = tt }

sends_has : {S : Type 0} (P : List ℕ → Type 0) (n : ℕ) (st : RaftState) (due : Due) → LogHas P n st.log → DraftHas {S = S} P n (sends_to st due)
sends_has P n st due h = record { log = h; replies = tt }

answered_has : {S : Type 0} (P : List ℕ → Type 0) (n : ℕ) (st : RaftState) (to : ℕ) (m : Message S) → LogHas P n st.log → MessageCarries P m → SnapUpTo n m → DraftHas P n (answered st to m)
answered_has P n st to m h c s = record { log = h; replies = (record { carries = c; snap = s }, tt) }

with_payloads_has : (P : List ℕ → Type 0) (n : ℕ) (st : RaftState) (payloads : List (List ℕ)) → LogHas P n st.log → All P payloads → LogHas P n (with_payloads st payloads).log
with_payloads_has P n st payloads h all = record {
  entries = All-append (λ (e : Entry). P e.payload) st.log.entries (map (λ payload. record { term = st.head.term; payload = payload }) payloads) h.entries
      (All-map (λ (e : Entry). P e.payload) (λ payload. record { term = st.head.term; payload = payload }) payloads all);
  base = h.base;
}

elected_has : {S : Type 0} (P : List ℕ → Type 0) (n : ℕ) (st : RaftState) → P nothing → LogHas P n st.log → DraftHas {S = S} P n (elected st)
elected_has {S} P n st empty h =
    cond_both (is_elected st.head) (sends_to (leading st) Everyone) (quiet st) (λ d. DraftHas {S = S} P n d)
    (λ _. sends_has P n (leading st) Everyone (with_payloads_has P n (crowned st) (nothing ∷ []) h (All-cons P nothing [] empty (All-nil P))))
    (λ _. quiet_has P n st h)
  where
    crowned : RaftState → RaftState
    crowned x = record x { head = record x.head { role = Leader } }

tick_has : {S : Type 0} (P : List ℕ → Type 0) (n : ℕ) (st : RaftState) → P nothing → LogHas P n st.log → DraftHas {S = S} P n (tick st)
tick_has {S} P n st empty h =
    cond_both (is_leader st.head.role) (tick_leading st) (tick_waiting st) (λ d. DraftHas {S = S} P n d)
    (λ _.
    cond_both (eqb (st.head.beat + 1) 2) (sends_to (record st { head = record st.head { beat = 0 } }) Everyone) (quiet (record st { head = record st.head { beat = st.head.beat + 1 } })) (λ d. DraftHas {S = S} P n d)
    (λ _. sends_has P n (record st { head = record st.head { beat = 0 } }) Everyone h)
    (λ _. quiet_has P n (record st { head = record st.head { beat = st.head.beat + 1 } }) h))
    (λ _.
    cond_both (eqb (st.head.silent + 1) (patience st.head.node)) (stand st) (quiet (record st { head = record st.head { silent = st.head.silent + 1 } })) (λ d. DraftHas {S = S} P n d)
    (λ _. record {
      log = (elected_has {S = S} P n (record st { head = candidate st.head }) empty h).log;
      replies = every_map (SentHas P n) (λ peer. (peer, Vote (st.head.term + 1) (last_index st.log) (last_term st.log))) (peers (candidate st.head))
          (every_all (λ peer. SentHas {S = S} P n (peer, Vote (st.head.term + 1) (last_index st.log) (last_term st.log))) (λ peer. record { carries = tt; snap = tt }) (peers (candidate st.head)));
    })
    (λ _. quiet_has P n (record st { head = record st.head { silent = st.head.silent + 1 } }) h))

on_vote_has : {S : Type 0} (P : List ℕ → Type 0) (n : ℕ) (st : RaftState) (from t i it : ℕ) → LogHas P n st.log → DraftHas {S = S} P n (on_vote st from t i it)
on_vote_has {S} P n st from t i it h =
    cond_both (eqb t st.head.term && may_vote st.head from && is_up_to_date st.log i it)
    (answered (record st { head = record st.head { vote = Some from; silent = 0 } }) from (VoteReply st.head.term true))
    (answered st from (VoteReply st.head.term false)) (λ d. DraftHas {S = S} P n d)
    (λ _. answered_has P n (record st { head = record st.head { vote = Some from; silent = 0 } }) from (VoteReply st.head.term true) h tt tt)
    (λ _. answered_has P n st from (VoteReply st.head.term false) h tt tt)

on_vote_reply_has : {S : Type 0} (P : List ℕ → Type 0) (n : ℕ) (st : RaftState) (from t : ℕ) (granted : Bool) → P nothing → LogHas P n st.log → DraftHas {S = S} P n (on_vote_reply st from t granted)
on_vote_reply_has {S} P n st from t granted empty h =
    cond_both (granted && eqb t st.head.term && is_candidate st.head.role) (elected (record st { head = record st.head { votes = with_node st.head.votes from true } })) (quiet st) (λ d. DraftHas {S = S} P n d)
    (λ _. elected_has P n (record st { head = record st.head { votes = with_node st.head.votes from true } }) empty h)
    (λ _. quiet_has P n st h)

accepted_has : (P : List ℕ → Type 0) (n : ℕ) (l : LogState) (prev : ℕ) (es : List Entry) → LogHas P n l → All (λ (e : Entry). P e.payload) es → LogHas P n (accepted l prev es)
accepted_has P n l prev es h all = record { entries = edit; base = h.base }
  where
    edit : All (λ (e : Entry). P e.payload) (edited l.entries (accepting l prev es))
    edit =
        cond_both (eqb (same_terms (drop (l.base - prev) es) (drop (prev - l.base) l.entries)) (length (drop (l.base - prev) es)))
        (record { keep = length l.entries; added = [] })
        (record { keep = prev - l.base + same_terms (drop (l.base - prev) es) (drop (prev - l.base) l.entries); added = drop (same_terms (drop (l.base - prev) es) (drop (prev - l.base) l.entries)) (drop (l.base - prev) es) })
        (λ edit. All (λ (e : Entry). P e.payload) (edited l.entries edit))
        (λ _. All-append (λ (e : Entry). P e.payload) (take (length l.entries) l.entries) [] (All-take (λ (e : Entry). P e.payload) (length l.entries) l.entries h.entries) (All-nil (λ (e : Entry). P e.payload)))
        (λ _. All-append (λ (e : Entry). P e.payload) (take (prev - l.base + same_terms (drop (l.base - prev) es) (drop (prev - l.base) l.entries)) l.entries) (drop (same_terms (drop (l.base - prev) es) (drop (prev - l.base) l.entries)) (drop (l.base - prev) es))
        (All-take (λ (e : Entry). P e.payload) (prev - l.base + same_terms (drop (l.base - prev) es) (drop (prev - l.base) l.entries)) l.entries h.entries)
        (All-drop (λ (e : Entry). P e.payload) (same_terms (drop (l.base - prev) es) (drop (prev - l.base) l.entries)) (drop (l.base - prev) es) (All-drop (λ (e : Entry). P e.payload) (l.base - prev) es all)))

refused_has : {S : Type 0} (P : List ℕ → Type 0) (n : ℕ) (st : RaftState) (from : ℕ) → LogHas P n st.log → DraftHas {S = S} P n (refused_old st from)
refused_has P n st from h = answered_has P n st from (AppendReply st.head.term false st.head.commit) h tt tt

take_append_has : {S : Type 0} (P : List ℕ → Type 0) (n : ℕ) (st : RaftState) (from prev pt : ℕ) (es : List Entry) (commit : ℕ) → LogHas P n st.log → All (λ (e : Entry). P e.payload) es → DraftHas {S = S} P n (take_append st from prev pt es commit)
take_append_has {S} P n st from prev pt es commit h all =
    cond_both (matches st.log prev pt)
    (answered (record { head = record st.head { commit = max st.head.commit (min commit (prev + length es)) }; log = accepted st.log prev es }) from (AppendReply st.head.term true (accepted_to st.log prev es)))
    (answered st from (AppendReply st.head.term false st.head.commit)) (λ d. DraftHas {S = S} P n d)
    (λ _. answered_has P n (record { head = record st.head { commit = max st.head.commit (min commit (prev + length es)) }; log = accepted st.log prev es }) from (AppendReply st.head.term true (accepted_to st.log prev es)) (accepted_has P n st.log prev es h all) tt tt)
    (λ _. answered_has P n st from (AppendReply st.head.term false st.head.commit) h tt tt)

on_append_has : {S : Type 0} (P : List ℕ → Type 0) (n : ℕ) (st : RaftState) (from t prev pt : ℕ) (es : List Entry) (commit : ℕ) → LogHas P n st.log → All (λ (e : Entry). P e.payload) es → DraftHas {S = S} P n (on_append st from t prev pt es commit)
on_append_has {S} P n st from t prev pt es commit h all =
    cond_both (ltb t st.head.term) (refused_old st from) (take_append (record st { head = following st.head from }) from prev pt es commit) (λ d. DraftHas {S = S} P n d)
    (λ _. refused_has P n st from h)
    (λ _. take_append_has P n (record st { head = following st.head from }) from prev pt es commit h all)

on_append_reply_has : {S : Type 0} (P : List ℕ → Type 0) (n : ℕ) (st : RaftState) (from t : ℕ) (said : Bool) (index : ℕ) → LogHas P n st.log → DraftHas {S = S} P n (on_append_reply st from t said index)
on_append_reply_has {S} P n st from t said index h =
    cond_both (is_leader st.head.role && eqb t st.head.term) (cond said (on_match st from index) (on_mismatch st from index)) (quiet st) (λ d. DraftHas {S = S} P n d)
    (λ _.
    cond_both said (on_match st from index) (on_mismatch st from index) (λ d. DraftHas {S = S} P n d)
    (λ _. record { log = h; replies = tt })
    (λ _. record { log = h; replies = tt }))
    (λ _. quiet_has P n st h)

on_forward_has : {S : Type 0} (P : List ℕ → Type 0) (n : ℕ) (st : RaftState) (payload : List ℕ) → LogHas P n st.log → P payload → DraftHas {S = S} P n (on_forward st payload)
on_forward_has {S} P n st payload h p =
    cond_both (is_leader st.head.role) (sends_to (with_payloads st (payload ∷ [])) Everyone) (quiet st) (λ d. DraftHas {S = S} P n d)
    (λ _. sends_has P n (with_payloads st (payload ∷ [])) Everyone (with_payloads_has P n st (payload ∷ []) h (All-cons P payload [] p (All-nil P))))
    (λ _. quiet_has P n st h)

take_snap_has : {S : Type 0} (P : List ℕ → Type 0) (n : ℕ) (st : RaftState) (from i it : ℕ) (s : S) → LogHas P n st.log → i ≤ n → DraftHas P n (take_snap st from i it s)
take_snap_has {S} P n st from i it s h le =
    let reset : Draft S = record { state = record { head = record st.head { commit = i }; log = log_at i it }; replies = (from, AppendReply st.head.term true i) ∷ []; due = Nobody; taken = Some (i, s) } in
    cond_both (leb i st.head.commit) (answered st from (AppendReply st.head.term true st.head.commit))
    (cond (has_term st.log i it) (answered (record st { head = record st.head { commit = i } }) from (AppendReply st.head.term true i)) reset) (λ d. DraftHas P n d)
    (λ _. answered_has P n st from (AppendReply st.head.term true st.head.commit) h tt tt)
    (λ _.
    cond_both (has_term st.log i it) (answered (record st { head = record st.head { commit = i } }) from (AppendReply st.head.term true i)) reset (λ d. DraftHas P n d)
    (λ _. answered_has P n (record st { head = record st.head { commit = i } }) from (AppendReply st.head.term true i) h tt tt)
    (λ _. record { log = record { entries = All-nil (λ (e : Entry). P e.payload); base = le }; replies = (record { carries = tt; snap = tt }, tt) }))

on_snap_has : {S : Type 0} (P : List ℕ → Type 0) (n : ℕ) (st : RaftState) (from t i it : ℕ) (s : S) → LogHas P n st.log → i ≤ n → DraftHas P n (on_snap st from t i it s)
on_snap_has P n st from t i it s h le =
    cond_both (ltb t st.head.term) (refused_old st from) (take_snap (record st { head = following st.head from }) from i it s) (λ d. DraftHas P n d)
    (λ _. refused_has P n st from h)
    (λ _. take_snap_has P n (record st { head = following st.head from }) from i it s h le)

received_has : {S : Type 0} (P : List ℕ → Type 0) (n : ℕ) (st : RaftState) (from : ℕ) (m : Message S) → P nothing → LogHas P n st.log → MessageCarries P m → SnapUpTo n m → DraftHas P n (received st from m)
received_has P n st from (Vote t i it) empty h c s = on_vote_has P n (record st { head = observed st.head t }) from t i it h
received_has P n st from (VoteReply t granted) empty h c s = on_vote_reply_has P n (record st { head = observed st.head t }) from t granted empty h
received_has P n st from (Append t prev pt es commit) empty h c s = on_append_has P n (record st { head = observed st.head t }) from t prev pt es commit h c
received_has P n st from (AppendReply t said index) empty h c s = on_append_reply_has P n (record st { head = observed st.head t }) from t said index h
received_has P n st from (Forward payload) empty h c s = on_forward_has P n st payload h c
received_has P n st from (Snap t i it x) empty h c s = on_snap_has P n (record st { head = observed st.head t }) from t i it x h s

then_proposed_has : {S : Type 0} (P : List ℕ → Type 0) (n : ℕ) (d : Draft S) (payloads : List (List ℕ)) → All P payloads → DraftHas P n d → DraftHas P n (then_proposed d payloads)
then_proposed_has {S} P n d payloads all h = record {
  log = cond_both (is_leader d.state.head.role) (with_payloads d.state payloads) d.state (λ z. LogHas P n z.log) (λ _. with_payloads_has P n d.state payloads h.log all) (λ _. h.log);
  replies = every_append (SentHas P n) d.replies (forwards d.state payloads) h.replies
      (cond_both (is_leader d.state.head.role) [] (option_map_or (λ leader. map (λ payload. (leader, Forward payload)) payloads) d.state.head.leader []) (λ z. Every (SentHas P n) z) (λ _. tt) (λ _. to_leader d.state.head.leader));
}
  where
    each : (l : ℕ) (ps : List (List ℕ)) → All P ps → Every (SentHas {S = S} P n) (map (λ payload. (l, Forward payload)) ps)
    each l [] a = tt
    each l (x ∷ xs) a = (record { carries = a 0 x (omega arith); snap = tt }, each l xs (λ k e lt. a (suc k) e (omega arith)))

    to_leader : (l : Option ℕ) → Every (SentHas {S = S} P n) (option_map_or (λ leader. map (λ payload. (leader, Forward payload)) payloads) l [])
    to_leader None = tt
    to_leader (Some l) = each l payloads all

to_peer_has : {S : Type 0} (P : List ℕ → Type 0) (n applied : ℕ) (s : S) (st : RaftState) (q : ℕ) → LogHas P n st.log → applied ≤ n → SentHas P n (q, to_peer applied s st q)
to_peer_has P n applied s st q h le =
    cond_both (ltb (of_node st.head.next q 0 - 1) st.log.base)
    (Snap st.head.term applied (unwrap_or (term_at st.log applied) 0) s)
    (Append st.head.term (of_node st.head.next q 0 - 1) (unwrap_or (term_at st.log (of_node st.head.next q 0 - 1)) 0) (suffix st.log (of_node st.head.next q 0) most_entries) st.head.commit)
    (λ m. SentHas P n (q, m))
    (λ _. record { carries = tt; snap = le })
    (λ _. record {
      carries = All-take (λ (e : Entry). P e.payload) most_entries (drop (of_node st.head.next q 0 - st.log.base - 1) st.log.entries) (All-drop (λ (e : Entry). P e.payload) (of_node st.head.next q 0 - st.log.base - 1) st.log.entries h.entries);
      snap = tt;
    })

advanced_has : (P : List ℕ → Type 0) (n : ℕ) (st : RaftState) → LogHas P n st.log → LogHas P n (advanced st).log
advanced_has P n st h = cond_both (is_leader st.head.role) (record st { head = record st.head { commit = max st.head.commit (committable st) } }) st (λ z. LogHas P n z.log) (λ _. h) (λ _. h)

abbrev pub StatusHas : {S : Type 0} → (List ℕ → Type 0) → ℕ → Status S → Type 0
StatusHas P n Absent = Unit {0}
StatusHas P n (Live r) = LogHas P n r.raft.log
StatusHas P n Removed = Unit {0}

record TurnHas {S : Type 0} (P : List ℕ → Type 0) (n : ℕ) (t : Turn S) : Type 0 where
  status : StatusHas P n t.status
  sends : Every (SentHas P n) t.sends

by_raft_has : {S : Type 0} (P : List ℕ → Type 0) (n : ℕ) (r : Replica S) (draft : Draft S) (again : List (List ℕ)) → r.applied ≤ n → All P again → DraftHas P n draft → TurnHas P n (by_raft r draft again)
by_raft_has {S} P n r draft again le all h =
    let more : DraftHas P n (then_proposed draft again) = then_proposed_has P n draft again all h in
    let after : LogHas P n (advanced (then_proposed draft again).state).log = advanced_has P n (then_proposed draft again).state more.log in
    record {
      status = after;
      sends = every_append (SentHas P n) (then_proposed draft again).replies (last_sends r.applied r.state (advanced (then_proposed draft again).state) (then_proposed draft again).due) more.replies
          (every_map (SentHas P n) (λ peer. (peer, to_peer r.applied r.state (advanced (then_proposed draft again).state) peer)) (due_peers (advanced (then_proposed draft again).state).head (then_proposed draft again).due)
          (every_all (λ peer. SentHas {S = S} P n (peer, to_peer r.applied r.state (advanced (then_proposed draft again).state) peer)) (λ peer. to_peer_has P n r.applied r.state (advanced (then_proposed draft again).state) peer after le)
          (due_peers (advanced (then_proposed draft again).state).head (then_proposed draft again).due)));
    }

stays_has : {S : Type 0} (P : List ℕ → Type 0) (n : ℕ) (s : Status S) → StatusHas P n s → TurnHas P n (stays s)
stays_has P n s h = record { status = h; sends = tt }

-- no live replica has applied more than n
abbrev pub AppliedUpTo : {S : Type 0} → ℕ → Status S → Type 0
AppliedUpTo n Absent = Unit {0}
AppliedUpTo n (Live r) = r.applied ≤ n
AppliedUpTo n Removed = Unit {0}

applies_has : {S : Type 0} (P : List ℕ → Type 0) (n : ℕ) (g : Range S) (r : Replica S) → LogHas P n r.raft.log → TurnHas P n (replica_acts g r Applies)
applies_has P n g r h =
    cond_both (ltb r.applied r.raft.head.commit) (option_map_or (applied_one g r) (entry_at r.raft.log (r.applied + 1)) (stays (Live r))) (stays (Live r)) (λ t. TurnHas P n t)
    (λ _. one (entry_at r.raft.log (r.applied + 1)))
    (λ _. stays_has P n (Live r) h)
  where
    one : (o : Option Entry) → TurnHas P n (option_map_or (applied_one g r) o (stays (Live r)))
    one None = stays_has P n (Live r) h
    one (Some e) = stays_has P n (Live (record r { applied = r.applied + 1; state = g.act r.state e })) h

acts_has : {S : Type 0} (P : List ℕ → Type 0) (n : ℕ) (g : Range S) (p : ℕ) (action : Action) (status : Status S) → P nothing → g.base ≤ n → AppliedUpTo n status → StatusHas P n status → All P (action_payloads action) → TurnHas P n (acts g p action status)
acts_has P n g p Begin Absent empty le up h all = stays_has P n (Live (first g p)) (record { entries = All-nil (λ (e : Entry). P e.payload); base = le })
acts_has P n g p (Ticks again) Absent empty le up h all = stays_has P n Absent tt
acts_has P n g p (Proposes payloads) Absent empty le up h all = stays_has P n Absent tt
acts_has P n g p Applies Absent empty le up h all = stays_has P n Absent tt
acts_has P n g p Cuts Absent empty le up h all = stays_has P n Absent tt
acts_has P n g p Removes Absent empty le up h all = stays_has P n Absent tt
acts_has P n g p Restarts Absent empty le up h all = stays_has P n Absent tt
acts_has P n g p Begin (Live r) empty le up h all = stays_has P n (Live r) h
acts_has P n g p (Ticks again) (Live r) empty le up h all = by_raft_has P n r (tick r.raft) again up all (tick_has P n r.raft empty h)
acts_has P n g p (Proposes payloads) (Live r) empty le up h all = by_raft_has P n r (quiet r.raft) payloads up all (quiet_has P n r.raft h)
acts_has P n g p Applies (Live r) empty le up h all = applies_has P n g r h
acts_has P n g p Cuts (Live r) empty le up h all =
    stays_has P n (Live (record r { raft = record r.raft { log = cut r.raft.log r.applied } })) (record { entries = All-drop (λ (e : Entry). P e.payload) (r.applied - r.raft.log.base) r.raft.log.entries h.entries; base = up })
acts_has P n g p Removes (Live r) empty le up h all = stays_has P n Removed tt
acts_has P n g p Restarts (Live r) empty le up h all = stays_has P n (Live (record r { raft = restarted r.applied r.raft })) h
acts_has P n g p action Removed empty le up h all = stays_has P n Removed tt

gets_has : {S : Type 0} (P : List ℕ → Type 0) (n : ℕ) (g : Range S) (p from : ℕ) (m : Message S) (again : List (List ℕ)) (status : Status S) → P nothing → AppliedUpTo n status → StatusHas P n status → MessageCarries P m → SnapUpTo n m → All P again → TurnHas P n (gets g p from m again status)
gets_has {S} P n g p from m again Absent empty up h c s all = absent m s
  where
    absent : (m : Message S) → SnapUpTo n m → TurnHas P n (record { status = absent_after g p from m; sends = absent_answer from m })
    absent (Vote t i it) s = record { status = tt; sends = tt }
    absent (VoteReply t granted) s = record { status = tt; sends = tt }
    absent (Append t prev pt es commit) s = record { status = tt; sends = (record { carries = tt; snap = tt }, tt) }
    absent (AppendReply t said i) s = record { status = tt; sends = tt }
    absent (Forward payload) s = record { status = tt; sends = tt }
    absent (Snap t i it x) s = record { status = record { entries = All-nil (λ (e : Entry). P e.payload); base = s }; sends = (record { carries = tt; snap = tt }, tt) }
gets_has P n g p from m again (Live r) empty up h c s all = by_raft_has P n r (received r.raft from m) again up all (received_has P n r.raft from m empty h c s)
gets_has P n g p from m again Removed empty up h c s all = stays_has P n Removed tt

pub record SiteHas {S : Type 0} (P : List ℕ → Type 0) (n : ℕ) (s : Site S) : Type 0 where
  pub status : StatusHas P n s.status
  pub sent : Every (SentHas P n) s.sent

abbrev pub WorldHas : {S : Type 0} → (List ℕ → Type 0) → ℕ → World S → Type 0
WorldHas P n w = (p : ℕ) → SiteHas P n (site w p)

with_turn_has : {S : Type 0} (P : List ℕ → Type 0) (n : ℕ) (w : World S) (p : ℕ) (t : Turn S) → WorldHas P n w → TurnHas P n t → WorldHas P n (with_site w p (after_turn (site w p) t))
with_turn_has P n w zero t h k q = h q
with_turn_has P n w (suc place) t h k zero = record { status = tt; sent = tt }
with_turn_has {S} P n w (suc place) t h k (suc q) =
    at_set (SiteHas P n) w place (after_turn (site w (suc place)) t) q (record { status = Absent; sent = [] })
    (λ _. record { status = k.status; sent = every_append (SentHas P n) (site w (suc place)).sent t.sends (h (suc place)).sent k.sends })
    (h (suc q))

-- an event
pub happens_has : {S : Type 0} (P : List ℕ → Type 0) (n : ℕ) (g : Range S) (w : World S) (event : Event) → P nothing → g.base ≤ n → ((p : ℕ) → AppliedUpTo n (site w p).status) → WorldHas P n w → All P (event_payloads event) → WorldHas P n (happens g w event)
happens_has P n g w (Acts node action) empty le up h all = with_turn_has P n w node (acts g node action (site w node).status) h (acts_has P n g node action (site w node).status empty le (up node) (h node).status all)
happens_has {S} P n g w (Comes from number again) empty le up h all = found (message_of (site w from) number) refl
  where
    none_some : (x : ℕ × Message S) → ◌≡◌ {A = Option (ℕ × Message S)} None (Some x) → ⊥
    none_some x e = cc

    at : (number : ℕ) (x : ℕ × Message S) → message_of (site w from) number ≡ Some x → SentHas P n x
    at zero x e = absurd (none_some x e)
    at (suc i) x e = every_get (SentHas P n) (site w from).sent i x (h from).sent e

    found : (o : Option (ℕ × Message S)) → message_of (site w from) number ≡ o → WorldHas P n (option_map_or (comes g w from again) o w)
    found None e = h
    found (Some x) e = with_turn_has P n w x.0 (gets g x.0 from x.1 again (site w x.0).status) h (gets_has P n g x.0 from x.1 again (site w x.0).status empty (up x.0) (h x.0).status (at number x e).carries (at number x e).snap all)

-- a later index will do
log_has_more : (P : List ℕ → Type 0) (n m : ℕ) (l : LogState) → n ≤ m → LogHas P n l → LogHas P m l
log_has_more P n m l le h = record { entries = h.entries; base = omega (arith, h.base) }

snap_more : {S : Type 0} (n m : ℕ) (x : Message S) → n ≤ m → SnapUpTo n x → SnapUpTo m x
snap_more n m (Vote t i it) le h = tt
snap_more n m (VoteReply t granted) le h = tt
snap_more n m (Append t prev pt es commit) le h = tt
snap_more n m (AppendReply t ok i) le h = tt
snap_more n m (Forward payload) le h = tt
snap_more n m (Snap t i it s) le h = omega arith

status_has_more : {S : Type 0} (P : List ℕ → Type 0) (n m : ℕ) (s : Status S) → n ≤ m → StatusHas P n s → StatusHas P m s
status_has_more P n m Absent le h = tt
status_has_more P n m (Live r) le h = log_has_more P n m r.raft.log le h
status_has_more P n m Removed le h = tt

pub world_has_more : {S : Type 0} (P : List ℕ → Type 0) (n m : ℕ) (w : World S) → n ≤ m → WorldHas P n w → WorldHas P m w
world_has_more P n m w le h p = record {
  status = status_has_more P n m (site w p).status le (h p).status;
  sent = every_of (SentHas P n) (SentHas P m) (λ x k. record { carries = k.carries; snap = snap_more n m x.1 le k.snap }) (site w p).sent (h p).sent;
}

-- an entry that the log shows
pub entry_has : (P : List ℕ → Type 0) (n : ℕ) (l : LogState) (k : ℕ) (e : Entry) → LogHas P n l → entry_at l k ≡ Some e → P e.payload
entry_has P n l k e h =
    cond_both (ltb l.base k) (slice_get l.entries (k - l.base - 1)) None (λ z. z ≡ Some e → P e.payload)
    (λ _ at. subst (λ (z : Entry). P z.payload) (get_or_from_slice_get l.entries (k - l.base - 1) e e at) (h.entries (k - l.base - 1) e (slice_get_within l.entries (k - l.base - 1) e at)))
    (λ _ none. absurd (none_some none))
  where
    none_some : ◌≡◌ {A = Option Entry} None (Some e) → ⊥
    none_some x = cc
