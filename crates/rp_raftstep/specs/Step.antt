-- The Raft step: what an event makes of a replica's Raft, and what it sends. A definition for each
-- row of events and messages, and last the messages made from the state that the event leaves.
use Rattle.std.specs.Prelude.{ℕ, zero, suc, ◌+◌, ◌-◌, ◌*◌, max, min, Bool, true, false, ◌&&◌, ◌||◌, Option, Some, None, List, [], ◌∷◌, ◌++◌, map, length, take, unwrap_or, nat_lt, nat_le, ◌==◌, if◌then◌else◌, count_by}
use Rattle.std.specs.Option.{option_map_or}
use Rattle.rp_raftlog.specs.declared.entries.Entry.{Entry}
use Rattle.rp_raftlog.specs.LogState.{LogState, log_at, last_index, last_term, term_at, has_term, suffix, appended, accepted, accepted_to, matches, cut}
use Rattle.rp_raftstep.specs.declared.heads.Role.TheVariants.{Follower, Candidate, Leader}
use Rattle.rp_raftstep.specs.declared.heads.Due.{Due}
use Rattle.rp_raftstep.specs.declared.heads.Due.TheVariants.{Nobody, One, Everyone}
use Rattle.rp_raftstep.specs.declared.heads.Head.{Head}
use Rattle.rp_raftstep.specs.declared.messages.Message.{Message}
use Rattle.rp_raftstep.specs.declared.messages.Message.TheVariants.{Vote, VoteReply, Append, AppendReply, Forward, Snap}
use Rattle.rp_raftstep.specs.declared.events.RaftEvent.{RaftEvent}
use Rattle.rp_raftstep.specs.declared.events.RaftEvent.TheVariants.{Tick, Receive, Propose, Cut}
use Rattle.rp_raftstep.specs.declared.events.RaftOut.{RaftOut}
use Rattle.rp_raftstep.specs.RaftState.{RaftState, is_leader, is_candidate, of_node, with_node, for_each_node, peers, is_majority}

-- an event but for the messages that are made last: the state that it leaves, the votes and
-- replies and forwards, the peers that are sent to, and the snapshot that is taken in
pub record Draft (S : Type 0) : Type 0 where
  pub state : RaftState
  pub replies : List (ℕ × Message S)
  pub due : Due
  pub taken : Option (ℕ × S)

-- nothing is sent
abbrev pub quiet : {S : Type 0} → RaftState → Draft S
quiet st = record { state = st; replies = []; due = Nobody; taken = None }

-- one message is sent
abbrev pub answered : {S : Type 0} → RaftState → ℕ → Message S → Draft S
answered st to message = record { state = st; replies = (to, message) ∷ []; due = Nobody; taken = None }

-- these peers are sent to
abbrev pub sends_to : {S : Type 0} → RaftState → Due → Draft S
sends_to st due = record { state = st; replies = []; due = due; taken = None }

-- the bytes of the payload Nothing: version 1, kind 0
abbrev pub nothing : List ℕ
nothing = 1 ∷ 0 ∷ []

-- these payloads stand at the log's end, with the present term
abbrev pub with_payloads : RaftState → List (List ℕ) → RaftState
with_payloads st payloads =
    record st { log = appended st.log (map (λ payload. record { term = st.head.term; payload = payload }) payloads) }

-- a majority has voted: the candidate leads, and appends an entry Nothing (Raft 2014, 5.2 and 8)
abbrev pub leading : RaftState → RaftState
leading st = with_payloads
    (record st {
      head = record st.head {
        role = Leader;
        leader = Some st.head.node;
        next = for_each_node (last_index st.log + 1);
        matched = for_each_node 0;
        silent = 0;
        beat = 0;
      };
    })
    (nothing ∷ [])

-- whether a majority has voted for the candidate
abbrev pub is_elected : Head → Bool
is_elected head = is_majority head (count_by (λ voted. voted) (take head.nodes head.votes))

-- a candidate leads where a majority has voted
abbrev pub elected : {S : Type 0} → RaftState → Draft S
elected st = if is_elected st.head then sends_to (leading st) Everyone else quiet st

-- Tick, as leader
abbrev pub tick_leading : {S : Type 0} → RaftState → Draft S
tick_leading st =
    if st.head.beat + 1 == 2
    then sends_to (record st { head = record st.head { beat = 0 } }) Everyone
    else quiet (record st { head = record st.head { beat = st.head.beat + 1 } })

-- a node that has heard of no leader for long enough stands for election in the next term
abbrev pub candidate : Head → Head
candidate head = record head {
  term = head.term + 1;
  vote = Some head.node;
  role = Candidate;
  leader = None;
  votes = with_node (for_each_node false) head.node true;
  silent = 0;
}

-- the requests for votes
abbrev pub requests : {S : Type 0} → RaftState → List (ℕ × Message S)
requests st = map (λ peer. (peer, Vote st.head.term (last_index st.log) (last_term st.log))) (peers st.head)

-- it asks all others for their votes; its own may be a majority
abbrev pub stand : {S : Type 0} → RaftState → Draft S
stand st = record (elected (record st { head = candidate st.head })) { replies = requests (record st { head = candidate st.head }) }

-- how many ticks a node waits for a leader
abbrev pub patience : ℕ → ℕ
patience node = 10 + 3 * node

-- Tick, as follower or candidate
abbrev pub tick_waiting : {S : Type 0} → RaftState → Draft S
tick_waiting st =
    if st.head.silent + 1 == patience st.head.node
    then stand st
    else quiet (record st { head = record st.head { silent = st.head.silent + 1 } })

-- Tick
abbrev pub tick : {S : Type 0} → RaftState → Draft S
tick st = if is_leader st.head.role then tick_leading st else tick_waiting st

-- any message but Forward with a higher term: that term comes first
abbrev pub observed : Head → ℕ → Head
observed head term = if nat_lt head.term term then record head { term = term; vote = None; role = Follower; leader = None } else head

-- whether a log that ends so is at least as up to date as the replica's (Raft 2014, 5.4.1)
abbrev pub is_up_to_date : LogState → ℕ → ℕ → Bool
is_up_to_date log index term = nat_lt (last_term log) term || ((last_term log == term) && nat_le (last_index log) index)

-- whether the vote of this term is free for the node, or is its own already
abbrev pub may_vote : Head → ℕ → Bool
may_vote head node = option_map_or (λ vote. vote == node) head.vote true

-- Vote
abbrev pub on_vote : {S : Type 0} → RaftState → ℕ → ℕ → ℕ → ℕ → Draft S
on_vote st from term index index_term =
    if (term == st.head.term) && may_vote st.head from && is_up_to_date st.log index index_term
    then answered (record st { head = record st.head { vote = Some from; silent = 0 } }) from (VoteReply st.head.term true)
    else answered st from (VoteReply st.head.term false)

-- VoteReply
abbrev pub on_vote_reply : {S : Type 0} → RaftState → ℕ → ℕ → Bool → Draft S
on_vote_reply st from term granted =
    if granted && (term == st.head.term) && is_candidate st.head.role
    then elected (record st { head = record st.head { votes = with_node st.head.votes from true } })
    else quiet st

-- the sender leads the present term
abbrev pub following : Head → ℕ → Head
following head from = record head { role = Follower; leader = Some from; silent = 0 }

-- an Append or a Snap of a lower term
abbrev pub refused_old : {S : Type 0} → RaftState → ℕ → Draft S
refused_old st from = answered st from (AppendReply st.head.term false st.head.commit)

-- Append of the present term (Raft 2014, section 5.3)
abbrev pub take_append : {S : Type 0} → RaftState → ℕ → ℕ → ℕ → List Entry → ℕ → Draft S
take_append st from prev_index prev_term entries commit =
    if matches st.log prev_index prev_term
    then answered
    (record {
      head = record st.head { commit = max st.head.commit (min commit (prev_index + length entries)) };
      log = accepted st.log prev_index entries;
    })
    from
    (AppendReply st.head.term true (accepted_to st.log prev_index entries))
    else answered st from (AppendReply st.head.term false st.head.commit)

-- Append
abbrev pub on_append : {S : Type 0} → RaftState → ℕ → ℕ → ℕ → ℕ → List Entry → ℕ → Draft S
on_append st from term prev_index prev_term entries commit =
    if nat_lt term st.head.term
    then refused_old st from
    else take_append (record st { head = following st.head from }) from prev_index prev_term entries commit

-- AppendReply, false: the peer is sent to from there on
abbrev pub on_mismatch : {S : Type 0} → RaftState → ℕ → ℕ → Draft S
on_mismatch st from index =
    sends_to
    (record st { head = record st.head { next = with_node st.head.next from (min (max index (of_node st.head.matched from 0) + 1) (last_index st.log + 1)) } })
    (One from)

-- up to which index the peer's log is as the leader's, after it said so
abbrev pub match_after : RaftState → ℕ → ℕ → ℕ
match_after st from index = max (of_node st.head.matched from 0) index

-- the next index for the peer, after that
abbrev pub next_after : RaftState → ℕ → ℕ → ℕ
next_after st from index = min (max (of_node st.head.next from 0) (match_after st from index + 1)) (last_index st.log + 1)

-- AppendReply, true: what is left is sent
abbrev pub on_match : {S : Type 0} → RaftState → ℕ → ℕ → Draft S
on_match st from index =
    sends_to
    (record st {
      head = record st.head {
        matched = with_node st.head.matched from (match_after st from index);
        next = with_node st.head.next from (next_after st from index);
      };
    })
    (if nat_le (next_after st from index) (last_index st.log) then One from else Nobody)

-- AppendReply
abbrev pub on_append_reply : {S : Type 0} → RaftState → ℕ → ℕ → Bool → ℕ → Draft S
on_append_reply st from term ok index =
    if is_leader st.head.role && (term == st.head.term)
    then (if ok then on_match st from index else on_mismatch st from index)
    else quiet st

-- Forward
abbrev pub on_forward : {S : Type 0} → RaftState → List ℕ → Draft S
on_forward st payload = if is_leader st.head.role then sends_to (with_payloads st (payload ∷ [])) Everyone else quiet st

-- a snapshot of a committed index is known; one that the log shows becomes committed; else it is
-- taken in
abbrev pub take_snap : {S : Type 0} → RaftState → ℕ → ℕ → ℕ → S → Draft S
take_snap st from index index_term snapshot =
    if nat_le index st.head.commit
    then answered st from (AppendReply st.head.term true st.head.commit)
    else (if has_term st.log index index_term
    then answered (record st { head = record st.head { commit = index } }) from (AppendReply st.head.term true index)
    else record {
      state = record { head = record st.head { commit = index }; log = log_at index index_term };
      replies = (from, AppendReply st.head.term true index) ∷ [];
      due = Nobody;
      taken = Some (index, snapshot);
    })

-- Snap (Raft 2014, section 7)
abbrev pub on_snap : {S : Type 0} → RaftState → ℕ → ℕ → ℕ → ℕ → S → Draft S
on_snap st from term index index_term snapshot =
    if nat_lt term st.head.term
    then refused_old st from
    else take_snap (record st { head = following st.head from }) from index index_term snapshot

-- a message comes
abbrev pub received : {S : Type 0} → RaftState → ℕ → Message S → Draft S
received st from (Vote term index index_term) = on_vote (record st { head = observed st.head term }) from term index index_term
received st from (VoteReply term granted) = on_vote_reply (record st { head = observed st.head term }) from term granted
received st from (Append term prev_index prev_term entries commit) = on_append (record st { head = observed st.head term }) from term prev_index prev_term entries commit
received st from (AppendReply term ok index) = on_append_reply (record st { head = observed st.head term }) from term ok index
received st from (Forward payload) = on_forward st payload
received st from (Snap term index index_term snapshot) = on_snap (record st { head = observed st.head term }) from term index index_term snapshot

-- the state after a Propose: a leader appends
abbrev pub proposed : RaftState → List (List ℕ) → RaftState
proposed st payloads = if is_leader st.head.role then with_payloads st payloads else st

-- the messages of a Propose: one that knows the leader forwards to it
abbrev pub forwards : {S : Type 0} → RaftState → List (List ℕ) → List (ℕ × Message S)
forwards st payloads =
    if is_leader st.head.role
    then []
    else option_map_or (λ leader. map (λ payload. (leader, Forward payload)) payloads) st.head.leader []

-- whom a Propose sends to, after an event that sends to these
abbrev pub due_after : RaftState → List (List ℕ) → Due → Due
due_after st payloads due = if is_leader st.head.role && nat_lt 0 (length payloads) then Everyone else due

-- Propose, in one event with what came before it
abbrev pub then_proposed : {S : Type 0} → Draft S → List (List ℕ) → Draft S
then_proposed draft payloads = record {
  state = proposed draft.state payloads;
  replies = draft.replies ++ forwards draft.state payloads;
  due = due_after draft.state payloads draft.due;
  taken = draft.taken;
}

-- a Propose alone
abbrev pub propose : {S : Type 0} → RaftState → List (List ℕ) → Draft S
propose st payloads = then_proposed (quiet st) payloads

-- how far the node's log is known to be as the leader's, for each node: a leader's own to its end
abbrev pub matched_by : RaftState → List ℕ
matched_by st = with_node st.head.matched st.head.node (last_index st.log)

-- whether a majority has the entry with this index
abbrev pub is_on_majority : RaftState → ℕ → Bool
is_on_majority st index = is_majority st.head (count_by (λ matched. nat_le index matched) (take st.head.nodes (matched_by st)))

-- the greatest number from 1 to n that passes, or 0
abbrev pub greatest : (ℕ → Bool) → ℕ → ℕ
greatest test zero = 0
greatest test (suc n) = if test (suc n) then suc n else greatest test n

-- whether the entry there is of the present term, and a majority has it (Raft 2014, 5.4.2)
abbrev pub is_committable : RaftState → ℕ → Bool
is_committable st index = has_term st.log index st.head.term && is_on_majority st index

-- the greatest such index
abbrev pub committable : RaftState → ℕ
committable st = greatest (is_committable st) (last_index st.log)

-- at the end of an event a leader moves its commit index on
abbrev pub advanced : RaftState → RaftState
advanced st =
    if is_leader st.head.role
    then record st { head = record st.head { commit = max st.head.commit (committable st) } }
    else st

-- how many entries an Append carries at most
abbrev pub most_entries : ℕ
most_entries = 8

-- what a leader sends to a peer: entries from the next index on, or its applied state where those
-- are cut away
abbrev pub to_peer : {S : Type 0} → ℕ → S → RaftState → ℕ → Message S
to_peer applied snapshot st peer =
    let next = of_node st.head.next peer 0 in
    if nat_lt (next - 1) st.log.base
    then Snap st.head.term applied (unwrap_or (term_at st.log applied) 0) snapshot
    else Append st.head.term (next - 1) (unwrap_or (term_at st.log (next - 1)) 0) (suffix st.log next most_entries) st.head.commit

-- the peers that are due, ascending
abbrev pub due_peers : Head → Due → List ℕ
due_peers head Nobody = []
due_peers head (One peer) = peer ∷ []
due_peers head Everyone = peers head

-- what is sent to these nodes
abbrev pub sends_among : {S : Type 0} → ℕ → S → RaftState → List ℕ → List (ℕ × Message S)
sends_among applied snapshot st nodes = map (λ node. (node, to_peer applied snapshot st node)) nodes

-- the messages that are made last
abbrev pub last_sends : {S : Type 0} → ℕ → S → RaftState → Due → List (ℕ × Message S)
last_sends applied snapshot st due = sends_among applied snapshot st (due_peers st.head due)

-- the state that an event leaves, and what it sends and takes in
pub record Done (S : Type 0) : Type 0 where
  pub state : RaftState
  pub out : RaftOut S

-- a draft with the messages that are made last, from the state that the event leaves
abbrev pub sent : {S : Type 0} → ℕ → S → Draft S → Done S
sent applied snapshot draft = record {
  state = advanced draft.state;
  out = record {
    messages = draft.replies ++ last_sends applied snapshot (advanced draft.state) draft.due;
    taken = draft.taken;
  };
}

-- a Cut: the log's base becomes this index, nothing is sent, and the commit index stays
abbrev pub cut_away : {S : Type 0} → RaftState → ℕ → Done S
cut_away st to = record {
  state = record st { log = cut st.log to };
  out = record { messages = []; taken = None };
}

-- the Raft step: an event of a replica that has applied up to an index, with the state there
abbrev pub step : {S : Type 0} → ℕ → S → RaftState → RaftEvent S → Done S
step applied snapshot st Tick = sent applied snapshot (tick st)
step applied snapshot st (Receive from message) = sent applied snapshot (received st from message)
step applied snapshot st (Propose payloads) = sent applied snapshot (propose st payloads)
step applied snapshot st (Cut to) = cut_away st to

-- an event with a Propose of these payloads that follows, as one event
abbrev pub step_then : {S : Type 0} → ℕ → S → Draft S → List (List ℕ) → Done S
step_then applied snapshot draft again = sent applied snapshot (then_proposed draft again)

-- what a node answers to an Append that has no replica and had none
abbrev pub absent_answer : {S : Type 0} → ℕ → Message S → List (ℕ × Message S)
absent_answer from (Vote term index index_term) = []
absent_answer from (VoteReply term granted) = []
absent_answer from (Append term prev_index prev_term entries commit) = (from, AppendReply term false 0) ∷ []
absent_answer from (AppendReply term ok index) = []
absent_answer from (Forward payload) = []
absent_answer from (Snap term index index_term snapshot) = (from, AppendReply term true index) ∷ []
