-- Each message that a range's Raft sends is for one of the range's nodes.
use Rattle.std.proofs.Common.{◌≡◌, ℕ, zero, suc, ◌+◌, ◌<◌, ◌≤◌, ⊎_elim, max, min, Bool, true, false, cond, not, ◌&&◌, eqb, ltb, leb, Option, Some, None, List, [], ◌∷◌, map, length, get_or, set, replicate, refl, sym, ap, subst, ◌∙◌, arith}
use Rattle.std.specs.Prelude.{slice_get}
use Rattle.std.specs.Option.{option_map_or}
use Rattle.std.specs.List.{AllByRecursion as Every}
use Rattle.std.proofs.lemmas.Bool.{cond_both, cases_lt}
use Rattle.std.proofs.lemmas.List.{length-set}
use Rattle.rp_base.proofs.Elements.{all_filter}
use Rattle.rp_raftlog.specs.declared.entries.Entry.{Entry}
use Rattle.rp_raftlog.specs.LogState.{log_at, last_index, last_term, entry_at, has_term, matches, accepted, accepted_to}
use Rattle.rp_raftstep.specs.declared.heads.Head.{Head}
use Rattle.rp_raftstep.specs.declared.heads.Due.{Due}
use Rattle.rp_raftstep.specs.declared.heads.Due.TheVariants.{Nobody, One, Everyone}
use Rattle.rp_raftstep.specs.declared.messages.Message.{Message}
use Rattle.rp_raftstep.specs.declared.messages.Message.TheVariants.{Vote, VoteReply, Append, AppendReply, Forward, Snap}
use Rattle.rp_raftstep.specs.RaftState.{RaftState, is_leader, is_candidate, with_node, nodes_to, peers, restarted}
use Rattle.rp_raftstep.specs.Step.{Draft, quiet, answered, sends_to, with_payloads, leading, is_elected, elected, tick_leading, candidate, stand, patience, tick_waiting, tick, observed, is_up_to_date, may_vote, on_vote, on_vote_reply, following, refused_old, take_append, on_append, on_mismatch, on_match, next_after, on_append_reply, on_forward, take_snap, on_snap, received, forwards, then_proposed, committable, advanced, to_peer, due_peers, last_sends}
use Rattle.rp_raftsafe.specs.World.{Range, Replica, Status, Absent, Live, Removed, Site, World, Turn, stays, first, by_raft, applied_one, Action, Begin, Ticks, Proposes, Applies, Cuts, Removes, Restarts, acts, gets, site, with_site, after_turn, message_of, Event, Acts, Comes, comes, happens, run, nowhere, world_after}
use Rattle.rp_raftsafe.proofs.Pieces.{every_append, every_map}
use Rattle.rp_script.specs.Bounds.{IsNode}
use Rattle.rp_journals.proofs.Lists.{all_push}
use Rattle.rp_lawful.proofs.Buffers.{each_set, get_same}

-- a leader that is known is a node
abbrev pub LeaderIn : ℕ → Option ℕ → Type 0
LeaderIn n None = Unit {0}
LeaderIn n (Some leader) = IsNode n leader

pub record HeadIn (n : ℕ) (head : Head) : Type 0 where
  pub nodes : head.nodes ≡ n
  pub node : IsNode n head.node
  pub leader : LeaderIn n head.leader

abbrev DueIn : ℕ → Due → Type 0
DueIn n Nobody = Unit {0}
DueIn n (One peer) = IsNode n peer
DueIn n Everyone = Unit {0}

-- it is for a node
abbrev pub IsFor : {S : Type 0} → ℕ → ℕ × Message S → Type 0
IsFor n sent = IsNode n sent.0

record DraftIn {S : Type 0} (n : ℕ) (d : Draft S) : Type 0 where
  head : HeadIn n d.state.head
  replies : Every (λ (m : ℕ × Message S). IsFor n m) d.replies
  due : DueIn n d.due

-- the peers are nodes
numbers_in : (m n : ℕ) → n ≤ m → Every (λ (x : ℕ). IsNode m x) (nodes_to n)
numbers_in m zero le = tt
numbers_in m (suc n) le = all_push (λ (x : ℕ). IsNode m x) (nodes_to n) (suc n) (numbers_in m n (omega (arith, le))) (omega arith, omega (arith, le))

peers_in : (n : ℕ) (head : Head) → head.nodes ≡ n → Every (λ (x : ℕ). IsNode n x) (peers head)
peers_in n head is = all_filter (λ (x : ℕ). IsNode n x) (λ node. not (eqb node head.node)) (nodes_to head.nodes) (numbers_in n head.nodes (omega (arith, is)))

-- a head with the same nodes and the same leader
same_head : (n : ℕ) (a b : Head) → b.nodes ≡ a.nodes → b.node ≡ a.node → b.leader ≡ a.leader → HeadIn n a → HeadIn n b
same_head n a b nodes node leader h = record { nodes = nodes ∙ h.nodes; node = subst (IsNode n) (sym node) h.node; leader = subst (LeaderIn n) (sym leader) h.leader }

following_in : (n : ℕ) (head : Head) (from : ℕ) → HeadIn n head → IsNode n from → HeadIn n (following head from)
following_in n head from h f = record { nodes = h.nodes; node = h.node; leader = f }

observed_in : (n : ℕ) (head : Head) (term : ℕ) → HeadIn n head → HeadIn n (observed head term)
observed_in n head term h = cond_both (ltb head.term term) _ head (HeadIn n) (λ _. record { nodes = h.nodes; node = h.node; leader = tt }) (λ _. h)

advanced_in : (n : ℕ) (st : RaftState) → HeadIn n st.head → HeadIn n (advanced st).head
advanced_in n st h = cond_both (is_leader st.head.role) (record st { head = record st.head { commit = max st.head.commit (committable st) } }) st (λ z. HeadIn n z.head) (λ _. same_head n st.head _ refl refl refl h) (λ _. h)

due_in : (n : ℕ) (head : Head) (due : Due) → head.nodes ≡ n → DueIn n due → Every (λ (x : ℕ). IsNode n x) (due_peers head due)
due_in n head Nobody is d = tt
due_in n head (One peer) is d = (d, tt)
due_in n head Everyone is d = peers_in n head is

module _ {S : Type 0} (n : ℕ) where
  quiet_in : (st : RaftState) → HeadIn n st.head → DraftIn {S = S} n (quiet st)
  quiet_in st h = record { head = h; replies = tt; due = tt }

  sends_in : (st : RaftState) (due : Due) → HeadIn n st.head → DueIn n due → DraftIn {S = S} n (sends_to st due)
  sends_in st due h d = record { head = h; replies = tt; due = d }

  answered_in : (st : RaftState) (to : ℕ) (m : Message S) → HeadIn n st.head → IsNode n to → DraftIn n (answered st to m)
  answered_in st to m h t = record { head = h; replies = (t, tt); due = tt }

  elected_in : (st : RaftState) → HeadIn n st.head → DraftIn {S = S} n (elected st)
  elected_in st h =
      cond_both (is_elected st.head) (sends_to (leading st) Everyone) (quiet st) (λ d. DraftIn {S = S} n d)
      (λ _. sends_in (leading st) Everyone (record { nodes = h.nodes; node = h.node; leader = h.node }) tt)
      (λ _. quiet_in st h)

  tick_in : (st : RaftState) → HeadIn n st.head → DraftIn {S = S} n (tick st)
  tick_in st h =
      cond_both (is_leader st.head.role) (tick_leading st) (tick_waiting st) (λ d. DraftIn {S = S} n d)
      (λ _.
      cond_both (eqb (st.head.beat + 1) 2) (sends_to (record st { head = record st.head { beat = 0 } }) Everyone) (quiet (record st { head = record st.head { beat = st.head.beat + 1 } })) (λ d. DraftIn {S = S} n d)
      (λ _. sends_in (record st { head = record st.head { beat = 0 } }) Everyone (same_head n st.head _ refl refl refl h) tt)
      (λ _. quiet_in (record st { head = record st.head { beat = st.head.beat + 1 } }) (same_head n st.head _ refl refl refl h)))
      (λ _.
      cond_both (eqb (st.head.silent + 1) (patience st.head.node)) (stand st) (quiet (record st { head = record st.head { silent = st.head.silent + 1 } })) (λ d. DraftIn {S = S} n d)
      (λ _.
      let c : HeadIn n (candidate st.head) = record { nodes = h.nodes; node = h.node; leader = tt } in
      let e : DraftIn {S = S} n (elected (record st { head = candidate st.head })) = elected_in (record st { head = candidate st.head }) c in
      record {
        head = e.head;
        replies = every_map (λ (m : ℕ × Message S). IsFor n m) (λ peer. (peer, Vote (st.head.term + 1) (last_index st.log) (last_term st.log))) (peers (candidate st.head)) (peers_in n (candidate st.head) h.nodes);
        due = e.due;
      })
      (λ _. quiet_in (record st { head = record st.head { silent = st.head.silent + 1 } }) (same_head n st.head _ refl refl refl h)))

  on_vote_in : (st : RaftState) (from t i it : ℕ) → HeadIn n st.head → IsNode n from → DraftIn {S = S} n (on_vote st from t i it)
  on_vote_in st from t i it h f =
      cond_both (eqb t st.head.term && may_vote st.head from && is_up_to_date st.log i it)
      (answered (record st { head = record st.head { vote = Some from; silent = 0 } }) from (VoteReply st.head.term true))
      (answered st from (VoteReply st.head.term false)) (λ d. DraftIn {S = S} n d)
      (λ _. answered_in (record st { head = record st.head { vote = Some from; silent = 0 } }) from (VoteReply st.head.term true) (same_head n st.head _ refl refl refl h) f)
      (λ _. answered_in st from (VoteReply st.head.term false) h f)

  on_vote_reply_in : (st : RaftState) (from t : ℕ) (granted : Bool) → HeadIn n st.head → DraftIn {S = S} n (on_vote_reply st from t granted)
  on_vote_reply_in st from t granted h =
      cond_both (granted && eqb t st.head.term && is_candidate st.head.role) (elected (record st { head = record st.head { votes = with_node st.head.votes from true } })) (quiet st) (λ d. DraftIn {S = S} n d)
      (λ _. elected_in (record st { head = record st.head { votes = with_node st.head.votes from true } }) (same_head n st.head _ refl refl refl h))
      (λ _. quiet_in st h)

  refused_in : (st : RaftState) (from : ℕ) → HeadIn n st.head → IsNode n from → DraftIn {S = S} n (refused_old st from)
  refused_in st from h f = answered_in st from (AppendReply st.head.term false st.head.commit) h f

  take_append_in : (st : RaftState) (from prev pt : ℕ) (es : List Entry) (commit : ℕ) → HeadIn n st.head → IsNode n from → DraftIn {S = S} n (take_append st from prev pt es commit)
  take_append_in st from prev pt es commit h f =
      cond_both (matches st.log prev pt)
      (answered (record { head = record st.head { commit = max st.head.commit (min commit (prev + length es)) }; log = accepted st.log prev es }) from (AppendReply st.head.term true (accepted_to st.log prev es)))
      (answered st from (AppendReply st.head.term false st.head.commit)) (λ d. DraftIn {S = S} n d)
      (λ _. answered_in (record { head = record st.head { commit = max st.head.commit (min commit (prev + length es)) }; log = accepted st.log prev es }) from (AppendReply st.head.term true (accepted_to st.log prev es)) (same_head n st.head _ refl refl refl h) f)
      (λ _. answered_in st from (AppendReply st.head.term false st.head.commit) h f)

  on_append_in : (st : RaftState) (from t prev pt : ℕ) (es : List Entry) (commit : ℕ) → HeadIn n st.head → IsNode n from → DraftIn {S = S} n (on_append st from t prev pt es commit)
  on_append_in st from t prev pt es commit h f =
      cond_both (ltb t st.head.term) (refused_old st from) (take_append (record st { head = following st.head from }) from prev pt es commit) (λ d. DraftIn {S = S} n d)
      (λ _. refused_in st from h f)
      (λ _. take_append_in (record st { head = following st.head from }) from prev pt es commit (following_in n st.head from h f) f)

  on_append_reply_in : (st : RaftState) (from t : ℕ) (said : Bool) (index : ℕ) → HeadIn n st.head → IsNode n from → DraftIn {S = S} n (on_append_reply st from t said index)
  on_append_reply_in st from t said index h f =
      cond_both (is_leader st.head.role && eqb t st.head.term) (cond said (on_match st from index) (on_mismatch st from index)) (quiet st) (λ d. DraftIn {S = S} n d)
      (λ _.
      cond_both said (on_match st from index) (on_mismatch st from index) (λ d. DraftIn {S = S} n d)
      (λ _. record {
        head = same_head n st.head _ refl refl refl h;
        replies = tt;
        due = cond_both (leb (next_after st from index) (last_index st.log)) (One from) Nobody (DueIn n) (λ _. f) (λ _. tt);
      })
      (λ _. record { head = same_head n st.head _ refl refl refl h; replies = tt; due = f }))
      (λ _. quiet_in st h)

  on_forward_in : (st : RaftState) (payload : List ℕ) → HeadIn n st.head → DraftIn {S = S} n (on_forward st payload)
  on_forward_in st payload h =
      cond_both (is_leader st.head.role) (sends_to (with_payloads st (payload ∷ [])) Everyone) (quiet st) (λ d. DraftIn {S = S} n d)
      (λ _. sends_in (with_payloads st (payload ∷ [])) Everyone h tt)
      (λ _. quiet_in st h)

  take_snap_in : (st : RaftState) (from i it : ℕ) (s : S) → HeadIn n st.head → IsNode n from → DraftIn n (take_snap st from i it s)
  take_snap_in st from i it s h f =
      let reset : Draft S = record { state = record { head = record st.head { commit = i }; log = log_at i it }; replies = (from, AppendReply st.head.term true i) ∷ []; due = Nobody; taken = Some (i, s) } in
      cond_both (leb i st.head.commit) (answered st from (AppendReply st.head.term true st.head.commit))
      (cond (has_term st.log i it) (answered (record st { head = record st.head { commit = i } }) from (AppendReply st.head.term true i)) reset) (λ d. DraftIn n d)
      (λ _. answered_in st from (AppendReply st.head.term true st.head.commit) h f)
      (λ _.
      cond_both (has_term st.log i it) (answered (record st { head = record st.head { commit = i } }) from (AppendReply st.head.term true i)) reset (λ d. DraftIn n d)
      (λ _. answered_in (record st { head = record st.head { commit = i } }) from (AppendReply st.head.term true i) (same_head n st.head _ refl refl refl h) f)
      (λ _. record { head = same_head n st.head _ refl refl refl h; replies = (f, tt); due = tt }))

  on_snap_in : (st : RaftState) (from t i it : ℕ) (s : S) → HeadIn n st.head → IsNode n from → DraftIn n (on_snap st from t i it s)
  on_snap_in st from t i it s h f =
      cond_both (ltb t st.head.term) (refused_old st from) (take_snap (record st { head = following st.head from }) from i it s) (λ d. DraftIn n d)
      (λ _. refused_in st from h f)
      (λ _. take_snap_in (record st { head = following st.head from }) from i it s (following_in n st.head from h f) f)

  received_in : (st : RaftState) (from : ℕ) (m : Message S) → HeadIn n st.head → IsNode n from → DraftIn n (received st from m)
  received_in st from (Vote t i it) h f = on_vote_in (record st { head = observed st.head t }) from t i it (observed_in n st.head t h) f
  received_in st from (VoteReply t granted) h f = on_vote_reply_in (record st { head = observed st.head t }) from t granted (observed_in n st.head t h)
  received_in st from (Append t prev pt es commit) h f = on_append_in (record st { head = observed st.head t }) from t prev pt es commit (observed_in n st.head t h) f
  received_in st from (AppendReply t said index) h f = on_append_reply_in (record st { head = observed st.head t }) from t said index (observed_in n st.head t h) f
  received_in st from (Forward payload) h f = on_forward_in st payload h
  received_in st from (Snap t i it x) h f = on_snap_in (record st { head = observed st.head t }) from t i it x (observed_in n st.head t h) f

  then_proposed_in : (d : Draft S) (payloads : List (List ℕ)) → DraftIn n d → DraftIn n (then_proposed d payloads)
  then_proposed_in d payloads h = record {
    head = cond_both (is_leader d.state.head.role) (with_payloads d.state payloads) d.state (λ z. HeadIn n z.head) (λ _. h.head) (λ _. h.head);
    replies = every_append (λ (m : ℕ × Message S). IsFor n m) d.replies (forwards d.state payloads) h.replies
        (cond_both (is_leader d.state.head.role) [] (option_map_or (λ leader. map (λ payload. (leader, Forward payload)) payloads) d.state.head.leader []) (λ z. Every (λ (m : ℕ × Message S). IsFor n m) z) (λ _. tt) (λ _. to_leader d.state.head.leader h.head.leader));
    due = cond_both (is_leader d.state.head.role && ltb 0 (length payloads)) Everyone d.due (DueIn n) (λ _. tt) (λ _. h.due);
  } where
    each : (l : ℕ) → IsNode n l → (ps : List (List ℕ)) → Every (λ (m : ℕ × Message S). IsFor n m) (map (λ payload. (l, Forward payload)) ps)
    each l is [] = tt
    each l is (x ∷ xs) = (is, each l is xs)

    to_leader : (l : Option ℕ) → LeaderIn n l → Every (λ (m : ℕ × Message S). IsFor n m) (option_map_or (λ leader. map (λ payload. (leader, Forward payload)) payloads) l [])
    to_leader None is = tt
    to_leader (Some l) is = each l is payloads

  abbrev StatusIn : Status S → Type 0
  StatusIn Absent = Unit {0}
  StatusIn (Live r) = HeadIn n r.raft.head
  StatusIn Removed = Unit {0}

  record TurnIn (t : Turn S) : Type 0 where
    status : StatusIn t.status
    sends : Every (λ (m : ℕ × Message S). IsFor n m) t.sends

  by_raft_in : (r : Replica S) (draft : Draft S) (again : List (List ℕ)) → DraftIn n draft → TurnIn (by_raft r draft again)
  by_raft_in r draft again h =
      let more : DraftIn n (then_proposed draft again) = then_proposed_in draft again h in
      let after : HeadIn n (advanced (then_proposed draft again).state).head = advanced_in n (then_proposed draft again).state more.head in
      record {
        status = after;
        sends = every_append (λ (m : ℕ × Message S). IsFor n m) (then_proposed draft again).replies (last_sends r.applied r.state (advanced (then_proposed draft again).state) (then_proposed draft again).due) more.replies
            (every_map (λ (m : ℕ × Message S). IsFor n m) (λ peer. (peer, to_peer r.applied r.state (advanced (then_proposed draft again).state) peer)) (due_peers (advanced (then_proposed draft again).state).head (then_proposed draft again).due)
            (due_in n (advanced (then_proposed draft again).state).head (then_proposed draft again).due after.nodes more.due));
      }

  stays_in : (s : Status S) → StatusIn s → TurnIn (stays s)
  stays_in s h = record { status = h; sends = tt }

-- a range whose holder is one of its nodes
module _ {S : Type 0} (g : Range S) (holder : IsNode g.nodes g.holder) where
  acts_in : (node : ℕ) → IsNode g.nodes node → (action : Action) (s : Status S) → StatusIn g.nodes s → TurnIn g.nodes (acts g node action s)
  acts_in node is Begin Absent h = stays_in g.nodes (Live (first g node)) (record { nodes = refl; node = is; leader = holder })
  acts_in node is (Ticks again) Absent h = stays_in g.nodes Absent tt
  acts_in node is (Proposes payloads) Absent h = stays_in g.nodes Absent tt
  acts_in node is Applies Absent h = stays_in g.nodes Absent tt
  acts_in node is Cuts Absent h = stays_in g.nodes Absent tt
  acts_in node is Removes Absent h = stays_in g.nodes Absent tt
  acts_in node is Restarts Absent h = stays_in g.nodes Absent tt
  acts_in node is Begin (Live r) h = stays_in g.nodes (Live r) h
  acts_in node is (Ticks again) (Live r) h = by_raft_in g.nodes r (tick r.raft) again (tick_in g.nodes r.raft h)
  acts_in node is (Proposes payloads) (Live r) h = by_raft_in g.nodes r (quiet r.raft) payloads (quiet_in g.nodes r.raft h)
  acts_in node is Applies (Live r) h =
      cond_both (ltb r.applied r.raft.head.commit) (option_map_or (applied_one g r) (entry_at r.raft.log (r.applied + 1)) (stays (Live r))) (stays (Live r)) (λ t. TurnIn g.nodes t)
      (λ _. one (entry_at r.raft.log (r.applied + 1)))
      (λ _. stays_in g.nodes (Live r) h)
    where
      one : (o : Option Entry) → TurnIn g.nodes (option_map_or (applied_one g r) o (stays (Live r)))
      one None = stays_in g.nodes (Live r) h
      one (Some e) = stays_in g.nodes (Live (record r { applied = r.applied + 1; state = g.act r.state e })) h
  acts_in node is Cuts (Live r) h = record { status = h; sends = tt }
  acts_in node is Removes (Live r) h = stays_in g.nodes Removed tt
  acts_in node is Restarts (Live r) h = stays_in g.nodes (Live (record r { raft = restarted r.applied r.raft })) (record { nodes = h.nodes; node = h.node; leader = tt })
  acts_in node is action Removed h = stays_in g.nodes Removed tt

  gets_in : (node from : ℕ) → IsNode g.nodes node → IsNode g.nodes from → (m : Message S) (again : List (List ℕ)) (s : Status S) → StatusIn g.nodes s → TurnIn g.nodes (gets g node from m again s)
  gets_in node from is f m again (Live r) h = by_raft_in g.nodes r (received r.raft from m) again (received_in g.nodes r.raft from m h f)
  gets_in node from is f m again Removed h = stays_in g.nodes Removed tt
  gets_in node from is f (Vote t i it) again Absent h = record { status = tt; sends = tt }
  gets_in node from is f (VoteReply t granted) again Absent h = record { status = tt; sends = tt }
  gets_in node from is f (Append t prev pt es commit) again Absent h = record { status = tt; sends = (f, tt) }
  gets_in node from is f (AppendReply t said index) again Absent h = record { status = tt; sends = tt }
  gets_in node from is f (Forward payload) again Absent h = record { status = tt; sends = tt }
  gets_in node from is f (Snap t i it x) again Absent h = record { status = record { nodes = refl; node = is; leader = f }; sends = (f, tt) }

  record SiteIn (s : Site S) : Type 0 where
    status : StatusIn g.nodes s.status
    sent : Every (λ (m : ℕ × Message S). IsFor g.nodes m) s.sent

  record WorldIn (w : World S) : Type 0 where
    size : length w ≡ g.nodes
    each : (place : ℕ) → SiteIn (get_or w place (record { status = Absent; sent = [] }))

  empty_site : SiteIn (record { status = Absent; sent = [] })
  empty_site = record { status = tt; sent = tt }

  site_in : (w : World S) → WorldIn w → (node : ℕ) → SiteIn (site w node)
  site_in w h zero = empty_site
  site_in w h (suc place) = h.each place

  -- a write behind the end is none
  set_past : {X : Type 0} (xs : List X) (i : ℕ) (x : X) → length xs ≤ i → set xs i x ≡ xs
  set_past [] i x past = refl
  set_past (y ∷ xs) zero x past = absurd (omega (arith, past))
  set_past (y ∷ xs) (suc i) x past = ap (λ l. y ∷ l) (set_past xs i x (omega (arith, past)))

  turned : (w : World S) → WorldIn w → (node : ℕ) (t : Turn S) → (IsNode g.nodes node → TurnIn g.nodes t) → WorldIn (with_site w node (after_turn (site w node) t))
  turned w h zero t k = h
  turned w h (suc place) t k = ⊎_elim
      (λ (within : place < length w).
      let size = h.size in
      let turn : TurnIn g.nodes t = k (omega arith, omega (arith, within, size)) in
      let old : SiteIn (site w (suc place)) = h.each place in
      record {
        size = length-set w place (after_turn (site w (suc place)) t) ∙ h.size;
        each = each_set SiteIn w place (after_turn (site w (suc place)) t) (record { status = Absent; sent = [] }) h.each
            (record { status = turn.status; sent = every_append (λ (m : ℕ × Message S). IsFor g.nodes m) (site w (suc place)).sent t.sends old.sent turn.sends });
      })
      (λ (past : length w ≤ place). subst WorldIn (sym (set_past w place (after_turn (site w (suc place)) t) past)) h)
      (cases_lt place (length w))

  -- a sender is a node
  sender_in : (w : World S) → WorldIn w → (from number : ℕ) (m : ℕ × Message S) → message_of (site w from) number ≡ Some m → IsNode g.nodes from
  sender_in w h zero number m e = absurd (none number e) where
    none : (number : ℕ) → ◌≡◌ {A = Option (ℕ × Message S)} (message_of (record { status = Absent; sent = [] }) number) (Some m) → ⊥
    none zero e' = cc
    none (suc number) e' = cc
  sender_in w h (suc place) number m e = ⊎_elim
      (λ (within : place < length w). let size = h.size in (omega arith, omega (arith, within, size)))
      (λ (past : length w ≤ place). absurd (none number (sym (ap (λ (s : Site S). message_of s number) (get_past w place past)) ∙ e)))
      (cases_lt place (length w))
    where
      get_past : (xs : World S) (i : ℕ) → length xs ≤ i → get_or xs i (record { status = Absent; sent = [] }) ≡ record { status = Absent; sent = [] }
      get_past [] i past = refl
      get_past (y ∷ xs) zero past = absurd (omega (arith, past))
      get_past (y ∷ xs) (suc i) past = get_past xs i (omega (arith, past))

      none : (number : ℕ) → ◌≡◌ {A = Option (ℕ × Message S)} (message_of (record { status = Absent; sent = [] }) number) (Some m) → ⊥
      none zero e' = cc
      none (suc number) e' = cc

  every_at : (xs : List (ℕ × Message S)) (i : ℕ) (m : ℕ × Message S) → Every (λ (x : ℕ × Message S). IsFor g.nodes x) xs → slice_get xs i ≡ Some m → IsNode g.nodes m.0
  every_at [] i m h e = absurd cc
  every_at (x ∷ xs) zero m h e = subst (λ (y : ℕ × Message S). IsFor g.nodes y) (some_is x m e) h.0 where
    some_is : (a b : ℕ × Message S) → ◌≡◌ {A = Option (ℕ × Message S)} (Some a) (Some b) → a ≡ b
    some_is a b f = cc
  every_at (x ∷ xs) (suc i) m h e = every_at xs i m h.1 e

  message_in : (w : World S) → WorldIn w → (from number : ℕ) (m : ℕ × Message S) → message_of (site w from) number ≡ Some m → IsNode g.nodes m.0
  message_in w h from number m e = go number e where
    go : (number : ℕ) → message_of (site w from) number ≡ Some m → IsNode g.nodes m.0
    go zero e' = absurd (none e') where
      none : ◌≡◌ {A = Option (ℕ × Message S)} None (Some m) → ⊥
      none f = cc
    go (suc place) e' = every_at (site w from).sent place m (site_in w h from).sent e'

  happens_in : (w : World S) → WorldIn w → (event : Event) → WorldIn (happens g w event)
  happens_in w h (Acts node action) = turned w h node (acts g node action (site w node).status) (λ is. acts_in node is action (site w node).status (site_in w h node).status)
  happens_in w h (Comes from number again) = go (message_of (site w from) number) refl where
    go : (o : Option (ℕ × Message S)) → message_of (site w from) number ≡ o → WorldIn (option_map_or (comes g w from again) o w)
    go None e = h
    go (Some m) e = turned w h m.0 (gets g m.0 from m.1 again (site w m.0).status) (λ is. gets_in m.0 from is (sender_in w h from number m e) m.1 again (site w m.0).status (site_in w h m.0).status)

  run_in : (events : List Event) (w : World S) → WorldIn w → WorldIn (run g events w)
  run_in [] w h = h
  run_in (e ∷ events) w h = run_in events (happens g w e) (happens_in w h e)

  lengths : (n : ℕ) → length {A = Site S} (replicate n (record { status = Absent; sent = [] })) ≡ n
  lengths zero = refl
  lengths (suc n) = let more = lengths n in omega (arith, more)

  -- each message is for a node
  pub addressed : (events : List Event) (from number : ℕ) (m : ℕ × Message S) → message_of (site (world_after g events) from) number ≡ Some m → IsNode g.nodes m.0
  addressed events from number m e = message_in (world_after g events) (run_in events (nowhere g) (record { size = lengths g.nodes; each = λ place. subst SiteIn (sym (get_same g.nodes (record { status = Absent; sent = [] }) place)) empty_site })) from number m e

  -- a replica knows how many nodes there are, its own number, and a leader that is a node
  pub live_in : (events : List Event) (node : ℕ) (r : Replica S) → (site (world_after g events) node).status ≡ Live r → HeadIn g.nodes r.raft.head
  live_in events node r is = subst (StatusIn g.nodes) is (site_in (world_after g events) (run_in events (nowhere g) (record { size = lengths g.nodes; each = λ place. subst SiteIn (sym (get_same g.nodes (record { status = Absent; sent = [] }) place)) empty_site })) node).status
