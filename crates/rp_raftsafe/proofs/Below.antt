-- Each event of a replica's Raft raises the bound of its numbers by a little.
use Rattle.std.proofs.Common.{ℕ, zero, suc, ◌+◌, ◌-◌, ◌<◌, ◌≤◌, max, min, Bool, true, false, cond, ◌&&◌, eqb, ltb, leb, Option, Some, None, List, [], ◌∷◌, ◌++◌, map, length, take, drop, get_or, sym, subst, arith, ⊎_elim, ltb-false, length-append, length-take, length-drop}
use Rattle.std.specs.Prelude.{slice_get, All}
use Rattle.std.specs.Option.{option_map, option_map_or, unwrap_or}
use Rattle.std.specs.List.{AllByRecursion as Every}
use Rattle.std.proofs.lemmas.Bool.{cond_both, cases_lt, eqb-false}
use Rattle.std.proofs.lemmas.Option.{slice_get-get_or, slice_get_past}
use Rattle.std.proofs.lemmas.List.{get_or_past, length-map}
use Rattle.std.proofs.lemmas.List.Elements.{All-weaker, All-append, All-map, All-take, All-drop, All-replicate, All-set, All-nil}
use Rattle.rp_raftlog.specs.declared.entries.Entry.{Entry}
use Rattle.rp_raftlog.specs.LogState.{LogState, log_at, last_index, last_term, entry_at, term_at, has_term, suffix, same_terms, Edit, edited, accepting, accepted, accepted_to, matches}
use Rattle.rp_raftstep.specs.declared.heads.Head.{Head}
use Rattle.rp_raftstep.specs.declared.heads.Role.TheVariants.{Follower, Leader}
use Rattle.rp_raftstep.specs.declared.heads.Due.{Due}
use Rattle.rp_raftstep.specs.declared.heads.Due.TheVariants.{Nobody, One, Everyone}
use Rattle.rp_raftstep.specs.declared.messages.Message.{Message}
use Rattle.rp_raftstep.specs.declared.messages.Message.TheVariants.{Vote, VoteReply, Append, AppendReply, Forward, Snap}
use Rattle.rp_raftstep.specs.RaftState.{RaftState, is_leader, is_candidate, of_node, with_node, for_each_node, peers}
use Rattle.rp_raftstep.specs.Step.{Draft, quiet, answered, sends_to, nothing, with_payloads, leading, is_elected, elected, tick_leading, candidate, requests, stand, patience, tick_waiting, tick, observed, is_up_to_date, may_vote, on_vote, on_vote_reply, following, refused_old, take_append, on_append, on_mismatch, match_after, next_after, on_match, on_append_reply, on_forward, take_snap, on_snap, received, forwards, then_proposed, greatest, committable, is_committable, advanced, most_entries, to_peer, due_peers, last_sends, sent}
use Rattle.rp_raftsafe.specs.Bounds.{RaftBelow, MessageBelow}
use Rattle.rp_raftsafe.proofs.Logs.{no_entry}
use Rattle.rp_raftsafe.proofs.Pieces.{every_append, every_map, every_all, every_of}
use Rattle.rp_raftsafe.proofs.Accept.{same_terms_left}

pub below_more : (b c : ℕ) (st : RaftState) → b ≤ c → RaftBelow b st → RaftBelow c st
below_more b c st le h = record {
  term = omega (arith, h.term);
  last = omega (arith, h.last);
  base_term = omega (arith, h.base_term);
  terms = All-weaker (λ (e : Entry). e.term ≤ b) (λ e. e.term ≤ c) (λ e lt. omega arith) st.log.entries h.terms;
  commit = omega (arith, h.commit);
  next = All-weaker (λ (n : ℕ). n ≤ b) (λ n. n ≤ c) (λ n lt. omega arith) st.head.next h.next;
  matched = All-weaker (λ (n : ℕ). n ≤ b) (λ n. n ≤ c) (λ n lt. omega arith) st.head.matched h.matched;
}

pub message_more : {S : Type 0} (b c : ℕ) (m : Message S) → b ≤ c → MessageBelow b m → MessageBelow c m
message_more b c (Vote t i it) le h = (omega (arith, h.0), omega (arith, h.1), omega (arith, h.2))
message_more b c (VoteReply t granted) le h = omega (arith, h)
message_more b c (Append t prev pt es commit) le h = (omega (arith, h.0), omega (arith, h.1), omega (arith, h.2), All-weaker (λ (e : Entry). e.term ≤ b) (λ e. e.term ≤ c) (λ e lt. omega arith) es h.3, omega (arith, h.4))
message_more b c (AppendReply t ok i) le h = (omega (arith, h.0), omega (arith, h.1))
message_more b c (Forward payload) le h = tt
message_more b c (Snap t i it s) le h = (omega (arith, h.0), omega (arith, h.1), omega (arith, h.2))

abbrev pub SentBelow : {S : Type 0} → ℕ → ℕ × Message S → Type 0
SentBelow b sent = MessageBelow b sent.1

pub sents_more : {S : Type 0} (b c : ℕ) (xs : List (ℕ × Message S)) → b ≤ c → Every (SentBelow b) xs → Every (SentBelow c) xs
sents_more b c xs le = every_of (SentBelow b) (SentBelow c) (λ x h. message_more b c x.1 le h) xs

-- a term of the log
pub log_term_le : (b : ℕ) (l : LogState) (k : ℕ) → l.base_term ≤ b → All (λ (e : Entry). e.term ≤ b) l.entries → unwrap_or (term_at l k) 0 ≤ b
log_term_le b l k base all =
    cond_both (eqb l.base k) (Some l.base_term) (option_map (λ (e : Entry). e.term) (entry_at l k)) (λ z. unwrap_or z 0 ≤ b)
    (λ _. base)
    (λ _.
    cond_both (ltb l.base k) (slice_get l.entries (k - l.base - 1)) None (λ z. unwrap_or (option_map (λ (e : Entry). e.term) z) 0 ≤ b)
    (λ _. at (k - l.base - 1))
    (λ _. omega arith))
  where
    at : (i : ℕ) → unwrap_or (option_map (λ (e : Entry). e.term) (slice_get l.entries i)) 0 ≤ b
    at i =
        ⊎_elim
        (λ (lt : i < length l.entries). subst (λ z. unwrap_or (option_map (λ (e : Entry). e.term) z) 0 ≤ b) (sym (slice_get-get_or l.entries i no_entry lt)) (all i no_entry lt))
        (λ (past : length l.entries ≤ i). subst (λ z. unwrap_or (option_map (λ (e : Entry). e.term) z) 0 ≤ b) (sym (slice_get_past l.entries i past)) (omega arith))
        (cases_lt i (length l.entries))

-- a place of a table
pub table_le : (b : ℕ) (xs : List ℕ) (k d : ℕ) → d ≤ b → All (λ n. n ≤ b) xs → get_or xs k d ≤ b
table_le b xs k d le all =
    ⊎_elim
    (λ (lt : k < length xs). all k d lt)
    (λ (past : length xs ≤ k). subst (λ z. z ≤ b) (sym (get_or_past xs k d past)) le)
    (cases_lt k (length xs))

abbrev pub TakenBelow : {S : Type 0} → ℕ → Option (ℕ × S) → Type 0
TakenBelow b None = Unit {0}
TakenBelow b (Some t) = t.0 < b

pub record DraftBelow {S : Type 0} (b : ℕ) (d : Draft S) : Type 0 where
  pub state : RaftBelow b d.state
  pub replies : Every (SentBelow b) d.replies
  pub taken : TakenBelow b d.taken

draft_more : {S : Type 0} (b c : ℕ) (d : Draft S) → b ≤ c → DraftBelow b d → DraftBelow c d
draft_more b c d le h = record { state = below_more b c d.state le h.state; replies = sents_more b c d.replies le h.replies; taken = taken_more d.taken h.taken }
  where
    taken_more : {S : Type 0} (t : Option (ℕ × S)) → TakenBelow b t → TakenBelow c t
    taken_more None k = tt
    taken_more (Some t) k = omega arith

pub quiet_below : {S : Type 0} (b : ℕ) (st : RaftState) → RaftBelow b st → DraftBelow {S = S} b (quiet st)
quiet_below b st h = record { state = h; replies = tt; taken = tt }

sends_below : {S : Type 0} (b : ℕ) (st : RaftState) (due : Due) → RaftBelow b st → DraftBelow {S = S} b (sends_to st due)
sends_below b st due h = record { state = h; replies = tt; taken = tt }

answered_below : {S : Type 0} (b : ℕ) (st : RaftState) (to : ℕ) (m : Message S) → RaftBelow b st → MessageBelow b m → DraftBelow b (answered st to m)
answered_below b st to m h k = record { state = h; replies = (k, tt); taken = tt }

pub with_payloads_below : (b : ℕ) (st : RaftState) (payloads : List (List ℕ)) → RaftBelow b st → RaftBelow (b + length payloads) (with_payloads st payloads)
with_payloads_below b st payloads h =
    let more : RaftBelow (b + length payloads) st = below_more b (b + length payloads) st (omega arith) h in
    let added : List Entry = map (λ payload. record { term = st.head.term; payload = payload }) payloads in
    record {
      term = more.term;
      last = omega (arith, h.last, length-append st.log.entries (map (λ payload. record { term = st.head.term; payload = payload }) payloads), length-map payloads (λ payload. entry_of st.head.term payload));
      base_term = more.base_term;
      terms = All-append (λ (e : Entry). e.term ≤ b + length payloads) st.log.entries (map (λ payload. record { term = st.head.term; payload = payload }) payloads) more.terms
          (All-map (λ (e : Entry). e.term ≤ b + length payloads) (λ payload. record { term = st.head.term; payload = payload }) payloads (λ k d lt. more.term));
      commit = more.commit;
      next = more.next;
      matched = more.matched;
    }
  where
    entry_of : ℕ → List ℕ → Entry
    entry_of t payload = record { term = t; payload = payload }

leading_below : (b : ℕ) (st : RaftState) → RaftBelow b st → RaftBelow (b + 1) (leading st)
leading_below b st h =
    with_payloads_below b
    (record st { head = record st.head { role = Leader; leader = Some st.head.node; next = for_each_node (last_index st.log + 1); matched = for_each_node 0; silent = 0; beat = 0 } })
    (nothing ∷ [])
    (record {
      term = h.term;
      last = h.last;
      base_term = h.base_term;
      terms = h.terms;
      commit = h.commit;
      next = All-replicate (λ (n : ℕ). n ≤ b) 5 (last_index st.log + 1) (omega (arith, h.last));
      matched = All-replicate (λ (n : ℕ). n ≤ b) 5 0 (omega arith);
    })

elected_below : {S : Type 0} (b : ℕ) (st : RaftState) → RaftBelow b st → DraftBelow {S = S} (b + 1) (elected st)
elected_below {S} b st h =
    cond_both (is_elected st.head) (sends_to (leading st) Everyone) (quiet st) (λ d. DraftBelow {S = S} (b + 1) d)
    (λ _. sends_below (b + 1) (leading st) Everyone (leading_below b st h))
    (λ _. quiet_below (b + 1) st (below_more b (b + 1) st (omega arith) h))

-- a change of the small numbers that are no terms or indexes
same_below : (b : ℕ) (st : RaftState) (head : Head) → RaftBelow b st → head.term ≤ b → head.commit < b → All (λ n. n ≤ b) head.next → All (λ n. n ≤ b) head.matched → RaftBelow b (record st { head = head })
same_below b st head h term commit next matched = record { term = term; last = h.last; base_term = h.base_term; terms = h.terms; commit = commit; next = next; matched = matched }

candidate_below : (b : ℕ) (st : RaftState) → RaftBelow b st → RaftBelow (b + 1) (record st { head = candidate st.head })
candidate_below b st h =
    let more : RaftBelow (b + 1) st = below_more b (b + 1) st (omega arith) h in
    record { term = omega (arith, h.term); last = more.last; base_term = more.base_term; terms = more.terms; commit = more.commit; next = more.next; matched = more.matched }

last_term_le : (b : ℕ) (st : RaftState) → RaftBelow b st → last_term st.log ≤ b
last_term_le b st h = log_term_le b st.log (last_index st.log) h.base_term h.terms

pub tick_below : {S : Type 0} (b : ℕ) (st : RaftState) → RaftBelow b st → DraftBelow {S = S} (b + 2) (tick st)
tick_below {S} b st h =
    let more : RaftBelow (b + 2) st = below_more b (b + 2) st (omega arith) h in
    let next : RaftBelow (b + 1) (record st { head = candidate st.head }) = candidate_below b st h in
    let requests_below : Every (SentBelow (b + 2)) (requests {S = S} (record st { head = candidate st.head })) =
    every_map (SentBelow (b + 2)) (λ peer. (peer, Vote (st.head.term + 1) (last_index st.log) (last_term st.log))) (peers (candidate st.head))
    (every_all (λ peer. SentBelow {S = S} (b + 2) (peer, Vote (st.head.term + 1) (last_index st.log) (last_term st.log))) (λ peer. (omega (arith, h.term), omega (arith, h.last), omega (arith, last_term_le b st h))) (peers (candidate st.head))) in
    let stood : DraftBelow {S = S} (b + 1 + 1) (elected (record st { head = candidate st.head })) = elected_below (b + 1) (record st { head = candidate st.head }) next in
    let stood' : DraftBelow {S = S} (b + 2) (elected (record st { head = candidate st.head })) = draft_more (b + 1 + 1) (b + 2) (elected (record st { head = candidate st.head })) (omega arith) stood in
    cond_both (is_leader st.head.role) (tick_leading st) (tick_waiting st) (λ d. DraftBelow {S = S} (b + 2) d)
    (λ _.
    cond_both (eqb (st.head.beat + 1) 2) (sends_to (record st { head = record st.head { beat = 0 } }) Everyone) (quiet (record st { head = record st.head { beat = st.head.beat + 1 } })) (λ d. DraftBelow {S = S} (b + 2) d)
    (λ _. sends_below (b + 2) (record st { head = record st.head { beat = 0 } }) Everyone (same_below (b + 2) st (record st.head { beat = 0 }) more more.term more.commit more.next more.matched))
    (λ _. quiet_below (b + 2) (record st { head = record st.head { beat = st.head.beat + 1 } }) (same_below (b + 2) st (record st.head { beat = st.head.beat + 1 }) more more.term more.commit more.next more.matched)))
    (λ _.
    cond_both (eqb (st.head.silent + 1) (patience st.head.node)) (stand st) (quiet (record st { head = record st.head { silent = st.head.silent + 1 } })) (λ d. DraftBelow {S = S} (b + 2) d)
    (λ _. record { state = stood'.state; replies = requests_below; taken = stood'.taken })
    (λ _. quiet_below (b + 2) (record st { head = record st.head { silent = st.head.silent + 1 } }) (same_below (b + 2) st (record st.head { silent = st.head.silent + 1 }) more more.term more.commit more.next more.matched)))

observed_below : (b : ℕ) (st : RaftState) (t : ℕ) → t ≤ b → RaftBelow b st → RaftBelow b (record st { head = observed st.head t })
observed_below b st t le h =
    cond_both (ltb st.head.term t) (record st.head { term = t; vote = None; role = Follower; leader = None }) st.head (λ z. RaftBelow b (record st { head = z }))
    (λ _. same_below b st (record st.head { term = t; vote = None; role = Follower; leader = None }) h le h.commit h.next h.matched)
    (λ _. h)

on_vote_below : {S : Type 0} (b : ℕ) (st : RaftState) (from t i it : ℕ) → RaftBelow b st → DraftBelow {S = S} b (on_vote st from t i it)
on_vote_below {S} b st from t i it h =
    cond_both (eqb t st.head.term && may_vote st.head from && is_up_to_date st.log i it)
    (answered (record st { head = record st.head { vote = Some from; silent = 0 } }) from (VoteReply st.head.term true))
    (answered st from (VoteReply st.head.term false)) (λ d. DraftBelow {S = S} b d)
    (λ _. answered_below b (record st { head = record st.head { vote = Some from; silent = 0 } }) from (VoteReply st.head.term true) (same_below b st (record st.head { vote = Some from; silent = 0 }) h h.term h.commit h.next h.matched) h.term)
    (λ _. answered_below b st from (VoteReply st.head.term false) h h.term)

on_vote_reply_below : {S : Type 0} (b : ℕ) (st : RaftState) (from t : ℕ) (granted : Bool) → RaftBelow b st → DraftBelow {S = S} (b + 1) (on_vote_reply st from t granted)
on_vote_reply_below {S} b st from t granted h =
    cond_both (granted && eqb t st.head.term && is_candidate st.head.role) (elected (record st { head = record st.head { votes = with_node st.head.votes from true } })) (quiet st) (λ d. DraftBelow {S = S} (b + 1) d)
    (λ _. elected_below b (record st { head = record st.head { votes = with_node st.head.votes from true } }) (same_below b st (record st.head { votes = with_node st.head.votes from true }) h h.term h.commit h.next h.matched))
    (λ _. quiet_below (b + 1) st (below_more b (b + 1) st (omega arith) h))

following_below : (b : ℕ) (st : RaftState) (from : ℕ) → RaftBelow b st → RaftBelow b (record st { head = following st.head from })
following_below b st from h = same_below b st (record st.head { role = Follower; leader = Some from; silent = 0 }) h h.term h.commit h.next h.matched

refused_below : {S : Type 0} (b : ℕ) (st : RaftState) (from : ℕ) → RaftBelow b st → DraftBelow {S = S} b (refused_old st from)
refused_below b st from h = answered_below b st from (AppendReply st.head.term false st.head.commit) h (h.term, h.commit)

-- a log after an edit by entries
record EditBelow (b : ℕ) (l : LogState) (edit : Edit) : Type 0 where
  last : l.base + length (edited l.entries edit) < b
  terms : All (λ (e : Entry). e.term ≤ b) (edited l.entries edit)

accepted_below : (b : ℕ) (l : LogState) (prev : ℕ) (es : List Entry) → last_index l < b → All (λ (e : Entry). e.term ≤ b) l.entries → prev + length es < b → All (λ (e : Entry). e.term ≤ b) es → EditBelow b l (accepting l prev es)
accepted_below b l prev es last terms more all =
    let news : List Entry = drop (l.base - prev) es in
    let same : ℕ = same_terms (drop (l.base - prev) es) (drop (prev - l.base) l.entries) in
    cond_both (eqb (same_terms (drop (l.base - prev) es) (drop (prev - l.base) l.entries)) (length (drop (l.base - prev) es)))
    (record { keep = length l.entries; added = [] })
    (record { keep = prev - l.base + same_terms (drop (l.base - prev) es) (drop (prev - l.base) l.entries); added = drop (same_terms (drop (l.base - prev) es) (drop (prev - l.base) l.entries)) (drop (l.base - prev) es) })
    (λ edit. EditBelow b l edit)
    (λ _. record {
      last = omega (arith, length-append (take (length l.entries) l.entries) [], length-take (length l.entries) l.entries);
      terms = All-append (λ (e : Entry). e.term ≤ b) (take (length l.entries) l.entries) [] (All-take (λ (e : Entry). e.term ≤ b) (length l.entries) l.entries terms) (All-nil (λ (e : Entry). e.term ≤ b));
    })
    (λ ne. record {
      last = omega (
        arith,
        eqb-false (same_terms (drop (l.base - prev) es) (drop (prev - l.base) l.entries)) (length (drop (l.base - prev) es)) ne,
        same_terms_left (drop (l.base - prev) es) (drop (prev - l.base) l.entries),
        length-drop (l.base - prev) es,
        length-append (take (prev - l.base + same_terms (drop (l.base - prev) es) (drop (prev - l.base) l.entries)) l.entries) (drop (same_terms (drop (l.base - prev) es) (drop (prev - l.base) l.entries)) (drop (l.base - prev) es)),
        length-take (prev - l.base + same_terms (drop (l.base - prev) es) (drop (prev - l.base) l.entries)) l.entries,
        length-drop (same_terms (drop (l.base - prev) es) (drop (prev - l.base) l.entries)) (drop (l.base - prev) es),
      );
      terms = All-append (λ (e : Entry). e.term ≤ b) (take (prev - l.base + same_terms (drop (l.base - prev) es) (drop (prev - l.base) l.entries)) l.entries) (drop (same_terms (drop (l.base - prev) es) (drop (prev - l.base) l.entries)) (drop (l.base - prev) es))
          (All-take (λ (e : Entry). e.term ≤ b) (prev - l.base + same_terms (drop (l.base - prev) es) (drop (prev - l.base) l.entries)) l.entries terms)
          (All-drop (λ (e : Entry). e.term ≤ b) (same_terms (drop (l.base - prev) es) (drop (prev - l.base) l.entries)) (drop (l.base - prev) es) (All-drop (λ (e : Entry). e.term ≤ b) (l.base - prev) es all));
    })

take_append_below : {S : Type 0} (b : ℕ) (st : RaftState) (from prev pt : ℕ) (es : List Entry) (commit : ℕ) → RaftBelow b st → prev + length es < b → All (λ (e : Entry). e.term ≤ b) es → DraftBelow {S = S} b (take_append st from prev pt es commit)
take_append_below {S} b st from prev pt es commit h more all =
    let edit : EditBelow b st.log (accepting st.log prev es) = accepted_below b st.log prev es h.last h.terms more all in
    cond_both (matches st.log prev pt)
    (answered (record { head = record st.head { commit = max st.head.commit (min commit (prev + length es)) }; log = accepted st.log prev es }) from (AppendReply st.head.term true (accepted_to st.log prev es)))
    (answered st from (AppendReply st.head.term false st.head.commit)) (λ d. DraftBelow {S = S} b d)
    (λ _. answered_below b (record { head = record st.head { commit = max st.head.commit (min commit (prev + length es)) }; log = accepted st.log prev es }) from (AppendReply st.head.term true (accepted_to st.log prev es))
    (record { term = h.term; last = edit.last; base_term = h.base_term; terms = edit.terms; commit = omega (arith, h.commit); next = h.next; matched = h.matched })
    (h.term, omega (arith, h.last)))
    (λ _. answered_below b st from (AppendReply st.head.term false st.head.commit) h (h.term, h.commit))

on_append_below : {S : Type 0} (b : ℕ) (st : RaftState) (from t prev pt : ℕ) (es : List Entry) (commit : ℕ) → RaftBelow b st → prev + length es < b → All (λ (e : Entry). e.term ≤ b) es → DraftBelow {S = S} b (on_append st from t prev pt es commit)
on_append_below {S} b st from t prev pt es commit h more all =
    cond_both (ltb t st.head.term) (refused_old st from) (take_append (record st { head = following st.head from }) from prev pt es commit) (λ d. DraftBelow {S = S} b d)
    (λ _. refused_below b st from h)
    (λ _. take_append_below b (record st { head = following st.head from }) from prev pt es commit (following_below b st from h) more all)

on_append_reply_below : {S : Type 0} (b : ℕ) (st : RaftState) (from t : ℕ) (said : Bool) (index : ℕ) → RaftBelow b st → index < b → DraftBelow {S = S} b (on_append_reply st from t said index)
on_append_reply_below {S} b st from t said index h lt =
    let known : of_node st.head.matched from 0 ≤ b = table_le b st.head.matched (from - 1) 0 (omega arith) h.matched in
    cond_both (is_leader st.head.role && eqb t st.head.term) (cond said (on_match st from index) (on_mismatch st from index)) (quiet st) (λ d. DraftBelow {S = S} b d)
    (λ _.
    cond_both said (on_match st from index) (on_mismatch st from index) (λ d. DraftBelow {S = S} b d)
    (λ _. sends_below b _ (cond (leb (next_after st from index) (last_index st.log)) (One from) Nobody)
    (same_below b st (record st.head { matched = with_node st.head.matched from (match_after st from index); next = with_node st.head.next from (next_after st from index) }) h h.term h.commit
    (All-set (λ (n : ℕ). n ≤ b) st.head.next (from - 1) (next_after st from index) (omega (arith, h.last)) h.next)
    (All-set (λ (n : ℕ). n ≤ b) st.head.matched (from - 1) (match_after st from index) (omega arith) h.matched)))
    (λ _. sends_below b _ (One from)
    (same_below b st (record st.head { next = with_node st.head.next from (min (max index (of_node st.head.matched from 0) + 1) (last_index st.log + 1)) }) h h.term h.commit
    (All-set (λ (n : ℕ). n ≤ b) st.head.next (from - 1) (min (max index (of_node st.head.matched from 0) + 1) (last_index st.log + 1)) (omega (arith, h.last)) h.next)
    h.matched)))
    (λ _. quiet_below b st h)

on_forward_below : {S : Type 0} (b : ℕ) (st : RaftState) (payload : List ℕ) → RaftBelow b st → DraftBelow {S = S} (b + 1) (on_forward st payload)
on_forward_below {S} b st payload h =
    cond_both (is_leader st.head.role) (sends_to (with_payloads st (payload ∷ [])) Everyone) (quiet st) (λ d. DraftBelow {S = S} (b + 1) d)
    (λ _. sends_below (b + 1) (with_payloads st (payload ∷ [])) Everyone (with_payloads_below b st (payload ∷ []) h))
    (λ _. quiet_below (b + 1) st (below_more b (b + 1) st (omega arith) h))

take_snap_below : {S : Type 0} (b : ℕ) (st : RaftState) (from i it : ℕ) (s : S) → RaftBelow b st → i < b → it ≤ b → DraftBelow b (take_snap st from i it s)
take_snap_below {S} b st from i it s h lt le =
    let reset : Draft S = record { state = record { head = record st.head { commit = i }; log = log_at i it }; replies = (from, AppendReply st.head.term true i) ∷ []; due = Nobody; taken = Some (i, s) } in
    cond_both (leb i st.head.commit) (answered st from (AppendReply st.head.term true st.head.commit))
    (cond (has_term st.log i it) (answered (record st { head = record st.head { commit = i } }) from (AppendReply st.head.term true i)) reset) (λ d. DraftBelow b d)
    (λ _. answered_below b st from (AppendReply st.head.term true st.head.commit) h (h.term, h.commit))
    (λ _.
    cond_both (has_term st.log i it) (answered (record st { head = record st.head { commit = i } }) from (AppendReply st.head.term true i)) reset (λ d. DraftBelow b d)
    (λ _. answered_below b (record st { head = record st.head { commit = i } }) from (AppendReply st.head.term true i) (same_below b st (record st.head { commit = i }) h h.term lt h.next h.matched) (h.term, lt))
    (λ _. record {
      state = record { term = h.term; last = omega arith; base_term = le; terms = All-nil (λ (e : Entry). e.term ≤ b); commit = lt; next = h.next; matched = h.matched };
      replies = ((h.term, lt), tt);
      taken = lt;
    }))

on_snap_below : {S : Type 0} (b : ℕ) (st : RaftState) (from t i it : ℕ) (s : S) → RaftBelow b st → i < b → it ≤ b → DraftBelow b (on_snap st from t i it s)
on_snap_below b st from t i it s h lt le =
    cond_both (ltb t st.head.term) (refused_old st from) (take_snap (record st { head = following st.head from }) from i it s) (λ d. DraftBelow b d)
    (λ _. refused_below b st from h)
    (λ _. take_snap_below b (record st { head = following st.head from }) from i it s (following_below b st from h) lt le)

pub received_below : {S : Type 0} (b : ℕ) (st : RaftState) (from : ℕ) (m : Message S) → RaftBelow b st → MessageBelow b m → DraftBelow (b + 1) (received st from m)
received_below b st from (Vote t i it) h k = draft_more b (b + 1) (on_vote (record st { head = observed st.head t }) from t i it) (omega arith) (on_vote_below b (record st { head = observed st.head t }) from t i it (observed_below b st t k.0 h))
received_below b st from (VoteReply t granted) h k = on_vote_reply_below b (record st { head = observed st.head t }) from t granted (observed_below b st t k h)
received_below b st from (Append t prev pt es commit) h k = draft_more b (b + 1) (on_append (record st { head = observed st.head t }) from t prev pt es commit) (omega arith) (on_append_below b (record st { head = observed st.head t }) from t prev pt es commit (observed_below b st t k.0 h) k.1 k.3)
received_below b st from (AppendReply t said index) h k = draft_more b (b + 1) (on_append_reply (record st { head = observed st.head t }) from t said index) (omega arith) (on_append_reply_below b (record st { head = observed st.head t }) from t said index (observed_below b st t k.0 h) k.1)
received_below b st from (Forward payload) h k = on_forward_below b st payload h
received_below b st from (Snap t i it s) h k = draft_more b (b + 1) (on_snap (record st { head = observed st.head t }) from t i it s) (omega arith) (on_snap_below b (record st { head = observed st.head t }) from t i it s (observed_below b st t k.0 h) k.1 k.2)

-- Propose, behind an event
pub then_proposed_below : {S : Type 0} (b : ℕ) (d : Draft S) (payloads : List (List ℕ)) → DraftBelow b d → DraftBelow (b + length payloads) (then_proposed d payloads)
then_proposed_below {S} b d payloads h =
    let more : DraftBelow (b + length payloads) d = draft_more b (b + length payloads) d (omega arith) h in
    record {
      state = cond_both (is_leader d.state.head.role) (with_payloads d.state payloads) d.state (λ z. RaftBelow (b + length payloads) z) (λ _. with_payloads_below b d.state payloads h.state) (λ _. more.state);
      replies = every_append (SentBelow (b + length payloads)) d.replies (forwards d.state payloads) more.replies
          (cond_both (is_leader d.state.head.role) [] (option_map_or (λ leader. map (λ payload. (leader, Forward payload)) payloads) d.state.head.leader []) (λ z. Every (SentBelow (b + length payloads)) z) (λ _. tt) (λ _. forwards_below d.state.head.leader));
      taken = more.taken;
    }
  where
    forwards_below : (l : Option ℕ) → Every (SentBelow {S = S} (b + length payloads)) (option_map_or (λ leader. map (λ payload. (leader, Forward payload)) payloads) l [])
    forwards_below None = tt
    forwards_below (Some l) = every_map (SentBelow (b + length payloads)) (λ payload. (l, Forward payload)) payloads (every_all (λ payload. SentBelow {S = S} (b + length payloads) (l, Forward payload)) (λ payload. tt) payloads)

-- the end of an event
greatest_le : (test : ℕ → Bool) (n : ℕ) → greatest test n ≤ n
greatest_le test zero = omega arith
greatest_le test (suc n) = cond_both (test (suc n)) (suc n) (greatest test n) (λ z. z ≤ suc n) (λ _. omega arith) (λ _. omega (arith, greatest_le test n))

advanced_below : (b : ℕ) (st : RaftState) → RaftBelow b st → RaftBelow b (advanced st)
advanced_below b st h =
    cond_both (is_leader st.head.role) (record st { head = record st.head { commit = max st.head.commit (committable st) } }) st (λ z. RaftBelow b z)
    (λ _. same_below b st (record st.head { commit = max st.head.commit (committable st) }) h h.term (omega (arith, h.commit, h.last, greatest_le (is_committable st) (last_index st.log))) h.next h.matched)
    (λ _. h)

to_peer_below : {S : Type 0} (b applied : ℕ) (s : S) (st : RaftState) → RaftBelow b st → applied < b → (q : ℕ) → MessageBelow b (to_peer applied s st q)
to_peer_below b applied s st h lt q =
    let next : of_node st.head.next q 0 ≤ b = table_le b st.head.next (q - 1) 0 (omega arith) h.next in
    cond_both (ltb (of_node st.head.next q 0 - 1) st.log.base)
    (Snap st.head.term applied (unwrap_or (term_at st.log applied) 0) s)
    (Append st.head.term (of_node st.head.next q 0 - 1) (unwrap_or (term_at st.log (of_node st.head.next q 0 - 1)) 0) (suffix st.log (of_node st.head.next q 0) most_entries) st.head.commit)
    (λ m. MessageBelow b m)
    (λ _. (h.term, lt, log_term_le b st.log applied h.base_term h.terms))
    (λ above. (
      h.term,
      omega (
        arith,
        ltb-false (of_node st.head.next q 0 - 1) st.log.base above,
        next,
        h.last,
        length-take most_entries (drop (of_node st.head.next q 0 - st.log.base - 1) st.log.entries),
        length-drop (of_node st.head.next q 0 - st.log.base - 1) st.log.entries,
      ),
      log_term_le b st.log (of_node st.head.next q 0 - 1) h.base_term h.terms,
      All-take (λ (e : Entry). e.term ≤ b) most_entries (drop (of_node st.head.next q 0 - st.log.base - 1) st.log.entries) (All-drop (λ (e : Entry). e.term ≤ b) (of_node st.head.next q 0 - st.log.base - 1) st.log.entries h.terms),
      h.commit,
    ))

-- a whole event of a replica's Raft
pub sent_below : {S : Type 0} (b c applied : ℕ) (s : S) (d : Draft S) → b ≤ c → applied < b → DraftBelow c d → RaftBelow c (advanced d.state) × Every (SentBelow c) (d.replies ++ last_sends applied s (advanced d.state) d.due)
sent_below {S} b c applied s d le lt h =
    let after : RaftBelow c (advanced d.state) = advanced_below c d.state h.state in (
      after,
      every_append (SentBelow c) d.replies (last_sends applied s (advanced d.state) d.due) h.replies
          (every_map (SentBelow c) (λ peer. (peer, to_peer applied s (advanced d.state) peer)) (due_peers (advanced d.state).head d.due)
          (every_all (λ peer. SentBelow {S = S} c (peer, to_peer applied s (advanced d.state) peer)) (λ peer. to_peer_below c applied s (advanced d.state) after (omega arith) peer) (due_peers (advanced d.state).head d.due))),
    )
