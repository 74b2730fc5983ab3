-- The end of each event: the commit index moves on, and the last messages are made. So each turn of a node is a run of moves.
use Rattle.std.proofs.Common.{◌≡◌, ℕ, zero, suc, ◌+◌, ◌-◌, ◌*◌, ◌<◌, ◌≤◌, max, Bool, true, false, eqb, ltb, leb, Option, Some, None, List, [], ◌∷◌, length, take, drop, get_or, refl, sym, ap, subst, ◌∙◌, arith, ◌⊎◌, ⊎_elim, inl, inr, ltb-false, ltb-true, leb-true, length-take, add-one, replicate, length-take-le, eqb-true}
use Rattle.std.specs.Prelude.{fold, count_by}
use Rattle.std.specs.List.{AllByRecursion as Every}
use Rattle.std.specs.Option.{option_map_or, unwrap_or}
use Rattle.std.proofs.lemmas.Bool.{cond_both, and_parts, eqb-false}
use Rattle.std.proofs.lemmas.List.{take_min, length-replicate, take_more, drop-append-le, drop_all, get_or-replicate}
use Rattle.std.proofs.lemmas.List.Sums.{fold_push}
use Rattle.rp_raftlog.specs.declared.entries.Entry.{Entry}
use Rattle.rp_raftlog.specs.LogState.{last_index, entry_at, term_at, has_term, suffix, cut}
use Rattle.rp_raftstep.specs.declared.heads.Head.{Head}
use Rattle.rp_raftstep.specs.declared.heads.Role.{Role}
use Rattle.rp_raftstep.specs.declared.heads.Role.TheVariants.{Follower, Leader}
use Rattle.rp_raftstep.specs.declared.heads.Due.{Due}
use Rattle.rp_raftstep.specs.declared.heads.Due.TheVariants.{Nobody, One, Everyone}
use Rattle.rp_raftstep.specs.declared.messages.Message.{Message}
use Rattle.rp_raftstep.specs.declared.messages.Message.TheVariants.{Append, Snap}
use Rattle.rp_raftstep.specs.RaftState.{RaftState, is_leader, of_node, for_each_node, restarted}
use Rattle.rp_raftstep.specs.Step.{Draft, quiet, matched_by, is_on_majority, greatest, committable, advanced, most_entries, to_peer, due_peers, last_sends, sent, then_proposed, is_committable, tick, received}
use Rattle.rp_raftsafe.specs.World.{Range, Replica, Status, Absent, Live, Removed, stays, first, start_term, after_raft, by_raft, applied_one, Action, Begin, Ticks, Proposes, Applies, Cuts, Removes, Restarts, replica_acts, acts, gets}
use Rattle.rp_raftsafe.proofs.Logs.{no_entry, tm, term_in}
use Rattle.rp_raftsafe.proofs.Quorum.{Majority, count}
use Rattle.rp_raftsafe.proofs.Machine.{Abs, Inv}
use Rattle.rp_raftsafe.proofs.Growth.{moves_refl}
use Rattle.rp_raftsafe.proofs.Safe.{Commits, commits_less, commits_more, commits_max, commits_within}
use Rattle.rp_raftsafe.proofs.Views.{Shows, HasTerm, shows_last, entry_in, term_at_or, has_term_is, suffix_in, shows_cut}
use Rattle.rp_raftsafe.proofs.Refine.{NodeOk, RoleOk, LeaderOk, PacketOk, MessageOk, AbsentOk, StatusOk, Begun, front, state_at}
use Rattle.rp_raftsafe.proofs.Pieces.{at_node, at_each, count_nodes, every_append, every_map, every_of, peers_other, IsDueOk, index_after, state_after, DraftOk, quiet_ok, as_leader, leads_by}
use Rattle.rp_raftsafe.proofs.Leads.{tick_ok, then_proposed_ok}
use Rattle.rp_raftsafe.proofs.Snaps.{received_ok, TurnOk, absent_gets_ok}

-- the greatest number that passes is 0 or passes
greatest_passes : (test : ℕ → Bool) (n : ℕ) → (greatest test n ≡ 0) ⊎ ((j : ℕ) × (greatest test n ≡ suc j) × (test (suc j) ≡ true))
greatest_passes test zero = inl refl
greatest_passes test (suc n) = cond_both (test (suc n)) (suc n) (greatest test n) (λ z. (z ≡ 0) ⊎ ((j : ℕ) × (z ≡ suc j) × (test (suc j) ≡ true))) (λ e. inr (n, refl, e)) (λ _. greatest_passes test n)

-- a leader knows an entry of its term to be on a majority: it is committed
module _ {S : Type 0} (g : Range S) (a : Abs) (p applied : ℕ) (state : S) (st : RaftState) (h : Inv g.nodes a) (pos : 0 < p) (ok : NodeOk g a p st applied state) (led : st.head.role ≡ Leader) where
  lead : LeaderOk a p st.head.term (a.log p) st.head.next st.head.matched
  lead = as_leader a p st.head.term (a.log p) st.head.next st.head.matched st.head.votes st.head.role led ok.role

  own_log : a.log p ≡ a.llog st.head.term
  own_log = h.lead_log p pos (ap a.lead ok.term ∙ lead.leads) ∙ ap a.llog ok.term

  own_ack : a.ack p st.head.term ≡ length (a.log p)
  own_ack = ap (λ z. a.ack z st.head.term) (sym lead.leads) ∙ h.lead_ack st.head.term (omega (arith, lead.leads)) ∙ ap length (sym own_log)

  on_majority : (j : ℕ) → is_on_majority st (suc j) ≡ true → Majority g.nodes (λ q. j < a.ack q st.head.term)
  on_majority j passes = record {
    test = λ q. leb (suc j) (of_node (matched_by st) q 0);
    most = subst (λ z. z < 2 * count (λ q. leb (suc j) (of_node (matched_by st) q 0)) z) ok.nodes
        (omega (arith, ltb-true st.head.nodes (2 * count_by (λ matched. leb (suc j) matched) (take st.head.nodes (matched_by st))) passes, count_nodes (λ matched. leb (suc j) matched) (matched_by st) 0 st.head.nodes));
    has = λ q pq _ yes'. at_node (λ x. suc j ≤ x → j < a.ack q st.head.term) st.head.matched st.head.node (last_index st.log) q 0 (omega (arith, ok.node)) pq
        (λ e le. subst (λ z. j < a.ack z st.head.term) (sym (e ∙ ok.node)) (omega (arith, own_ack, shows_last (a.log p) st.log ok.log)))
        (λ le. omega (arith, lead.acked q pq))
        (leb-true (suc j) (of_node (matched_by st) q 0) yes');
  }

  committable_ok : Commits g.nodes a st.head.term (committable st) (a.log p)
  committable_ok =
      ⊎_elim
      (λ none. inl none)
      (λ found.
      let parts = and_parts (has_term st.log (suc found.0) st.head.term) (is_on_majority st (suc found.0)) found.2 in
      let has : HasTerm (a.log p) st.log (suc found.0) st.head.term = has_term_is (a.log p) st.log ok.log (suc found.0) st.head.term parts.0 in
      subst (λ z. Commits g.nodes a st.head.term z (a.log p)) (sym found.1)
      (inr (record {
        by_term = st.head.term;
        place = found.0;
        term_le = omega arith;
        committed = record {
          proper = record { within = omega (arith, has.within, ap length own_log); own = ap (λ z. tm z found.0) (sym own_log) ∙ has.term };
          held = on_majority found.0 parts.1;
        };
        within = omega arith;
        front = ap (take (suc found.0)) own_log;
      })))
      (greatest_passes (is_committable st) (last_index st.log))

pub advanced_ok : {S : Type 0} (g : Range S) (a : Abs) (p applied : ℕ) (state : S) (st : RaftState) → Inv g.nodes a → 0 < p → NodeOk g a p st applied state → NodeOk g a p (advanced st) applied state
advanced_ok {S} g a p applied state st h pos ok =
    cond_both (is_leader st.head.role) (record st { head = record st.head { commit = max st.head.commit (committable st) } }) st (λ z. NodeOk g a p z applied state)
    (λ leads. record {
      node = ok.node;
      nodes = ok.nodes;
      term = ok.term;
      term_pos = ok.term_pos;
      log = ok.log;
      start_le = ok.start_le;
      based = ok.based;
      applied_le = omega (arith, ok.applied_le);
      state_is = ok.state_is;
      vote = ok.vote;
      known = ok.known;
      role = ok.role;
      commit = commits_max g.nodes a st.head.term st.head.commit (committable st) (a.log p) ok.commit (committable_ok g a p applied state st h pos ok (leads_by st.head.role leads));
    })
    (λ _. ok)

advanced_role : (st : RaftState) → (advanced st).head.role ≡ st.head.role
advanced_role st = cond_both (is_leader st.head.role) (record st { head = record st.head { commit = max st.head.commit (committable st) } }) st (λ z. z.head.role ≡ st.head.role) (λ _. refl) (λ _. refl)

-- the message that a leader makes for a peer
to_peer_ok : {S : Type 0} (g : Range S) (a : Abs) (p applied : ℕ) (state : S) (st : RaftState) → Inv g.nodes a → 0 < p → NodeOk g a p st applied state → st.head.role ≡ Leader → (q : ℕ) → MessageOk g a p q (to_peer applied state st q)
to_peer_ok {S} g a p applied state st h pos ok led q =
    let l : LeaderOk a p st.head.term (a.log p) st.head.next st.head.matched = lead g a p applied state st h pos ok led in
    let own : a.log p ≡ a.llog st.head.term = own_log g a p applied state st h pos ok led in
    let within : st.head.commit ≤ length (a.log p) = commits_within g.nodes a st.head.term st.head.commit (a.log p) ok.commit in
    cond_both (ltb (of_node st.head.next q 0 - 1) st.log.base)
    (Snap st.head.term applied (unwrap_or (term_at st.log applied) 0) state)
    (Append st.head.term (of_node st.head.next q 0 - 1) (unwrap_or (term_at st.log (of_node st.head.next q 0 - 1)) 0) (suffix st.log (of_node st.head.next q 0) most_entries) st.head.commit)
    (λ m. MessageOk g a p q m)
    (λ _. record {
      term_pos = ok.term_pos;
      leads = l.leads;
      start_le = omega (arith, ok.start_le, ok.based);
      within = omega (arith, ok.applied_le, ap length own);
      at = ap (λ z. term_in z applied) (sym own) ∙ sym (term_at_or (a.log p) st.log ok.log applied 0 ok.based (omega (arith, ok.applied_le)));
      commits = commits_more g.nodes a st.head.term st.head.term applied (a.log p) (a.llog st.head.term) (omega arith) (ap (take applied) own) (commits_less g.nodes a st.head.term applied st.head.commit (a.log p) ok.applied_le ok.commit);
      shows = ok.state_is ∙ ap (λ z. state_at g z applied) own;
    })
    (λ above.
    let low : st.log.base ≤ of_node st.head.next q 0 - 1 = ltb-false (of_node st.head.next q 0 - 1) st.log.base above in
    let high : of_node st.head.next q 0 - 1 ≤ length (a.log p) = omega (arith, ahead l q) in
    let entries : suffix st.log (of_node st.head.next q 0) most_entries ≡ take most_entries (drop (of_node st.head.next q 0 - 1) (a.llog st.head.term)) =
    suffix_in (a.log p) st.log ok.log (of_node st.head.next q 0) most_entries low ∙ ap (λ z. take most_entries (drop (of_node st.head.next q 0 - 1) z)) own in
    record {
      term_pos = ok.term_pos;
      leads = l.leads;
      within = omega (arith, high, ap length own);
      stand = ap (λ z. take (length z) (drop (of_node st.head.next q 0 - 1) (a.llog st.head.term))) entries ∙ front_again most_entries (drop (of_node st.head.next q 0 - 1) (a.llog st.head.term)) ∙ sym entries;
      before = ap (λ z. term_in z (of_node st.head.next q 0 - 1)) (sym own) ∙ sym (term_at_or (a.log p) st.log ok.log (of_node st.head.next q 0 - 1) 0 low high);
      commits = commits_more g.nodes a st.head.term st.head.term st.head.commit (a.log p) (a.llog st.head.term) (omega arith) (ap (take st.head.commit) own) ok.commit;
    })
  where
    ahead : LeaderOk a p st.head.term (a.log p) st.head.next st.head.matched → (q : ℕ) → of_node st.head.next q 0 ≤ length (a.log p) + 1
    ahead l zero = l.ahead 1 (omega arith)
    ahead l (suc j) = l.ahead (suc j) (omega arith)

    front_again : (k : ℕ) (xs : List Entry) → take (length (take k xs)) xs ≡ take k xs
    front_again k xs = ap (λ z. take z xs) (length-take k xs) ∙ take_min k xs

-- the peers that are due are other nodes, from 1
due_ok : (head : Head) (p : ℕ) (role : Role) (due : Due) → head.node ≡ p → IsDueOk p role due → ((due ≡ Nobody) ⊎ (role ≡ Leader)) × Every (λ q. q ≡ p → ⊥) (due_peers head due)
due_ok head p role Nobody e ok = (inl refl, tt)
due_ok head p role (One q) e ok = (inr ok.0, (ok.1, tt))
due_ok head p role Everyone e ok = (inr ok, peers_other head p e)

-- the whole event: moves of the node, and what it sends stands for the state after them
pub sent_ok : {S : Type 0} (g : Range S) (a : Abs) (p : ℕ) (r : Replica S) (d : Draft S) → 0 < p → DraftOk g a p r.applied r.state d → TurnOk g a p (after_raft r (sent r.applied r.state d))
sent_ok {S} g a p r d pos ok =
    let node : NodeOk g ok.to p (advanced d.state) (index_after d.taken r.applied) (state_after d.taken r.state) = advanced_ok g ok.to p (index_after d.taken r.applied) (state_after d.taken r.state) d.state ok.inv pos ok.node in
    let due = due_ok (advanced d.state).head p d.state.head.role d.due node.node ok.due in
    record {
      to = ok.to;
      moves = ok.moves;
      inv = ok.inv;
      status = node;
      sends = every_append (PacketOk g ok.to p) d.replies (last_sends r.applied r.state (advanced d.state) d.due) ok.replies
          (⊎_elim
          (λ (none : d.due ≡ Nobody). subst (λ z. Every (PacketOk g ok.to p) (last_sends r.applied r.state (advanced d.state) z)) (sym none) tt)
          (λ (leads : d.state.head.role ≡ Leader).
          let same : NodeOk g ok.to p (advanced d.state) r.applied r.state = subst (λ z. NodeOk g ok.to p (advanced d.state) (index_after z r.applied) (state_after z r.state)) (ok.calm leads) node in
          every_map (PacketOk g ok.to p) (λ peer. (peer, to_peer r.applied r.state (advanced d.state) peer)) (due_peers (advanced d.state).head d.due)
          (every_of (λ q. q ≡ p → ⊥) (λ q. PacketOk g ok.to p (q, to_peer r.applied r.state (advanced d.state) q))
          (λ q other. record { other = other; fact = to_peer_ok g ok.to p r.applied r.state (advanced d.state) ok.inv pos same (advanced_role d.state ∙ leads) q })
          (due_peers (advanced d.state).head d.due) due.1))
          due.0);
    }

-- an event of a replica's Raft, with what is proposed again in it
pub by_raft_ok : {S : Type 0} (g : Range S) (a : Abs) (p : ℕ) (r : Replica S) (draft : Draft S) (again : List (List ℕ)) → 0 < p → DraftOk g a p r.applied r.state draft → TurnOk g a p (by_raft r draft again)
by_raft_ok g a p r draft again pos ok = sent_ok g a p r (then_proposed draft again) pos (then_proposed_ok g a p r.applied r.state draft again pos ok)

stays_ok : {S : Type 0} (g : Range S) (a : Abs) (p : ℕ) (status : Status S) → Inv g.nodes a → StatusOk g a p status → TurnOk g a p (stays status)
stays_ok g a p status h ok = record { to = a; moves = moves_refl p a; inv = h; status = ok; sends = tt }

-- Cut
cut_ok : {S : Type 0} (g : Range S) (a : Abs) (p : ℕ) (r : Replica S) → Inv g.nodes a → NodeOk g a p r.raft r.applied r.state → NodeOk g a p (record r.raft { log = cut r.raft.log r.applied }) r.applied r.state
cut_ok g a p r h ok =
    let within : r.raft.head.commit ≤ length (a.log p) = commits_within g.nodes a r.raft.head.term r.raft.head.commit (a.log p) ok.commit in
    record {
      node = ok.node;
      nodes = ok.nodes;
      term = ok.term;
      term_pos = ok.term_pos;
      log = shows_cut (a.log p) r.raft.log r.applied ok.log ok.based (omega (arith, ok.applied_le));
      start_le = omega (arith, ok.start_le, ok.based);
      based = omega arith;
      applied_le = ok.applied_le;
      state_is = ok.state_is;
      vote = ok.vote;
      known = ok.known;
      role = ok.role;
      commit = ok.commit;
    }

-- Apply
state_more : {S : Type 0} (g : Range S) (xs : List Entry) (i : ℕ) → g.base ≤ i → i < length xs → state_at g xs (i + 1) ≡ g.act (state_at g xs i) (get_or xs i no_entry)
state_more g xs i le lt =
    ap (λ z. fold g.act g.start (drop g.base z)) (take_more xs i no_entry lt)
    ∙ ap (fold g.act g.start) (drop-append-le g.base (take i xs) (get_or xs i no_entry ∷ []) (omega (arith, length-take-le i xs (omega arith))))
    ∙ fold_push g.act g.start (drop g.base (take i xs)) (get_or xs i no_entry)

applies_ok : {S : Type 0} (g : Range S) (a : Abs) (p : ℕ) (r : Replica S) → Inv g.nodes a → NodeOk g a p r.raft r.applied r.state → TurnOk g a p (replica_acts g r Applies)
applies_ok {S} g a p r h ok =
    cond_both (ltb r.applied r.raft.head.commit) (option_map_or (applied_one g r) (entry_at r.raft.log (r.applied + 1)) (stays (Live r))) (stays (Live r)) (λ t. TurnOk g a p t)
    (λ more.
    let lt : r.applied < r.raft.head.commit = ltb-true r.applied r.raft.head.commit more in
    let within : r.raft.head.commit ≤ length (a.log p) = commits_within g.nodes a r.raft.head.term r.raft.head.commit (a.log p) ok.commit in
    let entry : entry_at r.raft.log (r.applied + 1) ≡ Some (get_or (a.log p) r.applied no_entry) =
    ap (entry_at r.raft.log) (add-one r.applied) ∙ entry_in (a.log p) r.raft.log ok.log r.applied ok.based (omega arith) in
    subst (λ z. TurnOk g a p (option_map_or (applied_one g r) z (stays (Live r)))) (sym entry)
    (stays_ok g a p (Live (record r { applied = r.applied + 1; state = g.act r.state (get_or (a.log p) r.applied no_entry) })) h
    (record {
      node = ok.node;
      nodes = ok.nodes;
      term = ok.term;
      term_pos = ok.term_pos;
      log = ok.log;
      start_le = ok.start_le;
      based = omega (arith, ok.based);
      applied_le = omega arith;
      state_is = ap (λ z. g.act z (get_or (a.log p) r.applied no_entry)) ok.state_is ∙ sym (state_more g (a.log p) r.applied (omega (arith, ok.start_le, ok.based)) (omega arith));
      vote = ok.vote;
      known = ok.known;
      role = ok.role;
      commit = ok.commit;
    })))
    (λ _. stays_ok g a p (Live r) h ok)

-- Restart
restarted_ok : {S : Type 0} (g : Range S) (a : Abs) (p : ℕ) (r : Replica S) → NodeOk g a p r.raft r.applied r.state → NodeOk g a p (restarted r.applied r.raft) r.applied r.state
restarted_ok g a p r ok = record {
  node = ok.node;
  nodes = ok.nodes;
  term = ok.term;
  term_pos = ok.term_pos;
  log = ok.log;
  start_le = ok.start_le;
  based = ok.based;
  applied_le = omega arith;
  state_is = ok.state_is;
  vote = ok.vote;
  known = λ l e _. absurd (none_some l e);
  role = tt;
  commit = commits_less g.nodes a r.raft.head.term r.applied r.raft.head.commit (a.log p) ok.applied_le ok.commit;
}
  where
    none_some : (l : ℕ) → ◌≡◌ {A = Option ℕ} None (Some l) → ⊥
    none_some l e = cc

-- Begin
first_ok : {S : Type 0} (g : Range S) (a : Abs) (p : ℕ) → Begun g a → AbsentOk g a p → NodeOk g a p (first g p).raft g.base g.start
first_ok {S} g a p begun ok =
    let len : length (front g) ≡ g.base = length-replicate g.base (record { term = 1; payload = [] }) in
    record {
      node = refl;
      nodes = refl;
      term = ok.term;
      term_pos = omega arith;
      log = subst (λ z. Shows z (first g p).raft.log) (sym ok.log) (record { within = omega arith; entries = drop_all g.base (front g) (omega arith); base_term = front_term g.base });
      start_le = omega arith;
      based = omega arith;
      applied_le = omega arith;
      state_is = sym (ap (fold g.act g.start) (drop_all g.base (take g.base (a.log p)) (omega (arith, length-take g.base (a.log p)))));
      vote = λ lt. absurd (omega arith);
      known = λ l e same. cond_both (eqb p g.holder) Leader Follower (λ z. z ≡ Leader) (λ _. refl) (λ ne. absurd (eqb-false p g.holder ne (sym same ∙ sym (some_same g.holder l e))));
      role = cond_both (eqb p g.holder) Leader Follower (λ z. RoleOk a p 1 (a.log p) (for_each_node (g.base + 1)) (for_each_node 0) (for_each_node false) z)
          (λ e. record {
            leads = begun.holder ∙ sym (eqb-true p g.holder e);
            ahead = λ q pq. at_each (λ x. x ≤ length (a.log p) + 1) (g.base + 1) q 0 (omega (arith, ap length ok.log)) (omega arith);
            acked = λ q pq. at_each (λ x. x ≤ a.ack q 1) 0 q 0 (omega arith) (omega arith);
          })
          (λ _. tt);
      commit = subst (λ z. Commits g.nodes a 1 g.base z) (sym ok.log) begun.base;
    }
  where
    some_same : (x y : ℕ) → Some x ≡ Some y → x ≡ y
    some_same x y e = cc

    front_term : (b : ℕ) → term_in (replicate b (record { term = 1; payload = [] })) b ≡ start_term b
    front_term zero = refl
    front_term (suc n) = ap (λ z. z.term) (get_or-replicate (suc n) n (record { term = 1; payload = [] }) no_entry (omega arith))

pub acts_ok : {S : Type 0} (g : Range S) (a : Abs) (p : ℕ) (action : Action) (status : Status S) → Begun g a → Inv g.nodes a → 0 < p → StatusOk g a p status → TurnOk g a p (acts g p action status)
acts_ok g a p Begin Absent begun h pos ok = stays_ok g a p (Live (first g p)) h (first_ok g a p begun ok)
acts_ok g a p (Ticks again) Absent begun h pos ok = stays_ok g a p Absent h ok
acts_ok g a p (Proposes payloads) Absent begun h pos ok = stays_ok g a p Absent h ok
acts_ok g a p Applies Absent begun h pos ok = stays_ok g a p Absent h ok
acts_ok g a p Cuts Absent begun h pos ok = stays_ok g a p Absent h ok
acts_ok g a p Removes Absent begun h pos ok = stays_ok g a p Absent h ok
acts_ok g a p Restarts Absent begun h pos ok = stays_ok g a p Absent h ok
acts_ok g a p Begin (Live r) begun h pos ok = stays_ok g a p (Live r) h ok
acts_ok g a p (Ticks again) (Live r) begun h pos ok = by_raft_ok g a p r (tick r.raft) again pos (tick_ok g a p r.applied r.state r.raft h pos ok)
acts_ok g a p (Proposes payloads) (Live r) begun h pos ok = by_raft_ok g a p r (quiet r.raft) payloads pos (quiet_ok g a p r.applied r.state r.raft h ok)
acts_ok g a p Applies (Live r) begun h pos ok = applies_ok g a p r h ok
acts_ok g a p Cuts (Live r) begun h pos ok = stays_ok g a p (Live (record r { raft = record r.raft { log = cut r.raft.log r.applied } })) h (cut_ok g a p r h ok)
acts_ok g a p Removes (Live r) begun h pos ok = stays_ok g a p Removed h tt
acts_ok g a p Restarts (Live r) begun h pos ok = stays_ok g a p (Live (record r { raft = restarted r.applied r.raft })) h (restarted_ok g a p r ok)
acts_ok g a p action Removed begun h pos ok = stays_ok g a p Removed h tt

pub gets_ok : {S : Type 0} (g : Range S) (a : Abs) (p from : ℕ) (m : Message S) (again : List (List ℕ)) (status : Status S) → Inv g.nodes a → 0 < p → 0 < from → (from ≡ p → ⊥) → StatusOk g a p status → MessageOk g a from p m → TurnOk g a p (gets g p from m again status)
gets_ok g a p from m again Absent h pos pf other ok fact = absent_gets_ok g a p from m h pf other ok fact
gets_ok g a p from m again (Live r) h pos pf other ok fact = by_raft_ok g a p r (received r.raft from m) again pos (received_ok g a p r.applied r.state r.raft from m h pos pf other ok fact)
gets_ok g a p from m again Removed h pos pf other ok fact = stays_ok g a p Removed h tt
