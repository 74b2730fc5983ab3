-- Events of a candidate and of a leader are moves of its node.
use Rattle.std.proofs.Common.{◌≡◌, ℕ, ◌+◌, ◌*◌, ◌<◌, ◌≤◌, max, min, Bool, true, false, cond, ◌&&◌, eqb, ltb, leb, Option, Some, None, List, [], ◌∷◌, ◌++◌, map, length, take, refl, sym, ap, subst, ◌∙◌, arith, ⊎_elim, inl, inr, eqb-true, ltb-true}
use Rattle.std.specs.Prelude.{count_by}
use Rattle.std.specs.List.{AllByRecursion as Every}
use Rattle.std.specs.Option.{option_map_or}
use Rattle.std.proofs.lemmas.Bool.{cond_both, cases_eq, and_parts}
use Rattle.rp_raftlog.specs.declared.entries.Entry.{Entry}
use Rattle.rp_raftlog.specs.LogState.{last_index, last_term}
use Rattle.rp_raftstep.specs.declared.heads.Role.{Role}
use Rattle.rp_raftstep.specs.declared.heads.Role.TheVariants.{Follower, Candidate, Leader}
use Rattle.rp_raftstep.specs.declared.heads.Due.TheVariants.{Nobody, One, Everyone}
use Rattle.rp_raftstep.specs.declared.messages.Message.TheVariants.{Vote, Forward}
use Rattle.rp_raftstep.specs.RaftState.{RaftState, is_leader, is_candidate, of_node, with_node, for_each_node, peers}
use Rattle.rp_raftstep.specs.Step.{Draft, quiet, sends_to, nothing, with_payloads, leading, is_elected, elected, tick_leading, candidate, requests, stand, patience, tick_waiting, tick, on_vote_reply, on_mismatch, match_after, next_after, on_match, on_append_reply, on_forward, then_proposed}
use Rattle.rp_raftsafe.specs.World.{Range}
use Rattle.rp_raftsafe.proofs.Tables.{at_upd, at_upd2, upd_same}
use Rattle.rp_raftsafe.proofs.Logs.{last_tm}
use Rattle.rp_raftsafe.proofs.Quorum.{Majority, Shared, count, majorities_meet}
use Rattle.rp_raftsafe.proofs.Machine.{Abs, Inv}
use Rattle.rp_raftsafe.proofs.Raise.{raise, raise_keeps, ask, ask_keeps}
use Rattle.rp_raftsafe.proofs.Grant.{grant, Grants, grant_keeps}
use Rattle.rp_raftsafe.proofs.Elect.{elect, Elects, elect_keeps}
use Rattle.rp_raftsafe.proofs.Growth.{Moves, moves_trans, raise_moves, ask_moves, grant_moves, elect_moves}
use Rattle.rp_raftsafe.proofs.Safe.{commits_grow, commits_more}
use Rattle.rp_raftsafe.proofs.Views.{shows_last, last_term_in}
use Rattle.rp_raftsafe.proofs.Refine.{NodeOk, RoleOk, LeaderOk, CandidateOk, PacketOk, GrantOk, packets_grow}
use Rattle.rp_raftsafe.proofs.Pieces.{at_node, at_each, count_nodes, every_append, every_map, every_of, every_all, peers_other, IsDueOk, index_after, state_after, DraftOk, draft_after, sends_to_ok, quiet_ok, with_replies, as_leader, from_leader, leads_by, leads_not, Led, leader_appends}

stands_by : (r : Role) → is_candidate r ≡ true → r ≡ Candidate
stands_by Follower e = cc
stands_by Candidate e = refl
stands_by Leader e = cc

as_candidate : (a : Abs) (p t : ℕ) (xs : List Entry) (nexts matches : List ℕ) (ballots : List Bool) (r : Role) → r ≡ Candidate → RoleOk a p t xs nexts matches ballots r → CandidateOk a p t xs ballots
as_candidate a p t xs nexts matches ballots r stood ok = subst (λ z. RoleOk a p t xs nexts matches ballots z) stood ok

-- a candidate whose votes are a majority leads
module _ {S : Type 0} (g : Range S) (a : Abs) (p applied : ℕ) (state : S) (st : RaftState) (h : Inv g.nodes a) (pos : 0 < p) (ok : NodeOk g a p st applied state) (stood : st.head.role ≡ Candidate) where
  cand : CandidateOk a p st.head.term (a.log p) st.head.votes
  cand = as_candidate a p st.head.term (a.log p) st.head.next st.head.matched st.head.votes st.head.role stood ok.role

  voted_for : is_elected st.head ≡ true → Majority g.nodes (λ q. a.vote q st.head.term ≡ p)
  voted_for most = record {
    test = λ q. of_node st.head.votes q false;
    most = subst (λ z. z < 2 * count (λ q. of_node st.head.votes q false) z) ok.nodes (omega (arith, ltb-true st.head.nodes (2 * count_by (λ voted. voted) (take st.head.nodes st.head.votes)) most, count_nodes (λ voted. voted) st.head.votes false st.head.nodes));
    has = λ q pq _ passes. cand.counted q pq passes;
  }

  elects : is_elected st.head ≡ true → Elects g.nodes a p
  elects most =
      let votes : Majority g.nodes (λ q. a.vote q st.head.term ≡ p) = voted_for most in
      let free : a.lead st.head.term ≡ 0 =
      ⊎_elim
      (λ e. e)
      (λ ne.
      let s : Shared g.nodes (λ q. a.vote q st.head.term ≡ a.lead st.head.term) (λ q. a.vote q st.head.term ≡ p) = majorities_meet g.nodes _ _ (h.elected st.head.term (omega (arith, ne))) votes in
      absurd (cand.loses (sym s.left ∙ s.right)))
      (cases_eq (a.lead st.head.term) 0) in
      record {
        positive = pos;
        votes = subst (λ z. Majority g.nodes (λ q. a.vote q z ≡ p)) (sym ok.term) votes;
        leaderless = ap a.lead ok.term ∙ free;
        asked = ap (λ z. a.asked z p) ok.term ∙ cand.asks;
      }

  -- the state as leader, before it appends
  abbrev crowned : RaftState
  crowned = record st {
    head = record st.head {
      role = Leader;
      leader = Some st.head.node;
      next = for_each_node (last_index st.log + 1);
      matched = for_each_node 0;
      silent = 0;
      beat = 0;
    };
  }

  crowned_ok : is_elected st.head ≡ true → NodeOk g (elect a p) p crowned applied state
  crowned_ok most = record {
    node = ok.node;
    nodes = ok.nodes;
    term = ok.term;
    term_pos = ok.term_pos;
    log = ok.log;
    start_le = ok.start_le;
    based = ok.based;
    applied_le = ok.applied_le;
    state_is = ok.state_is;
    vote = ok.vote;
    known = λ l _ _. refl;
    role = record {
      leads = at_upd (λ x. x ≡ p) a.lead (a.term p) p st.head.term (λ _. refl) (λ ne. absurd (ne (sym ok.term)));
      ahead = λ q pq. at_each (λ x. x ≤ length (a.log p) + 1) (last_index st.log + 1) q 0 (omega (arith, shows_last (a.log p) st.log ok.log)) (omega arith);
      acked = λ q pq. at_each (λ x. x ≤ (elect a p).ack q st.head.term) 0 q 0 (omega arith) (omega arith);
    };
    commit = commits_grow g.nodes a (elect a p) (elect_moves g.nodes a p h (elects most)).grows st.head.term st.head.commit (a.log p) ok.commit;
  }

  pub elected_ok : DraftOk g a p applied state (elected st)
  elected_ok =
      cond_both (is_elected st.head) (sends_to (leading st) Everyone) (quiet st) (λ d. DraftOk g a p applied state d)
      (λ most.
      let led : Led g (elect a p) p applied state (with_payloads crowned (nothing ∷ [])) = leader_appends g (elect a p) p applied state crowned (nothing ∷ []) (elect_keeps g.nodes a p (elects most) h) pos (crowned_ok most) refl in
      draft_after g a led.to p applied state (sends_to (leading st) Everyone) (moves_trans p a (elect a p) led.to (elect_moves g.nodes a p h (elects most)) led.moves)
      (sends_to_ok g led.to p applied state (leading st) Everyone led.inv led.node refl))
      (λ _. quiet_ok g a p applied state st h ok)

-- VoteReply
pub on_vote_reply_ok : {S : Type 0} (g : Range S) (a : Abs) (p applied : ℕ) (state : S) (st : RaftState) (from term : ℕ) (granted : Bool) → Inv g.nodes a → 0 < p → 0 < from → NodeOk g a p st applied state → (granted ≡ true → GrantOk a from p term) → DraftOk g a p applied state (on_vote_reply st from term granted)
on_vote_reply_ok {S} g a p applied state st from term granted h pos pf ok m =
    cond_both (granted && eqb term st.head.term && is_candidate st.head.role) (elected (record st { head = record st.head { votes = with_node st.head.votes from true } })) (quiet st) (λ d. DraftOk g a p applied state d)
    (λ yes.
    let parts = and_parts (granted && eqb term st.head.term) (is_candidate st.head.role) yes in
    let parts' = and_parts granted (eqb term st.head.term) parts.0 in
    let stood : st.head.role ≡ Candidate = stands_by st.head.role parts.1 in
    let same : term ≡ st.head.term = eqb-true term st.head.term parts'.1 in
    let vote : GrantOk a from p term = m parts'.0 in
    let c : CandidateOk a p st.head.term (a.log p) st.head.votes = as_candidate a p st.head.term (a.log p) st.head.next st.head.matched st.head.votes st.head.role stood ok.role in
    elected_ok g a p applied state (record st { head = record st.head { votes = with_node st.head.votes from true } }) h pos
    (record {
      node = ok.node;
      nodes = ok.nodes;
      term = ok.term;
      term_pos = ok.term_pos;
      log = ok.log;
      start_le = ok.start_le;
      based = ok.based;
      applied_le = ok.applied_le;
      state_is = ok.state_is;
      vote = ok.vote;
      known = ok.known;
      role = subst (λ z. RoleOk a p st.head.term (a.log p) st.head.next st.head.matched (with_node st.head.votes from true) z) (sym stood)
          (record {
            late = c.late;
            loses = c.loses;
            asks = c.asks;
            itself = c.itself;
            counted = λ q pq. at_node (λ x. x ≡ true → a.vote q st.head.term ≡ p) st.head.votes from true q false pf pq (λ e _. ap (λ z. a.vote z st.head.term) e ∙ ap (a.vote from) (sym same) ∙ vote.voted) (c.counted q pq);
          });
      commit = ok.commit;
    })
    stood)
    (λ _. quiet_ok g a p applied state st h ok)

-- a node stands for election
module _ {S : Type 0} (g : Range S) (a : Abs) (p applied : ℕ) (state : S) (st : RaftState) (h : Inv g.nodes a) (pos : 0 < p) (ok : NodeOk g a p st applied state) where
  abbrev up : ℕ
  up = st.head.term + 1

  abbrev raised : Abs
  raised = raise a p up

  abbrev noted : Abs
  noted = ask raised p

  abbrev stood_for : Abs
  stood_for = grant noted p p

  later : a.term p < up
  later = omega (arith, ok.term)

  own_term : raised.term p ≡ up
  own_term = upd_same a.term p up

  free : raised.vote p (raised.term p) ≡ 0
  free = ap (a.vote p) own_term ∙ h.unvoted p up later

  own_log : noted.asked up p ≡ a.log p
  own_log = at_upd2 (λ x. x ≡ a.log p) a.asked (raised.term p) p (a.log p) up p (λ _ _. refl) (λ ne. absurd (ne (sym own_term) refl))

  itself_ok : Grants noted p p
  itself_ok = record {
    positive = pos;
    free = free;
    up_to_date = inr (ap last_tm (sym (ap (λ z. noted.asked z p) own_term ∙ own_log)), omega (arith, ap length (ap (λ z. noted.asked z p) own_term ∙ own_log)));
    stands = inl refl;
  }

  inv_raised : Inv g.nodes raised
  inv_raised = raise_keeps g.nodes a p up later h

  inv_noted : Inv g.nodes noted
  inv_noted = ask_keeps g.nodes raised p free inv_raised

  inv_stood : Inv g.nodes stood_for
  inv_stood = grant_keeps g.nodes noted p p itself_ok inv_noted

  stand_moves : Moves p a stood_for
  stand_moves = moves_trans p a raised stood_for (raise_moves a p up later) (moves_trans p raised noted stood_for (ask_moves raised p free) (grant_moves noted p p free))

  own_vote : stood_for.vote p up ≡ p
  own_vote = at_upd2 (λ x. x ≡ p) a.vote p (raised.term p) p p up (λ _ _. refl) (λ ne. absurd (ne refl (sym own_term)))

  candidate_ok : NodeOk g stood_for p (record st { head = candidate st.head }) applied state
  candidate_ok = record {
    node = ok.node;
    nodes = ok.nodes;
    term = own_term;
    term_pos = omega arith;
    log = ok.log;
    start_le = ok.start_le;
    based = ok.based;
    applied_le = ok.applied_le;
    state_is = ok.state_is;
    vote = λ _. own_vote ∙ sym ok.node;
    known = λ l e _. absurd (none_some l e);
    role = record {
      late = omega (arith, ok.term_pos);
      loses = λ e. omega (arith, ok.term, ap a.term e, h.lead_term up (omega (arith, e)));
      asks = own_log;
      itself = own_vote;
      counted = λ q pq. at_node (λ x. x ≡ true → stood_for.vote q up ≡ p) (for_each_node false) st.head.node true q false (omega (arith, ok.node)) pq
          (λ e _. ap (λ z. stood_for.vote z up) (e ∙ ok.node) ∙ own_vote)
          (at_each (λ x. x ≡ true → stood_for.vote q up ≡ p) false q false (λ e. cc) (λ e. cc));
    };
    commit = commits_more g.nodes stood_for st.head.term up st.head.commit (a.log p) (a.log p) (omega arith) refl (commits_grow g.nodes a stood_for stand_moves.grows st.head.term st.head.commit (a.log p) ok.commit);
  }
    where
      none_some : (l : ℕ) → ◌≡◌ {A = Option ℕ} None (Some l) → ⊥
      none_some l e = cc

  requests_ok : Every (PacketOk g stood_for p) (requests (record st { head = candidate st.head }))
  requests_ok =
      every_map (PacketOk g stood_for p) (λ peer. (peer, Vote up (last_index st.log) (last_term st.log))) (peers (candidate st.head))
      (every_of (λ q. q ≡ p → ⊥) (λ q. PacketOk g stood_for p (q, Vote up (last_index st.log) (last_term st.log)))
      (λ q other. record {
        other = other;
        fact = record {
          late = omega (arith, ok.term_pos);
          itself = own_vote;
          last = shows_last (a.log p) st.log ok.log ∙ ap length (sym own_log);
          last_term = last_term_in (a.log p) st.log ok.log ∙ ap last_tm (sym own_log);
        };
      })
      (peers (candidate st.head)) (peers_other (candidate st.head) p ok.node))

  pub stand_ok : DraftOk g a p applied state (stand st)
  stand_ok = draft_after g a stood_for p applied state (stand st) stand_moves
      (with_replies g stood_for p applied state (elected (record st { head = candidate st.head })) (requests (record st { head = candidate st.head })) pos requests_ok
      (elected_ok g stood_for p applied state (record st { head = candidate st.head }) inv_stood pos candidate_ok refl))

-- Tick
pub tick_ok : {S : Type 0} (g : Range S) (a : Abs) (p applied : ℕ) (state : S) (st : RaftState) → Inv g.nodes a → 0 < p → NodeOk g a p st applied state → DraftOk g a p applied state (tick st)
tick_ok {S} g a p applied state st h pos ok =
    let with_beat : (k : ℕ) → NodeOk g a p (record st { head = record st.head { beat = k } }) applied state = λ k. record { node = ok.node; nodes = ok.nodes; term = ok.term; term_pos = ok.term_pos; log = ok.log; start_le = ok.start_le; based = ok.based; applied_le = ok.applied_le; state_is = ok.state_is; vote = ok.vote; known = ok.known; role = ok.role; commit = ok.commit } in
    let with_silent : (k : ℕ) → NodeOk g a p (record st { head = record st.head { silent = k } }) applied state = λ k. record { node = ok.node; nodes = ok.nodes; term = ok.term; term_pos = ok.term_pos; log = ok.log; start_le = ok.start_le; based = ok.based; applied_le = ok.applied_le; state_is = ok.state_is; vote = ok.vote; known = ok.known; role = ok.role; commit = ok.commit } in
    cond_both (is_leader st.head.role) (tick_leading st) (tick_waiting st) (λ d. DraftOk g a p applied state d)
    (λ leads.
    cond_both (eqb (st.head.beat + 1) 2) (sends_to (record st { head = record st.head { beat = 0 } }) Everyone) (quiet (record st { head = record st.head { beat = st.head.beat + 1 } })) (λ d. DraftOk g a p applied state d)
    (λ _. sends_to_ok g a p applied state (record st { head = record st.head { beat = 0 } }) Everyone h (with_beat 0) (leads_by st.head.role leads))
    (λ _. quiet_ok g a p applied state (record st { head = record st.head { beat = st.head.beat + 1 } }) h (with_beat (st.head.beat + 1))))
    (λ _.
    cond_both (eqb (st.head.silent + 1) (patience st.head.node)) (stand st) (quiet (record st { head = record st.head { silent = st.head.silent + 1 } })) (λ d. DraftOk g a p applied state d)
    (λ _. stand_ok g a p applied state st h pos ok)
    (λ _. quiet_ok g a p applied state (record st { head = record st.head { silent = st.head.silent + 1 } }) h (with_silent (st.head.silent + 1))))

-- Forward
pub on_forward_ok : {S : Type 0} (g : Range S) (a : Abs) (p applied : ℕ) (state : S) (st : RaftState) (payload : List ℕ) → Inv g.nodes a → 0 < p → NodeOk g a p st applied state → DraftOk g a p applied state (on_forward st payload)
on_forward_ok g a p applied state st payload h pos ok =
    cond_both (is_leader st.head.role) (sends_to (with_payloads st (payload ∷ [])) Everyone) (quiet st) (λ d. DraftOk g a p applied state d)
    (λ leads.
    let led : Led g a p applied state (with_payloads st (payload ∷ [])) = leader_appends g a p applied state st (payload ∷ []) h pos ok (leads_by st.head.role leads) in
    draft_after g a led.to p applied state (sends_to (with_payloads st (payload ∷ [])) Everyone) led.moves
    (sends_to_ok g led.to p applied state (with_payloads st (payload ∷ [])) Everyone led.inv led.node (leads_by st.head.role leads)))
    (λ _. quiet_ok g a p applied state st h ok)

-- AppendReply
pub on_append_reply_ok : {S : Type 0} (g : Range S) (a : Abs) (p applied : ℕ) (state : S) (st : RaftState) (from term : ℕ) (said : Bool) (index : ℕ) → Inv g.nodes a → 0 < p → 0 < from → (from ≡ p → ⊥) → NodeOk g a p st applied state → (said ≡ true → index ≤ a.ack from term) → DraftOk g a p applied state (on_append_reply st from term said index)
on_append_reply_ok {S} g a p applied state st from term said index h pos pf other ok m =
    cond_both (is_leader st.head.role && eqb term st.head.term) (cond said (on_match st from index) (on_mismatch st from index)) (quiet st) (λ d. DraftOk g a p applied state d)
    (λ yes.
    let parts = and_parts (is_leader st.head.role) (eqb term st.head.term) yes in
    let led : st.head.role ≡ Leader = leads_by st.head.role parts.0 in
    let same : term ≡ st.head.term = eqb-true term st.head.term parts.1 in
    let l : LeaderOk a p st.head.term (a.log p) st.head.next st.head.matched = as_leader a p st.head.term (a.log p) st.head.next st.head.matched st.head.votes st.head.role led ok.role in
    let last : last_index st.log ≡ length (a.log p) = shows_last (a.log p) st.log ok.log in
    let tables : (nexts matches : List ℕ) → LeaderOk a p st.head.term (a.log p) nexts matches → NodeOk g a p (record st { head = record st.head { next = nexts; matched = matches } }) applied state =
    λ nexts matches role. record { node = ok.node; nodes = ok.nodes; term = ok.term; term_pos = ok.term_pos; log = ok.log; start_le = ok.start_le; based = ok.based; applied_le = ok.applied_le; state_is = ok.state_is; vote = ok.vote; known = ok.known; role = from_leader a p st.head.term (a.log p) nexts matches st.head.votes st.head.role led role; commit = ok.commit } in
    cond_both said (on_match st from index) (on_mismatch st from index) (λ d. DraftOk g a p applied state d)
    (λ agreed.
    sends_to_ok g a p applied state (record st { head = record st.head { matched = with_node st.head.matched from (match_after st from index); next = with_node st.head.next from (next_after st from index) } })
    (cond (leb (next_after st from index) (last_index st.log)) (One from) Nobody) h
    (tables (with_node st.head.next from (next_after st from index)) (with_node st.head.matched from (match_after st from index))
    (record {
      leads = l.leads;
      ahead = λ q pq. at_node (λ x. x ≤ length (a.log p) + 1) st.head.next from (next_after st from index) q 0 pf pq (λ _. omega (arith, last)) (l.ahead q pq);
      acked = λ q pq. at_node (λ x. x ≤ a.ack q st.head.term) st.head.matched from (match_after st from index) q 0 pf pq
          (λ e. subst (λ z. match_after st from index ≤ a.ack z st.head.term) (sym e) (subst (λ z. match_after st from index ≤ a.ack from z) same (omega (arith, m agreed, ap (a.ack from) same, l.acked from pf))))
          (l.acked q pq);
    }))
    (cond_both (leb (next_after st from index) (last_index st.log)) (One from) Nobody (λ due. IsDueOk p st.head.role due) (λ _. (led, other)) (λ _. tt)))
    (λ _.
    sends_to_ok g a p applied state (record st { head = record st.head { next = with_node st.head.next from (min (max index (of_node st.head.matched from 0) + 1) (last_index st.log + 1)) } }) (One from) h
    (tables (with_node st.head.next from (min (max index (of_node st.head.matched from 0) + 1) (last_index st.log + 1))) st.head.matched
    (record {
      leads = l.leads;
      ahead = λ q pq. at_node (λ x. x ≤ length (a.log p) + 1) st.head.next from (min (max index (of_node st.head.matched from 0) + 1) (last_index st.log + 1)) q 0 pf pq (λ _. omega (arith, last)) (l.ahead q pq);
      acked = l.acked;
    }))
    (led, other)))
    (λ _. quiet_ok g a p applied state st h ok)

-- Propose, behind an event
pub then_proposed_ok : {S : Type 0} (g : Range S) (a : Abs) (p applied : ℕ) (state : S) (d : Draft S) (payloads : List (List ℕ)) → 0 < p → DraftOk g a p applied state d → DraftOk g a p applied state (then_proposed d payloads)
then_proposed_ok {S} g a p applied state d payloads pos ok = split (is_leader d.state.head.role) refl
  where
    by_role : Bool → Draft S
    by_role leads = record {
      state = cond leads (with_payloads d.state payloads) d.state;
      replies = d.replies ++ cond leads [] (option_map_or (λ leader. map (λ payload. (leader, Forward payload)) payloads) d.state.head.leader []);
      due = cond (leads && ltb 0 (length payloads)) Everyone d.due;
      taken = d.taken;
    }

    forwards_ok : (leads : is_leader d.state.head.role ≡ false) → (l : Option ℕ) → l ≡ d.state.head.leader → Every (PacketOk g ok.to p) (option_map_or (λ leader. map (λ payload. (leader, Forward payload)) payloads) l [])
    forwards_ok leads None e = tt
    forwards_ok leads (Some l) e =
        every_map (PacketOk g ok.to p) (λ payload. (l, Forward payload)) payloads
        (every_all (λ payload. PacketOk g ok.to p (l, Forward payload)) (λ payload. record { other = λ same. leads_not d.state.head.role leads (ok.node.known l (sym e) same); fact = tt }) payloads)

    split : (b : Bool) → is_leader d.state.head.role ≡ b → DraftOk g a p applied state (by_role b)
    split true e =
        let leads : d.state.head.role ≡ Leader = leads_by d.state.head.role e in
        let led : Led g ok.to p (index_after d.taken applied) (state_after d.taken state) (with_payloads d.state payloads) = leader_appends g ok.to p (index_after d.taken applied) (state_after d.taken state) d.state payloads ok.inv pos ok.node leads in
        record {
          to = led.to;
          moves = moves_trans p a ok.to led.to ok.moves led.moves;
          inv = led.inv;
          node = led.node;
          replies = every_append (PacketOk g led.to p) d.replies [] (packets_grow g ok.to led.to led.moves.grows p pos d.replies ok.replies) tt;
          due = cond_both (ltb 0 (length payloads)) Everyone d.due (λ due. IsDueOk p d.state.head.role due) (λ _. leads) (λ _. ok.due);
          calm = ok.calm;
        }
    split false e = record {
      to = ok.to;
      moves = ok.moves;
      inv = ok.inv;
      node = ok.node;
      replies = every_append (PacketOk g ok.to p) d.replies (option_map_or (λ leader. map (λ payload. (leader, Forward payload)) payloads) d.state.head.leader []) ok.replies (forwards_ok e d.state.head.leader refl);
      due = ok.due;
      calm = ok.calm;
    }
