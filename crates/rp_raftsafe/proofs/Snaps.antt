-- A snapshot that comes to a follower, or to a node that has nothing yet, is a move of it; and so is each message.
use Rattle.std.proofs.Common.{◌≡◌, ℕ, zero, suc, ◌<◌, ◌≤◌, max, true, false, cond, ltb, leb, Some, List, [], ◌∷◌, length, take, drop, refl, sym, ap, subst, ◌∙◌, arith, ⊎_elim, ltb-false, leb-true, leb-false, take-take}
use Rattle.std.specs.Prelude.{fold}
use Rattle.std.specs.List.{AllByRecursion as Every}
use Rattle.std.proofs.lemmas.Bool.{cond_both, cases_lt, both_ways}
use Rattle.std.proofs.lemmas.List.{length-replicate}
use Rattle.rp_raftlog.specs.declared.entries.Entry.{Entry}
use Rattle.rp_raftlog.specs.LogState.{log_at, has_term}
use Rattle.rp_raftstep.specs.declared.heads.Role.TheVariants.{Follower, Leader}
use Rattle.rp_raftstep.specs.declared.heads.Due.TheVariants.{Nobody}
use Rattle.rp_raftstep.specs.declared.messages.Message.{Message}
use Rattle.rp_raftstep.specs.declared.messages.Message.TheVariants.{Vote, VoteReply, Append, AppendReply, Forward, Snap}
use Rattle.rp_raftstep.specs.RaftState.{RaftState}
use Rattle.rp_raftstep.specs.Step.{Draft, answered, observed, following, refused_old, take_snap, on_snap, on_vote, on_vote_reply, on_append, on_append_reply, received, absent_answer}
use Rattle.rp_raftsafe.specs.World.{Range, Live, Turn, from_snap, absent_after}
use Rattle.rp_raftsafe.proofs.Tables.{at_upd2, upd_same}
use Rattle.rp_raftsafe.proofs.Logs.{term_in, Good, same_less, same_length, same_term_in, logs_match}
use Rattle.rp_raftsafe.proofs.Machine.{Abs, Inv}
use Rattle.rp_raftsafe.proofs.Raise.{raise, raise_keeps}
use Rattle.rp_raftsafe.proofs.Store.{store, Stores, store_keeps}
use Rattle.rp_raftsafe.proofs.Growth.{Moves, moves_refl, moves_trans, raise_moves, store_moves}
use Rattle.rp_raftsafe.proofs.Safe.{Commits, commits_grow, commits_more, commits_within}
use Rattle.rp_raftsafe.proofs.Views.{Shows, HasTerm, has_term_is, has_term_from, shows_front}
use Rattle.rp_raftsafe.proofs.Accept.{good_take, tm_take_le}
use Rattle.rp_raftsafe.proofs.Refine.{NodeOk, RoleOk, PacketOk, MessageOk, SnapOk, AbsentOk, StatusOk, front, state_at, message_grows}
use Rattle.rp_raftsafe.proofs.Pieces.{DraftOk, draft_after, answered_ok}
use Rattle.rp_raftsafe.proofs.Leads.{on_vote_reply_ok, on_append_reply_ok, on_forward_ok}
use Rattle.rp_raftsafe.proofs.Follows.{observed_ok, on_vote_ok, following_ok, refused_old_ok, under, committed_same, stored_node, stored_reply, on_append_ok}

false_true : false ≡ true → ⊥
false_true e = cc

-- a node that finds its log as the leader's up to an index
same_stores : (n : ℕ) (a : Abs) (p k : ℕ) → Inv n a → k ≤ length (a.llog (a.term p)) → take k (a.log p) ≡ take k (a.llog (a.term p)) → Stores a p (a.log p) k
same_stores n a p k h within front = record { good = h.good_log p; terms = h.log_terms p; within = within; front = front; kept = λ j _ e. e }

-- the front of the leader's log that a snapshot stands for
snap_stores : {S : Type 0} (g : Range S) (a : Abs) (p from index index_term : ℕ) (snapshot : S) → Inv g.nodes a → SnapOk g a from (a.term p) index index_term snapshot → ((j : ℕ) → j ≤ length (a.log p) → take j (a.log p) ≡ take j (a.llog (a.term p)) → j ≤ index) → Stores a p (take index (a.llog (a.term p))) index
snap_stores g a p from index index_term snapshot h m short = record {
  good = good_take a.llog (a.llog (a.term p)) index m.within (h.good_llog (a.term p));
  terms = tm_take_le (a.llog (a.term p)) index (a.term p) (h.llog_terms (a.term p));
  within = m.within;
  front = take-take index index (a.llog (a.term p)) (omega arith);
  kept = λ j le e. take-take j index (a.llog (a.term p)) (short j le e);
}

-- what the node shows then
snap_shows : {S : Type 0} (g : Range S) (a : Abs) (p from index index_term : ℕ) (snapshot : S) → SnapOk g a from (a.term p) index index_term snapshot → snapshot ≡ state_at g (take index (a.llog (a.term p))) index
snap_shows g a p from index index_term snapshot m = m.shows ∙ ap (λ z. fold g.act g.start (drop g.base z)) (sym (take-take index index (a.llog (a.term p)) (omega arith)))

snap_commits : {S : Type 0} (g : Range S) (a : Abs) (p from index index_term : ℕ) (snapshot : S) → SnapOk g a from (a.term p) index index_term snapshot → Commits g.nodes a (a.term p) index (take index (a.llog (a.term p)))
snap_commits g a p from index index_term snapshot m = commits_more g.nodes a (a.term p) (a.term p) index (a.llog (a.term p)) (take index (a.llog (a.term p))) (omega arith) (sym (take-take index index (a.llog (a.term p)) (omega arith))) m.commits

matched_at : (a : Abs) (xs ys : List Entry) → Good a.llog xs → Good a.llog ys → (k : ℕ) → k ≤ length xs → k ≤ length ys → term_in xs k ≡ term_in ys k → take k xs ≡ take k ys
matched_at a xs ys gx gy zero lx ly e = refl
matched_at a xs ys gx gy (suc k) lx ly e = logs_match a.llog xs ys k gx gy lx ly e

-- Snap of the present term
module _ {S : Type 0} (g : Range S) (a : Abs) (p applied : ℕ) (state : S) (st : RaftState) (from index index_term : ℕ) (snapshot : S) (h : Inv g.nodes a) (pf : 0 < from) (other : from ≡ p → ⊥) (ok : NodeOk g a p st applied state) (follows : st.head.role ≡ Follower) (m : SnapOk g a from st.head.term index index_term snapshot) where
  same_term : SnapOk g a from (a.term p) index index_term snapshot
  same_term = subst (λ z. SnapOk g a from z index index_term snapshot) (sym ok.term) m

  known_ok : index ≤ st.head.commit → DraftOk g a p applied state (answered st from (AppendReply st.head.term true st.head.commit))
  known_ok le =
      let within : st.head.commit ≤ length (a.log p) = commits_within g.nodes a st.head.term st.head.commit (a.log p) ok.commit in
      let same : take st.head.commit (a.log p) ≡ take st.head.commit (a.llog (a.term p)) = committed_same g a p applied state st from h pf other ok follows m.leads st.head.commit (omega arith) in
      let stores : Stores a p (a.log p) st.head.commit = same_stores g.nodes a p st.head.commit h (same_length st.head.commit (a.log p) (a.llog (a.term p)) within same) same in
      draft_after g a (store a p (a.log p) st.head.commit) p applied state (answered st from (AppendReply st.head.term true st.head.commit)) (store_moves a p (a.log p) st.head.commit)
      (answered_ok g (store a p (a.log p) st.head.commit) p applied state st from (AppendReply st.head.term true st.head.commit)
      (store_keeps g.nodes a p (a.log p) st.head.commit (under g a p applied state st from h pf other ok follows m.leads) stores h)
      (stored_node g a p applied state st from h pf other ok follows m.leads (a.log p) st.head.commit st.log st.head.commit stores ok.log (omega arith) ok.based (omega arith) ok.commit)
      (stored_reply g a p applied state st from h pf other ok follows m.leads (a.log p) st.head.commit))

  shown_ok : st.head.commit < index → has_term st.log index index_term ≡ true → DraftOk g a p applied state (answered (record st { head = record st.head { commit = index } }) from (AppendReply st.head.term true index))
  shown_ok gt has =
      let found : HasTerm (a.log p) st.log index index_term = has_term_is (a.log p) st.log ok.log index index_term has in
      let same : take index (a.log p) ≡ take index (a.llog (a.term p)) = matched_at a (a.log p) (a.llog (a.term p)) (h.good_log p) (h.good_llog (a.term p)) index found.within same_term.within (found.term ∙ sym same_term.at) in
      let stores : Stores a p (a.log p) index = same_stores g.nodes a p index h same_term.within same in
      let commits : Commits g.nodes a st.head.term index (a.log p) = commits_more g.nodes a st.head.term st.head.term index (a.llog st.head.term) (a.log p) (omega arith) (ap (λ z. take index (a.llog z)) (sym ok.term) ∙ sym same) m.commits in
      draft_after g a (store a p (a.log p) index) p applied state (answered (record st { head = record st.head { commit = index } }) from (AppendReply st.head.term true index)) (store_moves a p (a.log p) index)
      (answered_ok g (store a p (a.log p) index) p applied state (record st { head = record st.head { commit = index } }) from (AppendReply st.head.term true index)
      (store_keeps g.nodes a p (a.log p) index (under g a p applied state st from h pf other ok follows m.leads) stores h)
      (stored_node g a p applied state st from h pf other ok follows m.leads (a.log p) index st.log index stores ok.log (omega arith) ok.based (omega arith) commits)
      (stored_reply g a p applied state st from h pf other ok follows m.leads (a.log p) index))

  -- where the log has not the term there, it has less in common with the leader's
  shorter : st.head.commit < index → has_term st.log index index_term ≡ false → (j : ℕ) → j ≤ length (a.log p) → take j (a.log p) ≡ take j (a.llog (a.term p)) → j ≤ index
  shorter gt has j le same =
      ⊎_elim
      (λ (past : index < j).
      let equal : term_in (a.log p) index ≡ index_term = same_term_in index index (a.log p) (a.llog (a.term p)) (omega arith) (same_less index j (a.log p) (a.llog (a.term p)) (omega arith) same) ∙ same_term.at in
      absurd (both_ways (has_term st.log index index_term) has (has_term_from (a.log p) st.log ok.log index index_term (omega (arith, ok.based, ok.applied_le)) (omega arith) equal)))
      (λ le'. le')
      (cases_lt index j)

  taken_ok : st.head.commit < index → has_term st.log index index_term ≡ false → DraftOk g a p applied state (record { state = record { head = record st.head { commit = index }; log = log_at index index_term }; replies = (from, AppendReply st.head.term true index) ∷ []; due = Nobody; taken = Some (index, snapshot) })
  taken_ok gt has =
      let xs : List Entry = take index (a.llog (a.term p)) in
      let stores : Stores a p (take index (a.llog (a.term p))) index = snap_stores g a p from index index_term snapshot h same_term (shorter gt has) in
      let to : Abs = store a p (take index (a.llog (a.term p))) index in
      let log : (store a p (take index (a.llog (a.term p))) index).log p ≡ take index (a.llog (a.term p)) = upd_same a.log p (take index (a.llog (a.term p))) in
      let moves : Moves p a (store a p (take index (a.llog (a.term p))) index) = store_moves a p (take index (a.llog (a.term p))) index in
      record {
        to = store a p (take index (a.llog (a.term p))) index;
        moves = moves;
        inv = store_keeps g.nodes a p (take index (a.llog (a.term p))) index (under g a p applied state st from h pf other ok follows m.leads) stores h;
        node = record {
          node = ok.node;
          nodes = ok.nodes;
          term = ok.term;
          term_pos = ok.term_pos;
          log = subst (λ z. Shows z (log_at index index_term)) (sym log) (shows_front (a.llog (a.term p)) index index_term same_term.within same_term.at);
          start_le = m.start_le;
          based = omega arith;
          applied_le = omega arith;
          state_is = snap_shows g a p from index index_term snapshot same_term ∙ ap (λ z. state_at g z index) (sym log);
          vote = ok.vote;
          known = ok.known;
          role = subst (λ z. RoleOk (store a p (take index (a.llog (a.term p))) index) p st.head.term ((store a p (take index (a.llog (a.term p))) index).log p) st.head.next st.head.matched st.head.votes z) (sym follows) tt;
          commit = subst (λ z. Commits g.nodes (store a p (take index (a.llog (a.term p))) index) st.head.term index z) (sym log)
              (commits_grow g.nodes a (store a p (take index (a.llog (a.term p))) index) moves.grows st.head.term index (take index (a.llog (a.term p)))
              (subst (λ z. Commits g.nodes a z index (take index (a.llog (a.term p)))) ok.term (snap_commits g a p from index index_term snapshot same_term)));
        };
        replies = (stored_reply g a p applied state st from h pf other ok follows m.leads (take index (a.llog (a.term p))) index, tt);
        due = tt;
        calm = λ leads. absurd (follower_leads (sym follows ∙ leads));
      }
    where
      follower_leads : Follower ≡ Leader → ⊥
      follower_leads e = cc

  pub take_snap_ok : DraftOk g a p applied state (take_snap st from index index_term snapshot)
  take_snap_ok =
      let reset : Draft S = record { state = record { head = record st.head { commit = index }; log = log_at index index_term }; replies = (from, AppendReply st.head.term true index) ∷ []; due = Nobody; taken = Some (index, snapshot) } in
      cond_both (leb index st.head.commit) (answered st from (AppendReply st.head.term true st.head.commit))
      (cond (has_term st.log index index_term) (answered (record st { head = record st.head { commit = index } }) from (AppendReply st.head.term true index)) reset) (λ d. DraftOk g a p applied state d)
      (λ le. known_ok (leb-true index st.head.commit le))
      (λ gt.
      cond_both (has_term st.log index index_term) (answered (record st { head = record st.head { commit = index } }) from (AppendReply st.head.term true index)) reset (λ d. DraftOk g a p applied state d)
      (λ has. shown_ok (leb-false index st.head.commit gt) has)
      (λ hasnt. taken_ok (leb-false index st.head.commit gt) hasnt))

-- Snap
pub on_snap_ok : {S : Type 0} (g : Range S) (a : Abs) (p applied : ℕ) (state : S) (st : RaftState) (from t index index_term : ℕ) (snapshot : S) → Inv g.nodes a → 0 < from → (from ≡ p → ⊥) → NodeOk g a p st applied state → t ≤ st.head.term → SnapOk g a from t index index_term snapshot → DraftOk g a p applied state (on_snap st from t index index_term snapshot)
on_snap_ok g a p applied state st from t index index_term snapshot h pf other ok reached m =
    cond_both (ltb t st.head.term) (refused_old st from) (take_snap (record st { head = following st.head from }) from index index_term snapshot) (λ d. DraftOk g a p applied state d)
    (λ _. refused_old_ok g a p applied state st from h other ok)
    (λ ge.
    let same : t ≡ st.head.term = omega (arith, ltb-false t st.head.term ge) in
    take_snap_ok g a p applied state (record st { head = following st.head from }) from index index_term snapshot h pf other (following_ok g a p applied state st from other ok) refl (subst (λ z. SnapOk g a from z index index_term snapshot) same m))

-- a message
pub received_ok : {S : Type 0} (g : Range S) (a : Abs) (p applied : ℕ) (state : S) (st : RaftState) (from : ℕ) (m : Message S) → Inv g.nodes a → 0 < p → 0 < from → (from ≡ p → ⊥) → NodeOk g a p st applied state → MessageOk g a from p m → DraftOk g a p applied state (received st from m)
received_ok g a p applied state st from (Vote t index index_term) h pos pf other ok m =
    let o = observed_ok g a p applied state st t h ok in
    draft_after g a o.to p applied state (on_vote (record st { head = observed st.head t }) from t index index_term) o.moves
    (on_vote_ok g o.to p applied state (record st { head = observed st.head t }) from t index index_term o.inv pos pf other o.node (message_grows g a o.to o.moves.grows from p (Vote t index index_term) pf m))
received_ok g a p applied state st from (VoteReply t granted) h pos pf other ok m =
    let o = observed_ok g a p applied state st t h ok in
    draft_after g a o.to p applied state (on_vote_reply (record st { head = observed st.head t }) from t granted) o.moves
    (on_vote_reply_ok g o.to p applied state (record st { head = observed st.head t }) from t granted o.inv pos pf o.node (message_grows g a o.to o.moves.grows from p (VoteReply t granted) pf m))
received_ok g a p applied state st from (Append t prev prev_term es commit) h pos pf other ok m =
    let o = observed_ok g a p applied state st t h ok in
    draft_after g a o.to p applied state (on_append (record st { head = observed st.head t }) from t prev prev_term es commit) o.moves
    (on_append_ok g o.to p applied state (record st { head = observed st.head t }) from t prev prev_term es commit o.inv pf other o.node o.reached (message_grows g a o.to o.moves.grows from p (Append t prev prev_term es commit) pf m))
received_ok g a p applied state st from (AppendReply t said index) h pos pf other ok m =
    let o = observed_ok g a p applied state st t h ok in
    draft_after g a o.to p applied state (on_append_reply (record st { head = observed st.head t }) from t said index) o.moves
    (on_append_reply_ok g o.to p applied state (record st { head = observed st.head t }) from t said index o.inv pos pf other o.node (message_grows g a o.to o.moves.grows from p (AppendReply t said index) pf m))
received_ok g a p applied state st from (Forward payload) h pos pf other ok m = on_forward_ok g a p applied state st payload h pos ok
received_ok g a p applied state st from (Snap t index index_term snapshot) h pos pf other ok m =
    let o = observed_ok g a p applied state st t h ok in
    draft_after g a o.to p applied state (on_snap (record st { head = observed st.head t }) from t index index_term snapshot) o.moves
    (on_snap_ok g o.to p applied state (record st { head = observed st.head t }) from t index index_term snapshot o.inv pf other o.node o.reached (message_grows g a o.to o.moves.grows from p (Snap t index index_term snapshot) pf m))

-- what an event makes of a node is a run of moves of it
pub record TurnOk {S : Type 0} (g : Range S) (a : Abs) (p : ℕ) (turn : Turn S) : Type 0 where
  pub to : Abs
  pub moves : Moves p a to
  pub inv : Inv g.nodes to
  pub status : StatusOk g to p turn.status
  pub sends : Every (PacketOk g to p) turn.sends

pub turn_after : {S : Type 0} (g : Range S) (a b : Abs) (p : ℕ) (turn : Turn S) → Moves p a b → TurnOk g b p turn → TurnOk g a p turn
turn_after g a b p turn m ok = record { to = ok.to; moves = moves_trans p a b ok.to m ok.moves; inv = ok.inv; status = ok.status; sends = ok.sends }

-- a node that has nothing yet comes to the term of a message
absent_in : {S : Type 0} (g : Range S) (a : Abs) (p t : ℕ) → Inv g.nodes a → AbsentOk g a p → 0 < t → (b : Abs) × Moves p a b × Inv g.nodes b × (b.term p ≡ t) × (b.log p ≡ front g) × (1 < t → b.vote p t ≡ 0)
absent_in g a p t h ok pos =
    ⊎_elim
    (λ (lt : 1 < t).
    let up : a.term p < t = omega (arith, ok.term) in
    (raise a p t, raise_moves a p t up, raise_keeps g.nodes a p t up h, upd_same a.term p t, ok.log, λ _. h.unvoted p t up))
    (λ (le : t ≤ 1).
    let same : a.term p ≡ t = omega (arith, ok.term) in
    (a, moves_refl p a, h, same, ok.log, λ lt. absurd (omega arith)))
    (cases_lt 1 t)

absent_snap_ok : {S : Type 0} (g : Range S) (b : Abs) (p from t index index_term : ℕ) (snapshot : S) → Inv g.nodes b → 0 < from → (from ≡ p → ⊥) → b.term p ≡ t → b.log p ≡ front g → (1 < t → b.vote p t ≡ 0) → SnapOk g b from t index index_term snapshot → TurnOk g b p (record { status = Live (from_snap g p from t index index_term snapshot); sends = (from, AppendReply t true index) ∷ [] })
absent_snap_ok {S} g b p from t index index_term snapshot h pf other tp logs votes m =
    let m' : SnapOk g b from (b.term p) index index_term snapshot = subst (λ z. SnapOk g b from z index index_term snapshot) (sym tp) m in
    let xs : List Entry = take index (b.llog (b.term p)) in
    let stores : Stores b p (take index (b.llog (b.term p))) index = snap_stores g b p from index index_term snapshot h m' (λ j le _. omega (arith, m.start_le, ap length logs, length-replicate {A = Entry} g.base (record { term = 1; payload = [] }))) in
    let to : Abs = store b p (take index (b.llog (b.term p))) index in
    let log : (store b p (take index (b.llog (b.term p))) index).log p ≡ take index (b.llog (b.term p)) = upd_same b.log p (take index (b.llog (b.term p))) in
    let moves : Moves p b (store b p (take index (b.llog (b.term p))) index) = store_moves b p (take index (b.llog (b.term p))) index in
    record {
      to = store b p (take index (b.llog (b.term p))) index;
      moves = moves;
      inv = store_keeps g.nodes b p (take index (b.llog (b.term p))) index (record { led = omega (arith, m'.leads); other = λ e. other (sym m'.leads ∙ e) }) stores h;
      status = record {
        node = refl;
        nodes = refl;
        term = tp;
        term_pos = m.term_pos;
        log = subst (λ z. Shows z (log_at index index_term)) (sym log) (shows_front (b.llog (b.term p)) index index_term m'.within m'.at);
        start_le = m.start_le;
        based = omega arith;
        applied_le = omega arith;
        state_is = snap_shows g b p from index index_term snapshot m' ∙ ap (λ z. state_at g z index) (sym log);
        vote = votes;
        known = λ l e same. absurd (other (some_same from l e ∙ same));
        role = tt;
        commit = subst (λ z. Commits g.nodes (store b p (take index (b.llog (b.term p))) index) t index z) (sym log)
            (commits_grow g.nodes b (store b p (take index (b.llog (b.term p))) index) moves.grows t index (take index (b.llog (b.term p)))
            (subst (λ z. Commits g.nodes b z index (take index (b.llog (b.term p)))) tp (snap_commits g b p from index index_term snapshot m')));
      };
      sends = (record { other = other; fact = λ _. at_upd2 (λ x. index ≤ x) b.ack p (b.term p) (max (b.ack p (b.term p)) index) p t (λ _ _. omega arith) (λ ne. absurd (ne refl (sym tp))) }, tt);
    }
  where
    some_same : (x y : ℕ) → Some x ≡ Some y → x ≡ y
    some_same x y e = cc

-- a message to a node that has nothing yet
pub absent_gets_ok : {S : Type 0} (g : Range S) (a : Abs) (p from : ℕ) (m : Message S) → Inv g.nodes a → 0 < from → (from ≡ p → ⊥) → AbsentOk g a p → MessageOk g a from p m → TurnOk g a p (record { status = absent_after g p from m; sends = absent_answer from m })
absent_gets_ok g a p from (Vote t index index_term) h pf other ok m = record { to = a; moves = moves_refl p a; inv = h; status = ok; sends = tt }
absent_gets_ok g a p from (VoteReply t granted) h pf other ok m = record { to = a; moves = moves_refl p a; inv = h; status = ok; sends = tt }
absent_gets_ok g a p from (Append t prev prev_term es commit) h pf other ok m = record { to = a; moves = moves_refl p a; inv = h; status = ok; sends = (record { other = other; fact = λ e. absurd (false_true e) }, tt) }
absent_gets_ok g a p from (AppendReply t said index) h pf other ok m = record { to = a; moves = moves_refl p a; inv = h; status = ok; sends = tt }
absent_gets_ok g a p from (Forward payload) h pf other ok m = record { to = a; moves = moves_refl p a; inv = h; status = ok; sends = tt }
absent_gets_ok g a p from (Snap t index index_term snapshot) h pf other ok m =
    let r = absent_in g a p t h ok m.term_pos in
    turn_after g a r.0 p (record { status = Live (from_snap g p from t index index_term snapshot); sends = (from, AppendReply t true index) ∷ [] }) r.1
    (absent_snap_ok g r.0 p from t index index_term snapshot r.2 pf other r.3 r.4 r.5 (message_grows g a r.0 r.1.grows from p (Snap t index index_term snapshot) pf m))
