-- Events by which a node votes and follows are moves of it.
use Rattle.std.proofs.Common.{◌≡◌, ℕ, ◌+◌, ◌<◌, ◌≤◌, max, min, Bool, true, false, ◌&&◌, eqb, ltb, leb, Option, Some, None, List, length, take, drop, refl, sym, ap, subst, ◌∙◌, arith, ⊎_elim, inl, inr, eqb-true, ltb-true, ltb-false, leb-true}
use Rattle.std.specs.Prelude.{fold}
use Rattle.std.specs.Option.{option_map_or}
use Rattle.std.proofs.lemmas.Bool.{cond_both, and_parts, or_cases}
use Rattle.rp_raftlog.specs.declared.entries.Entry.{Entry}
use Rattle.rp_raftlog.specs.LogState.{LogState, last_index, last_term, accepted, accepted_to, accepting, matches}
use Rattle.rp_raftstep.specs.declared.heads.Role.{Role}
use Rattle.rp_raftstep.specs.declared.heads.Role.TheVariants.{Follower, Candidate, Leader}
use Rattle.rp_raftstep.specs.declared.messages.Message.TheVariants.{VoteReply, AppendReply}
use Rattle.rp_raftstep.specs.RaftState.{RaftState}
use Rattle.rp_raftstep.specs.Step.{answered, observed, is_up_to_date, may_vote, on_vote, following, refused_old, take_append, on_append}
use Rattle.rp_raftsafe.specs.World.{Range}
use Rattle.rp_raftsafe.proofs.Tables.{at_upd2, upd_same}
use Rattle.rp_raftsafe.proofs.Logs.{term_in, last_tm, same_less}
use Rattle.rp_raftsafe.proofs.Machine.{Abs, Inv, AtLeast}
use Rattle.rp_raftsafe.proofs.Raise.{raise, raise_keeps}
use Rattle.rp_raftsafe.proofs.Grant.{grant, Grants, grant_keeps}
use Rattle.rp_raftsafe.proofs.Store.{store, Stores, Follows, store_keeps}
use Rattle.rp_raftsafe.proofs.Growth.{Grows, Moves, moves_refl, raise_moves, grant_moves, store_moves}
use Rattle.rp_raftsafe.proofs.Safe.{Commits, commits_grow, commits_more, commits_less, commits_max, commits_within, committed_front}
use Rattle.rp_raftsafe.proofs.Views.{Shows, shows_last, last_term_in}
use Rattle.rp_raftsafe.proofs.Accept.{EditOk, accept_is}
use Rattle.rp_raftsafe.proofs.Refine.{NodeOk, RoleOk, PacketOk, VoteOk, AppendOk, number}
use Rattle.rp_raftsafe.proofs.Pieces.{DraftOk, draft_after, answered_ok}

none_some : (l : ℕ) → ◌≡◌ {A = Option ℕ} None (Some l) → ⊥
none_some l e = cc

-- a node that has come to a term, by a message or before
pub record Observed {S : Type 0} (g : Range S) (a : Abs) (p applied : ℕ) (state : S) (st : RaftState) (t : ℕ) : Type 0 where
  pub to : Abs
  pub moves : Moves p a to
  pub inv : Inv g.nodes to
  pub node : NodeOk g to p st applied state
  pub reached : t ≤ st.head.term

pub observed_ok : {S : Type 0} (g : Range S) (a : Abs) (p applied : ℕ) (state : S) (st : RaftState) (t : ℕ) → Inv g.nodes a → NodeOk g a p st applied state → Observed g a p applied state (record st { head = observed st.head t }) t
observed_ok g a p applied state st t h ok =
    cond_both (ltb st.head.term t) (record st.head { term = t; vote = None; role = Follower; leader = None }) st.head (λ z. Observed g a p applied state (record st { head = z }) t)
    (λ lt.
    let up : a.term p < t = omega (arith, ok.term, ltb-true st.head.term t lt) in
    record {
      to = raise a p t;
      moves = raise_moves a p t up;
      inv = raise_keeps g.nodes a p t up h;
      node = record {
        node = ok.node;
        nodes = ok.nodes;
        term = upd_same a.term p t;
        term_pos = omega arith;
        log = ok.log;
        start_le = ok.start_le;
        based = ok.based;
        applied_le = ok.applied_le;
        state_is = ok.state_is;
        vote = λ _. h.unvoted p t up;
        known = λ l e _. absurd (none_some l e);
        role = tt;
        commit = commits_more g.nodes (raise a p t) st.head.term t st.head.commit (a.log p) (a.log p) (omega (arith, ltb-true st.head.term t lt)) refl (commits_grow g.nodes a (raise a p t) (raise_moves a p t up).grows st.head.term st.head.commit (a.log p) ok.commit);
      };
      reached = omega arith;
    })
    (λ ge. record { to = a; moves = moves_refl p a; inv = h; node = ok; reached = ltb-false st.head.term t ge })

-- a role is none the worse for a node's own vote, where it had none to give before
role_grants : (a : Abs) (p c t : ℕ) → 0 < p → a.term p ≡ t → a.vote p t ≡ 0 → (xs : List Entry) (nexts matches : List ℕ) (ballots : List Bool) (r : Role) → RoleOk a p t xs nexts matches ballots r → RoleOk (grant a p c) p t xs nexts matches ballots r
role_grants a p c t pos tp free xs nexts matches ballots Follower ok = tt
role_grants a p c t pos tp free xs nexts matches ballots Candidate ok = absurd (omega (arith, ok.itself))
role_grants a p c t pos tp free xs nexts matches ballots Leader ok = record { leads = ok.leads; ahead = ok.ahead; acked = ok.acked }

-- the test on two logs' ends says that one is at least as up to date
up_to_date_is : (l : LogState) (xs ys : List Entry) (index index_term : ℕ) → Shows ys l → index ≡ length xs → index_term ≡ last_tm xs → is_up_to_date l index index_term ≡ true → AtLeast xs ys
up_to_date_is l xs ys index index_term s ei et passes =
    let last : last_index l ≡ length ys = shows_last ys l s in
    let lt : last_term l ≡ last_tm ys = last_term_in ys l s in
    ⊎_elim
    (λ later. inl (omega (arith, ltb-true (last_term l) index_term later)))
    (λ both.
    let parts = and_parts (eqb (last_term l) index_term) (leb (last_index l) index) both in
    inr (omega (arith, eqb-true (last_term l) index_term parts.0), omega (arith, leb-true (last_index l) index parts.1)))
    (or_cases (ltb (last_term l) index_term) (eqb (last_term l) index_term && leb (last_index l) index) passes)

-- Vote
pub on_vote_ok : {S : Type 0} (g : Range S) (a : Abs) (p applied : ℕ) (state : S) (st : RaftState) (from t index index_term : ℕ) → Inv g.nodes a → 0 < p → 0 < from → (from ≡ p → ⊥) → NodeOk g a p st applied state → VoteOk a from t index index_term → DraftOk g a p applied state (on_vote st from t index index_term)
on_vote_ok {S} g a p applied state st from t index index_term h pos pf other ok m =
    cond_both (eqb t st.head.term && may_vote st.head from && is_up_to_date st.log index index_term)
    (answered (record st { head = record st.head { vote = Some from; silent = 0 } }) from (VoteReply st.head.term true))
    (answered st from (VoteReply st.head.term false)) (λ d. DraftOk g a p applied state d)
    (λ passes.
    let parts = and_parts (eqb t st.head.term && may_vote st.head from) (is_up_to_date st.log index index_term) passes in
    let parts' = and_parts (eqb t st.head.term) (may_vote st.head from) parts.0 in
    granted (eqb-true t st.head.term parts'.0) parts.1 st.head.vote refl parts'.1)
    (λ _. answered_ok g a p applied state st from (VoteReply st.head.term false) h ok (record { other = other; fact = λ e. absurd (false_true e) }))
  where
    false_true : false ≡ true → ⊥
    false_true e = cc

    voted_node : (b : Abs) → NodeOk g b p st applied state → (1 < st.head.term → b.vote p st.head.term ≡ from) → NodeOk g b p (record st { head = record st.head { vote = Some from; silent = 0 } }) applied state
    voted_node b k v = record { node = k.node; nodes = k.nodes; term = k.term; term_pos = k.term_pos; log = k.log; start_le = k.start_le; based = k.based; applied_le = k.applied_le; state_is = k.state_is; vote = v; known = k.known; role = k.role; commit = k.commit }

    reply : (b : Abs) → b.vote p st.head.term ≡ from → PacketOk {S = S} g b p (from, VoteReply st.head.term true)
    reply b v = record { other = other; fact = λ _. record { positive = pf; voted = v } }

    granted : t ≡ st.head.term → is_up_to_date st.log index index_term ≡ true → (v : Option ℕ) → v ≡ st.head.vote → option_map_or (λ vote. eqb vote from) v true ≡ true → DraftOk g a p applied state (answered (record st { head = record st.head { vote = Some from; silent = 0 } }) from (VoteReply st.head.term true))
    granted same newer None ev may =
        let free : a.vote p st.head.term ≡ 0 = ok.vote (omega (arith, m.late)) ∙ ap number (sym ev) in
        let free' : a.vote p (a.term p) ≡ 0 = ap (a.vote p) ok.term ∙ free in
        let tp : a.term p ≡ t = ok.term ∙ sym same in
        let grants : Grants a p from = record {
          positive = pf;
          free = free';
          up_to_date = subst (λ z. AtLeast (a.asked z from) (a.log p)) (sym tp) (up_to_date_is st.log (a.asked t from) (a.log p) index index_term ok.log m.last m.last_term newer);
          stands = inr (ap (a.vote from) tp ∙ m.itself);
        } in
        let b : Abs = grant a p from in
        let moves : Moves p a (grant a p from) = grant_moves a p from free' in
        let voted : (grant a p from).vote p st.head.term ≡ from = at_upd2 (λ x. x ≡ from) a.vote p (a.term p) from p st.head.term (λ _ _. refl) (λ ne. absurd (ne refl (sym ok.term))) in
        draft_after g a (grant a p from) p applied state _ moves
        (answered_ok g (grant a p from) p applied state (record st { head = record st.head { vote = Some from; silent = 0 } }) from (VoteReply st.head.term true) (grant_keeps g.nodes a p from grants h)
        (record {
          node = ok.node;
          nodes = ok.nodes;
          term = ok.term;
          term_pos = ok.term_pos;
          log = ok.log;
          start_le = ok.start_le;
          based = ok.based;
          applied_le = ok.applied_le;
          state_is = ok.state_is;
          vote = λ _. voted;
          known = ok.known;
          role = role_grants a p from st.head.term pos ok.term free (a.log p) st.head.next st.head.matched st.head.votes st.head.role ok.role;
          commit = commits_grow g.nodes a (grant a p from) moves.grows st.head.term st.head.commit (a.log p) ok.commit;
        })
        (reply (grant a p from) voted))
    granted same newer (Some v) ev may =
        let voted : a.vote p st.head.term ≡ from = ok.vote (omega (arith, m.late)) ∙ ap number (sym ev) ∙ eqb-true v from may in
        answered_ok g a p applied state (record st { head = record st.head { vote = Some from; silent = 0 } }) from (VoteReply st.head.term true) h (voted_node a ok (λ _. voted)) (reply a voted)

-- the sender leads the term
pub following_ok : {S : Type 0} (g : Range S) (a : Abs) (p applied : ℕ) (state : S) (st : RaftState) (from : ℕ) → (from ≡ p → ⊥) → NodeOk g a p st applied state → NodeOk g a p (record st { head = following st.head from }) applied state
following_ok g a p applied state st from other ok = record {
  node = ok.node;
  nodes = ok.nodes;
  term = ok.term;
  term_pos = ok.term_pos;
  log = ok.log;
  start_le = ok.start_le;
  based = ok.based;
  applied_le = ok.applied_le;
  state_is = ok.state_is;
  vote = ok.vote;
  known = λ l e same. absurd (other (some_same from l e ∙ same));
  role = tt;
  commit = ok.commit;
}
  where
    some_same : (x y : ℕ) → Some x ≡ Some y → x ≡ y
    some_same x y e = cc

-- a message of a lower term is refused
pub refused_old_ok : {S : Type 0} (g : Range S) (a : Abs) (p applied : ℕ) (state : S) (st : RaftState) (from : ℕ) → Inv g.nodes a → (from ≡ p → ⊥) → NodeOk g a p st applied state → DraftOk g a p applied state (refused_old st from)
refused_old_ok g a p applied state st from h other ok = answered_ok g a p applied state st from (AppendReply st.head.term false st.head.commit) h ok (record { other = other; fact = λ e. absurd (false_true e) })
  where
    false_true : false ≡ true → ⊥
    false_true e = cc

-- a follower that takes entries of its leader: its applied state stays
module _ {S : Type 0} (g : Range S) (a : Abs) (p applied : ℕ) (state : S) (st : RaftState) (from : ℕ) (h : Inv g.nodes a) (pf : 0 < from) (other : from ≡ p → ⊥) (ok : NodeOk g a p st applied state) (follows : st.head.role ≡ Follower) (leads : a.lead st.head.term ≡ from) where
  pub led_term : 0 < a.lead st.head.term
  led_term = omega (arith, leads)

  pub under : Follows a p
  under = record { led = omega (arith, leads, ap a.lead ok.term); other = λ e. other (sym leads ∙ ap a.lead (sym ok.term) ∙ e) }

  -- what it has committed, the leader has
  pub committed_same : (k : ℕ) → k ≤ st.head.commit → take k (a.log p) ≡ take k (a.llog (a.term p))
  committed_same k le = ap (take k) refl ∙ committed_front g.nodes a h st.head.term (a.term p) k (a.log p) (omega (arith, ok.term)) (omega (arith, leads, ap a.lead ok.term)) (commits_less g.nodes a st.head.term k st.head.commit (a.log p) le ok.commit)

  pub stored_node : (xs : List Entry) (m : ℕ) (l : LogState) (commit : ℕ) → Stores a p xs m → Shows xs l → st.log.base ≤ l.base → l.base ≤ applied → st.head.commit ≤ commit → Commits g.nodes a st.head.term commit xs → NodeOk g (store a p xs m) p (record { head = record st.head { commit = commit }; log = l }) applied state
  stored_node xs m l commit stores shows up based more commits =
      let log : (store a p xs m).log p ≡ xs = upd_same a.log p xs in
      let grows : Grows a (store a p xs m) = (store_moves a p xs m).grows in
      let within : st.head.commit ≤ length (a.log p) = commits_within g.nodes a st.head.term st.head.commit (a.log p) ok.commit in
      let ours : take st.head.commit (a.log p) ≡ take st.head.commit (a.llog (a.term p)) = committed_same st.head.commit (omega arith) in
      let kept : take st.head.commit xs ≡ take st.head.commit (a.log p) = stores.kept st.head.commit within ours ∙ sym ours in
      let here : take applied xs ≡ take applied (a.log p) = same_less applied st.head.commit xs (a.log p) ok.applied_le kept in
      record {
        node = ok.node;
        nodes = ok.nodes;
        term = ok.term;
        term_pos = ok.term_pos;
        log = subst (λ z. Shows z l) (sym log) shows;
        start_le = omega (arith, ok.start_le);
        based = based;
        applied_le = omega (arith, ok.applied_le);
        state_is = ok.state_is ∙ ap (λ z. fold g.act g.start (drop g.base z)) (sym here ∙ ap (take applied) (sym log));
        vote = ok.vote;
        known = ok.known;
        role = subst (λ z. RoleOk (store a p xs m) p st.head.term ((store a p xs m).log p) st.head.next st.head.matched st.head.votes z) (sym follows) tt;
        commit = subst (λ z. Commits g.nodes (store a p xs m) st.head.term commit z) (sym log) (commits_grow g.nodes a (store a p xs m) grows st.head.term commit xs commits);
      }

  -- and it tells the leader how far its log is the leader's
  pub stored_reply : (xs : List Entry) (m : ℕ) → PacketOk {S = S} g (store a p xs m) p (from, AppendReply st.head.term true m)
  stored_reply xs m = record {
    other = other;
    fact = λ _. at_upd2 (λ x. m ≤ x) a.ack p (a.term p) (max (a.ack p (a.term p)) m) p st.head.term (λ _ _. omega arith) (λ ne. absurd (ne refl (sym ok.term)));
  }

-- Append of the present term
pub take_append_ok : {S : Type 0} (g : Range S) (a : Abs) (p applied : ℕ) (state : S) (st : RaftState) (from prev prev_term : ℕ) (es : List Entry) (commit : ℕ) → Inv g.nodes a → 0 < from → (from ≡ p → ⊥) → NodeOk g a p st applied state → st.head.role ≡ Follower → AppendOk g.nodes a from st.head.term prev prev_term es commit → DraftOk g a p applied state (take_append st from prev prev_term es commit)
take_append_ok {S} g a p applied state st from prev prev_term es commit h pf other ok follows m =
    cond_both (matches st.log prev prev_term)
    (answered (record { head = record st.head { commit = max st.head.commit (min commit (prev + length es)) }; log = accepted st.log prev es }) from (AppendReply st.head.term true (accepted_to st.log prev es)))
    (answered st from (AppendReply st.head.term false st.head.commit)) (λ d. DraftOk g a p applied state d)
    (λ fits.
    let tp : a.llog (a.term p) ≡ a.llog st.head.term = ap a.llog ok.term in
    let based : take st.log.base (a.log p) ≡ take st.log.base (a.llog (a.term p)) = committed_same g a p applied state st from h pf other ok follows m.leads st.log.base (omega (arith, ok.based, ok.applied_le)) in
    let edit : EditOk a p st.log (accepting st.log prev es) (accepted_to st.log prev es) =
    accept_is g.nodes a p st.log prev prev_term es h ok.log
    (omega (arith, m.within, ap length tp))
    (ap (λ z. take (length es) (drop prev z)) tp ∙ m.stand)
    (ap (λ z. term_in z prev) tp ∙ m.before)
    based fits in
    let to : ℕ = accepted_to st.log prev es in
    let mine : Commits g.nodes a st.head.term st.head.commit edit.whole =
    commits_more g.nodes a st.head.term st.head.term st.head.commit (a.log p) edit.whole (omega arith)
    (committed_same g a p applied state st from h pf other ok follows m.leads st.head.commit (omega arith)
    ∙ sym (edit.stores.kept st.head.commit (commits_within g.nodes a st.head.term st.head.commit (a.log p) ok.commit) (committed_same g a p applied state st from h pf other ok follows m.leads st.head.commit (omega arith))))
    ok.commit in
    let theirs : Commits g.nodes a st.head.term (min commit (prev + length es)) edit.whole =
    commits_more g.nodes a st.head.term st.head.term (min commit (prev + length es)) (a.llog st.head.term) edit.whole (omega arith)
    (sym (same_less (min commit (prev + length es)) (accepted_to st.log prev es) edit.whole (a.llog st.head.term) (omega arith) (edit.stores.front ∙ ap (take (accepted_to st.log prev es)) tp)))
    (commits_less g.nodes a st.head.term (min commit (prev + length es)) commit (a.llog st.head.term) (omega arith) m.commits) in
    draft_after g a (store a p edit.whole (accepted_to st.log prev es)) p applied state _ (store_moves a p edit.whole (accepted_to st.log prev es))
    (answered_ok g (store a p edit.whole (accepted_to st.log prev es)) p applied state
    (record { head = record st.head { commit = max st.head.commit (min commit (prev + length es)) }; log = accepted st.log prev es }) from (AppendReply st.head.term true (accepted_to st.log prev es))
    (store_keeps g.nodes a p edit.whole (accepted_to st.log prev es) (under g a p applied state st from h pf other ok follows m.leads) edit.stores h)
    (stored_node g a p applied state st from h pf other ok follows m.leads edit.whole (accepted_to st.log prev es) (accepted st.log prev es) (max st.head.commit (min commit (prev + length es))) edit.stores edit.shows (omega arith) ok.based (omega arith)
    (commits_max g.nodes a st.head.term st.head.commit (min commit (prev + length es)) edit.whole mine theirs))
    (stored_reply g a p applied state st from h pf other ok follows m.leads edit.whole (accepted_to st.log prev es))))
    (λ _. answered_ok g a p applied state st from (AppendReply st.head.term false st.head.commit) h ok (record { other = other; fact = λ e. absurd (false_true e) }))
  where
    false_true : false ≡ true → ⊥
    false_true e = cc

-- Append
pub on_append_ok : {S : Type 0} (g : Range S) (a : Abs) (p applied : ℕ) (state : S) (st : RaftState) (from t prev prev_term : ℕ) (es : List Entry) (commit : ℕ) → Inv g.nodes a → 0 < from → (from ≡ p → ⊥) → NodeOk g a p st applied state → t ≤ st.head.term → AppendOk g.nodes a from t prev prev_term es commit → DraftOk g a p applied state (on_append st from t prev prev_term es commit)
on_append_ok g a p applied state st from t prev prev_term es commit h pf other ok reached m =
    cond_both (ltb t st.head.term) (refused_old st from) (take_append (record st { head = following st.head from }) from prev prev_term es commit) (λ d. DraftOk g a p applied state d)
    (λ _. refused_old_ok g a p applied state st from h other ok)
    (λ ge.
    let same : t ≡ st.head.term = omega (arith, ltb-false t st.head.term ge) in
    take_append_ok g a p applied state (record st { head = following st.head from }) from prev prev_term es commit h pf other (following_ok g a p applied state st from other ok) refl (subst (λ z. AppendOk g.nodes a from z prev prev_term es commit) same m))
