-- How a replica and a message stand for a state of the machine.
use Rattle.std.proofs.Common.{◌≡◌, ℕ, ◌+◌, ◌<◌, ◌≤◌, Bool, true, false, Option, Some, None, List, [], ◌∷◌, length, take, drop, replicate, sym, ap, subst, ◌∙◌, arith, length-drop, length-take}
use Rattle.std.specs.Prelude.{fold}
use Rattle.std.specs.List.{AllByRecursion as Every}
use Rattle.std.proofs.lemmas.List.{drop-take}
use Rattle.rp_raftlog.specs.declared.entries.Entry.{Entry}
use Rattle.rp_raftstep.specs.declared.heads.Role.{Role}
use Rattle.rp_raftstep.specs.declared.heads.Role.TheVariants.{Follower, Candidate, Leader}
use Rattle.rp_raftstep.specs.declared.messages.Message.{Message}
use Rattle.rp_raftstep.specs.declared.messages.Message.TheVariants.{Vote, VoteReply, Append, AppendReply, Forward, Snap}
use Rattle.rp_raftstep.specs.RaftState.{RaftState, of_node}
use Rattle.rp_raftsafe.specs.World.{Range, Status, Absent, Live, Removed}
use Rattle.rp_raftsafe.proofs.Logs.{term_in, last_tm, same_term_in, longer_take, longer_length}
use Rattle.rp_raftsafe.proofs.Machine.{Abs}
use Rattle.rp_raftsafe.proofs.Growth.{Grows, Moves}
use Rattle.rp_raftsafe.proofs.Safe.{Commits, commits_grow, commits_more, commits_within}
use Rattle.rp_raftsafe.proofs.Views.{Shows}

-- a node's number, or 0
abbrev pub number : Option ℕ → ℕ
number None = 0
number (Some q) = q

-- what stands before the range's first entry
abbrev pub front : {S : Type 0} → Range S → List Entry
front g = replicate g.base (record { term = 1; payload = [] })

-- the state after so many entries
abbrev pub state_at : {S : Type 0} → Range S → List Entry → ℕ → S
state_at g xs applied = fold g.act g.start (drop g.base (take applied xs))

pub record LeaderOk (a : Abs) (p t : ℕ) (xs : List Entry) (nexts matches : List ℕ) : Type 0 where
  pub leads : a.lead t ≡ p
  pub ahead : (q : ℕ) → 0 < q → of_node nexts q 0 ≤ length xs + 1
  pub acked : (q : ℕ) → 0 < q → of_node matches q 0 ≤ a.ack q t

pub record CandidateOk (a : Abs) (p t : ℕ) (xs : List Entry) (ballots : List Bool) : Type 0 where
  pub late : 1 < t
  pub loses : a.lead t ≡ p → ⊥
  pub asks : a.asked t p ≡ xs
  pub itself : a.vote p t ≡ p
  pub counted : (q : ℕ) → 0 < q → of_node ballots q false ≡ true → a.vote q t ≡ p

abbrev pub RoleOk : Abs → ℕ → ℕ → List Entry → List ℕ → List ℕ → List Bool → Role → Type 0
RoleOk a p t xs nexts matches ballots Follower = Unit {0}
RoleOk a p t xs nexts matches ballots Candidate = CandidateOk a p t xs ballots
RoleOk a p t xs nexts matches ballots Leader = LeaderOk a p t xs nexts matches

pub record NodeOk {S : Type 0} (g : Range S) (a : Abs) (p : ℕ) (st : RaftState) (applied : ℕ) (state : S) : Type 0 where
  pub node : st.head.node ≡ p
  pub nodes : st.head.nodes ≡ g.nodes
  pub term : a.term p ≡ st.head.term
  pub term_pos : 0 < st.head.term
  pub log : Shows (a.log p) st.log
  pub start_le : g.base ≤ st.log.base
  pub based : st.log.base ≤ applied
  pub applied_le : applied ≤ st.head.commit
  pub state_is : state ≡ state_at g (a.log p) applied
  pub vote : 1 < st.head.term → a.vote p st.head.term ≡ number st.head.vote
  pub known : (l : ℕ) → st.head.leader ≡ Some l → l ≡ p → st.head.role ≡ Leader
  pub role : RoleOk a p st.head.term (a.log p) st.head.next st.head.matched st.head.votes st.head.role
  pub commit : Commits g.nodes a st.head.term st.head.commit (a.log p)

pub record VoteOk (a : Abs) (from t index index_term : ℕ) : Type 0 where
  pub late : 1 < t
  pub itself : a.vote from t ≡ from
  pub last : index ≡ length (a.asked t from)
  pub last_term : index_term ≡ last_tm (a.asked t from)

pub record GrantOk (a : Abs) (from to t : ℕ) : Type 0 where
  pub positive : 0 < to
  pub voted : a.vote from t ≡ to

-- entries stand in the leader's log behind an index
pub record AppendOk (n : ℕ) (a : Abs) (from t prev prev_term : ℕ) (entries : List Entry) (commit : ℕ) : Type 0 where
  pub term_pos : 0 < t
  pub leads : a.lead t ≡ from
  pub within : prev ≤ length (a.llog t)
  pub stand : take (length entries) (drop prev (a.llog t)) ≡ entries
  pub before : term_in (a.llog t) prev ≡ prev_term
  pub commits : Commits n a t commit (a.llog t)

pub record SnapOk {S : Type 0} (g : Range S) (a : Abs) (from t index index_term : ℕ) (snapshot : S) : Type 0 where
  pub term_pos : 0 < t
  pub leads : a.lead t ≡ from
  pub start_le : g.base ≤ index
  pub within : index ≤ length (a.llog t)
  pub at : term_in (a.llog t) index ≡ index_term
  pub commits : Commits g.nodes a t index (a.llog t)
  pub shows : snapshot ≡ state_at g (a.llog t) index

abbrev pub MessageOk : {S : Type 0} → Range S → Abs → ℕ → ℕ → Message S → Type 0
MessageOk g a from to (Vote term index index_term) = VoteOk a from term index index_term
MessageOk g a from to (VoteReply term granted) = granted ≡ true → GrantOk a from to term
MessageOk g a from to (Append term prev_index prev_term entries commit) = AppendOk g.nodes a from term prev_index prev_term entries commit
MessageOk g a from to (AppendReply term ok index) = ok ≡ true → index ≤ a.ack from term
MessageOk g a from to (Forward payload) = Unit {0}
MessageOk g a from to (Snap term index index_term snapshot) = SnapOk g a from term index index_term snapshot

pub record PacketOk {S : Type 0} (g : Range S) (a : Abs) (from : ℕ) (sent : ℕ × Message S) : Type 0 where
  pub other : sent.0 ≡ from → ⊥
  pub fact : MessageOk g a from sent.0 sent.1

-- a node without a replica stands for one as all were at the range's start
pub record AbsentOk {S : Type 0} (g : Range S) (a : Abs) (p : ℕ) : Type 0 where
  pub term : a.term p ≡ 1
  pub log : a.log p ≡ front g

abbrev pub StatusOk : {S : Type 0} → Range S → Abs → ℕ → Status S → Type 0
StatusOk g a p Absent = AbsentOk g a p
StatusOk g a p (Live r) = NodeOk g a p r.raft r.applied r.state
StatusOk g a p Removed = Unit {0}

-- what all states know of the range's start
pub record Begun {S : Type 0} (g : Range S) (a : Abs) : Type 0 where
  pub holder : a.lead 1 ≡ g.holder
  pub base : Commits g.nodes a 1 g.base (front g)

-- what stands behind an index, stays there in a longer log
pub stand_longer : (xs ys es : List Entry) (prev : ℕ) → take (length xs) ys ≡ xs → prev ≤ length xs → take (length es) (drop prev xs) ≡ es → take (length es) (drop prev ys) ≡ es
stand_longer xs ys es prev more le stand =
    let short : prev + length es ≤ length xs = omega (arith, ap length stand, length-take (length es) (drop prev xs), length-drop prev xs) in
    sym (drop-take prev (length es) ys) ∙ ap (drop prev) (longer_take xs ys (prev + length es) more short) ∙ drop-take prev (length es) xs ∙ stand

pub message_grows : {S : Type 0} (g : Range S) (a b : Abs) → Grows a b → (from to : ℕ) (m : Message S) → 0 < from → MessageOk g a from to m → MessageOk g b from to m
message_grows g a b grow from to (Vote t index index_term) pos m =
    let asks : 0 < a.vote from t = omega (arith, m.itself) in
    record {
      late = m.late;
      itself = grow.vote from t asks ∙ m.itself;
      last = m.last ∙ ap length (sym (grow.asked t from asks));
      last_term = m.last_term ∙ ap last_tm (sym (grow.asked t from asks));
    }
message_grows g a b grow from to (VoteReply t granted) pos m = λ e. let ok : GrantOk a from to t = m e in record { positive = ok.positive; voted = grow.vote from t (omega (arith, ok.positive, ok.voted)) ∙ ok.voted }
message_grows g a b grow from to (Append t prev prev_term entries commit) pos m =
    let more : take (length (a.llog t)) (b.llog t) ≡ a.llog t = grow.llog t in
    let longer : length (a.llog t) ≤ length (b.llog t) = longer_length (a.llog t) (b.llog t) more in
    record {
      term_pos = m.term_pos;
      leads = grow.lead t (omega (arith, m.leads)) ∙ m.leads;
      within = omega (arith, m.within);
      stand = stand_longer (a.llog t) (b.llog t) entries prev more m.within m.stand;
      before = same_term_in prev prev (b.llog t) (a.llog t) (omega arith) (longer_take (a.llog t) (b.llog t) prev more m.within) ∙ m.before;
      commits = commits_more g.nodes b t t commit (a.llog t) (b.llog t) (omega arith) (sym (longer_take (a.llog t) (b.llog t) commit more (commits_within g.nodes a t commit (a.llog t) m.commits))) (commits_grow g.nodes a b grow t commit (a.llog t) m.commits);
    }
message_grows g a b grow from to (AppendReply t ok index) pos m = λ e. omega (arith, m e, grow.ack from t)
message_grows g a b grow from to (Forward payload) pos m = tt
message_grows g a b grow from to (Snap t index index_term snapshot) pos m =
    let more : take (length (a.llog t)) (b.llog t) ≡ a.llog t = grow.llog t in
    let longer : length (a.llog t) ≤ length (b.llog t) = longer_length (a.llog t) (b.llog t) more in
    let same : take index (b.llog t) ≡ take index (a.llog t) = longer_take (a.llog t) (b.llog t) index more m.within in
    record {
      term_pos = m.term_pos;
      leads = grow.lead t (omega (arith, m.leads)) ∙ m.leads;
      start_le = m.start_le;
      within = omega (arith, m.within);
      at = same_term_in index index (b.llog t) (a.llog t) (omega arith) same ∙ m.at;
      commits = commits_more g.nodes b t t index (a.llog t) (b.llog t) (omega arith) (sym same) (commits_grow g.nodes a b grow t index (a.llog t) m.commits);
      shows = m.shows ∙ ap (λ z. fold g.act g.start (drop g.base z)) (sym same);
    }

pub packet_grows : {S : Type 0} (g : Range S) (a b : Abs) → Grows a b → (from : ℕ) (sent : ℕ × Message S) → 0 < from → PacketOk g a from sent → PacketOk g b from sent
packet_grows g a b grow from sent pos p = record { other = p.other; fact = message_grows g a b grow from sent.0 sent.1 pos p.fact }

pub packets_grow : {S : Type 0} (g : Range S) (a b : Abs) → Grows a b → (from : ℕ) → 0 < from → (sents : List (ℕ × Message S)) → Every (PacketOk g a from) sents → Every (PacketOk g b from) sents
packets_grow g a b grow from pos [] every = tt
packets_grow g a b grow from pos (x ∷ xs) every = (packet_grows g a b grow from x pos every.0, packets_grow g a b grow from pos xs every.1)

role_moves : (p : ℕ) (a b : Abs) → Moves p a b → (q t : ℕ) → (q ≡ p → ⊥) → 0 < q → (xs : List Entry) (nexts matches : List ℕ) (ballots : List Bool) (r : Role) → RoleOk a q t xs nexts matches ballots r → RoleOk b q t xs nexts matches ballots r
role_moves p a b m q t ne pos xs nexts matches ballots Follower ok = tt
role_moves p a b m q t ne pos xs nexts matches ballots Candidate ok = record {
  late = ok.late;
  loses = λ e. ok.loses (m.lead q t ne e);
  asks = m.grows.asked t q (omega (arith, ok.itself)) ∙ ok.asks;
  itself = m.vote q t ne ∙ ok.itself;
  counted = λ r pos' yes. m.grows.vote r t (omega (arith, ok.counted r pos' yes)) ∙ ok.counted r pos' yes;
}
role_moves p a b m q t ne pos xs nexts matches ballots Leader ok = record {
  leads = m.grows.lead t (omega (arith, ok.leads)) ∙ ok.leads;
  ahead = ok.ahead;
  acked = λ r pos'. omega (arith, ok.acked r pos', m.grows.ack r t);
}

pub node_moves : {S : Type 0} (g : Range S) (p : ℕ) (a b : Abs) → Moves p a b → (q : ℕ) → (q ≡ p → ⊥) → 0 < q → (st : RaftState) (applied : ℕ) (state : S) → NodeOk g a q st applied state → NodeOk g b q st applied state
node_moves {S} g p a b m q ne pos st applied state ok =
    let logs : b.log q ≡ a.log q = m.log q ne in
    record {
      node = ok.node;
      nodes = ok.nodes;
      term = m.term q ne ∙ ok.term;
      term_pos = ok.term_pos;
      log = subst (λ z. Shows z st.log) (sym logs) ok.log;
      start_le = ok.start_le;
      based = ok.based;
      applied_le = ok.applied_le;
      state_is = ok.state_is ∙ ap (λ z. state_at g z applied) (sym logs);
      vote = λ lt. m.vote q st.head.term ne ∙ ok.vote lt;
      known = ok.known;
      role = subst (λ z. RoleOk b q st.head.term z st.head.next st.head.matched st.head.votes st.head.role) (sym logs) (role_moves p a b m q st.head.term ne pos (a.log q) st.head.next st.head.matched st.head.votes st.head.role ok.role);
      commit = subst (λ z. Commits g.nodes b st.head.term st.head.commit z) (sym logs) (commits_grow g.nodes a b m.grows st.head.term st.head.commit (a.log q) ok.commit);
    }

pub status_moves : {S : Type 0} (g : Range S) (p : ℕ) (a b : Abs) → Moves p a b → (q : ℕ) → (q ≡ p → ⊥) → 0 < q → (status : Status S) → StatusOk g a q status → StatusOk g b q status
status_moves g p a b m q ne pos Absent ok = record { term = m.term q ne ∙ ok.term; log = m.log q ne ∙ ok.log }
status_moves g p a b m q ne pos (Live r) ok = node_moves g p a b m q ne pos r.raft r.applied r.state ok
status_moves g p a b m q ne pos Removed ok = tt

pub begun_grows : {S : Type 0} (g : Range S) (a b : Abs) → 0 < g.holder → Grows a b → Begun g a → Begun g b
begun_grows g a b pos grow ok = record { holder = grow.lead 1 (omega (arith, ok.holder)) ∙ ok.holder; base = commits_grow g.nodes a b grow 1 g.base (front g) ok.base }
