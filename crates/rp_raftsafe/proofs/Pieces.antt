-- What the handlers of events are made of.
use Rattle.std.proofs.Common.{◌≡◌, ℕ, zero, suc, ◌+◌, ◌-◌, ◌<◌, ◌≤◌, Bool, true, false, cond, not, eqb, Option, None, List, [], ◌∷◌, ◌++◌, map, length, take, drop, get_or, replicate, refl, sym, ap, subst, ◌∙◌, arith, ⊎_elim, append_assoc, append-nil, length-append, add-one}
use Rattle.std.specs.Prelude.{filter, count_by, fold}
use Rattle.std.specs.List.{AllByRecursion as Every}
use Rattle.std.specs.Option.{option_map_or}
use Rattle.std.proofs.lemmas.Bool.{cond_both, cases_lt, eqb-false, not-true}
use Rattle.std.proofs.lemmas.List.{take-append-le, take_all}
use Rattle.std.proofs.lemmas.List.Sums.{sum_by_more}
use Rattle.rp_raftlog.specs.declared.entries.Entry.{Entry}
use Rattle.rp_raftlog.specs.LogState.{appended}
use Rattle.rp_raftstep.specs.declared.heads.Head.{Head}
use Rattle.rp_raftstep.specs.declared.heads.Role.{Role}
use Rattle.rp_raftstep.specs.declared.heads.Role.TheVariants.{Follower, Candidate, Leader}
use Rattle.rp_raftstep.specs.declared.heads.Due.{Due}
use Rattle.rp_raftstep.specs.declared.heads.Due.TheVariants.{Nobody, One, Everyone}
use Rattle.rp_raftstep.specs.declared.messages.Message.{Message}
use Rattle.rp_raftstep.specs.RaftState.{RaftState, is_leader, of_node, with_node, for_each_node, nodes_to, peers}
use Rattle.rp_raftstep.specs.Step.{Draft, quiet, answered, sends_to, with_payloads}
use Rattle.rp_raftsafe.specs.World.{Range}
use Rattle.rp_raftsafe.proofs.Tables.{at_set, upd_same}
use Rattle.rp_raftsafe.proofs.Quorum.{count}
use Rattle.rp_raftsafe.proofs.Machine.{Abs, Inv}
use Rattle.rp_raftsafe.proofs.Extend.{extend, Extends, extend_keeps}
use Rattle.rp_raftsafe.proofs.Growth.{Moves, moves_refl, moves_trans, extend_moves}
use Rattle.rp_raftsafe.proofs.Safe.{commits_grow, commits_more, commits_within}
use Rattle.rp_raftsafe.proofs.Views.{Shows, shows_append}
use Rattle.rp_raftsafe.proofs.Refine.{NodeOk, RoleOk, LeaderOk, PacketOk, packets_grow}

-- what a table has for a node after one node's place was written
pub at_node : {A : Type 0} (P : A → Type 0) (xs : List A) (i : ℕ) (v : A) (q : ℕ) (d : A) → 0 < i → 0 < q → (q ≡ i → P v) → P (of_node xs q d) → P (of_node (with_node xs i v) q d)
at_node P xs i v q d pi pq hit old = at_set P xs (i - 1) v (q - 1) d (λ e. hit (omega arith)) old

-- what a table that is the same for each node has, within it or past it
pub at_each : {A : Type 0} (P : A → Type 0) (v : A) (q : ℕ) (d : A) → P v → P d → P (of_node (for_each_node v) q d)
at_each P v q d here past = within 5 (q - 1)
  where
    within : (n k : ℕ) → P (get_or (replicate n v) k d)
    within zero k = past
    within (suc n) zero = here
    within (suc n) (suc k) = within n k

-- those that pass in the front of a table are no more than the nodes that pass
pub count_nodes : {A : Type 0} (test : A → Bool) (xs : List A) (d : A) (n : ℕ) → count_by test (take n xs) ≤ count (λ q. test (of_node xs q d)) n
count_nodes test xs d zero = omega arith
count_nodes test xs d (suc n) =
    let so_far : count_by test (take n xs) ≤ count (λ q. test (of_node xs q d)) n = count_nodes test xs d n in
    let at : suc n - 1 ≡ n = omega arith in
    ⊎_elim
    (λ (lt : n < length xs).
    let more : count_by test (take (suc n) xs) ≡ count_by test (take n xs) + cond (test (get_or xs n d)) 1 0 =
    ap (λ z. count_by test (take z xs)) (sym (add-one n)) ∙ sum_by_more (λ x. cond (test x) 1 0) xs n d lt in
    let step : count_by test (take n xs) + cond (test (get_or xs n d)) 1 0 ≤ cond (test (get_or xs n d)) (suc (count (λ q. test (of_node xs q d)) n)) (count (λ q. test (of_node xs q d)) n) =
    split (test (get_or xs n d)) (count_by test (take n xs)) (count (λ q. test (of_node xs q d)) n) so_far in
    subst (λ z. count_by test (take (suc n) xs) ≤ cond (test (get_or xs z d)) (suc (count (λ q. test (of_node xs q d)) n)) (count (λ q. test (of_node xs q d)) n)) (sym at) (omega (arith, more, step)))
    (λ (past : length xs ≤ n).
    let same : count_by test (take (suc n) xs) ≡ count_by test (take n xs) = ap (count_by test) (take_all (suc n) xs (omega arith) ∙ sym (take_all n xs past)) in
    cond_both (test (of_node xs (suc n) d)) (suc (count (λ q. test (of_node xs q d)) n)) (count (λ q. test (of_node xs q d)) n) (λ z. count_by test (take (suc n) xs) ≤ z) (λ _. omega (arith, same, so_far)) (λ _. omega (arith, same, so_far)))
    (cases_lt n (length xs))
  where
    split : (b : Bool) (c k : ℕ) → c ≤ k → c + cond b 1 0 ≤ cond b (suc k) k
    split true c k le = omega arith
    split false c k le = omega arith

pub every_append : {A : Type 0} (P : A → Type 0) (xs ys : List A) → Every P xs → Every P ys → Every P (xs ++ ys)
every_append P [] ys ex ey = ey
every_append P (x ∷ xs) ys ex ey = (ex.0, every_append P xs ys ex.1 ey)

pub every_map : {A B : Type 0} (P : B → Type 0) (f : A → B) (xs : List A) → Every (λ x. P (f x)) xs → Every P (map f xs)
every_map P f [] every = tt
every_map P f (x ∷ xs) every = (every.0, every_map P f xs every.1)

pub every_of : {A : Type 0} (P Q : A → Type 0) → ((x : A) → P x → Q x) → (xs : List A) → Every P xs → Every Q xs
every_of P Q f [] every = tt
every_of P Q f (x ∷ xs) every = (f x every.0, every_of P Q f xs every.1)

pub every_all : {A : Type 0} (P : A → Type 0) → ((x : A) → P x) → (xs : List A) → Every P xs
every_all P f [] = tt
every_all P f (x ∷ xs) = (f x, every_all P f xs)

every_filter : {A : Type 0} (test : A → Bool) (P : A → Type 0) → ((x : A) → test x ≡ true → P x) → (xs : List A) → Every P (filter test xs)
every_filter test P f [] = tt
every_filter test P f (x ∷ xs) = cond_both (test x) (x ∷ filter test xs) (filter test xs) (λ z. Every P z) (λ e. (f x e, every_filter test P f xs)) (λ _. every_filter test P f xs)

-- the peers are other nodes
pub peers_other : (head : Head) (p : ℕ) → head.node ≡ p → Every (λ q. q ≡ p → ⊥) (peers head)
peers_other head p e = every_filter (λ node. not (eqb node head.node)) (λ q. q ≡ p → ⊥) (λ q passes same. absurd (eqb-false q head.node (not-true (eqb q head.node) passes) (same ∙ sym e))) (nodes_to head.nodes)

-- the peers that an event sends to: another node, and a leader alone does so
abbrev pub IsDueOk : ℕ → Role → Due → Type 0
IsDueOk p role Nobody = Unit {0}
IsDueOk p role (One q) = (role ≡ Leader) × (q ≡ p → ⊥)
IsDueOk p role Everyone = role ≡ Leader

abbrev pub index_after : {S : Type 0} → Option (ℕ × S) → ℕ → ℕ
index_after taken applied = option_map_or (λ t. t.0) taken applied

abbrev pub state_after : {S : Type 0} → Option (ℕ × S) → S → S
state_after taken state = option_map_or (λ t. t.1) taken state

-- an event of a replica is a run of moves of its node
pub record DraftOk {S : Type 0} (g : Range S) (a : Abs) (p applied : ℕ) (state : S) (d : Draft S) : Type 0 where
  pub to : Abs
  pub moves : Moves p a to
  pub inv : Inv g.nodes to
  pub node : NodeOk g to p d.state (index_after d.taken applied) (state_after d.taken state)
  pub replies : Every (PacketOk g to p) d.replies
  pub due : IsDueOk p d.state.head.role d.due
  -- a leader takes no snapshot in
  pub calm : d.state.head.role ≡ Leader → d.taken ≡ None

pub draft_after : {S : Type 0} (g : Range S) (a b : Abs) (p applied : ℕ) (state : S) (d : Draft S) → Moves p a b → DraftOk g b p applied state d → DraftOk g a p applied state d
draft_after g a b p applied state d m ok = record { to = ok.to; moves = moves_trans p a b ok.to m ok.moves; inv = ok.inv; node = ok.node; replies = ok.replies; due = ok.due; calm = ok.calm }

pub sends_to_ok : {S : Type 0} (g : Range S) (a : Abs) (p applied : ℕ) (state : S) (st : RaftState) (due : Due) → Inv g.nodes a → NodeOk g a p st applied state → IsDueOk p st.head.role due → DraftOk g a p applied state (sends_to st due)
sends_to_ok g a p applied state st due h ok who = record { to = a; moves = moves_refl p a; inv = h; node = ok; replies = tt; due = who; calm = λ _. refl }

pub quiet_ok : {S : Type 0} (g : Range S) (a : Abs) (p applied : ℕ) (state : S) (st : RaftState) → Inv g.nodes a → NodeOk g a p st applied state → DraftOk g a p applied state (quiet st)
quiet_ok g a p applied state st h ok = sends_to_ok g a p applied state st Nobody h ok tt

pub answered_ok : {S : Type 0} (g : Range S) (a : Abs) (p applied : ℕ) (state : S) (st : RaftState) (to : ℕ) (m : Message S) → Inv g.nodes a → NodeOk g a p st applied state → PacketOk g a p (to, m) → DraftOk g a p applied state (answered st to m)
answered_ok g a p applied state st to m h ok packet = record { to = a; moves = moves_refl p a; inv = h; node = ok; replies = (packet, tt); due = tt; calm = λ _. refl }

-- an event that sends more first
pub with_replies : {S : Type 0} (g : Range S) (a : Abs) (p applied : ℕ) (state : S) (d : Draft S) (more : List (ℕ × Message S)) → 0 < p → Every (PacketOk g a p) more → DraftOk g a p applied state d → DraftOk g a p applied state (record d { replies = more })
with_replies g a p applied state d more pos every ok = record { to = ok.to; moves = ok.moves; inv = ok.inv; node = ok.node; replies = packets_grow g a ok.to ok.moves.grows p pos more every; due = ok.due; calm = ok.calm }

pub as_leader : (a : Abs) (p t : ℕ) (xs : List Entry) (nexts matches : List ℕ) (ballots : List Bool) (r : Role) → r ≡ Leader → RoleOk a p t xs nexts matches ballots r → LeaderOk a p t xs nexts matches
as_leader a p t xs nexts matches ballots r led ok = subst (λ z. RoleOk a p t xs nexts matches ballots z) led ok

pub from_leader : (a : Abs) (p t : ℕ) (xs : List Entry) (nexts matches : List ℕ) (ballots : List Bool) (r : Role) → r ≡ Leader → LeaderOk a p t xs nexts matches → RoleOk a p t xs nexts matches ballots r
from_leader a p t xs nexts matches ballots r led ok = subst (λ z. RoleOk a p t xs nexts matches ballots z) (sym led) ok

-- a test of the role tells it
pub leads_by : (r : Role) → is_leader r ≡ true → r ≡ Leader
leads_by Follower e = cc
leads_by Candidate e = cc
leads_by Leader e = refl

pub leads_not : (r : Role) → is_leader r ≡ false → r ≡ Leader → ⊥
leads_not Follower e same = cc
leads_not Candidate e same = cc
leads_not Leader e same = cc

-- entries that a leader appended
abbrev pub in_term : ℕ → List (List ℕ) → List Entry
in_term t payloads = map (λ payload. record { term = t; payload = payload }) payloads

pub record Appended (n : ℕ) (a : Abs) (p t : ℕ) (payloads : List (List ℕ)) : Type 0 where
  pub to : Abs
  pub moves : Moves p a to
  pub inv : Inv n to
  pub term : to.term p ≡ t
  pub log : to.log p ≡ a.log p ++ in_term t payloads
  pub vote : to.vote p t ≡ a.vote p t

append_all : (n : ℕ) (a : Abs) (p t : ℕ) (payloads : List (List ℕ)) → Inv n a → 0 < p → a.term p ≡ t → a.lead t ≡ p → Appended n a p t payloads
append_all n a p t [] h pos tp led = record { to = a; moves = moves_refl p a; inv = h; term = tp; log = sym (append-nil (a.log p)); vote = refl }
append_all n a p t (x ∷ xs) h pos tp led =
    let e : Entry = record { term = t; payload = x } in
    let ok : Extends a p (record { term = t; payload = x }) = record { positive = pos; leads = ap a.lead tp ∙ led; own = sym tp } in
    let more : Appended n (extend a p (record { term = t; payload = x })) p t xs = append_all n (extend a p (record { term = t; payload = x })) p t xs (extend_keeps n a p (record { term = t; payload = x }) ok h) pos tp led in
    record {
      to = more.to;
      moves = moves_trans p a (extend a p (record { term = t; payload = x })) more.to (extend_moves n a p (record { term = t; payload = x }) h ok) more.moves;
      inv = more.inv;
      term = more.term;
      log = more.log ∙ ap (λ z. z ++ in_term t xs) (upd_same a.log p (a.log p ++ record { term = t; payload = x } ∷ [])) ∙ append_assoc (a.log p) (record { term = t; payload = x } ∷ []) (in_term t xs);
      vote = more.vote;
    }

-- a leader after it appended
pub record Led {S : Type 0} (g : Range S) (a : Abs) (p applied : ℕ) (state : S) (st : RaftState) : Type 0 where
  pub to : Abs
  pub moves : Moves p a to
  pub inv : Inv g.nodes to
  pub node : NodeOk g to p st applied state

pub leader_appends : {S : Type 0} (g : Range S) (a : Abs) (p applied : ℕ) (state : S) (st : RaftState) (payloads : List (List ℕ)) → Inv g.nodes a → 0 < p → NodeOk g a p st applied state → st.head.role ≡ Leader → Led g a p applied state (with_payloads st payloads)
leader_appends {S} g a p applied state st payloads h pos ok led =
    let t : ℕ = st.head.term in
    let lead_ok : LeaderOk a p st.head.term (a.log p) st.head.next st.head.matched = as_leader a p st.head.term (a.log p) st.head.next st.head.matched st.head.votes st.head.role led ok.role in
    let all : Appended g.nodes a p st.head.term payloads = append_all g.nodes a p st.head.term payloads h pos ok.term lead_ok.leads in
    let es : List Entry = in_term st.head.term payloads in
    let within : st.head.commit ≤ length (a.log p) = commits_within g.nodes a st.head.term st.head.commit (a.log p) ok.commit in
    let longer : length (all.to.log p) ≡ length (a.log p) + length (in_term st.head.term payloads) = ap length all.log ∙ length-append (a.log p) (in_term st.head.term payloads) in
    let fronts : (k : ℕ) → k ≤ length (a.log p) → take k (a.log p) ≡ take k (all.to.log p) = λ k le. sym (ap (take k) all.log ∙ take-append-le k (a.log p) (in_term st.head.term payloads) le) in
    record {
      to = all.to;
      moves = all.moves;
      inv = all.inv;
      node = record {
        node = ok.node;
        nodes = ok.nodes;
        term = all.term;
        term_pos = ok.term_pos;
        log = subst (λ z. Shows z (appended st.log (in_term st.head.term payloads))) (sym all.log) (shows_append (a.log p) st.log (in_term st.head.term payloads) ok.log);
        start_le = ok.start_le;
        based = ok.based;
        applied_le = ok.applied_le;
        state_is = ok.state_is ∙ ap (λ z. fold g.act g.start (drop g.base z)) (fronts applied (omega (arith, ok.applied_le)));
        vote = λ lt. all.vote ∙ ok.vote lt;
        known = ok.known;
        role = from_leader all.to p st.head.term (all.to.log p) st.head.next st.head.matched st.head.votes st.head.role led
            (record {
              leads = all.moves.grows.lead st.head.term (omega (arith, lead_ok.leads)) ∙ lead_ok.leads;
              ahead = λ q pq. omega (arith, lead_ok.ahead q pq, longer);
              acked = λ q pq. omega (arith, lead_ok.acked q pq, all.moves.grows.ack q st.head.term);
            });
        commit = commits_more g.nodes all.to st.head.term st.head.term st.head.commit (a.log p) (all.to.log p) (omega arith) (fronts st.head.commit within) (commits_grow g.nodes a all.to all.moves.grows st.head.term st.head.commit (a.log p) ok.commit);
      };
    }
