-- How much an event of a replica adds to its lists.
use Rattle.std.proofs.Common.{◌≡◌, ℕ, suc, ◌+◌, ◌≤◌, Bool, true, false, cond, Option, None, Some, Result, Ok, Err, List, [], ◌∷◌, ◌++◌, length, map, max, length-append, refl, ap, ◌∙◌, arith}
use Rattle.std.specs.Prelude.{not, ◌&&◌, ◌==◌, nat_lt, nat_le, filter_map, is_none, option_and_then}
use Rattle.std.specs.List.{filter, find, list_any, cons_option}
use Rattle.std.specs.Option.{option_map, option_map_or}
use Rattle.std.proofs.lemmas.Bool.{cond_both, and_parts, ltb-true, leb-true}
use Rattle.std.proofs.lemmas.List.{length-map}
use Rattle.rp_base.specs.Ids.{same_id}
use Rattle.rp_base.specs.declared.ids.CmdId.{CmdId}
use Rattle.rp_base.specs.declared.items.Item.{Item}
use Rattle.rp_base.specs.declared.items.Item.TheVariants as items
use Rattle.rp_base.specs.declared.leases.LeaseAsk.{LeaseAsk}
use Rattle.rp_raftstep.specs.Step.{Draft, tick, received}
use Rattle.rp_request.specs.Applied.{AppliedState, command_verdict}
use Rattle.rp_request.specs.declared.commands.Command.{Command}
use Rattle.rp_request.specs.declared.commands.Payload.{Payload}
use Rattle.rp_request.specs.declared.commands.Payload.TheVariants as payloads
use Rattle.rp_request.specs.declared.evaluations.Evaluated.{Evaluated}
use Rattle.rp_request.specs.declared.outcomes.Outcome.{Outcome}
use Rattle.rp_request.specs.declared.outcomes.Outcome.TheVariants as outcomes
use Rattle.rp_request.specs.declared.outcomes.Refusal.{Refusal}
use Rattle.rp_request.specs.declared.outcomes.Refusal.TheVariants.{NotLeaseHolder}
use Rattle.rp_request.specs.declared.verdicts.Verdict.{Verdict}
use Rattle.rp_request.specs.declared.verdicts.Verdict.TheVariants as verdicts
use Rattle.rp_pending.specs.Proposals.{has_id, proposal_of, without, with_changed, proposed, waiting_again, is_proposed}
use Rattle.rp_codec.specs.Spelling.{spelling}
use Rattle.rp_flush.specs.Assigns.{asks_of, ids_of, once, waits_under, numbered}
use Rattle.rp_flush.specs.declared.assigns.Assigned.{Assigned}
use Rattle.rp_pending.specs.Refreshes.{waiting_of, goes_back, goes_again, put_by, by_key, ids_by_max, to_refresh}
use Rattle.rp_pending.specs.declared.proposals.Proposal.{Proposal}
use Rattle.rp_pending.specs.declared.refreshes.Refresh.{Refresh}
use Rattle.rp_events.specs.declared.answers.EventAnswer.TheVariants as answers
use Rattle.rp_events.specs.declared.moves.Move.{Move}
use Rattle.rp_events.specs.declared.moves.Move.TheVariants.{HandsOut, GivesUp, TakesBack, Repeats}
use Rattle.rp_events.specs.declared.replica_events.ReplicaEvent.{ReplicaEvent}
use Rattle.rp_events.specs.declared.replica_events.ReplicaEvent.TheVariants.{Admit, Ask, Transfer, Collect, Flush, Tick, Deliver, Apply, Cut, Remove, Peek, Restart}
use Rattle.rp_events.specs.Replicas.{Replica, Done, Told, leaves, untold, lease_of, holds_lease, has_new_leader}
use Rattle.rp_events.specs.Admissions.{guarded, admitted_by, proposal}
use Rattle.rp_events.specs.Applications.{is_own, settled, proposer_told, payload_of, next_entry, applied_where}
use Rattle.rp_events.specs.Ends.{end_of, overtaken_by, removed_with, lost_under}
use Rattle.rp_events.specs.Flushes.{assigning, flush_moves, emptied}
use Rattle.rp_events.specs.LeaseAsks.{lease_ticks, is_held, expiry_of, ask_for, answers_ask, same_ask, without_first, joined, joined_all}
use Rattle.rp_events.specs.Moves.{write_of, payloads_of, ended, hands_out, gives_up, takes_back, repeats, moved, moved_all}
use Rattle.rp_events.specs.Refreshes.{refreshing, refresh_moves, with_taken}
use Rattle.rp_events.specs.ReplicaEvents.{event}
use Rattle.rp_events.specs.NodeEvents.{status_after}
use Rattle.rp_journals.specs.Ended.{pending_at}
use Rattle.rp_journals.proofs.Counting.{joined_all_same}

filter_shorter : {X : Type 0} (test : X → Bool) (xs : List X) → length (filter test xs) ≤ length xs
filter_shorter test [] = omega arith
filter_shorter {X} test (x ∷ xs) = go (test x) (filter_shorter test xs) where
  go : (b : Bool) → length (filter test xs) ≤ length xs → length (cond b (x ∷ filter test xs) (filter test xs)) ≤ suc (length xs)
  go true h = omega (arith, h)
  go false h = omega (arith, h)

-- what was found is taken away
without_shorter : (id : CmdId) (ps : List Proposal) (p : Proposal) → proposal_of id ps ≡ Some p → 1 + length (without id ps) ≤ length ps
without_shorter id [] p e = absurd cc
without_shorter id (x ∷ ps) p e = go (has_id id x) e (without_shorter id ps p) (filter_shorter (λ y. not (has_id id y)) ps) where
  go : (b : Bool) → cond b (Some x) (find (has_id id) ps) ≡ Some p → (proposal_of id ps ≡ Some p → 1 + length (without id ps) ≤ length ps) → length (without id ps) ≤ length ps
      → 1 + length (cond (not b) (x ∷ without id ps) (without id ps)) ≤ suc (length ps)
  go true e' ih less = omega (arith, less)
  go false e' ih less = let k = ih e' in omega (arith, k)

-- what has ended so far, and what is pending still
abbrev weigh : Told → ℕ
weigh t = length t.ended + length t.replica.pending

changed_long : (id : CmdId) (f : Proposal → Proposal) (ps : List Proposal) → length (with_changed id f ps) ≡ length ps
changed_long id f [] = refl
changed_long id f (p ∷ ps) = ap suc (changed_long id f ps)

moved_weigh : (ticks round : ℕ) (t : Told) (move : Move) → weigh (moved ticks round t move) ≤ weigh t
moved_weigh ticks round t (HandsOut id max) = go (proposal_of id t.replica.pending) where
  go : (o : Option Proposal) → weigh (option_map_or (hands_out ticks round t id max) o t) ≤ weigh t
  go None = omega arith
  go (Some p) = cond_both (is_proposed p.stage) t _ (λ z. weigh z ≤ weigh t) (λ _. omega arith) (λ _. let k = changed_long id (proposed max ticks round) t.replica.pending in omega (arith, k))
moved_weigh ticks round t (GivesUp id) = go (proposal_of id t.replica.pending) refl where
  go : (o : Option Proposal) → proposal_of id t.replica.pending ≡ o → weigh (option_map_or (gives_up t id) o t) ≤ weigh t
  go None found = omega arith
  go (Some p) found = cond_both (is_proposed p.stage) t _ (λ z. weigh z ≤ weigh t) (λ _. omega arith)
      (λ _. let k = without_shorter id t.replica.pending p found in let l = length-append t.ended (ended t.replica id (outcomes.Refused (NotLeaseHolder (lease_of t.replica)))).ended in omega (arith, k, l))
moved_weigh ticks round t (TakesBack id) = go (proposal_of id t.replica.pending) where
  go : (o : Option Proposal) → weigh (option_map_or (takes_back t id) o t) ≤ weigh t
  go None = omega arith
  go (Some p) = cond_both (goes_back t.replica.applied.state.lai p) _ t (λ z. weigh z ≤ weigh t) (λ _. let k = changed_long id waiting_again t.replica.pending in omega (arith, k)) (λ _. omega arith)
moved_weigh ticks round t (Repeats id) = go (proposal_of id t.replica.pending) where
  go : (o : Option Proposal) → weigh (option_map_or (repeats ticks round t id) o t) ≤ weigh t
  go None = omega arith
  go (Some p) = cond_both (is_proposed p.stage) _ t (λ z. weigh z ≤ weigh t) (λ _. let k = changed_long id (proposed p.max ticks round) t.replica.pending in omega (arith, k)) (λ _. omega arith)

moves_weigh : (ticks round : ℕ) (t : Told) (moves : List Move) → weigh (moved_all ticks round t moves) ≤ weigh t
moves_weigh ticks round t [] = omega arith
moves_weigh ticks round t (move ∷ moves) = let k = moved_weigh ticks round t move in let l = moves_weigh ticks round (moved ticks round t move) moves in omega (arith, k, l)

-- all that end at once
one_ends : (ends : Proposal → Option Outcome) (p : Proposal) (ps : List Proposal) → length (filter_map (end_of ends) ps) + length (filter (λ x. is_none (ends x)) ps) ≤ length ps → (o : Option Outcome)
    → length (cons_option (option_map (λ (outcome : Outcome). record { id = p.id; outcome = outcome }) o) (filter_map (end_of ends) ps)) + length (cond (is_none o) (p ∷ filter (λ x. is_none (ends x)) ps) (filter (λ x. is_none (ends x)) ps))
    ≤ suc (length ps)
one_ends ends p ps h None = omega (arith, h)
one_ends ends p ps h (Some outcome) = omega (arith, h)

ends_weigh : (ends : Proposal → Option Outcome) (ps : List Proposal) → length (filter_map (end_of ends) ps) + length (filter (λ x. is_none (ends x)) ps) ≤ length ps
ends_weigh ends [] = omega arith
ends_weigh ends (p ∷ ps) = one_ends ends p ps (ends_weigh ends ps) (ends p)

-- what an admission adds
abbrev pub one_more : ReplicaEvent AppliedState → ℕ
one_more (Admit id request) = 1
one_more _ = 0

abbrev pub IsLight : Replica → ReplicaEvent AppliedState → Done → Type 0
IsLight r e d = length d.outcomes + length (pending_at (status_after e d.replica)) ≤ length r.pending + one_more e

module _ (r : Replica) where
  own_found : (c : Command) → is_own r c ≡ true → (p : Proposal) × (proposal_of c.id r.pending ≡ Some p)
  own_found c own = go (proposal_of c.id r.pending) refl own where
    go : (o : Option Proposal) → proposal_of c.id r.pending ≡ o → option_map_or (λ (p : Proposal). is_proposed p.stage && p.max == c.max) o false ≡ true → (p : Proposal) × (proposal_of c.id r.pending ≡ Some p)
    go None found e = absurd cc
    go (Some p) found e = (p, found)

  settled_weigh : (c : Command) (p : Proposal) → proposal_of c.id r.pending ≡ Some p → (v : Verdict) → weigh (settled r c v) ≤ length r.pending
  settled_weigh c p found verdicts.Took = let k = without_shorter c.id r.pending p found in omega (arith, k)
  settled_weigh c p found (verdicts.OldLease now) = let k = without_shorter c.id r.pending p found in omega (arith, k)
  settled_weigh c p found (verdicts.OldIndex lai) = let k = changed_long c.id waiting_again r.pending in omega (arith, k)
  settled_weigh c p found verdicts.LeaseMoved = omega arith
  settled_weigh c p found verdicts.Nothing = omega arith

  proposer_weigh : (p : Payload) → weigh (proposer_told r p) ≤ length r.pending
  proposer_weigh payloads.Nothing = omega arith
  proposer_weigh (payloads.Write c) = cond_both (is_own r c) (settled r c (command_verdict r.applied.state c)) (untold r) (λ (z : Told). weigh z ≤ length r.pending)
      (λ own. let f = own_found c own in settled_weigh c f.0 f.1 (command_verdict r.applied.state c)) (λ _. omega arith)
  proposer_weigh (payloads.Lease ask) = omega arith

  taken_weigh : (o : Option (ℕ × AppliedState)) → weigh (with_taken r o) ≤ length r.pending
  taken_weigh None = omega arith
  taken_weigh (Some taken) = ends_weigh (overtaken_by taken.1.lai) r.pending

  pub event_light : (e : ReplicaEvent AppliedState) (ticks round : ℕ) (taken : List Item) → IsLight r e (event r e ticks round taken)
  event_light (Admit id request) ticks round taken = go (guarded r request) where
    go : (g : Result Evaluated Refusal) → IsLight r (Admit id request) (admitted_by r id request g)
    go (Ok e) = let k = length-append r.pending (proposal id request e (lease_of r).seq ∷ []) in omega (arith, k)
    go (Err why) = omega arith
  event_light Ask ticks round taken =
      cond_both (is_held r ticks) (leaves r (answers.LeaseHeld (lease_of r) ticks)) (answers_ask r (ask_for r r.raft.head.node (expiry_of r ticks))) (λ (z : Done). IsLight r Ask z) (λ _. omega arith) (λ _. omega arith)
  event_light (Transfer to) ticks round taken =
      cond_both (holds_lease r) (answers_ask r (ask_for r to (ticks + lease_ticks))) (leaves r (answers.Refused (NotLeaseHolder (lease_of r)))) (λ (z : Done). IsLight r (Transfer to) z) (λ _. omega arith) (λ _. omega arith)
  event_light Collect ticks round taken = let k : length (joined_all r taken).pending ≡ length r.pending = ap length (joined_all_same r taken) in omega (arith, k)
  event_light Flush ticks round taken = let k = moves_weigh ticks round (untold (emptied r (assigning r))) (flush_moves (assigning r)) in omega (arith, k)
  event_light Tick ticks round taken =
      let draft : Draft AppliedState = tick r.raft in
      let k = moves_weigh ticks round (untold r) (refresh_moves (refreshing r ticks (has_new_leader r.raft.head draft.state.head))) in omega (arith, k)
  event_light (Deliver from m) ticks round taken =
      let draft : Draft AppliedState = received r.raft from m in
      let t = with_taken r draft.taken in
      let w = taken_weigh draft.taken in
      cond_both (has_new_leader r.raft.head draft.state.head) _ _ (λ (z : Done). IsLight r (Deliver from m) z)
      (λ _. let k = moves_weigh ticks round t (refresh_moves (refreshing t.replica ticks true)) in omega (arith, k, w)) (λ _. omega (arith, w))
  event_light Apply ticks round taken = go (payload_of (next_entry r)) where
    go : (o : Option Payload) → IsLight r Apply (applied_where r o)
    go None = omega arith
    go (Some p) = let k = proposer_weigh p in omega (arith, k)
  event_light Cut ticks round taken = omega arith
  event_light Remove ticks round taken = let k = ends_weigh removed_with r.pending in omega (arith, k)
  event_light (Peek key) ticks round taken = omega arith
  event_light Restart ticks round taken = let k = ends_weigh (lost_under (lease_of r)) r.pending in omega (arith, k)

-- how many of the moves take a proposal back, and put its id into the inbox
abbrev takes_one : Move → ℕ
takes_one (HandsOut id max) = 0
takes_one (GivesUp id) = 0
takes_one (TakesBack id) = 1
takes_one (Repeats id) = 0

abbrev taken_back : List Move → ℕ
taken_back [] = 0
taken_back (move ∷ moves) = takes_one move + taken_back moves

moved_inbox : (ticks round : ℕ) (t : Told) (move : Move) → length (moved ticks round t move).replica.inbox ≤ length t.replica.inbox + takes_one move
moved_inbox ticks round t (HandsOut id max) = go (proposal_of id t.replica.pending) where
  go : (o : Option Proposal) → length (option_map_or (hands_out ticks round t id max) o t).replica.inbox ≤ length t.replica.inbox + 0
  go None = omega arith
  go (Some p) = cond_both (is_proposed p.stage) t _ (λ (z : Told). length z.replica.inbox ≤ length t.replica.inbox + 0) (λ _. omega arith) (λ _. omega arith)
moved_inbox ticks round t (GivesUp id) = go (proposal_of id t.replica.pending) where
  go : (o : Option Proposal) → length (option_map_or (gives_up t id) o t).replica.inbox ≤ length t.replica.inbox + 0
  go None = omega arith
  go (Some p) = cond_both (is_proposed p.stage) t _ (λ (z : Told). length z.replica.inbox ≤ length t.replica.inbox + 0) (λ _. omega arith) (λ _. omega arith)
moved_inbox ticks round t (TakesBack id) = go (proposal_of id t.replica.pending) where
  go : (o : Option Proposal) → length (option_map_or (takes_back t id) o t).replica.inbox ≤ length t.replica.inbox + 1
  go None = omega arith
  go (Some p) = cond_both (goes_back t.replica.applied.state.lai p) _ t (λ (z : Told). length z.replica.inbox ≤ length t.replica.inbox + 1)
      (λ _. let k = length-append t.replica.inbox (items.Write id ∷ []) in omega (arith, k)) (λ _. omega arith)
moved_inbox ticks round t (Repeats id) = go (proposal_of id t.replica.pending) where
  go : (o : Option Proposal) → length (option_map_or (repeats ticks round t id) o t).replica.inbox ≤ length t.replica.inbox + 0
  go None = omega arith
  go (Some p) = cond_both (is_proposed p.stage) _ t (λ (z : Told). length z.replica.inbox ≤ length t.replica.inbox + 0) (λ _. omega arith) (λ _. omega arith)

moves_inbox : (ticks round : ℕ) (t : Told) (moves : List Move) → length (moved_all ticks round t moves).replica.inbox ≤ length t.replica.inbox + taken_back moves
moves_inbox ticks round t [] = omega arith
moves_inbox ticks round t (move ∷ moves) = let k = moved_inbox ticks round t move in let l = moves_inbox ticks round (moved ticks round t move) moves in omega (arith, k, l)

back_both : (xs ys : List Move) → taken_back (xs ++ ys) ≡ taken_back xs + taken_back ys
back_both [] ys = omega arith
back_both (x ∷ xs) ys = let k = back_both xs ys in omega (arith, k)

back_up : (ids : List CmdId) → taken_back (map GivesUp ids) ≡ 0
back_up [] = refl
back_up (id ∷ ids) = let k = back_up ids in omega (arith, k)

back_out : (writes : List (CmdId × ℕ)) → taken_back (map (λ (write : CmdId × ℕ). HandsOut write.0 write.1) writes) ≡ 0
back_out [] = refl
back_out (w ∷ writes) = let k = back_out writes in omega (arith, k)

back_again : (ids : List CmdId) → taken_back (map Repeats ids) ≡ 0
back_again [] = refl
back_again (id ∷ ids) = let k = back_again ids in omega (arith, k)

back_back : (ids : List CmdId) → taken_back (map TakesBack ids) ≡ length ids
back_back [] = refl
back_back (id ∷ ids) = let k = back_back ids in omega (arith, k)

flush_back : (a : Assigned) → taken_back (flush_moves a) ≡ 0
flush_back a =
    let k = back_both (map GivesUp a.refused) (map (λ (write : CmdId × ℕ). HandsOut write.0 write.1) a.writes) in
    let l = back_up a.refused in
    let m = back_out a.writes in
    omega (arith, k, l, m)

refresh_back : (f : Refresh) → taken_back (refresh_moves f) ≡ length f.back
refresh_back f =
    let k = back_both (map TakesBack f.back) (map Repeats f.again) in
    let l = back_back f.back in
    let m = back_again f.again in
    omega (arith, k, l, m)

-- the payloads of asks and ids
mapped_fewer : {X Y : Type 0} (h : X → Option Y) (xs : List X) → length (filter_map h xs) ≤ length xs
mapped_fewer h [] = omega arith
mapped_fewer {X} {Y} h (x ∷ xs) = go (h x) (mapped_fewer h xs) where
  go : (o : Option Y) → length (filter_map h xs) ≤ length xs → length (cons_option o (filter_map h xs)) ≤ suc (length xs)
  go None k = omega (arith, k)
  go (Some y) k = omega (arith, k)

spelled_few : (asks : List LeaseAsk) (ps : List Proposal) (ids : List CmdId) → length (map spelling (payloads_of asks ps ids)) ≤ length asks + length ids
spelled_few asks ps ids =
    let a = length-map (payloads_of asks ps ids) spelling in
    let b = length-append (map payloads.Lease asks) (filter_map (λ id. option_and_then write_of (proposal_of id ps)) ids) in
    let c = length-map asks payloads.Lease in
    let d = mapped_fewer (λ id. option_and_then write_of (proposal_of id ps)) ids in
    omega (arith, a, b, c, d)

-- what a refresh concerns is pending, each in one way
put_long : (key : Proposal → ℕ) (x : Proposal) (ps : List Proposal) → length (put_by key x ps) ≡ suc (length ps)
put_long key x [] = refl
put_long key x (y ∷ ps) = cond_both (nat_le (key x) (key y)) (x ∷ y ∷ ps) (y ∷ put_by key x ps) (λ l. length l ≡ suc (suc (length ps))) (λ _. refl) (λ _. ap suc (put_long key x ps))

by_key_long : (key : Proposal → ℕ) (ps : List Proposal) → length (by_key key ps) ≡ length ps
by_key_long key [] = refl
by_key_long key (p ∷ ps) = put_long key p (by_key key ps) ∙ ap suc (by_key_long key ps)

by_max_long : (ps : List Proposal) → length (ids_by_max ps) ≡ length ps
by_max_long ps = length-map (by_key (λ (p : Proposal). p.max) ps) (λ (p : Proposal). p.id) ∙ by_key_long (λ (p : Proposal). p.max) ps

apart_few : (a b : Proposal → Bool) → ((p : Proposal) → a p ≡ true → b p ≡ true → ⊥) → (ps : List Proposal) → length (filter a ps) + length (filter b ps) ≤ length ps
apart_few a b apart [] = omega arith
apart_few a b apart (p ∷ ps) = go (a p) (b p) refl refl (apart_few a b apart ps) where
  go : (c d : Bool) → a p ≡ c → b p ≡ d → length (filter a ps) + length (filter b ps) ≤ length ps
      → length (cond c (p ∷ filter a ps) (filter a ps)) + length (cond d (p ∷ filter b ps) (filter b ps)) ≤ suc (length ps)
  go true true x y h = absurd (apart p x y)
  go true false x y h = omega (arith, h)
  go false true x y h = omega (arith, h)
  go false false x y h = omega (arith, h)

refresh_few : (lai now : ℕ) (all : Bool) (ps : List Proposal) → length (to_refresh lai now all ps).again + length (to_refresh lai now all ps).back ≤ length ps
refresh_few lai now all ps =
    let a = by_max_long (filter (goes_again lai now all) ps) in
    let b = by_max_long (filter (goes_back lai) ps) in
    let c = apart_few (goes_again lai now all) (goes_back lai) apart ps in
    omega (arith, a, b, c)
  where
    apart : (p : Proposal) → goes_again lai now all p ≡ true → goes_back lai p ≡ true → ⊥
    apart p x y =
        let above = ltb-true lai p.max (and_parts (is_proposed p.stage) (nat_lt lai p.max) (and_parts (is_proposed p.stage && nat_lt lai p.max) _ x).0).1 in
        let below = leb-true p.max lai (and_parts (is_proposed p.stage) (nat_le p.max lai) y).1 in
        omega (arith, above, below)

-- what a flush takes from the inbox
once_few : (ids : List CmdId) → length (once ids) ≤ length ids
once_few [] = omega arith
once_few (id ∷ ids) = let k = filter_shorter (λ other. not (same_id id other)) (once ids) in let l = once_few ids in omega (arith, k, l)

numbered_long : (last : ℕ) (ids : List CmdId) → length (numbered last ids) ≡ length ids
numbered_long last [] = refl
numbered_long last (id ∷ ids) = ap suc (numbered_long (last + 1) ids)

parts_few : (inbox : List Item) → length (asks_of inbox) + length (ids_of inbox) ≤ length inbox
parts_few [] = omega arith
parts_few (items.Write id ∷ inbox) = let k = parts_few inbox in omega (arith, k)
parts_few (items.Lease ask ∷ inbox) = let k = parts_few inbox in omega (arith, k)

pub flush_few : (r : Replica) → length (assigning r).leases + length (assigning r).writes ≤ length r.inbox
flush_few r =
    let ids = once (ids_of r.inbox) in
    let test = waits_under (waiting_of r.pending) (lease_of r).seq in
    let a = numbered_long (max r.assigned r.applied.state.lai) (filter test ids) in
    let b = filter_shorter test ids in
    let c = once_few (ids_of r.inbox) in
    let d = parts_few r.inbox in
    omega (arith, a, b, c, d)

-- what an event may add to the inbox, and what it hands to Raft
abbrev pub IsShort : Replica → ReplicaEvent AppliedState → List Item → Done → Type 0
IsShort r (Admit id request) taken d = length d.proposed + length d.replica.inbox ≤ length r.inbox
IsShort r Collect taken d = length d.proposed + length d.replica.inbox ≤ length r.inbox + length taken
IsShort r e taken d = length d.proposed + length d.replica.inbox ≤ length r.inbox + length r.pending + 1

joined_few : (r : Replica) (item : Item) → length (joined r item).inbox ≤ length r.inbox + 1
joined_few r (items.Write id) = let k = length-append r.inbox (items.Write id ∷ []) in omega (arith, k)
joined_few r (items.Lease ask) = cond_both (list_any (λ x. same_ask x ask) r.asks) (record r { inbox = r.inbox ++ items.Lease ask ∷ []; asks = without_first ask r.asks }) r (λ (z : Replica). length z.inbox ≤ length r.inbox + 1) (λ _. let k = length-append r.inbox (items.Lease ask ∷ []) in omega (arith, k)) (λ _. omega arith)

joined_all_few : (r : Replica) (taken : List Item) → length (joined_all r taken).inbox ≤ length r.inbox + length taken
joined_all_few r [] = omega arith
joined_all_few r (item ∷ taken) = let k = joined_few r item in let l = joined_all_few (joined r item) taken in omega (arith, k, l)

module _ (r : Replica) where
  settled_short : (c : Command) (v : Verdict) → length (settled r c v).replica.inbox ≤ length r.inbox + 1
  settled_short c verdicts.Took = omega arith
  settled_short c (verdicts.OldLease now) = omega arith
  settled_short c (verdicts.OldIndex lai) = let k = length-append r.inbox (items.Write c.id ∷ []) in omega (arith, k)
  settled_short c verdicts.LeaseMoved = omega arith
  settled_short c verdicts.Nothing = omega arith

  proposer_short : (p : Payload) → length (proposer_told r p).replica.inbox ≤ length r.inbox + 1
  proposer_short payloads.Nothing = omega arith
  proposer_short (payloads.Write c) = cond_both (is_own r c) (settled r c (command_verdict r.applied.state c)) (untold r) (λ (z : Told). length z.replica.inbox ≤ length r.inbox + 1)
      (λ _. settled_short c (command_verdict r.applied.state c)) (λ _. omega arith)
  proposer_short (payloads.Lease ask) = omega arith

  -- a refresh, on what is pending then
  refreshed_short : (ticks round : ℕ) (all : Bool) (t : Told) → length t.replica.inbox ≤ length r.inbox → length t.replica.pending ≤ length r.pending
      → length (map spelling (payloads_of [] (moved_all ticks round t (refresh_moves (refreshing t.replica ticks all))).replica.pending (refreshing t.replica ticks all).again))
      + length (moved_all ticks round t (refresh_moves (refreshing t.replica ticks all))).replica.inbox ≤ length r.inbox + length r.pending + 1
  refreshed_short ticks round all t inbox pending =
      let f = refreshing t.replica ticks all in
      let a = spelled_few [] (moved_all ticks round t (refresh_moves f)).replica.pending f.again in
      let b = moves_inbox ticks round t (refresh_moves f) in
      let c = refresh_back f in
      let d = refresh_few t.replica.applied.state.lai ticks all t.replica.pending in
      omega (arith, a, b, c, d, inbox, pending)

  taken_inbox : (o : Option (ℕ × AppliedState)) → length (with_taken r o).replica.inbox ≤ length r.inbox
  taken_inbox None = omega arith
  taken_inbox (Some taken) = omega arith

  pub event_short : (e : ReplicaEvent AppliedState) (ticks round : ℕ) (taken : List Item) → IsShort r e taken (event r e ticks round taken)
  event_short (Admit id request) ticks round taken = go (guarded r request) where
    go : (g : Result Evaluated Refusal) → IsShort r (Admit id request) taken (admitted_by r id request g)
    go (Ok e) = omega arith
    go (Err why) = omega arith
  event_short Ask ticks round taken =
      cond_both (is_held r ticks) (leaves r (answers.LeaseHeld (lease_of r) ticks)) (answers_ask r (ask_for r r.raft.head.node (expiry_of r ticks))) (λ (z : Done). IsShort r Ask taken z) (λ _. omega arith) (λ _. omega arith)
  event_short (Transfer to) ticks round taken =
      cond_both (holds_lease r) (answers_ask r (ask_for r to (ticks + lease_ticks))) (leaves r (answers.Refused (NotLeaseHolder (lease_of r)))) (λ (z : Done). IsShort r (Transfer to) taken z) (λ _. omega arith) (λ _. omega arith)
  event_short Collect ticks round taken = let k = joined_all_few r taken in omega (arith, k)
  event_short Flush ticks round taken =
      let s = assigning r in
      let ids = map (λ (write : CmdId × ℕ). write.0) s.writes in
      let t = moved_all ticks round (untold (emptied r s)) (flush_moves s) in
      let a = spelled_few s.leases t.replica.pending ids in
      let b = length-map s.writes (λ (write : CmdId × ℕ). write.0) in
      let c = flush_few r in
      let d = moves_inbox ticks round (untold (emptied r s)) (flush_moves s) in
      let e = flush_back s in
      omega (arith, a, b, c, d, e)
  event_short Tick ticks round taken =
      let draft : Draft AppliedState = tick r.raft in
      refreshed_short ticks round (has_new_leader r.raft.head draft.state.head) (untold r) (omega arith) (omega arith)
  event_short (Deliver from m) ticks round taken =
      let draft : Draft AppliedState = received r.raft from m in
      let t = with_taken r draft.taken in
      let i = taken_inbox draft.taken in
      let w = taken_weigh r draft.taken in
      cond_both (has_new_leader r.raft.head draft.state.head) _ _ (λ (z : Done). IsShort r (Deliver from m) taken z)
      (λ _. refreshed_short ticks round true t i (omega (arith, w)))
      (λ _. omega (arith, i))
  event_short Apply ticks round taken = go (payload_of (next_entry r)) where
    go : (o : Option Payload) → IsShort r Apply taken (applied_where r o)
    go None = omega arith
    go (Some p) = let k = proposer_short p in omega (arith, k)
  event_short Cut ticks round taken = omega arith
  event_short Remove ticks round taken = omega arith
  event_short (Peek key) ticks round taken = omega arith
  event_short Restart ticks round taken = omega arith
