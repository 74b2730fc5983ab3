-- An event of a replica ends only what is pending, and each end takes its proposal away.
use Rattle.std.proofs.Common.{◌≡◌, ℕ, ◌+◌, ◌≤◌, Bool, true, false, cond, Option, None, Some, Result, Ok, Err, List, [], ◌∷◌, refl, sym, ap, subst, ◌∙◌, arith}
use Rattle.std.specs.Prelude.{not, ◌&&◌, ◌==◌, filter_map, is_none, count_by}
use Rattle.std.specs.List.{filter, find, cons_option}
use Rattle.std.specs.Option.{option_map, option_map_or}
use Rattle.std.proofs.lemmas.Bool.{cond_both}
use Rattle.rp_base.specs.Ids.{same_id}
use Rattle.rp_base.specs.declared.ids.CmdId.{CmdId}
use Rattle.rp_base.specs.declared.items.Item.{Item}
use Rattle.rp_base.specs.declared.items.Item.TheVariants as items
use Rattle.rp_base.proofs.Counts.{count_cons, count_push, count_append}
use Rattle.rp_base.proofs.IdLaws.{same_is, same_back, equal_same}
use Rattle.rp_base.specs.declared.leases.Lease.{Lease}
use Rattle.rp_raftstep.specs.declared.messages.Message.{Message}
use Rattle.rp_raftstep.specs.Step.{Draft, tick, received}
use Rattle.rp_request.specs.Applied.{AppliedState, command_verdict}
use Rattle.rp_request.specs.declared.commands.Command.{Command}
use Rattle.rp_request.specs.declared.commands.Payload.{Payload}
use Rattle.rp_request.specs.declared.commands.Payload.TheVariants as payloads
use Rattle.rp_request.specs.declared.evaluations.Evaluated.{Evaluated}
use Rattle.rp_request.specs.declared.outcomes.Ambiguity.TheVariants as causes
use Rattle.rp_request.specs.declared.outcomes.Outcome.{Outcome}
use Rattle.rp_request.specs.declared.outcomes.Outcome.TheVariants as outcomes
use Rattle.rp_request.specs.declared.outcomes.Refusal.{Refusal}
use Rattle.rp_request.specs.declared.outcomes.Refusal.TheVariants.{NotLeaseHolder, NoReplica}
use Rattle.rp_events.specs.declared.answers.EventAnswer.TheVariants as answers
use Rattle.rp_request.specs.declared.requests.Request.{Request}
use Rattle.rp_request.specs.declared.verdicts.Verdict.{Verdict}
use Rattle.rp_request.specs.declared.verdicts.Verdict.TheVariants as verdicts
use Rattle.rp_pending.specs.Proposals.{has_id, proposal_of, without, with_changed, proposed, waiting_again, is_proposed}
use Rattle.rp_pending.specs.Refreshes.{goes_back}
use Rattle.rp_pending.specs.declared.proposals.Proposal.{Proposal}
use Rattle.rp_events.specs.declared.answers.Ended.{Ended}
use Rattle.rp_events.specs.declared.answers.EventAnswer.{EventAnswer}
use Rattle.rp_events.specs.declared.replica_events.ReplicaEvent.{ReplicaEvent}
use Rattle.rp_events.specs.declared.replica_events.ReplicaEvent.TheVariants.{Admit, Ask, Transfer, Collect, Flush, Tick, Deliver, Apply, Cut, Remove, Peek, Restart}
use Rattle.rp_events.specs.Replicas.{Replica, Done, Told, leaves, untold, lease_of, holds_lease, has_new_leader}
use Rattle.rp_events.specs.Admissions.{guarded, admitted_by, proposal}
use Rattle.rp_events.specs.Applications.{is_own, settled, proposer_told, payload_of, next_entry, applied_where}
use Rattle.rp_events.specs.Ends.{end_of, overtaken_by, removed_with, lost_under}
use Rattle.rp_events.specs.Flushes.{assigning, flush_moves, emptied}
use Rattle.rp_events.specs.LeaseAsks.{lease_ticks, is_held, expiry_of, ask_for, answers_ask, joined, joined_all}
use Rattle.rp_events.specs.declared.moves.Move.{Move}
use Rattle.rp_events.specs.declared.moves.Move.TheVariants.{HandsOut, GivesUp, TakesBack, Repeats}
use Rattle.rp_events.specs.Moves.{ended, hands_out, gives_up, takes_back, repeats, moved, moved_all}
use Rattle.rp_events.specs.Refreshes.{refreshing, refresh_moves, with_taken, delivered_by}
use Rattle.rp_events.specs.ReplicaEvents.{event}
use Rattle.rp_events.specs.NodeEvents.{status_after}
use Rattle.rp_journals.specs.Ended.{pending_at, is_granted}

abbrev pub one_if : Bool → ℕ
one_if b = cond b 1 0

-- how often a list of ends, and one of proposals, names an attempt
abbrev pub told_of : CmdId → List Ended → ℕ
told_of id es = count_by (λ (e : Ended). same_id e.id id) es

abbrev pub pending_of : CmdId → List Proposal → ℕ
pending_of id ps = count_by (has_id id) ps

-- what has ended so far, and what is pending still
abbrev held : CmdId → Told → ℕ
held id t = told_of id t.ended + pending_of id t.replica.pending

-- a change that keeps ids
changed_count : (id q : CmdId) (f : Proposal → Proposal) → ((p : Proposal) → (f p).id ≡ p.id) → (ps : List Proposal) → pending_of q (with_changed id f ps) ≡ pending_of q ps
changed_count id q f keeps [] = refl
changed_count id q f keeps (p ∷ ps) =
    count_cons (has_id q) (cond (has_id id p) (f p) p) (with_changed id f ps)
    ∙ ap (λ b. cond b 1 0 + pending_of q (with_changed id f ps)) (cond_both (has_id id p) (f p) p (λ z. has_id q z ≡ has_id q p) (λ _. ap (same_id q) (keeps p)) (λ _. refl))
    ∙ ap (λ k. cond (has_id q p) 1 0 + k) (changed_count id q f keeps ps)
    ∙ sym (count_cons (has_id q) p ps)

-- without those of one id
gone : (id : CmdId) (ps : List Proposal) → pending_of id (without id ps) ≡ 0
gone id [] = refl
gone id (p ∷ ps) = go (gone id ps) (has_id id p) refl where
  go : pending_of id (without id ps) ≡ 0 → (b : Bool) → has_id id p ≡ b → pending_of id (cond (not b) (p ∷ without id ps) (without id ps)) ≡ 0
  go more true e = more
  go more false e = count_cons (has_id id) p (without id ps) ∙ ap (λ b. cond b 1 0 + pending_of id (without id ps)) e ∙ omega (arith, more)

kept : (id q : CmdId) → same_id id q ≡ false → (ps : List Proposal) → pending_of q (without id ps) ≡ pending_of q ps
kept id q ne [] = refl
kept id q ne (p ∷ ps) = go (kept id q ne ps) (has_id id p) refl where
  other : has_id id p ≡ true → has_id q p ≡ false
  other e = by_test (same_id q p.id) refl where
    by_test : (c : Bool) → same_id q p.id ≡ c → c ≡ false
    by_test true f = absurd (let y : same_id id q ≡ true = equal_same id q (same_is id p.id e ∙ sym (same_is q p.id f)) in cc)
    by_test false f = refl

  go : pending_of q (without id ps) ≡ pending_of q ps → (b : Bool) → has_id id p ≡ b → pending_of q (cond (not b) (p ∷ without id ps) (without id ps)) ≡ pending_of q (p ∷ ps)
  go more true e = more ∙ sym (count_cons (has_id q) p ps ∙ ap (λ b. cond b 1 0 + pending_of q ps) (other e) ∙ omega arith)
  go more false e = count_cons (has_id q) p (without id ps) ∙ ap (λ k. cond (has_id q p) 1 0 + k) more ∙ sym (count_cons (has_id q) p ps)

-- what is found is there
found_some : (id : CmdId) (ps : List Proposal) (p : Proposal) → proposal_of id ps ≡ Some p → 1 ≤ pending_of id ps
found_some id [] p e = absurd cc
found_some id (x ∷ ps) p e = subst (λ k. 1 ≤ k) (sym (count_cons (has_id id) x ps)) (go (found_some id ps p) (has_id id x) refl e) where
  go : (proposal_of id ps ≡ Some p → 1 ≤ pending_of id ps) → (b : Bool) → has_id id x ≡ b → cond b (Some x) (find (has_id id) ps) ≡ Some p → 1 ≤ cond (has_id id x) 1 0 + pending_of id ps
  go ih true is e' = let one : one_if (has_id id x) ≡ 1 = ap one_if is in omega (arith, one)
  go ih false is e' = let more : 1 ≤ pending_of id ps = ih e' in omega (arith, more)

-- one that is there once is taken away
without_count : (id : CmdId) (ps : List Proposal) (p : Proposal) → proposal_of id ps ≡ Some p → pending_of id ps ≤ 1 → (q : CmdId)
    → cond (same_id id q) 1 0 + pending_of q (without id ps) ≡ pending_of q ps
without_count id ps p found once q = go (same_id id q) refl where
  go : (b : Bool) → same_id id q ≡ b → cond b 1 0 + pending_of q (without id ps) ≡ pending_of q ps
  go true e =
      let same : id ≡ q = same_is id q e in
      let none : pending_of q (without id ps) ≡ 0 = subst (λ z. pending_of z (without id ps) ≡ 0) same (gone id ps) in
      let one : pending_of q ps ≡ 1 = subst (λ z. pending_of z ps ≡ 1) same (let some = found_some id ps p found in omega (arith, some, once)) in
      omega (arith, none, one)
  go false e = ap (λ k. 0 + k) (kept id q e ps) ∙ omega arith

-- a pending attempt ends
ended_held : (r : Replica) (id : CmdId) (outcome : Outcome) (p : Proposal) → proposal_of id r.pending ≡ Some p → pending_of id r.pending ≤ 1 → (q : CmdId) → held q (ended r id outcome) ≡ pending_of q r.pending
ended_held r id outcome p found once q = let k = without_count id r.pending p found once q in omega (arith, k)

abbrev HeldOnce : Told → Type 0
HeldOnce t = (q : CmdId) → held q t ≤ 1

-- one move
moved_held : (ticks round : ℕ) (t : Told) (move : Move) → HeldOnce t → (q : CmdId) → held q (moved ticks round t move) ≡ held q t
moved_held ticks round t (HandsOut id max) once q = go (proposal_of id t.replica.pending) where
  go : (o : Option Proposal) → held q (option_map_or (hands_out ticks round t id max) o t) ≡ held q t
  go None = refl
  go (Some p) = cond_both (is_proposed p.stage) t _ (λ z. held q z ≡ held q t) (λ _. refl)
      (λ _. ap (λ k. told_of q t.ended + k) (changed_count id q (proposed max ticks round) (λ x. refl) t.replica.pending))
moved_held ticks round t (GivesUp id) once q = go (proposal_of id t.replica.pending) refl where
  go : (o : Option Proposal) → proposal_of id t.replica.pending ≡ o → held q (option_map_or (gives_up t id) o t) ≡ held q t
  go None found = refl
  go (Some p) found = cond_both (is_proposed p.stage) t _ (λ z. held q z ≡ held q t) (λ _. refl)
      (λ _.
      let one : pending_of id t.replica.pending ≤ 1 = (let k = once id in omega (arith, k)) in
      let outcome : Outcome = outcomes.Refused (NotLeaseHolder (lease_of t.replica)) in
      let parts = count_append (λ (e : Ended). same_id e.id q) t.ended (ended t.replica id outcome).ended in
      let last = ended_held t.replica id outcome p found one q in
      omega (arith, parts, last))
moved_held ticks round t (TakesBack id) once q = go (proposal_of id t.replica.pending) where
  go : (o : Option Proposal) → held q (option_map_or (takes_back t id) o t) ≡ held q t
  go None = refl
  go (Some p) = cond_both (goes_back t.replica.applied.state.lai p) _ t (λ z. held q z ≡ held q t)
      (λ _. ap (λ k. told_of q t.ended + k) (changed_count id q waiting_again (λ x. refl) t.replica.pending)) (λ _. refl)
moved_held ticks round t (Repeats id) once q = go (proposal_of id t.replica.pending) where
  go : (o : Option Proposal) → held q (option_map_or (repeats ticks round t id) o t) ≡ held q t
  go None = refl
  go (Some p) = cond_both (is_proposed p.stage) _ t (λ z. held q z ≡ held q t)
      (λ _. ap (λ k. told_of q t.ended + k) (changed_count id q (proposed p.max ticks round) (λ x. refl) t.replica.pending)) (λ _. refl)

moved_all_held : (ticks round : ℕ) (t : Told) (moves : List Move) → HeldOnce t → (q : CmdId) → held q (moved_all ticks round t moves) ≡ held q t
moved_all_held ticks round t [] once q = refl
moved_all_held ticks round t (move ∷ moves) once q =
    let same : (k : CmdId) → held k (moved ticks round t move) ≡ held k t = moved_held ticks round t move once in
    moved_all_held ticks round (moved ticks round t move) moves (λ k. subst (λ z. z ≤ 1) (sym (same k)) (once k)) q ∙ same q

-- all that end at once
abbrev kept_by : (Proposal → Option Outcome) → List Proposal → List Proposal
kept_by ends ps = filter (λ p. is_none (ends p)) ps

abbrev EndsGoal : (Proposal → Option Outcome) → CmdId → Proposal → List Proposal → Option Outcome → Type 0
EndsGoal ends q p ps o =
    told_of q (cons_option (option_map (λ (outcome : Outcome). record { id = p.id; outcome = outcome }) o) (filter_map (end_of ends) ps)) + pending_of q (cond (is_none o) (p ∷ kept_by ends ps) (kept_by ends ps))
    ≡ cond (has_id q p) 1 0 + pending_of q ps

one_end : (ends : Proposal → Option Outcome) (q : CmdId) (p : Proposal) (ps : List Proposal) → told_of q (filter_map (end_of ends) ps) + pending_of q (kept_by ends ps) ≡ pending_of q ps
    → (o : Option Outcome) → EndsGoal ends q p ps o
one_end ends q p ps more None = let k = count_cons (has_id q) p (kept_by ends ps) in omega (arith, more, k)
one_end ends q p ps more (Some outcome) =
    let e : Ended = record { id = p.id; outcome = outcome } in
    let k = count_cons (λ (x : Ended). same_id x.id q) e (filter_map (end_of ends) ps) in
    let back : one_if (same_id p.id q) ≡ one_if (has_id q p) = ap one_if (same_back p.id q) in
    omega (arith, more, k, back)

ends_held : (ends : Proposal → Option Outcome) (q : CmdId) (ps : List Proposal) → told_of q (filter_map (end_of ends) ps) + pending_of q (kept_by ends ps) ≡ pending_of q ps
ends_held ends q [] = refl
ends_held ends q (p ∷ ps) = one_end ends q p ps (ends_held ends q ps) (ends p) ∙ sym (count_cons (has_id q) p ps)

-- what ends all keeps none
abbrev EndsEach : (Proposal → Option Outcome) → Type 0
EndsEach ends = (p : Proposal) → is_none (ends p) ≡ false

none_kept : (ends : Proposal → Option Outcome) → EndsEach ends → (ps : List Proposal) → kept_by ends ps ≡ []
none_kept ends all [] = refl
none_kept ends all (p ∷ ps) = ap (λ b. cond b (p ∷ kept_by ends ps) (kept_by ends ps)) (all p) ∙ none_kept ends all ps

all_told : (ends : Proposal → Option Outcome) → EndsEach ends → (q : CmdId) (ps : List Proposal) → told_of q (filter_map (end_of ends) ps) ≡ pending_of q ps
all_told ends all q ps =
    let k = ends_held ends q ps in
    let none : pending_of q (kept_by ends ps) ≡ 0 = ap (pending_of q) (none_kept ends all ps) in
    omega (arith, k, none)

removal_each : EndsEach removed_with
removal_each p = go (is_proposed p.stage) where
  go : (b : Bool) → is_none (cond b (Some (outcomes.Ambiguous (causes.Removed p.max))) (Some (outcomes.Refused NoReplica))) ≡ false
  go true = refl
  go false = refl

restart_each : (lease : Lease) → EndsEach (lost_under lease)
restart_each lease p = go (is_proposed p.stage) where
  go : (b : Bool) → is_none (cond b (Some (outcomes.Ambiguous (causes.Restarted p.max))) (Some (outcomes.Refused (NotLeaseHolder lease)))) ≡ false
  go true = refl
  go false = refl

-- what joins an inbox leaves the proposals
joined_same : (r : Replica) (item : Item) → (joined r item).pending ≡ r.pending
joined_same r (items.Write id) = refl
joined_same r (items.Lease ask) = cond_both _ _ r (λ (z : Replica). z.pending ≡ r.pending) (λ _. refl) (λ _. refl)

pub joined_all_same : (r : Replica) (taken : List Item) → (joined_all r taken).pending ≡ r.pending
joined_all_same r [] = refl
joined_all_same r (item ∷ taken) = joined_all_same (joined r item) taken ∙ joined_same r item

-- what an admission adds
abbrev pub added_by : CmdId → ReplicaEvent AppliedState → EventAnswer → ℕ
added_by q (Admit id request) answer = cond (same_id id q && is_granted answer) 1 0
added_by q _ answer = 0

-- an event leaves of what was pending, and of what it admits, what is pending and what has ended
abbrev pub IsBalanced : CmdId → Replica → ReplicaEvent AppliedState → Done → Type 0
IsBalanced q r e d = told_of q d.outcomes + pending_of q (pending_at (status_after e d.replica)) ≡ pending_of q r.pending + added_by q e d.answer

module _ (r : Replica) (once : (q : CmdId) → pending_of q r.pending ≤ 1) (q : CmdId) where
  untold_once : (s : Replica) → s.pending ≡ r.pending → HeldOnce (untold s)
  untold_once s same k = let o = once k in let e : pending_of k s.pending ≡ pending_of k r.pending = ap (pending_of k) same in omega (arith, o, e)

  -- the moves of a replica that stands as it does
  moves_balance : (ticks round : ℕ) (t : Told) (moves : List Move) → ((k : CmdId) → held k t ≡ pending_of k r.pending) → held q (moved_all ticks round t moves) ≡ pending_of q r.pending + 0
  moves_balance ticks round t moves same =
      let k : held q (moved_all ticks round t moves) ≡ held q t = moved_all_held ticks round t moves (λ k. subst (λ z. z ≤ 1) (sym (same k)) (once k)) q in
      let s = same q in omega (arith, k, s)

  untold_held : (s : Replica) → s.pending ≡ r.pending → (k : CmdId) → held k (untold s) ≡ pending_of k r.pending
  untold_held s same k = let e : pending_of k s.pending ≡ pending_of k r.pending = ap (pending_of k) same in omega (arith, e)

  admit_balance : (id : CmdId) (request : Request) (g : Result Evaluated Refusal) → IsBalanced q r (Admit id request) (admitted_by r id request g)
  admit_balance id request (Ok e) =
      let k = count_push (has_id q) r.pending (proposal id request e (lease_of r).seq) in
      let back : one_if (has_id q (proposal id request e (lease_of r).seq)) ≡ one_if (same_id id q && true) = ap one_if (same_back q id ∙ sym (and_true (same_id id q))) in
      omega (arith, k, back)
    where
      and_true : (b : Bool) → (b && true) ≡ b
      and_true true = refl
      and_true false = refl
  admit_balance id request (Err why) =
      let none : one_if (same_id id q && false) ≡ 0 = ap one_if (and_false (same_id id q)) in
      omega (arith, none)
    where
      and_false : (b : Bool) → (b && false) ≡ false
      and_false true = refl
      and_false false = refl

  -- an application
  own_found : (c : Command) → is_own r c ≡ true → (p : Proposal) × (proposal_of c.id r.pending ≡ Some p)
  own_found c own = go (proposal_of c.id r.pending) refl own where
    go : (o : Option Proposal) → proposal_of c.id r.pending ≡ o → option_map_or (λ (p : Proposal). is_proposed p.stage && p.max == c.max) o false ≡ true → (p : Proposal) × (proposal_of c.id r.pending ≡ Some p)
    go None found e = absurd cc
    go (Some p) found e = (p, found)

  settled_held : (c : Command) → (p : Proposal) → proposal_of c.id r.pending ≡ Some p → (v : Verdict) → held q (settled r c v) ≡ pending_of q r.pending
  settled_held c p found verdicts.Took = ended_held r c.id (outcomes.Success c.reply) p found (once c.id) q
  settled_held c p found (verdicts.OldLease now) = ended_held r c.id (outcomes.Refused (NotLeaseHolder (lease_of r))) p found (once c.id) q
  settled_held c p found (verdicts.OldIndex lai) = let k = changed_count c.id q waiting_again (λ x. refl) r.pending in omega (arith, k)
  settled_held c p found verdicts.LeaseMoved = omega arith
  settled_held c p found verdicts.Nothing = omega arith

  proposer_held : (p : Payload) → held q (proposer_told r p) ≡ pending_of q r.pending
  proposer_held payloads.Nothing = omega arith
  proposer_held (payloads.Write c) = cond_both (is_own r c) (settled r c (command_verdict r.applied.state c)) (untold r) (λ (z : Told). held q z ≡ pending_of q r.pending)
      (λ own. let f = own_found c own in settled_held c f.0 f.1 (command_verdict r.applied.state c)) (λ _. omega arith)
  proposer_held (payloads.Lease ask) = omega arith

  apply_balance : (o : Option Payload) → IsBalanced q r Apply (applied_where r o)
  apply_balance None = omega arith
  apply_balance (Some p) = let k = proposer_held p in omega (arith, k)

  -- a message, with the snapshot that it brings
  taken_held : (o : Option (ℕ × AppliedState)) (k : CmdId) → held k (with_taken r o) ≡ pending_of k r.pending
  taken_held None k = omega arith
  taken_held (Some taken) k = ends_held (overtaken_by taken.1.lai) k r.pending

  message_balance : (from : ℕ) (m : Message AppliedState) (draft : Draft AppliedState) (ticks round : ℕ) (t : Told) → ((k : CmdId) → held k t ≡ pending_of k r.pending)
      → IsBalanced q r (Deliver from m) (delivered_by r draft ticks round t)
  message_balance from m draft ticks round t same =
      cond_both (has_new_leader r.raft.head draft.state.head) _ _ (λ (z : Done). IsBalanced q r (Deliver from m) z)
      (λ _. moves_balance ticks round t (refresh_moves (refreshing t.replica ticks true)) same)
      (λ _. let s = same q in omega (arith, s))

  pub event_balance : (e : ReplicaEvent AppliedState) (ticks round : ℕ) (taken : List Item) → IsBalanced q r e (event r e ticks round taken)
  event_balance (Admit id request) ticks round taken = admit_balance id request (guarded r request)
  event_balance Ask ticks round taken =
      cond_both (is_held r ticks) (leaves r (answers.LeaseHeld (lease_of r) ticks)) (answers_ask r (ask_for r r.raft.head.node (expiry_of r ticks))) (λ (z : Done). IsBalanced q r Ask z) (λ _. omega arith) (λ _. omega arith)
  event_balance (Transfer to) ticks round taken =
      cond_both (holds_lease r) (answers_ask r (ask_for r to (ticks + lease_ticks))) (leaves r (answers.Refused (NotLeaseHolder (lease_of r)))) (λ (z : Done). IsBalanced q r (Transfer to) z) (λ _. omega arith) (λ _. omega arith)
  event_balance Collect ticks round taken = let k : pending_of q (joined_all r taken).pending ≡ pending_of q r.pending = ap (pending_of q) (joined_all_same r taken) in omega (arith, k)
  event_balance Flush ticks round taken =
      let a = assigning r in
      moves_balance ticks round (untold (emptied r a)) (flush_moves a) (untold_held (emptied r a) refl)
  event_balance Tick ticks round taken =
      let draft = tick r.raft in
      moves_balance ticks round (untold r) (refresh_moves (refreshing r ticks (has_new_leader r.raft.head draft.state.head))) (untold_held r refl)
  event_balance (Deliver from m) ticks round taken =
      let draft = received r.raft from m in
      message_balance from m draft ticks round (with_taken r draft.taken) (taken_held draft.taken)
  event_balance Apply ticks round taken = apply_balance (payload_of (next_entry r))
  event_balance Cut ticks round taken = omega arith
  event_balance Remove ticks round taken = let k = all_told removed_with removal_each q r.pending in omega (arith, k)
  event_balance (Peek key) ticks round taken = omega arith
  event_balance Restart ticks round taken = let k = all_told (lost_under (lease_of r)) (restart_each (lease_of r)) q r.pending in omega (arith, k)
