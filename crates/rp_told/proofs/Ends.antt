-- What a lawful scene ends was pending before it, and ends once.
use Rattle.std.proofs.Common.{◌≡◌, ℕ, zero, suc, ◌+◌, ◌<◌, ◌≤◌, Bool, true, false, cond, Some, List, [], ◌∷◌, ◌++◌, refl, ap, subst, ◌∙◌, arith}
use Rattle.std.specs.Prelude.{◌&&◌, count_by}
use Rattle.std.specs.List.{find, AllByRecursion}
use Rattle.std.proofs.lemmas.Bool.{and_parts}
use Rattle.std.proofs.lemmas.Option.{get_or_from_slice_get}
use Rattle.rp_base.specs.Ids.{same_id}
use Rattle.rp_base.specs.declared.ids.CmdId.{CmdId}
use Rattle.rp_base.proofs.Counts.{count_cons, count_push, count_append}
use Rattle.rp_base.proofs.IdLaws.{same_itself}
use Rattle.rp_request.specs.declared.outcomes.Outcome.{Outcome}
use Rattle.rp_request.specs.declared.outcomes.Outcome.TheVariants as outcomes
use Rattle.rp_pending.specs.Proposals.{has_id, proposal_of}
use Rattle.rp_pending.specs.declared.proposals.Proposal.{Proposal}
use Rattle.rp_events.specs.declared.answers.Ended.{Ended}
use Rattle.rp_events.specs.Nodes.{Node, Status, Absent, Live, Removed, seat}
use Rattle.rp_events.specs.Worlds.{World, Scene, node_of, happens, is_admission_of, asked_at, outcome_of}
use Rattle.rp_events.specs.Lawful.{IsReached}
use Rattle.rp_journals.specs.Ended.{is_granted, is_grant_of, times_granted, times_pending, times_told, IsTrueEnd}
use Rattle.rp_journals.proofs.Asking.{any_at, times_at_most_once}
use Rattle.rp_journals.proofs.Balancing.{in_seat, balanced, granted_once}
use Rattle.rp_journals.proofs.Counting.{one_if, pending_of}
use Rattle.rp_journals.proofs.Telling.{count_some, sum_some, true_ends}
use Rattle.rp_journals.proofs.Waiting.{pending_is_told}
use Rattle.rp_told.specs.Turns.{Turns, behind}
use Rattle.rp_told.specs.Outcomes.{asks, is_pending, EndsPending}
use Rattle.rp_told.proofs.Finding.{times_in}
use Rattle.rp_told.proofs.Turning.{turn_grows, front_and_behind, reached_by}
use Rattle.rp_told.proofs.Asks.{written, journal_is, written_asks, no_ends}

-- what is counted is found
find_some : (id : CmdId) (ps : List Proposal) → 0 < pending_of id ps → (p : Proposal) × (proposal_of id ps ≡ Some p)
find_some id [] l = absurd (omega (arith, l))
find_some id (p ∷ ps) l = go (has_id id p) refl (find_some id ps) where
  go : (b : Bool) → has_id id p ≡ b → (0 < pending_of id ps → (x : Proposal) × (proposal_of id ps ≡ Some x)) → (x : Proposal) × (cond b (Some p) (find (has_id id) ps) ≡ Some x)
  go true is ih = (p, refl)
  go false is ih = ih (let k = count_cons (has_id id) p ps in let none : one_if (has_id id p) ≡ 0 = ap one_if is in omega (arith, k, none, l))

-- what was granted at a node and has no end there is told to be pending
pub open_told : (nodes : ℕ) (w : World) → IsReached nodes w → (id : CmdId) (node : ℕ) (n : Node) → node_of w node ≡ Some n → 0 < times_granted id n → times_told id n ≡ 0 → outcome_of w id ≡ Some outcomes.Pending
open_told nodes w r id node n has granted none =
    let k = balanced nodes w r id node n has in
    let pending : 0 < times_pending id n = omega (arith, k, granted, none) in
    let s = sum_some (in_seat id) n.seats pending in
    by_seat s.0 s.1 (get_or_from_slice_get n.seats s.0 s.1 Absent s.2) s.3
  where
    by_seat : (range : ℕ) (status : Status) → seat n range ≡ status → 0 < in_seat id status → outcome_of w id ≡ Some outcomes.Pending
    by_seat range Absent is l = absurd (omega (arith, l))
    by_seat range (Live replica) is l =
        let p = find_some id replica.pending l in
        (pending_is_told nodes w r node range replica (record { n = n; has = has; live = is }) id p.0 p.1).told
    by_seat range (Removed applied) is l = absurd (omega (arith, l))

-- an attempt that ends in a scene was granted at its node, once, and had no end there
pub record WasOpen (n : Node) (id : CmdId) (times : ℕ) : Type 0 where
  pub once : times ≡ 1
  pub asked : asked_at id n ≡ true
  pub granted : 0 < times_granted id n
  pub untold : times_told id n ≡ 0

module _ (nodes : ℕ) (w : World) (r : IsReached nodes w) (x : Scene) (n now : Node) (t : Turns w x n now) where
  abbrev pub tail : List Ended
  tail = behind n.outcomes now.outcomes

  pub told_grows : (id : CmdId) → times_told id now ≡ times_told id n + times_in id tail
  told_grows id =
      ap (count_by (λ (e : Ended). same_id e.id id)) (front_and_behind n.outcomes now.outcomes (turn_grows w x n now t).outcomes)
      ∙ count_append (λ (e : Ended). same_id e.id id) n.outcomes tail

  pub was_open : (id : CmdId) → 0 < times_in id tail → WasOpen n id (times_in id tail)
  was_open id some = by_asks (asks id x.what) refl where
    quiet_no : asks id x.what ≡ true → times_in id tail ≡ 0
    quiet_no a = ap (times_in id) (no_ends w x n now t id a)

    grants : times_granted id now ≡ times_granted id n + one_if (is_grant_of id (written w x n now t))
    grants = ap (count_by (is_grant_of id)) (journal_is w x n now t) ∙ count_push (is_grant_of id) n.journal (written w x n now t)

    by_asks : (b : Bool) → asks id x.what ≡ b → WasOpen n id (times_in id tail)
    by_asks true a = absurd (let none = quiet_no a in omega (arith, none, some))
    by_asks false a =
        let no_grant : one_if (is_grant_of id (written w x n now t)) ≡ 0 = ap (λ b. one_if (b && is_granted (written w x n now t).answer)) (written_asks w x n now t id ∙ a) in
        let after = balanced nodes (happens w x) (reached_by nodes w r x t.lawful) id x.node now t.left in
        let told = told_grows id in
        let once = granted_once w x.node n t.has id (times_at_most_once nodes w r id) in
        let g = grants in
        let granted : 0 < times_granted id n = omega (arith, after, told, g, no_grant, some) in
        let e = count_some (is_grant_of id) n.journal granted in
        record {
          once = omega (arith, after, told, g, no_grant, some, once);
          asked = any_at (is_admission_of id) n.journal e.0 e.1 e.2 (and_parts (is_admission_of id e.1) (is_granted e.1.answer) e.3).0;
          granted = granted;
          untold = omega (arith, after, told, g, no_grant, some, once);
        }

  pub ends_once : (id : CmdId) → times_in id tail ≤ 1
  ends_once id = go (times_in id tail) refl where
    go : (k : ℕ) → times_in id tail ≡ k → k ≤ 1
    go zero e = omega arith
    go (suc k) e = let o = (was_open id (omega (arith, e))).once in omega (arith, o, e)

  pub told_open : (id : CmdId) → 0 < times_in id tail → outcome_of w id ≡ Some outcomes.Pending
  told_open id some = let o = was_open id some in open_told nodes w r id x.node n t.has o.granted o.untold

  -- what the ends of the scene are told of
  pub ends_pending : AllByRecursion (EndsPending w) tail
  ends_pending = go tail (λ id some. told_open id some) ends_true where
    is_end : (id : CmdId) (o : Outcome) → IsTrueEnd (happens w x) id o → is_pending o ≡ false
    is_end id (outcomes.Success reply) h = refl
    is_end id (outcomes.Refused why) h = refl
    is_end id (outcomes.Ambiguous why) h = refl
    is_end id outcomes.Pending h = absurd h

    all_behind : (es fs : List Ended) → AllByRecursion (λ (e : Ended). IsTrueEnd (happens w x) e.id e.outcome) (es ++ fs) → AllByRecursion (λ (e : Ended). IsTrueEnd (happens w x) e.id e.outcome) fs
    all_behind [] fs h = h
    all_behind (e ∷ es) fs h = all_behind es fs h.1

    ends_true : AllByRecursion (λ (e : Ended). IsTrueEnd (happens w x) e.id e.outcome) tail
    ends_true = all_behind n.outcomes tail
        (subst (AllByRecursion (λ (e : Ended). IsTrueEnd (happens w x) e.id e.outcome)) (front_and_behind n.outcomes now.outcomes (turn_grows w x n now t).outcomes)
        (true_ends nodes (happens w x) (reached_by nodes w r x t.lawful) x.node now t.left))

    go : (es : List Ended) → ((id : CmdId) → 0 < times_in id es → outcome_of w id ≡ Some outcomes.Pending) → AllByRecursion (λ (e : Ended). IsTrueEnd (happens w x) e.id e.outcome) es → AllByRecursion (EndsPending w) es
    go [] pending ends = tt
    go (e ∷ es) pending ends = (
      record {
        before = pending e.id (let k = count_cons (λ (y : Ended). same_id y.id e.id) e es in let one : one_if (same_id e.id e.id) ≡ 1 = ap one_if (same_itself e.id) in omega (arith, k, one));
        ends = is_end e.id e.outcome ends.0;
      },
      go es (λ id some. pending id (let k = count_cons (λ (y : Ended). same_id y.id id) e es in omega (arith, k, some))) ends.1,
    )
