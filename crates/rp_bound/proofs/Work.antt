-- Sums over the nodes of a world, and what an event of a node adds to its journal, requests and ticks.
use Rattle.std.proofs.Common.{◌≡◌, ℕ, zero, suc, ◌+◌, ◌-◌, ◌*◌, ◌^◌, ◌<◌, ◌≤◌, ◌⊎◌, inl, inr, Option, None, Some, List, [], ◌∷◌, ◌++◌, length, set, refl, sym, ap, subst, ◌∙◌, arith}
use Rattle.std.specs.Prelude.{slice_get}
use Rattle.std.specs.List.{sum_by}
use Rattle.std.proofs.Math.Nat.{suc-mul, mul-le-mul_left, mul-le-mul_right}
use Rattle.std.proofs.lemmas.Bool.{cases_lt}
use Rattle.std.proofs.lemmas.List.{length-append}
use Rattle.std.proofs.lemmas.List.Sums.{sum_by-cons}
use Rattle.rp_base.specs.declared.items.Item.{Item}
use Rattle.rp_raftstep.specs.declared.messages.Message.{Message}
use Rattle.rp_request.specs.Applied.{AppliedState}
use Rattle.rp_events.specs.declared.journals.JournalEntry.{JournalEntry}
use Rattle.rp_events.specs.declared.node_events.Event.{Event}
use Rattle.rp_events.specs.declared.node_events.Event.TheVariants as events
use Rattle.rp_events.specs.declared.replica_events.ReplicaEvent.{ReplicaEvent}
use Rattle.rp_events.specs.declared.replica_events.ReplicaEvent.TheVariants.{Admit, Ask, Transfer, Collect, Flush, Tick, Deliver, Apply, Cut, Remove, Peek, Restart}
use Rattle.rp_events.specs.Replicas.{Done}
use Rattle.rp_events.specs.ReplicaEvents.{event}
use Rattle.rp_events.specs.Nodes.{Node, Status, Absent, Live, Removed, seat, after_turn, opened, opened_by, range_numbers}
use Rattle.rp_events.specs.NodeEvents.{status_after, after_replica, by_status, live_turn, all_turns, delivered, rounded, acted, past_of, step, with_request}
use Rattle.rp_events.specs.Worlds.{World, node_of, with_node}
use Rattle.rp_bound.specs.Numbers.{work_of, NodeBelow}

-- a sum over nodes of which one changed
set_sum : (f : Node → ℕ) (w : World) (place : ℕ) (n new : Node) → slice_get w place ≡ Some n → sum_by f (set w place new) + f n ≡ sum_by f w + f new
set_sum f [] place n new e = absurd cc
set_sum f (x ∷ w) zero n new e =
    let same : f x ≡ f n = ap f (some_is x n e) in
    let a = sum_by-cons f new w in
    let b = sum_by-cons f x w in
    omega (arith, same, a, b)
  where
    some_is : (a b : Node) → ◌≡◌ {A = Option Node} (Some a) (Some b) → a ≡ b
    some_is a b k = cc
set_sum f (x ∷ w) (suc place) n new e =
    let rest = set_sum f w place n new e in
    let a = sum_by-cons f x (set w place new) in
    let b = sum_by-cons f x w in
    omega (arith, rest, a, b)

pub sum_changed : (f : Node → ℕ) (w : World) (node : ℕ) (n new : Node) → node_of w node ≡ Some n → sum_by f (with_node w node new) + f n ≡ sum_by f w + f new
sum_changed f w zero n new has = absurd cc
sum_changed f w (suc place) n new has = set_sum f w place n new has

-- a part of a sum
get_within : (f : Node → ℕ) (w : World) (place : ℕ) (n : Node) → slice_get w place ≡ Some n → f n ≤ sum_by f w
get_within f [] place n e = absurd cc
get_within f (x ∷ w) zero n e = let same : f x ≡ f n = ap f (some_is x n e) in let a = sum_by-cons f x w in omega (arith, same, a) where
  some_is : (a b : Node) → ◌≡◌ {A = Option Node} (Some a) (Some b) → a ≡ b
  some_is a b k = cc
get_within f (x ∷ w) (suc place) n e = let rest = get_within f w place n e in let a = sum_by-cons f x w in omega (arith, rest, a)

pub sum_within : (f : Node → ℕ) (w : World) (node : ℕ) (n : Node) → node_of w node ≡ Some n → f n ≤ sum_by f w
sum_within f w zero n has = absurd cc
sum_within f w (suc place) n has = get_within f w place n has

-- a sum of bounded parts
pub sum_bounded : (f : Node → ℕ) (bound : ℕ) (w : World) → ((place : ℕ) (n : Node) → slice_get w place ≡ Some n → f n ≤ bound) → sum_by f w ≤ length w * bound
sum_bounded f bound [] each = omega arith
sum_bounded f bound (x ∷ w) each =
    let a = sum_by-cons f x w in
    let here = each 0 x refl in
    let rest = sum_bounded f bound w (λ place n e. each (suc place) n e) in
    let m = suc-mul (length w) bound in
    omega (arith, a, here, rest, m)

-- the work of a node grows by its requests and what a buffer holds, and not at an admission
pub work_more : (journal requests : ℕ) → requests ≤ journal → (journal - requests) * (requests + 16) + (requests + 16) ≡ (journal + 1 - requests) * (requests + 16)
work_more journal requests le =
    let d : journal + 1 - requests ≡ suc (journal - requests) = omega (arith, le) in
    let m = suc-mul (journal - requests) (requests + 16) in
    sym (ap (λ z. z * (requests + 16)) d ∙ m)

pub work_still : (journal requests : ℕ) → (journal - requests) * (requests + 16) ≤ (journal + 1 - (requests + 1)) * (requests + 1 + 16)
work_still journal requests =
    let d : journal + 1 - (requests + 1) ≡ journal - requests = omega arith in
    let m = mul-le-mul_left {m = requests + 16} {n = requests + 1 + 16} (journal - requests) (omega arith) in
    subst (λ z. (journal - requests) * (requests + 16) ≤ z * (requests + 1 + 16)) (sym d) m

-- work stays far below the width of a number
product_low : (x y : ℕ) → x + y ≤ 2 ^ 31 + 16 → x * y ≤ (2 ^ 30 + 8) * (2 ^ 31 + 16)
product_low x y le = go (cases_lt (2 ^ 30 + 8) x) where
  go : (2 ^ 30 + 8 < x) ⊎ (x ≤ 2 ^ 30 + 8) → x * y ≤ (2 ^ 30 + 8) * (2 ^ 31 + 16)
  go (inl gt) =
      let a = mul-le-mul_left {m = y} {n = 2 ^ 30 + 8} x (omega (arith, gt, le)) in
      omega (arith, a, le)
  go (inr small) =
      let a = mul-le-mul_right {m = x} {n = 2 ^ 30 + 8} y small in
      omega (arith, a, le)

pub work_low : (n : Node) → NodeBelow n → work_of n ≤ 2305843043573432448
work_low n b =
    let a = product_low (length n.journal - length n.requests) (length n.requests + 16) (let r = b.requests in let j = b.journal in omega (arith, r, j)) in
    omega (arith, a)

-- the requests and ticks of a node after an event
abbrev pub requests_then : Node → Event AppliedState → ℕ
requests_then n (events.Admit at id request) = length n.requests + 1
requests_then n e = length n.requests

abbrev pub ticks_then : Node → Event AppliedState → ℕ
ticks_then n events.Tick = n.ticks + 1
ticks_then n e = n.ticks

-- how many items it may bring to the inboxes
abbrev pub gain_then : Node → Event AppliedState → ℕ
gain_then n (events.Admit at id request) = 0
gain_then n e = length n.requests + 16

pub work_then : (n : Node) → length n.requests ≤ length n.journal → (ev : Event AppliedState) → work_of n + gain_then n ev ≤ (length n.journal + 1 - requests_then n ev) * (requests_then n ev + 16)
work_then n le (events.Admit at id request) = let k = work_still (length n.journal) (length n.requests) in omega (arith, k)
work_then n le (events.Ask at) = let k = work_more (length n.journal) (length n.requests) le in omega (arith, k)
work_then n le (events.Transfer at to) = let k = work_more (length n.journal) (length n.requests) le in omega (arith, k)
work_then n le (events.Collect at) = let k = work_more (length n.journal) (length n.requests) le in omega (arith, k)
work_then n le (events.Flush at) = let k = work_more (length n.journal) (length n.requests) le in omega (arith, k)
work_then n le events.Tick = let k = work_more (length n.journal) (length n.requests) le in omega (arith, k)
work_then n le (events.Deliver from at number m) = let k = work_more (length n.journal) (length n.requests) le in omega (arith, k)
work_then n le (events.Apply at) = let k = work_more (length n.journal) (length n.requests) le in omega (arith, k)
work_then n le (events.Cut at) = let k = work_more (length n.journal) (length n.requests) le in omega (arith, k)
work_then n le (events.Remove at) = let k = work_more (length n.journal) (length n.requests) le in omega (arith, k)
work_then n le (events.Peek at key) = let k = work_more (length n.journal) (length n.requests) le in omega (arith, k)
work_then n le events.Restart = let k = work_more (length n.journal) (length n.requests) le in omega (arith, k)
work_then n le events.Round = let k = work_more (length n.journal) (length n.requests) le in omega (arith, k)

-- nothing so far
pub record Same (n m : Node) : Type 0 where
  pub ticks : m.ticks ≡ n.ticks
  pub requests : m.requests ≡ n.requests
  pub journal : m.journal ≡ n.journal

same_itself : (n : Node) → Same n n
same_itself n = record { ticks = refl; requests = refl; journal = refl }

same_further : (a b c : Node) → Same a b → Same b c → Same a c
same_further a b c s t = record { ticks = t.ticks ∙ s.ticks; requests = t.requests ∙ s.requests; journal = t.journal ∙ s.journal }

same_opened : (n : Node) (o : Option AppliedState) → Same n (opened n o)
same_opened n None = same_itself n
same_opened n (Some t) = go (seat n t.desc.id) where
  go : (status : Status) → Same n (opened_by n t status)
  go Absent = record { ticks = refl; requests = refl; journal = refl }
  go (Live r) = same_itself n
  go (Removed applied) = same_itself n

same_replica : (n : Node) (at : ℕ) (e : ReplicaEvent AppliedState) (d : Done) → Same n (after_replica n at e d)
same_replica n at e d =
    same_further n (after_turn n at (status_after e d.replica) d) (after_replica n at e d) (record { ticks = refl; requests = refl; journal = refl })
    (same_opened (after_turn n at (status_after e d.replica) d) d.right)

same_status : (n : Node) (at : ℕ) (e : ReplicaEvent AppliedState) (given : List Item) (status : Status) → Same n (by_status n at e given status).node
same_status n at e given Absent = same_itself n
same_status n at e given (Live r) = same_replica n at e (event r e n.ticks n.rounds given)
same_status n at e given (Removed applied) = same_itself n

same_live : (n : Node) (at : ℕ) (e : ReplicaEvent AppliedState) (status : Status) → Same n (live_turn e n at status)
same_live n at e Absent = same_itself n
same_live n at e (Live r) = same_replica n at e (event r e n.ticks n.rounds [])
same_live n at e (Removed applied) = same_itself n

same_all : (e : ReplicaEvent AppliedState) (ranges : List ℕ) (n : Node) → Same n (all_turns e n ranges)
same_all e [] n = same_itself n
same_all e (at ∷ more) n = same_further n (live_turn e n at (seat n at)) (all_turns e n (at ∷ more)) (same_live n at e (seat n at)) (same_all e more (live_turn e n at (seat n at)))

same_message : (n : Node) (from at : ℕ) (m : Message AppliedState) (status : Status) → Same n (delivered n from at m status)
same_message n from at m Absent = record { ticks = refl; requests = refl; journal = refl }
same_message n from at m (Live r) = same_replica n at (Deliver from m) (event r (Deliver from m) n.ticks n.rounds [])
same_message n from at m (Removed applied) = same_itself n

-- an event more, and so many requests and ticks
pub record Adds (n new : Node) (requests_now ticks_now : ℕ) : Type 0 where
  pub journal : length new.journal ≡ length n.journal + 1
  pub requests : length new.requests ≡ requests_now
  pub ticks : new.ticks ≡ ticks_now

adds_none : (n left : Node) (x : JournalEntry) (new : Node) → new.journal ≡ left.journal ++ x ∷ [] → new.requests ≡ left.requests → new.ticks ≡ left.ticks → Same n left
    → Adds n new (length n.requests) n.ticks
adds_none n left x new journal requests ticks s = record {
  journal = (let a = ap length journal in let b = length-append left.journal (x ∷ []) in let c = ap length s.journal in omega (arith, a, b, c));
  requests = (let a = ap length requests in let c = ap length s.requests in omega (arith, a, c));
  ticks = (let c = s.ticks in omega (arith, ticks, c));
}

abbrev entry_of : Node → Event AppliedState → List Item → JournalEntry
entry_of n ev given = record { event = past_of n ev given; answer = (acted n ev given).answer }

pub step_adds : (n : Node) (ev : Event AppliedState) (given : List Item) → Adds n (step n ev given).node (requests_then n ev) (ticks_then n ev)
step_adds n (events.Admit at id request) given =
    let s = same_status (with_request n request) at (Admit id request) [] (seat n at) in
    record {
      journal = (let b = length-append (acted n (events.Admit at id request) given).node.journal (entry_of n (events.Admit at id request) given ∷ []) in let c = ap length s.journal in omega (arith, b, c));
      requests = (let c = ap length s.requests in let d = length-append n.requests (request ∷ []) in omega (arith, c, d));
      ticks = (let c = s.ticks in omega (arith, c));
    }
step_adds n (events.Ask at) given = adds_none n _ _ _ refl refl refl (same_status n at Ask [] (seat n at))
step_adds n (events.Transfer at to) given = adds_none n _ _ _ refl refl refl (same_status n at (Transfer to) [] (seat n at))
step_adds n (events.Collect at) given = adds_none n _ _ _ refl refl refl (same_status n at Collect given (seat n at))
step_adds n (events.Flush at) given = adds_none n _ _ _ refl refl refl (same_status n at Flush [] (seat n at))
step_adds n events.Tick given =
    let s = same_all Tick range_numbers (record n { ticks = n.ticks + 1 }) in
    record {
      journal = (let b = length-append (acted n events.Tick given).node.journal (entry_of n events.Tick given ∷ []) in let c = ap length s.journal in omega (arith, b, c));
      requests = (let c = ap length s.requests in omega (arith, c));
      ticks = s.ticks;
    }
step_adds n (events.Deliver from at number m) given = adds_none n _ _ _ refl refl refl (same_message n from at m (seat n at))
step_adds n (events.Apply at) given = adds_none n _ _ _ refl refl refl (same_status n at Apply [] (seat n at))
step_adds n (events.Cut at) given = adds_none n _ _ _ refl refl refl (same_status n at Cut [] (seat n at))
step_adds n (events.Remove at) given = adds_none n _ _ _ refl refl refl (same_status n at Remove [] (seat n at))
step_adds n (events.Peek at key) given = adds_none n _ _ _ refl refl refl (same_status n at (Peek key) [] (seat n at))
step_adds n events.Restart given = adds_none n _ _ _ refl refl refl (same_all Restart range_numbers n)
step_adds n events.Round given = adds_none n (rounded n) _ _ refl refl refl (record { ticks = refl; requests = refl; journal = refl })
