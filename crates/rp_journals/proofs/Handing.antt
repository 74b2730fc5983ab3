-- What a range's replica at a node hands to Raft along a schedule.
use Rattle.std.proofs.Common.{◌≡◌, ℕ, zero, suc, ◌+◌, ◌*◌, ◌<◌, ◌≤◌, Bool, true, false, cond, eqb, Some, [], ◌∷◌, length, refl, sym, ap, subst, ◌∙◌, arith, eq-eqb}
use Rattle.std.specs.Prelude.{not, count_by}
use Rattle.std.specs.Option.{option_map_or}
use Rattle.std.proofs.lemmas.Bool.{ne_eqb, leb-true}
use Rattle.std.proofs.Math.Nat.{mul-le-mul_left, suc-mul}
use Rattle.rp_base.proofs.Counts.{count_push}
use Rattle.rp_events.specs.declared.journals.JournalEntry.{JournalEntry}
use Rattle.rp_events.specs.Nodes.{Node, seat, first_node}
use Rattle.rp_events.specs.NodeEvents.{step, past_of}
use Rattle.rp_events.specs.Worlds as worlds
use Rattle.rp_events.specs.Worlds.{World, Happening, Scene, Schedule, first_world, node_of, with_node, event_of, taken_in, happens, run}
use Rattle.rp_events.specs.Lawful.{is_allowed, Lawful, AllLawful, IsReached}
use Rattle.rp_journals.specs.Numbers.{handed, is_admission, admissions, other_events, all_pending, IsWithin, handed_here, handed_in, handed_along, IsHandedFew}
use Rattle.rp_journals.proofs.Growing.{reached_later}
use Rattle.rp_journals.proofs.Reading.{entry_of, step_journal, node_after, first_at}
use Rattle.rp_journals.proofs.Writing.{later_scene}
use Rattle.rp_journals.proofs.Counting.{one_if}
use Rattle.rp_journals.proofs.Balancing.{seat_le}
use Rattle.rp_journals.proofs.Elsewhere.{event_some, happens_is, lawful_node}
use Rattle.rp_journals.proofs.Within.{all_within}
use Rattle.rp_journals.proofs.Inboxes.{waiting_at, pending_long, step_short}

-- a collect gives no more than a buffer holds
pub given_few : (w : World) (node : ℕ) (what : Happening) → is_allowed w node what ≡ true → length (taken_in what) ≤ 16
given_few w node (worlds.Admit range id request) h = omega arith
given_few w node (worlds.Ask range) h = omega arith
given_few w node (worlds.Transfer range to) h = omega arith
given_few w node (worlds.Collect range taken) h = leb-true (length taken) 16 h
given_few w node (worlds.Flush range) h = omega arith
given_few w node worlds.Tick h = omega arith
given_few w node (worlds.Deliver from number) h = omega arith
given_few w node (worlds.Apply range) h = omega arith
given_few w node (worlds.Cut range) h = omega arith
given_few w node (worlds.Remove range) h = omega arith
given_few w node (worlds.Peek range key) h = omega arith
given_few w node worlds.Restart h = omega arith
given_few w node worlds.Round h = omega arith

-- the product grows by as much as an event may add
product_grows : (b : Bool) (others admitted pending had now so_far new : ℕ) → so_far + had ≤ others * (admitted + 16) → new + now ≤ had + cond b 0 (pending + 16) → pending ≤ admitted
    → so_far + new + now ≤ (others + one_if (not b)) * (admitted + one_if b + 16)
product_grows true others admitted pending had now so_far new h k p =
    let more : others * (admitted + 16) ≤ others * (admitted + 1 + 16) = mul-le-mul_left others (omega arith) in
    let same : (others + 0) * (admitted + 1 + 16) ≡ others * (admitted + 1 + 16) = ap (λ z. z * (admitted + 1 + 16)) plain in
    omega (arith, h, k, more, same)
  where
    plain : others + 0 ≡ others
    plain = omega arith
product_grows false others admitted pending had now so_far new h k p =
    let one : (others + 1) * (admitted + 0 + 16) ≡ others * (admitted + 16) + (admitted + 16) = ap (λ z. z * (admitted + 0 + 16)) next ∙ ap (λ z. suc others * (z + 16)) plain ∙ suc-mul others (admitted + 16) in
    omega (arith, h, k, p, one)
  where
    next : others + 1 ≡ suc others
    next = omega arith

    plain : admitted + 0 ≡ admitted
    plain = omega arith

module _ (range : ℕ) (below : range < 8) where
  abbrev FewAt : (ℕ → ℕ) → ℕ → Node → Type 0
  FewAt so_far node n = so_far node + waiting_at (seat n range) ≤ other_events n * (admissions n + 16)

  abbrev Few : (ℕ → ℕ) → World → Type 0
  Few so_far w = (node : ℕ) (n : Node) → node_of w node ≡ Some n → FewAt so_far node n

  abbrev and_here : (ℕ → ℕ) → World → Scene → ℕ → ℕ
  and_here so_far w x node = so_far node + cond (eqb x.node node) (handed_in range w x) 0

  few_scene : (nodes : ℕ) (w : World) (x : Scene) (so_far : ℕ → ℕ) → IsReached nodes w → Lawful w x → Few so_far w → Few (and_here so_far w x) (happens w x)
  few_scene nodes w x so_far reached l few =
      let f = lawful_node w x l.lawful in
      let n : Node = f.0 in
      let e = event_some w x.node x.what f.2 in
      let new : Node = (step n e.0 (taken_in x.what)).node in
      let short = step_short n e.0 (taken_in x.what) (given_few w x.node x.what f.2) range below in
      let inside : IsWithin n = all_within nodes w reached x.node n f.1 in
      let pending = inside.pending in
      let le : pending_long (seat n range) ≤ all_pending n = seat_le pending_long n.seats range refl in
      let b : Bool = is_admission (past_of n e.0 (taken_in x.what)) in
      let admitted : admissions new ≡ admissions n + one_if b =
      ap (count_by (λ (z : JournalEntry). is_admission z.event)) (step_journal n e.0 (taken_in x.what)) ∙ count_push (λ (z : JournalEntry). is_admission z.event) n.journal (entry_of n e.0 (taken_in x.what)) in
      let others : other_events new ≡ other_events n + one_if (not b) =
      ap (count_by (λ (z : JournalEntry). not (is_admission z.event))) (step_journal n e.0 (taken_in x.what)) ∙ count_push (λ (z : JournalEntry). not (is_admission z.event)) n.journal (entry_of n e.0 (taken_in x.what)) in
      let handed_is : handed_in range w x ≡ length (handed range n e.0 (taken_in x.what)) = ap (λ o. option_map_or (handed_here range w x) o 0) f.1 ∙ ap (λ o. option_map_or (λ z. length (handed range n z (taken_in x.what))) o 0) e.1 in
      let here : cond (eqb x.node x.node) (handed_in range w x) 0 ≡ length (handed range n e.0 (taken_in x.what)) = ap (λ c. cond c (handed_in range w x) 0) (eq-eqb x.node x.node refl) ∙ handed_is in
      let grown = product_grows b (other_events n) (admissions n) (pending_long (seat n range)) (waiting_at (seat n range)) (waiting_at (seat new range)) (so_far x.node) (length (handed range n e.0 (taken_in x.what)))
      (few x.node n f.1) short (omega (arith, le, pending)) in
      let product : other_events new * (admissions new + 16) ≡ (other_events n + one_if (not b)) * (admissions n + one_if b + 16) = ap (λ z. z * (admissions new + 16)) others ∙ ap (λ z. (other_events n + one_if (not b)) * (z + 16)) admitted in
      subst (Few (and_here so_far w x)) (sym (happens_is w x n e.0 f.1 e.1))
      (node_after (FewAt (and_here so_far w x)) w x.node n new f.1
      (omega (arith, here, grown, product))
      (λ other m ne is. let old = few other m is in let none : cond (eqb x.node other) (handed_in range w x) 0 ≡ 0 = ap (λ c. cond c (handed_in range w x) 0) (ne_eqb x.node other (λ z. ne (sym z))) in omega (arith, old, none)))

  few_run : (nodes : ℕ) (xs : Schedule) (w : World) (so_far : ℕ → ℕ) → IsReached nodes w → AllLawful w xs → Few so_far w → Few (λ node. so_far node + handed_along range node w xs) (run w xs)
  few_run nodes [] w so_far reached lawful few node n has = let k = few node n has in omega (arith, k)
  few_run nodes (x ∷ xs) w so_far reached lawful few node n has =
      let k = few_run nodes xs (happens w x) (and_here so_far w x) (reached_later nodes w (happens w x) reached (later_scene w x lawful.0)) lawful.1 (few_scene nodes w x so_far reached lawful.0 few) node n has in
      omega (arith, k)

-- nothing waits at the start
pub first_waits : (node nodes range : ℕ) → waiting_at (seat (first_node node nodes) range) ≡ 0
first_waits node nodes zero = refl
first_waits node nodes (suc zero) = refl
first_waits node nodes (suc (suc zero)) = refl
first_waits node nodes (suc (suc (suc zero))) = refl
first_waits node nodes (suc (suc (suc (suc zero)))) = refl
first_waits node nodes (suc (suc (suc (suc (suc zero))))) = refl
first_waits node nodes (suc (suc (suc (suc (suc (suc zero)))))) = refl
first_waits node nodes (suc (suc (suc (suc (suc (suc (suc zero))))))) = refl
first_waits node nodes (suc (suc (suc (suc (suc (suc (suc (suc k)))))))) = refl

pub handed_few : (nodes : ℕ) → IsReached nodes (first_world nodes) → (xs : Schedule) → AllLawful (first_world nodes) xs → (range : ℕ) → range < 8 → (node : ℕ) (n : Node) → node_of (run (first_world nodes) xs) node ≡ Some n
    → IsHandedFew range node n (handed_along range node (first_world nodes) xs)
handed_few nodes reached xs lawful range below node n has = record {
  few = let k = few_run range below nodes xs (first_world nodes) (λ k. 0) reached lawful first node n has in omega (arith, k);
} where
  first : (other : ℕ) (m : Node) → node_of (first_world nodes) other ≡ Some m → 0 + waiting_at (seat m range) ≤ other_events m * (admissions m + 16)
  first other m is = subst (λ (z : Node). 0 + waiting_at (seat z range) ≤ other_events z * (admissions z + 16)) (sym (first_at nodes other m is))
      (let k = first_waits m.node nodes range in omega (arith, k))
