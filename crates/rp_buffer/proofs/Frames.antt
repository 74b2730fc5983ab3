-- What changes at a step, and what stays.
use Rattle.std.proofs.Common.{◌≡◌, ◌≢◌, ◌⊎◌, inl, inr, ⊎_elim, ℕ, zero, suc, ◌+◌, ◌*◌, ◌/◌, ◌%◌, ◌<◌, ◌≤◌, Bool, true, false, List, [], ◌∷◌, ◌++◌, length, get_or, set, sum_by, refl, ap, sym, ◌∙◌, arith, subst, slice_index, slice_index_or, slice_set, Option, Some, None}
use Rattle.std.proofs.lemmas.List.{length-set, set-get_or, get_or-set_same, get_or-set_other}
use mathlib.Core.Option as maybe
use mathlib.Core.Logic.{dite}
use native.Mathlib.Decide.{ℕ_discrete}
use lib.ListN.{get_elem?}
use Rattle.atomic_table.specs.Table.{State}
use Rattle.atomic_table.proofs.Lists.{set_here, set_else}
use Rattle.rp_passes.proofs.Tally.{total_set, part_le, pair_le, each_set}
use Rattle.rp_base.specs.declared.items.Item.{Item}
use Rattle.rp_buffer.specs.declared.rule.Hand.{Hand}
use Rattle.rp_buffer.specs.declared.rule.Stage.{Stage}
use Rattle.rp_buffer.specs.declared.rule.Stage.TheVariants.{Idle, Drew, Taking}
use Rattle.rp_buffer.specs.declared.rights.Right.{Right}
use Rattle.rp_buffer.specs.declared.rights.Right.TheVariants.{Lacks, Carries}
use Rattle.rp_buffer.specs.declared.rights.Keep.{Keep}
use Rattle.rp_buffer.specs.declared.rights.Keep.TheVariants.{Open, Closed}
use Rattle.rp_buffer.specs.Hands.{Put, right_at, keep_in}
use Rattle.rp_buffer.specs.Slots.{Phase, free, drawn, published, taking, taken, Ring, face, up, InPhase, AtStage, KeepOf, RightOf, Knows, weight, right_on, lies, left_in, weight_put, weight_taken, Kept}
use Rattle.rp_buffer.specs.Machine.{shown, IsReached}
use Rattle.rp_buffer.proofs.Showing.{place_else}
use Rattle.rp_buffer.proofs.Places.{put, put_here, put_else, at_put, left_set}

-- the words, the slots, the rings, the phases and one view change
pub changed : (n id : ℕ) (s : State (Option Item) Hand) (v w : Hand) (k : Kept n s)
    (rings : ℕ → Ring) (phases : ℕ → Phase) (words : List ℕ) (homes : List (maybe.Option (Option Item)))
    → get_elem? s.views id ≡ maybe.some v
    → length words ≡ 17 * n → length homes ≡ 16 * n
    → ((b : ℕ) → b < n → ((rings b).drawn_to ≤ 16) × (slice_index words b ≡ face (rings b)))
    → ((q : ℕ) → q < 16 * n → (slice_index words (n + q) ≡ up (phases q)) × InPhase (rings (q / 16)).drawn_to homes q (phases q))
    → ((b : ℕ) → b < n → IsReached (shown rings phases b))
    → Knows n rings phases id w
    → ((j : ℕ) (u : Hand) → j ≢ id → get_elem? s.views j ≡ maybe.some u → Knows n rings phases j u)
    → w.parts ≡ v.parts
    → ((i : ℕ) → right_on i w ≤ right_on i v)
    → ((h : Put → ℕ) → weight_put h w + weight_taken h v + left_in (16 * n) k.phases h ≡ weight_put h v + weight_taken h w + left_in (16 * n) phases h)
    → Kept n record { words = words; homes = homes; views = set s.views id w }
changed n id s v w k rings phases words homes at wide long counters places reached mine theirs same_parts fewer even =
    let p = total_set (λ (x : Hand). x.parts) s.views id v w at in
    let parted = k.parted in
    record {
      rings = rings;
      phases = phases;
      wide = wide;
      long = long;
      counters = counters;
      places = places;
      machine = reached;
      each_pass = each_set (λ j u. Knows n rings phases j u) s.views id w mine theirs;
      parted = omega (arith, p, parted, same_parts);
      once = λ i. let r = total_set (right_on i) s.views id v w at in let o = k.once i in let f = fewer i in omega (arith, r, o, f);
      balanced = λ h. let a = total_set (weight_put h) s.views id v w at in let b = total_set (weight_taken h) s.views id v w at in
          let was = k.balanced h in let e = even h in omega (arith, a, b, was, e);
    }

-- what a pass knows stays so under other words for the same
pub stage_stays : (n : ℕ) (phases : ℕ → Phase) (q j : ℕ) (p : Phase) (stage : Stage)
    → phases q ≢ drawn j → phases q ≢ taking j → AtStage n phases j stage → AtStage n (put phases q p) j stage
stage_stays n phases q j p Idle not_drawn not_taking at = tt
stage_stays n phases q j p (Drew k) not_drawn not_taking at = (at.0, put_else phases q k p (λ e. not_drawn (subst (λ x. phases x ≡ drawn j) e at.1)) ∙ at.1)
stage_stays n phases q j p (Taking k) not_drawn not_taking at = (at.0, put_else phases q k p (λ e. not_taking (subst (λ x. phases x ≡ taking j) e at.1)) ∙ at.1)

-- what is kept of a buffer stays so where a place that is not taken changes
pub keep_stays : (ring : Ring) (phases : ℕ → Phase) (q b : ℕ) (p : Phase) (keep : Keep)
    → phases q ≢ taken → KeepOf ring phases b keep → KeepOf ring (put phases q p) b keep
keep_stays ring phases q b p Open not_taken known = known
keep_stays ring phases q b p (Closed count gone) not_taken known =
    (known.0, known.1, known.2, λ r low is. put_else phases q (16 * b + r) p (λ e. not_taken (subst (λ x. phases x ≡ taken) e (known.3 r low is))) ∙ known.3 r low is)

pub right_stays : (n : ℕ) (rings : ℕ → Ring) (phases : ℕ → Phase) (q i : ℕ) (p : Phase) (r : Right)
    → phases q ≢ taken → RightOf n rings phases i r → RightOf n rings (put phases q p) i r
right_stays n rings phases q i p Lacks not_taken known = tt
right_stays n rings phases q i p (Carries keeps) not_taken known =
    (known.0, known.1, λ r low. keep_stays (rings (8 * i + r)) phases q (8 * i + r) p (keep_in keeps r) not_taken (known.2 r low))

-- a place is this pass's or published, so no other pass knows of it
abbrev pub IsMine : ℕ → Phase → Type 0
IsMine id free = ⊥
IsMine id (drawn j) = j ≡ id
IsMine id (published x) = Unit {0}
IsMine id (taking j) = j ≡ id
IsMine id taken = ⊥

pub not_drawn : (id j : ℕ) (p : Phase) → IsMine id p → j ≢ id → p ≢ drawn j
not_drawn id j free mine away e = absurd mine
not_drawn id j (drawn i) mine away e = away (cc)
not_drawn id j (published x) mine away e = cc
not_drawn id j (taking i) mine away e = cc
not_drawn id j taken mine away e = absurd mine

pub not_taking : (id j : ℕ) (p : Phase) → IsMine id p → j ≢ id → p ≢ taking j
not_taking id j free mine away e = absurd mine
not_taking id j (drawn i) mine away e = cc
not_taking id j (published x) mine away e = cc
not_taking id j (taking i) mine away e = away (cc)
not_taking id j taken mine away e = absurd mine

pub not_taken : (id : ℕ) (p : Phase) → IsMine id p → p ≢ taken
not_taken id free mine e = absurd mine
not_taken id (drawn i) mine e = cc
not_taken id (published x) mine e = cc
not_taken id (taking i) mine e = cc
not_taken id taken mine e = absurd mine

-- what another pass knows stays so where a place changes that is not its own
pub knows_stays : (n : ℕ) (rings : ℕ → Ring) (phases : ℕ → Phase) (q id j : ℕ) (p : Phase) (u : Hand)
    → IsMine id (phases q) → j ≢ id → Knows n rings phases j u → Knows n rings (put phases q p) j u
knows_stays n rings phases q id j p u mine away known = record {
  stage = stage_stays n phases q j p u.stage (not_drawn id j (phases q) mine away) (not_taking id j (phases q) mine away) known.stage;
  rights = λ i. right_stays n rings phases q i p (right_at u.rights i) (not_taken id (phases q) mine) (known.rights i);
  idle = known.idle;
}

-- a place stays in its phase where its home does
pub home_stays : (drawn_to : ℕ) (before after : List (maybe.Option (Option Item))) (o : ℕ) (p : Phase) → get_elem? after o ≡ get_elem? before o
    → InPhase drawn_to before o p → InPhase drawn_to after o p
home_stays d before after o free same is = (is.0, same ∙ is.1)
home_stays d before after o (drawn j) same is = is
home_stays d before after o (published x) same is = (is.0, same ∙ is.1)
home_stays d before after o (taking j) same is = is
home_stays d before after o taken same is = (is.0, same ∙ is.1)

-- a word stays where it is set to what it is
pub same_words : (words : List ℕ) (i : ℕ) → set words i (slice_index words i) ≡ words
same_words words i = set-get_or words i 0

-- one place changes, with its word and its home; the counters stay
pub placed : (n id q u : ℕ) (p : Phase) (s : State (Option Item) Hand) (homes : List (maybe.Option (Option Item))) (v w : Hand) (k : Kept n s)
    → get_elem? s.views id ≡ maybe.some v
    → q < 16 * n → IsMine id (k.phases q) → u ≡ up p
    → length homes ≡ 16 * n
    → ((o : ℕ) → o ≢ q → get_elem? homes o ≡ get_elem? s.homes o)
    → InPhase (k.rings (q / 16)).drawn_to homes q p
    → (IsReached (shown k.rings k.phases (q / 16)) → IsReached (shown k.rings (put k.phases q p) (q / 16)))
    → Knows n k.rings (put k.phases q p) id w
    → w.parts ≡ v.parts
    → ((i : ℕ) → right_on i w ≤ right_on i v)
    → ((h : Put → ℕ) → weight_put h w + weight_taken h v + lies h q (k.phases q) ≡ weight_put h v + weight_taken h w + lies h q p)
    → Kept n record { words = set s.words (n + q) u; homes = homes; views = set s.views id w }
placed n id q u p s homes v w k at low mine is_up long else_same in_phase goes known same_parts fewer even =
    let words : List ℕ = set s.words (n + q) u in
    let wide = k.wide in
    changed n id s v w k k.rings (put k.phases q p) words homes at
    (length-set s.words (n + q) u ∙ k.wide) long
    (λ b small. ((k.counters b small).0, get_or-set_other s.words (n + q) b u 0 (λ e. omega (arith, e, small)) ∙ (k.counters b small).1))
    (λ o small. at_put (λ x (y : Phase). (slice_index words (n + x) ≡ up y) × InPhase (k.rings (x / 16)).drawn_to homes x y) k.phases q p o
    (λ e. (
      subst (λ x. slice_index words (n + x) ≡ up p) (sym e) (get_or-set_same s.words (n + q) u 0 (omega (arith, low, wide)) ∙ is_up),
      subst (λ x. InPhase (k.rings (x / 16)).drawn_to homes x p) (sym e) in_phase,
    ))
    (λ away. (
      get_or-set_other s.words (n + q) (n + o) u 0 (λ e. away (omega (arith, e))) ∙ (k.places o small).0,
      home_stays (k.rings (o / 16)).drawn_to s.homes homes o (k.phases o) (else_same o away) (k.places o small).1,
    )))
    (λ b small. dite (ℕ_discrete b (q / 16))
    (λ e. subst (λ c. IsReached (shown k.rings (put k.phases q p) c)) (sym e) (goes (k.machine (q / 16) (omega (arith, low)))))
    (λ away. subst IsReached (place_else k.rings k.phases q b p away) (k.machine b small)))
    known
    (λ j x away e. knows_stays n k.rings k.phases q id j p x mine away (k.each_pass j x e))
    same_parts fewer
    (λ h. let l = left_set (16 * n) q k.phases p h low in let e = even h in omega (arith, l, e))
