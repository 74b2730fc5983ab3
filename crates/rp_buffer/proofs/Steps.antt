-- The steps of an insert keep the rule.
use Rattle.std.proofs.Common.{◌≡◌, ◌≢◌, ◌⊎◌, inl, inr, ⊎_elim, ℕ, zero, suc, ◌+◌, ◌-◌, ◌*◌, ◌/◌, ◌%◌, ◌<◌, ◌≤◌, eqb, Bool, true, false, List, [], ◌∷◌, ◌++◌, length, get_or, set, sum_by, refl, ap, sym, ◌∙◌, arith, subst, slice_index, slice_index_or, slice_set, Option, Some, None}
use Rattle.std.proofs.lemmas.List.{length-set, get_or-set_same, get_or-set_other}
use Rattle.std.proofs.lemmas.List.Sums.{sum_by_push}
use mathlib.Core.Option as maybe
use mathlib.Core.Logic.{dite}
use native.Mathlib.Decide.{ℕ_discrete}
use prog.Atomic.{either}
use lib.ListN.{get_elem?}
use Rattle.atomic_table.specs.Table.{State, Me, Step, step, Act, keeps, takes, gives, Valid, Allows, stepped, carried_after, put_back, rest}
use Rattle.atomic_table.proofs.Lists.{exchanged, set_here, set_else}
use Rattle.rp_base.specs.declared.items.Item.{Item}
use Rattle.rp_buffer.specs.declared.rule.Hand.{Hand}
use Rattle.rp_buffer.specs.declared.rule.Stage.{Stage}
use Rattle.rp_buffer.specs.declared.rule.Stage.TheVariants.{Idle, Drew, Taking}
use Rattle.rp_buffer.specs.declared.rule.Look.{Look}
use Rattle.rp_buffer.specs.declared.rule.Look.TheVariants.{Loaded, Asked, Found, Missed}
use Rattle.rp_buffer.specs.declared.rights.Right.{Right}
use Rattle.rp_buffer.specs.declared.rights.Right.TheVariants.{Lacks, Carries}
use Rattle.rp_buffer.specs.declared.rights.Keep.{Keep}
use Rattle.rp_buffer.specs.declared.rights.Keep.TheVariants.{Open, Closed}
use Rattle.rp_buffer.specs.Hands.{Put, hand, right_at, keep_in}
use Rattle.rp_buffer.specs.Slots.{Phase, free, drawn, published, taking, taken, Ring, face, up, InPhase, AtStage, KeepOf, RightOf, Knows, weight, right_on, lies, left_in, weight_put, weight_taken, Kept}
use Rattle.rp_buffer.specs.Plays as plays
use Rattle.rp_buffer.specs.Plays.{Standing, noted, with_stage, having_put}
use Rattle.rp_buffer.specs.Machine.{shown, IsReached}
use Rattle.rp_buffer.proofs.Showing.{after_drawn, after_published, drawn_away}
use Rattle.rp_buffer.proofs.Places.{put, put_here, put_else, at_put, left_set}
use Rattle.rp_buffer.proofs.Frames.{changed, placed, same_words, knows_stays, home_stays, stage_stays, right_stays, IsMine}

face_small : (ring : Ring) → ring.drawn_to ≤ 16 → face ring ≤ 16
face_small ring small = by_open ring.is_open ring.drawn_to small
  where
    by_open : (o : Bool) (d : ℕ) → d ≤ 16 → face (record { drawn_to = d; is_open = o }) ≤ 16
    by_open true d small = small
    by_open false d small = omega arith

-- nothing changes but what the view notes
pub stands : (n id i : ℕ) (look : Look) (s : State (Option Item) Hand) (v : Hand) (k : Kept n s)
    → get_elem? s.views id ≡ maybe.some v
    → Kept n record { words = set s.words i (slice_index s.words i); homes = s.homes; views = set s.views id (noted v look) }
stands n id i look s v k at =
    let known = k.each_pass id v at in
    subst (λ (ws : List ℕ). Kept n record { words = ws; homes = s.homes; views = set s.views id (noted v look) }) (sym (same_words s.words i))
    (changed n id s v (noted v look) k k.rings k.phases s.words s.homes at k.wide k.long k.counters k.places k.machine
    (record { stage = known.stage; rights = known.rights; idle = known.idle })
    (λ j u away e. k.each_pass j u e)
    refl (λ i. omega arith) (λ h. refl))

-- a load of a counter
pub loads : (n slots id b : ℕ) (me : Standing) → b < n
    → Allows (Kept n) slots id me b (λ z. z) (plays.loaded (step slots b 0 0 maybe.none) me)
loads n slots id b me low s k long at small =
    let found : ℕ = slice_index s.words b in
    let w = noted me.0 (Loaded b found) in
    let shown = k.counters b low in
    (w, keeps, tt, stands n id b (Loaded b found) s me.0 k at, (subst (λ x. x ≤ 16) (sym shown.1) (face_small (k.rings b) shown.0), refl, refl))

-- where the counter is below 16 the buffer is open
open_face : (ring : Ring) (old : ℕ) → old < 16 → old ≡ face ring → (ring.is_open ≡ true) × (ring.drawn_to ≡ old)
open_face ring old low e = by_open ring.is_open ring.drawn_to low e
  where
    by_open : (o : Bool) (d : ℕ) → old < 16 → old ≡ face (record { drawn_to = d; is_open = o }) → (o ≡ true) × (d ≡ old)
    by_open true d low e = (refl, sym e)
    by_open false d low e = absurd (omega (arith, low, e))

-- a place that is not drawn is free
is_free : (d : ℕ) (homes : List (maybe.Option (Option Item))) (k : ℕ) (p : Phase) → d ≤ k % 16 → InPhase d homes k p
    → (p ≡ free) × (get_elem? homes k ≡ maybe.some (maybe.some None))
is_free d homes k free past is = (refl, is.1)
is_free d homes k (drawn j) past is = absurd (omega (arith, past, is))
is_free d homes k (published x) past is = let low = is.0 in absurd (omega (arith, past, low))
is_free d homes k (taking j) past is = absurd (omega (arith, past, is))
is_free d homes k taken past is = let low = is.0 in absurd (omega (arith, past, low))

still_past : (d : ℕ) (homes : List (maybe.Option (Option Item))) (k : ℕ) (p : Phase) → p ≡ free → InPhase d homes k p → d ≤ k % 16
still_past d homes k free e is = is.0
still_past d homes k (drawn j) e is = absurd (cc)
still_past d homes k (published x) e is = absurd (cc)
still_past d homes k (taking j) e is = absurd (cc)
still_past d homes k taken e is = absurd (cc)

-- more places are drawn
more_drawn : (d e : ℕ) (homes : List (maybe.Option (Option Item))) (k : ℕ) (p : Phase) → d ≤ e → (p ≡ free → e ≤ k % 16) → InPhase d homes k p → InPhase e homes k p
more_drawn d e homes k free more past is = (past refl, is.1)
more_drawn d e homes k (drawn j) more past is = omega (arith, more, is)
more_drawn d e homes k (published x) more past is = let low = is.0 in (omega (arith, more, low), is.1)
more_drawn d e homes k (taking j) more past is = omega (arith, more, is)
more_drawn d e homes k taken more past is = let low = is.0 in (omega (arith, more, low), is.1)

-- an open buffer stays open where another place is drawn
still_open : (ring after : Ring) (phases : ℕ → Phase) (b : ℕ) (keep : Keep) → ring.is_open ≡ true → after.is_open ≡ true → KeepOf ring phases b keep → KeepOf after phases b keep
still_open ring after phases b Open was is known = is
still_open ring after phases b (Closed count gone) was is known = absurd (let shut = known.0 in cc)

ring_stays : (n : ℕ) (rings : ℕ → Ring) (phases : ℕ → Phase) (b i : ℕ) (after : Ring) (r : Right) → (rings b).is_open ≡ true → after.is_open ≡ true
    → RightOf n rings phases i r → RightOf n (put rings b after) phases i r
ring_stays n rings phases b i after Lacks was is known = tt
ring_stays n rings phases b i after (Carries ks) was is known = (
  known.0,
  known.1,
  λ r low.
      at_put (λ c (ring : Ring). KeepOf ring phases c (keep_in ks r)) rings b after (8 * i + r)
      (λ e. still_open (rings (8 * i + r)) after phases (8 * i + r) (keep_in ks r) (subst (λ c. (rings c).is_open ≡ true) (sym e) was) is (known.2 r low))
      (λ away. known.2 r low),
)

right_free : (n : ℕ) (rings : ℕ → Ring) (phases : ℕ → Phase) (b q id i : ℕ) (after : Ring) (r : Right) → (rings b).is_open ≡ true → after.is_open ≡ true → phases q ≡ free
    → RightOf n rings phases i r → RightOf n (put rings b after) (put phases q (drawn id)) i r
right_free n rings phases b q id i after r was is at known =
    ring_stays n rings (put phases q (drawn id)) b i after r was is (right_stays n rings phases q i (drawn id) r (λ e. cc) known)

-- a place is drawn: an exchange of a counter below 16
draw_hits : (n id b old : ℕ) (s : State (Option Item) Hand) (v : Hand) (k : Kept n s)
    → get_elem? s.views id ≡ maybe.some v → b < n → old < 16 → slice_index s.words b ≡ old → v.stage ≡ Idle → 0 < v.parts
    → (w : Hand) → w.parts ≡ v.parts → w.stage ≡ Drew (16 * b + old) → w.put ≡ v.put → w.taken ≡ v.taken → w.rights ≡ v.rights
    → (get_elem? s.homes (16 * b + old) ≡ maybe.some (maybe.some None))
    × Kept n record { words = set s.words b (old + 1); homes = set s.homes (16 * b + old) maybe.none; views = set s.views id w }
draw_hits n id b old s v k at low below found stage some_part w same_parts drew same_put same_taken same_rights =
    let q : ℕ = 16 * b + old in
    let counter = k.counters b low in
    let opened = open_face (k.rings b) old below (sym found ∙ counter.1) in
    let in_q : q < 16 * n = omega (arith, low, below) in
    let of_b : q / 16 ≡ b = omega (arith, below) in
    let number : q % 16 ≡ old = omega (arith, below) in
    let place = is_free (k.rings (q / 16)).drawn_to s.homes q (k.phases q) (subst (λ c. (k.rings c).drawn_to ≤ q % 16) (sym of_b) (let d = opened.1 in omega (arith, d, number))) (k.places q in_q).1 in
    let after : Ring = record { drawn_to = old + 1; is_open = true } in
    let words : List ℕ = set s.words b (old + 1) in
    let homes : List (maybe.Option (Option Item)) = set s.homes q maybe.none in
    let rings : ℕ → Ring = put k.rings b after in
    let phases : ℕ → Phase = put k.phases q (drawn id) in
    let wide = k.wide in
    let known = k.each_pass id v at in (
      place.1,
      changed n id s v w k rings phases words homes at
          (length-set s.words b (old + 1) ∙ k.wide)
          (length-set s.homes q maybe.none ∙ k.long)
          (λ c small. at_put (λ x (ring : Ring). (ring.drawn_to ≤ 16) × (slice_index words x ≡ face ring)) k.rings b after c
          (λ e. (omega (arith, below), subst (λ x. slice_index words x ≡ old + 1) (sym e) (get_or-set_same s.words b (old + 1) 0 (omega (arith, low, wide)))))
          (λ away. ((k.counters c small).0, get_or-set_other s.words b c (old + 1) 0 away ∙ (k.counters c small).1)))
          (λ o small. at_put (λ x (y : Phase). (slice_index words (n + x) ≡ up y) × InPhase (rings (x / 16)).drawn_to homes x y) k.phases q (drawn id) o
          (λ e. (
            get_or-set_other s.words b (n + o) (old + 1) 0 (λ is. omega (arith, is, low)) ∙ (k.places o small).0 ∙ ap up (ap k.phases e ∙ place.0),
            subst (λ x. x % 16 < (rings (x / 16)).drawn_to) (sym e) (subst (λ (ring : Ring). q % 16 < ring.drawn_to) (sym (put_here k.rings b (q / 16) after of_b)) (omega (arith, number))),
          ))
          (λ away. (
            get_or-set_other s.words b (n + o) (old + 1) 0 (λ is. omega (arith, is, low)) ∙ (k.places o small).0,
            home_stays (rings (o / 16)).drawn_to s.homes homes o (k.phases o) (set_else s.homes q o maybe.none away)
                (at_put (λ x (ring : Ring). x ≡ o / 16 → InPhase ring.drawn_to s.homes o (k.phases o)) k.rings b after (o / 16)
                (λ e same. let d = opened.1 in
                let was : InPhase (k.rings b).drawn_to s.homes o (k.phases o) = subst (λ c. InPhase (k.rings c).drawn_to s.homes o (k.phases o)) e (k.places o small).1 in
                more_drawn (k.rings b).drawn_to (old + 1) s.homes o (k.phases o) (omega (arith, d))
                (λ f. let past : (k.rings b).drawn_to ≤ o % 16 = still_past (k.rings b).drawn_to s.homes o (k.phases o) f was in omega (arith, past, d, e, away)) was)
                (λ else same. (k.places o small).1) refl),
          )))
          (λ c small. dite (ℕ_discrete c b)
          (λ e. subst (λ z. IsReached (shown rings phases z)) (sym e)
          (after_drawn k.rings k.phases b old id opened.0 opened.1 below (k.machine b low)))
          (λ away. subst IsReached (drawn_away k.rings k.phases b c q after (drawn id) away of_b) (k.machine c small)))
          (record {
            stage = subst (λ st. AtStage n phases id st) (sym drew) (in_q, put_here k.phases q q (drawn id) refl);
            rights = λ i. subst (λ rs. RightOf n rings phases i (right_at rs i)) (sym same_rights) (right_free n k.rings k.phases b q id i after (right_at v.rights i) opened.0 refl place.0 (known.rights i));
            idle = λ none_left. absurd (omega (arith, none_left, same_parts, some_part));
          })
          (λ j u away e. let theirs = k.each_pass j u e in record {
            stage = stage_stays n k.phases q j (drawn id) u.stage (λ is. let f = place.0 in cc) (λ is. let f = place.0 in cc) theirs.stage;
            rights = λ i. right_free n k.rings k.phases b q id i after (right_at u.rights i) opened.0 refl place.0 (theirs.rights i);
            idle = theirs.idle;
          })
          same_parts
          (λ i. let e : right_on i w ≡ right_on i v = ap (λ rs. weight (right_at rs i)) same_rights in omega (arith, e))
          (λ h. let l = left_set (16 * n) q k.phases (drawn id) h in_q in
          let was : lies h q (k.phases q) ≡ 0 = ap (lies h q) place.0 in
          let a : weight_put h w ≡ weight_put h v = ap (sum_by h) same_put in
          let c : weight_taken h w ≡ weight_taken h v = ap (sum_by h) same_taken in
          omega (arith, l, was, a, c)),
    )

-- an exchange of a counter
pub draws : (n slots id b old : ℕ) (me : Standing) → b < n → old < 16 → me.0.stage ≡ Idle → 0 < me.0.parts
    → Allows (Kept n) slots id me b (λ z. either (eqb z old) (old + 1) z) (plays.drew (step slots b old (old + 1) maybe.none) me)
draws n slots id b old me low below stage some_part s k long at small =
    let found : ℕ = slice_index s.words b in
    let q : ℕ = 16 * b + old in
    exchanged found old (old + 1) (λ z. (w : Hand) × (a : Act (Option Item)) × Valid s.homes me.1 a × Kept n (stepped s b z id me.1 w a) × plays.drew (step slots b old (old + 1) maybe.none) me found (w, carried_after me.1 a))
    (λ hit. let w = with_stage (noted me.0 (Asked b old found)) (Drew q) in
    let done = draw_hits n id b old s me.0 k at low below hit stage some_part w refl refl refl refl refl in
    (w, takes q None, done.0, done.1, ((λ _. (refl, refl)), (λ miss. absurd (miss hit)))))
    (λ miss. let w = noted me.0 (Asked b old found) in
    (w, keeps, tt, stands n id b (Asked b old found) s me.0 k at, ((λ hit. absurd (miss hit)), (λ _. (refl, refl)))))

-- the slot that is out comes home
pub home_again : (homes : List (maybe.Option (Option Item))) (k o : ℕ) (y : Option Item) → o ≢ k → get_elem? (set homes k (maybe.some y)) o ≡ get_elem? homes o
home_again homes k o y away = set_else homes k o (maybe.some y) away

drawn_low : (d : ℕ) (homes : List (maybe.Option (Option Item))) (k id : ℕ) (p : Phase) → p ≡ drawn id → InPhase d homes k p → k % 16 < d
drawn_low d homes k id free e is = absurd (cc)
drawn_low d homes k id (drawn j) e is = is
drawn_low d homes k id (published x) e is = absurd (cc)
drawn_low d homes k id (taking j) e is = absurd (cc)
drawn_low d homes k id taken e is = absurd (cc)

-- what lies in a slot that comes home is published
publish_at : (n id q : ℕ) (x : Item) (tl : List (ℕ × Option Item)) (s : State (Option Item) Hand) (v : Hand) (k : Kept n s)
    → get_elem? s.views id ≡ maybe.some v → v.stage ≡ Drew q → 0 < v.parts
    → Kept n record { words = set s.words (n + q) 1; homes = put_back s.homes ((q, Some x) ∷ tl); views = set s.views id (having_put v (q / 16, x)) }
publish_at n id q x tl s v k at stage some_part =
    let known = k.each_pass id v at in
    let mine : AtStage n k.phases id (Drew q) = subst (λ st. AtStage n k.phases id st) stage known.stage in
    let long = k.long in
    let low = mine.0 in
    placed n id q 1 (published x) s (set s.homes q (maybe.some (Some x))) v (having_put v (q / 16, x)) k at mine.0
    (subst (λ p. IsMine id p) (sym mine.1) refl) refl
    (length-set s.homes q (maybe.some (Some x)) ∙ k.long)
    (λ o away. home_again s.homes q o (Some x) away)
    (drawn_low (k.rings (q / 16)).drawn_to s.homes q id (k.phases q) mine.1 (k.places q mine.0).1, set_here s.homes q (maybe.some (Some x)) (omega (arith, long, low)))
    (after_published k.rings k.phases q id x mine.1)
    (record {
      stage = tt;
      rights = λ i. right_stays n k.rings k.phases q i (published x) (right_at v.rights i) (λ e. let d = mine.1 in cc) (known.rights i);
      idle = λ none_left. absurd (omega (arith, none_left, some_part));
    })
    refl (λ i. omega arith)
    (λ h. let was : lies h q (k.phases q) ≡ 0 = ap (lies h q) mine.1 in
    let grew = sum_by_push h v.put (q / 16, x) in
    omega (arith, was, grew))

abbrev top_value : List (ℕ × Option Item) → Option Item
top_value [] = None
top_value (t ∷ ts) = t.1

rest_same : (cs : List (ℕ × Option Item)) (k : ℕ) (y z : Option Item) → cs ≡ (k, y) ∷ rest cs → cs ≡ (k, z) ∷ rest cs → y ≡ z
rest_same cs k y z a b = ap top_value (sym a ∙ b)

same_item : (x y : Item) → Some x ≡ Some y → x ≡ y
same_item x y e = cc

-- the swap that publishes
pub publishes : (n slots id q : ℕ) (x : Item) (me : Standing) → slots ≡ 16 * n → me.0.stage ≡ Drew q → me.1 ≡ (q, Some x) ∷ rest me.1 → 0 < me.0.parts
    → Allows (Kept n) slots id me (n + q) (λ _. 1) (plays.published (step slots (n + q) 1 0 maybe.none) me)
publishes n slots id q x me count stage has some_part s k long at small =
    let w = having_put me.0 (q / 16, x) in
    let place : n + q - slots / 16 ≡ q = omega (arith, count) in (
      w,
      gives,
      tt,
      subst (λ cs. Kept n record { words = set s.words (n + q) 1; homes = put_back s.homes cs; views = set s.views id w }) (sym has) (publish_at n id q x (rest me.1) s me.0 k at stage some_part),
      λ y lies_there. let same : x ≡ y = same_item x y (rest_same me.1 q (Some x) (Some y) has (subst (λ r. me.1 ≡ (r, Some y) ∷ rest me.1) place lies_there)) in
          (ap (having_put me.0) (λ i. (sym place i / 16, same i)), refl),
    )

pub publishes_at : (n slots id q i : ℕ) (x : Item) (me : Standing) → i ≡ n + q → slots ≡ 16 * n → me.0.stage ≡ Drew q → me.1 ≡ (q, Some x) ∷ rest me.1 → 0 < me.0.parts
    → Allows (Kept n) slots id me i (λ _. 1) (plays.published (step slots i 1 0 maybe.none) me)
publishes_at n slots id q i x me e count stage has some_part =
    subst (λ z. Allows (Kept n) slots id me z (λ _. 1) (plays.published (step slots z 1 0 maybe.none) me)) (sym e) (publishes n slots id q x me count stage has some_part)
