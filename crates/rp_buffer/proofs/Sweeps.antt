-- The steps of a collect keep the rule.
use Rattle.std.proofs.Common.{◌≡◌, ◌≢◌, ℕ, zero, suc, ◌+◌, ◌-◌, ◌*◌, ◌/◌, ◌%◌, ◌<◌, ◌≤◌, cond, eqb, eq-eqb, ne_eqb, Bool, true, false, List, [], ◌∷◌, ◌++◌, length, get_or, set, sum_by, refl, ap, sym, ◌∙◌, arith, subst, slice_index, slice_index_or, slice_set, Option, Some, None}
use Rattle.std.proofs.lemmas.List.{length-set, get_or-set_same, get_or-set_other}
use Rattle.std.proofs.lemmas.List.Sums.{sum_by_push}
use mathlib.Core.Option as maybe
use mathlib.Core.Logic.{dite}
use native.Mathlib.Decide.{ℕ_discrete}
use prog.Atomic.{either}
use lib.ListN.{get_elem?}
use Rattle.atomic_table.specs.Table.{State, Me, Step, step, Act, keeps, takes, gives, Valid, Allows, stepped, carried_after, put_back, rest}
use Rattle.atomic_table.proofs.Lists.{exchanged, set_here, set_else}
use Rattle.rp_base.specs.declared.items.Item.{Item}
use Rattle.rp_buffer.specs.declared.rule.Hand.{Hand}
use Rattle.rp_buffer.specs.declared.rule.Stage.{Stage}
use Rattle.rp_buffer.specs.declared.rule.Stage.TheVariants.{Idle, Drew, Taking}
use Rattle.rp_buffer.specs.declared.rule.Look.{Look}
use Rattle.rp_buffer.specs.declared.rule.Look.TheVariants.{Loaded, Asked, Found, Missed}
use Rattle.rp_buffer.specs.declared.rights.Right.{Right}
use Rattle.rp_buffer.specs.declared.rights.Keep.{Keep}
use Rattle.rp_buffer.specs.declared.rights.Keep.TheVariants.{Open, Closed}
use Rattle.rp_buffer.specs.Hands.{Put, hand, right_at, keep_in, keep_at, with_keep, none_gone, gone_too, IsCarried}
use Rattle.rp_buffer.specs.Slots.{Phase, free, drawn, published, taking, taken, Ring, face, up, InPhase, AtStage, KeepOf, RightOf, Knows, weight, right_on, lies, left_in, weight_put, weight_taken, Kept}
use Rattle.rp_buffer.specs.Plays as plays
use Rattle.rp_buffer.specs.Plays.{Standing, noted, with_stage, having_taken, having_shut, having_emptied, having_opened}
use Rattle.rp_buffer.specs.Machine.{shown, IsReached}
use Rattle.rp_buffer.proofs.Showing.{wiped, wiped_here, wiped_else, after_shut, after_taken, after_home, after_opened, ring_away, wiped_away}
use Rattle.rp_buffer.proofs.Places.{put, put_here, put_else, at_put, left_set, left_alike}
use Rattle.rp_buffer.proofs.Frames.{changed, placed, same_words, knows_stays, home_stays, stage_stays, keep_stays, right_stays, IsMine}
use Rattle.rp_buffer.proofs.Keeping.{same_weight, all_kept, theirs_kept, kept_known, none_there}
use Rattle.rp_buffer.proofs.Steps.{stands}

no_bool : (b : Bool) → b ≡ false → b ≡ true → ⊥
no_bool b low high = cc

face_open : (ring : Ring) → ring.is_open ≡ true → face ring ≡ ring.drawn_to
face_open ring is = by_open ring.is_open ring.drawn_to is
  where
    by_open : (o : Bool) (d : ℕ) → o ≡ true → face (record { drawn_to = d; is_open = o }) ≡ d
    by_open true d is = refl
    by_open false d is = absurd (cc)

-- what is kept of other buffers stays so where one counter changes
ring_else : (rings : ℕ → Ring) (after : Ring) (phases : ℕ → Phase) (b c : ℕ) (keep : Keep) → c ≢ b → KeepOf (rings c) phases c keep → KeepOf (put rings b after c) phases c keep
ring_else rings after phases b c keep away known = subst (λ (ring : Ring). KeepOf ring phases c keep) (sym (put_else rings b c after away)) known

-- the swap that closes
pub shuts : (n slots id b : ℕ) (me : Standing) → b < n → IsCarried (right_at me.0.rights (b / 8)) → keep_at me.0.rights b ≡ Open
    → Allows (Kept n) slots id me b (λ _. 16) (plays.shut (step slots b 16 0 maybe.none) me)
shuts n slots id b me low is keep s k long at small =
    let found : ℕ = slice_index s.words b in
    let v = me.0 in
    let w = having_shut v b found in
    let known = k.each_pass id v at in
    let opened : (k.rings b).is_open ≡ true = kept_known n id b k.rings k.phases v Open known is keep in
    let counter = k.counters b low in
    let count : found ≡ (k.rings b).drawn_to = counter.1 ∙ face_open (k.rings b) opened in
    let after : Ring = record { drawn_to = (k.rings b).drawn_to; is_open = false } in
    let rings : ℕ → Ring = put k.rings b after in
    let words : List ℕ = set s.words b 16 in
    let wide = k.wide in
    let most = counter.0 in (
      w,
      keeps,
      tt,
      changed n id s v w k rings k.phases words s.homes at
          (length-set s.words b 16 ∙ k.wide) k.long
          (λ c fits. at_put (λ x (ring : Ring). (ring.drawn_to ≤ 16) × (slice_index words x ≡ face ring)) k.rings b after c
          (λ e. (most, subst (λ x. slice_index words x ≡ 16) (sym e) (get_or-set_same s.words b 16 0 (omega (arith, low, wide)))))
          (λ away. ((k.counters c fits).0, get_or-set_other s.words b c 16 0 away ∙ (k.counters c fits).1)))
          (λ o fits. (
            get_or-set_other s.words b (n + o) 16 0 (λ same. omega (arith, same, low)) ∙ (k.places o fits).0,
            at_put (λ x (ring : Ring). x ≡ o / 16 → InPhase ring.drawn_to s.homes o (k.phases o)) k.rings b after (o / 16)
                (λ e same. subst (λ c. InPhase (k.rings c).drawn_to s.homes o (k.phases o)) e (k.places o fits).1)
                (λ away same. (k.places o fits).1) refl,
          ))
          (λ c fits. dite (ℕ_discrete c b)
          (λ e. subst (λ z. IsReached (shown rings k.phases z)) (sym e) (after_shut k.rings k.phases b after refl refl (k.machine b low)))
          (λ away. subst IsReached (ring_away k.rings k.phases b c after away) (k.machine c fits)))
          (record {
            stage = known.stage;
            rights = all_kept n k.rings rings k.phases k.phases v.rights b (Closed found none_gone) is
                (λ c x away was. ring_else k.rings after k.phases b c x away was)
                (subst (λ (ring : Ring). KeepOf ring k.phases b (Closed found none_gone)) (sym (put_here k.rings b b after refl))
                (refl, sym count, refl, λ p fits gone. absurd (no_bool (slice_index_or none_gone p false) (none_there 16 p) gone)))
                known.rights;
            idle = known.idle;
          })
          (λ j u away e. let theirs = k.each_pass j u e in record {
            stage = theirs.stage;
            rights = theirs_kept n s k rings k.phases id j b v u at e away is (λ c x else was. ring_else k.rings after k.phases b c x else was);
            idle = theirs.idle;
          })
          refl
          (λ i. let same = same_weight v.rights b i (Closed found none_gone) is in omega (arith, same))
          (λ h. refl),
      (subst (λ x. x ≤ 16) (sym count) most, refl, refl),
    )

is_published : (d : ℕ) (homes : List (maybe.Option (Option Item))) (k u : ℕ) (p : Phase) → u ≡ up p → u ≡ 1 → InPhase d homes k p
    → (x : Item) × (p ≡ published x) × (get_elem? homes k ≡ maybe.some (maybe.some (Some x))) × (k % 16 < d)
is_published d homes k u free e one is = absurd (omega (arith, e, one))
is_published d homes k u (drawn j) e one is = absurd (omega (arith, e, one))
is_published d homes k u (published x) e one is = (x, refl, is.1, is.0)
is_published d homes k u (taking j) e one is = absurd (omega (arith, e, one))
is_published d homes k u taken e one is = absurd (omega (arith, e, one))

take_hits : (n id q : ℕ) (x : Item) (s : State (Option Item) Hand) (v : Hand) (k : Kept n s)
    → get_elem? s.views id ≡ maybe.some v → q < 16 * n → k.phases q ≡ published x → q % 16 < (k.rings (q / 16)).drawn_to → 0 < v.parts
    → Kept n record { words = set s.words (n + q) 0; homes = set s.homes q maybe.none; views = set s.views id (having_taken v q x) }
take_hits n id q x s v k at low is_there fits some_part =
    let known = k.each_pass id v at in
    placed n id q 0 (taking id) s (set s.homes q maybe.none) v (having_taken v q x) k at low
    (subst (λ p. IsMine id p) (sym is_there) tt) refl
    (length-set s.homes q maybe.none ∙ k.long)
    (λ o away. set_else s.homes q o maybe.none away)
    fits
    (after_taken k.rings k.phases q id x is_there)
    (record {
      stage = (low, put_here k.phases q q (taking id) refl);
      rights = λ i. right_stays n k.rings k.phases q i (taking id) (right_at v.rights i) (λ e. cc) (known.rights i);
      idle = λ none_left. absurd (omega (arith, none_left, some_part));
    })
    refl (λ i. omega arith)
    (λ h. let was : lies h q (k.phases q) ≡ h (q / 16, x) = ap (lies h q) is_there in
    let grew = sum_by_push h v.taken (q / 16, x) in
    omega (arith, was, grew))

-- the exchange that takes
pub takes_one : (n slots id q : ℕ) (me : Standing) → slots ≡ 16 * n → q < 16 * n → 0 < me.0.parts
    → Allows (Kept n) slots id me (n + q) (λ z. either (eqb z 1) 0 z) (plays.took (step slots (n + q) 1 0 maybe.none) me)
takes_one n slots id q me count low some_part s k long at small =
    let found : ℕ = slice_index s.words (n + q) in
    let place : q ≡ n + q - slots / 16 = omega (arith, count) in
    exchanged found 1 0 (λ z. (w : Hand) × (a : Act (Option Item)) × Valid s.homes me.1 a × Kept n (stepped s (n + q) z id me.1 w a) × plays.took (step slots (n + q) 1 0 maybe.none) me found (w, carried_after me.1 a))
    (λ hit. let there = k.places q low in
    let is = is_published (k.rings (q / 16)).drawn_to s.homes q found (k.phases q) there.0 hit there.1 in
    let x = is.0 in (
      having_taken me.0 q x,
      takes q (Some x),
      is.2,
      take_hits n id q x s me.0 k at low is.1 is.3 some_part,
      ((λ _. (x, ap (λ y. having_taken me.0 y x) place, ap (λ y. (y, Some x) ∷ me.1) place)), (λ miss. absurd (miss hit))),
    ))
    (λ miss. (
      noted me.0 (Missed q found),
      keeps,
      tt,
      stands n id (n + q) (Missed q found) s me.0 k at,
      ((λ hit. absurd (miss hit)), (λ _. (ap (λ y. noted me.0 (Missed y found)) place, refl))),
    ))

taking_low : (d : ℕ) (homes : List (maybe.Option (Option Item))) (k id : ℕ) (p : Phase) → p ≡ taking id → InPhase d homes k p → k % 16 < d
taking_low d homes k id free e is = absurd (cc)
taking_low d homes k id (drawn j) e is = absurd (cc)
taking_low d homes k id (published x) e is = absurd (cc)
taking_low d homes k id (taking j) e is = is
taking_low d homes k id taken e is = absurd (cc)

-- one more place of a closed buffer is gone
gone_now : (ring : Ring) (phases : ℕ → Phase) (b q count : ℕ) (gone : List Bool) → b ≡ q / 16 → KeepOf ring phases b (Closed count gone)
    → KeepOf ring (put phases q taken) b (gone_too (Closed count gone) (q % 16))
gone_now ring phases b q count gone e known =
    let long = known.2 in (
      known.0,
      known.1,
      length-set gone (q % 16) true ∙ known.2,
      λ p fits is. dite (ℕ_discrete p (q % 16))
          (λ same. put_here phases q (16 * b + p) taken (omega (arith, same, e)))
          (λ away. put_else phases q (16 * b + p) taken (λ same. away (omega (arith, same, fits, e)))
          ∙ known.3 p fits (sym (get_or-set_other gone (q % 16) p true false away) ∙ is)),
    )

empty_at : (n id q : ℕ) (count : ℕ) (gone : List Bool) (tl : List (ℕ × Option Item)) (s : State (Option Item) Hand) (v : Hand) (k : Kept n s)
    → get_elem? s.views id ≡ maybe.some v → v.stage ≡ Taking q → 0 < v.parts → IsCarried (right_at v.rights (q / 16 / 8)) → keep_at v.rights (q / 16) ≡ Closed count gone
    → Kept n record { words = set s.words (n + q) (slice_index s.words (n + q)); homes = put_back s.homes ((q, None) ∷ tl); views = set s.views id (having_emptied v q) }
empty_at n id q count gone tl s v k at stage some_part is keep =
    let known = k.each_pass id v at in
    let mine : AtStage n k.phases id (Taking q) = subst (λ st. AtStage n k.phases id st) stage known.stage in
    let long = k.long in
    let low = mine.0 in
    let b : ℕ = q / 16 in
    placed n id q (slice_index s.words (n + q)) taken s (set s.homes q (maybe.some None)) v (having_emptied v q) k at mine.0
    (subst (λ p. IsMine id p) (sym mine.1) refl) ((k.places q mine.0).0 ∙ ap up mine.1)
    (length-set s.homes q (maybe.some None) ∙ k.long)
    (λ o away. set_else s.homes q o (maybe.some None) away)
    (taking_low (k.rings b).drawn_to s.homes q id (k.phases q) mine.1 (k.places q mine.0).1, set_here s.homes q (maybe.some None) (omega (arith, long, low)))
    (after_home k.rings k.phases q id mine.1)
    (record {
      stage = tt;
      rights = all_kept n k.rings k.rings k.phases (put k.phases q taken) v.rights b (gone_too (keep_at v.rights b) (q % 16)) is
          (λ c x away was. keep_stays (k.rings c) k.phases q c taken x (λ e. let d = mine.1 in cc) was)
          (subst (λ (x : Keep). KeepOf (k.rings b) (put k.phases q taken) b (gone_too x (q % 16))) (sym keep)
          (gone_now (k.rings b) k.phases b q count gone refl (kept_known n id b k.rings k.phases v (Closed count gone) known is keep)))
          known.rights;
      idle = λ none_left. absurd (omega (arith, none_left, some_part));
    })
    refl
    (λ i. let same = same_weight v.rights b i (gone_too (keep_at v.rights b) (q % 16)) is in omega (arith, same))
    (λ h. let was : lies h q (k.phases q) ≡ 0 = ap (lies h q) mine.1 in omega (arith, was))

-- the load that brings the emptied slot home
pub returns_one : (n slots id q count : ℕ) (gone : List Bool) (me : Standing) → slots ≡ 16 * n → me.0.stage ≡ Taking q → me.1 ≡ (q, None) ∷ rest me.1 → 0 < me.0.parts
    → IsCarried (right_at me.0.rights (q / 16 / 8)) → keep_at me.0.rights (q / 16) ≡ Closed count gone
    → Allows (Kept n) slots id me (n + q) (λ z. z) (plays.returned (step slots (n + q) 0 0 maybe.none) me)
returns_one n slots id q count gone me slots_are stage has some_part is keep s k long at small =
    let w = having_emptied me.0 q in
    let place : q ≡ n + q - slots / 16 = omega (arith, slots_are) in (
      w,
      gives,
      tt,
      subst (λ cs. Kept n record { words = set s.words (n + q) (slice_index s.words (n + q)); homes = put_back s.homes cs; views = set s.views id w }) (sym has)
          (empty_at n id q count gone (rest me.1) s me.0 k at stage some_part is keep),
      (ap (having_emptied me.0) place, refl),
    )

-- a place of a buffer is at rest: taken, or not drawn
at_rest : (d : ℕ) (homes : List (maybe.Option (Option Item))) (k : ℕ) (p : Phase) → (k % 16 < d → p ≡ taken) → InPhase d homes k p
    → (up p ≡ 0) × (get_elem? homes k ≡ maybe.some (maybe.some None)) × ((j : ℕ) → p ≢ drawn j) × ((j : ℕ) → p ≢ taking j) × ((h : Put → ℕ) → lies h k p ≡ 0)
at_rest d homes k free rests is = (refl, is.1, (λ j e. cc), (λ j e. cc), (λ h. refl))
at_rest d homes k (drawn i) rests is = absurd (let e = rests is in cc)
at_rest d homes k (published x) rests is = absurd (let e = rests is.0 in cc)
at_rest d homes k (taking i) rests is = absurd (let e = rests is in cc)
at_rest d homes k taken rests is = (refl, is.1, (λ j e. cc), (λ j e. cc), (λ h. refl))

-- what is kept of other buffers stays so where one is wiped
wiped_keep : (ring : Ring) (phases : ℕ → Phase) (b c : ℕ) (keep : Keep) → c ≢ b → KeepOf ring phases c keep → KeepOf ring (wiped phases b) c keep
wiped_keep ring phases b c Open away known = known
wiped_keep ring phases b c (Closed count gone) away known =
    (known.0, known.1, known.2, λ p fits is. wiped_else phases b (16 * c + p) (λ same. away (omega (arith, same, fits))) ∙ known.3 p fits is)

wiped_stage : (n : ℕ) (phases : ℕ → Phase) (b j : ℕ) (stage : Stage)
    → ((k : ℕ) → k < 16 * n → k / 16 ≡ b → (phases k ≢ drawn j) × (phases k ≢ taking j))
    → AtStage n phases j stage → AtStage n (wiped phases b) j stage
wiped_stage n phases b j Idle none_has at = tt
wiped_stage n phases b j (Drew k) none_has at = (at.0, wiped_else phases b k (λ same. (none_has k at.0 same).0 at.1) ∙ at.1)
wiped_stage n phases b j (Taking k) none_has at = (at.0, wiped_else phases b k (λ same. (none_has k at.0 same).1 at.1) ∙ at.1)

-- the swap that opens a buffer again, once each place that was drawn is gone
pub reopens : (n slots id b count : ℕ) (gone : List Bool) (me : Standing) → b < n → IsCarried (right_at me.0.rights (b / 8)) → keep_at me.0.rights b ≡ Closed count gone
    → ((p : ℕ) → p < 16 → p < count → slice_index_or gone p false ≡ true)
    → Allows (Kept n) slots id me b (λ _. 0) (plays.opened (step slots b 0 0 maybe.none) me)
reopens n slots id b count gone me low is keep all_gone s k long at small =
    let v = me.0 in
    let w = having_opened v b in
    let known = k.each_pass id v at in
    let closed : KeepOf (k.rings b) k.phases b (Closed count gone) = kept_known n id b k.rings k.phases v (Closed count gone) known is keep in
    let drawn_is = closed.1 in
    let after : Ring = record { drawn_to = 0; is_open = true } in
    let rings : ℕ → Ring = put k.rings b after in
    let phases : ℕ → Phase = wiped k.phases b in
    let words : List ℕ = set s.words b 0 in
    let wide = k.wide in
    let rests : (o : ℕ) → o < 16 * n → o / 16 ≡ b → (up (k.phases o) ≡ 0) × (get_elem? s.homes o ≡ maybe.some (maybe.some None)) × ((j : ℕ) → k.phases o ≢ drawn j) × ((j : ℕ) → k.phases o ≢ taking j) × ((h : Put → ℕ) → lies h o (k.phases o) ≡ 0)
    = λ o fits of_b. at_rest (k.rings (o / 16)).drawn_to s.homes o (k.phases o)
    (λ in_ring. let drawn_low : o % 16 < (k.rings b).drawn_to = subst (λ c. o % 16 < (k.rings c).drawn_to) of_b in_ring in
    let number : 16 * b + o % 16 ≡ o = omega (arith, of_b) in
    subst (λ c. k.phases c ≡ taken) number (closed.3 (o % 16) (omega arith) (all_gone (o % 16) (omega arith) (omega (arith, drawn_low, drawn_is)))))
    (k.places o fits).1 in (
      w,
      keeps,
      tt,
      changed n id s v w k rings phases words s.homes at
          (length-set s.words b 0 ∙ k.wide) k.long
          (λ c fits. at_put (λ x (ring : Ring). (ring.drawn_to ≤ 16) × (slice_index words x ≡ face ring)) k.rings b after c
          (λ e. (omega arith, subst (λ x. slice_index words x ≡ 0) (sym e) (get_or-set_same s.words b 0 0 (omega (arith, low, wide)))))
          (λ away. ((k.counters c fits).0, get_or-set_other s.words b c 0 0 away ∙ (k.counters c fits).1)))
          (λ o fits. dite (ℕ_discrete (o / 16) b)
          (λ of_b. let rest_is = rests o fits of_b in
          let ring_is : put k.rings b after (o / 16) ≡ after = put_here k.rings b (o / 16) after of_b in
          let phase_is : wiped k.phases b o ≡ free = wiped_here k.phases b o of_b in
          subst (λ (p : Phase). (slice_index words (n + o) ≡ up p) × InPhase (rings (o / 16)).drawn_to s.homes o p) (sym phase_is) (
            get_or-set_other s.words b (n + o) 0 0 (λ same. omega (arith, same, low)) ∙ (k.places o fits).0 ∙ rest_is.0,
            (subst (λ (ring : Ring). ring.drawn_to ≤ o % 16) (sym ring_is) (omega arith), rest_is.1),
          ))
          (λ away. subst (λ (p : Phase). (slice_index words (n + o) ≡ up p) × InPhase (rings (o / 16)).drawn_to s.homes o p) (sym (wiped_else k.phases b o away)) (
            get_or-set_other s.words b (n + o) 0 0 (λ same. omega (arith, same, low)) ∙ (k.places o fits).0,
            subst (λ (ring : Ring). InPhase ring.drawn_to s.homes o (k.phases o)) (sym (put_else k.rings b (o / 16) after away)) (k.places o fits).1,
          )))
          (λ c fits. dite (ℕ_discrete c b)
          (λ e. subst (λ z. IsReached (shown rings phases z)) (sym e)
          (after_opened k.rings k.phases b after refl refl (k.counters b low).0
          (λ p fits low_p. closed.3 p fits (all_gone p fits (omega (arith, low_p, drawn_is)))) (k.machine b low)))
          (λ away. subst IsReached (wiped_away k.rings k.phases b c after away) (k.machine c fits)))
          (record {
            stage = wiped_stage n k.phases b id v.stage (λ o fits of_b. ((rests o fits of_b).2 id, (rests o fits of_b).3 id)) known.stage;
            rights = all_kept n k.rings rings k.phases phases v.rights b Open is
                (λ c x away was. ring_else k.rings after phases b c x away (wiped_keep (k.rings c) k.phases b c x away was))
                (subst (λ (ring : Ring). ring.is_open ≡ true) (sym (put_here k.rings b b after refl)) refl)
                known.rights;
            idle = known.idle;
          })
          (λ j u away e. let theirs = k.each_pass j u e in record {
            stage = wiped_stage n k.phases b j u.stage (λ o fits of_b. ((rests o fits of_b).2 j, (rests o fits of_b).3 j)) theirs.stage;
            rights = theirs_kept n s k rings phases id j b v u at e away is
                (λ c x else was. ring_else k.rings after phases b c x else (wiped_keep (k.rings c) k.phases b c x else was));
            idle = theirs.idle;
          })
          refl
          (λ i. let same = same_weight v.rights b i Open is in omega (arith, same))
          (λ h. let l = left_alike (16 * n) k.phases phases h (λ o fits. dite (ℕ_discrete (o / 16) b)
          (λ of_b. (rests o fits of_b).4 h ∙ ap (lies h o) (sym (wiped_here k.phases b o of_b)))
          (λ else. ap (lies h o) (sym (wiped_else k.phases b o else)))) in omega (arith, l)),
      (refl, refl),
    )

pub takes_at : (n slots id q i : ℕ) (me : Standing) → i ≡ n + q → slots ≡ 16 * n → q < 16 * n → 0 < me.0.parts
    → Allows (Kept n) slots id me i (λ z. either (eqb z 1) 0 z) (plays.took (step slots i 1 0 maybe.none) me)
takes_at n slots id q i me e count low some_part =
    subst (λ o. Allows (Kept n) slots id me o (λ z. either (eqb z 1) 0 z) (plays.took (step slots o 1 0 maybe.none) me)) (sym e) (takes_one n slots id q me count low some_part)

pub returns_at : (n slots id q i count : ℕ) (gone : List Bool) (me : Standing) → i ≡ n + q → slots ≡ 16 * n → me.0.stage ≡ Taking q → me.1 ≡ (q, None) ∷ rest me.1 → 0 < me.0.parts
    → IsCarried (right_at me.0.rights (q / 16 / 8)) → keep_at me.0.rights (q / 16) ≡ Closed count gone
    → Allows (Kept n) slots id me i (λ z. z) (plays.returned (step slots i 0 0 maybe.none) me)
returns_at n slots id q i count gone me e slots_are stage has some_part is keep =
    subst (λ o. Allows (Kept n) slots id me o (λ z. z) (plays.returned (step slots o 0 0 maybe.none) me)) (sym e) (returns_one n slots id q count gone me slots_are stage has some_part is keep)
