-- What is kept of the nodes, along the worker's visits.
use Rattle.std.proofs.Common.{◌≡◌, ◌≢◌, ℕ, zero, suc, ◌+◌, ◌-◌, ◌<◌, ◌≤◌, ⊎_elim, Bool, true, false, not, List, [], ◌∷◌, ◌++◌, append_assoc, length, length-append, take, drop, refl, sym, ap, subst, ◌∙◌, arith, slice_get, slice_set, Option, Some, None, Result, Ok, Err}
use Rattle.std.proofs.lemmas.Bool.{cases_eq}
use Rattle.rp_base.specs.declared.memory.NoMemory.{NoMemory}
use Rattle.rp_events.specs.declared.parcels.Parcel.{Parcel}
use Rattle.rp_request.specs.Applied.{AppliedState}
use Rattle.rp_journals.specs.Growth.{Begins, Grows}
use Rattle.rp_journals.proofs.Growing.{some_node}
use Rattle.rp_journals.proofs.Lists.{begins_refl, begins_trans, take_begins}
use Rattle.rp_events.specs.Nodes.{Node}
use Rattle.rp_events.specs.Worlds.{World, node_of}
use Rattle.rp_race.specs.declared.rules.RaceRules.{RaceRules}
use Rattle.rp_race.specs.Gives.{OnlyAdmitted}
use Rattle.rp_race.specs.Owed.{heard_from}
use Rattle.rp_race.specs.Rounds.{Stage, between, handed_over, stage_of}
use Rattle.rp_race.specs.Rounds as rounds
use Rattle.rp_switch.specs.Gifts.{is_between}
use Rattle.rp_switch.specs.Views.{Rounds, Knowledge, right_at}
use Rattle.rp_serving.specs.declared.lanes.Lane.{Lane}
use Rattle.rp_serving.specs.declared.mails.Mail.{Mail}
use Rattle.rp_serving.specs.Letters.{letters_behind, letters_of, numbers, AreLeft}
use Rattle.rp_serving.specs.Mails.{lane_in, IsLaneOf, IsUpToDate, IsMailOf, IsCopied, IsCopiedTo}
use Rattle.rp_serving.proofs.Lettered.{letters_further, are_left, left_same}
use Rattle.rp_bench.specs.declared.stations.Station.{Station}
use Rattle.rp_bench.specs.Stations.{Copies, Serves}
use Rattle.rp_bench.proofs.Onward.{rounds_is}
use Rattle.rp_bench.proofs.Visited.{Visit, seen_here, seen_there, saw_before, grew, only_admitted, rounds_stay}

pub between_is : (st : Stage) → is_between st ≡ true → st ≡ between
between_is rounds.between e = refl
between_is (rounds.delivering from) e = absurd cc
between_is (rounds.flushing ranges) e = absurd cc
between_is (rounds.collected ranges range) e = absurd cc
between_is rounds.applying e = absurd cc
between_is rounds.broken e = absurd cc

pub numbered : (w : World) (k : ℕ) (m : Node) → node_of w k ≡ Some m → 1 ≤ k
numbered w zero m saw = absurd cc
numbered w (suc place) m saw = omega arith

some_lane : (a b : Lane) → ◌≡◌ {A = Option Lane} (Some a) (Some b) → a ≡ b
some_lane a b e = cc

-- A lane goes on with its sender.
pub begins_long : {X : Type 0} (xs ys : List X) → Begins xs ys → length xs ≤ length ys
begins_long xs ys b = let l : length ys ≡ length xs + length b.more = ap length b.is ∙ length-append xs b.more in omega (arith, l)

lane_on : (rules : RaceRules) (from to : ℕ) (m n later after : Node) (lane : Lane) → Begins m.sent later.sent → heard_from from after.journal ≡ heard_from from n.journal
    → IsLaneOf rules from to m n lane → IsLaneOf rules from to later after lane
lane_on rules from to m n later after lane grows same is = record {
  within = let long = begins_long m.sent later.sent grows in let w = is.within in omega (arith, long, w);
  left = subst (λ sent. AreLeft from after lane.letters.list (letters_of rules from to sent)) (sym (take_begins lane.copied m.sent later.sent grows is.within))
      (left_same from n after lane.letters.list (letters_of rules from to (take lane.copied m.sent)) is.left same);
}

-- the senders are those that were seen, later on
abbrev pub HaveGrown : (to : ℕ) → World → World → Type 0
HaveGrown to seen later = (from : ℕ) (x : Node) → node_of later from ≡ Some x → from ≢ to → (m : Node) × (node_of seen from ≡ Some m) × Begins m.sent x.sent

pub mail_on : (rules : RaceRules) (to : ℕ) (seen later : World) (n after : Node) (mail : Mail) → HaveGrown to seen later
    → ((from : ℕ) → heard_from from after.journal ≡ heard_from from n.journal) → handed_over after.journal ≡ handed_over n.journal
    → IsMailOf rules to seen n mail → IsMailOf rules to later after mail
mail_on rules to seen later n after mail grew_ heard handed is = record {
  node = is.node;
  lanes = λ from x lane saw apart here.
      let b = grew_ from x saw apart in
      lane_on rules from to b.0 n x after lane b.2 (heard from) (is.lanes from b.0 lane b.1 apart here);
  handed = is.handed ∙ sym handed;
}

-- A copy.
take_nil : {X : Type 0} (k : ℕ) → ◌≡◌ {A = List X} (take k []) []
take_nil zero = refl
take_nil (suc k) = refl

take_more : {X : Type 0} (k j : ℕ) (xs : List X) → k ≤ j → take j xs ≡ take k xs ++ take (j - k) (drop k xs)
take_more zero j xs low = ap (λ i. take i xs) (let z : j ≡ j - 0 = omega arith in z)
take_more (suc k) zero xs low = absurd (omega (arith, low))
take_more (suc k) (suc j) [] low = sym (take_nil (suc j - suc k))
take_more (suc k) (suc j) (x ∷ xs) low =
    ap (λ l. x ∷ l) (take_more k j xs (omega (arith, low))) ∙ ap (λ i. x ∷ (take k xs ++ take i (drop k xs))) (let z : j - k ≡ suc j - suc k = omega arith in z)

take_long : {X : Type 0} (k : ℕ) (xs : List X) → k ≤ length xs → length (take k xs) ≡ k
take_long zero xs low = refl
take_long (suc k) [] low = absurd (omega (arith, low))
take_long (suc k) (x ∷ xs) low = let t = take_long k xs (omega (arith, low)) in omega (arith, t)

take_drop : {X : Type 0} (k : ℕ) (xs : List X) → xs ≡ take k xs ++ drop k xs
take_drop zero xs = refl
take_drop (suc k) [] = refl
take_drop (suc k) (x ∷ xs) = ap (λ l. x ∷ l) (take_drop k xs)

copied_to : (rules : RaceRules) (from to : ℕ) (m : Node) (before after : Lane) (copied : Result (Unit {0}) NoMemory) → IsCopied rules from to m before copied after
    → IsCopiedTo rules from to m before after
copied_to rules from to m before after (Ok done) is = is.0
copied_to rules from to m before after (Err want) is = is

lane_more : (rules : RaceRules) (from to : ℕ) (m n : Node) (before after : Lane) → IsLaneOf rules from to m n before → IsCopiedTo rules from to m before after
    → IsLaneOf rules from to m n after
lane_more rules from to m n before after is c =
    let k = before.copied in
    let j = after.copied in
    let h = length (heard_from from n.journal) in
    let old : List _ = letters_of rules from to (take k m.sent) in
    let more : List (Parcel AppliedState) = take (j - k) (drop k m.sent) in
    let long = take_long k m.sent is.within in
    let next : 1 + length (take k m.sent) ≡ k + 1 = omega (arith, long) in
    let all : letters_of rules from to (take j m.sent) ≡ old ++ letters_behind rules from to (k + 1) more =
    ap (letters_of rules from to) (take_more k j m.sent c.rises) ∙ letters_further rules from to 1 (take k m.sent) more
    ∙ ap (λ z. old ++ letters_behind rules from to z more) next in
    record {
      within = c.within;
      left = are_left from n (take h old) after.letters.list (letters_of rules from to (take j m.sent))
          (all ∙ ap (λ l. l ++ letters_behind rules from to (k + 1) more) (take_drop h old ∙ ap (λ l. take h old ++ l) (sym is.left.are))
          ∙ append_assoc (take h old) before.letters.list (letters_behind rules from to (k + 1) more) ∙ ap (λ l. take h old ++ l) (sym c.letters))
          is.left.heard;
    }

pub mail_copied : (rules : RaceRules) (from to : ℕ) (seen : World) (n m : Node) (mail new : Mail) (copied : Result (Unit {0}) NoMemory) → node_of seen from ≡ Some m → from ≢ to
    → IsMailOf rules to seen n mail → Copies rules from m mail copied new → IsMailOf rules to seen n new
mail_copied rules from to seen n m mail new copied has apart is c = record {
  node = c.node ∙ is.node;
  lanes = λ k x lane saw ne here. ⊎_elim
      (λ (same : k ≡ from).
      let x_is : m ≡ x = some_node m x (sym has ∙ ap (node_of seen) (sym same) ∙ saw) in
      let lane_is : c.lane.1 ≡ lane = some_lane c.lane.1 lane (sym c.lane.3 ∙ ap (λ z. lane_in new z) (sym same) ∙ here) in
      let before : IsLaneOf rules from to m n c.lane.0 = is.lanes from m c.lane.0 has apart c.lane.2 in
      let to_is : mail.node ≡ to = is.node in
      let made : IsCopiedTo rules from to m c.lane.0 c.lane.1 =
      subst (λ z. IsCopiedTo rules from z m c.lane.0 c.lane.1) to_is (copied_to rules from mail.node m c.lane.0 c.lane.1 copied c.lane.4) in
      subst (λ z. IsLaneOf rules z to x n lane) (sym same)
      (subst (λ (z : Node). IsLaneOf rules from to z n lane) x_is
      (subst (λ (z : Lane). IsLaneOf rules from to m n z) lane_is (lane_more rules from to m n c.lane.0 c.lane.1 before made))))
      (λ (away : k ≡ from → ⊥).
      let one = numbered seen k x saw in
      let two = numbered seen from m has in
      is.lanes k x lane saw ne (sym (c.others (k - 1) (λ e. away (omega (arith, e, one, two)))) ∙ here))
      (cases_eq k from);
  handed = c.handed ∙ is.handed;
}

-- a sender that the copy leaves is up to date
pub copied_all : (rules : RaceRules) (from : ℕ) (m : Node) (mail new : Mail) (lane : Lane) → Copies rules from m mail (Ok tt) new → lane_in new from ≡ Some lane → IsUpToDate m lane
copied_all rules from m mail new lane c here =
    subst (IsUpToDate m) (some_lane c.lane.1 lane (sym c.lane.3 ∙ here)) c.lane.4.1

module _ (v w : Knowledge) (node : ℕ) (at : World) (before after : Node) (s : Visit v node at before after w) (more : Begins before.sent after.sent) where
  pub grew_from : (from : ℕ) (x : Node) → node_of w.seen from ≡ Some x → (m : Node) × (node_of v.seen from ≡ Some m) × Begins m.sent x.sent
  grew_from zero x saw = absurd cc
  grew_from (suc place) x saw = ⊎_elim
      (λ (same : place ≡ node - 1).
      let b = saw_before v w node at before after s in
      let x_is : after ≡ x = some_node after x (sym (seen_here v w node at before after s) ∙ ap (slice_get w.seen) (sym same) ∙ saw) in (
        b.0,
        ap (slice_get v.seen) same ∙ b.1,
        subst (λ (z : Node). Begins b.0.sent z.sent) x_is (begins_trans b.0.sent before.sent after.sent (grew v w node at before after s b.0 b.1).sent more),
      ))
      (λ (away : place ≡ node - 1 → ⊥). (x, sym (seen_there v w node at before after s place away) ∙ saw, begins_refl x.sent))
      (cases_eq place (node - 1))

  -- for another node
  pub serves_other : (q : ℕ) (n : Node) (mail : Mail) → q ≢ node - 1 → Serves v q n mail → Serves w q n mail
  serves_other q n mail away sv = record {
    carries = rounds_stay v w node at before after s q (rounds_is (right_at v.rights q) sv.carries) (λ same. absurd (away same));
    begins = sv.begins;
    mail = subst (λ t. IsMailOf t.rules (suc q) w.seen n mail) (sym s.terms)
        (mail_on v.terms.rules (suc q) v.seen w.seen n n mail (λ from x saw apart. grew_from from x saw) (λ _. refl) refl sv.mail);
  }

-- for the node itself, given as it was
pub serves_same : (v w : Knowledge) (node : ℕ) (at : World) (before : Node) → Visit v node at before before w → (n : Node) (mail : Mail) → slice_get v.seen (node - 1) ≡ Some n
    → Serves v (node - 1) n mail → Serves w (node - 1) before mail
serves_same v w node at before s n mail saw sv =
    let right : right_at v.rights (node - 1) ≡ Rounds = rounds_is (right_at v.rights (node - 1)) sv.carries in
    let only : OnlyAdmitted n before = only_admitted v w node at before before s n saw right in
    let stage : stage_of before.journal ≡ between = only.stage (between_is (stage_of n.journal) sv.begins) in
    record {
      carries = rounds_stay v w node at before before s (node - 1) right (λ _. ap (λ st. not (is_between st)) stage);
      begins = ap is_between stage;
      mail = subst (λ t. IsMailOf t.rules (suc (node - 1)) w.seen before mail) (sym s.terms)
          (mail_on v.terms.rules (suc (node - 1)) v.seen w.seen n before mail
          (λ from x saw' apart. grew_from v w node at before before s (begins_refl before.sent) from x saw') only.heard only.handed sv.mail);
    }
