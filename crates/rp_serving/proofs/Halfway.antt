-- Deliveries half way: letters of one sender, and sender after sender.
use Rattle.std.proofs.Common.{◌≡◌, ℕ, zero, suc, ◌+◌, ◌-◌, ◌<◌, ◌≤◌, true, ⊎_elim, Option, Some, List, [], ◌∷◌, length, take, refl, sym, ap, subst, ◌∙◌, arith}
use Rattle.std.specs.Prelude.{slice_get}
use Rattle.std.proofs.lemmas.Bool.{cases_eq}
use Rattle.rp_events.specs.Nodes.{Node}
use Rattle.rp_events.specs.Worlds.{World, node_of}
use Rattle.rp_journals.proofs.Lists.{take_whole}
use Rattle.rp_race.specs.declared.rules.RaceRules.{RaceRules}
use Rattle.rp_race.specs.Rounds.{between, stage_of, handed_over, may_deliver, may_tick}
use Rattle.rp_race.specs.Owed.{heard_from, carried}
use Rattle.rp_race.specs.Gives.{HeardAll, HeardSome}
use Rattle.rp_switch.specs.Views.{Knowledge}
use Rattle.rp_serving.specs.declared.lanes.Lane.{Lane}
use Rattle.rp_serving.specs.declared.letters.Letter.{Letter}
use Rattle.rp_serving.specs.declared.mails.Mail.{Mail}
use Rattle.rp_serving.specs.Inside.{IsUnderWay}
use Rattle.rp_serving.specs.Letters.{letters_of, AreLeft}
use Rattle.rp_serving.specs.Mails.{lane_in, IsLaneOf, IsUpToDate, IsMailOf, IsWhole, IsEmptiedLane, IsEmptied}
use Rattle.rp_serving.specs.Playing.{taken_from}
use Rattle.rp_serving.specs.Turns.{IsLeftOf, IsNextOf, Delivers, DeliversAll}
use Rattle.rp_serving.proofs.Lettered.{left_after, left_none, left_same, left_begins}
use Rattle.rp_serving.proofs.Went.{deliver_later, deliver_tick}

-- of a sender's letters these are left
pub record FromLeft (v : Knowledge) (node from : ℕ) (n now : Node) (left : List Letter) : Type 0 where
  pub under_way : IsUnderWay v.terms.rules node (taken_from v) v.seen now
  pub left_is : IsLeftOf v node from now left
  pub others : (k : ℕ) → (k ≡ from → ⊥) → heard_from k now.journal ≡ heard_from k n.journal
  pub handed : handed_over now.journal ≡ handed_over n.journal
  pub stage : may_deliver from (stage_of now.journal) ≡ true

pub from_first : (v : Knowledge) (node from : ℕ) (n : Node) (letters same : List Letter) → letters ≡ same → IsUnderWay v.terms.rules node (taken_from v) v.seen n → IsLeftOf v node from n letters
    → may_deliver from (stage_of n.journal) ≡ true → FromLeft v node from n n same
from_first v node from n letters same is u left stage = subst (FromLeft v node from n n) is (record {
  under_way = u;
  left_is = left;
  others = λ k ne. refl;
  handed = refl;
  stage = stage;
})

pub from_is : (v : Knowledge) (node from : ℕ) (n now : Node) (left same : List Letter) → left ≡ same → FromLeft v node from n now left → FromLeft v node from n now same
from_is v node from n now left same is f = subst (FromLeft v node from n now) is f

pub from_next : (v : Knowledge) (node from : ℕ) (n now : Node) (l : Letter) (left : List Letter) → FromLeft v node from n now (l ∷ left) → IsNextOf v node from now l
from_next v node from n now l left f = record { rest = left; left = f.left_is }

pub from_more : (v : Knowledge) (node from : ℕ) (n now new : Node) (l : Letter) (left : List Letter) → FromLeft v node from n now (l ∷ left) → Delivers from l now new
    → IsUnderWay v.terms.rules node (taken_from v) v.seen new → FromLeft v node from n new left
from_more v node from n now new l left f d u = record {
  under_way = u;
  left_is = record {
    m = f.left_is.m;
    saw = f.left_is.saw;
    apart = f.left_is.apart;
    left = left_after from now new l left (letters_of v.terms.rules from node f.left_is.m.sent) f.left_is.left d.heard;
  };
  others = λ k ne. d.others k ne ∙ f.others k ne;
  handed = d.handed ∙ f.handed;
  stage = d.stage;
}

some_node : (a b : Node) → ◌≡◌ {A = Option Node} (Some a) (Some b) → a ≡ b
some_node a b e = cc

pub from_all : (v : Knowledge) (node from : ℕ) (n now : Node) (left : List Letter) → length left ≡ 0 → FromLeft v node from n now left → DeliversAll v node from n now
from_all v node from n now left ended f = record {
  heard = λ m saw.
      let same : f.left_is.m ≡ m = some_node f.left_is.m m (sym f.left_is.saw ∙ saw) in
      left_none v.terms.rules from node now f.left_is.m.sent (subst (λ l. AreLeft from now l (letters_of v.terms.rules from node f.left_is.m.sent)) (nil left ended) f.left_is.left)
      ∙ ap (λ (z : Node). carried v.terms.rules from node z.sent) same;
  others = f.others;
  handed = f.handed;
  stage = f.stage;
} where
  nil : (xs : List Letter) → length xs ≡ 0 → xs ≡ []
  nil [] e = refl
  nil (x ∷ xs) e = absurd (omega (arith, e))

-- the letters of the senders up to this place are delivered
pub record Halfway (v : Knowledge) (node place : ℕ) (old mail : Mail) (n now : Node) : Type 0 where
  pub under_way : IsUnderWay v.terms.rules node (taken_from v) v.seen now
  pub gone : (from : ℕ) (m : Node) → node_of v.seen from ≡ Some m → (from ≡ node → ⊥) → from ≤ place → heard_from from now.journal ≡ carried v.terms.rules from node m.sent
  pub left_as : (from : ℕ) → place < from → heard_from from now.journal ≡ heard_from from n.journal
  pub lanes : (k : ℕ) → place ≤ k → slice_get mail.lanes k ≡ slice_get old.lanes k
  pub emptied : (from : ℕ) (before after : Lane) → 1 ≤ from → from ≤ place → (from ≡ old.node → ⊥) → lane_in old from ≡ Some before → lane_in mail from ≡ Some after → IsEmptiedLane before after
  pub owner : mail.node ≡ old.node
  pub counted : mail.handed ≡ old.handed
  pub handed : handed_over now.journal ≡ handed_over n.journal
  pub stage : may_deliver place (stage_of now.journal) ≡ true

none_below : {X : Type 0} (f : ℕ → X) (g : X) (from : ℕ) (seen : World) (m : Node) → node_of seen from ≡ Some m → from ≤ 0 → f from ≡ g
none_below f g zero seen m saw low = absurd cc
none_below f g (suc from) seen m saw low = absurd (omega (arith, low))

pub half_first : (v : Knowledge) (node : ℕ) (old : Mail) (n : Node) → IsUnderWay v.terms.rules node (taken_from v) v.seen n → stage_of n.journal ≡ between → Halfway v node 0 old old n n
half_first v node old n u stage = record {
  under_way = u;
  gone = λ from m saw ne low. none_below (λ k. heard_from k n.journal) (carried v.terms.rules from node m.sent) from v.seen m saw low;
  left_as = λ from high. refl;
  lanes = λ k high. refl;
  emptied = λ from before after low high. absurd (omega (arith, low, high));
  owner = refl;
  counted = refl;
  handed = refl;
  stage = ap (may_deliver 0) stage;
}

-- the worker's own node is passed over
pub half_own : (v : Knowledge) (node place next : ℕ) (old mail : Mail) (n now : Node) → next ≡ place + 1 → next ≡ node → old.node ≡ node → Halfway v node place old mail n now → Halfway v node next old mail n now
half_own v node place next old mail n now is own owner h = record {
  under_way = h.under_way;
  gone = λ from m saw ne low. h.gone from m saw ne (within from ne low);
  left_as = λ from high. h.left_as from (omega (arith, high, is));
  lanes = λ k high. h.lanes k (omega (arith, high, is));
  emptied = λ from before after low high ne. h.emptied from before after low (within from (λ e. ne (e ∙ sym owner)) high) ne;
  owner = h.owner;
  counted = h.counted;
  handed = h.handed;
  stage = deliver_later place next (stage_of now.journal) (omega (arith, is)) h.stage;
} where
  within : (from : ℕ) → (from ≡ node → ⊥) → from ≤ next → from ≤ place
  within from ne low = ⊎_elim
      (λ (same : from ≡ node). absurd (ne same))
      (λ (apart : from ≡ node → ⊥). let far : from ≡ next → ⊥ = λ e. apart (e ∙ own) in less far)
      (cases_eq from node) where
        less : (from ≡ next → ⊥) → from ≤ place
        less far = ⊎_elim (λ (same : from ≡ next). absurd (far same)) (λ (apart : from ≡ next → ⊥). omega (arith, apart, low, is)) (cases_eq from next)

-- there is a node of each number of those that were seen
pub there_in : {X : Type 0} (xs : List X) (i : ℕ) → i < length xs → (x : X) × (slice_get xs i ≡ Some x)
there_in [] i h = absurd (omega (arith, h))
there_in (x ∷ xs) zero h = (x, refl)
there_in (x ∷ xs) (suc i) h = there_in xs i (omega (arith, h))

some_lane : (a b : Lane) → ◌≡◌ {A = Option Lane} (Some a) (Some b) → a ≡ b
some_lane a b e = cc

-- what is to be delivered of the next sender
pub half_left : (v : Knowledge) (node place from : ℕ) (old mail : Mail) (n now : Node) (letters : List Letter) → length v.seen ≡ v.terms.nodes → IsMailOf v.terms.rules node v.seen n old → IsWhole node v.seen old
    → Halfway v node place old mail n now → from ≡ suc place → place < v.terms.nodes → (from ≡ node → ⊥)
    → (lane : Lane) × (lane_in mail from ≡ Some lane) × (letters ≡ lane.letters.list) → IsLeftOf v node from now letters
half_left v node place from old mail n now letters size of whole h is low ne had =
    let m = there_in v.seen place (omega (arith, size, low)) in
    let saw : node_of v.seen from ≡ Some m.0 = ap (node_of v.seen) is ∙ m.1 in
    let at : from - 1 ≡ place = omega (arith, is) in
    let lane : lane_in old from ≡ Some had.0 =
    ap (slice_get old.lanes) at ∙ sym (h.lanes place (omega arith)) ∙ sym (ap (slice_get mail.lanes) at) ∙ had.1 in
    let one : IsLaneOf v.terms.rules from node m.0 n had.0 = of.lanes from m.0 had.0 saw ne lane in
    let all : IsUpToDate m.0 had.0 = whole from m.0 had.0 saw ne lane in
    let sent : take had.0.copied m.0.sent ≡ m.0.sent = ap (λ k. take k m.0.sent) all.copied ∙ take_whole m.0.sent in
    let left : AreLeft from n letters (letters_of v.terms.rules from node m.0.sent) =
    subst (λ l. AreLeft from n letters (letters_of v.terms.rules from node l)) sent
    (subst (λ l. AreLeft from n l (letters_of v.terms.rules from node (take had.0.copied m.0.sent))) (sym had.2) one.left) in
    record { m = m.0; saw = saw; apart = ne; left = left_same from n now letters (letters_of v.terms.rules from node m.0.sent) left (h.left_as from (omega (arith, is))) }

pub half_stage : (v : Knowledge) (node place from : ℕ) (old mail : Mail) (n now : Node) → Halfway v node place old mail n now → from ≡ suc place → may_deliver from (stage_of now.journal) ≡ true
half_stage v node place from old mail n now h is = deliver_later place from (stage_of now.journal) (omega (arith, is)) h.stage

pub half_next : (v : Knowledge) (node place next : ℕ) (old mail after : Mail) (n now new : Node) → Halfway v node place old mail n now → next ≡ place + 1
    → DeliversAll v node next now new → IsUnderWay v.terms.rules node (taken_from v) v.seen new
    → ((before later : Lane) → lane_in mail next ≡ Some before → lane_in after next ≡ Some later → IsEmptiedLane before later)
    → ((k : ℕ) → (k ≡ next - 1 → ⊥) → slice_get after.lanes k ≡ slice_get mail.lanes k) → after.node ≡ mail.node → after.handed ≡ mail.handed
    → Halfway v node next old after n new
half_next v node place next old mail after n now new h is d u lane others owner counted = record {
  under_way = u;
  gone = λ from m saw ne low. ⊎_elim
      (λ (same : from ≡ next). ap (λ k. heard_from k new.journal) same ∙ d.heard m (ap (node_of v.seen) (sym same) ∙ saw) ∙ ap (λ k. carried v.terms.rules k node m.sent) (sym same))
      (λ (apart : from ≡ next → ⊥). d.others from apart ∙ h.gone from m saw ne (omega (arith, apart, low, is)))
      (cases_eq from next);
  left_as = λ from high. d.others from (λ e. omega (arith, e, high)) ∙ h.left_as from (omega (arith, high, is));
  lanes = λ k high. others k (λ e. omega (arith, e, high, is)) ∙ h.lanes k (omega (arith, high, is));
  emptied = λ from before later low high ne was now_is. ⊎_elim
      (λ (same : from ≡ next).
      let at : from - 1 ≡ next - 1 = ap (λ k. k - 1) same in
      let place_is : from - 1 ≡ place = omega (arith, same, is) in
      lane before later
      (sym (ap (slice_get mail.lanes) at) ∙ ap (slice_get mail.lanes) place_is ∙ h.lanes place (omega arith) ∙ sym (ap (slice_get old.lanes) place_is) ∙ was)
      (sym (ap (slice_get after.lanes) at) ∙ now_is))
      (λ (apart : from ≡ next → ⊥). h.emptied from before later low (omega (arith, apart, high, is)) ne was
      (sym (others (from - 1) (λ e. omega (arith, e, apart, low, is))) ∙ now_is))
      (cases_eq from next);
  owner = owner ∙ h.owner;
  counted = counted ∙ h.counted;
  handed = d.handed ∙ h.handed;
  stage = d.stage;
}

pub half_heard : (v : Knowledge) (node place : ℕ) (old mail : Mail) (n now : Node) → Halfway v node place old mail n now → length v.seen ≤ place → HeardAll v.terms.rules node v.seen now
half_heard v node place old mail n now h high from m saw ne = h.gone from m saw ne (let w = within v.seen from m saw in omega (arith, w, high)) where
  short : {X : Type 0} (xs : List X) (i : ℕ) (x : X) → slice_get xs i ≡ Some x → i < length xs
  short [] i x e = absurd cc
  short (y ∷ xs) zero x e = omega arith
  short (y ∷ xs) (suc i) x e = let s = short xs i x e in omega (arith, s)

  within : (seen : World) (from : ℕ) (m : Node) → node_of seen from ≡ Some m → from ≤ length seen
  within seen zero m saw = omega arith
  within seen (suc from) m saw = let s = short seen from m saw in omega (arith, s)

pub half_tick : (v : Knowledge) (node place : ℕ) (old mail : Mail) (n now : Node) → Halfway v node place old mail n now → may_tick (stage_of now.journal) ≡ true
half_tick v node place old mail n now h = deliver_tick place (stage_of now.journal) h.stage

pub half_emptied : (v : Knowledge) (node place nodes : ℕ) (old mail : Mail) (n now : Node) → Halfway v node place old mail n now → nodes ≤ place → IsEmptied nodes old mail
half_emptied v node place nodes old mail n now h high = record {
  node = h.owner;
  each = λ from before after low within ne was now_is. h.emptied from before after low (omega (arith, within, high)) ne was now_is;
}

-- at the start what was heard is a beginning of what goes to the node
pub mail_heard : (rules : RaceRules) (node : ℕ) (seen : World) (n : Node) (mail : Mail) → IsMailOf rules node seen n mail → IsWhole node seen mail
    → ((from : ℕ) (m : Node) → node_of seen from ≡ Some m → (lane : Lane) × (lane_in mail from ≡ Some lane)) → HeardSome rules node seen n
mail_heard rules node seen n mail of whole there from m saw ne =
    let l = there from m saw in
    let one : IsLaneOf rules from node m n l.0 = of.lanes from m l.0 saw ne l.1 in
    let all : IsUpToDate m l.0 = whole from m l.0 saw ne l.1 in
    let sent : take l.0.copied m.sent ≡ m.sent = ap (λ k. take k m.sent) all.copied ∙ take_whole m.sent in
    left_begins rules from node n l.0.letters.list m.sent (subst (λ s. AreLeft from n l.0.letters.list (letters_of rules from node s)) sent one.left)

pub under_way_first : (rules : RaceRules) (node : ℕ) (at seen : World) (n : Node) → node_of at node ≡ Some n → HeardSome rules node seen n → IsUnderWay rules node at seen n
under_way_first rules node at seen n has some = record { what = []; part = record { lawful = tt; order = tt; leaves = has; heard = some } }
