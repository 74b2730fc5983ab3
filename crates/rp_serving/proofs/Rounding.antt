-- The whole round: what its parts hand on, and its end.
use Rattle.std.proofs.Common.{◌≡◌, ℕ, zero, suc, ◌+◌, ◌-◌, ◌<◌, ◌≤◌, Bool, true, false, cond, not, Option, None, Some, Result, Ok, Err, List, [], ◌∷◌, ◌++◌, append-nil, length, take, refl, sym, ap, subst, ◌∙◌, arith}
use Rattle.std.specs.Prelude.{◌==◌, ◌%◌, OnOk, OnErr, All, is_some, slice_get}
use Rattle.std.specs.List.{filter}
use Rattle.std.proofs.lemmas.Bool.{and_from, leb-true, eq-eqb}
use Rattle.std.proofs.lemmas.List.Elements.{All-head, All-tail}
use Rattle.rp_base.proofs.Counts.{count_push}
use Rattle.rp_events.specs.declared.journals.JournalEntry.{JournalEntry}
use Rattle.rp_events.specs.declared.journals.PastEvent.TheVariants as past
use Rattle.rp_events.specs.declared.node_events.Event.TheVariants as events
use Rattle.rp_events.specs.Lawful.{IsReached}
use Rattle.rp_events.specs.Nodes.{Node, is_full}
use Rattle.rp_events.specs.Worlds.{World, node_of, run}
use Rattle.rp_journals.specs.Asked.{all_at}
use Rattle.rp_journals.proofs.Reading.{step_journal, entry_of}
use Rattle.rp_race.specs.declared.rules.Handover.{Handover}
use Rattle.rp_race.specs.declared.rules.RaceRules.{RaceRules}
use Rattle.rp_race.specs.Rounds.{stage_of, handed_over, is_transfer, handovers_of, due_handover, first_waiting, may_apply, may_come}
use Rattle.rp_race.specs.Owed.{heard_from}
use Rattle.rp_race.specs.Gives.{AllSeen, HeardAll, IsPart, MayEnd, NoneBehind, after_round}
use Rattle.rp_race.proofs.Going.{so_far_reached}
use Rattle.rp_race.proofs.Hearing.{heard_further}
use Rattle.rp_switch.specs.Gifts.{IsRound, IsBrokenRound}
use Rattle.rp_switch.specs.Views.{Knowledge}
use Rattle.rp_serving.specs.declared.faults.BrokenOff.{BrokenOff}
use Rattle.rp_serving.specs.declared.lanes.Lane.{Lane}
use Rattle.rp_serving.specs.declared.mails.Mail.{Mail}
use Rattle.rp_serving.specs.Inside.{IsUnderWay}
use Rattle.rp_serving.specs.Letters.{letters_of, AreLeft}
use Rattle.rp_serving.specs.Mails.{lane_in, IsUpToDate, IsMailOf, IsWhole, LagsIn, IsEmptiedLane, IsEmptied}
use Rattle.rp_serving.specs.Playing.{HandsWithin, HasIt, taken_from}
use Rattle.rp_serving.specs.Turns.{HearsSame, PlaysWhole}
use Rattle.rp_serving.proofs.Halfway.{mail_heard, under_way_first, there_in}
use Rattle.rp_serving.proofs.Lettered.{none_left, are_left}
use Rattle.rp_serving.proofs.Onward.{so_far_of}
use Rattle.rp_serving.proofs.Rounded.{rounds_within, number_is}
use Rattle.rp_journals.proofs.Lists.{take_whole}

-- what was heard stays heard
pub heard_on : (rules : RaceRules) (node : ℕ) (seen : World) (n later : Node) → HeardAll rules node seen n → HearsSame n later → HeardAll rules node seen later
heard_on rules node seen n later all same from m saw ne = same from ∙ all from m saw ne

pub same_again : (n mid later : Node) → HearsSame n mid → HearsSame mid later → HearsSame n later
same_again n mid later a b k = b k ∙ a k

-- a handover that is due is one of the rules
among : (p : Handover → Bool) (nodes : ℕ) (hs : List Handover) → All (λ (h : Handover). h.to ≤ nodes) hs → (i : ℕ) (h : Handover) → slice_get (filter p hs) i ≡ Some h → h.to ≤ nodes
among p nodes [] all i h e = absurd cc
among p nodes (x ∷ hs) all i h e =
    go (λ j e'. among p nodes hs (All-tail (λ (z : Handover). z.to ≤ nodes) x hs all) j h e') (p x) i e where
      some_is : (a b : Handover) → ◌≡◌ {A = Option Handover} (Some a) (Some b) → a ≡ b
      some_is a b e' = cc

      go : ((j : ℕ) → slice_get (filter p hs) j ≡ Some h → h.to ≤ nodes) → (b : Bool) → (i : ℕ) → slice_get (cond b (x ∷ filter p hs) (filter p hs)) i ≡ Some h → h.to ≤ nodes
      go further true zero e' = subst (λ (z : Handover). z.to ≤ nodes) (some_is x h e') (All-head (λ (z : Handover). z.to ≤ nodes) x hs all)
      go further true (suc j) e' = further j e'
      go further false i e' = further i e'

pub hand_within : (rules : RaceRules) (nodes : ℕ) (n : Node) (h : Handover) → HandsWithin nodes rules → due_handover rules n ≡ Some h → h.to ≤ nodes
hand_within rules nodes n h hands due = go _ due where
  go : (b : Bool) → cond b (slice_get (handovers_of rules n.node) (handed_over n.journal)) None ≡ Some h → h.to ≤ nodes
  go true e = among (λ (z : Handover). z.node == n.node) nodes rules.transfers hands (handed_over n.journal) h e
  go false e = absurd cc

-- the inside may end where nothing waits
pub may_end_now : (rules : RaceRules) (n : Node) → may_apply rules n (stage_of n.journal) ≡ true → first_waiting n ≡ None → may_come rules n (past.Round (length n.sent)) ≡ true
may_end_now rules n may none = and_from (may_apply rules n (stage_of n.journal)) (not (is_some (first_waiting n))) may (ap (λ o. not (is_some o)) none)

-- the lanes of all nodes are there
pub lanes_there : (rules : RaceRules) (nodes node : ℕ) (seen : World) (mail : Mail) → length mail.lanes ≡ 5 → length seen ≤ 5 → (from : ℕ) (m : Node) → node_of seen from ≡ Some m → (lane : Lane) × (lane_in mail from ≡ Some lane)
lanes_there rules nodes node seen mail five few zero m saw = absurd cc
lanes_there rules nodes node seen mail five few (suc place) m saw =
    let low = short seen place m saw in
    let at : suc place - 1 ≡ place = omega arith in
    let l = there_in mail.lanes place (omega (arith, low, five, few)) in
    (l.0, ap (slice_get mail.lanes) at ∙ l.1) where
      short : {X : Type 0} (xs : List X) (i : ℕ) (x : X) → slice_get xs i ≡ Some x → i < length xs
      short [] i x e = absurd cc
      short (y ∷ xs) zero x e = omega arith
      short (y ∷ xs) (suc i) x e = let s = short xs i x e in omega (arith, s)

pub seen_few : (nodes : ℕ) (at seen : World) → IsReached nodes at → AllSeen nodes seen at → length seen ≤ 5
seen_few nodes at seen reached all = let few = leb-true nodes 5 reached.few in let size = all.size in omega (arith, few, size)

-- the round begins
pub begins_round : (rules : RaceRules) (nodes node : ℕ) (at seen : World) (n : Node) (mail : Mail) → IsReached nodes at → AllSeen nodes seen at → length mail.lanes ≡ 5 → node_of at node ≡ Some n
    → IsMailOf rules node seen n mail → IsWhole node seen mail → IsUnderWay rules node at seen n
begins_round rules nodes node at seen n mail reached all five has of whole =
    under_way_first rules node at seen n has
    (mail_heard rules node seen n mail of whole (lanes_there rules nodes node seen mail five (seen_few nodes at seen reached all)))

-- and may end
pub ends_round : (rules : RaceRules) (nodes node : ℕ) (at seen : World) (n inside : Node) → IsReached nodes at → node_of at node ≡ Some n → NoneBehind node seen n → IsUnderWay rules node at seen inside
    → HeardAll rules node seen inside → may_come rules inside (past.Round (length inside.sent)) ≡ true → is_full inside ≡ false → MayEnd rules node seen inside
ends_round rules nodes node at seen n inside reached has behind u heard may room =
    let same : inside.rounds ≡ n.rounds = rounds_within rules nodes node at u.what n inside reached has (so_far_of rules node at seen u.what inside u.part) in
    record {
      may = may;
      room = room;
      heard = heard;
      behind = λ from m saw ne. let b = behind from m saw ne in omega (arith, b, same);
    }

-- the end of a round hears nothing, and hands nothing over
end_heard : (from : ℕ) (n : Node) → heard_from from (after_round n).journal ≡ heard_from from n.journal
end_heard from n = ap (heard_from from) (step_journal n events.Round []) ∙ heard_further from n.journal (entry_of n events.Round [] ∷ []) ∙ append-nil (heard_from from n.journal)

end_handed : (n : Node) → handed_over (after_round n).journal ≡ handed_over n.journal
end_handed n =
    let one : handed_over (n.journal ++ entry_of n events.Round [] ∷ []) ≡ handed_over n.journal + 0 =
    count_push (λ (e : JournalEntry). is_transfer e.event) n.journal (entry_of n events.Round []) in
    ap handed_over (step_journal n events.Round []) ∙ omega (arith, one)

-- the mail of a node whose round is played
pub mail_played : (rules : RaceRules) (nodes node : ℕ) (at seen : World) (n inside : Node) (old mail : Mail) → IsReached nodes at → AllSeen nodes seen at → IsMailOf rules node seen n old → IsWhole node seen old
    → IsEmptied nodes old mail → mail.handed ≡ handed_over inside.journal → HeardAll rules node seen inside → length old.lanes ≡ 5 → IsMailOf rules node seen (after_round inside) mail
mail_played rules nodes node at seen n inside old mail reached all of whole emptied handed heard five = record {
  node = emptied.node ∙ of.node;
  lanes = λ from m lane saw ne now_is.
      let was = lanes_there rules nodes node seen old five (seen_few nodes at seen reached all) from m saw in
      let low = numbered seen from m saw in
      let size = all.size in
      let e : IsEmptiedLane was.0 lane = emptied.each from was.0 lane low.0 (let h = low.1 in omega (arith, h, size)) (λ own. ne (own ∙ of.node)) was.1 now_is in
      let u : IsUpToDate m was.0 = whole from m was.0 saw ne was.1 in
      let copied : lane.copied ≡ length m.sent = e.copied ∙ u.copied in
      record {
        within = omega (arith, copied);
        left = subst (λ s. AreLeft from (after_round inside) lane.letters.list (letters_of rules from node s)) (sym (ap (λ k. take k m.sent) copied ∙ take_whole m.sent))
            (subst (λ l. AreLeft from (after_round inside) l (letters_of rules from node m.sent)) (sym e.letters)
            (none_left rules from node (after_round inside) m.sent (end_heard from inside ∙ heard from m saw ne)));
      };
  handed = handed ∙ sym (end_handed inside);
} where
  short : {X : Type 0} (xs : List X) (i : ℕ) (x : X) → slice_get xs i ≡ Some x → i < length xs
  short [] i x e = absurd cc
  short (y ∷ xs) zero x e = omega arith
  short (y ∷ xs) (suc i) x e = let s = short xs i x e in omega (arith, s)

  numbered : (w : World) (from : ℕ) (m : Node) → node_of w from ≡ Some m → (1 ≤ from) × (from ≤ length w)
  numbered w zero m saw = absurd cc
  numbered w (suc place) m saw = let s = short w place m saw in (omega arith, omega (arith, s))

-- the handover that is due
pub due_is : (rules : RaceRules) (nodes node : ℕ) (at seen : World) (n : Node) (handed : ℕ) (found : Option Handover) → IsReached nodes at → IsUnderWay rules node at seen n
    → found ≡ slice_get (handovers_of rules node) handed → handed ≡ handed_over n.journal → n.rounds % 16 ≡ 15 → found ≡ due_handover rules n
due_is rules nodes node at seen n handed found reached u is count last =
    let own : n.node ≡ node = number_is nodes (run at (all_at node u.what)) (so_far_reached nodes rules node at u.what n reached (so_far_of rules node at seen u.what n u.part)) node n u.part.leaves in
    let due : ((n.rounds + 1) % 16 == 0) ≡ true = eq-eqb ((n.rounds + 1) % 16) 0 (omega (arith, last)) in
    is ∙ ap (slice_get (handovers_of rules node)) count ∙ ap (λ k. slice_get (handovers_of rules k) (handed_over n.journal)) (sym own)
    ∙ sym (ap (λ b. cond {A = Option Handover} b (slice_get (handovers_of rules n.node) (handed_over n.journal)) None) due)

-- the round as a seat may give it
pub round_of : (v : Knowledge) (node : ℕ) (n : Node) → 1 ≤ node → HasIt v node → PlaysWhole v node n → IsRound v (node - 1) (taken_from v) n
round_of v node n low has w =
    let is : node ≡ suc (node - 1) = omega (arith, low) in
    record {
      carries = has.carries;
      what = w.under_way.what;
      inside = w.inside;
      part = subst (λ k. IsPart v.terms.rules k (taken_from v) v.seen w.under_way.what w.inside) is w.under_way.part;
      may_end = subst (λ k. MayEnd v.terms.rules k v.seen w.inside) is w.may_end;
      leaves = w.leaves;
    }

pub broken_of : (v : Knowledge) (node : ℕ) (n : Node) → 1 ≤ node → HasIt v node → IsUnderWay v.terms.rules node (taken_from v) v.seen n → IsBrokenRound v (node - 1) (taken_from v) n
broken_of v node n low has u =
    let is : node ≡ suc (node - 1) = omega (arith, low) in
    record {
      carries = has.carries;
      what = u.what;
      part = subst (λ k. IsPart v.terms.rules k (taken_from v) v.seen u.what n) is u.part;
    }

pub whole_ok : (r : Result (Unit {0}) BrokenOff) (v : Knowledge) (node : ℕ) (n : Node) → 1 ≤ node → HasIt v node → OnOk r (PlaysWhole v node n) → OnOk r (IsRound v (node - 1) (taken_from v) n)
whole_ok (Ok done) v node n low has w = round_of v node n low has w
whole_ok (Err why) v node n low has w = tt

pub broken_err : (r : Result (Unit {0}) BrokenOff) (v : Knowledge) (node : ℕ) (n : Node) → 1 ≤ node → HasIt v node → OnErr r (IsUnderWay v.terms.rules node (taken_from v) v.seen n) → OnErr r (IsBrokenRound v (node - 1) (taken_from v) n)
broken_err (Ok done) v node n low has u = tt
broken_err (Err why) v node n low has u = broken_of v node n low has u

-- five fresh lanes
each_of_five : (P : Lane → Type 0) (a b c d e : Lane) → P a → P b → P c → P d → P e → (i : ℕ) (lane : Lane) → slice_get (a ∷ b ∷ c ∷ d ∷ e ∷ []) i ≡ Some lane → P lane
each_of_five P a b c d e pa pb pc pd pe i lane is = go i is where
  some_is : (x y : Lane) → ◌≡◌ {A = Option Lane} (Some x) (Some y) → x ≡ y
  some_is x y e' = cc

  go : (i : ℕ) → slice_get (a ∷ b ∷ c ∷ d ∷ e ∷ []) i ≡ Some lane → P lane
  go zero e' = subst P (some_is a lane e') pa
  go (suc zero) e' = subst P (some_is b lane e') pb
  go (suc (suc zero)) e' = subst P (some_is c lane e') pc
  go (suc (suc (suc zero))) e' = subst P (some_is d lane e') pd
  go (suc (suc (suc (suc zero)))) e' = subst P (some_is e lane e') pe
  go (suc (suc (suc (suc (suc k))))) e' = absurd cc

abbrev pub IsFresh : Lane → Type 0
IsFresh lane = (lane.copied ≡ 0) × (lane.letters.list ≡ [])

pub mail_new : (mail : Mail) (a b c d e : Lane) → mail.lanes ≡ a ∷ b ∷ c ∷ d ∷ e ∷ [] → mail.handed ≡ 0 → IsFresh a → IsFresh b → IsFresh c → IsFresh d → IsFresh e
    → (rules : RaceRules) (seen : World) (n : Node) → n.journal ≡ [] → IsMailOf rules mail.node seen n mail
mail_new mail a b c d e lanes none fa fb fc fd fe rules seen n fresh = record {
  node = refl;
  lanes = λ from m lane saw ne is.
      let f : IsFresh lane = each_of_five IsFresh a b c d e fa fb fc fd fe (from - 1) lane (ap (λ l. slice_get l (from - 1)) (sym lanes) ∙ is) in
      let copied = f.0 in
      record {
        within = omega (arith, copied);
        left = are_left from n [] lane.letters.list (letters_of rules from mail.node (take lane.copied m.sent))
            (ap (λ k. letters_of rules from mail.node (take k m.sent)) f.0 ∙ sym f.1) (ap (heard_from from) fresh);
      };
  handed = none ∙ sym (ap handed_over fresh);
}

-- none of the other nodes is more than two rounds behind
pub none_behind : (mail : Mail) (nodes rounds : ℕ) (seen : World) (n : Node) → length seen ≡ nodes → nodes ≤ 5 → length mail.lanes ≡ 5 → IsWhole mail.node seen mail → n.rounds ≡ rounds
    → ((k : ℕ) (lane : Lane) → k < nodes → (k + 1 ≡ mail.node → ⊥) → slice_get mail.lanes k ≡ Some lane → rounds ≤ lane.rounds + 2) → NoneBehind mail.node seen n
none_behind mail nodes rounds seen n size few five whole same each zero m saw ne = absurd cc
none_behind mail nodes rounds seen n size few five whole same each (suc place) m saw ne =
    let low = short seen place m saw in
    let at : suc place - 1 ≡ place = omega arith in
    let l = there_in mail.lanes place (omega (arith, low, size, few, five)) in
    let rounds_are = (whole (suc place) m l.0 saw ne (ap (slice_get mail.lanes) at ∙ l.1)).rounds in
    let one = each place l.0 (omega (arith, low, size)) (λ e. ne (let z : suc place ≡ mail.node = omega (arith, e) in z)) l.1 in
    omega (arith, one, rounds_are, same) where
      short : {X : Type 0} (xs : List X) (i : ℕ) (x : X) → slice_get xs i ≡ Some x → i < length xs
      short [] i x e = absurd cc
      short (y ∷ xs) zero x e = omega arith
      short (y ∷ xs) (suc i) x e = let s = short xs i x e in omega (arith, s)

-- another node is behind by its lane
pub lags_in : (mail : Mail) (place rounds : ℕ) (lane : Lane) → (place + 1 ≡ mail.node → ⊥) → slice_get mail.lanes place ≡ Some lane → lane.rounds < rounds - 2 → LagsIn mail (place + 1) rounds
lags_in mail place rounds lane other there low =
    let at : place + 1 - 1 ≡ place = omega arith in
    record {
      numbered = omega arith;
      other = other;
      lane = lane;
      there = ap (slice_get mail.lanes) at ∙ there;
      lags = omega (arith, low);
    }
