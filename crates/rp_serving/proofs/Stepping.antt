-- A step of the code is an event by which the round goes on.
use Rattle.std.proofs.Common.{◌≡◌, ℕ, ◌≤◌, ◌-◌, ◌<◌, ◌+◌, true, false, Result, Ok, Err, List, [], length, refl, sym, ap, subst, ◌∙◌, arith}
use Rattle.std.specs.Prelude.{OnOk, OnErr, nat_le}
use Rattle.std.proofs.lemmas.Bool.{leb-false}
use Rattle.rp_base.specs.Limits.{buffer_capacity}
use Rattle.rp_base.specs.declared.items.Item.{Item}
use Rattle.rp_request.specs.Applied.{AppliedState}
use Rattle.rp_events.specs.declared.answers.EventAnswer.{EventAnswer}
use Rattle.rp_events.specs.declared.node_events.Event.{Event}
use Rattle.rp_events.specs.declared.node_events.Event.TheVariants as events
use Rattle.rp_events.specs.Lawful.{IsReached}
use Rattle.rp_events.specs.Nodes.{Node, Status, Absent, Live, Removed, seat, is_full, journal_end}
use Rattle.rp_events.specs.Worlds.{World, taken_in}
use Rattle.rp_node.specs.Steps.{Held, Collected, Taken, Steps}
use Rattle.rp_race.specs.declared.rules.RaceRules.{RaceRules}
use Rattle.rp_race.specs.Rounds.{stage_of, handed_over, may_apply}
use Rattle.rp_race.specs.Gives.{AllSeen}
use Rattle.rp_serving.specs.declared.letters.Letter.{Letter}
use Rattle.rp_serving.specs.declared.faults.BrokenOff.{BrokenOff}
use Rattle.rp_serving.specs.Inside.{happening_of, IsUnderWay, MayGoOn, WentOn}
use Rattle.rp_serving.specs.Playing.{GivesFew}
use Rattle.rp_serving.specs.Turns.{Delivers, HearsSame, HearsNothing}
use Rattle.rp_serving.proofs.Onward.{goes_on}
use Rattle.rp_serving.proofs.Stages.{delivered_heard, delivered_others, delivered_handed, delivered_stage}
use Rattle.rp_serving.proofs.Went.{went_stage, went_unheard, went_unhanded, went_handed, went_longer}

module _ {B : Type 0} (gives : B → ℕ → List Item → B → Type 0) where
  taken_is : (h : Held B) (e : Event AppliedState) (taken : List Item) (new : B) → Taken gives h e taken new → taken_in (happening_of e taken) ≡ taken
  taken_is h (events.Admit range id request) taken new t = sym t.nothing
  taken_is h (events.Ask range) taken new t = sym t.nothing
  taken_is h (events.Transfer range to) taken new t = sym t.nothing
  taken_is h (events.Collect range) taken new t = refl
  taken_is h (events.Flush range) taken new t = sym t.nothing
  taken_is h events.Tick taken new t = sym t.nothing
  taken_is h (events.Deliver from range number message) taken new t = sym t.nothing
  taken_is h (events.Apply range) taken new t = sym t.nothing
  taken_is h (events.Cut range) taken new t = sym t.nothing
  taken_is h (events.Remove range) taken new t = sym t.nothing
  taken_is h (events.Peek range key) taken new t = sym t.nothing
  taken_is h events.Restart taken new t = sym t.nothing
  taken_is h events.Round taken new t = sym t.nothing

  none_few : (taken : List Item) → taken ≡ [] → length taken ≤ buffer_capacity
  none_few taken none = subst (λ l. length l ≤ buffer_capacity) (sym none) (omega arith)

  collect_few : GivesFew gives → (status : Status) (old : B) (range : ℕ) (taken : List Item) (new : B) → Collected gives status old range taken new → length taken ≤ buffer_capacity
  collect_few few Absent old range taken new c = none_few taken c.nothing
  collect_few few (Live r) old range taken new c = few old range taken new c
  collect_few few (Removed applied) old range taken new c = none_few taken c.nothing

  taken_few : GivesFew gives → (h : Held B) (e : Event AppliedState) (taken : List Item) (new : B) → Taken gives h e taken new → length taken ≤ buffer_capacity
  taken_few few h (events.Admit range id request) taken new t = none_few taken t.nothing
  taken_few few h (events.Ask range) taken new t = none_few taken t.nothing
  taken_few few h (events.Transfer range to) taken new t = none_few taken t.nothing
  taken_few few h (events.Collect range) taken new t = collect_few few (seat h.node range) h.end range taken new t
  taken_few few h (events.Flush range) taken new t = none_few taken t.nothing
  taken_few few h events.Tick taken new t = none_few taken t.nothing
  taken_few few h (events.Deliver from range number message) taken new t = none_few taken t.nothing
  taken_few few h (events.Apply range) taken new t = none_few taken t.nothing
  taken_few few h (events.Cut range) taken new t = none_few taken t.nothing
  taken_few few h (events.Remove range) taken new t = none_few taken t.nothing
  taken_few few h (events.Peek range key) taken new t = none_few taken t.nothing
  taken_few few h events.Restart taken new t = none_few taken t.nothing
  taken_few few h events.Round taken new t = none_few taken t.nothing

  pub steps_on : GivesFew gives → (rules : RaceRules) (nodes node : ℕ) (at seen : World) → IsReached nodes at → AllSeen nodes seen at → (old : Held B) (e : Event AppliedState) (new : Held B) (answer : EventAnswer)
      → IsUnderWay rules node at seen old.node → is_full old.node ≡ false → MayGoOn rules nodes node seen old.node e → Steps gives old e new answer → WentOn rules node at seen old.node e new.node
  steps_on few rules nodes node at seen reached all old e new answer u room may s =
      goes_on rules nodes node at seen reached all old.node u room e may s.taken (taken_is old e s.taken new.end s.gave) (taken_few few old e s.taken new.end s.gave) new.node answer s.does

module _ (rules : RaceRules) (node : ℕ) (at seen : World) where
  -- what an answer tells of a delivery
  pub delivers_ok : (r : Result (Unit {0}) BrokenOff) (from : ℕ) (l : Letter) (n later : Node)
      → OnOk r (WentOn rules node at seen n (events.Deliver from l.parcel.range l.number l.parcel.message) later) → OnOk r (Delivers from l n later)
  delivers_ok (Ok done) from l n later w = record {
    heard = delivered_heard rules node at seen n later from l.parcel.range l.number l.parcel.message w;
    others = delivered_others rules node at seen n later from l.parcel.range l.number l.parcel.message w;
    handed = delivered_handed rules node at seen n later from l.parcel.range l.number l.parcel.message w;
    stage = delivered_stage rules node at seen n later from l.parcel.range l.number l.parcel.message w;
  }
  delivers_ok (Err why) from l n later w = tt

  -- where the round goes on or nothing happens it is under way
  pub still_ok : {A : Type 0} (r : Result A BrokenOff) (n : Node) (e : Event AppliedState) (later : Node) → IsUnderWay rules node at seen n
      → OnOk r (WentOn rules node at seen n e later) → OnErr r (later ≡ n) → IsUnderWay rules node at seen later
  still_ok (Ok done) n e later u w none = w.under_way
  still_ok (Err why) n e later u w none = subst (IsUnderWay rules node at seen) (sym none) u

  pub ticked_heard : (n later : Node) → WentOn rules node at seen n events.Tick later → HearsNothing n later
  ticked_heard n later w = record {
    heard = λ k. went_unheard rules node at seen n events.Tick later w k refl;
    handed = went_unhanded rules node at seen n events.Tick later w refl;
  }

  pub collected_heard : (n later : Node) (range : ℕ) → WentOn rules node at seen n (events.Collect range) later → HearsNothing n later
  collected_heard n later range w = record {
    heard = λ k. went_unheard rules node at seen n (events.Collect range) later w k refl;
    handed = went_unhanded rules node at seen n (events.Collect range) later w refl;
  }

  pub flushed_heard : (n later : Node) (range : ℕ) → WentOn rules node at seen n (events.Flush range) later → HearsNothing n later
  flushed_heard n later range w = record {
    heard = λ k. went_unheard rules node at seen n (events.Flush range) later w k refl;
    handed = went_unhanded rules node at seen n (events.Flush range) later w refl;
  }

  pub applied_heard : (n later : Node) (range : ℕ) → WentOn rules node at seen n (events.Apply range) later → HearsNothing n later
  applied_heard n later range w = record {
    heard = λ k. went_unheard rules node at seen n (events.Apply range) later w k refl;
    handed = went_unhanded rules node at seen n (events.Apply range) later w refl;
  }

  pub transferred_heard : (n later : Node) (range to : ℕ) → WentOn rules node at seen n (events.Transfer range to) later → HearsSame n later
  transferred_heard n later range to w k = went_unheard rules node at seen n (events.Transfer range to) later w k refl

  pub transferred_handed : (n later : Node) (range to : ℕ) → WentOn rules node at seen n (events.Transfer range to) later → handed_over later.journal ≡ handed_over n.journal + 1
  transferred_handed n later range to w = went_handed rules node at seen n (events.Transfer range to) later w

  pub transferred_may : (n later : Node) (range to : ℕ) → WentOn rules node at seen n (events.Transfer range to) later → may_apply rules later (stage_of later.journal) ≡ true
  transferred_may n later range to w = ap (may_apply rules later) (went_stage rules node at seen n (events.Transfer range to) later w)

  pub applied_may : (n later : Node) (range : ℕ) → WentOn rules node at seen n (events.Apply range) later → may_apply rules later (stage_of later.journal) ≡ true
  applied_may n later range w = ap (may_apply rules later) (went_stage rules node at seen n (events.Apply range) later w)

  -- each application brings the end of the journal nearer
  pub applied_less : (n later : Node) (range : ℕ) → WentOn rules node at seen n (events.Apply range) later → journal_end - length later.journal < journal_end - length n.journal
  applied_less n later range w =
      let longer : length later.journal ≡ length n.journal + 1 = went_longer rules node at seen n (events.Apply range) later w in
      let low : length n.journal < journal_end = below (length n.journal) w.room in
      omega (arith, longer, low) where
        below : (k : ℕ) → nat_le journal_end k ≡ false → k < journal_end
        below k e = leb-false journal_end k e

pub hears_again : (n mid later : Node) → HearsNothing n mid → HearsNothing mid later → HearsNothing n later
hears_again n mid later a b = record { heard = λ k. b.heard k ∙ a.heard k; handed = b.handed ∙ a.handed }

pub hears_none : (n : Node) → HearsNothing n n
hears_none n = record { heard = λ k. refl; handed = refl }

module _ (rules : RaceRules) (node : ℕ) (at seen : World) where
  -- what a collect and a flush tell together
  pub flush_heard_ok : (r : Result (Unit {0}) BrokenOff) (n mid later : Node) (range : ℕ) → WentOn rules node at seen n (events.Collect range) mid
      → OnOk r (WentOn rules node at seen mid (events.Flush range) later) → OnOk r (HearsNothing n later)
  flush_heard_ok (Ok done) n mid later range a b =
      hears_again n mid later (collected_heard rules node at seen n mid range a) (flushed_heard rules node at seen mid later range b)
  flush_heard_ok (Err why) n mid later range a b = tt
