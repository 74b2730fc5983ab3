-- The ranges that are shown, one after another.
use Rattle.std.proofs.Common.{◌≡◌, ℕ, ◌+◌, ◌<◌, ◌≤◌, ⊎_elim, List, [], ◌∷◌, ◌++◌, sym, subst, ◌∙◌, arith}
use Rattle.std.specs.Prelude.{Contains}
use Rattle.std.specs.List.{AllByRecursion}
use Rattle.std.proofs.lemmas.Bool.{cases_lt}
use Rattle.std.proofs.lemmas.List.Elements.{Contains-append_left, Contains-push}
use Rattle.rp_request.specs.History.{History}
use Rattle.rp_report.specs.declared.views.RangeView.{RangeView}
use Rattle.rp_events.specs.Worlds.{World}
use Rattle.rp_events.specs.Lists.{HasApplied}
use Rattle.rp_lines.specs.Views.{IsRangeView, AreAscending, ShowsRanges}
use Rattle.rp_chronicle.specs.Worlds.{IsUntouched}

-- the ranges below a number
pub record ShowsBelow (w : World) (number : ℕ) (views : List RangeView) : Type 0 where
  pub shown : AllByRecursion (λ (v : RangeView). IsRangeView w v.desc.id v) views
  pub below : AllByRecursion (λ (v : RangeView). v.desc.id < number) views
  pub ascending : AreAscending views
  pub all : (node range : ℕ) (h : History) → range < number → HasApplied w node range h → (v : RangeView) × (Contains views v × (v.desc.id ≡ range))

all_push : {X : Type 0} (P : X → Type 0) (xs : List X) (x : X) → AllByRecursion P xs → P x → AllByRecursion P (xs ++ x ∷ [])
all_push P [] x h p = (p, tt)
all_push P (y ∷ xs) x h p = (h.0, all_push P xs x h.1 p)

all_above : (number : ℕ) (views : List RangeView) → AllByRecursion (λ (v : RangeView). v.desc.id < number) views → AllByRecursion (λ (v : RangeView). v.desc.id < number + 1) views
all_above number [] h = tt
all_above number (v ∷ views) h = (let low = h.0 in omega (arith, low), all_above number views h.1)

ascending_push : (number : ℕ) (views : List RangeView) (v : RangeView) → v.desc.id ≡ number → AllByRecursion (λ (x : RangeView). x.desc.id < number) views → AreAscending views → AreAscending (views ++ v ∷ [])
ascending_push number [] v is below up = (tt, tt)
ascending_push number (x ∷ views) v is below up =
    let low = below.0 in
    (all_push (λ (later : RangeView). x.desc.id < later.desc.id) views v up.0 (omega (arith, low, is)), ascending_push number views v is below.1 up.1)

pub shows_none : (w : World) → ShowsBelow w 0 []
shows_none w = record { shown = tt; below = tt; ascending = tt; all = λ node range h lt a. absurd (omega (arith, lt)) }

-- a range that no node had
still_below : (w : World) (number : ℕ) (views : List RangeView) → ShowsBelow w number views → IsUntouched w number → ShowsBelow w (number + 1) views
still_below w number views s u = record {
  shown = s.shown;
  below = all_above number views s.below;
  ascending = s.ascending;
  all = λ node range h lt a. ⊎_elim
      (λ (low : range < number). s.all node range h low a)
      (λ (high : number ≤ range). let same : range ≡ number = omega (arith, lt, high) in absurd (u node h (subst (λ r. HasApplied w node r h) same a)))
      (cases_lt range number);
}

-- one that some node had
more_below : (w : World) (number : ℕ) (views : List RangeView) (v : RangeView) → ShowsBelow w number views → IsRangeView w number v → ShowsBelow w (number + 1) (views ++ v ∷ [])
more_below w number views v s is = record {
  shown = all_push (λ (x : RangeView). IsRangeView w x.desc.id x) views v s.shown (subst (λ r. IsRangeView w r v) (sym is.number) is);
  below = all_push (λ (x : RangeView). x.desc.id < number + 1) views v (all_above number views s.below) (let same = is.number in omega (arith, same));
  ascending = ascending_push number views v is.number s.below s.ascending;
  all = λ node range h lt a. ⊎_elim
      (λ (low : range < number). let old = s.all node range h low a in (old.0, (Contains-append_left views (v ∷ []) old.0 old.1.0, old.1.1)))
      (λ (high : number ≤ range). let same : number ≡ range = omega (arith, lt, high) in (v, (Contains-push views v, is.number ∙ same)))
      (cases_lt range number);
}

pub shows_still : (w : World) (number range : ℕ) (views : List RangeView) → range ≡ number → ShowsBelow w number views → IsUntouched w range → ShowsBelow w (number + 1) views
shows_still w number range views same s u = still_below w number views s (subst (IsUntouched w) same u)

pub shows_more : (w : World) (number range : ℕ) (views : List RangeView) (v : RangeView) → range ≡ number → ShowsBelow w number views → IsRangeView w range v → ShowsBelow w (number + 1) (views ++ v ∷ [])
shows_more w number range views v same s is = more_below w number views v s (subst (λ r. IsRangeView w r v) same is)

pub shows_all : (w : World) (number : ℕ) (views : List RangeView) → ShowsBelow w number views → 8 ≤ number → ((node range : ℕ) (h : History) → HasApplied w node range h → range < 8) → ShowsRanges w views
shows_all w number views s eight few = record {
  shown = s.shown;
  all = λ node range h a. s.all node range h (let low = few node range h a in omega (arith, low, eight)) a;
  ascending = s.ascending;
}
