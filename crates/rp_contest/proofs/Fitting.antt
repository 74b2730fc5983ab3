-- The rules of a world fit its threads.
use Rattle.std.proofs.Common.{ℕ, zero, suc, ◌<◌, ◌≤◌, ◌^◌, List, [], ◌∷◌, length, arith}
use Rattle.std.specs.Prelude.{sum_by, slice_get}
use Rattle.std.specs.Option.{option_map_or}
use Rattle.std.proofs.lemmas.List.Elements.{All-weaker}
use Rattle.std.proofs.lemmas.List.Sums.{sum_by-cons}
use Rattle.rp_race.specs.declared.rules.ClientRequests.{ClientRequests}
use Rattle.rp_race.specs.declared.rules.Handover.{Handover}
use Rattle.rp_race.specs.declared.rules.RaceRules.{RaceRules}
use Rattle.rp_racelines.specs.Rules.{AreOfWorld, IsOfWorld}
use Rattle.rp_racelines.specs.Verdicts.{command_count}
use Rattle.rp_serving.specs.Playing.{HandsWithin}
use Rattle.rp_racers.specs.Raced.{AreFew}

-- one client has no more requests than all
one_of_all : (sent : List ClientRequests) (place : ℕ)
    → length (option_map_or (λ (s : ClientRequests). s.requests) (slice_get sent place) []) ≤ sum_by (λ (s : ClientRequests). length s.requests) sent
one_of_all [] place = omega arith
one_of_all (s ∷ sent) zero =
    let sum = sum_by-cons (λ (s : ClientRequests). length s.requests) s sent in
    omega (arith, sum)
one_of_all (s ∷ sent) (suc place) =
    let sum = sum_by-cons (λ (s : ClientRequests). length s.requests) s sent in
    let more = one_of_all sent place in
    omega (arith, sum, more)

pub few_of : (rules : RaceRules) → command_count rules < 2 ^ 32 → AreFew rules
few_of rules few zero = omega arith
few_of rules few (suc place) =
    let one = one_of_all rules.requests place in
    omega (arith, one, few)

pub hands_of : (nodes : ℕ) (rules : RaceRules) → AreOfWorld nodes rules → HandsWithin nodes rules
hands_of nodes rules fit =
    All-weaker (IsOfWorld nodes) (λ (h : Handover). h.to ≤ nodes) (λ h is. is.to.1) rules.transfers fit.transfers
