-- The longest wait, one seat after another.
use Rattle.std.proofs.Common.{◌≡◌, ◌<◌, ℕ, ◌+◌, ◌-◌, max, List, ◌∷◌, length, drop, get_or, map, filter_map, fold, Option, None, Some, refl, sym, ap, ◌∙◌}
use Rattle.std.proofs.lemmas.List.{drop_more}
use Rattle.std.specs.List.{cons_option}
use Rattle.rp_events.specs.Nodes.{first_round_in}
use Rattle.rp_node.specs.declared.seats.Seat.{Seat}
use Rattle.rp_node.specs.Cores.{status_of}
use Rattle.rp_node.specs.Waits.{with_wait, waits_from}

one_wait : (rounds most : ℕ) (o : Option ℕ) (ys : List ℕ) → fold (λ m first. max m (rounds - first)) (with_wait most rounds o) ys ≡ fold (λ m first. max m (rounds - first)) most (cons_option o ys)
one_wait rounds most None ys = refl
one_wait rounds most (Some first) ys = refl

pub waits_more : (rounds most : ℕ) (xs : List Seat) (i : ℕ) (s : Seat) → i < length xs → s ≡ get_or xs i s → waits_from rounds (with_wait most rounds (first_round_in (status_of s))) (drop (i + 1) xs) ≡ waits_from rounds most (drop i xs)
waits_more rounds most xs i s within is =
    one_wait rounds most (first_round_in (status_of s)) (filter_map first_round_in (map status_of (drop (i + 1) xs)))
    ∙ ap (λ (l : List Seat). waits_from rounds most l) (sym (drop_more xs i s within ∙ ap (λ v. v ∷ drop (i + 1) xs) (sym is)))
