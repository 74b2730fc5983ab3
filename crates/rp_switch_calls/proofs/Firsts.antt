-- The rights of the first seat, handed to four.
use Rattle.std.proofs.Common.{◌≡◌, ◌≢◌, ℕ, zero, suc, ◌+◌, ◌-◌, ◌<◌, ◌≤◌, List, [], ◌∷◌, length, refl, sym, ap, subst, ◌∙◌, arith, slice_get, Some}
use Rattle.rp_request.specs.declared.requests.Request.{Request}
use Rattle.rp_request.specs.declared.requests.Request.TheVariants.{Del}
use Rattle.rp_race.specs.declared.rules.ClientRequests.{ClientRequests}
use Rattle.rp_race.specs.declared.rules.RaceRules.{RaceRules}
use Rattle.rp_race.specs.Played.{requests_of}
use Rattle.rp_router.specs.Hints.{started, aimed_node, aimed_range}
use Rattle.rp_switch.specs.declared.terms.Terms.{Terms}
use Rattle.rp_switch.specs.Gifts.{CarriesClient, tries_in, tries_known, IsTries}
use Rattle.rp_switch.specs.Rules.{clients_of, first}
use Rattle.rp_switch.specs.Views.{Right, Tries, Knowledge, OfClient, choosing, left, right, right_at}
use Rattle.rp_switch.proofs.Backing.{first_tries, client_handed, client_kept}
use Rattle.rp_switch_calls.specs.Firsts.{four_removals, HasTriedNothing, IsAim, MayBegin, AllMayBegin}

-- each of four clients has the request
asked_at : (key c : ℕ) (requests : List ClientRequests) (rules : RaceRules) → rules.requests ≡ requests → requests ≡ four_removals key → 1 ≤ c → c ≤ 4
    → slice_get (requests_of rules c) 0 ≡ Some (Del key)
asked_at key zero requests rules has is some low = absurd (omega (arith, some))
asked_at key (suc zero) requests rules has is some low = ap (λ (rs : List ClientRequests). slice_get (requests_of (record rules { requests = rs }) 1) 0) (has ∙ is)
asked_at key (suc (suc zero)) requests rules has is some low = ap (λ (rs : List ClientRequests). slice_get (requests_of (record rules { requests = rs }) 2) 0) (has ∙ is)
asked_at key (suc (suc (suc zero))) requests rules has is some low = ap (λ (rs : List ClientRequests). slice_get (requests_of (record rules { requests = rs }) 3) 0) (has ∙ is)
asked_at key (suc (suc (suc (suc zero)))) requests rules has is some low = ap (λ (rs : List ClientRequests). slice_get (requests_of (record rules { requests = rs }) 4) 0) (has ∙ is)
asked_at key (suc (suc (suc (suc (suc c))))) requests rules has is some low = absurd (omega (arith, low))

-- a right without a try
nothing_by : (v : Knowledge) (client : ℕ) → right_at v.rights (v.terms.nodes + client - 1) ≡ Tries [] → HasTriedNothing v client
nothing_by v client is = record { carries = subst IsTries (sym is) tt; none = ap tries_in is }

-- at first each may begin
pub all_begin : (t : Terms) (v : Knowledge) (node range key : ℕ) → v ≡ first t → t.nodes ≡ 5 → t.rules.requests ≡ four_removals key → IsAim node range key
    → AllMayBegin v 1 node range key
all_begin t v node range key is five removals aim c some low = subst (λ (u : Knowledge). MayBegin u c node range key) (sym is) (record {
  first = nothing_by (first t) c (first_tries t (t.nodes + c - 1) (omega (arith, five, some))
      (let four : clients_of t ≡ 4 = ap length removals in omega (arith, five, some, low, four)));
  some = some;
  asked = asked_at key c t.rules.requests t.rules refl removals some low;
  at_node = aim.at_node ∙ ap (λ (n : ℕ). aimed_node (started n) key) (sym five);
  in_range = aim.in_range ∙ ap (λ (n : ℕ). aimed_range (started n) key) (sym five);
  low = subst (λ (n : ℕ). node ≤ n) (sym five) aim.low;
})

-- one with the same right and terms may begin, too
moved : (v u : Knowledge) (c node range key : ℕ) → u.terms ≡ v.terms → right_at u.rights (u.terms.nodes + c - 1) ≡ right_at v.rights (v.terms.nodes + c - 1)
    → MayBegin v c node range key → MayBegin u c node range key
moved v u c node range key terms same m = record {
  first = record {
    carries = subst IsTries (sym same) m.first.carries;
    none = ap tries_in same ∙ m.first.none;
  };
  some = m.some;
  asked = ap (λ (t : Terms). slice_get (requests_of t.rules c) 0) terms ∙ m.asked;
  at_node = m.at_node ∙ ap (λ (t : Terms). aimed_node (started t.nodes) key) (sym terms);
  in_range = m.in_range ∙ ap (λ (t : Terms). aimed_range (started t.nodes) key) (sym terms);
  low = subst (λ (t : Terms). node ≤ t.nodes) (sym terms) m.low;
}

-- who is handed the right may begin, and so may those behind it
pub handed : (v u : Knowledge) (client node range key : ℕ) → u ≡ right (choosing (OfClient client) v) → client ≤ 4 → AllMayBegin v client node range key
    → MayBegin u client node range key
handed v u client node range key is low all =
    subst (λ (k : Knowledge). MayBegin k client node range key) (sym is)
    (moved v (right (choosing (OfClient client) v)) client node range key refl (client_handed client v) (all client (omega arith) low))

pub kept : (v u : Knowledge) (client node range key : ℕ) → u ≡ left (choosing (OfClient client) v) → 1 ≤ client → AllMayBegin v client node range key
    → AllMayBegin u (client + 1) node range key
kept v u client node range key is some all c above low =
    subst (λ (k : Knowledge). MayBegin k c node range key) (sym is)
    (moved v (left (choosing (OfClient client) v)) c node range key refl (client_kept client v (v.terms.nodes + c - 1) (λ e. omega (arith, e, above, some)))
    (all c (omega (arith, above)) low))
