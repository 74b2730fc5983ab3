-- What is copied as one call after the other is due.
use Rattle.std.proofs.Common.{◌≡◌, ◌≢◌, ℕ, zero, suc, ◌+◌, ◌-◌, ◌<◌, ◌≤◌, Bool, true, false, not, ◌&&◌, eqb, cond, List, refl, sym, ap, subst, ◌∙◌, arith, slice_get, Some, Result, Ok, Err}
use Rattle.std.specs.Prelude.{◌==◌, nat_le, OnOk}
use Rattle.std.proofs.lemmas.Bool.{eqb-true, eqb-false, ne_eqb, leb-true, leb-false, le-leb, cond_both}
use Rattle.rp_base.specs.declared.memory.NoMemory.{NoMemory}
use Rattle.rp_events.specs.Nodes.{Node}
use Rattle.rp_events.specs.Worlds.{World, node_of}
use Rattle.rp_rounds.specs.Rounds.{Due, pull, round, post, nothing, pull_or_round, pulls_from, begins, first_due, round_from}
use Rattle.rp_serving.specs.declared.lanes.Lane.{Lane}
use Rattle.rp_serving.specs.Mails.{lane_in, IsUpToDate}
use Rattle.rp_bench.specs.declared.stations.Station.{Station}
use Rattle.rp_bench.specs.Dues.{is_within, served_by, copied_to, next_or_nothing, IsPulled}

-- the call names nodes that there are, and what is to be copied before it is copied
pub record Stands (nodes : ℕ) (seen : World) (stations : List Station) (d : Due) : Type 0 where
  pub within : is_within nodes d ≡ true
  pub pulled : IsPulled seen stations (served_by d) (copied_to nodes d)

module _ (nodes : ℕ) (seen : World) (stations : List Station) where
  none_below : (from : ℕ) (m : Node) → from < 1 → node_of seen from ≡ Some m → ⊥
  none_below zero m low saw = absurd cc
  none_below (suc k) m low saw = absurd (omega (arith, low))

  pub pull_stands : (to from : ℕ) → to ≤ nodes → from ≢ to → IsPulled seen stations to from → Stands nodes seen stations (pull_or_round nodes to from)
  pull_stands to from low apart p = cond_both (nat_le from nodes) (pull from to) (round to) (Stands nodes seen stations)
      (λ within.
      let to_in = le-leb to nodes low in
      let differs = ne_eqb from to apart in
      record {
        within = rw (within, to_in, differs) refl;
        pulled = p;
      })
      (λ beyond.
      let high = leb-false from nodes beyond in
      record {
        within = le-leb to nodes low;
        pulled = λ f m s lane less away saw here plays has. p f m s lane (omega (arith, less, high)) away saw here plays has;
      })

  pub pulls_stand : (to from : ℕ) → to ≤ nodes → IsPulled seen stations to from → Stands nodes seen stations (pulls_from nodes to from)
  pulls_stand to from low p = cond_both (from == to) (pull_or_round nodes to (from + 1)) (pull_or_round nodes to from) (Stands nodes seen stations)
      (λ same.
      let is = eqb-true from to same in
      pull_stands to (from + 1) low (λ e. absurd (omega (arith, e, is)))
      (λ f m s lane less away saw here plays has. p f m s lane (below f from to less away is) away saw here plays has))
      (λ differs. pull_stands to from low (eqb-false from to differs) p)
    where
      below : (f from to : ℕ) → f < from + 1 → f ≢ to → from ≡ to → f < from
      below f from to less away is = omega (arith, less, away, is)

  pub begins_stands : (node : ℕ) → node ≤ nodes → Stands nodes seen stations (begins nodes node)
  begins_stands node low = pulls_stand node 1 low (λ f m s lane less away saw here plays has. absurd (none_below f m less saw))

  pub nothing_stands : Stands nodes seen stations nothing
  nothing_stands = record { within = refl; pulled = λ f m s lane less away saw here plays has. absurd (omega (arith, less)) }

  pub post_stands : (node : ℕ) → node ≤ nodes → Stands nodes seen stations (post node)
  post_stands node low = record { within = le-leb node nodes low; pulled = λ f m s lane less away saw here plays has. absurd (omega (arith, less)) }

  pub first_stands : (worker : ℕ) → Stands nodes seen stations (first_due worker nodes)
  first_stands worker = cond_both (nat_le (worker + 1) nodes) (begins nodes (worker + 1)) nothing (Stands nodes seen stations)
      (λ low. begins_stands (worker + 1) (leb-true (worker + 1) nodes low)) (λ none. nothing_stands)

  pub round_stands : (worker node : ℕ) → Stands nodes seen stations (round_from worker nodes node)
  round_stands worker node = cond_both (nat_le node nodes) (begins nodes node) (first_due worker nodes) (Stands nodes seen stations)
      (λ low. begins_stands node (leb-true node nodes low)) (λ none. first_stands worker)

-- after each call
pub after_pull : (nodes : ℕ) (seen : World) (stations : List Station) (to from : ℕ) (r : Result (Unit {0}) NoMemory) → to ≤ nodes → OnOk r (IsPulled seen stations to (from + 1))
    → Stands nodes seen stations (next_or_nothing r (pulls_from nodes to (from + 1)))
after_pull nodes seen stations to from (Ok done) low p = pulls_stand nodes seen stations to (from + 1) low p
after_pull nodes seen stations to from (Err want) low p = nothing_stands nodes seen stations

pub after_any : (nodes : ℕ) (seen : World) (stations : List Station) (d : Due) (r : Result (Unit {0}) NoMemory) → Stands nodes seen stations d
    → Stands nodes seen stations (next_or_nothing r d)
after_any nodes seen stations d (Ok done) s = s
after_any nodes seen stations d (Err want) s = nothing_stands nodes seen stations

-- a pull is for a node that there is
pub low_to : (nodes from to : ℕ) → is_within nodes (pull from to) ≡ true → to ≤ nodes
low_to nodes from to is = go (nat_le from nodes) (nat_le to nodes) (not (from == to)) refl is where
  go : (a b c : Bool) → nat_le to nodes ≡ b → (a && b && c) ≡ true → to ≤ nodes
  go a true c same is' = leb-true to nodes same
  go true false true same is' = absurd cc
  go true false false same is' = absurd cc
  go false false true same is' = absurd cc
  go false false false same is' = absurd cc
