-- What the nodes at a close are, by what the last seat knows.
use Rattle.std.proofs.Common.{◌≡◌, ℕ, ◌-◌, ◌<◌, ◌≤◌, Bool, true, false, cond, ◌&&◌, refl, sym, ap, subst, ◌∙◌, arith}
use Rattle.std.specs.Prelude.{nat_le}
use Rattle.std.proofs.lemmas.Bool.{leb-true, le-leb}
use Rattle.rp_events.specs.Lawful.{IsReached}
use Rattle.rp_events.specs.Worlds.{World}
use Rattle.rp_clients.specs.Finals.{HasDoneAll}
use Rattle.rp_race.specs.Ends.{unended, patience, IsWaitedOutForGood}
use Rattle.rp_race.specs.Gives.{Tried}
use Rattle.rp_race.specs.Played.{requests_of, IsTriesOf}
use Rattle.rp_tried.proofs.Ended.{none_open}
use Rattle.rp_switch.specs.Gifts.{tries_known}
use Rattle.rp_switch.specs.Rules.{AllHeard, clients_of}
use Rattle.rp_switch.specs.Seats.{is_broken, Closes}
use Rattle.rp_switch.specs.Views.{Knowledge, right_at}
use Rattle.rp_desks.specs.Onward.{heard_over}
use Rattle.rp_racers.specs.Raced.{EndWell}
use Rattle.rp_contest.specs.Runs.{IsRun}

-- what a seat heard is so
abbrev pub HeardIsSo : Type 0
HeardIsSo = (v : Knowledge) (w : World) → IsReached v.terms.nodes w → AllHeard v.terms.nodes v.joined w → heard_over v ≡ true
    → IsWaitedOutForGood (patience v.terms.rules) w

module _ (v : Knowledge) (w : World) (closes : Closes v w) where
  -- the number of a client that sends
  sends : ℕ → Bool
  sends client = nat_le 1 client && nat_le client (clients_of v.terms)

  sends_both : (a b : Bool) → (a && b) ≡ true → (a ≡ true) × (b ≡ true)
  sends_both true true e = (refl, refl)
  sends_both true false e = absurd cc
  sends_both false b e = absurd cc

  -- what each client tried, as its right keeps it where it has one
  tries : Tried
  tries client = cond (sends client) (tries_known v client) (closes.each_client client).0

  tries_so : (client : ℕ) → IsTriesOf v.terms.rules w client (tries client)
  unfolding tries sends
  tries_so client = by (sends client) refl where
    by : (b : Bool) → sends client ≡ b → IsTriesOf v.terms.rules w client (cond b (tries_known v client) (closes.each_client client).0)
    by true is =
        let both = sends_both (nat_le 1 client) (nat_le client (clients_of v.terms)) is in
        closes.tries client (closes.carries client (leb-true 1 client both.0) (leb-true client (clients_of v.terms) both.1))
    by false is = (closes.each_client client).1

  tries_here : (client : ℕ) → 1 ≤ client → client ≤ clients_of v.terms → tries client ≡ tries_known v client
  unfolding tries sends
  tries_here client low high =
      ap (λ b. cond (b && nat_le client (clients_of v.terms)) (tries_known v client) (closes.each_client client).0) (le-leb 1 client low)
      ∙ ap (λ b. cond b (tries_known v client) (closes.each_client client).0) (le-leb client (clients_of v.terms) high)

  abbrev HaveDoneAll : Type 0
  HaveDoneAll = (client : ℕ) → 1 ≤ client → client ≤ clients_of v.terms → HasDoneAll client (requests_of v.terms.rules client) (tries_known v client)

  nothing_open : HaveDoneAll → unended v.terms.rules w ≡ 0
  nothing_open done =
      none_open v.terms.rules v.terms.nodes w closes.reached tries tries_so
      (λ client low high. subst (HasDoneAll client (requests_of v.terms.rules client)) (sym (tries_here client low high)) (done client low high))

  pub run_of : HeardIsSo → EndWell 1 false v → IsRun v.terms.nodes v.terms.rules w
  run_of heard_so well = record {
    reached = closes.reached;
    broken = λ node. is_broken (right_at v.rights (node - 1));
    race = closes.race;
    tries = tries;
    each = tries_so;
    settled = λ some. by (heard_over v) refl some;
  } where
    by : (b : Bool) → heard_over v ≡ b → 0 < unended v.terms.rules w → IsWaitedOutForGood (patience v.terms.rules) w
    by true is some = heard_so v w closes.reached closes.heard is
    by false is some = absurd (let none = nothing_open (λ client low high. well client low high refl is) in omega (arith, none, some))
