-- Rights that are handed out to threads, and what is joined again.
use Rattle.std.proofs.Common.{◌≡◌, ◌≢◌, ℕ, ◌+◌, ◌-◌, ◌%◌, ◌<◌, ◌≤◌, Bool, true, false, ◌||◌, [], refl, sym, ap, subst, ◌∙◌, arith, cond, eqb}
use Rattle.std.specs.Prelude.{if◌then◌else◌, ◌&&◌, ◌==◌}
use Rattle.std.proofs.lemmas.Bool.{eqb-true, eq-eqb, ne_eqb, le-ltb}
use Rattle.rp_bench.specs.Worked.{MayServe, IsWorked}
use Rattle.rp_clients.specs.Finals.{HasDoneAll}
use Rattle.rp_race.specs.Played.{requests_of}
use Rattle.rp_switch.specs.declared.terms.Terms.{Terms}
use Rattle.rp_switch.specs.Gifts.{IsTries, CarriesClient, tries_in, tries_known}
use Rattle.rp_switch.specs.Rules.{clients_of, first}
use Rattle.rp_switch.specs.Seats.{IsCarried, CarriesRounds}
use Rattle.rp_switch.specs.Views.{Right, Lacks, Tries, Rounds, BrokenOff, OfClient, OfWorker, Idle, Knowledge, right_at, either_right, choosing, left, right, both}
use Rattle.rp_switch.proofs.Backing.{right_handed, right_kept, client_handed, client_kept, rounds_handed, rounds_kept, clients_kept, right_joined, first_rounds, first_tries}
use Rattle.rp_desks.specs.Onward.{heard_over, is_lacking, IsOnward}
use Rattle.rp_racers.specs.Raced.{IsUntried, AreUntried, AreUnserved, EndsWell, EndWell, IsWhole, HaveRun}

-- where the other seat lacks a right, this one's stays
either_none : (r s : Right) → s ≡ Lacks → either_right r s ≡ r
either_none Lacks s e = e
either_none (Tries ts) s e = refl
either_none Rounds s e = refl
either_none BrokenOff s e = refl

-- and where this one lacks it, the other's comes
none_either : (r s : Right) → r ≡ Lacks → either_right r s ≡ s
none_either r s e = ap (λ q. either_right q s) e

lacking_is : (r : Right) → is_lacking r ≡ true → r ≡ Lacks
lacking_is Lacks e = refl
lacking_is (Tries ts) e = absurd cc
lacking_is Rounds e = absurd cc
lacking_is BrokenOff e = absurd cc

if_none : (b : Bool) (r : Right) → b ≡ false → (if b then r else Lacks) ≡ Lacks
if_none true r e = absurd cc
if_none false r e = refl

-- Before the threads start.
pub untried_at_first : (t : Terms) → AreUntried 1 (first t)
untried_at_first t client some low = first_tries t (t.nodes + client - 1) (omega (arith, some)) (omega (arith, some, low))

pub unserved_at_first : (t : Terms) (workers : ℕ) → AreUnserved 0 workers (first t)
unserved_at_first t workers place low past = first_rounds t place low

-- A client's right is handed out.
pub may_hand : (client : ℕ) (v : Knowledge) → client ≤ clients_of v.terms → AreUntried client v → CarriesClient v client
may_hand client v low all = subst IsTries (sym (all client (omega arith) low)) tt

pub its_untried : (client : ℕ) (v : Knowledge) → client ≤ clients_of v.terms → AreUntried client v → IsUntried client (right (choosing (OfClient client) v))
its_untried client v low all = client_handed client v ∙ all client (omega arith) low

pub others_untried : (client : ℕ) (v : Knowledge) → 1 ≤ client → AreUntried client v → AreUntried (client + 1) (left (choosing (OfClient client) v))
others_untried client v some all c past low =
    client_kept client v (v.terms.nodes + c - 1) (λ e. omega (arith, e, past, some)) ∙ all c (omega (arith, past)) low

gone_here : (client : ℕ) (v : Knowledge) → right_at (left (choosing (OfClient client) v)).rights (v.terms.nodes + client - 1) ≡ Lacks
gone_here client v =
    let k : ℕ = v.terms.nodes + client - 1 in
    right_kept (OfClient client) v k ∙ ap (λ (b : Bool). cond b Lacks (right_at v.rights k)) (eq-eqb k k refl)

lacks_else : (client : ℕ) (v : Knowledge) (k : ℕ) → k ≢ v.terms.nodes + client - 1 → right_at (right (choosing (OfClient client) v)).rights k ≡ Lacks
lacks_else client v k away =
    right_handed (OfClient client) v k ∙ if_none (eqb k (v.terms.nodes + client - 1)) (right_at v.rights k) (ne_eqb k (v.terms.nodes + client - 1) away)

-- The rights to the rounds of a worker's nodes are handed out.
pub may_hire : (worker workers : ℕ) (v : Knowledge) → AreUnserved worker workers v → CarriesRounds v worker workers
may_hire worker workers v all place low is = subst IsCarried (sym (all place low (omega (arith, is)))) tt

pub its_rounds : (worker workers : ℕ) (v : Knowledge) → AreUnserved worker workers v → MayServe (right (choosing (OfWorker worker workers) v)) worker workers
its_rounds worker workers v all place low is = rounds_handed worker workers v place low is ∙ all place low (omega (arith, is))

pub others_unserved : (worker workers : ℕ) (v : Knowledge) → AreUnserved worker workers v → AreUnserved (worker + 1) workers (left (choosing (OfWorker worker workers) v))
others_unserved worker workers v all place low past =
    rounds_kept worker workers v place (λ e. omega (arith, e, past)) ∙ all place low (omega (arith, past))

pub still_untried : (worker workers : ℕ) (v : Knowledge) → AreUntried 1 v → AreUntried 1 (left (choosing (OfWorker worker workers) v))
still_untried worker workers v all client some low =
    clients_kept worker workers v (v.terms.nodes + client - 1) (omega (arith, some)) ∙ all client some low

no_client : (worker workers : ℕ) (v : Knowledge) (k : ℕ) → v.terms.nodes ≤ k → right_at (right (choosing (OfWorker worker workers) v)).rights k ≡ Lacks
no_client worker workers v k past =
    right_handed (OfWorker worker workers) v k
    ∙ ap (λ (b : Bool). cond (b && k % workers == worker) (right_at v.rights k) Lacks) (le-ltb k v.terms.nodes past)

-- What is false behind a join was so before it.
either_false : (a b : Bool) → (a || b) ≡ false → (a ≡ false) × (b ≡ false)
either_false true b e = absurd cc
either_false false b e = (refl, e)

pub back : (a b : Bool) → (a ≡ true → b ≡ true) → b ≡ false → a ≡ false
back true b on e = let t = on refl in absurd cc
back false b on e = refl

-- a client has done as much by a seat with the same right
done_by : (client : ℕ) (v w : Knowledge) → w.terms ≡ v.terms → right_at w.rights (v.terms.nodes + client - 1) ≡ right_at v.rights (v.terms.nodes + client - 1)
    → HasDoneAll client (requests_of v.terms.rules client) (tries_known v client) → HasDoneAll client (requests_of w.terms.rules client) (tries_known w client)
done_by client v w terms same done =
    subst (λ (t : Terms). HasDoneAll client (requests_of t.rules client) (tries_in (right_at w.rights (t.nodes + client - 1)))) (sym terms)
    (subst (λ (r : Right). HasDoneAll client (requests_of v.terms.rules client) (tries_in r)) (sym same) done)

-- One client ran beside those behind it.
module _ (client : ℕ) (v rest one : Knowledge) (some : 1 ≤ client)
    (a : HaveRun (client + 1) (left (choosing (OfClient client) v)) rest) (b : IsOnward client (right (choosing (OfClient client) v)) one) where
  one_lacks : (k : ℕ) → k ≢ v.terms.nodes + client - 1 → right_at one.rights k ≡ Lacks
  one_lacks k away = lacking_is (right_at one.rights k) (b.lacks k (ap is_lacking (lacks_else client v k away)))

  rest_stays : (k : ℕ) → k ≢ v.terms.nodes + client - 1 → right_at (both rest one).rights k ≡ right_at rest.rights k
  rest_stays k away = right_joined rest one k ∙ either_none (right_at rest.rights k) (right_at one.rights k) (one_lacks k away)

  one_comes : right_at (both rest one).rights (v.terms.nodes + client - 1) ≡ right_at one.rights (v.terms.nodes + client - 1)
  one_comes =
      let k : ℕ = v.terms.nodes + client - 1 in
      right_joined rest one k ∙ none_either (right_at rest.rights k) (right_at one.rights k) (a.stays client some (omega arith) ∙ gone_here client v)

  pub ran : v.parts - 1 + 1 ≡ v.parts → HaveRun client v (both rest one)
  ran parts = record {
    whole = record {
      terms = a.whole.terms;
      parts = let x = a.whole.parts in let y = b.parts in omega (arith, x, y, parts);
      idle = a.whole.idle;
    };
    stays = λ c low less.
        let k : ℕ = v.terms.nodes + c - 1 in
        let away : k ≢ v.terms.nodes + client - 1 = λ e. omega (arith, e, low, less) in
        rest_stays k away ∙ (a.stays c low (omega (arith, less)) ∙ client_kept client v k away);
  }

  pub ended : (rest_short one_short : Bool) → (heard_over (both rest one) ≡ false → (heard_over rest ≡ false) × (heard_over one ≡ false))
      → EndWell (client + 1) rest_short rest → EndsWell client one_short one → EndWell client (rest_short || one_short) (both rest one)
  ended rest_short one_short heard ends end c past low none over =
      let short = either_false rest_short one_short none in
      go (eqb c client) refl short.0 short.1
    where
      same : one.terms ≡ rest.terms
      same = b.terms ∙ sym a.whole.terms

      here : one_short ≡ false → HasDoneAll client (requests_of rest.terms.rules client) (tries_known (both rest one) client)
      here s = done_by client one (both rest one) (sym same)
          (ap (λ (n : ℕ). right_at (both rest one).rights (n + client - 1)) (ap (λ (t : Terms). t.nodes) b.terms)
          ∙ (one_comes ∙ ap (λ (n : ℕ). right_at one.rights (n + client - 1)) (sym (ap (λ (t : Terms). t.nodes) b.terms))))
          (end s (heard over).1)

      else_ : rest_short ≡ false → c ≢ client → HasDoneAll c (requests_of rest.terms.rules c) (tries_known (both rest one) c)
      else_ s away = done_by c rest (both rest one) refl
          (rest_stays (rest.terms.nodes + c - 1) (λ e. away (let n = ap (λ (t : Terms). t.nodes) a.whole.terms in omega (arith, e, n, past, some))))
          (ends c (omega (arith, past, away)) low s (heard over).0)

      go : (x : Bool) → eqb c client ≡ x → rest_short ≡ false → one_short ≡ false → HasDoneAll c (requests_of rest.terms.rules c) (tries_known (both rest one) c)
      go true e s t = subst (λ (z : ℕ). HasDoneAll z (requests_of rest.terms.rules z) (tries_known (both rest one) z)) (sym (eqb-true c client e)) (here t)
      go false e s t = else_ s (λ is. let yes = eq-eqb c client is in absurd cc)

-- The same of seats that are known to be these.
pub all_ran : (client : ℕ) (v mine its rest one all : Knowledge) → 1 ≤ client → mine ≡ left (choosing (OfClient client) v) → its ≡ right (choosing (OfClient client) v)
    → all ≡ both rest one → mine.parts + 1 ≡ v.parts → HaveRun (client + 1) mine rest → IsOnward client its one → HaveRun client v all
all_ran client v mine its rest one all some mine_is its_is all_is parts a b =
    subst (HaveRun client v) (sym all_is) (ran client v rest one some
    (subst (λ k. HaveRun (client + 1) k rest) mine_is a) (subst (λ k. IsOnward client k one) its_is b)
    (subst (λ (k : Knowledge). k.parts + 1 ≡ v.parts) mine_is parts))

pub all_ended : (client : ℕ) (v mine its rest one all : Knowledge) (short rest_short one_short : Bool) → 1 ≤ client
    → mine ≡ left (choosing (OfClient client) v) → its ≡ right (choosing (OfClient client) v) → all ≡ both rest one
    → short ≡ (rest_short || one_short) → (heard_over all ≡ false → (heard_over rest ≡ false) × (heard_over one ≡ false))
    → HaveRun (client + 1) mine rest → IsOnward client its one → EndWell (client + 1) rest_short rest → EndsWell client one_short one → EndWell client short all
all_ended client v mine its rest one all short rest_short one_short some mine_is its_is all_is short_is heard a b ends end =
    subst (λ k. EndWell client short k) (sym all_is) (subst (λ s. EndWell client s (both rest one)) (sym short_is)
    (ended client v rest one some
    (subst (λ k. HaveRun (client + 1) k rest) mine_is a) (subst (λ k. IsOnward client k one) its_is b)
    rest_short one_short (subst (λ k. heard_over k ≡ false → (heard_over rest ≡ false) × (heard_over one ≡ false)) all_is heard) ends end))

-- One without requests was passed over.
module _ (client : ℕ) (v w : Knowledge) (some : 1 ≤ client) (a : HaveRun (client + 1) v w) where
  pub passed : HaveRun client v w
  passed = record { whole = a.whole; stays = λ c low less. a.stays c low (omega (arith, less)) }

  pub passed_ended : (is_short : Bool) → requests_of v.terms.rules client ≡ [] → IsUntried client v → EndWell (client + 1) is_short w → EndWell client is_short w
  passed_ended is_short nothing untried ends c past low none over = go (eqb c client) refl
    where
      here : HasDoneAll client (requests_of w.terms.rules client) (tries_known w client)
      here = done_by client v w a.whole.terms (a.stays client some (omega arith))
          (subst (λ rs. HasDoneAll client rs (tries_known v client)) (sym nothing)
          (subst (λ (r : Right). HasDoneAll client [] (tries_in r)) (sym untried) refl))

      go : (x : Bool) → eqb c client ≡ x → HasDoneAll c (requests_of w.terms.rules c) (tries_known w c)
      go true e = subst (λ (z : ℕ). HasDoneAll z (requests_of w.terms.rules z) (tries_known w z)) (sym (eqb-true c client e)) here
      go false e =
          let away : c ≢ client = λ is. let yes = eq-eqb c client is in absurd cc in
          ends c (omega (arith, past, away)) low none over

-- Behind the last client there is none.
pub none_ran : (from : ℕ) (v : Knowledge) → v.stage ≡ Idle → HaveRun from v v
none_ran from v idle = record {
  whole = record { terms = refl; parts = refl; idle = idle };
  stays = λ c low less. refl;
}

pub none_ended : (from : ℕ) (is_short : Bool) (v : Knowledge) → clients_of v.terms < from → EndWell from is_short v
none_ended from is_short v past c above low none over = absurd (omega (arith, past, above, low))

-- One worker served beside those behind it and the clients.
module _ (worker workers : ℕ) (v rest one : Knowledge)
    (a : IsWhole (left (choosing (OfWorker worker workers) v)) rest) (b : IsWorked (right (choosing (OfWorker worker workers) v)) one) where
  pub served : v.parts - 1 + 1 ≡ v.parts → IsWhole v (both rest one)
  served parts = record {
    terms = a.terms;
    parts = let x = a.parts in let y = b.parts in omega (arith, x, y, parts);
    idle = a.idle;
  }

  pub ended_beside : (rest_short one_short : Bool) → (heard_over (both rest one) ≡ false → heard_over rest ≡ false)
      → EndWell 1 rest_short rest → EndWell 1 (rest_short || one_short) (both rest one)
  ended_beside rest_short one_short heard ends c some low none over =
      let k : ℕ = rest.terms.nodes + c - 1 in
      let nodes = ap (λ (t : Terms). t.nodes) a.terms in
      let lacks = b.lacks k (no_client worker workers v k (omega (arith, some, nodes))) in
      done_by c rest (both rest one) refl (right_joined rest one k ∙ either_none (right_at rest.rights k) (right_at one.rights k) lacks)
      (ends c some low (either_false rest_short one_short none).0 (heard over))

-- The same of seats that are known to be these.
pub all_served : (worker workers : ℕ) (v mine its rest one all : Knowledge) → mine ≡ left (choosing (OfWorker worker workers) v)
    → its ≡ right (choosing (OfWorker worker workers) v) → all ≡ both rest one → mine.parts + 1 ≡ v.parts
    → IsWhole mine rest → IsWorked its one → IsWhole v all
all_served worker workers v mine its rest one all mine_is its_is all_is parts a b =
    subst (IsWhole v) (sym all_is) (served worker workers v rest one
    (subst (λ k. IsWhole k rest) mine_is a) (subst (λ k. IsWorked k one) its_is b)
    (subst (λ (k : Knowledge). k.parts + 1 ≡ v.parts) mine_is parts))

pub all_ended_beside : (worker workers : ℕ) (v mine its rest one all : Knowledge) (short rest_short one_short : Bool)
    → mine ≡ left (choosing (OfWorker worker workers) v) → its ≡ right (choosing (OfWorker worker workers) v) → all ≡ both rest one
    → short ≡ (rest_short || one_short) → (heard_over all ≡ false → heard_over rest ≡ false)
    → IsWhole mine rest → IsWorked its one → EndWell 1 rest_short rest → EndWell 1 short all
all_ended_beside worker workers v mine its rest one all short rest_short one_short mine_is its_is all_is short_is heard a b ends =
    subst (λ k. EndWell 1 short k) (sym all_is) (subst (λ s. EndWell 1 s (both rest one)) (sym short_is)
    (ended_beside worker workers v rest one
    (subst (λ k. IsWhole k rest) mine_is a) (subst (λ k. IsWorked k one) its_is b)
    rest_short one_short (subst (λ k. heard_over k ≡ false → heard_over rest ≡ false) all_is heard) ends))
