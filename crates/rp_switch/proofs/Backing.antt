-- What a caller may give back of a node that it has taken, and what it then has.
use Rattle.std.proofs.Common.{◌≡◌, ◌≢◌, ℕ, zero, suc, ◌+◌, ◌-◌, ◌<◌, ◌≤◌, eqb, cond, Bool, true, false, ◌&&◌, if◌then◌else◌, ◌==◌, ◌%◌, List, [], ◌++◌, length, replicate, refl, ap, sym, ◌∙◌, arith, subst, slice_get, slice_set, Some, Ok}
use Rattle.std.specs.Prelude.{nat_lt}
use Rattle.std.proofs.lemmas.Bool.{eqb-true, eq-eqb, ne_eqb, lt-ltb, le-ltb}
use Rattle.rp_clients.specs.Tries.{Try, learns}
use Rattle.rp_clients.specs.declared.answers.Answer.{Answer}
use Rattle.rp_clients.specs.declared.answers.Answer.TheVariants as answers
use Rattle.rp_events.specs.Nodes.{Node}
use Rattle.rp_events.specs.Worlds.{World}
use Rattle.rp_journals.proofs.Lists.{set_other}
use Rattle.rp_race.specs.Gives.{OnlyAdmitted, tried_after, admitted_after, after_round}
use Rattle.rp_switch.specs.declared.switch.Taken.{Taken}
use Rattle.rp_switch.specs.declared.terms.Terms.{Terms}
use Rattle.rp_switch.specs.Views.{Right, Lacks, Tries, Rounds, BrokenOff, Choice, OfClient, OfWorker, Chooses, Knowledge, right_at, is_chosen, either_right, right_told, choosing, fetching, at_rest, left, right, both}
use Rattle.rp_switch.specs.Rules.{IsNow, clients_of, first}
use Rattle.rp_switch.specs.Gifts.{tries_given, is_broken_off, tries_in, tries_known, IsTries, CarriesClient, AreAdmissions, IsRound, IsBrokenRound, IsGift, admissions, MayGive}
use Rattle.rp_switch.specs.Plays.{right_given, giving}
use Rattle.rp_switch.specs.Seats.{Takes}
use Rattle.rp_switch.proofs.Given.{admissions_extend, given_tries, quiet_given, quiet_trans}
use Rattle.rp_switch.proofs.Quiet.{quiet_part, quiet_end}
use Rattle.rp_switch.proofs.Nows.{set_at}
use Rattle.rp_switch.proofs.Rights.{in_chosen, in_others, together_at}
use Rattle.rp_switch.proofs.Giving.{at_given}
use Rattle.rp_switch.proofs.Posting.{at_told}

-- the node that was taken is what the seat has seen
pub took_it : (v : Knowledge) (node : ℕ) (at : World) (n : Node) → 1 ≤ node → node ≤ v.terms.nodes → IsNow v at
    → slice_get (slice_set v.seen (node - 1) n) (node - 1) ≡ Some n
took_it v node at n some low now = let size = now.past.size in set_at v.seen (node - 1) n (omega (arith, some, low, size))

-- where the seat may play the node's rounds there were only admissions since it saw the node before
pub only_admitted : (v : Knowledge) (node : ℕ) (at : World) (before n : Node) → IsNow v at → right_at v.rights (node - 1) ≡ Rounds
    → slice_get v.seen (node - 1) ≡ Some before → slice_get at (node - 1) ≡ Some n → OnlyAdmitted before n
only_admitted v node at before n now rounds saw has = now.admitted (node - 1) before n rounds saw has

module _ {E : Type 0} where
  -- what may be given of it, by the node as it was taken
  pub may_give : (v w : Knowledge) (node : ℕ) (t : Taken E) (after : Node) → 1 ≤ node → node ≤ v.terms.nodes → (taken : Takes v node (Ok t) w)
      → IsGift w (node - 1) taken.0 t.node.node after → MayGive w w.stage t.number after
  may_give v w node t after some low taken gift =
      subst (λ st. MayGive w st t.number after) (sym (ap (λ (u : Knowledge). u.stage) taken.4)) (
        taken.3 ∙ omega (arith, some),
        record {
          before = t.node.node;
          took = ap (λ (u : Knowledge). slice_get u.seen (node - 1)) taken.4 ∙ took_it v node taken.0 t.node.node some low taken.1;
          gift = gift;
        },
      )

  -- it may be given back as it is
  pub may_give_back : (v w : Knowledge) (node : ℕ) (t : Taken E) → 1 ≤ node → node ≤ v.terms.nodes → Takes v node (Ok t) w
      → MayGive w w.stage t.number t.node.node
  may_give_back v w node t some low taken =
      may_give v w node t t.node.node some low taken (admissions (record { what = []; may = tt; carries = tt; leaves = refl }))

-- Behind a give: each right by its place.
pub right_after : (place : ℕ) (before after : Node) (v : Knowledge) (k : ℕ)
    → right_at (giving place before after v).rights k ≡ right_given v.terms.nodes place before after k (right_at v.rights k)
right_after place before after v k = at_given v.terms.nodes place before after v.rights k

-- the right to a node's rounds stays where no round of it was broken off
pub rounds_stay : (place : ℕ) (before after : Node) (v : Knowledge) (k : ℕ) → right_at v.rights k ≡ Rounds
    → (k ≡ place → is_broken_off after ≡ false) → right_at (giving place before after v).rights k ≡ Rounds
rounds_stay place before after v k rounds whole =
    right_after place before after v k ∙ ap (right_given v.terms.nodes place before after k) rounds ∙ by_test (eqb k place) refl
  where
    by_test : (b : Bool) → eqb k place ≡ b → cond (eqb k place && is_broken_off after) BrokenOff Rounds ≡ Rounds
    by_test true same = ap (λ b. cond (b && is_broken_off after) BrokenOff Rounds) same ∙ ap (λ b. cond b BrokenOff Rounds) (whole (eqb-true k place same))
    by_test false same = ap (λ b. cond (b && is_broken_off after) BrokenOff Rounds) same

-- and is broken off where one was
pub rounds_break : (place : ℕ) (before after : Node) (v : Knowledge) → right_at v.rights place ≡ Rounds → is_broken_off after ≡ true
    → right_at (giving place before after v).rights place ≡ BrokenOff
rounds_break place before after v rounds off =
    right_after place before after v place ∙ ap (right_given v.terms.nodes place before after place) rounds
    ∙ ap (λ b. cond (b && is_broken_off after) BrokenOff Rounds) (eq-eqb place place refl) ∙ ap (λ b. cond b BrokenOff Rounds) off

pub broken_stays : (place : ℕ) (before after : Node) (v : Knowledge) (k : ℕ) → right_at v.rights k ≡ BrokenOff
    → right_at (giving place before after v).rights k ≡ BrokenOff
broken_stays place before after v k broken = right_after place before after v k ∙ ap (right_given v.terms.nodes place before after k) broken

given_tries_in : (nodes place : ℕ) (before after : Node) (k : ℕ) (r : Right) → IsTries r
    → (tries_in (right_given nodes place before after k r) ≡ tries_given (suc place) (suc (k - nodes)) before after (tries_in r))
    × IsTries (right_given nodes place before after k r)
given_tries_in nodes place before after k Lacks is = absurd is
given_tries_in nodes place before after k (Tries ts) is = (refl, tt)
given_tries_in nodes place before after k Rounds is = absurd is
given_tries_in nodes place before after k BrokenOff is = absurd is

-- a client's right stays, and goes on by what the node's journal has since
pub carries_after : (place : ℕ) (before after : Node) (v : Knowledge) (client : ℕ) → CarriesClient v client → CarriesClient (giving place before after v) client
carries_after place before after v client carries =
    let k : ℕ = v.terms.nodes + client - 1 in
    subst IsTries (sym (right_after place before after v k)) (given_tries_in v.terms.nodes place before after k (right_at v.rights k) carries).1

pub tries_after : (place : ℕ) (before after : Node) (v : Knowledge) (client : ℕ) → 1 ≤ client → CarriesClient v client
    → tries_known (giving place before after v) client ≡ tries_given (suc place) client before after (tries_known v client)
tries_after place before after v client some carries =
    let k : ℕ = v.terms.nodes + client - 1 in
    let same : suc (k - v.terms.nodes) ≡ client = omega (arith, some) in
    ap tries_in (right_after place before after v k)
    ∙ (given_tries_in v.terms.nodes place before after k (right_at v.rights k) carries).0
    ∙ ap (λ (c : ℕ). tries_given (suc place) c before after (tries_in (right_at v.rights k))) same

-- by admissions: by the tries that they are
pub tries_admitted : (v : Knowledge) (place : ℕ) (before after : Node) → (gift : AreAdmissions v place before after)
    → (client : ℕ) → 1 ≤ client → CarriesClient v client
    → tries_known (giving place before after v) client ≡ tried_after (suc place) before (tries_known v) gift.what client
tries_admitted v place before after gift client some carries =
    tries_after place before after v client some carries
    ∙ subst (λ (y : Node). tries_given (suc place) client before y (tries_known v client) ≡ tried_after (suc place) before (tries_known v) gift.what client) (sym gift.leaves)
    (sym (given_tries (suc place) before (admitted_after before gift.what) (tries_known v) (tried_after (suc place) before (tries_known v) gift.what)
    (admissions_extend v.terms.rules v.terms.nodes (suc place) gift.what before (tries_known v) (tries_known v) gift.may) client))

-- a round, whole or broken off, leaves them
pub tries_of_round : (v : Knowledge) (place : ℕ) (at : World) (before after : Node) → slice_get at place ≡ Some before → IsRound v place at after
    → (client : ℕ) → 1 ≤ client → CarriesClient v client → tries_known (giving place before after v) client ≡ tries_known v client
tries_of_round v place at before after had gift client some carries =
    tries_after place before after v client some carries
    ∙ subst (λ (y : Node). tries_given (suc place) client before y (tries_known v client) ≡ tries_known v client) (sym gift.leaves)
    (quiet_given before (after_round gift.inside)
    (quiet_trans before gift.inside (after_round gift.inside)
    (quiet_part v.terms.rules (suc place) gift.what at before gift.inside gift.part.order had gift.part.leaves) (quiet_end gift.inside))
    (suc place) client (tries_known v client))

pub tries_of_part : (v : Knowledge) (place : ℕ) (at : World) (before after : Node) → slice_get at place ≡ Some before → IsBrokenRound v place at after
    → (client : ℕ) → 1 ≤ client → CarriesClient v client → tries_known (giving place before after v) client ≡ tries_known v client
tries_of_part v place at before after had gift client some carries =
    tries_after place before after v client some carries
    ∙ quiet_given before after (quiet_part v.terms.rules (suc place) gift.what at before after gift.part.order had gift.part.leaves) (suc place) client (tries_known v client)

-- the seat has seen the node as it gave it, and the others as before
pub seen_after : (place : ℕ) (before after : Node) (v : Knowledge) → place < length v.seen → slice_get (giving place before after v).seen place ≡ Some after
seen_after place before after v low = set_at v.seen place after low

pub seen_else : (place : ℕ) (before after : Node) (v : Knowledge) (q : ℕ) → q ≢ place → slice_get (giving place before after v).seen q ≡ slice_get v.seen q
seen_else place before after v q away = set_other v.seen place q after away

-- Behind a fetch: the client's right has learnt of the end.
pub right_fetched : (word place : ℕ) (a : Answer) (at : World) (v : Knowledge) (k : ℕ)
    → right_at (at_rest (fetching word place a at v)).rights k ≡ (if k == word then right_told a (right_at v.rights k) else right_at v.rights k)
right_fetched word place a at v k = at_told a word v.rights k

abbrev pub tries_told : Answer → List Try → List Try
tries_told (answers.Ended id outcome) ts = learns id outcome ts
tries_told answers.Over ts = ts
tries_told answers.NoMemory ts = ts

told_tries : (a : Answer) (r : Right) → IsTries r → (tries_in (right_told a r) ≡ tries_told a (tries_in r)) × IsTries (right_told a r)
told_tries (answers.Ended id outcome) Lacks is = absurd is
told_tries (answers.Ended id outcome) (Tries ts) is = (refl, tt)
told_tries (answers.Ended id outcome) Rounds is = absurd is
told_tries (answers.Ended id outcome) BrokenOff is = absurd is
told_tries answers.Over r is = (refl, is)
told_tries answers.NoMemory r is = (refl, is)

fetched_here : (client : ℕ) (a : Answer) (at : World) (v : Knowledge)
    → right_at (at_rest (fetching (v.terms.nodes + client - 1) (client - 1) a at v)).rights (v.terms.nodes + client - 1) ≡ right_told a (right_at v.rights (v.terms.nodes + client - 1))
fetched_here client a at v =
    let k : ℕ = v.terms.nodes + client - 1 in
    right_fetched k (client - 1) a at v k ∙ ap (λ (b : Bool). cond b (right_told a (right_at v.rights k)) (right_at v.rights k)) (eq-eqb k k refl)

pub carries_fetched : (client : ℕ) (a : Answer) (at : World) (v : Knowledge) → CarriesClient v client
    → CarriesClient (at_rest (fetching (v.terms.nodes + client - 1) (client - 1) a at v)) client
carries_fetched client a at v carries = subst IsTries (sym (fetched_here client a at v)) (told_tries a (right_at v.rights (v.terms.nodes + client - 1)) carries).1

pub tries_fetched : (client : ℕ) (a : Answer) (at : World) (v : Knowledge) → CarriesClient v client
    → tries_known (at_rest (fetching (v.terms.nodes + client - 1) (client - 1) a at v)) client ≡ tries_told a (tries_known v client)
tries_fetched client a at v carries = ap tries_in (fetched_here client a at v) ∙ (told_tries a (right_at v.rights (v.terms.nodes + client - 1)) carries).0

-- Behind a split: what is chosen is the new seat's, and the rest the old one's.
pub right_handed : (c : Choice) (v : Knowledge) (k : ℕ)
    → right_at (right (choosing c v)).rights k ≡ (if is_chosen v.terms.nodes (Chooses c) k then right_at v.rights k else Lacks)
right_handed c v k = in_chosen (is_chosen v.terms.nodes (Chooses c)) v.rights k

pub right_kept : (c : Choice) (v : Knowledge) (k : ℕ)
    → right_at (left (choosing c v)).rights k ≡ (if is_chosen v.terms.nodes (Chooses c) k then Lacks else right_at v.rights k)
right_kept c v k = in_others (is_chosen v.terms.nodes (Chooses c)) v.rights k

pub client_handed : (client : ℕ) (v : Knowledge)
    → right_at (right (choosing (OfClient client) v)).rights (v.terms.nodes + client - 1) ≡ right_at v.rights (v.terms.nodes + client - 1)
client_handed client v =
    let k : ℕ = v.terms.nodes + client - 1 in
    right_handed (OfClient client) v k ∙ ap (λ (b : Bool). cond b (right_at v.rights k) Lacks) (eq-eqb k k refl)

pub client_kept : (client : ℕ) (v : Knowledge) (k : ℕ) → k ≢ v.terms.nodes + client - 1
    → right_at (left (choosing (OfClient client) v)).rights k ≡ right_at v.rights k
client_kept client v k away =
    right_kept (OfClient client) v k ∙ ap (λ (b : Bool). cond b Lacks (right_at v.rights k)) (ne_eqb k (v.terms.nodes + client - 1) away)

pub rounds_handed : (worker workers : ℕ) (v : Knowledge) (place : ℕ) → place < v.terms.nodes → place % workers ≡ worker
    → right_at (right (choosing (OfWorker worker workers) v)).rights place ≡ right_at v.rights place
rounds_handed worker workers v place low is =
    right_handed (OfWorker worker workers) v place
    ∙ ap (λ (b : Bool). cond (b && place % workers == worker) (right_at v.rights place) Lacks) (lt-ltb place v.terms.nodes low)
    ∙ ap (λ (b : Bool). cond b (right_at v.rights place) Lacks) (eq-eqb (place % workers) worker is)

pub rounds_kept : (worker workers : ℕ) (v : Knowledge) (place : ℕ) → place % workers ≢ worker
    → right_at (left (choosing (OfWorker worker workers) v)).rights place ≡ right_at v.rights place
rounds_kept worker workers v place away =
    right_kept (OfWorker worker workers) v place
    ∙ ap (λ (b : Bool). cond (nat_lt place v.terms.nodes && b) Lacks (right_at v.rights place)) (ne_eqb (place % workers) worker away)
    ∙ by_test (nat_lt place v.terms.nodes)
  where
    by_test : (b : Bool) → cond (b && false) Lacks (right_at v.rights place) ≡ right_at v.rights place
    by_test true = refl
    by_test false = refl

pub clients_kept : (worker workers : ℕ) (v : Knowledge) (k : ℕ) → v.terms.nodes ≤ k
    → right_at (left (choosing (OfWorker worker workers) v)).rights k ≡ right_at v.rights k
clients_kept worker workers v k past =
    right_kept (OfWorker worker workers) v k
    ∙ ap (λ (b : Bool). cond (b && k % workers == worker) Lacks (right_at v.rights k)) (le-ltb k v.terms.nodes past)

-- Behind a join: each right is the one's or the other's.
pub right_joined : (v w : Knowledge) (k : ℕ) → right_at (both v w).rights k ≡ either_right (right_at v.rights k) (right_at w.rights k)
right_joined v w k = together_at v.rights w.rights k

-- The first seat's rights.
rounds_first : (n k : ℕ) (rest : List Right) → k < n → right_at (replicate n Rounds ++ rest) k ≡ Rounds
rounds_first zero k rest low = absurd (omega (arith, low))
rounds_first (suc n) zero rest low = refl
rounds_first (suc n) (suc k) rest low = rounds_first n k rest (omega (arith, low))

none_tried : (c k : ℕ) → k < c → right_at (replicate c (Tries [])) k ≡ Tries []
none_tried zero k low = absurd (omega (arith, low))
none_tried (suc c) zero low = refl
none_tried (suc c) (suc k) low = none_tried c k (omega (arith, low))

tries_first : (n c k : ℕ) → n ≤ k → k < n + c → right_at (replicate n Rounds ++ replicate c (Tries [])) k ≡ Tries []
tries_first zero c k past low = none_tried c k (omega (arith, low))
tries_first (suc n) c zero past low = absurd (omega (arith, past))
tries_first (suc n) c (suc k) past low = tries_first n c k (omega (arith, past)) (omega (arith, low))

pub first_rounds : (t : Terms) (place : ℕ) → place < t.nodes → right_at (first t).rights place ≡ Rounds
first_rounds t place low = rounds_first t.nodes place (replicate (clients_of t) (Tries [])) low

pub first_tries : (t : Terms) (k : ℕ) → t.nodes ≤ k → k < t.nodes + clients_of t → right_at (first t).rights k ≡ Tries []
first_tries t k past low = tries_first t.nodes (clients_of t) k past low
