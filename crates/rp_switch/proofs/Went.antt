-- What a gift makes of the world.
use Rattle.std.proofs.Common.{◌≡◌, ◌≢◌, ◌⊎◌, inl, inr, ⊎_elim, ℕ, suc, Bool, true, false, List, [], ◌∷◌, ◌++◌, refl, ap, sym, ◌∙◌, arith, subst, slice_get, Some}
use mathlib.Core.Logic.{dite}
use native.Mathlib.Decide.{ℕ_discrete}
use Rattle.rp_events.specs.Nodes.{Node}
use Rattle.rp_events.specs.Worlds.{World, Happening, Round, node_of, run}
use Rattle.rp_events.specs.Lawful.{AllLawful, IsReached, IsLater}
use Rattle.rp_journals.specs.Asked.{all_at, AskedOnce}
use Rattle.rp_journals.specs.Elsewhere.{IsAhead}
use Rattle.rp_journals.proofs.Growing.{later_grows, reached_later, one_node}
use Rattle.rp_race.specs.Gives.{Tried, AllSeen, AllMayTry, OnlyAdmitted, IsPart, MayEnd, tried_after, admitted_after, after_round}
use Rattle.rp_race.specs.Played.{IsTriesOf}
use Rattle.rp_race.specs.Race.{IsRace}
use Rattle.rp_race.specs.Rounds.{between, stage_of}
use Rattle.rp_switch.specs.declared.terms.Terms.{Terms}
use Rattle.rp_switch.specs.Views.{Rounds, Knowledge, right_at}
use Rattle.rp_switch.specs.Gifts.{tries_given, is_broken_off, tries_known, CarriesClient, AreAdmissions, IsRound, IsBrokenRound, IsGift, admissions, whole, broken_off}
use Rattle.rp_switch.proofs.Given.{quiet_trans, quiet_given, others_stay, stands_between, admissions_extend, given_tries, untouched, may_indeed, Agree}
use Rattle.rp_switch.proofs.Quiet.{quiet_part, quiet_end}
use Rattle.rp_switch.proofs.Places.{put, put_here, put_else}
use Rattle.rp_race.proofs.Keeping as keeping
use Rattle.rp_race.proofs.Going.{only_all}

-- the world that a gift leads to
pub record Went (t : Terms) (w : World) (broken : ℕ → Bool) (tries : Tried) (v : Knowledge) (place : ℕ) (before after : Node) : Type 0 where
  pub world : World
  pub broken_now : ℕ → Bool
  pub tries_now : Tried
  pub reached : IsReached t.nodes world
  pub later : IsLater w world
  pub race : IsRace t.rules broken_now world
  pub each : (client : ℕ) → IsTriesOf t.rules world client (tries_now client)
  pub has : slice_get world place ≡ Some after
  pub others : (q : ℕ) → q ≢ place → slice_get world q ≡ slice_get w q
  pub carried : (client : ℕ) → CarriesClient v client → tries_now client ≡ tries_given (suc place) client before after (tries client)
  pub uncarried : (client : ℕ) → (CarriesClient v client → ⊥) → tries_now client ≡ tries client
  pub broken_else : (q : ℕ) → q ≢ place → broken_now (suc q) ≡ broken (suc q)
  pub broken_lacks : (right_at v.rights place ≡ Rounds → ⊥) → broken_now (suc place) ≡ broken (suc place)
  pub broken_not : is_broken_off after ≡ false → broken (suc place) ≡ false → broken_now (suc place) ≡ false
  pub admitted : (right_at v.rights place ≡ Rounds → ⊥) → (earlier : Node) → OnlyAdmitted earlier before → OnlyAdmitted earlier after

-- what a gift stands on
pub record Ready (t : Terms) (w : World) (broken : ℕ → Bool) (tries : Tried) (v : Knowledge) (place : ℕ) (at : World) (before : Node) : Type 0 where
  pub terms : v.terms ≡ t
  pub reached : IsReached t.nodes w
  pub race : IsRace t.rules broken w
  pub each : (client : ℕ) → IsTriesOf t.rules w client (tries client)
  pub has : slice_get w place ≡ Some before
  pub had : slice_get at place ≡ Some before
  pub later : IsLater at w
  pub once : AskedOnce w
  pub seen : AllSeen t.nodes v.seen w
  pub agree : Agree v (tries_known v) tries

goes : (w : World) (xs : List Happening) (node : ℕ) → AllLawful w (all_at node xs) → IsLater w (run w (all_at node xs))
goes w xs node lawful = record { schedule = all_at node xs; lawful = lawful; reached = refl }

ahead : (t : Terms) (w : World) (broken : ℕ → Bool) (tries : Tried) (v : Knowledge) (place : ℕ) (at : World) (before : Node)
    → Ready t w broken tries v place at before → IsAhead at w (suc place)
ahead t w broken tries v place at before r = record {
  same = r.has ∙ sym r.had;
  grows = later_grows at w r.later;
  once = r.once;
}

by_admissions : (t : Terms) (w : World) (broken : ℕ → Bool) (tries : Tried) (v : Knowledge) (place : ℕ) (at : World) (before after : Node)
    → Ready t w broken tries v place at before → AreAdmissions v place before after → Went t w broken tries v place before after
by_admissions t w broken tries v place at before after r gift =
    let node : ℕ = suc place in
    let xs = gift.what in
    let may = subst (λ (u : Terms). AllMayTry u.rules u.nodes (suc place) before (tries_known v) gift.what) r.terms gift.may in
    let well = keeping.admits t.rules broken t.nodes node xs w r.reached r.race tries r.each before r.has
    (may_indeed t.rules t.nodes node v xs before (tries_known v) tries r.agree gift.carries may) in
    let extends = admissions_extend t.rules t.nodes node xs before (tries_known v) tries may in
    record {
      world = run w (all_at node xs);
      broken_now = broken;
      tries_now = tried_after node before tries xs;
      reached = reached_later t.nodes w (run w (all_at node xs)) r.reached (goes w xs node well.lawful);
      later = goes w xs node well.lawful;
      race = well.race;
      each = well.each;
      has = well.leaves ∙ ap Some (sym gift.leaves);
      others = λ q away. others_stay xs w node (suc q) (λ e. away (omega (arith, e)));
      carried = λ client c. subst (λ (y : Node). tried_after node before tries xs client ≡ tries_given node client before y (tries client)) (sym gift.leaves)
          (given_tries node before (admitted_after before xs) tries (tried_after node before tries xs) extends client);
      uncarried = λ client lacks. untouched t.rules t.nodes node v client lacks xs before (tries_known v) tries may gift.carries;
      broken_else = λ q away. refl;
      broken_lacks = λ lacks. refl;
      broken_not = λ not_off was. was;
      admitted = λ lacks earlier only. subst (λ (y : Node). OnlyAdmitted earlier y) (sym gift.leaves) (only_all t.rules t.nodes node earlier before only (tries_known v) xs may);
    }

by_round : (t : Terms) (w : World) (broken : ℕ → Bool) (tries : Tried) (v : Knowledge) (place : ℕ) (at : World) (before after : Node)
    → Ready t w broken tries v place at before → IsRound v place at after → Went t w broken tries v place before after
by_round t w broken tries v place at before after r gift =
    let node : ℕ = suc place in
    let xs = gift.what ++ Round ∷ [] in
    let part = subst (λ (u : Terms). IsPart u.rules node at v.seen gift.what gift.inside) r.terms gift.part in
    let may_end = subst (λ (u : Terms). MayEnd u.rules node v.seen gift.inside) r.terms gift.may_end in
    let well = keeping.whole t.rules broken t.nodes w r.reached r.race tries r.each at v.seen node (ahead t w broken tries v place at before r) r.seen gift.what gift.inside part may_end in
    let quiet = quiet_trans before gift.inside (after_round gift.inside) (quiet_part t.rules node gift.what at before gift.inside part.order r.had part.leaves) (quiet_end gift.inside) in
    record {
      world = run w (all_at node xs);
      broken_now = broken;
      tries_now = tries;
      reached = reached_later t.nodes w (run w (all_at node xs)) r.reached (goes w xs node well.lawful);
      later = goes w xs node well.lawful;
      race = well.race;
      each = well.each;
      has = well.leaves ∙ ap Some (sym gift.leaves);
      others = λ q away. others_stay xs w node (suc q) (λ e. away (omega (arith, e)));
      carried = λ client c. subst (λ (y : Node). tries client ≡ tries_given node client before y (tries client)) (sym gift.leaves)
          (sym (quiet_given before (after_round gift.inside) quiet node client (tries client)));
      uncarried = λ client lacks. refl;
      broken_else = λ q away. refl;
      broken_lacks = λ lacks. refl;
      broken_not = λ not_off was. was;
      admitted = λ lacks earlier only. absurd (lacks gift.carries);
    }

-- where a node stands between two rounds nothing of it was broken off
mended : (t : Terms) (w : World) (broken : ℕ → Bool) (node : ℕ) (n : Node) → IsRace t.rules (put broken node true) w → node_of w node ≡ Some n
    → is_broken_off n ≡ false → IsRace t.rules broken w
mended t w broken node n race has not_off = record {
  order = race.order;
  heard = race.heard;
  whole = λ k m is whole. dite (ℕ_discrete k node)
      (λ e. subst (λ (y : Node). stage_of y.journal ≡ between) (one_node w node n m has (ap (node_of w) (sym e) ∙ is)) (stands_between (stage_of n.journal) not_off))
      (λ away. race.whole k m is (put_else broken node k true away ∙ whole));
  owed = race.owed;
  in_turn = race.in_turn;
}

true_or_false : (b : Bool) → (b ≡ true) ⊎ (b ≡ false)
true_or_false true = inl refl
true_or_false false = inr refl

by_part : (t : Terms) (w : World) (broken : ℕ → Bool) (tries : Tried) (v : Knowledge) (place : ℕ) (at : World) (before after : Node)
    → Ready t w broken tries v place at before → IsBrokenRound v place at after → Went t w broken tries v place before after
by_part t w broken tries v place at before after r gift =
    let node : ℕ = suc place in
    let xs = gift.what in
    let now : ℕ → Bool = put broken node true in
    let part = subst (λ (u : Terms). IsPart u.rules node at v.seen xs after) r.terms gift.part in
    let well = keeping.broken_off t.rules broken now t.nodes w r.reached r.race tries r.each at v.seen node (ahead t w broken tries v place at before r) r.seen xs after part
    (put_here broken node node true refl) (λ k away e. sym (put_else broken node k true away) ∙ e) in
    let quiet = quiet_part t.rules node xs at before after part.order r.had part.leaves in
    ⊎_elim
    (λ off. record {
      world = run w (all_at node xs);
      broken_now = now;
      tries_now = tries;
      reached = reached_later t.nodes w (run w (all_at node xs)) r.reached (goes w xs node well.lawful);
      later = goes w xs node well.lawful;
      race = well.race;
      each = well.each;
      has = well.leaves;
      others = λ q away. others_stay xs w node (suc q) (λ e. away (omega (arith, e)));
      carried = λ client c. sym (quiet_given before after quiet node client (tries client));
      uncarried = λ client lacks. refl;
      broken_else = λ q away. put_else broken node (suc q) true (λ e. away (omega (arith, e)));
      broken_lacks = λ lacks. absurd (lacks gift.carries);
      broken_not = λ not_off was. absurd (cc);
      admitted = λ lacks earlier only. absurd (lacks gift.carries);
    })
    (λ on. record {
      world = run w (all_at node xs);
      broken_now = broken;
      tries_now = tries;
      reached = reached_later t.nodes w (run w (all_at node xs)) r.reached (goes w xs node well.lawful);
      later = goes w xs node well.lawful;
      race = mended t (run w (all_at node xs)) broken node after well.race well.leaves on;
      each = well.each;
      has = well.leaves;
      others = λ q away. others_stay xs w node (suc q) (λ e. away (omega (arith, e)));
      carried = λ client c. sym (quiet_given before after quiet node client (tries client));
      uncarried = λ client lacks. refl;
      broken_else = λ q away. refl;
      broken_lacks = λ lacks. refl;
      broken_not = λ not_off was. was;
      admitted = λ lacks earlier only. absurd (lacks gift.carries);
    })
    (true_or_false (is_broken_off after))

pub went : (t : Terms) (w : World) (broken : ℕ → Bool) (tries : Tried) (v : Knowledge) (place : ℕ) (at : World) (before after : Node)
    → Ready t w broken tries v place at before → IsGift v place at before after → Went t w broken tries v place before after
went t w broken tries v place at before after r (admissions gift) = by_admissions t w broken tries v place at before after r gift
went t w broken tries v place at before after r (whole gift) = by_round t w broken tries v place at before after r gift
went t w broken tries v place at before after r (broken_off gift) = by_part t w broken tries v place at before after r gift
