-- What is kept of all nodes, along a visit.
use Rattle.std.proofs.Common.{◌≡◌, ◌≢◌, ℕ, zero, suc, ◌+◌, ◌-◌, ◌<◌, ◌≤◌, ⊎_elim, Bool, true, false, List, length, refl, sym, ap, subst, ◌∙◌, arith, slice_get, Option, Some, None, Result, Ok, Err, OnOk}
use Rattle.std.proofs.lemmas.Bool.{cases_eq}
use Rattle.rp_base.specs.declared.memory.NoMemory.{NoMemory}
use Rattle.rp_journals.specs.Growth.{Begins}
use Rattle.rp_journals.proofs.Growing.{some_node}
use Rattle.rp_journals.proofs.Lists.{begins_refl}
use Rattle.rp_events.specs.Nodes.{Node}
use Rattle.rp_events.specs.Worlds.{World, node_of}
use Rattle.rp_switch.specs.declared.terms.Terms.{Terms}
use Rattle.rp_switch.specs.Views.{Knowledge}
use Rattle.rp_serving.specs.declared.lanes.Lane.{Lane}
use Rattle.rp_serving.specs.Mails.{lane_in, IsMailOf, IsUpToDate}
use Rattle.rp_serving.proofs.Halfway.{there_in}
use Rattle.rp_bench.specs.declared.stations.Station.{Station}
use Rattle.rp_bench.specs.Dues.{IsPulled}
use Rattle.rp_bench.specs.Stations.{AreSeen, Serves, AllServe, IsAtWork, Changes, OthersStay, Notes, Copies, CopiesInto}
use Rattle.rp_bench.specs.Worked.{is_idle}
use Rattle.rp_bench.proofs.Visited.{Visit, seen_size, seen_here, seen_there, saw_before, grew}
use Rattle.rp_bench.proofs.Kept.{begins_long, numbered, mail_copied, copied_all, grew_from, serves_other, serves_same}

pub some_station : (a b : Station) → ◌≡◌ {A = Option Station} (Some a) (Some b) → a ≡ b
some_station a b e = cc

abbrev pub SameSight : Station → Station → Type 0
SameSight s t = (t.rounds ≡ s.rounds) × (t.waited ≡ s.waited)

abbrev pub SamePlay : Station → Station → Type 0
SamePlay s t = (t.may_play ≡ s.may_play) × (t.mail ≡ s.mail)

pub node_at : (seen : World) (k : ℕ) → 1 ≤ k → (x : Node) → slice_get seen (k - 1) ≡ Some x → node_of seen k ≡ Some x
node_at seen zero low x e = absurd (omega (arith, low))
node_at seen (suc place) low x e = ap (slice_get seen) (let z : place ≡ suc place - 1 = omega arith in z) ∙ e

moved : (seen later : World) (k : ℕ) → 1 ≤ k → (x : Node) → node_of later k ≡ Some x → slice_get later (k - 1) ≡ slice_get seen (k - 1) → node_of seen k ≡ Some x
moved seen later zero low x e same = absurd (omega (arith, low))
moved seen later (suc place) low x e same =
    let z : place ≡ suc place - 1 = omega arith in
    ap (slice_get seen) z ∙ sym same ∙ ap (slice_get later) (sym z) ∙ e

-- the station as it was
record Was (P : Station → Station → Type 0) (old : List Station) (q : ℕ) (t : Station) : Type 0 where
  s : Station
  here : slice_get old q ≡ Some s
  is : P s t

was : (p : ℕ) (how : Station → Station → Type 0) (old new : List Station) → Changes p how old new → OthersStay p old new → (P : Station → Station → Type 0)
    → ((s t : Station) → how s t → P s t) → ((s : Station) → P s s) → (q : ℕ) (t : Station) → slice_get new q ≡ Some t → Was P old q t
was p how old new c others P at stay q t here = ⊎_elim
    (λ (same : q ≡ p). record {
      s = c.0;
      here = ap (slice_get old) same ∙ c.2;
      is = subst (P c.0) (some_station c.1 t (sym c.3 ∙ ap (slice_get new) (sym same) ∙ here)) (at c.0 c.1 c.4);
    })
    (λ (away : q ≡ p → ⊥). record { s = t; here = sym (others q away) ∙ here; is = stay t })
    (cases_eq q p)

-- the nodes are seen as they are, but for one
abbrev pub SeenBut : (p : ℕ) → World → List Station → Type 0
SeenBut p seen stations = (place : ℕ) (n : Node) (s : Station) → place ≢ p → slice_get seen place ≡ Some n → slice_get stations place ≡ Some s
    → (s.rounds ≡ n.rounds) × (s.waited ≡ n.waited)

pub but_on : (p : ℕ) (seen : World) (q : ℕ) (how : Station → Station → Type 0) (old new : List Station) → Changes q how old new → OthersStay q old new
    → ((s t : Station) → how s t → SameSight s t) → SeenBut p seen old → SeenBut p seen new
but_on p seen q how old new c others at but place n t away saw here =
    let b = was q how old new c others SameSight at (λ s. (refl, refl)) place t here in
    let is = but place n b.s away saw b.here in
    (b.is.0 ∙ is.0, b.is.1 ∙ is.1)

pub seen_on : (seen : World) (q : ℕ) (how : Station → Station → Type 0) (old new : List Station) → Changes q how old new → OthersStay q old new
    → ((s t : Station) → how s t → SameSight s t) → AreSeen seen old → AreSeen seen new
seen_on seen q how old new c others at are place n t saw here =
    let b = was q how old new c others SameSight at (λ s. (refl, refl)) place t here in
    let is = are place n b.s saw b.here in
    (b.is.0 ∙ is.0, b.is.1 ∙ is.1)

pub seen_noted : (p : ℕ) (seen : World) (n : Node) (old new : List Station) → SeenBut p seen old → slice_get seen p ≡ Some n → Changes p (Notes n) old new → OthersStay p old new
    → AreSeen seen new
seen_noted p seen n old new but saw_n c others place m t saw here = ⊎_elim
    (λ (same : place ≡ p).
    let n_is : n ≡ m = some_node n m (sym saw_n ∙ ap (slice_get seen) (sym same) ∙ saw) in
    let t_is : c.1 ≡ t = some_station c.1 t (sym c.3 ∙ ap (slice_get new) (sym same) ∙ here) in (
      ap (λ (z : Station). z.rounds) (sym t_is) ∙ ap (λ (z : Station). z.rounds) c.4 ∙ ap (λ (z : Node). z.rounds) n_is,
      ap (λ (z : Station). z.waited) (sym t_is) ∙ ap (λ (z : Station). z.waited) c.4 ∙ ap (λ (z : Node). z.waited) n_is,
    ))
    (λ (away : place ≡ p → ⊥). but place m t away saw (sym (others place away) ∙ here))
    (cases_eq place p)

pub serve_on : (w : Knowledge) (q : ℕ) (how : Station → Station → Type 0) (old new : List Station) → Changes q how old new → OthersStay q old new
    → ((s t : Station) → how s t → SamePlay s t) → AllServe w old → AllServe w new
serve_on w q how old new c others at all place n t saw here may =
    let b = was q how old new c others SamePlay at (λ s. (refl, refl)) place t here in
    subst (Serves w place n) (sym b.is.1) (all place n b.s saw b.here (sym b.is.0 ∙ may))

-- a note changes nothing of the rounds that may be played
pub note_plays : (n : Node) (s t : Station) → Notes n s t → SamePlay s t
note_plays n s t is = (ap (λ (z : Station). z.may_play) is, ap (λ (z : Station). z.mail) is)

module _ (v w : Knowledge) (node : ℕ) (at : World) (before after : Node) (s : Visit v node at before after w) where
  pub but_visited : (stations : List Station) → AreSeen v.seen stations → SeenBut (node - 1) w.seen stations
  but_visited stations are place n t away saw here = are place n t (sym (seen_there v w node at before after s place away) ∙ saw) here

  pub still_idle : is_idle w.stage ≡ true
  still_idle = ap is_idle s.idle

  pub still_long : length v.seen ≡ v.terms.nodes → length w.seen ≡ w.terms.nodes
  still_long size = seen_size v w node at before after s ∙ size ∙ ap (λ (t : Terms). t.nodes) (sym s.terms)

pub serve_same : (v w : Knowledge) (node : ℕ) (at : World) (before : Node) → Visit v node at before before w → (stations : List Station) → AllServe v stations → AllServe w stations
serve_same v w node at before s stations all place n t saw here may = ⊎_elim
    (λ (same : place ≡ node - 1).
    let b = saw_before v w node at before before s in
    let n_is : before ≡ n = some_node before n (sym (seen_here v w node at before before s) ∙ ap (slice_get w.seen) (sym same) ∙ saw) in
    let sv : Serves v place b.0 t.mail = all place b.0 t (ap (slice_get v.seen) same ∙ b.1) here may in
    let moved : Serves v (node - 1) b.0 t.mail = subst (λ k. Serves v k b.0 t.mail) same sv in
    subst (λ k. Serves w k n t.mail) (sym same) (subst (λ (z : Node). Serves w (node - 1) z t.mail) n_is (serves_same v w node at before s b.0 t.mail b.1 moved)))
    (λ (away : place ≡ node - 1 → ⊥).
    serves_other v w node at before before s (begins_refl before.sent) place n t.mail away
    (all place n t (sym (seen_there v w node at before before s place away) ∙ saw) here may))
    (cases_eq place (node - 1))

-- no more was copied of a sender than it has sent by now
pub copied_within : (v w : Knowledge) (from to : ℕ) (at : World) (n : Node) → Visit v from at n n w → 1 ≤ to → to ≤ v.terms.nodes → from ≢ to → (stations : List Station) → AllServe v stations
    → (s : Station) (lane : Lane) → slice_get stations (to - 1) ≡ Some s → s.may_play ≡ true → lane_in s.mail from ≡ Some lane → lane.copied ≤ length n.sent
copied_within v w from to at n visit one low apart stations all s lane here may lies =
    let size = visit.now.past.size in
    let some = visit.some in
    let b = saw_before v w from at n n visit in
    let m = there_in v.seen (to - 1) (omega (arith, size, one, low)) in
    let sv : Serves v (to - 1) m.0 s.mail = all (to - 1) m.0 s m.1 here may in
    let away : from ≢ suc (to - 1) = λ e. apart (omega (arith, e, one)) in
    let lane_is = sv.mail.lanes from b.0 lane (node_at v.seen from some b.0 b.1) away lies in
    let within = lane_is.within in
    let longer = begins_long b.0.sent n.sent (grew v w from at n n visit b.0 b.1).sent in
    omega (arith, within, longer)

-- A copy for a node.
module _ (w : Knowledge) (from to : ℕ) (n : Node) (copied : Result (Unit {0}) NoMemory) (old new : List Station) (one : 1 ≤ to) (apart : from ≢ to)
    (c : Changes (to - 1) (CopiesInto w.terms.rules from n copied) old new) (others : OthersStay (to - 1) old new) where
  how : CopiesInto w.terms.rules from n copied c.0 c.1
  how = c.4

  pub copy_sight : (s t : Station) → CopiesInto w.terms.rules from n copied s t → SameSight s t
  copy_sight s t is = (ap (λ (z : Station). z.rounds) is.0, ap (λ (z : Station). z.waited) is.0)

  -- the station of the node, before and after
  may_before : (t : Station) → slice_get new (to - 1) ≡ Some t → t.may_play ≡ true → c.0.may_play ≡ true
  may_before t here may =
      sym (ap (λ (z : Station). z.may_play) how.0) ∙ ap (λ (z : Station). z.may_play) (some_station c.1 t (sym c.3 ∙ here)) ∙ may

  pub serve_copied : node_of w.seen from ≡ Some n → AllServe w old → AllServe w new
  serve_copied has all place m t saw here may = ⊎_elim
      (λ (same : place ≡ to - 1).
      let there : slice_get new (to - 1) ≡ Some t = ap (slice_get new) (sym same) ∙ here in
      let may0 = may_before t there may in
      let sv : Serves w place m c.0.mail = all place m c.0 saw (ap (slice_get old) same ∙ c.2) may0 in
      let to_is : suc place ≡ to = omega (arith, same, one) in
      let away : from ≢ suc place = λ e. apart (e ∙ to_is) in
      subst (λ (z : Station). Serves w place m z.mail) (some_station c.1 t (sym c.3 ∙ there)) (record {
        carries = sv.carries;
        begins = sv.begins;
        mail = mail_copied w.terms.rules from (suc place) w.seen m n c.0.mail c.1.mail copied has away sv.mail (how.1 may0);
      }))
      (λ (away : place ≡ to - 1 → ⊥). all place m t saw (sym (others place away) ∙ here) may)
      (cases_eq place (to - 1))

-- and all that was copied before stays so
pub pulled_on : (v w : Knowledge) (from to : ℕ) (at : World) (n : Node) (copied : Result (Unit {0}) NoMemory) (old mid new : List Station)
    → Visit v from at n n w → 1 ≤ to → from ≢ to → Changes (to - 1) (CopiesInto w.terms.rules from n copied) old mid → OthersStay (from - 1) mid new
    → IsPulled v.seen old to from → OnOk copied (IsPulled w.seen new to (from + 1))
pulled_on v w from to at n (Err want) old mid new s one apart c others pulled = tt
pulled_on v w from to at n (Ok done) old mid new s one apart c others pulled = λ k m t lane low ne saw here may lies.
    let some = s.some in
    let was_here : slice_get mid (to - 1) ≡ Some t = sym (others (to - 1) (λ e. apart (omega (arith, e, some, one)))) ∙ here in
    let t_is : c.1 ≡ t = some_station c.1 t (sym c.3 ∙ was_here) in
    let how : CopiesInto w.terms.rules from n (Ok done) c.0 c.1 = c.4 in
    let may0 : c.0.may_play ≡ true = sym (ap (λ (z : Station). z.may_play) how.0) ∙ ap (λ (z : Station). z.may_play) t_is ∙ may in
    let made : Copies w.terms.rules from n c.0.mail (Ok done) c.1.mail = how.1 may0 in
    let lies1 : lane_in c.1.mail k ≡ Some lane = ap (λ (z : Station). lane_in z.mail k) t_is ∙ lies in
    let k_one = numbered w.seen k m saw in
    ⊎_elim
    (λ (same : k ≡ from).
    let n_is : n ≡ m = some_node n m (sym (node_at w.seen from some n (seen_here v w from at n n s)) ∙ ap (node_of w.seen) (sym same) ∙ saw) in
    subst (λ (z : Node). IsUpToDate z lane) n_is (copied_all w.terms.rules from n c.0.mail c.1.mail lane made (ap (λ z. lane_in c.1.mail z) (sym same) ∙ lies1)))
    (λ (away : k ≡ from → ⊥).
    pulled k m c.0 lane (omega (arith, low, away)) ne (moved v.seen w.seen k k_one m saw (seen_there v w from at n n s (k - 1) (λ e. away (omega (arith, e, some, k_one))))) c.2 may0
    (sym (made.others (k - 1) (λ e. away (omega (arith, e, some, k_one)))) ∙ lies1))
    (cases_eq k from)

pub at_work_copied : (v w : Knowledge) (from to : ℕ) (at : World) (n : Node) (copied : Result (Unit {0}) NoMemory) (old mid new : List Station)
    → Visit v from at n n w → node_of w.seen from ≡ Some n → 1 ≤ to → from ≢ to
    → Changes (to - 1) (CopiesInto w.terms.rules from n copied) old mid → OthersStay (to - 1) old mid
    → Changes (from - 1) (Notes n) mid new → OthersStay (from - 1) mid new → IsAtWork v old → IsAtWork w new
at_work_copied v w from to at n copied old mid new s has one apart c others noted rest work = record {
  idle = still_idle v w from at n n s;
  size = still_long v w from at n n s work.size;
  seen = seen_noted (from - 1) w.seen n mid new
      (but_on (from - 1) w.seen (to - 1) (CopiesInto w.terms.rules from n copied) old mid c others (copy_sight w from to n copied old mid one apart c others)
      (but_visited v w from at n n s old work.seen))
      (seen_here v w from at n n s) noted rest;
  serve = serve_on w (from - 1) (Notes n) mid new noted rest (note_plays n)
      (serve_copied w from to n copied old mid one apart c others has (serve_same v w from at n s old work.serve));
}
