-- A refresh behind an event of Raft, as it is planned.
use Rattle.std.proofs.Common.{◌≡◌, ◌≤◌, ◌<◌, ◌+◌, ◌^◌, ⊎_elim, ℕ, suc, Bool, true, false, cond, not, nat_le, nat_lt, ◌&&◌, ◌||◌, List, [], ◌∷◌, ◌++◌, length, map, Option, None, Some, refl, sym, ap, subst, ◌∙◌, arith, append-nil}
use Rattle.std.specs.Prelude.{filter_map, ◌-◌}
use Rattle.std.specs.List.{filter, cons_option, AllByRecursion, IsDistinct}
use Rattle.std.specs.Option.{option_map}
use Rattle.std.proofs.lemmas.Bool.{cond_both}
use Rattle.std.proofs.lemmas.Bool.Decides.{nat_tests}
use Rattle.std.proofs.lemmas.List.{length-map}
use Rattle.rp_base.specs.Ids.{same_id}
use Rattle.rp_base.specs.declared.ids.CmdId.{CmdId}
use Rattle.rp_base.specs.declared.leases.Lease.{Lease}
use Rattle.rp_base.proofs.Elements.{fewer_filtered, fewer_mapped}
use Rattle.rp_base.proofs.IdLaws.{same_itself, apart_not_same, not_same_apart}
use Rattle.rp_codec.specs.Spelling.{spelling}
use Rattle.rp_raftlog.specs.LogState.{last_index}
use Rattle.rp_raft.specs.Plans.{CanExtend, IsMadeIn, IsNoCut, drafted_by, taken_in}
use Rattle.rp_raft.specs.Plans as rafts
use Rattle.rp_raft.specs.declared.plans.RaftPlan.{RaftPlan}
use Rattle.rp_raftstep.specs.Step.{Draft, then_proposed, step_then}
use Rattle.rp_request.specs.Applied.{AppliedState}
use Rattle.rp_pending.specs.Proposals.{is_proposed, proposal_of}
use Rattle.rp_pending.specs.Refreshes.{by_key, goes_again, goes_back, ids_by_max, put_by, to_refresh}
use Rattle.rp_pending.specs.Turns.{dropped_back}
use Rattle.rp_pending.specs.declared.proposals.Proposal.{Proposal}
use Rattle.rp_pending.specs.declared.refreshes.Refresh.{Refresh}
use Rattle.rp_events.specs.declared.answers.Ended.{Ended}
use Rattle.rp_events.specs.declared.moves.Move.{Move}
use Rattle.rp_events.specs.declared.moves.Move.TheVariants.{TakesBack, Repeats}
use Rattle.rp_events.specs.Moves.{hands_to_raft, moved_all}
use Rattle.rp_events.specs.Refreshes.{refresh_moves, refreshed_by, refreshing, with_taken}
use Rattle.rp_events.specs.Replicas.{Replica, Told, lease_of}
use Rattle.rp_replica.specs.Handing.{handed_by, items_of, moves_spelled, payload_by, payloads_by, told_by, write_again}
use Rattle.rp_replica.specs.Plans.{EndsOvertaken, IsPlan, opened}
use Rattle.rp_replica.specs.Refreshing.{IsRefresh, after_taken, draft_in, no_refresh}
use Rattle.rp_replica.specs.declared.plans.HandOver.{HandOver}
use Rattle.rp_replica.specs.declared.plans.ReplicaPlan.TheVariants.{HandsOver}
use Rattle.rp_replica.proofs.Ending.{stays_same}
use Rattle.rp_replica.proofs.Flushing.{bytes_are, hands_plan}
use Rattle.rp_replica.proofs.Handing.{AllStand, AreApart, IsApart, moves_hand, moves_tell, write_at}

-- each proposal of a list
abbrev pub Each : (Proposal → Type 0) → List Proposal → Type 0
Each P [] = Unit {0}
Each P (p ∷ ps) = P p × Each P ps

abbrev pub NoneHas : CmdId → List Proposal → Type 0
NoneHas id ps = Each (λ p. id ≡ p.id → ⊥) ps

abbrev pub Distinct : List Proposal → Type 0
Distinct [] = Unit {0}
Distinct (p ∷ ps) = NoneHas p.id ps × Distinct ps

each_with : (P Q : Proposal → Type 0) → ((p : Proposal) → P p → Q p) → (ps : List Proposal) → Each P ps → Each Q ps
each_with P Q f [] h = tt
each_with P Q f (p ∷ ps) h = (f p h.0, each_with P Q f ps h.1)

each_filtered : (P : Proposal → Type 0) (test : Proposal → Bool) (ps : List Proposal) → Each P ps → Each (λ p. P p × (test p ≡ true)) (filter test ps)
each_filtered P test [] h = tt
each_filtered P test (p ∷ ps) h =
    cond_both (test p) (p ∷ filter test ps) (filter test ps) (Each (λ q. P q × (test q ≡ true)))
    (λ e. ((h.0, e), each_filtered P test ps h.1)) (λ e. each_filtered P test ps h.1)

each_put : (P : Proposal → Type 0) (x : Proposal) (ps : List Proposal) → P x → Each P ps → Each P (put_by (λ (p : Proposal). p.max) x ps)
each_put P x [] px h = (px, tt)
each_put P x (p ∷ ps) px h =
    cond_both (nat_le x.max p.max) (x ∷ p ∷ ps) (p ∷ put_by (λ (q : Proposal). q.max) x ps) (Each P)
    (λ e. (px, h)) (λ e. (h.0, each_put P x ps px h.1))

each_by : (P : Proposal → Type 0) (ps : List Proposal) → Each P ps → Each P (by_key (λ (p : Proposal). p.max) ps)
each_by P [] h = tt
each_by P (p ∷ ps) h = each_put P p (by_key (λ (q : Proposal). q.max) ps) h.0 (each_by P ps h.1)

distinct_filtered : (test : Proposal → Bool) (ps : List Proposal) → Distinct ps → Distinct (filter test ps)
distinct_filtered test [] d = tt
distinct_filtered test (p ∷ ps) d =
    cond_both (test p) (p ∷ filter test ps) (filter test ps) Distinct
    (λ e. (
      each_with (λ q. (p.id ≡ q.id → ⊥) × (test q ≡ true)) (λ q. p.id ≡ q.id → ⊥) (λ q h. h.0) (filter test ps) (each_filtered (λ q. p.id ≡ q.id → ⊥) test ps d.0),
      distinct_filtered test ps d.1,
    ))
    (λ e. distinct_filtered test ps d.1)

distinct_put : (x : Proposal) (ps : List Proposal) → NoneHas x.id ps → Distinct ps → Distinct (put_by (λ (p : Proposal). p.max) x ps)
distinct_put x [] n d = (tt, tt)
distinct_put x (p ∷ ps) n d =
    cond_both (nat_le x.max p.max) (x ∷ p ∷ ps) (p ∷ put_by (λ (q : Proposal). q.max) x ps) Distinct
    (λ e. (n, d))
    (λ e. (each_put (λ q. p.id ≡ q.id → ⊥) x ps (λ s. n.0 (sym s)) d.0, distinct_put x ps n.1 d.1))

distinct_by : (ps : List Proposal) → Distinct ps → Distinct (by_key (λ (p : Proposal). p.max) ps)
distinct_by [] d = tt
distinct_by (p ∷ ps) d =
    distinct_put p (by_key (λ (q : Proposal). q.max) ps) (each_by (λ q. p.id ≡ q.id → ⊥) ps d.0) (distinct_by ps d.1)

none_from : (id : CmdId) (ps : List Proposal) → AllByRecursion (λ y. same_id id y ≡ false) (map (λ (p : Proposal). p.id) ps) → NoneHas id ps
none_from id [] a = tt
none_from id (p ∷ ps) a = (not_same_apart id p.id a.0, none_from id ps a.1)

pub distinct_from : (ps : List Proposal) → IsDistinct same_id (map (λ (p : Proposal). p.id) ps) → Distinct ps
unfolding IsDistinct
distinct_from [] d = tt
distinct_from (p ∷ ps) d = (none_from p.id ps d.0, distinct_from ps d.1)

-- each is found under its id
found_behind : (x : Proposal) (all ps : List Proposal) → NoneHas x.id ps → Each (λ p. proposal_of p.id all ≡ Some p) ps → Each (λ p. proposal_of p.id (x ∷ all) ≡ Some p) ps
found_behind x all [] n h = tt
found_behind x all (p ∷ ps) n h = (
  ap (λ b. cond b (Some x) (proposal_of p.id all)) (apart_not_same p.id x.id (λ e. n.0 (sym e))) ∙ h.0,
  found_behind x all ps n.1 h.1,
)

found_all : (ps : List Proposal) → Distinct ps → Each (λ p. proposal_of p.id ps ≡ Some p) ps
found_all [] d = tt
found_all (p ∷ ps) d = (ap (λ b. cond b (Some p) (proposal_of p.id ps)) (same_itself p.id), found_behind p ps ps d.0 (found_all ps d.1))

-- each of a part is found in the whole and in the part
abbrev pub FoundIn : List Proposal → List Proposal → Proposal → Type 0
FoundIn ps qs p = (proposal_of p.id qs ≡ Some p) × (proposal_of p.id ps ≡ Some p)

pub record IsPart (ps qs : List Proposal) : Type 0 where
  pub distinct : Distinct qs
  pub found : Each (FoundIn ps qs) qs
  pub fewer : length qs ≤ length ps

both_found : (ps qs rs : List Proposal) → Each (λ p. proposal_of p.id qs ≡ Some p) rs → Each (λ p. proposal_of p.id ps ≡ Some p) rs → Each (FoundIn ps qs) rs
both_found ps qs [] h k = tt
both_found ps qs (r ∷ rs) h k = ((h.0, k.0), both_found ps qs rs h.1 k.1)

all_part : (ps : List Proposal) → Distinct ps → IsPart ps ps
all_part ps d = record { distinct = d; found = both_found ps ps ps (found_all ps d) (found_all ps d); fewer = omega arith }

filtered_part : (test : Proposal → Bool) (ps : List Proposal) → Distinct ps → IsPart ps (filter test ps)
filtered_part test ps d = record {
  distinct = distinct_filtered test ps d;
  found = both_found ps (filter test ps) (filter test ps) (found_all (filter test ps) (distinct_filtered test ps d))
      (each_with (λ p. (proposal_of p.id ps ≡ Some p) × (test p ≡ true)) (λ p. proposal_of p.id ps ≡ Some p) (λ p h. h.0) (filter test ps)
      (each_filtered (λ p. proposal_of p.id ps ≡ Some p) test ps (found_all ps d)));
  fewer = fewer_filtered test ps;
}

pub taken_part : (r : Replica) (o : Option (ℕ × AppliedState)) → Distinct r.pending → IsPart r.pending (with_taken r o).replica.pending
taken_part r None d = all_part r.pending d
taken_part r (Some taken) d = filtered_part _ r.pending d

-- what goes back is not proposed again
first_true : (b c d : Bool) → (b && c && d) ≡ true → b ≡ true
first_true true c d e = refl
first_true false c d e = cc

second_true : (b c d : Bool) → (b && c && d) ≡ true → c ≡ true
second_true true true d e = refl
second_true true false d e = cc
second_true false c d e = cc

right_true : (b c : Bool) → (b && c) ≡ true → c ≡ true
right_true true c e = e
right_true false c e = cc

neither : (m n : ℕ) → nat_le m n ≡ true → nat_lt n m ≡ true → ⊥
neither m n h k = grind (arith, nat_tests, h, k)

not_both : (lai now : ℕ) (all : Bool) (p : Proposal) → goes_back lai p ≡ true → goes_again lai now all p ≡ true → ⊥
not_both lai now all p h k =
    neither p.max lai (right_true (is_proposed p.stage) (nat_le p.max lai) h)
    (second_true (is_proposed p.stage) (nat_lt lai p.max) (all || nat_le 5 (now - p.since)) k)

-- the moves of a refresh
backs_apart : (id : CmdId) (ps : List Proposal) (ms : List Move) → NoneHas id ps → IsApart id ms → IsApart id (map TakesBack (map (λ (p : Proposal). p.id) ps) ++ ms)
backs_apart id [] ms n a = a
backs_apart id (p ∷ ps) ms n a = (n.0, backs_apart id ps ms n.1 a)

agains_apart : (id : CmdId) (ps : List Proposal) → NoneHas id ps → IsApart id (map Repeats (map (λ (p : Proposal). p.id) ps))
agains_apart id [] n = tt
agains_apart id (p ∷ ps) n = (n.0, agains_apart id ps n.1)

agains_all_apart : (ps : List Proposal) → Distinct ps → AreApart (map Repeats (map (λ (p : Proposal). p.id) ps))
agains_all_apart [] d = tt
agains_all_apart (p ∷ ps) d = (agains_apart p.id ps d.0, agains_all_apart ps d.1)

backs_all_apart : (ps qs : List Proposal) → Distinct ps → Distinct qs → Each (λ p. NoneHas p.id qs) ps
    → AreApart (map TakesBack (map (λ (p : Proposal). p.id) ps) ++ map Repeats (map (λ (p : Proposal). p.id) qs))
backs_all_apart [] qs d e n = agains_all_apart qs e
backs_all_apart (p ∷ ps) qs d e n = (
  backs_apart p.id ps (map Repeats (map (λ (q : Proposal). q.id) qs)) d.0 (agains_apart p.id qs n.0),
  backs_all_apart ps qs d.1 e n.1,
)

agains_stand : (lai : ℕ) (all : List Proposal) (test : Proposal → Bool) (ps : List Proposal) → ((p : Proposal) → test p ≡ true → is_proposed p.stage ≡ true)
    → Each (λ p. (proposal_of p.id all ≡ Some p) × (test p ≡ true)) ps → AllStand lai all (map Repeats (map (λ (p : Proposal). p.id) ps))
agains_stand lai all test [] f h = tt
agains_stand lai all test (p ∷ ps) f h = (record { p = p; here = h.0.0; passes = f p h.0.1 }, agains_stand lai all test ps f h.1)

backs_stand : (lai : ℕ) (all ps : List Proposal) (ms : List Move) → Each (λ p. (proposal_of p.id all ≡ Some p) × (goes_back lai p ≡ true)) ps → AllStand lai all ms
    → AllStand lai all (map TakesBack (map (λ (p : Proposal). p.id) ps) ++ ms)
backs_stand lai all [] ms h s = s
backs_stand lai all (p ∷ ps) ms h s = (record { p = p; here = h.0.0; passes = h.0.1 }, backs_stand lai all ps ms h.1 s)

backs_hand_none : (ps : List Proposal) (ids : List CmdId) (ms : List Move) → payloads_by ps (map TakesBack ids ++ ms) ≡ payloads_by ps ms
backs_hand_none ps [] ms = refl
backs_hand_none ps (id ∷ ids) ms = backs_hand_none ps ids ms

agains_same : (ps qs rs : List Proposal) → Each (FoundIn ps qs) rs → payloads_by ps (map Repeats (map (λ (p : Proposal). p.id) rs)) ≡ payloads_by qs (map Repeats (map (λ (p : Proposal). p.id) rs))
agains_same ps qs [] h = refl
agains_same ps qs (r ∷ rs) h =
    ap (λ o. cons_option (option_map (λ (p : Proposal). write_again p) o) (payloads_by ps (map Repeats (map (λ (p : Proposal). p.id) rs)))) (h.0.1 ∙ sym h.0.0)
    ∙ ap (cons_option (option_map (λ (p : Proposal). write_again p) (proposal_of r.id qs))) (agains_same ps qs rs h.1)

length_put : (x : Proposal) (ps : List Proposal) → length (put_by (λ (p : Proposal). p.max) x ps) ≡ suc (length ps)
length_put x [] = refl
length_put x (p ∷ ps) =
    cond_both (nat_le x.max p.max) (x ∷ p ∷ ps) (p ∷ put_by (λ (q : Proposal). q.max) x ps) (λ l. length l ≡ suc (length (p ∷ ps)))
    (λ e. refl) (λ e. ap suc (length_put x ps))

length_by : (ps : List Proposal) → length (by_key (λ (p : Proposal). p.max) ps) ≡ length ps
length_by [] = refl
length_by (p ∷ ps) = length_put p (by_key (λ (q : Proposal). q.max) ps) ∙ ap suc (length_by ps)

-- what the moves of a refresh ask for
pub record RefreshOk (lai : ℕ) (ps qs : List Proposal) (f : Refresh) : Type 0 where
  pub apart : AreApart (refresh_moves f)
  pub stand : AllStand lai qs (refresh_moves f)
  pub same : payloads_by ps (refresh_moves f) ≡ payloads_by qs (refresh_moves f)
  pub few : length f.again ≤ length ps

none_ok : (lai : ℕ) (ps qs : List Proposal) → RefreshOk lai ps qs no_refresh
none_ok lai ps qs = record { apart = tt; stand = tt; same = refl; few = omega arith }

module _ (lai now : ℕ) (all : Bool) (ps qs : List Proposal) (part : IsPart ps qs) where
  abbrev backs : List Proposal
  backs = by_key (λ (p : Proposal). p.max) (filter (goes_back lai) qs)

  abbrev agains : List Proposal
  agains = by_key (λ (p : Proposal). p.max) (filter (goes_again lai now all) qs)

  backs_found : Each (λ p. FoundIn ps qs p × (goes_back lai p ≡ true)) backs
  backs_found = each_by (λ p. FoundIn ps qs p × (goes_back lai p ≡ true)) (filter (goes_back lai) qs) (each_filtered (FoundIn ps qs) (goes_back lai) qs part.found)

  agains_found : Each (λ p. FoundIn ps qs p × (goes_again lai now all p ≡ true)) agains
  agains_found =
      each_by (λ p. FoundIn ps qs p × (goes_again lai now all p ≡ true)) (filter (goes_again lai now all) qs)
      (each_filtered (FoundIn ps qs) (goes_again lai now all) qs part.found)

  one_proposal : (p q : Proposal) → Some p ≡ Some q → p ≡ q
  one_proposal p q e = cc

  cross : (p : Proposal) → FoundIn ps qs p × (goes_back lai p ≡ true) → NoneHas p.id agains
  cross p h =
      each_with (λ q. FoundIn ps qs q × (goes_again lai now all q ≡ true)) (λ q. p.id ≡ q.id → ⊥)
      (λ q k e. not_both lai now all q
      (subst (λ x. goes_back lai x ≡ true) (one_proposal p q (sym h.0.0 ∙ ap (λ id. proposal_of id qs) e ∙ k.0.0)) h.1) k.1)
      agains agains_found

  pub refresh_ok : RefreshOk lai ps qs (to_refresh lai now all qs)
  refresh_ok = record {
    apart = backs_all_apart backs agains (distinct_by (filter (goes_back lai) qs) (distinct_filtered (goes_back lai) qs part.distinct))
        (distinct_by (filter (goes_again lai now all) qs) (distinct_filtered (goes_again lai now all) qs part.distinct))
        (each_with (λ p. FoundIn ps qs p × (goes_back lai p ≡ true)) (λ p. NoneHas p.id agains) cross backs backs_found);
    stand = backs_stand lai qs backs (map Repeats (map (λ (p : Proposal). p.id) agains))
        (each_with (λ p. FoundIn ps qs p × (goes_back lai p ≡ true)) (λ p. (proposal_of p.id qs ≡ Some p) × (goes_back lai p ≡ true)) (λ p h. (h.0.0, h.1)) backs backs_found)
        (agains_stand lai qs (goes_again lai now all) agains
        (λ p h. first_true (is_proposed p.stage) (nat_lt lai p.max) (all || nat_le 5 (now - p.since)) h)
        (each_with (λ p. FoundIn ps qs p × (goes_again lai now all p ≡ true)) (λ p. (proposal_of p.id qs ≡ Some p) × (goes_again lai now all p ≡ true)) (λ p h. (h.0.0, h.1)) agains agains_found));
    same = backs_hand_none ps (map (λ (p : Proposal). p.id) backs) (map Repeats (map (λ (p : Proposal). p.id) agains))
        ∙ agains_same ps qs agains (each_with (λ p. FoundIn ps qs p × (goes_again lai now all p ≡ true)) (FoundIn ps qs) (λ p h. h.0) agains agains_found)
        ∙ sym (backs_hand_none qs (map (λ (p : Proposal). p.id) backs) (map Repeats (map (λ (p : Proposal). p.id) agains)));
    few =
        let a = length-map agains (λ (p : Proposal). p.id) in
        let b = length_by (filter (goes_again lai now all) qs) in
        let c = fewer_filtered (goes_again lai now all) qs in
        let d = part.fewer in
        omega (arith, a, b, c, d);
  }

pub is_ok : (r : Replica) (o : Option (ℕ × AppliedState)) (f : Refresh) → Distinct r.pending → IsRefresh (with_taken r o).replica f
    → RefreshOk (with_taken r o).replica.applied.state.lai r.pending (with_taken r o).replica.pending f
is_ok r o f d h =
    ⊎_elim
    (λ (e : f ≡ no_refresh). subst (RefreshOk (with_taken r o).replica.applied.state.lai r.pending (with_taken r o).replica.pending) (sym e)
    (none_ok (with_taken r o).replica.applied.state.lai r.pending (with_taken r o).replica.pending))
    (λ (k : (ticks : ℕ) × (all : Bool) × (f ≡ refreshing (with_taken r o).replica ticks all)).
    subst (RefreshOk (with_taken r o).replica.applied.state.lai r.pending (with_taken r o).replica.pending) (sym k.2)
    (refresh_ok (with_taken r o).replica.applied.state.lai k.0 k.1 r.pending (with_taken r o).replica.pending (taken_part r o d)))
    h

-- the attempts that it hands to Raft, what it tells, and how many items it puts back
agains_ids : (ids : List CmdId) → filter_map handed_by (map Repeats ids) ≡ ids
agains_ids [] = refl
agains_ids (id ∷ ids) = ap (λ l. id ∷ l) (agains_ids ids)

backs_ids : (back again : List CmdId) → filter_map handed_by (map TakesBack back ++ map Repeats again) ≡ again
backs_ids [] again = agains_ids again
backs_ids (id ∷ ids) again = backs_ids ids again

agains_tell : (lease : Lease) (ids : List CmdId) → filter_map (told_by lease) (map Repeats ids) ≡ []
agains_tell lease [] = refl
agains_tell lease (id ∷ ids) = agains_tell lease ids

backs_tell : (lease : Lease) (back again : List CmdId) → filter_map (told_by lease) (map TakesBack back ++ map Repeats again) ≡ []
backs_tell lease [] again = agains_tell lease again
backs_tell lease (id ∷ ids) again = backs_tell lease ids again

agains_items : (ids : List CmdId) → items_of (map Repeats ids) ≡ 0
agains_items [] = refl
agains_items (id ∷ ids) = let h = agains_items ids in omega (arith, h)

backs_items : (back again : List CmdId) → items_of (map TakesBack back ++ map Repeats again) ≡ length back
backs_items [] again = agains_items again
backs_items (id ∷ ids) again = let h = backs_items ids again in omega (arith, h)

overtaken_by_taken : (r : Replica) (o : Option (ℕ × AppliedState)) (xs : List Ended) → xs ≡ (with_taken r o).ended → EndsOvertaken r.pending o xs
overtaken_by_taken r None xs e = tt
overtaken_by_taken r (Some taken) xs e = e

-- a refresh behind a planned event, as it is planned
pub refresh_plan : (r : Replica) (h : HandOver) (before : RaftPlan AppliedState) (f : Refresh) (bytes : List (List ℕ))
    → IsDistinct same_id (map (λ (p : Proposal). p.id) r.pending)
    → IsRefresh (after_taken r before).replica f
    → IsMadeIn r.raft h.raft
    → rafts.Makes r.raft h.raft (then_proposed (draft_in r before) bytes) (step_then r.applied.index r.applied.state (draft_in r before) bytes)
    → h.moves ≡ refresh_moves f
    → bytes ≡ moves_spelled r.pending h.moves
    → h.outcomes ≡ (after_taken r before).ended
    → h.last ≡ None
    → h.back ≡ length f.back
    → IsPlan r (Some (draft_in r before)) (HandsOver h) (refreshed_by r (draft_in r before) h.ticks h.round (after_taken r before) f)
refresh_plan r h before f bytes distinct is made makes moves spelled outcomes last back =
    let t : Told = after_taken r before in
    let ok : RefreshOk t.replica.applied.state.lai r.pending t.replica.pending f = is_ok r (taken_in before) f (distinct_from r.pending distinct) is in
    let taken : taken_in h.raft ≡ taken_in before = ap (λ (d : Draft AppliedState). d.taken) makes.drafts in
    let apart : AreApart h.moves = subst AreApart (sym moves) ok.apart in
    let stand : AllStand t.replica.applied.state.lai t.replica.pending h.moves = subst (AllStand t.replica.applied.state.lai t.replica.pending) (sym moves) ok.stand in
    let same : payloads_by r.pending h.moves ≡ payloads_by t.replica.pending h.moves =
    subst (λ ms. payloads_by r.pending ms ≡ payloads_by t.replica.pending ms) (sym moves) ok.same in
    let handed : filter_map (write_at (moved_all h.ticks h.round t h.moves).replica.pending) f.again ≡ payloads_by r.pending h.moves =
    ap (filter_map (write_at (moved_all h.ticks h.round t h.moves).replica.pending)) (sym (ap (filter_map handed_by) moves ∙ backs_ids f.back f.again))
    ∙ moves_hand h.ticks h.round h.moves t apart stand ∙ sym same in
    subst (λ ms. IsPlan r (Some (draft_in r before)) (HandsOver h) (hands_to_raft r (draft_in r before) (moved_all h.ticks h.round t ms) [] f.again)) moves
    (hands_plan r h (draft_in r before) t [] f.again bytes made makes
    (spelled ∙ bytes_are [] r.pending (moved_all h.ticks h.round t h.moves).replica.pending h.moves f.again handed)
    (ap (λ l. with_taken (opened r l) (taken_in h.raft)) last ∙ ap (with_taken r) taken)
    (outcomes ∙ sym (append-nil t.ended)
    ∙ ap (λ xs. t.ended ++ xs) (sym (ap (filter_map (told_by (lease_of t.replica))) moves ∙ backs_tell (lease_of t.replica) f.back f.again))
    ∙ sym (moves_tell h.ticks h.round h.moves t apart stand))
    (overtaken_by_taken r (taken_in h.raft) h.outcomes (outcomes ∙ ap (λ o. (with_taken r o).ended) (sym taken)))
    (let n = ap items_of moves ∙ backs_items f.back f.again in omega (arith, n, back)))

-- the planned event can be extended by its payloads
pub may_extend : (r : Replica) (before : RaftPlan AppliedState) (f : Refresh) (moves : List Move) (bytes : List (List ℕ))
    → IsDistinct same_id (map (λ (p : Proposal). p.id) r.pending)
    → IsNoCut before.draft.edit
    → IsRefresh (after_taken r before).replica f
    → last_index (draft_in r before).state.log + length r.pending < 2 ^ 64
    → moves ≡ refresh_moves f
    → bytes ≡ moves_spelled r.pending moves
    → CanExtend r.raft before bytes
may_extend r before f moves bytes distinct whole is last same spelled =
    let ok = is_ok r (taken_in before) f (distinct_from r.pending distinct) is in
    let few = ok.few in
    let a = ap length (spelled ∙ ap (moves_spelled r.pending) same) in
    let b = length-map (payloads_by r.pending (refresh_moves f)) spelling in
    let c = ap length (backs_hand_none r.pending f.back (map Repeats f.again)) in
    let d = fewer_mapped (payload_by r.pending) (map Repeats f.again) in
    let e = length-map f.again Repeats in
    record { whole = whole; room = λ leads. omega (arith, few, a, b, c, d, e, last) }

-- a refresh of all, where a snapshot was taken in
again_kept : (lai now : ℕ) (all : Bool) (ps : List Proposal) → filter (goes_again lai now all) (dropped_back lai ps) ≡ filter (goes_again lai now all) ps
again_kept lai now all [] = refl
again_kept lai now all (p ∷ ps) = go (goes_back lai p) refl (again_kept lai now all ps) where
  not_again : (b : Bool) → goes_again lai now all p ≡ b → goes_back lai p ≡ true → b ≡ false
  not_again true e h = absurd (not_both lai now all p h e)
  not_again false e h = refl

  go : (b : Bool) → goes_back lai p ≡ b → filter (goes_again lai now all) (dropped_back lai ps) ≡ filter (goes_again lai now all) ps
      → filter (goes_again lai now all) (cond (not b) (p ∷ dropped_back lai ps) (dropped_back lai ps))
      ≡ cond (goes_again lai now all p) (p ∷ filter (goes_again lai now all) ps) (filter (goes_again lai now all) ps)
  go true e ih = ih ∙ sym (ap (λ b. cond b (p ∷ filter (goes_again lai now all) ps) (filter (goes_again lai now all) ps)) (not_again (goes_again lai now all p) refl e))
  go false e ih = ap (λ l. cond (goes_again lai now all p) (p ∷ l) l) ih

none_back : (lai : ℕ) (ps : List Proposal) → filter (goes_back lai) (dropped_back lai ps) ≡ []
none_back lai [] = refl
none_back lai (p ∷ ps) = go (goes_back lai p) refl (none_back lai ps) where
  go : (b : Bool) → goes_back lai p ≡ b → filter (goes_back lai) (dropped_back lai ps) ≡ [] → filter (goes_back lai) (cond (not b) (p ∷ dropped_back lai ps) (dropped_back lai ps)) ≡ []
  go true e ih = ih
  go false e ih = ap (λ b. cond b (p ∷ filter (goes_back lai) (dropped_back lai ps)) (filter (goes_back lai) (dropped_back lai ps))) e ∙ ih

pub refreshed_taken : (r : Replica) (o : Option (ℕ × AppliedState)) (ticks index : ℕ) (s : AppliedState) (again : List CmdId) (f : Refresh)
    → o ≡ Some (index, s) → f ≡ to_refresh s.lai ticks true r.pending → again ≡ f.again
    → ◌≡◌ {A = Refresh} (record { again = again; back = [] }) (refreshing (with_taken r o).replica ticks true)
refreshed_taken r o ticks index s again f is e a =
    ap (λ ids. record { again = ids; back = [] }) (a ∙ ap (λ (g : Refresh). g.again) e ∙ ap ids_by_max (sym (again_kept s.lai ticks true r.pending)))
    ∙ ap (λ ids. record { again = ids_by_max (filter (goes_again s.lai ticks true) (dropped_back s.lai r.pending)); back = ids }) (sym (ap ids_by_max (none_back s.lai r.pending)))
    ∙ ap (to_refresh s.lai ticks true) (stays_same s.lai r.pending)
    ∙ sym (ap (λ x. refreshing (with_taken r x).replica ticks true) is)

pub refreshed_where : (r : Replica) (o : Option (ℕ × AppliedState)) (ticks : ℕ) (s : AppliedState) (f : Refresh)
    → option_map (λ (taken : ℕ × AppliedState). taken.1) o ≡ Some s → f ≡ to_refresh s.lai ticks true r.pending
    → ◌≡◌ {A = Refresh} (record { again = f.again; back = [] }) (refreshing (with_taken r o).replica ticks true)
refreshed_where r None ticks s f is e = absurd cc
refreshed_where r (Some taken) ticks s f is e =
    refreshed_taken r (Some taken) ticks taken.0 s f.again f (ap (λ x. Some (taken.0, x)) (same taken.1 is)) e refl where
      same : (x : AppliedState) → Some x ≡ Some s → x ≡ s
      same x h = cc

-- what it hands to Raft
pub refresh_spelled : (r : Replica) (before : RaftPlan AppliedState) (f : Refresh) (ticks round : ℕ) (moves : List Move) (bytes : List (List ℕ))
    → IsDistinct same_id (map (λ (p : Proposal). p.id) r.pending)
    → IsRefresh (after_taken r before).replica f
    → moves ≡ refresh_moves f
    → bytes ≡ moves_spelled r.pending moves
    → bytes ≡ (refreshed_by r (draft_in r before) ticks round (after_taken r before) f).proposed
refresh_spelled r before f ticks round moves bytes distinct is same spelled =
    let t : Told = after_taken r before in
    let ms : List Move = refresh_moves f in
    let ok : RefreshOk t.replica.applied.state.lai r.pending t.replica.pending f = is_ok r (taken_in before) f (distinct_from r.pending distinct) is in
    let handed : filter_map (write_at (moved_all ticks round t ms).replica.pending) f.again ≡ payloads_by r.pending ms =
    ap (filter_map (write_at (moved_all ticks round t ms).replica.pending)) (sym (backs_ids f.back f.again))
    ∙ moves_hand ticks round ms t ok.apart ok.stand ∙ sym ok.same in
    spelled ∙ ap (moves_spelled r.pending) same ∙ bytes_are [] r.pending (moved_all ticks round t ms).replica.pending ms f.again handed
