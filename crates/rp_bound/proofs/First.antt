-- The nodes of the first world are bound to the first range, and each other one is shut.
use Rattle.std.proofs.Common.{◌≡◌, ℕ, zero, suc, ◌<◌, ◌≤◌, Bool, true, false, List, [], ◌∷◌, map, length, get_or, replicate, None, Some, refl, sym, ap, subst, ◌∙◌, eqb-true}
use Rattle.std.proofs.lemmas.Bool.{eqb-false}
use Rattle.std.specs.Prelude.{◌==◌}
use Rattle.rp_base.specs.declared.ids.CmdId.{CmdId}
use Rattle.rp_raftstep.specs.RaftState.{nodes_to}
use Rattle.rp_request.specs.Applied.{AppliedState}
use Rattle.rp_request.specs.States.{first_applied}
use Rattle.rp_raftsafe.specs.World as raft
use Rattle.rp_raftsafe.specs.Safety.{OneList}
use Rattle.rp_rangesafe.specs.World as machine
use Rattle.rp_rangesafe.specs.World.{begin, run}
use Rattle.rp_rangesafe.specs.Ranges.{Ranges, In, AreReached, at_first, after_steps}
use Rattle.rp_rangesafe.proofs.Runs.{run_start}
use Rattle.rp_rangesafe.proofs.Holders.{range_holder}
use Rattle.rp_events.specs.Nodes.{Node, Absent, first_node}
use Rattle.rp_events.specs.Worlds.{World, first_world, node_of, outcome_at}
use Rattle.rp_seats.specs.Views.{core_of, site_of}
use Rattle.rp_seats.specs.Standing.{RangeOk, IsShut, IsOwned, Bound}
use Rattle.rp_seats.specs.Turned.{begins_at_all, FirstOk}
use Rattle.rp_seats.proofs.Opens.{first_is, first_length, first_shaped, first_ok}
use Rattle.rp_bound.specs.Bounds.{first_seen}
use Rattle.rp_bound.proofs.Quiet.{Went, quiet_went}
use Rattle.rp_bound.proofs.Next.{begun_ok}

-- a range that is not the first one, at the nodes of the first world
abbrev bare : raft.Site AppliedState
bare = record { status = raft.Absent; sent = [] }

pub all_absent : (n place : ℕ) → get_or (replicate n Absent) place Absent ≡ Absent
all_absent zero place = refl
all_absent (suc n) zero = refl
all_absent (suc n) (suc place) = all_absent n place

node_bare : (count node range : ℕ) → site_of (suc range) (first_node node count) ≡ bare
node_bare count node range = ap (λ s. record { status = core_of s; sent = [] }) (all_absent 7 range)

nodes_bare : (count range : ℕ) (xs : List ℕ) → map (site_of (suc range)) (map (λ node. first_node node count) xs) ≡ replicate (length (map (λ node. first_node node count) xs)) bare
nodes_bare count range [] = refl
nodes_bare count range (x ∷ xs) =
    ap (λ s. s ∷ map (site_of (suc range)) (map (λ node. first_node node count) xs)) (node_bare count x range)
    ∙ ap (λ ys. bare ∷ ys) (nodes_bare count range xs)

not_both : (b : Bool) → b ≡ true → b ≡ false → ⊥
not_both b e f = cc

module _ (lists : OneList AppliedState) (count : ℕ) (some : 0 < count) (few : count ≤ 5) where
  abbrev w : World
  w = first_world count

  pub ok : FirstOk lists count
  ok = first_ok lists count some few

  went : Went at_first 0 ok.events
  went = quiet_went at_first 0 refl ok.events ok.lawful ok.quiet

  abbrev pub first_ranges : Ranges
  first_ranges = after_steps at_first (map (In 0) ok.events)

  reached : AreReached first_ranges
  reached = record { steps = map (In 0) ok.events; lawful = went.lawful; reached = refl }

  first_shut : (q : ℕ) → (q == 0) ≡ false → IsShut q (first_seen count q) w
  first_shut q other = go q (eqb-false q 0 other) where
    go : (q' : ℕ) → (q' ≡ 0 → ⊥) → IsShut q' (first_seen count q') w
    go zero ne = absurd (ne refl)
    go (suc k) ne = record { unseen = refl; view_is = nodes_bare count k (nodes_to count) }

  abbrev Stands : ℕ → machine.World → Type 0
  Stands q h = RangeOk lists (length w) q h.start (first_seen count q) w h

  first_stands : Stands 0 (first_ranges.range 0)
  first_stands = subst (Stands 0) (sym went.beside.own)
      (subst (λ s. RangeOk lists (length w) 0 s (begins_at_all count) w (run (begin first_applied) ok.events)) (sym (run_start (begin first_applied) ok.events))
      (subst (λ k. RangeOk lists k 0 first_applied (begins_at_all count) w (run (begin first_applied) ok.events)) (sym (first_length count few)) ok.range_ok))

  each_range : (q : ℕ) → first_ranges.opened q ≡ true → (b : Bool) → (q == 0) ≡ b → Stands q (first_ranges.range q)
  each_range q o true e = subst (λ z. Stands z (first_ranges.range z)) (sym (eqb-true q 0 e)) first_stands
  each_range q o false e =
      let k = went.beside.shut q e o in
      begun_ok lists q (first_seen count q) w (first_ranges.range q) k.0 k.1 (range_holder first_ranges reached q o 0)
      (subst (λ k. 0 < k) (sym (first_length count few)) some) (first_shut q e)

  still_shut : (q : ℕ) → first_ranges.opened q ≡ false → (b : Bool) → (q == 0) ≡ b → IsShut q (first_seen count q) w
  still_shut q bare' true e = absurd (not_both (first_ranges.opened q) (went.beside.opened q e) bare')
  still_shut q bare' false e = first_shut q e

  none_told : (id : CmdId) (node : ℕ) (n : Node) → node_of w node ≡ Some n → outcome_at id n ≡ None
  none_told id node n has = ap (outcome_at id) (first_is count few node n has)

  pub first_bound : Bound lists w first_ranges (first_seen count)
  first_bound = record {
    reached = reached;
    shaped = first_shaped count few;
    ranges = λ q o. each_range q o (q == 0) refl;
    shut = λ q o. still_shut q o (q == 0) refl;
    owned = λ id. subst (IsOwned first_ranges w id) (sym (went.beside.owner id)) (none_told id);
  }
