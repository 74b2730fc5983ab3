-- A range that is shut stands beside the machine as it begins in any state; and so does range 0 of the
-- first world.
use Rattle.std.proofs.Common.{◌≡◌, ℕ, zero, suc, ◌+◌, ◌<◌, ◌≤◌, Option, None, Some, List, [], ◌∷◌, map, length, get_or, replicate, refl, sym, ap, subst, ◌∙◌, arith}
use Rattle.std.specs.Prelude.{slice_get, Contains}
use Rattle.std.specs.Option.{option_map}
use Rattle.std.proofs.lemmas.Option.{slice_get-map}
use Rattle.rp_base.specs.declared.ids.CmdId.{CmdId}
use Rattle.rp_raftstep.specs.RaftState.{nodes_to}
use Rattle.rp_request.specs.Applied.{AppliedState}
use Rattle.rp_request.specs.States.{first_applied}
use Rattle.rp_request.specs.declared.commands.Payload.{Payload}
use Rattle.rp_request.specs.declared.outcomes.Outcome.{Outcome}
use Rattle.rp_raftsafe.specs.World as raft
use Rattle.rp_raftsafe.specs.World.{IsRange}
use Rattle.rp_raftsafe.specs.Safety.{OneList}
use Rattle.rp_raftsafe.specs.Proposed.{payloads_of}
use Rattle.rp_rangesafe.specs.World.{begin, Commit}
use Rattle.rp_rangesafe.specs.Places.{IsReached}
use Rattle.rp_rangesafe.proofs.Runs.{later_itself}
use Rattle.rp_events.specs.Nodes as nodes
use Rattle.rp_events.specs.Nodes.{Node, Status, Absent, Live, seat, first_node}
use Rattle.rp_events.specs.Worlds.{World, first_world, node_of, outcome_at}
use Rattle.rp_seats.specs.Views.{core_of, view, range_at}
use Rattle.rp_seats.specs.Standing.{SeatOk, RaftOk, RangeOk, IsShut, IsShaped, AreShaped}
use Rattle.rp_seats.specs.Steps.{RaftTurned}
use Rattle.rp_seats.specs.Turned.{begins_at_all, FirstOk}
use Rattle.rp_seats.proofs.Bound.{commits_quiet}
use Rattle.rp_seats.proofs.Commits.{pay, raft_turn}
use Rattle.rp_seats.proofs.Worlds.{site_seen}

-- nothing of a range is anywhere
abbrev bare : raft.Site AppliedState
bare = record { status = raft.Absent; sent = [] }

all_bare : (n place : ℕ) → get_or (replicate n bare) place bare ≡ bare
all_bare zero place = refl
all_bare (suc n) zero = refl
all_bare (suc n) (suc place) = all_bare n place

pub nowhere_bare : (g : raft.Range AppliedState) (node : ℕ) → raft.site (raft.nowhere g) node ≡ bare
nowhere_bare g zero = refl
nowhere_bare g (suc place) = all_bare g.nodes place

pub absent_is : (status : Status) → core_of status ≡ raft.Absent → status ≡ Absent
absent_is Absent e = refl
absent_is (Live r) e = absurd cc
absent_is (nodes.Removed applied) e = absurd cc

-- a seat with nothing, where the machine has nothing of the node
absent_seat : (s : AppliedState) (log : List Payload) (node range : ℕ) (told : CmdId → Option Outcome) → SeatOk (record (begin s) { log = log }) node range Absent told
absent_seat s log node range told = record {
  stands = (refl, refl, refl);
  pending = record { tells = λ id born. absurd born.0; distinct = tt; held = refl };
}

no_bytes : (b : List ℕ) → Contains {X = List ℕ} [] b → ⊥
no_bytes b c = omega (arith, c.1)

-- Raft beside the machine, where nothing has happened
raft_begins : (lists : OneList AppliedState) (count range : ℕ) (s : AppliedState) (is : IsRange (range_at count range s)) (w : World) → view range w ≡ raft.nowhere (range_at count range s)
    → RaftOk count range s (lists (range_at count range s) is) [] w (begin s)
raft_begins lists count range s is w bare_view = record {
  raft = bare_view;
  log = ap (map pay) (sym (lists (range_at count range s) is).empty);
  handed = λ b c. absurd (no_bytes b c);
  start = refl;
}

pub opens : (lists : OneList AppliedState) (range : ℕ) (s : AppliedState) (seen : List raft.Event) (w : World) → IsShut range seen w → IsRange (range_at (length w) range s)
    → RangeOk lists (length w) range s [] w (begin s)
opens lists range s seen w shut is = record {
  is = is;
  raft = raft_begins lists (length w) range s is w shut.view_is;
  seats = λ node n has. subst (λ z. SeatOk (begin s) node range z (λ id. outcome_at id n))
      (sym (absent_is (seat n range) (ap (λ (z : raft.Site AppliedState). z.status)
      (sym (site_seen range w node n has) ∙ ap (λ (z : raft.World AppliedState). raft.site z node) shut.view_is ∙ nowhere_bare (range_at (length w) range first_applied) node))))
      (absent_seat s [] node range (λ id. outcome_at id n));
}

-- numbers one after another
abbrev Ups : ℕ → List ℕ → Type 0
Ups a [] = Unit {0}
Ups a (x ∷ xs) = (x ≡ a) × Ups (suc a) xs

up_at : (a : ℕ) (xs : List ℕ) → Ups a xs → (i x : ℕ) → slice_get xs i ≡ Some x → x ≡ a + i
up_at a [] h i x e = absurd cc
up_at a (y ∷ xs) h zero x e = let same = some_is y x e in let first = h.0 in omega (arith, same, first) where
  some_is : (b c : ℕ) → ◌≡◌ {A = Option ℕ} (Some b) (Some c) → b ≡ c
  some_is b c e' = cc
up_at a (y ∷ xs) h (suc i) x e = let rest = up_at (suc a) xs h.1 i x e in omega (arith, rest)

ups : (count : ℕ) → count ≤ 5 → Ups 1 (nodes_to count)
ups zero le = tt
ups (suc zero) le = (refl, tt)
ups (suc (suc zero)) le = (refl, (refl, tt))
ups (suc (suc (suc zero))) le = (refl, (refl, (refl, tt)))
ups (suc (suc (suc (suc zero)))) le = (refl, (refl, (refl, (refl, tt))))
ups (suc (suc (suc (suc (suc zero))))) le = (refl, (refl, (refl, (refl, (refl, tt)))))
ups (suc (suc (suc (suc (suc (suc k)))))) le = absurd (omega (arith, le))

pub first_length : (count : ℕ) → count ≤ 5 → length (first_world count) ≡ count
first_length zero le = refl
first_length (suc zero) le = refl
first_length (suc (suc zero)) le = refl
first_length (suc (suc (suc zero))) le = refl
first_length (suc (suc (suc (suc zero)))) le = refl
first_length (suc (suc (suc (suc (suc zero))))) le = refl
first_length (suc (suc (suc (suc (suc (suc k)))))) le = absurd (omega (arith, le))

one_more : (i : ℕ) → 1 + i ≡ suc i
one_more i = omega arith

-- a node of the first world
pub first_is : (count : ℕ) → count ≤ 5 → (node : ℕ) (n : Node) → node_of (first_world count) node ≡ Some n → n ≡ first_node node count
first_is count le zero n has = absurd cc
first_is count le (suc i) n has = go (slice_get (nodes_to count) i) refl (sym (slice_get-map (λ node. first_node node count) (nodes_to count) i) ∙ has) where
  some_node : (a b : Node) → ◌≡◌ {A = Option Node} (Some a) (Some b) → a ≡ b
  some_node a b e = cc

  go : (o : Option ℕ) → slice_get (nodes_to count) i ≡ o → option_map (λ node. first_node node count) o ≡ Some n → n ≡ first_node (suc i) count
  go None e is = absurd cc
  go (Some x) e is = sym (some_node (first_node x count) n is) ∙ ap (λ z. first_node z count) (up_at 1 (nodes_to count) (ups count le) i x e ∙ one_more i)

pub first_shaped : (count : ℕ) → count ≤ 5 → AreShaped (first_world count)
first_shaped count le = record {
  each = λ node n has. subst (λ z. IsShaped (length (first_world count)) node z) (sym (first_is count le node n has))
      (record { number = refl; of = sym (first_length count le); eight = refl });
}

-- the nodes before range 0 began
abbrev bare_world : ℕ → World
bare_world count = map (λ node. record (first_node node count) { seats = [] }) (nodes_to count)

bare_view : (count : ℕ) → count ≤ 5 → view 0 (bare_world count) ≡ raft.nowhere (range_at count 0 first_applied)
bare_view zero le = refl
bare_view (suc zero) le = refl
bare_view (suc (suc zero)) le = refl
bare_view (suc (suc (suc zero))) le = refl
bare_view (suc (suc (suc (suc zero)))) le = refl
bare_view (suc (suc (suc (suc (suc zero))))) le = refl
bare_view (suc (suc (suc (suc (suc (suc k)))))) le = absurd (omega (arith, le))

first_view : (count : ℕ) → count ≤ 5 → view 0 (first_world count) ≡ raft.run (range_at count 0 first_applied) (begins_at_all count) (raft.nowhere (range_at count 0 first_applied))
first_view zero le = refl
first_view (suc zero) le = refl
first_view (suc (suc zero)) le = refl
first_view (suc (suc (suc zero))) le = refl
first_view (suc (suc (suc (suc zero)))) le = refl
first_view (suc (suc (suc (suc (suc zero))))) le = refl
first_view (suc (suc (suc (suc (suc (suc k)))))) le = absurd (omega (arith, le))

nothing_handed : (xs : List ℕ) (b : List ℕ) → Contains (payloads_of (map (λ node. raft.Acts node raft.Begin) xs)) b → ⊥
nothing_handed [] b c = no_bytes b c
nothing_handed (x ∷ xs) b c = nothing_handed xs b c

pub first_ok : (lists : OneList AppliedState) (count : ℕ) → 0 < count → count ≤ 5 → FirstOk lists count
first_ok lists count some few = record {
  events = map Commit grown.payloads;
  lawful = grown.lawful;
  quiet = commits_quiet grown.payloads;
  range_ok = record {
    is = is;
    raft = subst (λ z. RaftOk count 0 first_applied (lists (range_at count 0 first_applied) is) (begins_at_all count) (first_world count) z) (sym grown.leads) grown.raft;
    seats = λ node n has. subst (λ z. SeatOk z node 0 (seat n 0) (λ id. outcome_at id n)) (sym grown.leads)
        (subst (λ m. SeatOk (record (begin first_applied) { log = grown.payloads }) node 0 (seat m 0) (λ id. outcome_at id m)) (sym (first_is count few node n has))
        (record { stands = (refl, refl, refl); pending = record { tells = λ id born. absurd born.0; distinct = tt; held = refl } }));
  };
}
  where
    is : IsRange (range_at count 0 first_applied)
    is = record { some_nodes = some; some_holder = omega arith }

    begun : IsReached (begin first_applied)
    begun = record { start = first_applied; events = []; lawful = tt; reached = refl }

    grown : RaftTurned count 0 first_applied (lists (range_at count 0 first_applied) is) (begins_at_all count) (first_world count) (begin first_applied)
    grown = raft_turn count 0 first_applied (lists (range_at count 0 first_applied) is) [] (begins_at_all count) (bare_world count) (first_world count) (begin first_applied) (begin first_applied)
        (raft_begins lists count 0 first_applied is (bare_world count) (bare_view count few))
        (first_view count few ∙ ap (raft.run (range_at count 0 first_applied) (begins_at_all count)) (sym (bare_view count few)))
        begun (later_itself (begin first_applied)) refl
        (λ b c. absurd (nothing_handed (nodes_to count) b c))
