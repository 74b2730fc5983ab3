-- The first world keeps no record.
use Rattle.std.proofs.Common.{◌≡◌, ℕ, zero, suc, ◌<◌, ◌≤◌, Some, List, [], get_or, replicate, refl, sym, ap, subst, ◌∙◌, arith}
use Rattle.std.proofs.lemmas.Option.{none-some}
use Rattle.std.specs.Prelude.{Contains}
use Rattle.rp_base.specs.declared.ids.CmdId.{CmdId}
use Rattle.rp_request.specs.Applied.{AppliedState}
use Rattle.rp_request.specs.History.{Piece, History, none_after}
use Rattle.rp_request.specs.History as history
use Rattle.rp_request.specs.States.{first_applied}
use Rattle.rp_request.specs.declared.outcomes.Outcome.TheVariants.{Success}
use Rattle.rp_request.specs.declared.outcomes.Reply.{Reply}
use Rattle.rp_raftsafe.specs.World as raft
use Rattle.rp_raftsafe.specs.Safety.{OneList}
use Rattle.rp_rangesafe.specs.Ranges.{Ranges}
use Rattle.rp_events.specs.declared.answers.Ended.{Ended}
use Rattle.rp_events.specs.Replicas.{started}
use Rattle.rp_events.specs.Nodes.{Node, Absent, Live, seat, first_node}
use Rattle.rp_events.specs.Worlds.{World, first_world, node_of}
use Rattle.rp_events.specs.Lists.{base_of, history_in, HasApplied, StandsIn}
use Rattle.rp_seats.specs.Standing.{Bound}
use Rattle.rp_seats.proofs.Opens.{first_is}
use Rattle.rp_promise.specs.Records.{HistoryOk, IsHad, RecordsOk, IsOpenedBelow, KeepsReply, AllRecords}
use Rattle.rp_promise.proofs.Stands.{seat_stands}
use Rattle.rp_promise.proofs.Kept.{no_record}
use Rattle.rp_promise.proofs.Scenes.{one_piece}
use Rattle.rp_promise.proofs.Somes.{some_is}

all_absent : (count place : ℕ) → get_or (replicate count Absent) place Absent ≡ Absent
all_absent zero place = refl
all_absent (suc count) zero = refl
all_absent (suc count) (suc place) = all_absent count place

-- what a node has at first
pub first_seat : (node nodes k : ℕ) → seat (first_node node nodes) (suc k) ≡ Absent
first_seat node nodes k = all_absent 7 k

none_sent : {A : Type 0} (x : A) → Contains {X = A} [] x → ⊥
none_sent x c = omega (arith, c.1)

module _ (lists : OneList AppliedState) (nodes : ℕ) (few : nodes ≤ 5) (m : Ranges) (seen : ℕ → List raft.Event) (b : Bound lists (first_world nodes) m seen) where
  abbrev w : World
  w = first_world nodes

  is_first : (node : ℕ) (n : Node) → node_of w node ≡ Some n → n ≡ first_node node nodes
  is_first node n has = first_is nodes few node n has

  -- only range 0 is there
  bare_right : (node k : ℕ) (past : History) → HasApplied w node (suc k) past → ⊥
  bare_right node k past a =
      none-some past (sym (ap history_in (ap (λ z. seat z (suc k)) (is_first node a.n a.has) ∙ first_seat node nodes k)) ∙ a.history)

  first_history : (node : ℕ) (past : History) → HasApplied w node 0 past → HistoryOk (m.range 0) 0 0 past
  first_history node past a =
      let live : seat a.n 0 ≡ Live (started node nodes 1 0 0 first_applied) = ap (λ z. seat z 0) (is_first node a.n a.has) in
      let s = seat_stands lists w m seen b node a.n 0 (started node nodes 1 0 0 first_applied) a.has live in
      let at = s.at in
      subst (λ z. HistoryOk (m.range 0) 0 0 z) (some_is (history.started first_applied 0) past (sym (ap history_in live) ∙ a.history))
      (record {
        to = (m.range 0).index node;
        at = omega (arith, at);
        within = omega (arith, at);
        state = s.state;
        next = refl;
        records = λ piece index q among stands. absurd (no_record 0 index q (subst (λ z. StandsIn z index q) (one_piece (none_after 0) piece among) stands));
      })

  first_range : (range : ℕ) → RecordsOk w range (m.range range) 0
  first_range range = record {
    within = omega arith;
    histories = λ node past a. of_range range node past a;
    covered = λ place lt. absurd (omega (arith, lt));
    sent = λ node n p has among own. absurd (none_sent p (subst (λ (z : Node). Contains z.sent p) (is_first node n has) among));
  }
    where
      of_range : (range : ℕ) (node : ℕ) (past : History) → HasApplied w node range past → HistoryOk (m.range range) (base_of range) 0 past
      of_range zero node past a = first_history node past a
      of_range (suc k) node past a = absurd (bare_right node k past a)

  first_origins : (range : ℕ) → 0 < range → IsHad w range → IsOpenedBelow m (λ r. 0) range
  first_origins zero positive had = absurd (omega (arith, positive))
  first_origins (suc k) positive had = absurd (bare_right had.node k had.past had.applied)

  first_successes : (node : ℕ) (n : Node) (id : CmdId) (reply : Reply) → node_of w node ≡ Some n → Contains {X = Ended} n.outcomes (record { id = id; outcome = Success reply }) → KeepsReply w node id reply
  first_successes node n id reply has among = absurd (none_sent (record { id = id; outcome = Success reply }) (subst (λ (z : Node). Contains {X = Ended} z.outcomes (record { id = id; outcome = Success reply })) (is_first node n has) among))

  pub first_records : AllRecords w m
  first_records = record { reach = λ r. 0; each = first_range; origins = first_origins; successes = first_successes }
