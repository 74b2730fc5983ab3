-- A seat that has nothing: the start of a right range, and a snapshot that makes a replica.
use Rattle.std.proofs.Common.{ℕ, zero, suc, ◌+◌, ◌<◌, [], ◌∷◌, refl, sym, ap, subst, ◌∙◌, arith}
use Rattle.rp_base.specs.declared.ids.CmdId.{CmdId}
use Rattle.rp_request.specs.Applied.{AppliedState}
use Rattle.rp_request.specs.declared.outcomes.Outcome.{Outcome}
use Rattle.std.specs.Prelude.{Option}
use Rattle.rp_rangesafe.specs.Attempts.{at_node}
use Rattle.rp_rangesafe.specs.World as machine
use Rattle.rp_rangesafe.specs.World.{state_at, overtaken}
use Rattle.rp_rangesafe.proofs.Tables.{node_same}
use Rattle.rp_events.specs.Ends.{overtaken_by}
use Rattle.rp_events.specs.Nodes.{Absent, Live, right_base, right_base_term}
use Rattle.rp_events.specs.Replicas.{started, made_by_snap}
use Rattle.rp_events.specs.Lists.{base_of}
use Rattle.rp_seats.specs.Standing.{PendingOk, SeatOk}
use Rattle.rp_seats.specs.Turned.{SeatTurned, IsJump}
use Rattle.rp_seats.proofs.Ends.{ends_beside, snapshot_ends}

-- the right range of a split starts at a node: nothing to the machine
pub start_turn : (node range : ℕ) (h : machine.World) (told : CmdId → Option Outcome) → 0 < range → SeatOk h node range Absent told → (number nodes leader : ℕ) (s : AppliedState)
    → SeatTurned node range h told (Live (started number nodes leader right_base right_base_term s)) [] []
start_turn node zero h told above k number nodes leader s = absurd (omega (arith, above))
start_turn node (suc range) h told above k number nodes leader s = record {
  events = [];
  lawful = tt;
  own = tt;
  quiet = tt;
  log = refl;
  seat = record {
    stands = (ap (λ i. i + right_base) k.stands.0, k.stands.1, k.stands.2);
    pending = record { tells = k.pending.tells; distinct = tt; held = refl };
  };
  ends = tt;
  may = tt;
}

-- a snapshot makes a replica
pub made_turn : (node range : ℕ) (h : machine.World) (told : CmdId → Option Outcome) → SeatOk h node range Absent told → (index : ℕ) (snapshot : AppliedState) → IsJump h (base_of range) index snapshot
    → (number nodes term from index_term : ℕ) → SeatTurned node range h told (Live (made_by_snap number nodes term from index index_term snapshot)) [] []
made_turn node range h told k index snapshot jump number nodes term from index_term = record {
  events = machine.Snapshot node jump.to ∷ [];
  lawful = (record { live = k.stands.1; onward = (let none = k.stands.0 in omega (arith, none)); within = jump.within }, tt);
  own = (refl, tt);
  quiet = tt;
  log = refl;
  seat = record {
    stands = (ap (λ i. i + base_of range) (node_same h.index node jump.to) ∙ jump.at, k.stands.1, k.stands.2);
    pending = subst (λ f. PendingOk f node [] [] told) (ap (λ (z : AppliedState). at_node node (overtaken z.lai) h.attempt) (sym jump.state_is))
        (record { tells = beside.tells; distinct = tt; held = refl });
  };
  ends = tt;
  may = tt;
}
  where
    beside : PendingOk (at_node node (overtaken snapshot.lai) h.attempt) node [] [] told
    beside = ends_beside (overtaken_by snapshot.lai) (overtaken snapshot.lai) (snapshot_ends snapshot.lai) node h.attempt [] [] told
        (record { tells = k.pending.tells; distinct = tt; held = refl })
