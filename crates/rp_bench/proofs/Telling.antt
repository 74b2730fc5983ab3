-- A seat that posts goes on with what it keeps of the nodes.
use Rattle.std.proofs.Common.{◌≡◌, ℕ, true, List, refl, sym, ap, subst, ◌∙◌, Result, Ok, Err}
use Rattle.rp_bufcore.specs.declared.ends.BufferEnd.{Ghosts}
use Rattle.rp_clients.specs.declared.answers.Answer.{Answer}
use Rattle.rp_events.specs.Worlds.{World}
use Rattle.rp_switch.specs.declared.faults.CellBusy.{CellBusy}
use Rattle.rp_switch.specs.declared.switch.Switch.{Switch}
use Rattle.rp_switch.specs.declared.switch.Seat.{Seat}
use Rattle.rp_switch.specs.Seats.{known_by, Posts}
use Rattle.rp_switch.specs.Views.{Stage, Look, Idle, Knowledge}
use Rattle.rp_bench.specs.declared.stations.Station.{Station}
use Rattle.rp_bench.specs.Stations.{IsAtWork}
use Rattle.rp_bench.specs.Whence.{Whence, IsSeated}
use Rattle.rp_bench.specs.Worked.{is_idle, IsOnward}
use Rattle.rp_bench.proofs.Onward.{onward_behind}

-- but for where it stands and what its steps told it knows the same
pub record Rested (v w : Knowledge) : Type 0 where
  pub stage : Stage
  pub looks : List Look
  pub idle : is_idle stage ≡ true
  pub is : w ≡ record v { stage = stage; looks = looks }

pub posted : (v w : Knowledge) (client : ℕ) (answer : Answer) (r : Result (Unit {0}) CellBusy) → is_idle v.stage ≡ true → Posts v client answer r w → Rested v w
posted v w client answer (Ok done) idle told = record { stage = Idle; looks = w.looks; idle = refl; is = told ∙ ap (λ (l : List Look). record v { stage = Idle; looks = l }) (sym (ap (λ (k : Knowledge). k.looks) told)) }
posted v w client answer (Err busy) idle told = record { stage = v.stage; looks = w.looks; idle = idle; is = told.2 ∙ ap (λ (l : List Look). record v { looks = l }) (sym (ap (λ (k : Knowledge). k.looks) told.2)) }

pub seen_rested : (v w : Knowledge) → Rested v w → w.seen ≡ v.seen
seen_rested v w r = ap (λ (k : Knowledge). k.seen) r.is

onward_rested : (v w : Knowledge) → Rested v w → IsOnward v w
onward_rested v w r = subst (IsOnward v) (sym r.is) (record { terms = refl; parts = refl; idle = r.idle; lacks = λ k e. e })

pub work_rested : (v w : Knowledge) (stations : List Station) → Rested v w → IsAtWork v stations → IsAtWork w stations
work_rested v w stations r work = subst (λ (k : Knowledge). IsAtWork k stations) (sym r.is) (record {
  idle = r.idle;
  size = work.size;
  seen = work.seen;
  serve = λ place n s saw at plays. let x = work.serve place n s saw at plays in record { carries = x.carries; begins = x.begins; mail = x.mail };
})

pub seated_rested : {E : Type 0} {g : Ghosts E} (o : Whence) (s : Switch E) (p q : Seat E g) → q.seat.table_id ≡ p.seat.table_id → Rested (known_by p) (known_by q)
    → IsSeated o s p → IsSeated o s q
seated_rested o s p q same r is = record {
  switch_is = is.switch_is;
  terms_are = is.terms_are;
  seat_is = same ∙ is.seat_is;
  onward = onward_behind o.known (known_by p) (known_by q) is.onward (onward_rested (known_by p) (known_by q) r);
}
