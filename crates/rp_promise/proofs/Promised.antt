-- All parts of the promise together.
use Rattle.std.proofs.Common.{ℕ, List}
use Rattle.rp_request.specs.Applied.{AppliedState}
use Rattle.rp_raftsafe.specs.World as raft
use Rattle.rp_raftsafe.specs.Safety.{OneList}
use Rattle.rp_rangesafe.specs.Ranges.{Ranges}
use Rattle.rp_events.specs.Promises.{Promise}
use Rattle.rp_events.specs.Worlds.{World}
use Rattle.rp_promise.specs.Beside.{IsPromising}
use Rattle.rp_promise.proofs.Listed.{records, start}
use Rattle.rp_promise.proofs.States.{states_agree}
use Rattle.rp_promise.proofs.Lawful.{places_lawful}
use Rattle.rp_promise.proofs.Outcomes.{outcomes_honest}

pub promised : (lists : OneList AppliedState) (nodes : ℕ) (w : World) (m : Ranges) (seen : ℕ → List raft.Event) → IsPromising lists nodes w m seen → Promise w
promised lists nodes w m seen k = record {
  records = records w m k.now.bound.reached k.now.records;
  start = start w m k.now.bound.reached k.now.records;
  states = states_agree lists w m seen nodes k;
  places = places_lawful lists w m seen nodes k;
  outcomes = outcomes_honest lists w m seen nodes k;
}
