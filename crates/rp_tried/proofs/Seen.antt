-- What was seen of nodes to have waited holds of what the world has become.
use Rattle.std.proofs.Common.{◌≡◌, ℕ, sym, ◌∙◌, arith, length}
use Rattle.rp_events.specs.Lawful.{IsReached, IsLater}
use Rattle.rp_events.specs.Worlds.{World}
use Rattle.rp_race.specs.Ends.{IsWaitedOutForGood}
use Rattle.rp_race.specs.Gives.{AllSeen}
use Rattle.rp_race.proofs.Ahead.{node_there}
use Rattle.rp_race.proofs.Keeping.{reached_size}
use Rattle.rp_race.proofs.Waited.{waited_later, seen_not_less}

pub seen_waited : (nodes rounds : ℕ) (seen w : World) → IsReached nodes w → AllSeen nodes seen w → IsWaitedOutForGood rounds seen → IsWaitedOutForGood rounds w
seen_waited nodes rounds seen w reached all h =
    let size : length w ≡ length seen = reached_size nodes w reached ∙ sym all.size in
    let there = node_there seen w (sym size) h.node h.n h.has in
    let more = (seen_not_less nodes w h.node h.n (all.each h.node h.n h.has) there.0 there.1).1 in
    let long = h.waited in
    record {
      each = λ node n has.
          let was = node_there w seen size node n has in
          let grown = (seen_not_less nodes w node was.0 (all.each node was.0 was.1) n has).0 in
          let enough = h.each node was.0 was.1 in
          omega (arith, grown, enough);
      node = h.node;
      n = there.0;
      has = there.1;
      waited = omega (arith, more, long);
    }

pub seen_waited_later : (nodes rounds : ℕ) (seen w : World) → IsReached nodes w → AllSeen nodes seen w → IsWaitedOutForGood rounds seen → (later : World) → IsLater w later → IsWaitedOutForGood rounds later
seen_waited_later nodes rounds seen w reached all h later goes = waited_later rounds w later goes (seen_waited nodes rounds seen w reached all h)
