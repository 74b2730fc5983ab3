use Rattle.std.proofs.Common.{◌≡◌, subst}
use Rattle.rp_switch.specs.Seats.{known_by}
use Rattle.rp_bench.specs.Dues.{served_by, copied_to, IsPulled}
use Rattle.rp_bench.proofs.benches.SwitchBenchBench.round.Goals as goal

pub serve-played-requires-clause-pulled : goal.serve-played-requires-clause-pulled
serve-played-requires-clause-pulled g c =
    subst (λ d. IsPulled (known_by c.args.self.now.seat.seat).seen c.args.self.now.seat.stations (served_by d) (copied_to g.K.Origin.from.known.terms.nodes d)) c.requires c.args.self.now.pulled
