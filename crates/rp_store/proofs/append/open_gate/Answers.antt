use Rattle.rp_disk.specs.Files.{Torn}
use Rattle.rp_store.specs.Walks.{IsButAt}
use Rattle.rp_store.proofs.Appended.{but_same, but_goes}
use Rattle.rp_store.proofs.Calls.{through_call, through_calm, through_then}
use Rattle.rp_store.proofs.append.open_gate.Goals as goal

pub returns-in_err-write_at-clause-through : goal.returns-in_err-write_at-clause-through
returns-in_err-write_at-clause-through g c =
    let a = g.D.Disk.file c.args.disk.now in
    let b = g.D.Disk.file c.write_at.new.self in
    let need = c.requires in
    through_call (IsButAt c.args.place a.seen) (Torn c.args.place 1) a b (g.met.D.Disk.is_told c.args.disk.now) c.write_at.ensures.crash
    (λ told x left. but_same c.args.place a.seen x (need.place told) (need.durable told x left)) (λ told d x has torn. but_goes c.args.place a.seen d x (need.place told) has torn)

pub returns-clause-through : goal.returns-clause-through
returns-clause-through g c =
    let a = g.D.Disk.file c.args.disk.now in
    let b = g.D.Disk.file c.write_at.new.self in
    let d = g.D.Disk.file c.sync.new.disk in
    let need = c.requires in
    let P = IsButAt c.args.place a.seen in
    let first = through_call P (Torn c.args.place 1) a b (g.met.D.Disk.is_told c.args.disk.now) c.write_at.ensures.crash
    (λ told x left. but_same c.args.place a.seen x (need.place told) (need.durable told x left)) (λ told d x has torn. but_goes c.args.place a.seen d x (need.place told) has torn) in
    through_then P a b d first (through_calm P b d c.sync.ensures.calm (λ told x left. (first told).now x left))
