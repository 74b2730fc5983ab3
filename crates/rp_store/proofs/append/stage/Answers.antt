use Rattle.std.proofs.Common.{length, ap, sym, ◌∙◌, arith}
use Rattle.rp_store.specs.Walks.{Begins}
use Rattle.rp_store.proofs.Appended.{begins_all, through_behind, staged_seen}
use Rattle.rp_store.proofs.Calls.{through_calm, through_then, on_ok}
use Rattle.rp_store.proofs.append.stage.Goals as goal

pub returns-in_err-write_at-3-clause-through : goal.returns-in_err-write_at-3-clause-through
returns-in_err-write_at-3-clause-through g c =
    let a = g.D.Disk.file c.args.disk.now in
    let b = g.D.Disk.file c.write_at.new.self in
    let d = g.D.Disk.file c.write_at-2.new.self in
    let e = g.D.Disk.file c.write_at-3.new.self in
    let need = c.requires in
    let front = a.seen in
    let one = through_behind front _ _ a b (g.met.D.Disk.is_told c.args.disk.now) c.write_at.ensures.crash (λ told x left. begins_all front x (need.durable told x left))
    (λ told. omega (arith, need.end told)) in
    let two = through_then (Begins front) a b d one
    (through_behind front _ _ b d (g.met.D.Disk.is_told c.write_at.new.self) c.write_at-2.ensures.crash (λ told x left. (one told).now x left)
    (λ told. omega (arith, need.end (one told).told))) in
    through_then (Begins front) a d e two
    (through_behind front _ _ d e (g.met.D.Disk.is_told c.write_at-2.new.self) c.write_at-3.ensures.crash (λ told x left. (two told).now x left)
    (λ told. omega (arith, need.end (two told).told)))

pub returns-clause-through : goal.returns-clause-through
returns-clause-through g c =
    let a = g.D.Disk.file c.args.disk.now in
    let b = g.D.Disk.file c.write_at.new.self in
    let d = g.D.Disk.file c.write_at-2.new.self in
    let e = g.D.Disk.file c.write_at-3.new.self in
    let f = g.D.Disk.file c.sync.new.disk in
    let need = c.requires in
    let front = a.seen in
    let one = through_behind front _ _ a b (g.met.D.Disk.is_told c.args.disk.now) c.write_at.ensures.crash (λ told x left. begins_all front x (need.durable told x left))
    (λ told. omega (arith, need.end told)) in
    let two = through_then (Begins front) a b d one
    (through_behind front _ _ b d (g.met.D.Disk.is_told c.write_at.new.self) c.write_at-2.ensures.crash (λ told x left. (one told).now x left)
    (λ told. omega (arith, need.end (one told).told))) in
    let three = through_then (Begins front) a d e two
    (through_behind front _ _ d e (g.met.D.Disk.is_told c.write_at-2.new.self) c.write_at-3.ensures.crash (λ told x left. (two told).now x left)
    (λ told. omega (arith, need.end (two told).told))) in
    through_then (Begins front) a e f three (through_calm (Begins front) e f c.sync.ensures.calm (λ told x left. (three told).now x left))

pub returns-clause-staged : goal.returns-clause-staged
returns-clause-staged g c =
    let a = g.D.Disk.file c.args.disk.now in
    let b = g.D.Disk.file c.write_at.new.self in
    let d = g.D.Disk.file c.write_at-2.new.self in
    let e = g.D.Disk.file c.write_at-3.new.self in
    let f = g.D.Disk.file c.sync.new.disk in
    on_ok c.sync.result c.sync.ensures.durable
    (λ durable told.
    let calm = c.sync.ensures.calm told in
    let in_e = calm.told in
    let in_d = (c.write_at-3.ensures.crash in_e).told in
    let in_b = (c.write_at-2.ensures.crash in_d).told in
    let in_a = (c.write_at.ensures.crash in_b).told in
    let staged_e = staged_seen a.seen b.seen d.seen e.seen c.to_be_bytes.result c.args.payload.now _ _ _ (c.in_ok-write_at.ensures.written in_b) (c.in_ok-write_at-2.ensures.written in_d)
    (c.in_ok-write_at-3.ensures.written in_e) (omega (arith, c.requires.end in_a)) (ap length c.to_be_bytes.ensures) (omega arith) (omega arith) c.to_be_bytes.ensures in
    (calm.seen ∙ staged_e, λ x left. durable told x left ∙ sym calm.seen))
