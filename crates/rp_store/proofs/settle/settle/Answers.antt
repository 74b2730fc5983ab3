use Rattle.std.proofs.Common.{ℕ, List, subst}
use Rattle.rp_store.specs.Stores.{IsTrimmedTo}
use Rattle.rp_store.specs.Walks.{IsLookedUp}
use Rattle.rp_store.proofs.Calls.{calm_then}
use Rattle.rp_store.proofs.Settled.{opens_trimmed, settled_given}
use Rattle.rp_store.proofs.settle.settle.Goals as goal

pub returns-in_err-finish-clause-any_moment : goal.returns-in_err-finish-clause-any_moment
returns-in_err-finish-clause-any_moment g c =
    let a = g.D.Disk.file c.args.disk.now in
    let b = g.D.Disk.file c.sync.new.disk in
    let d = g.D.Disk.file c.look.new.disk in
    let e = g.D.Disk.file c.finish.new.disk in
    let f = c.in_ok-found.found in
    let look = c.in_ok-found.ensures in
    opens_trimmed a d e f.end f.last f.payload (g.met.D.Disk.is_told c.args.disk.now) (calm_then a b d c.sync.ensures.calm look.calm)
    (λ told. subst (λ (l : List ℕ). IsLookedUp l f.end f.last f.payload) (c.sync.ensures.calm (look.calm told).told).seen (look.found told)) c.finish.ensures.through

pub returns-clause-any_moment : goal.returns-clause-any_moment
returns-clause-any_moment g c =
    let a = g.D.Disk.file c.args.disk.now in
    let b = g.D.Disk.file c.sync.new.disk in
    let d = g.D.Disk.file c.look.new.disk in
    let e = g.D.Disk.file c.finish.new.disk in
    let f = c.in_ok-found.found in
    let look = c.in_ok-found.ensures in
    opens_trimmed a d e f.end f.last f.payload (g.met.D.Disk.is_told c.args.disk.now) (calm_then a b d c.sync.ensures.calm look.calm)
    (λ told. subst (λ (l : List ℕ). IsLookedUp l f.end f.last f.payload) (c.sync.ensures.calm (look.calm told).told).seen (look.found told)) c.finish.ensures.through

pub returns-clause-given : goal.returns-clause-given
returns-clause-given g c told =
    let a = g.D.Disk.file c.args.disk.now in
    let b = g.D.Disk.file c.sync.new.disk in
    let d = g.D.Disk.file c.look.new.disk in
    let e = g.D.Disk.file c.finish.new.disk in
    let f = c.in_ok-found.found in
    let look = c.in_ok-found.ensures in
    let finish = c.in_ok-finish.ensures in
    let s = c.in_ok-finish.field-0 in
    let in_d = (c.finish.ensures.through told).told in
    let in_b = (look.calm in_d).told in
    let synced = (c.sync.ensures.calm in_b).seen in
    let looked = subst (λ (l : List ℕ). IsLookedUp l f.end f.last f.payload) synced (look.found in_d) in
    let same = (calm_then a b d c.sync.ensures.calm look.calm in_d).seen in
    let trimmed = finish.trimmed told in
    settled_given a.seen e f.end f.last f.payload s.end s.place s.payload looked look.last (subst (λ (l : List ℕ). IsTrimmedTo f.end l e.seen) same trimmed.0) trimmed.1
    finish.settled.0 finish.settled.1 finish.settled.2
