use Rattle.std.proofs.Common.{◌≡◌, ℕ, ◌+◌, ◌<◌, ◌^◌, ◌++◌, ◌∷◌, [], List, Some, length, IsTrue, subst, arith}
use Rattle.rp_disk.specs.Files.{Only}
use Rattle.rp_store.specs.Stores.{Standing, SavesOrNot, Keeps, IsKept, opened, staged}
use Rattle.rp_store.specs.Walks.{Through, IsAppending}
use Rattle.rp_store.proofs.Appended.{end_length, kept_last, save_moments, save_sound, save_kept}
use Rattle.rp_store.proofs.store.Store.put.Goals as goal

pub append-requires-clause-end : goal.append-requires-clause-end
append-requires-clause-end g c told =
    let kept = c.self.invariant told in
    end_length kept.0 (g.D.Disk.file c.self.inside.disk) c.self.inside.end c.self.inside.place kept.1

pub returns-in-Ok-clause-any_moment : goal.returns-in-Ok-clause-any_moment
returns-in-Ok-clause-any_moment g c =
    let file = g.D.Disk.file in
    let in_self = c.self.inside in
    let old : Standing g.row.D.Denot = record { disk = in_self.disk; end = in_self.end; place = in_self.place } in
    let p = c.args.payload.now in
    let fits : length p < 2 ^ 64 = omega (arith, c.requires.room) in
    let calls = subst (λ (l : List ℕ). Through (IsAppending in_self.end (file in_self.disk).seen l) (file in_self.disk) (file c.append.new.disk)) c.as_slice.ensures c.append.ensures.through in
    subst (λ (s : Standing g.row.D.Denot). SavesOrNot file s p c.append.new.disk) c.self.view_is (save_moments file old c.append.new.disk p fits c.self.invariant calls)

pub returns-in-Err-clause-any_moment : goal.returns-in-Err-clause-any_moment
returns-in-Err-clause-any_moment g c =
    let file = g.D.Disk.file in
    let in_self = c.self.inside in
    let old : Standing g.row.D.Denot = record { disk = in_self.disk; end = in_self.end; place = in_self.place } in
    let p = c.args.payload.now in
    let fits : length p < 2 ^ 64 = omega (arith, c.requires.room) in
    let calls = subst (λ (l : List ℕ). Through (IsAppending in_self.end (file in_self.disk).seen l) (file in_self.disk) (file c.append.new.disk)) c.as_slice.ensures c.append.ensures.through in
    subst (λ (s : Standing g.row.D.Denot). SavesOrNot file s p c.append.new.disk) c.self.view_is (save_moments file old c.append.new.disk p fits c.self.invariant calls)

pub returns-in-Ok-clause-sound : goal.returns-in-Ok-clause-sound
returns-in-Ok-clause-sound g c =
    let file = g.D.Disk.file in
    let in_self = c.self.inside in
    let old : Standing g.row.D.Denot = record { disk = in_self.disk; end = in_self.end; place = in_self.place } in
    let p = c.args.payload.now in
    let fits : length p < 2 ^ 64 = omega (arith, c.requires.room) in
    let calls = subst (λ (l : List ℕ). Through (IsAppending in_self.end (file in_self.disk).seen l) (file in_self.disk) (file c.append.new.disk)) c.as_slice.ensures c.append.ensures.through in
    save_sound file old c.append.new.disk p fits c.self.invariant calls

pub returns-in-Err-clause-sound : goal.returns-in-Err-clause-sound
returns-in-Err-clause-sound g c =
    let file = g.D.Disk.file in
    let in_self = c.self.inside in
    let old : Standing g.row.D.Denot = record { disk = in_self.disk; end = in_self.end; place = in_self.place } in
    let p = c.args.payload.now in
    let fits : length p < 2 ^ 64 = omega (arith, c.requires.room) in
    let calls = subst (λ (l : List ℕ). Through (IsAppending in_self.end (file in_self.disk).seen l) (file in_self.disk) (file c.append.new.disk)) c.as_slice.ensures c.append.ensures.through in
    save_sound file old c.append.new.disk p fits c.self.invariant calls

pub returns-in-Ok-clause-saved : goal.returns-in-Ok-clause-saved
returns-in-Ok-clause-saved g c told =
    let file = g.D.Disk.file in
    let in_self = c.self.inside in
    let old : Standing g.row.D.Denot = record { disk = in_self.disk; end = in_self.end; place = in_self.place } in
    let p = c.args.payload.now in
    let fits : length p < 2 ^ 64 = omega (arith, c.requires.room) in
    let calls = subst (λ (l : List ℕ). Through (IsAppending in_self.end (file in_self.disk).seen l) (file in_self.disk) (file c.append.new.disk)) c.as_slice.ensures c.append.ensures.through in
    let new = file c.append.new.disk in
    let done = subst (λ (l : List ℕ). IsTrue new.tells → (new.seen ≡ opened in_self.end (staged (file in_self.disk).seen l)) × Only new.seen new.may_leave) c.as_slice.ensures c.in-Ok.ensures.appended in
    let all = save_kept file old c.append.new.disk p c.len.result c.len.ensures fits c.self.invariant calls done told in
    (all.0, subst (λ (s : Standing g.row.D.Denot). Keeps file s all.0) c.self.view_is all.1, all.2)

pub invariant_of-result : goal.invariant_of-result
invariant_of-result g c told =
    let file = g.D.Disk.file in
    let in_self = c.self.inside in
    let old : Standing g.row.D.Denot = record { disk = in_self.disk; end = in_self.end; place = in_self.place } in
    let p = c.args.payload.now in
    let fits : length p < 2 ^ 64 = omega (arith, c.requires.room) in
    let calls = subst (λ (l : List ℕ). Through (IsAppending in_self.end (file in_self.disk).seen l) (file in_self.disk) (file c.append.new.disk)) c.as_slice.ensures c.append.ensures.through in
    let new = file c.append.new.disk in
    let done = subst (λ (l : List ℕ). IsTrue new.tells → (new.seen ≡ opened in_self.end (staged (file in_self.disk).seen l)) × Only new.seen new.may_leave) c.as_slice.ensures c.in-Ok.ensures.appended in
    let all = save_kept file old c.append.new.disk p c.len.result c.len.ensures fits c.self.invariant calls done told in
    (all.0 ++ (p ∷ []), all.2)

pub returns-in-Ok-clause-acknowledged : goal.returns-in-Ok-clause-acknowledged
returns-in-Ok-clause-acknowledged g c told =
    let saved = returns-in-Ok-clause-saved g c told in
    let all : IsKept (saved.0 ++ (c.args.payload.now ∷ [])) (g.D.Disk.file c.append.new.disk) (c.self.inside.end + 9 + c.len.result) (Some (c.self.inside.end + 9)) = saved.2 in
    kept_last saved.0 c.args.payload.now (g.D.Disk.file c.append.new.disk) all.at_rest
