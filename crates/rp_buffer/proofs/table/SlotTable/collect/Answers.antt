use Rattle.std.proofs.Common.{rules, ◌≡◌, ◌+◌, ◌*◌, ◌/◌, ◌<◌, ◌≤◌, ◌++◌, [], length, Option, ℕ, ◌-◌, ◌%◌, Bool, true, false, nat_eq, nat_lt, List, ◌∷◌, slice_index_or, slice_set, bit_and, bit_or, Fits, w8, w32, w64, Bor, MutBor, arith, subst}
use Rattle.rp_buffer.specs.Passes.{known_by, IsPassOf, IsSame}
use Rattle.rp_buffer.specs.Collects.{Collects, Appends}
use Rattle.rp_buffer.proofs.Collecting.{collects}
use Rattle.rp_buffer.proofs.table.SlotTable.collect.Goals as goal

pub returns-clause-told : goal.returns-clause-told
returns-clause-told c =
    let told = c.sweep_all.ensures.told in (
      told.0,
      told.1,
      told.2,
      told.3,
      subst (λ (b : ℕ). Collects (known_by c.args.pass.now.pass) b told.0 (known_by c.reopen.new.pass)) c.from-buffer.ensures
          (collects _ _ _ _ _ _ c.shut.ensures.none c.shut.ensures.told told.4 c.reopen.ensures.told),
    )

pub returns-clause-parts : goal.returns-clause-parts
returns-clause-parts c =
    (collects _ _ _ _ _ _ c.shut.ensures.none c.shut.ensures.told c.sweep_all.ensures.told.4 c.reopen.ensures.told).takings.parts
