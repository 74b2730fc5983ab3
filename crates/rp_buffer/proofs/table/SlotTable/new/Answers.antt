use Rattle.std.proofs.Common.{rules, ◌≡◌, refl}
use Rattle.rp_buffer.proofs.Ends.{opens}
use Rattle.rp_buffer.proofs.table.SlotTable.new.Goals as goal

pub vacant-requires : goal.vacant-requires
vacant-requires c = opens 40 680 640 refl refl
