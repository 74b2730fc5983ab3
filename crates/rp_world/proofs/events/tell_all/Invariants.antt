use Rattle.std.proofs.Common.{◌≡◌, ◌≤◌, take}
use Rattle.rp_base.specs.declared.ids.CmdId.{CmdId}
use Rattle.rp_book.specs.Books.{told_of}
use Rattle.rp_world.specs.Keeping.{told_after}
use Rattle.rp_world.proofs.events.tell_all.Given as goal

-- what was told so far
abbrev pub invariant-loop-ended : goal.invariant-loop-ended
invariant-loop-ended l = record {
  entries : l.book.entries ≡ l.initial.book.entries;
  told : (id : CmdId) → told_of id l.book.told ≡ told_after (take l.ended-index l.ends) id (told_of id l.initial.book.told);
  spare : l.initial.book.spare ≤ l.book.spare;
}
