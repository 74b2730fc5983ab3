use Rattle.rp_script.proofs.Along.{line_told}
use Rattle.rp_script.proofs.sources.ScriptReader.take_line.Goals as goal

pub invariant_of-self-2 : goal.invariant_of-self-2
invariant_of-self-2 c =
    let room = rw (← c.self.view_is) at c.requires.room in
    let follows = rw (← c.self.view_is) at c.requires.follows in
    line_told c.self.inside.script c.keep.new.self c.self.inside.line.items c.clear.new.self.items c.self.inside.taken.items
    c.push_line.new.taken.items _ c.args.said c.self.invariant room c.keep.ensures.lines c.clear.ensures.items c.keep.ensures.kept
    c.in_ok-push_line.ensures.more follows
