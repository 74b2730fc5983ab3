use Rattle.std.proofs.Common.{◌≡◌, get_or, rules}
use Rattle.rp_store.proofs.Walked.{head_whole}
use Rattle.rp_store.proofs.heads.head_of.Goals as goal

pub returns-in-Some-clause-head : goal.returns-in-Some-clause-head
returns-in-Some-clause-head c bytes long begins =
    let gate : get_or c.args.front.now 0 0 ≡ 1 = search rules in
    let size = c.in-Some.ensures in
    head_whole c.args.front.now bytes c.in-Some.size c.args.rest gate c.in-1.len_at_least c.requires.front size.0 size.1 c.if-size-rest.true long begins
