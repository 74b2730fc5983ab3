use Rattle.rp_seats.proofs.laws.what_raft_commits_is_committed.Goals as goal
use Rattle.rp_seats.proofs.Commits.{raft_turn}

pub returns : goal.returns
returns c nodes range s one seen events w after h k ok sees reached later log handed = raft_turn nodes range s one seen events w after h k ok sees reached later log handed
