-- The call that a bench in memory keeps, as the one that is due.
use Rattle.rp_rounds.specs.Rounds.{Due, pull, round, post, nothing}
use Rattle.rp_client_calls.specs.declared.calls.Call.{Call}
use Rattle.rp_client_calls.specs.declared.calls.Call.TheVariants.{Pull, Round, Post, Nothing}

abbrev pub due_of : Call → Due
due_of (Pull from to) = pull from to
due_of (Round node) = round node
due_of (Post node) = post node
due_of Nothing = nothing
