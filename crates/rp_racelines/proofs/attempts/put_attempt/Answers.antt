use Rattle.rp_racelines.proofs.attempts.put_attempt.Goals as goal

pub returns : goal.returns
returns c client seq = (rw c.unwrap.ensures at c.insert.ensures.updates).0 (record { client = client; seq = seq })
