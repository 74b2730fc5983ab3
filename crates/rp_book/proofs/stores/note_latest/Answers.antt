use Rattle.rp_book.proofs.stores.note_latest.Goals as goal

pub returns-clause-entries : goal.returns-clause-entries
returns-clause-entries c client seq = (rw c.unwrap.ensures at c.insert.ensures.updates).0 (record { client = client; seq = seq })
