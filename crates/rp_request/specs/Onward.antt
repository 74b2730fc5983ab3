-- How applied states follow one another.
use Rattle.std.specs.Prelude.{◌≡◌, ◌≤◌}
use Rattle.rp_request.specs.Applied.{AppliedState}

-- from the one state on to the other neither the lease applied index nor the lease sequence fell,
-- and where the sequence is the same, so is the holder
pub record IsOnward (s t : AppliedState) : Type 0 where
  pub lai : s.lai ≤ t.lai
  pub seq : s.lease.seq ≤ t.lease.seq
  pub holder : t.lease.seq ≡ s.lease.seq → t.lease.holder ≡ s.lease.holder
