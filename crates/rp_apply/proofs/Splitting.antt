-- What a split leaves, and what another request leaves.
use Rattle.std.proofs.Common.{◌≡◌, ℕ, Result, Ok, sym, ap, ◌∙◌}
use Rattle.rp_base.specs.Splits.{split_of}
use Rattle.rp_base.specs.declared.ranges.Desc.{Desc}
use Rattle.rp_base.specs.declared.ranges.SplitFault.{SplitFault}
use Rattle.rp_base.specs.Tables.{Table, below}
use Rattle.rp_request.specs.declared.commands.Command.{Command}
use Rattle.rp_request.specs.declared.requests.Request.TheVariants.{Split}
use Rattle.rp_request.specs.Applied.{AppliedState, left_of, desc_after, taken}
use Rattle.rp_request.specs.Batches.{after_batch}

-- the left part of a split that is made
pub split_state : (s : AppliedState) (key : ℕ) (parts : Desc × Desc) (t : Table) (r : Result (Desc × Desc) SplitFault) → r ≡ split_of s.desc key → r ≡ Ok parts → t ≡ below s.table key
    → ◌≡◌ {A = AppliedState} (record { desc = parts.0; lease = s.lease; lai = s.lai; table = t })
    (record { desc = left_of s.desc (split_of s.desc key); lease = s.lease; lai = s.lai; table = below s.table key })
split_state s key parts t r e o h = let split = sym e ∙ o in rw (split, h)

-- a split that is taken
pub split_taken : (s : AppliedState) (c : Command) (key : ℕ) → c.request ≡ Split key
    → ◌≡◌ {A = AppliedState} (record { desc = left_of s.desc (split_of s.desc key); lease = s.lease; lai = c.max; table = below s.table key }) (taken s c)
split_taken s c key e = sym (ap (λ r. record { desc = desc_after s.desc r; lease = s.lease; lai = c.max; table = after_batch s.table r c.batch }) e)
