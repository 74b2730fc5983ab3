-- The start of the right range of a split.
use Rattle.std.proofs.Common.{◌≡◌, ℕ, Some, sym, ap, ◌∙◌}
use Rattle.rp_base.specs.Splits.{split_of}
use Rattle.rp_base.specs.Tables.{Table}
use Rattle.rp_base.specs.declared.leases.Lease as leases
use Rattle.rp_base.specs.declared.ranges.Desc.{Desc}
use Rattle.rp_request.specs.Applied.{AppliedState}
use Rattle.rp_request.specs.States.{right_by_request, right_with}
use Rattle.rp_request.specs.declared.requests.Request.{Request}
use Rattle.rp_request.specs.declared.requests.Request.TheVariants.{Split}

-- the start of a right range
pub opens : (s : AppliedState) (request : Request) (key : ℕ) (right : AppliedState) (desc : Desc) (lease : leases.Lease) (table : Table)
    → request ≡ Split key → desc ≡ s.desc → lease ≡ s.lease → table ≡ s.table
    → ((lai : ℕ) → right_with (record { desc = desc; lease = lease; lai = lai; table = table }) key (split_of desc key) ≡ Some right)
    → Some right ≡ right_by_request s request
opens s request key right desc lease table is ed el et h =
    sym (h s.lai)
    ∙ ap (λ (d : Desc). right_with (record { desc = d; lease = lease; lai = s.lai; table = table }) key (split_of d key)) ed
    ∙ ap (λ (l : leases.Lease). right_with (record { desc = s.desc; lease = l; lai = s.lai; table = table }) key (split_of s.desc key)) el
    ∙ ap (λ (t : Table). right_with (record { desc = s.desc; lease = s.lease; lai = s.lai; table = t }) key (split_of s.desc key)) et
    ∙ sym (ap (right_by_request s) is)
