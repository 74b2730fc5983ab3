-- The number of each range that there is.
use Rattle.std.proofs.Common.{◌≡◌, ℕ, zero, suc, ◌+◌, ◌^◌, ◌<◌, ◌⊎◌, inl, inr, true, sym, ap, ◌∙◌, arith}
use Rattle.rp_base.proofs.SplitLaws.{parts}
use Rattle.rp_request.specs.Applied.{AppliedState}
use Rattle.rp_request.specs.States.{first_applied}
use Rattle.rp_rangesafe.specs.Along.{entry}
use Rattle.rp_rangesafe.specs.World.{state_at}
use Rattle.rp_rangesafe.specs.Ranges.{Ranges, AreReached}
use Rattle.rp_rangesafe.proofs.Rights.{IsOrigin, opens_it, sources_reached}

power_below : (level id q : ℕ) → level < 3 → id < 2 ^ level → q ≡ id + 2 ^ level → q < 8
power_below zero id q l h e = omega (arith, h, e)
power_below (suc zero) id q l h e = omega (arith, h, e)
power_below (suc (suc zero)) id q l h e = omega (arith, h, e)
power_below (suc (suc (suc n))) id q l h e = absurd (omega (arith, l))

pub opened_below : (m : Ranges) → AreReached m → (q : ℕ) → m.opened q ≡ true → q < 8
opened_below m reach q there = go (sources_reached m reach q there).origin where
  go : ((q ≡ 0) × ((m.range q).start ≡ first_applied)) ⊎ IsOrigin m (m.range q).start → q < 8
  go (inl p) = let e = p.0 in omega (arith, e)
  go (inr x) =
      let s = state_at (m.range x.left) x.index in
      let o = opens_it s (entry (m.range x.left).log x.index) (m.range q).start x.opens in
      let share = parts s.desc o.key o.left o.right o.parted in
      power_below s.desc.level s.desc.id q share.level s.desc.id_of_level
      (sym (sources_reached m reach q there).numbered ∙ sym (ap (λ (t : AppliedState). t.desc.id) o.made) ∙ share.right_id)
