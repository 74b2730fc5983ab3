-- One of what is kept of the nodes changes, and the others stay.
use Rattle.std.proofs.Common.{◌≡◌, ◌≢◌, ℕ, zero, suc, ◌<◌, List, [], ◌∷◌, length, refl, sym, ap, subst, ◌∙◌, arith, Some, slice_get, slice_set, slice_index_or}
use Rattle.rp_journals.proofs.Lists.{set_other}
use Rattle.rp_bench.specs.declared.stations.Station.{Station}
use Rattle.rp_bench.specs.Stations.{Changes, OthersStay}

pub got : (l : List Station) (i : ℕ) (d : Station) → i < length l → slice_get l i ≡ Some (slice_index_or l i d)
got [] i d low = absurd (omega (arith, low))
got (x ∷ xs) zero d low = refl
got (x ∷ xs) (suc i) d low = got xs i d (omega (arith, low))

set_here : (l : List Station) (i : ℕ) (s t : Station) → slice_get l i ≡ Some s → slice_get (slice_set l i t) i ≡ Some t
set_here [] i s t e = absurd (cc)
set_here (x ∷ xs) zero s t e = refl
set_here (x ∷ xs) (suc i) s t e = set_here xs i s t e

pub changed : (l : List Station) (i place : ℕ) (d t : Station) (how : Station → Station → Type 0) → i < length l → i ≡ place → how (slice_index_or l i d) t
    → Changes place how l (slice_set l i t)
changed l i place d t how low is done =
    let here = got l i d low in
    subst (λ (k : ℕ). Changes k how l (slice_set l i t)) is (slice_index_or l i d, t, here, set_here l i (slice_index_or l i d) t here, done)

pub others_stay : (l : List Station) (i place : ℕ) (t : Station) → i ≡ place → OthersStay place l (slice_set l i t)
others_stay l i place t is = λ k away. set_other l i k t (λ e. away (e ∙ is))
