-- One node's part of a world after it was changed, or another's; and a parcel as a message of its range.
use Rattle.std.proofs.Common.{◌≡◌, ℕ, zero, suc, ◌<◌, ◌≤◌, Option, Some, None, [], length, refl, sym, ap, ◌∙◌, ⊎_elim, inl, inr, get_or-set_same, get_or-set_other}
use Rattle.std.specs.Prelude.{◌⊎◌, slice_get}
use Rattle.std.proofs.lemmas.Bool.{cases_lt}
use Rattle.std.proofs.lemmas.List.{set_past, get_or_past}
use Rattle.rp_raftsafe.specs.World.{Replica, Status, Absent, Live, Site, World, site, with_site, message_of}
use Rattle.rp_raftsafe.specs.Many.{Parcel, host, view}
use Rattle.rp_raftsafe.specs.Safety.{IsLive}
use Rattle.rp_raftsafe.specs.Parcels.{ParcelsAreMessages, ViewsOfHosts}
use Rattle.rp_raftsafe.proofs.Seen.{parcel_is, view_site}

-- another node's part stays
pub site_other : {S : Type 0} (w : World S) (node : ℕ) (new : Site S) (other : ℕ) → (other ≡ node → ⊥) → site (with_site w node new) other ≡ site w other
site_other w zero new other ne = refl
site_other w (suc place) new zero ne = refl
site_other w (suc place) new (suc k) ne = get_or-set_other w place k new (record { status = Absent; sent = [] }) (λ e. ne (ap suc e))

-- a node's part is placed there, or the world has no such node
pub placed_in : {S : Type 0} (w : World S) (node : ℕ) (new : Site S) → (site (with_site w node new) node ≡ new) ⊎ (with_site w node new ≡ w)
placed_in w zero new = inr refl
placed_in w (suc place) new =
    ⊎_elim
    (λ (within : place < length w). inl (get_or-set_same w place new (record { status = Absent; sent = [] }) within))
    (λ (past : length w ≤ place). inr (set_past w place new past))
    (cases_lt place (length w))

-- it is placed where the node has a replica
pub site_live : {S : Type 0} (w : World S) (node : ℕ) (r : Replica S) → IsLive w node r → (new : Site S) → site (with_site w node new) node ≡ new
site_live {S} w zero r live new = absurd (absent_live live)
  where
    absent_live : ◌≡◌ {A = Status S} Absent (Live r) → ⊥
    absent_live e = cc
site_live {S} w (suc place) r live new =
    ⊎_elim
    (λ (within : place < length w). get_or-set_same w place new (record { status = Absent; sent = [] }) within)
    (λ (past : length w ≤ place). absurd (absent_live (sym (ap (λ (z : Site S). z.status) (get_or_past w place (record { status = Absent; sent = [] }) past)) ∙ live)))
    (cases_lt place (length w))
  where
    absent_live : ◌≡◌ {A = Status S} Absent (Live r) → ⊥
    absent_live e = cc

pub parcels_are_messages_holds : (S : Type 0) → ParcelsAreMessages S
parcels_are_messages_holds S w from zero p at = absurd (none_some at)
  where
    none_some : ◌≡◌ {A = Option (Parcel S)} None (Some p) → ⊥
    none_some e = cc
parcels_are_messages_holds S w from (suc place) p at =
    let is = parcel_is p.range (host w from).sent place p at refl in
    ap (message_of (site (view p.range w) from)) is.1 ∙ ap (λ z. slice_get z.sent is.0) (view_site p.range w from) ∙ is.2

pub views_of_hosts_holds : (S : Type 0) → ViewsOfHosts S
views_of_hosts_holds S range w node = view_site range w node
