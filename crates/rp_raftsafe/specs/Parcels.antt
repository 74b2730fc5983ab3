-- What a range sees of a node, and of what the node has sent.
use Rattle.std.specs.Prelude.{◌≡◌, ℕ, Some}
use Rattle.rp_raftsafe.specs.World.{site, message_of}
use Rattle.rp_raftsafe.specs.Many.{Parcel, Hosts, host, parcel_of, number_in, view_host, view}

-- a parcel is a message of its range, with its number among those of the range
abbrev pub ParcelsAreMessages : Type 0 → Type 0
ParcelsAreMessages S =
    (w : Hosts S) (from number : ℕ) (parcel : Parcel S)
    → parcel_of (host w from) number ≡ Some parcel
    → message_of (site (view parcel.range w) from) (number_in parcel.range (host w from).sent number)
    ≡ Some (parcel.to, parcel.message)

-- a range sees of a node what the node has of it
abbrev pub ViewsOfHosts : Type 0 → Type 0
ViewsOfHosts S =
    (range : ℕ) (w : Hosts S) (node : ℕ) → site (view range w) node ≡ view_host range (host w node)
