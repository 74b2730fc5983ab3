-- What a desk stands for (this project).
use Rattle.rp_bufcore.specs.declared.ends.BufferEnd.{Ghosts}
use Rattle.rp_quota.specs.Shares as shares
use Rattle.rp_clients.specs.Desks.{Standing}
use Rattle.rp_switch.specs.Seats.{known_by}
use Rattle.rp_desks.specs.Desks.{standing}
use Rattle.rp_desks.specs.declared.origins.Origin as origins
use Rattle.rp_desks.specs.declared.desks.SwitchDesk.{SwitchDesk}

abbrev pub standing_of : {R E K : Type 0} {g : Ghosts E} {o : origins.Ghosts K} → SwitchDesk R E K g o → Standing
standing_of d = standing (known_by d.seat.seat) d.seat.client d.told d.is_over d.is_short d.is_put
    (shares.capacity_of d.quota.now) (shares.known_by d.share).units
