-- The items of entries.
use Rattle.std.specs.Prelude.{List, map}
use Rattle.rp_request.specs.Records.{applied}
use Rattle.rp_request.specs.declared.items.Place.{Place}
use Rattle.rp_reread.specs.declared.reports.Entry.{Entry}

-- the applied list that entries show
abbrev pub items_of : List Entry → List Place
items_of es = applied (map (λ e. e.kept) es)
