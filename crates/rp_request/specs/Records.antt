-- What the records of a range's entries say was applied.
use Rattle.std.specs.Prelude.{List, Option, None, Some, filter_map}
use Rattle.rp_request.specs.declared.items.Place.{Place}
use Rattle.rp_request.specs.declared.items.Record.{Record}
use Rattle.rp_request.specs.declared.items.Record.TheVariants.{Took, Passed}

-- the item of an entry that was taken
abbrev pub item_of : Record → Option Place
item_of (Took item) = Some item
item_of (Passed why) = None

-- the applied list: the items that were taken, in the order of their entries
abbrev pub applied : List Record → List Place
applied records = filter_map item_of records
