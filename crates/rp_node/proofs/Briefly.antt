-- Events in brief leave the replica in its seat.
use Rattle.rp_node.specs.Briefs.{event_in_full}
use Rattle.rp_node.specs.Plans.{StaysLive}
use Rattle.rp_node.specs.declared.briefs.Brief.{Brief}
use Rattle.rp_node.specs.declared.briefs.Brief.TheVariants.{Ask, Transfer, Apply, Cut, Peek}

pub stays_live : (brief : Brief) → StaysLive (event_in_full brief)
stays_live Ask = tt
stays_live (Transfer to) = tt
stays_live Apply = tt
stays_live Cut = tt
stays_live (Peek key) = tt
