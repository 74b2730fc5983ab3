-- What a desk over a seat, a pass and a share stands for (this project).
use Rattle.std.specs.Prelude.{◌≡◌, ℕ, ◌+◌, ◌-◌, ◌*◌, ◌≤◌, Bool, true, false, List, slice_index_or, Result, Ok, Err}
use Rattle.rp_base.specs.declared.ids.CmdId.{CmdId}
use Rattle.rp_base.specs.declared.items.Item.{Item}
use Rattle.rp_base.specs.declared.items.Item.TheVariants.{Write}
use Rattle.rp_buffer.specs.declared.faults.InsertFault.{InsertFault}
use Rattle.rp_buffer.specs.declared.rule.Hand.{Hand}
use Rattle.rp_buffer.specs.Passes.{Tells}
use Rattle.rp_clients.specs.Desks.{Standing}
use Rattle.rp_events.specs.Worlds.{World}
use Rattle.rp_race.specs.Played.{requests_of}
use Rattle.rp_switch.specs.Gifts.{tries_known}
use Rattle.rp_switch.specs.Views.{Knowledge}
use Rattle.rp_desks.specs.Onward.{rounds_seen}

-- the greatest number of rounds that was told of a node, as the desk keeps it
abbrev pub told_of : List ℕ → (node : ℕ) → ℕ
told_of told node = slice_index_or told node 0

-- the tries are those that the client's right keeps; what else the desk keeps, and its share
abbrev pub standing : Knowledge → (client : ℕ) → (told : List ℕ) → (is_over is_short is_put : Bool)
    → (capacity held : ℕ) → Standing
standing v client told is_over is_short is_put capacity held = record {
  tries = tries_known v client;
  told = told_of told;
  client = client;
  nodes = v.terms.nodes;
  requests = requests_of v.terms.rules client;
  is_over = is_over;
  is_short = is_short;
  is_put = is_put;
  capacity = capacity;
  held = held;
}

-- each node had, as the seat saw it last, at least as many rounds as were told of it
abbrev pub IsTold : List ℕ → World → Type 0
IsTold told seen = (node : ℕ) → 1 ≤ node → node ≤ 5 → told_of told node ≤ rounds_seen seen node

-- the buffer of a node's range
abbrev pub buffer_of : (node range : ℕ) → ℕ
buffer_of node range = 8 * (node - 1) + range

-- the command's item was put into the buffer, or there was no room or another was faster, and it was not
abbrev pub Puts : Hand → (node range : ℕ) → CmdId → Bool → Hand → Type 0
Puts v node range id true w = Tells v (buffer_of node range) (Write id) (Ok tt) w
Puts v node range id false w =
    (why : InsertFault) × Tells v (buffer_of node range) (Write id) (Err why) w
