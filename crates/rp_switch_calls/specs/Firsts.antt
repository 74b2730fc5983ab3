-- A client that has tried nothing yet, at the switch of these tests (this project).
use Rattle.std.specs.Prelude.{◌≡◌, ℕ, ◌≤◌, List, [], ◌∷◌, replicate, slice_get, Some}
use Rattle.rp_request.specs.declared.requests.Request.{Request}
use Rattle.rp_request.specs.declared.requests.Request.TheVariants.{Del}
use Rattle.rp_clients.specs.Tries.{first_key}
use Rattle.rp_race.specs.declared.rules.ClientRequests.{ClientRequests}
use Rattle.rp_race.specs.Played.{requests_of}
use Rattle.rp_router.specs.Hints.{started, aimed_node, aimed_range}
use Rattle.rp_bufcore.specs.declared.ends.BufferEnd.{Ghosts}
use Rattle.rp_switch.specs.declared.switch.Switch.{Switch}
use Rattle.rp_switch.specs.declared.switch.Seat.{Seat}
use Rattle.rp_switch.specs.Gifts.{CarriesClient, tries_known}
use Rattle.rp_switch.specs.Seats.{terms_of, known_by, IsSeatOf}
use Rattle.rp_switch.specs.Views.{Knowledge, Idle}

-- each of four clients is to remove the key
abbrev pub four_removals : (key : ℕ) → List ClientRequests
four_removals key = replicate 4 (record { requests = Del key ∷ [] })

-- the seat has the client's right, and the client has tried nothing
pub record HasTriedNothing (v : Knowledge) (client : ℕ) : Type 0 where
  pub carries : CarriesClient v client
  pub none : tries_known v client ≡ []

-- of five nodes a key is sought at this one first, in this range
pub record IsAim (node range key : ℕ) : Type 0 where
  pub at_node : node ≡ aimed_node (started 5) key
  pub in_range : range ≡ aimed_range (started 5) key
  pub low : node ≤ 5

-- its first try is to be at this node, in this range
pub record MayBegin (v : Knowledge) (client node range key : ℕ) : Type 0 where
  pub first : HasTriedNothing v client
  pub some : 1 ≤ client
  pub asked : slice_get (requests_of v.terms.rules client) 0 ≡ Some (Del key)
  pub at_node : node ≡ aimed_node (started v.terms.nodes) key
  pub in_range : range ≡ aimed_range (started v.terms.nodes) key
  pub low : node ≤ v.terms.nodes

-- and so of each client from this one to the fourth
abbrev pub AllMayBegin : Knowledge → (client node range key : ℕ) → Type 0
AllMayBegin v client node range key = (c : ℕ) → client ≤ c → c ≤ 4 → MayBegin v c node range key

module _ {E : Type 0} {g : Ghosts E} where
  -- a seat with one part, whose client's first try is to be made
  pub record IsReady (s : Switch E) (p : Seat E g) (client node range key : ℕ) : Type 0 where
    pub of : IsSeatOf s p
    pub five : (terms_of s).nodes ≡ 5
    pub idle : (known_by p).stage ≡ Idle
    pub part : (known_by p).parts ≡ 1
    pub may : MayBegin (known_by p) client node range key

  -- a seat with so many parts, and no node
  pub record IsBack (s : Switch E) (p : Seat E g) (parts : ℕ) : Type 0 where
    pub of : IsSeatOf s p
    pub idle : (known_by p).stage ≡ Idle
    pub has : (known_by p).parts ≡ parts
