-- What lists of events do to a buffer.
use Rattle.std.specs.Prelude.{◌≡◌, ◌≢◌, ℕ, ◌+◌, ◌≤◌, ◌<◌, if◌then◌else◌, List, [], ◌∷◌, ◌++◌, length, slice_get, count_by, All, Contains, Bool, Ok, Some}
use Rattle.rp_base.specs.Limits.{buffer_capacity}
use Rattle.rp_base.specs.declared.items.Item.{Item}
use Rattle.rp_bufcore.specs.declared.buffers.Slot.TheVariants.{Free}
use Rattle.rp_bufcore.specs.Buffers.{Buffer, start, is_drawn, after_draw, publish_answer, after_publish, given, after_collect}

-- a place is drawn, an item is published at a place, or what is published is collected
pub data Event : Type 0 where
  draw : Event
  publish : ℕ → Item → Event
  collect : Event

-- an event makes one buffer of another
abbrev pub step : Buffer → Event → Buffer
step b draw = after_draw b
step b (publish place item) = after_publish b place item
step b collect = after_collect b

-- the buffer after a list of events
abbrev pub run : Buffer → List Event → Buffer
run b [] = b
run b (e ∷ es) = run (step b e) es

-- the item that an event publishes
abbrev pub published_by : Buffer → Event → List Item
published_by b draw = []
published_by b (publish place item) = if is_drawn (slice_get b.slots place) then item ∷ [] else []
published_by b collect = []

-- the items that an event gives
abbrev pub given_by : Buffer → Event → List Item
given_by b draw = []
given_by b (publish place item) = []
given_by b collect = given b

-- all that was published along a list of events
abbrev pub published_along : Buffer → List Event → List Item
published_along b [] = []
published_along b (e ∷ es) = published_by b e ++ published_along (step b e) es

-- all that was given along a list of events
abbrev pub given_along : Buffer → List Event → List Item
given_along b [] = []
given_along b (e ∷ es) = given_by b e ++ given_along (step b e) es

-- of the items that pass a test, as many were published as were given or still wait: none is given
-- twice, and none is lost
abbrev pub EachGivenOnce : Type 0
EachGivenOnce = (events : List Event) (test : Item → Bool)
    → count_by test (published_along start events)
    ≡ count_by test (given_along start events) + count_by test (given (run start events))

-- an item that was published is among those that the next collect gives
abbrev pub GivenByTheNext : Type 0
GivenByTheNext = (before between : List Event) (place : ℕ) (item : Item)
    → publish_answer (run start before) place ≡ Ok tt → All (λ e. e ≢ collect) between
    → Contains (given (run start (before ++ publish place item ∷ between))) item

-- a collect leaves no item that it could have given
abbrev pub NothingLeft : Type 0
NothingLeft = (b : Buffer) → given (after_collect b) ≡ []

-- a buffer has all its places, and those that are not drawn are free
pub record IsSound (b : Buffer) : Type 0 where
  pub places : length b.slots ≡ buffer_capacity
  pub within : b.drawn ≤ buffer_capacity
  pub free : (k : ℕ) → b.drawn ≤ k → k < buffer_capacity → slice_get b.slots k ≡ Some Free

-- that is so after any events
abbrev pub StaysSound : Type 0
StaysSound = (events : List Event) → IsSound (run start events)
