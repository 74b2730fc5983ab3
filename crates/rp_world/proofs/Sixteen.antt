-- Each buffer keeps its sixteen places.
use Rattle.std.proofs.Common.{◌≡◌, ℕ, zero, suc, ◌+◌, ◌-◌, Bool, true, false, Option, None, Some, List, [], ◌∷◌, set, get_or, map, length, take, refl, sym, ap, subst, ◌∙◌, cond, slice_get, replicate, arith}
use Rattle.std.specs.List.{list_all}
use Rattle.std.proofs.lemmas.List.{length-map, length-set}
use Rattle.rp_base.specs.Limits.{buffer_capacity}
use Rattle.rp_base.specs.declared.items.Item.{Item}
use Rattle.rp_bufcore.specs.declared.buffers.Slot.TheVariants as slots
use Rattle.rp_bufcore.specs.Buffers.{Buffer, start, fresh, buffer_of, with_buffer, can_draw, after_draw, is_drawn, after_publish, given, taken, is_taken, after_collect}
use Rattle.rp_events.specs.declared.world_events.WorldEvent.{WorldEvent}
use Rattle.rp_events.specs.declared.world_events.WorldEvent.TheVariants as events
use Rattle.rp_events.specs.Worlds.{Happening, Collect}
use Rattle.rp_events.specs.Lawful.{is_lawful}
use Rattle.rp_events.specs.Buffered.{Buffered, first_buffered, at_node, buffered_step, buffers_at, changed, collected, collects, has_live}
use Rattle.rp_world.specs.Weighing.{HasPlaces}

-- what holds of each place and of a new value holds of each place with it
set_keeps : {A : Type 0} (P : A → Type 0) (xs : List A) (i : ℕ) (new d : A) → ((j : ℕ) → P (get_or xs j d)) → P new → (j : ℕ) → P (get_or (set xs i new) j d)
set_keeps P [] i new d all here j = all j
set_keeps P (x ∷ xs) zero new d all here zero = here
set_keeps P (x ∷ xs) zero new d all here (suc j) = all (suc j)
set_keeps P (x ∷ xs) (suc i) new d all here zero = all zero
set_keeps P (x ∷ xs) (suc i) new d all here (suc j) = set_keeps P xs i new d (λ k. all (suc k)) here j

abbrev Sixteen : Buffer → Type 0
Sixteen b = length b.slots ≡ buffer_capacity

abbrev AllSixteen : List Buffer → Type 0
AllSixteen bs = (range : ℕ) → Sixteen (buffer_of bs range)

drawn_sixteen : (b : Buffer) → Sixteen b → Sixteen (after_draw b)
drawn_sixteen b h = go (can_draw b) where
  go : (c : Bool) → Sixteen (cond c (record { is_open = b.is_open; drawn = b.drawn + 1; slots = set b.slots b.drawn slots.Drawn }) b)
  go true = length-set b.slots b.drawn slots.Drawn ∙ h
  go false = h

published_sixteen : (b : Buffer) (place : ℕ) (item : Item) → Sixteen b → Sixteen (after_publish b place item)
published_sixteen b place item h = go (is_drawn (slice_get b.slots place)) where
  go : (c : Bool) → Sixteen (cond c (record { is_open = b.is_open; drawn = b.drawn; slots = set b.slots place (slots.Published item) }) b)
  go true = length-set b.slots place (slots.Published item) ∙ h
  go false = h

collected_sixteen : (b : Buffer) → Sixteen b → Sixteen (after_collect b)
collected_sixteen b h = go (list_all is_taken (take b.drawn (map taken b.slots))) where
  go : (c : Bool) → Sixteen (cond c start (record { is_open = false; drawn = b.drawn; slots = map taken b.slots }))
  go true = refl
  go false = length-map b.slots taken ∙ h

-- one buffer changes, and keeps its places
changed_places : (b : Buffered) (node range : ℕ) (change : Buffer → Buffer) → HasPlaces b → ((c : Buffer) → Sixteen c → Sixteen (change c)) → HasPlaces (changed b node range change)
changed_places b node range change h keeps other =
    set_keeps AllSixteen b.buffers (node - 1) (with_buffer (buffers_at b node) range (change (buffer_of (buffers_at b node) range))) fresh
    (λ j. subst (λ k. AllSixteen (get_or b.buffers k fresh)) (minus j) (h (suc j)))
    (set_keeps Sixteen (buffers_at b node) range (change (buffer_of (buffers_at b node) range)) start (h node) (keeps (buffer_of (buffers_at b node) range) (h node range)))
    (other - 1)
  where
    minus : (j : ℕ) → suc j - 1 ≡ j
    minus j = omega arith

collects_places : (b : Buffered) (node range : ℕ) → HasPlaces b → HasPlaces (collected b node range)
collects_places b node range h = go (has_live b.nodes node range) where
  taken_by : (taken_there : List Item) (c : Bool) → HasPlaces (cond c (changed (at_node b node (Collect range taken_there)) node range after_collect) b)
  taken_by taken_there true = changed_places (at_node b node (Collect range taken_there)) node range after_collect h collected_sixteen
  taken_by taken_there false = h

  go : (c : Bool) → HasPlaces (cond c (collects b node range (given (buffer_of (buffers_at b node) range))) (at_node b node (Collect range [])))
  go true = taken_by (given (buffer_of (buffers_at b node) range)) (is_lawful b.nodes (record { node = node; what = Collect range (given (buffer_of (buffers_at b node) range)) }))
  go false = h

-- each event leaves each buffer with its places
pub places_step : (b : Buffered) (e : WorldEvent) → HasPlaces b → HasPlaces (buffered_step b e)
places_step b (events.Collect node range) h = collects_places b node range h
places_step b (events.Draw node range) h = changed_places b node range after_draw h drawn_sixteen
places_step b (events.Publish node range place item) h = changed_places b node range (λ c. after_publish c place item) h (λ c. published_sixteen c place item)
places_step b (events.Admit node range id request) h = h
places_step b (events.Ask node range) h = h
places_step b (events.Transfer node range to) h = h
places_step b (events.Flush node range) h = h
places_step b (events.Tick node) h = h
places_step b (events.Deliver node from number) h = h
places_step b (events.Apply node range) h = h
places_step b (events.Cut node range) h = h
places_step b (events.Remove node range) h = h
places_step b (events.Peek node range key) h = h
places_step b (events.Restart node) h = h
places_step b (events.Round node) h = h

-- a start has them
fresh_sixteen : (range : ℕ) → Sixteen (buffer_of fresh range)
fresh_sixteen range = all_replicated 8 range where
  all_replicated : (n j : ℕ) → Sixteen (get_or (replicate n start) j start)
  all_replicated zero j = refl
  all_replicated (suc n) zero = refl
  all_replicated (suc n) (suc j) = all_replicated n j

pub first_places : (nodes : ℕ) → HasPlaces (first_buffered nodes)
first_places nodes node = go nodes (node - 1) where
  go : (n j : ℕ) → AllSixteen (get_or (replicate n fresh) j fresh)
  go zero j = fresh_sixteen
  go (suc n) zero = fresh_sixteen
  go (suc n) (suc j) = go n j
