-- What each step on a slot table tells (this project).
use Rattle.std.specs.Prelude.{◌≡◌, ◌≢◌, ℕ, ◌+◌, ◌-◌, ◌*◌, ◌/◌, ◌%◌, ◌<◌, ◌≤◌, List, [], ◌∷◌, ◌++◌, Option, Some, None}
use Rattle.atomic_table.specs.Table.{Me, Step, rest}
use Rattle.rp_base.specs.declared.items.Item.{Item}
use Rattle.rp_buffer.specs.declared.rule.Hand.{Hand}
use Rattle.rp_buffer.specs.declared.rule.Stage.{Stage}
use Rattle.rp_buffer.specs.declared.rule.Stage.TheVariants.{Idle, Drew, Taking}
use Rattle.rp_buffer.specs.declared.rule.Look.{Look}
use Rattle.rp_buffer.specs.declared.rule.Look.TheVariants.{Loaded, Asked, Shut, Found, Missed, Opened}
use Rattle.rp_buffer.specs.declared.rights.Keep.{Keep}
use Rattle.rp_buffer.specs.declared.rights.Keep.TheVariants.{Open, Closed}
use Rattle.rp_buffer.specs.Hands.{Put, hand, bare_hand, keep_at, with_keep, none_gone, gone_too, least, others, together}

-- a pass between two steps: what it knows, and the slots that are out with it
abbrev pub Standing : Type 0
Standing = Me (Option Item) Hand

-- what a step told is noted
abbrev pub noted : Hand → Look → Hand
noted v look = hand v.parts v.stage v.put v.taken (v.looks ++ look ∷ []) v.rights

abbrev pub with_stage : Hand → Stage → Hand
with_stage v stage = hand v.parts stage v.put v.taken v.looks v.rights

-- what is put is noted
abbrev pub having_put : Hand → Put → Hand
having_put v x = hand v.parts Idle (v.put ++ x ∷ []) v.taken v.looks v.rights

-- what is taken at a place is noted
abbrev pub having_taken : Hand → ℕ → Item → Hand
having_taken v k x = hand v.parts (Taking k) v.put (v.taken ++ (k / 16, x) ∷ []) (v.looks ++ Found k x ∷ []) v.rights

-- a buffer is closed, with the count that was found
abbrev pub having_shut : Hand → ℕ → ℕ → Hand
having_shut v b found = hand v.parts v.stage v.put v.taken (v.looks ++ Shut b found ∷ []) (with_keep v.rights b (Closed found none_gone))

-- a place is emptied
abbrev pub having_emptied : Hand → ℕ → Hand
having_emptied v k = hand v.parts Idle v.put v.taken v.looks (with_keep v.rights (k / 16) (gone_too (keep_at v.rights (k / 16)) (k % 16)))

-- a buffer is open again
abbrev pub having_opened : Hand → ℕ → Hand
having_opened v b = hand v.parts v.stage v.put v.taken (v.looks ++ Opened b ∷ []) (with_keep v.rights b Open)

-- a load of a counter tells its number, which is 16 at most
abbrev pub loaded : Step (Option Item) → Standing → ℕ → Standing → Type 0
loaded s m found m' = (found ≤ 16) × (m'.0 ≡ noted m.0 (Loaded s.word found)) × (m'.1 ≡ m.1)

-- an exchange of a counter tells what it found; where that is what it asked for, the next place is
-- drawn, and its empty slot is out with the pass
abbrev pub drew : Step (Option Item) → Standing → ℕ → Standing → Type 0
drew s m found m' =
    (found ≡ s.first → (m'.0 ≡ with_stage (noted m.0 (Asked s.word s.first found)) (Drew (16 * s.word + s.first))) × (m'.1 ≡ (16 * s.word + s.first, None) ∷ m.1))
    × (found ≢ s.first → (m'.0 ≡ noted m.0 (Asked s.word s.first found)) × (m'.1 ≡ m.1))

-- the item in the slot is put, and the slot goes home
abbrev pub published : Step (Option Item) → Standing → ℕ → Standing → Type 0
published s m found m' = (x : Item) → m.1 ≡ (s.word - s.slots / 16, Some x) ∷ rest m.1
    → (m'.0 ≡ having_put m.0 ((s.word - s.slots / 16) / 16, x)) × (m'.1 ≡ rest m.1)

-- a buffer is closed
abbrev pub shut : Step (Option Item) → Standing → ℕ → Standing → Type 0
shut s m found m' = (found ≤ 16) × (m'.0 ≡ having_shut m.0 s.word found) × (m'.1 ≡ m.1)

-- an exchange of a place word tells what it found; where that is 1 the item is taken, and its slot
-- is out with the pass
abbrev pub took : Step (Option Item) → Standing → ℕ → Standing → Type 0
took s m found m' =
    (found ≡ s.first → (x : Item) × (m'.0 ≡ having_taken m.0 (s.word - s.slots / 16) x) × (m'.1 ≡ (s.word - s.slots / 16, Some x) ∷ m.1))
    × (found ≢ s.first → (m'.0 ≡ noted m.0 (Missed (s.word - s.slots / 16) found)) × (m'.1 ≡ m.1))

-- the emptied slot goes home
abbrev pub returned : Step (Option Item) → Standing → ℕ → Standing → Type 0
returned s m found m' = (m'.0 ≡ having_emptied m.0 (s.word - s.slots / 16)) × (m'.1 ≡ rest m.1)

-- a buffer is open again
abbrev pub opened : Step (Option Item) → Standing → ℕ → Standing → Type 0
opened s m found m' = (m'.0 ≡ having_opened m.0 s.word) × (m'.1 ≡ m.1)

-- the new pass has one part, the least right and empty lists
abbrev pub left : Hand → Hand
left v = hand (v.parts - 1) v.stage v.put v.taken v.looks (others v.rights)

abbrev pub right : Hand → Hand
right v = bare_hand 1 (least v.rights)

-- parts, lists and rights add up
abbrev pub both : Hand → Hand → Hand
both v w = hand (v.parts + w.parts) v.stage (v.put ++ w.put) (v.taken ++ w.taken) (v.looks ++ w.looks) (together v.rights w.rights)

abbrev pub spent : Hand
spent = bare_hand 0 []
