-- What the steps of a collect tell (this project).
use Rattle.std.specs.Prelude.{◌≡◌, ◌≢◌, ℕ, zero, suc, ◌+◌, ◌*◌, ◌/◌, ◌<◌, ◌≤◌, Bool, true, false, List, [], ◌∷◌, ◌++◌, length, map, Option, Some, None}
use Rattle.std.specs.Option.{option_to_list}
use Rattle.rp_base.specs.declared.items.Item.{Item}
use Rattle.rp_base.specs.Kept.{Kept}
use Rattle.rp_buffer.specs.declared.rule.Hand.{Hand}
use Rattle.rp_buffer.specs.declared.rule.Look.TheVariants.{Missed}
use Rattle.rp_buffer.specs.declared.rights.Keep.{Keep}
use Rattle.rp_buffer.specs.declared.rights.Keep.TheVariants.{Open, Closed}
use Rattle.rp_buffer.specs.Hands.{Put, right_at, keep_at, all_gone, is_due, IsCarried, IsClosed}
use Rattle.rp_buffer.specs.Plays.{noted, having_taken, having_shut, having_emptied, having_opened}

-- a pass may sweep a buffer: it has the right to, and has closed it
pub record Sweeping (v : Hand) (b : ℕ) : Type 0 where
  pub within : b < 40
  pub carried : IsCarried (right_at v.rights (b / 8))
  pub closed : IsClosed (keep_at v.rights b)

-- A buffer is closed by one swap, which tells how many places were drawn, unless it was closed
-- before.
abbrev pub ShutsFrom : Keep → Hand → ℕ → Hand → Type 0
ShutsFrom Open v b w = (count : ℕ) × (count ≤ 16) × (w ≡ having_shut v b count)
ShutsFrom (Closed count gone) v b w = w ≡ v

abbrev pub Shuts : Hand → ℕ → Hand → Type 0
Shuts v b w = ShutsFrom (keep_at v.rights b) v b w

-- what is published at a place is taken, and it is gone; else its word was seen, which was not 1
abbrev pub Takes : Hand → ℕ → Option Item → Hand → Type 0
Takes v k (Some x) w = w ≡ having_emptied (having_taken v k x) k
Takes v k None w = (word : ℕ) × (word ≢ 1) × (w ≡ noted v (Missed k word))

-- a place that is due is looked at; one that is not is passed over
abbrev pub SweepsIf : Bool → Hand → ℕ → Option Item → Hand → Type 0
SweepsIf true v k found w = Takes v k found w
SweepsIf false v k found w = (found ≡ None) × (w ≡ v)

-- a place is due where it was drawn before the buffer was closed, and not taken since
abbrev pub SweepsFrom : Keep → Hand → ℕ → ℕ → Option Item → Hand → Type 0
SweepsFrom Open v b p found w = (found ≡ None) × (w ≡ v)
SweepsFrom (Closed count gone) v b p found w = SweepsIf (is_due count gone p) v (16 * b + p) found w

abbrev pub Sweeps : Hand → ℕ → ℕ → Option Item → Hand → Type 0
Sweeps v b p found w = SweepsFrom (keep_at v.rights b) v b p found w

-- the first n places are swept, in order, and these items are found
unfoldable pub Swept : ℕ → ℕ → Hand → List Item → Hand → Type 0
Swept b zero v items w = (items ≡ []) × (w ≡ v)
Swept b (suc n) v items w = (first : List Item) × (mid : Hand) × (found : Option Item)
    × Swept b n v first mid × Sweeps mid b n found w × (items ≡ first ++ option_to_list found)

-- the buffer is open again exactly where each place that was drawn is taken
abbrev pub ReopensIf : Bool → Hand → ℕ → Hand → Type 0
ReopensIf true v b w = w ≡ having_opened v b
ReopensIf false v b w = w ≡ v

abbrev pub ReopensFrom : Keep → Hand → ℕ → Hand → Type 0
ReopensFrom Open v b w = w ≡ v
ReopensFrom (Closed count gone) v b w = ReopensIf (all_gone count gone) v b w

abbrev pub Reopens : Hand → ℕ → Hand → Type 0
Reopens v b w = ReopensFrom (keep_at v.rights b) v b w

-- a collect is a close, a sweep of the sixteen places in order, and a reopening
abbrev pub IsSwept : Hand → ℕ → List Item → Hand → Type 0
IsSwept v b items w = (shut : Hand) × (swept : Hand) × Shuts v b shut × Swept b 16 shut items swept × Reopens swept b w

-- a pass has taken these items from a buffer, in order, and nothing else changed of what it put and
-- took
pub record Takings (v : Hand) (b : ℕ) (items : List Item) (w : Hand) : Type 0 where
  pub taken : w.taken ≡ v.taken ++ map (λ x. (b, x)) items
  pub put : w.put ≡ v.put
  pub parts : w.parts ≡ v.parts

-- What a collect tells: its steps, and that just the items that it gives are those that it took.
pub record Collects (v : Hand) (b : ℕ) (items : List Item) (w : Hand) : Type 0 where
  pub steps : IsSwept v b items w
  pub takings : Takings v b items w

-- these items were appended to what was there, sixteen at most, and the spare room is less by no more
abbrev pub Appends : (List Item → Hand → Type 0) → Kept Item → Kept Item → Hand → Type 0
Appends told before after w = (items : List Item) × (length items ≤ 16) × (after.list ≡ before.list ++ items)
    × (before.spare ≤ after.spare + length items) × told items w
