-- What a pass knows, and how its rights are handed over (this project).
use Rattle.std.specs.Prelude.{◌≡◌, ℕ, ◌+◌, ◌*◌, ◌/◌, ◌%◌, List, [], ◌∷◌, ◌++◌, map, length, slice_index_or, slice_set, Bool, true, false, not, ◌&&◌, nat_lt, take, replicate}
use Rattle.std.specs.List.{list_all, prefix_len}
use Rattle.rp_base.specs.declared.items.Item.{Item}
use Rattle.rp_buffer.specs.declared.rule.Hand.{Hand}
use Rattle.rp_buffer.specs.declared.rule.Stage.{Stage}
use Rattle.rp_buffer.specs.declared.rule.Stage.TheVariants.{Idle, Drew, Taking}
use Rattle.rp_buffer.specs.declared.rule.Look.{Look}
use Rattle.rp_buffer.specs.declared.rights.Right.{Right}
use Rattle.rp_buffer.specs.declared.rights.Right.TheVariants.{Lacks, Carries}
use Rattle.rp_buffer.specs.declared.rights.Keep.{Keep}
use Rattle.rp_buffer.specs.declared.rights.Keep.TheVariants.{Open, Closed}

-- a buffer and an item
abbrev pub Put : Type 0
Put = ℕ × Item

-- how many parts the first pass has. Each pass has at least one, so one with all is the only one
abbrev pub all_parts : ℕ
all_parts = 1024

-- a pass's parts, where it stands, what it put and took, what its steps told, and its rights
abbrev pub hand : ℕ → Stage → List Put → List Put → List Look → List Right → Hand
hand parts stage put taken looks rights = record { parts = parts; stage = stage; put = put; taken = taken; looks = looks; rights = rights }

-- a pass that knows nothing and has no rights
abbrev pub bare_hand : ℕ → List Right → Hand
bare_hand parts rights = hand parts Idle [] [] [] rights

-- the right of a node, counted from 0
abbrev pub right_at : List Right → ℕ → Right
right_at rights i = slice_index_or rights i Lacks

-- what is kept of a range's buffer
abbrev pub keep_in : List Keep → ℕ → Keep
keep_in keeps r = slice_index_or keeps r Open

-- what a right keeps of a range's buffer
abbrev pub keep_of : Right → ℕ → Keep
keep_of Lacks r = Open
keep_of (Carries keeps) r = keep_in keeps r

-- what a pass keeps of a buffer
abbrev pub keep_at : List Right → ℕ → Keep
keep_at rights b = keep_of (right_at rights (b / 8)) (b % 8)

-- a right keeps something else of a range's buffer
abbrev pub keeping : Right → ℕ → Keep → Right
keeping Lacks r keep = Lacks
keeping (Carries keeps) r keep = Carries (slice_set keeps r keep)

-- a pass keeps something else of a buffer
abbrev pub with_keep : List Right → ℕ → Keep → List Right
with_keep rights b keep = slice_set rights (b / 8) (keeping (right_at rights (b / 8)) (b % 8) keep)

-- no place is taken
abbrev pub none_gone : List Bool
none_gone = replicate 16 false

-- one more place is taken
abbrev pub gone_too : Keep → ℕ → Keep
gone_too Open p = Open
gone_too (Closed count gone) p = Closed count (slice_set gone p true)

-- each of the places that were drawn is taken
abbrev pub all_gone : ℕ → List Bool → Bool
all_gone count gone = list_all (λ is_gone. is_gone) (take count gone)

-- a place was drawn and is not taken
abbrev pub is_due : ℕ → List Bool → ℕ → Bool
is_due count gone p = nat_lt p count && not (slice_index_or gone p false)

-- a buffer is known to be closed
abbrev pub IsClosed : Keep → Type 0
IsClosed Open = ⊥
IsClosed (Closed count gone) = Unit {0}

-- a right is carried
abbrev pub IsCarried : Right → Type 0
IsCarried Lacks = ⊥
IsCarried (Carries keeps) = Unit {0}

-- a right that is carried keeps eight buffers
abbrev pub CarriesEight : Right → Type 0
CarriesEight Lacks = Unit {0}
CarriesEight (Carries keeps) = length keeps ≡ 8

-- a right is carried
abbrev pub is_carried : Right → Bool
is_carried Lacks = false
is_carried (Carries keeps) = true

-- no rights
abbrev pub no_rights : List Right → List Right
no_rights rights = map (λ r. Lacks) rights

-- the number of the least right that is carried, or of no right
abbrev pub least_of : List Right → ℕ
least_of rights = prefix_len (λ r. not (is_carried r)) rights

-- the least right of a list alone
abbrev pub least : List Right → List Right
least rights = slice_set (no_rights rights) (least_of rights) (right_at rights (least_of rights))

-- the others
abbrev pub others : List Right → List Right
others rights = slice_set rights (least_of rights) Lacks

-- one of two rights, where not both are carried
abbrev pub one_of : Right → Right → Right
one_of Lacks r = r
one_of (Carries keeps) r = Carries keeps

-- one right comes from another list where it is not carried
abbrev pub with_one : List Right → List Right → ℕ → List Right
with_one rights more i = slice_set rights i (one_of (right_at rights i) (right_at more i))

-- the rights of two passes
abbrev pub together : List Right → List Right → List Right
together [] rs = rs
together (r ∷ rs) [] = r ∷ rs
together (r ∷ rs) (q ∷ qs) = one_of r q ∷ together rs qs

-- the first pass carries the right of each node
abbrev pub all_rights : ℕ → List Right
all_rights nodes = replicate nodes (Carries (replicate 8 Open))
