-- The rule of a slot table: its words, the slots at home and all passes show a buffer for each
-- counter (this project).
use Rattle.std.specs.Prelude.{◌≡◌, ◌≢◌, ℕ, zero, suc, ◌+◌, ◌*◌, ◌/◌, ◌%◌, ◌<◌, ◌≤◌, Bool, true, false, if◌then◌else◌, ◌==◌, List, [], length, sum_by, slice_index, slice_index_or, Option, Some, None}
use mathlib.Core.Option as maybe
use lib.ListN.{get_elem?}
use Rattle.atomic_table.specs.Table.{State}
use Rattle.rp_base.specs.declared.items.Item.{Item}
use Rattle.rp_buffer.specs.declared.rule.Hand.{Hand}
use Rattle.rp_buffer.specs.declared.rule.Stage.{Stage}
use Rattle.rp_buffer.specs.declared.rule.Stage.TheVariants.{Idle, Drew, Taking}
use Rattle.rp_buffer.specs.declared.rights.Right.{Right}
use Rattle.rp_buffer.specs.declared.rights.Right.TheVariants.{Lacks, Carries}
use Rattle.rp_buffer.specs.declared.rights.Keep.{Keep}
use Rattle.rp_buffer.specs.declared.rights.Keep.TheVariants.{Open, Closed}
pub use Rattle.rp_buffer.specs.Machine.{Phase, free, drawn, published, taking, taken, Ring}
use Rattle.rp_buffer.specs.Machine.{shown, IsReached}
use Rattle.rp_buffer.specs.Hands.{Put, all_parts, bare_hand, right_at, keep_in, all_rights}

-- the counter tells how many places are drawn, and 16 where none can be drawn
abbrev pub face : Ring → ℕ
face ring = if ring.is_open then ring.drawn_to else 16

-- the word of a place is 1 where it is published, else 0
abbrev pub up : Phase → ℕ
up free = 0
up (drawn id) = 0
up (published x) = 1
up (taking id) = 0
up taken = 0

-- A place is drawn or not by its number, and its slot is at home, empty or with the item, unless a
-- pass has it.
abbrev pub InPhase : ℕ → List (maybe.Option (Option Item)) → ℕ → Phase → Type 0
InPhase drawn_to homes k free = (drawn_to ≤ k % 16) × (get_elem? homes k ≡ maybe.some (maybe.some None))
InPhase drawn_to homes k (drawn id) = k % 16 < drawn_to
InPhase drawn_to homes k (published x) = (k % 16 < drawn_to) × (get_elem? homes k ≡ maybe.some (maybe.some (Some x)))
InPhase drawn_to homes k (taking id) = k % 16 < drawn_to
InPhase drawn_to homes k taken = (k % 16 < drawn_to) × (get_elem? homes k ≡ maybe.some (maybe.some None))

-- the place that a pass has drawn, or empties, is its own
abbrev pub AtStage : ℕ → (ℕ → Phase) → ℕ → Stage → Type 0
AtStage n phases id Idle = Unit {0}
AtStage n phases id (Drew k) = (k < 16 * n) × (phases k ≡ drawn id)
AtStage n phases id (Taking k) = (k < 16 * n) × (phases k ≡ taking id)

-- what is kept of a buffer: that it is open, or how many places were drawn when it was closed, and
-- which of them were taken since
abbrev pub KeepOf : Ring → (ℕ → Phase) → ℕ → Keep → Type 0
KeepOf ring phases b Open = ring.is_open ≡ true
KeepOf ring phases b (Closed count gone) =
    (ring.is_open ≡ false) × (ring.drawn_to ≡ count) × (length gone ≡ 16)
    × ((p : ℕ) → p < 16 → slice_index_or gone p false ≡ true → phases (16 * b + p) ≡ taken)

-- a right keeps that of each buffer of its node
abbrev pub RightOf : ℕ → (ℕ → Ring) → (ℕ → Phase) → ℕ → Right → Type 0
RightOf n rings phases i Lacks = Unit {0}
RightOf n rings phases i (Carries keeps) =
    (8 * i + 8 ≤ n) × (length keeps ≡ 8)
    × ((r : ℕ) → r < 8 → KeepOf (rings (8 * i + r)) phases (8 * i + r) (keep_in keeps r))

-- what a pass knows is so
pub record Knows (n : ℕ) (rings : ℕ → Ring) (phases : ℕ → Phase) (id : ℕ) (v : Hand) : Type 0 where
  pub stage : AtStage n phases id v.stage
  pub rights : (i : ℕ) → RightOf n rings phases i (right_at v.rights i)
  pub idle : v.parts ≡ 0 → (v.stage ≡ Idle) × (v.put ≡ []) × (v.taken ≡ [])

-- one where a pass carries a node's right
abbrev pub weight : Right → ℕ
weight Lacks = 0
weight (Carries keeps) = 1

abbrev pub right_on : ℕ → Hand → ℕ
right_on i v = weight (right_at v.rights i)

-- the weight of what is published at a place
abbrev pub lies : (Put → ℕ) → ℕ → Phase → ℕ
lies h k free = 0
lies h k (drawn id) = 0
lies h k (published x) = h (k / 16, x)
lies h k (taking id) = 0
lies h k taken = 0

-- the weight of what is published at the first places
unfoldable pub left_in : ℕ → (ℕ → Phase) → (Put → ℕ) → ℕ
left_in zero phases h = 0
left_in (suc k) phases h = left_in k phases h + lies h k (phases k)

abbrev pub weight_put : (Put → ℕ) → Hand → ℕ
weight_put h v = sum_by h v.put

abbrev pub weight_taken : (Put → ℕ) → Hand → ℕ
weight_taken h v = sum_by h v.taken

-- After every step there are n buffers with 16 places each, which the words, the slots at home and
-- the passes show, and each is a state that the buffer machine comes to. Each node's right is carried once at most, and what was put is what was taken
-- and what lies in the slots, by any weight.
pub record Kept (n : ℕ) (s : State (Option Item) Hand) : Type 0 where
  pub rings : ℕ → Ring
  pub phases : ℕ → Phase
  pub wide : length s.words ≡ 17 * n
  pub long : length s.homes ≡ 16 * n
  pub counters : (b : ℕ) → b < n → ((rings b).drawn_to ≤ 16) × (slice_index s.words b ≡ face (rings b))
  pub places : (k : ℕ) → k < 16 * n → (slice_index s.words (n + k) ≡ up (phases k)) × InPhase (rings (k / 16)).drawn_to s.homes k (phases k)
  pub machine : (b : ℕ) → b < n → IsReached (shown rings phases b)
  pub each_pass : (id : ℕ) (v : Hand) → get_elem? s.views id ≡ maybe.some v → Knows n rings phases id v
  pub parted : sum_by (λ (v : Hand). v.parts) s.views ≡ all_parts
  pub once : (i : ℕ) → sum_by (right_on i) s.views ≤ 1
  pub balanced : (h : Put → ℕ) → sum_by (weight_put h) s.views ≡ sum_by (weight_taken h) s.views + left_in (16 * n) phases h

-- the first pass has all parts and the right of each node
abbrev pub first : ℕ → Hand
first n = bare_hand all_parts (all_rights (n / 8))
