-- The indexes that a flush gives.
use Rattle.std.proofs.Common.{◌≡◌, ℕ, zero, suc, ◌+◌, ◌<◌, ◌≤◌, max, Some, None, List, [], ◌∷◌, length, refl, ap, arith}
use Rattle.std.specs.Prelude.{slice_get}
use Rattle.std.specs.List.{filter}
use Rattle.rp_base.specs.declared.ids.CmdId.{CmdId}
use Rattle.rp_base.specs.declared.items.Item.{Item}
use Rattle.rp_request.specs.declared.commands.Waiting.{Waiting}
use Rattle.rp_flush.specs.Assigns.{ids_of, once, last_after, numbered, waits_under, assigned_of}

some_same : (x y : CmdId × ℕ) → Some x ≡ Some y → x.1 ≡ y.1
some_same x y h = cc

none_some : (x : CmdId × ℕ) → None ≡ Some x → ⊥
none_some x h = cc

index_at : (last : ℕ) (ids : List CmdId) (k : ℕ) (write : CmdId × ℕ) → slice_get (numbered last ids) k ≡ Some write → write.1 ≡ last + k + 1
index_at last [] k write h = absurd (none_some write h)
index_at last (id ∷ ids) zero write h = let e : last + 1 ≡ write.1 = some_same _ _ h in omega arith
index_at last (id ∷ ids) (suc k) write h = let e : write.1 ≡ last + 1 + k + 1 = index_at (last + 1) ids k write h in omega arith

pub length-numbered : (last : ℕ) (ids : List CmdId) → length (numbered last ids) ≡ length ids
length-numbered last [] = refl
length-numbered last (id ∷ ids) = ap suc (length-numbered (last + 1) ids)

pub follows : (inbox : List Item) (waiting : List Waiting) (seq lai assigned k : ℕ) (write : CmdId × ℕ)
    → slice_get (assigned_of inbox waiting seq lai assigned).writes k ≡ Some write → write.1 ≡ max assigned lai + k + 1
follows inbox waiting seq lai assigned k write h = index_at (max assigned lai) (filter (waits_under waiting seq) (once (ids_of inbox))) k write h

pub rises : (inbox : List Item) (waiting : List Waiting) (seq lai assigned j k : ℕ) (x y : CmdId × ℕ) → j < k
    → slice_get (assigned_of inbox waiting seq lai assigned).writes j ≡ Some x → slice_get (assigned_of inbox waiting seq lai assigned).writes k ≡ Some y → x.1 < y.1
rises inbox waiting seq lai assigned j k x y h e f =
    let a : x.1 ≡ max assigned lai + j + 1 = follows inbox waiting seq lai assigned j x e in
    let b : y.1 ≡ max assigned lai + k + 1 = follows inbox waiting seq lai assigned k y f in
    omega arith

pub above : (inbox : List Item) (waiting : List Waiting) (seq lai assigned k : ℕ) (write : CmdId × ℕ)
    → slice_get (assigned_of inbox waiting seq lai assigned).writes k ≡ Some write → (assigned < write.1) × (lai < write.1)
above inbox waiting seq lai assigned k write h =
    let a : write.1 ≡ max assigned lai + k + 1 = follows inbox waiting seq lai assigned k write h in
    (omega arith, omega arith)

-- the last index assigned never falls, and every one that was given is at or below it
pub last_rises : (lai assigned : ℕ) (ids : List CmdId) → assigned ≤ last_after lai assigned ids
last_rises lai assigned [] = omega arith
last_rises lai assigned (id ∷ ids) = omega arith

pub last_covers : (lai assigned : ℕ) (ids : List CmdId) → 0 < length ids → max assigned lai + length ids ≤ last_after lai assigned ids
last_covers lai assigned [] some = absurd (omega arith)
last_covers lai assigned (id ∷ ids) some = omega arith

-- it passes the greater of the two before by at most the number of commands
pub last_within : (lai assigned : ℕ) (ids : List CmdId) → last_after lai assigned ids ≤ max assigned lai + length ids
last_within lai assigned [] = omega arith
last_within lai assigned (id ∷ ids) = omega arith

-- where the lease applied index is not above it, it rises by their number
pub last_counts : (lai assigned : ℕ) (ids : List CmdId) → lai ≤ assigned → last_after lai assigned ids ≡ assigned + length ids
last_counts lai assigned [] behind = omega arith
last_counts lai assigned (id ∷ ids) behind = omega arith

no_ids : (last : ℕ) (ids : List CmdId) → numbered last ids ≡ [] → ids ≡ []
no_ids last [] h = refl
no_ids last (id ∷ ids) h = cc

pub last_stays : (inbox : List Item) (waiting : List Waiting) (seq lai assigned : ℕ)
    → (assigned_of inbox waiting seq lai assigned).writes ≡ [] → (assigned_of inbox waiting seq lai assigned).last ≡ assigned
last_stays inbox waiting seq lai assigned h =
    ap (last_after lai assigned) (no_ids (max assigned lai) (filter (waits_under waiting seq) (once (ids_of inbox))) h)

last_is : (lai assigned : ℕ) (ids : List CmdId) (k : ℕ) (write : CmdId × ℕ) → slice_get (numbered (max assigned lai) ids) k ≡ Some write
    → k + 1 ≡ length (numbered (max assigned lai) ids) → last_after lai assigned ids ≡ write.1
last_is lai assigned [] k write h e = absurd (none_some write h)
last_is lai assigned (id ∷ ids) k write h e =
    let a : write.1 ≡ max assigned lai + k + 1 = index_at (max assigned lai) (id ∷ ids) k write h in
    let b : length (numbered (max assigned lai) (id ∷ ids)) ≡ suc (length ids) = length-numbered (max assigned lai) (id ∷ ids) in
    omega (arith, a, b, e)

pub last_given : (inbox : List Item) (waiting : List Waiting) (seq lai assigned k : ℕ) (write : CmdId × ℕ)
    → slice_get (assigned_of inbox waiting seq lai assigned).writes k ≡ Some write
    → k + 1 ≡ length (assigned_of inbox waiting seq lai assigned).writes
    → (assigned_of inbox waiting seq lai assigned).last ≡ write.1
last_given inbox waiting seq lai assigned k write h e = last_is lai assigned (filter (waits_under waiting seq) (once (ids_of inbox))) k write h e

pub never_falls : (inbox : List Item) (waiting : List Waiting) (seq lai assigned : ℕ) → assigned ≤ (assigned_of inbox waiting seq lai assigned).last
never_falls inbox waiting seq lai assigned = last_rises lai assigned (filter (waits_under waiting seq) (once (ids_of inbox)))
