-- Calls of a disk, one behind the other.
use Rattle.std.proofs.Common.{ℕ, List, Result, Ok, Err, OnOk, IsTrue, inl, inr, ⊎_elim, refl, ◌∙◌, arith}
use Rattle.rp_disk.specs.Files.{File, IsTold, LeavesOnly, Changes}
use Rattle.rp_store.specs.Walks.{IsCalm, Through}

-- a crash at any moment of both leaves only files that have P
pub leaves_then : (P Q : List ℕ → Type 0) (a b c : File) → LeavesOnly a b P → LeavesOnly b c Q → ((x : List ℕ) → Q x → P x) → LeavesOnly a c P
leaves_then P Q a b c first second within = record {
  later = omega (arith, first.later, second.later);
  each = λ x left. ⊎_elim (first.each x) (within x) (second.before a.moment x first.later left);
  before = λ t x le left. ⊎_elim (first.before t x le) (λ now. inr (within x now)) (second.before t x (omega (arith, le, first.later)) left);
}

-- calls that change nothing
pub calm_then : (a b c : File) → IsCalm a b → IsCalm b c → IsCalm a c
calm_then a b c first second told =
    let later = second told in
    let earlier = first later.told in
    record {
      told = earlier.told;
      seen = later.seen ∙ earlier.seen;
      crash = λ x left. earlier.crash x (later.crash x left);
      leaves = leaves_then a.may_leave b.may_leave a b c earlier.leaves later.leaves (λ x left. earlier.crash x left);
    }

-- no call at all
pub calm_none : (a : File) → (IsTrue a.tells → IsTold a) → IsCalm a a
calm_none a is_told told = record {
  told = told;
  seen = refl;
  crash = λ x left. left;
  leaves = record { later = omega arith; each = λ x left. (is_told told).only_now x left; before = λ t x le left. inl left };
}

-- calls through which each file has P
pub through_then : (P : List ℕ → Type 0) (a b c : File) → Through P a b → Through P b c → Through P a c
through_then P a b c first second told =
    let later = second told in
    let earlier = first later.told in
    record { told = earlier.told; leaves = leaves_then P P a b c earlier.leaves later.leaves (λ x has. has); now = later.now }

-- one call that leads from files that have P to files that have P
pub through_call : (P : List ℕ → Type 0) (step : List ℕ → List ℕ → Type 0) (a b : File) → (IsTrue a.tells → IsTold a) → Changes step a b
    → (IsTrue a.tells → (x : List ℕ) → a.may_leave x → P x) → (IsTrue a.tells → (d x : List ℕ) → P d → step d x → P x) → Through P a b
through_call P step a b is_told changes before goes told =
    let changed = changes told in
    let has = before changed.told in
    let now : (x : List ℕ) → b.may_leave x → P x = λ x left. let from = changed.crash x left in goes changed.told from.0 x (has from.0 from.1) from.2 in
    record {
      told = changed.told;
      leaves = record {
        later = changed.time.later;
        each = λ x left. ⊎_elim (λ was. has x ((is_told changed.told).only_now x was)) (now x) (changed.time.nothing_else a.moment x (omega arith) left);
        before = λ t x le left. ⊎_elim (λ was. inl was) (λ is. inr (now x is)) (changed.time.nothing_else t x le left);
      };
      now = now;
    }

-- calls that change nothing keep P
pub through_calm : (P : List ℕ → Type 0) (a b : File) → IsCalm a b → (IsTrue a.tells → (x : List ℕ) → a.may_leave x → P x) → Through P a b
through_calm P a b calm before told =
    let stays = calm told in
    let has = before stays.told in
    record {
      told = stays.told;
      leaves = record {
        later = stays.leaves.later;
        each = λ x left. has x (stays.leaves.each x left);
        before = λ t x le left. ⊎_elim (λ was. inl was) (λ is. inr (has x is)) (stays.leaves.before t x le left);
      };
      now = λ x left. has x (stays.crash x left);
    }

-- what holds at a success goes on to what follows from it
pub on_ok : {T E : Type 0} {P Q : Type 0} (r : Result T E) → OnOk r P → (P → Q) → OnOk r Q
on_ok (Ok value) holds goes = goes holds
on_ok (Err error) holds goes = tt
