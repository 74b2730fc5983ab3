-- What a call of a disk in memory changes.
use Rattle.std.proofs.Common.{◌≡◌, ℕ, ◌+◌, ◌-◌, ◌≤◌, min, max, Bool, true, false, not, ◌&&◌, IsTrue, List, [], ◌∷◌, ◌++◌, length, take, drop, if◌then◌else◌, inl, inr, refl, sym, ◌∙◌, ap, subst, arith, append_assoc, length-append, length-take, length-drop}
use Rattle.std.proofs.lemmas.List.{take_at, drop_at}
use Rattle.rp_disk.specs.Files.{File, Torn, MayBeCut, Same, Elapses, Changed, Changes, Only, put}
use Rattle.rp_disk.specs.Histories.{Call, asked, wrote, cuts, synced, read_after, left_after, left_since, file_after}
use Rattle.rp_disk.specs.Told.{torn_same, told_after}

-- one call more
pub elapses_call : (t u : Bool) (call : Call) (calls : List Call) → Elapses (file_after t calls) (file_after u (call ∷ calls))
elapses_call t u call calls = record {
  later = omega arith;
  nothing_else = λ since c le left. elim left [ inl now ↦ inr now | inr before ↦ inl before.1 ];
  keeps = λ since c le left. inr (le, left);
}

-- no call more
pub elapses_same : (t u : Bool) (calls : List Call) → Elapses (file_after t calls) (file_after u calls)
elapses_same t u calls = record { later = omega arith; nothing_else = λ since c le left. inl left; keeps = λ since c le left. left }

-- bytes that were put are a write that was not synced
pub torn_put : (at : ℕ) (bytes file : List ℕ) → at ≤ length file → Torn at (length bytes) file (put at bytes file)
torn_put at bytes file le =
    let n = length bytes in
    let front : length (take at file) ≡ at = omega (arith, length-take at file, le) in
    let both : length (take at file ++ bytes) ≡ at + n = omega (arith, length-append (take at file) bytes, front) in
    let parts : put at bytes file ≡ take at file ++ (bytes ++ drop (at + n) file) = append_assoc (take at file) bytes (drop (at + n) file) in
    let size : length (put at bytes file) ≡ at + n + length (drop (at + n) file) =
    length-append (take at file ++ bytes) (drop (at + n) file) ∙ ap (λ (k : ℕ). k + length (drop (at + n) file)) both in
    let left = length-drop (at + n) file in
    record {
      before = ap (λ (l : List ℕ). take at l) parts ∙ take_at (take at file) (bytes ++ drop (at + n) file) at front;
      behind = drop_at (take at file ++ bytes) (drop (at + n) file) (at + n) both;
      no_shorter = omega (arith, size, left);
      no_longer = omega (arith, size, left);
    }

-- a call that asks, and a sync that failed, adds nothing
abbrev pub AddsNothing : Call → Type 0
AddsNothing call = (calls : List Call) (c : List ℕ) → left_after (call ∷ calls) c → left_after calls c

pub changed_asked : (u : Bool) (calls : List Call) → Changed Same (file_after true calls) (file_after u (asked ∷ calls))
changed_asked u calls = record { told = refl; crash = λ c left. (c, left, refl); time = elapses_call true u asked calls }

pub changed_synced : (done u : Bool) (calls : List Call) → Changed Same (file_after true calls) (file_after u (synced done ∷ calls))
changed_synced true u calls = record {
  told = refl;
  crash = λ c left. (read_after calls, (told_after true calls).as_seen, left);
  time = elapses_call true u (synced true) calls;
}
changed_synced false u calls = record { told = refl; crash = λ c left. (c, left, refl); time = elapses_call true u (synced false) calls }

pub changed_cuts : (to : ℕ) (done u : Bool) (calls : List Call) → Changed (MayBeCut to) (file_after true calls) (file_after u (cuts to done ∷ calls))
changed_cuts to true u calls = record { told = refl; crash = λ c left. left; time = elapses_call true u (cuts to true) calls }
changed_cuts to false u calls = record { told = refl; crash = λ c left. left; time = elapses_call true u (cuts to false) calls }

pub changed_wrote : (at : ℕ) (bytes : List ℕ) (done u : Bool) (calls : List Call) → at ≤ length (read_after calls)
    → Changed (Torn at (length bytes)) (file_after true calls) (file_after u (wrote at bytes done ∷ calls))
changed_wrote at bytes true u calls le = record {
  told = refl;
  crash = λ c left. elim left [
    | inl seen ↦ (read_after calls, (told_after true calls).as_seen, subst (λ (l : List ℕ). Torn at (length bytes) (read_after calls) l) (sym seen) (torn_put at bytes (read_after calls) le))
    | inr torn ↦ torn
  ];
  time = elapses_call true u (wrote at bytes true) calls;
}
changed_wrote at bytes false u calls le = record {
  told = refl;
  crash = λ c left. elim left [
    | inl seen ↦ (read_after calls, (told_after true calls).as_seen, subst (λ (l : List ℕ). Torn at (length bytes) (read_after calls) l) (sym seen) (torn_same at (length bytes) (read_after calls)))
    | inr torn ↦ torn
  ];
  time = elapses_call true u (wrote at bytes false) calls;
}

-- the same of a disk that told before, by what its calls are now
pub moved_synced : (t done u : Bool) (old new : List Call) → IsTrue t → new ≡ synced done ∷ old → Changes Same (file_after t old) (file_after u new)
moved_synced true done u old new was is told =
    subst (λ (l : List Call). Changed Same (file_after true old) (file_after u l)) (sym is) (changed_synced done u old)
moved_synced false done u old new was is told = absurd (cc was)

pub moved_wrote : (t : Bool) (at : ℕ) (bytes : List ℕ) (done u : Bool) (old new : List Call) → IsTrue t → at ≤ length (read_after old) → new ≡ wrote at bytes done ∷ old
    → Changes (Torn at (length bytes)) (file_after t old) (file_after u new)
moved_wrote true at bytes done u old new was le is told =
    subst (λ (l : List Call). Changed (Torn at (length bytes)) (file_after true old) (file_after u l)) (sym is) (changed_wrote at bytes done u old le)
moved_wrote false at bytes done u old new was le is told = absurd (cc was)
