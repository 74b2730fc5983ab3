-- Reading writes one after the other, as a loop does.
use Rattle.std.proofs.Common.{◌≡◌, ℕ, suc, Bool, ◌-◌, ◌+◌, ◌≤◌, ◌<◌, List, [], ◌∷◌, ◌++◌, Result, Ok, Err, refl, sym, ap, ◌∙◌, append_assoc, arith}
use Rattle.std.proofs.lemmas.List.{append-nil}
use Rattle.rp_request.specs.declared.Op.{Op}
use Rattle.rp_codec.specs.Cursors.{Left}
use Rattle.rp_codec.specs.declared.faults.BadField.{BadField}
use Rattle.rp_codec.specs.Reading.{going_on, given, op_at, ops_at}

-- what was read before, and what is still read
abbrev pub with_front : List Op → Result (List Op × Left) BadField → Result (List Op × Left) BadField
with_front front read = going_on read (λ more. given (front ++ more))

regroup : (front : List Op) (op : Op) (read : Result (List Op × Left) BadField)
    → with_front front (going_on read (λ more. given (op ∷ more))) ≡ with_front (front ++ op ∷ []) read
regroup front op (Ok x) = ap (λ (more : List Op). Ok (more, x.1)) (simp append_assoc)
regroup front op (Err e) = refl

pub goes_on : (texts : Bool) (front : List Op) (count i : ℕ) (left : Left) (op : Op) (after : Left) (total : Result (List Op × Left) BadField) → i < count → op_at texts left ≡ Ok (op, after)
    → with_front front (ops_at texts (count - i) left) ≡ total → with_front (front ++ op ∷ []) (ops_at texts (count - (i + 1)) after) ≡ total
unfolding ops_at
goes_on texts front count i left op after total lt h so_far =
    let k : count - i ≡ suc (count - (i + 1)) = omega arith in
    let one : with_front front (ops_at texts (count - i) left) ≡ with_front (front ++ op ∷ []) (ops_at texts (count - (i + 1)) after) = rw (k, h) (regroup front op (ops_at texts (count - (i + 1)) after)) in
    sym one ∙ so_far

pub ends : (texts : Bool) (e : BadField) (front : List Op) (count i : ℕ) (left : Left) (total : Result (List Op × Left) BadField) → i < count → op_at texts left ≡ Err e
    → with_front front (ops_at texts (count - i) left) ≡ total → total ≡ Err e
unfolding ops_at
ends texts e front count i left total lt h so_far =
    let k : count - i ≡ suc (count - (i + 1)) = omega arith in
    let one : with_front front (ops_at texts (count - i) left) ≡ Err e = rw (k, h) refl in
    sym so_far ∙ one

pub is_done : (texts : Bool) (front : List Op) (count i : ℕ) (left : Left) (total : Result (List Op × Left) BadField) → count ≤ i
    → with_front front (ops_at texts (count - i) left) ≡ total → total ≡ Ok (front, left)
unfolding ops_at
is_done texts front count i left total le so_far =
    let k : count - i ≡ 0 = omega arith in
    let one : with_front front (ops_at texts (count - i) left) ≡ Ok (front, left) = rw k (ap (λ (more : List Op). Ok (more, left)) (append-nil front)) in
    sym so_far ∙ one
