-- What a walk over the records of a file finds.
use Rattle.std.proofs.Common.{◌≡◌, ℕ, ◌+◌, ◌-◌, ◌≤◌, ◌<◌, min, List, [], ◌∷◌, ◌++◌, length, get_or, take, drop, Option, Some, None, refl, sym, ◌∙◌, ap, arith, append_assoc, length-append, length-take, length-drop, take-append-drop}
use Rattle.std.specs.Int.{w64, from_be_bytes}
use Rattle.std.proofs.lemmas.List.{take_at, drop_at, take_all, drop-drop}
use Rattle.rp_store.specs.Records.{AreRecords, HasRecords, IsCutShort, IsDamagedAt}
use Rattle.rp_store.specs.Walks.{BeginsClosed, BeginsWhole, HasWalked}
use Rattle.rp_store.proofs.Bytes.{begins_split}
use Rattle.rp_store.proofs.Files.{length-record, records_push, last_of-push}

-- an open gate, eight bytes that name a size, and more bytes than that
pub begins_whole : (gate : ℕ) (eight bytes : List ℕ) (size : ℕ) → gate ≡ 1 → length eight ≡ 8 → size ≡ from_be_bytes w64 eight
    → take (length (gate ∷ eight)) bytes ≡ gate ∷ eight → 9 + size < length bytes → BeginsWhole size bytes
begins_whole gate eight bytes size is_open long named begins more =
    let behind = drop (length (gate ∷ eight)) bytes in
    let split : bytes ≡ (gate ∷ eight) ++ behind = begins_split (gate ∷ eight) bytes begins in
    let rest : length behind ≡ length bytes - length (gate ∷ eight) = length-drop (length (gate ∷ eight)) bytes in
    let payload = take size behind in
    let sized : length payload ≡ size = omega (arith, length-take size behind, rest, long, more) in
    record {
      payload = payload;
      first = 1 ∷ (eight ++ payload);
      rest = drop size behind;
      is_record = record { size = eight; eight = long; number = sym named ∙ sym sized; whole = refl };
      size_is = sized;
      some = omega (arith, length-drop size behind, rest, long, more);
      whole = split ∙ ap (λ (l : List ℕ). (gate ∷ eight) ++ l) (sym (take-append-drop size behind)) ∙ ap (λ (k : ℕ). k ∷ (eight ++ (payload ++ drop size behind))) is_open
          ∙ ap (λ (l : List ℕ). 1 ∷ l) (sym (append_assoc eight payload (drop size behind)));
    }

-- the first nine bytes of a file that has more
front_parts : (front : List ℕ) → 1 ≤ length front → front ≡ get_or front 0 0 ∷ drop 1 front
front_parts [] some = absurd (omega arith)
front_parts (x ∷ xs) some = refl

pub head_whole : (front bytes : List ℕ) (size rest : ℕ) → get_or front 0 0 ≡ 1 → 1 ≤ length front → length front ≡ min 9 rest
    → length (take (length front - 1) (drop 1 front)) ≡ 8 → size ≡ from_be_bytes w64 (take (length front - 1) (drop 1 front)) → size < rest - 9
    → length bytes ≡ rest → take (length front) bytes ≡ front → BeginsWhole size bytes
head_whole front bytes size rest is_open some few eight named within long begins =
    let behind = length-drop 1 front in
    let all : take (length front - 1) (drop 1 front) ≡ drop 1 front = take_all (length front - 1) (drop 1 front) (omega (arith, behind)) in
    let parts = front_parts front some in
    let sized : length (drop 1 front) ≡ 8 = sym (ap length all) ∙ eight in
    begins_whole (get_or front 0 0) (drop 1 front) bytes size is_open sized (named ∙ ap (λ (l : List ℕ). from_be_bytes w64 l) all)
    (sym (ap (λ (l : List ℕ). take (length l) bytes) parts) ∙ begins ∙ parts) (omega (arith, behind, sized, some, few, within, long))

-- no record so far
pub walked_none : (file : List ℕ) → HasWalked 0 None file
walked_none file = record { payloads = []; front = []; records = refl; end_is = refl; whole = refl; last_is = refl }

-- one record more
pub walked_more : (end size next : ℕ) (last : Option ℕ) (file : List ℕ) → HasWalked end last file → BeginsWhole size (drop end file) → next ≡ end + (9 + size) → HasWalked next (Some size) file
walked_more end size next last file w b is =
    let first = b.first in
    let long : length first ≡ 9 + size = omega (arith, length-record b.payload first b.is_record, b.size_is) in
    let behind : drop next file ≡ b.rest =
    ap (λ (k : ℕ). drop k file) is ∙ sym (drop-drop (9 + size) end file) ∙ ap (λ (l : List ℕ). drop (9 + size) l) b.whole ∙ drop_at first b.rest (9 + size) long in
    let head : length (1 ∷ b.is_record.size) ≡ 9 = omega (arith, b.is_record.eight) in
    let place : next - size ≡ end + 9 = omega (arith, is) in
    let inner : drop (next - size) file ≡ b.payload ++ b.rest =
    ap (λ (k : ℕ). drop k file) place ∙ sym (drop-drop 9 end file)
    ∙ ap (λ (l : List ℕ). drop 9 l) (b.whole ∙ ap (λ (l : List ℕ). l ++ b.rest) b.is_record.whole ∙ append_assoc (1 ∷ b.is_record.size) b.payload b.rest)
    ∙ drop_at (1 ∷ b.is_record.size) (b.payload ++ b.rest) 9 head in
    record {
      payloads = w.payloads ++ (b.payload ∷ []);
      front = w.front ++ first;
      records = records_push w.payloads b.payload w.front first w.records b.is_record;
      end_is = omega (arith, is, w.end_is, long, length-append w.front first);
      whole = w.whole ∙ ap (λ (l : List ℕ). w.front ++ l) b.whole ∙ sym (append_assoc w.front first b.rest) ∙ ap (λ (l : List ℕ). (w.front ++ first) ++ l) (sym behind);
      last_is = ap (λ (l : List ℕ). Some l) (ap (λ (l : List ℕ). take size l) inner ∙ take_at b.payload b.rest size b.size_is) ∙ sym (last_of-push w.payloads b.payload);
    }

-- an open record that is cut short behind them
pub walked_short : (end : ℕ) (last : Option ℕ) (file : List ℕ) → HasWalked end last file → IsCutShort (drop end file) → IsDamagedAt end file
walked_short end last file w short =
    record { payloads = w.payloads; front = w.front; behind = drop end file; records = w.records; place_is = w.end_is; short = short; whole = w.whole }

-- a closed gate behind them
closed_has : (ps : List (List ℕ)) (front file behind : List ℕ) → AreRecords ps front → file ≡ front ++ behind → BeginsClosed behind → HasRecords ps file
closed_has ps front file [] records whole closed = absurd closed
closed_has ps front file (gate ∷ behind) records whole closed =
    record { front = front; gate = gate; behind = behind; records = records; closed = closed; whole = whole }

pub walked_closed : (end : ℕ) (last : Option ℕ) (file : List ℕ) (w : HasWalked end last file) → BeginsClosed (drop end file) → HasRecords w.payloads file
walked_closed end last file w closed = closed_has w.payloads w.front file (drop end file) w.records w.whole closed
