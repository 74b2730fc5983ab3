-- What files of records give.
use Rattle.std.proofs.Common.{◌≡◌, ◌≢◌, ◌⊎◌, inl, inr, ℕ, ◌+◌, ◌≤◌, ◌<◌, List, [], ◌∷◌, ◌++◌, length, get_or, take, drop, Some, Result, Ok, Err, refl, sym, ◌∙◌, ap, arith, append_assoc, length-append}
use Rattle.std.specs.Int.{w64, from_be_bytes}
use Rattle.std.proofs.lemmas.List.{take_at, append-nil}
use Rattle.rp_store.specs.Records.{IsRecord, AreRecords, HasRecords, IsCutShort, IsDamagedAt, Gives, last_of, size_of}
use Rattle.rp_store.proofs.Bytes.{split_same}

-- a record is its head and its payload
pub length-record : (p bytes : List ℕ) → IsRecord p bytes → length bytes ≡ 9 + length p
length-record p bytes r = omega (arith, ap length r.whole, length-append r.size p, r.eight)

pub length-records : (ps : List (List ℕ)) (front : List ℕ) → AreRecords ps front → length front ≡ size_of ps
length-records [] front none = ap length none
length-records (p ∷ ps) front (first, rest, r, more, is) =
    let whole : length front ≡ length first + length rest = ap length is ∙ length-append first rest in
    omega (arith, whole, length-record p first r, length-records ps rest more)

-- one record more
pub records_push : (ps : List (List ℕ)) (p front first : List ℕ) → AreRecords ps front → IsRecord p first → AreRecords (ps ++ (p ∷ [])) (front ++ first)
records_push [] p front first none r = (first, [], r, refl, ap (λ (l : List ℕ). l ++ first) none ∙ sym (append-nil first))
records_push (q ∷ ps) p front first (head, rest, a, more, is) r =
    (head, rest ++ first, a, records_push ps p rest first more r, ap (λ (l : List ℕ). l ++ first) is ∙ append_assoc head rest first)

pub last_of-push : (ps : List (List ℕ)) (p : List ℕ) → last_of (ps ++ (p ∷ [])) ≡ Some p
last_of-push [] p = refl
last_of-push (q ∷ []) p = refl
last_of-push (q ∷ r ∷ ps) p = last_of-push (r ∷ ps) p

pub size_of-push : (ps : List (List ℕ)) (p : List ℕ) → size_of (ps ++ (p ∷ [])) ≡ size_of ps + (9 + length p)
size_of-push [] p = omega arith
size_of-push (q ∷ ps) p = omega (arith, size_of-push ps p)

-- Two records in front of one file are the same.
record_same : (p q a b x y : List ℕ) → IsRecord p a → IsRecord q b → a ++ x ≡ b ++ y → (p ≡ q) × (a ≡ b) × (x ≡ y)
record_same p q a b x y r s is =
    let left : a ++ x ≡ (1 ∷ r.size) ++ (p ++ x) = ap (λ (l : List ℕ). l ++ x) r.whole ∙ append_assoc (1 ∷ r.size) p x in
    let right : b ++ y ≡ (1 ∷ s.size) ++ (q ++ y) = ap (λ (l : List ℕ). l ++ y) s.whole ∙ append_assoc (1 ∷ s.size) q y in
    let heads = split_same (1 ∷ r.size) (1 ∷ s.size) (p ++ x) (q ++ y) (omega (arith, r.eight, s.eight)) (sym left ∙ is ∙ right) in
    let sizes : r.size ≡ s.size = ap (λ (l : List ℕ). drop 1 l) heads.0 in
    let long : length p ≡ length q = sym r.number ∙ ap (λ (l : List ℕ). from_be_bytes w64 l) sizes ∙ s.number in
    let rests = split_same p q x y long heads.1 in
    (rests.0, r.whole ∙ ap (λ (l : List ℕ). 1 ∷ (l ++ p)) sizes ∙ ap (λ (l : List ℕ). 1 ∷ (s.size ++ l)) rests.0 ∙ sym s.whole, rests.1)

-- no whole record with a byte behind it stands in front
abbrev pub Stops : List ℕ → Type 0
Stops bytes = (0 < length bytes) × ((p first rest : List ℕ) → IsRecord p first → 0 < length rest → bytes ≡ first ++ rest → ⊥)

head_same : (x y : ℕ) (xs ys : List ℕ) → x ∷ xs ≡ y ∷ ys → x ≡ y
head_same x y xs ys is = ap (λ (l : List ℕ). get_or l 0 0) is

tail_same : (x y : ℕ) (xs ys : List ℕ) → x ∷ xs ≡ y ∷ ys → xs ≡ ys
tail_same x y xs ys is = ap (λ (l : List ℕ). drop 1 l) is

record_whole : (p first rest : List ℕ) (r : IsRecord p first) → first ++ rest ≡ 1 ∷ (r.size ++ (p ++ rest))
record_whole p first rest r = ap (λ (l : List ℕ). l ++ rest) r.whole ∙ append_assoc (1 ∷ r.size) p rest

pub stops_closed : (gate : ℕ) (behind : List ℕ) → gate ≢ 1 → Stops (gate ∷ behind)
stops_closed gate behind closed =
    (omega arith, λ p first rest r some is. closed (head_same gate 1 behind (r.size ++ (p ++ rest)) (is ∙ record_whole p first rest r)))

-- a record with a byte behind it is not cut short
short_clash : (p size rest more : List ℕ) → length size ≡ 8 → from_be_bytes w64 size ≡ length p → 0 < length rest → more ≡ size ++ (p ++ rest)
    → (length more < 8) ⊎ (length more ≤ 8 + from_be_bytes w64 (take 8 more)) → ⊥
short_clash p size rest more eight number some is (inl few) =
    let long : length more ≡ length size + length (p ++ rest) = ap length is ∙ length-append size (p ++ rest) in
    omega (arith, few, long, eight)
short_clash p size rest more eight number some is (inr few) =
    let front : take 8 more ≡ size = ap (λ (l : List ℕ). take 8 l) is ∙ take_at size (p ++ rest) 8 eight in
    let named : from_be_bytes w64 (take 8 more) ≡ length p = ap (λ (l : List ℕ). from_be_bytes w64 l) front ∙ number in
    let long : length more ≡ length size + (length p + length rest) =
    ap length is ∙ length-append size (p ++ rest) ∙ ap (λ (k : ℕ). length size + k) (length-append p rest) in
    omega (arith, few, named, long, eight, some)

pub stops_short : (bytes : List ℕ) → IsCutShort bytes → Stops bytes
stops_short [] short = absurd short
stops_short (gate ∷ more) short = (
  omega arith,
  λ p first rest r some is.
      short_clash p r.size rest more r.eight r.number some (tail_same gate 1 more (r.size ++ (p ++ rest)) (is ∙ record_whole p first rest r)) short.1,
)

-- Two walks over one file find the same records.
walks_same : (ps qs : List (List ℕ)) (f h u v : List ℕ) → AreRecords ps f → AreRecords qs h → Stops u → Stops v → f ++ u ≡ h ++ v → (ps ≡ qs) × (f ≡ h) × (u ≡ v)
walks_same [] [] f h u v none nil su sv is =
    (refl, none ∙ sym nil, (split_same f h u v (ap length (none ∙ sym nil)) is).1)
walks_same [] (q ∷ qs) f h u v none (first, rest, r, more, whole) su sv is =
    let there : u ≡ first ++ (rest ++ v) = sym (ap (λ (l : List ℕ). l ++ u) none) ∙ is ∙ ap (λ (l : List ℕ). l ++ v) whole ∙ append_assoc first rest v in
    absurd (su.1 q first (rest ++ v) r (omega (arith, length-append rest v, sv.0)) there)
walks_same (p ∷ ps) [] f h u v (first, rest, r, more, whole) nil su sv is =
    let there : v ≡ first ++ (rest ++ u) = sym (ap (λ (l : List ℕ). l ++ v) nil) ∙ sym is ∙ ap (λ (l : List ℕ). l ++ u) whole ∙ append_assoc first rest u in
    absurd (sv.1 p first (rest ++ u) r (omega (arith, length-append rest u, su.0)) there)
walks_same (p ∷ ps) (q ∷ qs) f h u v (a, x, r, more, whole) (b, y, s, others, full) su sv is =
    let there : a ++ (x ++ u) ≡ b ++ (y ++ v) =
    sym (append_assoc a x u) ∙ sym (ap (λ (l : List ℕ). l ++ u) whole) ∙ is ∙ ap (λ (l : List ℕ). l ++ v) full ∙ append_assoc b y v in
    let one = record_same p q a b (x ++ u) (y ++ v) r s there in
    let rest = walks_same ps qs x y u v more others su sv one.2 in (
      ap (λ (l : List ℕ). l ∷ ps) one.0 ∙ ap (λ (l : List (List ℕ)). q ∷ l) rest.0,
      whole ∙ ap (λ (l : List ℕ). l ++ x) one.1 ∙ ap (λ (l : List ℕ). b ++ l) rest.1 ∙ sym full,
      rest.2,
    )

-- a file of at most one byte has no record
pub none_in_one : (ps : List (List ℕ)) (file : List ℕ) → HasRecords ps file → length file ≤ 1 → ps ≡ []
none_in_one [] file has few = refl
none_in_one (p ∷ ps) file has few =
    let front = length-records (p ∷ ps) has.front has.records in
    let whole : length file ≡ length has.front + length (has.gate ∷ has.behind) = ap length has.whole ∙ length-append has.front (has.gate ∷ has.behind) in
    absurd (omega (arith, front, whole, few))

pub has_same : (ps qs : List (List ℕ)) (file : List ℕ) → HasRecords ps file → HasRecords qs file → ps ≡ qs
has_same ps qs file a b =
    (walks_same ps qs a.front b.front (a.gate ∷ a.behind) (b.gate ∷ b.behind) a.records b.records (stops_closed a.gate a.behind a.closed) (stops_closed b.gate b.behind b.closed)
    (sym a.whole ∙ b.whole)).0

closed_short : (gate : ℕ) (behind bytes : List ℕ) → gate ≢ 1 → IsCutShort bytes → gate ∷ behind ≡ bytes → ⊥
closed_short gate behind [] closed short is = absurd short
closed_short gate behind (g ∷ more) closed short is = closed (head_same gate g behind more is ∙ short.0)

pub has_undamaged : (ps : List (List ℕ)) (place : ℕ) (file : List ℕ) → HasRecords ps file → IsDamagedAt place file → ⊥
has_undamaged ps place file a d =
    closed_short a.gate a.behind d.behind a.closed d.short
    (walks_same ps d.payloads a.front d.front (a.gate ∷ a.behind) d.behind a.records d.records (stops_closed a.gate a.behind a.closed) (stops_short d.behind d.short)
    (sym a.whole ∙ d.whole)).2

place_same : (m n : ℕ) (file : List ℕ) → IsDamagedAt m file → IsDamagedAt n file → m ≡ n
place_same m n file a b =
    a.place_is
    ∙ ap length (walks_same a.payloads b.payloads a.front b.front a.behind b.behind a.records b.records (stops_short a.behind a.short) (stops_short b.behind b.short) (sym a.whole ∙ b.whole)).1
    ∙ sym b.place_is

-- A file gives one answer.
pub gives_one : (file : List ℕ) (a b : Result (List (List ℕ)) ℕ) → Gives file a → Gives file b → a ≡ b
gives_one file (Ok ps) (Ok qs) (inl few) (inl also) = ap (λ (l : List (List ℕ)). Ok l) (few.1 ∙ sym also.1)
gives_one file (Ok ps) (Ok qs) (inl few) (inr has) = ap (λ (l : List (List ℕ)). Ok l) (few.1 ∙ sym (none_in_one qs file has few.0))
gives_one file (Ok ps) (Ok qs) (inr has) (inl few) = ap (λ (l : List (List ℕ)). Ok l) (none_in_one ps file has few.0 ∙ sym few.1)
gives_one file (Ok ps) (Ok qs) (inr has) (inr also) = ap (λ (l : List (List ℕ)). Ok l) (has_same ps qs file has also)
gives_one file (Ok ps) (Err n) (inl few) bad = absurd (omega (arith, few.0, bad.0))
gives_one file (Ok ps) (Err n) (inr has) bad = absurd (has_undamaged ps n file has bad.1)
gives_one file (Err m) (Ok qs) bad (inl few) = absurd (omega (arith, few.0, bad.0))
gives_one file (Err m) (Ok qs) bad (inr has) = absurd (has_undamaged qs m file has bad.1)
gives_one file (Err m) (Err n) bad also = ap (λ (k : ℕ). Err k) (place_same m n file bad.1 also.1)
