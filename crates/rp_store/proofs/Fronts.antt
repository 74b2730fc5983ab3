-- Each file gives some answer.
use Rattle.std.proofs.Common.{◌≡◌, ◌≢◌, ◌⊎◌, inl, inr, ℕ, zero, suc, ◌+◌, ◌≤◌, ◌<◌, List, [], ◌∷◌, ◌++◌, length, take, drop, Result, Ok, Err, refl, sym, ◌∙◌, ap, arith, append_assoc, length-append, length-take, length-drop, take-append-drop}
use Rattle.std.specs.Int.{w64, from_be_bytes}
use Rattle.std.proofs.lemmas.Bool.{cases_eq, cases_lt}
use Rattle.rp_store.specs.Records.{IsRecord, AreRecords, IsCutShort, Gives}
use Rattle.rp_store.proofs.Files.{length-record}

-- what stands at a gate: a closed one, a record that is cut short, or a whole one with a byte behind it
data Front (bytes : List ℕ) : Type 0 where
  closed : (gate : ℕ) (behind : List ℕ) → gate ≢ 1 → bytes ≡ gate ∷ behind → Front bytes
  short : IsCutShort bytes → Front bytes
  whole : (p first rest : List ℕ) → IsRecord p first → 0 < length rest → bytes ≡ first ++ rest → Front bytes

front_more : (gate : ℕ) (more : List ℕ) → gate ≡ 1 → 8 ≤ length more → 8 + from_be_bytes w64 (take 8 more) < length more → Front (gate ∷ more)
front_more gate more is_open eight many =
    let size = take 8 more in
    let n = from_be_bytes w64 size in
    let behind = drop 8 more in
    let long : length size ≡ 8 = omega (arith, length-take 8 more, eight) in
    let sized : length (take n behind) ≡ n = omega (arith, length-take n behind, length-drop 8 more, many) in
    whole (take n behind) (1 ∷ (size ++ take n behind)) (drop n behind) (record { size = size; eight = long; number = sym sized; whole = refl })
    (omega (arith, length-drop n behind, length-drop 8 more, many))
    (ap (λ (k : ℕ). k ∷ more) is_open ∙ ap (λ (l : List ℕ). 1 ∷ l) (sym (take-append-drop 8 more) ∙ ap (λ (l : List ℕ). size ++ l) (sym (take-append-drop n behind)) ∙ sym (append_assoc size (take n behind) (drop n behind))))

front_of : (gate : ℕ) (more : List ℕ) → Front (gate ∷ more)
front_of gate more = elim (cases_eq gate 1) [
  | inl is_open ↦ elim (cases_lt (length more) 8) [
    | inl few ↦ short (is_open, inl few)
    | inr eight ↦ elim (cases_lt (8 + from_be_bytes w64 (take 8 more)) (length more)) [
      | inl many ↦ front_more gate more is_open eight many
      | inr less ↦ short (is_open, inr less)
    ]
  ]
  | inr shut ↦ closed gate more shut refl
]

-- whole records, and behind them a closed gate or a record that is cut short
record Walk (bytes : List ℕ) : Type 0 where
  payloads : List (List ℕ)
  front : List ℕ
  behind : List ℕ
  records : AreRecords payloads front
  split : bytes ≡ front ++ behind
  stop : ((gate : ℕ) × (more : List ℕ) × (gate ≢ 1) × (behind ≡ gate ∷ more)) ⊎ IsCutShort behind

walk_more : (p first rest bytes : List ℕ) → IsRecord p first → bytes ≡ first ++ rest → Walk rest → Walk bytes
walk_more p first rest bytes r is w = record {
  payloads = p ∷ w.payloads;
  front = first ++ w.front;
  behind = w.behind;
  records = (first, w.front, r, w.records, refl);
  split = is ∙ ap (λ (l : List ℕ). first ++ l) w.split ∙ sym (append_assoc first w.front w.behind);
  stop = w.stop;
}

walk_by : (n : ℕ) (bytes : List ℕ) → length bytes ≤ n → 0 < length bytes → Walk bytes
walk_by n [] le some = absurd (omega arith)
walk_by zero (gate ∷ more) le some = absurd (omega arith)
walk_by (suc n) (gate ∷ more) le some = elim (front_of gate more) [
  | closed g behind shut is ↦ record { payloads = []; front = []; behind = gate ∷ more; records = refl; split = refl; stop = inl (g, behind, shut, is) }
  | short cut ↦ record { payloads = []; front = []; behind = gate ∷ more; records = refl; split = refl; stop = inr cut }
  | whole p first rest r byte is ↦
      let long : length (gate ∷ more) ≡ length first + length rest = ap length is ∙ length-append first rest in
      walk_more p first rest (gate ∷ more) r is (walk_by n rest (omega (arith, long, length-record p first r, le)) byte)
]

answered : (file : List ℕ) → 1 < length file → Walk file → (answer : Result (List (List ℕ)) ℕ) × Gives file answer
answered file many w = elim w.stop [
  | inl shut ↦ (
    Ok w.payloads,
    inr
        (record {
          front = w.front;
          gate = shut.0;
          behind = shut.1;
          records = w.records;
          closed = shut.2;
          whole = w.split ∙ ap (λ (l : List ℕ). w.front ++ l) shut.3;
        }),
  )
  | inr cut ↦ (
    Err (length w.front),
    (many, record { payloads = w.payloads; front = w.front; behind = w.behind; records = w.records; place_is = refl; short = cut; whole = w.split }),
  )
]

pub gives_some : (file : List ℕ) → (answer : Result (List (List ℕ)) ℕ) × Gives file answer
gives_some file = elim (cases_lt 1 (length file)) [
  | inl many ↦ answered file many (walk_by (length file) file (omega arith) (omega (arith, many)))
  | inr few ↦ (Ok [], inl (few, refl))
]
