-- What the bytes of a file stand for. A record is an open gate, the length of its payload in eight
-- bytes, and the payload. Behind the last record stands a gate that is not open.
use Rattle.std.specs.Prelude.{◌≡◌, ◌≢◌, ◌⊎◌, ℕ, ◌+◌, ◌-◌, ◌<◌, ◌≤◌, List, [], ◌∷◌, ◌++◌, length, take, Option, Some, None, option_map, Result, Ok, Err}
use Rattle.std.specs.Int.{w64, from_be_bytes}

-- a whole record of this payload
pub record IsRecord (payload bytes : List ℕ) : Type 0 where
  pub size : List ℕ
  pub eight : length size ≡ 8
  pub number : from_be_bytes w64 size ≡ length payload
  pub whole : bytes ≡ 1 ∷ (size ++ payload)

-- whole records of these payloads, one behind the other
abbrev pub AreRecords : List (List ℕ) → List ℕ → Type 0
AreRecords [] bytes = bytes ≡ []
AreRecords (payload ∷ more) bytes =
    (first rest : List ℕ) × IsRecord payload first × AreRecords more rest × (bytes ≡ first ++ rest)

-- the file has whole records of these payloads, a gate that is not open, and anything behind it
pub record HasRecords (payloads : List (List ℕ)) (file : List ℕ) : Type 0 where
  pub front : List ℕ
  pub gate : ℕ
  pub behind : List ℕ
  pub records : AreRecords payloads front
  pub closed : gate ≢ 1
  pub whole : file ≡ front ++ (gate ∷ behind)

-- an open record that is cut short or has no byte behind it
abbrev pub IsCutShort : List ℕ → Type 0
IsCutShort [] = ⊥
IsCutShort (gate ∷ more) =
    (gate ≡ 1) × ((length more < 8) ⊎ (length more ≤ 8 + from_be_bytes w64 (take 8 more)))

-- the file has whole records, and at this place an open one that is cut short
pub record IsDamagedAt (place : ℕ) (file : List ℕ) : Type 0 where
  pub payloads : List (List ℕ)
  pub front : List ℕ
  pub behind : List ℕ
  pub records : AreRecords payloads front
  pub place_is : place ≡ length front
  pub short : IsCutShort behind
  pub whole : file ≡ front ++ behind

-- What a file gives: the payloads of its open records, or the place of one that is cut short. A file
-- of at most one byte is empty.
abbrev pub Gives : List ℕ → Result (List (List ℕ)) ℕ → Type 0
Gives file (Ok payloads) = ((length file ≤ 1) × (payloads ≡ [])) ⊎ HasRecords payloads file
Gives file (Err place) = (1 < length file) × IsDamagedAt place file

-- the last of them
abbrev pub last_of : List (List ℕ) → Option (List ℕ)
last_of [] = None
last_of (payload ∷ []) = Some payload
last_of (payload ∷ next ∷ more) = last_of (next ∷ more)

-- how many bytes their records have
abbrev pub size_of : List (List ℕ) → ℕ
size_of [] = 0
size_of (payload ∷ more) = 9 + length payload + size_of more

-- where the last payload begins, behind the gate and the eight bytes of its record
abbrev pub place_of : List (List ℕ) → Option ℕ
place_of payloads = option_map (λ payload. size_of payloads - length payload) (last_of payloads)
