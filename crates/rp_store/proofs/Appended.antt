-- What a save leaves of a file.
use Rattle.std.proofs.Common.{◌≡◌, ◌≢◌, inl, inr, ⊎_elim, ℕ, ◌+◌, ◌-◌, ◌^◌, ◌≤◌, ◌<◌, List, [], ◌∷◌, ◌++◌, length, get_or, take, drop, Option, Some, option_map, Ok, IsTrue, refl, sym, ◌∙◌, ap, subst, arith, append_assoc, length-append, length-take, take-append-drop}
use Rattle.std.specs.Int.{w64, to_be_bytes}
use Rattle.std.proofs.lemmas.Nat.{from_be_bytes-to_be_bytes_8}
use Rattle.std.proofs.lemmas.Bool.{cases_eq}
use Rattle.std.proofs.lemmas.List.{take_at, drop_at, take_all, drop_all, drop_more, take-take, append-nil}
use Rattle.rp_disk.specs.Files.{File, IsTold, Changes, Torn, Only, put}
use Rattle.rp_store.specs.Records.{IsRecord, AreRecords, Gives, last_of, size_of, place_of}
use Rattle.rp_store.specs.Stores.{Standing, IsAtRest, IsKept, Keeps, KeepsSome, IsBeforeOrAfter, SavesOrNot, LeavesLast, IsSound, staged, opened}
use Rattle.rp_store.specs.Walks.{Through, Begins, IsButAt, IsAppending}
use Rattle.rp_store.proofs.Bytes.{begins_split}
use Rattle.rp_store.proofs.Calls.{leaves_then, through_call}
use Rattle.rp_store.proofs.Files.{length-records, records_push, last_of-push, size_of-push}

-- bytes that are put behind a file
pub put_end : (at : ℕ) (bytes file : List ℕ) → at ≡ length file → put at bytes file ≡ file ++ bytes
put_end at bytes file is =
    ap (λ (l : List ℕ). (l ++ bytes) ++ drop (at + length bytes) file) (take_all at file (omega (arith, is)))
    ∙ ap (λ (l : List ℕ). (file ++ bytes) ++ l) (drop_all (at + length bytes) file (omega (arith, is))) ∙ append-nil (file ++ bytes)

-- what begins with these bytes begins with them after a write behind them
pub begins_all : (file x : List ℕ) → x ≡ file → Begins file x
begins_all file x is = ap (λ (l : List ℕ). take (length file) l) is ∙ take_all (length file) file (omega arith)

pub begins_goes : (file d x : List ℕ) (at size : ℕ) → length file ≤ at → Begins file d → Torn at size d x → Begins file x
begins_goes file d x at size le begins torn =
    sym (take-take (length file) at x le) ∙ ap (λ (l : List ℕ). take (length file) l) torn.before ∙ take-take (length file) at d le ∙ begins

-- one byte of a file that is written
pub but_same : (place : ℕ) (file x : List ℕ) → place < length file → x ≡ file → IsButAt place file x
but_same place file x within is =
    (get_or file place 0, is ∙ sym (take-append-drop place file) ∙ ap (λ (l : List ℕ). take place file ++ l) (drop_more file place 0 within))

pub but_goes : (place : ℕ) (file d x : List ℕ) → place < length file → IsButAt place file d → Torn place 1 d x → IsButAt place file x
but_goes place file d x within (byte, is) torn =
    let front : length (take place file) ≡ place = omega (arith, length-take place file, within) in
    let long : length d ≡ place + length (byte ∷ drop (place + 1) file) =
    ap length is ∙ length-append (take place file) (byte ∷ drop (place + 1) file) ∙ ap (λ (k : ℕ). k + length (byte ∷ drop (place + 1) file)) front in
    let before : take place x ≡ take place file =
    torn.before ∙ ap (λ (l : List ℕ). take place l) is ∙ take_at (take place file) (byte ∷ drop (place + 1) file) place front in
    let split : d ≡ (take place file ++ (byte ∷ [])) ++ drop (place + 1) file = is ∙ sym (append_assoc (take place file) (byte ∷ []) (drop (place + 1) file)) in
    let head : length (take place file ++ (byte ∷ [])) ≡ place + 1 = omega (arith, length-append (take place file) (byte ∷ []), front) in
    let behind : drop (place + 1) x ≡ drop (place + 1) file =
    torn.behind ∙ ap (λ (l : List ℕ). drop (place + 1) l) split ∙ drop_at (take place file ++ (byte ∷ [])) (drop (place + 1) file) (place + 1) head in (
      get_or x place 0,
      sym (take-append-drop place x) ∙ ap (λ (l : List ℕ). l ++ drop place x) before
          ∙ ap (λ (l : List ℕ). take place file ++ l) (drop_more x place 0 (omega (arith, torn.no_shorter, long)) ∙ ap (λ (l : List ℕ). get_or x place 0 ∷ l) behind),
    )

pub opened_put : (place : ℕ) (file : List ℕ) → put place (1 ∷ []) file ≡ opened place file
opened_put place file = append_assoc (take place file) (1 ∷ []) (drop (place + 1) file)

-- calls of which each leaves only files that have a property of its own
pub through_join : (P Q R : List ℕ → Type 0) (a b c : File) → Through P a b → Through Q b c → (IsTrue b.tells → (x : List ℕ) → P x → R x)
    → (IsTrue b.tells → (x : List ℕ) → Q x → R x) → Through R a c
through_join P Q R a b c first second left right told =
    let later = second told in
    let earlier = first later.told in
    let here = left later.told in
    let there = right later.told in
    record {
      told = earlier.told;
      leaves = leaves_then R Q a b c
          (record {
            later = earlier.leaves.later;
            each = λ x was. here x (earlier.leaves.each x was);
            before = λ t x le was. ⊎_elim (λ had. inl had) (λ is. inr (here x is)) (earlier.leaves.before t x le was);
          }) later.leaves there;
      now = λ x was. there x (later.now x was);
    }

pub through_into : (P R : List ℕ → Type 0) (a b : File) → Through P a b → (IsTrue a.tells → (x : List ℕ) → P x → R x) → Through R a b
through_into P R a b calls into told =
    let runs = calls told in
    let here = into runs.told in
    record {
      told = runs.told;
      leaves = record {
        later = runs.leaves.later;
        each = λ x was. here x (runs.leaves.each x was);
        before = λ t x le was. ⊎_elim (λ had. inl had) (λ is. inr (here x is)) (runs.leaves.before t x le was);
      };
      now = λ x was. here x (runs.now x was);
    }

module _ (payloads : List (List ℕ)) (payload front : List ℕ) (gate : ℕ) (records : AreRecords payloads front) (closed : gate ≢ 1) (fits : length payload < 2 ^ 64) where
  abbrev size_bytes : List ℕ
  size_bytes = to_be_bytes w64 (length payload)

  abbrev shut_file : List ℕ
  shut_file = front ++ (gate ∷ [])

  new_record : IsRecord payload (1 ∷ (size_bytes ++ payload))
  new_record = record { size = size_bytes; eight = refl; number = from_be_bytes-to_be_bytes_8 (length payload) fits; whole = refl }

  -- the file with anything behind its gate
  pub begins_gives : (c : List ℕ) → Begins shut_file c → Gives c (Ok payloads)
  begins_gives c begins =
      let behind = drop (length shut_file) c in
      inr (record {
        front = front;
        gate = gate;
        behind = behind;
        records = records;
        closed = closed;
        whole = begins_split shut_file c begins ∙ append_assoc front (gate ∷ []) behind;
      })

  staged_parts : staged shut_file payload ≡ front ++ (gate ∷ ((size_bytes ++ payload) ++ (0 ∷ [])))
  staged_parts = append_assoc front (gate ∷ []) ((size_bytes ++ payload) ++ (0 ∷ []))

  but_parts : (byte : ℕ) → take (length front) (staged shut_file payload) ++ (byte ∷ drop (length front + 1) (staged shut_file payload)) ≡ front ++ (byte ∷ ((size_bytes ++ payload) ++ (0 ∷ [])))
  but_parts byte =
      let rest = (size_bytes ++ payload) ++ (0 ∷ []) in
      let before : take (length front) (staged shut_file payload) ≡ front = ap (λ (l : List ℕ). take (length front) l) staged_parts ∙ take_at front (gate ∷ rest) (length front) refl in
      let behind : drop (length front + 1) (staged shut_file payload) ≡ rest = drop_at shut_file rest (length front + 1) (length-append front (gate ∷ [])) in
      ap (λ (l : List ℕ). l ++ (byte ∷ drop (length front + 1) (staged shut_file payload))) before ∙ ap (λ (l : List ℕ). front ++ (byte ∷ l)) behind

  opened_parts : front ++ (1 ∷ ((size_bytes ++ payload) ++ (0 ∷ []))) ≡ (front ++ (1 ∷ (size_bytes ++ payload))) ++ (0 ∷ [])
  opened_parts = sym (append_assoc front (1 ∷ (size_bytes ++ payload)) (0 ∷ []))

  shut : ◌≢◌ {A = ℕ} 0 1
  shut is = omega (arith, is)

  -- all of the record with any gate
  pub but_gives : (c : List ℕ) → IsButAt (length front) (staged shut_file payload) c → IsBeforeOrAfter payloads payload c
  but_gives c (byte, is) = elim (cases_eq byte 1) [
    | inl is_open ↦
        inr (inr (record {
          front = front ++ (1 ∷ (size_bytes ++ payload));
          gate = 0;
          behind = [];
          records = records_push payloads payload front (1 ∷ (size_bytes ++ payload)) records new_record;
          closed = shut;
          whole = is ∙ but_parts byte ∙ ap (λ (k : ℕ). front ++ (k ∷ ((size_bytes ++ payload) ++ (0 ∷ [])))) is_open ∙ opened_parts;
        }))
    | inr other ↦
        inl (inr (record { front = front; gate = byte; behind = (size_bytes ++ payload) ++ (0 ∷ []); records = records; closed = other; whole = is ∙ but_parts byte }))
  ]

  pub appending_gives : (c : List ℕ) → IsAppending (length front) shut_file payload c → IsBeforeOrAfter payloads payload c
  appending_gives c (inl begins) = inl (begins_gives c begins)
  appending_gives c (inr but) = but_gives c but

  -- all of it with its gate open
  pub appended_rest : (new : File) → new.seen ≡ opened (length front) (staged shut_file payload) → Only new.seen new.may_leave → IsAtRest (payloads ++ (payload ∷ [])) new
  appended_rest new is only = record {
    front = front ++ (1 ∷ (size_bytes ++ payload));
    gate = 0;
    records = records_push payloads payload front (1 ∷ (size_bytes ++ payload)) records new_record;
    closed = shut;
    whole = is ∙ but_parts 1 ∙ opened_parts;
    durable = only;
  }

-- a file that keeps payloads, its gate's place
pub end_front : (payloads : List (List ℕ)) (file : File) (rest : IsAtRest payloads file) → size_of payloads ≡ length rest.front
end_front payloads file rest = sym (length-records payloads rest.front rest.records)

pub end_length : (payloads : List (List ℕ)) (file : File) (end : ℕ) (place : Option ℕ) → IsKept payloads file end place → length file.seen ≡ end + 1
end_length payloads file end place kept =
    omega (arith, kept.end_is, end_front payloads file kept.at_rest, ap length kept.at_rest.whole, length-append kept.at_rest.front (kept.at_rest.gate ∷ []))

-- what a save leaves, by what its store kept
pub appending_kept : (payloads : List (List ℕ)) (payload : List ℕ) (file : File) (end : ℕ) (place : Option ℕ) → length payload < 2 ^ 64 → IsKept payloads file end place
    → (c : List ℕ) → IsAppending end file.seen payload c → IsBeforeOrAfter payloads payload c
appending_kept payloads payload file end place fits kept c appending =
    let rest = kept.at_rest in
    let there : end ≡ length rest.front = kept.end_is ∙ end_front payloads file rest in
    appending_gives payloads payload rest.front rest.gate rest.records rest.closed fits c
    (subst (λ (k : ℕ). IsAppending k (rest.front ++ (rest.gate ∷ [])) payload c) there (subst (λ (l : List ℕ). IsAppending end l payload c) rest.whole appending))

pub appended_kept : (payloads : List (List ℕ)) (payload : List ℕ) (file new : File) (end : ℕ) (place : Option ℕ) → length payload < 2 ^ 64 → IsKept payloads file end place
    → new.seen ≡ opened end (staged file.seen payload) → Only new.seen new.may_leave
    → IsKept (payloads ++ (payload ∷ [])) new (end + 9 + length payload) (Some (end + 9))
appended_kept payloads payload file new end place fits kept is only =
    let rest = kept.at_rest in
    let there : end ≡ length rest.front = kept.end_is ∙ end_front payloads file rest in
    let seen : new.seen ≡ opened (length rest.front) (staged (rest.front ++ (rest.gate ∷ [])) payload) =
    is ∙ ap (λ (k : ℕ). opened k (staged file.seen payload)) there ∙ ap (λ (l : List ℕ). opened (length rest.front) (staged l payload)) rest.whole in
    let sized = size_of-push payloads payload in
    record {
      at_rest = appended_rest payloads payload rest.front rest.gate rest.records rest.closed fits new seen only;
      end_is = omega (arith, sized, kept.end_is);
      place_is = last_place (payloads ++ (payload ∷ [])) payload (end + 9) (last_of-push payloads payload) (omega (arith, sized, kept.end_is));
    }
  where
    last_place : (ps : List (List ℕ)) (p : List ℕ) (at : ℕ) → last_of ps ≡ Some p → at ≡ size_of ps - length p → Some at ≡ place_of ps
    last_place ps p at last is = ap (λ (k : ℕ). Some k) is ∙ sym (ap (λ (o : Option (List ℕ)). option_map (λ payload. size_of ps - length payload) o) last)

-- a write behind these bytes keeps them
pub through_behind : (front : List ℕ) (at size : ℕ) (a b : File) → (IsTrue a.tells → IsTold a) → Changes (Torn at size) a b
    → (IsTrue a.tells → (x : List ℕ) → a.may_leave x → Begins front x) → (IsTrue a.tells → length front ≤ at) → Through (Begins front) a b
through_behind front at size a b is_told changes before le =
    through_call (Begins front) (Torn at size) a b is_told changes before (λ told d x begins torn. begins_goes front d x at size (le told) begins torn)

-- what the writes of a record leave
pub staged_seen : (a b d e size payload : List ℕ) (first second third : ℕ) → b ≡ put first size a → d ≡ put second payload b → e ≡ put third (0 ∷ []) d
    → first ≡ length a → length size ≡ 8 → second ≡ first + 8 → third ≡ second + length payload → size ≡ to_be_bytes w64 (length payload) → e ≡ staged a payload
staged_seen a b d e size payload first second third one two three at_first long at_second at_third named =
    let b_is : b ≡ a ++ size = one ∙ put_end first size a at_first in
    let b_long : length b ≡ length a + length size = ap length b_is ∙ length-append a size in
    let d_is : d ≡ b ++ payload = two ∙ put_end second payload b (omega (arith, b_long, at_first, long, at_second)) in
    let d_long : length d ≡ length b + length payload = ap length d_is ∙ length-append b payload in
    let e_is : e ≡ d ++ (0 ∷ []) = three ∙ put_end third (0 ∷ []) d (omega (arith, d_long, b_long, at_first, long, at_second, at_third)) in
    e_is ∙ ap (λ (l : List ℕ). l ++ (0 ∷ [])) (d_is ∙ ap (λ (l : List ℕ). l ++ payload) b_is ∙ append_assoc a size payload) ∙ append_assoc a (size ++ payload) (0 ∷ [])
    ∙ ap (λ (l : List ℕ). a ++ ((l ++ payload) ++ (0 ∷ []))) named

-- a save of a store, at any moment
pub save_moments : {D : Type 0} (file : D → File) (old : Standing D) (new : D) (payload : List ℕ) → length payload < 2 ^ 64 → KeepsSome file old
    → Through (IsAppending old.end (file old.disk).seen payload) (file old.disk) (file new) → SavesOrNot file old payload new
save_moments file old new payload fits keeps calls told =
    let runs = calls told in
    let kept = keeps runs.told in
    let into : (c : List ℕ) → IsAppending old.end (file old.disk).seen payload c → IsBeforeOrAfter kept.0 payload c =
    appending_kept kept.0 payload (file old.disk) old.end old.place fits kept.1 in
    let moments = through_into (IsAppending old.end (file old.disk).seen payload) (IsBeforeOrAfter kept.0 payload) (file old.disk) (file new) calls (λ was c. into c) told in
    (kept.0, kept.1, moments.told, moments.leaves)

pub save_sound : {D : Type 0} (file : D → File) (old : Standing D) (new : D) (payload : List ℕ) → length payload < 2 ^ 64 → KeepsSome file old
    → Through (IsAppending old.end (file old.disk).seen payload) (file old.disk) (file new) → IsTrue (file new).tells → IsSound (file new)
save_sound file old new payload fits keeps calls told c left =
    let runs = calls told in
    let kept = keeps runs.told in
    ⊎_elim (λ before. (kept.0, before)) (λ after. (kept.0 ++ (payload ∷ []), after))
    (appending_kept kept.0 payload (file old.disk) old.end old.place fits kept.1 c (runs.now c left))

-- and once it is done
pub save_kept : {D : Type 0} (file : D → File) (old : Standing D) (new : D) (payload : List ℕ) (n : ℕ) → n ≡ length payload → length payload < 2 ^ 64 → KeepsSome file old
    → Through (IsAppending old.end (file old.disk).seen payload) (file old.disk) (file new)
    → (IsTrue (file new).tells → ((file new).seen ≡ opened old.end (staged (file old.disk).seen payload)) × Only (file new).seen (file new).may_leave) → IsTrue (file new).tells
    → (payloads : List (List ℕ)) × Keeps file old payloads × IsKept (payloads ++ (payload ∷ [])) (file new) (old.end + 9 + n) (Some (old.end + 9))
save_kept file old new payload n is fits keeps calls done told =
    let kept = keeps (calls told).told in
    let seen = done told in (
      kept.0,
      kept.1,
      subst (λ (k : ℕ). IsKept (kept.0 ++ (payload ∷ [])) (file new) (old.end + 9 + k) (Some (old.end + 9))) (sym is)
          (appended_kept kept.0 payload (file old.disk) (file new) old.end old.place fits kept.1 seen.0 seen.1),
    )

-- whatever crash comes, the last payload is there
pub kept_last : (payloads : List (List ℕ)) (payload : List ℕ) (file : File) → IsAtRest (payloads ++ (payload ∷ [])) file → LeavesLast payload file
kept_last payloads payload file rest c left = (
  payloads ++ (payload ∷ []),
  inr (record { front = rest.front; gate = rest.gate; behind = []; records = rest.records; closed = rest.closed; whole = rest.durable c left ∙ rest.whole }),
  last_of-push payloads payload,
)
