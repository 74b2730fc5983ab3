-- What an opening leaves of a file.
use Rattle.std.proofs.Common.{◌≡◌, ◌≢◌, inl, inr, ⊎_elim, ℕ, ◌+◌, ◌-◌, ◌≤◌, List, [], ◌∷◌, ◌++◌, length, take, drop, Option, Some, None, option_map, Ok, Err, IsTrue, IfSome, refl, sym, ◌∙◌, ap, subst, arith, length-append, length-take, length-drop}
use Rattle.std.proofs.lemmas.List.{drop_all, take-take}
use Rattle.std.proofs.Math.Seq.{take-append-add}
use Rattle.rp_disk.specs.Files.{File, IsTold, Torn, MayBeCut, Only, put}
use Rattle.rp_store.specs.Records.{Gives, last_of, size_of, place_of}
use Rattle.rp_store.specs.Stores.{IsKept, GivesAlike, GivesAsLeft, OpensAlike, IsWhole, IsSound, StaysSound, IsTrimmedTo}
use Rattle.rp_store.specs.Walks.{IsCalm, Through, BeginsClosed, HasWalked, IsLookedUp, IsTrimmed, payload_in}
use Rattle.rp_store.proofs.Calls.{leaves_then}
use Rattle.rp_store.proofs.Files.{length-records, gives_one}
use Rattle.rp_store.proofs.Walked.{walked_closed}

-- a closed gate in front
pub closed_parts : (bytes : List ℕ) → BeginsClosed bytes → (gate : ℕ) × (behind : List ℕ) × (gate ≢ 1) × (bytes ≡ gate ∷ behind)
closed_parts [] closed = absurd closed
closed_parts (gate ∷ behind) closed = (gate, behind, closed, refl)

-- a file that is cut behind the closed gate
pub cut_parts : (end : ℕ) (last : Option ℕ) (file : List ℕ) (w : HasWalked end last file) (closed : BeginsClosed (drop end file))
    → take (end + 1) file ≡ w.front ++ ((closed_parts (drop end file) closed).0 ∷ [])
cut_parts end last file w closed =
    let parts = closed_parts (drop end file) closed in
    ap (λ (k : ℕ). take (k + 1) file) w.end_is ∙ ap (λ (l : List ℕ). take (length w.front + 1) l) (w.whole ∙ ap (λ (l : List ℕ). w.front ++ l) parts.3)
    ∙ take-append-add w.front (parts.0 ∷ parts.1) 1

-- where the last payload begins
place_kept : (end : ℕ) (last : Option ℕ) (file : List ℕ) (ps : List (List ℕ)) → payload_in file end last ≡ last_of ps → end ≡ size_of ps → end ≤ length file
    → IfSome last (λ size. size + 9 ≤ end) → option_map (λ size. end - size) last ≡ place_of ps
place_kept end None file ps is sized within room = ap (λ (o : Option (List ℕ)). option_map (λ payload. size_of ps - length payload) o) is
place_kept end (Some size) file ps is sized within room =
    let long : length (take size (drop (end - size) file)) ≡ size = omega (arith, length-take size (drop (end - size) file), length-drop (end - size) file, within, room) in
    let same : end - size ≡ size_of ps - length (take size (drop (end - size) file)) = omega (arith, long, sized) in
    ap (λ (k : ℕ). Some k) same ∙ ap (λ (o : Option (List ℕ)). option_map (λ payload. size_of ps - length payload) o) is

-- what an opening answers of a file, and what it made of it
pub settled_kept : (file : List ℕ) (new : File) (end : ℕ) (last : Option ℕ) (payload : Option (List ℕ)) → IsLookedUp file end last payload → IfSome last (λ size. size + 9 ≤ end)
    → IsTrimmedTo end file new.seen → Only new.seen new.may_leave
    → (payloads : List (List ℕ)) × Gives file (Ok payloads) × (payload ≡ last_of payloads) × IsKept payloads new end (option_map (λ size. end - size) last)
settled_kept file new end last payload (inl (few, at_front, no_last, no_payload)) room (inl (also, blank)) only = (
  [],
  inl (few, refl),
  no_payload,
  record {
    at_rest = record { front = []; gate = 0; records = refl; closed = λ is. omega (arith, is); whole = blank; durable = only };
    end_is = at_front;
    place_is = ap (λ (o : Option ℕ). option_map (λ size. end - size) o) no_last;
  },
)
settled_kept file new end last payload (inl (few, at_front, no_last, no_payload)) room (inr (many, cut)) only = absurd (omega (arith, few, many))
settled_kept file new end last payload (inr (many, w, closed, found)) room (inl (few, blank)) only = absurd (omega (arith, few, many))
settled_kept file new end last payload (inr (many, w, closed, found)) room (inr (also, cut)) only =
    let parts = closed_parts (drop end file) closed in
    let sized : end ≡ size_of w.payloads = w.end_is ∙ length-records w.payloads w.front w.records in
    let within : end ≤ length file = omega (arith, w.end_is, ap length w.whole, length-append w.front (drop end file)) in (
      w.payloads,
      inr (walked_closed end last file w closed),
      found ∙ w.last_is,
      record {
        at_rest = record { front = w.front; gate = parts.0; records = w.records; closed = parts.2; whole = cut ∙ cut_parts end last file w closed; durable = only };
        end_is = sized;
        place_is = place_kept end last file w.payloads w.last_is sized within room;
      },
    )

-- what a file may be while it is trimmed gives what the file gave
pub trimmed_alike : (file c : List ℕ) (end : ℕ) (last : Option ℕ) (payload : Option (List ℕ)) → IsLookedUp file end last payload → IsTrimmed end file c → GivesAlike file c
trimmed_alike file c end last payload found (inl (few, also)) answer gives =
    let is : answer ≡ Ok [] = gives_one file answer (Ok []) gives (inl (few, refl)) in
    subst (λ a. Gives c a) (sym is) (inl (also, refl))
trimmed_alike file c end last payload found (inr (many, inl same)) answer gives = subst (λ (l : List ℕ). Gives l answer) (sym same) gives
trimmed_alike file c end last payload (inl (few, at_front, no_last, no_payload)) (inr (many, inr cut)) answer gives = absurd (omega (arith, few, many))
trimmed_alike file c end last payload (inr (also, w, closed, found)) (inr (many, inr cut)) answer gives =
    let parts = closed_parts (drop end file) closed in
    let is : answer ≡ Ok w.payloads = gives_one file answer (Ok w.payloads) gives (inr (walked_closed end last file w closed)) in
    subst (λ a. Gives c a) (sym is)
    (inr (record { front = w.front; gate = parts.0; behind = []; records = w.records; closed = parts.2; whole = cut ∙ cut_parts end last file w closed }))

-- calls that change nothing
pub opens_calm : (a b : File) → IsCalm a b → OpensAlike a b
opens_calm a b calm told =
    let stays = calm told in
    let alike : (c : List ℕ) → a.may_leave c → GivesAsLeft a c = λ c left. (c, left, λ answer gives. gives) in (
      stays.told,
      record {
        later = stays.leaves.later;
        each = λ c left. alike c (stays.leaves.each c left);
        before = λ t c le left. ⊎_elim (λ was. inl was) (λ is. inr (alike c is)) (stays.leaves.before t c le left);
      },
    )

-- calls that change nothing, and then a trim
pub opens_trimmed : (a b c : File) (end : ℕ) (last : Option ℕ) (payload : Option (List ℕ)) → (IsTrue a.tells → IsTold a) → IsCalm a b
    → (IsTrue b.tells → IsLookedUp a.seen end last payload) → Through (IsTrimmed end b.seen) b c → OpensAlike a c
opens_trimmed a b c end last payload is_told calm found trim told =
    let runs = trim told in
    let stays = calm runs.told in
    let alike : (x : List ℕ) → IsTrimmed end b.seen x → GivesAsLeft a x = λ x trimmed. (
      a.seen,
      (is_told stays.told).as_seen,
      trimmed_alike a.seen x end last payload (found runs.told) (subst (λ (l : List ℕ). IsTrimmed end l x) stays.seen trimmed),
    ) in
    (stays.told, leaves_then (GivesAsLeft a) (IsTrimmed end b.seen) a b c (opens_calm a b calm runs.told).1 runs.leaves alike)

-- Where each file that a crash may leave is whole, each is at any moment of an opening.
pub sound_after : (a b : File) → (IsTrue b.tells → IsTold b) → OpensAlike a b → StaysSound a b
sound_after a b is_told opens told sound =
    let leaves = (opens told).1 in
    let whole : (c : List ℕ) → GivesAsLeft a c → IsWhole c = λ c from. let was = sound from.0 from.1 in (was.0, from.2 (Ok was.0) was.1) in (
      record {
        later = leaves.later;
        each = λ c left. whole c (leaves.each c left);
        before = λ t c le left. ⊎_elim (λ was. inl was) (λ is. inr (whole c is)) (leaves.before t c le left);
      },
      λ c left. whole c (leaves.each c ((is_told told).counts_now a.moment c leaves.later left)),
    )

ok_err : (ps : List (List ℕ)) (place : ℕ) → Ok ps ≡ Err place → ⊥
ok_err ps place is = absurd (cc is)

pub undamaged_if : (file : File) (place : ℕ) → IsTold file → IsSound file → Gives file.seen (Err place) → ⊥
undamaged_if file place is_told sound gives =
    let was = sound file.seen is_told.as_seen in
    ok_err was.0 place (gives_one file.seen (Ok was.0) (Err place) was.1 gives)

-- one byte of a file that has no more
pub blank_goes : (d x : List ℕ) → length d ≤ 1 → Torn 0 1 d x → length x ≤ 1
blank_goes d x few torn = omega (arith, few, torn.no_longer)

pub blank_put : (file : List ℕ) → length file ≤ 1 → put 0 (0 ∷ []) file ≡ 0 ∷ []
blank_put file few = ap (λ (l : List ℕ). 0 ∷ l) (drop_all 1 file few)

-- a cut of what may be cut
pub cut_goes : (to : ℕ) (file d x : List ℕ) → MayBeCut to file d → MayBeCut to d x → MayBeCut to file x
cut_goes to file d x (inl same) (inl also) = inl (also ∙ same)
cut_goes to file d x (inl same) (inr cut) = inr (cut ∙ ap (λ (l : List ℕ). take to l) same)
cut_goes to file d x (inr cut) (inl also) = inr (also ∙ cut)
cut_goes to file d x (inr cut) (inr again) = inr (again ∙ ap (λ (l : List ℕ). take to l) cut ∙ take-take to to file (omega arith))

-- what an opening answers, by what it found
pub settled_given : (file : List ℕ) (new : File) (end : ℕ) (last : Option ℕ) (payload : Option (List ℕ)) (end' : ℕ) (place' : Option ℕ) (payload' : Option (List ℕ))
    → IsLookedUp file end last payload → IfSome last (λ size. size + 9 ≤ end) → IsTrimmedTo end file new.seen → Only new.seen new.may_leave
    → end' ≡ end → place' ≡ option_map (λ size. end - size) last → payload' ≡ payload
    → (payloads : List (List ℕ)) × Gives file (Ok payloads) × (payload' ≡ last_of payloads) × IsKept payloads new end' place'
settled_given file new end last payload end' place' payload' found room trimmed only end_is place_is payload_is =
    let all = settled_kept file new end last payload found room trimmed only in (
      all.0,
      all.1,
      payload_is ∙ all.2,
      subst (λ (o : Option ℕ). IsKept all.0 new end' o) (sym place_is)
          (subst (λ (k : ℕ). IsKept all.0 new k (option_map (λ size. end - size) last)) (sym end_is) all.3),
    )

-- the empty file
pub empty_gives : Gives [] (Ok [])
empty_gives = inl (omega arith, refl)
