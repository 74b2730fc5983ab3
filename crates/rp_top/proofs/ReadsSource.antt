-- A script read from a source piece after piece.
use Rattle.std.proofs.Common.{◌≡◌, ℕ, ◌≤◌, length, inl, Bool, List, [], ◌++◌, Option, Some, None, Result, Ok, Err, refl, ap, ◌∙◌, sym, subst, append_assoc}
use Rattle.rp_outside.specs.Devices.{Comes, IsAtEnd, IsAll}
use Rattle.rp_outside.proofs.Told.{comes_more}
use Rattle.rp_script.specs.Meaning.{◌>>=◌, meaning}
use Rattle.rp_script.specs.Reading.{Reading, unread, fed_all, finished}
use Rattle.rp_script.specs.declared.faults.ScriptFault.{ScriptFault}
use Rattle.rp_script.specs.declared.lines.NumberedLine.{NumberedLine}
use Rattle.rp_script.proofs.ReadsLines.{append-nil, reads_meaning, reads_pieces}
use Rattle.rp_base.specs.declared.lists.Seq.{Seq}
use Rattle.rp_top.specs.Gives.{Gives, HasCome, HasStopped, LeadsOn}
use Rattle.rp_top.specs.declared.stops.Stop.{Stop}
use Rattle.rp_top.specs.declared.stops.Stop.TheVariants as stops

-- a fault of the source says nothing of the script
pub any_script : (a : Option (List ℕ)) → (x : List ℕ) × IsAll a x × Unit {0}
any_script (Some left) = (left, refl, tt)
any_script None = ([], tt, tt)

pub came_further : (race : Bool) (a b c : Option (List ℕ)) (r s : Reading) (piece : List ℕ) → HasCome race a b r → Comes b piece c → fed_all r piece ≡ Ok s → HasCome race a c s
came_further race a b c r s piece h came leads = record {
  bytes = h.bytes ++ piece;
  comes = comes_more a b c h.bytes piece h.comes came;
  leads = reads_pieces (unread race) h.bytes piece ∙ ap (λ v. v >>= λ t. fed_all t piece) h.leads ∙ leads;
}

stopped : (race : Bool) (bytes piece rest : List ℕ) (r : Reading) (fault : ScriptFault) → fed_all (unread race) bytes ≡ Ok r → fed_all r piece ≡ Err fault
    → meaning race ((bytes ++ piece) ++ rest) ≡ Err fault
stopped race bytes piece rest r fault leads stops =
    sym (reads_meaning race ((bytes ++ piece) ++ rest))
    ∙ ap (λ v. v >>= λ s. finished s s.line) (reads_pieces (unread race) (bytes ++ piece) rest
    ∙ ap (λ v. v >>= λ t. fed_all t rest) (reads_pieces (unread race) bytes piece ∙ ap (λ v. v >>= λ t. fed_all t piece) leads ∙ stops))

stopped_here : (race : Bool) (bytes piece : List ℕ) (r : Reading) (fault : ScriptFault) → fed_all (unread race) bytes ≡ Ok r → fed_all r piece ≡ Err fault
    → meaning race (bytes ++ piece) ≡ Err fault
stopped_here race bytes piece r fault leads stops = ap (meaning race) (sym (append-nil (bytes ++ piece))) ∙ stopped race bytes piece [] r fault leads stops

judged_piece : (race : Bool) (a b c : Option (List ℕ)) (r : Reading) (piece : List ℕ) (fault : ScriptFault) → HasCome race a b r → Comes b piece c → fed_all r piece ≡ Err fault
    → (x : List ℕ) × IsAll a x × (meaning race x ≡ Err fault)
judged_piece race (Some all) (Some left) (Some rest) r piece fault h came stops =
    (all, refl, ap (meaning race) (h.comes ∙ ap (λ l. h.bytes ++ l) came ∙ sym (append_assoc h.bytes piece rest)) ∙ stopped race h.bytes piece rest r fault h.leads stops)
judged_piece race (Some all) (Some left) None r piece fault h came stops = absurd came
judged_piece race (Some all) None c r piece fault h came stops = absurd h.comes
judged_piece race None b c r piece fault h came stops = (h.bytes ++ piece, tt, stopped_here race h.bytes piece r fault h.leads stops)

-- the piece in which the reading stops
pub came_stopped : (race : Bool) (a b c : Option (List ℕ)) (r : Reading) (piece : List ℕ) (stop : Stop) → HasCome race a b r → Comes b piece c → Gives {X = Reading} (Err stop) (fed_all r piece)
    → (x : List ℕ) × IsAll a x × Gives {X = List NumberedLine} (Err stop) (meaning race x)
came_stopped race a b c r piece (stops.Judged fault) h came stops = judged_piece race a b c r piece fault h came stops
came_stopped race a b c r piece stops.NoMemory h came stops = any_script a
came_stopped race a b c r piece stops.ReadFault h came stops = any_script a

whole : (a b : Option (List ℕ)) (bytes : List ℕ) → Comes a bytes b → IsAtEnd b → IsAll a bytes
whole (Some all) (Some left) bytes came end = sym (append-nil bytes) ∙ ap (λ l. bytes ++ l) (sym end) ∙ sym came
whole (Some all) None bytes came end = absurd came
whole None b bytes came end = tt

-- the end of the source
pub came_whole : (race : Bool) (a b c : Option (List ℕ)) (r : Reading) (res : Result (List NumberedLine) Stop) → HasCome race a b r → Comes b [] c → IsAtEnd c
    → Gives res (finished r r.line) → (x : List ℕ) × IsAll a x × Gives res (meaning race x)
came_whole race a b c r res h came end gives =
    let all = came_further race a b c r r [] h came refl in (
      all.bytes,
      whole a c all.bytes all.comes end,
      (let P : Result (List NumberedLine) ScriptFault → Type 0 = λ v. Gives res v in
          subst P (sym (ap (λ v. v >>= λ s. finished s s.line) all.leads) ∙ reads_meaning race all.bytes) gives),
    )

-- what a stop of the reading says of the source: nothing was read behind this piece
no_further : (race : Bool) (a b c : Option (List ℕ)) (r : Reading) (piece : List ℕ) (fault : ScriptFault) → HasCome race a b r → Comes b piece c → length piece ≤ 4096
    → fed_all r piece ≡ Err fault → HasStopped race a c fault
no_further race a b c r piece fault h came few stops = record {
  before = h.bytes;
  piece = piece;
  few = few;
  comes = comes_more a b c h.bytes piece h.comes came;
  reading = r;
  goes_on = h.leads;
  ends = inl stops;
}

pub came_no_further : (race : Bool) (a b c : Option (List ℕ)) (r : Reading) (piece : List ℕ) (stop : Stop) → HasCome race a b r → Comes b piece c → length piece ≤ 4096
    → Gives {X = Reading} (Err stop) (fed_all r piece) → (fault : ScriptFault)
    → ◌≡◌ {A = Result (Seq NumberedLine) Stop} (Err stop) (Err (stops.Judged fault)) → HasStopped race a c fault
came_no_further race a b c r piece (stops.Judged first) h came few gives fault same =
    subst (λ (f : ScriptFault). HasStopped race a c f) (judged same) (no_further race a b c r piece first h came few gives)
  where
    judged : ◌≡◌ {A = Result (Seq NumberedLine) Stop} (Err (stops.Judged first)) (Err (stops.Judged fault)) → first ≡ fault
    judged e = cc
came_no_further race a b c r piece stops.NoMemory h came few gives fault same = absurd (cc)
came_no_further race a b c r piece stops.ReadFault h came few gives fault same = absurd (cc)

-- the source failed: what had come leads on
pub came_so_far : (race : Bool) (a b c : Option (List ℕ)) (r : Reading) → HasCome race a b r → c ≡ b → LeadsOn race a c
came_so_far race a b c r h same = (r, subst (λ (left : Option (List ℕ)). HasCome race a left r) (sym same) h)
