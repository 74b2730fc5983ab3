-- Laws of the ranges together.
use Rattle.std.proofs.Common.{◌≡◌, ℕ, zero, suc, ◌<◌, true, List, [], ◌∷◌, ◌++◌, length, Some, slice_get, refl, ap, subst, ◌∙◌, arith}
use Rattle.rp_base.specs.declared.ids.CmdId.{CmdId}
use Rattle.rp_request.specs.declared.commands.Payload.{Payload}
use Rattle.rp_request.specs.declared.commands.Command.{Command}
use Rattle.rp_request.specs.declared.items.Place.{Place}
use Rattle.rp_request.specs.declared.items.Record.TheVariants as kept
use Rattle.rp_request.specs.declared.outcomes.Reply.{Reply}
use Rattle.rp_request.specs.Records.{applied}
use Rattle.rp_request.specs.Applied.{AppliedState, command_record, record_of, after, records_of, item}
use Rattle.rp_rangesafe.specs.Attempts.{IsBorn, Success, Refused}
use Rattle.rp_rangesafe.specs.Along.{entry, state}
use Rattle.rp_rangesafe.specs.World.{World, state_at}
use Rattle.rp_rangesafe.specs.Places.{IsReached, IsLater, IsPlace, items_to}
use Rattle.rp_rangesafe.specs.Ranges.{Owner, Nobody, Turned, At, Ranges, IsMade, IsRefusedAt, IsRefused, AreReached, AreLater, IsTheOnePlace, HasNowhere}
use Rattle.rp_rangesafe.proofs.OneRange.{success_is_placed, refused_never}
use Rattle.rp_rangesafe.proofs.Runs.{later_itself}
use Rattle.rp_rangesafe.proofs.Whole.{Whole, Onto, whole_reached, onto_later, later_whole, refused_onto, owner_onto}
use Rattle.rp_rangesafe.proofs.Once.{placed_born, once_over}
use Rattle.rp_rangesafe.proofs.Folds.{one_more}
use Rattle.rp_rangesafe.proofs.Rights.{begin_with}

pub range_reached : (w : Ranges) → AreReached w → (r : ℕ) → IsReached (w.range r)
range_reached w reach r = (whole_reached w reach).reached r

pub range_goes_on : (w : Ranges) → AreReached w → (later : Ranges) → AreLater w later → (r : ℕ) → w.opened r ≡ true
    → (later.opened r ≡ true) × IsLater (w.range r) (later.range r)
range_goes_on w reach later l r o = let k = onto_later w later reach l in (k.opened r o, k.later r o)

pub owner_stays : (w : Ranges) → AreReached w → (later : Ranges) → AreLater w later → (id : CmdId) → IsMade (w.owner id)
    → later.owner id ≡ w.owner id
owner_stays w reach later l id m = owner_onto w later reach l id (w.owner id) refl m

pub one_place_of_all : (w : Ranges) → AreReached w → (range : ℕ) (id : CmdId) (reply : Reply) → ((w.range range).attempt id).stage ≡ Success reply
    → IsTheOnePlace w range id reply
one_place_of_all w reach range id reply e =
    let p = success_is_placed (w.range range) (range_reached w reach range) id reply e in
    record {
      index = p.index;
      command = p.command;
      place = p.place;
      applied = p.applied;
      answers = p.answers;
      only = λ q k x c same_client same_seq t. once_over w reach q range k p.index x id c p.command same_client same_seq t p.place;
    }

one_owner : (o : Owner) (q r : ℕ) → o ≡ At q → o ≡ At r → q ≡ r
one_owner o q r e h = cc

-- an attempt is admitted in one range
pub one_range : (w : Ranges) → AreReached w → (id : CmdId) (q r : ℕ) → IsBorn ((w.range q).attempt id).stage → IsBorn ((w.range r).attempt id).stage → q ≡ r
one_range w reach id q r b c = let h = whole_reached w reach in one_owner (w.owner id) q r (h.owned q id b) (h.owned r id c)

not_turned : (o : Owner) (r : ℕ) → o ≡ Turned → o ≡ At r → ⊥
not_turned o r e h = cc

pub refused_nowhere : (w : Ranges) → AreReached w → (id : CmdId) → IsRefused w id → HasNowhere w id
refused_nowhere w reach id refused later range k c l p = go (w.owner id) refl where
  h : Whole w
  h = whole_reached w reach

  onto : Onto w later
  onto = onto_later w later reach l

  whole : Whole later
  whole = later_whole w later reach l

  at : later.owner id ≡ At range
  at = whole.owned range id (placed_born (later.range range) (whole.reached range) id k c p)

  still : (o : Owner) → w.owner id ≡ o → IsRefusedAt later id o
  still o e = subst (IsRefusedAt later id) e (refused_onto w later h onto id (w.owner id) refused)

  go : (o : Owner) → w.owner id ≡ o → ⊥
  go Nobody e = subst (IsRefusedAt w id) e refused
  go Turned e = not_turned (later.owner id) range (owner_onto w later reach l id Turned e tt) at
  go (At r) e =
      let same : later.owner id ≡ At r = owner_onto w later reach l id (At r) e tt in
      let one : r ≡ range = one_owner (later.owner id) r range same at in
      refused_never (later.range range) (whole.reached range) id (subst (λ z. ((later.range z).attempt id).stage ≡ Refused) one (still (At r) e))
      (later.range range) k c (later_itself (later.range range)) p

-- the record of each entry
pub record_at : (b : AppliedState) (log : List Payload) (k : ℕ) → k < length log → slice_get (records_of b log) k ≡ Some (record_of (state b (entry log) k) (entry log k))
record_at b [] k l = absurd (omega arith)
record_at b (p ∷ ps) zero l = refl
record_at b (p ∷ ps) (suc k) l = record_at (after b p) ps k (omega arith) ∙ ap (λ s. Some (record_of s (entry ps k))) (behind k) where
  behind : (i : ℕ) → state (after b p) (entry ps) i ≡ state b (entry (p ∷ ps)) (suc i)
  behind zero = refl
  behind (suc i) = ap (λ s. after s (entry ps i)) (behind i)

taken_record : (w : World) (id : CmdId) (k : ℕ) (c : Command) → IsPlace w id k c → record_of (state_at w k) (entry w.log k) ≡ kept.Took (item (state_at w k).desc c)
taken_record w id k c p = ap (record_of (state_at w k)) p.takes.here ∙ ap (command_record (state_at w k).desc c) p.takes.taken

pub place_recorded : (w : World) (id : CmdId) (k : ℕ) (c : Command) → IsPlace w id k c
    → slice_get (records_of w.start w.log) k ≡ Some (kept.Took (item (state_at w k).desc c))
place_recorded w id k c p = record_at w.start w.log k p.within ∙ ap Some (taken_record w id k c p)

behind_front : (xs ys : List Place) (y : Place) → slice_get ((xs ++ y ∷ []) ++ ys) (length xs) ≡ Some y
behind_front [] ys y = refl
behind_front (x ∷ xs) ys y = behind_front xs ys y

-- the item of a place stands in the applied list, behind the items of the entries before
pub place_listed : (w : World) (id : CmdId) (k : ℕ) (c : Command) → IsPlace w id k c
    → slice_get (items_to w (length w.log)) (length (items_to w k)) ≡ Some (item (state_at w k).desc c)
place_listed w id k c p =
    let l = p.within in
    let rest = begin_with w (suc k) (length w.log) (omega arith) (omega arith) in
    let more : items_to w (suc k) ≡ items_to w k ++ item (state_at w k).desc c ∷ [] =
    one_more w.start w.log k l ∙ ap (λ r. items_to w k ++ applied (r ∷ [])) (taken_record w id k c p) in
    ap (λ xs. slice_get xs (length (items_to w k))) (rest.1 ∙ ap (λ xs. xs ++ rest.0) more)
    ∙ behind_front (items_to w k) rest.0 (item (state_at w k).desc c)
