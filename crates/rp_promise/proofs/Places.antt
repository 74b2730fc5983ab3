-- What an item of a range's list says, and which entry it is of.
use Rattle.std.proofs.Common.{◌≡◌, ℕ, zero, suc, ◌<◌, ◌≤◌, ◌⊎◌, inl, inr, ⊎_elim, Option, None, Some, Result, Ok, Err, [], ◌∷◌, ◌++◌, length, refl, sym, ap, ◌∙◌, arith, append-nil}
use Rattle.std.proofs.lemmas.Option.{none-some}
use Rattle.std.specs.Prelude.{slice_get}
use Rattle.rp_base.specs.Splits.{split_of}
use Rattle.rp_base.specs.Tables.{Table, below}
use Rattle.rp_base.specs.declared.ids.CmdId.{CmdId}
use Rattle.rp_base.specs.declared.leases.Lease as leases
use Rattle.rp_base.specs.declared.leases.LeaseAsk.{LeaseAsk}
use Rattle.rp_base.specs.declared.ranges.Desc.{Desc}
use Rattle.rp_base.specs.declared.ranges.SplitFault.{SplitFault}
use Rattle.rp_base.specs.declared.ranges.SplitFault.TheVariants as faults
use Rattle.rp_base.proofs.SplitLaws.{parts}
use Rattle.rp_request.specs.Applied.{AppliedState, command_verdict, asked, item, item_by, command_record, ask_record, record_of, right_number}
use Rattle.rp_request.specs.Effect.{Effect, effect, split}
use Rattle.rp_request.specs.Evaluations.{Does}
use Rattle.rp_request.specs.Records.{applied}
use Rattle.rp_request.specs.declared.commands.Command.{Command}
use Rattle.rp_request.specs.declared.commands.Payload.{Payload}
use Rattle.rp_request.specs.declared.commands.Payload.TheVariants as payloads
use Rattle.rp_request.specs.declared.items.Place.{Place}
use Rattle.rp_request.specs.declared.items.Place.TheVariants as places
use Rattle.rp_request.specs.declared.items.Record.{Record}
use Rattle.rp_request.specs.declared.items.Record.TheVariants.{Took, Passed}
use Rattle.rp_request.specs.declared.outcomes.Refusal.{Refusal}
use Rattle.rp_request.specs.declared.outcomes.Reply.TheVariants as replies
use Rattle.rp_request.specs.declared.requests.Request.{Request}
use Rattle.rp_request.specs.declared.requests.Request.TheVariants.{Put, Add, CPut, Del, Wipe, Move, Split}
use Rattle.rp_request.specs.declared.verdicts.Verdict.{Verdict}
use Rattle.rp_request.specs.declared.verdicts.Verdict.TheVariants as verdicts
use Rattle.rp_rangesafe.specs.Along.{entry}
use Rattle.rp_rangesafe.specs.World.{World, state_at}
use Rattle.rp_rangesafe.specs.Places.{IsReached, IsPlace, items_to}
use Rattle.rp_rangesafe.proofs.Folds.{one_more}
use Rattle.rp_rangesafe.proofs.OneRange.{effect_at_place}
use Rattle.rp_events.specs.Lists.{Claim, claim_of}
use Rattle.rp_promise.specs.Records.{record_at}
use Rattle.rp_promise.proofs.Scenes.{get_push}
use Rattle.rp_promise.proofs.Somes.{some_is}

-- what a command says
abbrev pub claim_by : Command → Claim
claim_by c = record { id = c.id; request = c.request; seq = c.seq; reply = c.reply }

-- what the item of a command says: of a split with the number of the right part as its reply
claims : (d : Desc) (c : Command) (r : Request) → ((key : ℕ) → r ≡ Split key → c.reply ≡ replies.Range (right_number d))
    → claim_of (item_by d c r) ≡ Some (record { id = c.id; request = r; seq = c.seq; reply = c.reply })
claims d c (Put key value) h = refl
claims d c (Add key by) h = refl
claims d c (CPut key expect value) h = refl
claims d c (Del key) h = refl
claims d c (Wipe span) h = refl
claims d c (Move from to by) h = refl
claims d c (Split key) h = ap (λ z. Some (record { id = c.id; request = Split key; seq = c.seq; reply = z })) (sym (h key refl))

-- the reply of a split that takes effect
split_reply : (t : Table) (d : Desc) (key : ℕ) (left : Effect) → effect t d (Split key) ≡ Ok left → left.reply ≡ replies.Range (right_number d)
split_reply t d key left = go (split_of d key) refl where
  ok_is : (a b : Effect) → ◌≡◌ {A = Result Effect Refusal} (Ok a) (Ok b) → a ≡ b
  ok_is a b e = cc

  go : (x : Result (Desc × Desc) SplitFault) → split_of d key ≡ x → split t key x ≡ Ok left → left.reply ≡ replies.Range (right_number d)
  go (Ok both) is e =
      ap (λ (z : Effect). z.reply) (sym (ok_is (record { table = below t key; desc = both.0; reply = replies.Range both.1.id }) left e))
      ∙ ap replies.Range (parts d key both.0 both.1 is).right_id
  go (Err faults.NotInside) is e = absurd cc
  go (Err (faults.SplitLimit level)) is e = absurd cc

module _ (h : World) (reached : IsReached h) (id : CmdId) (k : ℕ) (c : Command) (p : IsPlace h id k c) where
  pub does : Does (state_at h k).table (state_at h k).desc c.request (record { batch = c.batch; reply = c.reply })
  does = effect_at_place h reached id k c p

  splits_reply : (key : ℕ) → c.request ≡ Split key → c.reply ≡ replies.Range (right_number (state_at h k).desc)
  splits_reply key e = does.reply ∙ split_reply (state_at h k).table (state_at h k).desc key does.left (ap (effect (state_at h k).table (state_at h k).desc) (sym e) ∙ does.takes)

  -- the item of a place says what its command says
  pub place_says : claim_of (item (state_at h k).desc c) ≡ Some (claim_by c)
  place_says = claims (state_at h k).desc c c.request splits_reply

  -- the record of a place
  pub place_record : record_at h k ≡ Took (item (state_at h k).desc c)
  place_record =
      ap (record_of (state_at h k)) p.takes.here
      ∙ ap (command_record (state_at h k).desc c) p.takes.taken

-- an item is that of one entry, behind the items of the entries before
pub record ItemAt (h : World) (n j : ℕ) (x : Place) : Type 0 where
  pub index : ℕ
  pub below : index < n
  pub is : record_at h index ≡ Took x
  pub at : j ≡ length (items_to h index)

pub item_at : (h : World) (n : ℕ) → n ≤ length h.log → (j : ℕ) (x : Place) → slice_get (items_to h n) j ≡ Some x → ItemAt h n j x
item_at h zero le j x e = absurd (none-some x e)
item_at h (suc n) le j x e = go (record_at h n) refl (λ f. wider (item_at h n (omega (arith, le)) j x f)) (sym (ap (λ xs. slice_get xs j) (one_more h.start h.log n (omega (arith, le)))) ∙ e) where
  wider : ItemAt h n j x → ItemAt h (suc n) j x
  wider i = record { index = i.index; below = let lt = i.below in omega (arith, lt); is = i.is; at = i.at }

  go : (r : Record) → record_at h n ≡ r → (slice_get (items_to h n) j ≡ Some x → ItemAt h (suc n) j x) → slice_get (items_to h n ++ applied (r ∷ [])) j ≡ Some x → ItemAt h (suc n) j x
  go (Took y) is before f = ⊎_elim before
      (λ (last : (j ≡ length (items_to h n)) × (x ≡ y)). record { index = n; below = omega arith; is = is ∙ ap Took (sym last.1); at = last.0 })
      (get_push (items_to h n) y j x f)
  go (Passed why) is before f = before (ap (λ xs. slice_get xs j) (sym (append-nil (items_to h n))) ∙ f)

-- which payload leaves the record of a taken item: a command that is taken, or an ask
pub record TakenCommand (s : AppliedState) (p : Payload) (x : Place) : Type 0 where
  pub command : Command
  pub here : p ≡ payloads.Write command
  pub took : command_verdict s command ≡ verdicts.Took
  pub is : item s.desc command ≡ x

pub record TakenAsk (s : AppliedState) (p : Payload) (x : Place) : Type 0 where
  pub ask : LeaseAsk
  pub lease : leases.Lease
  pub here : p ≡ payloads.Lease ask
  pub is : places.Lease lease ≡ x

took_is : (x y : Place) → ◌≡◌ {A = Record} (Took x) (Took y) → x ≡ y
took_is x y e = cc

pub taken_by : (s : AppliedState) (p : Payload) (x : Place) → record_of s p ≡ Took x → TakenCommand s p x ⊎ TakenAsk s p x
taken_by s payloads.Nothing x e = absurd cc
taken_by s (payloads.Write c) x e = go (command_verdict s c) refl e where
  go : (v : Verdict) → command_verdict s c ≡ v → command_record s.desc c v ≡ Took x → TakenCommand s (payloads.Write c) x ⊎ TakenAsk s (payloads.Write c) x
  go verdicts.Took is f = inl (record { command = c; here = refl; took = is; is = took_is (item s.desc c) x f })
  go (verdicts.OldLease now) is f = absurd cc
  go (verdicts.OldIndex lai) is f = absurd cc
  go verdicts.LeaseMoved is f = absurd cc
  go verdicts.Nothing is f = absurd cc
taken_by s (payloads.Lease ask) x e = go (asked s ask) e where
  go : (o : Option leases.Lease) → ask_record o ≡ Took x → TakenCommand s (payloads.Lease ask) x ⊎ TakenAsk s (payloads.Lease ask) x
  go (Some lease) f = inr (record { ask = ask; lease = lease; here = refl; is = took_is (places.Lease lease) x f })
  go None f = absurd cc

-- a record that says something of a command is that of a place
pub record PlaceAt (h : World) (k : ℕ) (claim : Claim) : Type 0 where
  pub command : Command
  pub place : IsPlace h command.id k command
  pub says : claim_by command ≡ claim

pub place_at : (h : World) → IsReached h → (k : ℕ) → k < length h.log → (x : Place) (claim : Claim) → record_at h k ≡ Took x → claim_of x ≡ Some claim → PlaceAt h k claim
place_at h reached k lt x claim is says = ⊎_elim
    (λ (t : TakenCommand (state_at h k) (entry h.log k) x).
    let p : IsPlace h t.command.id k t.command = record { within = lt; takes = record { here = t.here; taken = t.took }; named = refl } in
    record {
      command = t.command;
      place = p;
      says = some_is (claim_by t.command) claim (sym (place_says h reached t.command.id k t.command p) ∙ ap claim_of t.is ∙ says);
    })
    (λ (t : TakenAsk (state_at h k) (entry h.log k) x). absurd (none-some claim (ap claim_of t.is ∙ says)))
    (taken_by (state_at h k) (entry h.log k) x is)
