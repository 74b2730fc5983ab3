-- The fold of requests that are evaluated again is the fold of the batches.
use Rattle.std.proofs.Common.{◌≡◌, ℕ, zero, suc, ◌<◌, ◌≤◌, IfOk, List, [], ◌∷◌, ◌++◌, length, take, Option, Some, None, option_and_then, Result, Ok, Err, refl, sym, ap, subst, ◌∙◌, arith}
use Rattle.std.proofs.Math.Seq.{take-suc}
use Rattle.std.proofs.lemmas.List.Elements.{filter_map-append}
use Rattle.rp_base.specs.Splits.{split_of}
use Rattle.rp_base.specs.declared.ranges.Desc.{Desc}
use Rattle.rp_base.specs.declared.ranges.SplitFault.{SplitFault}
use Rattle.rp_base.specs.declared.ranges.SplitFault.TheVariants.{NotInside, SplitLimit}
use Rattle.rp_base.specs.declared.leases.Lease as leases
use Rattle.rp_request.specs.declared.commands.Payload.{Payload}
use Rattle.rp_request.specs.declared.commands.Payload.TheVariants.{Nothing, Write, Lease}
use Rattle.rp_request.specs.declared.commands.Command.{Command}
use Rattle.rp_request.specs.declared.outcomes.Refusal.{Refusal}
use Rattle.rp_request.specs.declared.requests.Request.{Request}
use Rattle.rp_request.specs.declared.requests.Request.TheVariants.{Put, Add, CPut, Del, Wipe, Move, Split}
use Rattle.rp_base.specs.Tables.{Table}
use Rattle.rp_request.specs.Effect.{Effect, effect, split}
use Rattle.rp_request.specs.Items.{State, left_by, after_request, after_item, fold}
use Rattle.rp_request.specs.Records.{item_of, applied}
use Rattle.rp_request.proofs.Locality.{keeps_desc}
use Rattle.rp_request.proofs.Folds.{fold_further}
use Rattle.rp_request.specs.Evaluations.{Does}
use Rattle.rp_request.proofs.Does.{evaluated_does}
use Rattle.rp_request.specs.Applied.{AppliedState, command_verdict, asked, written, leased, taken, after, desc_after, left_of, item_by, command_record, ask_record, record_of, after_all, records_of}
use Rattle.rp_request.specs.declared.verdicts.Verdict.{Verdict}
use Rattle.rp_request.specs.declared.verdicts.Verdict.TheVariants.{Took, OldLease, OldIndex, LeaseMoved}
use Rattle.rp_request.specs.declared.verdicts.Verdict.TheVariants as verdicts
use Rattle.rp_request.proofs.Numbers.{after_further, records_further}
use Rattle.rp_rangesafe.specs.Along.{entry, state, Takes}
use Rattle.rp_rangesafe.specs.World.{World, state_at, IsEvaluated}
use Rattle.rp_rangesafe.specs.Places.{items_to, body_of}
use Rattle.rp_request.specs.States.{shown}

-- the state after so many entries, by the list
pub state_is : (b : AppliedState) (log : List Payload) (i : ℕ) → i ≤ length log → after_all b (take i log) ≡ state b (entry log) i
state_is b log zero l = refl
state_is b log (suc i) l =
    ap (after_all b) (take-suc log i Nothing (omega arith))
    ∙ after_further b (take i log) (entry log i ∷ [])
    ∙ ap (λ s. after s (entry log i)) (state_is b log i (omega arith))

-- the items of one entry more
pub one_more : (b : AppliedState) (log : List Payload) (i : ℕ) → i < length log
    → applied (records_of b (take (suc i) log)) ≡ applied (records_of b (take i log)) ++ applied (record_of (state b (entry log) i) (entry log i) ∷ [])
one_more b log i l =
    ap (λ ps. applied (records_of b ps)) (take-suc log i Nothing l)
    ∙ ap applied (records_further b (take i log) (entry log i ∷ []))
    ∙ filter_map-append item_of (records_of b (take i log)) (records_of (after_all b (take i log)) (entry log i ∷ []))
    ∙ ap (λ s. applied (records_of b (take i log)) ++ applied (record_of s (entry log i) ∷ [])) (state_is b log i (omega arith))

-- the item of a command does what its request does
item_does : (s : State) (d : Desc) (c : Command) (r : Request) → after_item s (item_by d c r) ≡ after_request s r
item_does s d c (Put key value) = refl
item_does s d c (Add key by) = refl
item_does s d c (CPut key expect value) = refl
item_does s d c (Del key) = refl
item_does s d c (Wipe span) = refl
item_does s d c (Move from to by) = refl
item_does s d c (Split key) = refl

split_desc : (t : Table) (key : ℕ) (d : Desc) (x : Result (Desc × Desc) SplitFault) → IfOk (split t key x) (λ (e : Effect). e.desc ≡ left_of d x)
split_desc t key d (Ok parts) = refl
split_desc t key d (Err NotInside) = tt
split_desc t key d (Err (SplitLimit level)) = tt

-- the description that an effect leaves
effect_desc : (t : Table) (d : Desc) (r : Request) → IfOk (effect t d r) (λ (e : Effect). e.desc ≡ desc_after d r)
effect_desc t d (Put key value) = keeps_desc t d (Put key value) refl
effect_desc t d (Add key by) = keeps_desc t d (Add key by) refl
effect_desc t d (CPut key expect value) = keeps_desc t d (CPut key expect value) refl
effect_desc t d (Del key) = keeps_desc t d (Del key) refl
effect_desc t d (Wipe span) = keeps_desc t d (Wipe span) refl
effect_desc t d (Move from to by) = keeps_desc t d (Move from to by) refl
effect_desc t d (Split key) = split_desc t key d (split_of d key)

-- what is evaluated on a state does there what its effect does
pub does_on : (s : AppliedState) (c : Command) → IsEvaluated s (body_of c) → Does s.table s.desc c.request (record { batch = c.batch; reply = c.reply })
does_on s c h = evaluated_does s.table s.desc c.request (record { batch = c.batch; reply = c.reply }) h.evaluation

-- the request, evaluated again, leaves what the batch does
taken_again : (s : AppliedState) (c : Command) → IsEvaluated s (body_of c) → after_request (shown s) c.request ≡ Some (shown (taken s c))
taken_again s c h =
    let does = does_on s c h in
    let desc : does.left.desc ≡ desc_after s.desc c.request =
    subst (λ (x : Result Effect Refusal). IfOk x (λ (e : Effect). e.desc ≡ desc_after s.desc c.request)) does.takes (effect_desc s.table s.desc c.request) in
    let same : ◌≡◌ {A = State} (record { table = does.left.table; desc = does.left.desc; lease = s.lease }) (shown (taken s c)) =
    λ i. record { table = sym does.table i; desc = desc i; lease = s.lease } in
    ap (left_by (shown s)) does.takes ∙ ap Some same

fold_one : (s : AppliedState) (p : Payload) → ((c : Command) → p ≡ Write c → command_verdict s c ≡ Took → IsEvaluated s (body_of c))
    → fold (shown s) (applied (record_of s p ∷ [])) ≡ Some (shown (after s p))
fold_one s Nothing h = refl
fold_one s (Write c) h = go (command_verdict s c) refl where
  go : (v : Verdict) → command_verdict s c ≡ v → fold (shown s) (applied (command_record s.desc c v ∷ [])) ≡ Some (shown (written s c v))
  go Took e = ap (option_and_then (λ t. fold t [])) (item_does (shown s) s.desc c c.request ∙ taken_again s c (h c refl e))
  go (OldLease now) e = refl
  go (OldIndex lai) e = refl
  go LeaseMoved e = refl
  go verdicts.Nothing e = refl
fold_one s (Lease ask) h = go (asked s ask) where
  go : (o : Option leases.Lease) → fold (shown s) (applied (ask_record o ∷ [])) ≡ Some (shown (leased s o))
  go (Some lease) = refl
  go None = refl

-- the fold of the items is the state
pub fold_is_state : (w : World) → ((k : ℕ) (c : Command) → k < length w.log → Takes w.start (entry w.log) k c → IsEvaluated (state_at w k) (body_of c))
    → (i : ℕ) → i ≤ length w.log → fold (shown w.start) (items_to w i) ≡ Some (shown (state_at w i))
fold_is_state w h zero l = refl
fold_is_state w h (suc i) l =
    ap (fold (shown w.start)) (one_more w.start w.log i (omega arith))
    ∙ fold_further (shown w.start) (items_to w i) (applied (record_of (state_at w i) (entry w.log i) ∷ []))
    ∙ ap (option_and_then (λ t. fold t (applied (record_of (state_at w i) (entry w.log i) ∷ [])))) (fold_is_state w h i (omega arith))
    ∙ fold_one (state_at w i) (entry w.log i) (λ c e v. h i c (omega arith) (record { here = e; taken = v }))

pub state_of_entries : (w : World) (i : ℕ) → i ≤ length w.log → state_at w i ≡ after_all w.start (take i w.log)
state_of_entries w i l = sym (state_is w.start w.log i l)
