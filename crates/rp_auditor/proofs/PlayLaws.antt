-- A request that is played leaves what its effect leaves.
use Rattle.std.proofs.Common.{◌≡◌, ◌≢◌, arith, ℕ, Bool, true, false, List, Option, None, Some, Result, Ok, Err, IsSome, IsOk, refl, sym, ap, ap₂, subst, ◌∙◌}
use Rattle.std.specs.Prelude.{IfOk, ◌==◌}
use Rattle.std.proofs.lemmas.Bool.Decides.{nat_tests}
use Rattle.rp_base.specs.declared.memory.NoMemory.{NoMemory}
use Rattle.rp_base.specs.declared.ids.CmdId.{CmdId}
use Rattle.rp_eval.specs.Faults.{refusal_of}
use Rattle.rp_eval.specs.declared.evaluations.EvalFault.{EvalFault}
use Rattle.rp_reread.specs.declared.reports.RangeRead.{RangeRead}
use Rattle.rp_request.specs.Starts.{left_range}
use Rattle.rp_request.specs.declared.items.Place.{Place}
use Rattle.rp_request.specs.declared.items.Place.TheVariants as places
use Rattle.rp_request.specs.declared.outcomes.Reply.TheVariants.{Range}
use Rattle.rp_base.specs.Gives.{Fails}
use Rattle.rp_base.specs.Splits.{split_of}
use Rattle.rp_base.specs.Tables.{Table, below, from_on}
use Rattle.rp_base.specs.declared.leases.Lease.{Lease}
use Rattle.rp_base.specs.declared.ranges.Desc.{Desc}
use Rattle.rp_base.specs.declared.ranges.SplitFault.{SplitFault}
use Rattle.rp_base.specs.declared.ranges.SplitFault.TheVariants as faults
use Rattle.rp_request.specs.Batches.{after_batch, batch_of}
use Rattle.rp_request.specs.Effect.{Effect, effect, split}
use Rattle.rp_request.specs.Evaluations.{Does, with_batch}
use Rattle.rp_request.specs.Items.{State, after_request, after_item}
use Rattle.rp_request.specs.declared.commands.Op.{Op}
use Rattle.rp_request.specs.declared.evaluations.Evaluated.{Evaluated}
use Rattle.rp_request.specs.declared.outcomes.Refusal.{Refusal}
use Rattle.rp_request.specs.declared.outcomes.Reply.{Reply}
use Rattle.rp_request.specs.declared.requests.Request.{Request}
use Rattle.rp_request.specs.declared.requests.Request.TheVariants.{Put, Add, CPut, Del, Wipe, Move, Split}
use Rattle.rp_request.proofs.Locality.{keeps_desc}
use Rattle.rp_auditor.specs.Starts.{right_part, right_state, start_step, entries_of}
use Rattle.rp_auditor.proofs.Walks.{none_split_off}
use Rattle.rp_auditor.specs.Playing.{Plays, Takes, Answers, replies_so, is_told, left_of, desc_after, HasParts}

-- a refusal is one of the effect
by_refusal : (o : Option Refusal) (ops : List Op) (e : Result Effect Refusal) → IsSome o → Fails o (with_batch ops e)
    → (why : Refusal) × (e ≡ Err why)
by_refusal None ops e some h = absurd cc
by_refusal (Some why) ops (Ok left) some h = cc
by_refusal (Some why) ops (Err other) some h = (other, refl)

pub refused_so : (s : State) (r : Request) (o : Option Refusal) (t : State) → IsSome o
    → Fails o (with_batch (batch_of s.table r) (effect s.table s.desc r)) → Plays s r None t
refused_so s r o t some h = by_refusal o (batch_of s.table r) (effect s.table s.desc r) some h

-- a split that takes effect has its parts
parts_there : (t : Table) (key : ℕ) (x : Result (Desc × Desc) SplitFault) (left : Effect) → split t key x ≡ Ok left → IsOk x
parts_there t key (Ok parts) left h = refl
parts_there t key (Err faults.NotInside) left h = cc
parts_there t key (Err (faults.SplitLimit level)) left h = cc

has_parts_by : (t : Table) (d : Desc) (r : Request) (left : Effect) → effect t d r ≡ Ok left → HasParts d r
has_parts_by t d (Split key) left h = parts_there t key (split_of d key) left h
has_parts_by t d r left h = tt

pub has_parts : (t : Table) (d : Desc) (r : Request) (e : Evaluated) → Does t d r e → HasParts d r
has_parts t d r e does = has_parts_by t d r does.left does.takes

-- the description that an effect leaves
left_there : (t : Table) (d : Desc) (key : ℕ) (x : Result (Desc × Desc) SplitFault) (left : Effect) → split t key x ≡ Ok left → left_of d x ≡ left.desc
left_there t d key (Ok parts) left h = let e = h in let P : Result Effect Refusal → Type 0 = λ y. IfOk y (λ l. parts.0 ≡ l.desc) in subst P e refl
left_there t d key (Err faults.NotInside) left h = cc
left_there t d key (Err (faults.SplitLimit level)) left h = cc

kept_desc : (d : Desc) (x : Result Effect Refusal) (left : Effect) → IfOk x (λ e. e.desc ≡ d) → x ≡ Ok left → d ≡ left.desc
kept_desc d x left i h = let P : Result Effect Refusal → Type 0 = λ y. IfOk y (λ e. e.desc ≡ d) in sym (subst P h i)

desc_left : (t : Table) (d : Desc) (r : Request) (left : Effect) → effect t d r ≡ Ok left → desc_after d r ≡ left.desc
desc_left t d (Split key) left h = left_there t d key (split_of d key) left h
desc_left t d (Put key value) left h = kept_desc d _ left (keeps_desc t d (Put key value) refl) h
desc_left t d (Add key by) left h = kept_desc d _ left (keeps_desc t d (Add key by) refl) h
desc_left t d (CPut key expect value) left h = kept_desc d _ left (keeps_desc t d (CPut key expect value) refl) h
desc_left t d (Del key) left h = kept_desc d _ left (keeps_desc t d (Del key) refl) h
desc_left t d (Wipe span) left h = kept_desc d _ left (keeps_desc t d (Wipe span) refl) h
desc_left t d (Move from to by) left h = kept_desc d _ left (keeps_desc t d (Move from to by) refl) h

-- what a batch and the description after it make of a state is what the effect makes
pub played : (s : State) (r : Request) (e : Evaluated) (new : State) → Does s.table s.desc r e
    → new ≡ record { table = after_batch s.table r e.batch; desc = desc_after s.desc r; lease = s.lease }
    → Plays s r (Some e.reply) new
played s r e new does is = (
  does.left,
  does.takes,
  does.reply,
  is ∙ ap (λ t. record { table = t; desc = desc_after s.desc r; lease = s.lease }) does.table
      ∙ ap (λ d. record { table = does.left.table; desc = d; lease = s.lease }) (desc_left s.table s.desc r does.left does.takes),
)

pub takes_played : (s : State) (r : Request) (reply : Reply) (t : State) → Plays s r (Some reply) t → after_request s r ≡ Some t
takes_played s r reply t (e, is, told, new) = rw is (ap Some (sym new))

pub takes_refused : (s : State) (r : Request) (t : State) → Plays s r None t → after_request s r ≡ None
takes_refused s r t (why, is) = rw is refl

pub answers_played : (s : State) (r : Request) (reply told : Reply) (t : State) (so : Bool) → Plays s r (Some reply) t → so ≡ is_told reply told
    → (replies_so (effect s.table s.desc r) told ≡ so) × (so ≡ true → after_request s r ≡ Some t)
answers_played s r reply told t so (e, is, same, new) judged =
    (ap (λ x. replies_so x told) is ∙ ap (λ x. is_told x told) (sym same) ∙ sym judged, λ yes. takes_played s r reply t (e, is, same, new))

pub answers_refused : (s : State) (r : Request) (told : Reply) (t : State) → Plays s r None t
    → (replies_so (effect s.table s.desc r) told ≡ false) × (false ≡ true → after_request s r ≡ Some t)
answers_refused s r told t (why, is) = (ap (λ x. replies_so x told) is, λ yes. cc)

-- a state, field by field
same_state : (t u : Table) (d e : Desc) (l : Lease) → t ≡ u → d ≡ e
    → ◌≡◌ {A = State} (record { table = t; desc = d; lease = l }) (record { table = u; desc = e; lease = l })
same_state t u d e l table desc = ap₂ (λ x y. record { table = x; desc = y; lease = l }) table desc

-- the left part of a split, as the code makes it
pub cut_so : (s now : State) (key : ℕ) (new : Table) (parts : Desc × Desc) → s ≡ now → new ≡ below s.table key → Ok parts ≡ split_of s.desc key
    → ◌≡◌ {A = State} (record { table = new; desc = parts.0; lease = s.lease }) (record { table = below now.table key; desc = desc_after now.desc (Split key); lease = now.lease })
cut_so s now key new parts is table parted =
    let P : State → Type 0 = λ x. ◌≡◌ {A = State} (record { table = new; desc = parts.0; lease = s.lease }) (record { table = below x.table key; desc = desc_after x.desc (Split key); lease = x.lease }) in
    subst P is (same_state new (below s.table key) parts.0 (desc_after s.desc (Split key)) s.lease table (ap (left_of s.desc) parted))

-- and the right part
pub right_so : (s now : State) (key : ℕ) (new : Table) (parts : Desc × Desc) → s ≡ now → new ≡ from_on s.table key → Ok parts ≡ split_of s.desc key
    → ◌≡◌ {A = Option State} (Some (record { table = new; desc = parts.1; lease = s.lease })) (right_state key now)
right_so s now key new parts is table parted =
    let P : State → Type 0 = λ x. ◌≡◌ {A = Option State} (Some (record { table = new; desc = parts.1; lease = s.lease })) (right_state key x) in
    subst P is (ap Some (same_state new (from_on s.table key) parts.1 parts.1 s.lease table refl) ∙ ap (right_part s key) parted)

-- the same, where the state is seen through what holds it
pub played_in : (s now : State) (r : Request) (e : Evaluated) (ops : List Op) (new : State) → s ≡ now → Does s.table s.desc r e → ops ≡ e.batch
    → new ≡ record { table = after_batch now.table r ops; desc = desc_after now.desc r; lease = now.lease } → Plays now r (Some e.reply) new
played_in s now r e ops new is does same left =
    let P : State → Type 0 = λ x. Does x.table x.desc r e in
    played now r e new (subst P is does)
    (left ∙ ap (λ o. record { table = after_batch now.table r o; desc = desc_after now.desc r; lease = now.lease }) same)

pub refused_in : (s now new : State) (r : Request) (f : EvalFault) (res : Result (Option Reply) NoMemory) → s ≡ now
    → Fails (refusal_of f) (with_batch (batch_of s.table r) (effect s.table s.desc r))
    → IfOk res (λ o. (o ≡ None) × IsSome (refusal_of f)) → IfOk res (λ o. Plays now r o new)
refused_in s now new r f (Ok None) is fails (none, some) =
    let P : State → Type 0 = λ x. Fails (refusal_of f) (with_batch (batch_of x.table r) (effect x.table x.desc r)) in
    refused_so now r (refusal_of f) new some (subst P is fails)
refused_in s now new r f (Ok (Some reply)) is fails (none, some) = cc
refused_in s now new r f (Err e) is fails h = tt

-- a split's item
pub answers_split : (s t : State) (item : Place) (id : CmdId) (key right seq : ℕ) (res : Result Bool NoMemory) → item ≡ places.Split id key right seq
    → IfOk res (λ so. (replies_so (effect s.table s.desc (Split key)) (Range right) ≡ so) × (so ≡ true → after_request s (Split key) ≡ Some t))
    → IfOk res (λ so. Answers s item so t)
answers_split s t item id key right seq (Ok so) is (told, taken) =
    subst (λ x. Answers s x so t) (sym is) (record { told = told; taken = taken })
answers_split s t item id key right seq (Err e) is h = tt

pub takes_split : (s t : State) (item : Place) (id : CmdId) (key right seq : ℕ) (res : Result Bool NoMemory) → item ≡ places.Split id key right seq
    → IfOk res (λ taken. Takes (after_request s (Split key)) taken t) → IfOk res (λ taken. Takes (after_item s item) taken t)
takes_split s t item id key right seq (Ok taken) is h = subst (λ x. Takes (after_item s x) taken t) (sym is) h
takes_split s t item id key right seq (Err e) is h = tt

pub takes_none : (o : Option State) (b : Bool) (t : State) → Takes o b t → b ≡ false → o ≡ None
takes_none o true t h is = cc
takes_none o false t h is = h

pub takes_some : (o : Option State) (b : Bool) (t : State) → Takes o b t → b ≡ true → o ≡ Some t
takes_some o true t h is = h
takes_some o false t h is = cc

-- a range other than the first does not start where the range before it does not
pub start_none : (ranges : List RangeRead) (range : ℕ) (left : Option State) → range ≢ 0 → left ≡ None → None ≡ start_step ranges range left
start_none ranges range left other is =
    let past : (range == 0) ≡ false = grind (arith, nat_tests) in
    rw (past, is) (sym (none_split_off range (entries_of ranges (left_range range))))
