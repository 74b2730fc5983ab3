-- A round, whole or broken off, leaves the clients' tries.
use Rattle.std.proofs.Common.{◌≡◌, ⊎_elim, ℕ, Bool, true, false, List, [], ◌∷◌, refl, ap, ◌∙◌, subst, Option, Some, None}
use Rattle.std.specs.Option.{option_map}
use Rattle.rp_base.specs.declared.items.Item.{Item}
use Rattle.rp_request.specs.Applied.{AppliedState}
use Rattle.rp_clients.specs.Tries.{Try}
use Rattle.rp_events.specs.declared.answers.EventAnswer.{EventAnswer}
use Rattle.rp_events.specs.declared.node_events.Event.{Event}
use Rattle.rp_events.specs.declared.node_events.Event.TheVariants as events
use Rattle.rp_events.specs.declared.parcels.Parcel.{Parcel}
use Rattle.rp_events.specs.Nodes.{Node, parcel_of}
use Rattle.rp_events.specs.NodeEvents.{step, past_of}
use Rattle.rp_events.specs.Worlds.{World, Happening, Admit, Ask, Transfer, Collect, Flush, Tick, Deliver, Apply, Cut, Remove, Peek, Restart, Round, node_of, sent_by, happens, run, event_of, delivery, taken_in}
use Rattle.rp_journals.specs.Asked.{all_at}
use Rattle.rp_journals.specs.Entries.{at_node}
use Rattle.rp_journals.proofs.Growing.{happened, with_same, one_node}
use Rattle.rp_journals.proofs.Reading.{entry_of, step_journal}
use Rattle.rp_race.specs.declared.rules.RaceRules.{RaceRules}
use Rattle.rp_race.specs.Gives.{AllMayHappen, is_within_round, after_round}
use Rattle.rp_switch.specs.Gifts.{with_admission}
use Rattle.rp_switch.proofs.Given.{Quiet, quiet_same, quiet_trans}

abbrev is_admit : Event AppliedState → Bool
is_admit (events.Admit range id request) = true
is_admit _ = false

-- an event that is no admission leaves the tries
quiet_event : (n : Node) (e : Event AppliedState) (given : List Item) (node rounds client : ℕ) (answer : EventAnswer) (ts : List Try)
    → is_admit e ≡ false → with_admission node rounds client answer (past_of n e given) ts ≡ ts
quiet_event n (events.Admit range id request) given node rounds client answer ts calm = absurd (cc)
quiet_event n (events.Ask range) given node rounds client answer ts calm = refl
quiet_event n (events.Transfer range to) given node rounds client answer ts calm = refl
quiet_event n (events.Collect range) given node rounds client answer ts calm = refl
quiet_event n (events.Flush range) given node rounds client answer ts calm = refl
quiet_event n events.Tick given node rounds client answer ts calm = refl
quiet_event n (events.Deliver from range number m) given node rounds client answer ts calm = refl
quiet_event n (events.Apply range) given node rounds client answer ts calm = refl
quiet_event n (events.Cut range) given node rounds client answer ts calm = refl
quiet_event n (events.Remove range) given node rounds client answer ts calm = refl
quiet_event n (events.Peek range key) given node rounds client answer ts calm = refl
quiet_event n events.Restart given node rounds client answer ts calm = refl
quiet_event n events.Round given node rounds client answer ts calm = refl

value_or : {A : Type 0} → A → Option A → A
value_or a None = a
value_or a (Some b) = b

unsome : {A : Type 0} (a b : A) → ◌≡◌ {A = Option A} (Some a) (Some b) → a ≡ b
unfolding value_or
unsome a b e = ap (value_or a) e

is_quiet : (a e : Event AppliedState) → is_admit a ≡ false → ◌≡◌ {A = Option (Event AppliedState)} (Some a) (Some e) → is_admit e ≡ false
is_quiet a e calm same = subst (λ x. is_admit x ≡ false) (unsome a e same) calm

delivered_quiet : (from number : ℕ) (o : Option (Parcel AppliedState)) (e : Event AppliedState) → option_map (delivery from number) o ≡ Some e → is_admit e ≡ false
delivered_quiet from number None e came = absurd (cc)
delivered_quiet from number (Some p) e came = is_quiet (delivery from number p) e refl came

within_quiet : (v : World) (x : Happening) (e : Event AppliedState) → is_within_round x ≡ true → event_of v x ≡ Some e → is_admit e ≡ false
within_quiet v (Admit range id request) e within came = absurd (cc)
within_quiet v (Ask range) e within came = is_quiet (events.Ask range) e refl came
within_quiet v (Transfer range to) e within came = is_quiet (events.Transfer range to) e refl came
within_quiet v (Collect range given) e within came = is_quiet (events.Collect range) e refl came
within_quiet v (Flush range) e within came = is_quiet (events.Flush range) e refl came
within_quiet v Tick e within came = is_quiet events.Tick e refl came
within_quiet v (Deliver from number) e within came = delivered_quiet from number (parcel_of (sent_by v from) number) e came
within_quiet v (Apply range) e within came = is_quiet (events.Apply range) e refl came
within_quiet v (Cut range) e within came = is_quiet (events.Cut range) e refl came
within_quiet v (Remove range) e within came = is_quiet (events.Remove range) e refl came
within_quiet v (Peek range key) e within came = is_quiet (events.Peek range key) e refl came
within_quiet v Restart e within came = is_quiet events.Restart e refl came
within_quiet v Round e within came = absurd (cc)

-- one event that is no admission
pub quiet_step : (n : Node) (e : Event AppliedState) (given : List Item) → is_admit e ≡ false → Quiet n (step n e given).node
quiet_step n e given calm = record {
  entries = entry_of n e given ∷ [];
  journal = step_journal n e given;
  none = λ node rounds client ts. quiet_event n e given node rounds client (step n e given).answer ts calm;
}

pub quiet_end : (n : Node) → Quiet n (after_round n)
quiet_end n = quiet_step n events.Round [] refl

-- the inside of a round
pub quiet_part : (rules : RaceRules) (node : ℕ) (xs : List Happening) (v : World) (n later : Node) → AllMayHappen rules node v xs
    → node_of v node ≡ Some n → node_of (run v (all_at node xs)) node ≡ Some later → Quiet n later
quiet_part rules node [] v n later may has leaves = subst (Quiet n) (one_node v node n later has leaves) (quiet_same n)
quiet_part rules node (x ∷ xs) v n later may has leaves = ⊎_elim
    (λ same. quiet_part rules node xs (happens v (at_node node x)) n later may.1 (ap (λ u. node_of u node) same ∙ has) leaves)
    (λ h. let e = h.event in
    let m : Node = (step h.n e (taken_in x)).node in
    let first : Quiet h.n m = quiet_step h.n e (taken_in x) (within_quiet v x e may.0.within h.came) in
    subst (λ (y : Node). Quiet y later) (one_node v node h.n n h.has has)
    (quiet_trans h.n m later first
    (quiet_part rules node xs (happens v (at_node node x)) m later may.1
    (ap (λ u. node_of u node) h.is ∙ with_same v node h.n m h.has) leaves)))
    (happened v (at_node node x))
