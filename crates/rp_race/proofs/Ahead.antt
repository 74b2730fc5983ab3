-- Lists that have grown, read back; and what a scene writes into the journal.
use Rattle.std.proofs.Common.{◌≡◌, ℕ, zero, suc, ◌+◌, ◌<◌, ◌≤◌, Bool, true, false, ◌||◌, ⊎_elim, Option, None, Some, List, [], ◌∷◌, ◌++◌, length, take, refl, sym, ap, subst, ◌∙◌, arith}
use Rattle.std.specs.Prelude.{slice_get, fold}
use Rattle.std.specs.List.{list_any, AllByRecursion}
use Rattle.std.proofs.lemmas.Bool.{cases_eq}
use Rattle.rp_base.specs.declared.items.Item.{Item}
use Rattle.rp_request.specs.Applied.{AppliedState}
use Rattle.rp_events.specs.declared.journals.JournalEntry.{JournalEntry}
use Rattle.rp_events.specs.declared.journals.PastEvent.{PastEvent}
use Rattle.rp_events.specs.declared.node_events.Event.{Event}
use Rattle.rp_events.specs.declared.node_events.Event.TheVariants as events
use Rattle.rp_events.specs.declared.parcels.Parcel.{Parcel}
use Rattle.rp_events.specs.Lawful.{IsReached}
use Rattle.rp_events.specs.Nodes.{Node, parcel_of, first_node}
use Rattle.rp_events.specs.NodeEvents.{past_of, step}
use Rattle.rp_events.specs.Worlds as worlds
use Rattle.rp_events.specs.Worlds.{World, Happening, Scene, node_of, sent_by, delivery, event_of, taken_in, happens, run, first_world}
use Rattle.rp_journals.specs.Growth.{Begins, Grows, WorldGrows}
use Rattle.rp_journals.proofs.Growing.{Happened, happened, one_node, grows_refl, scene_grows, run_grows}
use Rattle.rp_journals.proofs.Reading.{mapped_some, entry_of, step_journal}
use Rattle.rp_journals.proofs.Writing.{now_is, other_is}
use Rattle.rp_race.specs.Gives.{kept_as}

-- an item of the front is read back
pub get_back : {X : Type 0} (xs more : List X) (i : ℕ) → i < length xs → slice_get (xs ++ more) i ≡ slice_get xs i
get_back [] more i h = absurd (omega (arith, h))
get_back (x ∷ xs) more zero h = refl
get_back (x ∷ xs) more (suc i) h = get_back xs more i (omega (arith, h))

pub begun_back : {X : Type 0} (xs ys : List X) → Begins xs ys → (i : ℕ) → i < length xs → slice_get ys i ≡ slice_get xs i
begun_back xs ys b i h = ap (λ l. slice_get l i) b.is ∙ get_back xs b.more i h

pub parcel_back : (xs ys : List (Parcel AppliedState)) → Begins xs ys → (number : ℕ) (p : Parcel AppliedState) → number ≤ length xs → parcel_of ys number ≡ Some p → parcel_of xs number ≡ Some p
parcel_back xs ys b zero p h e = absurd cc
parcel_back xs ys b (suc place) p h e = sym (begun_back xs ys b place (omega (arith, h))) ∙ e

pub begins_length : {X : Type 0} (xs ys : List X) → Begins xs ys → length xs ≤ length ys
begins_length {X} xs ys b = subst (λ (l : List X). length xs ≤ length l) (sym b.is) (longer xs b.more) where
  longer : (xs more : List X) → length xs ≤ length (xs ++ more)
  longer [] more = omega arith
  longer (x ∷ xs) more = let h = longer xs more in omega (arith, h)

pub all_at_place : {X : Type 0} (P : X → Type 0) (xs : List X) (i : ℕ) (x : X) → AllByRecursion P xs → slice_get xs i ≡ Some x → P x
all_at_place P [] i x h e = absurd cc
all_at_place {X} P (z ∷ xs) zero x h e = subst P (some_is z x e) h.0 where
  some_is : (a b : X) → ◌≡◌ {A = Option X} (Some a) (Some b) → a ≡ b
  some_is a b e' = cc
all_at_place P (z ∷ xs) (suc i) x h e = all_at_place P xs i x h.1 e

-- an item is there exactly below the length
pub there_is : {X Y : Type 0} (xs : List X) (ys : List Y) → length xs ≡ length ys → (i : ℕ) (x : X) → slice_get xs i ≡ Some x → (y : Y) × (slice_get ys i ≡ Some y)
there_is [] ys e i x at = absurd cc
there_is (z ∷ xs) [] e i x at = absurd (omega (arith, e))
there_is (z ∷ xs) (y ∷ ys) e zero x at = (y, refl)
there_is (z ∷ xs) (y ∷ ys) e (suc i) x at = there_is xs ys (omega (arith, e)) i x at

pub node_there : (w v : World) → length w ≡ length v → (node : ℕ) (n : Node) → node_of w node ≡ Some n → (m : Node) × (node_of v node ≡ Some m)
node_there w v e zero n has = absurd cc
node_there w v e (suc place) n has = there_is w v e place n has

pub fold_further : {X Y : Type 0} (f : Y → X → Y) (xs ys : List X) (y : Y) → fold f y (xs ++ ys) ≡ fold f (fold f y xs) ys
fold_further f [] ys y = refl
fold_further f (x ∷ xs) ys y = fold_further f xs ys (f y x)

some_event : (a b : Event AppliedState) → ◌≡◌ {A = Option (Event AppliedState)} (Some a) (Some b) → a ≡ b
some_event a b e = cc

-- how what happens is kept
pub kept_is : (w : World) (n : Node) (what : Happening) (ev : Event AppliedState) → event_of w what ≡ Some ev → past_of n ev (taken_in what) ≡ kept_as n what
kept_is w n (worlds.Admit range id request) ev came = ap (λ e. past_of n e []) (sym (some_event (events.Admit range id request) ev came))
kept_is w n (worlds.Ask range) ev came = ap (λ e. past_of n e []) (sym (some_event (events.Ask range) ev came))
kept_is w n (worlds.Transfer range to) ev came = ap (λ e. past_of n e []) (sym (some_event (events.Transfer range to) ev came))
kept_is w n (worlds.Collect range taken) ev came = ap (λ e. past_of n e taken) (sym (some_event (events.Collect range) ev came))
kept_is w n (worlds.Flush range) ev came = ap (λ e. past_of n e []) (sym (some_event (events.Flush range) ev came))
kept_is w n worlds.Tick ev came = ap (λ e. past_of n e []) (sym (some_event events.Tick ev came))
kept_is w n (worlds.Deliver from number) ev came =
    let x = mapped_some (delivery from number) (parcel_of (sent_by w from) number) ev came in
    ap (λ e. past_of n e []) (sym x.2)
kept_is w n (worlds.Apply range) ev came = ap (λ e. past_of n e []) (sym (some_event (events.Apply range) ev came))
kept_is w n (worlds.Cut range) ev came = ap (λ e. past_of n e []) (sym (some_event (events.Cut range) ev came))
kept_is w n (worlds.Remove range) ev came = ap (λ e. past_of n e []) (sym (some_event (events.Remove range) ev came))
kept_is w n (worlds.Peek range key) ev came = ap (λ e. past_of n e []) (sym (some_event (events.Peek range key) ev came))
kept_is w n worlds.Restart ev came = ap (λ e. past_of n e []) (sym (some_event events.Restart ev came))
kept_is w n worlds.Round ev came = ap (λ e. past_of n e []) (sym (some_event events.Round ev came))

-- a node of the world after a scene was there
pub record WasThere (w : World) (x : Scene) (node : ℕ) (now : Node) : Type 0 where
  pub n : Node
  pub has : node_of w node ≡ Some n
  pub grows : Grows n now

pub was_there : (w : World) (x : Scene) (node : ℕ) (now : Node) → node_of (happens w x) node ≡ Some now → WasThere w x node now
was_there w x node now has =
    let g : WorldGrows w (happens w x) = scene_grows w x in
    let m = node_there (happens w x) w g.size node now has in
    let l = g.each node m.0 m.1 in
    record { n = m.0; has = m.1; grows = subst (Grows m.0) (one_node (happens w x) node l.now now l.has has) l.grows }
