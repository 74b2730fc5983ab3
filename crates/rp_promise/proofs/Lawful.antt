-- Places are lawful.
use Rattle.std.proofs.Common.{◌≡◌, ℕ, ◌<◌, ⊎_elim, Some, List, ◌++◌, length, take, refl, sym, ap, subst, ◌∙◌, arith}
use Rattle.std.proofs.lemmas.Option.{none-some}
use Rattle.std.specs.Prelude.{slice_get}
use Rattle.std.proofs.Math.Seq.{take-length}
use Rattle.std.proofs.lemmas.List.{take-append-le}
use Rattle.rp_base.specs.Leases.{Follows}
use Rattle.rp_base.specs.declared.leases.Lease as leases
use Rattle.rp_request.specs.Applied.{AppliedState, record_of}
use Rattle.rp_request.specs.Items.{State, fold}
use Rattle.rp_request.specs.Places.{IsPlaceOf, IsOnceInAll}
use Rattle.rp_request.specs.States.{shown}
use Rattle.rp_request.specs.declared.commands.Command.{Command}
use Rattle.rp_request.specs.declared.items.Place.{Place}
use Rattle.rp_request.specs.declared.items.Place.TheVariants as places
use Rattle.rp_request.proofs.Opened.{item_tells}
use Rattle.rp_raftsafe.specs.World as raft
use Rattle.rp_raftsafe.specs.Safety.{OneList}
use Rattle.rp_base.specs.declared.ids.CmdId.{CmdId}
use Rattle.rp_rangesafe.specs.Along.{entry}
use Rattle.rp_rangesafe.specs.Attempts as stages
use Rattle.rp_rangesafe.specs.World as machine
use Rattle.rp_rangesafe.specs.World.{state_at}
use Rattle.rp_rangesafe.specs.Places.{IsReached, IsPlace, items_to}
use Rattle.rp_rangesafe.specs.Ranges.{Ranges, lists}
use Rattle.rp_rangesafe.proofs.Joint.{range_reached}
use Rattle.rp_rangesafe.proofs.Once.{once_in_all, placed_born}
use Rattle.rp_rangesafe.proofs.OneRange.{fold_is_state, lawful_place, refused_never}
use Rattle.rp_rangesafe.proofs.Rights.{begin_with}
use Rattle.rp_rangesafe.proofs.Runs.{later_itself}
use Rattle.rp_events.specs.Worlds.{World}
use Rattle.rp_journals.proofs.Lists.{get_front}
use Rattle.rp_events.specs.Lists.{Claim, claim_of, IsAdmittedUnder}
use Rattle.rp_events.specs.Promises.{lists_of, IsLawfulPlace, IsLawfulLease, PlacesAreLawful}
use Rattle.rp_promise.specs.Beside.{IsPromising}
use Rattle.rp_promise.proofs.Places.{claim_by, does, ItemAt, item_at, TakenCommand, TakenAsk, taken_by, place_at, place_says}
use Rattle.rp_promise.proofs.Listed.{records, start, lists_are}

-- an attempt with a place was not refused
pub placed_unrefused : (h : machine.World) → IsReached h → (id : CmdId) (i : ℕ) (c : Command) → IsPlace h id i c → (h.attempt id).stage ≡ stages.Refused → ⊥
placed_unrefused h reached id i c p refused = refused_never h reached id refused h i c (later_itself h) p

module _ (one : OneList AppliedState) (w : World) (m : Ranges) (seen : ℕ → List raft.Event) (nodes : ℕ) (k : IsPromising one nodes w m seen) where
  abbrev all : ℕ → List Place
  all = lists_of (records w m k.now.bound.reached k.now.records)

  abbrev starts_at : ℕ → State
  starts_at = start w m k.now.bound.reached k.now.records

  abbrev h_of : ℕ → machine.World
  h_of range = m.range range

  reach : ℕ → ℕ
  reach range = k.now.records.reach range

  all_is : (range : ℕ) → all range ≡ items_to (m.range range) (k.now.records.reach range)
  all_is range = lists_are w m k.now.bound.reached k.now.records range

  -- what has a record begins what is committed
  begins_all : (range : ℕ) → (rest : List Place) × (lists m range ≡ all range ++ rest)
  begins_all range =
      let k' = begin_with (m.range range) (k.now.records.reach range) (length (m.range range).log) (k.now.records.each range).within (omega arith) in
      (k'.0, k'.1 ∙ ap (λ xs. xs ++ k'.0) (sym (all_is range)))

  in_all : (client seq range index : ℕ) → IsPlaceOf all client seq range index → IsPlaceOf (lists m) client seq range index
  in_all client seq range index p =
      let rest = begins_all range in
      record { item = p.item; here = ap (λ xs. slice_get xs index) rest.1 ∙ get_front (all range) rest.0 index p.item p.here; named = p.named }

  once : IsOnceInAll all
  once client seq range index range' index' p q =
      once_in_all m k.now.bound.reached client seq range index range' index' (in_all client seq range index p) (in_all client seq range' index' q)

  module _ (range place : ℕ) (x : Place) (e : slice_get (all range) place ≡ Some x) where
    abbrev h : machine.World
    h = m.range range

    at : ItemAt (m.range range) (k.now.records.reach range) place x
    at = item_at (m.range range) (k.now.records.reach range) (k.now.records.each range).within place x (sym (ap (λ xs. slice_get xs place) (all_is range)) ∙ e)

    in_log : at.index < length (m.range range).log
    in_log = let within = (k.now.records.each range).within in let below = at.below in omega (arith, within, below)

    -- the items before it, and what they make of the start
    before_is : take place (all range) ≡ items_to (m.range range) at.index
    before_is =
        let below = at.below in
        let rest = begin_with (m.range range) at.index (k.now.records.reach range) (omega (arith, below)) (k.now.records.each range).within in
        ap (take place) (all_is range ∙ rest.1)
        ∙ ap (λ i. take i (items_to (m.range range) at.index ++ rest.0)) at.at
        ∙ take-append-le (length (items_to (m.range range) at.index)) (items_to (m.range range) at.index) rest.0 (omega arith)
        ∙ take-length (items_to (m.range range) at.index)

    reached_is : fold (starts_at range) (take place (all range)) ≡ Some (shown (state_at (m.range range) at.index))
    reached_is = ap (fold (starts_at range)) before_is ∙ fold_is_state (m.range range) (range_reached m k.now.bound.reached range) at.index (let below = in_log in omega (arith, below))

    lawful : (claim : Claim) → claim_of x ≡ Some claim → IsLawfulPlace w (starts_at range) (all range) range place claim
    lawful claim says =
        let reached = range_reached m k.now.bound.reached range in
        let p = place_at (m.range range) reached at.index in_log x claim at.is says in
        subst (λ (z : Claim). IsLawfulPlace w (starts_at range) (all range) range place z) p.says (of_command p.command p.place)
      where
        of_command : (c : Command) → IsPlace (m.range range) c.id at.index c → IsLawfulPlace w (starts_at range) (all range) range place (claim_by c)
        of_command c p =
            let reached = range_reached m k.now.bound.reached range in
            let l = lawful_place (m.range range) reached c.id at.index c p in
            let d = does (m.range range) reached c.id at.index c p in
            record {
              before = shown (state_at (m.range range) at.index);
              reached = reached_is;
              takes_effect = record { under = sym l.seq; bounded = l.evaluates.bounded; effect_is = d.left; takes = d.takes; answers = sym d.reply };
              admitted = subst (λ z. IsAdmittedUnder w c.id range c.request z) (sym l.of.seq)
                  (subst (λ z. IsAdmittedUnder w c.id range z ((m.range range).attempt c.id).seq) (sym l.of.request)
                  (k.now.admitted c.id range (placed_born (m.range range) reached c.id at.index c p) (placed_unrefused (m.range range) reached c.id at.index c p)).0);
            }

  leased : (range place : ℕ) (lease : leases.Lease) → slice_get (all range) place ≡ Some (places.Lease lease) → IsLawfulLease (starts_at range) (all range) place lease
  leased range place lease e = record {
    before = shown (state_at (m.range range) (at range place (places.Lease lease) e).index);
    reached = reached_is range place (places.Lease lease) e;
    follows = follows (at range place (places.Lease lease) e) (in_log range place (places.Lease lease) e);
  }
    where
      follows : (i : ItemAt (m.range range) (k.now.records.reach range) place (places.Lease lease)) → i.index < length (m.range range).log → Follows (state_at (m.range range) i.index).lease lease
      follows i lt = ⊎_elim
          (λ (t : TakenCommand (state_at (m.range range) i.index) (entry (m.range range).log i.index) (places.Lease lease)).
          absurd (none-some (claim_by t.command) (ap claim_of (sym t.is)
          ∙ place_says (m.range range) (range_reached m k.now.bound.reached range) t.command.id i.index t.command (record { within = lt; takes = record { here = t.here; taken = t.took }; named = refl }))))
          (λ (t : TakenAsk (state_at (m.range range) i.index) (entry (m.range range).log i.index) (places.Lease lease)).
          item_tells (state_at (m.range range) i.index) t.ask lease (ap (record_of (state_at (m.range range) i.index)) (sym t.here) ∙ i.is))
          (taken_by (state_at (m.range range) i.index) (entry (m.range range).log i.index) (places.Lease lease) i.is)

  pub places_lawful : PlacesAreLawful w (records w m k.now.bound.reached k.now.records) (start w m k.now.bound.reached k.now.records)
  places_lawful = record { once = once; lawful = λ range place x claim e says. lawful range place x e claim says; leases = leased }
