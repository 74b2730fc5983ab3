-- The one list of each range: the records of the entries that have one.
use Rattle.std.proofs.Common.{◌≡◌, ℕ, zero, suc, ◌+◌, ◌-◌, ◌<◌, true, ⊎_elim, Some, Result, Ok, Err, List, [], ◌∷◌, ◌++◌, length, take, refl, sym, ap, subst, ◌∙◌, arith, append_assoc}
use Rattle.std.specs.Prelude.{slice_get}
use Rattle.std.proofs.lemmas.List.{length-take-le, take-take}
use Rattle.std.proofs.lemmas.Option.{slice_get_within}
use Rattle.rp_base.specs.Splits.{split_of}
use Rattle.rp_base.specs.Tables.{from_on}
use Rattle.rp_base.specs.declared.ids.CmdId.{CmdId}
use Rattle.rp_base.specs.declared.leases.Lease as leases
use Rattle.rp_base.specs.declared.ranges.Desc.{Desc}
use Rattle.rp_base.specs.declared.ranges.SplitFault.{SplitFault}
use Rattle.rp_base.specs.declared.ranges.SplitFault.TheVariants as faults
use Rattle.rp_base.proofs.SplitLaws.{parts}
use Rattle.rp_request.specs.Applied.{AppliedState, item_by, command_record, record_of, records_of, right_number, after}
use Rattle.rp_request.specs.Effect.{Effect, effect, split}
use Rattle.rp_request.specs.History.{History}
use Rattle.rp_request.specs.Items.{State, fold}
use Rattle.rp_request.specs.Records.{applied}
use Rattle.rp_request.specs.Starts.{IsRightStart, SplitsOff, IsStart, first, split_off}
use Rattle.rp_request.specs.States.{shown, first_applied, right_of, right_by, right_by_request, right_with}
use Rattle.rp_request.specs.declared.commands.Command.{Command}
use Rattle.rp_request.specs.declared.commands.Payload.{Payload}
use Rattle.rp_request.specs.declared.items.Place.{Place}
use Rattle.rp_request.specs.declared.items.Place.TheVariants as places
use Rattle.rp_request.specs.declared.items.Record.{Record}
use Rattle.rp_request.specs.declared.requests.Request.{Request}
use Rattle.rp_request.specs.declared.requests.Request.TheVariants.{Put, Add, CPut, Del, Wipe, Move, Split}
use Rattle.rp_rangesafe.specs.Along.{entry}
use Rattle.rp_rangesafe.specs.World as machine
use Rattle.rp_rangesafe.specs.World.{state_at}
use Rattle.rp_rangesafe.specs.Places.{IsReached, items_to}
use Rattle.rp_rangesafe.specs.Ranges.{Ranges, AreReached}
use Rattle.rp_rangesafe.proofs.Folds.{one_more}
use Rattle.rp_rangesafe.proofs.Joint.{range_reached, record_at as recorded_at}
use Rattle.rp_rangesafe.proofs.OneRange.{fold_is_state}
use Rattle.rp_rangesafe.proofs.Rights.{Opens, opens_it, IsOrigin, sources_reached, left_of_it, left_below, begin_with}
use Rattle.rp_rangesafe.proofs.Splits.{is_there, split_opens, one_origin}
use Rattle.rp_rangesafe.proofs.Whole.{whole_reached}
use Rattle.rp_events.specs.Worlds.{World}
use Rattle.rp_events.specs.Nodes.{seat}
use Rattle.rp_events.specs.Lists.{base_of, history_in, HasApplied, Keeps, IsOneList, prefix_of}
use Rattle.rp_events.specs.Promises.{lists_of, IsSplitAt}
use Rattle.rp_promise.specs.Records.{record_at, IsHad, AllRecords}
use Rattle.rp_promise.proofs.Places.{does, item_at, TakenCommand, TakenAsk, taken_by}
use Rattle.rp_promise.proofs.Somes.{some_is}

get_take : {A : Type 0} (xs : List A) (n i : ℕ) → i < n → slice_get (take n xs) i ≡ slice_get xs i
get_take xs zero i lt = absurd (omega (arith, lt))
get_take [] (suc n) i lt = refl
get_take (x ∷ xs) (suc n) zero lt = refl
get_take (x ∷ xs) (suc n) (suc i) lt = get_take xs n i (omega (arith, lt))

-- the records of the first entries
pub records_take : (b : AppliedState) (log : List Payload) (i : ℕ) → take i (records_of b log) ≡ records_of b (take i log)
records_take b log zero = refl
records_take b [] (suc i) = refl
records_take b (p ∷ log) (suc i) = ap (λ z. record_of b p ∷ z) (records_take (after b p) log i)

records_length : (b : AppliedState) (log : List Payload) → length (records_of b log) ≡ length log
records_length b [] = refl
records_length b (p ∷ log) = let rest = records_length (after b p) log in omega (arith, rest)

-- an item of a split is one of a command that splits
split_is : (d : Desc) (c : Command) (r : Request) (id : CmdId) (key right seq : ℕ) → item_by d c r ≡ places.Split id key right seq → (r ≡ Split key) × (right_number d ≡ right)
split_is d c (Put k value) id key right seq e = absurd cc
split_is d c (Add k by) id key right seq e = absurd cc
split_is d c (CPut k expect value) id key right seq e = absurd cc
split_is d c (Del k) id key right seq e = absurd cc
split_is d c (Wipe span) id key right seq e = absurd cc
split_is d c (Move from to by) id key right seq e = absurd cc
split_is d c (Split k) id key right seq e = (ap Split (key_is e), number_is e) where
  key_is : places.Split c.id k (right_number d) c.seq ≡ places.Split id key right seq → k ≡ key
  key_is f = cc

  number_is : places.Split c.id k (right_number d) c.seq ≡ places.Split id key right seq → right_number d ≡ right
  number_is f = cc

lease_split : (lease : leases.Lease) (id : CmdId) (key right seq : ℕ) → places.Lease lease ≡ places.Split id key right seq → ⊥
lease_split lease id key right seq e = cc

-- a split that takes effect opens its right range
split_opens_some : (s : AppliedState) (key : ℕ) (left : Effect) → effect s.table s.desc (Split key) ≡ Ok left
    → (t : AppliedState) × (right_with s key (split_of s.desc key) ≡ Some t) × (t.desc.id ≡ right_number s.desc)
split_opens_some s key left = go (split_of s.desc key) refl where
  go : (x : Result (Desc × Desc) SplitFault) → split_of s.desc key ≡ x → split s.table key x ≡ Ok left
      → (t : AppliedState) × (right_with s key x ≡ Some t) × (t.desc.id ≡ right_number s.desc)
  go (Ok both) is e = (record { desc = both.1; lease = s.lease; lai = 0; table = from_on s.table key }, refl, (parts s.desc key both.0 both.1 is).right_id)
  go (Err faults.NotInside) is e = absurd cc
  go (Err (faults.SplitLimit level)) is e = absurd cc

module _ (w : World) (m : Ranges) (reached : AreReached m) (a : AllRecords w m) where
  -- the records of each range, and the state that it starts from
  abbrev pub records : ℕ → List Record
  records range = take (a.reach range) (records_of (m.range range).start (m.range range).log)

  abbrev pub start : ℕ → State
  start range = shown (m.range range).start

  abbrev h_of : ℕ → machine.World
  h_of range = m.range range

  is_reached : (range : ℕ) → IsReached (m.range range)
  is_reached range = range_reached m reached range

  pub lists_are : (range : ℕ) → lists_of records range ≡ items_to (m.range range) (a.reach range)
  lists_are range = ap applied (records_take (m.range range).start (m.range range).log (a.reach range))

  list_length : (range : ℕ) → length (records range) ≡ a.reach range
  list_length range =
      let within = (a.each range).within in
      let same = records_length (m.range range).start (m.range range).log in
      length-take-le (a.reach range) (records_of (m.range range).start (m.range range).log) (omega (arith, within, same))

  list_at : (range place : ℕ) → place < a.reach range → slice_get (records range) place ≡ Some (record_at (m.range range) place)
  list_at range place lt =
      let within = (a.each range).within in
      get_take (records_of (m.range range).start (m.range range).log) (a.reach range) place lt
      ∙ recorded_at (m.range range).start (m.range range).log place (omega (arith, lt, within))

  same_history : (node range : ℕ) (p q : History) → HasApplied w node range p → HasApplied w node range q → p ≡ q
  same_history node range p q x y = some_is p q (sym x.history ∙ ap (λ z. history_in (seat z range)) (some_is x.n y.n (sym x.has ∙ y.has)) ∙ y.history)

  pub one_list : (range : ℕ) → IsOneList w range (records range)
  one_list range = record {
    agrees = λ node index kept k.
        let o = (a.each range).histories node k.history k.applied in
        let i = o.records k.piece index kept k.among k.stands in
        let at = i.at in let lt = i.applied in let within = o.within in
        let place_is : index - base_of range - 1 ≡ i.place = omega (arith, at) in (
          omega (arith, at),
          ap (slice_get (records range)) place_is ∙ list_at range i.place (omega (arith, lt, within)) ∙ ap Some (sym i.is),
        );
    known = λ node index kept past k applied.
        let o = (a.each range).histories node k.history k.applied in
        let i = o.records k.piece index kept k.among k.stands in
        let at = i.at in let lt = i.applied in let shown_at = o.at in
        let same : k.history.index ≡ past.index = ap (λ (z : History). z.index) (same_history node range k.history past k.applied applied) in
        omega (arith, at, lt, shown_at, same);
    whole = λ place kept e.
        let long = list_length range in
        let inside = slice_get_within (records range) place kept e in
        let below : place < a.reach range = omega (arith, long, inside) in
        let c = (a.each range).covered place below in
        (c.0, subst (Keeps w c.0 range (base_of range + place + 1)) (some_is (record_at (m.range range) place) kept (sym (list_at range place below) ∙ e)) c.1);
    reaches = λ node past applied.
        let o = (a.each range).histories node past applied in
        let long = list_length range in
        let at = o.at in let within = o.within in
        (omega (arith, at), omega (arith, at, within, long));
  }

  pub prefix : (node range : ℕ) (past : History) → HasApplied w node range past → fold (start range) (prefix_of range (records range) past) ≡ Some (shown past.state)
  prefix node range past applied' =
      let o = (a.each range).histories node past applied' in
      let at = o.at in let small = o.within in let within = (a.each range).within in
      let place_is : past.index - base_of range ≡ o.to = omega (arith, at) in
      ap (fold (start range)) (ap (λ i. applied (take i (records range))) place_is
      ∙ ap applied (take-take o.to (a.reach range) (records_of (m.range range).start (m.range range).log) o.within)
      ∙ ap applied (records_take (m.range range).start (m.range range).log o.to))
      ∙ fold_is_state (m.range range) (is_reached range) o.to (omega (arith, small, within))
      ∙ ap (λ s. Some (shown s)) o.state

  -- a range that a node has starts from the split that opened it
  split_item : (d : Desc) (c : Command) (r : Request) (key : ℕ) → r ≡ Split key → item_by d c r ≡ places.Split c.id key (right_number d) c.seq
  split_item d c r key e = ap (item_by d c) e

  module _ (left index range : ℕ) (right : AppliedState) (lt : index < a.reach left) (e : right_of (state_at (m.range left) index) (entry (m.range left).log index) ≡ Some right) (numbered : right.desc.id ≡ range) where
    abbrev at_split : AppliedState
    at_split = state_at (m.range left) index

    opening : Opens at_split (entry (m.range left).log index) right
    opening = opens_it at_split (entry (m.range left).log index) right e

    in_log : index < length (m.range left).log
    in_log = let within = (a.each left).within in omega (arith, lt, within)

    opened : (m.opened right.desc.id ≡ true) × ((m.range right.desc.id).start ≡ right)
    opened = split_opens m reached left index right in_log e

    pub starts_so : (m.range range).start ≡ right
    starts_so = subst (λ z. (m.range z).start ≡ right) numbered opened.1

    left_there : m.opened left ≡ true
    left_there = is_there m (whole_reached m reached) left index in_log

    abbrev origin : IsOrigin m (m.range range).start
    origin = record { left = left; index = index; there = left_there; below = in_log; opens = e ∙ ap Some (sym starts_so) }

    pub range_there : m.opened range ≡ true
    range_there = subst (λ z. m.opened z ≡ true) numbered opened.0

    right_is : right_number at_split.desc ≡ range
    right_is = sym (parts at_split.desc opening.key opening.left opening.right opening.parted).right_id ∙ ap (λ (z : AppliedState). z.desc.id) opening.made ∙ numbered

    items_are : (rest : List Place) × (items_to (m.range left) (a.reach left) ≡ items_to (m.range left) index ++ places.Split opening.command.id opening.key range opening.command.seq ∷ rest)
    items_are =
        let within = (a.each left).within in
        let k = begin_with (m.range left) (suc index) (a.reach left) (omega (arith, lt)) within in
        let x : Place = places.Split opening.command.id opening.key range opening.command.seq in
        let last : applied (record_at (m.range left) index ∷ []) ≡ places.Split opening.command.id opening.key range opening.command.seq ∷ [] =
        ap (λ p. applied (record_of at_split p ∷ [])) opening.here ∙ ap (λ v. applied (command_record at_split.desc opening.command v ∷ [])) opening.took
        ∙ ap (λ y. y ∷ []) (split_item at_split.desc opening.command opening.command.request opening.key opening.splits)
        ∙ ap (λ n. places.Split opening.command.id opening.key n opening.command.seq ∷ []) right_is in (
          k.0,
          k.1
              ∙ ap (λ xs. xs ++ k.0) (one_more (m.range left).start (m.range left).log index in_log ∙ ap (λ ys. items_to (m.range left) index ++ ys) last)
              ∙ append_assoc (items_to (m.range left) index) (x ∷ []) k.0,
        )

    splits : SplitsOff (start left) (lists_of records left) range (start range)
    splits = record {
      id = opening.command.id;
      key = opening.key;
      seq = opening.command.seq;
      before = items_to (m.range left) index;
      after = items_are.0;
      here = lists_are left ∙ items_are.1;
      left = shown at_split;
      reached = fold_is_state (m.range left) (is_reached left) index (let below = in_log in omega (arith, below));
      begins = subst (λ (s : AppliedState). IsRightStart (shown at_split) opening.key (shown s)) (opening.made ∙ sym starts_so)
          (record { left = opening.left; desc = opening.parted; table = refl; lease = refl });
    }

  covered_had : (range place : ℕ) → place < a.reach range → IsHad w range
  covered_had range place lt = let c = (a.each range).covered place lt in record { node = c.0; past = c.1.history; applied = c.1.applied }

  first_start : m.opened 0 ≡ true → (m.range 0).start ≡ first_applied
  first_start there = ⊎_elim
      (λ (x : (0 ≡ 0) × ((m.range 0).start ≡ first_applied)). x.1)
      (λ (x : IsOrigin m (m.range 0).start). let below = left_below m reached 0 there x in absurd (omega (arith, below)))
      (sources_reached m reached 0 there).origin

  starts_below : (n range : ℕ) → range < n → IsHad w range → m.opened range ≡ true → IsStart (lists_of records) range (start range)
  starts_below zero range lt had there = absurd (omega (arith, lt))
  starts_below (suc n) zero lt had there = subst (λ (s : AppliedState). IsStart (lists_of records) 0 (shown s)) (sym (first_start there)) first
  starts_below (suc n) (suc q) lt had there =
      let o = a.origins (suc q) (omega arith) had in
      let x = origin o.left o.index (suc q) o.right o.below o.opens o.numbered in
      let smaller = left_below m reached (suc q) there x in
      let own = left_of_it m reached (suc q) there x in
      split_off (suc q) (start o.left) (start (suc q)) (omega arith)
      (subst (λ z. IsStart (lists_of records) z (start o.left)) (sym own)
      (starts_below n o.left (omega (arith, lt, smaller)) (covered_had o.left o.index o.below) (left_there o.left o.index (suc q) o.right o.below o.opens o.numbered)))
      (subst (λ z. SplitsOff (start o.left) (lists_of records z) (suc q) (start (suc q))) (sym own) (splits o.left o.index (suc q) o.right o.below o.opens o.numbered))

  pub starts : (range : ℕ) → IsHad w range → m.opened range ≡ true → IsStart (lists_of records) range (start range)
  starts range had there = starts_below (suc range) range (omega arith) had there

  -- the entry of a split's item, and what it opens
  record SplitEntry (range place right : ℕ) : Type 0 where
    index : ℕ
    below : index < length (m.range range).log
    at : place ≡ length (items_to (m.range range) index)
    opens_it : AppliedState
    opens : right_of (state_at (m.range range) index) (entry (m.range range).log index) ≡ Some opens_it
    numbered : opens_it.desc.id ≡ right

  split_entry : (range place right : ℕ) → IsSplitAt (lists_of records) range place right → SplitEntry range place right
  split_entry range place right x =
      let h : machine.World = m.range range in
      let within = (a.each range).within in
      let i = item_at (m.range range) (a.reach range) within place (places.Split x.0 x.1 right x.2) (sym (ap (λ xs. slice_get xs place) (lists_are range)) ∙ x.3) in
      let below = i.below in
      let inside : i.index < length (m.range range).log = omega (arith, within, below) in
      ⊎_elim
      (λ (t : TakenCommand (state_at (m.range range) i.index) (entry (m.range range).log i.index) (places.Split x.0 x.1 right x.2)).
      let s : AppliedState = state_at (m.range range) i.index in
      let is = split_is (state_at (m.range range) i.index).desc t.command t.command.request x.0 x.1 right x.2 t.is in
      let d = does (m.range range) (is_reached range) t.command.id i.index t.command (record { within = inside; takes = record { here = t.here; taken = t.took }; named = refl }) in
      let o = split_opens_some (state_at (m.range range) i.index) x.1 d.left (ap (effect (state_at (m.range range) i.index).table (state_at (m.range range) i.index).desc) (sym is.0) ∙ d.takes) in
      record {
        index = i.index;
        below = inside;
        at = i.at;
        opens_it = o.0;
        opens = ap (right_of s) t.here ∙ ap (right_by s t.command) t.took ∙ ap (right_by_request s) is.0 ∙ o.1;
        numbered = o.2 ∙ is.1;
      })
      (λ (t : TakenAsk (state_at (m.range range) i.index) (entry (m.range range).log i.index) (places.Split x.0 x.1 right x.2)). absurd (lease_split t.lease x.0 x.1 right x.2 t.is))
      (taken_by (state_at (m.range range) i.index) (entry (m.range range).log i.index) (places.Split x.0 x.1 right x.2) i.is)

  pub one_split : (range place other place' right : ℕ) → IsSplitAt (lists_of records) range place right → IsSplitAt (lists_of records) other place' right → (range ≡ other) × (place ≡ place')
  one_split range place other place' right x y =
      let p = split_entry range place right x in
      let q = split_entry other place' right y in
      let one = one_origin m reached range other p.index q.index p.opens_it q.opens_it p.below q.below p.opens q.opens (p.numbered ∙ sym q.numbered) in (
        one.0,
        p.at ∙ ap (λ z. length (items_to (m.range z) p.index)) one.0 ∙ ap (λ z. length (items_to (m.range other) z)) one.1 ∙ sym q.at,
      )
