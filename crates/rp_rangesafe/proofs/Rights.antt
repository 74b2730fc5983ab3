-- Right ranges start from the one split that opens them.
use Rattle.std.proofs.Common.{◌≡◌, ℕ, zero, suc, ◌+◌, ◌^◌, ◌<◌, ◌≤◌, Bool, true, false, cond, ◌⊎◌, inl, inr, List, [], ◌∷◌, ◌++◌, length, Option, Some, None, Result, Ok, Err, refl, sym, ap, subst, ◌∙◌, arith}
use Rattle.std.proofs.Math.Seq.{get_or-append_seam}
use Rattle.std.proofs.lemmas.List.{length-append, append-nil, append_assoc}
use Rattle.std.proofs.lemmas.Bool.{cases_lt}
use Rattle.std.proofs.lemmas.Bool.Decides.{nat_tests}
use Rattle.rp_base.specs.Splits.{split_of}
use Rattle.rp_base.specs.declared.ranges.Desc.{Desc}
use Rattle.rp_base.specs.declared.ranges.SplitFault.{SplitFault}
use Rattle.rp_base.proofs.SplitLaws.{AreParts, parts}
use Rattle.rp_request.specs.declared.commands.Payload.{Payload}
use Rattle.rp_request.specs.declared.commands.Payload.TheVariants.{Nothing, Write, Lease}
use Rattle.rp_request.specs.declared.commands.Command.{Command}
use Rattle.rp_request.specs.declared.requests.Request.{Request}
use Rattle.rp_request.specs.declared.requests.Request.TheVariants.{Put, Add, CPut, Del, Wipe, Move, Split}
use Rattle.rp_request.specs.declared.items.Place.{Place}
use Rattle.rp_request.specs.declared.items.Place.TheVariants as places
use Rattle.rp_base.specs.Tables.{from_on}
use Rattle.rp_request.specs.Records.{applied}
use Rattle.rp_request.specs.Starts.{left_range, IsRightStart, SplitsOff, IsStart, first, split_off}
use Rattle.rp_request.specs.Applied.{AppliedState, command_verdict, record_of, item_by, command_record, right_number}
use Rattle.rp_request.specs.declared.verdicts.Verdict.{Verdict}
use Rattle.rp_request.specs.declared.verdicts.Verdict.TheVariants.{Took, OldLease, OldIndex, LeaseMoved}
use Rattle.rp_request.specs.declared.verdicts.Verdict.TheVariants as verdicts
use Rattle.rp_rangesafe.specs.Along.{entry}
use Rattle.rp_rangesafe.specs.World.{World, begin, state_at, Admit, Flush, Return, Refuse, Commit, Apply, Snapshot, Remove, Restart, happens, with_node}
use Rattle.rp_rangesafe.specs.Places.{items_to}
use Rattle.rp_request.specs.States.{shown}
use Rattle.rp_rangesafe.specs.Ranges.{Ranges, at_first, Step, In, Turn_away, IsLawfulIn, IsLawful, with_right, within, after_event, after_step, AreLawful, after_steps, AreReached, lists}
use Rattle.rp_request.specs.States.{first_applied, right_with, right_by_request, right_by, right_of}
use Rattle.rp_rangesafe.proofs.Tables.{node_same, at_with_node}
use Rattle.rp_rangesafe.proofs.Runs.{later_start, later_longer, later_entry, later_state}
use Rattle.rp_rangesafe.proofs.Folds.{one_more}
use Rattle.rp_rangesafe.proofs.OneRange.{numbers_rise, fold_is_state}
use Rattle.rp_rangesafe.proofs.Whole.{Whole, Onto, whole_first, whole_step, onto_step, onto_in, onto_right, whole_in, whole_reached}

-- what opens a right range
pub record Opens (s : AppliedState) (p : Payload) (t : AppliedState) : Type 0 where
  pub command : Command
  pub key : ℕ
  pub left : Desc
  pub right : Desc
  pub here : p ≡ Write command
  pub took : command_verdict s command ≡ Took
  pub splits : command.request ≡ Split key
  pub parted : split_of s.desc key ≡ Ok (left, right)
  pub made : record { desc = right; lease = s.lease; lai = 0; table = from_on s.table key } ≡ t

opens_with : (s : AppliedState) (c : Command) (key : ℕ) (x : Result (Desc × Desc) SplitFault) (t : AppliedState) → command_verdict s c ≡ Took → c.request ≡ Split key
    → split_of s.desc key ≡ x → right_with s key x ≡ Some t → Opens s (Write c) t
opens_with s c key (Ok both) t v e h k = record { command = c; key = key; left = both.0; right = both.1; here = refl; took = v; splits = e; parted = h; made = cc }
opens_with s c key (Err fault) t v e h k = absurd cc

opens_request : (s : AppliedState) (c : Command) (r : Request) (t : AppliedState) → command_verdict s c ≡ Took → c.request ≡ r
    → right_by_request s r ≡ Some t → Opens s (Write c) t
opens_request s c (Put key value) t v e k = absurd cc
opens_request s c (Add key by) t v e k = absurd cc
opens_request s c (CPut key expect value) t v e k = absurd cc
opens_request s c (Del key) t v e k = absurd cc
opens_request s c (Wipe span) t v e k = absurd cc
opens_request s c (Move from to by) t v e k = absurd cc
opens_request s c (Split key) t v e k = opens_with s c key (split_of s.desc key) t v e refl k

opens_command : (s : AppliedState) (c : Command) (x : Verdict) (t : AppliedState) → command_verdict s c ≡ x → right_by s c x ≡ Some t → Opens s (Write c) t
opens_command s c Took t v k = opens_request s c c.request t v refl k
opens_command s c (OldLease now) t v k = absurd cc
opens_command s c (OldIndex lai) t v k = absurd cc
opens_command s c LeaseMoved t v k = absurd cc
opens_command s c verdicts.Nothing t v k = absurd cc

pub opens_it : (s : AppliedState) (p : Payload) (t : AppliedState) → right_of s p ≡ Some t → Opens s p t
opens_it s Nothing t k = absurd cc
opens_it s (Write c) t k = opens_command s c (command_verdict s c) t refl k
opens_it s (Lease ask) t k = absurd cc

-- a range starts from what an entry of another range's list opens: a split that is taken there
pub record IsOrigin (w : Ranges) (start : AppliedState) : Type 0 where
  pub left : ℕ
  pub index : ℕ
  pub there : w.opened left ≡ true
  pub below : index < length (w.range left).log
  pub opens : right_of (state_at (w.range left) index) (entry (w.range left).log index) ≡ Some start

-- where a range starts: range 0 from the first state, each other one from what opens it
pub record Source (w : Ranges) (q : ℕ) : Type 0 where
  pub numbered : (w.range q).start.desc.id ≡ q
  pub unapplied : (w.range q).start.lai ≡ 0
  pub origin : ((q ≡ 0) × ((w.range q).start ≡ first_applied)) ⊎ IsOrigin w (w.range q).start

abbrev Sources : Ranges → Type 0
Sources w = (q : ℕ) → w.opened q ≡ true → Source w q

origin_onto : (w v : Ranges) → Onto w v → (s : AppliedState) → IsOrigin w s → IsOrigin v s
origin_onto w v k s h =
    let l = k.later h.left h.there in
    let long = later_longer (w.range h.left) (v.range h.left) l in
    let below = h.below in
    record {
      left = h.left;
      index = h.index;
      there = k.opened h.left h.there;
      below = omega arith;
      opens = sym (ap (λ t. right_of t (entry (v.range h.left).log h.index)) (later_state (w.range h.left) (v.range h.left) l h.index (omega arith)))
          ∙ sym (ap (right_of (state_at (w.range h.left) h.index)) (later_entry (w.range h.left) (v.range h.left) l h.index below))
          ∙ h.opens;
    }

source_onto : (w v : Ranges) → Onto w v → (q : ℕ) → w.opened q ≡ true → Source w q → Source v q
source_onto w v k q o h = record {
  numbered = ap (λ (t : AppliedState). t.desc.id) same ∙ h.numbered;
  unapplied = ap (λ (t : AppliedState). t.lai) same ∙ h.unapplied;
  origin = go h.origin;
} where
  same : (v.range q).start ≡ (w.range q).start
  same = later_start (w.range q) (v.range q) (k.later q o)

  go : ((q ≡ 0) × ((w.range q).start ≡ first_applied)) ⊎ IsOrigin w (w.range q).start → ((q ≡ 0) × ((v.range q).start ≡ first_applied)) ⊎ IsOrigin v (v.range q).start
  go (inl p) = inl (p.0, same ∙ p.1)
  go (inr x) = inr (subst (IsOrigin v) (sym same) (origin_onto w v k (w.range q).start x))

sources_first : Sources at_first
sources_first q o = let e : q ≡ 0 = grind (arith, nat_tests) in record { numbered = sym e; unapplied = refl; origin = inl (e, refl) }

-- an entry is committed, and opens a range or not
module _ (w : Ranges) (h : Whole w) (x : Sources w) (r : ℕ) (p : Payload) (l : IsLawfulIn w r (Commit p)) where
  abbrev grown : Ranges
  grown = within w r (Commit p)

  abbrev now : AppliedState
  now = state_at (w.range r) (length (w.range r).log)

  onto_grown : Onto w grown
  onto_grown = onto_in w h r (Commit p) l.lawful l.there

  whole_grown : Whole grown
  whole_grown = whole_in w h r (Commit p) l.lawful l.there (λ x k. k)

  sources_grown : Sources grown
  sources_grown q o = source_onto w grown onto_grown q o (x q o)

  abbrev more : AppliedState → Ranges
  more s = record grown { range = with_node grown.range s.desc.id (begin s); opened = with_node w.opened s.desc.id true }

  module _ (s : AppliedState) (e : right_of now p ≡ Some s) (onto : Onto grown (more s)) where
    new_origin : IsOrigin (more s) s
    new_origin =
        let grown_r : grown.range r ≡ happens (w.range r) (Commit p) = node_same w.range r (happens (w.range r) (Commit p)) in
        let old : IsOrigin grown s = record {
          left = r;
          index = length (w.range r).log;
          there = l.there;
          below = subst (λ (v : World). length (w.range r).log < length v.log) (sym grown_r) (let n = length-append (w.range r).log (p ∷ []) in omega arith);
          opens = subst (λ (v : World). right_of (state_at v (length (w.range r).log)) (entry v.log (length (w.range r).log)) ≡ Some s) (sym grown_r)
              (sym (ap (λ t. right_of t (entry ((w.range r).log ++ p ∷ []) (length (w.range r).log)))
              (later_state (w.range r) (happens (w.range r) (Commit p)) (record { events = Commit p ∷ []; lawful = (l.lawful, tt); reached = refl }) (length (w.range r).log) (omega arith)))
              ∙ ap (right_of now) (get_or-append_seam (w.range r).log p [] Nothing) ∙ e);
        } in
        origin_onto grown (more s) onto s old

    started : with_node grown.range s.desc.id (begin s) s.desc.id ≡ begin s
    started = node_same grown.range s.desc.id (begin s)

    new_source : Source (more s) s.desc.id
    new_source = record {
      numbered = ap (λ (v : World). v.start.desc.id) started;
      unapplied = ap (λ (v : World). v.start.lai) started ∙ sym (ap (λ (t : AppliedState). t.lai) (opens_it now p s e).made);
      origin = inr (subst (λ (v : World). IsOrigin (more s) v.start) (sym started) new_origin);
    }

    sources_more : Sources (more s)
    sources_more q = at_with_node (λ z b. b ≡ true → Source (more s) z) w.opened s.desc.id true (λ _. new_source) (λ z _ o. source_onto grown (more s) onto z o (sources_grown z o)) q

  sources_right : (o : Option AppliedState) → right_of now p ≡ o → Onto grown (with_right grown o) → Sources (with_right grown o)
  sources_right None e k = sources_grown
  sources_right (Some s) e k = go (w.opened s.desc.id) refl k where
    go : (b : Bool) → w.opened s.desc.id ≡ b → Onto grown (cond b grown (more s)) → Sources (cond b grown (more s))
    go true f k = sources_grown
    go false f k = sources_more s e k

  sources_commit : Sources (after_event w r (Commit p))
  sources_commit = sources_right (right_of now p) refl (onto_right grown whole_grown (right_of now p))

sources_step : (w : Ranges) → Whole w → Sources w → (y : Step) → IsLawful w y → Sources (after_step w y)
sources_step w h x (In r (Admit id node body)) l q o = source_onto w _ (onto_step w h (In r (Admit id node body)) l) q o (x q o)
sources_step w h x (In r (Flush id max)) l q o = source_onto w _ (onto_step w h (In r (Flush id max)) l) q o (x q o)
sources_step w h x (In r (Return id)) l q o = source_onto w _ (onto_step w h (In r (Return id)) l) q o (x q o)
sources_step w h x (In r (Refuse id)) l q o = source_onto w _ (onto_step w h (In r (Refuse id)) l) q o (x q o)
sources_step w h x (In r (Commit p)) l q o = sources_commit w h x r p l q o
sources_step w h x (In r (Apply node)) l q o = source_onto w _ (onto_step w h (In r (Apply node)) l) q o (x q o)
sources_step w h x (In r (Snapshot node to)) l q o = source_onto w _ (onto_step w h (In r (Snapshot node to)) l) q o (x q o)
sources_step w h x (In r (Remove node)) l q o = source_onto w _ (onto_step w h (In r (Remove node)) l) q o (x q o)
sources_step w h x (In r (Restart node)) l q o = source_onto w _ (onto_step w h (In r (Restart node)) l) q o (x q o)
sources_step w h x (Turn_away id) l q o = source_onto w _ (onto_step w h (Turn_away id) l) q o (x q o)

sources_steps : (w : Ranges) (ys : List Step) → AreLawful w ys → Whole w → Sources w → Sources (after_steps w ys)
sources_steps w [] l h x = x
sources_steps w (y ∷ ys) l h x = sources_steps (after_step w y) ys l.1 (whole_step w h y l.0) (sources_step w h x y l.0)

pub sources_reached : (w : Ranges) → AreReached w → (q : ℕ) → w.opened q ≡ true → Source w q
sources_reached w r = subst Sources r.reached (sources_steps at_first r.steps r.lawful whole_first sources_first)

pub lai_at_start : (w : Ranges) → AreReached w → (q : ℕ) → w.opened q ≡ true → (w.range q).start.lai ≡ 0
lai_at_start w r q o = (sources_reached w r q o).unapplied

-- the range that a range was split off from, by its number
pub left_is : (level id q : ℕ) → level < 3 → id < 2 ^ level → q ≡ id + 2 ^ level → left_range q ≡ id
left_is zero id q l h e = grind (arith, nat_tests)
left_is (suc zero) id q l h e = grind (arith, nat_tests)
left_is (suc (suc zero)) id q l h e = grind (arith, nat_tests)
left_is (suc (suc (suc n))) id q l h e = absurd (omega arith)

-- the items up to an index begin those up to a later one
pub begin_with : (w : World) (i j : ℕ) → i ≤ j → j ≤ length w.log → (rest : List Place) × (items_to w j ≡ items_to w i ++ rest)
begin_with w i zero l h = let same : 0 ≡ i = omega arith in ([], ap (items_to w) same ∙ sym (append-nil (items_to w i)))
begin_with w i (suc j) l h = go (cases_lt i (suc j)) (λ k. begin_with w i j k (omega arith)) where
  go : (i < suc j) ⊎ (suc j ≤ i) → (i ≤ j → (rest : List Place) × (items_to w j ≡ items_to w i ++ rest)) → (rest : List Place) × (items_to w (suc j) ≡ items_to w i ++ rest)
  go (inl lt) ih =
      let k = ih (omega arith) in
      let last : List Place = applied (record_of (state_at w j) (entry w.log j) ∷ []) in
      (k.0 ++ last, one_more w.start w.log j (omega arith) ∙ ap (λ xs. xs ++ last) k.1 ∙ append_assoc (items_to w i) k.0 last)
  go (inr ge) ih = let same : suc j ≡ i = omega arith in ([], ap (items_to w) same ∙ sym (append-nil (items_to w i)))

-- the item of a split
split_item : (d : Desc) (c : Command) (r : Request) (key : ℕ) → r ≡ Split key → item_by d c r ≡ places.Split c.id key (right_number d) c.seq
split_item d c r key e = ap (item_by d c) e

one_split : (s : AppliedState) (c : Command) (key : ℕ) → command_verdict s c ≡ Took → c.request ≡ Split key
    → applied (record_of s (Write c) ∷ []) ≡ places.Split c.id key (right_number s.desc) c.seq ∷ []
one_split s c key v e = ap (λ x. applied (command_record s.desc c x ∷ [])) v ∙ ap (λ y. y ∷ []) (split_item s.desc c c.request key e)

-- the number of a range stays along its list
pub number_along : (w : Ranges) → AreReached w → (q : ℕ) → w.opened q ≡ true → (i : ℕ) → (state_at (w.range q) i).desc.id ≡ q
number_along w r q o i = sym (numbers_rise (w.range q) 0 i (omega arith)).id ∙ (sources_reached w r q o).numbered

-- a range that a split opens
module _ (w : Ranges) (reach : AreReached w) (q : ℕ) (there : w.opened q ≡ true) (x : IsOrigin w (w.range q).start) where
  abbrev left : World
  left = w.range x.left

  abbrev split_state : AppliedState
  split_state = state_at left x.index

  opening : Opens split_state (entry left.log x.index) (w.range q).start
  opening = opens_it split_state (entry left.log x.index) (w.range q).start x.opens

  shares : AreParts split_state.desc opening.key opening.left opening.right
  shares = parts split_state.desc opening.key opening.left opening.right opening.parted

  left_number : split_state.desc.id ≡ x.left
  left_number = number_along w reach x.left x.there x.index

  number : q ≡ x.left + 2 ^ split_state.desc.level
  number =
      let a = (sources_reached w reach q there).numbered in
      let b : opening.right.id ≡ (w.range q).start.desc.id = ap (λ (t : AppliedState). t.desc.id) opening.made in
      let c = shares.right_id in
      sym a ∙ sym b ∙ c ∙ ap (λ n. n + 2 ^ split_state.desc.level) left_number

  within_level : x.left < 2 ^ split_state.desc.level
  within_level = subst (λ n. n < 2 ^ split_state.desc.level) left_number split_state.desc.id_of_level

  pub left_of_it : left_range q ≡ x.left
  left_of_it = left_is split_state.desc.level x.left q shares.level within_level number

  pub left_below : x.left < q
  left_below = let n = number in let l = within_level in omega arith

  splits_off : SplitsOff (shown left.start) (lists w x.left) q (shown (w.range q).start)
  splits_off = record {
    id = opening.command.id;
    key = opening.key;
    seq = opening.command.seq;
    before = items_to left x.index;
    after = (begin_with left (suc x.index) (length left.log) (let b = x.below in omega arith) (omega arith)).0;
    here = items;
    left = shown split_state;
    reached = fold_is_state left ((whole_reached w reach).reached x.left) x.index (let b = x.below in omega arith);
    begins = subst (λ (t : AppliedState). IsRightStart (shown split_state) opening.key (shown t)) opening.made
        (record { left = opening.left; desc = opening.parted; table = refl; lease = refl });
  } where
    numbered : right_number split_state.desc ≡ q
    numbered = ap (λ n. n + 2 ^ split_state.desc.level) left_number ∙ sym number

    items : lists w x.left ≡ items_to left x.index ++ places.Split opening.command.id opening.key q opening.command.seq
        ∷ (begin_with left (suc x.index) (length left.log) (let b = x.below in omega arith) (omega arith)).0
    items =
        let k = begin_with left (suc x.index) (length left.log) (let b = x.below in omega arith) (omega arith) in
        let last : applied (record_of split_state (entry left.log x.index) ∷ []) ≡ places.Split opening.command.id opening.key q opening.command.seq ∷ [] =
        ap (λ p. applied (record_of split_state p ∷ [])) opening.here ∙ one_split split_state opening.command opening.key opening.took opening.splits
        ∙ ap (λ n. places.Split opening.command.id opening.key n opening.command.seq ∷ []) numbered in
        k.1
        ∙ ap (λ xs. xs ++ k.0) (one_more left.start left.log x.index x.below ∙ ap (λ ys. items_to left x.index ++ ys) last)
        ∙ append_assoc (items_to left x.index) (places.Split opening.command.id opening.key q opening.command.seq ∷ []) k.0

-- each range starts from the split that opens it
start_below : (w : Ranges) (reach : AreReached w) (n q : ℕ) → q < n → w.opened q ≡ true → IsStart (lists w) q (shown (w.range q).start)
start_below w reach zero q l o = absurd (omega arith)
start_below w reach (suc n) q l o = go (sources_reached w reach q o).origin (λ z. start_below w reach n z) where
  go : ((q ≡ 0) × ((w.range q).start ≡ first_applied)) ⊎ IsOrigin w (w.range q).start
      → ((z : ℕ) → z < n → w.opened z ≡ true → IsStart (lists w) z (shown (w.range z).start)) → IsStart (lists w) q (shown (w.range q).start)
  go (inl p) ih = subst (λ z. IsStart (lists w) z (shown (w.range q).start)) (sym p.0) (subst (λ t. IsStart (lists w) 0 (shown t)) (sym p.1) first)
  go (inr x) ih =
      let below = left_below w reach q o x in
      split_off q (shown (w.range x.left).start) (shown (w.range q).start) (omega arith)
      (subst (λ z. IsStart (lists w) z (shown (w.range x.left).start)) (sym (left_of_it w reach q o x)) (ih x.left (omega arith) x.there))
      (subst (λ z. SplitsOff (shown (w.range x.left).start) (lists w z) q (shown (w.range q).start)) (sym (left_of_it w reach q o x)) (splits_off w reach q o x))

pub ranges_start : (w : Ranges) → AreReached w → (q : ℕ) → w.opened q ≡ true → IsStart (lists w) q (shown (w.range q).start)
ranges_start w reach q o = start_below w reach (suc q) q (omega arith) o
