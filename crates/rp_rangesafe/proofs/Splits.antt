-- Each right range is opened by one split, and each split that is taken opens its right range.
use Rattle.std.proofs.Common.{◌≡◌, ℕ, zero, suc, ◌+◌, ◌^◌, ◌<◌, ◌≤◌, Bool, true, false, cond, ◌⊎◌, inl, inr, List, [], ◌∷◌, ◌++◌, length, Option, Some, None, refl, sym, ap, subst, ◌∙◌, arith}
use Rattle.std.proofs.Math.Seq.{get_or-append_seam}
use Rattle.std.proofs.lemmas.List.{length-append}
use Rattle.std.proofs.lemmas.Bool.{cases_lt, cases_order}
use Rattle.rp_base.proofs.SplitLaws.{AreParts, parts}
use Rattle.rp_request.specs.declared.commands.Payload.{Payload}
use Rattle.rp_request.specs.declared.commands.Payload.TheVariants.{Nothing}
use Rattle.rp_request.specs.Starts.{left_range}
use Rattle.rp_request.specs.Applied.{AppliedState, written, after, desc_after, left_of}
use Rattle.rp_rangesafe.specs.Along.{entry}
use Rattle.rp_rangesafe.specs.World.{World, begin, state_at, Admit, Flush, Return, Refuse, Commit, Apply, Snapshot, Remove, Restart, happens, with_node}
use Rattle.rp_rangesafe.specs.Places.{IsLater}
use Rattle.rp_rangesafe.specs.Ranges.{Ranges, at_first, Step, In, Turn_away, IsLawfulIn, IsLawful, with_right, within, after_event, after_step, AreLawful, after_steps, AreReached}
use Rattle.rp_request.specs.States.{first_applied, right_of}
use Rattle.rp_rangesafe.proofs.Tables.{node_same, at_with_node}
use Rattle.rp_rangesafe.proofs.OneRange.{numbers_rise}
use Rattle.rp_rangesafe.proofs.Whole.{Whole, Onto, whole_first, whole_step, onto_step, onto_in, onto_right, whole_in, whole_reached}
use Rattle.rp_rangesafe.proofs.Runs.{later_entry, later_state}
use Rattle.rp_rangesafe.proofs.Rights.{Opens, opens_it, IsOrigin, Source, sources_reached, number_along, left_is}

-- where the description is split its level rises
split_rises : (s : AppliedState) (p : Payload) (t : AppliedState) → Opens s p t → (after s p).desc.level ≡ s.desc.level + 1
split_rises s p t o =
    ap (λ y. (after s y).desc.level) o.here
    ∙ ap (λ v. (written s o.command v).desc.level) o.took
    ∙ ap (λ r. (desc_after s.desc r).level) o.splits
    ∙ ap (λ x. (left_of s.desc x).level) o.parted
    ∙ (parts s.desc o.key o.left o.right o.parted).left_level

powers_rise : (a b : ℕ) → a < b → b < 3 → 2 ^ a < 2 ^ b
powers_rise a zero l h = absurd (omega arith)
powers_rise zero (suc zero) l h = omega arith
powers_rise (suc a) (suc zero) l h = absurd (omega arith)
powers_rise zero (suc (suc zero)) l h = omega arith
powers_rise (suc zero) (suc (suc zero)) l h = omega arith
powers_rise (suc (suc a)) (suc (suc zero)) l h = absurd (omega arith)
powers_rise a (suc (suc (suc b))) l h = absurd (omega arith)

-- a range in which something is committed is there
pub is_there : (w : Ranges) → Whole w → (r k : ℕ) → k < length (w.range r).log → w.opened r ≡ true
is_there w h r k l = go (w.opened r) refl where
  go : (b : Bool) → w.opened r ≡ b → w.opened r ≡ true
  go true e = e
  go false e = let none : length (w.range r).log ≡ 0 = ap length (h.empty r e) in absurd (omega arith)

module _ (w : Ranges) (reach : AreReached w) where
  module _ (r k : ℕ) (t : AppliedState) (l : k < length (w.range r).log) (e : right_of (state_at (w.range r) k) (entry (w.range r).log k) ≡ Some t) where
    opened_by : Opens (state_at (w.range r) k) (entry (w.range r).log k) t
    opened_by = opens_it (state_at (w.range r) k) (entry (w.range r).log k) t e

    own_number : (state_at (w.range r) k).desc.id ≡ r
    own_number = number_along w reach r (is_there w (whole_reached w reach) r k l) k

    shares : AreParts (state_at (w.range r) k).desc opened_by.key opened_by.left opened_by.right
    shares = parts (state_at (w.range r) k).desc opened_by.key opened_by.left opened_by.right opened_by.parted

    numbered : t.desc.id ≡ r + 2 ^ (state_at (w.range r) k).desc.level
    numbered = sym (ap (λ (s : AppliedState). s.desc.id) opened_by.made) ∙ shares.right_id ∙ ap (λ n. n + 2 ^ (state_at (w.range r) k).desc.level) own_number

    own_below : r < 2 ^ (state_at (w.range r) k).desc.level
    own_below = subst (λ n. n < 2 ^ (state_at (w.range r) k).desc.level) own_number (state_at (w.range r) k).desc.id_of_level

    came_from : left_range t.desc.id ≡ r
    came_from = left_is (state_at (w.range r) k).desc.level r t.desc.id shares.level own_below numbered

  -- two entries that open one number are one
  same_index : (r j k : ℕ) (s t : AppliedState) → j < length (w.range r).log → k < length (w.range r).log
      → right_of (state_at (w.range r) j) (entry (w.range r).log j) ≡ Some s → right_of (state_at (w.range r) k) (entry (w.range r).log k) ≡ Some t
      → s.desc.id ≡ t.desc.id → j < k → ⊥
  same_index r j k s t hj hk e f same lt =
      let up = split_rises (state_at (w.range r) j) (entry (w.range r).log j) s (opened_by r j s hj e) in
      let on = (numbers_rise (w.range r) (suc j) k (omega arith)).level in
      let p = powers_rise (state_at (w.range r) j).desc.level (state_at (w.range r) k).desc.level (omega arith) (shares r k t hk f).level in
      let a = numbered r j s hj e in
      let b = numbered r k t hk f in
      omega arith

  pub one_origin : (q r j k : ℕ) (s t : AppliedState) → j < length (w.range q).log → k < length (w.range r).log
      → right_of (state_at (w.range q) j) (entry (w.range q).log j) ≡ Some s → right_of (state_at (w.range r) k) (entry (w.range r).log k) ≡ Some t
      → s.desc.id ≡ t.desc.id → (q ≡ r) × (j ≡ k)
  one_origin q r j k s t hj hk e f same = (ranges, go (cases_order j k)) where
    ranges : q ≡ r
    ranges = sym (came_from q j s hj e) ∙ ap left_range same ∙ came_from r k t hk f

    here : (i : ℕ) (u : AppliedState) → i < length (w.range q).log → right_of (state_at (w.range q) i) (entry (w.range q).log i) ≡ Some u
        → (i < length (w.range r).log) × (right_of (state_at (w.range r) i) (entry (w.range r).log i) ≡ Some u)
    here i u h x = (subst (λ z. i < length (w.range z).log) ranges h, subst (λ z. right_of (state_at (w.range z) i) (entry (w.range z).log i) ≡ Some u) ranges x)

    go : (j ≡ k) ⊎ ((j < k) ⊎ (k < j)) → j ≡ k
    go (inl eq) = eq
    go (inr (inl lt)) = let x = here j s hj e in absurd (same_index r j k s t x.0 hk x.1 f same lt)
    go (inr (inr gt)) = let x = here j s hj e in absurd (same_index r k j t s hk x.0 f x.1 (sym same) gt)

-- what each entry opens is there
pub record AllOpened (w : Ranges) : Type 0 where
  pub opened : (r k : ℕ) (s : AppliedState) → k < length (w.range r).log → right_of (state_at (w.range r) k) (entry (w.range r).log k) ≡ Some s
      → w.opened s.desc.id ≡ true

opened_first : AllOpened at_first
opened_first = record { opened = λ r k s l e. absurd (omega arith) }

-- an entry that was there before
opened_before : (w v : Ranges) → Whole w → AllOpened w → Onto w v → (r k : ℕ) (s : AppliedState) → k < length (w.range r).log
    → right_of (state_at (v.range r) k) (entry (v.range r).log k) ≡ Some s → v.opened s.desc.id ≡ true
opened_before w v h x k r i s l e =
    let later = k.later r (is_there w h r i l) in
    k.opened s.desc.id (x.opened r i s l
    (ap (λ t. right_of t (entry (w.range r).log i)) (later_state (w.range r) (v.range r) later i (omega arith))
    ∙ ap (right_of (state_at (v.range r) i)) (later_entry (w.range r) (v.range r) later i l) ∙ e))

-- a step in which no list grows
opened_still : (w v : Ranges) → Whole w → AllOpened w → Onto w v → ((r : ℕ) → length (v.range r).log ≤ length (w.range r).log) → AllOpened v
opened_still w v h x k short = record { opened = λ r i s l e. opened_before w v h x k r i s (let m = short r in omega arith) e }

short_in : (w : Ranges) (r : ℕ) (v : World) → length v.log ≤ length (w.range r).log → (q : ℕ) → length (with_node w.range r v q).log ≤ length (w.range q).log
short_in w r v l = at_with_node (λ q (u : World). length u.log ≤ length (w.range q).log) w.range r v l (λ q _. omega arith)

module _ (w : Ranges) (h : Whole w) (x : AllOpened w) (r : ℕ) (p : Payload) (l : IsLawfulIn w r (Commit p)) where
  abbrev grown : Ranges
  grown = within w r (Commit p)

  abbrev now : AppliedState
  now = state_at (w.range r) (length (w.range r).log)

  onto_grown : Onto w grown
  onto_grown = onto_in w h r (Commit p) l.lawful l.there

  -- what is opened by the entries so far, in ranges in which this entry's right range is there
  module _ (v : Ranges) (onto : Onto grown v) (short : (q : ℕ) → length (v.range q).log ≤ length (grown.range q).log)
      (all : (s : AppliedState) → right_of now p ≡ Some s → v.opened s.desc.id ≡ true) where
    opened_in_grown : (q k : ℕ) (s : AppliedState) → k < length (grown.range q).log → right_of (state_at (grown.range q) k) (entry (grown.range q).log k) ≡ Some s → v.opened s.desc.id ≡ true
    opened_in_grown q = at_with_node (λ z (u : World). (k : ℕ) (s : AppliedState) → k < length u.log → right_of (state_at u k) (entry u.log k) ≡ Some s → v.opened s.desc.id ≡ true)
        w.range r (happens (w.range r) (Commit p)) (λ k s m e. go k s m e (cases_lt k (length (w.range r).log)))
        (λ z _ k s m e. onto.opened s.desc.id (x.opened z k s m e)) q where
          go : (k : ℕ) (s : AppliedState) → k < length ((w.range r).log ++ p ∷ []) → right_of (state_at (happens (w.range r) (Commit p)) k) (entry ((w.range r).log ++ p ∷ []) k) ≡ Some s
              → (k < length (w.range r).log) ⊎ (length (w.range r).log ≤ k) → v.opened s.desc.id ≡ true
          go k s m e (inl lt) = onto.opened s.desc.id (x.opened r k s lt
              (ap (λ t. right_of t (entry (w.range r).log k)) (later_state (w.range r) (happens (w.range r) (Commit p)) one k (omega arith))
              ∙ ap (right_of (state_at (happens (w.range r) (Commit p)) k)) (later_entry (w.range r) (happens (w.range r) (Commit p)) one k lt) ∙ e)) where
                one : IsLater (w.range r) (happens (w.range r) (Commit p))
                one = record { events = Commit p ∷ []; lawful = (l.lawful, tt); reached = refl }
          go k s m e (inr ge) =
              let long = length-append (w.range r).log (p ∷ []) in
              let same : length (w.range r).log ≡ k = omega arith in
              let one : IsLater (w.range r) (happens (w.range r) (Commit p)) = record { events = Commit p ∷ []; lawful = (l.lawful, tt); reached = refl } in
              all s (ap (right_of now) (sym (get_or-append_seam (w.range r).log p [] Nothing))
              ∙ ap (λ t. right_of t (entry ((w.range r).log ++ p ∷ []) (length (w.range r).log))) (later_state (w.range r) (happens (w.range r) (Commit p)) one (length (w.range r).log) (omega arith))
              ∙ subst (λ i. right_of (state_at (happens (w.range r) (Commit p)) i) (entry ((w.range r).log ++ p ∷ []) i) ≡ Some s) (sym same) e)

    opened_grown : AllOpened v
    opened_grown = record {
      opened = λ q k s m e.
          let less = short q in
          let there : grown.opened q ≡ true = by q k (omega arith) in
          opened_in_grown q k s (omega arith)
          (ap (λ t. right_of t (entry (grown.range q).log k)) (later_state (grown.range q) (v.range q) (onto.later q there) k (omega arith))
          ∙ ap (right_of (state_at (v.range q) k)) (later_entry (grown.range q) (v.range q) (onto.later q there) k (omega arith)) ∙ e);
    } where
      by : (q k : ℕ) → k < length (grown.range q).log → grown.opened q ≡ true
      by q k m = is_there grown (whole_in w h r (Commit p) l.lawful l.there (λ z k. k)) q k m

  opened_commit : AllOpened (after_event w r (Commit p))
  opened_commit = right (right_of now p) refl (onto_right grown (whole_in w h r (Commit p) l.lawful l.there (λ z k. k)) (right_of now p)) where
    right : (o : Option AppliedState) → right_of now p ≡ o → Onto grown (with_right grown o) → AllOpened (with_right grown o)
    right None e onto = opened_grown grown onto (λ q. omega arith) (λ s f. absurd cc)
    right (Some s) e onto = go (w.opened s.desc.id) refl onto where
      same : (t : AppliedState) → right_of now p ≡ Some t → s ≡ t
      same t f = cc

      go : (b : Bool) → w.opened s.desc.id ≡ b → Onto grown (cond b grown (record grown { range = with_node grown.range s.desc.id (begin s); opened = with_node w.opened s.desc.id true }))
          → AllOpened (cond b grown (record grown { range = with_node grown.range s.desc.id (begin s); opened = with_node w.opened s.desc.id true }))
      go true b onto = opened_grown grown onto (λ q. omega arith) (λ t f. subst (λ (u : AppliedState). w.opened u.desc.id ≡ true) (same t f) b)
      go false b onto = opened_grown _ onto (short_in grown s.desc.id (begin s) (omega arith))
          (λ t f. subst (λ (u : AppliedState). with_node w.opened s.desc.id true u.desc.id ≡ true) (same t f) (node_same w.opened s.desc.id true))

opened_step : (w : Ranges) → Whole w → AllOpened w → (y : Step) → IsLawful w y → AllOpened (after_step w y)
opened_step w h x (In r (Admit id node body)) l = opened_still w _ h x (onto_step w h (In r (Admit id node body)) l) (short_in w r (happens (w.range r) (Admit id node body)) (omega arith))
opened_step w h x (In r (Flush id max)) l = opened_still w _ h x (onto_step w h (In r (Flush id max)) l) (short_in w r (happens (w.range r) (Flush id max)) (omega arith))
opened_step w h x (In r (Return id)) l = opened_still w _ h x (onto_step w h (In r (Return id)) l) (short_in w r (happens (w.range r) (Return id)) (omega arith))
opened_step w h x (In r (Refuse id)) l = opened_still w _ h x (onto_step w h (In r (Refuse id)) l) (short_in w r (happens (w.range r) (Refuse id)) (omega arith))
opened_step w h x (In r (Commit p)) l = opened_commit w h x r p l
opened_step w h x (In r (Apply node)) l = opened_still w _ h x (onto_step w h (In r (Apply node)) l) (short_in w r (happens (w.range r) (Apply node)) (omega arith))
opened_step w h x (In r (Snapshot node to)) l = opened_still w _ h x (onto_step w h (In r (Snapshot node to)) l) (short_in w r (happens (w.range r) (Snapshot node to)) (omega arith))
opened_step w h x (In r (Remove node)) l = opened_still w _ h x (onto_step w h (In r (Remove node)) l) (short_in w r (happens (w.range r) (Remove node)) (omega arith))
opened_step w h x (In r (Restart node)) l = opened_still w _ h x (onto_step w h (In r (Restart node)) l) (short_in w r (happens (w.range r) (Restart node)) (omega arith))
opened_step w h x (Turn_away id) l = opened_still w _ h x (onto_step w h (Turn_away id) l) (λ r. omega arith)

opened_steps : (w : Ranges) (ys : List Step) → AreLawful w ys → Whole w → AllOpened w → AllOpened (after_steps w ys)
opened_steps w [] l h x = x
opened_steps w (y ∷ ys) l h x = opened_steps (after_step w y) ys l.1 (whole_step w h y l.0) (opened_step w h x y l.0)

pub all_opened : (w : Ranges) → AreReached w → AllOpened w
all_opened w r = subst AllOpened r.reached (opened_steps at_first r.steps r.lawful whole_first opened_first)

-- a split that is taken opens its right range, which starts from it
pub split_opens : (w : Ranges) → AreReached w → (r k : ℕ) (s : AppliedState) → k < length (w.range r).log
    → right_of (state_at (w.range r) k) (entry (w.range r).log k) ≡ Some s → (w.opened s.desc.id ≡ true) × ((w.range s.desc.id).start ≡ s)
split_opens w reach r k s l e = (there, go source.origin) where
  there : w.opened s.desc.id ≡ true
  there = (all_opened w reach).opened r k s l e

  source : Source w s.desc.id
  source = sources_reached w reach s.desc.id there

  go : ((s.desc.id ≡ 0) × ((w.range s.desc.id).start ≡ first_applied)) ⊎ IsOrigin w (w.range s.desc.id).start → (w.range s.desc.id).start ≡ s
  go (inl p) = let n = numbered w reach r k s l e in let b = own_below w reach r k s l e in let z = p.0 in absurd (omega arith)
  go (inr x) =
      let one = one_origin w reach x.left r x.index k (w.range s.desc.id).start s x.below l x.opens e source.numbered in
      let same : right_of (state_at (w.range r) k) (entry (w.range r).log k) ≡ Some (w.range s.desc.id).start =
      subst (λ i. right_of (state_at (w.range r) i) (entry (w.range r).log i) ≡ Some (w.range s.desc.id).start) one.1
      (subst (λ z. right_of (state_at (w.range z) x.index) (entry (w.range z).log x.index) ≡ Some (w.range s.desc.id).start) one.0 x.opens) in
      cc
