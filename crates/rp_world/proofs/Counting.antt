-- An event in its parts: it may be counted, it happens, it is counted, and the weight is judged.
use Rattle.std.proofs.Common.{◌≡◌, ℕ, ◌+◌, ◌==◌, Bool, true, false, Option, None, Some, Result, Ok, Err, List, ◌++◌, ◌∷◌, [], cond, min, refl, sym, ap, subst, ◌∙◌, ◌≤◌, arith, eq-eqb}
use Rattle.std.specs.Prelude.{nat_lt}
use Rattle.rp_base.specs.Gives.{Fails, Gives}
use Rattle.rp_base.specs.declared.ids.CmdId.{CmdId}
use Rattle.rp_base.specs.declared.limits.Which.TheVariants.{Events, Weight}
use Rattle.rp_book.specs.declared.bookings.Booked.{Booked}
use Rattle.rp_book.specs.Books.{Book}
use Rattle.rp_events.specs.declared.world_events.WorldEvent.{WorldEvent}
use Rattle.rp_events.specs.Buffered.{buffered_step}
use Rattle.rp_lines.specs.Commands.{asks}
use Rattle.rp_lines.specs.Players.{Limit, Player, Played, and_then, did, most_count, most_events, most_weight, noted, weight, weighed, with_booking}
use Rattle.rp_world.specs.declared.faults.PlayFault.{PlayFault}
use Rattle.rp_world.specs.declared.faults.PlayFault.TheVariants as faults
use Rattle.rp_world.specs.Plays.{Does, admission, happened, limit_of, one_event_more, unspent}

pub same_played : (a c : Player) → ◌≡◌ {A = Played} (Ok a) (Ok c) → c ≡ a
same_played a c e = cc

-- all events that may come have come
abbrev spent : Limit
spent = record { which = Events; count = most_events }

pub did_parts : (e : WorldEvent) (p : Player) → did e p ≡ and_then (unspent p) (λ q. weighed (one_event_more (happened e q)))
did_parts e p = go (p.events == most_events) where
  go : (b : Bool) → cond b (Err spent) (weighed (one_event_more (happened e p)))
      ≡ and_then (cond b (Err spent) (Ok p)) (λ q. weighed (one_event_more (happened e q)))
  go true = refl
  go false = refl

pub asks_parts : (id : CmdId) (b : Booked) (p : Player) → asks id b p
    ≡ and_then (unspent p) (λ q. weighed (one_event_more (happened (admission id b) (with_booking id b q))))
asks_parts id b p = go (p.events == most_events) where
  go : (c : Bool) → cond c (Err spent) (weighed (one_event_more (happened (admission id b) (with_booking id b p))))
      ≡ and_then (cond c (Err spent) (Ok p)) (λ q. weighed (one_event_more (happened (admission id b) (with_booking id b q))))
  go true = refl
  go false = refl

-- where an event may be counted
pub unspent_test : (p q : Player) → unspent p ≡ Ok q → (p.events == most_events) ≡ false
unspent_test p q e = go (p.events == most_events) e where
  go : (b : Bool) → ◌≡◌ {A = Played} (cond b (Err spent) (Ok p)) (Ok q) → b ≡ false
  go true e = absurd cc
  go false e = refl

pub unspent_is : (p q : Player) → unspent p ≡ Ok q → q ≡ p
unspent_is p q e = go (p.events == most_events) e where
  go : (b : Bool) → ◌≡◌ {A = Played} (cond b (Err spent) (Ok p)) (Ok q) → q ≡ p
  go true e = absurd cc
  go false e = same_played p q e

pub weighed_is : (p q : Player) → weighed p ≡ Ok q → q ≡ p
weighed_is p q e = go (nat_lt most_weight (weight p.world.nodes)) e where
  go : (b : Bool) → ◌≡◌ {A = Played} (cond b (Err (record { which = Weight; count = min (weight p.world.nodes) most_count })) (Ok p)) (Ok q) → q ≡ p
  go true e = absurd cc
  go false e = same_played p q e

-- an event that may not be counted ends the play
pub spent_did : (o : Option Limit) (e : WorldEvent) (p : Player) → Fails o (unspent p) → Fails o (did e p)
spent_did None e p h = tt
spent_did (Some l) e p h = did_parts e p ∙ ap (λ m. and_then m (λ q. weighed (one_event_more (happened e q)))) h

pub spent_asks : (o : Option Limit) (id : CmdId) (b : Booked) (p : Player) → Fails o (unspent p) → Fails o (asks id b p)
spent_asks None id b p h = tt
spent_asks (Some l) id b p h = asks_parts id b p ∙ ap (λ m. and_then m (λ q. weighed (one_event_more (happened (admission id b) (with_booking id b q))))) h

-- an event that was counted leaves what the weight lets through
pub counted_did : {A : Type 0} (r : Result A PlayFault) (e : WorldEvent) (p mid new : Player) → unspent p ≡ Ok p → mid ≡ one_event_more (happened e p)
    → Does r new (weighed mid) → Does r new (did e p)
counted_did r e p mid new may is h =
    subst (Does r new) (sym (did_parts e p ∙ ap (λ m. and_then m (λ q. weighed (one_event_more (happened e q)))) may))
    (subst (λ m. Does r new (weighed m)) is h)

pub counted_asks : {A : Type 0} (r : Result A PlayFault) (id : CmdId) (b : Booked) (p mid new : Player) → unspent p ≡ Ok p
    → mid ≡ one_event_more (happened (admission id b) (with_booking id b p)) → Does r new (weighed mid) → Does r new (asks id b p)
counted_asks r id b p mid new may is h =
    subst (Does r new) (sym (asks_parts id b p ∙ ap (λ m. and_then m (λ q. weighed (one_event_more (happened (admission id b) (with_booking id b q))))) may))
    (subst (λ m. Does r new (weighed m)) is h)

-- want of memory says nothing
pub no_memory_says : (A : Type 0) (e : PlayFault) (new : Player) (meant : Played) → e ≡ faults.NoMemory → Does {A = A} (Err e) new meant
no_memory_says A e new meant is = subst (λ f. Does {A = A} (Err f) new meant) (sym is) tt

-- the weight is too great
abbrev heavy : WorldEvent → Player → Limit
heavy e p = record { which = Weight; count = min (weight (buffered_step p.world e).nodes) most_count }

abbrev did_by : WorldEvent → Player → (b c : Bool) → Played
did_by e p b c = cond b (Err spent) (cond c (Err (heavy e p)) (Ok (one_event_more (happened e p))))

-- what an event leaves
pub did_is : (e : WorldEvent) (p q : Player) → did e p ≡ Ok q → q ≡ one_event_more (happened e p)
did_is e p q is = go (p.events == most_events) (nat_lt most_weight (weight (buffered_step p.world e).nodes)) is where
  go : (b c : Bool) → did_by e p b c ≡ Ok q → q ≡ one_event_more (happened e p)
  go true c is = absurd cc
  go false true is = absurd cc
  go false false is = same_played (one_event_more (happened e p)) q is

-- an event is the same beside another book, and other notes
pub did_book : (e : WorldEvent) (p q : Player) (change : Book → Book) → did e p ≡ Ok q → did e (record p { book = change p.book }) ≡ Ok (record q { book = change q.book })
did_book e p q change is = go (p.events == most_events) (nat_lt most_weight (weight (buffered_step p.world e).nodes)) is where
  go : (b c : Bool) → did_by e p b c ≡ Ok q → did_by e (record p { book = change p.book }) b c ≡ Ok (record q { book = change q.book })
  go true c is = absurd cc
  go false true is = absurd cc
  go false false is = ap (λ (m : Player). Ok (record m { book = change m.book })) (sym (same_played (one_event_more (happened e p)) q is))

pub did_notes : (e : WorldEvent) (p q : Player) (line : ℕ) (text : List ℕ) → did e p ≡ Ok q → did e (noted line text p) ≡ Ok (noted line text q)
did_notes e p q line text is = go (p.events == most_events) (nat_lt most_weight (weight (buffered_step p.world e).nodes)) is where
  go : (b c : Bool) → did_by e p b c ≡ Ok q → did_by e (noted line text p) b c ≡ Ok (noted line text q)
  go true c is = absurd cc
  go false true is = absurd cc
  go false false is = ap (λ (m : Player). Ok (noted line text m)) (sym (same_played (one_event_more (happened e p)) q is))

-- and meets the same limits
pub fails_book : (o : Option Limit) (e : WorldEvent) (p : Player) (book : Book) → Fails o (did e p) → Fails o (did e (record p { book = book }))
fails_book None e p book h = tt
fails_book (Some l) e p book h = go (p.events == most_events) (nat_lt most_weight (weight (buffered_step p.world e).nodes)) h where
  go : (b c : Bool) → did_by e p b c ≡ Err l → did_by e (record p { book = book }) b c ≡ Err l
  go true c is = is
  go false true is = is
  go false false is = absurd cc

pub fails_notes : (o : Option Limit) (e : WorldEvent) (p : Player) (line : ℕ) (text : List ℕ) → Fails o (did e p) → Fails o (did e (noted line text p))
fails_notes None e p line text h = tt
fails_notes (Some l) e p line text h = go (p.events == most_events) (nat_lt most_weight (weight (buffered_step p.world e).nodes)) h where
  go : (b c : Bool) → did_by e p b c ≡ Err l → did_by e (noted line text p) b c ≡ Err l
  go true c is = is
  go false true is = is
  go false false is = absurd cc

-- one more event may be counted
pub one_more : (n most : ℕ) → (n == most) ≡ false → n ≤ most → n + 1 ≤ most
one_more n most h le =
    let ne : n ≡ most → ⊥ = λ e. clash (sym (eq-eqb n most e) ∙ h) in omega arith
  where
    clash : ◌≡◌ {A = Bool} true false → ⊥
    clash e = cc

-- an event that was counted, and that the weight lets through
pub counted_ok : (e : WorldEvent) (p mid new : Player) → unspent p ≡ Ok p → mid ≡ happened e p → new ≡ one_event_more mid → weighed new ≡ Ok new → did e p ≡ Ok new
counted_ok e p mid new may happens counts weighs =
    did_parts e p ∙ ap (λ m. and_then m (λ q. weighed (one_event_more (happened e q)))) may
    ∙ ap weighed (sym (counts ∙ ap one_event_more happens)) ∙ weighs
