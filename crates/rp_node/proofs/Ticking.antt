-- An event of every live replica: its plans, one turn after another, make what the event makes.
use Rattle.std.proofs.Common.{◌≡◌, ◌<◌, ◌≤◌, ℕ, zero, suc, ◌+◌, List, ◌∷◌, [], ◌++◌, length, map, drop, take, get_or, slice_index_or, slice_set, sum_by, Option, None, Some, MatchOption, refl, sym, ap, subst, ◌∙◌, arith, below_more, length-append, get_or-set_other}
use Rattle.std.proofs.Math.ListN.{get_or-append}
use Rattle.std.proofs.Math.Seq.{get_or-append_seam, map-set_same}
use Rattle.std.proofs.lemmas.List.{get_or-set_same}
use Rattle.std.proofs.lemmas.List.Sums.{sum_by-cons, sum_by_more}
use Rattle.rp_request.specs.Applied.{AppliedState}
use Rattle.rp_request.specs.States.{first_applied}
use Rattle.rp_events.specs.Replicas as replicas
use Rattle.rp_events.specs.Replicas.{Done, started}
use Rattle.rp_events.specs.ReplicaEvents.{event}
use Rattle.rp_events.specs.MaySteps.{SeatAllows}
use Rattle.rp_events.specs.declared.answers.Effects.{Effects}
use Rattle.rp_events.specs.declared.answers.EventAnswer.{EventAnswer}
use Rattle.rp_events.specs.declared.answers.EventAnswer.TheVariants as answers
use Rattle.rp_events.specs.declared.journals.PastEvent.{PastEvent}
use Rattle.rp_events.specs.declared.replica_events.ReplicaEvent.{ReplicaEvent}
use Rattle.rp_events.specs.declared.replica_events.ReplicaEvent.TheVariants as at_replica
use Rattle.rp_events.specs.Nodes.{Node, NodeDone, Status, Absent, Live, Removed, seat, opened, opened_by, range_numbers, written}
use Rattle.rp_events.specs.NodeEvents.{by_status, live_turn, all_turns, done}
use Rattle.rp_replica.specs.Plans.{planned, right_in}
use Rattle.rp_replica.specs.declared.plans.ReplicaPlan.{ReplicaPlan}
use Rattle.rp_replica.specs.declared.plans.ReplicaPlan.TheVariants.{Answers, Admits, Asks, Collects, Applies, HandsOver, Cuts, Removes, Restarts}
use Rattle.rp_node.specs.declared.cores.Core.{Core}
use Rattle.rp_node.specs.declared.logs.Logs.{Logs}
use Rattle.rp_node.specs.declared.seats.Seat.{Seat}
use Rattle.rp_node.specs.declared.seats.Seat.TheVariants as seats
use Rattle.rp_node.specs.declared.ticks.NodeWide.{NodeWide}
use Rattle.rp_node.specs.declared.ticks.NodeWide.TheVariants.{Tick, Restart}
use Rattle.rp_node.specs.Cores.{AreAlike, node_of, seat_in, status_of}
use Rattle.rp_node.specs.Plans.{SeatReady, StaysLive, TurnReady, answered, effects_by, handed_out, turned, with_left}
use Rattle.rp_node.specs.Ticks.{AllReady, ArePrepared, OpensNothing, TurnedAt, ends_of, event_of, plan_in, seat_ends, seat_sends, sends_of, with_ticks}
use Rattle.rp_node.proofs.Seating.{alike_node, seat_is}
use Rattle.rp_node.proofs.Stepping.{seat_at}
use Rattle.rp_node.proofs.Turning.{ready_turn, some_same, written_node}

-- what a plan hands out does not hang on the replica
pub sends_are : (r : replicas.Replica) (p : ReplicaPlan) → length (planned r p).messages ≡ sends_of p
sends_are r (Answers answer) = refl
sends_are r (Admits p) = refl
sends_are r (Asks ask) = refl
sends_are r (Collects taken) = refl
sends_are r (Applies a) = refl
sends_are r (HandsOver h) = refl
sends_are r (Cuts p) = refl
sends_are r (Removes outcomes) = refl
sends_are r (Restarts outcomes) = refl

pub ends_are : (r : replicas.Replica) (p : ReplicaPlan) → length (planned r p).outcomes ≡ ends_of p
ends_are r (Answers answer) = refl
ends_are r (Admits p) = refl
ends_are r (Asks ask) = refl
ends_are r (Collects taken) = refl
ends_are r (Applies a) = refl
ends_are r (HandsOver h) = refl
ends_are r (Cuts p) = refl
ends_are r (Removes outcomes) = refl
ends_are r (Restarts outcomes) = refl

-- what is handed out is what the plan says
out_sizes : (s : Seat) (p q : ReplicaPlan) (e : Effects AppliedState) → Some e ≡ effects_by s q → ((r : replicas.Replica) → planned r q ≡ planned r p) → (length e.messages ≡ sends_of p) × (length e.outcomes ≡ ends_of p)
out_sizes seats.Absent p q e out does = absurd cc
out_sizes (seats.Live held) p q e out does = (
  ap (λ (x : Effects AppliedState). length x.messages) is ∙ sends_are held.replica p,
  ap (λ (x : Effects AppliedState). length x.outcomes) is ∙ ends_are held.replica p,
)
  where
    is : e ≡ handed_out (planned held.replica p)
    is = some_same e (handed_out (planned held.replica q)) out ∙ ap handed_out (does held.replica)
out_sizes (seats.Removed kept) p q e out does = absurd cc

-- another seat is not changed
set_stays : (xs : List Seat) (i k : ℕ) (new : Seat) → ¬ (k ≡ i) → seat_in (slice_set xs i new) k ≡ seat_in xs k
set_stays xs i k new other = get_or-set_other xs i k new seats.Absent other

-- without a plan nothing changes, and where no replica takes it at most a seat
pub none_stays : (c : Core) (range : ℕ) (o : Option ReplicaPlan) → o ≡ None → TurnedAt range o c c
none_stays c range o nothing = subst (λ (x : Option ReplicaPlan). TurnedAt range x c c) (sym nothing) (record {
  sent = omega arith;
  outcomes = omega arith;
  others = λ (opens : Unit {0}) (k : ℕ) (other : ¬ (k ≡ range)). refl;
})

pub seat_stays : (c : Core) (range i : ℕ) (o : Option ReplicaPlan) (new : Seat) → i ≡ range → TurnedAt range o c (record c { seats = slice_set c.seats i new })
seat_stays c range i o new at = record {
  sent = omega arith;
  outcomes = omega arith;
  others = λ (opens : OpensNothing o) (k : ℕ) (other : ¬ (k ≡ range)). set_stays c.seats i k new (λ (e : k ≡ i). other (e ∙ at));
}

-- the lists once messages and outcomes are kept
pub record TakeSpare (sends ends : ℕ) (old new : Logs) : Type 0 where
  pub sent : old.sent.spare ≤ new.sent.spare + sends
  pub outcomes : old.outcomes.spare ≤ new.outcomes.spare + ends

spare_stays : (s : Seat) (p q : ReplicaPlan) (e : Effects AppliedState) (old new : Logs) → Some e ≡ effects_by s q → ((r : replicas.Replica) → planned r q ≡ planned r p) → TakeSpare (length e.messages) (length e.outcomes) old new → TakeSpare (sends_of p) (ends_of p) old new
spare_stays s p q e old new out does take =
    let sizes : (length e.messages ≡ sends_of p) × (length e.outcomes ≡ ends_of p) = out_sizes s p q e out does in
    subst (λ (n : ℕ). TakeSpare (sends_of p) n old new) sizes.1
    (subst (λ (n : ℕ). TakeSpare n (length e.outcomes) old new) sizes.0 take)

pub turn_stays : (c : Core) (range i : ℕ) (old new : Seat) (p q : ReplicaPlan) (o : Option ReplicaPlan) (e : Effects AppliedState) (logs : Logs) → i ≡ range → o ≡ Some p → Some e ≡ effects_by old q → ((r : replicas.Replica) → planned r q ≡ planned r p) → TakeSpare (length e.messages) (length e.outcomes) c.logs logs → TurnedAt range o c (record c { seats = slice_set c.seats i new; logs = logs })
turn_stays c range i old new p q o e logs at some out does take =
    let spare : TakeSpare (sends_of p) (ends_of p) c.logs logs = spare_stays old p q e c.logs logs out does take in
    subst (λ (x : Option ReplicaPlan). TurnedAt range x c (record c { seats = slice_set c.seats i new; logs = logs })) (sym some) (record {
      sent = spare.sent;
      outcomes = spare.outcomes;
      others = λ (opens : right_in p ≡ None) (k : ℕ) (other : ¬ (k ≡ range)). set_stays c.seats i k new (λ (e : k ≡ i). other (e ∙ at));
    })

-- where a right range is opened, the plan opens one
pub opened_stays : (c new : Core) (range : ℕ) (old : Seat) (p q : ReplicaPlan) (o : Option ReplicaPlan) (right : AppliedState) (e : Effects AppliedState) (logs : Logs) → o ≡ Some p → Some right ≡ right_in p → Some e ≡ effects_by old q → ((r : replicas.Replica) → planned r q ≡ planned r p) → TakeSpare (length e.messages) (length e.outcomes) c.logs logs → new.logs ≡ logs → TurnedAt range o c new
opened_stays c new range old p q o right e logs some opens out does take same =
    let spare : TakeSpare (sends_of p) (ends_of p) c.logs new.logs = subst (λ (l : Logs). TakeSpare (sends_of p) (ends_of p) c.logs l) (sym same) (spare_stays old p q e c.logs logs out does take) in
    subst (λ (x : Option ReplicaPlan). TurnedAt range x c new) (sym some) (record {
      sent = spare.sent;
      outcomes = spare.outcomes;
      others = λ (nothing : right_in p ≡ None) (k : ℕ) (other : ¬ (k ≡ range)). absurd (no_right right (opens ∙ nothing));
    })
  where
    no_right : (s : AppliedState) → ◌≡◌ {A = Option AppliedState} (Some s) None → ⊥
    no_right s e = cc

-- neither event opens a right range, and both leave their replicas live
pub opens_nothing : (w : NodeWide) (r : replicas.Replica) (ticks rounds : ℕ) → (event r (event_of w) ticks rounds []).right ≡ None
opens_nothing Tick r ticks rounds = refl
opens_nothing Restart r ticks rounds = refl

pub stays_live : (w : NodeWide) → StaysLive (event_of w)
stays_live Tick = tt
stays_live Restart = tt

ready_opens : (w : NodeWide) (s : Seat) (ticks rounds : ℕ) (o : Option ReplicaPlan) → SeatReady s (event_of w) ticks rounds o → OpensNothing o
ready_opens w seats.Absent ticks rounds o nothing = subst OpensNothing (sym nothing) tt
ready_opens w (seats.Live held) ticks rounds None ready = tt
ready_opens w (seats.Live held) ticks rounds (Some p) ready = ready.plan.right ∙ opens_nothing w held.replica ticks rounds
ready_opens w (seats.Removed kept) ticks rounds o nothing = subst OpensNothing (sym nothing) tt

-- a seat's turn may be taken
pub ready_fits : (s : Seat) (e : ReplicaEvent AppliedState) (ticks rounds sends ends : ℕ) (o : Option ReplicaPlan) → SeatReady s e ticks rounds o → seat_sends o ≤ sends → seat_ends o ≤ ends → TurnReady s o sends ends
ready_fits seats.Absent e ticks rounds sends ends o ready sent ended = tt
ready_fits (seats.Live held) e ticks rounds sends ends None ready sent ended = tt
ready_fits (seats.Live held) e ticks rounds sends ends (Some p) ready sent ended = record {
  fits = ready.plan.makes.fits;
  room = ready.room;
  sends_fit = subst (λ (n : ℕ). n ≤ sends) (sym (sends_are held.replica p)) sent;
  ends_fit = subst (λ (n : ℕ). n ≤ ends) (sym (ends_are held.replica p)) ended;
}
ready_fits (seats.Removed kept) e ticks rounds sends ends o ready sent ended = tt

-- the event of one seat is that of the node there
status_turn : (n : Node) (range : ℕ) (e : ReplicaEvent AppliedState) (s : Status) → (by_status n range e [] s).node ≡ live_turn e n range s
status_turn n range e Absent = refl
status_turn n range e (Live r) = refl
status_turn n range e (Removed applied) = refl

-- time stands still in a turn
opened_time : (n : Node) (right : AppliedState) (s : Status) → ((opened_by n right s).ticks ≡ n.ticks) × ((opened_by n right s).rounds ≡ n.rounds)
opened_time n right Absent = (refl, refl)
opened_time n right (Live r) = (refl, refl)
opened_time n right (Removed applied) = (refl, refl)

left_time : (n : Node) (right : Option AppliedState) → ((opened n right).ticks ≡ n.ticks) × ((opened n right).rounds ≡ n.rounds)
left_time n None = (refl, refl)
left_time n (Some s) = opened_time n s (seat n s.desc.id)

turn_time : (n : Node) (range : ℕ) (o : Option ReplicaPlan) (s : Seat) → ((turned n range o s).node.ticks ≡ n.ticks) × ((turned n range o s).node.rounds ≡ n.rounds)
turn_time n range o seats.Absent = (refl, refl)
turn_time n range None (seats.Live held) = (refl, refl)
turn_time n range (Some p) (seats.Live held) = left_time (with_left n range (Live (planned held.replica p).replica) (planned held.replica p)) (right_in p)
turn_time n range o (seats.Removed kept) = (refl, refl)

-- from these plans on, in order from this range, the event goes on from here as it began
pub record TurnsLeft (w : NodeWide) (start : Node) (number : ℕ) (now : Core) (left : List (Option ReplicaPlan)) : Type 0 where
  pub many : number + length left ≡ 8
  pub nodes : now.nodes ≤ 5
  pub journal : 1 ≤ now.logs.journal.spare
  pub ready : (k range : ℕ) → range ≡ number + k → k < length left → SeatReady (seat_in now.seats range) (event_of w) now.ticks now.rounds (plan_in left k)
  pub sent : sum_by seat_sends left ≤ now.logs.sent.spare
  pub outcomes : sum_by seat_ends left ≤ now.logs.outcomes.spare
  pub turns : all_turns (event_of w) (node_of now) (drop number range_numbers) ≡ all_turns (event_of w) start range_numbers

first_ready : (w : NodeWide) (start : Node) (number : ℕ) (now : Core) (p : Option ReplicaPlan) (left : List (Option ReplicaPlan)) → TurnsLeft w start number now (p ∷ left) → SeatReady (seat_in now.seats number) (event_of w) now.ticks now.rounds p
first_ready w start number now p left t = t.ready 0 number (omega arith) (omega arith)

pub may_turn : (w : NodeWide) (start : Node) (number : ℕ) (now : Core) (p : Option ReplicaPlan) (left : List (Option ReplicaPlan)) → TurnsLeft w start number now (p ∷ left) → TurnReady (seat_in now.seats number) p now.logs.sent.spare now.logs.outcomes.spare
may_turn w start number now p left t =
    ready_fits (seat_in now.seats number) (event_of w) now.ticks now.rounds now.logs.sent.spare now.logs.outcomes.spare p
    (first_ready w start number now p left t)
    (let sum : sum_by seat_sends (p ∷ left) ≡ seat_sends p + sum_by seat_sends left = sum_by-cons seat_sends p left in omega (arith, t.sent))
    (let sum : sum_by seat_ends (p ∷ left) ≡ seat_ends p + sum_by seat_ends left = sum_by-cons seat_ends p left in omega (arith, t.outcomes))

-- a range is left
pub within_eight : (w : NodeWide) (start : Node) (number : ℕ) (now : Core) (p : Option ReplicaPlan) (left : List (Option ReplicaPlan)) → TurnsLeft w start number now (p ∷ left) → number ≤ 7
within_eight w start number now p left t = omega (arith, t.many)

-- the next range
pub next_number : (number : ℕ) → number < 8 → drop number range_numbers ≡ number ∷ drop (number + 1) range_numbers
next_number zero within = refl
next_number (suc zero) within = refl
next_number (suc (suc zero)) within = refl
next_number (suc (suc (suc zero))) within = refl
next_number (suc (suc (suc (suc zero)))) within = refl
next_number (suc (suc (suc (suc (suc zero))))) within = refl
next_number (suc (suc (suc (suc (suc (suc zero)))))) within = refl
next_number (suc (suc (suc (suc (suc (suc (suc zero))))))) within = refl
next_number (suc (suc (suc (suc (suc (suc (suc (suc k)))))))) within = absurd (omega arith)

-- a range's turn was taken
pub turn_more : (w : NodeWide) (start : Node) (number : ℕ) (now new : Core) (p : Option ReplicaPlan) (left : List (Option ReplicaPlan)) (answer : EventAnswer) → TurnsLeft w start number now (p ∷ left) → answered (node_of new) answer ≡ turned (node_of now) number p (seat_in now.seats number) → TurnedAt number p now new → new.logs.journal ≡ now.logs.journal → new.nodes ≡ now.nodes → TurnsLeft w start (number + 1) new left
turn_more w start number now new p left answer t does at journal nodes = record {
  many = omega (arith, t.many);
  nodes = subst (λ (n : ℕ). n ≤ 5) (sym nodes) t.nodes;
  journal = rw journal t.journal;
  ready = λ (k range : ℕ) (is : range ≡ number + 1 + k) (within : k < length left). ready k range is within;
  sent = let sum : sum_by seat_sends (p ∷ left) ≡ seat_sends p + sum_by seat_sends left = sum_by-cons seat_sends p left in omega (arith, t.sent, at.sent);
  outcomes = let sum : sum_by seat_ends (p ∷ left) ≡ seat_ends p + sum_by seat_ends left = sum_by-cons seat_ends p left in omega (arith, t.outcomes, at.outcomes);
  turns = turns;
}
  where
    here : SeatReady (seat_in now.seats number) (event_of w) now.ticks now.rounds p
    here = first_ready w start number now p left t

    ticks : new.ticks ≡ now.ticks
    ticks = ap (λ (d : NodeDone). d.node.ticks) does ∙ (turn_time (node_of now) number p (seat_in now.seats number)).0

    rounds : new.rounds ≡ now.rounds
    rounds = ap (λ (d : NodeDone). d.node.rounds) does ∙ (turn_time (node_of now) number p (seat_in now.seats number)).1

    ready : (k range : ℕ) → range ≡ number + 1 + k → k < length left → SeatReady (seat_in new.seats range) (event_of w) new.ticks new.rounds (plan_in left k)
    ready k range is within =
        subst (λ (s : Seat). SeatReady s (event_of w) new.ticks new.rounds (plan_in left k)) (sym (at.others (ready_opens w (seat_in now.seats number) now.ticks now.rounds p here) range (λ (same : range ≡ number). omega arith)))
        (subst (λ (x : ℕ). SeatReady (seat_in now.seats range) (event_of w) x new.rounds (plan_in left k)) (sym ticks)
        (subst (λ (x : ℕ). SeatReady (seat_in now.seats range) (event_of w) now.ticks x (plan_in left k)) (sym rounds)
        (t.ready (suc k) range (omega arith) (omega arith))))

    turn : node_of new ≡ live_turn (event_of w) (node_of now) number (seat (node_of now) number)
    turn =
        ap (λ (d : NodeDone). d.node) (does ∙ ready_turn (node_of now) number (event_of w) p (seat_in now.seats number) here (stays_live w))
        ∙ status_turn (node_of now) number (event_of w) (status_of (seat_in now.seats number))
        ∙ ap (λ (s : Status). live_turn (event_of w) (node_of now) number s) (sym (seat_at now.seats number))

    turns : all_turns (event_of w) (node_of new) (drop (number + 1) range_numbers) ≡ all_turns (event_of w) start range_numbers
    turns =
        ap (λ (n : Node). all_turns (event_of w) n (drop (number + 1) range_numbers)) turn
        ∙ ap (λ (l : List ℕ). all_turns (event_of w) (node_of now) l) (sym (next_number number (omega (arith, t.many))))
        ∙ t.turns

-- all turns are taken
pub turns_end : (w : NodeWide) (start : Node) (number : ℕ) (now : Core) (left : List (Option ReplicaPlan)) → TurnsLeft w start number now left → length left ≡ 0 → node_of now ≡ all_turns (event_of w) start range_numbers
turns_end w start number now left t nothing =
    ap (λ (l : List ℕ). all_turns (event_of w) (node_of now) l) (ap (λ (k : ℕ). drop k range_numbers) (let e : 8 ≡ number = omega (arith, t.many) in e))
    ∙ t.turns

-- and nothing at first
pub turns_begin : (w : NodeWide) (c : Core) (ticks : ℕ) (plans : List (Option ReplicaPlan)) → length c.seats ≡ 8 → c.nodes ≤ 5 → ArePrepared c.seats c.logs (event_of w) ticks c.rounds plans → TurnsLeft w (node_of (record c { ticks = ticks })) 0 (record c { ticks = ticks }) plans
turns_begin w c ticks plans eight nodes p = record {
  many = omega (arith, p.ready.many, eight);
  nodes = nodes;
  journal = p.spare.journal;
  ready = λ (k range : ℕ) (is : range ≡ 0 + k) (within : k < length plans). subst (λ (x : ℕ). SeatReady (seat_in c.seats range) (event_of w) ticks c.rounds (plan_in plans x)) (let e : range ≡ k = omega arith in e) (p.ready.each range (omega arith));
  sent = p.spare.sent;
  outcomes = p.spare.outcomes;
  turns = refl;
}

-- the same with what is left as another list, and at a range that is this number
pub left_is : (w : NodeWide) (start : Node) (number : ℕ) (now : Core) (left same : List (Option ReplicaPlan)) → left ≡ same → TurnsLeft w start number now left → TurnsLeft w start number now same
left_is w start number now left same is t = subst (λ (l : List (Option ReplicaPlan)). TurnsLeft w start number now l) is t

pub may_turn_at : (w : NodeWide) (start : Node) (number range : ℕ) (now : Core) (p : Option ReplicaPlan) (left : List (Option ReplicaPlan)) → range ≡ number → TurnsLeft w start number now (p ∷ left) → TurnReady (seat_in now.seats range) p now.logs.sent.spare now.logs.outcomes.spare
may_turn_at w start number range now p left at t =
    subst (λ (k : ℕ). TurnReady (seat_in now.seats k) p now.logs.sent.spare now.logs.outcomes.spare) (sym at) (may_turn w start number now p left t)

pub turn_more_at : (w : NodeWide) (start : Node) (number range next : ℕ) (now new : Core) (p : Option ReplicaPlan) (left : List (Option ReplicaPlan)) (answer : EventAnswer) → range ≡ number → next ≡ number + 1 → TurnsLeft w start number now (p ∷ left) → answered (node_of new) answer ≡ turned (node_of now) range p (seat_in now.seats range) → TurnedAt range p now new → new.logs.journal ≡ now.logs.journal → new.nodes ≡ now.nodes → TurnsLeft w start next new left
turn_more_at w start number range next now new p left answer at up t does stays journal nodes =
    subst (λ (k : ℕ). TurnsLeft w start k new left) (sym up)
    (turn_more w start number now new p left answer t
    (subst (λ (k : ℕ). answered (node_of new) answer ≡ turned (node_of now) k p (seat_in now.seats k)) at does)
    (subst (λ (k : ℕ). TurnedAt k p now new) at stays)
    journal nodes)

-- all turns are taken, and the event is written down
pub all_node : (w : NodeWide) (old prepared after : Core) (logs : Logs) (ticks number : ℕ) (past : PastEvent) (left : List (Option ReplicaPlan)) → node_of prepared ≡ node_of old → TurnsLeft w (node_of (record prepared { ticks = ticks })) number after left → length left ≡ 0 → logs.journal.list ≡ after.logs.journal.list ++ record { event = past; answer = answers.Done } ∷ [] → logs.sent ≡ after.logs.sent → logs.outcomes ≡ after.logs.outcomes → logs.requests ≡ after.logs.requests → answered (node_of (record after { logs = logs })) answers.Done ≡ written past (done (all_turns (event_of w) (with_ticks (node_of old) ticks) range_numbers))
all_node w old prepared after logs ticks number past left same t ended journal sent outcomes requests =
    written_node after logs past answers.Done journal sent outcomes requests
    ∙ ap (λ (n : Node). written past (answered n answers.Done)) (turns_end w (node_of (record prepared { ticks = ticks })) number after left t ended)
    ∙ ap (λ (n : Node). written past (done (all_turns (event_of w) (with_ticks n ticks) range_numbers))) same

-- what the first seats plan, each in the state of its own seat
pub record PlansSoFar (e : ReplicaEvent AppliedState) (ticks rounds : ℕ) (start now : List Seat) (i : ℕ) (plans : List (Option ReplicaPlan)) : Type 0 where
  pub many : length plans ≡ i
  pub same : map status_of now ≡ map status_of start
  pub each : (k : ℕ) → k < i → SeatReady (seat_in now k) e ticks rounds (plan_in plans k)

-- a seat may plan what the node allows
pub may_plan : (e : ReplicaEvent AppliedState) (ticks rounds : ℕ) (start now : List Seat) (i : ℕ) (old : Seat) (plans : List (Option ReplicaPlan)) → ((range : ℕ) → SeatAllows (slice_index_or (map status_of start) range Absent) e ticks) → PlansSoFar e ticks rounds start now i plans → i < length now → old ≡ get_or now i old → SeatAllows (status_of old) e ticks
may_plan e ticks rounds start now i old plans allows p within is =
    subst (λ (s : Status). SeatAllows s e ticks)
    (ap (λ (l : List Status). slice_index_or l i Absent) (sym p.same) ∙ seat_at now i ∙ ap status_of (seat_is now i old within is))
    (allows i)

-- and stays as it was, room aside
pub seats_stay : (start now : List Seat) (i : ℕ) (old new : Seat) → old ≡ get_or now i old → status_of new ≡ status_of old → map status_of now ≡ map status_of start → map status_of (slice_set now i new) ≡ map status_of start
seats_stay start now i old new is status same = map-set_same status_of now i new old (status ∙ ap status_of is) ∙ same

-- one seat more has planned
pub plan_more : (e : ReplicaEvent AppliedState) (ticks rounds : ℕ) (start now : List Seat) (i : ℕ) (old new : Seat) (plans : List (Option ReplicaPlan)) (p : Option ReplicaPlan) → PlansSoFar e ticks rounds start now i plans → i < length now → old ≡ get_or now i old → status_of new ≡ status_of old → SeatReady new e ticks rounds p → PlansSoFar e ticks rounds start (slice_set now i new) (i + 1) (plans ++ p ∷ [])
plan_more e ticks rounds start now i old new plans p so_far within is status ready = record {
  many = omega (arith, length-append plans (p ∷ []), so_far.many);
  same = seats_stay start now i old new is status so_far.same;
  each = λ (k : ℕ) (less : k < i + 1). below_more (λ (j : ℕ). SeatReady (seat_in (slice_set now i new) j) e ticks rounds (plan_in (plans ++ p ∷ []) j)) i below here k less;
}
  where
    below : (k : ℕ) → k < i → SeatReady (seat_in (slice_set now i new) k) e ticks rounds (plan_in (plans ++ p ∷ []) k)
    below k less =
        subst (λ (s : Seat). SeatReady s e ticks rounds (plan_in (plans ++ p ∷ []) k)) (sym (get_or-set_other now i k new seats.Absent (λ (same : k ≡ i). omega arith)))
        (subst (λ (o : Option ReplicaPlan). SeatReady (seat_in now k) e ticks rounds o) (sym (get_or-append plans (p ∷ []) None k (omega (arith, so_far.many))))
        (so_far.each k less))

    last : plan_in (plans ++ p ∷ []) i ≡ p
    last = ap (λ (k : ℕ). plan_in (plans ++ p ∷ []) k) (sym so_far.many) ∙ get_or-append_seam plans p [] None

    here : SeatReady (seat_in (slice_set now i new) i) e ticks rounds (plan_in (plans ++ p ∷ []) i)
    here =
        subst (λ (s : Seat). SeatReady s e ticks rounds (plan_in (plans ++ p ∷ []) i)) (sym (get_or-set_same now i new seats.Absent within))
        (subst (λ (o : Option ReplicaPlan). SeatReady new e ticks rounds o) (sym last) ready)

-- all have planned
pub plans_end : (e : ReplicaEvent AppliedState) (ticks rounds : ℕ) (start now : List Seat) (i : ℕ) (plans : List (Option ReplicaPlan)) → PlansSoFar e ticks rounds start now i plans → length now ≡ i → AllReady now e ticks rounds plans
plans_end e ticks rounds start now i plans p all = record {
  many = p.many ∙ sym all;
  each = λ (range : ℕ) (within : range < length plans). p.each range (omega (arith, p.many));
}

-- the node with seats and lists that are the same, room aside
pub planned_node : (c : Core) (now : List Seat) (logs : Logs) → map status_of now ≡ map status_of c.seats → AreAlike c.logs logs → node_of (record c { seats = now; logs = logs }) ≡ node_of c
planned_node c now logs same alike =
    alike_node (record c { seats = now }) logs alike
    ∙ ap (λ (l : List Status). record (node_of c) { seats = l }) same

-- the sizes of a plan are no less than what it hands out
pub sizes_fit : (o : Option ReplicaPlan) (sends ends : ℕ) → MatchOption o (Unit {0}) (λ (p : ReplicaPlan). (r : replicas.Replica) → (sends ≡ length (planned r p).messages) × (ends ≡ length (planned r p).outcomes)) → (seat_sends o ≤ sends) × (seat_ends o ≤ ends)
sizes_fit None sends ends is = (omega arith, omega arith)
sizes_fit (Some p) sends ends is = (
  subst (λ (n : ℕ). n ≤ sends) (sends_are some p) (subst (λ (n : ℕ). n ≤ sends) (is some).0 (omega arith)),
  subst (λ (n : ℕ). n ≤ ends) (ends_are some p) (subst (λ (n : ℕ). n ≤ ends) (is some).1 (omega arith)),
)
  where
    some : replicas.Replica
    some = started 1 1 1 0 0 first_applied

-- one plan more in a sum
pub sum_more : (size : Option ReplicaPlan → ℕ) (xs : List (Option ReplicaPlan)) (i : ℕ) (o : Option ReplicaPlan) (total more new : ℕ) → sum_by size (take i xs) ≤ total → i < length xs → o ≡ get_or xs i o → size o ≤ more → new ≡ total + more → sum_by size (take (i + 1) xs) ≤ new
sum_more size xs i o total more new so_far within is fits adds =
    let step : sum_by size (take (i + 1) xs) ≡ sum_by size (take i xs) + size (get_or xs i o) = sum_by_more size xs i o within in
    let same : size (get_or xs i o) ≡ size o = ap size (sym is) in
    omega arith

-- a restart is allowed everywhere
pub may_restart : (s : Status) (ticks : ℕ) → SeatAllows s at_replica.Restart ticks
may_restart Absent ticks = tt
may_restart (Live r) ticks = tt
may_restart (Removed applied) ticks = tt
