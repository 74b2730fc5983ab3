-- What has ended never waits again, and a round of a settling passes over it.
use Rattle.std.proofs.Common.{◌≡◌, ℕ, Bool, true, false, cond, Option, None, Some, Ok, Err, List, [], ◌∷◌, refl, sym, ap, subst, ◌∙◌}
use Rattle.std.specs.Prelude.{◌+◌, ◌&&◌, not, ◌==◌, nat_lt, min, filter}
use Rattle.std.specs.Option.{option_map_or}
use Rattle.rp_base.specs.declared.ids.CmdId.{CmdId}
use Rattle.rp_base.specs.declared.items.Item.TheVariants as items
use Rattle.rp_base.specs.declared.limits.Which.TheVariants.{Events, Weight}
use Rattle.rp_bufcore.specs.Buffers.{can_draw}
use Rattle.rp_request.specs.declared.outcomes.Outcome.{Outcome}
use Rattle.rp_request.specs.declared.outcomes.Outcome.TheVariants as outcomes
use Rattle.rp_pending.specs.Proposals.{proposal_of, is_proposed}
use Rattle.rp_pending.specs.declared.proposals.Proposal.{Proposal}
use Rattle.rp_events.specs.declared.world_events.WorldEvent.{WorldEvent}
use Rattle.rp_events.specs.declared.world_events.WorldEvent.TheVariants as events
use Rattle.rp_events.specs.Replicas.{Replica}
use Rattle.rp_events.specs.Nodes.{Node, Status, Absent, Live, Removed, seat}
use Rattle.rp_events.specs.Worlds.{World, node_of, outcome_of, asked_at, is_admission_of}
use Rattle.rp_events.specs.Lawful.{IsReached, IsLater}
use Rattle.rp_events.specs.Buffered.{buffered_step}
use Rattle.rp_journals.proofs.Asking.{any_at, asked_once}
use Rattle.rp_journals.proofs.Growing.{later_grows, reached_later}
use Rattle.rp_journals.proofs.Staying.{outcome_stays, asked_stays}
use Rattle.rp_journals.proofs.Telling.{OutcomeFrom, ToldBy, outcome_from, told_by}
use Rattle.rp_journals.proofs.Waiting.{pending_is_told, outcome_here}
use Rattle.rp_report.specs.Notes.{full_text}
use Rattle.rp_book.specs.declared.bookings.Booked.{Booked}
use Rattle.rp_book.specs.declared.bookings.Draw.{Draw}
use Rattle.rp_book.specs.declared.bookings.Draw.TheVariants.{Undrawn, Drawn, Published}
use Rattle.rp_book.specs.Books.{booking_of, by_attempt}
use Rattle.rp_lines.specs.Players.{Player, Played, and_then, did, weighed, noted, weight, most_count, most_events, most_weight}
use Rattle.rp_lines.specs.Commands.{waits_in, is_waiting, buffer_at, with_draw, publishes, draws, publishes_drawn, publishes_booked, draws_and_publishes}
use Rattle.rp_lines.specs.Settling.{for_each, is_latest, puts, puts_all}
use Rattle.rp_told.specs.Outcomes.{is_pending, is_open, has_ended}
use Rattle.rp_told.specs.Puts.{may_put, may_put_entry, puts_entry}

-- what waits is told to be pending
pub waits_told : (nodes : ℕ) (w : World) → IsReached nodes w → (id : CmdId) (b : Booked) → is_waiting w id b ≡ true → outcome_of w id ≡ Some outcomes.Pending
waits_told nodes w r id b e = by_node (node_of w b.node) refl e where
  by_proposal : (n : Node) → node_of w b.node ≡ Some n → (replica : Replica) → seat n b.range ≡ Live replica → (o : Option Proposal) → proposal_of id replica.pending ≡ o
      → option_map_or (λ (p : Proposal). not (is_proposed p.stage)) o false ≡ true → outcome_of w id ≡ Some outcomes.Pending
  by_proposal n has replica live None is e' = absurd cc
  by_proposal n has replica live (Some p) is e' = (pending_is_told nodes w r b.node b.range replica (record { n = n; has = has; live = live }) id p is).told

  by_seat : (n : Node) → node_of w b.node ≡ Some n → (s : Status) → seat n b.range ≡ s → waits_in id s ≡ true → outcome_of w id ≡ Some outcomes.Pending
  by_seat n has Absent is e' = absurd cc
  by_seat n has (Live replica) is e' = by_proposal n has replica is (proposal_of id replica.pending) refl e'
  by_seat n has (Removed applied) is e' = absurd cc

  by_node : (o : Option Node) → node_of w b.node ≡ o → option_map_or (λ (n : Node). waits_in id (seat n b.range)) o false ≡ true → outcome_of w id ≡ Some outcomes.Pending
  by_node None has e' = absurd cc
  by_node (Some n) has e' = by_seat n has (seat n b.range) refl e'

-- so what is not open does not wait
pub passed : (nodes : ℕ) (w : World) → IsReached nodes w → (id : CmdId) (b : Booked) → is_open w id ≡ false → is_waiting w id b ≡ false
passed nodes w r id b shut = go (is_waiting w id b) refl where
  go : (t : Bool) → is_waiting w id b ≡ t → t ≡ false
  go false is = refl
  go true is = absurd (let o : is_open w id ≡ true = ap (λ o. option_map_or is_pending o false) (waits_told nodes w r id b is) in cc)

-- what has ended stays
ended_some : (o : Option Outcome) → option_map_or (λ (x : Outcome). not (is_pending x)) o false ≡ true → (x : Outcome) × (o ≡ Some x) × (x ≡ outcomes.Pending → ⊥)
ended_some None e = absurd cc
ended_some (Some x) e = (x, refl, λ same. let p : not (is_pending x) ≡ false = ap (λ z. not (is_pending z)) same in absurd cc)

pub ended_stays : (nodes : ℕ) (w later : World) → IsReached nodes w → IsLater w later → (id : CmdId) → has_ended w id ≡ true → outcome_of later id ≡ outcome_of w id
ended_stays nodes w later r l id e =
    let x = ended_some (outcome_of w id) e in
    let f : OutcomeFrom w id x.0 = outcome_from w id x.0 x.1 in
    let t : ToldBy w id f.node f.n x.0 = told_by w id f.node f.n x.0 f.at in
    let h = (later_grows w later l).each f.node f.n f.has in
    let asked : asked_at id h.now ≡ true = asked_stays f.n h.now h.grows id (any_at (is_admission_of id) f.n.journal t.place t.e t.here t.asks) in
    outcome_here later (asked_once nodes later (reached_later nodes w later r l)) id f.node h.now h.has asked
    ∙ outcome_stays f.n h.now h.grows id x.0 x.2 f.at
    ∙ sym x.1

ended_shut : (o : Option Outcome) → option_map_or (λ (x : Outcome). not (is_pending x)) o false ≡ true → option_map_or is_pending o false ≡ false
ended_shut None e = refl
ended_shut (Some x) e = go (is_pending x) e where
  go : (b : Bool) → not b ≡ true → b ≡ false
  go true e' = absurd cc
  go false e' = refl

pub never_waits : (nodes : ℕ) (w later : World) → IsReached nodes w → IsLater w later → (id : CmdId) (b : Booked) → has_ended w id ≡ true → is_waiting later id b ≡ false
never_waits nodes w later r l id b e =
    passed nodes later (reached_later nodes w later r l) id b
    (ap (λ o. option_map_or is_pending o false) (ended_stays nodes w later r l id e) ∙ ended_shut (outcome_of w id) e)

-- a part of a round that leaves the nodes
abbrev KeepsNodes : World → Played → Type 0
KeepsNodes w (Ok q) = q.world.nodes ≡ w
KeepsNodes w (Err limit) = Unit {0}

weighed_keeps : (w : World) (p : Player) → p.world.nodes ≡ w → KeepsNodes w (weighed p)
weighed_keeps w p same = go (nat_lt most_weight (weight p.world.nodes)) where
  go : (b : Bool) → KeepsNodes w (cond b (Err (record { which = Weight; count = min (weight p.world.nodes) most_count })) (Ok p))
  go true = tt
  go false = same

did_keeps : (w : World) (e : WorldEvent) (p : Player) → (buffered_step p.world e).nodes ≡ w → KeepsNodes w (did e p)
did_keeps w e p kept = go (p.events == most_events) where
  next : Player
  next = record p { world = buffered_step p.world e; events = p.events + 1 }

  go : (b : Bool) → KeepsNodes w (cond b (Err (record { which = Events; count = most_events })) (weighed next))
  go true = tt
  go false = weighed_keeps w next kept

then_keeps : (w : World) (r : Played) (next : Player → Played) → KeepsNodes w r → ((q : Player) → q.world.nodes ≡ w → KeepsNodes w (next q)) → KeepsNodes w (and_then r next)
then_keeps w (Ok q) next same more = more q same
then_keeps w (Err limit) next same more = tt

publishes_keeps : (w : World) (id : CmdId) (b : Booked) (place : ℕ) (p : Player) → p.world.nodes ≡ w → KeepsNodes w (publishes id b place p)
publishes_keeps w id b place p same = did_keeps w (events.Publish b.node b.range place (items.Write id)) (with_draw id b Published p) same

draws_keeps : (w : World) (line : ℕ) (id : CmdId) (b : Booked) (p : Player) → p.world.nodes ≡ w → KeepsNodes w (draws line id b p)
draws_keeps w line id b p same = go (can_draw (buffer_at p b.node b.range)) where
  go : (t : Bool) → KeepsNodes w (cond t (did (events.Draw b.node b.range) (with_draw id b (Drawn (buffer_at p b.node b.range).drawn) p)) (did (events.Draw b.node b.range) (noted line full_text p)))
  go true = did_keeps w (events.Draw b.node b.range) (with_draw id b (Drawn (buffer_at p b.node b.range).drawn) p) same
  go false = did_keeps w (events.Draw b.node b.range) (noted line full_text p) same

drawn_keeps : (w : World) (id : CmdId) (b : Booked) (draw : Draw) (p : Player) → p.world.nodes ≡ w → KeepsNodes w (publishes_drawn id b draw p)
drawn_keeps w id b Undrawn p same = same
drawn_keeps w id b (Drawn place) p same = publishes_keeps w id b place p same
drawn_keeps w id b Published p same = same

booked_keeps : (w : World) (id : CmdId) (b : Option Booked) (p : Player) → p.world.nodes ≡ w → KeepsNodes w (publishes_booked id b p)
booked_keeps w id None p same = same
booked_keeps w id (Some b) p same = drawn_keeps w id b b.draw p same

both_keep : (w : World) (id : CmdId) (b : Booked) (p : Player) → p.world.nodes ≡ w → KeepsNodes w (draws_and_publishes 0 id b p)
both_keep w id b p same = then_keeps w (draws 0 id b p) (λ q. publishes_booked id (booking_of id q.book) q) (draws_keeps w 0 id b p same) (λ q same'. booked_keeps w id (booking_of id q.book) q same')

puts_keeps : (w : World) (id : CmdId) (b : Booked) (draw : Draw) (p : Player) → p.world.nodes ≡ w → KeepsNodes w (puts id b draw p)
puts_keeps w id b Undrawn p same = go (is_latest p id && is_waiting p.world.nodes id b && can_draw (buffer_at p b.node b.range)) where
  go : (t : Bool) → KeepsNodes w (cond t (draws_and_publishes 0 id b p) (Ok p))
  go true = both_keep w id b p same
  go false = same
puts_keeps w id b (Drawn place) p same = publishes_keeps w id b place p same
puts_keeps w id b Published p same = same

-- an entry that may not be put is passed over
shut_by : (a b c : Bool) → b ≡ false → (a && b && c) ≡ false
shut_by true false c e = refl
shut_by false false c e = refl
shut_by a true c e = absurd cc

over : (nodes : ℕ) (p : Player) → IsReached nodes p.world.nodes → (id : CmdId) (b : Booked) (draw : Draw) → may_put p.world.nodes id draw ≡ false → puts id b draw p ≡ Ok p
over nodes p r id b Undrawn shut =
    ap (λ t. cond t (draws_and_publishes 0 id b p) (Ok p)) (shut_by (is_latest p id) (is_waiting p.world.nodes id b) (can_draw (buffer_at p b.node b.range)) (passed nodes p.world.nodes r id b shut))
over nodes p r id b (Drawn place) shut = absurd cc
over nodes p r id b Published shut = refl

then_same : (w : World) (r : Played) (f g : Player → Played) → KeepsNodes w r → ((q : Player) → q.world.nodes ≡ w → f q ≡ g q) → and_then r f ≡ and_then r g
then_same w (Ok q) f g same more = more q same
then_same w (Err limit) f g same more = refl

passes_over : (nodes : ℕ) (w : World) → IsReached nodes w → (es : List (CmdId × Booked)) (p : Player) → p.world.nodes ≡ w → for_each puts_entry es p ≡ for_each puts_entry (filter (may_put_entry w) es) p
passes_over nodes w r [] p same = refl
passes_over nodes w r (e ∷ es) p same = go (may_put_entry w e) refl (passes_over nodes w r es) where
  go : (t : Bool) → may_put_entry w e ≡ t → ((q : Player) → q.world.nodes ≡ w → for_each puts_entry es q ≡ for_each puts_entry (filter (may_put_entry w) es) q)
      → and_then (puts_entry e p) (for_each puts_entry es) ≡ for_each puts_entry (cond t (e ∷ filter (may_put_entry w) es) (filter (may_put_entry w) es)) p
  go true is ih = then_same w (puts_entry e p) (for_each puts_entry es) (for_each puts_entry (filter (may_put_entry w) es)) (puts_keeps w e.0 e.1 e.1.draw p same) ih
  go false is ih =
      ap (λ z. and_then z (for_each puts_entry es)) (over nodes p (subst (IsReached nodes) (sym same) r) e.0 e.1 e.1.draw (subst (λ v. may_put v e.0 e.1.draw ≡ false) (sym same) is))
      ∙ ih p same

pub all_over : (nodes : ℕ) (p : Player) → IsReached nodes p.world.nodes → puts_all p ≡ for_each puts_entry (filter (may_put_entry p.world.nodes) (by_attempt p.book)) p
all_over nodes p r = passes_over nodes p.world.nodes r (by_attempt p.book) p refl
