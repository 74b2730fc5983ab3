-- Where no replica was removed, range 0 is live at each node.
use Rattle.std.proofs.Common.{◌≡◌, ℕ, zero, suc, Bool, true, false, ◌||◌, ◌+◌, ◌⊎◌, inl, inr, ⊎_elim, set, Option, None, Some, List, [], ◌∷◌, ◌++◌, refl, sym, ap, subst, ◌∙◌}
use Rattle.std.specs.Prelude.{slice_get, slice_index_or}
use Rattle.std.specs.List.{list_any}
use Rattle.std.proofs.lemmas.Bool.{cases_eq}
use Rattle.rp_base.specs.declared.items.Item.{Item}
use Rattle.rp_raftstep.specs.declared.messages.Message.{Message}
use Rattle.rp_request.specs.Applied.{AppliedState}
use Rattle.rp_events.specs.declared.journals.JournalEntry.{JournalEntry}
use Rattle.rp_events.specs.declared.journals.PastEvent.{PastEvent}
use Rattle.rp_events.specs.declared.journals.PastEvent.TheVariants as past
use Rattle.rp_events.specs.declared.node_events.Event.{Event}
use Rattle.rp_events.specs.declared.node_events.Event.TheVariants as events
use Rattle.rp_events.specs.declared.replica_events.ReplicaEvent.{ReplicaEvent}
use Rattle.rp_events.specs.declared.replica_events.ReplicaEvent.TheVariants.{Admit, Ask, Transfer, Collect, Flush, Tick, Deliver, Apply, Cut, Remove, Peek, Restart}
use Rattle.rp_events.specs.Buffered.{is_live}
use Rattle.rp_events.specs.Journals.{stood_before}
use Rattle.rp_events.specs.Lawful.{IsReached}
use Rattle.rp_events.specs.Replicas.{Done, started}
use Rattle.rp_events.specs.ReplicaEvents.{event}
use Rattle.rp_events.specs.Nodes.{Node, Status, Absent, Live, Removed, seat, opened, opened_by, after_turn, range_numbers, right_base, right_base_term}
use Rattle.rp_events.specs.NodeEvents.{status_after, after_replica, by_status, live_turn, all_turns, delivered, seat_by_message, acted, step, with_request, past_of}
use Rattle.rp_events.specs.Worlds.{World, Scene, Schedule, first_world, node_of, taken_in, happens, run}
use Rattle.rp_journals.proofs.Growing.{Happened, happened}
use Rattle.rp_journals.proofs.Reading.{entry_of, step_journal, node_after, first_at}
use Rattle.rp_journals.proofs.Waiting.{any_place}
use Rattle.rp_race.specs.declared.rules.RaceRules.{RaceRules}
use Rattle.rp_race.specs.Rounds.{Stage, stage_of, may_come, may_follow}
use Rattle.rp_race.specs.Race.{IsRace}
use Rattle.rp_race.specs.Ends.{has_live, IsWaitedOut, IsWaitedOutForGood}

-- range 0 is live
abbrev Lives : Node → Type 0
Lives n = is_live (seat n 0) ≡ true

live_set : (seats : List Status) (range : ℕ) (status : Status) → (is_live status ≡ true) ⊎ (range ≡ 0 → ⊥) → is_live (slice_index_or seats 0 Absent) ≡ true → is_live (slice_index_or (set seats range status) 0 Absent) ≡ true
live_set [] range status h live = absurd cc
live_set (s ∷ seats) zero status (inl h) live = h
live_set (s ∷ seats) zero status (inr h) live = absurd (h refl)
live_set (s ∷ seats) (suc range) status h live = live

opened_lives : (n : Node) (o : Option AppliedState) → Lives n → Lives (opened n o)
opened_lives n None live = live
opened_lives n (Some s) live = go (seat n s.desc.id) where
  go : (status : Status) → Lives (opened_by n s status)
  go Absent = live_set n.seats s.desc.id (Live (started n.node n.nodes s.lease.holder right_base right_base_term s)) (inl refl) live
  go (Live r) = live
  go (Removed applied) = live

replica_lives : (n : Node) (range : ℕ) (e : ReplicaEvent AppliedState) (d : Done) → is_live (status_after e d.replica) ≡ true → Lives n → Lives (after_replica n range e d)
replica_lives n range e d keeps live = opened_lives (after_turn n range (status_after e d.replica) d) d.right (live_set n.seats range (status_after e d.replica) (inl keeps) live)

abbrev Keeps : ReplicaEvent AppliedState → Type 0
Keeps e = (d : Done) → is_live (status_after e d.replica) ≡ true

status_lives : (n : Node) (range : ℕ) (e : ReplicaEvent AppliedState) (taken : List Item) (status : Status) → Keeps e → Lives n → Lives (by_status n range e taken status).node
status_lives n range e taken Absent keeps live = live
status_lives n range e taken (Live r) keeps live = replica_lives n range e (event r e n.ticks n.rounds taken) (keeps (event r e n.ticks n.rounds taken)) live
status_lives n range e taken (Removed applied) keeps live = live

turn_lives : (n : Node) (range : ℕ) (e : ReplicaEvent AppliedState) (status : Status) → Keeps e → Lives n → Lives (live_turn e n range status)
turn_lives n range e Absent keeps live = live
turn_lives n range e (Live r) keeps live = replica_lives n range e (event r e n.ticks n.rounds []) (keeps (event r e n.ticks n.rounds [])) live
turn_lives n range e (Removed applied) keeps live = live

all_live : (e : ReplicaEvent AppliedState) (ranges : List ℕ) (n : Node) → Keeps e → Lives n → Lives (all_turns e n ranges)
all_live e [] n keeps live = live
all_live e (range ∷ ranges) n keeps live = all_live e ranges (live_turn e n range (seat n range)) keeps (turn_lives n range e (seat n range) keeps live)

message_lives : (n : Node) (from range : ℕ) (m : Message AppliedState) (status : Status) → seat n range ≡ status → Lives n → Lives (delivered n from range m status)
message_lives n from range m Absent is live = live_set n.seats range (seat_by_message n from m) (inr other) live where
  other : range ≡ 0 → ⊥
  other zeroth = let gone : is_live (seat n 0) ≡ false = ap (λ k. is_live (seat n k)) (sym zeroth) ∙ ap is_live is in let e = sym live ∙ gone in absurd cc
message_lives n from range m (Live r) is live = replica_lives n range (Deliver from m) (event r (Deliver from m) n.ticks n.rounds []) refl live
message_lives n from range m (Removed applied) is live = live

abbrev is_removal : PastEvent → Bool
is_removal (past.Remove range) = true
is_removal _ = false

acted_lives : (n : Node) (e : Event AppliedState) (taken : List Item) → is_removal (past_of n e taken) ≡ false → Lives n → Lives (acted n e taken).node
acted_lives n (events.Admit range id request) taken stays live = status_lives (with_request n request) range (Admit id request) [] (seat n range) (λ d. refl) live
acted_lives n (events.Ask range) taken stays live = status_lives n range Ask [] (seat n range) (λ d. refl) live
acted_lives n (events.Transfer range to) taken stays live = status_lives n range (Transfer to) [] (seat n range) (λ d. refl) live
acted_lives n (events.Collect range) taken stays live = status_lives n range Collect taken (seat n range) (λ d. refl) live
acted_lives n (events.Flush range) taken stays live = status_lives n range Flush [] (seat n range) (λ d. refl) live
acted_lives n events.Tick taken stays live = all_live Tick range_numbers (record n { ticks = n.ticks + 1 }) (λ d. refl) live
acted_lives n (events.Deliver from range number m) taken stays live = message_lives n from range m (seat n range) refl live
acted_lives n (events.Apply range) taken stays live = status_lives n range Apply [] (seat n range) (λ d. refl) live
acted_lives n (events.Cut range) taken stays live = status_lives n range Cut [] (seat n range) (λ d. refl) live
acted_lives n (events.Remove range) taken stays live = absurd cc
acted_lives n (events.Peek range key) taken stays live = status_lives n range (Peek key) [] (seat n range) (λ d. refl) live
acted_lives n events.Restart taken stays live = all_live Restart range_numbers n (λ d. refl) live
acted_lives n events.Round taken stays live = live

-- where no replica was removed
abbrev Removals : List JournalEntry → Bool
Removals journal = list_any (λ e. is_removal e.event) journal

or_false : (a b : Bool) → (a || b) ≡ false → (a ≡ false) × (b ≡ false)
or_false true b e = absurd cc
or_false false b e = (refl, e)

none_split : (xs : List JournalEntry) (e : JournalEntry) → Removals (xs ++ e ∷ []) ≡ false → (Removals xs ≡ false) × (is_removal e.event ≡ false)
none_split [] e h = (refl, (or_false (is_removal e.event) false h).0)
none_split (x ∷ xs) e h =
    let k = or_false (is_removal x.event) (Removals (xs ++ e ∷ [])) h in
    let more = none_split xs e k.1 in
    (ap (λ b. b || Removals xs) k.0 ∙ more.0, more.1)

abbrev LivesUnremoved : Node → Type 0
LivesUnremoved n = Removals n.journal ≡ false → Lives n

lives_step : (n : Node) (e : Event AppliedState) (taken : List Item) → LivesUnremoved n → LivesUnremoved (step n e taken).node
lives_step n e taken h none =
    let k = none_split n.journal (entry_of n e taken) (sym (ap Removals (step_journal n e taken)) ∙ none) in
    acted_lives n e taken k.1 (h k.0)

abbrev AllLive : World → Type 0
AllLive w = (node : ℕ) (n : Node) → node_of w node ≡ Some n → LivesUnremoved n

live_scene : (w : World) (x : Scene) → AllLive w → AllLive (happens w x)
live_scene w x all = ⊎_elim
    (λ (same : happens w x ≡ w). subst AllLive (sym same) all)
    (λ (k : Happened w x). subst AllLive (sym k.is)
    (node_after (λ node n. LivesUnremoved n) w x.node k.n (step k.n k.event (taken_in x.what)).node k.has
    (lives_step k.n k.event (taken_in x.what) (all x.node k.n k.has)) (λ other m ne is. all other m is)))
    (happened w x)

live_run : (xs : Schedule) (w : World) → AllLive w → AllLive (run w xs)
live_run [] w all = all
live_run (x ∷ xs) w all = live_run xs (happens w x) (live_scene w x all)

reached_lives : (nodes : ℕ) (w : World) → IsReached nodes w → AllLive w
reached_lives nodes w r = subst AllLive r.reached (live_run r.schedule (first_world nodes) first) where
  first : AllLive (first_world nodes)
  first node n has = subst LivesUnremoved (sym (first_at nodes node n has)) (λ none. refl)

-- a race removes none
never_removed : (rules : RaceRules) (n : Node) (s : Stage) (e : PastEvent) → may_follow rules n s e ≡ true → is_removal e ≡ true → ⊥
never_removed rules n s (past.Remove range) may e = absurd cc
never_removed rules n s (past.Admit range id place) may e = absurd cc
never_removed rules n s (past.Ask range) may e = absurd cc
never_removed rules n s (past.Transfer range to) may e = absurd cc
never_removed rules n s (past.Collect range taken) may e = absurd cc
never_removed rules n s (past.Flush range) may e = absurd cc
never_removed rules n s past.Tick may e = absurd cc
never_removed rules n s (past.Deliver from number) may e = absurd cc
never_removed rules n s (past.Apply range) may e = absurd cc
never_removed rules n s (past.Cut range) may e = absurd cc
never_removed rules n s (past.Peek range key) may e = absurd cc
never_removed rules n s past.Restart may e = absurd cc
never_removed rules n s (past.Round sent) may e = absurd cc

pub race_lives : (rules : RaceRules) (broken : ℕ → Bool) (nodes : ℕ) (w : World) → IsReached nodes w → IsRace rules broken w → (node : ℕ) (n : Node) → node_of w node ≡ Some n → has_live n ≡ true
race_lives rules broken nodes w reached race node n has = first_live n.seats (reached_lives nodes w reached node n has (none (Removals n.journal) refl)) where
  none : (b : Bool) → Removals n.journal ≡ b → Removals n.journal ≡ false
  none false e = e
  none true e =
      let k = any_place (λ (x : JournalEntry). is_removal x.event) n.journal e in
      let stood : Node = stood_before w n k.0 in
      absurd (never_removed rules stood (stage_of stood.journal) k.1.event (race.order node n has k.0 k.1 k.2) k.3)

  or_here : (a b : Bool) → a ≡ true → (a || b) ≡ true
  or_here true b e = refl
  or_here false b e = absurd cc

  first_live : (seats : List Status) → is_live (slice_index_or seats 0 Absent) ≡ true → list_any is_live seats ≡ true
  first_live [] e = absurd cc
  first_live (s ∷ seats) e = or_here (is_live s) (list_any is_live seats) e

pub good_in_race : (rules : RaceRules) (broken : ℕ → Bool) (nodes : ℕ) (w : World) → IsReached nodes w → IsRace rules broken w → (rounds : ℕ) → IsWaitedOut rounds w → IsWaitedOutForGood rounds w
good_in_race rules broken nodes w reached race rounds h = record {
  each = λ node n has. h.each node n has (race_lives rules broken nodes w reached race node n has);
  node = h.node;
  n = h.n;
  has = h.has;
  waited = h.waited;
}
