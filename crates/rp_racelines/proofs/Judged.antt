-- How a race is judged.
use Rattle.std.proofs.Common.{◌≡◌, ◌↔◌, ℕ, zero, suc, ◌+◌, ◌<◌, ◌≤◌, Bool, true, false, cond, not, ◌&&◌, ◌||◌, Option, None, Some, List, [], ◌∷◌, ◌++◌, length, map, get_or, take, refl, sym, ap, ◌∙◌, arith, IsTrue}
use Rattle.std.specs.Prelude.{count_by, fold, nat_le, nat_lt, sum_by, slice_get, slice_index_or, ◌==◌}
use Rattle.std.specs.List.{list_all, list_any}
use Rattle.std.specs.Option.{option_map_or}
use Rattle.std.proofs.lemmas.Bool.{eqb-true, le-leb, le-ltb, leb-true, lt-leb}
use Rattle.std.proofs.lemmas.List.{length-append, length-map, map-append, take_more}
use Rattle.std.proofs.lemmas.List.Sums.{sum_by-cons}
use Rattle.rp_raftstep.specs.RaftState.{nodes_to}
use Rattle.rp_base.proofs.Counts.{count_cons}
use Rattle.rp_request.specs.declared.outcomes.End.TheVariants as ends
use Rattle.rp_request.specs.declared.outcomes.Outcome.{Outcome}
use Rattle.rp_request.specs.declared.outcomes.Outcome.TheVariants as outcomes
use Rattle.rp_events.specs.declared.journals.JournalEntry.{JournalEntry}
use Rattle.rp_events.specs.declared.journals.PastEvent.{PastEvent}
use Rattle.rp_events.specs.declared.journals.PastEvent.TheVariants as past
use Rattle.rp_events.specs.Buffered.{is_live}
use Rattle.rp_events.specs.Lawful.{IsReached}
use Rattle.rp_events.specs.Nodes.{Node, Status, Absent, is_full}
use Rattle.rp_events.specs.Worlds.{World, first_world, node_of, outcome_of}
use Rattle.rp_journals.proofs.Growing.{later_grows, one_node}
use Rattle.rp_journals.proofs.Reading.{first_at}
use Rattle.rp_node.specs.Steps.{Held}
use Rattle.rp_clients.specs.Finals.{end_by, end_by_refusal}
use Rattle.rp_clients.specs.Tries.{id_of, most_tries, tries_again}
use Rattle.rp_race.specs.declared.rules.ClientRequests.{ClientRequests}
use Rattle.rp_race.specs.declared.rules.RaceRules.{RaceRules}
use Rattle.rp_race.specs.Ends.{Command, commands_from, commands_of, goes_on, has_live, is_open, latest_attempt, patience, unended, IsWaitedOut}
use Rattle.rp_race.specs.Rounds.{Stage, between, delivering, flushing, collected, applying, broken, collecting, flushed, interrupted, stage_after, stage_of}
use Rattle.rp_race.proofs.Ahead.{node_there}
use Rattle.rp_race.proofs.Pended.{was_pending}
use Rattle.rp_racelines.specs.declared.verdicts.Verdict.TheVariants as verdicts
use Rattle.rp_racelines.specs.Judging.{ends_whole, has_rounds, is_open_end, is_open_line, whole_after}
use Rattle.rp_racelines.specs.Replies.{line_by, race_replies, reply_line}
use Rattle.rp_racelines.specs.Verdicts.{command_count, AreWhole, EndsBy, NoneFull}
use Rattle.rp_racelines.proofs.Sending.{length_to}

-- a command is open by its line
open_end : (attempt : ℕ) (outcome : Outcome) → is_open_end attempt (end_by attempt (Some outcome)) ≡ goes_on attempt outcome
open_end attempt (outcomes.Success reply) = refl
open_end attempt (outcomes.Ambiguous why) = refl
open_end attempt outcomes.Pending = refl
open_end attempt (outcomes.Refused refusal) = by (attempt == most_tries) refl where
  by : (b : Bool) → (attempt == most_tries) ≡ b → is_open_end attempt (end_by_refusal attempt refusal) ≡ (nat_lt attempt most_tries && tries_again refusal)
  by true is =
      let same = eqb-true attempt most_tries is in
      ap (λ b. is_open_end attempt (cond b (ends.Tries refusal) (ends.Outcome (outcomes.Refused refusal)))) is
      ∙ sym (ap (λ b. b && tries_again refusal) (le-ltb attempt most_tries (omega (arith, same))))
  by false is = ap (λ b. is_open_end attempt (cond b (ends.Tries refusal) (ends.Outcome (outcomes.Refused refusal)))) is

open_line : (w : World) (client seq : ℕ) → is_open_line (reply_line w client seq) ≡ is_open w client seq
open_line w client seq = by (latest_attempt w client seq) (outcome_of w (id_of client seq (latest_attempt w client seq))) where
  by : (attempt : ℕ) (o : Option Outcome) → is_open_line (line_by client seq attempt o) ≡ option_map_or (goes_on attempt) o true
  by attempt None = refl
  by attempt (Some outcome) = open_end attempt outcome

open_lines : (w : World) (cs : List Command) → count_by is_open_line (map (λ (c : Command). reply_line w c.client c.seq) cs) ≡ count_by (λ (c : Command). is_open w c.client c.seq) cs
open_lines w [] = refl
open_lines w (c ∷ cs) =
    count_cons is_open_line (reply_line w c.client c.seq) (map (λ (c : Command). reply_line w c.client c.seq) cs)
    ∙ ap (λ b. cond {A = ℕ} b 1 0 + count_by is_open_line (map (λ (c : Command). reply_line w c.client c.seq) cs)) (open_line w c.client c.seq)
    ∙ ap (λ n. cond {A = ℕ} (is_open w c.client c.seq) 1 0 + n) (open_lines w cs)
    ∙ sym (count_cons (λ (c : Command). is_open w c.client c.seq) c cs)

pub open_counted : (rules : RaceRules) (w : World) → count_by is_open_line (race_replies rules w) ≡ unended rules w
open_counted rules w = open_lines w (commands_of rules)

-- one line for each command
commands_counted : (client : ℕ) (sent : List ClientRequests) → length (commands_from client sent) ≡ sum_by (λ (s : ClientRequests). length s.requests) sent
commands_counted client [] = refl
commands_counted client (s ∷ sent) =
    let mine : List Command = map (λ seq. record { client = client; seq = seq }) (nodes_to (length s.requests)) in
    let l = length-append mine (commands_from (client + 1) sent) in
    let m : length mine ≡ length s.requests = length-map (nodes_to (length s.requests)) (λ seq. let c : Command = record { client = client; seq = seq } in c) ∙ length_to (length s.requests) in
    let more = commands_counted (client + 1) sent in
    let both : length mine + length (commands_from (client + 1) sent) ≡ length s.requests + sum_by (λ (s : ClientRequests). length s.requests) sent = omega (arith, m, more) in
    l ∙ both ∙ sym (sum_by-cons (λ (s : ClientRequests). length s.requests) s sent)

pub lines_counted : (rules : RaceRules) (w : World) → length (race_replies rules w) ≡ command_count rules
lines_counted rules w = length-map (commands_of rules) (λ (c : Command). reply_line w c.client c.seq) ∙ commands_counted 1 rules.requests

-- eight seats
pub eight_seats : (nodes : ℕ) (w : World) → IsReached nodes w → (node : ℕ) (n : Node) → node_of w node ≡ Some n → length n.seats ≡ 8
eight_seats nodes w r node n has =
    let grows = later_grows (first_world nodes) w (record { schedule = r.schedule; lawful = r.lawful; reached = r.reached }) in
    let first = node_there w (first_world nodes) grows.size node n has in
    let later = grows.each node first.0 first.1 in
    let same : later.now ≡ n = one_node w node later.now n later.has has in
    ap (λ (k : Node). length k.seats) (sym same) ∙ later.grows.seats ∙ ap (λ (k : Node). length k.seats) (first_at nodes node first.0 first.1)

pub some_live : (seats : List Status) (range : ℕ) → is_live (slice_index_or seats range Absent) ≡ true → list_any is_live seats ≡ true
some_live [] range h = absurd cc
some_live (s ∷ seats) zero h = ap (λ b. b || list_any is_live seats) h
some_live (s ∷ seats) (suc range) h = by (is_live s) (some_live seats range h) where
  by : (b : Bool) → list_any is_live seats ≡ true → (b || list_any is_live seats) ≡ true
  by true more = refl
  by false more = more

pub none_live : (seats : List Status) → ((range : ℕ) → range < length seats → is_live (slice_index_or seats range Absent) ≡ false) → list_any is_live seats ≡ false
none_live [] h = refl
none_live (s ∷ seats) h =
    ap (λ b. b || list_any is_live seats) (h 0 (omega arith)) ∙ none_live seats (λ range within. h (suc range) (omega (arith, within)))

-- the nodes of a slice
pub node_in : {B : Type 0} (xs : List (Held B)) (i : ℕ) (x : Held B) → i < length xs → x ≡ get_or xs i x → node_of (map (λ h. h.node) xs) (suc i) ≡ Some x.node
node_in [] i x lt is = absurd (omega (arith, lt))
node_in {B} (y ∷ xs) zero x lt is = ap (λ (h : Held B). Some h.node) (sym is)
node_in (y ∷ xs) (suc i) x lt is = node_in xs i x (omega (arith, lt)) is

pub nodes_more : {B : Type 0} (xs : List (Held B)) (i : ℕ) (x : Held B) → i < length xs → x ≡ get_or xs i x
    → map (λ (h : Held B). h.node) (take (i + 1) xs) ≡ map (λ (h : Held B). h.node) (take i xs) ++ x.node ∷ []
nodes_more {B} xs i x lt is =
    ap (map (λ (h : Held B). h.node)) (take_more xs i x lt ∙ ap (λ y. take i xs ++ y ∷ []) (sym is)) ∙ map-append (λ (h : Held B). h.node) (take i xs) (x ∷ [])

-- a test of all nodes that fails at one
pub all_but_one : (test : Node → Bool) (w : World) (node : ℕ) (n : Node) → node_of w node ≡ Some n → test n ≡ false → list_all test w ≡ false
all_but_one test w zero n has h = absurd cc
all_but_one test w (suc place) n has h = at w place has where
  some_is : (a b : Node) → ◌≡◌ {A = Option Node} (Some a) (Some b) → a ≡ b
  some_is a b e = cc

  at : (w : World) (place : ℕ) → slice_get w place ≡ Some n → list_all test w ≡ false
  at [] place has = absurd cc
  at (m ∷ w) zero has = ap (λ b. b && list_all test w) (ap test (some_is m n has) ∙ h)
  at (m ∷ w) (suc place) has = by (test m) (at w place has) where
    by : (b : Bool) → list_all test w ≡ false → (b && list_all test w) ≡ false
    by true more = more
    by false more = refl

pub all_push : (test : Node → Bool) (w : World) (n : Node) → list_all test w ≡ true → test n ≡ true → list_all test (w ++ n ∷ []) ≡ true
all_push test [] n h t = ap (λ b. b && true) t
all_push test (m ∷ w) n h t = by (test m) h (λ more. all_push test w n more t) where
  by : (b : Bool) → (b && list_all test w) ≡ true → (list_all test w ≡ true → list_all test (w ++ n ∷ []) ≡ true) → (b && list_all test (w ++ n ∷ [])) ≡ true
  by true h more = more h
  by false h more = absurd cc

pub all_at : (test : Node → Bool) (w : World) → list_all test w ≡ true → (node : ℕ) (n : Node) → node_of w node ≡ Some n → test n ≡ true
all_at test w h node n has = by (test n) refl where
  by : (b : Bool) → test n ≡ b → b ≡ true
  by true is = refl
  by false is = absurd (let f : list_all test w ≡ false = all_but_one test w node n has is in let e = sym h ∙ f in cc)

-- a test of some node
pub some_at : (test : Node → Bool) (w : World) → list_any test w ≡ true → (place : ℕ) × (n : Node) × (slice_get w place ≡ Some n) × (test n ≡ true)
some_at test [] h = absurd cc
some_at test (m ∷ w) h = by (test m) refl h (λ more. some_at test w more) where
  by : (b : Bool) → test m ≡ b → (b || list_any test w) ≡ true → (list_any test w ≡ true → (place : ℕ) × (n : Node) × (slice_get w place ≡ Some n) × (test n ≡ true))
      → (place : ℕ) × (n : Node) × (slice_get (m ∷ w) place ≡ Some n) × (test n ≡ true)
  by true is h more = (0, m, refl, is)
  by false is h more = let k = more h in (suc k.0, k.1, k.2, k.3)

pub none_at : (test : Node → Bool) (w : World) → list_any test w ≡ false → (place : ℕ) (n : Node) → slice_get w place ≡ Some n → test n ≡ false
none_at test [] h place n has = absurd cc
none_at test (m ∷ w) h zero n has = ap test (sym (some_is m n has)) ∙ (both (test m) (list_any test w) h).0 where
  some_is : (a b : Node) → ◌≡◌ {A = Option Node} (Some a) (Some b) → a ≡ b
  some_is a b e = cc

  both : (a b : Bool) → (a || b) ≡ false → (a ≡ false) × (b ≡ false)
  both true b e = absurd cc
  both false b e = (refl, e)
none_at test (m ∷ w) h (suc place) n has = none_at test w (both (test m) (list_any test w) h).1 place n has where
  both : (a b : Bool) → (a || b) ≡ false → (a ≡ false) × (b ≡ false)
  both true b e = absurd cc
  both false b e = (refl, e)

pub none_of : (test : Node → Bool) (w : World) → list_any test w ≡ false → (node : ℕ) (n : Node) → node_of w node ≡ Some n → test n ≡ false
none_of test w h zero n has = absurd cc
none_of test w h (suc place) n has = none_at test w h place n has

-- which nodes have rounds enough
rounds_by : (rounds : ℕ) (n : Node) → has_rounds rounds n ≡ true → has_live n ≡ true → rounds ≤ n.rounds
rounds_by rounds n h live = leb-true rounds n.rounds (sym (ap (λ b. not b || nat_le rounds n.rounds) live) ∙ h)

rounds_for : (rounds : ℕ) (n : Node) → (has_live n ≡ true → rounds ≤ n.rounds) → has_rounds rounds n ≡ true
rounds_for rounds n h = by (has_live n) refl where
  by : (b : Bool) → has_live n ≡ b → (not b || nat_le rounds n.rounds) ≡ true
  by true is = le-leb rounds n.rounds (h is)
  by false is = refl

pub waited_out : (rounds : ℕ) (w : World) → list_all (has_rounds rounds) w ≡ true → list_any (λ n. nat_le rounds n.waited) w ≡ true → IsWaitedOut rounds w
waited_out rounds w all some =
    let one = some_at (λ n. nat_le rounds n.waited) w some in
    record {
      each = λ node n has live. rounds_by rounds n (all_at (has_rounds rounds) w all node n has) live;
      node = suc one.0;
      n = one.1;
      has = one.2;
      waited = leb-true rounds one.1.waited one.3;
    }

out_all : (rounds : ℕ) (w : World) → IsWaitedOut rounds w → list_all (has_rounds rounds) w ≡ true
out_all rounds w h = all_by (has_rounds rounds) w (λ place n has. rounds_for rounds n (λ live. h.each (suc place) n has live)) where
  all_by : (test : Node → Bool) (v : World) → ((place : ℕ) (n : Node) → slice_get v place ≡ Some n → test n ≡ true) → list_all test v ≡ true
  all_by test [] each = refl
  all_by test (m ∷ v) each = ap (λ b. b && list_all test v) (each 0 m refl) ∙ all_by test v (λ place n has. each (suc place) n has)

out_some : (rounds : ℕ) (w : World) → IsWaitedOut rounds w → list_any (λ n. nat_le rounds n.waited) w ≡ true
out_some rounds w h = by (list_any (λ n. nat_le rounds n.waited) w) refl where
  by : (b : Bool) → list_any (λ n. nat_le rounds n.waited) w ≡ b → b ≡ true
  by true is = refl
  by false is = absurd (
      let f : nat_le rounds h.n.waited ≡ false = none_of (λ n. nat_le rounds n.waited) w is h.node h.n h.has in
      let t : nat_le rounds h.n.waited ≡ true = le-leb rounds h.n.waited h.waited in
      let e = sym t ∙ f in cc)

-- the two tests say whether it is waited out
pub out_tested : (rounds : ℕ) (w : World) (a b : Bool) → a ≡ list_all (has_rounds rounds) w → b ≡ list_any (λ n. nat_le rounds n.waited) w → IsTrue (a && b) ↔ IsWaitedOut rounds w
out_tested rounds w a b all some = (to a b all some, λ h. back a b (all ∙ out_all rounds w h) (some ∙ out_some rounds w h)) where
  to : (a b : Bool) → a ≡ list_all (has_rounds rounds) w → b ≡ list_any (λ n. nat_le rounds n.waited) w → IsTrue (a && b) → IsWaitedOut rounds w
  to true true all some h = waited_out rounds w (sym all) (sym some)
  to true false all some h = absurd (let e : false ≡ true = h in cc)
  to false b all some h = absurd (let e : false ≡ true = h in cc)

  back : (a b : Bool) → a ≡ true → b ≡ true → IsTrue (a && b)
  back true true p q = refl
  back true false p q = absurd cc
  back false b p q = absurd cc

-- the verdicts
pub none_full : (w : World) → list_any is_full w ≡ false → NoneFull w
none_full w h node n has = none_of is_full w h node n has

full_stays : (rules : RaceRules) (w : World) → list_any is_full w ≡ true → NoneFull w → ⊥
full_stays rules w h none =
    let one = some_at is_full w h in
    let f = none (suc one.0) one.1 one.2 in
    let e = sym one.3 ∙ f in cc

pub goes_on_full : (rules : RaceRules) (w : World) → list_any is_full w ≡ true → EndsBy rules w verdicts.GoesOn
goes_on_full rules w h = (λ ended. full_stays rules w h ended.room, λ k unfinished. full_stays rules w h unfinished.room)

pub has_ended : (rules : RaceRules) (w : World) (count : ℕ) → list_any is_full w ≡ false → count ≡ unended rules w → count ≡ 0 → EndsBy rules w verdicts.Ok
has_ended rules w count room counted none = record { room = none_full w room; ended = sym counted ∙ none }

pub is_unfinished : (nodes : ℕ) (rules : RaceRules) (w : World) (count : ℕ) → IsReached nodes w → list_any is_full w ≡ false → count ≡ unended rules w → (count ≡ 0 → ⊥) → IsWaitedOut (patience rules) w
    → EndsBy rules w (verdicts.Unfinished count)
is_unfinished nodes rules w count reached room counted some out =
    let waited = out.waited in
    record {
      room = none_full w room;
      count = counted;
      some = omega (arith, some);
      waited = out;
      pending = record {
        node = out.node;
        through = out.n.waited;
        least = waited;
        pending = was_pending nodes w reached out.node out.n out.has (omega (arith, waited));
      };
    }

pub goes_on_yet : (rules : RaceRules) (w : World) (count : ℕ) → count ≡ unended rules w → (count ≡ 0 → ⊥) → (IsWaitedOut (patience rules) w → ⊥) → EndsBy rules w verdicts.GoesOn
goes_on_yet rules w count counted some yet = (λ ended. some (counted ∙ ended.ended), λ k unfinished. yet unfinished.waited)

-- whether a round was broken off
abbrev is_between : Stage → Bool
is_between between = true
is_between (delivering from) = false
is_between (flushing ranges) = false
is_between (collected ranges range) = false
is_between applying = false
is_between broken = false

whole_step : (s : Stage) (e : PastEvent) → is_between (stage_after s e) ≡ whole_after (is_between s) e
whole_step s (past.Admit range id place) = by s where
  by : (s : Stage) → is_between (interrupted s) ≡ is_between s
  by between = refl
  by s = refl
whole_step s (past.Collect range taken) = by s where
  by : (s : Stage) → is_between (collecting range s) ≡ false
  by (flushing ranges) = refl
  by s = refl
whole_step s (past.Flush range) = by s where
  by : (s : Stage) → is_between (flushed s) ≡ false
  by (collected ranges last) = refl
  by s = refl
whole_step s e = refl

whole_fold : (s : Stage) (es : List JournalEntry) → is_between (fold (λ s e. stage_after s e.event) s es) ≡ fold whole_after (is_between s) (map (λ e. e.event) es)
whole_fold s [] = refl
whole_fold s (e ∷ es) = whole_fold (stage_after s e.event) es ∙ ap (λ b. fold whole_after b (map (λ (e : JournalEntry). e.event) es)) (whole_step s e.event)

whole_is : (es : List JournalEntry) → ends_whole es ≡ true → stage_of es ≡ between
whole_is es h = by (stage_of es) refl (whole_fold between es ∙ h) where
  by : (s : Stage) → stage_of es ≡ s → is_between (stage_of es) ≡ true → s ≡ between
  by between is t = refl
  by s is t = absurd (let e = sym (ap is_between is) ∙ t in cc)

all_whole : (w : World) → list_all (λ n. ends_whole n.journal) w ≡ true → AreWhole w
all_whole w h node n has = whole_is n.journal (all_at (λ n. ends_whole n.journal) w h node n has)

pub whole_tested : (w : World) (a : Bool) → a ≡ list_all (λ n. ends_whole n.journal) w → IsTrue a ↔ AreWhole w
whole_tested w a is = (λ h. all_whole w (sym is ∙ h), λ h. is ∙ back h) where
  by : (test : Node → Bool) (v : World) → ((place : ℕ) (n : Node) → slice_get v place ≡ Some n → test n ≡ true) → list_all test v ≡ true
  by test [] each = refl
  by test (m ∷ v) each = ap (λ b. b && list_all test v) (each 0 m refl) ∙ by test v (λ place n has. each (suc place) n has)

  one : (n : Node) → stage_of n.journal ≡ between → ends_whole n.journal ≡ true
  one n h = sym (whole_fold between n.journal) ∙ ap is_between h

  back : AreWhole w → list_all (λ n. ends_whole n.journal) w ≡ true
  back h = by (λ n. ends_whole n.journal) w (λ place n has. one n (h (suc place) n has))

-- the same by the second test alone, and by the first
pub is_out : (rounds : ℕ) (w : World) (a b : Bool) → a ≡ true → a ≡ list_all (has_rounds rounds) w → b ≡ list_any (λ n. nat_le rounds n.waited) w → IsTrue b ↔ IsWaitedOut rounds w
is_out rounds w true b is all some = out_tested rounds w true b all some
is_out rounds w false b is all some = absurd cc

pub not_out : (rounds : ℕ) (w : World) (a : Bool) → a ≡ false → a ≡ list_all (has_rounds rounds) w → IsTrue a ↔ IsWaitedOut rounds w
not_out rounds w false is all = (λ h. absurd (let e : false ≡ true = h in cc), λ h. absurd (let e : false ≡ true = all ∙ out_all rounds w h in cc))
not_out rounds w true is all = absurd cc

pub rounds_fail : (rounds : ℕ) (n : Node) → has_live n ≡ true → n.rounds < rounds → has_rounds rounds n ≡ false
rounds_fail rounds n live less = ap (λ b. not b || nat_le rounds n.rounds) live ∙ lt-leb rounds n.rounds less

-- a test of nodes as their ends are left out
pub any_mapped : {B : Type 0} (test : Node → Bool) (xs : List (Held B)) → list_any (λ (h : Held B). test h.node) xs ≡ list_any test (map (λ (h : Held B). h.node) xs)
any_mapped test [] = refl
any_mapped test (x ∷ xs) = ap (λ b. test x.node || b) (any_mapped test xs)
