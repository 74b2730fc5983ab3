-- The numbers of a world stay below a bound that grows with the events.
use Rattle.std.proofs.Common.{◌≡◌, ℕ, zero, suc, ◌+◌, ◌-◌, ◌<◌, ◌≤◌, ltb, Option, Some, None, List, [], ◌∷◌, length, get_or, replicate, refl, subst, arith, ltb-true, length-drop}
use Rattle.std.specs.Prelude.{sum_by}
use Rattle.std.specs.Option.{option_map_or}
use Rattle.std.specs.List.{AllByRecursion as Every}
use Rattle.std.proofs.lemmas.Bool.{cond_both}
use Rattle.std.proofs.lemmas.List.Sums.{sum_by-cons}
use Rattle.std.proofs.lemmas.List.Elements.{All-replicate, All-nil, All-drop}
use Rattle.rp_raftlog.specs.declared.entries.Entry.{Entry}
use Rattle.rp_raftlog.specs.LogState.{entry_at, cut}
use Rattle.rp_raftstep.specs.declared.messages.Message.{Message}
use Rattle.rp_raftstep.specs.declared.messages.Message.TheVariants.{Vote, VoteReply, Append, AppendReply, Forward, Snap}
use Rattle.rp_raftstep.specs.RaftState.{RaftState, restarted}
use Rattle.rp_raftstep.specs.Step.{Draft, quiet, tick, received, then_proposed, absent_answer}
use Rattle.rp_raftsafe.specs.World.{Range, Replica, Status, Absent, Live, Removed, Site, World, Turn, stays, first, start_term, by_raft, applied_one, Action, Begin, Ticks, Proposes, Applies, Cuts, Removes, Restarts, replica_acts, acts, absent_after, gets, site, with_site, after_turn, message_of, Event, Acts, Comes, comes, happens, run, nowhere, world_after}
use Rattle.rp_raftsafe.specs.Bounds.{RaftBelow, ReplicaBelow, MessageBelow, action_weight, event_weight, bound_after, Bounded}
use Rattle.rp_raftsafe.proofs.Tables.{at_set}
use Rattle.rp_raftsafe.proofs.Pieces.{every_append}
use Rattle.rp_raftsafe.proofs.Worlds.{every_get}
use Rattle.rp_raftsafe.proofs.Below.{SentBelow, TakenBelow, DraftBelow, below_more, sents_more, log_term_le, quiet_below, tick_below, received_below, then_proposed_below, sent_below}

abbrev StatusBelow : {S : Type 0} → ℕ → Status S → Type 0
StatusBelow b Absent = Unit {0}
StatusBelow b (Live r) = ReplicaBelow b r
StatusBelow b Removed = Unit {0}

status_more : {S : Type 0} (b c : ℕ) (s : Status S) → b ≤ c → StatusBelow b s → StatusBelow c s
status_more b c Absent le h = tt
status_more b c (Live r) le h = record { raft = below_more b c r.raft le h.raft; applied = omega (arith, h.applied) }
status_more b c Removed le h = tt

record TurnBelow {S : Type 0} (b : ℕ) (t : Turn S) : Type 0 where
  status : StatusBelow b t.status
  sends : Every (SentBelow b) t.sends

stays_below : {S : Type 0} (b : ℕ) (s : Status S) → StatusBelow b s → TurnBelow b (stays s)
stays_below b s h = record { status = h; sends = tt }

by_raft_below : {S : Type 0} (b k : ℕ) (r : Replica S) (draft : Draft S) (again : List (List ℕ)) → ReplicaBelow b r → DraftBelow (b + k) draft → TurnBelow (b + (k + length again)) (by_raft r draft again)
by_raft_below {S} b k r draft again h d =
    let more : DraftBelow (b + k + length again) (then_proposed draft again) = then_proposed_below (b + k) draft again d in
    let whole = sent_below b (b + k + length again) r.applied r.state (then_proposed draft again) (omega arith) h.applied more in
    let e : b + k + length again ≡ b + (k + length again) = omega arith in
    subst (λ z. TurnBelow z (by_raft r draft again)) e
    (record {
      status = record { raft = whole.0; applied = taken draft.taken d.taken };
      sends = whole.1;
    })
  where
    taken : (t : Option (ℕ × S)) → TakenBelow (b + k) t → option_map_or (λ x. x.0) t r.applied < b + k + length again
    taken None t = omega (arith, h.applied)
    taken (Some x) t = omega (arith, t)

first_below : {S : Type 0} (g : Range S) (b p : ℕ) → g.base + 1 ≤ b → ReplicaBelow b (first g p)
first_below g b p le = record {
  raft = record {
    term = omega arith;
    last = omega arith;
    base_term = start_le g.base;
    terms = All-nil (λ (e : Entry). e.term ≤ b);
    commit = omega arith;
    next = All-replicate (λ (n : ℕ). n ≤ b) 5 (g.base + 1) le;
    matched = All-replicate (λ (n : ℕ). n ≤ b) 5 0 (omega arith);
  };
  applied = omega arith;
}
  where
    start_le : (base : ℕ) → start_term base ≤ b
    start_le zero = omega arith
    start_le (suc base) = omega arith

applies_below : {S : Type 0} (g : Range S) (b : ℕ) (r : Replica S) → ReplicaBelow b r → TurnBelow b (replica_acts g r Applies)
applies_below {S} g b r h =
    cond_both (ltb r.applied r.raft.head.commit) (option_map_or (applied_one g r) (entry_at r.raft.log (r.applied + 1)) (stays (Live r))) (stays (Live r)) (λ t. TurnBelow b t)
    (λ lt. one (omega (arith, ltb-true r.applied r.raft.head.commit lt, h.raft.commit)) (entry_at r.raft.log (r.applied + 1)))
    (λ _. stays_below b (Live r) h)
  where
    one : r.applied + 1 < b → (o : Option Entry) → TurnBelow b (option_map_or (applied_one g r) o (stays (Live r)))
    one lt None = stays_below b (Live r) h
    one lt (Some e) = stays_below b (Live (record r { applied = r.applied + 1; state = g.act r.state e })) (record { raft = h.raft; applied = lt })

restarted_below : (b applied : ℕ) (st : RaftState) → applied < b → RaftBelow b st → RaftBelow b (restarted applied st)
restarted_below b applied st lt h = record {
  term = h.term;
  last = h.last;
  base_term = h.base_term;
  terms = h.terms;
  commit = lt;
  next = All-replicate (λ (n : ℕ). n ≤ b) 5 (st.log.base + 1) (omega (arith, h.last));
  matched = All-replicate (λ (n : ℕ). n ≤ b) 5 0 (omega arith);
}

cut_below : (b applied : ℕ) (st : RaftState) → applied < b → RaftBelow b st → RaftBelow b (record st { log = cut st.log applied })
cut_below b applied st lt h = record {
  term = h.term;
  last = omega (arith, h.last, length-drop (applied - st.log.base) st.log.entries);
  base_term = log_term_le b st.log applied h.base_term h.terms;
  terms = All-drop (λ (e : Entry). e.term ≤ b) (applied - st.log.base) st.log.entries h.terms;
  commit = h.commit;
  next = h.next;
  matched = h.matched;
}

acts_below : {S : Type 0} (g : Range S) (b p : ℕ) (action : Action) (status : Status S) → g.base + 1 ≤ b → StatusBelow b status → TurnBelow (b + action_weight action) (acts g p action status)
acts_below g b p Begin Absent le h = stays_below (b + 0) (Live (first g p)) (first_below g (b + 0) p (omega arith))
acts_below g b p (Ticks again) Absent le h = stays_below (b + (2 + length again)) Absent tt
acts_below g b p (Proposes payloads) Absent le h = stays_below (b + length payloads) Absent tt
acts_below g b p Applies Absent le h = stays_below (b + 0) Absent tt
acts_below g b p Cuts Absent le h = stays_below (b + 0) Absent tt
acts_below g b p Removes Absent le h = stays_below (b + 0) Absent tt
acts_below g b p Restarts Absent le h = stays_below (b + 0) Absent tt
acts_below g b p Begin (Live r) le h = stays_below (b + 0) (Live r) (status_more b (b + 0) (Live r) (omega arith) h)
acts_below g b p (Ticks again) (Live r) le h = by_raft_below b 2 r (tick r.raft) again h (tick_below b r.raft h.raft)
acts_below {S} g b p (Proposes payloads) (Live r) le h =
    let e : b + (0 + length payloads) ≡ b + length payloads = omega arith in
    let z : b ≡ b + 0 = omega arith in
    subst (λ z. TurnBelow z (by_raft r (quiet r.raft) payloads)) e (by_raft_below b 0 r (quiet r.raft) payloads h (subst (λ z. DraftBelow {S = S} z (quiet r.raft)) z (quiet_below b r.raft h.raft)))
acts_below g b p Applies (Live r) le h =
    let e : b ≡ b + 0 = omega arith in
    subst (λ z. TurnBelow z (replica_acts g r Applies)) e (applies_below g b r h)
acts_below {S} g b p Cuts (Live r) le h =
    let e : b ≡ b + 0 = omega arith in
    let cut' : RaftBelow b (record r.raft { log = cut r.raft.log r.applied }) = cut_below b r.applied r.raft h.applied h.raft in
    subst (λ z. TurnBelow {S = S} z (replica_acts g r Cuts)) e (stays_below b (Live (record r { raft = record r.raft { log = cut r.raft.log r.applied } })) (record { raft = cut'; applied = h.applied }))
acts_below g b p Removes (Live r) le h = stays_below (b + 0) Removed tt
acts_below g b p Restarts (Live r) le h =
    let more : ReplicaBelow (b + 0) r = status_more b (b + 0) (Live r) (omega arith) h in
    stays_below (b + 0) (Live (record r { raft = restarted r.applied r.raft })) (record { raft = restarted_below (b + 0) r.applied r.raft more.applied more.raft; applied = more.applied })
acts_below g b p action Removed le h = stays_below (b + action_weight action) Removed tt

absent_gets_below : {S : Type 0} (g : Range S) (b p from : ℕ) (m : Message S) → 0 < b → MessageBelow b m → TurnBelow b (record { status = absent_after g p from m; sends = absent_answer from m })
absent_gets_below g b p from (Vote t i it) pos h = record { status = tt; sends = tt }
absent_gets_below g b p from (VoteReply t granted) pos h = record { status = tt; sends = tt }
absent_gets_below g b p from (Append t prev pt es commit) pos h = record { status = tt; sends = ((h.0, pos), tt) }
absent_gets_below g b p from (AppendReply t said i) pos h = record { status = tt; sends = tt }
absent_gets_below g b p from (Forward payload) pos h = record { status = tt; sends = tt }
absent_gets_below g b p from (Snap t i it s) pos h = record {
  status = record {
    raft = record {
      term = h.0;
      last = omega (arith, h.1);
      base_term = h.2;
      terms = All-nil (λ (e : Entry). e.term ≤ b);
      commit = h.1;
      next = All-replicate (λ (n : ℕ). n ≤ b) 5 (i + 1) (omega (arith, h.1));
      matched = All-replicate (λ (n : ℕ). n ≤ b) 5 0 (omega arith);
    };
    applied = h.1;
  };
  sends = ((h.0, h.1), tt);
}

turn_more : {S : Type 0} (b c : ℕ) (t : Turn S) → b ≤ c → TurnBelow b t → TurnBelow c t
turn_more b c t le h = record { status = status_more b c t.status le h.status; sends = sents_more b c t.sends le h.sends }

gets_below : {S : Type 0} (g : Range S) (b p from : ℕ) (m : Message S) (again : List (List ℕ)) (status : Status S) → 0 < b → StatusBelow b status → MessageBelow b m → TurnBelow (b + (1 + length again)) (gets g p from m again status)
gets_below g b p from m again Absent pos h k = turn_more b (b + (1 + length again)) (record { status = absent_after g p from m; sends = absent_answer from m }) (omega arith) (absent_gets_below g b p from m pos k)
gets_below g b p from m again (Live r) pos h k = by_raft_below b 1 r (received r.raft from m) again h (received_below b r.raft from m h.raft k)
gets_below g b p from m again Removed pos h k = stays_below (b + (1 + length again)) Removed tt

-- the world
record SiteBelow {S : Type 0} (b : ℕ) (s : Site S) : Type 0 where
  status : StatusBelow b s.status
  sent : Every (SentBelow b) s.sent

site_more : {S : Type 0} (b c : ℕ) (s : Site S) → b ≤ c → SiteBelow b s → SiteBelow c s
site_more b c s le h = record { status = status_more b c s.status le h.status; sent = sents_more b c s.sent le h.sent }

abbrev WorldBelow : {S : Type 0} → ℕ → World S → Type 0
WorldBelow b w = (p : ℕ) → SiteBelow b (site w p)

with_turn : {S : Type 0} (b c : ℕ) (w : World S) (p : ℕ) (t : Turn S) → b ≤ c → WorldBelow b w → TurnBelow c t → WorldBelow c (with_site w p (after_turn (site w p) t))
with_turn b c w zero t le h k q = site_more b c (site w q) le (h q)
with_turn b c w (suc place) t le h k zero = record { status = tt; sent = tt }
with_turn {S} b c w (suc place) t le h k (suc q) =
    at_set (SiteBelow c) w place (after_turn (site w (suc place)) t) q (record { status = Absent; sent = [] })
    (λ _. record { status = k.status; sent = every_append (SentBelow c) (site w (suc place)).sent t.sends (sents_more b c (site w (suc place)).sent le (h (suc place)).sent) k.sends })
    (site_more b c (site w (suc q)) le (h (suc q)))

happens_below : {S : Type 0} (g : Range S) (b : ℕ) (w : World S) (event : Event) → g.base + 1 ≤ b → WorldBelow b w → WorldBelow (b + event_weight event) (happens g w event)
happens_below g b w (Acts node action) le h = with_turn b (b + action_weight action) w node (acts g node action (site w node).status) (omega arith) h (acts_below g b node action (site w node).status le (h node).status)
happens_below {S} g b w (Comes from number again) le h = found (message_of (site w from) number) refl
  where
    none_some : (x : ℕ × Message S) → ◌≡◌ {A = Option (ℕ × Message S)} None (Some x) → ⊥
    none_some x e = cc

    at : (number : ℕ) (x : ℕ × Message S) → message_of (site w from) number ≡ Some x → SentBelow b x
    at zero x e = absurd (none_some x e)
    at (suc i) x e = every_get (SentBelow b) (site w from).sent i x (h from).sent e

    found : (o : Option (ℕ × Message S)) → message_of (site w from) number ≡ o → WorldBelow (b + (1 + length again)) (option_map_or (comes g w from again) o w)
    found None e = λ q. site_more b (b + (1 + length again)) (site w q) (omega arith) (h q)
    found (Some x) e = with_turn b (b + (1 + length again)) w x.0 (gets g x.0 from x.1 again (site w x.0).status) (omega arith) h (gets_below g b x.0 from x.1 again (site w x.0).status (omega arith) (h x.0).status (at number x e))

run_below : {S : Type 0} (g : Range S) (b : ℕ) (w : World S) (events : List Event) → g.base + 1 ≤ b → WorldBelow b w → WorldBelow (b + sum_by event_weight events) (run g events w)
run_below g b w [] le h = λ q. site_more b (b + 0) (site w q) (omega arith) (h q)
run_below g b w (event ∷ events) le h =
    let e : b + event_weight event + sum_by event_weight events ≡ b + sum_by event_weight (event ∷ events) = omega (arith, sum_by-cons event_weight event events) in
    subst (λ z. WorldBelow z (run g events (happens g w event))) e (run_below g (b + event_weight event) (happens g w event) events (omega arith) (happens_below g b w event le h))

nowhere_below : {S : Type 0} (g : Range S) (b : ℕ) → WorldBelow b (nowhere g)
nowhere_below g b zero = record { status = tt; sent = tt }
nowhere_below {S} g b (suc k) = each g.nodes k
  where
    each : (n k : ℕ) → SiteBelow {S = S} b (get_or (replicate n (record { status = Absent; sent = [] })) k (record { status = Absent; sent = [] }))
    each zero k = record { status = tt; sent = tt }
    each (suc n) zero = record { status = tt; sent = tt }
    each (suc n) (suc k) = each n k

pub bounded_holds : (S : Type 0) → Bounded S
bounded_holds S g events =
    let all : WorldBelow (bound_after g events) (world_after g events) = run_below g (g.base + 1) (nowhere g) events (omega arith) (nowhere_below g (g.base + 1)) in
    record {
      replicas = λ p r live. subst (λ z. StatusBelow (bound_after g events) z) live (all p).status;
      messages = λ from to m has. every_get (SentBelow (bound_after g events)) (site (world_after g events) from).sent has.0 (to, m) (all from).sent has.1;
    }
