-- The committed list, as a function of the schedule.
use Rattle.std.proofs.Common.{◌≡◌, ℕ, zero, suc, ◌+◌, ◌-◌, ◌<◌, ◌≤◌, Some, List, [], ◌∷◌, ◌++◌, length, take, drop, get_or, replicate, refl, sym, ap, subst, ◌∙◌, arith, ⊎_elim, inl, inr, get_or-take, get_or-drop, length-drop, take-append-drop, take-take, length-take-le, append_assoc, append-nil, length-append}
use Rattle.std.specs.Prelude.{fold, All, Contains}
use Rattle.std.proofs.lemmas.Bool.{cases_lt}
use Rattle.std.proofs.lemmas.List.Elements.{All-weaker, All-contains_itself, Contains-append_left, Contains-append_right}
use Rattle.std.proofs.lemmas.List.{get_or_past, drop-take, drop_all, take_all, length-replicate, take-append-le, drop-append-le, get_or-replicate, get_or_append_left, get_or_default}
use Rattle.rp_raftlog.specs.declared.entries.Entry.{Entry}
use Rattle.rp_raftlog.specs.LogState.{entry_at}
use Rattle.rp_raftsafe.specs.World.{Range, IsRange, start_term, Replica, Status, Absent, Live, Removed, Site, World, site, Event, happens, run, nowhere, world_after}
use Rattle.rp_raftstep.specs.Step.{nothing}
use Rattle.rp_raftsafe.specs.Safety.{IsLive, IsPrefixOf, range_log, IsShown, OneList, OnlyProposed}
use Rattle.rp_raftsafe.specs.Proposed.{event_payloads, payloads_of, WasProposed}
use Rattle.rp_raftsafe.proofs.Carried.{AppliedUpTo, StatusHas, SiteHas, SentHas, WorldHas, happens_has, world_has_more, entry_has}
use Rattle.rp_raftsafe.proofs.Logs.{no_entry, term_in, same_less, same_get, same_term_in, longer_refl}
use Rattle.rp_raftsafe.proofs.Machine.{Abs, Inv}
use Rattle.rp_raftsafe.proofs.Safe.{Commits, commits_less, commits_more, commits_within, commits_agree, commits_grow}
use Rattle.rp_raftsafe.proofs.Views.{Shows, shows_last, entry_in, term_at_in}
use Rattle.rp_raftsafe.proofs.Refine.{NodeOk, StatusOk, front}
use Rattle.rp_raftsafe.proofs.Worlds.{WorldOk, After, happens_ok, beginning, beginning_ok, every_get}

-- the list covers what a node has committed
abbrev Covered : {S : Type 0} → Status S → ℕ → Type 0
Covered Absent n = Unit {0}
Covered (Live r) n = r.raft.head.commit ≤ n
Covered Removed n = Unit {0}

covered_more : {S : Type 0} (status : Status S) (n m : ℕ) → n ≤ m → Covered status n → Covered status m
covered_more Absent n m le c = tt
covered_more (Live r) n m le c = omega arith
covered_more Removed n m le c = tt

prefix_refl : (xs : List Entry) → IsPrefixOf xs xs
prefix_refl xs = ([], append-nil xs)

prefix_trans : (xs ys zs : List Entry) → IsPrefixOf xs ys → IsPrefixOf ys zs → IsPrefixOf xs zs
prefix_trans xs ys zs a b = (a.0 ++ b.0, sym (append_assoc xs a.0 b.0) ∙ ap (λ z. z ++ b.0) a.1 ∙ b.1)

prefix_length : (xs ys : List Entry) → IsPrefixOf xs ys → length xs ≤ length ys
prefix_length xs ys p = omega (arith, ap length p.1, length-append xs p.0)

prefix_take : (xs ys : List Entry) (k : ℕ) → IsPrefixOf xs ys → k ≤ length xs → take k ys ≡ take k xs
prefix_take xs ys k p le = ap (take k) (sym p.1) ∙ take-append-le k xs p.0 le

prefix_get : (xs ys : List Entry) (j : ℕ) → IsPrefixOf xs ys → j < length xs → get_or ys j no_entry ≡ get_or xs j no_entry
prefix_get xs ys j p lt = ap (λ z. get_or z j no_entry) (sym p.1) ∙ get_or_append_left xs p.0 no_entry j lt

-- a committed list of whole logs
pub record Committed (n : ℕ) (a : Abs) (list : List Entry) : Type 0 where
  pub by_term : ℕ
  pub commits : Commits n a by_term (length list) list

-- a node shows the entry at a place of whole logs, if its base is not above it
abbrev FromStatus : {S : Type 0} → Status S → ℕ → Entry → Type 0
FromStatus Absent j e = ⊥
FromStatus (Live r) j e = r.raft.log.base ≤ j → entry_at r.raft.log (suc j) ≡ Some e
FromStatus Removed j e = ⊥

record Source {S : Type 0} (w : World S) (j : ℕ) (e : Entry) : Type 0 where
  node : ℕ
  from : FromStatus (site w node).status j e

-- the list so far, made longer so that it covers the nodes up to n
record Covers {S : Type 0} (g : Range S) (a : Abs) (w : World S) (old : List Entry) (n : ℕ) : Type 0 where
  list : List Entry
  committed : Committed g.nodes a list
  prefix : IsPrefixOf old list
  covers : (p : ℕ) → 0 < p → p ≤ n → Covered (site w p).status (length list)
  news : (j : ℕ) → length old ≤ j → j < length list → Source w j (get_or list j no_entry)

record CoversOne {S : Type 0} (g : Range S) (a : Abs) (old : List Entry) (status : Status S) : Type 0 where
  list : List Entry
  committed : Committed g.nodes a list
  prefix : IsPrefixOf old list
  covers : Covered status (length list)
  news : (j : ℕ) → length old ≤ j → j < length list → FromStatus status j (get_or list j no_entry)

cover_one : {S : Type 0} (g : Range S) (a : Abs) (p : ℕ) (old : List Entry) (status : Status S) → Inv g.nodes a → Committed g.nodes a old → StatusOk g a p status → CoversOne g a old status
cover_one g a p old Absent h c ok = record { list = old; committed = c; prefix = prefix_refl old; covers = tt; news = λ j ge lt. absurd (omega arith) }
cover_one g a p old Removed h c ok = record { list = old; committed = c; prefix = prefix_refl old; covers = tt; news = λ j ge lt. absurd (omega arith) }
cover_one g a p old (Live r) h c ok =
    ⊎_elim
    (λ (more : length old < r.raft.head.commit).
    let within : r.raft.head.commit ≤ length (a.log p) = commits_within g.nodes a r.raft.head.term r.raft.head.commit (a.log p) ok.commit in
    let list : List Entry = take r.raft.head.commit (a.log p) in
    let len : length (take r.raft.head.commit (a.log p)) ≡ r.raft.head.commit = length-take-le r.raft.head.commit (a.log p) within in
    let again : take r.raft.head.commit (take r.raft.head.commit (a.log p)) ≡ take r.raft.head.commit (a.log p) = take-take r.raft.head.commit r.raft.head.commit (a.log p) (omega arith) in
    let commits : Commits g.nodes a r.raft.head.term r.raft.head.commit (take r.raft.head.commit (a.log p)) = commits_more g.nodes a r.raft.head.term r.raft.head.term r.raft.head.commit (a.log p) (take r.raft.head.commit (a.log p)) (omega arith) (sym again) ok.commit in
    let agree : take (length old) old ≡ take (length old) (take r.raft.head.commit (a.log p)) =
    commits_agree g.nodes a h c.by_term r.raft.head.term (length old) old (take r.raft.head.commit (a.log p)) c.commits (commits_less g.nodes a r.raft.head.term (length old) r.raft.head.commit (take r.raft.head.commit (a.log p)) (omega arith) commits) in
    record {
      list = take r.raft.head.commit (a.log p);
      committed = record { by_term = r.raft.head.term; commits = subst (λ z. Commits g.nodes a r.raft.head.term z (take r.raft.head.commit (a.log p))) (sym len) commits };
      prefix = (
        drop (length old) (take r.raft.head.commit (a.log p)),
        ap (λ z. z ++ drop (length old) (take r.raft.head.commit (a.log p))) (sym (longer_refl old) ∙ agree) ∙ take-append-drop (length old) (take r.raft.head.commit (a.log p)),
      );
      covers = omega (arith, len);
      news = λ j ge lt based.
          entry_in (a.log p) r.raft.log ok.log j based (omega (arith, len))
          ∙ ap Some (sym (get_or-take r.raft.head.commit (a.log p) j no_entry (omega (arith, len))));
    })
    (λ (le : r.raft.head.commit ≤ length old). record { list = old; committed = c; prefix = prefix_refl old; covers = le; news = λ j ge lt. absurd (omega arith) })
    (cases_lt (length old) r.raft.head.commit)

cover_all : {S : Type 0} (g : Range S) (a : Abs) (w : World S) (old : List Entry) (n : ℕ) → WorldOk g a w → Committed g.nodes a old → Covers g a w old n
cover_all g a w old zero ok c = record { list = old; committed = c; prefix = prefix_refl old; covers = λ p pos le. absurd (omega arith); news = λ j ge lt. absurd (omega arith) }
cover_all g a w old (suc n) ok c =
    let rest : Covers g a w old n = cover_all g a w old n ok c in
    let one : CoversOne g a rest.list (site w (suc n)).status = cover_one g a (suc n) rest.list (site w (suc n)).status ok.inv rest.committed (ok.sites (suc n) (omega arith)).status in
    record {
      list = one.list;
      committed = one.committed;
      prefix = prefix_trans old rest.list one.list rest.prefix one.prefix;
      covers = λ p pos le.
          ⊎_elim
          (λ (lt : p < suc n). covered_more (site w p).status (length rest.list) (length one.list) (prefix_length rest.list one.list one.prefix) (rest.covers p pos (omega arith)))
          (λ (ge : suc n ≤ p). let same : suc n ≡ p = omega arith in subst (λ z. Covered (site w z).status (length one.list)) same one.covers)
          (cases_lt p (suc n));
      news = λ j ge lt.
          ⊎_elim
          (λ (short : j < length rest.list).
          subst (λ z. Source w j z) (sym (prefix_get rest.list one.list j one.prefix short)) (rest.news j ge short))
          (λ (long : length rest.list ≤ j). record { node = suc n; from = one.news j long lt })
          (cases_lt j (length rest.list));
    }

-- a world, the machine's state for it, and what is committed so far
record Known {S : Type 0} (g : Range S) (w : World S) : Type 0 where
  to : Abs
  ok : WorldOk g to w
  list : List Entry
  committed : Committed g.nodes to list
  long : g.base ≤ length list
  fronted : take g.base list ≡ front g
  covers : (p : ℕ) → 0 < p → Covered (site w p).status (length list)

past_the_nodes : {S : Type 0} (w : World S) (p n : ℕ) → length w < p → Covered (site w p).status n
past_the_nodes w zero n lt = absurd (omega arith)
past_the_nodes {S} w (suc k) n lt = subst (λ (z : Site S). Covered z.status n) (sym (get_or_past w k (record { status = Absent; sent = [] }) (omega arith))) tt

-- an event may add to the list
next_known : {S : Type 0} (g : Range S) (w : World S) → IsRange g → Known g w → (event : Event) → Known g (happens g w event)
next_known g w range k event =
    let step : After g k.to (happens g w event) = happens_ok g k.to w event range k.ok in
    let kept : Committed g.nodes step.to k.list = record { by_term = k.committed.by_term; commits = commits_grow g.nodes k.to step.to step.grows k.committed.by_term (length k.list) k.list k.committed.commits } in
    let all : Covers g step.to (happens g w event) k.list (length (happens g w event)) = cover_all g step.to (happens g w event) k.list (length (happens g w event)) step.ok kept in
    let longer : length k.list ≤ length all.list = prefix_length k.list all.list all.prefix in
    record {
      to = step.to;
      ok = step.ok;
      list = all.list;
      committed = all.committed;
      long = omega (arith, k.long);
      fronted = prefix_take k.list all.list g.base all.prefix k.long ∙ k.fronted;
      covers = λ p pos.
          ⊎_elim
          (λ (past : length (happens g w event) < p). past_the_nodes (happens g w event) p (length all.list) past)
          (λ (le : p ≤ length (happens g w event)). all.covers p pos le)
          (cases_lt (length (happens g w event)) p);
    }

next_prefix : {S : Type 0} (g : Range S) (w : World S) (range : IsRange g) (k : Known g w) (event : Event) → IsPrefixOf k.list (next_known g w range k event).list
unfolding next_known
next_prefix g w range k event =
    let step : After g k.to (happens g w event) = happens_ok g k.to w event range k.ok in
    (cover_all g step.to (happens g w event) k.list (length (happens g w event)) step.ok
    (record { by_term = k.committed.by_term; commits = commits_grow g.nodes k.to step.to step.grows k.committed.by_term (length k.list) k.list k.committed.commits })).prefix

next_news : {S : Type 0} (g : Range S) (w : World S) (range : IsRange g) (k : Known g w) (event : Event) → (j : ℕ) → length k.list ≤ j → j < length (next_known g w range k event).list → Source (happens g w event) j (get_or (next_known g w range k event).list j no_entry)
unfolding next_known
next_news g w range k event =
    let step : After g k.to (happens g w event) = happens_ok g k.to w event range k.ok in
    (cover_all g step.to (happens g w event) k.list (length (happens g w event)) step.ok
    (record { by_term = k.committed.by_term; commits = commits_grow g.nodes k.to step.to step.grows k.committed.by_term (length k.list) k.list k.committed.commits })).news

known_after : {S : Type 0} (g : Range S) (w : World S) → IsRange g → Known g w → (events : List Event) → Known g (run g events w)
known_after g w range k [] = k
known_after g w range k (event ∷ events) = known_after g (happens g w event) range (next_known g w range k event) events

known_longer : {S : Type 0} (g : Range S) (w : World S) (range : IsRange g) (k : Known g w) (events : List Event) → IsPrefixOf k.list (known_after g w range k events).list
unfolding known_after
known_longer g w range k [] = prefix_refl k.list
known_longer g w range k (event ∷ events) =
    prefix_trans k.list (next_known g w range k event).list (known_after g (happens g w event) range (next_known g w range k event) events).list
    (next_prefix g w range k event)
    (known_longer g (happens g w event) range (next_known g w range k event) events)

known_grows : {S : Type 0} (g : Range S) (w : World S) (range : IsRange g) (k : Known g w) (early late : List Event) → IsPrefixOf (known_after g w range k early).list (known_after g w range k (early ++ late)).list
unfolding known_after
known_grows g w range k [] late = known_longer g w range k late
known_grows g w range k (event ∷ early) late = known_grows g (happens g w event) range (next_known g w range k event) early late

known_start : {S : Type 0} (g : Range S) → IsRange g → Known g (nowhere g)
known_start {S} g range =
    let ok : WorldOk g (beginning g) (nowhere g) = beginning_ok g range in
    let len : length (front g) ≡ g.base = length-replicate g.base (record { term = 1; payload = [] }) in
    record {
      to = beginning g;
      ok = ok;
      list = front g;
      committed = record { by_term = 1; commits = subst (λ z. Commits g.nodes (beginning g) 1 z (front g)) (sym len) ok.begun.base };
      long = omega arith;
      fronted = take_all g.base (front g) (omega arith);
      covers = λ p pos. nobody p;
    }
  where
    each : (n k : ℕ) (x : Site S) → get_or (replicate n x) k x ≡ x
    each zero k x = refl
    each (suc n) zero x = refl
    each (suc n) (suc k) x = each n k x

    nobody : (p : ℕ) → Covered (site (nowhere g) p).status (length (front g))
    nobody zero = tt
    nobody (suc k) = subst (λ (z : Site S). Covered z.status (length (front g))) (sym (each g.nodes k (record { status = Absent; sent = [] }))) tt

-- the list's entries behind the range's base carry payloads of a kind
abbrev ListHas : {S : Type 0} → Range S → (List ℕ → Type 0) → List Entry → Type 0
ListHas g P list = (j : ℕ) → g.base ≤ j → j < length list → P (get_or list j no_entry).payload

record KnownHas {S : Type 0} (g : Range S) (P : List ℕ → Type 0) (w : World S) (list : List Entry) : Type 0 where
  list_has : ListHas g P list
  world_has : WorldHas P (length list) w

applied_covered : {S : Type 0} (g : Range S) (a : Abs) (p n : ℕ) (status : Status S) → StatusOk g a p status → Covered status n → AppliedUpTo n status
applied_covered g a p n Absent ok c = tt
applied_covered g a p n (Live r) ok c = omega (arith, ok.applied_le)
applied_covered g a p n Removed ok c = tt

source_has : {S : Type 0} (P : List ℕ → Type 0) (n j : ℕ) (status : Status S) (e : Entry) → n ≤ j → StatusHas P n status → FromStatus status j e → P e.payload
source_has P n j Absent e le h f = absurd f
source_has P n j (Live r) e le h f = entry_has P n r.raft.log (suc j) e h (f (omega (arith, h.base)))
source_has P n j Removed e le h f = absurd f

next_has : {S : Type 0} (g : Range S) (P : List ℕ → Type 0) → P nothing → (w : World S) (range : IsRange g) (k : Known g w) (event : Event) → All P (event_payloads event) → KnownHas g P w k.list → KnownHas g P (happens g w event) (next_known g w range k event).list
next_has {S} g P empty w range k event all h =
    let longer : length k.list ≤ length (next_known g w range k event).list = prefix_length k.list (next_known g w range k event).list (next_prefix g w range k event) in
    let after : WorldHas P (length k.list) (happens g w event) = happens_has P (length k.list) g w event empty k.long applied h.world_has all in
    record {
      list_has = λ j base lt.
          ⊎_elim
          (λ (short : j < length k.list). subst (λ (z : Entry). P z.payload) (sym (prefix_get k.list (next_known g w range k event).list j (next_prefix g w range k event) short)) (h.list_has j base short))
          (λ (long : length k.list ≤ j).
          let s : Source (happens g w event) j (get_or (next_known g w range k event).list j no_entry) = next_news g w range k event j long lt in
          source_has P (length k.list) j (site (happens g w event) s.node).status (get_or (next_known g w range k event).list j no_entry) long (after s.node).status s.from)
          (cases_lt j (length k.list));
      world_has = world_has_more P (length k.list) (length (next_known g w range k event).list) (happens g w event) longer after;
    }
  where
    applied : (p : ℕ) → AppliedUpTo (length k.list) (site w p).status
    applied zero = tt
    applied (suc q) = applied_covered g k.to (suc q) (length k.list) (site w (suc q)).status (k.ok.sites (suc q) (omega arith)).status (k.covers (suc q) (omega arith))

known_has : {S : Type 0} (g : Range S) (P : List ℕ → Type 0) → P nothing → (w : World S) (range : IsRange g) (k : Known g w) (events : List Event) → ((x : List ℕ) → Contains (payloads_of events) x → P x) → KnownHas g P w k.list → KnownHas g P (run g events w) (known_after g w range k events).list
unfolding known_after
known_has g P empty w range k [] handed h = h
known_has g P empty w range k (event ∷ events) handed h =
    known_has g P empty (happens g w event) range (next_known g w range k event) events
    (λ x has. handed x (Contains-append_right (event_payloads event) (payloads_of events) x has))
    (next_has g P empty w range k event
    (All-weaker (Contains (event_payloads event)) P (λ x has. handed x (Contains-append_left (event_payloads event) (payloads_of events) x has)) (event_payloads event) (All-contains_itself (event_payloads event))) h)

-- a list that covers a replica is shown by it
shown_ok : {S : Type 0} (g : Range S) (a : Abs) (p : ℕ) (r : Replica S) (list : List Entry) → Inv g.nodes a → Committed g.nodes a list → g.base ≤ length list → take g.base list ≡ front g → NodeOk g a p r.raft r.applied r.state → r.raft.head.commit ≤ length list → IsShown g (drop g.base list) r
shown_ok {S} g a p r list h c long fronted ok covers =
    let same : take r.raft.head.commit (a.log p) ≡ take r.raft.head.commit list = commits_agree g.nodes a h r.raft.head.term c.by_term r.raft.head.commit (a.log p) list ok.commit (commits_less g.nodes a c.by_term r.raft.head.commit (length list) list covers c.commits) in
    let within : r.raft.head.commit ≤ length (a.log p) = commits_within g.nodes a r.raft.head.term r.raft.head.commit (a.log p) ok.commit in
    let seen : Shows list (range_log g (drop g.base list)) = record { within = long; entries = refl; base_term = same_term_in g.base g.base list (front g) (omega arith) (fronted ∙ sym (take_all g.base (front g) (omega (arith, length-replicate {A = Entry} g.base (record { term = 1; payload = [] }))))) ∙ front_term g.base } in
    let size : g.base + length (drop g.base list) ≡ length list = shows_last list (range_log g (drop g.base list)) seen in
    let base_le : r.raft.log.base ≤ r.raft.head.commit = omega (arith, ok.based, ok.applied_le) in
    record {
      start_le = ok.start_le;
      based = ok.based;
      applied_le = ok.applied_le;
      commit_le = omega (arith, shows_last (a.log p) r.raft.log ok.log);
      covered = omega (arith, size);
      base_term = term_at_in list (range_log g (drop g.base list)) seen r.raft.log.base ok.start_le (omega arith)
          ∙ ap Some (sym (same_term_in r.raft.log.base r.raft.head.commit (a.log p) list base_le same) ∙ ok.log.base_term);
      entries = λ k. at k;
      state = ok.state_is ∙ ap (λ z. fold g.act g.start (drop g.base z)) (same_less r.applied r.raft.head.commit (a.log p) list ok.applied_le same)
          ∙ ap (λ z. fold g.act g.start (drop g.base (take z list))) (omega (arith, ok.start_le, ok.based))
          ∙ ap (fold g.act g.start) (drop-take g.base (r.applied - g.base) list);
    }
  where
    front_term : (b : ℕ) → term_in (replicate b (record { term = 1; payload = [] })) b ≡ start_term b
    front_term zero = refl
    front_term (suc n) = ap (λ z. z.term) (get_or-replicate (suc n) n (record { term = 1; payload = [] }) no_entry (omega arith))

    at : (k : ℕ) → r.raft.log.base < k → k ≤ r.raft.head.commit → entry_at r.raft.log k ≡ entry_at (range_log g (drop g.base list)) k
    at zero lt le = absurd (omega arith)
    at (suc j) lt le =
        let same : take r.raft.head.commit (a.log p) ≡ take r.raft.head.commit list = commits_agree g.nodes a h r.raft.head.term c.by_term r.raft.head.commit (a.log p) list ok.commit (commits_less g.nodes a c.by_term r.raft.head.commit (length list) list covers c.commits) in
        let within : r.raft.head.commit ≤ length (a.log p) = commits_within g.nodes a r.raft.head.term r.raft.head.commit (a.log p) ok.commit in
        let seen : Shows list (range_log g (drop g.base list)) = record { within = long; entries = refl; base_term = same_term_in g.base g.base list (front g) (omega arith) (fronted ∙ sym (take_all g.base (front g) (omega (arith, length-replicate {A = Entry} g.base (record { term = 1; payload = [] }))))) ∙ front_term g.base } in
        entry_in (a.log p) r.raft.log ok.log j (omega arith) (omega arith)
        ∙ ap Some (same_get j r.raft.head.commit (a.log p) list (omega arith) same)
        ∙ sym (entry_in list (range_log g (drop g.base list)) seen j (omega (arith, ok.start_le)) (omega arith))

-- a live replica of the world
pub live_ok : {S : Type 0} (g : Range S) (a : Abs) (w : World S) → WorldOk g a w → (p : ℕ) (r : Replica S) → IsLive w p r → (0 < p) × NodeOk g a p r.raft r.applied r.state
live_ok {S} g a w ok zero r live = absurd (absent_live live)
  where
    absent_live : ◌≡◌ {A = Status S} Absent (Live r) → ⊥
    absent_live e = cc
live_ok g a w ok (suc k) r live = (omega arith, subst (λ z. StatusOk g a (suc k) z) live (ok.sites (suc k) (omega arith)).status)

abbrev known_events : {S : Type 0} (g : Range S) → IsRange g → (events : List Event) → Known g (world_after g events)
known_events g range events = known_after g (nowhere g) range (known_start g range) events

start_has : {S : Type 0} (g : Range S) (P : List ℕ → Type 0) (range : IsRange g) → KnownHas g P (nowhere g) (known_start g range).list
unfolding known_start
start_has {S} g P range = record {
  list_has = λ j base lt. absurd (omega (arith, length-replicate {A = Entry} g.base (record { term = 1; payload = [] })));
  world_has = nobody;
}
  where
    each : (n k : ℕ) (x : Site S) → get_or (replicate n x) k x ≡ x
    each zero k x = refl
    each (suc n) zero x = refl
    each (suc n) (suc k) x = each n k x

    nobody : (p : ℕ) → SiteHas P (length (front g)) (site (nowhere g) p)
    nobody zero = record { status = tt; sent = tt }
    nobody (suc k) = subst (λ (z : Site S). SiteHas P (length (front g)) z) (sym (each g.nodes k (record { status = Absent; sent = [] }))) (record { status = tt; sent = tt })

events_have : {S : Type 0} (g : Range S) (range : IsRange g) (events : List Event) → KnownHas g (WasProposed events) (world_after g events) (known_events g range events).list
events_have g range events = known_has g (WasProposed events) (inl refl) (nowhere g) range (known_start g range) events (λ x has. inr has) (start_has g (WasProposed events) range)

-- before the first event the list is what stands before the range's first entry
known_nothing : {S : Type 0} (g : Range S) (range : IsRange g) → drop g.base (known_events g range []).list ≡ []
unfolding known_after known_start
known_nothing g range = drop_all g.base (front g) (omega (arith, length-replicate {A = Entry} g.base (record { term = 1; payload = [] })))

pub one_list_holds : (S : Type 0) → OneList S
one_list_holds S g range = record {
  committed = λ events. drop g.base (known_events g range events).list;
  empty = known_nothing g range;
  grows = λ early late.
      let longer : IsPrefixOf (known_events g range early).list (known_events g range (early ++ late)).list = known_grows g (nowhere g) range (known_start g range) early late in
      (longer.0, sym (drop-append-le g.base (known_events g range early).list longer.0 (known_events g range early).long) ∙ ap (drop g.base) longer.1);
  shown = λ events p r live.
      let node = live_ok g (known_events g range events).to (world_after g events) (known_events g range events).ok p r live in
      shown_ok g (known_events g range events).to p r (known_events g range events).list (known_events g range events).ok.inv (known_events g range events).committed (known_events g range events).long (known_events g range events).fronted node.1
      (subst (λ z. Covered z (length (known_events g range events).list)) live ((known_events g range events).covers p node.0));
  proposed = λ events j d lt.
      let at : get_or (drop g.base (known_events g range events).list) j d ≡ get_or (known_events g range events).list (g.base + j) no_entry =
      get_or_default (drop g.base (known_events g range events).list) j d no_entry lt ∙ get_or-drop g.base (known_events g range events).list j no_entry in
      subst (λ (z : Entry). WasProposed events z.payload) (sym at)
      ((events_have g range events).list_has (g.base + j) (omega arith) (omega (arith, length-drop g.base (known_events g range events).list)));
}

pub only_proposed_holds : (S : Type 0) → OnlyProposed S
only_proposed_holds S g range events = record {
  logs = λ p r live.
      (subst (λ z. StatusHas (WasProposed events) (length (known_events g range events).list) z) live ((events_have g range events).world_has p).status).entries;
  messages = λ from to m has.
      (every_get (SentHas (WasProposed events) (length (known_events g range events).list)) (site (world_after g events) from).sent has.0 (to, m) ((events_have g range events).world_has from).sent has.1).carries;
}
