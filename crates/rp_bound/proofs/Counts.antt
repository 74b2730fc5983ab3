-- How an event of a replica lets its numbers grow.
use Rattle.std.proofs.Common.{◌≡◌, ℕ, suc, ◌+◌, ◌≤◌, Bool, true, false, cond, not, Option, None, Some, List, [], ◌∷◌, ◌++◌, map, length, max, refl, sym, ap, subst, ◌∙◌, arith, eqb-true}
use Rattle.std.specs.Prelude.{◌||◌, ◌&&◌, ◌==◌, nat_le, filter_map, option_and_then}
use Rattle.std.specs.List.{AllByRecursion, filter, list_any, cons_option}
use Rattle.std.specs.Option.{option_map_or}
use Rattle.std.proofs.lemmas.Bool.{cond_both}
use Rattle.std.proofs.lemmas.List.{length-append, length-map}
use Rattle.rp_base.proofs.Elements.{all_append}
use Rattle.rp_base.specs.Ids.{same_id}
use Rattle.rp_base.specs.Ids.{same_id}
use Rattle.rp_base.specs.declared.ids.CmdId.{CmdId}
use Rattle.rp_base.specs.declared.items.Item.{Item}
use Rattle.rp_base.specs.declared.items.Item.TheVariants as items
use Rattle.rp_base.specs.declared.leases.LeaseAsk.{LeaseAsk}
use Rattle.rp_codec.specs.Spelling.{spelling}
use Rattle.rp_codec.proofs.SpellingLaws.{read_as_spelled}
use Rattle.rp_flush.specs.Assigns.{asks_of, ids_of, once, waits_under, last_after}
use Rattle.rp_request.specs.Fits.{FitsAsk}
use Rattle.rp_request.specs.declared.commands.Payload.{Payload}
use Rattle.rp_request.specs.declared.commands.Payload.TheVariants as payloads
use Rattle.rp_pending.specs.declared.proposals.Proposal.{Proposal}
use Rattle.rp_pending.specs.declared.refreshes.Refresh.{Refresh}
use Rattle.rp_pending.specs.Proposals.{has_id, proposal_of, without, with_changed, is_proposed, proposed, waiting_again}
use Rattle.rp_pending.specs.Refreshes.{goes_back, waiting_of, put_by, by_key, ids_by_max}
use Rattle.rp_events.specs.Replicas.{Replica, Told, lease_of}
use Rattle.rp_events.specs.declared.moves.Move.{Move}
use Rattle.rp_events.specs.declared.moves.Move.TheVariants.{HandsOut, GivesUp, TakesBack, Repeats}
use Rattle.rp_events.specs.Moves.{hands_out, gives_up, takes_back, repeats, moved, moved_all, then_is, proposed_under, waits_again, command_of, write_of, payloads_of}
use Rattle.rp_events.specs.Flushes.{assigning, flush_moves}
use Rattle.rp_events.specs.Refreshes.{refresh_moves}
use Rattle.rp_events.specs.LeaseAsks.{joined, joined_all, same_ask, without_first}
use Rattle.rp_seats.specs.Views.{read, payload_or}
use Rattle.rp_turns.specs.Fitting.{FitsOne, FitEach}
use Rattle.rp_turns.proofs.Widths.{each_found}
use Rattle.rp_bound.specs.Numbers.{AskBelow, ItemBelow, ProposalBelow, PayloadBelow, ReplicaBelow}

pub filter_short : {X : Type 0} (test : X → Bool) (xs : List X) → length (filter test xs) ≤ length xs
filter_short test [] = omega arith
filter_short {X} test (x ∷ xs) = go (test x) (filter_short test xs) where
  go : (b : Bool) → length (filter test xs) ≤ length xs → length (cond b (x ∷ filter test xs) (filter test xs)) ≤ suc (length xs)
  go true le = omega (arith, le)
  go false le = omega (arith, le)

put_long : {X : Type 0} (key : X → ℕ) (x : X) (ys : List X) → length (put_by key x ys) ≡ suc (length ys)
put_long key x [] = refl
put_long {X} key x (y ∷ ys) = go (nat_le (key x) (key y)) (put_long key x ys) where
  go : (b : Bool) → length (put_by key x ys) ≡ suc (length ys) → length (cond b (x ∷ y ∷ ys) (y ∷ put_by key x ys)) ≡ suc (suc (length ys))
  go true e = refl
  go false e = ap suc e

keyed_long : {X : Type 0} (key : X → ℕ) (xs : List X) → length (by_key key xs) ≡ length xs
keyed_long key [] = refl
keyed_long key (x ∷ xs) = put_long key x (by_key key xs) ∙ ap suc (keyed_long key xs)

-- what goes back is no more than what is pending
pub back_short : (test : Proposal → Bool) (ps : List Proposal) → length (ids_by_max (filter test ps)) ≤ length ps
back_short test ps =
    let a = length-map (by_key (λ (p : Proposal). p.max) (filter test ps)) (λ (p : Proposal). p.id) in
    let b = keyed_long (λ (p : Proposal). p.max) (filter test ps) in
    let c = filter_short test ps in
    omega (arith, a, b, c)

-- with no smaller bounds
ask_more : (seqs expiry seqs' expiry' : ℕ) → seqs ≤ seqs' → expiry ≤ expiry' → (asks : List LeaseAsk) → AllByRecursion (AskBelow seqs expiry) asks → AllByRecursion (AskBelow seqs' expiry') asks
ask_more seqs expiry seqs' expiry' s x [] h = tt
ask_more seqs expiry seqs' expiry' s x (ask ∷ asks) h = ((let a = h.0.0 in omega (arith, a, s), let a = h.0.1 in omega (arith, a, x)), ask_more seqs expiry seqs' expiry' s x asks h.1)

item_one : (seqs expiry seqs' expiry' : ℕ) → seqs ≤ seqs' → expiry ≤ expiry' → (item : Item) → ItemBelow seqs expiry item → ItemBelow seqs' expiry' item
item_one seqs expiry seqs' expiry' s x (items.Write id) h = tt
item_one seqs expiry seqs' expiry' s x (items.Lease ask) h = (let a = h.0 in omega (arith, a, s), let a = h.1 in omega (arith, a, x))

item_more : (seqs expiry seqs' expiry' : ℕ) → seqs ≤ seqs' → expiry ≤ expiry' → (inbox : List Item) → AllByRecursion (ItemBelow seqs expiry) inbox → AllByRecursion (ItemBelow seqs' expiry') inbox
item_more seqs expiry seqs' expiry' s x [] h = tt
item_more seqs expiry seqs' expiry' s x (item ∷ inbox) h = (item_one seqs expiry seqs' expiry' s x item h.0, item_more seqs expiry seqs' expiry' s x inbox h.1)

pub proposal_more : (top seqs top' seqs' : ℕ) → top ≤ top' → seqs ≤ seqs' → (ps : List Proposal) → AllByRecursion (ProposalBelow top seqs) ps → AllByRecursion (ProposalBelow top' seqs') ps
proposal_more top seqs top' seqs' t s [] h = tt
proposal_more top seqs top' seqs' t s (p ∷ ps) h = ((let a = h.0.0 in omega (arith, a, t), let a = h.0.1 in omega (arith, a, s)), proposal_more top seqs top' seqs' t s ps h.1)

pub payload_more : (top seqs top' seqs' : ℕ) → top ≤ top' → seqs ≤ seqs' → (p : Payload) → PayloadBelow top seqs p → PayloadBelow top' seqs' p
payload_more top seqs top' seqs' t s payloads.Nothing h = tt
payload_more top seqs top' seqs' t s (payloads.Write c) h = omega (arith, h, t)
payload_more top seqs top' seqs' t s (payloads.Lease ask) h = omega (arith, h, s)

pub below_more : (top seqs expiry most top' seqs' expiry' most' : ℕ) → top ≤ top' → seqs ≤ seqs' → expiry ≤ expiry' → most ≤ most' → (r : Replica)
    → ReplicaBelow top seqs expiry most r → ReplicaBelow top' seqs' expiry' most' r
below_more top seqs expiry most top' seqs' expiry' most' t s x m r b = record {
  assigned = (let a = b.assigned in omega (arith, a, t));
  pending = proposal_more top seqs top' seqs' t s r.pending b.pending;
  few = (let a = b.few in omega (arith, a, m));
  inbox = item_more seqs expiry seqs' expiry' s x r.inbox b.inbox;
  asks = ask_more seqs expiry seqs' expiry' s x r.asks b.asks;
}

-- what a part of an event leaves of a replica beside its proposals' numbers, where so many items join
-- the inbox
pub record Keeps (seqs expiry gain : ℕ) (r s : Replica) : Type 0 where
  pub assigned : s.assigned ≡ r.assigned
  pub asks : s.asks ≡ r.asks
  pub inbox : AllByRecursion (ItemBelow seqs expiry) r.inbox → AllByRecursion (ItemBelow seqs expiry) s.inbox
  pub items : length s.inbox ≤ length r.inbox + gain
  pub few : length s.pending ≤ length r.pending

module _ (seqs expiry : ℕ) where
  pub keeps_itself : (r : Replica) → Keeps seqs expiry 0 r r
  keeps_itself r = record { assigned = refl; asks = refl; inbox = λ h. h; items = omega arith; few = omega arith }

  pub keeps_further : (a b : ℕ) (r s t : Replica) → Keeps seqs expiry a r s → Keeps seqs expiry b s t → Keeps seqs expiry (a + b) r t
  keeps_further a b r s t k l = record {
    assigned = l.assigned ∙ k.assigned;
    asks = l.asks ∙ k.asks;
    inbox = λ h. l.inbox (k.inbox h);
    items = (let x = k.items in let y = l.items in omega (arith, x, y));
    few = (let x = k.few in let y = l.few in omega (arith, x, y));
  }

  changed_keeps : (id : CmdId) (g : Proposal → Proposal) (r : Replica) → Keeps seqs expiry 0 r (record r { pending = with_changed id g r.pending })
  changed_keeps id g r = record {
    assigned = refl;
    asks = refl;
    inbox = λ h. h;
    items = omega arith;
    few = (let e = length-map r.pending (λ p. cond (has_id id p) (g p) p) in omega (arith, e));
  }

  pub again_keeps : (id : CmdId) (r : Replica) → Keeps seqs expiry 1 r (waits_again r id)
  again_keeps id r = record {
    assigned = refl;
    asks = refl;
    inbox = λ h. all_append (ItemBelow seqs expiry) r.inbox (items.Write id ∷ []) h (tt, tt);
    items = (let e = length-append r.inbox (items.Write id ∷ []) in omega (arith, e));
    few = (let e = length-map r.pending (λ p. cond (has_id id p) (waiting_again p) p) in omega (arith, e));
  }

  left_keeps : (id : CmdId) (r s : Replica) → s.assigned ≡ r.assigned → s.asks ≡ r.asks → s.inbox ≡ r.inbox → s.pending ≡ without id r.pending → Keeps seqs expiry 0 r s
  left_keeps id r s assigned asks inbox pending = record {
    assigned = assigned;
    asks = asks;
    inbox = λ h. subst (AllByRecursion (ItemBelow seqs expiry)) (sym inbox) h;
    items = (let e = ap length inbox in omega (arith, e));
    few = (let e = ap length pending in let f = filter_short (λ p. not (has_id id p)) r.pending in omega (arith, e, f));
  }

  -- moves: each that takes back lets an item join the inbox
  abbrev pub gain_of : Move → ℕ
  gain_of (HandsOut id max) = 0
  gain_of (GivesUp id) = 0
  gain_of (TakesBack id) = 1
  gain_of (Repeats id) = 0

  abbrev pub gain_all : List Move → ℕ
  gain_all [] = 0
  gain_all (move ∷ moves) = gain_of move + gain_all moves

  pub one_more : (r : Replica) → Keeps seqs expiry 1 r r
  one_more r = record { assigned = refl; asks = refl; inbox = λ h. h; items = omega arith; few = omega arith }

  move_keeps : (ticks round : ℕ) (t : Told) (m : Move) → Keeps seqs expiry (gain_of m) t.replica (moved ticks round t m).replica
  move_keeps ticks round t (HandsOut id max) = go (proposal_of id t.replica.pending) where
    go : (o : Option Proposal) → Keeps seqs expiry 0 t.replica (option_map_or (hands_out ticks round t id max) o t).replica
    go None = keeps_itself t.replica
    go (Some p) = cond_both (is_proposed p.stage) t (then_is t (proposed_under t.replica ticks round id max)) (λ z. Keeps seqs expiry 0 t.replica z.replica) (λ _. keeps_itself t.replica)
        (λ _. changed_keeps id (proposed max ticks round) t.replica)
  move_keeps ticks round t (GivesUp id) = go (proposal_of id t.replica.pending) where
    go : (o : Option Proposal) → Keeps seqs expiry 0 t.replica (option_map_or (gives_up t id) o t).replica
    go None = keeps_itself t.replica
    go (Some p) = cond_both (is_proposed p.stage) t _ (λ (z : Told). Keeps seqs expiry 0 t.replica z.replica) (λ _. keeps_itself t.replica) (λ _. left_keeps id t.replica _ refl refl refl refl)
  move_keeps ticks round t (TakesBack id) = go (proposal_of id t.replica.pending) where
    go : (o : Option Proposal) → Keeps seqs expiry 1 t.replica (option_map_or (takes_back t id) o t).replica
    go None = one_more t.replica
    go (Some p) = cond_both (goes_back t.replica.applied.state.lai p) (then_is t (waits_again t.replica id)) t (λ z. Keeps seqs expiry 1 t.replica z.replica)
        (λ _. again_keeps id t.replica) (λ _. one_more t.replica)
  move_keeps ticks round t (Repeats id) = go (proposal_of id t.replica.pending) where
    go : (o : Option Proposal) → Keeps seqs expiry 0 t.replica (option_map_or (repeats ticks round t id) o t).replica
    go None = keeps_itself t.replica
    go (Some p) = cond_both (is_proposed p.stage) (then_is t (proposed_under t.replica ticks round id p.max)) t (λ z. Keeps seqs expiry 0 t.replica z.replica)
        (λ _. changed_keeps id (proposed p.max ticks round) t.replica) (λ _. keeps_itself t.replica)

  pub moves_keep : (ticks round : ℕ) (t : Told) (ms : List Move) → Keeps seqs expiry (gain_all ms) t.replica (moved_all ticks round t ms).replica
  moves_keep ticks round t [] = keeps_itself t.replica
  moves_keep ticks round t (m ∷ ms) =
      keeps_further (gain_of m) (gain_all ms) t.replica (moved ticks round t m).replica (moved_all ticks round t (m ∷ ms)).replica
      (move_keeps ticks round t m) (moves_keep ticks round (moved ticks round t m) ms)

  ups_gain : (ids : List CmdId) (ms : List Move) → gain_all (map GivesUp ids ++ ms) ≡ gain_all ms
  ups_gain [] ms = refl
  ups_gain (id ∷ ids) ms = let k = ups_gain ids ms in omega (arith, k)

  outs_gain : (writes : List (CmdId × ℕ)) → gain_all (map (λ (write : CmdId × ℕ). HandsOut write.0 write.1) writes) ≡ 0
  outs_gain [] = refl
  outs_gain (w ∷ writes) = let k = outs_gain writes in omega (arith, k)

  pub flush_gain : (r : Replica) → gain_all (flush_moves (assigning r)) ≡ 0
  flush_gain r = ups_gain (assigning r).refused (map (λ write. HandsOut write.0 write.1) (assigning r).writes) ∙ outs_gain (assigning r).writes

  agains_gain : (ids : List CmdId) → gain_all (map Repeats ids) ≡ 0
  agains_gain [] = refl
  agains_gain (id ∷ ids) = let k = agains_gain ids in omega (arith, k)

  backs_gain : (ids : List CmdId) (ms : List Move) → gain_all ms ≡ 0 → gain_all (map TakesBack ids ++ ms) ≡ length ids
  backs_gain [] ms none = none
  backs_gain (id ∷ ids) ms none = let k = backs_gain ids ms none in omega (arith, k)

  pub refresh_gain : (f : Refresh) → gain_all (refresh_moves f) ≡ length f.back
  refresh_gain f = backs_gain f.back (map Repeats f.again) (agains_gain f.again)

  -- items that a buffer gave: a lease ask only where it was answered here
  without_below : (ask : LeaseAsk) (asks : List LeaseAsk) → AllByRecursion (AskBelow seqs expiry) asks → AllByRecursion (AskBelow seqs expiry) (without_first ask asks)
  without_below ask [] h = tt
  without_below ask (x ∷ asks) h = cond_both (same_ask x ask) asks (x ∷ without_first ask asks) (AllByRecursion (AskBelow seqs expiry)) (λ _. h.1) (λ _. (h.0, without_below ask asks h.1))

  same_below : (x ask : LeaseAsk) → same_ask x ask ≡ true → AskBelow seqs expiry x → AskBelow seqs expiry ask
  same_below x ask same h =
      let prev = eqb-true x.prev ask.prev (second (x.holder == ask.holder) (x.prev == ask.prev) (x.expires == ask.expires) same) in
      let expires = eqb-true x.expires ask.expires (third (x.holder == ask.holder) (x.prev == ask.prev) (x.expires == ask.expires) same) in
      (let a = h.0 in omega (arith, a, prev), let a = h.1 in omega (arith, a, expires))
    where
      second : (a b c : Bool) → (a && b && c) ≡ true → b ≡ true
      second true true true e = refl
      second true true false e = refl
      second true false c e = e
      second false b c e = absurd cc

      third : (a b c : Bool) → (a && b && c) ≡ true → c ≡ true
      third true true true e = refl
      third true true false e = e
      third true false c e = absurd cc
      third false b c e = absurd cc

  among_below : (ask : LeaseAsk) (asks : List LeaseAsk) → list_any (λ x. same_ask x ask) asks ≡ true → AllByRecursion (AskBelow seqs expiry) asks → AskBelow seqs expiry ask
  among_below ask [] e h = absurd cc
  among_below ask (x ∷ asks) e h = go (among_below ask asks) (same_ask x ask) refl e where
    go : (list_any (λ y. same_ask y ask) asks ≡ true → AllByRecursion (AskBelow seqs expiry) asks → AskBelow seqs expiry ask) → (b : Bool) → same_ask x ask ≡ b
        → (b || list_any (λ y. same_ask y ask) asks) ≡ true → AskBelow seqs expiry ask
    go more true is e' = same_below x ask is h.0
    go more false is e' = more e' h.1

  -- so many items more at most, and no greater numbers
  pub record Joins (top most gain : ℕ) (r s : Replica) : Type 0 where
    pub below : ReplicaBelow top seqs expiry most s
    pub items : length s.inbox ≤ length r.inbox + gain

  module _ (top most : ℕ) where
    joined_below : (r : Replica) (item : Item) → ReplicaBelow top seqs expiry most r → Joins top most 1 r (joined r item)
    joined_below r (items.Write id) b = record {
      below = record { assigned = b.assigned; pending = b.pending; few = b.few; inbox = all_append (ItemBelow seqs expiry) r.inbox (items.Write id ∷ []) b.inbox (tt, tt); asks = b.asks };
      items = (let e = length-append r.inbox (items.Write id ∷ []) in omega (arith, e));
    }
    joined_below r (items.Lease ask) b = go (list_any (λ x. same_ask x ask) r.asks) refl where
      go : (c : Bool) → list_any (λ x. same_ask x ask) r.asks ≡ c → Joins top most 1 r (cond c (record r { inbox = r.inbox ++ items.Lease ask ∷ []; asks = without_first ask r.asks }) r)
      go true is = record {
        below = record {
          assigned = b.assigned;
          pending = b.pending;
          few = b.few;
          inbox = all_append (ItemBelow seqs expiry) r.inbox (items.Lease ask ∷ []) b.inbox (among_below ask r.asks is b.asks, tt);
          asks = without_below ask r.asks b.asks;
        };
        items = (let e = length-append r.inbox (items.Lease ask ∷ []) in omega (arith, e));
      }
      go false is = record { below = b; items = omega arith }

    pub all_joined : (r : Replica) (taken : List Item) → ReplicaBelow top seqs expiry most r → Joins top most (length taken) r (joined_all r taken)
    all_joined r [] b = record { below = b; items = omega arith }
    all_joined r (item ∷ taken) b =
        let a = joined_below r item b in
        let c = all_joined (joined r item) taken a.below in
        record { below = c.below; items = (let x = a.items in let y = c.items in omega (arith, x, y)) }

-- the payloads of lease asks and of what is proposed
module _ (top seqs : ℕ) (ps : List Proposal) (fits : FitEach ps) (below : AllByRecursion (ProposalBelow top seqs) ps) where
  abbrev Below : List ℕ → Type 0
  Below bytes = PayloadBelow top seqs (read bytes)

  ids_below : (ids : List CmdId) → AllByRecursion Below (map spelling (filter_map (λ id. option_and_then write_of (proposal_of id ps)) ids))
  ids_below [] = tt
  ids_below (id ∷ ids) = go (proposal_of id ps) refl (ids_below ids) where
    rest : List Payload
    rest = filter_map (λ q. option_and_then write_of (proposal_of q ps)) ids

    go : (o : Option Proposal) → proposal_of id ps ≡ o → AllByRecursion Below (map spelling rest) → AllByRecursion Below (map spelling (cons_option (option_and_then write_of o) rest))
    go None e ih = ih
    go (Some p) e ih =
        cond_both (is_proposed p.stage) (Some (payloads.Write (command_of p))) None (λ o. AllByRecursion Below (map spelling (cons_option o rest)))
        (λ is. (
          subst (PayloadBelow top seqs) (sym (ap payload_or (read_as_spelled (payloads.Write (command_of p)) (each_found FitsOne ps fits id p e))))
              (each_found (ProposalBelow top seqs) ps below id p e).0,
          ih,
        )) (λ _. ih)

  pub bytes_below : (asks : List LeaseAsk) → AllByRecursion FitsAsk asks → AllByRecursion (λ (ask : LeaseAsk). ask.prev ≤ seqs) asks → (ids : List CmdId) → AllByRecursion Below (map spelling (payloads_of asks ps ids))
  bytes_below [] fit low ids = ids_below ids
  bytes_below (ask ∷ asks) fit low ids =
      (subst (PayloadBelow top seqs) (sym (ap payload_or (read_as_spelled (payloads.Lease ask) fit.0))) low.0, bytes_below asks fit.1 low.1 ids)

-- the lease asks of an inbox
pub asks_low : (seqs expiry : ℕ) (inbox : List Item) → AllByRecursion (ItemBelow seqs expiry) inbox → AllByRecursion (λ (ask : LeaseAsk). ask.prev ≤ seqs) (asks_of inbox)
asks_low seqs expiry [] h = tt
asks_low seqs expiry (items.Write id ∷ inbox) h = asks_low seqs expiry inbox h.1
asks_low seqs expiry (items.Lease ask ∷ inbox) h = (h.0.0, asks_low seqs expiry inbox h.1)

-- the last index of a flush
ids_short : (inbox : List Item) → length (ids_of inbox) ≤ length inbox
ids_short [] = omega arith
ids_short (items.Write id ∷ inbox) = let k = ids_short inbox in omega (arith, k)
ids_short (items.Lease ask ∷ inbox) = let k = ids_short inbox in omega (arith, k)

once_short : (ids : List CmdId) → length (once ids) ≤ length ids
once_short [] = omega arith
once_short (id ∷ ids) =
    let a = once_short ids in
    let b = filter_short (λ other. not (same_id id other)) (once ids) in
    omega (arith, a, b)

last_low : (top lai assigned : ℕ) → lai ≤ top → assigned ≤ top → (ids : List CmdId) → last_after lai assigned ids ≤ top + length ids
last_low top lai assigned l a [] = omega (arith, a)
last_low top lai assigned l a (id ∷ ids) = omega (arith, l, a)

pub assigning_low : (top : ℕ) (r : Replica) → r.applied.state.lai ≤ top → r.assigned ≤ top → (assigning r).last ≤ top + length r.inbox
assigning_low top r l a =
    let ids = once (ids_of r.inbox) in
    let x = last_low top r.applied.state.lai r.assigned l a (filter (waits_under (waiting_of r.pending) (lease_of r).seq) ids) in
    let y = filter_short (waits_under (waiting_of r.pending) (lease_of r).seq) ids in
    let z = once_short (ids_of r.inbox) in
    let i = ids_short r.inbox in
    omega (arith, x, y, z, i)
