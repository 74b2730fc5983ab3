-- What is pending keeps its widths through the moves of a flush and of a refresh, and where some end.
use Rattle.std.proofs.Common.{◌≡◌, ℕ, ◌+◌, ◌^◌, ◌<◌, ◌≤◌, Bool, true, false, cond, not, Option, None, Some, List, [], ◌∷◌, ◌++◌, map, length, max, refl, subst, arith}
use Rattle.std.specs.List.{AllByRecursion, filter}
use Rattle.std.specs.Option.{option_map_or}
use Rattle.std.proofs.lemmas.Bool.{cond_both}
use Rattle.rp_base.proofs.Elements.{all_filter}
use Rattle.rp_base.specs.declared.ids.CmdId.{CmdId}
use Rattle.rp_flush.specs.Assigns.{numbered, once, ids_of, waits_under, last_after}
use Rattle.rp_raftstep.specs.declared.messages.Message.{Message}
use Rattle.rp_raftstep.specs.Step.{Draft, tick, received}
use Rattle.rp_request.specs.Applied.{AppliedState}
use Rattle.rp_pending.specs.declared.proposals.Proposal.{Proposal}
use Rattle.rp_pending.specs.declared.refreshes.Refresh.{Refresh}
use Rattle.rp_pending.specs.Proposals.{has_id, proposal_of, without, with_changed, is_proposed, proposed, waiting_again}
use Rattle.rp_pending.specs.Refreshes.{goes_back, waiting_of}
use Rattle.rp_events.specs.Flushes.{assigning, emptied, flush_moves, flushed}
use Rattle.rp_events.specs.declared.moves.Move.{Move}
use Rattle.rp_events.specs.declared.moves.Move.TheVariants.{HandsOut, GivesUp, TakesBack, Repeats}
use Rattle.rp_events.specs.Moves.{hands_out, gives_up, takes_back, repeats, moved, moved_all, then_is, proposed_under, waits_again, hands_to_raft}
use Rattle.rp_events.specs.Refreshes.{refreshing, refreshed_by, refresh_moves, ticked, delivered, with_taken}
use Rattle.rp_events.specs.Replicas.{Replica, Told, untold, lease_of, has_new_leader}
use Rattle.rp_seats.specs.Turned.{FitsPending, HaveKeys}
use Rattle.rp_turns.specs.Fitting.{FitsOne, FitEach, HasKeysOne, IsFit}

-- what holds of each holds of the one that is found
pub each_found : (P : Proposal → Type 0) (ps : List Proposal) → AllByRecursion P ps → (id : CmdId) (p : Proposal) → proposal_of id ps ≡ Some p → P p
each_found P [] h id p e = absurd cc
each_found P (x ∷ ps) h id p e = go (each_found P ps h.1 id p) (has_id id x) e where
  some_is : (a b : Proposal) → ◌≡◌ {A = Option Proposal} (Some a) (Some b) → a ≡ b
  some_is a b k = cc

  go : (proposal_of id ps ≡ Some p → P p) → (b : Bool) → cond b (Some x) (proposal_of id ps) ≡ Some p → P p
  go ih true k = subst P (some_is x p k) h.0
  go ih false k = ih k

pub fits_pending : (ps : List Proposal) → FitEach ps → FitsPending ps
fits_pending ps h id p e = each_found FitsOne ps h id p e

pub have_keys : (ps : List Proposal) → AllByRecursion HasKeysOne ps → HaveKeys ps
have_keys ps h id p e = each_found HasKeysOne ps h id p e

-- one changes, or ends
pub each_changed : (P : Proposal → Type 0) (id : CmdId) (g : Proposal → Proposal) → ((p : Proposal) → P p → P (g p)) → (ps : List Proposal) → AllByRecursion P ps → AllByRecursion P (with_changed id g ps)
each_changed P id g k [] h = tt
each_changed P id g k (p ∷ ps) h = (go (has_id id p), each_changed P id g k ps h.1) where
  go : (b : Bool) → P (cond b (g p) p)
  go true = k p h.0
  go false = h.0

pub each_left : (P : Proposal → Type 0) (id : CmdId) (ps : List Proposal) → AllByRecursion P ps → AllByRecursion P (without id ps)
each_left P id ps h = all_filter P (λ p. not (has_id id p)) ps h

-- a hand-out gives an index of its width
abbrev pub IsSmallMove : Move → Type 0
IsSmallMove (HandsOut id max) = max < 2 ^ 64
IsSmallMove (GivesUp id) = Unit {0}
IsSmallMove (TakesBack id) = Unit {0}
IsSmallMove (Repeats id) = Unit {0}

-- a move keeps what holds of each, where it holds of one that is proposed or waits again
module _ (P : Proposal → Type 0) (Q : ℕ → Type 0) (hands : (max ticks round : ℕ) (p : Proposal) → Q max → P p → P (proposed max ticks round p))
    (again : (p : Proposal) → P p → P (waiting_again p)) (own : (p : Proposal) → P p → Q p.max) where
  abbrev pub Moves : Move → Type 0
  Moves (HandsOut id max) = Q max
  Moves (GivesUp id) = Unit {0}
  Moves (TakesBack id) = Unit {0}
  Moves (Repeats id) = Unit {0}

  move_fits : (ticks round : ℕ) (t : Told) (m : Move) → Moves m → AllByRecursion P t.replica.pending → AllByRecursion P (moved ticks round t m).replica.pending
  move_fits ticks round t (HandsOut id max) small h = go (proposal_of id t.replica.pending) where
    go : (o : Option Proposal) → AllByRecursion P (option_map_or (hands_out ticks round t id max) o t).replica.pending
    go None = h
    go (Some p) = cond_both (is_proposed p.stage) t (then_is t (proposed_under t.replica ticks round id max)) (λ z. AllByRecursion P z.replica.pending) (λ _. h)
        (λ _. each_changed P id (proposed max ticks round) (λ q k. hands max ticks round q small k) t.replica.pending h)
  move_fits ticks round t (GivesUp id) small h = go (proposal_of id t.replica.pending) where
    go : (o : Option Proposal) → AllByRecursion P (option_map_or (gives_up t id) o t).replica.pending
    go None = h
    go (Some p) = cond_both (is_proposed p.stage) t _ (λ (z : Told). AllByRecursion P z.replica.pending) (λ _. h) (λ _. each_left P id t.replica.pending h)
  move_fits ticks round t (TakesBack id) small h = go (proposal_of id t.replica.pending) where
    go : (o : Option Proposal) → AllByRecursion P (option_map_or (takes_back t id) o t).replica.pending
    go None = h
    go (Some p) = cond_both (goes_back t.replica.applied.state.lai p) (then_is t (waits_again t.replica id)) t (λ z. AllByRecursion P z.replica.pending)
        (λ _. each_changed P id waiting_again again t.replica.pending h) (λ _. h)
  move_fits ticks round t (Repeats id) small h = go (proposal_of id t.replica.pending) refl where
    go : (o : Option Proposal) → proposal_of id t.replica.pending ≡ o → AllByRecursion P (option_map_or (repeats ticks round t id) o t).replica.pending
    go None e = h
    go (Some p) e = cond_both (is_proposed p.stage) (then_is t (proposed_under t.replica ticks round id p.max)) t (λ z. AllByRecursion P z.replica.pending)
        (λ _. each_changed P id (proposed p.max ticks round) (λ q k. hands p.max ticks round q (own p (each_found P t.replica.pending h id p e)) k) t.replica.pending h) (λ _. h)

  pub moves_fit : (ticks round : ℕ) (t : Told) (ms : List Move) → AllByRecursion Moves ms → AllByRecursion P t.replica.pending → AllByRecursion P (moved_all ticks round t ms).replica.pending
  moves_fit ticks round t [] small h = h
  moves_fit ticks round t (m ∷ ms) small h = moves_fit ticks round (moved ticks round t m) ms small.1 (move_fits ticks round t m small.0 h)

  backs_small : (ids : List CmdId) (ms : List Move) → AllByRecursion Moves ms → AllByRecursion Moves (map TakesBack ids ++ ms)
  backs_small [] ms h = h
  backs_small (id ∷ ids) ms h = (tt, backs_small ids ms h)

  agains_small : (ids : List CmdId) → AllByRecursion Moves (map Repeats ids)
  agains_small [] = tt
  agains_small (id ∷ ids) = (tt, agains_small ids)

  pub refresh_small : (f : Refresh) → AllByRecursion Moves (refresh_moves f)
  refresh_small f = backs_small f.back (map Repeats f.again) (agains_small f.again)

  ups_small : (ids : List CmdId) (ms : List Move) → AllByRecursion Moves ms → AllByRecursion Moves (map GivesUp ids ++ ms)
  ups_small [] ms h = h
  ups_small (id ∷ ids) ms h = (tt, ups_small ids ms h)

  outs_small : (last : ℕ) (ids : List CmdId) → ((k : ℕ) → k ≤ last + length ids → Q k) → AllByRecursion Moves (map (λ (write : CmdId × ℕ). HandsOut write.0 write.1) (numbered last ids))
  outs_small last [] small = tt
  outs_small last (id ∷ ids) small = (small (last + 1) (omega arith), outs_small (last + 1) ids (λ k le. small k (omega (arith, le))))

  pub flush_small : (r : Replica) → ((k : ℕ) → k ≤ (assigning r).last → Q k) → AllByRecursion Moves (flush_moves (assigning r))
  flush_small r small =
      ups_small (assigning r).refused (map (λ write. HandsOut write.0 write.1) (assigning r).writes)
      (by_ids (filter (waits_under (waiting_of r.pending) (lease_of r).seq) (once (ids_of r.inbox))) small)
    where
      by_ids : (ids : List CmdId) → ((k : ℕ) → k ≤ last_after r.applied.state.lai r.assigned ids → Q k)
          → AllByRecursion Moves (map (λ (write : CmdId × ℕ). HandsOut write.0 write.1) (numbered (max r.assigned r.applied.state.lai) ids))
      by_ids [] s = tt
      by_ids (id ∷ ids) s = outs_small (max r.assigned r.applied.state.lai) (id ∷ ids) (λ k le. s k (omega (arith, le)))

  pub flushed_fits : (r : Replica) (ticks round : ℕ) → ((k : ℕ) → k ≤ (assigning r).last → Q k) → AllByRecursion P r.pending → AllByRecursion P (flushed r ticks round).replica.pending
  flushed_fits r ticks round small h = moves_fit ticks round (untold (emptied r (assigning r))) (flush_moves (assigning r)) (flush_small r small) h

  pub ticked_fits : (r : Replica) (ticks round : ℕ) → AllByRecursion P r.pending → AllByRecursion P (ticked r ticks round).replica.pending
  ticked_fits r ticks round h =
      let f : Refresh = refreshing r ticks (has_new_leader r.raft.head (tick {S = AppliedState} r.raft).state.head) in
      moves_fit ticks round (untold r) (refresh_moves f) (refresh_small f) h

  taken_fits : (r : Replica) (o : Option (ℕ × AppliedState)) → AllByRecursion P r.pending → AllByRecursion P (with_taken r o).replica.pending
  taken_fits r None h = h
  taken_fits r (Some taken) h = all_filter P _ r.pending h

  pub delivered_fits : (r : Replica) (from : ℕ) (m : Message AppliedState) (ticks round : ℕ) → AllByRecursion P r.pending → AllByRecursion P (delivered r from m ticks round).replica.pending
  delivered_fits r from m ticks round h =
      let draft : Draft AppliedState = received r.raft from m in
      let t : Told = with_taken r draft.taken in
      let f : Refresh = refreshing t.replica ticks true in
      cond_both (has_new_leader r.raft.head draft.state.head) (refreshed_by r draft ticks round t f) (hands_to_raft r draft t [] []) (λ z. AllByRecursion P z.replica.pending)
      (λ _. moves_fit ticks round t (refresh_moves f) (refresh_small f) (taken_fits r draft.taken h))
      (λ _. taken_fits r draft.taken h)

-- the widths of a command, at another index
hands_whole : (max ticks round : ℕ) (p : Proposal) → max < 2 ^ 64 → FitsOne p → FitsOne (proposed max ticks round p)
hands_whole max ticks round p small f = record { id = f.id; seq = f.seq; max = small; request = f.request; reply = f.reply; batch = f.batch }

again_whole : (p : Proposal) → FitsOne p → FitsOne (waiting_again p)
again_whole p f = record { id = f.id; seq = f.seq; max = f.max; request = f.request; reply = f.reply; batch = f.batch }

own_whole : (p : Proposal) → FitsOne p → p.max < 2 ^ 64
own_whole p f = f.max

pub fits_flushed : (r : Replica) (ticks round : ℕ) → IsFit r → FitEach (flushed r ticks round).replica.pending
fits_flushed r ticks round fit = flushed_fits FitsOne (λ k. k < 2 ^ 64) hands_whole again_whole own_whole r ticks round (λ k le. (let below = fit.numbers in omega (arith, le, below))) fit.pending

pub fits_ticked : (r : Replica) (ticks round : ℕ) → FitEach r.pending → FitEach (ticked r ticks round).replica.pending
fits_ticked r ticks round h = ticked_fits FitsOne (λ k. k < 2 ^ 64) hands_whole again_whole own_whole r ticks round h

pub fits_delivered : (r : Replica) (from : ℕ) (m : Message AppliedState) (ticks round : ℕ) → FitEach r.pending → FitEach (delivered r from m ticks round).replica.pending
fits_delivered r from m ticks round h = delivered_fits FitsOne (λ k. k < 2 ^ 64) hands_whole again_whole own_whole r from m ticks round h
