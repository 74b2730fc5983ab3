-- A list of moves, one after another: what they leave depends on the replica alone, and not on its Raft.
use Rattle.std.proofs.Common.{◌≡◌, ℕ, ◌+◌, Bool, true, false, cond, List, [], ◌∷◌, length, drop, get_or, Option, None, Some, refl, sym, ap, ◌∙◌, ◌<◌}
use Rattle.std.proofs.lemmas.List.{drop_more}
use Rattle.rp_base.specs.declared.ids.CmdId.{CmdId}
use Rattle.rp_raftstep.specs.RaftState.{RaftState}
use Rattle.rp_request.specs.Applied.{AppliedState}
use Rattle.rp_pending.specs.Proposals.{proposal_of, is_proposed}
use Rattle.rp_pending.specs.Refreshes.{goes_back}
use Rattle.rp_pending.specs.declared.proposals.Proposal.{Proposal}
use Rattle.std.specs.Option.{option_map_or}
use Rattle.rp_request.specs.declared.outcomes.Outcome.TheVariants as outcomes
use Rattle.rp_request.specs.declared.outcomes.Refusal.TheVariants.{NotLeaseHolder}
use Rattle.rp_events.specs.declared.moves.Move.{Move}
use Rattle.rp_events.specs.declared.moves.Move.TheVariants.{HandsOut, GivesUp, TakesBack, Repeats}
use Rattle.rp_events.specs.Moves.{hands_out, gives_up, takes_back, repeats, moved, moved_all, then_is, then_told, ended, proposed_under, waits_again}
use Rattle.rp_events.specs.Refreshes.{with_taken}
use Rattle.rp_events.specs.Replicas.{Replica, Told, untold, lease_of}
use Rattle.rp_replica.specs.Handing.{items_by, items_of}
use Rattle.rp_replica.specs.Plans.{opened}

same_by : (b : Bool) (t u v w : Told) → t.replica ≡ u.replica → v.replica ≡ w.replica → (cond b t v).replica ≡ (cond b u w).replica
same_by true t u v w e f = e
same_by false t u v w e f = f

-- a told replica with another Raft
abbrev pub at_raft : RaftState → Told → Told
at_raft s t = record { replica = record t.replica { raft = s }; ended = t.ended }

raft_by : (s : RaftState) (b : Bool) (t v : Told) → cond b (at_raft s t) (at_raft s v) ≡ at_raft s (cond b t v)
raft_by s true t v = refl
raft_by s false t v = refl

abbrev pub refused : Told → CmdId → Told
refused t id = then_told t (ended t.replica id (outcomes.Refused (NotLeaseHolder (lease_of t.replica))))

module _ (ticks round : ℕ) where
  abbrev pub handed : Told → CmdId → ℕ → Told
  handed t id max = then_is t (proposed_under t.replica ticks round id max)

  abbrev pub back : Told → CmdId → Told
  back t id = then_is t (waits_again t.replica id)

  hands_by : (t : Told) (id : CmdId) (max : ℕ) (o : Option Proposal)
      → (option_map_or (hands_out ticks round t id max) o t).replica ≡ (option_map_or (hands_out ticks round (untold t.replica) id max) o (untold t.replica)).replica
  hands_by t id max None = refl
  hands_by t id max (Some p) = same_by (is_proposed p.stage) t (untold t.replica) (handed t id max) (handed (untold t.replica) id max) refl refl

  gives_by : (t : Told) (id : CmdId) (o : Option Proposal)
      → (option_map_or (gives_up t id) o t).replica ≡ (option_map_or (gives_up (untold t.replica) id) o (untold t.replica)).replica
  gives_by t id None = refl
  gives_by t id (Some p) = same_by (is_proposed p.stage) t (untold t.replica) (refused t id) (refused (untold t.replica) id) refl refl

  takes_by : (t : Told) (id : CmdId) (o : Option Proposal)
      → (option_map_or (takes_back t id) o t).replica ≡ (option_map_or (takes_back (untold t.replica) id) o (untold t.replica)).replica
  takes_by t id None = refl
  takes_by t id (Some p) = same_by (goes_back t.replica.applied.state.lai p) (back t id) (back (untold t.replica) id) t (untold t.replica) refl refl

  repeats_by : (t : Told) (id : CmdId) (o : Option Proposal)
      → (option_map_or (repeats ticks round t id) o t).replica ≡ (option_map_or (repeats ticks round (untold t.replica) id) o (untold t.replica)).replica
  repeats_by t id None = refl
  repeats_by t id (Some p) = same_by (is_proposed p.stage) (handed t id p.max) (handed (untold t.replica) id p.max) t (untold t.replica) refl refl

  moved_by : (t : Told) (m : Move) → (moved ticks round t m).replica ≡ (moved ticks round (untold t.replica) m).replica
  moved_by t (HandsOut id max) = hands_by t id max (proposal_of id t.replica.pending)
  moved_by t (GivesUp id) = gives_by t id (proposal_of id t.replica.pending)
  moved_by t (TakesBack id) = takes_by t id (proposal_of id t.replica.pending)
  moved_by t (Repeats id) = repeats_by t id (proposal_of id t.replica.pending)

  same_moves : (ms : List Move) (t u : Told) → t.replica ≡ u.replica → (moved_all ticks round t ms).replica ≡ (moved_all ticks round u ms).replica
  same_moves [] t u e = e
  same_moves (m ∷ ms) t u e =
      same_moves ms (moved ticks round t m) (moved ticks round u m)
      (moved_by t m ∙ ap (λ r. (moved ticks round (untold r) m).replica) e ∙ sym (moved_by u m))

  -- one move, and those behind it
  pub moves_on : (ms : List Move) (i : ℕ) (m : Move) (r s z : Replica) → i < length ms → m ≡ get_or ms i m → s ≡ (moved ticks round (untold r) m).replica
      → (moved_all ticks round (untold r) (drop i ms)).replica ≡ z → (moved_all ticks round (untold s) (drop (i + 1) ms)).replica ≡ z
  moves_on ms i m r s z within is e leads =
      same_moves (drop (i + 1) ms) (untold s) (moved ticks round (untold r) m) e
      ∙ sym (ap (λ l. (moved_all ticks round (untold r) l).replica) (drop_more ms i m within ∙ ap (λ v. v ∷ drop (i + 1) ms) (sym is)))
      ∙ leads

  -- the replica's Raft stays, whatever it is
  raft_hands : (s : RaftState) (t : Told) (id : CmdId) (max : ℕ) (o : Option Proposal)
      → option_map_or (hands_out ticks round (at_raft s t) id max) o (at_raft s t) ≡ at_raft s (option_map_or (hands_out ticks round t id max) o t)
  raft_hands s t id max None = refl
  raft_hands s t id max (Some p) = raft_by s (is_proposed p.stage) t (handed t id max)

  raft_gives : (s : RaftState) (t : Told) (id : CmdId) (o : Option Proposal)
      → option_map_or (gives_up (at_raft s t) id) o (at_raft s t) ≡ at_raft s (option_map_or (gives_up t id) o t)
  raft_gives s t id None = refl
  raft_gives s t id (Some p) = raft_by s (is_proposed p.stage) t (refused t id)

  raft_takes : (s : RaftState) (t : Told) (id : CmdId) (o : Option Proposal)
      → option_map_or (takes_back (at_raft s t) id) o (at_raft s t) ≡ at_raft s (option_map_or (takes_back t id) o t)
  raft_takes s t id None = refl
  raft_takes s t id (Some p) = raft_by s (goes_back t.replica.applied.state.lai p) (back t id) t

  raft_repeats : (s : RaftState) (t : Told) (id : CmdId) (o : Option Proposal)
      → option_map_or (repeats ticks round (at_raft s t) id) o (at_raft s t) ≡ at_raft s (option_map_or (repeats ticks round t id) o t)
  raft_repeats s t id None = refl
  raft_repeats s t id (Some p) = raft_by s (is_proposed p.stage) (handed t id p.max) t

  moved_raft : (s : RaftState) (t : Told) (m : Move) → moved ticks round (at_raft s t) m ≡ at_raft s (moved ticks round t m)
  moved_raft s t (HandsOut id max) = raft_hands s t id max (proposal_of id t.replica.pending)
  moved_raft s t (GivesUp id) = raft_gives s t id (proposal_of id t.replica.pending)
  moved_raft s t (TakesBack id) = raft_takes s t id (proposal_of id t.replica.pending)
  moved_raft s t (Repeats id) = raft_repeats s t id (proposal_of id t.replica.pending)

  pub moves_raft : (s : RaftState) (ms : List Move) (t : Told) → moved_all ticks round (at_raft s t) ms ≡ at_raft s (moved_all ticks round t ms)
  moves_raft s [] t = refl
  moves_raft s (m ∷ ms) t = ap (λ z. moved_all ticks round z ms) (moved_raft s t m) ∙ moves_raft s ms (moved ticks round t m)

  -- the same of what moves make of a replica that is told of something before
  pub same_begun : (ms : List Move) (t : Told) → (moved_all ticks round (untold t.replica) ms).replica ≡ (moved_all ticks round t ms).replica
  same_begun ms t = same_moves ms (untold t.replica) t refl

-- a snapshot that is taken in, and an inbox that is emptied, leave Raft
pub begun_raft : (s : RaftState) (r : Replica) (last : Option ℕ) (taken : Option (ℕ × AppliedState))
    → with_taken (opened (record r { raft = s }) last) taken ≡ at_raft s (with_taken (opened r last) taken)
begun_raft s r None None = refl
begun_raft s r None (Some taken) = refl
begun_raft s r (Some last) None = refl
begun_raft s r (Some last) (Some taken) = refl

-- the room of one move, and of those behind it
pub items_more : (ms : List Move) (i : ℕ) (m : Move) → i < length ms → m ≡ get_or ms i m → items_of (drop i ms) ≡ items_by m + items_of (drop (i + 1) ms)
items_more ms i m within is = ap items_of (drop_more ms i m within ∙ ap (λ v. v ∷ drop (i + 1) ms) (sym is))
