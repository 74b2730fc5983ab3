-- A turn of one range at a node: the node's part in the machine, Raft's events, and the entries by which
-- the list grows in them.
use Rattle.std.proofs.Common.{◌≡◌, ℕ, ⊎_elim, Option, None, Some, List, [], ◌∷◌, ◌++◌, map, refl, sym, subst, ◌∙◌}
use Rattle.std.specs.Prelude.{Contains}
use Rattle.std.proofs.lemmas.List.Elements.{All-contains, All-from_recursion}
use Rattle.rp_base.specs.declared.ids.CmdId.{CmdId}
use Rattle.rp_request.specs.Applied.{AppliedState}
use Rattle.rp_request.specs.declared.commands.Payload.{Payload}
use Rattle.rp_request.specs.declared.outcomes.Outcome.{Outcome}
use Rattle.rp_pending.specs.declared.proposals.Proposal.{Proposal}
use Rattle.rp_pending.specs.Proposals.{proposal_of}
use Rattle.rp_raftsafe.specs.World as raft
use Rattle.rp_raftsafe.specs.Safety.{OneList, OneListOf}
use Rattle.rp_raftsafe.specs.Proposed.{payloads_of}
use Rattle.rp_rangesafe.specs.Attempts.{IsBornAt}
use Rattle.rp_rangesafe.specs.World as machine
use Rattle.rp_rangesafe.specs.World.{Event, Commit, AllLawful, MayCommit}
use Rattle.rp_rangesafe.specs.Places.{IsReached}
use Rattle.rp_rangesafe.proofs.Runs.{lawful_further, run_further}
use Rattle.rp_events.specs.declared.answers.Ended.{Ended}
use Rattle.rp_events.specs.Nodes.{Node, Status, seat}
use Rattle.rp_events.specs.Worlds.{World, node_of, outcome_at}
use Rattle.rp_seats.specs.Views.{view, read, range_at}
use Rattle.rp_seats.specs.Standing.{pending_in, IsToldAs, TellsOf, SeatOk, RaftOk, RangeOk}
use Rattle.rp_seats.specs.Steps.{AllHappenAt, AdmitsNone, AreElsewhere, told_after, RaftTurned}
use Rattle.rp_seats.specs.Turned.{SeatTurned, TurnBehind, TurnOk, IsNodeChange}
use Rattle.rp_seats.proofs.Moves.{quiet_further}
use Rattle.rp_seats.proofs.Others.{place_born, seat_of_other, own_elsewhere, elsewhere_further}
use Rattle.rp_seats.proofs.Commits.{raft_turn}

-- commits happen at no node, and admit nothing
commits_elsewhere : (node : ℕ) (h : machine.World) (ps : List Payload) → AreElsewhere node h (map Commit ps)
commits_elsewhere node h [] = tt
commits_elsewhere node h (p ∷ ps) = ((λ x. x), commits_elsewhere node (machine.happens h (Commit p)) ps)

pub commits_quiet : (ps : List Payload) → AdmitsNone (map Commit ps)
commits_quiet [] = tt
commits_quiet (p ∷ ps) = commits_quiet ps

-- what is told to the node's own attempts may be said otherwise
pub seat_told : (h : machine.World) (node range : ℕ) (status : Status) (t u : CmdId → Option Outcome) → ((id : CmdId) → IsBornAt (h.attempt id) node → t id ≡ u id)
    → SeatOk h node range status t → SeatOk h node range status u
seat_told h node range status t u same s = record {
  stands = s.stands;
  pending = record {
    tells = λ id. otherwise id (proposal_of id (pending_in status)) (s.pending.tells id);
    distinct = s.pending.distinct;
    held = s.pending.held;
  };
}
  where
    otherwise : (id : CmdId) (o : Option Proposal) → TellsOf node (h.attempt id) o (t id) → TellsOf node (h.attempt id) o (u id)
    otherwise id None tells = λ born. subst (IsToldAs (h.attempt id).stage) (same id born) (tells born)
    otherwise id (Some p) tells = record {
      made_at = tells.made_at;
      seq = tells.seq;
      body = tells.body;
      place = tells.place;
      pending = sym (same id (place_born p.stage p.max (h.attempt id) tells.place, tells.made_at)) ∙ tells.pending;
    }

-- the node's part first, and then the commits
module _ (lists : OneList AppliedState) (nodes range : ℕ) (s : AppliedState) (seen events : List raft.Event) (w after : World) (h : machine.World)
    (ok : RangeOk lists nodes range s seen w h) (reached : IsReached h) (node : ℕ) (n new : Node) (change : IsNodeChange w after node n new)
    (first : List Event) (first_lawful : AllLawful h first) (own : AllHappenAt node h first) (same_log : (machine.run h first).log ≡ h.log)
    (status : Status) (seat_is : seat new range ≡ status) (t : CmdId → Option Outcome) (stands : SeatOk (machine.run h first) node range status t)
    (told : (id : CmdId) → IsBornAt ((machine.run h first).attempt id) node → outcome_at id new ≡ t id)
    (sees : view range after ≡ raft.run (range_at nodes range s) events (view range w))
    (handed : (bytes : List ℕ) → Contains (payloads_of events) bytes → MayCommit (machine.run h first) (read bytes)) where
  abbrev one : OneListOf (range_at nodes range s)
  one = lists (range_at nodes range s) ok.is

  abbrev k : machine.World
  k = machine.run h first

  grown : RaftTurned nodes range s one (seen ++ events) after k
  grown = raft_turn nodes range s one seen events w after h k ok.raft sees reached (record { events = first; lawful = first_lawful; reached = refl }) same_log handed

  abbrev commits : List Event
  commits = map Commit grown.payloads

  leads : machine.run h (first ++ commits) ≡ record k { log = k.log ++ grown.payloads }
  leads = run_further h first commits ∙ grown.leads

  all_elsewhere : (other : ℕ) → (other ≡ node → ⊥) → AreElsewhere other h (first ++ commits)
  all_elsewhere other ne = elsewhere_further other h first commits (own_elsewhere h first node other ne own) (commits_elsewhere other k grown.payloads)

  all_lawful : AllLawful h (first ++ commits)
  all_lawful = lawful_further h first commits first_lawful grown.lawful

  own_seat : SeatOk (machine.run h (first ++ commits)) node range (seat new range) (λ id. outcome_at id new)
  own_seat = subst (λ z. SeatOk (machine.run h (first ++ commits)) node range z (λ id. outcome_at id new)) (sym seat_is)
      (subst (λ z. SeatOk z node range status (λ id. outcome_at id new)) (sym (run_further h first commits))
      (seat_of_other k commits node range status (λ id. outcome_at id new) grown.lawful (commits_elsewhere node k grown.payloads)
      (seat_told k node range status t (λ id. outcome_at id new) (λ id born. sym (told id born)) stands)))

  pub bound_behind : TurnBehind lists nodes range s (seen ++ events) after h node first
  bound_behind = record {
    commits = grown.payloads;
    lawful = all_lawful;
    elsewhere = all_elsewhere;
    range_ok = record {
      is = ok.is;
      raft = subst (λ z. RaftOk nodes range s one (seen ++ events) after z) (sym leads) grown.raft;
      seats = λ other m has. ⊎_elim
          (λ (here : (other ≡ node) × (m ≡ new)). subst (λ i. SeatOk (machine.run h (first ++ commits)) i range (seat m range) (λ id. outcome_at id m)) (sym here.0)
          (subst (λ z. SeatOk (machine.run h (first ++ commits)) node range (seat z range) (λ id. outcome_at id z)) (sym here.1) own_seat))
          (λ (there : (other ≡ node → ⊥) × (node_of w other ≡ Some m)).
          seat_of_other h (first ++ commits) other range (seat m range) (λ id. outcome_at id m) all_lawful (all_elsewhere other there.0) (ok.seats other m there.1))
          (change.others other m has);
    };
  }

module _ (lists : OneList AppliedState) (nodes range : ℕ) (s : AppliedState) (seen events : List raft.Event) (w after : World) (h : machine.World)
    (ok : RangeOk lists nodes range s seen w h) (reached : IsReached h) (node : ℕ) (n new : Node) (change : IsNodeChange w after node n new)
    (status : Status) (seat_is : seat new range ≡ status) (ended : List Ended) (proposed : List (List ℕ)) (turn : SeatTurned node range h (λ id. outcome_at id n) status ended proposed)
    (told : (id : CmdId) → IsBornAt ((machine.run h turn.events).attempt id) node → outcome_at id new ≡ told_after (λ q. outcome_at q n) ended id)
    (sees : view range after ≡ raft.run (range_at nodes range s) events (view range w))
    (handed : (bytes : List ℕ) → Contains (payloads_of events) bytes → Contains proposed bytes) where
  abbrev May : List ℕ → Type 0
  May bytes = MayCommit (machine.run h turn.events) (read bytes)

  may : (bytes : List ℕ) → Contains (payloads_of events) bytes → May bytes
  may bytes has = All-contains May proposed bytes (All-from_recursion May proposed turn.may) (handed bytes has)

  pub bound_turn : TurnOk lists nodes range s (seen ++ events) after h node
  bound_turn =
      let b = bound_behind lists nodes range s seen events w after h ok reached node n new change turn.events turn.lawful turn.own turn.log status seat_is
      (told_after (λ q. outcome_at q n) ended) turn.seat told sees may in
      record {
        events = turn.events ++ map Commit b.commits;
        lawful = b.lawful;
        elsewhere = b.elsewhere;
        quiet = quiet_further turn.events (map Commit b.commits) turn.quiet (commits_quiet b.commits);
        range_ok = b.range_ok;
      }
