-- The machine of one range: one list of entries that only grows, nodes that stand at an index of
-- it, and the attempts. It knows no bytes, no Raft and no code (this project).
use Rattle.std.specs.Prelude.{◌≡◌, ℕ, suc, ◌<◌, ◌≤◌, Bool, true, false, ◌==◌, nat_le, if◌then◌else◌, IsTrue, List, [], ◌∷◌, ◌++◌, length, Ok}
use Rattle.rp_base.specs.declared.ids.CmdId.{CmdId}
use Rattle.rp_request.specs.declared.commands.Payload.{Payload}
use Rattle.rp_request.specs.declared.commands.Payload.TheVariants.{Nothing, Write, Lease}
use Rattle.rp_request.specs.declared.commands.Command.{Command}
use Rattle.rp_request.specs.declared.requests.Request.TheVariants as requests
use Rattle.rp_request.specs.declared.outcomes.Reply.TheVariants as replies
use Rattle.rp_request.specs.Covers.{covers, in_bounds, Apart}
use Rattle.rp_request.specs.Evaluations.{evaluated}
use Rattle.rp_request.specs.Applied.{AppliedState, verdict}
use Rattle.rp_request.specs.declared.verdicts.Verdict.{Verdict}
use Rattle.rp_request.specs.declared.verdicts.Verdict.TheVariants.{Took, OldLease, OldIndex, LeaseMoved}
use Rattle.rp_request.specs.declared.verdicts.Verdict.TheVariants as verdicts
use Rattle.rp_rangesafe.specs.Attempts.{Body, Stage, Unborn, Waiting, Proposed, Success, Refused, Overtaken, Removed, Restarted, Attempt, Attempts, IsPending, IsOf, staged, handed_out, with_attempt, at_node}
use Rattle.rp_rangesafe.specs.Along.{entry, state}

-- a range: the state that it starts from, its list; of each node how many entries it has applied,
-- whether it still has its replica, and the lease sequence that it had at its last restart; and the
-- attempts
pub record World : Type 0 where
  pub start : AppliedState
  pub log : List Payload
  pub index : ℕ → ℕ
  pub alive : ℕ → Bool
  pub barrier : ℕ → ℕ
  pub attempt : Attempts

-- an attempt that was not made
abbrev pub unborn : Attempt
unborn = record {
  stage = Unborn;
  node = 0;
  from = 0;
  seq = 0;
  body = record { request = requests.Split 0; batch = []; reply = replies.Set };
  maxima = [];
}

-- a range as it starts
abbrev pub begin : AppliedState → World
begin s = record {
  start = s;
  log = [];
  index = λ node. 0;
  alive = λ node. true;
  barrier = λ node. 0;
  attempt = λ id. unborn;
}

-- the state after so many entries of the range's list
abbrev pub state_at : World → ℕ → AppliedState
state_at w i = state w.start (entry w.log) i

-- a node's applied state
abbrev pub here : World → ℕ → AppliedState
here w node = state_at w (w.index node)

-- what may happen next
pub data Event : Type 0 where
  -- a node evaluated a request and holds its latches
  Admit : CmdId → (node : ℕ) → Body → Event
  -- a waiting attempt is handed out with this maximum
  Flush : CmdId → (max : ℕ) → Event
  -- the lease applied index passed a proposed attempt's maximum: it waits again
  Return : CmdId → Event
  -- a waiting attempt is refused
  Refuse : CmdId → Event
  -- the list grows by an entry
  Commit : Payload → Event
  -- a node applies its next entry
  Apply : (node : ℕ) → Event
  -- a node takes in a snapshot of the state at an index
  Snapshot : (node to : ℕ) → Event
  -- a node's replica is removed
  Remove : (node : ℕ) → Event
  -- a node restarts, and admits no more under the present lease sequence: its own ask of tick 0
  -- gives it the next one
  Restart : (node : ℕ) → Event

-- on this state the request lies in the bounds, and was evaluated so
pub record IsEvaluated (s : AppliedState) (body : Body) : Type 0 where
  pub bounded : IsTrue (in_bounds s.desc body.request)
  pub evaluation : evaluated s.table s.desc body.request
      ≡ Ok (record { batch = body.batch; reply = body.reply })

-- a node may admit: its replica is there and holds the lease, under a sequence that is past its
-- barrier; the request lies in the bounds, was evaluated on its applied state, and covers no key
-- that a pending one covers
pub record MayAdmit (w : World) (id : CmdId) (node : ℕ) (body : Body) : Type 0 where
  pub new : (w.attempt id).stage ≡ Unborn
  pub live : w.alive node ≡ true
  pub holds : (here w node).lease.holder ≡ node
  pub passed : w.barrier node < (here w node).lease.seq
  pub evaluates : IsEvaluated (here w node) body
  pub latched : (q : CmdId) → IsPending (w.attempt q).stage → (w.attempt q).node ≡ node
      → Apart (covers body.request) (covers (w.attempt q).body.request)

-- the list may grow by Nothing, by any lease ask of a node, which has a number of at least 1, and
-- by a command that was handed out, any number of times
abbrev pub MayCommit : World → Payload → Type 0
MayCommit w Nothing = Unit {0}
MayCommit w (Write c) = IsOf (w.attempt c.id) c
MayCommit w (Lease ask) = 0 < ask.holder

-- what is proposed under a maximum that was passed
pub record IsPassed (w : World) (id : CmdId) : Type 0 where
  pub own : ℕ
  pub stage : (w.attempt id).stage ≡ Proposed own
  pub passed : own ≤ (here w (w.attempt id).node).lai

-- a snapshot is of an index of the list, at or above the node's own
pub record MayJump (w : World) (node to : ℕ) : Type 0 where
  pub live : w.alive node ≡ true
  pub onward : w.index node ≤ to
  pub within : to ≤ length w.log

-- which events are lawful
abbrev pub Lawful : World → Event → Type 0
Lawful w (Admit id node body) = MayAdmit w id node body
Lawful w (Flush id max) = ((w.attempt id).stage ≡ Waiting) × (0 < max)
Lawful w (Return id) = IsPassed w id
Lawful w (Refuse id) = (w.attempt id).stage ≡ Waiting
Lawful w (Commit p) = MayCommit w p
Lawful w (Apply node) = (w.alive node ≡ true) × (w.index node < length w.log)
Lawful w (Snapshot node to) = MayJump w node to
Lawful w (Remove node) = w.alive node ≡ true
Lawful w (Restart node) = w.alive node ≡ true

-- an attempt as it is admitted
abbrev pub admitted : World → ℕ → Body → Attempt
admitted w node body = record {
  stage = Waiting;
  node = node;
  from = w.index node;
  seq = (here w node).lease.seq;
  body = body;
  maxima = [];
}

-- a value of a node becomes this
unfoldable pub with_node : {A : Type 0} → (ℕ → A) → ℕ → A → ℕ → A
with_node f node v q = if q == node then v else f q

-- what the proposer makes of the verdict on its own entry
abbrev pub by_verdict : Command → Verdict → Stage
by_verdict c Took = Success c.reply
by_verdict c (OldLease now) = Refused
by_verdict c (OldIndex lai) = Waiting
by_verdict c LeaseMoved = Proposed c.max
by_verdict c verdicts.Nothing = Proposed c.max

-- the entry is the proposer's own where the attempt is proposed under its maximum
abbrev pub told : Command → Verdict → Stage → Stage
told c v Unborn = Unborn
told c v Waiting = Waiting
told c v (Proposed own) = if own == c.max then by_verdict c v else Proposed own
told c v (Success reply) = Success reply
told c v Refused = Refused
told c v (Overtaken own passed) = Overtaken own passed
told c v (Removed own) = Removed own
told c v (Restarted own) = Restarted own

-- the attempts after a node applied an entry in a state
abbrev pub after_entry : ℕ → AppliedState → Payload → Attempts → Attempts
after_entry node s Nothing attempts = attempts
after_entry node s (Write c) attempts = with_attempt attempts c.id
    (at_node node (told c (verdict s (Write c))) attempts c.id)
after_entry node s (Lease ask) attempts = attempts

-- a snapshot with this lease applied index
abbrev pub overtaken : ℕ → Stage → Stage
overtaken lai Unborn = Unborn
overtaken lai Waiting = Waiting
overtaken lai (Proposed own) = if nat_le own lai then Overtaken own lai else Proposed own
overtaken lai (Success reply) = Success reply
overtaken lai Refused = Refused
overtaken lai (Overtaken own passed) = Overtaken own passed
overtaken lai (Removed own) = Removed own
overtaken lai (Restarted own) = Restarted own

-- the replica is gone
abbrev pub removed : Stage → Stage
removed Unborn = Unborn
removed Waiting = Refused
removed (Proposed own) = Removed own
removed (Success reply) = Success reply
removed Refused = Refused
removed (Overtaken own passed) = Overtaken own passed
removed (Removed own) = Removed own
removed (Restarted own) = Restarted own

-- the node forgot what it had proposed
abbrev pub restarted : Stage → Stage
restarted Unborn = Unborn
restarted Waiting = Refused
restarted (Proposed own) = Restarted own
restarted (Success reply) = Success reply
restarted Refused = Refused
restarted (Overtaken own passed) = Overtaken own passed
restarted (Removed own) = Removed own
restarted (Restarted own) = Restarted own

-- one attempt in another stage
abbrev pub turned : World → CmdId → Stage → World
turned w id stage = record w { attempt = with_attempt w.attempt id (staged (w.attempt id) stage) }

-- the range after an event
abbrev pub happens : World → Event → World
happens w (Admit id node body) = record w {
  attempt = with_attempt w.attempt id (admitted w node body);
}
happens w (Flush id max) = record w {
  attempt = with_attempt w.attempt id (handed_out (w.attempt id) max);
}
happens w (Return id) = turned w id Waiting
happens w (Refuse id) = turned w id Refused
happens w (Commit p) = record w { log = w.log ++ p ∷ [] }
happens w (Apply node) = record w {
  index = with_node w.index node (suc (w.index node));
  attempt = after_entry node (here w node) (entry w.log (w.index node)) w.attempt;
}
happens w (Snapshot node to) = record w {
  index = with_node w.index node to;
  attempt = at_node node (overtaken (state_at w to).lai) w.attempt;
}
happens w (Remove node) = record w {
  alive = with_node w.alive node false;
  attempt = at_node node removed w.attempt;
}
happens w (Restart node) = record w {
  barrier = with_node w.barrier node (here w node).lease.seq;
  attempt = at_node node restarted w.attempt;
}

-- each event is lawful where it happens
abbrev pub AllLawful : World → List Event → Type 0
AllLawful w [] = Unit {0}
AllLawful w (e ∷ es) = Lawful w e × AllLawful (happens w e) es

-- the range after a list of events
abbrev pub run : World → List Event → World
run w [] = w
run w (e ∷ es) = run (happens w e) es
