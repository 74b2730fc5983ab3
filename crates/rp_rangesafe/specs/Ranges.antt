-- The ranges together: commands with further attempts after a refusal, and right ranges that a
-- split opens.
use Rattle.std.specs.Prelude.{◌≡◌, ℕ, ◌<◌, Bool, true, ◌==◌, if◌then◌else◌, ◌⊎◌, List, [], ◌∷◌, length, Option, None, Some}
use Rattle.rp_base.specs.Ids.{same_id}
use Rattle.rp_base.specs.declared.ids.CmdId.{CmdId}
use Rattle.rp_request.specs.declared.commands.Command.{Command}
use Rattle.rp_request.specs.declared.items.Place.{Place}
use Rattle.rp_request.specs.declared.outcomes.Reply.{Reply}
use Rattle.rp_request.specs.Attempts.{previous}
use Rattle.rp_request.specs.States.{first_applied, right_of}
use Rattle.rp_request.specs.Applied.{AppliedState}
use Rattle.rp_rangesafe.specs.Attempts.{Refused}
use Rattle.rp_rangesafe.specs.World.{World, begin, state_at, Event, Admit, Flush, Return, Refuse, Commit, Apply, Snapshot, Remove, Restart, Lawful, happens, with_node}
use Rattle.rp_rangesafe.specs.Places.{IsPlace, items_to}

-- where an attempt was made: nowhere yet, in a range, or it was turned away at its admission
pub data Owner : Type 0 where
  Nobody : Owner
  Turned : Owner
  At : (range : ℕ) → Owner

-- all ranges, which of them there are, and where each attempt was made
pub record Ranges : Type 0 where
  pub range : ℕ → World
  pub opened : ℕ → Bool
  pub owner : CmdId → Owner

-- at first there is range 0, and no attempt was made
abbrev pub at_first : Ranges
at_first = record {
  range = λ r. begin first_applied;
  opened = λ r. r == 0;
  owner = λ id. Nobody;
}

-- what happens: an event in a range, or an attempt is turned away
pub data Step : Type 0 where
  In : (range : ℕ) → Event → Step
  Turn_away : CmdId → Step

-- it was made
abbrev pub IsMade : Owner → Type 0
IsMade Nobody = ⊥
IsMade Turned = Unit {0}
IsMade (At range) = Unit {0}

-- it was made here, and was refused
abbrev pub IsRefusedAt : Ranges → CmdId → Owner → Type 0
IsRefusedAt w id Nobody = ⊥
IsRefusedAt w id Turned = Unit {0}
IsRefusedAt w id (At range) = ((w.range range).attempt id).stage ≡ Refused

-- it was refused
abbrev pub IsRefused : Ranges → CmdId → Type 0
IsRefused w id = IsRefusedAt w id (w.owner id)

-- an attempt may be made once: the first of its command, or the one after a refused one
pub record MayBegin (w : Ranges) (id : CmdId) : Type 0 where
  pub new : w.owner id ≡ Nobody
  pub turn : (id.attempt ≡ 1) ⊎ ((1 < id.attempt) × IsRefused w (previous id))

-- an admission begins an attempt
abbrev pub Begins : Ranges → Event → Type 0
Begins w (Admit id node body) = MayBegin w id
Begins w _ = Unit {0}

-- a step is lawful in a range that there is
pub record IsLawfulIn (w : Ranges) (range : ℕ) (e : Event) : Type 0 where
  pub there : w.opened range ≡ true
  pub lawful : Lawful (w.range range) e
  pub begins : Begins w e

-- which steps are lawful: an attempt that begins may also be turned away
abbrev pub IsLawful : Ranges → Step → Type 0
IsLawful w (In range e) = IsLawfulIn w range e
IsLawful w (Turn_away id) = MayBegin w id

-- a right range starts, where its number is not taken
abbrev pub with_right : Ranges → Option AppliedState → Ranges
with_right w None = w
with_right w (Some s) = if w.opened s.desc.id then w else record w {
  range = with_node w.range s.desc.id (begin s);
  opened = with_node w.opened s.desc.id true;
}

-- where an attempt was made becomes this
unfoldable pub with_owner : (CmdId → Owner) → CmdId → Owner → CmdId → Owner
with_owner owners id o q = if same_id q id then o else owners q

-- an event in a range
abbrev pub within : Ranges → ℕ → Event → Ranges
within w r e = record w { range = with_node w.range r (happens (w.range r) e) }

-- the ranges after an event in one: an admission makes the attempt there
abbrev pub after_event : Ranges → ℕ → Event → Ranges
after_event w r (Admit id node body) = record (within w r (Admit id node body)) {
  owner = with_owner w.owner id (At r);
}
after_event w r (Flush id max) = within w r (Flush id max)
after_event w r (Return id) = within w r (Return id)
after_event w r (Refuse id) = within w r (Refuse id)
-- an entry is committed, and opens the right range of a split
after_event w r (Commit p) = with_right (within w r (Commit p))
    (right_of (state_at (w.range r) (length (w.range r).log)) p)
after_event w r (Apply node) = within w r (Apply node)
after_event w r (Snapshot node to) = within w r (Snapshot node to)
after_event w r (Remove node) = within w r (Remove node)
after_event w r (Restart node) = within w r (Restart node)

-- the ranges after a step
abbrev pub after_step : Ranges → Step → Ranges
after_step w (In range e) = after_event w range e
after_step w (Turn_away id) = record w { owner = with_owner w.owner id Turned }

-- each step is lawful where it happens
abbrev pub AreLawful : Ranges → List Step → Type 0
AreLawful w [] = Unit {0}
AreLawful w (x ∷ xs) = IsLawful w x × AreLawful (after_step w x) xs

-- the ranges after a list of steps
abbrev pub after_steps : Ranges → List Step → Ranges
after_steps w [] = w
after_steps w (x ∷ xs) = after_steps (after_step w x) xs

-- the ranges as they can be: lawful steps lead to them from the first range
pub record AreReached (w : Ranges) : Type 0 where
  pub steps : List Step
  pub lawful : AreLawful at_first steps
  pub reached : after_steps at_first steps ≡ w

-- the ranges as they can become: lawful steps lead from the one to the other
pub record AreLater (w later : Ranges) : Type 0 where
  pub steps : List Step
  pub lawful : AreLawful w steps
  pub reached : after_steps w steps ≡ later

-- the applied list of each range
abbrev pub lists : Ranges → ℕ → List Place
lists w r = items_to (w.range r) (length (w.range r).log)

-- the attempt, made in this range, has a place there with this reply, which its node has applied,
-- and it is the one place of its command in all ranges
pub record IsTheOnePlace (w : Ranges) (range : ℕ) (id : CmdId) (reply : Reply) : Type 0 where
  pub index : ℕ
  pub command : Command
  pub place : IsPlace (w.range range) id index command
  pub applied : index < (w.range range).index ((w.range range).attempt id).node
  pub answers : command.reply ≡ reply
  pub only : (q k : ℕ) (x : CmdId) (c : Command) → x.client ≡ id.client → x.seq ≡ id.seq
      → IsPlace (w.range q) x k c → (q ≡ range) × (k ≡ index)

-- the attempt has no place in any range, whatever comes
abbrev pub HasNowhere : Ranges → CmdId → Type 0
HasNowhere w id = (later : Ranges) (range k : ℕ) (c : Command) → AreLater w later
    → IsPlace (later.range range) id k c → ⊥
