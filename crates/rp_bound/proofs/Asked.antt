-- What the nodes tell of an attempt, beside whether one was asked and beside the machine.
use Rattle.std.proofs.Common.{◌≡◌, ℕ, zero, suc, Bool, true, false, cond, Option, None, Some, List, [], ◌∷◌, refl, ap, ◌∙◌}
use Rattle.std.specs.Prelude.{◌||◌, slice_get, option_and_then}
use Rattle.std.specs.Option.{option_map}
use Rattle.std.specs.List.{list_any, find}
use Rattle.rp_base.specs.declared.ids.CmdId.{CmdId}
use Rattle.rp_request.specs.declared.outcomes.Outcome.{Outcome}
use Rattle.rp_request.specs.declared.outcomes.Outcome.TheVariants as outcomes
use Rattle.rp_request.specs.declared.outcomes.Ambiguity.{Ambiguity}
use Rattle.rp_request.specs.declared.outcomes.Refusal.{Refusal}
use Rattle.rp_pending.specs.declared.proposals.Proposal.{Proposal}
use Rattle.rp_pending.specs.Proposals.{proposal_of}
use Rattle.rp_rangesafe.specs.Attempts.{Stage, Unborn, Waiting, Proposed, Success, Refused, Overtaken, Removed, Restarted, IsBornAt}
use Rattle.rp_rangesafe.specs.World as machine
use Rattle.rp_events.specs.declared.journals.JournalEntry.{JournalEntry}
use Rattle.rp_events.specs.Nodes.{Node, Status}
use Rattle.rp_events.specs.Worlds.{World, node_of, is_admission_of, asked_at, was_asked, outcome_by, outcome_at, outcome_of}
use Rattle.rp_seats.specs.Standing.{pending_in, IsToldAs, TellsOf, SeatOk}

found_any : {X : Type 0} (test : X → Bool) (xs : List X) (x : X) → find test xs ≡ Some x → list_any test xs ≡ true
found_any test [] x e = absurd cc
found_any {X} test (y ∷ xs) x e = go (found_any test xs x) (test y) e where
  go : (find test xs ≡ Some x → list_any test xs ≡ true) → (b : Bool) → cond b (Some y) (find test xs) ≡ Some x → (b || list_any test xs) ≡ true
  go more true e' = refl
  go more false e' = more e'

any_at : {X : Type 0} (test : X → Bool) (xs : List X) (place : ℕ) (x : X) → slice_get xs place ≡ Some x → test x ≡ true → list_any test xs ≡ true
any_at test [] place x e h = absurd cc
any_at {X} test (y ∷ xs) zero x e h = ap (λ b. b || list_any test xs) (ap test (some_is y x e) ∙ h) where
  some_is : (a b : X) → ◌≡◌ {A = Option X} (Some a) (Some b) → a ≡ b
  some_is a b e' = cc
any_at {X} test (y ∷ xs) (suc place) x e h = go (test y) (any_at test xs place x e h) where
  go : (b : Bool) → list_any test xs ≡ true → (b || list_any test xs) ≡ true
  go true r = refl
  go false r = r

pub record FoundAt {X : Type 0} (xs : List X) (x : X) : Type 0 where
  pub place : ℕ
  pub here : slice_get xs place ≡ Some x

found_at : {X : Type 0} (test : X → Bool) (xs : List X) (x : X) → find test xs ≡ Some x → FoundAt xs x
found_at test [] x e = absurd cc
found_at {X} test (y ∷ xs) x e = go (found_at test xs x) (test y) e where
  go : (find test xs ≡ Some x → FoundAt xs x) → (b : Bool) → cond b (Some y) (find test xs) ≡ Some x → FoundAt (y ∷ xs) x
  go more true e' = record { place = 0; here = e' }
  go more false e' = let r = more e' in record { place = suc r.place; here = r.here }

-- a node that tells something of an attempt was asked
told_asked : (id : CmdId) (n : Node) (o : Outcome) → outcome_at id n ≡ Some o → asked_at id n ≡ true
told_asked id n o told = go (find (is_admission_of id) n.journal) refl told where
  go : (f : Option JournalEntry) → find (is_admission_of id) n.journal ≡ f → option_map (λ (e : JournalEntry). outcome_by n id e.answer) f ≡ Some o → asked_at id n ≡ true
  go None is told' = absurd cc
  go (Some e) is told' = found_any (is_admission_of id) n.journal e is

pub told_was_asked : (w : World) (node : ℕ) (n : Node) → node_of w node ≡ Some n → (id : CmdId) (o : Outcome) → outcome_at id n ≡ Some o → was_asked w id ≡ true
told_was_asked w zero n has id o told = absurd cc
told_was_asked w (suc place) n has id o told = any_at (asked_at id) w place n has (told_asked id n o told)

-- the outcome of an attempt is told by a node
pub record ToldAt (w : World) (id : CmdId) (o : Outcome) : Type 0 where
  pub node : ℕ
  pub n : Node
  pub has : node_of w node ≡ Some n
  pub told : outcome_at id n ≡ Some o

pub told_at : (w : World) (id : CmdId) (o : Outcome) → outcome_of w id ≡ Some o → ToldAt w id o
told_at w id o told = go (find (asked_at id) w) refl told where
  go : (f : Option Node) → find (asked_at id) w ≡ f → option_and_then (outcome_at id) f ≡ Some o → ToldAt w id o
  go None is told' = absurd cc
  go (Some n) is told' = let f = found_at (asked_at id) w n is in record { node = suc f.place; n = n; has = f.here; told = told' }

-- an attempt that was made at a node is told there
module _ (h : machine.World) (node range : ℕ) (status : Status) (told : CmdId → Option Outcome) (seat : SeatOk h node range status told)
    (id : CmdId) (born : IsBornAt (h.attempt id) node) where
  some_told : (s : Stage) (t : Option Outcome) → IsToldAs s t → (o : Outcome) × (t ≡ Some o)
  some_told Unborn t h' = absurd h'
  some_told Waiting t h' = absurd h'
  some_told (Proposed own) t h' = absurd h'
  some_told (Success reply) t h' = (outcomes.Success reply, h')
  some_told Refused t h' = (outcomes.Refused h'.0, h'.1)
  some_told (Overtaken own passed) t h' = (_, h')
  some_told (Removed own) t h' = (_, h')
  some_told (Restarted own) t h' = (_, h')

  pub made_told : (o : Outcome) × (told id ≡ Some o)
  made_told = go (proposal_of id (pending_in status)) (seat.pending.tells id) where
    go : (p : Option Proposal) → TellsOf node (h.attempt id) p (told id) → (o : Outcome) × (told id ≡ Some o)
    go None tells = some_told (h.attempt id).stage (told id) (tells born)
    go (Some p) tells = (outcomes.Pending, tells.pending)

  -- and where it is told that it was refused, it was
  same_told : (a b : Outcome) (t : Option Outcome) → t ≡ Some a → t ≡ Some b → a ≡ b
  same_told a b t e f = cc

  ambiguous : (a : Ambiguity) (why : Refusal) → outcomes.Ambiguous a ≡ outcomes.Refused why → ⊥
  ambiguous a why e = cc

  pub refused_stage : (why : Refusal) → told id ≡ Some (outcomes.Refused why) → (h.attempt id).stage ≡ Refused
  refused_stage why is = go (proposal_of id (pending_in status)) (seat.pending.tells id) where
    ended : (s : Stage) → IsToldAs s (told id) → s ≡ Refused
    ended Unborn k = absurd k
    ended Waiting k = absurd k
    ended (Proposed own) k = absurd k
    ended (Success reply) k = absurd (apart (same_told _ _ (told id) k is)) where
      apart : outcomes.Success reply ≡ outcomes.Refused why → ⊥
      apart e = cc
    ended Refused k = refl
    ended (Overtaken own passed) k = absurd (ambiguous _ why (same_told _ _ (told id) k is))
    ended (Removed own) k = absurd (ambiguous _ why (same_told _ _ (told id) k is))
    ended (Restarted own) k = absurd (ambiguous _ why (same_told _ _ (told id) k is))

    go : (p : Option Proposal) → TellsOf node (h.attempt id) p (told id) → (h.attempt id).stage ≡ Refused
    go None tells = ended (h.attempt id).stage (tells born)
    go (Some p) tells = absurd (pending (same_told _ _ (told id) tells.pending is)) where
      pending : outcomes.Pending ≡ outcomes.Refused why → ⊥
      pending e = cc
