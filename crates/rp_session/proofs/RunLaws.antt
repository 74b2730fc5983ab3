-- What holds of a session add along any list of outcomes.
use Rattle.std.proofs.Common.{◌≡◌, ℕ, Bool, true, false, ◌⊎◌, inl, inr, List, [], ◌∷◌, Option, Some, None, refl, sym, ap, ◌∙◌, subst}
use Rattle.std.specs.Prelude.{if◌then◌else◌, ◌&&◌, ◌||◌, ◌==◌, option_and_then, IfSome}
use Rattle.std.specs.List.{list_any}
use Rattle.std.specs.Option.{option_map_or}
use Rattle.rp_request.specs.declared.outcomes.Outcome.{Outcome}
use Rattle.rp_request.specs.declared.outcomes.Outcome.TheVariants.{Success, Refused, Ambiguous, Pending}
use Rattle.rp_request.specs.declared.outcomes.Refusal.{Refusal}
use Rattle.rp_request.specs.declared.outcomes.Refusal.TheVariants.{NoReplica, NotLeaseHolder, RangeMismatch, Latched, ConditionFailed, IsText, Overflow, Short}
use Rattle.rp_base.specs.declared.values.Value.TheVariants.{Number}
use Rattle.rp_request.specs.declared.outcomes.Reply.{Reply}
use Rattle.rp_request.specs.declared.outcomes.Reply.TheVariants.{Set}
use Rattle.rp_session.specs.Machine.{Adding, Answer, answer_of, met, refused, refuses, declines, succeeds, repeats, stays, sends, ends, command, command_at, move, confirm}
use Rattle.rp_session.specs.Runs.{after_all, ended, is_move, is_ambiguous, is_doubtful, IsOfAdd, is_end, CanSend, FailsUndoubted, DoneBy}
use Rattle.rp_request.specs.declared.requests.Request.{Request}
use Rattle.rp_session.specs.declared.turns.Stage.{Stage}
use Rattle.rp_session.specs.declared.turns.Stage.TheVariants.{Minting, Moving, Confirming}
use Rattle.rp_session.specs.declared.turns.Turn.{Turn}
use Rattle.rp_session.specs.declared.turns.Turn.TheVariants.{Wait, Again, Send, Done, Failed}

-- what one answer leaves: the token, the key and the rise stay; a move's ambiguous end is remembered;
-- the add ends with the last turn
pub record Leaves (s : Adding) (outcome : Outcome) (a : Answer) : Type 0 where
  pub token : a.state.token ≡ s.token
  pub key : a.state.key ≡ s.key
  pub by : a.state.by ≡ s.by
  pub doubt : a.state.is_doubted ≡ (s.is_doubted || (is_ambiguous outcome && is_move (command s)))
  pub over : a.state.has_ended ≡ is_end a.turn
  pub was_open : s.has_ended ≡ false

or_false : (b : Bool) → b ≡ (b || false)
or_false true = refl
or_false false = refl

or_true : (b : Bool) → true ≡ (b || true)
or_true true = refl
or_true false = refl

or_assoc : (a b c : Bool) → ((a || b) || c) ≡ (a || (b || c))
or_assoc true b c = refl
or_assoc false b c = refl

stays_leaves : (s : Adding) (turn : Turn) (o : Outcome) → s.has_ended ≡ false → is_end turn ≡ false
    → (is_ambiguous o && is_move (command s)) ≡ false → Leaves s o (stays s turn)
stays_leaves s turn o is_open goes plain = record {
  token = refl;
  key = refl;
  by = refl;
  doubt = rw plain (or_false s.is_doubted);
  over = is_open ∙ sym goes;
  was_open = is_open;
}

sends_leaves : (s : Adding) (stage : Stage) (o : Outcome) → s.has_ended ≡ false
    → (is_ambiguous o && is_move (command s)) ≡ false → Leaves s o (sends s stage)
sends_leaves s stage o is_open plain = record {
  token = refl;
  key = refl;
  by = refl;
  doubt = rw plain (or_false s.is_doubted);
  over = is_open;
  was_open = is_open;
}

ends_leaves : (s : Adding) (turn : Turn) (o : Outcome) → s.has_ended ≡ false → is_end turn ≡ true
    → (is_ambiguous o && is_move (command s)) ≡ false → Leaves s o (ends s turn)
ends_leaves s turn o is_open over plain = record {
  token = refl;
  key = refl;
  by = refl;
  doubt = rw plain (or_false s.is_doubted);
  over = sym over;
  was_open = is_open;
}

succeeds_leaves : (s : Adding) (stage : Stage) (o : Outcome) → s.has_ended ≡ false
    → (is_ambiguous o && is_move (command s)) ≡ false → Leaves s o (succeeds s stage)
succeeds_leaves s Minting o is_open plain = sends_leaves s Moving o is_open plain
succeeds_leaves s Moving o is_open plain = ends_leaves s Done o is_open refl plain
succeeds_leaves s Confirming o is_open plain = ends_leaves s Done o is_open refl plain

repeats_leaves : (s : Adding) (stage : Stage) (o : Outcome) → s.has_ended ≡ false → s.stage ≡ stage → is_ambiguous o ≡ true
    → Leaves s o (repeats s stage)
repeats_leaves s Minting o is_open at doubt = stays_leaves s Send o is_open refl (rw (doubt, at) refl)
repeats_leaves s Moving o is_open at doubt = record {
  token = refl;
  key = refl;
  by = refl;
  doubt = rw (doubt, at) (or_true s.is_doubted);
  over = is_open;
  was_open = is_open;
}
repeats_leaves s Confirming o is_open at doubt = stays_leaves s Send o is_open refl (rw (doubt, at) refl)

by_doubt_leaves : (s : Adding) (why : Refusal) (o : Outcome) (b : Bool) → s.has_ended ≡ false
    → (is_ambiguous o && is_move (command s)) ≡ false → Leaves s o (if b then sends s Confirming else ends s (Failed why))
by_doubt_leaves s why o true is_open plain = sends_leaves s Confirming o is_open plain
by_doubt_leaves s why o false is_open plain = ends_leaves s (Failed why) o is_open refl plain

declines_leaves : (s : Adding) (why : Refusal) → s.has_ended ≡ false → Leaves s (Refused why) (declines s why)
declines_leaves s why is_open = by_doubt_leaves s why (Refused why) s.is_doubted is_open refl

if_told : (P : Answer → Type 0) (b : Bool) (a : Answer) → P a → IfSome (if b then Some a else None) P
if_told P true a h = h
if_told P false a h = tt

refuses_leaves : (s : Adding) (stage : Stage) (why : Refusal) → s.has_ended ≡ false
    → IfSome (refuses s stage why) (Leaves s (Refused why))
refuses_leaves s Minting (ConditionFailed actual) is_open = sends_leaves s Moving _ is_open refl
refuses_leaves s Moving (Short actual) is_open = sends_leaves s Confirming _ is_open refl
refuses_leaves s Moving (Overflow actual) is_open = declines_leaves s (Overflow actual) is_open
refuses_leaves s Moving (IsText key) is_open =
    if_told (Leaves s (Refused (IsText key))) (key == s.key) (declines s (IsText key)) (declines_leaves s (IsText key) is_open)
refuses_leaves s Confirming (ConditionFailed None) is_open = sends_leaves s Minting _ is_open refl
refuses_leaves s Confirming (ConditionFailed (Some value)) is_open = sends_leaves s Moving _ is_open refl
refuses_leaves s stage why is_open = tt

refused_leaves : (s : Adding) (why : Refusal) → s.has_ended ≡ false → IfSome (refused s why) (Leaves s (Refused why))
refused_leaves s NoReplica is_open = stays_leaves s Again _ is_open refl refl
refused_leaves s (NotLeaseHolder lease) is_open = stays_leaves s Again _ is_open refl refl
refused_leaves s (RangeMismatch desc) is_open = stays_leaves s Again _ is_open refl refl
refused_leaves s (Latched by held) is_open = stays_leaves s Again _ is_open refl refl
refused_leaves s why is_open = refuses_leaves s s.stage why is_open

met_leaves : (s : Adding) (o : Outcome) → s.has_ended ≡ false → IfSome (met s o) (Leaves s o)
met_leaves s Pending is_open = stays_leaves s Wait _ is_open refl refl
met_leaves s (Success reply) is_open = succeeds_leaves s s.stage _ is_open refl
met_leaves s (Ambiguous why) is_open = repeats_leaves s s.stage _ is_open refl refl
met_leaves s (Refused why) is_open = refused_leaves s why is_open

-- while the add is open the table's answer is that of the outcome, and none afterwards
answered : (s : Adding) (o : Outcome) (a : Answer) (b : Bool) → s.has_ended ≡ b → (if b then None else met s o) ≡ Some a
    → (s.has_ended ≡ false) × (met s o ≡ Some a)
answered s o a true e h = cc
answered s o a false e h = (e, h)

-- what holds of the table's answers holds of the one that is given
told : (P : Answer → Type 0) (r : Option Answer) (a : Answer) → IfSome r P → r ≡ Some a → P a
told P (Some b) a h e = subst P (cc) h
told P None a h e = cc

pub leaves : (s : Adding) (o : Outcome) (a : Answer) → answer_of s o ≡ Some a → Leaves s o a
leaves s o a h =
    let (is_open, is) = answered s o a s.has_ended refl h in
    told (Leaves s o) (met s o) a (met_leaves s o is_open) is

-- along all outcomes the token, the key and the rise stay
pub record Keeps (s t : Adding) : Type 0 where
  pub token : t.token ≡ s.token
  pub key : t.key ≡ s.key
  pub by : t.by ≡ s.by

keeps_on : (s : Adding) (o : Outcome) (os : List Outcome) (t : Adding) (r : Option Answer) → answer_of s o ≡ r
    → option_and_then (λ a. after_all a.state os) r ≡ Some t
    → ((a : Answer) → after_all a.state os ≡ Some t → Keeps a.state t) → Keeps s t
keeps_on s o os t None e h rest = cc
keeps_on s o os t (Some a) e h rest =
    let one = leaves s o a e in
    let on = rest a h in
    record { token = on.token ∙ one.token; key = on.key ∙ one.key; by = on.by ∙ one.by }

pub keeps : (s : Adding) (os : List Outcome) (t : Adding) → after_all s os ≡ Some t → Keeps s t
keeps s [] t h = let e : s ≡ t = cc in subst (λ u. Keeps s u) e (record { token = refl; key = refl; by = refl })
keeps s (o ∷ os) t h = keeps_on s o os t (answer_of s o) refl h (λ a. keeps a.state os t)

-- a command of the add, whatever was met
command_at_kept : (s t : Adding) (stage : Stage) → Keeps s t → IsOfAdd s (command_at t stage)
command_at_kept s t Minting k = inl (rw (k.token, k.by) refl)
command_at_kept s t Moving k = inr (inl (rw (k.token, k.key, k.by) refl))
command_at_kept s t Confirming k = inr (inr (rw k.token refl))

pub only_its_own : (s : Adding) (os : List Outcome) (t : Adding) → after_all s os ≡ Some t → IsOfAdd s (command t)
only_its_own s os t h = command_at_kept s t t.stage (keeps s os t h)

-- an ambiguous end of a move is remembered
doubts_on : (s : Adding) (o : Outcome) (os : List Outcome) (t : Adding) (r : Option Answer) → answer_of s o ≡ r
    → option_and_then (λ a. after_all a.state os) r ≡ Some t
    → ((a : Answer) → after_all a.state os ≡ Some t → t.is_doubted ≡ (a.state.is_doubted || list_any is_doubtful (ended a.state os)))
    → t.is_doubted ≡ (s.is_doubted || list_any is_doubtful (record { request = command s; outcome = o } ∷ option_map_or (λ a. ended a.state os) r []))
doubts_on s o os t None e h rest = cc
doubts_on s o os t (Some a) e h rest =
    let one = leaves s o a e in
    rest a h
    ∙ ap (λ b. b || list_any is_doubtful (ended a.state os)) one.doubt
    ∙ or_assoc s.is_doubted (is_ambiguous o && is_move (command s)) (list_any is_doubtful (ended a.state os))

pub doubts : (s : Adding) (os : List Outcome) (t : Adding) → after_all s os ≡ Some t
    → t.is_doubted ≡ (s.is_doubted || list_any is_doubtful (ended s os))
doubts s [] t h = let e : s ≡ t = cc in subst (λ u. u.is_doubted ≡ (s.is_doubted || false)) e (or_false s.is_doubted)
doubts s (o ∷ os) t h = doubts_on s o os t (answer_of s o) refl h (λ a. doubts a.state os t)

-- what the last turn says of the add and the outcome before it
pub data Fails (s : Adding) (o : Outcome) (why : Refusal) : Type 0 where
  fails : s.is_doubted ≡ false → s.stage ≡ Moving → o ≡ Refused why → Fails s o why

abbrev ends_so : Adding → Outcome → Turn → Type 0
ends_so s o Wait = Unit {0}
ends_so s o Again = Unit {0}
ends_so s o Send = Unit {0}
ends_so s o Done = ((s.stage ≡ Moving) ⊎ (s.stage ≡ Confirming)) × ((reply : Reply) × (o ≡ Success reply))
ends_so s o (Failed why) = Fails s o why

by_doubt_ends : (s : Adding) (why : Refusal) (b : Bool) → s.is_doubted ≡ b → s.stage ≡ Moving
    → ends_so s (Refused why) (if b then sends s Confirming else ends s (Failed why)).turn
by_doubt_ends s why true e at = tt
by_doubt_ends s why false e at = fails e at refl

refuses_ends : (s : Adding) (stage : Stage) (why : Refusal) → s.stage ≡ stage
    → IfSome (refuses s stage why) (λ a. ends_so s (Refused why) a.turn)
refuses_ends s Minting (ConditionFailed actual) at = tt
refuses_ends s Moving (Short actual) at = tt
refuses_ends s Moving (Overflow actual) at = by_doubt_ends s (Overflow actual) s.is_doubted refl at
refuses_ends s Moving (IsText key) at =
    if_told (λ a. ends_so s (Refused (IsText key)) a.turn) (key == s.key) (declines s (IsText key))
    (by_doubt_ends s (IsText key) s.is_doubted refl at)
refuses_ends s Confirming (ConditionFailed None) at = tt
refuses_ends s Confirming (ConditionFailed (Some value)) at = tt
refuses_ends s stage why at = tt

refused_ends : (s : Adding) (why : Refusal) → IfSome (refused s why) (λ a. ends_so s (Refused why) a.turn)
refused_ends s NoReplica = tt
refused_ends s (NotLeaseHolder lease) = tt
refused_ends s (RangeMismatch desc) = tt
refused_ends s (Latched by held) = tt
refused_ends s why = refuses_ends s s.stage why refl

succeeds_ends : (s : Adding) (stage : Stage) (reply : Reply) → s.stage ≡ stage → ends_so s (Success reply) (succeeds s stage).turn
succeeds_ends s Minting reply at = tt
succeeds_ends s Moving reply at = (inl at, (reply, refl))
succeeds_ends s Confirming reply at = (inr at, (reply, refl))

repeats_ends : (s : Adding) (stage : Stage) (o : Outcome) → ends_so s o (repeats s stage).turn
repeats_ends s Minting o = tt
repeats_ends s Moving o = tt
repeats_ends s Confirming o = tt

met_ends : (s : Adding) (o : Outcome) → IfSome (met s o) (λ a. ends_so s o a.turn)
met_ends s Pending = tt
met_ends s (Success reply) = succeeds_ends s s.stage reply refl
met_ends s (Ambiguous why) = repeats_ends s s.stage (Ambiguous why)
met_ends s (Refused why) = refused_ends s why

last_turn : (s : Adding) (o : Outcome) (a : Answer) → answer_of s o ≡ Some a → ends_so s o a.turn
last_turn s o a h = told (λ b. ends_so s o b.turn) (met s o) a (met_ends s o) (answered s o a s.has_ended refl h).1

command_done : (s : Adding) → (s.stage ≡ Moving) ⊎ (s.stage ≡ Confirming) → (command s ≡ move s) ⊎ (command s ≡ confirm s)
command_done s (inl at) = inl (ap (command_at s) at)
command_done s (inr at) = inr (ap (command_at s) at)

pub done_by : (s : Adding) (o : Outcome) (a : Answer) → answer_of s o ≡ Some a → a.turn ≡ Done → DoneBy s o
done_by s o a h e =
    let (at, (reply, is)) = subst (λ turn. ends_so s o turn) e (last_turn s o a h) in
    record { reply = reply; took_effect = is; of_move_or_confirm = command_done s at }

pub failed_by : (s : Adding) (o : Outcome) (a : Answer) (why : Refusal) → answer_of s o ≡ Some a → a.turn ≡ Failed why → Fails s o why
failed_by s o a why h e = subst (λ turn. ends_so s o turn) e (last_turn s o a h)

right_false : (a b : Bool) → (a || b) ≡ false → b ≡ false
right_false true b h = cc
right_false false b h = h

undoubted : (s : Adding) (os : List Outcome) (t : Adding) (o : Outcome) (why : Refusal) → after_all s os ≡ Some t → Fails t o why
    → FailsUndoubted s os t o why
undoubted s os t o why h (fails clear at is) = record {
  none_doubtful = right_false s.is_doubted (list_any is_doubtful (ended s os)) (sym (doubts s os t h) ∙ clear);
  by_its_move = ap (command_at t) at;
  is_refused = is;
}

pub fails_undoubted : (s : Adding) (os : List Outcome) (t : Adding) (o : Outcome) (a : Answer) (why : Refusal) → after_all s os ≡ Some t
    → answer_of t o ≡ Some a → a.turn ≡ Failed why → FailsUndoubted s os t o why
fails_undoubted s os t o a why h is turn = undoubted s os t o why h (failed_by t o a why is turn)

-- an add that has ended sends nothing more
pub ended_for_good : (s : Adding) (o : Outcome) → s.has_ended ≡ true → answer_of s o ≡ None
ended_for_good s o e = rw e refl

pub turn_ends : (s : Adding) (o : Outcome) (a : Answer) → answer_of s o ≡ Some a → a.state.has_ended ≡ is_end a.turn
turn_ends s o a h = (leaves s o a h).over

-- an open add, by its fields
abbrev open_add : (token key by : ℕ) → Stage → Bool → Adding
open_add token key by stage d = record { token = token; key = key; by = by; stage = stage; is_doubted = d; has_ended = false }

sends_by : (s : Adding) (request : Request) (os : List Outcome) (t : Adding) → after_all s os ≡ Some t → t.has_ended ≡ false → command t ≡ request
    → CanSend s request
sends_by s request os t h is_open is = record { outcomes = os; state = t; reached = h; open_yet = is_open; sent = is }

open_sends : (token key by : ℕ) (stage : Stage) (d : Bool) (request : Request) → IsOfAdd (open_add token key by stage d) request
    → CanSend (open_add token key by stage d) request
open_sends token key by Minting d request (inl e) = sends_by _ request [] (open_add token key by Minting d) refl refl (sym e)
open_sends token key by Minting d request (inr (inl e)) =
    sends_by _ request (Success Set ∷ []) (open_add token key by Moving d) refl refl (sym e)
open_sends token key by Minting d request (inr (inr e)) =
    sends_by _ request (Success Set ∷ Refused (Short 0) ∷ []) (open_add token key by Confirming d) refl refl (sym e)
open_sends token key by Moving d request (inl e) =
    sends_by _ request (Refused (Short 0) ∷ Refused (ConditionFailed None) ∷ []) (open_add token key by Minting d) refl refl (sym e)
open_sends token key by Moving d request (inr (inl e)) = sends_by _ request [] (open_add token key by Moving d) refl refl (sym e)
open_sends token key by Moving d request (inr (inr e)) =
    sends_by _ request (Refused (Short 0) ∷ []) (open_add token key by Confirming d) refl refl (sym e)
open_sends token key by Confirming d request (inl e) =
    sends_by _ request (Refused (ConditionFailed None) ∷ []) (open_add token key by Minting d) refl refl (sym e)
open_sends token key by Confirming d request (inr (inl e)) =
    sends_by _ request (Refused (ConditionFailed (Some (Number 0))) ∷ []) (open_add token key by Moving d) refl refl (sym e)
open_sends token key by Confirming d request (inr (inr e)) = sends_by _ request [] (open_add token key by Confirming d) refl refl (sym e)

is_open_add : (s : Adding) → s.has_ended ≡ false → open_add s.token s.key s.by s.stage s.is_doubted ≡ s
is_open_add s e = ap (λ b. record s { has_ended = b }) (sym e)

pub can_send : (s : Adding) (request : Request) → s.has_ended ≡ false → IsOfAdd s request → CanSend s request
can_send s request is_open h =
    let P : Adding → Type 0 = λ t. IsOfAdd t request → CanSend t request in
    subst P (is_open_add s is_open) (open_sends s.token s.key s.by s.stage s.is_doubted request) h
