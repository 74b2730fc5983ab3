-- One after another, in a round of a settling.
use Rattle.std.proofs.Common.{◌≡◌, ℕ, zero, suc, ◌+◌, ◌-◌, ◌<◌, ◌≤◌, ◌^◌, Bool, true, false, Option, None, Some, Result, Ok, Err, List, [], ◌∷◌, length, drop, take, get_or, cond, refl, sym, ap, subst, ◌∙◌, arith}
use Rattle.std.specs.Prelude.{All, OnOk, option_and_then}
use Rattle.std.specs.Option.{option_map_or}
use Rattle.std.proofs.lemmas.Bool.{leb-true}
use Rattle.std.proofs.lemmas.List.{length-map}
use Rattle.rp_bufcore.specs.Buffers.{Buffer}
use Rattle.rp_events.specs.Buffered.{Buffered}
use Rattle.rp_events.specs.Nodes.{Node, Status, Absent, Live, Removed, seat}
use Rattle.rp_events.specs.Replicas.{Replica}
use Rattle.rp_events.specs.Worlds.{World, node_of}
use Rattle.rp_node.specs.Steps.{Held}
use Rattle.rp_raftstep.specs.RaftState.{nodes_to}
use Rattle.rp_base.specs.Gives.{Fails, Gives}
use Rattle.rp_lines.specs.Players.{Limit, Player, Played, and_then}
use Rattle.rp_lines.specs.Settling.{for_each, repeated, numbers_from, passes_numbered, node_numbers, left_to_apply}
use Rattle.rp_script.specs.Bounds.{IsNode}
use Rattle.rp_events.specs.declared.world_events.WorldEvent.{WorldEvent}
use Rattle.rp_events.specs.declared.world_events.WorldEvent.TheVariants as events
use Rattle.rp_lawful.specs.Comings.{Comes, IsPlain}
use Rattle.rp_lawful.specs.Sound.{Sound}
use Rattle.rp_lawful.specs.Onward.{LeadsOn}
use Rattle.rp_lawful.proofs.Coming.{plain_comes}
use Rattle.rp_lawful.proofs.Keeping.{Keeps}
use Rattle.rp_lawful.proofs.Nexts.{room}
use Rattle.rp_lawful.proofs.Lines.{passes_one, puts_all_keeps}
use Rattle.rp_world.specs.declared.faults.PlayFault.{PlayFault}
use Rattle.rp_world.specs.Comes.{IsNoAdmission, buffered_of, live_at, live_in}
use Rattle.rp_world.specs.Going.{AsMany, Going}
use Rattle.rp_world.specs.Plays.{Does}

-- what keeps soundness leaves a player that goes on, with as many nodes
pub going_on : (p q : Player) (result : Played) → (g : Going p) → Keeps g.lines p result → result ≡ Ok q → Going q × AsMany p q
going_on p q result g keeps ok = let l = keeps q ok in (record { lines = g.lines; few = g.few; sound = l.sound }, l.size)

-- the next of a list, and those behind it
pub each_more : {A : Type 0} (act : A → Player → Played) (xs : List A) (i : ℕ) (d : A) (p q : Player) → i < length xs → act (get_or xs i d) p ≡ Ok q
    → for_each act (drop i xs) p ≡ for_each act (drop (suc i) xs) q
each_more act [] i d p q within ok = absurd (omega (arith, within))
each_more act (x ∷ xs) zero d p q within ok = ap (λ m. and_then m (for_each act xs)) ok
each_more act (x ∷ xs) (suc i) d p q within ok = each_more act xs i d p q (omega (arith, within)) ok

pub each_ends : {A : Type 0} (o : Option Limit) (act : A → Player → Played) (xs : List A) (i : ℕ) (d : A) (p : Player) → i < length xs → Fails o (act (get_or xs i d) p)
    → Fails o (for_each act (drop i xs) p)
each_ends None act xs i d p within fails = tt
each_ends (Some l) act [] i d p within fails = absurd (omega (arith, within))
each_ends (Some l) act (x ∷ xs) zero d p within fails = ap (λ m. and_then m (for_each act xs)) fails
each_ends (Some l) act (x ∷ xs) (suc i) d p within fails = each_ends (Some l) act xs i d p (omega (arith, within)) fails

pub each_done : {A : Type 0} (act : A → Player → Played) (xs : List A) (i : ℕ) (p : Player) → length xs ≤ i → for_each act (drop i xs) p ≡ Ok p
each_done act [] zero p past = refl
each_done act [] (suc i) p past = refl
each_done act (x ∷ xs) zero p past = absurd (omega (arith, past))
each_done act (x ∷ xs) (suc i) p past = each_done act xs i p (omega (arith, past))

-- the next number, and those behind it
pub numbers_more : (act : ℕ → Player → Played) (end number : ℕ) (p q : Player) → number < end → act number p ≡ Ok q
    → for_each act (numbers_from number (end - number)) p ≡ for_each act (numbers_from (number + 1) (end - (number + 1))) q
numbers_more act end number p q within ok =
    let n : end - number ≡ suc (end - (number + 1)) = omega (arith, within) in
    ap (λ k. for_each act (numbers_from number k) p) n ∙ ap (λ m. and_then m (for_each act (numbers_from (number + 1) (end - (number + 1))))) ok

pub numbers_end : (o : Option Limit) (act : ℕ → Player → Played) (end number : ℕ) (p : Player) → number < end → Fails o (act number p) → Fails o (for_each act (numbers_from number (end - number)) p)
numbers_end None act end number p within fails = tt
numbers_end (Some l) act end number p within fails =
    let n : end - number ≡ suc (end - (number + 1)) = omega (arith, within) in
    ap (λ k. for_each act (numbers_from number k) p) n ∙ ap (λ m. and_then m (for_each act (numbers_from (number + 1) (end - (number + 1))))) fails

pub numbers_done : (act : ℕ → Player → Played) (end number : ℕ) (p : Player) → end ≤ number → for_each act (numbers_from number (end - number)) p ≡ Ok p
numbers_done act end number p past =
    let n : end - number ≡ 0 = omega (arith, past) in
    ap (λ k. for_each act (numbers_from number k) p) n

-- each part of a round leaves a player that goes on
pub passed_on : (p q : Player) (sender number : ℕ) → Going p → passes_numbered sender number p ≡ Ok q → Going q × AsMany p q
passed_on p q sender number g ok = going_on p q (passes_numbered sender number p) g (passes_one g.lines p g.sound sender number) ok

-- a plain event comes at a player that goes on, and admits nothing
pub plain_on : (p : Player) → Going p → (e : WorldEvent) → IsPlain (length p.world.nodes) e → Comes p.world e
plain_on p g e is = plain_comes (length p.world.nodes) p.world g.sound.reached (room g.lines p g.sound) g.sound.buffers e is

pub quiet_event : (nodes : ℕ) (e : WorldEvent) → IsPlain nodes e → IsNoAdmission e
quiet_event nodes (events.Admit node range id request) is = is
quiet_event nodes (events.Ask node range) is = tt
quiet_event nodes (events.Transfer node range to) is = tt
quiet_event nodes (events.Collect node range) is = tt
quiet_event nodes (events.Flush node range) is = tt
quiet_event nodes (events.Tick node) is = tt
quiet_event nodes (events.Deliver node from number) is = tt
quiet_event nodes (events.Apply node range) is = tt
quiet_event nodes (events.Cut node range) is = tt
quiet_event nodes (events.Remove node range) is = tt
quiet_event nodes (events.Peek node range key) is = tt
quiet_event nodes (events.Restart node) is = tt
quiet_event nodes (events.Round node) is = tt
quiet_event nodes (events.Draw node range) is = tt
quiet_event nodes (events.Publish node range place item) is = tt

-- what does so goes on
pub passed_goes : (result : Result (Unit {0}) PlayFault) (p q : Player) (sender number : ℕ) → Going p → Does result q (passes_numbered sender number p) → OnOk result (Going q)
passed_goes (Ok x) p q sender number g does = (passed_on p q sender number g does).0
passed_goes (Err fault) p q sender number g does = tt

pub passed_many : (result : Result (Unit {0}) PlayFault) (p q : Player) (sender number : ℕ) → Going p → Does result q (passes_numbered sender number p) → OnOk result (AsMany p q)
passed_many (Ok x) p q sender number g does = (passed_on p q sender number g does).1
passed_many (Err fault) p q sender number g does = tt

-- an item of a list of nodes
pub each_node : (old new : Player) (nodes : List ℕ) (i x : ℕ) → All (IsNode (length old.world.nodes)) nodes → i < length nodes → x ≡ get_or nodes i x → AsMany old new → IsNode (length new.world.nodes) x
each_node old new nodes i x all within is many =
    subst (λ k. IsNode k x) (sym many) (subst (IsNode (length old.world.nodes)) (sym is) (all i x within))

-- so many times
pub times_more : (act : Player → Played) (count i : ℕ) (p q : Player) → i < count → act p ≡ Ok q → repeated (count - i) act p ≡ repeated (count - (i + 1)) act q
times_more act count i p q within ok =
    let n : count - i ≡ suc (count - (i + 1)) = omega (arith, within) in
    ap (λ k. repeated k act p) n ∙ ap (λ m. and_then m (repeated (count - (i + 1)) act)) ok

pub times_end : (o : Option Limit) (act : Player → Played) (count i : ℕ) (p : Player) → i < count → Fails o (act p) → Fails o (repeated (count - i) act p)
times_end None act count i p within fails = tt
times_end (Some l) act count i p within fails =
    let n : count - i ≡ suc (count - (i + 1)) = omega (arith, within) in
    ap (λ k. repeated k act p) n ∙ ap (λ m. and_then m (repeated (count - (i + 1)) act)) fails

pub times_done : (act : Player → Played) (count i : ℕ) (p : Player) → count ≤ i → repeated (count - i) act p ≡ Ok p
times_done act count i p past =
    let n : count - i ≡ 0 = omega (arith, past) in
    ap (λ k. repeated k act p) n

-- the first of the numbers are those of so many nodes
pub numbers_there : (n : ℕ) → n ≤ 5 → take n (1 ∷ 2 ∷ 3 ∷ 4 ∷ 5 ∷ []) ≡ nodes_to n
numbers_there zero h = refl
numbers_there (suc zero) h = refl
numbers_there (suc (suc zero)) h = refl
numbers_there (suc (suc (suc zero))) h = refl
numbers_there (suc (suc (suc (suc zero)))) h = refl
numbers_there (suc (suc (suc (suc (suc zero))))) h = refl
numbers_there (suc (suc (suc (suc (suc (suc n)))))) h = absurd (omega (arith, h))

pub few_nodes : (p : Player) → Going p → length p.world.nodes ≤ 5
few_nodes p g = leb-true (length p.world.nodes) 5 g.sound.reached.few

pub numbers_are : (p : Player) → Going p → (nodes : List (Held (List Buffer))) → buffered_of nodes ≡ p.world → (n : ℕ) → n ≡ length nodes → (all : List ℕ) → all ≡ 1 ∷ 2 ∷ 3 ∷ 4 ∷ 5 ∷ [] → take n all ≡ node_numbers p
numbers_are p g nodes seen n is all all_is =
    let size : n ≡ length p.world.nodes = is ∙ sym (length-map nodes (λ h. h.node)) ∙ ap (λ (b : Buffered). length b.nodes) seen in
    let few = few_nodes p g in
    ap (take n) all_is ∙ numbers_there n (omega (arith, few, size)) ∙ ap nodes_to size

-- what a seat has left to apply, by its live replica
pub left_some : (w : World) (node range : ℕ) (r : Replica) → live_at w node range ≡ Some r → option_map_or (λ (n : Node). left_to_apply (seat n range)) (node_of w node) 0 ≡ r.raft.head.commit - r.applied.index
left_some w node range r e = go (node_of w node) e where
  some_is : (a b : Replica) → ◌≡◌ {A = Option Replica} (Some a) (Some b) → a ≡ b
  some_is a b f = cc

  by_seat : (status : Status) → live_in status ≡ Some r → left_to_apply status ≡ r.raft.head.commit - r.applied.index
  by_seat Absent f = absurd cc
  by_seat (Live q) f = ap (λ (z : Replica). z.raft.head.commit - z.applied.index) (some_is q r f)
  by_seat (Removed applied) f = absurd cc

  go : (o : Option Node) → option_and_then (λ (n : Node). live_in (seat n range)) o ≡ Some r → option_map_or (λ (n : Node). left_to_apply (seat n range)) o 0 ≡ r.raft.head.commit - r.applied.index
  go None f = absurd cc
  go (Some n) f = by_seat (seat n range) f

pub left_none : (w : World) (node range : ℕ) → live_at w node range ≡ None → option_map_or (λ (n : Node). left_to_apply (seat n range)) (node_of w node) 0 ≡ 0
left_none w node range e = go (node_of w node) e where
  by_seat : (status : Status) → live_in status ≡ None → left_to_apply status ≡ 0
  by_seat Absent f = refl
  by_seat (Live q) f = absurd cc
  by_seat (Removed applied) f = refl

  go : (o : Option Node) → option_and_then (λ (n : Node). live_in (seat n range)) o ≡ None → option_map_or (λ (n : Node). left_to_apply (seat n range)) o 0 ≡ 0
  go None f = refl
  go (Some n) f = by_seat (seat n range) f
