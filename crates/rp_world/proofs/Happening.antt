-- An event that comes, as a scene of the nodes.
use Rattle.std.proofs.Common.{◌≡◌, ℕ, zero, suc, ◌+◌, ◌-◌, ◌<◌, ◌≤◌, ◌^◌, min, Bool, true, false, IsTrue, Option, None, Some, List, [], ◌∷◌, ◌++◌, drop, length, map, sum_by, refl, sym, ap, subst, ◌∙◌, arith}
use Rattle.std.specs.Option.{option_map_or}
use Rattle.std.proofs.lemmas.List.{length-append}
use Rattle.rp_base.specs.declared.ids.CmdId.{CmdId}
use Rattle.rp_bufcore.specs.Buffers.{Buffer}
use Rattle.rp_request.specs.declared.outcomes.Outcome.{Outcome}
use Rattle.rp_request.specs.Applied.{AppliedState}
use Rattle.rp_events.specs.declared.answers.Ended.{Ended}
use Rattle.rp_events.specs.declared.answers.EventAnswer.{EventAnswer}
use Rattle.rp_events.specs.declared.parcels.Parcel.{Parcel}
use Rattle.rp_events.specs.declared.world_events.WorldEvent.{WorldEvent}
use Rattle.rp_events.specs.declared.world_events.WorldEvent.TheVariants as events
use Rattle.rp_events.specs.Nodes.{Node}
use Rattle.rp_events.specs.Worlds.{World, Scene, Happening, Admit, Ask, Transfer, Collect, Flush, Tick, Deliver, Apply, Cut, Remove, Peek, Restart, Round, node_of, sent_by, happens}
use Rattle.rp_events.specs.Lawful.{IsReached}
use Rattle.rp_events.specs.Buffered.{Buffered, buffered_step}
use Rattle.rp_book.specs.Books.{BookState, told_of}
use Rattle.rp_lawful.specs.Comings.{Comes, ComesAs, ComesBy, happening_of, node_in, scene_at, taken_at}
use Rattle.rp_lines.specs.Players.{weight, weight_of, most_count}
use Rattle.rp_told.specs.Turns.{Turns, behind}
use Rattle.rp_world.specs.Comes.{IsNoAdmission, ended_by}
use Rattle.rp_world.specs.Keeping.{IsBookOf, told_after}
use Rattle.rp_world.specs.Weighing.{capped, load}
use Rattle.rp_world.proofs.Below.{ended_grow, sent_grow, step_nodes, turns_there, weight_after}
use Rattle.rp_world.proofs.Loads.{capped_sum}
use Rattle.rp_world.proofs.Telling.{Quiet, still_book}

-- what happens in an event that comes
pub record IsScene (b : Buffered) (e : WorldEvent) : Type 0 where
  pub what : Happening
  pub is : happening_of b e ≡ Some what
  pub comes : ComesAs b (node_in e) what

pub scene_in : (b : Buffered) (e : WorldEvent) → Comes b e → IsScene b e
scene_in b e c = go (happening_of b e) refl c.comes where
  go : (o : Option Happening) → happening_of b e ≡ o → ComesBy b (node_in e) o → IsScene b e
  go None is comes = absurd comes
  go (Some what) is comes = record { what = what; is = is; comes = comes }

some_what : (a b : Happening) → ◌≡◌ {A = Option Happening} (Some a) (Some b) → a ≡ b
some_what a b e = cc

-- an event that asks for no admission
pub quiet_in : (b : Buffered) (e : WorldEvent) (what : Happening) → happening_of b e ≡ Some what → IsNoAdmission e → Quiet what
quiet_in b (events.Admit node range id request) what is no_admission = absurd no_admission
quiet_in b (events.Ask node range) what is no_admission =
    subst Quiet (some_what (Ask range) what is) (record { asks_none = λ _. refl; begins_none = λ _ _ _. refl; requests_none = λ _ _. refl })
quiet_in b (events.Transfer node range to) what is no_admission =
    subst Quiet (some_what (Transfer range to) what is) (record { asks_none = λ _. refl; begins_none = λ _ _ _. refl; requests_none = λ _ _. refl })
quiet_in b (events.Collect node range) what is no_admission =
    subst Quiet (some_what (Collect range (taken_at b node range)) what is) (record { asks_none = λ _. refl; begins_none = λ _ _ _. refl; requests_none = λ _ _. refl })
quiet_in b (events.Flush node range) what is no_admission =
    subst Quiet (some_what (Flush range) what is) (record { asks_none = λ _. refl; begins_none = λ _ _ _. refl; requests_none = λ _ _. refl })
quiet_in b (events.Tick node) what is no_admission =
    subst Quiet (some_what (Tick) what is) (record { asks_none = λ _. refl; begins_none = λ _ _ _. refl; requests_none = λ _ _. refl })
quiet_in b (events.Deliver node from number) what is no_admission =
    subst Quiet (some_what (Deliver from number) what is) (record { asks_none = λ _. refl; begins_none = λ _ _ _. refl; requests_none = λ _ _. refl })
quiet_in b (events.Apply node range) what is no_admission =
    subst Quiet (some_what (Apply range) what is) (record { asks_none = λ _. refl; begins_none = λ _ _ _. refl; requests_none = λ _ _. refl })
quiet_in b (events.Cut node range) what is no_admission =
    subst Quiet (some_what (Cut range) what is) (record { asks_none = λ _. refl; begins_none = λ _ _ _. refl; requests_none = λ _ _. refl })
quiet_in b (events.Remove node range) what is no_admission =
    subst Quiet (some_what (Remove range) what is) (record { asks_none = λ _. refl; begins_none = λ _ _ _. refl; requests_none = λ _ _. refl })
quiet_in b (events.Peek node range key) what is no_admission =
    subst Quiet (some_what (Peek range key) what is) (record { asks_none = λ _. refl; begins_none = λ _ _ _. refl; requests_none = λ _ _. refl })
quiet_in b (events.Restart node) what is no_admission =
    subst Quiet (some_what (Restart) what is) (record { asks_none = λ _. refl; begins_none = λ _ _ _. refl; requests_none = λ _ _. refl })
quiet_in b (events.Round node) what is no_admission =
    subst Quiet (some_what (Round) what is) (record { asks_none = λ _. refl; begins_none = λ _ _ _. refl; requests_none = λ _ _. refl })
quiet_in b (events.Draw node range) what is no_admission = absurd (nothing what is) where
  nothing : (w : Happening) → ◌≡◌ {A = Option Happening} None (Some w) → ⊥
  nothing w e = cc
quiet_in b (events.Publish node range place item) what is no_admission = absurd (nothing what is) where
  nothing : (w : Happening) → ◌≡◌ {A = Option Happening} None (Some w) → ⊥
  nothing w e = cc

-- the scene with its node before it and after it
pub record IsTurn (b : Buffered) (e : WorldEvent) : Type 0 where
  pub scene : IsScene b e
  pub n : Node
  pub now : Node
  pub turns : Turns b.nodes (scene_at (node_in e) scene.what) n now
  pub left : (buffered_step b e).nodes ≡ happens b.nodes (scene_at (node_in e) scene.what)

pub turn_in : (b : Buffered) (e : WorldEvent) → Comes b e → IsTurn b e
turn_in b e c =
    let s : IsScene b e = scene_in b e c in
    let t = turns_there b.nodes (scene_at (node_in e) s.what) s.comes.lawful in
    record { scene = s; n = t.0; now = t.1; turns = t.2; left = step_nodes b e c s.what s.is }

-- what ended before, and after
pub ended_was : (b : Buffered) (e : WorldEvent) (t : IsTurn b e) → ended_by b.nodes (node_in e) ≡ t.n.outcomes
ended_was b e t = ap (λ o. option_map_or (λ (n : Node). n.outcomes) o []) t.turns.has

pub ended_now : (b : Buffered) (e : WorldEvent) (t : IsTurn b e) (w : World) → w ≡ (buffered_step b e).nodes → ended_by w (node_in e) ≡ t.now.outcomes
ended_now b e t w is =
    ap (λ v. ended_by v (node_in e)) (is ∙ t.left) ∙ ap (λ o. option_map_or (λ (n : Node). n.outcomes) o []) t.turns.left

pub sent_was : (b : Buffered) (e : WorldEvent) (t : IsTurn b e) → sent_by b.nodes (node_in e) ≡ t.n.sent
sent_was b e t = ap (λ o. option_map_or (λ (n : Node). n.sent) o []) t.turns.has

pub sent_now : (b : Buffered) (e : WorldEvent) (t : IsTurn b e) (w : World) → w ≡ (buffered_step b e).nodes → sent_by w (node_in e) ≡ t.now.sent
sent_now b e t w is =
    ap (λ v. sent_by v (node_in e)) (is ∙ t.left) ∙ ap (λ o. option_map_or (λ (n : Node). n.sent) o []) t.turns.left

-- what is new of a list that has grown
behind_is : {X : Type 0} (front list a c : List X) → a ≡ front → c ≡ list → drop (length a) c ≡ behind front list
behind_is front list a c e f = ap (λ l. drop (length l) c) e ∙ ap (drop (length front)) f

-- the book stays that of the nodes along an event that asks for no admission
pub happened_book : (k : ℕ) (b : Buffered) (e : WorldEvent) → IsReached k b.nodes → Comes b e → IsNoAdmission e
    → (w : World) → w ≡ (buffered_step b e).nodes → (s t : BookState) → t.entries ≡ s.entries
    → ((id : CmdId) → told_of id t.told ≡ told_after (drop (length (ended_by b.nodes (node_in e))) (ended_by w (node_in e))) id (told_of id s.told))
    → IsBookOf b.nodes s → IsBookOf w t
happened_book k b e reached c no_admission w is s t entries told book =
    let turn : IsTurn b e = turn_in b e c in
    let tail = behind_is turn.n.outcomes turn.now.outcomes (ended_by b.nodes (node_in e)) (ended_by w (node_in e)) (ended_was b e turn) (ended_now b e turn w is) in
    subst (λ v. IsBookOf v t) (sym (is ∙ turn.left))
    (still_book k b.nodes (scene_at (node_in e) turn.scene.what) turn.n turn.now reached turn.turns
    (quiet_in b e turn.scene.what turn.scene.is no_admission) s t entries
    (λ id. told id ∙ ap (λ es. told_after es id (told_of id s.told)) tail) book)

-- the weight goes on by what is new
pub happened_weight : (b : Buffered) (e : WorldEvent) → Comes b e → (w : World) → w ≡ (buffered_step b e).nodes → (counted more : ℕ)
    → counted ≡ capped (weight b.nodes) → more ≡ capped (load (drop (length (sent_by b.nodes (node_in e))) (sent_by w (node_in e))))
    → min (counted + more) most_count ≡ capped (weight w)
happened_weight b e c w is counted more was adds =
    let turn : IsTurn b e = turn_in b e c in
    let tail = behind_is turn.n.sent turn.now.sent (sent_by b.nodes (node_in e)) (sent_by w (node_in e)) (sent_was b e turn) (sent_now b e turn w is) in
    ap (λ s. min (s + more) most_count) was
    ∙ ap (λ m. min (capped (weight b.nodes) + m) most_count) (adds ∙ ap (λ l. capped (load l)) tail)
    ∙ capped_sum most_count (weight b.nodes) (load (behind turn.n.sent turn.now.sent))
    ∙ ap capped (sym (weight_after b.nodes (scene_at (node_in e) turn.scene.what) turn.n turn.now turn.turns))
    ∙ ap (λ v. capped (weight v)) (sym (is ∙ turn.left))

pub ended_within : (b : Buffered) (e : WorldEvent) → Comes b e → (w : World) → w ≡ (buffered_step b e).nodes
    → length (ended_by b.nodes (node_in e)) ≤ length (ended_by w (node_in e))
ended_within b e c w is =
    let turn : IsTurn b e = turn_in b e c in
    let grown = ap length (ended_grow b.nodes (scene_at (node_in e) turn.scene.what) turn.n turn.now turn.turns)
    ∙ length-append turn.n.outcomes (behind turn.n.outcomes turn.now.outcomes) in
    omega (arith, grown, ap length (ended_was b e turn), ap length (ended_now b e turn w is))

pub sent_within : (b : Buffered) (e : WorldEvent) → Comes b e → (w : World) → w ≡ (buffered_step b e).nodes
    → length (sent_by b.nodes (node_in e)) ≤ length (sent_by w (node_in e))
sent_within b e c w is =
    let turn : IsTurn b e = turn_in b e c in
    let grown = ap length (sent_grow b.nodes (scene_at (node_in e) turn.scene.what) turn.n turn.now turn.turns)
    ∙ length-append turn.n.sent (behind turn.n.sent turn.now.sent) in
    omega (arith, grown, ap length (sent_was b e turn), ap length (sent_now b e turn w is))
