-- A player that goes on through a line.
use Rattle.std.proofs.Common.{◌≡◌, ℕ, zero, suc, ◌+◌, ◌-◌, ◌<◌, ◌≤◌, ◌^◌, Bool, true, false, Option, None, Some, Result, Ok, Err, List, [], length, cond, refl, sym, ap, subst, ◌∙◌, arith}
use Rattle.rp_base.specs.Gives.{Fails}
use Rattle.rp_base.specs.declared.items.Item.{Item}
use Rattle.rp_bufcore.specs.Buffers.{after_collect, buffer_of, given}
use Rattle.rp_events.specs.declared.world_events.WorldEvent.{WorldEvent}
use Rattle.rp_events.specs.declared.world_events.WorldEvent.TheVariants as events
use Rattle.rp_events.specs.Worlds.{World, Happening, Admit, Ask, Transfer, Collect, Flush, Tick, Deliver, Apply, Cut, Remove, Peek, Restart, Round, happens}
use Rattle.rp_events.specs.Lawful.{IsReached, happens_if, is_lawful}
use Rattle.rp_events.specs.Buffered.{Buffered, at_node, buffered_step, buffers_at, changed, collected, collects, has_live}
use Rattle.rp_journals.proofs.Growing.{scene_grows}
use Rattle.rp_lawful.specs.Comings.{Comes, IsPlain, scene_at}
use Rattle.rp_lines.specs.Players.{Limit, Player, Played, and_then, did, noted}
use Rattle.rp_lines.specs.Scripts.{told_absent}
use Rattle.rp_lines.specs.Settling.{repeated}
use Rattle.rp_report.specs.Notes.{absent_text}
use Rattle.rp_world.specs.Going.{AsMany, Going}
use Rattle.rp_script.specs.Bounds.{Fits}
use Rattle.rp_script.specs.declared.lines.ScriptLine.{ScriptLine}
use Rattle.rp_lawful.specs.Playable.{CanPlay}
use Rattle.rp_world.proofs.Below.{comes_plain, leads_noted, leads_plain, play_few, play_fits, play_sound}
use Rattle.rp_world.proofs.Counting.{did_is}

pub going_reached : (p : Player) → Going p → IsReached (length p.world.nodes) p.world.nodes
going_reached p g = g.sound.reached

pub going_comes : (p : Player) → Going p → (e : WorldEvent) → IsPlain (length p.world.nodes) e → Comes p.world e
going_comes p g e plain = comes_plain g.lines p g.sound e plain

pub going_did : (p q : Player) (e : WorldEvent) → Going p → IsPlain (length p.world.nodes) e → did e p ≡ Ok q → Going q
going_did p q e g plain is = record { lines = g.lines; few = g.few; sound = (leads_plain g.lines p g.sound e plain q is).sound }

pub going_noted : (p : Player) (line : ℕ) (text : List ℕ) → Going p → Going (noted line text p)
going_noted p line text g = record { lines = g.lines; few = g.few; sound = (leads_noted g.lines p g.sound line text).sound }

pub going_absent : (p : Player) (line node range : ℕ) → Going p → Going (told_absent line node range p)
going_absent p line node range g = go (has_live p.world.nodes node range) where
  go : (b : Bool) → Going (cond b p (noted line absent_text p))
  go true = g
  go false = going_noted p line absent_text g

pub many_absent : (p : Player) (line node range : ℕ) → AsMany p (told_absent line node range p)
many_absent p line node range = go (has_live p.world.nodes node range) where
  go : (b : Bool) → AsMany p (cond b p (noted line absent_text p))
  go true = refl
  go false = refl

scene_size : (b : Buffered) (node : ℕ) (what : Happening) → length (at_node b node what).nodes ≡ length b.nodes
scene_size b node what = go (is_lawful b.nodes (scene_at node what)) where
  go : (c : Bool) → length (happens_if c b.nodes (scene_at node what)) ≡ length b.nodes
  go true = (scene_grows b.nodes (scene_at node what)).size
  go false = refl

collect_size : (b : Buffered) (node range : ℕ) → length (collected b node range).nodes ≡ length b.nodes
collect_size b node range = go (has_live b.nodes node range) where
  taken_by : (items : List Item) (c : Bool) → length (cond c (changed (at_node b node (Collect range items)) node range after_collect) b).nodes ≡ length b.nodes
  taken_by items true = scene_size b node (Collect range items)
  taken_by items false = refl

  go : (c : Bool) → length (cond c (collects b node range (given (buffer_of (buffers_at b node) range))) (at_node b node (Collect range []))).nodes ≡ length b.nodes
  go true = taken_by (given (buffer_of (buffers_at b node) range)) (is_lawful b.nodes (scene_at node (Collect range (given (buffer_of (buffers_at b node) range)))))
  go false = scene_size b node (Collect range [])

-- as many nodes as before
pub step_size : (b : Buffered) (e : WorldEvent) → length (buffered_step b e).nodes ≡ length b.nodes
step_size b (events.Admit node range id request) = scene_size b node (Admit range id request)
step_size b (events.Ask node range) = scene_size b node (Ask range)
step_size b (events.Transfer node range to) = scene_size b node (Transfer range to)
step_size b (events.Collect node range) = collect_size b node range
step_size b (events.Flush node range) = scene_size b node (Flush range)
step_size b (events.Tick node) = scene_size b node Tick
step_size b (events.Deliver node from number) = scene_size b node (Deliver from number)
step_size b (events.Apply node range) = scene_size b node (Apply range)
step_size b (events.Cut node range) = scene_size b node (Cut range)
step_size b (events.Remove node range) = scene_size b node (Remove range)
step_size b (events.Peek node range key) = scene_size b node (Peek range key)
step_size b (events.Restart node) = scene_size b node Restart
step_size b (events.Round node) = scene_size b node Round
step_size b (events.Draw node range) = refl
step_size b (events.Publish node range place item) = refl

pub many_did : (p q : Player) (e : WorldEvent) → did e p ≡ Ok q → AsMany p q
many_did p q e is = ap (λ (m : Player). length m.world.nodes) (did_is e p q is) ∙ step_size p.world e

-- so many times, one after another
pub once_more : (act : Player → Played) (count i : ℕ) (p q : Player) (meant : Played) → i < count → act p ≡ Ok q
    → repeated (count - i) act p ≡ meant → repeated (count - (i + 1)) act q ≡ meant
once_more act count i p q meant h is so_far =
    let n : count - i ≡ suc (count - (i + 1)) = omega arith in
    sym (ap (λ m. and_then m (repeated (count - (i + 1)) act)) is) ∙ sym (ap (λ k. repeated k act p) n) ∙ so_far

pub ends_times : (o : Option Limit) (act : Player → Played) (count i : ℕ) (p : Player) (meant : Played) → i < count → Fails o (act p)
    → repeated (count - i) act p ≡ meant → Fails o meant
ends_times None act count i p meant h fails so_far = tt
ends_times (Some l) act count i p meant h fails so_far =
    let n : count - i ≡ suc (count - (i + 1)) = omega arith in
    sym so_far ∙ ap (λ k. repeated k act p) n ∙ ap (λ m. and_then m (repeated (count - (i + 1)) act)) fails

-- a player that can play a line goes on, and the line fits it
pub going_play : (p : Player) (number : ℕ) (line : ScriptLine) → CanPlay (length p.world.nodes) p (record { number = number; line = line }) → Going p
going_play p number line c = record {
  lines = length c.lines;
  few = play_few (length p.world.nodes) p (record { number = number; line = line }) c;
  sound = play_sound (length p.world.nodes) p (record { number = number; line = line }) c;
}

pub fits_play : (p : Player) (number : ℕ) (line : ScriptLine) → CanPlay (length p.world.nodes) p (record { number = number; line = line }) → Fits (length p.world.nodes) p.sent line
fits_play p number line c = play_fits (length p.world.nodes) p (record { number = number; line = line }) c
