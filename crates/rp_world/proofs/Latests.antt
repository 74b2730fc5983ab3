-- What lines make of the latest attempt of a command.
use Rattle.std.proofs.Common.{◌≡◌, ℕ, Bool, true, false, ◌&&◌, Option, None, Some, Ok, cond, refl, sym, ap, subst, ◌∙◌}
use Rattle.std.specs.Prelude.{option_and_then}
use Rattle.std.specs.Option.{option_map_or}
use Rattle.rp_base.specs.declared.ids.CmdId.{CmdId}
use Rattle.rp_request.specs.declared.outcomes.Outcome.{Outcome}
use Rattle.rp_book.specs.declared.bookings.Booked.{Booked}
use Rattle.rp_book.specs.declared.bookings.Draw.{Draw}
use Rattle.rp_book.specs.declared.bookings.Draw.TheVariants.{Undrawn, Drawn, Published}
use Rattle.rp_events.specs.Worlds.{World, outcome_of}
use Rattle.rp_events.specs.Lawful.{is_refusal, was_refused}
use Rattle.rp_lines.specs.Commands.{asks_and_goes_on, booking, draws, draws_latest, following, is_undrawn, is_waiting, tries_again}
use Rattle.rp_lines.specs.Players.{Player, Played, noted}
use Rattle.rp_report.specs.Notes.{not_refused_text, nothing_text}
use Rattle.rp_world.specs.Latest.{Entry}

-- an attempt behind the latest one, where that was refused
abbrev pub again_by : (line node range : ℕ) → Player → Option Entry → Played
again_by line node range p None = Ok (noted line not_refused_text p)
again_by line node range p (Some e) = asks_and_goes_on line (following e.0) (booking e.1.request node range) p

abbrev pub if_refused : World → Entry → Option Entry
if_refused w e = cond (was_refused w e.0) (Some e) None

pub tries_by : (line node range : ℕ) (p : Player) (o : Option Entry) → tries_again line node range o p ≡ again_by line node range p (option_and_then (if_refused p.world.nodes) o)
tries_by line node range p None = refl
tries_by line node range p (Some e) = go (was_refused p.world.nodes e.0) where
  go : (b : Bool) → cond b (asks_and_goes_on line (following e.0) (booking e.1.request node range) p) (Ok (noted line not_refused_text p))
      ≡ again_by line node range p (cond b (Some e) None)
  go true = refl
  go false = refl

-- a draw of the latest one, where it waits and had no place
abbrev pub draw_by : (line : ℕ) → Player → Option Entry → Played
draw_by line p None = Ok (noted line nothing_text p)
draw_by line p (Some e) = draws line e.0 e.1 p

abbrev pub if_undrawn : World → Entry → Option Entry
if_undrawn w e = cond (is_waiting w e.0 e.1 && is_undrawn e.1.draw) (Some e) None

pub draws_by : (line : ℕ) (p : Player) (o : Option Entry) → draws_latest line o p ≡ draw_by line p (option_and_then (if_undrawn p.world.nodes) o)
draws_by line p None = refl
draws_by line p (Some e) = go (is_waiting p.world.nodes e.0 e.1 && is_undrawn e.1.draw) where
  go : (b : Bool) → cond b (draws line e.0 e.1 p) (Ok (noted line nothing_text p)) ≡ draw_by line p (cond b (Some e) None)
  go true = refl
  go false = refl

-- the one that is given stands in the book, and was refused
pub from_refused : (w : World) (o : Option Entry) (e : Entry) → option_and_then (if_refused w) o ≡ Some e → (o ≡ Some e) × (was_refused w e.0 ≡ true)
from_refused w None e is = absurd (nothing is) where
  nothing : ◌≡◌ {A = Option Entry} None (Some e) → ⊥
  nothing e = cc
from_refused w (Some d) e is = go (was_refused w d.0) refl is where
  same : ◌≡◌ {A = Option Entry} (Some d) (Some e) → d ≡ e
  same e = cc

  go : (b : Bool) → was_refused w d.0 ≡ b → cond b (Some d) None ≡ Some e → (◌≡◌ {A = Option Entry} (Some d) (Some e)) × (was_refused w e.0 ≡ true)
  go true refused is = (is, subst (λ (z : Entry). was_refused w z.0 ≡ true) (same is) refused)
  go false refused is = absurd cc

pub from_undrawn : (w : World) (o : Option Entry) (e : Entry) → option_and_then (if_undrawn w) o ≡ Some e → o ≡ Some e
from_undrawn w None e is = absurd (nothing is) where
  nothing : ◌≡◌ {A = Option Entry} None (Some e) → ⊥
  nothing e = cc
from_undrawn w (Some d) e is = go (is_waiting w d.0 d.1 && is_undrawn d.1.draw) is where
  go : (b : Bool) → cond b (Some d) None ≡ Some e → ◌≡◌ {A = Option Entry} (Some d) (Some e)
  go true is = is
  go false is = absurd cc
