-- Draws and publications of attempts and of lease asks.
use Rattle.std.proofs.Common.{◌≡◌, ℕ, Bool, true, false, Option, None, Some, Result, Ok, Err, List, cond, refl, sym, ap, subst, ◌∙◌}
use Rattle.rp_base.specs.Gives.{Fails, Gives}
use Rattle.rp_base.specs.declared.ids.CmdId.{CmdId}
use Rattle.rp_base.specs.declared.items.Item.TheVariants as items
use Rattle.rp_base.specs.declared.leases.LeaseAsk.{LeaseAsk}
use Rattle.rp_book.specs.declared.bookings.Booked.{Booked}
use Rattle.rp_book.specs.declared.bookings.Draw.TheVariants.{Drawn}
use Rattle.rp_book.specs.Books.{booked}
use Rattle.rp_bufcore.specs.Buffers.{Buffer, can_draw}
use Rattle.rp_events.specs.declared.world_events.WorldEvent.TheVariants as events
use Rattle.rp_lines.specs.Commands.{buffer_at, draws, with_draw}
use Rattle.rp_lines.specs.Players.{Limit, Player, Played, and_then, did, noted}
use Rattle.rp_lines.specs.Scripts.{puts_ask}
use Rattle.rp_report.specs.Notes.{full_text}
use Rattle.rp_world.specs.declared.faults.PlayFault.{PlayFault}
use Rattle.rp_world.specs.Plays.{Does, limit_of, place_in}
use Rattle.rp_world.proofs.Counting.{did_book, did_notes, fails_book, fails_notes}

-- the attempt has the place that was drawn, or the line is told
abbrev pub drawn_by : (line : ℕ) → CmdId → Booked → Option ℕ → Player → Player
drawn_by line id b None p = noted line full_text p
drawn_by line id b (Some place) p = with_draw id b (Drawn place) p

draws_are : (line : ℕ) (id : CmdId) (b : Booked) (p : Player)
    → draws line id b p ≡ did (events.Draw b.node b.range) (drawn_by line id b (place_in (buffer_at p b.node b.range)) p)
draws_are line id b p = go (can_draw (buffer_at p b.node b.range)) where
  go : (c : Bool) → cond c (did (events.Draw b.node b.range) (with_draw id b (Drawn (buffer_at p b.node b.range).drawn) p)) (did (events.Draw b.node b.range) (noted line full_text p))
      ≡ did (events.Draw b.node b.range) (drawn_by line id b (cond c (Some (buffer_at p b.node b.range).drawn) None) p)
  go true = refl
  go false = refl

-- a draw that went well
pub drew : (line : ℕ) (id : CmdId) (b : Booked) (p q : Player) (place : Option ℕ) → place ≡ place_in (buffer_at p b.node b.range)
    → did (events.Draw b.node b.range) p ≡ Ok q → draws line id b p ≡ Ok (drawn_by line id b place q)
drew line id b p q place is drawn =
    draws_are line id b p ∙ ap (λ o. did (events.Draw b.node b.range) (drawn_by line id b o p)) (sym is) ∙ go place where
      go : (o : Option ℕ) → did (events.Draw b.node b.range) (drawn_by line id b o p) ≡ Ok (drawn_by line id b o q)
      go None = did_notes (events.Draw b.node b.range) p q line full_text drawn
      go (Some n) = did_book (events.Draw b.node b.range) p q (booked id (record b { draw = Drawn n })) drawn

-- a draw that met a limit
pub drew_not : (o : Option Limit) (line : ℕ) (id : CmdId) (b : Booked) (p : Player) → Fails o (did (events.Draw b.node b.range) p) → Fails o (draws line id b p)
drew_not o line id b p h = subst (Fails o) (sym (draws_are line id b p)) (go (place_in (buffer_at p b.node b.range))) where
  go : (place : Option ℕ) → Fails o (did (events.Draw b.node b.range) (drawn_by line id b place p))
  go None = fails_notes o (events.Draw b.node b.range) p line full_text h
  go (Some n) = fails_book o (events.Draw b.node b.range) p (booked id (record b { draw = Drawn n }) p.book) h

-- the ask goes where a place was drawn, or the line is told
abbrev pub ask_goes : (line node range : ℕ) → LeaseAsk → Option ℕ → Player → Played
ask_goes line node range ask None p = Ok (noted line full_text p)
ask_goes line node range ask (Some place) p = did (events.Publish node range place (items.Lease ask)) p

pub put_ask : {A : Type 0} (r : Result A PlayFault) (line node range : ℕ) (ask : LeaseAsk) (p q new : Player) (place : Option ℕ) → place ≡ place_in (buffer_at p node range)
    → did (events.Draw node range) p ≡ Ok q → Does r new (ask_goes line node range ask place q) → Does r new (puts_ask line node range ask p)
put_ask r line node range ask p q new place is drawn h =
    subst (Does r new) (sym (go (can_draw (buffer_at p node range)) ∙ ap (λ o. ask_goes line node range ask o q) (sym is))) h
  where
    go : (c : Bool) → cond c (and_then (did (events.Draw node range) p) (did (events.Publish node range (buffer_at p node range).drawn (items.Lease ask)))) (did (events.Draw node range) (noted line full_text p))
        ≡ ask_goes line node range ask (cond c (Some (buffer_at p node range).drawn) None) q
    go true = ap (λ m. and_then m (did (events.Publish node range (buffer_at p node range).drawn (items.Lease ask)))) drawn
    go false = did_notes (events.Draw node range) p q line full_text drawn

pub put_not : (o : Option Limit) (line node range : ℕ) (ask : LeaseAsk) (p : Player) → Fails o (did (events.Draw node range) p) → Fails o (puts_ask line node range ask p)
put_not None line node range ask p h = tt
put_not (Some l) line node range ask p h = go (can_draw (buffer_at p node range)) where
  go : (c : Bool) → cond c (and_then (did (events.Draw node range) p) (did (events.Publish node range (buffer_at p node range).drawn (items.Lease ask)))) (did (events.Draw node range) (noted line full_text p)) ≡ Err l
  go true = ap (λ m. and_then m (did (events.Publish node range (buffer_at p node range).drawn (items.Lease ask)))) h
  go false = fails_notes (Some l) (events.Draw node range) p line full_text h
