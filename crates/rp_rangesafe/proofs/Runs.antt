-- What holds after each list of lawful events.
use Rattle.std.proofs.Common.{◌≡◌, ℕ, ◌<◌, ◌≤◌, List, [], ◌∷◌, ◌++◌, length, refl, sym, ap, subst, ◌∙◌, arith}
use Rattle.std.proofs.lemmas.List.{length-append}
use Rattle.rp_base.specs.declared.ids.CmdId.{CmdId}
use Rattle.rp_request.specs.declared.commands.Payload.{Payload}
use Rattle.rp_request.specs.declared.commands.Payload.TheVariants.{Write}
use Rattle.rp_request.specs.declared.commands.Command.{Command}
use Rattle.rp_request.specs.Applied.{verdict}
use Rattle.rp_rangesafe.specs.Along.{entry, state, Takes}
use Rattle.rp_rangesafe.specs.World.{World, state_at, begin, Event, Admit, Flush, Return, Refuse, Commit, Apply, Snapshot, Remove, Restart, AllLawful, happens, run}
use Rattle.rp_rangesafe.specs.Places.{IsReached, IsLater, IsPlace}
use Rattle.rp_rangesafe.proofs.One.{PlaceOf}
use Rattle.rp_rangesafe.proofs.Worlds.{Extends, extends_itself, state_so_far, Sound, sound_begin}
use Rattle.rp_rangesafe.proofs.Sounds.{extends_before, sound_step}
use Rattle.rp_rangesafe.proofs.Growth.{Grown, grown_run}

pub run_extends : (f : ℕ → Payload) (w : World) (es : List Event) → Extends f (run w es).log → Extends f w.log
run_extends f w [] x = x
run_extends f w (e ∷ es) x = extends_before f w e (run_extends f (happens w e) es x)

pub run_sound : (f : ℕ → Payload) (w : World) (es : List Event) → AllLawful w es → Extends f (run w es).log → Sound f w → Sound f (run w es)
run_sound f w [] h x s = s
run_sound f w (e ∷ es) h x s = run_sound f (happens w e) es h.1 x (sound_step f w e h.0 (run_extends f (happens w e) es x) s)

-- no event changes the start
pub same_start : (w : World) (e : Event) → (happens w e).start ≡ w.start
same_start w (Admit id node body) = refl
same_start w (Flush id max) = refl
same_start w (Return id) = refl
same_start w (Refuse id) = refl
same_start w (Commit p) = refl
same_start w (Apply node) = refl
same_start w (Snapshot node to) = refl
same_start w (Remove node) = refl
same_start w (Restart node) = refl

pub run_start : (w : World) (es : List Event) → (run w es).start ≡ w.start
run_start w [] = refl
run_start w (e ∷ es) = run_start (happens w e) es ∙ same_start w e

-- a range that is reached is sound, whatever its list becomes
pub sound_reached : (f : ℕ → Payload) (w : World) → IsReached w → Extends f w.log → Sound f w
sound_reached f w r x = subst (Sound f) r.reached
    (run_sound f (begin r.start) r.events r.lawful (subst (λ (v : World). Extends f v.log) (sym r.reached) x) (sound_begin f r.start))

-- lawful lists, one after the other
pub lawful_further : (w : World) (es fs : List Event) → AllLawful w es → AllLawful (run w es) fs → AllLawful w (es ++ fs)
lawful_further w [] fs h k = k
lawful_further w (e ∷ es) fs h k = (h.0, lawful_further (happens w e) es fs h.1 k)

pub run_further : (w : World) (es fs : List Event) → run w (es ++ fs) ≡ run (run w es) fs
run_further w [] fs = refl
run_further w (e ∷ es) fs = run_further (happens w e) es fs

pub later_reached : (w later : World) → IsReached w → IsLater w later → IsReached later
later_reached w later r l = record {
  start = r.start;
  events = r.events ++ l.events;
  lawful = lawful_further (begin r.start) r.events l.events r.lawful (subst (λ v. AllLawful v l.events) (sym r.reached) l.lawful);
  reached = run_further (begin r.start) r.events l.events ∙ ap (λ v. run v l.events) r.reached ∙ l.reached;
}

pub later_itself : (w : World) → IsLater w w
later_itself w = record { events = []; lawful = tt; reached = refl }

pub later_further : (u v w : World) → IsLater u v → IsLater v w → IsLater u w
later_further u v w l m = record {
  events = l.events ++ m.events;
  lawful = lawful_further u l.events m.events l.lawful (subst (λ x. AllLawful x m.events) (sym l.reached) m.lawful);
  reached = run_further u l.events m.events ∙ ap (λ x. run x m.events) l.reached ∙ m.reached;
}

pub later_extends : (f : ℕ → Payload) (w later : World) → IsLater w later → Extends f later.log → Extends f w.log
later_extends f w later l x = run_extends f w l.events (subst (λ (v : World). Extends f v.log) (sym l.reached) x)

pub later_start : (w later : World) → IsLater w later → later.start ≡ w.start
later_start w later l = subst (λ (v : World). v.start ≡ w.start) l.reached (run_start w l.events)

pub later_grown : (w later : World) → IsLater w later → (q : CmdId) → Grown (w.attempt q) (later.attempt q)
later_grown w later l q = subst (λ (v : World). Grown (w.attempt q) (v.attempt q)) l.reached (grown_run w l.events l.lawful q)

-- a range, and what it can become, by the list that it will then have
pub record Ahead (w later : World) : Type 0 where
  pub now : Sound (entry later.log) w
  pub then : Sound (entry later.log) later
  pub start : later.start ≡ w.start
  pub so_far : Extends (entry later.log) w.log

pub look_ahead : (w later : World) → IsReached w → IsLater w later → Ahead w later
look_ahead w later r l = record {
  now = sound_reached (entry later.log) w r (later_extends (entry later.log) w later l (extends_itself later.log));
  then = sound_reached (entry later.log) later (later_reached w later r l) (extends_itself later.log);
  start = later_start w later l;
  so_far = later_extends (entry later.log) w later l (extends_itself later.log);
}

pub place_of : (w : World) (id : CmdId) (k : ℕ) (c : Command) → IsPlace w id k c → PlaceOf w.start (entry w.log) id k c
place_of w id k c h = record { takes = h.takes; named = h.named }

-- a place of what comes later, from the start that is the same
pub place_from : (w later : World) → later.start ≡ w.start → (id : CmdId) (k : ℕ) (c : Command) → IsPlace later id k c → PlaceOf w.start (entry later.log) id k c
place_from w later e id k c h = record { takes = subst (λ b. Takes b (entry later.log) k c) e h.takes; named = h.named }

-- a list only grows
longer : (w : World) (e : Event) → length w.log ≤ length (happens w e).log
longer w (Admit id node body) = omega arith
longer w (Flush id max) = omega arith
longer w (Return id) = omega arith
longer w (Refuse id) = omega arith
longer w (Commit p) = let e = length-append w.log (p ∷ []) in omega arith
longer w (Apply node) = omega arith
longer w (Snapshot node to) = omega arith
longer w (Remove node) = omega arith
longer w (Restart node) = omega arith

longer_run : (w : World) (es : List Event) → length w.log ≤ length (run w es).log
longer_run w [] = omega arith
longer_run w (e ∷ es) = let a = longer w e in let b = longer_run (happens w e) es in omega arith

module _ (w later : World) (l : IsLater w later) where
  pub later_longer : length w.log ≤ length later.log
  later_longer = subst (λ (v : World). length w.log ≤ length v.log) l.reached (longer_run w l.events)

  so_far : Extends (entry later.log) w.log
  so_far = later_extends (entry later.log) w later l (extends_itself later.log)

  pub later_entry : (k : ℕ) → k < length w.log → entry w.log k ≡ entry later.log k
  later_entry k h = sym (so_far.at k h)

  pub later_state : (i : ℕ) → i ≤ length w.log → state_at w i ≡ state_at later i
  later_state i h = state_so_far (entry later.log) w so_far i h ∙ ap (λ b. state b (entry later.log) i) (sym (later_start w later l))

-- a place stays
pub place_stays : (w later : World) → IsLater w later → (id : CmdId) (k : ℕ) (c : Command) → IsPlace w id k c → IsPlace later id k c
place_stays w later l id k c p =
    let within = p.within in
    let long = later_longer w later l in
    record {
      within = omega arith;
      takes = record {
        here = sym (later_entry w later l k within) ∙ p.takes.here;
        taken = ap (λ s. verdict s (Write c)) (sym (later_state w later l k (omega arith))) ∙ p.takes.taken;
      };
      named = p.named;
    }
