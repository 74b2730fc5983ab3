-- Only Begin reads a range's start.
use Rattle.std.proofs.Common.{◌≡◌, ℕ, suc, eqb, get_or, Option, Some, None, List, [], ◌∷◌, ◌++◌, refl, sym, ap, ◌∙◌, arith, eqb-true}
use Rattle.std.specs.Prelude.{All}
use Rattle.std.specs.Option.{option_map_or}
use Rattle.std.proofs.lemmas.Bool.{cond_both}
use Rattle.rp_raftstep.specs.declared.messages.Message.{Message}
use Rattle.rp_raftstep.specs.declared.messages.Message.TheVariants.{Vote, VoteReply, Append, AppendReply, Forward, Snap}
use Rattle.rp_raftsafe.specs.World.{Range, Status, Absent, Live, Removed, Action, Begin, Ticks, Proposes, Applies, Cuts, Removes, Restarts, acts, gets, World, site, with_site, after_turn, message_of, Event, Acts, Comes, comes, happens, run}
use Rattle.rp_raftsafe.specs.Many.{Parcel, Hosts, host, with_host, turned, parcel_of, ManyEvent, ActsIn, ComesIn, parcel_comes, happens_in, run_in, view, sees, sees_all}
use Rattle.rp_raftsafe.specs.Starts.{IsButStart, ActsAlike, StartsAlike, StartUnread, BeginsAlike, RunsAlike, StartsUnread, with_start, BeginsNot, ShutUnread}

-- an action that reads no start
acts_any : {S : Type 0} (g : Range S) (start : S) (node : ℕ) (action : Action) (status : Status S) → (action ≡ Begin → ⊥) → acts g node action status ≡ acts (record g { start = start }) node action status
acts_any g start node Begin status ne = absurd (ne refl)
acts_any g start node (Ticks again) Absent ne = refl
acts_any g start node (Proposes payloads) Absent ne = refl
acts_any g start node Applies Absent ne = refl
acts_any g start node Cuts Absent ne = refl
acts_any g start node Removes Absent ne = refl
acts_any g start node Restarts Absent ne = refl
acts_any g start node (Ticks again) (Live r) ne = refl
acts_any g start node (Proposes payloads) (Live r) ne = refl
acts_any g start node Applies (Live r) ne = refl
acts_any g start node Cuts (Live r) ne = refl
acts_any g start node Removes (Live r) ne = refl
acts_any g start node Restarts (Live r) ne = refl
acts_any g start node action Removed ne = refl

acts_alike : {S : Type 0} (g h : Range S) → IsButStart g h → (node : ℕ) (action : Action) (status : Status S) → ActsAlike g h action → acts g node action status ≡ acts h node action status
acts_alike g h but node Begin status same = ap (λ z. acts (record g { start = z }) node Begin status) same ∙ ap (λ z. acts z node Begin status) (sym but)
acts_alike g h but node (Ticks again) status same = acts_any g h.start node (Ticks again) status (λ e. cc) ∙ ap (λ z. acts z node (Ticks again) status) (sym but)
acts_alike g h but node (Proposes payloads) status same = acts_any g h.start node (Proposes payloads) status (λ e. cc) ∙ ap (λ z. acts z node (Proposes payloads) status) (sym but)
acts_alike g h but node Applies status same = acts_any g h.start node Applies status (λ e. cc) ∙ ap (λ z. acts z node Applies status) (sym but)
acts_alike g h but node Cuts status same = acts_any g h.start node Cuts status (λ e. cc) ∙ ap (λ z. acts z node Cuts status) (sym but)
acts_alike g h but node Removes status same = acts_any g h.start node Removes status (λ e. cc) ∙ ap (λ z. acts z node Removes status) (sym but)
acts_alike g h but node Restarts status same = acts_any g h.start node Restarts status (λ e. cc) ∙ ap (λ z. acts z node Restarts status) (sym but)

-- no message reads it
gets_any : {S : Type 0} (g : Range S) (start : S) (node from : ℕ) (m : Message S) (again : List (List ℕ)) (status : Status S) → gets g node from m again status ≡ gets (record g { start = start }) node from m again status
gets_any g start node from (Vote t i it) again Absent = refl
gets_any g start node from (VoteReply t granted) again Absent = refl
gets_any g start node from (Append t prev pt es commit) again Absent = refl
gets_any g start node from (AppendReply t ok i) again Absent = refl
gets_any g start node from (Forward payload) again Absent = refl
gets_any g start node from (Snap t i it s) again Absent = refl
gets_any g start node from m again (Live r) = refl
gets_any g start node from m again Removed = refl

gets_alike : {S : Type 0} (g h : Range S) → IsButStart g h → (node from : ℕ) (m : Message S) (again : List (List ℕ)) (status : Status S) → gets g node from m again status ≡ gets h node from m again status
gets_alike g h but node from m again status = gets_any g h.start node from m again status ∙ ap (λ z. gets z node from m again status) (sym but)

-- one range
happens_alike : {S : Type 0} (g h : Range S) → IsButStart g h → (event : Event) → StartsAlike g h event → (w : World S) → happens g w event ≡ happens h w event
happens_alike g h but (Acts node action) same w = ap (λ z. with_site w node (after_turn (site w node) z)) (acts_alike g h but node action (site w node).status same)
happens_alike {S} g h but (Comes from number again) same w = found (message_of (site w from) number)
  where
    found : (o : Option (ℕ × Message S)) → option_map_or (comes g w from again) o w ≡ option_map_or (comes h w from again) o w
    found None = refl
    found (Some x) = ap (λ z. with_site w x.0 (after_turn (site w x.0) z)) (gets_alike g h but x.0 from x.1 again (site w x.0).status)

pub start_unread_holds : (S : Type 0) → StartUnread S
start_unread_holds S g h but = all
  where
    all : (events : List Event) → All (StartsAlike g h) events → (w : World S) → run g events w ≡ run h events w
    all [] every w = refl
    all (event ∷ events) every w =
        ap (run g events) (happens_alike g h but event (every 0 event (omega arith)) w)
        ∙ all events (λ k e lt. every (suc k) e (omega arith)) (happens h w event)

-- several ranges
happens_in_alike : {S : Type 0} (ranges others : ℕ → Range S) → ((range : ℕ) → IsButStart (ranges range) (others range)) → (event : ManyEvent) → BeginsAlike ranges others event → (w : Hosts S) → happens_in ranges w event ≡ happens_in others w event
happens_in_alike ranges others but (ActsIn range node action) same w = ap (λ z. with_host w node (turned (host w node) range z)) (acts_alike (ranges range) (others range) (but range) node action ((host w node).statuses range) same)
happens_in_alike {S} ranges others but (ComesIn from number again) same w = found (parcel_of (host w from) number)
  where
    found : (o : Option (Parcel S)) → option_map_or (parcel_comes ranges w from again) o w ≡ option_map_or (parcel_comes others w from again) o w
    found None = refl
    found (Some p) = ap (λ z. with_host w p.to (turned (host w p.to) p.range z)) (gets_alike (ranges p.range) (others p.range) (but p.range) p.to from p.message again ((host w p.to).statuses p.range))

pub starts_unread_holds : (S : Type 0) → StartsUnread S
starts_unread_holds S ranges others but = all
  where
    all : (events : List ManyEvent) → All (BeginsAlike ranges others) events → (w : Hosts S) → RunsAlike ranges others events w
    all [] every w = record { hosts = refl; seen = λ range. refl }
    all (event ∷ events) every w =
        let one : happens_in ranges w event ≡ happens_in others w event = happens_in_alike ranges others but event (every 0 event (omega arith)) w in
        let rest : RunsAlike ranges others events (happens_in others w event) = all events (λ k e lt. every (suc k) e (omega arith)) (happens_in others w event) in
        record {
          hosts = ap (run_in ranges events) one ∙ rest.hosts;
          seen = λ range. ap (λ z. sees range w event ++ z) (ap (sees_all ranges range events) one ∙ rest.seen range);
        }

-- a range that has not begun
pub with_start_but : {S : Type 0} (ranges : ℕ → Range S) (range : ℕ) (start : S) (r : ℕ) → IsButStart (ranges r) (with_start ranges range start r)
with_start_but {S} ranges range start r =
    cond_both (eqb r range) (record (ranges r) { start = start }) (ranges r) (λ (z : Range S). z ≡ record (ranges r) { start = z.start }) (λ _. refl) (λ _. refl)

begins_alike : {S : Type 0} (ranges : ℕ → Range S) (range : ℕ) (start : S) (event : ManyEvent) → BeginsNot range event → BeginsAlike ranges (with_start ranges range start) event
begins_alike {S} ranges range start (ActsIn r node Begin) not_here =
    cond_both (eqb r range) (record (ranges r) { start = start }) (ranges r) (λ (z : Range S). (ranges r).start ≡ z.start) (λ e. absurd (not_here (eqb-true r range e))) (λ _. refl)
begins_alike ranges range start (ActsIn r node (Ticks again)) not_here = tt
begins_alike ranges range start (ActsIn r node (Proposes payloads)) not_here = tt
begins_alike ranges range start (ActsIn r node Applies) not_here = tt
begins_alike ranges range start (ActsIn r node Cuts) not_here = tt
begins_alike ranges range start (ActsIn r node Removes) not_here = tt
begins_alike ranges range start (ActsIn r node Restarts) not_here = tt
begins_alike ranges range start (ComesIn from number again) not_here = tt

pub shut_unread_holds : (S : Type 0) → ShutUnread S
shut_unread_holds S ranges range start events every w =
    ap (view range) (starts_unread_holds S ranges (with_start ranges range start) (with_start_but ranges range start) events (λ k e lt. begins_alike ranges range start (get_or events k e) (every k e lt)) w).hosts
