-- A client's tries come in turn: the next one is behind all that were made, and these have ended.
use Rattle.std.proofs.Common.{◌≡◌, ℕ, zero, suc, true, false, Option, None, Some, List, [], ◌∷◌, ◌++◌, refl, sym, ap, subst, ◌∙◌}
use Rattle.std.specs.Prelude.{slice_get}
use Rattle.rp_base.specs.declared.ids.CmdId.{CmdId}
use Rattle.rp_request.specs.declared.outcomes.Outcome.{Outcome}
use Rattle.rp_request.specs.declared.requests.Request.{Request}
use Rattle.rp_events.specs.Lawful.{IsLater, AllLawful}
use Rattle.rp_events.specs.Worlds as worlds
use Rattle.rp_events.specs.Worlds.{World, Schedule, Happening, first_world, happens, run, is_admission_of, asked_at}
use Rattle.rp_journals.specs.Asked.{AskedOnce, all_at}
use Rattle.rp_journals.specs.Entries.{at_node}
use Rattle.rp_journals.proofs.Growing.{run_further, lawful_further}
use Rattle.rp_journals.proofs.Waiting.{any_place, outcome_here}
use Rattle.rp_clients.specs.Tries.{Try, id_after, next_id}
use Rattle.rp_race.specs.declared.rules.RaceRules.{RaceRules}
use Rattle.rp_race.specs.InTurn.{IsEarlier, HasEnded, IsInTurn, AllInTurn, CameInTurn}
use Rattle.rp_race.specs.Played.{IsEndAt, WasTried, AllTried, is_admission_by, IsAmong, IsTriesOf}
use Rattle.rp_race.specs.Gives.{is_within_round, AllMayHappen}
use Rattle.rp_race.proofs.Nexts.{one_id, by_its_client, some_try, all_before, tried_asked}

-- an end that is known of a try is the attempt's
tried_ended : (w : World) → AskedOnce w → (t : Try) (request : Request) → WasTried w t request → (end : Outcome) → t.end ≡ Some end → HasEnded w t.id
tried_ended w once t request s end known =
    let told : IsEndAt t.id s.n (Some end) = subst (IsEndAt t.id s.n) known s.end in
    record {
      end = end;
      told = outcome_here w once t.id t.node s.n s.has (tried_asked w once t request s) ∙ told.0;
      ended = told.1;
    }

-- no try comes behind one of which no end is known
end_is_known : (id : CmdId) (end : Option Outcome) (new : CmdId) → id_after id end ≡ Some new → (o : Outcome) × (end ≡ Some o)
end_is_known id None new e = absurd cc
end_is_known id (Some o) new e = (o, refl)

all_ended : (rules : RaceRules) (w : World) (client : ℕ) → AskedOnce w → (tries : List Try) → AllTried rules w client tries → (new : CmdId) → next_id client tries ≡ Some new
    → (k : ℕ) (t : Try) → slice_get tries k ≡ Some t → HasEnded w t.id
all_ended rules w client once [] h new e k t at = absurd cc
all_ended rules w client once (first ∷ older) h new e zero t at =
    let known = end_is_known first.id first.end new e in
    subst (λ (z : Try). HasEnded w z.id) (some_try first t at) (tried_ended w once first h.0.request h.0.tried known.0 known.1)
all_ended rules w client once (first ∷ older) h new e (suc k) t at = all_ended rules w client once older h.1 first.id h.0.may.next k t at

-- so a client's next try comes in turn
pub try_in_turn : (rules : RaceRules) (w : World) → AskedOnce w → (tries : List Try) (range : ℕ) (id : CmdId) (request : Request) → IsTriesOf rules w id.client tries → next_id id.client tries ≡ Some id
    → IsInTurn w (worlds.Admit range id request)
try_in_turn rules w once tries range id request h next = λ other same asked.
    let k = any_place (asked_at other) w asked in
    let a = any_place (is_admission_of other) k.1.journal k.3 in
    let mine : is_admission_by id.client a.1.event ≡ true = subst (λ c. is_admission_by c a.1.event ≡ true) same (by_its_client other a.1 a.3) in
    let among : IsAmong tries a.1 = h.all (suc k.0) a.0 a.1 (record { n = k.1; has = k.2; here = a.2 }) mine in
    let is : among.try_of.id ≡ other = one_id among.try_of.id other a.1 among.is a.3 in (
      subst (λ i. IsEarlier i id) is (all_before rules w id.client tries h.each id next among.k among.try_of among.here),
      subst (HasEnded w) is (all_ended rules w id.client once tries h.each id next among.k among.try_of among.here),
    )

-- the inside of a round admits nothing
within_in_turn : (w : World) (what : Happening) → is_within_round what ≡ true → IsInTurn w what
within_in_turn w (worlds.Admit range id request) e = absurd cc
within_in_turn w (worlds.Ask range) e = tt
within_in_turn w (worlds.Transfer range to) e = tt
within_in_turn w (worlds.Collect range taken) e = tt
within_in_turn w (worlds.Flush range) e = tt
within_in_turn w worlds.Tick e = tt
within_in_turn w (worlds.Deliver from number) e = tt
within_in_turn w (worlds.Apply range) e = tt
within_in_turn w (worlds.Cut range) e = tt
within_in_turn w (worlds.Remove range) e = tt
within_in_turn w (worlds.Peek range key) e = tt
within_in_turn w worlds.Restart e = tt
within_in_turn w worlds.Round e = absurd cc

pub part_in_turn : (rules : RaceRules) (node : ℕ) (xs : List Happening) (w : World) → AllMayHappen rules node w xs → AllInTurn w (all_at node xs)
part_in_turn rules node [] w may = tt
part_in_turn rules node (x ∷ xs) w may = (within_in_turn w x may.0.within, part_in_turn rules node xs (happens w (at_node node x)) may.1)

-- and a world that came in turn goes on so
turn_further : (xs ys : Schedule) (w : World) → AllInTurn w xs → AllInTurn (run w xs) ys → AllInTurn w (xs ++ ys)
turn_further [] ys w h k = k
turn_further (x ∷ xs) ys w h k = (h.0, turn_further xs ys (happens w x) h.1 k)

pub turn_later : (w later : World) → CameInTurn w → (l : IsLater w later) → AllInTurn w l.schedule → CameInTurn later
turn_later w later c l turn =
    let first : World = first_world c.nodes in
    record {
      nodes = c.nodes;
      came = record {
        schedule = c.came.schedule ++ l.schedule;
        lawful = lawful_further c.came.schedule l.schedule first c.came.lawful (subst (λ z. AllLawful z l.schedule) (sym c.came.reached) l.lawful);
        reached = run_further c.came.schedule l.schedule first ∙ ap (λ z. run z l.schedule) c.came.reached ∙ l.reached;
      };
      in_turn = turn_further c.came.schedule l.schedule first c.in_turn (subst (λ z. AllInTurn z l.schedule) (sym c.came.reached) turn);
    }

pub turn_first : (nodes : ℕ) → CameInTurn (first_world nodes)
turn_first nodes = record { nodes = nodes; came = record { schedule = []; lawful = tt; reached = refl }; in_turn = tt }
