-- Any list of moves is a list of lawful steps of the range machine; and the payloads that are made of
-- what is proposed behind them may be committed.
use Rattle.std.proofs.Common.{◌≡◌, ℕ, ◌<◌, ◌≤◌, Bool, true, false, cond, leb, inl, ⊎_elim, List, [], ◌∷◌, ◌++◌, map, Option, None, Some, refl, sym, ap, subst, ◌∙◌, arith, leb-true}
use Rattle.std.specs.Prelude.{◌&&◌, filter_map, option_and_then}
use Rattle.std.specs.List.{filter, cons_option, AllByRecursion}
use Rattle.std.specs.Option.{option_map, option_map_or}
use Rattle.std.proofs.lemmas.Bool.{cond_both}
use Rattle.rp_base.specs.declared.ids.CmdId.{CmdId}
use Rattle.rp_base.specs.declared.leases.LeaseAsk.{LeaseAsk}
use Rattle.rp_base.proofs.IdLaws.{same_is, same_itself, apart_not_same, id_cases}
use Rattle.rp_codec.specs.Spelling.{spelling}
use Rattle.rp_codec.proofs.SpellingLaws.{read_as_spelled}
use Rattle.rp_latch.specs.Holds.{is_of_other}
use Rattle.rp_latch.specs.declared.holds.Hold.{Hold}
use Rattle.rp_request.specs.Fits.{FitsAsk, FitsCommand}
use Rattle.rp_request.specs.declared.commands.Payload.{Payload}
use Rattle.rp_request.specs.declared.commands.Payload.TheVariants as payloads
use Rattle.rp_request.specs.declared.outcomes.Outcome.{Outcome}
use Rattle.rp_request.specs.declared.outcomes.Outcome.TheVariants as outcomes
use Rattle.rp_request.specs.declared.outcomes.Refusal.TheVariants.{NotLeaseHolder}
use Rattle.rp_pending.specs.declared.proposals.Proposal.{Proposal}
use Rattle.rp_pending.specs.declared.proposals.Stage as places
use Rattle.rp_pending.specs.declared.proposals.Stage.TheVariants as stages
use Rattle.rp_pending.specs.Proposals.{has_id, proposal_of, with_changed, without, proposed, waiting_again, is_proposed}
use Rattle.rp_pending.specs.Refreshes.{goes_back}
use Rattle.rp_rangesafe.specs.Attempts.{Waiting, Proposed, Refused, Attempt, Attempts, IsAmong, IsOf, staged, handed_out, with_attempt}
use Rattle.rp_rangesafe.specs.World as machine
use Rattle.rp_rangesafe.specs.World.{Event, AllLawful, MayCommit, here}
use Rattle.rp_rangesafe.proofs.Tables.{at_attempt}
use Rattle.rp_rangesafe.proofs.Runs.{lawful_further, run_further}
use Rattle.rp_events.specs.declared.answers.Ended.{Ended}
use Rattle.rp_events.specs.Replicas.{Told, lease_of}
use Rattle.rp_events.specs.declared.moves.Move.{Move}
use Rattle.rp_events.specs.declared.moves.Move.TheVariants.{HandsOut, GivesUp, TakesBack, Repeats}
use Rattle.rp_events.specs.Moves.{hands_out, gives_up, takes_back, repeats, moved, moved_all, then_told, then_is, ended, proposed_under, waits_again, command_of, write_of, payloads_of}
use Rattle.rp_seats.specs.Views.{read, payload_or}
use Rattle.rp_seats.specs.Standing.{HasPlace, TellsPending, TellsOf, PendingOk}
use Rattle.rp_seats.specs.Steps.{AllHappenAt, AdmitsNone, StepsTo, tell, told_after, IsEnd, EndEach, GivesAbove, IsSteps}
use Rattle.rp_seats.proofs.Turns.{move_kept}
use Rattle.rp_pending.proofs.Lookups.{other_without, same_turned, other_turned}
use Rattle.rp_seats.proofs.Proposals.{none_without, distinct_left, held_left, distinct_turned, held_turned}

-- the place of a proposal
waiting_place : (s : places.Stage) (max : ℕ) (a : Attempt) → is_proposed s ≡ false → HasPlace s max a → a.stage ≡ Waiting
waiting_place stages.Waiting max a e h = h
waiting_place stages.Proposed max a e h = absurd cc

pub proposed_place : (s : places.Stage) (max : ℕ) (a : Attempt) → is_proposed s ≡ true → HasPlace s max a → (a.stage ≡ Proposed max) × IsAmong a.maxima max
proposed_place stages.Waiting max a e h = absurd cc
proposed_place stages.Proposed max a e h = h

-- steps behind steps
own_further : (node : ℕ) (h : machine.World) (es fs : List Event) → AllHappenAt node h es → AllHappenAt node (machine.run h es) fs → AllHappenAt node h (es ++ fs)
own_further node h [] fs a b = b
own_further node h (e ∷ es) fs a b = (a.0, own_further node (machine.happens h e) es fs a.1 b)

pub quiet_further : (es fs : List Event) → AdmitsNone es → AdmitsNone fs → AdmitsNone (es ++ fs)
quiet_further [] fs a b = b
quiet_further (machine.Admit id at body ∷ es) fs a b = absurd a
quiet_further (machine.Flush id max ∷ es) fs a b = quiet_further es fs a b
quiet_further (machine.Return id ∷ es) fs a b = quiet_further es fs a b
quiet_further (machine.Refuse id ∷ es) fs a b = quiet_further es fs a b
quiet_further (machine.Commit p ∷ es) fs a b = quiet_further es fs a b
quiet_further (machine.Apply at ∷ es) fs a b = quiet_further es fs a b
quiet_further (machine.Snapshot at to ∷ es) fs a b = quiet_further es fs a b
quiet_further (machine.Remove at ∷ es) fs a b = quiet_further es fs a b
quiet_further (machine.Restart at ∷ es) fs a b = quiet_further es fs a b

pub steps_further : (node : ℕ) (h : machine.World) (f g : Attempts) → StepsTo node h f → StepsTo node (record h { attempt = f }) g → StepsTo node h g
steps_further node h f g a b = record {
  events = a.events ++ b.events;
  lawful = lawful_further h a.events b.events a.lawful (subst (λ z. AllLawful z b.events) (sym a.leads) b.lawful);
  own = own_further node h a.events b.events a.own (subst (λ z. AllHappenAt node z b.events) (sym a.leads) b.own);
  quiet = quiet_further a.events b.events a.quiet b.quiet;
  leads = run_further h a.events b.events ∙ ap (λ z. machine.run z b.events) a.leads ∙ b.leads;
}

-- what is told behind what was told
pub told_further : (told : CmdId → Option Outcome) (xs : List Ended) (e : Ended) → told_after told (xs ++ e ∷ []) ≡ tell (told_after told xs) e
told_further told [] e = refl
told_further told (x ∷ xs) e = told_further (tell told x) xs e

pub end_further : (told : CmdId → Option Outcome) (xs : List Ended) (e : Ended) → EndEach told xs → told_after told xs e.id ≡ Some outcomes.Pending → IsEnd e.outcome
    → EndEach told (xs ++ e ∷ [])
end_further told [] e h pending is = (pending, is, tt)
end_further told (x ∷ xs) e h pending is = (h.0, h.1, end_further (tell told x) xs e h.2 pending is)

module _ (f : Attempts) (node : ℕ) (ps : List Proposal) (latches : List Hold) (told : CmdId → Option Outcome) (ok : PendingOk f node ps latches told) where
  -- the proposal that is found
  pub found_tells : (id : CmdId) (p : Proposal) → proposal_of id ps ≡ Some p → TellsPending node (f id) p (told id)
  found_tells id p e = subst (λ o. TellsOf node (f id) o (told id)) e (ok.tells id)

  module _ (id : CmdId) (g : Proposal → Proposal) (same : (p : Proposal) → (g p).id ≡ p.id) (asks : (p : Proposal) → (g p).request ≡ p.request) (p : Proposal) (found : proposal_of id ps ≡ Some p) where
    changed_tells : (a : Attempt) → TellsPending node a (g p) (told id) → TellsOf node a (proposal_of id (with_changed id g ps)) (told id)
    changed_tells a h = subst (λ o. TellsOf node a o (told id)) (sym (same_turned g same id ps ∙ ap (option_map g) found)) h

    other_tells : (q : CmdId) → (q ≡ id → ⊥) → TellsOf node (f q) (proposal_of q (with_changed id g ps)) (told q)
    other_tells q ne = subst (λ o. TellsOf node (f q) o (told q)) (sym (other_turned g same id q ps ne)) (ok.tells q)

    -- a proposal changes, with its attempt or without it
    pub turn_pending : (a : Attempt) → TellsPending node a (g p) (told id) → PendingOk (with_attempt f id a) node (with_changed id g ps) latches told
    turn_pending a h = record {
      tells = at_attempt (λ q x. TellsOf node x (proposal_of q (with_changed id g ps)) (told q)) f id a (changed_tells a h) other_tells;
      distinct = distinct_turned g same asks id ps ok.distinct;
      held = ok.held ∙ held_turned g same asks id ps;
    }

    pub keep_pending : TellsPending node (f id) (g p) (told id) → PendingOk f node (with_changed id g ps) latches told
    keep_pending h = record {
      tells = λ q. ⊎_elim
          (λ (is : q ≡ id). subst (λ z. TellsOf node (f z) (proposal_of z (with_changed id g ps)) (told z)) (sym is) (changed_tells (f id) h))
          (λ (ne : q ≡ id → ⊥). other_tells q ne)
          (id_cases q id);
      distinct = distinct_turned g same asks id ps ok.distinct;
      held = ok.held ∙ held_turned g same asks id ps;
    }

  -- an attempt ends, and its proposal is gone
  pub drop_pending : (id : CmdId) (a : Attempt) (outcome : Outcome) → TellsOf node a None (Some outcome)
      → PendingOk (with_attempt f id a) node (without id ps) (filter (is_of_other id) latches) (tell told (record { id = id; outcome = outcome }))
  drop_pending id a outcome h = record {
    tells = at_attempt (λ q x. TellsOf node x (proposal_of q (without id ps)) (tell told e q)) f id a
        (subst (λ z. TellsOf node a (proposal_of id (without id ps)) z) (sym (ap (λ b. cond b (Some outcome) (told id)) (same_itself id)))
        (subst (λ o. TellsOf node a o (Some outcome)) (sym (none_without id ps)) h))
        (λ q ne. subst (λ z. TellsOf node (f q) (proposal_of q (without id ps)) z) (sym (ap (λ b. cond b (Some outcome) (told q)) (apart_not_same q id ne)))
        (subst (λ o. TellsOf node (f q) o (told q)) (sym (other_without id q ps ne)) (ok.tells q)));
    distinct = distinct_left id ps ok.distinct;
    held = ap (filter (is_of_other id)) ok.held ∙ held_left id ps;
  }
    where
      e : Ended
      e = record { id = id; outcome = outcome }

both_true : (b c : Bool) → b && c ≡ true → (b ≡ true) × (c ≡ true)
both_true true c e = (refl, e)
both_true false c e = absurd cc

module _ (node : ℕ) (h : machine.World) (told : CmdId → Option Outcome) (ticks round : ℕ) (t : Told)
    (lai : (here h node).lai ≡ t.replica.applied.state.lai)
    (ok : PendingOk h.attempt node t.replica.pending t.replica.latches (told_after told t.ended)) (fin : EndEach told t.ended) where
  pub stay : IsSteps node h told t
  stay = record { attempts = h.attempt; steps = record { events = []; lawful = tt; own = tt; quiet = tt; leads = refl }; pending = ok; ended = fin }

  tells : (id : CmdId) (p : Proposal) → proposal_of id t.replica.pending ≡ Some p → TellsPending node (h.attempt id) p (told_after told t.ended id)
  tells = found_tells h.attempt node t.replica.pending t.replica.latches (told_after told t.ended) ok

  hand_out : (id : CmdId) (max : ℕ) → 0 < max → (o : Option Proposal) → proposal_of id t.replica.pending ≡ o → IsSteps node h told (option_map_or (hands_out ticks round t id max) o t)
  hand_out id max above None e = stay
  hand_out id max above (Some p) e =
      cond_both (is_proposed p.stage) t (then_is t (proposed_under t.replica ticks round id max)) (λ z. IsSteps node h told z) (λ _. stay)
      (λ waits.
      let tp = tells id p e in
      record {
        attempts = with_attempt h.attempt id (handed_out (h.attempt id) max);
        steps = record {
          events = machine.Flush id max ∷ [];
          lawful = ((waiting_place p.stage p.max (h.attempt id) waits tp.place, above), tt);
          own = (sym tp.made_at, tt);
          quiet = tt;
          leads = refl;
        };
        pending = turn_pending h.attempt node t.replica.pending t.replica.latches (told_after told t.ended) ok id (proposed max ticks round) (λ q. refl) (λ q. refl) p e
            (handed_out (h.attempt id) max)
            (record { made_at = tp.made_at; seq = tp.seq; body = tp.body; place = (refl, inl refl); pending = tp.pending });
        ended = fin;
      })

  give_up : (id : CmdId) (o : Option Proposal) → proposal_of id t.replica.pending ≡ o → IsSteps node h told (option_map_or (gives_up t id) o t)
  give_up id None e = stay
  give_up id (Some p) e =
      cond_both (is_proposed p.stage) t (then_told t (ended t.replica id (outcomes.Refused (NotLeaseHolder (lease_of t.replica))))) (λ z. IsSteps node h told z) (λ _. stay)
      (λ waits.
      let tp = tells id p e in
      record {
        attempts = with_attempt h.attempt id (staged (h.attempt id) Refused);
        steps = record {
          events = machine.Refuse id ∷ [];
          lawful = (waiting_place p.stage p.max (h.attempt id) waits tp.place, tt);
          own = (sym tp.made_at, tt);
          quiet = tt;
          leads = refl;
        };
        pending = subst (λ z. PendingOk (with_attempt h.attempt id (staged (h.attempt id) Refused)) node (without id t.replica.pending) (filter (is_of_other id) t.replica.latches) z)
            (sym (told_further told t.ended (record { id = id; outcome = outcomes.Refused (NotLeaseHolder (lease_of t.replica)) })))
            (drop_pending h.attempt node t.replica.pending t.replica.latches (told_after told t.ended) ok id (staged (h.attempt id) Refused) (outcomes.Refused (NotLeaseHolder (lease_of t.replica)))
            (λ born. (NotLeaseHolder (lease_of t.replica), refl)));
        ended = end_further told t.ended (record { id = id; outcome = outcomes.Refused (NotLeaseHolder (lease_of t.replica)) }) fin tp.pending tt;
      })

  take_back : (id : CmdId) (o : Option Proposal) → proposal_of id t.replica.pending ≡ o → IsSteps node h told (option_map_or (takes_back t id) o t)
  take_back id None e = stay
  take_back id (Some p) e =
      cond_both (goes_back t.replica.applied.state.lai p) (then_is t (waits_again t.replica id)) t (λ z. IsSteps node h told z)
      (λ passed.
      let tp = tells id p e in
      let both = both_true (is_proposed p.stage) (leb p.max t.replica.applied.state.lai) passed in
      let below : p.max ≤ (here h node).lai = subst (λ n. p.max ≤ n) (sym lai) (leb-true p.max t.replica.applied.state.lai both.1) in
      record {
        attempts = with_attempt h.attempt id (staged (h.attempt id) Waiting);
        steps = record {
          events = machine.Return id ∷ [];
          lawful = (
            record {
              own = p.max;
              stage = (proposed_place p.stage p.max (h.attempt id) both.0 tp.place).0;
              passed = subst (λ n. p.max ≤ (here h n).lai) (sym tp.made_at) below;
            },
            tt,
          );
          own = (sym tp.made_at, tt);
          quiet = tt;
          leads = refl;
        };
        pending = turn_pending h.attempt node t.replica.pending t.replica.latches (told_after told t.ended) ok id waiting_again (λ q. refl) (λ q. refl) p e
            (staged (h.attempt id) Waiting)
            (record { made_at = tp.made_at; seq = tp.seq; body = tp.body; place = refl; pending = tp.pending });
        ended = fin;
      })
      (λ _. stay)

  repeat : (id : CmdId) (o : Option Proposal) → proposal_of id t.replica.pending ≡ o → IsSteps node h told (option_map_or (repeats ticks round t id) o t)
  repeat id None e = stay
  repeat id (Some p) e =
      cond_both (is_proposed p.stage) (then_is t (proposed_under t.replica ticks round id p.max)) t (λ z. IsSteps node h told z)
      (λ is.
      let tp = tells id p e in
      record {
        attempts = h.attempt;
        steps = record { events = []; lawful = tt; own = tt; quiet = tt; leads = refl };
        pending = keep_pending h.attempt node t.replica.pending t.replica.latches (told_after told t.ended) ok id (proposed p.max ticks round) (λ q. refl) (λ q. refl) p e
            (record { made_at = tp.made_at; seq = tp.seq; body = tp.body; place = proposed_place p.stage p.max (h.attempt id) is tp.place; pending = tp.pending });
        ended = fin;
      })
      (λ _. stay)

  pub one_move : (m : Move) → GivesAbove (m ∷ []) → IsSteps node h told (moved ticks round t m)
  one_move (HandsOut id max) above = hand_out id max above.0 (proposal_of id t.replica.pending) refl
  one_move (GivesUp id) above = give_up id (proposal_of id t.replica.pending) refl
  one_move (TakesBack id) above = take_back id (proposal_of id t.replica.pending) refl
  one_move (Repeats id) above = repeat id (proposal_of id t.replica.pending) refl

gives_first : (m : Move) (ms : List Move) → GivesAbove (m ∷ ms) → GivesAbove (m ∷ [])
gives_first (HandsOut id max) ms above = (above.0, tt)
gives_first (GivesUp id) ms above = tt
gives_first (TakesBack id) ms above = tt
gives_first (Repeats id) ms above = tt

gives_rest : (m : Move) (ms : List Move) → GivesAbove (m ∷ ms) → GivesAbove ms
gives_rest (HandsOut id max) ms above = above.1
gives_rest (GivesUp id) ms above = above
gives_rest (TakesBack id) ms above = above
gives_rest (Repeats id) ms above = above

pub moves_steps : (node : ℕ) (h : machine.World) (told : CmdId → Option Outcome) (ticks round : ℕ) (t : Told) (ms : List Move) → GivesAbove ms
    → (here h node).lai ≡ t.replica.applied.state.lai → PendingOk h.attempt node t.replica.pending t.replica.latches (told_after told t.ended)
    → EndEach told t.ended → IsSteps node h told (moved_all ticks round t ms)
moves_steps node h told ticks round t [] above lai ok fin = stay node h told ticks round t lai ok fin
moves_steps node h told ticks round t (m ∷ ms) above lai ok fin =
    let one = one_move node h told ticks round t lai ok fin m (gives_first m ms above) in
    let rest = moves_steps node (record h { attempt = one.attempts }) told ticks round (moved ticks round t m) ms (gives_rest m ms above)
    (lai ∙ sym (ap (λ z. z.state.lai) (move_kept ticks round t m))) one.pending one.ended in
    record {
      attempts = rest.attempts;
      steps = steps_further node h one.attempts rest.attempts one.steps rest.steps;
      pending = rest.pending;
      ended = rest.ended;
    }

-- the proposal that is found has the id
found_id : (id : CmdId) (ps : List Proposal) (p : Proposal) → proposal_of id ps ≡ Some p → id ≡ p.id
found_id id [] p e = absurd cc
found_id id (x ∷ ps) p e = go (found_id id ps p) (has_id id x) refl e where
  some_is : (a b : Proposal) → ◌≡◌ {A = Option Proposal} (Some a) (Some b) → a ≡ b
  some_is a b e = cc

  go : (proposal_of id ps ≡ Some p → id ≡ p.id) → (b : Bool) → has_id id x ≡ b → cond b (Some x) (proposal_of id ps) ≡ Some p → id ≡ p.id
  go ih true is e' = same_is id x.id is ∙ ap (λ (z : Proposal). z.id) (some_is x p e')
  go ih false is e' = ih e'

-- what may be committed
module _ (node : ℕ) (h : machine.World) (ps : List Proposal) (latches : List Hold) (told : CmdId → Option Outcome) (ok : PendingOk h.attempt node ps latches told)
    (fits : (id : CmdId) (p : Proposal) → proposal_of id ps ≡ Some p → FitsCommand (command_of p)) where
  abbrev May : List ℕ → Type 0
  May bytes = MayCommit h (read bytes)

  write_may : (id : CmdId) (p : Proposal) → proposal_of id ps ≡ Some p → is_proposed p.stage ≡ true → May (spelling (payloads.Write (command_of p)))
  write_may id p e is =
      let tp = found_tells h.attempt node ps latches told ok id p e in
      let of : IsOf (h.attempt id) (command_of p) = record {
        seq = sym tp.seq;
        request = sym (ap (λ b. b.request) tp.body);
        batch = sym (ap (λ b. b.batch) tp.body);
        reply = sym (ap (λ b. b.reply) tp.body);
        max = (proposed_place p.stage p.max (h.attempt id) is tp.place).1;
      } in
      subst (MayCommit h) (sym (ap payload_or (read_as_spelled (payloads.Write (command_of p)) (fits id p e))))
      (subst (λ q. IsOf (h.attempt q) (command_of p)) (found_id id ps p e) of)

  ids_may : (ids : List CmdId) → AllByRecursion May (map spelling (filter_map (λ id. option_and_then write_of (proposal_of id ps)) ids))
  ids_may [] = tt
  ids_may (id ∷ ids) = go (proposal_of id ps) refl (ids_may ids) where
    rest : List Payload
    rest = filter_map (λ q. option_and_then write_of (proposal_of q ps)) ids

    go : (o : Option Proposal) → proposal_of id ps ≡ o → AllByRecursion May (map spelling rest) → AllByRecursion May (map spelling (cons_option (option_and_then write_of o) rest))
    go None e ih = ih
    go (Some p) e ih =
        cond_both (is_proposed p.stage) (Some (payloads.Write (command_of p))) None (λ o. AllByRecursion May (map spelling (cons_option o rest)))
        (λ is. (write_may id p e is, ih)) (λ _. ih)

  pub bytes_may : (asks : List LeaseAsk) → AllByRecursion FitsAsk asks → (ids : List CmdId) → AllByRecursion May (map spelling (payloads_of asks ps ids))
  bytes_may [] all ids = ids_may ids
  bytes_may (ask ∷ asks) all ids = (
    subst (MayCommit h) (sym (ap payload_or (read_as_spelled (payloads.Lease ask) all.0))) (omega (arith, all.0.from_one)),
    bytes_may asks all.1 ids,
  )
