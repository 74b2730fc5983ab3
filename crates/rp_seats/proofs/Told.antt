-- What the proposer makes of an application is what the machine makes of its attempt.
use Rattle.std.proofs.Common.{◌≡◌, ℕ, Bool, true, false, cond, Option, None, Some, refl, sym, ap, subst, ◌∙◌, eqb-true, eq-eqb}
use Rattle.std.specs.Prelude.{◌&&◌, ◌==◌}
use Rattle.std.specs.List.{filter}
use Rattle.std.specs.Option.{option_map_or}
use Rattle.std.proofs.lemmas.Bool.{cond_both}
use Rattle.rp_base.specs.declared.ids.CmdId.{CmdId}
use Rattle.rp_latch.specs.Holds.{is_of_other}
use Rattle.rp_request.specs.Applied.{command_verdict}
use Rattle.rp_request.specs.declared.commands.Command.{Command}
use Rattle.rp_request.specs.declared.commands.Payload.{Payload}
use Rattle.rp_request.specs.declared.commands.Payload.TheVariants as payloads
use Rattle.rp_request.specs.declared.outcomes.Outcome.{Outcome}
use Rattle.rp_request.specs.declared.outcomes.Outcome.TheVariants as outcomes
use Rattle.rp_request.specs.declared.outcomes.Refusal.TheVariants.{NotLeaseHolder}
use Rattle.rp_request.specs.declared.verdicts.Verdict.{Verdict}
use Rattle.rp_request.specs.declared.verdicts.Verdict.TheVariants as verdicts
use Rattle.rp_pending.specs.declared.proposals.Proposal.{Proposal}
use Rattle.rp_pending.specs.declared.proposals.Stage as places
use Rattle.rp_pending.specs.declared.proposals.Stage.TheVariants as stages
use Rattle.rp_pending.specs.Proposals.{proposal_of, without, waiting_again, is_proposed}
use Rattle.rp_rangesafe.specs.Attempts.{Stage, Unborn, Waiting, Proposed, Success, Refused, Overtaken, Removed, Restarted, Attempt, Attempts, IsBorn, IsAmong, staged, with_attempt, at_node}
use Rattle.rp_rangesafe.specs.World.{told, by_verdict, after_entry}
use Rattle.rp_rangesafe.proofs.Tables.{at_attempt, at_nodes}
use Rattle.rp_events.specs.Replicas.{Replica, Told, untold, lease_of}
use Rattle.rp_events.specs.Applications.{is_own, settled, proposer_told}
use Rattle.rp_seats.specs.Standing.{HasPlace, TellsPending, IsToldAs, TellsOf, PendingOk}
use Rattle.rp_seats.specs.Steps.{tell, told_after}
use Rattle.rp_seats.proofs.Moves.{proposed_place, found_tells, turn_pending, drop_pending}

-- the attempt of a node's own entry
own_attempt : (f : Attempts) (node : ℕ) (g : Stage → Stage) (id : CmdId) → (f id).node ≡ node → at_node node g f id ≡ staged (f id) (g (f id).stage)
own_attempt f node g id at = at_nodes (λ q a. (f q).node ≡ node → a ≡ staged (f q) (g (f q).stage)) node g f (λ q is k. refl) (λ q ne k. absurd (ne k)) id at

other_attempt : (f : Attempts) (node : ℕ) (g : Stage → Stage) (id : CmdId) → ((f id).node ≡ node → ⊥) → at_node node g f id ≡ f id
other_attempt f node g id ne = at_nodes (λ q a. ((f q).node ≡ node → ⊥) → a ≡ f q) node g f (λ q is k. absurd (k is)) (λ q n k. refl) id ne

-- an ended attempt, and one that was not made, is told nothing
told_ended : (c : Command) (v : Verdict) (s : Stage) (o : Option Outcome) → IsToldAs s o → told c v s ≡ s
told_ended c v Unborn o h = absurd h
told_ended c v Waiting o h = absurd h
told_ended c v (Proposed own) o h = absurd h
told_ended c v (Success reply) o h = refl
told_ended c v Refused o h = refl
told_ended c v (Overtaken own passed) o h = refl
told_ended c v (Removed own) o h = refl
told_ended c v (Restarted own) o h = refl

told_born : (c : Command) (v : Verdict) (s : Stage) → IsBorn (told c v s) → IsBorn s
told_born c v Unborn b = b
told_born c v Waiting b = tt
told_born c v (Proposed own) b = tt
told_born c v (Success reply) b = tt
told_born c v Refused b = tt
told_born c v (Overtaken own passed) b = tt
told_born c v (Removed own) b = tt
told_born c v (Restarted own) b = tt

module _ (f : Attempts) (node : ℕ) (r : Replica) (before : CmdId → Option Outcome) (ok : PendingOk f node r.pending r.latches before) (c : Command) where
  abbrev v : Verdict
  v = command_verdict r.applied.state c

  abbrev now : Attempt
  now = at_node node (told c v) f c.id

  abbrev Goal : Told → Type 0
  Goal t = PendingOk (with_attempt f c.id now) node t.replica.pending t.replica.latches (told_after before t.ended)

  -- where the attempt tells the same, all does
  same_tells : TellsOf node now (proposal_of c.id r.pending) (before c.id) → Goal (untold r)
  same_tells h = record {
    tells = at_attempt (λ q a. TellsOf node a (proposal_of q r.pending) (before q)) f c.id now h (λ q ne. ok.tells q);
    distinct = ok.distinct;
    held = ok.held;
  }

  -- an entry that is not its own: another maximum, or no proposal
  other_place : (p : Proposal) (s : places.Stage) → HasPlace s p.max (f c.id) → is_proposed s && (p.max == c.max) ≡ false → HasPlace s p.max (staged (f c.id) (told c v (f c.id).stage))
  other_place p stages.Waiting h e = ap (told c v) h
  other_place p stages.Proposed h e = (ap (told c v) h.0 ∙ ap (λ b. cond b (by_verdict c v) (Proposed p.max)) e, h.1)

  not_own : (o : Option Proposal) → proposal_of c.id r.pending ≡ o → option_map_or (λ (p : Proposal). is_proposed p.stage && p.max == c.max) o false ≡ false → TellsOf node now o (before c.id)
  not_own None found e = λ born. at_nodes
      (λ q a. (IsBorn (f q).stage × ((f q).node ≡ node) → IsToldAs (f q).stage (before q)) → IsBorn a.stage × (a.node ≡ node) → IsToldAs a.stage (before q)) node (told c v) f
      (λ q at h b. let t = h (told_born c v (f q).stage b.0, at) in subst (λ s. IsToldAs s (before q)) (sym (told_ended c v (f q).stage (before q) t)) t)
      (λ q ne h b. h b) c.id
      (subst (λ o. TellsOf node (f c.id) o (before c.id)) found (ok.tells c.id)) born
  not_own (Some p) found e =
      let tp = found_tells f node r.pending r.latches before ok c.id p found in
      subst (λ a. TellsPending node a p (before c.id)) (sym (own_attempt f node (told c v) c.id tp.made_at))
      (record { made_at = tp.made_at; seq = tp.seq; body = tp.body; place = other_place p p.stage tp.place e; pending = tp.pending })

  -- its own entry
  module _ (p : Proposal) (found : proposal_of c.id r.pending ≡ Some p) (proposed : is_proposed p.stage ≡ true) (max : p.max ≡ c.max) where
    tp : TellsPending node (f c.id) p (before c.id)
    tp = found_tells f node r.pending r.latches before ok c.id p found

    own_place : ((f c.id).stage ≡ Proposed p.max) × IsAmong (f c.id).maxima p.max
    own_place = proposed_place p.stage p.max (f c.id) proposed tp.place

    now_is : now ≡ staged (f c.id) (by_verdict c v)
    now_is = own_attempt f node (told c v) c.id tp.made_at
        ∙ ap (staged (f c.id)) (ap (told c v) own_place.0 ∙ ap (λ b. cond b (by_verdict c v) (Proposed p.max)) (eq-eqb p.max c.max max))

    now_by : (w : Verdict) → v ≡ w → now ≡ staged (f c.id) (by_verdict c w)
    now_by w is = now_is ∙ ap (λ z. staged (f c.id) (by_verdict c z)) is

    stays_proposed : now ≡ staged (f c.id) (Proposed c.max) → Goal (untold r)
    stays_proposed is = same_tells (subst (λ o. TellsOf node now o (before c.id)) (sym found) (subst (λ a. TellsPending node a p (before c.id)) (sym is)
        (record { made_at = tp.made_at; seq = tp.seq; body = tp.body; place = place p.stage proposed; pending = tp.pending })))
      where
        place : (s : places.Stage) → is_proposed s ≡ true → HasPlace s p.max (staged (f c.id) (Proposed c.max))
        place stages.Waiting e = absurd cc
        place stages.Proposed e = (ap Proposed (sym max), own_place.1)

    ends : (outcome : Outcome) → IsToldAs now.stage (Some outcome) → PendingOk (with_attempt f c.id now) node (without c.id r.pending) (filter (is_of_other c.id) r.latches) (tell before (record { id = c.id; outcome = outcome }))
    ends outcome h = drop_pending f node r.pending r.latches before ok c.id now outcome (λ born. h)

    own_settled : (w : Verdict) → v ≡ w → Goal (settled r c w)
    own_settled verdicts.Took is = ends (outcomes.Success c.reply) (subst (λ a. IsToldAs a.stage (Some (outcomes.Success c.reply))) (sym (now_by verdicts.Took is)) refl)
    own_settled (verdicts.OldLease seq) is = ends (outcomes.Refused (NotLeaseHolder (lease_of r)))
        (subst (λ a. IsToldAs a.stage (Some (outcomes.Refused (NotLeaseHolder (lease_of r))))) (sym (now_by (verdicts.OldLease seq) is)) (NotLeaseHolder (lease_of r), refl))
    own_settled (verdicts.OldIndex lai) is =
        turn_pending f node r.pending r.latches before ok c.id waiting_again (λ q. refl) (λ q. refl) p found now
        (subst (λ a. TellsPending node a (waiting_again p) (before c.id)) (sym (now_by (verdicts.OldIndex lai) is))
        (record { made_at = tp.made_at; seq = tp.seq; body = tp.body; place = refl; pending = tp.pending }))
    own_settled verdicts.LeaseMoved is = stays_proposed (now_by verdicts.LeaseMoved is)
    own_settled verdicts.Nothing is = stays_proposed (now_by verdicts.Nothing is)

  both_true : (b d : Bool) → b && d ≡ true → (b ≡ true) × (d ≡ true)
  both_true true d e = (refl, e)
  both_true false d e = absurd cc

  write_told : Goal (cond (is_own r c) (settled r c v) (untold r))
  write_told = by_found (proposal_of c.id r.pending) refl where
    by_found : (o : Option Proposal) → proposal_of c.id r.pending ≡ o
        → Goal (cond (option_map_or (λ (p : Proposal). is_proposed p.stage && p.max == c.max) o false) (settled r c v) (untold r))
    by_found None found = same_tells (subst (λ z. TellsOf node now z (before c.id)) (sym found) (not_own None found refl))
    by_found (Some p) found =
        cond_both (is_proposed p.stage && p.max == c.max) (settled r c v) (untold r) Goal
        (λ e. let b = both_true (is_proposed p.stage) (p.max == c.max) e in own_settled p found b.0 (eqb-true p.max c.max b.1) v refl)
        (λ e. same_tells (subst (λ z. TellsOf node now z (before c.id)) (sym found) (not_own (Some p) found e)))

-- what is told at an application
pub proposer_beside : (f : Attempts) (node : ℕ) (r : Replica) (before : CmdId → Option Outcome) → PendingOk f node r.pending r.latches before → (p : Payload)
    → PendingOk (after_entry node r.applied.state p f) node (proposer_told r p).replica.pending (proposer_told r p).replica.latches (told_after before (proposer_told r p).ended)
proposer_beside f node r before ok payloads.Nothing = ok
proposer_beside f node r before ok (payloads.Write c) = write_told f node r before ok c
proposer_beside f node r before ok (payloads.Lease ask) = ok
