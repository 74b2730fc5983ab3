-- A snapshot, a removal and a restart end proposals as the machine's stage maps end their attempts.
use Rattle.std.proofs.Common.{◌≡◌, ℕ, Bool, true, false, cond, leb, not, ◌⊎◌, inl, inr, ⊎_elim, List, [], ◌∷◌, map, Option, None, Some, refl, sym, ap, subst, ◌∙◌}
use Rattle.std.specs.Prelude.{filter_map, is_none, ◌&&◌, ◌||◌}
use Rattle.std.specs.List.{filter, list_any, cons_option, AllByRecursion}
use Rattle.std.specs.Option.{option_map}
use Rattle.std.proofs.lemmas.Bool.{cond_both}
use Rattle.rp_base.specs.declared.ids.CmdId.{CmdId}
use Rattle.rp_base.specs.declared.leases.Lease.{Lease}
use Rattle.rp_base.specs.Ids.{same_id}
use Rattle.rp_base.proofs.IdLaws.{same_is, same_itself, apart_not_same}
use Rattle.rp_latch.specs.declared.holds.Hold.{Hold}
use Rattle.rp_request.specs.declared.outcomes.Outcome.{Outcome}
use Rattle.rp_request.specs.declared.outcomes.Outcome.TheVariants as outcomes
use Rattle.rp_request.specs.declared.outcomes.Ambiguity.TheVariants as causes
use Rattle.rp_request.specs.declared.outcomes.Refusal.TheVariants.{NoReplica, NotLeaseHolder}
use Rattle.rp_pending.specs.declared.proposals.Proposal.{Proposal}
use Rattle.rp_pending.specs.declared.proposals.Stage as places
use Rattle.rp_pending.specs.declared.proposals.Stage.TheVariants as stages
use Rattle.rp_pending.specs.Proposals.{has_id, proposal_of, is_proposed}
use Rattle.rp_rangesafe.specs.Attempts.{Stage, Unborn, Waiting, Proposed, Success, Refused, Overtaken, Removed, Restarted, Attempt, Attempts, IsBorn, staged, at_node}
use Rattle.rp_rangesafe.specs.World.{overtaken, removed, restarted}
use Rattle.rp_rangesafe.proofs.Tables.{at_nodes}
use Rattle.rp_events.specs.declared.answers.Ended.{Ended}
use Rattle.rp_events.specs.Ends.{end_of, held_by_others, overtaken_by, removed_with, lost_under}
use Rattle.rp_seats.specs.Standing.{hold_of, HasPlace, IsToldAs, TellsOf, HasNone, AreDistinct, PendingOk}
use Rattle.rp_seats.specs.Steps.{tell, told_after, EndsSo, EndsAs}

module _ (ends : Proposal → Option Outcome) where
  abbrev left : List Proposal → List Proposal
  left ps = filter (λ p. is_none (ends p)) ps

  abbrev over : List Proposal → List Ended
  over ps = filter_map (end_of ends) ps

  -- what is found, what is told and whether one ended, by what was found before
  abbrev find_by : Option Outcome → Proposal → Option Proposal
  find_by o p = cond (is_none o) (Some p) None

  abbrev found_after : Option Proposal → Option Proposal
  found_after None = None
  found_after (Some p) = find_by (ends p) p

  abbrev tell_by : Option Outcome → Option Outcome → Option Outcome
  tell_by None told = told
  tell_by (Some o) told = Some o

  abbrev told_by : Option Proposal → Option Outcome → Option Outcome
  told_by None told = told
  told_by (Some p) told = tell_by (ends p) told

  abbrev ended_by : Option Proposal → Bool
  ended_by None = false
  ended_by (Some p) = not (is_none (ends p))

  abbrev has_end : CmdId → List Ended → Bool
  has_end id es = list_any (λ e. same_id id e.id) es

  -- no proposal of the id
  none_found : (id : CmdId) (ps : List Proposal) → HasNone id ps → proposal_of id ps ≡ None
  none_found id [] h = refl
  none_found id (p ∷ ps) h = ap (λ b. cond b (Some p) (proposal_of id ps)) (apart_not_same id p.id h.0) ∙ none_found id ps h.1

  record Answers (id : CmdId) (ps : List Proposal) : Type 0 where
    found : proposal_of id (left ps) ≡ found_after (proposal_of id ps)
    told : (told : CmdId → Option Outcome) → told_after told (over ps) id ≡ told_by (proposal_of id ps) (told id)
    any : has_end id (over ps) ≡ ended_by (proposal_of id ps)

  answers : (id : CmdId) (ps : List Proposal) → AreDistinct ps → Answers id ps
  answers id [] d = record { found = refl; told = λ told. refl; any = refl }
  answers id (p ∷ ps) d = go (has_id id p) (ends p) refl refl (answers id ps d.1) where
    here : has_id id p ≡ true → proposal_of id ps ≡ None
    here is = none_found id ps (subst (λ z. HasNone z ps) (sym (same_is id p.id is)) d.0)

    e : Outcome → Ended
    e o = record { id = p.id; outcome = o }

    Goal : Option Outcome → Bool → Type 0
    Goal x b =
        (proposal_of id (cond (is_none x) (p ∷ left ps) (left ps)) ≡ found_after (cond b (Some p) (proposal_of id ps)))
        × ((told : CmdId → Option Outcome) → told_after told (cons_option (option_map e x) (over ps)) id ≡ told_by (cond b (Some p) (proposal_of id ps)) (told id))
        × (has_end id (cons_option (option_map e x) (over ps)) ≡ ended_by (cond b (Some p) (proposal_of id ps)))

    goal : (b : Bool) (x : Option Outcome) → has_id id p ≡ b → ends p ≡ x → Answers id ps → Goal x b
    goal true None is en ih = (
      ap (λ z. cond z (Some p) (proposal_of id (left ps))) is ∙ ap (λ z. find_by z p) (sym en),
      (λ told. ih.told told ∙ ap (λ o. told_by o (told id)) (here is) ∙ ap (λ z. tell_by z (told id)) (sym en)),
      ih.any ∙ ap ended_by (here is) ∙ ap (λ z. not (is_none z)) (sym en),
    )
    goal true (Some o) is en ih = (
      ih.found ∙ ap found_after (here is) ∙ ap (λ z. find_by z p) (sym en),
      (λ told. ih.told (tell told (e o)) ∙ ap (λ z. told_by z (tell told (e o) id)) (here is)
          ∙ ap (λ z. cond z (Some o) (told id)) is ∙ ap (λ z. tell_by z (told id)) (sym en)),
      ap (λ z. z || has_end id (over ps)) is ∙ ap (λ z. not (is_none z)) (sym en),
    )
    goal false None is en ih = (
      ap (λ z. cond z (Some p) (proposal_of id (left ps))) is ∙ ih.found,
      ih.told,
      ih.any,
    )
    goal false (Some o) is en ih = (
      ih.found,
      (λ told. ih.told (tell told (e o)) ∙ ap (λ z. told_by (proposal_of id ps) (cond z (Some o) (told id))) is),
      ap (λ z. z || has_end id (over ps)) is ∙ ih.any,
    )

    go : (b : Bool) (x : Option Outcome) → has_id id p ≡ b → ends p ≡ x → Answers id ps → Answers id (p ∷ ps)
    go b x is en ih =
        let g = subst (λ z. Goal z (has_id id p)) (sym en) (subst (λ z. Goal x z) (sym is) (goal b x is en ih)) in
        record { found = g.0; told = g.1; any = g.2 }

  -- those that are left are distinct
  none_left : (id : CmdId) (ps : List Proposal) → HasNone id ps → HasNone id (left ps)
  none_left id [] h = tt
  none_left id (p ∷ ps) h = cond_both (is_none (ends p)) (p ∷ left ps) (left ps) (λ z. HasNone id z) (λ _. (h.0, none_left id ps h.1)) (λ _. none_left id ps h.1)

  distinct_left : (ps : List Proposal) → AreDistinct ps → AreDistinct (left ps)
  distinct_left [] d = tt
  distinct_left (p ∷ ps) d = cond_both (is_none (ends p)) (p ∷ left ps) (left ps) AreDistinct (λ _. (none_left p.id ps d.0, distinct_left ps d.1)) (λ _. distinct_left ps d.1)

  -- each one of the list is found
  abbrev pub AllFound : List Proposal → List Proposal → Type 0
  AllFound whole qs = AllByRecursion (λ p. proposal_of p.id whole ≡ Some p) qs

  found_behind : (p : Proposal) (whole qs : List Proposal) → HasNone p.id qs → AllFound whole qs → AllFound (p ∷ whole) qs
  found_behind p whole [] h f = tt
  found_behind p whole (q ∷ qs) h f =
      (ap (λ b. cond b (Some p) (proposal_of q.id whole)) (apart_not_same q.id p.id (λ s. h.0 (sym s))) ∙ f.0, found_behind p whole qs h.1 f.1)

  pub all_found : (ps : List Proposal) → AreDistinct ps → AllFound ps ps
  all_found [] d = tt
  all_found (p ∷ ps) d = (ap (λ b. cond b (Some p) (proposal_of p.id ps)) (same_itself p.id), found_behind p ps ps d.0 (all_found ps d.1))

  -- the latches of those that are left
  left_held : (es : List Ended) (qs : List Proposal) → AllByRecursion (λ p. has_end p.id es ≡ not (is_none (ends p))) qs
      → held_by_others es (map hold_of qs) ≡ map hold_of (left qs)
  left_held es [] h = refl
  left_held es (p ∷ qs) h =
      ap (λ b. cond (not b) (hold_of p ∷ held_by_others es (map hold_of qs)) (held_by_others es (map hold_of qs))) h.0
      ∙ go (is_none (ends p)) (left_held es qs h.1)
    where
      go : (b : Bool) → held_by_others es (map hold_of qs) ≡ map hold_of (left qs)
          → cond (not (not b)) (hold_of p ∷ held_by_others es (map hold_of qs)) (held_by_others es (map hold_of qs)) ≡ map hold_of (cond b (p ∷ left qs) (left qs))
      go true e = ap (λ hs. hold_of p ∷ hs) e
      go false e = e

  all_ended : (whole : List Proposal) → AreDistinct whole → (qs : List Proposal) → AllFound whole qs → AllByRecursion (λ p. has_end p.id (over whole) ≡ not (is_none (ends p))) qs
  all_ended whole d [] f = tt
  all_ended whole d (q ∷ qs) f = ((answers q.id whole d).any ∙ ap ended_by f.0, all_ended whole d qs f.1)

  -- the attempts end so too
  born_or : (s : Stage) → (s ≡ Unborn) ⊎ IsBorn s
  born_or Unborn = inl refl
  born_or Waiting = inr tt
  born_or (Proposed own) = inr tt
  born_or (Success reply) = inr tt
  born_or Refused = inr tt
  born_or (Overtaken own passed) = inr tt
  born_or (Removed own) = inr tt
  born_or (Restarted own) = inr tt

  module _ (change : Stage → Stage) (so : EndsAs ends change) (node : ℕ) where
    abbrev turned : Attempt → Attempt
    turned a = staged a (change a.stage)

    ended_tells : (a : Attempt) → a.node ≡ node → (o : Option Proposal) (told : Option Outcome) → TellsOf node a o told → TellsOf node (turned a) (found_after o) (told_by o told)
    ended_tells a at None told h = λ born. ⊎_elim
        (λ (un : a.stage ≡ Unborn). absurd (subst IsBorn (ap change un ∙ so.unborn) born.0))
        (λ (is : IsBorn a.stage). let t = h (is, at) in subst (λ s. IsToldAs s told) (sym (so.closed a.stage told t)) t)
        (born_or a.stage)
    ended_tells a at (Some p) told h = go (ends p) (so.each p a h.place) where
      go : (x : Option Outcome) → EndsSo change p a x → TellsOf node (turned a) (find_by x p) (tell_by x told)
      go None same = record {
        made_at = h.made_at;
        seq = h.seq;
        body = h.body;
        place = moved p.stage h.place;
        pending = h.pending;
      }
        where
          moved : (s : places.Stage) → HasPlace s p.max a → HasPlace s p.max (turned a)
          moved stages.Waiting place = same ∙ place
          moved stages.Proposed place = (same ∙ place.0, place.1)
      go (Some o) as_told = λ born. as_told

    other_tells : (a : Attempt) → (a.node ≡ node → ⊥) → (o : Option Proposal) (told : Option Outcome) → TellsOf node a o told → TellsOf node a (found_after o) (told_by o told)
    other_tells a ne None told h = h
    other_tells a ne (Some p) told h = absurd (ne h.made_at)

    pub ends_beside : (f : Attempts) (ps : List Proposal) (latches : List Hold) (told : CmdId → Option Outcome) → PendingOk f node ps latches told
        → PendingOk (at_node node change f) node (left ps) (held_by_others (over ps) latches) (told_after told (over ps))
    ends_beside f ps latches told ok = record {
      tells = λ id. subst (λ o. TellsOf node (at_node node change f id) o (told_after told (over ps) id)) (sym (answers id ps ok.distinct).found)
          (subst (λ t. TellsOf node (at_node node change f id) (found_after (proposal_of id ps)) t) (sym ((answers id ps ok.distinct).told told))
          (at_nodes (λ q a. TellsOf node a (found_after (proposal_of q ps)) (told_by (proposal_of q ps) (told q))) node change f
          (λ q at. ended_tells (f q) at (proposal_of q ps) (told q) (ok.tells q))
          (λ q ne. other_tells (f q) ne (proposal_of q ps) (told q) (ok.tells q)) id));
      distinct = distinct_left ps ok.distinct;
      held = ap (held_by_others (over ps)) ok.held ∙ left_held (over ps) ps (all_ended ps ok.distinct ps (all_found ps ok.distinct));
    }

-- the three ends
stays_ended : (s : Stage) (told : Option Outcome) (lai : ℕ) → IsToldAs s told → overtaken lai s ≡ s
stays_ended Unborn told lai h = absurd h
stays_ended Waiting told lai h = absurd h
stays_ended (Proposed own) told lai h = absurd h
stays_ended (Success reply) told lai h = refl
stays_ended Refused told lai h = refl
stays_ended (Overtaken own passed) told lai h = refl
stays_ended (Removed own) told lai h = refl
stays_ended (Restarted own) told lai h = refl

stays_removed : (s : Stage) (told : Option Outcome) → IsToldAs s told → removed s ≡ s
stays_removed Unborn told h = absurd h
stays_removed Waiting told h = absurd h
stays_removed (Proposed own) told h = absurd h
stays_removed (Success reply) told h = refl
stays_removed Refused told h = refl
stays_removed (Overtaken own passed) told h = refl
stays_removed (Removed own) told h = refl
stays_removed (Restarted own) told h = refl

stays_restarted : (s : Stage) (told : Option Outcome) → IsToldAs s told → restarted s ≡ s
stays_restarted Unborn told h = absurd h
stays_restarted Waiting told h = absurd h
stays_restarted (Proposed own) told h = absurd h
stays_restarted (Success reply) told h = refl
stays_restarted Refused told h = refl
stays_restarted (Overtaken own passed) told h = refl
stays_restarted (Removed own) told h = refl
stays_restarted (Restarted own) told h = refl

abbrev pub overtook : ℕ → Proposal → Option Outcome
overtook lai p = Some (outcomes.Ambiguous (causes.Snapshot p.max lai))

pub snapshot_ends : (lai : ℕ) → EndsAs (overtaken_by lai) (overtaken lai)
snapshot_ends lai = record { each = λ p a place. by_place p a p.stage refl place; closed = λ s told h. stays_ended s told lai h; unborn = refl } where
  by_place : (p : Proposal) (a : Attempt) (s : places.Stage) → p.stage ≡ s → HasPlace s p.max a → EndsSo (overtaken lai) p a (overtaken_by lai p)
  by_place p a stages.Waiting is place =
      subst (λ x. EndsSo (overtaken lai) p a (cond (is_proposed x && leb p.max lai) (overtook lai p) None)) (sym is) (ap (overtaken lai) place ∙ sym place)
  by_place p a stages.Proposed is place =
      subst (λ x. EndsSo (overtaken lai) p a (cond (is_proposed x && leb p.max lai) (overtook lai p) None)) (sym is)
      (cond_both (leb p.max lai) (overtook lai p) None (λ z. EndsSo (overtaken lai) p a z)
      (λ e. subst (λ s. IsToldAs s (overtook lai p)) (sym (ap (overtaken lai) place.0 ∙ ap (λ b. cond b (Overtaken p.max lai) (Proposed p.max)) e)) refl)
      (λ e. ap (overtaken lai) place.0 ∙ ap (λ b. cond b (Overtaken p.max lai) (Proposed p.max)) e ∙ sym place.0))

pub removal_ends : EndsAs removed_with removed
removal_ends = record { each = λ p a place. by_place p a p.stage refl place; closed = stays_removed; unborn = refl } where
  by_place : (p : Proposal) (a : Attempt) (s : places.Stage) → p.stage ≡ s → HasPlace s p.max a → EndsSo removed p a (removed_with p)
  by_place p a stages.Waiting is place =
      subst (λ x. EndsSo removed p a (cond (is_proposed x) (Some (outcomes.Ambiguous (causes.Removed p.max))) (Some (outcomes.Refused NoReplica)))) (sym is)
      (subst (λ s. IsToldAs s (Some (outcomes.Refused NoReplica))) (sym (ap removed place)) (NoReplica, refl))
  by_place p a stages.Proposed is place =
      subst (λ x. EndsSo removed p a (cond (is_proposed x) (Some (outcomes.Ambiguous (causes.Removed p.max))) (Some (outcomes.Refused NoReplica)))) (sym is)
      (subst (λ s. IsToldAs s (Some (outcomes.Ambiguous (causes.Removed p.max)))) (sym (ap removed place.0)) refl)

pub restart_ends : (lease : Lease) → EndsAs (lost_under lease) restarted
restart_ends lease = record { each = λ p a place. by_place p a p.stage refl place; closed = stays_restarted; unborn = refl } where
  by_place : (p : Proposal) (a : Attempt) (s : places.Stage) → p.stage ≡ s → HasPlace s p.max a → EndsSo restarted p a (lost_under lease p)
  by_place p a stages.Waiting is place =
      subst (λ x. EndsSo restarted p a (cond (is_proposed x) (Some (outcomes.Ambiguous (causes.Restarted p.max))) (Some (outcomes.Refused (NotLeaseHolder lease))))) (sym is)
      (subst (λ s. IsToldAs s (Some (outcomes.Refused (NotLeaseHolder lease)))) (sym (ap restarted place)) (NotLeaseHolder lease, refl))
  by_place p a stages.Proposed is place =
      subst (λ x. EndsSo restarted p a (cond (is_proposed x) (Some (outcomes.Ambiguous (causes.Restarted p.max))) (Some (outcomes.Refused (NotLeaseHolder lease))))) (sym is)
      (subst (λ s. IsToldAs s (Some (outcomes.Ambiguous (causes.Restarted p.max)))) (sym (ap restarted place.0)) refl)

-- a removal and a restart end all
pub none_left_over : (ends : Proposal → Option Outcome) → ((p : Proposal) → is_none (ends p) ≡ false) → (ps : List Proposal) → filter (λ p. is_none (ends p)) ps ≡ []
none_left_over ends every [] = refl
none_left_over ends every (p ∷ ps) = ap (λ b. cond b (p ∷ filter (λ q. is_none (ends q)) ps) (filter (λ q. is_none (ends q)) ps)) (every p) ∙ none_left_over ends every ps
