-- Proposals that end all at once, and the latches that they free.
use Rattle.std.proofs.Common.{◌≡◌, ℕ, ◌+◌, ◌<◌, Bool, true, false, cond, not, ◌||◌, List, [], ◌∷◌, length, drop, get_or, map, None, Some, is_none, refl, sym, ap, ◌∙◌}
use Rattle.std.specs.Prelude.{filter_map}
use Rattle.std.specs.List.{filter, cons_option}
use Rattle.std.proofs.lemmas.List.{drop_more}
use Rattle.rp_base.specs.Ids.{same_id}
use Rattle.rp_latch.specs.Holds.{is_of_other}
use Rattle.rp_latch.specs.declared.holds.Hold.{Hold}
use Rattle.rp_pending.specs.Dues.{standing}
use Rattle.rp_pending.specs.Proposals.{is_proposed}
use Rattle.rp_pending.specs.Refreshes.{goes_back}
use Rattle.rp_pending.specs.Turns.{dropped_back}
use Rattle.rp_pending.specs.declared.proposals.Proposal.{Proposal}
use Rattle.rp_request.specs.declared.outcomes.Ambiguity.TheVariants as causes
use Rattle.rp_request.specs.declared.outcomes.Outcome.{Outcome}
use Rattle.rp_request.specs.declared.outcomes.Outcome.TheVariants.{Refused, Ambiguous}
use Rattle.rp_request.specs.declared.outcomes.Refusal.TheVariants.{NoReplica}
use Rattle.rp_events.specs.declared.answers.Ended.{Ended}
use Rattle.rp_events.specs.Ends.{end_of, held_by_others, is_held_by_one, overtaken_by, removed_with}
use Rattle.rp_replica.specs.declared.ends.Cause.{Cause}
use Rattle.rp_replica.specs.declared.ends.Cause.TheVariants.{Overtaken, Removed, Restarted}
use Rattle.rp_events.specs.Ends.{removed}
use Rattle.rp_events.specs.Replicas.{Replica}
use Rattle.rp_events.specs.declared.answers.EventAnswer.TheVariants as answers
use Rattle.rp_replica.specs.Ends.{end_by, ends_by}
use Rattle.rp_replica.specs.Plans.{IsPlan, Left}
use Rattle.rp_replica.specs.declared.plans.ReplicaPlan.TheVariants.{Removes}

-- nobody's latches are freed
pub all_held : (hs : List Hold) → held_by_others [] hs ≡ hs
all_held [] = refl
all_held (h ∷ hs) = ap (λ rest. h ∷ rest) (all_held hs)

-- those of one more
one_freed : (e : Ended) (es : List Ended) (hs : List Hold) → held_by_others es (filter (is_of_other e.id) hs) ≡ held_by_others (e ∷ es) hs
one_freed e es [] = refl
one_freed e es (h ∷ hs) = go (same_id h.id e.id) (one_freed e es hs) where
  go : (b : Bool) → held_by_others es (filter (is_of_other e.id) hs) ≡ held_by_others (e ∷ es) hs
      → held_by_others es (cond (not b) (h ∷ filter (is_of_other e.id) hs) (filter (is_of_other e.id) hs))
      ≡ cond (not (b || is_held_by_one es h)) (h ∷ held_by_others (e ∷ es) hs) (held_by_others (e ∷ es) hs)
  go true ih = ih
  go false ih = ap (λ rest. cond (not (is_held_by_one es h)) (h ∷ rest) rest) ih

pub one_more_freed : (es : List Ended) (i : ℕ) (e : Ended) (hs gs all : List Hold) → i < length es → e ≡ get_or es i e
    → gs ≡ filter (is_of_other e.id) hs → held_by_others (drop i es) hs ≡ all → held_by_others (drop (i + 1) es) gs ≡ all
one_more_freed es i e hs gs all within is g leads =
    ap (held_by_others (drop (i + 1) es)) g ∙ one_freed e (drop (i + 1) es) hs
    ∙ sym (ap (λ l. held_by_others l hs) (drop_more es i e within ∙ ap (λ v. v ∷ drop (i + 1) es) (sym is))) ∙ leads

-- how a proposal ends by where it stands
end_same : (cause : Cause) (p : Proposal) → end_by cause (standing p) ≡ end_of (ends_by cause) p
end_same (Overtaken lai) p = refl
end_same Removed p = refl
end_same (Restarted lease) p = refl

pub ends_same : (cause : Cause) (ps : List Proposal) → filter_map (end_by cause) (map standing ps) ≡ filter_map (end_of (ends_by cause)) ps
ends_same cause [] = refl
ends_same cause (p ∷ ps) =
    ap (λ o. cons_option o (filter_map (end_by cause) (map standing ps))) (end_same cause p)
    ∙ ap (cons_option (end_of (ends_by cause) p)) (ends_same cause ps)

-- a removal leaves no proposal
some_by : (b : Bool) (x y : Outcome) → is_none (cond b (Some x) (Some y)) ≡ false
some_by true x y = refl
some_by false x y = refl

pub none_left : (ps : List Proposal) → filter (λ p. is_none (removed_with p)) ps ≡ []
none_left [] = refl
none_left (p ∷ ps) =
    ap (λ b. cond b (p ∷ filter (λ q. is_none (removed_with q)) ps) (filter (λ q. is_none (removed_with q)) ps))
    (some_by (is_proposed p.stage) (Ambiguous (causes.Removed p.max)) (Refused NoReplica))
    ∙ none_left ps

-- what a snapshot leaves
stays_by : (b : Bool) (x : Outcome) → is_none (cond b (Some x) None) ≡ not b
stays_by true x = refl
stays_by false x = refl

pub stays_same : (lai : ℕ) (ps : List Proposal) → dropped_back lai ps ≡ filter (λ p. is_none (overtaken_by lai p)) ps
stays_same lai [] = refl
stays_same lai (p ∷ ps) =
    ap (λ b. cond b (p ∷ dropped_back lai ps) (dropped_back lai ps)) (sym (stays_by (goes_back lai p) (Ambiguous (causes.Snapshot p.max lai))))
    ∙ ap (λ rest. cond (is_none (overtaken_by lai p)) (p ∷ rest) rest) (stays_same lai ps)

abbrev left_removed : Replica → List Ended → List Proposal → Left
left_removed r ended ps = record {
  replica = record r { latches = held_by_others ended r.latches; pending = ps };
  answer = answers.Done;
  messages = [];
  outcomes = ended;
}

pub removal_plan : (r : Replica) (ended : List Ended) → ended ≡ filter_map (end_of removed_with) r.pending → IsPlan r None (Removes ended) (removed r)
removal_plan r ended e = record {
  makes = record {
    does = ap (λ xs. left_removed r xs []) e ∙ ap (left_removed r (filter_map (end_of removed_with) r.pending)) (sym (none_left r.pending));
    fits = tt;
  };
  right = refl;
  hands = refl;
}
