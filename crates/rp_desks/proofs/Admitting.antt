-- An admission at a node that the seat took.
use Rattle.std.proofs.Common.{◌≡◌, ℕ, suc, ◌+◌, ◌-◌, ◌<◌, ◌≤◌, min, Bool, true, false, cond, List, [], ◌∷◌, eq-eqb, refl, sym, ap, subst, ◌∙◌, arith, slice_get, Option, Some, None, Result, Ok, Err, IfErr}
use Rattle.std.proofs.Math.Nat.{min-le_left}
use Rattle.rp_base.specs.declared.ids.CmdId.{CmdId}
use Rattle.rp_base.specs.declared.items.Item.{Item}
use Rattle.rp_base.specs.declared.memory.NoMemory.{NoMemory}
use Rattle.rp_raftsafe.proofs.Known.{one_list_holds}
use Rattle.rp_request.specs.Applied.{AppliedState}
use Rattle.rp_request.specs.Fits.{FitsId, FitsRequest}
use Rattle.rp_request.specs.declared.outcomes.Outcome.{Outcome}
use Rattle.rp_request.specs.declared.outcomes.Outcome.TheVariants.{Refused}
use Rattle.rp_request.specs.declared.requests.Request.{Request}
use Rattle.rp_allowed.proofs.Firm.{reached_firm}
use Rattle.rp_allowed.proofs.Stepping.{may_step}
use Rattle.rp_events.specs.declared.answers.EventAnswer.{EventAnswer}
use Rattle.rp_events.specs.declared.answers.EventAnswer.TheVariants as answers
use Rattle.rp_events.specs.declared.node_events.Event.TheVariants as events
use Rattle.rp_events.specs.MaySteps.{MayStep}
use Rattle.rp_events.specs.Nodes.{Node, NodeDone, is_full}
use Rattle.rp_events.specs.NodeEvents.{step}
use Rattle.rp_events.specs.Worlds.{World, Admit, node_of}
use Rattle.rp_journals.specs.Entries.{at_node}
use Rattle.rp_clients.specs.declared.answers.AdmitFault.TheVariants as fault
use Rattle.rp_clients.specs.Desks.{Standing, RefusesBy, MayAdmit as MayAdmitThere}
use Rattle.rp_clients.specs.Tries.{Try, weight_of}
use Rattle.rp_holders.proofs.Ends.{refused_names}
use Rattle.rp_node.specs.Steps.{Held, Steps}
use Rattle.rp_race.proofs.Counted.{never_fall}
use Rattle.rp_race.proofs.Keeping.{admits}
use Rattle.rp_race.specs.Gives.{Tried, AllMayTry, after_admission, try_at, with_try, end_by}
use Rattle.rp_race.specs.Played.{requests_of, IsTriesOf}
use Rattle.rp_switch.specs.Gifts.{CarriesClient, AreAdmissions, IsGift, admissions, tries_known}
use Rattle.rp_switch.specs.Rules.{IsNow}
use Rattle.rp_switch.specs.Views.{Knowledge, right_at, taking}
use Rattle.rp_tried.proofs.Coming.{own_id, may_try}
use Rattle.rp_desks.specs.Onward.{rounds_seen, carries, MayAsk, Admits, answer_of, tries_after}
use Rattle.rp_desks.proofs.Onward.{tries_are}
use Rattle.rp_desks.proofs.Visits.{Visit, seen_some, visit_onward, visit_tries, visit_stays, visit_own, has_node}

-- a desk with what the seat knows
abbrev desk_of : Knowledge → (client : ℕ) → Standing
desk_of v client = record {
  tries = tries_known v client;
  told = rounds_seen v.seen;
  client = client;
  nodes = v.terms.nodes;
  requests = requests_of v.terms.rules client;
  is_over = false;
  is_short = false;
  is_put = false;
  capacity = 0;
  held = 0;
}

-- the tries with their ends are those after the answer
tries_by_answer : (node range rounds : ℕ) (id : CmdId) (a : EventAnswer) (ts : List Try)
    → ◌∷◌ (record { id = id; node = node; range = range; rounds = rounds; end = end_by a }) ts ≡ tries_after node range rounds id (answer_of (Ok a)) ts
tries_by_answer node range rounds id (answers.Refused refusal) ts = refl
tries_by_answer node range rounds id answers.Done ts = refl
tries_by_answer node range rounds id answers.Nothing ts = refl
tries_by_answer node range rounds id answers.Admitted ts = refl
tries_by_answer node range rounds id (answers.Asked ask) ts = refl
tries_by_answer node range rounds id (answers.LeaseHeld lease ticks) ts = refl
tries_by_answer node range rounds id (answers.Value value applied) ts = refl

module _ (v : Knowledge) (client : ℕ) (at : World) (node range : ℕ) (id : CmdId) (request : Request) (before : Node)
    (first : 1 ≤ client) (has : carries v client ≡ true) (now : IsNow v at) (some : 1 ≤ node) (here : slice_get at (node - 1) ≡ Some before)
    (m : MayAsk client v node range id request) (room : is_full before ≡ false) (id_fits : FitsId id) (request_fits : FitsRequest request) where
  own : IsTriesOf v.terms.rules at client (tries_known v client)
  own = visit_own v at client now has

  there : node_of at node ≡ Some before
  there = has_node at node before some here

  may_there : MayAdmitThere node range id request (desk_of v client)
  may_there = record {
    goes_on = record { not_over = refl; not_short = refl };
    may = m.may;
    gone_on = m.gone_on;
    units = min-le_left 0 (weight_of request);
  }

  pub client_is : id.client ≡ client
  client_is = own_id v.terms.rules v.terms.nodes at client 0 (desk_of v client) (record { client_is = refl; nodes_are = refl; requests_are = refl; capacity_is = refl }) own node range id request may_there

  told : rounds_seen v.seen node ≤ before.rounds
  told = seen_some v at (node - 1) before (slice_get v.seen (node - 1)) now here refl

  may_by : (tries : Tried) → tries client ≡ tries_known v client → AllMayTry v.terms.rules v.terms.nodes node before tries (Admit range id request ∷ [])
  may_by tries same = may_try v.terms.rules v.terms.nodes at client 0 (desk_of v client) (record { client_is = refl; nodes_are = refl; requests_are = refl; capacity_is = refl }) own
      tries same node range id request may_there id_fits request_fits before told room

  -- the node takes the event
  pub steps_may : MayStep before (events.Admit range id request)
  steps_may =
      let same : now.tries client ≡ tries_known v client = sym (now.kept client (tries_are (right_at v.rights (v.terms.nodes + client - 1)) has)) in
      let well = admits v.terms.rules now.broken v.terms.nodes node (Admit range id request ∷ []) at now.reached now.race now.tries now.each before there (may_by now.tries same) in
      may_step (one_list_holds AppliedState) v.terms.nodes at now.reached (reached_firm (one_list_holds AppliedState) v.terms.nodes at now.reached)
      (at_node node (Admit range id request)) well.lawful.0 before there (events.Admit range id request) refl

  abbrev gift : (after : Node) → after ≡ after_admission before range id request → AreAdmissions (taking (node - 1) at before v) (node - 1) before after
  gift after is = record {
    what = Admit range id request ∷ [];
    may = subst (λ k. AllMayTry v.terms.rules v.terms.nodes k before (tries_known v) (Admit range id request ∷ [])) (omega (arith, some)) (may_by (tries_known v) refl);
    carries = (subst (CarriesClient v) (sym client_is) (tries_are (right_at v.rights (v.terms.nodes + client - 1)) has), tt);
    leaves = is;
  }

  -- it may be given back so
  pub admission_is_gift : (after : Node) → after ≡ after_admission before range id request → IsGift (taking (node - 1) at before v) (node - 1) at before after
  admission_is_gift after is = admissions (gift after is)

  module _ (w : Knowledge) (after : Node) (a : EventAnswer) (s : Visit v node at before after w)
      (does : step before (events.Admit range id request) [] ≡ record { node = after; answer = a }) where
    after_is : after ≡ after_admission before range id request
    after_is = sym (ap (λ (d : NodeDone). d.node) does)

    answer_is : (step before (events.Admit range id request) []).answer ≡ a
    answer_is = ap (λ (d : NodeDone). d.answer) does

    one_more : tries_known w client ≡ try_at node before range id request ∷ tries_known v client
    one_more =
        visit_tries v w node at before after client s first has (gift after after_is)
        ∙ ap (λ (k : ℕ). with_try (tries_known v) (try_at k before range id request) client) (omega (arith, some))
        ∙ ap (λ (b : Bool). cond b (try_at node before range id request ∷ tries_known v client) (tries_known v client)) (eq-eqb client id.client (sym client_is))

    names : (b : EventAnswer) → (step before (events.Admit range id request) []).answer ≡ b → IfErr (answer_of (Ok b)) (RefusesBy v.terms.nodes)
    names (answers.Refused refusal) is = refused_names v.terms.nodes at now.reached node before there range id request refusal is
    names answers.Done is = tt
    names answers.Nothing is = tt
    names answers.Admitted is = tt
    names (answers.Asked ask) is = tt
    names (answers.LeaseHeld lease ticks) is = tt
    names (answers.Value value applied) is = tt

    pub admitted : Admits client v node range id (answer_of (Ok a)) w
    admitted = record {
      onward = visit_onward v w node at before after client s has
          (subst (λ (n : Node). before.rounds ≤ n.rounds) (sym after_is) (never_fall before (events.Admit range id request) []).0);
      rounds = before.rounds;
      least = told;
      tries = one_more
          ∙ ap (λ (b : EventAnswer). ◌∷◌ (record { id = id; node = node; range = range; rounds = before.rounds; end = end_by b }) (tries_known v client)) answer_is
          ∙ tries_by_answer node range before.rounds id a (tries_known v client);
      names = names a answer_is;
    }

  -- at want of memory it stays as it was
  pub wanted : (w : Knowledge) (want : NoMemory) → Visit v node at before before w → Admits client v node range id (answer_of (Err want)) w
  wanted w want s = record {
    onward = visit_onward v w node at before before client s has (omega arith);
    rounds = before.rounds;
    least = told;
    tries = (visit_stays v w node at before client s first has).tries;
    names = tt;
  }
