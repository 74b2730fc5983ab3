-- A node is taken and given back.
use Rattle.std.proofs.Common.{◌≡◌, ℕ, suc, ◌+◌, ◌-◌, ◌<◌, ◌≤◌, ◌^◌, Bool, true, false, List, [], ◌∷◌, refl, sym, ap, subst, ◌∙◌, arith, slice_get, Some, Ok}
use Rattle.rp_base.specs.Keys.{IsKey}
use Rattle.rp_base.specs.declared.ids.CmdId.{CmdId}
use Rattle.rp_raftsafe.proofs.Known.{one_list_holds}
use Rattle.rp_request.specs.Applied.{AppliedState}
use Rattle.rp_request.specs.declared.requests.Request.{Request}
use Rattle.rp_request.specs.declared.requests.Request.TheVariants.{Del}
use Rattle.rp_allowed.proofs.Firm.{reached_firm}
use Rattle.rp_allowed.proofs.Stepping.{may_step}
use Rattle.rp_clients.specs.Tries.{Try, MayCome, id_of}
use Rattle.rp_events.specs.declared.node_events.Event.TheVariants as events
use Rattle.rp_events.specs.MaySteps.{MayStep}
use Rattle.rp_events.specs.Nodes.{Node, is_full}
use Rattle.rp_events.specs.Worlds.{World, Admit, node_of}
use Rattle.rp_journals.specs.Entries.{at_node}
use Rattle.rp_race.proofs.Keeping.{admits}
use Rattle.rp_race.specs.Gives.{Tried, MayTry, after_admission}
use Rattle.rp_race.specs.Played.{requests_of, HasRoundSince}
use Rattle.rp_router.specs.Hints.{started, aimed_node, aimed_range}
use Rattle.rp_switch.specs.declared.switch.Taken.{Taken}
use Rattle.rp_switch.specs.declared.terms.Terms.{Terms}
use Rattle.rp_switch.specs.Gifts.{AreAdmissions, IsGift, admissions, tries_known}
use Rattle.rp_switch.specs.Plays.{giving}
use Rattle.rp_switch.specs.Rules.{IsNow}
use Rattle.rp_switch.specs.Seats.{Takes, GivesBack}
use Rattle.rp_switch.specs.Views.{Knowledge, Idle, taking}
use Rattle.rp_switch.proofs.Backing.{took_it, carries_after, tries_admitted}
use Rattle.rp_switch_calls.specs.Firsts.{HasTriedNothing, MayBegin}

-- it is at rest, with as many parts
pub record Rests (v u : Knowledge) : Type 0 where
  pub idle : u.stage ≡ Idle
  pub parts : u.parts ≡ v.parts

-- with the same terms, a client that has tried nothing may begin still
pub again : (v u : Knowledge) (client node range key : ℕ) → u.terms ≡ v.terms → HasTriedNothing u client → MayBegin v client node range key
    → MayBegin u client node range key
again v u client node range key terms first m = record {
  first = first;
  some = m.some;
  asked = ap (λ (t : Terms). slice_get (requests_of t.rules client) 0) terms ∙ m.asked;
  at_node = m.at_node ∙ ap (λ (t : Terms). aimed_node (started t.nodes) key) (sym terms);
  in_range = m.in_range ∙ ap (λ (t : Terms). aimed_range (started t.nodes) key) (sym terms);
  low = subst (λ (t : Terms). node ≤ t.nodes) (sym terms) m.low;
}

module _ {E : Type 0} where
  -- what the seat knows when it has given the node back
  pub gave : (v w u : Knowledge) (node number : ℕ) (t : Taken E) (after : Node) → 1 ≤ node → node ≤ v.terms.nodes → (taken : Takes v node (Ok t) w)
      → number ≡ t.number → GivesBack w number after u → u ≡ giving (node - 1) t.node.node after w
  gave v w u node number t after some low taken same back =
      let is : number ≡ node = same ∙ taken.3 in
      back t.node.node (ap (λ (i : ℕ). slice_get w.seen (i - 1)) is ∙ ap (λ (k : Knowledge). slice_get k.seen (node - 1)) taken.4 ∙ took_it v node taken.0 t.node.node some low taken.1)
      ∙ ap (λ (i : ℕ). giving (i - 1) t.node.node after w) is

  pub rests : (v w u : Knowledge) (node number : ℕ) (t : Taken E) (after : Node) → 1 ≤ node → node ≤ v.terms.nodes → Takes v node (Ok t) w
      → number ≡ t.number → GivesBack w number after u → Rests v u
  rests v w u node number t after some low taken same back =
      let is = gave v w u node number t after some low taken same back in
      record { idle = ap (λ (k : Knowledge). k.stage) is; parts = ap (λ (k : Knowledge). k.parts) is ∙ ap (λ (k : Knowledge). k.parts) taken.4 }

  -- given back as it was, the client has tried nothing still
  pub nothing_given : (v w u : Knowledge) (node number client : ℕ) (t : Taken E) (after : Node) → 1 ≤ node → node ≤ v.terms.nodes → 1 ≤ client → Takes v node (Ok t) w
      → number ≡ t.number → GivesBack w number after u → after ≡ t.node.node → HasTriedNothing v client → HasTriedNothing u client
  nothing_given v w u node number client t after some low one taken same back stays first =
      let is = gave v w u node number t after some low taken same back in
      let n : Node = t.node.node in
      let had : HasTriedNothing w client = subst (λ (k : Knowledge). HasTriedNothing k client) (sym taken.4) (record { carries = first.carries; none = first.none }) in
      let gift : AreAdmissions w (node - 1) n n = record { what = []; may = tt; carries = tt; leaves = refl } in
      subst (λ (k : Knowledge). HasTriedNothing k client) (sym (is ∙ ap (λ (a : Node). giving (node - 1) n a w) stays)) (record {
        carries = carries_after (node - 1) n n w client had.carries;
        none = tries_admitted w (node - 1) n n gift client one had.carries ∙ had.none;
      })

-- the first try of a client at the node that was taken
module _ (v : Knowledge) (client node range key : ℕ) (m : MayBegin v client node range key) (at : World) (now : IsNow v at) (before : Node)
    (some : 1 ≤ node) (here : slice_get at (node - 1) ≡ Some before) (room : is_full before ≡ false) (client_fits : client < 2 ^ 16) (key_fits : IsKey key) where
  there : node_of at node ≡ Some before
  there = ap (node_of at) (suc_of some) ∙ here
    where
      suc_of : {k : ℕ} → 1 ≤ k → k ≡ suc (k - 1)
      suc_of {k} low = omega (arith, low)

  may_by : (tries : Tried) → tries client ≡ [] → MayTry v.terms.rules v.terms.nodes node before tries range (id_of client 1 1) (Del key)
  may_by tries none = record {
    may = subst (λ (ts : List Try). MayCome client v.terms.nodes (requests_of v.terms.rules client) ts node range (id_of client 1 1) (Del key)) (sym none)
        (record { next = refl; asked = m.asked; at_node = m.at_node; in_range = m.in_range });
    since = subst (λ (ts : List Try). HasRoundSince node before.rounds (id_of client 1 1) ts) (sym none) nothing_since;
    id_fits = (client_fits, omega arith, omega arith);
    request_fits = key_fits;
    room = room;
  }
    where
      nothing_since : HasRoundSince node before.rounds (id_of client 1 1) []
      nothing_since = λ k d low. absurd (omega (arith, low))

  -- the node takes the event
  pub steps_may : MayStep before (events.Admit range (id_of client 1 1) (Del key))
  steps_may =
      let same : now.tries client ≡ [] = sym (now.kept client m.first.carries) ∙ m.first.none in
      let well = admits v.terms.rules now.broken v.terms.nodes node (Admit range (id_of client 1 1) (Del key) ∷ []) at now.reached now.race now.tries now.each before there (may_by now.tries same, tt) in
      may_step (one_list_holds AppliedState) v.terms.nodes at now.reached (reached_firm (one_list_holds AppliedState) v.terms.nodes at now.reached)
      (at_node node (Admit range (id_of client 1 1) (Del key))) well.lawful.0 before there (events.Admit range (id_of client 1 1) (Del key)) refl

  -- it may be given back so, and as it was
  pub gift_by : (done : Bool) (after : Node) → (done ≡ true → after ≡ after_admission before range (id_of client 1 1) (Del key)) → (done ≡ false → after ≡ before)
      → IsGift (taking (node - 1) at before v) (node - 1) at before after
  gift_by true after is stays = admissions (record {
    what = Admit range (id_of client 1 1) (Del key) ∷ [];
    may = (subst (λ (k : ℕ). MayTry v.terms.rules v.terms.nodes k before (tries_known v) range (id_of client 1 1) (Del key)) (omega (arith, some)) (may_by (tries_known v) m.first.none), tt);
    carries = (m.first.carries, tt);
    leaves = is refl;
  })
  gift_by false after is stays = admissions (record { what = []; may = tt; carries = tt; leaves = stays refl })
