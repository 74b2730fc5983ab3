-- A seat that goes on: by steps one after another.
use Rattle.std.proofs.Common.{◌≡◌, ℕ, ◌+◌, ◌-◌, ◌<◌, ◌≤◌, Bool, true, false, List, refl, sym, ap, subst, ◌∙◌, arith, Some, None, Result, Ok, Err, IfErr}
use Rattle.std.proofs.lemmas.List.Elements.{All-weaker}
use Rattle.rp_base.specs.declared.ids.CmdId.{CmdId}
use Rattle.rp_request.specs.declared.requests.Request.{Request}
use Rattle.rp_clients.specs.declared.answers.AdmitFault.{AdmitFault}
use Rattle.rp_clients.specs.Desks.{CameBy, RefusesBy}
use Rattle.rp_clients.specs.Tries.{Try, MayCome, GoneOn}
use Rattle.rp_race.specs.Played.{requests_of}
use Rattle.rp_switch.specs.declared.terms.Terms.{Terms}
use Rattle.rp_switch.specs.Gifts.{IsTries, CarriesClient, tries_known}
use Rattle.rp_switch.specs.Views.{Right, Lacks, Tries, Rounds, BrokenOff, Stage, Idle, HasNode, HasCell, Chooses, Knowledge, right_at}
use Rattle.rp_desks.specs.Onward.{rounds_seen, is_lacking, has_tries, is_idle, carries, heard_over, IsOnward, Stays, Looks, MayAsk, Admits, tries_after}

pub idle_is : (st : Stage) → is_idle st ≡ true → st ≡ Idle
idle_is Idle e = refl
idle_is (HasNode place at) e = absurd cc
idle_is (HasCell place) e = absurd cc
idle_is (Chooses choice) e = absurd cc

pub idle_so : (st : Stage) → st ≡ Idle → is_idle st ≡ true
idle_so st e = ap is_idle e

pub tries_are : (r : Right) → has_tries r ≡ true → IsTries r
tries_are Lacks e = absurd cc
tries_are (Tries ts) e = tt
tries_are Rounds e = absurd cc
tries_are BrokenOff e = absurd cc

pub tries_so : (r : Right) → IsTries r → has_tries r ≡ true
tries_so Lacks e = absurd e
tries_so (Tries ts) e = refl
tries_so Rounds e = absurd e
tries_so BrokenOff e = absurd e

pub lacking_is : (r : Right) → is_lacking r ≡ true → r ≡ Lacks
lacking_is Lacks e = refl
lacking_is (Tries ts) e = absurd cc
lacking_is Rounds e = absurd cc
lacking_is BrokenOff e = absurd cc

pub onward_self : (client : ℕ) (v : Knowledge) → is_idle v.stage ≡ true → carries v client ≡ true → IsOnward client v v
onward_self client v idle has = record {
  terms = refl;
  parts = refl;
  idle = idle;
  carries = has;
  lacks = λ k e. e;
  rounds = λ node. omega arith;
  heard = λ e. e;
}

pub onward_behind : (client : ℕ) (u v w : Knowledge) → IsOnward client u v → IsOnward client v w → IsOnward client u w
onward_behind client u v w a b = record {
  terms = b.terms ∙ a.terms;
  parts = b.parts ∙ a.parts;
  idle = b.idle;
  carries = b.carries;
  lacks = λ k e. b.lacks k (a.lacks k e);
  rounds = λ node. let x = a.rounds node in let y = b.rounds node in omega (arith, x, y);
  heard = λ e. b.heard (a.heard e);
}

pub stays_behind : (client : ℕ) (u v w : Knowledge) → Stays client u v → Stays client v w → Stays client u w
stays_behind client u v w a b = record {
  onward = onward_behind client u v w a.onward b.onward;
  tries = b.tries ∙ a.tries;
}

pub looks_behind : (client : ℕ) (u v w : Knowledge) (node rounds : ℕ) → Stays client u v → Looks client v node rounds w → Looks client u node rounds w
looks_behind client u v w node rounds a b = record {
  stays = stays_behind client u v w a b.stays;
  saw = b.saw;
  least = subst (λ ts. CameBy node rounds ts) a.tries b.least;
}

pub may_ask_behind : (client : ℕ) (u v : Knowledge) (node range : ℕ) (id : CmdId) (request : Request) → Stays client u v
    → MayAsk client u node range id request → MayAsk client v node range id request
may_ask_behind client u v node range id request a m = record {
  may = subst (λ ts. MayCome client v.terms.nodes (requests_of v.terms.rules client) ts node range id request) (sym a.tries)
      (subst (λ t. MayCome client t.nodes (requests_of t.rules client) (tries_known u client) node range id request) (sym a.onward.terms) m.may);
  gone_on = subst (λ ts. GoneOn id.seq node (rounds_seen v.seen node) ts) (sym a.tries)
      (All-weaker (λ (t : Try). t.id.seq ≡ id.seq → t.node ≡ node → t.rounds < rounds_seen u.seen node)
      (λ (t : Try). t.id.seq ≡ id.seq → t.node ≡ node → t.rounds < rounds_seen v.seen node)
      (λ t was seq at. let less = was seq at in let more = a.onward.rounds node in omega (arith, less, more)) (tries_known u client) m.gone_on);
}

pub admits_behind : (client : ℕ) (u v w : Knowledge) (node range : ℕ) (id : CmdId) (answer : Result (Unit {0}) AdmitFault) → Stays client u v
    → Admits client v node range id answer w → Admits client u node range id answer w
admits_behind client u v w node range id answer a b = record {
  onward = onward_behind client u v w a.onward b.onward;
  rounds = b.rounds;
  least = let x = a.onward.rounds node in let y = b.least in omega (arith, x, y);
  tries = b.tries ∙ ap (tries_after node range b.rounds id answer) a.tries;
  names = subst (λ (t : Terms). IfErr answer (RefusesBy t.nodes)) a.onward.terms b.names;
}
