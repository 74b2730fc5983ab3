-- What a seat knows behind a fetch.
use Rattle.std.proofs.Common.{◌≡◌, ℕ, ◌+◌, ◌-◌, ◌≤◌, Bool, true, false, cond, if◌then◌else◌, ◌==◌, List, [], ◌∷◌, ◌++◌, ◌||◌, refl, sym, ap, subst, ◌∙◌, arith, Result, Ok, Err, IfOk}
use Rattle.rp_clients.specs.declared.answers.Answer.{Answer}
use Rattle.rp_clients.specs.declared.answers.Answer.TheVariants as answer
use Rattle.rp_clients.specs.declared.answers.Empty.{Empty}
use Rattle.rp_clients.specs.Desks.{TellsEnd}
use Rattle.rp_clients.specs.Tries.{Try}
use Rattle.rp_events.specs.Worlds.{World}
use Rattle.rp_holders.proofs.Ends.{outcome_ends}
use Rattle.rp_race.specs.Ends.{patience}
use Rattle.rp_switch.specs.Gifts.{tries_known}
use Rattle.rp_switch.specs.Rules.{IsNow, IsTrueOf}
use Rattle.rp_switch.specs.Seats.{Fetches}
use Rattle.rp_switch.specs.Views.{Right, Lacks, Knowledge, right_at, right_told, fetching, at_rest}
use Rattle.rp_switch.proofs.Backing as backing
use Rattle.rp_switch.proofs.Backing.{right_fetched, carries_fetched, tries_fetched}
use Rattle.rp_desks.specs.Onward.{is_lacking, is_idle, carries, is_waited_out, heard_over, IsOnward, Hears, tries_told, says_over}
use Rattle.rp_desks.proofs.Onward.{tries_are, tries_so, lacking_is, onward_self}
use Rattle.rp_desks.proofs.Waits.{waited_so, any_front, any_back}

lacks_told : (a : Answer) → right_told a Lacks ≡ Lacks
lacks_told (answer.Ended id outcome) = refl
lacks_told answer.Over = refl
lacks_told answer.NoMemory = refl

still_lacks : (b : Bool) (a : Answer) (r : Right) → is_lacking r ≡ true → is_lacking (if b then right_told a r else r) ≡ true
still_lacks true a r e = ap (λ z. is_lacking (right_told a z)) (lacking_is r e) ∙ ap is_lacking (lacks_told a)
still_lacks false a r e = e

same_told : (a : Answer) (ts : List Try) → backing.tries_told a ts ≡ tries_told (Ok a) ts
same_told (answer.Ended id outcome) ts = refl
same_told answer.Over ts = refl
same_told answer.NoMemory ts = refl

ends_so : (v : Knowledge) (at : World) (client : ℕ) (a : Answer) → IsNow v at → IsTrueOf v.terms at client a → TellsEnd v.terms.nodes a
ends_so v at client (answer.Ended id outcome) now t = outcome_ends v.terms.nodes at now.reached t.1.0 t.1.1 t.1.3 t.1.2 id outcome t.1.4
ends_so v at client answer.Over now t = tt
ends_so v at client answer.NoMemory now t = tt

over_so : (v : Knowledge) (at : World) (client : ℕ) (a : Answer) → IsTrueOf v.terms at client a → says_over (Ok a) ≡ true
    → heard_over (at_rest (fetching (v.terms.nodes + client - 1) (client - 1) a at v)) ≡ true
over_so v at client (answer.Ended id outcome) t e = absurd cc
over_so v at client answer.Over t e =
    any_back (is_waited_out (patience v.terms.rules)) v.joined (at ∷ [])
    (ap (λ b. b || false) (waited_so (patience v.terms.rules) at t))
over_so v at client answer.NoMemory t e = absurd cc

fetched_it : (v : Knowledge) (client : ℕ) (a : Answer) (at : World) → carries v client ≡ true → IsNow v at → IsTrueOf v.terms at client a
    → Hears client v (Ok a) (at_rest (fetching (v.terms.nodes + client - 1) (client - 1) a at v))
fetched_it v client a at has now t = record {
  onward = record {
    terms = refl;
    parts = refl;
    idle = refl;
    carries = tries_so _ (carries_fetched client a at v (tries_are (right_at v.rights (v.terms.nodes + client - 1)) has));
    lacks = λ k e. subst (λ r. is_lacking r ≡ true) (sym (right_fetched (v.terms.nodes + client - 1) (client - 1) a at v k))
        (still_lacks (k == v.terms.nodes + client - 1) a (right_at v.rights k) e);
    rounds = λ node. omega arith;
    heard = λ e. any_front (is_waited_out (patience v.terms.rules)) v.joined (at ∷ []) e;
  };
  tries = tries_fetched client a at v (tries_are (right_at v.rights (v.terms.nodes + client - 1)) has) ∙ same_told a (tries_known v client);
  ends = ends_so v at client a now t;
  over = over_so v at client a t;
}

pub hears : (v w : Knowledge) (client : ℕ) (r : Result Answer Empty) → is_idle v.stage ≡ true → carries v client ≡ true → Fetches v client r w → Hears client v r w
hears v w client (Ok a) idle has f = subst (Hears client v (Ok a)) (sym f.3) (fetched_it v client a f.0 has f.1 f.2)
hears v w client (Err empty) idle has f = subst (Hears client v (Err empty)) (sym f.2) (record {
  onward = record {
    terms = refl;
    parts = refl;
    idle = idle;
    carries = has;
    lacks = λ k e. e;
    rounds = λ node. omega arith;
    heard = λ e. e;
  };
  tries = refl;
  ends = tt;
  over = λ e. absurd cc;
})
