-- A client's seat between two calls.
use Rattle.std.proofs.Common.{◌≡◌, ℕ, ◌+◌, ◌-◌, ◌≤◌, Bool, true, List, refl, sym, ap, subst, ◌∙◌, arith, Result, Ok, Err}
use Rattle.rp_base.specs.declared.ids.CmdId.{CmdId}
use Rattle.rp_request.specs.declared.requests.Request.{Request}
use Rattle.rp_bufcore.specs.declared.ends.BufferEnd.{Ghosts}
use Rattle.rp_clients.specs.declared.answers.AdmitFault.{AdmitFault}
use Rattle.rp_clients.specs.declared.answers.Answer.{Answer}
use Rattle.rp_clients.specs.declared.answers.Empty.{Empty}
use Rattle.rp_clients.specs.Tries.{Try, first_key}
use Rattle.rp_switch.specs.declared.terms.Terms.{Terms}
use Rattle.rp_switch.specs.declared.switch.Switch.{Switch}
use Rattle.rp_switch.specs.declared.switch.Seat.{Seat}
use Rattle.rp_switch.specs.Gifts.{tries_known}
use Rattle.rp_switch.specs.Seats.{terms_of, known_by, IsSeatOf}
use Rattle.rp_switch.specs.Views.{Idle, Knowledge}
use Rattle.rp_desks.specs.Onward.{all_named, is_idle, carries, IsOnward, Stays, MayAsk, Admits, Hears, tries_after, tries_told}
use Rattle.rp_desks.specs.Whence.{Whence, IsSeated}
use Rattle.rp_desks.proofs.Onward.{idle_is, onward_behind}
use Rattle.rp_desks.proofs.Named.{named_after, named_told, aims_low}

-- as many nodes, so the refusals name nodes as before
same_nodes : (v w : Knowledge) (ts : List Try) → w.terms ≡ v.terms → all_named v.terms.nodes ts ≡ true → all_named w.terms.nodes ts ≡ true
same_nodes v w ts same e = subst (λ (t : Terms). all_named t.nodes ts ≡ true) (sym same) e

pub named_stays : (client : ℕ) (v w : Knowledge) → Stays client v w → all_named v.terms.nodes (tries_known v client) ≡ true → all_named w.terms.nodes (tries_known w client) ≡ true
named_stays client v w a e = same_nodes v w (tries_known w client) a.onward.terms (subst (λ ts. all_named v.terms.nodes ts ≡ true) (sym a.tries) e)

pub named_admits : (client : ℕ) (v w : Knowledge) (node range : ℕ) (id : CmdId) (r : Result (Unit {0}) AdmitFault) → Admits client v node range id r w
    → all_named v.terms.nodes (tries_known v client) ≡ true → all_named w.terms.nodes (tries_known w client) ≡ true
named_admits client v w node range id r a e = same_nodes v w (tries_known w client) a.onward.terms
    (subst (λ ts. all_named v.terms.nodes ts ≡ true) (sym a.tries) (named_after v.terms.nodes node range a.rounds id r (tries_known v client) a.names e))

pub named_hears : (client : ℕ) (v w : Knowledge) (r : Result Answer Empty) → Hears client v r w
    → all_named v.terms.nodes (tries_known v client) ≡ true → all_named w.terms.nodes (tries_known w client) ≡ true
named_hears client v w r a e = same_nodes v w (tries_known w client) a.onward.terms
    (subst (λ ts. all_named v.terms.nodes ts ≡ true) (sym a.tries) (named_told v.terms.nodes r (tries_known v client) a.ends e))

-- the node that is aimed at
pub aims : (v : Knowledge) (t : Terms) (client node range : ℕ) (id : CmdId) (request : Request) → v.terms ≡ t → 1 ≤ t.nodes
    → MayAsk client v node range id request → all_named v.terms.nodes (tries_known v client) ≡ true → node ≤ v.terms.nodes
aims v t client node range id request same some m e =
    aims_low v.terms.nodes (subst (λ (u : Terms). 1 ≤ u.nodes) (sym same) some) (tries_known v client) e (first_key request) node m.may.at_node

module _ {E : Type 0} {g : Ghosts E} (o : Whence) (s : Switch E) (p : Seat E g) (client : ℕ) (client_is : client ≡ o.client) (is : IsSeated o s p) where
  pub of_it : IsSeatOf s p
  of_it = (is.seat_is ∙ sym is.switch_is, is.onward.terms ∙ sym is.terms_are)

  pub idle : (known_by p).stage ≡ Idle
  idle = idle_is (known_by p).stage is.onward.idle

  pub has : carries (known_by p) client ≡ true
  has = subst (λ c. carries (known_by p) c ≡ true) (sym client_is) is.onward.carries

  pub same_terms : (known_by p).terms ≡ terms_of s
  same_terms = is.onward.terms ∙ sym is.terms_are

  pub low_of : (node : ℕ) → node ≤ (known_by p).terms.nodes → node ≤ (terms_of s).nodes
  low_of node low = subst (λ (t : Terms). node ≤ t.nodes) same_terms low

  pub seated_on : (q : Seat E g) → q.seat.table_id ≡ p.seat.table_id → IsOnward client (known_by p) (known_by q) → IsSeated o s q
  seated_on q same a = record {
    switch_is = is.switch_is;
    terms_are = is.terms_are;
    seat_is = same ∙ is.seat_is;
    onward = onward_behind o.client o.known (known_by p) (known_by q) is.onward (subst (λ c. IsOnward c (known_by p) (known_by q)) client_is a);
  }
