-- Where each refusal that ended a try names a node, the client aims at a node.
use Rattle.std.proofs.Common.{◌≡◌, ℕ, zero, suc, ◌+◌, ◌%◌, ◌<◌, ◌≤◌, Bool, true, false, cond, List, [], ◌∷◌, replicate, refl, sym, ap, subst, ◌∙◌, arith, slice_set, slice_index_or, Option, Some, None, Result, Ok, Err, IfOk, IfErr, le-leb}
use Rattle.std.proofs.Math.Nat.{mod-lt}
use Rattle.std.proofs.lemmas.Bool.{leb-true}
use Rattle.rp_base.specs.Ids.{same_id}
use Rattle.rp_base.specs.declared.ids.CmdId.{CmdId}
use Rattle.rp_request.specs.declared.outcomes.Outcome.{Outcome}
use Rattle.rp_request.specs.declared.outcomes.Outcome.TheVariants.{Success, Refused, Ambiguous, Pending}
use Rattle.rp_request.specs.declared.outcomes.Refusal.{Refusal}
use Rattle.rp_request.specs.declared.outcomes.Refusal.TheVariants.{NoReplica, NotLeaseHolder, RangeMismatch, Latched, ConditionFailed, IsText, Overflow, Short, TooWide, NotInside, SplitLimit}
use Rattle.rp_router.specs.declared.places.Hint.{Hint}
use Rattle.rp_router.specs.Hints.{Known, NamesNode, unknown, started, hint_of, learnt, aimed_node, aimed_range}
use Rattle.rp_clients.specs.declared.answers.AdmitFault.{AdmitFault}
use Rattle.rp_clients.specs.declared.answers.AdmitFault.TheVariants as fault
use Rattle.rp_clients.specs.declared.answers.Answer.{Answer}
use Rattle.rp_clients.specs.declared.answers.Answer.TheVariants as answer
use Rattle.rp_clients.specs.declared.answers.Empty.{Empty}
use Rattle.rp_clients.specs.Desks.{IsEnd, TellsEnd, RefusesBy}
use Rattle.rp_clients.specs.Tries.{Try, hints_after, hints_of, ended_so, learns}
use Rattle.rp_desks.specs.Onward.{names_node, is_named, all_named, tries_after, tries_told}
use Rattle.rp_desks.proofs.Waits.{both_true, left_true, right_true}

-- a refusal that names a node
pub names_so : (nodes : ℕ) (refusal : Refusal) → NamesNode nodes refusal → names_node nodes refusal ≡ true
names_so nodes NoReplica h = refl
names_so nodes (NotLeaseHolder lease) h = le-leb lease.holder nodes h
names_so nodes (RangeMismatch d) h = refl
names_so nodes (Latched by held) h = refl
names_so nodes (ConditionFailed actual) h = refl
names_so nodes (IsText key) h = refl
names_so nodes (Overflow actual) h = refl
names_so nodes (Short actual) h = refl
names_so nodes (TooWide count) h = refl
names_so nodes NotInside h = refl
names_so nodes (SplitLimit level) h = refl

end_so : (nodes : ℕ) (outcome : Outcome) → IsEnd nodes outcome → is_named nodes (Some outcome) ≡ true
end_so nodes (Success reply) h = refl
end_so nodes (Refused refusal) h = names_so nodes refusal h
end_so nodes (Ambiguous why) h = refl
end_so nodes Pending h = absurd h

pub named_after : (nodes node range rounds : ℕ) (id : CmdId) (r : Result (Unit {0}) AdmitFault) (ts : List Try) → IfErr r (RefusesBy nodes) → all_named nodes ts ≡ true
    → all_named nodes (tries_after node range rounds id r ts) ≡ true
named_after nodes node range rounds id (Ok done) ts h e = e
named_after nodes node range rounds id (Err (fault.Refused refusal)) ts h e = both_true {X = Try} (λ t. true) _ _ (names_so nodes refusal h) e
named_after nodes node range rounds id (Err fault.NoMemory) ts h e = e

ended_named : (nodes : ℕ) (id : CmdId) (outcome : Outcome) → IsEnd nodes outcome → (t : Try) (end : Option Outcome) → t.end ≡ end → is_named nodes t.end ≡ true
    → is_named nodes (ended_so id outcome t end).end ≡ true
ended_named nodes id outcome h t (Some known) is e = e
ended_named nodes id outcome h t None is e = go (same_id t.id id) where
  go : (b : Bool) → is_named nodes (cond b (record t { end = Some outcome }) t).end ≡ true
  go true = end_so nodes outcome h
  go false = e

learnt_named : (nodes : ℕ) (id : CmdId) (outcome : Outcome) → IsEnd nodes outcome → (ts : List Try) → all_named nodes ts ≡ true → all_named nodes (learns id outcome ts) ≡ true
learnt_named nodes id outcome h [] e = refl
learnt_named nodes id outcome h (t ∷ ts) e = both_true {X = Try} (λ t. true) _ _
    (ended_named nodes id outcome h t t.end refl (left_true {X = Try} (λ t. true) (is_named nodes t.end) (all_named nodes ts) e))
    (learnt_named nodes id outcome h ts (right_true {X = Try} (λ t. true) (is_named nodes t.end) (all_named nodes ts) e))

pub named_told : (nodes : ℕ) (r : Result Answer Empty) (ts : List Try) → IfOk r (TellsEnd nodes) → all_named nodes ts ≡ true → all_named nodes (tries_told r ts) ≡ true
named_told nodes (Ok (answer.Ended id outcome)) ts h e = learnt_named nodes id outcome h ts e
named_told nodes (Ok answer.Over) ts h e = e
named_told nodes (Ok answer.NoMemory) ts h e = e
named_told nodes (Err empty) ts h e = e

-- each hint has a node
pub record HasNodes (nodes : ℕ) (k : Known) : Type 0 where
  pub nodes_are : k.nodes ≡ nodes
  pub holders : (range : ℕ) → (hint_of k range).holder ≤ nodes

set_holds : (P : Hint → Type 0) (xs : List Hint) (i range : ℕ) (x : Hint) → P x → P (slice_index_or xs range unknown) → P (slice_index_or (slice_set xs i x) range unknown)
set_holds P [] i range x px h = h
set_holds P (y ∷ xs) zero zero x px h = px
set_holds P (y ∷ xs) zero (suc range) x px h = h
set_holds P (y ∷ xs) (suc i) zero x px h = h
set_holds P (y ∷ xs) (suc i) (suc range) x px h = set_holds P xs i range x px h

unknown_holds : (P : Hint → Type 0) (n range : ℕ) → P unknown → P (slice_index_or (replicate n unknown) range unknown)
unknown_holds P zero range p = p
unknown_holds P (suc n) zero p = p
unknown_holds P (suc n) (suc range) p = unknown_holds P n range p

first_nodes : (nodes : ℕ) → 1 ≤ nodes → HasNodes nodes (started nodes)
first_nodes nodes some = record {
  nodes_are = refl;
  holders = λ range. set_holds (λ (h : Hint). h.holder ≤ nodes) (replicate 8 unknown) 0 range _ some
      (unknown_holds (λ (h : Hint). h.holder ≤ nodes) 8 range some);
}

refusal_nodes : (nodes : ℕ) → 1 ≤ nodes → (k : Known) (node range : ℕ) (refusal : Refusal) → names_node nodes refusal ≡ true → HasNodes nodes k → HasNodes nodes (learnt k node range refusal)
refusal_nodes nodes some k node range NoReplica e h = record {
  nodes_are = h.nodes_are;
  holders = λ r. set_holds (λ (x : Hint). x.holder ≤ nodes) k.hints range r _
      (let is = h.nodes_are in let low = mod-lt node {m = k.nodes} (omega (arith, is, some)) in omega (arith, low, is)) (h.holders r);
}
refusal_nodes nodes some k node range (NotLeaseHolder lease) e h = record {
  nodes_are = h.nodes_are;
  holders = λ r. set_holds (λ (x : Hint). x.holder ≤ nodes) k.hints range r _ (leb-true lease.holder nodes e) (h.holders r);
}
refusal_nodes nodes some k node range (RangeMismatch d) e h = record {
  nodes_are = h.nodes_are;
  holders = λ r. set_holds (λ (x : Hint). x.holder ≤ nodes) k.hints range r _ (h.holders range) (h.holders r);
}
refusal_nodes nodes some k node range (Latched by held) e h = h
refusal_nodes nodes some k node range (ConditionFailed actual) e h = h
refusal_nodes nodes some k node range (IsText key) e h = h
refusal_nodes nodes some k node range (Overflow actual) e h = h
refusal_nodes nodes some k node range (Short actual) e h = h
refusal_nodes nodes some k node range (TooWide count) e h = h
refusal_nodes nodes some k node range NotInside e h = h
refusal_nodes nodes some k node range (SplitLimit level) e h = h

end_nodes : (nodes : ℕ) → 1 ≤ nodes → (k : Known) (t : Try) (end : Option Outcome) → is_named nodes end ≡ true → HasNodes nodes k → HasNodes nodes (hints_after k t end)
end_nodes nodes some k t None e h = h
end_nodes nodes some k t (Some (Success reply)) e h = h
end_nodes nodes some k t (Some (Refused refusal)) e h = refusal_nodes nodes some k t.node t.range refusal e h
end_nodes nodes some k t (Some (Ambiguous why)) e h = h
end_nodes nodes some k t (Some Pending) e h = h

tries_nodes : (nodes : ℕ) → 1 ≤ nodes → (ts : List Try) → all_named nodes ts ≡ true → HasNodes nodes (hints_of nodes ts)
tries_nodes nodes some [] e = first_nodes nodes some
tries_nodes nodes some (t ∷ ts) e = end_nodes nodes some (hints_of nodes ts) t t.end (left_true {X = Try} (λ t. true) (is_named nodes t.end) (all_named nodes ts) e)
    (tries_nodes nodes some ts (right_true {X = Try} (λ t. true) (is_named nodes t.end) (all_named nodes ts) e))

-- the client aims at a node
pub aims_low : (nodes : ℕ) → 1 ≤ nodes → (ts : List Try) → all_named nodes ts ≡ true → (key node : ℕ) → node ≡ aimed_node (hints_of nodes ts) key → node ≤ nodes
aims_low nodes some ts e key node is = subst (λ n. n ≤ nodes) (sym is) ((tries_nodes nodes some ts e).holders (aimed_range (hints_of nodes ts) key))
