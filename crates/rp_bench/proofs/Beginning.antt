-- What a worker's seat knows as it begins.
use Rattle.std.proofs.Common.{◌≡◌, ℕ, zero, suc, ◌+◌, ◌<◌, ◌%◌, Bool, true, List, [], ◌∷◌, length, length-append, refl, sym, ap, subst, ◌∙◌, arith, slice_get, Some}
use Rattle.std.proofs.lemmas.List.{length-map}
use Rattle.rp_events.specs.Nodes.{Node, first_node}
use Rattle.rp_events.specs.Worlds.{World, first_world}
use Rattle.rp_journals.proofs.Reading.{first_at}
use Rattle.rp_race.specs.Rounds.{stage_of}
use Rattle.rp_switch.specs.Gifts.{is_between}
use Rattle.rp_switch.specs.Views.{Knowledge, Right, Rounds, is_rounds, right_at}
use Rattle.rp_raftstep.specs.RaftState.{nodes_to}
use Rattle.rp_bench.specs.declared.stations.Station.{Station}
use Rattle.rp_bench.specs.Stations.{IsFresh, AreFresh, IsAtWork, Serves}
use Rattle.rp_bench.specs.Worked.{MayServe, is_idle}

numbers_long : (k : ℕ) → length (nodes_to k) ≡ k
numbers_long zero = refl
numbers_long (suc k) = let a = length-append (nodes_to k) (suc k ∷ []) in let b = numbers_long k in omega (arith, a, b)

first_length : (nodes : ℕ) → length (first_world nodes) ≡ nodes
first_length nodes = length-map (nodes_to nodes) (λ node. first_node node nodes) ∙ numbers_long nodes

-- a node as it starts
at_first : (nodes place : ℕ) (n : Node) → slice_get (first_world nodes) place ≡ Some n → n ≡ first_node n.node nodes
at_first nodes place n has = first_at nodes (suc place) n has

first_work : (nodes : ℕ) (v : Knowledge) (worker workers : ℕ) (stations : List Station) → v.terms.nodes ≡ nodes → is_idle v.stage ≡ true → v.seen ≡ first_world nodes
    → MayServe v worker workers → AreFresh worker workers nodes stations → IsAtWork v stations
first_work nodes v worker workers stations size idle seen may fresh = record {
  idle = idle;
  size = ap (λ (w : World). length w) seen ∙ first_length nodes ∙ sym size;
  seen = λ place n s saw here.
      let is = at_first nodes place n (ap (λ (w : World). slice_get w place) (sym seen) ∙ saw) in
      let f = fresh place s here in
      (f.rounds ∙ sym (ap (λ (z : Node). z.rounds) is), f.waited ∙ sym (ap (λ (z : Node). z.waited) is));
  serve = λ place n s saw here plays.
      let is = at_first nodes place n (ap (λ (w : World). slice_get w place) (sym seen) ∙ saw) in
      let f = fresh place s here in
      let served = f.serves plays in
      record {
        carries = ap is_rounds (may place (subst (λ k. place < k) (sym size) served.0) served.1);
        begins = ap (λ (z : Node). is_between (stage_of z.journal)) is;
        mail = f.mail v.terms.rules v.seen n (ap (λ (z : Node). z.journal) is);
      };
}

-- as it is known whence the seat is
pub begins_work : (v o : Knowledge) (worker workers : ℕ) (stations : List Station) → v ≡ o → is_idle v.stage ≡ true → o.seen ≡ first_world o.terms.nodes
    → MayServe o worker workers → AreFresh worker workers o.terms.nodes stations → IsAtWork v stations
begins_work v o worker workers stations known idle seen may fresh =
    subst (λ (k : Knowledge). IsAtWork k stations) (sym known)
    (first_work o.terms.nodes o worker workers stations refl (subst (λ (k : Knowledge). is_idle k.stage ≡ true) known idle) seen may fresh)
