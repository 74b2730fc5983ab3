-- That an event by which a round may go on may be asked of the node, and the end of the round too.
use Rattle.std.proofs.Common.{◌≡◌, ℕ, false, Some, [], refl, arith}
use Rattle.rp_request.specs.Applied.{AppliedState}
use Rattle.rp_events.specs.declared.node_events.Event.{Event}
use Rattle.rp_events.specs.declared.node_events.Event.TheVariants as events
use Rattle.rp_events.specs.Lawful.{Lawful, IsReached}
use Rattle.rp_events.specs.MaySteps.{MayStep}
use Rattle.rp_events.specs.Nodes.{Node, is_full}
use Rattle.rp_events.specs.Worlds as worlds
use Rattle.rp_events.specs.Worlds.{World, Happening, Scene, node_of, event_of, run}
use Rattle.rp_raftsafe.proofs.Known.{one_list_holds}
use Rattle.rp_allowed.proofs.Firm.{reached_firm}
use Rattle.rp_allowed.proofs.Stepping.{may_step}
use Rattle.rp_journals.specs.Asked.{all_at}
use Rattle.rp_journals.specs.Entries.{at_node}
use Rattle.rp_race.specs.declared.rules.RaceRules.{RaceRules}
use Rattle.rp_race.specs.Gives.{AllSeen, IsSoFar}
use Rattle.rp_race.proofs.Going.{so_far_reached}
use Rattle.rp_race.proofs.Keeping.{reached_size}
use Rattle.rp_serving.specs.Inside.{happening_of, IsUnderWay, MayGoOn}
use Rattle.rp_serving.proofs.Onward.{lawful_there, so_far_of, event_there, allowed_there, widths_there}

may_there : (nodes : ℕ) (w : World) → IsReached nodes w → (x : Scene) → Lawful w x → (n : Node) → node_of w x.node ≡ Some n → (e : Event AppliedState) → event_of w x.what ≡ Some e → MayStep n e
may_there nodes w reached x lawful n has e came =
    may_step (one_list_holds AppliedState) nodes w reached (reached_firm (one_list_holds AppliedState) nodes w reached) x lawful n has e came

pub may_ask : (rules : RaceRules) (nodes node : ℕ) (at seen : World) → IsReached nodes at → AllSeen nodes seen at → (n : Node) → IsUnderWay rules node at seen n → is_full n ≡ false
    → (e : Event AppliedState) → MayGoOn rules nodes node seen n e → MayStep n e
may_ask rules nodes node at seen reached all n u room e may =
    let so_far : IsSoFar rules node at u.what n = so_far_of rules node at seen u.what n u.part in
    let here : World = run at (all_at node u.what) in
    let there : IsReached nodes here = so_far_reached nodes rules node at u.what n reached so_far in
    let x : Happening = happening_of e [] in
    let lawful : Lawful here (at_node node x) =
    lawful_there here node x n so_far.leaves room
    (allowed_there rules nodes node at seen u.what n all (reached_size nodes here there) e [] may.within may.due (omega arith)) (widths_there e [] may.within) in
    may_there nodes here there (at_node node x) lawful n so_far.leaves e (event_there rules nodes node at seen u.what n all e [] may.due)

pub may_end : (rules : RaceRules) (nodes node : ℕ) (at seen : World) → IsReached nodes at → (n : Node) → IsUnderWay rules node at seen n → is_full n ≡ false → MayStep n events.Round
may_end rules nodes node at seen reached n u room =
    let so_far : IsSoFar rules node at u.what n = so_far_of rules node at seen u.what n u.part in
    let here : World = run at (all_at node u.what) in
    let there : IsReached nodes here = so_far_reached nodes rules node at u.what n reached so_far in
    may_there nodes here there (at_node node worlds.Round) (lawful_there here node worlds.Round n so_far.leaves room refl tt) n so_far.leaves events.Round refl
