-- Every reached world is firm.
use Rattle.std.proofs.Common.{◌≡◌, ℕ, zero, suc, ◌<◌, ◌≤◌, ⊎_elim, Some, List, [], ◌∷◌, ◌++◌, map, refl, ap, subst, ◌∙◌, arith}
use Rattle.std.specs.Prelude.{Contains}
use Rattle.std.specs.Option.{option_map_or}
use Rattle.std.proofs.lemmas.Bool.{ltb-true, leb-true}
use Rattle.std.proofs.lemmas.List.Elements.{Contains-append_cases}
use Rattle.std.proofs.lemmas.Grind.{flat_map-append}
use Rattle.rp_base.specs.declared.items.Item.{Item}
use Rattle.rp_codec.specs.Spelling.{spelling}
use Rattle.rp_codec.proofs.SpellingLaws.{read_as_spelled}
use Rattle.rp_request.specs.Applied.{AppliedState}
use Rattle.rp_request.specs.Fits.{FitsAsk, FitsPayload}
use Rattle.rp_request.specs.declared.commands.Payload.{Payload}
use Rattle.rp_request.specs.declared.commands.Payload.TheVariants as payloads
use Rattle.rp_raftsafe.specs.Safety.{OneList}
use Rattle.rp_raftsafe.specs.Proposed.{event_payloads, payloads_of}
use Rattle.rp_events.specs.declared.node_events.Event.{Event}
use Rattle.rp_events.specs.Nodes.{Node}
use Rattle.rp_events.specs.Worlds.{World, Scene, Schedule, first_world, node_of, taken_in, happens, run}
use Rattle.rp_events.specs.Lawful.{Lawful, AllLawful, IsReached}
use Rattle.rp_seats.specs.Scenes.{node_doings, as_event, scene_doings, raft_events}
use Rattle.rp_bound.specs.Bounds.{StandsNext, first_seen}
use Rattle.rp_bound.proofs.Along.{stands_next, stands_fit}
use Rattle.rp_bound.proofs.First.{first_ranges, first_bound}
use Rattle.rp_bound.proofs.Starts.{none_handed, first_small}
use Rattle.rp_turns.proofs.Kept.{first_wide}
use Rattle.rp_raftstep.specs.RaftState.{nodes_to}
use Rattle.rp_journals.proofs.Growing.{reached_later}
use Rattle.rp_journals.proofs.Writing.{later_scene, first_reached}
use Rattle.rp_journals.proofs.Elsewhere.{event_some, lawful_node}
use Rattle.rp_low.specs.Weights.{weight_of}
use Rattle.rp_low.proofs.Weighed.{weighed_first, weighed_scene, begins_weigh_none}
use Rattle.rp_allowed.specs.Firm.{IsSpelled, IsFirm}
use Rattle.rp_seats.specs.Standing.{AreShaped}
use Rattle.rp_turns.specs.Fitting.{AreFit}
use Rattle.rp_turns.proofs.Handed.{node_handed}

spelled : (p : Payload) → FitsPayload p → IsSpelled (spelling p)
spelled p f = record { payload = p; is = read_as_spelled p f }

-- what an event hands to Raft spells a payload
handed : (w : World) → AreShaped w → (fit : AreFit w) → (node : ℕ) (n : Node) → (has : node_of w node ≡ Some n) → (range : ℕ) (bytes : List ℕ) → (ev : Event AppliedState) (taken : List Item)
    → Contains (payloads_of (map (as_event range w node) (node_doings range n ev taken))) bytes → IsSpelled bytes
handed w shaped fit node n has =
    node_handed IsSpelled FitsAsk (λ c f. spelled (payloads.Write c) f) (λ ask f _. spelled (payloads.Lease ask) f) w shaped fit node n has
    (λ at r is. (fit.replicas node at n r has is).asks)

module _ (lists : OneList AppliedState) where
  firm_scene : (nodes : ℕ) (w : World) → IsReached nodes w → (x : Scene) → Lawful w x → IsFirm lists w → IsFirm lists (happens w x)
  firm_scene nodes w reached x l h =
      let next : StandsNext lists w h.ranges h.seen x = stands_next lists w h.ranges h.seen h.stands x l in
      let f = lawful_node w x l.lawful in
      let e = event_some w x.node x.what f.2 in
      let doings = λ (range : ℕ). ap (λ o. option_map_or (scene_doings range w x) o []) f.1 ∙ ap (λ o. option_map_or (λ z. node_doings range f.0 z (taken_in x.what)) o []) e.1 in
      record {
        ranges = next.ranges;
        seen = λ range. h.seen range ++ raft_events range w x;
        stands = next.stands;
        weighed = λ range below. weighed_scene nodes range below w reached x l (h.seen range) (h.weighed range below);
        spelled = λ range bytes c. ⊎_elim
            (λ (was : Contains (payloads_of (h.seen range)) bytes). h.spelled range bytes was)
            (λ (then : Contains (payloads_of (raft_events range w x)) bytes).
            handed w h.stands.bound.shaped (stands_fit lists w h.ranges h.seen h.stands) x.node f.0 f.1 range bytes e.0 (taken_in x.what)
            (subst (λ ds. Contains (payloads_of (map (as_event range w x.node) ds)) bytes) (doings range) then))
            (Contains-append_cases (payloads_of (h.seen range)) (payloads_of (raft_events range w x)) bytes (subst (λ l. Contains l bytes) (flat_map-append event_payloads (h.seen range) (raft_events range w x)) c));
      }

  firm_run : (nodes : ℕ) (xs : Schedule) (w : World) → IsReached nodes w → AllLawful w xs → IsFirm lists w → IsFirm lists (run w xs)
  firm_run nodes [] w reached lawful h = h
  firm_run nodes (x ∷ xs) w reached lawful h = firm_run nodes xs (happens w x) (reached_later nodes w (happens w x) reached (later_scene w x lawful.0)) lawful.1 (firm_scene nodes w reached x lawful.0 h)

  first_weight : (nodes range : ℕ) → weight_of (first_seen nodes range) ≡ 0
  first_weight nodes zero = begins_weigh_none nodes
  first_weight nodes (suc range) = refl

  handed_first : (nodes range : ℕ) (bytes : List ℕ) → Contains (payloads_of (first_seen nodes range)) bytes → ⊥
  handed_first nodes zero bytes c = none_handed (nodes_to nodes) bytes c
  handed_first nodes (suc range) bytes c = omega (arith, c.1)

  first_firm : (nodes : ℕ) → 0 < nodes → nodes ≤ 5 → IsFirm lists (first_world nodes)
  first_firm nodes some few = record {
    ranges = first_ranges lists nodes some few;
    seen = first_seen nodes;
    stands = record {
      bound = first_bound lists nodes some few;
      wide = first_wide nodes few (first_seen nodes) (handed_first nodes);
      small = first_small nodes few;
    };
    weighed = λ range below. weighed_first nodes range (first_seen nodes range) (first_weight nodes range);
    spelled = λ range bytes c. absurd (handed_first nodes range bytes c);
  }

  pub reached_firm : (nodes : ℕ) (w : World) → IsReached nodes w → IsFirm lists w
  reached_firm nodes w r = subst (IsFirm lists) r.reached (firm_run nodes r.schedule (first_world nodes) (first_reached nodes w r) r.lawful (first_firm nodes (ltb-true 0 nodes r.some) (leb-true nodes 5 r.few)))
