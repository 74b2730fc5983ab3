-- The first pass of the buffers, and the nodes, as a race begins.
use Rattle.std.proofs.Common.{◌≡◌, ℕ, zero, suc, ◌+◌, ◌-◌, ◌<◌, true, List, [], ◌∷◌, ◌++◌, length, map, replicate, refl, sym, ap, ◌∙◌, arith, add-one}
use Rattle.std.proofs.lemmas.List.{length-map, map-append}
use Rattle.rp_raftstep.specs.RaftState.{nodes_to}
use Rattle.rp_buffer.specs.declared.rights.Keep.TheVariants.{Open}
use Rattle.rp_buffer.specs.declared.rights.Right.{Right}
use Rattle.rp_buffer.specs.declared.rights.Right.TheVariants.{Lacks, Carries}
use Rattle.rp_buffer.specs.declared.rule.Hand.{Hand}
use Rattle.rp_buffer.specs.Hands.{all_parts, bare_hand, is_carried, least, others, right_at}
use Rattle.rp_buffer.specs.Plays.{left}
use Rattle.rp_buffer.specs.Slots.{first}
use Rattle.rp_events.specs.Nodes.{first_node}
use Rattle.rp_events.specs.Worlds.{World, first_world}
use Rattle.rp_node.specs.Steps.{Held}
use Rattle.rp_racelines.proofs.Sending.{length_to}
use Rattle.rp_switch.specs.Openings.{bare}

-- the rights that are left once those of so many nodes were handed out
abbrev pub rights_left : ℕ → List Right
rights_left place = replicate place Lacks ++ replicate (5 - place) (Carries (replicate 8 Open))

-- what the first pass knows then
abbrev pub hand_left : ℕ → Hand
hand_left place = bare_hand (all_parts - place) (rights_left place)

pub hand_first : first 40 ≡ hand_left 0
hand_first = refl

-- the least right is that of the next node
pub carries_next : (place : ℕ) → place < 5 → is_carried (right_at (least (rights_left place)) place) ≡ true
carries_next zero lt = refl
carries_next (suc zero) lt = refl
carries_next (suc (suc zero)) lt = refl
carries_next (suc (suc (suc zero))) lt = refl
carries_next (suc (suc (suc (suc zero)))) lt = refl
carries_next (suc (suc (suc (suc (suc place))))) lt = absurd (omega (arith, lt))

others_left : (place : ℕ) → place < 5 → others (rights_left place) ≡ rights_left (place + 1)
others_left zero lt = refl
others_left (suc zero) lt = refl
others_left (suc (suc zero)) lt = refl
others_left (suc (suc (suc zero))) lt = refl
others_left (suc (suc (suc (suc zero)))) lt = refl
others_left (suc (suc (suc (suc (suc place))))) lt = absurd (omega (arith, lt))

pub hand_next : (place : ℕ) → place < 5 → left (hand_left place) ≡ hand_left (place + 1)
hand_next place lt =
    let fewer : all_parts - place - 1 ≡ all_parts - (place + 1) = omega arith in
    ap (λ parts. bare_hand parts (others (rights_left place))) fewer ∙ ap (bare_hand (all_parts - (place + 1))) (others_left place lt)

-- so many of the nodes
abbrev pub nodes_front : (nodes count : ℕ) → World
nodes_front nodes count = map (λ node. first_node node nodes) (nodes_to count)

pub front_more : (nodes count : ℕ) → nodes_front nodes (count + 1) ≡ nodes_front nodes count ++ first_node (count + 1) nodes ∷ []
front_more nodes count =
    ap (nodes_front nodes) (add-one count)
    ∙ map-append (λ node. first_node node nodes) (nodes_to count) (suc count ∷ [])
    ∙ ap (λ k. nodes_front nodes count ++ first_node k nodes ∷ []) (sym (add-one count))

-- they are so many
pub front_size : {E : Type 0} (nodes : ℕ) (list : List (Held E)) → bare list ≡ first_world nodes → length list ≡ nodes
front_size nodes list is =
    sym (length-map list (λ h. h.node))
    ∙ ap (λ w. length w) is
    ∙ length-map (nodes_to nodes) (λ node. first_node node nodes)
    ∙ length_to nodes
