-- A world as it starts.
use Rattle.std.proofs.Common.{◌≡◌, ℕ, zero, suc, ◌+◌, ◌-◌, ◌<◌, ◌≤◌, min, Bool, true, false, Option, None, Some, List, [], ◌∷◌, ◌++◌, map, replicate, length, refl, sym, ap, subst, ◌∙◌, arith, is_some, sum_by, add-one}
use Rattle.std.specs.List.{fold}
use Rattle.std.proofs.lemmas.List.{map-append}
use Rattle.rp_base.specs.declared.ids.CmdId.{CmdId}
use Rattle.rp_bufcore.specs.Buffers.{Buffer, fresh}
use Rattle.rp_raftstep.specs.RaftState.{nodes_to}
use Rattle.rp_request.specs.declared.outcomes.Outcome.{Outcome}
use Rattle.rp_book.specs.declared.bookings.Booked.{Booked}
use Rattle.rp_book.specs.Books.{BookState, booking_of, told_of}
use Rattle.rp_events.specs.Nodes.{Node, first_node}
use Rattle.rp_events.specs.Worlds.{World, first_world, outcome_of, was_asked}
use Rattle.rp_events.specs.Buffered.{Buffered, first_buffered}
use Rattle.rp_lines.specs.Players.{weight, weight_of, most_events}
use Rattle.rp_node.specs.Steps.{Held}
use Rattle.rp_told.proofs.Asks.{asked_known, first_unasked}
use Rattle.rp_world.specs.Comes.{buffered_of, first_held}
use Rattle.rp_world.specs.Keeping.{IsBookOf, IsKept}
use Rattle.rp_world.specs.Weighing.{HasPlaces, IsWeighed, capped}
use Rattle.rp_world.proofs.Loads.{sum_push}
use Rattle.rp_world.proofs.Sixteen.{first_places}

-- so many nodes as they start
abbrev pub first_helds : (nodes count : ℕ) → List (Held (List Buffer))
first_helds nodes count = map (first_held nodes) (nodes_to count)

-- one more
pub helds_more : (nodes count : ℕ) (list new : List (Held (List Buffer))) → list ≡ first_helds nodes count → new ≡ list ++ first_held nodes (count + 1) ∷ [] → new ≡ first_helds nodes (count + 1)
helds_more nodes count list new is pushed =
    pushed ∙ ap (λ l. l ++ first_held nodes (count + 1) ∷ []) is
    ∙ ap (λ k. map (first_held nodes) (nodes_to count) ++ first_held nodes k ∷ []) (add-one count)
    ∙ sym (map-append (first_held nodes) (nodes_to count) (suc count ∷ []))
    ∙ ap (λ k. map (first_held nodes) (nodes_to k)) (sym (add-one count))

mapped_twice : {A B C : Type 0} (f : A → B) (g : B → C) (xs : List A) → map g (map f xs) ≡ map (λ x. g (f x)) xs
mapped_twice f g [] = refl
mapped_twice f g (x ∷ xs) = ap (λ l. g (f x) ∷ l) (mapped_twice f g xs)

replicate_push : {A : Type 0} (n : ℕ) (x : A) → replicate n x ++ x ∷ [] ≡ x ∷ replicate n x
replicate_push zero x = refl
replicate_push (suc n) x = ap (λ l. x ∷ l) (replicate_push n x)

all_fresh : (nodes count : ℕ) → map (λ (h : Held (List Buffer)). h.end) (first_helds nodes count) ≡ replicate count fresh
all_fresh nodes zero = refl
all_fresh nodes (suc count) =
    ap (map (λ (h : Held (List Buffer)). h.end)) (map-append (first_held nodes) (nodes_to count) (suc count ∷ []))
    ∙ map-append (λ (h : Held (List Buffer)). h.end) (first_helds nodes count) (first_held nodes (suc count) ∷ [])
    ∙ ap (λ l. l ++ fresh ∷ []) (all_fresh nodes count)
    ∙ replicate_push count fresh

-- they are the world as it starts
pub helds_start : (nodes : ℕ) (list : List (Held (List Buffer))) → list ≡ first_helds nodes nodes → buffered_of list ≡ first_buffered nodes
helds_start nodes list is =
    ap buffered_of is
    ∙ ap (λ w. record { nodes = w; buffers = map (λ (h : Held (List Buffer)). h.end) (first_helds nodes nodes) }) (mapped_twice (first_held nodes) (λ (h : Held (List Buffer)). h.node) (nodes_to nodes))
    ∙ ap (λ l. record { nodes = first_world nodes; buffers = l }) (all_fresh nodes nodes)

-- nothing was sent
weightless : (nodes : ℕ) (xs : List ℕ) → weight (map (λ node. first_node node nodes) xs) ≡ 0
weightless nodes xs = go 0 xs refl where
  go : (a : ℕ) (xs : List ℕ) → a ≡ 0 → fold (λ a (n : Node). a + sum_by weight_of n.sent) a (map (λ node. first_node node nodes) xs) ≡ 0
  go a [] h = h
  go a (x ∷ xs) h = go (a + 0) xs (omega (arith, h))

pub weighed_first : (nodes : ℕ) (list : List (Held (List Buffer))) → buffered_of list ≡ first_buffered nodes → IsWeighed list 0
weighed_first nodes list is = record {
  weighs = sym (ap (λ (b : Buffered). capped (weight b.nodes)) is ∙ ap capped (weightless nodes (nodes_to nodes)));
  places = subst HasPlaces (sym is) (first_places nodes);
}

none_of : (o : Option Outcome) → is_some o ≡ false → o ≡ None
none_of None h = refl
none_of (Some x) h = absurd cc

-- the book has nobody
pub kept_first : (nodes : ℕ) (w : World) (s : BookState) → w ≡ first_world nodes → s.entries ≡ [] → ((id : CmdId) → told_of id s.told ≡ None) → IsKept w s 0
kept_first nodes w s is entries told = record {
  book = record {
    asked = λ id. ap (λ es. is_some (booking_of id es)) entries ∙ sym (ap (λ v. was_asked v id) is ∙ first_unasked nodes id);
    requests = λ id b has. absurd (nothing b (sym (ap (booking_of id) entries) ∙ has));
    told = λ id. told id ∙ sym (none_of (outcome_of w id) (asked_known w id ∙ ap (λ v. was_asked v id) is ∙ first_unasked nodes id));
  };
  few = omega arith;
}
  where
    nothing : (b : Booked) → ◌≡◌ {A = Option Booked} None (Some b) → ⊥
    nothing b e = cc
