-- One node more.
use Rattle.std.proofs.Common.{◌≡◌, ℕ, zero, suc, ◌+◌, ◌<◌, ◌≤◌, ◌⊎◌, inl, inr, ⊎_elim, Bool, true, false, cond, ltb, Option, None, Some, List, [], ◌∷◌, ◌++◌, length, map, take, get_or, refl, sym, ap, subst, ◌∙◌, arith, append_assoc, append-nil, ltb-true, ltb-false}
use Rattle.std.specs.Prelude.{fold, slice_get}
use Rattle.std.proofs.lemmas.Bool.{cases_lt}
use Rattle.std.proofs.lemmas.List.{length-append, take_more, take_all}
use Rattle.std.proofs.lemmas.Option.{none-some, slice_get_within}
use Rattle.rp_request.specs.History.{History}
use Rattle.rp_events.specs.Nodes.{Node, seat}
use Rattle.rp_events.specs.Worlds.{World}
use Rattle.rp_events.specs.Lists.{history_in, HasApplied}
use Rattle.rp_node.specs.Steps.{Held}
use Rattle.rp_chronicle.specs.Worlds.{world_of, further, furthest_of, IsFurthest, IsUntouched, pieces_in, pieces_of}
use Rattle.rp_chronicle.proofs.Places.{some_is, get_left, get_right}

-- the first nodes, with one more, and all of them
pub more_nodes : {B : Type 0} (xs : List (Held B)) (i : ℕ) (x : Held B) → i < length xs → x ≡ get_or xs i x → world_of (take (i + 1) xs) ≡ world_of (take i xs) ++ x.node ∷ []
more_nodes {B} xs i x lt is = ap world_of (take_more xs i x lt ∙ ap (λ y. take i xs ++ y ∷ []) (sym is)) ∙ nodes_push (take i xs) where
  nodes_push : (ys : List (Held B)) → world_of (ys ++ x ∷ []) ≡ world_of ys ++ x.node ∷ []
  nodes_push [] = refl
  nodes_push (y ∷ ys) = ap (λ zs. y.node ∷ zs) (nodes_push ys)

pub all_nodes : {B : Type 0} (xs : List (Held B)) (i : ℕ) → length xs ≤ i → world_of (take i xs) ≡ world_of xs
all_nodes xs i le = ap world_of (take_all i xs le)

pub node_at : {B : Type 0} (xs : List (Held B)) (i : ℕ) (x : Held B) → i < length xs → x ≡ get_or xs i x → slice_get (world_of xs) i ≡ Some x.node
node_at [] i x lt is = absurd (omega (arith, lt))
node_at {B} (y ∷ xs) zero x lt is = ap (λ (h : Held B). Some h.node) (sym is)
node_at (y ∷ xs) (suc i) x lt is = node_at xs i x (omega (arith, lt)) is

-- what one node more has
module _ (w : World) (n : Node) (range : ℕ) where
  pub old_applied : (node : ℕ) (h : History) → HasApplied w node range h → HasApplied (w ++ n ∷ []) node range h
  old_applied zero h a = absurd (none-some a.n a.has)
  old_applied (suc place) h a = record { n = a.n; has = get_left w (n ∷ []) place (slice_get_within w place a.n a.has) ∙ a.has; history = a.history }

  pub new_applied : (h : History) → history_in (seat n range) ≡ Some h → HasApplied (w ++ n ∷ []) (suc (length w)) range h
  new_applied h e = record { n = n; has = ap (slice_get (w ++ n ∷ [])) (omega arith) ∙ get_right w (n ∷ []) 0; history = e }

  pub either_applied : (node : ℕ) (h : History) → HasApplied (w ++ n ∷ []) node range h → HasApplied w node range h ⊎ (history_in (seat n range) ≡ Some h)
  either_applied zero h a = absurd (none-some a.n a.has)
  either_applied (suc place) h a = ⊎_elim
      (λ (lt : place < length w). inl (record { n = a.n; has = sym (get_left w (n ∷ []) place lt) ∙ a.has; history = a.history }))
      (λ (ge : length w ≤ place).
      let within = slice_get_within (w ++ n ∷ []) place a.n a.has in
      let long = length-append w (n ∷ []) in
      let same : length w + 0 ≡ place = omega (arith, ge, within, long) in
      inr (subst (λ (k : Node). history_in (seat k range) ≡ Some h) (some_is a.n n (sym a.has ∙ ap (slice_get (w ++ n ∷ [])) (sym same) ∙ get_right w (n ∷ []) 0)) a.history))
      (cases_lt place (length w))

  pub untouched_still : IsUntouched w range → history_in (seat n range) ≡ None → IsUntouched (w ++ n ∷ []) range
  untouched_still u none node h a = ⊎_elim (u node h) (λ (e : history_in (seat n range) ≡ Some h). none-some h (sym none ∙ e)) (either_applied node h a)

  pub furthest_still : (h : History) → IsFurthest w range h → history_in (seat n range) ≡ None → IsFurthest (w ++ n ∷ []) range h
  furthest_still h f none = record {
    node = f.node;
    applied = old_applied f.node h f.applied;
    most = λ other k a. ⊎_elim (f.most other k) (λ (e : history_in (seat n range) ≡ Some k). absurd (none-some k (sym none ∙ e))) (either_applied other k a);
  }

  pub furthest_first : (h : History) → IsUntouched w range → history_in (seat n range) ≡ Some h → IsFurthest (w ++ n ∷ []) range h
  furthest_first h u is = record {
    node = suc (length w);
    applied = new_applied h is;
    most = λ other k a. ⊎_elim (λ (x : HasApplied w other range k). absurd (u other k x))
        (λ (e : history_in (seat n range) ≡ Some k). let same : h.index ≡ k.index = ap (λ (z : History). z.index) (some_is h k (sym is ∙ e)) in omega (arith, same)) (either_applied other k a);
  }

  pub furthest_more : (h k best : History) → IsFurthest w range h → history_in (seat n range) ≡ Some k → (best ≡ h) ⊎ (best ≡ k) → h.index ≤ best.index → k.index ≤ best.index → IsFurthest (w ++ n ∷ []) range best
  furthest_more h k best f is one first second = ⊎_elim
      (λ (e : best ≡ h). as_node f.node (subst (HasApplied (w ++ n ∷ []) f.node range) (sym e) (old_applied f.node h f.applied)))
      (λ (e : best ≡ k). as_node (suc (length w)) (subst (HasApplied (w ++ n ∷ []) (suc (length w)) range) (sym e) (new_applied k is)))
      one
    where
      as_node : (node : ℕ) → HasApplied (w ++ n ∷ []) node range best → IsFurthest (w ++ n ∷ []) range best
      as_node node applied = record {
        node = node;
        applied = applied;
        most = λ other z a. ⊎_elim
            (λ (x : HasApplied w other range z). let le = f.most other z x in omega (arith, le, first))
            (λ (e : history_in (seat n range) ≡ Some z). let same : k.index ≡ z.index = ap (λ (y : History). y.index) (some_is k z (sym is ∙ e)) in omega (arith, same, second))
            (either_applied other z a);
      }

-- no node yet
pub untouched_none : (range : ℕ) → IsUntouched [] range
untouched_none range zero h a = none-some a.n a.has
untouched_none range (suc place) h a = none-some a.n a.has

-- none has applied anything, or one has applied most
abbrev pub IsMost : World → (range : ℕ) → Option History → Type 0
IsMost w range None = IsUntouched w range
IsMost w range (Some h) = IsFurthest w range h

most_more : (w : World) (n : Node) (range : ℕ) (so_far next : Option History) → IsMost w range so_far → history_in (seat n range) ≡ next → IsMost (w ++ n ∷ []) range (further so_far next)
most_more w n range None None m e = untouched_still w n range m e
most_more w n range None (Some k) m e = furthest_first w n range k m e
most_more w n range (Some h) None m e = furthest_still w n range h m e
most_more w n range (Some h) (Some k) m e = go (ltb h.index k.index) refl where
  go : (b : Bool) → ltb h.index k.index ≡ b → IsMost (w ++ n ∷ []) range (cond b (Some k) (Some h))
  go true is = let lt = ltb-true h.index k.index is in furthest_more w n range h k k m e (inr refl) (omega (arith, lt)) (omega arith)
  go false is = let le = ltb-false h.index k.index is in furthest_more w n range h k h m e (inl refl) (omega arith) le

most_all : (front rest : World) (range : ℕ) (so_far : Option History) → IsMost front range so_far → IsMost (front ++ rest) range (fold further so_far (map (λ n. history_in (seat n range)) rest))
most_all front [] range so_far m = subst (λ w. IsMost w range so_far) (sym (append-nil front)) m
most_all front (n ∷ rest) range so_far m =
    subst (λ w. IsMost w range (fold further (further so_far (history_in (seat n range))) (map (λ n. history_in (seat n range)) rest)))
    (append_assoc front (n ∷ []) rest)
    (most_all (front ++ n ∷ []) rest range (further so_far (history_in (seat n range))) (most_more front n range so_far (history_in (seat n range)) m refl))

pub is_most : (w : World) (range : ℕ) → IsMost w range (furthest_of w range)
is_most w range = most_all [] w range None (untouched_none range)

pub most_none : (w : World) (range : ℕ) → furthest_of w range ≡ None → IsUntouched w range
most_none w range e = subst (IsMost w range) e (is_most w range)

pub most_some : (w : World) (range : ℕ) (h : History) → furthest_of w range ≡ Some h → IsFurthest w range h
most_some w range h e = subst (IsMost w range) e (is_most w range)

-- one node more
fold_push : (so_far : Option History) (xs : List (Option History)) (x : Option History) → fold further so_far (xs ++ x ∷ []) ≡ further (fold further so_far xs) x
fold_push so_far [] x = refl
fold_push so_far (y ∷ xs) x = fold_push (further so_far y) xs x

map_push : (range : ℕ) (w : World) (n : Node) → map (λ n. history_in (seat n range)) (w ++ n ∷ []) ≡ map (λ n. history_in (seat n range)) w ++ history_in (seat n range) ∷ []
map_push range [] n = refl
map_push range (x ∷ w) n = ap (λ xs. history_in (seat x range) ∷ xs) (map_push range w n)

pub furthest_push : (w : World) (n : Node) (range : ℕ) → furthest_of (w ++ n ∷ []) range ≡ further (furthest_of w range) (history_in (seat n range))
furthest_push w n range = ap (fold further None) (map_push range w n) ∙ fold_push None (map (λ n. history_in (seat n range)) w) (history_in (seat n range))

pub furthest_more_nodes : (w now : World) (n : Node) (range : ℕ) (so_far next most : Option History) → now ≡ w ++ n ∷ [] → most ≡ further so_far next → so_far ≡ furthest_of w range → next ≡ history_in (seat n range) → most ≡ furthest_of now range
furthest_more_nodes w now n range so_far next most same is was here =
    is
    ∙ ap (λ o. further o next) was
    ∙ ap (further (furthest_of w range)) here
    ∙ sym (furthest_push w n range)
    ∙ ap (λ v. furthest_of v range) (sym same)

-- the pieces of one node more
pub more_pieces : (w : World) (n : Node) (range : ℕ) → pieces_of (w ++ n ∷ []) range ≡ pieces_of w range ++ pieces_in (history_in (seat n range))
more_pieces [] n range = append-nil (pieces_in (history_in (seat n range)))
more_pieces (x ∷ w) n range =
    ap (λ ps. pieces_in (history_in (seat x range)) ++ ps) (more_pieces w n range)
    ∙ sym (append_assoc (pieces_in (history_in (seat x range))) (pieces_of w range) (pieces_in (history_in (seat n range))))
