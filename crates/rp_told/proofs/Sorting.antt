-- Lists of attempts with something of each, by client, command and attempt.
use Rattle.std.proofs.Common.{◌≡◌, Bool, true, false, cond, List, [], ◌∷◌, Option, None, Some, refl, sym, ap, subst, ◌∙◌}
use Rattle.std.specs.Prelude.{is_some, map}
use Rattle.std.specs.BTreeMap.{insert_entry, is_at}
use Rattle.std.specs.List.{AllByRecursion}
use Rattle.std.specs.Map.{lookup}
use Rattle.std.specs.Ordering.{is_eq, match_ordering, ordering_reverse}
use Rattle.std.specs.declared.cmp.Ordering.{Ordering}
use Rattle.std.specs.declared.cmp.Ordering.TheVariants.{Less, Equal, Greater}
use Rattle.rp_base.specs.declared.ids.CmdId.{CmdId}
use Rattle.rp_base.proofs.IdLaws.{at_itself, at_other, cmd_total, cmd_equal_is}
use Rattle.rp_base.specs.Ids.{cmd_cmp}

-- what a list has of an attempt
abbrev pub found : {X : Type 0} → List (CmdId × X) → CmdId → Option X
found es id = lookup (is_at (cmd_cmp id)) es

put_itself_by : {X : Type 0} (es rest : List (CmdId × X)) (e : CmdId × X) (id : CmdId) (v : X) (o : Ordering) → cmd_cmp id e.0 ≡ o → found rest id ≡ Some v
    → found (match_ordering o ((id, v) ∷ e ∷ es) ((e.0, v) ∷ es) (e ∷ rest)) id ≡ Some v
put_itself_by es rest e id v Less is ih = ap (λ b. cond b (Some v) (found (e ∷ es) id)) (at_itself id)
put_itself_by es rest e id v Equal is ih = ap (λ o. cond (is_eq o) (Some v) (found es id)) is
put_itself_by es rest e id v Greater is ih = ap (λ o. cond (is_eq o) (Some e.1) (found rest id)) is ∙ ih

-- the attempt has what was put
pub put_itself : {X : Type 0} (es : List (CmdId × X)) (id : CmdId) (v : X) → found (insert_entry cmd_cmp es id v) id ≡ Some v
put_itself [] id v = ap (λ b. cond b (Some v) None) (at_itself id)
put_itself (e ∷ es) id v = put_itself_by es (insert_entry cmd_cmp es id v) e id v (cmd_cmp id e.0) refl (put_itself es id v)

put_other_by : {X : Type 0} (es rest : List (CmdId × X)) (e : CmdId × X) (id : CmdId) (v : X) (q : CmdId) → (q ≡ id → ⊥) → (o : Ordering) → cmd_cmp id e.0 ≡ o
    → found rest q ≡ found es q → found (match_ordering o ((id, v) ∷ e ∷ es) ((e.0, v) ∷ es) (e ∷ rest)) q ≡ found (e ∷ es) q
put_other_by es rest e id v q ne Less is ih = ap (λ b. cond b (Some v) (found (e ∷ es) q)) (at_other q id ne)
put_other_by es rest e id v q ne Equal is ih =
    let no = at_other q e.0 (λ same. ne (same ∙ sym (cmd_equal_is id e.0 is))) in
    ap (λ b. cond b (Some v) (found es q)) no ∙ sym (ap (λ b. cond b (Some e.1) (found es q)) no)
put_other_by es rest e id v q ne Greater is ih = ap (cond (is_at (cmd_cmp q) e.0) (Some e.1)) ih

-- each other attempt has what it had
pub put_other : {X : Type 0} (es : List (CmdId × X)) (id : CmdId) (v : X) (q : CmdId) → (q ≡ id → ⊥) → found (insert_entry cmd_cmp es id v) q ≡ found es q
put_other [] id v q ne = ap (λ b. cond b (Some v) None) (at_other q id ne)
put_other (e ∷ es) id v q ne = put_other_by es (insert_entry cmd_cmp es id v) e id v q ne (cmd_cmp id e.0) refl (put_other es id v q ne)

-- each attempt stands once, in order
abbrev pub IsAfter : {X : Type 0} → CmdId → CmdId × X → Type 0
IsAfter id e = cmd_cmp id e.0 ≡ Less

abbrev pub IsRising : {X : Type 0} → List (CmdId × X) → Type 0
IsRising [] = Unit {0}
IsRising (e ∷ es) = AllByRecursion (IsAfter e.0) es × IsRising es

after_put : {X : Type 0} (a id : CmdId) (v : X) (es : List (CmdId × X)) → cmd_cmp a id ≡ Less → AllByRecursion (IsAfter a) es → AllByRecursion (IsAfter a) (insert_entry cmd_cmp es id v)
after_put a id v [] l h = (l, tt)
after_put {X} a id v (e ∷ es) l h = go (cmd_cmp id e.0) (after_put a id v es l h.1) where
  go : (o : Ordering) → AllByRecursion (IsAfter {X = X} a) (insert_entry cmd_cmp es id v)
      → AllByRecursion (IsAfter {X = X} a) (match_ordering o ((id, v) ∷ e ∷ es) ((e.0, v) ∷ es) (e ∷ insert_entry cmd_cmp es id v))
  go Less ih = (l, h)
  go Equal ih = h
  go Greater ih = (h.0, ih)

after_less : {X : Type 0} (a b : CmdId) (es : List (CmdId × X)) → cmd_cmp a b ≡ Less → AllByRecursion (IsAfter b) es → AllByRecursion (IsAfter a) es
after_less a b [] l h = tt
after_less a b (e ∷ es) l h = (cmd_total.trans a b e.0 l h.0, after_less a b es l h.1)

pub put_rising : {X : Type 0} (es : List (CmdId × X)) (id : CmdId) (v : X) → IsRising es → IsRising (insert_entry cmd_cmp es id v)
put_rising [] id v h = (tt, tt)
put_rising {X} (e ∷ es) id v h = go (cmd_cmp id e.0) refl (put_rising es id v h.1) where
  go : (o : Ordering) → cmd_cmp id e.0 ≡ o → IsRising {X = X} (insert_entry cmd_cmp es id v)
      → IsRising {X = X} (match_ordering o ((id, v) ∷ e ∷ es) ((e.0, v) ∷ es) (e ∷ insert_entry cmd_cmp es id v))
  go Less is ih = ((is, after_less id e.0 es is h.0), h)
  go Equal is ih = h
  go Greater is ih = (after_put e.0 id v es (cmd_total.antisymm e.0 id ∙ ap ordering_reverse is) h.0, ih)

-- an attempt in front of all others is not found behind
pub found_behind : {X : Type 0} (id : CmdId) (es : List (CmdId × X)) → AllByRecursion (IsAfter id) es → found es id ≡ None
found_behind id [] h = refl
found_behind id (e ∷ es) h = ap (λ o. cond (is_eq o) (Some e.1) (found es id)) h.0 ∙ found_behind id es h.1

-- lists in order that have the same of each attempt are the same
none_some : {X : Type 0} (x : X) → ◌≡◌ {A = Option X} None (Some x) → ⊥
none_some x e = cc

some_is : {X : Type 0} (x y : X) → ◌≡◌ {A = Option X} (Some x) (Some y) → x ≡ y
some_is x y e = cc

first_found : {X : Type 0} (e : CmdId × X) (es : List (CmdId × X)) → found (e ∷ es) e.0 ≡ Some e.1
first_found e es = ap (λ b. cond b (Some e.1) (found es e.0)) (at_itself e.0)

in_front : {X : Type 0} (e f : CmdId × X) (es fs : List (CmdId × X)) → AllByRecursion (IsAfter f.0) fs → cmd_cmp e.0 f.0 ≡ Less → found (e ∷ es) e.0 ≡ found (f ∷ fs) e.0 → ⊥
in_front e f es fs after less same =
    none_some e.1 (sym (found_behind e.0 (f ∷ fs) (less, after_less e.0 f.0 fs less after)) ∙ sym same ∙ first_found e es)

pub same_rising : {X : Type 0} (es fs : List (CmdId × X)) → IsRising es → IsRising fs → ((q : CmdId) → found es q ≡ found fs q) → es ≡ fs
same_rising [] [] h k same = refl
same_rising [] (f ∷ fs) h k same = absurd (none_some f.1 (same f.0 ∙ first_found f fs))
same_rising (e ∷ es) [] h k same = absurd (none_some e.1 (sym (same e.0) ∙ first_found e es))
same_rising {X} (e ∷ es) (f ∷ fs) h k same = go (cmd_cmp e.0 f.0) refl (same_rising es fs h.1 k.1) where
  rest_by : (q : CmdId) → e.0 ≡ f.0 → (b : Bool) → is_at (cmd_cmp q) e.0 ≡ b → found es q ≡ found fs q
  rest_by q is true at =
      let here : e.0 ≡ q = sym (cmd_equal_is q e.0 (equal_by (cmd_cmp q e.0) at)) in
      subst (λ z. found es z ≡ found fs z) here (found_behind e.0 es h.0 ∙ sym (ap (found fs) is ∙ found_behind f.0 fs k.0))
    where
      equal_by : (o : Ordering) → is_eq o ≡ true → o ≡ Equal
      equal_by Less at' = absurd cc
      equal_by Equal at' = refl
      equal_by Greater at' = absurd cc
  rest_by q is false at =
      sym (ap (λ b. cond b (Some e.1) (found es q)) at) ∙ same q ∙ ap (λ b. cond b (Some f.1) (found fs q)) (ap (is_at (cmd_cmp q)) (sym is) ∙ at)

  pair_is : (a b : CmdId × X) → a.0 ≡ b.0 → a.1 ≡ b.1 → a ≡ b
  pair_is a b x y i = (x i, y i)

  go : (o : Ordering) → cmd_cmp e.0 f.0 ≡ o → (((q : CmdId) → found es q ≡ found fs q) → es ≡ fs) → ◌≡◌ {A = List (CmdId × X)} (e ∷ es) (f ∷ fs)
  go Less is ih = absurd (in_front e f es fs k.0 is (same e.0))
  go Greater is ih = absurd (in_front f e fs es h.0 (cmd_total.antisymm f.0 e.0 ∙ ap ordering_reverse is) (sym (same f.0)))
  go Equal is ih =
      let keys : e.0 ≡ f.0 = cmd_equal_is e.0 f.0 is in
      let first : e ≡ f = pair_is e f keys (some_is e.1 f.1 (sym (first_found e es) ∙ same e.0 ∙ ap (found (f ∷ fs)) keys ∙ first_found f fs)) in
      let rest : es ≡ fs = ih (λ q. rest_by q keys (is_at (cmd_cmp q) e.0) refl) in
      ap (λ x. x ∷ es) first ∙ ap (λ l. f ∷ l) rest

-- something else of each attempt
pub map_rising : {X Y : Type 0} (value : CmdId → Y) (es : List (CmdId × X)) → IsRising es → IsRising (map (λ e. (e.0, value e.0)) es)
map_rising value [] h = tt
map_rising {X} {Y} value (e ∷ es) h = (go es h.0, map_rising value es h.1) where
  go : (fs : List (CmdId × X)) → AllByRecursion (IsAfter e.0) fs → AllByRecursion (IsAfter {X = Y} e.0) (map (λ f. (f.0, value f.0)) fs)
  go [] h' = tt
  go (f ∷ fs) h' = (h'.0, go fs h'.1)

pub map_found : {X Y : Type 0} (value : CmdId → Y) (es : List (CmdId × X)) (q : CmdId) → found (map (λ e. (e.0, value e.0)) es) q ≡ cond (is_some (found es q)) (Some (value q)) None
map_found value [] q = refl
map_found {X} {Y} value (e ∷ es) q = go (is_at (cmd_cmp q) e.0) refl (map_found value es q) where
  equal_by : (o : Ordering) → is_eq o ≡ true → o ≡ Equal
  equal_by Less at' = absurd cc
  equal_by Equal at' = refl
  equal_by Greater at' = absurd cc

  go : (b : Bool) → is_at (cmd_cmp q) e.0 ≡ b → found (map (λ f. (f.0, value f.0)) es) q ≡ cond (is_some (found es q)) (Some (value q)) None
      → cond b (Some (value e.0)) (found (map (λ f. (f.0, value f.0)) es) q) ≡ cond (is_some (cond b (Some e.1) (found es q))) (Some (value q)) None
  go true at ih = ap (λ z. Some (value z)) (sym (cmd_equal_is q e.0 (equal_by (cmd_cmp q e.0) at)))
  go false at ih = ih
