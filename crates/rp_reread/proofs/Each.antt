-- Lists of values that are read one after another: what was read, with what is left, is all of it.
use Rattle.std.proofs.Common.{◌≡◌, ℕ, suc, ◌+◌, ◌<◌, ◌≤◌, true, false, Bool, map, List, [], ◌∷◌, ◌++◌, length, drop, get_or, Option, None, Some, Result, Ok, Err, refl, sym, ap, ◌∙◌, arith, append_assoc, append-nil, add-one, drop-cons}
use Rattle.std.specs.Prelude.{option_map, option_and_then, ⊤}
use Rattle.std.specs.List.{list_all}
use Rattle.std.proofs.lemmas.List.{drop_all}
use Rattle.serde_json.specs.Data.{Data}
use Rattle.serde_json.specs.View.{view}
use Rattle.serde_json.specs.declared.value.Value.{Value}
use Rattle.rp_report.specs.declared.views.ReplicaView.{ReplicaView}
use Rattle.rp_reread.specs.declared.faults.FormFault.{FormFault}
use Rattle.rp_reread.specs.declared.faults.FormFault.TheVariants.{NotReport, NoMemory}
use Rattle.rp_reread.specs.Forms.{Forms, Puts, each, replicas_from, replica_of}

-- what is left begins with the item
pub left_from : {X : Type 0} (xs : List X) (i : ℕ) (x : X) → i < length xs → x ≡ get_or xs i x → drop i xs ≡ x ∷ drop (i + 1) xs
left_from xs i x here is =
    drop-cons xs i x here ∙ ap (λ y. y ∷ drop (suc i) xs) (sym is) ∙ ap (λ n. x ∷ drop n xs) (sym (add-one i))

map_same : {A : Type 0} (o : Option (List A)) → option_map (λ rest. [] ++ rest) o ≡ o
map_same None = refl
map_same (Some xs) = refl

-- nothing was read yet
pub each_begins : {A : Type 0} (found : List A) (o : Option (List A)) → found ≡ [] → option_map (λ rest. found ++ rest) o ≡ o
each_begins found o none = ap (λ xs. option_map (λ rest. xs ++ rest) o) none ∙ map_same o

put_behind : {A : Type 0} (found : List A) (x : A) (o : Option (List A))
    → option_map (λ rest. found ++ rest) (option_map (λ xs. x ∷ xs) o) ≡ option_map (λ rest. (found ++ x ∷ []) ++ rest) o
put_behind found x None = refl
put_behind found x (Some xs) = ap Some (sym (append_assoc found (x ∷ []) xs))

one_more : {A : Type 0} (r : Option A) (x : A) (o : Option (List A)) → r ≡ Some x
    → option_and_then (λ y. option_map (λ xs. y ∷ xs) o) r ≡ option_map (λ xs. x ∷ xs) o
one_more r x o is = ap (λ s. option_and_then (λ y. option_map (λ xs. y ∷ xs) o) s) is

none_more : {A : Type 0} (r : Option A) (o : Option (List A)) → r ≡ None → option_and_then (λ y. option_map (λ xs. y ∷ xs) o) r ≡ None
none_more r o is = ap (λ s. option_and_then (λ y. option_map (λ xs. y ∷ xs) o) s) is

-- one value more was read
pub each_next : {A : Type 0} (f : Data → Option A) (vs : List Value) (i : ℕ) (v : Value) (x : A) (found new : List A) (all : Option (List A))
    → i < length vs → v ≡ get_or vs i v → f (view v) ≡ Some x → new ≡ found ++ x ∷ []
    → option_map (λ rest. found ++ rest) (each f (map view (drop i vs))) ≡ all
    → option_map (λ rest. new ++ rest) (each f (map view (drop (i + 1) vs))) ≡ all
each_next f vs i v x found new all here is read behind so_far =
    ap (λ xs. option_map (λ rest. xs ++ rest) (each f (map view (drop (i + 1) vs)))) behind
    ∙ sym (put_behind found x (each f (map view (drop (i + 1) vs))))
    ∙ sym (ap (option_map (λ rest. found ++ rest)) (ap (λ ws. each f (map view ws)) (left_from vs i v here is) ∙ one_more (f (view v)) x (each f (map view (drop (i + 1) vs))) read))
    ∙ so_far

-- a value is not of the form
pub each_stops : {A : Type 0} (f : Data → Option A) (vs : List Value) (i : ℕ) (v : Value) (found : List A) (all : Option (List A))
    → i < length vs → v ≡ get_or vs i v → f (view v) ≡ None
    → option_map (λ rest. found ++ rest) (each f (map view (drop i vs))) ≡ all → all ≡ None
each_stops f vs i v found all here is read so_far =
    sym so_far
    ∙ ap (option_map (λ rest. found ++ rest)) (ap (λ ws. each f (map view ws)) (left_from vs i v here is) ∙ none_more (f (view v)) (each f (map view (drop (i + 1) vs))) read)

-- all were read
pub each_ends : {A : Type 0} (f : Data → Option A) (vs : List Value) (i : ℕ) (found : List A) (all : Option (List A)) → length vs ≤ i
    → option_map (λ rest. found ++ rest) (each f (map view (drop i vs))) ≡ all → all ≡ Some found
each_ends f vs i found all past so_far =
    sym so_far ∙ ap (λ ws. option_map (λ rest. found ++ rest) (each f (map view ws))) (drop_all i vs past) ∙ ap Some (append-nil found)

-- the same for what the nodes have, from a node on
pub replicas_next : (vs : List Value) (i node : ℕ) (v : Value) (x : ReplicaView) (found new : List ReplicaView) (all : Option (List ReplicaView))
    → i < length vs → v ≡ get_or vs i v → replica_of node (view v) ≡ Some x → new ≡ found ++ x ∷ []
    → option_map (λ rest. found ++ rest) (replicas_from node (map view (drop i vs))) ≡ all
    → option_map (λ rest. new ++ rest) (replicas_from (node + 1) (map view (drop (i + 1) vs))) ≡ all
replicas_next vs i node v x found new all here is read behind so_far =
    ap (λ xs. option_map (λ rest. xs ++ rest) (replicas_from (node + 1) (map view (drop (i + 1) vs)))) behind
    ∙ sym (put_behind found x (replicas_from (node + 1) (map view (drop (i + 1) vs))))
    ∙ sym (ap (option_map (λ rest. found ++ rest)) (ap (λ ws. replicas_from node (map view ws)) (left_from vs i v here is) ∙ one_more (replica_of node (view v)) x (replicas_from (node + 1) (map view (drop (i + 1) vs))) read))
    ∙ so_far

pub replicas_stop : (vs : List Value) (i node : ℕ) (v : Value) (found : List ReplicaView) (all : Option (List ReplicaView))
    → i < length vs → v ≡ get_or vs i v → replica_of node (view v) ≡ None
    → option_map (λ rest. found ++ rest) (replicas_from node (map view (drop i vs))) ≡ all → all ≡ None
replicas_stop vs i node v found all here is read so_far =
    sym so_far
    ∙ ap (option_map (λ rest. found ++ rest)) (ap (λ ws. replicas_from node (map view ws)) (left_from vs i v here is) ∙ none_more (replica_of node (view v)) (replicas_from (node + 1) (map view (drop (i + 1) vs))) read)

pub replicas_end : (vs : List Value) (i node : ℕ) (found : List ReplicaView) (all : Option (List ReplicaView)) → length vs ≤ i
    → option_map (λ rest. found ++ rest) (replicas_from node (map view (drop i vs))) ≡ all → all ≡ Some found
replicas_end vs i node found all past so_far =
    sym so_far ∙ ap (λ ws. option_map (λ rest. found ++ rest) (replicas_from node (map view ws))) (drop_all i vs past) ∙ ap Some (append-nil found)

-- the same, as the code puts them
pub each_puts : {A : Type 0} (f : Data → Option A) (vs : List Value) (i : ℕ) (v : Value) (found new : List A) (all : Option (List A)) (done : ⊤)
    → i < length vs → v ≡ get_or vs i v → Puts (f (view v)) found new (Ok done)
    → option_map (λ rest. found ++ rest) (each f (map view (drop i vs))) ≡ all
    → option_map (λ rest. new ++ rest) (each f (map view (drop (i + 1) vs))) ≡ all
each_puts f vs i v found new all done here is (x, read, behind) so_far = each_next f vs i v x found new all here is read behind so_far

pub each_fails : {A : Type 0} (f : Data → Option A) (vs : List Value) (i : ℕ) (v : Value) (found new : List A) (all : Option (List A)) (e : FormFault)
    → i < length vs → v ≡ get_or vs i v → Puts (f (view v)) found new (Err e)
    → option_map (λ rest. found ++ rest) (each f (map view (drop i vs))) ≡ all → Forms {A = List A} (Err e) all
each_fails f vs i v found new all NotReport here is read so_far = each_stops f vs i v found all here is read so_far
each_fails f vs i v found new all NoMemory here is read so_far = tt

pub replicas_put : (vs : List Value) (i node : ℕ) (v : Value) (found new : List ReplicaView) (all : Option (List ReplicaView)) (done : ⊤)
    → i < length vs → v ≡ get_or vs i v → Puts (replica_of node (view v)) found new (Ok done)
    → option_map (λ rest. found ++ rest) (replicas_from node (map view (drop i vs))) ≡ all
    → option_map (λ rest. new ++ rest) (replicas_from (node + 1) (map view (drop (i + 1) vs))) ≡ all
replicas_put vs i node v found new all done here is (x, read, behind) so_far = replicas_next vs i node v x found new all here is read behind so_far

pub replicas_fail : (vs : List Value) (i node : ℕ) (v : Value) (found new : List ReplicaView) (all : Option (List ReplicaView)) (e : FormFault)
    → i < length vs → v ≡ get_or vs i v → Puts (replica_of node (view v)) found new (Err e)
    → option_map (λ rest. found ++ rest) (replicas_from node (map view (drop i vs))) ≡ all → Forms {A = List ReplicaView} (Err e) all
replicas_fail vs i node v found new all NotReport here is read so_far = replicas_stop vs i node v found all here is read so_far
replicas_fail vs i node v found new all NoMemory here is read so_far = tt
