-- One item of an inbox more.
use Rattle.std.proofs.Common.{◌≡◌, ℕ, suc, ◌+◌, ◌≤◌, ◌<◌, ◌==◌, ◌||◌, max, Bool, true, false, cond, not, Option, Some, None, List, [], ◌∷◌, ◌++◌, length, take, get_or, refl, ap, ◌∙◌, sym, arith, append-nil, length-append}
use Rattle.std.proofs.lemmas.List.{take_more}
use Rattle.std.proofs.lemmas.List.Elements.{filter-append, filter_map-append}
use Rattle.std.proofs.lemmas.List.Folds.{list_any-append}
use Rattle.std.specs.List.{filter}
use Rattle.rp_base.specs.declared.ids.CmdId.{CmdId}
use Rattle.rp_base.specs.declared.items.Item.{Item}
use Rattle.rp_base.specs.declared.items.Item.TheVariants.{Write, Lease}
use Rattle.rp_base.specs.declared.leases.LeaseAsk.{LeaseAsk}
use Rattle.rp_request.specs.declared.commands.Waiting.{Waiting}
use Rattle.rp_flush.specs.declared.assigns.Assigned.{Assigned}
use Rattle.rp_base.specs.Ids.{same_id}
use Rattle.rp_flush.specs.Assigns.{ask_of, id_of, asks_of, ids_of, once, seq_of, waits_under, waits_under_another, next_index, last_after, numbered, assigned_of}
use Rattle.rp_flush.specs.Counts.{stands}
use Rattle.rp_flush.specs.Steps.{is_write_of, settled, with_item}

filter_yes : (p : CmdId → Bool) (xs : List CmdId) (x : CmdId) → p x ≡ true → filter p (xs ++ x ∷ []) ≡ filter p xs ++ x ∷ []
filter_yes p xs x e = filter-append p xs (x ∷ []) ∙ ap (λ b. filter p xs ++ cond b (x ∷ []) []) e

filter_no : (p : CmdId → Bool) (xs : List CmdId) (x : CmdId) → p x ≡ false → filter p (xs ++ x ∷ []) ≡ filter p xs
filter_no p xs x e = filter-append p xs (x ∷ []) ∙ ap (λ b. filter p xs ++ cond b (x ∷ []) []) e ∙ append-nil (filter p xs)

-- a command more stands in the list of each once, where it was not there
once_by : (x id : CmdId) (xs : List CmdId) (s b : Bool) → same_id x id ≡ s → once (xs ++ id ∷ []) ≡ cond b (once xs) (once xs ++ id ∷ [])
    → once ((x ∷ xs) ++ id ∷ []) ≡ cond (s || b) (once (x ∷ xs)) (once (x ∷ xs) ++ id ∷ [])
once_by x id xs true true e h = ap (λ l. x ∷ filter (λ other. not (same_id x other)) l) h
once_by x id xs true false e h =
    ap (λ l. x ∷ filter (λ other. not (same_id x other)) l) h
    ∙ ap (λ l. x ∷ l) (filter_no (λ other. not (same_id x other)) (once xs) id (ap not e))
once_by x id xs false true e h = ap (λ l. x ∷ filter (λ other. not (same_id x other)) l) h
once_by x id xs false false e h =
    ap (λ l. x ∷ filter (λ other. not (same_id x other)) l) h
    ∙ ap (λ l. x ∷ l) (filter_yes (λ other. not (same_id x other)) (once xs) id (ap not e))

pub once_more : (xs : List CmdId) (id : CmdId) → once (xs ++ id ∷ []) ≡ cond (stands id xs) (once xs) (once xs ++ id ∷ [])
once_more [] id = refl
once_more (x ∷ xs) id = once_by x id xs _ _ refl (once_more xs id)

-- the index of a command more
pub numbered_more : (last : ℕ) (ids : List CmdId) (id : CmdId) → numbered last (ids ++ id ∷ []) ≡ numbered last ids ++ (id, last + length ids + 1) ∷ []
numbered_more last [] id =
    let e : last + 1 ≡ last + 0 + 1 = omega arith in
    ap (λ n. (id, n) ∷ []) e
numbered_more last (x ∷ xs) id =
    let e : last + 1 + length xs + 1 ≡ last + suc (length xs) + 1 = omega arith in
    ap (λ l. (x, last + 1) ∷ l) (numbered_more (last + 1) xs id ∙ ap (λ n. numbered (last + 1) xs ++ (id, n) ∷ []) e)

-- the index of a command more is the next one, which is then the last assigned
next_more : (lai assigned : ℕ) (ids : List CmdId) → max assigned lai + length ids + 1 ≡ next_index lai (last_after lai assigned ids)
next_more lai assigned [] = omega arith
next_more lai assigned (x ∷ xs) = omega arith

last_one_more : (lai assigned : ℕ) (ids : List CmdId) (id : CmdId) → last_after lai assigned (ids ++ id ∷ []) ≡ next_index lai (last_after lai assigned ids)
last_one_more lai assigned [] id = omega arith
last_one_more lai assigned (x ∷ xs) id =
    let long : length (xs ++ id ∷ []) ≡ length xs + 1 = length-append xs (id ∷ []) in
    omega (arith, long)

-- what is made of lists of lease asks, of commands that are proposed, and of refused ones
abbrev of_lists : List LeaseAsk → List CmdId → List CmdId → (lai assigned : ℕ) → Assigned
of_lists asks proposed refused lai assigned =
    record { leases = asks; writes = numbered (max assigned lai) proposed; refused = refused; last = last_after lai assigned proposed }

abbrev of_ids : List LeaseAsk → List CmdId → List Waiting → (seq lai assigned : ℕ) → Assigned
of_ids asks ids waiting seq lai assigned =
    of_lists asks (filter (waits_under waiting seq) ids) (filter (waits_under_another waiting seq) ids) lai assigned

one_proposed : (asks : List LeaseAsk) (ids refused : List CmdId) (id : CmdId) (lai assigned : ℕ)
    → of_lists asks (ids ++ id ∷ []) refused lai assigned
    ≡ record {
      leases = asks;
      writes = numbered (max assigned lai) ids ++ (id, next_index lai (last_after lai assigned ids)) ∷ [];
      refused = refused;
      last = next_index lai (last_after lai assigned ids);
    }
one_proposed asks ids refused id lai assigned =
    let last = last_after lai assigned (ids ++ id ∷ []) in
    let next = next_index lai (last_after lai assigned ids) in
    ap (λ (w : List (CmdId × ℕ)). record { leases = asks; writes = w; refused = refused; last = last }) (numbered_more (max assigned lai) ids id)
    ∙ ap (λ (n : ℕ). record { leases = asks; writes = numbered (max assigned lai) ids ++ (id, n) ∷ []; refused = refused; last = last }) (next_more lai assigned ids)
    ∙ ap (λ (n : ℕ). record { leases = asks; writes = numbered (max assigned lai) ids ++ (id, next) ∷ []; refused = refused; last = n }) (last_one_more lai assigned ids id)

-- a command more, which stood nowhere before: it is proposed, refused or ignored
fresh_by : (asks : List LeaseAsk) (ids : List CmdId) (waiting : List Waiting) (seq lai assigned own : ℕ) (id : CmdId) (b : Bool) → seq_of waiting id ≡ Some own → (own == seq) ≡ b
    → of_ids asks (ids ++ id ∷ []) waiting seq lai assigned ≡ settled (of_ids asks ids waiting seq lai assigned) id seq lai (Some own)
fresh_by asks ids waiting seq lai assigned own id true e s =
    let u : waits_under waiting seq id ≡ true = simp e s in
    let v : waits_under_another waiting seq id ≡ false = simp (e, s) in
    ap (λ l. of_lists asks l (filter (waits_under_another waiting seq) (ids ++ id ∷ [])) lai assigned) (filter_yes (waits_under waiting seq) ids id u)
    ∙ ap (λ l. of_lists asks (filter (waits_under waiting seq) ids ++ id ∷ []) l lai assigned) (filter_no (waits_under_another waiting seq) ids id v)
    ∙ one_proposed asks (filter (waits_under waiting seq) ids) (filter (waits_under_another waiting seq) ids) id lai assigned
    ∙ simp s
fresh_by asks ids waiting seq lai assigned own id false e s =
    let u : waits_under waiting seq id ≡ false = simp e s in
    let v : waits_under_another waiting seq id ≡ true = simp (e, s) in
    ap (λ l. of_lists asks l (filter (waits_under_another waiting seq) (ids ++ id ∷ [])) lai assigned) (filter_no (waits_under waiting seq) ids id u)
    ∙ ap (λ l. of_lists asks (filter (waits_under waiting seq) ids) l lai assigned) (filter_yes (waits_under_another waiting seq) ids id v)
    ∙ simp s

fresh : (asks : List LeaseAsk) (ids : List CmdId) (waiting : List Waiting) (seq lai assigned : ℕ) (id : CmdId) (o : Option ℕ) → seq_of waiting id ≡ o
    → of_ids asks (ids ++ id ∷ []) waiting seq lai assigned ≡ settled (of_ids asks ids waiting seq lai assigned) id seq lai o
fresh asks ids waiting seq lai assigned id None e =
    let u : waits_under waiting seq id ≡ false = simp e in
    let v : waits_under_another waiting seq id ≡ false = simp e in
    ap (λ l. of_lists asks l (filter (waits_under_another waiting seq) (ids ++ id ∷ [])) lai assigned) (filter_no (waits_under waiting seq) ids id u)
    ∙ ap (λ l. of_lists asks (filter (waits_under waiting seq) ids) l lai assigned) (filter_no (waits_under_another waiting seq) ids id v)
fresh asks ids waiting seq lai assigned id (Some own) e = fresh_by asks ids waiting seq lai assigned own id _ e refl

-- a command more, where it stands already or not
written : (asks : List LeaseAsk) (ids : List CmdId) (waiting : List Waiting) (seq lai assigned : ℕ) (id : CmdId) (b : Bool)
    → of_ids asks (cond b (once ids) (once ids ++ id ∷ [])) waiting seq lai assigned
    ≡ settled (of_ids asks (once ids) waiting seq lai assigned) id seq lai (cond b None (seq_of waiting id))
written asks ids waiting seq lai assigned id true = refl
written asks ids waiting seq lai assigned id false = fresh asks (once ids) waiting seq lai assigned id _ refl

-- beside a map that knows the commands that wait and did not stand yet
pub item_more : (items : List Item) (item : Item) (waiting : List Waiting) (seq lai assigned : ℕ) (held : CmdId → Option ℕ)
    → ((id : CmdId) → held id ≡ cond (stands id (ids_of items)) None (seq_of waiting id))
    → assigned_of (items ++ item ∷ []) waiting seq lai assigned ≡ with_item (assigned_of items waiting seq lai assigned) held seq lai item
item_more items (Write id) waiting seq lai assigned held so =
    ap (λ asks. of_ids asks (once (ids_of (items ++ Write id ∷ []))) waiting seq lai assigned) (filter_map-append ask_of items (Write id ∷ []) ∙ append-nil (asks_of items))
    ∙ ap (λ ids. of_ids (asks_of items) (once ids) waiting seq lai assigned) (filter_map-append id_of items (Write id ∷ []))
    ∙ ap (λ ids. of_ids (asks_of items) ids waiting seq lai assigned) (once_more (ids_of items) id)
    ∙ written (asks_of items) (ids_of items) waiting seq lai assigned id (stands id (ids_of items))
    ∙ ap (settled (assigned_of items waiting seq lai assigned) id seq lai) (sym (so id))
item_more items (Lease ask) waiting seq lai assigned held so =
    ap (λ asks. of_ids asks (once (ids_of (items ++ Lease ask ∷ []))) waiting seq lai assigned) (filter_map-append ask_of items (Lease ask ∷ []))
    ∙ ap (λ ids. of_ids (asks_of items ++ ask ∷ []) (once ids) waiting seq lai assigned) (filter_map-append id_of items (Lease ask ∷ []) ∙ append-nil (ids_of items))

or_false : (b : Bool) → (b || false) ≡ b
or_false true = refl
or_false false = refl

stands_by : (id : CmdId) (b c : Bool) (o : Option ℕ) → cond c None (cond b None o) ≡ cond (b || c) None o
stands_by id true true o = refl
stands_by id true false o = refl
stands_by id false true o = refl
stands_by id false false o = refl

pub left_more : (items : List Item) (item : Item) (id : CmdId) (o : Option ℕ)
    → cond (is_write_of id item) None (cond (stands id (ids_of items)) None o) ≡ cond (stands id (ids_of (items ++ item ∷ []))) None o
left_more items (Write other) id o =
    stands_by id (stands id (ids_of items)) (same_id other id) o
    ∙ ap (λ b. cond b None o)
    (sym (ap (stands id) (filter_map-append id_of items (Write other ∷ [])) ∙ list_any-append (λ x. same_id x id) (ids_of items) (other ∷ []) ∙ ap (λ b. stands id (ids_of items) || b) (or_false (same_id other id))))
left_more items (Lease ask) id o =
    ap (λ ids. cond (stands id ids) None o) (sym (filter_map-append id_of items (Lease ask ∷ []) ∙ append-nil (ids_of items)))

-- an item raises the greater of the two indexes by one at most
raised_by : (a : Assigned) (id : CmdId) (seq lai own : ℕ) (b : Bool) → (own == seq) ≡ b → max (settled a id seq lai (Some own)).last lai ≤ max a.last lai + 1
raised_by a id seq lai own true e = simp e (omega arith)
raised_by a id seq lai own false e = simp e (omega arith)

raised : (a : Assigned) (id : CmdId) (seq lai : ℕ) (o : Option ℕ) → max (settled a id seq lai o).last lai ≤ max a.last lai + 1
raised a id seq lai None = omega arith
raised a id seq lai (Some own) = raised_by a id seq lai own _ refl

pub last_more : (a : Assigned) (held : CmdId → Option ℕ) (seq lai : ℕ) (item : Item) → max (with_item a held seq lai item).last lai ≤ max a.last lai + 1
last_more a held seq lai (Write id) = raised a id seq lai (held id)
last_more a held seq lai (Lease ask) = omega arith

-- the items so far and this one
pub items_more : (items : List Item) (i : ℕ) (item : Item) → i < length items → item ≡ get_or items i item → take i items ++ item ∷ [] ≡ take (i + 1) items
items_more items i item h is = ap (λ x. take i items ++ x ∷ []) is ∙ sym (take_more items i item h)
