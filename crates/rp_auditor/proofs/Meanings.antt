-- What the checks say in the words of ranges: the state along entries is the fold of their items, and
-- each command has at most one place.
use Rattle.std.proofs.Common.{◌≡◌, ℕ, ◌+◌, ◌≤◌, Bool, true, false, cond, List, [], ◌∷◌, ◌++◌, Option, None, Some, refl, sym, ap, ap₂, subst, ◌∙◌, arith, append-nil, zero-add}
use Rattle.std.specs.Prelude.{not, is_some, option_and_then, if◌then◌else◌}
use Rattle.std.specs.Map.{lookup}
use Rattle.rp_base.proofs.Counts.{count_cons}
use Rattle.rp_base.specs.declared.ids.CmdId.{CmdId}
use Rattle.rp_request.specs.Items.{State, after_item, fold}
use Rattle.rp_request.specs.Places.{is_of, names, places_of}
use Rattle.rp_request.specs.declared.items.Place.TheVariants.{Write, Split, Lease}
use Rattle.rp_request.specs.declared.items.Record.{Record}
use Rattle.rp_request.specs.declared.items.Record.TheVariants.{Took, Passed}
use Rattle.rp_reread.specs.declared.reports.Entry.{Entry}
use Rattle.rp_auditor.specs.Playing.{after_record, after_entries}
use Rattle.std.proofs.lemmas.Bool.Decides.{nat_tests}
use Rattle.rp_request.specs.declared.outcomes.Reply.TheVariants.{Range}
use Rattle.rp_auditor.specs.Holding.{EntriesHold, RecordHolds}
use Rattle.rp_auditor.specs.Places.{items_of}
use Rattle.rp_auditor.specs.Seen.{Seen, is_command, place_of, room, is_new, named_by}
use Rattle.rp_auditor.specs.declared.seen.Command.{Command}
use Rattle.rp_auditor.specs.declared.seen.Placed.{Placed}
use Rattle.rp_auditor.specs.declared.seen.Placed.TheVariants.{Once}
use Rattle.rp_auditor.proofs.Going.{none_after_all}

-- the state along entries is the fold of their items
fold_on : (o : Option State) (es : List Entry) → ((s : State) → after_entries (Some s) es ≡ fold s (items_of es))
    → after_entries o es ≡ option_and_then (λ t. fold t (items_of es)) o
fold_on None es ih = none_after_all es
fold_on (Some s) es ih = ih s

fold_by : (kept : Record) (s : State) (es : List Entry) → ((t : State) → after_entries (Some t) es ≡ fold t (items_of es))
    → (index : ℕ) → after_entries (Some s) (record { index = index; kept = kept } ∷ es) ≡ fold s (items_of (record { index = index; kept = kept } ∷ es))
fold_by (Took item) s es ih index = fold_on (after_item s item) es ih
fold_by (Passed why) s es ih index = ih s

pub entries_fold : (s : State) (es : List Entry) → after_entries (Some s) es ≡ fold s (items_of es)
entries_fold s [] = refl
entries_fold s (e ∷ es) = fold_by e.kept s es (λ t. entries_fold t es) e.index

-- a look-up in a list with one entry more
abbrev looked : Option Placed → Bool → Placed → Option Placed
looked (Some found) b p = Some found
looked None b p = if b then Some p else None

looked_past : (b d : Bool) (x p : Placed) (o : Option Placed) → (if b then Some x else looked o d p) ≡ looked (if b then Some x else o) d p
looked_past true d x p o = refl
looked_past false d x p o = refl

lookup_more : (test : Command → Bool) (xs : Seen) (c : Command) (p : Placed)
    → lookup test (xs ++ (c, p) ∷ []) ≡ looked (lookup test xs) (test c) p
lookup_more test [] c p = refl
lookup_more test (x ∷ xs) c p =
    ap (λ o. if test x.0 then Some x.1 else o) (lookup_more test xs c p)
    ∙ looked_past (test x.0) (test c) x.1 p (lookup test xs)

looked_false : (o : Option Placed) (p : Placed) → looked o false p ≡ o
looked_false None p = refl
looked_false (Some x) p = refl

-- both tests of a command say the same
tests_agree : (client seq : ℕ) (id : CmdId) → is_command client seq (record { client = id.client; seq = id.seq }) ≡ is_of client seq id
tests_agree client seq id = grind (arith, nat_tests)

named_so : (client seq : ℕ) (id : CmdId) → is_of client seq id ≡ true → (id.client ≡ client) × (id.seq ≡ seq)
named_so client seq id h = grind (arith, nat_tests)

not_some : (o : Option Placed) → not (is_some o) ≡ true → o ≡ None
not_some None h = refl
not_some (Some p) h = cc

-- one item more that names a command
one_named : (client seq : ℕ) (seen : Seen) (id : CmdId) (p : Placed) (rest : ℕ) (named : Bool) → is_of client seq id ≡ named → is_new seen id ≡ true
    → rest ≤ room (place_of (seen ++ (record { client = id.client; seq = id.seq }, p) ∷ []) client seq)
    → cond named 1 0 + rest ≤ room (place_of seen client seq)
one_named client seq seen id p rest true h new few =
    let (c, q) = named_so client seq id h in
    let none : place_of seen client seq ≡ None =
    ap₂ (λ x y. place_of seen x y) (sym c) (sym q) ∙ not_some (place_of seen id.client id.seq) new in
    let there : place_of (seen ++ (record { client = id.client; seq = id.seq }, p) ∷ []) client seq ≡ Some p =
    lookup_more (is_command client seq) seen _ p ∙ ap₂ (λ o b. looked o b p) none (tests_agree client seq id ∙ h) in
    let none_left : rest ≤ 0 = rw there at few in
    rw none (omega arith)
one_named client seq seen id p rest false h new few =
    let same : place_of (seen ++ (record { client = id.client; seq = id.seq }, p) ∷ []) client seq ≡ looked (place_of seen client seq) false p =
    lookup_more (is_command client seq) seen _ p ∙ ap (λ b. looked (place_of seen client seq) b p) (tests_agree client seq id ∙ h) in
    let as_before : looked (place_of seen client seq) false p ≡ place_of seen client seq = looked_false (place_of seen client seq) p in
    let left : rest ≤ room (place_of seen client seq) = rw (same ∙ as_before) at few in
    rw (zero-add rest) left

-- nothing is named
none_named : (client seq : ℕ) (seen : Seen) (rest : ℕ) → rest ≤ room (place_of (seen ++ []) client seq) → rest ≤ room (place_of seen client seq)
none_named client seq seen rest few = subst (λ xs. rest ≤ room (place_of xs client seq)) (append-nil seen) few

once_by : (client seq : ℕ) (seen : Seen) (s : Option State) (kept : Record) (index : ℕ) (es : List Entry) → RecordHolds seen s kept
    → places_of client seq (items_of es) ≤ room (place_of (seen ++ named_by kept) client seq)
    → places_of client seq (items_of (record { index = index; kept = kept } ∷ es)) ≤ room (place_of seen client seq)
once_by client seq seen s (Passed why) index es h few = none_named client seq seen (places_of client seq (items_of es)) few
once_by client seq seen s (Took (Lease lease)) index es h few =
    rw (count_cons (names client seq) (Lease lease) (items_of es), zero-add (places_of client seq (items_of es)))
    (none_named client seq seen (places_of client seq (items_of es)) few)
once_by client seq seen s (Took (Write id request lease_seq reply)) index es h few =
    rw (count_cons (names client seq) (Write id request lease_seq reply) (items_of es))
    (one_named client seq seen id (Once id.attempt reply) (places_of client seq (items_of es)) (is_of client seq id) refl h.once few)
once_by client seq seen s (Took (Split id key right lease_seq)) index es h few =
    rw (count_cons (names client seq) (Split id key right lease_seq) (items_of es))
    (one_named client seq seen id (Once id.attempt (Range right)) (places_of client seq (items_of es)) (is_of client seq id) refl h.once few)

-- a command has at most one place among entries of which each holds, and none where it was seen before
pub once_in : (client seq : ℕ) (seen : Seen) (s : Option State) (es : List Entry) → EntriesHold seen s es
    → places_of client seq (items_of es) ≤ room (place_of seen client seq)
once_in client seq seen s [] h = omega arith
once_in client seq seen s (e ∷ es) (one, rest) =
    once_by client seq seen s e.kept e.index es one (once_in client seq (seen ++ named_by e.kept) (after_record s e.kept) es rest)
