-- A flush reads of what waits only what its inbox names.
use Rattle.std.proofs.Common.{◌≡◌, ℕ, ◌==◌, ◌||◌, max, Bool, true, false, cond, List, [], ◌∷◌, map, Option, None, Some, refl, sym, ap, subst, ◌∙◌}
use Rattle.std.proofs.lemmas.Bool.{or_left, or_right}
use Rattle.std.specs.Prelude.{not, option_and_then, option_map}
use Rattle.std.specs.Option.{option_map_or}
use Rattle.std.specs.List.{All, AllByRecursion, IsDistinct, cons_option, filter, find}
use Rattle.std.proofs.lemmas.List.Elements.{All-nil, All-cons, All-head, All-tail, All-filter}
use Rattle.rp_base.specs.declared.ids.CmdId.{CmdId}
use Rattle.rp_base.specs.declared.items.Item.{Item}
use Rattle.rp_base.specs.declared.items.Item.TheVariants.{Write, Lease}
use Rattle.rp_request.specs.declared.commands.Waiting.{Waiting}
use Rattle.rp_flush.specs.declared.assigns.Assigned.{Assigned}
use Rattle.rp_base.specs.Ids.{same_id}
use Rattle.rp_flush.specs.Assigns.{asks_of, ids_of, once, seq_of, waits_under, waits_under_another, last_after, numbered, assigned_of}
use Rattle.rp_flush.specs.Counts.{stands}
use Rattle.rp_pending.specs.declared.proposals.Proposal.{Proposal}
use Rattle.rp_pending.specs.Proposals.{is_proposed, proposal_of}
use Rattle.rp_pending.specs.Refreshes.{waits, waiting_of}
use Rattle.rp_replica.specs.Waits.{waiting_in}
use Rattle.rp_base.proofs.IdLaws.{same_is, same_back, same_itself}

-- the sequence under which a proposal waits, where it does
abbrev pub seq_when : Option Proposal → Option ℕ
seq_when o = option_map (λ (w : Waiting). w.seq) (option_and_then waits o)

abbrev waiting : Proposal → Waiting
waiting p = record { id = p.id; seq = p.seq }

-- of all that waits: the proposal with the id tells it, as no other one has the id
none_has : (id : CmdId) (ps : List Proposal) → AllByRecursion (λ y. same_id id y ≡ false) (map (λ (p : Proposal). p.id) ps) → proposal_of id ps ≡ None
none_has id [] a = refl
none_has id (p ∷ ps) a = ap (λ b. cond b (Some p) (proposal_of id ps)) a.0 ∙ none_has id ps a.1

alone : (id : CmdId) (p : Proposal) (ps : List Proposal) → IsDistinct same_id (map (λ (q : Proposal). q.id) (p ∷ ps)) → same_id p.id id ≡ true → proposal_of id ps ≡ None
unfolding IsDistinct
alone id p ps d e = subst (λ x. proposal_of x ps ≡ None) (same_is p.id id e) (none_has p.id ps d.0)

others_distinct : (p : Proposal) (ps : List Proposal) → IsDistinct same_id (map (λ (q : Proposal). q.id) (p ∷ ps)) → IsDistinct same_id (map (λ (q : Proposal). q.id) ps)
unfolding IsDistinct
others_distinct p ps d = d.1

wait_more : (id : CmdId) (p : Proposal) (b c : Bool) (ws : List Waiting) (o : Option ℕ) → same_id p.id id ≡ c → (c ≡ true → o ≡ None) → seq_of ws id ≡ o
    → seq_of (cons_option (cond b None (Some (waiting p))) ws) id ≡ cond c (option_map (λ (w : Waiting). w.seq) (cond b None (Some (waiting p)))) o
wait_more id p true true ws o e gone ih = ih ∙ gone refl
wait_more id p true false ws o e gone ih = ih
wait_more id p false c ws o e gone ih = pick c e ih
  where
    pick : (d : Bool) → same_id p.id id ≡ d → seq_of ws id ≡ o
        → option_map (λ (w : Waiting). w.seq) (cond (same_id p.id id) (Some (waiting p)) (find (λ w. same_id w.id id) ws)) ≡ cond d (Some p.seq) o
    pick true h k = ap (λ d. option_map (λ (w : Waiting). w.seq) (cond d (Some (waiting p)) (find (λ w. same_id w.id id) ws))) h
    pick false h k = ap (λ d. option_map (λ (w : Waiting). w.seq) (cond d (Some (waiting p)) (find (λ w. same_id w.id id) ws))) h ∙ k

when_cond : (c : Bool) (p : Proposal) (o : Option Proposal) → cond c (seq_when (Some p)) (seq_when o) ≡ seq_when (cond c (Some p) o)
when_cond true p o = refl
when_cond false p o = refl

pub all_waits : (id : CmdId) (ps : List Proposal) → IsDistinct same_id (map (λ (p : Proposal). p.id) ps) → seq_of (waiting_of ps) id ≡ seq_when (proposal_of id ps)
all_waits id [] d = refl
all_waits id (p ∷ ps) d =
    wait_more id p (is_proposed p.stage) (same_id id p.id) (waiting_of ps) (seq_when (proposal_of id ps)) (same_back p.id id)
    (λ e. ap seq_when (alone id p ps d (same_back p.id id ∙ e))) (all_waits id ps (others_distinct p ps d))
    ∙ when_cond (same_id id p.id) p (proposal_of id ps)

-- of what waits of the inbox: the same, where the inbox names it
waits_named : (b : Bool) (p : Proposal) (w : Waiting) → cond b None (Some (waiting p)) ≡ Some w → p.id ≡ w.id
waits_named true p w h = cc
waits_named false p w h = let e : waiting p ≡ w = cc in ap (λ (v : Waiting). v.id) e

named : (id : CmdId) (ps : List Proposal) (w : Waiting) → option_and_then waits (proposal_of id ps) ≡ Some w → id ≡ w.id
named id [] w h = cc
named id (p ∷ ps) w h = by (same_id id p.id) refl h (named id ps w)
  where
    by : (c : Bool) → same_id id p.id ≡ c → option_and_then waits (cond c (Some p) (proposal_of id ps)) ≡ Some w
        → (option_and_then waits (proposal_of id ps) ≡ Some w → id ≡ w.id) → id ≡ w.id
    by true e k ih = same_is id p.id e ∙ waits_named (is_proposed p.stage) p w k
    by false e k ih = ih k

none_by : (b : Bool) (o : Option ℕ) → o ≡ None → cond b o None ≡ o
none_by true o h = refl
none_by false o h = sym h

item_more : (id k : CmdId) (ps : List Proposal) (s b : Bool) (o : Option Waiting) (ws : List Waiting) → same_id k id ≡ s
    → option_and_then waits (proposal_of k ps) ≡ o → seq_of ws id ≡ cond b (seq_when (proposal_of id ps)) None
    → seq_of (cons_option o ws) id ≡ cond (s || b) (seq_when (proposal_of id ps)) None
item_more id k ps true b None ws e f ih =
    let g : seq_when (proposal_of id ps) ≡ None = ap (λ x. seq_when (proposal_of x ps)) (sym (same_is k id e)) ∙ ap (option_map (λ (w : Waiting). w.seq)) f in
    ih ∙ none_by b _ g
item_more id k ps true b (Some w) ws e f ih =
    let g : seq_when (proposal_of id ps) ≡ Some w.seq = ap (λ x. seq_when (proposal_of x ps)) (sym (same_is k id e)) ∙ ap (option_map (λ (w : Waiting). w.seq)) f in
    ap (λ d. option_map (λ (w : Waiting). w.seq) (cond d (Some w) (find (λ w. same_id w.id id) ws))) (subst (λ x. same_id x id ≡ true) (named k ps w f) e) ∙ sym g
item_more id k ps false b None ws e f ih = ih
item_more id k ps false b (Some w) ws e f ih =
    ap (λ d. option_map (λ (w : Waiting). w.seq) (cond d (Some w) (find (λ w. same_id w.id id) ws))) (subst (λ x. same_id x id ≡ false) (named k ps w f) e) ∙ ih

inbox_waits : (id : CmdId) (ps : List Proposal) (inbox : List Item)
    → seq_of (waiting_in ps inbox) id ≡ cond (stands id (ids_of inbox)) (seq_when (proposal_of id ps)) None
inbox_waits id ps [] = refl
inbox_waits id ps (Lease ask ∷ inbox) = inbox_waits id ps inbox
inbox_waits id ps (Write k ∷ inbox) = item_more id k ps (same_id k id) (stands id (ids_of inbox)) _ (waiting_in ps inbox) refl refl (inbox_waits id ps inbox)

-- each id of a list stands in it
each_stands : (all ids : List CmdId) → ((id : CmdId) → stands id ids ≡ true → stands id all ≡ true) → All (λ id. stands id all ≡ true) ids
each_stands all [] sub = All-nil _
each_stands all (id ∷ ids) sub =
    All-cons (λ x. stands x all ≡ true) id ids (sub id (or_left (same_id id id) (stands id ids) (same_itself id)))
    (each_stands all ids (λ x h. sub x (or_right (same_id id x) (stands x ids) h)))

-- to each id of the inbox the two lists answer the same
answer_same : (ps : List Proposal) (inbox : List Item) (ids : List CmdId) → IsDistinct same_id (map (λ (p : Proposal). p.id) ps)
    → All (λ id. stands id (ids_of inbox) ≡ true) ids → All (λ id. seq_of (waiting_in ps inbox) id ≡ seq_of (waiting_of ps) id) ids
answer_same ps inbox [] d h = All-nil _
answer_same ps inbox (id ∷ ids) d h =
    All-cons (λ x. seq_of (waiting_in ps inbox) x ≡ seq_of (waiting_of ps) x) id ids
    (inbox_waits id ps inbox ∙ ap (λ b. cond b (seq_when (proposal_of id ps)) None) (All-head (λ x. stands x (ids_of inbox) ≡ true) id ids h) ∙ sym (all_waits id ps d))
    (answer_same ps inbox ids d (All-tail (λ x. stands x (ids_of inbox) ≡ true) id ids h))

-- what is assigned depends on the answers to the ids of the inbox alone
all_once : (P : CmdId → Type 0) (ids : List CmdId) → All P ids → All P (once ids)
all_once P [] h = All-nil _
all_once P (id ∷ ids) h = All-cons P id _ (All-head P id ids h) (All-filter _ P (once ids) (all_once P ids (All-tail P id ids h)))

filtered_same : (test : Option ℕ → Bool) (f g : CmdId → Option ℕ) (ids : List CmdId) → All (λ id. f id ≡ g id) ids
    → filter (λ id. test (f id)) ids ≡ filter (λ id. test (g id)) ids
filtered_same test f g [] h = refl
filtered_same test f g (id ∷ ids) h =
    ap (λ o. cond (test o) (id ∷ filter (λ x. test (f x)) ids) (filter (λ x. test (f x)) ids)) (All-head (λ x. f x ≡ g x) id ids h)
    ∙ ap (λ l. cond (test (g id)) (id ∷ l) l) (filtered_same test f g ids (All-tail (λ x. f x ≡ g x) id ids h))

abbrev with_lists : List Item → (lai assigned : ℕ) → List CmdId → List CmdId → Assigned
with_lists inbox lai assigned proposed refused =
    record { leases = asks_of inbox; writes = numbered (max assigned lai) proposed; refused = refused; last = last_after lai assigned proposed }

assigned_same : (inbox : List Item) (vs ws : List Waiting) (seq lai assigned : ℕ) → All (λ id. seq_of vs id ≡ seq_of ws id) (ids_of inbox)
    → assigned_of inbox vs seq lai assigned ≡ assigned_of inbox ws seq lai assigned
assigned_same inbox vs ws seq lai assigned h =
    let each = all_once (λ id. seq_of vs id ≡ seq_of ws id) (ids_of inbox) h in
    ap (λ l. with_lists inbox lai assigned l (filter (waits_under_another vs seq) (once (ids_of inbox)))) (filtered_same (λ o. option_map_or (λ s. s == seq) o false) (seq_of vs) (seq_of ws) _ each)
    ∙ ap (with_lists inbox lai assigned (filter (waits_under ws seq) (once (ids_of inbox)))) (filtered_same (λ o. option_map_or (λ s. not (s == seq)) o false) (seq_of vs) (seq_of ws) _ each)

-- so a flush may read what waits of its inbox alone
pub read_of_inbox : (inbox : List Item) (ps : List Proposal) (seq lai assigned : ℕ) → IsDistinct same_id (map (λ (p : Proposal). p.id) ps)
    → assigned_of inbox (waiting_in ps inbox) seq lai assigned ≡ assigned_of inbox (waiting_of ps) seq lai assigned
read_of_inbox inbox ps seq lai assigned d =
    assigned_same inbox (waiting_in ps inbox) (waiting_of ps) seq lai assigned (answer_same ps inbox (ids_of inbox) d (each_stands (ids_of inbox) (ids_of inbox) (λ id h. h)))

-- the same of what a body has made
pub read_of_items : (inbox items : List Item) (ps : List Proposal) (ws : List Waiting) (seq lai assigned : ℕ) → items ≡ inbox → ws ≡ waiting_in ps items
    → IsDistinct same_id (map (λ (p : Proposal). p.id) ps) → assigned_of inbox ws seq lai assigned ≡ assigned_of inbox (waiting_of ps) seq lai assigned
read_of_items inbox items ps ws seq lai assigned e w d =
    ap (λ l. assigned_of inbox l seq lai assigned) (w ∙ ap (waiting_in ps) e) ∙ read_of_inbox inbox ps seq lai assigned d
