-- What a flush assigns: no attempt stands twice, each waits, and there are no more than the inbox holds.
use Rattle.std.proofs.Common.{◌≡◌, ◌≤◌, ◌+◌, ◌==◌, ℕ, suc, max, Bool, true, false, cond, not, List, [], ◌∷◌, ◌++◌, length, map, Option, None, Some, refl, sym, ap, ◌∙◌, arith, length-append}
use Rattle.std.specs.Prelude.{filter_map}
use Rattle.std.specs.List.{filter, IsDistinct}
use Rattle.std.specs.Option.{option_map, option_map_or}
use Rattle.std.proofs.lemmas.Bool.{cond_both}
use Rattle.std.proofs.lemmas.List.{length-map}
use Rattle.rp_base.specs.declared.ids.CmdId.{CmdId}
use Rattle.rp_base.specs.declared.items.Item.{Item}
use Rattle.rp_base.specs.declared.items.Item.TheVariants.{Write, Lease}
use Rattle.rp_base.specs.Ids.{same_id}
use Rattle.rp_base.proofs.Elements.{fewer_filtered, fewer_mapped}
use Rattle.rp_base.proofs.IdLaws.{not_same_apart}
use Rattle.rp_codec.specs.Spelling.{spelling}
use Rattle.rp_request.specs.declared.commands.Payload.TheVariants as payloads
use Rattle.rp_request.specs.declared.commands.Waiting.{Waiting}
use Rattle.rp_flush.specs.declared.assigns.Assigned.{Assigned}
use Rattle.rp_flush.specs.Assigns.{asks_of, ids_of, once, seq_of, waits_under, waits_under_another, numbered, assigned_of}
use Rattle.rp_pending.specs.declared.proposals.Proposal.{Proposal}
use Rattle.rp_pending.specs.Proposals.{is_proposed, proposal_of}
use Rattle.rp_pending.specs.Refreshes.{waiting_of}
use Rattle.rp_events.specs.declared.moves.Move.{Move}
use Rattle.rp_events.specs.declared.moves.Move.TheVariants.{HandsOut, GivesUp}
use Rattle.rp_events.specs.Flushes.{flush_moves}
use Rattle.rp_replica.specs.Handing.{asks_spelled, handed_by, items_of, moves_spelled, payload_by, payloads_by}
use Rattle.rp_replica.proofs.Awaiting.{seq_when, all_waits}
use Rattle.rp_replica.proofs.Handing.{AllStand, AreApart, IsApart, IsFound}

-- attempts that pass a test
abbrev pub AllPass : (CmdId → Bool) → List CmdId → Type 0
AllPass test [] = Unit {0}
AllPass test (id ∷ ids) = (test id ≡ true) × AllPass test ids

-- no attempt stands twice
abbrev pub IdApart : CmdId → List CmdId → Type 0
IdApart id [] = Unit {0}
IdApart id (x ∷ xs) = (id ≡ x → ⊥) × IdApart id xs

abbrev pub IdsApart : List CmdId → Type 0
IdsApart [] = Unit {0}
IdsApart (id ∷ ids) = IdApart id ids × IdsApart ids

filtered_pass : (test : CmdId → Bool) (ids : List CmdId) → AllPass test (filter test ids)
filtered_pass test [] = tt
filtered_pass test (id ∷ ids) =
    cond_both (test id) (id ∷ filter test ids) (filter test ids) (AllPass test) (λ e. (e, filtered_pass test ids)) (λ e. filtered_pass test ids)

apart_filtered : (test : CmdId → Bool) (id : CmdId) (ids : List CmdId) → IdApart id ids → IdApart id (filter test ids)
apart_filtered test id [] a = tt
apart_filtered test id (x ∷ xs) a =
    cond_both (test x) (x ∷ filter test xs) (filter test xs) (IdApart id) (λ e. (a.0, apart_filtered test id xs a.1)) (λ e. apart_filtered test id xs a.1)

all_apart_filtered : (test : CmdId → Bool) (ids : List CmdId) → IdsApart ids → IdsApart (filter test ids)
all_apart_filtered test [] a = tt
all_apart_filtered test (x ∷ xs) a =
    cond_both (test x) (x ∷ filter test xs) (filter test xs) IdsApart (λ e. (apart_filtered test x xs a.0, all_apart_filtered test xs a.1)) (λ e. all_apart_filtered test xs a.1)

not_true : (b : Bool) → not b ≡ true → b ≡ false
not_true true e = cc
not_true false e = refl

others_apart : (id : CmdId) (ids : List CmdId) → IdApart id (filter (λ other. not (same_id id other)) ids)
others_apart id [] = tt
others_apart id (x ∷ xs) =
    cond_both (not (same_id id x)) (x ∷ filter (λ other. not (same_id id other)) xs) (filter (λ other. not (same_id id other)) xs) (IdApart id)
    (λ e. (not_same_apart id x (not_true (same_id id x) e), others_apart id xs)) (λ e. others_apart id xs)

once_apart : (ids : List CmdId) → IdsApart (once ids)
once_apart [] = tt
once_apart (id ∷ ids) = (others_apart id (once ids), all_apart_filtered (λ other. not (same_id id other)) (once ids) (once_apart ids))

-- what passes the one test is none of what passes the other
not_both : (o : Option ℕ) (seq : ℕ) → option_map_or (λ s. s == seq) o false ≡ true → option_map_or (λ s. not (s == seq)) o false ≡ true → ⊥
not_both None seq h k = cc
not_both (Some s) seq h k = clash (s == seq) h k
  where
    clash : (b : Bool) → b ≡ true → not b ≡ true → ⊥
    clash true h k = cc
    clash false h k = cc

pub cross_apart : (test : CmdId → Bool) (id : CmdId) (ids : List CmdId) → (test id ≡ true → ⊥) → AllPass test ids → IdApart id ids
cross_apart test id [] never h = tt
cross_apart test id (x ∷ xs) never h = ((λ e. never (ap test e ∙ h.0)), cross_apart test id xs never h.1)

-- the moves of a flush
hands_apart : (id : CmdId) (n : ℕ) (ids : List CmdId) → IdApart id ids → IsApart id (map (λ (write : CmdId × ℕ). HandsOut write.0 write.1) (numbered n ids))
hands_apart id n [] a = tt
hands_apart id n (x ∷ xs) a = (a.0, hands_apart id (n + 1) xs a.1)

hands_all_apart : (n : ℕ) (ids : List CmdId) → IdsApart ids → AreApart (map (λ (write : CmdId × ℕ). HandsOut write.0 write.1) (numbered n ids))
hands_all_apart n [] a = tt
hands_all_apart n (x ∷ xs) a = (hands_apart x (n + 1) xs a.0, hands_all_apart (n + 1) xs a.1)

gives_apart : (id : CmdId) (ids : List CmdId) (ms : List Move) → IdApart id ids → IsApart id ms → IsApart id (map GivesUp ids ++ ms)
gives_apart id [] ms a b = b
gives_apart id (x ∷ xs) ms a b = (a.0, gives_apart id xs ms a.1 b)

gives_all_apart : (test : CmdId → Bool) (ids : List CmdId) (ms : List Move) → IdsApart ids → AllPass test ids → ((id : CmdId) → test id ≡ true → IsApart id ms) → AreApart ms
    → AreApart (map GivesUp ids ++ ms)
gives_all_apart test [] ms a h f b = b
gives_all_apart test (x ∷ xs) ms a h f b = (gives_apart x xs ms a.0 (f x h.0), gives_all_apart test xs ms a.1 h.1 f b)

-- each waits
found_by : (test : ℕ → Bool) (id : CmdId) (ps : List Proposal) (o : Option Proposal) → proposal_of id ps ≡ o → option_map_or test (seq_when o) false ≡ true
    → IsFound (λ p. not (is_proposed p.stage)) ps id
found_by test id ps None here h = absurd cc
found_by test id ps (Some p) here h = go (is_proposed p.stage) refl h
  where
    go : (b : Bool) → is_proposed p.stage ≡ b → option_map_or test (option_map (λ (w : Waiting). w.seq) (cond b None (Some (record { id = p.id; seq = p.seq })))) false ≡ true
        → IsFound (λ q. not (is_proposed q.stage)) ps id
    go true e k = absurd cc
    go false e k = record { p = p; here = here; passes = ap not e }

found_waiting : (test : ℕ → Bool) (id : CmdId) (ps : List Proposal) → IsDistinct same_id (map (λ (p : Proposal). p.id) ps)
    → option_map_or test (seq_of (waiting_of ps) id) false ≡ true → IsFound (λ p. not (is_proposed p.stage)) ps id
found_waiting test id ps d h = found_by test id ps (proposal_of id ps) refl (ap (λ o. option_map_or test o false) (sym (all_waits id ps d)) ∙ h)

hands_stand : (lai : ℕ) (ps : List Proposal) (n : ℕ) (test : CmdId → Bool) (ids : List CmdId) → AllPass test ids
    → ((id : CmdId) → test id ≡ true → IsFound (λ p. not (is_proposed p.stage)) ps id)
    → AllStand lai ps (map (λ (write : CmdId × ℕ). HandsOut write.0 write.1) (numbered n ids))
hands_stand lai ps n test [] h f = tt
hands_stand lai ps n test (x ∷ xs) h f = (f x h.0, hands_stand lai ps (n + 1) test xs h.1 f)

gives_stand : (lai : ℕ) (ps : List Proposal) (test : CmdId → Bool) (ids : List CmdId) (ms : List Move) → AllPass test ids
    → ((id : CmdId) → test id ≡ true → IsFound (λ p. not (is_proposed p.stage)) ps id) → AllStand lai ps ms → AllStand lai ps (map GivesUp ids ++ ms)
gives_stand lai ps test [] ms h f s = s
gives_stand lai ps test (x ∷ xs) ms h f s = (f x h.0, gives_stand lai ps test xs ms h.1 f s)

module _ (inbox : List Item) (ps : List Proposal) (seq lai assigned : ℕ) where
  abbrev a : Assigned
  a = assigned_of inbox (waiting_of ps) seq lai assigned

  abbrev ids : List CmdId
  ids = once (ids_of inbox)

  abbrev given : List CmdId
  given = filter (waits_under (waiting_of ps) seq) ids

  pub flush_apart : AreApart (flush_moves a)
  flush_apart =
      gives_all_apart (waits_under_another (waiting_of ps) seq) a.refused (map (λ (write : CmdId × ℕ). HandsOut write.0 write.1) a.writes)
      (all_apart_filtered (waits_under_another (waiting_of ps) seq) ids (once_apart (ids_of inbox)))
      (filtered_pass (waits_under_another (waiting_of ps) seq) ids)
      (λ id h. hands_apart id (max assigned lai) given
      (cross_apart (waits_under (waiting_of ps) seq) id given (λ k. not_both (seq_of (waiting_of ps) id) seq k h) (filtered_pass (waits_under (waiting_of ps) seq) ids)))
      (hands_all_apart (max assigned lai) given (all_apart_filtered (waits_under (waiting_of ps) seq) ids (once_apart (ids_of inbox))))

  pub flush_stand : (index : ℕ) → IsDistinct same_id (map (λ (p : Proposal). p.id) ps) → AllStand index ps (flush_moves a)
  flush_stand index d =
      gives_stand index ps (waits_under_another (waiting_of ps) seq) a.refused (map (λ (write : CmdId × ℕ). HandsOut write.0 write.1) a.writes)
      (filtered_pass (waits_under_another (waiting_of ps) seq) ids) (λ id h. found_waiting (λ s. not (s == seq)) id ps d h)
      (hands_stand index ps (max assigned lai) (waits_under (waiting_of ps) seq) given (filtered_pass (waits_under (waiting_of ps) seq) ids)
      (λ id h. found_waiting (λ s. s == seq) id ps d h))

-- the attempts that the moves of a flush hand to Raft
hands_ids : (writes : List (CmdId × ℕ)) → filter_map handed_by (map (λ write. HandsOut write.0 write.1) writes) ≡ map (λ write. write.0) writes
hands_ids [] = refl
hands_ids (w ∷ ws) = ap (λ ids. w.0 ∷ ids) (hands_ids ws)

gives_ids : (refused : List CmdId) (ms : List Move) → filter_map handed_by (map GivesUp refused ++ ms) ≡ filter_map handed_by ms
gives_ids [] ms = refl
gives_ids (id ∷ ids) ms = gives_ids ids ms

pub flush_ids : (a : Assigned) → filter_map handed_by (flush_moves a) ≡ map (λ write. write.0) a.writes
flush_ids a = gives_ids a.refused (map (λ write. HandsOut write.0 write.1) a.writes) ∙ hands_ids a.writes

-- they put no item in the inbox
hands_none : (writes : List (CmdId × ℕ)) → items_of (map (λ write. HandsOut write.0 write.1) writes) ≡ 0
hands_none [] = refl
hands_none (w ∷ ws) = let h = hands_none ws in omega (arith, h)

gives_none : (refused : List CmdId) (ms : List Move) → items_of (map GivesUp refused ++ ms) ≡ items_of ms
gives_none [] ms = refl
gives_none (id ∷ more) ms = let h = gives_none more ms in omega (arith, h)

pub flush_none : (a : Assigned) → items_of (flush_moves a) ≡ 0
flush_none a = gives_none a.refused (map (λ write. HandsOut write.0 write.1) a.writes) ∙ hands_none a.writes

-- each item is an ask or a command
split_items : (inbox : List Item) → length (asks_of inbox) + length (ids_of inbox) ≡ length inbox
split_items [] = refl
split_items (Write id ∷ inbox) = omega (arith, split_items inbox)
split_items (Lease ask ∷ inbox) = omega (arith, split_items inbox)

fewer_once : (ids : List CmdId) → length (once ids) ≤ length ids
fewer_once [] = omega arith
fewer_once (id ∷ ids) =
    let a = fewer_filtered (λ other. not (same_id id other)) (once ids) in
    let b = fewer_once ids in
    omega (arith, a, b)

-- what moves hand to Raft is no more than they name
gives_fewer : (ps : List Proposal) (refused : List CmdId) (ms : List Move) → payloads_by ps (map GivesUp refused ++ ms) ≡ payloads_by ps ms
gives_fewer ps [] ms = refl
gives_fewer ps (id ∷ ids) ms = gives_fewer ps ids ms

length_hands : (n : ℕ) (ids : List CmdId) → length (map (λ (write : CmdId × ℕ). HandsOut write.0 write.1) (numbered n ids)) ≡ length ids
length_hands n [] = refl
length_hands n (id ∷ ids) = ap suc (length_hands (n + 1) ids)

pub few_payloads : (inbox : List Item) (ps : List Proposal) (seq lai assigned : ℕ)
    → length (asks_spelled (assigned_of inbox (waiting_of ps) seq lai assigned).leases ++ moves_spelled ps (flush_moves (assigned_of inbox (waiting_of ps) seq lai assigned)))
    ≤ length inbox
few_payloads inbox ps seq lai assigned =
    let n = max assigned lai in
    let ids = once (ids_of inbox) in
    let given = filter (waits_under (waiting_of ps) seq) ids in
    let hands = map (λ (write : CmdId × ℕ). HandsOut write.0 write.1) (numbered n given) in
    let moves = flush_moves (assigned_of inbox (waiting_of ps) seq lai assigned) in
    let a = length-append (asks_spelled (asks_of inbox)) (moves_spelled ps moves) in
    let b = length-map (asks_of inbox) (λ ask. spelling (payloads.Lease ask)) in
    let c = length-map (payloads_by ps moves) spelling in
    let d = ap length (gives_fewer ps (filter (waits_under_another (waiting_of ps) seq) ids) hands) in
    let e = fewer_mapped (payload_by ps) hands in
    let f = length_hands n given in
    let g = fewer_filtered (waits_under (waiting_of ps) seq) ids in
    let h = fewer_once (ids_of inbox) in
    let i = split_items inbox in
    omega (arith, a, b, c, d, e, f, g, h, i)
