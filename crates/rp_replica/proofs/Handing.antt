-- What a list of moves hands to Raft and tells, where each finds its proposal as it wants it and no
-- attempt stands twice.
use Rattle.std.proofs.Common.{◌≡◌, ℕ, Bool, true, false, cond, not, List, [], ◌∷◌, ◌++◌, Option, None, Some, refl, sym, ap, subst, ◌∙◌, append-nil}
use Rattle.std.specs.Prelude.{filter_map, option_and_then}
use Rattle.std.specs.List.{cons_option}
use Rattle.std.specs.Option.{option_map, option_map_or}
use Rattle.std.proofs.lemmas.List.{append_assoc}
use Rattle.rp_base.specs.declared.ids.CmdId.{CmdId}
use Rattle.rp_base.specs.declared.leases.Lease.{Lease}
use Rattle.rp_request.specs.declared.commands.Payload.{Payload}
use Rattle.rp_request.specs.History.{History}
use Rattle.rp_pending.specs.Proposals.{proposal_of, is_proposed, proposed, waiting_again}
use Rattle.rp_pending.specs.Refreshes.{goes_back}
use Rattle.rp_pending.specs.declared.proposals.Proposal.{Proposal}
use Rattle.rp_events.specs.declared.answers.Ended.{Ended}
use Rattle.rp_events.specs.declared.moves.Move.{Move}
use Rattle.rp_events.specs.declared.moves.Move.TheVariants.{HandsOut, GivesUp, TakesBack, Repeats}
use Rattle.rp_events.specs.Moves.{hands_out, gives_up, takes_back, repeats, moved, moved_all, write_of}
use Rattle.rp_events.specs.Replicas.{Told, lease_of}
use Rattle.rp_replica.specs.Handing.{handed_by, id_by, payload_by, payloads_by, told_by, write_under, write_again}
use Rattle.rp_pending.proofs.Lookups.{other_without, same_turned, other_turned}
use Rattle.rp_replica.proofs.Moving.{handed, back, refused}

-- the proposal with the id is there and passes a test
pub record IsFound (test : Proposal → Bool) (ps : List Proposal) (id : CmdId) : Type 0 where
  pub p : Proposal
  pub here : proposal_of id ps ≡ Some p
  pub passes : test p ≡ true

-- how a move wants its proposal
abbrev pub wanted : (lai : ℕ) → Move → Proposal → Bool
wanted lai (HandsOut id max) = λ p. not (is_proposed p.stage)
wanted lai (GivesUp id) = λ p. not (is_proposed p.stage)
wanted lai (TakesBack id) = goes_back lai
wanted lai (Repeats id) = λ p. is_proposed p.stage

abbrev pub AllStand : (lai : ℕ) → List Proposal → List Move → Type 0
AllStand lai ps [] = Unit {0}
AllStand lai ps (m ∷ ms) = IsFound (wanted lai m) ps (id_by m) × AllStand lai ps ms

-- none of these moves is of this attempt
abbrev pub IsApart : CmdId → List Move → Type 0
IsApart id [] = Unit {0}
IsApart id (m ∷ ms) = (id ≡ id_by m → ⊥) × IsApart id ms

abbrev pub AreApart : List Move → Type 0
AreApart [] = Unit {0}
AreApart (m ∷ ms) = IsApart (id_by m) ms × AreApart ms

-- what Raft is handed of an attempt
abbrev pub write_at : List Proposal → CmdId → Option Payload
write_at ps id = option_and_then write_of (proposal_of id ps)

module _ (ticks round : ℕ) where
  -- a move leaves what other attempts have, and what is applied
  kept_by : {X : Type 0} (f : Told → X) (b : Bool) (t u v : Told) → f u ≡ f t → f v ≡ f t → f (cond b u v) ≡ f t
  kept_by f true t u v e g = e
  kept_by f false t u v e g = g

  module _ (q : CmdId) where
    abbrev at : Told → Option Proposal
    at t = proposal_of q t.replica.pending

    other_hands : (t : Told) (id : CmdId) (max : ℕ) (o : Option Proposal) → (q ≡ id → ⊥) → at (option_map_or (hands_out ticks round t id max) o t) ≡ at t
    other_hands t id max None ne = refl
    other_hands t id max (Some p) ne =
        kept_by at (is_proposed p.stage) t t (handed ticks round t id max) refl (other_turned (proposed max ticks round) (λ _. refl) id q t.replica.pending ne)

    other_gives : (t : Told) (id : CmdId) (o : Option Proposal) → (q ≡ id → ⊥) → at (option_map_or (gives_up t id) o t) ≡ at t
    other_gives t id None ne = refl
    other_gives t id (Some p) ne = kept_by at (is_proposed p.stage) t t (refused t id) refl (other_without id q t.replica.pending ne)

    other_takes : (t : Told) (id : CmdId) (o : Option Proposal) → (q ≡ id → ⊥) → at (option_map_or (takes_back t id) o t) ≡ at t
    other_takes t id None ne = refl
    other_takes t id (Some p) ne =
        kept_by at (goes_back t.replica.applied.state.lai p) t (back ticks round t id) t (other_turned waiting_again (λ _. refl) id q t.replica.pending ne) refl

    other_repeats : (t : Told) (id : CmdId) (o : Option Proposal) → (q ≡ id → ⊥) → at (option_map_or (repeats ticks round t id) o t) ≡ at t
    other_repeats t id None ne = refl
    other_repeats t id (Some p) ne =
        kept_by at (is_proposed p.stage) t (handed ticks round t id p.max) t (other_turned (proposed p.max ticks round) (λ _. refl) id q t.replica.pending ne) refl

    other_moved : (t : Told) (m : Move) → (q ≡ id_by m → ⊥) → at (moved ticks round t m) ≡ at t
    other_moved t (HandsOut id max) ne = other_hands t id max (proposal_of id t.replica.pending) ne
    other_moved t (GivesUp id) ne = other_gives t id (proposal_of id t.replica.pending) ne
    other_moved t (TakesBack id) ne = other_takes t id (proposal_of id t.replica.pending) ne
    other_moved t (Repeats id) ne = other_repeats t id (proposal_of id t.replica.pending) ne

    -- nor do moves of other attempts
    others_moved : (ms : List Move) (t : Told) → IsApart q ms → at (moved_all ticks round t ms) ≡ at t
    others_moved [] t a = refl
    others_moved (m ∷ ms) t a = others_moved ms (moved ticks round t m) a.1 ∙ other_moved t m a.0

  abbrev applied_in : Told → History
  applied_in t = t.replica.applied

  applied_hands : (t : Told) (id : CmdId) (max : ℕ) (o : Option Proposal) → applied_in (option_map_or (hands_out ticks round t id max) o t) ≡ applied_in t
  applied_hands t id max None = refl
  applied_hands t id max (Some p) = kept_by applied_in (is_proposed p.stage) t t (handed ticks round t id max) refl refl

  applied_gives : (t : Told) (id : CmdId) (o : Option Proposal) → applied_in (option_map_or (gives_up t id) o t) ≡ applied_in t
  applied_gives t id None = refl
  applied_gives t id (Some p) = kept_by applied_in (is_proposed p.stage) t t (refused t id) refl refl

  applied_takes : (t : Told) (id : CmdId) (o : Option Proposal) → applied_in (option_map_or (takes_back t id) o t) ≡ applied_in t
  applied_takes t id None = refl
  applied_takes t id (Some p) = kept_by applied_in (goes_back t.replica.applied.state.lai p) t (back ticks round t id) t refl refl

  applied_repeats : (t : Told) (id : CmdId) (o : Option Proposal) → applied_in (option_map_or (repeats ticks round t id) o t) ≡ applied_in t
  applied_repeats t id None = refl
  applied_repeats t id (Some p) = kept_by applied_in (is_proposed p.stage) t (handed ticks round t id p.max) t refl refl

  applied_moved : (t : Told) (m : Move) → applied_in (moved ticks round t m) ≡ applied_in t
  applied_moved t (HandsOut id max) = applied_hands t id max (proposal_of id t.replica.pending)
  applied_moved t (GivesUp id) = applied_gives t id (proposal_of id t.replica.pending)
  applied_moved t (TakesBack id) = applied_takes t id (proposal_of id t.replica.pending)
  applied_moved t (Repeats id) = applied_repeats t id (proposal_of id t.replica.pending)

  -- what a move tells
  ended_hands : (t : Told) (id : CmdId) (max : ℕ) (o : Option Proposal) → (option_map_or (hands_out ticks round t id max) o t).ended ≡ t.ended
  ended_hands t id max None = refl
  ended_hands t id max (Some p) = kept_by (λ z. z.ended) (is_proposed p.stage) t t (handed ticks round t id max) refl refl

  ended_takes : (t : Told) (id : CmdId) (o : Option Proposal) → (option_map_or (takes_back t id) o t).ended ≡ t.ended
  ended_takes t id None = refl
  ended_takes t id (Some p) = kept_by (λ z. z.ended) (goes_back t.replica.applied.state.lai p) t (back ticks round t id) t refl refl

  ended_repeats : (t : Told) (id : CmdId) (o : Option Proposal) → (option_map_or (repeats ticks round t id) o t).ended ≡ t.ended
  ended_repeats t id None = refl
  ended_repeats t id (Some p) = kept_by (λ z. z.ended) (is_proposed p.stage) t (handed ticks round t id p.max) t refl refl

  not_true : (b : Bool) → not b ≡ true → b ≡ false
  not_true true e = cc
  not_true false e = refl

  ended_gives : (t : Told) (id : CmdId) (p : Proposal) → not (is_proposed p.stage) ≡ true
      → (option_map_or (gives_up t id) (Some p) t).ended ≡ t.ended ++ filter_map (told_by (lease_of t.replica)) (GivesUp id ∷ [])
  ended_gives t id p waits = ap (λ b. (cond b t (refused t id)).ended) (not_true (is_proposed p.stage) waits)

  ended_moved : (t : Told) (m : Move) → IsFound (wanted t.replica.applied.state.lai m) t.replica.pending (id_by m)
      → (moved ticks round t m).ended ≡ t.ended ++ filter_map (told_by (lease_of t.replica)) (m ∷ [])
  ended_moved t (HandsOut id max) f = ended_hands t id max (proposal_of id t.replica.pending) ∙ sym (append-nil t.ended)
  ended_moved t (GivesUp id) f =
      ap (λ o. (option_map_or (gives_up t id) o t).ended) f.here ∙ ended_gives t id f.p f.passes
  ended_moved t (TakesBack id) f = ended_takes t id (proposal_of id t.replica.pending) ∙ sym (append-nil t.ended)
  ended_moved t (Repeats id) f = ended_repeats t id (proposal_of id t.replica.pending) ∙ sym (append-nil t.ended)

  -- what is left still stands
  still_stand : (m : Move) (ms : List Move) (t : Told) → IsApart (id_by m) ms → AllStand t.replica.applied.state.lai t.replica.pending ms
      → AllStand (moved ticks round t m).replica.applied.state.lai (moved ticks round t m).replica.pending ms
  still_stand m [] t a h = tt
  still_stand m (n ∷ ms) t a h = (
    record {
      p = h.0.p;
      here = other_moved (id_by n) t m (λ e. a.0 (sym e)) ∙ h.0.here;
      passes = subst (λ lai. wanted lai n h.0.p ≡ true) (sym (ap (λ (x : History). x.state.lai) (applied_moved t m))) h.0.passes;
    },
    still_stand m ms t a.1 h.1,
  )

  told_more : (lease : Lease) (m : Move) (ms : List Move) (xs : List Ended)
      → (xs ++ filter_map (told_by lease) (m ∷ [])) ++ filter_map (told_by lease) ms ≡ xs ++ filter_map (told_by lease) (m ∷ ms)
  told_more lease m ms xs = append_assoc xs (filter_map (told_by lease) (m ∷ [])) (filter_map (told_by lease) ms) ∙ ap (λ z. xs ++ z) (go (told_by lease m)) where
    go : (o : Option Ended) → cons_option o [] ++ filter_map (told_by lease) ms ≡ cons_option o (filter_map (told_by lease) ms)
    go None = refl
    go (Some e) = refl

  -- what moves tell
  pub moves_tell : (ms : List Move) (t : Told) → AreApart ms → AllStand t.replica.applied.state.lai t.replica.pending ms
      → (moved_all ticks round t ms).ended ≡ t.ended ++ filter_map (told_by (lease_of t.replica)) ms
  moves_tell [] t a h = sym (append-nil t.ended)
  moves_tell (m ∷ ms) t a h =
      moves_tell ms (moved ticks round t m) a.1 (still_stand m ms t a.0 h.1)
      ∙ ap (λ (x : History). (moved ticks round t m).ended ++ filter_map (told_by x.state.lease) ms) (applied_moved t m)
      ∙ ap (λ xs. xs ++ filter_map (told_by (lease_of t.replica)) ms) (ended_moved t m h.0)
      ∙ told_more (lease_of t.replica) m ms t.ended

  -- what a move hands to Raft, as it stands after it

  hand_hands : (t : Told) (id : CmdId) (max : ℕ) (p : Proposal) → proposal_of id t.replica.pending ≡ Some p → not (is_proposed p.stage) ≡ true
      → write_at (option_map_or (hands_out ticks round t id max) (Some p) t).replica.pending id ≡ payload_by t.replica.pending (HandsOut id max)
  hand_hands t id max p here waits =
      ap (λ b. write_at (cond b t (handed ticks round t id max)).replica.pending id) (not_true (is_proposed p.stage) waits)
      ∙ ap (option_and_then write_of) (same_turned (proposed max ticks round) (λ _. refl) id t.replica.pending ∙ ap (option_map (proposed max ticks round)) here)
      ∙ sym (ap (option_map (λ q. write_under max q)) here)

  hand_repeats : (t : Told) (id : CmdId) (p : Proposal) → proposal_of id t.replica.pending ≡ Some p → is_proposed p.stage ≡ true
      → write_at (option_map_or (repeats ticks round t id) (Some p) t).replica.pending id ≡ payload_by t.replica.pending (Repeats id)
  hand_repeats t id p here is =
      ap (λ b. write_at (cond b (handed ticks round t id p.max) t).replica.pending id) is
      ∙ ap (option_and_then write_of) (same_turned (proposed p.max ticks round) (λ _. refl) id t.replica.pending ∙ ap (option_map (proposed p.max ticks round)) here)
      ∙ sym (ap (option_map (λ q. write_again q)) here)

  -- the payload of a move, of those that hand something to Raft
  abbrev HandsAs : Told → Move → Option CmdId → Type 0
  HandsAs t m None = payload_by t.replica.pending m ≡ None
  HandsAs t m (Some id) = (id ≡ id_by m) × (write_at (moved ticks round t m).replica.pending id ≡ payload_by t.replica.pending m)

  hand_moved : (t : Told) (m : Move) → IsFound (wanted t.replica.applied.state.lai m) t.replica.pending (id_by m) → HandsAs t m (handed_by m)
  hand_moved t (HandsOut id max) f = (
    refl,
    ap (λ o. write_at (option_map_or (hands_out ticks round t id max) o t).replica.pending id) f.here ∙ hand_hands t id max f.p f.here f.passes,
  )
  hand_moved t (GivesUp id) f = refl
  hand_moved t (TakesBack id) f = refl
  hand_moved t (Repeats id) f = (
    refl,
    ap (λ o. write_at (option_map_or (repeats ticks round t id) o t).replica.pending id) f.here ∙ hand_repeats t id f.p f.here f.passes,
  )

  -- what moves hand to Raft depends on what is found of their attempts alone
  payload_same : (ps qs : List Proposal) (m : Move) → proposal_of (id_by m) ps ≡ proposal_of (id_by m) qs → payload_by ps m ≡ payload_by qs m
  payload_same ps qs (HandsOut id max) e = ap (option_map (λ q. write_under max q)) e
  payload_same ps qs (GivesUp id) e = refl
  payload_same ps qs (TakesBack id) e = refl
  payload_same ps qs (Repeats id) e = ap (option_map (λ q. write_again q)) e

  payloads_left : (m : Move) (ms : List Move) (t : Told) → IsApart (id_by m) ms → payloads_by (moved ticks round t m).replica.pending ms ≡ payloads_by t.replica.pending ms
  payloads_left m [] t a = refl
  payloads_left m (n ∷ ms) t a =
      ap (λ o. cons_option o (payloads_by (moved ticks round t m).replica.pending ms))
      (payload_same (moved ticks round t m).replica.pending t.replica.pending n (other_moved (id_by n) t m (λ e. a.0 (sym e))))
      ∙ ap (cons_option (payload_by t.replica.pending n)) (payloads_left m ms t a.1)

  one_handed : (m : Move) (ms : List Move) (t : Told) (o : Option CmdId) (after : List Proposal) (rest : List CmdId) → HandsAs t m o
      → ((id : CmdId) → id ≡ id_by m → write_at after id ≡ write_at (moved ticks round t m).replica.pending id)
      → filter_map (write_at after) rest ≡ payloads_by t.replica.pending ms
      → filter_map (write_at after) (cons_option o rest) ≡ payloads_by t.replica.pending (m ∷ ms)
  one_handed m ms t None after rest h same ih = ih ∙ sym (ap (λ o. cons_option o (payloads_by t.replica.pending ms)) h)
  one_handed m ms t (Some id) after rest h same ih =
      ap (λ o. cons_option o (filter_map (write_at after) rest)) (same id h.0 ∙ h.1) ∙ ap (cons_option (payload_by t.replica.pending m)) ih

  -- what moves hand to Raft
  pub moves_hand : (ms : List Move) (t : Told) → AreApart ms → AllStand t.replica.applied.state.lai t.replica.pending ms
      → filter_map (write_at (moved_all ticks round t ms).replica.pending) (filter_map handed_by ms) ≡ payloads_by t.replica.pending ms
  moves_hand [] t a h = refl
  moves_hand (m ∷ ms) t a h =
      one_handed m ms t (handed_by m) (moved_all ticks round t (m ∷ ms)).replica.pending (filter_map handed_by ms) (hand_moved t m h.0)
      (λ id is. ap (option_and_then write_of) (others_moved id ms (moved ticks round t m) (subst (λ x. IsApart x ms) (sym is) a.0)))
      (moves_hand ms (moved ticks round t m) a.1 (still_stand m ms t a.0 h.1) ∙ payloads_left m ms t a.0)
