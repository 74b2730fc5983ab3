-- One event of each kind: why it may come, and what it leaves.
use Rattle.std.proofs.Common.{◌≡◌, ℕ, eq-eqb, ◌+◌, ◌-◌, ◌≤◌, Bool, true, false, cond, Option, None, Some, List, [], ◌∷◌, ◌++◌, refl, sym, ap, ◌∙◌, arith}
use Rattle.std.specs.Prelude.{not, ◌==◌, option_to_list, slice_get, is_some}
use Rattle.std.proofs.lemmas.Bool.{and_from, le-leb, eqb-true}
use Rattle.rp_request.specs.Applied.{AppliedState}
use Rattle.rp_raftstep.specs.declared.messages.Message.{Message}
use Rattle.rp_events.specs.declared.node_events.Event.TheVariants as events
use Rattle.rp_events.specs.Nodes.{Node}
use Rattle.rp_events.specs.Worlds.{World, node_of}
use Rattle.rp_race.specs.declared.rules.Handover.{Handover}
use Rattle.rp_race.specs.declared.rules.RaceRules.{RaceRules}
use Rattle.rp_race.specs.Rounds.{stage_of, handed_over, flushing, collected, live_ranges, first_waiting, is_number, is_handover, due_handover, all_flushed, may_apply, may_deliver, may_tick, may_collect, may_flush, may_transfer}
use Rattle.rp_race.specs.Owed.{heard_from}
use Rattle.rp_serving.specs.declared.letters.Letter.{Letter}
use Rattle.rp_serving.specs.Inside.{MayGoOn, WentOn}
use Rattle.rp_serving.specs.Letters.{letters_of, AreLeft}
use Rattle.rp_serving.proofs.Lettered.{Stands, left_stands, stands_of, goes_to, left_next}
use Rattle.rp_serving.proofs.Went.{went_stage, went_heard, went_unheard, went_unhanded}

-- a delivery
pub may_deliver_next : (rules : RaceRules) (nodes node : ℕ) (seen : World) (n : Node) (from : ℕ) (l : Letter) (rest : List Letter) (m : Node) → node_of seen from ≡ Some m → (from ≡ node → ⊥)
    → AreLeft from n (l ∷ rest) (letters_of rules from node m.sent) → may_deliver from (stage_of n.journal) ≡ true
    → MayGoOn rules nodes node seen n (events.Deliver from l.parcel.range l.number l.parcel.message)
may_deliver_next rules nodes node seen n from l rest m saw apart left may =
    let s : Stands rules from node 1 m.sent l = left_stands rules from node n l rest m.sent left in
    record {
      within = refl;
      may = may;
      due = record {
        m = m;
        saw = saw;
        apart = apart;
        parcel = l.parcel;
        stands = stands_of rules from node m.sent l s;
        goes = goes_to rules from node m.sent l s;
        in_range = refl;
        carries = refl;
        next = left_next rules from node n l rest m.sent left;
      };
    }

module _ (rules : RaceRules) (node : ℕ) (at seen : World) (n later : Node) where
  -- behind a delivery its number is heard, and nothing else
  pub delivered_heard : (from range number : ℕ) (message : Message AppliedState) → WentOn rules node at seen n (events.Deliver from range number message) later
      → heard_from from later.journal ≡ heard_from from n.journal ++ number ∷ []
  delivered_heard from range number message w =
      went_heard rules node at seen n (events.Deliver from range number message) later w from
      ∙ ap (λ b. heard_from from n.journal ++ option_to_list (cond {A = Option ℕ} b (Some number) None)) (eq-eqb from from refl)

  pub delivered_others : (from range number : ℕ) (message : Message AppliedState) → WentOn rules node at seen n (events.Deliver from range number message) later
      → (k : ℕ) → (k ≡ from → ⊥) → heard_from k later.journal ≡ heard_from k n.journal
  delivered_others from range number message w k ne =
      went_unheard rules node at seen n (events.Deliver from range number message) later w k (unheard (from == k) refl) where
        unheard : (b : Bool) → (from == k) ≡ b → cond {A = Option ℕ} b (Some number) None ≡ None
        unheard true is = absurd (ne (sym (eqb-true from k is)))
        unheard false is = refl

  pub delivered_handed : (from range number : ℕ) (message : Message AppliedState) → WentOn rules node at seen n (events.Deliver from range number message) later → handed_over later.journal ≡ handed_over n.journal
  delivered_handed from range number message w = went_unhanded rules node at seen n (events.Deliver from range number message) later w refl

  pub delivered_stage : (from range number : ℕ) (message : Message AppliedState) → WentOn rules node at seen n (events.Deliver from range number message) later → may_deliver from (stage_of later.journal) ≡ true
  delivered_stage from range number message w =
      ap (may_deliver from) (went_stage rules node at seen n (events.Deliver from range number message) later w) ∙ le-leb from from (omega arith)

-- a tick
pub may_tick_now : (rules : RaceRules) (nodes node : ℕ) (seen : World) (n : Node) → may_tick (stage_of n.journal) ≡ true → MayGoOn rules nodes node seen n events.Tick
may_tick_now rules nodes node seen n may = record { within = refl; may = may; due = tt }

-- a collect
pub may_collect_now : (rules : RaceRules) (nodes node : ℕ) (seen : World) (n : Node) (ranges range : ℕ) → stage_of n.journal ≡ flushing ranges → slice_get (live_ranges n) ranges ≡ Some range
    → MayGoOn rules nodes node seen n (events.Collect range)
may_collect_now rules nodes node seen n ranges range stage live = record {
  within = refl;
  may = ap (may_collect n range) stage ∙ ap (is_number range) live ∙ eq-eqb range range refl;
  due = tt;
}

-- a flush
pub may_flush_now : (rules : RaceRules) (nodes node : ℕ) (seen : World) (n : Node) (ranges range : ℕ) → stage_of n.journal ≡ collected ranges range → MayGoOn rules nodes node seen n (events.Flush range)
may_flush_now rules nodes node seen n ranges range stage = record { within = refl; may = ap (may_flush range) stage ∙ eq-eqb range range refl; due = tt }

-- an application
pub may_apply_now : (rules : RaceRules) (nodes node : ℕ) (seen : World) (n : Node) (range : ℕ) → may_apply rules n (stage_of n.journal) ≡ true → first_waiting n ≡ Some range
    → MayGoOn rules nodes node seen n (events.Apply range)
may_apply_now rules nodes node seen n range may first = record {
  within = refl;
  may = and_from (may_apply rules n (stage_of n.journal)) (is_number range (first_waiting n)) may (ap (is_number range) first ∙ eq-eqb range range refl);
  due = tt;
}

-- a handover
pub may_transfer_now : (rules : RaceRules) (nodes node : ℕ) (seen : World) (n : Node) (ranges : ℕ) (h : Handover) → stage_of n.journal ≡ flushing ranges → all_flushed n ranges ≡ true
    → due_handover rules n ≡ Some h → 1 ≤ h.to → h.to ≤ nodes → MayGoOn rules nodes node seen n (events.Transfer h.range h.to)
may_transfer_now rules nodes node seen n ranges h stage all due low high = record {
  within = refl;
  may = ap (may_transfer rules n h.range h.to) stage
      ∙ and_from (all_flushed n ranges) (is_handover h.range h.to (due_handover rules n)) all
      (ap (is_handover h.range h.to) due ∙ and_from (h.range == h.range) (h.to == h.to) (eq-eqb h.range h.range refl) (eq-eqb h.to h.to refl));
  due = (low, high);
}

-- behind the flushes, where no handover is due, what waits may be applied
pub may_apply_undue : (rules : RaceRules) (n : Node) (ranges : ℕ) → stage_of n.journal ≡ flushing ranges → all_flushed n ranges ≡ true → due_handover rules n ≡ None → may_apply rules n (stage_of n.journal) ≡ true
may_apply_undue rules n ranges stage all due =
    ap (may_apply rules n) stage ∙ and_from (all_flushed n ranges) (not (is_some (due_handover rules n))) all (ap (λ o. not (is_some o)) due)
