-- What an event of a round's inside leaves: how far the round has come, what was heard, what was handed over.
use Rattle.std.proofs.Common.{◌≡◌, ℕ, ◌+◌, ◌≤◌, true, false, cond, Option, None, Some, [], ◌∷◌, ◌++◌, append-nil, length, length-append, refl, ap, ◌∙◌, arith}
use Rattle.std.specs.Prelude.{option_to_list}
use Rattle.std.specs.List.{cons_option}
use Rattle.std.proofs.lemmas.Bool.{le-leb, leb-true}
use Rattle.rp_base.proofs.Counts.{count_push}
use Rattle.rp_request.specs.Applied.{AppliedState}
use Rattle.rp_events.specs.declared.journals.JournalEntry.{JournalEntry}
use Rattle.rp_events.specs.declared.node_events.Event.{Event}
use Rattle.rp_events.specs.declared.node_events.Event.TheVariants as events
use Rattle.rp_events.specs.Nodes.{Node}
use Rattle.rp_events.specs.NodeEvents.{past_of}
use Rattle.rp_events.specs.Worlds.{World}
use Rattle.rp_race.specs.declared.rules.RaceRules.{RaceRules}
use Rattle.rp_race.specs.Rounds.{Stage, stage_of, stage_after, is_transfer, handed_over, may_deliver, may_tick}
use Rattle.rp_race.specs.Rounds as rounds
use Rattle.rp_race.specs.Owed.{number_from, heard_from}
use Rattle.rp_race.proofs.Hearing.{heard_further}
use Rattle.rp_race.proofs.Ordered.{stage_push}
use Rattle.rp_serving.specs.Inside.{WentOn}

module _ (rules : RaceRules) (node : ℕ) (at seen : World) (n : Node) (e : Event AppliedState) (later : Node) (w : WentOn rules node at seen n e later) where
  abbrev entry : JournalEntry
  entry = record { event = past_of n e w.taken; answer = w.answer }

  pub went_stage : stage_of later.journal ≡ stage_after (stage_of n.journal) (past_of n e w.taken)
  went_stage = ap stage_of w.wrote ∙ stage_push n.journal entry

  listed : (o : Option ℕ) → cons_option o [] ≡ option_to_list o
  listed None = refl
  listed (Some k) = refl

  pub went_heard : (from : ℕ) → heard_from from later.journal ≡ heard_from from n.journal ++ option_to_list (number_from from (past_of n e w.taken))
  went_heard from = ap (heard_from from) w.wrote ∙ heard_further from n.journal (entry ∷ []) ∙ ap (λ l. heard_from from n.journal ++ l) (listed (number_from from (past_of n e w.taken)))

  pub went_unheard : (from : ℕ) → number_from from (past_of n e w.taken) ≡ None → heard_from from later.journal ≡ heard_from from n.journal
  went_unheard from none = went_heard from ∙ ap (λ o. heard_from from n.journal ++ option_to_list o) none ∙ append-nil (heard_from from n.journal)

  pub went_handed : handed_over later.journal ≡ handed_over n.journal + cond (is_transfer (past_of n e w.taken)) 1 0
  went_handed = ap handed_over w.wrote ∙ count_push (λ (x : JournalEntry). is_transfer x.event) n.journal entry

  pub went_unhanded : is_transfer (past_of n e w.taken) ≡ false → handed_over later.journal ≡ handed_over n.journal
  went_unhanded none = let h = went_handed in let z : cond (is_transfer (past_of n e w.taken)) 1 0 ≡ 0 = ap (λ b. cond {A = ℕ} b 1 0) none in omega (arith, h, z)

  pub went_longer : length later.journal ≡ length n.journal + 1
  went_longer = ap length w.wrote ∙ length-append n.journal (entry ∷ [])

-- messages of later senders may come behind those of earlier ones, and a tick behind all
pub deliver_later : (from later : ℕ) (s : Stage) → from ≤ later → may_deliver from s ≡ true → may_deliver later s ≡ true
deliver_later from later rounds.between le h = refl
deliver_later from later (rounds.delivering last) le h = le-leb last later (let z = leb-true last from h in omega (arith, z))
deliver_later from later (rounds.flushing ranges) le h = absurd cc
deliver_later from later (rounds.collected ranges range) le h = absurd cc
deliver_later from later rounds.applying le h = absurd cc
deliver_later from later rounds.broken le h = absurd cc

pub deliver_tick : (from : ℕ) (s : Stage) → may_deliver from s ≡ true → may_tick s ≡ true
deliver_tick from rounds.between h = refl
deliver_tick from (rounds.delivering last) h = refl
deliver_tick from (rounds.flushing ranges) h = absurd cc
deliver_tick from (rounds.collected ranges range) h = absurd cc
deliver_tick from rounds.applying h = absurd cc
deliver_tick from rounds.broken h = absurd cc
