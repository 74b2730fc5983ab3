-- The inside of a round goes on event by event; admissions change nothing of rounds.
use Rattle.std.proofs.Common.{◌≡◌, ℕ, zero, ◌+◌, Bool, true, false, cond, Option, None, Some, List, [], ◌∷◌, ◌++◌, append-nil, refl, sym, ap, subst, ◌∙◌, arith}
use Rattle.std.specs.Prelude.{count_by, option_to_list}
use Rattle.std.specs.List.{cons_option}
use Rattle.rp_base.specs.declared.ids.CmdId.{CmdId}
use Rattle.rp_base.proofs.Counts.{count_push}
use Rattle.rp_request.specs.Applied.{AppliedState}
use Rattle.rp_request.specs.declared.requests.Request.{Request}
use Rattle.rp_events.specs.declared.journals.JournalEntry.{JournalEntry}
use Rattle.rp_events.specs.declared.journals.PastEvent.{PastEvent}
use Rattle.rp_events.specs.declared.node_events.Event.{Event}
use Rattle.rp_events.specs.declared.node_events.Event.TheVariants as events
use Rattle.rp_events.specs.Lawful.{Lawful, AllLawful, IsReached}
use Rattle.rp_events.specs.Nodes.{Node}
use Rattle.rp_events.specs.NodeEvents.{step}
use Rattle.rp_events.specs.Worlds as worlds
use Rattle.rp_events.specs.Worlds.{World, Happening, node_of, event_of, taken_in, happens, run}
use Rattle.rp_journals.specs.Asked.{all_at}
use Rattle.rp_journals.specs.Entries.{at_node}
use Rattle.rp_journals.proofs.Elsewhere.{happens_is}
use Rattle.rp_journals.proofs.Growing.{with_same, run_further, lawful_further, reached_later}
use Rattle.rp_journals.proofs.Reading.{step_journal, entry_of}
use Rattle.rp_race.specs.declared.rules.RaceRules.{RaceRules}
use Rattle.rp_race.specs.Rounds.{stage_of, stage_after, is_transfer, handed_over, may_come}
use Rattle.rp_race.specs.Owed.{number_from, heard_from}
use Rattle.rp_race.specs.Gives.{Tried, MayTry, AllMayTry, with_try, try_at, after_admission, admitted_after, kept_as, is_within_round, MayHappen, AllMayHappen, IsSoFar, OnlyAdmitted}
use Rattle.rp_race.proofs.Ahead.{kept_is}
use Rattle.rp_race.proofs.Counted.{admission_rounds}
use Rattle.rp_race.proofs.Hearing.{heard_further}
use Rattle.rp_race.proofs.Keeping.{admission_heard, admission_stage, at_further}
use Rattle.rp_race.proofs.Ordered.{stage_push}

pub only_itself : (n : Node) → OnlyAdmitted n n
only_itself n = record { heard = λ from. refl; rounds = refl; handed = refl; stage = λ e. e }

admission_handed : (n : Node) (range : ℕ) (id : CmdId) (request : Request) → handed_over (after_admission n range id request).journal ≡ handed_over n.journal
admission_handed n range id request =
    let one : handed_over (n.journal ++ entry_of n (events.Admit range id request) [] ∷ []) ≡ handed_over n.journal + 0 =
    count_push (λ (e : JournalEntry). is_transfer e.event) n.journal (entry_of n (events.Admit range id request) []) in
    ap handed_over (step_journal n (events.Admit range id request) []) ∙ omega (arith, one)

pub only_further : (before n : Node) → OnlyAdmitted before n → (range : ℕ) (id : CmdId) (request : Request) → OnlyAdmitted before (after_admission n range id request)
only_further before n h range id request = record {
  heard = λ from. admission_heard from n range id request ∙ h.heard from;
  rounds = admission_rounds n range id request ∙ h.rounds;
  handed = admission_handed n range id request ∙ h.handed;
  stage = λ e. admission_stage n range id request (h.stage e);
}

pub only_all : (rules : RaceRules) (nodes node : ℕ) (before n : Node) → OnlyAdmitted before n → (tries : Tried) (xs : List Happening) → AllMayTry rules nodes node n tries xs → OnlyAdmitted before (admitted_after n xs)
only_all rules nodes node before n h tries [] may = h
only_all rules nodes node before n h tries (worlds.Admit range id request ∷ xs) may =
    only_all rules nodes node before (after_admission n range id request) (only_further before n h range id request) (with_try tries (try_at node n range id request)) xs may.1
only_all rules nodes node before n h tries (worlds.Ask range ∷ xs) may = absurd may
only_all rules nodes node before n h tries (worlds.Transfer range to ∷ xs) may = absurd may
only_all rules nodes node before n h tries (worlds.Collect range taken ∷ xs) may = absurd may
only_all rules nodes node before n h tries (worlds.Flush range ∷ xs) may = absurd may
only_all rules nodes node before n h tries (worlds.Tick ∷ xs) may = absurd may
only_all rules nodes node before n h tries (worlds.Deliver from number ∷ xs) may = absurd may
only_all rules nodes node before n h tries (worlds.Apply range ∷ xs) may = absurd may
only_all rules nodes node before n h tries (worlds.Cut range ∷ xs) may = absurd may
only_all rules nodes node before n h tries (worlds.Remove range ∷ xs) may = absurd may
only_all rules nodes node before n h tries (worlds.Peek range key ∷ xs) may = absurd may
only_all rules nodes node before n h tries (worlds.Restart ∷ xs) may = absurd may
only_all rules nodes node before n h tries (worlds.Round ∷ xs) may = absurd may

pub so_far_first : (rules : RaceRules) (node : ℕ) (v : World) (n : Node) → node_of v node ≡ Some n → IsSoFar rules node v [] n
so_far_first rules node v n has = record { lawful = tt; order = tt; leaves = has }

may_further : (rules : RaceRules) (node : ℕ) (xs : List Happening) (v : World) (x : Happening) → AllMayHappen rules node v xs → MayHappen rules node (run v (all_at node xs)) x → AllMayHappen rules node v (xs ++ x ∷ [])
may_further rules node [] v x h m = (m, tt)
may_further rules node (z ∷ xs) v x h m = (h.0, may_further rules node xs (happens v (at_node node z)) x h.1 m)

pub so_far_further : (rules : RaceRules) (node : ℕ) (v : World) (xs : List Happening) (n : Node) → IsSoFar rules node v xs n → (x : Happening) (e : Event AppliedState)
    → Lawful (run v (all_at node xs)) (at_node node x) → event_of (run v (all_at node xs)) x ≡ Some e → is_within_round x ≡ true → may_come rules n (kept_as n x) ≡ true
    → IsSoFar rules node v (xs ++ x ∷ []) (step n e (taken_in x)).node
so_far_further rules node v xs n s x e l came within may =
    let here : World = run v (all_at node xs) in
    let new : Node = (step n e (taken_in x)).node in
    let there : node_of (happens here (at_node node x)) node ≡ Some new =
    ap (λ z. node_of z node) (happens_is here (at_node node x) n e s.leaves came) ∙ with_same here node n new s.leaves in
    let is : run v (all_at node (xs ++ x ∷ [])) ≡ happens here (at_node node x) =
    ap (run v) (at_further node xs (x ∷ [])) ∙ run_further (all_at node xs) (at_node node x ∷ []) v in
    record {
      lawful = subst (AllLawful v) (sym (at_further node xs (x ∷ []))) (lawful_further (all_at node xs) (at_node node x ∷ []) v s.lawful (l, tt));
      order = may_further rules node xs v x s.order (record { n = n; has = s.leaves; within = within; may = may });
      leaves = ap (λ z. node_of z node) is ∙ there;
    }

pub so_far_reached : (nodes : ℕ) (rules : RaceRules) (node : ℕ) (v : World) (xs : List Happening) (n : Node) → IsReached nodes v → IsSoFar rules node v xs n → IsReached nodes (run v (all_at node xs))
so_far_reached nodes rules node v xs n r s = reached_later nodes v (run v (all_at node xs)) r (record { schedule = all_at node xs; lawful = s.lawful; reached = refl })

pub stage_further : (w : World) (n : Node) (x : Happening) (e : Event AppliedState) → event_of w x ≡ Some e → stage_of (step n e (taken_in x)).node.journal ≡ stage_after (stage_of n.journal) (kept_as n x)
stage_further w n x e came =
    ap stage_of (step_journal n e (taken_in x)) ∙ stage_push n.journal (entry_of n e (taken_in x)) ∙ ap (stage_after (stage_of n.journal)) (kept_is w n x e came)

listed : (o : Option ℕ) → cons_option o [] ≡ option_to_list o
listed None = refl
listed (Some k) = refl

pub heard_by : (w : World) (n : Node) (x : Happening) (e : Event AppliedState) → event_of w x ≡ Some e → (from : ℕ)
    → heard_from from (step n e (taken_in x)).node.journal ≡ heard_from from n.journal ++ option_to_list (number_from from (kept_as n x))
heard_by w n x e came from =
    ap (heard_from from) (step_journal n e (taken_in x))
    ∙ heard_further from n.journal (entry_of n e (taken_in x) ∷ [])
    ∙ ap (λ p. heard_from from n.journal ++ cons_option (number_from from p) []) (kept_is w n x e came)
    ∙ ap (λ l. heard_from from n.journal ++ l) (listed (number_from from (kept_as n x)))
