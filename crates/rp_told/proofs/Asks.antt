-- What a lawful scene writes down: an admission of the attempt that it asks for, and no other.
use Rattle.std.proofs.Common.{◌≡◌, ℕ, zero, suc, Bool, true, false, Option, None, Some, Result, Ok, Err, List, [], ◌∷◌, ◌++◌, length, drop, refl, ap, subst, ◌∙◌}
use Rattle.std.specs.Prelude.{◌||◌, option_and_then, is_some, map}
use Rattle.std.specs.List.{list_any}
use Rattle.std.specs.Option.{option_map, option_map_or}
use Rattle.rp_base.specs.Ids.{same_id}
use Rattle.rp_base.specs.declared.ids.CmdId.{CmdId}
use Rattle.rp_base.specs.declared.items.Item.{Item}
use Rattle.rp_raftstep.specs.RaftState.{nodes_to}
use Rattle.rp_request.specs.Applied.{AppliedState}
use Rattle.rp_request.specs.declared.evaluations.Evaluated.{Evaluated}
use Rattle.rp_request.specs.declared.outcomes.Outcome.{Outcome}
use Rattle.rp_request.specs.declared.outcomes.Refusal.{Refusal}
use Rattle.rp_request.specs.declared.requests.Request.{Request}
use Rattle.rp_events.specs.declared.answers.Ended.{Ended}
use Rattle.rp_events.specs.declared.answers.EventAnswer.TheVariants as answers
use Rattle.rp_events.specs.declared.journals.JournalEntry.{JournalEntry}
use Rattle.rp_events.specs.declared.node_events.Event.{Event}
use Rattle.rp_events.specs.declared.node_events.Event.TheVariants as events
use Rattle.rp_events.specs.declared.replica_events.ReplicaEvent.TheVariants as at_replica
use Rattle.rp_events.specs.Replicas.{Replica}
use Rattle.rp_events.specs.Admissions.{guarded, admitted_by}
use Rattle.rp_events.specs.Nodes.{Node, Status, Absent, Live, Removed, seat, parcel_of, first_node}
use Rattle.rp_events.specs.NodeEvents.{acted, step, by_status, after_replica, with_request}
use Rattle.rp_events.specs.Worlds as worlds
use Rattle.rp_events.specs.Worlds.{World, Scene, Happening, first_world, node_of, with_node, sent_by, delivery, event_of, taken_in, happens, is_admission_of, asked_at, was_asked, outcome_by, outcome_at, outcome_of}
use Rattle.rp_journals.proofs.Ending.{found_passes}
use Rattle.rp_book.specs.Books.{last_of}
use Rattle.rp_journals.proofs.Reading.{mapped_some, entry_of, step_journal}
use Rattle.rp_told.specs.Turns.{Turns, answer_of, behind}
use Rattle.rp_told.specs.Outcomes.{asks}
use Rattle.rp_told.proofs.Finding.{any_push, any_set, last_push, drop_whole, found_some, found_none}
use Rattle.rp_told.proofs.Turning.{turned}

some_event : (a b : Event AppliedState) → ◌≡◌ {A = Option (Event AppliedState)} (Some a) (Some b) → a ≡ b
some_event a b e = cc

module _ (n : Node) (taken : List Item) (id : CmdId) where
  as_asked : (b : Bool) (a ev : Event AppliedState) → is_admission_of id (entry_of n a taken) ≡ b → ◌≡◌ {A = Option (Event AppliedState)} (Some a) (Some ev) → is_admission_of id (entry_of n ev taken) ≡ b
  as_asked b a ev is same = subst (λ e. is_admission_of id (entry_of n e taken) ≡ b) (some_event a ev same) is

  -- the entry of an event is an admission of what its scene asks for
  pub entry_asks : (w : World) (what : Happening) (ev : Event AppliedState) → event_of w what ≡ Some ev → is_admission_of id (entry_of n ev taken) ≡ asks id what
  entry_asks w (worlds.Admit range other request) ev came = as_asked (same_id other id) (events.Admit range other request) ev refl came
  entry_asks w (worlds.Ask range) ev came = as_asked false (events.Ask range) ev refl came
  entry_asks w (worlds.Transfer range to) ev came = as_asked false (events.Transfer range to) ev refl came
  entry_asks w (worlds.Collect range given) ev came = as_asked false (events.Collect range) ev refl came
  entry_asks w (worlds.Flush range) ev came = as_asked false (events.Flush range) ev refl came
  entry_asks w worlds.Tick ev came = as_asked false events.Tick ev refl came
  entry_asks w (worlds.Deliver from number) ev came =
      let x = mapped_some (delivery from number) (parcel_of (sent_by w from) number) ev came in
      as_asked false (delivery from number x.0) ev refl (ap Some x.2)
  entry_asks w (worlds.Apply range) ev came = as_asked false (events.Apply range) ev refl came
  entry_asks w (worlds.Cut range) ev came = as_asked false (events.Cut range) ev refl came
  entry_asks w (worlds.Remove range) ev came = as_asked false (events.Remove range) ev refl came
  entry_asks w (worlds.Peek range key) ev came = as_asked false (events.Peek range key) ev refl came
  entry_asks w worlds.Restart ev came = as_asked false events.Restart ev refl came
  entry_asks w worlds.Round ev came = as_asked false events.Round ev refl came

none_more : (es : List Ended) → es ++ [] ≡ es
none_more [] = refl
none_more (e ∷ es) = ap (λ l. e ∷ l) (none_more es)

-- an admission ends nothing
quiet_guard : (n : Node) (range : ℕ) (r : Replica) (id : CmdId) (request : Request) (g : Result Evaluated Refusal)
    → (after_replica n range (at_replica.Admit id request) (admitted_by r id request g)).outcomes ≡ n.outcomes
quiet_guard n range r id request (Ok e) = none_more n.outcomes
quiet_guard n range r id request (Err why) = none_more n.outcomes

quiet_seat : (n : Node) (range : ℕ) (id : CmdId) (request : Request) (s : Status) → (by_status n range (at_replica.Admit id request) [] s).node.outcomes ≡ n.outcomes
quiet_seat n range id request Absent = refl
quiet_seat n range id request (Live r) = quiet_guard n range r id request (guarded r request)
quiet_seat n range id request (Removed applied) = refl

asked_quiet : (w : World) (n : Node) (taken : List Item) (id : CmdId) (what : Happening) (ev : Event AppliedState) → event_of w what ≡ Some ev → asks id what ≡ true → (step n ev taken).node.outcomes ≡ n.outcomes
asked_quiet w n taken id (worlds.Admit range other request) ev came a =
    subst (λ e. (acted n e taken).node.outcomes ≡ n.outcomes) (some_event (events.Admit range other request) ev came) (quiet_seat (with_request n request) range other request (seat n range))
asked_quiet w n taken id (worlds.Ask range) ev came a = absurd cc
asked_quiet w n taken id (worlds.Transfer range to) ev came a = absurd cc
asked_quiet w n taken id (worlds.Collect range given) ev came a = absurd cc
asked_quiet w n taken id (worlds.Flush range) ev came a = absurd cc
asked_quiet w n taken id worlds.Tick ev came a = absurd cc
asked_quiet w n taken id (worlds.Deliver from number) ev came a = absurd cc
asked_quiet w n taken id (worlds.Apply range) ev came a = absurd cc
asked_quiet w n taken id (worlds.Cut range) ev came a = absurd cc
asked_quiet w n taken id (worlds.Remove range) ev came a = absurd cc
asked_quiet w n taken id (worlds.Peek range key) ev came a = absurd cc
asked_quiet w n taken id worlds.Restart ev came a = absurd cc
asked_quiet w n taken id worlds.Round ev came a = absurd cc

-- a lawful scene's entry
module _ (w : World) (x : Scene) (n now : Node) (t : Turns w x n now) where
  abbrev pub written : JournalEntry
  written = entry_of n (turned w x n now t).event (taken_in x.what)

  pub journal_is : now.journal ≡ n.journal ++ written ∷ []
  journal_is = ap (λ (z : Node). z.journal) (turned w x n now t).is ∙ step_journal n (turned w x n now t).event (taken_in x.what)

  pub answer_is : answer_of now ≡ written.answer
  answer_is = ap (λ l. option_map_or (λ (e : JournalEntry). e.answer) l answers.Done) (ap last_of journal_is ∙ last_push n.journal written)

  pub written_asks : (id : CmdId) → is_admission_of id written ≡ asks id x.what
  written_asks id = entry_asks n (taken_in x.what) id w x.what (turned w x n now t).event (turned w x n now t).came

  pub asked_now : (id : CmdId) → asked_at id now ≡ (asks id x.what || asked_at id n)
  asked_now id =
      ap (list_any (is_admission_of id)) journal_is ∙ any_push (is_admission_of id) n.journal written ∙ ap (λ b. b || asked_at id n) (written_asks id)

  pub quiet : (id : CmdId) → asks id x.what ≡ true → now.outcomes ≡ n.outcomes
  quiet id a = ap (λ (z : Node). z.outcomes) (turned w x n now t).is ∙ asked_quiet w n (taken_in x.what) id x.what (turned w x n now t).event (turned w x n now t).came a

  pub no_ends : (id : CmdId) → asks id x.what ≡ true → behind n.outcomes now.outcomes ≡ []
  no_ends id a = ap (drop (length n.outcomes)) (quiet id a) ∙ drop_whole n.outcomes

  -- which attempts were asked
  pub was_asked_now : (id : CmdId) → was_asked (happens w x) id ≡ (asks id x.what || was_asked w id)
  was_asked_now id = ap (λ z. was_asked z id) (turned w x n now t).left ∙ by_node x.node t.has where
    by_node : (node : ℕ) → node_of w node ≡ Some n → was_asked (with_node w node now) id ≡ (asks id x.what || was_asked w id)
    by_node zero has = absurd (none_some has)
      where
        none_some : ◌≡◌ {A = Option Node} None (Some n) → ⊥
        none_some e = cc
    by_node (suc place) has = any_set (asked_at id) w place n now (asks id x.what) has (asked_now id)

-- an attempt has an outcome where it was asked
outcome_some : (id : CmdId) (n : Node) → asked_at id n ≡ true → (o : Outcome) × (outcome_at id n ≡ Some o)
outcome_some id n a =
    let f = found_some (is_admission_of id) n.journal a in
    (outcome_by n id f.0.answer, ap (option_map (λ (e : JournalEntry). outcome_by n id e.answer)) f.1)

pub asked_known : (w : World) (id : CmdId) → is_some (outcome_of w id) ≡ was_asked w id
asked_known w id = go (was_asked w id) refl where
  go : (b : Bool) → was_asked w id ≡ b → is_some (outcome_of w id) ≡ b
  go true is =
      let f = found_some (asked_at id) w is in
      let o = outcome_some id f.0 (found_passes (asked_at id) w f.0 f.1) in
      ap is_some (ap (option_and_then (outcome_at id)) f.1 ∙ o.1)
  go false is = ap is_some (ap (option_and_then (outcome_at id)) (found_none (asked_at id) w is))

-- at first no attempt was asked
pub first_unasked : (nodes : ℕ) (id : CmdId) → was_asked (first_world nodes) id ≡ false
first_unasked nodes id = go (nodes_to nodes) where
  go : (numbers : List ℕ) → list_any (asked_at id) (map (λ node. first_node node nodes) numbers) ≡ false
  go [] = refl
  go (k ∷ ks) = go ks
