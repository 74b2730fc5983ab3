-- The replay of a journal over what the nodes have sent is the node.
use Rattle.std.proofs.Common.{◌≡◌, ℕ, zero, suc, ◌+◌, ◌≤◌, ⊎_elim, Option, None, Some, List, [], ◌∷◌, ◌++◌, length, map, take, refl, sym, ap, subst, ◌∙◌}
use Rattle.std.specs.Prelude.{slice_get}
use Rattle.std.specs.List.{AllByRecursion}
use Rattle.std.specs.Option.{option_map, option_map_or}
use Rattle.std.proofs.lemmas.Bool.{cases_eq}
use Rattle.rp_base.specs.declared.ids.CmdId.{CmdId}
use Rattle.rp_base.specs.declared.items.Item.{Item}
use Rattle.rp_raftstep.specs.RaftState.{nodes_to}
use Rattle.rp_request.specs.Applied.{AppliedState}
use Rattle.rp_request.specs.declared.requests.Request.{Request}
use Rattle.rp_events.specs.declared.journals.JournalEntry.{JournalEntry}
use Rattle.rp_events.specs.declared.journals.PastEvent.{PastEvent}
use Rattle.rp_events.specs.declared.journals.PastEvent.TheVariants as past
use Rattle.rp_events.specs.declared.node_events.Event.{Event}
use Rattle.rp_events.specs.declared.node_events.Event.TheVariants as events
use Rattle.rp_events.specs.declared.replica_events.ReplicaEvent.{ReplicaEvent}
use Rattle.rp_events.specs.declared.replica_events.ReplicaEvent.TheVariants as at_replica
use Rattle.rp_raftstep.specs.declared.messages.Message.{Message}
use Rattle.rp_events.specs.ReplicaEvents.{event}
use Rattle.rp_events.specs.Replicas.{Done}
use Rattle.rp_events.specs.Nodes.{Node, Status, Absent, Live, Removed, seat, first_node, parcel_of, opened, opened_by, after_turn, range_numbers}
use Rattle.rp_events.specs.NodeEvents.{status_after, after_replica, by_status, live_turn, all_turns, delivered, acted, past_of, step, with_request}
use Rattle.rp_events.specs.Worlds as worlds
use Rattle.rp_events.specs.Worlds.{World, Scene, Happening, Schedule, first_world, node_of, with_node, sent_by, delivery, event_of, taken_in, happens, run}
use Rattle.rp_events.specs.Lawful.{IsReached}
use Rattle.rp_events.specs.Journals.{as_it_came, given_then, again, replayed, stood_before, Replays}
use Rattle.rp_journals.specs.Growth.{Begins, Grows, SentGrows}
use Rattle.rp_journals.specs.Entries.{IsRead, ReadsBack, AllReadBack}
use Rattle.rp_journals.proofs.Lists.{begins_refl, get_begins, get_end, take_begins, take_whole, all_take, all_push, all_weaker}
use Rattle.rp_journals.proofs.Growing.{status_grows, Happened, happened, one_node, step_grows, with_same, with_other, scene_grows, sent_grows, parcel_stays}

-- an option that is something
pub mapped_some : {A B : Type 0} (f : A → B) (o : Option A) (b : B) → option_map f o ≡ Some b → (a : A) × (o ≡ Some a) × (f a ≡ b)
mapped_some f None b e = absurd cc
mapped_some {A} {B} f (Some a) b e = (a, refl, some_is (f a) b e) where
  some_is : (x y : B) → ◌≡◌ {A = Option B} (Some x) (Some y) → x ≡ y
  some_is x y e = cc

abbrev pub admitting : (range : ℕ) → CmdId → Request → Event AppliedState
admitting range id request = events.Admit range id request

-- an event of a journal reads the same from lists that have grown
pub read_more : (w later : World) → SentGrows w later → (rs more : List Request) → Begins rs more → (e : PastEvent) (ev : Event AppliedState)
    → as_it_came w rs e ≡ Some ev → as_it_came later more e ≡ Some ev
read_more w later g rs more b (past.Admit range id place) ev is =
    let x = mapped_some (λ (r : Request). admitting range id r) (slice_get rs place) ev is in
    ap (option_map (λ (r : Request). admitting range id r)) (get_begins rs more b place x.0 x.1) ∙ ap Some x.2
read_more w later g rs more b (past.Ask range) ev is = is
read_more w later g rs more b (past.Transfer range to) ev is = is
read_more w later g rs more b (past.Collect range taken) ev is = is
read_more w later g rs more b (past.Flush range) ev is = is
read_more w later g rs more b past.Tick ev is = is
read_more w later g rs more b (past.Deliver from number) ev is =
    let x = mapped_some (delivery from number) (parcel_of (sent_by w from) number) ev is in
    ap (option_map (delivery from number)) (parcel_stays (sent_by w from) (sent_by later from) (g from) number x.0 x.1) ∙ ap Some x.2
read_more w later g rs more b (past.Apply range) ev is = is
read_more w later g rs more b (past.Cut range) ev is = is
read_more w later g rs more b (past.Remove range) ev is = is
read_more w later g rs more b (past.Peek range key) ev is = is
read_more w later g rs more b past.Restart ev is = is
read_more w later g rs more b (past.Round sent) ev is = is

abbrev AllRead : World → List Request → List JournalEntry → Type 0
AllRead w rs es = AllByRecursion (λ (e : JournalEntry). IsRead w rs e.event) es

pub all_read_more : (w later : World) → SentGrows w later → (rs more : List Request) → Begins rs more → (es : List JournalEntry) → AllRead w rs es → AllRead later more es
all_read_more w later g rs more b es h =
    all_weaker (λ (e : JournalEntry). IsRead w rs e.event) (λ (e : JournalEntry). IsRead later more e.event)
    (λ e r. record { event = r.event; is = read_more w later g rs more b e.event r.event r.is }) es h

-- and its replay is the same
pub again_is : (w : World) (rs : List Request) (n : Node) (e : PastEvent) (ev : Event AppliedState) → as_it_came w rs e ≡ Some ev → again w rs n e ≡ (step n ev (given_then e)).node
again_is w rs n e ev is = ap (λ o. option_map_or (λ (x : Event AppliedState). (step n x (given_then e)).node) o n) is

pub replay_more : (w later : World) → SentGrows w later → (rs more : List Request) → Begins rs more → (es : List JournalEntry) → AllRead w rs es → (n : Node)
    → replayed later more n es ≡ replayed w rs n es
replay_more w later g rs more b [] h n = refl
replay_more w later g rs more b (e ∷ es) h n =
    let r : IsRead w rs e.event = h.0 in
    let same : again later more n e.event ≡ again w rs n e.event =
    again_is later more n e.event r.event (read_more w later g rs more b e.event r.event r.is) ∙ sym (again_is w rs n e.event r.event r.is) in
    ap (λ k. replayed later more k es) same ∙ replay_more w later g rs more b es h.1 (again w rs n e.event)

pub replay_further : (w : World) (rs : List Request) (es fs : List JournalEntry) (n : Node) → replayed w rs n (es ++ fs) ≡ replayed w rs (replayed w rs n es) fs
replay_further w rs [] fs n = refl
replay_further w rs (e ∷ es) fs n = replay_further w rs es fs (again w rs n e.event)

-- while the node acts its journal stays, and its list of requests grows by that of an admission
opened_same : (n : Node) (o : Option AppliedState) → (opened n o).journal ≡ n.journal
opened_same n None = refl
opened_same n (Some s) = go (seat n s.desc.id) where
  go : (status : Status) → (opened_by n s status).journal ≡ n.journal
  go Absent = refl
  go (Live r) = refl
  go (Removed applied) = refl

replica_same : (n : Node) (range : ℕ) (e : ReplicaEvent AppliedState) (d : Done) → (after_replica n range e d).journal ≡ n.journal
replica_same n range e d = opened_same (after_turn n range (status_after e d.replica) d) d.right

status_same : (n : Node) (range : ℕ) (e : ReplicaEvent AppliedState) (taken : List Item) (status : Status) → (by_status n range e taken status).node.journal ≡ n.journal
status_same n range e taken Absent = refl
status_same n range e taken (Live r) = replica_same n range e (event r e n.ticks n.rounds taken)
status_same n range e taken (Removed applied) = refl

live_same : (n : Node) (range : ℕ) (e : ReplicaEvent AppliedState) (status : Status) → (live_turn e n range status).journal ≡ n.journal
live_same n range e Absent = refl
live_same n range e (Live r) = replica_same n range e (event r e n.ticks n.rounds [])
live_same n range e (Removed applied) = refl

all_same : (e : ReplicaEvent AppliedState) (ranges : List ℕ) (n : Node) → (all_turns e n ranges).journal ≡ n.journal
all_same e [] n = refl
all_same e (range ∷ ranges) n = all_same e ranges (live_turn e n range (seat n range)) ∙ live_same n range e (seat n range)

message_same : (n : Node) (from range : ℕ) (m : Message AppliedState) (status : Status) → (delivered n from range m status).journal ≡ n.journal
message_same n from range m Absent = refl
message_same n from range m (Live r) = replica_same n range (at_replica.Deliver from m) (event r (at_replica.Deliver from m) n.ticks n.rounds [])
message_same n from range m (Removed applied) = refl

pub acted_same : (n : Node) (e : Event AppliedState) (taken : List Item) → (acted n e taken).node.journal ≡ n.journal
acted_same n (events.Admit range id request) taken = status_same (with_request n request) range (at_replica.Admit id request) [] (seat n range)
acted_same n (events.Ask range) taken = status_same n range at_replica.Ask [] (seat n range)
acted_same n (events.Transfer range to) taken = status_same n range (at_replica.Transfer to) [] (seat n range)
acted_same n (events.Collect range) taken = status_same n range at_replica.Collect taken (seat n range)
acted_same n (events.Flush range) taken = status_same n range at_replica.Flush [] (seat n range)
acted_same n events.Tick taken = all_same at_replica.Tick range_numbers (record n { ticks = n.ticks + 1 })
acted_same n (events.Deliver from range number m) taken = message_same n from range m (seat n range)
acted_same n (events.Apply range) taken = status_same n range at_replica.Apply [] (seat n range)
acted_same n (events.Cut range) taken = status_same n range at_replica.Cut [] (seat n range)
acted_same n (events.Remove range) taken = status_same n range at_replica.Remove [] (seat n range)
acted_same n (events.Peek range key) taken = status_same n range (at_replica.Peek key) [] (seat n range)
acted_same n events.Restart taken = all_same at_replica.Restart range_numbers n
acted_same n events.Round taken = refl

-- the entry of an event
abbrev pub entry_of : Node → Event AppliedState → List Item → JournalEntry
entry_of n e taken = record { event = past_of n e taken; answer = (step n e taken).answer }

pub step_journal : (n : Node) (e : Event AppliedState) (taken : List Item) → (step n e taken).node.journal ≡ n.journal ++ entry_of n e taken ∷ []
step_journal n e taken = ap (λ l. l ++ entry_of n e taken ∷ []) (acted_same n e taken)

-- an event is read again from its entry, as it came
record ReadsAs (w : World) (n : Node) (taken : List Item) (ev : Event AppliedState) : Type 0 where
  given : given_then (past_of n ev taken) ≡ taken
  reads : (later : World) (more : List Request) → SentGrows w later → Begins ((acted n ev taken).node.requests) more → as_it_came later more (past_of n ev taken) ≡ Some ev

some_event : (a b : Event AppliedState) → ◌≡◌ {A = Option (Event AppliedState)} (Some a) (Some b) → a ≡ b
some_event a b e = cc

-- one that is read from nothing else
plain : (w : World) (n : Node) (taken : List Item) (a ev : Event AppliedState) → ◌≡◌ {A = Option (Event AppliedState)} (Some a) (Some ev) → given_then (past_of n a taken) ≡ taken
    → ((later : World) (more : List Request) → as_it_came later more (past_of n a taken) ≡ Some a) → ReadsAs w n taken ev
plain w n taken a ev came given reads = subst (ReadsAs w n taken) (some_event a ev came) (record { given = given; reads = λ later more g b. reads later more })

read_again : (w : World) (what : Happening) (n : Node) (ev : Event AppliedState) → event_of w what ≡ Some ev → ReadsAs w n (taken_in what) ev
read_again w (worlds.Admit range id request) n ev came = subst (ReadsAs w n []) (some_event (admitting range id request) ev came) (record {
  given = refl;
  reads = λ later more g b.
      let asked : Node = with_request n request in
      let grown = status_grows asked range (at_replica.Admit id request) [] (seat n range) in
      ap (option_map (admitting range id))
      (get_begins _ more b (length n.requests) request (get_begins asked.requests _ grown.requests (length n.requests) request (get_end n.requests request [])));
})
read_again w (worlds.Ask range) n ev came = plain w n [] (events.Ask range) ev came refl (λ later more. refl)
read_again w (worlds.Transfer range to) n ev came = plain w n [] (events.Transfer range to) ev came refl (λ later more. refl)
read_again w (worlds.Collect range taken) n ev came = plain w n taken (events.Collect range) ev came refl (λ later more. refl)
read_again w (worlds.Flush range) n ev came = plain w n [] (events.Flush range) ev came refl (λ later more. refl)
read_again w worlds.Tick n ev came = plain w n [] events.Tick ev came refl (λ later more. refl)
read_again w (worlds.Deliver from number) n ev came =
    let x = mapped_some (delivery from number) (parcel_of (sent_by w from) number) ev came in
    subst (ReadsAs w n []) x.2 (record {
      given = refl;
      reads = λ later more g b. ap (option_map (delivery from number)) (parcel_stays (sent_by w from) (sent_by later from) (g from) number x.0 x.1);
    })
read_again w (worlds.Apply range) n ev came = plain w n [] (events.Apply range) ev came refl (λ later more. refl)
read_again w (worlds.Cut range) n ev came = plain w n [] (events.Cut range) ev came refl (λ later more. refl)
read_again w (worlds.Remove range) n ev came = plain w n [] (events.Remove range) ev came refl (λ later more. refl)
read_again w (worlds.Peek range key) n ev came = plain w n [] (events.Peek range key) ev came refl (λ later more. refl)
read_again w worlds.Restart n ev came = plain w n [] events.Restart ev came refl (λ later more. refl)
read_again w worlds.Round n ev came = plain w n [] events.Round ev came refl (λ later more. refl)

-- a node that reads back does so later, where nothing happened to it
pub reads_later : (w later : World) → SentGrows w later → (n : Node) → ReadsBack w n → ReadsBack later n
reads_later w later g n h = record {
  all = all_read_more w later g n.requests n.requests (begins_refl n.requests) n.journal h.all;
  is = replay_more w later g n.requests n.requests (begins_refl n.requests) n.journal h.all (first_node n.node n.nodes) ∙ h.is;
}

-- and so does the node after an event
reads_step : (w later : World) → SentGrows w later → (what : Happening) (n : Node) (ev : Event AppliedState) → event_of w what ≡ Some ev → ReadsBack w n
    → ReadsBack later (step n ev (taken_in what)).node
reads_step w later g what n ev came h =
    let taken : List Item = taken_in what in
    let new : Node = (step n ev taken).node in
    let e : JournalEntry = entry_of n ev taken in
    let grown : Grows n new = step_grows n ev taken in
    let read = read_again w what n ev came in
    let here : as_it_came later new.requests e.event ≡ Some ev = read.reads later new.requests g (begins_refl new.requests) in
    let before : AllRead later new.requests n.journal = all_read_more w later g n.requests new.requests grown.requests n.journal h.all in
    let first_is : first_node new.node new.nodes ≡ first_node n.node n.nodes = ap (λ k. first_node k new.nodes) grown.number ∙ ap (first_node n.node) grown.of in
    let replay_is : replayed later new.requests (first_node n.node n.nodes) n.journal ≡ n =
    replay_more w later g n.requests new.requests grown.requests n.journal h.all (first_node n.node n.nodes) ∙ h.is in
    record {
      all = subst (AllRead later new.requests) (sym (step_journal n ev taken)) (all_push (λ (x : JournalEntry). IsRead later new.requests x.event) n.journal e before (record { event = ev; is = here }));
      is = ap (λ k. replayed later new.requests k new.journal) first_is
          ∙ ap (replayed later new.requests (first_node n.node n.nodes)) (step_journal n ev taken)
          ∙ replay_further later new.requests n.journal (e ∷ []) (first_node n.node n.nodes)
          ∙ ap (λ k. again later new.requests k e.event) replay_is
          ∙ again_is later new.requests n e.event ev here
          ∙ ap (λ t. (step n ev t).node) read.given;
    }

-- what holds of each node of a world in which one changed
pub node_after : (P : ℕ → Node → Type 0) (w : World) (node : ℕ) (n new : Node) → node_of w node ≡ Some n → P node new
    → ((other : ℕ) (m : Node) → (other ≡ node → ⊥) → node_of w other ≡ Some m → P other m)
    → (other : ℕ) (m : Node) → node_of (with_node w node new) other ≡ Some m → P other m
node_after P w node n new has h k other m is = ⊎_elim
    (λ (same : other ≡ node). subst (λ z. P z m) (sym same) (subst (P node) (one_node (with_node w node new) node new m (with_same w node n new has) (subst (λ z. node_of (with_node w node new) z ≡ Some m) same is)) h))
    (λ (ne : other ≡ node → ⊥). k other m ne (sym (with_other w node new other ne) ∙ is))
    (cases_eq other node)

pub reads_scene : (w : World) (x : Scene) → AllReadBack w → AllReadBack (happens w x)
reads_scene w x h = ⊎_elim
    (λ (same : happens w x ≡ w). subst AllReadBack (sym same) h)
    (λ (k : Happened w x).
    let new : Node = (step k.n k.event (taken_in x.what)).node in
    let g : SentGrows w (happens w x) = sent_grows w (happens w x) (scene_grows w x) in
    let after : SentGrows w (with_node w x.node new) = subst (SentGrows w) k.is g in
    subst AllReadBack (sym k.is)
    (node_after (λ other m. ReadsBack (with_node w x.node new) m) w x.node k.n new k.has
    (reads_step w (with_node w x.node new) after x.what k.n k.event k.came (h x.node k.n k.has))
    (λ other m ne is. reads_later w (with_node w x.node new) after m (h other m is))))
    (happened w x)

pub reads_run : (xs : Schedule) (w : World) → AllReadBack w → AllReadBack (run w xs)
reads_run [] w h = h
reads_run (x ∷ xs) w h = reads_run xs (happens w x) (reads_scene w x h)

-- at the start
first_is : (nodes : ℕ) (numbers : List ℕ) (i : ℕ) (n : Node) → slice_get (map (λ node. first_node node nodes) numbers) i ≡ Some n → n ≡ first_node n.node nodes
first_is nodes [] i n e = absurd cc
first_is nodes (k ∷ numbers) zero n e = some_first (first_node k nodes) n e refl where
  some_is : (a b : Node) → ◌≡◌ {A = Option Node} (Some a) (Some b) → a ≡ b
  some_is a b e = cc

  some_first : (a b : Node) → ◌≡◌ {A = Option Node} (Some a) (Some b) → a ≡ first_node a.node nodes → b ≡ first_node b.node nodes
  some_first a b e is = subst (λ (z : Node). z ≡ first_node z.node nodes) (some_is a b e) is
first_is nodes (k ∷ numbers) (suc i) n e = first_is nodes numbers i n e

pub first_at : (nodes : ℕ) (node : ℕ) (n : Node) → node_of (first_world nodes) node ≡ Some n → n ≡ first_node n.node nodes
first_at nodes zero n e = absurd (none_some e)
  where
    none_some : ◌≡◌ {A = Option Node} None (Some n) → ⊥
    none_some e = cc
first_at nodes (suc place) n e = first_is nodes (nodes_to nodes) place n e

pub reads_first : (nodes : ℕ) → AllReadBack (first_world nodes)
reads_first nodes node n e = subst (ReadsBack (first_world nodes)) (sym (first_at nodes node n e)) (record { all = tt; is = refl })

pub reads_back : (nodes : ℕ) (w : World) → IsReached nodes w → AllReadBack w
reads_back nodes w r = subst AllReadBack r.reached (reads_run r.schedule (first_world nodes) (reads_first nodes))

pub replays : (nodes : ℕ) (w : World) → IsReached nodes w → Replays w
replays nodes w r node n has = (reads_back nodes w r node n has).is

-- a node as it stood stays so
pub stood_more : (w later : World) → SentGrows w later → (n m : Node) → ReadsBack w n → Grows n m → (place : ℕ) → place ≤ length n.journal → stood_before later m place ≡ stood_before w n place
stood_more w later g n m h grown place within =
    ap (λ k. replayed later m.requests (first_node k m.nodes) (take place m.journal)) grown.number
    ∙ ap (λ k. replayed later m.requests (first_node n.node k) (take place m.journal)) grown.of
    ∙ ap (replayed later m.requests (first_node n.node n.nodes)) (take_begins place n.journal m.journal grown.journal within)
    ∙ replay_more w later g n.requests m.requests grown.requests (take place n.journal) (all_take (λ (e : JournalEntry). IsRead w n.requests e.event) place n.journal h.all) (first_node n.node n.nodes)

-- before its next entry the node is as it stands
pub stands_now : (w : World) (n : Node) → ReadsBack w n → stood_before w n (length n.journal) ≡ n
stands_now w n h = ap (replayed w n.requests (first_node n.node n.nodes)) (take_whole n.journal) ∙ h.is
