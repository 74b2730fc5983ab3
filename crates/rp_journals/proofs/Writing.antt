-- How each entry of a journal was written.
use Rattle.std.proofs.Common.{◌≡◌, ℕ, ◌<◌, ◌≤◌, ⊎_elim, Option, Some, [], ◌∷◌, ◌++◌, length, refl, sym, ap, subst, ◌∙◌, arith}
use Rattle.std.specs.Prelude.{slice_get}
use Rattle.std.proofs.lemmas.Bool.{cases_eq}
use Rattle.std.proofs.lemmas.Option.{slice_get_within}
use Rattle.rp_events.specs.declared.journals.JournalEntry.{JournalEntry}
use Rattle.rp_events.specs.Nodes.{Node}
use Rattle.rp_events.specs.NodeEvents.{step}
use Rattle.rp_events.specs.Worlds.{World, Scene, Schedule, first_world, node_of, taken_in, happens, run}
use Rattle.rp_events.specs.Lawful.{Lawful, AllLawful, IsReached, IsLater}
use Rattle.rp_events.specs.Journals.{stood_before}
use Rattle.rp_events.specs.Lists.{IsWritten}
use Rattle.rp_journals.specs.Growth.{Grows, WorldGrows}
use Rattle.rp_journals.specs.Entries.{AllReadBack, WasWritten}
use Rattle.rp_journals.proofs.Lists.{get_push, PushCases, Before, Last}
use Rattle.rp_journals.proofs.Growing.{Happened, happened, grows_refl, grows_trans, one_node, with_same, with_other, scene_grows, sent_grows, later_grows, later_refl, later_trans, reached_later}
use Rattle.rp_journals.proofs.Reading.{entry_of, step_journal, reads_back, first_at, stood_more, stands_now}

-- the world after one lawful scene
pub later_scene : (w : World) (x : Scene) → Lawful w x → IsLater w (happens w x)
later_scene w x l = record { schedule = x ∷ []; lawful = (l, tt); reached = refl }

-- a node as it stood is the same in each later world
pub stood_later : (w later : World) → AllReadBack w → WorldGrows w later → (node : ℕ) (n now : Node) → node_of w node ≡ Some n → node_of later node ≡ Some now
    → (place : ℕ) → place ≤ length n.journal → stood_before later now place ≡ stood_before w n place
stood_later w later reads g node n now has is place within =
    let x = g.each node n has in
    subst (λ k. stood_before later k place ≡ stood_before w n place) (one_node later node x.now now x.has is)
    (stood_more w later (sent_grows w later g) n x.now (reads node n has) x.grows place within)

pub written_later : (nodes : ℕ) (w later : World) → AllReadBack w → IsLater w later → (node place : ℕ) (e : JournalEntry) → IsWritten w node place e → WasWritten nodes w node place e
    → WasWritten nodes later node place e
written_later nodes w later reads l node place e was h = record {
  before = h.before;
  reached = h.reached;
  what = h.what;
  lawful = h.lawful;
  later = later_trans _ w later h.later l;
  n = h.n;
  has = h.has;
  at = h.at;
  stood = λ now is.
      let within : place < length was.n.journal = slice_get_within was.n.journal place e was.here in
      stood_later w later reads (later_grows w later l) node was.n now was.has is place (omega (arith, within)) ∙ h.stood was.n was.has;
  event = h.event;
  came = h.came;
  entry = h.entry;
  grown = λ now is.
      let x = (later_grows w later l).each node was.n was.has in
      grows_trans _ was.n now (h.grown was.n was.has) (subst (Grows was.n) (one_node later node x.now now x.has is) x.grows);
}

-- an entry of a world after an event was there, or is the event's
pub data EntryCases (w : World) (x : Scene) (k : Happened w x) (node place : ℕ) (e : JournalEntry) : Type 0 where
  Old : IsWritten w node place e → EntryCases w x k node place e
  New : node ≡ x.node → place ≡ length k.n.journal → e ≡ entry_of k.n k.event (taken_in x.what) → EntryCases w x k node place e

pub now_is : (w : World) (x : Scene) (k : Happened w x) → node_of (happens w x) x.node ≡ Some (step k.n k.event (taken_in x.what)).node
now_is w x k = subst (λ z. node_of z x.node ≡ Some (step k.n k.event (taken_in x.what)).node) (sym k.is) (with_same w x.node k.n (step k.n k.event (taken_in x.what)).node k.has)

pub other_is : (w : World) (x : Scene) (k : Happened w x) (node : ℕ) → (node ≡ x.node → ⊥) → node_of (happens w x) node ≡ node_of w node
other_is w x k node ne = ap (λ z. node_of z node) k.is ∙ with_other w x.node (step k.n k.event (taken_in x.what)).node node ne

pub entry_cases : (w : World) (x : Scene) (k : Happened w x) (node place : ℕ) (e : JournalEntry) → IsWritten (happens w x) node place e → EntryCases w x k node place e
entry_cases w x k node place e is = ⊎_elim here elsewhere (cases_eq node x.node) where
  new : Node
  new = (step k.n k.event (taken_in x.what)).node

  elsewhere : (node ≡ x.node → ⊥) → EntryCases w x k node place e
  elsewhere ne = Old (record { n = is.n; has = sym (other_is w x k node ne) ∙ is.has; here = is.here })

  here : node ≡ x.node → EntryCases w x k node place e
  here same =
      let is_new : is.n ≡ new = one_node (happens w x) x.node is.n new (subst (λ z. node_of (happens w x) z ≡ Some is.n) same is.has) (now_is w x k) in
      let at : slice_get (k.n.journal ++ entry_of k.n k.event (taken_in x.what) ∷ []) place ≡ Some e =
      subst (λ l. slice_get l place ≡ Some e) (ap (λ (z : Node). z.journal) is_new ∙ step_journal k.n k.event (taken_in x.what)) is.here in
      by_place (get_push k.n.journal (entry_of k.n k.event (taken_in x.what)) place e at)
    where
      by_place : PushCases k.n.journal (entry_of k.n k.event (taken_in x.what)) place e → EntryCases w x k node place e
      by_place (Before was_at) = Old (record { n = k.n; has = subst (λ z. node_of w z ≡ Some k.n) (sym same) k.has; here = was_at })
      by_place (Last at entry) = New same at entry

abbrev AllWritten : ℕ → World → Type 0
AllWritten nodes w = (node place : ℕ) (e : JournalEntry) → IsWritten w node place e → WasWritten nodes w node place e

written_scene : (nodes : ℕ) (w : World) (x : Scene) → IsReached nodes w → Lawful w x → AllWritten nodes w → AllWritten nodes (happens w x)
written_scene nodes w x reached l h = ⊎_elim
    (λ (same : happens w x ≡ w). subst (AllWritten nodes) (sym same) h)
    (λ (k : Happened w x). λ node place e is. by_cases k node place e (entry_cases w x k node place e is))
    (happened w x)
  where
    reads : AllReadBack w
    reads = reads_back nodes w reached

    by_cases : (k : Happened w x) (node place : ℕ) (e : JournalEntry) → EntryCases w x k node place e → WasWritten nodes (happens w x) node place e
    by_cases k node place e (Old was) = written_later nodes w (happens w x) reads (later_scene w x l) node place e was (h node place e was)
    by_cases k node place e (New same at entry) = subst (λ z. WasWritten nodes (happens w x) z place e) (sym same) (record {
      before = w;
      reached = reached;
      what = x.what;
      lawful = l;
      later = later_refl (happens w x);
      n = k.n;
      has = k.has;
      at = sym at;
      stood = λ now has.
          ap (stood_before (happens w x) now) at
          ∙ stood_later w (happens w x) reads (scene_grows w x) x.node k.n now k.has has (length k.n.journal) (omega arith)
          ∙ stands_now w k.n (reads x.node k.n k.has);
      event = k.event;
      came = k.came;
      entry = entry;
      grown = λ now has. subst (Grows (step k.n k.event (taken_in x.what)).node) (one_node (happens w x) x.node _ now (now_is w x k) has) (grows_refl (step k.n k.event (taken_in x.what)).node);
    })

written_run : (nodes : ℕ) (xs : Schedule) (w : World) → IsReached nodes w → AllLawful w xs → AllWritten nodes w → AllWritten nodes (run w xs)
written_run nodes [] w reached lawful h = h
written_run nodes (x ∷ xs) w reached lawful h =
    written_run nodes xs (happens w x) (reached_later nodes w (happens w x) reached (later_scene w x lawful.0)) lawful.1 (written_scene nodes w x reached lawful.0 h)

pub first_reached : (nodes : ℕ) (w : World) → IsReached nodes w → IsReached nodes (first_world nodes)
first_reached nodes w r = record { some = r.some; few = r.few; schedule = []; lawful = tt; reached = refl }

-- nothing is written at the start
pub none_written : (nodes node place : ℕ) (e : JournalEntry) → IsWritten (first_world nodes) node place e → ⊥
none_written nodes node place e is = nothing place (subst (λ (z : Node). slice_get z.journal place ≡ Some e) (first_at nodes node is.n is.has) is.here) where
  nothing : (i : ℕ) → ◌≡◌ {A = Option JournalEntry} (slice_get [] i) (Some e) → ⊥
  nothing i e' = cc

pub written : (nodes : ℕ) (w : World) → IsReached nodes w → AllWritten nodes w
written nodes w r = subst (AllWritten nodes) r.reached (written_run nodes r.schedule (first_world nodes) (first_reached nodes w r) r.lawful first) where
  first : AllWritten nodes (first_world nodes)
  first node place e is = absurd (none_written nodes node place e is)
