-- Each event of a journal might come as its node stood: this stays, and an event that may come adds to it.
use Rattle.std.proofs.Common.{◌≡◌, ℕ, ◌≤◌, ◌<◌, Bool, true, false, ⊎_elim, Option, None, Some, List, [], ◌∷◌, ◌++◌, length, refl, sym, ap, subst, ◌∙◌, arith}
use Rattle.std.specs.Prelude.{slice_get}
use Rattle.std.proofs.lemmas.Option.{slice_get_within}
use Rattle.rp_events.specs.declared.journals.JournalEntry.{JournalEntry}
use Rattle.rp_events.specs.declared.journals.PastEvent.{PastEvent}
use Rattle.rp_events.specs.Journals.{stood_before}
use Rattle.rp_events.specs.Lawful.{IsReached}
use Rattle.rp_events.specs.Lists.{IsWritten}
use Rattle.rp_events.specs.Nodes.{Node}
use Rattle.rp_events.specs.Worlds.{World, Scene, node_of, taken_in, happens, first_world}
use Rattle.rp_journals.specs.Entries.{AllReadBack}
use Rattle.rp_journals.proofs.Growing.{Happened, happened, scene_grows, one_node}
use Rattle.rp_journals.proofs.Reading.{entry_of, reads_back, stands_now}
use Rattle.rp_journals.proofs.Writing.{EntryCases, Old, New, entry_cases, stood_later, none_written}
use Rattle.rp_race.specs.declared.rules.RaceRules.{RaceRules}
use Rattle.rp_race.specs.Rounds.{may_come, Stage, between, stage_of, stage_after}
use Rattle.rp_race.specs.Gives.{kept_as}
use Rattle.rp_race.proofs.Ahead.{kept_is, fold_further}

abbrev pub Ordered : RaceRules → World → Type 0
Ordered rules w = (node : ℕ) (n : Node) → node_of w node ≡ Some n → (place : ℕ) (e : JournalEntry)
    → slice_get n.journal place ≡ Some e → may_come rules (stood_before w n place) e.event ≡ true

pub ordered_scene : (rules : RaceRules) (nodes : ℕ) (w : World) (x : Scene) → IsReached nodes w → (n : Node) → node_of w x.node ≡ Some n → may_come rules n (kept_as n x.what) ≡ true
    → Ordered rules w → Ordered rules (happens w x)
ordered_scene rules nodes w x reached n has may h = ⊎_elim
    (λ (same : happens w x ≡ w). subst (Ordered rules) (sym same) h)
    (λ (k : Happened w x). λ node now is place e here. by_cases k node now is place e (entry_cases w x k node place e (record { n = now; has = is; here = here })))
    (happened w x)
  where
    reads : AllReadBack w
    reads = reads_back nodes w reached

    by_cases : (k : Happened w x) (node : ℕ) (now : Node) → node_of (happens w x) node ≡ Some now → (place : ℕ) (e : JournalEntry) → EntryCases w x k node place e
        → may_come rules (stood_before (happens w x) now place) e.event ≡ true
    by_cases k node now is place e (Old was) =
        let within : place < length was.n.journal = slice_get_within was.n.journal place e was.here in
        let stood : stood_before (happens w x) now place ≡ stood_before w was.n place = stood_later w (happens w x) reads (scene_grows w x) node was.n now was.has is place (omega (arith, within)) in
        ap (λ z. may_come rules z e.event) stood ∙ h node was.n was.has place e was.here
    by_cases k node now is place e (New same at entry) =
        let n_is : k.n ≡ n = one_node w x.node k.n n k.has has in
        let there : node_of (happens w x) x.node ≡ Some now = subst (λ z. node_of (happens w x) z ≡ Some now) same is in
        let stood : stood_before (happens w x) now place ≡ n =
        ap (stood_before (happens w x) now) at
        ∙ stood_later w (happens w x) reads (scene_grows w x) x.node k.n now k.has there (length k.n.journal) (omega arith)
        ∙ stands_now w k.n (reads x.node k.n k.has) ∙ n_is in
        let kept : e.event ≡ kept_as n x.what =
        ap (λ (z : JournalEntry). z.event) entry ∙ kept_is w k.n x.what k.event k.came ∙ ap (λ z. kept_as z x.what) n_is in
        ap (λ z. may_come rules z e.event) stood ∙ ap (may_come rules n) kept ∙ may

pub ordered_first : (rules : RaceRules) (nodes : ℕ) → Ordered rules (first_world nodes)
ordered_first rules nodes node n has place e here = absurd (none_written nodes node place e (record { n = n; has = has; here = here }))

-- how far a round has come behind one event more
pub stage_push : (js : List JournalEntry) (e : JournalEntry) → stage_of (js ++ e ∷ []) ≡ stage_after (stage_of js) e.event
stage_push js e = fold_further (λ (s : Stage) (x : JournalEntry). stage_after s x.event) js (e ∷ []) between
