-- A snapshot that a message brings is of an index and a state that the machine has.
use Rattle.std.proofs.Common.{◌≡◌, ℕ, zero, suc, ◌-◌, ◌≤◌, Some, List, ◌∷◌, ◌++◌, take, length, sym, ap, ◌∙◌, arith, length-append}
use Rattle.std.specs.Prelude.{slice_get}
use Rattle.std.specs.List.{fold}
use Rattle.std.proofs.lemmas.List.{take-map, take-append-le, length-map}
use Rattle.rp_raftlog.specs.declared.entries.Entry.{Entry}
use Rattle.rp_raftstep.specs.declared.messages.Message.{Message}
use Rattle.rp_raftstep.specs.declared.messages.Message.TheVariants.{Snap}
use Rattle.rp_request.specs.Applied.{AppliedState, after_all}
use Rattle.rp_raftsafe.specs.World as raft
use Rattle.rp_raftsafe.specs.Safety.{OneListOf, IsShown, HasSent}
use Rattle.rp_raftsafe.specs.Snapshots.{HadApplied}
use Rattle.rp_raftsafe.proofs.Snapped.{snaps_were_applied_holds}
use Rattle.rp_rangesafe.specs.World as machine
use Rattle.rp_rangesafe.specs.World.{state_at}
use Rattle.rp_rangesafe.proofs.Folds.{state_of_entries}
use Rattle.rp_events.specs.declared.parcels.Parcel.{Parcel}
use Rattle.rp_events.specs.Nodes.{parcel_of}
use Rattle.rp_events.specs.Lists.{base_of}
use Rattle.rp_events.specs.Worlds.{World, sent_by}
use Rattle.rp_seats.specs.Views.{view, number_in, act, range_at}
use Rattle.rp_seats.specs.Standing.{RaftOk}
use Rattle.rp_seats.specs.Turned.{IsJump}
use Rattle.rp_seats.proofs.Worlds.{message_seen}
use Rattle.rp_seats.proofs.Commits.{pay}
use Rattle.rp_seats.proofs.Shown.{folded}

module _ (nodes range : ℕ) (s : AppliedState) (one : OneListOf (range_at nodes range s)) (seen : List raft.Event) (w : World) (h : machine.World)
    (ok : RaftOk nodes range s one seen w h) where
  abbrev g : raft.Range AppliedState
  g = range_at nodes range s

  -- a message that a node was sent, as Raft's world has it
  was_sent : (from number to : ℕ) (m : Message AppliedState) → raft.message_of (raft.site (view range w) from) number ≡ Some (to, m) → HasSent (raft.world_after g seen) from to m
  was_sent from zero to m e = absurd cc
  was_sent from (suc place) to m e = (place, ap (λ (z : raft.World AppliedState). slice_get (raft.site z from).sent place) (sym ok.raft) ∙ e)

  pub parcel_sent : (from number : ℕ) (p : Parcel AppliedState) → parcel_of (sent_by w from) number ≡ Some p → p.range ≡ range → HasSent (raft.world_after g seen) from p.to p.message
  parcel_sent from number p at own = was_sent from (number_in range (sent_by w from) number) p.to p.message (message_seen range w from number p at own)

  pub snapshot_known : (from to term index index_term : ℕ) (snapshot : AppliedState) → HasSent (raft.world_after g seen) from to (Snap term index index_term snapshot) → IsJump h (base_of range) index snapshot
  snapshot_known from to term index index_term snapshot sent =
      let had : HadApplied g seen from index snapshot = snaps_were_applied_holds AppliedState g seen from to term index index_term snapshot sent in
      let shows : IsShown g (one.committed had.early) had.replica = one.shown had.early from had.replica had.live in
      let grown = one.grows had.early (had.event ∷ had.late) in
      let early : List Entry = one.committed had.early in
      let list : List Entry = one.committed seen in
      let whole : early ++ grown.0 ≡ list = grown.1 ∙ ap one.committed had.whole in
      let start_le = shows.start_le in
      let based = shows.based in
      let applied_le = shows.applied_le in
      let covered = shows.covered in
      let is = had.applied in
      let low : base_of range ≤ index = omega (arith, start_le, based, is) in
      let high : index - base_of range ≤ length early = omega (arith, applied_le, covered, is) in
      let longer : length early ≤ length list = omega (arith, length-append early grown.0, ap length whole) in
      let logged : length h.log ≡ length list = ap length ok.log ∙ length-map list pay in
      let inside : index - base_of range ≤ length h.log = omega (arith, high, longer, logged) in
      record {
        to = index - base_of range;
        at = omega (arith, low);
        within = inside;
        state_is =
            state_of_entries h (index - base_of range) inside
            ∙ ap (λ b. after_all b (take (index - base_of range) h.log)) ok.start
            ∙ ap (λ l. after_all s (take (index - base_of range) l)) ok.log
            ∙ ap (after_all s) (take-map pay (index - base_of range) list)
            ∙ folded s (take (index - base_of range) list)
            ∙ ap (λ l. fold act s (take (index - base_of range) l)) (sym whole)
            ∙ ap (fold act s) (take-append-le (index - base_of range) early grown.0 high)
            ∙ ap (λ i. fold act s (take (i - base_of range) early)) (sym is)
            ∙ sym shows.state
            ∙ had.state_is;
      }
