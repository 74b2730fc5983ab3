-- The states of the nodes agree.
use Rattle.std.proofs.Common.{◌≡◌, ℕ, ◌≤◌, true, List, [], ◌∷◌, ◌++◌, length, refl, sym, ap, subst, ◌∙◌, arith}
use Rattle.rp_raftlog.specs.LogState.{entry_at}
use Rattle.rp_request.specs.Applied.{AppliedState}
use Rattle.rp_request.specs.History.{History}
use Rattle.rp_request.specs.Onward.{IsOnward}
use Rattle.rp_request.specs.declared.items.Record.{Record}
use Rattle.rp_raftsafe.specs.World as raft
use Rattle.rp_raftsafe.specs.World.{world_after}
use Rattle.rp_raftsafe.specs.Safety.{OneList, IsLive}
use Rattle.rp_raftsafe.proofs.Agree.{one_leader_holds, commits_agree_holds}
use Rattle.rp_rangesafe.specs.World.{state_at}
use Rattle.rp_rangesafe.specs.Ranges.{Ranges}
use Rattle.rp_rangesafe.proofs.Joint.{range_goes_on}
use Rattle.rp_rangesafe.proofs.OneRange.{numbers_rise}
use Rattle.rp_rangesafe.proofs.Runs.{later_start}
use Rattle.rp_events.specs.Replicas.{Replica}
use Rattle.rp_events.specs.Worlds.{World, Schedule, happens, run}
use Rattle.rp_events.specs.Lawful.{AllLawful, IsLater}
use Rattle.rp_events.specs.Lists.{IsLiveAt, history_in, HasApplied, Keeps}
use Rattle.rp_events.specs.Promises.{LeadsAt, BothShow, StatesAgree}
use Rattle.rp_journals.proofs.Reading.{replays}
use Rattle.rp_seats.specs.Views.{core, core_of, view, range_at}
use Rattle.rp_seats.specs.Standing.{Bound, RangeOk}
use Rattle.rp_seats.proofs.Shaped.{length_with}
use Rattle.rp_seats.proofs.Worlds.{site_seen}
use Rattle.rp_promise.specs.Beside.{GoesOn, IsPromising}
use Rattle.rp_promise.proofs.Scenes.{scene_turned, keeps_on}
use Rattle.rp_promise.proofs.Stands.{had_opened}
use Rattle.rp_promise.proofs.Listed.{records, start, one_list, prefix, starts, one_split}

-- a schedule keeps how many nodes there are, and what they keep as records
same_count : (xs : Schedule) (w : World) → AllLawful w xs → length (run w xs) ≡ length w
same_count [] w l = refl
same_count (x ∷ xs) w l =
    let t = scene_turned w x l.0.lawful in
    same_count xs (happens w x) l.1 ∙ ap length t.after ∙ length_with w x.node t.new

keeps_run : (xs : Schedule) (w : World) → AllLawful w xs → (node range index : ℕ) (r : Record) → Keeps w node range index r → Keeps (run w xs) node range index r
keeps_run [] w l node range index r k = k
keeps_run (x ∷ xs) w l node range index r k = keeps_run xs (happens w x) l.1 node range index r (keeps_on w x (scene_turned w x l.0.lawful) node range index r k)

pub later_count : (w later : World) → IsLater w later → length later ≡ length w
later_count w later l = ap length (sym l.reached) ∙ same_count l.schedule w l.lawful

pub later_keeps : (w later : World) → IsLater w later → (node range index : ℕ) (r : Record) → Keeps w node range index r → Keeps later node range index r
later_keeps w later l node range index r k = subst (λ z. Keeps z node range index r) l.reached (keeps_run l.schedule w l.lawful node range index r k)

-- a replica, as Raft's world of its range has it
module _ (lists : OneList AppliedState) (w : World) (m : Ranges) (seen : ℕ → List raft.Event) (b : Bound lists w m seen) (node range : ℕ) (r : Replica) (l : IsLiveAt w node range r) where
  pub live_there : m.opened range ≡ true
  live_there = had_opened lists w m seen b node range r.applied (record { n = l.n; has = l.has; history = ap history_in l.live })

  pub live_seen : IsLive (view range w) node (core r)
  live_seen =
      ap (λ (z : raft.Site AppliedState). z.status) (site_seen range w node l.n l.has)
      ∙ ap core_of l.live

module _ (lists : OneList AppliedState) (w : World) (m : Ranges) (seen : ℕ → List raft.Event) (nodes : ℕ) (k : IsPromising lists nodes w m seen) where
  abbrev b : Bound lists w m seen
  b = k.now.bound

  -- Raft's world of a range, now and later
  module _ (range : ℕ) (there : m.opened range ≡ true) (later : World) (on : IsLater w later) (z : GoesOn lists m seen later) where
    abbrev g : raft.Range AppliedState
    g = range_at (length w) range (m.range range).start

    ok : RangeOk lists (length w) range (m.range range).start (seen range) w (m.range range)
    ok = b.ranges range there

    abbrev more : List raft.Event
    more = (z.grown range).0

    seen_now : view range w ≡ world_after g (seen range)
    seen_now = ok.raft.raft

    seen_later : view range later ≡ world_after g (seen range ++ more)
    seen_later =
        let goes = range_goes_on m b.reached z.ranges z.onward range there in
        (z.stands.bound.ranges range goes.0).raft.raft
        ∙ ap (λ c. world_after (range_at c range (z.ranges.range range).start) (z.events range)) (later_count w later on)
        ∙ ap (λ s. world_after (range_at (length w) range s) (z.events range)) (later_start (m.range range) (z.ranges.range range) goes.1)
        ∙ ap (world_after g) (z.grown range).1

    module _ (p q : ℕ) (r s : Replica) (first : IsLiveAt w p range r) (second : IsLiveAt later q range s) where
      live_now : IsLive (world_after g (seen range)) p (core r)
      live_now = subst (λ v. IsLive v p (core r)) seen_now (live_seen lists w m seen b p range r first)

      live_later : IsLive (world_after g (seen range ++ more)) q (core s)
      live_later = subst (λ v. IsLive v q (core s)) seen_later (live_seen lists later z.ranges z.events z.stands.bound q range s second)

      pub commits_one : (index : ℕ) → BothShow r s index → entry_at r.raft.log index ≡ entry_at s.raft.log index
      commits_one index both =
          (commits_agree_holds AppliedState g ok.is (seen range) more p q (core r) (core s) live_now live_later index both.first_committed both.second_committed).entries
          index both.first_shows both.second_shows (omega arith)

    pub leader_one : (p q term : ℕ) → LeadsAt w p range term → LeadsAt later q range term → p ≡ q
    leader_one p q term first second =
        one_leader_holds AppliedState g ok.is (seen range) more p q term
        (record { replica = core first.replica; live = live_now p q first.replica second.replica first.live second.live; leads = first.leads; at = first.at })
        (record { replica = core second.replica; live = live_later p q first.replica second.replica first.live second.live; leads = second.leads; at = second.at })

  onward : (node other range : ℕ) (p q : History) → HasApplied w node range p → HasApplied w other range q → p.index ≤ q.index → IsOnward p.state q.state
  onward node other range p q x y le =
      let o = (k.now.records.each range).histories node p x in
      let v = (k.now.records.each range).histories other q y in
      let at = o.at in let at' = v.at in
      subst (λ s. IsOnward s q.state) o.state (subst (λ s. IsOnward (state_at (m.range range) o.to) s) v.state (numbers_rise (m.range range) o.to v.to (omega (arith, le, at, at'))).numbers)

  pub states_agree : StatesAgree w (records w m b.reached k.now.records) (start w m b.reached k.now.records)
  states_agree = record {
    one_list = one_list w m b.reached k.now.records;
    grows = λ later node range index r on kept. later_keeps w later on node range index r kept;
    starts = λ node range past x. starts w m b.reached k.now.records range (record { node = node; past = past; applied = x }) (had_opened lists w m seen b node range past x);
    one_split = one_split w m b.reached k.now.records;
    prefix = prefix w m b.reached k.now.records;
    onward = onward;
    one_leader = λ later p q range term on first second. leader_one range (live_there lists w m seen b p range first.replica first.live) later on (k.later later on) p q term first second;
    commits_agree = λ later p q range index r s on first second both. commits_one range (live_there lists w m seen b p range r first) later on (k.later later on) p q r s first second index both;
    replays = replays nodes w k.reached;
  }
