-- Behind a scene an entry that has a record opened each range that a node has, and who was told Success
-- has a place that its node keeps; and so all records are as they should be.
use Rattle.std.proofs.Common.{◌≡◌, ℕ, ◌+◌, ◌-◌, ◌<◌, max, true, ◌⊎◌, ⊎_elim, Some, List, refl, sym, ap, subst, ◌∙◌, arith}
use Rattle.std.specs.Prelude.{Contains}
use Rattle.rp_base.specs.declared.ids.CmdId.{CmdId}
use Rattle.rp_request.specs.Applied.{AppliedState, command_verdict, item}
use Rattle.rp_request.specs.History.{History}
use Rattle.rp_request.specs.States.{right_of}
use Rattle.rp_request.specs.declared.commands.Command.{Command}
use Rattle.rp_request.specs.declared.items.Record.TheVariants.{Took}
use Rattle.rp_request.specs.declared.outcomes.Outcome.TheVariants.{Success}
use Rattle.rp_request.specs.declared.outcomes.Reply.{Reply}
use Rattle.rp_raftsafe.specs.World as raft
use Rattle.rp_raftsafe.specs.Safety.{OneList}
use Rattle.rp_rangesafe.specs.Along.{entry}
use Rattle.rp_rangesafe.specs.World as machine
use Rattle.rp_rangesafe.specs.World.{state_at}
use Rattle.rp_rangesafe.specs.Places.{IsLater, IsPlace}
use Rattle.rp_rangesafe.specs.Ranges.{Ranges, AreLater}
use Rattle.rp_rangesafe.proofs.Joint.{range_reached, range_goes_on}
use Rattle.rp_rangesafe.proofs.Runs.{later_entry, later_state}
use Rattle.rp_events.specs.declared.answers.Ended.{Ended}
use Rattle.rp_events.specs.Nodes.{Node, seat, right_base}
use Rattle.rp_events.specs.Worlds.{World, Scene, node_of, happens}
use Rattle.rp_events.specs.Lists.{base_of, history_in, Keeps}
use Rattle.rp_seats.specs.Standing.{Bound}
use Rattle.rp_promise.specs.Records.{IsHad, IsOpenedBelow, KeepsReply, AllRecords}
use Rattle.rp_promise.proofs.Replicas.{NoSuccess}
use Rattle.rp_promise.proofs.Turned.{SnapSent, SplitNow, Became, kept, goes, jumps, begins, PlacedNow}
use Rattle.rp_promise.proofs.Scenes.{SceneTurned, keeps_on}
use Rattle.rp_promise.proofs.Stands.{had_opened}
use Rattle.rp_promise.proofs.Places.{place_says, place_record}
use Rattle.rp_promise.proofs.Kept.{moved, shows, grown_by, newly_kept, records_now, now}

module _ (lists : OneList AppliedState) (w : World) (m : Ranges) (seen : ℕ → List raft.Event) (b : Bound lists w m seen) (x : Scene) (t : SceneTurned w x)
    (n : Ranges) (further : ℕ → List raft.Event) (b' : Bound lists (happens w x) n further) (on : AreLater m n) (a : AllRecords w m) where
  abbrev after : World
  after = happens w x

  abbrev node : ℕ
  node = x.node

  abbrev reaches : ℕ → ℕ
  reaches range = max (a.reach range) (shows lists w m seen b x t n further b' on a range - base_of range)

  lifted : (range : ℕ) → IsOpenedBelow m a.reach range → IsOpenedBelow n reaches range
  lifted range o =
      let h : machine.World = m.range o.left in
      let k : machine.World = n.range o.left in
      let c = (a.each o.left).covered o.index o.below in
      let there : m.opened o.left ≡ true = had_opened lists w m seen b c.0 o.left c.1.history c.1.applied in
      let l : IsLater (m.range o.left) (n.range o.left) = (range_goes_on m b.reached n on o.left there).1 in
      let within = (a.each o.left).within in
      let below = o.below in
      record {
        left = o.left;
        index = o.index;
        below = omega (arith, below);
        right = o.right;
        opens = sym (ap (λ s. right_of s (entry k.log o.index)) (later_state h k l o.index (omega (arith, below, within))))
            ∙ sym (ap (right_of (state_at h o.index)) (later_entry h k l o.index (omega (arith, below, within))))
            ∙ o.opens;
        numbered = o.numbered;
      }

  split_now : (range : ℕ) → SplitNow t.n.seats t.new.seats range → IsOpenedBelow n reaches range
  split_now range s =
      let v = grown_by lists w m seen b x t n further b' on a s.at s.replica s.payload s.applied in
      let index = v.index in
      record {
        left = s.at;
        index = v.next.o.to;
        below = omega (arith, index);
        right = s.right;
        opens = ap (λ z. right_of z (entry (n.range s.at).log v.next.o.to)) v.next.o.state ∙ ap (right_of s.replica.applied.state) v.next.entry_is ∙ s.opens;
        numbered = s.numbered;
      }

  had_before : (range : ℕ) → (past : History) → history_in (seat t.n range) ≡ Some past → IsHad w range
  had_before range past e = record { node = node; past = past; applied = record { n = t.n; has = t.has; history = e } }

  pub origins_now : (range : ℕ) → 0 < range → IsHad after range → IsOpenedBelow n reaches range
  origins_now range positive had =
      ⊎_elim (λ (own : (had.node ≡ node) × (had.applied.n ≡ t.new)). mine (ap (λ (z : Node). history_in (seat z range)) (sym own.1) ∙ had.applied.history))
      (λ (was : node_of w had.node ≡ Some had.applied.n). old (record { node = had.node; past = had.past; applied = record { n = had.applied.n; has = was; history = had.applied.history } }))
      (now lists w m seen b x t n further b' on a range had.node had.applied.n had.applied.has)
    where
      old : IsHad w range → IsOpenedBelow n reaches range
      old h = lifted range (a.origins range positive h)

      mine : history_in (seat t.new range) ≡ Some had.past → IsOpenedBelow n reaches range
      mine is = go (t.turned.seats_are range) where
        go : Became w t.n.seats t.new.seats range → IsOpenedBelow n reaches range
        go (kept e) = old (had_before range had.past (sym e ∙ is))
        go (goes r p g) = old (had_before range r.applied (ap history_in g.live))
        go (jumps j) = old (had_before range j.before.applied (ap history_in j.was))
        go (begins g) = ⊎_elim
            (λ (s : SnapSent w range g.index). old ((moved lists w m seen b x t n further b' on a range).sent s.sent.from s.sent.n s.sent.parcel s.sent.has s.sent.among s.sent.own).1)
            (λ (s : (g.index ≡ right_base) × SplitNow t.n.seats t.new.seats range). split_now range s.1)
            g.source

  placed_now : (id : CmdId) (reply : Reply) → PlacedNow t.n.seats t.new.seats (record { id = id; outcome = Success reply }) → KeepsReply after node id reply
  placed_now id reply s =
      let v = grown_by lists w m seen b x t n further b' on a s.at s.replica s.payload s.applied in
      let k : machine.World = n.range s.at in
      let c : Command = s.succeeds.command in
      let place : IsPlace (n.range s.at) s.succeeds.command.id v.next.o.to s.succeeds.command = record {
        within = v.next.within;
        takes = record { here = v.next.entry_is ∙ s.succeeds.here; taken = ap (λ z. command_verdict z s.succeeds.command) v.next.o.state ∙ s.succeeds.took };
        named = refl;
      } in
      let says = place_says k (range_reached n b'.reached s.at) c.id v.next.o.to c place in
      let same_id : s.succeeds.command.id ≡ id = ap (λ (z : Ended). z.id) (sym s.succeeds.is) in
      let same_reply : s.succeeds.command.reply ≡ reply = reply_is (s.succeeds.command.reply) reply (ap (λ (z : Ended). z.outcome) (sym s.succeeds.is)) in
      record {
        range = s.at;
        index = base_of s.at + v.next.o.to + 1;
        request = c.request;
        seq = c.seq;
        kept = record {
          item = item (state_at k v.next.o.to).desc c;
          kept = subst (λ z. Keeps after node s.at (base_of s.at + v.next.o.to + 1) z) (place_record k (range_reached n b'.reached s.at) c.id v.next.o.to c place)
              (newly_kept lists w m seen b x t n further b' on a s.at v);
          says = says ∙ ap (λ z. Some (record { id = z; request = c.request; seq = c.seq; reply = c.reply })) same_id ∙ ap (λ z. Some (record { id = id; request = c.request; seq = c.seq; reply = z })) same_reply;
        };
      }
    where
      reply_is : (p q : Reply) → Success p ≡ Success q → p ≡ q
      reply_is p q e = cc

  pub successes_now : (other : ℕ) (o : Node) (id : CmdId) (reply : Reply) → node_of after other ≡ Some o → Contains {X = Ended} o.outcomes (record { id = id; outcome = Success reply }) → KeepsReply after other id reply
  successes_now other o id reply has among =
      ⊎_elim (λ (own : (other ≡ node) × (o ≡ t.new)). subst (λ z. KeepsReply after z id reply) (sym own.0) (mine (subst (λ (z : Node). Contains {X = Ended} z.outcomes (record { id = id; outcome = Success reply })) own.1 among)))
      (λ (was : node_of w other ≡ Some o). on_from other (a.successes other o id reply was among))
      (now lists w m seen b x t n further b' on a 0 other o has)
    where
      on_from : (at : ℕ) → KeepsReply w at id reply → KeepsReply after at id reply
      on_from at r = record {
        range = r.range;
        index = r.index;
        request = r.request;
        seq = r.seq;
        kept = record { item = r.kept.item; kept = keeps_on w x t at r.range r.index (Took r.kept.item) r.kept.kept; says = r.kept.says };
      }

      mine : Contains {X = Ended} t.new.outcomes (record { id = id; outcome = Success reply }) → KeepsReply after node id reply
      mine c = ⊎_elim
          (λ (old : Contains {X = Ended} t.n.outcomes (record { id = id; outcome = Success reply })). on_from node (a.successes node t.n id reply t.has old))
          (λ (new : NoSuccess (record { id = id; outcome = Success reply }) ⊎ PlacedNow t.n.seats t.new.seats (record { id = id; outcome = Success reply })). ⊎_elim
          (λ (none : NoSuccess (record { id = id; outcome = Success reply })). absurd none)
          (λ (s : PlacedNow t.n.seats t.new.seats (record { id = id; outcome = Success reply })). placed_now id reply s)
          new)
          (t.turned.outcomes_are (record { id = id; outcome = Success reply }) c)

  pub all_now : AllRecords after n
  all_now = record {
    reach = reaches;
    each = λ range. records_now lists w m seen b x t n further b' on a range;
    origins = origins_now;
    successes = successes_now;
  }
