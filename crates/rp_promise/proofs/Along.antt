-- Every reached world keeps the promise: what stands beside the first world is carried on by each scene.
use Rattle.std.proofs.Common.{◌≡◌, ℕ, ◌≤◌, List, [], ◌∷◌, ◌++◌, refl, sym, ap, subst, ◌∙◌, append_assoc, append-nil, leb-true, ltb-true}
use Rattle.rp_request.specs.Applied.{AppliedState}
use Rattle.rp_raftsafe.specs.World as raft
use Rattle.rp_raftsafe.specs.Safety.{OneList}
use Rattle.rp_raftsafe.proofs.Known.{one_list_holds}
use Rattle.rp_rangesafe.specs.Ranges.{Ranges, AreLater}
use Rattle.rp_events.specs.Journals.{Replays}
use Rattle.rp_events.specs.Lawful.{IsReached, Lawful, AllLawful}
use Rattle.rp_events.specs.Promises.{Promise}
use Rattle.rp_events.specs.Worlds.{World, Scene, Schedule, first_world, happens, run}
use Rattle.rp_journals.specs.Alike.{AllKeepSame}
use Rattle.rp_journals.proofs.Alike.{told_by_lists}
use Rattle.rp_journals.proofs.Growing.{reached_later}
use Rattle.rp_seats.specs.Scenes.{raft_events}
use Rattle.rp_bound.specs.Bounds.{Stands}
use Rattle.rp_bound.proofs.Along.{first_stands, stands_next}
use Rattle.rp_bound.proofs.Onward.{onward_itself, onward_further}
use Rattle.rp_promise.specs.Beside.{IsBeside, StandsWith}
use Rattle.rp_promise.proofs.First.{first_records}
use Rattle.rp_promise.proofs.Made.{first_admitted, admitted_on}
use Rattle.rp_promise.proofs.Opened.{all_now}
use Rattle.rp_promise.proofs.Promised.{promised}
use Rattle.rp_promise.proofs.Scenes.{scene_turned}

module _ (lists : OneList AppliedState) (nodes : ℕ) where
  -- all that stands beside a reached world
  record Carried (w : World) (m : Ranges) (seen : ℕ → List raft.Event) : Type 0 where
    reached : IsReached nodes w
    stands : Stands lists w m seen
    beside : StandsWith lists w m seen

  -- and beside a later one
  record Onward (m : Ranges) (seen : ℕ → List raft.Event) (later : World) : Type 0 where
    ranges : Ranges
    events : ℕ → List raft.Event
    onward : AreLater m ranges
    grown : (range : ℕ) → (more : List raft.Event) × (events range ≡ seen range ++ more)
    carried : Carried later ranges events

  one_scene : (w : World) (m : Ranges) (seen : ℕ → List raft.Event) → Carried w m seen → (x : Scene) → Lawful w x → Onward m seen (happens w x)
  one_scene w m seen c x lawful =
      let s = stands_next lists w m seen c.stands x lawful in
      let b = s.stands.bound in
      record {
        ranges = s.ranges;
        events = λ range. seen range ++ raft_events range w x;
        onward = s.onward;
        grown = λ range. (raft_events range w x, refl);
        carried = record {
          reached = reached_later nodes w (happens w x) c.reached (record { schedule = x ∷ []; lawful = (lawful, tt); reached = refl });
          stands = s.stands;
          beside = record {
            bound = b;
            records = all_now lists w m seen c.beside.bound x (scene_turned w x lawful.lawful) s.ranges (λ range. seen range ++ raft_events range w x) b s.onward c.beside.records;
            admitted = admitted_on lists w m seen c.beside.bound x lawful s.ranges (λ range. seen range ++ raft_events range w x) b s.onward nodes c.reached c.beside.admitted;
          };
        };
      }

  all_scenes : (xs : Schedule) (w : World) (m : Ranges) (seen : ℕ → List raft.Event) → Carried w m seen → AllLawful w xs → Onward m seen (run w xs)
  all_scenes [] w m seen c l = record {
    ranges = m;
    events = seen;
    onward = onward_itself m;
    grown = λ range. ([], sym (append-nil (seen range)));
    carried = c;
  }
  all_scenes (x ∷ xs) w m seen c l =
      let one = one_scene w m seen c x l.0 in
      let rest = all_scenes xs (happens w x) one.ranges one.events one.carried l.1 in
      record {
        ranges = rest.ranges;
        events = rest.events;
        onward = onward_further m one.ranges rest.ranges one.onward rest.onward;
        grown = λ range. (
          (one.grown range).0 ++ (rest.grown range).0,
          (rest.grown range).1 ∙ ap (λ z. z ++ (rest.grown range).0) (one.grown range).1 ∙ append_assoc (seen range) (one.grown range).0 (rest.grown range).0,
        );
        carried = rest.carried;
      }

  keeps : (w : World) (m : Ranges) (seen : ℕ → List raft.Event) → Carried w m seen → Promise w
  keeps w m seen c = promised lists nodes w m seen (record {
    reached = c.reached;
    now = c.beside;
    later = λ later l.
        let z = all_scenes l.schedule w m seen c l.lawful in
        record {
          ranges = z.ranges;
          events = z.events;
          onward = z.onward;
          grown = z.grown;
          stands = subst (λ v. StandsWith lists v z.ranges z.events) l.reached z.carried.beside;
        };
  })

  -- a reached world, with all that stands beside it
  record Reaches (w : World) : Type 0 where
    ranges : Ranges
    events : ℕ → List raft.Event
    carried : Carried w ranges events

  reaches : (w : World) → IsReached nodes w → Reaches w
  reaches w r =
      let few : nodes ≤ 5 = leb-true nodes 5 r.few in
      let f = first_stands lists nodes (ltb-true 0 nodes r.some) few in
      let b = f.stands.bound in
      let c : Carried (first_world nodes) f.ranges f.seen = record {
        reached = record { some = r.some; few = r.few; schedule = []; lawful = tt; reached = refl };
        stands = f.stands;
        beside = record {
          bound = b;
          records = first_records lists nodes few f.ranges f.seen b;
          admitted = first_admitted lists nodes few f.ranges f.seen b;
        };
      } in
      let z = all_scenes r.schedule (first_world nodes) f.ranges f.seen c r.lawful in
      subst Reaches r.reached (record { ranges = z.ranges; events = z.events; carried = z.carried })

  reached_keeps : (w : World) → IsReached nodes w → Promise w
  reached_keeps w r = let z = reaches w r in keeps w z.ranges z.events z.carried

  pub reached_beside : (w : World) → IsReached nodes w → IsBeside lists w
  reached_beside w r = let z = reaches w r in record { ranges = z.ranges; seen = z.events; stands = z.carried.beside }

pub kept_by_reached : (nodes : ℕ) (w : World) → IsReached nodes w → Promise w
kept_by_reached nodes w r = reached_keeps (one_list_holds AppliedState) nodes w r

-- so do nodes that are what their journals say, and have kept what those of a reached world have kept
pub kept_by_told : (nodes : ℕ) (w v : World) → IsReached nodes w → Replays v → AllKeepSame w v → Promise v
kept_by_told nodes w v r replays same = subst Promise (sym (told_by_lists nodes w v r replays same)) (kept_by_reached nodes w r)
