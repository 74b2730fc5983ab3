-- A node's state in the machine is its replica's, and the machine's next entry is the one that the
-- replica applies next.
use Rattle.std.proofs.Common.{◌≡◌, ℕ, ◌+◌, ◌-◌, ◌<◌, Bool, true, false, cond, ltb, Option, None, Some, List, [], ◌∷◌, map, take, refl, sym, ap, subst, ◌∙◌, arith, ltb-true, ltb-false}
use Rattle.std.specs.Prelude.{slice_get}
use Rattle.std.specs.List.{fold}
use Rattle.std.specs.Option.{option_map}
use Rattle.std.proofs.lemmas.Bool.{cond_both}
use Rattle.std.proofs.lemmas.List.{take-map}
use Rattle.std.proofs.lemmas.Option.{slice_get-map, slice_get_within, get_or_from_slice_get}
use Rattle.rp_codec.specs.Reading.{payload_in}
use Rattle.rp_raftlog.specs.declared.entries.Entry.{Entry}
use Rattle.rp_raftlog.specs.LogState.{entry_at}
use Rattle.rp_request.specs.Applied.{AppliedState, after_all}
use Rattle.rp_request.specs.declared.commands.Payload.{Payload}
use Rattle.rp_request.specs.declared.commands.Payload.TheVariants as payloads
use Rattle.rp_raftsafe.specs.World as raft
use Rattle.rp_raftsafe.specs.Safety.{OneListOf, IsShown, IsLive}
use Rattle.rp_rangesafe.specs.World as machine
use Rattle.rp_rangesafe.specs.World.{here}
use Rattle.rp_rangesafe.specs.Places.{IsReached}
use Rattle.rp_rangesafe.proofs.Folds.{state_of_entries}
use Rattle.rp_rangesafe.proofs.OneRange.{stands_within}
use Rattle.rp_events.specs.Replicas.{Replica}
use Rattle.rp_events.specs.Applications.{payload_of, next_entry}
use Rattle.rp_events.specs.Nodes.{Node, Live, seat}
use Rattle.rp_events.specs.Lists.{base_of}
use Rattle.rp_events.specs.Worlds.{World, node_of}
use Rattle.rp_seats.specs.Views.{core, core_of, act, range_at}
use Rattle.rp_seats.specs.Standing.{RaftOk}
use Rattle.rp_seats.specs.Turned.{IsNext}
use Rattle.rp_seats.proofs.Turns.{read_is}
use Rattle.rp_seats.proofs.Worlds.{site_seen}
use Rattle.rp_seats.proofs.Commits.{pay}

-- entries that are applied are their payloads that are applied
pub folded : (s : AppliedState) (es : List Entry) → after_all s (map pay es) ≡ fold act s es
folded s [] = refl
folded s (e ∷ es) = folded (act s e) es

module _ (nodes range : ℕ) (s : AppliedState) (one : OneListOf (range_at nodes range s)) (seen : List raft.Event) (w : World) (h : machine.World)
    (ok : RaftOk nodes range s one seen w h) (reached : IsReached h)
    (node : ℕ) (n : Node) (has : node_of w node ≡ Some n) (r : Replica) (live : seat n range ≡ Live r) (at : h.index node + base_of range ≡ r.applied.index) where
  abbrev g : raft.Range AppliedState
  g = range_at nodes range s

  abbrev list : List Entry
  list = one.committed seen

  pub is_live : IsLive (raft.world_after g seen) node (core r)
  is_live =
      ap (λ (z : raft.World AppliedState). (raft.site z node).status) (sym ok.raft)
      ∙ ap (λ (z : raft.Site AppliedState). z.status) (site_seen range w node n has)
      ∙ ap core_of live

  pub shows : IsShown g list (core r)
  shows = one.shown seen node (core r) is_live

  pub state_is : here h node ≡ r.applied.state
  state_is =
      state_of_entries h (h.index node) (stands_within h reached node)
      ∙ ap (λ b. after_all b (take (h.index node) h.log)) ok.start
      ∙ ap (λ l. after_all s (take (h.index node) l)) ok.log
      ∙ ap (after_all s) (take-map pay (h.index node) list)
      ∙ folded s (take (h.index node) list)
      ∙ ap (λ i. fold act s (take i list)) (let e : h.index node ≡ r.applied.index - base_of range = omega (arith, at) in e)
      ∙ sym shows.state

  by_entry : (p : Payload) (o : Option Entry) → slice_get list (h.index node) ≡ o → payload_of o ≡ Some p → IsNext h node p
  by_entry p None is carries = absurd cc
  by_entry p (Some e) is carries =
      let there : slice_get h.log (h.index node) ≡ Some (pay e) =
      ap (λ l. slice_get l (h.index node)) ok.log ∙ slice_get-map pay list (h.index node) ∙ ap (option_map pay) is in
      record {
        within = slice_get_within h.log (h.index node) (pay e) there;
        entry_is = get_or_from_slice_get h.log (h.index node) (pay e) payloads.Nothing there ∙ read_is p (payload_in e.payload) carries;
      }

  -- the list's entry behind the applied index
  behind : r.applied.index < r.raft.head.commit → entry_at r.raft.log (r.applied.index + 1) ≡ slice_get list (h.index node)
  behind below =
      let based = shows.based in
      shows.entries (r.applied.index + 1) (omega (arith, based)) (omega (arith, below))
      ∙ cond_both (ltb (base_of range) (r.applied.index + 1)) (slice_get list (r.applied.index + 1 - base_of range - 1)) None (λ z. z ≡ slice_get list (h.index node))
      (λ _. ap (slice_get list) (let e : r.applied.index + 1 - base_of range - 1 ≡ h.index node = omega (arith, at) in e))
      (λ past. absurd (omega (arith, at, ltb-false (base_of range) (r.applied.index + 1) past)))

  pub next_is : (p : Payload) → payload_of (next_entry r) ≡ Some p → IsNext h node p
  next_is p = go (ltb r.applied.index r.raft.head.commit) refl where
    go : (b : Bool) → ltb r.applied.index r.raft.head.commit ≡ b → payload_of (cond b (entry_at r.raft.log (r.applied.index + 1)) None) ≡ Some p → IsNext h node p
    go true is carries =
        let same = behind (ltb-true r.applied.index r.raft.head.commit is) in
        by_entry p (slice_get list (h.index node)) refl (subst (λ o. payload_of o ≡ Some p) same carries)
    go false is carries = absurd cc
