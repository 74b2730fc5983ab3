-- Raft's events of a turn, and the entries by which the machine's list grows in it.
use Rattle.std.proofs.Common.{◌≡◌, ℕ, inl, inr, ⊎_elim, List, [], ◌∷◌, ◌++◌, map, refl, sym, ap, subst, ◌∙◌, arith, append-nil}
use Rattle.std.specs.Prelude.{Contains}
use Rattle.std.specs.List.{AllByRecursion}
use Rattle.std.proofs.lemmas.List.{map-append}
use Rattle.std.proofs.lemmas.List.Elements.{All-contains, Contains-append_left, Contains-append_right, Contains-append_cases}
use Rattle.std.proofs.lemmas.Grind.{flat_map-append}
use Rattle.rp_codec.proofs.WorkedBytes.{nothing_read}
use Rattle.rp_raftlog.specs.declared.entries.Entry.{Entry}
use Rattle.rp_request.specs.Applied.{AppliedState}
use Rattle.rp_request.specs.declared.commands.Payload.{Payload}
use Rattle.rp_request.specs.declared.commands.Payload.TheVariants as payloads
use Rattle.rp_raftsafe.specs.World as raft
use Rattle.rp_raftsafe.specs.Safety.{OneListOf}
use Rattle.rp_raftsafe.specs.Proposed.{event_payloads, payloads_of, WasProposed}
use Rattle.rp_raftsafe.proofs.Worlds.{run-append}
use Rattle.rp_rangesafe.specs.World as machine
use Rattle.rp_rangesafe.specs.World.{Commit, AllLawful, MayCommit}
use Rattle.rp_rangesafe.specs.Places.{IsReached, IsLater}
use Rattle.rp_rangesafe.proofs.Runs.{later_start}
use Rattle.rp_rangesafe.proofs.Admissions.{may_commit_later}
use Rattle.rp_events.specs.Worlds.{World}
use Rattle.rp_seats.specs.Views.{view, read, payload_or, range_at}
use Rattle.rp_seats.specs.Standing.{RaftOk}
use Rattle.rp_seats.specs.Steps.{RaftTurned}

-- what may be committed reads no list
pub may_grown : (h : machine.World) (log : List Payload) (q : Payload) → MayCommit h q → MayCommit (record h { log = log }) q
may_grown h log payloads.Nothing m = m
may_grown h log (payloads.Write c) m = m
may_grown h log (payloads.Lease ask) m = m

all_grown : (h : machine.World) (log : List Payload) (ps : List Payload) → AllByRecursion (MayCommit h) ps → AllByRecursion (MayCommit (record h { log = log })) ps
all_grown h log [] all = tt
all_grown h log (p ∷ ps) all = (may_grown h log p all.0, all_grown h log ps all.1)

pub commits_lawful : (h : machine.World) (ps : List Payload) → AllByRecursion (MayCommit h) ps → AllLawful h (map Commit ps)
commits_lawful h [] all = tt
commits_lawful h (p ∷ ps) all = (all.0, commits_lawful (machine.happens h (Commit p)) ps (all_grown h (h.log ++ p ∷ []) ps all.1))

pub commits_run : (h : machine.World) (ps : List Payload) → machine.run h (map Commit ps) ≡ record h { log = h.log ++ ps }
commits_run h [] = ap (λ l. record h { log = l }) (sym (append-nil h.log))
commits_run h (p ∷ ps) = commits_run (machine.happens h (Commit p)) ps ∙ ap (λ l. record h { log = l }) (behind h.log p ps) where
  behind : (xs : List Payload) (x : Payload) (ys : List Payload) → (xs ++ x ∷ []) ++ ys ≡ xs ++ x ∷ ys
  behind [] x ys = refl
  behind (y ∷ xs) x ys = ap (λ zs. y ∷ zs) (behind xs x ys)

abbrev pub pay : Entry → Payload
pay e = read e.payload

-- each entry of a list may be committed
all_may : (h : machine.World) (es : List Entry) → ((e : Entry) → Contains es e → MayCommit h (pay e)) → AllByRecursion (MayCommit h) (map pay es)
all_may h [] each = tt
all_may h (e ∷ es) each = (
  each e (Contains-append_left (e ∷ []) es e (0, omega arith, refl)),
  all_may h es (λ x has. each x (Contains-append_right (e ∷ []) es x has)),
)

module _ (nodes range : ℕ) (s : AppliedState) (one : OneListOf (range_at nodes range s)) where
  abbrev g : raft.Range AppliedState
  g = range_at nodes range s

  -- Raft's events of a turn that hand to it what may be committed
  pub raft_turn : (seen events : List raft.Event) (w after : World) (h k : machine.World) → RaftOk nodes range s one seen w h
      → view range after ≡ raft.run g events (view range w) → IsReached h → IsLater h k → k.log ≡ h.log
      → ((bytes : List ℕ) → Contains (payloads_of events) bytes → MayCommit k (read bytes))
      → RaftTurned nodes range s one (seen ++ events) after k
  raft_turn seen events w after h k ok sees reached later log handed = record {
    payloads = ps;
    lawful = commits_lawful k ps (all_may k rest (λ e has. may e.payload (All-contains (λ (x : Entry). WasProposed (seen ++ events) x.payload) (one.committed (seen ++ events)) e (one.proposed (seen ++ events))
        (subst (λ z. Contains z e) grown.1 (Contains-append_right (one.committed seen) rest e has)))));
    leads = commits_run k ps;
    raft = record {
      raft = sees ∙ ap (raft.run g events) ok.raft ∙ sym (run-append g seen events (raft.nowhere g));
      log = ap (λ l. l ++ ps) (log ∙ ok.log) ∙ sym (map-append pay (one.committed seen) rest) ∙ ap (map pay) grown.1;
      handed = λ bytes has. may_grown k (k.log ++ ps) (read bytes) (handed_so bytes has);
      start = later_start h k later ∙ ok.start;
    };
  }
    where
      grown : (rest : List Entry) × (one.committed seen ++ rest ≡ one.committed (seen ++ events))
      grown = one.grows seen events

      rest : List Entry
      rest = grown.0

      ps : List Payload
      ps = map pay rest

      handed_so : (bytes : List ℕ) → Contains (payloads_of (seen ++ events)) bytes → MayCommit k (read bytes)
      handed_so bytes has = ⊎_elim
          (λ (before : Contains (payloads_of seen) bytes). may_commit_later h reached k later (read bytes) (ok.handed bytes before))
          (λ (now : Contains (payloads_of events) bytes). handed bytes now)
          (Contains-append_cases (payloads_of seen) (payloads_of events) bytes (subst (λ z. Contains z bytes) (flat_map-append event_payloads seen events) has))

      may : (bytes : List ℕ) → WasProposed (seen ++ events) bytes → MayCommit k (read bytes)
      may bytes (inl none) = subst (λ b. MayCommit k (read b)) (sym none) (subst (MayCommit k) (sym (ap payload_or nothing_read)) tt)
      may bytes (inr has) = handed_so bytes has
