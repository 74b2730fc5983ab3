-- A draft that is filled: the commit index of a leader moves on, and the last messages are made.
use Rattle.std.proofs.Common.{◌≡◌, ℕ, max, cond, false, Option, None, List, [], ◌++◌, length, sym, ap, subst, ◌∙◌, arith, append-nil}
use Rattle.std.proofs.Math.Seq.{take-append_seam}
use Rattle.rp_raftlog.specs.declared.entries.Entry.{Entry}
use Rattle.rp_raftlog.specs.LogState.{LogState, appended, log_at, accepted}
use Rattle.rp_raftstep.specs.declared.heads.Due.{Due}
use Rattle.rp_raftstep.specs.declared.heads.Due.TheVariants.{Nobody}
use Rattle.rp_raftstep.specs.declared.heads.Head.{Head}
use Rattle.rp_raftstep.specs.declared.messages.Message.{Message}
use Rattle.rp_raftstep.specs.RaftState.{RaftState, is_leader}
use Rattle.rp_raftstep.specs.Step.{Draft, Done, advanced, committable, due_peers, last_sends, propose, quiet, sends_among, sent, then_proposed}
use Rattle.rp_raft.specs.declared.plans.LogEdit.{LogEdit}
use Rattle.rp_raft.specs.declared.plans.LogEdit.TheVariants.{Stays, Appends, Accepts, Cuts, Resets}
use Rattle.rp_raft.specs.declared.plans.RaftDraft.{RaftDraft}
use Rattle.rp_raft.specs.declared.plans.RaftPlan.{RaftPlan}
use Rattle.rp_raft.specs.Plans.{ahead, behind_of, done_by, draft_of, DraftFits, EditFits, CanHold, IsBegun, IsNoCut, IsSendable, leads_to, Makes, with_commit}

-- the filled plan
abbrev pub filled : {S : Type 0} → ℕ → S → LogState → RaftDraft S → ℕ → RaftPlan S
filled applied snapshot log d commit = record {
  draft = record d { messages = d.messages ++ sends_among applied snapshot (ahead (with_commit d.head commit) log (behind_of d.edit)) (due_peers (with_commit d.head commit) d.due) };
  commit = commit;
  replies = length d.messages;
}

-- one state after another
sent_from : {S : Type 0} (applied : ℕ) (snapshot : S) (st z : RaftState) (messages : List (ℕ × Message S)) (due : Due) (taken : Option (ℕ × S)) → z ≡ advanced st
    → ◌≡◌ {A = Done S} (record { state = z; out = record { messages = messages ++ last_sends applied snapshot z due; taken = taken } }) (sent applied snapshot (record { state = st; replies = messages; due = due; taken = taken }))
sent_from {S} applied snapshot st z messages due taken e = ap (λ (x : RaftState). record { state = x; out = record { messages = messages ++ last_sends applied snapshot x due; taken = taken } }) e

pub nothing_behind : (log : LogState) → appended log [] ≡ log
nothing_behind log = ap (λ (z : List Entry). record log { entries = z }) (append-nil log.entries)

-- who is no leader keeps its state
calm : (st : RaftState) → is_leader st.head.role ≡ false → st ≡ advanced st
calm st e = sym (ap (λ b. cond b (record st { head = record st.head { commit = max st.head.commit (committable st) } }) st) e)

-- who is no leader and sends to nobody
still : {S : Type 0} (applied : ℕ) (snapshot : S) (log : LogState) (head after : Head) (messages : List (ℕ × Message S)) (taken : Option (ℕ × S)) → after ≡ head → is_leader head.role ≡ false
    → ◌≡◌ {A = Done S} (record { state = record { head = after; log = log }; out = record { messages = messages ++ []; taken = taken } }) (sent applied snapshot (record { state = record { head = head; log = log }; replies = messages; due = Nobody; taken = taken }))
still {S} applied snapshot log head after messages taken e follows =
    ap (λ (h : Head). record { state = record { head = h; log = log }; out = record { messages = messages ++ []; taken = taken } }) e
    ∙ sent_from applied snapshot (record { head = head; log = log }) (record { head = head; log = log }) messages Nobody taken (calm (record { head = head; log = log }) follows)

-- the head of one that is no leader
same_head : (log : LogState) (head after : Head) → ahead after log [] ≡ advanced (ahead head log []) → is_leader head.role ≡ false → after ≡ head
same_head log head after e follows = ap (λ (st : RaftState). st.head) (e ∙ sym (calm (ahead head log []) follows))

-- what the filled plan does, by its edit
does_by : {S : Type 0} (applied : ℕ) (snapshot : S) (st : RaftState) (head : Head) (commit : ℕ) (edit : LogEdit) (messages : List (ℕ × Message S)) (due : Due) (taken : Option (ℕ × S)) → IsNoCut edit → IsSendable edit head due
    → ahead (with_commit head commit) st.log (behind_of edit) ≡ advanced (ahead head st.log (behind_of edit))
    → done_by st (filled applied snapshot st.log (record { head = head; edit = edit; messages = messages; due = due; taken = taken }) commit)
    ≡ sent applied snapshot (draft_of st.log (record { head = head; edit = edit; messages = messages; due = due; taken = taken }))
does_by {S} applied snapshot st head commit Stays messages due taken whole sendable e =
    let plain : ◌≡◌ {A = RaftState} (record { head = with_commit head commit; log = st.log }) (advanced (record { head = head; log = st.log })) =
    subst (λ (z : LogState). ◌≡◌ {A = RaftState} (record { head = with_commit head commit; log = z }) (advanced (record { head = head; log = z }))) (nothing_behind st.log) e in
    ap (λ (z : LogState). record { state = record { head = with_commit head commit; log = st.log }; out = record { messages = messages ++ sends_among applied snapshot (record { head = with_commit head commit; log = z }) (due_peers (with_commit head commit) due); taken = taken } }) (nothing_behind st.log)
    ∙ sent_from applied snapshot (record { head = head; log = st.log }) (record { head = with_commit head commit; log = st.log }) messages due taken plain
does_by {S} applied snapshot st head commit (Appends entries) messages due taken whole sendable e = sent_from applied snapshot (ahead head st.log entries) (ahead (with_commit head commit) st.log entries) messages due taken e
does_by {S} applied snapshot st head commit (Accepts prev_index prev_term entries) messages due taken whole sendable e =
    subst (λ (x : Due). done_by st (filled applied snapshot st.log (record { head = head; edit = Accepts prev_index prev_term entries; messages = messages; due = x; taken = taken }) commit)
    ≡ sent applied snapshot (draft_of st.log (record { head = head; edit = Accepts prev_index prev_term entries; messages = messages; due = x; taken = taken })))
    (sym sendable.1) (still applied snapshot (accepted st.log prev_index entries) head (with_commit head commit) messages taken (same_head st.log head (with_commit head commit) e sendable.0) sendable.0)
does_by {S} applied snapshot st head commit (Cuts to) messages due taken whole sendable e = absurd whole
does_by {S} applied snapshot st head commit (Resets index term) messages due taken whole sendable e =
    subst (λ (x : Due). done_by st (filled applied snapshot st.log (record { head = head; edit = Resets index term; messages = messages; due = x; taken = taken }) commit)
    ≡ sent applied snapshot (draft_of st.log (record { head = head; edit = Resets index term; messages = messages; due = x; taken = taken })))
    (sym sendable.1) (still applied snapshot (log_at index term) head (with_commit head commit) messages taken (same_head st.log head (with_commit head commit) e sendable.0) sendable.0)

pub fills : {S : Type 0} (applied : ℕ) (snapshot : S) (st : RaftState) (d : RaftDraft S) (commit : ℕ) → DraftFits st.log d
    → ahead (with_commit d.head commit) st.log (behind_of d.edit) ≡ advanced (ahead d.head st.log (behind_of d.edit))
    → Makes st (filled applied snapshot st.log d commit) (draft_of st.log d) (sent applied snapshot (draft_of st.log d))
fills {S} applied snapshot st d commit fits e = record {
  drafts = ap (λ (z : List (ℕ × Message S)). record { state = leads_to d.head st.log d.edit; replies = z; due = d.due; taken = d.taken }) (take-append_seam d.messages (sends_among applied snapshot (ahead (with_commit d.head commit) st.log (behind_of d.edit)) (due_peers (with_commit d.head commit) d.due)));
  does = does_by applied snapshot st d.head commit d.edit d.messages d.due d.taken fits.whole fits.sendable e;
  whole = fits.whole;
}

-- what the edit puts behind the log can stand there
pub behind_fits : (log : LogState) (edit : LogEdit) → EditFits log edit → CanHold log (behind_of edit)
behind_fits log Stays fits some = absurd (omega arith)
behind_fits log (Appends entries) fits some = fits
behind_fits log (Accepts prev_index prev_term entries) fits some = absurd (omega arith)
behind_fits log (Cuts to) fits some = absurd (omega arith)
behind_fits log (Resets index term) fits some = absurd (omega arith)

-- a draft that an event begins with sends nothing, and leaves the state
begun_is_quiet : {S : Type 0} (st : RaftState) (d : RaftDraft S) → IsBegun st d → d.head ≡ st.head → draft_of st.log d ≡ quiet st
begun_is_quiet {S} st d begun same =
    ap (λ (x : LogEdit). record { state = leads_to d.head st.log x; replies = d.messages; due = d.due; taken = d.taken }) begun.edit
    ∙ ap (λ (x : List (ℕ × Message S)). record { state = record { head = d.head; log = st.log }; replies = x; due = d.due; taken = d.taken }) begun.messages
    ∙ ap (λ (x : Due). record { state = record { head = d.head; log = st.log }; replies = []; due = x; taken = d.taken }) begun.due
    ∙ ap (λ (x : Option (ℕ × S)). record { state = record { head = d.head; log = st.log }; replies = []; due = Nobody; taken = x }) begun.taken
    ∙ ap (λ (x : Head). record { state = record { head = x; log = st.log }; replies = []; due = Nobody; taken = None }) same

-- the plan of a Propose alone
pub proposes : {S : Type 0} (applied : ℕ) (snapshot : S) (st : RaftState) (p : RaftPlan S) (before after : RaftDraft S) (payloads : List (List ℕ)) → IsBegun st before → before.head ≡ st.head
    → draft_of st.log after ≡ then_proposed (draft_of st.log before) payloads
    → Makes st p (draft_of st.log after) (sent applied snapshot (draft_of st.log after))
    → Makes st p (propose st payloads) (sent applied snapshot (propose st payloads))
proposes {S} applied snapshot st p before after payloads begun same e made =
    subst (λ (d : Draft S). Makes st p d (sent applied snapshot d)) (e ∙ ap (λ (d : Draft S). then_proposed d payloads) (begun_is_quiet st before begun same)) made
