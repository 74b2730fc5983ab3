-- What edits make of a log.
use Rattle.std.proofs.Common.{◌≡◌, ℕ, suc, Bool, true, false, cond, ◌&&◌, ltb, Option, List, [], ◌∷◌, ◌++◌, map, length, refl, sym, ap, ◌∙◌, arith, append_assoc, append-nil, length-append}
use Rattle.std.specs.Option.{option_map_or}
use Rattle.rp_raftlog.specs.declared.entries.Entry.{Entry}
use Rattle.rp_raftlog.specs.LogState.{LogState, appended}
use Rattle.rp_raftstep.specs.declared.heads.Head.{Head}
use Rattle.rp_raftstep.specs.declared.heads.Due.{Due}
use Rattle.rp_raftstep.specs.declared.heads.Due.TheVariants.{Everyone}
use Rattle.rp_raftstep.specs.declared.messages.Message.{Message}
use Rattle.rp_raftstep.specs.declared.messages.Message.TheVariants.{Forward}
use Rattle.rp_raftstep.specs.RaftState.{RaftState, is_leader}
use Rattle.rp_raftstep.specs.Conditions.{CanAppend}
use Rattle.rp_raftstep.specs.Step.{Draft, with_payloads, then_proposed}
use Rattle.rp_raft.specs.declared.plans.LogEdit.{LogEdit}
use Rattle.rp_raft.specs.declared.plans.LogEdit.TheVariants.{Stays, Appends, Accepts, Cuts, Resets}
use Rattle.rp_raft.specs.Plans.{DraftFits, Drafts, draft_of, edit_behind, leads_to}

-- a leader's Propose behind a draft
led_behind : {S : Type 0} (st : RaftState) (messages : List (ℕ × Message S)) (due : Due) (taken : Option (ℕ × S)) (payloads : List (List ℕ)) → is_leader st.head.role ≡ true
    → ◌≡◌ {A = Draft S} (record { state = with_payloads st payloads; replies = messages; due = cond (ltb 0 (length payloads)) Everyone due; taken = taken })
    (then_proposed (record { state = st; replies = messages; due = due; taken = taken }) payloads)
led_behind {S} st messages due taken payloads leads =
    ap (λ (z : List (ℕ × Message S)). record { state = with_payloads st payloads; replies = z; due = cond (ltb 0 (length payloads)) Everyone due; taken = taken }) (sym (append-nil messages))
    ∙ ap by_role (sym leads)
  where
    by_role : Bool → Draft S
    by_role b = record {
      state = cond b (with_payloads st payloads) st;
      replies = messages ++ cond b [] (option_map_or (λ leader. map (λ payload. (leader, Forward payload)) payloads) st.head.leader []);
      due = cond (b && ltb 0 (length payloads)) Everyone due;
      taken = taken;
    }

-- entries of a term
abbrev entries_in : ℕ → List (List ℕ) → List Entry
entries_in term payloads = map (λ payload. record { term = term; payload = payload }) payloads

as_many : (term : ℕ) (payloads : List (List ℕ)) → length (entries_in term payloads) ≡ length payloads
as_many term [] = refl
as_many term (x ∷ xs) = ap suc (as_many term xs)

-- entries behind entries
appended_twice : (log : LogState) (entries more : List Entry) → appended log (entries ++ more) ≡ appended (appended log entries) more
appended_twice log entries more = ap (λ (z : List Entry). record log { entries = z }) (sym (append_assoc log.entries entries more))

true_false : true ≡ false → ⊥
true_false e = cc

pub leader_behind : {S : Type 0} (log : LogState) (head : Head) (edit : LogEdit) (messages : List (ℕ × Message S)) (due : Due) (taken : Option (ℕ × S)) (payloads : List (List ℕ)) (entries : List Entry)
    → entries ≡ entries_in head.term payloads → is_leader head.role ≡ true
    → DraftFits {S = S} log (record { head = head; edit = edit; messages = messages; due = due; taken = taken })
    → CanAppend (leads_to head log edit) payloads
    → Drafts {S = S} log (record { head = head; edit = edit_behind edit entries; messages = messages; due = cond (ltb 0 (length payloads)) Everyone due; taken = taken })
    (then_proposed (draft_of log (record { head = head; edit = edit; messages = messages; due = due; taken = taken })) payloads)
leader_behind {S} log head Stays messages due taken payloads entries e leads fits room = record {
  is = ap (λ (z : List Entry). record { state = record { head = head; log = appended log z }; replies = messages; due = cond (ltb 0 (length payloads)) Everyone due; taken = taken }) e
      ∙ led_behind (record { head = head; log = log }) messages due taken payloads leads;
  fits = record {
    whole = tt;
    edit = omega (arith, room, ap length e, as_many head.term payloads);
    sound = record { silent = fits.sound.silent; beat = fits.sound.beat; nodes = fits.sound.nodes; base = fits.sound.base };
    sendable = tt;
  };
}
leader_behind {S} log head (Appends old) messages due taken payloads entries e leads fits room = record {
  is = ap (λ (z : List Entry). record { state = record { head = head; log = appended log (old ++ z) }; replies = messages; due = cond (ltb 0 (length payloads)) Everyone due; taken = taken }) e
      ∙ ap (λ (z : LogState). record { state = record { head = head; log = z }; replies = messages; due = cond (ltb 0 (length payloads)) Everyone due; taken = taken }) (appended_twice log old (entries_in head.term payloads))
      ∙ led_behind (record { head = head; log = appended log old }) messages due taken payloads leads;
  fits = record {
    whole = tt;
    edit = omega (arith, room, ap length e, as_many head.term payloads, length-append log.entries old, length-append old entries);
    sound = record { silent = fits.sound.silent; beat = fits.sound.beat; nodes = fits.sound.nodes; base = fits.sound.base };
    sendable = tt;
  };
}
leader_behind log head (Accepts prev_index prev_term old) messages due taken payloads entries e leads fits room = absurd (true_false (sym leads ∙ fits.sendable.0))
leader_behind log head (Cuts to) messages due taken payloads entries e leads fits room = absurd fits.whole
leader_behind log head (Resets index term) messages due taken payloads entries e leads fits room = absurd (true_false (sym leads ∙ fits.sendable.0))
