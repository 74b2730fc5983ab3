-- The laws of leaders, of logs and of what is sent.
use Rattle.std.proofs.Common.{◌≡◌, ℕ, zero, suc, ◌+◌, ◌<◌, ◌≤◌, false, eqb, Option, Some, None, List, ◌++◌, length, take, refl, sym, ap, ◌∙◌, arith, eq-eqb, add-one, ⊎_elim}
use Rattle.std.proofs.lemmas.Bool.{cases_lt}
use Rattle.std.specs.Option.{option_map_or}
use Rattle.std.proofs.lemmas.Option.{slice_get_within, get_or_from_slice_get}
use Rattle.rp_raftlog.specs.declared.entries.Entry.{Entry}
use Rattle.rp_raftlog.specs.LogState.{LogState, entry_at, term_at}
use Rattle.rp_raftstep.specs.declared.messages.Message.{Message}
use Rattle.rp_raftstep.specs.declared.messages.Message.TheVariants.{Append}
use Rattle.rp_raftsafe.specs.World.{Range, IsRange, Replica, World, Event, site, world_after}
use Rattle.rp_raftsafe.specs.Safety.{IsLive, HasSent, Leads, OneLeader, SameUpTo, LogsMatch, IsComplete, LeaderComplete, CommitsAgree, AppendsFit, SentToOthers}
use Rattle.rp_raftsafe.proofs.Logs.{longer_take, same_length, no_entry, tm, term_in, Good, good_more, logs_match, same_get, same_tm, same_term_in}
use Rattle.rp_raftsafe.proofs.Machine.{Abs}
use Rattle.rp_raftsafe.proofs.Safe.{Commits, commits_less, commits_within, commits_agree, commits_grow, committed_front}
use Rattle.rp_raftsafe.proofs.Views.{Shows, shows_last, HasTerm, entry_in, term_at_in, has_term_is}
use Rattle.rp_raftsafe.proofs.Accept.{tm_part}
use Rattle.rp_raftsafe.proofs.Refine.{NodeOk, LeaderOk, PacketOk, AppendOk}
use Rattle.rp_raftsafe.proofs.Pieces.{as_leader}
use Rattle.rp_raftsafe.proofs.Worlds.{WorldOk, after_start, both_ok, every_get}
use Rattle.rp_raftsafe.proofs.Known.{live_ok}

-- who leads is the machine's leader
leads_ok : {S : Type 0} (g : Range S) (a : Abs) (w : World S) → WorldOk g a w → (p t : ℕ) → Leads w p t → (0 < p) × (a.lead t ≡ p)
leads_ok g a w ok p t l =
    let node = live_ok g a w ok p l.replica l.live in
    let h = l.replica.raft.head in
    let led : LeaderOk a p l.replica.raft.head.term (a.log p) l.replica.raft.head.next l.replica.raft.head.matched =
    as_leader a p l.replica.raft.head.term (a.log p) l.replica.raft.head.next l.replica.raft.head.matched l.replica.raft.head.votes l.replica.raft.head.role l.leads node.1.role in
    (node.0, ap a.lead (sym l.at) ∙ led.leads)

pub one_leader_holds : (S : Type 0) → OneLeader S
one_leader_holds S g range early late p q t lp lq =
    let b = both_ok g range early late in
    let first = leads_ok g b.then (world_after g early) b.before p t lp in
    let second = leads_ok g b.now (world_after g (early ++ late)) b.after q t lq in
    sym first.1 ∙ sym (b.grows.lead t (omega (arith, first.0, first.1))) ∙ second.1

-- two views of logs that agree up to an index
same_up_to : (xs ys : List Entry) (l m : LogState) (index : ℕ) → Shows xs l → Shows ys m → index ≤ length xs → index ≤ length ys → take index xs ≡ take index ys → SameUpTo l m index
same_up_to xs ys l m index sl sm lx ly same = record { terms = at; entries = entry }
  where
    at : (k : ℕ) → l.base ≤ k → m.base ≤ k → k ≤ index → term_at l k ≡ term_at m k
    at k bl bm le = term_at_in xs l sl k bl (omega arith) ∙ ap Some (same_term_in k index xs ys le same) ∙ sym (term_at_in ys m sm k bm (omega arith))

    entry : (k : ℕ) → l.base < k → m.base < k → k ≤ index → entry_at l k ≡ entry_at m k
    entry zero bl bm le = absurd (omega arith)
    entry (suc j) bl bm le = entry_in xs l sl j (omega arith) (omega arith) ∙ ap Some (same_get j index xs ys le same) ∙ sym (entry_in ys m sm j (omega arith) (omega arith))

-- a log that has a term at an index
has_at : (xs : List Entry) (l : LogState) → Shows xs l → (k t : ℕ) → term_at l k ≡ Some t → HasTerm xs l k t
has_at xs l s k t e = has_term_is xs l s k t (ap (λ z. option_map_or (λ x. eqb x t) z false) e ∙ eq-eqb t t refl)

matched : (llog : ℕ → List Entry) (xs ys : List Entry) → Good llog xs → Good llog ys → (k : ℕ) → k ≤ length xs → k ≤ length ys → term_in xs k ≡ term_in ys k → take k xs ≡ take k ys
matched llog xs ys gx gy zero lx ly e = refl
matched llog xs ys gx gy (suc j) lx ly e = logs_match llog xs ys j gx gy lx ly e

pub logs_match_holds : (S : Type 0) → LogsMatch S
logs_match_holds S g range early late p q r s lr ls index t er es =
    let b = both_ok g range early late in
    let first = live_ok g b.then (world_after g early) b.before p r lr in
    let second = live_ok g b.now (world_after g (early ++ late)) b.after q s ls in
    let xs : List Entry = b.then.log p in
    let hx : HasTerm (b.then.log p) r.raft.log index t = has_at (b.then.log p) r.raft.log first.1.log index t er in
    let hy : HasTerm (b.now.log q) s.raft.log index t = has_at (b.now.log q) s.raft.log second.1.log index t es in
    same_up_to (b.then.log p) (b.now.log q) r.raft.log s.raft.log index first.1.log second.1.log hx.within hy.within
    (matched b.now.llog (b.then.log p) (b.now.log q) (good_more b.then.llog b.now.llog (b.then.log p) b.grows.llog (b.before.inv.good_log p)) (b.after.inv.good_log q) index hx.within hy.within (hx.term ∙ sym hy.term))

pub commits_agree_holds : (S : Type 0) → CommitsAgree S
commits_agree_holds S g range early late p q r s lr ls index cr cs =
    let b = both_ok g range early late in
    let first = live_ok g b.then (world_after g early) b.before p r lr in
    let second = live_ok g b.now (world_after g (early ++ late)) b.after q s ls in
    let cx : Commits g.nodes b.now r.raft.head.term index (b.then.log p) = commits_grow g.nodes b.then b.now b.grows r.raft.head.term index (b.then.log p) (commits_less g.nodes b.then r.raft.head.term index r.raft.head.commit (b.then.log p) cr first.1.commit) in
    let cy : Commits g.nodes b.now s.raft.head.term index (b.now.log q) = commits_less g.nodes b.now s.raft.head.term index s.raft.head.commit (b.now.log q) cs second.1.commit in
    same_up_to (b.then.log p) (b.now.log q) r.raft.log s.raft.log index first.1.log second.1.log
    (commits_within g.nodes b.now r.raft.head.term index (b.then.log p) cx) (commits_within g.nodes b.now s.raft.head.term index (b.now.log q) cy)
    (commits_agree g.nodes b.now b.after.inv r.raft.head.term s.raft.head.term index (b.then.log p) (b.now.log q) cx cy)

-- a leader at the later time has what was committed in an earlier term
complete_later : {S : Type 0} (g : Range S) (range : IsRange g) (early late : List Event) (p q : ℕ) (r s : Replica S) → IsLive (world_after g early) p r → IsLive (world_after g (early ++ late)) q s → IsComplete s r
complete_later g range early late p q r s lr ls leads less index cr =
    let b = both_ok g range early late in
    let first = live_ok g b.then (world_after g early) b.before p r lr in
    let second = live_ok g b.now (world_after g (early ++ late)) b.after q s ls in
    let cx : Commits g.nodes b.now r.raft.head.term index (b.then.log p) = commits_grow g.nodes b.then b.now b.grows r.raft.head.term index (b.then.log p) (commits_less g.nodes b.then r.raft.head.term index r.raft.head.commit (b.then.log p) cr first.1.commit) in
    let led : LeaderOk b.now q s.raft.head.term (b.now.log q) s.raft.head.next s.raft.head.matched =
    as_leader b.now q s.raft.head.term (b.now.log q) s.raft.head.next s.raft.head.matched s.raft.head.votes s.raft.head.role leads second.1.role in
    let own : b.now.log q ≡ b.now.llog s.raft.head.term = b.after.inv.lead_log q second.0 (ap b.now.lead second.1.term ∙ led.leads) ∙ ap b.now.llog second.1.term in
    let same : take index (b.then.log p) ≡ take index (b.now.log q) = committed_front g.nodes b.now b.after.inv r.raft.head.term s.raft.head.term index (b.then.log p) (omega arith) (omega (arith, second.0, led.leads)) cx ∙ ap (take index) (sym own) in
    let some : index ≤ length (b.then.log p) = commits_within g.nodes b.now r.raft.head.term index (b.then.log p) cx in
    let within : index ≤ length (b.now.log q) = same_length index (b.then.log p) (b.now.log q) some same in
    record {
      within = omega (arith, within, shows_last (b.now.log q) s.raft.log second.1.log);
      same = same_up_to (b.then.log p) (b.now.log q) r.raft.log s.raft.log index first.1.log second.1.log some within same;
    }

-- a leader at the earlier time has what is committed later in an earlier term: what it appended since is of its own term
complete_before : {S : Type 0} (g : Range S) (range : IsRange g) (early late : List Event) (p q : ℕ) (r s : Replica S) → IsLive (world_after g early) p r → IsLive (world_after g (early ++ late)) q s → IsComplete r s
complete_before g range early late p q r s lr ls leads less index cs =
    let b = both_ok g range early late in
    let first = live_ok g b.then (world_after g early) b.before p r lr in
    let second = live_ok g b.now (world_after g (early ++ late)) b.after q s ls in
    let cx : Commits g.nodes b.now s.raft.head.term index (b.now.log q) = commits_less g.nodes b.now s.raft.head.term index s.raft.head.commit (b.now.log q) cs second.1.commit in
    let led : LeaderOk b.then p r.raft.head.term (b.then.log p) r.raft.head.next r.raft.head.matched =
    as_leader b.then p r.raft.head.term (b.then.log p) r.raft.head.next r.raft.head.matched r.raft.head.votes r.raft.head.role leads first.1.role in
    let own : b.then.log p ≡ b.then.llog r.raft.head.term = b.before.inv.lead_log p first.0 (ap b.then.lead first.1.term ∙ led.leads) ∙ ap b.then.llog first.1.term in
    let then_leads : 0 < b.then.lead r.raft.head.term = omega (arith, first.0, led.leads) in
    let front : take index (b.now.log q) ≡ take index (b.now.llog r.raft.head.term) = committed_front g.nodes b.now b.after.inv s.raft.head.term r.raft.head.term index (b.now.log q) (omega arith) (omega (arith, then_leads, b.grows.lead r.raft.head.term then_leads)) cx in
    let some : index ≤ length (b.now.log q) = commits_within g.nodes b.now s.raft.head.term index (b.now.log q) cx in
    let longer : index ≤ length (b.now.llog r.raft.head.term) = same_length index (b.now.log q) (b.now.llog r.raft.head.term) some front in
    let within : index ≤ length (b.then.llog r.raft.head.term) =
    ⊎_elim
    (λ (short : length (b.then.llog r.raft.head.term) < index).
    absurd (omega (
      arith,
      second.1.term,
      b.after.inv.log_terms q (length (b.then.llog r.raft.head.term)),
      same_tm (length (b.then.llog r.raft.head.term)) index (b.now.log q) (b.now.llog r.raft.head.term) short front,
      b.grows.added r.raft.head.term (length (b.then.llog r.raft.head.term)) then_leads (omega arith) (omega arith),
    )))
    (λ (le : index ≤ length (b.then.llog r.raft.head.term)). le)
    (cases_lt (length (b.then.llog r.raft.head.term)) index) in
    let same : take index (b.now.log q) ≡ take index (b.then.log p) =
    front ∙ longer_take (b.then.llog r.raft.head.term) (b.now.llog r.raft.head.term) index (b.grows.llog r.raft.head.term) within ∙ ap (take index) (sym own) in
    let within' : index ≤ length (b.then.log p) = omega (arith, within, ap length own) in
    record {
      within = omega (arith, within', shows_last (b.then.log p) r.raft.log first.1.log);
      same = same_up_to (b.now.log q) (b.then.log p) s.raft.log r.raft.log index second.1.log first.1.log some within' same;
    }

pub leader_complete_holds : (S : Type 0) → LeaderComplete S
leader_complete_holds S g range early late p q r s lr ls = (complete_later g range early late p q r s lr ls, complete_before g range early late p q r s lr ls)

-- a message that a node has sent
pub sent_packet : {S : Type 0} (g : Range S) (a : Abs) (w : World S) → WorldOk g a w → (from to : ℕ) (m : Message S) → HasSent w from to m → (0 < from) × PacketOk g a from (to, m)
sent_packet {S} g a w ok zero to m has = absurd (none_some has.1)
  where
    none_some : ◌≡◌ {A = Option (ℕ × Message S)} None (Some (to, m)) → ⊥
    none_some e = cc
sent_packet g a w ok (suc k) to m has = (omega arith, every_get (PacketOk g a (suc k)) (site w (suc k)).sent has.0 (to, m) (ok.sites (suc k) (omega arith)).sent has.1)

pub appends_fit_holds : (S : Type 0) → AppendsFit S
appends_fit_holds S g range events from to r t prev prev_term es commit has live reached k entry at base_lt commit_le =
    let w = after_start g range events in
    let a : Abs = w.to in
    let packet = sent_packet g w.to (world_after g events) w.ok from to (Append t prev prev_term es commit) has in
    let m : AppendOk g.nodes w.to from t prev prev_term es commit = packet.1.fact in
    let node = live_ok g w.to (world_after g events) w.ok to r live in
    let n : NodeOk g w.to to r.raft r.applied r.state = node.1 in
    let within : r.raft.head.commit ≤ length (w.to.log to) = commits_within g.nodes w.to r.raft.head.term r.raft.head.commit (w.to.log to) n.commit in
    let same : take r.raft.head.commit (w.to.log to) ≡ take r.raft.head.commit (w.to.llog t) = committed_front g.nodes w.to w.ok.inv r.raft.head.term t r.raft.head.commit (w.to.log to) reached (omega (arith, packet.0, m.leads)) n.commit in
    let short : k < length es = slice_get_within es k entry at in
    term_at_in (w.to.log to) r.raft.log n.log (prev + k + 1) (omega arith) (omega arith)
    ∙ ap Some
    (ap (term_in (w.to.log to)) (add-one (prev + k))
    ∙ same_tm (prev + k) r.raft.head.commit (w.to.log to) (w.to.llog t) (omega arith) same
    ∙ sym (tm_part (w.to.llog t) prev (length es) k short)
    ∙ ap (λ z. tm z k) m.stand
    ∙ ap (λ z. z.term) (get_or_from_slice_get es k entry no_entry at))

pub sent_to_others_holds : (S : Type 0) → SentToOthers S
sent_to_others_holds S g range events from to m has =
    let w = after_start g range events in
    (sent_packet g w.to (world_after g events) w.ok from to m has).1.other
