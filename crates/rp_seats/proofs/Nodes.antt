-- An event of a node, as one range sees it.
use Rattle.std.proofs.Common.{◌≡◌, ℕ, zero, suc, ◌+◌, ◌^◌, ◌<◌, ◌≤◌, cond, eqb, Option, None, Some, Result, Ok, Err, List, [], ◌∷◌, ◌++◌, length, refl, sym, ap, subst, ◌∙◌, arith, ⊎_elim, append-nil, eqb-true, eq-eqb, get_or-set_same, get_or-set_other}
use Rattle.std.proofs.lemmas.Bool.{cond_both, eqb-false, ne_eqb, cases_lt}
use Rattle.std.proofs.lemmas.List.{length-set, get_or_past}
use Rattle.rp_base.specs.declared.items.Item.{Item}
use Rattle.rp_base.specs.declared.ranges.Desc.{Desc}
use Rattle.rp_base.specs.declared.ranges.SplitFault.{SplitFault}
use Rattle.rp_base.specs.Splits.{split_of}
use Rattle.rp_base.proofs.SplitLaws.{right_id}
use Rattle.rp_raftstep.specs.declared.messages.Message.{Message}
use Rattle.rp_raftstep.specs.declared.messages.Message.TheVariants.{Vote, VoteReply, Append, AppendReply, Forward, Snap}
use Rattle.rp_raftstep.specs.Step.{absent_answer}
use Rattle.rp_request.specs.Applied.{AppliedState, command_verdict}
use Rattle.rp_request.specs.States.{right_of, right_by, right_by_request, right_with}
use Rattle.rp_request.specs.declared.commands.Payload.{Payload}
use Rattle.rp_request.specs.declared.commands.Payload.TheVariants as payloads
use Rattle.rp_request.specs.declared.requests.Request.{Request}
use Rattle.rp_request.specs.declared.requests.Request.TheVariants as requests
use Rattle.rp_request.specs.declared.verdicts.Verdict.{Verdict}
use Rattle.rp_request.specs.declared.verdicts.Verdict.TheVariants as verdicts
use Rattle.rp_request.specs.declared.evaluations.Evaluated.{Evaluated}
use Rattle.rp_request.specs.declared.outcomes.Refusal.{Refusal}
use Rattle.rp_raftsafe.specs.World as raft
use Rattle.rp_events.specs.declared.parcels.Parcel.{Parcel}
use Rattle.rp_events.specs.declared.node_events.Event.{Event}
use Rattle.rp_events.specs.declared.node_events.Event.TheVariants as events
use Rattle.rp_events.specs.declared.replica_events.ReplicaEvent.{ReplicaEvent}
use Rattle.rp_events.specs.declared.replica_events.ReplicaEvent.TheVariants.{Admit, Ask, Transfer, Collect, Flush, Tick, Deliver, Apply, Cut, Remove, Peek, Restart}
use Rattle.rp_events.specs.Replicas.{Replica, Done, started, made_by_snap}
use Rattle.rp_events.specs.Admissions.{guarded, admitted_by}
use Rattle.rp_events.specs.Applications.{payload_of, next_entry, applied_where}
use Rattle.rp_events.specs.ReplicaEvents.{event}
use Rattle.rp_events.specs.Nodes.{Node, Status, Absent, Live, Removed, seat, with_seat, parcels, opened, opened_by, after_turn, range_numbers, right_base, right_base_term}
use Rattle.rp_events.specs.NodeEvents.{status_after, after_replica, live_turn, all_turns, delivered, answered_absent, seat_by_message, by_status, step, with_request}
use Rattle.rp_seats.specs.Views.{core_of, sent_of, site_of, range_at}
use Rattle.rp_seats.specs.Scenes.{Doing, Gets, Starts, turn_of, site_after, doings_of, starting, seen_by, seat_doings, all_doings, message_doings, node_doings}
use Rattle.rp_seats.specs.Standing.{IsShaped}
use Rattle.rp_seats.proofs.Turns.{same_site, replica_turn}

-- what a node has sent of a range
sent_more : (range : ℕ) (sent more : List (Parcel AppliedState)) → sent_of range (sent ++ more) ≡ sent_of range sent ++ sent_of range more
sent_more range [] more = refl
sent_more range (x ∷ sent) more =
    cond_both (eqb x.range range) ((x.to, x.message) ∷ sent_of range sent) (sent_of range sent) (λ z. cond (eqb x.range range) ((x.to, x.message) ∷ sent_of range (sent ++ more)) (sent_of range (sent ++ more)) ≡ z ++ sent_of range more)
    (λ e. ap (λ z. cond z ((x.to, x.message) ∷ sent_of range (sent ++ more)) (sent_of range (sent ++ more))) e ∙ ap (λ z. (x.to, x.message) ∷ z) (sent_more range sent more))
    (λ e. ap (λ z. cond z ((x.to, x.message) ∷ sent_of range (sent ++ more)) (sent_of range (sent ++ more))) e ∙ sent_more range sent more)

own_parcels : (range : ℕ) (sends : List (ℕ × Message AppliedState)) → sent_of range (parcels range sends) ≡ sends
own_parcels range [] = refl
own_parcels range (x ∷ xs) = ap (λ z. cond z (x ∷ sent_of range (parcels range xs)) (sent_of range (parcels range xs))) (eq-eqb range range refl) ∙ ap (λ z. x ∷ z) (own_parcels range xs)

other_parcels : (range r : ℕ) (sends : List (ℕ × Message AppliedState)) → (r ≡ range → ⊥) → sent_of range (parcels r sends) ≡ []
other_parcels range r [] ne = refl
other_parcels range r (x ∷ xs) ne = ap (λ z. cond z (x ∷ sent_of range (parcels r xs)) (sent_of range (parcels r xs))) (ne_eqb r range ne) ∙ other_parcels range r xs ne

sent_own : (range : ℕ) (sent : List (Parcel AppliedState)) (sends : List (ℕ × Message AppliedState)) → sent_of range (sent ++ parcels range sends) ≡ sent_of range sent ++ sends
sent_own range sent sends = sent_more range sent (parcels range sends) ∙ ap (λ z. sent_of range sent ++ z) (own_parcels range sends)

pub sent_other : (range r : ℕ) (sent : List (Parcel AppliedState)) (sends : List (ℕ × Message AppliedState)) → (r ≡ range → ⊥) → sent_of range (sent ++ parcels r sends) ≡ sent_of range sent
sent_other range r sent sends ne = sent_more range sent (parcels r sends) ∙ ap (λ z. sent_of range sent ++ z) (other_parcels range r sends ne) ∙ append-nil (sent_of range sent)

-- a seat after it was changed, or another
pub seat_same : (n : Node) (range : ℕ) (status : Status) → range < length n.seats → seat (with_seat n range status) range ≡ status
seat_same n range status within = get_or-set_same n.seats range status Absent within

pub seat_other : (n : Node) (at range : ℕ) (status : Status) → (at ≡ range → ⊥) → seat (with_seat n at status) range ≡ seat n range
seat_other n at range status ne = get_or-set_other n.seats at range status Absent (λ e. ne (sym e))

-- a seat with a replica is one of the node's
pub live_within : (n : Node) (range : ℕ) (r : Replica) → seat n range ≡ Live r → range < length n.seats
live_within n range r live =
    ⊎_elim (λ (within : range < length n.seats). within)
    (λ (past : length n.seats ≤ range). absurd (absent_live (sym (get_or_past n.seats range Absent past) ∙ live)))
    (cases_lt range (length n.seats))
  where
    absent_live : ◌≡◌ {A = Status} Absent (Live r) → ⊥
    absent_live e = cc

-- the node's part after an event of one of its seats: of the range's own, or of another one
own_site : (n : Node) (range : ℕ) (status : Status) (d : Done) → range < length n.seats
    → site_of range (after_turn n range status d) ≡ record { status = core_of status; sent = sent_of range n.sent ++ d.messages }
own_site n range status d within = same_site _ _ _ _ (ap core_of (seat_same n range status within)) (sent_own range n.sent d.messages)

other_site : (n : Node) (at range : ℕ) (status : Status) (d : Done) → (at ≡ range → ⊥) → site_of range (after_turn n at status d) ≡ site_of range n
other_site n at range status d ne = same_site _ _ _ _ (ap core_of (seat_other n at range status ne)) (sent_other range at n.sent d.messages ne)

some_same : (a b : AppliedState) → ◌≡◌ {A = Option AppliedState} (Some a) (Some b) → a ≡ b
some_same a b e = cc

-- a right range has a number above 0
pub right_positive : (s t : AppliedState) (p : Payload) → right_of s p ≡ Some t → 0 < t.desc.id
right_positive s t payloads.Nothing e = absurd cc
right_positive s t (payloads.Lease ask) e = absurd cc
right_positive s t (payloads.Write c) e = by_verdict (command_verdict s c) e where
  by_split : (key : ℕ) (x : Result (Desc × Desc) SplitFault) → split_of s.desc key ≡ x → right_with s key x ≡ Some t → 0 < t.desc.id
  by_split key (Ok parts) is e =
      let same : parts.1 ≡ t.desc = desc_of e in
      let number : t.desc.id ≡ parts.0.id + 2 ^ s.desc.level = ap (λ (d : Desc). d.id) (sym same) ∙ right_id s.desc key parts.0 parts.1 is in
      omega (arith, number, s.desc.id_of_level)
    where
      desc_of : right_with s key (Ok parts) ≡ Some t → parts.1 ≡ t.desc
      desc_of e = ap (λ (z : AppliedState). z.desc) (some_same _ t e)
  by_split key (Err why) is e = absurd cc

  by_request : (r : Request) → right_by_request s r ≡ Some t → 0 < t.desc.id
  by_request (requests.Put key value) e = absurd cc
  by_request (requests.Add key by) e = absurd cc
  by_request (requests.CPut key expect value) e = absurd cc
  by_request (requests.Del key) e = absurd cc
  by_request (requests.Wipe span) e = absurd cc
  by_request (requests.Move from to by) e = absurd cc
  by_request (requests.Split key) e = by_split key (split_of s.desc key) refl e

  by_verdict : (v : Verdict) → right_by s c v ≡ Some t → 0 < t.desc.id
  by_verdict verdicts.Took e = by_request c.request e
  by_verdict (verdicts.OldLease now) e = absurd cc
  by_verdict (verdicts.OldIndex lai) e = absurd cc
  by_verdict verdicts.LeaseMoved e = absurd cc
  by_verdict verdicts.Nothing e = absurd cc

-- what an event opens has a number above 0
abbrev pub OpensAbove : Option AppliedState → Type 0
OpensAbove o = (t : AppliedState) → o ≡ Some t → 0 < t.desc.id

pub opens_none : OpensAbove None
opens_none t e = absurd cc

pub opens_above : (r : Replica) (e : ReplicaEvent AppliedState) (ticks round : ℕ) (taken : List Item) → OpensAbove (event r e ticks round taken).right
opens_above r (Admit id request) ticks round taken = go (guarded r request) where
  go : (g : Result Evaluated Refusal) → OpensAbove (admitted_by r id request g).right
  go (Ok e) = opens_none
  go (Err why) = opens_none
opens_above r Ask ticks round taken = cond_both _ _ _ (λ (z : Done). OpensAbove z.right) (λ _. opens_none) (λ _. opens_none)
opens_above r (Transfer to) ticks round taken = cond_both _ _ _ (λ (z : Done). OpensAbove z.right) (λ _. opens_none) (λ _. opens_none)
opens_above r Collect ticks round taken = opens_none
opens_above r Flush ticks round taken = opens_none
opens_above r Tick ticks round taken = opens_none
opens_above r (Deliver from message) ticks round taken = cond_both _ _ _ (λ (z : Done). OpensAbove z.right) (λ _. opens_none) (λ _. opens_none)
opens_above r Apply ticks round taken = go (payload_of (next_entry r)) where
  go : (o : Option Payload) → OpensAbove (applied_where r o).right
  go None = opens_none
  go (Some p) = λ t e. right_positive r.applied.state t p e
opens_above r Cut ticks round taken = opens_none
opens_above r Remove ticks round taken = opens_none
opens_above r (Peek key) ticks round taken = opens_none
opens_above r Restart ticks round taken = opens_none

-- doings in two parts
site_further : (nodes range : ℕ) (start : AppliedState) (node : ℕ) (ds es : List Doing) (site : raft.Site AppliedState)
    → site_after nodes range start node (ds ++ es) site ≡ site_after nodes range start node es (site_after nodes range start node ds site)
site_further nodes range start node [] es site = refl
site_further nodes range start node (d ∷ ds) es site = site_further nodes range start node ds es (raft.after_turn site (turn_of nodes range start node d site.status))

-- a change of one seat leaves the shape
shaped_seat : (nodes node : ℕ) (n : Node) (at : ℕ) (status : Status) → IsShaped nodes node n → IsShaped nodes node (with_seat n at status)
shaped_seat nodes node n at status s = record { number = s.number; of = s.of; eight = length-set n.seats at status ∙ s.eight }

shaped_turn : (nodes node : ℕ) (n : Node) (at : ℕ) (status : Status) (d : Done) → IsShaped nodes node n → IsShaped nodes node (after_turn n at status d)
shaped_turn nodes node n at status d s = record { number = s.number; of = s.of; eight = length-set n.seats at status ∙ s.eight }

shaped_opened : (nodes node : ℕ) (n : Node) (o : Option AppliedState) → IsShaped nodes node n → IsShaped nodes node (opened n o)
shaped_opened nodes node n None s = s
shaped_opened nodes node n (Some t) s = go (seat n t.desc.id) where
  go : (status : Status) → IsShaped nodes node (opened_by n t status)
  go Absent = shaped_seat nodes node n t.desc.id (Live (started n.node n.nodes t.lease.holder right_base right_base_term t)) s
  go (Live r) = s
  go (Removed applied) = s

pub shaped_replica : (nodes node : ℕ) (n : Node) (at : ℕ) (e : ReplicaEvent AppliedState) (d : Done) → IsShaped nodes node n → IsShaped nodes node (after_replica n at e d)
shaped_replica nodes node n at e d s = shaped_opened nodes node _ d.right (shaped_turn nodes node n at (status_after e d.replica) d s)

module _ (nodes range : ℕ) (start : AppliedState) (node : ℕ) (below : range < 8) where
  within : (n : Node) → IsShaped nodes node n → range < length n.seats
  within n s = omega (arith, below, s.eight)

  -- the start of a right range
  opened_there : (n : Node) (t : AppliedState) → IsShaped nodes node n → t.desc.id ≡ range → 0 < range → (status : Status) → seat n range ≡ status
      → site_of range (opened_by n t status) ≡ raft.after_turn (site_of range n) (turn_of nodes range start node (Starts t) (core_of status))
  opened_there n t s own positive Absent e = go range own positive below e (within n s) where
    go : (range' : ℕ) → t.desc.id ≡ range' → 0 < range' → range' < 8 → seat n range' ≡ Absent → range' < length n.seats
        → site_of range' (opened_by n t Absent) ≡ raft.after_turn (site_of range' n) (turn_of nodes range' start node (Starts t) (core_of Absent))
    go zero own' positive' below' e' in_seats = absurd (omega (arith, positive'))
    go (suc k) own' positive' below' e' in_seats =
        same_site _ _ _ _
        (ap (λ i. core_of (seat (with_seat n i (Live (started n.node n.nodes t.lease.holder right_base right_base_term t))) (suc k))) own' ∙ ap core_of (seat_same n (suc k) (Live (started n.node n.nodes t.lease.holder right_base right_base_term t)) in_seats) ∙ numbered)
        (sym (append-nil (sent_of (suc k) n.sent)))
      where
        numbered : core_of (Live (started n.node n.nodes t.lease.holder right_base right_base_term t)) ≡ core_of (Live (started node nodes t.lease.holder right_base right_base_term t))
        numbered = ap (λ i. core_of (Live (started i n.nodes t.lease.holder right_base right_base_term t))) s.number ∙ ap (λ i. core_of (Live (started node i t.lease.holder right_base right_base_term t))) s.of
  opened_there n t s own positive (Live r) e = same_site _ _ _ _ (ap core_of e) (sym (append-nil (sent_of range n.sent)))
  opened_there n t s own positive (Removed applied) e = same_site _ _ _ _ (ap core_of e) (sym (append-nil (sent_of range n.sent)))

  opened_elsewhere : (n : Node) (t : AppliedState) → (t.desc.id ≡ range → ⊥) → (status : Status) → site_of range (opened_by n t status) ≡ site_of range n
  opened_elsewhere n t ne Absent = same_site _ _ _ _ (ap core_of (seat_other n t.desc.id range (Live (started n.node n.nodes t.lease.holder right_base right_base_term t)) ne)) refl
  opened_elsewhere n t ne (Live r) = refl
  opened_elsewhere n t ne (Removed applied) = refl

  opened_site : (n : Node) (o : Option AppliedState) → IsShaped nodes node n → OpensAbove o → site_of range (opened n o) ≡ site_after nodes range start node (starting range o) (site_of range n)
  opened_site n None s above = refl
  opened_site n (Some t) s above =
      cond_both (eqb t.desc.id range) (Starts t ∷ []) [] (λ ds. site_of range (opened_by n t (seat n t.desc.id)) ≡ site_after nodes range start node ds (site_of range n))
      (λ e. let own = eqb-true t.desc.id range e in
      ap (λ i. site_of range (opened_by n t (seat n i))) own ∙ opened_there n t s own (subst (λ i. 0 < i) own (above t refl)) (seat n range) refl)
      (λ ne. opened_elsewhere n t (eqb-false t.desc.id range ne) (seat n t.desc.id))

  -- an event of a replica, in its own range and in another
  own_part : (n : Node) (at number : ℕ) (r : Replica) (e : ReplicaEvent AppliedState) (taken : List Item) → IsShaped nodes node n → seat n at ≡ Live r
      → site_of range (after_turn n at (status_after e (event r e n.ticks n.rounds taken).replica) (event r e n.ticks n.rounds taken))
      ≡ site_after nodes range start node (cond (eqb at range) (doings_of number r e (event r e n.ticks n.rounds taken).proposed) []) (site_of range n)
  own_part n at number r e taken s live =
      let d : Done = event r e n.ticks n.rounds taken in
      let status : Status = status_after e d.replica in
      cond_both (eqb at range) (doings_of number r e d.proposed) [] (λ ds. site_of range (after_turn n at status d) ≡ site_after nodes range start node ds (site_of range n))
      (λ is. let same = eqb-true at range is in
      ap (λ i. site_of range (after_turn n i status d)) same
      ∙ own_site n range status d (within n s)
      ∙ sym (replica_turn nodes range start node number r n.ticks n.rounds (sent_of range n.sent) e taken)
      ∙ ap (λ z. site_after nodes range start node (doings_of number r e d.proposed) (record { status = z; sent = sent_of range n.sent })) (sym (ap core_of (subst (λ i. seat n i ≡ Live r) same live))))
      (λ ne. other_site n at range status d (eqb-false at range ne))

  replica_site : (n : Node) (at number : ℕ) (r : Replica) (e : ReplicaEvent AppliedState) (taken : List Item) → IsShaped nodes node n → seat n at ≡ Live r
      → site_of range (after_replica n at e (event r e n.ticks n.rounds taken))
      ≡ site_after nodes range start node (seen_by range at number r e (event r e n.ticks n.rounds taken)) (site_of range n)
  replica_site n at number r e taken s live =
      let d : Done = event r e n.ticks n.rounds taken in
      opened_site (after_turn n at (status_after e d.replica) d) d.right (shaped_turn nodes node n at (status_after e d.replica) d s) (opens_above r e n.ticks n.rounds taken)
      ∙ ap (site_after nodes range start node (starting range d.right)) (own_part n at number r e taken s live)
      ∙ sym (site_further nodes range start node (cond (eqb at range) (doings_of number r e d.proposed) []) (starting range d.right) (site_of range n))

  -- an event of a seat, and of each
  seat_site : (n : Node) (at : ℕ) (e : ReplicaEvent AppliedState) (taken : List Item) → IsShaped nodes node n → (status : Status) → seat n at ≡ status
      → site_of range (by_status n at e taken status).node ≡ site_after nodes range start node (seat_doings range n at 0 e taken status) (site_of range n)
  seat_site n at e taken s Absent is = refl
  seat_site n at e taken s (Live r) is = replica_site n at 0 r e taken s is
  seat_site n at e taken s (Removed applied) is = refl

  live_site : (n : Node) (at : ℕ) (e : ReplicaEvent AppliedState) → IsShaped nodes node n → (status : Status) → seat n at ≡ status
      → site_of range (live_turn e n at status) ≡ site_after nodes range start node (seat_doings range n at 0 e [] status) (site_of range n)
  live_site n at e s Absent is = refl
  live_site n at e s (Live r) is = replica_site n at 0 r e [] s is
  live_site n at e s (Removed applied) is = refl

  shaped_live : (n : Node) (at : ℕ) (e : ReplicaEvent AppliedState) → IsShaped nodes node n → (status : Status) → IsShaped nodes node (live_turn e n at status)
  shaped_live n at e s Absent = s
  shaped_live n at e s (Live r) = shaped_replica nodes node n at e (event r e n.ticks n.rounds []) s
  shaped_live n at e s (Removed applied) = s

  all_site : (e : ReplicaEvent AppliedState) (ranges : List ℕ) (n : Node) → IsShaped nodes node n
      → site_of range (all_turns e n ranges) ≡ site_after nodes range start node (all_doings range e n ranges) (site_of range n)
  all_site e [] n s = refl
  all_site e (at ∷ more) n s =
      all_site e more (live_turn e n at (seat n at)) (shaped_live n at e s (seat n at))
      ∙ ap (site_after nodes range start node (all_doings range e (live_turn e n at (seat n at)) more)) (live_site n at e s (seat n at) refl)
      ∙ sym (site_further nodes range start node (seat_doings range n at 0 e [] (seat n at)) (all_doings range e (live_turn e n at (seat n at)) more) (site_of range n))

  -- a message, also where nothing is of its range
  absent_status : (n : Node) (from : ℕ) (m : Message AppliedState) → IsShaped nodes node n
      → core_of (seat_by_message n from m) ≡ raft.absent_after (range_at nodes range start) node from m
  absent_status n from (Vote t i it) s = refl
  absent_status n from (VoteReply t granted) s = refl
  absent_status n from (Append t prev pt es commit) s = refl
  absent_status n from (AppendReply t ok i) s = refl
  absent_status n from (Forward payload) s = refl
  absent_status n from (Snap t i it snapshot) s =
      ap (λ k. core_of (Live (made_by_snap k n.nodes t from i it snapshot))) s.number ∙ ap (λ k. core_of (Live (made_by_snap node k t from i it snapshot))) s.of

  absent_site : (n : Node) (at from number : ℕ) (m : Message AppliedState) → IsShaped nodes node n → seat n at ≡ Absent
      → site_of range (answered_absent n at from m) ≡ site_after nodes range start node (cond (eqb at range) (Gets from number m [] ∷ []) []) (site_of range n)
  absent_site n at from number m s is =
      cond_both (eqb at range) (Gets from number m [] ∷ []) [] (λ ds. site_of range (answered_absent n at from m) ≡ site_after nodes range start node ds (site_of range n))
      (λ e. let same = eqb-true at range e in
      ap (λ i. site_of range (answered_absent n i from m)) same
      ∙ same_site _ _ _ _ (ap core_of (seat_same n range (seat_by_message n from m) (within n s)) ∙ absent_status n from m s) (sent_own range n.sent (absent_answer from m))
      ∙ ap (λ z. raft.after_turn (record { status = z; sent = sent_of range n.sent }) (turn_of nodes range start node (Gets from number m []) z)) (sym (ap core_of (subst (λ i. seat n i ≡ Absent) same is))))
      (λ ne. let other = eqb-false at range ne in same_site _ _ _ _ (ap core_of (seat_other n at range (seat_by_message n from m) other)) (sent_other range at n.sent (absent_answer from m) other))

  message_site : (n : Node) (at from number : ℕ) (m : Message AppliedState) → IsShaped nodes node n → (status : Status) → seat n at ≡ status
      → site_of range (delivered n from at m status) ≡ site_after nodes range start node (message_doings range n at from number m status) (site_of range n)
  message_site n at from number m s Absent is = absent_site n at from number m s is
  message_site n at from number m s (Live r) is = replica_site n at number r (Deliver from m) [] s is
  message_site n at from number m s (Removed applied) is = refl

  -- an event of the node
  pub node_site : (n : Node) (e : Event AppliedState) (taken : List Item) → IsShaped nodes node n
      → site_of range (step n e taken).node ≡ site_after nodes range start node (node_doings range n e taken) (site_of range n)
  node_site n (events.Admit at id request) taken s =
      seat_site (with_request n request) at (Admit id request) [] (record { number = s.number; of = s.of; eight = s.eight }) (seat n at) refl
  node_site n (events.Ask at) taken s = seat_site n at Ask [] s (seat n at) refl
  node_site n (events.Transfer at to) taken s = seat_site n at (Transfer to) [] s (seat n at) refl
  node_site n (events.Collect at) taken s = seat_site n at Collect taken s (seat n at) refl
  node_site n (events.Flush at) taken s = seat_site n at Flush [] s (seat n at) refl
  node_site n events.Tick taken s = all_site Tick range_numbers (record n { ticks = n.ticks + 1 }) (record { number = s.number; of = s.of; eight = s.eight })
  node_site n (events.Deliver from at number m) taken s = message_site n at from number m s (seat n at) refl
  node_site n (events.Apply at) taken s = seat_site n at Apply [] s (seat n at) refl
  node_site n (events.Cut at) taken s = seat_site n at Cut [] s (seat n at) refl
  node_site n (events.Remove at) taken s = seat_site n at Remove [] s (seat n at) refl
  node_site n (events.Peek at key) taken s = seat_site n at (Peek key) [] s (seat n at) refl
  node_site n events.Restart taken s = all_site Restart range_numbers n s
  node_site n events.Round taken s = refl
