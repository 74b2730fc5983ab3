-- Events of a node that are lawful in a world are lawful in one in which the other nodes have gone on.
use Rattle.std.proofs.Common.{◌≡◌, ℕ, suc, Bool, true, false, ⊎_elim, Option, None, Some, List, [], ◌∷◌, refl, sym, ap, subst, ◌∙◌}
use Rattle.std.specs.Prelude.{not, ◌&&◌, ◌||◌, ◌==◌, nat_lt, nat_le, option_and_then}
use Rattle.std.specs.List.{find}
use Rattle.std.specs.Option.{option_map, option_map_or}
use Rattle.std.proofs.lemmas.Bool.{cases_eq, and_from, and_parts}
use Rattle.rp_base.specs.declared.ids.CmdId.{CmdId}
use Rattle.rp_request.specs.Applied.{AppliedState}
use Rattle.rp_request.specs.Attempts.{previous}
use Rattle.rp_request.specs.Requests.{same_request}
use Rattle.rp_request.specs.declared.outcomes.Outcome.{Outcome}
use Rattle.rp_request.specs.declared.outcomes.Outcome.TheVariants as outcomes
use Rattle.rp_request.specs.declared.requests.Request.{Request}
use Rattle.rp_events.specs.declared.journals.JournalEntry.{JournalEntry}
use Rattle.rp_events.specs.declared.journals.PastEvent.{PastEvent}
use Rattle.rp_events.specs.declared.journals.PastEvent.TheVariants as past
use Rattle.rp_events.specs.declared.node_events.Event.{Event}
use Rattle.rp_events.specs.declared.parcels.Parcel.{Parcel}
use Rattle.rp_events.specs.Nodes.{Node, is_full, parcel_of}
use Rattle.rp_events.specs.NodeEvents.{step}
use Rattle.rp_events.specs.Worlds as worlds
use Rattle.rp_events.specs.Worlds.{World, Happening, Scene, Schedule, node_of, with_node, sent_by, delivery, event_of, taken_in, happens, happens_at, after_step, run, is_admission_of, asked_at, was_asked, request_of, outcome_at, outcome_of, asked_request_at, asked_request}
use Rattle.rp_events.specs.Lawful.{is_refusal, was_refused, may_begin, is_sent_to, is_allowed, is_lawful, Lawful, AllLawful}
use Rattle.rp_journals.specs.Growth.{Grows, WorldGrows}
use Rattle.rp_journals.specs.Entries.{at_node}
use Rattle.rp_journals.specs.Asked.{AskedOnce, AskedNowhereElse, all_at}
use Rattle.rp_journals.specs.Elsewhere.{IsAhead, HappensThere}
use Rattle.rp_journals.proofs.Growing.{one_node, with_same, with_other, length_with, grows_refl}
use Rattle.rp_journals.proofs.Reading.{mapped_some}
use Rattle.rp_journals.proofs.Staying.{requests_stay, found_stays, asked_stays, outcome_stays, parcels_stay}
use Rattle.rp_journals.proofs.Asking.{once_scene, node_any, true_not_false, not_true}
use Rattle.rp_journals.proofs.Ending.{found_passes}
use Rattle.rp_journals.proofs.Telling.{found_place}
use Rattle.rp_journals.proofs.Waiting.{any_place, found_any}

some_node : (a b : Node) → ◌≡◌ {A = Option Node} (Some a) (Some b) → a ≡ b
some_node a b e = cc

-- what an attempt was told and asked at the node that was asked, in the world ahead
module _ (w other : World) (grows : WorldGrows w other) (once : AskedOnce other) where
  -- the node that was asked in the first world is the one that is found in the other
  record AskedBoth (id : CmdId) (n : Node) : Type 0 where
    now : Node
    found : find (asked_at id) other ≡ Some now
    grown : Grows n now

  asked_both : (id : CmdId) (n : Node) → find (asked_at id) w ≡ Some n → AskedBoth id n
  asked_both id n found =
      let at = found_place (asked_at id) w n found in
      let asked : asked_at id n ≡ true = found_passes (asked_at id) w n found in
      let l = grows.each (suc at.0) n at.1 in
      let asked_now : asked_at id l.now ≡ true = asked_stays n l.now l.grows id asked in
      let f = found_any (asked_at id) other at.0 l.now l.has asked_now in
      let there = found_place (asked_at id) other f.0 f.1 in
      let a = any_place (is_admission_of id) l.now.journal asked_now in
      let b = any_place (is_admission_of id) f.0.journal (found_passes (asked_at id) other f.0 f.1) in
      let same = once id (suc at.0) a.0 a.1 (record { n = l.now; has = l.has; here = a.2 }) a.3 (suc there.0) b.0 b.1 (record { n = f.0; has = there.1; here = b.2 }) b.3 in
      let is : f.0 ≡ l.now = one_node other (suc at.0) f.0 l.now (subst (λ k. node_of other k ≡ Some f.0) same.0 there.1) l.has in
      record { now = l.now; found = f.1 ∙ ap Some is; grown = l.grows }

  refusal_ended : (o : Outcome) → is_refusal o ≡ true → o ≡ outcomes.Pending → ⊥
  refusal_ended o h e = true_not_false (is_refusal o) h (ap is_refusal e)

  -- a refusal
  refused_both : (id : CmdId) → was_refused w id ≡ true → was_refused other id ≡ true
  refused_both id h = by_node (find (asked_at id) w) refl h where
    by_node : (o : Option Node) → find (asked_at id) w ≡ o → option_map_or is_refusal (option_and_then (outcome_at id) o) false ≡ true → was_refused other id ≡ true
    by_node None found h' = absurd cc
    by_node (Some n) found h' = by_outcome (outcome_at id n) refl h' where
      by_outcome : (o : Option Outcome) → outcome_at id n ≡ o → option_map_or is_refusal o false ≡ true → was_refused other id ≡ true
      by_outcome None is h'' = absurd cc
      by_outcome (Some outcome) is h'' =
          let b : AskedBoth id n = asked_both id n found in
          let now : outcome_at id b.now ≡ Some outcome = outcome_stays n b.now b.grown id outcome (refusal_ended outcome h'') is in
          ap (λ o. option_map_or is_refusal (option_and_then (outcome_at id) o) false) b.found
          ∙ ap (λ o. option_map_or is_refusal o false) now ∙ h''

  -- a request
  request_grown : (n later : Node) → Grows n later → (e : PastEvent) (request : Request) → request_of n e ≡ Some request → request_of later e ≡ Some request
  request_grown n later g (past.Admit range id place) request is = requests_stay n later g place request is
  request_grown n later g (past.Ask range) request is = absurd cc
  request_grown n later g (past.Transfer range to) request is = absurd cc
  request_grown n later g (past.Collect range taken) request is = absurd cc
  request_grown n later g (past.Flush range) request is = absurd cc
  request_grown n later g past.Tick request is = absurd cc
  request_grown n later g (past.Deliver from number) request is = absurd cc
  request_grown n later g (past.Apply range) request is = absurd cc
  request_grown n later g (past.Cut range) request is = absurd cc
  request_grown n later g (past.Remove range) request is = absurd cc
  request_grown n later g (past.Peek range key) request is = absurd cc
  request_grown n later g past.Restart request is = absurd cc
  request_grown n later g (past.Round sent) request is = absurd cc

  asked_request_both : (id : CmdId) (request : Request) → asked_request w id ≡ Some request → asked_request other id ≡ Some request
  asked_request_both id request h = by_node (find (asked_at id) w) refl h where
    by_node : (o : Option Node) → find (asked_at id) w ≡ o → option_and_then (asked_request_at id) o ≡ Some request → asked_request other id ≡ Some request
    by_node None found h' = absurd cc
    by_node (Some n) found h' = by_entry (find (is_admission_of id) n.journal) refl h' where
      by_entry : (o : Option JournalEntry) → find (is_admission_of id) n.journal ≡ o → option_and_then (λ (e : JournalEntry). request_of n e.event) o ≡ Some request → asked_request other id ≡ Some request
      by_entry None is h'' = absurd cc
      by_entry (Some e) is h'' =
          let b : AskedBoth id n = asked_both id n found in
          ap (option_and_then (asked_request_at id)) b.found
          ∙ ap (option_and_then (λ (x : JournalEntry). request_of b.now x.event)) (found_stays n b.now b.grown id e is)
          ∙ request_grown n b.now b.grown e.event request h''

  same_request_both : (id : CmdId) (request : Request) → option_map_or (same_request request) (asked_request w id) false ≡ true → option_map_or (same_request request) (asked_request other id) false ≡ true
  same_request_both id request h = go (asked_request w id) refl h where
    go : (o : Option Request) → asked_request w id ≡ o → option_map_or (same_request request) o false ≡ true → option_map_or (same_request request) (asked_request other id) false ≡ true
    go None is h' = absurd cc
    go (Some was) is h' = ap (λ o. option_map_or (same_request request) o false) (asked_request_both id was is) ∙ h'

or_keeps : (a b c : Bool) → (b ≡ true → c ≡ true) → (a || b) ≡ true → (a || c) ≡ true
or_keeps true b c keeps e = refl
or_keeps false b c keeps e = keeps e

-- an attempt that may begin in a world may in one ahead, where no other node was asked for it
begins_there : (w other : World) (node : ℕ) → IsAhead w other node → (n : Node) → node_of w node ≡ Some n → (id : CmdId) (request : Request)
    → ((k : ℕ) (m : Node) → node_of other k ≡ Some m → (k ≡ node → ⊥) → asked_at id m ≡ false) → may_begin w id request ≡ true → may_begin other id request ≡ true
begins_there w other node ahead n has id request nowhere may =
    let parts = and_parts (not (was_asked w id)) _ may in
    and_from (not (was_asked other id)) _ (not_asked (not_true (was_asked w id) parts.0))
    (or_keeps (id.attempt == 1) _ _ earlier parts.1)
  where
    none : was_asked w id ≡ false → (b : Bool) → was_asked other id ≡ b → not b ≡ true
    none unasked false e = refl
    none unasked true e =
        let k = any_place (asked_at id) other e in
        ⊎_elim
        (λ (same : suc k.0 ≡ node).
        let here : node_of w node ≡ Some k.1 = sym ahead.same ∙ subst (λ z. node_of other z ≡ Some k.1) same k.2 in
        absurd (true_not_false (was_asked w id) (node_any (asked_at id) w node k.1 here k.3) unasked))
        (λ (ne : suc k.0 ≡ node → ⊥). absurd (true_not_false (asked_at id k.1) k.3 (nowhere (suc k.0) k.1 k.2 ne)))
        (cases_eq (suc k.0) node)

    not_asked : was_asked w id ≡ false → not (was_asked other id) ≡ true
    not_asked unasked = none unasked (was_asked other id) refl

    earlier : (nat_lt 1 id.attempt && was_refused w (previous id) && option_map_or (same_request request) (asked_request w (previous id)) false) ≡ true
        → (nat_lt 1 id.attempt && was_refused other (previous id) && option_map_or (same_request request) (asked_request other (previous id)) false) ≡ true
    earlier e =
        let p = and_parts (nat_lt 1 id.attempt && was_refused w (previous id)) _ e in
        let q = and_parts (nat_lt 1 id.attempt) (was_refused w (previous id)) p.0 in
        and_from (nat_lt 1 id.attempt && was_refused other (previous id)) _
        (and_from (nat_lt 1 id.attempt) (was_refused other (previous id)) q.0 (refused_both w other ahead.grows ahead.once (previous id) q.1))
        (same_request_both w other ahead.grows ahead.once (previous id) request p.1)

-- one scene
abbrev NowhereElse : World → (node : ℕ) → Happening → Type 0
NowhereElse other node (worlds.Admit range id request) = (k : ℕ) (m : Node) → node_of other k ≡ Some m → (k ≡ node → ⊥) → asked_at id m ≡ false
NowhereElse other node _ = Unit {0}

sent_there : (w other : World) (node from number : ℕ) → WorldGrows w other → is_sent_to w node from number ≡ true → is_sent_to other node from number ≡ true
sent_there w other node from number g h = go (parcel_of (sent_by w from) number) refl h where
  go : (o : Option (Parcel AppliedState)) → parcel_of (sent_by w from) number ≡ o → option_map_or (λ (p : Parcel AppliedState). p.to == node) o false ≡ true → is_sent_to other node from number ≡ true
  go None is h' = absurd cc
  go (Some p) is h' = ap (λ o. option_map_or (λ (p : Parcel AppliedState). p.to == node) o false) (parcels_stay w other g from number p is) ∙ h'

allowed_there : (w other : World) (node : ℕ) → IsAhead w other node → (n : Node) → node_of w node ≡ Some n → (what : Happening) → NowhereElse other node what → is_allowed w node what ≡ true → is_allowed other node what ≡ true
allowed_there w other node ahead n has (worlds.Admit range id request) nowhere h = begins_there w other node ahead n has id request nowhere h
allowed_there w other node ahead n has (worlds.Ask range) nowhere h = refl
allowed_there w other node ahead n has (worlds.Transfer range to) nowhere h = ap (λ l. nat_lt 0 to && nat_le to l) ahead.grows.size ∙ h
allowed_there w other node ahead n has (worlds.Collect range taken) nowhere h = h
allowed_there w other node ahead n has (worlds.Flush range) nowhere h = refl
allowed_there w other node ahead n has worlds.Tick nowhere h = refl
allowed_there w other node ahead n has (worlds.Deliver from number) nowhere h = sent_there w other node from number ahead.grows h
allowed_there w other node ahead n has (worlds.Apply range) nowhere h = refl
allowed_there w other node ahead n has (worlds.Cut range) nowhere h = refl
allowed_there w other node ahead n has (worlds.Remove range) nowhere h = refl
allowed_there w other node ahead n has (worlds.Peek range key) nowhere h = refl
allowed_there w other node ahead n has worlds.Restart nowhere h = refl
allowed_there w other node ahead n has worlds.Round nowhere h = refl

lawful_there : (w other : World) (node : ℕ) → IsAhead w other node → (n : Node) → node_of w node ≡ Some n → (what : Happening) → NowhereElse other node what → Lawful w (at_node node what) → Lawful other (at_node node what)
lawful_there w other node ahead n has what nowhere l = record {
  lawful =
      let here : is_lawful w (at_node node what) ≡ not (is_full n) && is_allowed w node what = ap (λ o. option_map_or (λ (k : Node). not (is_full k) && is_allowed w node what) o false) has in
      let parts = and_parts (not (is_full n)) (is_allowed w node what) (sym here ∙ l.lawful) in
      ap (λ o. option_map_or (λ (k : Node). not (is_full k) && is_allowed other node what) o false) (ahead.same ∙ has)
      ∙ and_from (not (is_full n)) (is_allowed other node what) parts.0 (allowed_there w other node ahead n has what nowhere parts.1);
  widths = l.widths;
}

-- the event is the same one
event_there : (w other : World) → WorldGrows w other → (what : Happening) (e : Event AppliedState) → event_of w what ≡ Some e → event_of other what ≡ Some e
event_there w other g (worlds.Admit range id request) e is = is
event_there w other g (worlds.Ask range) e is = is
event_there w other g (worlds.Transfer range to) e is = is
event_there w other g (worlds.Collect range taken) e is = is
event_there w other g (worlds.Flush range) e is = is
event_there w other g worlds.Tick e is = is
event_there w other g (worlds.Deliver from number) e is =
    let x = mapped_some (delivery from number) (parcel_of (sent_by w from) number) e is in
    ap (option_map (delivery from number)) (parcels_stay w other g from number x.0 x.1) ∙ ap Some x.2
event_there w other g (worlds.Apply range) e is = is
event_there w other g (worlds.Cut range) e is = is
event_there w other g (worlds.Remove range) e is = is
event_there w other g (worlds.Peek range key) e is = is
event_there w other g worlds.Restart e is = is
event_there w other g worlds.Round e is = is

-- a lawful scene is an event
pub event_some : (w : World) (node : ℕ) (what : Happening) → is_allowed w node what ≡ true → (e : Event AppliedState) × (event_of w what ≡ Some e)
event_some w node (worlds.Admit range id request) h = (_, refl)
event_some w node (worlds.Ask range) h = (_, refl)
event_some w node (worlds.Transfer range to) h = (_, refl)
event_some w node (worlds.Collect range taken) h = (_, refl)
event_some w node (worlds.Flush range) h = (_, refl)
event_some w node worlds.Tick h = (_, refl)
event_some w node (worlds.Deliver from number) h = go (parcel_of (sent_by w from) number) refl h where
  go : (o : Option (Parcel AppliedState)) → parcel_of (sent_by w from) number ≡ o → option_map_or (λ (p : Parcel AppliedState). p.to == node) o false ≡ true
      → (e : Event AppliedState) × (event_of w (worlds.Deliver from number) ≡ Some e)
  go None is h' = absurd cc
  go (Some p) is h' = (delivery from number p, ap (option_map (delivery from number)) is)
event_some w node (worlds.Apply range) h = (_, refl)
event_some w node (worlds.Cut range) h = (_, refl)
event_some w node (worlds.Remove range) h = (_, refl)
event_some w node (worlds.Peek range key) h = (_, refl)
event_some w node worlds.Restart h = (_, refl)
event_some w node worlds.Round h = (_, refl)

pub happens_is : (w : World) (x : Scene) (n : Node) (e : Event AppliedState) → node_of w x.node ≡ Some n → event_of w x.what ≡ Some e → happens w x ≡ with_node w x.node (step n e (taken_in x.what)).node
happens_is w x n e has came = ap (λ o. option_map_or (happens_at w x) o w) has ∙ ap (λ o. option_map_or (after_step w x.node n (taken_in x.what)) o w) came

-- a lawful scene has its node
pub lawful_node : (w : World) (x : Scene) → is_lawful w x ≡ true → (n : Node) × (node_of w x.node ≡ Some n) × (is_allowed w x.node x.what ≡ true)
lawful_node w x l = go (node_of w x.node) refl l where
  go : (o : Option Node) → node_of w x.node ≡ o → option_map_or (λ (k : Node). not (is_full k) && is_allowed w x.node x.what) o false ≡ true → (n : Node) × (node_of w x.node ≡ Some n) × (is_allowed w x.node x.what ≡ true)
  go None has h = absurd cc
  go (Some n) has h = (n, has, (and_parts (not (is_full n)) (is_allowed w x.node x.what) h).1)

with_both : (w other : World) (node : ℕ) (n new : Node) → node_of w node ≡ Some n → node_of other node ≡ Some n → WorldGrows w other → WorldGrows (with_node w node new) (with_node other node new)
with_both w other node n new has there g = record {
  size = length_with other node new ∙ g.size ∙ sym (length_with w node new);
  each = λ k m is. ⊎_elim
      (λ (same : k ≡ node). record {
        now = new;
        has = subst (λ z. node_of (with_node other node new) z ≡ Some new) (sym same) (with_same other node n new there);
        grows = subst (λ z. Grows z new) (one_node (with_node w node new) node new m (with_same w node n new has) (subst (λ z. node_of (with_node w node new) z ≡ Some m) same is)) (grows_refl new);
      })
      (λ (ne : k ≡ node → ⊥).
      let l = g.each k m (sym (with_other w node new k ne) ∙ is) in
      record { now = l.now; has = with_other other node new k ne ∙ l.has; grows = l.grows })
      (cases_eq k node);
}

-- what one scene does there
record OneThere (w other : World) (node : ℕ) (what : Happening) : Type 0 where
  lawful : Lawful other (at_node node what)
  ahead : IsAhead (happens w (at_node node what)) (happens other (at_node node what)) node
  others : (k : ℕ) → (k ≡ node → ⊥) → node_of (happens other (at_node node what)) k ≡ node_of other k

one_there : (w other : World) (node : ℕ) → IsAhead w other node → (what : Happening) → NowhereElse other node what → Lawful w (at_node node what) → OneThere w other node what
one_there w other node ahead what nowhere l =
    let x : Scene = at_node node what in
    let f = lawful_node w x l.lawful in
    let e = event_some w node what f.2 in
    let new : Node = (step f.0 e.0 (taken_in what)).node in
    let there : node_of other node ≡ Some f.0 = ahead.same ∙ f.1 in
    let here_is : happens w x ≡ with_node w node new = happens_is w x f.0 e.0 f.1 e.1 in
    let there_is : happens other x ≡ with_node other node new = happens_is other x f.0 e.0 there (event_there w other ahead.grows what e.0 e.1) in
    let l' : Lawful other x = lawful_there w other node ahead f.0 f.1 what nowhere l in
    record {
      lawful = l';
      ahead = record {
        same = ap (λ z. node_of z node) there_is ∙ with_same other node f.0 new there ∙ sym (ap (λ z. node_of z node) here_is ∙ with_same w node f.0 new f.1);
        grows = subst (λ z. WorldGrows z (happens other x)) (sym here_is) (subst (WorldGrows (with_node w node new)) (sym there_is) (with_both w other node f.0 new f.1 there ahead.grows));
        once = once_scene other x l'.lawful ahead.once;
      };
      others = λ k ne. ap (λ z. node_of z k) there_is ∙ with_other other node new k ne;
    }

-- the conditions on the first, and on the others once it has happened
nowhere_first : (other : World) (node : ℕ) (x : Happening) (xs : List Happening) → AskedNowhereElse other node (x ∷ xs) → NowhereElse other node x × AskedNowhereElse other node xs
nowhere_first other node (worlds.Admit range id request) xs h = h
nowhere_first other node (worlds.Ask range) xs h = (tt, h)
nowhere_first other node (worlds.Transfer range to) xs h = (tt, h)
nowhere_first other node (worlds.Collect range taken) xs h = (tt, h)
nowhere_first other node (worlds.Flush range) xs h = (tt, h)
nowhere_first other node worlds.Tick xs h = (tt, h)
nowhere_first other node (worlds.Deliver from number) xs h = (tt, h)
nowhere_first other node (worlds.Apply range) xs h = (tt, h)
nowhere_first other node (worlds.Cut range) xs h = (tt, h)
nowhere_first other node (worlds.Remove range) xs h = (tt, h)
nowhere_first other node (worlds.Peek range key) xs h = (tt, h)
nowhere_first other node worlds.Restart xs h = (tt, h)
nowhere_first other node worlds.Round xs h = (tt, h)

nowhere_after : (other after : World) (node : ℕ) → ((k : ℕ) → (k ≡ node → ⊥) → node_of after k ≡ node_of other k) → (xs : List Happening) → AskedNowhereElse other node xs → AskedNowhereElse after node xs
nowhere_after other after node others [] h = tt
nowhere_after other after node others (worlds.Admit range id request ∷ xs) h = ((λ k m has ne. h.0 k m (sym (others k ne) ∙ has) ne), nowhere_after other after node others xs h.1)
nowhere_after other after node others (worlds.Ask range ∷ xs) h = nowhere_after other after node others xs h
nowhere_after other after node others (worlds.Transfer range to ∷ xs) h = nowhere_after other after node others xs h
nowhere_after other after node others (worlds.Collect range taken ∷ xs) h = nowhere_after other after node others xs h
nowhere_after other after node others (worlds.Flush range ∷ xs) h = nowhere_after other after node others xs h
nowhere_after other after node others (worlds.Tick ∷ xs) h = nowhere_after other after node others xs h
nowhere_after other after node others (worlds.Deliver from number ∷ xs) h = nowhere_after other after node others xs h
nowhere_after other after node others (worlds.Apply range ∷ xs) h = nowhere_after other after node others xs h
nowhere_after other after node others (worlds.Cut range ∷ xs) h = nowhere_after other after node others xs h
nowhere_after other after node others (worlds.Remove range ∷ xs) h = nowhere_after other after node others xs h
nowhere_after other after node others (worlds.Peek range key ∷ xs) h = nowhere_after other after node others xs h
nowhere_after other after node others (worlds.Restart ∷ xs) h = nowhere_after other after node others xs h
nowhere_after other after node others (worlds.Round ∷ xs) h = nowhere_after other after node others xs h

pub happens_there : (xs : List Happening) (w other : World) (node : ℕ) → IsAhead w other node → AskedNowhereElse other node xs → AllLawful w (all_at node xs) → HappensThere w other node xs
happens_there [] w other node ahead nowhere lawful = record { lawful = tt; same = ahead.same; others = λ k ne. refl }
happens_there (x ∷ xs) w other node ahead nowhere lawful =
    let parts = nowhere_first other node x xs nowhere in
    let one : OneThere w other node x = one_there w other node ahead x parts.0 lawful.0 in
    let more : HappensThere (happens w (at_node node x)) (happens other (at_node node x)) node xs =
    happens_there xs (happens w (at_node node x)) (happens other (at_node node x)) node one.ahead (nowhere_after other (happens other (at_node node x)) node one.others xs parts.1) lawful.1 in
    record { lawful = (one.lawful, more.lawful); same = more.same; others = λ k ne. more.others k ne ∙ one.others k ne }
