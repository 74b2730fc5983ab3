-- What a scene changes of the nodes; and that what is kept as a record is kept.
use Rattle.std.proofs.Common.{◌≡◌, ℕ, zero, suc, ◌<◌, false, ◌⊎◌, inl, inr, ⊎_elim, Option, None, Some, List, [], ◌∷◌, ◌++◌, length, refl, sym, ap, subst, ◌∙◌, arith}
use Rattle.std.proofs.lemmas.Option.{none-some}
use Rattle.std.specs.Prelude.{Contains, slice_get, slice_index_or, slice_set, not, ◌&&◌, IsTrue}
use Rattle.std.specs.Option.{option_map, option_map_or}
use Rattle.std.proofs.lemmas.Bool.{cases_eq}
use Rattle.std.proofs.lemmas.List.Elements.{Contains-append_cases, Contains-append_left, Contains-append_right}
use Rattle.std.proofs.lemmas.List.{set-get_or}
use Rattle.std.proofs.lemmas.Option.{slice_get_within, get_or_from_slice_get}
use Rattle.rp_request.specs.Applied.{AppliedState, record_of}
use Rattle.rp_request.specs.History.{Piece, History, with_record, none_after, reset_to}
use Rattle.rp_request.specs.History as history
use Rattle.rp_request.specs.declared.commands.Payload.{Payload}
use Rattle.rp_request.specs.declared.items.Record.{Record}
use Rattle.rp_events.specs.declared.parcels.Parcel.{Parcel}
use Rattle.rp_events.specs.declared.node_events.Event.{Event}
use Rattle.rp_events.specs.declared.node_events.Event.TheVariants as events
use Rattle.rp_events.specs.Nodes.{Node, Status, seat, parcel_of, is_full}
use Rattle.rp_events.specs.NodeEvents.{step}
use Rattle.rp_events.specs.Worlds as worlds
use Rattle.rp_events.specs.Worlds.{World, Scene, Happening, node_of, with_node, sent_by, delivery, event_of, taken_in, after_step, happens_at, happens}
use Rattle.rp_events.specs.Lawful.{is_allowed, is_lawful}
use Rattle.rp_events.specs.Lists.{history_in, HasApplied, StandsIn, Keeps}
use Rattle.rp_journals.proofs.Growing.{with_same, with_other}
use Rattle.rp_journals.proofs.Lists.{get_front}
use Rattle.rp_seats.proofs.Shaped.{node_after}
use Rattle.rp_promise.proofs.Turned.{at_seat, WasSent, Became, kept, goes, jumps, begins, TurnedTo, Brings, node_turned}
use Rattle.rp_promise.proofs.Somes.{some_is}

-- a list with one element more
pub get_push : {A : Type 0} (xs : List A) (y : A) (i : ℕ) (x : A) → slice_get (xs ++ y ∷ []) i ≡ Some x → (slice_get xs i ≡ Some x) ⊎ ((i ≡ length xs) × (x ≡ y))
get_push {A} [] y zero x e = inr (refl, sym (some_is y x e))
get_push [] y (suc i) x e = inl e
get_push (z ∷ xs) y zero x e = inl e
get_push {A} (z ∷ xs) y (suc i) x e = ⊎_elim (λ (old : slice_get xs i ≡ Some x). inl old) (λ (new : (i ≡ length xs) × (x ≡ y)). inr (ap suc new.0, new.1)) (get_push xs y i x e)

unchanged : (w : World) (node : ℕ) (n : Node) → node_of w node ≡ Some n → with_node w node n ≡ w
unchanged w zero n e = refl
unchanged w (suc place) n e = ap (slice_set w place) (sym (get_or_from_slice_get w place n n e)) ∙ set-get_or w place n

-- a node of the world behind a scene: the one that changed, or one from before
pub node_now : (w : World) (node : ℕ) (new : Node) (other : ℕ) (m : Node) → node_of (with_node w node new) other ≡ Some m → ((other ≡ node) × (m ≡ new)) ⊎ (node_of w other ≡ Some m)
node_now w node new = node_after (λ other m. ((other ≡ node) × (m ≡ new)) ⊎ (node_of w other ≡ Some m)) w node new (inl (refl, refl)) (λ other m e. inr e)

-- what a scene changes: one node, by one turn
pub record SceneTurned (w : World) (x : Scene) : Type 0 where
  pub n : Node
  pub has : node_of w x.node ≡ Some n
  pub new : Node
  pub turned : TurnedTo w n new
  pub after : happens w x ≡ with_node w x.node new

-- a message of a sent list was sent
was_sent : (w : World) (from number : ℕ) (p : Parcel AppliedState) → parcel_of (sent_by w from) number ≡ Some p → WasSent w p.range p.message
was_sent w from number p = go (node_of w from) refl number where
  go : (o : Option Node) → node_of w from ≡ o → (k : ℕ) → parcel_of (option_map_or (λ (n : Node). n.sent) o []) k ≡ Some p → WasSent w p.range p.message
  go o is zero e = absurd cc
  go None is (suc k) e = absurd cc
  go (Some n) is (suc k) e = record {
    from = from;
    n = n;
    has = is;
    parcel = p;
    among = (k, slice_get_within n.sent k p e, get_or_from_slice_get n.sent k p p e);
    own = refl;
    is = refl;
  }

parcel_brings : (w : World) (from number : ℕ) (o : Option (Parcel AppliedState)) → parcel_of (sent_by w from) number ≡ o → (e : Event AppliedState) → option_map (delivery from number) o ≡ Some e → Brings w e
parcel_brings w from number None at e is = absurd cc
parcel_brings w from number (Some p) at e is = subst (Brings w) (some_is (delivery from number p) e is) (was_sent w from number p at)

brings : (w : World) (what : Happening) (e : Event AppliedState) → event_of w what ≡ Some e → Brings w e
brings w (worlds.Admit at id request) e is = subst (Brings w) (some_is (events.Admit at id request) e is) tt
brings w (worlds.Ask at) e is = subst (Brings w) (some_is (events.Ask at) e is) tt
brings w (worlds.Transfer at to) e is = subst (Brings w) (some_is (events.Transfer at to) e is) tt
brings w (worlds.Collect at taken) e is = subst (Brings w) (some_is (events.Collect at) e is) tt
brings w (worlds.Flush at) e is = subst (Brings w) (some_is (events.Flush at) e is) tt
brings w worlds.Tick e is = subst (Brings w) (some_is events.Tick e is) tt
brings w (worlds.Deliver from number) e is = parcel_brings w from number (parcel_of (sent_by w from) number) refl e is
brings w (worlds.Apply at) e is = subst (Brings w) (some_is (events.Apply at) e is) tt
brings w (worlds.Cut at) e is = subst (Brings w) (some_is (events.Cut at) e is) tt
brings w (worlds.Remove at) e is = subst (Brings w) (some_is (events.Remove at) e is) tt
brings w (worlds.Peek at key) e is = subst (Brings w) (some_is (events.Peek at key) e is) tt
brings w worlds.Restart e is = subst (Brings w) (some_is events.Restart e is) tt
brings w worlds.Round e is = subst (Brings w) (some_is events.Round e is) tt

same_turned : (w : World) (n : Node) → TurnedTo w n n
same_turned w n = record { seats_are = λ range. kept refl; sent_are = λ p c. inl c; outcomes_are = λ e c. inl c }

pub scene_turned : (w : World) (x : Scene) → IsTrue (is_lawful w x) → SceneTurned w x
scene_turned w x lawful = by_node (node_of w x.node) refl lawful refl where
  by_event : (n : Node) → node_of w x.node ≡ Some n → (o : Option (Event AppliedState)) → event_of w x.what ≡ o → happens w x ≡ option_map_or (after_step w x.node n (taken_in x.what)) o w → SceneTurned w x
  by_event n has None is e = record { n = n; has = has; new = n; turned = same_turned w n; after = e ∙ sym (unchanged w x.node n has) }
  by_event n has (Some event) is e = record {
    n = n;
    has = has;
    new = (step n event (taken_in x.what)).node;
    turned = node_turned w n event (taken_in x.what) (brings w x.what event is);
    after = e;
  }

  by_node : (o : Option Node) → node_of w x.node ≡ o → IsTrue (option_map_or (λ n. not (is_full n) && is_allowed w x.node x.what) o false) → happens w x ≡ option_map_or (happens_at w x) o w → SceneTurned w x
  by_node None has lawful' e = absurd cc
  by_node (Some n) has lawful' e = by_event n has (event_of w x.what) refl e

-- what one history keeps as a record, the other does
abbrev pub Pieces : History → List Piece
Pieces past = past.earlier ++ past.records ∷ []

abbrev pub KeepsAll : History → History → Type 0
KeepsAll old new = (piece : Piece) (index : ℕ) (r : Record) → Contains (Pieces old) piece → StandsIn piece index r
    → (other : Piece) × Contains (Pieces new) other × StandsIn other index r

pub one_piece : (piece other : Piece) → Contains (piece ∷ []) other → other ≡ piece
one_piece piece other c = go c.0 c.1 c.2 where
  go : (k : ℕ) → k < length (piece ∷ []) → slice_index_or (piece ∷ []) k other ≡ other → other ≡ piece
  go zero lt e = sym e
  go (suc k) lt e = absurd (omega (arith, lt))

pub applied_keeps : (past : History) (p : Payload) → KeepsAll past (history.applied past p)
applied_keeps past p piece index r among stands =
    let rec : Record = record_of past.state p in
    ⊎_elim
    (λ (old : Contains past.earlier piece). (piece, Contains-append_left past.earlier (with_record past.records rec ∷ []) piece old, stands))
    (λ (last : Contains (past.records ∷ []) piece). (
      with_record past.records rec,
      Contains-append_right past.earlier (with_record past.records rec ∷ []) (with_record past.records rec) (0, omega arith, refl),
      further rec (subst (λ z. StandsIn z index r) (one_piece past.records piece last) stands),
    ))
    (Contains-append_cases past.earlier (past.records ∷ []) piece among)
  where
    further : (rec : Record) → StandsIn past.records index r → StandsIn (with_record past.records rec) index r
    further rec s = record { place = s.place; here = get_front past.records.list (rec ∷ []) s.place r s.here; at = s.at }

pub reset_keeps : (past : History) (s : AppliedState) (to : ℕ) → KeepsAll past (reset_to past s to)
reset_keeps past s to piece index r among stands = (piece, Contains-append_left (Pieces past) (none_after to ∷ []) piece among, stands)

-- what was applied in a seat, and kept, is kept behind a turn of the node
became_keeps : (w : World) (seats after : List Status) (range : ℕ) → Became w seats after range → (past : History) → history_in (at_seat seats range) ≡ Some past
    → (now : History) × (history_in (at_seat after range) ≡ Some now) × KeepsAll past now
became_keeps w seats after range (kept e) past is = (past, e ∙ is, λ piece index r among stands. (piece, among, stands))
became_keeps w seats after range (goes r p a) past is =
    let same : r.applied ≡ past = some_is r.applied past (sym (ap history_in a.live) ∙ is) in
    (history.applied r.applied p, a.history, subst (λ z. KeepsAll z (history.applied r.applied p)) same (applied_keeps r.applied p))
became_keeps w seats after range (jumps j) past is =
    let same : j.before.applied ≡ past = some_is j.before.applied past (sym (ap history_in j.was) ∙ is) in
    (j.replica.applied, ap history_in j.is, subst (λ z. KeepsAll z j.replica.applied) same (subst (λ z. KeepsAll j.before.applied z) (sym j.history) (reset_keeps j.before.applied j.state j.index)))
became_keeps w seats after range (begins b) past is = absurd (none-some past (sym (ap history_in b.was) ∙ is))

-- so it is in the world behind a scene
pub record StillHas (w : World) (node range : ℕ) (past : History) : Type 0 where
  pub now : History
  pub applied : HasApplied w node range now
  pub keeps : KeepsAll past now

pub still_has : (w : World) (x : Scene) → SceneTurned w x → (node range : ℕ) (past : History) → HasApplied w node range past → StillHas (happens w x) node range past
still_has w x t node range past a = subst (λ z. StillHas z node range past) (sym t.after) (⊎_elim
    (λ (own : node ≡ x.node).
    let same : a.n ≡ t.n = some_is a.n t.n (sym a.has ∙ ap (node_of w) own ∙ t.has) in
    let b = became_keeps w t.n.seats t.new.seats range (t.turned.seats_are range) past (ap (λ (z : Node). history_in (seat z range)) (sym same) ∙ a.history) in
    record {
      now = b.0;
      applied = record { n = t.new; has = ap (node_of (with_node w x.node t.new)) own ∙ with_same w x.node t.n t.new t.has; history = b.1 };
      keeps = b.2;
    })
    (λ (ne : node ≡ x.node → ⊥). record {
      now = past;
      applied = record { n = a.n; has = with_other w x.node t.new node ne ∙ a.has; history = a.history };
      keeps = λ piece index r among stands. (piece, among, stands);
    })
    (cases_eq node x.node))

pub keeps_on : (w : World) (x : Scene) → SceneTurned w x → (node range index : ℕ) (r : Record) → Keeps w node range index r → Keeps (happens w x) node range index r
keeps_on w x t node range index r k =
    let s = still_has w x t node range k.history k.applied in
    let p = s.keeps k.piece index r k.among k.stands in
    record { history = s.now; applied = s.applied; piece = p.0; among = p.1; stands = p.2 }
