-- Attempts that are asked: a client's next command, and the attempt behind one that was refused.
use Rattle.std.proofs.Common.{◌≡◌, ◌⊎◌, inl, inr, ⊎_elim, ℕ, ◌+◌, ◌<◌, ◌≤◌, Bool, true, false, Option, None, Some, List, [], length, Ok, refl, sym, ap, subst, ◌∙◌, arith, eqb-true}
use Rattle.std.specs.Prelude.{slice_get, ◌==◌, ◌&&◌}
use Rattle.std.proofs.lemmas.Bool.{and_parts}
use Rattle.rp_base.specs.ClientCounts.{count_of}
use Rattle.rp_base.specs.declared.ids.CmdId.{CmdId}
use Rattle.rp_base.proofs.IdLaws.{id_cases, apart_not_same}
use Rattle.rp_request.specs.Attempts.{previous}
use Rattle.rp_request.specs.Fits.{FitsRequest}
use Rattle.rp_request.specs.declared.requests.Request.{Request}
use Rattle.rp_script.specs.Bounds.{IsNode, IsCommand}
use Rattle.rp_events.specs.declared.journals.JournalEntry.{JournalEntry}
use Rattle.rp_events.specs.declared.node_events.Event.TheVariants as node_events
use Rattle.rp_events.specs.declared.world_events.WorldEvent.TheVariants as events
use Rattle.rp_events.specs.Nodes.{Node}
use Rattle.rp_events.specs.NodeEvents.{step}
use Rattle.rp_events.specs.Worlds as worlds
use Rattle.rp_events.specs.Worlds.{Happening, Scene, node_of, with_node, happens, was_asked}
use Rattle.rp_events.specs.Lawful.{Lawful, IsLater}
use Rattle.rp_events.specs.Buffered.{Buffered, buffered_step}
use Rattle.rp_journals.proofs.Lists.{get_end}
use Rattle.rp_journals.proofs.Growing.{with_same}
use Rattle.rp_journals.proofs.Reading.{entry_of, step_journal}
use Rattle.rp_journals.proofs.Admitting.{asked_here}
use Rattle.rp_journals.proofs.Asking.{Admitting, true_not_false}
use Rattle.rp_journals.proofs.Elsewhere.{lawful_node, happens_is}
use Rattle.rp_book.specs.declared.bookings.Booked.{Booked}
use Rattle.rp_book.specs.Books.{Book, booked, booking_of, last_of}
use Rattle.rp_lines.specs.Players.{Player, weight, most_events, most_weight, with_booking}
use Rattle.rp_lines.specs.Commands.{asks}
use Rattle.rp_lawful.specs.Sound.{Sound, IsSoundBooking, IsAskedAs, FollowsRefused, HasLatest}
use Rattle.rp_lawful.specs.Comings.{scene_at}
use Rattle.rp_lawful.specs.Onward.{IsBookedAs}
use Rattle.rp_journals.proofs.Itself.{equal_itself}
use Rattle.rp_lawful.proofs.Books.{booked_here, booked_other, booked_apart, latest_new, latest_other}
use Rattle.rp_lawful.proofs.Coming.{event_leaves}
use Rattle.rp_lawful.proofs.Events.{Counted, counted_is, after_event, BookGrows, booking_on, booked_itself, handling_on, NodesOn, nodes_on}

-- an attempt that may be asked next, where each client has sent so many commands then
pub record IsNext (k : ℕ) (p : Player) (sent : List ℕ) (id : CmdId) (b : Booked) : Type 0 where
  pub new : booking_of id p.book ≡ None
  pub clients : length sent ≡ 64
  pub counts : (client : ℕ) → count_of sent client ≤ k + 1
  pub grown : (client : ℕ) → count_of p.sent client ≤ count_of sent client
  pub commands : (client seq : ℕ) → IsCommand sent client seq → IsCommand p.sent client seq ⊎ ((id.client ≡ client) × (id.seq ≡ seq))
  pub command : IsCommand sent id.client id.seq
  pub attempt : (1 ≤ id.attempt) × (id.attempt ≤ k + 1)
  pub last : (other : CmdId) (x : Booked) → booking_of other p.book ≡ Some x → other.client ≡ id.client → other.seq ≡ id.seq → other.attempt ≤ id.attempt
  pub node : IsNode (length p.world.nodes) b.node
  pub range : b.range ≤ 7
  pub request : FitsRequest b.request
  pub follows : 1 < id.attempt → FollowsRefused p id b
  pub lawful : Lawful p.world.nodes (scene_at b.node (worlds.Admit b.range id b.request))

-- what it leaves
pub record AskLeads (k : ℕ) (p : Player) (sent : List ℕ) (id : CmdId) (b : Booked) (q : Player) : Type 0 where
  pub sound : Sound (k + 1) q
  pub later : IsLater p.world.nodes q.world.nodes
  pub size : length q.world.nodes ≡ length p.world.nodes
  pub sent_is : q.sent ≡ sent
  pub here : IsBookedAs q id b
  pub booked : (other : CmdId) (x : Booked) → IsBookedAs p other x → IsBookedAs q other x

no_less : (n : ℕ) → n ≤ n
no_less n = omega arith

two_parts : (a b c d : ℕ) → a ≡ b → c ≡ d → (a == b && c == d) ≡ true
two_parts a b c d e f = ap (λ v. v && c == d) (sym (ap (λ z. a == z) e) ∙ equal_itself a) ∙ sym (ap (λ z. c == z) f) ∙ equal_itself c

-- two commands are one or are not
command_cases : (id : CmdId) (client seq : ℕ) → ((id.client ≡ client) × (id.seq ≡ seq)) ⊎ ((id.client == client && id.seq == seq) ≡ false)
command_cases id client seq = go (id.client == client && id.seq == seq) refl where
  go : (v : Bool) → (id.client == client && id.seq == seq) ≡ v → ((id.client ≡ client) × (id.seq ≡ seq)) ⊎ ((id.client == client && id.seq == seq) ≡ false)
  go true e = let h = and_parts (id.client == client) (id.seq == seq) e in inl (eqb-true id.client client h.0, eqb-true id.seq seq h.1)
  go false e = inr e

module _ (k : ℕ) (p : Player) (s : Sound k p) (sent : List ℕ) (id : CmdId) (b : Booked) (next : IsNext k p sent id b) where
  abbrev what : Happening
  what = worlds.Admit b.range id b.request

  abbrev scene : Scene
  scene = scene_at b.node what

  -- the new world has it as it was asked
  asked_so : (c : Buffered) → c.nodes ≡ happens p.world.nodes scene → IsAskedAs c.nodes id b
  asked_so c is =
      let n = lawful_node p.world.nodes scene next.lawful.lawful in
      let new : Node = (step n.0 (node_events.Admit b.range id b.request) []).node in
      let now : happens p.world.nodes scene ≡ with_node p.world.nodes b.node new = happens_is p.world.nodes scene n.0 (node_events.Admit b.range id b.request) n.1 refl in
      let e : JournalEntry = entry_of n.0 (node_events.Admit b.range id b.request) [] in
      record {
        n = new;
        has = subst (λ z. node_of z b.node ≡ Some new) (sym (is ∙ now)) (with_same p.world.nodes b.node n.0 new n.1);
        place = length (n.0).journal;
        at = length (n.0).requests;
        answer = e.answer;
        here = ap (λ l. slice_get l (length (n.0).journal)) (step_journal n.0 (node_events.Admit b.range id b.request) []) ∙ get_end (n.0).journal e [];
        asked = asked_here n.0 b.range id b.request [];
      }

  module _ (c : Buffered) (o : NodesOn p scene c) (asked : IsAskedAs c.nodes id b) (left : p.events ≡ most_events → ⊥) (weighs : weight c.nodes ≤ most_weight) where
    abbrev q : Player
    q = after_event c (with_booking id b (record p { sent = sent }))

    some_booked : (x y : Booked) → ◌≡◌ {A = Option Booked} (Some x) (Some y) → x ≡ y
    some_booked x y e = cc

    missing : (other : CmdId) (x : Booked) → booking_of other p.book ≡ Some x → other ≡ id → ⊥
    missing other x is same = absurd (clash (booking_of id p.book) x (subst (λ z. booking_of z p.book ≡ Some x) same is) next.new) where
      clash : (m : Option Booked) (y : Booked) → m ≡ Some y → m ≡ None → ⊥
      clash m y e f = absurd cc

    still : (other : CmdId) (x : Booked) → IsBookedAs p other x → IsBookedAs q other x
    still other x is = record { draw = is.draw; is = booked_other id other b p.book (apart_not_same other id (missing other _ is.is)) ∙ is.is }

    before : (other : CmdId) (x : Booked) → booking_of other (booked id b p.book) ≡ Some x → ((other ≡ id) × (x ≡ b)) ⊎ (booking_of other p.book ≡ Some x)
    before other x is = ⊎_elim
        (λ (same : other ≡ id). inl (same, some_booked x b (sym (subst (λ z. booking_of z (booked id b p.book) ≡ Some x) same is) ∙ booked_here id b p.book)))
        (λ (ne : other ≡ id → ⊥). inr (sym (booked_other id other b p.book (apart_not_same other id ne)) ∙ is))
        (id_cases other id)

    grows : BookGrows p q
    grows = record { grows = o.grows; refused = o.refused; sent = next.grown; booked = still }

    mine : IsSoundBooking (k + 1) q id b
    mine = record {
      command = next.command;
      attempt = next.attempt;
      node = let low = next.node.0 in let high = next.node.1 in let size = o.size in (low, omega (arith, high, size));
      range = next.range;
      request = next.request;
      asked = asked;
      follows = λ later.
          let f : FollowsRefused p id b = next.follows later in
          let x : IsBookedAs q (previous id) f.before = still (previous id) f.before (booked_itself p (previous id) f.before f.is) in
          record { before = record f.before { draw = x.draw }; is = x.is; same = f.same; refused = o.refused (previous id) f.refused };
    }

    latest : (client seq : ℕ) → IsCommand sent client seq → HasLatest q client seq
    latest client seq c = ⊎_elim here elsewhere (command_cases id client seq) where
      here : (id.client ≡ client) × (id.seq ≡ seq) → HasLatest q client seq
      here same = record {
        entry = (id, b);
        is = latest_new id b p.book next.new client seq (two_parts id.client client id.seq seq same.0 same.1);
        latest = record {
          has = booked_here id b p.book;
          client_is = same.0;
          seq_is = same.1;
          last = λ other x is of at. ⊎_elim
              (λ (y : (other ≡ id) × (x ≡ b)). subst (λ (i : CmdId). i.attempt ≤ id.attempt) (sym y.0) (no_less id.attempt))
              (λ (y : booking_of other p.book ≡ Some x). next.last other x y (of ∙ sym same.0) (at ∙ sym same.1))
              (before other x is);
        };
      }

      elsewhere : (id.client == client && id.seq == seq) ≡ false → HasLatest q client seq
      elsewhere ne = ⊎_elim known (λ (same : (id.client ≡ client) × (id.seq ≡ seq)). absurd (true_not_false _ (two_parts id.client client id.seq seq same.0 same.1) ne)) (next.commands client seq c) where
        known : IsCommand p.sent client seq → HasLatest q client seq
        known was =
            let x = s.book.latest client seq was in
            record {
              entry = x.entry;
              is = ap (λ (l : Book). last_of l) (latest_other id b client seq p.book ne) ∙ x.is;
              latest = record {
                has = booked_other id x.entry.0 b p.book (apart_not_same x.entry.0 id (missing x.entry.0 x.entry.1 x.latest.has)) ∙ x.latest.has;
                client_is = x.latest.client_is;
                seq_is = x.latest.seq_is;
                last = λ other y is of at. ⊎_elim
                    (λ (z : (other ≡ id) × (y ≡ b)).
                    absurd (true_not_false _ (two_parts id.client client id.seq seq (ap (λ (i : CmdId). i.client) (sym z.0) ∙ of) (ap (λ (i : CmdId). i.seq) (sym z.0) ∙ at)) ne))
                    (λ (z : booking_of other p.book ≡ Some y). x.latest.last other y z of at)
                    (before other y is);
              };
            }

    pub ask_leads : AskLeads k p sent id b q
    ask_leads = record {
      sound = record {
        reached = o.reached;
        journals = o.events;
        events = let few = s.events in omega (arith, few, left);
        weight_is = weighs;
        clients = next.clients;
        counts = next.counts;
        book = record {
          apart = booked_apart id b p.book s.book.apart;
          booked = λ other x is. ⊎_elim
              (λ (y : (other ≡ id) × (x ≡ b)). subst (λ z. IsSoundBooking (k + 1) q z x) (sym y.0) (subst (IsSoundBooking (k + 1) q id) (sym y.1) mine))
              (λ (y : booking_of other p.book ≡ Some x). booking_on k (k + 1) p q (omega arith) grows other x (s.book.booked other x y))
              (before other x is);
          asked = λ other is. ⊎_elim
              (λ (was : was_asked p.world.nodes other ≡ true).
              let x = s.book.asked other was in
              let y = still other x.0 (booked_itself p other x.0 x.1) in
              (record (x.0) { draw = y.draw }, y.is))
              (λ (a : Admitting other what). (b, subst (λ z. booking_of z (booked id b p.book) ≡ Some b) (same_attempt other a) (booked_here id b p.book)))
              (o.asked other is);
          latest = latest;
        };
        buffers = o.buffers;
        handling = let h = handling_on p c.nodes o.grows s.handling c refl (p.events + 1) in record { many = h.many; within = h.within };
        loss = s.loss;
      };
      later = o.later;
      size = o.size;
      sent_is = refl;
      here = record { draw = b.draw; is = booked_here id b p.book };
      booked = still;
    } where
      id_in : (x y : CmdId) (r t : ℕ) (u v : Request) → worlds.Admit r x u ≡ worlds.Admit t y v → x ≡ y
      id_in x y r t u v e = cc

      same_attempt : (other : CmdId) → Admitting other what → id ≡ other
      same_attempt other a = id_in id other b.range a.range b.request a.request a.is

  -- so does asking it
  pub asks_lead : (q : Player) → asks id b (record p { sent = sent }) ≡ Ok q → AskLeads k p sent id b q
  asks_lead q ok =
      let c : Counted (events.Admit b.node b.range id b.request) (with_booking id b (record p { sent = sent })) q =
      counted_is (events.Admit b.node b.range id b.request) (with_booking id b (record p { sent = sent })) q ok in
      let w : Buffered = buffered_step p.world (events.Admit b.node b.range id b.request) in
      let leaves = event_leaves p.world (events.Admit b.node b.range id b.request) what refl next.lawful.lawful in
      let o : NodesOn p scene w = nodes_on k p s scene next.lawful w leaves in
      subst (AskLeads k p sent id b) (sym c.is) (ask_leads w o (asked_so w leaves.nodes_are) c.left c.weighs)
