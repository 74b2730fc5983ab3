-- A client's tries came by the rounds of their node, and what its desk may admit is its next try.
use Rattle.std.proofs.Common.{◌≡◌, ℕ, ◌<◌, ◌≤◌, false, cond, Option, Some, List, [], ◌∷◌, take, sym, ap, subst, ◌∙◌, arith}
use Rattle.std.specs.List.{AllByRecursion}
use Rattle.std.proofs.lemmas.List.Elements.{All-from_recursion, All-weaker}
use Rattle.std.proofs.lemmas.List.Sums.{sum_by-take-le}
use Rattle.rp_base.specs.declared.ids.CmdId.{CmdId}
use Rattle.rp_request.specs.Fits.{FitsId, FitsRequest}
use Rattle.rp_request.specs.declared.requests.Request.{Request}
use Rattle.rp_events.specs.declared.journals.JournalEntry.{JournalEntry}
use Rattle.rp_events.specs.Lawful.{IsReached}
use Rattle.rp_events.specs.Nodes.{Node, is_full}
use Rattle.rp_events.specs.Worlds.{World, Admit, node_of}
use Rattle.rp_journals.proofs.Growing.{one_node}
use Rattle.rp_clients.specs.Desks.{Standing, IsDeskOf, CameBy, MayAdmit}
use Rattle.rp_clients.specs.Tries.{Try, MayCome, id_of, next_id}
use Rattle.rp_race.specs.declared.rules.RaceRules.{RaceRules}
use Rattle.rp_race.specs.Gives.{Tried, AllMayTry}
use Rattle.rp_race.specs.Owed.{is_round, rounds_in}
use Rattle.rp_race.specs.Played.{requests_of, HasRoundSince, WasTried, AllTried, IsTriesOf}
use Rattle.rp_race.proofs.Counted.{all_counted}
use Rattle.rp_race.proofs.Nexts.{NextIs, Command, Again, next_is}

rounds_taken : (n : Node) (place : ℕ) → rounds_in (take place n.journal) ≤ rounds_in n.journal
rounds_taken n place = sum_by-take-le (λ (e : JournalEntry). cond (is_round e.event) 1 0) n.journal place

pub came_by : (rules : RaceRules) (nodes : ℕ) (w : World) → IsReached nodes w → (client : ℕ) (tries : List Try) → IsTriesOf rules w client tries → (node : ℕ) (n : Node) → node_of w node ≡ Some n → CameBy node n.rounds tries
came_by rules nodes w reached client tries h node n has = All-from_recursion (λ (t : Try). t.node ≡ node → t.rounds ≤ n.rounds) tries (go tries h.each) where
  by : (t : Try) (request : Request) → WasTried w t request → t.node ≡ node → t.rounds ≤ n.rounds
  by t request s at =
      let n_is : s.n ≡ n = one_node w node s.n n (subst (λ z. node_of w z ≡ Some s.n) at s.has) has in
      let few : rounds_in (take s.place n.journal) ≤ rounds_in n.journal = rounds_taken n s.place in
      let was : rounds_in (take s.place n.journal) ≡ t.rounds = subst (λ (z : Node). rounds_in (take s.place z.journal) ≡ t.rounds) n_is s.rounds in
      let now : n.rounds ≡ rounds_in n.journal = (all_counted nodes w reached node n has).rounds in
      omega (arith, few, was, now)

  go : (ts : List Try) → AllTried rules w client ts → AllByRecursion (λ (t : Try). t.node ≡ node → t.rounds ≤ n.rounds) ts
  go [] all = tt
  go (t ∷ older) all = (by t all.0.request all.0.tried, go older all.1)

some_id : (a b : CmdId) → ◌≡◌ {A = Option CmdId} (Some a) (Some b) → a ≡ b
some_id a b e = cc

-- the next id is the client's
pub own_next : (rules : RaceRules) (w : World) (client : ℕ) (tries : List Try) → AllTried rules w client tries → (new : CmdId) → next_id client tries ≡ Some new → new.client ≡ client
own_next rules w client [] h new e = ap (λ (i : CmdId). i.client) (sym (some_id (id_of client 1 1) new e))
own_next rules w client (t ∷ older) h new e = go (own_next rules w client older h.1 t.id h.0.may.next) (next_is t.id t.end new e) where
  go : t.id.client ≡ client → NextIs t.id t.end new → new.client ≡ client
  go before (Command is) = ap (λ (i : CmdId). i.client) (sym is) ∙ before
  go before (Again why ended is) = ap (λ (i : CmdId). i.client) (sym is) ∙ before

module _ (rules : RaceRules) (nodes : ℕ) (w : World) (client capacity : ℕ) (s : Standing) (desk : IsDeskOf client nodes (requests_of rules client) capacity s) (h : IsTriesOf rules w client s.tries) where
  may_come : (tries : Tried) → tries client ≡ s.tries → (node range : ℕ) (id : CmdId) (request : Request) → MayCome s.client s.nodes s.requests s.tries node range id request
      → MayCome client nodes (requests_of rules client) (tries client) node range id request
  may_come tries same node range id request m =
      subst (λ ts. MayCome client nodes (requests_of rules client) ts node range id request) (sym same)
      (subst (λ rs. MayCome client nodes rs s.tries node range id request) desk.requests_are
      (subst (λ k. MayCome client k s.requests s.tries node range id request) desk.nodes_are
      (subst (λ c. MayCome c s.nodes s.requests s.tries node range id request) desk.client_is m)))

  pub own_id : (node range : ℕ) (id : CmdId) (request : Request) → MayAdmit node range id request s → id.client ≡ client
  own_id node range id request m = own_next rules w client s.tries h.each id (subst (λ c. next_id c s.tries ≡ Some id) desk.client_is m.may.next)

  pub may_try : (tries : Tried) → tries client ≡ s.tries → (node range : ℕ) (id : CmdId) (request : Request) → MayAdmit node range id request s → FitsId id → FitsRequest request → (n : Node) → s.told node ≤ n.rounds → is_full n ≡ false
      → AllMayTry rules nodes node n tries (Admit range id request ∷ [])
  may_try tries same node range id request m id_fits request_fits n told room = (
    record {
      may = subst (λ c. MayCome c nodes (requests_of rules c) (tries c) node range id request) (sym own) (may_come tries same node range id request m.may);
      since = subst (λ ts. HasRoundSince node n.rounds id ts) (sym (ap tries own ∙ same))
          (All-weaker (λ (t : Try). t.id.seq ≡ id.seq → t.node ≡ node → t.rounds < s.told node) (λ (t : Try). t.id.seq ≡ id.seq → t.node ≡ node → t.rounds < n.rounds)
          (λ t was seq at. let less = was seq at in omega (arith, less, told)) s.tries m.gone_on);
      id_fits = id_fits;
      request_fits = request_fits;
      room = room;
    },
    tt,
  )
    where
      own : id.client ≡ client
      own = own_id node range id request m
