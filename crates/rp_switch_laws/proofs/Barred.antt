-- What may not be given back.
use Rattle.std.proofs.Common.{◌≡◌, ◌≢◌, ⊎_elim, ℕ, suc, ◌+◌, ◌-◌, ◌<◌, ◌≤◌, Bool, true, false, cond, ◌&&◌, ◌==◌, List, [], ◌∷◌, ◌++◌, length, refl, sym, ap, subst, ◌∙◌, arith, slice_get, Option, None, Some}
use Rattle.std.specs.List.{count_by}
use Rattle.std.proofs.lemmas.Bool.{ne_eqb, eq-eqb}
use Rattle.std.proofs.lemmas.List.{append-nil}
use mathlib.Core.Logic.{dite}
use native.Mathlib.Decide.{ℕ_discrete}
use Rattle.rp_base.specs.declared.ids.CmdId.{CmdId}
use Rattle.rp_base.proofs.Counts.{count_push}
use Rattle.rp_request.specs.declared.requests.Request.{Request}
use Rattle.rp_request.specs.declared.outcomes.Outcome.{Outcome}
use Rattle.rp_request.specs.declared.outcomes.Outcome.TheVariants.{Ambiguous}
use Rattle.rp_request.specs.declared.outcomes.Ambiguity.{Ambiguity}
use Rattle.rp_clients.specs.Tries.{Try, next_id, id_after, command_after}
use Rattle.rp_clients.specs.declared.answers.Answer.TheVariants.{Ended, Over}
use Rattle.rp_events.specs.declared.journals.JournalEntry.{JournalEntry}
use Rattle.rp_events.specs.declared.journals.PastEvent.{PastEvent}
use Rattle.rp_events.specs.declared.journals.PastEvent.TheVariants as past
use Rattle.rp_events.specs.declared.node_events.Event.TheVariants as events
use Rattle.rp_events.specs.NodeEvents.{step}
use Rattle.rp_events.specs.Nodes.{Node}
use Rattle.rp_events.specs.Worlds as worlds
use Rattle.rp_events.specs.Worlds.{World, Happening, first_world, node_of, happens, run, taken_in}
use Rattle.rp_journals.specs.Asked.{all_at}
use Rattle.rp_journals.specs.Entries.{at_node}
use Rattle.rp_journals.specs.Growth.{Grows, HasLater}
use Rattle.rp_journals.proofs.Growing.{Happened, happened, with_same, one_node, some_node, step_grows, grows_refl, grows_trans, run_grows, later_grows}
use Rattle.rp_journals.proofs.Reading.{entry_of, step_journal, first_at}
use Rattle.rp_race.specs.declared.rules.RaceRules.{RaceRules}
use Rattle.rp_race.specs.Gives.{Tried, AllMayTry, AllMayHappen, with_try, try_at, after_admission, admitted_after, after_round, kept_as, is_within_round}
use Rattle.rp_race.specs.Owed.{is_round, rounds_in, heard_from, carried}
use Rattle.rp_race.specs.Played.{is_admission_by}
use Rattle.rp_race.proofs.Ahead.{kept_is}
use Rattle.rp_race.proofs.Hearing.{heard_further}
use Rattle.rp_race.proofs.Nexts.{NextIs, Command, Again, next_is}
use Rattle.rp_race.proofs.Trying.{no_admission}
use Rattle.rp_switch.specs.declared.terms.Terms.{Terms}
use Rattle.rp_switch.specs.Gifts.{tries_known, CarriesClient, CarriesAll, IsGift, admissions, whole, broken_off, MayGive}
use Rattle.rp_switch.specs.Rules.{IsNow, IsTrueOf}
use Rattle.rp_switch.specs.Views.{Lacks, HasNode, OfClient, Knowledge, right_at, choosing, right}
use Rattle.rp_switch.proofs.Backing.{right_handed}
use Rattle.rp_switch_laws.specs.Barred.{times, is_try_of}

-- the nodes at their start have no outcome
pub none_at_first : (t : Terms) (nodes client : ℕ) (id : CmdId) (outcome : Outcome) → IsTrueOf t (first_world nodes) client (Ended id outcome) → ⊥
none_at_first t nodes client id outcome told =
    let n = told.1.1 in
    let k = told.1.2 in
    let first = first_at nodes told.1.0 n told.1.3 in
    nothing k (ap (λ (m : Node). slice_get m.outcomes k) (sym first) ∙ told.1.4)
  where
    nothing : {X : Type 0} {x : X} (k : ℕ) → slice_get [] k ≡ Some x → ⊥
    nothing k e = cc

pub of_its_client : (t : Terms) (w : World) (client : ℕ) (id : CmdId) (outcome : Outcome) → IsTrueOf t w client (Ended id outcome) → id.client ≡ client
of_its_client t w client id outcome told = told.0

pub not_early : (t : Terms) (w : World) (client : ℕ) → IsTrueOf t w client Over → (node : ℕ) (n : Node) → node_of w node ≡ Some n → 20000 ≤ n.rounds
not_early t w client told node n has = let long = told.each node n has in omega (arith, long)

-- what was seen stands in the node
grows_there : (w : World) (place : ℕ) (n now : Node) → HasLater w (suc place) n → slice_get w place ≡ Some now → Grows n now
grows_there w place n now l has = subst (Grows n) (one_node w (suc place) l.now now l.has has) l.grows

pub seen_grows : (v : Knowledge) (at : World) → IsNow v at → (place : ℕ) (before now : Node) → slice_get v.seen place ≡ Some before → slice_get at place ≡ Some now → Grows before now
seen_grows v at now place before n saw has =
    let was = now.past.each (suc place) before saw in
    grows_there at place before n ((later_grows was.before at was.later).each (suc place) before was.has) has

-- the gift, of the node as it was taken
gift_of : (v : Knowledge) (place : ℕ) (at : World) (number : ℕ) (after before : Node) → MayGive v (HasNode place at) number after → slice_get v.seen place ≡ Some before → IsGift v place at before after
gift_of v place at number after before may saw =
    subst (λ (n : Node). IsGift v place at n after) (some_node may.1.before before (sym may.1.took ∙ saw)) may.1.gift

pub its_number : (v : Knowledge) (place : ℕ) (at : World) (number : ℕ) (after : Node) → MayGive v (HasNode place at) number after → number ≡ place + 1
its_number v place at number after may = let is = may.0 in omega (arith, is)

-- admissions leave all that the node had
admitted_grows : (rules : RaceRules) (nodes node : ℕ) (xs : List Happening) (n : Node) (tries : Tried) → AllMayTry rules nodes node n tries xs → Grows n (admitted_after n xs)
admitted_grows rules nodes node [] n tries may = grows_refl n
admitted_grows rules nodes node (worlds.Admit range id request ∷ xs) n tries may =
    grows_trans n (after_admission n range id request) (admitted_after n (worlds.Admit range id request ∷ xs)) (step_grows n (events.Admit range id request) [])
    (admitted_grows rules nodes node xs (after_admission n range id request) (with_try tries (try_at node n range id request)) may.1)
admitted_grows rules nodes node (worlds.Ask range ∷ xs) n tries may = absurd may
admitted_grows rules nodes node (worlds.Transfer range to ∷ xs) n tries may = absurd may
admitted_grows rules nodes node (worlds.Collect range taken ∷ xs) n tries may = absurd may
admitted_grows rules nodes node (worlds.Flush range ∷ xs) n tries may = absurd may
admitted_grows rules nodes node (worlds.Tick ∷ xs) n tries may = absurd may
admitted_grows rules nodes node (worlds.Deliver from number ∷ xs) n tries may = absurd may
admitted_grows rules nodes node (worlds.Apply range ∷ xs) n tries may = absurd may
admitted_grows rules nodes node (worlds.Cut range ∷ xs) n tries may = absurd may
admitted_grows rules nodes node (worlds.Remove range ∷ xs) n tries may = absurd may
admitted_grows rules nodes node (worlds.Peek range key ∷ xs) n tries may = absurd may
admitted_grows rules nodes node (worlds.Restart ∷ xs) n tries may = absurd may
admitted_grows rules nodes node (worlds.Round ∷ xs) n tries may = absurd may

gift_grows : (v : Knowledge) (place : ℕ) (at : World) (before after : Node) → slice_get at place ≡ Some before → IsGift v place at before after → Grows before after
gift_grows v place at before after has (admissions g) =
    subst (Grows before) (sym g.leaves) (admitted_grows v.terms.rules v.terms.nodes (suc place) g.what before (tries_known v) g.may)
gift_grows v place at before after has (whole g) =
    subst (Grows before) (sym g.leaves)
    (grows_trans before g.inside (after_round g.inside)
    (grows_there (run at (all_at (suc place) g.what)) place before g.inside ((run_grows (all_at (suc place) g.what) at).each (suc place) before has) g.part.leaves)
    (step_grows g.inside events.Round []))
gift_grows v place at before after has (broken_off g) =
    grows_there (run at (all_at (suc place) g.what)) place before after ((run_grows (all_at (suc place) g.what) at).each (suc place) before has) g.part.leaves

pub gives_grown : (v : Knowledge) (place : ℕ) (at : World) (number : ℕ) (after : Node) → MayGive v (HasNode place at) number after
    → (before : Node) → slice_get v.seen place ≡ Some before → slice_get at place ≡ Some before → Grows before after
gives_grown v place at number after may before saw has = gift_grows v place at before after has (gift_of v place at number after before may saw)

-- entries are counted one by one
no_more : (k : ℕ) (b : Bool) → b ≡ false → k + cond b 1 0 ≡ k
no_more k true e = absurd cc
no_more k false e = omega arith

pushed : (p : PastEvent → Bool) (n m : Node) (e : JournalEntry) → m.journal ≡ n.journal ++ e ∷ [] → p e.event ≡ false → times p m ≡ times p n
pushed p n m e is not_it =
    ap (count_by (λ (x : JournalEntry). p x.event)) is ∙ count_push (λ (x : JournalEntry). p x.event) n.journal e ∙ no_more (times p n) (p e.event) not_it

-- the inside of a round has none of the events that stand outside
within : (p : PastEvent → Bool) → ((n : Node) (x : Happening) → is_within_round x ≡ true → p (kept_as n x) ≡ false)
    → (rules : RaceRules) (node : ℕ) (xs : List Happening) (v : World) (n later : Node) → AllMayHappen rules node v xs → node_of v node ≡ Some n
    → node_of (run v (all_at node xs)) node ≡ Some later → times p later ≡ times p n
within p none rules node [] v n later may has leaves = ap (times p) (one_node v node later n leaves has)
within p none rules node (x ∷ xs) v n later may has leaves = ⊎_elim
    (λ same. within p none rules node xs (happens v (at_node node x)) n later may.1 (ap (λ (u : World). node_of u node) same ∙ has) leaves)
    (λ (h : Happened v (at_node node x)). let m : Node = (step h.n h.event (taken_in x)).node in
    within p none rules node xs (happens v (at_node node x)) m later may.1 (ap (λ (u : World). node_of u node) h.is ∙ with_same v node h.n m h.has) leaves
    ∙ pushed p h.n m (entry_of h.n h.event (taken_in x)) (step_journal h.n h.event (taken_in x)) (ap p (kept_is v h.n x h.event h.came) ∙ none h.n x may.0.within)
    ∙ ap (times p) (one_node v node h.n n h.has has))
    (happened v (at_node node x))

-- nor has its end
end_pushed : (p : PastEvent → Bool) (n : Node) → p (past.Round (length n.sent)) ≡ false → times p (after_round n) ≡ times p n
end_pushed p n not_it = pushed p n (after_round n) (entry_of n events.Round []) (step_journal n events.Round []) not_it

admission_pushed : (p : PastEvent → Bool) (n : Node) (range : ℕ) (id : CmdId) (request : Request) → p (past.Admit range id (length n.requests)) ≡ false
    → times p (after_admission n range id request) ≡ times p n
admission_pushed p n range id request not_it =
    pushed p n (after_admission n range id request) (entry_of n (events.Admit range id request) []) (step_journal n (events.Admit range id request) []) not_it

-- a round, whole or broken off
module _ (p : PastEvent → Bool) (none : (n : Node) (x : Happening) → is_within_round x ≡ true → p (kept_as n x) ≡ false) (no_end : (sent : ℕ) → p (past.Round sent) ≡ false) where
  by_gift : (v : Knowledge) (place : ℕ) (at : World) (before after : Node) → slice_get at place ≡ Some before
      → ((xs : List Happening) → AllMayTry v.terms.rules v.terms.nodes (suc place) before (tries_known v) xs → CarriesAll v xs → times p (admitted_after before xs) ≡ times p before)
      → IsGift v place at before after → times p after ≡ times p before
  by_gift v place at before after has admitted (admissions g) = ap (times p) g.leaves ∙ admitted g.what g.may g.carries
  by_gift v place at before after has admitted (whole g) =
      ap (times p) g.leaves ∙ end_pushed p g.inside (no_end (length g.inside.sent))
      ∙ within p none v.terms.rules (suc place) g.what at before g.inside g.part.order has g.part.leaves
  by_gift v place at before after has admitted (broken_off g) = within p none v.terms.rules (suc place) g.what at before after g.part.order has g.part.leaves

-- a client whose right is not carried is not admitted
unadmitted : (rules : RaceRules) (nodes node : ℕ) (v : Knowledge) (client : ℕ) → (CarriesClient v client → ⊥) → (xs : List Happening) (n : Node) (tries : Tried)
    → AllMayTry rules nodes node n tries xs → CarriesAll v xs → times (is_admission_by client) (admitted_after n xs) ≡ times (is_admission_by client) n
unadmitted rules nodes node v client lacks [] n tries may carries = refl
unadmitted rules nodes node v client lacks (worlds.Admit range id request ∷ xs) n tries may carries =
    unadmitted rules nodes node v client lacks xs (after_admission n range id request) (with_try tries (try_at node n range id request)) may.1 carries.1
    ∙ admission_pushed (is_admission_by client) n range id request (ne_eqb id.client client (λ e. lacks (subst (CarriesClient v) e carries.0)))
unadmitted rules nodes node v client lacks (worlds.Ask range ∷ xs) n tries may carries = absurd may
unadmitted rules nodes node v client lacks (worlds.Transfer range to ∷ xs) n tries may carries = absurd may
unadmitted rules nodes node v client lacks (worlds.Collect range taken ∷ xs) n tries may carries = absurd may
unadmitted rules nodes node v client lacks (worlds.Flush range ∷ xs) n tries may carries = absurd may
unadmitted rules nodes node v client lacks (worlds.Tick ∷ xs) n tries may carries = absurd may
unadmitted rules nodes node v client lacks (worlds.Deliver from number ∷ xs) n tries may carries = absurd may
unadmitted rules nodes node v client lacks (worlds.Apply range ∷ xs) n tries may carries = absurd may
unadmitted rules nodes node v client lacks (worlds.Cut range ∷ xs) n tries may carries = absurd may
unadmitted rules nodes node v client lacks (worlds.Remove range ∷ xs) n tries may carries = absurd may
unadmitted rules nodes node v client lacks (worlds.Peek range key ∷ xs) n tries may carries = absurd may
unadmitted rules nodes node v client lacks (worlds.Restart ∷ xs) n tries may carries = absurd may
unadmitted rules nodes node v client lacks (worlds.Round ∷ xs) n tries may carries = absurd may

pub not_admitted : (v : Knowledge) (place : ℕ) (at : World) (number : ℕ) (after : Node) → MayGive v (HasNode place at) number after
    → (before : Node) → slice_get v.seen place ≡ Some before → slice_get at place ≡ Some before → (client : ℕ) → (CarriesClient v client → ⊥)
    → times (is_admission_by client) after ≡ times (is_admission_by client) before
not_admitted v place at number after may before saw has client lacks =
    by_gift (is_admission_by client) (λ n x inside. no_admission n client x inside) (λ sent. refl) v place at before after has
    (λ xs may_try carries. unadmitted v.terms.rules v.terms.nodes (suc place) v client lacks xs before (tries_known v) may_try carries)
    (gift_of v place at number after before may saw)

-- a command behind which the client is: its latest try was ambiguous, or is of a later one
data IsPast (seq : ℕ) : List Try → Type 0 where
  ended : (t : Try) (older : List Try) (why : Ambiguity) → t.id.seq ≡ seq → t.end ≡ Some (Ambiguous why) → IsPast seq (t ∷ older)
  gone : (t : Try) (older : List Try) → seq < t.id.seq → IsPast seq (t ∷ older)

some_id : (a b : CmdId) → ◌≡◌ {A = Option CmdId} (Some a) (Some b) → a ≡ b
some_id a b e = cc

next_later : (seq client : ℕ) (tries : List Try) (id : CmdId) → IsPast seq tries → next_id client tries ≡ Some id → seq < id.seq
next_later seq client _ id (ended t older why is end) next =
    let new : t.id.seq + 1 ≡ id.seq = ap (λ (i : CmdId). i.seq) (some_id (command_after t.id) id (ap (id_after t.id) (sym end) ∙ next)) in
    omega (arith, new, is)
next_later seq client _ id (gone t older past_it) next = go (next_is t.id t.end id next)
  where
    go : NextIs t.id t.end id → seq < id.seq
    go (Command is) = let new : t.id.seq + 1 ≡ id.seq = ap (λ (i : CmdId). i.seq) is in omega (arith, new, past_it)
    go (Again why ended_so is) = let new : t.id.seq ≡ id.seq = ap (λ (i : CmdId). i.seq) is in omega (arith, new, past_it)

and_false : (a b : Bool) → b ≡ false → (a && b) ≡ false
and_false true b e = e
and_false false b e = refl

false_and : (a b : Bool) → a ≡ false → (a && b) ≡ false
false_and true b e = absurd cc
false_and false b e = refl

-- such a command is not tried, and the client stays behind it
untried : (rules : RaceRules) (nodes node client seq : ℕ) (xs : List Happening) (n : Node) (tries : Tried) → IsPast seq (tries client)
    → AllMayTry rules nodes node n tries xs → times (is_try_of client seq) (admitted_after n xs) ≡ times (is_try_of client seq) n
untried rules nodes node client seq [] n tries over may = refl
untried rules nodes node client seq (worlds.Admit range id request ∷ xs) n tries over may = dite (ℕ_discrete client id.client)
    (λ same. let later : seq < id.seq = next_later seq id.client (tries id.client) id (subst (λ (c : ℕ). IsPast seq (tries c)) same over) may.0.may.next in
    untried rules nodes node client seq xs (after_admission n range id request) (with_try tries (try_at node n range id request))
    (subst (λ (b : Bool). IsPast seq (cond b (try_at node n range id request ∷ tries client) (tries client))) (sym (eq-eqb client id.client same))
    (gone (try_at node n range id request) (tries client) later)) may.1
    ∙ admission_pushed (is_try_of client seq) n range id request (and_false (id.client == client) (id.seq == seq) (ne_eqb id.seq seq (λ e. omega (arith, e, later)))))
    (λ away. untried rules nodes node client seq xs (after_admission n range id request) (with_try tries (try_at node n range id request))
    (subst (λ (b : Bool). IsPast seq (cond b (try_at node n range id request ∷ tries client) (tries client))) (sym (ne_eqb client id.client away)) over) may.1
    ∙ admission_pushed (is_try_of client seq) n range id request (false_and (id.client == client) (id.seq == seq) (ne_eqb id.client client (λ e. away (sym e)))))
untried rules nodes node client seq (worlds.Ask range ∷ xs) n tries over may = absurd may
untried rules nodes node client seq (worlds.Transfer range to ∷ xs) n tries over may = absurd may
untried rules nodes node client seq (worlds.Collect range taken ∷ xs) n tries over may = absurd may
untried rules nodes node client seq (worlds.Flush range ∷ xs) n tries over may = absurd may
untried rules nodes node client seq (worlds.Tick ∷ xs) n tries over may = absurd may
untried rules nodes node client seq (worlds.Deliver from number ∷ xs) n tries over may = absurd may
untried rules nodes node client seq (worlds.Apply range ∷ xs) n tries over may = absurd may
untried rules nodes node client seq (worlds.Cut range ∷ xs) n tries over may = absurd may
untried rules nodes node client seq (worlds.Remove range ∷ xs) n tries over may = absurd may
untried rules nodes node client seq (worlds.Peek range key ∷ xs) n tries over may = absurd may
untried rules nodes node client seq (worlds.Restart ∷ xs) n tries over may = absurd may
untried rules nodes node client seq (worlds.Round ∷ xs) n tries over may = absurd may

-- the inside of a round tries nothing
no_try : (client seq : ℕ) (n : Node) (x : Happening) → is_within_round x ≡ true → is_try_of client seq (kept_as n x) ≡ false
no_try client seq n (worlds.Admit range id request) e = absurd cc
no_try client seq n (worlds.Ask range) e = refl
no_try client seq n (worlds.Transfer range to) e = refl
no_try client seq n (worlds.Collect range taken) e = refl
no_try client seq n (worlds.Flush range) e = refl
no_try client seq n worlds.Tick e = refl
no_try client seq n (worlds.Deliver from number) e = refl
no_try client seq n (worlds.Apply range) e = refl
no_try client seq n (worlds.Cut range) e = refl
no_try client seq n (worlds.Remove range) e = refl
no_try client seq n (worlds.Peek range key) e = refl
no_try client seq n worlds.Restart e = refl
no_try client seq n worlds.Round e = absurd cc

pub not_again : (v : Knowledge) (place : ℕ) (at : World) (number : ℕ) (after : Node) → MayGive v (HasNode place at) number after
    → (before : Node) → slice_get v.seen place ≡ Some before → slice_get at place ≡ Some before
    → (client : ℕ) (last : Try) (older : List Try) → tries_known v client ≡ last ∷ older → (why : Ambiguity) → last.end ≡ Some (Ambiguous why)
    → times (is_try_of client last.id.seq) after ≡ times (is_try_of client last.id.seq) before
not_again v place at number after may before saw has client last older tries why end =
    by_gift (is_try_of client last.id.seq) (no_try client last.id.seq) (λ sent. refl) v place at before after has
    (λ xs may_try carries. untried v.terms.rules v.terms.nodes (suc place) client last.id.seq xs before (tries_known v)
    (subst (IsPast last.id.seq) (sym tries) (ended last older why refl end)) may_try)
    (gift_of v place at number after before may saw)

-- while an attempt is out its client tries nothing
waiting : (rules : RaceRules) (nodes node client : ℕ) (last : Try) (older : List Try) → last.end ≡ None → (xs : List Happening) (n : Node) (tries : Tried)
    → tries client ≡ last ∷ older → AllMayTry rules nodes node n tries xs → times (is_admission_by client) (admitted_after n xs) ≡ times (is_admission_by client) n
waiting rules nodes node client last older out [] n tries is may = refl
waiting rules nodes node client last older out (worlds.Admit range id request ∷ xs) n tries is may = dite (ℕ_discrete client id.client)
    (λ same. absurd (none_next last.id id (ap (id_after last.id) (sym out) ∙ ap (next_id id.client) (sym (ap tries (sym same) ∙ is)) ∙ may.0.may.next)))
    (λ away. waiting rules nodes node client last older out xs (after_admission n range id request) (with_try tries (try_at node n range id request))
    (ap (λ (b : Bool). cond b (try_at node n range id request ∷ tries client) (tries client)) (ne_eqb client id.client away) ∙ is) may.1
    ∙ admission_pushed (is_admission_by client) n range id request (ne_eqb id.client client (λ e. away (sym e))))
  where
    none_next : (a b : CmdId) → id_after a None ≡ Some b → ⊥
    none_next a b e = cc
waiting rules nodes node client last older out (worlds.Ask range ∷ xs) n tries is may = absurd may
waiting rules nodes node client last older out (worlds.Transfer range to ∷ xs) n tries is may = absurd may
waiting rules nodes node client last older out (worlds.Collect range taken ∷ xs) n tries is may = absurd may
waiting rules nodes node client last older out (worlds.Flush range ∷ xs) n tries is may = absurd may
waiting rules nodes node client last older out (worlds.Tick ∷ xs) n tries is may = absurd may
waiting rules nodes node client last older out (worlds.Deliver from number ∷ xs) n tries is may = absurd may
waiting rules nodes node client last older out (worlds.Apply range ∷ xs) n tries is may = absurd may
waiting rules nodes node client last older out (worlds.Cut range ∷ xs) n tries is may = absurd may
waiting rules nodes node client last older out (worlds.Remove range ∷ xs) n tries is may = absurd may
waiting rules nodes node client last older out (worlds.Peek range key ∷ xs) n tries is may = absurd may
waiting rules nodes node client last older out (worlds.Restart ∷ xs) n tries is may = absurd may
waiting rules nodes node client last older out (worlds.Round ∷ xs) n tries is may = absurd may

pub not_while_out : (v : Knowledge) (place : ℕ) (at : World) (number : ℕ) (after : Node) → MayGive v (HasNode place at) number after
    → (before : Node) → slice_get v.seen place ≡ Some before → slice_get at place ≡ Some before
    → (client : ℕ) (last : Try) (older : List Try) → tries_known v client ≡ last ∷ older → last.end ≡ None
    → times (is_admission_by client) after ≡ times (is_admission_by client) before
not_while_out v place at number after may before saw has client last older tries out =
    by_gift (is_admission_by client) (λ n x inside. no_admission n client x inside) (λ sent. refl) v place at before after has
    (λ xs may_try carries. waiting v.terms.rules v.terms.nodes (suc place) client last older out xs before (tries_known v) tries may_try)
    (gift_of v place at number after before may saw)

-- a further round has heard what was seen
no_round : (n : Node) (x : Happening) → is_within_round x ≡ true → is_round (kept_as n x) ≡ false
no_round n (worlds.Admit range id request) e = refl
no_round n (worlds.Ask range) e = refl
no_round n (worlds.Transfer range to) e = refl
no_round n (worlds.Collect range taken) e = refl
no_round n (worlds.Flush range) e = refl
no_round n worlds.Tick e = refl
no_round n (worlds.Deliver from number) e = refl
no_round n (worlds.Apply range) e = refl
no_round n (worlds.Cut range) e = refl
no_round n (worlds.Remove range) e = refl
no_round n (worlds.Peek range key) e = refl
no_round n worlds.Restart e = refl
no_round n worlds.Round e = absurd cc

-- admissions end no round
no_round_by : (rules : RaceRules) (nodes node : ℕ) (xs : List Happening) (n : Node) (tries : Tried) → AllMayTry rules nodes node n tries xs → times is_round (admitted_after n xs) ≡ times is_round n
no_round_by rules nodes node [] n tries may = refl
no_round_by rules nodes node (worlds.Admit range id request ∷ xs) n tries may =
    no_round_by rules nodes node xs (after_admission n range id request) (with_try tries (try_at node n range id request)) may.1
    ∙ admission_pushed is_round n range id request refl
no_round_by rules nodes node (worlds.Ask range ∷ xs) n tries may = absurd may
no_round_by rules nodes node (worlds.Transfer range to ∷ xs) n tries may = absurd may
no_round_by rules nodes node (worlds.Collect range taken ∷ xs) n tries may = absurd may
no_round_by rules nodes node (worlds.Flush range ∷ xs) n tries may = absurd may
no_round_by rules nodes node (worlds.Tick ∷ xs) n tries may = absurd may
no_round_by rules nodes node (worlds.Deliver from number ∷ xs) n tries may = absurd may
no_round_by rules nodes node (worlds.Apply range ∷ xs) n tries may = absurd may
no_round_by rules nodes node (worlds.Cut range ∷ xs) n tries may = absurd may
no_round_by rules nodes node (worlds.Remove range ∷ xs) n tries may = absurd may
no_round_by rules nodes node (worlds.Peek range key ∷ xs) n tries may = absurd may
no_round_by rules nodes node (worlds.Restart ∷ xs) n tries may = absurd may
no_round_by rules nodes node (worlds.Round ∷ xs) n tries may = absurd may

-- what a further round has heard of another node
abbrev Hears : Knowledge → (place from : ℕ) → (after other : Node) → Type 0
Hears v place from after other = (heard_from from after.journal ≡ carried v.terms.rules from (suc place) other.sent) × (after.rounds ≤ other.rounds + 3)

hears : (v : Knowledge) (place : ℕ) (at : World) (before after : Node) → slice_get at place ≡ Some before → rounds_in after.journal ≢ rounds_in before.journal
    → (from : ℕ) (other : Node) → node_of v.seen from ≡ Some other → from ≢ suc place → IsGift v place at before after → Hears v place from after other
hears v place at before after has further from other saw away (admissions g) =
    absurd (further (ap (times is_round) g.leaves ∙ no_round_by v.terms.rules v.terms.nodes (suc place) g.what before (tries_known v) g.may))
hears v place at before after has further from other saw away (broken_off g) =
    absurd (further (within is_round no_round v.terms.rules (suc place) g.what at before after g.part.order has g.part.leaves))
hears v place at before after has further from other saw away (whole g) =
    let behind = g.may_end.behind from other saw away in
    subst (λ (n : Node). Hears v place from n other) (sym g.leaves) (
      ap (heard_from from) (step_journal g.inside events.Round []) ∙ heard_further from g.inside.journal (entry_of g.inside events.Round [] ∷ [])
          ∙ append-nil (heard_from from g.inside.journal) ∙ g.may_end.heard from other saw away,
      omega (arith, behind),
    )

pub hears_all : (v : Knowledge) (place : ℕ) (at : World) (number : ℕ) (after : Node) → MayGive v (HasNode place at) number after
    → (before : Node) → slice_get v.seen place ≡ Some before → slice_get at place ≡ Some before → rounds_in after.journal ≢ rounds_in before.journal
    → (from : ℕ) (other : Node) → node_of v.seen from ≡ Some other → from ≢ number
    → (heard_from from after.journal ≡ carried v.terms.rules from number other.sent) × (after.rounds ≤ other.rounds + 3)
hears_all v place at number after may before saw has further from other seen away =
    subst (λ (k : ℕ). (heard_from from after.journal ≡ carried v.terms.rules from k other.sent) × (after.rounds ≤ other.rounds + 3)) (sym may.0)
    (hears v place at before after has further from other seen (λ e. away (e ∙ sym may.0)) (gift_of v place at number after before may saw))

-- one client's right alone is handed out
pub one_right : (v : Knowledge) (client k : ℕ) → k ≢ v.terms.nodes + client - 1 → right_at (right (choosing (OfClient client) v)).rights k ≡ Lacks
one_right v client k away =
    right_handed (OfClient client) v k ∙ ap (λ (b : Bool). cond b (right_at v.rights k) Lacks) (ne_eqb k (v.terms.nodes + client - 1) away)
