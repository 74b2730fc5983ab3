-- What a node's journal has since it was taken, and what that makes of the clients' tries.
use Rattle.std.proofs.Common.{◌≡◌, ◌≢◌, ◌⊎◌, inl, inr, ℕ, false, not, cond, eqb, List, [], ◌∷◌, ◌++◌, drop, length, refl, ap, sym, ◌∙◌, subst, Option, Some, None}
use Rattle.std.proofs.lemmas.Bool.{ne_eqb}
use Rattle.rp_base.specs.declared.ids.CmdId.{CmdId}
use Rattle.rp_request.specs.Applied.{AppliedState}
use Rattle.rp_request.specs.declared.requests.Request.{Request}
use Rattle.rp_clients.specs.Tries.{Try, MayCome}
use Rattle.rp_events.specs.declared.journals.JournalEntry.{JournalEntry}
use Rattle.rp_events.specs.declared.node_events.Event.{Event}
use Rattle.rp_events.specs.declared.node_events.Event.TheVariants as events
use Rattle.rp_events.specs.declared.replica_events.ReplicaEvent.{ReplicaEvent}
use Rattle.rp_events.specs.declared.replica_events.ReplicaEvent.TheVariants as at_replica
use Rattle.rp_events.specs.ReplicaEvents.{event}
use Rattle.rp_events.specs.Nodes.{Node, Status, Absent, Live, Removed, seat, opened, opened_by}
use Rattle.rp_events.specs.NodeEvents.{step, by_status, with_request}
use Rattle.rp_events.specs.Worlds.{World, Happening, Admit, Ask, Transfer, Collect, Flush, Tick, Deliver, Apply, Cut, Remove, Peek, Restart, Round, node_of, happens, run, taken_in}
use Rattle.rp_journals.specs.Asked.{all_at}
use Rattle.rp_journals.specs.Entries.{at_node}
use Rattle.rp_journals.proofs.Growing.{Happened, happened, with_other}
use Rattle.rp_journals.proofs.Reading.{entry_of, step_journal}
use Rattle.rp_race.specs.declared.rules.RaceRules.{RaceRules}
use Rattle.rp_race.specs.Gives.{Tried, with_try, try_at, after_admission, AllMayTry, tried_after, admitted_after}
use Rattle.rp_race.specs.Rounds.{Stage, between, delivering, flushing, collected, applying, broken}
use Rattle.rp_race.specs.Played.{HasRoundSince, requests_of}
use Rattle.rp_switch.specs.Views.{Knowledge}
use Rattle.rp_switch.specs.Gifts.{with_admission, tries_by, tries_given, CarriesClient, CarriesAll, is_between}

-- an admission ends no round
opened_rounds : (n : Node) (s : AppliedState) (st : Status) → (opened_by n s st).rounds ≡ n.rounds
opened_rounds n s Absent = refl
opened_rounds n s (Live r) = refl
opened_rounds n s (Removed applied) = refl

right_rounds : (n : Node) (o : Option AppliedState) → (opened n o).rounds ≡ n.rounds
right_rounds n None = refl
right_rounds n (Some s) = opened_rounds n s (seat n s.desc.id)

status_rounds : (n : Node) (range : ℕ) (e : ReplicaEvent AppliedState) (taken : List _) (st : Status) → (by_status n range e taken st).node.rounds ≡ n.rounds
status_rounds n range e taken Absent = refl
status_rounds n range e taken (Live r) = right_rounds _ (event r e n.ticks n.rounds taken).right
status_rounds n range e taken (Removed applied) = refl

admission_rounds : (n : Node) (range : ℕ) (id : CmdId) (request : Request) → (after_admission n range id request).rounds ≡ n.rounds
admission_rounds n range id request = status_rounds (with_request n request) range (at_replica.Admit id request) [] (seat n range)

drop_front : {X : Type 0} (xs ys : List X) → drop (length xs) (xs ++ ys) ≡ ys
drop_front [] ys = refl
drop_front (x ∷ xs) ys = drop_front xs ys

append_assoc : {X : Type 0} (xs ys zs : List X) → (xs ++ ys) ++ zs ≡ xs ++ (ys ++ zs)
append_assoc [] ys zs = refl
append_assoc (x ∷ xs) ys zs = ap (λ l. x ∷ l) (append_assoc xs ys zs)

append_nil : {X : Type 0} (xs : List X) → xs ≡ xs ++ []
append_nil [] = refl
append_nil (x ∷ xs) = ap (λ l. x ∷ l) (append_nil xs)

-- the entries that admissions leave are the clients' new tries
pub record Extends (node : ℕ) (n later : Node) (tries now : Tried) : Type 0 where
  pub entries : List JournalEntry
  pub journal : later.journal ≡ n.journal ++ entries
  pub tried : (client : ℕ) → now client ≡ tries_by node n.rounds client entries (tries client)

pub admissions_extend : (rules : RaceRules) (nodes node : ℕ) (xs : List Happening) (n : Node) (may_be tries : Tried)
    → AllMayTry rules nodes node n may_be xs → Extends node n (admitted_after n xs) tries (tried_after node n tries xs)
admissions_extend rules nodes node [] n may_be tries may = record { entries = []; journal = append_nil n.journal; tried = λ client. refl }
admissions_extend rules nodes node (Admit range id request ∷ xs) n may_be tries may =
    let m = after_admission n range id request in
    let e : Event AppliedState = events.Admit range id request in
    let entry = entry_of n e [] in
    let further = admissions_extend rules nodes node xs m (with_try may_be (try_at node n range id request)) (with_try tries (try_at node n range id request)) may.1 in
    record {
      entries = entry ∷ further.entries;
      journal = further.journal ∙ ap (λ l. l ++ further.entries) (step_journal n e []) ∙ append_assoc n.journal (entry ∷ []) further.entries;
      tried = λ client. further.tried client
          ∙ ap (λ r. tries_by node r client further.entries (with_try tries (try_at node n range id request) client)) (admission_rounds n range id request);
    }
admissions_extend rules nodes node (Ask range ∷ xs) n may_be tries may = absurd may
admissions_extend rules nodes node (Transfer range to ∷ xs) n may_be tries may = absurd may
admissions_extend rules nodes node (Collect range given ∷ xs) n may_be tries may = absurd may
admissions_extend rules nodes node (Flush range ∷ xs) n may_be tries may = absurd may
admissions_extend rules nodes node (Tick ∷ xs) n may_be tries may = absurd may
admissions_extend rules nodes node (Deliver from number ∷ xs) n may_be tries may = absurd may
admissions_extend rules nodes node (Apply range ∷ xs) n may_be tries may = absurd may
admissions_extend rules nodes node (Cut range ∷ xs) n may_be tries may = absurd may
admissions_extend rules nodes node (Remove range ∷ xs) n may_be tries may = absurd may
admissions_extend rules nodes node (Peek range key ∷ xs) n may_be tries may = absurd may
admissions_extend rules nodes node (Restart ∷ xs) n may_be tries may = absurd may
admissions_extend rules nodes node (Round ∷ xs) n may_be tries may = absurd may

pub given_tries : (node : ℕ) (n later : Node) (tries now : Tried) → Extends node n later tries now
    → (client : ℕ) → now client ≡ tries_given node client n later (tries client)
given_tries node n later tries now ext client =
    ext.tried client
    ∙ ap (λ es. tries_by node n.rounds client es (tries client))
    (sym (ap (drop (length n.journal)) ext.journal ∙ drop_front n.journal ext.entries))

-- the tries of a client whose right is not carried stay
pub untouched : (rules : RaceRules) (nodes node : ℕ) (v : Knowledge) (client : ℕ) → (CarriesClient v client → ⊥)
    → (xs : List Happening) (n : Node) (may_be tries : Tried) → AllMayTry rules nodes node n may_be xs → CarriesAll v xs
    → tried_after node n tries xs client ≡ tries client
untouched rules nodes node v client lacks [] n may_be tries may carries = refl
untouched rules nodes node v client lacks (Admit range id request ∷ xs) n may_be tries may carries =
    untouched rules nodes node v client lacks xs (after_admission n range id request) (with_try may_be (try_at node n range id request)) (with_try tries (try_at node n range id request)) may.1 carries.1
    ∙ ap (λ b. cond b (try_at node n range id request ∷ tries client) (tries client))
    (ne_eqb client id.client (λ e. lacks (subst (CarriesClient v) (sym e) carries.0)))
untouched rules nodes node v client lacks (Ask range ∷ xs) n may_be tries may carries = absurd may
untouched rules nodes node v client lacks (Transfer range to ∷ xs) n may_be tries may carries = absurd may
untouched rules nodes node v client lacks (Collect range given ∷ xs) n may_be tries may carries = absurd may
untouched rules nodes node v client lacks (Flush range ∷ xs) n may_be tries may carries = absurd may
untouched rules nodes node v client lacks (Tick ∷ xs) n may_be tries may carries = absurd may
untouched rules nodes node v client lacks (Deliver from number ∷ xs) n may_be tries may carries = absurd may
untouched rules nodes node v client lacks (Apply range ∷ xs) n may_be tries may carries = absurd may
untouched rules nodes node v client lacks (Cut range ∷ xs) n may_be tries may carries = absurd may
untouched rules nodes node v client lacks (Remove range ∷ xs) n may_be tries may carries = absurd may
untouched rules nodes node v client lacks (Peek range key ∷ xs) n may_be tries may carries = absurd may
untouched rules nodes node v client lacks (Restart ∷ xs) n may_be tries may carries = absurd may
untouched rules nodes node v client lacks (Round ∷ xs) n may_be tries may carries = absurd may

-- what may be tried as far as a seat knows may be tried
abbrev pub Agree : Knowledge → Tried → Tried → Type 0
Agree v known tries = (client : ℕ) → CarriesClient v client → known client ≡ tries client

pub may_indeed : (rules : RaceRules) (nodes node : ℕ) (v : Knowledge) (xs : List Happening) (n : Node) (known tries : Tried)
    → Agree v known tries → CarriesAll v xs → AllMayTry rules nodes node n known xs → AllMayTry rules nodes node n tries xs
may_indeed rules nodes node v [] n known tries agree carries may = tt
may_indeed rules nodes node v (Admit range id request ∷ xs) n known tries agree carries may =
    let t = try_at node n range id request in
    let same : known id.client ≡ tries id.client = agree id.client carries.0 in (
      record {
        may = subst (λ (ts : List Try). MayCome id.client nodes (requests_of rules id.client) ts node range id request) same may.0.may;
        since = subst (λ (ts : List Try). HasRoundSince node n.rounds id ts) same may.0.since;
        id_fits = may.0.id_fits;
        request_fits = may.0.request_fits;
        room = may.0.room;
      },
      may_indeed rules nodes node v xs (after_admission n range id request) (with_try known t) (with_try tries t)
          (λ client c. ap (λ (ts : List Try). cond (eqb client id.client) (t ∷ ts) ts) (agree client c)) carries.1 may.1,
    )
may_indeed rules nodes node v (Ask range ∷ xs) n known tries agree carries may = absurd may
may_indeed rules nodes node v (Transfer range to ∷ xs) n known tries agree carries may = absurd may
may_indeed rules nodes node v (Collect range given ∷ xs) n known tries agree carries may = absurd may
may_indeed rules nodes node v (Flush range ∷ xs) n known tries agree carries may = absurd may
may_indeed rules nodes node v (Tick ∷ xs) n known tries agree carries may = absurd may
may_indeed rules nodes node v (Deliver from number ∷ xs) n known tries agree carries may = absurd may
may_indeed rules nodes node v (Apply range ∷ xs) n known tries agree carries may = absurd may
may_indeed rules nodes node v (Cut range ∷ xs) n known tries agree carries may = absurd may
may_indeed rules nodes node v (Remove range ∷ xs) n known tries agree carries may = absurd may
may_indeed rules nodes node v (Peek range key ∷ xs) n known tries agree carries may = absurd may
may_indeed rules nodes node v (Restart ∷ xs) n known tries agree carries may = absurd may
may_indeed rules nodes node v (Round ∷ xs) n known tries agree carries may = absurd may

-- what happens at a node leaves the others
other_stays : (w : World) (x : Happening) (node k : ℕ) → k ≢ node → (happens w (at_node node x) ≡ w) ⊎ Happened w (at_node node x)
    → node_of (happens w (at_node node x)) k ≡ node_of w k
other_stays w x node k away (inl same) = ap (λ (u : World). node_of u k) same
other_stays w x node k away (inr h) = ap (λ (u : World). node_of u k) h.is ∙ with_other w node (step h.n h.event (taken_in x)).node k away

pub others_stay : (xs : List Happening) (w : World) (node k : ℕ) → k ≢ node → node_of (run w (all_at node xs)) k ≡ node_of w k
others_stay [] w node k away = refl
others_stay (x ∷ xs) w node k away =
    others_stay xs (happens w (at_node node x)) node k away ∙ other_stays w x node k away (happened w (at_node node x))

-- entries without an admission
pub record Quiet (n later : Node) : Type 0 where
  pub entries : List JournalEntry
  pub journal : later.journal ≡ n.journal ++ entries
  pub none : (node rounds client : ℕ) (ts : List Try) → tries_by node rounds client entries ts ≡ ts

pub quiet_same : (n : Node) → Quiet n n
quiet_same n = record { entries = []; journal = append_nil n.journal; none = λ node rounds client ts. refl }

pub quiet_trans : (n m later : Node) → Quiet n m → Quiet m later → Quiet n later
quiet_trans n m later a b = record {
  entries = a.entries ++ b.entries;
  journal = b.journal ∙ ap (λ l. l ++ b.entries) a.journal ∙ append_assoc n.journal a.entries b.entries;
  none = λ node rounds client ts. both a.entries b.entries node rounds client ts ∙ ap (tries_by node rounds client b.entries) (a.none node rounds client ts) ∙ b.none node rounds client ts;
}
  where
    both : (es fs : List JournalEntry) (node rounds client : ℕ) (ts : List Try)
        → tries_by node rounds client (es ++ fs) ts ≡ tries_by node rounds client fs (tries_by node rounds client es ts)
    both [] fs node rounds client ts = refl
    both (e ∷ es) fs node rounds client ts = both es fs node rounds client (with_admission node rounds client e.answer e.event ts)

pub quiet_given : (n later : Node) → Quiet n later → (node client : ℕ) (ts : List Try) → tries_given node client n later ts ≡ ts
quiet_given n later q node client ts =
    ap (λ es. tries_by node n.rounds client es ts) (ap (drop (length n.journal)) q.journal ∙ drop_front n.journal q.entries)
    ∙ q.none node n.rounds client ts

-- a node that has no round under way
pub stands_between : (st : Stage) → not (is_between st) ≡ false → st ≡ between
stands_between between not_off = refl
stands_between (delivering from) not_off = absurd (cc)
stands_between (flushing ranges) not_off = absurd (cc)
stands_between (collected ranges range) not_off = absurd (cc)
stands_between applying not_off = absurd (cc)
stands_between broken not_off = absurd (cc)
