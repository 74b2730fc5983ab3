-- A client's tries stay its tries as the nodes go on; an admission that may come is one more; and ends may be learnt.
use Rattle.std.proofs.Common.{◌≡◌, ℕ, zero, suc, ◌+◌, ◌-◌, ◌<◌, ◌≤◌, Bool, true, false, cond, ◌⊎◌, ⊎_elim, eqb, eqb-true, eq-eqb, Option, None, Some, List, [], ◌∷◌, ◌++◌, length, map, take, refl, sym, ap, subst, ◌∙◌, arith}
use Rattle.std.specs.Prelude.{slice_get, ◌==◌, ◌&&◌, ◌||◌}
use Rattle.std.specs.List.{find, list_any}
use Rattle.std.specs.Option.{option_map, option_map_or}
use Rattle.std.proofs.lemmas.Bool.{cases_eq}
use Rattle.rp_base.specs.Ids.{same_id}
use Rattle.rp_base.specs.declared.ids.CmdId.{CmdId}
use Rattle.rp_base.proofs.IdLaws.{same_is, same_itself}
use Rattle.rp_request.specs.declared.outcomes.Outcome.{Outcome}
use Rattle.rp_request.specs.declared.outcomes.Outcome.TheVariants.{Success, Refused, Ambiguous, Pending}
use Rattle.rp_request.specs.declared.requests.Request.{Request}
use Rattle.rp_events.specs.declared.answers.EventAnswer.{EventAnswer}
use Rattle.rp_events.specs.declared.answers.EventAnswer.TheVariants as answers
use Rattle.rp_events.specs.declared.journals.JournalEntry.{JournalEntry}
use Rattle.rp_events.specs.declared.journals.PastEvent.{PastEvent}
use Rattle.rp_events.specs.declared.journals.PastEvent.TheVariants as past
use Rattle.rp_events.specs.declared.node_events.Event.TheVariants as events
use Rattle.rp_events.specs.Lists.{IsWritten}
use Rattle.rp_events.specs.Nodes.{Node}
use Rattle.rp_events.specs.NodeEvents.{step}
use Rattle.rp_events.specs.Worlds as worlds
use Rattle.rp_events.specs.Worlds.{World, Scene, Happening, node_of, taken_in, happens, first_world, is_admission_of, asked_at, was_asked, outcome_by, outcome_at}
use Rattle.rp_journals.specs.Asked.{AskedOnce}
use Rattle.rp_journals.specs.Entries.{at_node}
use Rattle.rp_journals.specs.Growth.{Begins, Grows, WorldGrows}
use Rattle.rp_journals.proofs.Admitting.{asked_here}
use Rattle.rp_journals.proofs.Asking.{any_at, node_any}
use Rattle.rp_journals.proofs.Elsewhere.{happens_is}
use Rattle.rp_journals.proofs.Growing.{Happened, happened, scene_grows, one_node, with_same, step_grows}
use Rattle.rp_journals.proofs.Lists.{get_end, take_begins, take_whole}
use Rattle.rp_journals.proofs.Reading.{entry_of, step_journal}
use Rattle.rp_journals.proofs.Staying.{requests_stay, entries_stay, outcome_stays}
use Rattle.rp_journals.proofs.Writing.{EntryCases, Old, New, entry_cases, none_written}
use Rattle.rp_journals.proofs.Waiting.{any_place}
use Rattle.std.proofs.lemmas.Option.{slice_get_within}
use Rattle.rp_clients.specs.Tries.{Try, MayCome, id_of, id_after, next_id, ended_so, learns}
use Rattle.rp_race.specs.declared.rules.RaceRules.{RaceRules}
use Rattle.rp_race.specs.Owed.{rounds_in}
use Rattle.rp_race.specs.Played.{requests_of, IsEndAt, WasTried, HasRoundSince, IsNextTry, AllTried, is_admission_by, IsAmong, IsTriesOf}
use Rattle.rp_race.specs.Gives.{kept_as, is_within_round, end_by, after_admission, try_at, Tried, with_try, MayTry}
use Rattle.rp_race.proofs.Ahead.{kept_is}
use Rattle.rp_race.proofs.Counted.{Counted}
use Rattle.rp_race.proofs.Nexts.{by_its_client, one_id, unasked, admission_is}

-- what was tried stays tried
end_later : (id : CmdId) (n later : Node) → Grows n later → (end : Option Outcome) → IsEndAt id n end → IsEndAt id later end
end_later id n later g None h = tt
end_later id n later g (Some outcome) h = (outcome_stays n later g id outcome h.1 h.0, h.1)

tried_later : (w later : World) → WorldGrows w later → (t : Try) (request : Request) → WasTried w t request → WasTried later t request
tried_later w later g t request s =
    let l = g.each t.node s.n s.has in
    let within : s.place < length s.n.journal = slice_get_within s.n.journal s.place _ s.here in
    record {
      n = l.now;
      has = l.has;
      place = s.place;
      at = s.at;
      answer = s.answer;
      here = entries_stay s.n l.now l.grows s.place _ s.here;
      asked = requests_stay s.n l.now l.grows s.at request s.asked;
      rounds = ap rounds_in (take_begins s.place s.n.journal l.now.journal l.grows.journal (omega (arith, within))) ∙ s.rounds;
      end = end_later t.id s.n l.now l.grows t.end s.end;
    }

pub all_later : (rules : RaceRules) (w later : World) (client : ℕ) → WorldGrows w later → (tries : List Try) → AllTried rules w client tries → AllTried rules later client tries
all_later rules w later client g [] h = tt
all_later rules w later client g (t ∷ older) h = (
  record {
    request = h.0.request;
    may = subst (λ z. MayCome client z (requests_of rules client) older t.node t.range t.id h.0.request) (sym g.size) h.0.may;
    since = h.0.since;
    tried = tried_later w later g t h.0.request h.0.tried;
  },
  all_later rules w later client g older h.1,
)

true_false : (b : Bool) → b ≡ true → b ≡ false → ⊥
true_false b t f = let e = sym t ∙ f in absurd cc

-- a scene that admits nothing of the client's
pub tries_scene : (rules : RaceRules) (w : World) (x : Scene) (n : Node) → node_of w x.node ≡ Some n → (client : ℕ) (tries : List Try) → is_admission_by client (kept_as n x.what) ≡ false
    → IsTriesOf rules w client tries → IsTriesOf rules (happens w x) client tries
tries_scene rules w x n has client tries none h = record {
  each = all_later rules w (happens w x) client (scene_grows w x) tries h.each;
  all = λ node place e is adm. ⊎_elim
      (λ (same : happens w x ≡ w). h.all node place e (subst (λ z. IsWritten z node place e) same is) adm)
      (λ (k : Happened w x). by_cases k node place e adm (entry_cases w x k node place e is))
      (happened w x);
}
  where
    by_cases : (k : Happened w x) (node place : ℕ) (e : JournalEntry) → is_admission_by client e.event ≡ true → EntryCases w x k node place e → IsAmong tries e
    by_cases k node place e adm (Old was) = h.all node place e was adm
    by_cases k node place e adm (New at here entry) =
        let n_is : k.n ≡ n = one_node w x.node k.n n k.has has in
        let kept : e.event ≡ kept_as n x.what =
        ap (λ (z : JournalEntry). z.event) entry ∙ kept_is w k.n x.what k.event k.came ∙ ap (λ z. kept_as z x.what) n_is in
        absurd (true_false (is_admission_by client e.event) adm (ap (is_admission_by client) kept ∙ none))

pub no_admission : (n : Node) (client : ℕ) (what : Happening) → is_within_round what ≡ true → is_admission_by client (kept_as n what) ≡ false
no_admission n client (worlds.Admit range id request) e = absurd cc
no_admission n client (worlds.Ask range) e = refl
no_admission n client (worlds.Transfer range to) e = refl
no_admission n client (worlds.Collect range taken) e = refl
no_admission n client (worlds.Flush range) e = refl
no_admission n client worlds.Tick e = refl
no_admission n client (worlds.Deliver from number) e = refl
no_admission n client (worlds.Apply range) e = refl
no_admission n client (worlds.Cut range) e = refl
no_admission n client (worlds.Remove range) e = refl
no_admission n client (worlds.Peek range key) e = refl
no_admission n client worlds.Restart e = refl
no_admission n client worlds.Round e = absurd cc

-- one more stands behind those that pass no test
found_new : (b : Bool) (x z : JournalEntry) (o : Option JournalEntry) (rest : Bool) → (b || rest) ≡ false → (rest ≡ false → o ≡ Some x) → cond b (Some z) o ≡ Some x
found_new true x z o rest e ih = absurd cc
found_new false x z o rest e ih = ih e

found_push : (test : JournalEntry → Bool) (xs : List JournalEntry) (x : JournalEntry) → list_any test xs ≡ false → test x ≡ true → find test (xs ++ x ∷ []) ≡ Some x
found_push test [] x none is = ap (λ b. cond b (Some x) None) is
found_push test (z ∷ xs) x none is = found_new (test z) x z (find test (xs ++ x ∷ [])) (list_any test xs) none (λ e. found_push test xs x e is)

-- an admission that may come, at this node
module _ (rules : RaceRules) (nodes : ℕ) (w : World) (node : ℕ) (n : Node) (tries : Tried) (range : ℕ) (id : CmdId) (request : Request)
    (size : length w ≡ nodes) (has : node_of w node ≡ Some n) (counted : Counted n) (may : MayTry rules nodes node n tries range id request) where
  abbrev pub scene_of_try : Scene
  scene_of_try = at_node node (worlds.Admit range id request)

  abbrev pub node_after_try : Node
  node_after_try = after_admission n range id request

  abbrev pub entry_of_try : JournalEntry
  entry_of_try = record { event = past.Admit range id (length n.requests); answer = (step n (events.Admit range id request) []).answer }

  pub admission_leaves : node_of (happens w scene_of_try) node ≡ Some node_after_try
  admission_leaves = ap (λ z. node_of z node) (happens_is w scene_of_try n (events.Admit range id request) has refl) ∙ with_same w node n node_after_try has

  journal_is : node_after_try.journal ≡ n.journal ++ entry_of_try ∷ []
  journal_is = step_journal n (events.Admit range id request) []

  told : was_asked w id ≡ false → (a : EventAnswer) → entry_of_try.answer ≡ a → IsEndAt id node_after_try (end_by a)
  told none (answers.Refused why) is =
      let nowhere : asked_at id n ≡ false = go (asked_at id n) refl in (
        ap (option_map (λ (e : JournalEntry). outcome_by node_after_try id e.answer)) (ap (find (is_admission_of id)) journal_is ∙ found_push (is_admission_of id) n.journal entry_of_try nowhere (same_itself id))
            ∙ ap (λ a. Some (outcome_by node_after_try id a)) is,
        λ e. absurd cc,
      )
    where
      go : (b : Bool) → asked_at id n ≡ b → asked_at id n ≡ false
      go true e = absurd (true_false (was_asked w id) (node_any (asked_at id) w node n has e) none)
      go false e = e
  told none answers.Done is = tt
  told none answers.Nothing is = tt
  told none answers.Admitted is = tt
  told none (answers.Asked ask) is = tt
  told none (answers.LeaseHeld lease ticks) is = tt
  told none (answers.Value value applied) is = tt

  was_tried : was_asked w id ≡ false → WasTried (happens w scene_of_try) (try_at node n range id request) request
  was_tried none = record {
    n = node_after_try;
    has = admission_leaves;
    place = length n.journal;
    at = length n.requests;
    answer = entry_of_try.answer;
    here = ap (λ l. slice_get l (length n.journal)) journal_is ∙ get_end n.journal entry_of_try [];
    asked = asked_here n range id request [];
    rounds = ap rounds_in (take_begins (length n.journal) n.journal node_after_try.journal (step_grows n (events.Admit range id request) []).journal (omega arith) ∙ take_whole n.journal) ∙ sym counted.rounds;
    end = told none entry_of_try.answer refl;
  }

  own : IsTriesOf rules w id.client (tries id.client) → IsTriesOf rules (happens w scene_of_try) id.client (try_at node n range id request ∷ tries id.client)
  own h = record {
    each = (
      record {
        request = request;
        may = subst (λ z. MayCome id.client z (requests_of rules id.client) (tries id.client) node range id request) (sym ((scene_grows w scene_of_try).size ∙ size)) may.may;
        since = may.since;
        tried = was_tried (unasked rules w (tries id.client) id h may.may.next);
      },
      all_later rules w (happens w scene_of_try) id.client (scene_grows w scene_of_try) (tries id.client) h.each,
    );
    all = λ k place e is adm. ⊎_elim
        (λ (same : happens w scene_of_try ≡ w). one_more e (h.all k place e (subst (λ z. IsWritten z k place e) same is) adm))
        (λ (s : Happened w scene_of_try). by_cases s k place e adm (entry_cases w scene_of_try s k place e is))
        (happened w scene_of_try);
  }
    where
      one_more : (e : JournalEntry) → IsAmong (tries id.client) e → IsAmong (try_at node n range id request ∷ tries id.client) e
      one_more e a = record { k = suc a.k; try_of = a.try_of; here = a.here; is = a.is }

      by_cases : (s : Happened w scene_of_try) (k place : ℕ) (e : JournalEntry) → is_admission_by id.client e.event ≡ true → EntryCases w scene_of_try s k place e → IsAmong (try_at node n range id request ∷ tries id.client) e
      by_cases s k place e adm (Old was) = one_more e (h.all k place e was adm)
      by_cases s k place e adm (New at here is) =
          let n_is : s.n ≡ n = one_node w node s.n n s.has has in
          let kept : e.event ≡ past.Admit range id (length n.requests) =
          ap (λ (z : JournalEntry). z.event) is ∙ kept_is w s.n scene_of_try.what s.event s.came ∙ ap (λ z. kept_as z scene_of_try.what) n_is in
          record {
            k = 0;
            try_of = try_at node n range id request;
            here = refl;
            is = ap (λ v. is_admission_of id (record { event = v; answer = e.answer })) kept ∙ same_itself id;
          }

  pub tries_admission : IsTriesOf rules w id.client (tries id.client) → ((client : ℕ) → IsTriesOf rules w client (tries client))
      → (client : ℕ) → IsTriesOf rules (happens w scene_of_try) client (with_try tries (try_at node n range id request) client)
  tries_admission mine h client = go (client == id.client) refl where
    go : (b : Bool) → (client == id.client) ≡ b → IsTriesOf rules (happens w scene_of_try) client (cond b (try_at node n range id request ∷ tries client) (tries client))
    go true e = subst (λ z. IsTriesOf rules (happens w scene_of_try) z (try_at node n range id request ∷ tries z)) (sym (eqb-true client id.client e)) (own mine)
    go false e = tries_scene rules w scene_of_try n has client (tries client) (other (id.client == client) refl) (h client) where
      other : (b : Bool) → (id.client == client) ≡ b → (id.client == client) ≡ false
      other true s = absurd (true_false (client == id.client) (eq-eqb client id.client (sym (eqb-true id.client client s))) e)
      other false s = s

pub tries_first : (rules : RaceRules) (client nodes : ℕ) → IsTriesOf rules (first_world nodes) client []
tries_first rules client nodes = record { each = tt; all = λ node place e is adm. absurd (none_written nodes node place e is) }

-- what is learnt changes the latest try alone
some_outcome : (id : CmdId) (outcome : Outcome) (t : Try) (known : Option Outcome) (following : CmdId) → id_after t.id known ≡ Some following → ended_so id outcome t known ≡ t
some_outcome id outcome t None following e = absurd cc
some_outcome id outcome t (Some known) following e = refl

learns_none : (rules : RaceRules) (w : World) (client : ℕ) (id : CmdId) (outcome : Outcome) (tries : List Try) → AllTried rules w client tries → (following : CmdId) → next_id client tries ≡ Some following → learns id outcome tries ≡ tries
learns_none rules w client id outcome [] h following e = refl
learns_none rules w client id outcome (t ∷ older) h following e =
    ap (λ z. z ∷ learns id outcome older) (some_outcome id outcome t t.end following e)
    ∙ ap (λ l. t ∷ l) (learns_none rules w client id outcome older h.1 t.id h.0.may.next)

module _ (rules : RaceRules) (w : World) (once : AskedOnce w) (client : ℕ) (id : CmdId) (outcome : Outcome) (node : ℕ) (n : Node) (has : node_of w node ≡ Some n)
    (asked : asked_at id n ≡ true) (told : outcome_at id n ≡ Some outcome) (ended : outcome ≡ Pending → ⊥) where
  -- the same try, as it is known now
  abbrev with_end : Try → Try
  with_end t = record t { end = Some outcome }

  learnt_try : (older : List Try) (t : Try) → same_id t.id id ≡ true → IsNextTry rules w client older t → IsNextTry rules w client older (with_end t)
  learnt_try older t same h = record {
    request = h.request;
    may = h.may;
    since = h.since;
    tried = record {
      n = h.tried.n;
      has = h.tried.has;
      place = h.tried.place;
      at = h.tried.at;
      answer = h.tried.answer;
      here = h.tried.here;
      asked = h.tried.asked;
      rounds = h.tried.rounds;
      end = (end_is, ended);
    };
  }
    where
      end_is : outcome_at t.id h.tried.n ≡ Some outcome
      end_is =
          let a = any_place (is_admission_of id) n.journal asked in
          let adm : is_admission_of id (record { event = past.Admit t.range t.id h.tried.at; answer = h.tried.answer }) ≡ true = same in
          let places = once id node a.0 a.1 (record { n = n; has = has; here = a.2 }) a.3 t.node h.tried.place _ (record { n = h.tried.n; has = h.tried.has; here = h.tried.here }) adm in
          let n_is : h.tried.n ≡ n = one_node w node h.tried.n n (subst (λ z. node_of w z ≡ Some h.tried.n) places.0 h.tried.has) has in
          ap (outcome_at t.id) n_is ∙ ap (λ i. outcome_at i n) (same_is t.id id same) ∙ told

  learnt_one : (older : List Try) (t : Try) (end : Option Outcome) → t.end ≡ end → IsNextTry rules w client older t → IsNextTry rules w client older (ended_so id outcome t end)
  learnt_one older t (Some known) is h = h
  learnt_one older t None is h = go (same_id t.id id) refl where
    go : (b : Bool) → same_id t.id id ≡ b → IsNextTry rules w client older (cond b (with_end t) t)
    go true same = learnt_try older t same h
    go false other = h

  learnt_all : (tries : List Try) → AllTried rules w client tries → AllTried rules w client (learns id outcome tries)
  learnt_all [] h = tt
  learnt_all (t ∷ older) h =
      subst (λ l. AllTried rules w client (ended_so id outcome t t.end ∷ l)) (sym (learns_none rules w client id outcome older h.1 t.id h.0.may.next))
      (learnt_one older t t.end refl h.0, h.1)

  same_tried : (t : Try) (end : Option Outcome) → (ended_so id outcome t end).id ≡ t.id
  same_tried t (Some known) = refl
  same_tried t None = go (same_id t.id id) where
    go : (b : Bool) → (cond b (with_end t) t).id ≡ t.id
    go true = refl
    go false = refl

  some_try : (a b : Try) → ◌≡◌ {A = Option Try} (Some a) (Some b) → a ≡ b
  some_try a b e = cc

  mapped_at : (tries : List Try) (k : ℕ) (t : Try) → slice_get tries k ≡ Some t → slice_get (learns id outcome tries) k ≡ Some (ended_so id outcome t t.end)
  mapped_at [] k t e = absurd cc
  mapped_at (z ∷ tries) zero t e = ap (λ (y : Try). Some (ended_so id outcome y y.end)) (some_try z t e)
  mapped_at (z ∷ tries) (suc k) t e = mapped_at tries k t e

  pub tries_learnt : (tries : List Try) → IsTriesOf rules w client tries → IsTriesOf rules w client (learns id outcome tries)
  tries_learnt tries h = record {
    each = learnt_all tries h.each;
    all = λ k place e is adm.
        let a : IsAmong tries e = h.all k place e is adm in
        record {
          k = a.k;
          try_of = ended_so id outcome a.try_of a.try_of.end;
          here = mapped_at tries a.k a.try_of a.here;
          is = ap (λ i. is_admission_of i e) (same_tried a.try_of a.try_of.end) ∙ a.is;
        };
  }
