-- From one try to the next (this project).
use Rattle.std.proofs.Common.{◌≡◌, ℕ, ◌+◌, ◌-◌, ◌<◌, ◌≤◌, Bool, true, false, cond, ◌&&◌, List, [], ◌∷◌, length, All, get_or, Option, None, Some, refl, sym, ap, ap₂, subst, ◌∙◌, arith, eqb, eq-eqb, eqb-true, ltb-true, nat_lt, if◌then◌else◌}
use Rattle.std.specs.Prelude.{slice_set}
use Rattle.std.specs.List.{find}
use Rattle.std.proofs.lemmas.Bool.{ne_eqb, eqb-false}
use Rattle.std.proofs.lemmas.List.{get_or-set_same, get_or-set_other}
use Rattle.std.proofs.lemmas.List.Sums.{sum_by-cons}
use Rattle.std.proofs.lemmas.List.Elements.{All-head, All-tail, All-cons}
use Rattle.rp_request.specs.declared.outcomes.Outcome.{Outcome}
use Rattle.rp_request.specs.declared.outcomes.Outcome.TheVariants.{Success, Refused, Ambiguous, Pending}
use Rattle.rp_request.specs.declared.outcomes.End.{End}
use Rattle.rp_request.specs.declared.outcomes.Refusal.{Refusal}
use Rattle.rp_request.specs.declared.outcomes.Refusal.TheVariants as refusal
use Rattle.rp_router.specs.Hints.{Known, learnt}
use Rattle.rp_clients.specs.declared.finals.CommandEnd.{CommandEnd}
use Rattle.rp_clients.specs.declared.courses.Course.{Course}
use Rattle.rp_clients.specs.Tries.{Try, most_tries, tries_again, id_of, id_after, attempt_after, command_after, hints_of, hints_after}
use Rattle.rp_clients.specs.Desks.{Standing, Tells, CameBy}
use Rattle.rp_clients.specs.Finals.{is_of, is_refused, refusals, left, left_by, end_by}
use Rattle.rp_clients.specs.Courses.{Covers, AtMost, last_at, Ready, hints_with, is_again}
use Rattle.rp_clients.proofs.Learning.{has_end}

-- what is learnt leaves the number of nodes
learnt_nodes : (k : Known) (node range : ℕ) (r : Refusal) → (learnt k node range r).nodes ≡ k.nodes
learnt_nodes k node range refusal.NoReplica = refl
learnt_nodes k node range (refusal.NotLeaseHolder lease) = refl
learnt_nodes k node range (refusal.RangeMismatch d) = refl
learnt_nodes k node range (refusal.Latched by held) = refl
learnt_nodes k node range (refusal.ConditionFailed actual) = refl
learnt_nodes k node range (refusal.IsText key) = refl
learnt_nodes k node range (refusal.Overflow actual) = refl
learnt_nodes k node range (refusal.Short actual) = refl
learnt_nodes k node range (refusal.TooWide count) = refl
learnt_nodes k node range refusal.NotInside = refl
learnt_nodes k node range (refusal.SplitLimit level) = refl

after_nodes : (k : Known) (t : Try) (end : Option Outcome) → (hints_after k t end).nodes ≡ k.nodes
after_nodes k t None = refl
after_nodes k t (Some (Success reply)) = refl
after_nodes k t (Some (Refused r)) = learnt_nodes k t.node t.range r
after_nodes k t (Some (Ambiguous why)) = refl
after_nodes k t (Some Pending) = refl

pub hints_nodes : (nodes : ℕ) (tries : List Try) → (hints_of nodes tries).nodes ≡ nodes
hints_nodes nodes [] = refl
hints_nodes nodes (t ∷ older) = after_nodes (hints_of nodes older) t t.end ∙ hints_nodes nodes older

-- what a client keeps has the desk's number of nodes
pub course_nodes : {seq attempt : ℕ} {c : Course} {s : Standing} → Ready seq attempt c s → c.hints.nodes ≡ s.nodes
course_nodes {s = s} r = ap (λ (k : Known). k.nodes) r.hints_are ∙ hints_nodes s.nodes s.tries

-- a try of a command on top of earlier ones
pub find_here : (seq : ℕ) (t : Try) (older : List Try) → t.id.seq ≡ seq → find (is_of seq) (t ∷ older) ≡ Some t
find_here seq t older e = ap (λ (b : Bool). cond b (Some t) (find (is_of seq) older)) (eq-eqb t.id.seq seq e)

abbrev pub counted : (seq : ℕ) → Try → ℕ
counted seq t = cond (is_of seq t && is_refused t.end) 1 0

pub refusals_here : (seq : ℕ) (t : Try) (older : List Try) → t.id.seq ≡ seq
    → refusals seq (t ∷ older) ≡ cond (is_refused t.end) 1 0 + refusals seq older
refusals_here seq t older e =
    sum_by-cons (counted seq) t older
    ∙ ap (λ (b : Bool). cond (b && is_refused t.end) 1 0 + refusals seq older) (eq-eqb t.id.seq seq e)

pub left_here : (seq : ℕ) (t : Try) (older : List Try) → t.id.seq ≡ seq
    → left seq (t ∷ older) ≡ left_by (cond (is_refused t.end) 1 0 + refusals seq older) (Some t)
left_here seq t older e = ap₂ left_by (refusals_here seq t older e) (find_here seq t older e)

refusals_elsewhere : (j : ℕ) (t : Try) (older : List Try) → (t.id.seq ≡ j → ⊥) → refusals j (t ∷ older) ≡ refusals j older
refusals_elsewhere j t older ne =
    sum_by-cons (counted j) t older
    ∙ ap (λ (b : Bool). cond (b && is_refused t.end) 1 0 + refusals j older) (ne_eqb t.id.seq j ne)
    ∙ omega arith

pub left_elsewhere : (j : ℕ) (t : Try) (older : List Try) → (t.id.seq ≡ j → ⊥) → left j (t ∷ older) ≡ left j older
left_elsewhere j t older ne = ap₂ left_by
    (refusals_elsewhere j t older ne)
    (ap (λ (b : Bool). cond b (Some t) (find (is_of j) older)) (ne_eqb t.id.seq j ne))

-- a try on top of others
abbrev pub top : (client seq attempt node range rounds : ℕ) → Option Outcome → Try
top client seq attempt node range rounds end =
    record { id = id_of client seq attempt; node = node; range = range; rounds = rounds; end = end }

abbrev pub left_so : ℕ → End → CommandEnd
left_so attempt end = record { attempt = attempt; end = end }

-- what a try teaches is what its end does
with_after : (k : Known) (t : Try) (o : Outcome) → hints_with k t.node t.range o ≡ hints_after k t (Some o)
with_after k t (Success reply) = refl
with_after k t (Refused why) = refl
with_after k t (Ambiguous why) = refl
with_after k t Pending = refl

pub learns_top : (nodes client seq attempt node range rounds : ℕ) (o : Outcome) (tries : List Try) (k k1 : Known)
    → k ≡ hints_of nodes tries → k1 ≡ hints_with k node range o
    → k1 ≡ hints_of nodes (top client seq attempt node range rounds (Some o) ∷ tries)
learns_top nodes client seq attempt node range rounds o tries k k1 e e1 =
    e1 ∙ ap (λ (h : Known). hints_with h node range o) e
    ∙ with_after (hints_of nodes tries) (top client seq attempt node range rounds (Some o)) o

-- a command is left by the end of its latest try, where all before were refused
left_top_by : (client seq attempt node range rounds : ℕ) (o : Outcome) (refused : ℕ) → refused + 1 ≡ attempt
    → left_by (cond (is_refused (Some o)) 1 0 + refused) (Some (top client seq attempt node range rounds (Some o)))
    ≡ record { attempt = attempt; end = end_by attempt (Some o) }
left_top_by client seq attempt node range rounds (Success reply) refused e = refl
left_top_by client seq attempt node range rounds (Refused why) refused e =
    ap (λ (n : ℕ). left_so attempt (end_by n (Some (Refused why)))) (omega (arith, e))
left_top_by client seq attempt node range rounds (Ambiguous why) refused e = refl
left_top_by client seq attempt node range rounds Pending refused e = refl

same_left : (x : CommandEnd) (attempt : ℕ) (end : End) → x.attempt ≡ attempt → x.end ≡ end
    → x ≡ record { attempt = attempt; end = end }
same_left x attempt end ea ee = ap₂ left_so ea ee

pub left_top : (client seq attempt node range rounds : ℕ) (o : Outcome) (tries : List Try) (x : CommandEnd)
    → refusals seq tries + 1 ≡ attempt → x.attempt ≡ attempt → x.end ≡ end_by attempt (Some o)
    → x ≡ left seq (top client seq attempt node range rounds (Some o) ∷ tries)
left_top client seq attempt node range rounds o tries x e ea ee =
    same_left x attempt (end_by attempt (Some o)) ea ee
    ∙ sym (left_here seq (top client seq attempt node range rounds (Some o)) tries refl
    ∙ left_top_by client seq attempt node range rounds o (refusals seq tries) e)

-- where a command is tried again, its try was refused, and not for the last time
pub record Again (attempt : ℕ) (o : Outcome) : Type 0 where
  pub why : Refusal
  pub is : o ≡ Refused why
  pub both : (tries_again why && nat_lt attempt most_tries) ≡ true

pub again : (attempt : ℕ) (o : Outcome) → is_again attempt o ≡ true → Again attempt o
again attempt (Success reply) h = absurd cc
again attempt (Refused why) h = record { why = why; is = refl; both = h }
again attempt (Ambiguous why) h = absurd cc
again attempt Pending h = absurd cc

pub again_less : (attempt : ℕ) (o : Outcome) → is_again attempt o ≡ true → attempt < most_tries
again_less attempt o h = less (again attempt o h) where
  right : (a b : Bool) → (a && b) ≡ true → b ≡ true
  right true b e = e
  right false b e = absurd cc

  less : Again attempt o → attempt < most_tries
  less a = ltb-true attempt most_tries (right (tries_again a.why) (nat_lt attempt most_tries) a.both)

again_next : (client seq attempt : ℕ) (o : Outcome) → Again attempt o
    → id_after (id_of client seq attempt) (Some o) ≡ Some (id_of client seq (attempt + 1))
again_next client seq attempt o a =
    ap (λ (x : Outcome). id_after (id_of client seq attempt) (Some x)) a.is
    ∙ ap (λ (b : Bool). Some (if b then attempt_after (id_of client seq attempt) else command_after (id_of client seq attempt))) a.both

again_counted : (attempt : ℕ) (o : Outcome) (refused : ℕ) → Again attempt o → refused + 1 ≡ attempt
    → (cond (is_refused (Some o)) 1 0 + refused) + 1 ≡ attempt + 1
again_counted attempt o refused a e =
    ap (λ (x : Outcome). (cond (is_refused (Some x)) 1 0 + refused) + 1) a.is ∙ omega (arith, e)

-- a further number covers the tries at its node
covers_more : (node told : ℕ) (last : List (Option ℕ)) (t : Try) → 1 ≤ node → node ≤ 5 → length last ≡ 5
    → (t.node ≡ node → t.rounds ≤ told)
    → (1 ≤ t.node) × AtMost (last_at last t.node) t.rounds
    → AtMost (last_at (slice_set last (node - 1) (Some told)) t.node) t.rounds
covers_more node told last t one most long came k = go (eqb t.node node) refl where
  go : (b : Bool) → eqb t.node node ≡ b → AtMost (last_at (slice_set last (node - 1) (Some told)) t.node) t.rounds
  go true e = subst (λ (x : Option ℕ). AtMost x t.rounds)
      (sym (ap (last_at (slice_set last (node - 1) (Some told))) (eqb-true t.node node e)
      ∙ get_or-set_same last (node - 1) (Some told) None (omega arith)))
      (came (eqb-true t.node node e))
  go false e = subst (λ (x : Option ℕ). AtMost x t.rounds)
      (sym (get_or-set_other last (node - 1) (t.node - 1) (Some told) None
      (λ same. eqb-false t.node node e (omega (arith, k.0, one, same)))))
      k.1

pub covers_set : (seq node told : ℕ) (last : List (Option ℕ)) (t : Try) (older : List Try) → 1 ≤ node → node ≤ 5
    → length last ≡ 5 → t.node ≡ node → CameBy node told (t ∷ older) → Covers seq last older
    → Covers seq (slice_set last (node - 1) (Some told)) (t ∷ older)
covers_set seq node told last t older one most long here came covers =
    All-cons (covered new) t older first rest where
      new : List (Option ℕ)
      new = slice_set last (node - 1) (Some told)

      covered : List (Option ℕ) → Try → Type 0
      covered l x = x.id.seq ≡ seq → (1 ≤ x.node) × AtMost (last_at l x.node) x.rounds

      came_by : Try → Type 0
      came_by x = x.node ≡ node → x.rounds ≤ told

      first : covered new t
      first es = (
        omega (arith, one, here),
        subst (λ (x : Option ℕ). AtMost x t.rounds)
            (sym (ap (last_at new) here ∙ get_or-set_same last (node - 1) (Some told) None (omega arith)))
            (All-head came_by t older came here),
      )

      rest : All (covered new) older
      rest k d lt es = (
        (covers k d lt es).0,
        covers_more node told last (get_or older k d) one most long
            (All-tail came_by t older came k d lt) (covers k d lt es),
      )

-- the state after a refusal that is not the last, once a number of rounds was told of the node
pub goes_again : (client seq attempt node range rounds told : ℕ) (o : Outcome) (c c1 c2 : Course) (s s1 s2 : Standing)
    → Ready seq attempt c s → s.client ≡ client
    → s1 ≡ record s { tries = top client seq attempt node range rounds (Some o) ∷ s.tries; is_put = s1.is_put; is_over = false }
    → is_again attempt o ≡ true
    → c1.hints ≡ hints_with c.hints node range o → c1.last_rounds ≡ c.last_rounds
    → c1.so_far.attempt ≡ attempt → c1.so_far.end ≡ end_by attempt (Some o)
    → Tells node told s1 s2 → CameBy node told s1.tries
    → c2.hints ≡ c1.hints → c2.so_far ≡ c1.so_far → c2.last_rounds ≡ slice_set c1.last_rounds (node - 1) (Some told)
    → 1 ≤ node → node ≤ 5 → length c1.last_rounds ≡ 5
    → Ready seq (attempt + 1) c2 s2
goes_again client seq attempt node range rounds told o c c1 c2 s s1 s2 r ec es ag h1 l1 a1 e1 tells came h2 f2 l2 one most long =
    let a : Again attempt o = again attempt o ag in
    let t : Try = top client seq attempt node range rounds (Some o) in
    let es2 : s2 ≡ record s { tries = t ∷ s.tries; told = s2.told; is_put = s1.is_put; is_over = false } =
    tells.rest ∙ ap (λ (z : Standing). record z { told = s2.told }) es in
    let came_top : CameBy node told (t ∷ s.tries) = subst (CameBy node told) (ap (λ (z : Standing). z.tries) es) came in
    subst (λ (z : Standing). Ready seq (attempt + 1) c2 z) (sym es2) (record {
      goes_on = record { not_over = refl; not_short = r.goes_on.not_short };
      next = again_next client seq attempt o a ∙ ap (λ (n : ℕ). Some (id_of n seq (attempt + 1))) (sym ec);
      ended = All-cons has_end t s.tries refl r.ended;
      below = All-cons (λ (x : Try). x.id.seq < seq + 1) t s.tries (omega arith) r.below;
      counted = ap (λ (n : ℕ). n + 1) (refusals_here seq t s.tries refl) ∙ again_counted attempt o (refusals seq s.tries) a r.counted;
      hints_are = h2 ∙ learns_top s.nodes client seq attempt node range rounds o s.tries c.hints c1.hints r.hints_are h1;
      covers = subst (λ (l : List (Option ℕ)). Covers seq l (t ∷ s.tries)) (sym (l2 ∙ ap (λ (l : List (Option ℕ)). slice_set l (node - 1) (Some told)) l1))
          (covers_set seq node told c.last_rounds t s.tries one most (ap length (sym l1) ∙ long) refl came_top r.covers);
      so_far_is = f2 ∙ left_top client seq attempt node range rounds o s.tries c1.so_far r.counted a1 e1;
    })
