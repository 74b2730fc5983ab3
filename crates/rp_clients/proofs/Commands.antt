-- From one command to the next (this project).
use Rattle.std.proofs.Common.{◌≡◌, ℕ, zero, suc, ◌+◌, ◌<◌, ◌≤◌, Bool, true, false, cond, ◌&&◌, List, [], ◌∷◌, ◌++◌, map, replicate, None, Some, refl, sym, ap, ap₂, subst, ◌∙◌, arith, true≢false}
use Rattle.std.specs.List.{find, range_with_len}
use Rattle.std.proofs.lemmas.Bool.{ne_eqb}
use Rattle.std.proofs.lemmas.List.Sums.{sum_by-cons}
use Rattle.std.proofs.lemmas.List.Elements.{All-nil, All-head, All-tail}
use Rattle.std.proofs.lemmas.List.FromFn.{map-range_with_len_more}
use Rattle.rp_router.specs.Hints.{Known, started}
use Rattle.rp_clients.specs.declared.finals.CommandEnd.{CommandEnd}
use Rattle.rp_clients.specs.declared.courses.Course.{Course}
use Rattle.rp_clients.specs.Tries.{Try, next_id, id_of}
use Rattle.rp_clients.specs.Desks.{Standing, GoesOn}
use Rattle.rp_clients.specs.Finals.{is_of, is_refused, refusals, left, left_by, unsent}
use Rattle.rp_clients.specs.Courses.{SameDesk, KeepsEarlier, Below, Begins, Ready, IsOver, AtPlace}
use Rattle.rp_clients.proofs.Learning.{has_end}
use Rattle.rp_clients.proofs.Steps.{counted}

-- a command from which on none was tried is unsent
pub none_found : (seq j : ℕ) (tries : List Try) → seq ≤ j → Below seq tries → find (is_of j) tries ≡ None
none_found seq j [] le b = refl
none_found seq j (t ∷ older) le b =
    ap (λ (x : Bool). cond x (Some t) (find (is_of j) older))
    (ne_eqb t.id.seq j (λ e. omega (arith, e, le, All-head (λ (x : Try). x.id.seq < seq) t older b)))
    ∙ none_found seq j older le (All-tail (λ (x : Try). x.id.seq < seq) t older b)

pub none_refused : (seq j : ℕ) (tries : List Try) → seq ≤ j → Below seq tries → refusals j tries ≡ 0
none_refused seq j [] le b = refl
none_refused seq j (t ∷ older) le b =
    sum_by-cons (counted j) t older
    ∙ ap (λ (x : Bool). cond (x && is_refused t.end) 1 0 + refusals j older)
    (ne_eqb t.id.seq j (λ e. omega (arith, e, le, All-head (λ (x : Try). x.id.seq < seq) t older b)))
    ∙ omega (arith, none_refused seq j older le (All-tail (λ (x : Try). x.id.seq < seq) t older b))

pub unsent_above : (seq j : ℕ) (tries : List Try) → seq ≤ j → Below seq tries → left j tries ≡ unsent
unsent_above seq j tries le b = ap (left_by (refusals j tries)) (none_found seq j tries le b)

pub below_more : (seq : ℕ) (tries : List Try) → Below seq tries → Below (seq + 1) tries
below_more seq tries b k d lt = omega (arith, b k d lt)

-- a client of which nothing was tried
pub begins_first : (nodes : ℕ) (hints : Known) (s : Standing) → GoesOn s → s.tries ≡ [] → s.nodes ≡ nodes
    → hints ≡ started nodes → Begins 1 hints s
begins_first nodes hints s go none n h = record {
  goes_on = go;
  next = rw none refl;
  ended = rw none (All-nil has_end);
  below = rw none (All-nil (λ (t : Try). t.id.seq < 1));
  hints_are = rw (none, n) h;
}

-- the first try of a command may come once it has its units
pub first_ready : (seq units : ℕ) (c c1 : Course) (s s1 : Standing) → Begins seq c.hints s
    → c1.hints ≡ c.hints → c1.last_rounds ≡ replicate 5 None → c1.so_far ≡ unsent
    → s1 ≡ record s { held = s.held + units } → Ready seq 1 c1 s1
first_ready seq units c c1 s s1 b h l f e = subst (Ready seq 1 c1) (sym e) (record {
  goes_on = record { not_over = b.goes_on.not_over; not_short = b.goes_on.not_short };
  next = b.next;
  ended = b.ended;
  below = below_more seq s.tries b.below;
  counted = ap (λ (n : ℕ). n + 1) (none_refused seq seq s.tries (omega arith) b.below);
  hints_are = h ∙ b.hints_are;
  covers = λ k d lt es. absurd (omega (arith, es, b.below k d lt));
  so_far_is = f ∙ sym (unsent_above seq seq s.tries (omega arith) b.below);
})

-- all is over before its units are had
pub over_first : (seq : ℕ) (c c1 : Course) (s s1 : Standing) → Begins seq c.hints s → c1.so_far ≡ unsent
    → s1 ≡ record s { is_over = true } → IsOver seq c1 s1
over_first seq c c1 s s1 b f e = subst (IsOver seq c1) (sym e) (record {
  over = refl;
  not_short = b.goes_on.not_short;
  below = below_more seq s.tries b.below;
  so_far_is = f ∙ sym (unsent_above seq seq s.tries (omega arith) b.below);
})

-- how so many commands were left, the first ones
abbrev pub left_first : (done : ℕ) → List Try → List CommandEnd
left_first done tries = map (λ j. left j tries) (range_with_len 1 done)

-- a command that comes when all is over stays unsent
pub unsent_over : (seq : ℕ) (hints : Known) (s : Standing) (is_over : Bool) → is_over ≡ true → AtPlace is_over seq hints s
    → left seq s.tries ≡ unsent
unsent_over seq hints s false e p = absurd cc
unsent_over seq hints s true e p = unsent_above seq seq s.tries (omega arith) p.2

-- the client was not told that all is over: then its next command would begin
pub place_next : (seq : ℕ) (hints : Known) (s : Standing) (is_over : Bool) → AtPlace is_over seq hints s → s.is_over ≡ false
    → next_id s.client s.tries ≡ Some (id_of s.client seq 1)
place_next seq hints s false p e = p.next
place_next seq hints s true p e = absurd (true≢false (sym p.0 ∙ e))

pub place_memory : (seq : ℕ) (hints : Known) (s : Standing) (is_over : Bool) → AtPlace is_over seq hints s → s.is_short ≡ false
place_memory seq hints s false p = p.goes_on.not_short
place_memory seq hints s true p = p.1

-- what was said of earlier commands goes on
pub map_same : (f g : ℕ → CommandEnd) (a n : ℕ) → ((j : ℕ) → a ≤ j → j < a + n → f j ≡ g j)
    → map f (range_with_len a n) ≡ map g (range_with_len a n)
map_same f g a zero same = refl
map_same f g a (suc n) same =
    ap₂ (λ (x : CommandEnd) (xs : List CommandEnd). x ∷ xs) (same a (omega arith) (omega arith))
    (map_same f g (a + 1) n (λ j le lt. same j (omega (arith, le)) (omega (arith, lt))))

pub one_more : (done : ℕ) (finals : List CommandEnd) (old new : Standing) (so_far : CommandEnd)
    → finals ≡ left_first done old.tries
    → KeepsEarlier (done + 1) old new → so_far ≡ left (done + 1) new.tries
    → finals ++ so_far ∷ [] ≡ left_first (done + 1) new.tries
one_more done finals old new so_far e keeps is =
    ap₂ (λ (xs : List CommandEnd) (x : CommandEnd). xs ++ x ∷ [])
    (e ∙ map_same (λ j. left j old.tries) (λ j. left j new.tries) 1 done (λ j le lt. sym (keeps j (omega (arith, lt))))) is
    ∙ sym (map-range_with_len_more (λ j. left j new.tries) 1 done (done + 1) (omega arith))

pub same_onward : (a b c : Standing) → SameDesk a b → SameDesk b c → SameDesk a c
same_onward a b c x y = record {
  client_same = y.client_same ∙ x.client_same;
  nodes_same = y.nodes_same ∙ x.nodes_same;
  requests_same = y.requests_same ∙ x.requests_same;
  capacity_same = y.capacity_same ∙ x.capacity_same;
  held_same = y.held_same ∙ x.held_same;
}
