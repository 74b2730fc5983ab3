-- Between its evaluation and its place nothing is taken that an attempt's keys touch: what it read
-- there it would read here. Of requests this uses that an effect reads and changes only what the
-- request covers, that each request covers a key and that a split covers every key.
use Rattle.std.proofs.Common.{◌≡◌, ℕ, zero, suc, ◌<◌, ◌≤◌, Bool, IsTrue, IfOk, ◌⊎◌, inl, inr, length, Option, Some, None, Result, refl, sym, ap, subst, ◌∙◌, arith}
use Rattle.std.proofs.lemmas.Bool.{cases_lt}
use Rattle.std.specs.FinMap.{retain_keys}
use Rattle.rp_base.specs.declared.ids.CmdId.{CmdId}
use Rattle.rp_base.specs.declared.ranges.Desc.{Desc}
use Rattle.rp_base.specs.declared.leases.Lease as leases
use Rattle.rp_base.proofs.IdLaws.{id_cases}
use Rattle.rp_request.specs.declared.commands.Payload.{Payload}
use Rattle.rp_request.specs.declared.commands.Payload.TheVariants.{Nothing, Write, Lease}
use Rattle.rp_request.specs.declared.commands.Command.{Command}
use Rattle.rp_request.specs.declared.requests.Request.{Request}
use Rattle.rp_request.specs.declared.requests.Request.TheVariants.{Put, Add, CPut, Del, Wipe, Move, Split}
use Rattle.rp_request.specs.Covers.{covers, Apart}
use Rattle.rp_request.specs.Effect.{Effect}
use Rattle.rp_request.specs.declared.outcomes.Refusal.{Refusal}
use Rattle.rp_request.proofs.Locality.{leaves}
use Rattle.rp_request.proofs.Covering.{some_key}
use Rattle.rp_request.proofs.ReadParts.{evaluated_reads}
use Rattle.rp_request.proofs.Does.{evaluated_does}
use Rattle.rp_request.specs.Applied.{AppliedState, command_verdict, asked, written, leased, taken, after, desc_after}
use Rattle.rp_request.specs.declared.verdicts.Verdict.{Verdict}
use Rattle.rp_request.specs.declared.verdicts.Verdict.TheVariants.{Took, OldLease, OldIndex, LeaseMoved}
use Rattle.rp_request.specs.declared.verdicts.Verdict.TheVariants as verdicts
use Rattle.rp_rangesafe.specs.Attempts.{Attempt, IsBorn}
use Rattle.rp_rangesafe.specs.Along.{state, Takes}
use Rattle.rp_rangesafe.specs.World.{World, IsEvaluated}
use Rattle.rp_rangesafe.specs.Places.{body_of}
use Rattle.rp_rangesafe.proofs.Numbers.{onward, one_holder, timely_at, blocked_never}
use Rattle.rp_rangesafe.proofs.One.{Made, one_place, born_with}
use Rattle.rp_rangesafe.proofs.Worlds.{Done, Sound}

-- two states look alike to what covers these keys
pub record Alike (p : ℕ → Bool) (s t : AppliedState) : Type 0 where
  pub table : retain_keys s.table p ≡ retain_keys t.table p
  pub desc : s.desc ≡ t.desc

alike_itself : (p : ℕ → Bool) (s : AppliedState) → Alike p s s
alike_itself p s = record { table = refl; desc = refl }

alike_further : (p : ℕ → Bool) (s t u : AppliedState) → Alike p s t → Alike p t u → Alike p s u
alike_further p s t u x y = record { table = x.table ∙ y.table; desc = x.desc ∙ y.desc }

alike_leased : (p : ℕ → Bool) (s : AppliedState) (o : Option leases.Lease) → Alike p s (leased s o)
alike_leased p s (Some lease) = record { table = refl; desc = refl }
alike_leased p s None = alike_itself p s

-- a split is apart from no request
no_split : (p : ℕ → Bool) (q : ℕ) → IsTrue (p q) → (r : Request) → Apart p (covers r) → (d : Desc) → d ≡ desc_after d r
no_split p q h (Put key value) a d = refl
no_split p q h (Add key by) a d = refl
no_split p q h (CPut key expect value) a d = refl
no_split p q h (Del key) a d = refl
no_split p q h (Wipe span) a d = refl
no_split p q h (Move from to by) a d = refl
no_split p q h (Split key) a d = let none = a q h in absurd cc

-- what is taken apart from some keys leaves them alike
alike_taken : (r : Request) (s : AppliedState) (e : Command) → Apart (covers r) (covers e.request) → IsEvaluated s (body_of e) → Alike (covers r) s (taken s e)
alike_taken r s e apart h =
    let does = evaluated_does s.table s.desc e.request (record { batch = e.batch; reply = e.reply }) h.evaluation in
    let rest : retain_keys does.left.table (covers r) ≡ retain_keys s.table (covers r) =
    subst (λ (x : Result Effect Refusal). IfOk x (λ (y : Effect). retain_keys y.table (covers r) ≡ retain_keys s.table (covers r)))
    does.takes (leaves s.table s.desc e.request (covers r) apart) in
    record {
      table = sym rest ∙ sym (ap (λ t. retain_keys t (covers r)) does.table);
      desc = no_split (covers r) (some_key r).0 (some_key r).1 e.request apart s.desc;
    }

module _ (f : ℕ → Payload) (w : World) (s : Sound f w) where
  abbrev b : AppliedState
  b = w.start

  abbrev n : ℕ
  n = length w.log

  abbrev at : CmdId → Attempt
  at = w.attempt

  made : (k : ℕ) (c : Command) → k < n → Takes b f k c → Made (at c.id) k c
  made k c l t = (s.good c.id).entries k c l t.here refl

  born : (k : ℕ) (c : Command) → k < n → Takes b f k c → IsBorn (at c.id).stage
  born k c l t = born_with (at c.id) c.max (s.good c.id).fresh (made k c l t).of.max

  -- a place has the sequence of its evaluation
  pub seq_at : (k : ℕ) (c : Command) → k < n → Takes b f k c → (state b f (at c.id).from).lease.seq ≡ (state b f k).lease.seq
  seq_at k c l t =
      let m = made k c l t in
      let g = (s.good c.id).seq (born k c l t) in
      let u = timely_at b f k c t in
      g ∙ sym m.of.seq ∙ u.seq

  -- what is taken between the evaluation and the place is apart
  untouched : (k j : ℕ) (d e : Command) → k < n → (at d.id).from ≤ j → j < k → Takes b f k d → Takes b f j e
      → Apart (covers d.request) (covers e.request)
  untouched k j d e hk lo hi t u = go (id_cases d.id e.id) where
    hj : j < n
    hj = omega arith

    md : Made (at d.id) k d
    md = made k d hk t

    me : Made (at e.id) j e
    me = made j e hj u

    -- all under one sequence
    level : (state b f (at d.id).from).lease.seq ≡ (state b f j).lease.seq
    level =
        let x = seq_at k d hk t in
        let up = onward b f (at d.id).from j lo in
        let on = onward b f j k (omega arith) in
        let one = up.numbers.seq in
        let two = on.numbers.seq in
        omega arith

    seqs : (at d.id).seq ≡ (at e.id).seq
    seqs =
        let x = (s.good d.id).seq (born k d hk t) in
        let y = (s.good e.id).seq (born j e hj u) in
        sym x ∙ level ∙ sym (seq_at j e hj u) ∙ y

    nodes : (at d.id).node ≡ (at e.id).node
    nodes =
        let x = (s.good d.id).holder (born k d hk t) in
        let y = (s.good e.id).holder (born j e hj u) in
        sym x ∙ one_holder b f (at d.id).from (at e.id).from (level ∙ sym (seq_at j e hj u)) ∙ y

    parts : Apart (covers (at d.id).body.request) (covers (at e.id).body.request) ⊎ (Done b f (at d.id) (at e.id).from ⊎ Done b f (at e.id) (at d.id).from)
        → Apart (covers d.request) (covers e.request)
    parts (inl a) = subst (λ r. Apart (covers d.request) (covers r)) (sym me.of.request) (subst (λ r. Apart (covers r) (covers (at e.id).body.request)) (sym md.of.request) a)
    parts (inr (inl done)) =
        let past = me.behind in
        absurd (blocked_never b f (at e.id).from k d (at d.id).seq (omega arith) md.of.seq (done.blocked d.max md.of.max) t)
    parts (inr (inr done)) = absurd (blocked_never b f (at d.id).from j e (at e.id).seq lo me.of.seq (done.blocked e.max me.of.max) u)

    go : (d.id ≡ e.id) ⊎ (d.id ≡ e.id → ⊥) → Apart (covers d.request) (covers e.request)
    go (inl same) =
        let one = one_place (s.good d.id) k j d e hk hj (record { takes = t; named = refl }) (record { takes = u; named = sym same }) in
        absurd (omega arith)
    go (inr ne) = parts ((s.pairs d.id e.id ne).apart (born k d hk t) (born j e hj u) nodes seqs)

  -- each place below an index would be evaluated there as it was
  abbrev AllEvaluated : ℕ → Type 0
  AllEvaluated k = (i : ℕ) (c : Command) → i < k → Takes b f i c → IsEvaluated (state b f i) (body_of c)

  module _ (k : ℕ) (d : Command) (hk : k < n) (t : Takes b f k d) (before : AllEvaluated k) where
    one_alike : (i : ℕ) → (at d.id).from ≤ i → i < k → Alike (covers d.request) (state b f i) (state b f (suc i))
    one_alike i lo hi = go (f i) refl where
      by : (e : Command) → f i ≡ Write e → (v : Verdict) → command_verdict (state b f i) e ≡ v → Alike (covers d.request) (state b f i) (written (state b f i) e v)
      by e h Took v = let u : Takes b f i e = record { here = h; taken = v } in
          alike_taken d.request (state b f i) e (untouched k i d e hk lo hi t u) (before i e hi u)
      by e h (OldLease now) v = alike_itself _ _
      by e h (OldIndex lai) v = alike_itself _ _
      by e h LeaseMoved v = alike_itself _ _
      by e h verdicts.Nothing v = alike_itself _ _

      go : (y : Payload) → f i ≡ y → Alike (covers d.request) (state b f i) (after (state b f i) y)
      go Nothing h = alike_itself _ _
      go (Write e) h = by e h (command_verdict (state b f i) e) refl
      go (Lease ask) h = alike_leased _ _ (asked (state b f i) ask)

    alike_to : (i : ℕ) → (at d.id).from ≤ i → i ≤ k → Alike (covers d.request) (state b f (at d.id).from) (state b f i)
    alike_to zero lo hi = let e : (at d.id).from ≡ 0 = omega arith in subst (λ j. Alike (covers d.request) (state b f j) (state b f 0)) (sym e) (alike_itself _ _)
    alike_to (suc i) lo hi = go (cases_lt (at d.id).from (suc i)) (λ l. alike_to i l (omega arith)) where
      go : ((at d.id).from < suc i) ⊎ (suc i ≤ (at d.id).from) → ((at d.id).from ≤ i → Alike (covers d.request) (state b f (at d.id).from) (state b f i))
          → Alike (covers d.request) (state b f (at d.id).from) (state b f (suc i))
      go (inl lt) ih = alike_further _ _ _ _ (ih (omega arith)) (one_alike i (omega arith) (omega arith))
      go (inr ge) ih = let e : (at d.id).from ≡ suc i = omega arith in subst (λ j. Alike (covers d.request) (state b f j) (state b f (suc i))) (sym e) (alike_itself _ _)

    alike_at : Alike (covers d.request) (state b f (at d.id).from) (state b f k)
    alike_at = alike_to k (made k d hk t).behind (omega arith)

    same_body : (at d.id).body ≡ body_of d
    same_body = let o = (made k d hk t).of in λ i. record { request = sym o.request i; batch = sym o.batch i; reply = sym o.reply i }

    evaluated_at : IsEvaluated (state b f k) (body_of d)
    evaluated_at =
        let h = subst (IsEvaluated (state b f (at d.id).from)) same_body ((s.good d.id).evaluated (born k d hk t)) in
        subst (λ (y : Desc). IsEvaluated (record { desc = y; lease = (state b f k).lease; lai = (state b f k).lai; table = (state b f k).table }) (body_of d)) alike_at.desc
        (record {
          bounded = h.bounded;
          evaluation = sym (evaluated_reads (state b f (at d.id).from).table (state b f k).table (state b f (at d.id).from).desc d.request alike_at.table) ∙ h.evaluation;
        })

  all_evaluated : (k : ℕ) → k ≤ n → AllEvaluated k
  all_evaluated zero l i c h t = absurd (omega arith)
  all_evaluated (suc k) l i c h t = go (cases_lt i k) (all_evaluated k (omega arith)) where
    go : (i < k) ⊎ (k ≤ i) → AllEvaluated k → IsEvaluated (state b f i) (body_of c)
    go (inl lt) ih = ih i c lt t
    go (inr ge) ih =
        let e : i ≡ k = omega arith in
        evaluated_at i c (omega arith) t (λ j d lt u. ih j d (omega arith) u)

  -- at its place a request is evaluated as it was, and lies in the bounds
  pub place_evaluated : (k : ℕ) (c : Command) → k < n → Takes b f k c → IsEvaluated (state b f k) (body_of c)
  place_evaluated k c l t = all_evaluated (suc k) (omega arith) k c (omega arith) t

  -- and the description is that of the evaluation
  pub place_desc : (k : ℕ) (c : Command) → k < n → Takes b f k c → (state b f (at c.id).from).desc ≡ (state b f k).desc
  place_desc k c l t = (alike_at k c l t (all_evaluated k (omega arith))).desc
