-- Each lawful event keeps a range sound.
use Rattle.std.proofs.Common.{◌≡◌, ℕ, suc, ◌<◌, ◌≤◌, true, false, ◌⊎◌, inl, inr, [], ◌∷◌, ◌++◌, length, refl, sym, ap, subst, ◌∙◌, arith}
use Rattle.std.proofs.lemmas.Bool.{cases_eq}
use Rattle.rp_base.specs.declared.ids.CmdId.{CmdId}
use Rattle.rp_request.specs.declared.commands.Payload.{Payload}
use Rattle.rp_request.specs.declared.commands.Payload.TheVariants.{Nothing, Write, Lease}
use Rattle.rp_request.specs.declared.commands.Command.{Command}
use Rattle.rp_request.specs.Covers.{covers, Apart}
use Rattle.rp_request.specs.Applied.{AppliedState, verdict, IsBlocked}
use Rattle.rp_request.specs.declared.verdicts.Verdict.{Verdict}
use Rattle.rp_rangesafe.specs.Attempts.{Body, Stage, Unborn, Waiting, Proposed, Success, Refused, Overtaken, Removed, Restarted, Attempt, Attempts, IsBorn, IsPending, IsEnded, IsClosed, IsOpen, IsOf, staged, handed_out, with_attempt, at_node}
use Rattle.rp_rangesafe.specs.Along.{entry, state}
use Rattle.rp_rangesafe.specs.World.{World, here, Event, Admit, Flush, Return, Refuse, Commit, Apply, Snapshot, Remove, Restart, MayAdmit, IsEvaluated, MayCommit, IsPassed, MayJump, Lawful, admitted, with_node, told, after_entry, overtaken, removed, restarted, happens}
use Rattle.rp_rangesafe.proofs.Tables.{at_attempt, at_other, at_nodes, node_same, node_other, at_with_node}
use Rattle.rp_rangesafe.proofs.One.{Good, closed_shut}
use Rattle.rp_rangesafe.proofs.Moves.{Move, stays, returns, refuses, removes, restarts, seq_behind}
use Rattle.rp_rangesafe.proofs.Turns.{same_command, overtakes, passes, tells, hands_out, grows, born_good}
use Rattle.rp_rangesafe.proofs.Worlds.{Extends, extends_less, extends_last, one_longer, state_so_far, Done, Pair, Sound, kept_same, pair_swapped, Turn, turn_staged, sound_by}

-- an ended attempt stays in its stage
pub told_ended : (c : Command) (v : Verdict) (g : Stage) → IsEnded g → g ≡ told c v g
told_ended c v Unborn h = refl
told_ended c v Waiting h = refl
told_ended c v (Proposed own) h = absurd h
told_ended c v (Success reply) h = refl
told_ended c v Refused h = refl
told_ended c v (Overtaken own passed) h = refl
told_ended c v (Removed own) h = refl
told_ended c v (Restarted own) h = refl

pub overtaken_ended : (lai : ℕ) (g : Stage) → IsEnded g → g ≡ overtaken lai g
overtaken_ended lai Unborn h = refl
overtaken_ended lai Waiting h = refl
overtaken_ended lai (Proposed own) h = absurd h
overtaken_ended lai (Success reply) h = refl
overtaken_ended lai Refused h = refl
overtaken_ended lai (Overtaken own passed) h = refl
overtaken_ended lai (Removed own) h = refl
overtaken_ended lai (Restarted own) h = refl

pub removed_ended : (g : Stage) → IsEnded g → g ≡ removed g
removed_ended Unborn h = refl
removed_ended Waiting h = absurd h
removed_ended (Proposed own) h = absurd h
removed_ended (Success reply) h = refl
removed_ended Refused h = refl
removed_ended (Overtaken own passed) h = refl
removed_ended (Removed own) h = refl
removed_ended (Restarted own) h = refl

pub restarted_ended : (g : Stage) → IsEnded g → g ≡ restarted g
restarted_ended Unborn h = refl
restarted_ended Waiting h = absurd h
restarted_ended (Proposed own) h = absurd h
restarted_ended (Success reply) h = refl
restarted_ended Refused h = refl
restarted_ended (Overtaken own passed) h = refl
restarted_ended (Removed own) h = refl
restarted_ended (Restarted own) h = refl

module _ (f : ℕ → Payload) (w : World) (s : Sound f w) where
  abbrev b : AppliedState
  b = w.start

  abbrev n : ℕ
  n = length w.log

  -- one attempt that turns, while nodes and list stay as they are
  abbrev Turns : CmdId → Attempt → Type 0
  Turns q x = Turn b f n (w.index x.node) (w.alive x.node) (w.barrier x.node) q (w.attempt q) x

  one_turns : (id : CmdId) (x : Attempt) → Turns id x → Sound f (record w { attempt = with_attempt w.attempt id x })
  one_turns id x t = sound_by f w s w.log w.index w.alive w.barrier (with_attempt w.attempt id x) s.within
      (at_attempt Turns w.attempt id x t (λ q _. record { good = s.good q; kept = kept_same (w.attempt q) }))

  sound_flush : (id : CmdId) (max : ℕ) → (w.attempt id).stage ≡ Waiting → 0 < max → Sound f (happens w (Flush id max))
  sound_flush id max e pos = one_turns id (handed_out (w.attempt id) max) (record {
    good = hands_out (s.good id) max e pos;
    kept = record { node = refl; start = refl; seq = refl; body = refl; born = λ _. subst IsBorn (sym e) tt; ended = λ h. absurd (subst IsEnded e h) };
  })

  sound_refuse : (id : CmdId) → (w.attempt id).stage ≡ Waiting → Sound f (happens w (Refuse id))
  sound_refuse id e = one_turns id (staged (w.attempt id) Refused)
      (turn_staged (s.good id) (refuses (s.good id) _ _ e (s.within _)) (λ h. absurd (subst IsEnded e h)))

  module _ (x : Extends f w.log) where
    sound_return : (id : CmdId) → IsPassed w id → Sound f (happens w (Return id))
    sound_return id h = one_turns id (staged (w.attempt id) Waiting)
        (turn_staged (s.good id)
        (returns (s.good id) h.own h.stage (s.within _) (subst (λ (t : AppliedState). h.own ≤ t.lai) (state_so_far f w x _ (s.within _)) h.passed))
        (λ c. absurd (subst IsEnded h.stage c)))

    -- a node goes on to a later index
    module _ (node to : ℕ) (live : w.alive node ≡ true) where
      abbrev Goes : CmdId → Attempt → Type 0
      Goes q a = Turn b f n (with_node w.index node to a.node) (w.alive a.node) (w.barrier a.node) q (w.attempt q) a

      goes_elsewhere : (q : CmdId) → ((w.attempt q).node ≡ node → ⊥) → Goes q (w.attempt q)
      goes_elsewhere q ne = record {
        good = subst (λ i. Good b f n i (w.alive (w.attempt q).node) (w.barrier (w.attempt q).node) q (w.attempt q)) (sym (node_other w.index node to (w.attempt q).node ne)) (s.good q);
        kept = kept_same (w.attempt q);
      }

      goes_here : (q : CmdId) (g : Stage) → (w.attempt q).node ≡ node
          → Turn b f n to (w.alive (w.attempt q).node) (w.barrier (w.attempt q).node) q (w.attempt q) (staged (w.attempt q) g) → Goes q (staged (w.attempt q) g)
      goes_here q g e t = subst (λ i. Turn b f n i (w.alive (w.attempt q).node) (w.barrier (w.attempt q).node) q (w.attempt q) (staged (w.attempt q) g))
          (sym (subst (λ m. with_node w.index node to m ≡ to) (sym e) (node_same w.index node to))) t

      goes_within : to ≤ n → (m : ℕ) → with_node w.index node to m ≤ n
      goes_within l = at_with_node (λ _ i. i ≤ n) w.index node to l (λ m _. s.within m)

      alive_there : (q : CmdId) → (w.attempt q).node ≡ node → w.alive (w.attempt q).node ≡ true
      alive_there q e = subst (λ m. w.alive m ≡ true) (sym e) live

    sound_snapshot : (node to : ℕ) → MayJump w node to → Sound f (happens w (Snapshot node to))
    sound_snapshot node to h =
        subst (λ (t : AppliedState). Sound f (record w { index = with_node w.index node to; attempt = at_node node (overtaken t.lai) w.attempt }))
        (sym (state_so_far f w x to h.within))
        (sound_by f w s w.log (with_node w.index node to) w.alive w.barrier (at_node node (overtaken (state b f to).lai) w.attempt)
        (goes_within node to h.live h.within)
        (at_nodes (Goes node to h.live) node (overtaken (state b f to).lai) w.attempt
        (λ q e. goes_here node to h.live q _ e (turn_staged (s.good q)
        (overtakes (s.good q) (alive_there node to h.live q e) to (subst (λ m. w.index m ≤ to) (sym e) h.onward) h.within)
        (overtaken_ended _ _)))
        (goes_elsewhere node to h.live)))

    module _ (node : ℕ) (live : w.alive node ≡ true) (some : w.index node < n) where
      abbrev p : ℕ
      p = w.index node

      entry_passes : (q : CmdId) → ((c : Command) → f p ≡ Write c → c.id ≡ q → ⊥) → Goes node (suc p) live q (w.attempt q)
      entry_passes q none = go (cases_eq (w.attempt q).node node) where
        go : ((w.attempt q).node ≡ node) ⊎ ((w.attempt q).node ≡ node → ⊥) → Goes node (suc p) live q (w.attempt q)
        go (inl e) = goes_here node (suc p) live q (w.attempt q).stage e (subst (λ i. Turn b f n (suc i) (w.alive (w.attempt q).node) (w.barrier (w.attempt q).node) q (w.attempt q) (w.attempt q))
            (ap w.index e)
            (turn_staged (s.good q) (passes (s.good q) (alive_there node (suc p) live q e) (subst (λ m. w.index m < n) (sym e) some)
            (subst (λ m. (c : Command) → f (w.index m) ≡ Write c → c.id ≡ q → ⊥) (sym e) none)) (λ _. refl)))
        go (inr ne) = goes_elsewhere node (suc p) live q ne

      entry_tells : (c : Command) → f p ≡ Write c → (q : CmdId) → (w.attempt q).node ≡ node → c.id ≡ q
          → Goes node (suc p) live q (staged (w.attempt q) (told c (verdict (state b f p) (Write c)) (w.attempt q).stage))
      entry_tells c h q e i = goes_here node (suc p) live q _ e
          (subst (λ m. Turn b f n (suc (w.index m)) (w.alive (w.attempt q).node) (w.barrier (w.attempt q).node) q (w.attempt q)
          (staged (w.attempt q) (told c (verdict (state b f (w.index m)) (Write c)) (w.attempt q).stage))) e
          (turn_staged (s.good q)
          (tells (s.good q) (alive_there node (suc p) live q e) (subst (λ m. w.index m < n) (sym e) some) c
          (subst (λ m. f (w.index m) ≡ Write c) (sym e) h) i)
          (told_ended c _ _)))

      entry_goes : (y : Payload) → f p ≡ y → (q : CmdId) → Goes node (suc p) live q (after_entry node (state b f p) y w.attempt q)
      entry_goes Nothing h q = entry_passes q (λ c e i. absurd cc)
      entry_goes (Lease ask) h q = entry_passes q (λ c e i. absurd cc)
      entry_goes (Write c) h q = at_attempt (Goes node (suc p) live) w.attempt c.id (at_node node (told c (verdict (state b f p) (Write c))) w.attempt c.id)
          (at_nodes (λ r a. c.id ≡ r → Goes node (suc p) live r a) node (told c (verdict (state b f p) (Write c))) w.attempt
          (λ r e i. entry_tells c h r e i) (λ r ne i. goes_elsewhere node (suc p) live r ne) c.id refl)
          (λ r ne. entry_passes r (λ d e i. ne (sym i ∙ ap (λ (z : Command). z.id) (same_command f p d c e h)))) q

      sound_apply : Sound f (happens w (Apply node))
      sound_apply =
          subst (λ (t : AppliedState). Sound f (record w { index = with_node w.index node (suc p); attempt = after_entry node t (entry w.log p) w.attempt }))
          (sym (state_so_far f w x p (s.within node)))
          (subst (λ y. Sound f (record w { index = with_node w.index node (suc p); attempt = after_entry node (state b f p) y w.attempt })) (x.at p some)
          (sound_by f w s w.log (with_node w.index node (suc p)) w.alive w.barrier (after_entry node (state b f p) (f p) w.attempt)
          (goes_within node (suc p) live (omega arith)) (entry_goes (f p) refl)))

  sound_remove : (node : ℕ) → w.alive node ≡ true → Sound f (happens w (Remove node))
  sound_remove node live = sound_by f w s w.log w.index (with_node w.alive node false) w.barrier (at_node node removed w.attempt) s.within
      (at_nodes Dies node removed w.attempt (λ q e. there q e (w.attempt q).stage refl) elsewhere) where
        Dies : CmdId → Attempt → Type 0
        Dies q a = Turn b f n (w.index a.node) (with_node w.alive node false a.node) (w.barrier a.node) q (w.attempt q) a

        elsewhere : (q : CmdId) → ((w.attempt q).node ≡ node → ⊥) → Dies q (w.attempt q)
        elsewhere q ne = record {
          good = subst (λ v. Good b f n (w.index (w.attempt q).node) v (w.barrier (w.attempt q).node) q (w.attempt q)) (sym (node_other w.alive node false (w.attempt q).node ne)) (s.good q);
          kept = kept_same (w.attempt q);
        }

        move : (q : CmdId) (g : Stage) → (w.attempt q).stage ≡ g
            → Move b f n (w.index (w.attempt q).node) (w.index (w.attempt q).node) false (w.barrier (w.attempt q).node) q (w.attempt q) (removed g)
        move q g e = go g e where
          same : Move b f n (w.index (w.attempt q).node) (w.index (w.attempt q).node) false (w.barrier (w.attempt q).node) q (w.attempt q) (w.attempt q).stage
          same = stays (s.good q) _ false _ (omega arith) (s.within _) (λ _. refl) (s.good q).restarted (λ _ k c lo hi t. omega arith)

          stay : (g : Stage) → (w.attempt q).stage ≡ g → Move b f n (w.index (w.attempt q).node) (w.index (w.attempt q).node) false (w.barrier (w.attempt q).node) q (w.attempt q) g
          stay g e = subst (Move b f n (w.index (w.attempt q).node) (w.index (w.attempt q).node) false (w.barrier (w.attempt q).node) q (w.attempt q)) e same

          go : (g : Stage) → (w.attempt q).stage ≡ g → Move b f n (w.index (w.attempt q).node) (w.index (w.attempt q).node) false (w.barrier (w.attempt q).node) q (w.attempt q) (removed g)
          go Unborn e = stay Unborn e
          go Waiting e = refuses (s.good q) false _ e (s.within _)
          go (Proposed own) e = removes (s.good q) own e (s.within _)
          go (Success reply) e = stay (Success reply) e
          go Refused e = stay Refused e
          go (Overtaken own passed) e = stay (Overtaken own passed) e
          go (Removed own) e = stay (Removed own) e
          go (Restarted own) e = stay (Restarted own) e

        there : (q : CmdId) → (w.attempt q).node ≡ node → (g : Stage) → (w.attempt q).stage ≡ g → Dies q (staged (w.attempt q) (removed (w.attempt q).stage))
        there q e g h = subst (λ v. Turn b f n (w.index (w.attempt q).node) v (w.barrier (w.attempt q).node) q (w.attempt q) (staged (w.attempt q) (removed (w.attempt q).stage)))
            (sym (subst (λ m. with_node w.alive node false m ≡ false) (sym e) (node_same w.alive node false)))
            (turn_staged (s.good q) (move q (w.attempt q).stage refl) (removed_ended _))

  module _ (x : Extends f w.log) where
    module _ (node : ℕ) where
      abbrev bar : ℕ
      bar = (state b f (w.index node)).lease.seq

      abbrev Resumes : CmdId → Attempt → Type 0
      Resumes q a = Turn b f n (w.index a.node) (w.alive a.node) (with_node w.barrier node bar a.node) q (w.attempt q) a

      resumes_elsewhere : (q : CmdId) → ((w.attempt q).node ≡ node → ⊥) → Resumes q (w.attempt q)
      resumes_elsewhere q ne = record {
        good = subst (λ v. Good b f n (w.index (w.attempt q).node) (w.alive (w.attempt q).node) v q (w.attempt q)) (sym (node_other w.barrier node bar (w.attempt q).node ne)) (s.good q);
        kept = kept_same (w.attempt q);
      }

      module _ (q : CmdId) (above : (state b f (w.index (w.attempt q).node)).lease.seq ≤ bar) where
        abbrev To : Stage → Type 0
        To g = Move b f n (w.index (w.attempt q).node) (w.index (w.attempt q).node) (w.alive (w.attempt q).node) bar q (w.attempt q) g

        under : (g : Stage) → (w.attempt q).stage ≡ g → (own : ℕ) → g ≡ Restarted own → (w.attempt q).seq ≤ bar
        under g e own h = let l = seq_behind (s.good q) (subst IsBorn (sym (e ∙ h)) tt) in omega arith

        resumes_stay : (g : Stage) → (w.attempt q).stage ≡ g → To g
        resumes_stay g e = subst To e (stays (s.good q) _ _ bar (omega arith) (s.within _) (λ d. d) (under (w.attempt q).stage refl) (λ _ k c lo hi t. omega arith))

        resumes_move : (g : Stage) → (w.attempt q).stage ≡ g → To (restarted g)
        resumes_move Unborn e = resumes_stay Unborn e
        resumes_move Waiting e = refuses (s.good q) _ bar e (s.within _)
        resumes_move (Proposed own) e = restarts (s.good q) own bar e (s.within _) above
        resumes_move (Success reply) e = resumes_stay (Success reply) e
        resumes_move Refused e = resumes_stay Refused e
        resumes_move (Overtaken own passed) e = resumes_stay (Overtaken own passed) e
        resumes_move (Removed own) e = resumes_stay (Removed own) e
        resumes_move (Restarted own) e = resumes_stay (Restarted own) e

      resumes_there : (q : CmdId) → (w.attempt q).node ≡ node → Resumes q (staged (w.attempt q) (restarted (w.attempt q).stage))
      resumes_there q e = subst (λ v. Turn b f n (w.index (w.attempt q).node) (w.alive (w.attempt q).node) v q (w.attempt q) (staged (w.attempt q) (restarted (w.attempt q).stage)))
          (sym (subst (λ m. with_node w.barrier node bar m ≡ bar) (sym e) (node_same w.barrier node bar)))
          (turn_staged (s.good q) (resumes_move q (subst (λ m. (state b f (w.index m)).lease.seq ≤ bar) (sym e) (omega arith)) (w.attempt q).stage refl) (restarted_ended _))

      sound_restart : Sound f (happens w (Restart node))
      sound_restart =
          subst (λ (t : AppliedState). Sound f (record w { barrier = with_node w.barrier node t.lease.seq; attempt = at_node node restarted w.attempt }))
          (sym (state_so_far f w x (w.index node) (s.within node)))
          (sound_by f w s w.log w.index w.alive (with_node w.barrier node bar) (at_node node restarted w.attempt) s.within
          (at_nodes Resumes node restarted w.attempt resumes_there resumes_elsewhere))

    -- a new attempt and one that was made before
    module _ (id : CmdId) (node : ℕ) (body : Body) (may : MayAdmit w id node body) where
      now : here w node ≡ state b f (w.index node)
      now = state_so_far f w x (w.index node) (s.within node)

      new : Attempt
      new = admitted w node body

      ended : (q : CmdId) → (w.attempt q).node ≡ node → IsClosed (w.attempt q).stage → Done b f (w.attempt q) (w.index node)
      ended q e closed = record {
        closed = closed;
        blocked = λ m h. subst (λ k. IsBlocked (state b f (w.index k)) (w.attempt q).seq m) e (shut m ((s.good q).blocked m h));
      } where
        shut : (m : ℕ) → IsOpen (w.attempt q).stage m ⊎ IsBlocked (state b f (w.index (w.attempt q).node)) (w.attempt q).seq m
            → IsBlocked (state b f (w.index (w.attempt q).node)) (w.attempt q).seq m
        shut m (inl o) = absurd (closed_shut (w.attempt q).stage m closed o)
        shut m (inr h) = h

      abbrev Parts : CmdId → Type 0
      Parts q = Apart (covers body.request) (covers (w.attempt q).body.request)
          ⊎ (Done b f (admitted w node body) (w.attempt q).from ⊎ Done b f (w.attempt q) (w.index node))

      new_pair : (q : CmdId) → Pair b f (admitted w node body) (w.attempt q)
      new_pair q = record { apart = λ _ born e same. go (w.attempt q).stage refl born (sym e) same } where
        apart : (g : Stage) → (w.attempt q).stage ≡ g → IsPending g → (w.attempt q).node ≡ node → Parts q
        apart g e h k = inl (may.latched q (subst IsPending (sym e) h) k)

        done : (g : Stage) → (w.attempt q).stage ≡ g → IsClosed g → (w.attempt q).node ≡ node → Parts q
        done g e h k = inr (inr (ended q k (subst IsClosed (sym e) h)))

        go : (g : Stage) → (w.attempt q).stage ≡ g → IsBorn g → (w.attempt q).node ≡ node → (here w node).lease.seq ≡ (w.attempt q).seq → Parts q
        go Unborn e h k same = absurd h
        go Waiting e h k same = apart Waiting e tt k
        go (Proposed own) e h k same = apart (Proposed own) e tt k
        go (Success reply) e h k same = done (Success reply) e tt k
        go Refused e h k same = done Refused e tt k
        go (Overtaken own passed) e h k same = done (Overtaken own passed) e tt k
        go (Removed own) e h k same = let dead = (s.good q).removed own e in let live = subst (λ m. w.alive m ≡ true) (sym k) may.live in absurd cc
        go (Restarted own) e h k same =
            let below = (s.good q).restarted own e in
            let past = may.passed in
            let bars : w.barrier (w.attempt q).node ≡ w.barrier node = ap w.barrier k in
            absurd (omega arith)

      new_good : Good b f n (w.index node) (w.alive node) (w.barrier node) id (admitted w node body)
      new_good = subst (λ (t : AppliedState). Good b f n (w.index node) (w.alive node) (w.barrier node) id
          (record { stage = Waiting; node = node; from = w.index node; seq = t.lease.seq; body = body; maxima = [] })) (sym now)
          (born_good (s.good id) (w.index node) (w.alive node) (w.barrier node) node body may.new (s.within node)
          (subst (λ (t : AppliedState). t.lease.holder ≡ node) now may.holds) (subst (λ t. IsEvaluated t body) now may.evaluates))

      attempts : Attempts
      attempts = with_attempt w.attempt id (admitted w node body)

      sound_admit : Sound f (happens w (Admit id node body))
      sound_admit = record {
        within = s.within;
        good = at_attempt (λ q a. Good b f n (w.index a.node) (w.alive a.node) (w.barrier a.node) q a) w.attempt id (admitted w node body) new_good (λ q _. s.good q);
        pairs = pairs;
      } where
        pairs : (y z : CmdId) → (y ≡ z → ⊥) → Pair b f (with_attempt w.attempt id (admitted w node body) y) (with_attempt w.attempt id (admitted w node body) z)
        pairs y z = at_attempt (λ q a. (q ≡ z → ⊥) → Pair b f a (with_attempt w.attempt id (admitted w node body) z)) w.attempt id (admitted w node body)
            (λ ne. subst (Pair b f (admitted w node body)) (sym (at_other w.attempt id (admitted w node body) z (λ e. ne (sym e)))) (new_pair z))
            (λ q other ne. at_attempt (λ r a. (q ≡ r → ⊥) → Pair b f (w.attempt q) a) w.attempt id (admitted w node body)
            (λ _. pair_swapped b f (admitted w node body) (w.attempt q) (new_pair q))
            (λ r _ ne'. s.pairs q r ne') z ne) y

  sound_commit : (p : Payload) → MayCommit w p → Extends f (w.log ++ p ∷ []) → Sound f (happens w (Commit p))
  sound_commit p may x = sound_by f w s (w.log ++ p ∷ []) w.index w.alive w.barrier w.attempt
      (λ node. let l = s.within node in let e = one_longer f w.log p x in omega arith)
      (λ q. record {
        good = subst (λ m. Good b f m (w.index (w.attempt q).node) (w.alive (w.attempt q).node) (w.barrier (w.attempt q).node) q (w.attempt q)) (sym (one_longer f w.log p x))
            (grows (s.good q) (s.within _) (λ c h i. handed q c (sym (extends_last f w.log p x) ∙ h) i));
        kept = kept_same (w.attempt q);
      }) where
        handed : (q : CmdId) (c : Command) → p ≡ Write c → c.id ≡ q → IsOf (w.attempt q) c
        handed q c e i = subst (λ r. IsOf (w.attempt r) c) i (subst (MayCommit w) e may)

-- the list of a range after an event begins with its list before
pub extends_before : (f : ℕ → Payload) (w : World) (e : Event) → Extends f (happens w e).log → Extends f w.log
extends_before f w (Admit id node body) x = x
extends_before f w (Flush id max) x = x
extends_before f w (Return id) x = x
extends_before f w (Refuse id) x = x
extends_before f w (Commit p) x = extends_less f w.log p x
extends_before f w (Apply node) x = x
extends_before f w (Snapshot node to) x = x
extends_before f w (Remove node) x = x
extends_before f w (Restart node) x = x

-- a lawful event keeps a range sound
pub sound_step : (f : ℕ → Payload) (w : World) (e : Event) → Lawful w e → Extends f (happens w e).log → Sound f w → Sound f (happens w e)
sound_step f w (Admit id node body) h x s = sound_admit f w s x id node body h
sound_step f w (Flush id max) h x s = sound_flush f w s id max h.0 h.1
sound_step f w (Return id) h x s = sound_return f w s x id h
sound_step f w (Refuse id) h x s = sound_refuse f w s id h
sound_step f w (Commit p) h x s = sound_commit f w s p h x
sound_step f w (Apply node) h x s = sound_apply f w s x node h.0 h.1
sound_step f w (Snapshot node to) h x s = sound_snapshot f w s x node to h
sound_step f w (Remove node) h x s = sound_remove f w s node h
sound_step f w (Restart node) h x s = sound_restart f w s x node
