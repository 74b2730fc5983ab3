-- What an event makes, what it leaves to other nodes, and what may be committed from then on.
use Rattle.std.proofs.Common.{◌≡◌, ℕ, ◌⊎◌, inl, inr, List, [], ◌∷◌, refl, sym, ap, subst, ◌∙◌}
use Rattle.rp_base.specs.declared.ids.CmdId.{CmdId}
use Rattle.rp_request.specs.declared.commands.Payload.{Payload}
use Rattle.rp_request.specs.declared.commands.Payload.TheVariants.{Nothing, Write, Lease}
use Rattle.rp_request.specs.declared.commands.Command.{Command}
use Rattle.rp_request.specs.Applied.{AppliedState, verdict}
use Rattle.rp_rangesafe.specs.Attempts.{Body, Stage, Unborn, Waiting, Refused, Attempt, Attempts, IsBorn, IsBornAt, IsOf, staged, handed_out, with_attempt, at_node}
use Rattle.rp_rangesafe.specs.Along.{entry}
use Rattle.rp_rangesafe.specs.World.{World, state_at, here, Event, Admit, Flush, Return, Refuse, Commit, Apply, Snapshot, Remove, Restart, MayCommit, Lawful, AllLawful, admitted, told, after_entry, overtaken, removed, restarted, happens, run}
use Rattle.rp_rangesafe.specs.Places.{IsReached, IsLater, HappensAt}
use Rattle.rp_rangesafe.proofs.Tables.{at_attempt, at_same, at_nodes, node_other}
use Rattle.rp_rangesafe.proofs.One.{no_maximum}
use Rattle.rp_rangesafe.proofs.Growth.{Admits, made_before}
use Rattle.rp_rangesafe.proofs.Runs.{later_reached}
use Rattle.rp_rangesafe.proofs.OneRange.{none_unborn}

-- a command of an attempt stays one of it in another stage
of_staged : (a : Attempt) (g : Stage) (c : Command) → IsOf a c → IsOf (staged a g) c
of_staged a g c o = record { seq = o.seq; request = o.request; batch = o.batch; reply = o.reply; max = o.max }

module _ (f : Attempts) (c : Command) where
  -- it stays so where one attempt changes, and where those of a node change their stage
  of_one : (id : CmdId) (a : Attempt) → (IsOf (f id) c → IsOf a c) → (q : CmdId) → IsOf (f q) c → IsOf (with_attempt f id a q) c
  of_one id a h = at_attempt (λ q x. IsOf (f q) c → IsOf x c) f id a h (λ q _ o. o)

  of_node : (node : ℕ) (m : Stage → Stage) (q : CmdId) → IsOf (f q) c → IsOf (at_node node m f q) c
  of_node node m = at_nodes (λ q x. IsOf (f q) c → IsOf x c) node m f (λ q _. of_staged (f q) (m (f q).stage) c) (λ q _ o. o)

  of_entry : (node : ℕ) (s : AppliedState) (p : Payload) (q : CmdId) → IsOf (f q) c → IsOf (after_entry node s p f q) c
  of_entry node s Nothing q o = o
  of_entry node s (Write d) q o = of_one d.id (at_node node (told d (verdict s (Write d))) f d.id)
      (of_node node (told d (verdict s (Write d))) d.id) q o
  of_entry node s (Lease ask) q o = o

-- a command that was handed out stays one of its attempt: only an attempt that was not made is
-- overwritten
of_step : (w : World) → IsReached w → (e : Event) → Lawful w e → (q : CmdId) (c : Command) → IsOf (w.attempt q) c → IsOf ((happens w e).attempt q) c
of_step w r (Admit id node body) l q c o = of_one w.attempt c id (admitted w node body)
    (λ old. absurd (no_maximum (w.attempt id).maxima c.max (none_unborn w r id l.new) old.max)) q o
of_step w r (Flush id max) l q c o = of_one w.attempt c id (handed_out (w.attempt id) max)
    (λ old. record { seq = old.seq; request = old.request; batch = old.batch; reply = old.reply; max = inr old.max }) q o
of_step w r (Return id) l q c o = of_one w.attempt c id (staged (w.attempt id) Waiting) (of_staged (w.attempt id) Waiting c) q o
of_step w r (Refuse id) l q c o = of_one w.attempt c id (staged (w.attempt id) Refused) (of_staged (w.attempt id) Refused c) q o
of_step w r (Commit p) l q c o = o
of_step w r (Apply node) l q c o = of_entry w.attempt c node (here w node) (entry w.log (w.index node)) q o
of_step w r (Snapshot node to) l q c o = of_node w.attempt c node (overtaken (state_at w to).lai) q o
of_step w r (Remove node) l q c o = of_node w.attempt c node removed q o
of_step w r (Restart node) l q c o = of_node w.attempt c node restarted q o

of_run : (w : World) → IsReached w → (es : List Event) → AllLawful w es → (q : CmdId) (c : Command) → IsOf (w.attempt q) c → IsOf ((run w es).attempt q) c
of_run w r [] l q c o = o
of_run w r (e ∷ es) l q c o =
    of_run (happens w e) (later_reached w (happens w e) r (record { events = e ∷ []; lawful = (l.0, tt); reached = refl })) es l.1 q c (of_step w r e l.0 q c o)

-- what may be committed stays so
pub may_commit_later : (w : World) → IsReached w → (later : World) → IsLater w later → (p : Payload) → MayCommit w p → MayCommit later p
may_commit_later w r later l Nothing m = tt
may_commit_later w r later l (Write c) m = subst (λ (v : World). IsOf (v.attempt c.id) c) l.reached (of_run w r l.events l.lawful c.id c m)
may_commit_later w r later l (Lease ask) m = m

-- an admission makes the attempt, and nothing else does
pub admits : (w : World) (id : CmdId) (node : ℕ) (body : Body) → (happens w (Admit id node body)).attempt id ≡ admitted w node body
admits w id node body = at_same w.attempt id (admitted w node body)

-- at its admission an attempt has its node's index and lease sequence
pub record AsItsNode (w : World) (a : Attempt) : Type 0 where
  pub index : a.from ≡ w.index a.node
  pub seq : a.seq ≡ (here w a.node).lease.seq
  pub holder : (here w a.node).lease.holder ≡ a.node

admits_so : (w : World) (e : Event) → Lawful w e → (q : CmdId) → Admits e q → AsItsNode w ((happens w e).attempt q)
admits_so w (Admit id node body) l q e = subst (AsItsNode w) (sym (ap (happens w (Admit id node body)).attempt e ∙ admits w id node body))
    (record { index = refl; seq = refl; holder = l.holds })
admits_so w (Flush id max) l q e = absurd e
admits_so w (Return id) l q e = absurd e
admits_so w (Refuse id) l q e = absurd e
admits_so w (Commit p) l q e = absurd e
admits_so w (Apply node) l q e = absurd e
admits_so w (Snapshot node to) l q e = absurd e
admits_so w (Remove node) l q e = absurd e
admits_so w (Restart node) l q e = absurd e

pub as_its_node : (w : World) (e : Event) → Lawful w e → (id : CmdId) → (w.attempt id).stage ≡ Unborn → IsBorn ((happens w e).attempt id).stage
    → AsItsNode w ((happens w e).attempt id)
as_its_node w e l id new born = go (made_before w e l id born) where
  go : IsBorn (w.attempt id).stage ⊎ Admits e id → AsItsNode w ((happens w e).attempt id)
  go (inl b) = absurd (subst IsBorn new b)
  go (inr a) = admits_so w e l id a

-- a node at which an event does not happen keeps its index, its replica and its barrier
module _ (w : World) (m : ℕ) where
  pub index_elsewhere : (e : Event) → (HappensAt w e m → ⊥) → (happens w e).index m ≡ w.index m
  index_elsewhere (Admit id node body) h = refl
  index_elsewhere (Flush id max) h = refl
  index_elsewhere (Return id) h = refl
  index_elsewhere (Refuse id) h = refl
  index_elsewhere (Commit p) h = refl
  index_elsewhere (Apply node) h = node_other w.index node _ m h
  index_elsewhere (Snapshot node to) h = node_other w.index node to m h
  index_elsewhere (Remove node) h = refl
  index_elsewhere (Restart node) h = refl

  pub alive_elsewhere : (e : Event) → (HappensAt w e m → ⊥) → (happens w e).alive m ≡ w.alive m
  alive_elsewhere (Admit id node body) h = refl
  alive_elsewhere (Flush id max) h = refl
  alive_elsewhere (Return id) h = refl
  alive_elsewhere (Refuse id) h = refl
  alive_elsewhere (Commit p) h = refl
  alive_elsewhere (Apply node) h = refl
  alive_elsewhere (Snapshot node to) h = refl
  alive_elsewhere (Remove node) h = node_other w.alive node _ m h
  alive_elsewhere (Restart node) h = refl

  pub barrier_elsewhere : (e : Event) → (HappensAt w e m → ⊥) → (happens w e).barrier m ≡ w.barrier m
  barrier_elsewhere (Admit id node body) h = refl
  barrier_elsewhere (Flush id max) h = refl
  barrier_elsewhere (Return id) h = refl
  barrier_elsewhere (Refuse id) h = refl
  barrier_elsewhere (Commit p) h = refl
  barrier_elsewhere (Apply node) h = refl
  barrier_elsewhere (Snapshot node to) h = refl
  barrier_elsewhere (Remove node) h = refl
  barrier_elsewhere (Restart node) h = node_other w.barrier node _ m h

  -- and each attempt that is this node's, before the event or after it
  module _ (f : Attempts) where
    one_elsewhere : (id : CmdId) (a : Attempt) → ((f id).node ≡ m → ⊥) → a.node ≡ (f id).node
        → (q : CmdId) → ((f q).node ≡ m) ⊎ ((with_attempt f id a q).node ≡ m) → with_attempt f id a q ≡ f q
    one_elsewhere id a other same = at_attempt (λ q x. ((f q).node ≡ m) ⊎ (x.node ≡ m) → x ≡ f q) f id a
        (λ h. absurd (go h)) (λ q _ _. refl) where
          go : ((f id).node ≡ m) ⊎ (a.node ≡ m) → ⊥
          go (inl e) = other e
          go (inr e) = other (sym same ∙ e)

    staged_elsewhere : (node : ℕ) (g : Stage → Stage) → (m ≡ node → ⊥) → (q : CmdId)
        → ((f q).node ≡ m) ⊎ ((at_node node g f q).node ≡ m) → at_node node g f q ≡ f q
    staged_elsewhere node g other = at_nodes (λ q x. ((f q).node ≡ m) ⊎ (x.node ≡ m) → x ≡ f q) node g f
        (λ q e h. absurd (go q e h)) (λ q _ _. refl) where
          go : (q : CmdId) → (f q).node ≡ node → ((f q).node ≡ m) ⊎ ((f q).node ≡ m) → ⊥
          go q e (inl h) = other (sym h ∙ e)
          go q e (inr h) = other (sym h ∙ e)

    entry_elsewhere : (node : ℕ) (s : AppliedState) (p : Payload) → (m ≡ node → ⊥) → (q : CmdId)
        → ((f q).node ≡ m) ⊎ ((after_entry node s p f q).node ≡ m) → after_entry node s p f q ≡ f q
    entry_elsewhere node s Nothing other q h = refl
    entry_elsewhere node s (Write c) other q h = at_attempt (λ q x. ((f q).node ≡ m) ⊎ (x.node ≡ m) → x ≡ f q) f c.id
        (at_node node (told c (verdict s (Write c))) f c.id)
        (staged_elsewhere node (told c (verdict s (Write c))) other c.id) (λ q _ _. refl) q h
    entry_elsewhere node s (Lease ask) other q h = refl

  nodes : (e : Event) (q : CmdId)
      → IsBornAt (w.attempt q) m ⊎ IsBornAt ((happens w e).attempt q) m
      → ((w.attempt q).node ≡ m) ⊎ (((happens w e).attempt q).node ≡ m)
  nodes e q (inl h) = inl h.1
  nodes e q (inr h) = inr h.1

  -- a born attempt at the node, before or after
  pub attempt_elsewhere : (e : Event) → Lawful w e → (HappensAt w e m → ⊥) → (q : CmdId)
      → IsBornAt (w.attempt q) m ⊎ IsBornAt ((happens w e).attempt q) m
      → (happens w e).attempt q ≡ w.attempt q
  attempt_elsewhere (Admit id node body) l h q k = at_attempt (λ q x. IsBornAt (w.attempt q) m ⊎ IsBornAt x m → x ≡ w.attempt q)
      w.attempt id (admitted w node body) (λ k. absurd (new k)) (λ q _ _. refl) q k where
        new : IsBornAt (w.attempt id) m ⊎ (Unit {0} × (node ≡ m)) → ⊥
        new (inl b) = subst IsBorn l.new b.0
        new (inr b) = h (sym b.1)
  attempt_elsewhere (Flush id max) l h q k = one_elsewhere w.attempt id _ (λ e. h (sym e)) refl q (nodes (Flush id max) q k)
  attempt_elsewhere (Return id) l h q k = one_elsewhere w.attempt id _ (λ e. h (sym e)) refl q (nodes (Return id) q k)
  attempt_elsewhere (Refuse id) l h q k = one_elsewhere w.attempt id _ (λ e. h (sym e)) refl q (nodes (Refuse id) q k)
  attempt_elsewhere (Commit p) l h q k = refl
  attempt_elsewhere (Apply node) l h q k = entry_elsewhere w.attempt node _ (entry w.log (w.index node)) h q (nodes (Apply node) q k)
  attempt_elsewhere (Snapshot node to) l h q k = staged_elsewhere w.attempt node _ h q (nodes (Snapshot node to) q k)
  attempt_elsewhere (Remove node) l h q k = staged_elsewhere w.attempt node _ h q (nodes (Remove node) q k)
  attempt_elsewhere (Restart node) l h q k = staged_elsewhere w.attempt node _ h q (nodes (Restart node) q k)
