-- Each command has at most one place over all ranges and attempts.
use Rattle.std.proofs.Common.{◌≡◌, ℕ, ◌<◌, eqb, IsTrue, ◌⊎◌, inl, inr, length, refl, sym, ap, subst, ◌∙◌, arith, eqb-true}
use Rattle.std.proofs.lemmas.Bool.{cases_order, and_parts}
use Rattle.rp_base.specs.declared.ids.CmdId.{CmdId}
use Rattle.rp_base.proofs.IdLaws.{id_by_parts}
use Rattle.rp_request.specs.declared.commands.Command.{Command}
use Rattle.rp_request.specs.Places.{is_of, IsOnce, IsOnceInAll}
use Rattle.rp_request.proofs.Once.{once_by_index}
use Rattle.rp_rangesafe.specs.Attempts.{IsBorn}
use Rattle.rp_rangesafe.specs.Along.{entry}
use Rattle.rp_rangesafe.specs.World.{World}
use Rattle.rp_rangesafe.specs.Places.{IsReached, IsPlace, items_to}
use Rattle.rp_rangesafe.specs.Ranges.{At, Ranges, IsMade, IsRefusedAt, IsRefused, AreReached, lists}
use Rattle.rp_rangesafe.proofs.One.{born_with}
use Rattle.rp_rangesafe.proofs.Worlds.{extends_itself}
use Rattle.rp_rangesafe.proofs.Runs.{sound_reached, later_itself}
use Rattle.rp_rangesafe.proofs.OneRange.{one_place_of, refused_never}
use Rattle.rp_rangesafe.proofs.Listed.{Listed, listed_by}
use Rattle.rp_rangesafe.proofs.Whole.{Whole, whole_reached}

-- an attempt with a place was admitted
pub placed_born : (w : World) → IsReached w → (id : CmdId) (k : ℕ) (c : Command) → IsPlace w id k c → IsBorn (w.attempt id).stage
placed_born w r id k c p =
    let s = sound_reached (entry w.log) w r (extends_itself w.log) in
    let g = s.good id in
    born_with (w.attempt id) c.max g.fresh (g.entries k c p.within p.takes.here p.named).of.max

-- two places of a command are one, whichever its attempts
pub once_over : (w : Ranges) → AreReached w → (q r j k : ℕ) (x y : CmdId) (c d : Command) → x.client ≡ y.client → x.seq ≡ y.seq
    → IsPlace (w.range q) x j c → IsPlace (w.range r) y k d → (q ≡ r) × (j ≡ k)
once_over w reach q r j k x y c d same_client same_seq t u = go (cases_order x.attempt y.attempt) where
  h : Whole w
  h = whole_reached w reach

  at_x : w.owner x ≡ At q
  at_x = h.owned q x (placed_born (w.range q) (h.reached q) x j c t)

  at_y : w.owner y ≡ At r
  at_y = h.owned r y (placed_born (w.range r) (h.reached r) y k d u)

  -- an attempt with a place was not refused
  unrefused : (z : CmdId) (p i : ℕ) (e : Command) → w.owner z ≡ At p → IsPlace (w.range p) z i e → IsRefused w z → ⊥
  unrefused z p i e o place f =
      refused_never (w.range p) (h.reached p) z (subst (IsRefusedAt w z) o f) (w.range p) i e (later_itself (w.range p)) place

  made : (z : CmdId) (p : ℕ) → w.owner z ≡ At p → IsMade (w.owner z)
  made z p o = subst IsMade (sym o) tt

  here : x ≡ y → q ≡ r → (q ≡ r) × (j ≡ k)
  here e f = (f, one_place_of (w.range r) (h.reached r) y j k c d (subst (λ z. IsPlace (w.range r) z j c) e (subst (λ p. IsPlace (w.range p) x j c) f t)) u)

  range_of : At q ≡ At r → q ≡ r
  range_of e = cc

  go : (x.attempt ≡ y.attempt) ⊎ ((x.attempt < y.attempt) ⊎ (y.attempt < x.attempt)) → (q ≡ r) × (j ≡ k)
  go (inl e) = let same : x ≡ y = id_by_parts x y same_client same_seq e in here same (range_of (sym at_x ∙ ap w.owner same ∙ at_y))
  go (inr (inl l)) = absurd (unrefused x q j c at_x t (h.turns x y same_client same_seq (h.counted x (made x q at_x)) l (made y r at_y)))
  go (inr (inr l)) = absurd (unrefused y r k d at_y u (h.turns y x (sym same_client) (sym same_seq) (h.counted y (made y r at_y)) l (made x q at_x)))

-- the attempt is one of the command
is_client : (client seq : ℕ) (id : CmdId) → IsTrue (is_of client seq id) → (id.client ≡ client) × (id.seq ≡ seq)
is_client client seq id h = let p = and_parts (eqb id.client client) (eqb id.seq seq) h in (eqb-true _ _ p.0, eqb-true _ _ p.1)

listed_place : (w : World) (client seq j : ℕ) → (l : Listed w client seq (length w.log) j) → IsPlace w l.command.id l.index l.command
listed_place w client seq j l = record { within = l.within; takes = l.takes; named = refl }

pub once_in_all : (w : Ranges) → AreReached w → IsOnceInAll (lists w)
once_in_all w reach client seq q i r j p t =
    let x = listed_by (w.range q) client seq (length (w.range q).log) (omega arith) i p.item p.here p.named in
    let y = listed_by (w.range r) client seq (length (w.range r).log) (omega arith) j t.item t.here t.named in
    let a = is_client client seq x.command.id x.named in
    let b = is_client client seq y.command.id y.named in
    let one = once_over w reach q r x.index y.index x.command.id y.command.id x.command y.command (a.0 ∙ sym b.0) (a.1 ∙ sym b.1)
    (listed_place (w.range q) client seq i x) (listed_place (w.range r) client seq j y) in
    same q i r j x.index y.index x.at y.at one.0 one.1
  where
    same : (q i r j m n : ℕ) → i ≡ length (items_to (w.range q) m) → j ≡ length (items_to (w.range r) n) → q ≡ r → m ≡ n → (q ≡ r) × (i ≡ j)
    same q i r j m n e f a b = (a, e ∙ ap (λ z. length (items_to (w.range z) m)) a ∙ ap (λ z. length (items_to (w.range r) z)) b ∙ sym f)

pub once_in_each : (w : Ranges) → AreReached w → (r : ℕ) → IsOnce (lists w r)
once_in_each w reach r = once_by_index (lists w r) (λ client seq i j p q.
    (once_in_all w reach client seq r i r j (record { item = p.item; here = p.here; named = p.named }) (record { item = q.item; here = q.here; named = q.named })).1)
