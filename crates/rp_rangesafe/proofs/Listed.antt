-- The items of a list and the places of commands.
use Rattle.std.proofs.Common.{◌≡◌, ℕ, zero, suc, ◌+◌, ◌<◌, ◌≤◌, IsTrue, ◌⊎◌, inl, inr, List, [], ◌∷◌, ◌++◌, length, Option, Some, None, slice_get, refl, sym, ap, subst, ◌∙◌, arith}
use Rattle.rp_base.specs.declared.ranges.Desc.{Desc}
use Rattle.rp_base.specs.declared.leases.Lease as leases
use Rattle.rp_request.specs.declared.commands.Payload.{Payload}
use Rattle.rp_request.specs.declared.commands.Payload.TheVariants.{Nothing, Write, Lease}
use Rattle.rp_request.specs.declared.commands.Command.{Command}
use Rattle.rp_request.specs.declared.items.Place.{Place}
use Rattle.rp_request.specs.declared.items.Place.TheVariants as places
use Rattle.rp_request.specs.declared.requests.Request.{Request}
use Rattle.rp_request.specs.declared.requests.Request.TheVariants.{Put, Add, CPut, Del, Wipe, Move, Split}
use Rattle.rp_request.specs.Places.{is_of, names}
use Rattle.rp_request.specs.Records.{applied}
use Rattle.rp_request.specs.Applied.{AppliedState, command_verdict, asked, item, item_by, command_record, ask_record, record_of}
use Rattle.rp_request.specs.declared.verdicts.Verdict.{Verdict}
use Rattle.rp_request.specs.declared.verdicts.Verdict.TheVariants.{Took, OldLease, OldIndex, LeaseMoved}
use Rattle.rp_request.specs.declared.verdicts.Verdict.TheVariants as verdicts
use Rattle.rp_rangesafe.specs.Along.{entry, Takes}
use Rattle.rp_rangesafe.specs.World.{World, state_at}
use Rattle.rp_rangesafe.specs.Places.{items_to}
use Rattle.rp_rangesafe.proofs.Folds.{one_more}

-- an element of a list with one or none more behind
front : (xs ys : List Place) (j : ℕ) (x : Place) → slice_get (xs ++ ys) j ≡ Some x
    → (slice_get xs j ≡ Some x) ⊎ ((i : ℕ) × (j ≡ length xs + i) × (slice_get ys i ≡ Some x))
front [] ys j x e = inr (j, omega arith, e)
front (z ∷ xs) ys zero x e = inl e
front (z ∷ xs) ys (suc j) x e = go (front xs ys j x e) where
  go : (slice_get xs j ≡ Some x) ⊎ ((i : ℕ) × (j ≡ length xs + i) × (slice_get ys i ≡ Some x))
      → (slice_get (z ∷ xs) (suc j) ≡ Some x) ⊎ ((i : ℕ) × (suc j ≡ length (z ∷ xs) + i) × (slice_get ys i ≡ Some x))
  go (inl h) = inl h
  go (inr h) = let same : j ≡ length xs + h.0 = h.1 in inr (h.0, omega arith, h.2)

named_by : (d : Desc) (c : Command) (r : Request) (client seq : ℕ) → IsTrue (names client seq (item_by d c r)) → IsTrue (is_of client seq c.id)
named_by d c (Put key value) client seq h = h
named_by d c (Add key by) client seq h = h
named_by d c (CPut key expect value) client seq h = h
named_by d c (Del key) client seq h = h
named_by d c (Wipe span) client seq h = h
named_by d c (Move from to by) client seq h = h
named_by d c (Split key) client seq h = h

-- an item of an entry that names a command
pub record Item (s : AppliedState) (p : Payload) (client seq : ℕ) (x : Place) : Type 0 where
  pub command : Command
  pub here : p ≡ Write command
  pub took : command_verdict s command ≡ Took
  pub named : IsTrue (is_of client seq command.id)

one_item : (s : AppliedState) (p : Payload) (client seq i : ℕ) (x : Place) → slice_get (applied (record_of s p ∷ [])) i ≡ Some x
    → IsTrue (names client seq x) → (i ≡ 0) × Item s p client seq x
one_item s Nothing client seq i x e h = absurd cc
one_item s (Write c) client seq i x e h = go (command_verdict s c) refl i e where
  go : (v : Verdict) → command_verdict s c ≡ v → (i : ℕ) → slice_get (applied (command_record s.desc c v ∷ [])) i ≡ Some x → (i ≡ 0) × Item s (Write c) client seq x
  go Took v zero k =
      let same : item s.desc c ≡ x = cc in
      (refl, record { command = c; here = refl; took = v; named = named_by s.desc c c.request client seq (subst (λ y. IsTrue (names client seq y)) (sym same) h) })
  go Took v (suc j) k = absurd cc
  go (OldLease now) v j k = absurd cc
  go (OldIndex lai) v j k = absurd cc
  go LeaseMoved v j k = absurd cc
  go verdicts.Nothing v j k = absurd cc
one_item s (Lease ask) client seq i x e h = go (asked s ask) i e where
  go : (o : Option leases.Lease) (i : ℕ) → slice_get (applied (ask_record o ∷ [])) i ≡ Some x → (i ≡ 0) × Item s (Lease ask) client seq x
  go (Some lease) zero k = let same : places.Lease lease ≡ x = cc in absurd (let no = subst (λ y. IsTrue (names client seq y)) (sym same) h in cc)
  go (Some lease) (suc j) k = absurd cc
  go None j k = absurd cc

-- an item that names a command is that of a place, and stands where the items before it end
pub record Listed (w : World) (client seq n j : ℕ) : Type 0 where
  pub index : ℕ
  pub command : Command
  pub within : index < n
  pub takes : Takes w.start (entry w.log) index command
  pub named : IsTrue (is_of client seq command.id)
  pub at : j ≡ length (items_to w index)

pub listed_by : (w : World) (client seq n : ℕ) → n ≤ length w.log → (j : ℕ) (x : Place) → slice_get (items_to w n) j ≡ Some x → IsTrue (names client seq x)
    → Listed w client seq n j
listed_by w client seq zero l j x e h = absurd cc
listed_by w client seq (suc n) l j x e h = go (front (items_to w n) (applied (record_of (state_at w n) (entry w.log n) ∷ [])) j x (sym (ap (λ xs. slice_get xs j) (one_more w.start w.log n (omega arith))) ∙ e))
    (λ k. listed_by w client seq n (omega arith) j x k h) where
      go : (slice_get (items_to w n) j ≡ Some x) ⊎ ((i : ℕ) × (j ≡ length (items_to w n) + i) × (slice_get (applied (record_of (state_at w n) (entry w.log n) ∷ [])) i ≡ Some x))
          → ((slice_get (items_to w n) j ≡ Some x) → Listed w client seq n j) → Listed w client seq (suc n) j
      go (inl k) ih = let y = ih k in record {
        index = y.index;
        command = y.command;
        within = let m = y.within in omega arith;
        takes = y.takes;
        named = y.named;
        at = y.at;
      }
      go (inr k) ih =
          let y = one_item (state_at w n) (entry w.log n) client seq k.0 x k.2 h in
          let at = k.1 in
          let first = y.0 in
          record {
            index = n;
            command = y.1.command;
            within = omega arith;
            takes = record { here = y.1.here; taken = y.1.took };
            named = y.1.named;
            at = omega arith;
          }
