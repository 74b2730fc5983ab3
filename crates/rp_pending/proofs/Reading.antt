-- What is read of the slots is read of the proposals.
use Rattle.std.proofs.Common.{◌≡◌, Bool, true, false, cond, if◌then◌else◌, List, [], ◌∷◌, map, filter_map, nat_le, Option, None, Some, refl, ap, ◌∙◌}
use Rattle.std.specs.List.{filter, cons_option}
use Rattle.std.specs.Map.{values_of}
use Rattle.std.specs.Option.{option_and_then}
use Rattle.rp_pending.specs.Refreshes.{put_by, by_key, ids_by_max}
use Rattle.rp_pending.specs.Dues.{due, id_of, standing, standing_of}
use Rattle.rp_pending.specs.declared.proposals.Proposal.{Proposal}
use Rattle.rp_pending.specs.Slots.{Slot, proposals_in}

pub read_slots : {Y : Type 0} (f : Proposal → Option Y) (es : List Slot) → filter_map (option_and_then f) (values_of es) ≡ filter_map f (proposals_in es)
read_slots f [] = refl
read_slots f ((k, None) ∷ es) = read_slots f es
read_slots f ((k, Some p) ∷ es) = ap (cons_option (f p)) (read_slots f es)

-- what is sorted are the maxima and ids alone
put_due : (p : Proposal) (ps : List Proposal) → put_by (λ d. d.max) (due p) (map due ps) ≡ map due (put_by (λ p. p.max) p ps)
put_due p [] = refl
put_due p (q ∷ qs) = by (nat_le p.max q.max) (put_due p qs)
  where
    by : (b : Bool) → put_by (λ d. d.max) (due p) (map due qs) ≡ map due (put_by (λ p. p.max) p qs)
        → cond b (due p ∷ due q ∷ map due qs) (due q ∷ put_by (λ d. d.max) (due p) (map due qs)) ≡ map due (cond b (p ∷ q ∷ qs) (q ∷ put_by (λ p. p.max) p qs))
    by true ih = refl
    by false ih = ap (λ ds. due q ∷ ds) ih

by_max_due : (ps : List Proposal) → by_key (λ d. d.max) (map due ps) ≡ map due (by_key (λ p. p.max) ps)
by_max_due [] = refl
by_max_due (p ∷ ps) = ap (put_by (λ d. d.max) (due p)) (by_max_due ps) ∙ put_due p (by_key (λ p. p.max) ps)

ids_due : (ps : List Proposal) → map (λ d. d.id) (map due ps) ≡ map (λ p. p.id) ps
ids_due [] = refl
ids_due (p ∷ ps) = ap (λ ids. p.id ∷ ids) (ids_due ps)

dues_are : (test : Proposal → Bool) (ps : List Proposal) → filter_map (λ p. if test p then Some (due p) else None) ps ≡ map due (filter test ps)
dues_are test [] = refl
dues_are test (p ∷ ps) = by (test p) (dues_are test ps)
  where
    by : (b : Bool) → filter_map (λ p. if test p then Some (due p) else None) ps ≡ map due (filter test ps)
        → cons_option (if b then Some (due p) else None) (filter_map (λ p. if test p then Some (due p) else None) ps) ≡ map due (cond b (p ∷ filter test ps) (filter test ps))
    by true ih = ap (λ ds. due p ∷ ds) ih
    by false ih = ih

pub ids_in_order : (test : Proposal → Bool) (ps : List Proposal) → map (λ d. d.id) (by_key (λ d. d.max) (filter_map (λ p. if test p then Some (due p) else None) ps)) ≡ ids_by_max (filter test ps)
ids_in_order test ps =
    ap (λ ds. map (λ d. d.id) (by_key (λ d. d.max) ds)) (dues_are test ps)
    ∙ ap (map (λ d. d.id)) (by_max_due (filter test ps))
    ∙ ids_due (by_key (λ p. p.max) (filter test ps))

pub ids_are : (ps : List Proposal) → filter_map id_of ps ≡ map (λ p. p.id) ps
ids_are [] = refl
ids_are (p ∷ ps) = ap (λ ids. p.id ∷ ids) (ids_are ps)

pub standings_are : (ps : List Proposal) → filter_map standing_of ps ≡ map standing ps
standings_are [] = refl
standings_are (p ∷ ps) = ap (λ all. standing p ∷ all) (standings_are ps)
