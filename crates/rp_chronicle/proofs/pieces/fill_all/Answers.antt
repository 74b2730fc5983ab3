use Rattle.std.proofs.Common.{[], ◌∷◌, ◌++◌, ap, subst, sym, take}
use Rattle.std.proofs.lemmas.List.Elements.{Contains-append_left, Contains-append_right}
use Rattle.rp_chronicle.specs.Filling.{FillsAll, HasPieces}
use Rattle.rp_chronicle.proofs.Filling.{Fills, among_items, among_one, behind, behind_is, fills_more, has_some, pieces_all, pieces_more}
use Rattle.rp_chronicle.proofs.pieces.fill_all.Goals as goal

pub fill-requires : goal.fill-requires
fill-requires c =
    let h = c.args.kept.now.history in
    let p = c.piece-item.result in
    let items = c.earlier-piece-items.result.now in
    let among = among_items items h.earlier c.loop-piece.piece-index p c.earlier-piece-items.ensures c.loop-piece-test.true c.piece-item.is in
    subst (λ q. HasPieces c.args.base (q ∷ []) c.loop-piece.records) (sym (behind_is p c.before-in-loop-piece.result c.as_slice.result.now c.before-in-loop-piece.ensures c.as_slice.ensures))
    (has_some c.args.base (h.earlier ++ h.records ∷ []) (p ∷ []) c.args.records.now c.loop-piece.records c.requires
    (λ q one. Contains-append_left h.earlier (h.records ∷ []) q (among_one p q one h.earlier among)) c.loop-piece.invariant.long)

pub loop-piece-preserved : goal.loop-piece-preserved
loop-piece-preserved c =
    let h = c.args.kept.now.history in
    let p = c.piece-item.result in
    let i = c.loop-piece.piece-index in
    let items = c.earlier-piece-items.result.now in
    let same = behind_is p c.before-in-loop-piece.result c.as_slice.result.now c.before-in-loop-piece.ensures c.as_slice.ensures in
    let among = among_items items h.earlier i p c.earlier-piece-items.ensures c.loop-piece-test.true c.piece-item.is in
    let f : Fills c.args.base (take i h.earlier) c.args.records.now c.loop-piece.records = record { long = c.loop-piece.invariant.long; filled = c.loop-piece.invariant.filled } in
    let more = fills_more c.args.base (take i h.earlier) (p ∷ []) (behind c.before-in-loop-piece.result c.as_slice.result.now ∷ []) c.args.records.now c.loop-piece.records c.fill.new.records f
    (ap (λ q. q ∷ []) same)
    (subst (λ q. HasPieces c.args.base (q ∷ []) c.loop-piece.records) (sym same)
    (has_some c.args.base (h.earlier ++ h.records ∷ []) (p ∷ []) c.args.records.now c.loop-piece.records c.requires
    (λ q one. Contains-append_left h.earlier (h.records ∷ []) q (among_one p q one h.earlier among)) c.loop-piece.invariant.long))
    c.fill.ensures in
    record {
      long = more.long;
      filled = subst (λ ps. FillsAll c.args.base ps c.args.records.now c.fill.new.records) (sym (pieces_more items h.earlier i p c.earlier-piece-items.ensures c.loop-piece-test.true c.piece-item.is)) more.filled;
    }

pub fill-requires-2 : goal.fill-requires-2
fill-requires-2 c =
    let h = c.args.kept.now.history in
    subst (λ q. HasPieces c.args.base (q ∷ []) c.loop-piece.records) (sym (behind_is h.records c.before-2.result c.records.result.now c.before-2.ensures c.records.ensures.records))
    (has_some c.args.base (h.earlier ++ h.records ∷ []) (h.records ∷ []) c.args.records.now c.loop-piece.records c.requires
    (λ q one. Contains-append_right h.earlier (h.records ∷ []) q one) c.loop-piece.invariant.long)

pub returns : goal.returns
returns c =
    let h = c.args.kept.now.history in
    let i = c.loop-piece.piece-index in
    let same = behind_is h.records c.before-2.result c.records.result.now c.before-2.ensures c.records.ensures.records in
    let f : Fills c.args.base (take i h.earlier) c.args.records.now c.loop-piece.records = record { long = c.loop-piece.invariant.long; filled = c.loop-piece.invariant.filled } in
    let more = fills_more c.args.base (take i h.earlier) (h.records ∷ []) (behind c.before-2.result c.records.result.now ∷ []) c.args.records.now c.loop-piece.records c.fill-2.new.records f
    (ap (λ q. q ∷ []) same)
    (subst (λ q. HasPieces c.args.base (q ∷ []) c.loop-piece.records) (sym same)
    (has_some c.args.base (h.earlier ++ h.records ∷ []) (h.records ∷ []) c.args.records.now c.loop-piece.records c.requires
    (λ q one. Contains-append_right h.earlier (h.records ∷ []) q one) c.loop-piece.invariant.long))
    c.fill-2.ensures in
    subst (λ ps. FillsAll c.args.base (ps ++ h.records ∷ []) c.args.records.now c.fill-2.new.records)
    (pieces_all c.earlier-piece-items.result.now h.earlier i c.earlier-piece-items.ensures c.loop-piece-test.false) more.filled
