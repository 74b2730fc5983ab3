use Rattle.std.proofs.Common.{◌≡◌, ◌≤◌, ◌<◌, get_or, length, sym, ◌∙◌, arith}
use Rattle.std.specs.FinMap.{entries, len-entries}
use Rattle.std.proofs.lemmas.Option.{slice_get-get_or}
use Rattle.rp_base.specs.declared.values.Value.TheVariants.{Number}
use Rattle.rp_auditor.proofs.Walks.{rows_differ, rows_off, rows_on, rows_end}
use Rattle.rp_auditor.proofs.standings.same_rows.Goals as goal

pub returns-then-rows-len : goal.returns-then-rows-len
returns-then-rows-len c =
    rows_differ (entries c.args.table.now.map) c.args.rows.now
    (λ same. c.if-rows-len.true (sym same ∙ sym (len-entries c.args.table.now.map) ∙ sym c.len.ensures))

pub returns-then-not-is_row : goal.returns-then-not-is_row
returns-then-not-is_row c =
    let es = entries c.args.table.now.map in
    let all : length c.args.rows.now ≡ length es = c.if-rows-len.false ∙ c.len.ensures ∙ len-entries c.args.table.now.map in
    let within : c.loop-at.at < length es = omega (arith, all, c.loop-at-test.true) in
    let entry = slice_get-get_or es c.loop-at.at (0, Number 0) within in
    rows_off es c.args.rows.now c.loop-at.at (get_or es c.loop-at.at (0, Number 0)) c.index-rows-at.result _ within entry c.loop-at-test.true c.index-rows-at.is
    (sym (c.is_row.ensures _ entry) ∙ c.if-not-is_row.true) c.loop-at.invariant

pub loop-at-preserved : goal.loop-at-preserved
loop-at-preserved c =
    let es = entries c.args.table.now.map in
    let all : length c.args.rows.now ≡ length es = c.if-rows-len.false ∙ c.len.ensures ∙ len-entries c.args.table.now.map in
    let within : c.loop-at.at < length es = omega (arith, all, c.loop-at-test.true) in
    let entry = slice_get-get_or es c.loop-at.at (0, Number 0) within in
    rows_on es c.args.rows.now c.loop-at.at (get_or es c.loop-at.at (0, Number 0)) c.index-rows-at.result _ within entry c.loop-at-test.true c.index-rows-at.is
    (sym (c.is_row.ensures _ entry) ∙ c.if-not-is_row.false) c.loop-at.invariant

pub returns : goal.returns
returns c =
    let es = entries c.args.table.now.map in
    let all : length c.args.rows.now ≡ length es = c.if-rows-len.false ∙ c.len.ensures ∙ len-entries c.args.table.now.map in
    let past : length es ≤ c.loop-at.at = omega (arith, all, c.loop-at-test.false) in
    rows_end es c.args.rows.now c.loop-at.at _ past c.loop-at-test.false c.loop-at.invariant
