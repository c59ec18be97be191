use Rattle.std.proofs.Common.{sym, subst, ◌∙◌, arith, Err}
use Rattle.zone_script.specs.Script.{script_of}
use Rattle.zone_script.specs.ScriptReaders.{wire_readers}
use Rattle.zone_script.proofs.FileLaws.{FileLaws}
use Rattle.zone_script.proofs.Parsing.{Tells, Reads, only_names, reads_nothing, tells_at_line, reads_more, tells_over, tells_at_end}
use Rattle.zone_script.proofs.script.parse.Goals as goal

pub opening-init : goal.opening-init
opening-init g c = (subst (λ k. Reads k 1 c.args.text.now c.args.text.now) (sym c.new-reading.ensures) (reads_nothing c.args.text.now), omega arith, omega arith)

pub opening-preserved : goal.opening-preserved
opening-preserved g c =
    let laws : FileLaws = record { takes = c.zone_files_open.ensures.takes; whole = c.zone_files_open.ensures.whole; opens = c.zone_files_open.ensures.opens } in (
      reads_more laws c.opening.reading c.read.new.self c.opening.number c.in-Some.line.now c.opening.rest.now c.in-Some.behind.now c.args.text.now c.in-Ok.ensures.ok (sym c.is_over.ensures ∙ c.if-is_over.false) c.in-Some.ensures.found c.opening.invariant.0,
      omega arith,
      omega (arith, c.in-Some.ensures.shorter, c.opening.invariant.2),
    )

pub returns-in-Err-clause-bad : goal.returns-in-Err-clause-bad
returns-in-Err-clause-bad g c =
    let laws : FileLaws = record { takes = c.zone_files_open.ensures.takes; whole = c.zone_files_open.ensures.whole; opens = c.zone_files_open.ensures.opens } in
    let told : Tells (Err c.in-Err.error) (script_of wire_readers c.args.text.now) =
    tells_at_line laws c.in-Err.error c.opening.reading c.opening.number c.in-Some.line.now c.opening.rest.now c.in-Some.behind.now c.args.text.now c.in-Err.ensures.bad c.in-Some.ensures.found c.opening.invariant.0 in
    told.bad

pub returns-in-Err-clause-only_bad : goal.returns-in-Err-clause-only_bad
returns-in-Err-clause-only_bad g c =
    let laws : FileLaws = record { takes = c.zone_files_open.ensures.takes; whole = c.zone_files_open.ensures.whole; opens = c.zone_files_open.ensures.opens } in
    let told : Tells (Err c.in-Err.error) (script_of wire_readers c.args.text.now) =
    tells_at_line laws c.in-Err.error c.opening.reading c.opening.number c.in-Some.line.now c.opening.rest.now c.in-Some.behind.now c.args.text.now c.in-Err.ensures.bad c.in-Some.ensures.found c.opening.invariant.0 in
    only_names (Err c.in-Err.error) (script_of wire_readers c.args.text.now) told

pub returns-then-is_over-clause-ok : goal.returns-then-is_over-clause-ok
returns-then-is_over-clause-ok g c =
    let laws : FileLaws = record { takes = c.zone_files_open.ensures.takes; whole = c.zone_files_open.ensures.whole; opens = c.zone_files_open.ensures.opens } in
    let told : Tells c.finish.result (script_of wire_readers c.args.text.now) =
    tells_over laws c.finish.result c.opening.reading c.read.new.self c.opening.number c.in-Some.line.now c.opening.rest.now c.in-Some.behind.now c.args.text.now c.in-Ok.ensures.ok (sym c.is_over.ensures ∙ c.if-is_over.true) c.in-Some.ensures.found c.finish.ensures.ok c.finish.ensures.bad c.opening.invariant.0 in
    told.ok

pub returns-then-is_over-clause-bad : goal.returns-then-is_over-clause-bad
returns-then-is_over-clause-bad g c =
    let laws : FileLaws = record { takes = c.zone_files_open.ensures.takes; whole = c.zone_files_open.ensures.whole; opens = c.zone_files_open.ensures.opens } in
    let told : Tells c.finish.result (script_of wire_readers c.args.text.now) =
    tells_over laws c.finish.result c.opening.reading c.read.new.self c.opening.number c.in-Some.line.now c.opening.rest.now c.in-Some.behind.now c.args.text.now c.in-Ok.ensures.ok (sym c.is_over.ensures ∙ c.if-is_over.true) c.in-Some.ensures.found c.finish.ensures.ok c.finish.ensures.bad c.opening.invariant.0 in
    told.bad

pub returns-then-is_over-clause-only_bad : goal.returns-then-is_over-clause-only_bad
returns-then-is_over-clause-only_bad g c =
    let laws : FileLaws = record { takes = c.zone_files_open.ensures.takes; whole = c.zone_files_open.ensures.whole; opens = c.zone_files_open.ensures.opens } in
    let told : Tells c.finish.result (script_of wire_readers c.args.text.now) =
    tells_over laws c.finish.result c.opening.reading c.read.new.self c.opening.number c.in-Some.line.now c.opening.rest.now c.in-Some.behind.now c.args.text.now c.in-Ok.ensures.ok (sym c.is_over.ensures ∙ c.if-is_over.true) c.in-Some.ensures.found c.finish.ensures.ok c.finish.ensures.bad c.opening.invariant.0 in
    only_names c.finish.result (script_of wire_readers c.args.text.now) told

pub returns-clause-ok : goal.returns-clause-ok
returns-clause-ok g c =
    let laws : FileLaws = record { takes = c.zone_files_open.ensures.takes; whole = c.zone_files_open.ensures.whole; opens = c.zone_files_open.ensures.opens } in
    let told : Tells c.finish-2.result (script_of wire_readers c.args.text.now) =
    tells_at_end laws c.finish-2.result c.opening.reading c.opening.number c.opening.rest.now c.args.text.now c.finish-2.ensures.ok c.finish-2.ensures.bad c.in_default.ensures.none c.opening.invariant.0 in
    told.ok

pub returns-clause-bad : goal.returns-clause-bad
returns-clause-bad g c =
    let laws : FileLaws = record { takes = c.zone_files_open.ensures.takes; whole = c.zone_files_open.ensures.whole; opens = c.zone_files_open.ensures.opens } in
    let told : Tells c.finish-2.result (script_of wire_readers c.args.text.now) =
    tells_at_end laws c.finish-2.result c.opening.reading c.opening.number c.opening.rest.now c.args.text.now c.finish-2.ensures.ok c.finish-2.ensures.bad c.in_default.ensures.none c.opening.invariant.0 in
    told.bad

pub returns-clause-only_bad : goal.returns-clause-only_bad
returns-clause-only_bad g c =
    let laws : FileLaws = record { takes = c.zone_files_open.ensures.takes; whole = c.zone_files_open.ensures.whole; opens = c.zone_files_open.ensures.opens } in
    let told : Tells c.finish-2.result (script_of wire_readers c.args.text.now) =
    tells_at_end laws c.finish-2.result c.opening.reading c.opening.number c.opening.rest.now c.args.text.now c.finish-2.ensures.ok c.finish-2.ensures.bad c.in_default.ensures.none c.opening.invariant.0 in
    only_names c.finish-2.result (script_of wire_readers c.args.text.now) told
