use Rattle.std.proofs.Common.{◌∙◌, ap, sym}
use Rattle.zone_records.specs.Refusals.{opening_file}
use Rattle.zone_records.proofs.ReadRecords.{begun_ok, begun_kept}
use Rattle.zone_records.proofs.zonefile.Zonefile.from_records.Goals as goal

-- A file without refusals is what is held of its records.
pub returns-in-Some-clause-kept : goal.returns-in-Some-clause-kept
returns-in-Some-clause-kept c =
    let rs = c.args.records.items in
    let begun = sym c.in-Some.is ∙ c.in_ok-file.ensures ∙ ap opening_file c.deref.ensures.value in
    begun_kept c.read.result rs (begun_ok c.read.result c.in-Some.file rs begun c.read.ensures.ok)
