use Rattle.std.proofs.Common.{map, ap, ◌∙◌}
use Rattle.std.specs.Prelude.{is_none}
use Rattle.zone_model.specs.Version.{Key}
use Rattle.zone_versions.specs.Held.{told}
use Rattle.zone_records.specs.Parsed.{sets_for}
use Rattle.zone_records.specs.Seen.{kind_seen}
use Rattle.zone_records.specs.Faults.{fault_at}
use Rattle.zone_records.proofs.Opened.{all_told}
use Rattle.zone_records.proofs.zonefile.Zonefile.passes.Goals as goal

pub returns : goal.returns
returns c =
    let p = c.args.self.now in
    let kind = kind_seen c.args.kind in
    c.all_pass.ensures ∙ all_told (λ (k : Key). is_none (fault_at p kind k)) c.iter.result (sets_for p kind) (c.iter.ensures.is ∙ ap (map told) c.owners.ensures)
