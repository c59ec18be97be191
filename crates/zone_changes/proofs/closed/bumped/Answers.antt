use Rattle.std.proofs.Common.{ap, ◌∙◌}
use Rattle.dns_name.specs.Names.{fold}
use Rattle.dns_numbers.specs.Codes.{type_soa}
use Rattle.zone_model.specs.Version.{Version}
use Rattle.zone_model.specs.Edits.{bump}
use Rattle.zone_changes.proofs.Publishing.{more_in, covers_counted}
use Rattle.zone_changes.proofs.closed.bumped.Goals as goal

-- The SOA's key was noted: more keys cover no less.
pub returns-in_err-counted_on-clause-keeps : goal.returns-in_err-counted_on-clause-keeps
returns-in_err-counted_on-clause-keeps c a b h = more_in c.args.touched.now c.note.new.self c.new.result c.in_ok-note.ensures.ok a b h

pub returns-in_err-new-clause-keeps : goal.returns-in_err-new-clause-keeps
returns-in_err-new-clause-keeps c a b h = more_in c.args.touched.now c.note.new.self c.new.result c.in_ok-note.ensures.ok a b h

pub returns-clause-keeps : goal.returns-clause-keeps
returns-clause-keeps c a b h = more_in c.args.touched.now c.note.new.self c.new.result c.in_ok-note.ensures.ok a b h

pub returns-clause-covers : goal.returns-clause-covers
returns-clause-covers c =
    let v = c.args.version.now.value in
    covers_counted c.args.touched.now c.note.new.self c.new.result c.args.base.now v _
    (c.new.ensures ∙ (λ i. (fold ((c.apex.ensures ∙ ap (λ (x : Version). x.apex) c.deref.ensures) i), type_soa)))
    c.in_ok-note.ensures.ok
    (c.in_ok-new.ensures.ok ∙ c.in_ok-counted_on.ensures ∙ ap (bump c.args.base.now) c.deref-2.ensures) c.requires.covered
