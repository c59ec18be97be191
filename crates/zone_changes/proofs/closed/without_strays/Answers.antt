use Rattle.std.proofs.Common.{sym, ap, ◌∙◌}
use Rattle.std.specs.List.{list_any}
use Rattle.std.specs.Map.{keys_of}
use Rattle.zone_model.specs.Version.{Version}
use Rattle.zone_model.specs.Edits.{close}
use Rattle.zone_versions.specs.Strays.{is_stray_at}
use Rattle.zone_versions.proofs.Closing.{closed_is}
use Rattle.zone_changes.specs.Touched.{noted_all_in, stray_keys}
use Rattle.zone_changes.proofs.Publishing.{more_all_in, covers_left_out}
use Rattle.zone_changes.proofs.closed.without_strays.Goals as goal

-- Without a stray set, the version is closed.
pub returns-then-not-has_stray-clause-is : goal.returns-then-not-has_stray-clause-is
returns-then-not-has_stray-clause-is c =
    closed_is c.args.version.value (ap (λ (x : Version). list_any (is_stray_at x) (keys_of x.sets)) (sym c.deref.ensures) ∙ c.has_stray.ensures.none c.if-not-has_stray.true)

-- The keys of those that go were noted: more keys cover no less.
pub returns-in_err-closed-clause-keeps : goal.returns-in_err-closed-clause-keeps
returns-in_err-closed-clause-keeps c a b h = more_all_in c.args.touched.now c.note_strays.new.self (stray_keys c.deref-2.result.now) c.in_ok-note_strays.ensures.ok a b h

pub returns-in_err-new-clause-keeps : goal.returns-in_err-new-clause-keeps
returns-in_err-new-clause-keeps c a b h = more_all_in c.args.touched.now c.note_strays.new.self (stray_keys c.deref-2.result.now) c.in_ok-note_strays.ensures.ok a b h

pub returns-clause-keeps : goal.returns-clause-keeps
returns-clause-keeps c a b h = more_all_in c.args.touched.now c.note_strays.new.self (stray_keys c.deref-2.result.now) c.in_ok-note_strays.ensures.ok a b h

pub returns-clause-covers : goal.returns-clause-covers
returns-clause-covers c =
    covers_left_out c.args.touched.now c.note_strays.new.self c.args.base.now.sets c.args.version.value _
    (c.in_ok-note_strays.ensures.ok ∙ ap (λ (x : Version). noted_all_in c.args.touched.now (stray_keys x)) c.deref-2.ensures)
    (c.in_ok-new.ensures.ok ∙ c.in_ok-closed.ensures.is ∙ ap close c.deref-3.ensures) c.requires.covered
