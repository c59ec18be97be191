use Rattle.std.proofs.Common.{◌≡◌, ◌++◌, sym, ap, ◌∙◌, subst, is_some, true≢false, OnOk}
use Rattle.std.specs.BTreeMap.{is_at}
use Rattle.std.specs.Map.{remove_entry}
use Rattle.std.proofs.lemmas.Result.{on_ok_weaker}
use Rattle.paged_map.specs.Octets.{octets_cmp}
use Rattle.paged_map.specs.Pages.{values_in, entries_of, before, beyond, HasAt, LacksAt}
use Rattle.paged_map.proofs.Keys.{ascend_remove, remove_absent}
use Rattle.paged_map.proofs.Cuts.{sound_by}
use Rattle.paged_map.proofs.writes.remove.Goals as goal

pub returns-then-not-found-clause-ok : goal.returns-then-not-found-clause-ok
returns-then-not-found-clause-ok g c =
    let at : LacksAt c.args.key.now (values_in c.args.pages.now.items) c.find-found.result.0 = subst (λ l. LacksAt c.args.key.now (values_in l) c.find-found.result.0) c.deref.ensures.value (c.find-found.ensures.absent c.if-not-found.true) in
    sym (remove_absent (is_at (octets_cmp c.args.key.now)) (entries_of c.args.pages.now.items) at.absent)

pub take_out-requires-clause-at : goal.take_out-requires-clause-at
take_out-requires-clause-at g c =
    let ps = values_in c.args.pages.now.items in
    let s = c.find-found.result.0 in
    let at : HasAt c.args.key.now ps s = subst (λ l. HasAt c.args.key.now (values_in l) s) c.deref.ensures.value (c.find-found.ensures.found c.if-not-found.false) in
    at.at

pub returns-clause-ok : goal.returns-clause-ok
returns-clause-ok g c =
    let ps = values_in c.args.pages.now.items in
    let s = c.find-found.result.0 in
    let at : HasAt c.args.key.now ps s = subst (λ l. HasAt c.args.key.now (values_in l) s) c.deref.ensures.value (c.find-found.ensures.found c.if-not-found.false) in
    on_ok_weaker c.take_out.result (λ made. made ∙ sym at.removed) c.take_out.ensures.ok

pub returns-clause-ready : goal.returns-clause-ready
returns-clause-ready g c none =
    let ps = values_in c.args.pages.now.items in
    let s = c.find-found.result.0 in
    let at : HasAt c.args.key.now ps s = subst (λ l. HasAt c.args.key.now (values_in l) s) c.deref.ensures.value (c.find-found.ensures.found c.if-not-found.false) in
    absurd (true≢false (sym at.found ∙ ap is_some none))

pub returns-clause-sound : goal.returns-clause-sound
returns-clause-sound g c =
    let ps = values_in c.args.pages.now.items in
    let s = c.find-found.result.0 in
    let at : HasAt c.args.key.now ps s = subst (λ l. HasAt c.args.key.now (values_in l) s) c.deref.ensures.value (c.find-found.ensures.found c.if-not-found.false) in
    sound_by c.args.pages.now.items c.take_out.new.pages.items c.take_out.result (remove_entry (is_at (octets_cmp c.args.key.now)) (entries_of c.args.pages.now.items)) c.take_out.ensures.fit
    (on_ok_weaker c.take_out.result (λ made. made ∙ sym at.removed) c.take_out.ensures.ok)
    (ascend_remove (is_at (octets_cmp c.args.key.now)) (entries_of c.args.pages.now.items) c.requires.1) c.take_out.ensures.err c.requires.1
