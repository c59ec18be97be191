use Rattle.std.proofs.Common.{◌≡◌, ◌++◌, ◌∷◌, sym, ap, ◌∙◌, subst₂, is_some, true≢false, OnOk}
use Rattle.std.specs.Arc.{arc_value}
use Rattle.std.specs.Box.{boxed_slice_items}
use Rattle.std.specs.BTreeMap.{insert_entry}
use Rattle.std.proofs.lemmas.Result.{on_ok_weaker}
use Rattle.paged_map.specs.Octets.{octets_cmp}
use Rattle.paged_map.specs.Pages.{values_in, entries_of, before, after, beyond, HasAt, LacksAt}
use Rattle.paged_map.proofs.Keys.{ascend_insert}
use Rattle.paged_map.proofs.Cuts.{sound_by}
use Rattle.paged_map.proofs.writes.insert.Goals as goal

pub returns-then-found-clause-ok : goal.returns-then-found-clause-ok
returns-then-found-clause-ok g c =
    let ps = values_in c.args.pages.now.items in
    let s = c.find-found.result.0 in
    let at : HasAt (boxed_slice_items c.args.key) ps s = subst₂ (λ k l. HasAt k (values_in l) s) c.as_slice.ensures.value c.deref.ensures.value (c.find-found.ensures.found c.if-found.true) in
    on_ok_weaker c.replace.result (λ made. made ∙ ap (λ e. before ps s ++ e ∷ beyond ps s) (c.in_ok-entry.ensures.ok ∙ c.new.ensures) ∙ sym (at.inserted c.args.value)) c.replace.ensures.ok

pub returns-then-found-clause-sound : goal.returns-then-found-clause-sound
returns-then-found-clause-sound g c =
    let ps = values_in c.args.pages.now.items in
    let s = c.find-found.result.0 in
    let at : HasAt (boxed_slice_items c.args.key) ps s = subst₂ (λ k l. HasAt k (values_in l) s) c.as_slice.ensures.value c.deref.ensures.value (c.find-found.ensures.found c.if-found.true) in
    sound_by c.args.pages.now.items c.replace.new.pages.items c.replace.result (insert_entry octets_cmp (entries_of c.args.pages.now.items) (boxed_slice_items c.args.key) c.args.value) c.replace.ensures.fit
    (on_ok_weaker c.replace.result (λ made. made ∙ ap (λ e. before ps s ++ e ∷ beyond ps s) (c.in_ok-entry.ensures.ok ∙ c.new.ensures) ∙ sym (at.inserted c.args.value)) c.replace.ensures.ok)
    (ascend_insert (entries_of c.args.pages.now.items) (boxed_slice_items c.args.key) c.args.value c.requires.1) c.replace.ensures.err c.requires.1

pub returns-clause-ok : goal.returns-clause-ok
returns-clause-ok g c =
    let ps = values_in c.args.pages.now.items in
    let s = c.find-found.result.0 in
    let at : LacksAt (boxed_slice_items c.args.key) ps s = subst₂ (λ k l. LacksAt k (values_in l) s) c.as_slice.ensures.value c.deref.ensures.value (c.find-found.ensures.absent c.if-found.false) in
    on_ok_weaker c.put.result (λ made. made ∙ ap (λ e. before ps s ++ e ∷ after ps s) (c.in_ok-entry.ensures.ok ∙ c.new.ensures) ∙ sym (at.inserted c.args.value)) c.put.ensures.ok

pub returns-clause-sound : goal.returns-clause-sound
returns-clause-sound g c =
    let ps = values_in c.args.pages.now.items in
    let s = c.find-found.result.0 in
    let at : LacksAt (boxed_slice_items c.args.key) ps s = subst₂ (λ k l. LacksAt k (values_in l) s) c.as_slice.ensures.value c.deref.ensures.value (c.find-found.ensures.absent c.if-found.false) in
    sound_by c.args.pages.now.items c.put.new.pages.items c.put.result (insert_entry octets_cmp (entries_of c.args.pages.now.items) (boxed_slice_items c.args.key) c.args.value) c.put.ensures.fit
    (on_ok_weaker c.put.result (λ made. made ∙ ap (λ e. before ps s ++ e ∷ after ps s) (c.in_ok-entry.ensures.ok ∙ c.new.ensures) ∙ sym (at.inserted c.args.value)) c.put.ensures.ok)
    (ascend_insert (entries_of c.args.pages.now.items) (boxed_slice_items c.args.key) c.args.value c.requires.1) c.put.ensures.err c.requires.1
