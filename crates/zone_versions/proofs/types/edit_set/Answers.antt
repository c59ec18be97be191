use Rattle.std.proofs.Common.{◌≡◌, ◌<◌, Some, ap, ◌∙◌, sym, subst, refl, length, slice_get, Option, nat_cmp}
use Rattle.std.specs.BTreeMap.{insert_entry, is_at}
use Rattle.std.specs.Map.{lookup}
use Rattle.std.proofs.lemmas.Option.{slice_get_read}
use Rattle.zone_model.specs.Version.{RecordSet}
use Rattle.zone_values.specs.TypedSets.{TypedSet}
use Rattle.zone_versions.specs.Held.{held_of}
use Rattle.zone_versions.proofs.Named.{on_ok, on_err}
use Rattle.zone_versions.proofs.Row.{type_at, below_of, there_of, place_within, its_type, found_at, put_over, set_again}
use Rattle.zone_versions.proofs.types.edit_set.Goals as goal

pub index_mut-requires : goal.index_mut-requires
index_mut-requires g c =
    subst (λ n. c.place_of-at.result < n) (sym (ap length c.deref.ensures.value) ∙ c.deref.ensures.len)
    (place_within c.args.sets.now.items c.place_of-at.result c.args.rtype
    (there_of c.place_of-at.result c.args.rtype c.deref.ensures.value c.requires.held c.place_of-at.ensures.below c.place_of-at.ensures.next c.requires.there))

pub edit_shared-requires : goal.edit_shared-requires
edit_shared-requires g c =
    let xs = c.args.sets.now.items in
    let at = c.place_of-at.result in
    let here : type_at xs at ≡ Some c.args.rtype = there_of at c.args.rtype c.deref.ensures.value c.requires.held c.place_of-at.ensures.below c.place_of-at.ensures.next c.requires.there in
    let stands : slice_get xs at ≡ Some c.index_mut.result.now = slice_get_read xs (length xs) at c.index_mut.result.now refl (place_within xs at c.args.rtype here) c.index_mut.ensures.value in
    subst (λ t. g.E.SetEdit.fits c.args.edit t) (sym (its_type xs at c.args.rtype c.index_mut.result.now stands here)) c.requires.fits

pub returns-clause-ok : goal.returns-clause-ok
returns-clause-ok g c =
    let xs = c.args.sets.now.items in
    let at = c.place_of-at.result in
    let set = c.index_mut.result.now in
    let here : type_at xs at ≡ Some c.args.rtype = there_of at c.args.rtype c.deref.ensures.value c.requires.held c.place_of-at.ensures.below c.place_of-at.ensures.next c.requires.there in
    let stands : slice_get xs at ≡ Some set = slice_get_read xs (length xs) at set refl (place_within xs at c.args.rtype here) c.index_mut.ensures.value in
    let own : set.rtype ≡ c.args.rtype = its_type xs at c.args.rtype set stands here in
    let made : Option RecordSet → RecordSet = λ o. g.E.SetEdit.edited c.args.edit o in
    let is : lookup (is_at (nat_cmp c.args.rtype)) (held_of xs) ≡ Some set.contents = found_at xs at c.args.rtype set (below_of at c.args.rtype c.deref.ensures.value c.place_of-at.ensures.below) stands own in
    on_ok c.edit_shared.result
    (λ e. put_over xs at c.args.rtype c.edit_shared.new.set (ap (λ (s : TypedSet). s.rtype) e ∙ own) (below_of at c.args.rtype c.deref.ensures.value c.place_of-at.ensures.below) here
    ∙ ap (insert_entry nat_cmp (held_of xs) c.args.rtype) (ap (λ (s : TypedSet). s.contents) e ∙ ap made (sym is)))
    c.edit_shared.ensures.ok

pub returns-clause-err : goal.returns-clause-err
returns-clause-err g c =
    on_err c.edit_shared.result (λ e. set_again c.args.sets.now.items c.place_of-at.result c.index_mut.result.now c.edit_shared.new.set e c.index_mut.ensures.value) c.edit_shared.ensures.err
