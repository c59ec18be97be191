use Rattle.std.proofs.Common.{◌≡◌, ◌++◌, ◌∷◌, ap, ◌∙◌, sym, refl, subst}
use Rattle.std.specs.BTreeMap.{insert_entry}
use Rattle.std.proofs.lemmas.Result.{IfOk-weaker}
use Rattle.paged_map.specs.Octets.{octets_cmp}
use Rattle.paged_map.specs.Pages.{values_in, entries_of, before, beyond, Ascend, HasAt, LacksAt}
use Rattle.paged_map.proofs.Keys.{ascend_insert}
use Rattle.paged_map.proofs.Cuts.{has_by}
use Rattle.paged_map.proofs.writes.value_mut.Goals as goal

pub returns : goal.returns
returns g c =
    let items = c.args.pages.now.items in
    let k = c.args.key.now in
    let s = c.find.result.0 in
    let at : HasAt k (values_in items) s =
    has_by k (values_in items) s c.find.result.1 (λ t. subst (λ l. HasAt k (values_in l) s) c.deref.ensures.value (c.find.ensures.found t)) (λ t. subst (λ l. LacksAt k (values_in l) s) c.deref.ensures.value (c.find.ensures.absent t)) c.requires.there in (
      (
        refl,
        (λ w ok.
            let made = c.value_at.follows.holds w ok in
            let is : entries_of (c.value_at.follows.lender w).items ≡ insert_entry octets_cmp (entries_of items) k w =
            made.0 ∙ ap (λ j. before (values_in items) s ++ (j, w) ∷ beyond (values_in items) s) at.key ∙ sym (at.inserted w) in
            (is, (made.1, subst Ascend (sym is) (ascend_insert (entries_of items) k w c.requires.sound.1)))),
        c.value_at.follows.holds-at-none,
      ),
      record { writes_back = tt; value = IfOk-weaker c.value_at.result _ _ (λ x is. at.value ∙ is) c.value_at.ensures.value },
    )
