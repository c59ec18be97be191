use Rattle.std.proofs.Common.{◌≡◌, ℕ, not, List, filter, take, drop, sym, ap, ◌∙◌, subst, OnOk}
use Rattle.std.proofs.lemmas.Result.{on_ok_weaker}
use Rattle.paged_map.specs.Octets.{octets_cmp, begins_with}
use Rattle.paged_map.specs.Pages.{values_in, entries_of, joined, page_at, before, after, IsWithin}
use Rattle.paged_map.proofs.Orders.{all_front, all_back}
use Rattle.paged_map.proofs.Keys.{Below, From, UpToUnder, BeyondUnder, under_cut, ordered_at, ascend_filter}
use Rattle.paged_map.proofs.Cuts.{whole, sound_by}
use Rattle.paged_map.proofs.writes.remove_under.Goals as goal

pub remove_between-requires-clause-order : goal.remove_between-requires-clause-order
remove_between-requires-clause-order g c same =
    let ps = values_in c.args.pages.now.items in
    let from = c.locate-from.result in
    let to = c.locate-to.result in
    let k = c.args.prefix.now in
    let fitting : IsWithin ps from = subst (λ l. IsWithin (values_in l) from) c.deref-2.ensures.value c.locate-from.ensures.within in
    let less : Below k (before ps from) = subst (λ l. Below k (before (values_in l) from)) c.deref-2.ensures.value c.locate-from.ensures.passed in
    let others : BeyondUnder k (after ps to) = subst (λ l. BeyondUnder k (after (values_in l) to)) c.deref-3.ensures.value c.locate-to.ensures.ahead in
    ordered_at k (page_at ps from.page) from.at to.at fitting.0 (all_back _ (joined (take from.page ps)) (take from.at (page_at ps from.page)) less)
    (subst (λ n. BeyondUnder k (drop to.at (page_at ps n))) (sym same) (all_front _ (drop to.at (page_at ps to.page)) _ others))

pub returns-clause-ok : goal.returns-clause-ok
returns-clause-ok g c =
    let ps = values_in c.args.pages.now.items in
    let from = c.locate-from.result in
    let to = c.locate-to.result in
    let k = c.args.prefix.now in
    let fitting : IsWithin ps from = subst (λ l. IsWithin (values_in l) from) c.deref-2.ensures.value c.locate-from.ensures.within in
    let less : Below k (before ps from) = subst (λ l. Below k (before (values_in l) from)) c.deref-2.ensures.value c.locate-from.ensures.passed in
    let others : BeyondUnder k (after ps to) = subst (λ l. BeyondUnder k (after (values_in l) to)) c.deref-3.ensures.value c.locate-to.ensures.ahead in
    let more : From k (after ps from) = subst (λ l. From k (after (values_in l) from)) c.deref-2.ensures.value c.locate-from.ensures.ahead in
    let fitting_to : IsWithin ps to = subst (λ l. IsWithin (values_in l) to) c.deref-3.ensures.value c.locate-to.ensures.within in
    let upto : UpToUnder k (before ps to) = subst (λ l. UpToUnder k (before (values_in l) to)) c.deref-3.ensures.value c.locate-to.ensures.passed in
    let ok : OnOk c.remove_between.result (entries_of c.remove_between.new.pages.items ≡ filter (λ e. not (begins_with e.0 k)) (entries_of c.args.pages.now.items)) =
    on_ok_weaker c.remove_between.result (λ made. made ∙ sym (under_cut k (joined ps) (before ps from) (after ps from) (before ps to) (after ps to) (whole ps from fitting) (whole ps to fitting_to) less more upto others)) c.remove_between.ensures.ok in
    ok

pub returns-clause-sound : goal.returns-clause-sound
returns-clause-sound g c =
    let ps = values_in c.args.pages.now.items in
    let from = c.locate-from.result in
    let to = c.locate-to.result in
    let k = c.args.prefix.now in
    let fitting : IsWithin ps from = subst (λ l. IsWithin (values_in l) from) c.deref-2.ensures.value c.locate-from.ensures.within in
    let less : Below k (before ps from) = subst (λ l. Below k (before (values_in l) from)) c.deref-2.ensures.value c.locate-from.ensures.passed in
    let others : BeyondUnder k (after ps to) = subst (λ l. BeyondUnder k (after (values_in l) to)) c.deref-3.ensures.value c.locate-to.ensures.ahead in
    let more : From k (after ps from) = subst (λ l. From k (after (values_in l) from)) c.deref-2.ensures.value c.locate-from.ensures.ahead in
    let fitting_to : IsWithin ps to = subst (λ l. IsWithin (values_in l) to) c.deref-3.ensures.value c.locate-to.ensures.within in
    let upto : UpToUnder k (before ps to) = subst (λ l. UpToUnder k (before (values_in l) to)) c.deref-3.ensures.value c.locate-to.ensures.passed in
    let ok : OnOk c.remove_between.result (entries_of c.remove_between.new.pages.items ≡ filter (λ e. not (begins_with e.0 k)) (entries_of c.args.pages.now.items)) =
    on_ok_weaker c.remove_between.result (λ made. made ∙ sym (under_cut k (joined ps) (before ps from) (after ps from) (before ps to) (after ps to) (whole ps from fitting) (whole ps to fitting_to) less more upto others)) c.remove_between.ensures.ok in
    sound_by c.args.pages.now.items c.remove_between.new.pages.items c.remove_between.result (filter (λ e. not (begins_with e.0 k)) (entries_of c.args.pages.now.items)) c.remove_between.ensures.fit ok
    (ascend_filter (λ e. not (begins_with e.0 k)) (entries_of c.args.pages.now.items) c.requires.1) c.remove_between.ensures.err c.requires.1
