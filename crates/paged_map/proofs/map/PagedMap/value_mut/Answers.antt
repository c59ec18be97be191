use Rattle.std.proofs.Common.{◌≡◌, ap, ◌∙◌, refl, sym, subst, OnErr, is_ok}
use Rattle.std.specs.BTreeMap.{insert_entry, is_at}
use Rattle.std.specs.Map.{lookup}
use Rattle.std.proofs.lemmas.Result.{IfOk-from_err}
use Rattle.paged_map.specs.Octets.{octets_cmp}
use Rattle.paged_map.specs.Pages.{joined, values_in}
use Rattle.paged_map.proofs.Lent.{no_loan, not_ok, at_err}
use Rattle.paged_map.proofs.map.PagedMap.value_mut.Goals as goal

pub invariant_of-self-lent : goal.invariant_of-self-lent
invariant_of-self-lent g c w = (c.value_mut.follows.holds w (ap is_ok c.in_ok-value_mut.was)).1

pub returns : goal.returns
returns g c = (
  (refl, (λ w ok. (c.value_mut.follows.holds w (ap is_ok c.in_ok-value_mut.was)).0 ∙ ap (λ es. insert_entry octets_cmp es c.args.key.now w) c.self.view_is), tt),
  record { writes_back = tt; value = ap (lookup (is_at (octets_cmp c.args.key.now))) (sym c.self.view_is) ∙ c.in_ok-value_mut.ensures.value },
)

pub returns-in_err-value_mut : goal.returns-in_err-value_mut
returns-in_err-value_mut g c =
    let failed = c.from_residual.ensures.0 in (
      (
        no_loan c.from_residual.result _ failed,
        (λ w ok. absurd (not_ok c.from_residual.result failed ok)),
        at_err c.from_residual.result (ap joined (subst (λ r. OnErr r (values_in c.value_mut.follows.lender-at-none.items ≡ values_in c.self.inside.pages.items)) c.in_err-value_mut.was c.value_mut.follows.holds-at-none) ∙ c.self.view_is),
      ),
      record { writes_back = tt; value = IfOk-from_err c.from_residual.result _ failed },
    )
