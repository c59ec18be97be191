use Rattle.std.proofs.Common.{◌≡◌, [], ◌++◌, refl}
use Rattle.std.specs.Prelude.{Ok, Err, ◌∷◌}
use Rattle.std.specs.Option.{option_copied, option_map_or}
use Rattle.std.proofs.lemmas.Result.{err_from_is_err_and}
use Rattle.dns_wire.specs.Wire.{in_authority}
use Rattle.zone_values.specs.TypedSets.{TypedRecord}
use Rattle.zone_lookup.specs.Sending.{record_at, set_at_name, soa_records, ns_records, ds_records}
use Rattle.zone_lookup.proofs.Adding.{authority, front_refused, added_behind, regrouped, list_given}
use Rattle.zone_lookup.proofs.parts.AnswerAuthority.push_into.Goals as goal

pub returns-in_err-push_soa : goal.returns-in_err-push_soa
returns-in_err-push_soa c =
    let from = err_from_is_err_and c.from_residual.result c.from_residual.ensures.1 in
    let a = c.args in
    let x = a.self.now in
    let soa : option_map_or (λ (r : TypedRecord). record_at c.borrowed-owner.result a.class r ∷ []) (option_copied c.soa.result) [] ≡ soa_records a.class x =
    rw (c.borrowed-owner.ensures.value, c.owner.ensures, c.soa.ensures) refl in
    rw (from.1, from.2) (λ h qs answers stands. front_refused 8 _ (λ rs. in_authority h qs answers rs) (soa_records a.class x) (ns_records a.class x ++ ds_records a.class x)
    a.section.now c.push_soa.new.section c.push_soa.new.section _ (authority h qs answers)
    (list_given _ (soa_records a.class x) (λ rs. in_authority h qs answers rs) [] a.section.now c.push_soa.new.section (Err c.in_err-push_soa.field-0.0) soa (c.in_err-push_soa.ensures h qs answers [] stands)))

pub returns-in_err-push_set : goal.returns-in_err-push_set
returns-in_err-push_set c =
    let from = err_from_is_err_and c.from_residual-in_err-push_set.result c.from_residual-in_err-push_set.ensures.1 in
    let a = c.args in
    let x = a.self.now in
    let soa : option_map_or (λ (r : TypedRecord). record_at c.borrowed-owner.result a.class r ∷ []) (option_copied c.soa.result) [] ≡ soa_records a.class x =
    rw (c.borrowed-owner.ensures.value, c.owner.ensures, c.soa.ensures) refl in
    let ns : option_map_or (set_at_name c.borrowed-owner.result a.class) (option_copied c.ns.result) [] ≡ ns_records a.class x =
    rw (c.borrowed-owner.ensures.value, c.owner.ensures, c.ns.ensures) refl in
    rw (from.1, from.2) (λ h qs answers stands. regrouped (λ rs. in_authority h qs answers rs) (soa_records a.class x) (ns_records a.class x) (ds_records a.class x)
    a.section.now c.push_set.new.section (Err c.in_err-push_set.field-0.0)
    (added_behind (in_authority h qs answers (soa_records a.class x)) (in_authority h qs answers ((soa_records a.class x ++ ns_records a.class x) ++ ds_records a.class x))
    a.section.now c.push_soa.new.section c.push_set.new.section _ (Err c.in_err-push_set.field-0.0)
    (list_given _ (soa_records a.class x) (λ rs. in_authority h qs answers rs) [] a.section.now c.push_soa.new.section (Ok c.in_ok-push_soa.field-0) soa (c.in_ok-push_soa.ensures h qs answers [] stands))
    (λ then. front_refused 8 _ (λ rs. in_authority h qs answers rs) (soa_records a.class x ++ ns_records a.class x) (ds_records a.class x)
    c.push_soa.new.section c.push_set.new.section c.push_set.new.section _ (authority h qs answers)
    (list_given _ (ns_records a.class x) (λ rs. in_authority h qs answers rs) (soa_records a.class x) c.push_soa.new.section c.push_set.new.section (Err c.in_err-push_set.field-0.0) ns
    (c.in_err-push_set.ensures h qs answers (soa_records a.class x) then)))))

pub returns : goal.returns
returns c =
    let a = c.args in
    let x = a.self.now in
    let soa : option_map_or (λ (r : TypedRecord). record_at c.borrowed-owner.result a.class r ∷ []) (option_copied c.soa.result) [] ≡ soa_records a.class x =
    rw (c.borrowed-owner.ensures.value, c.owner.ensures, c.soa.ensures) refl in
    let ns : option_map_or (set_at_name c.borrowed-owner.result a.class) (option_copied c.ns.result) [] ≡ ns_records a.class x =
    rw (c.borrowed-owner.ensures.value, c.owner.ensures, c.ns.ensures) refl in
    let ds : option_map_or (set_at_name c.borrowed-owner.result a.class) (option_copied c.ds.result) [] ≡ ds_records a.class x =
    rw (c.borrowed-owner.ensures.value, c.owner.ensures, c.ds.ensures) refl in
    λ h qs answers stands. regrouped (λ rs. in_authority h qs answers rs) (soa_records a.class x) (ns_records a.class x) (ds_records a.class x)
    a.section.now c.push_set-2.new.section c.push_set-2.result
    (added_behind (in_authority h qs answers (soa_records a.class x)) (in_authority h qs answers ((soa_records a.class x ++ ns_records a.class x) ++ ds_records a.class x))
    a.section.now c.push_soa.new.section c.push_set-2.new.section _ c.push_set-2.result
    (list_given _ (soa_records a.class x) (λ rs. in_authority h qs answers rs) [] a.section.now c.push_soa.new.section (Ok c.in_ok-push_soa.field-0) soa (c.in_ok-push_soa.ensures h qs answers [] stands))
    (λ then. added_behind (in_authority h qs answers (soa_records a.class x ++ ns_records a.class x)) (in_authority h qs answers ((soa_records a.class x ++ ns_records a.class x) ++ ds_records a.class x))
    c.push_soa.new.section c.push_set.new.section c.push_set-2.new.section _ c.push_set-2.result
    (list_given _ (ns_records a.class x) (λ rs. in_authority h qs answers rs) (soa_records a.class x) c.push_soa.new.section c.push_set.new.section (Ok c.in_ok-push_set.field-0) ns
    (c.in_ok-push_set.ensures h qs answers (soa_records a.class x) then))
    (λ last. list_given _ (ds_records a.class x) (λ rs. in_authority h qs answers rs) (soa_records a.class x ++ ns_records a.class x) c.push_set.new.section c.push_set-2.new.section c.push_set-2.result ds
    (c.push_set-2.ensures h qs answers (soa_records a.class x ++ ns_records a.class x) last))))
