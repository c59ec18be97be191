use Rattle.std.proofs.Common.{◌≡◌, Some, ◌==◌, ◌&&◌, false, sym, ap, ◌∙◌}
use Rattle.std.specs.Option.{option_copied}
use Rattle.dns_name.specs.Names.{same_name}
use Rattle.dns_numbers.specs.Codes.{type_ns, type_ds}
use Rattle.zone_model.specs.Answer.Answer.{Referral}
use Rattle.zone_values.specs.TypedEntries.{untyped}
use Rattle.zone_reads.proofs.LentTypes.{lent_set, lent_type}
use Rattle.zone_lookup.proofs.Referrals.{and_false, cut_refers, no_servers}
use Rattle.zone_lookup.proofs.look_up_steps.at_cut.Goals.{else-eq-via-then-eq+else-name_eq, else-eq-via-else-eq}
use Rattle.zone_lookup.proofs.look_up_steps.at_cut.Goals as goal

-- The sets are of the types that were asked for.
pub referral-requires-clause-servers : goal.referral-requires-clause-servers
referral-requires-clause-servers c = lent_type type_ns (Some c.in-Some.servers) _ (sym (ap option_copied c.in-Some.is) ∙ c.set_at.ensures)

pub referral-requires-clause-signer : goal.referral-requires-clause-signer
referral-requires-clause-signer c = lent_type type_ds c.set_at-signer.result _ c.set_at-signer.ensures

-- Another name or another type: a referral.
pub returns-in-Some : goal.returns-in-Some
returns-in-Some c =
    let other : (same_name c.args.name.now c.args.cut && (c.args.rtype == type_ds)) ≡ false = elim c.else-eq.branch [
      | else-eq-via-then-eq+else-name_eq w ↦ ap (λ b. b && (c.args.rtype == type_ds)) (sym w.if-name_eq.ensures)
      | else-eq-via-else-eq w ↦ ap (λ b. same_name c.args.name.now c.args.cut && b) (sym w.if-eq.ensures) ∙ and_false (same_name c.args.name.now c.args.cut)
    ] in
    c.referral.ensures ∙ ap (λ o. Referral o c.in-Some.servers.now.contents (untyped (option_copied c.set_at-signer.result))) c.into_canonical.ensures
    ∙ cut_refers c.args.version.now c.args.name.now c.args.rtype c.args.cut c.in-Some.servers.now.contents (untyped (option_copied c.set_at-signer.result)) other
    (sym (ap (λ r. untyped (option_copied r)) c.in-Some.is) ∙ lent_set type_ns c.set_at.result _ c.set_at.ensures) (lent_set type_ds c.set_at-signer.result _ c.set_at-signer.ensures)

-- A cut has servers.
pub returns-in-None : goal.returns-in-None
returns-in-None c = absurd (no_servers c.args.version.now c.args.cut c.requires (sym (ap (λ r. untyped (option_copied r)) c.in-None.is) ∙ lent_set type_ns c.set_at.result _ c.set_at.ensures))
