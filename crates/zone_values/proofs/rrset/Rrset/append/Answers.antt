use Rattle.std.proofs.Common.{◌≡◌, All, ap, sym, subst, ◌∙◌}
use Rattle.std.proofs.lemmas.List.Elements.{All-push}
use Rattle.dns_rdata.specs.ZoneData.{rtype_of}
use Rattle.zone_values.specs.TypedSets.{TypedSet}
use Rattle.zone_values.proofs.rrset.Rrset.append.Goals as goal

-- The data put last are of the set's type.
pub invariant_of-self-2 : goal.invariant_of-self-2
invariant_of-self-2 c = (
  c.push_noted.ensures.indexed c.self.invariant.0,
  subst (All (λ d. rtype_of d ≡ c.self.inside.rtype)) (sym c.in_ok-push_noted.ensures.ok)
      (All-push (λ d. rtype_of d ≡ c.self.inside.rtype) c.self.inside.items.items c.args.item c.self.invariant.1 (c.requires ∙ sym (ap (λ (s : TypedSet). s.rtype) c.self.view_is))),
)
