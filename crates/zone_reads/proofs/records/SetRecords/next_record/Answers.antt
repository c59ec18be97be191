use Rattle.std.proofs.Common.{◌≡◌, All, subst}
use Rattle.std.proofs.lemmas.List.Elements.{All-tail}
use Rattle.dns_rdata.specs.ZoneData.{rtype_of}
use Rattle.zone_reads.proofs.records.SetRecords.next_record.Goals as goal

-- What is left is of the set's type.
pub invariant_of-self : goal.invariant_of-self
invariant_of-self c =
    All-tail (λ d. rtype_of d ≡ c.self.inside.rtype) c.in-Some.rdata.now c.in-Some.behind.now (subst (All (λ d. rtype_of d ≡ c.self.inside.rtype)) c.in-Some.ensures.cases.0 c.self.invariant)
