use Rattle.std.proofs.Common.{◌≡◌, All, List, [], length}
use Rattle.dns_rdata.specs.ZoneData.{rtype_of, data_fields}
use Rattle.dns_wire.specs.Wire.{Header, Question, in_answer}
use Rattle.zone_lookup.specs.Sending.{set_at_name, Stands}
use Rattle.zone_lookup.proofs.Adding.{Kept, set_of}
use Rattle.zone_lookup.proofs.sections.push_answers.Given as goal

abbrev pub invariant-records : goal.invariant-records
invariant-records l = record {
  types : All (λ d. rtype_of d ≡ l.set.rtype) l.rest;
  kept : (h : Header) (qs : List Question) → Stands (in_answer h qs []) l.initial.section → Kept (λ rs. in_answer h qs rs) l.section l.initial.section
      (set_of data_fields l.owner l.set.rtype l.class l.ttl l.rest) (set_at_name l.owner l.class l.set);
}

abbrev pub decreases-records : goal.decreases-records
decreases-records l = length l.rest
