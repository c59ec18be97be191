use Rattle.std.proofs.Common.{◌≡◌, List, ℕ, ◌++◌, sym, ap, ◌∙◌, bytes_eq}
use Rattle.dns_name.specs.Names.{name_wire}
use Rattle.dns_name.specs.Records.{Record as RecordOf, data_wire}
use Rattle.dns_rdata.specs.RecordHead.{head_wire}
use Rattle.dns_rdata.proofs.Writing.{record_regrouped}
use Rattle.dns_rdata.proofs.Fronts.{one_front, wrong_front}
use Rattle.dns_rdata.proofs.record.Record+ParsedName+ParsedRecordData.is_spelled.Goals as goal

pub returns-in-Some : goal.returns-in-Some
returns-in-Some c =
    let r = c.args.self.now in
    let o = c.args.octets.now in
    let rest = c.in-Some.rest.now in
    let first : o ≡ name_wire r.owner ++ rest = c.in-Some.ensures ∙ ap (λ (x : RecordOf). name_wire x.owner ++ rest) c.self.view_is in
    c.is_head_and_data.ensures ∙ (λ i. bytes_eq (c.head.ensures i ++ data_wire (c.self.view_is i).fields) rest)
    ∙ sym (one_front (name_wire r.owner) (head_wire r ++ data_wire r.fields) o rest first) ∙ sym (ap (λ w. bytes_eq w o) (record_regrouped r))

pub returns-in-None : goal.returns-in-None
returns-in-None c =
    let r = c.args.self.now in
    let o = c.args.octets.now in
    let no_owner : (rest : List ℕ) → o ≡ name_wire r.owner ++ rest → ⊥ = λ rest e. c.in-None.ensures rest (e ∙ sym (ap (λ (x : RecordOf). name_wire x.owner ++ rest) c.self.view_is)) in
    sym (ap (λ w. bytes_eq w o) (record_regrouped r) ∙ wrong_front (name_wire r.owner) (head_wire r ++ data_wire r.fields) o no_owner)
