use Rattle.std.proofs.Common.{◌≡◌, ◌++◌, length, ap, ◌∙◌}
use Rattle.dns_name.specs.Octets.{u16_octets, u48_octets}
use Rattle.dns_name.specs.Names.{name_wire}
use Rattle.tsig_rdata.specs.TsigData.{tsig_wire, Tsig as TsigData}
use Rattle.tsig_rdata.proofs.Pieces.{tsig_written}
use Rattle.tsig_rdata.proofs.rdata.Tsig.compose_parts.Goals as goal

pub returns-clause-ok : goal.returns-clause-ok
returns-clause-ok g c =
    let out = c.args.out.now.items in
    let t = c.self.inside in
    let name = name_wire (g.N.Labelled.labels t.algorithm) in
    let mac = g.O.AsSlice.items t.mac in
    let other = g.O.AsSlice.items t.other in
    let s = u48_octets t.time_signed in
    let f = u16_octets t.fudge in
    let ml = u16_octets (length mac) in
    let i = u16_octets t.original_id in
    let e = u16_octets t.error in
    let ol = u16_octets (length other) in
    let e0 = c.in_ok-compose.ensures.ok in
    let e1 : c.extend_from_slice.new.self.items ≡ out ++ name ++ s = rw (c.in_ok-extend_from_slice.ensures.items, e0, c.into_octets.ensures) in
    let e2 : c.extend_from_slice-2.new.self.items ≡ out ++ name ++ s ++ f = rw (c.in_ok-extend_from_slice-2.ensures.items, e1, c.to_be_bytes.ensures) in
    let e3 : c.extend_from_slice-3.new.self.items ≡ out ++ name ++ s ++ f ++ ml =
    rw (c.in_ok-extend_from_slice-3.ensures.items, e2, c.to_be_bytes-2.ensures, c.as_slice.ensures) in
    let e4 : c.extend_from_slice-4.new.self.items ≡ out ++ name ++ s ++ f ++ ml ++ mac =
    rw (c.in_ok-extend_from_slice-4.ensures.items, e3, c.as_slice-2.ensures) in
    let e5 : c.extend_from_slice-5.new.self.items ≡ out ++ name ++ s ++ f ++ ml ++ mac ++ i = rw (c.in_ok-extend_from_slice-5.ensures.items, e4, c.to_be_bytes-3.ensures) in
    let e6 : c.extend_from_slice-6.new.self.items ≡ out ++ name ++ s ++ f ++ ml ++ mac ++ i ++ e =
    rw (c.in_ok-extend_from_slice-6.ensures.items, e5, c.to_be_bytes-4.ensures) in
    let e7 : c.extend_from_slice-7.new.self.items ≡ out ++ name ++ s ++ f ++ ml ++ mac ++ i ++ e ++ ol =
    rw (c.in_ok-extend_from_slice-7.ensures.items, e6, c.to_be_bytes-5.ensures, c.as_slice-3.ensures) in
    let e8 : c.extend_from_slice-8.new.self.items ≡ out ++ name ++ s ++ f ++ ml ++ mac ++ i ++ e ++ ol ++ other =
    rw (c.in_ok-extend_from_slice-8.ensures.items, e7, c.as_slice-4.ensures) in
    e8 ∙ tsig_written out name s f ml mac i e ol other ∙ ap (λ (t : TsigData). out ++ tsig_wire t) c.self.view_is
