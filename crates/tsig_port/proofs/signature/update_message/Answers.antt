use Rattle.std.proofs.Common.{◌≡◌, ℕ, List, ◌++◌, subst, ap, ◌∙◌}
use Rattle.std.specs.Prelude.{slice_range}
use Rattle.dns_wire.specs.Wire.{Counts, arcount_in}
use Rattle.tsig_port.specs.Tsig.{digested_message}
use Rattle.tsig_port.specs.HmacState.{HoldsHmac}
use Rattle.tsig_port.proofs.Taking.{message_taken}
use Rattle.tsig_port.proofs.signature.update_message.Goals as goal

pub returns : goal.returns
returns c = λ a k t h.
    let m = c.args.message.now in
    let octets = c.as_slice-octets.result.now in
    let count : c.arcount.inside.arcount ≡ arcount_in m = ap (λ (x : Counts). x.arcount) (c.arcount.view_is ∙ c.counts.ensures) in
    let same : t ++ c.to_be_bytes.result ++ slice_range octets 2 10 ++ c.to_be_bytes-2.result ++ slice_range octets 12 c.args.start
    ≡ t ++ digested_message c.args.start c.args.original_id m =
    rw (c.to_be_bytes.ensures, c.as_slice-octets.ensures.value, c.to_be_bytes-2.ensures, c.saturating_sub.ensures, count)
    (message_taken t m c.args.start c.args.original_id c.requires.header c.requires.within) in
    subst (λ (x : List ℕ). HoldsHmac c.update-4.new.self a k x) same
    (c.update-4.ensures a k _ (c.update-3.ensures a k _ (c.update-2.ensures a k _ (c.update.ensures a k t h))))
