-- A name in lower case stays as it is in lower case.
use Rattle.std.proofs.Common.{◌≡◌, sym, ap, ◌∙◌}
use Rattle.dns_name.specs.Names.{Name, fold}
use Rattle.zone_model.proofs.Folded.{fold-fold}

pub stays_folded : (m n : Name) → n ≡ fold m → fold n ≡ n
stays_folded m n e = ap fold e ∙ fold-fold m ∙ sym e
