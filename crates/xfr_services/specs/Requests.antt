-- Requests: how one came, and the same one with other metadata.
use Rattle.std.specs.Prelude.{Bool, true, false}
use Rattle.xfr_services.specs.declared.requests.Request.{Request}
use Rattle.xfr_services.specs.declared.requests.TransportSpecificContext.{TransportSpecificContext}
use Rattle.xfr_services.specs.declared.requests.TransportSpecificContext.TheVariants.{Udp, NonUdp}

-- whether a request came by UDP
abbrev pub is_udp : TransportSpecificContext → Bool
is_udp (Udp hint) = true
is_udp NonUdp = false

-- the same request with other metadata
abbrev pub with_metadata : {M T : Type 0} → Request M → T → Request T
with_metadata r metadata = record { message = r.message; transport = r.transport; at = r.at; metadata = metadata; reserved = r.reserved }
