-- What is chosen to be sent, as it is kept.
use Rattle.std.specs.Prelude.{◌≡◌, ℕ, Bool, false, ◌&&◌, not, is_some, List, Option, Some, None, Result, Ok, Err, IsOk}
use Rattle.dns_numbers.specs.Serial.{serial_upto}
use Rattle.dns_wire.specs.Wire.{Building}
use Rattle.zone_model.specs.Offer.{Offer}
use Rattle.xfr_server.specs.Replying.{error_reply}
use Rattle.xfr_server.specs.Transfers.{Choice, asked_serial, chosen, is_ixfr, soa_reply}
use Rattle.xfr_server.specs.Transfers.Choice.{Refuse, SoaAlone as TheSoa, Text as TheText}
use Rattle.xfr_services.specs.declared.modes.XfrMode.{XfrMode}
use Rattle.xfr_services.specs.declared.services.ServiceError.{ServiceError}
use Rattle.xfr_services.specs.declared.services.ServiceError.TheVariants.{InternalError, Memory}
use Rattle.xfr_providers.specs.declared.providers.XfrDataProviderError.{XfrDataProviderError}
use Rattle.xfr_server.specs.declared.transfer.Reply.{Reply}
use Rattle.xfr_server.specs.declared.transfer.Reply.TheVariants.{Short as OneMessage, Text}
use Rattle.xfr_server.specs.declared.transfer.Short.{Short}
use Rattle.xfr_server.specs.declared.transfer.Short.TheVariants.{Error, SoaAlone}

abbrev pub short_shown : Short → Choice
short_shown (Error rcode) = Refuse rcode
short_shown (SoaAlone zone) = TheSoa zone.version

abbrev pub choice_shown : Reply → Choice
choice_shown (OneMessage short) = short_shown short
choice_shown (Text text singles) = TheText text.zone.version singles text.records

-- the reply that such a choice is, where one can be made
abbrev pub short_sent : List ℕ → ℕ → Short → Option Building
short_sent request limit (Error rcode) = error_reply request rcode
short_sent request limit (SoaAlone zone) = soa_reply request limit zone.version

-- what want of memory may hide: a choice that is made of an offer, to one who names a serial where one is wanted (RFC 1995, 2 and 3)
pub record IsOffered (told : Option ℕ → Result Offer XfrDataProviderError) (mode : XfrMode) (message : List ℕ) : Type 0 where
  pub named : (is_ixfr mode && not (is_some (asked_serial message))) ≡ false
  pub offer : IsOk (told (asked_serial message))

-- One case for each answer: what is chosen, or want of memory, which hides no refusal but of an offer.
abbrev pub Chooses : (Option ℕ → Result Offer XfrDataProviderError) → XfrMode → Bool → List ℕ → Result Reply ServiceError → Type 0
Chooses told mode udp message (Ok reply) = choice_shown reply ≡ chosen told mode udp message
Chooses told mode udp message (Err InternalError) = ⊥
Chooses told mode udp message (Err Memory) = IsOffered told mode message

-- whether a serial is no news to one who has the other
abbrev pub is_no_news : ℕ → Option ℕ → Bool
is_no_news serial None = false
is_no_news serial (Some asked) = serial_upto serial asked
