-- The text that is chosen to be sent, as the model says it (RFC 5936, 2.2 and 7; RFC 1995, 2 and 4).
use Rattle.std.specs.Prelude.{◌≡◌, ℕ, Bool, true, false, ◌||◌, not, List, Option, Some, None}
use Rattle.dns_rdata.specs.Records.{Record}
use Rattle.dns_wire.specs.Wire.{Question}
use Rattle.zone_model.specs.Version.{has_one_apex_soa}
use Rattle.zone_model.specs.Answer.{apex_soa_record}
use Rattle.zone_model.specs.TransferText.{Mode, OnIxfr}
use Rattle.zone_model.specs.TransferText as texts
use Rattle.zone_model.specs.Offer.{Offer, text_of}
use Rattle.xfr_server.specs.Transfers.{Choice, is_ixfr, asks_for_apex, choice_of}
use Rattle.xfr_server.specs.Transfers.Choice.{Refuse, SoaAlone, Text}
use Rattle.xfr_services.specs.declared.modes.XfrMode.{XfrMode}
use Rattle.xfr_outcomes.specs.Modes.{mode_of}

-- the records that are sent of a choice, and whether each message holds one of them; none of a refusal
abbrev pub sent_records : Choice → Option (List Record × Bool)
sent_records (Refuse rcode) = None
sent_records (SoaAlone v) = Some (apex_soa_record v, false)
sent_records (Text v singles text) = Some (text, singles)

-- whether each message holds one record: where the provider wants that, but not in answer to an incremental request (RFC 5936, 7)
abbrev pub in_singles : Mode → Bool → Bool
in_singles texts.Axfr compatibility = compatibility
in_singles texts.Ixfr compatibility = false

-- the law of choice: by a stream, and by UDP where it is incremental, a request is answered with the model's text of the offer for the serial that it
-- names; an incremental one names one always (RFC 1995, 2 and 3)
abbrev pub TextIsChosen : Type 0
TextIsChosen = (mode : XfrMode) (udp : Bool) (question : Option Question) (asked : Option ℕ) (serial : ℕ) (offer : Offer)
    → (is_ixfr mode || not udp) ≡ true → OnIxfr (mode_of mode) (asked ≡ Some serial)
    → asks_for_apex question offer.version ≡ true → has_one_apex_soa offer.version ≡ true
    → sent_records (choice_of mode udp question asked offer) ≡ Some (text_of offer (mode_of mode) serial, in_singles (mode_of mode) offer.compatibility)
