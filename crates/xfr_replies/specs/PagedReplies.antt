-- What is sent of a transfer's text (RFC 5936, 2.2).
use Rattle.std.specs.Prelude.{◌≡◌, ℕ, Bool, List, [], ◌∷◌, ◌++◌, map, if◌then◌else◌}
use Rattle.std.specs.Option.{option_map_or}
use Rattle.std.specs.List.{list_all}
use Rattle.dns_numbers.specs.Codes.{servfail}
use Rattle.dns_rdata.specs.Records.{Record}
use Rattle.zone_model.specs.Offer.{IsCutInto}
use Rattle.xfr_services.specs.Items.{Sending, reply_item, feedback_item}
use Rattle.xfr_services.specs.Items.Sending.{Given, Failed}
use Rattle.xfr_services.specs.Replying.{error_reply}
use Rattle.xfr_services.specs.declared.services.ServiceFeedback.TheVariants.{BeginTransaction, EndTransaction}
use Rattle.xfr_replies.specs.TransferPages.{page_message, page_room, has_page, sendable}

abbrev pub page_sent : List ℕ → ℕ → List Record → Sending
page_sent request limit page = Given (reply_item (page_message request limit page))

abbrev pub servfail_sent : List ℕ → Sending
servfail_sent request = option_map_or (λ reply. Given (reply_item reply)) (error_reply request servfail) Failed

-- how it ends: with feedback, or with SERVFAIL in place of a record that has no room in a message of its own
abbrev pub end_sent : List ℕ → ℕ → List Record → Sending
end_sent request limit text = if list_all (has_page (page_room request limit)) text then Given (feedback_item EndTransaction) else servfail_sent request

-- what is sent of the records of a text that are left: a message for each page, in compatibility mode one record each, and the end
pub record SendsRest (request : List ℕ) (limit : ℕ) (singles : Bool) (text : List Record) (items : List Sending) : Type 0 where
  pub pages : List (List Record)
  pub cut : IsCutInto (page_room request limit) singles (sendable (page_room request limit) text) pages
  pub sent : items ≡ map (page_sent request limit) pages ++ end_sent request limit text ∷ []

-- what is sent of a text in answer to a request, in messages of up to so many octets: feedback, and that
abbrev pub TransferSends : List ℕ → ℕ → Bool → List Record → List Sending → Type 0
TransferSends request limit singles text items = (rest : List Sending) × (items ≡ Given (feedback_item BeginTransaction) ∷ rest) × SendsRest request limit singles text rest
