-- What the transfer service sends in answer to a request.
use Rattle.std.specs.Prelude.{ℕ, List, Option, Some, None, Result}
use Rattle.zone_model.specs.Offer.{Offer}
use Rattle.xfr_server.specs.Items.{Sending}
use Rattle.xfr_server.specs.Requests.{with_metadata}
use Rattle.xfr_server.specs.Transfers.{transfer_mode, SendsAnswer}
use Rattle.xfr_services.specs.declared.requests.Request.{Request}
use Rattle.xfr_providers.specs.declared.providers.XfrDataProviderError.{XfrDataProviderError}
use Rattle.xfr_services.specs.declared.modes.XfrMode.{XfrMode}

-- what the next service sends to the request with default metadata
pub record SendsOn {M : Type 0} (IsDefault : M → Type 0) (Next : Request M → Option (List Sending) → Type 0) (r : Request M) (sent : Option (List Sending)) : Type 0 where
  pub metadata : M
  pub default : IsDefault metadata
  pub next : Next (with_metadata r metadata) sent

abbrev pub SendsIn : {M : Type 0} → (M → Type 0) → (Request M → Option (List Sending) → Type 0) → (List ℕ → M → Option ℕ → Result Offer XfrDataProviderError) → Request M → Option (List Sending) → Option XfrMode → Type 0
SendsIn IsDefault Next told r sent None = SendsOn IsDefault Next r sent
SendsIn IsDefault Next told r sent (Some mode) = SendsAnswer (told r.message r.metadata) mode r.transport r.reserved r.message sent

-- a transfer request is answered with what the provider tells, and others are sent on
abbrev pub SendsTransfer : {M : Type 0} → (M → Type 0) → (Request M → Option (List Sending) → Type 0) → (List ℕ → M → Option ℕ → Result Offer XfrDataProviderError) → Request M → Option (List Sending) → Type 0
SendsTransfer IsDefault Next told r sent = SendsIn IsDefault Next told r sent (transfer_mode r.message)
