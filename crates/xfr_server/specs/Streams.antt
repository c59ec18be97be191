-- Which items the stream of the transfer service still gives.
use Rattle.std.specs.Prelude.{◌≡◌, ℕ, List, length}
use Rattle.xfr_server.specs.Items.{Sending, all_given}
use Rattle.xfr_replies.specs.PulledStreams.{pulled_left, PulledLeft}
use Rattle.xfr_server.specs.declared.transfer.XfrMiddlewareStream.{XfrMiddlewareStream}
use Rattle.xfr_server.specs.declared.transfer.XfrMiddlewareStream.TheVariants.{Own, Transfer, Next}

-- the service's own items, those of a transfer, or what the next service's stream can give
abbrev pub items_left : {S : Type 0} → (S → ℕ) → XfrMiddlewareStream S → ℕ
items_left remaining (Own replies) = length replies
items_left remaining (Transfer replies) = pulled_left replies
items_left remaining (Next replies) = remaining replies

abbrev pub TransferLeft : {S : Type 0} → (S → List Sending → Type 0) → XfrMiddlewareStream S → List Sending → Type 0
TransferLeft LeftOf (Own replies) items = items ≡ all_given replies
TransferLeft LeftOf (Transfer replies) items = PulledLeft replies items
TransferLeft LeftOf (Next replies) items = LeftOf replies items
