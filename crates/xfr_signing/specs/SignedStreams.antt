-- Which items the stream of signed replies still gives.
use Rattle.std.specs.Prelude.{◌≡◌, ℕ, List, [], ◌∷◌, Option, Some, None}
use Rattle.tsig_port.specs.Tsig.{TsigKey}
use Rattle.xfr_services.specs.Items.{Sending, reply_item}
use Rattle.xfr_services.specs.Items.Sending.{Given}
use Rattle.xfr_signing.specs.Signing.{Signer, Signs, signed_items}
use Rattle.xfr_signing.specs.declared.signing.Signing.{Signing}
use Rattle.xfr_signing.specs.declared.signing.PostprocessingState.{PostprocessingState}
use Rattle.xfr_signing.specs.declared.signing.TsigStream.{TsigStream}
use Rattle.xfr_signing.specs.declared.signing.TsigStream.TheVariants.{Refused, Unsigned, Signed}

-- one refusal, or what the next service's stream can give
abbrev pub signed_items_left : {S K : Type 0} → (S → ℕ) → TsigStream S K → ℕ
signed_items_left remaining (Refused None) = 0
signed_items_left remaining (Refused (Some reply)) = 1
signed_items_left remaining (Unsigned replies) = remaining replies
signed_items_left remaining (Signed replies state) = remaining replies

-- what the next service's stream gives, signed
pub record GivesSigned {S K : Type 0} (LeftOf : S → List Sending → Type 0) (the_key : K → TsigKey) (replies : S) (state : PostprocessingState K) (items : List Sending) : Type 0 where
  pub given : List Sending
  pub signer : Signer
  pub signing : Signing
  pub prior : Option (List ℕ)
  pub left : LeftOf replies given
  pub signs : Signs the_key state signer signing prior
  pub signed : items ≡ signed_items signer signing prior given

abbrev pub SignedLeft : {S K : Type 0} → (S → List Sending → Type 0) → (K → TsigKey) → TsigStream S K → List Sending → Type 0
SignedLeft LeftOf the_key (Refused None) items = items ≡ []
SignedLeft LeftOf the_key (Refused (Some reply)) items = items ≡ Given (reply_item reply) ∷ []
SignedLeft LeftOf the_key (Unsigned replies) items = LeftOf replies items
SignedLeft LeftOf the_key (Signed replies state) items = GivesSigned LeftOf the_key replies state items
