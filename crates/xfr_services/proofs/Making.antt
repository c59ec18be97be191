-- Replies that can be made.
use Rattle.std.proofs.Common.{◌≡◌, true≢false, refl, sym, Option, Some, None}
use Rattle.std.specs.Prelude.{IsSome, option_map}
use Rattle.dns_wire.specs.Wire.{Building}
use Rattle.xfr_services.specs.Items.{one_reply}

-- a reply that can be made can be given alone
pub some_replies : (reply : Option Building) → IsSome reply → IsSome (option_map one_reply reply)
some_replies None none = absurd (true≢false (sym none))
some_replies (Some reply) some = refl
