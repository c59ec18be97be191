-- The history that a provider keeps: versions that nobody stores, of which it has the differences (RFC 1995, 5).
use Rattle.std.specs.Prelude.{ℕ, ◌==◌, if◌then◌else◌, List, [], ◌∷◌, ◌++◌, Option, Some, None, IsTrue}
use Rattle.std.specs.List.{AllByRecursion, list_any}
use Rattle.dns_name.specs.Names.{Name}
use Rattle.zone_model.specs.Version.{Version, Same}
use Rattle.zone_model.specs.Difference.{Difference, zone_serial}
use Rattle.zone_model.specs.Offer.{first_is, IsHistory, Provider, MayPush, offer_of, after_push}
use Rattle.zone_model.specs.TransferLaws.{IsPublished}

-- a provider's differences are those of this history
abbrev pub HasHistory : Provider → List Version → Type 0
HasHistory p history = IsHistory (record { version = p.kept; differences = p.differences; compatibility = p.compatibility }) history

-- the versions after the one with a serial
abbrev pub behind : ℕ → List Version → List Version
behind n [] = []
behind n (v ∷ more) = if zone_serial v == n then more else behind n more

-- without what leads up to a serial that comes again
abbrev pub kept_part : ℕ → List Version → List Version
kept_part n history = if list_any (λ v. zone_serial v == n) history then behind n history else history

-- the history after a push of a version, with its difference from the kept one or without
abbrev pub pushed_history : List Version → Version → Option Difference → List Version
pushed_history history v None = v ∷ []
pushed_history history v (Some d) = kept_part (zone_serial v) history ++ v ∷ []

-- the law of pushes: a provider with a history has one after each push
abbrev pub PushKeeps : Type 0
PushKeeps = (p : Provider) (history : List Version) (v : Version) (d : Option Difference) → HasHistory p history → MayPush p.kept v d → HasHistory (after_push p v d) (pushed_history history v d)

-- .. of published versions, where the one that is pushed is
abbrev pub PushPublishes : Type 0
PushPublishes = (apex : Name) (history : List Version) (v : Version) (d : Option Difference) → AllByRecursion (IsPublished apex) history → IsPublished apex v → AllByRecursion (IsPublished apex) (pushed_history history v d)

-- the history that is offered to one who has a serial: from that version on, or the last version alone
abbrev pub offered_history : ℕ → List Version → List Version
offered_history n [] = []
offered_history n (v ∷ []) = v ∷ []
offered_history n (v ∷ w ∷ more) = if zone_serial v == n then v ∷ w ∷ more else offered_history n (w ∷ more)

-- the law of offers: an offer of a provider with a history has one, of published versions if those are, and it begins where a base begins that is the same as the version with its serial
abbrev pub OfferHasHistory : Type 0
OfferHasHistory = (p : Provider) (history : List Version) (asked : ℕ) → HasHistory p history → IsHistory (offer_of p.kept p.differences p.compatibility asked) (offered_history asked history)

abbrev pub OfferPublishes : Type 0
OfferPublishes = (apex : Name) (history : List Version) (asked : ℕ) → AllByRecursion (IsPublished apex) history → AllByRecursion (IsPublished apex) (offered_history asked history)

abbrev pub OfferStarts : Type 0
OfferStarts = (history : List Version) (base : Version) → AllByRecursion (λ v. IsTrue (zone_serial v == zone_serial base) → Same base v) history → IsTrue (first_is base (offered_history (zone_serial base) history))
