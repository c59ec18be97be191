-- What a provider with a history offers has one, and what a commit tells may be pushed.
use Rattle.std.proofs.Common.{◌≡◌, Bool, true, false, if◌then◌else◌, refl, sym, ap, subst, true≢false, Some, None, Result, Ok, Err, unwrap_or}
use Rattle.std.specs.Prelude.{is_ok}
use Rattle.zone_model.specs.Version.{Version}
use Rattle.zone_model.specs.Difference.{difference, diffable}
use Rattle.zone_reads.specs.Session.{closed}
use Rattle.zone_model.specs.Offer.{Offer, MayPush, IsHistory}
use Rattle.zone_model.specs.Offer.Denial.{UnknownZone as NoSuchZone, NotGranted}
use Rattle.zone_model.specs.Pushes.{offered_history}
use Rattle.zone_model.proofs.Pushed.{offer_has_history}
use Rattle.xfr_providers.specs.Offers.{answer_of, HistoryIsOffered, CommitsMayBePushed}

abbrev offer_or : {E : Type 0} → Offer → Result Offer E → Offer
offer_or o (Ok x) = x
offer_or o (Err e) = o

only_offer : (unknown refused : Bool) (o offer : Offer) → answer_of (if unknown then Err NoSuchZone else if refused then Err NotGranted else Ok o) ≡ Ok offer → o ≡ offer
only_offer true refused o offer e = absurd (true≢false (sym (ap is_ok e)))
only_offer false true o offer e = absurd (true≢false (sym (ap is_ok e)))
only_offer false false o offer e = ap (offer_or o) e

pub history_is_offered : HistoryIsOffered
history_is_offered p None key asked offer history has e = absurd (true≢false (sym (ap is_ok e)))
history_is_offered p (Some q) key asked offer history has e =
    let n = unwrap_or asked 0 in
    subst (λ x. IsHistory x (offered_history n history)) (only_offer _ _ _ offer e) (offer_has_history p history n has)

told_may_be_pushed : (wanted : Bool) (v w : Version) → MayPush v w (if wanted then (if diffable v w then Some (difference v w) else None) else None)
told_may_be_pushed wanted v w = by wanted (diffable v w) refl
  where
    by : (wanted differs : Bool) → diffable v w ≡ differs → MayPush v w (if wanted then (if differs then Some (difference v w) else None) else None)
    by false differs e = tt
    by true false e = tt
    by true true e = (refl, e)

pub commits_push : CommitsMayBePushed
commits_push s bumps = told_may_be_pushed s.compares s.current.version (closed s bumps)
