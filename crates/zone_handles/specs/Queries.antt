-- What a query of a version answers.
use Rattle.std.specs.Prelude.{◌≡◌, ℕ, true, false, Result, Ok, Err}
use Rattle.dns_name.specs.Names.{Name}
use Rattle.zone_model.specs.Version.{Version, in_zone}
use Rattle.zone_model.specs.Answer.{answer}
use Rattle.zone_lookup.specs.Replies.{Reply}
use Rattle.zone_lookup.specs.Answers.{answered_by}
use Rattle.zone_lookup.specs.Owned.{reply_of}
use Rattle.zone_handles.specs.declared.errors.QueryError.{QueryError}
use Rattle.zone_handles.specs.declared.errors.QueryError.TheVariants.{OutOfZone, Memory}

-- the reply that says the version's answer to a name of its zone, or want of memory; OutOfZone for another name
abbrev pub Queried : Version → Name → ℕ → Result Reply QueryError → Type 0
Queried v name qtype (Ok reply) = (in_zone v name ≡ true) × (reply ≡ reply_of (answered_by v (answer v name qtype)))
Queried v name qtype (Err OutOfZone) = in_zone v name ≡ false
Queried v name qtype (Err Memory) = in_zone v name ≡ true
