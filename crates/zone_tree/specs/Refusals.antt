-- What is handed back with a refusal.
use Rattle.zone_tree.specs.declared.errors.InsertZoneError.{InsertZoneError}
use Rattle.zone_tree.specs.declared.errors.InsertZoneError.TheVariants.{ZoneExists, Memory}

abbrev pub handed_back : {Z : Type 0} → InsertZoneError Z → Z
handed_back (ZoneExists zone) = zone
handed_back (Memory zone) = zone
