-- RRsets in a tree that is made for the first record.
use Rattle.std.specs.Prelude.{Bool, ◌&&◌, nat_le, length, [], Option, Some, None}
use Rattle.dns_name.specs.Names.{Name, under}
use Rattle.zone_model.specs.Version.{Sets, Version}
use Rattle.zone_values.specs.TypedSets.{TypedSet}

-- the sets of a tree, none where there is no tree
abbrev pub sets_made : Option Version → Sets
sets_made None = []
sets_made (Some v) = v.sets

-- whether a set may be put in a version of an apex: its owner is at or below that, and it isn't empty
abbrev pub is_put_at : Name → Name × TypedSet → Bool
is_put_at apex s = under s.0 apex && nat_le 1 (length s.1.contents.items)
