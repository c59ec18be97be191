-- Sets that a commit leaves out (RFC 4035, 2.4).
use Rattle.std.specs.Prelude.{Bool, ◌&&◌, ◌==◌, not, is_some}
use Rattle.dns_numbers.specs.Codes.{type_ns, type_ds}
use Rattle.zone_model.specs.Version.{Key, Version, set_at, below_apex}

-- whether a DS set at this key would be without NS, below the apex
abbrev pub is_stray_at : Version → Key → Bool
is_stray_at v k = below_apex v k.0 && (k.1 == type_ds) && not (is_some (set_at v k.0 type_ns))
