-- The worked scripts: their zones, keys and moments fit each other.
use Rattle.std.proofs.Common.{ℕ, ◌≤◌, [], ◌∷◌, length, min, refl, arith, lit<, lit≤}
use Rattle.dns_wire.specs.Wire.{message_wire}
use Rattle.tsig_port.specs.Tsig.{TsigKey, compose_len}
use Rattle.zone_model.specs.TransferText.{Mode, Axfr, Ixfr}
use Rattle.zone_model.specs.TransferLaws.{IsPublished}
use Rattle.zone_model.specs.ZoneRows as rows
use Rattle.zone_model.proofs.Published.{published_by_test}
use Rattle.zone_script.specs.Script as scripts
use Rattle.xfr_client.specs.SoFar.{asked_octets, request_message}
use Rattle.zone_sync.specs.Reported.{asking_in, provider_in, FitsLink}
use Rattle.zone_sync.specs.ProgramRows.{small_key, small_read, small_sent, changes_read, changes_sent, before, after}
use Rattle.zone_sync.proofs.Lengths.{asked_length}

-- requests fit a link
short_small : length (message_wire (request_message (asking_in Axfr small_read small_key))) ≤ 1000
short_small = lit≤ tt

short_changes : length (message_wire (request_message (asking_in Ixfr changes_read small_key))) ≤ 1000
short_changes = lit≤ tt

short_signature : compose_len small_key ≤ 1000
short_signature = lit≤ tt

within : (mode : Mode) (script : scripts.Script TsigKey) → length (message_wire (request_message (asking_in mode script small_key))) ≤ 1000 → length (asked_octets (asking_in mode script small_key)) ≤ min 65535 65535
within mode script short = omega (arith, asked_length (asking_in mode script small_key) refl, short, short_signature)

small : IsPublished rows.e (provider_in small_read small_key).kept
small = published_by_test rows.e (provider_in small_read small_key).kept refl

pub small_fits : FitsLink Axfr small_read small_key 65535
small_fits = record {
  keyed = refl;
  lengths = lit≤ tt;
  close_moments = record { primary = lit< tt; secondary = lit< tt; near = lit≤ tt };
  one_soa = record { history = (provider_in small_read small_key).kept ∷ []; told = record { ends = refl; tells = refl; newer = refl; distinct = refl }; each = (small, tt) };
  records_fit = record {
    pages = small_sent ∷ [];
    cut = record { joined = refl; filled = refl };
    few = lit≤ tt;
    together = tt;
    more = tt;
  };
  base_matches = tt;
  room = lit< tt;
  request_fits = within Axfr small_read short_small;
}

first : IsPublished rows.e before
first = published_by_test rows.e before refl

second : IsPublished rows.e after
second = published_by_test rows.e after refl

pub changes_fit : FitsLink Ixfr changes_read small_key 65535
changes_fit = record {
  keyed = refl;
  lengths = lit≤ tt;
  close_moments = record { primary = lit< tt; secondary = lit< tt; near = lit≤ tt };
  one_soa = record { history = before ∷ after ∷ []; told = record { ends = refl; tells = refl; newer = refl; distinct = refl }; each = (first, (second, tt)) };
  records_fit = record {
    pages = changes_sent ∷ [];
    cut = record { joined = refl; filled = refl };
    few = lit≤ tt;
    together = refl;
    more = refl;
  };
  base_matches = record { one_apex_soa = refl; not_ahead = refl; caught_up = λ e. cc; starts = refl };
  room = lit< tt;
  request_fits = within Ixfr changes_read short_changes;
}
