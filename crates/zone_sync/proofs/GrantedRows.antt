-- The worked transfers meet their premises.
use Rattle.std.proofs.Common.{ℕ, ◌≤◌, List, [], ◌∷◌, length, min, refl, arith, lit<, lit≤}
use Rattle.dns_wire.specs.Wire.{message_wire}
use Rattle.tsig_port.specs.Tsig.{compose_len}
use Rattle.tsig_port.specs.OneKey.{IsSigner, AreOneKey}
use Rattle.zone_model.specs.Version.{Version}
use Rattle.zone_model.specs.Difference.{Difference}
use Rattle.zone_model.specs.TransferText.{Mode, Axfr, Ixfr}
use Rattle.zone_model.specs.TransferLaws.{IsPublished}
use Rattle.zone_model.specs.ZoneRows as rows
use Rattle.zone_model.proofs.Published.{published_by_test}
use Rattle.xfr_client.specs.SoFar.{asked_octets, request_message}
use Rattle.zone_sync.specs.Forms.{HasForm}
use Rattle.zone_sync.specs.Fitting.{Fits}
use Rattle.zone_sync.specs.Grants.{history_offer}
use Rattle.zone_sync.specs.GrantRows as grants
use Rattle.zone_sync.proofs.Lengths.{asked_length}

signs : IsSigner grants.key
signs = record { name = refl; signing = refl }

one_key : AreOneKey grants.key grants.key
one_key = record { name = refl; algorithm = refl; secret = refl; client_taken = lit≤ tt; server_taken = lit≤ tt }

first : IsPublished rows.e rows.history_1
first = published_by_test rows.e rows.history_1 refl

second : IsPublished rows.e rows.history_2
second = published_by_test rows.e rows.history_2 refl

third : IsPublished rows.e rows.history_3
third = published_by_test rows.e rows.history_3 refl

-- records with a wire form
soa_is : (n : ℕ) → HasForm (rows.soa n)
soa_is n = (record { owner = refl; rtype = lit< tt; class = lit< tt; ttl = lit< tt; len = lit< tt }, refl)

nezu_is : (n : ℕ) → HasForm (rows.address rows.nezu n)
nezu_is n = (record { owner = refl; rtype = lit< tt; class = lit< tt; ttl = lit< tt; len = lit< tt }, refl)

jain_is : (n : ℕ) → HasForm (rows.address rows.jain n)
jain_is n = (record { owner = refl; rtype = lit< tt; class = lit< tt; ttl = lit< tt; len = lit< tt }, refl)

host_is : (n : ℕ) → HasForm (rows.address rows.ns_host n)
host_is n = (record { owner = refl; rtype = lit< tt; class = lit< tt; ttl = lit< tt; len = lit< tt }, refl)

server_is : HasForm (rows.ns rows.e rows.ns_host)
server_is = (record { owner = refl; rtype = lit< tt; class = lit< tt; ttl = lit< tt; len = lit< tt }, refl)

pub whole_fits_with : (differences : List Difference) → Fits (grants.asks Axfr rows.empty_zone) grants.key 1000 (grants.with_differences differences)
whole_fits_with differences = record {
  client_signs = signs;
  server_signs = signs;
  one_key = one_key;
  close_moments = record { primary = lit< tt; secondary = lit< tt; near = lit≤ tt };
  one_soa = record { history = rows.history_3 ∷ []; told = record { ends = refl; tells = refl; newer = refl; distinct = refl }; each = (third, tt) };
  records_fit = record {
    pages = grants.whole ∷ [];
    cut = record { joined = refl; filled = refl };
    few = lit≤ tt;
    together = tt;
    more = tt;
  };
  sent = (soa_is 3, (server_is, (jain_is 2, (jain_is 3, (host_is 1, (soa_is 3, tt))))));
  base_matches = tt;
  same_zone = record { apex = refl; class = refl };
  room = lit< tt;
}

-- one key with two spellings and lengths
half_signs : IsSigner grants.half_key
half_signs = record { name = refl; signing = refl }

lenient_signs : IsSigner grants.lenient_key
lenient_signs = record { name = refl; signing = refl }

one_spelt : AreOneKey grants.half_key grants.lenient_key
one_spelt = record { name = refl; algorithm = refl; secret = refl; client_taken = lit≤ tt; server_taken = lit≤ tt }

pub half_fits : Fits grants.half_asks grants.lenient_key 1000 (history_offer grants.provider grants.half_asks)
half_fits = record {
  client_signs = half_signs;
  server_signs = lenient_signs;
  one_key = one_spelt;
  close_moments = record { primary = lit< tt; secondary = lit< tt; near = lit≤ tt };
  one_soa = record { history = rows.history_3 ∷ []; told = record { ends = refl; tells = refl; newer = refl; distinct = refl }; each = (third, tt) };
  records_fit = record {
    pages = grants.whole ∷ [];
    cut = record { joined = refl; filled = refl };
    few = lit≤ tt;
    together = tt;
    more = tt;
  };
  sent = (soa_is 3, (server_is, (jain_is 2, (jain_is 3, (host_is 1, (soa_is 3, tt))))));
  base_matches = tt;
  same_zone = record { apex = refl; class = refl };
  room = lit< tt;
}

pub whole_fits : Fits (grants.asks Axfr rows.empty_zone) grants.key 1000 (grants.offered Axfr rows.empty_zone)
whole_fits = whole_fits_with []

pub changes_fit : Fits (grants.asks Ixfr rows.history_1) grants.key 1300 (grants.offered Ixfr rows.history_1)
changes_fit = record {
  client_signs = signs;
  server_signs = signs;
  one_key = one_key;
  close_moments = record { primary = lit< tt; secondary = lit< tt; near = lit≤ tt };
  one_soa = record { history = rows.history_1 ∷ rows.history_2 ∷ rows.history_3 ∷ []; told = record { ends = refl; tells = refl; newer = refl; distinct = refl }; each = (first, (second, (third, tt))) };
  records_fit = record {
    pages = rows.history_text ∷ [];
    cut = record { joined = refl; filled = refl };
    few = lit≤ tt;
    together = refl;
    more = refl;
  };
  sent = (soa_is 3, (soa_is 1, (nezu_is 5, (soa_is 2, (jain_is 4, (jain_is 2, (soa_is 2, (jain_is 4, (soa_is 3, (jain_is 3, (soa_is 3, tt)))))))))));
  base_matches = record { one_apex_soa = refl; not_ahead = refl; caught_up = λ e. cc; starts = refl };
  same_zone = record { apex = refl; class = refl };
  room = lit< tt;
}

pub caught_up_fits : Fits (grants.asks Ixfr rows.history_3) grants.key 700 (grants.offered Ixfr rows.history_3)
caught_up_fits = record {
  client_signs = signs;
  server_signs = signs;
  one_key = one_key;
  close_moments = record { primary = lit< tt; secondary = lit< tt; near = lit≤ tt };
  one_soa = record { history = rows.history_3 ∷ []; told = record { ends = refl; tells = refl; newer = refl; distinct = refl }; each = (third, tt) };
  records_fit = record {
    pages = (rows.soa 3 ∷ []) ∷ [];
    cut = record { joined = refl; filled = refl };
    few = lit≤ tt;
    together = refl;
    more = refl;
  };
  sent = (soa_is 3, tt);
  base_matches = record { one_apex_soa = refl; not_ahead = refl; caught_up = λ e. refl; starts = refl };
  same_zone = record { apex = refl; class = refl };
  room = lit< tt;
}

-- the requests fit a link
short_whole : length (message_wire (request_message (grants.asks Axfr rows.empty_zone))) ≤ 1000
short_whole = lit≤ tt

short_changes : length (message_wire (request_message (grants.asks Ixfr rows.history_1))) ≤ 1000
short_changes = lit≤ tt

short_caught_up : length (message_wire (request_message (grants.asks Ixfr rows.history_3))) ≤ 1000
short_caught_up = lit≤ tt

short_signature : compose_len grants.key ≤ 1000
short_signature = lit≤ tt

within : (mode : Mode) (base : Version) → length (message_wire (request_message (grants.asks mode base))) ≤ 1000 → length (asked_octets (grants.asks mode base)) ≤ min 65535 65535
within mode base short = omega (arith, asked_length (grants.asks mode base) refl, short, short_signature)

short_half : length (message_wire (request_message grants.half_asks)) ≤ 1000
short_half = lit≤ tt

short_half_signature : compose_len grants.half_key ≤ 1000
short_half_signature = lit≤ tt

pub half_short : length (asked_octets grants.half_asks) ≤ min 65535 65535
half_short = omega (arith, asked_length grants.half_asks refl, short_half, short_half_signature)

pub whole_short : length (asked_octets (grants.asks Axfr rows.empty_zone)) ≤ min 65535 65535
whole_short = within Axfr rows.empty_zone short_whole

pub changes_short : length (asked_octets (grants.asks Ixfr rows.history_1)) ≤ min 65535 65535
changes_short = within Ixfr rows.history_1 short_changes

pub caught_up_short : length (asked_octets (grants.asks Ixfr rows.history_3)) ≤ min 65535 65535
caught_up_short = within Ixfr rows.history_3 short_caught_up
