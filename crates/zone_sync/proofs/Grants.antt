-- What a primary grants to a secondary's request.
use Rattle.std.proofs.Common.{◌≡◌, ℕ, ◌-◌, ◌^◌, ◌<◌, ◌≤◌, true, ◌&&◌, List, refl, sym, ap, ◌∙◌, subst, arith, Option, Some, None, lit<, eq-eqb}
use Rattle.std.specs.Prelude.{◌==◌, option_map, unwrap_or, Result, Ok}
use Rattle.std.specs.Option.{option_map_or}
use Rattle.std.specs.Int.{abs_diff}
use Rattle.std.specs.List.{AllByRecursion}
use Rattle.dns_name.specs.Names.{fold, is_name, same_name}
use Rattle.dns_rdata.specs.Records.{Record, Field}
use Rattle.dns_wire.specs.Wire.{Question}
use Rattle.dns_wire.specs.Parse.{sole_question_in}
use Rattle.dns_wire.specs.Written.{IsRecord}
use Rattle.tsig_port.specs.Tsig.{TsigKey, compose_len}
use Rattle.tsig_port.specs.ServerCheck.{Keys, verdict}
use Rattle.tsig_port.specs.ServerCheck.Verdict.{Accepted}
use Rattle.tsig_port.specs.Keys.{same_algorithm, own_key}
use Rattle.tsig_port.specs.OneKey.{AreOneKey}
use Rattle.tsig_port.specs.Checked.{taken_message}
use Rattle.tsig_keys.specs.declared.algorithms.Algorithm.{Algorithm}
use Rattle.tsig_keys.specs.declared.algorithms.Algorithm.TheVariants.{Sha1, Sha256, Sha384, Sha512}
use Rattle.tsig_port.proofs.OneKeys.{one_name, one_accepted}
use Rattle.dns_rdata.specs.Soa.{serial_of}
use Rattle.zone_model.specs.Version.{has_one_apex_soa, apex_soa}
use Rattle.zone_model.specs.Difference.{zone_serial}
use Rattle.zone_model.specs.TransferText.{Mode, Axfr, Ixfr, OnIxfr}
use Rattle.zone_model.specs.Offer.{Offer, Provider, IsCutInto, is_granted, offer_of, text_of}
use Rattle.xfr_model.specs.Messages.{HaveData}
use Rattle.xfr_replies.specs.TransferPages.{page_room}
use Rattle.xfr_server.specs.GrantedTransfers.{IsGrantedTransfer}
use Rattle.xfr_server.specs.SentTexts as served
use Rattle.xfr_providers.specs.Offers.{answer_to, key_id}
use Rattle.xfr_server.specs.Transfers.{transfer_mode, asked_serial, asks_for_apex}
use Rattle.xfr_providers.specs.declared.providers.XfrDataProviderError.{XfrDataProviderError}
use Rattle.xfr_providers.proofs.Granted.{history_grants}
use Rattle.xfr_course.specs.Granting.{in_singles}
use Rattle.xfr_outcomes.specs.Modes.{mode_of}
use Rattle.xfr_client.specs.SoFar.{Asking, request_message, asked_question, asked_authority, asked_octets}
use Rattle.xfr_client.specs.SoFar as so_far
use Rattle.zone_sync.specs.Serving.{request_at}
use Rattle.zone_sync.specs.Forms.{HaveForms}
use Rattle.zone_sync.specs.Fitting.{sent_text, BaseMatches, Fits}
use Rattle.zone_sync.specs.Grants.{Offers, history_offer}
use Rattle.xfr_client.proofs.Requests.{octets_are}
use Rattle.zone_sync.proofs.HonestRequests.{kind_of, mode_again}
use Rattle.zone_sync.proofs.HonestRequests as requests
use Rattle.zone_sync.proofs.WritableVersions.{forms_written, forms_data}
use Rattle.zone_sync.proofs.HonestReplies.{published, one_apex_soa, apex_is_name, small_class, room_is}

module _ (a : Asking) (server : TsigKey) (at : ℕ) (offer : Offer) (f : Fits a server at offer) (forms : HaveForms (asked_authority a)) where
  near : abs_diff a.at at ≤ 300
  near = let n = f.close_moments.near in omega (arith, n)

  abbrev name : is_name a.base.version.apex ≡ true
  name = apex_is_name a server at offer f

  abbrev class : a.base.version.class < 2 ^ 16
  class = small_class a server at offer f

  abbrev soa : AllByRecursion IsRecord (asked_authority a)
  soa = forms_written (asked_authority a) forms

  abbrev pieces : HaveData (asked_authority a)
  pieces = forms_data (asked_authority a) forms

  pub accepted : (keys : Keys) → keys (fold a.key.name) a.key.algorithm ≡ Some server → verdict keys at (asked_octets a) ≡ Accepted server
  accepted keys known =
      ap (verdict keys at) (sym (octets_are a))
      ∙ one_accepted a.key server keys (request_message a) a.at at 300 f.client_signs f.one_key f.close_moments.secondary (lit< tt) near
      (requests.can_sign a f.client_signs f.close_moments.secondary name class soa pieces) known

  pub asks : transfer_mode (taken_message (asked_octets a)) ≡ Some (kind_of a.mode)
  asks = requests.taken_mode a f.client_signs f.close_moments.secondary name class soa pieces

  pub question : sole_question_in (taken_message (asked_octets a)) ≡ Some (asked_question a)
  question = requests.taken_question a f.client_signs f.close_moments.secondary name class soa pieces

  -- the serial that an incremental request names is that of the base's apex SOA
  pub names : OnIxfr a.mode (asked_serial (taken_message (asked_octets a)) ≡ Some (zone_serial a.base.version))
  names = requests.taken_serial a f.client_signs f.close_moments.secondary name class soa pieces (on_one a.mode f.base_matches)
    where
      on_one : (m : Mode) → OnIxfr m (BaseMatches a.base.version offer f.one_soa.history) → OnIxfr m (has_one_apex_soa a.base.version ≡ true)
      on_one Axfr b = tt
      on_one Ixfr b = b.one_apex_soa

  own_serial : (o : Option (List Field)) → option_map_or serial_of o 0 ≡ unwrap_or (option_map serial_of o) 0
  own_serial None = refl
  own_serial (Some d) = refl

  pub named : unwrap_or (asked_serial (taken_message (asked_octets a))) 0 ≡ unwrap_or (so_far.asked_serial a) 0
  named = by a.mode refl names
    where
      by : (m : Mode) → a.mode ≡ m → OnIxfr m (asked_serial (taken_message (asked_octets a)) ≡ Some (zone_serial a.base.version)) → unwrap_or (asked_serial (taken_message (asked_octets a))) 0 ≡ unwrap_or (so_far.told_serial m a.base.version) 0
      by Axfr e n = ap (λ o. unwrap_or o 0) (requests.taken_none a f.client_signs f.close_moments.secondary name class soa pieces e)
      by Ixfr e n = ap (λ o. unwrap_or o 0) n ∙ own_serial (apex_soa a.base.version)

-- the primary has its key under the key's own name and algorithm too
pub known_again : (keys : Keys) (client server : TsigKey) → AreOneKey client server → keys (fold client.name) client.algorithm ≡ Some server → keys (fold server.name) server.algorithm ≡ Some server
known_again keys client server one known = ap (λ n. keys n server.algorithm) (sym (one_name client server one)) ∙ ap (λ x. keys (fold client.name) x) (sym one.algorithm) ∙ known

-- both sides mean the same by a mode
pub cut_served : (offer : Offer) (n room : ℕ) (pages : List (List Record)) (mode : Mode) → IsCutInto room (in_singles mode offer.compatibility) (text_of offer mode n) pages
    → IsCutInto room (served.in_singles (mode_of (kind_of mode)) offer.compatibility) (text_of offer (mode_of (kind_of mode)) n) pages
cut_served offer n room pages Axfr c = c
cut_served offer n room pages Ixfr c = c

-- such a primary grants the request
abbrev pub granted : {K : Type 0} (the_key : K → TsigKey) (keys : Keys) (told : List ℕ → Option K → Option ℕ → Result Offer XfrDataProviderError) (a : Asking) (server : TsigKey) (at : ℕ) (offer : Offer)
    → Offers the_key keys told a server offer → Fits a server at offer → HaveForms (asked_authority a) → IsGrantedTransfer the_key keys told (request_at (asked_octets a) at) server (kind_of a.mode) (zone_serial a.base.version) offer
granted the_key keys told a server at offer o f forms =
    record {
      accepted = accepted a server at offer f forms keys o.known;
      known = known_again keys a.key server f.one_key o.known;
      macs = f.server_signs.signing;
      asks = asks a server at offer f forms;
      names = subst (λ m. OnIxfr m (asked_serial (taken_message (asked_octets a)) ≡ Some (zone_serial a.base.version))) (sym (mode_again a.mode)) (names a server at offer f forms);
      stream = refl;
      fresh = refl;
      granted = o.offered;
      apex = ap (λ (q : Option Question). asks_for_apex q offer.version) (question a server at offer f forms) ∙ (published a server at offer f).same_apex;
      one_soa = one_apex_soa a server at offer f;
      pages = f.records_fit.pages;
      cut = cut_served offer (zone_serial a.base.version) (page_room (taken_message (asked_octets a)) (65535 - compose_len server)) f.records_fit.pages a.mode
          (subst (λ n. IsCutInto n (in_singles a.mode offer.compatibility) (sent_text a offer) f.records_fit.pages) (sym (room_is a server at offer f forms)) f.records_fit.cut);
    }

-- ---- a store of one key, and a provider that keeps one version

own_algorithm : (x : Algorithm) → same_algorithm x x ≡ true
own_algorithm Sha1 = refl
own_algorithm Sha256 = refl
own_algorithm Sha384 = refl
own_algorithm Sha512 = refl

own_known : (client server : TsigKey) → AreOneKey client server → own_key server (fold client.name) client.algorithm ≡ Some server
own_known client server one = rw (one.algorithm, own_algorithm server.algorithm, one.name) refl

-- what the provider tells one who signs with a key
abbrev pub kept_told : Provider → List ℕ → Option TsigKey → Option ℕ → Result Offer XfrDataProviderError
kept_told p message key asked = answer_to p (sole_question_in message) (option_map key_id key) asked

module _ (a : Asking) (server : TsigKey) (at : ℕ) (p : Provider) (f : Fits a server at (history_offer p a)) (forms : HaveForms (asked_authority a)) where
  same_class : (a.base.version.class == p.kept.class) ≡ true
  same_class = eq-eqb _ _ f.same_zone.class

  kept_asked : (same_name (asked_question a).qname p.kept.apex && ((asked_question a).qclass == p.kept.class)) ≡ true
  kept_asked = rw (f.same_zone.apex, same_class) refl

  kept_offered : (key : TsigKey) → is_granted p.grants (Some (key_id key)) ≡ true
      → answer_to p (sole_question_in (taken_message (asked_octets a))) (Some (key_id key)) (asked_serial (taken_message (asked_octets a))) ≡ Ok (history_offer p a)
  kept_offered key grants =
      let serial = asked_serial (taken_message (asked_octets a)) in
      ap (λ o. answer_to p o (Some (key_id key)) serial) (question a server at (history_offer p a) f forms)
      ∙ history_grants p (asked_question a) (key_id key) serial kept_asked grants
      ∙ ap (λ n. Ok (offer_of p.kept p.differences p.compatibility n)) (named a server at (history_offer p a) f forms)

pub history_offers : (p : Provider) (server : TsigKey) (a : Asking) (at : ℕ) → is_granted p.grants (Some (key_id server)) ≡ true → Fits a server at (history_offer p a) → HaveForms (asked_authority a)
    → Offers (λ (k : TsigKey). k) (own_key server) (kept_told p) a server (history_offer p a)
history_offers p server a at grants f forms = record {
  known = own_known a.key server f.one_key;
  offered = λ k e.
      ap (λ x. answer_to p (sole_question_in (taken_message (asked_octets a))) (Some (key_id x)) (asked_serial (taken_message (asked_octets a)))) e
      ∙ kept_offered a server at p f forms server grants;
}
