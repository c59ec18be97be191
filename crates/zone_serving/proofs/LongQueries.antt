-- Where no reply can be made.
use Rattle.std.proofs.Common.{◌≡◌, ℕ, ◌<◌, ◌≤◌, min, nat_le, Bool, true, false, List, [], ◌∷◌, ◌++◌, length, length-append, Option, Some, None, option_map, not, refl, sym, ap, ◌∙◌, subst, arith}
use Rattle.std.specs.Prelude.{◌==◌, IsSome, Result, flat_map, if◌then◌else◌}
use Rattle.std.proofs.lemmas.Bool.Decides.{nat_tests}
use Rattle.dns_name.specs.Names.{name_wire}
use Rattle.dns_name.specs.Octets.{u16_octets}
use Rattle.dns_numbers.specs.Codes.{formerr}
use Rattle.dns_wire.specs.Wire.{Building, Question, header_in, question_wire, message_wire, fits}
use Rattle.dns_wire.specs.Reply.{empty_answer}
use Rattle.dns_wire.proofs.Questions.{wire_length}
use Rattle.zone_lookup.proofs.Limits.{asked}
use Rattle.dns_wire.specs.Parse.{sole_question_in}
use Rattle.zone_model.specs.Version.{Version}
use Rattle.xfr_services.specs.Items.{Sending, Makes, Calls, one_reply, all_given}
use Rattle.xfr_services.specs.LongReplies.{FailsOnlyWhereLong}
use Rattle.xfr_services.specs.Replying.{notimp, refused, error_replies}
use Rattle.xfr_signing.specs.Failing.{fails, bare_len}
use Rattle.xfr_services.specs.declared.requests.Request.{Request}
use Rattle.xfr_services.specs.declared.services.CallResult.{CallResult}
use Rattle.xfr_services.specs.declared.services.ServiceError.{ServiceError}
use Rattle.xfr_services.proofs.LongReplies.{long_questions, made_fails}
use Rattle.xfr_signing.proofs.Failing.{errors_fail}
use Rattle.zone_serving.specs.ZoneReplies.{is_in_zone, zone_reply, replies_to_question, replies_to_sole, query_replies, query_sends, room}

abbrev FailsOnly : List ℕ → Option (List CallResult) → Type 0
FailsOnly request replies = fails (option_map all_given replies) ≡ true → 65535 < bare_len request

errors : (request : List ℕ) (rcode : ℕ) → FailsOnly request (error_replies request rcode)
errors request rcode e = (errors_fail request rcode).0 e

in_zone : (request : List ℕ) (reply : Building) (inside : Bool) → FailsOnly request (if inside then Some (one_reply reply) else error_replies request refused)
in_zone request reply true e = cc
in_zone request reply false e = errors request refused e

sole : (v : Version) (limit : ℕ) (request : List ℕ) (q : Option Question) → FailsOnly request (replies_to_sole v limit request q)
sole v limit request None e = errors request formerr e
sole v limit request (Some q) e = in_zone request (zone_reply v limit request q) (is_in_zone v q) e

by_header : (v : Version) (limit : ℕ) (request : List ℕ) (q : Option Question) (response other : Bool)
    → FailsOnly request (if response then Some [] else if other then error_replies request notimp else replies_to_sole v limit request q)
by_header v limit request q true other e = cc
by_header v limit request q false true e = errors request notimp e
by_header v limit request q false false e = sole v limit request q e

pub queries_fail : {M : Type 0} (v : Version) (r : Request M) (sent : Option (List Sending)) → sent ≡ query_sends v r → fails sent ≡ true → 65535 < bare_len r.message
queries_fail v r sent is e =
    by_header v (room r.transport r.reserved) r.message (sole_question_in r.message) (header_in r.message).qr (not ((header_in r.message).opcode == 0)) (ap fails (sym is) ∙ e)

-- .. by what is made of it
pub queries_only : (v : Version) (limit : ℕ) (request : List ℕ) (result : Result (List CallResult) ServiceError) → Makes (query_replies v limit request) result
    → Calls (FailsOnlyWhereLong request) (λ s items. items ≡ all_given s) result
queries_only v limit request result made =
    made_fails request (query_replies v limit request) result made
    (λ e. long_questions request (by_header v limit request (sole_question_in request) (header_in request).qr (not ((header_in request).opcode == 0)) e))

-- ---- where one can

within_most : (n : ℕ) → n ≤ 65535 → nat_le n (min 65535 65535) ≡ true
within_most n few = grind (arith, nat_tests)

-- a request with one question that can be read has an error reply
sole_fits : (request : List ℕ) (q : Question) (rcode : ℕ) → sole_question_in request ≡ Some q → length (name_wire q.qname) < 256
    → fits 65535 (message_wire (empty_answer request rcode)) ≡ true
sole_fits request q rcode sole short =
    let n = name_wire q.qname in
    within_most (length (message_wire (empty_answer request rcode))) (omega (
      arith,
      wire_length (empty_answer request rcode),
      ap (λ qs. length (flat_map question_wire qs)) (asked request q sole),
      length-append (question_wire q) [],
      length-append (n ++ u16_octets q.qtype) (u16_octets q.qclass),
      length-append n (u16_octets q.qtype),
    ))

pub sole_some : (v : Version) (limit : ℕ) (request : List ℕ) (q : Question) → sole_question_in request ≡ Some q → length (name_wire q.qname) < 256
    → IsSome (replies_to_question v limit request q)
sole_some v limit request q sole short = by (is_in_zone v q) (fits 65535 (message_wire (empty_answer request refused))) (sole_fits request q refused sole short)
  where
    by : (inside fit : Bool) → fit ≡ true
        → IsSome (if inside then Some (one_reply (zone_reply v limit request q)) else option_map one_reply (if fit then Some (record { octets = message_wire (empty_answer request refused); limit = 65535 }) else None))
    by true fit room = refl
    by false true room = refl
    by false false room = cc
