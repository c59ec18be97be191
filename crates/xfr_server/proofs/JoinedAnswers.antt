-- The records of a transfer's messages, joined.
use Rattle.std.proofs.Common.{◌≡◌, ℕ, Bool, true, false, cond, List, [], ◌∷◌, ◌++◌, map, refl, sym, ap, ◌∙◌, arith, subst}
use Rattle.std.specs.Prelude.{flat_map, nat_le}
use Rattle.std.specs.List.{list_all}
use Rattle.std.proofs.lemmas.Bool.{and_parts}
use Rattle.std.proofs.lemmas.List.{append-nil}
use Rattle.dns_numbers.specs.Codes.{servfail, type_soa}
use Rattle.dns_rdata.specs.Records.{Record}
use Rattle.dns_wire.specs.Wire.{Message, message_wire, fits}
use Rattle.dns_wire.specs.Reply.{empty_answer}
use Rattle.zone_model.specs.Version.{Version, set_at}
use Rattle.zone_model.specs.Answer.{apex_soa_record}
use Rattle.xfr_replies.specs.TransferPages.{page_answer, page_room, has_page, sendable}
use Rattle.xfr_replies.proofs.Cutting.{one_room}
use Rattle.xfr_server.specs.Transfers.Choice.{Refuse, SoaAlone, Text}
use Rattle.xfr_server.specs.GrantedTransfers.{begins_with_soa}
use Rattle.xfr_server.specs.SignedAnswers.{soa_answer, ArePages}
use Rattle.xfr_server.specs.JoinedAnswers.{records_in, AnswersJoin}
use Rattle.xfr_server.proofs.GrantedTransfers.{soa_alone_by, some_text}
use Rattle.xfr_server.proofs.Pages.{IsPage}
use Rattle.xfr_server.proofs.SignedPages.{page_fits}

-- ---- one message

-- one of two messages, by whether the first has room
first_of_two : (request : List ℕ) (text : List Record) (other : Message) (fit : Bool) → fit ≡ true → records_in (cond fit (page_answer request text) other ∷ []) ≡ text
first_of_two request text other true is = append-nil text
first_of_two request text other false is = cc

soa_joins : (request : List ℕ) (limit : ℕ) (v : Version) → fits limit (message_wire (page_answer request (apex_soa_record v))) ≡ true → records_in (soa_answer request limit v ∷ []) ≡ apex_soa_record v
soa_joins request limit v fit = first_of_two request (apex_soa_record v) (empty_answer request servfail) (fits limit (message_wire (page_answer request (apex_soa_record v)))) fit

-- an SOA that has room in a message of its own is within the limit
soa_fits : (request : List ℕ) (limit : ℕ) (v : Version) → begins_with_soa (apex_soa_record v) ≡ true → list_all (has_page (page_room request limit)) (apex_soa_record v) ≡ true
    → fits limit (message_wire (page_answer request (apex_soa_record v))) ≡ true
soa_fits request limit v begins room =
    let soa = soa_alone_by v (set_at v v.apex type_soa) begins in
    let one = subst (λ rs. list_all (has_page (page_room request limit)) rs ≡ true) soa.1 room in
    let alone = (and_parts (has_page (page_room request limit) soa.0) true one).0 in
    let page : IsPage (page_room request limit) (soa.0 ∷ []) = (omega arith, ap (λ n. nat_le n (page_room request limit)) (one_room soa.0) ∙ alone) in
    subst (λ rs. fits limit (message_wire (page_answer request rs)) ≡ true) (sym soa.1) (page_fits request limit (soa.0 ∷ []) page)

-- ---- many

all_sendable : (room : ℕ) (text : List Record) → list_all (has_page room) text ≡ true → sendable room text ≡ text
all_sendable room [] all = refl
all_sendable room (x ∷ more) all =
    let parts = and_parts (has_page room x) (list_all (has_page room) more) all in
    rw (parts.0) (ap (λ rs. x ∷ rs) (all_sendable room more parts.1))

pages_join : (request : List ℕ) (pages : List (List Record)) → records_in (map (page_answer request) pages ++ []) ≡ flat_map (λ page. page) pages
pages_join request [] = refl
pages_join request (page ∷ more) = ap (λ rs. page ++ rs) (pages_join request more)

text_joins : (request : List ℕ) (limit : ℕ) (singles : Bool) (text : List Record) (answers : List Message) → ArePages request limit singles text answers
    → list_all (has_page (page_room request limit)) text ≡ true → records_in answers ≡ text
text_joins request limit singles text answers a room =
    let all : answers ≡ map (page_answer request) a.pages ++ [] =
    a.all ∙ ap (λ b. map (page_answer request) a.pages ++ cond b [] (empty_answer request servfail ∷ [])) room in
    ap records_in all ∙ pages_join request a.pages ∙ a.cut.joined ∙ all_sendable (page_room request limit) text room

-- ---- the law

pub answers_join : AnswersJoin
answers_join request limit udp (Refuse rcode) answers text singles tells is begins room = cc
answers_join request limit true (SoaAlone v) answers text singles tells is begins room =
    let parts = some_text (apex_soa_record v) text false singles is in
    let fit = subst (λ rs. fits limit (message_wire (page_answer request rs)) ≡ true) (sym parts.0) room in
    ap records_in tells ∙ soa_joins request limit v fit ∙ parts.0
answers_join request limit false (SoaAlone v) answers text singles tells is begins room =
    let parts = some_text (apex_soa_record v) text false singles is in
    let own_room = subst (λ rs. list_all (has_page (page_room request limit)) rs ≡ true) (sym parts.0) room in
    ap records_in tells ∙ soa_joins request limit v (soa_fits request limit v (ap begins_with_soa parts.0 ∙ begins) own_room) ∙ parts.0
answers_join request limit true (Text v wanted records) answers text singles tells is begins room =
    let parts = some_text records text wanted singles is in
    let fit = subst (λ rs. fits limit (message_wire (page_answer request rs)) ≡ true) (sym parts.0) room in
    ap records_in tells ∙ first_of_two request records (soa_answer request limit v) (fits limit (message_wire (page_answer request records))) fit ∙ parts.0
answers_join request limit false (Text v wanted records) answers text singles tells is begins room =
    let parts = some_text records text wanted singles is in
    let own_room = subst (λ rs. list_all (has_page (page_room request limit)) rs ≡ true) (sym parts.0) room in
    text_joins request limit wanted records answers tells own_room ∙ parts.0
