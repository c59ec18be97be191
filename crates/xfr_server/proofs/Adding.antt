-- Calls that add records to a message.
use Rattle.std.proofs.Common.{◌≡◌, ℕ, ◌≤◌, true, List, [], ◌∷◌, ◌++◌, length, sym, ap, ◌∙◌, subst, arith}
use Rattle.std.specs.Prelude.{Result, Ok, Err}
use Rattle.std.specs.Result.{result_map_both}
use Rattle.std.proofs.lemmas.List.{append_assoc, append-nil}
use Rattle.dns_rdata.specs.Records.{Record, record_wire}
use Rattle.dns_wire.specs.Wire.{Building, Header, Question, header_in, in_answer, fits, message_wire}
use Rattle.dns_wire.specs.Parse.{questions_in}
use Rattle.dns_wire.specs.Builds.{Adds, Builds, BuildsBehind, building}
use Rattle.dns_wire.specs.declared.builder.PushError.{PushError}
use Rattle.dns_wire.specs.declared.builder.PushError.TheVariants.{ShortBuf, CountOverflow, Memory}
use Rattle.dns_wire.proofs.Pushing.{message_wire-more_answers, answers-counted}
use Rattle.dns_wire.proofs.Questions.{not_fitting}
use Rattle.xfr_batch.specs.XfrBatches.{axfr_header}
use Rattle.xfr_replies.specs.TransferPages.{page_answer}
use Rattle.xfr_server.specs.TransferMessage.{AddsAnswers}
use Rattle.xfr_server.proofs.Answers.{longer, few}

-- ---- no record, one record, and records after records

pub adds_none : (rs : List Record) (old : Building) (u : Unit {0}) → rs ≡ [] → AddsAnswers rs old (Ok u) old
adds_none rs old u none h qs before limit built =
    let P : List Record → Type 0 = λ xs. Builds (message_wire (in_answer h qs xs)) limit (Ok old) in
    subst P (sym (ap (λ xs. before ++ xs) none ∙ append-nil before)) built

one_at : (h : Header) (qs : List Question) (before : List Record) (limit : ℕ) (r : Record) (new : Building) (result : Result (Unit {0}) PushError)
    → fits limit (message_wire (in_answer h qs before)) ≡ true → Adds 6 (record_wire r) (building (message_wire (in_answer h qs before)) limit) result new
    → BuildsBehind (message_wire (in_answer h qs before)) (message_wire (in_answer h qs (before ++ r ∷ []))) limit (result_map_both (λ a. new) (λ e. e) result)
one_at h qs before limit r new (Ok u) fit added =
    let is = message_wire-more_answers h qs before r (omega (arith, few limit h qs before fit)) in
    (ap (fits limit) is ∙ added.0, added.2 ∙ ap (λ octets. building octets limit) (sym is))
one_at h qs before limit r new (Err ShortBuf) fit added =
    ap (fits limit) (message_wire-more_answers h qs before r (omega (arith, few limit h qs before fit))) ∙ added.0
one_at h qs before limit r new (Err CountOverflow) fit added =
    let small = few limit h qs before fit in
    omega (arith, added.1, answers-counted h qs before (omega (arith, small)), small)
one_at h qs before limit r new (Err Memory) fit added = fit

pub adds_one : (r made : Record) (old new : Building) (result : Result (Unit {0}) PushError) → made ≡ r → Adds 6 (record_wire made) old result new
    → AddsAnswers (r ∷ []) old result new
adds_one r made old new result is added h qs before limit built =
    let P : Record → Type 0 = λ m. Adds 6 (record_wire m) old result new in
    let Q : Building → Type 0 = λ b. Adds 6 (record_wire r) b result new in
    one_at h qs before limit r new result built.0 (subst Q built.1 (subst P is added))

-- a front that has room may be given in another's place
behind_front : (front other octets : List ℕ) (limit : ℕ) (result : Result Building PushError) → fits limit other ≡ true → BuildsBehind front octets limit result
    → BuildsBehind other octets limit result
behind_front front other octets limit (Ok new) room built = built
behind_front front other octets limit (Err ShortBuf) room built = built
behind_front front other octets limit (Err CountOverflow) room built = built
behind_front front other octets limit (Err Memory) room built = room

-- records after a front that was added
pub adds_behind : (xs ys : List Record) (old mid new : Building) (u : Unit {0}) (result : Result (Unit {0}) PushError)
    → AddsAnswers xs old (Ok u) mid → AddsAnswers ys mid result new → AddsAnswers (xs ++ ys) old result new
adds_behind xs ys old mid new u result front back h qs before limit built =
    let first = message_wire (in_answer h qs before) in
    let made : Result Building PushError = result_map_both (λ a. new) (λ e. e) result in
    let P : List Record → Type 0 = λ rs. BuildsBehind first (message_wire (in_answer h qs rs)) limit made in
    subst P (append_assoc before xs ys)
    (behind_front (message_wire (in_answer h qs (before ++ xs))) first (message_wire (in_answer h qs ((before ++ xs) ++ ys))) limit made built.0
    (back h qs (before ++ xs) limit (front h qs before limit built)))

-- what refuses octets refuses more of them
refused_more : (front octets more : List ℕ) (limit : ℕ) (e : PushError) → length octets ≤ length more → BuildsBehind front octets limit (Err e) → BuildsBehind front more limit (Err e)
refused_more front octets more limit ShortBuf longer refused = not_fitting limit octets more longer refused
refused_more front octets more limit CountOverflow longer refused = refused
refused_more front octets more limit Memory longer refused = refused

-- so a refusal of a front refuses all
pub refused_front : (xs ys : List Record) (old new : Building) (e : PushError) → AddsAnswers {A = Unit {0}} xs old (Err e) new → AddsAnswers {A = Unit {0}} (xs ++ ys) old (Err e) new
refused_front xs ys old new e refused h qs before limit built =
    let first = message_wire (in_answer h qs before) in
    let P : List Record → Type 0 = λ rs. BuildsBehind first (message_wire (in_answer h qs rs)) limit (Err e) in
    subst P (append_assoc before xs ys)
    (refused_more first (message_wire (in_answer h qs (before ++ xs))) (message_wire (in_answer h qs ((before ++ xs) ++ ys))) limit e (longer h qs (before ++ xs) ys) (refused h qs before limit built))

-- an answer that can't be begun can't have records
pub not_begun : (request : List ℕ) (rs : List Record) (limit : ℕ) (e : PushError) → Builds (message_wire (page_answer request [])) limit (Err e)
    → BuildsBehind (message_wire (page_answer request [])) (message_wire (page_answer request rs)) limit (Err e)
not_begun request rs limit ShortBuf refused =
    not_fitting limit (message_wire (page_answer request [])) (message_wire (page_answer request rs)) (longer (axfr_header (header_in request)) (questions_in request) [] rs) refused
not_begun request rs limit CountOverflow refused = refused
not_begun request rs limit Memory refused = refused
