-- Built answers, signed in sequence and handed as they were sent, are a course that says what they were built of.
use Rattle.std.proofs.Common.{◌≡◌, ℕ, suc, ◌+◌, ◌<◌, ◌≤◌, ◌^◌, true, false, ◌&&◌, nat_le, List, [], ◌∷◌, ◌++◌, length, length-append, map, take, drop, refl, ap, ◌∙◌, arith, le-leb, Option, Some, None}
use Rattle.std.specs.Prelude.{cond, unwrap_or, take_while}
use Rattle.std.specs.Int.{abs_diff}
use Rattle.std.specs.List.{AllByRecursion, list_all}
use Rattle.std.proofs.lemmas.Bool.{lt-leb}
use Rattle.std.proofs.lemmas.List.{take_all}
use Rattle.std.proofs.lemmas.List.Sums.{take_while-cons}
use Rattle.dns_rdata.specs.Records.{record_wire}
use Rattle.dns_wire.specs.Wire.{Message, message_wire}
use Rattle.tsig_port.specs.Tsig.{TsigKey, tsig_record, mac_in, answer_tsig, signed_answer, signed_from, signed_answers}
use Rattle.tsig_port.specs.Checked.{checked, check_fault, taken_message}
use Rattle.tsig_port.specs.Signing.{CanSign}
use Rattle.tsig_port.specs.OneKey.{IsSigner}
use Rattle.tsig_port.proofs.OneKeys.{answer_left, one_checked, one_faultless}
use Rattle.xfr_model.specs.Messages.{HaveData, read_of}
use Rattle.xfr_model.proofs.ReadingBuilt.{built_is_read}
use Rattle.xfr_course.specs.Courses.{has_header, most_replies, replies_taken, unreadable_message, read_message, checked_message, stop_after}
use Rattle.xfr_course.specs.Joining.{built_checked, SignedAreTheCourse}

module _ (key : TsigKey) (request_mac : List ℕ) (at now fudge : ℕ) (is_signer : IsSigner key) (early : at < 2 ^ 48) (small : fudge < 2 ^ 16) (near : abs_diff at now ≤ fudge) where
  abbrev pub one : Option (List ℕ) → Message → List ℕ
  one prior m = signed_answer key request_mac prior (message_wire m) at fudge

  abbrev pub mac : Option (List ℕ) → Message → List ℕ
  mac prior m = (answer_tsig key request_mac prior (message_wire m) at fudge).mac

  abbrev pub all : Option (List ℕ) → List Message → List (List ℕ)
  all prior ms = signed_from key request_mac at fudge prior (map message_wire ms)

  -- a signed message is longer than its header
  header_there : (prior : Option (List ℕ)) (m : Message) → has_header (one prior m) ≡ true
  header_there prior m =
      let s = one prior m in
      let whole : length s ≡ 12 + length (drop 12 s) = length-append (take 12 s) (drop 12 s) in
      le-leb 12 (length s) (omega (arith, whole))

  headers_there : (prior : Option (List ℕ)) (ms : List Message) → list_all has_header (all prior ms) ≡ true
  unfolding signed_from
  headers_there prior [] = refl
  headers_there prior (m ∷ ms) = ap (λ b. b && list_all has_header (all (Some (mac prior m)) ms)) (header_there prior m) ∙ headers_there (Some (mac prior m)) ms

  none_short : (prior : Option (List ℕ)) (ms : List Message) → take_while has_header (all prior ms) ≡ all prior ms
  unfolding signed_from
  none_short prior [] = refl
  none_short prior (m ∷ ms) =
      let rest = all (Some (mac prior m)) ms in
      take_while-cons has_header (one prior m) rest
      ∙ ap (λ b. cond b (one prior m ∷ take_while has_header rest) []) (header_there prior m)
      ∙ ap (λ xs. one prior m ∷ xs) (none_short (Some (mac prior m)) ms)

  as_many : (prior : Option (List ℕ)) (ms : List Message) → length (all prior ms) ≡ length ms
  unfolding signed_from
  as_many prior [] = refl
  as_many prior (m ∷ ms) = ap suc (as_many (Some (mac prior m)) ms)

  -- one that was taken is read as what it was built of
  read_again : (prior : Option (List ℕ)) (m : Message) → CanSign key m → HaveData m.answers → checked_message (one prior m) ≡ built_checked m
  read_again prior m can is =
      let r = record_wire (tsig_record key.name (answer_tsig key request_mac prior (message_wire m) at fudge)) in
      let taken : taken_message (one prior m) ≡ message_wire m ++ r = answer_left key is_signer m at fudge early small can request_mac now near prior in
      let read : read_message (message_wire m ++ r) ≡ read_of m = ap (λ o. unwrap_or o (unreadable_message (message_wire m ++ r))) (built_is_read m r can.message is) in
      let message : read_message (taken_message (one prior m)) ≡ read_of m = ap read_message taken ∙ read in
      ap (λ x. record { message = x }) message

  all_again : (prior : Option (List ℕ)) (ms : List Message) → AllByRecursion (CanSign key) ms → AllByRecursion (λ m. HaveData m.answers) ms
      → map checked_message (all prior ms) ≡ map built_checked ms
  unfolding signed_from
  all_again prior [] can is = refl
  all_again prior (m ∷ ms) can is =
      ap (λ k. k ∷ map checked_message (all (Some (mac prior m)) ms)) (read_again prior m can.0 is.0) ∙ ap (λ ks. built_checked m ∷ ks) (all_again (Some (mac prior m)) ms can.1 is.1)

pub signed_are_the_course : SignedAreTheCourse
signed_are_the_course client server request ms at now fudge number base gave_up signs one early small near can is few =
    let xs = signed_answers server (mac_in request) at fudge (map message_wire ms) in
    let count : length xs ≡ length ms = as_many server (mac_in request) at now fudge signs early small near None ms in
    let whole : take most_replies xs ≡ xs = take_all most_replies xs (omega (arith, count, few)) in
    let taken : replies_taken xs ≡ xs = ap (λ l. take_while has_header l) whole ∙ none_short server (mac_in request) at now fudge signs early small near None ms in
    let passed : checked client request now (replies_taken xs) ≡ xs = ap (λ l. checked client request now l) taken ∙ one_checked client server request ms at now fudge signs one early small near can in
    let sound : check_fault client request now (replies_taken xs) ≡ None = ap (λ l. check_fault client request now l) taken ∙ one_faultless client server request ms at now fudge signs one early small near can in
    let headed : list_all has_header (take most_replies xs) ≡ true = ap (λ l. list_all has_header l) whole ∙ headers_there server (mac_in request) at now fudge signs early small near None ms in
    let not_most : nat_le most_replies (length xs) ≡ false = lt-leb most_replies (length xs) (omega (arith, count, few)) in
    record {
      checked = ap (λ l. map checked_message l) passed ∙ all_again server (mac_in request) at now fudge signs early small near None ms can is;
      stop = ap (λ f. stop_after gave_up xs f) sound ∙ rw (headed, not_most) refl;
    }
