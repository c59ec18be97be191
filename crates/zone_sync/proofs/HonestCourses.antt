-- What a granting primary sends to a secondary's request makes a course that succeeds, and a first part of it one that goes on.
use Rattle.std.proofs.Common.{◌≡◌, ℕ, suc, ◌+◌, ◌-◌, ◌^◌, ◌<◌, ◌≤◌, Bool, true, false, not, List, [], ◌∷◌, ◌++◌, map, length, length-append, append-nil, refl, sym, ap, ◌∙◌, subst, arith, lit≤, true≢false, Option, Some, None, ◌⊎◌, inl, inr}
use Rattle.std.specs.Prelude.{◌&&◌, ◌||◌, ◌==◌, nat_le, flat_map, unwrap_or, IsTrue}
use Rattle.std.specs.Int.{abs_diff}
use Rattle.std.specs.List.{AllByRecursion, list_all, last_or}
use Rattle.std.proofs.lemmas.List.{map-append}
use Rattle.std.proofs.lemmas.Bool.Decides.{nat_tests}
use Rattle.dns_name.specs.Names.{Name, is_name}
use Rattle.dns_numbers.specs.Serial.{serial_lt}
use Rattle.dns_rdata.specs.Records.{Record}
use Rattle.dns_wire.specs.Wire.{Question, id_in}
use Rattle.tsig_port.specs.Tsig.{TsigKey, compose_len}
use Rattle.zone_model.specs.Version.{Version, has_one_soa, has_one_apex_soa}
use Rattle.zone_model.specs.Difference.{zone_serial}
use Rattle.zone_model.specs.TransferText.{Mode, Axfr, Ixfr, OnIxfr}
use Rattle.zone_model.specs.TransferLaws.{IsPublished}
use Rattle.zone_model.specs.Offer.{Offer, IsCutInto, text_of}
use Rattle.zone_model.specs.Spells.{spelling}
use Rattle.xfr_model.specs.Messages.{read_of}
use Rattle.xfr_model.specs.Read.{request_fault}
use Rattle.xfr_model.specs.Carried.{Carrier, Carries}
use Rattle.xfr_replies.specs.TransferPages.{page_answer}
use Rattle.xfr_server.specs.GrantedTransfers.{begins_with_soa}
use Rattle.xfr_server.proofs.Accepted.{whole_is_taken}
use Rattle.xfr_server.proofs.Pages.{IsPage, each_page}
use Rattle.xfr_course.specs.Outcome.{Outcome, Updated, UpToDate, Course, outcome}
use Rattle.xfr_course.specs.Courses.{has_header, most_replies, stop_after}
use Rattle.xfr_course.specs.Granting.{Ends, IsGranting, in_singles}
use Rattle.xfr_course.specs.Honest.{carrier_of}
use Rattle.xfr_course.specs.Success.{sent_course, CarrySent, Succeeds}
use Rattle.xfr_course.proofs.Clients.{met_decides}
use Rattle.xfr_course.proofs.Succeeding.{granted_succeeds}
use Rattle.xfr_client.specs.SoFar.{Asking, asked_id, asked_question, asked_authority, asked_course, course_so_far, checked_so_far, fault_so_far, client_so_far}
use Rattle.xfr_client.specs.Standing.{Passed}
use Rattle.zone_sync.specs.Forms.{HaveForms}
use Rattle.zone_sync.specs.Fitting.{answer_room, told_offer, sent_text, page_answers, sent_pages, begins_together, has_more, BaseMatches, Fits, GrantedSucceed}
use Rattle.xfr_client.proofs.Outcomes.{comes, passed_course, stop_few}
use Rattle.xfr_client.proofs.Replying.{so_far}
use Rattle.zone_sync.proofs.HonestRequests.{kind_of}
use Rattle.zone_sync.proofs.HonestRequests as requests
use Rattle.zone_sync.proofs.WritableVersions.{forms_written, forms_data}
use Rattle.zone_sync.proofs.HonestReplies as replies

no_empty : (n : ℕ) → not (suc n == 0) ≡ true
no_empty n = grind (arith, nat_tests)

is_full : (n : ℕ) → 1 ≤ n → not (n == 0) ≡ true
is_full n some = grind (arith, nat_tests)

-- ---- premises of one mode

on_map : {P Q : Type 0} (mode : Mode) → (P → Q) → OnIxfr mode P → OnIxfr mode Q
on_map Axfr f p = tt
on_map Ixfr f p = f p

on_both : {P Q R : Type 0} (mode : Mode) → (P → Q → R) → OnIxfr mode P → OnIxfr mode Q → OnIxfr mode R
on_both Axfr f p q = tt
on_both Ixfr f p q = f p q

both : (b c : Bool) → b ≡ true → c ≡ true → (b && c) ≡ true
both b c h k = rw (h, k) refl

-- ---- the two ends, so far as the course depends on them

abbrev pub ends : Asking → TsigKey → ℕ → Offer → List Version → Ends
ends a server at offer history = record {
  offer = told_offer a.mode offer;
  history = history;
  mode = a.mode;
  base = a.base.version;
  number = a.base.number;
  question = asked_question a;
  request_len = 0;
  max_len = 0;
  signature_len = compose_len server;
  primary_signs = server.signing_len;
  primary_wants = server.min_mac_len;
  secondary_signs = a.key.signing_len;
  secondary_wants = a.key.min_mac_len;
  at_primary = at;
  at_secondary = a.at;
}

all_one_soa : (apex : Name) (history : List Version) → AllByRecursion (IsPublished apex) history → list_all has_one_soa history ≡ true
all_one_soa apex [] h = refl
all_one_soa apex (v ∷ more) h = both (has_one_soa v) (list_all has_one_soa more) h.0.one_soa (all_one_soa apex more h.1)

-- the text depends on what the mode tells alone
same_text : (offer : Offer) (m : Mode) (n : ℕ) → text_of (told_offer m offer) m n ≡ text_of offer m n
same_text offer Axfr n = refl
same_text offer Ixfr n = refl

module _ (a : Asking) (server : TsigKey) (at : ℕ) (offer : Offer) (f : Fits a server at offer) (forms : HaveForms (asked_authority a)) where
  abbrev e : Ends
  e = ends a server at offer f.one_soa.history

  abbrev text : List Record
  text = sent_text a offer

  abbrev singles : Bool
  singles = in_singles a.mode offer.compatibility

  abbrev pages : List (List Record)
  pages = f.records_fit.pages

  abbrev id : ℕ
  id = asked_id a

  abbrev q : Question
  q = asked_question a

  abbrev request : List ℕ
  request = replies.request a server at offer f forms

  abbrev name : is_name a.base.version.apex ≡ true
  name = replies.apex_is_name a server at offer f

  abbrev class : a.base.version.class < 2 ^ 16
  class = replies.small_class a server at offer f

  same : text_of e.offer a.mode (zone_serial a.base.version) ≡ text
  same = same_text offer a.mode (zone_serial a.base.version)

  near : abs_diff at a.at ≤ 300
  near = f.close_moments.near

  granting : IsGranting e
  granting = record {
    offered = f.one_soa.told;
    primary_accepts = f.one_key.client_taken;
    secondary_accepts = f.one_key.server_taken;
    primary_clock = omega (arith, near);
    secondary_clock = omega (arith, near);
    one_soa = all_one_soa a.base.version.apex f.one_soa.history f.one_soa.each;
    pages = pages;
    cut = subst (λ (l : List Record). IsCutInto (answer_room a server) singles l pages) (sym same) f.records_fit.cut;
    few = f.records_fit.few;
    together = subst (λ (l : List Record). OnIxfr a.mode (IsTrue (begins_together (answer_room a server) l && has_more l))) (sym same) (on_both a.mode (both (begins_together (answer_room a server) text) (has_more text)) f.records_fit.together f.records_fit.more);
    asks = on_map a.mode (λ (m : BaseMatches a.base.version offer f.one_soa.history). both (has_one_apex_soa a.base.version) (not (serial_lt (zone_serial offer.version) (zone_serial a.base.version))) m.one_apex_soa m.not_ahead) f.base_matches;
    caught_up = on_map a.mode (λ (m : BaseMatches a.base.version offer f.one_soa.history). m.caught_up) f.base_matches;
    starts = on_map a.mode (λ (m : BaseMatches a.base.version offer f.one_soa.history). m.starts) f.base_matches;
    same_apex = f.same_zone.apex;
    same_class = f.same_zone.class;
    request_fits = lit≤ tt;
    numbers_left = subst (λ (l : List Record). a.base.number + length (spelling a.mode l a.base.version).versions < 2 ^ 64) (sym same) f.room;
  }

  -- ---- what the messages carry

  taken_id : id_in request ≡ id
  taken_id = requests.taken_id a f.client_signs f.close_moments.secondary name class (forms_written (asked_authority a) forms) (forms_data (asked_authority a) forms)

  carry_later : (pages : List (List Record)) → AllByRecursion (IsPage (answer_room a server)) pages → AllByRecursion (λ page. request_fault (id_in request) q false (read_of (page_answer request page)) ≡ None) pages
      → AllByRecursion (Carries (request_fault id q) false) (map carrier_of (page_answers a pages))
  carry_later [] each sound = tt
  carry_later (page ∷ more) each sound =
      (record { sound = ap (λ n. request_fault n q false (read_of (page_answer request page))) (sym taken_id) ∙ sound.0; answers = refl; full = is_full (length page) each.0.0 }, carry_later more each.1 sound.1)

  texts : (pages : List (List Record)) → flat_map (λ (k : Carrier). k.page) (map carrier_of (page_answers a pages)) ≡ flat_map (λ page. page) pages
  texts [] = refl
  texts (page ∷ more) = ap (λ l. page ++ l) (texts more)

  -- ---- the course of all of them

  abbrev w : List (List ℕ)
  w = sent_pages a server at pages

  few_sent : length w ≤ most_replies
  few_sent = omega (arith, replies.sends_each a server at pages, f.records_fit.few)

  passed : Passed (fault_so_far a) w
  passed = replies.front_passed a server at offer f forms w [] (sym (append-nil w))

  course_is : (gave : Outcome) → course_so_far a w gave ≡ sent_course e id (map carrier_of (page_answers a pages)) (stop_after gave w None)
  course_is gave =
      let stop = stop_after gave w None in
      passed_course a w gave passed few_sent ∙ ap (λ ks. asked_course a ks stop) (replies.sent_checked a server at offer f forms)

  -- the second record comes in the first message
  first_page : (page : List Record) (more : List (List Record)) → IsCutInto (answer_room a server) singles text (page ∷ more) → OnIxfr a.mode (IsTrue (nat_le (length text) 1 || nat_le 2 (length page)))
  first_page page more cut = by a.mode (in_singles a.mode offer.compatibility) refl cut f.records_fit.together
    where
      by : (m : Mode) (s : Bool) → in_singles m offer.compatibility ≡ s → IsCutInto (answer_room a server) s text (page ∷ more) → OnIxfr m (IsTrue (begins_together (answer_room a server) text)) → OnIxfr m (IsTrue (nat_le (length text) 1 || nat_le 2 (length page)))
      by Axfr s is c h = tt
      by Ixfr true is c h = absurd (true≢false (sym is))
      by Ixfr false is c h = replies.two_together (answer_room a server) text page more c h

  carried : (pages : List (List Record)) (stop : Outcome) → IsCutInto (answer_room a server) singles text pages → Succeeds (sent_course e id (map carrier_of (page_answers a pages)) stop) offer.version
  carried [] stop cut = absurd (cc (cut.joined ∙ (replies.begins a server at offer f).is))
  carried (page ∷ more) stop cut =
      let soa = forms_written (asked_authority a) forms in
      let pieces = forms_data (asked_authority a) forms in
      let early = f.close_moments.secondary in
      let begins = replies.begins a server at offer f in
      let begun : begins_with_soa text ≡ true = ap begins_with_soa begins.is ∙ begins.typed in
      let taken = whole_is_taken request q (kind_of a.mode) text (answer_room a server) singles page more (requests.taken_mode a f.client_signs early name class soa pieces) (requests.taken_question a f.client_signs early name class soa pieces) begun cut in
      let each = each_page (answer_room a server) singles (page ∷ more) cut.filled in
      let carry : CarrySent e id (carrier_of (page_answer request page)) (map carrier_of (page_answers a more)) = record {
        first = record { sound = ap (λ n. request_fault n q true (read_of (page_answer request page))) (sym taken_id) ∙ taken.0; answers = refl; full = is_full (length page) each.0.0 };
        later = carry_later more each.1 taken.1;
        text = texts (page ∷ more) ∙ cut.joined ∙ sym same;
        together = subst (λ (l : List Record). OnIxfr a.mode (IsTrue (nat_le (length l) 1 || nat_le 2 (length page)))) (sym same) (first_page page more cut);
      } in
      granted_succeeds e id (carrier_of (page_answer request page)) (map carrier_of (page_answers a more)) stop granting f.one_soa.each carry

  pub succeeds : (gave : Outcome) → Succeeds (course_so_far a w gave) offer.version
  succeeds gave = subst (λ (k : Course). Succeeds k offer.version) (sym (course_is gave)) (carried pages (stop_after gave w None) f.records_fit.cut)

-- the law of granted transfers
pub granted_succeed : GrantedSucceed
granted_succeed a server at offer gave forms f = succeeds a server at offer f forms gave

-- ---- a first part of what was sent

-- where more is to come, a course is left as it was given up; or it has succeeded
pub record Waits (a : Asking) (xs rest : List (List ℕ)) (gave : Outcome) : Type 0 where
  pub given : outcome (course_so_far a xs gave) ≡ gave
  pub headed : list_all has_header xs ≡ true
  pub more : not (length rest == 0) ≡ true

abbrev pub IsPart : Asking → Version → List (List ℕ) → List (List ℕ) → Outcome → Type 0
IsPart a v xs rest gave = Succeeds (course_so_far a xs gave) v ⊎ Waits a xs rest gave

same_how : (x y : Outcome) → x ≡ y → (y ≡ Updated) ⊎ (y ≡ UpToDate) → (x ≡ Updated) ⊎ (x ≡ UpToDate)
same_how x y e (inl h) = inl (e ∙ h)
same_how x y e (inr h) = inr (e ∙ h)

module _ (a : Asking) (server : TsigKey) (at : ℕ) (offer : Offer) (f : Fits a server at offer) (forms : HaveForms (asked_authority a)) (gave : Outcome) where
  abbrev v : Version
  v = offer.version

  abbrev all : List (List ℕ)
  all = sent_pages a server at f.records_fit.pages

  -- it passed
  passes : (xs rest : List (List ℕ)) → all ≡ xs ++ rest → Passed (fault_so_far a) xs
  passes xs rest joined = replies.front_passed a server at offer f forms xs rest joined

  few : (xs rest : List (List ℕ)) → all ≡ xs ++ rest → length xs + length rest ≤ most_replies
  few xs rest joined = omega (arith, replies.sends_each a server at f.records_fit.pages, f.records_fit.few, ap length joined, length-append xs rest)

  abbrev checked_course : List (List ℕ) → Outcome → Course
  checked_course xs stop = asked_course a (map checked_so_far xs) stop

  front_is : (xs rest : List (List ℕ)) → all ≡ xs ++ rest → course_so_far a xs gave ≡ checked_course xs (stop_after gave xs None)
  front_is xs rest joined = passed_course a xs gave (passes xs rest joined) (omega (arith, few xs rest joined))

  all_is : (xs rest : List (List ℕ)) → all ≡ xs ++ rest → Succeeds (asked_course a (map checked_so_far xs ++ map checked_so_far rest) (stop_after gave (xs ++ rest) None)) v
  all_is xs rest joined =
      let none = sym (append-nil (xs ++ rest)) in
      subst (λ (k : Course). Succeeds k v)
      (ap (λ l. course_so_far a l gave) joined ∙ front_is (xs ++ rest) [] (joined ∙ none) ∙ ap (λ ks. asked_course a ks (stop_after gave (xs ++ rest) None)) (map-append checked_so_far xs rest)) (succeeds a server at offer f forms gave)

  -- it met the outcome of all
  has_met : (xs rest : List (List ℕ)) (o : Outcome) → all ≡ xs ++ rest → (client_so_far a xs).met ≡ Some o → Succeeds (course_so_far a xs gave) v
  has_met xs rest o joined h =
      let stop = stop_after gave xs None in
      let last = stop_after gave (xs ++ rest) None in
      let w = all_is xs rest joined in
      let d = met_decides (asked_course a [] last) (map checked_so_far xs) (map checked_so_far rest) o (ap (λ x. x.met) (so_far a xs last) ∙ h) in
      let k = comes a xs stop in
      let is : outcome (checked_course xs stop) ≡ o = k.outcome ∙ ap (λ m. unwrap_or m stop) h in
      let part : Succeeds (checked_course xs stop) v = record {
        how = same_how (outcome (checked_course xs stop)) (outcome (asked_course a (map checked_so_far xs ++ map checked_so_far rest) last)) (is ∙ sym d.outcome) w.how;
        last = w.last;
        stands = ap (last_or (Some a.base.version)) (sym d.made) ∙ w.stands;
        same = w.same;
      } in
      subst (λ (k : Course). Succeeds k v) (sym (front_is xs rest joined)) part

  waits : (xs : List (List ℕ)) (r : List ℕ) (rest : List (List ℕ)) → all ≡ xs ++ r ∷ rest → (client_so_far a xs).met ≡ None → Waits a xs (r ∷ rest) gave
  waits xs r rest joined h =
      let stop = stop_after gave xs None in
      let headed = (passes xs (r ∷ rest) joined).headed in
      let k = comes a xs stop in
      record {
        given = ap outcome (front_is xs (r ∷ rest) joined) ∙ k.outcome ∙ ap (λ m. unwrap_or m stop) h ∙ stop_few gave xs headed (omega (arith, few xs (r ∷ rest) joined));
        headed = headed;
        more = no_empty (length rest);
      }

  pub part_of : (xs rest : List (List ℕ)) → all ≡ xs ++ rest → IsPart a v xs rest gave
  part_of xs rest joined = by rest (client_so_far a xs).met joined refl
    where
      by : (more : List (List ℕ)) (m : Option Outcome) → all ≡ xs ++ more → (client_so_far a xs).met ≡ m → IsPart a v xs more gave
      by more (Some o) j h = inl (has_met xs more o j h)
      by [] None j h = inl (subst (λ (l : List (List ℕ)). Succeeds (course_so_far a l gave) v) (j ∙ append-nil xs) (succeeds a server at offer f forms gave))
      by (r ∷ more) None j h = inr (waits xs r more j h)
