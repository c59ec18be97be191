-- What is pulled of a text, message by message.
use Rattle.std.proofs.Common.{◌≡◌, ℕ, ◌+◌, ◌≤◌, ◌<◌, Bool, true, false, true≢false, List, [], ◌∷◌, ◌++◌, length, map, drop, refl, sym, ap, ◌∙◌, subst, arith}
use Rattle.std.specs.Prelude.{◌≢◌, nat_le, slice_get, flat_map, Option, Some, None, IsSome, Ok, Err, if◌then◌else◌}
use Rattle.std.specs.List.{list_all}
use Rattle.std.proofs.lemmas.Bool.{and_left}
use Rattle.std.proofs.lemmas.List.{append_assoc}
use Rattle.std.proofs.lemmas.List.Sums.{sum_by_push}
use Rattle.dns_rdata.specs.Records.{Record, record_wire}
use Rattle.dns_wire.specs.Wire.{Building, ancount_in}
use Rattle.dns_wire.specs.declared.builder.PushError.TheVariants.{ShortBuf, Memory}
use Rattle.zone_model.specs.Offer.{room_of, IsCutInto}
use Rattle.xfr_batch.specs.Batches.{Batching, IsBegun, message_with, has_room}
use Rattle.xfr_batch.specs.BatchSteps.{Tries}
use Rattle.xfr_batch.specs.ReadyMessages.{Kept, none_ready}
use Rattle.xfr_batch.specs.XfrBatches.{has_reached, push_limit, transfer_begins, transfer_is_full}
use Rattle.xfr_batch.specs.declared.batcher.PushResult.TheVariants.{PushedAndReadyForMore, PushedAndLimitReached, NotPushedMessageFull}
use Rattle.xfr_batch.proofs.BatchRooms.{not_nil, begun_none}
use Rattle.xfr_batch.proofs.XfrReady.{fewer, small_batch}
use Rattle.xfr_services.specs.Items.{Sending, Makes, reply_item, feedback_item}
use Rattle.xfr_services.specs.Replying.{error_reply}
use Rattle.dns_numbers.specs.Codes.{servfail}
use Rattle.std.specs.Option.{option_map_or}
use Rattle.xfr_services.specs.Items.Sending.{Given, Failed}
use Rattle.xfr_services.specs.declared.services.ServiceError.{ServiceError}
use Rattle.xfr_services.specs.declared.services.ServiceError.TheVariants.{InternalError, Memory as NoMemory}
use Rattle.xfr_services.specs.declared.services.ServiceFeedback.TheVariants.{BeginTransaction, EndTransaction}
use Rattle.xfr_replies.specs.TransferPages.{page_message, page_room, has_page, sendable, EndsBefore, FirstPage}
use Rattle.xfr_replies.specs.PagedReplies.{SendsRest, TransferSends, page_sent, end_sent, servfail_sent}
use Rattle.xfr_replies.specs.PulledStreams.{Continues, StageLeft, LacksMemory, NeedsMemory, OnNoMemory, begun_left, messages_left}
use Rattle.xfr_replies.specs.declared.transfer_replies.Stage.{Stage}
use Rattle.xfr_replies.specs.declared.transfer_replies.Stage.TheVariants.{Records}
use Rattle.xfr_replies.proofs.PageRooms.{room_is, message_is, error_made}
use Rattle.xfr_replies.proofs.Cutting.{one_room, first_page, first_single, no_pages, sendable_behind, sendable_more, sendable_none, all_behind, has_pages, one_cut}

-- ---- one page

end_behind : (q : List ℕ) (limit : ℕ) (page xs : List Record) → nat_le (room_of page) (page_room q limit) ≡ true → end_sent q limit (page ++ xs) ≡ end_sent q limit xs
end_behind q limit page xs within = ap (λ t. if t then Given (feedback_item EndTransaction) else servfail_sent q) (all_behind (page_room q limit) page xs within)

-- a page is the first of any cut of what can be sent of a text that begins with it
abbrev IsFirst : ℕ → Bool → List Record → List Record → Type 0
IsFirst room singles page xs = (pages : List (List Record)) → IsCutInto room singles (page ++ sendable room xs) pages → FirstPage room singles page (sendable room xs) pages

-- such a page is sent first
gives_page : (q : List ℕ) (limit : ℕ) (singles : Bool) (page xs : List Record) (items : List Sending) → nat_le (room_of page) (page_room q limit) ≡ true
    → IsFirst (page_room q limit) singles page xs → SendsRest q limit singles (page ++ xs) items → (rest : List Sending) × (items ≡ page_sent q limit page ∷ rest) × SendsRest q limit singles xs rest
gives_page q limit singles page xs items within first s =
    let room = page_room q limit in
    let f = first s.pages (subst (λ t. IsCutInto room singles t s.pages) (sendable_behind room page xs within) s.cut) in (
      map (page_sent q limit) f.more ++ end_sent q limit xs ∷ [],
      s.sent ∙ ap (λ ps. map (page_sent q limit) ps ++ end_sent q limit (page ++ xs) ∷ []) f.first
          ∙ ap (λ e. page_sent q limit page ∷ (map (page_sent q limit) f.more ++ e ∷ [])) (end_behind q limit page xs within),
      record { pages = f.more; cut = f.cut; sent = refl },
    )

-- a page ends before what is sendable of a text whose first record has no room in it
ends_before : (room : ℕ) (page : List Record) (r : Record) (xs : List Record) → nat_le (room_of (page ++ r ∷ [])) room ≡ false → EndsBefore room page (sendable room (r ∷ xs))
ends_before room page r xs none = by_room (has_page room r) refl
  where
    sum : room_of (page ++ r ∷ []) ≡ room_of page + length (record_wire r)
    sum = sum_by_push (λ x. length (record_wire x)) page r

    by_room : (b : Bool) → has_page room r ≡ b → EndsBefore room page (sendable room (r ∷ xs))
    by_room true is = rw is (ap (λ n. nat_le n room) (sym sum) ∙ none)
    by_room false is = rw is tt

-- ---- one record each

-- with one record each no message stays begun
none_begun : (s : Kept) (q : List ℕ) (begun : List Record) (answer : Option Building) → s.hard_rr_limit ≡ Some 1
    → IsBegun (transfer_begins s q) (transfer_is_full s) begun answer → begun ≡ []
none_begun s q begun None hard is = is
none_begun s q begun (Some m) hard is =
    let small = small_batch q s begun is.2 in
    let less = fewer q s begun 1 hard small (subst (λ x. transfer_is_full s x ≡ false) is.1 is.3) in
    empty begun less
  where
    empty : (rs : List Record) → length rs < 1 → rs ≡ []
    empty [] few = refl
    empty (r ∷ rs) few = absurd (omega arith)

never_full : (s : Kept) (m : Building) → s.hard_rr_limit ≡ None → transfer_is_full s m ≡ true → ⊥
never_full s m hard full = true≢false (sym full ∙ ap (λ l. has_reached l (header_count m)) hard)
  where
    header_count : Building → ℕ
    header_count x = ancount_in x.octets

-- ---- messages that are given back

module _ (s : Kept) (q : List ℕ) (limit : ℕ) (begun : List Record) (answer : Option Building) (soft : s.soft_byte_limit ≡ Some limit) (message : IsBegun (transfer_begins s q) (transfer_is_full s) begun answer) where
  -- a message without room for the next record is the first page of any cut
  pub full_first : (singles : Bool) (r : Record) (xs : List Record) (m : Building) (new : Option Building) → s.hard_rr_limit ≡ (if singles then Some 1 else None)
      → Tries (transfer_begins s q) (transfer_is_full s) r begun answer (Ok (NotPushedMessageFull m)) new → IsFirst (page_room q limit) singles begun (r ∷ xs)
  full_first true r xs m new hard tries = absurd (tries.0 (none_begun s q begun answer hard message))
  full_first false r xs m new hard tries =
      let room = page_room q limit in
      let no_room = sym (room_is s q limit (begun ++ r ∷ []) soft (not_nil begun r)) ∙ tries.2 in
      let within = sym (room_is s q limit begun soft tries.0) ∙ tries.1 in
      λ pages cut. first_page room begun (sendable room (r ∷ xs)) pages tries.0 within (ends_before room begun r xs no_room) cut

  -- so is one that is full with it
  pub limited_first : (singles : Bool) (r : Record) (xs : List Record) (m : Building) (new : Option Building) → s.hard_rr_limit ≡ (if singles then Some 1 else None)
      → Tries (transfer_begins s q) (transfer_is_full s) r begun answer (Ok (PushedAndLimitReached m)) new → IsFirst (page_room q limit) singles (begun ++ r ∷ []) xs
  limited_first false r xs m new hard tries = absurd (never_full s (message_with (transfer_begins s q) (begun ++ r ∷ [])) hard tries.1)
  limited_first true r xs m new hard tries =
      let room = page_room q limit in
      subst (λ p. IsFirst room true (p ++ r ∷ []) xs) (sym (none_begun s q begun answer hard message)) (λ pages cut. first_single room r (sendable room xs) pages cut)

  -- and what is begun at the end
  pub last_first : (singles : Bool) → s.hard_rr_limit ≡ (if singles then Some 1 else None) → begun ≢ [] → has_room (transfer_begins s q) begun ≡ true → IsFirst (page_room q limit) singles begun []
  last_first true hard some room = absurd (some (none_begun s q begun answer hard message))
  last_first false hard some room = λ pages cut. first_page (page_room q limit) begun [] pages some (sym (room_is s q limit begun soft some) ∙ room) tt cut

-- the same of a cut of the whole text
pub first_of_text : (s : Kept) (q : List ℕ) (limit : ℕ) (singles : Bool) (page xs : List Record) (pages : List (List Record)) → s.soft_byte_limit ≡ Some limit → page ≢ [] → has_room (transfer_begins s q) page ≡ true
    → IsFirst (page_room q limit) singles page xs → IsCutInto (page_room q limit) singles (sendable (page_room q limit) (page ++ xs)) pages
    → FirstPage (page_room q limit) singles page (sendable (page_room q limit) xs) pages
first_of_text s q limit singles page xs pages soft some room first cut =
    let within = sym (room_is s q limit page soft some) ∙ room in
    first pages (subst (λ t. IsCutInto (page_room q limit) singles t pages) (sendable_behind (page_room q limit) page xs within) cut)

-- ---- the text's first record

pub at_first : (xs : List Record) (r : Record) → slice_get xs 0 ≡ Some r → xs ≡ r ∷ drop 1 xs
at_first [] r e = cc
at_first (x ∷ xs) r e = let first : x ≡ r = cc in ap (λ y. y ∷ xs) first

pub at_end : (xs : List Record) → slice_get xs 0 ≡ None → xs ≡ []
at_end [] e = refl
at_end (x ∷ xs) e = cc

-- ---- the outcomes of a try

module _ (old new : Batching Kept) (kept : new ≡ record old { answer = new.answer }) where
  -- the batcher after it, with what it has begun
  continues : (xs : List Record) (items : List Sending) → Continues (record old { answer = new.answer }) xs items → Continues new xs items
  continues xs items k = subst (λ b. Continues b xs items) (sym kept) k

  -- the record is in the message, and more may be
  pub pushed : (r : Record) (xs : List Record) (items : List Sending) → (k : Continues old (r ∷ xs) items)
      → Tries (transfer_begins old.state old.request) (transfer_is_full old.state) r k.begun old.answer (Ok PushedAndReadyForMore) new.answer → Continues new xs items
  pushed r xs items k tries =
      let b = transfer_begins old.state old.request in
      let f = transfer_is_full old.state in
      continues xs items (record {
        begun = k.begun ++ r ∷ [];
        limit = k.limit;
        singles = k.singles;
        soft = k.soft;
        hard = k.hard;
        message = subst (λ a. IsBegun b f (k.begun ++ r ∷ []) a) (sym tries.2) (not_nil k.begun r, refl, tries.0, tries.1);
        sends = subst (λ t. SendsRest old.request k.limit k.singles t items) (sym (append_assoc k.begun (r ∷ []) xs)) k.sends;
      })

  -- a message is given, and none is begun
  given : (limit : ℕ) (singles : Bool) (page xs : List Record) (items : List Sending) (m : Building) → old.state.soft_byte_limit ≡ Some limit → old.state.hard_rr_limit ≡ (if singles then Some 1 else None)
      → page ≢ [] → has_room (transfer_begins old.state old.request) page ≡ true
      → IsFirst (page_room old.request limit) singles page xs
      → SendsRest old.request limit singles (page ++ xs) items → m ≡ message_with (transfer_begins old.state old.request) page → new.answer ≡ None
      → (rest : List Sending) × (items ≡ Given (reply_item m) ∷ rest) × Continues new xs rest
  given limit singles page xs items m soft hard some room first sends is none =
      let within = sym (room_is old.state old.request limit page soft some) ∙ room in
      let g = gives_page old.request limit singles page xs items within first sends in
      let same : page_message old.request limit page ≡ m = sym (is ∙ message_is old.state old.request limit page soft) in (
        g.0,
        g.1 ∙ ap (λ x. Given (reply_item x) ∷ g.0) same,
        continues xs g.0 (record {
          begun = [];
          limit = limit;
          singles = singles;
          soft = soft;
          hard = hard;
          message = subst (λ a. IsBegun (transfer_begins old.state old.request) (transfer_is_full old.state) [] a) (sym none) refl;
          sends = g.2;
        }),
      )

  -- the message has no room for the record
  pub full : (r : Record) (xs : List Record) (items : List Sending) (m : Building) → (k : Continues old (r ∷ xs) items)
      → Tries (transfer_begins old.state old.request) (transfer_is_full old.state) r k.begun old.answer (Ok (NotPushedMessageFull m)) new.answer
      → (rest : List Sending) × (items ≡ Given (reply_item m) ∷ rest) × Continues new (r ∷ xs) rest
  full r xs items m k tries =
      given k.limit k.singles k.begun (r ∷ xs) items m k.soft k.hard tries.0 tries.1
      (full_first old.state old.request k.limit k.begun old.answer k.soft k.message k.singles r xs m new.answer k.hard tries) k.sends tries.3 tries.4

  -- the message is full with the record
  pub limited : (r : Record) (xs : List Record) (items : List Sending) (m : Building) → (k : Continues old (r ∷ xs) items)
      → Tries (transfer_begins old.state old.request) (transfer_is_full old.state) r k.begun old.answer (Ok (PushedAndLimitReached m)) new.answer
      → (rest : List Sending) × (items ≡ Given (reply_item m) ∷ rest) × Continues new xs rest
  limited r xs items m k tries =
      given k.limit k.singles (k.begun ++ r ∷ []) xs items m k.soft k.hard (not_nil k.begun r) tries.0
      (limited_first old.state old.request k.limit k.begun old.answer k.soft k.message k.singles r xs m new.answer k.hard tries)
      (subst (λ t. SendsRest old.request k.limit k.singles t items) (sym (append_assoc k.begun (r ∷ []) xs)) k.sends) tries.2 tries.3

  -- none is left, and a message was begun
  pub last : (m : Building) (items : List Sending) → (k : Continues old [] items) → old.answer ≡ Some m → new.answer ≡ None
      → (rest : List Sending) × (items ≡ Given (reply_item m) ∷ rest) × Continues new [] rest
  last m items k was none =
      let had = subst (λ a. IsBegun (transfer_begins old.state old.request) (transfer_is_full old.state) k.begun a) was k.message in
      given k.limit k.singles k.begun [] items m k.soft k.hard had.0 had.2
      (last_first old.state old.request k.limit k.begun old.answer k.soft k.message k.singles k.hard had.0 had.2) k.sends had.1 none

  -- memory lacks for the record, and nothing has changed
  pub lacks : (r : Record) (text xs : List Record) (items : List Sending) → text ≡ r ∷ xs → (k : Continues old (r ∷ xs) items)
      → Tries (transfer_begins old.state old.request) (transfer_is_full old.state) r k.begun old.answer (Err Memory) new.answer → LacksMemory new text items
  lacks r text xs items is k tries =
      let P : Option Building → Type 0 = λ a. IsBegun (transfer_begins old.state old.request) (transfer_is_full old.state) k.begun a in
      let Q : Batching Kept → Type 0 = λ b. LacksMemory b text items in
      subst Q (sym kept) (record {
        next = r;
        behind = xs;
        text_is = is;
        left = record {
          begun = k.begun;
          limit = k.limit;
          singles = k.singles;
          soft = k.soft;
          hard = k.hard;
          message = subst P (sym tries.0) k.message;
          sends = k.sends;
        };
        hides = tries.1;
      })

-- ---- the ends

-- the record has no room in a message of its own
pub too_long : (b : Batching Kept) (r : Record) (xs : List Record) (items : List Sending) (answer : Option Building) → (k : Continues b (r ∷ xs) items)
    → Tries (transfer_begins b.state b.request) (transfer_is_full b.state) r k.begun b.answer (Err ShortBuf) answer → items ≡ servfail_sent b.request ∷ []
too_long b r xs items answer k tries =
    let room = page_room b.request k.limit in
    let none : has_page room r ≡ false =
    sym (ap (λ n. nat_le n room) (one_room r)) ∙ sym (room_is b.state b.request k.limit (r ∷ []) k.soft (not_nil [] r)) ∙ tries.1 in
    let s : SendsRest b.request k.limit k.singles (r ∷ xs) items = subst (λ p. SendsRest b.request k.limit k.singles (p ++ r ∷ xs) items) tries.0 k.sends in
    let pages = no_pages room k.singles s.pages (subst (λ t. IsCutInto room k.singles t s.pages) (sendable_none room r xs none) s.cut) in
    s.sent ∙ ap (λ ps. map (page_sent b.request k.limit) ps ++ end_sent b.request k.limit (r ∷ xs) ∷ []) pages
    ∙ ap (λ t. (if t then Given (feedback_item EndTransaction) else servfail_sent b.request) ∷ []) (and_left (has_page room r) (list_all (has_page room) xs) none)

-- none is left, and no message is begun
pub ended : (b : Batching Kept) (items : List Sending) → Continues b [] items → b.answer ≡ None → items ≡ Given (feedback_item EndTransaction) ∷ []
ended b items k none =
    let room = page_room b.request k.limit in
    let begun = begun_none (transfer_begins b.state b.request) (transfer_is_full b.state) k.begun b.answer none k.message in
    let s : SendsRest b.request k.limit k.singles [] items = subst (λ p. SendsRest b.request k.limit k.singles (p ++ []) items) begun k.sends in
    let pages = no_pages room k.singles s.pages s.cut in
    s.sent ∙ ap (λ ps. map (page_sent b.request k.limit) ps ++ end_sent b.request k.limit [] ∷ []) pages

-- something is always left
pub some_left : (b : Batching Kept) (xs : List Record) (items : List Sending) → Continues b xs items → items ≢ []
some_left b xs items k none = at k.sends.pages (sym k.sends.sent ∙ none)
  where
    at : (pages : List (List Record)) → map (page_sent b.request k.limit) pages ++ end_sent b.request k.limit (k.begun ++ xs) ∷ [] ≡ [] → ⊥
    at [] e = cc
    at (p ∷ pages) e = cc

-- what a stream still gives that is among its records
pub continued : (s : Stage) (b : Batching Kept) (text : List Record) (items : List Sending) → s ≡ Records → StageLeft s b text items → Continues b text items
continued s b text items is left = subst (λ x. StageLeft x b text items) is left

-- where a record is left, the next item needs memory
servfail_item : (q : List ℕ) → IsSome (error_reply q servfail) → NeedsMemory (servfail_sent q ∷ [])
servfail_item q made = at (error_reply q servfail) made
  where
    at : (o : Option Building) → IsSome o → NeedsMemory (option_map_or (λ reply. Given (reply_item reply)) o Failed ∷ [])
    at None none = absurd (true≢false (sym none))
    at (Some reply) some = refl

pub servfail_told : (q : List ℕ) (items : List Sending) (e : ServiceError) → items ≡ servfail_sent q ∷ [] → Makes {A = Building} (error_reply q servfail) (Err e)
    → OnNoMemory (Some (Err e)) (NeedsMemory items)
servfail_told q items InternalError is none = tt
servfail_told q items NoMemory is made = subst NeedsMemory (sym is) (servfail_item q made)

first_unpaged : (room : ℕ) (r : Record) (rest : List Record) → [] ≡ sendable room (r ∷ rest) → list_all (has_page room) (r ∷ rest) ≡ false
first_unpaged room r rest none = by (has_page room r) refl
  where
    by : (b : Bool) → has_page room r ≡ b → list_all (has_page room) (r ∷ rest) ≡ false
    by true is = let e = none ∙ sendable_more room r rest is in cc
    by false is = and_left (has_page room r) (list_all (has_page room) rest) is

unpaged : (room : ℕ) (begun : List Record) (r : Record) (xs : List Record) → [] ≡ sendable room (begun ++ r ∷ xs) → list_all (has_page room) (begun ++ r ∷ xs) ≡ false
unpaged room [] r xs none = first_unpaged room r xs none
unpaged room (x ∷ begun) r xs none = first_unpaged room x (begun ++ r ∷ xs) none

sent_needs : (q : List ℕ) (limit : ℕ) (begun : List Record) (r : Record) (xs : List Record) (pages : List (List Record)) → IsSome (error_reply q servfail) → flat_map (λ page. page) pages ≡ sendable (page_room q limit) (begun ++ r ∷ xs)
    → NeedsMemory (map (page_sent q limit) pages ++ end_sent q limit (begun ++ r ∷ xs) ∷ [])
sent_needs q limit begun r xs (page ∷ pages) made joined = refl
sent_needs q limit begun r xs [] made joined =
    let fails = ap (λ t. if t then Given (feedback_item EndTransaction) else servfail_sent q) (unpaged (page_room q limit) begun r xs joined) in
    let P : Sending → Type 0 = λ s. NeedsMemory (s ∷ []) in
    subst P (sym fails) (servfail_item q made)

pub needs : (b : Batching Kept) (text : List Record) (items : List Sending) → LacksMemory b text items → NeedsMemory items
needs b text items l =
    let k = l.left in
    let made = error_made b.request (push_limit b.state.soft_byte_limit) servfail l.hides.0 in
    subst NeedsMemory (sym k.sends.sent) (sent_needs b.request k.limit k.begun l.next l.behind k.sends.pages made k.sends.cut.joined)

-- ---- how many

at_most_one : (answer : Option Building) → begun_left answer ≤ 1
at_most_one None = omega arith
at_most_one (Some m) = omega arith

-- a record that was pushed leaves no more messages
pub no_more_left : (old new : Batching Kept) (xs : List Record) (r : Record) (n : ℕ) → slice_get xs 0 ≡ Some r → messages_left old xs ≤ n → messages_left new (drop 1 xs) ≤ n
no_more_left old new xs r n first few =
    let long : length xs ≡ length (r ∷ drop 1 xs) = ap length (at_first xs r first) in
    omega (arith, long, few, at_most_one new.answer)

-- ---- the begin

-- what a batcher that has begun no message sends of a text
pub begins : (b : Batching Kept) (q : List ℕ) (limit : ℕ) (singles : Bool) (text : List Record) → b.request ≡ q → b.answer ≡ None
    → b.state ≡ none_ready (Some limit) (if singles then Some 1 else None) false
    → (rest : List Sending) × SendsRest q limit singles text rest × Continues b text rest
begins b q limit singles text asked none state =
    let pages = has_pages (page_room q limit) singles text in
    let rest = map (page_sent q limit) pages.0 ++ end_sent q limit text ∷ [] in
    let sends : SendsRest q limit singles text rest = record { pages = pages.0; cut = pages.1; sent = refl } in (
      rest,
      sends,
      record {
        begun = [];
        limit = limit;
        singles = singles;
        soft = ap (λ (s : Kept). s.soft_byte_limit) state;
        hard = ap (λ (s : Kept). s.hard_rr_limit) state;
        message = subst (λ a. IsBegun (transfer_begins b.state b.request) (transfer_is_full b.state) [] a) (sym none) refl;
        sends = subst (λ r. SendsRest r limit singles text rest) (sym asked) sends;
      },
    )

-- what is sent of a text is one thing
pub one_sent : (q : List ℕ) (limit : ℕ) (singles : Bool) (text : List Record) (items others : List Sending) → TransferSends q limit singles text items → TransferSends q limit singles text others → items ≡ others
one_sent q limit singles text items others s t =
    let room = page_room q limit in
    let pages = one_cut room singles (sendable room text) s.2.pages t.2.pages s.2.cut t.2.cut in
    let rest = s.2.sent ∙ ap (λ ps. map (page_sent q limit) ps ++ end_sent q limit text ∷ []) pages ∙ sym t.2.sent in
    s.1 ∙ ap (λ r. Given (feedback_item BeginTransaction) ∷ r) rest ∙ sym t.1

pub some_sent : (q : List ℕ) (limit : ℕ) (singles : Bool) (text : List Record) → (items : List Sending) × TransferSends q limit singles text items
some_sent q limit singles text =
    let pages = has_pages (page_room q limit) singles text in
    let rest = map (page_sent q limit) pages.0 ++ end_sent q limit text ∷ [] in
    (Given (feedback_item BeginTransaction) ∷ rest, (rest, refl, record { pages = pages.0; cut = pages.1; sent = refl }))
