-- What the replies that were taken come to.
use Rattle.std.proofs.Common.{◌≡◌, ℕ, ◌<◌, ◌≤◌, Bool, true, false, not, ◌&&◌, nat_le, if◌then◌else◌, List, [], ◌∷◌, ◌++◌, map, length, take, refl, sym, ap, ◌∙◌, arith, le-leb, append-nil, Some, None}
use Rattle.std.specs.Prelude.{cond, unwrap_or, take_while}
use Rattle.std.specs.List.{list_all}
use Rattle.std.specs.Option.{option_or}
use Rattle.std.proofs.lemmas.Bool.{lt-leb}
use Rattle.std.proofs.lemmas.List.{take_all}
use Rattle.std.proofs.lemmas.List.Sums.{take_while-cons}
use Rattle.std.proofs.lemmas.List.Folds.{list_all-append}
use Rattle.tsig_port.specs.Checked.{passing, first_fault, pass_on}
use Rattle.tsig_port.specs.declared.errors.ValidationError.{ValidationError}
use Rattle.xfr_course.specs.Outcome.{Outcome, Ended, Tsig, Short, TooManyMessages, Checked, Course, outcome, made}
use Rattle.xfr_course.specs.Courses.{has_header, most_replies, replies_taken, stop_after}
use Rattle.xfr_course.specs.Client.{Client, new_client, take_checked, take_course, client_of}
use Rattle.xfr_course.proofs.Clients.{client_meets}
use Rattle.xfr_client.specs.SoFar.{Asking, asked_course, checked_so_far, fault_so_far, course_so_far, client_so_far}
use Rattle.xfr_client.specs.Standing.{Passed}

-- ---- the client of a course

-- what a course has checked, and what stops it, decides no step
pub same_takes : (a : Asking) (ks ls : List Checked) (o p : Outcome) (cl : Client) (ms : List Checked) → take_course (asked_course a ks o) cl ms ≡ take_course (asked_course a ls p) cl ms
same_takes a ks ls o p cl [] = refl
same_takes a ks ls o p cl (m ∷ more) = same_takes a ks ls o p (take_checked (asked_course a ks o) cl m) more

pub course_client : (a : Asking) (ks : List (List ℕ)) (stop : Outcome) → client_of (asked_course a (map checked_so_far ks) stop) ≡ client_so_far a ks
unfolding client_so_far
course_client a ks stop = same_takes a (map checked_so_far ks) [] stop Ended (new_client (asked_course a [] Ended)) (map checked_so_far ks)

-- what a course of these replies comes to
pub record Comes (a : Asking) (ks : List (List ℕ)) (stop : Outcome) : Type 0 where
  pub outcome : outcome (asked_course a (map checked_so_far ks) stop) ≡ unwrap_or (client_so_far a ks).met stop
  pub made : made (asked_course a (map checked_so_far ks) stop) ≡ (client_so_far a ks).progress.committed

pub comes : (a : Asking) (ks : List (List ℕ)) (stop : Outcome) → Comes a ks stop
comes a ks stop =
    let c : Course = asked_course a (map checked_so_far ks) stop in
    let m = client_meets c in
    record {
      outcome = sym m.outcome ∙ ap (λ x. unwrap_or x.met stop) (course_client a ks stop);
      made = sym m.made ∙ ap (λ x. x.progress.committed) (course_client a ks stop);
    }

-- ---- the replies taken

all_taken : (xs : List (List ℕ)) → list_all has_header xs ≡ true → take_while has_header xs ≡ xs
all_taken [] h = refl
all_taken (x ∷ xs) h = by (has_header x) refl h (λ k. all_taken xs k)
  where
    by : (b : Bool) → has_header x ≡ b → (b && list_all has_header xs) ≡ true → (list_all has_header xs ≡ true → take_while has_header xs ≡ xs) → take_while has_header (x ∷ xs) ≡ x ∷ xs
    by true e k rest = take_while-cons has_header x xs ∙ ap (λ b. cond b (x ∷ take_while has_header xs) []) e ∙ ap (λ l. x ∷ l) (rest k)
    by false e k rest = absurd (cc k)

up_to_short : (xs : List (List ℕ)) (m : List ℕ) → list_all has_header xs ≡ true → has_header m ≡ false → take_while has_header (xs ++ m ∷ []) ≡ xs
up_to_short [] m h s = take_while-cons has_header m [] ∙ ap (λ b. cond b (m ∷ []) []) s
up_to_short (x ∷ xs) m h s = by (has_header x) refl h (λ k. up_to_short xs m k s)
  where
    by : (b : Bool) → has_header x ≡ b → (b && list_all has_header xs) ≡ true → (list_all has_header xs ≡ true → take_while has_header (xs ++ m ∷ []) ≡ xs) → take_while has_header (x ∷ (xs ++ m ∷ [])) ≡ x ∷ xs
    by true e k rest = take_while-cons has_header x (xs ++ m ∷ []) ∙ ap (λ b. cond b (x ∷ take_while has_header (xs ++ m ∷ [])) []) e ∙ ap (λ l. x ∷ l) (rest k)
    by false e k rest = absurd (cc k)

pub taken_whole : (xs : List (List ℕ)) → list_all has_header xs ≡ true → length xs ≤ most_replies → replies_taken xs ≡ xs
taken_whole xs h few = ap (λ l. take_while has_header l) (take_all most_replies xs few) ∙ all_taken xs h

pub taken_short : (xs : List (List ℕ)) (m : List ℕ) → list_all has_header xs ≡ true → has_header m ≡ false → length (xs ++ m ∷ []) ≤ most_replies → replies_taken (xs ++ m ∷ []) ≡ xs
taken_short xs m h s few = ap (λ l. take_while has_header l) (take_all most_replies (xs ++ m ∷ []) few) ∙ up_to_short xs m h s

-- ---- the course of the replies that a link handed

nothing_passes : (a : Asking) (xs : List (List ℕ)) → xs ++ passing (fault_so_far a) xs [] ≡ xs
unfolding passing
nothing_passes a xs = append-nil xs

nothing_fails : (a : Asking) (xs : List (List ℕ)) → first_fault (fault_so_far a) xs [] ≡ None
unfolding first_fault
nothing_fails a xs = refl

-- all of them passed
pub passed_course : (a : Asking) (ks : List (List ℕ)) (gave_up : Outcome) → Passed (fault_so_far a) ks → length ks ≤ most_replies
    → course_so_far a ks gave_up ≡ asked_course a (map checked_so_far ks) (stop_after gave_up ks None)
unfolding course_so_far
passed_course a ks gave_up p few =
    let taken = taken_whole ks p.headed few in
    let all : passing (fault_so_far a) [] (replies_taken ks) ≡ ks =
    ap (passing (fault_so_far a) []) (taken ∙ sym (append-nil ks)) ∙ p.passing [] ∙ nothing_passes a ks in
    let none : first_fault (fault_so_far a) [] (replies_taken ks) ≡ None =
    ap (first_fault (fault_so_far a) []) (taken ∙ sym (append-nil ks)) ∙ p.faults [] ∙ nothing_fails a ks in
    ap (λ l. asked_course a (map checked_so_far l) (stop_after gave_up ks (first_fault (fault_so_far a) [] (replies_taken ks)))) all
    ∙ ap (λ f. asked_course a (map checked_so_far ks) (stop_after gave_up ks f)) none

-- the last of them doesn't
stops_passing : (a : Asking) (ks : List (List ℕ)) (m : List ℕ) (e : ValidationError) → fault_so_far a ks m ≡ Some e → ks ++ passing (fault_so_far a) ks (m ∷ []) ≡ ks
unfolding passing
stops_passing a ks m e h = ap (λ o. ks ++ pass_on o m (passing (fault_so_far a) (ks ++ m ∷ []) [])) h ∙ append-nil ks

fails_there : (a : Asking) (ks : List (List ℕ)) (m : List ℕ) (e : ValidationError) → fault_so_far a ks m ≡ Some e → first_fault (fault_so_far a) ks (m ∷ []) ≡ Some e
unfolding first_fault
fails_there a ks m e h = ap (λ o. option_or o (first_fault (fault_so_far a) (ks ++ m ∷ []) [])) h

pub failed_course : (a : Asking) (ks : List (List ℕ)) (m : List ℕ) (e : ValidationError) (gave_up : Outcome) → Passed (fault_so_far a) ks → has_header m ≡ true → fault_so_far a ks m ≡ Some e
    → length (ks ++ m ∷ []) ≤ most_replies → course_so_far a (ks ++ m ∷ []) gave_up ≡ asked_course a (map checked_so_far ks) (Tsig e)
unfolding course_so_far
failed_course a ks m e gave_up p h fault few =
    let headed : list_all has_header (ks ++ m ∷ []) ≡ true = list_all-append has_header ks (m ∷ []) ∙ ap (λ b. b && (has_header m && true)) p.headed ∙ ap (λ b. b && true) h in
    let taken = taken_whole (ks ++ m ∷ []) headed few in
    let all : passing (fault_so_far a) [] (replies_taken (ks ++ m ∷ [])) ≡ ks = ap (passing (fault_so_far a) []) taken ∙ p.passing (m ∷ []) ∙ stops_passing a ks m e fault in
    let why : first_fault (fault_so_far a) [] (replies_taken (ks ++ m ∷ [])) ≡ Some e = ap (first_fault (fault_so_far a) []) taken ∙ p.faults (m ∷ []) ∙ fails_there a ks m e fault in
    ap (λ l. asked_course a (map checked_so_far l) (stop_after gave_up (ks ++ m ∷ []) (first_fault (fault_so_far a) [] (replies_taken (ks ++ m ∷ []))))) all
    ∙ ap (λ f. asked_course a (map checked_so_far ks) (stop_after gave_up (ks ++ m ∷ []) f)) why

-- the last of them is too short
pub short_course : (a : Asking) (ks : List (List ℕ)) (m : List ℕ) (gave_up : Outcome) → Passed (fault_so_far a) ks → has_header m ≡ false
    → length (ks ++ m ∷ []) ≤ most_replies → course_so_far a (ks ++ m ∷ []) gave_up ≡ asked_course a (map checked_so_far ks) Short
unfolding course_so_far
short_course a ks m gave_up p h few =
    let taken = taken_short ks m p.headed h few in
    let all : passing (fault_so_far a) [] (replies_taken (ks ++ m ∷ [])) ≡ ks = ap (passing (fault_so_far a) []) (taken ∙ sym (append-nil ks)) ∙ p.passing [] ∙ nothing_passes a ks in
    let none : first_fault (fault_so_far a) [] (replies_taken (ks ++ m ∷ [])) ≡ None = ap (first_fault (fault_so_far a) []) (taken ∙ sym (append-nil ks)) ∙ p.faults [] ∙ nothing_fails a ks in
    let headless : list_all has_header (take most_replies (ks ++ m ∷ [])) ≡ false =
    ap (list_all has_header) (take_all most_replies (ks ++ m ∷ []) few) ∙ list_all-append has_header ks (m ∷ []) ∙ ap (λ b. b && (has_header m && true)) p.headed ∙ ap (λ b. b && true) h in
    ap (λ l. asked_course a (map checked_so_far l) (stop_after gave_up (ks ++ m ∷ []) (first_fault (fault_so_far a) [] (replies_taken (ks ++ m ∷ []))))) all
    ∙ ap (λ f. asked_course a (map checked_so_far ks) (stop_after gave_up (ks ++ m ∷ []) f)) none
    ∙ ap (λ b. asked_course a (map checked_so_far ks) (if not b then Short else if nat_le most_replies (length (ks ++ m ∷ [])) then TooManyMessages else gave_up)) headless

-- what stops a course whose replies all passed
pub stop_few : (gave_up : Outcome) (ks : List (List ℕ)) → list_all has_header ks ≡ true → length ks < most_replies → stop_after gave_up ks None ≡ gave_up
stop_few gave_up ks h few =
    let headed : list_all has_header (take most_replies ks) ≡ true = ap (list_all has_header) (take_all most_replies ks (omega (arith, few))) ∙ h in
    let less : nat_le most_replies (length ks) ≡ false = lt-leb most_replies (length ks) few in
    rw (headed, less) refl

pub stop_many : (gave_up : Outcome) (ks : List (List ℕ)) → list_all has_header ks ≡ true → length ks ≡ most_replies → stop_after gave_up ks None ≡ TooManyMessages
stop_many gave_up ks h many =
    let headed : list_all has_header (take most_replies ks) ≡ true = ap (list_all has_header) (take_all most_replies ks (omega (arith, many))) ∙ h in
    let more : nat_le most_replies (length ks) ≡ true = le-leb most_replies (length ks) (omega (arith, many)) in
    rw (headed, more) refl
