-- Lists of answers, each judged after those before it.
use Rattle.std.proofs.Common.{◌≡◌, ℕ, List, [], ◌∷◌, ◌++◌, refl, sym, ap, ◌∙◌, subst, Option, Some, None}
use Rattle.std.specs.Option.{option_or}
use Rattle.std.proofs.lemmas.List.{append_assoc, append-nil}
use Rattle.tsig_port.specs.Tsig.{mac_in}
use Rattle.tsig_port.specs.Checked.{answer_fault, pass_on, passing, first_fault}
use Rattle.tsig_port.specs.OneByOne.{EachPasses, PassesOneMore, EachIsChecked, EachIsFaultless, RefusalIsTheFault, RefusalEndsTheChecked, FaultIsARefusal, PrefixStays, PrefixIsFaultless, CheckedPasses}
use Rattle.tsig_port.specs.declared.errors.ValidationError.{ValidationError}

module _ (fault : List (List ℕ) → List ℕ → Option ValidationError) where
  -- each passes, after these and those before it
  abbrev pub Each : List (List ℕ) → List (List ℕ) → Type 0
  Each behind taken = (before after : List (List ℕ)) (message : List ℕ) → taken ≡ before ++ message ∷ after → fault (behind ++ before) message ≡ None

  none_each : (behind : List (List ℕ)) → Each behind []
  none_each behind [] after message e = absurd (cc e)
  none_each behind (b ∷ before) after message e = absurd (cc e)

  first_of : (behind : List (List ℕ)) (x : List ℕ) (xs : List (List ℕ)) → Each behind (x ∷ xs) → fault behind x ≡ None
  first_of behind x xs each = ap (λ b. fault b x) (sym (append-nil behind)) ∙ each [] xs x refl

  rest_of : (behind : List (List ℕ)) (x : List ℕ) (xs : List (List ℕ)) → Each behind (x ∷ xs) → Each (behind ++ x ∷ []) xs
  rest_of behind x xs each before after message e =
      ap (λ b. fault b message) (append_assoc behind (x ∷ []) before) ∙ each (x ∷ before) after message (ap (λ l. x ∷ l) e)

  joined : (behind : List (List ℕ)) (x : List ℕ) (xs : List (List ℕ)) → fault behind x ≡ None → Each (behind ++ x ∷ []) xs → Each behind (x ∷ xs)
  joined behind x xs first rest [] after message e =
      let same : message ≡ x = cc e in
      ap (λ b. fault b message) (append-nil behind) ∙ ap (λ m. fault behind m) same ∙ first
  joined behind x xs first rest (b ∷ before) after message e =
      let same : b ≡ x = cc e in
      let later : xs ≡ before ++ message ∷ after = cc e in
      ap (λ y. fault (behind ++ y ∷ before) message) same ∙ sym (ap (λ b. fault b message) (append_assoc behind (x ∷ []) before)) ∙ rest before after message later

  pub one_more : (behind xs : List (List ℕ)) (m : List ℕ) → Each behind xs → fault (behind ++ xs) m ≡ None → Each behind (xs ++ m ∷ [])
  one_more behind [] m each none = joined behind m [] (ap (λ b. fault b m) (sym (append-nil behind)) ∙ none) (none_each (behind ++ m ∷ []))
  one_more behind (x ∷ xs) m each none =
      joined behind x (xs ++ m ∷ []) (first_of behind x xs each)
      (one_more (behind ++ x ∷ []) xs m (rest_of behind x xs each) (ap (λ b. fault b m) (append_assoc behind (x ∷ []) xs) ∙ none))

  -- ---- what passes, with more after it

  pub passing-append : (behind xs ys : List (List ℕ)) → Each behind xs → passing fault behind (xs ++ ys) ≡ xs ++ passing fault (behind ++ xs) ys
  unfolding passing
  passing-append behind [] ys each = ap (λ b. passing fault b ys) (sym (append-nil behind))
  passing-append behind (x ∷ xs) ys each =
      let more = passing-append (behind ++ x ∷ []) xs ys (rest_of behind x xs each) in
      ap (λ f. pass_on f x (passing fault (behind ++ x ∷ []) (xs ++ ys))) (first_of behind x xs each)
      ∙ ap (λ l. x ∷ l) more ∙ ap (λ b. x ∷ (xs ++ passing fault b ys)) (append_assoc behind (x ∷ []) xs)

  pub first_fault-append : (behind xs ys : List (List ℕ)) → Each behind xs → first_fault fault behind (xs ++ ys) ≡ first_fault fault (behind ++ xs) ys
  unfolding first_fault
  first_fault-append behind [] ys each = ap (λ b. first_fault fault b ys) (sym (append-nil behind))
  first_fault-append behind (x ∷ xs) ys each =
      let more = first_fault-append (behind ++ x ∷ []) xs ys (rest_of behind x xs each) in
      ap (λ f. option_or f (first_fault fault (behind ++ x ∷ []) (xs ++ ys))) (first_of behind x xs each)
      ∙ more ∙ ap (λ b. first_fault fault b ys) (append_assoc behind (x ∷ []) xs)

  pub passing-refused : (behind : List (List ℕ)) (m : List ℕ) (more : List (List ℕ)) (e : ValidationError) → fault behind m ≡ Some e → passing fault behind (m ∷ more) ≡ []
  unfolding passing
  passing-refused behind m more e is = ap (λ f. pass_on f m (passing fault (behind ++ m ∷ []) more)) is

  pub first_fault-refused : (behind : List (List ℕ)) (m : List ℕ) (more : List (List ℕ)) (e : ValidationError) → fault behind m ≡ Some e → first_fault fault behind (m ∷ more) ≡ Some e
  unfolding first_fault
  first_fault-refused behind m more e is = ap (λ f. option_or f (first_fault fault (behind ++ m ∷ []) more)) is

  pub passing_all : (behind xs : List (List ℕ)) → Each behind xs → passing fault behind xs ≡ xs
  unfolding passing
  passing_all behind xs each =
      ap (λ l. passing fault behind l) (sym (append-nil xs)) ∙ passing-append behind xs [] each ∙ append-nil xs

  pub first_fault_none : (behind xs : List (List ℕ)) → Each behind xs → first_fault fault behind xs ≡ None
  unfolding first_fault
  first_fault_none behind xs each = ap (λ l. first_fault fault behind l) (sym (append-nil xs)) ∙ first_fault-append behind xs [] each

  -- ---- and back

  pub passing_each : (behind xs : List (List ℕ)) → Each behind (passing fault behind xs)
  unfolding passing
  passing_each behind [] = none_each behind
  passing_each behind (x ∷ xs) = by (fault behind x) refl (passing_each (behind ++ x ∷ []) xs)
    where
      by : (o : Option ValidationError) → fault behind x ≡ o → Each (behind ++ x ∷ []) (passing fault (behind ++ x ∷ []) xs)
          → Each behind (pass_on o x (passing fault (behind ++ x ∷ []) xs))
      by None is rest = joined behind x (passing fault (behind ++ x ∷ []) xs) is rest
      by (Some e) is rest = none_each behind

  pub faultless_each : (behind xs : List (List ℕ)) → first_fault fault behind xs ≡ None → Each behind xs
  unfolding first_fault
  faultless_each behind [] none = none_each behind
  faultless_each behind (x ∷ xs) none = by (fault behind x) refl none (λ n. faultless_each (behind ++ x ∷ []) xs n)
    where
      by : (o : Option ValidationError) → fault behind x ≡ o → option_or o (first_fault fault (behind ++ x ∷ []) xs) ≡ None
          → (first_fault fault (behind ++ x ∷ []) xs ≡ None → Each (behind ++ x ∷ []) xs) → Each behind (x ∷ xs)
      by None is none rest = joined behind x xs is (rest none)
      by (Some e) is none rest = absurd (cc none)

  abbrev pub Refused : List (List ℕ) → List (List ℕ) → List (List ℕ) → ValidationError → Type 0
  Refused behind xs passed e = (message : List ℕ) × ((more : List (List ℕ)) × ((xs ≡ passed ++ message ∷ more) × (fault (behind ++ passed) message ≡ Some e)))

  pub fault_found : (behind xs : List (List ℕ)) (e : ValidationError) → first_fault fault behind xs ≡ Some e → Refused behind xs (passing fault behind xs) e
  unfolding first_fault passing
  fault_found behind [] e is = absurd (cc is)
  fault_found behind (x ∷ xs) e is = by (fault behind x) refl is (λ n. fault_found (behind ++ x ∷ []) xs e n)
    where
      by : (o : Option ValidationError) → fault behind x ≡ o → option_or o (first_fault fault (behind ++ x ∷ []) xs) ≡ Some e
          → (first_fault fault (behind ++ x ∷ []) xs ≡ Some e → Refused (behind ++ x ∷ []) xs (passing fault (behind ++ x ∷ []) xs) e)
          → Refused behind (x ∷ xs) (pass_on o x (passing fault (behind ++ x ∷ []) xs)) e
      by None passes found later =
          let (message, rest) = later found in
          let (more, facts) = rest in
          (message, (more, (ap (λ l. x ∷ l) facts.0, sym (ap (λ b. fault b message) (append_assoc behind (x ∷ []) (passing fault (behind ++ x ∷ []) xs))) ∙ facts.1)))
      by (Some f) refused found later = (x, (xs, (refl, ap (λ b. fault b x) (append-nil behind) ∙ refused ∙ found)))

-- ---- the statements

pub passes_one_more : PassesOneMore
passes_one_more key request_mac now taken message each none = one_more (answer_fault key request_mac now) [] taken message each none

pub each_is_checked : EachIsChecked
each_is_checked key request now taken =
    let fault = answer_fault key (mac_in request) now in
    (λ each. passing_all fault [] taken each, λ is. subst (λ (l : List (List ℕ)). EachPasses key (mac_in request) now l) is (passing_each fault [] taken))

pub each_is_faultless : EachIsFaultless
each_is_faultless key request now taken =
    let fault = answer_fault key (mac_in request) now in
    (λ each. first_fault_none fault [] taken each, λ none. faultless_each fault [] taken none)

pub refusal_is_the_fault : RefusalIsTheFault
refusal_is_the_fault key request now taken more message e each is =
    let fault = answer_fault key (mac_in request) now in
    first_fault-append fault [] taken (message ∷ more) each ∙ first_fault-refused fault taken message more e is

pub refusal_ends_the_checked : RefusalEndsTheChecked
refusal_ends_the_checked key request now taken more message e each is =
    let fault = answer_fault key (mac_in request) now in
    passing-append fault [] taken (message ∷ more) each ∙ ap (λ l. taken ++ l) (passing-refused fault taken message more e is) ∙ append-nil taken

pub fault_is_a_refusal : FaultIsARefusal
fault_is_a_refusal key request now answers e is = fault_found (answer_fault key (mac_in request) now) [] answers e is

pub prefix_stays : PrefixStays
prefix_stays key request now taken more each = passing-append (answer_fault key (mac_in request) now) [] taken more each

pub prefix_is_faultless : PrefixIsFaultless
prefix_is_faultless key request now taken more each = first_fault-append (answer_fault key (mac_in request) now) [] taken more each

pub checked_passes : CheckedPasses
checked_passes key request now answers = passing_each (answer_fault key (mac_in request) now) [] answers
