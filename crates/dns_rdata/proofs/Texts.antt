-- A text in character strings of 255 octets.
use Rattle.std.proofs.Common.{◌≡◌, ℕ, zero, suc, ◌+◌, ◌-◌, ◌/◌, ◌<◌, ◌≤◌, ⊎_elim, true, List, ◌∷◌, ◌++◌, length, take, drop, length-append, refl, sym, ap, subst, ◌∙◌, arith, le-leb}
use Rattle.std.specs.Prelude.{IsTrue, if◌then◌else◌}
use Rattle.std.specs.List.{concat}
use Rattle.std.proofs.lemmas.Bool.{lt-leb, cases_lt}
use Rattle.std.proofs.lemmas.List.{append_assoc, append-nil, length-take-le, length-drop, take_at, drop_at, take_all, drop_all, take-append-drop}
use Rattle.dns_name.specs.Records.{are_strings, are_strings_after, strings_within, text_strings, strings_in}
use Rattle.dns_rdata.proofs.Strings.{string_left, strings_more, whole_or_none}

-- how many strings there are is one more than what is 255 shorter has
fewer : (n k : ℕ) → suc k ≡ n / 255 + 1 → 255 < n → k ≡ (n - 255) / 255 + 1
fewer n k e h = omega (arith, e, h)

rest_long : (t : List ℕ) (k : ℕ) → suc k ≡ length t / 255 + 1 → 255 < length t → k ≡ length (drop 255 t) / 255 + 1
rest_long t k e h = fewer (length t) k e h ∙ ap (λ n. n / 255 + 1) (sym (length-drop 255 t))

-- a text that fits one string
pub text_last : (n : ℕ) (t : List ℕ) → length t ≤ 255 → strings_within (suc n) t ≡ length t ∷ t
text_last n t h = ap (λ b. if b then length t ∷ t else 255 ∷ take 255 t ++ strings_within n (drop 255 t)) (le-leb (length t) 255 h)

-- a longer one begins with a full string
text_more : (n : ℕ) (t : List ℕ) → 255 < length t → strings_within (suc n) t ≡ 255 ∷ take 255 t ++ strings_within n (drop 255 t)
text_more n t h = ap (λ b. if b then length t ∷ t else 255 ∷ take 255 t ++ strings_within n (drop 255 t)) (lt-leb (length t) 255 h)

-- a statement about texts and their strings, by strings
by_strings : (P : List ℕ → List ℕ → Type 0)
    → ((t : List ℕ) → length t ≤ 255 → P t (length t ∷ t))
    → ((t o : List ℕ) → 255 < length t → P (drop 255 t) o → P t (255 ∷ take 255 t ++ o))
    → (n : ℕ) (t : List ℕ) → n ≡ length t / 255 + 1 → P t (strings_within n t)
by_strings P last more zero t e = absurd (omega (arith, e))
by_strings P last more (suc n) t e =
    ⊎_elim
    (λ long. subst (P t) (sym (text_more n t long)) (more t (strings_within n (drop 255 t)) long (by_strings P last more n (drop 255 t) (rest_long t n e long))))
    (λ short. subst (P t) (sym (text_last n t short)) (last t short))
    (cases_lt 255 (length t))

pub of_text : (P : List ℕ → List ℕ → Type 0)
    → ((t : List ℕ) → length t ≤ 255 → P t (length t ∷ t))
    → ((t o : List ℕ) → 255 < length t → P (drop 255 t) o → P t (255 ∷ take 255 t ++ o))
    → (t : List ℕ) → P t (text_strings t)
of_text P last more t = by_strings P last more (length t / 255 + 1) t refl

-- how long the strings are, at least and at most
pub text_at_least : (t : List ℕ) → length t + (length t + 254) / 255 ≤ length (text_strings t)
text_at_least = of_text
    (λ t o. length t + (length t + 254) / 255 ≤ length o)
    (λ t short. omega (arith, short))
    (λ t o long h. omega (arith, long, h, length-drop 255 t, length-append (take 255 t) o, length-take-le 255 t (omega (arith, long))))

pub text_at_most : (t : List ℕ) → length (text_strings t) ≤ length t + length t / 255 + 1
text_at_most = of_text
    (λ t o. length o ≤ length t + length t / 255 + 1)
    (λ t short. omega (arith, short))
    (λ t o long h. omega (arith, long, h, length-drop 255 t, length-append (take 255 t) o, length-take-le 255 t (omega (arith, long))))

-- what is 65,280 octets long doesn't fit, and what is shorter does
pub text_long : (t : List ℕ) → 65279 < length t → 65536 ≤ length (text_strings t)
text_long t h = omega (arith, h, text_at_least t)

pub text_fits : (t : List ℕ) → length t ≤ 65279 → length (text_strings t) < 65536
text_fits t h = omega (arith, h, text_at_most t)

-- the first string leaves the others
first_left : (t o : List ℕ) → 255 < length t → drop 255 (take 255 t ++ o) ≡ o
first_left t o long = drop_at (take 255 t) o 255 (length-take-le 255 t (omega (arith, long)))

first_of : (t o : List ℕ) → 255 < length t → take 255 (take 255 t ++ o) ≡ take 255 t
first_of t o long = take_at (take 255 t) o 255 (length-take-le 255 t (omega (arith, long)))

-- the strings are whole
pub text_whole : (t : List ℕ) → IsTrue (are_strings (text_strings t))
text_whole = of_text
    (λ t o. are_strings o ≡ true)
    (λ t short. string_left (length t) t (omega arith) ∙ ap (are_strings_after 0) (drop_all (length t) t (omega arith)))
    (λ t o long h. string_left 255 (take 255 t ++ o) (omega (arith, long, length-append (take 255 t) o, length-take-le 255 t (omega (arith, long))))
    ∙ ap (are_strings_after 0) (first_left t o long) ∙ whole_or_none o h)

-- the strings, joined, are the text
pub text_joined : (t : List ℕ) → concat (strings_in (text_strings t)) ≡ t
text_joined = of_text
    (λ t o. concat (strings_in o) ≡ t)
    (λ t short. ap concat (strings_more (length t) t)
    ∙ (λ i. take_all (length t) t (omega arith) i ++ concat (strings_in (drop_all (length t) t (omega arith) i))) ∙ append-nil t)
    (λ t o long h. ap concat (strings_more 255 (take 255 t ++ o))
    ∙ (λ i. first_of t o long i ++ concat (strings_in (first_left t o long i)))
    ∙ ap (λ x. take 255 t ++ x) h ∙ take-append-drop 255 t)

head_and_rest : (n : ℕ) (t : List ℕ) → n ≡ length t / 255 + 1 → 255 < length t → strings_within n t ≡ 255 ∷ take 255 t ++ text_strings (drop 255 t)
head_and_rest zero t e h = absurd (omega (arith, e))
head_and_rest (suc n) t e h = text_more n t h ∙ ap (λ k. 255 ∷ take 255 t ++ strings_within k (drop 255 t)) (rest_long t n e h)

-- one more full string of the text t is written after a
pub text_step : (a c t f r whole : List ℕ) → 255 < length t → c ≡ a ++ (length f ∷ f) → f ≡ take 255 t → r ≡ drop 255 t
    → a ++ text_strings t ≡ whole → c ++ text_strings r ≡ whole
text_step a c t f r whole h pushed front back so_far =
    let full : length f ≡ 255 = ap length front ∙ length-take-le 255 t (omega (arith, h)) in
    (λ i. pushed i ++ text_strings (back i)) ∙ (λ i. (a ++ (full i ∷ front i)) ++ text_strings (drop 255 t))
    ∙ append_assoc a (255 ∷ take 255 t) (text_strings (drop 255 t)) ∙ ap (λ x. a ++ x) (sym (head_and_rest (length t / 255 + 1) t refl h)) ∙ so_far

last_only : (n : ℕ) (t : List ℕ) → n ≡ length t / 255 + 1 → length t ≤ 255 → strings_within n t ≡ length t ∷ t
last_only zero t e h = absurd (omega (arith, e))
last_only (suc n) t e h = text_last n t h

-- the last string of the text t is written after a
pub text_end : (a c t : List ℕ) → length t ≤ 255 → c ≡ a ++ (length t ∷ t) → c ≡ a ++ text_strings t
text_end a c t h pushed = pushed ∙ ap (λ x. a ++ x) (sym (last_only (length t / 255 + 1) t refl h))
