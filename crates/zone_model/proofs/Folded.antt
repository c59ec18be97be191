-- Names and keys: folding twice is folding once, keys are in a total order, and folded keys that tie are one.
use Rattle.std.proofs.Common.{◌≡◌, ℕ, List, [], ◌∷◌, reverse, refl, sym, ap, ◌∙◌, Equal, is_eq, nat_cmp, Decides, bytes_eq}
use Rattle.std.specs.Cmp.{IsTotalOrder, on_total, then_total, nat_cmp_total}
use Rattle.std.specs.Cmp.Lexicographic.{slice_cmp, pointwise, pointwise_decides, bytes_decides, lists_ties, texts_ties}
use Rattle.std.specs.Str.{str_to_ascii_lowercase}
use Rattle.std.specs.List.{ends_with}
use Rattle.std.proofs.lemmas.Str.Ascii.{lowercase-lowercase}
use Rattle.std.proofs.lemmas.Map.Lookups.{exact_pairs, exact_unsigned}
use Rattle.std.proofs.lemmas.List.{reverse-reverse}
use Rattle.dns_name.specs.Names.{Name, fold, same_name, under}
use Rattle.dns_name.specs.NameOrder.{canonical_total}
use Rattle.zone_model.specs.Version.{Key, key_cmp}

label_folded : (l : List ℕ) → str_to_ascii_lowercase (str_to_ascii_lowercase l) ≡ str_to_ascii_lowercase l
label_folded [] = refl
label_folded (c ∷ l) = λ i. lowercase-lowercase c i ∷ label_folded l i

pub fold-fold : (n : Name) → fold (fold n) ≡ fold n
fold-fold [] = refl
fold-fold (l ∷ n) = λ i. label_folded l i ∷ fold-fold n i

-- a name is equal to another where their folds are
pub same_name-Decides : (m n : Name) → Decides (same_name m n) (fold m ≡ fold n)
same_name-Decides m n = pointwise_decides bytes_decides (fold m) (fold n)

-- tests of a name speak of its fold
pub under_alike : (m n a b : Name) → fold m ≡ fold n → fold a ≡ fold b → under m a ≡ under n b
under_alike m n a b e f i = ends_with bytes_eq (e i) (f i)

pub same_name_alike : (m n a b : Name) → fold m ≡ fold n → fold a ≡ fold b → same_name m a ≡ same_name n b
same_name_alike m n a b e f i = pointwise bytes_eq (e i) (f i)

-- the order of keys
pub key_total : IsTotalOrder key_cmp
key_total = then_total (on_total (λ (k : Key). k.0) canonical_total) (on_total (λ (k : Key). k.1) nat_cmp_total)

label_tie : (xs ys : List ℕ) → slice_cmp nat_cmp xs ys ≡ Equal → xs ≡ ys
label_tie xs ys e = (bytes_decides xs ys).0 (texts_ties xs ys ∙ ap is_eq e)

names_tie : (xs ys : Name) → slice_cmp (slice_cmp nat_cmp) xs ys ≡ Equal → xs ≡ ys
names_tie xs ys e = (pointwise_decides bytes_decides xs ys).0 (lists_ties (slice_cmp nat_cmp) texts_ties xs ys ∙ ap is_eq e)

abbrev pub IsFolded : Key → Type 0
IsFolded k = fold k.0 ≡ k.0

pub key_from_tie : (k l : Key) → key_cmp k l ≡ Equal → (fold k.0 ≡ fold l.0) × (k.1 ≡ l.1)
key_from_tie k l e =
    let p = exact_pairs (slice_cmp (slice_cmp nat_cmp)) nat_cmp names_tie exact_unsigned (reverse (fold k.0), k.1) (reverse (fold l.0), l.1) e in
    (sym (reverse-reverse (fold k.0)) ∙ ap (λ u. reverse u.0) p ∙ reverse-reverse (fold l.0), ap (λ u. u.1) p)

pub same_key : (k l : Key) → IsFolded k → IsFolded l → key_cmp k l ≡ Equal → k ≡ l
same_key k l f g e = let t = key_from_tie k l e in λ i. ((sym f ∙ t.0 ∙ g) i, t.1 i)
