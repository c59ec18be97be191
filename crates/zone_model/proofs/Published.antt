-- A version that passes the test may be published.
use Rattle.std.proofs.Common.{◌≡◌, true, [], ◌∷◌, refl, sym, true≢false, Ordering, Less, Equal, Greater, is_lt}
use Rattle.std.specs.List.Sorted.{IsStrictlySortedBy}
use Rattle.std.specs.Cmp.{first_so, second_so}
use Rattle.std.specs.Map.{keys_of}
use Rattle.std.proofs.lemmas.Map.Keys.{sorted_head}
use Rattle.dns_name.specs.Names.{same_name}
use Rattle.zone_model.specs.Version.{Sets, key_cmp, has_one_soa}
use Rattle.zone_model.specs.LawRows.{in_order, PublishedByTest}
use Rattle.zone_model.proofs.Folded.{key_total}
use Rattle.zone_model.proofs.Ordered.{sorted_none, sorted_cons, below_all}

less_is : (o : Ordering) → is_lt o ≡ true → o ≡ Less
less_is Less h = refl
less_is Equal h = absurd (true≢false (sym h))
less_is Greater h = absurd (true≢false (sym h))

ordered_by_test : (es : Sets) → in_order es ≡ true → IsStrictlySortedBy key_cmp (keys_of es)
ordered_by_test [] h = sorted_none key_cmp
ordered_by_test (e ∷ []) h = sorted_cons key_cmp e.0 [] tt (sorted_none key_cmp)
ordered_by_test (e ∷ f ∷ es) h =
    let l = less_is (key_cmp e.0 f.0) (first_so (is_lt (key_cmp e.0 f.0)) _ h) in
    let s = ordered_by_test (f ∷ es) (second_so (is_lt (key_cmp e.0 f.0)) _ h) in
    sorted_cons key_cmp e.0 (keys_of (f ∷ es)) (l, below_all key_total e.0 f.0 es l (sorted_head key_cmp f.0 (keys_of es) s)) s

pub published_by_test : PublishedByTest
published_by_test apex v h =
    let three = first_so _ (same_name v.apex apex) h in
    let two = first_so _ (has_one_soa v) three in
    record {
      valid = record { ordered = ordered_by_test v.sets (first_so (in_order v.sets) _ two); kept = second_so (in_order v.sets) _ two };
      one_soa = second_so _ (has_one_soa v) three;
      same_apex = second_so _ (same_name v.apex apex) h;
    }
