-- What one version has and another lacks, made of the keys alone that cover both.
use Rattle.std.proofs.Common.{◌≡◌, ◌==◌, Bool, true, false, cond, ◌&&◌, ◌||◌, not, List, [], ◌∷◌, filter, refl, sym, ap, ◌∙◌, Equal, is_eq, Option, Some, None, eq-eqb}
use Rattle.std.specs.Option.{option_map_or}
use Rattle.std.specs.Cmp.{Equal-is}
use Rattle.std.specs.Cmp.Derive.{both_true}
use Rattle.std.specs.Ordering.{ordering_then, nat_cmp}
use Rattle.dns_name.specs.Names.{fold, spelling_cmp}
use Rattle.dns_rdata.specs.Records.{Field}
use Rattle.zone_model.specs.Version.{RecordSet, Key, Sets, key_cmp, set_in}
use Rattle.zone_model.specs.Difference.{without}
use Rattle.zone_model.proofs.Folded.{key_total, fold-fold}
use Rattle.zone_model.proofs.Ordered.{find_alike, sorted_none}
use Rattle.zone_model.proofs.Steps.{Good, unless_empty, found-put, good-put}
use Rattle.zone_model.proofs.SameVersions.{any, any_here}
use Rattle.zone_model.proofs.Alike.{equal_from_found}
use Rattle.zone_model.proofs.JoinedSets.{except, found-without}
use Rattle.zone_model.proofs.JoinedSides.{good-without}
use Rattle.zone_diffs.specs.Building.{put_at}
use Rattle.zone_changes.specs.Touched.{is_touched, Covers}
use Rattle.zone_changes.specs.Changes.{folded, lacked_of, with_lacked, lacked_at}

-- a set lacks none of its own records
or_right : (a b : Bool) → b ≡ true → (a || b) ≡ true
or_right true b h = refl
or_right false b h = h

none_lacked : (t : Bool) → t ≡ true → (all xs : List (List Field)) → ((d : List Field) → any d xs ≡ true → any d all ≡ true) → filter (λ d. not (t && any d all)) xs ≡ []
none_lacked t e all [] f = refl
none_lacked t e all (x ∷ xs) f =
    let rest : List (List Field) = filter (λ d. not (t && any d all)) xs in
    ap (λ c. cond (not c) (x ∷ rest) rest) (both_true e (f x (any_here x xs))) ∙ none_lacked t e all xs (λ d h. f d (or_right _ (any d xs) h))

except_itself : (o : Option RecordSet) → except o o ≡ None
except_itself None = refl
except_itself (Some s) = ap (λ l. unless_empty (record { ttl = s.ttl; items = l })) (none_lacked (s.ttl == s.ttl) (eq-eqb s.ttl s.ttl refl) s.items s.items (λ d h. h))

-- what is left at a key
module _ (a b : Sets) (good : Good a) where
  abbrev lacked : Key → Option RecordSet
  lacked q = except (set_in a q) (set_in b q)

  lacked_alike : (q k : Key) → is_eq (key_cmp q k) ≡ true → lacked k ≡ lacked q
  lacked_alike q k t =
      let tied : key_cmp q k ≡ Equal = (Equal-is (key_cmp q k)).0 t in
      λ i. except (sym (find_alike key_total a q k tied) i) (sym (find_alike key_total b q k tied) i)

  -- sets that have what is lacked at the keys that were looked at, where these keys are left
  record Made (rest : List Key) (sets : Sets) : Type 0 where
    ordered : Good sets
    done : Key → Bool
    found : (q : Key) → set_in sets q ≡ cond (done q) (lacked q) None
    left : (q : Key) → is_touched rest q ≡ false → done q ≡ true

  first_made : (keys : List Key) → Covers keys a b → Made keys []
  first_made keys h = record {
    ordered = record { sorted = sorted_none key_cmp; folded = tt };
    done = λ q. not (is_touched keys q);
    found = λ q. by q (is_touched keys q) refl;
    left = λ q n. ap not n;
  }
    where
      by : (q : Key) (t : Bool) → is_touched keys q ≡ t → None ≡ cond (not t) (lacked q) None
      by q true e = refl
      by q false e = sym (ap (λ o. except (set_in a q) o) (sym (h.same q e)) ∙ except_itself (set_in a q))

  same_order : (q k : Key) → key_cmp q (folded k) ≡ key_cmp q k
  same_order q k i = ordering_then (spelling_cmp (fold q.0) (fold-fold k.0 i)) (nat_cmp q.1 k.1)

  next_made : (k : Key) (rest : List Key) (sets : Sets) → Made (k ∷ rest) sets → Made rest (with_lacked a b sets (folded k))
  next_made k rest sets m = by (set_in a (folded k)) refl
    where
      place : Key
      place = folded k

      now_done : Key → Bool
      now_done q = is_eq (key_cmp q place) || m.done q

      now_left : (q : Key) → is_touched rest q ≡ false → now_done q ≡ true
      now_left q n = either (is_eq (key_cmp q place)) refl
        where
          either : (t : Bool) → is_eq (key_cmp q place) ≡ t → (t || m.done q) ≡ true
          either true e = refl
          either false e = m.left q (ap (λ o. is_eq o || is_touched rest q) (sym (same_order q k)) ∙ ap (λ c. c || is_touched rest q) e ∙ n)

      nothing : (q : Key) (t d : Bool) → is_eq (key_cmp q place) ≡ t → set_in a place ≡ None → cond d (lacked q) None ≡ cond (t || d) (lacked q) None
      nothing q true d e none = neither d
        where
          gone : lacked q ≡ None
          gone = sym (lacked_alike q place e) ∙ ap (λ o. except o (set_in b place)) none

          neither : (c : Bool) → cond c (lacked q) None ≡ lacked q
          neither true = refl
          neither false = sym gone
      nothing q false d e none = refl

      put : (s : RecordSet) (q : Key) (t d : Bool) → is_eq (key_cmp q place) ≡ t → set_in a place ≡ Some s → cond t (unless_empty (lacked_of (set_in b place) s)) (cond d (lacked q) None) ≡ cond (t || d) (lacked q) None
      put s q true d e some = sym (ap (λ o. except o (set_in b place)) some) ∙ lacked_alike q place e
      put s q false d e some = refl

      by : (o : Option RecordSet) → set_in a place ≡ o → Made rest (option_map_or (λ (s : RecordSet). put_at sets place (lacked_of (set_in b place) s)) o sets)
      by None e = record {
        ordered = m.ordered;
        done = now_done;
        found = λ q. m.found q ∙ nothing q (is_eq (key_cmp q place)) (m.done q) refl e;
        left = now_left;
      }
      by (Some s) e = record {
        ordered = good-put sets place (lacked_of (set_in b place) s) (fold-fold k.0) m.ordered;
        done = now_done;
        found = λ q. found-put sets place (lacked_of (set_in b place) s) q m.ordered ∙ ap (cond (is_eq (key_cmp q place)) (unless_empty (lacked_of (set_in b place) s))) (m.found q) ∙ put s q (is_eq (key_cmp q place)) (m.done q) refl e;
        left = now_left;
      }

  all_made : (keys : List Key) (sets : Sets) → Made keys sets → lacked_at a b sets keys ≡ without a b
  all_made [] sets m =
      equal_from_found sets (without a b) m.ordered (good-without a b good)
      (λ q. m.found q ∙ ap (λ c. cond c (lacked q) None) (m.left q refl) ∙ sym (found-without a b q good))
  all_made (k ∷ keys) sets m = all_made keys (with_lacked a b sets (folded k)) (next_made k keys sets m)

  -- the keys that cover two maps find all that the one has and the other lacks
  pub lacked_is_without : (keys : List Key) → Covers keys a b → lacked_at a b [] keys ≡ without a b
  lacked_is_without keys h = all_made keys [] (first_made keys h)
