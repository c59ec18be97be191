-- The laws of a difference, as it is applied at once and as a transfer applies it.
use Rattle.std.proofs.Common.{◌≡◌, ℕ, Bool, true, false, cond, ◌==◌, not, if◌then◌else◌, List, [], ◌∷◌, ◌++◌, filter, flat_map, length, refl, sym, ap, ◌∙◌, subst, true≢false, Equal, is_eq, Option, Some, None, eq-eqb, ne_eqb, arith}
use Rattle.std.specs.List.{cons_option}
use Rattle.std.specs.Cmp.{Equal-is}
use Rattle.std.specs.BTreeMap.{insert_entry}
use Rattle.std.proofs.lemmas.List.Elements.{filter-append}
use Rattle.dns_name.specs.Names.{Name, fold}
use Rattle.dns_name.specs.Records.{Field, Record}
use Rattle.dns_numbers.specs.Codes.{type_soa}
use Rattle.zone_model.specs.Version.{RecordSet, Key, Sets, Version, IsValid, key_cmp, set_in}
use Rattle.zone_model.specs.Answer.{records_of}
use Rattle.zone_model.specs.Walk.{shown_owner}
use Rattle.zone_model.specs.Edits.{with_sets, add_all, delete_all, and_then}
use Rattle.zone_model.specs.Difference.{difference, entry_without, without, apply_difference}
use Rattle.zone_model.specs.TransferText.{is_plain}
use Rattle.zone_model.specs.Offer.{side_records}
use Rattle.zone_model.specs.Spells.{apply_batch, apply_new}
use Rattle.zone_model.specs.TransferLaws.{LeadsTo, DifferenceApplies, DifferenceLeads, IsSoaOf, batch_of}
use Rattle.zone_model.proofs.Folded.{key_total, fold-fold, key_from_tie, same_name-Decides}
use Rattle.zone_model.proofs.Ordered.{Alike, find_alike}
use Rattle.zone_model.proofs.Steps.{Good, set_of, found-insert, good-insert}
use Rattle.zone_model.proofs.Phases.{recs, shown_folds}
use Rattle.zone_model.proofs.Valid.{OneSoa, one_soa}
use Rattle.zone_model.proofs.WholeText.{filter_all, filter_none, soa_at_apex}
use Rattle.zone_model.proofs.SameVersions.{SameSet, Like, like_from_same, same_from_like, close_like}
use Rattle.zone_model.proofs.Differences.{lack, reduced, deleted, left, left_skipped, added, arrived}

-- ---- the records of a difference

abbrev lacking_of : Sets → Key → RecordSet → List (List Field)
lacking_of others k s = lack (set_in others k) s

abbrev shown_records : (Name → Name) → ℕ → Key × RecordSet → List Record
shown_records show cl e = records_of (show e.0.0) e.0.1 cl e.1

without_records : (show : Name → Name) (cl : ℕ) (others es : Sets) → flat_map (shown_records show cl) (without es others) ≡ flat_map (recs show cl (lacking_of others)) es
without_records show cl others [] = refl
without_records show cl others (e ∷ es) = by (lacking_of others e.0 e.1) refl ∙ ap (λ l. recs show cl (lacking_of others) e ++ l) (without_records show cl others es)
  where
    by : (l : List (List Field)) → lacking_of others e.0 e.1 ≡ l → flat_map (shown_records show cl) (cons_option (entry_without others e) (without es others)) ≡ recs show cl (lacking_of others) e ++ flat_map (shown_records show cl) (without es others)
    by [] p =
        ap (λ l. flat_map (shown_records show cl) (cons_option (if length l == 0 then None else Some (e.0, set_of e.1.ttl l)) (without es others))) p
        ∙ sym (ap (λ l. records_of (show e.0.0) e.0.1 cl (set_of e.1.ttl l) ++ flat_map (shown_records show cl) (without es others)) p)
    by (d ∷ ds) p =
        let some : (length (lacking_of others e.0 e.1) == 0) ≡ false = ap (λ l. length l == 0) p ∙ ne_eqb (length (d ∷ ds)) 0 (λ z. absurd (omega arith)) in
        ap (λ b. flat_map (shown_records show cl) (cons_option (if b then None else Some (e.0, set_of e.1.ttl (lacking_of others e.0 e.1))) (without es others))) some

abbrev is_soa_key : Key → Bool
is_soa_key k = k.1 == type_soa

plain_records : (show : Name → Name) (cl : ℕ) (g : Key → RecordSet → List (List Field)) (es : Sets) → filter is_plain (flat_map (recs show cl g) es) ≡ flat_map (recs show cl (λ k s. if is_soa_key k then [] else g k s)) es
plain_records show cl g [] = refl
plain_records show cl g (e ∷ es) = filter-append is_plain (recs show cl g e) (flat_map (recs show cl g) es) ∙ (λ i. by (e.0.1 == type_soa) refl i ++ plain_records show cl g es i)
  where
    f : List Field → Record
    f d = record { owner = show e.0.0; rtype = e.0.1; class = cl; ttl = e.1.ttl; fields = d }

    by : (b : Bool) → (e.0.1 == type_soa) ≡ b → filter is_plain (recs show cl g e) ≡ records_of (show e.0.0) e.0.1 cl (set_of e.1.ttl (if b then [] else g e.0 e.1))
    by true is = filter_none is_plain (λ d. record { owner = show e.0.0; rtype = e.0.1; class = cl; ttl = e.1.ttl; fields = d }) (g e.0 e.1) (λ d. ap not is)
    by false is = filter_all is_plain (λ d. record { owner = show e.0.0; rtype = e.0.1; class = cl; ttl = e.1.ttl; fields = d }) (g e.0 e.1) (λ d. ap not is)

pub side_is : (u : Version) (es others : Sets) → side_records u (without es others) ≡ flat_map (recs (shown_owner u) u.class (λ k s. if is_soa_key k then [] else lacking_of others k s)) es
side_is u es others = ap (filter is_plain) (without_records (shown_owner u) u.class others es) ∙ plain_records (shown_owner u) u.class (lacking_of others) es

-- ---- at once

module _ (v w base : Version) (hv : IsValid v) (hw : IsValid w) (near : fold v.apex ≡ fold w.apex) (l : Like base v) where
  abbrev none_skipped : Key → Bool
  none_skipped k = false

  abbrev mid : Sets
  mid = (deleted v w base hv hw near l (λ n. n) (λ n. refl) base.class none_skipped (λ k q e. refl)).sets

  at_once : LeadsTo (apply_difference base (difference v w)) base w
  at_once =
      let show : Name → Name = λ n. n in
      let d = deleted v w base hv hw near l (λ n. n) (λ n. refl) base.class none_skipped (λ k q e. refl) in
      let rest = left v w base hv hw near l (λ n. n) (λ n. refl) base.class none_skipped (λ k q e. refl) in
      let a = added v w base hv hw near l (λ n. n) (λ n. refl) base.class none_skipped (λ k q e. refl) d.sets d.good rest (λ q e. absurd (true≢false (sym e))) in
      let like = arrived v w base hv hw near l (λ n. n) (λ n. refl) base.class none_skipped (λ k q e. refl) d.sets d.good rest (λ q e. absurd (true≢false (sym e))) in
      record {
        sets = a.sets;
        makes = (λ i. and_then (delete_all base (without_records (λ n. n) base.class w.sets v.sets i)) (λ x. add_all x (without_records (λ n. n) base.class v.sets w.sets i)))
            ∙ ap (λ r. and_then r (λ x. add_all x (flat_map (recs (λ n. n) base.class (lacking_of v.sets)) w.sets))) d.done ∙ a.done;
        same = same_from_like (with_sets base a.sets) w hw like;
        closed = close_like (with_sets base a.sets) w hw like;
      }

pub difference_applies : DifferenceApplies
difference_applies v w base hv hw near same_apex same =
    at_once v w base hv hw ((same_name-Decides v.apex w.apex).0 near) (like_from_same base v hv ((same_name-Decides base.apex v.apex).0 same_apex) same)

-- ---- as a transfer does

soa_ties : (k q : Key) → key_cmp k q ≡ Equal → is_soa_key k ≡ is_soa_key q
soa_ties k q e = ap (λ (n : ℕ). n == type_soa) (key_from_tie k q e).1

module _ (u v w base : Version) (hv : IsValid v) (hw : IsValid w) (near : fold v.apex ≡ fold w.apex) (l : Like base v) (ov : OneSoa v) (ow : OneSoa w) (new : Record) (is : IsSoaOf w new) where
  abbrev kept_sets : Sets
  kept_sets = (deleted v w base hv hw near l (shown_owner u) (shown_folds u) u.class is_soa_key soa_ties).sets

  abbrev soa_key : Key
  soa_key = (fold base.apex, type_soa)

  abbrev soa_set : RecordSet
  soa_set = set_of new.ttl (new.fields ∷ [])

  abbrev mid_sets : Sets
  mid_sets = insert_entry key_cmp kept_sets soa_key soa_set

  other_type : (q : Key) → is_soa_key q ≡ false → is_eq (key_cmp q soa_key) ≡ false
  other_type q n = by (is_eq (key_cmp q soa_key)) refl
    where
      by : (b : Bool) → is_eq (key_cmp q soa_key) ≡ b → b ≡ false
      by true p = absurd (true≢false (sym (eq-eqb q.1 type_soa (key_from_tie q soa_key ((Equal-is (key_cmp q soa_key)).0 p)).1) ∙ n))
      by false p = refl

  rest : (q : Key) → is_soa_key q ≡ false → set_in mid_sets q ≡ reduced (set_in v.sets q) (set_in w.sets q) (set_in base.sets q)
  rest q n =
      found-insert kept_sets soa_key soa_set q ∙ ap (λ b. cond b (Some soa_set) (set_in kept_sets q)) (other_type q n)
      ∙ left v w base hv hw near l (shown_owner u) (shown_folds u) u.class is_soa_key soa_ties q n

  -- no SOA set stands elsewhere
  none_elsewhere : (x : Version) → OneSoa x → fold base.apex ≡ fold x.apex → (q : Key) → is_soa_key q ≡ true → is_eq (key_cmp q soa_key) ≡ false → set_in x.sets q ≡ None
  none_elsewhere x o e q n p = by (set_in x.sets q) refl
    where
      by : (z : Option RecordSet) → set_in x.sets q ≡ z → z ≡ None
      by None f = refl
      by (Some s) f = absurd (true≢false (sym (ap is_eq (ap (λ (a : Name). key_cmp q (a, type_soa)) e ∙ soa_at_apex x o q s f n)) ∙ p))

  skipped : (q : Key) → is_soa_key q ≡ true → Alike key_total SameSet (set_in mid_sets q) (set_in w.sets q)
  skipped q n = subst (λ z. Alike key_total SameSet z (set_in w.sets q)) (sym (found-insert kept_sets soa_key soa_set q)) (by (is_eq (key_cmp q soa_key)) refl)
    where
      by : (b : Bool) → is_eq (key_cmp q soa_key) ≡ b → Alike key_total SameSet (cond b (Some soa_set) (set_in kept_sets q)) (set_in w.sets q)
      by true p =
          let there : set_in w.sets q ≡ Some soa_set = find_alike key_total w.sets q soa_key ((Equal-is (key_cmp q soa_key)).0 p) ∙ ap (λ (a : Name). set_in w.sets (a, type_soa)) (l.near ∙ near) ∙ is in
          subst (λ z. Alike key_total SameSet (Some soa_set) z) (sym there) (record { ttl = refl; items = λ d. refl })
      by false p =
          let old : Alike key_total SameSet (set_in base.sets q) None = subst (λ z. Alike key_total SameSet (set_in base.sets q) z) (none_elsewhere v ov l.near q n p) (l.same q) in
          let now : Alike key_total SameSet (set_in kept_sets q) None = subst (λ z. Alike key_total SameSet z None) (sym (left_skipped v w base hv hw near l (shown_owner u) (shown_folds u) u.class is_soa_key soa_ties q n)) old in
          subst (λ z. Alike key_total SameSet (set_in kept_sets q) z) (sym (none_elsewhere w ow (l.near ∙ near) q n p)) now

  pub in_turn : (old : Record) → LeadsTo (apply_batch base (batch_of u (difference v w) old new)) base w
  in_turn old =
      let d = deleted v w base hv hw near l (shown_owner u) (shown_folds u) u.class is_soa_key soa_ties in
      let good : Good mid_sets = good-insert kept_sets soa_key soa_set (fold-fold base.apex) d.good in
      let a = added v w base hv hw near l (shown_owner u) (shown_folds u) u.class is_soa_key soa_ties mid_sets good rest skipped in
      let like = arrived v w base hv hw near l (shown_owner u) (shown_folds u) u.class is_soa_key soa_ties mid_sets good rest skipped in
      record {
        sets = a.sets;
        makes = (λ i. and_then (delete_all base (side_is u v.sets w.sets i)) (λ x. apply_new x (side_is u w.sets v.sets i) (Some new)))
            ∙ ap (λ r. and_then r (λ x. apply_new x (flat_map (recs (shown_owner u) u.class (λ k s. if is_soa_key k then [] else lacking_of v.sets k s)) w.sets) (Some new))) d.done ∙ a.done;
        same = same_from_like (with_sets base a.sets) w hw like;
        closed = close_like (with_sets base a.sets) w hw like;
      }

pub difference_leads : DifferenceLeads
difference_leads u v w base old new hv hw one_v one_w near same_apex same is =
    in_turn u v w base hv hw ((same_name-Decides v.apex w.apex).0 near) (like_from_same base v hv ((same_name-Decides base.apex v.apex).0 same_apex) same) (one_soa v hv one_v) (one_soa w hw one_w) new is old
