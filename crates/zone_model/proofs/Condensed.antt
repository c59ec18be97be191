-- Differences of versions in a row, joined into one, lead from the first version to the last.
use Rattle.std.proofs.Common.{◌≡◌, ◌≤◌, Bool, true, false, ◌&&◌, ◌||◌, ◌==◌, not, List, [], ◌∷◌, ◌++◌, length, refl, sym, ap, ◌∙◌, subst, true≢false, Option, Some, None, is_some, unwrap_or, arith}
use Rattle.std.specs.List.{AllByRecursion, list_all, last_or}
use Rattle.std.specs.Cmp.{first_so, second_so}
use Rattle.std.specs.Cmp.Derive.{both_true}
use Rattle.dns_name.specs.Names.{Name, fold}
use Rattle.dns_name.specs.Records.{Field, same_data}
use Rattle.dns_numbers.specs.Codes.{type_cname}
use Rattle.zone_model.specs.Version.{RecordSet, Key, Version, IsValid, set_in, below_apex, all_differ}
use Rattle.zone_model.specs.Edits.{with_sets, add_all, delete_all, and_then}
use Rattle.zone_model.specs.Difference.{Difference, difference, condensed, records_in, apply_difference}
use Rattle.zone_model.specs.Offer.{successive}
use Rattle.zone_model.specs.TransferLaws.{LeadsTo}
use Rattle.zone_model.specs.Chains.{IsOf, CondensedLeads}
use Rattle.dns_name.specs.SameData.{same_data_equiv}
use Rattle.zone_model.proofs.Folded.{key_from_tie}
use Rattle.zone_model.proofs.Steps.{Does, items_of, more, cut, CanAdd, CanDelete, AliasOk, adding_all, entry_adds, entry_deletes, any-append, not_true}
use Rattle.zone_model.proofs.Phases.{phase, after, add_all-append, delete_all-append}
use Rattle.zone_model.proofs.Valid.{Kept, kept, found_entry, one_only}
use Rattle.zone_model.proofs.WholeText.{below_near}
use Rattle.zone_model.proofs.SameVersions.{any, any_alike, any-minus, any_here, Like, like_from_same, same_from_like, close_like}
use Rattle.zone_model.proofs.Differences.{Full, full_cut, full_alike, full_valid, items-cut, items-more, AlikeSets, none_left, first_data, put_together, left_over, ttl_cut}
use Rattle.zone_model.proofs.JoinedSets.{ttl_at, tie, Lacks, tie-turned, tie_same, or_nothing, or_turned}
use Rattle.zone_model.proofs.JoinedSides.{IsDiff, near_of, first_diff, chain_diff}

-- ---- applied

abbrev pub cut_at : Option RecordSet → Option RecordSet → Option RecordSet
cut_at b None = b
cut_at b (Some s) = cut s.ttl b s.items

abbrev pub more_at : Option RecordSet → Option RecordSet → Option RecordSet
more_at c None = c
more_at c (Some s) = more s.ttl c s.items

any_of_alike : (b v : Option RecordSet) → AlikeSets b v → (d : List Field) → any d (items_of b) ≡ any d (items_of v)
any_of_alike None None a d = refl
any_of_alike None (Some y) a d = absurd a
any_of_alike (Some x) None a d = absurd a
any_of_alike (Some x) (Some y) a d = a.items d

ttl_alike : (b v : Option RecordSet) → AlikeSets b v → (s : RecordSet) → b ≡ Some s → ttl_at v ≡ Some s.ttl
ttl_alike None v a s e = absurd (true≢false (sym (ap is_some e)))
ttl_alike (Some x) None a s e = absurd a
ttl_alike (Some x) (Some y) a s e = ap Some (sym a.ttl) ∙ ap ttl_at e

not_nothing : (p : Bool) → p ≡ (p && not false)
not_nothing true = refl
not_nothing false = refl

any-cut : (b r : Option RecordSet) (d : List Field) → any d (items_of (cut_at b r)) ≡ (any d (items_of b) && not (any d (items_of r)))
any-cut b None d = not_nothing (any d (items_of b))
any-cut b (Some s) d = ap (any d) (items-cut s.ttl b s.items) ∙ any-minus d s.items (items_of b)

any-more : (c a : Option RecordSet) (d : List Field) → any d (items_of (more_at c a)) ≡ (any d (items_of c) || any d (items_of a))
any-more c None d = or_nothing (any d (items_of c))
any-more c (Some s) d = ap (any d) (items-more s.ttl c s.items) ∙ any-append (same_data d) (items_of c) s.items

all_members : (r : List Field → Bool) (xs : List (List Field)) → ((x : List Field) → any x xs ≡ true → r x ≡ true) → list_all r xs ≡ true
all_members r [] h = refl
all_members r (x ∷ xs) h = both_true (h x (any_here x xs)) (all_members r xs (λ y e. h y (ap (λ b. same_data y x || b) e ∙ by (same_data y x))))
  where
    by : (p : Bool) → (p || true) ≡ true
    by true = refl
    by false = refl

module _ (b v w r a : Option RecordSet) (like : AlikeSets b v) (lr : Lacks r v w) (la : Lacks a w v) (fv : Full v) (fw : Full w) where
  abbrev pub mid : Option RecordSet
  mid = cut_at b r

  abbrev tied : Bool
  tied = tie (ttl_at v) (ttl_at w)

  any-mid : (d : List Field) → any d (items_of mid) ≡ (any d (items_of v) && (tied && any d (items_of w)))
  any-mid d = any-cut b r d ∙ (λ i. any_of_alike b v like d i && not (lr.holds_data d i)) ∙ left_over (any d (items_of v)) (tied && any d (items_of w))

  any-added : (d : List Field) → any d (items_of a) ≡ (any d (items_of w) && not (tied && any d (items_of v)))
  any-added d = la.holds_data d ∙ ap (λ t. any d (items_of w) && not (t && any d (items_of v))) (tie-turned (ttl_at w) (ttl_at v))

  any-new : (d : List Field) → any d (items_of (more_at mid a)) ≡ any d (items_of w)
  any-new d = any-more mid a d ∙ (λ i. any-mid d i || any-added d i) ∙ put_together (any d (items_of v)) tied (any d (items_of w))

  full-mid : Full mid
  full-mid = by r
    where
      by : (o : Option RecordSet) → Full (cut_at b o)
      by None = full_alike b v like fv
      by (Some s) = full_cut s.ttl b s.items (full_alike b v like fv)

  ttl-mid : (x : RecordSet) → mid ≡ Some x → ttl_at v ≡ Some x.ttl
  ttl-mid x e = by r refl e
    where
      by : (o : Option RecordSet) → r ≡ o → cut_at b o ≡ Some x → ttl_at v ≡ Some x.ttl
      by None q k = ttl_alike b v like x k
      by (Some s) q k =
          let at_v : ttl_at v ≡ Some s.ttl = lr.ttl s q in
          at_v ∙ ap Some (sym (ttl_cut s.ttl b s.items x (λ z f. ap (λ o. unwrap_or o 0) (sym (ttl_alike b v like z f) ∙ at_v)) k))

  -- what is added isn't there
  new_data : (d : List Field) → any d (items_of a) ≡ true → any d (items_of mid) ≡ false
  new_data d h = any-mid d ∙ by (any d (items_of v)) tied (any d (items_of w)) (sym (any-added d) ∙ h)
    where
      by : (x t y : Bool) → (y && not (t && x)) ≡ true → (x && (t && y)) ≡ false
      by false t y k = refl
      by true false y k = refl
      by true true true k = absurd (true≢false (sym k))
      by true true false k = refl

  pub leads_at : AlikeSets (more_at mid a) w
  leads_at = by w refl
    where
      none : w ≡ None → more_at mid a ≡ None
      none e = none_left (more_at mid a) (full a refl) (λ d. any-new d ∙ ap (λ o. any d (items_of o)) e)
        where
          full : (o : Option RecordSet) → a ≡ o → Full (more_at mid o)
          full None q = full-mid
          full (Some s) q = by s.items refl
            where
              by : (l : List (List Field)) → s.items ≡ l → Full (more s.ttl (cut_at b r) s.items)
              by [] p = subst (λ l. Full (more s.ttl (cut_at b r) l)) (sym p) full-mid
              by (x ∷ l) p = subst (λ l. Full (more s.ttl (cut_at b r) l)) (sym p) (last (items_of (cut_at b r)) x l)
                where
                  last : (xs : List (List Field)) (x : List Field) (l : List (List Field)) → 1 ≤ length (xs ++ x ∷ l)
                  last [] x l = omega arith
                  last (y ∷ xs) x l = omega arith

      by : (o : Option RecordSet) → w ≡ o → AlikeSets (more_at mid a) o
      by None e = subst (λ z. AlikeSets z None) (sym (none e)) tt
      by (Some s) e = arrives (more_at mid a) refl
        where
          d : (d : List Field) × (any d s.items ≡ true)
          d = first_data s.items (subst Full e fw)

          at_w : ttl_at w ≡ Some s.ttl
          at_w = ap ttl_at e

          first_in : (x : RecordSet) → more_at mid a ≡ Some x → any d.0 x.items ≡ true
          first_in x q = sym (ap (λ z. any d.0 (items_of z)) q) ∙ any-new d.0 ∙ ap (λ z. any d.0 (items_of z)) e ∙ d.1

          both_parts : (x t y : Bool) → (x && (t && y)) ≡ true → t ≡ true
          both_parts false t y k = absurd (true≢false (sym k))
          both_parts true t y k = first_so t y k

          ttl_is : (x : RecordSet) → more_at mid a ≡ Some x → (z : Option RecordSet) → a ≡ z → x.ttl ≡ s.ttl
          ttl_is x q None p =
              let is : mid ≡ Some x = sym (ap (more_at mid) p) ∙ q in
              let h : (any d.0 (items_of v) && (tied && any d.0 (items_of w))) ≡ true = sym (any-mid d.0) ∙ ap (λ z. any d.0 (items_of z)) is ∙ first_in x q in
              ap (λ z. unwrap_or z 0) (sym (ttl-mid x is) ∙ tie_same (ttl_at v) (ttl_at w) (both_parts (any d.0 (items_of v)) tied (any d.0 (items_of w)) h) ∙ at_w)
          ttl_is x q (Some t) p = from_added t.items refl (sym (ap (more_at mid) p) ∙ q)
            where
              from_added : (l : List (List Field)) → t.items ≡ l → more t.ttl (cut_at b r) t.items ≡ Some x → x.ttl ≡ s.ttl
              from_added [] f k = let n : 1 ≤ length t.items = subst Full p la.full in let m : length t.items ≡ 0 = ap length f in absurd (omega arith)
              from_added (y ∷ l) f k =
                  let same : t.ttl ≡ x.ttl = ap (λ z. unwrap_or (ttl_at z) 0) (sym (ap (more t.ttl (cut_at b r)) f) ∙ k) in
                  sym same ∙ ap (λ z. unwrap_or z 0) (sym (la.ttl t p) ∙ at_w)

          arrives : (z : Option RecordSet) → more_at mid a ≡ z → AlikeSets z (Some s)
          arrives None q = absurd (true≢false (sym d.1 ∙ sym (ap (λ z. any d.0 (items_of z)) e) ∙ sym (any-new d.0) ∙ ap (λ z. any d.0 (items_of z)) q))
          arrives (Some x) q = record { ttl = ttl_is x q a refl; items = λ y. sym (ap (λ z. any y (items_of z)) q) ∙ any-new y ∙ ap (λ z. any y (items_of z)) e }

  -- ---- what may be deleted and added

  pub can_delete_at : (s : RecordSet) (is_alias : Bool) → r ≡ Some s → CanDelete b is_alias s.items
  can_delete_at s is_alias e = record {
    stand = all_members (λ x. any x (items_of b)) s.items (λ x h. any_of_alike b v like x ∙ first_so (any x (items_of v)) _ (sym (lr.holds_data x) ∙ ap (λ o. any x (items_of o)) e ∙ h));
    differ = ap (λ o. all_differ (items_of o)) (sym e) ∙ lr.differ;
  }

  in_new : (d : List Field) → any d (items_of a) ≡ true → any d (items_of w) ≡ true
  in_new d h = first_so (any d (items_of w)) _ (sym (any-added d) ∙ h)

  pub can_add_at : (s : RecordSet) (is_alias : Bool) → a ≡ Some s → ((t : RecordSet) → w ≡ Some t → is_alias ≡ true → length t.items ≡ 1) → CanAdd mid is_alias s.items
  can_add_at s is_alias e one = record {
    fresh = all_members (λ x. not (any x (items_of mid))) s.items (λ x h. ap not (new_data x (ap (λ o. any x (items_of o)) e ∙ h)));
    differ = differ;
    alias = by s.items refl;
  }
    where
      differ : all_differ s.items ≡ true
      differ = ap (λ o. all_differ (items_of o)) (sym e) ∙ la.differ

      or_drop : (p : Bool) → (p || false) ≡ true → p ≡ true
      or_drop true h = refl
      or_drop false h = h

      no_more : (x d : List Field) (ds : List (List Field)) → ((y : List Field) → any y (d ∷ ds) ≡ true → same_data y x ≡ true) → all_differ (d ∷ ds) ≡ true → ds ≡ []
      no_more x d [] m h = refl
      no_more x d (f ∷ ds) m h =
          let at_d : same_data d x ≡ true = m d (any_here d (f ∷ ds)) in
          let at_f : same_data f x ≡ true = m f (ap (λ b. same_data f d || b) (any_here f ds) ∙ or_turned (same_data f d) true) in
          let same : same_data d f ≡ true = same_data_equiv.congr d x f at_d ∙ same_data_equiv.symm x f ∙ at_f in
          absurd (true≢false (sym (ap (λ b. b || any d ds) same) ∙ not_true (any d (f ∷ ds)) (first_so (not (any d (f ∷ ds))) _ h)))

      nothing_left : (x d : List Field) (t : RecordSet) → w ≡ Some t → t.items ≡ x ∷ [] → any d (items_of a) ≡ true → (y : List Field) → any y (items_of mid) ≡ false
      nothing_left x d t p f h y = at (any y (items_of mid)) refl
        where
          like_x : (z : List Field) → any z (items_of w) ≡ true → same_data z x ≡ true
          like_x z k = or_drop (same_data z x) (sym (ap (any z) f) ∙ sym (ap (λ o. any z (items_of o)) p) ∙ k)

          parts : (p t q : Bool) → (p && (t && q)) ≡ true → (p ≡ true) × (t ≡ true) × (q ≡ true)
          parts true true true k = (refl, refl, refl)
          parts true true false k = absurd (true≢false (sym k))
          parts true false q k = absurd (true≢false (sym k))
          parts false t q k = absurd (true≢false (sym k))

          at : (c : Bool) → any y (items_of mid) ≡ c → c ≡ false
          at false k = refl
          at true k =
              let p3 = parts (any y (items_of v)) tied (any y (items_of w)) (sym (any-mid y) ∙ k) in
              let same : same_data d y ≡ true = same_data_equiv.congr d x y (like_x d (in_new d h)) ∙ same_data_equiv.symm x y ∙ like_x y p3.2 in
              let in_v : any d (items_of v) ≡ true = any_alike d y same (items_of v) ∙ p3.0 in
              absurd (true≢false (sym (second_so (any d (items_of w)) _ (sym (any-added d) ∙ h)) ∙ (λ i. not (p3.1 i && in_v i))))

      by : (l : List (List Field)) → s.items ≡ l → AliasOk is_alias mid l
      by [] f = tt
      by (d ∷ ds) f = λ i. at i w refl
        where
          in_a : (y : List Field) → any y (d ∷ ds) ≡ true → any y (items_of a) ≡ true
          in_a y k = ap (λ o. any y (items_of o)) e ∙ ap (any y) f ∙ k

          at : is_alias ≡ true → (o : Option RecordSet) → w ≡ o → (mid ≡ None) × (ds ≡ [])
          at i None p = absurd (true≢false (sym (in_new d (in_a d (any_here d ds))) ∙ ap (λ o. any d (items_of o)) p))
          at i (Some t) p =
              let x = one_only t.items (one t p i) in (
                none_left mid full-mid (nothing_left x.0 d t p x.1 (in_a d (any_here d ds))),
                no_more x.0 d ds (λ y k. or_drop (same_data y x.0) (sym (ap (any y) x.1) ∙ sym (ap (λ o. any y (items_of o)) p) ∙ in_new y (in_a y k))) (ap all_differ (sym f) ∙ differ),
              )

-- ---- over whole versions

module _ (v w base : Version) (d : Difference) (hv : IsValid v) (hw : IsValid w) (near : fold v.apex ≡ fold w.apex) (l : Like base v) (p : IsDiff base.apex d v w) where
  abbrev all_items : Key → RecordSet → List (List Field)
  all_items k s = s.items

  abbrev the_same : Name → Name
  the_same n = n

  abbrev after_deletes : Key → Option RecordSet → Option RecordSet → Option RecordSet
  after_deletes = after delete_all delete_all-append cut CanDelete (λ x. refl) base (entry_deletes base) the_same (λ n. refl) base.class all_items (λ k q s e. refl)

  gone_now : Does delete_all base base.sets (records_in base d.removed) (λ q. after_deletes q (set_in base.sets q) (set_in d.removed q))
  gone_now = phase delete_all delete_all-append cut CanDelete (λ x. refl) base (entry_deletes base) the_same (λ n. refl) base.class all_items (λ k q s e. refl) d.removed p.removed.good p.removed.zone base.sets l.good
      (λ q s e. can_delete_at (set_in base.sets q) (set_in v.sets q) (set_in w.sets q) (set_in d.removed q) (set_in d.added q) (l.same q) (p.removed.lacks q) (p.added.lacks q) (full_valid v hv q) (full_valid w hw q) s (below_apex base q.0 && (q.1 == type_cname)) e)

  mid_is : (q : Key) → set_in gone_now.sets q ≡ cut_at (set_in base.sets q) (set_in d.removed q)
  mid_is q = gone_now.found q ∙ by (set_in d.removed q)
    where
      by : (o : Option RecordSet) → after_deletes q (set_in base.sets q) o ≡ cut_at (set_in base.sets q) o
      by None = refl
      by (Some s) = refl

  one_alias : (q : Key) (t : RecordSet) → set_in w.sets q ≡ Some t → (below_apex base q.0 && (q.1 == type_cname)) ≡ true → length t.items ≡ 1
  one_alias q t found e =
      let f = found_entry (Kept w) w.sets q t (kept w hw) found in
      let k = key_from_tie q f.key f.tied in
      f.holds_of.alias (sym (λ i. below_near base w q.0 f.key.0 (l.near ∙ near) k.0 i && (k.1 i == type_cname)) ∙ e)

  abbrev after_adds : Key → Option RecordSet → Option RecordSet → Option RecordSet
  after_adds = after add_all add_all-append more CanAdd (λ x. refl) base (entry_adds adding_all base) the_same (λ n. refl) base.class all_items (λ k q s e. refl)

  come_now : Does add_all base gone_now.sets (records_in base d.added) (λ q. after_adds q (set_in gone_now.sets q) (set_in d.added q))
  come_now = phase add_all add_all-append more CanAdd (λ x. refl) base (entry_adds adding_all base) the_same (λ n. refl) base.class all_items (λ k q s e. refl) d.added p.added.good p.added.zone gone_now.sets gone_now.good
      (λ q s e. subst (λ z. CanAdd z (below_apex base q.0 && (q.1 == type_cname)) s.items) (sym (mid_is q))
      (can_add_at (set_in base.sets q) (set_in v.sets q) (set_in w.sets q) (set_in d.removed q) (set_in d.added q) (l.same q) (p.removed.lacks q) (p.added.lacks q) (full_valid v hv q) (full_valid w hw q) s (below_apex base q.0 && (q.1 == type_cname)) e
      (one_alias q)))

  last_is : (q : Key) → set_in come_now.sets q ≡ more_at (cut_at (set_in base.sets q) (set_in d.removed q)) (set_in d.added q)
  last_is q = come_now.found q ∙ by (set_in d.added q) ∙ ap (λ z. more_at z (set_in d.added q)) (mid_is q)
    where
      by : (o : Option RecordSet) → after_adds q (set_in gone_now.sets q) o ≡ more_at (set_in gone_now.sets q) o
      by None = refl
      by (Some s) = refl

  arrives : Like (with_sets base come_now.sets) w
  arrives = record {
    near = l.near ∙ near;
    good = come_now.good;
    same = λ q. subst (λ z. AlikeSets z (set_in w.sets q)) (sym (last_is q))
        (leads_at (set_in base.sets q) (set_in v.sets q) (set_in w.sets q) (set_in d.removed q) (set_in d.added q) (l.same q) (p.removed.lacks q) (p.added.lacks q) (full_valid v hv q) (full_valid w hw q));
  }

  diff_leads : LeadsTo (apply_difference base d) base w
  diff_leads = record {
    sets = come_now.sets;
    makes = ap (λ o. and_then o (λ x. add_all x (records_in base d.added))) gone_now.done ∙ come_now.done;
    same = same_from_like (with_sets base come_now.sets) w hw arrives;
    closed = close_like (with_sets base come_now.sets) w hw arrives;
  }

last_of_all : (P : Version → Type 0) (w : Version) (more : List Version) (u : Version) → last_or (Some w) more ≡ Some u → AllByRecursion P (w ∷ more) → P u
last_of_all P w [] u e a = subst P (ap (λ o. unwrap_or o w) e) a.0
last_of_all P w (x ∷ more) u e a = last_of_all P x more u e a.1

pub condensed_leads : CondensedLeads
condensed_leads v w more u base a e same =
    let n : Name = base.apex in
    let pu : IsOf n u = last_of_all (IsOf n) w more u e a.1 in
    let chain = chain_diff n v w more (difference v w) u (first_diff n v w a.0 a.1.0) a.1 e in
    diff_leads v u base (condensed (difference v w) (successive (w ∷ more))) a.0.valid pu.valid (near_of n v a.0 ∙ sym (near_of n u pu)) (like_from_same base v a.0.valid (sym (near_of n v a.0)) same) chain
