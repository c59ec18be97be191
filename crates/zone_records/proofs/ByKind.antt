-- CNAMEs stay the aliases, each of one record, as records are taken.
use Rattle.std.proofs.Common.{◌≡◌, ℕ, ◌==◌, Bool, true, false, ◌&&◌, ◌||◌, not, if◌then◌else◌, List, [], ◌∷◌, length, refl, sym, ap, subst, ◌∙◌, true≢false, Option, Some, None, is_some, Result, Ok, Err, OnOk, OnErr, eqb-true}
use Rattle.std.specs.List.{list_all}
use Rattle.std.specs.Cmp.{first_so}
use Rattle.std.specs.Cmp.Derive.{both_true}
use Rattle.std.specs.BTreeMap.{insert_entry}
use Rattle.dns_name.specs.Names.{Name, fold, same_name, under}
use Rattle.dns_name.specs.Records.{Record}
use Rattle.dns_numbers.specs.Codes.{type_ns, type_cname, type_ds}
use Rattle.zone_model.specs.Version.{RecordSet, Sets, key_cmp, set_in}
use Rattle.zone_model.specs.Classify.{Kind, Normal, Cut, Alias, Outside, same_kind, BadRecord, ClassMismatch, IllegalZoneCut, IllegalRecord, IllegalCname, MultipleCnames, RecordVerdict, Accepted, Rejected, least, is_address, refuse_if}
use Rattle.zone_values.proofs.KeptTypes.{all_insert}
use Rattle.zone_records.specs.Parsed.{Parsed, is_no_alias, is_one_alias, IsByKind}
use Rattle.zone_records.specs.Taking.{types_in, least_in, no_glue_in, cut_in, kind_in, verdict_as, verdict_in, put_to, taken_in}
use Rattle.zone_records.proofs.Lowest.{is_in}
use Rattle.zone_records.proofs.TypesIn.{has_in_types}
use Rattle.zone_records.proofs.Putting.{key_of, set_with, put_is}

pub none_by_kind : IsByKind [] [] []
none_by_kind = (refl, refl, refl)

-- ---- one record more

put_other : (sets : Sets) (r : Record) → not (r.rtype == type_cname) ≡ true → list_all is_no_alias sets ≡ true → list_all is_no_alias (put_to sets r) ≡ true
put_other sets r t h =
    subst (λ (l : Sets). list_all is_no_alias l ≡ true) (sym (put_is sets r)) (all_insert is_no_alias sets (key_of r) (set_with r (set_in sets (key_of r))) t (λ e g q. g) h)

-- an owner without types has no set
absent : (sets : Sets) (owner : Name) (t : ℕ) → least_in sets owner ≡ None → set_in sets (fold owner, t) ≡ None
absent sets owner t h = by (types_in sets owner) (set_in sets (fold owner, t)) h (has_in_types sets owner t)
  where
    by : (ts : List ℕ) (o : Option RecordSet) → least ts ≡ None → is_in ts t ≡ is_some o → o ≡ None
    by [] None g e = refl
    by [] (Some s) g e = absurd (true≢false (sym e))
    by (u ∷ ts) o g e = absurd (true≢false (ap is_some g))

put_alias : (sets : Sets) (r : Record) → (r.rtype == type_cname) ≡ true → least_in sets r.owner ≡ None → list_all is_one_alias sets ≡ true → list_all is_one_alias (put_to sets r) ≡ true
put_alias sets r t none h =
    subst (λ (l : Sets). list_all is_one_alias l ≡ true)
    (sym (put_is sets r ∙ ap (λ o. insert_entry key_cmp sets (key_of r) (set_with r o)) (absent sets r.owner r.rtype none)))
    (all_insert is_one_alias sets (key_of r) (set_with r None) (both_true t refl) (λ e g q. both_true (first_so (e.0.1 == type_cname) (length e.1.items == 1) g) refl) h)

-- ---- by the verdict

-- what a record's kind tells of its type
abbrev HasType : Kind → ℕ → Type 0
HasType Normal t = not (t == type_cname) ≡ true
HasType Cut t = not (t == type_cname) ≡ true
HasType Alias t = (t == type_cname) ≡ true
HasType Outside t = Unit {0}

module _ (p : Parsed) (r : Record) where
  has_type : HasType (kind_in p r) r.rtype
  has_type = by (under r.owner p.origin) (r.rtype == type_ns) (r.rtype == type_ds) (same_name r.owner p.origin) (r.rtype == type_cname) refl refl refl
    where
      other : (t : ℕ) → (r.rtype == t) ≡ true → not (r.rtype == type_cname) ≡ not (t == type_cname)
      other t h = ap (λ n. not (n == type_cname)) (eqb-true r.rtype t h)

      by : (u n d s c : Bool) → (r.rtype == type_ns) ≡ n → (r.rtype == type_ds) ≡ d → (r.rtype == type_cname) ≡ c → HasType (if not u then Outside else if (n || d) && not s then Cut else if c then Alias else Normal) r.rtype
      by false n d s c hn hd hc = tt
      by true true d false c hn hd hc = other type_ns hn
      by true false true false c hn hd hc = other type_ds hd
      by true true d true true hn hd hc = hc
      by true true d true false hn hd hc = ap not hc
      by true false true true true hn hd hc = hc
      by true false true true false hn hd hc = ap not hc
      by true false false s true hn hd hc = hc
      by true false false s false hn hd hc = ap not hc

  -- an accepted record keeps them so
  abbrev Keeps : RecordVerdict → Type 0
  Keeps (Accepted kind) = let q = taken_in p r kind in IsByKind q.normal q.cuts q.aliases
  Keeps (Rejected why) = Unit {0}

  keeps_if : (why : ℕ → BadRecord) (o : Option ℕ) (v : RecordVerdict) → (o ≡ None → Keeps v) → Keeps (refuse_if why o v)
  keeps_if why None v h = h refl
  keeps_if why (Some t) v h = tt

  keeps_as : (kind : Kind) → HasType kind r.rtype → IsByKind p.normal p.cuts p.aliases → Keeps (verdict_as p r kind)
  keeps_as Outside t h = h
  keeps_as Cut t h =
      keeps_if IllegalZoneCut (no_glue_in p.normal r.owner) (refuse_if IllegalZoneCut (least_in p.aliases r.owner) (Accepted Cut))
      (λ n. keeps_if IllegalZoneCut (least_in p.aliases r.owner) (Accepted Cut) (λ a. (h.0, put_other p.cuts r t h.1, h.2)))
  keeps_as Alias t h =
      let third = refuse_if (λ t. MultipleCnames) (least_in p.aliases r.owner) (Accepted Alias) in
      keeps_if IllegalCname (least_in p.normal r.owner) (refuse_if IllegalCname (cut_in p.cuts r.owner) third)
      (λ n. keeps_if IllegalCname (cut_in p.cuts r.owner) third (λ c. keeps_if (λ t. MultipleCnames) (least_in p.aliases r.owner) (Accepted Alias) (λ a. (h.0, h.1, put_alias p.aliases r t a h.2))))
  keeps_as Normal t h =
      keeps_if IllegalRecord (if is_address r.rtype then None else cut_in p.cuts r.owner) (refuse_if IllegalRecord (least_in p.aliases r.owner) (Accepted Normal))
      (λ c. keeps_if IllegalRecord (least_in p.aliases r.owner) (Accepted Normal) (λ a. (put_other p.normal r t h.0, h.1, h.2)))

  keeps : IsByKind p.normal p.cuts p.aliases → Keeps (verdict_in p r)
  keeps h = by (r.class == p.class)
    where
      by : (b : Bool) → Keeps (if not b then Rejected ClassMismatch else verdict_as p r (kind_in p r))
      by true = keeps_as (kind_in p r) has_type h
      by false = tt

  pub taken_by_kind : (kind : Kind) → Accepted kind ≡ verdict_in p r → IsByKind p.normal p.cuts p.aliases → IsByKind (taken_in p r kind).normal (taken_in p r kind).cuts (taken_in p r kind).aliases
  taken_by_kind kind e h = subst Keeps (sym e) (keeps h)

-- a record that is accepted as of another kind than those outside is in the zone
pub accepted_in : (p : Parsed) (r : Record) (kind : Kind) → same_kind kind Outside ≡ false → Accepted kind ≡ verdict_in p r → under r.owner p.origin ≡ true
accepted_in p r kind other e = by (under r.owner p.origin) (r.class == p.class) refl refl
  where
    kind_told : RecordVerdict → Kind
    kind_told (Accepted k) = k
    kind_told (Rejected why) = Normal

    by : (u c : Bool) → under r.owner p.origin ≡ u → (r.class == p.class) ≡ c → u ≡ true
    by true c h g = refl
    by false true h g =
        let outside : verdict_in p r ≡ Accepted Outside
        = ap (λ b. if not b then Rejected ClassMismatch else verdict_as p r (kind_in p r)) g
        ∙ ap (λ u. verdict_as p r (if not u then Outside else if ((r.rtype == type_ns) || (r.rtype == type_ds)) && not (same_name r.owner p.origin) then Cut else if r.rtype == type_cname then Alias else Normal)) h in
        absurd (true≢false (sym (ap (λ k. same_kind k Outside) (ap kind_told (e ∙ outside))) ∙ other))
    by false false h g =
        let refused : verdict_in p r ≡ Rejected ClassMismatch = ap (λ b. if not b then Rejected ClassMismatch else verdict_as p r (kind_in p r)) g in
        absurd (true≢false (ap is_accepted (e ∙ refused)))
      where
        is_accepted : RecordVerdict → Bool
        is_accepted (Accepted k) = true
        is_accepted (Rejected why) = false

-- what holds of sets as they were, and of those that are made, holds after a call that makes them or not
pub either : {T E : Type 0} (P : Sets → Type 0) (result : Result T E) (new made old : Sets) → OnOk result (new ≡ made) → OnErr result (new ≡ old) → P made → P old → P new
either P (Ok x) new made old o e m b = subst P (sym o) m
either P (Err x) new made old o e m b = subst P (sym e) b
