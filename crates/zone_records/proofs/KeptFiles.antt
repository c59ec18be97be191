-- What is held of a zone file decides and takes records as the file does.
use Rattle.std.proofs.Common.{◌≡◌, ℕ, ◌==◌, Bool, true, false, cond, ◌&&◌, ◌||◌, not, if◌then◌else◌, List, [], ◌∷◌, ◌++◌, map, filter, fold as fold_list, refl, sym, ap, ◌∙◌, true≢false, Option, Some, None, Result, Ok, Err}
use Rattle.std.specs.Option.{option_or}
use Rattle.std.specs.List.{list_any}
use Rattle.std.proofs.lemmas.List.Sums.{fold-append}
use Rattle.std.proofs.lemmas.List.{append-nil}
use Rattle.std.proofs.lemmas.List.Elements.{filter-append}
use Rattle.dns_name.specs.Names.{Name, same_name}
use Rattle.dns_name.specs.Records.{Record}
use Rattle.dns_numbers.specs.Codes.{type_ns, type_ds}
use Rattle.zone_model.specs.Version.{Sets, Version}
use Rattle.zone_model.specs.Classify.{ZoneFile, Kind, Normal, Cut, Alias, Outside, BadRecord, ClassMismatch, IllegalZoneCut, IllegalRecord, IllegalCname, MultipleCnames, RecordVerdict, Accepted, Rejected, kind_of, same_kind, types_at, is_address, normal_at, no_glue_at, cut_at, alias_at, refuse_if, classify_as, classify, opened_with}
use Rattle.zone_records.specs.Parsed.{Parsed, sets_of, kept, with_record}
use Rattle.zone_records.specs.Taking.{types_in, least_in, no_glue_in, cut_in, verdict_in, verdict_as, put_to, taken_in, taken_by, take}
use Rattle.zone_records.proofs.Lowest.{is_in, least_alike, filtered_alike, find_alike}
use Rattle.zone_records.proofs.TypesIn.{has_type, has_in_types}
use Rattle.zone_records.proofs.Putting.{put_record, put_is, sets_after, types_after}

-- ---- the types at an owner

listed : (p q : Record → Bool) (t : ℕ) (rs : List Record) → is_in (map (λ (r : Record). r.rtype) (filter (λ r. p r && q r) rs)) t ≡ list_any (λ r. p r && (r.rtype == t)) (filter q rs)
listed p q t [] = refl
listed p q t (r ∷ rs) = by (p r) (q r) refl (listed p q t rs)
  where
    by : (a b : Bool) → p r ≡ a → is_in (map (λ (s : Record). s.rtype) (filter (λ s. p s && q s) rs)) t ≡ list_any (λ s. p s && (s.rtype == t)) (filter q rs)
        → is_in (map (λ (s : Record). s.rtype) (cond (a && b) (r ∷ filter (λ s. p s && q s) rs) (filter (λ s. p s && q s) rs))) t ≡ list_any (λ s. p s && (s.rtype == t)) (cond b (r ∷ filter q rs) (filter q rs))
    by true true e later = (λ i. (r.rtype == t) || later i) ∙ ap (λ c. (c && (r.rtype == t)) || list_any (λ s. p s && (s.rtype == t)) (filter q rs)) (sym e)
    by false true e later = later ∙ ap (λ c. (c && (r.rtype == t)) || list_any (λ s. p s && (s.rtype == t)) (filter q rs)) (sym e)
    by true false e later = later
    by false false e later = later

pub types_kept : (f : ZoneFile) (owner : Name) (kind : Kind) (t : ℕ) → is_in (types_in (sets_of f kind) owner) t ≡ is_in (types_at f owner kind) t
types_kept f owner kind t =
    let rs = filter (λ r. same_kind (kind_of f r) kind) f.accepted in
    has_in_types (sets_of f kind) owner t ∙ ap (λ (sets : Sets). has_type sets owner t) (sets_after rs (record { apex = f.apex; class = f.class; sets = [] })) ∙ types_after owner t rs []
    ∙ sym (listed (λ r. same_name r.owner owner) (λ r. same_kind (kind_of f r) kind) t f.accepted)

-- ---- the verdict

module _ (f : ZoneFile) (r : Record) where
  normal_kept : least_in (kept f).normal r.owner ≡ normal_at f r.owner
  normal_kept = least_alike (types_in (sets_of f Normal) r.owner) (types_at f r.owner Normal) (types_kept f r.owner Normal)

  no_glue_kept : no_glue_in (kept f).normal r.owner ≡ no_glue_at f r.owner
  no_glue_kept = filtered_alike (λ t. not (is_address t)) (types_in (sets_of f Normal) r.owner) (types_at f r.owner Normal) (types_kept f r.owner Normal)

  alias_kept : least_in (kept f).aliases r.owner ≡ alias_at f r.owner
  alias_kept = least_alike (types_in (sets_of f Alias) r.owner) (types_at f r.owner Alias) (types_kept f r.owner Alias)

  cut_kept : cut_in (kept f).cuts r.owner ≡ cut_at f r.owner
  cut_kept =
      let xs = types_in (sets_of f Cut) r.owner in
      let ys = types_at f r.owner Cut in
      (λ i. option_or (find_alike type_ds xs ys (types_kept f r.owner Cut) i) (find_alike type_ns xs ys (types_kept f r.owner Cut) i))

  verdict_as_kept : (kind : Kind) → verdict_as (kept f) r kind ≡ classify_as f r kind
  verdict_as_kept Outside = refl
  verdict_as_kept Cut = λ i. refuse_if IllegalZoneCut (no_glue_kept i) (refuse_if IllegalZoneCut (alias_kept i) (Accepted Cut))
  verdict_as_kept Alias = λ i. refuse_if IllegalCname (normal_kept i) (refuse_if IllegalCname (cut_kept i) (refuse_if (λ t. MultipleCnames) (alias_kept i) (Accepted Alias)))
  verdict_as_kept Normal = λ i. refuse_if IllegalRecord (if is_address r.rtype then None else cut_kept i) (refuse_if IllegalRecord (alias_kept i) (Accepted Normal))

  pub verdict_kept : verdict_in (kept f) r ≡ classify f r
  verdict_kept = ap (λ (v : RecordVerdict). if not (r.class == f.class) then Rejected ClassMismatch else v) (verdict_as_kept (kind_of f r))

  -- ---- what is taken

  abbrev empty : Version
  empty = record { apex = f.apex; class = f.class; sets = [] }

  abbrev is_of_kind : Kind → Record → Bool
  is_of_kind kind s = same_kind (kind_of f s) kind

  abbrev sets_from : List Record → Sets
  sets_from rs = (fold_list opened_with empty rs).sets

  one_more : (kind : Kind) → sets_of (with_record f r) kind ≡ (if same_kind (kind_of f r) kind then put_to (sets_of f kind) r else sets_of f kind)
  one_more kind = ap sets_from (filter-append (is_of_kind kind) f.accepted (r ∷ [])) ∙ by (is_of_kind kind r)
    where
      by : (b : Bool) → sets_from (filter (is_of_kind kind) f.accepted ++ cond b (r ∷ []) [])
          ≡ (if b then put_to (sets_from (filter (is_of_kind kind) f.accepted)) r else sets_from (filter (is_of_kind kind) f.accepted))
      by true =
          let rs = filter (is_of_kind kind) f.accepted in
          sets_after (rs ++ r ∷ []) empty ∙ fold-append put_record [] rs (r ∷ []) ∙ ap (λ (sets : Sets). put_record sets r) (sym (sets_after rs empty)) ∙ sym (put_is (sets_from rs) r)
      by false = ap sets_from (append-nil (filter (is_of_kind kind) f.accepted))

  pub taken_kept : taken_in (kept f) r (kind_of f r) ≡ kept (with_record f r)
  taken_kept = by (kind_of f r) refl
    where
      same : (k : Kind) → kind_of f r ≡ k → (kind : Kind) → (if same_kind k kind then put_to (sets_of f kind) r else sets_of f kind) ≡ sets_of (with_record f r) kind
      same k e kind = ap (λ c. if same_kind c kind then put_to (sets_of f kind) r else sets_of f kind) (sym e) ∙ sym (one_more kind)

      by : (k : Kind) → kind_of f r ≡ k → taken_in (kept f) r k ≡ kept (with_record f r)
      by Normal e = λ i. record { origin = f.apex; class = f.class; normal = same Normal e Normal i; cuts = same Normal e Cut i; aliases = same Normal e Alias i; outside = same Normal e Outside i }
      by Cut e = λ i. record { origin = f.apex; class = f.class; normal = same Cut e Normal i; cuts = same Cut e Cut i; aliases = same Cut e Alias i; outside = same Cut e Outside i }
      by Alias e = λ i. record { origin = f.apex; class = f.class; normal = same Alias e Normal i; cuts = same Alias e Cut i; aliases = same Alias e Alias i; outside = same Alias e Outside i }
      by Outside e = λ i. record { origin = f.apex; class = f.class; normal = same Outside e Normal i; cuts = same Outside e Cut i; aliases = same Outside e Alias i; outside = same Outside e Outside i }

-- a record is accepted as one of its kind
abbrev AcceptsOnly : Kind → RecordVerdict → Type 0
AcceptsOnly kind (Accepted k) = k ≡ kind
AcceptsOnly kind (Rejected why) = Unit {0}

only_if : (kind : Kind) (why : ℕ → BadRecord) (o : Option ℕ) (v : RecordVerdict) → AcceptsOnly kind v → AcceptsOnly kind (refuse_if why o v)
only_if kind why None v h = h
only_if kind why (Some t) v h = tt

only_as : (p : Parsed) (r : Record) (kind : Kind) → AcceptsOnly kind (verdict_as p r kind)
only_as p r Outside = refl
only_as p r Cut =
    let second = refuse_if IllegalZoneCut (least_in p.aliases r.owner) (Accepted Cut) in
    only_if Cut IllegalZoneCut (no_glue_in p.normal r.owner) second (only_if Cut IllegalZoneCut (least_in p.aliases r.owner) (Accepted Cut) refl)
only_as p r Alias =
    let third = refuse_if (λ t. MultipleCnames) (least_in p.aliases r.owner) (Accepted Alias) in
    let second = refuse_if IllegalCname (cut_in p.cuts r.owner) third in
    only_if Alias IllegalCname (least_in p.normal r.owner) second (only_if Alias IllegalCname (cut_in p.cuts r.owner) third (only_if Alias (λ t. MultipleCnames) (least_in p.aliases r.owner) (Accepted Alias) refl))
only_as p r Normal =
    let second = refuse_if IllegalRecord (least_in p.aliases r.owner) (Accepted Normal) in
    only_if Normal IllegalRecord (if is_address r.rtype then None else cut_in p.cuts r.owner) second (only_if Normal IllegalRecord (least_in p.aliases r.owner) (Accepted Normal) refl)

-- what is taken of a file's record is what is held of the file with it
pub take_kept : (f : ZoneFile) (r : Record) (q : Parsed) → take (kept f) r ≡ Ok q → q ≡ kept (with_record f r)
take_kept f r q h = by (r.class == f.class) (only_as (kept f) r (kind_of f r)) h
  where
    value : (x y : Parsed) → ◌≡◌ {A = Result Parsed BadRecord} (Ok x) (Ok y) → x ≡ y
    value x y e = ap (λ (t : Result Parsed BadRecord). elim t as (λ z. Parsed) [ Ok z ↦ z | Err w ↦ x ]) e

    no_value : (why : BadRecord) (y : Parsed) → ◌≡◌ {A = Result Parsed BadRecord} (Err why) (Ok y) → ⊥
    no_value why y e = true≢false (sym (ap (λ (t : Result Parsed BadRecord). elim t as (λ z. Bool) [ Ok z ↦ true | Err w ↦ false ]) e))

    of_kind : (v : RecordVerdict) → AcceptsOnly (kind_of f r) v → taken_by (kept f) r v ≡ Ok q → q ≡ kept (with_record f r)
    of_kind (Accepted k) only e = sym (value (taken_in (kept f) r k) q e) ∙ ap (taken_in (kept f) r) only ∙ taken_kept f r
    of_kind (Rejected why) only e = absurd (no_value why q e)

    by : (b : Bool) → AcceptsOnly (kind_of f r) (verdict_as (kept f) r (kind_of f r)) → taken_by (kept f) r (if not b then Rejected ClassMismatch else verdict_as (kept f) r (kind_of f r)) ≡ Ok q → q ≡ kept (with_record f r)
    by true only e = of_kind (verdict_as (kept f) r (kind_of f r)) only e
    by false only e = absurd (no_value ClassMismatch q e)
