-- Faults, key by key.
use Rattle.std.proofs.Common.{◌≡◌, true, not, if◌then◌else◌, append-nil, List, [], ◌∷◌, ◌++◌, refl, sym, ap, ◌∙◌, append_assoc, Option, Some, None, option_map}
use Rattle.std.specs.List.{cons_option, list_all}
use Rattle.std.specs.Map.{keys_of}
use Rattle.std.specs.Cmp.{first_so, second_so}
use Rattle.dns_name.specs.Names.{Name, under}
use Rattle.zone_model.specs.Version.{Key}
use Rattle.zone_model.specs.Classify.{Kind, Normal}
use Rattle.zone_values.specs.declared.record_errors.ContextError.{ContextError}
use Rattle.zone_values.specs.declared.record_errors.ContextError.TheVariants.{OutOfZone}
use Rattle.zone_records.specs.Parsed.{Parsed}
use Rattle.zone_records.specs.Faults.{fault_at, faults_at, faults_of, with_fault}

-- one key more
pub fault_step : (p : Parsed) (kind : Kind) (found : List (Name × ContextError)) (k : Key) (ks : List Key) → with_fault found k (fault_at p kind k) ++ faults_at p kind ks ≡ found ++ faults_at p kind (k ∷ ks)
fault_step p kind found k ks = by (fault_at p kind k)
  where
    by : (o : Option ContextError) → with_fault found k o ++ faults_at p kind ks ≡ found ++ cons_option (option_map (λ (why : ContextError). (k.0, why)) o) (faults_at p kind ks)
    by None = refl
    by (Some why) = append_assoc found ((k.0, why) ∷ []) (faults_at p kind ks)

pub with_one : (found after : List (Name × ContextError)) (k : Key) (o : Option ContextError) (name : Name) (why : ContextError) → Some why ≡ o → name ≡ k.0 → after ≡ found ++ (name, why) ∷ [] → after ≡ with_fault found k o
with_one found after k o name why h n e = e ∙ (λ i. found ++ (n i, why) ∷ []) ∙ ap (with_fault found k) h

pub with_none : (found : List (Name × ContextError)) (k : Key) (o : Option ContextError) → ◌≡◌ {A = Option ContextError} None o → found ≡ with_fault found k o
with_none found k o h = ap (with_fault found k) h

-- where all owners of normal sets are in the zone, none of these sets is told
pub none_outside : (p : Parsed) (found : List (Name × ContextError)) → list_all (λ (k : Key). under k.0 p.origin) (keys_of p.normal) ≡ true → found ≡ found ++ faults_of p Normal
none_outside p found h = sym (append-nil found) ∙ ap (λ l. found ++ l) (sym (none (keys_of p.normal) h))
  where
    none : (ks : List Key) → list_all (λ (k : Key). under k.0 p.origin) ks ≡ true → faults_at p Normal ks ≡ []
    none [] g = refl
    none (k ∷ ks) g =
        ap (λ b. cons_option (option_map (λ (why : ContextError). (k.0, why)) (if not b then Some (OutOfZone k.1) else None)) (faults_at p Normal ks)) (first_so (under k.0 p.origin) (list_all (λ (l : Key). under l.0 p.origin) ks) g)
        ∙ none ks (second_so (under k.0 p.origin) (list_all (λ (l : Key). under l.0 p.origin) ks) g)
