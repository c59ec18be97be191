-- The first SOA set of some sets, and a set at an index.
use Rattle.std.proofs.Common.{◌≡◌, ℕ, ◌==◌, Bool, true, false, cond, [], ◌∷◌, map, find, refl, ap, ◌∙◌, Option, Some, option_map}
use Rattle.dns_numbers.specs.Codes.{type_soa}
use Rattle.zone_model.specs.Version.{RecordSet, Key, Sets}
use Rattle.zone_values.specs.TypedSets.{TypedSet}
use Rattle.zone_values.specs.TypedEntries.{item_of}
use Rattle.zone_values.proofs.KeptTypes.{TypedEntries}
use Rattle.zone_diffs.specs.Building.{first_serial, set_serial}

-- the serial of the first SOA set, of sets with their type
abbrev pub first_typed : TypedEntries → Option ℕ
first_typed es = option_map (λ (e : Key × TypedSet). set_serial e.1.contents) (find (λ (e : Key × TypedSet). e.0.1 == type_soa) es)

pub first_of_items : (sets : Sets) → first_typed (map item_of sets) ≡ first_serial sets
first_of_items [] = refl
first_of_items (e ∷ es) = by (e.0.1 == type_soa) (first_of_items es)
  where
    by : (b : Bool) → first_typed (map item_of es) ≡ first_serial es
        → option_map (λ (e : Key × TypedSet). set_serial e.1.contents) (cond b (Some (item_of e)) (find (λ (e : Key × TypedSet). e.0.1 == type_soa) (map item_of es)))
        ≡ option_map (λ (e : Key × RecordSet). set_serial e.1) (cond b (Some e) (find (λ (e : Key × RecordSet). e.0.1 == type_soa) es))
    by true later = refl
    by false later = later

pub first_here : (es rest : TypedEntries) (k : Key) (s : TypedSet) → es ≡ (k, s) ∷ rest → (k.1 == type_soa) ≡ true → first_typed es ≡ Some (set_serial s.contents)
first_here es rest k s e h = ap first_typed e ∙ ap (λ b. option_map (λ (x : Key × TypedSet). set_serial x.1.contents) (cond b (Some (k, s)) (find (λ (x : Key × TypedSet). x.0.1 == type_soa) rest))) h

pub first_behind : (es rest : TypedEntries) (k : Key) (s : TypedSet) → es ≡ (k, s) ∷ rest → (k.1 == type_soa) ≡ false → first_typed es ≡ first_typed rest
first_behind es rest k s e h = ap first_typed e ∙ ap (λ b. option_map (λ (x : Key × TypedSet). set_serial x.1.contents) (cond b (Some (k, s)) (find (λ (x : Key × TypedSet). x.0.1 == type_soa) rest))) h
