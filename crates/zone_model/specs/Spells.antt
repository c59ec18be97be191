-- The versions that a transfer text spells on a base version (RFC 5936, 3; RFC 1995, 4).
use Rattle.std.specs.Prelude.{◌&&◌, if◌then◌else◌, List, [], ◌∷◌, Option, Some, None, Result, Ok, Err}
use Rattle.dns_name.specs.Names.{under}
use Rattle.dns_name.specs.Records.{Record}
use Rattle.zone_model.specs.Version.{Version}
use Rattle.zone_model.specs.Edits.{Refusal, with_sets, has_data, add, add_all, delete_all, set_soa, close, and_then}
use Rattle.zone_model.specs.TransferText.{Mode, Text, Whole, Changes, Batch, Ending, read_text}

-- the versions spelt, in order, and the refusal of the first record that can't be applied
pub record Spelling : Type 0 where
  pub versions : List Version
  pub fault : Option Refusal

abbrev pub no_versions : Spelling
no_versions = record { versions = []; fault = None }

abbrev pub refused : Refusal → Spelling
refused e = record { versions = []; fault = Some e }

abbrev pub version_then : Version → Spelling → Spelling
version_then v s = record { versions = v ∷ s.versions; fault = s.fault }

-- a record of a whole text: equal data are passed over (RFC 5936, 2.2)
abbrev pub add_new : Version → Record → Result Version Refusal
add_new v r = if under r.owner v.apex && has_data v r then Ok v else add v r

abbrev pub add_all_new : Version → List Record → Result Version Refusal
add_all_new v [] = Ok v
add_all_new v (r ∷ more) = and_then (add_new v r) (λ w. add_all_new w more)

-- a whole text spells one version, once its end stands
abbrev pub spell_whole : Option Ending → Result Version Refusal → Spelling
spell_whole end (Err e) = refused e
spell_whole None (Ok v) = no_versions
spell_whole (Some end) (Ok v) = version_then (close (set_soa v end.last)) no_versions

-- the second half of a batch: the new SOA, then adds
abbrev pub apply_new : Version → List Record → Option Record → Result Version Refusal
apply_new v adds None = Ok v
apply_new v adds (Some soa) = add_all (set_soa v soa) adds

-- a batch as far as it goes
abbrev pub apply_batch : Version → Batch → Result Version Refusal
apply_batch v b = and_then (delete_all v b.deletes) (λ w. apply_new w b.adds b.new)

-- each batch spells the version before it, and the end the one after them all; none has DS without NS
abbrev pub spell_changes : List Batch → Option Ending → Result Version Refusal → Spelling
spell_changes batches end (Err e) = refused e
spell_changes [] None (Ok v) = no_versions
spell_changes [] (Some end) (Ok v) = version_then (close (set_soa v end.last)) no_versions
spell_changes (b ∷ more) end (Ok v) = version_then (close v) (spell_changes more end (apply_batch (close v) b))

-- what a text spells on the base version
abbrev pub spell_text : Version → Text → Spelling
spell_text base (Whole s middle end) = spell_whole end (add_all_new (with_sets base []) middle)
spell_text base (Changes s batches end) = spell_changes batches end (Ok base)

-- what a list of records spells in answer to a question of this mode
abbrev pub spelling : Mode → List Record → Version → Spelling
spelling mode [] base = no_versions
spelling mode (s ∷ more) base = spell_text base (read_text mode s more)
