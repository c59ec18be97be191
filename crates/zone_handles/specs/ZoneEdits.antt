-- What an edit makes of the version that is pending (RFC 2136, 3.4.2; RFC 1034, 3.6.2 and 4.2.1).
use Rattle.std.specs.Prelude.{ℕ, Bool, true, false, ◌&&◌, ◌==◌, nat_lt, not, if◌then◌else◌, List, [], ◌∷◌, length, Option, Some, None, Result, Ok, is_ok, option_map}
use Rattle.std.specs.Option.{option_map_or}
use Rattle.dns_name.specs.Names.{Name, name_wire}
use Rattle.dns_numbers.specs.Codes.{type_ns, type_cname, type_ds}
use Rattle.dns_rdata.specs.DataFields.{soa_fields}
use Rattle.zone_model.specs.Version.{RecordSet, Version, below_apex}
use Rattle.zone_model.specs.Edits.{Refusal, add, delete, with_sets, remove_set, replace_set, clear, make_plain, make_alias, make_cut}
use Rattle.zone_values.specs.TypedSets.{TypedSet}
use Rattle.zone_values.specs.declared.zone_cut.ZoneCut.{ZoneCut}
use Rattle.zone_versions.specs.Puts.{with_soa}
use Rattle.zone_handles.specs.declared.zone_edits.NodeEdit.{NodeEdit}
use Rattle.zone_handles.specs.declared.zone_edits.NodeEdit.TheVariants.{PutSet, RemoveSet, MakeRegular, MakeCname, MakeZoneCut, RemoveAll}
use Rattle.zone_handles.specs.declared.zone_edits.ZoneEdit.{ZoneEdit}
use Rattle.zone_handles.specs.declared.zone_edits.ZoneEdit.TheVariants.{Add, Delete, PutSoa, ClearAll, Node}

-- whether a label and a name make a name: the label isn't the root's, and there are 255 octets at most (RFC 1035, 2.3.4)
abbrev pub is_child : List ℕ → Name → Bool
is_child l n = not (length l == 0) && nat_lt (length (name_wire (l ∷ n))) 256

-- the name that labels lead to, each below the last, and none where one of them makes no name
abbrev pub reached : Name → List (List ℕ) → Option Name
reached n [] = Some n
reached n (l ∷ more) = if is_child l n then reached (l ∷ n) more else None

-- whether the sets of a cut are of types NS and DS
abbrev pub is_cut : ZoneCut → Bool
is_cut cut = (cut.ns.rtype == type_ns) && option_map_or (λ (s : TypedSet). s.rtype == type_ds) cut.ds true

-- a version that a node becomes an alias or a cut in, where it may: below the apex, with sets of the right types
abbrev pub allowed : Bool → Version → Version → Result Version Refusal
allowed may v w = Ok (if may then w else v)

-- what an edit of a node makes of the version
abbrev pub edited_node : NodeEdit → Name → Version → Result Version Refusal
edited_node (PutSet s) n v = replace_set v n s.rtype s.contents
edited_node (RemoveSet rtype) n v = Ok (remove_set v n rtype)
edited_node MakeRegular n v = Ok (make_plain v n)
edited_node (MakeCname r) n v = allowed ((r.rtype == type_cname) && below_apex v n) v (make_alias v n r.ttl r.fields)
edited_node (MakeZoneCut cut) n v = allowed (is_cut cut && below_apex v n) v (make_cut v n cut.ns.contents (option_map (λ (s : TypedSet). s.contents) cut.ds) cut.glue.items)
edited_node RemoveAll n v = Ok (clear v n)

-- .. of the node with this name, if there is one
abbrev pub edited_at : Option Name → NodeEdit → Version → Result Version Refusal
edited_at None edit v = Ok v
edited_at (Some n) edit v = edited_node edit n v

-- what an edit makes of the version
abbrev pub edited : ZoneEdit → Version → Result Version Refusal
edited (Add r) v = add v r
edited (Delete r) v = delete v r
edited (PutSoa ttl soa) v = Ok (with_soa v ttl (soa_fields (λ n. n) soa))
edited ClearAll v = Ok (with_sets v [])
edited (Node labels edit) v = edited_at (reached v.apex labels.items) edit v

-- whether an edit of the node with this name, if there is one, may want memory: one that is refused changes nothing
abbrev pub can_change_at : Option Name → NodeEdit → Version → Bool
can_change_at None edit v = false
can_change_at (Some n) edit v = is_ok (edited_node edit n v)

-- whether an edit may: one that is refused, or of a node where no name stands, changes nothing
abbrev pub can_change : ZoneEdit → Version → Bool
can_change (Add r) v = is_ok (add v r)
can_change (Delete r) v = is_ok (delete v r)
can_change (PutSoa ttl soa) v = true
can_change ClearAll v = true
can_change (Node labels edit) v = can_change_at (reached v.apex labels.items) edit v
