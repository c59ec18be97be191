-- What the code keeps of the lines up to the first edit or question, and what the definition says of them.
use Rattle.std.proofs.Common.{◌≡◌, ℕ, ◌+◌, ◌==◌, Bool, true, false, ◌&&◌, ◌||◌, not, nat_le, nat_lt, if◌then◌else◌, List, [], ◌∷◌, refl, sym, ap, ◌∙◌, subst, true≢false, arith, Option, Some, None, is_some, Result, Ok, Err}
use Rattle.std.proofs.lemmas.Bool.Decides.{nat_tests}
use Rattle.std.specs.Prelude.{option_map}
use Rattle.std.specs.Option.{option_or}
use Rattle.dns_name.specs.Names.{Name}
use Rattle.dns_rdata.specs.Records.{Record}
use Rattle.tsig_port.specs.Tsig.{TsigKey}
use Rattle.zone_model.specs.Edits.{close}
use Rattle.zone_model.specs.Classify.{ZoneFile, RecordVerdict, Accepted, Rejected, classify, opened}
use Rattle.zone_records.specs.Parsed.{kept, version_of}
use Rattle.zone_records.specs.Taking.{take, taken_as}
use Rattle.zone_records.specs.Faults.{is_whole, makes_zone}
use Rattle.zone_script.specs.Script as scripts
use Rattle.zone_script.specs.Script.{Line, ZoneLine, KeyLine, AtLine, PrimaryLine, SecondaryLine, ChangeLine, QueryLine, Plus, Minus, Commit, stage_of, is_skipped, read_line, read_lines, read_next, next_line, take_from, or_line, no_script, accept, begun, begin_edits, opened_before, opening_fault}
use Rattle.zone_script.specs.ScriptReaders.{wire_readers}
use Rattle.zone_script.specs.Keeping.{empty_zone, with_file, nothing_read, may_come, is_of_class, is_of_zones, may_stand, and_zones, into_primary, into_secondary, with_zones, put_line, zones_refusal, unless, take_line, take_read, take_text, commit_of, opened_with, opened_from, read_on, finished, begin}
use Rattle.zone_script.specs.declared.opening.OpeningZone.{OpeningZone}
use Rattle.zone_script.specs.declared.reading.Zones.{Zones}
use Rattle.zone_script.specs.declared.reading.Reading.{Reading}
use Rattle.zone_script.proofs.FileLaws.{FileLaws}
use Rattle.zone_script.proofs.LaterLines as edits
use Rattle.zone_script.proofs.LaterLines.{GivesAlike, EditsStand, rest_alike}

-- a zone as it is kept stands for a zone file, of which a line was the last
pub record ZoneStands (z : OpeningZone) (f : ZoneFile) (last : ℕ) : Type 0 where
  pub file : z.file ≡ kept f
  pub line : is_whole z.file ≡ false → z.last_line ≡ last

abbrev pub ZonesStand : Option Zones → scripts.Script TsigKey → Type 0
ZonesStand None s = (s.stage ≡ 0) × (s.key ≡ None)
ZonesStand (Some z) s = ZoneStands z.primary s.primary s.last_primary × ZoneStands z.secondary s.secondary s.last_secondary

-- what is kept stands for a script as far as it was read, but for its stage
pub record OpensAs (k : Reading) (s : scripts.Script TsigKey) : Type 0 where
  pub key : s.key ≡ k.key
  pub at_primary : s.at_primary ≡ k.at_primary
  pub at_secondary : s.at_secondary ≡ k.at_secondary
  pub changes : s.changes ≡ []
  pub queries : s.queries ≡ []
  pub zones : ZonesStand k.zones s
  pub early : nat_lt s.stage 6 ≡ true

pub record Stands (k : Reading) (s : scripts.Script TsigKey) : Type 0 where
  pub stage : s.stage ≡ k.stage
  pub opens : OpensAs k s

abbrev StandsAlike : Result Reading ℕ → Result (scripts.Script TsigKey) ℕ → Type 0
StandsAlike (Ok k) (Ok s) = Stands k s
StandsAlike (Ok k) (Err n) = ⊥
StandsAlike (Err m) (Ok s) = ⊥
StandsAlike (Err m) (Err n) = m ≡ n

-- what the definition makes of one line's octets, and of the lines from the first edit or question on
abbrev pub read_text : scripts.Script TsigKey → ℕ → List ℕ → Result (scripts.Script TsigKey) ℕ
read_text s n l = if is_skipped l then Ok s else read_next s n (read_line wire_readers l)

abbrev pub on_from : scripts.Script TsigKey → ℕ → List (List ℕ) → Result (scripts.Script TsigKey) ℕ
on_from s n lines = if is_some s.key then read_lines wire_readers (opened_before s 7) n lines else Err n

-- a line is taken or refused as by the definition; where it is an edit or a question, the definition goes on with the zones open
abbrev pub OkAlike : Bool → Reading → scripts.Script TsigKey → ℕ → List ℕ → Type 0
OkAlike true k s n l = OpensAs k s × ((more : List (List ℕ)) → read_lines wire_readers (Ok s) n (l ∷ more) ≡ on_from s n (l ∷ more))
OkAlike false k s n l = (t : scripts.Script TsigKey) × Stands k t × (read_text s n l ≡ Ok t)

abbrev pub TextAlike : Result Reading ℕ → scripts.Script TsigKey → ℕ → List ℕ → Type 0
TextAlike (Ok k) s n l = OkAlike (k.stage == 6) k s n l
TextAlike (Err m) s n l = read_text s n l ≡ Err m

-- ---- one record

first_and : (a b : Bool) → (a && b) ≡ true → a ≡ true
first_and true b h = refl
first_and false b h = h

second_and : (a b : Bool) → (a && b) ≡ true → b ≡ true
second_and true b h = h
second_and false b h = absurd (true≢false (sym h))

empty_stands : (apex : Name) (class last : ℕ) → ZoneStands (empty_zone apex class) (record { apex = apex; class = class; accepted = [] }) last
empty_stands apex class last = record { file = refl; line = λ e. absurd (true≢false e) }

-- ---- lines that may stand

may_come_alike : (k : Reading) (s : scripts.Script TsigKey) (n : ℕ) → Stands k s → scripts.may_come s n ≡ may_come k n
may_come_alike k s n h i =
    nat_le (h.stage i) n && not (scripts.is_once n && (h.stage i == n)) && ((n == 1) || nat_le 1 (h.stage i)) && (nat_le n 2 || is_some (h.opens.key i))

-- without zones, only a zone line may come
first_only : (k : Reading) (s : scripts.Script TsigKey) (n : ℕ) → Stands k s → ZonesStand None s → (n == 1) ≡ false → may_come k n ≡ true → ⊥
first_only k s n h none later e =
    let late : (nat_le k.stage n && not (scripts.is_once n && (k.stage == n)) && ((n == 1) || nat_le 1 k.stage)) ≡ true = first_and _ (nat_le n 2 || is_some k.key) e in
    let behind : ((n == 1) || nat_le 1 k.stage) ≡ true = second_and (nat_le k.stage n && not (scripts.is_once n && (k.stage == n))) _ late in
    absurd (true≢false (sym behind ∙ ap (λ b. b || nat_le 1 k.stage) later ∙ ap (nat_le 1) (sym h.stage ∙ none.0)))

-- ---- one line before the first edit or question

alike_if : (b : Bool) (n : ℕ) (x : Result Reading ℕ) (y : Result (scripts.Script TsigKey) ℕ) → (b ≡ true → StandsAlike x y) → StandsAlike (if b then x else Err n) (if b && true then y else Err n)
alike_if true n x y h = h refl
alike_if false n x y h = refl

by_may_come : (k : Reading) (s : scripts.Script TsigKey) (n stage : ℕ) (x : Result Reading ℕ) (y : Result (scripts.Script TsigKey) ℕ) → Stands k s → (may_come k stage ≡ true → StandsAlike x y)
    → StandsAlike (if may_come k stage then x else Err n) (if scripts.may_come s stage && true then y else Err n)
by_may_come k s n stage x y h f = subst (λ b. StandsAlike (if may_come k stage then x else Err n) (if b && true then y else Err n)) (sym (may_come_alike k s stage h)) (alike_if (may_come k stage) n x y f)

-- a line without a class of its own
of_zones : (line : Line TsigKey) → ((class : ℕ) → is_of_class class line ≡ true) → (z : Option Zones) → is_of_zones z line ≡ true
of_zones line h None = refl
of_zones line h (Some z) = h z.primary.file.class

and_true : (b : Bool) (x y : Result Reading ℕ) → (if b && true then x else y) ≡ (if b then x else y)
and_true true x y = refl
and_true false x y = refl

take_line_is : (k : Reading) (n : ℕ) (line : Line TsigKey) → ((class : ℕ) → is_of_class class line ≡ true) → take_line k n line ≡ (if may_come k (stage_of line) then put_line k n line else Err n)
unfolding may_stand
take_line_is k n line h =
    ap (λ b. if may_come k (stage_of line) && b then put_line k n line else Err n) (of_zones line h k.zones) ∙ and_true (may_come k (stage_of line)) (put_line k n line) (Err n)

by_take : (k : Reading) (s : scripts.Script TsigKey) (n : ℕ) (line : Line TsigKey) (y : Result (scripts.Script TsigKey) ℕ) → ((class : ℕ) → is_of_class class line ≡ true) → Stands k s
    → (may_come k (stage_of line) ≡ true → StandsAlike (put_line k n line) y) → StandsAlike (take_line k n line) (if scripts.may_come s (stage_of line) && true then y else Err n)
by_take k s n line y plain h f =
    subst (λ r. StandsAlike r (if scripts.may_come s (stage_of line) && true then y else Err n)) (sym (take_line_is k n line plain))
    (by_may_come k s n (stage_of line) (put_line k n line) y h f)

zone_line_stands : (k : Reading) (s : scripts.Script TsigKey) (apex : Name) (class n : ℕ) → Stands k s → StandsAlike (take_line k n (ZoneLine apex class)) (next_line s n (ZoneLine apex class))
zone_line_stands k s apex class n h =
    by_take k s n (ZoneLine apex class) (take_from n (ZoneLine apex class) (Ok s)) (λ c. refl) h (λ e. record {
      stage = refl;
      opens = record {
        key = h.opens.key;
        at_primary = h.opens.at_primary;
        at_secondary = h.opens.at_secondary;
        changes = h.opens.changes;
        queries = h.opens.queries;
        zones = (empty_stands apex class s.last_primary, empty_stands apex class s.last_secondary);
        early = refl;
      };
    })

key_line_stands : (k : Reading) (s : scripts.Script TsigKey) (key : TsigKey) (n : ℕ) → Stands k s → StandsAlike (take_line k n (KeyLine key)) (next_line s n (KeyLine key))
key_line_stands k s key n h =
    by_take k s n (KeyLine key) (take_from n (KeyLine key) (Ok s)) (λ c. refl) h (λ e. record {
      stage = refl;
      opens = record {
        key = refl;
        at_primary = h.opens.at_primary;
        at_secondary = h.opens.at_secondary;
        changes = h.opens.changes;
        queries = h.opens.queries;
        zones = by k.zones h.opens.zones e;
        early = refl;
      };
    })
  where
    by : (z : Option Zones) → ZonesStand z s → may_come k 2 ≡ true → ZonesStand z (record s { stage = 2; key = Some key })
    by None none e = absurd (first_only k s 2 h none refl e)
    by (Some z) some e = some

at_line_stands : (k : Reading) (s : scripts.Script TsigKey) (p q n : ℕ) → Stands k s → StandsAlike (take_line k n (AtLine p q)) (next_line s n (AtLine p q))
at_line_stands k s p q n h =
    by_take k s n (AtLine p q) (take_from n (AtLine p q) (Ok s)) (λ c. refl) h (λ e. record {
      stage = refl;
      opens = record {
        key = h.opens.key;
        at_primary = refl;
        at_secondary = refl;
        changes = h.opens.changes;
        queries = h.opens.queries;
        zones = by k.zones h.opens.zones e;
        early = refl;
      };
    })
  where
    by : (z : Option Zones) → ZonesStand z s → may_come k 3 ≡ true → ZonesStand z (record s { stage = 3; at_primary = p; at_secondary = q })
    by None none e = absurd (first_only k s 3 h none refl e)
    by (Some z) some e = some

module _ (laws : FileLaws) where
  primary_line_stands : (k : Reading) (s : scripts.Script TsigKey) (r : Record) (n : ℕ) → Stands k s → StandsAlike (take_line k n (PrimaryLine r)) (next_line s n (PrimaryLine r))
  primary_line_stands k s r n h = by_take k s n (PrimaryLine r) (take_from n (PrimaryLine r) (Ok s)) (λ c. refl) h (by k.zones h.opens.zones)
    where
      taken : (z : Zones) (v : RecordVerdict) → ZonesStand (Some z) s
          → StandsAlike (with_zones k 4 (and_zones (λ p. record z { primary = p }) (with_file n (taken_as s.primary r v))))
          (or_line n (option_map (λ f. record s { stage = 4; primary = f; last_primary = n }) (scripts.accept_if s.primary r v)))
      taken z (Accepted kind) some = record {
        stage = refl;
        opens = record {
          key = h.opens.key;
          at_primary = h.opens.at_primary;
          at_secondary = h.opens.at_secondary;
          changes = h.opens.changes;
          queries = h.opens.queries;
          zones = (record { file = refl; line = λ e. refl }, some.1);
          early = refl;
        };
      }
      taken z (Rejected why) some = refl

      by : (z : Option Zones) → ZonesStand z s → may_come k 4 ≡ true
          → StandsAlike (with_zones k 4 (into_primary z n r)) (or_line n (option_map (λ f. record s { stage = 4; primary = f; last_primary = n }) (accept s.primary r)))
      by None none e = absurd (first_only k s 4 h none refl e)
      by (Some z) some e =
          subst (λ x. StandsAlike (with_zones k 4 (and_zones (λ p. record z { primary = p }) (with_file n x))) (or_line n (option_map (λ f. record s { stage = 4; primary = f; last_primary = n }) (accept s.primary r))))
          (sym (ap (λ file. take file r) some.0.file ∙ laws.takes s.primary r)) (taken z (classify s.primary r) some)

  secondary_line_stands : (k : Reading) (s : scripts.Script TsigKey) (r : Record) (n : ℕ) → Stands k s → StandsAlike (take_line k n (SecondaryLine r)) (next_line s n (SecondaryLine r))
  secondary_line_stands k s r n h = by_take k s n (SecondaryLine r) (take_from n (SecondaryLine r) (Ok s)) (λ c. refl) h (by k.zones h.opens.zones)
    where
      taken : (z : Zones) (v : RecordVerdict) → ZonesStand (Some z) s
          → StandsAlike (with_zones k 5 (and_zones (λ q. record z { secondary = q }) (with_file n (taken_as s.secondary r v))))
          (or_line n (option_map (λ f. record s { stage = 5; secondary = f; last_secondary = n }) (scripts.accept_if s.secondary r v)))
      taken z (Accepted kind) some = record {
        stage = refl;
        opens = record {
          key = h.opens.key;
          at_primary = h.opens.at_primary;
          at_secondary = h.opens.at_secondary;
          changes = h.opens.changes;
          queries = h.opens.queries;
          zones = (some.0, record { file = refl; line = λ e. refl });
          early = refl;
        };
      }
      taken z (Rejected why) some = refl

      by : (z : Option Zones) → ZonesStand z s → may_come k 5 ≡ true
          → StandsAlike (with_zones k 5 (into_secondary z n r)) (or_line n (option_map (λ f. record s { stage = 5; secondary = f; last_secondary = n }) (accept s.secondary r)))
      by None none e = absurd (first_only k s 5 h none refl e)
      by (Some z) some e =
          subst (λ x. StandsAlike (with_zones k 5 (and_zones (λ q. record z { secondary = q }) (with_file n x))) (or_line n (option_map (λ f. record s { stage = 5; secondary = f; last_secondary = n }) (accept s.secondary r))))
          (sym (ap (λ file. take file r) some.1.file ∙ laws.takes s.secondary r)) (taken z (classify s.secondary r) some)

  -- ---- the opening zones, once their lines are behind

  whole_is : (z : OpeningZone) (f : ZoneFile) (last : ℕ) → ZoneStands z f last → makes_zone f ≡ is_whole z.file
  whole_is z f last h = sym (laws.whole f) ∙ ap is_whole (sym h.file)

  opened_is : (z : OpeningZone) (f : ZoneFile) (last : ℕ) → ZoneStands z f last → version_of z.file ≡ opened f
  opened_is z f last h = ap version_of h.file ∙ laws.opens f

  fault_is : (z : Zones) (s : scripts.Script TsigKey) → ZonesStand (Some z) s → opening_fault s ≡ zones_refusal (Some z)
  fault_is z s some =
      (λ i. if not (whole_is z.primary s.primary s.last_primary some.0 i) then Some s.last_primary else if not (whole_is z.secondary s.secondary s.last_secondary some.1 i) then Some s.last_secondary else None)
      ∙ by (is_whole z.primary.file) (is_whole z.secondary.file) refl refl
    where
      by : (a b : Bool) → is_whole z.primary.file ≡ a → is_whole z.secondary.file ≡ b
          → (if not a then Some s.last_primary else if not b then Some s.last_secondary else None) ≡ option_or (if a then None else Some z.primary.last_line) (if b then None else Some z.secondary.last_line)
      by false b p q = ap Some (sym (some.0.line p))
      by true false p q = ap Some (sym (some.1.line q))
      by true true p q = refl

-- ---- an edit or a question, before which the zones are opened

opens_now : (s : scripts.Script TsigKey) (n : ℕ) → nat_le 6 n ≡ true → nat_lt s.stage 6 ≡ true → opened_before s n ≡ begun s (opening_fault s)
opens_now s n late early i = if late i && early i then begun s (opening_fault s) else Ok s

-- a late line is one of those
abbrev IsLate : Line TsigKey → Type 0
IsLate (ChangeLine c) = Unit {0}
IsLate (QueryLine name rtype) = Unit {0}
IsLate _ = ⊥

late_stage : (line : Line TsigKey) → IsLate line → nat_le 6 (stage_of line) ≡ true
late_stage (ZoneLine apex class) h = absurd h
late_stage (KeyLine key) h = absurd h
late_stage (AtLine p q) h = absurd h
late_stage (PrimaryLine r) h = absurd h
late_stage (SecondaryLine r) h = absurd h
late_stage (ChangeLine c) h = refl
late_stage (QueryLine name rtype) h = refl

-- it stands behind the opening as before it
class_stays : (s : scripts.Script TsigKey) (line : Line TsigKey) → scripts.is_of_class (begin_edits s) line ≡ scripts.is_of_class s line
class_stays s (ZoneLine apex class) = refl
class_stays s (KeyLine key) = refl
class_stays s (AtLine p q) = refl
class_stays s (PrimaryLine r) = refl
class_stays s (SecondaryLine r) = refl
class_stays s (ChangeLine (Plus r)) = refl
class_stays s (ChangeLine (Minus r)) = refl
class_stays s (ChangeLine Commit) = refl
class_stays s (QueryLine name rtype) = refl

may_still : (s : scripts.Script TsigKey) (line : Line TsigKey) → IsLate line → is_some s.key ≡ true → scripts.may_come (begin_edits s) (stage_of line) ≡ true
may_still s (ZoneLine apex class) h keyed = absurd h
may_still s (KeyLine key) h keyed = absurd h
may_still s (AtLine p q) h keyed = absurd h
may_still s (PrimaryLine r) h keyed = absurd h
may_still s (SecondaryLine r) h keyed = absurd h
may_still s (ChangeLine c) h keyed = keyed
may_still s (QueryLine name rtype) h keyed = keyed

module _ (s : scripts.Script TsigKey) (n : ℕ) (l : List ℕ) (line : Line TsigKey) (late : IsLate line) (taken : is_skipped l ≡ false) (says : read_line wire_readers l ≡ Some line) (early : nat_lt s.stage 6 ≡ true) (may : (scripts.may_come s (stage_of line) && scripts.is_of_class s line) ≡ true) (keyed : is_some s.key ≡ true) where
  text_is : (t : scripts.Script TsigKey) → read_text t n l ≡ next_line t n line
  text_is t = ap (λ b. if b then Ok t else read_next t n (read_line wire_readers l)) taken ∙ ap (read_next t n) says

  before : read_text s n l ≡ take_from n line (begun s (opening_fault s))
  before = text_is s ∙ ap (λ b. if b then take_from n line (opened_before s (stage_of line)) else Err n) may ∙ ap (take_from n line) (opens_now s (stage_of line) (late_stage line late) early)

  may_behind : (scripts.may_come (begin_edits s) (stage_of line) && scripts.is_of_class (begin_edits s) line) ≡ true
  may_behind = ap (λ b. b && scripts.is_of_class (begin_edits s) line) (may_still s line late keyed) ∙ class_stays s line ∙ second_and (scripts.may_come s (stage_of line)) (scripts.is_of_class s line) may

  behind_stays : (m : ℕ) → opened_before (begin_edits s) m ≡ Ok (begin_edits s)
  behind_stays m = by (nat_le 6 m)
    where
      by : (b : Bool) → (if b && false then begun (begin_edits s) (opening_fault s) else Ok (begin_edits s)) ≡ Ok (begin_edits s)
      by true = refl
      by false = refl

  behind : read_text (begin_edits s) n l ≡ take_from n line (Ok (begin_edits s))
  behind = text_is (begin_edits s) ∙ ap (λ b. if b then take_from n line (opened_before (begin_edits s) (stage_of line)) else Err n) may_behind ∙ ap (take_from n line) (behind_stays (stage_of line))

  over_late : (more : List (List ℕ)) → read_lines wire_readers (Ok s) n (l ∷ more) ≡ on_from s n (l ∷ more)
  over_late more =
      ap (λ x. read_lines wire_readers x (n + 1) more) before
      ∙ by (opening_fault s)
      ∙ ap (λ r. read_lines wire_readers r n (l ∷ more)) (sym (opens_now s 7 refl early))
      ∙ ap (λ b. if b then read_lines wire_readers (opened_before s 7) n (l ∷ more) else Err n) (sym keyed)
    where
      by : (o : Option ℕ) → read_lines wire_readers (take_from n line (begun s o)) (n + 1) more ≡ read_lines wire_readers (begun s o) n (l ∷ more)
      by None = ap (λ x. read_lines wire_readers x (n + 1) more) (sym behind)
      by (Some m) = refl

-- the end is as good
pub over_end : (s : scripts.Script TsigKey) (n : ℕ) → nat_lt s.stage 6 ≡ true → read_lines wire_readers (Ok s) n [] ≡ on_from s n []
over_end s n early = by_key (is_some s.key) refl
  where
    by : (o : Option ℕ) → is_some s.key ≡ true → begun s o ≡ read_lines wire_readers (begun s o) n []
    by None keyed = ap (λ b. if b then Ok (begin_edits s) else Err n) (sym keyed)
    by (Some m) keyed = refl

    by_key : (b : Bool) → is_some s.key ≡ b → (if b then opened_before s 7 else Err n) ≡ (if b then read_lines wire_readers (opened_before s 7) n [] else Err n)
    by_key true keyed = opens_now s 7 refl early ∙ by (opening_fault s) keyed ∙ ap (λ r. read_lines wire_readers r n []) (sym (opens_now s 7 refl early))
    by_key false keyed = refl

-- ---- one line

not_over : (k : Reading) (s : scripts.Script TsigKey) → Stands k s → (k.stage == 6) ≡ false
not_over k s h = by k.stage (sym (ap (λ m. nat_lt m 6) h.stage) ∙ h.opens.early)
  where
    by : (m : ℕ) → nat_lt m 6 ≡ true → (m == 6) ≡ false
    by m e = grind (arith, nat_tests)

goes_on : (x : Result Reading ℕ) (y : Result (scripts.Script TsigKey) ℕ) (s : scripts.Script TsigKey) (n : ℕ) (l : List ℕ) → read_text s n l ≡ y → StandsAlike x y → TextAlike x s n l
goes_on (Ok k) (Ok t) s n l e h = subst (λ b. OkAlike b k s n l) (sym (not_over k t h)) (t, h, e)
goes_on (Ok k) (Err m) s n l e h = absurd h
goes_on (Err m) (Ok t) s n l e h = absurd h
goes_on (Err m) (Err d) s n l e h = e ∙ ap Err (sym h)

-- an edit or a question may stand as by the definition
may_stand_is : (k : Reading) (s : scripts.Script TsigKey) (line : Line TsigKey) → IsLate line → Stands k s → may_stand k line ≡ (scripts.may_come s (stage_of line) && scripts.is_of_class s line)
unfolding may_stand
may_stand_is k s line late h = ap (λ b. b && is_of_zones k.zones line) (sym (may_come_alike k s (stage_of line) h)) ∙ by k.zones refl h.opens.zones
  where
    of_class : (z : Zones) → ZonesStand (Some z) s → (line : Line TsigKey) → IsLate line → is_of_class z.primary.file.class line ≡ scripts.is_of_class s line
    of_class z some (ZoneLine apex class) late = absurd late
    of_class z some (KeyLine key) late = absurd late
    of_class z some (AtLine p q) late = absurd late
    of_class z some (PrimaryLine r) late = absurd late
    of_class z some (SecondaryLine r) late = absurd late
    of_class z some (ChangeLine (Plus r)) late = ap (λ f. r.class == f.class) some.0.file
    of_class z some (ChangeLine (Minus r)) late = ap (λ f. r.class == f.class) some.0.file
    of_class z some (ChangeLine Commit) late = refl
    of_class z some (QueryLine name rtype) late = refl

    not_first : (line : Line TsigKey) → IsLate line → (stage_of line == 1) ≡ false
    not_first (ZoneLine apex class) late = absurd late
    not_first (KeyLine key) late = absurd late
    not_first (AtLine p q) late = absurd late
    not_first (PrimaryLine r) late = absurd late
    not_first (SecondaryLine r) late = absurd late
    not_first (ChangeLine c) late = refl
    not_first (QueryLine name rtype) late = refl

    never : ZonesStand None s → (b : Bool) → scripts.may_come s (stage_of line) ≡ b → (b && true) ≡ (b && scripts.is_of_class s line)
    never none true e = absurd (first_only k s (stage_of line) h none (not_first line late) (sym (may_come_alike k s (stage_of line) h) ∙ e))
    never none false e = refl

    by : (z : Option Zones) → k.zones ≡ z → ZonesStand z s → (scripts.may_come s (stage_of line) && is_of_zones z line) ≡ (scripts.may_come s (stage_of line) && scripts.is_of_class s line)
    by None e none = never none (scripts.may_come s (stage_of line)) refl
    by (Some z) e some = ap (λ b. scripts.may_come s (stage_of line) && b) (of_class z some line late)

-- it is left
is_left : (k : Reading) (s : scripts.Script TsigKey) → OpensAs k s → OpensAs (record k { stage = 6 }) s
is_left k s h = record { key = h.key; at_primary = h.at_primary; at_secondary = h.at_secondary; changes = h.changes; queries = h.queries; zones = h.zones; early = h.early }

keyed_late : (s : scripts.Script TsigKey) (line : Line TsigKey) → IsLate line → scripts.may_come s (stage_of line) ≡ true → is_some s.key ≡ true
keyed_late s (ZoneLine apex class) late e = absurd late
keyed_late s (KeyLine key) late e = absurd late
keyed_late s (AtLine p q) late e = absurd late
keyed_late s (PrimaryLine r) late e = absurd late
keyed_late s (SecondaryLine r) late e = absurd late
keyed_late s (ChangeLine c) late e = second_and (nat_le s.stage 6 && true && nat_le 1 s.stage) (is_some s.key) e
keyed_late s (QueryLine name rtype) late e = second_and (nat_le s.stage 7 && true && nat_le 1 s.stage) (is_some s.key) e

put_late : (k : Reading) (n : ℕ) (line : Line TsigKey) → IsLate line → put_line k n line ≡ Ok (record k { stage = 6 })
put_late k n (ZoneLine apex class) late = absurd late
put_late k n (KeyLine key) late = absurd late
put_late k n (AtLine p q) late = absurd late
put_late k n (PrimaryLine r) late = absurd late
put_late k n (SecondaryLine r) late = absurd late
put_late k n (ChangeLine c) late = refl
put_late k n (QueryLine name rtype) late = refl

late_stands : (k : Reading) (s : scripts.Script TsigKey) (n : ℕ) (l : List ℕ) (line : Line TsigKey) → IsLate line → is_skipped l ≡ false → read_line wire_readers l ≡ Some line → Stands k s → TextAlike (take_line k n line) s n l
late_stands k s n l line late taken says h =
    subst (λ x. TextAlike (if may_stand k line then x else Err n) s n l) (sym (put_late k n line late))
    (subst (λ b. TextAlike (if b then Ok (record k { stage = 6 }) else Err n) s n l) (sym (may_stand_is k s line late h)) (by (scripts.may_come s (stage_of line) && scripts.is_of_class s line) refl))
  where
    by : (b : Bool) → (scripts.may_come s (stage_of line) && scripts.is_of_class s line) ≡ b → TextAlike (if b then Ok (record k { stage = 6 }) else Err n) s n l
    by true may =
        (is_left k s h.opens, over_late s n l line late taken says h.opens.early may (keyed_late s line late (first_and (scripts.may_come s (stage_of line)) (scripts.is_of_class s line) may)))
    by false may =
        ap (λ b. if b then Ok s else read_next s n (read_line wire_readers l)) taken
        ∙ ap (read_next s n) says
        ∙ ap (λ b. if b then take_from n line (opened_before s (stage_of line)) else Err n) may

module _ (laws : FileLaws) where
  line_stands : (k : Reading) (s : scripts.Script TsigKey) (n : ℕ) (l : List ℕ) (line : Line TsigKey) → is_skipped l ≡ false → read_line wire_readers l ≡ Some line → Stands k s → TextAlike (take_line k n line) s n l
  line_stands k s n l line taken says h = by line says
    where
      text_says : (line : Line TsigKey) → read_line wire_readers l ≡ Some line → read_text s n l ≡ next_line s n line
      text_says line e = ap (λ b. if b then Ok s else read_next s n (read_line wire_readers l)) taken ∙ ap (read_next s n) e

      by : (line : Line TsigKey) → read_line wire_readers l ≡ Some line → TextAlike (take_line k n line) s n l
      by (ZoneLine apex class) e = goes_on (take_line k n (ZoneLine apex class)) (next_line s n (ZoneLine apex class)) s n l (text_says (ZoneLine apex class) e) (zone_line_stands k s apex class n h)
      by (KeyLine key) e = goes_on (take_line k n (KeyLine key)) (next_line s n (KeyLine key)) s n l (text_says (KeyLine key) e) (key_line_stands k s key n h)
      by (AtLine p q) e = goes_on (take_line k n (AtLine p q)) (next_line s n (AtLine p q)) s n l (text_says (AtLine p q) e) (at_line_stands k s p q n h)
      by (PrimaryLine r) e = goes_on (take_line k n (PrimaryLine r)) (next_line s n (PrimaryLine r)) s n l (text_says (PrimaryLine r) e) (primary_line_stands laws k s r n h)
      by (SecondaryLine r) e = goes_on (take_line k n (SecondaryLine r)) (next_line s n (SecondaryLine r)) s n l (text_says (SecondaryLine r) e) (secondary_line_stands laws k s r n h)
      by (ChangeLine c) e = late_stands k s n l (ChangeLine c) tt taken e h
      by (QueryLine name rtype) e = late_stands k s n l (QueryLine name rtype) tt taken e h

  pub text_alike : (k : Reading) (s : scripts.Script TsigKey) (n : ℕ) (l : List ℕ) → Stands k s → TextAlike (take_text k n l) s n l
  text_alike k s n l h = by (is_skipped l) refl
    where
      by_line : (o : Option (Line TsigKey)) → read_line wire_readers l ≡ o → is_skipped l ≡ false → TextAlike (take_read k n o) s n l
      by_line None e taken = ap (λ b. if b then Ok s else read_next s n (read_line wire_readers l)) taken ∙ ap (read_next s n) e
      by_line (Some line) e taken = line_stands k s n l line taken e h

      by : (b : Bool) → is_skipped l ≡ b → TextAlike (if b then Ok k else take_read k n (read_line wire_readers l)) s n l
      by true e = goes_on (Ok k) (Ok s) s n l (ap (λ b. if b then Ok s else read_next s n (read_line wire_readers l)) e) h
      by false e = by_line (read_line wire_readers l) refl e

  -- ---- all lines

  -- from the first edit or question on
  pub finish_alike : (k : Reading) (s : scripts.Script TsigKey) (n : ℕ) (lines : List (List ℕ)) → OpensAs k s → GivesAlike (finished k n lines) (on_from s n lines)
  finish_alike k s n lines h = by_key k.zones k.key refl refl h.zones h.key
    where
      begins : (z : Zones) (key : TsigKey) → k.zones ≡ Some z → s.key ≡ Some key → ZonesStand (Some z) s → EditsStand (opened_with k z key) (begin (commit_of z.primary)) (begin_edits s)
      begins z key e d some = record {
        key = d;
        at_primary = sym h.at_primary;
        at_secondary = sym h.at_secondary;
        primary = ap (λ v. record { number = 0; version = close v }) (opened_is laws z.primary s.primary s.last_primary some.0);
        secondary = ap (λ v. record { number = 0; version = close v }) (opened_is laws z.secondary s.secondary s.last_secondary some.1);
        stage = refl;
        class = ap (λ f. f.class) some.0.file;
        queries = sym h.queries;
        pending = ap close (opened_is laws z.primary s.primary s.last_primary some.0);
        edits = sym (ap close (opened_is laws z.primary s.primary s.last_primary some.0)) ∙ ap (edits.changed_all (close (version_of z.primary.file))) (sym h.changes);
        commits = ap (λ cs. edits.told_of (opened_with k z key).primary cs) (sym h.changes);
        current = refl;
      }

      opens : (z : Zones) (key : TsigKey) (o : Option ℕ) → k.zones ≡ Some z → s.key ≡ Some key → ZonesStand (Some z) s
          → GivesAlike (read_on n lines (unless o (Ok (opened_with k z key)))) (read_lines wire_readers (begun s o) n lines)
      opens z key None e d some = rest_alike (opened_with k z key) (Ok (begin (commit_of z.primary))) (Ok (begin_edits s)) n lines (begins z key e d some)
      opens z key (Some m) e d some = edits.refused_alike m n lines

      at_key : (z : Option Zones) (key : Option TsigKey) → k.zones ≡ z → s.key ≡ key → ZonesStand z s → GivesAlike (read_on n lines (opened_from k n z key)) (if is_some key then read_lines wire_readers (opened_before s 7) n lines else Err n)
      at_key None None e d none = refl
      at_key None (Some key) e d none = absurd (true≢false (ap is_some (sym d ∙ none.1)))
      at_key (Some z) None e d some = refl
      at_key (Some z) (Some key) e d some =
          subst (λ r. GivesAlike (read_on n lines (opened_from k n (Some z) (Some key))) (read_lines wire_readers r n lines)) (sym (opens_now s 7 refl h.early))
          (subst (λ o. GivesAlike (read_on n lines (unless o (Ok (opened_with k z key)))) (read_lines wire_readers (begun s (opening_fault s)) n lines)) (fault_is laws z s some)
          (opens z key (opening_fault s) e d some))

      by_key : (z : Option Zones) (key : Option TsigKey) → k.zones ≡ z → k.key ≡ key → ZonesStand z s → s.key ≡ k.key → GivesAlike (read_on n lines (opened_from k n z key)) (on_from s n lines)
      by_key z key e f g d = subst (λ o. GivesAlike (read_on n lines (opened_from k n z key)) (if is_some o then read_lines wire_readers (opened_before s 7) n lines else Err n)) (sym (d ∙ f)) (at_key z key e (d ∙ f) g)

pub begin_stands : Stands nothing_read no_script
begin_stands = record { stage = refl; opens = record { key = refl; at_primary = refl; at_secondary = refl; changes = refl; queries = refl; zones = (refl, refl); early = refl } }
