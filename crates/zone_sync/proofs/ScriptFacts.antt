-- What holds of every script that is spelt: its key is one to sign with, both its zones are of one apex and class, and its records have wire forms.
use Rattle.std.specs.Prelude.{◌≡◌, ℕ, ◌+◌, ◌^◌, ◌<◌, suc, Bool, true, false, not, nat_lt, nat_le, ◌&&◌, ◌==◌, if◌then◌else◌, List, [], ◌∷◌, length, Option, Some, None, is_some, option_map, option_and_then, unwrap_or, Result, Ok, Err, IsTrue, codes, bytes_eq, filter, fold as fold_list}
use Rattle.std.specs.Result.{result_ok, result_unwrap_or}
use Rattle.std.specs.List.{AllByRecursion, list_all, slice_split}
use Rattle.std.proofs.Common.{refl, sym, ap, ◌∙◌, subst, arith, lt-ltb, ltb-true, lit<}
use Rattle.hex.specs.Hex as hex
use Rattle.hex.specs.declared.error.FromHexError.{FromHexError}
use Rattle.hex.proofs.HexLemmas.{decode_of-ok}
use Rattle.dns_name.specs.Names.{Name, fold, name_wire, is_name, under}
use Rattle.dns_name.specs.Octets.{◌>>=◌}
use Rattle.dns_name.specs.Compression.{name_in, name_at}
use Rattle.dns_name.proofs.NameBounds.{read_is_name}
use Rattle.dns_rdata.specs.Records.{Record}
use Rattle.dns_rdata.specs.Heads.{record_in}
use Rattle.tsig_keys.specs.Hmac.{native_len}
use Rattle.tsig_keys.specs.declared.errors.NewKeyError.{NewKeyError}
use Rattle.tsig_keys.specs.declared.algorithms.Algorithm.{Algorithm}
use Rattle.tsig_port.specs.Tsig.{TsigKey, new_key, is_mac_len}
use Rattle.tsig_port.specs.OneKey.{IsSigner}
use Rattle.zone_model.specs.Version.{Sets, Version}
use Rattle.zone_model.specs.Edits.{Refusal, with_sets, has_data, second_alias, close}
use Rattle.zone_model.specs.Classify.{ZoneFile, RecordVerdict, Accepted, Rejected, classify, opened, opened_with}
use Rattle.zone_model.specs.Offer.{Provider, after_push, difference_if}
use Rattle.zone_model.specs.Difference.{zone_serial}
use Rattle.zone_model.specs.TransferText.{Mode}
use Rattle.zone_model.proofs.Folded.{same_name-Decides}
use Rattle.zone_script.specs.Script as scripts
use Rattle.zone_script.specs.Script.{script_of, hex_of, number_of, changed, committed_by, primary_history, secondary_version}
use Rattle.zone_script.specs.ScriptLines.{data_only}
use Rattle.zone_script.specs.ScriptReaders.{wire_readers, key_of, algorithm_word, or_none, length_field}
use Rattle.zone_sync.specs.Forms.{HasForm, HaveForms, IsWritable}
use Rattle.zone_sync.specs.Fitting.{Fits}
use Rattle.zone_sync.specs.Reported.{FitsLink, asking_in, offer_in, provider_in, pushed_all, primary_opening, primary_commits}
use Rattle.zone_sync.proofs.SpelledRecords.{spelled_has_form}
use Rattle.zone_sync.proofs.WritableVersions.{all_append, close_writable, added_writable, deleted_writable, file_writable, IsWritableProvider, push_writable, provider_forms}

-- ---- options

-- what an option has, if anything, is so
abbrev Holds : {A : Type 0} → (A → Type 0) → Option A → Type 0
Holds P None = Unit {0}
Holds P (Some x) = P x

some_is : {A : Type 0} (x y : A) → Some x ≡ Some y → x ≡ y
some_is x y e = ap (λ o. unwrap_or o x) e

map_holds : {A B : Type 0} (P : B → Type 0) (f : A → B) (o : Option A) → ((x : A) → P (f x)) → Holds P (option_map f o)
map_holds P f None all = tt
map_holds P f (Some x) all = all x

then_holds : {A B : Type 0} (Q : A → Type 0) (P : B → Type 0) (f : A → Option B) (o : Option A) → Holds Q o → ((x : A) → Q x → Holds P (f x)) → Holds P (option_and_then f o)
then_holds Q P f None is all = tt
then_holds Q P f (Some x) is all = all x is

any_holds : {A B : Type 0} (P : B → Type 0) (f : A → Option B) (o : Option A) → ((x : A) → Holds P (f x)) → Holds P (option_and_then f o)
any_holds P f None all = tt
any_holds P f (Some x) all = all x

if_holds : {A : Type 0} (P : A → Type 0) (b : Bool) (x y : Option A) → Holds P x → Holds P y → Holds P (if b then x else y)
if_holds P true x y hx hy = hx
if_holds P false x y hx hy = hy

holds_at : {A : Type 0} (P : A → Type 0) (o : Option A) (x : A) → Holds P o → o ≡ Some x → P x
holds_at P o x h e = subst (λ q. Holds P q) e h

mapped : {A B : Type 0} (Q : A → Type 0) (P : B → Type 0) (f : A → B) (o : Option A) → Holds Q o → ((x : A) → Q x → P (f x)) → Holds P (option_map f o)
mapped Q P f None is all = tt
mapped Q P f (Some x) is all = all x is

bind_holds : {A B : Type 0} (Q : A → Type 0) (P : B → Type 0) (o : Option A) (f : A → Option B) → Holds Q o → ((x : A) → Q x → Holds P (f x)) → Holds P (o >>= f)
bind_holds Q P None f is all = tt
bind_holds Q P (Some x) f is all = all x is

bind_any : {A B : Type 0} (P : B → Type 0) (o : Option A) (f : A → Option B) → ((x : A) → Holds P (f x)) → Holds P (o >>= f)
bind_any P None f all = tt
bind_any P (Some x) f all = all x

self_holds : {A : Type 0} (o : Option A) → Holds (λ x. o ≡ Some x) o
self_holds None = tt
self_holds (Some x) = refl

-- ---- a key

abbrev AreOctets : List ℕ → Type 0
AreOctets xs = IsTrue (list_all (λ c. nat_lt c 256) xs)

bytes_below : (xs : List ℕ) → hex.IsBytes xs → AreOctets xs
bytes_below [] h = refl
bytes_below (x ∷ xs) h = rw (lt-ltb x 256 (h 0), bytes_below xs (λ i. h (suc i))) refl

hex_holds : (text : List ℕ) → Holds AreOctets (hex_of text)
hex_holds text = if_holds AreOctets (length text == 0) None (result_ok (hex.decode_of text)) tt (decoded (hex.decode_of text) refl)
  where
    decoded : (r : Result (List ℕ) FromHexError) → hex.decode_of text ≡ r → Holds AreOctets (result_ok r)
    decoded (Ok bytes) e = bytes_below bytes ((decode_of-ok text bytes e).3)
    decoded (Err e) f = tt

abbrev IsName : Name → Type 0
IsName n = IsTrue (is_name n)

in_holds : (octets : List ℕ) → AreOctets octets → Holds IsName (name_in octets)
in_holds octets fit =
    bind_holds (λ (r : Name × ℕ). name_at octets 0 ≡ Some r) IsName (name_at octets 0) _ (self_holds (name_at octets 0))
    (λ r e. if_holds IsName (bytes_eq (name_wire r.0) octets) (Some r.0) None (read_is_name octets 0 r.0 r.1 e fit) tt)

name_holds : (text : List ℕ) → Holds IsName (option_and_then name_in (hex_of text))
name_holds text = then_holds AreOctets IsName name_in (hex_of text) (hex_holds text) in_holds

made_by : (least signing : Bool) (k : TsigKey) (x y : NewKeyError) → (signing ≡ true → IsSigner k) → Holds IsSigner (result_ok (if not least then Err x else if not signing then Err y else Ok k))
made_by false signing k x y h = tt
made_by true false k x y h = tt
made_by true true k x y h = h refl

made_holds : (a : Algorithm) (secret : List ℕ) (n : Name) (least signing : Option ℕ) → IsName n → Holds IsSigner (result_ok (new_key a secret n least signing))
made_holds a secret n least signing is =
    made_by (is_mac_len a (unwrap_or least (native_len a))) (is_mac_len a (unwrap_or signing (native_len a))) _ _ _ (λ e. record { name = is; signing = e })

key_holds : (fields : List (List ℕ)) → Holds IsSigner (key_of fields)
key_holds [] = tt
key_holds (a ∷ []) = tt
key_holds (a ∷ b ∷ []) = tt
key_holds (a ∷ b ∷ c ∷ []) = tt
key_holds (a ∷ b ∷ c ∷ d ∷ []) = tt
key_holds (name ∷ algorithm ∷ secret ∷ signing ∷ least ∷ []) =
    bind_holds IsName IsSigner (option_and_then name_in (hex_of name)) _ (name_holds name)
    (λ n is. bind_any IsSigner (algorithm_word algorithm) _ (λ a. bind_any IsSigner (or_none [] hex_of secret) _ (λ s. bind_any IsSigner (length_field signing) _ (λ long. bind_any IsSigner (length_field least) _ (λ short. made_holds a s n short long is)))))
key_holds (a ∷ b ∷ c ∷ d ∷ e ∷ f ∷ more) = tt

-- ---- a line

-- an edit's record
abbrev ChangeSound : scripts.Change → Type 0
ChangeSound (scripts.Plus r) = HasForm r
ChangeSound (scripts.Minus r) = HasForm r
ChangeSound scripts.Commit = Unit {0}

abbrev LineSound : scripts.Line TsigKey → Type 0
LineSound (scripts.ZoneLine apex class) = IsName apex × (class < 2 ^ 16)
LineSound (scripts.KeyLine k) = IsSigner k
LineSound (scripts.AtLine p q) = Unit {0}
LineSound (scripts.PrimaryLine r) = HasForm r
LineSound (scripts.SecondaryLine r) = HasForm r
LineSound (scripts.ChangeLine c) = ChangeSound c
LineSound (scripts.QueryLine name rtype) = Unit {0}

below_holds : (bound : ℕ) (digits : List ℕ) → Holds (λ n. n < bound) (scripts.number_below bound digits)
below_holds bound digits = any_holds (λ n. n < bound) (λ n. if nat_lt n bound then Some n else None) (number_of digits) (λ n. by n (nat_lt n bound) refl)
  where
    by : (n : ℕ) (b : Bool) → nat_lt n bound ≡ b → Holds (λ m. m < bound) (if b then Some n else None)
    by n true e = ltb-true n bound e
    by n false e = tt

data_holds : (r : Record) → HasForm r → Holds HasForm (data_only r)
data_holds r h = if_holds HasForm (nat_le 250 r.rtype && nat_le r.rtype 255) None (Some r) tt h

found_holds : (octets : List ℕ) → AreOctets octets → Holds HasForm (record_in octets)
found_holds octets fit = by (record_in octets) refl
  where
    by : (o : Option Record) → record_in octets ≡ o → Holds HasForm o
    by None e = tt
    by (Some r) e = spelled_has_form octets r fit e

field_holds : (text : List ℕ) → Holds HasForm (scripts.record_field wire_readers text)
field_holds text = then_holds HasForm HasForm data_only _ (then_holds AreOctets HasForm record_in (hex_of text) (hex_holds text) found_holds) data_holds

two_hold : (P : scripts.Line TsigKey → Type 0) (read : List ℕ → List ℕ → Option (scripts.Line TsigKey)) (fields : List (List ℕ)) → ((x y : List ℕ) → Holds P (read x y)) → Holds P (scripts.two_fields read fields)
two_hold P read [] all = tt
two_hold P read (x ∷ []) all = tt
two_hold P read (x ∷ y ∷ []) all = all x y
two_hold P read (x ∷ y ∷ z ∷ more) all = tt

one_holds : (P : scripts.Line TsigKey → Type 0) (read : List ℕ → Option (scripts.Line TsigKey)) (fields : List (List ℕ)) → ((x : List ℕ) → Holds P (read x)) → Holds P (scripts.one_field read fields)
one_holds P read [] all = tt
one_holds P read (x ∷ []) all = all x
one_holds P read (x ∷ y ∷ more) all = tt

none_holds : (P : scripts.Line TsigKey → Type 0) (line : scripts.Line TsigKey) (fields : List (List ℕ)) → P line → Holds P (scripts.no_fields line fields)
none_holds P line [] is = is
none_holds P line (x ∷ more) is = tt

record_holds : (line : Record → scripts.Line TsigKey) → ((r : Record) → HasForm r → LineSound (line r)) → (fields : List (List ℕ)) → Holds LineSound (scripts.one_field (scripts.record_line wire_readers line) fields)
record_holds line all fields = one_holds LineSound (scripts.record_line wire_readers line) fields (λ x. mapped HasForm LineSound line (scripts.record_field wire_readers x) (field_holds x) all)

word_holds : (word : List ℕ) (fields : List (List ℕ)) → Holds LineSound (scripts.read_word wire_readers word fields)
word_holds word fields =
    if_holds LineSound (bytes_eq word (codes "zone")) _ _ (two_hold LineSound (scripts.zone_line wire_readers) fields (λ x y. then_holds IsName LineSound _ (scripts.name_field wire_readers x) (name_holds x) (λ n is. mapped (λ c. c < 2 ^ 16) LineSound (scripts.ZoneLine n) (scripts.number_below (2 ^ 16) y) (below_holds (2 ^ 16) y) (λ c small. (is, small)))))
    (if_holds LineSound (bytes_eq word (codes "key")) _ _ (mapped IsSigner LineSound scripts.KeyLine (key_of fields) (key_holds fields) (λ k is. is))
    (if_holds LineSound (bytes_eq word (codes "at")) _ _ (two_hold LineSound scripts.at_line fields (λ x y. any_holds LineSound _ (scripts.number_below (2 ^ 48) x) (λ p. map_holds LineSound (scripts.AtLine p) (scripts.number_below (2 ^ 48) y) (λ s. tt))))
    (if_holds LineSound (bytes_eq word (codes "p")) _ _ (record_holds scripts.PrimaryLine (λ r is. is) fields)
    (if_holds LineSound (bytes_eq word (codes "s")) _ _ (record_holds scripts.SecondaryLine (λ r is. is) fields)
    (if_holds LineSound (bytes_eq word (codes "-")) _ _ (record_holds (λ r. scripts.ChangeLine (scripts.Minus r)) (λ r is. is) fields)
    (if_holds LineSound (bytes_eq word (codes "+")) _ _ (record_holds (λ r. scripts.ChangeLine (scripts.Plus r)) (λ r is. is) fields)
    (if_holds LineSound (bytes_eq word (codes "commit")) _ _ (none_holds LineSound (scripts.ChangeLine scripts.Commit) fields tt)
    (if_holds LineSound (bytes_eq word (codes "query")) _ None (two_hold LineSound (scripts.query_line wire_readers) fields (λ x y. any_holds LineSound _ (scripts.name_field wire_readers x) (λ n. map_holds LineSound (scripts.QueryLine n) (scripts.number_below (2 ^ 16) y) (λ c. tt)))) tt))))))))

fields_hold : (fields : List (List ℕ)) → Holds LineSound (scripts.read_fields wire_readers fields)
fields_hold [] = tt
fields_hold (word ∷ fields) = word_holds word fields

-- ---- a script

-- a zone file whose records have wire forms; before its zone line it has the root's name and class 0
abbrev FileSound : ZoneFile → Type 0
FileSound f = IsName f.apex × (f.class < 2 ^ 16) × HaveForms f.accepted

pub record Sound (s : scripts.Script TsigKey) : Type 0 where
  pub apex : s.secondary.apex ≡ s.primary.apex
  pub class : s.secondary.class ≡ s.primary.class
  pub key : (k : TsigKey) → s.key ≡ Some k → IsSigner k
  pub primary : FileSound s.primary
  pub secondary : FileSound s.secondary
  pub changes : AllByRecursion ChangeSound s.changes

abbrev Sounds : Result (scripts.Script TsigKey) ℕ → Type 0
Sounds (Ok s) = Sound s
Sounds (Err n) = Unit {0}

either : (b : Bool) (x y : Result (scripts.Script TsigKey) ℕ) → Sounds x → Sounds y → Sounds (if b then x else y)
either true x y hx hy = hx
either false x y hx hy = hy

abbrev AcceptsTo : ZoneFile → ZoneFile → Type 0
AcceptsTo f g = (g.apex ≡ f.apex) × (g.class ≡ f.class) × FileSound g

accept_holds : (f : ZoneFile) (r : Record) → FileSound f → HasForm r → Holds (AcceptsTo f) (scripts.accept f r)
accept_holds f r h is = by (classify f r)
  where
    by : (v : RecordVerdict) → Holds (AcceptsTo f) (scripts.accept_if f r v)
    by (Accepted kind) = (refl, refl, (h.0, h.1, all_append HasForm f.accepted (r ∷ []) h.2 (is, tt)))
    by (Rejected why) = tt

take_sound : (s : scripts.Script TsigKey) (n : ℕ) (line : scripts.Line TsigKey) → LineSound line → Sound s → Holds Sound (scripts.take_line s n line)
take_sound s n (scripts.ZoneLine apex class) l h = record { apex = refl; class = refl; key = h.key; primary = (l.0, l.1, tt); secondary = (l.0, l.1, tt); changes = h.changes }
take_sound s n (scripts.KeyLine k) l h = record { apex = h.apex; class = h.class; key = λ j e. subst (λ (x : TsigKey). IsSigner x) (some_is k j e) l; primary = h.primary; secondary = h.secondary; changes = h.changes }
take_sound s n (scripts.AtLine p q) l h = record { apex = h.apex; class = h.class; key = h.key; primary = h.primary; secondary = h.secondary; changes = h.changes }
take_sound s n (scripts.PrimaryLine r) l h = mapped (AcceptsTo s.primary) Sound _ (scripts.accept s.primary r) (accept_holds s.primary r h.primary l)
    (λ g is. record { apex = h.apex ∙ sym is.0; class = h.class ∙ sym is.1; key = h.key; primary = is.2; secondary = h.secondary; changes = h.changes })
take_sound s n (scripts.SecondaryLine r) l h = mapped (AcceptsTo s.secondary) Sound _ (scripts.accept s.secondary r) (accept_holds s.secondary r h.secondary l)
    (λ g is. record { apex = is.0 ∙ h.apex; class = is.1 ∙ h.class; key = h.key; primary = h.primary; secondary = is.2; changes = h.changes })
take_sound s n (scripts.ChangeLine c) l h = map_holds Sound _ (scripts.edited s c)
    (λ v. record { apex = h.apex; class = h.class; key = h.key; primary = h.primary; secondary = h.secondary; changes = all_append ChangeSound s.changes (c ∷ []) h.changes (l, tt) })
take_sound s n (scripts.QueryLine name rtype) l h = record { apex = h.apex; class = h.class; key = h.key; primary = h.primary; secondary = h.secondary; changes = h.changes }

begun_sound : (s : scripts.Script TsigKey) (o : Option ℕ) → Sound s → Sounds (scripts.begun s o)
begun_sound s None h = record { apex = h.apex; class = h.class; key = h.key; primary = h.primary; secondary = h.secondary; changes = h.changes }
begun_sound s (Some n) h = tt

opened_sound : (s : scripts.Script TsigKey) (stage : ℕ) → Sound s → Sounds (scripts.opened_before s stage)
opened_sound s stage h = either (nat_le 6 stage && nat_lt s.stage 6) (scripts.begun s (scripts.opening_fault s)) (Ok s) (begun_sound s (scripts.opening_fault s) h) h

or_sound : (n : ℕ) (o : Option (scripts.Script TsigKey)) → Holds Sound o → Sounds (scripts.or_line n o)
or_sound n None h = tt
or_sound n (Some s) h = h

from_sound : (n : ℕ) (line : scripts.Line TsigKey) → LineSound line → (r : Result (scripts.Script TsigKey) ℕ) → Sounds r → Sounds (scripts.take_from n line r)
from_sound n line l (Ok s) h = or_sound n (scripts.take_line s n line) (take_sound s n line l h)
from_sound n line l (Err k) h = tt

next_sound : (s : scripts.Script TsigKey) (n : ℕ) (o : Option (scripts.Line TsigKey)) → Holds LineSound o → Sound s → Sounds (scripts.read_next s n o)
next_sound s n None l h = tt
next_sound s n (Some line) l h =
    either (scripts.may_come s (scripts.stage_of line) && scripts.is_of_class s line) (scripts.take_from n line (scripts.opened_before s (scripts.stage_of line))) (Err n)
    (from_sound n line l (scripts.opened_before s (scripts.stage_of line)) (opened_sound s (scripts.stage_of line) h)) tt

lines_sound : (r : Result (scripts.Script TsigKey) ℕ) (n : ℕ) (lines : List (List ℕ)) → Sounds r → Sounds (scripts.read_lines wire_readers r n lines)
lines_sound (Err k) n lines h = tt
lines_sound (Ok s) n [] h = either (is_some s.key) (scripts.opened_before s 7) (Err n) (opened_sound s 7 h) tt
lines_sound (Ok s) n (l ∷ more) h =
    lines_sound (if scripts.is_skipped l then Ok s else scripts.read_next s n (scripts.read_line wire_readers l)) (n + 1) more
    (either (scripts.is_skipped l) (Ok s) (scripts.read_next s n (scripts.read_line wire_readers l)) h (next_sound s n (scripts.read_line wire_readers l) (fields_hold (slice_split (λ o. o == 32) l)) h))

nothing_sound : Sound (scripts.no_script {K = TsigKey})
nothing_sound = record { apex = refl; class = refl; key = λ k e. cc e; primary = (refl, lit< tt, tt); secondary = (refl, lit< tt, tt); changes = tt }

pub script_sound : (text : List ℕ) (s : scripts.Script TsigKey) → script_of wire_readers text ≡ Ok s → Sound s
script_sound text s e = subst (λ (r : Result (scripts.Script TsigKey) ℕ). Sounds r) e (lines_sound (Ok scripts.no_script) 1 (scripts.script_lines text) nothing_sound)

-- ---- the versions that edits commit are of one zone

-- a version of this apex and class
abbrev pub IsOf : Name → ℕ → Version → Type 0
IsOf apex class v = (v.apex ≡ apex) × (v.class ≡ class)

module _ (apex : Name) (class : ℕ) (v : Version) (h : IsOf apex class v) where
  refused_or : (b : Bool) (e : Refusal) (next : Result Version Refusal) → IsOf apex class (result_unwrap_or next v) → IsOf apex class (result_unwrap_or (if b then Err e else next) v)
  refused_or true e next n = h
  refused_or false e next n = n

  one_of : (b : Bool) (x y : Sets) → IsOf apex class (if b then with_sets v x else with_sets v y)
  one_of true x y = h
  one_of false x y = h

  abbrev put : Bool → Sets → Sets → Result Version Refusal
  put b x y = Ok (if b then with_sets v x else with_sets v y)

  put_of : (b : Bool) (x y : Sets) → IsOf apex class (result_unwrap_or (put b x y) v)
  put_of b x y = one_of b x y

  added_of : (r : Record) → IsOf apex class (changed v (scripts.Plus r))
  added_of r = refused_or (not (under r.owner v.apex)) _ _ (refused_or (has_data v r) _ _ (refused_or (second_alias v r) _ _ (put_of _ _ _)))

  deleted_of : (r : Record) → IsOf apex class (changed v (scripts.Minus r))
  deleted_of r = refused_or (not (under r.owner v.apex)) _ _ (refused_or (not (has_data v r)) _ _ (put_of _ _ _))

opened_from : (apex : Name) (class : ℕ) (v : Version) (rs : List Record) → IsOf apex class v → IsOf apex class (fold_list opened_with v rs)
opened_from apex class v [] h = h
opened_from apex class v (r ∷ more) h = opened_from apex class (opened_with v r) more (one_of apex class v h _ _ _)

opened_of : (f : ZoneFile) → IsOf f.apex f.class (opened f)
opened_of f = opened_from f.apex f.class (record { apex = f.apex; class = f.class; sets = [] }) (filter (λ r. under r.owner f.apex) f.accepted) (refl, refl)

commits_of : (apex : Name) (class : ℕ) (v : Version) (changes : List scripts.Change) → IsOf apex class v → AllByRecursion (IsOf apex class) (committed_by v changes)
commits_of apex class v [] h = tt
commits_of apex class v (scripts.Commit ∷ more) h = (h, commits_of apex class (close v) more h)
commits_of apex class v (scripts.Plus r ∷ more) h = commits_of apex class (changed v (scripts.Plus r)) more (added_of apex class v h r)
commits_of apex class v (scripts.Minus r ∷ more) h = commits_of apex class (changed v (scripts.Minus r)) more (deleted_of apex class v h r)

kept_of : (apex : Name) (class : ℕ) (p : Provider) (vs : List Version) → IsOf apex class p.kept → AllByRecursion (IsOf apex class) vs → IsOf apex class (pushed_all p vs).kept
kept_of apex class p [] h all = h
kept_of apex class p (v ∷ more) h all = kept_of apex class (after_push p v (difference_if p.kept v)) more all.0 all.1

-- what is granted stays so
pub grants_kept : (p : Provider) (vs : List Version) → ((pushed_all p vs).grants ≡ p.grants) × ((pushed_all p vs).compatibility ≡ p.compatibility)
grants_kept p [] = (refl, refl)
grants_kept p (v ∷ more) = grants_kept (after_push p v (difference_if p.kept v)) more

pub kept_in : (s : scripts.Script TsigKey) (key : TsigKey) → IsOf s.primary.apex s.primary.class (provider_in s key).kept
kept_in s key =
    kept_of s.primary.apex s.primary.class _ (primary_commits s) (opened_of s.primary) (commits_of s.primary.apex s.primary.class (primary_opening s) s.changes (opened_of s.primary))

-- ---- their records have wire forms

commits_writable : (v : Version) (changes : List scripts.Change) → IsWritable v → AllByRecursion ChangeSound changes → AllByRecursion IsWritable (committed_by v changes)
commits_writable v [] h a = tt
commits_writable v (scripts.Commit ∷ more) h a = (close_writable v h, commits_writable (close v) more (close_writable v h) a.1)
commits_writable v (scripts.Plus r ∷ more) h a = commits_writable (changed v (scripts.Plus r)) more (added_writable v h r a.0) a.1
commits_writable v (scripts.Minus r ∷ more) h a = commits_writable (changed v (scripts.Minus r)) more (deleted_writable v h r a.0) a.1

opening_writable : (f : ZoneFile) → FileSound f → IsWritable (close (opened f))
opening_writable f h = close_writable (opened f) (file_writable f h.0 h.1 h.2)

-- each version of a script is writable
pub script_writable : (text : List ℕ) (s : scripts.Script TsigKey) → script_of wire_readers text ≡ Ok s → AllByRecursion IsWritable (primary_history s) × IsWritable (secondary_version s)
script_writable text s spelt =
    let sound = script_sound text s spelt in
    let first = opening_writable s.primary sound.primary in
    ((first, commits_writable (close (opened s.primary)) s.changes first sound.changes), opening_writable s.secondary sound.secondary)

all_pushed : (p : Provider) (vs : List Version) → IsWritableProvider p → AllByRecursion IsWritable vs → IsWritableProvider (pushed_all p vs)
all_pushed p [] h a = h
all_pushed p (v ∷ more) h a = all_pushed (after_push p v (difference_if p.kept v)) more (push_writable p v h a.0) a.1

provider_writable : (s : scripts.Script TsigKey) (key : TsigKey) → AllByRecursion IsWritable (primary_history s) → IsWritableProvider (provider_in s key)
provider_writable s key a = all_pushed _ (primary_commits s) (record { kept = a.0; differences = tt }) a.1

-- ---- the premises of success that hold of every script

none_before : (n m : ℕ) → n < m → 0 + n < m
none_before n m h = omega (arith, h)

pub script_fits : (mode : Mode) (text : List ℕ) (s : scripts.Script TsigKey) (key : TsigKey) (longest : ℕ) → script_of wire_readers text ≡ Ok s → FitsLink mode s key longest → Fits (asking_in mode s key) key s.at_primary (offer_in mode s key)
script_fits mode text s key longest spelt f =
    let sound = script_sound text s spelt in
    let signs = sound.key key f.keyed in
    let kept = kept_in s key in
    let all = script_writable text s spelt in
    let base = opened_of s.secondary in
    record {
      client_signs = signs;
      server_signs = signs;
      one_key = record { name = (same_name-Decides key.name key.name).1 refl; algorithm = refl; secret = refl; client_taken = f.lengths; server_taken = f.lengths };
      close_moments = f.close_moments;
      one_soa = f.one_soa;
      records_fit = f.records_fit;
      sent = provider_forms (provider_in s key) mode (zone_serial (secondary_version s)) _ (provider_writable s key all.0);
      base_matches = f.base_matches;
      same_zone = record { apex = (same_name-Decides (opened s.secondary).apex (provider_in s key).kept.apex).1 (ap fold (base.0 ∙ sound.apex ∙ sym kept.0)); class = base.1 ∙ sound.class ∙ sym kept.1 };
      room = none_before _ _ f.room;
    }
