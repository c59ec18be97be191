-- The version that a zone opens with, where it was made and where it was not.
use Rattle.std.proofs.Common.{◌≡◌, ℕ, ◌==◌, Bool, true, false, ◌&&◌, not, refl, sym, ap, ◌∙◌, subst, Option, Some, None, IfSome, IfNone}
use Rattle.dns_name.specs.Names.{Name}
use Rattle.dns_numbers.specs.Codes.{type_cname}
use Rattle.dns_rdata.specs.Records.{Record}
use Rattle.zone_model.specs.Version.{Version, below_apex}
use Rattle.zone_versions.specs.Puts.{adds_alias}
use Rattle.zone_sessions.specs.Opening.{no_records, opening, IsOf}

-- where there is no CNAME RRset, a record is no second one
pub adds_none : (apex : Name) (class : ℕ) (r : Record) → adds_alias (no_records apex class) r ≡ false
adds_none apex class r = by (below_apex (no_records apex class) r.owner) (r.rtype == type_cname)
  where
    by : (a b : Bool) → ((a && b && false) && true) ≡ false
    by true true = refl
    by true false = refl
    by false b = refl

-- its apex and class are those that were given
opening_apex : (apex : Name) (class : ℕ) (made : Option Version) → IsOf apex class made → (opening apex class made).apex ≡ apex
opening_apex apex class None h = refl
opening_apex apex class (Some v) h = h.0

opening_class : (apex : Name) (class : ℕ) (made : Option Version) → IsOf apex class made → (opening apex class made).class ≡ class
opening_class apex class None h = refl
opening_class apex class (Some v) h = h.1

pub apex_shown : {v : Version} (apex : Name) (class : ℕ) (made : Option Version) → IsOf apex class made → opening apex class made ≡ v → apex ≡ v.apex
apex_shown apex class made h is = sym (opening_apex apex class made h) ∙ ap (λ (w : Version). w.apex) is

pub class_shown : {v : Version} (apex : Name) (class : ℕ) (made : Option Version) → IsOf apex class made → opening apex class made ≡ v → class ≡ v.class
class_shown apex class made h is = sym (opening_class apex class made h) ∙ ap (λ (w : Version). w.class) is

-- without the version that was made
rest_is : {v : Version} (apex : Name) (class : ℕ) (made : Option Version) → IsOf apex class made → opening apex class made ≡ v → no_records apex class ≡ no_records v.apex v.class
rest_is apex class made h is = λ i. no_records (apex_shown apex class made h is i) (class_shown apex class made h is i)

pub rest_shown : {v : Version} (apex : Name) (class : ℕ) (made now : Option Version) → now ≡ None → IsOf apex class made → opening apex class made ≡ v → opening apex class now ≡ no_records v.apex v.class
rest_shown apex class made now gone h is = ap (opening apex class) gone ∙ rest_is apex class made h is

pub none_made : (apex : Name) (class : ℕ) (now : Option Version) → now ≡ None → IsOf apex class now
none_made apex class now gone = subst (IsOf apex class) (sym gone) tt

-- the version that was made is what was shown
some_is : {v : Version} (apex : Name) (class : ℕ) (made : Option Version) → opening apex class made ≡ v → IfSome made (λ w. w ≡ v)
some_is apex class None is = tt
some_is apex class (Some w) is = is

pub taken : {v : Version} (apex : Name) (class : ℕ) (made out : Option Version) → out ≡ made → opening apex class made ≡ v → IfSome out (λ w. w ≡ v)
taken {v} apex class made out e is = subst (λ (m : Option Version). IfSome m (λ w. w ≡ v)) (sym e) (some_is apex class made is)

none_is : {v : Version} (apex : Name) (class : ℕ) (made : Option Version) → opening apex class made ≡ v → IfNone made (no_records apex class ≡ v)
none_is apex class None is = is
none_is apex class (Some w) is = tt

pub not_made : {v : Version} (apex : Name) (class : ℕ) (made out now : Option Version) → out ≡ made → now ≡ None → opening apex class made ≡ v → IfNone out (opening apex class now ≡ v)
not_made {v} apex class made out now e gone is =
    subst (λ (m : Option Version). IfNone m (opening apex class now ≡ v)) (sym e)
    (subst (λ (m : Option Version). IfNone made (opening apex class m ≡ v)) (sym gone) (none_is apex class made is))

none_was : {v : Version} (apex : Name) (class : ℕ) (made : Option Version) → IsOf apex class made → opening apex class made ≡ v → IfNone made (v ≡ no_records v.apex v.class)
none_was apex class None h is = sym is ∙ rest_is apex class None h is
none_was apex class (Some w) h is = tt

pub was_none : {v : Version} (apex : Name) (class : ℕ) (made out : Option Version) → out ≡ made → IsOf apex class made → opening apex class made ≡ v → IfNone out (v ≡ no_records v.apex v.class)
was_none {v} apex class made out e h is = subst (λ (m : Option Version). IfNone m (v ≡ no_records v.apex v.class)) (sym e) (none_was apex class made h is)
