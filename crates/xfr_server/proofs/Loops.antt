-- Records that a loop adds one after another, by what is left.
use Rattle.std.proofs.Common.{◌≡◌, List, [], ◌∷◌, ◌++◌, map, Some, refl, sym, ap, ◌∙◌, subst}
use Rattle.std.specs.Prelude.{Result, Ok, Err, slice_get}
use Rattle.std.proofs.lemmas.List.{append_assoc, append-nil}
use Rattle.dns_numbers.specs.Codes.{type_soa}
use Rattle.dns_rdata.specs.Records.{Field, Record, record_wire}
use Rattle.dns_wire.specs.Wire.{Building}
use Rattle.dns_wire.specs.Builds.{Adds}
use Rattle.dns_wire.specs.declared.builder.PushError.{PushError}
use Rattle.zone_model.specs.Version.{RecordSet, Version, set_at}
use Rattle.zone_model.specs.Answer.{apex_soa_record}
use Rattle.xfr_server.specs.TransferMessage.{AddsAnswers}
use Rattle.xfr_server.proofs.Adding.{adds_none, adds_one, adds_behind, refused_front}
use Rattle.zone_values.proofs.ApexSoa.{soa_first, record_with, has_first}

-- ---- what a loop keeps

-- those added so far are, with what is left, all
pub record Kept (now old : Building) (rest all : List Record) : Type 0 where
  pub done : List Record
  pub added : AddsAnswers {A = Unit {0}} done old (Ok tt) now
  pub whole : done ++ rest ≡ all

pub kept_first : (old : Building) (rest all : List Record) → rest ≡ all → Kept old old rest all
kept_first old rest all is = record { done = []; added = adds_none [] old tt refl; whole = is }

-- the next of what is left
pub kept_more : (xs behind rest all : List Record) (now old new : Building) (u : Unit {0}) → rest ≡ xs ++ behind → Kept now old rest all → AddsAnswers xs now (Ok u) new
    → Kept new old behind all
kept_more xs behind rest all now old new u split kept added = record {
  done = kept.done ++ xs;
  added = adds_behind kept.done xs old now new tt (Ok u) kept.added added;
  whole = append_assoc kept.done xs behind ∙ ap (λ rs. kept.done ++ rs) (sym split) ∙ kept.whole;
}

pub kept_refused : (xs behind rest all : List Record) (now old new : Building) (e : PushError) → rest ≡ xs ++ behind → Kept now old rest all
    → AddsAnswers {A = Unit {0}} xs now (Err e) new → AddsAnswers {A = Unit {0}} all old (Err e) new
kept_refused xs behind rest all now old new e split kept refused =
    let P : List Record → Type 0 = λ rs. AddsAnswers {A = Unit {0}} rs old (Err e) new in
    subst P (append_assoc kept.done xs behind ∙ ap (λ rs. kept.done ++ rs) (sym split) ∙ kept.whole)
    (refused_front (kept.done ++ xs) behind old new e (adds_behind kept.done xs old now new tt (Err e) kept.added refused))

-- .. which is one record
pub record_more : (r made : Record) (behind rest all : List Record) (now old new : Building) (u : Unit {0}) → rest ≡ r ∷ behind → made ≡ r → Kept now old rest all
    → Adds 6 (record_wire made) now (Ok u) new → Kept new old behind all
record_more r made behind rest all now old new u split is kept added =
    kept_more (r ∷ []) behind rest all now old new u split kept (adds_one r made now new (Ok u) is added)

pub record_refused : (r made : Record) (behind rest all : List Record) (now old new : Building) (e : PushError) → rest ≡ r ∷ behind → made ≡ r → Kept now old rest all
    → Adds {A = Unit {0}} 6 (record_wire made) now (Err e) new → AddsAnswers {A = Unit {0}} all old (Err e) new
record_refused r made behind rest all now old new e split is kept added =
    kept_refused (r ∷ []) behind rest all now old new e split kept (adds_one r made now new (Err e) is added)

pub kept_last : (rest all : List Record) (now old : Building) (u : Unit {0}) → rest ≡ [] → Kept now old rest all → AddsAnswers all old (Ok u) now
kept_last rest all now old u none kept =
    let P : List Record → Type 0 = λ rs. AddsAnswers rs old (Ok u) now in
    subst P (sym (append-nil kept.done) ∙ ap (λ rs. kept.done ++ rs) (sym none) ∙ kept.whole) kept.added

-- ---- the apex SOA

pub pushed_soa : {X : Type 0} (f : X → List Field) (xs : List X) (x : X) (v : Version) (s : RecordSet) (made : Record) (old new : Building) (result : Result (Unit {0}) PushError)
    → Some s ≡ set_at v v.apex type_soa → Some x ≡ slice_get xs 0 → map f xs ≡ s.items → made ≡ record_with v.apex type_soa v.class s.ttl (f x)
    → Adds 6 (record_wire made) old result new → AddsAnswers (apex_soa_record v) old result new
pushed_soa f xs x v s made old new result is first items made_is added =
    let split = has_first xs x first in
    let Q : List Record → Type 0 = λ rs. AddsAnswers rs old result new in
    subst Q (sym (soa_first v s (f x) (map f split.0) (sym is) (sym items ∙ ap (map f) split.1)))
    (adds_one (record_with v.apex type_soa v.class s.ttl (f x)) made old new result made_is added)
