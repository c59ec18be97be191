-- Edits in turn, and what a difference comes to by them.
use Rattle.std.proofs.Common.{◌≡◌, List, [], ◌∷◌, ◌++◌, refl, sym, ap, ◌∙◌, subst, Result, Ok, Err}
use Rattle.std.specs.Prelude.{IsOk}
use Rattle.dns_rdata.specs.Records.{Record}
use Rattle.zone_model.specs.Version.{Version, Same}
use Rattle.zone_model.specs.Edits.{Refusal, with_sets, and_then, add, add_all, delete, delete_all}
use Rattle.zone_model.specs.Difference.{difference, records_in, apply_difference}
use Rattle.zone_model.specs.TransferLaws.{LeadsTo}
use Rattle.zone_model.proofs.DifferenceLaws.{difference_applies}
use Rattle.xfr_client.specs.CallsInTurn.{IsBetween, Edits, EditsLead, DeletesFit, AddsFit}

-- edits in turn as one fold
pub deleted_all : (p : Version) (rs : List Record) (q : Version) → Edits delete p rs q → delete_all p rs ≡ Ok q
deleted_all p [] q e = ap (λ x. Ok x) (sym e)
deleted_all p (r ∷ more) q e = ap (λ z. and_then z (λ x. delete_all x more)) e.1 ∙ deleted_all e.0 more q e.2

pub added_all : (p : Version) (rs : List Record) (q : Version) → Edits add p rs q → add_all p rs ≡ Ok q
added_all p [] q e = ap (λ x. Ok x) (sym e)
added_all p (r ∷ more) q e = ap (λ z. and_then z (λ x. add_all x more)) e.1 ∙ added_all e.0 more q e.2

-- after some of them the next isn't refused, where all together aren't
deletes_on : (p : Version) (done : List Record) (q : Version) (more : List Record) → Edits delete p done q → delete_all p (done ++ more) ≡ delete_all q more
deletes_on p [] q more e = ap (λ x. delete_all x more) (sym e)
deletes_on p (r ∷ done) q more e = ap (λ z. and_then z (λ x. delete_all x (done ++ more))) e.1 ∙ deletes_on e.0 done q more e.2

adds_on : (p : Version) (done : List Record) (q : Version) (more : List Record) → Edits add p done q → add_all p (done ++ more) ≡ add_all q more
adds_on p [] q more e = ap (λ x. add_all x more) (sym e)
adds_on p (r ∷ done) q more e = ap (λ z. and_then z (λ x. add_all x (done ++ more))) e.1 ∙ adds_on e.0 done q more e.2

first_ok : (z : Result Version Refusal) (next : Version → Result Version Refusal) → IsOk (and_then z next) → IsOk z
first_ok (Ok v) next h = refl
first_ok (Err e) next h = cc

is_ok_by : (z : Result Version Refusal) (v : Version) → z ≡ Ok v → IsOk z
is_ok_by z v e = subst IsOk (sym e) refl

-- a difference as a whole
leads : (v w base : Version) → IsBetween v w base → LeadsTo (apply_difference base (difference v w)) base w
leads v w base b = difference_applies v w base b.valid b.next_valid b.apex b.base_apex b.same

ok_is : (a b : Version) (z : Result Version Refusal) → z ≡ Ok a → z ≡ Ok b → b ≡ a
ok_is a b z e f = let same : Ok b ≡ Ok a = sym f ∙ e in cc same

pub edits_lead : EditsLead
edits_lead v w base mid end b ds es =
    let l = leads v w base b in
    let removed : List Record = records_in base (difference v w).removed in
    let added : List Record = records_in base (difference v w).added in
    let made : apply_difference base (difference v w) ≡ Ok end
    = ap (λ z. and_then z (λ x. add_all x added)) (deleted_all base removed mid ds) ∙ added_all mid added end es in
    let is : end ≡ with_sets base l.sets = ok_is (with_sets base l.sets) end (apply_difference base (difference v w)) l.makes made in
    subst (λ x. Same x w) (sym is) l.same

pub deletes_fit : DeletesFit
deletes_fit v w base at done left r b is ds =
    let l = leads v w base b in
    let removed : List Record = records_in base (difference v w).removed in
    let added : List Record = records_in base (difference v w).added in
    let all : IsOk (apply_difference base (difference v w)) = is_ok_by (apply_difference base (difference v w)) (with_sets base l.sets) l.makes in
    let some : IsOk (delete_all base removed) = first_ok (delete_all base removed) (λ x. add_all x added) all in
    first_ok (delete at r) (λ x. delete_all x left) (subst IsOk (ap (delete_all base) is ∙ deletes_on base done at (r ∷ left) ds) some)

pub adds_fit : AddsFit
adds_fit v w base mid at done left r b ds is es =
    let l = leads v w base b in
    let removed : List Record = records_in base (difference v w).removed in
    let added : List Record = records_in base (difference v w).added in
    let all : IsOk (apply_difference base (difference v w)) = is_ok_by (apply_difference base (difference v w)) (with_sets base l.sets) l.makes in
    let some : IsOk (add_all mid added) = subst (λ z. IsOk (and_then z (λ x. add_all x added))) (deleted_all base removed mid ds) all in
    first_ok (add at r) (λ x. add_all x left) (subst IsOk (ap (add_all mid) is ∙ adds_on mid done at (r ∷ left) es) some)
