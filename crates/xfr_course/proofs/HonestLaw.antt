-- Built answers that carry what a granting primary sends, signed in sequence and handed as they were sent, bring a secondary that fits it up to date.
use Rattle.std.proofs.Common.{◌≡◌, List, [], ◌∷◌, map, refl, sym, ap, subst, ◌∙◌}
use Rattle.dns_wire.specs.Wire.{Message, Question, id_in}
use Rattle.zone_model.specs.TransferText.{Mode}
use Rattle.xfr_course.specs.Outcome.{Outcome, Checked, Course}
use Rattle.xfr_course.specs.Courses.{course_of, request_question}
use Rattle.xfr_course.specs.Joining.{built_checked, signed_handed}
use Rattle.xfr_course.specs.Success.{signed_checked, sent_course, Succeeds}
use Rattle.xfr_course.specs.Honest.{carrier_of, HonestSucceeds}
use Rattle.xfr_course.proofs.Joined.{signed_are_the_course}
use Rattle.xfr_course.proofs.Succeeding.{granted_succeeds}

as_carried : (ms : List Message) → map built_checked ms ≡ map signed_checked (map carrier_of ms)
as_carried [] = refl
as_carried (m ∷ ms) = ap (λ l. built_checked m ∷ l) (as_carried ms)

pub honest_succeeds : HonestSucceeds
honest_succeeds e client server request at now fudge m more gave_up g p sent =
    let h = signed_handed client server request at fudge now (m ∷ more) gave_up in
    let c : Course = course_of h e.base e.number in
    let j = signed_are_the_course client server request (m ∷ more) at now fudge e.number e.base gave_up sent.signs sent.one_key sent.early sent.small sent.near sent.can sent.have sent.few in
    let same : c ≡ sent_course e (id_in request) (carrier_of m ∷ map carrier_of more) gave_up =
    ap (λ (x : Mode). record { mode = x; id = id_in request; question = request_question request; base = e.base; number = e.number; checked = c.checked; stop = c.stop }) sent.mode
    ∙ ap (λ (q : Question). record { mode = e.mode; id = id_in request; question = q; base = e.base; number = e.number; checked = c.checked; stop = c.stop }) sent.question
    ∙ ap (λ (ks : List Checked). record { mode = e.mode; id = id_in request; question = e.question; base = e.base; number = e.number; checked = ks; stop = c.stop }) (j.checked ∙ as_carried (m ∷ more))
    ∙ ap (λ (o : Outcome). record { mode = e.mode; id = id_in request; question = e.question; base = e.base; number = e.number; checked = map signed_checked (map carrier_of (m ∷ more)); stop = o }) j.stop in
    subst (λ x. Succeeds x e.offer.version) (sym same) (granted_succeeds e (id_in request) (carrier_of m) (map carrier_of more) gave_up g p sent.carry)
