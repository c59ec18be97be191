use Rattle.zone_sync.proofs.OfferForms.{told_forms, asked_forms}
use Rattle.zone_sync.proofs.forms.texts_have_forms.Goals as goal

pub returns : goal.returns
returns c = record { sent = told_forms; asked = asked_forms }
