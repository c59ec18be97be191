-- What an edit that may fail leaves.
use Rattle.std.proofs.Common.{◌≡◌, sym, subst, Result, Ok, Err, OnOk, OnErr}
use Rattle.zone_model.specs.Version.{Version}
use Rattle.zone_versions.specs.Sound.{IsSound}

pub on_ok : {T E A B : Type 0} (r : Result T E) → (A → B) → OnOk r A → OnOk r B
on_ok (Ok x) f h = f h
on_ok (Err e) f h = h

-- a sound version, whether it is done or not
pub sound_after : {T E : Type 0} (r : Result T E) (before after made : Version) → OnOk r (after ≡ made) → OnErr r (after ≡ before) → IsSound before → IsSound made → IsSound after
sound_after (Ok x) before after made ok err old new = subst (λ (v : Version). IsSound v) (sym ok) new
sound_after (Err e) before after made ok err old new = subst (λ (v : Version). IsSound v) (sym err) old
