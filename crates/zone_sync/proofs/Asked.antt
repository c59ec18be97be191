-- The words of the program, and the kind of transfer that they ask for.
use Rattle.std.specs.Prelude.{◌≡◌, ◌≢◌, ℕ, List, Option, Some}
use Rattle.std.proofs.Common.{refl, sym, ap, ◌∙◌, subst}
use Rattle.zone_model.specs.TransferText.{Mode}
use Rattle.xfr_services.specs.declared.modes.XfrMode.{XfrMode}
use Rattle.xfr_services.specs.declared.modes.XfrMode.TheVariants as modes
use Rattle.zone_script.specs.Words as words
use Rattle.zone_script.specs.Words.{Form, Transfer, Generate}
use Rattle.xfr_outcomes.specs.Modes.{mode_of}
use Rattle.zone_sync.specs.Reported.{Crossed}
use Rattle.zone_sync.specs.Statuses.{AsksNoScript, TellsWords, TellsScript}
use Rattle.zone_report.specs.declared.status.Status.{Status}
use Rattle.zone_report.specs.declared.status.Status.TheVariants.{Usage}

same_mode : (m : XfrMode) → words.mode_of m ≡ mode_of m
same_mode modes.Axfr = refl
same_mode modes.Ixfr = refl

-- words that ask for a transfer
pub asked_form : (m : XfrMode) (n : ℕ) (form : Option Form) → form ≡ Some (Transfer (words.mode_of m) n) → Some (Transfer (mode_of m) n) ≡ form
asked_form m n form e = sym (e ∙ ap (λ k. Some (Transfer k n)) (same_mode m))

pub asks_script : (m : XfrMode) (n : ℕ) (form : Option Form) → form ≡ Some (Transfer (words.mode_of m) n) → ¬ AsksNoScript form
asks_script m n form e other = other (words.mode_of m) n e

pub no_numbers_asked : (m : XfrMode) (n : ℕ) (form : Option Form) → form ≡ Some (Transfer (words.mode_of m) n) → (size seed : ℕ) → form ≢ Some (Generate size seed)
no_numbers_asked m n form e size seed f = let clash = sym e ∙ f in cc

pub words_asked : (m : XfrMode) (n : ℕ) (form : Option Form) (status : Status) → form ≡ Some (Transfer (words.mode_of m) n) → status ≢ Usage → TellsWords form status
words_asked m n form status e no_usage = record {
  usage = λ u. absurd (no_usage u);
  no_form = λ other. absurd (other.no_script (words.mode_of m) n e);
}

-- .. of that kind alone
pub script_asked : (m : XfrMode) (n : ℕ) (form : Option Form) (text : List ℕ) (f g h i : ℕ) (link : Crossed) (status : Status) → form ≡ Some (Transfer (words.mode_of m) n) → TellsScript (mode_of m) text f g h i link status
    → (mode : Mode) (readers : ℕ) → form ≡ Some (Transfer mode readers) → TellsScript mode text f g h i link status
script_asked m n form text f g h i link status e tells mode readers asked = subst (λ (k : Mode). TellsScript k text f g h i link status) (ap (mode_in mode) (asked_form m n form e ∙ asked)) tells
  where
    mode_in : Mode → Option Form → Mode
    mode_in d (Some (Transfer k l)) = k
    mode_in d _ = d
