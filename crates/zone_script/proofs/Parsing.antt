-- The answers to a script, from what the lines say.
use Rattle.std.proofs.Common.{◌≡◌, ◌⊎◌, inl, inr, ℕ, ◌+◌, ◌==◌, Bool, true, false, List, [], ◌∷◌, refl, sym, ap, ◌∙◌, subst, Result, Ok, Err, IfOk, IfErr, IfSome}
use Rattle.tsig_port.specs.Tsig.{TsigKey}
use Rattle.zone_script.specs.Script as scripts
use Rattle.zone_script.specs.Script.{script_of, script_lines, read_lines, no_script}
use Rattle.zone_script.specs.ScriptReaders.{wire_readers}
use Rattle.zone_script.specs.Keeping.{nothing_read, take_text, finished, Gives}
use Rattle.zone_script.specs.Causes.{line_in}
use Rattle.zone_script.specs.declared.reading.Reading.{Reading}
use Rattle.zone_script.specs.declared.script.Script.{Script}
use Rattle.zone_script.specs.declared.script.ScriptError.{ScriptError}
use Rattle.zone_script.specs.declared.script.ScriptError.TheVariants.{Line, Memory}
use Rattle.zone_script.proofs.LaterLines.{GivesAlike}
use Rattle.zone_script.proofs.Agreement.{OpensAs, Stands, OkAlike, TextAlike, read_text, on_from, over_end, text_alike, finish_alike, begin_stands}
use Rattle.zone_script.proofs.FileLaws.{FileLaws}

-- what a result says of a text: the script that it is, or the line that it names
pub record Tells (r : Result Script ScriptError) (y : Result (scripts.Script TsigKey) ℕ) : Type 0 where
  pub ok : IfOk r (λ g. (t : scripts.Script TsigKey) × (y ≡ Ok t) × Gives t g)
  pub bad : IfErr r (λ e. IfSome (line_in e) (λ n. y ≡ Err n))

same_line : (y : Result (scripts.Script TsigKey) ℕ) (m n : ℕ) → y ≡ Err m → y ≡ Err n → m ≡ n
same_line y m n p q = cc

pub only_names : (r : Result Script ScriptError) (y : Result (scripts.Script TsigKey) ℕ) → Tells r y → (n : ℕ) → y ≡ Err n → (r ≡ Err (Line n)) ⊎ (r ≡ Err Memory)
only_names (Ok g) y h n e = let clash : Ok h.ok.0 ≡ Err n = sym h.ok.1 ∙ e in absurd cc
only_names (Err (Line m)) y h n e = inl (ap (λ k. Err (Line k)) (same_line y m n h.bad e))
only_names (Err Memory) y h n e = inr refl

-- what is kept stands for a script, of which the lines that are left say what the whole text says
pub record Reads (k : Reading) (n : ℕ) (rest text : List ℕ) : Type 0 where
  pub script : scripts.Script TsigKey
  pub stands : Stands k script
  pub says : read_lines wire_readers (Ok script) n (script_lines rest) ≡ script_of wire_readers text

pub reads_nothing : (text : List ℕ) → Reads nothing_read 1 text text
reads_nothing text = record { script = no_script; stands = begin_stands; says = refl }

-- ---- where a line is refused
pub tells_at_line : (laws : FileLaws) (e : ScriptError) (k : Reading) (n : ℕ) (line rest behind text : List ℕ) → IfSome (line_in e) (λ m. take_text k n line ≡ Err m) → script_lines rest ≡ line ∷ script_lines behind
    → Reads k n rest text → Tells (Err e) (script_of wire_readers text)
tells_at_line laws (Line m) k n line rest behind text bad lines h =
    let refused : read_text h.script n line ≡ Err m = subst (λ x. TextAlike x h.script n line) bad (text_alike laws k h.script n line h.stands) in
    record {
      ok = tt;
      bad = sym h.says ∙ ap (read_lines wire_readers (Ok h.script) n) lines ∙ ap (λ x. read_lines wire_readers x (n + 1) (script_lines behind)) refused;
    }
tells_at_line laws Memory k n line rest behind text bad lines h = record { ok = tt; bad = tt }

-- ---- where one is taken
pub reads_more : (laws : FileLaws) (k j : Reading) (n : ℕ) (line rest behind text : List ℕ) → take_text k n line ≡ Ok j → (j.stage == 6) ≡ false → script_lines rest ≡ line ∷ script_lines behind
    → Reads k n rest text → Reads j (n + 1) behind text
reads_more laws k j n line rest behind text taken going lines h =
    let alike : OkAlike (j.stage == 6) j h.script n line = subst (λ x. TextAlike x h.script n line) taken (text_alike laws k h.script n line h.stands) in
    let next : OkAlike false j h.script n line = subst (λ b. OkAlike b j h.script n line) going alike in
    record {
      script = next.0;
      stands = next.1;
      says = ap (λ x. read_lines wire_readers x (n + 1) (script_lines behind)) (sym next.2) ∙ ap (read_lines wire_readers (Ok h.script) n) (sym lines) ∙ h.says;
    }

-- ---- from the first edit or question on, or at the end

tells_from : (laws : FileLaws) (r : Result Script ScriptError) (k : Reading) (s : scripts.Script TsigKey) (n : ℕ) (lines : List (List ℕ)) (text : List ℕ)
    → IfOk r (λ g. finished k n lines ≡ Ok g) → IfErr r (λ e. IfSome (line_in e) (λ m. finished k n lines ≡ Err m)) → OpensAs k s → on_from s n lines ≡ script_of wire_readers text → Tells r (script_of wire_readers text)
tells_from laws r k s n lines text ok bad opens says = by r ok bad
  where
    alike : GivesAlike (finished k n lines) (script_of wire_readers text)
    alike = subst (GivesAlike (finished k n lines)) says (finish_alike laws k s n lines opens)

    given : (g : Script) (y : Result (scripts.Script TsigKey) ℕ) → GivesAlike (Ok g) y → (t : scripts.Script TsigKey) × (y ≡ Ok t) × Gives t g
    given g (Ok t) h = (t, refl, h)
    given g (Err m) h = absurd h

    named : (m : ℕ) (y : Result (scripts.Script TsigKey) ℕ) → GivesAlike (Err m) y → y ≡ Err m
    named m (Ok t) h = absurd h
    named m (Err d) h = ap Err (sym h)

    by : (q : Result Script ScriptError) → IfOk q (λ g. finished k n lines ≡ Ok g) → IfErr q (λ e. IfSome (line_in e) (λ m. finished k n lines ≡ Err m)) → Tells q (script_of wire_readers text)
    by (Ok g) a b = record { ok = given g (script_of wire_readers text) (subst (λ x. GivesAlike x (script_of wire_readers text)) a alike); bad = tt }
    by (Err (Line m)) a b = record { ok = tt; bad = named m (script_of wire_readers text) (subst (λ x. GivesAlike x (script_of wire_readers text)) b alike) }
    by (Err Memory) a b = record { ok = tt; bad = tt }

pub tells_over : (laws : FileLaws) (r : Result Script ScriptError) (k j : Reading) (n : ℕ) (line rest behind text : List ℕ) → take_text k n line ≡ Ok j → (j.stage == 6) ≡ true → script_lines rest ≡ line ∷ script_lines behind
    → IfOk r (λ g. finished j n (script_lines rest) ≡ Ok g) → IfErr r (λ e. IfSome (line_in e) (λ m. finished j n (script_lines rest) ≡ Err m))
    → Reads k n rest text → Tells r (script_of wire_readers text)
tells_over laws r k j n line rest behind text taken over lines ok bad h =
    let alike : OkAlike (j.stage == 6) j h.script n line = subst (λ x. TextAlike x h.script n line) taken (text_alike laws k h.script n line h.stands) in
    let late : OkAlike true j h.script n line = subst (λ b. OkAlike b j h.script n line) over alike in
    tells_from laws r j h.script n (script_lines rest) text ok bad late.0
    (ap (on_from h.script n) lines ∙ sym (late.1 (script_lines behind)) ∙ ap (read_lines wire_readers (Ok h.script) n) (sym lines) ∙ h.says)

pub tells_at_end : (laws : FileLaws) (r : Result Script ScriptError) (k : Reading) (n : ℕ) (rest text : List ℕ) → IfOk r (λ g. finished k n (script_lines []) ≡ Ok g) → IfErr r (λ e. IfSome (line_in e) (λ m. finished k n (script_lines []) ≡ Err m)) → rest ≡ []
    → Reads k n rest text → Tells r (script_of wire_readers text)
tells_at_end laws r k n rest text ok bad empty h =
    tells_from laws r k h.script n [] text ok bad h.stands.opens
    (sym (over_end h.script n h.stands.opens.early) ∙ ap (λ l. read_lines wire_readers (Ok h.script) n (script_lines l)) (sym empty) ∙ h.says)
