-- What the code keeps of a script's edits and questions, and what the definition says of them.
use Rattle.std.proofs.Common.{◌≡◌, ℕ, ◌+◌, ◌==◌, Bool, true, false, ◌&&◌, ◌||◌, not, nat_le, nat_lt, if◌then◌else◌, List, [], ◌∷◌, ◌++◌, refl, sym, ap, ◌∙◌, subst, arith, Option, Some, None, is_some, Result, Ok, Err, IfSome}
use Rattle.std.proofs.lemmas.Bool.Decides.{nat_tests}
use Rattle.std.specs.Prelude.{option_map}
use Rattle.std.specs.Result.{result_ok, result_unwrap_or}
use Rattle.dns_name.specs.Names.{Name}
use Rattle.dns_rdata.specs.Records.{Record}
use Rattle.tsig_port.specs.Tsig.{TsigKey}
use Rattle.zone_model.specs.Version.{Version}
use Rattle.zone_model.specs.Edits.{Refusal, add, delete, close}
use Rattle.zone_model.specs.Difference.{Difference}
use Rattle.zone_model.specs.Offer.{difference_if}
use Rattle.zone_model.specs.Commits as zones
use Rattle.zone_model.specs.Classify.{opened}
use Rattle.zone_script.specs.Script as scripts
use Rattle.zone_script.specs.Script.{Line, ZoneLine, KeyLine, AtLine, PrimaryLine, SecondaryLine, ChangeLine, QueryLine, Change, Plus, Minus, Commit, stage_of, is_skipped, script_lines, read_line, read_lines, read_next, next_line, take_from, or_line, begun, opened_before, opening_fault, changed, committed_by}
use Rattle.zone_script.specs.ScriptReaders.{wire_readers}
use Rattle.zone_script.specs.Keeping.{is_of_class, Edited, with_pending, with_commit, make_change, may_change, take_change, take_later, take_later_read, take_later_text, take_rest, script_with, told_commits, Gives}
use Rattle.zone_script.specs.declared.reading.Opened.{Opened}
use Rattle.zone_script.specs.declared.script.Script.{Script}
use Rattle.zone_script.specs.declared.script.ScriptError.{ScriptError}
use Rattle.zone_script.specs.declared.script.ScriptError.TheVariants as at
use Rattle.zone_script.specs.Causes.{line_in}

abbrev pub GivesAlike : Result Script ℕ → Result (scripts.Script TsigKey) ℕ → Type 0
GivesAlike (Ok g) (Ok t) = Gives t g
GivesAlike (Ok g) (Err n) = ⊥
GivesAlike (Err m) (Ok t) = ⊥
GivesAlike (Err m) (Err n) = m ≡ n

-- ---- changes in a row, and what they commit

abbrev pub changed_all : Version → List Change → Version
changed_all v [] = v
changed_all v (c ∷ more) = changed_all (changed v c) more

changed_more : (v : Version) (cs : List Change) (c : Change) → changed_all v (cs ++ c ∷ []) ≡ changed (changed_all v cs) c
changed_more v [] c = refl
changed_more v (d ∷ cs) c = changed_more (changed v d) cs c

abbrev commits_now : Version → Change → List Version
commits_now v Commit = close v ∷ []
commits_now v (Plus r) = []
commits_now v (Minus r) = []

committed_more : (v : Version) (cs : List Change) (c : Change) → committed_by v (cs ++ c ∷ []) ≡ committed_by v cs ++ commits_now (changed_all v cs) c
committed_more v [] Commit = refl
committed_more v [] (Plus r) = refl
committed_more v [] (Minus r) = refl
committed_more v (Commit ∷ cs) c = ap (λ vs. close v ∷ vs) (committed_more (close v) cs c)
committed_more v (Plus r ∷ cs) c = committed_more (changed v (Plus r)) cs c
committed_more v (Minus r ∷ cs) c = committed_more (changed v (Minus r)) cs c

no_more : (vs : List Version) → vs ++ [] ≡ vs
no_more [] = refl
no_more (v ∷ vs) = ap (λ ws. v ∷ ws) (no_more vs)

abbrev Told : Type 0
Told = List (zones.Commit × Option Difference)

-- the commit that was told last
abbrev pub latest : zones.Commit → Told → zones.Commit
latest c [] = c
latest c (x ∷ more) = latest x.0 more

latest_more : (c : zones.Commit) (xs : Told) (x : zones.Commit × Option Difference) → latest c (xs ++ x ∷ []) ≡ x.0
latest_more c [] x = refl
latest_more c (y ∷ xs) x = latest_more y.0 xs x

abbrev numbered : zones.Commit → Version → zones.Commit
numbered last v = record { number = last.number + 1; version = v }

told_more : (c : zones.Commit) (vs : List Version) (v : Version)
    → told_commits c (vs ++ v ∷ []) ≡ told_commits c vs ++ (numbered (latest c (told_commits c vs)) v, difference_if (latest c (told_commits c vs)).version v) ∷ []
told_more c [] v = refl
told_more c (w ∷ vs) v = ap (λ xs. (numbered c w, difference_if c.version w) ∷ xs) (told_more (numbered c w) vs v)

abbrev pub told_of : zones.Commit → List Change → Told
told_of c cs = told_commits c (committed_by c.version cs)

-- ---- what is kept stands for a script as far as it was read

abbrev stage_in : Bool → ℕ
stage_in asks = if asks then 7 else 6

pub record EditsStand (o : Opened) (e : Edited) (s : scripts.Script TsigKey) : Type 0 where
  pub key : s.key ≡ Some o.key
  pub at_primary : o.at_primary ≡ s.at_primary
  pub at_secondary : o.at_secondary ≡ s.at_secondary
  pub primary : o.primary ≡ record { number = 0; version = close (opened s.primary) }
  pub secondary : o.secondary ≡ record { number = 0; version = close (opened s.secondary) }
  pub stage : s.stage ≡ stage_in e.editing.asks
  pub class : e.editing.class ≡ s.primary.class
  pub queries : e.editing.queries ≡ s.queries
  pub pending : e.pending ≡ s.pending
  pub edits : s.pending ≡ changed_all o.primary.version s.changes
  pub commits : e.editing.commits ≡ told_of o.primary s.changes
  pub current : e.current ≡ latest o.primary e.editing.commits

abbrev pub LaterAlike : Opened → Result Edited ℕ → Result (scripts.Script TsigKey) ℕ → Type 0
LaterAlike o (Ok e) (Ok s) = EditsStand o e s
LaterAlike o (Ok e) (Err n) = ⊥
LaterAlike o (Err m) (Ok s) = ⊥
LaterAlike o (Err m) (Err n) = m ≡ n

pub refused_alike : (m n : ℕ) (lines : List (List ℕ)) → GivesAlike (Err m) (read_lines wire_readers (Err m) n lines)
refused_alike m n lines = refl

keyed : (o : Opened) (e : Edited) (s : scripts.Script TsigKey) → EditsStand o e s → is_some s.key ≡ true
keyed o e s h = ap is_some h.key

-- the zones aren't opened again
opened_once : (o : Opened) (e : Edited) (s : scripts.Script TsigKey) (m : ℕ) → EditsStand o e s → opened_before s m ≡ Ok s
opened_once o e s m h = ap (λ k. if nat_le 6 m && nat_lt k 6 then begun s (opening_fault s) else Ok s) h.stage ∙ by (nat_le 6 m) e.editing.asks
  where
    by : (b asks : Bool) → (if b && nat_lt (stage_in asks) 6 then begun s (opening_fault s) else Ok s) ≡ Ok s
    by true true = refl
    by true false = refl
    by false true = refl
    by false false = refl

may_come_is : (o : Opened) (e : Edited) (s : scripts.Script TsigKey) (m : ℕ) → EditsStand o e s
    → scripts.may_come s m ≡ (nat_le (stage_in e.editing.asks) m && not (scripts.is_once m && (stage_in e.editing.asks == m)) && ((m == 1) || nat_le 1 (stage_in e.editing.asks)) && (nat_le m 2 || true))
may_come_is o e s m h i =
    nat_le (h.stage i) m && not (scripts.is_once m && (h.stage i == m)) && ((m == 1) || nat_le 1 (h.stage i)) && (nat_le m 2 || keyed o e s h i)

-- ---- lines of the opening come too late

module _ (o : Opened) (e : Edited) (s : scripts.Script TsigKey) (n : ℕ) (h : EditsStand o e s) where
  too_late : (m : ℕ) (y : Result (scripts.Script TsigKey) ℕ) → nat_le m 5 ≡ true → (if scripts.may_come s m && true then y else Err n) ≡ Err n
  too_late m y early = ap (λ b. if b && true then y else Err n) (may_come_is o e s m h ∙ by e.editing.asks)
    where
      passed : (asks : Bool) → nat_le (stage_in asks) m ≡ false
      passed true = grind (arith, nat_tests)
      passed false = grind (arith, nat_tests)

      by : (asks : Bool) → (nat_le (stage_in asks) m && not (scripts.is_once m && (stage_in asks == m)) && ((m == 1) || nat_le 1 (stage_in asks)) && (nat_le m 2 || true)) ≡ false
      by asks = ap (λ b. b && not (scripts.is_once m && (stage_in asks == m)) && ((m == 1) || nat_le 1 (stage_in asks)) && (nat_le m 2 || true)) (passed asks)

  refused : (m : ℕ) (y : Result (scripts.Script TsigKey) ℕ) → nat_le m 5 ≡ true → LaterAlike o (Err n) (if scripts.may_come s m && true then y else Err n)
  refused m y early = subst (LaterAlike o (Err n)) (sym (too_late m y early)) refl

  -- ---- questions

  query_stands : (name : Name) (rtype : ℕ) → LaterAlike o (take_later e n (QueryLine name rtype)) (next_line s n (QueryLine name rtype))
  query_stands name rtype =
      subst (LaterAlike o (take_later e n (QueryLine name rtype))) (sym (ap (λ b. if b && true then take_from n (QueryLine name rtype) (opened_before s 7) else Err n) (may_come_is o e s 7 h ∙ by e.editing.asks) ∙ ap (take_from n (QueryLine name rtype)) (opened_once o e s 7 h)))
      (record {
        key = h.key;
        at_primary = h.at_primary;
        at_secondary = h.at_secondary;
        primary = h.primary;
        secondary = h.secondary;
        stage = refl;
        class = h.class;
        queries = ap (λ qs. qs ++ (name, rtype) ∷ []) h.queries;
        pending = h.pending;
        edits = h.edits;
        commits = h.commits;
        current = h.current;
      })
    where
      by : (asks : Bool) → (nat_le (stage_in asks) 7 && not (scripts.is_once 7 && (stage_in asks == 7)) && ((7 == 1) || nat_le 1 (stage_in asks)) && (nat_le 7 2 || true)) ≡ true
      by true = refl
      by false = refl

  -- ---- edits

  -- an edit before the questions
  abbrev edited_script : Version → Change → scripts.Script TsigKey
  edited_script v c = record s { stage = 6; pending = v; changes = s.changes ++ c ∷ [] }

  no_commits : (vs : List Version) → vs ≡ [] → committed_by o.primary.version s.changes ++ vs ≡ committed_by o.primary.version s.changes
  no_commits vs none = ap (λ ws. committed_by o.primary.version s.changes ++ ws) none ∙ no_more (committed_by o.primary.version s.changes)

  pending_stands : (c : Change) (v : Version) → e.editing.asks ≡ false → commits_now (changed_all o.primary.version s.changes) c ≡ [] → changed s.pending c ≡ v → EditsStand o (record e { pending = v }) (edited_script v c)
  pending_stands c v asks none is = record {
    key = h.key;
    at_primary = h.at_primary;
    at_secondary = h.at_secondary;
    primary = h.primary;
    secondary = h.secondary;
    stage = sym (ap stage_in asks);
    class = h.class;
    queries = h.queries;
    pending = refl;
    edits = sym is ∙ ap (λ w. changed w c) h.edits ∙ sym (changed_more o.primary.version s.changes c);
    commits = h.commits ∙ ap (told_commits o.primary) (sym (committed_more o.primary.version s.changes c ∙ no_commits (commits_now (changed_all o.primary.version s.changes) c) none));
    current = h.current;
  }

  unwrapped : (r : Result Version Refusal) (v w : Version) → result_ok r ≡ Some v → result_unwrap_or r w ≡ v
  unwrapped (Ok u) v w is = cc
  unwrapped (Err why) v w is = absurd cc

  edit_stands : (c : Change) (r : Result Version Refusal) → e.editing.asks ≡ false → commits_now (changed_all o.primary.version s.changes) c ≡ [] → changed s.pending c ≡ result_unwrap_or r s.pending
      → LaterAlike o (with_pending e n (result_ok r)) (or_line n (option_map (λ v. edited_script v c) (result_ok r)))
  edit_stands c r asks none is = by (result_ok r) refl
    where
      by : (x : Option Version) → result_ok r ≡ x → LaterAlike o (with_pending e n x) (or_line n (option_map (λ v. edited_script v c) x))
      by None got = refl
      by (Some v) got = pending_stands c v asks none (is ∙ unwrapped r v s.pending got)

  commit_stands : e.editing.asks ≡ false → EditsStand o (with_commit e) (edited_script (close s.pending) Commit)
  commit_stands asks =
      let now : zones.Commit = numbered e.current (close e.pending) in
      let last : e.current ≡ latest o.primary (told_of o.primary s.changes) = h.current ∙ ap (latest o.primary) h.commits in
      let version : close (changed_all o.primary.version s.changes) ≡ close e.pending = ap close (sym (h.pending ∙ h.edits)) in
      record {
        key = h.key;
        at_primary = h.at_primary;
        at_secondary = h.at_secondary;
        primary = h.primary;
        secondary = h.secondary;
        stage = sym (ap stage_in asks);
        class = h.class;
        queries = h.queries;
        pending = ap close h.pending;
        edits = ap close h.edits ∙ sym (changed_more o.primary.version s.changes Commit);
        commits = sym (
            ap (told_commits o.primary) (committed_more o.primary.version s.changes Commit ∙ ap (λ v. committed_by o.primary.version s.changes ++ v ∷ []) version)
            ∙ told_more o.primary (committed_by o.primary.version s.changes) (close e.pending)
            ∙ (λ i. (sym h.commits i) ++ (numbered (sym last i) (close e.pending), difference_if (sym last i).version (close e.pending)) ∷ []));
        current = sym (latest_more o.primary e.editing.commits (now, difference_if e.current.version (close e.pending)));
      }

  made_stands : (c : Change) → e.editing.asks ≡ false → LaterAlike o (make_change e n c) (take_from n (ChangeLine c) (Ok s))
  made_stands Commit asks = commit_stands asks
  made_stands (Plus r) asks = subst (λ v. LaterAlike o (with_pending e n (result_ok (add v r))) (take_from n (ChangeLine (Plus r)) (Ok s))) (sym h.pending) (edit_stands (Plus r) (add s.pending r) asks refl refl)
  made_stands (Minus r) asks = subst (λ v. LaterAlike o (with_pending e n (result_ok (delete v r))) (take_from n (ChangeLine (Minus r)) (Ok s))) (sym h.pending) (edit_stands (Minus r) (delete s.pending r) asks refl refl)

  class_is : (c : Change) → is_of_class e.editing.class (ChangeLine c) ≡ scripts.is_of_class s (ChangeLine c)
  class_is Commit = refl
  class_is (Plus r) = ap (λ k. r.class == k) h.class
  class_is (Minus r) = ap (λ k. r.class == k) h.class

  change_stands : (c : Change) → LaterAlike o (take_change e n c) (next_line s n (ChangeLine c))
  unfolding may_change
  change_stands c =
      subst (LaterAlike o (if not e.editing.asks && is_of_class e.editing.class (ChangeLine c) then make_change e n c else Err n))
      (sym (
      (λ i. if (may_come_is o e s 6 h ∙ may_by e.editing.asks) i && sym (class_is c) i then take_from n (ChangeLine c) (opened_once o e s 6 h i) else Err n)))
      (by e.editing.asks (is_of_class e.editing.class (ChangeLine c)) refl)
    where
      may_by : (asks : Bool) → (nat_le (stage_in asks) 6 && not (scripts.is_once 6 && (stage_in asks == 6)) && ((6 == 1) || nat_le 1 (stage_in asks)) && (nat_le 6 2 || true)) ≡ not asks
      may_by true = refl
      may_by false = refl

      by : (asks b : Bool) → e.editing.asks ≡ asks → LaterAlike o (if not asks && b then make_change e n c else Err n) (if not asks && b then take_from n (ChangeLine c) (Ok s) else Err n)
      by true b is = refl
      by false true is = made_stands c is
      by false false is = refl

  -- ---- one line

  line_stands : (line : Line TsigKey) → LaterAlike o (take_later e n line) (next_line s n line)
  line_stands (ZoneLine apex class) = refused 1 (take_from n (ZoneLine apex class) (Ok s)) refl
  line_stands (KeyLine key) = refused 2 (take_from n (KeyLine key) (Ok s)) refl
  line_stands (AtLine p q) = refused 3 (take_from n (AtLine p q) (Ok s)) refl
  line_stands (PrimaryLine r) = refused 4 (take_from n (PrimaryLine r) (Ok s)) refl
  line_stands (SecondaryLine r) = refused 5 (take_from n (SecondaryLine r) (Ok s)) refl
  line_stands (ChangeLine c) = change_stands c
  line_stands (QueryLine name rtype) = query_stands name rtype

  text_stands : (l : List ℕ) → LaterAlike o (take_later_text e n l) (if is_skipped l then Ok s else read_next s n (read_line wire_readers l))
  text_stands l = by (is_skipped l)
    where
      by_line : (x : Option (Line TsigKey)) → LaterAlike o (take_later_read e n x) (read_next s n x)
      by_line None = refl
      by_line (Some line) = line_stands line

      by : (b : Bool) → LaterAlike o (if b then Ok e else take_later_read e n (read_line wire_readers l)) (if b then Ok s else read_next s n (read_line wire_readers l))
      by true = h
      by false = by_line (read_line wire_readers l)

  -- ---- the end

  end_alike : GivesAlike (script_with o (Ok e)) (scripts.at_end s n)
  end_alike =
      subst (GivesAlike (script_with o (Ok e))) (sym ((λ i. if keyed o e s h i then opened_once o e s 7 h i else Err n)))
      (record {
        key = h.key;
        at_primary = h.at_primary;
        at_secondary = h.at_secondary;
        opening = h.primary;
        commits = h.commits;
        secondary = h.secondary;
        queries = h.queries;
      })

-- ---- all lines

pub rest_alike : (o : Opened) (x : Result Edited ℕ) (y : Result (scripts.Script TsigKey) ℕ) (n : ℕ) (lines : List (List ℕ)) → LaterAlike o x y → GivesAlike (script_with o (take_rest x n lines)) (read_lines wire_readers y n lines)
rest_alike o (Ok e) (Ok s) n [] h = end_alike o e s n h
rest_alike o (Ok e) (Ok s) n (l ∷ more) h =
    rest_alike o (take_later_text e n l) (if is_skipped l then Ok s else read_next s n (read_line wire_readers l)) (n + 1) more (text_stands o e s n h l)
rest_alike o (Ok e) (Err d) n lines h = absurd h
rest_alike o (Err m) (Ok s) n lines h = absurd h
rest_alike o (Err m) (Err d) n [] h = h
rest_alike o (Err m) (Err d) n (l ∷ more) h = h

-- where a line is refused
stays : (m n : ℕ) (lines : List (List ℕ)) → take_rest (Err m) n lines ≡ Err m
stays m n [] = refl
stays m n (l ∷ more) = refl

pub rest_refused : (error : ScriptError) (e : Edited) (n : ℕ) (line rest behind : List ℕ) (whole : Result Edited ℕ) → IfSome (line_in error) (λ m. take_later_text e n line ≡ Err m) → script_lines rest ≡ line ∷ script_lines behind
    → take_rest (Ok e) n (script_lines rest) ≡ whole → IfSome (line_in error) (λ m. whole ≡ Err m)
rest_refused (at.Line m) e n line rest behind whole bad lines is =
    sym is ∙ ap (take_rest (Ok e) n) lines ∙ ap (λ x. take_rest x (n + 1) (script_lines behind)) bad ∙ stays m (n + 1) (script_lines behind)
rest_refused at.Memory e n line rest behind whole bad lines is = tt
