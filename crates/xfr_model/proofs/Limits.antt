-- Each update commits at most one version, after those before; updates within the numbers left; a longer list spells on.
use Rattle.std.proofs.Common.{◌≡◌, ℕ, ◌+◌, ◌≤◌, ◌<◌, arith, Bool, true, false, ◌&&◌, if◌then◌else◌, List, [], ◌∷◌, ◌++◌, length, take, refl, sym, ap, ◌∙◌, append_assoc, append-nil, length-append, Option, Some, None, is_some, Result, Ok, Err}
use Rattle.std.specs.Prelude.{nat_lt}
use Rattle.std.specs.Option.{option_map}
use Rattle.std.proofs.lemmas.Bool.{ltb-false, le-ltb, lt-ltb, ltb-true}
use Rattle.std.proofs.lemmas.List.{take_all, take_at}
use Rattle.dns_name.specs.Names.{under}
use Rattle.zone_model.specs.Version.{Version}
use Rattle.zone_model.specs.Edits.{Refusal, has_data, with_sets, add, delete, set_soa, close}
use Rattle.zone_model.specs.TransferText.{is_soa}
use Rattle.zone_model.specs.Spells.{Spelling, spelling}
use Rattle.zone_model.specs.Updates.{Update, DeleteAllRecords, DeleteRecord, AddRecord, BeginBatchDelete, BeginBatchAdd, Finished, Progress, UpdateFault, Edit, NotSoaRecord, AfterFinish, edited, finish, published, apply, apply_update, begin}
use Rattle.xfr_model.specs.Interpreter.{updates_in}
use Rattle.xfr_model.specs.Applying.{SpellsOn, then_applied, Applied, unless_refused, apply_all, Denied, NoNumber, within, Held, unless_halted, apply_within, CommitsWithin}
use Rattle.xfr_model.specs.Machine.{AtStart, run}
use Rattle.xfr_model.proofs.Refused.{commits_read, applies_on}
use Rattle.xfr_model.proofs.InTurn.{updates_on}

-- One update commits at most one version, after those committed before.
pub record Grows (p q : Progress) : Type 0 where
  pub new : List Version
  pub behind : q.committed ≡ p.committed ++ new
  pub few : length new ≤ 1

-- what a result's progress has committed
abbrev pub GrowsIf : Progress → Result Progress UpdateFault → Type 0
GrowsIf p (Ok q) = Grows p q
GrowsIf p (Err e) = Unit {0}

stays : (p q : Progress) → q.committed ≡ p.committed → Grows p q
stays p q h = record { new = []; behind = h ∙ sym (append-nil p.committed); few = grind arith }

one_more : (p q : Progress) (v : Version) → q.committed ≡ p.committed ++ v ∷ [] → Grows p q
one_more p q v h = record { new = v ∷ []; behind = h; few = grind arith }

edited_grows : (p : Progress) (o : Result Version Refusal) → GrowsIf p (edited p o)
edited_grows p (Ok v) = stays p (record p { pending = v }) refl
edited_grows p (Err e) = tt

apply_grows : (p : Progress) (u : Update) → GrowsIf p (apply p u)
apply_grows p DeleteAllRecords = stays p (record p { pending = with_sets p.pending []; replacing = true }) refl
apply_grows p (DeleteRecord r) = edited_grows p (delete p.pending r)
apply_grows p (AddRecord r) =
    elim (p.replacing && under r.owner p.pending.apex && has_data p.pending r) as (λ b. GrowsIf p (if b then Ok p else edited p (add p.pending r))) [
      | true ↦ stays p p refl
      | false ↦ edited_grows p (add p.pending r)
    ]
apply_grows p (BeginBatchDelete r) = one_more p (published p) (close p.pending) refl
apply_grows p (BeginBatchAdd r) =
    elim (is_soa r) as (λ b. GrowsIf p (if b then Ok (record p { pending = set_soa p.pending r }) else Err NotSoaRecord)) [
      | true ↦ stays p (record p { pending = set_soa p.pending r }) refl
      | false ↦ tt
    ]
apply_grows p (Finished r) =
    elim (is_soa r) as (λ b. GrowsIf p (finish (if b then Ok (record p { pending = set_soa p.pending r }) else Err NotSoaRecord))) [
      | true ↦ one_more p (record (published (record p { pending = set_soa p.pending r })) { finished = true }) (close (set_soa p.pending r)) refl
      | false ↦ tt
    ]

pub update_grows : (p : Progress) (u : Update) → GrowsIf p (apply_update p u)
update_grows p u =
    elim p.finished as (λ b. GrowsIf p (if b then Err AfterFinish else apply p u)) [
      | true ↦ tt
      | false ↦ apply_grows p u
    ]

-- all updates commit after what was committed before
pub record GrowsAll (p : Progress) (a : Applied) : Type 0 where
  pub new : List Version
  pub behind : a.progress.committed ≡ p.committed ++ new

all_grow : (us : List Update) (p : Progress) → GrowsAll p (apply_all p us)
all_grow [] p = record { new = []; behind = sym (append-nil p.committed) }
all_grow (u ∷ more) p = by (apply_update p u) (update_grows p u) (λ q. all_grow more q)
  where
    by : (o : Result Progress UpdateFault) → GrowsIf p o → ((q : Progress) → GrowsAll q (apply_all q more)) → GrowsAll p (unless_refused p (λ q. apply_all q more) o)
    by (Ok q) g next = let a = next q in record { new = g.new ++ a.new; behind = a.behind ∙ ap (λ l. l ++ a.new) g.behind ∙ append_assoc p.committed g.new a.new }
    by (Err e) g next = record { new = []; behind = sym (append-nil p.committed) }

-- The limit.

-- what updates within a limit make, by what they make without
pub record Cut (limit : ℕ) (h : Held) (a : Applied) : Type 0 where
  pub committed : h.progress.committed ≡ take limit a.progress.committed
  pub halt : h.halt ≡ (if nat_lt limit (length a.progress.committed) then Some NoNumber else option_map (λ e. Denied e) a.refused)

fits : (limit : ℕ) (p : Progress) (f : Option UpdateFault) → length p.committed ≤ limit → Cut limit (record { progress = p; halt = option_map (λ e. Denied e) f }) (record { progress = p; refused = f })
fits limit p f h = record {
  committed = sym (take_all limit p.committed h);
  halt = ap (λ b. if b then Some NoNumber else option_map (λ e. Denied e) f) (sym (le-ltb limit (length p.committed) h));
}

-- a commit without a number
no_number : (limit : ℕ) (p q : Progress) (a : Applied) → length p.committed ≤ limit → limit < length q.committed → Grows p q → GrowsAll q a → Cut limit (record { progress = p; halt = Some NoNumber }) a
no_number limit p q a small large g all =
    let size : length q.committed ≡ length p.committed + length g.new = ap (λ l. length l) g.behind ∙ length-append p.committed g.new in
    let whole : length a.progress.committed ≡ length q.committed + length all.new = ap (λ l. length l) all.behind ∙ length-append q.committed all.new in
    let full : length p.committed ≡ limit = omega (arith, small, large, size, g.few) in
    let over : limit < length a.progress.committed = omega (arith, large, whole) in
    record {
      committed = sym (ap (take limit) (all.behind ∙ ap (λ l. l ++ all.new) g.behind ∙ append_assoc p.committed g.new all.new) ∙ take_at p.committed (g.new ++ all.new) limit full);
      halt = ap (λ b. if b then Some NoNumber else option_map (λ e. Denied e) a.refused) (sym (lt-ltb limit (length a.progress.committed) over));
    }

cut : (limit : ℕ) (us : List Update) (p : Progress) → length p.committed ≤ limit → Cut limit (apply_within limit p us) (apply_all p us)
cut limit [] p h = fits limit p None h
cut limit (u ∷ more) p h = by (apply_update p u) (update_grows p u) (λ q. cut limit more q)
  where
    by : (o : Result Progress UpdateFault) → GrowsIf p o → ((q : Progress) → length q.committed ≤ limit → Cut limit (apply_within limit q more) (apply_all q more))
        → Cut limit (unless_halted p (λ q. apply_within limit q more) (within limit o)) (unless_refused p (λ q. apply_all q more) o)
    by (Err e) g next = fits limit p (Some e) h
    by (Ok q) g next = by_room (nat_lt limit (length q.committed)) refl
      where
        by_room : (b : Bool) → nat_lt limit (length q.committed) ≡ b → Cut limit (unless_halted p (λ x. apply_within limit x more) (if b then Err NoNumber else Ok q)) (apply_all q more)
        by_room true e = no_number limit p q (apply_all q more) h (ltb-true limit (length q.committed) e) g (all_grow more q)
        by_room false e = next q (ltb-false limit (length q.committed) e)

denied_edit : (o : Option Refusal) → option_map (λ e. Denied e) (option_map Edit o) ≡ option_map (λ e. Denied (Edit e)) o
denied_edit None = refl
denied_edit (Some e) = refl

pub commits_within : CommitsWithin
commits_within mode limit base rs =
    let c = cut limit (updates_in mode rs) (begin base) (grind arith) in
    let s = commits_read mode base rs in
    record {
      versions = c.committed ∙ ap (take limit) s.versions;
      halt = c.halt ∙ ap (λ l. if nat_lt limit (length l) then Some NoNumber else option_map (λ e. Denied e) (apply_all (begin base) (updates_in mode rs)).refused) s.versions
          ∙ ap (λ o. if nat_lt limit (length (spelling mode rs base).versions) then Some NoNumber else o) (ap (λ o. option_map (λ e. Denied e) o) s.refused ∙ denied_edit (spelling mode rs base).fault);
    }

-- updates in two lots
abbrev pub then_held : ℕ → Held → List Update → Held
then_held limit h more = if is_some h.halt then h else apply_within limit h.progress more

pub within-append : (limit : ℕ) (us more : List Update) (p : Progress) → apply_within limit p (us ++ more) ≡ then_held limit (apply_within limit p us) more
within-append limit [] more p = refl
within-append limit (u ∷ us) more p =
    elim (within limit (apply_update p u)) as (λ z. unless_halted p (λ q. apply_within limit q (us ++ more)) z ≡ then_held limit (unless_halted p (λ q. apply_within limit q us) z) more) [
      | Ok q ↦ within-append limit us more q
      | Err e ↦ refl
    ]

-- A longer list spells on.

-- a refusal is told by its kind
abbrev kind_of : Option UpdateFault → Option Refusal
kind_of None = None
kind_of (Some (Edit e)) = Some e
kind_of (Some NotSoaRecord) = None
kind_of (Some AfterFinish) = None

kind_back : (o : Option Refusal) → kind_of (option_map Edit o) ≡ o
kind_back None = refl
kind_back (Some e) = refl

grows_then : (a : Applied) (vs : List Update) → GrowsAll a.progress (then_applied a vs)
grows_then a vs = by (is_some a.refused)
  where
    by : (b : Bool) → GrowsAll a.progress (if b then a else apply_all a.progress vs)
    by true = record { new = []; behind = sym (append-nil a.progress.committed) }
    by false = all_grow vs a.progress

pub spells_on : SpellsOn
spells_on mode base xs ys =
    let us : List Update = updates_in mode xs in
    let vs : List Update = (run mode (run mode AtStart xs).place ys).updates in
    let s : Spelling = spelling mode xs base in
    let t : Spelling = spelling mode (xs ++ ys) base in
    let a : Applied = apply_all (begin base) us in
    let short = commits_read mode base xs in
    let long = commits_read mode base (xs ++ ys) in
    let all : apply_all (begin base) (updates_in mode (xs ++ ys)) ≡ then_applied a vs = ap (apply_all (begin base)) (updates_on mode xs ys) ∙ applies_on (begin base) us vs in
    let grown : GrowsAll a.progress (then_applied a vs) = grows_then a vs in
    record {
      new = grown.new;
      versions = sym long.versions ∙ ap (λ x. x.progress.committed) all ∙ grown.behind ∙ ap (λ l. l ++ grown.new) short.versions;
      stays = λ e h.
          let same : apply_all (begin base) (updates_in mode (xs ++ ys)) ≡ a = all ∙ ap (λ o. if is_some o then a else apply_all a.progress vs) (short.refused ∙ ap (option_map Edit) h) in
          ap (λ l. record { versions = l; fault = t.fault }) (sym long.versions ∙ ap (λ x. x.progress.committed) same ∙ short.versions)
          ∙ ap (λ o. record { versions = s.versions; fault = o }) (sym (kind_back t.fault) ∙ ap kind_of (sym long.refused ∙ ap (λ x. x.refused) same ∙ short.refused) ∙ kind_back s.fault);
    }
