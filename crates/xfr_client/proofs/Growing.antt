-- How a zone's history grows around a transfer.
use Rattle.std.proofs.Common.{◌≡◌, List, [], ◌∷◌, ◌++◌, append_assoc, append-nil, refl, sym, ap, ◌∙◌, subst}
use Rattle.published.specs.History.{Past}
use Rattle.zone_model.specs.Commits.{Commit}
use Rattle.zone_reads.specs.Session.{Session, with_commit, rolled_back}
use Rattle.xfr_client.specs.Growing.{Grows}

-- two in a row are one
abbrev pub grows_on : (p q r : Past Commit) (before between later : List Commit) → Grows p q before between → Grows q r between later → Grows p r before later
grows_on p q r before between later g h = record {
  book = h.book ∙ g.book;
  made = g.made ++ h.made;
  handles = h.handles ∙ ap (λ l. l ++ h.made) g.handles ∙ append_assoc before g.made h.made;
  commits = h.commits ∙ ap (λ l. l ++ h.made) g.commits ∙ append_assoc p.list g.made h.made;
}

-- nothing was committed
abbrev pub grows_none : (p q : Past Commit) (before later : List Commit) → q ≡ p → later ≡ before → Grows p q before later
grows_none p q before later e h = record {
  book = ap (λ x. x.book) e;
  made = [];
  handles = h ∙ sym (append-nil before);
  commits = ap (λ x. x.list) e ∙ sym (append-nil p.list);
}

-- one commit, of which a handle was taken
abbrev pub grows_one : (p q : Past Commit) (before later : List Commit) (c : Commit) → q ≡ with_commit p c → later ≡ before ++ c ∷ [] → Grows p q before later
grows_one p q before later c e h = record { book = ap (λ x. x.book) e; made = c ∷ []; handles = h; commits = ap (λ x. x.list) e }

-- a session that stays but for what is pending, or for its handle
pub grows_still : (s t : Session) (before later : List Commit) → t.past ≡ s.past → later ≡ before → Grows s.past t.past before later
grows_still s t before later e h = grows_none s.past t.past before later e h

-- the same of a session that is rolled back, or told otherwise
pub grows_rolled : (p : Past Commit) (s t : Session) (before later : List Commit) → s ≡ rolled_back t → Grows p t.past before later → Grows p s.past before later
grows_rolled p s t before later e g = subst (λ q. Grows p q before later) (sym (ap (λ x. x.past) e)) g

pub grows_at : (p : Past Commit) (s t : Session) (before later : List Commit) → Grows p s.past before later → s ≡ t → Grows p t.past before later
grows_at p s t before later g e = subst (λ (x : Session). Grows p x.past before later) e g
