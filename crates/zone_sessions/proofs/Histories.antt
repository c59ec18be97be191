-- A history with one commit more.
use Rattle.std.proofs.Common.{◌≡◌, ◌+◌, ◌∙◌, [], ◌∷◌, ◌++◌, sym, ap, Option, Some, unwrap_or}
use Rattle.published.specs.Commits.{latest, MayFollow}
use Rattle.published.specs.History.{Past}
use Rattle.zone_model.specs.Commits.{Commit, CommitList}
use Rattle.zone_reads.specs.Session.{with_commit}

pub may_follow : (commits : CommitList) (last next : Commit) → latest commits ≡ Some last → next.number ≡ last.number + 1 → MayFollow (λ (c : Commit). c.number) commits next
may_follow commits last next is e found at = e ∙ ap (λ (o : Option Commit). (unwrap_or o last).number + 1) (sym is ∙ at)

pub is_with_commit : (p q : Past Commit) (c : Commit) → q.book ≡ p.book → q.list ≡ p.list ++ c ∷ [] → q.last ≡ c → q ≡ with_commit p c
is_with_commit p q c book list last = λ i. record { book = book i; list = list i; last = last i }
