use Rattle.name_keys.proofs.Spelling.{plain_at, last_at}
use Rattle.name_keys.proofs.key.octet_at.Goals as goal
use Rattle.name_keys.proofs.key.octet_at.Goals.{else-piece-at-eq1-via-then-piece-at-eq1+else-next-piece, else-piece-at-eq1-via-else-piece-at-eq1}

pub returns-else-piece-at-eq1-clause-octet : goal.returns-else-piece-at-eq1-clause-octet
returns-else-piece-at-eq1-clause-octet c =
    elim c.else-piece-at-eq1.branch [
      | else-piece-at-eq1-via-then-piece-at-eq1+else-next-piece w ↦ last_at c.args.piece.now c.args.at c.requires w.if-next-piece.false
      | else-piece-at-eq1-via-else-piece-at-eq1 w ↦ plain_at c.args.piece.now c.args.at c.requires w.if-piece-at-eq1.false
    ]
