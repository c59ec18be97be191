-- A node of a session: a name of the zone that it edits (RFC 1034, 3.1).
use Rattle.std.specs.Prelude.{Bool}
use Rattle.std.specs.Borrow.{GName}
use Rattle.dns_name.specs.Names.{Name}
use Rattle.zone_model.specs.Version.{Version}
use Rattle.zone_reads.specs.Session.{Session, opened_session, with_pending}

pub record Node : Type 0 where
  pub session : Session
  pub name : Name
  -- the borrow of the session, which ends with the node
  pub lender : GName

-- the node of the apex, as a session opens it
abbrev pub opened_node : Session → Bool → GName → Node
opened_node s create_diff lender = record { session = opened_session s create_diff; name = s.pending.apex; lender = lender }

-- the node with another version pending
abbrev pub with_edit : Node → Version → Node
with_edit n v = record n { session = with_pending n.session v }
