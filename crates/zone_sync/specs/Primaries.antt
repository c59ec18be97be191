-- What the program's primary is made of.
use Rattle.xfr_services.specs.declared.services.RefuseSvc.{RefuseSvc}

-- the service after the transfers, which refuses all that comes to it
abbrev pub refuser : RefuseSvc
refuser = record {}
