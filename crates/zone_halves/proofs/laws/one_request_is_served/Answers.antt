use Rattle.zone_halves.proofs.Programs.{serves_one}
use Rattle.zone_halves.proofs.laws.one_request_is_served.Goals as goal

pub returns : goal.returns
returns c p at request written short k = c.one_request_is_answered.ensures p at request k.source written k.served short (serves_one _ p at request written k)
