use Rattle.exchange_tests.proofs.zone_transfer_tests.SenderServiceOptionKey.call.Goals as goal

pub returns-in-Ok-clause-failing : goal.returns-in-Ok-clause-failing
returns-in-Ok-clause-failing g c = c.made_replies_do_not_fail.ensures c.args.request.message c.in-Ok.replies
