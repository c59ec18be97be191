use Rattle.std.specs.Prelude.{refl}
use Rattle.zone_devices.proofs.Honesty.{hands_on_since}
use Rattle.zone_devices.proofs.loop_link.LoopLink.honesty_since.Goals as goal

pub returns : goal.returns
returns c old asked heard sent handed all went =
    let whole = c.honesty.ensures in
    record {
      requests = hands_on_since old.requests c.args.self.now.requests asked heard all.0 whole.requests went.requests;
      replies = hands_on_since old.replies c.args.self.now.replies sent handed all.1 whole.replies went.replies;
      no_fault = refl;
    }
