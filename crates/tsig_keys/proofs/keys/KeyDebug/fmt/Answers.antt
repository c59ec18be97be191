use Rattle.tsig_keys.proofs.keys.KeyDebug.fmt.Goals as goal

pub returns : goal.returns
returns g c = rw (← c.self.view_is) (record { writes = c.write.ensures.writes })
