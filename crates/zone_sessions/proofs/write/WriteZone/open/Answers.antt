use Rattle.std.proofs.Common.{◌≡◌, true, sym, subst, ap, ◌∙◌}
use Rattle.dns_name.specs.Names.{Name, under}
use Rattle.zone_model.specs.Version.{Version}
use Rattle.zone_reads.proofs.NodeNames.{under_itself}
use Rattle.zone_sessions.proofs.write.WriteZone.open.Goals as goal

-- The apex is in the zone.
pub invariant_of-result : goal.invariant_of-result
invariant_of-result c =
    let apex = c.want_difference.new.self.pending.apex in
    subst (λ (n : Name). under n apex ≡ true) (sym (c.to_key_name-name.ensures.value ∙ c.apex.ensures ∙ ap (λ (v : Version). v.apex) c.shown.ensures)) (under_itself apex)
