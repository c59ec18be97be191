-- Sets that a loop passes over.
use Rattle.std.proofs.Common.{◌≡◌, ℕ, ◌<◌, ◌==◌, true, false, refl, ◌∙◌, Option, Some, None}
use Rattle.dns_name.specs.Names.{fold}
use Rattle.dns_numbers.specs.Codes.{type_soa}
use Rattle.zone_model.specs.Version.{Key, Sets, Version}
use Rattle.zone_model.specs.Walk.{Stop}
use Rattle.zone_model.specs.Offer.{side_records}
use Rattle.xfr_replies.specs.Sides.{behind, middle_of}
use Rattle.xfr_replies.specs.Steps.{Heads, HeadsAt, SkipsSoas, SkipsApexSoa, is_soa_stop}
use Rattle.xfr_replies.proofs.Behind.{left_at, fewer}
use Rattle.xfr_replies.proofs.Placing.{key_skipped, stop_skipped}

-- ---- of a side

pub record Passed (sets rest : Sets) (o : Option Key) : Type 0 where
  pub left : Sets
  pub heads : Heads sets left o
  pub same : (v : Version) → side_records v left ≡ side_records v rest

pub passed_none : (sets rest : Sets) (o : Option Key) → Heads sets rest o → Passed sets rest o
passed_none sets rest o h = record { left = rest; heads = h; same = λ v. refl }

pub passed_more : (sets rest : Sets) (k : Key) (o : Option Key) → (k.1 == type_soa) ≡ true → Heads sets (behind k sets) o → Passed sets rest (Some k) → Passed sets rest o
passed_more sets rest k o soa h p = record { left = behind k sets; heads = h; same = λ v. key_skipped v sets p.left k p.heads soa ∙ p.same v }

pub passed_soas : (sets rest : Sets) (k : Key) → (k.1 == type_soa) ≡ false → Passed sets rest (Some k) → SkipsSoas sets rest (Some k)
passed_soas sets rest k plain p = record { left = p.left; heads = p.heads; plain = plain; same = p.same }

pub passed_all : (sets rest : Sets) → Passed sets rest None → SkipsSoas sets rest None
passed_all sets rest p = record { left = p.left; heads = p.heads; plain = tt; same = p.same }

-- ---- of a version

pub record PassedAt (v : Version) (rest : Sets) (o : Option Stop) : Type 0 where
  pub left : Sets
  pub heads : HeadsAt v left o
  pub same : middle_of v left ≡ middle_of v rest

abbrev pub left_after : Version → Option Stop → ℕ
left_after v None = 0
left_after v (Some s) = left_at v.sets (Some (fold s.owner, s.rtype))

pub fewer_after : (v : Version) (s : Stop) (o : Option Stop) → HeadsAt v (behind (fold s.owner, s.rtype) v.sets) o → left_after v o < left_after v (Some s)
fewer_after v s None h = fewer v.sets (fold s.owner, s.rtype) None h
fewer_after v s (Some t) h = fewer v.sets (fold s.owner, s.rtype) (Some (fold t.owner, t.rtype)) h.0

pub passed_at_none : (v : Version) (rest : Sets) (o : Option Stop) → HeadsAt v rest o → PassedAt v rest o
passed_at_none v rest o h = record { left = rest; heads = h; same = refl }

pub passed_at_more : (v : Version) (rest : Sets) (s : Stop) (o : Option Stop) → is_soa_stop v s ≡ true → HeadsAt v (behind (fold s.owner, s.rtype) v.sets) o → PassedAt v rest (Some s)
    → PassedAt v rest o
passed_at_more v rest s o soa h p = record { left = behind (fold s.owner, s.rtype) v.sets; heads = h; same = stop_skipped v p.left s p.heads soa ∙ p.same }

pub passed_apex_soa : (v : Version) (rest : Sets) (s : Stop) → is_soa_stop v s ≡ false → PassedAt v rest (Some s) → SkipsApexSoa v rest (Some s)
passed_apex_soa v rest s other p = record { left = p.left; heads = p.heads; other = other; same = p.same }

pub passed_at_all : (v : Version) (rest : Sets) → PassedAt v rest None → SkipsApexSoa v rest None
passed_at_all v rest p = record { left = p.left; heads = p.heads; other = tt; same = p.same }
