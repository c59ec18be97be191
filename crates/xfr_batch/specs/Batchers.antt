-- What every batcher promises, in terms of lists of records.
use Rattle.std.specs.Prelude.{◌≡◌, ◌≢◌, ℕ, Bool, List, [], ◌∷◌, ◌++◌, map, flat_map, All, Result, Ok, Err}
use Rattle.dns_rdata.specs.Records.{Record}
use Rattle.dns_wire.specs.Wire.{Building}
use Rattle.xfr_batch.specs.Batches.{Beginning, Batch, Batching, Stands}
use Rattle.xfr_batch.specs.declared.batcher.PushResult.{PushResult}
use Rattle.xfr_batch.specs.declared.batcher.PushResult.TheVariants.{PushedAndReadyForMore, PushedAndLimitReached, NotPushedMessageFull, Retry}

-- more batches were handed on, and the batcher stands for these records then
pub record HandsMore (After : List Record → List (List Record) → Type 0) (pushed : List Record) (batches : List (List Record)) : Type 0 where
  pub handed : List (List Record)
  pub stands : After pushed (batches ++ handed)

-- what a push answers: the record is pushed exactly where that is said; after an error a batch may be lost with its records
abbrev pub PushesOne : {E : Type 0} → (List Record → List (List Record) → Type 0) → Record → List Record → List (List Record) → Result PushResult E → Type 0
PushesOne After r pushed batches (Ok PushedAndReadyForMore) = HandsMore After (pushed ++ r ∷ []) batches
PushesOne After r pushed batches (Ok (PushedAndLimitReached m)) = HandsMore After (pushed ++ r ∷ []) batches
PushesOne After r pushed batches (Ok (NotPushedMessageFull m)) = HandsMore After pushed batches
PushesOne After r pushed batches (Ok Retry) = HandsMore After pushed batches
PushesOne After r pushed batches (Err e) = (left : List Record) × HandsMore After left batches

-- the batches are all that was pushed, in order, and none is empty
pub record IsAll (pushed : List Record) (batches : List (List Record)) : Type 0 where
  pub joined : flat_map (λ rs. rs) batches ≡ pushed
  pub some : All (λ rs. rs ≢ []) batches

-- what a finish answers
abbrev pub FinishesAll : {E : Type 0} → (List Record → List (List Record) → Type 0) → List Record → List (List Record) → Result (Unit {0}) E → Type 0
FinishesAll After pushed batches (Ok u) = (handed : List (List Record)) × (After pushed (batches ++ handed) × IsAll pushed (batches ++ handed))
FinishesAll After pushed batches (Err e) = (left : List Record) × HandsMore After left batches

-- a batcher over callbacks stands for its batches' records
pub record StandsInLists {T : Type 0} (begins : T → List ℕ → Beginning) (is_full : T → Building → Bool) (b : Batching T) (pushed : List Record) (lists : List (List Record)) : Type 0 where
  pub batches : List (Batch T)
  pub same : lists ≡ map (λ x. x.records) batches
  pub stands : Stands begins is_full b pushed batches
