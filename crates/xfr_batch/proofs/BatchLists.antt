-- The same batches as lists of records.
use Rattle.std.proofs.Common.{◌≡◌, ℕ, Bool, List, [], ◌∷◌, ◌++◌, map, refl, sym, ap, ◌∙◌, subst}
use Rattle.std.specs.Prelude.{◌≢◌, None, Result, Ok, Err, flat_map}
use Rattle.std.proofs.lemmas.List.{map-append}
use Rattle.std.proofs.lemmas.List.Elements.{All-weaker, All-map}
use Rattle.dns_rdata.specs.Records.{Record}
use Rattle.dns_wire.specs.Wire.{Building}
use Rattle.dns_wire.specs.declared.builder.PushError.{PushError}
use Rattle.xfr_batch.specs.Batches.{Beginning, Ending, Batch, joined, IsBatch, Batching, Stands}
use Rattle.xfr_batch.specs.BatchCalls.{ByPush, ByFinish, Moves, Loses, taken_by, NotPushed, Pushes, Finishes}
use Rattle.xfr_batch.specs.BatchCalls.NotPushed.{NoRoom, NoMemory, Refused}
use Rattle.xfr_batch.specs.Batchers.{HandsMore, PushesOne, IsAll, FinishesAll, StandsInLists}
use Rattle.xfr_batch.specs.declared.batcher.PushResult.{PushResult}
use Rattle.xfr_batch.specs.declared.batcher.PushResult.TheVariants.{PushedAndReadyForMore, PushedAndLimitReached, NotPushedMessageFull, Retry}
use Rattle.xfr_batch.proofs.BatchHistories.{closed_all}

abbrev lists_of : {T : Type 0} → List (Batch T) → List (List Record)
lists_of batches = map (λ x. x.records) batches

more_lists : {T : Type 0} (lists : List (List Record)) (batches handed : List (Batch T)) → lists ≡ lists_of batches → lists ++ lists_of handed ≡ lists_of (batches ++ handed)
more_lists {T} lists batches handed same = ap (λ xs. xs ++ lists_of handed) same ∙ sym (map-append (λ (x : Batch T). x.records) batches handed)

joined_lists : {T : Type 0} (batches : List (Batch T)) → flat_map (λ rs. rs) (lists_of batches) ≡ joined batches
joined_lists [] = refl
joined_lists (b ∷ batches) = ap (λ rs. b.records ++ rs) (joined_lists batches)

module _ {T E : Type 0} (begins : T → List ℕ → Beginning) (is_full : T → Building → Bool) (Readies : T → Building → Bool → Result (Unit {0}) E → T → Type 0) (From : PushError → E → Type 0) where
  moved : (By : Ending → Type 0) (old new : Batching T) (pushed : List Record) (lists : List (List Record)) (batches : List (Batch T)) → lists ≡ lists_of batches
      → Moves begins is_full Readies By old pushed batches new → HandsMore (StandsInLists begins is_full new) pushed lists
  moved By old new pushed lists batches same mv = record {
    handed = lists_of mv.handed;
    stands = record { batches = batches ++ mv.handed; same = more_lists lists batches mv.handed same; stands = mv.stands };
  }

  lost : (By : Ending → Type 0) (old new : Batching T) (upto : Ending → List Record) (lists : List (List Record)) (batches : List (Batch T)) (e : E) → lists ≡ lists_of batches
      → Loses begins is_full Readies By old upto batches e new → (left : List Record) × HandsMore (StandsInLists begins is_full new) left lists
  lost By old new upto lists batches e same l = (
    joined (batches ++ l.handed),
    record {
      handed = lists_of l.handed;
      stands = record { batches = batches ++ l.handed; same = more_lists lists batches l.handed same; stands = l.stands };
    },
  )

  failed : (r : Record) (old new : Batching T) (pushed : List Record) (lists : List (List Record)) (batches : List (Batch T)) (e : E) → lists ≡ lists_of batches
      → NotPushed begins is_full Readies From r old pushed batches e new → (left : List Record) × HandsMore (StandsInLists begins is_full new) left lists
  failed r old new pushed lists batches e same (NoRoom from room closed mv) = (pushed, moved (ByPush r) old new pushed lists batches same mv)
  failed r old new pushed lists batches e same (NoMemory from mv) = (pushed, moved (ByPush r) old new pushed lists batches same mv)
  failed r old new pushed lists batches e same (Refused l) = lost (ByPush r) old new (taken_by r pushed) lists batches e same l

  pub pushes_one : (r : Record) (old new : Batching T) (pushed : List Record) (lists : List (List Record)) (batches : List (Batch T)) (result : Result PushResult E) → lists ≡ lists_of batches
      → Pushes begins is_full Readies From r old pushed batches result new → PushesOne (StandsInLists begins is_full new) r pushed lists result
  pushes_one r old new pushed lists batches (Ok PushedAndReadyForMore) same p = moved (ByPush r) old new (pushed ++ r ∷ []) lists batches same p.moves
  pushes_one r old new pushed lists batches (Ok (PushedAndLimitReached m)) same p = absurd p
  pushes_one r old new pushed lists batches (Ok (NotPushedMessageFull m)) same p = absurd p
  pushes_one r old new pushed lists batches (Ok Retry) same p = absurd p
  pushes_one r old new pushed lists batches (Err e) same p = failed r old new pushed lists batches e same p

  is_all : (new : Batching T) (pushed : List Record) (batches : List (Batch T)) → new.answer ≡ None → Stands begins is_full new pushed batches → IsAll pushed (lists_of batches)
  is_all new pushed batches closed st = record {
    joined = joined_lists batches ∙ sym (closed_all begins is_full new pushed batches closed st);
    some = All-map (λ (rs : List Record). rs ≢ []) (λ (x : Batch T). x.records) batches
        (All-weaker (IsBatch (λ s. begins s new.request) is_full) (λ (x : Batch T). x.records ≢ []) (λ x h. h.some) batches st.each);
  }

  pub finishes_all : (old new : Batching T) (pushed : List Record) (lists : List (List Record)) (batches : List (Batch T)) (result : Result (Unit {0}) E) → lists ≡ lists_of batches
      → Finishes begins is_full Readies old pushed batches result new → FinishesAll (StandsInLists begins is_full new) pushed lists result
  finishes_all old new pushed lists batches (Ok u) same f =
      let mv = f.1 in
      let more = more_lists lists batches mv.handed same in
      let P : List (List Record) → Type 0 = λ xs. IsAll pushed xs in
      (lists_of mv.handed, (record { batches = batches ++ mv.handed; same = more; stands = mv.stands }, subst P (sym more) (is_all new pushed (batches ++ mv.handed) f.0 mv.stands)))
  finishes_all old new pushed lists batches (Err e) same f = lost ByFinish old new (λ ending. pushed) lists batches e same f
