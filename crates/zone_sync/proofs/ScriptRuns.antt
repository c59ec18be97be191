-- What a script decides of a run's status, from what is told of the run.
use Rattle.std.proofs.Common.{◌≡◌, ℕ, ◌≤◌, List, length, refl, ap, ◌∙◌, arith, ◌⊎◌, inl, inr, Ok, Err}
use Rattle.std.specs.Prelude.{◌≢◌, IsTrue}
use Rattle.tsig_port.specs.Tsig.{TsigKey}
use Rattle.zone_model.specs.TransferText.{Mode}
use Rattle.zone_devices.specs.Calls.{Rose}
use Rattle.zone_script.specs.Script as scripts
use Rattle.zone_script.specs.Script.{script_of}
use Rattle.zone_script.specs.ScriptReaders.{wire_readers}
use Rattle.zone_sync.specs.Delivery.{WasHonest}
use Rattle.zone_report.specs.Notices.{is_fault}
use Rattle.zone_sync.specs.Reported.{Crossed, FitsLink}
use Rattle.zone_report.specs.StreamFaults.{TellsSink}
use Rattle.zone_sync.specs.Statuses.{TellsLink, TellsScript}
use Rattle.zone_report.specs.declared.status.Status.{Status}
use Rattle.zone_report.specs.declared.status.Status.TheVariants as ends

-- a status that is none of the faults, of the words, the source or the length
ended : (s : Status) → (s ≢ ends.Usage) × (s ≢ ends.SourceFault) × (s ≢ ends.TooLong) → s ≢ ends.Script → s ≢ ends.SinkFault → s ≢ ends.LinkFault → (s ≡ ends.Done) ⊎ ((s ≡ ends.Refused) ⊎ (s ≡ ends.Memory))
ended ends.Done o a b d = inl refl
ended ends.Refused o a b d = inr (inl refl)
ended ends.Memory o a b d = inr (inr refl)
ended ends.Usage o a b d = absurd (o.0 refl)
ended ends.Script o a b d = absurd (a refl)
ended ends.SourceFault o a b d = absurd (o.1 refl)
ended ends.SinkFault o a b d = absurd (b refl)
ended ends.LinkFault o a b d = absurd (d refl)
ended ends.TooLong o a b d = absurd (o.2 refl)

pub script_runs : (mode : Mode) (text t items : List ℕ) (source_old source_new sink_old sink_new : ℕ) (link : Crossed) (s : Status)
    → t ≡ text → t ≡ items → length items ≤ 16777216
    → TellsSink sink_old sink_new s → TellsLink link.faults_old link.faults_new s
    → ((script : scripts.Script TsigKey) (key : TsigKey) → script_of wire_readers t ≡ Ok script → FitsLink mode script key link.longest
    → WasHonest link.lists_old link.lists_new link.faults_old link.faults_new → ¬ Rose sink_old sink_new → (s ≡ ends.Done) ⊎ (s ≡ ends.Memory))
    → ((script : scripts.Script TsigKey) → script_of wire_readers t ≡ Ok script → s ≢ ends.Script)
    → ((n : ℕ) → script_of wire_readers t ≡ Err n → (s ≡ ends.Script) ⊎ IsTrue (is_fault s))
    → (s ≢ ends.Usage) × (s ≢ ends.SourceFault) × (s ≢ ends.TooLong)
    → TellsScript mode text source_old source_new sink_old sink_new link s
script_runs mode text t items source_old source_new sink_old sink_new link s same value bounded sink on_link delivers script bad others = record {
  too_long = λ long. absurd (let e = ap length value in let f = ap length same in omega (arith, e, f, bounded, long));
  bad_line = λ n short spelt. bad n (ap (script_of wire_readers) same ∙ spelt);
  completes = λ k short spelt no_source no_sink no_link. ended s others (script k (ap (script_of wire_readers) same ∙ spelt)) (λ e. no_sink (sink.fault e)) (λ e. no_link (on_link.fault e));
  delivers = λ k key short spelt fits honest no_source no_sink. delivers k key (ap (script_of wire_readers) same ∙ spelt) fits honest no_sink;
}
