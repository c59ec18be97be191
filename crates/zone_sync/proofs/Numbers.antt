-- What a run on a zone that numbers make writes and answers, from what its transfer ensures.
use Rattle.std.specs.Prelude.{◌≡◌, ◌≢◌, ◌⊎◌, ◌≤◌, ℕ, List, Option, false, true, IsTrue}
use Rattle.std.proofs.Common.{refl, ap, ◌∙◌, inl, inr}
use Rattle.tsig_port.specs.Tsig.{TsigKey}
use Rattle.zone_model.specs.Offer.{Provider}
use Rattle.zone_devices.specs.Calls.{Rose}
use Rattle.xfr_server.specs.Items.{Sending}
use Rattle.zone_generated.specs.Generated as generated
use Rattle.zone_sync.specs.Delivery.{IsGranted}
use Rattle.zone_report.specs.Notices.{is_reported}
use Rattle.zone_sync.specs.Reported.{Crossed, ReportsNumbers, IsDueOfNumbers, generating_provider, generated_asking}
use Rattle.zone_report.specs.ReportsWritten.{status_by}
use Rattle.zone_report.specs.StreamFaults.{TellsSink}
use Rattle.zone_sync.specs.Statuses.{TellsNumbers}
use Rattle.zone_report.specs.declared.status.Status.{Status}
use Rattle.zone_report.specs.declared.status.Status.TheVariants as ends
use Rattle.zone_sync.proofs.Endings.{good_status}

-- the transfer over a link, from a primary that sends so
module _ (SendsOf : Provider → TsigKey → ℕ → List ℕ → Option (List Sending) → Type 0) (size seed : ℕ) (link : Crossed) where
  -- its report is due
  pub numbers_due : (octets : List ℕ) (s : Status) → ReportsNumbers SendsOf size seed link octets s → IsDueOfNumbers SendsOf size seed link octets s
  numbers_due octets s r = by s r.known r
    where
      by : (s : Status) → IsTrue (is_reported s) → ReportsNumbers SendsOf size seed link octets s → IsDueOfNumbers SendsOf size seed link octets s
      by ends.Done h r = r
      by ends.Refused h r = r
      by ends.LinkFault h r = r
      by ends.Usage h r = cc
      by ends.Script h r = cc
      by ends.SourceFault h r = cc
      by ends.SinkFault h r = cc
      by ends.Memory h r = cc
      by ends.TooLong h r = cc

  -- a status that comes with a report, where the link didn't fail
  ends_well : (s : Status) → IsTrue (is_reported s) → s ≢ ends.LinkFault → (s ≡ ends.Done) ⊎ ((s ≡ ends.Refused) ⊎ (s ≡ ends.Memory))
  ends_well ends.Done h n = inl refl
  ends_well ends.Refused h n = inr (inl refl)
  ends_well ends.LinkFault h n = absurd (n refl)
  ends_well ends.Usage h n = cc
  ends_well ends.Script h n = cc
  ends_well ends.SourceFault h n = cc
  ends_well ends.SinkFault h n = cc
  ends_well ends.Memory h n = cc
  ends_well ends.TooLong h n = cc

  as_status : (s t : Status) → s ≡ t → (t ≡ ends.Done) ⊎ ((t ≡ ends.Refused) ⊎ (t ≡ ends.Memory)) → (s ≡ ends.Done) ⊎ ((s ≡ ends.Refused) ⊎ (s ≡ ends.Memory))
  as_status s t e (inl f) = inl (e ∙ f)
  as_status s t e (inr (inl f)) = inr (inl (e ∙ f))
  as_status s t e (inr (inr f)) = inr (inr (e ∙ f))

  as_good : (s t : Status) → s ≡ t → (t ≡ ends.Done) ⊎ (t ≡ ends.Memory) → (s ≡ ends.Done) ⊎ (s ≡ ends.Memory)
  as_good s t e (inl f) = inl (e ∙ f)
  as_good s t e (inr f) = inr (e ∙ f)

  -- what it tells of the words' zone, once its report was written or the sink failed
  pub tells_numbers : (octets : List ℕ) (status s : Status) (sink_old sink_new : ℕ) → ReportsNumbers SendsOf size seed link octets status → (s ≢ ends.SinkFault → s ≡ status) → TellsSink sink_old sink_new s
      → (status ≡ ends.LinkFault → Rose link.faults_old link.faults_new)
      → (512 ≤ link.longest → IsGranted (SendsOf (generating_provider size seed) generated.key 0) generated_asking 0 link.longest (generated.generated size seed))
      → TellsNumbers sink_old sink_new link s
  tells_numbers octets status s sink_old sink_new r done sink fault grant = record {
    completes = λ no_sink no_link. as_status s status (done (λ e. no_sink (sink.fault e))) (ends_well status r.known (λ e. no_link (fault e)));
    delivers = λ long honest no_sink.
        let t = r.transfer in
        as_good s (status_by t.answer) (done (λ e. no_sink (sink.fault e)) ∙ r.ended)
        (good_status (generated.generated size seed) t.session t.answer (t.says.delivers (generated.generated size seed) (grant long) honest));
  }

-- the same where memory ran out
pub tells_memory : (link : Crossed) (sink_old sink_new : ℕ) → TellsNumbers sink_old sink_new link ends.Memory
tells_memory link sink_old sink_new = record {
  completes = λ no_sink no_link. inr (inr refl);
  delivers = λ long honest no_sink. inr refl;
}
