-- The modes of the calls, as those of the definitions.
use Rattle.zone_model.specs.TransferText.{Mode}
use Rattle.zone_model.specs.TransferText as texts
use Rattle.xfr_services.specs.declared.modes.XfrMode.{XfrMode}
use Rattle.xfr_services.specs.declared.modes.XfrMode.TheVariants as kind

-- the model's mode of a kind of transfer
abbrev pub mode_of : XfrMode → Mode
mode_of kind.Axfr = texts.Axfr
mode_of kind.Ixfr = texts.Ixfr
