use Rattle.std.proofs.Common.{◌∙◌, sym, ap}
use Rattle.csv_load.specs.Options.{ratio_or_none, separator_or_tab}
use Rattle.load_requests.specs.Requests.{options_of}
use Rattle.load_requests.proofs.Separators.{options_are}
use Rattle.load_requests.proofs.read.options_of.Goals as goal

pub returns-in-Ok : goal.returns-in-Ok
unfolding options_of
returns-in-Ok c =
    options_are c.in-Ok.options _ _ _ (sym (ap separator_or_tab c.first_value-separator.ensures) ∙ c.in-Ok.ensures.separator)
    (sym (ap ratio_or_none c.first_value-ratio.ensures) ∙ c.in-Ok.ensures.ratio) (c.in-Ok.ensures.strict ∙ c.has-strict.ensures)
