use Rattle.std.proofs.Common.{Some}
use Rattle.vt_type.specs.Text.{text_of}
use Rattle.vt_show.proofs.Readings.{one_reading}
use Rattle.vt_show.proofs.ReadBack.{read_back}
use Rattle.vt_show.proofs.laws.read_back.Goals as goal

pub returns-clause-back : goal.returns-clause-back
returns-clause-back c dims type form canonical normal below no_data =
    read_back type form canonical normal dims below no_data

pub returns-clause-alone : goal.returns-clause-alone
returns-clause-alone c dims type form distinct lack canonical normal below no_data read is =
    one_reading dims distinct lack (text_of dims form) read (Some form) is (read_back type form canonical normal dims below no_data)
