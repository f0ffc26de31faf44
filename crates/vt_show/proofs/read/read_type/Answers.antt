use Rattle.vt_type.specs.Canonical.{first_name}
use Rattle.vt_show.specs.Reading.{appearances}
use Rattle.vt_show.proofs.Readings.{reading_of-some, reading_of-none, type_of-well_formed, type_of-dims}
use Rattle.vt_show.proofs.Renamings.{renamed-well_formed, renamed-dims}
use Rattle.vt_show.proofs.read.read_type.Goals as goal

pub by_first_path-requires : goal.by_first_path-requires
by_first_path-requires c =
    let read = rw c.as_bytes.ensures.value at c.in-Ok.ensures in
    rw c.get.ensures (type_of-well_formed c.args.tables.now.dims c.requires.few c.args.text.now c.in-Ok.lettered read)

pub returns-in_ok-by_first_path-in-Ok-clause-read :
    goal.returns-in_ok-by_first_path-in-Ok-clause-read
returns-in_ok-by_first_path-in-Ok-clause-read c =
    let read = rw c.as_bytes.ensures.value at c.in-Ok.ensures in
    rw (c.in_ok-by_first_path-in-Ok.ensures, c.get.ensures)
    (reading_of-some c.args.tables.now.dims c.distinct.ensures.distinct c.requires.no_brace c.args.text.now c.in-Ok.lettered read)

pub returns-in_ok-by_first_path-in-Ok-clause-well_formed :
    goal.returns-in_ok-by_first_path-in-Ok-clause-well_formed
returns-in_ok-by_first_path-in-Ok-clause-well_formed c =
    let read = rw c.as_bytes.ensures.value at c.in-Ok.ensures in
    rw (c.in_ok-by_first_path-in-Ok.ensures, c.get.ensures)
    (renamed-well_formed (first_name (appearances _ c.in-Ok.lettered)) c.in-Ok.lettered (type_of-well_formed c.args.tables.now.dims c.requires.few c.args.text.now c.in-Ok.lettered read))

pub returns-in_ok-by_first_path-in-Ok-clause-dims :
    goal.returns-in_ok-by_first_path-in-Ok-clause-dims
returns-in_ok-by_first_path-in-Ok-clause-dims c =
    let read = rw c.as_bytes.ensures.value at c.in-Ok.ensures in
    rw (c.in_ok-by_first_path-in-Ok.ensures, c.get.ensures)
    (renamed-dims (first_name (appearances _ c.in-Ok.lettered)) _ c.in-Ok.lettered (type_of-dims c.args.tables.now.dims c.args.text.now c.in-Ok.lettered read))

pub returns-in-Err-NotSpelled-clause-read : goal.returns-in-Err-NotSpelled-clause-read
returns-in-Err-NotSpelled-clause-read c =
    let unread = rw (c.in-Err-NotSpelled.field-0-is, c.as_bytes.ensures.value) at c.in-Err-NotSpelled.ensures in
    reading_of-none c.args.tables.now.dims c.distinct.ensures.distinct c.requires.no_brace c.args.text.now unread
