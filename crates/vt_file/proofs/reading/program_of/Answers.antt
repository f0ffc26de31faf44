use Rattle.vt_file.proofs.reading.program_of.Goals as goal

pub returns-in-Err-clause-fault : goal.returns-in-Err-clause-fault
returns-in-Err-clause-fault c = c.refused.ensures c.args.text.now c.no_program.ensures
