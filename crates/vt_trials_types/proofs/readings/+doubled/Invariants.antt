use Rattle.vt_trials_types.proofs.readings.+doubled.Given as goal

abbrev pub decreases-doubled : goal.decreases-doubled
decreases-doubled l = l.count
