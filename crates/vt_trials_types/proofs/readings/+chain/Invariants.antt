use Rattle.vt_trials_types.proofs.readings.+chain.Given as goal

abbrev pub decreases-chain : goal.decreases-chain
decreases-chain l = l.count
