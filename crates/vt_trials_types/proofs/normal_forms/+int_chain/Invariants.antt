use Rattle.vt_trials_types.proofs.normal_forms.+int_chain.Given as goal

abbrev pub decreases-int_chain : goal.decreases-int_chain
decreases-int_chain l = l.count
