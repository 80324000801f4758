use Rattle.tb_wire.proofs.put.+put_within.Given as goal

abbrev pub decreases-put_within : goal.decreases-put_within
decreases-put_within l = l.more
