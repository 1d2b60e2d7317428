use Rattle.wi_cli.proofs.write_address.+write_letters.Given as goal

abbrev pub decreases-write_letters : goal.decreases-write_letters
decreases-write_letters g l = l.most
