use Rattle.wi_values.proofs.address.+push_letters.Given as goal

abbrev pub decreases-push_letters : goal.decreases-push_letters
decreases-push_letters l = l.most
