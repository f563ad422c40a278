use Rattle.port_tests.proofs.credits.buckets_and_classes.Given as goal

abbrev pub ghosts-credits_are_brought : goal.ghosts-credits_are_brought
ghosts-credits_are_brought _ a = record { name = a.blank.name; parts = a.blank.parts }
