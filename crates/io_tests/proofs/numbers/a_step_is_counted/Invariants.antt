use Rattle.io_tests.proofs.numbers.a_step_is_counted.Given as goal

abbrev pub ghosts-counted : goal.ghosts-counted
ghosts-counted a = record { name = a.blank.name; parts = a.blank.parts }
