use Rattle.port_tests.proofs.bitmaps.set_bits_are_found.Given as goal

abbrev pub ghosts-all_are_found : goal.ghosts-all_are_found
ghosts-all_are_found _ a = record { name = a.blank.name; parts = a.blank.parts }
