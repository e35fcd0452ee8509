use Rattle.rs_tree_tests.proofs.climb_tests.a_number_goes_up_to_the_root.Given as goal

abbrev pub ghosts-raise : goal.ghosts-raise
ghosts-raise c a = record { name = a.blank.name; parts = a.blank.parts }
