use Rattle.pc_device_tests.proofs.counting.each_reply_is_one_write_and_one_flush.Given as goal

abbrev pub ghosts-count : goal.ghosts-count
ghosts-count g a = record { name = a.blank.name; parts = a.blank.parts }
