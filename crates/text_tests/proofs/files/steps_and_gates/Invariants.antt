-- The steps are counted in the ledger of the blank that was made.
use Rattle.text_tests.proofs.files.steps_and_gates.Given as goal

abbrev pub ghosts-two_steps : goal.ghosts-two_steps
ghosts-two_steps a = record { name = a.blank.name; parts = a.blank.parts }
