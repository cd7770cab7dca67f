use Rattle.command_words.proofs.Front.{IsFront}
use Rattle.command_words.proofs.registers.listed_registers.Given as goal

-- the registers so far, and those of the names that are left, are all of them
abbrev pub invariant-loop-name : goal.invariant-loop-name
invariant-loop-name l = IsFront l.arch l.registers.items l.name-index l.names
