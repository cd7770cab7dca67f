-- The names of files, as the definitions see them.
use Rattle.slothy_cli.specs.declared.files.Names as code
use Rattle.slothy_cli.specs.Messages.{Names}

-- names without where they lie in memory
abbrev pub names_of : code.Names → Names
names_of names = record { core = names.core.now; input = names.input.now; state = names.state.now }
