use Rattle.slothy_cli.specs.NamesShown.{names_of}
use Rattle.slothy_cli.specs.Ending.{Seen, files_run}
use Rattle.slothy_cli.proofs.Follows.{unread-failed}
use Rattle.slothy_cli.proofs.files.read_file.Goals as goal

pub returns-in-Err-clause-failed : goal.returns-in-Err-clause-failed
returns-in-Err-clause-failed g c =
    let seen : Seen = record {
      names = names_of c.args.names;
      holds = g.F.Files.holds c.args.files.now;
      run = files_run g.F.Files.faults g.F.Files.given g.F.Files.chosen g.F.Files.broken c.args.files.now c.read_all.new.files;
    } in
    let e = c.in-Err.ensures in
    unread-failed seen c.args.file c.name_in.result.now c.in-Err.error c.unread.result c.unread.ensures c.name_in.ensures e.fault_risen e.fault_chosen e.fault_broken e.long_given e.long_chosen e.long_told
