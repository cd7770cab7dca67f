-- The example is lawful, valid and legal.
use Rattle.edge_cases.proofs.Adding.{adding-lawful, adding-valid, adding-legal, adding-applied, adding-broken}
use Rattle.edge_cases.proofs.a_legal_schedule_exists.Goals as goal

pub returns : goal.returns
returns c = record { lawful = adding-lawful; valid = adding-valid; legal = adding-legal; new_list = adding-applied; broken = adding-broken }
