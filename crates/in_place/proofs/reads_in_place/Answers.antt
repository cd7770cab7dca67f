use Rattle.in_place.proofs.Read.{all-in-place}
use Rattle.in_place.proofs.reads_in_place.Goals as goal

pub returns : goal.returns
returns g c = all-in-place g.A.Arch.language g.met.A.Arch.lawful
