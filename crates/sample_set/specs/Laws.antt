-- The laws of the small instruction set.
use Rattle.std.proofs.Common.{refl}
use Rattle.sl_isa.specs.Language.{IsLanguage}
use Rattle.sample_set.specs.FewForms.{few}
use Rattle.sample_set.specs.FewLaws.{few_lawful, few_steps}

-- nothing is read, and nothing printed
pub few_language : IsLanguage few
unfolding few
few_language = record {
  set = few_lawful;
  read = λ pairs words i known e. absurd cc;
  few = λ pairs words i known e. absurd cc;
  more = λ pairs others words known. refl;
  renamed = λ pairs i j spelled renaming. (let e = spelled.read in absurd cc);
  nothing = λ pairs i e. absurd cc;
  again = λ pairs words i known e comments place behind is. absurd cc;
  one_line = λ pairs words i known e. absurd cc;
  plain_printed = λ pairs i concrete. refl;
  unmarked_printed = λ pairs i. refl;
  steps = few_steps;
}
