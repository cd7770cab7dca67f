use Rattle.std.proofs.Common.{◌≡◌, ℕ, List, subst, ap, sym, ◌∙◌}
use Rattle.sl_isa.specs.Language.{Language}
use Rattle.slothy_cli.specs.Command.{Command, Job}
use Rattle.slothy_cli.specs.Outcome.{WorkAnswers, region_reads, input_reads, setting_reads}
use Rattle.slothy_cli.specs.Reads.{Given}
use Rattle.slothy_cli.specs.Ending.{Follows}
use Rattle.slothy_cli.specs.Shown.{shown, shown_job, told}
use Rattle.demo_kernel.specs.Kernel.{kernel_text}
use Rattle.slothy_cli.proofs.Follows.{follows-no_memory}
use Rattle.slothy_cli.proofs.work.text_of_kernel.Goals as goal

pub returns-in-Ok : goal.returns-in-Ok
returns-in-Ok g c =
    let language : Language = g.A.Arch.language in
    let command : Command = shown c.args.command.now in
    let job : Job = shown_job c.args.job in
    record {
      follows = λ seen.
          subst (λ (b : List ℕ). Follows seen (WorkAnswers language) (input_reads language command (setting_reads language job c.args.core.now) b) (told (λ text. text.items) c.text_of_input.result))
          (c.deref.ensures.value ∙ c.in-Ok.ensures.value) (c.text_of_input.ensures.follows seen);
    }

pub returns-in-Err : goal.returns-in-Err
returns-in-Err g c =
    record {
      follows = λ seen.
          follows-no_memory seen (WorkAnswers g.A.Arch.language) (region_reads g.A.Arch.language (shown c.args.command.now) (shown_job c.args.job) c.args.core.now (Given (kernel_text c.args.key c.args.count)));
    }
