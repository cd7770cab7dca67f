-- What the ending of a call says of its status.
use Rattle.std.proofs.Common.{sym, ◌∙◌, ◌≡◌, ℕ, ◌⊎◌, inl, inr, List, Option, None, Some, Result, Ok, Err, refl, ap, subst}
use Rattle.std.specs.Prelude.{MatchOption, MatchResult}
use Rattle.sl_model.specs.declared.instruction.ArchName.{ArchName}
use Rattle.slothy_cli.specs.declared.stop.File.{File}
use Rattle.slothy_cli.specs.declared.stop.Stop.{Stop}
use Rattle.slothy_cli.specs.declared.stop.Stop.TheVariants.{CoreRefused, Refused, TooLarge, Infeasible, Budget}
use Rattle.slothy_cli.specs.declared.status.Status.TheVariants as statuses
use Rattle.slothy_cli.specs.declared.status.Ending.{Ending}
use Rattle.slothy_cli.specs.declared.status.Ending.TheVariants as endings
use Rattle.command_words.specs.Answer.{usage_of}
use Rattle.command_words.specs.Command as read
use Rattle.command_words.specs.declared.options.Options.{Options}
use Rattle.command_words.specs.declared.options.WordsErr.{WordsErr}
use Rattle.command_words.specs.declared.options.WordsErr.TheVariants as errors
use Rattle.sl_model.specs.Answers.{Gives}
use Rattle.slothy_cli.specs.Command.{Aim, Job, cost, opt, demo, Command, command_in, command_by, command_of}
use Rattle.slothy_cli.specs.Setting.{Setting}
use Rattle.sl_isa.specs.Language.{Language}
use Rattle.slothy_cli.specs.Languages.{language_of}
use Rattle.sl_model.specs.declared.schedule.Choice.{Choice}
use Rattle.sl_model.specs.Legal.{Problem}
use Rattle.slothy_cli.specs.Plan.{region_problem}
use Rattle.slothy_cli.specs.Searched.{region_searched}
use Rattle.slothy_cli.specs.Reads.{outcome}
use Rattle.slothy_cli.specs.Outcome.{FoundAnswers, KernelAnswers, StopAnswers, JobAnswers, Work, scheduling, running, WorkAnswers, command_reads, CommandAnswers}
use Rattle.slothy_cli.specs.Messages.{Names, status_of, stop_status, message_of}
use Rattle.slothy_cli.specs.Ending.{FilesRun, SinkRun, TookNothing, TookFront, Seen, names_of_command, names_given, seen_of, HasCome, AreTold, Comes, Ends, IsWrong, Call, IsStatusOf}
use Rattle.slothy_cli.proofs.Follows.{AgreesOrFails, follows-no_memory, follows-never, follows-agrees}

-- what the words ask for has ended so
abbrev pub HasEnded : Option Command → (List ℕ → Option (List ℕ)) → FilesRun → SinkRun → Ending → Type 0
HasEnded command holds files out ending = MatchOption command (IsWrong ending × TookNothing out) (λ c. Ends (language_of c.arch) c (seen_of c holds files) out ending)

-- ---- wrong use

stop_is_no_usage : (stop : Stop) → stop_status stop ≡ statuses.Usage → ⊥
stop_is_no_usage (CoreRefused reason key) e = cc
stop_is_no_usage (Refused file line reason) e = cc
stop_is_no_usage (TooLarge file line quantity limit) e = cc
stop_is_no_usage (Infeasible most) e = cc
stop_is_no_usage (Budget level tree) e = cc

end_is_no_usage : (language : Language) (c : Command) (seen : Seen) (out : SinkRun) (ending : Ending) → Ends language c seen out ending → status_of ending ≡ statuses.Usage → ⊥
end_is_no_usage language c seen out endings.Done h e = cc
end_is_no_usage language c seen out endings.Usage h e = h
end_is_no_usage language c seen out (endings.Stopped stop) h e = stop_is_no_usage stop e
end_is_no_usage language c seen out (endings.ReadFault file) h e = cc
end_is_no_usage language c seen out (endings.WriteFault sent) h e = cc
end_is_no_usage language c seen out endings.NoMemory h e = cc

-- wrong use is answered only where the words are wrong
pub usage_then : (command : Option Command) (holds : List ℕ → Option (List ℕ)) (files : FilesRun) (out : SinkRun) (ending : Ending) → HasEnded command holds files out ending → status_of ending ≡ statuses.Usage → command ≡ None
usage_then None holds files out ending h e = refl
usage_then (Some c) holds files out ending h e = absurd (end_is_no_usage (language_of c.arch) c (seen_of c holds files) out ending h e)

wrong_status : (ending : Ending) → IsWrong ending → (status_of ending ≡ statuses.Usage) ⊎ (status_of ending ≡ statuses.NoMemory)
wrong_status ending (inl e) = inl (ap status_of e)
wrong_status ending (inr e) = inr (ap status_of e)

-- and there always, want of memory aside
pub then_usage : (command : Option Command) (holds : List ℕ → Option (List ℕ)) (files : FilesRun) (out : SinkRun) (ending : Ending) → HasEnded command holds files out ending → command ≡ None
    → (status_of ending ≡ statuses.Usage) ⊎ (status_of ending ≡ statuses.NoMemory)
then_usage None holds files out ending h e = wrong_status ending h.0
then_usage (Some c) holds files out ending h e = absurd (cc)

-- memory that runs out before the words were read ends any call
pub ends-no_memory : (command : Option Command) (holds : List ℕ → Option (List ℕ)) (files : FilesRun) (out : SinkRun) → TookNothing out → HasEnded command holds files out endings.NoMemory
ends-no_memory None holds files out took = (inr refl, took)
ends-no_memory (Some c) holds files out took = (follows-no_memory (seen_of c holds files) (WorkAnswers (language_of c.arch)) (command_reads (language_of c.arch) c), took)

-- ---- how a call is put together

-- a command that ended so for the architecture that it names
pub ends-for : (arch name : ArchName) (c : Command) (seen : Seen) (out : SinkRun) (ending : Ending) → arch ≡ name → Ends (language_of name) c seen out ending → Ends (language_of arch) c seen out ending
ends-for arch name c seen out ending is ends = subst (λ a. Ends (language_of a) c seen out ending) (sym is) ends

-- a command that came to no text
pub ends-failed : (language : Language) (c : Command) (seen : Seen) (out : SinkRun) (ending : Ending) → Comes language c seen (Err ending) → TookNothing out → Ends language c seen out ending
ends-failed language c seen out endings.Done h took = absurd (follows-never seen (WorkAnswers language) (command_reads language c) endings.Done (λ file f. f) (λ IsAnswer f. f) h)
ends-failed language c seen out endings.Usage h took = absurd (follows-never seen (WorkAnswers language) (command_reads language c) endings.Usage (λ file f. f) (λ IsAnswer f. f) h)
ends-failed language c seen out (endings.Stopped stop) h took = (h, took)
ends-failed language c seen out (endings.ReadFault file) h took = (h, took)
ends-failed language c seen out (endings.WriteFault sent) h took = absurd (follows-never seen (WorkAnswers language) (command_reads language c) (endings.WriteFault sent) (λ file f. f) (λ IsAnswer f. f) h)
ends-failed language c seen out endings.NoMemory h took = (h, took)

module _ (words : List (List ℕ)) (holds : List ℕ → Option (List ℕ)) (files : FilesRun) (out err : SinkRun) where
  -- words that are wrong
  pub call-wrong : (ending : Ending) → ending ≡ endings.Usage → command_of words ≡ None → TookNothing out → TookFront err (message_of (names_given None) endings.Usage) → Call words holds files out err ending
  call-wrong ending is none took told = subst (Call words holds files out err) (sym is) (record {
    cause = subst (λ o. HasEnded o holds files out endings.Usage) (sym none) (inl refl, took);
    message = subst (λ o. TookFront err (message_of (names_given o) endings.Usage)) (sym none) told;
  })

  -- memory that ran out before the words were read
  pub call-no_memory : (ending : Ending) → ending ≡ endings.NoMemory → TookNothing out → TookFront err (message_of (names_given None) endings.NoMemory) → Call words holds files out err ending
  unfolding message_of
  call-no_memory ending is took told = subst (Call words holds files out err) (sym is) (record {
    cause = ends-no_memory (command_of words) holds files out took;
    message = told;
  })

  -- a command that ended
  pub call-ended : (c : Command) (names : Names) (ending : Ending) → command_of words ≡ Some c → names ≡ names_of_command c → Ends (language_of c.arch) c (seen_of c holds files) out ending → TookFront err (message_of names ending) → Call words holds files out err ending
  call-ended c names ending some same ends told = record {
    cause = subst (λ o. HasEnded o holds files out ending) (sym some) ends;
    message = subst (λ o. TookFront err (message_of (names_given o) ending)) (sym some) (subst (λ n. TookFront err (message_of n ending)) same told);
  }

-- the command of words that are wrong, and of words that were read
pub wrong-command : (words : List (List ℕ)) (error : WordsErr) → error ≡ errors.Usage → Gives usage_of (λ (o : Options). o) (Err error) (read.command_of words) → command_of words ≡ None
unfolding command_of
wrong-command words error is told = ap command_by (subst (λ e. Gives usage_of (λ (o : Options). o) (Err e) (read.command_of words)) is told)

pub read-command : (words : List (List ℕ)) (o : Options) (command : Option Command) → Gives usage_of (λ (o : Options). o) (Ok o) (read.command_of words) → command ≡ command_in o → command_of words ≡ command
unfolding command_of
read-command words o command told is = ap command_by told ∙ sym is

-- ---- files whose bytes are known

-- Two answers to the same bytes are both texts or the same stop.
abbrev pub AreAlike : Result (List ℕ) Stop → Result (List ℕ) Stop → Type 0
AreAlike (Ok x) (Ok y) = Unit {0}
AreAlike (Err x) (Err y) = x ≡ y
AreAlike (Ok x) (Err y) = ⊥
AreAlike (Err x) (Ok y) = ⊥

alike_same : (a b : Result (List ℕ) Stop) → a ≡ b → AreAlike a b
alike_same (Ok x) (Ok y) e = tt
alike_same (Err x) (Err y) e = cc
alike_same (Ok x) (Err y) e = absurd (cc)
alike_same (Err x) (Ok y) e = absurd (cc)

-- texts of what was found
found_alike : (language : Language) (aim : Aim) (setting : Setting) (schedule : List Choice) (a b : Result (List ℕ) Stop) → FoundAnswers language aim setting schedule a → FoundAnswers language aim setting schedule b → AreAlike a b
found_alike language aim setting schedule (Ok x) (Ok y) h k = tt
found_alike language aim setting schedule (Ok x) (Err y) h k = absurd k
found_alike language aim setting schedule (Err x) b h k = absurd h

searched_alike : (problem : Problem) (most : ℕ) (came : Result (List Choice) Stop) (IsFor : List Choice → Result (List ℕ) Stop → Type 0) (a b : Result (List ℕ) Stop)
    → ((schedule : List Choice) → IsFor schedule a → IsFor schedule b → AreAlike a b)
    → MatchResult came (λ schedule. IsFor schedule a) (λ stop. StopAnswers problem most stop a) → MatchResult came (λ schedule. IsFor schedule b) (λ stop. StopAnswers problem most stop b) → AreAlike a b
searched_alike problem most (Ok schedule) IsFor a b alike h k = alike schedule h k
searched_alike problem most (Err stop) IsFor a b alike h k = alike_same a b (h.0 ∙ sym k.0)

job_alike : (language : Language) (job : Job) (setting : Setting) (a b : Result (List ℕ) Stop) → JobAnswers language job setting a → JobAnswers language job setting b → AreAlike a b
job_alike language cost setting a b h k = alike_same a b (h ∙ sym k)
job_alike language (opt aim) setting a b h k =
    searched_alike (region_problem language.isa aim setting) aim.most (region_searched language.isa aim setting) (FoundAnswers language aim setting) a b (λ schedule. found_alike language aim setting schedule a b) h k
job_alike language (demo aim key count) setting a b h k =
    searched_alike (region_problem language.isa aim setting) aim.most (region_searched language.isa aim setting) (KernelAnswers language aim key count setting) a b (λ schedule h k. alike_same a b (h.2 ∙ sym k.2)) h k

work_alike : (language : Language) (work : Work) (a b : Result (List ℕ) Stop) → WorkAnswers language work a → WorkAnswers language work b → AreAlike a b
work_alike language (scheduling job setting) a b h k = job_alike language job setting a b h k
work_alike language (running region state) a b h k = alike_same a b (h ∙ sym k)

-- an answer to what came of a tree
abbrev IsOutcome : Language → Result Work Stop → Result (List ℕ) Stop → Type 0
IsOutcome language out answer = MatchResult out (λ work. WorkAnswers language work answer) (λ stop. answer ≡ Err stop)

outcome_alike : (language : Language) (out : Result Work Stop) (a b : Result (List ℕ) Stop) → IsOutcome language out a → IsOutcome language out b → AreAlike a b
outcome_alike language (Ok work) a b h k = work_alike language work a b h k
outcome_alike language (Err stop) a b h k = alike_same a b (h ∙ sym k)

text_outcome : (language : Language) (out : Result Work Stop) (text : List ℕ) → AgreesOrFails (WorkAnswers language) out (Ok text) → IsOutcome language out (Ok text)
text_outcome language out text (inl (file, e)) = absurd (cc)
text_outcome language (Ok work) text (inr h) = h
text_outcome language (Err stop) text (inr h) = absurd (cc)

stop_outcome : (language : Language) (out : Result Work Stop) (stop : Stop) → AgreesOrFails (WorkAnswers language) out (Err (endings.Stopped stop)) → IsOutcome language out (Err stop)
stop_outcome language out stop (inl (file, e)) = absurd (cc)
stop_outcome language (Ok work) stop (inr h) = h
stop_outcome language (Err other) stop (inr h) = h

text_status : (text : List ℕ) (answer : Result (List ℕ) Stop) → AreAlike answer (Ok text) → IsStatusOf answer statuses.Done × IsStatusOf answer statuses.WriteFault
text_status text (Ok other) e = (tt, tt)
text_status text (Err stop) e = absurd e

stop_is_status : (stop : Stop) (answer : Result (List ℕ) Stop) → AreAlike answer (Err stop) → IsStatusOf answer (stop_status stop)
stop_is_status (CoreRefused reason key) (Ok text) e = absurd e
stop_is_status (Refused file line reason) (Ok text) e = absurd e
stop_is_status (TooLarge file line quantity limit) (Ok text) e = absurd e
stop_is_status (Infeasible most) (Ok text) e = absurd e
stop_is_status (Budget level tree) (Ok text) e = absurd e
stop_is_status (CoreRefused reason key) (Err other) e = ap stop_status e
stop_is_status (Refused file line reason) (Err other) e = ap stop_status e
stop_is_status (TooLarge file line quantity limit) (Err other) e = ap stop_status e
stop_is_status (Infeasible most) (Err other) e = ap stop_status e
stop_is_status (Budget level tree) (Err other) e = ap stop_status e

read_fault_status : (answer : Result (List ℕ) Stop) → IsStatusOf answer statuses.ReadFault
read_fault_status (Ok text) = tt
read_fault_status (Err stop) = tt

no_memory_status : (answer : Result (List ℕ) Stop) → IsStatusOf answer statuses.NoMemory
no_memory_status (Ok text) = tt
no_memory_status (Err stop) = tt

-- the text that a command came to, and the answer to the known bytes
came_to_text : (language : Language) (c : Command) (seen : Seen) (bytes : File → List ℕ) (text : List ℕ) (answer : Result (List ℕ) Stop) → AreTold seen.names seen.holds bytes (command_reads language c)
    → CommandAnswers language c bytes answer → Comes language c seen (Ok text) → AreAlike answer (Ok text)
came_to_text language c seen bytes text answer told a h =
    outcome_alike language (outcome bytes (command_reads language c)) answer (Ok text) a
    (text_outcome language (outcome bytes (command_reads language c)) text (follows-agrees seen bytes (WorkAnswers language) (command_reads language c) (Ok text) told h))

came_to_stop : (language : Language) (c : Command) (seen : Seen) (bytes : File → List ℕ) (stop : Stop) (answer : Result (List ℕ) Stop) → AreTold seen.names seen.holds bytes (command_reads language c)
    → CommandAnswers language c bytes answer → Comes language c seen (Err (endings.Stopped stop)) → AreAlike answer (Err stop)
came_to_stop language c seen bytes stop answer told a h =
    outcome_alike language (outcome bytes (command_reads language c)) answer (Err stop) a
    (stop_outcome language (outcome bytes (command_reads language c)) stop (follows-agrees seen bytes (WorkAnswers language) (command_reads language c) (Err (endings.Stopped stop)) told h))

status_of_known : (language : Language) (c : Command) (seen : Seen) (bytes : File → List ℕ) (out : SinkRun) (ending : Ending) (answer : Result (List ℕ) Stop) → AreTold seen.names seen.holds bytes (command_reads language c)
    → CommandAnswers language c bytes answer → Ends language c seen out ending → IsStatusOf answer (status_of ending)
status_of_known language c seen bytes out endings.Done answer e a h = (text_status h.0 answer (came_to_text language c seen bytes h.0 answer e a h.1)).0
status_of_known language c seen bytes out endings.Usage answer e a h = absurd h
status_of_known language c seen bytes out (endings.Stopped stop) answer e a h = stop_is_status stop answer (came_to_stop language c seen bytes stop answer e a h.0)
status_of_known language c seen bytes out (endings.ReadFault file) answer e a h = read_fault_status answer
status_of_known language c seen bytes out (endings.WriteFault sent) answer e a h = (text_status h.1.0 answer (came_to_text language c seen bytes h.1.0 answer e a h.1.1)).1
status_of_known language c seen bytes out endings.NoMemory answer e a h = no_memory_status answer

-- the status of files whose bytes are known is that of each answer to them
pub exact_status : (command : Option Command) (holds : List ℕ → Option (List ℕ)) (files : FilesRun) (out : SinkRun) (ending : Ending) → HasEnded command holds files out ending
    → (c : Command) (bytes : File → List ℕ) (answer : Result (List ℕ) Stop) → command ≡ Some c → AreTold (names_of_command c) holds bytes (command_reads (language_of c.arch) c) → CommandAnswers (language_of c.arch) c bytes answer → IsStatusOf answer (status_of ending)
exact_status command holds files out ending h c bytes answer e k a =
    let P : Option Command → Type 0 = λ o. HasEnded o holds files out ending in
    status_of_known (language_of c.arch) c (seen_of c holds files) bytes out ending answer k a (subst P e h)
