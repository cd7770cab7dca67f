-- How a call of the command may end: each ending has its cause, and says what the output took.
use Rattle.std.specs.Prelude.{ℕ, Bool, true, ◌≡◌, ◌≤◌, ◌<◌, List, [], length, take, Option, None, Some, Result, Ok, Err, MatchOption, IfSome, ◌⊎◌}
use Rattle.std.specs.Io.KnownBytes.{append_known}
use Rattle.sl_base.specs.Faults.{HasRisen}
use Rattle.sl_isa.specs.Language.{Language}
use Rattle.slothy_cli.specs.declared.stop.File.{File}
use Rattle.slothy_cli.specs.declared.stop.File.TheVariants as which
use Rattle.slothy_cli.specs.declared.stop.Stop.{Stop}
use Rattle.slothy_cli.specs.declared.status.Status.{Status}
use Rattle.slothy_cli.specs.declared.status.Status.TheVariants as statuses
use Rattle.slothy_cli.specs.declared.status.Ending.{Ending}
use Rattle.slothy_cli.specs.declared.status.Ending.TheVariants.{Done, Usage, Stopped, ReadFault, WriteFault, NoMemory}
use Rattle.command_words.specs.declared.options.CoreWord.TheVariants as cores
use Rattle.slothy_cli.specs.Command.{Task, upon, emulate, Command, command_of}
use Rattle.slothy_cli.specs.Languages.{language_of}
use Rattle.slothy_cli.specs.Reads.{Reads, Given, Halted, Read, too_long}
use Rattle.slothy_cli.specs.Outcome.{command_reads, WorkAnswers}
use Rattle.slothy_cli.specs.Messages.{Names, name_in, stop_status, message_of}
use Rattle.sl_model.specs.declared.limits.TheConstants.{FILE_BYTES}

-- ---- what is seen of a call

-- what is seen of the files over a call: how many calls on them had failed before and after
-- it, and as it ends the bytes given since the last choice, the chosen name, and whether a
-- call on the chosen file failed
pub record FilesRun : Type 0 where
  pub faults_before : ℕ
  pub faults_after : ℕ
  pub given : ℕ
  pub chosen : List ℕ
  pub broken : Bool

-- what is seen of a sink over a call: the bytes that it had and has taken, where they are known,
-- and how many calls on it had and have failed
pub record SinkRun : Type 0 where
  pub before : Option (List ℕ)
  pub after : Option (List ℕ)
  pub faults_before : ℕ
  pub faults_after : ℕ

-- what is seen of files that were in one state and are in another: by their faults, the bytes
-- given, the chosen name, and whether a call on it failed
abbrev pub files_run : {S : Type 0} → (S → ℕ) → (S → ℕ) → (S → List ℕ) → (S → Bool)
    → S → S → FilesRun
files_run faults given chosen broken old new =
    record {
      faults_before = faults old;
      faults_after = faults new;
      given = given new;
      chosen = chosen new;
      broken = broken new;
    }

-- what is seen of a sink that was in one state and is in another: by
-- the bytes taken, and its faults
abbrev pub sink_run : {S : Type 0} → (S → Option (List ℕ)) → (S → ℕ) → S → S → SinkRun
sink_run taken faults old new =
    record {
      before = taken old;
      after = taken new;
      faults_before = faults old;
      faults_after = faults new;
    }

-- The sink took nothing.
abbrev pub TookNothing : SinkRun → Type 0
TookNothing sink = sink.after ≡ sink.before

-- The sink took a front of a text, and all of it unless a call on the sink failed.
pub record TookFront (sink : SinkRun) (text : List ℕ) : Type 0 where
  pub count : ℕ
  pub taken : sink.after ≡ append_known sink.before (take count text)
  pub whole : (count ≡ length text) ⊎ HasRisen sink.faults_before sink.faults_after

-- ---- how a call follows a tree of reads

-- the names of the files, what a file of a name is known to hold, and what is seen of them
pub record Seen : Type 0 where
  pub names : Names
  pub holds : List ℕ → Option (List ℕ)
  pub run : FilesRun

-- what is known of the bytes of a file
abbrev pub known_of : Seen → File → Option (List ℕ)
known_of seen file = seen.holds (name_in seen.names file)

-- The bytes are those of the file, where these are known.
abbrev pub AreOf : Option (List ℕ) → List ℕ → Type 0
AreOf known bytes = IfSome known (λ told. told ≡ bytes)

-- A read of a file failed: a call on it did; or it is too long, and more than the limit was read; or
-- memory ran out.
abbrev pub HasFailed : Seen → File → Ending → Type 0
HasFailed seen file (ReadFault failed) =
    (failed ≡ file) × HasRisen seen.run.faults_before seen.run.faults_after
    × (seen.run.chosen ≡ name_in seen.names file) × (seen.run.broken ≡ true)
HasFailed seen file (Stopped stop) =
    (stop ≡ too_long file) × (seen.run.chosen ≡ name_in seen.names file)
    × (FILE_BYTES < seen.run.given)
    × IfSome (known_of seen file) (λ told. FILE_BYTES < length told)
HasFailed seen file NoMemory = Unit {0}
HasFailed seen file Done = ⊥
HasFailed seen file Usage = ⊥
HasFailed seen file (WriteFault sent) = ⊥

-- A call came to nothing, by a read that failed.
abbrev pub EndsUnread : {R : Type 0} → Seen → File → Result R Ending → Type 0
EndsUnread seen file (Ok x) = ⊥
EndsUnread seen file (Err ending) = HasFailed seen file ending

-- A call came to an answer, or memory ran out.
abbrev pub HasCome : {R : Type 0} → (Result R Stop → Type 0) → Result R Ending → Type 0
HasCome IsAnswer (Ok x) = IsAnswer (Ok x)
HasCome IsAnswer (Err (Stopped stop)) = IsAnswer (Err stop)
HasCome IsAnswer (Err NoMemory) = Unit {0}
HasCome IsAnswer (Err Done) = ⊥
HasCome IsAnswer (Err Usage) = ⊥
HasCome IsAnswer (Err (ReadFault file)) = ⊥
HasCome IsAnswer (Err (WriteFault sent)) = ⊥

-- A call followed a tree of reads, and came to this: each file that it read has the bytes that it
-- went on from, where they are known, and no more than the limit; at the end it came to an answer to
-- what was there, or to the tree's reason to stop; or a read failed.
unfoldable pub Follows : {A R : Type 0} → Seen → (A → Result R Stop → Type 0) → Reads A
    → Result R Ending → Type 0
Follows seen Answers (Given a) result = HasCome (Answers a) result
Follows seen Answers (Halted stop) result = HasCome (λ answer. answer ≡ Err stop) result
Follows seen Answers (Read file next) result =
    EndsUnread seen file result
    ⊎ ((bytes : List ℕ) × (length bytes ≤ FILE_BYTES) × AreOf (known_of seen file) bytes
    × Follows seen Answers (next bytes) result)

-- The files that a tree reads, where they have these bytes, are known to have them.
unfoldable pub AreTold : {A : Type 0} → Names → (List ℕ → Option (List ℕ)) → (File → List ℕ)
    → Reads A → Type 0
AreTold names holds bytes (Given a) = Unit {0}
AreTold names holds bytes (Halted stop) = Unit {0}
AreTold names holds bytes (Read file next) =
    (holds (name_in names file) ≡ Some (bytes file)) × AreTold names holds bytes (next (bytes file))

-- ---- how a command ends

-- the name of the core's file, as messages have it: empty where none is read
abbrev pub core_name : Task → List ℕ
core_name (upon (cores.File name) job) = name
core_name (upon (cores.Plain latency) job) = []
core_name (emulate state turns) = []

-- the name of the state file, as messages have it: empty where none is read
abbrev pub state_name : Task → List ℕ
state_name (upon core job) = []
state_name (emulate state turns) = state

-- the names of a command's files, as messages have them
abbrev pub names_of_command : Command → Names
names_of_command c =
    record { core = core_name c.task; input = c.name; state = state_name c.task }

-- what is seen of a command's files
abbrev pub seen_of : Command → (List ℕ → Option (List ℕ)) → FilesRun → Seen
seen_of c holds run = record { names = names_of_command c; holds = holds; run = run }

-- A command, which reads its files, came to this.
abbrev pub Comes : Language → Command → Seen → Result (List ℕ) Ending → Type 0
Comes language c seen result =
    Follows seen (WorkAnswers language) (command_reads language c) result

-- The ending of a command that isn't wrong has its cause, and says what the output took.
abbrev pub Ends : Language → Command → Seen → SinkRun → Ending → Type 0
-- the text of the files' bytes was written whole
Ends language c seen out Done =
    (text : List ℕ) × Comes language c seen (Ok text) × (out.after ≡ append_known out.before text)
-- a call on the output failed, which had taken so many bytes of the text
Ends language c seen out (WriteFault sent) =
    HasRisen out.faults_before out.faults_after
    × ((text : List ℕ) × Comes language c seen (Ok text) × (sent < length text)
    × (out.after ≡ append_known out.before (take sent text)))
-- there is no text, and nothing was written
Ends language c seen out (Stopped stop) =
    Comes language c seen (Err (Stopped stop)) × TookNothing out
Ends language c seen out (ReadFault file) =
    Comes language c seen (Err (ReadFault file)) × TookNothing out
Ends language c seen out NoMemory = Comes language c seen (Err NoMemory) × TookNothing out
-- the words aren't wrong
Ends language c seen out Usage = ⊥

-- the names of the files that words give, if they are right
abbrev pub names_given : Option Command → Names
names_given None = record { core = []; input = []; state = [] }
names_given (Some c) = names_of_command c

-- Words that are wrong end a call as wrong use, or memory ran out.
abbrev pub IsWrong : Ending → Type 0
IsWrong ending = (ending ≡ Usage) ⊎ (ending ≡ NoMemory)

-- A call with these words, on files of which `holds` tells what is known, ended so.
pub record Call (words : List (List ℕ)) (holds : List ℕ → Option (List ℕ)) (files : FilesRun)
    (out err : SinkRun) (ending : Ending) : Type 0 where
  -- wrong use where the words are wrong, and else an ending of the command with its cause
  pub cause : MatchOption (command_of words) (IsWrong ending × TookNothing out)
      (λ c. Ends (language_of c.arch) c (seen_of c holds files) out ending)
  -- the error output took the ending's message
  pub message : TookFront err (message_of (names_given (command_of words)) ending)

-- Is this a status for files whose bytes are known to have this answer? Faults and
-- want of memory come in between.
abbrev pub IsStatusOf : Result (List ℕ) Stop → Status → Type 0
IsStatusOf (Ok text) statuses.Done = Unit {0}
IsStatusOf (Err stop) statuses.Done = ⊥
IsStatusOf (Ok text) statuses.Infeasible = ⊥
IsStatusOf (Err stop) statuses.Infeasible = stop_status stop ≡ statuses.Infeasible
IsStatusOf outcome statuses.Usage = ⊥
IsStatusOf (Ok text) statuses.Refused = ⊥
IsStatusOf (Err stop) statuses.Refused = stop_status stop ≡ statuses.Refused
IsStatusOf (Ok text) statuses.Budget = ⊥
IsStatusOf (Err stop) statuses.Budget = stop_status stop ≡ statuses.Budget
IsStatusOf outcome statuses.ReadFault = Unit {0}
IsStatusOf (Ok text) statuses.WriteFault = Unit {0}
IsStatusOf (Err stop) statuses.WriteFault = ⊥
IsStatusOf outcome statuses.NoMemory = Unit {0}
IsStatusOf outcome statuses.CheckNo = ⊥
IsStatusOf (Ok text) statuses.TooLarge = ⊥
IsStatusOf (Err stop) statuses.TooLarge = stop_status stop ≡ statuses.TooLarge
IsStatusOf outcome statuses.TurnsSpent = ⊥

-- what the output took of a text, and how that ends a call
abbrev pub Delivers : SinkRun → List ℕ → Ending → Type 0
Delivers out text Done = out.after ≡ append_known out.before text
Delivers out text (WriteFault sent) =
    HasRisen out.faults_before out.faults_after × (sent < length text)
    × (out.after ≡ append_known out.before (take sent text))
Delivers out text Usage = ⊥
Delivers out text (Stopped stop) = ⊥
Delivers out text (ReadFault file) = ⊥
Delivers out text NoMemory = ⊥
