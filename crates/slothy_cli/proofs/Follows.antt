-- How a call follows a tree of reads: a later part of the call does, and what it came to is what comes
-- of the tree where the bytes are known.
use Rattle.std.proofs.Common.{◌≡◌, ℕ, Bool, true, false, ◌≤◌, ◌<◌, ◌∙◌, List, length, None, Some, Option, Result, Ok, Err, ◌⊎◌, inl, inr, refl, sym, ap, subst, arith, nat_lt, if◌then◌else◌}
use Rattle.std.specs.Option.{IfSome}
use Rattle.std.proofs.lemmas.Bool.Decides.{nat_tests}
use Rattle.std.specs.Prelude.{⊤}
use Rattle.sl_base.specs.Faults.{HasRisen}
use Rattle.sl_base.specs.Reading.{MatchReadErr}
use Rattle.sl_base.specs.declared.reading.ReadErr.{ReadErr}
use Rattle.sl_base.specs.declared.reading.ReadErr.TheVariants as errors
use Rattle.slothy_cli.specs.declared.stop.File.{File}
use Rattle.slothy_cli.specs.declared.stop.Stop.{Stop}
use Rattle.slothy_cli.specs.declared.status.Ending.{Ending}
use Rattle.slothy_cli.specs.declared.status.Ending.TheVariants as endings
use Rattle.slothy_cli.specs.Reads.{Reads, Given, Halted, Read, ◌>>=◌, given, too_long, outcome}
use Rattle.slothy_cli.specs.Messages.{Names, name_in}
use Rattle.slothy_cli.specs.Ending.{FilesRun, Seen, known_of, AreOf, HasFailed, EndsUnread, HasCome, Follows, AreTold}
use Rattle.sl_model.specs.Answers.{Gives, Refuses, Settles}
use Rattle.slothy_cli.specs.declared.stop.Failure.{Failure}
use Rattle.slothy_cli.specs.declared.stop.Failure.TheVariants as failures
use Rattle.slothy_cli.specs.Shown.{unread_ending, failed_ending, stop_told, ended, told}
use Rattle.slothy_cli.proofs.Telling.{risen_before}
use Rattle.sl_model.specs.declared.limits.TheConstants.{FILE_BYTES}

-- what is seen of files from an earlier state on
abbrev pub seen_from : ℕ → Seen → Seen
seen_from before seen = record {
  names = seen.names;
  holds = seen.holds;
  run = record {
    faults_before = before;
    faults_after = seen.run.faults_after;
    given = seen.run.given;
    chosen = seen.run.chosen;
    broken = seen.run.broken;
  };
}

failed-earlier : {R : Type 0} (before : ℕ) (seen : Seen) (file : File) (result : Result R Ending) → before ≤ seen.run.faults_before → EndsUnread seen file result → EndsUnread (seen_from before seen) file result
failed-earlier before seen file (Err (endings.ReadFault failed)) within h = (h.0, risen_before before seen.run.faults_before seen.run.faults_after within h.1, h.2, h.3)
failed-earlier before seen file (Err (endings.Stopped stop)) within h = h
failed-earlier before seen file (Err endings.NoMemory) within h = h
failed-earlier before seen file (Err endings.Done) within h = h
failed-earlier before seen file (Err endings.Usage) within h = h
failed-earlier before seen file (Err (endings.WriteFault sent)) within h = h
failed-earlier before seen file (Ok text) within h = h

-- a call whose later part followed a tree, and read nothing before, followed it
pub follows-earlier : {A R : Type 0} (before : ℕ) (seen : Seen) (Answers : A → Result R Stop → Type 0) (tree : Reads A) (result : Result R Ending) → before ≤ seen.run.faults_before → Follows seen Answers tree result → Follows (seen_from before seen) Answers tree result
unfolding Follows
follows-earlier before seen Answers (Given a) result within h = h
follows-earlier before seen Answers (Halted stop) result within h = h
follows-earlier {A} {R} before seen Answers (Read file next) result within h = earlier (λ bytes rest. follows-earlier before seen Answers (next bytes) result within rest) h
  where
    earlier : ((bytes : List ℕ) → Follows seen Answers (next bytes) result → Follows (seen_from before seen) Answers (next bytes) result)
        → EndsUnread seen file result ⊎ ((bytes : List ℕ) × (length bytes ≤ FILE_BYTES) × AreOf (known_of seen file) bytes × Follows seen Answers (next bytes) result)
        → EndsUnread (seen_from before seen) file result ⊎ ((bytes : List ℕ) × (length bytes ≤ FILE_BYTES) × AreOf (known_of seen file) bytes × Follows (seen_from before seen) Answers (next bytes) result)
    earlier later (inl failed) = inl (failed-earlier before seen file result within failed)
    earlier later (inr (bytes, short, of, rest)) = inr (bytes, short, of, later bytes rest)

-- memory may run out anywhere
pub follows-no_memory : {A R : Type 0} (seen : Seen) (Answers : A → Result R Stop → Type 0) (tree : Reads A) → Follows seen Answers tree (Err endings.NoMemory)
unfolding Follows
follows-no_memory seen Answers (Given a) = tt
follows-no_memory seen Answers (Halted stop) = tt
follows-no_memory seen Answers (Read file next) = inl tt

-- no call that follows a tree ends in a way that is neither a failed read nor an answer
pub follows-never : {A R : Type 0} (seen : Seen) (Answers : A → Result R Stop → Type 0) (tree : Reads A) (ending : Ending) → ((file : File) → HasFailed seen file ending → ⊥) → ((IsAnswer : Result R Stop → Type 0) → HasCome IsAnswer (Err ending) → ⊥)
    → Follows seen Answers tree (Err ending) → ⊥
unfolding Follows
follows-never seen Answers (Given a) ending failed come h = come (Answers a) h
follows-never seen Answers (Halted stop) ending failed come h = come (λ answer. answer ≡ Err stop) h
follows-never {A} {R} seen Answers (Read file next) ending failed come h = never (λ bytes rest. follows-never seen Answers (next bytes) ending failed come rest) h
  where
    never : ((bytes : List ℕ) → Follows {R = R} seen Answers (next bytes) (Err ending) → ⊥)
        → HasFailed seen file ending ⊎ ((bytes : List ℕ) × (length bytes ≤ FILE_BYTES) × AreOf (known_of seen file) bytes × Follows {R = R} seen Answers (next bytes) (Err ending)) → ⊥
    never later (inl fault) = failed file fault
    never later (inr (bytes, short, of, rest)) = later bytes rest

-- a reason to stop that needed no read
pub follows-stopped : {A B R : Type 0} (seen : Seen) (Answers : B → Result R Stop → Type 0) (r : Result A Stop) (next : A → Reads B) (stop : Stop) → r ≡ Err stop → Follows seen Answers (given r >>= next) (Err (endings.Stopped stop))
unfolding Follows
follows-stopped seen Answers (Ok a) next stop e = absurd (cc)
follows-stopped seen Answers (Err other) next stop e = let same : other ≡ stop = cc in ap Err (sym same)

-- ---- one tree behind another

-- The first part of a call came to something, and the rest followed the tree behind it.
pub follows-then : {A B R : Type 0} (seen later : Seen) (Answers : B → Result R Stop → Type 0) (tree : Reads A) (next : A → Reads B) (a : A) (result : Result R Ending) → seen.names ≡ later.names → seen.holds ≡ later.holds
    → Follows seen (λ x answer. answer ≡ Ok x) tree (Ok a) → Follows later Answers (next a) result → Follows later Answers (tree >>= next) result
unfolding Follows
follows-then {A} {B} {R} seen later Answers (Given x) next a result names holds h rest =
    let same : a ≡ x = cc in
    subst (λ y. Follows later Answers (next y) result) same rest
follows-then seen later Answers (Halted stop) next a result names holds h rest = absurd (cc)
follows-then {A} {B} {R} seen later Answers (Read file more) next a result names holds h rest = behind (λ bytes first. follows-then seen later Answers (more bytes) next a result names holds first rest) h
  where
    told : (bytes : List ℕ) → AreOf (known_of seen file) bytes → AreOf (known_of later file) bytes
    told bytes of = subst (λ (known : List ℕ → Option (List ℕ)). AreOf (known (name_in later.names file)) bytes) holds (subst (λ (n : Names). AreOf (seen.holds (name_in n file)) bytes) names of)

    behind : ((bytes : List ℕ) → Follows {R = A} seen (λ x answer. answer ≡ Ok x) (more bytes) (Ok a) → Follows later Answers (more bytes >>= next) result)
        → ⊥ ⊎ ((bytes : List ℕ) × (length bytes ≤ FILE_BYTES) × AreOf (known_of seen file) bytes × Follows {R = A} seen (λ x answer. answer ≡ Ok x) (more bytes) (Ok a))
        → EndsUnread later file result ⊎ ((bytes : List ℕ) × (length bytes ≤ FILE_BYTES) × AreOf (known_of later file) bytes × Follows later Answers (more bytes >>= next) result)
    behind go (inl failed) = absurd failed
    behind go (inr (bytes, short, of, first)) = inr (bytes, short, told bytes of, go bytes first)

-- a part of a call that came to nothing comes to the same whatever it should have come to
come-stopped : (A R : Type 0) (stop : Stop) (ending : Ending) → HasCome {R = A} (λ answer. answer ≡ Err stop) (Err ending) → HasCome {R = R} (λ answer. answer ≡ Err stop) (Err ending)
come-stopped A R stop (endings.Stopped other) h = let same : other ≡ stop = cc in ap Err same
come-stopped A R stop endings.NoMemory h = tt
come-stopped A R stop endings.Done h = absurd h
come-stopped A R stop endings.Usage h = absurd h
come-stopped A R stop (endings.ReadFault file) h = absurd h
come-stopped A R stop (endings.WriteFault sent) h = absurd h

-- memory that ran out where the tree had given what there is
nothing-given : {A B R : Type 0} (seen : Seen) (Answers : B → Result R Stop → Type 0) (a : A) (tree : Reads B) (ending : Ending) → HasCome {R = A} (λ answer. answer ≡ Ok a) (Err ending) → Follows seen Answers tree (Err ending)
nothing-given seen Answers a tree (endings.Stopped stop) h = absurd (cc)
nothing-given seen Answers a tree endings.NoMemory h = follows-no_memory seen Answers tree
nothing-given seen Answers a tree endings.Done h = absurd h
nothing-given seen Answers a tree endings.Usage h = absurd h
nothing-given seen Answers a tree (endings.ReadFault file) h = absurd h
nothing-given seen Answers a tree (endings.WriteFault sent) h = absurd h

-- The first part of a call came to nothing: so did the call.
pub follows-nothing : {A B R : Type 0} (seen : Seen) (Answers : B → Result R Stop → Type 0) (tree : Reads A) (next : A → Reads B) (ending : Ending) → Follows {R = A} seen (λ x answer. answer ≡ Ok x) tree (Err ending) → Follows {R = R} seen Answers (tree >>= next) (Err ending)
unfolding Follows
follows-nothing seen Answers (Given x) next ending h = nothing-given seen Answers x (next x) ending h
follows-nothing {A} {B} {R} seen Answers (Halted stop) next ending h = come-stopped A R stop ending h
follows-nothing {A} {B} {R} seen Answers (Read file more) next ending h = behind (λ bytes first. follows-nothing {R = R} seen Answers (more bytes) next ending first) h
  where
    behind : ((bytes : List ℕ) → Follows {R = A} seen (λ x answer. answer ≡ Ok x) (more bytes) (Err ending) → Follows {R = R} seen Answers (more bytes >>= next) (Err ending))
        → HasFailed seen file ending ⊎ ((bytes : List ℕ) × (length bytes ≤ FILE_BYTES) × AreOf (known_of seen file) bytes × Follows {R = A} seen (λ x answer. answer ≡ Ok x) (more bytes) (Err ending))
        → HasFailed seen file ending ⊎ ((bytes : List ℕ) × (length bytes ≤ FILE_BYTES) × AreOf (known_of seen file) bytes × Follows {R = R} seen Answers (more bytes >>= next) (Err ending))
    behind go (inl failed) = inl failed
    behind go (inr (bytes, short, of, first)) = inr (bytes, short, of, go bytes first)

-- what is known of bytes, as far as they are
if_told : (known : Option (List ℕ)) (P : List ℕ → Type 0) → ((bytes : List ℕ) → known ≡ Some bytes → P bytes) → IfSome known P
if_told None P h = tt
if_told (Some bytes) P h = h bytes refl

-- a read that failed, by the error of reading the whole file
unread-named : (seen : Seen) (file : File) (error : ReadErr)
    → MatchReadErr error (HasRisen seen.run.faults_before seen.run.faults_after) (λ _. ⊤)
    → MatchReadErr error (seen.run.chosen ≡ name_in seen.names file) (λ _. ⊤)
    → MatchReadErr error (seen.run.broken ≡ true) (λ _. ⊤)
    → MatchReadErr error ⊤ (λ _. FILE_BYTES < seen.run.given)
    → MatchReadErr error ⊤ (λ _. seen.run.chosen ≡ name_in seen.names file)
    → ((bytes : List ℕ) → known_of seen file ≡ Some bytes → MatchReadErr error ⊤ (λ _. FILE_BYTES < length bytes))
    → HasFailed seen file (unread_ending file error)
unread-named seen file errors.ReadFault risen chosen broken given long told = (refl, risen, chosen, broken)
unread-named seen file (errors.TooLong limit) risen chosen broken given long told = (refl, long, given, if_told (known_of seen file) (λ bytes. FILE_BYTES < length bytes) told)
unread-named seen file errors.NoMemory risen chosen broken given long told = tt

-- the same of a file by its name
pub unread-failed : (seen : Seen) (file : File) (name : List ℕ) (error : ReadErr) (ending : Ending) → ending ≡ unread_ending file error → name ≡ name_in seen.names file
    → MatchReadErr error (HasRisen seen.run.faults_before seen.run.faults_after) (λ _. ⊤)
    → MatchReadErr error (seen.run.chosen ≡ name) (λ _. ⊤)
    → MatchReadErr error (seen.run.broken ≡ true) (λ _. ⊤)
    → MatchReadErr error ⊤ (λ _. FILE_BYTES < seen.run.given)
    → MatchReadErr error ⊤ (λ _. seen.run.chosen ≡ name)
    → ((bytes : List ℕ) → seen.holds name ≡ Some bytes → MatchReadErr error ⊤ (λ _. FILE_BYTES < length bytes))
    → HasFailed seen file ending
unread-failed seen file name error ending ends is risen chosen broken given long told =
    subst (HasFailed seen file) (sym ends)
    (unread-named seen file error risen
    (subst (λ n. MatchReadErr error (seen.run.chosen ≡ n) (λ _. ⊤)) is chosen)
    broken given
    (subst (λ n. MatchReadErr error ⊤ (λ _. seen.run.chosen ≡ n)) is long)
    (subst (λ n. (bytes : List ℕ) → seen.holds n ≡ Some bytes → MatchReadErr error ⊤ (λ _. FILE_BYTES < length bytes)) is told))

-- A call came to what comes of a tree, or a read failed.
abbrev Agrees : {A : Type 0} → (A → Result (List ℕ) Stop → Type 0) → Result A Stop → Result (List ℕ) Ending → Type 0
Agrees Answers (Ok a) result = HasCome (Answers a) result
Agrees Answers (Err stop) result = HasCome (λ answer. answer ≡ Err stop) result

-- the same, or a read failed
abbrev pub AgreesOrFails : {A : Type 0} → (A → Result (List ℕ) Stop → Type 0) → Result A Stop → Result (List ℕ) Ending → Type 0
AgreesOrFails Answers out result = ((file : File) × (result ≡ Err (endings.ReadFault file))) ⊎ Agrees Answers out result

-- a file whose bytes are known has those that were read
told_same : (known : Option (List ℕ)) (told read : List ℕ) → known ≡ Some told → AreOf known read → told ≡ read
told_same None told read e h = absurd (cc)
told_same (Some t) told read e h = let same : t ≡ told = cc in sym same ∙ h

not_above : (n : ℕ) → n ≤ FILE_BYTES → nat_lt FILE_BYTES n ≡ false
not_above n h = grind (arith, nat_tests)

above : (n : ℕ) → FILE_BYTES < n → nat_lt FILE_BYTES n ≡ true
above n h = grind (arith, nat_tests)

-- memory may run out anywhere
agrees-no_memory : {A : Type 0} (Answers : A → Result (List ℕ) Stop → Type 0) (out : Result A Stop) → Agrees Answers out (Err endings.NoMemory)
agrees-no_memory Answers (Ok a) = tt
agrees-no_memory Answers (Err stop) = tt

-- a read that failed, of a file whose bytes are known
failed-agrees : {A : Type 0} (seen : Seen) (bytes : File → List ℕ) (Answers : A → Result (List ℕ) Stop → Type 0) (file : File) (next : List ℕ → Reads A) (result : Result (List ℕ) Ending) → known_of seen file ≡ Some (bytes file) → EndsUnread seen file result → AgreesOrFails Answers (outcome bytes (Read file next)) result
unfolding outcome
failed-agrees seen bytes Answers file next (Err (endings.ReadFault failed)) told h = inl (failed, refl)
failed-agrees seen bytes Answers file next (Err (endings.Stopped stop)) told h =
    let long : FILE_BYTES < length (bytes file) = subst (λ (k : Option (List ℕ)). IfSome k (λ told. FILE_BYTES < length told)) told h.3 in
    inr (subst (λ b. Agrees Answers (if b then Err (too_long file) else outcome bytes (next (bytes file))) (Err (endings.Stopped stop))) (sym (above (length (bytes file)) long)) (ap Err h.0))
failed-agrees seen bytes Answers file next (Err endings.NoMemory) told h = inr (agrees-no_memory Answers (outcome bytes (Read file next)))
failed-agrees seen bytes Answers file next (Err endings.Done) told h = absurd h
failed-agrees seen bytes Answers file next (Err endings.Usage) told h = absurd h
failed-agrees seen bytes Answers file next (Err (endings.WriteFault sent)) told h = absurd h
failed-agrees seen bytes Answers file next (Ok text) told h = absurd h

-- what a call came to is what comes of the tree, where the bytes of its files are known
pub follows-agrees : {A : Type 0} (seen : Seen) (bytes : File → List ℕ) (Answers : A → Result (List ℕ) Stop → Type 0) (tree : Reads A) (result : Result (List ℕ) Ending) → AreTold seen.names seen.holds bytes tree → Follows seen Answers tree result → AgreesOrFails Answers (outcome bytes tree) result
unfolding Follows AreTold outcome
follows-agrees seen bytes Answers (Given a) result told h = inr h
follows-agrees seen bytes Answers (Halted stop) result told h = inr h
follows-agrees seen bytes Answers (Read file next) result told h = by_read (λ rest. follows-agrees seen bytes Answers (next (bytes file)) result told.1 rest) h
  where
    by_read : (Follows seen Answers (next (bytes file)) result → AgreesOrFails Answers (outcome bytes (next (bytes file))) result)
        → EndsUnread seen file result ⊎ ((read : List ℕ) × (length read ≤ FILE_BYTES) × AreOf (known_of seen file) read × Follows seen Answers (next read) result)
        → AgreesOrFails Answers (if nat_lt FILE_BYTES (length (bytes file)) then Err (too_long file) else outcome bytes (next (bytes file))) result
    by_read later (inl failed) = failed-agrees seen bytes Answers file next result told.0 failed
    by_read later (inr (read, short, of, rest)) =
        let same : bytes file ≡ read = told_same (known_of seen file) (bytes file) read told.0 of in
        subst (λ b. AgreesOrFails Answers (if b then Err (too_long file) else outcome bytes (next (bytes file))) result)
        (sym (ap (λ b. nat_lt FILE_BYTES (length b)) same ∙ not_above (length read) short))
        (later (subst (λ b. Follows seen Answers (next b) result) (sym same) rest))

-- ---- parts of a call

-- a file that was read, and what followed behind it
pub follows-read : {A R : Type 0} (seen : Seen) (Answers : A → Result R Stop → Type 0) (file : File) (next : List ℕ → Reads A) (names : Names) (bytes : List ℕ) (result : Result R Ending) → names ≡ seen.names → length bytes ≤ FILE_BYTES
    → AreOf (seen.holds (name_in names file)) bytes → Follows seen Answers (next bytes) result → Follows seen Answers (Read file next) result
unfolding Follows
follows-read seen Answers file next names bytes result same short of rest = inr (bytes, short, subst (λ (n : Names). AreOf (seen.holds (name_in n file)) bytes) same of, rest)

-- a read that failed
pub follows-failed : {A R : Type 0} (seen : Seen) (Answers : A → Result R Stop → Type 0) (file : File) (next : List ℕ → Reads A) (names : Names) (ending : Ending) → names ≡ seen.names
    → HasFailed (record { names = names; holds = seen.holds; run = seen.run }) file ending → Follows {R = R} seen Answers (Read file next) (Err ending)
unfolding Follows
follows-failed seen Answers file next names ending same failed = inl (subst (λ (n : Names). HasFailed (record { names = n; holds = seen.holds; run = seen.run }) file ending) same failed)

-- what settles a question ends a call
come-settled-so : {X R : Type 0} (view : X → R) (r : Result X Failure) (IsAnswer : Result R Stop → Type 0) → Settles stop_told view r IsAnswer → HasCome IsAnswer (told view (ended r))
come-settled-so view (Ok x) IsAnswer h = h
come-settled-so view (Err (failures.Stopped stop)) IsAnswer h = h
come-settled-so view (Err failures.NoMemory) IsAnswer h = tt

pub come-settled : {X R : Type 0} (view : X → R) (r : Result X Failure) (end : Result X Ending) (IsAnswer : Result R Stop → Type 0) → end ≡ ended r → Settles stop_told view r IsAnswer → HasCome IsAnswer (told view end)
come-settled view r end IsAnswer is h = subst (λ e. HasCome IsAnswer (told view e)) (sym is) (come-settled-so view r IsAnswer h)

-- and so does what gives a definition's answer
come-given-so : {X R : Type 0} (view : X → R) (r : Result X Failure) (answer : Result R Stop) → Gives stop_told view r answer → HasCome (λ a. a ≡ answer) (told view (ended r))
come-given-so view (Ok x) answer h = sym h
come-given-so view (Err (failures.Stopped stop)) answer h = sym h
come-given-so view (Err failures.NoMemory) answer h = tt

pub come-given : {X R : Type 0} (view : X → R) (r : Result X Failure) (end : Result X Ending) (answer : Result R Stop) → end ≡ ended r → Gives stop_told view r answer → HasCome (λ a. a ≡ answer) (told view end)
come-given view r end answer is h = subst (λ e. HasCome (λ a. a ≡ answer) (told view e)) (sym is) (come-given-so view r answer h)

-- a region that is refused ends a call
pub follows-refused : {A B R : Type 0} (seen : Seen) (Answers : B → Result R Stop → Type 0) (r : Result A Stop) (next : A → Reads B) (failure : Failure) (ending : Ending) → ending ≡ failed_ending failure → Refuses (stop_told failure) r → Follows seen Answers (given r >>= next) (Err ending)
follows-refused seen Answers r next (failures.Stopped stop) ending is h = subst (λ e. Follows seen Answers (given r >>= next) (Err e)) (sym is) (follows-stopped seen Answers r next stop h)
follows-refused seen Answers r next failures.NoMemory ending is h = subst (λ e. Follows seen Answers (given r >>= next) (Err e)) (sym is) (follows-no_memory seen Answers (given r >>= next))

-- a tree without a read, and what a call came to
pub follows-given : {A R : Type 0} (seen : Seen) (Answers : A → Result R Stop → Type 0) (a : A) (result : Result R Ending) → HasCome (Answers a) result → Follows seen Answers (Given a) result
unfolding Follows
follows-given seen Answers a result h = h

-- what is there by a definition, and a call that gives it
gives-follows : {X R : Type 0} (seen : Seen) (view : X → R) (r : Result R Stop) (answer : Result X Failure) → Gives stop_told view answer r → Follows {R = R} seen (λ x came. came ≡ Ok x) (given r) (told view (ended answer))
unfolding Follows
gives-follows seen view (Ok y) (Ok x) h = sym h
gives-follows seen view (Err stop) (Ok x) h = absurd (cc)
gives-follows seen view (Ok y) (Err (failures.Stopped stop)) h = absurd (cc)
gives-follows seen view (Err other) (Err (failures.Stopped stop)) h = sym h
gives-follows seen view (Ok y) (Err failures.NoMemory) h = tt
gives-follows seen view (Err stop) (Err failures.NoMemory) h = tt

pub follows-gives : {X R : Type 0} (seen : Seen) (view : X → R) (r : Result R Stop) (answer : Result X Failure) (end : Result X Ending) → end ≡ ended answer → Gives stop_told view answer r → Follows {R = R} seen (λ x came. came ≡ Ok x) (given r) (told view end)
follows-gives seen view r answer end is h = subst (λ e. Follows seen (λ x came. came ≡ Ok x) (given r) (told view e)) (sym is) (gives-follows seen view r answer h)

-- a question that was answered without a read, and what followed
pub follows-known : {A B R : Type 0} (seen : Seen) (Answers : B → Result R Stop → Type 0) (r : Result A Stop) (next : A → Reads B) (a : A) (result : Result R Ending) → r ≡ Ok a → Follows seen Answers (next a) result → Follows seen Answers (given r >>= next) result
follows-known seen Answers r next a result is rest = subst (λ x. Follows seen Answers (given x >>= next) result) (sym is) rest
