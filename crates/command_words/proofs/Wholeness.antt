-- What a command asks for is whole: each number in its range, each name and label there.
use Rattle.std.proofs.Common.{◌≡◌, ◌≢◌, ◌∙◌, ℕ, ◌≤◌, ◌-◌, ◌^◌, Bool, true, false, ◌&&◌, ◌||◌, not, is_some, [], ◌∷◌, length, drop, None, Some, Option, Result, Ok, Err, if◌then◌else◌, refl, sym, ap, arith, true≢false, nat_le, eqb}
use Rattle.std.specs.Prelude.{IfOk, IfSome, codes, nat_eq}
use Rattle.std.specs.Char.{is_ascii_alphabetic}
use Rattle.std.specs.List.{find, starts_with, list_all}
use Rattle.std.specs.Str.{bytes_eq}
use Rattle.std.proofs.lemmas.Bool.{leb-true, not-true}
use Rattle.std.proofs.lemmas.Slice.Eq.{bytes_eq-Decides}
use Rattle.sl_model.specs.declared.limits.TheConstants.{STALLS, TURNS}
use Rattle.sl_model.specs.declared.instruction.ArchName.{ArchName}
use Rattle.sl_model.specs.declared.register.RegSet.{RegSet}
use Rattle.sl_model.specs.Digits.{decimal_number}
use Rattle.command_words.specs.declared.options.Mode.{Mode}
use Rattle.command_words.specs.declared.options.Mode.TheVariants.{Cost, Opt, Run, Demo}
use Rattle.command_words.specs.declared.options.CoreWord.{CoreWord}
use Rattle.command_words.specs.declared.options.TheConstants.{LATENCY, MOST_STALLS, TURNS_UNSAID, MOST_BUDGET, MOST_WORKERS, MOST_COUNT, BUDGET_UNSAID}
use Rattle.command_words.specs.Answer.{WrongUse, wrong_use}
use Rattle.command_words.specs.Command.{within, number_in, number_or, file_name, plain_core, file_core, core_named, core_of, state_of, input_named, input_of, is_label, is_label_byte, label_or, two_labels, labels_of, live_of, free_of, mode_by, mode_of, architecture, suited, files_by, registers_by, numbers_by, kernel_by, options_of, register_set}
use Rattle.command_words.specs.declared.table.Use.TheVariants.{Refused, Required}
use Rattle.command_words.specs.Table.{Text, OptionLine, line, use_by, keeps, suits, option_lines}
use Rattle.command_words.specs.Whole.{IsWholeCore, IsListedSet, needs_core, IsWhole}
use Rattle.command_words.proofs.Steps.{step, anything, let_through, kept_out, found-all}
use Rattle.command_words.proofs.ListedSets.{list-listed, none-listed}

-- ---- numbers

abbrev IsBetween : ℕ → ℕ → ℕ → Type 0
IsBetween least most n = (least ≤ n) × (n ≤ most)

within-between : (least most : ℕ) (o : Option ℕ) → IfOk (within least most o) (IsBetween least most)
within-between least most None = tt
within-between least most (Some n) =
    let_through (IsBetween least most) (nat_le least n) (if nat_le n most then Ok n else Err wrong_use)
    (λ above. let_through (IsBetween least most) (nat_le n most) (Ok n) (λ below. (leb-true least n above, leb-true n most below)))

number-between : (least most : ℕ) (word : Text) → IfOk (number_in least most word) (IsBetween least most)
unfolding number_in
number-between least most word = within-between least most (decimal_number word)

-- a number that is said or not
number-ranged : (least unsaid most : ℕ) (word : Option Text) → least ≤ unsaid → unsaid ≤ most → IfOk (number_or least unsaid most word) (IsBetween least most)
number-ranged least unsaid most None from to = (from, to)
number-ranged least unsaid most (Some word) from to = number-between least most word

number-most : (least unsaid most : ℕ) (word : Option Text) → unsaid ≤ most → IfOk (number_or least unsaid most word) (λ n. n ≤ most)
number-most least unsaid most None le = le
number-most least unsaid most (Some word) le = second (number_in least most word) (number-between least most word)
  where
    second : (r : Result ℕ WrongUse) → IfOk r (IsBetween least most) → IfOk r (λ n. n ≤ most)
    second (Ok n) h = h.1
    second (Err e) h = tt

-- ---- names

-- a text whose length isn't 0
some-text : (word : Text) → eqb (length word) 0 ≡ false → word ≢ []
some-text word some none = true≢false (sym (ap (λ (w : Text). eqb (length w) 0) none) ∙ some)

name-there : (word : Text) → IfOk (file_name word) (λ name. name ≢ [])
unfolding file_name
name-there word = kept_out (λ (name : Text). name ≢ []) (eqb (length word) 0) (if bytes_eq word (codes "-") then Err wrong_use else Ok word)
    (λ some. kept_out (λ (name : Text). name ≢ []) (bytes_eq word (codes "-")) (Ok word) (λ other. some-text word some))

core-whole : (word : Text) → IfOk (core_named word) IsWholeCore
unfolding core_named
core-whole word = go (starts_with nat_eq word (codes "one:"))
  where
    go : (b : Bool) → IfOk (if b then plain_core (drop 4 word) else file_core word) IsWholeCore
    go true = step (IsBetween 1 LATENCY) IsWholeCore (number_in 1 LATENCY (drop 4 word)) _ (number-between 1 LATENCY (drop 4 word)) (λ n is. is)
    go false = step (λ (name : Text). name ≢ []) IsWholeCore (file_name word) _ (name-there word) (λ name there. there)

-- what is said of something that isn't asked of all
abbrev IsAsked : {X : Type 0} → (X → Type 0) → Option Text → Option X → Type 0
IsAsked P word o = (is_some o ≡ is_some word) × IfSome o P

core-asked : (word : Option Text) → IfOk (core_of word) (IsAsked IsWholeCore word)
unfolding core_of
core-asked None = (refl, tt)
core-asked (Some word) = step IsWholeCore (IsAsked IsWholeCore (Some word)) (core_named word) _ (core-whole word) (λ core is. (refl, is))

state-asked : (word : Option Text) → IfOk (state_of word) (IsAsked (λ name. name ≢ []) word)
unfolding state_of
state-asked None = (refl, tt)
state-asked (Some word) = step (λ (name : Text). name ≢ []) (IsAsked (λ (name : Text). name ≢ []) (Some word)) (file_name word) _ (name-there word) (λ name is. (refl, is))

named-there : (word : Option Text) → IfOk (input_named word) (λ input. input ≢ [])
named-there None = tt
named-there (Some word) = kept_out (λ (input : Text). input ≢ []) (eqb (length word) 0) (Ok word) (some-text word)

input-there : (mode : Mode) (word : Option Text) → IfOk (input_of mode word) (λ input. input ≢ [])
unfolding input_of
input-there Cost word = named-there word
input-there Opt word = named-there word
input-there Run word = named-there word
input-there Demo None = λ e. absurd (cc)
input-there Demo (Some word) = tt

-- ---- labels

label-there : (unsaid : Text) (word : Option Text) → unsaid ≢ [] → IfOk (label_or unsaid word) (λ label. label ≢ [])
unfolding is_label
label-there unsaid None there = there
label-there unsaid (Some []) there = tt
label-there unsaid (Some (c ∷ rest)) there = let_through (λ (label : Text). label ≢ [])
    (if is_ascii_alphabetic c || eqb c 95 then list_all is_label_byte rest else false) (Ok (c ∷ rest)) (λ is e. absurd (cc))

abbrev AreLabels : Text × Text → Type 0
AreLabels labels = (labels.0 ≢ []) × (labels.1 ≢ []) × (labels.0 ≢ labels.1)

two-differ : (start end : Text) → start ≢ [] → end ≢ [] → IfOk (two_labels start end) AreLabels
two-differ start end here there = kept_out AreLabels (bytes_eq start end) (Ok (start, end))
    (λ other. (here, there, λ same. true≢false (sym ((bytes_eq-Decides start end).1 same) ∙ other)))

labels-differ : (first last : Option Text) → IfOk (labels_of first last) AreLabels
unfolding labels_of
labels-differ first last =
    step (λ (label : Text). label ≢ []) AreLabels (label_or (codes "slothy_start") first) _ (label-there (codes "slothy_start") first (λ e. absurd (cc)))
    (λ start here. step (λ (label : Text). label ≢ []) AreLabels (label_or (codes "slothy_end") last) _ (label-there (codes "slothy_end") last (λ e. absurd (cc)))
    (λ end there. two-differ start end here there))

-- ---- registers

live-listed : (arch : ArchName) (word : Option Text) → IfOk (live_of arch word) (λ live. IfSome live IsListedSet)
unfolding live_of
live-listed arch None = tt
live-listed arch (Some word) = step IsListedSet (λ (live : Option RegSet). IfSome live IsListedSet) (register_set arch word) _ (list-listed arch word) (λ set is. is)

free-listed : (arch : ArchName) (word : Option Text) → IfOk (free_of arch word) IsListedSet
unfolding free_of
free-listed arch None = none-listed
free-listed arch (Some word) = list-listed arch word

-- ---- modes

-- what a mode has that suits it
abbrev HasNeeds : (Text → Option Text) → Mode → Type 0
HasNeeds look mode = (is_some (look (codes "core")) ≡ needs_core mode) × (is_some (look (codes "state")) ≡ not (needs_core mode))

-- what a mode makes of one of all options
option-kept : (look : Text → Option Text) (mode : Mode) (name : Text) (found : OptionLine) → find (λ line. bytes_eq line.name name) option_lines ≡ Some found
    → suits mode look ≡ true → keeps (use_by mode found) (is_some (look found.name)) ≡ true
unfolding suits option_lines
option-kept look mode name found is e =
    found-all (λ line. bytes_eq line.name name) (λ line. keeps (use_by mode line) (is_some (look line.name))) option_lines found e is

needs-met : (look : Text → Option Text) (mode : Mode) → suits mode look ≡ true → HasNeeds look mode
unfolding option_lines
needs-met look mode e = go mode
    (option-kept look mode (codes "core") (line (codes "core") Required Required Refused Required) refl e)
    (option-kept look mode (codes "state") (line (codes "state") Refused Refused Required Refused) refl e)
  where
    go : (mode : Mode) → keeps (use_by mode (line (codes "core") Required Required Refused Required)) (is_some (look (codes "core"))) ≡ true
        → keeps (use_by mode (line (codes "state") Refused Refused Required Refused)) (is_some (look (codes "state"))) ≡ true → HasNeeds look mode
    go Cost core state = (core, not-true (is_some (look (codes "state"))) state)
    go Opt core state = (core, not-true (is_some (look (codes "state"))) state)
    go Run core state = (not-true (is_some (look (codes "core"))) core, state)
    go Demo core state = (core, not-true (is_some (look (codes "state"))) state)

mode-needs : (look : Text → Option Text) → IfOk (mode_by look) (HasNeeds look)
unfolding mode_by suited
mode-needs look =
    step (λ (mode : Mode). Unit {0}) (HasNeeds look) (mode_of (look (codes "MODE"))) _ (anything (mode_of (look (codes "MODE"))))
    (λ mode any. let_through (HasNeeds look) (suits mode look) (Ok mode) (needs-met look mode))

-- ---- all of it

abbrev AreFiles : (Text → Option Text) → Text × Option CoreWord × Option Text → Type 0
AreFiles look files = (files.0 ≢ []) × IsAsked IsWholeCore (look (codes "core")) files.1 × IsAsked (λ name. name ≢ []) (look (codes "state")) files.2

files-whole : (mode : Mode) (look : Text → Option Text) → IfOk (files_by mode look) (AreFiles look)
unfolding files_by
files-whole mode look =
    step (λ (input : Text). input ≢ []) (AreFiles look) (input_of mode (look (codes "INPUT"))) _ (input-there mode (look (codes "INPUT")))
    (λ input there. step (IsAsked IsWholeCore (look (codes "core"))) (AreFiles look) (core_of (look (codes "core"))) _ (core-asked (look (codes "core")))
    (λ core is. step (IsAsked (λ (name : Text). name ≢ []) (look (codes "state"))) (AreFiles look) (state_of (look (codes "state"))) _ (state-asked (look (codes "state")))
    (λ state of. (there, is, of))))

abbrev AreSets : Option RegSet × RegSet → Type 0
AreSets sets = IfSome sets.0 IsListedSet × IsListedSet sets.1

registers-whole : (arch : ArchName) (look : Text → Option Text) → IfOk (registers_by arch look) AreSets
unfolding registers_by
registers-whole arch look =
    step (λ (live : Option RegSet). IfSome live IsListedSet) AreSets (live_of arch (look (codes "live"))) _ (live-listed arch (look (codes "live")))
    (λ live is. step IsListedSet AreSets (free_of arch (look (codes "free"))) _ (free-listed arch (look (codes "free"))) (λ free of. (is, of)))

abbrev AreNumbers : ℕ × ℕ × ℕ × ℕ → Type 0
AreNumbers numbers = (numbers.0 ≤ MOST_STALLS) × (numbers.1 ≤ MOST_BUDGET) × IsBetween 1 MOST_WORKERS numbers.2 × (numbers.3 ≤ TURNS)

numbers-whole : (look : Text → Option Text) → IfOk (numbers_by look) AreNumbers
unfolding numbers_by
numbers-whole look =
    step (λ (n : ℕ). n ≤ MOST_STALLS) AreNumbers (number_or 0 STALLS MOST_STALLS (look (codes "max-stalls"))) _ (number-most 0 STALLS MOST_STALLS (look (codes "max-stalls")) (omega arith))
    (λ stalls few. step (λ (n : ℕ). n ≤ MOST_BUDGET) AreNumbers (number_or 1 BUDGET_UNSAID MOST_BUDGET (look (codes "budget"))) _ (number-most 1 BUDGET_UNSAID MOST_BUDGET (look (codes "budget")) (omega arith))
    (λ budget some. step (IsBetween 1 MOST_WORKERS) AreNumbers (number_or 1 1 MOST_WORKERS (look (codes "workers"))) _ (number-ranged 1 1 MOST_WORKERS (look (codes "workers")) (omega arith) (omega arith))
    (λ workers ranged. step (λ (n : ℕ). n ≤ TURNS) AreNumbers (number_or 0 TURNS_UNSAID TURNS (look (codes "turns"))) _ (number-most 0 TURNS_UNSAID TURNS (look (codes "turns")) (omega arith))
    (λ turns less. (few, some, ranged, less)))))

kernel-whole : (look : Text → Option Text) → IfOk (kernel_by look) (λ kernel. kernel.1 ≤ MOST_COUNT)
unfolding kernel_by
kernel-whole look =
    step (λ (n : ℕ). n ≤ 2 ^ 64 - 1) (λ (kernel : ℕ × ℕ). kernel.1 ≤ MOST_COUNT) (number_or 0 0 (2 ^ 64 - 1) (look (codes "key"))) _ (number-most 0 0 (2 ^ 64 - 1) (look (codes "key")) (omega arith))
    (λ key less. step (λ (n : ℕ). n ≤ MOST_COUNT) (λ (kernel : ℕ × ℕ). kernel.1 ≤ MOST_COUNT) (number_or 1 1 MOST_COUNT (look (codes "count"))) _ (number-most 1 1 MOST_COUNT (look (codes "count")) (omega arith))
    (λ count few. few))

-- what is asked for is whole
pub options-whole : (look : Text → Option Text) → IfOk (options_of look) IsWhole
unfolding options_of
options-whole look =
    step (HasNeeds look) IsWhole (mode_by look) _ (mode-needs look)
    (λ mode needs. step (λ (arch : ArchName). Unit {0}) IsWhole (architecture mode (look (codes "arch"))) _ (anything (architecture mode (look (codes "arch"))))
    (λ arch any. step (AreFiles look) IsWhole (files_by mode look) _ (files-whole mode look)
    (λ files named. step AreLabels IsWhole (labels_of (look (codes "start")) (look (codes "end"))) _ (labels-differ (look (codes "start")) (look (codes "end")))
    (λ labels differ. step AreSets IsWhole (registers_by arch look) _ (registers-whole arch look)
    (λ sets listed. step AreNumbers IsWhole (numbers_by look) _ (numbers-whole look)
    (λ numbers few. step (λ (kernel : ℕ × ℕ). kernel.1 ≤ MOST_COUNT) IsWhole (kernel_by look) _ (kernel-whole look)
    (λ kernel of. record {
      input = named.0;
      needed = named.1.0 ∙ needs.0;
      core = named.1.1;
      runs = named.2.0 ∙ needs.1;
      state = named.2.1;
      start = differ.0;
      end = differ.1;
      differ = differ.2;
      live = listed.0;
      free = listed.1;
      most = few.0;
      budget = few.1;
      workers = few.2;
      turns = few.3;
      count = of;
    })))))))
