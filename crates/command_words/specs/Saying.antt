-- What the words of a command say: which text of which name. Source: the long options of GNU's
-- getopt_long, without abbreviations. Here each option has one value, which doesn't begin with
-- `-` where it is a word of its own, and nothing is said twice.
use Rattle.std.specs.Prelude.{◌==◌, ◌&&◌, Bool, true, false, not, is_some, List, [], ◌∷◌, ◌++◌, codes, drop, Option, None, Some, Result, Ok, Err, if◌then◌else◌}
use Rattle.std.specs.List.{find, list_any, before_first, after_first}
use Rattle.std.specs.Option.{option_map}
use Rattle.std.specs.Str.{bytes_eq}
use Rattle.command_words.specs.Answer.{WrongUse, wrong_use}
use Rattle.command_words.specs.Table.{Text, option_names}

-- a name, and the text that is said of it
abbrev pub Saying : Type 0
Saying = Text × Text

-- Is a word an option: a mark `-` and more behind it? `-` alone is none.
abbrev pub is_option : Text → Bool
is_option [] = false
is_option (c ∷ []) = false
is_option (c ∷ d ∷ rest) = c == 45

-- what is behind the marks of `--name` or `--name=value`; `--` alone, and a word with one mark,
-- have none
abbrev pub behind_marks : Text → Option Text
behind_marks [] = None
behind_marks (c ∷ []) = None
behind_marks (c ∷ d ∷ []) = None
behind_marks (c ∷ d ∷ e ∷ rest) = if d == 45 then Some (e ∷ rest) else None

-- Is a name among some?
abbrev pub is_among : Text → List Text → Bool
is_among name = list_any (λ other. bytes_eq other name)

-- one thing more is said, before others
abbrev pub say : Text → Text → Option (List Saying) → Option (List Saying)
say name value = option_map (λ rest. (name, value) ∷ rest)

-- the words behind `--`: each is the text of its place
unfoldable pub placed : List Text → List Text → Option (List Saying)
placed places [] = Some []
placed [] (word ∷ words) = None
placed (place ∷ places) (word ∷ words) = say place word (placed places words)

-- the value of an option stands behind its first `=`; where it has none, the next word is it
abbrev pub valued : Bool → Text → (Option Text → Option (List Saying)) → Option (List Saying)
valued joined text next = let name = before_first (λ c. c == 61) text in
    if joined then say name (after_first (λ c. c == 61) text) (next None) else next (Some name)

-- an option that is one of the names
abbrev pub option_said : List Text → Option Text → (Option Text → Option (List Saying))
    → Option (List Saying)
option_said names None next = None
option_said names (Some text) next =
    if is_among (before_first (λ c. c == 61) text) names
    then valued (list_any (λ c. c == 61) text) text next
    else None

-- a word that is no option is the text of the next place
abbrev pub at_place : List Text → Text → (List Text → Option (List Saying)) → Option (List Saying)
at_place [] word next = None
at_place (place ∷ places) word next = say place word (next places)

-- What words say, in their order: words that are no options are the texts of the places, and each
-- option says its value. Where an option waits for its value, the next word is that, and is no
-- option. None where the words can't be read so.
unfoldable pub sayings : List Text → List Text → Option Text → List Text → Option (List Saying)
sayings names places waiting [] = if is_some waiting then None else Some []
sayings names places (Some name) (word ∷ words) =
    if is_option word then None else say name word (sayings names places None words)
sayings names places None (word ∷ words) =
    if is_option word
    then (if bytes_eq word (codes "--") then placed places words
    else option_said names (behind_marks word) (λ waiting. sayings names places waiting words))
    else at_place places word (λ left. sayings names left None words)

-- Is something said of a name?
abbrev pub is_said : Text → List Saying → Bool
is_said name = list_any (λ s. bytes_eq s.0 name)

-- Is each name new to what is said before it?
unfoldable pub all_new : List Saying → List Saying → Bool
all_new before [] = true
all_new before (s ∷ rest) = not (is_said s.0 before) && all_new (before ++ s ∷ []) rest

-- the same, where nothing is said twice
abbrev pub once : Option (List Saying) → Option (List Saying)
once None = None
once (Some s) = if all_new [] s then Some s else None

-- the text that is said of a name
abbrev pub text_of : List Saying → Text → Option Text
text_of s name = option_map (λ p. p.1) (find (λ p. bytes_eq p.0 name) s)

-- the places of words that are no options
abbrev pub places : List Text
places = codes "MODE" ∷ codes "INPUT" ∷ []

-- the text of each name, where the words are right
abbrev pub texts_of : Option (List Saying) → Result (Text → Option Text) WrongUse
texts_of None = Err wrong_use
texts_of (Some s) = Ok (text_of s)

-- what the words say of each name; the first word is the program's name
unfoldable pub said_by : List Text → Result (Text → Option Text) WrongUse
said_by words = texts_of (once (sayings option_names places None (drop 1 words)))
