-- The steps by which statements and lines are read.
use Rattle.std.proofs.Common.{◌≡◌, ℕ, ◌+◌, Bool, true, false, List, [], ◌∷◌, ◌++◌, Option, Result, Ok, Err, refl, ap, sym, ◌∙◌, subst}
use Rattle.sl_model.specs.declared.instruction.Instr.{Instr}
use Rattle.sl_model.specs.declared.text.Comments.{Comments}
use Rattle.sl_model.specs.Answers.{Refuses}
use Rattle.sl_model.specs.ResultSteps.{◌>>=◌}
use Rattle.sl_model.specs.Text.{without_end}
use Rattle.sl_model.specs.Token.{tokens, open_behind}
use Rattle.sl_isa.specs.Language.{Language}
use Rattle.asm_reader.specs.declared.reasons.Refusal.{Refusal}
use Rattle.asm_reader.specs.declared.reasons.ReadRefusal.{ReadRefusal}
use Rattle.asm_reader.specs.declared.reasons.ReadRefusal.TheVariants.{Refused, NoMemory}
use Rattle.asm_reader.specs.declared.reasons.Wants.{Wants}
use Rattle.asm_reader.specs.Notes.{Said}
use Rattle.asm_reader.specs.Entries.{Entry, Begun, Expanded, Stated, Told}
use Rattle.asm_reader.specs.Lines.{on_line, outside, statements_of}
use Rattle.asm_reader.specs.Statements.{Statement}
use Rattle.asm_reader.specs.Views.{refusal_of}
use Rattle.asm_reader.specs.Drafts.{Draft, with_parts}
use Rattle.asm_reader.specs.Reading.{Progress, instr_of, pairs_after, said_by, with_statement, with_statements, standing, wordless, with_entry, with_entries}
use Rattle.asm_reader.specs.DraftViews.{Leaves}

-- a step that fails ends all
pub refuses_all : {A B : Type 0} (failure : ReadRefusal) (step : Result A Refusal) (next : A → Result B Refusal) → Refuses (refusal_of failure) step → Refuses (refusal_of failure) (step >>= next)
refuses_all (Refused refusal) step next e = ap (λ r. r >>= next) e
refuses_all NoMemory step next e = tt

-- ---- statements, one after the other

module _ (language : Language) (wants : Wants) where
  -- no statements change nothing
  pub no_statements : (read : Progress) → with_statements language wants read [] ≡ Ok read
  unfolding with_statements
  no_statements read = refl

  -- a statement that is read
  pub statement_read : (read more : Progress) (statement : Statement) (statements : List Statement)
      → with_statement language wants read statement ≡ Ok more → with_statements language wants read (statement ∷ statements) ≡ with_statements language wants more statements
  unfolding with_statements
  statement_read read more statement statements e = ap (λ r. r >>= λ d. with_statements language wants d statements) e

  -- what holds of all statements behind what was read, holds behind an answer
  behind_answer : (r : Result Progress Refusal) (front back : List Statement)
      → ((d : Progress) → with_statements language wants d (front ++ back) ≡ (with_statements language wants d front >>= λ more. with_statements language wants more back))
      → (r >>= λ d. with_statements language wants d (front ++ back)) ≡ ((r >>= λ d. with_statements language wants d front) >>= λ d. with_statements language wants d back)
  behind_answer (Ok d) front back each = each d
  behind_answer (Err refusal) front back each = refl

  -- statements and then others
  pub statements_append : (read : Progress) (front back : List Statement)
      → with_statements language wants read (front ++ back) ≡ (with_statements language wants read front >>= λ more. with_statements language wants more back)
  unfolding with_statements
  statements_append read [] back = refl
  statements_append read (statement ∷ front) back = behind_answer (with_statement language wants read statement) front back (λ d. statements_append d front back)

module _ (language : Language) (wants : Wants) where
  -- ---- lines

  -- a line that is read
  pub line_read : (comments : Comments) (inside : Bool) (number : ℕ) (read more : Progress) (line : List ℕ) (lines : List (List ℕ))
      → with_statements language wants read (on_line number (outside inside (tokens comments inside (without_end line)))) ≡ Ok more
      → with_statements language wants read (statements_of comments inside number (line ∷ lines))
      ≡ with_statements language wants more (statements_of comments (open_behind inside (tokens comments inside (without_end line))) (number + 1) lines)
  unfolding statements_of
  line_read comments inside number read more line lines e =
      let behind = statements_of comments (open_behind inside (tokens comments inside (without_end line))) (number + 1) lines in
      statements_append language wants read (on_line number (outside inside (tokens comments inside (without_end line)))) behind
      ∙ ap (λ r. r >>= λ d. with_statements language wants d behind) e

  -- no lines change nothing
  pub no_lines_read : (comments : Comments) (inside : Bool) (number : ℕ) (read : Progress) → with_statements language wants read (statements_of comments inside number []) ≡ Ok read
  unfolding statements_of with_statements
  no_lines_read comments inside number read = refl

-- ---- entries, one after the other

module _ (language : Language) (wants : Wants) where
  -- no entries change nothing
  pub no_entries : (read : Progress) → with_entries language wants read [] ≡ Ok read
  unfolding with_entries
  no_entries read = refl

  -- what one entry adds
  pub entry_begun : (read : Progress) → with_entry language wants read Begun ≡ Ok (standing false read)
  unfolding with_entry
  entry_begun read = refl

  pub entry_expanded : (read : Progress) → with_entry language wants read Expanded ≡ Ok (standing true read)
  unfolding with_entry
  entry_expanded read = refl

  pub entry_stated : (read : Progress) (statement : Statement) → with_entry language wants read (Stated statement) ≡ with_statement language wants read statement
  unfolding with_entry
  entry_stated read statement = refl

  pub entry_told : (read : Progress) (line : ℕ) (note : List ℕ) → with_entry language wants read (Told line note) ≡ with_statement language wants read (wordless line note)
  unfolding with_entry
  entry_told read line note = refl

  -- an entry that is read
  pub entry_read : (read more : Progress) (entry : Entry) (entries : List Entry)
      → with_entry language wants read entry ≡ Ok more → with_entries language wants read (entry ∷ entries) ≡ with_entries language wants more entries
  unfolding with_entries
  entry_read read more entry entries e = ap (λ r. r >>= λ d. with_entries language wants d entries) e

  -- and one that fails
  pub entry_fails : (read : Progress) (entry : Entry) (more : List Entry) (failure : ReadRefusal)
      → Refuses (refusal_of failure) (with_entry language wants read entry) → Refuses (refusal_of failure) (with_entries language wants read (entry ∷ more))
  unfolding with_entries
  entry_fails read entry more failure e = refuses_all failure (with_entry language wants read entry) (λ next. with_entries language wants next more) e

-- ---- a statement

-- a draft with the names of the words of a statement
abbrev pub named_draft : Language → Progress → Statement → Draft → Progress
named_draft language read statement draft = record { draft = draft; pairs = pairs_after language read.pairs statement.words }

module _ (language : Language) (wants : Wants) (read : Progress) (statement : Statement) where
  -- its words are refused
  pub words_fail : (failure : ReadRefusal) → Refuses (refusal_of failure) (instr_of language read.pairs statement.line statement.words)
      → Refuses (refusal_of failure) (with_statement language wants read statement)
  unfolding with_statement
  words_fail failure e =
      refuses_all failure (instr_of language read.pairs statement.line statement.words)
      (λ instr. said_by statement.line statement.note >>= λ said. with_parts language.isa wants statement.line read.draft said instr >>= λ draft. Ok (named_draft language read statement draft)) e

  -- its words are read
  pub words_read : (instr : Option Instr) → instr_of language read.pairs statement.line statement.words ≡ Ok instr
      → with_statement language wants read statement
      ≡ (said_by statement.line statement.note >>= λ said. with_parts language.isa wants statement.line read.draft said instr >>= λ draft. Ok (named_draft language read statement draft))
  unfolding with_statement
  words_read instr e =
      ap (λ r. r >>= λ i. said_by statement.line statement.note >>= λ said. with_parts language.isa wants statement.line read.draft said i >>= λ draft. Ok (named_draft language read statement draft)) e

  -- its note is refused
  pub note_fails : (instr : Option Instr) (failure : ReadRefusal) → instr_of language read.pairs statement.line statement.words ≡ Ok instr
      → Refuses (refusal_of failure) (said_by statement.line statement.note) → Refuses (refusal_of failure) (with_statement language wants read statement)
  note_fails instr failure e refuses =
      subst (Refuses (refusal_of failure)) (sym (words_read instr e))
      (refuses_all failure (said_by statement.line statement.note) (λ said. with_parts language.isa wants statement.line read.draft said instr >>= λ draft. Ok (named_draft language read statement draft)) refuses)

  -- and both are read
  pub parts_read : (instr : Option Instr) (said : Option Said) → instr_of language read.pairs statement.line statement.words ≡ Ok instr → said_by statement.line statement.note ≡ Ok said
      → with_statement language wants read statement ≡ (with_parts language.isa wants statement.line read.draft said instr >>= λ draft. Ok (named_draft language read statement draft))
  parts_read instr said e f =
      words_read instr e ∙ ap (λ r. r >>= λ s. with_parts language.isa wants statement.line read.draft s instr >>= λ draft. Ok (named_draft language read statement draft)) f

  -- what they add to the draft is left, or refused
  pub parts_left : (instr : Option Instr) (said : Option Said) (new : Draft) → instr_of language read.pairs statement.line statement.words ≡ Ok instr → said_by statement.line statement.note ≡ Ok said
      → {X : Type 0} (result : Result X ReadRefusal) → Leaves result new (with_parts language.isa wants statement.line read.draft said instr)
      → Leaves result (named_draft language read statement new) (with_statement language wants read statement)
  parts_left instr said new e f (Ok x) left = parts_read instr said e f ∙ ap (λ r. r >>= λ draft. Ok (named_draft language read statement draft)) left
  parts_left instr said new e f (Err failure) left =
      subst (Refuses (refusal_of failure)) (sym (parts_read instr said e f))
      (refuses_all failure (with_parts language.isa wants statement.line read.draft said instr) (λ draft. Ok (named_draft language read statement draft)) left)
