-- What is read of the pieces of a printed region.
use Rattle.std.proofs.Common.{◌≡◌, ℕ, ◌+◌, ◌<◌, ◌≤◌, true, false, List, [], ◌∷◌, ◌++◌, length, codes, None, Some, Ok, refl, ap, sym, ◌∙◌, arith}
use Rattle.std.specs.List.{AllByRecursion}
use Rattle.sl_model.specs.declared.instruction.Instr.{Instr}
use Rattle.sl_model.specs.Exec.{has_access}
use Rattle.sl_isa.specs.Language.{Language, knows_words}
use Rattle.asm_reader.specs.declared.reasons.Wants.{Wants}
use Rattle.asm_reader.specs.Drafts.{Draft, longer, most_items, no_draft, with_remark}
use Rattle.asm_reader.specs.Entries.{Begun, Entry, Stated, Told, entries}
use Rattle.asm_reader.specs.Notes.{of_region, note_said}
use Rattle.asm_reader.specs.Reading.{Progress, with_statement, no_progress, right_note, standing, with_entries, with_entry, wordless}
use Rattle.sl_model.specs.ResultSteps.{◌>>=◌}
use Rattle.asm_reader.specs.Statements as stating
use Rattle.macro_expand.specs.Words.{words}
use Rattle.macro_expand.specs.Source.{Row, Statement, Note, Piece, on_line}
use Rattle.asm_printer.proofs.ForCallers.{IsNoted, drafted, head_added, headed, item_counted, plain_read, statement_added}
use Rattle.asm_printer.specs.Lines.{Printed}
use Rattle.in_place.proofs.Expanded.{given_pieces}
use Rattle.in_place.proofs.Rows.{item_pieces}

-- The words of a printed instruction are read as it.
pub record IsReadAgain (language : Language) (printed : Printed) : Type 0 where
  pub known : knows_words language [] (words printed.text) ≡ true
  pub read : language.reads [] (words printed.text) ≡ Ok printed.item

-- the entries of pieces

entries-of-row : (line : ℕ) (pieces : List Piece) → entries (on_line line Row ∷ pieces) ≡ Begun ∷ entries pieces
unfolding entries
entries-of-row line pieces = refl

entries-of-note : (line : ℕ) (note : List ℕ) (pieces : List Piece) → entries (on_line line (Note note) ∷ pieces) ≡ Told line note ∷ entries pieces
unfolding entries
entries-of-note line note pieces = refl

-- the statement of a line with its note
abbrev noted_statement : ℕ → List ℕ → List ℕ → stating.Statement
noted_statement line text note = record { line = line; words = words text; note = Some note }

entries-of-item : (line : ℕ) (text note : List ℕ) (pieces : List Piece)
    → entries (on_line line Row ∷ on_line line (Statement text) ∷ on_line line (Note note) ∷ pieces) ≡ Begun ∷ Stated (noted_statement line text note) ∷ entries pieces
unfolding entries
entries-of-item line text note pieces = refl

-- a draft that awaits no note is as it was where a row begins
anew-same : (draft : Draft) → draft.awaiting ≡ None → draft.invoked ≡ false → record draft { awaiting = None; invoked = false } ≡ draft
anew-same draft none free = ap (λ a. record draft { awaiting = a; invoked = false }) (sym none) ∙ ap (λ b. record draft { invoked = b }) (sym free)

module _ (language : Language) (wants : Wants) (some : (i : Instr) → language.reads [] [] ≡ Ok i → ⊥) where
  -- an entry that is read
  entry-read : (read more : Progress) (entry : Entry) (rest : List Entry) → with_entry language wants read entry ≡ Ok more → with_entries language wants read (entry ∷ rest) ≡ with_entries language wants more rest
  unfolding with_entries
  entry-read read more entry rest e = ap (λ r. r >>= λ d. with_entries language wants d rest) e

  none-entered : (read : Progress) → with_entries language wants read [] ≡ Ok read
  unfolding with_entries
  none-entered read = refl

  -- a statement, and a note that stands behind none
  stated-entry : (read : Progress) (statement : stating.Statement) → with_entry language wants read (Stated statement) ≡ with_statement language wants read statement
  unfolding with_entry
  stated-entry read statement = refl

  told-entry : (read : Progress) (line : ℕ) (note : List ℕ) → with_entry language wants read (Told line note) ≡ with_statement language wants read (wordless line note)
  unfolding with_entry
  told-entry read line note = refl

  begun-entry : (read : Progress) → with_entry language wants read Begun ≡ Ok (standing false read)
  unfolding with_entry
  begun-entry read = refl

  begun-plain : (draft : Draft) (rest : List Entry) → draft.awaiting ≡ None → draft.invoked ≡ false → with_entries language wants (plain_read draft) (Begun ∷ rest) ≡ with_entries language wants (plain_read draft) rest
  begun-plain draft rest none free =
      entry-read (plain_read draft) (standing false (plain_read draft)) Begun rest (begun-entry (plain_read draft))
      ∙ ap (λ (d : Draft). with_entries language wants (plain_read d) rest) (anew-same draft none free)

  stated-plain : (draft : Draft) (number : ℕ) (first : Printed) (rest : List Entry) (noted : IsNoted language.isa first) → IsReadAgain language first → length draft.items < most_items wants
      → with_entries language wants (plain_read draft) (Stated (noted_statement number first.text first.note) ∷ rest)
      ≡ with_entries language wants (plain_read (with_remark (longer (has_access (language.isa.info first.item.form)) number draft first.item) (noted.remark number))) rest
  stated-plain draft number first rest noted again room =
      let statement = noted_statement number first.text first.note in
      let next = plain_read (with_remark (longer (has_access (language.isa.info first.item.form)) number draft first.item) (noted.remark number)) in
      entry-read (plain_read draft) next (Stated statement) rest
      (stated-entry (plain_read draft) statement
      ∙ statement_added language wants some draft statement first.item (noted.remark number) again.known again.read (ap (right_note number) (noted.said number)) (noted.allowed number) room)

  pub items-entered : (number : ℕ) (draft : Draft) (printed : List Printed) (noted : AllByRecursion (IsNoted language.isa) printed) → AllByRecursion (IsReadAgain language) printed
      → draft.awaiting ≡ None → draft.invoked ≡ false → length draft.items + length printed ≤ most_items wants
      → with_entries language wants (plain_read draft) (entries (item_pieces number printed)) ≡ Ok (plain_read (drafted language.isa number draft printed noted))
  unfolding item_pieces entries drafted
  items-entered number draft [] noted again none free room = none-entered (plain_read draft)
  items-entered number draft (first ∷ more) noted again none free room =
      let behind = item_pieces (number + 1) more in
      let next : Draft = with_remark (longer (has_access (language.isa.info first.item.form)) number draft first.item) (noted.0.remark number) in
      let count = item_counted language.isa number draft first noted.0 in
      let here : length draft.items < most_items wants = omega arith in
      let fit : length next.items + length more ≤ most_items wants = omega (arith, count) in
      ap (with_entries language wants (plain_read draft)) (entries-of-item number first.text first.note behind)
      ∙ begun-plain draft (Stated (noted_statement number first.text first.note) ∷ entries behind) none free
      ∙ stated-plain draft number first (entries behind) noted.0 again.0 here
      ∙ items-entered (number + 1) next more noted.1 again.1 refl refl fit

  pub region-entered : (number mask : ℕ) (note : List ℕ) (printed : List Printed) (noted : AllByRecursion (IsNoted language.isa) printed) → AllByRecursion (IsReadAgain language) printed
      → note_said number (codes "region" ++ note) ≡ Some (of_region mask) → length printed ≤ most_items wants
      → with_entries language wants no_progress (entries (given_pieces number note printed)) ≡ Ok (plain_read (drafted language.isa (number + 1) (headed mask) printed noted))
  region-entered number mask note printed noted again says room =
      let behind = item_pieces (number + 1) printed in
      let statement = wordless number (codes "region" ++ note) in
      let fit : 0 + length printed ≤ most_items wants = omega arith in
      ap (with_entries language wants no_progress) (entries-of-row number (on_line number (Note (codes "region" ++ note)) ∷ behind) ∙ ap (λ es. Begun ∷ es) (entries-of-note number (codes "region" ++ note) behind))
      ∙ begun-plain no_draft (Told number (codes "region" ++ note) ∷ entries behind) refl refl
      ∙ entry-read no_progress (plain_read (headed mask)) (Told number (codes "region" ++ note)) (entries behind)
      (told-entry no_progress number (codes "region" ++ note)
      ∙ head_added language wants some no_draft statement mask refl refl (ap (right_note number) says))
      ∙ items-entered (number + 1) (headed mask) printed noted again refl refl fit
